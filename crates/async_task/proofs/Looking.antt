-- What a poll of a handle has found, by what its last look left to be done.
use Rattle.std.proofs.Common.{◌≡◌, ◌⊎◌, inl, inr, Bool, true, false, refl, sym, ap, ◌∙◌, subst}
use Rattle.std.specs.Prelude.{Option, Some, None, Result, Ok, Err, MatchOption, MatchResult, is_some, is_ok, not}
use Rattle.std.proofs.lemmas.Bool.{false≢true}
use Rattle.task_moves.specs.declared.moves.state.State.{State}
use Rattle.task_moves.specs.declared.moves.owed.Answer.{Answer}
use Rattle.task_moves.specs.declared.moves.owed.Answer.TheVariants.{Pending, Closed, Output}
use Rattle.task_moves.specs.declared.moves.owed.AwaiterDebt.TheVariants.{NotifyOther}
use Rattle.task_moves.specs.declared.moves.owed.Moved.{Moved}
use Rattle.task_moves.specs.declared.moves.owed.Owed.{Owed}
use Rattle.task_moves.specs.Moves as moves
use Rattle.task_moves.specs.Moves.{poll_by, look_again_by, is_going}
use Rattle.task_word.specs.Given.{is_given}
use Rattle.task_word.specs.Handles.{IsHandleOf}
use Rattle.task_word.specs.Tokens.{Shows, Owes}
use Rattle.task_word.specs.declared.cell.Cell.{Cell}
use Rattle.task_word.specs.declared.tokens.Task.{Task}
use Rattle.task_word.specs.declared.tokens.claim.Claim.{Claim}
use Rattle.task_word.specs.declared.tokens.handles.OwingTask.{OwingTask}
use Rattle.async_task.specs.Polls.{found_by, look_by, CallsAwaiter, FoundAt, IsTold}
use Rattle.async_task.specs.declared.polling.Found.{Found}

-- what a look may answer, and whether the awaiter has to be woken then
abbrev pub Asked : Owed → Type 0
Asked owed = ((owed.answer ≡ None) × (owed.awaiter ≡ None)) ⊎ ((owed.answer ≡ Some Pending) × (owed.awaiter ≡ None))
    ⊎ ((owed.answer ≡ Some Closed) × (owed.awaiter ≡ Some NotifyOther)) ⊎ (owed.answer ≡ Some Output)

polling : (x g c : Bool) (s : State) → Asked (poll_by x g c s).owed
polling true true c s = inl (refl, refl)
polling true false c s = inr (inr (inl (refl, refl)))
polling false g false s = inl (refl, refl)
polling false g true s = inr (inr (inr refl))

looking : (x g c : Bool) (s : State) → Asked (look_again_by x g c s).owed
looking true true c s = inr (inl (refl, refl))
looking true false c s = inr (inr (inl (refl, refl)))
looking false g false s = inr (inl (refl, refl))
looking false g true s = inr (inr (inr refl))

asked : (is_first : Bool) (s : State) → Asked (look_by is_first s).owed
asked true s = polling s.closed (is_going s) s.completed s
asked false s = looking s.closed (is_going s) s.completed s

asked_by : (is_first : Bool) (owed : Owed) → Owes (look_by is_first) owed → Asked owed
asked_by is_first owed o = subst Asked (sym o.1) (asked is_first o.0)

answering : (x g c : Bool) (s : State) → is_some (look_again_by x g c s).owed.answer ≡ true
answering true true c s = refl
answering true false c s = refl
answering false g false s = refl
answering false g true s = refl

-- the second look has an answer always
answers_again : (owed : Owed) → Owes moves.look_again owed → is_some owed.answer ≡ true
answers_again owed o = ap (λ (z : Owed). is_some z.answer) o.1 ∙ answering o.0.closed (is_going o.0) o.0.completed o.0

module _ {F T W : Type 0} where
  -- the handle shows the look
  abbrev pub Shown : (State → Moved) → Cell F T W → Owed → Result (Task F T W) (OwingTask F T W) → Type 0
  Shown move cell owed task =
      MatchResult task (λ t. Shows cell.board.shared move owed t.claim) (λ t. Shows cell.board.shared move owed t.task.claim)

  -- or it has given the output
  abbrev pub Came : (State → Moved) → Cell F T W → Owed → Option T → Result (Task F T W) (OwingTask F T W) → Type 0
  Came move cell owed output task = MatchOption output (Shown move cell owed task) (λ _. Owes move owed)

  -- a look after which the awaiter hasn't to be woken left the handle as it was
  unowing : (cell : Cell F T W) (is_first : Bool) (owed : Owed) (task : Result (Task F T W) (OwingTask F T W)) (claim : Claim)
      → Shown (look_by is_first) cell owed task → is_ok task ≡ not (is_some owed.awaiter) → IsTold task claim → owed.awaiter ≡ None
      → Shows cell.board.shared (look_by is_first) owed claim
  unowing cell is_first owed (Ok task) claim made calls is_told e =
      subst (λ (z : Claim). Shows cell.board.shared (look_by is_first) owed z) (sym is_told) made
  unowing cell is_first owed (Err owing) claim made calls is_told e = absurd (false≢true (calls ∙ ap (λ z. not (is_some z)) e))

  -- one after which it has to be woken is followed by that
  calling : (cell : Cell F T W) (is_first : Bool) (owed : Owed) (task : Result (Task F T W) (OwingTask F T W)) (claim : Claim)
      → Shown (look_by is_first) cell owed task → is_ok task ≡ not (is_some owed.awaiter) → IsHandleOf cell task → IsTold task claim
      → owed.awaiter ≡ Some NotifyOther → CallsAwaiter cell.board.shared claim
  calling cell is_first owed (Ok task) claim made calls same is_told e =
      absurd (false≢true (sym (calls ∙ ap (λ z. not (is_some z)) e)))
  calling cell is_first owed (Err owing) claim made calls same is_told e =
      subst (λ (z : Cell F T W). CallsAwaiter z.board.shared claim) same is_told

  by_answer : (cell : Cell F T W) (is_first : Bool) (owed : Owed) (task : Result (Task F T W) (OwingTask F T W)) (claim : Claim)
      → Shown (look_by is_first) cell owed task → is_ok task ≡ not (is_some owed.awaiter) → IsHandleOf cell task → IsTold task claim
      → is_some owed.answer ≡ true → false ≡ is_given owed.answer → Asked owed
      → FoundAt cell.board.shared claim (found_by {T = T} None owed.answer)
  by_answer cell is_first owed task claim made calls same is_told answers gives (inl e) =
      absurd (false≢true (ap is_some (sym e.0) ∙ answers))
  by_answer cell is_first owed task claim made calls same is_told answers gives (inr (inl e)) =
      subst (λ (z : Option Answer). FoundAt cell.board.shared claim (found_by {T = T} None z)) (sym e.0)
      (is_first, owed, unowing cell is_first owed task claim made calls is_told e.1, e.0)
  by_answer cell is_first owed task claim made calls same is_told answers gives (inr (inr (inl e))) =
      subst (λ (z : Option Answer). FoundAt cell.board.shared claim (found_by {T = T} None z)) (sym e.0)
      (calling cell is_first owed task claim made calls same is_told e.1)
  by_answer cell is_first owed task claim made calls same is_told answers gives (inr (inr (inr e))) =
      absurd (false≢true (gives ∙ ap is_given e))

  state_of : (cell : Cell F T W) (move : State → Moved) (owed : Owed) (task : Result (Task F T W) (OwingTask F T W))
      → Shown move cell owed task → Owes move owed
  state_of cell move owed (Ok task) made = (made.3.0, made.3.4)
  state_of cell move owed (Err owing) made = (made.3.0, made.3.4)

  owes : (cell : Cell F T W) (move : State → Moved) (owed : Owed) (task : Result (Task F T W) (OwingTask F T W)) (output : Option T)
      → Came move cell owed output task → Owes move owed
  owes cell move owed task (Some output) made = made
  owes cell move owed task None made = state_of cell move owed task made

  -- what is found where a look has an answer
  finds : (cell : Cell F T W) (is_first : Bool) (owed : Owed) (task : Result (Task F T W) (OwingTask F T W)) (output : Option T)
      (claim : Claim)
      → Came (look_by is_first) cell owed output task → is_some owed.answer ≡ true → is_some output ≡ is_given owed.answer
      → is_ok task ≡ not (is_some owed.awaiter) → IsHandleOf cell task → IsTold task claim
      → FoundAt cell.board.shared claim (found_by output owed.answer)
  finds cell is_first owed task (Some output) claim made answers gives calls same is_told = tt
  finds cell is_first owed task None claim made answers gives calls same is_told =
      by_answer cell is_first owed task claim made calls same is_told answers gives
      (asked_by is_first owed (state_of cell (look_by is_first) owed task made))

  -- the first look has one
  pub finds_at_once : (cell : Cell F T W) (owed : Owed) (task : Result (Task F T W) (OwingTask F T W)) (output : Option T)
      (claim : Claim) (found : Found T)
      → Came moves.poll cell owed output task → is_some owed.answer ≡ true → is_some output ≡ is_given owed.answer
      → is_ok task ≡ not (is_some owed.awaiter) → IsHandleOf cell task → IsTold task claim → found ≡ found_by output owed.answer
      → FoundAt cell.board.shared claim found
  finds_at_once cell owed task output claim found made answers gives calls same is_told is =
      subst (λ (z : Found T). FoundAt cell.board.shared claim z) (sym is)
      (finds cell true owed task output claim made answers gives calls same is_told)

  -- the second look
  pub finds_again : (cell : Cell F T W) (owed : Owed) (task : Result (Task F T W) (OwingTask F T W)) (output : Option T)
      (claim : Claim) (found : Found T)
      → Came moves.look_again cell owed output task → is_some output ≡ is_given owed.answer
      → is_ok task ≡ not (is_some owed.awaiter) → IsHandleOf cell task → IsTold task claim → found ≡ found_by output owed.answer
      → FoundAt cell.board.shared claim found
  finds_again cell owed task output claim found made gives calls same is_told is =
      subst (λ (z : Found T). FoundAt cell.board.shared claim z) (sym is)
      (finds cell false owed task output claim made (answers_again owed (owes cell moves.look_again owed task output made))
      gives calls same is_told)
