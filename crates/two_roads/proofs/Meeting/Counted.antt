-- A task of the plain scheduler has no more references than the machine's, and a copy that the machine grants may be had.
use Rattle.std.proofs.Common.{◌≡◌, ℕ, zero, suc, ◌+◌, ◌-◌, ◌^◌, ◌<◌, ◌≤◌, ◌==◌, ◌||◌, if◌then◌else◌, Bool, true, false, List, []}
use Rattle.std.proofs.Common.{◌∷◌}
use Rattle.std.proofs.Common.{Option, get_or, set, get_or-set_other, refl, sym, subst, ◌∙◌, arith}
use Rattle.task_moves.specs.declared.moves.owed.Answer.{Answer}
use Rattle.task_moves.specs.declared.moves.state.State.{State}
use Rattle.task_moves.specs.LocalTask.{phase_by, references_of, token_by}
use Rattle.task_moves.specs.Moves as moves
use Rattle.executor_model.specs.declared.op.Waker.{Waker}
use Rattle.executor_model.specs.World.{World, blank, put, task as task_of}
use Rattle.machine_roads.specs.Dropped.{without_run}
use Rattle.machine_roads.specs.Forgotten.{without_awaiter}
use Rattle.machine_roads.specs.InLoss.{without_handles}
use Rattle.machine_roads.specs.View.{view}
use Rattle.machine_roads.proofs.Lists.{apart_of, same_of}

-- what a poll of its handle is answered at once, if it is
abbrev pub answers_at_once : State → Option Answer
answers_at_once s = (moves.poll s).owed.answer

answer_by : (c g m : Bool) (s t : State) → (moves.poll_by c g m s).owed.answer ≡ (moves.poll_by c g m t).owed.answer
answer_by true true m s t = refl
answer_by true false m s t = refl
answer_by false g false s t = refl
answer_by false g true s t = refl

-- no more references, and the same answer
pub record IsLess (t u : State) : Type 0 where
  pub references : t.references ≤ u.references
  pub answers : answers_at_once t ≡ answers_at_once u

pub less_self : (t : State) → IsLess t t
less_self t = record { references = omega arith; answers = refl }

pub less_both : (t u v : State) → IsLess t u → IsLess u v → IsLess t v
less_both t u v one two = (let a = one.references in let b = two.references in record {
  references = omega (arith, a, b);
  answers = one.answers ∙ two.answers;
})

put_less : (w : World) (f g : ℕ) (new : State) → IsLess new (task_of w f) → IsLess (task_of (put w f new) g) (task_of w g)
put_less w f g new less = by (g == f) refl
  where
    past : (ts : List State) (f : ℕ) (new : State) → IsLess new (get_or ts f blank) → IsLess (get_or (set ts f new) f blank)
        (get_or ts f blank)
    past [] f new less = less_self blank
    past (t ∷ ts) zero new less = less
    past (t ∷ ts) (suc f) new less = past ts f new less

    by : (b : Bool) → (g == f) ≡ b → IsLess (task_of (put w f new) g) (task_of w g)
    by true here =
        subst (λ g. IsLess (task_of (put w f new) g) (task_of w g)) (sym (same_of g f here)) (past w.tasks f new less)
    by false apart =
        subst (λ t. IsLess t (task_of w g)) (sym (get_or-set_other w.tasks f g new blank (apart_of g f apart))) (less_self (task_of w g))

pub handles_less : (fs : List ℕ) (w : World) (g : ℕ) → IsLess (task_of (without_handles fs w) g) (task_of w g)
handles_less [] w g = less_self (task_of w g)
handles_less (f ∷ fs) w g =
    let v = without_handles fs w in
    let s = task_of v f in
    let t : State = record s { handle = false } in
    less_both (task_of (put v f t) g) (task_of v g) (task_of w g)
    (put_less v f g t (record { references = omega arith; answers = answer_by s.closed (moves.is_going s) s.completed t s }))
    (handles_less fs w g)

pub run_less : (f : ℕ) (w : World) (g : ℕ) → IsLess (task_of (without_run f w) g) (task_of w g)
run_less f w g =
    let s = task_of w f in
    let t : State = record s { references = s.references - 1; awaiter = false } in
    put_less w f g t (record { references = minus s.references; answers = answer_by s.closed (moves.is_going s) s.completed t s })
  where
    minus : (n : ℕ) → n - 1 ≤ n
    minus n = omega arith

pub awaiter_less : (f : ℕ) (w : World) (g : ℕ) → IsLess (task_of (without_awaiter f w) g) (task_of w g)
awaiter_less f w g =
    let s = task_of w f in
    let t : State = record s { awaiter = false } in
    put_less w f g t (record { references = omega arith; answers = answer_by s.closed (moves.is_going s) s.completed t s })

-- as the plain scheduler has it
few_one : (k : ℕ) → k < 2 ^ 40 → (k - 1) + 1 < 2 ^ 40
few_one k less = omega (arith, less)

few_none : (k t : ℕ) → k < 2 ^ 40 → (k - t) + 0 < 2 ^ 40
few_none k t less = omega (arith, less)

few_by : (c r s x : Bool) (k : ℕ) → k < 2 ^ 40 → (k - (if s || r then 1 else 0)) + token_by (phase_by c r s x) < 2 ^ 40
few_by true r s x k less = few_none k (if s || r then 1 else 0) less
few_by false true true x k less = few_one k less
few_by false true false x k less = few_one k less
few_by false false true x k less = few_one k less
few_by false false false true k less = few_none k 0 less
few_by false false false false k less = few_none k 0 less

pub few_view : (s : State) (w : Option Waker) → s.references < 2 ^ 40 → references_of (view s w) < 2 ^ 40
few_view s w less = few_by s.completed s.running s.scheduled s.closed s.references less
