-- When an executor of one owner stands where the plain scheduler does: tasks, queues and sleepers are those of its lists.
use Rattle.std.specs.Prelude.{◌≡◌, ℕ, ◌+◌, ◌<◌, ◌≤◌, ◌==◌, Bool, true, false, ◌&&◌, ◌||◌, not, if◌then◌else◌, List, [], ◌∷◌, length, map}
use Rattle.std.specs.Prelude.{filter, find, slice_get, Option, Some, None, is_some}
use Rattle.queue_steps.specs.ClosableQueue.{most_accepted}
use Rattle.executor_parts.specs.Sleepers.{Sleepers}
use Rattle.executor_parts.specs.declared.mark.Mark.{Mark}
use Rattle.task_moves.specs.AbstractTask as abstract
use Rattle.task_moves.specs.AbstractTask.{AbstractTask}
use Rattle.solo.specs.declared.names.Task.{Task}
use Rattle.solo.specs.declared.names.SoloWaker.{SoloWaker}
use Rattle.solo.specs.declared.names.SoloWaker.TheVariants.{Task as OfTask, Outside}
use Rattle.solo.specs.declared.cells.Cells.{Cells}
use Rattle.solo.specs.declared.solo.Solo.{Solo}
use Rattle.solo.specs.Cells.{Kept, asked, may_start, is_lent, is_dropping}
use Rattle.task_moves.specs.LocalTask.{is_home, is_gone, is_dropping as is_being_dropped}
use Rattle.plain_scheduler.specs.Calls.{living_from}
use Rattle.executor_parts.specs.Marks.{other}
use Rattle.solo.specs.Lines.{LinesValue, line_of, mark_of_turn, searched, search_answer}
use Rattle.plain_scheduler.specs.State.{Due, Future, Who, Lying, Code, Poll, Drop, Lose, Closed, Gave, Plain}
use Rattle.plain_scheduler.specs.Lists.{any, without}
use Rattle.plain_scheduler.specs.Moves.{is_common, is_called, chosen, task}

module _ {X : Type 0} where
  -- which future a waker wakes: tasks are numbered as futures are
  abbrev pub wakes : SoloWaker X → Option ℕ
  wakes (OfTask task) = Some task.number
  wakes (Outside waker) = None

module _ {A : Type 0} where
  -- nobody lies, or one that lies was called
  abbrev pub is_told : List (Lying A) → Bool
  is_told [] = true
  is_told (l ∷ ls) = any is_called (l ∷ ls)

  abbrev pub first_if : Option A → List A → List A
  first_if None wakers = wakers
  first_if (Some waker) wakers = waker ∷ wakers

  -- the wakers of those that weren't called
  abbrev pub wakers_in : List (Lying A) → List A
  wakers_in [] = []
  wakers_in (l ∷ ls) = first_if l.waker (wakers_in ls)

  -- and these
  abbrev pub waiting : List (Lying A) → List Who
  waiting [] = []
  waiting (l ∷ ls) = if is_called l then waiting ls else l.who ∷ waiting ls

-- a task that is over, and that nobody can reach
pub record IsOver {T A : Type 0} (t : AbstractTask T A) : Type 0 where
  pub phase : t.phase ≡ abstract.Phase.Finished
  pub closed : t.closed ≡ true
  pub handle : t.handle ≡ false
  pub wakers : t.wakers ≡ 0
  pub output : t.output ≡ None
  pub awaiter : t.awaiter ≡ None
  pub infos : t.infos ≡ []

module _ {T A : Type 0} where
  -- nobody can wake it or ask for it, and it waits for a wake
  abbrev pub is_forgotten : AbstractTask T A → Bool
  is_forgotten t = abstract.is_idle t.phase && (not t.closed && (not t.handle && (t.wakers == 0)))

  -- it is over, and closed but for an output that is still to be given
  abbrev pub is_done : AbstractTask T A → Bool
  is_done t = abstract.is_over t.phase && (t.closed || is_some t.output)

module _ {T X : Type 0} where
  -- a task as it is kept is that of the future, and was told of each queueing; and where its future is fits
  pub record IsTaskOf (v : Kept T X) (f : Future T (SoloWaker X)) : Type 0 where
    pub task : v.task ≡ f.task
    pub mark : v.metadata ≡ f.mark
    pub told : f.task.infos ≡ []
    pub idle : abstract.is_idle f.task.phase ≡ true → is_home v.future ≡ true
    pub done : is_gone v.future ≡ true → is_done f.task ≡ true
    pub reached : is_forgotten f.task ≡ false
    pub there : is_home v.future ≡ true → f.is_dropped ≡ false
    pub closing : is_being_dropped v.future ≡ true → f.task.closed ≡ true

  -- where it is gone, that of the future is over
  abbrev pub TaskIs : Option (Kept T X) → Option (Future T (SoloWaker X)) → Type 0
  TaskIs (Some v) (Some f) = IsTaskOf v f
  TaskIs None (Some f) = IsOver f.task
  TaskIs _ None = ⊥

-- whether a future is due, and whether each is at most once
abbrev pub stands : ℕ → List Due → Bool
stands f due = any (λ d. f == d.future) due

abbrev pub once : List Due → Bool
once [] = true
once (d ∷ ds) = not (stands d.future ds) && once ds

abbrev pub due_task : (ℕ → Task) → Due → Task
due_task name d = name d.future

-- first at one mark, and then at the other
abbrev pub tests : Mark → List (Due → Bool)
tests m = is_common m ∷ is_common (other m) ∷ []

module _ (name : ℕ → Task) where
  -- the name of one of so many futures
  abbrev pub IsNamed : ℕ → Task → Type 0
  IsNamed many t = (t.number < many) × (name t.number ≡ t)

  abbrev pub due_task_if : Option Due → Option Task
  due_task_if None = None
  due_task_if (Some d) = Some (name d.future)

  -- the queues are what is due without a keeper
  abbrev pub Lined : LinesValue → List Due → Type 0
  Lined l due = (m : Mark) → (line_of m l).items ≡ map (due_task name) (filter (is_common m) due)

  -- a search finds what is taken, and the queues are what is due still
  abbrev pub SearchesAlike : LinesValue → List Due → Type 0
  SearchesAlike l due =
      let test = chosen (tests (mark_of_turn l.turn)) due in
      ((search_answer l).task ≡ due_task_if (find test due)) × Lined (searched l) (without test due)

-- the queues are what is due, open, and as long as the limit
pub record IsQueued (name : ℕ → Task) (most : ℕ) (l : LinesValue) (due : List Due) : Type 0 where
  pub lines : Lined name l due
  pub unclosed : (mark : Mark) → (line_of mark l).closed ≡ false
  pub limit : (mark : Mark) → (line_of mark l).capacity ≡ Some most

-- who sleeps is who lies; a task's waker is one of these many
pub record IsAsleep {X : Type 0} (name : ℕ → Task) (many : ℕ) (s : Sleepers (SoloWaker X)) (notified : Bool)
    (lying : List (Lying (SoloWaker X))) : Type 0 where
  pub wakers : map (λ e. e.1) s.wakers ≡ wakers_in lying
  pub count : s.count ≡ length lying
  pub flag : notified ≡ is_told lying
  pub callers : (at : ℕ) (t : Task) → slice_get (wakers_in lying) at ≡ Some (OfTask t) → IsNamed name many t

-- what is due, and one that was taken, if one was
abbrev pub beside : Option Due → List Due → List Due
beside None due = due
beside (Some d) due = d ∷ due

-- whether a number is one of these, and whether each is there once
abbrev pub is_in : ℕ → List ℕ → Bool
is_in f ns = any (λ n. f == n) ns

abbrev pub apart : List ℕ → Bool
apart [] = true
apart (n ∷ ns) = not (is_in n ns) && apart ns

module _ {T A : Type 0} where
  -- the future that a user's code has to poll, or to drop once it gave its output
  abbrev pub lent_in : Code T A → Option ℕ
  lent_in (Poll f by) = Some f
  lent_in (Drop f (Gave v) by) = Some f
  lent_in _ = None

  -- the one that it has to drop before it ended
  abbrev pub dropped_in : Code T A → Option ℕ
  dropped_in (Drop f Closed by) = Some f
  dropped_in _ = None

  -- who is called once an output is dropped
  abbrev pub awaiter_in : Code T A → Option A
  awaiter_in (Lose awaiter by) = awaiter
  awaiter_in _ = None

  abbrev pub lents : List (Code T A) → List ℕ
  lents [] = []
  lents (c ∷ cs) = first_if (lent_in c) (lents cs)

  abbrev pub drops : List (Code T A) → List ℕ
  drops [] = []
  drops (c ∷ cs) = first_if (dropped_in c) (drops cs)

  abbrev pub awaiters : List (Code T A) → List A
  awaiters [] = []
  awaiters (c ∷ cs) = first_if (awaiter_in c) (awaiters cs)

-- what users' codes have in hand is out of the executor, each once; a task's waker that is called after them is one of these many
pub record IsInside {T X : Type 0} (name : ℕ → Task) (many : ℕ) (s : Cells T X)
    (inside : List (Code T (SoloWaker X))) : Type 0 where
  pub lent : (f : ℕ) → is_in f (lents inside) ≡ true → (f < many) × (asked is_lent false (name f) s ≡ true)
  pub dropping : (f : ℕ) → is_in f (drops inside) ≡ true → (f < many) × (asked is_dropping false (name f) s ≡ true)
  pub lent_once : apart (lents inside) ≡ true
  pub dropping_once : apart (drops inside) ≡ true
  pub callers : (at : ℕ) (t : Task) → slice_get (awaiters inside) at ≡ Some (OfTask t) → IsNamed name many t

-- by the names that futures have in the executor, of which each has one of its own
pub record FollowsBut {F T X : Type 0} (aside : Option Due) (name : ℕ → Task) (s : Solo F T X)
    (p : Plain T (SoloWaker X)) : Type 0 where
  pub numbered : (f : ℕ) → f < length p.futures → (name f).number ≡ f
  pub tasks : (f : ℕ) → f < length p.futures → TaskIs (asked Some None (name f) s.cells) (slice_get p.futures f)
  pub within : length (living_from 0 p.futures) ≤ p.limit
  pub queued : IsQueued name p.limit s.lines p.due
  -- each is due once, and ready to be run
  pub once : once (beside aside p.due) ≡ true
  pub ready : (f : ℕ) → stands f (beside aside p.due) ≡ true → (f < length p.futures) ×
      (asked may_start false (name f) s.cells ≡ true)
  pub asleep : IsAsleep name (length p.futures) s.sleepers s.notified p.lying
  -- a task's waker that awaits a task is one of theirs
  pub awaiters : (f : ℕ) (t : Task) → (task f p).awaiter ≡ Some (OfTask t) → IsNamed name (length p.futures) t
  pub inside : IsInside name (length p.futures) s.cells p.inside

abbrev pub Follows : {F T X : Type 0} → (ℕ → Task) → Solo F T X → Plain T (SoloWaker X) → Type 0
Follows name s p = FollowsBut None name s p

-- how many tasks a queue has accepted, if it counts them
abbrev pub count_of : Option ℕ → ℕ
count_of None = 0
count_of (Some n) = n

-- so many more tasks are fewer than a queue accepts in its life
abbrev pub HasLife : ℕ → LinesValue → Type 0
HasLife more l = (mark : Mark) → count_of (line_of mark l).accepted + more ≤ most_accepted
