-- The calls on the plain scheduler, and the ends of users' code in which they stand.
use Rattle.std.specs.Prelude.{ℕ, suc, nat_lt, Bool, true, false, if◌then◌else◌, List, [], ◌∷◌, ◌++◌, length, slice_get}
use Rattle.std.specs.Prelude.{filter, count_by, Option, None}
use Rattle.executor_parts.specs.declared.mark.Mark.{Mark}
use Rattle.executor_parts.specs.declared.mark.Mark.TheVariants.{Plain as PlainMark, Urgent}
use Rattle.task_moves.specs.AbstractTask as abstract
use Rattle.task_moves.specs.AbstractTask.{AbstractTask}
use Rattle.plain_scheduler.specs.State.{Future, ATick, ARun, Taker, Try, Tick, Run, Closed, Gave, Code, Poll, Drop}
use Rattle.plain_scheduler.specs.State.{Lose, PollOwn, DropOwn, Close, Drops, Made, Full, NoMemory, Yes, No, Pending, Ready}
use Rattle.plain_scheduler.specs.State.{Gives, Cancelled, Finished, Done, Refusal, Granted, Choice, Plain}
use Rattle.plain_scheduler.specs.Lists.{repeat, each, on, or}
use Rattle.plain_scheduler.specs.Moves.{is_common, is_kept, see, answers, enters, task, put, changed, appended, runs, given_back}
use Rattle.plain_scheduler.specs.Moves as moves
use Rattle.plain_scheduler.specs.Takes as takes

pub data Call (T A : Type 0) : Type 0 where
  Spawn : Mark → Call T A
  TryTick : Call T A
  IsEmpty : Call T A
  -- of a future's waker: by reference, by value, a copy, its drop
  Wake : ℕ → Call T A
  Use : ℕ → Call T A
  Copy : ℕ → Call T A
  Release : ℕ → Call T A
  -- of a future's handle
  PollHandle : ℕ → A → Call T A
  Cancel : ℕ → Call T A
  Detach : ℕ → Call T A
  DropHandle : ℕ → Call T A
  NewTick : Call T A
  PollTick : ℕ → A → Call T A
  DropTick : ℕ → Call T A
  NewRun : Call T A
  PollRun : ℕ → A → Call T A
  DropRun : ℕ → Call T A
  Leak : Call T A
  DropExecutor : Call T A
  -- the innermost user's code ends: a poll with Pending or with an output, or a drop
  Pends : Call T A
  EndsWith : T → Call T A
  Ends : Call T A

abbrev pub is_granted : Refusal → Bool
is_granted Granted = true
is_granted _ = false

-- the numbers of the futures that aren't dropped, in the order of spawning
abbrev pub living_from : {T A : Type 0} → ℕ → List (Future T A) → List ℕ
living_from n [] = []
living_from n (f ∷ fs) = if f.is_dropped then living_from (suc n) fs else n ∷ living_from (suc n) fs

abbrev pub is_none : {B : Type 0} → List B → Bool
is_none [] = true
is_none _ = false

module _ {T A : Type 0} (wakes : A → Option ℕ) (c : Choice) where
  abbrev tell : Plain T A → Plain T A
  tell p = moves.tell wakes c p

  abbrev living : Plain T A → List ℕ
  living p = living_from 0 p.futures

  abbrev becomes : ℕ → AbstractTask T A → Plain T A → Plain T A
  becomes f new p = moves.becomes wakes tell f new p

  abbrev granted : (Plain T A → Plain T A) → Plain T A → Plain T A
  granted does p = if is_granted c.refusal then does p else answers NoMemory p

  -- `Full` at the limit, else the future is appended without a keeper; tell. A scheduler that isn't static holds a waker of it
  abbrev pub entered : Mark → Plain T A → Plain T A
  entered mark p =
      record p {
        futures = p.futures ++ record {
          task = abstract.spawned (if p.is_static then 0 else 1);
          mark = mark;
          is_dropped = false;
        } ∷ [];
      }

  abbrev pub spawn : Mark → Plain T A → Plain T A
  spawn mark p =
      if nat_lt (length (living p)) p.limit
      then granted (λ p. answers Made (tell (appended (length p.futures) (entered mark p)))) p
      else answers Full p

  -- a poll of a handle: its output, once; cancelled; or its waker becomes the awaiter
  abbrev pub registered : ℕ → A → Plain T A → Plain T A
  registered f w p =
      let left = abstract.poll w (task f p) in
      answers Pending (on left.let_go (moves.let_go wakes tell) (put f left.task p))

  abbrev pub handle_by : ℕ → A → abstract.Polled T → Plain T A → Plain T A
  handle_by f w (abstract.Polled.Output v) p = answers (Gives v) (put f (abstract.poll w (task f p)).task p)
  handle_by f w abstract.Polled.Cancelled p = answers Cancelled p
  handle_by f w abstract.Polled.Waits p =
      granted (λ p. registered f w (moves.copied wakes w p)) p

  abbrev pub cancel : ℕ → Plain T A → Plain T A
  cancel f p =
      let left = abstract.cancel (task f p) in
      on left.called (moves.called wakes tell) (becomes f left.task p)

  -- an output that is kept is dropped
  abbrev pub detach : ℕ → Plain T A → Plain T A
  detach f p =
      let left = abstract.detach (task f p) in
      takes.ended wakes c f (record left { task = task f (becomes f left.task p) }) None (becomes f left.task p)

  -- a run that goes: those that it keeps are appended, in order, without a keeper, and each tells
  abbrev pub gone : ℕ → Plain T A → Plain T A
  gone r p =
      let q = runs (λ run. record run { is_over = true }) r p in
      moves.leaves wakes c (ARun r) (repeat (count_by (is_kept r) p.due) (λ p. tell (given_back r p)) q)

  -- each future that isn't dropped is appended, if it is idle, and the scheduler's waker given up, which queues nothing
  abbrev pub freed : ℕ → Plain T A → Plain T A
  freed f p = moves.release wakes tell f (moves.wake wakes tell f p)

  abbrev pub leak : Plain T A → Plain T A
  leak p = each (living p) freed (record p { is_static = true })

  -- the executor's drop: each future is dropped, in the order of spawning; then those that await them are called
  abbrev pub closed : ℕ → Plain T A → Plain T A
  closed f p =
      let left = abstract.drop_runnable (task f p) in
      on left.called (moves.called wakes tell) (put f left.task p)

  abbrev pub swept : Plain T A → Plain T A
  swept p =
      each (filter (is_common Urgent) p.due ++ filter (is_common PlainMark) p.due) (λ d. closed d.future) (record p { due = [] })

  abbrev pub close : List ℕ → List ℕ → Plain T A → Plain T A
  close [] all p = answers Done (swept (each all freed p))
  close (f ∷ fs) all p =
      enters (Close fs all) (see (Drops f) (changed (λ future. record future { is_dropped = true }) f p))

  -- the end of a poll with Pending, of one with an output, and of a drop
  abbrev pub pending_by : abstract.PendingEnd → ℕ → Taker A → Plain T A → Plain T A
  pending_by abstract.PendingEnd.Drops f by p = takes.dropping wakes c f Closed by p
  pending_by abstract.PendingEnd.Forgets f by p =
      takes.dropping wakes c f Closed by (put f (record (task f p) { phase = abstract.Phase.Finished; closed = true }) p)
  pending_by _ f by p = takes.next wakes c by (becomes f (abstract.end_pending (task f p)).task p)

  abbrev pub pends : Code T A → Plain T A → Plain T A
  pends (Poll f by) p = pending_by (abstract.pending_end (task f p)) f by p
  pends (PollOwn r w) p = takes.take wakes c (Run r w) p
  pends _ p = p

  abbrev pub gives : T → Code T A → Plain T A → Plain T A
  gives v (Poll f by) p = takes.dropping wakes c f (Gave v) by p
  gives v (PollOwn r w) p = enters (DropOwn r Ready) p
  gives v _ p = p

  abbrev pub ends : Code T A → Plain T A → Plain T A
  ends (Drop f end by) p = takes.dropped wakes c f end by p
  ends (Lose awaiter by) p = takes.lost wakes c awaiter by p
  ends (DropOwn r answer) p = answers answer (gone r p)
  ends (Close fs all) p = close fs all p
  ends _ p = p

  abbrev pub innermost : List (Code T A) → (Code T A → Plain T A → Plain T A) → Plain T A → Plain T A
  innermost [] end p = p
  innermost (code ∷ rest) end p = end code (record p { inside = rest })

  abbrev is_over : ℕ → Plain T A → Bool
  is_over r p = or (slice_get p.runs r) (λ run. run.is_over) true

  abbrev pub does : Call T A → Plain T A → Plain T A
  does (Spawn mark) p = spawn mark p
  does TryTick p = takes.take wakes c Try p
  does IsEmpty p = answers (if is_none (living p) then Yes else No) p
  does (Wake f) p = answers Done (moves.wake wakes tell f p)
  does (Use f) p = answers Done (moves.used wakes tell f p)
  does (Copy f) p = granted (λ p. answers Made (put f (abstract.copy (task f p)) p)) p
  does (Release f) p = answers Done (moves.release wakes tell f p)
  does (PollHandle f w) p = handle_by f w (abstract.polled (task f p)) p
  does (Cancel f) p = answers Done (cancel f p)
  does (Detach f) p = detach f p
  does (DropHandle f) p = detach f (cancel f p)
  does NewTick p = granted (answers Made) p
  does (PollTick t w) p = takes.take wakes c (Tick t w) p
  does (DropTick t) p = answers Done (moves.leaves wakes c (ATick t) p)
  does NewRun p = granted (λ p. answers Made (record p { runs = p.runs ++ record { taken = 0; is_over = false } ∷ [] })) p
  does (PollRun r w) p = if is_over r p then answers Finished p else enters (PollOwn r w) p
  does (DropRun r) p = if is_over r p then answers Done p else enters (DropOwn r Done) p
  does Leak p = answers Done (leak p)
  does DropExecutor p = close (living p) (living p) p
  does Pends p = innermost p.inside pends p
  does (EndsWith v) p = innermost p.inside (gives v) p
  does Ends p = innermost p.inside ends p

-- the calls one after the other, each with its choice
abbrev pub course : {T A : Type 0} → (A → Option ℕ) → List (Choice × Call T A) → Plain T A → Plain T A
course wakes [] p = p
course wakes (c ∷ cs) p = course wakes cs (does wakes c.0 c.1 p)

abbrev pub new : {T A : Type 0} → ℕ → Bool → Plain T A
new limit is_static =
    record { limit = limit; is_static = is_static; futures = []; due = []; lying = []; runs = []; inside = []; events = [] }
