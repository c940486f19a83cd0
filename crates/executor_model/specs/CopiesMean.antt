-- How kept wakers come and go: by a copy that is made, by a wake that uses its waker up, and by letting one go.
use Rattle.std.specs.Prelude.{◌≡◌, ◌⊎◌, ℕ, suc, ◌+◌, ◌<◌, ◌≤◌, ◌==◌, Bool, true, false, Some, None, List, [], ◌∷◌, ◌++◌}
use Rattle.std.specs.Prelude.{slice_set}
use Rattle.task_moves.specs.Moves.{is_last, most_references}
use Rattle.task_moves.specs.declared.moves.owed.Move.TheVariants as move
use Rattle.executor_model.specs.declared.call.Call.{Call}
use Rattle.executor_model.specs.declared.call.Call.TheVariants as call
use Rattle.executor_model.specs.declared.call.Reply.TheVariants.{Made, NoMemory}
use Rattle.executor_model.specs.declared.op.Op.TheVariants as op
use Rattle.executor_model.specs.declared.step.Hint.{Hint}
use Rattle.executor_model.specs.declared.step.Step.{Step}
use Rattle.executor_model.specs.declared.step.Step.TheVariants.{Begin, Go}
use Rattle.executor_model.specs.Calls.{Begun, calls}
use Rattle.executor_model.specs.SpawnWants.{Answers, is_refused}
use Rattle.executor_model.specs.Steps.{Machine, refusal, stack, step, stepped, top}
use Rattle.executor_model.specs.Trace.{Trace}
use Rattle.executor_model.specs.World.{World, put, task}

abbrev pub is_copy : Call → Bool
is_copy (call.Copy k) = true
is_copy call.Keep = true
is_copy _ = false

-- the innermost call of party p that is in progress is a copy of a waker
pub record IsCopying (p : ℕ) (trace : Trace) : Type 0 where
  pub call : Call
  pub copies : is_copy call ≡ true
  pub own : Trace
  pub outer : List Begun
  pub is : (calls p trace).begun ≡ record { call = call; own = own } ∷ outer

-- one more waker is kept, behind the others, and its task has one more reference, of which it had fewer than 2^40
pub record AddsOne (w v : World) : Type 0 where
  pub future : ℕ
  pub few : (task w future).references < most_references
  pub wakers : v.wakers ≡ w.wakers ++ Some future ∷ []
  pub tasks : v.tasks ≡ (put w future (record (task w future) { references = (task w future).references + 1 })).tasks

-- nothing is kept and no task changes, and memory was refused or a task has 2^40 references
pub record AddsNone (refused : Bool) (w v : World) : Type 0 where
  pub wakers : v.wakers ≡ w.wakers
  pub tasks : v.tasks ≡ w.tasks
  pub cause : (refused ≡ true) ⊎ ((f : ℕ) × (most_references ≤ (task w f).references))

-- this call uses waker k up: it calls it, or lets it go
abbrev pub uses_up : ℕ → Call → Bool
uses_up k (call.Wake j) = k == j
uses_up k (call.DropWaker j) = k == j
uses_up k _ = false

-- such a call of some waker begins
abbrev pub begins_use : Step → Bool
begins_use (Begin p (call.Wake k)) = true
begins_use (Begin p (call.DropWaker k)) = true
begins_use _ = false

-- a step that answers a copy so adds one, and one that refuses it none; a call that uses a waker up takes that out as it
-- begins, and leaves the others; and no other step changes which wakers are kept. A reference that is let go is one less,
-- unless it is the last of a task without handle
pub record CopiesAreCounted (s : Machine) : Type 0 where
  pub made : (p : ℕ) (t : Step) → IsCopying p s.world.trace → Answers s t p Made →
      AddsOne s.world (stepped s (step s t)).world
  pub refused : (p : ℕ) (t : Step) → IsCopying p s.world.trace → Answers s t p NoMemory →
      AddsNone (is_refused t) s.world (stepped s (step s t)).world
  pub used : (p k : ℕ) (c : Call) → uses_up k c ≡ true → refusal s (Begin p c) ≡ None →
      (stepped s (step s (Begin p c))).world.wakers ≡ slice_set s.world.wakers k None
  pub stays : (t : Step) → begins_use t ≡ false → ((p : ℕ) → IsCopying p s.world.trace → ¬ Answers s t p Made) →
      (stepped s (step s t)).world.wakers ≡ s.world.wakers
  pub released : (p f n : ℕ) (h : Hint) → top (stack s p) ≡ Some (op.Move move.Release f) →
      (task s.world f).references ≡ suc n → is_last (task s.world f) ≡ false →
      (task (stepped s (step s (Go p h))).world f).references ≡ n
