-- Moves of a task that calls of wakers and handles make drop no future, and let no task wait that didn't before.
use Rattle.std.proofs.Common.{◌≡◌, ℕ, ◌==◌, ◌++◌, ◌&&◌, Bool, true, false, List, [], ◌∷◌}
use Rattle.std.proofs.Common.{Option, Some, None, refl, sym, ap, ◌∙◌}
use Rattle.task_moves.specs.declared.moves.owed.FutureDebt.{FutureDebt}
use Rattle.task_moves.specs.declared.moves.owed.Move.TheVariants as move
use Rattle.task_moves.specs.declared.moves.owed.Moved.{Moved}
use Rattle.task_moves.specs.declared.moves.owed.Owed.{Owed}
use Rattle.task_moves.specs.declared.moves.state.State.{State}
use Rattle.task_moves.specs.AbstractTask as abstract
use Rattle.task_moves.specs.LocalTask.{phase_of}
use Rattle.task_moves.specs.Moves as moves
use Rattle.executor_model.specs.declared.op.Awaiter.{Awaiter}
use Rattle.executor_model.specs.declared.op.Op.{Op}
use Rattle.executor_model.specs.declared.op.Op.TheVariants as op
use Rattle.executor_model.specs.declared.op.QueueOp.TheVariants as queue_op
use Rattle.executor_model.specs.declared.op.UserOp.TheVariants as user_op
use Rattle.executor_model.specs.declared.op.Waker.{Waker}
use Rattle.executor_model.specs.declared.op.Waker.TheVariants.{Task, Outside}
use Rattle.executor_model.specs.Acts.{let_go}
use Rattle.executor_model.specs.Acts.{told}
use Rattle.executor_model.specs.Carried.{awaiter_ops, drops, emptied_ops, future_ops, next_ops, output_ops, owed_ops, schedule_ops}
use Rattle.machine_roads.proofs.Marks.{emptied_owes}
use Rattle.machine_roads.proofs.Moving.{state}
use Rattle.machine_roads.proofs.Waits.{never, waits_in}

-- what is to do in calls of wakers and handles
abbrev pub is_of_call : Op → Bool
is_of_call (op.Move move.WakeByReference f) = true
is_of_call (op.Move move.Wake f) = true
is_of_call (op.Move move.Release f) = true
is_of_call (op.Move move.Cancel f) = true
is_of_call (op.Move move.Detach f) = true
is_of_call (op.Queue (queue_op.Append f)) = true
is_of_call (op.Sleeper o) = true
is_of_call (op.Handle o) = true
is_of_call (op.Waker o) = true
is_of_call (op.User (user_op.CallOutside x)) = true
is_of_call (op.User (user_op.BeginDropOutput f)) = true
is_of_call (op.User (user_op.DropOutput f)) = true
is_of_call (op.End r held) = true
is_of_call _ = false

abbrev pub are_of_calls : List Op → Bool
are_of_calls [] = true
are_of_calls (o ∷ os) = is_of_call o && are_of_calls os

-- a move that drops no future, after which no task waits that didn't before
pub record Loose (s : State) (m : Moved) : Type 0 where
  pub future : m.owed.future ≡ None
  pub fits : (there : Bool) (f : ℕ) → are_of_calls (owed_ops there f m.owed) ≡ true
  pub waits : waits_in m.state ≡ true → waits_in s ≡ true

queued_by : (c x s r h a g n : Bool) (k : ℕ) → waits_in (state true r c x h a g n k) ≡ false
queued_by true x s r h a g n k = refl
queued_by false x s true h a g n k = refl
queued_by false x s false h a g n k = refl

queued : (s : State) → waits_in (record s { scheduled = true }) ≡ false
queued s =
    queued_by s.completed s.closed s.scheduled s.running s.handle s.awaiter s.registering s.notifying s.references

pub shut_one : (s : State) → waits_in (record s { closed = true }) ≡ false
shut_one s = never (abstract.is_idle (phase_of (record s { closed = true })))

pub not_both : {B : Type 0} (b : Bool) → b ≡ false → b ≡ true → B
not_both b off on = absurd cc

module _ (s : State) where
  pub wakes_loosely_by : (over running : Bool) → Loose s (moves.wake_by_reference_by over running s)
  wakes_loosely_by true running = record { future = refl; fits = λ there f. refl; waits = λ is. is }
  wakes_loosely_by false true =
      record { future = refl; fits = λ there f. refl; waits = not_both (waits_in (record s { scheduled = true })) (queued s) }
  wakes_loosely_by false false =
      record { future = refl; fits = λ there f. refl; waits = not_both (waits_in (record s { scheduled = true })) (queued s) }

  pub uses_loosely_by : (over running : Bool)
      → Loose s (moves.moved (moves.wake_by_reference_by over running s).state
      (record (moves.wake_by_reference_by over running s).owed { next = Some move.Release }))
  uses_loosely_by true running = record { future = refl; fits = λ there f. refl; waits = λ is. is }
  uses_loosely_by false true =
      record { future = refl; fits = λ there f. refl; waits = not_both (waits_in (record s { scheduled = true })) (queued s) }
  uses_loosely_by false false =
      record { future = refl; fits = λ there f. refl; waits = not_both (waits_in (record s { scheduled = true })) (queued s) }

  pub releases_loosely_by : (last over : Bool) → Loose s (moves.release_by last over s)
  releases_loosely_by false over = record { future = refl; fits = λ there f. refl; waits = λ is. is }
  releases_loosely_by true true = record { future = refl; fits = λ there f. refl; waits = λ is. is }
  releases_loosely_by true false =
      record {
        future = refl;
        fits = λ there f. refl;
        waits = not_both (waits_in (record s { closed = true; scheduled = true })) (queued (record s { closed = true }));
      }

  pub cancels_loosely_by : (over going : Bool) → Loose s (moves.cancel_by over going s)
  cancels_loosely_by true going = record { future = refl; fits = λ there f. refl; waits = λ is. is }
  cancels_loosely_by false true =
      record {
        future = refl;
        fits = λ there f. told_so s.awaiter there f;
        waits = not_both (waits_in (record s { closed = true })) (shut_one s);
      }
    where
      told_so : (a there : Bool) (f : ℕ)
          → are_of_calls (owed_ops there f (record moves.nothing { awaiter = moves.notify_if a })) ≡ true
      told_so true there f = refl
      told_so false there f = refl
  cancels_loosely_by false false =
      record {
        future = refl;
        fits = λ there f. told_so s.awaiter there f;
        waits = not_both (waits_in (record s { closed = true; scheduled = true })) (queued (record s { closed = true }));
      }
    where
      told_so : (a there : Bool) (f : ℕ)
          → are_of_calls (owed_ops there f (record moves.nothing {
            schedule = moves.schedule false;
            awaiter = moves.notify_if a;
          }))
          ≡ true
      told_so true there f = refl
      told_so false there f = refl

  pub detaches_loosely_by : (x y : Bool) → Loose s (moves.detach_by x y s)
  detaches_loosely_by true y =
      record { future = refl; fits = λ there f. refl; waits = not_both (waits_in (record s { closed = true })) (shut_one s) }
  detaches_loosely_by false true =
      record {
        future = refl;
        fits = λ there f. refl;
        waits =
            not_both (waits_in (record s { closed = true; scheduled = true; handle = false; references = 1 }))
            (queued (record s { closed = true; handle = false; references = 1 }));
      }
  detaches_loosely_by false false =
      record {
        future = refl;
        fits = λ there f. ap are_of_calls (emptied_owes there f (s.references == 0));
        waits = λ is. is;
      }

-- what such a move owes doesn't depend on the table
pub owes_alike : (a b : Bool) (f : ℕ) (o : Owed) → o.future ≡ None → owed_ops a f o ≡ owed_ops b f o
owes_alike a b f o none = ap (with_it a) none ∙ sym (ap (with_it b) none)
  where
    with_it : Bool → Option FutureDebt → List Op
    with_it there future =
        schedule_ops f o.schedule ++ future_ops there f future ++ output_ops o.drop_output f ++
        awaiter_ops f o.awaiter ++ next_ops f o.next ++ emptied_ops (o.empty_cell && drops o.future) f

goes_fits : (a : Waker) (os : List Op) → are_of_calls os ≡ true
    → are_of_calls (let_go (Some (record { waker = a; poll = 0 })) ++ os) ≡ true
goes_fits (Task g) os fit = fit
goes_fits (Outside x) os fit = fit

pub let_go_fits : (o : Option Awaiter) (os : List Op) → are_of_calls os ≡ true → are_of_calls (let_go o ++ os) ≡ true
let_go_fits None os fit = fit
let_go_fits (Some a) os fit = goes_fits a.waker os fit

pub told_fits : (same : Bool) (f : ℕ) (o : Option Awaiter) → are_of_calls (told same f o) ≡ true
told_fits same f None = refl
told_fits true f (Some a) = alone_fits a.waker
  where
    alone_fits : (a : Waker) → are_of_calls (let_go (Some (record { waker = a; poll = 0 }))) ≡ true
    alone_fits (Task g) = refl
    alone_fits (Outside x) = refl
told_fits false f (Some a) = refl
