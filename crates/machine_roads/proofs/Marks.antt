-- What the moves of a task leave of its awaiter's marks, and what they owe.
use Rattle.std.proofs.Common.{◌≡◌, ℕ, ◌==◌, ◌++◌, ◌&&◌, ◌||◌, not, Bool, true, false, List, [], ◌∷◌, Option, Some, None, is_some}
use Rattle.std.proofs.Common.{if◌then◌else◌}
use Rattle.std.proofs.Common.{refl, sym, subst}
use Rattle.task_moves.specs.declared.moves.owed.Move.TheVariants as move
use Rattle.task_moves.specs.declared.moves.state.State.{State}
use Rattle.task_moves.specs.declared.schedule_info.ScheduleInfo.{ScheduleInfo}
use Rattle.task_moves.specs.Moves as moves
use Rattle.executor_model.specs.declared.op.Awaiter.{Awaiter}
use Rattle.executor_model.specs.declared.op.Op.{Op}
use Rattle.executor_model.specs.declared.op.Op.TheVariants as op
use Rattle.executor_model.specs.declared.op.HandleOp.TheVariants as handle_op
use Rattle.executor_model.specs.declared.op.QueueOp.TheVariants as queue_op
use Rattle.executor_model.specs.Carried.{owed_ops}
use Rattle.machine_roads.specs.Road.{IsStored}

-- a Runnable goes to its queue, if there is one
abbrev pub queue_if : Bool → ℕ → List Op
queue_if b f = if b then op.Queue (queue_op.Append f) ∷ [] else []

abbrev pub notify_if : Bool → ℕ → List Op
notify_if b f = if b then op.Handle (handle_op.Notify f false) ∷ [] else []

module _ (a : Option Awaiter) where
  woken_by : (over running : Bool) (s : State) → IsStored s a → IsStored (moves.wake_by_reference_by over running s).state a
  woken_by true running s is = record { awaiter = is.awaiter; registering = is.registering; notifying = is.notifying }
  woken_by false true s is = record { awaiter = is.awaiter; registering = is.registering; notifying = is.notifying }
  woken_by false false s is = record { awaiter = is.awaiter; registering = is.registering; notifying = is.notifying }

  pub woken_stored : (s : State) → IsStored s a → IsStored (moves.wake_by_reference s).state a
  woken_stored s is = woken_by (moves.is_over s || s.scheduled) s.running s is

  released_by : (last over : Bool) (s : State) → IsStored s a → IsStored (moves.release_by last over s).state a
  released_by false over s is = record { awaiter = is.awaiter; registering = is.registering; notifying = is.notifying }
  released_by true true s is = record { awaiter = is.awaiter; registering = is.registering; notifying = is.notifying }
  released_by true false s is = record { awaiter = is.awaiter; registering = is.registering; notifying = is.notifying }

  pub released_stored : (s : State) → IsStored s a → IsStored (moves.release s).state a
  released_stored s is = released_by (moves.is_last s) (moves.is_over s) s is

  cancelled_by : (over going : Bool) (s : State) → IsStored s a → IsStored (moves.cancel_by over going s).state a
  cancelled_by true going s is = record { awaiter = is.awaiter; registering = is.registering; notifying = is.notifying }
  cancelled_by false true s is = record { awaiter = is.awaiter; registering = is.registering; notifying = is.notifying }
  cancelled_by false false s is = record { awaiter = is.awaiter; registering = is.registering; notifying = is.notifying }

  pub cancelled_stored : (s : State) → IsStored s a → IsStored (moves.cancel s).state a
  cancelled_stored s is = cancelled_by (moves.is_over s) (moves.is_going s) s is

module _ (there : Bool) (f : ℕ) where
  woken_owes_by : (over running : Bool) (s : State)
      → owed_ops there f (moves.wake_by_reference_by over running s).owed
      ≡ queue_if (is_some (moves.wake_by_reference_by over running s).owed.schedule) f
  woken_owes_by true running s = refl
  woken_owes_by false true s = refl
  woken_owes_by false false s = refl

  pub woken_owes : (s : State)
      → owed_ops there f (moves.wake_by_reference s).owed ≡ queue_if (is_some (moves.wake_by_reference s).owed.schedule) f
  woken_owes s = woken_owes_by (moves.is_over s || s.scheduled) s.running s

  used_owes_by : (over running : Bool) (s : State)
      → owed_ops there f (record (moves.wake_by_reference_by over running s).owed { next = Some move.Release })
      ≡ queue_if (is_some (moves.wake_by_reference_by over running s).owed.schedule) f ++ op.Move move.Release f ∷ []
  used_owes_by true running s = refl
  used_owes_by false true s = refl
  used_owes_by false false s = refl

  pub used_owes : (s : State)
      → owed_ops there f (moves.wake s).owed ≡ queue_if (is_some (moves.wake s).owed.schedule) f ++ op.Move move.Release f ∷ []
  used_owes s = used_owes_by (moves.is_over s || s.scheduled) s.running s

  released_owes_by : (last over : Bool) (s : State)
      → owed_ops there f (moves.release_by last over s).owed ≡ queue_if (is_some (moves.release_by last over s).owed.schedule) f
  released_owes_by false over s = refl
  released_owes_by true true s = refl
  released_owes_by true false s = refl

  pub released_owes : (s : State)
      → owed_ops there f (moves.release s).owed ≡ queue_if (is_some (moves.release s).owed.schedule) f
  released_owes s = released_owes_by (moves.is_last s) (moves.is_over s) s

  cancel_owes : (sched : Option ScheduleInfo) (b : Bool)
      → owed_ops there f (record moves.nothing { schedule = sched; awaiter = moves.notify_if b })
      ≡ queue_if (is_some sched) f ++ notify_if b f
  cancel_owes None true = refl
  cancel_owes None false = refl
  cancel_owes (Some info) true = refl
  cancel_owes (Some info) false = refl

  cancelled_owes_by : (over going : Bool) (s : State)
      → owed_ops there f (moves.cancel_by over going s).owed
      ≡ queue_if (is_some (moves.cancel_by over going s).owed.schedule) f ++ notify_if (not over && s.awaiter) f
  cancelled_owes_by true going s = refl
  cancelled_owes_by false true s = cancel_owes None s.awaiter
  cancelled_owes_by false false s = cancel_owes (moves.schedule false) s.awaiter

  pub cancelled_owes : (s : State)
      → owed_ops there f (moves.cancel s).owed
      ≡ queue_if (is_some (moves.cancel s).owed.schedule) f ++ notify_if (not (moves.is_over s) && s.awaiter) f
  cancelled_owes s = cancelled_owes_by (moves.is_over s) (moves.is_going s) s

  pub emptied_owes : (b : Bool) → owed_ops there f (record moves.nothing { empty_cell = b }) ≡ []
  emptied_owes true = refl
  emptied_owes false = refl

  detached_owes_by : (forgotten : Bool) (s : State)
      → owed_ops there f (moves.detach_by false forgotten s).owed
      ≡ queue_if (is_some (moves.detach_by false forgotten s).owed.schedule) f
  detached_owes_by true s = refl
  detached_owes_by false s = emptied_owes (s.references == 0)

  pub detached_owes : (s : State) → (s.completed && not s.closed) ≡ false
      → owed_ops there f (moves.detach s).owed ≡ queue_if (is_some (moves.detach s).owed.schedule) f
  detached_owes s none =
      subst
      (λ b. owed_ops there f (moves.detach_by b ((s.references == 0) && not s.closed) s).owed
      ≡ queue_if (is_some (moves.detach_by b ((s.references == 0) && not s.closed) s).owed.schedule) f)
      (sym none)
      (detached_owes_by ((s.references == 0) && not s.closed) s)

module _ (a : Option Awaiter) where
  detached_by : (gives forgotten : Bool) (s : State) → IsStored s a → IsStored (moves.detach_by gives forgotten s).state a
  detached_by true forgotten s is = record { awaiter = is.awaiter; registering = is.registering; notifying = is.notifying }
  detached_by false true s is = record { awaiter = is.awaiter; registering = is.registering; notifying = is.notifying }
  detached_by false false s is = record { awaiter = is.awaiter; registering = is.registering; notifying = is.notifying }

  pub detached_stored : (s : State) → IsStored s a → IsStored (moves.detach s).state a
  detached_stored s is = detached_by (s.completed && not s.closed) ((s.references == 0) && not s.closed) s is
