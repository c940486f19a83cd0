-- Which call of the plain scheduler a call of a waker or a handle is, where no poll is around it.
use Rattle.std.proofs.Common.{◌≡◌, ℕ, ◌&&◌, true, false, List}
use Rattle.std.proofs.Common.{Option, Some, None, ap}
use Rattle.executor_model.specs.declared.call.Call.{Call}
use Rattle.executor_model.specs.declared.call.Call.TheVariants as call
use Rattle.executor_model.specs.declared.op.Op.{Op}
use Rattle.executor_model.specs.declared.op.Waker.{Waker}
use Rattle.executor_model.specs.Rows.{lending_of}
use Rattle.executor_model.specs.Steps.{future_of, has_all, is_on_executor, is_some, is_unused}
use Rattle.executor_model.specs.Steps.{kept, mine, waker_of}
use Rattle.executor_model.specs.World.{World}
use Rattle.plain_scheduler.specs.Calls as plain
use Rattle.plain_scheduler.specs.Calls.{close, does}
use Rattle.machine_roads.specs.View.{Output}
use Rattle.machine_roads.specs.Course.{IsCall}
use Rattle.machine_roads.specs.Course as course
use Rattle.machine_roads.specs.Within.{Act, ActsBy, IsCallIn, begins as begins_by, ends as ends_by, owes, rests_after, standing}
use Rattle.machine_roads.specs.Within as within_it
use Rattle.machine_roads.proofs.Lists.{clash}
use Rattle.machine_roads.proofs.LoneRuns.{both_true}
use Rattle.machine_roads.proofs.OneCall.{some_kept}

pub record Named (w : World) (c : Call) : Type 0 where
  pub made : plain.Call Output Waker
  pub is : IsCall w c made
  pub within_none : IsCallIn None w c made

module _ (w : World) (ss : List (List Op)) (o : Option Op) (none : mine o ≡ None) where
  kept_one : (k : ℕ) → (is_some (kept w k) && is_unused (lending_of k) ss) ≡ true → (f : ℕ) × (kept w k ≡ Some f)
  kept_one k is = some_kept (kept w k) (both_true (is_some (kept w k)) (is_unused (lending_of k) ss) is).0

  pub named : (c : Call) → is_on_executor c ≡ false → has_all w ss o c ≡ true → Named w c
  named (call.Wake k) off has =
      let f = kept_one k has in
      record { made = plain.Use f.0; is = course.use_waker k f.0 f.1; within_none = within_it.use_waker k f.0 f.1 }
  named (call.WakeByRef k) off has =
      let f = some_kept (kept w k) has in
      record { made = plain.Wake f.0; is = course.wake k f.0 f.1; within_none = within_it.wake k f.0 f.1 }
  named (call.Copy k) off has =
      let f = some_kept (kept w k) has in
      record { made = plain.Copy f.0; is = course.copy k f.0 f.1; within_none = within_it.copy k f.0 f.1 }
  named (call.DropWaker k) off has =
      let f = kept_one k has in
      record { made = plain.Release f.0; is = course.release k f.0 f.1; within_none = within_it.release k f.0 f.1 }
  named call.Keep off has = absurd (clash (ap (λ o. is_some (future_of o)) none) has)
  named call.WakeSelf off has = absurd (clash (ap (λ o. is_some (future_of o)) none) has)
  named (call.PollHandle f b) off has =
      record {
        made = plain.PollHandle f (waker_of None b);
        is = course.poll_handle f b;
        within_none = within_it.poll_handle f b;
      }
  named (call.Cancel f) off has = record { made = plain.Cancel f; is = course.cancel f; within_none = within_it.cancel f }
  named (call.Detach f) off has = record { made = plain.Detach f; is = course.detach f; within_none = within_it.detach f }
  named (call.DropHandle f) off has =
      record { made = plain.DropHandle f; is = course.drop_handle f; within_none = within_it.drop_handle f }
  named c off has = absurd cc
