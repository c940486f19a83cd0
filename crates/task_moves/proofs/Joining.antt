-- The two halves of a run of a task with one owner make the whole.
use Rattle.std.proofs.Common.{◌≡◌, true, arith}
use Rattle.std.proofs.lemmas.Bool.Decides.{nat_tests}
use Rattle.task_moves.specs.declared.local_task.answers.Back.TheVariants.{Pending}
use Rattle.task_moves.specs.declared.local_task.answers.FuturePlace.TheVariants.{Dropping}
use Rattle.task_moves.specs.AbstractTask as abstract
use Rattle.task_moves.specs.AbstractTask.{AbstractTask}
use Rattle.task_moves.specs.AbstractTask.Phase.{Queued}
use Rattle.task_moves.specs.LocalTask as local
use Rattle.task_moves.specs.Halves.{Halves, is_polled}

closed_is : {T A : Type 0} (t : AbstractTask T A) → t.phase ≡ Queued → t.closed ≡ true → local.finish (abstract.begin_run t) ≡ abstract.settle_closed t
closed_is t q x = grind (arith, nat_tests)

let_go_is : {T A : Type 0} (t : AbstractTask T A) → t.phase ≡ Queued → local.finish (record t { closed = true }) ≡ abstract.drop_runnable t
let_go_is t q = grind (arith, nat_tests)

module _ {F T A : Type 0} where
  pending_is : (f : F) (t : AbstractTask T A) → is_polled t.phase ≡ true → (local.settle (Pending f) t).future ≡ Dropping →
      local.finish (local.settle (Pending f) t).task ≡ abstract.end_pending t
  pending_is f t p d = grind (arith, nat_tests)

  resting_is : (f : F) (t : AbstractTask T A) → is_polled t.phase ≡ true → local.is_home (local.settle (Pending f) t).future ≡ true →
      (local.settle (Pending f) t).task ≡ (abstract.end_pending t).task
  resting_is f t p h = grind (arith, nat_tests)

  pub halves : Halves F T A
  halves = record { pending = pending_is; resting = resting_is; closed = closed_is; let_go = let_go_is }
