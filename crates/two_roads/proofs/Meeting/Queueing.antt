-- What an act's call may queue is no more than what is counted for the act.
use Rattle.std.proofs.Common.{◌≡◌, ℕ, ◌+◌, ◌≤◌, refl, arith}
use Rattle.executor_model.specs.declared.op.Waker.{Waker}
use Rattle.executor_model.specs.declared.step.Step.{Step}
use Rattle.executor_model.specs.Steps.{Machine}
use Rattle.plain_scheduler.specs.Calls.{Call, Leak, Spawn}
use Rattle.machine_roads.specs.View.{Output}
use Rattle.machine_roads.specs.Within.{IsMade, begins, cancel, copy, detach, drop_handle, drop_run, drop_tick, ends, gives, is_empty, keep}
use Rattle.machine_roads.specs.Within.{leak, new_run, new_tick, pends, poll_handle, poll_run, poll_tick, release, spawn, try_tick}
use Rattle.machine_roads.specs.Within.{use_waker}
use Rattle.machine_roads.specs.Within.{wake, wake_self}
use Rattle.solo_laws.specs.Making.{comes, gives_back, queues_at_most}
use Rattle.two_roads.specs.Happening.{act_queues, comes_in}
use Rattle.two_roads.specs.Renaming.{call_as}

-- so much is counted
pub record IsCounted {T A : Type 0} (t : Step) (call : Call T A) : Type 0 where
  pub queues : (came : ℕ) → queues_at_most came 0 call + gives_back call ≤ act_queues came t
  pub comes_so : comes call ≤ comes_in t

pub counted_so : (s : Machine) (p : ℕ) (t : Step) (call : Call Output Waker) → IsMade s p t call → IsCounted t call
counted_so s p t call (begins c x (spawn m)) = record { queues = λ came. omega arith; comes_so = omega arith }
counted_so s p t call (begins c x try_tick) = record { queues = λ came. omega arith; comes_so = omega arith }
counted_so s p t call (begins c x is_empty) = record { queues = λ came. omega arith; comes_so = omega arith }
counted_so s p t call (begins c x (use_waker k f is)) = record { queues = λ came. omega arith; comes_so = omega arith }
counted_so s p t call (begins c x (wake k f is)) = record { queues = λ came. omega arith; comes_so = omega arith }
counted_so s p t call (begins c x (copy k f is)) = record { queues = λ came. omega arith; comes_so = omega arith }
counted_so s p t call (begins c x (release k f is)) = record { queues = λ came. omega arith; comes_so = omega arith }
counted_so s p t call (begins c x (keep f is)) = record { queues = λ came. omega arith; comes_so = omega arith }
counted_so s p t call (begins c x (wake_self f is)) = record { queues = λ came. omega arith; comes_so = omega arith }
counted_so s p t call (begins c x (poll_handle f b)) = record { queues = λ came. omega arith; comes_so = omega arith }
counted_so s p t call (begins c x (cancel f)) = record { queues = λ came. omega arith; comes_so = omega arith }
counted_so s p t call (begins c x (detach f)) = record { queues = λ came. omega arith; comes_so = omega arith }
counted_so s p t call (begins c x (drop_handle f)) = record { queues = λ came. omega arith; comes_so = omega arith }
counted_so s p t call (begins c x new_tick) = record { queues = λ came. omega arith; comes_so = omega arith }
counted_so s p t call (begins c x (poll_tick k b)) = record { queues = λ came. omega arith; comes_so = omega arith }
counted_so s p t call (begins c x (drop_tick k)) = record { queues = λ came. omega arith; comes_so = omega arith }
counted_so s p t call (begins c x new_run) = record { queues = λ came. omega arith; comes_so = omega arith }
counted_so s p t call (begins c x (poll_run r b)) = record { queues = λ came. omega arith; comes_so = omega arith }
counted_so s p t call (begins c x (drop_run r)) = record { queues = λ came. omega arith; comes_so = omega arith }
counted_so s p t call (begins c x leak) = record { queues = λ came. omega arith; comes_so = omega arith }
counted_so s p t call pends = record { queues = λ came. omega arith; comes_so = omega arith }
counted_so s p t call gives = record { queues = λ came. omega arith; comes_so = omega arith }
counted_so s p t call ends = record { queues = λ came. omega arith; comes_so = omega arith }

-- by whatever names
module _ {T A U B : Type 0} (output : T → U) (waker : A → B) where
  same_queues : (came : ℕ) (call : Call T A)
      → queues_at_most came 0 (call_as output waker call) + gives_back (call_as output waker call)
      ≡ queues_at_most came 0 call + gives_back call
  same_queues came Leak = refl
  same_queues came call = refl

  same_comes : (call : Call T A) → comes (call_as output waker call) ≡ comes call
  same_comes (Spawn m) = refl
  same_comes call = refl

  pub counted_as : (t : Step) (call : Call T A) → IsCounted t call → IsCounted t (call_as output waker call)
  counted_as t call so = record {
    queues = λ came. (let same = same_queues came call in let most = so.queues came in omega (arith, same, most));
    comes_so = (let same = same_comes call in let most = so.comes_so in omega (arith, same, most));
  }

  pub counted_back : (t : Step) (call : Call T A) → IsCounted t (call_as output waker call) → IsCounted t call
  counted_back t call so = record {
    queues = λ came. (let same = same_queues came call in let most = so.queues came in omega (arith, same, most));
    comes_so = (let same = same_comes call in let most = so.comes_so in omega (arith, same, most));
  }
