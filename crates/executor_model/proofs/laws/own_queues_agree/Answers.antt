use Rattle.std.proofs.Common.{ℕ, ◌≤◌, length, Bool, true, false, cond, arith}
use Rattle.std.specs.Prelude.{nat_lt}
use Rattle.executor_model.specs.OwnQueues.{HasOwnRoom, IsWithinBound}
use Rattle.executor_model.specs.Steps.{Machine, run, start}
use Rattle.executor_model.proofs.OwnQueues.OwnListed.{lists-agree}
use Rattle.executor_model.proofs.OwnQueues.OwnLocks.{lock-agrees}
use Rattle.executor_model.proofs.OwnQueues.OwnRunners.{own-queue-has-runner}
use Rattle.executor_model.proofs.OwnQueues.OwnExecutions.{has-own-room, is-empty-meanwhile}
use Rattle.executor_model.proofs.OwnQueues.UsingSteps.{is-used-once}
use Rattle.executor_model.proofs.laws.own_queues_agree.Goals as goal

few-places : (b : Bool) → (let n : ℕ = cond b 512 0 in n) ≤ 512
few-places true = omega arith
few-places false = omega arith

within-bound : (s : Machine) (r : ℕ) → HasOwnRoom s r → IsWithinBound s r
within-bound s r h = omega (arith, h, few-places (nat_lt r (length s.world.own)))

pub returns-clause-used : goal.returns-clause-used
returns-clause-used g limit kind parties steps r = is-used-once limit kind parties steps r

pub returns-clause-listed : goal.returns-clause-listed
returns-clause-listed g limit kind parties steps r = lists-agree limit kind parties steps r

pub returns-clause-locked : goal.returns-clause-locked
returns-clause-locked g limit kind parties steps = lock-agrees limit kind parties steps

pub returns-clause-roomy : goal.returns-clause-roomy
returns-clause-roomy g limit kind parties steps r = has-own-room limit kind parties steps r

pub returns-clause-empty : goal.returns-clause-empty
returns-clause-empty g limit kind parties steps r = is-empty-meanwhile limit kind parties steps r

pub returns-clause-kept : goal.returns-clause-kept
returns-clause-kept g limit kind parties steps r = own-queue-has-runner limit kind parties steps r

pub returns-clause-bounded : goal.returns-clause-bounded
returns-clause-bounded g limit kind parties steps r =
    within-bound (run steps (start limit kind parties)) r (has-own-room limit kind parties steps r)
