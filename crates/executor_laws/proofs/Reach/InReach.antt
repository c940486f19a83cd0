-- For common_futures_are_in_reach.
-- Lone calls that look for a future reach the common ones, and each party can make them.
use Rattle.std.proofs.Common.{ℕ, List, refl}
use Rattle.executor_laws.proofs.Types.{By, Call, Kind, Step}
use Rattle.executor_model.specs.{Executions.EveryMachine, Steps.Machine, Steps.run, Steps.start}
use Rattle.executor_model.proofs.Steps.Reached.{Reached}
use Rattle.executor_laws.specs.{LoneEnds.LoneCallsEnd, Reach.IsInReach}
use Rattle.executor_laws.proofs.{Reach.Counting.takes-each, Reach.LoneBegins.poll-begins, Reach.LoneBegins.tick-begins}
use Rattle.executor_laws.proofs.{Reach.Reaching.takes-common}

in-reach : (s : Machine) → Reached s → LoneCallsEnd s → IsInReach s
in-reach s r ends = record {
  each = λ rest f common p c a e steps new k. takes-common s r rest f common p c a e steps new k;
  all = λ rest commons k searches new t comings m l f c. takes-each s r rest commons k searches new t comings m l f c;
  can = λ rest p l. ends.can rest.quiet p Call.TryTick (tick-begins s r rest p l);
  polls = λ rest p l t x alive. ends.can rest.quiet p (Call.PollTick t (By.Outside x))
      (poll-begins s r rest p t x l alive);
}

pub reaches : EveryMachine LoneCallsEnd → (limit : ℕ) (kind : Kind) (parties : ℕ) (steps : List Step) →
    IsInReach (run steps (start limit kind parties))
reaches ends limit kind parties steps =
    in-reach (run steps (start limit kind parties)) (record { limit = limit; kind = kind; parties = parties; steps = steps; is = refl })
    (ends limit kind parties steps)
