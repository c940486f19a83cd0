-- For due_futures_stand_with_their_keepers.
-- What a run does takes from the executor's queues at most.
use Rattle.std.proofs.Common.{◌≡◌, ◌≤◌, ℕ, List, [], ◌∷◌, drop, ap, arith}
use Rattle.executor_laws.proofs.Types.{Mark, Plain, Urgent}
use Rattle.executor_model.specs.{Queues.Queues, Queues.all_in, World.World, World.queued_in, Sound.times}
use Rattle.executor_model.proofs.Awaiters.RunsQueue.Takes.{stays, first}
use Rattle.executor_model.proofs.{Steps.Lists.times-append, Steps.QueuesByMark.without_first_of, Awaiters.RunsQueue.Takes}

pub record Fewer (w v : World) : Type 0 where
  pub items : (g : ℕ) → times g (queued_in v) ≤ times g (queued_in w)

pub untouched : (w v : World) → v.queues ≡ w.queues → Fewer w v
untouched w v e = record {
  items = λ g. omega (arith, ap (λ (qs : Queues). times g (all_in qs)) e);
}

drop-less : (g : ℕ) (xs : List ℕ) → times g (drop 1 xs) ≤ times g xs
drop-less g [] = omega arith
drop-less g (x ∷ xs) = omega arith

less-first : (g : ℕ) (m : Mark) (qs : Queues) → times g (all_in (without_first_of m qs)) ≤ times g (all_in qs)
less-first g Urgent qs = omega (
  arith,
  times-append g (drop 1 qs.urgent.items) qs.plain.items,
  times-append g qs.urgent.items qs.plain.items,
  drop-less g qs.urgent.items,
)
less-first g Plain qs = omega (
  arith,
  times-append g qs.urgent.items (drop 1 qs.plain.items),
  times-append g qs.urgent.items qs.plain.items,
  drop-less g qs.plain.items,
)

pub fewer : (w v : World) → Takes w v → Fewer w v
fewer w v (stays e) = untouched w v e
fewer w v (first mark e) = record {
  items = λ g. omega (arith, ap (λ (qs : Queues). times g (all_in qs)) e, less-first g mark w.queues);
}
