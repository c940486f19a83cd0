use Rattle.std.proofs.Common.{refl}
use Rattle.queue_laws.specs.UnboundedSteps.{new_scene as new_chain_scene}
use Rattle.queue_laws.specs.BoundedSteps.{new_scene as new_ring_scene}
use Rattle.queue_laws.specs.Traces.{on_ring, on_chain}
use Rattle.queue_laws.proofs.UnboundedRuns.{a_chain_is_a_queue}
use Rattle.queue_laws.proofs.BoundedRuns.{a_ring_is_a_queue}
use Rattle.queue_laws.proofs.ToldOnSlot.{answer_on_slot}
use Rattle.queue_laws.proofs.Counted.{answer_on_counted}
use Rattle.queue_laws.proofs.laws.calls_answer_what_they_did.Goals as goal

pub returns-clause-slot : goal.returns-clause-slot
returns-clause-slot g c steps = answer_on_slot steps

pub returns-clause-ring : goal.returns-clause-ring
returns-clause-ring g c n m shape steps =
    let r = a_ring_is_a_queue n m shape steps in
    answer_on_counted (new_ring_scene n m) r.last (on_ring n m steps) refl refl (λ p. refl) r.is_run

pub returns-clause-chain : goal.returns-clause-chain
returns-clause-chain g c steps =
    let r = a_chain_is_a_queue steps in
    answer_on_counted new_chain_scene r.last (on_chain steps) refl refl (λ p. refl) r.is_run
