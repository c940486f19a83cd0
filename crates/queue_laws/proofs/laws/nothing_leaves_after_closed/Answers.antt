use Rattle.std.proofs.Common.{refl}
use Rattle.queue_laws.specs.SingleSteps.{new_scene as new_slot_scene}
use Rattle.queue_laws.specs.UnboundedSteps.{new_scene as new_chain_scene}
use Rattle.queue_laws.specs.BoundedSteps.{new_scene as new_ring_scene}
use Rattle.queue_laws.specs.Traces.{on_slot, on_ring, on_chain}
use Rattle.queue_laws.proofs.SingleRuns.{a_slot_is_a_queue}
use Rattle.queue_laws.proofs.UnboundedRuns.{a_chain_is_a_queue}
use Rattle.queue_laws.proofs.BoundedRuns.{a_ring_is_a_queue}
use Rattle.queue_laws.proofs.Closing.{gives_no_more}
use Rattle.queue_laws.proofs.laws.nothing_leaves_after_closed.Goals as goal

pub returns-clause-slot : goal.returns-clause-slot
returns-clause-slot g c steps =
    let r = a_slot_is_a_queue steps in gives_no_more new_slot_scene r.last (on_slot steps) (λ p. refl) r.is_run

pub returns-clause-ring : goal.returns-clause-ring
returns-clause-ring g c n m shape steps =
    let r = a_ring_is_a_queue n m shape steps in gives_no_more (new_ring_scene n m) r.last (on_ring n m steps) (λ p. refl) r.is_run

pub returns-clause-chain : goal.returns-clause-chain
returns-clause-chain g c steps =
    let r = a_chain_is_a_queue steps in gives_no_more new_chain_scene r.last (on_chain steps) (λ p. refl) r.is_run
