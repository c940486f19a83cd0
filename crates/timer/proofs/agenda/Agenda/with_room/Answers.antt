use Rattle.timer.proofs.Times.{nobody_of}
use Rattle.timer.proofs.agenda.Agenda.with_room.Goals as goal

pub returns-clause-nobody : goal.returns-clause-nobody
returns-clause-nobody c = nobody_of c.max-room.result c.in-Some.len 0 c.in_ok-nodes.nodes.items
    (c.in_ok-nodes.ensures.items_if_clones_equal (λ y same. same))
