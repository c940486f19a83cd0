use Rattle.std.proofs.Common.{ap, sym, ◌∙◌}
use Rattle.queue_steps.specs.UnboundedCallTurns.{of_push}
use Rattle.queue_steps.proofs.UnboundedLemmas.{append_is, link_is, blocks_there, rests_appended, rests_linked, queue_appended, queue_linked}
use Rattle.queue_steps.proofs.unbounded.UnboundedRepresentation.push.Goals as goal

pub push_onto_last-requires : goal.push_onto_last-requires
push_onto_last-requires g c =
    let is = append_is c.self.inside.ends (sym (ap of_push c.in-Append.is) ∙ c.push.ensures) in
    blocks_there c.self.inside.ends c.self.inside.blocks.items c.self.inside.spare c.self.invariant is.2

pub invariant_of-self : goal.invariant_of-self
invariant_of-self g c =
    let is = append_is c.self.inside.ends (sym (ap of_push c.in-Append.is) ∙ c.push.ensures) in
    rw (c.appended-self-inside.ensures, c.push_onto_last.ensures)
    (rests_appended c.self.inside.ends c.self.inside.blocks.items c.self.inside.spare c.args.value c.self.invariant is.1 is.2)

pub invariant_of-self-in-Ok : goal.invariant_of-self-in-Ok
invariant_of-self-in-Ok g c =
    let is = link_is c.self.inside.ends (sym (ap of_push c.in-Link.is) ∙ c.push.ensures) in
    rw (c.appended-self-inside-in-Ok.ensures, c.in-Ok.ensures.ok)
    (rests_linked c.self.inside.ends c.self.inside.blocks.items c.self.inside.spare c.link.new.spare c.args.value c.self.invariant is.1
    is.2 c.link.ensures.spare)

pub returns-in-Append : goal.returns-in-Append
returns-in-Append g c =
    let is = append_is c.self.inside.ends (sym (ap of_push c.in-Append.is) ∙ c.push.ensures) in
    let there = blocks_there c.self.inside.ends c.self.inside.blocks.items c.self.inside.spare c.self.invariant is.2 in
    rw (← c.self.view_is, c.appended-self-inside.ensures, c.push_onto_last.ensures)
    ((is.0, tt, is.1), queue_appended c.self.inside.ends c.self.inside.blocks.items c.args.value there)

pub returns-in-Ok : goal.returns-in-Ok
returns-in-Ok g c =
    let is = link_is c.self.inside.ends (sym (ap of_push c.in-Link.is) ∙ c.push.ensures) in
    rw (← c.self.view_is, c.appended-self-inside-in-Ok.ensures, c.in-Ok.ensures.ok)
    ((is.0, tt, is.1), queue_linked c.self.inside.ends c.self.inside.blocks.items c.args.value)
