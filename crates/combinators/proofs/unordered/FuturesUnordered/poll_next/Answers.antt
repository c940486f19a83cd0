use Rattle.std.proofs.Common.{◌<◌, refl, subst, ◌∙◌}
use Rattle.combinators.specs.Rounds.{HasTurned}
use Rattle.combinators.proofs.Turning.{none_has_gone, one_has_gone, one_more_has_gone}
use Rattle.combinators.proofs.unordered.FuturesUnordered.poll_next.Goals as goal

pub loop-turn-init : goal.loop-turn-init
loop-turn-init g c = (none_has_gone _, c.len-turn-end.ensures, refl)

pub returns-in-Ready-clause-polled : goal.returns-in-Ready-clause-polled
returns-in-Ready-clause-polled g c =
    let some : c.loop-turn._turn < _ = subst (λ n. c.loop-turn._turn < n) c.loop-turn.invariant.1 c.loop-turn-test.true in
    let turned = subst (λ r. HasTurned c.loop-turn.self.futures.items c.turn.new.self.futures.items r) c.in-Ready.is c.turn.ensures.turned in
    one_has_gone c.loop-turn._turn c.in-Ready.done _ _ _ c.loop-turn.invariant.0 turned some

pub loop-turn-preserved : goal.loop-turn-preserved
loop-turn-preserved g c =
    let some : c.loop-turn._turn < _ = subst (λ n. c.loop-turn._turn < n) c.loop-turn.invariant.1 c.loop-turn-test.true in
    let turned = subst (λ r. HasTurned c.loop-turn.self.futures.items c.turn.new.self.futures.items r) c.in_default.is c.turn.ensures.turned in
    (one_more_has_gone g.row.F-Output.Denot c.loop-turn._turn _ _ _ c.loop-turn.invariant.0 turned some, c.loop-turn.invariant.1, c.turn.ensures.next ∙ c.loop-turn.invariant.2)
