use Rattle.std.proofs.Common.{sym, ◌∙◌}
use Rattle.simulator.proofs.Reaching.{Reached-more}
use Rattle.simulator.proofs.play.player.Player.finish.Goals as goal

pub loop-self-preserved : goal.loop-self-preserved
loop-self-preserved c =
    Reached-more c.args.p c.args.self.now c.loop-self.self c.turn.new.self c.loop-self.invariant
    (sym c.goes_on.ensures ∙ c.loop-self-test.true) c.in_ok-turn.ensures.new
