-- The party has come so far; each turn tries a step, and no list has 2 ^ 64 of them.
use Rattle.std.proofs.Common.{◌-◌, ◌^◌, length}
use Rattle.simulator.proofs.Reaching.{Reached}
use Rattle.simulator.proofs.play.player.Player.finish.Given as goal

abbrev pub invariant-loop-self : goal.invariant-loop-self
invariant-loop-self l = Reached l.p l.initial.self l.self

abbrev pub decreases-loop-self : goal.decreases-loop-self
decreases-loop-self l = 2 ^ 64 - length l.self.tried
