-- Whatever the commands to come make of the script, all of them make of a new one.
use Rattle.std.proofs.Common.{drop}
use Rattle.simulator.specs.Play.{Player, start}
use Rattle.simulator.specs.Commands.{PlaysAll}
use Rattle.simulator.proofs.play.run.Given as goal

abbrev pub invariant-loop-at : goal.invariant-loop-at
invariant-loop-at l = (last : Player) → PlaysAll l.at (drop l.at l.commands) l.player last →
    PlaysAll 0 l.commands (start l.commands l.limit l.is_static) last
