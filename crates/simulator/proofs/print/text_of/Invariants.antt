-- The text so far is that of the moments so far.
use Rattle.std.proofs.Common.{◌≡◌, take}
use Rattle.simulator.specs.Text.{moments_text}
use Rattle.simulator.proofs.print.text_of.Given as goal

abbrev pub invariant-loop-moment : goal.invariant-loop-moment
invariant-loop-moment l = l.text.items ≡ moments_text l.names l.ticks l.runs (take l.moment-index l.moments)
