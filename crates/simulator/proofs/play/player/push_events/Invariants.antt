-- The events so far are shown.
use Rattle.std.proofs.Common.{◌≡◌, ◌++◌, map, take}
use Rattle.simulator.specs.declared.moment.Moment.TheVariants.{Happened}
use Rattle.simulator.proofs.play.player.push_events.Given as goal

abbrev pub invariant-loop-event : goal.invariant-loop-event
invariant-loop-event l = l.moments.items ≡ l.initial.moments.items ++ map Happened (take l.event-index l.events)
