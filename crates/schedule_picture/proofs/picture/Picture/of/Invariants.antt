-- The shapes so far are of what the moments so far show, and whom they name has a lane.
use Rattle.std.proofs.Common.{◌≡◌, take}
use Rattle.simulator.specs.ScriptText.{happened}
use Rattle.schedule_picture.specs.Picture.{AllHaveLanes, events_of}
use Rattle.schedule_picture.proofs.picture.Picture.of.Given as goal

abbrev pub invariant-loop-place : goal.invariant-loop-place
invariant-loop-place l =
    (events_of l.picture.shapes.items ≡ happened (take l.place l.moments)) ×
    AllHaveLanes l.picture.lanes.items l.picture.shapes.items
