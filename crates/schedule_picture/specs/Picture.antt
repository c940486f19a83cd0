-- What is said of a picture: its shapes are of these events, and whom they name has a lane.
use Rattle.std.specs.Prelude.{List, All, Contains, map}
use Rattle.executor_model.specs.declared.event.Event.{Event}
use Rattle.schedule_picture.specs.declared.picture.Lane.{Lane}
use Rattle.schedule_picture.specs.declared.picture.Lane.TheVariants.{Party}
use Rattle.schedule_picture.specs.declared.picture.Shape.{Shape}

abbrev pub events_of : List Shape → List Event
events_of shapes = map (λ shape. shape.event) shapes

-- the party, and to whom it is done
abbrev pub HasLanes : List Lane → Shape → Type 0
HasLanes lanes shape = Contains lanes (Party shape.party) × Contains lanes shape.lane

abbrev pub AllHaveLanes : List Lane → List Shape → Type 0
AllHaveLanes lanes shapes = All (HasLanes lanes) shapes
