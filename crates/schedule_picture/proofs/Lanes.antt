-- One more shape, whose lanes are there, behind others; no lane goes meanwhile.
use Rattle.std.proofs.Common.{List, [], ◌∷◌, ◌++◌, ◌≡◌, Contains}
use Rattle.std.proofs.lemmas.List.Elements.{All-push, All-same, All-weaker}
use Rattle.schedule_picture.specs.declared.picture.Lane.{Lane}
use Rattle.schedule_picture.specs.declared.picture.Lane.TheVariants.{Party}
use Rattle.schedule_picture.specs.declared.picture.Shape.{Shape}
use Rattle.schedule_picture.specs.Picture.{AllHaveLanes, HasLanes}

pub AllHaveLanes-push : (old new : List Lane) (before after : List Shape) (shape : Shape) →
    ((lane : Lane) → Contains old lane → Contains new lane) →
    AllHaveLanes old before → HasLanes new shape → after ≡ before ++ shape ∷ [] → AllHaveLanes new after
AllHaveLanes-push old new before after shape kept all here pushed =
    let wider : AllHaveLanes new before =
    All-weaker (HasLanes old) (HasLanes new) (λ other has. (kept (Party other.party) has.0, kept other.lane has.1))
    before all in
    All-same (HasLanes new) after (before ++ shape ∷ []) pushed (All-push (HasLanes new) before shape wider here)
