-- The drop of the executor drops the futures in the order in which they were accepted.
use Rattle.std.specs.Prelude.{ℕ, ◌<◌, List, [], ◌∷◌}
use Rattle.executor_model.specs.declared.event.Event.TheVariants.{Accepted, Dropped, DropBegun}
use Rattle.executor_model.specs.Steps.{Machine}
use Rattle.executor_model.specs.Trace.{Trace}

-- the futures that were accepted, in order
abbrev pub accepted_in : Trace → List ℕ
accepted_in [] = []
accepted_in (Accepted p f ∷ es) = f ∷ accepted_in es
accepted_in (_ ∷ es) = accepted_in es

-- the futures that were dropped, in order
abbrev pub dropped_in : Trace → List ℕ
dropped_in [] = []
dropped_in (Dropped p f ∷ es) = f ∷ dropped_in es
dropped_in (_ ∷ es) = dropped_in es

-- those that were dropped since the drop of the executor began
abbrev pub dropped_since : Trace → List ℕ
dropped_since [] = []
dropped_since (DropBegun p ∷ es) = dropped_in es
dropped_since (_ ∷ es) = dropped_since es

abbrev pub AllAbove : ℕ → List ℕ → Type 0
AllAbove f [] = Unit {0}
AllAbove f (g ∷ gs) = (f < g) × AllAbove f gs

abbrev pub Ascends : List ℕ → Type 0
Ascends [] = Unit {0}
Ascends (f ∷ fs) = AllAbove f fs × Ascends fs

-- the numbers of futures rise in the order of acceptance; and so do those of the futures that were dropped since the drop
-- of the executor began
pub record DropsInOrder (s : Machine) : Type 0 where
  pub accepted : Ascends (accepted_in s.world.trace)
  pub dropped : Ascends (dropped_since s.world.trace)
