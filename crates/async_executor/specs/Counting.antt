-- How a run's counts continue.
use Rattle.std.specs.Prelude.{◌≡◌, ◌≤◌, ◌⊎◌, true, not}
use Rattle.async_executor.specs.Counted.{Counted}
use Rattle.async_executor.specs.declared.steps.Answered.{Answered}

-- a poll ended by letting others go first
abbrev pub GaveWay : Answered → Answered → Type 0
GaveWay before after = (after.gave_way ≡ true) × (after.turned ≡ not before.turned)

-- the count since others went first begins anew only in a poll that ends by letting them go first
abbrev pub GoesOn : Counted → Counted → Answered → Answered → Type 0
GoesOn old new before after = (GaveWay before after × (new.taken ≡ 0)) ⊎ (old.taken ≤ new.taken)
