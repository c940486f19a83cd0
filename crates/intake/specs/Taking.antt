-- By what a worker is polled again.
use Rattle.std.specs.Prelude.{◌⊎◌, IsSome, Option}
use Rattle.intake.specs.declared.rest.Rest.{Rest}
use Rattle.intake.specs.declared.rest.Rest.TheVariants.{Waits, Called}

module _ {P L N : Type 0} where
  -- it waits for a permit, or for a descriptor; or it was told that no descriptor comes any more
  abbrev pub WaitsFor : Option P → Option L → Option N → Type 0
  WaitsFor acquire listener ended = IsSome acquire ⊎ (IsSome listener ⊎ IsSome ended)

-- so, where that is what `waits` says; or it has called its waker
abbrev pub RestsBy : Rest → Type 0 → Type 0
RestsBy Waits waits = waits
RestsBy (Called _) waits = Unit {0}
