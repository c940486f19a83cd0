-- What each call does with the sources of a reactor.
use Rattle.std.specs.Prelude.{◌≡◌, ◌≢◌, ℕ, Bool, true, false, Option, nat_eq}
use Rattle.std.specs.HashMap.{get}
use Rattle.reactor.specs.declared.parts.sources.Sources.{Sources}
use Rattle.reactor.specs.declared.parts.sources.Refused.{Refused}
use Rattle.reactor.specs.declared.parts.sources.Refused.TheVariants.{NoMemory, Closed}

module _ {S : Type 0} where
  -- the source that comes back
  abbrev pub value_at : Refused S → S
  value_at (NoMemory source) = source
  value_at (Closed source) = source

  -- this stands under this key now, and under each other what stood there
  abbrev pub OnlyAt : ℕ → Option S → Sources S → Sources S → Type 0
  OnlyAt key value old new =
      (get nat_eq new.entries key ≡ value)
      × ((other : ℕ) → other ≢ key → get nat_eq new.entries other ≡ get nat_eq old.entries other)

  -- refused because it is closed, or open and for want of memory
  abbrev pub IsRefused : Bool → Refused S → Type 0
  IsRefused is_closed (NoMemory _) = is_closed ≡ false
  IsRefused is_closed (Closed _) = is_closed ≡ true
