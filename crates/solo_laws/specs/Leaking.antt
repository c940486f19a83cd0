-- A leak is one of the plain scheduler: the table's wakers are taken out, and then each is called, in the order of spawning.
use Rattle.std.specs.Prelude.{◌≡◌, ℕ, ◌*◌, ◌≤◌, false, length}
use Rattle.solo.specs.declared.names.SoloWaker.{SoloWaker}
use Rattle.solo.specs.declared.owed.Lent.{Lent}
use Rattle.solo.specs.declared.solo.Solo.{Solo}
use Rattle.solo.specs.Closing as closing
use Rattle.plain_scheduler.specs.State.{Choice, Plain}
use Rattle.plain_scheduler.specs.Lists.{repeat}
use Rattle.plain_scheduler.specs.Calls.{Leak, does}
use Rattle.solo_laws.specs.Road.{HasLife, wakes}
use Rattle.solo_laws.specs.Tabled.{Stands}

-- each of so many wakers that were taken out is called by the owner
abbrev pub leaked : {F T X : Type 0} → ℕ → Solo F T X → Solo F T X
leaked n s = repeat n closing.leak_woken (closing.leaked s)

module _ {F T X : Type 0} (its : ℕ → Lent) (s : Solo F T X) (p : Plain T (SoloWaker X)) where
  -- of an executor that isn't static
  abbrev pub LeaksAlike : Type 0
  LeaksAlike =
      (c : Choice) → p.is_static ≡ false → length p.lying ≤ c.tells → HasLife (6 * length s.table.entries) s.lines
      → Stands its (leaked (length s.table.entries) s) (does wakes c Leak p)
