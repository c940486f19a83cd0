-- A run that steals keeps what the plain scheduler's run then keeps: the next ones of one of the executor's queues, or of another run.
use Rattle.std.specs.Prelude.{◌≡◌, ℕ, zero, suc, ◌==◌, Bool, true, false, List, [], ◌∷◌, ◌++◌, Some}
use Rattle.executor_parts.specs.declared.mark.Mark.{Mark}
use Rattle.executor_parts.specs.declared.mark.Mark.TheVariants.{Plain as PlainMark, Urgent}
use Rattle.solo.specs.declared.names.SoloWaker.{SoloWaker}
use Rattle.solo.specs.declared.owed.Lent.{Lent}
use Rattle.solo.specs.declared.steals.Source.{Source}
use Rattle.solo.specs.declared.steals.Source.TheVariants.{Common, Own}
use Rattle.solo.specs.declared.solo.Solo.{Solo}
use Rattle.solo.specs.OwnQueues as own
use Rattle.solo.specs.Steals as steals
use Rattle.plain_scheduler.specs.State.{Choice, Plain}
use Rattle.plain_scheduler.specs.Takes.{kept, robbed}
use Rattle.solo_laws.specs.Road.{wakes}
use Rattle.solo_laws.specs.Tabled.{Stands, goes_on}

-- so many of this mark
abbrev pub so_many : ℕ → Mark → List Mark
so_many zero mark = []
so_many (suc n) mark = mark ∷ so_many n mark

-- how many a run steals
abbrev pub share_of : {F T X : Type 0} → Source → ℕ → Solo F T X → ℕ
share_of source r s = steals.share (steals.length_of source s) (own.free_of r s.runs)

-- which it then keeps: of both queues, where that is due, those of the urgent one first
abbrev pub stolen_marks : {F T X : Type 0} → Bool → ℕ → Solo F T X → List Mark
stolen_marks false r s = []
stolen_marks true r s =
    so_many (share_of (Common Urgent) r s) Urgent
    ++ so_many (share_of (Common PlainMark) r (steals.stolen (Common Urgent) r s)) PlainMark

module _ {F T X : Type 0} (its : ℕ → Lent) (s : Solo F T X) (p : Plain T (SoloWaker X)) where
  -- of one of the executor's queues
  abbrev pub KeepsAlike : Type 0
  KeepsAlike =
      (c : Choice) (r : ℕ) (mark : Mark) → goes_on r p ≡ true → c.keeps ≡ so_many (share_of (Common mark) r s) mark
      → Stands its (steals.stolen (Common mark) r s) (kept wakes c r p)

  -- of both, at every 64th take
  abbrev pub KeepsOfBoth : Type 0
  KeepsOfBoth =
      (c : Choice) (r : ℕ) (due : Bool) → goes_on r p ≡ true → c.keeps ≡ stolen_marks due r s
      → Stands its (steals.stolen_if due r s) (kept wakes c r p)

  -- of another run
  abbrev pub RobsAlike : Type 0
  RobsAlike =
      (c : Choice) (r other : ℕ) → goes_on r p ≡ true → (r == other) ≡ false → c.moves ≡ share_of (Own other) r s
      → Stands its (steals.stolen (Own other) r s) (robbed wakes c r (Some other) p)
