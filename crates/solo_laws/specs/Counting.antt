-- What is counted in each call: the turns of the executor's two queues that it takes, and the futures that runs have taken. A run counts
-- those to 64, and then anew.
use Rattle.std.specs.Prelude.{◌≡◌, ℕ, ◌<◌, ◌≤◌, List, length}
use Rattle.solo.specs.declared.names.SoloWaker.{SoloWaker}
use Rattle.solo.specs.declared.owed.Lent.{Lent}
use Rattle.solo.specs.declared.solo.Solo.{Solo}
use Rattle.plain_scheduler.specs.State.{Choice, Event, Plain}
use Rattle.plain_scheduler.specs.Calls.{Call}
use Rattle.plain_scheduler.specs.Turns.{turned_in, turns_of}
use Rattle.plain_scheduler.specs.Usual.{counted_by}
use Rattle.solo_laws.specs.Courses.{Acts}
use Rattle.solo_laws.specs.Led.{IsLed}
use Rattle.solo_laws.specs.Owner.{Owner}
use Rattle.solo_laws.specs.Road.{wakes}

-- how many each run has counted since the last 64th
abbrev pub counts_of : Owner → ℕ → ℕ
counts_of owner k = (owner.runner k).counted

module _ (F T X : Type 0) where
  abbrev pub CallsTakeTurns : Type 0
  CallsTakeTurns =
      (its : ℕ → Lent) (owner : Owner) (c : Choice) (s : Solo F T X) (p : Plain T (SoloWaker X)) (now : Owner) (z : Solo F T X)
      (call : Call T (SoloWaker X)) (shown : List (Event T (SoloWaker X))) → IsLed its owner s p → length p.lying ≤ c.tells
      → Acts its owner c s p call shown now z → z.lines.turn ≡ turned_in (turns_of wakes c call p) s.lines.turn

  abbrev pub CallsCount : Type 0
  CallsCount =
      (its : ℕ → Lent) (owner : Owner) (c : Choice) (s : Solo F T X) (p : Plain T (SoloWaker X)) (now : Owner) (z : Solo F T X)
      (call : Call T (SoloWaker X)) (shown : List (Event T (SoloWaker X))) → IsLed its owner s p → length p.lying ≤ c.tells
      → Acts its owner c s p call shown now z → (k : ℕ) → counts_of now k ≡ counted_by wakes c call p (counts_of owner) k

  abbrev pub AllCountTo64 : Type 0
  AllCountTo64 =
      (its : ℕ → Lent) (owner : Owner) (s : Solo F T X) (p : Plain T (SoloWaker X)) → IsLed its owner s p
      → (k : ℕ) → counts_of owner k < 64
