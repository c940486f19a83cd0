-- A run of an executor of one owner counts what it takes as the plain scheduler's does, and both let others go first at the same.
use Rattle.std.specs.Prelude.{◌≡◌, ℕ, ◌+◌, ◌<◌, nat_lt, not, if◌then◌else◌, true, find, Some}
use Rattle.solo.specs.declared.names.SoloWaker.{SoloWaker}
use Rattle.solo.specs.declared.runs.Runner.{Runner}
use Rattle.solo.specs.Runs as runs
use Rattle.plain_scheduler.specs.State.{Choice, Due, Plain, Run}
use Rattle.plain_scheduler.specs.Moves.{chosen, looks}
use Rattle.plain_scheduler.specs.Takes as takes
use Rattle.solo_laws.specs.Owner.{Owner}
use Rattle.solo_laws.specs.Road.{wakes}
use Rattle.solo_laws.specs.RunGoing.{taken_by}
use Rattle.solo_laws.specs.Tabled.{goes_on}

-- so what its owner knows of each run's count is what that has taken, and whether it is to let others go first
abbrev pub EachCounted : {T X : Type 0} → Owner → Plain T (SoloWaker X) → Type 0
EachCounted owner p =
    (r : ℕ) → ((owner.runner r).number ≡ r) × ((owner.runner r).taken ≡ (if nat_lt (taken_by r p) 200 then taken_by r p else 0))
    × (owner.gives_way r ≡ not (nat_lt (taken_by r p) 200))

module _ {T X : Type 0} (c : Choice) (p : Plain T (SoloWaker X)) where
  -- where both have counted as many, a take says that the run is to let others go first just where the plain scheduler's then does; and
  -- both have counted as many again, those since then
  abbrev pub RunsCount : Type 0
  RunsCount =
      (r : ℕ) (w : SoloWaker X) (runner : Runner) → goes_on r p ≡ true → runner.taken < 200 → runner.taken ≡ taken_by r p
      → (d : Due) → find (chosen (looks c (Run r w)) p.due) p.due ≡ Some d
      → let q = takes.take wakes c (Run r w) p in
      (taken_by r q ≡ taken_by r p + 1) × (nat_lt (taken_by r q) 200 ≡ not (runs.gives_way runner))
      × ((runs.taken (runs.counted runner)).taken ≡ (if nat_lt (taken_by r q) 200 then taken_by r q else 0))

  -- once it has, both count anew
  abbrev pub RunsCountAnew : Type 0
  RunsCountAnew = (r : ℕ) (w : SoloWaker X) → goes_on r p ≡ true → taken_by r (takes.gives_way wakes c r w p) ≡ 0
