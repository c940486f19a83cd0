-- Where a run of an executor of one owner searches: as the plain scheduler's does, and what is known of it there.
use Rattle.std.specs.Prelude.{if◌then◌else◌, ◌≡◌, ℕ, ◌≤◌, length, true, List}
use Rattle.solo.specs.declared.names.SoloWaker.{SoloWaker}
use Rattle.solo.specs.declared.owed.Lent.{Lent}
use Rattle.solo.specs.declared.runs.Runner.{Runner}
use Rattle.solo.specs.declared.solo.Solo.{Solo}
use Rattle.plain_scheduler.specs.State.{ARun, Choice, Event}
use Rattle.plain_scheduler.specs.Searches.{Search, finds}
use Rattle.solo_laws.specs.Numbered.{IsNumbered}
use Rattle.solo_laws.specs.Owner.{HasRoom, HasRunner, Owner, taken_by_run}
use Rattle.solo_laws.specs.RunGoing.{Searches}
use Rattle.solo_laws.specs.RunResting.{EachListed}
use Rattle.solo_laws.specs.Tabled.{Stands, goes_on}

-- a run as its owner has it searches as the plain scheduler has come to a search by it; both stand alike there, and since the call began
-- no turn was taken and no own queue changed; it counts one where any is due, and else none
pub record SearchesAt {F T X : Type 0} (its : ℕ → Lent) (owner : Owner) (c : Choice) (s : Solo F T X) (x : Search T (SoloWaker X))
    (now : Owner) (z : Solo F T X) : Type 0 where
  pub runner : Runner
  pub number : runner.number ≡ x.run
  pub has : HasRunner runner owner
  pub before : Solo F T X
  pub shown : List (Event T (SoloWaker X))
  pub stands : Stands its before x.at
  pub numbered : IsNumbered owner.number before.sleepers x.at.lying
  pub listed : EachListed before.runs
  pub going : goes_on runner.number x.at ≡ true
  pub room : HasRoom (ARun runner.number) before x.at
  pub few : length x.at.lying ≤ c.tells
  pub turn : before.lines.turn ≡ s.lines.turn
  pub runs : before.runs ≡ s.runs
  pub counts : (k : ℕ) → now.runner k ≡ (if finds x then taken_by_run runner owner else owner).runner k
  pub searches : Searches its owner c runner x.waker before x.at shown now z
