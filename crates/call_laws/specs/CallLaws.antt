-- All that this crate says of each machine to which steps of a new one lead, whatever its parties do: a line a law. Of a future f,
-- of a run r, of a party q.
use Rattle.std.specs.Prelude.{◌≡◌, ℕ, List}
use Rattle.executor_model.specs.declared.kind.Kind.{Kind}
use Rattle.executor_model.specs.declared.step.Step.{Step}
use Rattle.executor_model.specs.Steps.{Machine, run, start}
use Rattle.call_laws.specs.Begins.{CallsBegin}
use Rattle.call_laws.specs.DroppedGone.{DroppedIsGone}
use Rattle.call_laws.specs.DropsEntered.{DropsAreEntered}
use Rattle.call_laws.specs.DropsTold.{DropsAreTold}
use Rattle.call_laws.specs.Leaked.{LeakedIsStatic}
use Rattle.call_laws.specs.LeftAlone.{IsLeftAlone}
use Rattle.call_laws.specs.LivingWakers.{FewLive}
use Rattle.call_laws.specs.OutputsEntered.{OutputDropsAreEntered}
use Rattle.call_laws.specs.OwnDrops.{OwnDropsAreEntered, OwnIsDroppedOnce}
use Rattle.call_laws.specs.Steps.{AnswersAreTaken, GoesAreTaken}
use Rattle.call_laws.specs.UsedUp.{UsedUpIsGone}

pub record CallLaws (s : Machine) : Type 0 where
  -- a step is refused exactly for the first of its causes
  pub begins : CallsBegin s
  pub goes : GoesAreTaken s
  pub ends : AnswersAreTaken s
  -- no poll begins behind a cancel, or once nobody is left who could wake the future
  pub left_alone : (f : ℕ) → IsLeftAlone f s.world.trace
  -- the drops of futures and outputs that are told are entered, and those of runs' own futures where these are ready or the run is dropped
  pub drops : DropsAreEntered s
  pub output_drops : OutputDropsAreEntered s
  pub own_drops : OwnDropsAreEntered s
  -- a run's own future is dropped once
  pub own_once : (limit : ℕ) (kind : Kind) (parties : ℕ) (steps : List Step) → s ≡ run steps (start limit kind parties) →
      (r : ℕ) → OwnIsDroppedOnce limit kind parties steps r
  -- each ended drop of a tick or run was told, and it is gone
  pub told : (q : ℕ) → DropsAreTold q s.world.trace
  pub gone : DroppedIsGone s
  -- a leak that has ended has made the executor static
  pub leaked : LeakedIsStatic s
  -- a waker that is used up is gone, and at most 2^40 wakers of a future live
  pub used_up : UsedUpIsGone s
  pub few : (f : ℕ) → FewLive s f
