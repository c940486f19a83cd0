-- A list of polls of a run that are made alone takes each common future.
use Rattle.std.specs.Prelude.{◌≡◌, ℕ, ◌+◌, ◌≤◌, true, All, List, filter, length}
use Rattle.executor_parts.specs.declared.mark.Mark.{Mark}
use Rattle.executor_parts.specs.declared.mark.Mark.TheVariants.{Plain}
use Rattle.executor_model.specs.Emptiness.{IsAtRest}
use Rattle.executor_model.specs.Keeper.{IsCommon}
use Rattle.executor_model.specs.Steps.{Machine}
use Rattle.executor_model.specs.Trace.{has}
use Rattle.executor_model.specs.World.{mark_of}
use Rattle.executor_laws.specs.Reach.{HasCommons, HasCommonsOf, names, since, takes}
use Rattle.executor_laws.specs.RunReach.{AreLonePolls, HasKept, LoneRunPoll}

-- a run takes a turn only where its own queue is empty, so what it has moved there is taken by then: lone polls of it in which as
-- many turns name a mark as futures of it are common at their start take each of those, whatever it keeps and whatever becomes
-- common meanwhile. Where all futures are plain, it takes first what stands in its own queue, then what is common, and what it
-- moves from there keeps its turn: as many lone polls as it keeps futures and are common at their start take each that was common
pub record IsCommonReached (s : Machine) : Type 0 where
  pub by_mark : IsAtRest s → (r : ℕ) (m : Mark) (commons : List ℕ) → HasCommonsOf m s commons →
      (polls : List LoneRunPoll) (new : Machine) → AreLonePolls r polls s new →
      length commons ≤ length (filter (names m) (since s new)) →
      (f : ℕ) → IsCommon f s.world.trace → mark_of s.world f ≡ m → has (takes f) (since s new) ≡ true
  pub plain : IsAtRest s → (r : ℕ) (keeps commons : List ℕ) → HasKept r s.world.trace keeps →
      HasCommons s.world.trace commons → (polls : List LoneRunPoll) (new : Machine) → AreLonePolls r polls s new →
      All (λ m. m ≡ Plain) new.world.marks → length keeps + length commons ≤ length polls → (f : ℕ) → IsCommon f s.world.trace →
      has (takes f) (since s new) ≡ true
