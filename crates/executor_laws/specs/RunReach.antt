-- Which future a poll of a run takes that is made alone.
use Rattle.std.specs.Prelude.{◌≡◌, ℕ, ◌≤◌, true, Option, Some, None, List, [], ◌∷◌, length}
use Rattle.executor_model.specs.declared.call.By.{By}
use Rattle.executor_model.specs.declared.call.Call.TheVariants.{DropRun, PollRun}
use Rattle.executor_model.specs.declared.event.Answer.TheVariants.{Pending}
use Rattle.executor_model.specs.declared.step.Step.{Step}
use Rattle.executor_model.specs.declared.step.Step.TheVariants.{Begin, Go, Answer}
use Rattle.executor_model.specs.declared.step.UserEnd.{UserEnd}
use Rattle.executor_model.specs.declared.step.UserEnd.TheVariants.{Polled}
use Rattle.executor_model.specs.Due.{IsDue}
use Rattle.executor_model.specs.Emptiness.{IsAtRest}
use Rattle.executor_model.specs.Keeper.{IsCommon, IsKeeper}
use Rattle.executor_model.specs.Sound.{times}
use Rattle.executor_model.specs.Steps.{Machine}
use Rattle.executor_model.specs.Trace.{Trace, has}
use Rattle.executor_laws.specs.LoneEnds.{IsLoneCall}
use Rattle.executor_laws.specs.Reach.{since, takes}

-- what user code answers first in these steps
abbrev pub first_answer : List Step → Option UserEnd
first_answer [] = None
first_answer (Begin p c ∷ ts) = None
first_answer (Go p h ∷ ts) = first_answer ts
first_answer (Answer p e ∷ ts) = Some e

-- a whole poll of run r that party p makes alone, in which the run's own future, which is polled first, isn't ready
pub record IsLonePoll (p r : ℕ) (b : By) (steps : List Step) (s new : Machine) : Type 0 where
  pub call : IsLoneCall p (PollRun r b) steps s new
  pub pending : first_answer steps ≡ Some (Polled Pending)

-- future f is due, and run r keeps it
pub record Keeps (r f : ℕ) (trace : Trace) : Type 0 where
  pub due : IsDue f trace
  pub keeper : IsKeeper r f trace

-- the poll or the drop of one that run r kept has begun
pub record TakesKept (r : ℕ) (s new : Machine) : Type 0 where
  pub future : ℕ
  pub kept : Keeps r future s.world.trace
  pub taken : has (takes future) (since s new) ≡ true

-- and that of one that was common
pub record TakesOneCommon (s new : Machine) : Type 0 where
  pub future : ℕ
  pub common : IsCommon future s.world.trace
  pub taken : has (takes future) (since s new) ≡ true

-- while run r keeps a future, each lone poll of it takes one that it keeps; where it keeps none and one is common,
-- it takes one that is
pub record IsReachedByRuns (s : Machine) : Type 0 where
  pub kept : IsAtRest s → (r f : ℕ) → Keeps r f s.world.trace → (p : ℕ) (b : By) (steps : List Step) (new : Machine) →
      IsLonePoll p r b steps s new → TakesKept r s new
  pub common : IsAtRest s → (r f : ℕ) → IsCommon f s.world.trace → ((g : ℕ) → ¬ Keeps r g s.world.trace) →
      (p : ℕ) (b : By) (steps : List Step) (new : Machine) → IsLonePoll p r b steps s new → TakesOneCommon s new

-- once run r is dropped by a call that is made alone, what it kept is common
abbrev pub LeavesCommon : Machine → Type 0
LeavesCommon s = IsAtRest s → (r f : ℕ) → Keeps r f s.world.trace → (p : ℕ) (steps : List Step) (new : Machine) →
    IsLoneCall p (DropRun r) steps s new → IsCommon f new.world.trace

-- a poll of a run: by a party, with a waker, and the steps by which the party goes on with it
pub record LoneRunPoll : Type 0 where
  pub party : ℕ
  pub by : By
  pub steps : List Step

-- such polls of run r, one after the other, lead from s to new
abbrev pub AreLonePolls : ℕ → List LoneRunPoll → Machine → Machine → Type 0
AreLonePolls r [] s new = s ≡ new
AreLonePolls r (t ∷ ts) s new = (next : Machine) × IsLonePoll t.party r t.by t.steps s next × AreLonePolls r ts next new

-- the list has each future that run r keeps
abbrev pub HasKept : ℕ → Trace → List ℕ → Type 0
HasKept r trace keeps = (f : ℕ) → Keeps r f trace → 1 ≤ times f keeps

-- a run's own queue is first in, first out: as many lone polls of it as it keeps futures at their start take each of
-- those, whatever it keeps meanwhile
abbrev pub IsKeptReached : Machine → Type 0
IsKeptReached s = IsAtRest s → (r : ℕ) (keeps : List ℕ) → HasKept r s.world.trace keeps →
    (polls : List LoneRunPoll) (new : Machine) → AreLonePolls r polls s new → length keeps ≤ length polls →
    (f : ℕ) → Keeps r f s.world.trace → has (takes f) (since s new) ≡ true
