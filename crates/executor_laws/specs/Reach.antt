-- Which futures are reached by calls that look for one and are made alone.
use Rattle.std.specs.Prelude.{◌≡◌, ◌==◌, ℕ, suc, ◌+◌, ◌≤◌, ◌<◌, Bool, true, false, ◌&&◌, ◌||◌, All, filter}
use Rattle.std.specs.Prelude.{Option, Some, None, List, [], ◌∷◌, ◌++◌, length, drop, take}
use Rattle.std.specs.List.{list_any}
use Rattle.executor_parts.specs.declared.mark.Mark.{Mark}
use Rattle.executor_parts.specs.declared.mark.Mark.TheVariants.{Plain}
use Rattle.executor_parts.specs.Marks.{same_mark}
use Rattle.executor_model.specs.declared.call.By.TheVariants.{Outside}
use Rattle.executor_model.specs.declared.call.Call.{Call}
use Rattle.executor_model.specs.declared.call.Call.TheVariants.{PollTick, TryTick}
use Rattle.executor_model.specs.declared.call.Reply.{Reply}
use Rattle.executor_model.specs.declared.call.Reply.TheVariants.{Ready, Yes}
use Rattle.executor_model.specs.declared.event.Event.{Event}
use Rattle.executor_model.specs.declared.event.Event.TheVariants.{CallBegun, CallEnded, Looked}
use Rattle.executor_model.specs.declared.step.Step.{Step}
use Rattle.executor_model.specs.Emptiness.{IsAtRest}
use Rattle.executor_model.specs.Keeper.{IsCommon}
use Rattle.executor_model.specs.Sound.{times}
use Rattle.executor_model.specs.Steps.{Machine, lives}
use Rattle.executor_model.specs.Trace.{Trace, has, is_poll, is_dropped}
use Rattle.executor_model.specs.World.{mark_of, tick_of}
use Rattle.executor_laws.specs.LoneEnds.{IsLoneCall}

abbrev pub IsLoneTick : ℕ → List Step → Machine → Machine → Type 0
IsLoneTick p steps s new = IsLoneCall p TryTick steps s new

-- a call that looks for a future to run, and how it is answered where it finds one: a tick that is tried,
-- and a poll of a tick
abbrev pub found_answer : Call → Option Reply
found_answer TryTick = Some Yes
found_answer (PollTick t by) = Some Ready
found_answer _ = None

-- such a call: a party, the call, and the steps by which the party goes on with it
pub record LoneSearch : Type 0 where
  pub party : ℕ
  pub call : Call
  pub found : Reply
  pub searches : found_answer call ≡ Some found
  pub steps : List Step

-- such calls, one after the other, lead from s to new
abbrev pub AreLoneSearches : List LoneSearch → Machine → Machine → Type 0
AreLoneSearches [] s new = s ≡ new
AreLoneSearches (t ∷ ts) s new =
    (next : Machine) × IsLoneCall t.party t.call t.steps s next × AreLoneSearches ts next new

-- the poll or the drop of future f begins
abbrev pub takes : ℕ → Event → Bool
takes f e = is_poll f e || is_dropped f e

-- the call is answered so, and begins the poll or the drop of a future that was common
pub record TakesCommon (p : ℕ) (c : Call) (reply : Reply) (s new : Machine) : Type 0 where
  pub future : ℕ
  pub common : IsCommon future s.world.trace
  pub meanwhile : Trace
  pub events : new.world.trace ≡ s.world.trace ++ CallBegun p c ∷ (meanwhile ++ CallEnded p reply ∷ [])
  pub taken : has (takes future) meanwhile ≡ true

-- what happened between
abbrev pub since : Machine → Machine → Trace
since s new = drop (length s.world.trace) new.world.trace

-- the list has each future that is common
abbrev pub HasCommons : Trace → List ℕ → Type 0
HasCommons trace commons = (f : ℕ) → IsCommon f trace → 1 ≤ times f commons

-- future f becomes common by the event at this place
pub record BecomesCommon (f place : ℕ) (trace : Trace) : Type 0 where
  pub within : place < length trace
  pub before : ¬ IsCommon f (take place trace)
  pub after : IsCommon f (take (suc place) trace)

-- a future that becomes common, and the place of the event by which it does
pub record Coming : Type 0 where
  pub future : ℕ
  pub place : ℕ

abbrev pub is_coming : ℕ → ℕ → Coming → Bool
is_coming f place c = c.future == f && c.place == place

-- the list has each future that becomes common behind so many events, each time
abbrev pub HasComings : ℕ → Trace → List Coming → Type 0
HasComings from trace comings = (f place : ℕ) → from ≤ place → BecomesCommon f place trace →
    list_any (is_coming f place) comings ≡ true

-- while some future is common, each lone call that looks for one takes one that is; so a list of them as long as the
-- futures that are common at its start and those that become common in it, each time counted, takes each that is common
-- at its start. Each party can make one: it can try a tick, and it can poll a tick that lives
pub record IsInReach (s : Machine) : Type 0 where
  pub each : IsAtRest s → (f : ℕ) → IsCommon f s.world.trace → (p : ℕ) (c : Call) (reply : Reply) →
      found_answer c ≡ Some reply →
      (steps : List Step) (new : Machine) → IsLoneCall p c steps s new → TakesCommon p c reply s new
  pub all : IsAtRest s → (commons : List ℕ) → HasCommons s.world.trace commons →
      (searches : List LoneSearch) (new : Machine) →
      AreLoneSearches searches s new →
      (comings : List Coming) → HasComings (length s.world.trace) new.world.trace comings →
      length commons + length comings ≤ length searches →
      (f : ℕ) → IsCommon f s.world.trace → has (takes f) (since s new) ≡ true
  pub can : IsAtRest s → (p : ℕ) → p < length s.parties →
      (steps : List Step) × (new : Machine) × IsLoneTick p steps s new
  pub polls : IsAtRest s → (p : ℕ) → p < length s.parties → (t x : ℕ) → lives (tick_of s.world t) ≡ true →
      (steps : List Step) × (new : Machine) × IsLoneCall p (PollTick t (Outside x)) steps s new

-- a turn names this mark
abbrev pub names : Mark → Event → Bool
names m (Looked p n) = same_mark m n
names m _ = false

-- the list has each future of this mark that is common
abbrev pub HasCommonsOf : Mark → Machine → List ℕ → Type 0
HasCommonsOf m s commons = (f : ℕ) → IsCommon f s.world.trace → mark_of s.world f ≡ m → 1 ≤ times f commons

-- each queue is first in, first out, so such calls in which as many turns name a mark as futures of it are common at their
-- start take each of those, whatever becomes common meanwhile; and where all futures are plain, as many calls do
pub record IsReachedInOrder (s : Machine) : Type 0 where
  pub by_mark : IsAtRest s → (m : Mark) (commons : List ℕ) → HasCommonsOf m s commons →
      (searches : List LoneSearch) (new : Machine) → AreLoneSearches searches s new →
      length commons ≤ length (filter (names m) (since s new)) →
      (f : ℕ) → IsCommon f s.world.trace → mark_of s.world f ≡ m → has (takes f) (since s new) ≡ true
  pub plain : IsAtRest s → (commons : List ℕ) → HasCommons s.world.trace commons →
      (searches : List LoneSearch) (new : Machine) → AreLoneSearches searches s new →
      All (λ m. m ≡ Plain) new.world.marks → length commons ≤ length searches →
      (f : ℕ) → IsCommon f s.world.trace → has (takes f) (since s new) ≡ true
