-- What a user relies on, of each machine to which steps of a new one lead, whatever its parties do: `Headline`, at the end. All
-- that it says stands in this file, in words of the trace. What else it takes is the machine: its calls, events and steps.
use Rattle.std.specs.Prelude.{◌≡◌, ◌⊎◌, ℕ, zero, suc, ◌+◌, ◌==◌, ◌<◌, ◌≤◌, Bool, true, false, ◌&&◌, ◌||◌, Option, Some, None, Ok}
use Rattle.std.specs.Prelude.{Result, Err, List, [], ◌∷◌, ◌++◌, count_by, drop, filter, length, slice_get, take}
use Rattle.std.specs.List.{after_first, after_last, before_first, list_all, list_any}
use Rattle.task_moves.specs.declared.moves.owed.Move.TheVariants as move
use Rattle.executor_model.specs.declared.call.By.{By}
use Rattle.executor_model.specs.declared.call.By.TheVariants.{Outside}
use Rattle.executor_model.specs.declared.call.Call.{Call}
use Rattle.executor_model.specs.declared.call.Call.TheVariants as call
use Rattle.executor_model.specs.declared.call.Reply.{Reply}
use Rattle.executor_model.specs.declared.call.Reply.TheVariants as reply
use Rattle.executor_model.specs.declared.event.Answer.TheVariants as answer
use Rattle.executor_model.specs.declared.event.Event.{Event}
use Rattle.executor_model.specs.declared.event.Event.TheVariants as event
use Rattle.executor_model.specs.declared.kind.Kind.{Kind}
use Rattle.executor_model.specs.declared.kind.Kind.TheVariants.{Static}
use Rattle.executor_model.specs.declared.op.Op.{Op}
use Rattle.executor_model.specs.declared.op.Op.TheVariants as op
use Rattle.executor_model.specs.declared.op.Polled.{Polled}
use Rattle.executor_model.specs.declared.op.Polled.TheVariants as polled
use Rattle.executor_model.specs.declared.op.TickOrRun.{TickOrRun}
use Rattle.executor_model.specs.declared.op.TickOrRun.TheVariants.{Tick, Run}
use Rattle.executor_model.specs.declared.step.Hint.{Hint}
use Rattle.executor_model.specs.declared.step.Step.{Step}
use Rattle.executor_model.specs.declared.step.Step.TheVariants.{Begin, Go, Answer}
use Rattle.executor_model.specs.declared.step.StepError.{StepError}
use Rattle.executor_model.specs.declared.step.UserEnd.{UserEnd}
use Rattle.executor_model.specs.declared.step.UserEnd.TheVariants as end
use Rattle.executor_model.specs.Steps.{Machine, lives, run, stack, start, step, stepped, top}
use Rattle.executor_model.specs.Trace.{Trace}
use Rattle.executor_model.specs.World.{tick_of}

-- 1. What an event tells of future f

abbrev pub is_accepted : ℕ → Event → Bool
is_accepted f (event.Accepted p g) = f == g
is_accepted f _ = false

abbrev pub is_poll : ℕ → Event → Bool
is_poll f (event.PollBegun p g) = f == g
is_poll f _ = false

abbrev pub is_answer : ℕ → Event → Bool
is_answer f (event.Answered p g a) = f == g
is_answer f _ = false

abbrev pub is_ready : ℕ → Event → Bool
is_ready f (event.Answered p g answer.Ready) = f == g
is_ready f _ = false

abbrev pub is_cancelled : ℕ → Event → Bool
is_cancelled f (event.Cancelled p g) = f == g
is_cancelled f _ = false

abbrev pub is_detached : ℕ → Event → Bool
is_detached f (event.Detached p g) = f == g
is_detached f _ = false

abbrev pub is_last_waker : ℕ → Event → Bool
is_last_waker f (event.LastWaker p g) = f == g
is_last_waker f _ = false

abbrev pub is_dropped : ℕ → Event → Bool
is_dropped f (event.Dropped p g) = f == g
is_dropped f _ = false

abbrev pub is_output_given : ℕ → Event → Bool
is_output_given f (event.OutputGiven p g) = f == g
is_output_given f _ = false

abbrev pub is_output_dropped : ℕ → Event → Bool
is_output_dropped f (event.OutputDropped p g) = f == g
is_output_dropped f _ = false

-- somebody asks for it: it is accepted, woken, cancelled, left by its last waker, or called by a leak
abbrev pub asks_for : ℕ → Event → Bool
asks_for f (event.Accepted p g) = f == g
asks_for f (event.Woken p g) = f == g
asks_for f (event.Cancelled p g) = f == g
asks_for f (event.LastWaker p g) = f == g
asks_for f (event.Leaked p g) = f == g
asks_for f _ = false

-- it comes into the own queue of a run
abbrev pub is_kept : ℕ → Event → Bool
is_kept f (event.Kept p g r) = f == g
is_kept f _ = false

-- of the executor, and of a call of party p

abbrev pub is_leak_begun : Event → Bool
is_leak_begun (event.CallBegun p call.Leak) = true
is_leak_begun _ = false

abbrev pub is_executor_drop : Event → Bool
is_executor_drop (event.CallBegun p call.DropExecutor) = true
is_executor_drop _ = false

abbrev pub is_drop_begun : Event → Bool
is_drop_begun (event.DropBegun p) = true
is_drop_begun _ = false

abbrev pub begins_call : ℕ → Event → Bool
begins_call p (event.CallBegun q c) = p == q
begins_call p _ = false

abbrev pub ends_call : ℕ → Event → Bool
ends_call p (event.CallEnded q r) = p == q
ends_call p _ = false

-- of a handle, tick or run: it is polled, it goes, and the waker is called that its poll at this place was given, or a copy of it
abbrev pub polls : Polled → Event → Bool
polls (polled.Handle f) (event.HandlePolled p g) = f == g
polls (polled.Tick t) (event.TickPolled p u) = t == u
polls (polled.Run r) (event.RunPolled p q) = r == q
polls who _ = false

abbrev pub poll_of : Polled → ℕ → Event
poll_of (polled.Handle f) p = event.HandlePolled p f
poll_of (polled.Tick t) p = event.TickPolled p t
poll_of (polled.Run r) p = event.RunPolled p r

abbrev pub drops : Polled → Event → Bool
drops (polled.Handle f) (event.CallBegun p (call.Detach g)) = f == g
drops (polled.Handle f) (event.CallBegun p (call.DropHandle g)) = f == g
drops (polled.Tick t) (event.TickDropped p u) = t == u
drops (polled.Run r) (event.RunDropped p q) = r == q
drops who _ = false

abbrev pub calls_waker : Polled → ℕ → Event → Bool
calls_waker (polled.Handle f) poll (event.WakerCalled p (polled.Handle g) k w) = f == g && poll == k
calls_waker (polled.Tick t) poll (event.WakerCalled p (polled.Tick u) k w) = t == u && poll == k
calls_waker (polled.Run r) poll (event.WakerCalled p (polled.Run q) k w) = r == q && poll == k
calls_waker who poll _ = false

-- 2. Moments and calls

abbrev pub has : (Event → Bool) → Trace → Bool
has test trace = list_any test trace

-- what happened behind this place
abbrev pub since : ℕ → Trace → Trace
since place trace = drop (place + 1) trace

-- no call is in progress: as many have ended as have begun
abbrev pub IsQuiet : Trace → Type 0
IsQuiet trace = (p : ℕ) → count_by (begins_call p) trace ≡ count_by (ends_call p) trace

-- at rest: nor has the drop of the executor begun
pub record IsAtRest (trace : Trace) : Type 0 where
  pub quiet : IsQuiet trace
  pub there : has is_drop_begun trace ≡ false

-- the call in which party p stood is answered so: it is the first to end that hasn't begun since
pub record EndsWith (p : ℕ) (r : Reply) (later : Trace) : Type 0 where
  pub place : ℕ
  pub here : slice_get later place ≡ Some (event.CallEnded p r)
  pub inner : count_by (ends_call p) (take place later) ≡ count_by (begins_call p) (take place later)
  pub first : (n : ℕ) → n ≤ place → count_by (ends_call p) (take n later) ≤ count_by (begins_call p) (take n later)

-- 3. Polls and drops of a future

-- polls and answers take turns, a poll first; the last poll may still be open
abbrev pub TakeTurns : Trace → Type 0
TakeTurns [] = Unit {0}
TakeTurns (event.PollBegun p f ∷ []) = Unit {0}
TakeTurns (event.PollBegun p f ∷ event.Answered q g a ∷ rest) = TakeTurns rest
TakeTurns _ = ⊥

-- one party at a time polls it, and none once it was ready or dropped
pub record HasLawfulPolls (f : ℕ) (trace : Trace) : Type 0 where
  pub turns : TakeTurns (filter (λ e. is_poll f e || is_answer f e) trace)
  pub none_after_the_end : has (is_poll f) (after_first (λ e. is_ready f e || is_dropped f e) trace) ≡ false

abbrev pub before_drop : ℕ → Trace → Trace
before_drop f trace = before_first (is_dropped f) trace

-- where it is dropped before it was ready, it was cancelled before, or the executor's drop had begun; or the executor was made
-- static or a leak of it had begun, and the future was detached and left by its last waker
abbrev pub EarlyDropHasCause : Kind → ℕ → Trace → Type 0
EarlyDropHasCause kind f trace =
    has (is_dropped f) trace ≡ true → has (is_ready f) (before_drop f trace) ≡ false →
    (has (is_cancelled f) (before_drop f trace) ≡ true)
    ⊎ ((has is_drop_begun (before_drop f trace) ≡ true)
    ⊎ (((kind ≡ Static) ⊎ (has is_leak_begun (before_drop f trace) ≡ true)) ×
    (has (is_detached f) (before_drop f trace) ≡ true) × (has (is_last_waker f) (before_drop f trace) ≡ true)))

-- once somebody dropped the executor, and no call is in progress, an accepted future was dropped once
abbrev pub IsDroppedInTheEnd : ℕ → Trace → Type 0
IsDroppedInTheEnd f trace =
    IsQuiet trace → has is_executor_drop trace ≡ true → has (is_accepted f) trace ≡ true → count_by (is_dropped f) trace ≡ 1

-- 4. Due futures, and who keeps them

-- it is neither ready nor dropped, no poll of it is open, and somebody asked for it since the last began
pub record IsDue (f : ℕ) (trace : Trace) : Type 0 where
  pub accepted : has (is_accepted f) trace ≡ true
  pub undropped : has (is_dropped f) trace ≡ false
  pub unready : has (is_ready f) trace ≡ false
  pub resting : has (is_poll f) trace ≡ true → has (is_answer f) (after_last (is_poll f) trace) ≡ true
  pub asked_for : has (asks_for f) (after_last (is_poll f) trace) ≡ true

-- since its last poll began, it came last into the own queue of run r, which wasn't dropped since, and answered no poll ready since
pub record IsKeeper (r f : ℕ) (trace : Trace) : Type 0 where
  pub party : ℕ
  pub place : ℕ
  pub kept : slice_get trace place ≡ Some (event.Kept party f r)
  pub last : has (is_kept f) (since place trace) ≡ false
  pub unpolled : has (is_poll f) (since place trace) ≡ false
  pub undropped : has (drops (polled.Run r)) (since place trace) ≡ false
  pub unready : (p poll : ℕ) → slice_get trace poll ≡ Some (event.RunPolled p r) →
      (e : EndsWith p reply.Ready (since poll trace)) → poll + 1 + e.place ≤ place

pub record Keeps (r f : ℕ) (trace : Trace) : Type 0 where
  pub due : IsDue f trace
  pub keeper : IsKeeper r f trace

pub record IsCommon (f : ℕ) (trace : Trace) : Type 0 where
  pub due : IsDue f trace
  pub unkept : (r : ℕ) → ¬ IsKeeper r f trace

-- 5. Who stands, and is called

-- the last poll of a handle, tick or run stands at this place of the trace, by this party
pub record IsLastPoll (who : Polled) (party poll : ℕ) (trace : Trace) : Type 0 where
  pub polled : slice_get trace poll ≡ Some (poll_of who party)
  pub last : has (polls who) (since poll trace) ≡ false

-- that poll was answered so
pub record WasAnswered (who : Polled) (r : Reply) (trace : Trace) : Type 0 where
  pub party : ℕ
  pub poll : ℕ
  pub polled : IsLastPoll who party poll trace
  pub answered : EndsWith party r (since poll trace)

-- it is there, and that poll was answered that nothing is ready
pub record Stands (who : Polled) (trace : Trace) : Type 0 where
  pub lives : has (drops who) trace ≡ false
  pub pending : WasAnswered who reply.Pending trace

-- the waker of that poll, or a copy of it, was called since it began
pub record IsCalled (who : Polled) (trace : Trace) : Type 0 where
  pub party : ℕ
  pub poll : ℕ
  pub polled : IsLastPoll who party poll trace
  pub called : has (calls_waker who poll) (since poll trace) ≡ true

abbrev pub sleeper : TickOrRun → Polled
sleeper (Tick t) = polled.Tick t
sleeper (Run r) = polled.Run r

-- where no call is in progress, it is due and some tick or run stands, one that stands is called, unless the last poll of one
-- that lives was refused memory
abbrev pub SomeStandingIsCalled : ℕ → Trace → Type 0
SomeStandingIsCalled f trace =
    IsQuiet trace → IsDue f trace → (who : TickOrRun) → Stands (sleeper who) trace →
    ((one : TickOrRun) → has (drops (sleeper one)) trace ≡ false → ¬ WasAnswered (sleeper one) reply.NoMemory trace) →
    (one : TickOrRun) × Stands (sleeper one) trace × IsCalled (sleeper one) trace

-- and a run that keeps it stands and is called, unless its own last poll was refused memory
abbrev pub KeeperIsCalled : ℕ → Trace → Type 0
KeeperIsCalled f trace =
    (r : ℕ) → IsQuiet trace → Keeps r f trace → ¬ WasAnswered (polled.Run r) reply.NoMemory trace →
    Stands (polled.Run r) trace × IsCalled (polled.Run r) trace

-- once it was dropped, its handle is called if that stands
abbrev pub AwaiterIsKept : ℕ → Trace → Type 0
AwaiterIsKept f trace =
    IsQuiet trace → has (is_dropped f) trace ≡ true → Stands (polled.Handle f) trace → IsCalled (polled.Handle f) trace

-- 6. Lone calls

-- these steps in order, each of which is possible
abbrev pub run_all : List Step → Machine → Result Machine StepError
run_all [] s = Ok s
run_all (t ∷ ts) s = elim (step s t) [ Ok new ↦ run_all ts new | Err error ↦ Err error ]

-- a step by which party p goes on with its call, or its user code answers
abbrev pub goes_on : ℕ → Step → Bool
goes_on p (Begin q c) = false
goes_on p (Go q h) = p == q
goes_on p (Answer q e) = p == q

-- party p begins the call and goes on by these steps to its end: no other party takes a step, and user code begins no call
pub record IsLoneCall (p : ℕ) (c : Call) (steps : List Step) (s new : Machine) : Type 0 where
  pub made : run_all (Begin p c ∷ steps) s ≡ Ok new
  pub alone : list_all (goes_on p) steps ≡ true
  pub ended : IsQuiet new.world.trace

-- what happened from one machine to the other
abbrev pub between : Machine → Machine → Trace
between s new = drop (length s.world.trace) new.world.trace

-- the poll or the drop of the future begins
abbrev pub takes : ℕ → Event → Bool
takes f e = is_poll f e || is_dropped f e

abbrev pub IsTaken : ℕ → Machine → Machine → Type 0
IsTaken f s new = has (takes f) (between s new) ≡ true

-- the list has it
abbrev pub lists : List ℕ → ℕ → Bool
lists fs f = list_any (λ g. f == g) fs

-- 7. In reach of ticks

-- how a call that looks for one future is answered where it finds one: a tick that is tried, and a poll of a tick
abbrev pub found_answer : Call → Option Reply
found_answer call.TryTick = Some reply.Yes
found_answer (call.PollTick t by) = Some reply.Ready
found_answer _ = None

-- such a call is answered so, and takes a future that was common
pub record FindsCommon (p : ℕ) (c : Call) (r : Reply) (s new : Machine) : Type 0 where
  pub future : ℕ
  pub common : IsCommon future s.world.trace
  pub meanwhile : Trace
  pub events : new.world.trace ≡ s.world.trace ++ event.CallBegun p c ∷ (meanwhile ++ event.CallEnded p r ∷ [])
  pub taken : has (takes future) meanwhile ≡ true

pub record IsSearch (s new : Machine) : Type 0 where
  pub party : ℕ
  pub call : Call
  pub found : Reply
  pub searches : found_answer call ≡ Some found
  pub steps : List Step
  pub lone : IsLoneCall party call steps s new

-- so many, one after the other
abbrev pub AreSearches : ℕ → Machine → Machine → Type 0
AreSearches zero s new = s ≡ new
AreSearches (suc n) s new = (next : Machine) × IsSearch s next × AreSearches n next new

-- the list has each future that becomes common behind so many events, with the place of the event by which it does
abbrev pub HasComings : ℕ → Trace → List (ℕ × ℕ) → Type 0
HasComings from trace comings = (f place : ℕ) → from ≤ place → place < length trace →
    ¬ IsCommon f (take place trace) → IsCommon f (take (suc place) trace) →
    list_any (λ c. c.0 == f && c.1 == place) comings ≡ true

-- while some future is common, each search finds one; so as many searches as are common at their start, and become common in
-- them, take each that was common. Each party can try a tick, and can poll one that lives
pub record IsInReach (s : Machine) : Type 0 where
  pub each : (f : ℕ) → IsCommon f s.world.trace → (p : ℕ) (c : Call) (r : Reply) → found_answer c ≡ Some r →
      (steps : List Step) (new : Machine) → IsLoneCall p c steps s new → FindsCommon p c r s new
  pub all : (commons : List ℕ) → ((f : ℕ) → IsCommon f s.world.trace → lists commons f ≡ true) →
      (n : ℕ) (new : Machine) → AreSearches n s new →
      (comings : List (ℕ × ℕ)) → HasComings (length s.world.trace) new.world.trace comings →
      length commons + length comings ≤ n → (f : ℕ) → IsCommon f s.world.trace → IsTaken f s new
  pub can_try : (p : ℕ) → p < length s.parties → (steps : List Step) × (new : Machine) × IsLoneCall p call.TryTick steps s new
  pub can_poll : (p : ℕ) → p < length s.parties → (t x : ℕ) → lives (tick_of s.world t) ≡ true →
      (steps : List Step) × (new : Machine) × IsLoneCall p (call.PollTick t (Outside x)) steps s new

-- 8. In reach of runs

-- what user code answers first in these steps
abbrev pub first_answer : List Step → Option UserEnd
first_answer [] = None
first_answer (Begin p c ∷ ts) = None
first_answer (Go p h ∷ ts) = first_answer ts
first_answer (Answer p e ∷ ts) = Some e

-- a lone poll of run r, in which the run's own future, which is polled first, isn't ready
pub record IsLonePoll (r p : ℕ) (b : By) (steps : List Step) (s new : Machine) : Type 0 where
  pub lone : IsLoneCall p (call.PollRun r b) steps s new
  pub pending : first_answer steps ≡ Some (end.Polled answer.Pending)

-- the futures whose task the steps of party p take up, in order
abbrev pub taken_by : Step → Option Op → List ℕ
taken_by (Go p h) (Some (op.Move move.TakeUp f)) = f ∷ []
taken_by t o = []

abbrev pub taken_up : ℕ → List Step → Machine → List ℕ
taken_up p [] s = []
taken_up p (t ∷ ts) s = taken_by t (top (stack s p)) ++ taken_up p ts (stepped s (step s t))

-- so many lone polls of run r, one after the other, which take these futures up
abbrev pub ArePolls : ℕ → ℕ → List ℕ → Machine → Machine → Type 0
ArePolls r zero taken s new = (taken ≡ []) × (s ≡ new)
ArePolls r (suc n) taken s new =
    (p : ℕ) × (b : By) × (steps : List Step) × (next : Machine) × (later : List ℕ) × IsLonePoll r p b steps s next ×
    (taken ≡ taken_up p (Begin p (call.PollRun r b) ∷ steps) s ++ later) × ArePolls r n later next new

-- a poll of a run takes one that the run keeps; so as many polls as it keeps take each of these, and no other before. Each party
-- can poll a run that keeps one. What a run kept is common once it was dropped by a lone call
pub record IsKeptInReach (r : ℕ) (s : Machine) : Type 0 where
  pub each : (f : ℕ) → Keeps r f s.world.trace → (p : ℕ) (b : By) (steps : List Step) (new : Machine) →
      IsLonePoll r p b steps s new → (g : ℕ) × Keeps r g s.world.trace × IsTaken g s new
  pub all : (keeps : List ℕ) → ((f : ℕ) → Keeps r f s.world.trace → lists keeps f ≡ true) →
      (n : ℕ) (taken : List ℕ) (new : Machine) → ArePolls r n taken s new → length keeps ≤ n →
      (f : ℕ) → Keeps r f s.world.trace → IsTaken f s new
  pub first : (n : ℕ) (taken : List ℕ) (new : Machine) → ArePolls r n taken s new →
      (f g : ℕ) → Keeps r f s.world.trace → ¬ Keeps r g s.world.trace → (before after : List ℕ) →
      taken ≡ before ++ g ∷ after → lists before f ≡ true
  pub can : (f : ℕ) → Keeps r f s.world.trace → (p x : ℕ) → p < length s.parties →
      (steps : List Step) × (new : Machine) × IsLonePoll r p (Outside x) steps s new
  pub left : (f : ℕ) → Keeps r f s.world.trace → (p : ℕ) (steps : List Step) (new : Machine) →
      IsLoneCall p (call.DropRun r) steps s new → IsCommon f new.world.trace

-- 9. Outputs

-- where it was ready and not cancelled, no poll of its handle was given the output and the handle is there, the output is given to
-- the next poll of the handle, by whatever party, waker and hint
abbrev pub OutputIsKept : Machine → ℕ → Type 0
OutputIsKept s f =
    IsQuiet s.world.trace → has (is_ready f) s.world.trace ≡ true → has (is_cancelled f) s.world.trace ≡ false →
    has (is_output_given f) s.world.trace ≡ false → has (drops (polled.Handle f)) s.world.trace ≡ false →
    (p x : ℕ) (h : Hint) → p < length s.parties →
    (run (Begin p (call.PollHandle f (Outside x)) ∷ Go p h ∷ []) s).world.trace ≡
    s.world.trace ++ event.CallBegun p (call.PollHandle f (Outside x)) ∷ event.HandlePolled p f ∷ event.OutputGiven p f ∷
    event.CallEnded p reply.Ready ∷ []

-- 10. Together

-- steps of a new machine of this kind lead here
pub record IsReachedAs (kind : Kind) (s : Machine) : Type 0 where
  pub limit : ℕ
  pub parties : ℕ
  pub steps : List Step
  pub here : s ≡ run steps (start limit kind parties)

-- so many steps are left, by one function of the machine alone: each step that begins no call lowers it
pub record CallsEnd : Type 0 where
  pub left : Machine → ℕ
  pub lowered : (kind : Kind) (s new : Machine) (p : ℕ) (t : Step) → IsReachedAs kind s → goes_on p t ≡ true → step s t ≡ Ok new →
      left new < left s

pub record Headline (s : Machine) : Type 0 where
  -- each future is polled by one party at a time, and never after its end
  pub polls : (f : ℕ) → HasLawfulPolls f s.world.trace
  -- and dropped early only by a cancel, the executor's drop, or, detached and static, for want of wakers
  pub causes : (kind : Kind) → IsReachedAs kind s → (f : ℕ) → EarlyDropHasCause kind f s.world.trace
  -- it is dropped once at most, and once after the executor's drop
  pub drops : (f : ℕ) → count_by (is_dropped f) s.world.trace ≤ 1
  pub dropped : (f : ℕ) → IsDroppedInTheEnd f s.world.trace
  -- where one is due and some tick or run stands, one that stands is called
  pub called : (f : ℕ) → SomeStandingIsCalled f s.world.trace
  -- and so is a run that keeps it
  pub keepers : (f : ℕ) → KeeperIsCalled f s.world.trace
  -- each common one is in reach of ticks
  pub in_reach : IsAtRest s.world.trace → IsInReach s
  -- and each kept one of its keeper
  pub kept_in_reach : IsAtRest s.world.trace → (r : ℕ) → IsKeptInReach r s
  -- an output is given to a poll or dropped, once at most, and one that is there is given to the next poll
  pub outputs : (f : ℕ) → count_by (is_output_given f) s.world.trace + count_by (is_output_dropped f) s.world.trace ≤ 1
  pub outputs_kept : (f : ℕ) → OutputIsKept s f
  -- who waits on a handle is called
  pub awaiters : (f : ℕ) → AwaiterIsKept f s.world.trace
  -- calls end
  pub ends : CallsEnd
