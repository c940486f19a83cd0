-- Calls one inside another. A party begins a call, also where it stands in user code, or user code of its ends; then it goes on until
-- nothing is left to do or it stands in user code once more. Each of these is a call of the plain scheduler, or the end of the code that
-- is innermost there.
use Rattle.std.specs.Prelude.{◌≡◌, ℕ, ◌<◌, ◌==◌, Bool, true, false, ◌&&◌, ◌||◌, not, List, [], ◌∷◌, ◌++◌, length, reverse, Option, Some}
use Rattle.std.specs.Prelude.{None, Ok, is_some}
use Rattle.task_moves.specs.declared.moves.owed.Move.TheVariants as move
use Rattle.executor_parts.specs.declared.mark.Mark.{Mark}
use Rattle.executor_model.specs.declared.call.By.{By}
use Rattle.executor_model.specs.declared.call.Call.{Call}
use Rattle.executor_model.specs.declared.call.Call.TheVariants as call
use Rattle.executor_model.specs.declared.call.Reply.TheVariants as reply
use Rattle.executor_model.specs.declared.event.Answer.TheVariants.{Pending, Ready}
use Rattle.executor_model.specs.declared.kind.Kind.{Kind}
use Rattle.executor_model.specs.declared.op.HandleOp.TheVariants as handle_op
use Rattle.executor_model.specs.declared.op.Hold.TheVariants as hold
use Rattle.executor_model.specs.declared.op.ListOp.TheVariants as list_op
use Rattle.executor_model.specs.declared.op.Op.{Op}
use Rattle.executor_model.specs.declared.op.Op.TheVariants as op
use Rattle.executor_model.specs.declared.op.RunOp.TheVariants as run_op
use Rattle.executor_model.specs.declared.op.RunPoll.{RunPoll}
use Rattle.executor_model.specs.declared.op.Section.TheVariants as section
use Rattle.executor_model.specs.declared.op.TableOp.TheVariants as table_op
use Rattle.executor_model.specs.declared.op.UserOp.TheVariants as user_op
use Rattle.executor_model.specs.declared.op.Waker.{Waker}
use Rattle.executor_model.specs.declared.step.Step.{Step}
use Rattle.executor_model.specs.declared.step.Step.TheVariants.{Answer, Begin, Go}
use Rattle.executor_model.specs.declared.step.UserEnd.TheVariants.{Done as Over, Polled}
use Rattle.executor_model.specs.Executions.{run_all}
use Rattle.executor_model.specs.Steps.{Machine, after, future_of, is_on_executor, is_static_kind, kept, mine, party_of, stack, start, top}
use Rattle.executor_model.specs.Steps.{waker_of}
use Rattle.executor_model.specs.World.{Done, World, done}
use Rattle.plain_scheduler.specs.State.{Choice, Closed, Code, Done as IsDone, Drop, DropOwn, Lose, Plain, PollOwn, Ready as IsReady, Run}
use Rattle.plain_scheduler.specs.State.{Taker}
use Rattle.plain_scheduler.specs.State.{Tick, Try}
use Rattle.plain_scheduler.specs.Moves as moves
use Rattle.plain_scheduler.specs.Calls as plain
use Rattle.plain_scheduler.specs.Calls.{does, new}
use Rattle.machine_roads.specs.View.{Output, wakes}
use Rattle.machine_roads.specs.Road.{Follows}
use Rattle.machine_roads.specs.Alone.{is_outside, is_resting}
use Rattle.machine_roads.specs.Choosing.{Chooses}
use Rattle.machine_roads.specs.Course.{IsChosen}
use Rattle.machine_roads.specs.Dropped.{Drops, rest_of}
use Rattle.machine_roads.specs.Forgotten.{StopsForgetting}
use Rattle.machine_roads.specs.InForgotten.{StandsForgotten}
use Rattle.machine_roads.specs.InLoss.{AreLosing, StopsInLoss, loss_codes, loss_ops}
use Rattle.machine_roads.specs.Refused.{IsLaterAnew}
use Rattle.machine_roads.specs.Searching.{goes_on_by, start_at}
use Rattle.machine_roads.specs.Stopped.{Stopped}
use Rattle.machine_roads.specs.Untaken.{StandsUntaken, polls}

-- a call that begins or user code that ends, the steps behind that, and the machine that they leave
pub record Act : Type 0 where
  pub party : ℕ
  pub first : Step
  pub steps : List Step
  pub left : Machine

abbrev pub calls_outside : Option Op → Bool
calls_outside None = false
calls_outside (Some o) = is_outside o

-- a step by which the party goes on: it does what it has to do, or the call of an outside waker ends
abbrev pub goes_on : ℕ → Machine → Step → Bool
goes_on p s (Begin q c) = false
goes_on p s (Go q h) = p == q
goes_on p s (Answer q e) = (p == q) && calls_outside (top (stack s p))

-- behind such steps it rests: nothing is left to do, or user code has to answer
abbrev pub rests_after : ℕ → List Step → Machine → Bool
rests_after p [] s = is_resting (reverse (stack s p))
rests_after p (t ∷ ts) s = goes_on p s t && rests_after p ts (after s t)

-- from this word on the list of queues is read in it
abbrev pub start_in : Machine → Act → ℕ
start_in s a = start_at a.party (after s a.first) a.steps

-- it acts so, and no other party has begun anything
pub record IsAct (s : Machine) (a : Act) : Type 0 where
  pub others : (q : ℕ) → ¬ (q ≡ a.party) → stack s q ≡ []
  pub its : party_of a.first ≡ a.party
  pub made : run_all (a.first ∷ a.steps) s ≡ Ok a.left
  pub rests : rests_after a.party a.steps (after s a.first) ≡ true

-- where the party stands
abbrev pub standing : Machine → ℕ → Done
standing s p = done s.world (reverse (stack s p))

-- in the drop of an output, in that of a future that nobody could wake any more, and in that of the own future of a run that goes, the
-- call still owes something
abbrev pub owes : List Op → Bool
owes (op.User (user_op.DropOwn r) ∷ op.Run o ∷ os) = true
owes (op.User (user_op.DropOwn r) ∷ op.List (list_op.LockWrite (section.Unregister k reply.Done)) ∷ os) = true
owes (op.User (user_op.DropOutput f) ∷ os) = true
owes (op.User (user_op.Drop f) ∷ op.Table (table_op.LeaveTable g) ∷ op.Handle (handle_op.LetGo h) ∷ os) = true
owes _ = false

-- all calls but the executor's drop
abbrev pub may_stand_in : Call → Bool
may_stand_in call.DropExecutor = false
may_stand_in _ = true

-- in the drop of an output, in that of a future that nobody could wake any more, and in that of the own future of a run that goes
abbrev pub lets_begin : List Op → Bool
lets_begin (op.User (user_op.DropOutput f) ∷ op.Move move.Detach g ∷ os) = true
lets_begin (op.User (user_op.DropOutput f) ∷ op.Move move.GiveUp g ∷ os) = true
lets_begin (op.User (user_op.DropOutput f) ∷ op.Handle (handle_op.Notify g mine) ∷ os) = true
lets_begin (op.User (user_op.Drop f) ∷ op.Table (table_op.LeaveTable g) ∷ op.Handle (handle_op.LetGo h) ∷ os) = true
lets_begin (op.User (user_op.DropOwn r) ∷ op.Run o ∷ os) = true
lets_begin (op.User (user_op.DropOwn r) ∷ op.List (list_op.LockWrite (section.Unregister k reply.Done)) ∷ os) = true
lets_begin _ = false

-- a poll of a task whose run's reference has still to be given up: its output, which nobody can take, is being dropped
abbrev pub polls_untaken : List Op → Call → Bool
polls_untaken [] c = false
polls_untaken (op.Move move.GiveUp f ∷ os) c = polls f c || polls_untaken os c
polls_untaken (o ∷ os) c = polls_untaken os c

-- there calls of wakers and handles begin, but such polls; where else one owes something no call does
abbrev pub may_begin_in : List Op → Call → Bool
may_begin_in os c = not (owes os) || (lets_begin os && not (is_on_executor c || polls_untaken os c))

abbrev pub is_on_way : List Op → Step → Bool
is_on_way os (Begin p c) = may_stand_in c && may_begin_in os c
is_on_way os _ = true

-- one act after the other
abbrev pub AreActs : Machine → List Act → Type 0
AreActs s [] = Unit {0}
AreActs s (a ∷ acts) = IsAct s a × (is_on_way (reverse (stack s a.party)) a.first ≡ true) × AreActs a.left acts

-- which call of the plain scheduler begins, in a poll by this waker if in one: a kept waker is that of its future
pub data IsCallIn (here : Option Waker) (w : World) : Call → plain.Call Output Waker → Type 0 where
  spawn : (m : Mark) → IsCallIn here w (call.Spawn m) (plain.Spawn m)
  try_tick : IsCallIn here w call.TryTick plain.TryTick
  is_empty : IsCallIn here w call.IsEmpty plain.IsEmpty
  use_waker : (k f : ℕ) → kept w k ≡ Some f → IsCallIn here w (call.Wake k) (plain.Use f)
  wake : (k f : ℕ) → kept w k ≡ Some f → IsCallIn here w (call.WakeByRef k) (plain.Wake f)
  copy : (k f : ℕ) → kept w k ≡ Some f → IsCallIn here w (call.Copy k) (plain.Copy f)
  release : (k f : ℕ) → kept w k ≡ Some f → IsCallIn here w (call.DropWaker k) (plain.Release f)
  keep : (f : ℕ) → future_of here ≡ Some f → IsCallIn here w call.Keep (plain.Copy f)
  wake_self : (f : ℕ) → future_of here ≡ Some f → IsCallIn here w call.WakeSelf (plain.Wake f)
  poll_handle : (f : ℕ) (b : By) → IsCallIn here w (call.PollHandle f b) (plain.PollHandle f (waker_of here b))
  cancel : (f : ℕ) → IsCallIn here w (call.Cancel f) (plain.Cancel f)
  detach : (f : ℕ) → IsCallIn here w (call.Detach f) (plain.Detach f)
  drop_handle : (f : ℕ) → IsCallIn here w (call.DropHandle f) (plain.DropHandle f)
  new_tick : IsCallIn here w call.NewTick plain.NewTick
  poll_tick : (t : ℕ) (b : By) → IsCallIn here w (call.PollTick t b) (plain.PollTick t (waker_of here b))
  drop_tick : (t : ℕ) → IsCallIn here w (call.DropTick t) (plain.DropTick t)
  new_run : IsCallIn here w call.NewRun plain.NewRun
  poll_run : (r : ℕ) (b : By) → IsCallIn here w (call.PollRun r b) (plain.PollRun r (waker_of here b))
  drop_run : (r : ℕ) → IsCallIn here w (call.DropRun r) (plain.DropRun r)
  leak : IsCallIn here w call.Leak plain.Leak

-- what an act is that begins so: a call, or the end of the innermost code
pub data IsMade (s : Machine) (p : ℕ) : Step → plain.Call Output Waker → Type 0 where
  begins : (c : Call) (x : plain.Call Output Waker) → IsCallIn (mine (top (stack s p))) s.world c x → IsMade s p (Begin p c) x
  pends : IsMade s p (Answer p (Polled Pending)) plain.Pends
  gives : IsMade s p (Answer p (Polled Ready)) (plain.EndsWith tt)
  ends : IsMade s p (Answer p Over) plain.Ends

-- a call that begins is made by what is chosen so, and where code ends who lay down last is told
abbrev pub IsChosenAt : Step → World → Plain Output Waker → Choice → Type 0
IsChosenAt (Begin p c) w q d = IsChosen w q d
IsChosenAt t w q d = length q.lying < d.tells

-- the plain scheduler makes that, and where a run searches in it the machine chooses as told, from this starting word on; this world
-- it leaves
pub record ActsBy (s : Machine) (p : ℕ) (t : Step) (q r : Plain Output Waker) (v : World) (start : ℕ) : Type 0 where
  pub choice : Choice
  pub made : plain.Call Output Waker
  pub chosen : IsChosenAt t s.world q choice
  pub is : IsMade s p t made
  pub so : does wakes choice made q ≡ r
  pub anew : IsLaterAnew choice made q r
  pub chooses : Chooses start s.world v choice made q

-- how a call that takes goes on behind what it took: a try and a tick's poll are answered, and a run searches on, or after its 200th
-- calls its own waker
pub data GoesOnBy : Taker Waker → Op → Type 0 where
  by_try : GoesOnBy Try (op.End reply.Yes hold.Executor)
  by_tick : (t : ℕ) (a : Waker) → GoesOnBy (Tick t a) (op.End reply.Ready (hold.Tick t))
  by_run : (x : RunPoll) (last : Bool) → GoesOnBy (Run x.run x.waker) (goes_on_by x last)

-- what a party has still to do in tries, polls of ticks and of runs, one inside another, each in the poll or the drop of the future that it
-- took, or of the run's own, and the code in which the plain scheduler's calls stand
pub data Nested : List Op → List (Code Output Waker) → Type 0 where
  nowhere : Nested [] []
  takes : (taker : Taker Waker) (final : Op) (below os : List Op) (inside codes : List (Code Output Waker))
      → GoesOnBy taker final → Nested below inside → Stopped taker final below inside os codes
      → Nested os codes
  polls_own : (x : RunPoll) (below : List Op) (inside : List (Code Output Waker)) → Nested below inside
      → Nested (op.User (user_op.PollOwn x) ∷ below) (PollOwn x.run x.waker ∷ inside)
  drops_own : (r : ℕ) (below : List Op) (inside : List (Code Output Waker)) → Nested below inside
      → Nested (op.User (user_op.DropOwn r) ∷ op.List (list_op.LockWrite (section.Unregister r reply.Ready)) ∷ below)
      (DropOwn r IsReady ∷ inside)

-- what is left of a run that goes: its own queue leaves the list, if it stands there, and what is in it is appended
pub data IsLeaving (r : ℕ) : Op → Type 0 where
  unlisted : IsLeaving r (op.Run (run_op.Reschedule r reply.Done))
  listed : IsLeaving r (op.List (list_op.LockWrite (section.Unregister r reply.Done)))

-- its own future is being dropped, and in that outputs, one inside another; both stand alike but that the plain scheduler's run isn't over
-- yet, and but for the handles that go with these outputs
pub record StopsGoing (r : ℕ) (fs : List ℕ) (below : List Op) (codes : List (Code Output Waker)) (e : Done) (q : Plain Output Waker)
    : Type 0 where
  pub rest : Op
  pub leaving : IsLeaving r rest
  pub left : e.next ≡ loss_ops fs (op.User (user_op.DropOwn r) ∷ rest ∷ below)
  pub inside : q.inside ≡ loss_codes fs (DropOwn r IsDone ∷ codes)
  pub losing : AreLosing e.world fs (moves.runs (λ run. record run { is_over = true }) r q)

-- an output that nobody can take is being dropped, and in that others, which go with their handles, one inside another
pub record StopsUntaken (taker : Taker Waker) (final : Op) (below : List Op) (f : ℕ) (awaiter : Option Waker) (gs : List ℕ)
    (codes : List (Code Output Waker)) (e : Done) (q : Plain Output Waker) : Type 0 where
  pub left : e.next ≡ loss_ops gs (op.User (user_op.DropOutput f) ∷ (rest_of (is_some awaiter) f final ++ below))
  pub inside : q.inside ≡ loss_codes gs (Lose awaiter (Some taker) ∷ codes)
  pub stands : StandsUntaken e.world f awaiter gs q

-- a future that nobody could wake is being dropped, and in that outputs, which go with their handles, one inside another
pub record StopsForgotten (taker : Taker Waker) (final : Op) (below : List Op) (f : ℕ) (gs : List ℕ) (codes : List (Code Output Waker))
    (e : Done) (q : Plain Output Waker) : Type 0 where
  pub left : e.next
      ≡ loss_ops gs (op.User (user_op.Drop f) ∷ op.Table (table_op.LeaveTable f) ∷ op.Handle (handle_op.LetGo f) ∷ final ∷ below)
  pub inside : q.inside ≡ loss_codes gs (Drop f Closed taker ∷ codes)
  pub stands : StandsForgotten e.world f gs q

-- both stand alike, or, in such a drop, alike but for what the call still owes
pub data StandsAlike (e : Done) (q : Plain Output Waker) : Type 0 where
  alike : Nested e.next q.inside → Follows e.world q → StandsAlike e q
  losing : (f : ℕ) (fs : List ℕ) (below : List Op) (codes : List (Code Output Waker)) → Nested below codes
      → StopsInLoss (f ∷ fs) below codes e q → StandsAlike e q
  going : (r : ℕ) (fs : List ℕ) (below : List Op) (codes : List (Code Output Waker)) → Nested below codes
      → StopsGoing r fs below codes e q → StandsAlike e q
  dropping : (taker : Taker Waker) (final : Op) (below : List Op) (f : ℕ) (b : Plain Output Waker)
      → GoesOnBy taker final → Nested below b.inside → Drops taker final below f b e q → StandsAlike e q
  untaken : (taker : Taker Waker) (final : Op) (below : List Op) (f : ℕ) (awaiter : Option Waker) (g : ℕ) (gs : List ℕ)
      (codes : List (Code Output Waker)) → GoesOnBy taker final → Nested below codes
      → StopsUntaken taker final below f awaiter (g ∷ gs) codes e q → StandsAlike e q
  forgetting : (taker : Taker Waker) (final : Op) (below : List Op) (f : ℕ) (b : Plain Output Waker)
      → GoesOnBy taker final → Nested below b.inside → StopsForgetting taker final below f b e q
      → StandsAlike e q
  forgotten : (taker : Taker Waker) (final : Op) (below : List Op) (f g : ℕ) (gs : List ℕ) (codes : List (Code Output Waker))
      → GoesOnBy taker final → Nested below codes → StopsForgotten taker final below f (g ∷ gs) codes e q → StandsAlike e q

-- at each moment at which a party rests
abbrev pub ActAlike : Machine → Plain Output Waker → List Act → Type 0
ActAlike s q [] = Unit {0}
ActAlike s q (a ∷ acts) =
    (r : Plain Output Waker) × ActsBy s a.party a.first q r a.left.world (start_in s a) × StandsAlike (standing a.left a.party) r
    × ActAlike a.left r acts

-- so it is from a new machine on
abbrev pub ListsActAlike : Type 0
ListsActAlike =
    (limit : ℕ) (kind : Kind) (parties : ℕ) (acts : List Act) → AreActs (start limit kind parties) acts
    → ActAlike (start limit kind parties) (new limit (is_static_kind kind)) acts
