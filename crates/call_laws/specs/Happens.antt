-- Lists of steps in which what these laws speak of does happen.
use Rattle.std.specs.Prelude.{◌≡◌, ℕ, zero, suc, true, None, List, [], ◌∷◌, ◌++◌, Err}
use Rattle.executor_parts.specs.declared.mark.Mark.TheVariants.{Plain, Urgent}
use Rattle.executor_model.specs.declared.call.By.TheVariants.{Outside}
use Rattle.executor_model.specs.declared.call.Call.{Call}
use Rattle.executor_model.specs.declared.call.Call.TheVariants.{Cancel, Detach, DropExecutor, DropRun, DropTick, DropWaker, Keep}
use Rattle.executor_model.specs.declared.call.Call.TheVariants.{Leak, NewRun, NewTick, PollRun, Spawn, TryTick, Wake}
use Rattle.executor_model.specs.declared.call.Reply.TheVariants as reply
use Rattle.executor_model.specs.declared.event.Answer.TheVariants.{Pending, Ready}
use Rattle.executor_model.specs.declared.event.Event.TheVariants.{Accepted, Answered, CallBegun, CallEnded, Cancelled, Detached, Dropped}
use Rattle.executor_model.specs.declared.event.Event.TheVariants.{LastWaker, Looked, OutputDropped, PollBegun, RunDropped, RunPolled}
use Rattle.executor_model.specs.declared.event.Event.TheVariants.{Leaked, TickDropped, Woken}
use Rattle.executor_model.specs.declared.kind.Kind.TheVariants.{Owned, Static}
use Rattle.executor_model.specs.declared.step.Step.{Step}
use Rattle.executor_model.specs.declared.step.Step.TheVariants.{Answer, Begin, Go}
use Rattle.executor_model.specs.declared.step.StepError.{StepError}
use Rattle.executor_model.specs.declared.step.StepError.TheVariants.{Borrowed, Busy, Gone, Idle, NoSuch, Waits, WrongAnswer}
use Rattle.executor_model.specs.declared.step.UserEnd.TheVariants.{Done, Polled}
use Rattle.executor_model.specs.Steps.{run, start, step}
use Rattle.executor_model.specs.Trace.{Trace}
use Rattle.executor_model.specs.World.{Left, tick_of}
use Rattle.call_laws.specs.Interleaved.{unrefused}
use Rattle.call_laws.specs.OwnDrops.{own_drops}

-- party p goes on so often; where it can't, that changes nothing
abbrev pub goes : ℕ → ℕ → List Step
goes p n = elim n [ zero ↦ [] | suc (m → rest) ↦ Go p unrefused ∷ rest ]

-- it makes this call, and goes on so long as no user code must answer
abbrev pub makes : ℕ → Call → List Step
makes p c = Begin p c ∷ goes p 12

abbrev pub ends : ℕ → List Step
ends p = Answer p Done ∷ goes p 12

-- a future is spawned, and taken up by party 0
abbrev pub taken_up : List Step
taken_up = makes 0 (Spawn Plain) ++ makes 0 TryTick

-- while it is polled, party 1 cancels it; its poll is answered, and it is dropped
abbrev pub cancels : List Step
cancels = taken_up ++ (makes 1 (Cancel 0) ++ (Answer 0 (Polled Pending) ∷ goes 0 12 ++ ends 0))

-- it is ready, and its handle is let go: its output is dropped
abbrev pub lets_go : List Step
lets_go = taken_up ++ (Answer 0 (Polled Ready) ∷ goes 0 12 ++ (ends 0 ++ (makes 0 (Detach 0) ++ ends 0)))

-- on a static executor it is detached, and ends its poll without a waker
abbrev pub forgets : List Step
forgets = makes 0 (Spawn Plain) ++ (makes 0 (Detach 0) ++ (makes 0 TryTick ++ (Answer 0 (Polled Pending) ∷ goes 0 12 ++ ends 0)))

-- a run's own future is ready, and the run is dropped behind that
abbrev pub runs : List Step
runs = makes 0 NewRun ++ (makes 0 (PollRun 0 (Outside 0)) ++ (Answer 0 (Polled Ready) ∷ goes 0 12 ++ (ends 0 ++ makes 0 (DropRun 0))))

-- a run is dropped that was never polled
abbrev pub drops_run : List Step
drops_run = makes 0 NewRun ++ (makes 0 (DropRun 0) ++ ends 0)

abbrev pub drops_tick : List Step
drops_tick = makes 0 NewTick ++ makes 0 (DropTick 0)

-- a future keeps its waker, which is let go behind its poll
abbrev pub keeps : List Step
keeps = taken_up ++ (makes 0 Keep ++ (Answer 0 (Polled Pending) ∷ goes 0 12 ++ makes 0 (DropWaker 0)))

-- an executor with a future is leaked
abbrev pub leaks : List Step
leaks = makes 0 (Spawn Plain) ++ makes 0 Leak

abbrev pub spawned : Trace
spawned = CallBegun 0 (Spawn Plain) ∷ Accepted 0 0 ∷ CallEnded 0 reply.Made ∷ []

abbrev pub tried : Trace
tried = CallBegun 0 TryTick ∷ Looked 0 Urgent ∷ PollBegun 0 0 ∷ []

-- a step is refused so, behind these on a new owned executor for one future, of two parties
abbrev pub IsRefused : List Step → Step → StepError → Type 0
IsRefused steps t e = step (run steps (start 1 Owned 2)) t ≡ Err e

-- what then has happened
pub record LawsAreMet : Type 0 where
  pub cancelled : (run cancels (start 1 Owned 2)).world.trace ≡ spawned ++ (tried ++ (CallBegun 1 (Cancel 0) ∷ Cancelled 1 0
      ∷ CallEnded 1 reply.Done ∷ Answered 0 0 Pending ∷ Dropped 0 0 ∷ CallEnded 0 reply.Yes ∷ []))
  pub forgotten : (run forgets (start 1 Static 1)).world.trace ≡ spawned ++ (CallBegun 0 (Detach 0) ∷ Detached 0 0
      ∷ CallEnded 0 reply.Done ∷ tried ++ (Answered 0 0 Pending ∷ LastWaker 0 0 ∷ Dropped 0 0 ∷ CallEnded 0 reply.Yes ∷ []))
  pub unread : (run lets_go (start 1 Owned 1)).world.trace ≡ spawned ++ (tried ++ (Answered 0 0 Ready ∷ Dropped 0 0
      ∷ CallEnded 0 reply.Yes ∷ CallBegun 0 (Detach 0) ∷ OutputDropped 0 0 ∷ Detached 0 0 ∷ CallEnded 0 reply.Done ∷ []))
  pub ran : (run runs (start 1 Owned 1)).world.trace ≡ CallBegun 0 NewRun ∷ CallEnded 0 reply.Made
      ∷ CallBegun 0 (PollRun 0 (Outside 0)) ∷ RunPolled 0 0 ∷ CallEnded 0 reply.Ready ∷ CallBegun 0 (DropRun 0) ∷ RunDropped 0 0
      ∷ CallEnded 0 reply.Done ∷ []
  pub ran_once : own_drops 0 runs (start 1 Owned 1) ≡ 1
  pub unpolled_once : own_drops 0 drops_run (start 1 Owned 1) ≡ 1
  pub ticked : (run drops_tick (start 1 Owned 1)).world.trace ≡ CallBegun 0 NewTick ∷ CallEnded 0 reply.Made ∷ CallBegun 0 (DropTick 0)
      ∷ TickDropped 0 0 ∷ CallEnded 0 reply.Done ∷ []
  pub tick_gone : tick_of (run drops_tick (start 1 Owned 1)).world 0 ≡ Left
  pub kept : (run keeps (start 1 Owned 1)).world.trace ≡ spawned ++ (tried ++ (CallBegun 0 Keep ∷ CallEnded 0 reply.Made
      ∷ Answered 0 0 Pending ∷ CallEnded 0 reply.Yes ∷ CallBegun 0 (DropWaker 0) ∷ CallEnded 0 reply.Done ∷ []))
  pub used_up : (run keeps (start 1 Owned 1)).world.wakers ≡ None ∷ []
  pub leaked : (run leaks (start 1 Owned 1)).world.trace
      ≡ spawned ++ (CallBegun 0 Leak ∷ Woken 0 0 ∷ Leaked 0 0 ∷ CallEnded 0 reply.Done ∷ [])
  pub static : (run leaks (start 1 Owned 1)).world.is_static ≡ true

-- and each cause for which a step is refused
pub record CausesAreMet : Type 0 where
  pub busy : IsRefused (Begin 0 (Spawn Plain) ∷ []) (Begin 0 TryTick) Busy
  pub missing : IsRefused [] (Begin 0 (Wake 0)) NoSuch
  pub gone : IsRefused (Begin 0 DropExecutor ∷ []) (Begin 1 TryTick) Gone
  pub borrowed : IsRefused (makes 0 NewTick) (Begin 1 Leak) Borrowed
  pub idle : IsRefused [] (Go 0 unrefused) Idle
  pub in_code : IsRefused taken_up (Go 0 unrefused) WrongAnswer
  pub unfit : IsRefused taken_up (Answer 0 Done) WrongAnswer
  pub waits : IsRefused (Begin 0 NewRun ∷ goes 0 2 ++ (Begin 1 NewRun ∷ goes 1 1)) (Go 1 unrefused) Waits
