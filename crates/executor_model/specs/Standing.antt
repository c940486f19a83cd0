-- A tick or run stands where it lives and its last poll was answered that nothing is ready; it is called where the waker of
-- that poll was called since.
use Rattle.std.specs.Prelude.{◌≡◌, ℕ, ◌==◌, Bool, true, false, ◌&&◌, Some, slice_get}
use Rattle.executor_model.specs.declared.call.Reply.TheVariants.{Pending}
use Rattle.executor_model.specs.declared.event.Event.{Event}
use Rattle.executor_model.specs.declared.event.Event.TheVariants.{TickPolled, TickDropped, RunPolled, RunDropped, WakerCalled}
use Rattle.executor_model.specs.declared.op.Polled.TheVariants as of
use Rattle.executor_model.specs.declared.op.TickOrRun.{TickOrRun}
use Rattle.executor_model.specs.declared.op.TickOrRun.TheVariants as tick_or_run
use Rattle.executor_model.specs.AwaiterKept.{EndsWith, since}
use Rattle.executor_model.specs.Trace.{Trace, has}

abbrev pub polls_sleeper : TickOrRun → Event → Bool
polls_sleeper (tick_or_run.Tick t) (TickPolled p u) = t == u
polls_sleeper (tick_or_run.Run r) (RunPolled p q) = r == q
polls_sleeper who _ = false

abbrev pub drops_sleeper : TickOrRun → Event → Bool
drops_sleeper (tick_or_run.Tick t) (TickDropped p u) = t == u
drops_sleeper (tick_or_run.Run r) (RunDropped p q) = r == q
drops_sleeper who _ = false

-- the waker is called that this poll was given
abbrev pub calls_poll : TickOrRun → ℕ → Event → Bool
calls_poll (tick_or_run.Tick t) poll (WakerCalled p (of.Tick u) k waker) = t == u && poll == k
calls_poll (tick_or_run.Run r) poll (WakerCalled p (of.Run q) k waker) = r == q && poll == k
calls_poll who poll _ = false

-- the event by which it is polled
abbrev pub poll_of : TickOrRun → ℕ → Event
poll_of (tick_or_run.Tick t) party = TickPolled party t
poll_of (tick_or_run.Run r) party = RunPolled party r

-- its last poll stands at this place of the trace, by this party
pub record LastPolled (who : TickOrRun) (party poll : ℕ) (trace : Trace) : Type 0 where
  pub polled : slice_get trace poll ≡ Some (poll_of who party)
  pub last : has (polls_sleeper who) (since poll trace) ≡ false

-- it stands: it lives, and its last poll was answered that nothing is ready
pub record Stands (who : TickOrRun) (trace : Trace) : Type 0 where
  pub party : ℕ
  pub poll : ℕ
  pub lives : has (drops_sleeper who) trace ≡ false
  pub polled : LastPolled who party poll trace
  pub pending : EndsWith party Pending (since poll trace)

-- it is called: the waker of its last poll, or a copy of it, was called since that poll began
pub record WasCalled (who : TickOrRun) (trace : Trace) : Type 0 where
  pub party : ℕ
  pub poll : ℕ
  pub polled : LastPolled who party poll trace
  pub called : has (calls_poll who poll) (since poll trace) ≡ true

-- run r has called the waker of its last poll
abbrev pub CallsItself : ℕ → Trace → Type 0
CallsItself r trace = WasCalled (tick_or_run.Run r) trace
