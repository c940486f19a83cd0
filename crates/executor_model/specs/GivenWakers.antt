-- A poll keeps the waker that it was given, and that one is called for it: no other.
use Rattle.std.specs.Prelude.{◌≡◌, ℕ, ◌==◌, Bool, true, false, ◌&&◌, Option, Some, None, List, ◌∷◌, ◌++◌, length}
use Rattle.std.specs.Prelude.{slice_get}
use Rattle.executor_model.specs.declared.call.By.{By}
use Rattle.executor_model.specs.declared.call.By.TheVariants.{Mine, Outside}
use Rattle.executor_model.specs.declared.call.Call.{Call}
use Rattle.executor_model.specs.declared.call.Call.TheVariants.{PollHandle, PollTick, PollRun}
use Rattle.executor_model.specs.declared.event.Event.{Event}
use Rattle.executor_model.specs.declared.event.Event.TheVariants.{CallBegun, HandlePolled, RunPolled, TickPolled}
use Rattle.executor_model.specs.declared.event.Event.TheVariants.{WakerCalled}
use Rattle.executor_model.specs.declared.op.Awaiter.{Awaiter}
use Rattle.executor_model.specs.declared.op.Polled.{Polled}
use Rattle.executor_model.specs.declared.op.Sleeping.{Sleeping}
use Rattle.executor_model.specs.declared.op.Waker.{Waker}
use Rattle.executor_model.specs.declared.op.Waker.TheVariants as waker
use Rattle.executor_model.specs.declared.step.Step.{Step}
use Rattle.executor_model.specs.declared.step.Step.TheVariants.{Begin}
use Rattle.executor_model.specs.Deeds.{is_by}
use Rattle.executor_model.specs.Steps.{Machine, mine, refusal, run, stack, step, stepped, top}
use Rattle.executor_model.specs.Trace.{Trace, has}
use Rattle.executor_model.specs.World.{World, awaiter_of}

-- the waker that a poll is given: the one of the poll in which its party stands, or one from outside
abbrev pub given_by : Option Waker → By → Option Waker
given_by here Mine = here
given_by here (Outside x) = Some (waker.Outside x)

abbrev pub given : Option Waker → Call → Option Waker
given here (PollHandle f b) = given_by here b
given here (PollTick t b) = given_by here b
given here (PollRun r b) = given_by here b
given here _ = None

-- this tells of the poll that party p makes by the call
abbrev pub tells_of_poll : ℕ → Call → Event → Bool
tells_of_poll p (PollHandle f b) (HandlePolled q g) = p == q && f == g
tells_of_poll p (PollTick t b) (TickPolled q u) = p == q && t == u
tells_of_poll p (PollRun r b) (RunPolled q o) = p == q && r == o
tells_of_poll p _ _ = false

-- of the poll at this place of the trace the machine keeps this waker alone, and this one alone was called
pub record IsItsWaker (poll : ℕ) (a : Waker) (w : World) : Type 0 where
  pub awaiters : (f : ℕ) (x : Awaiter) → awaiter_of w f ≡ Some x → x.poll ≡ poll → x.waker ≡ a
  pub sleepers : (n m : ℕ) (x : Sleeping) → slice_get w.sleepers.wakers n ≡ Some (m, x) → x.poll ≡ poll → x.waker ≡ a
  pub called : (n p : ℕ) (o : Polled) (b : Waker) → slice_get w.trace n ≡ Some (WakerCalled p o poll b) → b ≡ a

-- where party p makes a poll by this call, and the poll is the next thing that it does, however the parties go on, the
-- waker that the call was given is the poll's
abbrev pub PollsKeepTheirWakers : Machine → Type 0
PollsKeepTheirWakers s =
    (p : ℕ) (c : Call) (a : Waker) → refusal s (Begin p c) ≡ None → given (mine (top (stack s p))) c ≡ Some a →
    (steps : List Step) (between later : Trace) (e : Event) →
    (run steps (stepped s (step s (Begin p c)))).world.trace ≡ (s.world.trace ++ CallBegun p c ∷ between) ++ e ∷ later →
    has (is_by p) between ≡ false → tells_of_poll p c e ≡ true →
    IsItsWaker (length (s.world.trace ++ CallBegun p c ∷ between)) a (run steps (stepped s (step s (Begin p c)))).world
