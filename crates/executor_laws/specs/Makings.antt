-- What it means that a tick or a run was made.
use Rattle.std.specs.Prelude.{◌≡◌, ◌⊎◌, ℕ, ◌==◌, Bool, false, None, List, [], ◌∷◌, ◌++◌, length}
use Rattle.executor_model.specs.declared.call.Call.{Call}
use Rattle.executor_model.specs.declared.call.Call.TheVariants.{NewRun, NewTick, PollTick}
use Rattle.executor_model.specs.declared.call.Reply.TheVariants.{Made, NoMemory}
use Rattle.executor_model.specs.declared.event.Event.{Event}
use Rattle.executor_model.specs.declared.event.Event.TheVariants.{CallBegun, CallEnded}
use Rattle.executor_model.specs.declared.op.TickOrRun.TheVariants as tick_or_run
use Rattle.executor_model.specs.declared.step.Step.{Step}
use Rattle.executor_model.specs.declared.step.Step.TheVariants.{Begin}
use Rattle.executor_model.specs.Deeds.{deeds}
use Rattle.executor_model.specs.Standing.{polls_sleeper}
use Rattle.executor_model.specs.Steps.{Machine, party_of, refusal, run, step, stepped}
use Rattle.executor_model.specs.Trace.{Trace, has}
use Rattle.executor_model.specs.World.{World, Awake, new_run}

-- a call that polls tick n begins
abbrev pub polls_tick : ℕ → Event → Bool
polls_tick n (CallBegun p (PollTick t b)) = n == t
polls_tick n _ = false

-- one more tick is there, which lives; it has the next number, of which no poll has begun, and the others stay
pub record MakesTick (w v : World) : Type 0 where
  pub ticks : v.ticks ≡ w.ticks ++ Awake ∷ []
  pub unpolled : has (polls_tick (length w.ticks)) w.trace ≡ false

-- one more run is there, which lives, with an own queue in which nothing stands; it has the next number, of which no poll was
-- told, and the others stay
pub record MakesRun (w v : World) : Type 0 where
  pub runs : v.runs ≡ w.runs ++ new_run ∷ []
  pub own : v.own ≡ w.own ++ [] ∷ []
  pub unpolled : has (polls_sleeper (tick_or_run.Run (length w.runs))) w.trace ≡ false

-- one of these steps is party p's, and does so
abbrev pub OneMakes : (World → World → Type 0) → ℕ → List Step → Machine → Type 0
OneMakes M p [] s = ⊥
OneMakes M p (t ∷ ts) s = ((party_of t ≡ p) × M s.world (stepped s (step s t)).world)
    ⊎ OneMakes M p ts (stepped s (step s t))

-- it was made by one of these steps, and the answer says so; or memory is wanted
abbrev pub IsMadeSo : (World → World → Type 0) → ℕ → Event → List Step → Machine → Type 0
IsMadeSo M p e steps s = ((e ≡ CallEnded p Made) × OneMakes M p steps s) ⊎ (e ≡ CallEnded p NoMemory)

-- where party p begins this call, the next thing of it is the answer, whatever others do meanwhile; and where that is that it
-- was made, one of its own steps since then made it
abbrev pub MakesSo : Call → (World → World → Type 0) → Machine → Type 0
MakesSo c M s = (p : ℕ) → refusal s (Begin p c) ≡ None → (steps : List Step) (e : Event) (later : Trace) →
    deeds p (run steps (stepped s (step s (Begin p c)))).world.trace ≡ deeds p s.world.trace ++ CallBegun p c ∷ e ∷ later →
    IsMadeSo M p e steps (stepped s (step s (Begin p c)))

pub record MadeIsMade (s : Machine) : Type 0 where
  pub tick : MakesSo NewTick MakesTick s
  pub run : MakesSo NewRun MakesRun s
