-- A call on an executor of one owner, step by step: each is followed by what `next` says for what it saw.
use Rattle.std.specs.Prelude.{ℕ, zero, suc, Bool, true, false, is_none, List, [], ◌∷◌, ◌++◌}
use Rattle.call_steps.specs.declared.step.CallStep.TheVariants as step
use Rattle.call_steps.specs.declared.step.run.RunStep.TheVariants as run_step
use Rattle.call_steps.specs.declared.step.table.ClosingStep.{ClosingStep}
use Rattle.call_steps.specs.declared.step.table.ClosingStep.TheVariants as closing_step
use Rattle.call_steps.specs.declared.step.tick.TickStep.TheVariants as tick_step
use Rattle.call_steps.specs.declared.step.user.UserStep.TheVariants as user_step
use Rattle.call_steps.specs.Next.{next}
use Rattle.solo_laws.specs.Going.{Going, Step}
use Rattle.solo_laws.specs.Seen.{sees}
use Rattle.solo_laws.specs.Done.{does, behind}

-- each further thing that a leak or the end has to do is a call of its own
abbrev pub stops_at : ClosingStep → Bool → Bool
stops_at closing_step.TakeOut pauses = false
stops_at closing_step.LeakOut pauses = false
stops_at _ pauses = pauses

module _ {F T X : Type 0} where
  -- here the owner goes on: it polls or drops a future, copies a waker, or calls the run's own
  abbrev pub stops : Step → Going F T X → Bool
  stops (step.User (user_step.Poll f)) g = true
  stops (step.User (user_step.Drop f)) g = true
  stops (step.User (user_step.PollOwn x)) g = true
  stops (step.Tick (tick_step.CopyWaker s)) g = is_none g.waker
  stops (step.Tick (tick_step.Search s)) g = g.rests
  stops (step.Run (run_step.WakeOwn x)) g = true
  stops (step.Run (run_step.Reschedule r reply)) g = g.pauses
  stops (step.Closing o) g = stops_at o g.pauses
  stops _ g = false

  abbrev pub walks : (List Step → Going F T X → Going F T X) → Bool → Step → Going F T X → Going F T X
  walks further true o g = record g { left = o ∷ [] }
  walks further false o g = behind o g (further (next o (sees o g)) (does o g))

  abbrev pub walks_on : (List Step → Going F T X → Going F T X) → List Step → Step → Going F T X → Going F T X
  walks_on further [] o g = walks further (stops o g) o g
  walks_on further left o g = record g { left = left ++ o ∷ [] }

  -- the steps are taken, each with what follows from it, at most so deep; those behind the owner's are left
  abbrev pub goes : ℕ → List Step → Going F T X → Going F T X
  goes zero steps g = record g { left = g.left ++ steps }
  goes (suc deep) [] g = g
  goes (suc deep) (o ∷ rest) g = goes deep rest (walks_on (goes deep) g.left o g)
