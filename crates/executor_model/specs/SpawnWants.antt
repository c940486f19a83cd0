-- Where a spawn is answered that memory is wanted: only where memory was refused, and only where the executor isn't full.
use Rattle.std.specs.Prelude.{◌≡◌, ℕ, Bool, true, false, List, [], ◌∷◌, ◌++◌, length}
use Rattle.executor_parts.specs.declared.mark.Mark.{Mark}
use Rattle.executor_model.specs.declared.call.Call.TheVariants.{Spawn}
use Rattle.executor_model.specs.declared.call.Reply.{Reply}
use Rattle.executor_model.specs.declared.call.Reply.TheVariants.{NoMemory}
use Rattle.executor_model.specs.declared.event.Event.TheVariants.{Accepted, CallEnded}
use Rattle.executor_model.specs.declared.step.Hint.{Hint}
use Rattle.executor_model.specs.declared.step.Step.{Step}
use Rattle.executor_model.specs.declared.step.Step.TheVariants.{Begin, Go, Answer}
use Rattle.executor_model.specs.Calls.{Begun, calls}
use Rattle.executor_model.specs.Entries.{Remains}
use Rattle.executor_model.specs.Limit.{Asks, IsUndropped, ReachLimit}
use Rattle.executor_model.specs.Steps.{Machine, step, stepped}
use Rattle.executor_model.specs.Trace.{Trace}

-- the innermost call of party p that is in progress is a spawn
pub record IsSpawning (p : ℕ) (trace : Trace) : Type 0 where
  pub mark : Mark
  pub own : Trace
  pub outer : List Begun
  pub is : (calls p trace).begun ≡ record { call = Spawn mark; own = own } ∷ outer

-- the step is told that memory is refused
abbrev pub is_refused : Step → Bool
is_refused (Begin p c) = false
is_refused (Go p h) = h.refused
is_refused (Answer p e) = false

-- with this step a call of party p ends that is answered so
abbrev pub Answers : Machine → Step → ℕ → Reply → Type 0
Answers s t p a = (told : Trace) ×
    ((stepped s (step s t)).world.trace ≡ s.world.trace ++ (told ++ CallEnded p a ∷ []))

-- a step that answers a spawn so is told that memory is refused, and then fewer futures than the limit are undropped. A
-- spawn that asks for a place, where fewer are undropped or were dropped in a call that hasn't ended, is answered so at
-- once where memory is refused, and takes its future in where it isn't
pub record SpawnsWantAsTold (s : Machine) : Type 0 where
  pub only : (p : ℕ) (t : Step) → IsSpawning p s.world.trace → Answers s t p NoMemory → is_refused t ≡ true
  pub few : (p : ℕ) (t : Step) → IsSpawning p s.world.trace → Answers s t p NoMemory →
      ¬ ReachLimit s (λ f. IsUndropped f s)
  pub refused : (p : ℕ) (h : Hint) → Asks s p → ¬ ReachLimit s (λ f. Remains f s) → h.refused ≡ true →
      (stepped s (step s (Go p h))).world.trace ≡ s.world.trace ++ CallEnded p NoMemory ∷ []
  pub made : (p : ℕ) (h : Hint) → Asks s p → ¬ ReachLimit s (λ f. Remains f s) → h.refused ≡ false →
      (stepped s (step s (Go p h))).world.trace ≡ s.world.trace ++ Accepted p (length s.world.tasks) ∷ []
