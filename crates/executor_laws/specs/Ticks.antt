-- Whether a tick finds a future is answered as it is.
use Rattle.std.specs.Prelude.{◌≡◌, ◌⊎◌, ℕ, Bool, true, false, ◌<◌, List, [], ◌∷◌, ◌++◌, length}
use Rattle.executor_parts.specs.Marks.{first_of}
use Rattle.executor_model.specs.declared.call.Call.TheVariants.{TryTick}
use Rattle.executor_model.specs.declared.call.Reply.TheVariants.{Yes, No}
use Rattle.executor_model.specs.declared.event.Event.TheVariants.{CallBegun, CallEnded, Looked}
use Rattle.executor_model.specs.declared.op.Hold.TheVariants as hold
use Rattle.executor_model.specs.declared.op.Op.TheVariants as op
use Rattle.executor_model.specs.declared.op.SleeperOp.TheVariants as sleeper_op
use Rattle.task_moves.specs.declared.moves.owed.Move.TheVariants as move
use Rattle.executor_model.specs.declared.step.Hint.{Hint}
use Rattle.executor_model.specs.declared.step.Step.{Step}
use Rattle.executor_model.specs.declared.step.Step.TheVariants.{Begin, Go}
use Rattle.executor_model.specs.Keeper.{IsCommon}
use Rattle.executor_model.specs.Emptiness.{IsAtRest}
use Rattle.executor_model.specs.Steps.{Machine, stack, run}

-- party p calls a tick, which takes its turn and looks at one of the executor's queues, or at both, with no step of another in
-- between
abbrev pub ticks : Bool → ℕ → Hint → List Step
ticks false p h = Begin p TryTick ∷ Go p h ∷ Go p h ∷ []
ticks true p h = Begin p TryTick ∷ Go p h ∷ Go p h ∷ Go p h ∷ []

-- the tick is answered that there is nothing to do, and has ended
abbrev pub FindsNothing : Machine → ℕ → Hint → Type 0
FindsNothing s p h = (run (ticks true p h) s).world.trace ≡
    s.world.trace ++ CallBegun p TryTick ∷ Looked p (first_of s.world.urgent_turns) ∷ CallEnded p No ∷ []

-- it has found a future that is common, tells a sleeper next, then takes the future up, and will be answered that it did
pub record FindsCommon (s : Machine) (p : ℕ) (h : Hint) : Type 0 where
  pub future : ℕ
  pub common : IsCommon future s.world.trace
  -- at the second queue that it looks at, or at the first
  pub second : Bool
  pub found : stack (run (ticks second p h) s) p ≡
      op.End Yes hold.Executor ∷ op.Move move.TakeUp future ∷ op.Sleeper sleeper_op.ExchangeFlag ∷ []

-- where no call is in progress and the drop of the executor hasn't begun,
-- a tick finds nothing exactly where no future is common
pub record IsTickExact (s : Machine) : Type 0 where
  pub answered : IsAtRest s → (p : ℕ) (h : Hint) → p < length s.parties → FindsNothing s p h ⊎ FindsCommon s p h
  pub always : IsAtRest s → (p : ℕ) (h : Hint) → p < length s.parties → ((f : ℕ) → ¬ IsCommon f s.world.trace) →
      FindsNothing s p h
  pub only : IsAtRest s → (p : ℕ) (h : Hint) → p < length s.parties → FindsNothing s p h → (f : ℕ) →
      ¬ IsCommon f s.world.trace
