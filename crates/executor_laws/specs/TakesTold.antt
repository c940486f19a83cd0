-- What it means for the trace that a step takes a future up: its poll begins by it, or, where the future is closed, its drop is to
-- be done next. No other step begins a poll of a future.
use Rattle.std.specs.Prelude.{◌≡◌, ℕ, true, false, None, Some, [], ◌∷◌, ◌++◌}
use Rattle.task_moves.specs.declared.moves.owed.Move.TheVariants as move
use Rattle.executor_model.specs.declared.event.Event.TheVariants.{PollBegun}
use Rattle.executor_model.specs.declared.op.Op.TheVariants as op
use Rattle.executor_model.specs.declared.op.TableOp.TheVariants as table_op
use Rattle.executor_model.specs.declared.step.Hint.{Hint}
use Rattle.executor_model.specs.declared.step.Step.{Step}
use Rattle.executor_model.specs.declared.step.Step.TheVariants.{Go}
use Rattle.executor_model.specs.Steps.{Machine, party_of, refusal, stack, step, stepped, top}
use Rattle.executor_model.specs.Trace.{Trace, has}
use Rattle.executor_model.specs.World.{among, task}
use Rattle.executor_laws.specs.RunFew.{begins_poll}
use Rattle.executor_laws.specs.RunTakes.{takes_up}

-- more has happened, and no poll of a future began
abbrev pub BeginsNone : Trace → Trace → Type 0
BeginsNone es now = (more : Trace) × (now ≡ es ++ more) × (has begins_poll more ≡ false)

pub record TakesAreTold (s : Machine) : Type 0 where
  pub polled : (p f : ℕ) (h : Hint) → refusal s (Go p h) ≡ None → top (stack s p) ≡ Some (op.Move move.TakeUp f) →
      (task s.world f).closed ≡ false → (stepped s (step s (Go p h))).world.trace ≡ s.world.trace ++ PollBegun p f ∷ []
  -- unless the drop of the executor has taken it out of the table, and drops it
  pub dropped : (p f : ℕ) (h : Hint) → refusal s (Go p h) ≡ None → top (stack s p) ≡ Some (op.Move move.TakeUp f) →
      (task s.world f).closed ≡ true → among f s.world.table ≡ true →
      top (stack (stepped s (step s (Go p h))) p) ≡ Some (op.Table (table_op.TakeToDrop f))
  pub only : (t : Step) → takes_up (refusal s t) (party_of t) t (top (stack s (party_of t))) ≡ false →
      BeginsNone s.world.trace (stepped s (step s t)).world.trace
