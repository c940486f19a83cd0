-- A spawn is answered that the executor is full exactly where it is.
use Rattle.std.specs.Prelude.{◌≡◌, ℕ, ◌≤◌, false, true, Some, List, [], ◌∷◌, ◌++◌, length}
use Rattle.executor_parts.specs.declared.mark.Mark.{Mark}
use Rattle.executor_model.specs.declared.call.Reply.TheVariants.{Full}
use Rattle.executor_model.specs.declared.event.Event.TheVariants.{CallEnded}
use Rattle.executor_model.specs.declared.op.Op.TheVariants as op
use Rattle.executor_model.specs.declared.op.TableOp.TheVariants as table_op
use Rattle.executor_model.specs.declared.step.Hint.{Hint}
use Rattle.executor_model.specs.declared.step.Step.TheVariants.{Go}
use Rattle.executor_model.specs.Trace.{has, is_accepted, is_dropped}
use Rattle.executor_model.specs.Sound.{times}
use Rattle.executor_model.specs.Steps.{Machine, stack, top, step, stepped}
use Rattle.executor_model.specs.Entries.{Remains}

-- party p is a spawn that has still to ask for a place
abbrev pub Asks : Machine → ℕ → Type 0
Asks s p = (m : Mark) × (top (stack s p) ≡ Some (op.Table (table_op.Enter m)))

-- its next step, told h, answers that the executor is full
abbrev pub AnswersFull : Machine → ℕ → Hint → Type 0
AnswersFull s p h = (stepped s (step s (Go p h))).world.trace ≡ s.world.trace ++ CallEnded p Full ∷ []

-- as many different futures as the limit, or more, are of this kind
pub record ReachLimit (s : Machine) (Kind : ℕ → Type 0) : Type 0 where
  pub futures : List ℕ
  pub different : (f : ℕ) → times f futures ≤ 1
  pub kind : (f : ℕ) → 1 ≤ times f futures → Kind f
  pub many : s.world.limit ≤ length futures

pub record IsUndropped (f : ℕ) (s : Machine) : Type 0 where
  pub accepted : has (is_accepted f) s.world.trace ≡ true
  pub undropped : has (is_dropped f) s.world.trace ≡ false

-- always where so many are undropped, and only where so many are undropped or were dropped in a call that hasn't ended
pub record IsLimitExact (s : Machine) : Type 0 where
  pub always : (p : ℕ) (h : Hint) → Asks s p → ReachLimit s (λ f. IsUndropped f s) → AnswersFull s p h
  pub only : (p : ℕ) (h : Hint) → Asks s p → AnswersFull s p h → ReachLimit s (λ f. Remains f s)
