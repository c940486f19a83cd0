-- How many futures one poll of a run takes up, whatever others do meanwhile.
use Rattle.std.specs.Prelude.{◌≡◌, ℕ, ◌+◌, ◌≤◌, ◌==◌, Bool, false, ◌&&◌, Option, Some, None, List, [], ◌∷◌, cond, length, nat_lt}
use Rattle.task_moves.specs.declared.moves.owed.Move.TheVariants as move
use Rattle.executor_model.specs.declared.call.By.{By}
use Rattle.executor_model.specs.declared.call.Call.TheVariants.{PollRun}
use Rattle.executor_model.specs.declared.op.Op.{Op}
use Rattle.executor_model.specs.declared.op.Op.TheVariants as op
use Rattle.executor_model.specs.declared.step.Step.{Step}
use Rattle.executor_model.specs.declared.step.Step.TheVariants.{Begin, Go}
use Rattle.executor_model.specs.declared.step.StepError.{StepError}
use Rattle.executor_model.specs.Steps.{Machine, refusal, stack, step, stepped, top, waits}
use Rattle.executor_model.specs.Weights.{weigh}

-- party p takes a future up by this step, which is possible: its poll begins, or, where it is closed, its drop is to be done
abbrev pub takes_up : Option StepError → ℕ → Step → Option Op → Bool
takes_up None p (Go q h) (Some (op.Move move.TakeUp f)) = q == p
takes_up refused p t o = false

abbrev pub user_of : Op → ℕ
user_of o = cond (waits o) 1 0

-- in how many pieces of user code a party stands that has this to do
abbrev pub depth : List Op → ℕ
depth os = weigh user_of os

-- party p takes a future up by this step in the call that it began above these things, and in none that began inside of it
abbrev pub takes_itself : ℕ → List Op → Step → Machine → Bool
takes_itself p old t s = takes_up (refusal s t) p t (top (stack s p)) && (depth (stack s p) == depth old)

-- how often it does so by these steps, until that call has ended
abbrev pub takes_in : ℕ → List Op → List Step → Machine → ℕ
takes_in p old [] s = 0
takes_in p old (t ∷ ts) s =
    cond (nat_lt (length old) (length (stack s p)))
    (cond (takes_itself p old t s) 1 0 + takes_in p old ts (stepped s (step s t))) 0

-- a poll of a run takes 200 futures up at most, each time counted, those too that it drops as they are closed
abbrev pub TakesUpFew : Machine → Type 0
TakesUpFew s = (p r : ℕ) (b : By) → refusal s (Begin p (PollRun r b)) ≡ None → (steps : List Step) →
    takes_in p (stack s p) steps (stepped s (step s (Begin p (PollRun r b)))) ≤ 200
