-- A poll of a handle is answered that there is no output yet only where something can still come, whatever others do meanwhile.
use Rattle.std.specs.Prelude.{◌≡◌, ◌⊎◌, ℕ, Bool, true, false, not, None, List, [], ◌∷◌, cond}
use Rattle.task_moves.specs.declared.moves.state.State.{State}
use Rattle.task_moves.specs.Moves.{is_going}
use Rattle.executor_model.specs.declared.call.By.{By}
use Rattle.executor_model.specs.declared.call.Call.TheVariants.{PollHandle}
use Rattle.executor_model.specs.declared.call.Reply.TheVariants.{Pending}
use Rattle.executor_model.specs.declared.op.HandleOp.TheVariants as handle_op
use Rattle.executor_model.specs.declared.op.Op.TheVariants as op
use Rattle.executor_model.specs.declared.step.Step.{Step}
use Rattle.executor_model.specs.declared.step.Step.TheVariants.{Begin}
use Rattle.executor_model.specs.Emptiness.{IsAtRest}
use Rattle.executor_model.specs.Steps.{Machine, refusal, stack, step, stepped}
use Rattle.executor_model.specs.Trace.{has, is_dropped}
use Rattle.executor_model.specs.World.{task}
use Rattle.executor_laws.specs.PendingPolls.{Does, IsAnswered}

-- the task is open and has no output, or it is closed, and its future is still to be taken up and dropped
abbrev pub is_unsettled : State → Bool
is_unsettled t = cond t.closed (is_going t) (not t.completed)

-- by this step a poll of the handle of future f looks a last time, its waker registered, and the task is unsettled
pub record HandleFindsNone (f p : ℕ) (s : Machine) (t : Step) : Type 0 where
  pub looks : Does (op.Handle (handle_op.LookAgain f)) p s t
  pub none : is_unsettled (task s.world f) ≡ true

-- by one of these steps it does
abbrev pub HandleFoundNone : ℕ → ℕ → List Step → Machine → Type 0
HandleFoundNone f p [] s = ⊥
HandleFoundNone f p (t ∷ ts) s = HandleFindsNone f p s t ⊎ HandleFoundNone f p ts (stepped s (step s t))

abbrev pub HandlesLookFirst : Machine → Type 0
HandlesLookFirst s = (p f : ℕ) (b : By) → refusal s (Begin p (PollHandle f b)) ≡ None → (steps : List Step) →
    IsAnswered Pending p (stack s p) steps (stepped s (step s (Begin p (PollHandle f b)))) →
    HandleFoundNone f p steps (stepped s (step s (Begin p (PollHandle f b))))

-- where no call is in progress and the drop of the executor hasn't begun, the task of a future that was dropped is settled
abbrev pub DroppedIsSettled : Machine → Type 0
DroppedIsSettled s = IsAtRest s → (f : ℕ) → has (is_dropped f) s.world.trace ≡ true → is_unsettled (task s.world f) ≡ false
