-- Whether a party reads the list of queues in an act.
use Rattle.std.specs.Prelude.{◌≡◌, ◌||◌, ℕ, Bool, true, false, List, [], ◌∷◌, reverse, Some}
use Rattle.executor_model.specs.declared.step.Step.{Step}
use Rattle.executor_model.specs.declared.step.Step.TheVariants.{Answer}
use Rattle.executor_model.specs.declared.step.UserEnd.TheVariants.{Polled}
use Rattle.executor_model.specs.declared.event.Answer.TheVariants.{Pending}
use Rattle.executor_model.specs.declared.op.Op.TheVariants as op
use Rattle.executor_model.specs.declared.op.RunPoll.{RunPoll}
use Rattle.executor_model.specs.declared.op.UserOp.TheVariants as user_op
use Rattle.executor_parts.specs.declared.mark.Mark.{Mark}
use Rattle.executor_model.specs.Steps.{Machine, after, stack, top}
use Rattle.executor_model.specs.World.{World, own_of, queue_of}
use Rattle.machine_roads.specs.Searching.{reads_list}
use Rattle.machine_roads.specs.Within.{Act, IsAct}

-- it does so by one of these steps
abbrev pub reads_in : ℕ → Machine → List Step → Bool
reads_in p s [] = false
reads_in p s (t ∷ ts) = reads_list (reverse (stack s p)) || reads_in p (after s t) ts

abbrev pub IsRead : Machine → Act → Type 0
IsRead s a = reads_in a.party (after s a.first) a.steps ≡ true

-- nothing stands in the own queue of a run, nor in the executor's two
pub record FindsNone (w : World) (r : ℕ) : Type 0 where
  pub own : own_of w r ≡ []
  pub common : (m : Mark) → (queue_of w m).items ≡ []

-- where a run finds nothing at hand and its own future is pending, it reads the list
abbrev pub ReadsIt : Machine → Type 0
ReadsIt s =
    (a : Act) (x : RunPoll) → IsAct s a → a.first ≡ Answer a.party (Polled Pending)
    → top (stack s a.party) ≡ Some (op.User (user_op.PollOwn x)) → FindsNone s.world x.run → IsRead s a
