-- A run ends by its own future alone: its own queue leaves the list for good, and its poll is answered that it is ready, only
-- behind a step in which that future answers that it is ready, or where the run is dropped. So it is from the beginning on, and
-- since any moment at which no call uses the run.
use Rattle.std.specs.Prelude.{◌≡◌, ◌⊎◌, ℕ, ◌<◌, true, false, Some, List, [], ◌∷◌, length, slice_get}
use Rattle.executor_model.specs.declared.call.Reply.TheVariants as reply
use Rattle.executor_model.specs.declared.event.Answer.TheVariants.{Ready}
use Rattle.executor_model.specs.declared.event.Event.TheVariants.{RunPolled}
use Rattle.executor_model.specs.declared.kind.Kind.{Kind}
use Rattle.executor_model.specs.declared.op.Op.TheVariants as op
use Rattle.executor_model.specs.declared.op.RunPoll.{RunPoll}
use Rattle.executor_model.specs.declared.op.UserOp.TheVariants as user_op
use Rattle.executor_model.specs.declared.step.Step.{Step}
use Rattle.executor_model.specs.declared.step.Step.TheVariants.{Answer}
use Rattle.executor_model.specs.declared.step.UserEnd.TheVariants.{Polled}
use Rattle.executor_model.specs.AwaiterKept.{EndsWith, since}
use Rattle.executor_model.specs.Keeper.{is_run_drop}
use Rattle.executor_model.specs.Steps.{Machine, has_run, run, stack, start, step, stepped, top}
use Rattle.executor_model.specs.Trace.{Trace, has}
use Rattle.executor_model.specs.World.{Ended, run_of}

-- by this step the own future of run r, which is being polled, answers that it is ready
pub record OwnIsReady (r : ℕ) (s : Machine) (t : Step) : Type 0 where
  pub party : ℕ
  pub poll : RunPoll
  pub is : t ≡ Answer party (Polled Ready)
  pub stands : top (stack s party) ≡ Some (op.User (user_op.PollOwn poll))
  pub own : poll.run ≡ r

-- by one of these steps it does
abbrev pub OwnWasReady : ℕ → List Step → Machine → Type 0
OwnWasReady r [] s = ⊥
OwnWasReady r (t ∷ ts) s = OwnIsReady r s t ⊎ OwnWasReady r ts (stepped s (step s t))

-- a poll of run r was answered that its own future is ready
pub record WasAnsweredReady (r : ℕ) (trace : Trace) : Type 0 where
  pub party : ℕ
  pub poll : ℕ
  pub polled : slice_get trace poll ≡ Some (RunPolled party r)
  pub ready : EndsWith party reply.Ready (since poll trace)

-- a run that lives, that no call uses and that hasn't ended has ended later, or was answered so, only where meanwhile its
-- own future was ready, or where it was dropped
abbrev pub EndsByItsOwn : Machine → ℕ → Type 0
EndsByItsOwn s r = has_run s.world s.parties r ≡ true → ¬ ((run_of s.world r).stage ≡ Ended) → (steps : List Step) →
    has (is_run_drop r) (run steps s).world.trace ≡ false →
    ((run_of (run steps s).world r).stage ≡ Ended) ⊎ WasAnsweredReady r (run steps s).world.trace → OwnWasReady r steps s

-- in a whole execution, whatever calls use the run meanwhile: a run that was made has ended, or was answered so, only where its
-- own future was ready by some step, or where it was dropped
abbrev pub EndsOnlyByItsOwn : ℕ → Kind → ℕ → List Step → ℕ → Type 0
EndsOnlyByItsOwn limit kind parties steps r =
    let first = start limit kind parties in
    let s = run steps first in
    r < length s.world.runs → has (is_run_drop r) s.world.trace ≡ false →
    ((run_of s.world r).stage ≡ Ended) ⊎ WasAnsweredReady r s.world.trace → OwnWasReady r steps first
