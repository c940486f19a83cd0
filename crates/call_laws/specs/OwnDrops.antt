-- The drop of a run's own future is entered: where that is ready, and where the run is dropped before it was.
use Rattle.std.specs.Prelude.{◌≡◌, ◌≢◌, ◌⊎◌, ℕ, ◌+◌, ◌<◌, ◌≤◌, ◌==◌, Bool, true, false, Option, Some, None, List, [], ◌∷◌}
use Rattle.std.specs.Prelude.{length, cond}
use Rattle.executor_model.specs.declared.call.Call.TheVariants.{DropRun}
use Rattle.executor_model.specs.declared.event.Answer.TheVariants.{Ready}
use Rattle.executor_model.specs.declared.kind.Kind.{Kind}
use Rattle.executor_model.specs.declared.op.Op.{Op}
use Rattle.executor_model.specs.declared.op.Op.TheVariants as op
use Rattle.executor_model.specs.declared.op.RunPoll.{RunPoll}
use Rattle.executor_model.specs.declared.op.UserOp.TheVariants as user_op
use Rattle.executor_model.specs.declared.step.Step.{Step}
use Rattle.executor_model.specs.declared.step.Step.TheVariants.{Answer, Begin}
use Rattle.executor_model.specs.declared.step.UserEnd.TheVariants.{Done, Polled}
use Rattle.executor_model.specs.Steps.{Machine, refusal, run, stack, start, step, stepped, top}
use Rattle.executor_model.specs.Weights.{same, weigh_all}
use Rattle.executor_model.specs.World.{Ended, run_of}
use Rattle.call_laws.specs.UserCode.{DoesNext}

pub record OwnDropsAreEntered (s : Machine) : Type 0 where
  -- it answers that it is ready, and its drop is the next thing that its party does
  pub ready : (p : ℕ) (x : RunPoll) → DoesNext (op.User (user_op.PollOwn x)) p s →
      DoesNext (op.User (user_op.DropOwn x.run)) p (stepped s (step s (Answer p (Polled Ready))))
  -- the run is dropped, which hasn't ended
  pub dropped : (p r : ℕ) → refusal s (Begin p (DropRun r)) ≡ None → (run_of s.world r).stage ≢ Ended →
      DoesNext (op.User (user_op.DropOwn r)) p (stepped s (step s (Begin p (DropRun r))))

-- the drop of run r's own future in which a party stands ends by this step
abbrev pub is_own_drop : ℕ → Option Op → Bool
is_own_drop r (Some (op.User (user_op.DropOwn q))) = r == q
is_own_drop r _ = false

abbrev pub ends_own_drop : ℕ → Machine → Step → Bool
ends_own_drop r s (Answer p Done) = is_own_drop r (top (stack s p))
ends_own_drop r s _ = false

-- so many such drops ended by these steps
abbrev pub own_drops : ℕ → List Step → Machine → ℕ
own_drops r [] s = 0
own_drops r (t ∷ ts) s = cond (ends_own_drop r s t) 1 0 + own_drops r ts (stepped s (step s t))

-- and this is one that hasn't ended
abbrev pub dropping_own : ℕ → Op → ℕ
dropping_own r (op.User (user_op.DropOwn q)) = same r q
dropping_own r _ = 0

-- in a whole execution the own future of a run is dropped at most once, and once where the run has ended or was dropped
pub record OwnIsDroppedOnce (limit : ℕ) (kind : Kind) (parties : ℕ) (steps : List Step) (r : ℕ) : Type 0 where
  pub at_most : own_drops r steps (start limit kind parties)
      + weigh_all (dropping_own r) (run steps (start limit kind parties)).parties ≤ 1
  pub once : let s = run steps (start limit kind parties) in
      r < length s.world.runs → ((run_of s.world r).stage ≡ Ended) ⊎ ((run_of s.world r).dropped ≡ true) →
      own_drops r steps (start limit kind parties) + weigh_all (dropping_own r) s.parties ≡ 1
