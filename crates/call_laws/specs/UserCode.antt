-- Where a party stands: its next thing, and the user code in which it is.
use Rattle.std.specs.Prelude.{◌≡◌, ℕ, Some, None}
use Rattle.executor_model.specs.declared.event.Answer.{Answer}
use Rattle.executor_model.specs.declared.op.Op.{Op}
use Rattle.executor_model.specs.declared.op.Op.TheVariants as op
use Rattle.executor_model.specs.declared.op.RunPoll.{RunPoll}
use Rattle.executor_model.specs.declared.op.UserOp.TheVariants as user_op
use Rattle.executor_model.specs.declared.op.Waker.{Waker}
use Rattle.executor_model.specs.declared.op.Waker.TheVariants.{Task}
use Rattle.executor_model.specs.declared.step.UserEnd.{UserEnd}
use Rattle.executor_model.specs.declared.step.UserEnd.TheVariants.{Polled, Done}
use Rattle.executor_model.specs.Steps.{Machine, stack, top}

-- user code: a future's poll or drop, an output's drop, the call of a waker from outside, and the poll and drop of a run's own future;
-- and how it may end
pub data EndsSo : Op → UserEnd → Type 0 where
  poll : (f : ℕ) (a : Answer) → EndsSo (op.User (user_op.Poll f)) (Polled a)
  own_poll : (x : RunPoll) (a : Answer) → EndsSo (op.User (user_op.PollOwn x)) (Polled a)
  drop : (f : ℕ) → EndsSo (op.User (user_op.Drop f)) Done
  output_drop : (f : ℕ) → EndsSo (op.User (user_op.DropOutput f)) Done
  waker_call : (x : ℕ) → EndsSo (op.User (user_op.CallOutside x)) Done
  own_drop : (r : ℕ) → EndsSo (op.User (user_op.DropOwn r)) Done

abbrev pub IsUserCode : Op → Type 0
IsUserCode o = (e : UserEnd) × EndsSo o e

-- party p does nothing, or this is the next thing that it does
abbrev pub DoesNothing : ℕ → Machine → Type 0
DoesNothing p s = top (stack s p) ≡ None

abbrev pub DoesNext : Op → ℕ → Machine → Type 0
DoesNext o p s = top (stack s p) ≡ Some o

-- it is in the poll of a future, or in that of a run's own future, and this is the waker which that poll was given
pub data IsInPollBy : Op → Waker → Type 0 where
  of_future : (f : ℕ) → IsInPollBy (op.User (user_op.Poll f)) (Task f)
  of_own : (x : RunPoll) → IsInPollBy (op.User (user_op.PollOwn x)) x.waker

abbrev pub IsInPoll : Waker → ℕ → Machine → Type 0
IsInPoll a p s = (o : Op) × DoesNext o p s × IsInPollBy o a
