-- What the polls of a tick and of a run answer.
use Rattle.std.specs.Prelude.{◌≡◌, Bool, true, false, not, Option, Some, None, IsSome, Result, Ok, Err}
use Rattle.async_executor.specs.declared.errors.RunError.{RunError}
use Rattle.async_executor.specs.declared.errors.RunError.TheVariants.{NoMemory, Finished}
use Rattle.async_executor.specs.declared.steps.Answered.{Answered}
use Rattle.async_executor.specs.declared.ticker.Ticker.{Ticker}
use Rattle.async_executor.specs.declared.ticker.Ticker.TheVariants.{Awake, Asleep, Left}
use Rattle.async_task.specs.declared.poll.Poll.{Poll}
use Rattle.async_task.specs.declared.poll.Poll.TheVariants.{Ready, Pending}
use Rattle.call_steps.specs.declared.reply.Reply.{Reply}
use Rattle.call_steps.specs.declared.reply.Reply.TheVariants as reply

-- it has left the sleepers for good
abbrev pub has_left : Ticker → Bool
has_left (Awake room) = false
has_left (Asleep sleeper w) = false
has_left Left = true

-- a call of this poll ended with this reply, and the poll with it
abbrev pub EndsWith : Reply → Answered → Answered → Type 0
EndsWith r old new = (new.reply ≡ Some r) × (new.turned ≡ not old.turned)

-- the reply that the answer of a tick's poll is
abbrev pub replied : {O E : Type 0} → Poll (Result O E) → Reply
replied Pending = reply.Pending
replied (Ready (Ok _)) = reply.Ready
replied (Ready (Err _)) = reply.NoMemory

-- what a tick's poll answers is the reply that its call ended with
abbrev pub IsTickAnswer : {O E : Type 0} → Answered → Answered → Poll (Result O E) → Type 0
IsTickAnswer old new answer = EndsWith (replied answer) old new

-- the reply that the answer of a run's poll is
abbrev pub replied_by_run : {O : Type 0} → Poll (Result O RunError) → Reply
replied_by_run Pending = reply.Pending
replied_by_run (Ready (Ok _)) = reply.Ready
replied_by_run (Ready (Err NoMemory)) = reply.NoMemory
replied_by_run (Ready (Err Finished)) = reply.Finished

-- where its own future is pending, a run's poll is neither ready nor finished
abbrev pub GoesOnOrWants : {O : Type 0} → Poll (Result O RunError) → Type 0
GoesOnOrWants Pending = Unit {0}
GoesOnOrWants (Ready (Err NoMemory)) = Unit {0}
GoesOnOrWants (Ready (Err Finished)) = ⊥
GoesOnOrWants (Ready (Ok _)) = ⊥

-- finished exactly where its future is gone, which it is once that was ready
abbrev pub KeepsFuture : {G O : Type 0} → Option G → Option G → Poll (Result O RunError) → Type 0
KeepsFuture old new (Ready (Err Finished)) = (old ≡ None) × (new ≡ None)
KeepsFuture old new (Ready (Ok _)) = IsSome old × (new ≡ None)
KeepsFuture old new (Ready (Err NoMemory)) = IsSome old × IsSome new
KeepsFuture old new Pending = IsSome old × IsSome new

-- what a run's poll answers is the reply that its call ended with
abbrev pub IsRunAnswer : {G O : Type 0} → Option G → Option G → Answered → Answered → Poll (Result O RunError) → Type 0
IsRunAnswer old new before after answer = KeepsFuture old new answer × EndsWith (replied_by_run answer) before after

-- once its future is ready its own queue, which is in no list any more, was found empty, and it has left the sleepers
abbrev pub HasLeft : {O : Type 0} → Bool → Bool → Poll (Result O RunError) → Type 0
HasLeft is_drained has_left (Ready (Ok _)) = (is_drained ≡ true) × (has_left ≡ true)
HasLeft _ _ _ = Unit {0}
