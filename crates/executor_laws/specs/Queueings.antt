-- How many Runnables were queued in each of the executor's queues; and that it is one that counts them, for as long as such
-- a queue may.
use Rattle.std.specs.Prelude.{◌≡◌, ℕ, ◌+◌, ◌-◌, ◌<◌, ◌≤◌, false, Some, List, [], ◌∷◌, ◌++◌, length}
use Rattle.queue_steps.specs.ClosableQueue.{ClosableQueue, most_accepted, new_queue, HasRoom}
use Rattle.queue_steps.specs.ClosableQueue.{IsUnspent, appended, taken, shut}
use Rattle.executor_parts.specs.declared.mark.Mark.{Mark}
use Rattle.executor_parts.specs.Marks.{other}
use Rattle.executor_model.specs.declared.kind.Kind.{Kind}
use Rattle.executor_model.specs.declared.op.Op.TheVariants as op
use Rattle.executor_model.specs.declared.op.QueueOp.TheVariants as queue_op
use Rattle.executor_model.specs.declared.step.Hint.{Hint}
use Rattle.executor_model.specs.declared.step.Step.{Step}
use Rattle.executor_model.specs.declared.step.Step.TheVariants.{Go}
use Rattle.executor_model.specs.Steps.{Machine, stack, top, step, stepped, run, start}
use Rattle.executor_model.specs.World.{mark_of, queue_of}

-- a step appends as many Runnables as the queue of this mark gets longer by, one or none
abbrev pub queued_by : Mark → Step → Machine → ℕ
queued_by m t s = length (queue_of (stepped s (step s t)).world m).items - length (queue_of s.world m).items

-- the appends to the queue by these steps, of a new machine: those of acceptances, of wakes that scheduled, of
-- closings, and of what runs that went had left
abbrev pub queueings : Mark → List Step → Machine → ℕ
queueings m [] s = 0
queueings m (t ∷ ts) s = queued_by m t s + queueings m ts (stepped s (step s t))

-- the queue, which has accepted so many
abbrev pub counting : ℕ → ClosableQueue ℕ → ClosableQueue ℕ
counting n q = record q { accepted = Some n }

-- one change of a closable queue: none; an append where it is open, has room and may accept one more;
-- a take of the first item, which is there; a close
pub data Changes (q new : ClosableQueue ℕ) : Type 0 where
  stays : new ≡ q → Changes q new
  appends : (f : ℕ) → q.closed ≡ false → HasRoom q → IsUnspent q → new ≡ appended q f → Changes q new
  takes : (f : ℕ) (rest : List ℕ) → q.items ≡ f ∷ rest → new ≡ taken q → Changes q new
  closes : new ≡ shut q → Changes q new

-- after these steps of a new machine
abbrev pub counted_after : Mark → ℕ → Kind → ℕ → List Step → ClosableQueue ℕ
counted_after m limit kind parties steps = counting
    (queueings m steps (start limit kind parties))
    (queue_of (run steps (start limit kind parties)).world m)

-- these steps queue fewer than a queue may accept
abbrev pub AreFewQueueings : Mark → ℕ → Kind → ℕ → List Step → Type 0
AreFewQueueings m limit kind parties steps = queueings m steps (start limit kind parties) < most_accepted

-- there are no more in both queues than steps; the queue of a new machine is a new queue that counts; each step changes it as a
-- closable queue changes; and a Runnable that is to be appended is, unless the queue is closed
pub record CountsQueueings (m : Mark) (limit : ℕ) (kind : Kind) (parties : ℕ) (steps : List Step) : Type 0 where
  pub most : queueings m steps (start limit kind parties) + queueings (other m) steps (start limit kind parties) ≤
      length steps
  pub new : counted_after m limit kind parties [] ≡ new_queue (Some limit) (Some 0)
  pub changes : AreFewQueueings m limit kind parties steps → (t : Step) →
      Changes (counted_after m limit kind parties steps) (counted_after m limit kind parties (steps ++ t ∷ []))
  pub appends : AreFewQueueings m limit kind parties steps → (p : ℕ) (h : Hint) (f : ℕ) →
      top (stack (run steps (start limit kind parties)) p) ≡ Some (op.Queue (queue_op.Append f)) →
      mark_of (run steps (start limit kind parties)).world f ≡ m →
      (counted_after m limit kind parties steps).closed ≡ false →
      counted_after m limit kind parties (steps ++ Go p h ∷ []) ≡ appended (counted_after m limit kind parties steps) f
