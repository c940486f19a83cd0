-- A party that has something to do can go on, unless it waits for the lock of the list of queues; whoever has that can.
use Rattle.std.specs.Prelude.{◌≡◌, ◌⊎◌, ℕ, ◌+◌, ◌<◌, ◌≤◌, true, false, Some, None, length}
use Rattle.executor_model.specs.declared.op.Op.{Op}
use Rattle.executor_model.specs.declared.step.Hint.{Hint}
use Rattle.executor_model.specs.declared.step.Step.TheVariants.{Go, Answer}
use Rattle.executor_model.specs.declared.step.StepError.TheVariants.{Waits}
use Rattle.executor_model.specs.declared.step.UserEnd.{UserEnd}
use Rattle.executor_model.specs.OwnQueues.{writes_of, reads_of}
use Rattle.executor_model.specs.Steps.{Machine, stack, top, waits, is_locked_out, refusal}
use Rattle.executor_model.specs.Weights.{weigh}
use Rattle.executor_model.specs.World.{Lock}

-- a party that has something to do can go on: by a Go, or, where it is in user code, by that code's answer. Where
-- another has the lock that it wants, and only there, its Go is refused as one that waits
pub record CanGoOn (s : Machine) (p : ℕ) (o : Op) : Type 0 where
  pub goes : waits o ≡ false → is_locked_out s.world.lock o ≡ false → (h : Hint) → refusal s (Go p h) ≡ None
  pub stays : is_locked_out s.world.lock o ≡ true → (h : Hint) → refusal s (Go p h) ≡ Some Waits
  pub end : UserEnd
  pub answers : waits o ≡ true → refusal s (Answer p end) ≡ None

abbrev pub GoesOn : Machine → Type 0
GoesOn s = (p : ℕ) (o : Op) → p < length s.parties → top (stack s p) ≡ Some o → CanGoOn s p o

-- what is done under the lock of the list, or gives it back
abbrev pub held_of : Op → ℕ
held_of o = writes_of o + reads_of o

abbrev pub IsTaken : Lock → Type 0
IsTaken l = (l.writing ≡ true) ⊎ (1 ≤ l.readers)

-- where the lock is taken some party has it, and whoever has it can go on
pub record HolderGoesOn (s : Machine) : Type 0 where
  pub someone : IsTaken s.world.lock → (p : ℕ) × (1 ≤ weigh held_of (stack s p))
  pub goes : (p : ℕ) → 1 ≤ weigh held_of (stack s p) → (h : Hint) → refusal s (Go p h) ≡ None
