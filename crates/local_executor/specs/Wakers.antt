-- When two wakers wake the same, and what is kept of one.
use Rattle.std.specs.Prelude.{◌≡◌, ℕ}
use Rattle.local_executor.specs.declared.copying.Copied.{Copied}
use Rattle.local_executor.specs.declared.copying.Copied.TheVariants.{Kept, Called, Refused}
use Rattle.local_executor.specs.declared.entry.wakers.LocalExWaker.{LocalExWaker}
use Rattle.local_executor.specs.declared.entry.wakers.LocalExWaker.TheVariants.{Task, Outside}
use Rattle.local_executor.specs.declared.entry.wakers.LocalWaker.{LocalWaker}
use Rattle.solo.specs.declared.names.SoloWaker.TheVariants.{Task as OfTask, Outside as FromOutside}

module _ {W : Type 0} where
  -- of a waker from outside a copy is kept, which wakes the same, if one can be had
  abbrev pub IsCopyOf : (W → W → Type 0) → W → Copied W → Type 0
  IsCopyOf is_same waker (Kept (FromOutside copy)) = is_same copy waker
  IsCopyOf is_same waker (Kept (OfTask task)) = ⊥
  IsCopyOf is_same waker Called = ⊥
  IsCopyOf is_same waker Refused = Unit {0}

module _ {W R : Type 0} where
  -- they are of one task of one executor
  abbrev pub IsOfOneTask : LocalWaker W R → LocalWaker W R → Type 0
  IsOfOneTask a b = (a.task ≡ b.task) × (a.link.id ≡ b.link.id)

  -- two of tasks are of one task; two from outside are as those answer; for one of each nothing is known
  abbrev pub WakeTheSame : (W → W → Type 0) → LocalExWaker W R → LocalExWaker W R → Type 0
  WakeTheSame is_same (Task a) (Task b) = IsOfOneTask a b
  WakeTheSame is_same (Outside a) (Outside b) = is_same a b
  WakeTheSame is_same (Task a) (Outside b) = ⊥
  WakeTheSame is_same (Outside a) (Task b) = ⊥

  -- where a waker is of the executor's own task, the executor of this number keeps the task's name; where it is of another
  -- executor's it is called
  abbrev pub IsCopyFor : (W → W → Type 0) → ℕ → LocalExWaker W R → Copied W → Type 0
  IsCopyFor is_same id (Outside waker) copied = IsCopyOf is_same waker copied
  IsCopyFor is_same id (Task waker) (Kept kept) = (kept ≡ OfTask waker.task) × (waker.link.id ≡ id)
  IsCopyFor is_same id (Task waker) Called = waker.link.id ≡ id → ⊥
  IsCopyFor is_same id (Task waker) Refused = Unit {0}
