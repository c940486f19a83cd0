-- Who may read what never changes of a task.
use Rattle.std.specs.Prelude.{◌≡◌, true, Option, is_some, IsSomeAnd}
use Rattle.counted_slot.specs.declared.Claim.{Claim}
use Rattle.async_task.specs.declared.cell.fixed.Fixed.{Fixed}

-- it is a claim to read, where a task is
abbrev pub CanRead : {S M Tag : Type 0} → Claim (Option (Fixed S M)) Tag → Type 0
CanRead claim = (claim.right ≡ 1) × IsSomeAnd claim.value (λ it. is_some it ≡ true)
