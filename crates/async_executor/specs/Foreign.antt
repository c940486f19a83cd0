-- What came out from under a lock.
use Rattle.std.specs.Prelude.{Bool, false, Option, Some, None, is_some}
use Rattle.async_executor.specs.declared.foreign.Foreign.{Foreign}

-- the value, where there is one
abbrev pub value_of : {X : Type 0} → Option (Foreign X) → Option X
value_of None = None
value_of (Some it) = Some it.value

-- what left a table
abbrev pub parts_left : {F W : Type 0} → Option (Option (Foreign F) × W) → Option (Option F × W)
parts_left None = None
parts_left (Some both) = Some (value_of both.0, both.1)

-- whether a waker left with it
abbrev pub has_waker : {F W : Type 0} → Option (Option (Foreign F) × Option W) → Bool
has_waker None = false
has_waker (Some both) = is_some both.1
