-- What `spawn_many` takes from its iterator.
use Rattle.std.specs.Prelude.{◌≡◌, ℕ, ◌+◌, List, length, Option, Some, None, Result, Ok, Err}
use Rattle.std.specs.Iterator.{Yields, YieldsThen}
use Rattle.solo.specs.Solo.{refused}
use Rattle.solo.specs.declared.owed.SpawnError.{SpawnError}

-- what the iterator gave after the futures that were accepted: nothing more, or the one that was refused
abbrev pub last_taken : {F : Type 0} → Result (Unit {0}) (SpawnError F) → Option F
last_taken (Ok _) = None
last_taken (Err error) = Some (refused error)

-- calls of `next` led from the one state to the other, and the count grew by as many as they gave
abbrev pub HasGiven : {F S : Type 0} → (S → Option F → S → Type 0) → S → S → ℕ → ℕ → Type 0
HasGiven {F} steps old new before after = (accepted : List F) × Yields steps old accepted new × (before + length accepted ≡ after)

-- as many futures were taken as there are new handles, and then the end came, or one that was refused and comes back; nothing was
-- taken after it
abbrev pub SpawnsMany : {F S : Type 0} → (S → Option F → S → Type 0) → S → S → ℕ → ℕ → Result (Unit {0}) (SpawnError F) → Type 0
SpawnsMany {F} steps old new before after result =
    (accepted : List F) × YieldsThen steps old accepted (last_taken result) new × (before + length accepted ≡ after)
