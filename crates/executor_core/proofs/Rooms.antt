-- Who wakes up leaves as much room, and one sleeper less at most.
use Rattle.std.proofs.Common.{◌≡◌, ℕ, ◌+◌, ◌-◌, ◌≤◌, ltb, Bool, true, false, [], ◌∷◌, ◌++◌, length, refl, arith}
use Rattle.std.specs.Prelude.{Option, Some, None}
use Rattle.executor_parts.specs.Sleepers.{Sleepers, freed, position_of, woken_up, without_entry}
use Rattle.executor_model.specs.declared.op.Sleeping.{Sleeping}

abbrev Keeps : Sleepers Sleeping → Sleepers Sleeping → Type 0
Keeps s r = (s.count ≤ r.count + 1) × (r.rooms ≡ s.rooms)

freed-by : (b : Bool) (n : ℕ) (s : Sleepers Sleeping) →
    Keeps s (elim b [ true ↦ record s { count = s.count - 1; free = s.free ++ n ∷ [] } | false ↦ s ])
freed-by true n s = (omega arith, refl)
freed-by false n s = (omega arith, refl)

freed-entry : (o : Option ℕ) (n : ℕ) (s : Sleepers Sleeping) → Keeps s (freed n (without_entry o s))
freed-entry None n s = freed-by (ltb (length s.wakers) s.count) n s
freed-entry (Some at) n s =
    freed-by (ltb (length (without_entry (Some at) s).wakers) s.count) n (without_entry (Some at) s)

pub woken_up_count : (n : ℕ) (s : Sleepers Sleeping) → s.count ≤ (woken_up n s).count + 1
woken_up_count n s = (freed-entry (position_of n s.wakers) n s).0

pub woken_up_rooms : (n : ℕ) (s : Sleepers Sleeping) → (woken_up n s).rooms ≡ s.rooms
woken_up_rooms n s = (freed-entry (position_of n s.wakers) n s).1
