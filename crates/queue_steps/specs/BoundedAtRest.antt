-- A ring between two calls: what its words say of its places, and the queue that they are.
-- n is the number of places, m the mark above their indexes.
use Rattle.std.specs.Prelude.{◌≡◌, ℕ, suc, zero, ◌+◌, ◌-◌, ◌*◌, ◌%◌, ◌<◌, ◌≤◌, List, [], ◌++◌, length, slice_index_or, slice_set, Some}
use Rattle.std.specs.Prelude.{None, IsSome, option_to_list}
use Rattle.queue_steps.specs.declared.bounded.Slot.{Slot}
use Rattle.queue_steps.specs.ClosableQueue.{ClosableQueue, most_accepted}
use Rattle.queue_steps.specs.Bounded.{word_at, count_at, is_marked}

module _ {T : Type 0} where
  abbrev pub slot_at : List (Slot T) → ℕ → Slot T
  slot_at slots i = slice_index_or slots i (record { stamp = 0; value = None })

  -- a place is filled, or emptied, and gets a new stamp
  abbrev pub filled_at : List (Slot T) → ℕ → ℕ → T → List (Slot T)
  filled_at slots i stamp x = slice_set slots i (record { stamp = stamp; value = Some x })

  abbrev pub emptied_at : List (Slot T) → ℕ → ℕ → List (Slot T)
  emptied_at slots i stamp = slice_set slots i (record { stamp = stamp; value = None })

  -- the place of the count p has an item
  abbrev pub IsFilled : ℕ → ℕ → List (Slot T) → ℕ → Type 0
  IsFilled n m slots p = ((slot_at slots (p % n)).stamp ≡ word_at n m p + 1) × IsSome (slot_at slots (p % n)).value

  -- the place of the count p waits for an item
  abbrev pub IsFree : ℕ → ℕ → List (Slot T) → ℕ → Type 0
  IsFree n m slots p = ((slot_at slots (p % n)).stamp ≡ word_at n m p) × ((slot_at slots (p % n)).value ≡ None)

  -- the places of a new ring
  pub record AreFresh (n : ℕ) (slots : List (Slot T)) : Type 0 where
    pub wide : length slots ≡ n
    pub each : (i : ℕ) → i < n → slot_at slots i ≡ record { stamp = i; value = None }

  pub record BoundedAtRest (n m tail head : ℕ) (slots : List (Slot T)) : Type 0 where
    pub pushed : ℕ
    pub popped : ℕ
    pub shut : ℕ
    pub shut_once : shut ≤ 1
    pub tail_is : tail ≡ word_at n m pushed + shut * m
    pub head_is : head ≡ word_at n m popped
    pub behind : popped ≤ pushed
    pub within : pushed ≤ popped + n
    pub few : pushed ≤ most_accepted
    pub wide : length slots ≡ n
    pub filled : (p : ℕ) → popped ≤ p → p < pushed → IsFilled n m slots p
    pub free : (p : ℕ) → pushed ≤ p → p < popped + n → IsFree n m slots p

  -- the items of so many places from the count p on
  abbrev pub held : ℕ → List (Slot T) → ℕ → ℕ → List T
  held n slots p zero = []
  held n slots p (suc k) = option_to_list (slot_at slots (p % n)).value ++ held n slots (p + 1) k

  abbrev pub ring_queue : ℕ → ℕ → ℕ → ℕ → List (Slot T) → ClosableQueue T
  ring_queue n m tail head slots = record {
    items = held n slots (count_at n m head) (count_at n m tail - count_at n m head);
    capacity = Some n;
    closed = is_marked m tail;
    accepted = Some (count_at n m tail);
  }
