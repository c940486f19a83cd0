-- A closable queue, as the documentation of `concurrent-queue` has it: what it holds, how many it may hold, and whether
-- it was closed. No stamps, laps, blocks or retries.
use Rattle.std.specs.Prelude.{◌≡◌, ℕ, ◌+◌, ◌<◌, List, [], ◌∷◌, ◌++◌, length, drop, Bool, true, false, Option, Some, None, MatchOption, ◌==◌}
use Rattle.std.specs.Prelude.{if◌then◌else◌}
use Rattle.std.specs.Option.{option_map}

pub record ClosableQueue (T : Type 0) : Type 0 where
  -- oldest first
  pub items : List T
  -- none where it is unbounded
  pub capacity : Option ℕ
  pub closed : Bool
  -- how many items it has accepted; a single slot does not count
  pub accepted : Option ℕ

-- a queue that counts accepts this many items in its life, 2^61
abbrev pub most_accepted : ℕ
most_accepted = 2305843009213693952

-- what a new queue of this capacity has accepted
abbrev pub count_of_new : ℕ → Option ℕ
count_of_new capacity = if capacity == 1 then None else Some 0

module _ {T : Type 0} where
  -- an empty and open queue, which counts its items from 0 on or not at all
  abbrev pub new_queue : Option ℕ → Option ℕ → ClosableQueue T
  new_queue capacity accepted = record { items = []; capacity = capacity; closed = false; accepted = accepted }

  abbrev pub IsFull : ClosableQueue T → Type 0
  IsFull q = MatchOption q.capacity ⊥ (λ n. length q.items ≡ n)

  abbrev pub HasRoom : ClosableQueue T → Type 0
  HasRoom q = MatchOption q.capacity (Unit {0}) (λ n. length q.items < n)

  -- the next item would be one more than it may accept: an append closes it instead
  abbrev pub IsSpent : ClosableQueue T → Type 0
  IsSpent q = MatchOption q.accepted ⊥ (λ n. n ≡ most_accepted)

  abbrev pub IsUnspent : ClosableQueue T → Type 0
  IsUnspent q = MatchOption q.accepted (Unit {0}) (λ n. n < most_accepted)

  -- the queue with one more item at its end
  abbrev pub appended : ClosableQueue T → T → ClosableQueue T
  appended q x = record q { items = q.items ++ x ∷ []; accepted = option_map (λ n. n + 1) q.accepted }

  -- the queue without its first item
  abbrev pub taken : ClosableQueue T → ClosableQueue T
  taken q = record q { items = drop 1 q.items }

  abbrev pub shut : ClosableQueue T → ClosableQueue T
  shut q = record q { closed = true }
