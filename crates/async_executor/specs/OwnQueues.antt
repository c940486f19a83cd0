-- The list of the runs' own queues, as it changes.
use Rattle.std.specs.Prelude.{ℕ, ◌==◌, List, [], ◌∷◌, ◌++◌, position, remove, slice_get, Option, Some, None}
use Rattle.async_executor.specs.declared.own_queues.Numbered.{Numbered}

module _ {Q : Type 0} where
  -- one more, which comes last
  abbrev pub listed : ℕ → Q → List (Numbered Q) → List (Numbered Q)
  listed number queue queues = queues ++ record { number = number; queue = queue } ∷ []

  -- where the first of a number stands
  abbrev pub place_in : ℕ → List (Numbered Q) → Option ℕ
  place_in number queues = position (λ q. q.number == number) queues

  abbrev pub without_at : Option ℕ → List (Numbered Q) → List (Numbered Q)
  without_at None queues = queues
  without_at (Some at) queues = remove queues at

  abbrev pub queue_in : Option (Numbered Q) → Option Q
  queue_in None = None
  queue_in (Some q) = Some q.queue

  abbrev pub queue_at : Option ℕ → List (Numbered Q) → Option Q
  queue_at None queues = None
  queue_at (Some at) queues = queue_in (slice_get queues at)

  -- without the first of a number, where there is one: the others keep their order
  abbrev pub without : ℕ → List (Numbered Q) → List (Numbered Q)
  without number queues = without_at (place_in number queues) queues

  -- the first of a number, where there is one
  abbrev pub queue_of : ℕ → List (Numbered Q) → Option Q
  queue_of number queues = queue_at (place_in number queues) queues
