-- A single slot between two calls: what its word says of the slot, and the queue that they are.
use Rattle.std.specs.Prelude.{◌≡◌, ℕ, ◌%◌, ◌<◌, not, nat_lt, Option, Some, None, option_to_list}
use Rattle.queue_steps.specs.ClosableQueue.{ClosableQueue}

module _ {T : Type 0} where
  -- the marks of a slot that nobody has locked, but for the closed one
  abbrev pub marks_of : Option T → ℕ
  marks_of None = 0
  marks_of (Some x) = 2

  pub record SingleAtRest (word : ℕ) (slot : Option T) : Type 0 where
    pub marks : word % 4 ≡ marks_of slot
    pub no_more : word < 8

  abbrev pub slot_queue : ℕ → Option T → ClosableQueue T
  slot_queue word slot = record { items = option_to_list slot; capacity = Some 1; closed = not (nat_lt word 4); accepted = None }
