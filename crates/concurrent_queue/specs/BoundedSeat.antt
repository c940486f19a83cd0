-- What a clause says of a seat at a ring, and where a call on a ring stands by the words that it found.
use Rattle.std.specs.Prelude.{◌≡◌, ℕ, ◌+◌, true, List, [], Option}
use Rattle.concurrent_queue.specs.Answered.{turns}
use Rattle.atomic_table.specs.declared.shared.Seat.{Seat}
use Rattle.atomic_table.specs.declared.shared.Shared.{Shared}
use Rattle.concurrent_queue.specs.declared.bounded.rule.Doing.{Doing}
use Rattle.queue_steps.specs.declared.steps.bounded.Shape.{Shape}
use Rattle.queue_steps.specs.BoundedTurns.{Turn, Tail, Head, Close, push_turn, force_push_turn, pop_turn, close_turn, len_turn}
use Rattle.queue_steps.specs.BoundedTurns.{is_empty_turn, is_full_turn, is_closed_turn}

module _ {T P : Type 0} where
  -- it is a seat of this ring, whose table has a slot for each place, the tail, the head and the stamps
  abbrev pub IsSeatOf : Shared (Option T) Doing Shape P → Seat (Option T) Doing → Type 0
  IsSeatOf board seat =
      (seat.table_id ≡ board.table_id) × (board.table_id.words ≡ board.key.capacity + 32) × (board.table_id.slots ≡ board.key.capacity)

  -- the same of a ring of this shape, and it has no place
  abbrev pub IsFreeSeatOf : Shared (Option T) Doing Shape P → Shape → Seat (Option T) Doing → Type 0
  IsFreeSeatOf board shape seat =
      (seat.table_id ≡ board.table_id) × (board.table_id.words ≡ board.key.capacity + 32) × (board.table_id.slots ≡ board.key.capacity)
      × (board.key ≡ shape) × (seat.me.1 ≡ []) × (seat.me.0.mark ≡ shape.mark)

module _ {T : Type 0} where
  abbrev pub IsSameSeat : Seat (Option T) Doing → Seat (Option T) Doing → Type 0
  IsSameSeat old new = (new.table_id ≡ old.table_id) × (new.id ≡ old.id)

  -- it still has no place, and has forgotten no close
  abbrev pub StaysFree : Seat (Option T) Doing → Seat (Option T) Doing → Type 0
  StaysFree old new =
      (new.table_id ≡ old.table_id) × (new.id ≡ old.id) × (new.me.1 ≡ []) × (new.me.0.mark ≡ old.me.0.mark)
      × (old.me.0.closed ≡ true → new.me.0.closed ≡ true)

-- where a call on a ring of this shape stands that has found these words, oldest first
module _ (shape : Shape) (found : List ℕ) where
  abbrev pub push_at : Turn
  push_at = turns (push_turn shape.capacity shape.mark) Tail found

  abbrev pub force_push_at : Turn
  force_push_at = turns (force_push_turn shape.capacity shape.mark) Tail found

  abbrev pub pop_at : Turn
  pop_at = turns (pop_turn shape.capacity shape.mark) Head found

  abbrev pub close_at : Turn
  close_at = turns (close_turn shape.capacity shape.mark) Close found

  abbrev pub len_at : Turn
  len_at = turns (len_turn shape.capacity shape.mark) Tail found

  abbrev pub is_empty_at : Turn
  is_empty_at = turns (is_empty_turn shape.capacity shape.mark) Head found

  abbrev pub is_full_at : Turn
  is_full_at = turns (is_full_turn shape.capacity shape.mark) Tail found

  abbrev pub is_closed_at : Turn
  is_closed_at = turns (is_closed_turn shape.capacity shape.mark) Tail found
