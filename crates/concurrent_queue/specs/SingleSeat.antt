-- What a clause says of a seat at a single slot, and how a call stands between two steps.
use Rattle.std.specs.Prelude.{◌≡◌, ℕ, ◌+◌, ◌%◌, ◌<◌, true, List, [], Option}
use Rattle.concurrent_queue.specs.Answered.{turns}
use Rattle.atomic_table.specs.declared.shared.Seat.{Seat}
use Rattle.atomic_table.specs.declared.shared.Shared.{Shared}
use Rattle.concurrent_queue.specs.declared.single.rule.Doing.{Doing}
use Rattle.queue_steps.specs.SingleTurns.{Turn, Look, Close, push_turn, force_push_turn, pop_turn, close_turn, len_turn, is_empty_turn}
use Rattle.queue_steps.specs.SingleTurns.{is_full_turn, is_closed_turn}
use Rattle.queue_steps.specs.declared.steps.single.PushTurn.{PushTurn}
use Rattle.queue_steps.specs.declared.steps.single.PushTurn.TheVariants as push
use Rattle.queue_steps.specs.declared.steps.single.ForcePushTurn.{ForcePushTurn}
use Rattle.queue_steps.specs.declared.steps.single.ForcePushTurn.TheVariants as force_push
use Rattle.queue_steps.specs.declared.steps.single.PopTurn.{PopTurn}
use Rattle.queue_steps.specs.declared.steps.single.PopTurn.TheVariants as pop

module _ {T K P : Type 0} where
  -- it is a seat of this table of one word and one slot, and has no slot
  abbrev pub IsSeatOf : Shared (Option T) Doing K P → Seat (Option T) Doing → Type 0
  IsSeatOf board seat =
      (seat.table_id ≡ board.table_id) × (board.table_id.words ≡ 1) × (board.table_id.slots ≡ 1) × (seat.me.1 ≡ [])

-- it still has no slot, and has forgotten no close
abbrev pub IsSameSeat : {T : Type 0} → Seat (Option T) Doing → Seat (Option T) Doing → Type 0
IsSameSeat old new =
    (new.table_id ≡ old.table_id) × (new.id ≡ old.id) × (new.me.1 ≡ []) × (old.me.0.closed ≡ true → new.me.0.closed ≡ true)

-- where a call on a single slot stands that has found these words, oldest first
module _ (found : List ℕ) where
  abbrev pub push_at : Turn
  push_at = turns push_turn Look found

  abbrev pub force_push_at : Turn
  force_push_at = turns force_push_turn Look found

  abbrev pub pop_at : Turn
  pop_at = turns pop_turn Look found

  abbrev pub close_at : Turn
  close_at = turns close_turn Close found

  abbrev pub len_at : Turn
  len_at = turns len_turn Look found

  abbrev pub is_empty_at : Turn
  is_empty_at = turns is_empty_turn Look found

  abbrev pub is_full_at : Turn
  is_full_at = turns is_full_turn Look found

  abbrev pub is_closed_at : Turn
  is_closed_at = turns is_closed_turn Look found

-- a push exchanges an open and empty word
abbrev pub IsPushTurn : PushTurn → Type 0
IsPushTurn push.Look = Unit {0}
IsPushTurn (push.Exchange old new) = (old ≡ 0) × (new ≡ 3)
IsPushTurn push.Full = Unit {0}
IsPushTurn push.Closed = Unit {0}

-- a forced push exchanges an open word that is not locked
abbrev pub IsForcePushTurn : ForcePushTurn → Type 0
IsForcePushTurn force_push.Look = Unit {0}
IsForcePushTurn (force_push.Exchange old new) = (old < 4) × (old % 2 ≡ 0) × (new ≡ 3)
IsForcePushTurn force_push.Closed = Unit {0}

-- a pop exchanges a word with an item and no lock
abbrev pub IsPopTurn : PopTurn → Type 0
IsPopTurn pop.Look = Unit {0}
IsPopTurn (pop.Exchange old new) = (old % 4 ≡ 2) × (new + 1 ≡ old)
IsPopTurn pop.Empty = Unit {0}
IsPopTurn pop.Closed = Unit {0}
