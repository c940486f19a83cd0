-- What the machine's two queues stand for.
use Rattle.std.specs.Prelude.{ℕ, Bool, ◌&&◌, nat_lt, Some, None}
use Rattle.std.specs.VecDeque.{deque_len, deque_capacity}
use Rattle.queue_steps.specs.ClosableQueue.{ClosableQueue}
use Rattle.executor_model.specs.Queues.{Queues}
use Rattle.executor_core.specs.declared.queues.Line.{Line}

-- the queues, and whether each has room for one more
pub record Queueing : Type 0 where
  pub queues : Queues
  pub has_room : Bool

abbrev pub line_of : Line → ℕ → ClosableQueue ℕ
line_of l limit = record { items = l.items.items; capacity = Some limit; closed = l.closed; accepted = None }

abbrev pub line_has_room : Line → Bool
line_has_room l = nat_lt (deque_len l.items) (deque_capacity l.items)

abbrev pub has_room : Line → Line → Bool
has_room urgent plain = line_has_room urgent && line_has_room plain
