-- What the section of a call on a chain does, by the chain's ends. A block has room for 31 items.
use Rattle.std.specs.Prelude.{◌+◌, ◌%◌, true, nat_lt, nat_le, ◌==◌, if◌then◌else◌}
use Rattle.queue_steps.specs.declared.steps.unbounded.Ends.{Ends}
use Rattle.queue_steps.specs.Reply.{Reply, Empty, Closed, No}
use Rattle.queue_steps.specs.ClosableQueue.{most_accepted}

-- what the section of a call of any kind does
pub data Turn : Type 0 where
  -- append to the last block
  Append : Turn
  -- link a new block, and append to it
  Link : Turn
  -- take the first item of the first block
  Take : Turn
  -- take the only item that is left of the first block, and unlink the block
  Unlink : Turn
  -- close the chain in place of the append of one item too many
  Spend : Turn
  -- close the chain
  Close : Turn
  -- change nothing
  End : Reply → Turn

abbrev pub push_turn : Ends → Turn
push_turn ends =
    if ends.closed
    then End Closed
    else (if nat_le most_accepted ends.tail then Spend else (if ends.tail % 31 == 0 then Link else Append))

abbrev pub pop_turn : Ends → Turn
pop_turn ends =
    if nat_lt ends.head ends.tail
    then (if ends.head % 31 == 30 then Unlink else Take)
    else End (if ends.closed then Closed else Empty)

abbrev pub close_turn : Ends → Turn
close_turn ends = if ends.closed then End No else Close

abbrev pub ends_after : Ends → Turn → Ends
ends_after ends Append = record ends { tail = ends.tail + 1 }
ends_after ends Link = record ends { tail = ends.tail + 1 }
ends_after ends Take = record ends { head = ends.head + 1 }
ends_after ends Unlink = record ends { head = ends.head + 1 }
ends_after ends Spend = record ends { closed = true }
ends_after ends Close = record ends { closed = true }
ends_after ends (End reply) = ends
