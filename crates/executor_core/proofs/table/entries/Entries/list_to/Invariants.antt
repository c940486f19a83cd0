use Rattle.std.proofs.Common.{◌≡◌, ◌++◌, ◌+◌, length}
use Rattle.std.specs.VecDeque.{deque_len, deque_capacity}
use Rattle.executor_core.proofs.Rising.{low}
use Rattle.executor_core.proofs.table.entries.Entries.list_to.Given as goal

-- the futures with smaller numbers are listed
abbrev pub invariant-loop-f : goal.invariant-loop-f
invariant-loop-f l = record {
  listed : l.list.items ≡ l.fn.list.items ++ low l.f l.fn.self.table;
  len : deque_len l.list ≡ deque_len l.fn.list + length (low l.f l.fn.self.table);
  capacity : deque_capacity l.list ≡ deque_capacity l.fn.list;
}
