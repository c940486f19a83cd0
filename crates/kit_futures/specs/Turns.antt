-- Turns.
use Rattle.std.specs.Prelude.{ℕ}
use Rattle.kit_futures.specs.declared.parts.turn.Turn.{Turn}

-- the future that may be polled
abbrev pub number_of : Turn → ℕ
number_of turn = turn.carried.cx.turn.task
