-- What a step that tries once is asked, and what it owes.
use Rattle.std.specs.Prelude.{Bool, ◌||◌, Some}
use Rattle.task_moves.specs.Moves as moves
use Rattle.task_moves.specs.Moves.{is_over}
use Rattle.task_moves.specs.declared.moves.owed.FutureDebt.TheVariants.{PollFuture}
use Rattle.task_moves.specs.declared.moves.owed.Owed.{Owed}
use Rattle.task_moves.specs.declared.moves.state.State.{State}

-- a wake changes nothing of it
abbrev pub stays : State → Bool
stays s = is_over s || s.scheduled

-- the take-up of an open task: its future is to be polled
abbrev pub begins : Owed
begins = record moves.nothing { future = Some PollFuture }
