-- Whether a poll of the handle gives the output.
use Rattle.std.specs.Prelude.{Bool, true, false, Option, Some}
use Rattle.task_moves.specs.declared.moves.owed.Answer.{Answer}
use Rattle.task_moves.specs.declared.moves.owed.Answer.TheVariants.{Output}

abbrev pub is_given : Option Answer → Bool
is_given (Some Output) = true
is_given _ = false
