-- The turns of searches.
use Rattle.std.specs.Prelude.{ℕ, ◌%◌, ◌==◌, Bool, true, false}
use Rattle.executor_parts.specs.declared.mark.Mark.{Mark}
use Rattle.executor_parts.specs.declared.mark.Mark.TheVariants.{Plain, Urgent}

abbrev pub plain_if : Bool → Mark
plain_if true = Plain
plain_if false = Urgent

-- of eight turns the last looks at the plain queue first
abbrev pub mark_of_turn : ℕ → Mark
mark_of_turn turn = plain_if (turn % 8 == 7)
