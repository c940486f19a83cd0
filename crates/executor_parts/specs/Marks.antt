-- The marks of futures, and the turns by which the two queues of an executor are looked at.
use Rattle.std.specs.Prelude.{ℕ, zero, suc, Bool, true, false}
use Rattle.executor_parts.specs.declared.mark.Mark.{Mark}
use Rattle.executor_parts.specs.declared.mark.Mark.TheVariants.{Plain, Urgent}

abbrev pub other : Mark → Mark
other Plain = Urgent
other Urgent = Plain

abbrev pub same_mark : Mark → Mark → Bool
same_mark Plain Plain = true
same_mark Urgent Urgent = true
same_mark Plain Urgent = false
same_mark Urgent Plain = false

-- so many turns look at the urgent queue first, and then one at the plain one
abbrev pub first_of : ℕ → Mark
first_of zero = Plain
first_of (suc n) = Urgent

-- and so many after this turn
abbrev pub turn_after : ℕ → ℕ
turn_after zero = 7
turn_after (suc n) = n
