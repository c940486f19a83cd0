-- Where no call is in progress, an output that nobody can take was dropped, once.
use Rattle.std.specs.Prelude.{◌≡◌, ◌⊎◌, ℕ, ◌+◌, ◌<◌, true, length, count_by}
use Rattle.executor_model.specs.declared.step.Hint.{Hint}
use Rattle.executor_model.specs.OutputKept.{GivesOutput}
use Rattle.executor_model.specs.OutputOnce.{is_output_given}
use Rattle.executor_model.specs.Quiet.{IsQuiet}
use Rattle.executor_model.specs.Steps.{Machine}
use Rattle.executor_model.specs.Trace.{Trace, has, is_output_dropped, is_ready}

-- whoever polls the handle next is given the output
abbrev pub CanTake : Machine → ℕ → Type 0
CanTake s f = (p x : ℕ) (h : Hint) → p < length s.parties → GivesOutput s p f x h

-- it was given to a poll or dropped, and once
abbrev pub HasGone : ℕ → Trace → Type 0
HasGone f trace = count_by (is_output_given f) trace + count_by (is_output_dropped f) trace ≡ 1

-- the output of a future that was ready was given or dropped, or the next poll of the handle is given it: so one that was
-- given to nobody, and that no poll would be given, was dropped
abbrev pub OutputIsSettled : Machine → ℕ → Type 0
OutputIsSettled s f =
    IsQuiet s.world.trace → has (is_ready f) s.world.trace ≡ true → HasGone f s.world.trace ⊎ CanTake s f
