use Rattle.std.proofs.Common.{◌≡◌, Ok, map}
use Rattle.std.specs.Prelude.{vec_items}
use Rattle.jobs.proofs.running.all_well.Given as goal

abbrev pub invariant-loop-one : goal.invariant-loop-one
invariant-loop-one l = map Ok (vec_items l.returned) ≡ l.yielded
