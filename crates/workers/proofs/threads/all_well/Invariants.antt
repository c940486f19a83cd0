use Rattle.std.proofs.Common.{◌≡◌, ◌++◌, Ok, map}
use Rattle.std.specs.Prelude.{vec_items}
use Rattle.workers.proofs.threads.all_well.Given as goal

abbrev pub invariant-loop-end : goal.invariant-loop-end
invariant-loop-end g l = (map Ok (vec_items l.outputs) ≡ l.yielded) × (vec_items l.fn.ends ≡ l.yielded ++ l.end-iterator.rest.items)
