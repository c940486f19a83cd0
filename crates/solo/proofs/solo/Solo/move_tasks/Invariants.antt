use Rattle.std.specs.Prelude.{◌≡◌}
use Rattle.solo.specs.Steals.{moved}
use Rattle.solo.proofs.solo.Solo.move_tasks.Given as goal

abbrev pub decreases-loop-left : goal.decreases-loop-left
decreases-loop-left g l = l.left

-- those that are left are moved as all are
abbrev pub invariant-loop-left : goal.invariant-loop-left
invariant-loop-left g l = moved l.left l.source l.number l.self ≡ moved l.fn.count l.fn.source l.fn.number l.fn.self
