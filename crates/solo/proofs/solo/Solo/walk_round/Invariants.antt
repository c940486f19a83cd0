use Rattle.std.specs.Prelude.{◌≡◌}
use Rattle.solo.specs.Steals.{round}
use Rattle.solo.proofs.solo.Solo.walk_round.Given as goal

abbrev pub decreases-loop-left : goal.decreases-loop-left
decreases-loop-left g l = l.left

-- what is left of the walk gives what the whole walk gives
abbrev pub invariant-loop-left : goal.invariant-loop-left
invariant-loop-left g l =
    round l.count l.number l.left l.at l.self ≡ round l.fn.count l.fn.number l.fn.count l.fn.first l.fn.self
