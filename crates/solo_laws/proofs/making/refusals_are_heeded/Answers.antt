use Rattle.std.proofs.Common.{ℕ, ◌<◌, ◌≤◌, length, arith}
use Rattle.solo_laws.proofs.Happening.Refused.{acts_heed}
use Rattle.solo_laws.proofs.Showing.Courses.{led_known}
use Rattle.solo_laws.proofs.making.refusals_are_heeded.Goals as goal

within : (n m : ℕ) → n < m → n ≤ m
within n m less = omega (arith, less)

pub returns : goal.returns
returns g c its owner s p x led it fit =
    acts_heed its owner it.choice s p (led_known its owner s p led) (within (length p.lying) it.choice.tells it.tells) x.refusal x.call
    it.shown it.now it.after it.acts it.refused fit
