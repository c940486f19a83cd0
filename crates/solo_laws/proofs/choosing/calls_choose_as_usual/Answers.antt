use Rattle.std.proofs.Common.{ℕ, ◌≤◌, ◌<◌, arith}
use Rattle.solo_laws.proofs.Choices.AsUsual.{chooses_there}
use Rattle.solo_laws.proofs.Choices.Searched.{searched_there}
use Rattle.solo_laws.proofs.Showing.Counts.{all_count_to_64}
use Rattle.solo_laws.proofs.Showing.Courses.{led_known}
use Rattle.solo_laws.proofs.choosing.calls_choose_as_usual.Goals as goal

few : (n : ℕ) → n < 64 → n ≤ 63
few n below = omega (arith, below)

pub returns : goal.returns
returns g k its owner c s p now z call shown led many acts x is has =
    chooses_there its owner c s x now z (λ r. few (owner.runner r).counted (all_count_to_64 its owner s p led r))
    (searched_there its owner c s p (led_known its owner s p led) many now z call shown acts x is) has
