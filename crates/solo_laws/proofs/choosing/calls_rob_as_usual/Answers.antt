use Rattle.solo_laws.proofs.Choices.AsUsual.{robs_there}
use Rattle.solo_laws.proofs.Choices.Searched.{walked_there}
use Rattle.solo_laws.proofs.Showing.Courses.{led_known}
use Rattle.solo_laws.proofs.choosing.calls_rob_as_usual.Goals as goal

pub returns : goal.returns
returns g k its owner c s p now z call shown led many acts one two from x is has =
    let known = led_known its owner s p led in
    let it = walked_there its owner c s p known many one two now z call shown acts from x is in
    robs_there its owner c s x now z known.listed.within one two it.0 it.1 has
