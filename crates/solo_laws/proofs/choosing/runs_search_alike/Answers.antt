use Rattle.solo_laws.proofs.Choices.Searched.{searched_there}
use Rattle.solo_laws.proofs.Showing.Courses.{led_known}
use Rattle.solo_laws.proofs.choosing.runs_search_alike.Goals as goal

pub returns : goal.returns
returns g k its owner c s p now z call shown led many acts x is =
    searched_there its owner c s p (led_known its owner s p led) many now z call shown acts x is
