use Rattle.std.proofs.Common.{not, Bool, true, false, refl, ap, ◌≡◌, ◌∙◌, sym}
use Rattle.solo_laws.proofs.Following.Counting.{runs_count, runs_count_anew}
use Rattle.solo_laws.proofs.Showing.Courses.{led_known}
use Rattle.solo_laws.proofs.running.runs_count_alike.Goals as goal

twice : (b : Bool) → not (not b) ≡ b
twice true = refl
twice false = refl

pub returns-clause-takes : goal.returns-clause-takes
returns-clause-takes g c d p = runs_count d p

pub returns-clause-anew : goal.returns-clause-anew
returns-clause-anew g c d p = runs_count_anew d p

pub returns-clause-led : goal.returns-clause-led
returns-clause-led g c its owner s p led r =
    let known = (led_known its owner s p led).tallied in
    (known.number r, known.taken r, sym (ap not (known.gives_way r) ∙ twice (owner.gives_way r)))
