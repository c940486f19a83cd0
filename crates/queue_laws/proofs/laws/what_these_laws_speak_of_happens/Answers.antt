use Rattle.std.proofs.lemmas.Bool.Decides.{nat_tests}
use Rattle.std.proofs.Common.{arith}
use Rattle.std.proofs.Common.{refl}
use Rattle.queue_steps.specs.Bounded.{is_marked, count_at, next_at}
use Rattle.queue_laws.proofs.laws.what_these_laws_speak_of_happens.Goals as goal

pub returns-clause-slot : goal.returns-clause-slot
returns-clause-slot = grind (arith, nat_tests)

pub returns-clause-ring : goal.returns-clause-ring
unfolding is_marked count_at next_at
returns-clause-ring g c x y z = record { answered = refl; appended = refl; left = refl; closings = refl }

pub returns-clause-chain : goal.returns-clause-chain
returns-clause-chain = grind (arith, nat_tests)

pub returns-clause-beside : goal.returns-clause-beside
unfolding is_marked count_at next_at
returns-clause-beside g c x y z = record { answered = refl; appended = refl; left = refl; closings = refl }
