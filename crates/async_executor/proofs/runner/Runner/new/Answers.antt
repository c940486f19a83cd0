-- Walks start where the words of the seed say.
use Rattle.async_executor.specs.Seeds.{seeded}
use Rattle.async_executor.proofs.runner.Runner.new.Goals as goal

pub returns-in-Ok-room-clause-words : goal.returns-in-Ok-room-clause-words
unfolding seeded
returns-in-Ok-room-clause-words g c = c.seed_from_u64.ensures
