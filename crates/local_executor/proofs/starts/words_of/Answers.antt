-- Walks start where the words of the seed say.
use Rattle.local_executor.specs.Starts.{seeded}
use Rattle.local_executor.proofs.starts.words_of.Goals as goal

pub returns : goal.returns
unfolding seeded
returns c = c.seed_from_u64.ensures
