use Rattle.solo_laws.proofs.Choices.Counts.{calls_count}
use Rattle.solo_laws.proofs.Showing.Counts.{all_count_to_64}
use Rattle.solo_laws.proofs.counting.runs_count_what_they_take.Goals as goal

pub returns-clause-counts : goal.returns-clause-counts
returns-clause-counts g c = calls_count

pub returns-clause-below : goal.returns-clause-below
returns-clause-below g c = all_count_to_64
