use Rattle.machine_roads.proofs.Calling.{copies_kept, keeps_own}
use Rattle.machine_roads.proofs.roads.a_copy_is_a_copy.Goals as goal

pub returns-clause-copies : goal.returns-clause-copies
returns-clause-copies g p here below w q under follows = copies_kept p below under here w q follows

pub returns-clause-keeps : goal.returns-clause-keeps
returns-clause-keeps g p here below w q under follows = keeps_own p below under here w q follows
