use Rattle.lone_machine.proofs.SearchesRead.{reads_it}
use Rattle.lone_machine.proofs.reading.searches_read_the_list.Goals as goal

pub returns : goal.returns
returns c s a x it first on_top none = reads_it s a x it first on_top none
