use Rattle.solo_laws.proofs.Following.Taking.{searched_alike}
use Rattle.solo_laws.proofs.roads.a_search_takes_what_is_due.Goals as goal

pub returns : goal.returns
returns c name lines due = searched_alike name lines due
