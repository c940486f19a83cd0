use Rattle.machine_roads.proofs.Losing.{detaches_to_lose, goes_to_lose}
use Rattle.machine_roads.proofs.roads.a_handle_comes_to_lose.Goals as goal

pub returns-clause-detaches : goal.returns-clause-detaches
returns-clause-detaches g p here below w q under follows = detaches_to_lose p here below w q under follows

pub returns-clause-drops : goal.returns-clause-drops
returns-clause-drops g p here below w q under follows = goes_to_lose p here below w q under follows
