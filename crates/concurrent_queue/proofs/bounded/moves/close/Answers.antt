use Rattle.std.proofs.Common.{rules}
use Rattle.concurrent_queue.proofs.BoundedKeeps.{closes}
use Rattle.concurrent_queue.proofs.bounded.moves.close.Goals as goal

pub fetch_or-requires : goal.fetch_or-requires
fetch_or-requires g c =
    (search rules, search rules, closes _ _ _ _ _ c.args.mark c.args.board.now.key.bits c.requires.mark c.args.board.now.key.power)
