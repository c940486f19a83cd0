use Rattle.std.proofs.Common.{◌≡◌, length}
use Rattle.combinators.specs.Rounds.{HaveGone}
use Rattle.combinators.proofs.unordered.FuturesUnordered.poll_next.Given as goal

-- this many turns were pending
abbrev pub invariant-loop-turn : goal.invariant-loop-turn
invariant-loop-turn g l =
    HaveGone l._turn l.fn.self.futures.items l.self.futures.items
    × (l._turn-end ≡ length l.fn.self.futures.items)
    × (l.self.next ≡ l.fn.self.next)
