use Rattle.std.proofs.Common.{◌≡◌, ◌+◌, length}
use Rattle.pool.specs.Answers.{HaveCome}
use Rattle.pool.proofs.answers.AnswersFuture.poll.Given as goal

-- an output came for each round, and the other answers are left
abbrev pub invariant-loop : goal.invariant-loop
invariant-loop g l =
    (l.end ≡ length l.fn.self.waiting.items) × (l.counter + length l.self.waiting.items ≡ l.end)
    × HaveCome l.fn.self.outputs.items l.fn.self.waiting.items l.self.outputs.items l.self.waiting.items
