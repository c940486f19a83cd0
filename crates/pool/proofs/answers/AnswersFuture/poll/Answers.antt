use Rattle.std.proofs.Common.{rules, arith, ap, ◌≡◌, ◌<◌, ◌∷◌, ◌++◌, [], length}
use Rattle.std.proofs.lemmas.List.{length-drop}
use Rattle.pool.proofs.Coming.{one_came}
use Rattle.pool.proofs.answers.AnswersFuture.poll.Goals as goal

pub loop-preserved : goal.loop-preserved
loop-preserved g c =
    let left = c.loop.self.waiting.items in
    let next = c.in-Ready-Ok.ensures.stepped in
    let some : 0 < length left = omega (arith, c.loop.invariant.1, c.loop.auto.counter-end, c.loop-test.true) in
    let pushed : c.push_reserved.new.self.items ≡ c.loop.self.outputs.items ++ c.in-Ready-Ok.output ∷ [] = search rules in (
      c.loop.invariant.0,
      omega (arith, some, c.loop.invariant.1, ap length next, length-drop 1 left),
      one_came _ _ _ _ _ _ c.in-Ready-Ok.output c.loop.invariant.2 some next pushed,
    )
