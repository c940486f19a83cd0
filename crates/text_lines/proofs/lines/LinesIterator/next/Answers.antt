use Rattle.std.proofs.Common.{◌<◌, length, refl, sym, ◌∙◌, arith, rules}
use Rattle.std.proofs.lemmas.Bool.Decides.{nat_tests}
use Rattle.text_lines.proofs.Cutting.{lines_of-cut}
use Rattle.text_lines.proofs.lines.LinesIterator.next.Goals as goal

pub returns-clause-steps : goal.returns-clause-steps
returns-clause-steps c =
    let some : 0 < length c.self.inside.rest.now = grind (arith, nat_tests) in
    sym c.self.view_is ∙ lines_of-cut c.self.inside.rest.now c.cut.result.0.now c.cut.result.1 _ _ c.unwrap_or-self-inside.ensures refl some c.cut.ensures.front c.cut.ensures.whole

pub returns-clause-goes : goal.returns-clause-goes
returns-clause-goes c = rw (returns-clause-steps c) (search rules)
