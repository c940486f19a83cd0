use Rattle.std.proofs.Common.{sym, ◌∙◌, rules}
use Rattle.text_lines.proofs.Cutting.{words_of-cut}
use Rattle.text_lines.proofs.words.WordsIterator.next.Goals as goal

pub returns-clause-steps : goal.returns-clause-steps
returns-clause-steps c =
    sym c.self.view_is ∙ rw c.in_ok-self.was (words_of-cut c.in_ok-self.field-0.now c.cut.result.0.now c.cut.result.1 c.cut.ensures.front c.cut.ensures.whole)

pub returns-clause-goes : goal.returns-clause-goes
returns-clause-goes c = rw (returns-clause-steps c) (search rules)
