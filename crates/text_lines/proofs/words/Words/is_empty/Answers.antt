use Rattle.std.proofs.Common.{sym, ◌∙◌}
use Rattle.text_lines.proofs.Cutting.{words_left-none}
use Rattle.text_lines.proofs.words.Words.is_empty.Goals as goal

pub returns : goal.returns
returns c =
    let both = words_left-none c.self.inside.rest c.is_none.result c.is_none.ensures in
    (λ none. sym c.self.view_is ∙ both.0 none, λ empty. both.1 (c.self.view_is ∙ empty))
