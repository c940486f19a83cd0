use Rattle.std.proofs.Common.{◌≡◌, sym, ◌∙◌, rules}
use Rattle.text_lines.proofs.Reading.{IsNumber-none, unread}
use Rattle.text_lines.proofs.number.read_number.Goals as goal

pub returns-in_err-ok-clause-none : goal.returns-in_err-ok-clause-none
returns-in_err-ok-clause-none c =
    rw c.from_residual.ensures (λ number small. IsNumber-none _ _ c.args.word.now c.from_utf8.result c.from_utf8.ensures.cases (λ error cases. cases.0) (sym c.ok.ensures.value ∙ c.in_err-ok.was) number)

pub returns-clause-none : goal.returns-clause-none
returns-clause-none c =
    let same : c.in_ok-ok.field-0.now ≡ c.args.word.now = search rules in
    rw (c.ok-2.ensures.value) (unread c.args.word.now c.parse.result (rw (← same) c.parse.ensures.value.0))
