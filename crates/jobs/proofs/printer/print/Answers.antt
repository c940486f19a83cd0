use Rattle.std.proofs.Common.{◌++◌, ◌<◌, get_or, length, sym, ap, ◌∙◌, arith}
use Rattle.jobs.specs.declared.job.Answer.TheVariants.{Value}
use Rattle.jobs.specs.Lines.{line_text}
use Rattle.jobs.proofs.Printing.{answers_text-more}
use Rattle.jobs.proofs.printer.print.Goals as goal

pub loop-number-preserved : goal.loop-number-preserved
loop-number-preserved c =
    let number = c.loop-number.number in
    let answers = c.args.answers.now in
    let within : number < length answers = omega arith in
    c.in_ok-push_line.ensures
    ∙ ap (λ text. text ++ line_text number (get_or answers number (Value 0))) c.loop-number.invariant
    ∙ sym (answers_text-more answers number (Value 0) within)
