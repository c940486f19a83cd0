use Rattle.std.proofs.Common.{◌≡◌, take}
use Rattle.jobs.specs.Lines.{answers_text}
use Rattle.jobs.proofs.printer.print.Given as goal

abbrev pub invariant-loop-number : goal.invariant-loop-number
invariant-loop-number l = l.text.items ≡ answers_text 0 (take l.number l.answers)
