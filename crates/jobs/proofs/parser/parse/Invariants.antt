use Rattle.jobs.proofs.Parsing.{HasParsed}
use Rattle.jobs.proofs.parser.parse.Given as goal

abbrev pub invariant-loop-line : goal.invariant-loop-line
invariant-loop-line l = HasParsed l.jobs.items l.text l.line-iterator
