use Rattle.script.proofs.Parsing.{HasParsed}
use Rattle.script.proofs.parser.parse.Given as goal

abbrev pub invariant-loop-line : goal.invariant-loop-line
invariant-loop-line l = HasParsed l.opening.limit l.opening.is_static l.commands.items l.text l.line-iterator
