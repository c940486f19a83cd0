use Rattle.std.proofs.Common.{◌≡◌, ◌∷◌, ◌++◌, [], Err, length, refl, sym, ap, ◌∙◌, arith, rules}
use Rattle.std.proofs.lemmas.Grind.{common_steps}
use Rattle.std.proofs.lemmas.Result.{err_from_is_err_and}
use Rattle.text_lines.specs.declared.error.ParseError.TheVariants.{BadLine}
use Rattle.text_lines.proofs.Cutting.{lines_of-none}
use Rattle.script.proofs.Parsing.{HasParsed-push, HasParsed-all, HasParsed-bad, HasParsed-few, IsFirstBadLine-first}
use Rattle.script.proofs.Parsing.{IsScript-none, NoMemory-else}
use Rattle.script.proofs.Unambiguous.{IsScript-one}
use Rattle.script.proofs.parser.parse.Goals as goal

pub returns-in_default-clause-empty : goal.returns-in_default-clause-empty
returns-in_default-clause-empty c =
    (λ _. lines_of-none c.args.text.now (sym c.of-lines.ensures ∙ c.in_default.ensures.steps.0), λ _. refl)

pub returns-in_default-read_opening-clause-bad : goal.returns-in_default-read_opening-clause-bad
returns-in_default-read_opening-clause-bad c = λ number is.
    let first : 1 ≡ number = cc in
    rw (← first) (IsFirstBadLine-first c.args.text.now c.in-Some.first.now c.next.new.self
    (sym c.of-lines.ensures ∙ c.in-Some.ensures.steps) c.in_default-read_opening.ensures.none)

pub returns-in_default-read_opening-clause-accepts :
    goal.returns-in_default-read_opening-clause-accepts
returns-in_default-read_opening-clause-accepts c = λ limit is_static commands is.
    absurd (IsScript-none c.args.text.now limit 1 is_static commands is
    (IsFirstBadLine-first c.args.text.now c.in-Some.first.now c.next.new.self
    (sym c.of-lines.ensures ∙ c.in-Some.ensures.steps) c.in_default-read_opening.ensures.none))

pub read_command-requires : goal.read_command-requires
read_command-requires c =
    omega (
      arith,
      HasParsed-few c.in-Some-read_opening.opening.limit c.in-Some-read_opening.opening.is_static c.loop-line.commands.items c.args.text.now
          c.loop-line.line-iterator c.loop-line.invariant,
    )

pub returns-in_err-command-clause-bad : goal.returns-in_err-command-clause-bad
returns-in_err-command-clause-bad c = λ number is.
    let given = err_from_is_err_and c.from_residual.result c.from_residual.ensures.1 in
    let same : c.in_err-command.field-0.0 ≡ BadLine number = cc in
    let bad = c.in_err-command.ensures.bad number (ap Err same) in
    let counted : c.len.result ≡ length c.loop-line.commands.items = search rules in
    let opening = c.in-Some-read_opening.opening in
    HasParsed-bad opening.limit number opening.is_static c.loop-line.commands.items c.args.text.now
    c.in-Some-line.line.now c.loop-line.line-iterator c.next-in-loop-line.new.self c.loop-line.invariant
    c.in-Some-line.ensures.steps (rw (← counted) bad.0) (rw (← counted) bad.1)

pub returns-in_err-command-clause-accepts : goal.returns-in_err-command-clause-accepts
returns-in_err-command-clause-accepts c = λ limit is_static commands is.
    let given = err_from_is_err_and c.from_residual.result c.from_residual.ensures.1 in
    rw given.1 (NoMemory-else given.0 (λ number names.
    IsScript-none c.args.text.now limit number is_static commands is (returns-in_err-command-clause-bad c number (given.1 ∙ ap Err names))))

pub loop-line-preserved : goal.loop-line-preserved
loop-line-preserved c =
    let commands = c.loop-line.commands.items in
    let pushed : c.push.new.self.items ≡ commands ++ c.in_ok-command.command ∷ [] = grind (arith, common_steps) in
    let counted : c.len.result ≡ length commands = search rules in
    let opening = c.in-Some-read_opening.opening in
    rw pushed (HasParsed-push opening.limit opening.is_static commands c.args.text.now c.loop-line.line-iterator
    c.next-in-loop-line.new.self c.in_ok-command.command c.in-Some-line.line.now c.loop-line.invariant
    c.in-Some-line.ensures.steps c.in_ok-command.ensures.good.0 (rw (← counted) c.in_ok-command.ensures.good.1))

pub returns-clause-script : goal.returns-clause-script
returns-clause-script c =
    let opening = c.in-Some-read_opening.opening in
    HasParsed-all opening.limit opening.is_static c.loop-line.commands.items c.args.text.now c.loop-line.line-iterator
    c.loop-line.invariant c.in-None.ensures.steps.0

pub returns-clause-only : goal.returns-clause-only
returns-clause-only c = λ limit is_static commands is.
    let opening = c.in-Some-read_opening.opening in
    IsScript-one c.args.text.now opening.limit limit opening.is_static is_static c.loop-line.commands.items commands
    (returns-clause-script c) is
