use Rattle.std.proofs.Common.{◌≡◌, ◌∷◌, ◌++◌, ◌+◌, ◌<◌, ◌≤◌, [], length, refl, arith, rules}
use Rattle.std.proofs.lemmas.Grind.{common_steps}
use Rattle.jobs.proofs.Parsing.{HasParsed-push, HasParsed-all, HasParsed-bad, Says-none}
use Rattle.jobs.proofs.Unambiguous.{Says-one}
use Rattle.jobs.proofs.parser.parse.Goals as goal

pub returns-then-len-ge-MOST_LINES-clause-bad : goal.returns-then-len-ge-MOST_LINES-clause-bad
returns-then-len-ge-MOST_LINES-clause-bad c = λ number is.
    let counted : c.len-then-len-ge-MOST_LINES.result ≡ length c.loop-line.jobs.items = search rules in
    let many : 100000 ≤ length c.loop-line.jobs.items = search rules in
    let numbered : number ≡ length c.loop-line.jobs.items + 1 = cc in
    HasParsed-bad c.loop-line.jobs.items c.args.text.now c.in-Some.line.now c.loop-line.line-iterator c.next.new.self number c.loop-line.invariant c.in-Some.ensures.steps numbered (λ good. omega (arith, good.within))

pub returns-then-len-ge-MOST_LINES-clause-accepts :
    goal.returns-then-len-ge-MOST_LINES-clause-accepts
returns-then-len-ge-MOST_LINES-clause-accepts c = λ jobs is.
    absurd (Says-none c.args.text.now _ jobs is (returns-then-len-ge-MOST_LINES-clause-bad c _ refl))

pub returns-in_default-clause-bad : goal.returns-in_default-clause-bad
returns-in_default-clause-bad c = λ number is.
    let counted : c.len-in_default.result ≡ length c.loop-line.jobs.items = search rules in
    let numbered : number ≡ length c.loop-line.jobs.items + 1 = cc in
    HasParsed-bad c.loop-line.jobs.items c.args.text.now c.in-Some.line.now c.loop-line.line-iterator c.next.new.self number c.loop-line.invariant c.in-Some.ensures.steps numbered (λ good. c.in_default.ensures.none good.job good.spelled good.short)

pub returns-in_default-clause-accepts : goal.returns-in_default-clause-accepts
returns-in_default-clause-accepts c = λ jobs is.
    absurd (Says-none c.args.text.now _ jobs is (returns-in_default-clause-bad c _ refl))

pub loop-line-preserved : goal.loop-line-preserved
loop-line-preserved c =
    let jobs = c.loop-line.jobs.items in
    let pushed : c.push.new.self.items ≡ jobs ++ c.in-Some-read_line.job ∷ [] = grind (arith, common_steps) in
    let few : length jobs < 100000 = search rules in
    rw pushed (HasParsed-push jobs c.args.text.now c.loop-line.line-iterator c.next.new.self c.in-Some-read_line.job c.in-Some.line.now c.loop-line.invariant c.in-Some.ensures.steps few c.in-Some-read_line.ensures.found.0 c.in-Some-read_line.ensures.found.1)

pub returns-clause-jobs : goal.returns-clause-jobs
returns-clause-jobs c =
    HasParsed-all c.loop-line.jobs.items c.args.text.now c.loop-line.line-iterator c.loop-line.invariant c.in-None.ensures.steps.0

pub returns-clause-only : goal.returns-clause-only
returns-clause-only c = λ jobs is. Says-one c.args.text.now c.loop-line.jobs.items jobs (returns-clause-jobs c) is
