use Rattle.std.proofs.Common.{◌≡◌, List, Result, Ok, Err, IfOk, subst, ◌∙◌}
use Rattle.script.specs.declared.command.Command.{Command}
use Rattle.simulator.specs.ScriptText.{IsPlayed}
use Rattle.simulator.proofs.answers.show.Goals as goal

-- what is so of what came is so of it in other words
so : {A E : Type 0} {P Q : A → Type 0} (r : Result A E) → ((x : A) → P x → Q x) → IfOk r P → IfOk r Q
so (Ok x) f p = f x p
so (Err e) f p = p

pub returns : goal.returns
returns c =
    let p = c.in_ok-played.ensures in
    let plays = subst (λ (cs : List Command). IsPlayed c.args.script.now.limit c.args.script.now.is_static cs p.0)
    c.as_slice.ensures.value p.1 in
    let all : c.as_slice-2.result.now ≡ p.0.moments = c.as_slice-2.ensures.value ∙ p.2 in
    let names = p.3 in
    let ticks = p.4 in
    let runs = p.5 in
    so c.text_of.result (λ text e. (p.0, plays, cc)) c.text_of.ensures
