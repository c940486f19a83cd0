use Rattle.std.proofs.Common.{rules, ◌≡◌, ℕ, ◌+◌, ◌<◌, List, ◌∷◌, length, drop, get_or, subst}
use Rattle.std.proofs.Common.{sym, ap, ◌∙◌, ◌≤◌, add-one, refl, arith}
use Rattle.std.proofs.Math.Seq.{drop-cons}
use Rattle.std.proofs.lemmas.List.{drop_all}
use Rattle.executor_core.specs.AllLaws.{AllLaws}
use Rattle.executor_model.specs.Steps as steps
use Rattle.script.specs.declared.command.Command.{Command}
use Rattle.simulator.specs.Play.{Player, kind_of, start}
use Rattle.simulator.specs.Commands.{PlaysUnless, PlaysAll}
use Rattle.simulator.proofs.Keeping.{IsFair, fair}
use Rattle.simulator.proofs.play.run.Goals as goal

-- the command at i and those behind it are the commands from i on
from_here : (cs : List Command) (i : ℕ) (c : Command) → i < length cs → c ≡ get_or cs i c →
    c ∷ drop (i + 1) cs ≡ drop i cs
from_here cs i c within is = ap (λ x. x ∷ drop (i + 1) cs) is ∙ sym (rw add-one (drop-cons cs i c within))

-- the command at i is played, and then those behind it
plays_on : (cs : List Command) (i : ℕ) (c : Command) (s next last : Player) → c ∷ drop (i + 1) cs ≡ drop i cs →
    PlaysUnless s.stopped i c s next → PlaysAll (i + 1) (drop (i + 1) cs) next last → PlaysAll i (drop i cs) s last
plays_on cs i c s next last here plays later =
    let P : ℕ → Type 0 = λ n. PlaysAll n (drop (i + 1) cs) next last in
    let Q : List Command → Type 0 = λ ds. PlaysAll i ds s last in
    subst Q here (next, plays, subst P (add-one i) later)

pub loop-at-preserved : goal.loop-at-preserved
loop-at-preserved c = λ last later.
    let cs = c.args.commands.now in
    let i = c.loop-at.at in
    let here = from_here cs i c.index-commands-at.result c.loop-at-test.true c.index-commands-at.is in
    c.loop-at.invariant last
    (plays_on cs i c.index-commands-at.result c.loop-at.player c.play_unless_stopped.new.self last here
    c.in_ok-play_unless_stopped.ensures later)

-- no command is left
played_all : (cs : List Command) (i : ℕ) (s : Player) → length cs ≤ i → PlaysAll i (drop i cs) s s
played_all cs i s past = subst (λ (ds : List Command). PlaysAll i ds s s) (sym (drop_all i cs (omega (arith, past))))
    refl

pub returns : goal.returns
returns c =
    let last = c.loop-at.player in
    let plays : PlaysAll 0 c.args.commands.now (start c.args.commands.now c.args.limit c.args.is_static) last =
    c.loop-at.invariant last (played_all c.args.commands.now c.loop-at.at last c.loop-at-test.false) in
    let comes : IsFair (steps.start c.args.limit (kind_of c.args.is_static) 10) last =
    fair c.traces_continue.ensures c.args.limit c.args.is_static c.args.commands.now last plays in (
      last,
      record {
        plays = plays;
        made = comes.0;
        shown = comes.1;
        laws = subst (λ (x : Player). AllLaws x.machine) c.player-2.view_is c.keeps_to_laws.ensures;
      },
      search rules,
      search rules,
      search rules,
      search rules,
    )
