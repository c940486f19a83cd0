use Rattle.std.proofs.Common.{◌≡◌, ℕ, ◌-◌, sym, ap, ◌∙◌}
use Rattle.solo.specs.Steals.{round, looked}
use Rattle.solo.proofs.Stealing.{round-on}
use Rattle.solo.proofs.solo.Solo.walk_round.Goals as goal

pub loop-left-preserved : goal.loop-left-preserved
loop-left-preserved g c =
    ap (λ s. round c.args.count c.args.number (c.loop-left.left - 1) c.next_place-at.result s) c.look_at.ensures.solo
    ∙ ap
    (λ (at : ℕ). round c.args.count c.args.number (c.loop-left.left - 1) at (looked c.args.number c.loop-left.at c.loop-left.self))
    c.next_place-at.ensures
    ∙ sym (round-on c.args.count c.args.number c.loop-left.left c.loop-left.at c.loop-left.self c.loop-left-test.true (
    sym c.look_at.ensures.task ∙ c.in-None.is
    ))
    ∙ c.loop-left.invariant
