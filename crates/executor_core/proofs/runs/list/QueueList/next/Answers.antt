use Rattle.std.proofs.Common.{◌-◌, ℕ, ap, sym, ◌∙◌}
use Rattle.std.specs.Prelude.{Some}
use Rattle.executor_model.specs.ActsOfRuns.{walk}
use Rattle.executor_core.specs.Walks.{goes_to}
use Rattle.executor_core.proofs.Walking.{passes, stops}
use Rattle.executor_core.proofs.runs.list.QueueList.next.Goals as goal

pub returns-then-run-r : goal.returns-then-run-r
returns-then-run-r c = λ x e.
    let qs = c.args.self.now.runs.items in
    let m = c.loop-left.left - 1 in
    c.loop-left.invariant x e
    ∙ stops x qs c.loop-left.at c.loop-left.left c.loop-left-test.true
    (λ q. c.if-run-r.true (c.run_at-run.ensures ∙ q ∙ e))
    ∙ (λ i. goes_to x (Some (record { run = sym c.run_at-run.ensures i; next = sym c.place_after-at.ensures i; left = m })))

pub loop-left-preserved : goal.loop-left-preserved
loop-left-preserved c = λ x e.
    let qs = c.args.self.now.runs.items in
    c.loop-left.invariant x e
    ∙ passes x qs c.loop-left.at c.loop-left.left c.loop-left-test.true
    (sym c.run_at-run.ensures ∙ c.if-run-r.false ∙ sym e)
    ∙ ap (λ (n : ℕ). walk x qs n (c.loop-left.left - 1)) (sym c.place_after-at.ensures)
