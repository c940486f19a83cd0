use Rattle.std.proofs.Common.{ℕ, List, eqb, ap, sym, ◌∙◌}
use Rattle.std.specs.Prelude.{position}
use Rattle.executor_core.proofs.Taking.{absent-stays, found-removed}
use Rattle.executor_core.proofs.runs.list.QueueList.remove.Goals as goal

pub returns-in-Some : goal.returns-in-Some
returns-in-Some c =
    let xs = c.args.self.now.runs.items in
    c.remove.ensures.items ∙ found-removed c.args.r xs c.in-Some.at
    (ap (λ (l : List ℕ). position (λ x. eqb c.args.r x) l) (sym c.as_slice.ensures.value)
    ∙ sym c.find.ensures ∙ c.in-Some.is)

pub returns-in-None : goal.returns-in-None
returns-in-None c =
    absent-stays c.args.r c.args.self.now.runs.items
    (ap (λ (l : List ℕ). position (λ x. eqb c.args.r x) l) (sym c.as_slice.ensures.value)
    ∙ sym c.find.ensures ∙ c.in-None.is)
