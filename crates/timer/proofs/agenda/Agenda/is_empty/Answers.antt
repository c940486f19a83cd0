use Rattle.std.proofs.Common.{arith, ◌≡◌, ◌∙◌, sym, inl, inr, get_or}
use Rattle.std.proofs.lemmas.Bool.{false≢true}
use Rattle.std.proofs.lemmas.Bool.Decides.{leb_tells}
use Rattle.std.proofs.lemmas.Grind.{get_or_default_zero}
use Rattle.timer.specs.Order.{times, never}
use Rattle.timer.proofs.Times.{nobody, somebody}
use Rattle.timer.proofs.Trees.{least_leaf, leaf_of_root}
use Rattle.timer.proofs.agenda.Agenda.is_empty.Goals as goal

pub returns : goal.returns
returns c =
    let agenda = c.args.self.now in
    let h = least_leaf agenda.room c.index.result.now agenda.nodes.items agenda.tree agenda.some c.index.ensures in
    let found = leaf_of_root agenda.room agenda.nodes.items agenda.tree agenda.some in
    let root : c.index.result.now ≡ get_or agenda.nodes.items 1 0 = c.index.ensures
    ∙ get_or_default_zero agenda.nodes.items 1 c.index.result.now (omega (
      arith,
      agenda.tree.size,
      agenda.some,
    )) in
    elim (leb_tells never c.index.result.now) [
      | inl late ↦ (
        (λ is. nobody (times agenda) 0 (λ k within. let least = h k within in let here = late.1 in omega arith)),
        (λ none. late.0),
      )
      | inr early ↦ (
        (λ is. absurd (false≢true (sym early.0 ∙ is))),
        (λ none. absurd (somebody (times agenda) found.0 c.index.result.now found.1 (found.2 ∙ sym root) early.1 none)),
      )
    ]
