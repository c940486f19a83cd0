use Rattle.std.proofs.Common.{arith, refl, sym, subst, length, length-drop, ◌<◌, IsPermutation, ◌∷◌}
use Rattle.timer.specs.Order.{entries, times, standing_from}
use Rattle.timer.proofs.Times.{nobody, none_before, popped}
use Rattle.timer.proofs.Trees.{first_has, least_leaf}
use Rattle.timer.proofs.agenda.Agenda.turn.Goals as goal

pub returns-then-due-ge-NEVER-clause-turns : goal.returns-then-due-ge-NEVER-clause-turns
returns-then-due-ge-NEVER-clause-turns c =
    let agenda = c.args.self.now in
    let h = least_leaf agenda.room c.index-due.result.now agenda.nodes.items agenda.tree agenda.some c.index-due.ensures in
    (nobody (times agenda) 0 (λ k within. let least = h k within in omega arith), refl)

pub returns-then-now-due-clause-turns : goal.returns-then-now-due-clause-turns
returns-then-now-due-clause-turns c =
    let agenda = c.args.self.now in
    let h = least_leaf agenda.room c.index-due.result.now agenda.nodes.items agenda.tree agenda.some c.index-due.ensures in
    let later = c.if-now-due.true in
    (none_before (times agenda) 0 _ (λ k within. let least = h k within in omega arith), omega arith, refl)

pub returns-clause-turns : goal.returns-clause-turns
returns-clause-turns c =
    let agenda = c.args.self.now in
    let h = least_leaf agenda.room c.index-due.result.now agenda.nodes.items agenda.tree agenda.some c.index-due.ensures in
    let inside : c.first_leaf-place.result < length (times agenda) =
    omega (arith, length-drop agenda.room agenda.nodes.items, agenda.tree.size, c.first_leaf-place.ensures.within) in
    let is = first_has agenda.room c.first_leaf-place.result c.index-due.result.now agenda.nodes.items _ c.as_slice.ensures.value
    c.first_leaf-place.ensures.least (omega (
      arith,
      agenda.tree.size,
      agenda.some,
    )) c.index-due.ensures in
    let gone = popped (times agenda) c.first_leaf-place.result c.index-due.result.now inside is (omega arith) in
    record {
      due = c.index-due.result.now;
      in_time = c.if-now-due.false;
      first = none_before (times agenda) 0 _ h;
      gone = subst (λ l. IsPermutation (entries agenda) ((c.index-due.result.now, c.first_leaf-place.result) ∷ standing_from 0 l))
          (sym c.set.ensures.times) gone;
    }
