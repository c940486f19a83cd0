use Rattle.std.proofs.Common.{subst, sym, arith, ap, ◌∙◌, ◌≡◌, ◌<◌, ◌∷◌, length, set, IsPermutation}
use Rattle.std.proofs.lemmas.List.{length-drop}
use Rattle.std.specs.Duration.{as_nanos}
use Rattle.timer.specs.Order.{never, standing_from, times}
use Rattle.timer.specs.Places.{is_asleep}
use Rattle.timer.proofs.Times.{entered, no_time}
use Rattle.timer.proofs.deadlines.Deadlines.enter.Goals as goal

pub returns-clause-due : goal.returns-clause-due
returns-clause-due g c =
    let s = c.args.self.now in
    let place = c.insert_reserved-place.result in
    let none = no_time _ (sym (s.agreed place) ∙ ap is_asleep c.insert_reserved-place.ensures.was_vacant) in
    let within : place < length (times s.agenda) = omega (
      arith,
      length-drop s.agenda.room s.agenda.nodes.items,
      s.agenda.tree.size,
      s.room,
      c.insert_reserved-place.ensures.key_in_range,
      c.insert_reserved-place.ensures.capacity,
    ) in
    let early : as_nanos c.args.due < never = omega arith in
    let h = entered (times s.agenda) 0 place place (as_nanos c.args.due) within none early (omega arith) in
    let is : set (times s.agenda) place (as_nanos c.args.due) ≡ times c.set.new.self =
    ap (set (times s.agenda) place) (sym c.as_nanos-due.ensures) ∙ sym c.set.ensures.times in
    subst (λ ts. IsPermutation ((as_nanos c.args.due, place) ∷ standing_from 0 (times s.agenda)) (standing_from 0 ts)) is h
