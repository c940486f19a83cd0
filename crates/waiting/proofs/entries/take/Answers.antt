use Rattle.std.proofs.Common.{◌≡◌, ◌∙◌, ◌∷◌, Some, None, sym, subst}
use Rattle.waiting.specs.Ascending.{Ascends, before, HasTaken}
use Rattle.waiting.proofs.Finding.{rest_ascends, taken_here, taken_past}
use Rattle.waiting.proofs.entries.take.Goals as goal

pub returns-then-own-number : goal.returns-then-own-number
returns-then-own-number g c =
    let is : c.args.first.now ≡ Some (c.in-Some.own, c.in-Some.waker) = sym c.take.ensures.value ∙ c.in-Some.is in
    let ascends : Ascends 0 c.requires.0 (before (Some (c.in-Some.own, c.in-Some.waker)) c.args.rest.now.entries) =
    subst (λ f. Ascends 0 c.requires.0 (before f c.args.rest.now.entries)) is c.requires.1 in
    subst (λ f. HasTaken c.args.number (before f c.args.rest.now.entries) (before c.take.new.self c.args.rest.now.entries)
    (Some c.in-Some.waker)) (sym is)
    (subst (λ f. HasTaken c.args.number ((c.in-Some.own, c.in-Some.waker) ∷ c.args.rest.now.entries)
    (before f c.args.rest.now.entries) (Some c.in-Some.waker)) (sym c.take.ensures.after)
    (taken_here c.args.number c.requires.0 (c.in-Some.own, c.in-Some.waker) c.args.rest.now.entries c.if-own-number.true ascends))

pub take_from_rest-requires-2 : goal.take_from_rest-requires-2
take_from_rest-requires-2 g c = (c.requires.0, rest_ascends c.requires.0 c.args.first.now c.args.rest.now.entries c.requires.1)

pub returns : goal.returns
returns g c =
    let is : c.args.first.now ≡ Some (c.in-Some.own, c.in-Some.waker) = sym c.take.ensures.value ∙ c.in-Some.is in
    subst (λ f. HasTaken c.args.number (before f c.args.rest.now.entries)
    ((c.in-Some.own, c.in-Some.waker) ∷ c.take_from_rest-2.new.rest.entries) c.take_from_rest-2.result) (sym is)
    (taken_past c.args.number (c.in-Some.own, c.in-Some.waker) c.args.rest.now.entries c.take_from_rest-2.new.rest.entries
    c.take_from_rest-2.result c.if-own-number.false c.take_from_rest-2.ensures)
