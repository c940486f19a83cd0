use Rattle.std.proofs.Common.{◌≡◌, ◌∙◌, ◌∷◌, Some, Ok, sym, subst, ap, refl}
use Rattle.waiting.specs.Ascending.{Ascends, before, HasPut}
use Rattle.waiting.proofs.Finding.{rest_ascends, put_here, put_past}
use Rattle.waiting.proofs.entries.put.Goals as goal

pub returns-then-one-number : goal.returns-then-one-number
returns-then-one-number g c =
    let ascends : Ascends 0 c.requires.0 (before (Some c.in-Some.one) c.args.rest.now.entries) =
    subst (λ f. Ascends 0 c.requires.0 (before f c.args.rest.now.entries)) c.in-Some.is c.requires.1 in
    subst (λ f. HasPut c.args.number c.args.waker (before f c.args.rest.now.entries) (c.replace.new.one ∷ c.args.rest.now.entries)
    (Ok c.replace.result)) (sym c.in-Some.is)
    (subst (λ e. HasPut c.args.number c.args.waker (c.in-Some.one ∷ c.args.rest.now.entries) (e ∷ c.args.rest.now.entries)
    (Ok c.replace.result)) (sym c.replace.ensures.is)
    (subst (λ w. HasPut c.args.number c.args.waker (c.in-Some.one ∷ c.args.rest.now.entries)
    ((c.in-Some.one.0, c.args.waker) ∷ c.args.rest.now.entries) (Ok w)) (sym c.replace.ensures.was)
    (put_here c.args.number c.requires.0 c.args.waker c.in-Some.one c.args.rest.now.entries c.if-one-number.true ascends)))

pub put_in_rest-requires-2 : goal.put_in_rest-requires-2
put_in_rest-requires-2 g c = (c.requires.0, rest_ascends c.requires.0 c.args.first.now c.args.rest.now.entries c.requires.1)

pub returns : goal.returns
returns g c =
    subst (λ f. HasPut c.args.number c.args.waker (before f c.args.rest.now.entries)
    (c.in-Some.one ∷ c.put_in_rest-2.new.rest.entries) c.put_in_rest-2.result) (sym c.in-Some.is)
    (put_past c.args.number c.args.waker c.in-Some.one c.args.rest.now.entries c.put_in_rest-2.new.rest.entries c.put_in_rest-2.result
    c.if-one-number.false c.put_in_rest-2.ensures)
