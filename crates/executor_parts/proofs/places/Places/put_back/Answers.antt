use Rattle.std.proofs.Common.{Some, sym, ap, ◌∙◌}
use Rattle.executor_parts.specs.Places.{displaced, set_future, entries_of}
use Rattle.executor_parts.proofs.Placing.{none_in, other_in, here_in, unset, rewritten, set_here}
use Rattle.executor_parts.proofs.places.Places.put_back.Goals as goal

pub returns-in-None-clause-over : goal.returns-in-None-clause-over
returns-in-None-clause-over g c = rw (← c.self.view_is) (sym
    (ap (displaced c.args.future) (none_in c.args.place _ _ c.self.invariant.0 (sym c.in-None.ensures.value))))

pub returns-in-None-clause-back : goal.returns-in-None-clause-back
returns-in-None-clause-back g c = rw (← c.self.view_is) (sym
    (unset c.args.place (Some c.args.future) _ (none_in c.args.place _ _ c.self.invariant.0 (sym c.in-None.ensures.value))))

pub returns-then-held-place-clause-over : goal.returns-then-held-place-clause-over
returns-then-held-place-clause-over g c =
    rw (← c.self.view_is) (c.replace.ensures.value ∙ sym (ap (displaced c.args.future)
    (here_in c.args.place _ _ c.in-Some.held.now c.self.invariant.0 (sym c.in-Some.ensures.value) c.if-held-place.true)))

pub returns-then-held-place-clause-back : goal.returns-then-held-place-clause-back
returns-then-held-place-clause-back g c =
    rw (← c.self.view_is)
    (set_here c.args.place c.self.inside.slab c.self.inside.order.keys c.in-Some.held.now c.replace.new.self c.self.invariant.0
    (sym c.in-Some.ensures.value) c.if-held-place.true
    ∙ ap (λ future. set_future c.args.place future (entries_of c.self.inside.slab c.self.inside.order.keys)) c.replace.ensures.after)

pub returns-clause-over : goal.returns-clause-over
returns-clause-over g c = rw (← c.self.view_is) (sym (ap (displaced c.args.future)
    (other_in c.args.place _ _ c.in-Some.held.now c.self.invariant.0 (sym c.in-Some.ensures.value) c.if-held-place.false)))

pub returns-clause-back : goal.returns-clause-back
returns-clause-back g c =
    rw (← c.self.view_is)
    (rewritten c.self.inside.slab c.self.inside.order.keys c.args.place.key c.in-Some.held.now (sym c.in-Some.ensures.value)
    ∙ sym (unset c.args.place (Some c.args.future) _ (other_in c.args.place _ _ c.in-Some.held.now c.self.invariant.0
    (sym c.in-Some.ensures.value) c.if-held-place.false)))
