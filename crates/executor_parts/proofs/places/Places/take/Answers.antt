use Rattle.std.proofs.Common.{None, sym, ap, ◌∙◌}
use Rattle.executor_parts.specs.Places.{future_of, set_future, entries_of}
use Rattle.executor_parts.proofs.Placing.{none_in, other_in, here_in, unset, rewritten, set_here}
use Rattle.executor_parts.proofs.places.Places.take.Goals as goal

pub returns-in-None-clause-future : goal.returns-in-None-clause-future
returns-in-None-clause-future g c = rw (← c.self.view_is) (sym
    (ap future_of (none_in c.args.place _ _ c.self.invariant.0 (sym c.in-None.ensures.value))))

pub returns-in-None-clause-out : goal.returns-in-None-clause-out
returns-in-None-clause-out g c = rw (← c.self.view_is) (sym (unset c.args.place None _
    (none_in c.args.place _ _ c.self.invariant.0 (sym c.in-None.ensures.value))))

pub returns-then-held-place-clause-future : goal.returns-then-held-place-clause-future
returns-then-held-place-clause-future g c =
    rw (← c.self.view_is) (c.take.ensures.value ∙ sym (ap future_of
    (here_in c.args.place _ _ c.in-Some.held.now c.self.invariant.0 (sym c.in-Some.ensures.value) c.if-held-place.true)))

pub returns-then-held-place-clause-out : goal.returns-then-held-place-clause-out
returns-then-held-place-clause-out g c =
    rw (← c.self.view_is)
    (set_here c.args.place c.self.inside.slab c.self.inside.order.keys c.in-Some.held.now c.take.new.self c.self.invariant.0
    (sym c.in-Some.ensures.value) c.if-held-place.true
    ∙ ap (λ future. set_future c.args.place future (entries_of c.self.inside.slab c.self.inside.order.keys)) c.take.ensures.after)

pub returns-clause-future : goal.returns-clause-future
returns-clause-future g c = rw (← c.self.view_is) (sym (ap future_of
    (other_in c.args.place _ _ c.in-Some.held.now c.self.invariant.0 (sym c.in-Some.ensures.value) c.if-held-place.false)))

pub returns-clause-out : goal.returns-clause-out
returns-clause-out g c =
    rw (← c.self.view_is)
    (rewritten c.self.inside.slab c.self.inside.order.keys c.args.place.key c.in-Some.held.now (sym c.in-Some.ensures.value)
    ∙ sym (unset c.args.place None _ (other_in c.args.place _ _ c.in-Some.held.now c.self.invariant.0 (sym c.in-Some.ensures.value)
    c.if-held-place.false)))
