use Rattle.std.proofs.Common.{sym, ap}
use Rattle.executor_parts.specs.Places.{waker_of}
use Rattle.executor_parts.proofs.Placing.{none_in, other_in, here_in, apart_entries}
use Rattle.executor_parts.proofs.places.Places.waker.Goals as goal

pub returns-then-held-place-clause-waker : goal.returns-then-held-place-clause-waker
returns-then-held-place-clause-waker g c =
    let here = here_in c.args.place _ _ c.in-Some.held.now c.self.invariant.0 (sym c.in-Some.ensures) c.if-held-place.true in
    rw (← c.self.view_is) (sym (ap waker_of here))

pub returns-then-held-place-clause-apart : goal.returns-then-held-place-clause-apart
returns-then-held-place-clause-apart g c = rw (← c.self.view_is) (apart_entries _ _ c.self.invariant.0)

pub returns-else-held-place-clause-waker : goal.returns-else-held-place-clause-waker
returns-else-held-place-clause-waker g c =
    let other = other_in c.args.place _ _ c.in-Some.held.now c.self.invariant.0 (sym c.in-Some.ensures) c.if-held-place.false in
    rw (← c.self.view_is) (sym (ap waker_of other))

pub returns-else-held-place-clause-apart : goal.returns-else-held-place-clause-apart
returns-else-held-place-clause-apart g c = rw (← c.self.view_is) (apart_entries _ _ c.self.invariant.0)

pub returns-in-None-clause-waker : goal.returns-in-None-clause-waker
returns-in-None-clause-waker g c = rw (← c.self.view_is) (sym
    (ap waker_of (none_in c.args.place _ _ c.self.invariant.0 (sym c.in-None.ensures))))

pub returns-in-None-clause-apart : goal.returns-in-None-clause-apart
returns-in-None-clause-apart g c = rw (← c.self.view_is) (apart_entries _ _ c.self.invariant.0)
