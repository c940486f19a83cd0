use Rattle.std.proofs.Common.{arith, refl, sym, ap, ◌∙◌, subst, IsSome}
use Rattle.slab.proofs.SlabLemmas.{Updates-with_value}
use Rattle.executor_parts.specs.Places.{first_waker, turned}
use Rattle.executor_parts.proofs.Ring.{left}
use Rattle.executor_parts.proofs.Placing.{none_under, placed_written}
use Rattle.executor_parts.proofs.Turning.{is_first, none_first, placed_turned, len_written, first_of, turned_under}
use Rattle.executor_parts.proofs.places.Places+F+Option+V.turn.Goals as goal

pub returns-in_default-clause-waker : goal.returns-in_default-clause-waker
returns-in_default-clause-waker g c = rw (← c.self.view_is) (sym (ap first_waker (none_under c.self.inside.slab
    c.self.inside.order.keys (sym c.in_default.is ∙ c.first.ensures))))

pub returns-in_default-clause-turned : goal.returns-in_default-clause-turned
returns-in_default-clause-turned g c =
    let none = none_under c.self.inside.slab c.self.inside.order.keys (sym c.in_default.is ∙ c.first.ensures) in
    rw (← c.self.view_is) (none ∙ sym (ap turned none))

pub remove-requires : goal.remove-requires
remove-requires g c = is_first c.self.inside.order.keys c.in-Some.first c.in-Some.ensures

pub push-requires-clause-new : goal.push-requires-clause-new
push-requires-clause-new g c = rw c.remove.ensures.keys (left c.in-Some.first c.self.inside.order.keys c.self.invariant.0.apart)

pub returns-in-None-clause-waker : goal.returns-in-None-clause-waker
returns-in-None-clause-waker g c = absurd (none_first c.self.inside.slab c.self.inside.order.keys c.in-Some.first c.self.invariant.0
    c.in-Some.ensures (sym c.in-None.ensures.value))

pub returns-in-None-clause-turned : goal.returns-in-None-clause-turned
returns-in-None-clause-turned g c = absurd (none_first c.self.inside.slab c.self.inside.order.keys c.in-Some.first c.self.invariant.0
    c.in-Some.ensures (sym c.in-None.ensures.value))

pub invariant_of-self : goal.invariant_of-self
invariant_of-self g c =
    rw (c.push.ensures.keys, c.remove.ensures.keys) (
      placed_turned c.self.inside.slab c.self.inside.order.keys c.in-Some.first
          c.self.invariant.0 (is_first c.self.inside.order.keys c.in-Some.first c.in-Some.ensures),
      c.self.invariant.1,
    )

pub invariant_of-self-2 : goal.invariant_of-self-2
invariant_of-self-2 g c =
    let h = c.in-Some-get_mut.held.now in
    let read = sym c.in-Some-get_mut.ensures.value in
    let len = len_written c.self.inside.slab c.in-Some.first h (record h { waker = c.take.new.self }) read in
    rw (c.push.ensures.keys, c.remove.ensures.keys) (
      placed_written c.self.inside.slab _ _ c.in-Some.first h (record h { waker = c.take.new.self })
          (placed_turned c.self.inside.slab c.self.inside.order.keys c.in-Some.first
          c.self.invariant.0 (is_first c.self.inside.order.keys c.in-Some.first c.in-Some.ensures)) read
          (Updates-with_value c.self.inside.slab c.in-Some.first (record h { waker = c.take.new.self }) (subst IsSome (sym read) refl)) len,
      omega (arith, len, c.self.invariant.1),
    )

pub returns-clause-waker : goal.returns-clause-waker
returns-clause-waker g c =
    rw (← c.self.view_is) (c.take.ensures.value ∙ sym (first_of c.self.inside.slab c.self.inside.order.keys c.in-Some.first
    c.in-Some-get_mut.held.now c.self.invariant.0 c.in-Some.ensures (sym c.in-Some-get_mut.ensures.value)))

pub returns-clause-turned : goal.returns-clause-turned
returns-clause-turned g c =
    let h = c.in-Some-get_mut.held.now in
    rw (← c.self.view_is, c.push.ensures.keys, c.remove.ensures.keys, c.take.ensures.after)
    (turned_under c.self.inside.slab c.self.inside.order.keys c.in-Some.first h c.self.invariant.0 c.in-Some.ensures
    (sym c.in-Some-get_mut.ensures.value))
