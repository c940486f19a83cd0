use Rattle.std.proofs.Common.{◌≡◌, Some, IsSome, refl, sym, subst}
use Rattle.executor_parts.specs.Places.{entry_at}
use Rattle.executor_parts.proofs.Placing.{entry_of, none_under, first_under, reads_some, first_left}
use Rattle.executor_parts.proofs.places.Places.leave_first.Goals as goal

pub remove-requires : goal.remove-requires
remove-requires g c =
    let first = first_under c.self.inside.slab c.self.inside.order.keys c.in-Some.key c.self.invariant.0 c.in-Some.ensures in
    rw (← c.self.view_is) (subst IsSome (sym (reads_some c.self.inside.slab c.self.inside.order.keys c.in-Some.key first.0
    c.self.invariant.0 first.1)) refl)

pub returns-in-Some-clause-some : goal.returns-in-Some-clause-some
returns-in-Some-clause-some g c =
    let first = first_under c.self.inside.slab c.self.inside.order.keys c.in-Some.key c.self.invariant.0 c.in-Some.ensures in
    let entry : entry_at c.in-Some.key c.args.self.now.entries ≡ Some (entry_of c.in-Some.key first.0) =
    rw (← c.self.view_is) (reads_some c.self.inside.slab c.self.inside.order.keys c.in-Some.key first.0 c.self.invariant.0 first.1) in
    first_left c.args.self.now.entries c.remove.new.self.entries c.in-Some.key first.0 c.remove.result entry c.remove.ensures.parts
    (rw (← c.self.view_is) first.2) c.remove.ensures.left

pub returns-in-None-clause-none : goal.returns-in-None-clause-none
returns-in-None-clause-none g c =
    (rw (← c.self.view_is) (none_under c.self.inside.slab c.self.inside.order.keys c.in-None.ensures), refl)
