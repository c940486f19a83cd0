use Rattle.std.proofs.Common.{subst, sym, ◌≡◌, nat_lt}
use Rattle.slab.specs.Slab.{get}
use Rattle.timer.specs.Order.{never, time_of}
use Rattle.timer.specs.Places.{is_asleep}
use Rattle.timer.proofs.Agreeing.{agreed_gone, due_is_awake}
use Rattle.timer.proofs.deadlines.Deadlines.tell.Goals as goal

pub invariant_of-self-clause-agreed : goal.invariant_of-self-clause-agreed
invariant_of-self-clause-agreed g c =
    let h = agreed_gone _ _ _ c.in-Of.place _ c.mark.ensures.places (due_is_awake _) c.args.self.now.agreed in
    λ place. subst (λ ts. is_asleep (get c.mark.new.places place) ≡ nat_lt (time_of ts place) never) (sym c.in-Of.ensures.times) (h place)
