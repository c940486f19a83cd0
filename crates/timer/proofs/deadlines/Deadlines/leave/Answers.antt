use Rattle.std.proofs.Common.{subst, sym, refl, ◌≡◌, nat_lt}
use Rattle.slab.specs.Slab.{get}
use Rattle.timer.specs.Order.{never, time_of}
use Rattle.timer.specs.Places.{is_asleep}
use Rattle.timer.proofs.Agreeing.{agreed_gone}
use Rattle.timer.proofs.Times.{stays}
use Rattle.timer.proofs.deadlines.Deadlines.leave.Goals as goal

pub invariant_of-self-clause-agreed : goal.invariant_of-self-clause-agreed
invariant_of-self-clause-agreed g c =
    let h = agreed_gone _ _ _ c.args.entry.place _ c.try_remove.ensures.updates refl c.args.self.now.agreed in
    λ place. subst (λ ts. is_asleep (get c.try_remove.new.self place) ≡ nat_lt (time_of ts place) never) (sym c.forget.ensures.times)
    (h place)

pub returns-in-Some-Asleep-clause-others : goal.returns-in-Some-Asleep-clause-others
returns-in-Some-Asleep-clause-others g c = stays _ _ c.args.entry.place c.forget.ensures.times

pub returns-in-Some-Due-clause-others : goal.returns-in-Some-Due-clause-others
returns-in-Some-Due-clause-others g c = stays _ _ c.args.entry.place c.forget.ensures.times
