-- For the_table_is_kept.
-- Which things that are done lead to user code of a future, or to its way back: no others do.
pub use Rattle.executor_model.proofs.Table.LeakCounts.{leads_near}
use Rattle.std.proofs.Common.{◌≡◌, ℕ, false, refl, arith, ◌||◌, ⊎_elim, subst, sym}
use Rattle.std.specs.Prelude.{Option}
use Rattle.executor_model.proofs.Types.{Call, ClosingOp, Op, Waker, Hint}
use Rattle.executor_model.specs.{Steps.begun, World.World, Doing.act, Weights.weigh}
use Rattle.executor_model.proofs.Table.LeakCounts.{leads_of, leads-act, leads-begun, leads-leak_next, leads-leak_out}

-- user code of a future, the beginning of its drop, and its way back
abbrev pub near_of : Op → ℕ
near_of = leads_of 1 0 0

pub near-act : (p : ℕ) (h : Hint) (o : Op) (w : World) → leads_near o ≡ false → weigh near_of (act p h o w).next ≡ 0
near-act p h (Op.Closing ClosingOp.LeakOut) w n = omega (arith, leads-leak_out 1 0 0 (w.is_static || w.gone) w)
near-act p h (Op.Closing ClosingOp.LeakNext) w n = omega (arith, leads-leak_next 1 0 0 w.gone p w w.waking)
near-act p h o w n = leads-act 1 0 0 p h o w refl (λ z. absurd (cc))

pub near-begun : (p : ℕ) (w : World) (here : Option Waker) (c : Call) → weigh near_of (begun p w here c).next ≡ 0
near-begun p w here c = ⊎_elim
    (λ (z : weigh near_of (begun p w here c).next ≡ 0). z)
    (λ (e : c ≡ Call.Leak). subst (λ (x : Call). weigh near_of (begun p w here x).next ≡ 0) (sym e) refl)
    (leads-begun 1 0 0 p w here c)
