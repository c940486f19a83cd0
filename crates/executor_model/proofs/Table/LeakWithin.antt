-- For leaks_wake_each_future.
-- What is to be done of a leak belongs to a leak that is in progress.
use Rattle.std.proofs.Common.{◌≡◌, ⊎_elim, ℕ, suc, ◌<◌, ◌≤◌, List, [], ◌∷◌, ◌++◌, length, false, get_or, refl, sym, ap, ◌∙◌}
use Rattle.std.{proofs.Common.subst, proofs.Common.arith, specs.Prelude.reverse, specs.Prelude.Option}
use Rattle.executor_model.proofs.Types.{Call, Reply, Kind, ClosingOp, Hold, Op, Waker, Hint, Event}
use Rattle.executor_model.specs.Steps.{Machine, begun, mine, stack, start, top}
use Rattle.executor_model.specs.{Calls.Begun, Calls.calls, Doing.act, Rows.leaking_of, Trace.Trace, Weights.weigh}
use Rattle.executor_model.specs.{Weights.weigh_all, World.World, World.Done, World.done, World.log}
use Rattle.executor_model.proofs.Promises.FrameWays.{frames-end, frames-start, frames-way}
use Rattle.executor_model.proofs.Table.LeakCounts.{goes-act, goes-begun, goes-leak_next, goes-leak_out, goes-react, goes_of}
use Rattle.executor_model.proofs.{Promises.CallFrames.Frames, Promises.CallFrames.Tied, Promises.Dropping.Anyhow}
use Rattle.executor_model.proofs.{Quiet.Calls.is_end, Steps.Lift.unsettled, Steps.Lists.weigh-append, Steps.Lists.weigh-reverse}
use Rattle.executor_model.proofs.{Steps.Ways.Way, Steps.Ways.Way.acted, Steps.Ways.Way.called, Steps.Ways.Way.reacted}

-- the wakers are to be taken out of the table, or the next is to be woken
abbrev pub going_of : Op → ℕ
going_of o = goes_of 1 1 o

less-act : (p : ℕ) (h : Hint) (o : Op) (w : World) → is_end o ≡ false → weigh going_of (act p h o w).next ≤ going_of o
less-act p h (Op.Closing ClosingOp.LeakOut) w n = goes-leak_out 1 1 _ w
less-act p h (Op.Closing ClosingOp.LeakNext) w n = goes-leak_next 1 1 _ p w w.waking
less-act p h o w n = omega (arith, goes-act 1 1 p h o w refl)

less-way : (s : Machine) (p : ℕ) (old rest : List Op) (d : Done) → Way s p old rest d → (o : Op) → old ≡ o ∷ [] →
    is_end o ≡ false → weigh going_of d.next ≤ going_of o
less-way s p old rest d (acted h x q z) o e n =
    let i : x ≡ o = (let y : x ∷ [] ≡ o ∷ [] = sym q ∙ e in cc) in
    subst (λ (c : Done). weigh going_of c.next ≤ going_of o) (sym z)
    (subst (λ (y : Op). weigh going_of (act p h y s.world).next ≤ going_of o) (sym i) (less-act p h o s.world n))
less-way s p old rest d (reacted x u a q z) o e n =
    subst (λ (c : Done). weigh going_of c.next ≤ going_of o) (sym z) (omega (arith, goes-react 1 1 p x u s.world))
less-way s p old rest d (called c q r m z) o e n = absurd (let y : o ∷ [] ≡ [] = sym e ∙ q in cc)

unheld : (o : Op) → is_end o ≡ false → leaking_of o ≡ 0
unheld (Op.End a held) n = absurd (cc)
unheld _ n = refl

within-begun : (p : ℕ) (w : World) (here : Option Waker) (c : Call) →
    weigh going_of (begun p w here c).next ≤ weigh leaking_of (begun p w here c).next
within-begun p w here c = ⊎_elim
    (λ (x : weigh going_of (begun p w here c).next ≡ 0). omega (arith, x))
    (λ (x : c ≡ Call.Leak). subst (λ (k : Call). weigh going_of (begun p w here k).next
    ≤ weigh leaking_of (begun p w here k).next) (sym x) (omega arith)) (goes-begun 1 1 p w here c)

-- of each call

abbrev pub Within : Trace → Begun → List Op → Type 0
Within es b os = weigh going_of os ≤ weigh leaking_of os

pub within-later : (es more : Trace) (b : Begun) (os : List Op) → Within es b os → Within (es ++ more) b os
within-later es more b os h = h

abbrev pub Withins : Machine → Type 0
Withins s = Frames Within within-later Anyhow s

anyhow : (es : Trace) (b : Begun) (a : Reply) (held : Hold) → Within es b (Op.End a held ∷ []) →
    Anyhow (record { call = b.call; own = b.own; reply = a; past = es })
anyhow es b a held h = tt

pub withins-start : (limit : ℕ) (kind : Kind) (n : ℕ) → Withins (start limit kind n)
withins-start limit kind n = frames-start Within within-later Anyhow anyhow limit kind n

pub withins-end : (s : Machine) (p : ℕ) (a : Reply) (held : Hold) (below : List Op) → p < length s.parties →
    stack s p ≡ below ++ reverse (Op.End a held ∷ []) → Withins s →
    Withins (unsettled s p below (done (log s.world (Event.CallEnded p a)) []))
withins-end s p a held below l e f = frames-end Within within-later Anyhow anyhow s p a held below l e f

pub withins-moves : (s : Machine) (p : ℕ) (old rest : List Op) (d : Done) → p < length s.parties →
    stack s p ≡ rest ++ reverse old → Way s p old rest d → Withins s → Withins (unsettled s p rest d)
withins-moves s p old rest d l e way k =
    frames-way Within within-later Anyhow anyhow s p old rest d l e k
    (λ o q n more t b below h. omega (
      arith,
      h,
      less-way s p old rest d way o q n,
      unheld o n,
      weigh-append going_of d.next below,
      weigh-append leaking_of d.next below,
    ))
    (λ c q a more z t. subst (λ (x : Done). weigh going_of x.next ≤ weigh leaking_of x.next) (sym z)
    (within-begun p (log s.world (Event.CallBegun p c)) (mine (top (stack s p))) c)) way

-- of all

tied-less : (es : Trace) (bs : List Begun) (os : List Op) → Tied Within within-later Anyhow es bs os →
    weigh going_of os ≤ weigh leaking_of os
tied-less es [] os h = omega (arith, ap (weigh going_of) h)
tied-less es (b ∷ bs) os h = omega (
  arith,
  ap (weigh going_of) h.3.is,
  ap (weigh leaking_of) h.3.is,
  h.3.owes,
  tied-less es bs h.2 h.4,
  weigh-append going_of h.0 (h.1 ∷ h.2),
  weigh-append going_of h.0 (h.1 ∷ []),
  weigh-append leaking_of h.0 (h.1 ∷ h.2),
  weigh-append leaking_of h.0 (h.1 ∷ []),
)

all-less : (ss : List (List Op)) → ((q : ℕ) → weigh going_of (get_or ss q []) ≤ weigh leaking_of (get_or ss q [])) →
    weigh_all going_of ss ≤ weigh_all leaking_of ss
all-less [] k = omega arith
all-less (x ∷ ss) k = omega (arith, k 0, all-less ss (λ q. k (suc q)))

pub going-less : (s : Machine) → Withins s → weigh_all going_of s.parties ≤ weigh_all leaking_of s.parties
going-less s f = all-less s.parties (λ q. omega (
  arith,
  tied-less s.world.trace (calls q s.world.trace).begun (reverse (stack s q)) (f.tied q),
  weigh-reverse going_of (stack s q),
  weigh-reverse leaking_of (stack s q),
))
