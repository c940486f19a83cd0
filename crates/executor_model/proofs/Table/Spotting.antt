-- For futures_are_in_their_places.
-- In each execution every accepted future is in its place, or away.
use Rattle.std.proofs.Common.{◌≡◌, ◌⊎◌, ℕ, zero, suc, ◌+◌, ◌<◌, ◌≤◌, List, [], ◌∷◌, ◌++◌, length, get_or, set, Bool, true}
use Rattle.std.proofs.Common.{false, inl, inr, ⊎_elim, refl, subst, sym, ap, ◌∙◌, arith}
use Rattle.std.specs.Prelude.{Option, Some, None, reverse}
use Rattle.executor_model.proofs.Types.{Kind, Call, Reply, Event, Hold, Op, TableOp, UserOp, Waker, Step}
use Rattle.executor_model.specs.Steps.{Machine, begun, future_of, kept, mine, run, stack, start, top, with_future}
use Rattle.executor_model.specs.{Doing.act, Good.Good, InPlace.IsInPlace, InPlace.away_of, Rows.borrowing_of, Rows.drops_of}
use Rattle.executor_model.specs.{Rows.ending_of, Rows.polls_of, Trace.has, Trace.is_accepted, Trace.is_dropped, Weights.same}
use Rattle.executor_model.specs.{Weights.weigh, Weights.weigh_all, World.World, World.Done, World.done, World.log}
use Rattle.executor_model.proofs.Table.Spots.{LeadsNear, Spot, fallen, fallen-push, falls-effect, few-away, is_inside, spot-act}
use Rattle.executor_model.proofs.OneFuture.EffectsWays.Effects.{does, pends, readies, closes}
use Rattle.executor_model.proofs.OneFuture.Telling.{accepted-counts, counted-drop, fallen-counts}
use Rattle.executor_model.proofs.Steps.Lift.{good, good-start, split, unsettled}
use Rattle.executor_model.proofs.Steps.Lists.{same_cases, weigh-below, weigh_all-push}
use Rattle.executor_model.proofs.Steps.Nears.{leads_near, near-begun, near_of}
use Rattle.executor_model.proofs.Steps.Ways.Way.{acted, called, reacted}
use Rattle.executor_model.proofs.Table.LeavingExecutions.{Placed, placed-ends, placed-moves, placed-start}
use Rattle.executor_model.proofs.{OneFuture.EffectsWays.Effects, OneFuture.EffectsWays.effects-way, OneFuture.Stories.story}
use Rattle.executor_model.proofs.{Steps.Placing.places, Steps.Ways.Way, Steps.Ways.along, Table.Entering.counts}
use Rattle.executor_model.proofs.{Table.Entering.one-accepted, Table.Spots.spot-react, Table.Spots.spot-same}

record Spotted (s : Machine) : Type 0 where
  pub placed : Placed s
  pub spots : (g : ℕ) → Spot s.world g (weigh_all (away_of g) s.parties)

-- what is away is polled, ends or is to be dropped

away-three : (g : ℕ) (o : Op) → away_of g o ≤ polls_of g o + (ending_of g o + drops_of g o)
away-three g (Op.User (UserOp.Poll f)) = omega arith
away-three g (Op.User (UserOp.BeginDrop f)) = omega arith
away-three g (Op.Table (TableOp.PutBack f)) = omega arith
away-three g _ = omega arith

weigh-three : (g : ℕ) (os : List Op) →
    weigh (away_of g) os ≤ weigh (polls_of g) os + (weigh (ending_of g) os + weigh (drops_of g) os)
weigh-three g [] = omega arith
weigh-three g (o ∷ os) = omega (arith, away-three g o, weigh-three g os)

all-three : (g : ℕ) (ss : List (List Op)) →
    weigh_all (away_of g) ss ≤ weigh_all (polls_of g) ss + (weigh_all (ending_of g) ss + weigh_all (drops_of g) ss)
all-three g [] = omega arith
all-three g (s ∷ ss) = omega (arith, weigh-three g s, all-three g ss)

-- nothing of a future that isn't there
none-fresh : (n p e d fa st ac : ℕ) → n ≤ p + (e + d) → (1 ≤ p + e → 1 ≤ st) → fa + d ≤ ac → st ≤ ac → ac ≡ 0 →
    (n ≡ 0) × (fa ≡ 0)
none-fresh n p e d fa st ac a b c f z = by (p + e) refl
  where
    by : (k : ℕ) → p + e ≡ k → (n ≡ 0) × (fa ≡ 0)
    by zero q = (omega (arith, a, c, z, q), omega (arith, c, z))
    by (suc k) q = absurd (omega (arith, b (omega (arith, q)), f, z))

-- who is put back is away nowhere else
none-else : (n p e d fa st ac : ℕ) → n ≤ p + (e + d) → p + e ≤ 1 → 1 ≤ e → (1 ≤ d → p + e ≡ 0) → (1 ≤ p + e → 1 ≤ st) →
    st + fa ≡ ac → ac ≤ 1 → (n ≤ 1) × (fa ≡ 0)
none-else n p e d fa st ac a b c f k t o = by d refl
  where
    by : (m : ℕ) → d ≡ m → (n ≤ 1) × (fa ≡ 0)
    by zero q = (omega (arith, a, b, q), omega (arith, k (omega (arith, c)), t, o))
    by (suc m) q = absurd (omega (arith, f (omega (arith, q)), c))

stays-open : (b : Bool) (n : ℕ) → (b ≡ true → n ≡ 0) → 1 ≤ n → b ≡ false
stays-open false n k h = refl
stays-open true n k h = absurd (omega (arith, h, k refl))

module _ (s : Machine) (p : ℕ) (o : Op) (rest : List Op) (fine : Good s) (l : p < length s.parties)
    (e : stack s p ≡ rest ++ reverse (o ∷ [])) (h : Placed s) (g : ℕ) where
  abbrev left : ℕ
  left = weigh_all (away_of g) (set s.parties p rest)

  all-away : weigh_all (away_of g) s.parties ≡ away_of g o + 0 + left
  all-away = split (away_of g) s.parties p (o ∷ []) rest l e

  fresh-none : length s.world.inside ≤ g → (away_of g o + left ≡ 0) × (fallen s.world g ≡ 0)
  fresh-none k =
      let x = none-fresh (weigh_all (away_of g) s.parties) _ _ _ (fallen s.world g) _ _ (all-three g s.parties)
      (λ y. (h.leaves g).runs (omega (arith, y))) (omega (arith, (h.leaves g).once)) (h.leaves g).bound
      ((h.leaves g).fresh (omega (arith, k, fine.fits.inside))) in
      (omega (arith, x.0, all-away), x.1)

  back-none : (f : ℕ) → o ≡ Op.Table (TableOp.PutBack f) → g ≡ f → (left ≡ 0) × (fallen s.world g ≡ 0)
  back-none f q i =
      let one : same g f ≡ 1 = grind (arith, same_cases, i) in
      let ends : 1 ≤ weigh_all (ending_of g) s.parties =
      omega (arith, split (ending_of g) s.parties p (o ∷ []) rest l e, ap (λ (x : Op). weigh (ending_of g) (x ∷ [])) q, one) in
      let uses : 1 ≤ weigh_all borrowing_of s.parties =
      omega (arith, split borrowing_of s.parties p (o ∷ []) rest l e, ap (λ (x : Op). weigh borrowing_of (x ∷ [])) q) in
      let n : s.world.gone ≡ false = stays-open s.world.gone _ (fine.sound g).lent uses in
      let x = none-else (weigh_all (away_of g) s.parties) _ _ _ (fallen s.world g) _ _ (all-three g s.parties)
      (omega (arith, (fine.sound g).one)) ends (λ y. omega (arith, (h.leaves g).apart y))
      (λ y. (h.leaves g).runs (omega (arith, y))) ((h.leaves g).stay n) (one-accepted s g fine h) in
      (omega (arith, x.0, all-away, ap (away_of g) q, one), x.1)

falls-effects : (w : World) (ss : List (List Op)) (o : Op) (d : Done) (g : ℕ) → Effects w ss (o ∷ []) d →
    ((d.world.trace ≡ d.world.trace) × (fallen d.world g ≡ fallen w g)) ⊎ LeadsNear (o ∷ [])
falls-effects w ss o d g (does x) = ⊎_elim (λ y. inl (refl, y)) (λ y. inr y) (falls-effect w (o ∷ []) d g x)
falls-effects w ss o d g (pends p f) = inr (Op.User (UserOp.Poll f), (refl, refl))
falls-effects w ss o d g (readies p f) = inr (Op.User (UserOp.Poll f), (refl, refl))

-- a call begins

falls-begun : (w : World) (ss : List (List Op)) (old : List Op) (d : Done) (g : ℕ) → Effects w ss old d → old ≡ [] →
    fallen d.world g ≡ fallen w g
falls-begun w ss old d g (does x) q = ⊎_elim
    (λ (y : fallen d.world g ≡ fallen w g). y)
    (λ (y : LeadsNear old). let no : y.0 ∷ [] ≡ [] = sym y.1.0 ∙ q in absurd (cc)) (falls-effect w old d g x)
falls-begun w ss old _ g (pends p f) q = absurd (cc)
falls-begun w ss old _ g (readies p f) q = absurd (cc)
falls-begun w ss old _ g (closes p n u) q =
    let v : World = record (log w (Event.CallBegun p Call.DropExecutor)) { gone = true } in
    fallen-push v (log v (Event.DropBegun p)) (Event.DropBegun p) g refl
    ∙ fallen-push w (log w (Event.CallBegun p Call.DropExecutor)) (Event.CallBegun p Call.DropExecutor) g refl

inside-with : (w v : World) (o : Option ℕ) (d : ℕ → Done) → v.inside ≡ w.inside → ((f : ℕ) → (d f).world.inside ≡ w.inside) →
    (with_future v o d).world.inside ≡ w.inside
inside-with w v None d e k = e
inside-with w v (Some f) d e k = k f

inside-begun : (p : ℕ) (w : World) (here : Option Waker) (c : Call) →
    (begun p (log w (Event.CallBegun p c)) here c).world.inside ≡ w.inside
inside-begun p w here (Call.Wake j) = inside-with w _ (kept w j) _ refl (λ f. refl)
inside-begun p w here (Call.WakeByRef j) = inside-with w _ (kept w j) _ refl (λ f. refl)
inside-begun p w here (Call.Copy j) = inside-with w _ (kept w j) _ refl (λ f. refl)
inside-begun p w here (Call.DropWaker j) = inside-with w _ (kept w j) _ refl (λ f. refl)
inside-begun p w here Call.Keep = inside-with w _ (future_of here) _ refl (λ f. refl)
inside-begun p w here Call.WakeSelf = inside-with w _ (future_of here) _ refl (λ f. refl)
inside-begun p w here _ = refl

spotted-moves : (s : Machine) (p : ℕ) (old rest : List Op) (d : Done) → Good s → p < length s.parties →
    stack s p ≡ rest ++ reverse old → Way s p old rest d → Spotted s → Spotted (unsettled s p rest d)
spotted-moves s p old rest d fine l e way k = record {
  placed = placed-moves s p old rest d fine l e way k.placed;
  spots = λ g.
      let r : ℕ = weigh_all (away_of g) (set s.parties p rest) in
      subst (Spot d.world g) (sym (weigh_all-push (away_of g) s.parties p rest d.next l)) (by g way);
}
  where
    by : (g : ℕ) → Way s p old rest d →
        Spot d.world g (weigh (away_of g) d.next + weigh_all (away_of g) (set s.parties p rest))
    by g (acted t o q z) =
        let r : ℕ = weigh_all (away_of g) (set s.parties p rest) in
        let here : stack s p ≡ rest ++ reverse (o ∷ []) = subst (λ (os : List Op). stack s p ≡ rest ++ reverse os) q e in
        let x : Effects s.world s.parties (o ∷ []) (act p t o s.world) =
        effects-way s p (o ∷ []) rest (act p t o s.world) fine l here (acted t o refl refl) in
        subst (λ (y : Done). Spot y.world g (weigh (away_of g) y.next + r)) (sym z)
        (spot-act (leads_near o) (places o) p t o s.world g r refl refl
        (⊎_elim (λ y. inl y.1) (λ y. inr y) (falls-effects s.world s.parties o (act p t o s.world) g x))
        (record {
          fresh = fresh-none s p o rest fine l here k.placed g;
          back = back-none s p o rest fine l here k.placed g;
        })
        (subst (Spot s.world g) (let i : weigh_all (away_of g) s.parties ≡ away_of g o + r =
        omega (arith, split (away_of g) s.parties p (o ∷ []) rest l here) in i) (k.spots g)))
    by g (reacted o u a q z) =
        let r : ℕ = weigh_all (away_of g) (set s.parties p rest) in
        let here : stack s p ≡ rest ++ reverse (o ∷ []) = subst (λ (os : List Op). stack s p ≡ rest ++ reverse os) q e in
        subst (λ (y : Done). Spot y.world g (weigh (away_of g) y.next + r)) (sym z)
        (spot-react p o u s.world g r a
        (subst (Spot s.world g) (let i : weigh_all (away_of g) s.parties ≡ away_of g o + r =
        omega (arith, split (away_of g) s.parties p (o ∷ []) rest l here) in i) (k.spots g)))
    by g (called c q r i z) =
        let n : weigh (away_of g) d.next ≡ 0 = ap (λ (y : Done). weigh (away_of g) y.next) z
        ∙ (let j : weigh (away_of g) (begun p (log s.world (Event.CallBegun p c)) (mine (top (stack s p))) c).next ≡ 0 =
        omega (
          arith,
          weigh-below (away_of g) near_of (few-away g)
              (begun p (log s.world (Event.CallBegun p c)) (mine (top (stack s p))) c).next,
          near-begun p (log s.world (Event.CallBegun p c)) (mine (top (stack s p))) c,
        ) in j) in
        let b : d.world.inside ≡ s.world.inside = ap (λ (y : Done). y.world.inside) z
        ∙ inside-begun p s.world (mine (top (stack s p))) c in
        spot-same s.world d.world g (weigh_all (away_of g) s.parties) _ (ap length b)
        (ap (λ (xs : List Bool). get_or xs g false) b)
        (falls-begun s.world s.parties old d g (effects-way s p old rest d fine l e (called c q r i z)) q)
        (omega (arith, n, split (away_of g) s.parties p old rest l e, ap (weigh (away_of g)) q)) (k.spots g)

spotted-ends : (s : Machine) (p : ℕ) (a : Reply) (held : Hold) (below : List Op) → p < length s.parties →
    stack s p ≡ below ++ reverse (Op.End a held ∷ []) → Spotted s →
    Spotted (unsettled s p below (done (log s.world (Event.CallEnded p a)) []))
spotted-ends s p a held below l e k = record {
  placed = placed-ends s p a held below l e k.placed;
  spots = λ g.
      let v : World = log s.world (Event.CallEnded p a) in
      spot-same s.world v g _ _ refl refl (fallen-push s.world v (Event.CallEnded p a) g refl) (omega (
        arith,
        weigh_all-push (away_of g) s.parties p below [] l,
        split (away_of g) s.parties p (Op.End a held ∷ []) below l e,
      )) (k.spots g);
}

spotted-start : (limit : ℕ) (kind : Kind) (n : ℕ) → Spotted (start limit kind n)
spotted-start limit kind n = record {
  placed = placed-start limit kind n;
  spots = λ g. record {
    there = λ k. absurd (omega (arith, k));
    out = λ x. refl;
  };
}

spotted : (limit : ℕ) (kind : Kind) (n : ℕ) (ts : List Step) → Spotted (run ts (start limit kind n))
spotted limit kind n ts =
    along Spotted spotted-moves spotted-ends ts (start limit kind n) (good-start limit kind n) (spotted-start limit kind n)

-- of a machine

in-place : (s : Machine) (f : ℕ) → Good s → Spotted s → IsInPlace s f
in-place s f fine k = record {
  there = λ a.
      let n : 1 ≤ (story f s.world.trace).accepted =
      counts (is_accepted f) s.world.trace _ (accepted-counts f s.world.trace) a in
      let i : f < length s.world.inside = known f _ _ n (k.placed.leaves f).fresh _ fine.fits.inside in
      ⊎_elim
      (λ (x : 1 ≤ weigh_all (away_of f) s.parties). inl (inl x))
      (λ (x : (1 ≤ fallen s.world f) ⊎ (is_inside s.world f ≡ true)). ⊎_elim
      (λ (y : 1 ≤ fallen s.world f). inl (inr (counted-drop f s.world.trace y)))
      (λ (y : is_inside s.world f ≡ true). inr y) x) ((k.spots f).there i);
  out = λ x. (k.spots f).out (⊎_elim
      (λ (y : 1 ≤ weigh_all (away_of f) s.parties). inl y)
      (λ (y : has (is_dropped f) s.world.trace ≡ true).
      inr (counts (is_dropped f) s.world.trace _ (fallen-counts f s.world.trace) y)) x);
}
  where
    known : (f n m : ℕ) → 1 ≤ n → (m ≤ f → n ≡ 0) → (i : ℕ) → i ≡ m → f < i
    known f n m a b i e = grind arith

pub in-places : (limit : ℕ) (kind : Kind) (parties : ℕ) (steps : List Step) (f : ℕ) → IsInPlace (run steps (start limit kind parties)) f
in-places limit kind parties steps f =
    in-place (run steps (start limit kind parties)) f (good limit kind parties steps) (spotted limit kind parties steps)
