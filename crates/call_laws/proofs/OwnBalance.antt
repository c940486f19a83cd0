-- For own_futures_are_dropped_once.
-- How often a run's own future has been dropped, or is being dropped: once where the run has ended, was dropped or is about to
-- leave the list of queues, and else never. What keeps that so.
use Rattle.std.proofs.Common.{◌≡◌, ◌∙◌, ◌⊎◌, inl, inr, ⊎_elim, ℕ, zero, suc, ◌+◌, ◌<◌, ◌≤◌, List, [], ◌∷◌, ◌++◌, length, set, get_or}
use Rattle.std.proofs.Common.{Bool, true, false, refl, sym, ap, arith}
use Rattle.std.specs.Prelude.{reverse}
use Rattle.executor_model.specs.Rows.{running_of}
use Rattle.executor_model.specs.Steps.{Machine}
use Rattle.executor_model.specs.Steps.{stack}
use Rattle.executor_model.specs.Weights.{same, weigh, weigh_all}
use Rattle.executor_model.specs.World.{Done, Run, World, new_run, no_run}
use Rattle.executor_model.specs.World.{run_of}
use Rattle.executor_model.proofs.OwnQueues.UsingSteps.{AllUsed}
use Rattle.executor_model.proofs.OwnQueues.UsingWorlds.{is_past}
use Rattle.executor_model.proofs.Steps.Lift.{split, unsettled}
use Rattle.executor_model.proofs.Steps.Lists.{weigh_all-below, weigh_all-push}
use Rattle.executor_laws.proofs.Placement.Leavings.{leaving-uses, leaving_of}
use Rattle.call_laws.proofs.Types.{ListOp, Op}
use Rattle.call_laws.proofs.Types.{Section}
use Rattle.call_laws.specs.OwnDrops.{dropping_own}

-- the run is about to leave the list of queues
abbrev pub unlisting_of : ℕ → Op → ℕ
unlisting_of r (Op.List (ListOp.LockWrite (Section.Unregister q a))) = same r q
unlisting_of r (Op.List (ListOp.Write (Section.Unregister q a))) = same r q
unlisting_of r _ = 0

pub unlisting-leaves : (r : ℕ) (o : Op) → unlisting_of r o ≤ leaving_of r o
unlisting-leaves r (Op.List (ListOp.LockWrite (Section.Unregister q a))) = omega arith
unlisting-leaves r (Op.List (ListOp.Write (Section.Unregister q a))) = omega arith
unlisting-leaves r _ = omega arith

pub unlisting-uses : (r : ℕ) (ss : List (List Op)) → weigh_all (unlisting_of r) ss ≤ weigh_all (running_of r) ss
unlisting-uses r ss = omega (
  arith,
  weigh_all-below (unlisting_of r) (leaving_of r) (unlisting-leaves r) ss,
  weigh_all-below (leaving_of r) (running_of r) (leaving-uses r) ss,
)

abbrev pub unlisting : ℕ → Machine → ℕ
unlisting r s = weigh_all (unlisting_of r) s.parties

abbrev pub dropping : ℕ → Machine → ℕ
dropping r s = weigh_all (dropping_own r) s.parties

-- where so many drops of it have ended
pub record Balanced (k r : ℕ) (s : Machine) : Type 0 where
  pub full : r < length s.world.runs → (is_past (run_of s.world r) ≡ true) ⊎ (1 ≤ unlisting r s) → k + dropping r s ≡ 1
  pub none : is_past (run_of s.world r) ≡ false → unlisting r s ≡ 0 → k + dropping r s ≡ 0
  pub unborn : length s.world.runs ≤ r → k + dropping r s ≡ 0

-- how it goes on, where n more end

pub data Turn (r n : ℕ) (s : Machine) (v : World) (old next : List Op) : Type 0 where
  even : weigh (dropping_own r) next + n ≡ weigh (dropping_own r) old → weigh (unlisting_of r) next ≡ weigh (unlisting_of r) old →
      is_past (run_of v r) ≡ is_past (run_of s.world r) → length v.runs ≡ length s.world.runs → Turn r n s v old next
  makes : weigh (dropping_own r) next + n ≡ weigh (dropping_own r) old → weigh (unlisting_of r) next ≡ 0 →
      weigh (unlisting_of r) old ≡ 0 → v.runs ≡ s.world.runs ++ new_run ∷ [] → Turn r n s v old next
  leaves-list : weigh (dropping_own r) next + n ≡ weigh (dropping_own r) old → 1 ≤ weigh (unlisting_of r) old →
      is_past (run_of v r) ≡ true → length v.runs ≡ length s.world.runs → Turn r n s v old next
  begins : weigh (dropping_own r) next + n ≡ weigh (dropping_own r) old + 1 → is_past (run_of s.world r) ≡ false →
      unlisting r s ≡ 0 → r < length s.world.runs → (is_past (run_of v r) ≡ true) ⊎ (1 ≤ weigh (unlisting_of r) next) →
      length v.runs ≡ length s.world.runs → Turn r n s v old next

pub not-both : (b : Bool) → b ≡ true → b ≡ false → ⊥
not-both true e f = absurd (cc)
not-both false e f = absurd (cc)

pushed-old : (rs : List Run) (r : ℕ) → r < length rs → get_or (rs ++ new_run ∷ []) r no_run ≡ get_or rs r no_run
pushed-old [] r i = absurd (omega (arith, i))
pushed-old (x ∷ rs) zero i = refl
pushed-old (x ∷ rs) (suc r) i = pushed-old rs r (omega (arith, i))

pushed-new : (rs : List Run) (r : ℕ) → r ≡ length rs → is_past (get_or (rs ++ new_run ∷ []) r no_run) ≡ false
pushed-new [] zero i = refl
pushed-new [] (suc r) i = absurd (omega (arith, i))
pushed-new (x ∷ rs) zero i = absurd (omega (arith, i))
pushed-new (x ∷ rs) (suc r) i = pushed-new rs r (omega (arith, i))

pushed-length : (rs : List Run) → length (rs ++ new_run ∷ []) ≡ length rs + 1
pushed-length [] = omega arith
pushed-length (x ∷ rs) = omega (arith, pushed-length rs)

pub le-or : (m n : ℕ) → (m < n) ⊎ (n ≤ m)
le-or m zero = inr (omega arith)
le-or zero (suc n) = inl (omega arith)
le-or (suc m) (suc n) = ⊎_elim (λ (x : m < n). inl (omega (arith, x))) (λ (x : n ≤ m). inr (omega (arith, x))) (le-or m n)

module _ (k n r : ℕ) (s : Machine) (p : ℕ) (old rest : List Op) (d : Done) (used : AllUsed s) (l : p < length s.parties)
    (e : stack s p ≡ rest ++ reverse old) (h : Balanced k r s) where
  abbrev now : Machine
  now = unsettled s p rest d

  own-was : dropping r s ≡ weigh (dropping_own r) old + weigh_all (dropping_own r) (set s.parties p rest)
  own-was = split (dropping_own r) s.parties p old rest l e

  own-is : dropping r now ≡ weigh (dropping_own r) d.next + weigh_all (dropping_own r) (set s.parties p rest)
  own-is = weigh_all-push (dropping_own r) s.parties p rest d.next l

  un-was : unlisting r s ≡ weigh (unlisting_of r) old + weigh_all (unlisting_of r) (set s.parties p rest)
  un-was = split (unlisting_of r) s.parties p old rest l e

  un-is : unlisting r now ≡ weigh (unlisting_of r) d.next + weigh_all (unlisting_of r) (set s.parties p rest)
  un-is = weigh_all-push (unlisting_of r) s.parties p rest d.next l

  -- nothing is to be done with a run that isn't there
  none-unborn : length s.world.runs ≤ r → unlisting r s ≡ 0
  none-unborn i = omega (arith, (used r).unborn i, unlisting-uses r s.parties)

  module _ (v : d.world.runs ≡ s.world.runs ++ new_run ∷ []) (a : weigh (dropping_own r) d.next + n ≡ weigh (dropping_own r) old)
      (b : weigh (unlisting_of r) d.next ≡ 0) (c : weigh (unlisting_of r) old ≡ 0) where
    past-old : r < length s.world.runs → is_past (run_of d.world r) ≡ is_past (run_of s.world r)
    past-old i = ap (λ (rs : List Run). is_past (get_or rs r no_run)) v ∙ ap is_past (pushed-old s.world.runs r i)

    past-new : r ≡ length s.world.runs → is_past (run_of d.world r) ≡ false
    past-new i = ap (λ (rs : List Run). is_past (get_or rs r no_run)) v ∙ pushed-new s.world.runs r i

    one-more : length d.world.runs ≡ length s.world.runs + 1
    one-more = ap (λ (rs : List Run). length rs) v ∙ pushed-length s.world.runs

    made-full : r < length d.world.runs → (is_past (run_of d.world r) ≡ true) ⊎ (1 ≤ unlisting r now) → k + n + dropping r now ≡ 1
    made-full i x = ⊎_elim
        (λ (j : r < length s.world.runs). omega (
          arith,
          a,
          own-was,
          own-is,
          h.full j (⊎_elim
              (λ (y : is_past (run_of d.world r) ≡ true). inl (sym (past-old j) ∙ y))
              (λ (y : 1 ≤ unlisting r now). inr (omega (arith, y, b, c, un-was, un-is))) x),
        ))
        (λ (j : length s.world.runs ≤ r). ⊎_elim
        (λ (y : is_past (run_of d.world r) ≡ true).
        absurd (not-both (is_past (run_of d.world r)) y (past-new (omega (arith, i, j, one-more)))))
        (λ (y : 1 ≤ unlisting r now). absurd (omega (arith, y, b, c, un-was, un-is, none-unborn j))) x)
        (le-or r (length s.world.runs))

    made-none : is_past (run_of d.world r) ≡ false → unlisting r now ≡ 0 → k + n + dropping r now ≡ 0
    made-none x y = ⊎_elim
        (λ (j : r < length s.world.runs). omega (
          arith,
          a,
          own-was,
          own-is,
          h.none (sym (past-old j) ∙ x)
              (omega (arith, y, b, c, un-was, un-is)),
        ))
        (λ (j : length s.world.runs ≤ r). omega (arith, a, own-was, own-is, h.unborn j))
        (le-or r (length s.world.runs))

  pub balance : Turn r n s d.world old d.next → Balanced (k + n) r now
  balance (even a b c i) = record {
    full = λ j x. omega (
      arith,
      a,
      own-was,
      own-is,
      h.full (omega (arith, j, i)) (⊎_elim
          (λ (y : is_past (run_of d.world r) ≡ true). inl (sym c ∙ y))
          (λ (y : 1 ≤ unlisting r now). inr (omega (arith, y, b, un-was, un-is))) x),
    );
    none = λ x y. omega (arith, a, own-was, own-is, h.none (sym c ∙ x) (omega (arith, y, b, un-was, un-is)));
    unborn = λ j. omega (arith, a, own-was, own-is, h.unborn (omega (arith, j, i)));
  }
  balance (makes a b c v) = record {
    full = made-full v a b c;
    none = made-none v a b c;
    unborn = λ j. omega (arith, a, own-was, own-is, h.unborn (omega (arith, j, one-more v a b c)));
  }
  balance (leaves-list a b c i) = record {
    full = λ j x. omega (arith, a, own-was, own-is, h.full (omega (arith, j, i)) (inr (omega (arith, b, un-was))));
    none = λ x y. absurd (not-both (is_past (run_of d.world r)) c x);
    unborn = λ j. omega (arith, a, own-was, own-is, h.unborn (omega (arith, j, i)));
  }
  balance (begins a b c i x j) = record {
    full = λ y z. omega (arith, a, own-was, own-is, h.none b c);
    none = λ y z. ⊎_elim
        (λ (q : is_past (run_of d.world r) ≡ true). absurd (not-both (is_past (run_of d.world r)) q y))
        (λ (q : 1 ≤ weigh (unlisting_of r) d.next). absurd (omega (arith, q, z, un-is))) x;
    unborn = λ y. absurd (omega (arith, y, i, j));
  }
