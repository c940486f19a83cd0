-- Who sleeps is who lies: whose waker came last is told.
use Rattle.std.proofs.Common.{◌≡◌, ℕ, zero, suc, ◌<◌, cond, not, Bool, true, false, List, [], ◌∷◌, length}
use Rattle.std.proofs.Common.{take, Option, Some, None, slice_get, slice_set, is_some, refl, sym, ap, ◌∙◌, arith}
use Rattle.executor_model.specs.declared.op.Waker.{Waker}
use Rattle.plain_scheduler.specs.State.{Lying}
use Rattle.plain_scheduler.specs.Lists.{any, or}
use Rattle.plain_scheduler.specs.Moves.{is_called}
use Rattle.machine_roads.specs.Road.{is_told, uncalled}

neither : (a b : Bool) → cond a true b ≡ false → (a ≡ false) × (b ≡ false)
neither true b is = absurd cc
neither false b is = (refl, is)

later : (a b : Bool) → b ≡ true → cond a true b ≡ true
later true b is = refl
later false b is = is

abbrev pub called_one : Lying Waker → Lying Waker
called_one l = record l { waker = None }

its_waker : (l : Lying Waker) → is_called l ≡ false → (w : Waker) × (l.waker ≡ Some w)
its_waker l is = by l.waker refl is
  where
    by : (o : Option Waker) → l.waker ≡ o → not (is_some o) ≡ false → (w : Waker) × (l.waker ≡ Some w)
    by (Some w) here is = (w, here)
    by None here is = absurd cc

filled : (l : Lying Waker) (ls : List (Lying Waker)) (w : Waker) → l.waker ≡ Some w
    → uncalled (l ∷ ls) ≡ (l.who, w) ∷ uncalled ls
filled l ls w is = ap (λ (o : Option Waker). or o (λ waker. (l.who, waker) ∷ uncalled ls) (uncalled ls)) is

-- where none is called, as many have wakers as lie
pub all_waking : (ls : List (Lying Waker)) → any is_called ls ≡ false → length (uncalled ls) ≡ length ls
all_waking [] none = refl
all_waking (l ∷ ls) none =
    let both = neither (is_called l) (any is_called ls) none in
    let w = its_waker l both.0 in
    ap length (filled l ls w.0 w.1) ∙ ap suc (all_waking ls both.1)

-- the one at a place
pub record At (ls : List (Lying Waker)) (i : ℕ) : Type 0 where
  pub one : Lying Waker
  pub waker : Waker
  pub is : slice_get ls i ≡ Some one
  pub has : one.waker ≡ Some waker
  pub listed : slice_get (uncalled ls) i ≡ Some (one.who, waker)

pub at : (ls : List (Lying Waker)) (i : ℕ) → any is_called ls ≡ false → i < length ls → At ls i
at [] i none below = absurd (omega arith)
at (l ∷ ls) zero none below =
    let w = its_waker l (neither (is_called l) (any is_called ls) none).0 in
    record { one = l; waker = w.0; is = refl; has = w.1; listed = ap (λ ws. slice_get ws 0) (filled l ls w.0 w.1) }
at (l ∷ ls) (suc i) none below =
    let both = neither (is_called l) (any is_called ls) none in
    let w = its_waker l both.0 in
    let a = at ls i both.1 (omega arith) in
    record {
      one = a.one;
      waker = a.waker;
      is = a.is;
      has = a.has;
      listed = ap (λ ws. slice_get ws (suc i)) (filled l ls w.0 w.1) ∙ a.listed;
    }

-- the last one is called: the others keep their wakers
pub last_called : (ls : List (Lying Waker)) (i : ℕ) (l : Lying Waker) → any is_called ls ≡ false → suc i ≡ length ls
    → uncalled (slice_set ls i (called_one l)) ≡ take i (uncalled ls)
last_called [] i l none is = absurd (omega (arith, is))
last_called (m ∷ []) zero l none is = refl
last_called (m ∷ n ∷ ls) zero l none is = absurd (omega (arith, is))
last_called (m ∷ ls) (suc i) l none is =
    let both = neither (is_called m) (any is_called ls) none in
    let w = its_waker m both.0 in
    filled m (slice_set ls i (called_one l)) w.0 w.1
    ∙ (ap (λ ws. (m.who, w.0) ∷ ws) (last_called ls i l both.1 (omega (arith, is)))
    ∙ sym (ap (take (suc i)) (filled m ls w.0 w.1)))

-- and then one is called
any_called : (ls : List (Lying Waker)) (i : ℕ) (l : Lying Waker) → i < length ls
    → any is_called (slice_set ls i (called_one l)) ≡ true
any_called [] i l below = absurd (omega arith)
any_called (m ∷ ls) zero l below = refl
any_called (m ∷ ls) (suc i) l below =
    later (is_called m) (any is_called (slice_set ls i (called_one l))) (any_called ls i l (omega arith))

pub one_called : (ls : List (Lying Waker)) (i : ℕ) (l : Lying Waker) → i < length ls
    → is_told (slice_set ls i (called_one l)) ≡ true
one_called [] i l below = refl
one_called (m ∷ ls) zero l below = refl
one_called (m ∷ ls) (suc i) l below =
    later (is_called m) (any is_called (slice_set ls i (called_one l))) (any_called ls i l (omega arith))

-- who isn't told yet: somebody lies, and none of them is called
pub untold : (ls : List (Lying Waker)) → is_told ls ≡ false → (i : ℕ) × (suc i ≡ length ls) × (any is_called ls ≡ false)
untold [] is = absurd cc
untold (l ∷ ls) is = (length ls, refl, is)
