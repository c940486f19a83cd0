-- Who sleeps is who lies: whose waker came last is told.
use Rattle.std.proofs.Common.{◌≡◌, ℕ, zero, suc, ◌<◌, cond, not, Bool, true, false, List, [], ◌∷◌, length, take, Option, Some, None}
use Rattle.std.proofs.Common.{slice_get, slice_set, is_some, refl, sym, ap, ◌∙◌, arith}
use Rattle.plain_scheduler.specs.State.{Lying}
use Rattle.plain_scheduler.specs.Lists.{any}
use Rattle.plain_scheduler.specs.Moves.{is_called}
use Rattle.solo_laws.specs.Road.{is_told, first_if, wakers_in, waiting}

neither : (a b : Bool) → cond a true b ≡ false → (a ≡ false) × (b ≡ false)
neither true b is = absurd cc
neither false b is = (refl, is)

module _ {A : Type 0} where
  abbrev pub waker_at : Option (Lying A) → Option A
  waker_at None = None
  waker_at (Some l) = l.waker

  its_waker : (l : Lying A) → is_called l ≡ false → (w : A) × (l.waker ≡ Some w)
  its_waker l is = by l.waker refl is
    where
      by : (o : Option A) → l.waker ≡ o → not (is_some o) ≡ false → (w : A) × (l.waker ≡ Some w)
      by (Some w) here is = (w, here)
      by None here is = absurd cc

  filled : (l : Lying A) (ls : List (Lying A)) (w : A) → l.waker ≡ Some w → wakers_in (l ∷ ls) ≡ w ∷ wakers_in ls
  filled l ls w is = ap (λ (o : Option A). first_if o (wakers_in ls)) is

  -- where none is called, as many have wakers as lie
  pub all_waking : (ls : List (Lying A)) → any is_called ls ≡ false → length (wakers_in ls) ≡ length ls
  all_waking [] none = refl
  all_waking (l ∷ ls) none =
      let both = neither (is_called l) (any is_called ls) none in
      let w = its_waker l both.0 in
      ap length (filled l ls w.0 w.1) ∙ ap suc (all_waking ls both.1)

  -- each at its place
  pub waking_at : (ls : List (Lying A)) (i : ℕ) → any is_called ls ≡ false
      → slice_get (wakers_in ls) i ≡ waker_at (slice_get ls i)
  waking_at [] i none = refl
  waking_at (l ∷ ls) zero none =
      let both = neither (is_called l) (any is_called ls) none in
      let w = its_waker l both.0 in
      ap (λ ws. slice_get ws 0) (filled l ls w.0 w.1) ∙ sym w.1
  waking_at (l ∷ ls) (suc i) none =
      let both = neither (is_called l) (any is_called ls) none in
      let w = its_waker l both.0 in
      ap (λ ws. slice_get ws (suc i)) (filled l ls w.0 w.1) ∙ waking_at ls i both.1

  abbrev pub called_one : Lying A → Lying A
  called_one l = record l { waker = None }

  -- the last one is called: the others keep their wakers
  pub last_called : (ls : List (Lying A)) (i : ℕ) (l : Lying A) → any is_called ls ≡ false → suc i ≡ length ls
      → wakers_in (slice_set ls i (called_one l)) ≡ take i (wakers_in ls)
  last_called [] i l none is = absurd (omega (arith, is))
  last_called (m ∷ []) zero l none is = refl
  last_called (m ∷ n ∷ ls) zero l none is = absurd (omega (arith, is))
  last_called (m ∷ ls) (suc i) l none is =
      let both = neither (is_called m) (any is_called ls) none in
      let w = its_waker m both.0 in
      filled m (slice_set ls i (called_one l)) w.0 w.1
      ∙ (ap (λ ws. w.0 ∷ ws) (last_called ls i l both.1 (omega (arith, is)))
      ∙ sym (ap (take (suc i)) (filled m ls w.0 w.1)))

  -- and then one is called
  pub one_called : (ls : List (Lying A)) (i : ℕ) (l : Lying A) → i < length ls → is_told (slice_set ls i (called_one l)) ≡ true
  one_called [] i l below = refl
  one_called (m ∷ ls) zero l below = refl
  one_called (m ∷ ls) (suc i) l below = by (is_called m) (any_called ls i l (omega arith))
    where
      by : (b : Bool) {c : Bool} → c ≡ true → cond b true c ≡ true
      by true is = refl
      by false is = is

      any_called : (ls : List (Lying A)) (i : ℕ) (l : Lying A) → i < length ls → any is_called (slice_set ls i (called_one l))
          ≡ true
      any_called [] i l below = absurd (omega arith)
      any_called (m ∷ ls) zero l below = refl
      any_called (m ∷ ls) (suc i) l below = by (is_called m) (any_called ls i l (omega arith))

  pub its_waker_of : (ls : List (Lying A)) (i : ℕ) (l : Lying A) → any is_called ls ≡ false → slice_get ls i ≡ Some l
      → (w : A) × (l.waker ≡ Some w)
  its_waker_of [] i l none is = absurd cc
  its_waker_of (m ∷ ls) zero l none is =
      let w = its_waker m (neither (is_called m) (any is_called ls) none).0 in
      (w.0, sym (ap waker_at is) ∙ w.1)
  its_waker_of (m ∷ ls) (suc i) l none is = its_waker_of ls i l (neither (is_called m) (any is_called ls) none).1 is

  -- the others wait still
  pub last_waiting : (ls : List (Lying A)) (i : ℕ) (l : Lying A) → any is_called ls ≡ false → suc i ≡ length ls
      → (n : ℕ) × (waiting (slice_set ls i (called_one l)) ≡ take n (waiting ls))
  last_waiting [] i l none is = absurd (omega (arith, is))
  last_waiting (m ∷ []) zero l none is = (0, refl)
  last_waiting (m ∷ n ∷ ls) zero l none is = absurd (omega (arith, is))
  last_waiting (m ∷ ls) (suc i) l none is =
      let both = neither (is_called m) (any is_called ls) none in
      let rest = last_waiting ls i l both.1 (omega (arith, is)) in (
        suc rest.0,
        ap (λ b. cond b (waiting (slice_set ls i (called_one l))) (m.who ∷ waiting (slice_set ls i (called_one l)))) both.0
            ∙ (ap (λ ws. m.who ∷ ws) rest.1
            ∙ sym (ap (λ b. take (suc rest.0) (cond b (waiting ls) (m.who ∷ waiting ls))) both.0)),
      )
