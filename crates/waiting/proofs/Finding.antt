-- Where the entries of those who wait are.
use Rattle.std.proofs.Common.{◌≡◌, ◌≢◌, ℕ, zero, suc, ◌+◌, ◌<◌, ◌≤◌, true, false, eqb, leb, Bool, cond, List, [], ◌∷◌, ◌++◌, drop, Some}
use Rattle.std.proofs.Common.{None, Option, Result, Ok, Err, refl, inl, inr, ⊎_elim, ◌⊎◌}
use Rattle.std.proofs.Common.{sym, ap, ◌∙◌, subst, arith}
use Rattle.std.proofs.lemmas.Bool.{cases_eq, cond_both}
use Rattle.std.proofs.lemmas.Bool.Decides.{nat_tests}
use Rattle.std.specs.BTreeMap.{is_at, insert_entry}
use Rattle.std.specs.List.{remove, slice_get, slice_set}
use Rattle.std.specs.Map.{lookup, remove_entry, set_value}
use Rattle.std.specs.Ordering.{nat_cmp}
use Rattle.waiting.specs.Ascending.{Ascends, before, HasPut, HasTaken}
use Rattle.waiting.specs.Waiters.{position_of, waker_in}

-- a test tells this number from all others
abbrev pub Tells : ℕ → (ℕ → Bool) → Type 0
Tells number test = (other : ℕ) → ((test other ≡ true) × (number ≡ other)) ⊎ ((test other ≡ false) × (number ≢ other))

pub key_tells : (number : ℕ) → Tells number (is_at (nat_cmp number))
key_tells number other = ⊎_elim
    (λ (same : number ≡ other). inl ((grind (arith, nat_tests)), same))
    (λ (differs : number ≢ other). inr ((grind (arith, nat_tests)), differs))
    (cases_eq number other)

is_next : (n : ℕ) → n + 1 ≡ suc n
is_next n = omega arith

module _ {W : Type 0} where
  -- numbers from a higher one on are from a lower one on
  pub lower : (from less next : ℕ) (es : List (ℕ × W)) → less ≤ from → Ascends from next es → Ascends less next es
  lower from less next [] below ascends = omega (arith, below, ascends)
  lower from less next (e ∷ es) below ascends = (omega (arith, below, ascends.0), ascends.1)

  -- a number below all is missing
  pub below_all : (number from next : ℕ) (es : List (ℕ × W)) → number < from → Ascends from next es → position_of number es ≡ None
  below_all number from next [] below ascends = refl
  below_all number from next (e ∷ es) below ascends =
      let t : eqb number e.0 ≡ false = grind (arith, nat_tests, ascends.0) in
      let none : position_of number es ≡ None = below_all number (e.0 + 1) next es (omega (arith, below, ascends.0)) ascends.1 in
      rw (t, none, position_of) refl

  -- the first has its number
  pub first_here : (number next : ℕ) (e : ℕ × W) (es : List (ℕ × W)) → e.0 ≡ number → Ascends (e.0 + 1) next es
      → position_of number (e ∷ es) ≡ Some 0
  first_here number next e es same ascends =
      let t : eqb number e.0 ≡ true = grind (arith, nat_tests) in
      let none : position_of number es ≡ None = below_all number (e.0 + 1) next es (omega (arith, same)) ascends in
      rw (t, none, position_of) refl

  -- the first has another number
  pub further : (number at : ℕ) (e : ℕ × W) (es : List (ℕ × W)) → position_of number es ≡ Some at
      → position_of number (e ∷ es) ≡ Some (suc at)
  further number at e es there = rw (there, position_of) (ap Some (is_next at))

  pub nowhere : (number : ℕ) (e : ℕ × W) (es : List (ℕ × W)) → e.0 ≢ number → position_of number es ≡ None
      → position_of number (e ∷ es) ≡ None
  nowhere number e es differs none = let t : eqb number e.0 ≡ false = grind (arith, nat_tests) in rw (t, none, position_of) refl

  pub reaches : (from next : ℕ) (es : List (ℕ × W)) → Ascends from next es → from ≤ next
  reaches from next [] ascends = ascends
  reaches from next (e ∷ es) ascends = let rest : e.0 + 1 ≤ next = reaches (e.0 + 1) next es ascends.1 in omega (arith, rest, ascends.0)

  -- the next number is appended
  pub appended : (from next : ℕ) (w : W) (es : List (ℕ × W)) → Ascends from next es → insert_entry nat_cmp es next w ≡ es ++ (next, w) ∷ []
  appended from next w [] ascends = refl
  appended from next w (e ∷ es) ascends =
      let under : e.0 + 1 ≤ next = reaches (e.0 + 1) next es ascends.1 in
      let not_less : leb (suc next) e.0 ≡ false = grind (arith, nat_tests) in
      let not_same : eqb next e.0 ≡ false = grind (arith, nat_tests) in
      rw (not_less, not_same) (ap (λ (rest : List (ℕ × W)). e ∷ rest) (appended (e.0 + 1) next w es ascends.1))

  pub appended_ascends : (from next : ℕ) (w : W) (es : List (ℕ × W)) → Ascends from next es → Ascends from (next + 1) (es ++ (next, w) ∷ [])
  appended_ascends from next w [] ascends = (ascends, omega arith)
  appended_ascends from next w (e ∷ es) ascends = (ascends.0, appended_ascends (e.0 + 1) next w es ascends.1)

  -- a new value stands under the same number
  pub put_ascends : (test : ℕ → Bool) (from next : ℕ) (w : W) (es : List (ℕ × W)) → Ascends from next es
      → Ascends from next (set_value test es w)
  put_ascends test from next w [] ascends = ascends
  put_ascends test from next w (e ∷ es) ascends =
      cond_both (test e.0) ((e.0, w) ∷ es) (e ∷ set_value test es w) (λ (l : List (ℕ × W)). Ascends from next l)
      (λ _. (ascends.0, ascends.1)) (λ _. (ascends.0, put_ascends test (e.0 + 1) next w es ascends.1))

  pub taken_ascends : (test : ℕ → Bool) (from next : ℕ) (es : List (ℕ × W)) → Ascends from next es
      → Ascends from next (remove_entry test es)
  taken_ascends test from next [] ascends = ascends
  taken_ascends test from next (e ∷ es) ascends =
      cond_both (test e.0) es (e ∷ remove_entry test es) (λ (l : List (ℕ × W)). Ascends from next l)
      (λ _. lower (e.0 + 1) from next es (omega (arith, ascends.0)) ascends.1)
      (λ _. (ascends.0, taken_ascends test (e.0 + 1) next es ascends.1))

module _ {K : Type 0} where
  -- what a look-up found has a place
  abbrev pub IsFound : ℕ → (ℕ → Bool) → Option K → List (ℕ × Option K) → Type 0
  IsFound number test old es = (at : ℕ) × (position_of number es ≡ Some at) × (waker_in (slice_get es at) ≡ old)
      × ((waker : Option K) → set_value test es waker ≡ slice_set es at (number, waker)) × (remove_entry test es ≡ remove es at)

  pub found :
      (number : ℕ) (test : ℕ → Bool) → Tells number test → (from next : ℕ) (old : Option K) (es : List (ℕ × Option K))
      → Ascends from next es → lookup test es ≡ Some old → IsFound number test old es
  found number test tells from next old [] ascends there = absurd (cc)
  found number test tells from next old (e ∷ es) ascends there = ⊎_elim
      (λ (yes : (test e.0 ≡ true) × (number ≡ e.0)).
      let here : test e.0 ≡ true = yes.0 in
      let value : Some e.1 ≡ Some old = rw here at there in
      let was : e.1 ≡ old = cc in (
        0,
        first_here number next e es (sym yes.1) ascends.1,
        was,
        (λ (waker : Option K). rw here (ap (λ (n : ℕ). (n, waker) ∷ es) (sym yes.1))),
        rw here refl,
      ))
      (λ (no : (test e.0 ≡ false) × (number ≢ e.0)).
      let past : test e.0 ≡ false = no.0 in
      let inner : lookup test es ≡ Some old = rw past at there in
      let rest : IsFound number test old es = found number test tells (e.0 + 1) next old es ascends.1 inner in (
        suc rest.0,
        further number rest.0 e es rest.1,
        rest.2,
        (λ (waker : Option K). rw past (ap (λ (l : List (ℕ × Option K)). e ∷ l) (rest.3 waker))),
        rw past (ap (λ (l : List (ℕ × Option K)). e ∷ l) rest.4),
      ))
      (tells e.0)

  pub missing :
      (number : ℕ) (test : ℕ → Bool) → Tells number test → (es : List (ℕ × Option K)) → lookup test es ≡ None → position_of number es ≡ None
  missing number test tells [] none = refl
  missing number test tells (e ∷ es) none = ⊎_elim
      (λ (yes : (test e.0 ≡ true) × (number ≡ e.0)).
      let here : test e.0 ≡ true = yes.0 in
      let value : Some e.1 ≡ None = rw here at none in absurd (cc))
      (λ (no : (test e.0 ≡ false) × (number ≢ e.0)).
      let past : test e.0 ≡ false = no.0 in
      let inner : lookup test es ≡ None = rw past at none in
      nowhere number e es (λ (same : e.0 ≡ number). no.1 (sym same)) (missing number test tells es inner))
      (tells e.0)

  pub rest_ascends : (next : ℕ) (first : Option (ℕ × Option K)) (es : List (ℕ × Option K)) → Ascends 0 next (before first es)
      → Ascends 0 next es
  rest_ascends next None es ascends = ascends
  rest_ascends next (Some e) es ascends = lower (e.0 + 1) 0 next es (omega arith) ascends.1

  pub dropped_ascends : (next : ℕ) (es : List (ℕ × Option K)) → Ascends 0 next es → Ascends 0 next (drop 1 es)
  dropped_ascends next [] ascends = ascends
  dropped_ascends next (e ∷ es) ascends = lower (e.0 + 1) 0 next es (omega arith) ascends.1

  pub put_here :
      (number next : ℕ) (waker : Option K) (e : ℕ × Option K) (es : List (ℕ × Option K))
      → e.0 ≡ number → Ascends 0 next (e ∷ es) → HasPut number waker (e ∷ es) ((e.0, waker) ∷ es) (Ok e.1)
  put_here number next waker e es same ascends = (
    0,
    first_here number next e es same ascends.1,
    refl,
    ap (λ (n : ℕ). (n, waker) ∷ es) same,
    (λ (from next : ℕ) (a : Ascends from next (e ∷ es)). a),
  )

  pub put_past :
      (number : ℕ) (waker : Option K) (e : ℕ × Option K) (es fs : List (ℕ × Option K)) (r : Result (Option K) (Option K))
      → e.0 ≢ number → HasPut number waker es fs r → HasPut number waker (e ∷ es) (e ∷ fs) r
  put_past number waker e es fs (Ok was) differs put = (
    suc put.0,
    further number put.0 e es put.1,
    put.2,
    ap (λ (l : List (ℕ × Option K)). e ∷ l) put.3,
    (λ (from next : ℕ) (a : Ascends from next (e ∷ es)). (a.0, put.4 (e.0 + 1) next a.1)),
  )
  put_past number waker e es fs (Err back) differs put =
      (nowhere number e es differs put.0, ap (λ (l : List (ℕ × Option K)). e ∷ l) put.1, put.2)

  pub put_there :
      (number next : ℕ) (waker old : Option K) (es fs : List (ℕ × Option K))
      → Ascends 0 next es → lookup (is_at (nat_cmp number)) es ≡ Some old → fs ≡ set_value (is_at (nat_cmp number)) es waker
      → HasPut number waker es fs (Ok old)
  put_there number next waker old es fs ascends there new =
      let at : IsFound number (is_at (nat_cmp number)) old es =
      found number (is_at (nat_cmp number)) (key_tells number) 0 next old es ascends there in (
        at.0,
        at.1,
        at.2,
        new ∙ at.3 waker,
        (λ (from next : ℕ) (a : Ascends from next es). subst (λ (l : List (ℕ × Option K)). Ascends from next l) (sym new)
            (put_ascends (is_at (nat_cmp number)) from next waker es a)),
      )

  pub taken_here :
      (number next : ℕ) (e : ℕ × Option K) (es : List (ℕ × Option K))
      → e.0 ≡ number → Ascends 0 next (e ∷ es) → HasTaken number (e ∷ es) es (Some e.1)
  taken_here number next e es same ascends = (
    0,
    first_here number next e es same ascends.1,
    refl,
    refl,
    (λ (from next : ℕ) (a : Ascends from next (e ∷ es)). lower (e.0 + 1) from next es (omega (arith, a.0)) a.1),
  )

  pub taken_past :
      (number : ℕ) (e : ℕ × Option K) (es fs : List (ℕ × Option K)) (r : Option (Option K))
      → e.0 ≢ number → HasTaken number es fs r → HasTaken number (e ∷ es) (e ∷ fs) r
  taken_past number e es fs (Some was) differs taken = (
    suc taken.0,
    further number taken.0 e es taken.1,
    taken.2,
    ap (λ (l : List (ℕ × Option K)). e ∷ l) taken.3,
    (λ (from next : ℕ) (a : Ascends from next (e ∷ es)). (a.0, taken.4 (e.0 + 1) next a.1)),
  )
  taken_past number e es fs None differs taken = (nowhere number e es differs taken.0, ap (λ (l : List (ℕ × Option K)). e ∷ l) taken.1)

  pub taken_there :
      (number next : ℕ) (es fs : List (ℕ × Option K)) (r : Option (Option K))
      → Ascends 0 next es → r ≡ lookup (is_at (nat_cmp number)) es → fs ≡ remove_entry (is_at (nat_cmp number)) es → (r ≡ None → fs ≡ es)
      → HasTaken number es fs r
  taken_there number next es fs (Some old) ascends there new same =
      let at : IsFound number (is_at (nat_cmp number)) old es =
      found number (is_at (nat_cmp number)) (key_tells number) 0 next old es ascends (sym there) in (
        at.0,
        at.1,
        at.2,
        new ∙ at.4,
        (λ (from next : ℕ) (a : Ascends from next es). subst
            (λ (l : List (ℕ × Option K)). Ascends from next l) (sym new) (taken_ascends (is_at (nat_cmp number)) from next es a)),
      )
  taken_there number next es fs None ascends there new same =
      (missing number (is_at (nat_cmp number)) (key_tells number) es (sym there), same refl)
