-- The future of one entry is taken out, or put back: the others have theirs as before.
use Rattle.std.proofs.Common.{◌≡◌, ℕ, suc, ◌+◌, ◌<◌, ◌==◌, cond, not, Bool, true, false, List, [], ◌∷◌, length, map, Option, is_some, refl}
use Rattle.std.proofs.Common.{◌≤◌, if◌then◌else◌, sym, ap, subst, ◌∙◌, arith}
use Rattle.executor_parts.specs.Places.{Entry, with_future, where_there, set_future}
use Rattle.solo.specs.declared.names.Task.{Task}
use Rattle.solo.specs.declared.owed.Lent.{Lent}
use Rattle.plain_scheduler.specs.State.{Future}
use Rattle.plain_scheduler.specs.Calls.{living_from}
use Rattle.solo_laws.specs.Road.{is_in, apart}
use Rattle.solo_laws.specs.Tabled.{Row, row, row_of, key_of}
use Rattle.solo_laws.proofs.Following.Cells.{same_number}
use Rattle.solo_laws.proofs.Following.Due.{clash, both_true, not_true, equal, later}
use Rattle.solo_laws.proofs.Following.Leaving.{heads, tails, is_in_map, leaves}

pub map_same_in : {B : Type 0} (f g : ℕ → B) (ns : List ℕ) → ((n : ℕ) → is_in n ns ≡ true → f n ≡ g n) → map f ns ≡ map g ns
map_same_in f g [] same = refl
map_same_in f g (n ∷ ns) same =
    ap (λ x. x ∷ map f ns) (same n (ap (λ b. cond b true (is_in n ns)) (equal n n refl)))
    ∙ ap (λ xs. g n ∷ xs) (map_same_in f g ns (λ m has. same m (later (m == n) (is_in m ns) has)))

-- no more live than came
pub living_long : {T A : Type 0} (fs : List (Future T A)) (n : ℕ) → length (living_from n fs) ≤ length fs
living_long [] n = omega arith
living_long (f ∷ fs) n = by f.is_dropped (living_long fs (suc n))
  where
    by : (b : Bool) → length (living_from (suc n) fs) ≤ length fs
        → length (if b then living_from (suc n) fs else n ∷ living_from (suc n) fs) ≤ suc (length fs)
    by true few = omega (arith, few)
    by false few = omega (arith, few)

pub living_below : {T A : Type 0} (fs : List (Future T A)) (n j : ℕ) → is_in j (living_from n fs) ≡ true → j < n + length fs
living_below [] n j has = absurd cc
living_below (y ∷ ys) n j has = by y.is_dropped has (living_below ys (suc n) j)
  where
    by_one : (b : Bool) → (j == n) ≡ b → cond b true (is_in j (living_from (suc n) ys)) ≡ true
        → (is_in j (living_from (suc n) ys) ≡ true → j < suc n + length ys) → j < n + suc (length ys)
    by_one true same has rest = let one : j ≡ n = same_number j n same in omega (arith, one)
    by_one false same has rest = let below = rest has in omega (arith, below)

    by : (b : Bool) → is_in j (cond b (living_from (suc n) ys) (n ∷ living_from (suc n) ys)) ≡ true
        → (is_in j (living_from (suc n) ys) ≡ true → j < suc n + length ys) → j < n + suc (length ys)
    by true has rest = let below = rest has in omega (arith, below)
    by false has rest = by_one (j == n) refl has rest

module _ {F : Type 0} (its : ℕ → Lent) (held : Bool) (home : ℕ → Bool) (f : ℕ) (o : Option F) where
  -- and the one has its own, or none
  abbrev pub but_one : ℕ → Bool
  but_one j = cond (f == j) (is_some o) (home j)

  -- one that isn't there
  others : (ns : List ℕ) → is_in (key_of its f) (map (key_of its) ns) ≡ false
      → map (row_of its held home) ns ≡ map (row_of its held but_one) ns
  others ns none =
      map_same_in (row_of its held home) (row_of its held but_one) ns
      (λ j has. ap (λ b. ((its j).place, cond_waker j, cond b (is_some o) (home j))) (sym (apart_from j has (f == j) refl)))
    where
      cond_waker : ℕ → Option Task
      cond_waker j = (row_of its held home j).1

      apart_from : (j : ℕ) → is_in j ns ≡ true → (b : Bool) → (f == j) ≡ b → b ≡ false
      apart_from j has false is = refl
      apart_from j has true is =
          absurd (clash none (subst (λ k. is_in k (map (key_of its) ns) ≡ true)
          (ap (key_of its) (sym (same_number f j is))) (is_in_map (key_of its) j ns has)))

  rows_with : (es : List (Entry F (Option Task))) (ns : List ℕ) → map row es ≡ map (row_of its held home) ns
      → apart (map (key_of its) ns) ≡ true → is_in f ns ≡ true
      → map row (with_future (its f).place.key o es) ≡ map (row_of its held but_one) ns
  rows_with es [] rows once has = absurd cc
  rows_with [] (n ∷ ns) rows once has = absurd cc
  rows_with (e ∷ es) (n ∷ ns) rows once has = by (f == n) refl has (rows_with es ns)
    where
      first : row e ≡ row_of its held home n
      first = heads (row e) (row_of its held home n) (map row es) (map (row_of its held home) ns) rows

      rest : map row es ≡ map (row_of its held home) ns
      rest = tails (row e) (row_of its held home n) (map row es) (map (row_of its held home) ns) rows

      two : (not (is_in (key_of its n) (map (key_of its) ns)) ≡ true) × (apart (map (key_of its) ns) ≡ true)
      two = both_true (not (is_in (key_of its n) (map (key_of its) ns))) (apart (map (key_of its) ns)) once

      key_is : e.key ≡ key_of its n
      key_is = ap (λ (r : Row). r.0.key) first

      by : (b : Bool) → (f == n) ≡ b → cond b true (is_in f ns) ≡ true
          → (map row es ≡ map (row_of its held home) ns → apart (map (key_of its) ns) ≡ true → is_in f ns ≡ true
          → map row (with_future (its f).place.key o es) ≡ map (row_of its held but_one) ns)
          → map row (with_future (its f).place.key o (e ∷ es)) ≡ row_of its held but_one n ∷ map (row_of its held but_one) ns
      by true same has next =
          let one : f ≡ n = same_number f n same in
          let here : ((its f).place.key == e.key) ≡ true = equal (its f).place.key e.key (ap (key_of its) one ∙ sym key_is) in
          ap (λ b. map (row {F = F}) (elim b [ true ↦ record e { future = o } ∷ es | false ↦ e ∷ with_future (its f).place.key o es ])) here
          ∙ (ap (λ (r : Row). (r.0, r.1, is_some o) ∷ map (row {F = F}) es) first
          ∙ (ap (λ b. ((its n).place, (row_of its held home n).1, cond b (is_some o) (home n)) ∷ map (row {F = F}) es) (sym same)
          ∙ ap (λ rows. row_of its held but_one n ∷ rows)
          (rest ∙ others ns (ap (λ k. is_in k (map (key_of its) ns)) (ap (key_of its) one)
          ∙ not_true (is_in (key_of its n) (map (key_of its) ns)) two.0))))
      by false same has next =
          let past : ((its f).place.key == e.key) ≡ false = not_here ((its f).place.key == e.key) refl in
          ap (λ b. map (row {F = F}) (elim b [ true ↦ record e { future = o } ∷ es | false ↦ e ∷ with_future (its f).place.key o es ])) past
          ∙ (ap (λ r. r ∷ map (row {F = F}) (with_future (its f).place.key o es)) first
          ∙ (ap (λ b. ((its n).place, (row_of its held home n).1, cond b (is_some o) (home n))
          ∷ map (row {F = F}) (with_future (its f).place.key o es)) (sym same)
          ∙ ap (λ rows. row_of its held but_one n ∷ rows) (next rest two.1 has)))
        where
          not_here : (b : Bool) → ((its f).place.key == e.key) ≡ b → b ≡ false
          not_here false is = refl
          not_here true is =
              let k : key_of its f ≡ key_of its n = same_number (its f).place.key e.key is ∙ key_is in
              absurd (clash (not_true (is_in (key_of its n) (map (key_of its) ns)) two.0)
              (subst (λ k. is_in k (map (key_of its) ns) ≡ true) k (is_in_map (key_of its) f ns has)))

  pub rows_set : (es : List (Entry F (Option Task))) (ns : List ℕ) → map row es ≡ map (row_of its held home) ns
      → apart (map (key_of its) ns) ≡ true → is_in f ns ≡ true
      → map row (set_future (its f).place o es) ≡ map (row_of its held but_one) ns
  rows_set es ns rows once has =
      ap (λ found. map (row {F = F}) (where_there found (with_future (its f).place.key o es) es))
      (leaves its held home f es ns rows once has).1
      ∙ rows_with es ns rows once has
