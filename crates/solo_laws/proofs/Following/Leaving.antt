-- The entry of a future that is dropped leaves the table: the first with its place.
use Rattle.std.proofs.Common.{◌≡◌, ℕ, zero, suc, ◌+◌, ◌≤◌, ◌==◌, cond, not, Bool, true, false, List, [], ◌∷◌, length, map, Option, Some}
use Rattle.std.proofs.Common.{None, is_some, slice_get, slice_set, refl, sym, ap, subst, ◌∙◌, arith}
use Rattle.std.proofs.lemmas.Bool.Decides.{nat_tests}
use Rattle.executor_parts.specs.Places.{Entry, entry_at, entry_in, stamped, without_entry, where_there, left_by}
use Rattle.solo.specs.declared.names.Task.{Task}
use Rattle.solo.specs.declared.owed.Lent.{Lent}
use Rattle.solo.specs.Table.{counted_waker}
use Rattle.plain_scheduler.specs.State.{Future}
use Rattle.plain_scheduler.specs.Lists.{without}
use Rattle.plain_scheduler.specs.Calls.{living_from}
use Rattle.solo_laws.specs.Road.{is_in, apart}
use Rattle.solo_laws.specs.Tabled.{Row, row, row_of, key_of}
use Rattle.solo_laws.proofs.Following.Due.{clash, both_true, and_true, not_true, not_false, equal, later, neither}
use Rattle.solo_laws.proofs.Following.Cells.{same_number}

-- the list without a number
abbrev pub less : ℕ → List ℕ → List ℕ
less f ns = without (λ n. f == n) ns

pub less_short : (f : ℕ) (ns : List ℕ) → length (less f ns) ≤ length ns
less_short f [] = omega arith
less_short f (n ∷ ns) = by (f == n) (less_short f ns)
  where
    by : (b : Bool) → length (less f ns) ≤ length ns → length (cond b ns (n ∷ less f ns)) ≤ suc (length ns)
    by true is = omega arith
    by false is = omega (arith, is)

-- two lists have the same heads and tails
pub heads : {B : Type 0} (x y : B) (xs ys : List B) → x ∷ xs ≡ y ∷ ys → x ≡ y
heads {B} x y xs ys is = ap (λ zs. by zs) is
  where
    by : List B → B
    by [] = x
    by (z ∷ zs) = z

pub tails : {B : Type 0} (x y : B) (xs ys : List B) → x ∷ xs ≡ y ∷ ys → xs ≡ ys
tails {B} x y xs ys is = ap (λ zs. by zs) is
  where
    by : List B → List B
    by [] = xs
    by (z ∷ zs) = zs

module _ (g : ℕ → ℕ) where
  pub is_in_map : (f : ℕ) (ns : List ℕ) → is_in f ns ≡ true → is_in (g f) (map g ns) ≡ true
  is_in_map f [] is = is
  is_in_map f (n ∷ ns) is = by (f == n) refl is (is_in_map f ns)
    where
      by : (b : Bool) → (f == n) ≡ b → cond b true (is_in f ns) ≡ true → (is_in f ns ≡ true → is_in (g f) (map g ns) ≡ true)
          → cond (g f == g n) true (is_in (g f) (map g ns)) ≡ true
      by true same is rest =
          ap (λ b. cond b true (is_in (g f) (map g ns))) (equal (g f) (g n) (ap g (same_number f n same)))
      by false same is rest = later (g f == g n) (is_in (g f) (map g ns)) (rest is)

  not_in_less : (k f : ℕ) (ns : List ℕ) → is_in k (map g ns) ≡ false → is_in k (map g (less f ns)) ≡ false
  not_in_less k f [] is = is
  not_in_less k f (n ∷ ns) is = by (f == n) (not_in_less k f ns)
    where
      two : ((k == g n) ≡ false) × (is_in k (map g ns) ≡ false)
      two = neither (k == g n) (is_in k (map g ns)) is

      by : (b : Bool) → (is_in k (map g ns) ≡ false → is_in k (map g (less f ns)) ≡ false)
          → is_in k (map g (cond b ns (n ∷ less f ns))) ≡ false
      by true rest = two.1
      by false rest = ap (λ b. cond b true (is_in k (map g (less f ns)))) two.0 ∙ rest two.1

  pub apart_less : (f : ℕ) (ns : List ℕ) → apart (map g ns) ≡ true → apart (map g (less f ns)) ≡ true
  apart_less f [] is = refl
  apart_less f (n ∷ ns) is = by (f == n) (apart_less f ns)
    where
      two : (not (is_in (g n) (map g ns)) ≡ true) × (apart (map g ns) ≡ true)
      two = both_true (not (is_in (g n) (map g ns))) (apart (map g ns)) is

      by : (b : Bool) → (apart (map g ns) ≡ true → apart (map g (less f ns)) ≡ true)
          → apart (map g (cond b ns (n ∷ less f ns))) ≡ true
      by true rest = two.1
      by false rest =
          and_true (not (is_in (g n) (map g (less f ns)))) (apart (map g (less f ns)))
          (not_false (is_in (g n) (map g (less f ns)))
          (not_in_less (g n) f ns (not_true (is_in (g n) (map g ns)) two.0)))
          (rest two.1)

module _ {F : Type 0} (its : ℕ → Lent) (held : Bool) (home : ℕ → Bool) (f : ℕ) where
  -- its entry, and the others
  abbrev Found : List (Entry F (Option Task)) → List ℕ → Type 0
  Found es ns =
      (e : Entry F (Option Task)) × (entry_at (its f).place.key es ≡ Some e) × ((e.stamp == (its f).place.stamp) ≡ true)
      × (e.waker ≡ counted_waker held (its f).task)
      × (map row (without_entry (its f).place.key es) ≡ map (row_of its held home) (less f ns)) × (is_some e.future ≡ home f)

  finds : (es : List (Entry F (Option Task))) (ns : List ℕ) → map row es ≡ map (row_of its held home) ns
      → apart (map (key_of its) ns) ≡ true → is_in f ns ≡ true → Found es ns
  finds es [] rows once has = absurd cc
  finds [] (n ∷ ns) rows once has = absurd cc
  finds (e ∷ es) (n ∷ ns) rows once has = by (f == n) refl has (finds es ns)
    where
      first : row e ≡ row_of its held home n
      first = heads (row e) (row_of its held home n) (map row es) (map (row_of its held home) ns) rows

      rest : map row es ≡ map (row_of its held home) ns
      rest = tails (row e) (row_of its held home n) (map row es) (map (row_of its held home) ns) rows

      two : (not (is_in (key_of its n) (map (key_of its) ns)) ≡ true) × (apart (map (key_of its) ns) ≡ true)
      two = both_true (not (is_in (key_of its n) (map (key_of its) ns))) (apart (map (key_of its) ns)) once

      key_is : e.key ≡ key_of its n
      key_is = ap (λ (r : Row). r.0.key) first

      by : (b : Bool) → (f == n) ≡ b → cond b true (is_in f ns) ≡ true
          → (map row es ≡ map (row_of its held home) ns → apart (map (key_of its) ns) ≡ true → is_in f ns ≡ true → Found es ns)
          → Found (e ∷ es) (n ∷ ns)
      by true same has next =
          let one : f ≡ n = same_number f n same in
          let here : ((its f).place.key == e.key) ≡ true = equal (its f).place.key e.key (ap (key_of its) one ∙ sym key_is) in (
            e,
            ap (λ b. elim b [ true ↦ Some e | false ↦ entry_at (its f).place.key es ]) here,
            equal e.stamp (its f).place.stamp (ap (λ (r : Row). r.0.stamp) first ∙ ap (λ m. (its m).place.stamp) (sym one)),
            ap (λ (r : Row). r.1) first ∙ ap (λ m. counted_waker held (its m).task) (sym one),
            ap (λ b. map (row {F = F}) (elim b [ true ↦ es | false ↦ e ∷ without_entry (its f).place.key es ])) here
                ∙ (rest ∙ ap (λ b. map (row_of its held home) (cond b ns (n ∷ less f ns))) (sym same)),
            ap (λ (r : Row). r.2) first ∙ ap home (sym one),
          )
      by false same has next =
          let later_on = next rest two.1 has in
          let past : ((its f).place.key == e.key) ≡ false = not_here ((its f).place.key == e.key) refl in (
            later_on.0,
            ap (λ b. elim b [ true ↦ Some e | false ↦ entry_at (its f).place.key es ]) past ∙ later_on.1,
            later_on.2,
            later_on.3,
            ap (λ b. map (row {F = F}) (elim b [ true ↦ es | false ↦ e ∷ without_entry (its f).place.key es ])) past
                ∙ (ap (λ r. r ∷ map (row {F = F}) (without_entry (its f).place.key es)) first
                ∙ (ap (λ rows. row_of its held home n ∷ rows) later_on.4
                ∙ ap (λ b. map (row_of its held home) (cond b ns (n ∷ less f ns))) (sym same))),
            later_on.5,
          )
        where
          not_here : (b : Bool) → ((its f).place.key == e.key) ≡ b → b ≡ false
          not_here false is = refl
          not_here true is =
              let k : key_of its f ≡ key_of its n = same_number (its f).place.key e.key is ∙ key_is in
              absurd (clash (not_true (is_in (key_of its n) (map (key_of its) ns)) two.0)
              (subst (λ k. is_in k (map (key_of its) ns) ≡ true) k (is_in_map (key_of its) f ns has)))

  -- what leaves is its entry
  pub leaves : (es : List (Entry F (Option Task))) (ns : List ℕ) → map row es ≡ map (row_of its held home) ns
      → apart (map (key_of its) ns) ≡ true → is_in f ns ≡ true
      → (e : Entry F (Option Task)) × (entry_in (its f).place es ≡ Some e) × (e.waker ≡ counted_waker held (its f).task)
      × (map row (left_by (its f).place es) ≡ map (row_of its held home) (less f ns)) × (is_some e.future ≡ home f)
  leaves es ns rows once has =
      let it = finds es ns rows once has in
      let there : entry_in (its f).place es ≡ Some it.0 =
      ap (stamped (its f).place.stamp) it.1
      ∙ ap (λ b. elim b [ true ↦ Some it.0 | false ↦ None ]) it.2 in
      (it.0, there, it.3, ap (λ o. map row (where_there o (without_entry (its f).place.key es) es)) there ∙ it.4, it.5)

module _ {T A : Type 0} where
  -- a future that is dropped lives no more
  pub living_less : (fs : List (Future T A)) (n i at : ℕ) (x : Future T A) → at ≡ n + i → slice_get fs i ≡ Some x
      → x.is_dropped ≡ false
      → living_from n (slice_set fs i (record x { is_dropped = true })) ≡ less at (living_from n fs)
  living_less [] n i at x same is live = absurd cc
  living_less (y ∷ ys) n zero at x same is live =
      let it : y.is_dropped ≡ false = ap (λ (o : Option (Future T A)). by o) is ∙ live in
      sym (ap (λ b. less at (cond b (living_from (suc n) ys) (n ∷ living_from (suc n) ys))) it
      ∙ ap (λ b. cond b (living_from (suc n) ys) (n ∷ less at (living_from (suc n) ys))) (equal at n (omega (arith, same))))
    where
      by : Option (Future T A) → Bool
      by None = false
      by (Some x) = x.is_dropped
  living_less (y ∷ ys) n (suc i) at x same is live =
      by y.is_dropped (living_less ys (suc n) i at x (omega (arith, same)) is live)
    where
      past : (at == n) ≡ false
      past = unequal at n i same
        where
          unequal : (at n i : ℕ) → at ≡ n + suc i → (at == n) ≡ false
          unequal at n i same = grind (arith, nat_tests)

      by : (b : Bool) → living_from (suc n) (slice_set ys i (record x { is_dropped = true })) ≡ less at (living_from (suc n) ys)
          → cond b (living_from (suc n) (slice_set ys i (record x { is_dropped = true })))
          (n ∷ living_from (suc n) (slice_set ys i (record x { is_dropped = true })))
          ≡ less at (cond b (living_from (suc n) ys) (n ∷ living_from (suc n) ys))
      by true rest = rest
      by false rest =
          ap (λ ns. n ∷ ns) rest
          ∙ sym (ap (λ b. cond b (living_from (suc n) ys) (n ∷ less at (living_from (suc n) ys))) past)
