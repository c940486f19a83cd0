-- Lists to which one comes last.
use Rattle.std.proofs.Common.{◌≡◌, ℕ, zero, suc, ◌+◌, ◌==◌, cond, not, Bool, true, false, List, [], ◌∷◌, ◌++◌, length, map, Some, None}
use Rattle.std.proofs.Common.{slice_get, refl, sym, ap, ◌∙◌, arith}
use Rattle.std.proofs.lemmas.Bool.Decides.{nat_tests}
use Rattle.plain_scheduler.specs.State.{Future}
use Rattle.plain_scheduler.specs.Calls.{living_from}
use Rattle.solo_laws.specs.Road.{is_in, apart}
use Rattle.solo_laws.proofs.Following.Due.{both_true, and_true, not_true, not_false, neither}

apart_next : (f n : ℕ) → (suc f == suc n) ≡ (f == n)
apart_next f n = by (f == n) refl
  where
    by : (b : Bool) → (f == n) ≡ b → (suc f == suc n) ≡ b
    by true is = grind (arith, nat_tests)
    by false is = grind (arith, nat_tests)

none_not : (n : ℕ) → (0 == suc n) ≡ false
none_not n = grind (arith, nat_tests)

not_none : (f : ℕ) → (suc f == 0) ≡ false
not_none f = grind (arith, nat_tests)

module _ {A : Type 0} where
  pub long_last : (xs : List A) (x : A) → length (xs ++ x ∷ []) ≡ length xs + 1
  long_last [] x = refl
  long_last (y ∷ ys) x = let it = long_last ys x in omega (arith, it)

  pub get_last : (xs : List A) (x : A) (f : ℕ) → slice_get (xs ++ x ∷ []) f ≡ cond (f == length xs) (Some x) (slice_get xs f)
  get_last [] x zero = refl
  get_last [] x (suc f) = sym (ap (λ b. cond b (Some x) None) (not_none f))
  get_last (y ∷ ys) x zero = sym (ap (λ b. cond b (Some x) (Some y)) (none_not (length ys)))
  get_last (y ∷ ys) x (suc f) =
      get_last ys x f ∙ ap (λ b. cond b (Some x) (slice_get ys f)) (sym (apart_next f (length ys)))

module _ {A B C : Type 0} (f : A → B) (g : B → C) where
  pub map_twice : (xs : List A) → map g (map f xs) ≡ map (λ x. g (f x)) xs
  map_twice [] = refl
  map_twice (x ∷ xs) = ap (λ ys. g (f x) ∷ ys) (map_twice xs)

module _ {T A : Type 0} where
  -- a future that comes lives
  pub living_last : (fs : List (Future T A)) (x : Future T A) (n at : ℕ) → at ≡ n + length fs → x.is_dropped ≡ false
      → living_from n (fs ++ x ∷ []) ≡ living_from n fs ++ at ∷ []
  living_last [] x n at is live =
      ap (λ b. cond b [] (n ∷ [])) live ∙ ap (λ n. n ∷ []) (let it : n ≡ at = omega (arith, is) in it)
  living_last (y ∷ ys) x n at is live = by y.is_dropped (living_last ys x (suc n) at (omega (arith, is)) live)
    where
      by : (b : Bool) → living_from (suc n) (ys ++ x ∷ []) ≡ living_from (suc n) ys ++ at ∷ []
          → cond b (living_from (suc n) (ys ++ x ∷ [])) (n ∷ living_from (suc n) (ys ++ x ∷ []))
          ≡ cond b (living_from (suc n) ys) (n ∷ living_from (suc n) ys) ++ at ∷ []
      by true rest = rest
      by false rest = ap (λ ns. n ∷ ns) rest

is_in_last : (k : ℕ) (ns : List ℕ) (n : ℕ) → is_in k ns ≡ false → (k == n) ≡ false → is_in k (ns ++ n ∷ []) ≡ false
is_in_last k [] n is apart = ap (λ b. cond b true false) apart
is_in_last k (m ∷ ms) n is apart =
    let two = neither (k == m) (is_in k ms) is in
    ap (λ b. cond b true (is_in k (ms ++ n ∷ []))) two.0 ∙ is_in_last k ms n two.1 apart

pub apart_last : (ns : List ℕ) (n : ℕ) → apart ns ≡ true → is_in n ns ≡ false → apart (ns ++ n ∷ []) ≡ true
apart_last [] n is none = refl
apart_last (m ∷ ms) n is none =
    let two = both_true (not (is_in m ms)) (apart ms) is in
    let no = neither (n == m) (is_in n ms) none in
    and_true (not (is_in m (ms ++ n ∷ []))) (apart (ms ++ n ∷ []))
    (not_false (is_in m (ms ++ n ∷ [])) (is_in_last m ms n (not_true (is_in m ms) two.0) (turn n m no.0)))
    (apart_last ms n two.1 no.1)
  where
    turn : (n m : ℕ) → (n == m) ≡ false → (m == n) ≡ false
    turn n m is = grind (arith, nat_tests)
