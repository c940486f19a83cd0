-- Of those who lie, each once, there are no more than of those whom they are among.
use Rattle.std.proofs.Common.{◌≡◌, ℕ, suc, ◌+◌, ◌≤◌, ◌==◌, cond, not, ◌&&◌, Bool, true, false, List, [], ◌∷◌, ◌++◌, length, map}
use Rattle.std.proofs.Common.{refl, ap, subst, ◌∙◌, arith}
use Rattle.plain_scheduler.specs.State.{Who, ATick, ARun, Lying}
use Rattle.plain_scheduler.specs.Lists.{any, without}
use Rattle.plain_scheduler.specs.Moves.{is_who}
use Rattle.solo_laws.specs.Numbered.{numbers}
use Rattle.solo_laws.specs.Road.{apart, is_in}
use Rattle.solo_laws.proofs.Following.Due.{and_true, both_true, clash, equal, later, not_false, not_true}
use Rattle.solo_laws.proofs.Following.Lists.{length_map}
use Rattle.solo_laws.proofs.Following.Numbers.{itself, same_who}

abbrev pub whos : {A : Type 0} → List (Lying A) → List Who
whos {A} ls = map (λ (l : Lying A). l.who) ls

abbrev pub is_among : Who → List Who → Bool
is_among v ws = any (is_who v) ws

abbrev pub each_once : List Who → Bool
each_once [] = true
each_once (w ∷ ws) = not (is_among w ws) && each_once ws

pub at_first : (b c : Bool) → b ≡ true → cond b true c ≡ true
at_first true c is = refl
at_first false c is = absurd cc

-- each has a number of its own
numbered_in : {A : Type 0} (number : Who → ℕ) (v : Who) (ls : List (Lying A)) → is_among v (whos ls) ≡ true
    → is_in (number v) (numbers number ls) ≡ true
numbered_in number v [] is = absurd cc
numbered_in number v (l ∷ ls) is = by (is_who v l.who) refl is (numbered_in number v ls)
  where
    by : (b : Bool) → is_who v l.who ≡ b → cond b true (is_among v (whos ls)) ≡ true
        → (is_among v (whos ls) ≡ true → is_in (number v) (numbers number ls) ≡ true)
        → is_in (number v) (numbers number (l ∷ ls)) ≡ true
    by true same is rest =
        at_first (number v == number l.who) (is_in (number v) (numbers number ls))
        (equal (number v) (number l.who) (ap number (same_who v l.who same)))
    by false other is rest = later (number v == number l.who) (is_in (number v) (numbers number ls)) (rest is)

pub lie_once : {A : Type 0} (number : Who → ℕ) (ls : List (Lying A)) → apart (numbers number ls) ≡ true → each_once (whos ls) ≡ true
lie_once number [] is = refl
lie_once number (l ∷ ls) is =
    let two = both_true (not (is_in (number l.who) (numbers number ls))) (apart (numbers number ls)) is in
    let out = not_true (is_in (number l.who) (numbers number ls)) two.0 in
    and_true (not (is_among l.who (whos ls))) (each_once (whos ls))
    (not_false (is_among l.who (whos ls)) (by (is_among l.who (whos ls)) refl out)) (lie_once number ls two.1)
  where
    by : (b : Bool) → is_among l.who (whos ls) ≡ b → is_in (number l.who) (numbers number ls) ≡ false → b ≡ false
    by true is out = absurd (clash out (numbered_in number l.who ls is))
    by false is out = refl

-- one is taken out
taken_out : (w : Who) (ws : List Who) → is_among w ws ≡ true → suc (length (without (is_who w) ws)) ≡ length ws
taken_out w [] is = absurd cc
taken_out w (x ∷ xs) is = by (is_who w x) is (taken_out w xs)
  where
    by : (b : Bool) → cond b true (is_among w xs) ≡ true
        → (is_among w xs ≡ true → suc (length (without (is_who w) xs)) ≡ length xs)
        → suc (length (cond b xs (x ∷ without (is_who w) xs))) ≡ suc (length xs)
    by true is rest = refl
    by false is rest = ap suc (rest is)

others_stay : (v w : Who) (ws : List Who) → is_who v w ≡ false → is_among v ws ≡ true → is_among v (without (is_who w) ws) ≡ true
others_stay v w [] other is = absurd cc
others_stay v w (x ∷ xs) other is = by (is_who w x) refl (is_who v x) refl is (others_stay v w xs other)
  where
    by : (b : Bool) → is_who w x ≡ b → (c : Bool) → is_who v x ≡ c → cond c true (is_among v xs) ≡ true
        → (is_among v xs ≡ true → is_among v (without (is_who w) xs) ≡ true)
        → is_among v (cond b xs (x ∷ without (is_who w) xs)) ≡ true
    by true same true it is rest =
        absurd (clash other (ap (is_who v) (same_who w x same) ∙ it))
    by true same false away is rest = is
    by false off true it is rest = at_first (is_who v x) (is_among v (without (is_who w) xs)) it
    by false off false away is rest = later (is_who v x) (is_among v (without (is_who w) xs)) (rest is)

pub no_more : (us ws : List Who) → each_once us ≡ true → ((v : Who) → is_among v us ≡ true → is_among v ws ≡ true)
    → length us ≤ length ws
no_more [] ws once all = omega arith
no_more (u ∷ us) ws once all =
    let two = both_true (not (is_among u us)) (each_once us) once in
    let long = taken_out u ws (all u (at_first (is_who u u) (is_among u us) (itself u))) in
    let fewer = no_more us (without (is_who u) ws) two.1
    (λ v is. others_stay v u ws (unlike v is (not_true (is_among u us) two.0) (is_who v u) refl)
    (all v (later (is_who v u) (is_among v us) is))) in
    omega (arith, long, fewer)
  where
    unlike : (v : Who) → is_among v us ≡ true → is_among u us ≡ false → (b : Bool) → is_who v u ≡ b → b ≡ false
    unlike v is out true same = absurd (clash out (subst (λ w. is_among w us ≡ true) (same_who v u same) is))
    unlike v is out false other = refl

-- ticks and runs
abbrev pub both_kinds : List ℕ → List ℕ → List Who
both_kinds ts rs = map ATick ts ++ map ARun rs

pub both_long : (ts rs : List ℕ) → length (both_kinds ts rs) ≡ length ts + length rs
both_long [] rs = let long = length_map ARun rs in omega (arith, long)
both_long (t ∷ ts) rs = let rest = both_long ts rs in omega (arith, rest)

pub a_tick_of : (t : ℕ) (ts rs : List ℕ) → is_in t ts ≡ true → is_among (ATick t) (both_kinds ts rs) ≡ true
a_tick_of t [] rs is = absurd cc
a_tick_of t (u ∷ us) rs is = by (t == u) is (a_tick_of t us rs)
  where
    by : (b : Bool) → cond b true (is_in t us) ≡ true → (is_in t us ≡ true → is_among (ATick t) (both_kinds us rs) ≡ true)
        → cond b true (is_among (ATick t) (both_kinds us rs)) ≡ true
    by true is rest = refl
    by false is rest = rest is

pub a_run_of : (r : ℕ) (ts rs : List ℕ) → is_in r rs ≡ true → is_among (ARun r) (both_kinds ts rs) ≡ true
a_run_of r (t ∷ ts) rs is = a_run_of r ts rs is
a_run_of r [] [] is = absurd cc
a_run_of r [] (k ∷ ks) is = by (r == k) is (a_run_of r [] ks)
  where
    by : (b : Bool) → cond b true (is_in r ks) ≡ true → (is_in r ks ≡ true → is_among (ARun r) (both_kinds [] ks) ≡ true)
        → cond b true (is_among (ARun r) (both_kinds [] ks)) ≡ true
    by true is rest = refl
    by false is rest = rest is
