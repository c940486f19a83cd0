-- What a change of one place's time means for the times that stand.
use Rattle.std.proofs.Common.{zero, suc, ◌≡◌, ◌≢◌, ◌+◌, ◌≤◌, ◌<◌, ◌==◌, not, nat_lt, cond, true, false, Bool, ℕ, List, [], ◌∷◌, All}
use Rattle.std.proofs.Common.{IsPermutation, arith, ap, refl, sym, ◌∙◌, length, drop, replicate, ◌-◌, set, get_or, get_or-set_same, subst}
use Rattle.std.proofs.lemmas.Bool.Decides.{nat_tests}
use Rattle.std.proofs.lemmas.List.{set-get_or, length-set, drop-replicate, get_or-replicate, length-replicate}
use Rattle.std.proofs.lemmas.List.Elements.{All-nil, All-cons}
use Rattle.std.proofs.lemmas.List.Sorted.{IsPermutation-refl, IsPermutation-cons, IsPermutation-trans, IsPermutation-sym}
use Rattle.std.proofs.lemmas.List.Sorted.{IsPermutation-middle, length_permutation}
use Rattle.std.specs.List.{filter}
use Rattle.timer.specs.Order.{never, standing_from, time_of}

-- one more entry before or behind another
behind : (b : Bool) (x y : ℕ × ℕ) (old new : List (ℕ × ℕ)) → IsPermutation (y ∷ old) new
    → IsPermutation (y ∷ cond b (x ∷ old) old) (cond b (x ∷ new) new)
behind false x y old new h = h
behind true x y old new h =
    let swapped = IsPermutation-sym _ _ (IsPermutation-middle (x ∷ []) y old) in
    IsPermutation-trans _ _ _ swapped (IsPermutation-cons x _ _ h)

here : (a b : Bool) (x y z : ℕ × ℕ) (list : List (ℕ × ℕ)) → a ≡ false → b ≡ true → x ≡ y
    → IsPermutation (x ∷ cond a (z ∷ list) list) (cond b (y ∷ list) list)
here a b x y z list none some same = rw (none, some, same) (IsPermutation-refl (y ∷ list))

-- a new time stands beside those that stood
pub entered : (ts : List ℕ) (from at place due : ℕ) → at < length ts → never ≤ time_of ts at → due < never → place ≡ from + at →
    IsPermutation ((due, place) ∷ standing_from from ts) (standing_from from (set ts at due))
entered [] from at place due within old new e = absurd (omega arith)
entered (t ∷ ts) from zero place due within old new e =
    let before : nat_lt t never ≡ false = grind (arith, nat_tests) in
    let now : nat_lt due never ≡ true = grind (arith, nat_tests) in
    let at_from : place ≡ from = omega arith in
    here (nat_lt t never) (nat_lt due never) (due, place) (due, from) (t, from) _ before now (ap (λ p. (due, p)) at_from)
entered (t ∷ ts) from (suc at) place due within old new e =
    behind (nat_lt t never) (t, from) (due, place) _ _ (entered ts (from + 1) at place due (omega arith) old new (omega arith))

-- a time that the test lets stay, stays
taken : (b : Bool) (x : ℕ × ℕ) (p : ℕ × ℕ → Bool) (list new : List (ℕ × ℕ)) → p x ≡ true → filter p list ≡ new
    → filter p (cond b (x ∷ list) list) ≡ cond b (x ∷ new) new
taken false x p list new stays rest = rest
taken true x p list new stays rest = rw (stays, rest) refl

gone : (b c : Bool) (x y : ℕ × ℕ) (p : ℕ × ℕ → Bool) (list : List (ℕ × ℕ)) → p x ≡ false → c ≡ false → filter p list ≡ list
    → filter p (cond b (x ∷ list) list) ≡ cond c (y ∷ list) list
gone false c x y p list goes none rest = rw none rest
gone true c x y p list goes none rest = rw (goes, none) rest

-- a time at a later place stays
later : (ts : List ℕ) (from place : ℕ) → place < from
    → filter (λ other. not (other.1 == place)) (standing_from from ts) ≡ standing_from from ts
later [] from place before = refl
later (t ∷ ts) from place before =
    let differs : (from == place) ≡ false = grind (arith, nat_tests) in
    taken (nat_lt t never) (t, from) _ _ _ (ap not differs) (later ts (from + 1) place (omega arith))

-- a removed time stands no more, and all others do
pub left : (ts : List ℕ) (from at place : ℕ) → place ≡ from + at →
    filter (λ other. not (other.1 == place)) (standing_from from ts) ≡ standing_from from (set ts at never)
left [] from at place e = refl
left (t ∷ ts) from zero place e =
    let same : (from == place) ≡ true = grind (arith, nat_tests) in
    gone (nat_lt t never) (nat_lt never never) (t, from) (never, from) _ _ (ap not same) refl (later ts (from + 1) place (omega arith))
left (t ∷ ts) from (suc at) place e =
    let differs : (from == place) ≡ false = grind (arith, nat_tests) in
    taken (nat_lt t never) (t, from) _ _ _ (ap not differs) (left ts (from + 1) at place (omega arith))

either : (b : Bool) (low t place : ℕ) (list : List (ℕ × ℕ)) → low ≤ t → All (λ other. low ≤ other.0) list
    → All (λ other. low ≤ other.0) (cond b ((t, place) ∷ list) list)
either false low t place list first rest = rest
either true low t place list first rest = All-cons (λ other. low ≤ other.0) (t, place) list first rest

-- where no place has an earlier time, no time that stands is earlier
pub none_before : (ts : List ℕ) (from low : ℕ) → ((k : ℕ) → k < length ts → low ≤ get_or ts k 0)
    → All (λ other. low ≤ other.0) (standing_from from ts)
none_before [] from low h = All-nil (λ other. low ≤ other.0)
none_before (t ∷ ts) from low h =
    either (nat_lt t never) low t from _ (h 0 (omega arith)) (none_before ts (from + 1) low (λ k in_rest. h (suc k) (omega arith)))

none : (b : Bool) (x : ℕ × ℕ) (list : List (ℕ × ℕ)) → b ≡ false → list ≡ [] → cond b (x ∷ list) list ≡ []
none b x list is rest = rw is rest

-- where no place has a time, none stands
pub nobody : (ts : List ℕ) (from : ℕ) → ((k : ℕ) → k < length ts → never ≤ get_or ts k 0) → standing_from from ts ≡ []
nobody [] from h = refl
nobody (t ∷ ts) from h =
    let first = h 0 (omega arith) in
    none (nat_lt t never) (t, from) _ (grind (arith, nat_tests)) (nobody ts (from + 1) (λ k in_rest. h (suc k) (omega arith)))

again : (ts : List ℕ) (at v w : ℕ) → set (set ts at v) at w ≡ set ts at w
again [] at v w = refl
again (t ∷ ts) zero v w = refl
again (t ∷ ts) (suc at) v w = ap (λ l. t ∷ l) (again ts at v w)

-- the time whose turn it is goes, and all others stay
pub popped : (ts : List ℕ) (at due : ℕ) → at < length ts → get_or ts at 0 ≡ due → due < never →
    IsPermutation (standing_from 0 ts) ((due, at) ∷ standing_from 0 (set ts at never))
popped ts at due within is time =
    let none_there : get_or (set ts at never) at never ≡ never = get_or-set_same ts at never never within in
    let inside : at < length (set ts at never) = rw length-set within in
    let back : set (set ts at never) at due ≡ ts = again ts at never due ∙ ap (set ts at) (sym is) ∙ set-get_or ts at 0 in
    let h = entered (set ts at never) 0 at at due inside (omega (arith, none_there)) time (omega arith) in
    IsPermutation-sym _ _ (subst (λ l. IsPermutation ((due, at) ∷ standing_from 0 (set ts at never)) (standing_from 0 l)) back h)

-- in a list of such times none stands
pub nobody_of : (room count from : ℕ) (items : List ℕ) → items ≡ replicate count never → standing_from from (drop room items) ≡ []
nobody_of room count from items is =
    let left : drop room items ≡ replicate (count - room) never = ap (drop room) is ∙ drop-replicate room count never in
    nobody (drop room items) from (λ k within.
    let long : length (drop room items) ≡ count - room = ap length left ∙ length-replicate (count - room) never in
    let there : get_or (drop room items) k 0 ≡ never = ap (λ l. get_or l k 0) left
    ∙ get_or-replicate (count - room) k never 0 (omega arith) in
    omega arith)

-- where some place has a time, some time stands
pub somebody : (ts : List ℕ) (at due : ℕ) → at < length ts → get_or ts at 0 ≡ due → due < never → standing_from 0 ts ≢ []
somebody ts at due within is time none =
    let found = length_permutation _ _ (popped ts at due within is time) in
    let empty = ap length none in
    absurd (omega arith)

-- a time that leaves stands no more, and all others do
pub stays : (old new : List ℕ) (place : ℕ) → new ≡ set old place never →
    IsPermutation (filter (λ other. not (other.1 == place)) (standing_from 0 old)) (standing_from 0 new)
stays old new place is =
    let same = left old 0 place place (omega arith) ∙ ap (standing_from 0) (sym is) in
    subst (λ l. IsPermutation (filter (λ other. not (other.1 == place)) (standing_from 0 old)) l) same (IsPermutation-refl _)

-- what the test denies
pub no_time : (t : ℕ) → nat_lt t never ≡ false → never ≤ t
no_time t h = grind (arith, nat_tests)
