-- The number of a name among names of which none stands twice.
use Rattle.std.proofs.Common.{◌≡◌, ℕ, ◌+◌, ◌<◌, ◌≤◌, true, false, cond, eqb, List, [], ◌∷◌, ◌++◌, length, get_or}
use Rattle.std.proofs.Common.{Option, Some, None, IfSome, not, refl, sym, ◌∙◌, inl, inr, arith}
use Rattle.std.specs.List.{IsDistinct, position_or_len, slice_get}
use Rattle.std.specs.Str.{bytes_eq}
use Rattle.std.proofs.lemmas.Bool.{cases_lt, cases_Bool}
use Rattle.std.proofs.lemmas.Bool.Decides.{nat_tests}
use Rattle.std.proofs.lemmas.Option.{slice_get_within, get_or_from_slice_get, none-some}
use Rattle.std.proofs.lemmas.List.{get_or_append_left, get_or_push, length_push}
use Rattle.std.proofs.lemmas.List.Sums.{position_or_len_is, fails_before_first, prefix_len-le-length}
use Rattle.std.proofs.lemmas.List.Folds.{position_or_len_push}
use Rattle.std.proofs.lemmas.Map.Keys.{apart_from_distinct, IsDistinct-from_apart}
use Rattle.std.proofs.lemmas.Slice.Eq.{bytes_eq-Decides}
use Rattle.script.specs.Names.{number_of}

-- the place of a name, or how many names there are
abbrev place : List (List ℕ) → List ℕ → ℕ
place names name = position_or_len (λ other. bytes_eq other name) names

-- a name at its place has that number
pub number_of-place : (names : List (List ℕ)) (name : List ℕ) (number : ℕ) → place names name ≡ number →
    number < length names → number_of names name ≡ Some number
number_of-place names name number here within = rw here (grind (arith, nat_tests))

-- a name without a number has no place
pub place-none : (names : List (List ℕ)) (name : List ℕ) → number_of names name ≡ None → length names ≤ place names name
place-none names name none =
    elim (cases_lt (place names name) (length names)) [
      | inl within ↦ absurd (none-some (place names name) (sym none ∙ number_of-place names name _ refl within))
      | inr past ↦ past
    ]

-- no name is equal to one without a number
pub apart-none : (names : List (List ℕ)) (name : List ℕ) (k : ℕ) (d : List ℕ) → number_of names name ≡ None →
    k < length names → bytes_eq (get_or names k d) name ≡ false
apart-none names name k d none within =
    let past : length names ≤ place names name = place-none names name none in
    fails_before_first (λ other. bytes_eq other name) names k d (omega arith)

IfSome_of : {X : Type 0} {P : X → Type 0} (o : Option X) → ((x : X) → o ≡ Some x → P x) → IfSome o P
IfSome_of None each = tt
IfSome_of (Some x) each = each x refl

-- the name that stands at a place has that number
pub number_of-at : (names : List (List ℕ)) (number : ℕ) (name : List ℕ) → IsDistinct bytes_eq names →
    slice_get names number ≡ Some name → number_of names name ≡ Some number
number_of-at names number name distinct at =
    let within : number < length names = slice_get_within names number name at in
    let read : get_or names number [] ≡ name = get_or_from_slice_get names number name [] at in
    number_of-place names name number (position_or_len_is (λ other. bytes_eq other name) names number [] (omega arith)
    (λ k below. rw (← read) (apart_from_distinct bytes_eq names k number [] distinct below within))
    (λ _. (bytes_eq-Decides (get_or names number []) name).1 read)) within

pub number_of-get : (names : List (List ℕ)) (number : ℕ) → IsDistinct bytes_eq names →
    IfSome (slice_get names number) (λ name. number_of names name ≡ Some number)
number_of-get names number distinct = IfSome_of (slice_get names number) (λ name at. number_of-at names number name distinct at)

-- the place of a name where one more stands behind the others
place-push : (names : List (List ℕ)) (name other : List ℕ) →
    place (names ++ name ∷ []) other ≡ cond (eqb (place names other) (length names))
    (length names + cond (bytes_eq name other) 0 1) (place names other)
place-push names name other = position_or_len_push (λ one. bytes_eq one other) names name

number_of-push_same : (names : List (List ℕ)) (name other : List ℕ) → number_of names name ≡ None →
    bytes_eq name other ≡ true → number_of (names ++ name ∷ []) other ≡ Some (length names)
number_of-push_same names name other none same =
    let is : name ≡ other = (bytes_eq-Decides name other).0 same in
    let past : length names ≤ place names other = rw (← is) (place-none names name none) in
    let most : place names other ≤ length names = prefix_len-le-length (λ one. not (bytes_eq one other)) names in
    let whole : place names other ≡ length names = omega arith in
    let at : place (names ++ name ∷ []) other ≡ length names = place-push names name other ∙ rw (same, whole) (grind (arith, nat_tests)) in
    number_of-place (names ++ name ∷ []) other (length names) at (omega (arith, length_push names name))

number_of-push_other : (names : List (List ℕ)) (name other : List ℕ) → bytes_eq name other ≡ false →
    number_of (names ++ name ∷ []) other ≡ number_of names other
number_of-push_other names name other apart =
    let e : length (names ++ name ∷ []) ≡ length names + 1 = length_push names name in
    rw (place-push names name other, apart, e) (grind (arith, nat_tests))

-- a new name has the number behind the others, which keep theirs
pub number_of-push : (names : List (List ℕ)) (name other : List ℕ) → number_of names name ≡ None →
    number_of (names ++ name ∷ []) other ≡ cond (bytes_eq name other) (Some (length names)) (number_of names other)
number_of-push names name other none =
    elim (cases_Bool (bytes_eq name other)) [
      | inl same ↦ number_of-push_same names name other none same ∙ sym (rw same refl)
      | inr apart ↦ number_of-push_other names name other apart ∙ sym (rw apart refl)
    ]

-- and none stands twice
pub IsDistinct-push_new : (names : List (List ℕ)) (name : List ℕ) → number_of names name ≡ None →
    IsDistinct bytes_eq names → IsDistinct bytes_eq (names ++ name ∷ [])
IsDistinct-push_new names name none distinct = IsDistinct-from_apart bytes_eq (names ++ name ∷ []) (λ i j d before within.
    elim (cases_lt j (length names)) [
      | inl inside ↦
          rw (get_or_append_left names (name ∷ []) d i (omega arith), get_or_append_left names (name ∷ []) d j inside)
          (apart_from_distinct bytes_eq names i j d distinct before inside)
      | inr last ↦
          let e : length (names ++ name ∷ []) ≡ length names + 1 = length_push names name in
          let i_inside : i < length names = omega arith in
          rw (get_or_append_left names (name ∷ []) d i i_inside, get_or_push names name d j (omega arith))
          (apart-none names name i d none i_inside)
    ])
