-- How a ring of links changes when a key joins or leaves it.
use Rattle.std.proofs.Common.{◌≡◌, ◌≢◌, ◌⊎◌, ℕ, zero, suc, ◌+◌, ◌-◌, ◌<◌, ◌≤◌, List, [], ◌∷◌, ◌++◌, length, get_or, slice_get, Some}
use Rattle.std.proofs.Common.{refl, sym, ap, ◌∙◌, subst, inl, inr, arith}
use Rattle.std.proofs.lemmas.Bool.{cases_eq}
use Rattle.executor_parts.specs.Order.{without}
use Rattle.executor_parts.specs.declared.order.Link.{Link}
use Rattle.executor_parts.specs.Order.{IsIn, IsApart, AllBelow, no_link, next_of, previous_of, walk, IsChain, keys_of, IsRing, Joins}
use Rattle.executor_parts.specs.Order.{Skips, Inserts}
use Rattle.executor_parts.proofs.Cells.{without_no, without_yes}

-- ---- lists of keys

pub is_in_without : (key other : ℕ) (keys : List ℕ) → IsIn other (without key keys) → IsIn other keys
is_in_without key other [] found = absurd found
is_in_without key other (first ∷ rest) found =
    elim (cases_eq first key) [
      | inl same ↦ inr (subst (IsIn other) (without_yes key first rest same) found)
      | inr differs ↦
          elim (subst (IsIn other) (without_no key first rest differs) found) [
            | inl here ↦ inl here
            | inr there ↦ inr (is_in_without key other rest there)
          ]
    ]

pub is_in_kept : (key other : ℕ) (keys : List ℕ) → IsIn other keys → other ≢ key → IsIn other (without key keys)
is_in_kept key other [] found differs = absurd found
is_in_kept key other (first ∷ rest) found differs =
    elim (cases_eq first key) [
      | inl same ↦
          subst (IsIn other) (sym (without_yes key first rest same))
          (elim found [
            | inl here ↦ absurd (differs (sym here ∙ same))
            | inr there ↦ there
          ])
      | inr apart ↦
          subst (IsIn other) (sym (without_no key first rest apart))
          (elim found [ inl here ↦ inl here | inr there ↦ inr (is_in_kept key other rest there differs) ])
    ]

pub is_apart_without : (key : ℕ) (keys : List ℕ) → IsApart keys → IsApart (without key keys)
is_apart_without key [] apart = tt
is_apart_without key (first ∷ rest) apart =
    elim (cases_eq first key) [
      | inl same ↦ subst IsApart (sym (without_yes key first rest same)) apart.1
      | inr differs ↦
          subst IsApart (sym (without_no key first rest differs))
          (λ found. apart.0 (is_in_without key first rest found), is_apart_without key rest apart.1)
    ]

-- a key that left is there no more
pub left : (key : ℕ) (keys : List ℕ) → IsApart keys → ¬ IsIn key (without key keys)
left key [] apart found = found
left key (first ∷ rest) apart found =
    elim (cases_eq first key) [
      | inl same ↦ apart.0 (subst (λ k. IsIn k rest) (sym same) (subst (IsIn key) (without_yes key first rest same) found))
      | inr differs ↦
          elim (subst (IsIn key) (without_no key first rest differs) found) [
            | inl here ↦ differs here
            | inr there ↦ left key rest apart.1 there
          ]
    ]

pub length-without : (key : ℕ) (keys : List ℕ) → IsIn key keys → length (without key keys) + 1 ≡ length keys
length-without key [] found = absurd found
length-without key (first ∷ rest) found =
    elim (cases_eq first key) [
      | inl same ↦ omega (arith, ap length (without_yes key first rest same))
      | inr differs ↦
          elim found [
            | inl here ↦ absurd (differs here)
            | inr there ↦ omega (arith, ap length (without_no key first rest differs), length-without key rest there)
          ]
    ]

pub is_in_push : (key other : ℕ) (keys : List ℕ) → IsIn other (keys ++ key ∷ []) → IsIn other keys ⊎ (key ≡ other)
is_in_push key other [] found = elim found [ inl here ↦ inr here | inr nowhere ↦ absurd nowhere ]
is_in_push key other (first ∷ rest) found =
    elim found [
      | inl here ↦ inl (inl here)
      | inr there ↦ elim (is_in_push key other rest there) [ inl old ↦ inl (inr old) | inr new ↦ inr new ]
    ]

pub is_in_push_kept : (key other : ℕ) (keys : List ℕ) → IsIn other keys → IsIn other (keys ++ key ∷ [])
is_in_push_kept key other [] found = absurd found
is_in_push_kept key other (first ∷ rest) found =
    elim found [ inl here ↦ inl here | inr there ↦ inr (is_in_push_kept key other rest there) ]

pub is_in_last : (key : ℕ) (keys : List ℕ) → IsIn key (keys ++ key ∷ [])
is_in_last key [] = inl refl
is_in_last key (first ∷ rest) = inr (is_in_last key rest)

pub is_apart_push : (key : ℕ) (keys : List ℕ) → IsApart keys → ¬ IsIn key keys → IsApart (keys ++ key ∷ [])
is_apart_push key [] apart absent = (λ nowhere. nowhere, tt)
is_apart_push key (first ∷ rest) apart absent = (
  λ found. elim (is_in_push key first rest found) [ inl old ↦ apart.0 old | inr new ↦ absent (inl (sym new)) ],
  is_apart_push key rest apart.1 (λ there. absent (inr there)),
)

-- ---- chains

length-walk : (next : ℕ → ℕ) (count from : ℕ) → length (walk next count from) ≡ count
length-walk next zero from = refl
length-walk next (suc count) from = ap suc (length-walk next count (next from))

pub length-keys_of : (links : List Link) (len : ℕ) → length (keys_of links len) ≡ len
length-keys_of links len = length-walk (next_of links) len 0

-- the place is this end, or the link of one of the keys
abbrev pub IsOn : ℕ → List ℕ → ℕ → Type 0
IsOn end keys at = (at ≡ end) ⊎ ((key : ℕ) × IsIn key keys × (at ≡ key + 1))

-- the place is the link of none of the keys
abbrev IsOff : List ℕ → ℕ → Type 0
IsOff keys at = (key : ℕ) → IsIn key keys → at ≢ key + 1

is_on_cons : (from first : ℕ) (rest : List ℕ) (at : ℕ) → IsOn (first + 1) rest at → IsOn from (first ∷ rest) at
is_on_cons from first rest at on =
    elim on [ inl here ↦ inr (first, inl refl, here) | inr there ↦ inr (there.0, inr there.1, there.2) ]

is_on_more : (to first : ℕ) (rest : List ℕ) (at : ℕ) → IsOn to rest at → IsOn to (first ∷ rest) at
is_on_more to first rest at on =
    elim on [ inl here ↦ inl here | inr there ↦ inr (there.0, inr there.1, there.2) ]

off_not_on : (end : ℕ) (keys : List ℕ) (at on : ℕ) → at ≢ end → IsOff keys at → IsOn end keys on → at ≢ on
off_not_on end keys at on other off found same =
    elim found [ inl here ↦ other (same ∙ here) | inr there ↦ off there.0 there.1 (same ∙ there.2) ]

is_off_head : (first : ℕ) (rest : List ℕ) → ¬ IsIn first rest → IsOff rest (first + 1)
is_off_head first rest absent key found same =
    let keys : key ≡ first = omega arith in absent (subst (λ k. IsIn k rest) keys found)

-- place 0 is no key's
start_off : (keys : List ℕ) → IsOff keys 0
start_off keys key found same = omega arith

module _ (next previous : ℕ → ℕ) where
  walk_chain : (from : ℕ) (keys : List ℕ) (to : ℕ) → IsChain next previous from keys to → walk next (length keys) from ≡ keys
  walk_chain from [] to chain = refl
  walk_chain from (first ∷ rest) to chain =
      let head : next from - 1 ≡ first = omega (arith, chain.0) in
      rw (head, chain.0) (ap (λ xs. first ∷ xs) (walk_chain (first + 1) rest to chain.2))

  previous_end_on : (from : ℕ) (keys : List ℕ) (to : ℕ) → IsChain next previous from keys to → IsOn from keys (previous to)
  previous_end_on from [] to chain = inl chain.1
  previous_end_on from (first ∷ rest) to chain =
      is_on_cons from first rest _ (previous_end_on (first + 1) rest to chain.2)

  next_start_on : (from : ℕ) (keys : List ℕ) (to : ℕ) → IsChain next previous from keys to → IsOn to keys (next from)
  next_start_on from [] to chain = inl chain.0
  next_start_on from (first ∷ rest) to chain = inr (first, inl refl, chain.0)

  previous_on :
      (from : ℕ) (keys : List ℕ) (to key : ℕ)
      → IsChain next previous from keys to → IsIn key keys → IsOn from keys (previous (key + 1))
  previous_on from [] to key chain found = absurd found
  previous_on from (first ∷ rest) to key chain found =
      elim found [
        | inl here ↦ inl (ap (λ k. previous (k + 1)) (sym here) ∙ chain.1)
        | inr there ↦ is_on_cons from first rest _ (previous_on (first + 1) rest to key chain.2 there)
      ]

  next_on : (from : ℕ) (keys : List ℕ) (to key : ℕ) → IsChain next previous from keys to → IsIn key keys → IsOn to keys (next (key + 1))
  next_on from [] to key chain found = absurd found
  next_on from (first ∷ rest) to key chain found =
      is_on_more to first rest _
      (elim found [
        | inl here ↦ subst (λ k. IsOn to rest (next (k + 1))) here (next_start_on (first + 1) rest to chain.2)
        | inr there ↦ next_on (first + 1) rest to key chain.2 there
      ])

module _ (next previous next' previous' : ℕ → ℕ) where
  -- a chain stays where the links stay on it
  is_chain_kept :
      (from : ℕ) (keys : List ℕ) (to : ℕ)
      → IsChain next previous from keys to → ((at : ℕ) → IsOn from keys at → next' at ≡ next at)
      → ((at : ℕ) → IsOn to keys at → previous' at ≡ previous at) → IsChain next' previous' from keys to
  is_chain_kept from [] to chain nexts previouses = (nexts from (inl refl) ∙ chain.0, previouses to (inl refl) ∙ chain.1)
  is_chain_kept from (first ∷ rest) to chain nexts previouses = (
    nexts from (inl refl) ∙ chain.0,
    previouses (first + 1) (inr (first, inl refl, refl)) ∙ chain.1,
    is_chain_kept (first + 1) rest to chain.2
        (λ at on. nexts at (is_on_cons from first rest at on))
        (λ at on. previouses at (is_on_more to first rest at on)),
  )

  -- the first key leaves, and the start is joined to what followed it
  skip_first :
      (from first : ℕ) (rest : List ℕ) (to : ℕ)
      → IsChain next previous (first + 1) rest to → IsApart rest → IsOff rest from → IsOff rest to
      → Joins next next' from (next (first + 1)) → Joins previous previous' (next (first + 1)) from
      → IsChain next' previous' from rest to
  skip_first from first [] to chain apart from_off to_off nexts previouses =
      (nexts.here ∙ chain.0, ap previous' (sym chain.0) ∙ previouses.here)
  skip_first from first (second ∷ rest) to chain apart from_off to_off nexts previouses = (
    nexts.here ∙ chain.0,
    ap previous' (sym chain.0) ∙ previouses.here,
    is_chain_kept (second + 1) rest to chain.2
        (λ at on. nexts.others at (λ same.
        off_not_on (second + 1) rest from at (from_off second (inl refl)) (λ k there. from_off k (inr there)) on (sym same)))
        (λ at on. previouses.others at (λ same.
        off_not_on to rest (second + 1) at (λ end. to_off second (inl refl) (sym end)) (is_off_head second rest apart.0) on (sym (same
        ∙ chain.0)))),
  )

  -- a key leaves, and its neighbours are joined
  chain_skip :
      (from : ℕ) (keys : List ℕ) (to key : ℕ)
      → IsChain next previous from keys to → IsApart keys → IsOff keys from → IsOff keys to → IsIn key keys
      → Joins next next' (previous (key + 1)) (next (key + 1)) → Joins previous previous' (next (key + 1)) (previous (key + 1))
      → IsChain next' previous' from (without key keys) to
  chain_skip from [] to key chain apart from_off to_off found nexts previouses = absurd found
  chain_skip from (first ∷ rest) to key chain apart from_off to_off found nexts previouses =
      elim (cases_eq first key) [
        | inl same ↦
            subst (λ ks. IsChain next' previous' from ks to) (sym (without_yes key first rest same))
            (skip_first from first rest to chain.2 apart.1 (λ k there. from_off k (inr there)) (λ k there. to_off k (inr there))
            (rw (← same, chain.1) at nexts) (rw (← same, chain.1) at previouses))
        | inr differs ↦
            let there : IsIn key rest = elim found [ inl here ↦ absurd (differs here) | inr later ↦ later ] in
            let first_off = is_off_head first rest apart.0 in
            subst (λ ks. IsChain next' previous' from ks to) (sym (without_no key first rest differs)) (
              nexts.others from (off_not_on (first + 1) rest from _ (from_off first (inl refl)) (λ k later. from_off k (inr later))
                  (previous_on next previous (first + 1) rest to key chain.2 there)) ∙ chain.0,
              previouses.others (first + 1) (off_not_on to rest (first + 1) _ (λ end. to_off first (inl refl) (sym end)) first_off
                  (next_on next previous (first + 1) rest to key chain.2 there)) ∙ chain.1,
              chain_skip (first + 1) rest to key chain.2 apart.1 first_off (λ k later. to_off k (inr later)) there nexts previouses,
            )
      ]

module _ (old new : List Link) where
  -- a key joins at the end
  chain_push :
      (from : ℕ) (keys : List ℕ) (key : ℕ)
      → IsChain (next_of old) (previous_of old) from keys 0 → IsApart keys → IsOff keys from → ¬ IsIn key keys → from ≢ key + 1
      → Inserts old new (key + 1) → IsChain (next_of new) (previous_of new) from (keys ++ key ∷ []) 0
  chain_push from [] key chain apart from_off absent other inserts =
      (ap (next_of new) (sym chain.1) ∙ inserts.into, inserts.back_out ∙ chain.1, (inserts.out, inserts.back_into))
  chain_push from (first ∷ rest) key chain apart from_off absent other inserts =
      let new_place : first + 1 ≢ key + 1 = λ same. absent (inl (omega arith)) in (
        inserts.nexts from (off_not_on (first + 1) rest from _ (from_off first (inl refl)) (λ k later. from_off k (inr later))
            (previous_end_on (next_of old) (previous_of old) (first + 1) rest 0 chain.2)) other ∙ chain.0,
        inserts.previouses (first + 1) (λ end. omega arith) new_place ∙ chain.1,
        chain_push (first + 1) rest key chain.2 apart.1 (is_off_head first rest apart.0) (λ later. absent (inr later)) new_place inserts,
      )

-- ---- rings

-- so many links lead through the keys of a ring
pub keys_of_ring : (links : List Link) (keys : List ℕ) (len : ℕ) → IsRing links keys → len ≡ length keys → keys_of links len ≡ keys
keys_of_ring links keys len ring count =
    ap (keys_of links) count ∙ walk_chain (next_of links) (previous_of links) 0 keys 0 ring.chained

on_within : (links : List Link) (keys : List ℕ) (at : ℕ) → IsRing links keys → 0 < length links → IsOn 0 keys at → at < length links
on_within links keys at ring some on = elim on [ inl here ↦ omega arith | inr found ↦ omega (arith, found.2, ring.within found.0 found.1) ]

pub last_within : (links : List Link) (keys : List ℕ) → IsRing links keys → 0 < length links → previous_of links 0 < length links
last_within links keys ring some = on_within links keys _ ring some (previous_end_on _ _ 0 keys 0 ring.chained)

pub before_within :
    (links : List Link) (keys : List ℕ) (key : ℕ)
    → IsRing links keys → IsIn key keys → previous_of links (key + 1) < length links
before_within links keys key ring found = on_within links keys _ ring (omega (
  arith,
  ring.within key found,
)) (previous_on _ _ 0 keys 0 key ring.chained found)

pub after_within :
    (links : List Link) (keys : List ℕ) (key : ℕ)
    → IsRing links keys → IsIn key keys → next_of links (key + 1) < length links
after_within links keys key ring found = on_within links keys _ ring (omega (
  arith,
  ring.within key found,
)) (next_on _ _ 0 keys 0 key ring.chained found)

-- a key that isn't there isn't last
pub new_not_last : (links : List Link) (keys : List ℕ) (key : ℕ) → IsRing links keys → ¬ IsIn key keys → key + 1 ≢ previous_of links 0
new_not_last links keys key ring absent same =
    elim (previous_end_on _ _ 0 keys 0 ring.chained) [
      | inl here ↦ omega (arith, same ∙ here)
      | inr found ↦ let k : key ≡ found.0 = omega (arith, same ∙ found.2) in absent (subst (λ n. IsIn n keys) (sym k) found.1)
    ]

pub ring_push :
    (old new : List Link) (keys : List ℕ) (key : ℕ)
    → IsRing old keys → ¬ IsIn key keys → key + 1 < length old → length new ≡ length old → Inserts old new (key + 1)
    → IsRing new (keys ++ key ∷ [])
ring_push old new keys key ring absent room len inserts = record {
  chained = chain_push old new 0 keys key ring.chained ring.apart (start_off keys) absent (λ same. omega arith) inserts;
  apart = is_apart_push key keys ring.apart absent;
  within = λ k found. elim (is_in_push key k keys found) [ inl was ↦ omega (arith, ring.within k was) | inr here ↦ omega arith ];
}

pub ring_skip :
    (old new : List Link) (keys : List ℕ) (key : ℕ)
    → IsRing old keys → IsIn key keys → length new ≡ length old → Skips old new (key + 1) → IsRing new (without key keys)
ring_skip old new keys key ring found len skips = record {
  chained = chain_skip _ _ _ _ 0 keys 0 key ring.chained ring.apart (start_off keys) (start_off keys) found skips.next skips.previous;
  apart = is_apart_without key keys ring.apart;
  within = λ k there. omega (arith, ring.within k (is_in_without key k keys there));
}

-- more links change no ring
pub ring_grown :
    (old new : List Link) (keys : List ℕ)
    → IsRing old keys → length old ≤ length new → ((at : ℕ) → next_of new at ≡ next_of old at)
    → ((at : ℕ) → previous_of new at ≡ previous_of old at) → IsRing new keys
ring_grown old new keys ring more nexts previouses = record {
  chained = is_chain_kept _ _ _ _ 0 keys 0 ring.chained (λ at on. nexts at) (λ at on. previouses at);
  apart = ring.apart;
  within = λ k found. omega (arith, ring.within k found);
}

-- the first key is the one to which place 0 leads
pub first_is_next :
    (links : List Link) (keys : List ℕ)
    → IsRing links keys → 0 < length keys → (1 ≤ next_of links 0) × (Some (next_of links 0 - 1) ≡ slice_get keys 0)
first_is_next links [] ring some = absurd (omega arith)
first_is_next links (first ∷ rest) ring some = (omega (arith, ring.chained.0), ap Some (omega (arith, ring.chained.0)))

-- keys that are apart and each below a number are no more than that
pub is_in_or_not : (key : ℕ) (keys : List ℕ) → IsIn key keys ⊎ ¬ IsIn key keys
is_in_or_not key [] = inr (λ found. found)
is_in_or_not key (first ∷ rest) =
    elim (cases_eq first key) [
      | inl same ↦ inl (inl same)
      | inr differs ↦
          elim (is_in_or_not key rest) [
            | inl there ↦ inl (inr there)
            | inr absent ↦ inr (λ found. elim found [ inl here ↦ differs here | inr there ↦ absent there ])
          ]
    ]

few : (n : ℕ) (keys : List ℕ) → IsApart keys → AllBelow (n + 1) keys → length keys ≤ n
few n [] apart below = omega arith
few zero (first ∷ rest) apart below = absurd (omega (arith, below first (inl refl)))
few (suc n) (first ∷ rest) apart below =
    elim (is_in_or_not n (first ∷ rest)) [
      | inl found ↦
          let less = few n (without n (first ∷ rest)) (is_apart_without n (first ∷ rest) apart) (λ k there.
          let differs : k ≢ n = λ same. left n (first ∷ rest) apart (subst (λ j. IsIn j (without n (first ∷ rest))) same there) in
          omega (arith, below k (is_in_without n k (first ∷ rest) there), differs)) in
          omega (arith, less, length-without n (first ∷ rest) found)
      | inr absent ↦
          let less = few n (first ∷ rest) apart (λ k there.
          let differs : k ≢ n = λ same. absent (subst (λ j. IsIn j (first ∷ rest)) same there) in
          omega (arith, below k there, differs)) in
          omega (arith, less)
    ]

pub no_more : (links : List Link) (keys : List ℕ) → IsRing links keys → length keys ≤ length links
no_more links keys ring = few (length links) keys ring.apart (λ k found. omega (arith, ring.within k found))

-- links of nothing at the end change no read
pub padded_link : (links : List Link) (k : ℕ) → get_or (links ++ no_link ∷ []) k no_link ≡ get_or links k no_link
padded_link [] zero = refl
padded_link [] (suc zero) = refl
padded_link [] (suc (suc k)) = refl
padded_link (link ∷ links) zero = refl
padded_link (link ∷ links) (suc k) = padded_link links k
