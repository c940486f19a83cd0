-- How the entries of a table follow its slab and the order of its keys.
use Rattle.std.proofs.Common.{◌≡◌, ◌≢◌, ℕ, ◌+◌, ◌≤◌, ◌&&◌, leb, Bool, true, false, eqb, Result, Ok, Err, IsOk, is_err, is_some, List, []}
use Rattle.std.proofs.Common.{◌∷◌, ◌++◌, length, map, slice_get, Option, Some, None, IsSome, refl, sym, ap, ◌∙◌, subst, inl, inr, arith}
use Rattle.std.proofs.lemmas.Bool.{cases_eq, false≢true, leb-true, le-leb}
use Rattle.std.specs.Cmp.Derive.{both_true}
use Rattle.std.proofs.lemmas.Bool.Decides.{nat_tests}
use Rattle.std.proofs.lemmas.List.{length_push}
use Rattle.slab.specs.Slab.{Slab, get, slab_len, with_value, Updates}
use Rattle.slab.proofs.SlabLemmas.{Updates-with_value}
use Rattle.executor_parts.specs.Order.{without}
use Rattle.executor_parts.specs.declared.places.Held.{Held}
use Rattle.executor_parts.specs.declared.places.EntryPlace.{EntryPlace}
use Rattle.executor_parts.specs.Order.{IsIn, IsApart}
use Rattle.executor_parts.specs.Places.{Entry, entry_at, without_entry, with_future, stamped, entry_in, where_there, left_by, set_future}
use Rattle.executor_parts.specs.Places.{parts_of, shown, entries_of, IsPlaced}
use Rattle.executor_parts.proofs.Cells.{without_no, without_yes}
use Rattle.executor_parts.proofs.Ring.{is_in_push, is_in_push_kept, is_in_last, is_in_without, is_in_kept, is_apart_push}
use Rattle.executor_parts.proofs.Ring.{is_apart_without, left, length-without}

module _ {F W : Type 0} where
  -- what is held under a key, as an entry
  abbrev pub entry_of : ℕ → Held F W → Entry F W
  entry_of key h = record { key = key; stamp = h.stamp; future = h.future; waker = h.waker }

  entry_at_past :
      (key k : ℕ) (slot : Option (Held F W)) (rest : List (Entry F W))
      → k ≢ key → entry_at key (shown k slot rest) ≡ entry_at key rest
  entry_at_past key k None rest differs = refl
  entry_at_past key k (Some h) rest differs = let e : eqb key k ≡ false = grind (arith, nat_tests) in rw (e, entry_at)

  entry_at_here :
      (key k : ℕ) (h : Held F W) (rest : List (Entry F W))
      → k ≡ key → entry_at key (shown k (Some h) rest) ≡ Some (entry_of k h)
  entry_at_here key k h rest same = let e : eqb key k ≡ true = grind (arith, nat_tests) in rw (e, entry_at)

  without_past :
      (key k : ℕ) (slot : Option (Held F W)) (rest : List (Entry F W))
      → k ≢ key → without_entry key (shown k slot rest) ≡ shown k slot (without_entry key rest)
  without_past key k None rest differs = refl
  without_past key k (Some h) rest differs = let e : eqb key k ≡ false = grind (arith, nat_tests) in rw (e, without_entry)

  without_here : (key k : ℕ) (h : Held F W) (rest : List (Entry F W)) → k ≡ key → without_entry key (shown k (Some h) rest) ≡ rest
  without_here key k h rest same = let e : eqb key k ≡ true = grind (arith, nat_tests) in rw (e, without_entry)

  with_past :
      (key k : ℕ) (future : Option F) (slot : Option (Held F W)) (rest : List (Entry F W))
      → k ≢ key → with_future key future (shown k slot rest) ≡ shown k slot (with_future key future rest)
  with_past key k future None rest differs = refl
  with_past key k future (Some h) rest differs = let e : eqb key k ≡ false = grind (arith, nat_tests) in rw (e, with_future)

  with_here :
      (key k : ℕ) (future : Option F) (h : Held F W) (rest : List (Entry F W))
      → k ≡ key → with_future key future (shown k (Some h) rest) ≡ record (entry_of k h) { future = future } ∷ rest
  with_here key k future h rest same = let e : eqb key k ≡ true = grind (arith, nat_tests) in rw (e, with_future)

  -- ---- reads

  absent_at : (slab : Slab (Held F W)) (key : ℕ) (keys : List ℕ) → ¬ IsIn key keys → entry_at key (entries_of slab keys) ≡ None
  absent_at slab key [] absent = refl
  absent_at slab key (k ∷ ks) absent =
      entry_at_past key k (get slab k) (entries_of slab ks) (λ same. absent (inl same))
      ∙ absent_at slab key ks (λ there. absent (inr there))

  found_at :
      (slab : Slab (Held F W)) (key : ℕ) (h : Held F W) (keys : List ℕ)
      → get slab key ≡ Some h → IsIn key keys → entry_at key (entries_of slab keys) ≡ Some (entry_of key h)
  found_at slab key h [] read found = absurd found
  found_at slab key h (k ∷ ks) read found =
      elim (cases_eq k key) [
        | inl same ↦
            let here : get slab k ≡ Some h = ap (get slab) same ∙ read in
            ap (λ (slot : Option (Held F W)). entry_at key (shown k slot (entries_of slab ks))) here
            ∙ entry_at_here key k h (entries_of slab ks) same
            ∙ ap (λ n. Some (entry_of n h)) same
        | inr differs ↦
            let there : IsIn key ks = elim found [ inl here ↦ absurd (differs here) | inr later ↦ later ] in
            entry_at_past key k (get slab k) (entries_of slab ks) differs ∙ found_at slab key h ks read there
      ]

  pub vacant_at : (slab : Slab (Held F W)) (keys : List ℕ) (key : ℕ) → IsPlaced slab keys → get slab key ≡ None → ¬ IsIn key keys
  vacant_at slab keys key placed vacant found = absurd (false≢true (subst IsSome vacant (placed.there key found)))

  pub reads_none :
      (slab : Slab (Held F W)) (keys : List ℕ) (key : ℕ)
      → IsPlaced slab keys → get slab key ≡ None → entry_at key (entries_of slab keys) ≡ None
  reads_none slab keys key placed vacant = absent_at slab key keys (vacant_at slab keys key placed vacant)

  pub is_there :
      (slab : Slab (Held F W)) (keys : List ℕ) (key : ℕ) (h : Held F W)
      → IsPlaced slab keys → get slab key ≡ Some h → IsIn key keys
  is_there slab keys key h placed read = placed.known key (subst IsSome (sym read) refl)

  pub reads_some :
      (slab : Slab (Held F W)) (keys : List ℕ) (key : ℕ) (h : Held F W)
      → IsPlaced slab keys → get slab key ≡ Some h → entry_at key (entries_of slab keys) ≡ Some (entry_of key h)
  reads_some slab keys key h placed read = found_at slab key h keys read (is_there slab keys key h placed read)

  -- ---- changes

  same_entries :
      (old new : Slab (Held F W)) (keys : List ℕ)
      → ((k : ℕ) → IsIn k keys → get new k ≡ get old k) → entries_of new keys ≡ entries_of old keys
  same_entries old new [] same = refl
  same_entries old new (k ∷ ks) same =
      ap (λ (slot : Option (Held F W)). shown k slot (entries_of new ks)) (same k (inl refl))
      ∙ ap (shown k (get old k)) (same_entries old new ks (λ j there. same j (inr there)))

  shown_append : (k : ℕ) (slot : Option (Held F W)) (xs ys : List (Entry F W)) → shown k slot (xs ++ ys) ≡ shown k slot xs ++ ys
  shown_append k None xs ys = refl
  shown_append k (Some h) xs ys = refl

  push_entries :
      (slab : Slab (Held F W)) (keys : List ℕ) (key : ℕ)
      → entries_of slab (keys ++ key ∷ []) ≡ entries_of slab keys ++ shown key (get slab key) []
  push_entries slab [] key = refl
  push_entries slab (k ∷ ks) key =
      ap (shown k (get slab k)) (push_entries slab ks key)
      ∙ shown_append k (get slab k) (entries_of slab ks) (shown key (get slab key) [])

  pub entered :
      (old new : Slab (Held F W)) (keys : List ℕ) (key : ℕ) (h : Held F W)
      → ¬ IsIn key keys → Updates old new key (Some h)
      → entries_of new (keys ++ key ∷ []) ≡ entries_of old keys ++ entry_of key h ∷ []
  entered old new keys key h absent updates =
      push_entries new keys key
      ∙ ap (λ (slot : Option (Held F W)). entries_of new keys ++ shown key slot []) updates.changed
      ∙ ap (λ (es : List (Entry F W)). es ++ entry_of key h ∷ [])
      (same_entries old new keys (λ k there. updates.others k (λ same. absent (subst (λ n. IsIn n keys) same there))))

  others_same :
      (old new : Slab (Held F W)) (keys : List ℕ) (key k : ℕ) (slot : Option (Held F W))
      → Updates old new key slot → k ≡ key → ¬ IsIn k keys → entries_of new keys ≡ entries_of old keys
  others_same old new keys key k slot updates same absent =
      same_entries old new keys (λ j there. updates.others j (λ e. absent (subst (λ n. IsIn n keys) (e ∙ sym same) there)))

  pub went :
      (old new : Slab (Held F W)) (keys : List ℕ) (key : ℕ) (h : Held F W)
      → IsApart keys → IsIn key keys → get old key ≡ Some h → Updates old new key None
      → entries_of new (without key keys) ≡ without_entry key (entries_of old keys)
  went old new [] key h apart found read updates = absurd found
  went old new (k ∷ ks) key h apart found read updates =
      elim (cases_eq k key) [
        | inl same ↦
            let here : get old k ≡ Some h = ap (get old) same ∙ read in
            ap (entries_of new) (without_yes key k ks same)
            ∙ others_same old new ks key k None updates same apart.0
            ∙ sym (without_here key k h (entries_of old ks) same)
            ∙ ap (λ (slot : Option (Held F W)). without_entry key (shown k slot (entries_of old ks))) (sym here)
        | inr differs ↦
            let there : IsIn key ks = elim found [ inl here ↦ absurd (differs here) | inr later ↦ later ] in
            ap (entries_of new) (without_no key k ks differs)
            ∙ ap (λ (slot : Option (Held F W)). shown k slot (entries_of new (without key ks))) (updates.others k differs)
            ∙ ap (shown k (get old k)) (went old new ks key h apart.1 there read updates)
            ∙ sym (without_past key k (get old k) (entries_of old ks) differs)
      ]

  pub absent_without :
      (slab : Slab (Held F W)) (key : ℕ) (keys : List ℕ)
      → ¬ IsIn key keys → entries_of slab keys ≡ without_entry key (entries_of slab keys)
  absent_without slab key [] absent = refl
  absent_without slab key (k ∷ ks) absent =
      ap (shown k (get slab k)) (absent_without slab key ks (λ there. absent (inr there)))
      ∙ sym (without_past key k (get slab k) (entries_of slab ks) (λ same. absent (inl same)))

  pub written :
      (old new : Slab (Held F W)) (keys : List ℕ) (key : ℕ) (h : Held F W) (future : Option F)
      → IsApart keys → IsIn key keys → get old key ≡ Some h → Updates old new key (Some (record h { future = future }))
      → entries_of new keys ≡ with_future key future (entries_of old keys)
  written old new [] key h future apart found read updates = absurd found
  written old new (k ∷ ks) key h future apart found read updates =
      elim (cases_eq k key) [
        | inl same ↦
            let here : get old k ≡ Some h = ap (get old) same ∙ read in
            let now : get new k ≡ Some (record h { future = future }) = ap (get new) same ∙ updates.changed in
            ap (λ (slot : Option (Held F W)). shown k slot (entries_of new ks)) now
            ∙ ap (λ (es : List (Entry F W)). record (entry_of k h) {
              future =
                  future;
            } ∷ es) (others_same old new ks key k (Some (record h { future = future })) updates same apart.0)
            ∙ sym (with_here key k future h (entries_of old ks) same)
            ∙ ap (λ (slot : Option (Held F W)). with_future key future (shown k slot (entries_of old ks))) (sym here)
        | inr differs ↦
            let there : IsIn key ks = elim found [ inl here ↦ absurd (differs here) | inr later ↦ later ] in
            ap (λ (slot : Option (Held F W)). shown k slot (entries_of new ks)) (updates.others k differs)
            ∙ ap (shown k (get old k)) (written old new ks key h future apart.1 there read updates)
            ∙ sym (with_past key k future (get old k) (entries_of old ks) differs)
      ]

  pub absent_written :
      (slab : Slab (Held F W)) (key : ℕ) (future : Option F) (keys : List ℕ)
      → ¬ IsIn key keys → entries_of slab keys ≡ with_future key future (entries_of slab keys)
  absent_written slab key future [] absent = refl
  absent_written slab key future (k ∷ ks) absent =
      ap (shown k (get slab k)) (absent_written slab key future ks (λ there. absent (inr there)))
      ∙ sym (with_past key k future (get slab k) (entries_of slab ks) (λ same. absent (inl same)))

  -- ---- the invariant

  some_at : (slab : Slab (Held F W)) (key : ℕ) (h : Held F W) → get slab key ≡ Some h → IsSome (get slab key)
  some_at slab key h read = subst IsSome (sym read) refl

  pub placed_entered :
      (old new : Slab (Held F W)) (keys : List ℕ) (key : ℕ) (h : Held F W)
      → IsPlaced old keys → ¬ IsIn key keys → Updates old new key (Some h) → slab_len new ≡ slab_len old + 1
      → IsPlaced new (keys ++ key ∷ [])
  placed_entered old new keys key h placed absent updates len = record {
    counted = omega (arith, len, placed.counted, length_push keys key);
    apart = is_apart_push key keys placed.apart absent;
    known = λ k some.
        elim (cases_eq k key) [
          | inl same ↦ subst (λ n. IsIn n (keys ++ key ∷ [])) (sym same) (is_in_last key keys)
          | inr differs ↦ is_in_push_kept key k keys (placed.known k (subst IsSome (updates.others k differs) some))
        ];
    there = λ k found.
        elim (cases_eq k key) [
          | inl same ↦ some_at new k h (ap (get new) same ∙ updates.changed)
          | inr differs ↦
              elim (is_in_push key k keys found) [
                | inl was ↦ subst IsSome (sym (updates.others k differs)) (placed.there k was)
                | inr here ↦ absurd (differs (sym here))
              ]
        ];
  }

  pub placed_left :
      (old new : Slab (Held F W)) (keys : List ℕ) (key : ℕ)
      → IsPlaced old keys → IsIn key keys → Updates old new key None → slab_len new + 1 ≡ slab_len old
      → IsPlaced new (without key keys)
  placed_left old new keys key placed found updates len = record {
    counted = omega (arith, len, placed.counted, length-without key keys found);
    apart = is_apart_without key keys placed.apart;
    known = λ k some.
        elim (cases_eq k key) [
          | inl same ↦ absurd (false≢true (subst IsSome (ap (get new) same ∙ updates.changed) some))
          | inr differs ↦ is_in_kept key k keys (placed.known k (subst IsSome (updates.others k differs) some)) differs
        ];
    there = λ k now.
        let differs : k ≢ key = λ same. left key keys placed.apart (subst (λ n. IsIn n (without key keys)) same now) in
        subst IsSome (sym (updates.others k differs)) (placed.there k (is_in_without key k keys now));
  }

  pub placed_written :
      (old new : Slab (Held F W)) (keys : List ℕ) (key : ℕ) (h now : Held F W)
      → IsPlaced old keys → get old key ≡ Some h → Updates old new key (Some now) → slab_len new ≡ slab_len old → IsPlaced new keys
  placed_written old new keys key h now placed read updates len = record {
    counted = len ∙ placed.counted;
    apart = placed.apart;
    known = λ k some.
        elim (cases_eq k key) [
          | inl same ↦ placed.known k (some_at old k h (ap (get old) same ∙ read))
          | inr differs ↦ placed.known k (subst IsSome (updates.others k differs) some)
        ];
    there = λ k found.
        elim (cases_eq k key) [
          | inl same ↦ some_at new k now (ap (get new) same ∙ updates.changed)
          | inr differs ↦ subst IsSome (sym (updates.others k differs)) (placed.there k found)
        ];
  }

  shown_more : (k : ℕ) (slot : Option (Held F W)) (rest : List (Entry F W)) → IsSome slot → length (shown k slot rest) ≡ length rest + 1
  shown_more k None rest some = absurd (cc)
  shown_more k (Some h) rest some = omega arith

  length_under :
      (slab : Slab (Held F W)) (keys : List ℕ)
      → ((k : ℕ) → IsIn k keys → IsSome (get slab k)) → length (entries_of slab keys) ≡ length keys
  length_under slab [] there = refl
  length_under slab (k ∷ ks) there =
      omega (
        arith,
        shown_more k (get slab k) (entries_of slab ks) (there k (inl refl)),
        length_under slab ks (λ j later. there j (inr later)),
      )

  -- there is an entry for each key
  pub length-entries : (slab : Slab (Held F W)) (keys : List ℕ) → IsPlaced slab keys → length (entries_of slab keys) ≡ slab_len slab
  length-entries slab keys placed = length_under slab keys placed.there ∙ sym placed.counted

  keys_shown :
      (k : ℕ) (slot : Option (Held F W)) (rest : List (Entry F W))
      → IsSome slot → map (λ (e : Entry F W). e.key) (shown k slot rest) ≡ k ∷ map (λ (e : Entry F W). e.key) rest
  keys_shown k None rest some = absurd (cc)
  keys_shown k (Some h) rest some = refl

  keys_under :
      (slab : Slab (Held F W)) (keys : List ℕ)
      → ((k : ℕ) → IsIn k keys → IsSome (get slab k)) → map (λ (e : Entry F W). e.key) (entries_of slab keys) ≡ keys
  keys_under slab [] there = refl
  keys_under slab (k ∷ ks) there =
      keys_shown k (get slab k) (entries_of slab ks) (there k (inl refl))
      ∙ ap (λ (xs : List ℕ). k ∷ xs) (keys_under slab ks (λ j later. there j (inr later)))

  -- no key has two entries
  pub apart_entries :
      (slab : Slab (Held F W)) (keys : List ℕ)
      → IsPlaced slab keys → IsApart (map (λ (e : Entry F W). e.key) (entries_of slab keys))
  apart_entries slab keys placed = subst IsApart (sym (keys_under slab keys placed.there)) placed.apart

  -- the first key has the first entry
  pub first_under :
      (slab : Slab (Held F W)) (keys : List ℕ) (key : ℕ)
      → IsPlaced slab keys → Some key ≡ slice_get keys 0
      → (h : Held F W) × (get slab key ≡ Some h) × (entries_of slab keys ≡ entry_of key h ∷ without_entry key (entries_of slab keys))
  first_under slab [] key placed first = absurd (cc)
  first_under slab (k ∷ ks) key placed first = of (get slab k) refl
    where
      same : k ≡ key
      same = cc

      of : (slot : Option (Held F W)) → get slab k ≡ slot → (h : Held F W) × (get slab key ≡ Some h)
          × (entries_of slab (k ∷ ks) ≡ entry_of key h ∷ without_entry key (entries_of slab (k ∷ ks)))
      of None read = absurd (vacant_at slab (k ∷ ks) k placed read (inl refl))
      of (Some h) read = (
        h,
        ap (get slab) (sym same) ∙ read,
        rw (read, same) (ap (λ (es : List (Entry F W)). entry_of key h ∷ es) (sym (without_here key key h (entries_of slab ks) refl))),
      )

  pub none_under : (slab : Slab (Held F W)) (keys : List ℕ) → None ≡ slice_get keys 0 → entries_of slab keys ≡ []
  none_under slab [] none = refl
  none_under slab (k ∷ ks) none = absurd (cc)

  -- the first entry went, and its parts were answered
  pub first_left :
      (old new : List (Entry F W)) (key : ℕ) (h : Held F W) (parts : Option F × W)
      → entry_at key old ≡ Some (entry_of key h) → parts_of (entry_at key old) ≡ Some parts
      → old ≡ entry_of key h ∷ without_entry key old → new ≡ without_entry key old
      → (k : ℕ) × (stamp : ℕ) × (old ≡ record { key = k; stamp = stamp; future = parts.0; waker = parts.1 } ∷ new)
  first_left old new key h parts found answered first left =
      let both : Some parts ≡ Some (h.future, h.waker) = sym answered ∙ ap parts_of found in
      let here : parts ≡ (h.future, h.waker) = cc in
      rw (here, left) (key, h.stamp, first)

  -- ---- at a place

  -- nothing is under the key
  pub none_in :
      (p : EntryPlace) (slab : Slab (Held F W)) (keys : List ℕ)
      → IsPlaced slab keys → get slab p.key ≡ None → entry_in p (entries_of slab keys) ≡ None
  none_in p slab keys placed vacant = ap (stamped p.stamp) (reads_none slab keys p.key placed vacant)

  -- what is under the key is of another stamp
  other_by :
      (p : EntryPlace) (slab : Slab (Held F W)) (keys : List ℕ) (h : Held F W)
      → IsPlaced slab keys → get slab p.key ≡ Some h → eqb h.stamp p.stamp ≡ false → entry_in p (entries_of slab keys) ≡ None
  other_by p slab keys h placed read differs =
      let here : stamped p.stamp (Some (entry_of p.key h)) ≡ None = rw (differs, stamped) refl in
      ap (stamped p.stamp) (reads_some slab keys p.key h placed read) ∙ here

  -- it is there
  here_by :
      (p : EntryPlace) (slab : Slab (Held F W)) (keys : List ℕ) (h : Held F W)
      → IsPlaced slab keys → get slab p.key ≡ Some h → eqb h.stamp p.stamp ≡ true
      → entry_in p (entries_of slab keys) ≡ Some (entry_of p.key h)
  here_by p slab keys h placed read same =
      let here : stamped p.stamp (Some (entry_of p.key h)) ≡ Some (entry_of p.key h) = rw (same, stamped) refl in
      ap (stamped p.stamp) (reads_some slab keys p.key h placed read) ∙ here

  pub other_in :
      (p : EntryPlace) (slab : Slab (Held F W)) (keys : List ℕ) (h : Held F W)
      → IsPlaced slab keys → get slab p.key ≡ Some h → h.stamp ≢ p.stamp → entry_in p (entries_of slab keys) ≡ None
  other_in p slab keys h placed read differs = let t : eqb h.stamp p.stamp ≡ false = grind (arith, nat_tests)
      in other_by p slab keys h placed read t

  pub here_in :
      (p : EntryPlace) (slab : Slab (Held F W)) (keys : List ℕ) (h : Held F W)
      → IsPlaced slab keys → get slab p.key ≡ Some h → h.stamp ≡ p.stamp
      → entry_in p (entries_of slab keys) ≡ Some (entry_of p.key h)
  here_in p slab keys h placed read same = let t : eqb h.stamp p.stamp ≡ true = grind (arith, nat_tests)
      in here_by p slab keys h placed read t

  -- whether it is there
  pub is_here :
      (p : EntryPlace) (slab : Slab (Held F W)) (keys : List ℕ) (h : Held F W)
      → IsPlaced slab keys → get slab p.key ≡ Some h → is_some (entry_in p (entries_of slab keys)) ≡ eqb h.stamp p.stamp
  is_here p slab keys h placed read = of (eqb h.stamp p.stamp) refl
    where
      of : (b : Bool) → eqb h.stamp p.stamp ≡ b → is_some (entry_in p (entries_of slab keys)) ≡ b
      of true same = ap is_some (here_by p slab keys h placed read same)
      of false differs = ap is_some (other_by p slab keys h placed read differs)

  -- a change at a place where there is no entry is none
  pub unset : (p : EntryPlace) (future : Option F) (es : List (Entry F W)) → entry_in p es ≡ None → set_future p future es ≡ es
  unset p future es none = ap (λ (o : Option (Entry F W)). where_there o (with_future p.key future es) es) none

  -- a write of what is there already
  pub rewritten :
      (slab : Slab (Held F W)) (keys : List ℕ) (key : ℕ) (h : Held F W)
      → get slab key ≡ Some h → entries_of (with_value slab key h) keys ≡ entries_of slab keys
  rewritten slab keys key h read =
      let updates = Updates-with_value slab key h (subst IsSome (sym read) refl) in
      same_entries slab (with_value slab key h) keys (λ k there.
      elim (cases_eq k key) [
        | inl same ↦ ap (get (with_value slab key h)) same ∙ updates.changed ∙ sym read ∙ ap (get slab) (sym same)
        | inr differs ↦ updates.others k differs
      ])

  -- a write of the future of an entry that is there
  pub set_here :
      (p : EntryPlace) (slab : Slab (Held F W)) (keys : List ℕ) (h : Held F W) (future : Option F)
      → IsPlaced slab keys → get slab p.key ≡ Some h → h.stamp ≡ p.stamp
      → entries_of (with_value slab p.key (record h { future = future })) keys ≡ set_future p future (entries_of slab keys)
  set_here p slab keys h future placed read same =
      written slab (with_value slab p.key (record h {
        future =
            future;
      })) keys p.key h future placed.apart (is_there slab keys p.key h placed read) read
      (Updates-with_value slab p.key (record h { future = future }) (subst IsSome (sym read) refl))
      ∙ sym (ap (λ (o : Option (Entry F W)). where_there o (with_future p.key future (entries_of slab keys)) (entries_of slab keys))
      (here_in p slab keys h placed read same))

  -- a key with an entry is one of the slab
  pub some_under :
      (slab : Slab (Held F W)) (keys : List ℕ) (key : ℕ)
      → IsPlaced slab keys → IsSome (entry_at key (entries_of slab keys)) → IsSome (get slab key)
  some_under slab keys key placed some = of (get slab key) refl
    where
      of : (slot : Option (Held F W)) → get slab key ≡ slot → IsSome (get slab key)
      of None read = absurd (false≢true (subst IsSome (reads_none slab keys key placed read) some))
      of (Some h) read = subst IsSome (sym read) refl

  stamped_same : (stamp : ℕ) (o : Option (Entry F W)) → is_some (stamped stamp o) ≡ true → stamped stamp o ≡ o
  stamped_same stamp None some = refl
  stamped_same stamp (Some e) some = of (eqb e.stamp stamp) refl
    where
      of : (b : Bool) → eqb e.stamp stamp ≡ b → stamped stamp (Some e) ≡ Some e
      of true same = rw (same, stamped) refl
      of false differs =
          let none : stamped stamp (Some e) ≡ None = rw (differs, stamped) refl in
          absurd (false≢true (sym (ap is_some none) ∙ some))

  -- where it is there, it is the one under its key
  pub same_in : (p : EntryPlace) (es : List (Entry F W)) → is_some (entry_in p es) ≡ true → entry_in p es ≡ entry_at p.key es
  same_in p es some = stamped_same p.stamp (entry_at p.key es) some

  pub left_here : (p : EntryPlace) (es : List (Entry F W)) → is_some (entry_in p es) ≡ true → left_by p es ≡ without_entry p.key es
  left_here p es some = of (entry_in p es) some
    where
      of : (o : Option (Entry F W)) → is_some o ≡ true → where_there o (without_entry p.key es) es ≡ without_entry p.key es
      of None some = absurd (false≢true some)
      of (Some e) some = refl

  pub left_none : (p : EntryPlace) (es : List (Entry F W)) → is_some (entry_in p es) ≡ false → left_by p es ≡ es
  left_none p es none = of (entry_in p es) none
    where
      of : (o : Option (Entry F W)) → is_some o ≡ false → where_there o (without_entry p.key es) es ≡ es
      of None none = refl
      of (Some e) none = absurd (false≢true (sym none))

  pub parts_none : (o : Option (Entry F W)) → is_some o ≡ false → None ≡ parts_of o
  parts_none None none = refl
  parts_none (Some e) none = absurd (false≢true (sym none))

-- what succeeds with room was refused without
pub no_room : {A E : Type 0} (room : Bool) (r : Result A E) → (room ≡ true → IsOk r) → is_err r ≡ true → room ≡ false
no_room false r succeeds failed = refl
no_room true (Ok a) succeeds failed = absurd (false≢true failed)
no_room true (Err e) succeeds failed = absurd (false≢true (succeeds refl))

-- ---- room for all

pub both : (b c : Bool) → (b && c) ≡ true → (b ≡ true) × (c ≡ true)
both true true holds = (refl, refl)
both true false holds = absurd (false≢true holds)
both false c holds = absurd (false≢true holds)

pub has_all : (limit capacity room : ℕ) → (leb limit capacity && leb capacity room) ≡ true → (limit ≤ capacity) × (capacity ≤ room)
has_all limit capacity room holds =
    let parts = both (leb limit capacity) (leb capacity room) holds in
    (leb-true limit capacity parts.0, leb-true capacity room parts.1)

pub keeps_all : (limit capacity room : ℕ) → limit ≤ capacity → capacity ≤ room → (leb limit capacity && leb capacity room) ≡ true
keeps_all limit capacity room fits reaches = both_true (le-leb limit capacity fits) (le-leb capacity room reaches)
