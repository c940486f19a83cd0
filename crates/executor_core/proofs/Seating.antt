-- How the entries of the machine's futures follow their numbers.
use Rattle.std.proofs.Common.{◌≡◌, ◌≢◌, ℕ, zero, suc, ◌<◌, ◌≤◌, Bool, true, false, eqb}
use Rattle.std.proofs.Common.{List, [], ◌∷◌, ◌++◌, length, map, get_or, set}
use Rattle.std.proofs.Common.{Option, Some, None, IfSome, IfNone, is_some, refl, sym, ap, ◌∙◌, subst, inl, inr, arith}
use Rattle.std.proofs.lemmas.Bool.{cases_eq, false≢true}
use Rattle.std.proofs.lemmas.Bool.Decides.{nat_tests}
use Rattle.std.proofs.lemmas.Option.{none-some, slice_get_read, slice_get_past}
use Rattle.executor_model.specs.World.{without, among}
use Rattle.executor_parts.specs.declared.places.EntryPlace.{EntryPlace}
use Rattle.executor_parts.specs.Order.{IsIn, IsApart}
use Rattle.executor_parts.specs.Places.{Entry, place_of, entry_at, stamped, entry_in, where_there, waker_of}
use Rattle.executor_parts.specs.Places.{without_entry, with_future, left_by, set_future}
use Rattle.executor_core.specs.declared.table.entries.Seat.{Seat}
use Rattle.executor_core.specs.Entered.{place_by, place_in, AreSeated, futures_of, present_by, present_of}
use Rattle.executor_core.proofs.Cells.{among_no, among_yes, without_no, without_yes, without_none}

module _ {F : Type 0} where
  abbrev keys_of : List (Entry F ℕ) → List ℕ
  keys_of es = map (λ (e : Entry F ℕ). e.key) es

  -- ---- one cell of a list of entries, by its key

  at_here : (k : ℕ) (e : Entry F ℕ) (es : List (Entry F ℕ)) → e.key ≡ k → entry_at k (e ∷ es) ≡ Some e
  at_here k e es same = let t : eqb k e.key ≡ true = grind (arith, nat_tests) in rw (t, entry_at)

  at_past : (k : ℕ) (e : Entry F ℕ) (es : List (Entry F ℕ)) → e.key ≢ k → entry_at k (e ∷ es) ≡ entry_at k es
  at_past k e es differs = let t : eqb k e.key ≡ false = grind (arith, nat_tests) in rw (t, entry_at)

  pub went_here : (k : ℕ) (e : Entry F ℕ) (es : List (Entry F ℕ)) → e.key ≡ k → without_entry k (e ∷ es) ≡ es
  went_here k e es same = let t : eqb k e.key ≡ true = grind (arith, nat_tests) in rw (t, without_entry)

  pub went_past : (k : ℕ) (e : Entry F ℕ) (es : List (Entry F ℕ)) → e.key ≢ k →
      without_entry k (e ∷ es) ≡ e ∷ without_entry k es
  went_past k e es differs = let t : eqb k e.key ≡ false = grind (arith, nat_tests) in rw (t, without_entry)

  with_here :
      (k : ℕ) (future : Option F) (e : Entry F ℕ) (es : List (Entry F ℕ))
      → e.key ≡ k → with_future k future (e ∷ es) ≡ record e { future = future } ∷ es
  with_here k future e es same = let t : eqb k e.key ≡ true = grind (arith, nat_tests) in rw (t, with_future)

  with_past :
      (k : ℕ) (future : Option F) (e : Entry F ℕ) (es : List (Entry F ℕ))
      → e.key ≢ k → with_future k future (e ∷ es) ≡ e ∷ with_future k future es
  with_past k future e es differs = let t : eqb k e.key ≡ false = grind (arith, nat_tests) in rw (t, with_future)

  -- the waker of a first entry that is under this key
  waker_here : (k f : ℕ) (e : Entry F ℕ) (es : List (Entry F ℕ)) → e.key ≡ k → waker_of (entry_at k (e ∷ es)) ≡ Some f →
      e.waker ≡ f
  waker_here k f e es same found =
      let w : Some e.waker ≡ Some f = sym (ap waker_of (at_here k e es same)) ∙ found in
      cc

  -- past an entry that isn't
  waker_past :
      (k f : ℕ) (e : Entry F ℕ) (es : List (Entry F ℕ))
      → e.key ≢ k → waker_of (entry_at k (e ∷ es)) ≡ Some f → waker_of (entry_at k es) ≡ Some f
  waker_past k f e es differs found = sym (ap waker_of (at_past k e es differs)) ∙ found

  none_at : (k : ℕ) (es : List (Entry F ℕ)) → ¬ IsIn k (keys_of es) → entry_at k es ≡ None
  none_at k [] absent = refl
  none_at k (e ∷ es) absent = at_past k e es (λ same. absent (inl same)) ∙ none_at k es (λ there. absent (inr there))

  -- ---- the entry at a place

  is_stamped : (stamp : ℕ) (e : Entry F ℕ) → e.stamp ≡ stamp → stamped stamp (Some e) ≡ Some e
  is_stamped stamp e same = let t : eqb e.stamp stamp ≡ true = grind (arith, nat_tests) in rw (t, stamped) refl

  stamped_found : (stamp f : ℕ) (o : Option (Entry F ℕ)) → waker_of (stamped stamp o) ≡ Some f → waker_of o ≡ Some f
  stamped_found stamp f None found = found
  stamped_found stamp f (Some e) found =
      elim (cases_eq e.stamp stamp) [
        | inl same ↦ sym (ap waker_of (is_stamped stamp e same)) ∙ found
        | inr differs ↦
            let t : eqb e.stamp stamp ≡ false = grind (arith, nat_tests) in
            let none : stamped stamp (Some e) ≡ None = rw (t, stamped) refl in
            absurd (none-some f (sym (ap waker_of none) ∙ found))
      ]

  -- it is the one under its key
  pub key_found : (p : EntryPlace) (f : ℕ) (es : List (Entry F ℕ)) → waker_of (entry_in p es) ≡ Some f →
      waker_of (entry_at p.key es) ≡ Some f
  key_found p f es found = stamped_found p.stamp f (entry_at p.key es) found

  -- a change at its place is one under its key
  pub set_found :
      (p : EntryPlace) (f : ℕ) (future : Option F) (es : List (Entry F ℕ))
      → waker_of (entry_in p es) ≡ Some f → set_future p future es ≡ with_future p.key future es
  set_found p f future es found = of (entry_in p es) found
    where
      of : (o : Option (Entry F ℕ)) → waker_of o ≡ Some f →
          where_there o (with_future p.key future es) es ≡ with_future p.key future es
      of None found = absurd (none-some f found)
      of (Some e) found = refl

  pub left_found :
      (p : EntryPlace) (f : ℕ) (es : List (Entry F ℕ))
      → waker_of (entry_in p es) ≡ Some f → left_by p es ≡ without_entry p.key es
  left_found p f es found = of (entry_in p es) found
    where
      of : (o : Option (Entry F ℕ)) → waker_of o ≡ Some f →
          where_there o (without_entry p.key es) es ≡ without_entry p.key es
      of None found = absurd (none-some f found)
      of (Some e) found = refl

  -- ---- the seats

  -- other seats with the same places, and maybe more of them
  seated_kept :
      (old new : List Seat) (es : List (Entry F ℕ))
      → ((n : ℕ) (p : EntryPlace) → place_in old n ≡ Some p → place_in new n ≡ Some p)
      → AreSeated old es → AreSeated new es
  seated_kept old new [] same seated = tt
  seated_kept old new (e ∷ es) same seated = (same e.waker (place_of e) seated.0, seated_kept old new es same seated.1)

  pub seated_push :
      (seats : List Seat) (es : List (Entry F ℕ)) (e : Entry F ℕ)
      → place_in seats e.waker ≡ Some (place_of e) → AreSeated seats es → AreSeated seats (es ++ e ∷ [])
  seated_push seats [] e here seated = (here, tt)
  seated_push seats (x ∷ es) e here seated = (seated.0, seated_push seats es e here seated.1)

  pub seated_without : (seats : List Seat) (k : ℕ) (es : List (Entry F ℕ)) → AreSeated seats es →
      AreSeated seats (without_entry k es)
  seated_without seats k [] seated = tt
  seated_without seats k (e ∷ es) seated =
      elim (cases_eq e.key k) [
        | inl same ↦ subst (AreSeated seats) (sym (went_here k e es same)) seated.1
        | inr differs ↦ subst (AreSeated seats) (sym (went_past k e es differs))
            (seated.0, seated_without seats k es seated.1)
      ]

  pub seated_with :
      (seats : List Seat) (k : ℕ) (future : Option F) (es : List (Entry F ℕ))
      → AreSeated seats es → AreSeated seats (with_future k future es)
  seated_with seats k future [] seated = tt
  seated_with seats k future (e ∷ es) seated =
      elim (cases_eq e.key k) [
        | inl same ↦ subst (AreSeated seats) (sym (with_here k future e es same)) (seated.0, seated.1)
        | inr differs ↦ subst (AreSeated seats) (sym (with_past k future e es differs))
            (seated.0, seated_with seats k future es seated.1)
      ]

  -- the entry of this future is where its seat says
  is_seated :
      (seats : List Seat) (e : Entry F ℕ) (f : ℕ) (p : EntryPlace)
      → place_in seats e.waker ≡ Some (place_of e) → place_in seats f ≡ Some p → e.waker ≡ f → place_of e ≡ p
  is_seated seats e f p seated here same =
      let both : Some (place_of e) ≡ Some p = sym seated ∙ ap (place_in seats) same ∙ here in
      cc

  -- an entry under another key is of another future
  other_future :
      (seats : List Seat) (e : Entry F ℕ) (f : ℕ) (p : EntryPlace)
      → place_in seats e.waker ≡ Some (place_of e) → place_in seats f ≡ Some p → e.key ≢ p.key → e.waker ≢ f
  other_future seats e f p seated here differs same =
      differs (ap (λ (q : EntryPlace). q.key) (is_seated seats e f p seated here same))

  -- ---- the futures

  pub futures_with : (k : ℕ) (future : Option F) (es : List (Entry F ℕ)) →
      futures_of (with_future k future es) ≡ futures_of es
  futures_with k future [] = refl
  futures_with k future (e ∷ es) =
      elim (cases_eq e.key k) [
        | inl same ↦ ap futures_of (with_here k future e es same)
        | inr differs ↦ ap futures_of (with_past k future e es differs) ∙ ap (λ (fs : List ℕ). e.waker ∷ fs)
            (futures_with k future es)
      ]

  pub is_among : (f k : ℕ) (es : List (Entry F ℕ)) → waker_of (entry_at k es) ≡ Some f → among f (futures_of es) ≡ true
  is_among f k [] found = absurd (none-some f found)
  is_among f k (e ∷ es) found =
      elim (cases_eq e.waker f) [
        | inl same ↦ among_yes f e.waker (futures_of es) same
        | inr differs ↦
            let past : e.key ≢ k = λ here. differs (waker_here k f e es here found) in
            among_no f e.waker (futures_of es) differs ∙ is_among f k es (waker_past k f e es past found)
      ]

  -- no other entry is at this place
  none_in : (p : EntryPlace) (e : Entry F ℕ) (es : List (Entry F ℕ)) → IsApart (keys_of (e ∷ es)) → e.key ≡ p.key →
      entry_in p es ≡ None
  none_in p e es apart here =
      let absent : ¬ IsIn p.key (keys_of es) = λ there. apart.0 (subst (λ k. IsIn k (keys_of es)) (sym here) there) in
      ap (stamped p.stamp) (none_at p.key es absent)

  -- its entry isn't at its place, so it has none
  pub not_among :
      (seats : List Seat) (f : ℕ) (p : EntryPlace) (es : List (Entry F ℕ))
      → AreSeated seats es → IsApart (keys_of es) → place_in seats f ≡ Some p → waker_of (entry_in p es) ≢ Some f
      → among f (futures_of es) ≡ false
  not_among seats f p [] seated apart here other = refl
  not_among seats f p (e ∷ es) seated apart here other =
      elim (cases_eq e.waker f) [
        | inl same ↦
            let place = is_seated seats e f p seated.0 here same in
            let under = at_here p.key e es (ap (λ (q : EntryPlace). q.key) place) in
            let found = ap (stamped p.stamp) under ∙ is_stamped p.stamp e (ap (λ (q : EntryPlace). q.stamp) place) in
            absurd (other (ap waker_of found ∙ ap Some same))
        | inr differs ↦
            among_no f e.waker (futures_of es) differs
            ∙ not_among seats f p es seated.1 apart.1 here (λ found.
            elim (cases_eq e.key p.key) [
              | inl at ↦ none-some f (sym (ap waker_of (none_in p e es apart at)) ∙ found)
              | inr past ↦ other (ap (λ (o : Option (Entry F ℕ)). waker_of (stamped p.stamp o))
                  (at_past p.key e es past) ∙ found)
            ])
      ]

  -- a number that no future has yet
  pub none_among :
      (seats : List Seat) (f : ℕ) (es : List (Entry F ℕ))
      → AreSeated seats es → place_in seats f ≡ None → among f (futures_of es) ≡ false
  none_among seats f [] seated none = refl
  none_among seats f (e ∷ es) seated none =
      let other : e.waker ≢ f = λ same. none-some (place_of e) (sym none ∙ ap (place_in seats) (sym same) ∙ seated.0) in
      among_no f e.waker (futures_of es) other ∙ none_among seats f es seated.1 none

  pub futures_without :
      (seats : List Seat) (f : ℕ) (p : EntryPlace) (es : List (Entry F ℕ))
      → AreSeated seats es → place_in seats f ≡ Some p → waker_of (entry_at p.key es) ≡ Some f
      → futures_of (without_entry p.key es) ≡ without f (futures_of es)
  futures_without seats f p [] seated here found = absurd (none-some f found)
  futures_without seats f p (e ∷ es) seated here found =
      elim (cases_eq e.key p.key) [
        | inl same ↦
            ap futures_of (went_here p.key e es same)
            ∙ sym (without_yes f e.waker (futures_of es) (waker_here p.key f e es same found))
        | inr differs ↦
            let other = other_future seats e f p seated.0 here differs in
            let rest = futures_without seats f p es seated.1 here (waker_past p.key f e es differs found) in
            ap futures_of (went_past p.key e es differs)
            ∙ ap (λ (fs : List ℕ). e.waker ∷ fs) rest
            ∙ sym (without_no f e.waker (futures_of es) other)
      ]

  -- ---- one cell of a list of the futures that are there

  among_past : (f w : ℕ) (future : Option F) (rest : List ℕ) → w ≢ f → among f (present_by future w rest) ≡ among f rest
  among_past f w None rest differs = refl
  among_past f w (Some x) rest differs = among_no f w rest differs

  among_after :
      (g w : ℕ) (future : Option F) (xs ys : List ℕ)
      → among g xs ≡ among g ys → among g (present_by future w xs) ≡ among g (present_by future w ys)
  among_after g w None xs ys same = same
  among_after g w (Some x) xs ys same =
      elim (cases_eq w g) [
        | inl here ↦ among_yes g w xs here ∙ sym (among_yes g w ys here)
        | inr past ↦ among_no g w xs past ∙ same ∙ sym (among_no g w ys past)
      ]

  without_past :
      (f w : ℕ) (future : Option F) (rest : List ℕ)
      → w ≢ f → without f (present_by future w rest) ≡ present_by future w (without f rest)
  without_past f w None rest differs = refl
  without_past f w (Some x) rest differs = without_no f w rest differs

  without_here : (f w : ℕ) (future : Option F) (rest : List ℕ) → w ≡ f → among f rest ≡ false →
      without f (present_by future w rest) ≡ rest
  without_here f w None rest same absent = without_none f rest absent
  without_here f w (Some x) rest same absent = without_yes f w rest same

  -- ---- the futures that are there

  pub none_present : (f : ℕ) (es : List (Entry F ℕ)) → among f (futures_of es) ≡ false → among f (present_of es) ≡ false
  none_present f [] absent = refl
  none_present f (e ∷ es) absent =
      elim (cases_eq e.waker f) [
        | inl same ↦ absurd (false≢true (sym absent ∙ among_yes f e.waker (futures_of es) same))
        | inr differs ↦
            let later : among f (futures_of es) ≡ false = sym (among_no f e.waker (futures_of es) differs) ∙ absent in
            among_past f e.waker e.future (present_of es) differs ∙ none_present f es later
      ]

  pub without_absent : (f : ℕ) (es : List (Entry F ℕ)) → among f (futures_of es) ≡ false →
      present_of es ≡ without f (present_of es)
  without_absent f es absent = sym (without_none f (present_of es) (none_present f es absent))

  pub present_push :
      (es : List (Entry F ℕ)) (k stamp : ℕ) (x : F) (w : ℕ)
      → present_of (es ++ record { key = k; stamp = stamp; future = Some x; waker = w } ∷ []) ≡ present_of es ++ w ∷ []
  present_push [] k stamp x w = refl
  present_push (e ∷ es) k stamp x w = ap (present_by e.future e.waker) (present_push es k stamp x w) ∙ after e.future
    where
      after :
          (future : Option F)
          → present_by future e.waker (present_of es ++ w ∷ []) ≡ present_by future e.waker (present_of es) ++ w ∷ []
      after None = refl
      after (Some y) = refl

  -- the entries after that of a future are of others
  rest_absent :
      (seats : List Seat) (f : ℕ) (p : EntryPlace) (e : Entry F ℕ) (es : List (Entry F ℕ))
      → AreSeated seats es → IsApart (keys_of (e ∷ es)) → place_in seats f ≡ Some p → e.key ≡ p.key
      → among f (present_of es) ≡ false
  rest_absent seats f p e es seated apart here at =
      let other : waker_of (entry_in p es) ≢ Some f =
      λ found. none-some f (sym (ap waker_of (none_in p e es apart at)) ∙ found) in
      none_present f es (not_among seats f p es seated apart.1 here other)

  pub present_without :
      (seats : List Seat) (f : ℕ) (p : EntryPlace) (es : List (Entry F ℕ))
      → AreSeated seats es → IsApart (keys_of es) → place_in seats f ≡ Some p → waker_of (entry_at p.key es) ≡ Some f
      → present_of (without_entry p.key es) ≡ without f (present_of es)
  present_without seats f p [] seated apart here found = absurd (none-some f found)
  present_without seats f p (e ∷ es) seated apart here found =
      elim (cases_eq e.key p.key) [
        | inl same ↦
            let waker = waker_here p.key f e es same found in
            let rest = rest_absent seats f p e es seated.1 apart here same in
            ap present_of (went_here p.key e es same) ∙ sym (without_here f e.waker e.future (present_of es) waker rest)
        | inr differs ↦
            let other = other_future seats e f p seated.0 here differs in
            let rest = present_without seats f p es seated.1 apart.1 here (waker_past p.key f e es differs found) in
            ap present_of (went_past p.key e es differs)
            ∙ ap (present_by e.future e.waker) rest
            ∙ sym (without_past f e.waker e.future (present_of es) other)
      ]

  pub present_out :
      (seats : List Seat) (f : ℕ) (p : EntryPlace) (es : List (Entry F ℕ))
      → AreSeated seats es → IsApart (keys_of es) → place_in seats f ≡ Some p → waker_of (entry_at p.key es) ≡ Some f
      → present_of (with_future p.key None es) ≡ without f (present_of es)
  present_out seats f p [] seated apart here found = absurd (none-some f found)
  present_out seats f p (e ∷ es) seated apart here found =
      elim (cases_eq e.key p.key) [
        | inl same ↦
            let waker = waker_here p.key f e es same found in
            let rest = rest_absent seats f p e es seated.1 apart here same in
            ap present_of (with_here p.key None e es same)
            ∙ sym (without_here f e.waker e.future (present_of es) waker rest)
        | inr differs ↦
            let other = other_future seats e f p seated.0 here differs in
            let rest = present_out seats f p es seated.1 apart.1 here (waker_past p.key f e es differs found) in
            ap present_of (with_past p.key None e es differs)
            ∙ ap (present_by e.future e.waker) rest
            ∙ sym (without_past f e.waker e.future (present_of es) other)
      ]

  pub present_back :
      (seats : List Seat) (f : ℕ) (p : EntryPlace) (x : F) (es : List (Entry F ℕ))
      → AreSeated seats es → place_in seats f ≡ Some p → waker_of (entry_at p.key es) ≡ Some f
      → among f (present_of (with_future p.key (Some x) es)) ≡ true
  present_back seats f p x [] seated here found = absurd (none-some f found)
  present_back seats f p x (e ∷ es) seated here found =
      elim (cases_eq e.key p.key) [
        | inl same ↦
            ap (λ (xs : List (Entry F ℕ)). among f (present_of xs)) (with_here p.key (Some x) e es same)
            ∙ among_yes f e.waker (present_of es) (waker_here p.key f e es same found)
        | inr differs ↦
            let other = other_future seats e f p seated.0 here differs in
            ap (λ (xs : List (Entry F ℕ)). among f (present_of xs)) (with_past p.key (Some x) e es differs)
            ∙ among_past f e.waker e.future (present_of (with_future p.key (Some x) es)) other
            ∙ present_back seats f p x es seated.1 here (waker_past p.key f e es differs found)
      ]

  pub others_present :
      (f g k : ℕ) (future : Option F) (es : List (Entry F ℕ))
      → waker_of (entry_at k es) ≡ Some f → g ≢ f →
      among g (present_of (with_future k future es)) ≡ among g (present_of es)
  others_present f g k future [] found other = refl
  others_present f g k future (e ∷ es) found other =
      elim (cases_eq e.key k) [
        | inl same ↦
            let apart : e.waker ≢ g = λ here. other (sym here ∙ waker_here k f e es same found) in
            ap (λ (xs : List (Entry F ℕ)). among g (present_of xs)) (with_here k future e es same)
            ∙ among_past g e.waker future (present_of es) apart
            ∙ sym (among_past g e.waker e.future (present_of es) apart)
        | inr differs ↦
            ap (λ (xs : List (Entry F ℕ)). among g (present_of xs)) (with_past k future e es differs)
            ∙ among_after g e.waker e.future _ _
            (others_present f g k future es (waker_past k f e es differs found) other)
      ]

  pub length-futures : (es : List (Entry F ℕ)) → length (futures_of es) ≡ length es
  length-futures [] = refl
  length-futures (e ∷ es) = ap suc (length-futures es)

-- ---- lists of seats

pub place_new : (seats : List Seat) (s : Seat) (n : ℕ) → length seats ≡ n → place_in (seats ++ s ∷ []) n ≡ Some s.place
place_new [] s zero here = refl
place_new [] s (suc n) here = absurd (omega arith)
place_new (x ∷ seats) s zero here = absurd (omega arith)
place_new (x ∷ seats) s (suc n) here = place_new seats s n (omega arith)

place_kept : (seats : List Seat) (s : Seat) (n : ℕ) (p : EntryPlace) → place_in seats n ≡ Some p →
    place_in (seats ++ s ∷ []) n ≡ Some p
place_kept [] s n p here = absurd (none-some p here)
place_kept (x ∷ seats) s zero p here = here
place_kept (x ∷ seats) s (suc n) p here = place_kept seats s n p here

-- a seat is written that keeps its place
place_written : (seats : List Seat) (f n : ℕ) (s : Seat) → place_in seats f ≡ Some s.place →
    place_in (set seats f s) n ≡ place_in seats n
place_written [] f n s same = refl
place_written (x ∷ seats) zero zero s same = sym same
place_written (x ∷ seats) zero (suc n) s same = refl
place_written (x ∷ seats) (suc f) zero s same = refl
place_written (x ∷ seats) (suc f) (suc n) s same = place_written seats f n s same

-- what was found in the seat of a future
pub seat_read : (seats : List Seat) (f : ℕ) (s : Seat) → f < length seats → s ≡ get_or seats f s →
    place_in seats f ≡ Some s.place
seat_read seats f s known read = ap place_by (slice_get_read seats (length seats) f s refl known read)

pub place_past : (seats : List Seat) (f : ℕ) → length seats ≤ f → place_in seats f ≡ None
place_past seats f past = ap place_by (slice_get_past seats f past)

-- a future with a seat is one of those that were accepted
pub is_known : (seats : List Seat) (f : ℕ) (p : EntryPlace) → place_in seats f ≡ Some p → f < length seats
is_known [] f p here = absurd (none-some p here)
is_known (x ∷ seats) zero p here = omega arith
is_known (x ∷ seats) (suc f) p here = omega (arith, is_known seats f p here)

pub insides_set :
    (seats : List Seat) (f : ℕ) (s : Seat)
    → map (λ (x : Seat). x.inside) (set seats f s) ≡ set (map (λ (x : Seat). x.inside) seats) f s.inside
insides_set [] f s = refl
insides_set (x ∷ seats) zero s = refl
insides_set (x ∷ seats) (suc f) s = ap (λ (bs : List Bool). x.inside ∷ bs) (insides_set seats f s)

pub length-insides : (seats : List Seat) → length (map (λ (x : Seat). x.inside) seats) ≡ length seats
length-insides [] = refl
length-insides (x ∷ seats) = ap suc (length-insides seats)

pub seated_more : {F : Type 0} (seats : List Seat) (s : Seat) (es : List (Entry F ℕ)) → AreSeated seats es →
    AreSeated (seats ++ s ∷ []) es
seated_more seats s es seated = seated_kept seats (seats ++ s ∷ []) es (λ n p here. place_kept seats s n p here) seated

pub seated_written :
    {F : Type 0} (seats : List Seat) (f : ℕ) (s : Seat) (es : List (Entry F ℕ))
    → place_in seats f ≡ Some s.place → AreSeated seats es → AreSeated (set seats f s) es
seated_written seats f s es same seated =
    seated_kept seats (set seats f s) es (λ n p here. place_written seats f n s same ∙ here) seated

-- a search found an entry where the future has one
pub is_found :
    {F : Type 0} (f : ℕ) (es : List (Entry F ℕ)) (result : Option EntryPlace)
    → IfSome result (λ place. waker_of (entry_in place es) ≡ Some f) → IfNone result (among f (futures_of es) ≡ false)
    → is_some result ≡ among f (futures_of es)
is_found f es None found absent = sym absent
is_found f es (Some place) found absent = sym (is_among f place.key es (key_found place f es found))
