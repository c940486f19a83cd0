-- What a contract sees of `Permits`, and what each section does with them.
use Rattle.std.specs.Prelude.{◌≡◌, ℕ, zero, suc, ◌+◌, ◌-◌, ◌^◌, ◌<◌, ◌≤◌, min, Bool, true, false, List, [], ◌∷◌, ◌++◌}
use Rattle.std.specs.Prelude.{remove, slice_get, slice_set, Option, Some, None, Result, Ok, Err, refl}
use Rattle.std.specs.Coded.{Coded, code_by, coded×, coded_ℕ, coded_bool}
use Rattle.waiting.specs.Waiters.{Waiters, waiters_code, position_of, waker_in, told}
use Rattle.waiting.specs.declared.permits.Found.{Found}
use Rattle.waiting.specs.declared.permits.Found.TheVariants as found
use Rattle.waiting.specs.declared.permits.GaveUp.{GaveUp}
use Rattle.waiting.specs.declared.permits.GaveUp.TheVariants as gave
use Rattle.waiting.specs.declared.permits.Held.{Held}
use Rattle.waiting.specs.declared.permits.Refused.{Refused}
use Rattle.waiting.specs.declared.permits.Refused.TheVariants as refused

pub record Permits (K : Type 0) : Type 0 where
  -- what a new caller may take
  pub free : ℕ
  -- what waiters may take that were notified
  pub promised : ℕ
  pub held : ℕ
  -- none is given any more
  pub is_closed : Bool
  -- the waiters
  pub waiters : Waiters K

-- stored as the tuple of its fields
abbrev pub permits_code : {K : Type 0} → Coded K → Coded (Permits K)
permits_code {K} waker =
    code_by
    (ℕ × (ℕ × (ℕ × (Bool × Waiters K))))
    (coded× coded_ℕ (coded× coded_ℕ (coded× coded_ℕ (coded× coded_bool (waiters_code waker)))))
    (λ p. (p.free, (p.promised, (p.held, (p.is_closed, p.waiters)))))
    (λ t. record { free = t.0; promised = t.1.0; held = t.1.1.0; is_closed = t.1.1.1.0; waiters = t.1.1.1.1 })
    (λ _. refl)

-- no more permits are there at a time
abbrev pub most : ℕ
most = 2 ^ 64 - 1

-- what permits keep: their number has an end; nobody waits while one is free; once they are closed nobody waits, and none is
-- promised
pub record IsWell {W : Type 0} (free promised held : ℕ) (is_closed : Bool) (waiting : List W) : Type 0 where
  pub within : free + promised + held ≤ most
  pub nobody : 0 < free → waiting ≡ []
  pub over : is_closed ≡ true → (waiting ≡ []) × (promised ≡ 0)

module _ {K : Type 0} where
  -- all permits: what was put in and wasn't forgotten
  abbrev pub all_of : Permits K → ℕ
  all_of p = p.free + p.promised + p.held

  -- the waker that the first waiter left, if one waits
  abbrev pub first_left : List (ℕ × Option K) → Option K
  first_left [] = None
  first_left (e ∷ _) = e.1

  -- one that was free is held
  abbrev pub taken : Permits K → Permits K
  taken p = record p { free = p.free - 1; held = p.held + 1 }

  -- one that was promised is held
  abbrev pub redeemed : Permits K → Permits K
  redeemed p = record p { promised = p.promised - 1; held = p.held + 1 }

  -- one that was held is there no more
  abbrev pub forgotten : Permits K → Permits K
  forgotten p = record p { held = p.held - 1 }

  abbrev pub given_where : List (ℕ × Option K) → Permits K → Permits K
  given_where [] p = record p { free = p.free + 1 }
  given_where (_ ∷ _) p = record p { promised = p.promised + 1; waiters = told p.waiters }

  -- one more is there: promised to the first waiter, who waits no more; or free where nobody waits
  abbrev pub given : Permits K → Permits K
  given p = given_where p.waiters.waiting p

  -- what was promised is free, and nobody waits
  abbrev pub closed : Permits K → Permits K
  closed p = record p {
    free = p.free + p.promised;
    promised = 0;
    is_closed = true;
    waiters = record { next = 0; waiting = [] };
  }

  -- one more waits, the last of all, with this waker
  abbrev pub joined : Option K → Permits K → Permits K
  joined waker p = record p { waiters = record { next = p.waiters.next + 1; waiting = p.waiters.waiting ++ (p.waiters.next, waker) ∷ [] } }

  -- a free one is held; or it is refused, with the reason
  abbrev pub HasTaken : Permits K → Permits K → Result Held Refused → Type 0
  HasTaken old new (Ok _) = (old.is_closed ≡ false) × (0 < old.free) × (new ≡ taken old)
  HasTaken old new (Err refused.NoPermits) = (old.is_closed ≡ false) × (old.free ≡ 0) × (new ≡ old)
  HasTaken old new (Err (refused.Closed _)) = (old.is_closed ≡ true) × (new ≡ old)

  -- what a new caller finds: a free one; or none, and it waits, or is refused with the reason
  abbrev pub HasCome : Option K → Permits K → Permits K → Found K → Type 0
  HasCome waker old new (found.Taken _ back) = (old.is_closed ≡ false) × (0 < old.free) × (new ≡ taken old) × (back ≡ waker)
  HasCome waker old new (found.Waits listening before) = (old.is_closed ≡ false) × (old.free ≡ 0) × (new ≡ joined waker old)
      × (listening.number ≡ old.waiters.next) × (before ≡ None)
  HasCome waker old new (found.Closed _ back) = (old.is_closed ≡ true) × (new ≡ old) × (back ≡ waker)
  HasCome waker old new (found.NoMemory back) = (old.is_closed ≡ false) × (old.free ≡ 0) × (new ≡ old) × (back ≡ waker)

  -- a promised one is taken; where none is promised, it does as a new caller does
  abbrev pub HasRedeemed : ℕ → Option K → Permits K → Permits K → Found K → Type 0
  HasRedeemed zero waker old new result = HasCome waker old new result
  HasRedeemed (suc _) waker old new (found.Taken _ back) = (new ≡ redeemed old) × (back ≡ waker)
  HasRedeemed (suc _) waker old new _ = ⊥

  -- it waits on, with the new waker in the place of the old one
  abbrev pub WaitsOn : ℕ → Option K → ℕ → Permits K → Permits K → Found K → Type 0
  WaitsOn number waker at old new (found.Waits listening before) = (waker_in (slice_get old.waiters.waiting at) ≡ before)
      × (listening.number ≡ number)
      × (new ≡ record old { waiters = record old.waiters { waiting = slice_set old.waiters.waiting at (number, waker) } })
  WaitsOn number waker at old new _ = ⊥

  abbrev pub HasFoundAt : Option ℕ → ℕ → Option K → Permits K → Permits K → Found K → Type 0
  HasFoundAt (Some at) number waker old new result = WaitsOn number waker at old new result
  HasFoundAt None number waker old new result = HasRedeemed old.promised waker old new result

  -- what a waiter finds: where it is in the list it waits on; else it was notified, and takes what was promised
  abbrev pub HasFound : ℕ → Option K → Permits K → Permits K → Found K → Type 0
  HasFound number waker old new result = HasFoundAt (position_of number old.waiters.waiting) number waker old new result

  -- what was promised goes on, if anything was
  abbrev pub HasPassedOn : ℕ → Permits K → Permits K → Option K → Type 0
  HasPassedOn zero old new waker = (new ≡ old) × (waker ≡ None)
  HasPassedOn (suc rest) old new waker = (new ≡ given (record old { promised = rest })) × (waker ≡ first_left old.waiters.waiting)

  -- how one gave up: its entry went; or it has none, and what was promised to it went on
  abbrev pub HasGivenUp : ℕ → Permits K → Permits K → GaveUp K → Type 0
  HasGivenUp number old new (gave.Untold waker) = (at : ℕ) × (position_of number old.waiters.waiting ≡ Some at)
      × (waker_in (slice_get old.waiters.waiting at) ≡ waker)
      × (new ≡ record old { waiters = record old.waiters { waiting = remove old.waiters.waiting at } })
  HasGivenUp number old new (gave.Told promise) = (position_of number old.waiters.waiting ≡ None)
      × HasPassedOn old.promised old new promise.waker

  abbrev pub HasGivenBackOf : ℕ → Permits K → Permits K → Option K → Type 0
  HasGivenBackOf zero old new waker = (new ≡ old) × (waker ≡ None)
  HasGivenBackOf (suc rest) old new waker = (new ≡ given (record old { held = rest })) × (waker ≡ first_left old.waiters.waiting)

  -- one that was held came back, if any was
  abbrev pub HasGivenBack : Permits K → Permits K → Option K → Type 0
  HasGivenBack old new waker = HasGivenBackOf old.held old new waker

  -- this many more came: the first of them is promised where one waits, and the others are left; else all are free
  abbrev pub HasAddedOf : ℕ → List (ℕ × Option K) → Permits K → Permits K → Option K → ℕ → Type 0
  HasAddedOf zero waiting old new waker left = (new ≡ old) × (waker ≡ None) × (left ≡ 0)
  HasAddedOf (suc more) [] old new waker left = (new ≡ record old { free = old.free + suc more }) × (waker ≡ None) × (left ≡ 0)
  HasAddedOf (suc more) (first ∷ _) old new waker left = (new ≡ given old) × (waker ≡ first.1) × (left ≡ more)

  -- this many more came, as far as there are no more than may be at a time
  abbrev pub HasAdded : ℕ → Permits K → Permits K → Option K → ℕ → Type 0
  HasAdded permits old new waker left = HasAddedOf (min permits (most - all_of old)) old.waiters.waiting old new waker left
