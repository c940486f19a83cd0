-- Exactly the places with a sleeper have a time.
use Rattle.std.proofs.Common.{inl, inr, ◌≡◌, nat_lt, false, ℕ, List, Option, Some, None, arith, ap, refl, sym, ◌∙◌, length, set}
use Rattle.std.proofs.Common.{get_or-set_same, get_or-set_other, subst}
use Rattle.std.proofs.lemmas.Bool.{cases_eq, cases_order}
use Rattle.std.proofs.lemmas.List.{length-set}
use Rattle.std.proofs.Math.ListN.{get_or-eq_default}
use Rattle.slab.specs.Slab.{Slab, Updates, get}
use Rattle.timer.specs.Order.{never, time_of}
use Rattle.timer.specs.Places.{is_asleep, marked}
use Rattle.timer.specs.declared.deadlines.Place.{Place}
use Rattle.timer.specs.declared.deadlines.Place.TheVariants.{Due, Stopped}

pub still_agreed :
    {K : Type 0} (old new : Slab (Place K)) (ts : List ℕ) (place time : ℕ) (slot : Option (Place K)) → Updates old new place slot →
    nat_lt (time_of (set ts place time) place) never ≡ is_asleep slot →
    ((p : ℕ) → is_asleep (get old p) ≡ nat_lt (time_of ts p) never) →
    (p : ℕ) → is_asleep (get new p) ≡ nat_lt (time_of (set ts place time) p) never
still_agreed old new ts place time slot updates here h p = elim (cases_eq p place) [
  | inl same ↦
      subst (λ q. is_asleep (get new q) ≡ nat_lt (time_of (set ts place time) q) never) (sym same) (ap is_asleep updates.changed ∙ sym here)
  | inr differs ↦ ap is_asleep (updates.others p differs) ∙ h p
      ∙ ap (λ t. nat_lt t never) (sym (get_or-set_other ts place p time never differs))
]

-- a place whose time was taken has none
gone : (ts : List ℕ) (place : ℕ) → time_of (set ts place never) place ≡ never
gone ts place = elim (cases_order place (length ts)) [
  | inl end ↦ get_or-eq_default (set ts place never) never (rw length-set (omega arith))
  | inr order ↦ elim order [
    | inl within ↦ get_or-set_same ts place never never within
    | inr past ↦ get_or-eq_default (set ts place never) never (rw length-set (omega arith))
  ]
]

-- a place whose time is taken, and at which nobody sleeps any more
pub agreed_gone :
    {K : Type 0} (old new : Slab (Place K)) (ts : List ℕ) (place : ℕ) (slot : Option (Place K)) → Updates old new place slot →
    is_asleep slot ≡ false → ((p : ℕ) → is_asleep (get old p) ≡ nat_lt (time_of ts p) never) →
    (p : ℕ) → is_asleep (get new p) ≡ nat_lt (time_of (set ts place never) p) never
agreed_gone old new ts place slot updates awake h =
    still_agreed old new ts place never slot updates (ap (λ t. nat_lt t never) (gone ts place) ∙ sym awake) h

pub due_is_awake : {K : Type 0} (slot : Option (Place K)) → is_asleep (marked Due slot) ≡ false
due_is_awake (Some place) = refl
due_is_awake None = refl

pub stopped_is_awake : {K : Type 0} (slot : Option (Place K)) → is_asleep (marked Stopped slot) ≡ false
stopped_is_awake (Some place) = refl
stopped_is_awake None = refl
