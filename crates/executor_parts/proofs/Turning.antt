-- The first entry comes last.
use Rattle.std.proofs.Common.{◌≡◌, ℕ, ◌++◌, List, [], ◌∷◌, slice_get, Option, Some, None, IsSome, refl, sym, ap, ◌∙◌, subst, inl}
use Rattle.std.proofs.Common.{inr, arith}
use Rattle.std.proofs.lemmas.Grind.{common_steps}
use Rattle.std.proofs.lemmas.Bool.{cases_eq}
use Rattle.std.proofs.lemmas.List.{length_push}
use Rattle.slab.specs.Slab.{Slab, get, slab_len, with_value}
use Rattle.slab.proofs.SlabLemmas.{Updates-with_value}
use Rattle.executor_parts.specs.Order.{without, IsIn}
use Rattle.executor_parts.specs.declared.places.Held.{Held}
use Rattle.executor_parts.specs.Places.{entries_of, shown, IsPlaced, turned, first_waker}
use Rattle.executor_parts.proofs.Cells.{without_yes}
use Rattle.executor_parts.proofs.Placing.{entry_of, entered, first_under}
use Rattle.executor_parts.proofs.Ring.{is_in_push, is_in_push_kept, is_in_last, is_in_without, is_in_kept, is_apart_push}
use Rattle.executor_parts.proofs.Ring.{is_apart_without, left, length-without}

pub is_first : (keys : List ℕ) (key : ℕ) → Some key ≡ slice_get keys 0 → IsIn key keys
is_first [] key first = absurd (cc)
is_first (k ∷ ks) key first = inl (cc)

-- the same keys are there, each once
module _ {F W : Type 0} where
  pub placed_turned :
      (slab : Slab (Held F W)) (keys : List ℕ) (key : ℕ)
      → IsPlaced slab keys → IsIn key keys → IsPlaced slab (without key keys ++ key ∷ [])
  placed_turned slab keys key placed found = record {
    counted = omega (arith, placed.counted, length_push (without key keys) key, length-without key keys found);
    apart = is_apart_push key (without key keys) (is_apart_without key keys placed.apart) (left key keys placed.apart);
    known = λ k some.
        elim (cases_eq k key) [
          | inl same ↦ subst (λ n. IsIn n (without key keys ++ key ∷ [])) (sym same) (is_in_last key (without key keys))
          | inr differs ↦ is_in_push_kept key k (without key keys) (is_in_kept key k keys (placed.known k some) differs)
        ];
    there = λ k now.
        elim (is_in_push key k (without key keys) now) [
          | inl was ↦ placed.there k (is_in_without key k keys was)
          | inr here ↦ placed.there k (subst (λ n. IsIn n keys) here found)
        ];
  }

  -- a write where there is something
  pub len_written :
      (slab : Slab (Held F W)) (key : ℕ) (h now : Held F W)
      → get slab key ≡ Some h → slab_len (with_value slab key now) ≡ slab_len slab
  len_written slab key h now read = grind (arith, common_steps)

  -- the first key has something
  pub none_first :
      (slab : Slab (Held F W)) (keys : List ℕ) (key : ℕ)
      → IsPlaced slab keys → Some key ≡ slice_get keys 0 → get slab key ≡ None → ⊥
  none_first slab keys key placed first none =
      let under = first_under slab keys key placed first in
      absurd (cc)

module _ {F V : Type 0} where
  -- what the first entry has
  pub first_of :
      (slab : Slab (Held F (Option V))) (keys : List ℕ) (key : ℕ) (h : Held F (Option V))
      → IsPlaced slab keys → Some key ≡ slice_get keys 0 → get slab key ≡ Some h → first_waker (entries_of slab keys) ≡ h.waker
  first_of slab keys key h placed first read =
      let under = first_under slab keys key placed first in
      let same : Some under.0 ≡ Some h = sym under.1 ∙ read in
      let here : under.0 ≡ h = cc in
      ap first_waker under.2 ∙ ap (λ (x : Held F (Option V)). x.waker) here

  -- it comes last, without its waker
  pub turned_under :
      (slab : Slab (Held F (Option V))) (keys : List ℕ) (key : ℕ) (h : Held F (Option V))
      → IsPlaced slab keys → Some key ≡ slice_get keys 0 → get slab key ≡ Some h
      → entries_of (with_value slab key (record h { waker = None })) (without key keys ++ key ∷ []) ≡ turned (entries_of slab keys)
  turned_under slab [] key h placed first read = absurd (cc)
  turned_under slab (k ∷ ks) key h placed first read =
      let same : k ≡ key = cc in
      let here : get slab k ≡ Some h = ap (get slab) same ∙ read in
      entered slab (with_value slab key (record h { waker = None })) (without key (k ∷ ks)) key (record h { waker = None })
      (left key (k ∷ ks) placed.apart) (Updates-with_value slab key (record h { waker = None }) (subst IsSome (sym read) refl))
      ∙ ap (λ (rest : List ℕ). entries_of slab rest ++ entry_of key (record h { waker = None }) ∷ []) (without_yes key k ks same)
      ∙ ap (λ (n : ℕ). entries_of slab ks ++ entry_of n (record h { waker = None }) ∷ []) (sym same)
      ∙ ap (λ (slot : Option (Held F (Option V))). turned (shown k slot (entries_of slab ks))) (sym here)
