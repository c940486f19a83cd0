-- A new ring is at rest.
use Rattle.std.proofs.Common.{◌≡◌, ℕ, ◌+◌, ◌*◌, ◌%◌, ◌<◌, List, [], ◌∷◌, ◌++◌, length, Some, None, sym, ap, ◌∙◌, lt_of_not-le, zero-mul}
use Rattle.std.proofs.Common.{arith}
use Rattle.std.proofs.lemmas.List.{get_or_push, length_push}
use Rattle.std.proofs.Math.ListN.{get_or-append}
use Rattle.std.proofs.Math.Nat.{mod-eq_of_lt}
use mathlib.Core.Logic.{dite}
use native.Mathlib.Decide.{dec_le}
use Rattle.queue_steps.specs.declared.bounded.Slot.{Slot}
use Rattle.queue_steps.specs.ClosableQueue.{new_queue}
use Rattle.queue_steps.specs.Bounded.{IsShape, word_at}
use Rattle.queue_steps.specs.BoundedAtRest.{slot_at, AreFresh, BoundedAtRest, ring_queue}
use Rattle.queue_steps.proofs.BoundedWords.{first_word}
use Rattle.queue_steps.proofs.BoundedRests.{ring_is}

word_zero : (n m : ℕ) → IsShape n m → 0 ≡ word_at n m 0 + 0 * m
word_zero n m s = let z = first_word n m s 0 s.some in omega (arith, zero-mul m)

module _ {T : Type 0} where
  abbrev free_slot : ℕ → Slot T
  free_slot stamp = record { stamp = stamp; value = None }

  pub fresh_none : (slots : List (Slot T)) → slots ≡ [] → AreFresh 0 slots
  fresh_none slots none = record { wide = ap length none; each = λ i below. absurd (omega arith) }

  pub fresh_push : (n : ℕ) (slots : List (Slot T)) → AreFresh n slots → AreFresh (n + 1) (slots ++ free_slot n ∷ [])
  fresh_push n slots f = record {
    wide = length_push slots (free_slot n) ∙ ap (λ (k : ℕ). k + 1) f.wide;
    each = λ i below. dite (dec_le n i)
        (λ last. let same : i ≡ n = omega arith in
        get_or_push slots (free_slot n) (free_slot 0) i (f.wide ∙ sym same) ∙ ap free_slot (sym same))
        (λ not. let near : i < n = lt_of_not-le not in
        get_or-append slots (free_slot n ∷ []) (free_slot 0) i (let w = f.wide in omega arith) ∙ f.each i near);
  }

  pub fresh_rests : (n m : ℕ) (slots : List (Slot T)) → IsShape n m → AreFresh n slots → BoundedAtRest n m 0 0 slots
  fresh_rests n m slots s f = record {
    pushed = 0;
    popped = 0;
    shut = 0;
    shut_once = omega arith;
    tail_is = word_zero n m s;
    head_is = sym (first_word n m s 0 s.some);
    behind = omega arith;
    within = omega arith;
    few = omega arith;
    wide = f.wide;
    filled = λ p a b. absurd (omega arith);
    free = λ p a b.
        let near : p < n = omega arith in
        let here : slot_at slots (p % n) ≡ free_slot p = ap (slot_at slots) (mod-eq_of_lt near) ∙ f.each p near in
        (ap (λ (x : Slot T). x.stamp) here ∙ sym (first_word n m s p near), ap (λ (x : Slot T). x.value) here);
  }

  pub fresh_queue : (n m : ℕ) (slots : List (Slot T)) → IsShape n m → ring_queue n m 0 0 slots ≡ new_queue (Some n) (Some 0)
  fresh_queue n m slots s = ring_is n m s 0 0 slots 0 0 0 (omega arith) (word_zero n m s) (sym (first_word n m s 0 s.some))
