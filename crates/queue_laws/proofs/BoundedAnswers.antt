-- The steps of the calls that only answer, and of a close. n is the number of places, m the mark.
use Rattle.std.proofs.lemmas.Bool.Decides.{nat_tests}
use Rattle.std.proofs.Common.{arith}
use Rattle.std.proofs.Common.{◌≡◌, ℕ, ◌+◌, ◌*◌, List, [], ◌∷◌, Option, Some, None, sym, refl, subst}
use Rattle.queue_steps.specs.BoundedTurns.{Turn, Tail, Head, HeadFor, TailFor, TailAgain, Close as CloseTurn, len_turn, is_empty_turn}
use Rattle.queue_steps.specs.BoundedTurns.{is_full_turn, answered}
use Rattle.queue_steps.specs.Calls.{Call, Close, Len, IsEmptyCall, IsFullCall, IsClosedCall}
use Rattle.queue_laws.specs.Moments.{Sight, Progress}
use Rattle.queue_steps.specs.Bounded.{IsShape, word_at, is_marked}
use Rattle.queue_laws.specs.BoundedSteps.{Stands, BoundedWorld, with_at, moved, turn_moments}
use Rattle.queue_laws.proofs.BoundedStamps.{bit}
use Rattle.queue_laws.proofs.BoundedState.{Ghost, looking, kind_of, sight_of, Knows, Looks, Tied}
use Rattle.queue_laws.proofs.BoundedLooks.{Finds, len_tail, len_head, len_again, empty_head, empty_tail, full_tail, full_head, closed_tail}
use Rattle.queue_laws.proofs.BoundedPuts.{Goes, looked}
use Rattle.queue_laws.proofs.BoundedChanges.{close_by}

module _ {T : Type 0} (n m : ℕ) (shape : IsShape n m) (w : BoundedWorld T) (g : Ghost T) (calls : ℕ → Option (Progress T))
    (tied : Tied n m w g calls) (p : ℕ) (k : Progress T) (at : calls p ≡ Some k) where
  abbrev IsNow : Type 0
  IsNow = (older : List (Sight T)) × (k.seen ≡ sight_of n m g ∷ older)

  abbrev Then : Call T → Turn → Type 0
  Then call t = Goes n m shape w g calls (turn_moments n m w p call t) (moved n m w p call t)

  abbrev GoesTo : Call T → Turn → Type 0
  GoesTo call next = Goes n m shape w g calls [] (record w { places = with_at w.places p (Stands call next) })

  -- a look at the tail or at the head by a turn that keeps the word t, where what is found there is known by u
  at_tail : (call : Call T) (turn : Turn) (next : ℕ → ℕ → Turn) (t u : ℕ) → t ≡ u → w.places p ≡ Stands call turn
      → kind_of turn ≡ looking → k.call ≡ call → (seen : IsNow) → k.answer ≡ None
      → Finds n m shape g tied.base call (next u (word_at n m g.pushed + bit g.shut * m)) (sight_of n m g ∷ seen.0)
      → GoesTo call (next t w.tail)
  at_tail call turn next t u same is kind of seen none finds =
      looked n m shape w g calls tied p call turn (next t w.tail) is kind k at of seen none
      (grind (arith, nat_tests))

  at_head : (call : Call T) (turn : Turn) (next : ℕ → ℕ → Turn) (t u : ℕ) → t ≡ u → w.places p ≡ Stands call turn
      → kind_of turn ≡ looking → k.call ≡ call → (seen : IsNow) → k.answer ≡ None
      → Finds n m shape g tied.base call (next u (word_at n m g.popped)) (sight_of n m g ∷ seen.0) → GoesTo call (next t w.head)
  at_head call turn next t u same is kind of seen none finds =
      looked n m shape w g calls tied p call turn (next t w.head) is kind k at of seen none
      (grind (arith, nat_tests))

  pub len_by : (t : Turn) → w.places p ≡ Stands Len t → k.call ≡ Len → IsNow → k.answer ≡ None → Looks n m g Len t k.seen → Then Len t
  len_by Tail is of seen none h = at_tail Len Tail (λ t v. HeadFor v) 0 0 refl is refl of seen none (len_tail n m shape g tied.base seen.0)
  len_by (HeadFor t) is of seen none h =
      let f = h.1 in let known = subst (Knows n m g k.seen) f.3 h.2 in
      at_head Len (HeadFor t) TailAgain t (word_at n m f.0 + bit f.1 * m) f.2 is refl of seen none
      (len_head n m shape g tied.base seen.0 f.0 f.1 known)
  len_by (TailAgain t h') is of seen none h =
      let f = h.1 in let known = subst (Knows n m g k.seen) f.5 h.2 in
      at_tail Len (TailAgain t h') (λ u v. len_turn n m (TailAgain u h') v) t (word_at n m f.0 + bit f.2 * m) f.3 is refl of seen none
      (subst (λ (u : ℕ). Finds n m shape g tied.base Len
      (len_turn n m (TailAgain (word_at n m f.0 + bit f.2 * m) u) (word_at n m g.pushed + bit g.shut * m))
      (sight_of n m g ∷ seen.0)) (sym f.4)
      (len_again n m shape g tied.base seen.0 f.0 f.1 f.2 (grind (arith, nat_tests))))
  len_by _ is of seen none h = absurd h.1

  pub empty_by : (t : Turn) → w.places p ≡ Stands IsEmptyCall t → k.call ≡ IsEmptyCall → IsNow → k.answer ≡ None
      → Looks n m g IsEmptyCall t k.seen → Then IsEmptyCall t
  empty_by Head is of seen none h =
      at_head IsEmptyCall Head (λ t v. TailFor v) 0 0 refl is refl of seen none (empty_head n m shape g tied.base seen.0)
  empty_by (TailFor t) is of seen none h =
      let f = h.1 in let known = subst (Knows n m g k.seen) f.2 h.2 in
      at_tail IsEmptyCall (TailFor t) (λ u v. is_empty_turn n m (TailFor u) v) t (word_at n m f.0) f.1 is refl of seen none
      (empty_tail n m shape g tied.base seen.0 f.0 known.0
      (grind (arith, nat_tests)))
  empty_by _ is of seen none h = absurd h.1

  pub full_by : (t : Turn) → w.places p ≡ Stands IsFullCall t → k.call ≡ IsFullCall → IsNow → k.answer ≡ None
      → Looks n m g IsFullCall t k.seen → Then IsFullCall t
  full_by Tail is of seen none h =
      at_tail IsFullCall Tail (λ t v. HeadFor v) 0 0 refl is refl of seen none (full_tail n m shape g tied.base seen.0)
  full_by (HeadFor t) is of seen none h =
      let f = h.1 in let known = subst (Knows n m g k.seen) f.3 h.2 in
      at_head IsFullCall (HeadFor t) (λ u v. is_full_turn n m (HeadFor u) v) t (word_at n m f.0 + bit f.1 * m) f.2 is refl of seen none
      (full_head n m shape g tied.base seen.0 f.0 f.1 known.0
      (grind (arith, nat_tests)))
  full_by _ is of seen none h = absurd h.1

  pub closed_by : (t : Turn) → w.places p ≡ Stands IsClosedCall t → k.call ≡ IsClosedCall → IsNow → k.answer ≡ None
      → Looks n m g IsClosedCall t k.seen → Then IsClosedCall t
  closed_by Tail is of seen none h =
      at_tail IsClosedCall Tail (λ t v. answered (is_marked m v)) 0 0 refl is refl of seen none (closed_tail n m shape g tied.base seen.0)
  closed_by _ is of seen none h = absurd h.1

  pub closes_by : (t : Turn) → w.places p ≡ Stands Close t → k.call ≡ Close → k.answer ≡ None → Looks n m g Close t k.seen → Then Close t
  closes_by CloseTurn is of none h = close_by n m shape w g calls tied p k at is of none
  closes_by _ is of none h = absurd h.1
