-- What stays of a ring while one of its places changes, and its counts go on. n is the number of places, m the mark.
use Rattle.std.proofs.lemmas.Bool.Decides.{nat_tests}
use Rattle.std.proofs.Common.{◌≡◌, ◌≢◌, ℕ, ◌+◌, ◌*◌, ◌%◌, ◌<◌, ◌≤◌, List, [], ◌∷◌, ◌++◌, length, Option, Some}
use Rattle.std.proofs.Common.{sym, ap, ◌∙◌, lt_of_not-le, length-append, arith}
use Rattle.std.proofs.lemmas.List.{drop-append-le}
use Rattle.std.proofs.Math.Seq.{drop-append_seam, drop-append-add}
use mathlib.Core.Logic.{dite}
use native.Mathlib.Decide.{dec_le}
use Rattle.queue_steps.specs.Calls.{Call}
use Rattle.queue_steps.specs.Bounded.{IsShape}
use Rattle.queue_laws.specs.BoundedSteps.{Place, with_at}
use Rattle.queue_steps.proofs.BoundedSlots.{places_differ}
use Rattle.queue_laws.proofs.BoundedStamps.{same_count, a_lap_on, one_count}
use Rattle.queue_laws.proofs.BoundedState.{Phase, free, full, held, Cell, cell, Ghost, Grip, writing, swapping, reading, displacing, up}
use Rattle.queue_laws.proofs.BoundedState.{grip_turn, Base, IsAt, Stores, Lies, CellLies, HeldBy}

-- a changed function at the place that changed, and at the others
pub at_here : {A : Type 0} (f : ℕ → A) (i : ℕ) (x : A) → with_at f i x i ≡ x
at_here {A} f i x = grind (arith, nat_tests)

pub at_put : {A : Type 0} (P : ℕ → A → Type 0) (f : ℕ → A) (i : ℕ) (x : A) → P i x → ((j : ℕ) → j ≢ i → P j (f j)) → (j : ℕ)
    → P j (with_at f i x j)
at_put {A} P f i x here other j = grind (arith, nat_tests)

module _ {T : Type 0} where
  abbrev pub NotBy : ℕ → Phase T → Type 0
  NotBy p free = Unit {0}
  NotBy p (full x) = Unit {0}
  NotBy p (held j call g o d) = j ≢ p

  -- an item stays where it is among all items when one more is appended
  pub is_at_more : (all : List T) (p : ℕ) (x z : T) → p < length all → IsAt all p x → IsAt (all ++ z ∷ []) p x
  is_at_more all p x z near at = grind (arith, nat_tests, drop-append-le)

  pub is_at_last : (all : List T) (p : ℕ) (z : T) → length all ≡ p → IsAt (all ++ z ∷ []) p z
  is_at_last all p z is = grind (arith, nat_tests, IsAt, drop-append_seam, drop-append-add)

  stores_more : (all : List T) (p : ℕ) (call : Call T) (o : Option T) (z : T) → p < length all → Stores all p call o
      → Stores (all ++ z ∷ []) p call o
  stores_more all p call o z near s = grind (arith, nat_tests, is_at_more)

  pub length_more : (all : List T) (z : T) → length (all ++ z ∷ []) ≡ length all + 1
  length_more all z = length-append all (z ∷ [])

module _ {T : Type 0} (n m : ℕ) where
  -- whoever else has a place stands where they stood
  pub held_moved : (places : ℕ → Place T) (p : ℕ) (place : Place T) (q : ℕ) (ph : Phase T) → NotBy p ph → HeldBy n m places q ph
      → HeldBy n m (with_at places p place) q ph
  held_moved places p place q ph not k = grind (arith, nat_tests)

module _ {T : Type 0} (n m : ℕ) (shape : IsShape n m) (g : Ghost T) (b : Base n m g) where
  -- another place, when an item is appended
  pub lies_pushed : (i p : ℕ) (ph : Phase T) (z : T) (coming : Option (ℕ × T)) → p % n ≡ i → i ≢ g.pushed % n
      → Lies n m g.pushed g.popped g.all g.coming p ph → Lies n m (g.pushed + 1) g.popped (g.all ++ z ∷ []) coming p ph
  lies_pushed i p free z coming at other k = grind (arith, nat_tests)
  lies_pushed i p (full x) z coming at other k = grind (arith, nat_tests, is_at_more)
  lies_pushed i p (held j call writing o d) z coming at other k = grind (arith, nat_tests, stores_more)
  lies_pushed i p (held j call swapping o d) z coming at other k = grind (arith, nat_tests, stores_more)
  lies_pushed i p (held j call reading o d) z coming at other k = (
    k.0,
    (let u = k.1 in dite (dec_le (g.pushed + 1) (p + n)) (λ le. le)
        (λ not. absurd (let l = lt_of_not-le not in let same : p + n ≡ g.pushed = omega arith in
        other (sym at ∙ sym (a_lap_on n p) ∙ ap (λ (x : ℕ). x % n) same)))),
    k.2,
    k.3,
  )
  lies_pushed i p (held j call displacing o d) z coming at other k = grind (arith, nat_tests, a_lap_on)

  not_first : (i p : ℕ) → p % n ≡ i → i ≢ g.popped % n → g.popped ≤ p → g.popped + 1 ≤ p
  not_first i p at other le = grind (arith, nat_tests)

  -- another place, when the first item is taken
  pub lies_popped : (i p : ℕ) (ph : Phase T) (coming : Option (ℕ × T)) → ((v : ℕ × T) → g.coming ≡ Some v → coming ≡ Some v) → p % n ≡ i
      → i ≢ g.popped % n
      → Lies n m g.pushed g.popped g.all g.coming p ph → Lies n m g.pushed (g.popped + 1) g.all coming p ph
  lies_popped i p free coming keeps at other k = (k.0, (let u = k.1 in omega arith))
  lies_popped i p (full x) coming keeps at other k = (not_first i p at other k.0, k.1, k.2)
  lies_popped i p (held j call writing o d) coming keeps at other k = (not_first i p at other k.0, k.1, k.2)
  lies_popped i p (held j call swapping o d) coming keeps at other k = (not_first i (p + n) (a_lap_on n p ∙ at) other k.0, k.1, k.2)
  lies_popped i p (held j call reading o d) coming keeps at other k = grind (arith, nat_tests)
  lies_popped i p (held j call displacing o d) coming keeps at other k = grind (arith, nat_tests)

  -- the place at the tail, where it came so far that it may be filled
  pub free_at : (p : ℕ) (ph : Phase T) → p % n ≡ g.pushed % n → CellLies n m g (cell p ph) → 2 * g.pushed ≤ 2 * p + up ph
      → (cell p ph ≡ cell g.pushed free) × (g.pushed < g.popped + n)
  free_at p free at k aged = grind (arith, nat_tests, same_count, cell, free)
  free_at p (full x) at k aged = absurd (let u = k.1 in omega arith)
  free_at p (held j call writing o d) at k aged = absurd (let u = k.1 in omega arith)
  free_at p (held j call swapping o d) at k aged = grind (arith, nat_tests)
  free_at p (held j call reading o d) at k aged = grind (arith, nat_tests)
  free_at p (held j call displacing o d) at k aged = grind (arith, nat_tests)

  -- the place at the head, where it came so far that it may be read
  pub full_at : (p : ℕ) (ph : Phase T) → p % n ≡ g.popped % n → CellLies n m g (cell p ph) → 2 * g.popped + 1 ≤ 2 * p + up ph
      → (y : T) × (cell p ph ≡ cell g.popped (full y)) × IsAt g.all g.popped y × (g.popped < g.pushed)
  full_at p free at k aged = grind (arith, nat_tests, places_differ)
  full_at p (full x) at k aged =
      let is : g.popped ≡ p = same_count n g.popped p k.0 (grind (arith, nat_tests)) (sym at) in
      (x, grind (arith, nat_tests), grind (arith, nat_tests), (let u = k.1 in omega arith))
  full_at p (held j call writing o d) at k aged = grind (arith, nat_tests, places_differ)
  full_at p (held j call swapping o d) at k aged = grind (arith, nat_tests)
  full_at p (held j call reading o d) at k aged = absurd (let u = k.0 in omega arith)
  full_at p (held j call displacing o d) at k aged = absurd (let u = k.0 in omega arith)

  -- whoever has a place, the turn says of which round it is
  pub grip_once : (c d : ℕ) (x y : Grip) → grip_turn n m c x ≡ grip_turn n m d y → c ≡ d
  grip_once c d x y e = grind (arith, nat_tests, writing, one_count, swapping, reading, displacing)

  -- the places of all parties but one say the same
  pub held_put : (places : ℕ → Place T) (p : ℕ) (place : Place T) (i : ℕ) (c : Cell T) → HeldBy n m (with_at places p place) c.round c.phase
      → ((j : ℕ) → j < n → j ≢ i → NotBy p (g.cells j).phase) → ((j : ℕ) → j < n → HeldBy n m places (g.cells j).round (g.cells j).phase)
      → (j : ℕ) → j < n → HeldBy n m (with_at places p place) (with_at g.cells i c j).round (with_at g.cells i c j).phase
  held_put places p place i c here alone before j h9 = grind (arith, nat_tests)
