-- For common_futures_are_in_reach_of_runs.
-- How near a future is to a run that is polled alone, by what stands in the run's own queue and in the executor's queue of one
-- mark, and by how many turns have named that mark. Such a nearness holds while the run takes from both in their order.
use Rattle.std.proofs.Common.{◌≡◌, ◌∙◌, ◌⊎◌, inl, inr, ⊎_elim, ℕ, suc, ◌+◌, ◌<◌, ◌≤◌, List, [], ◌∷◌, ◌++◌, length}
use Rattle.std.proofs.Common.{eqb, true, false, refl, sym, ap, subst, arith, append_assoc, ◌≢◌}
use Rattle.executor_model.specs.{Sound.times, Weights.same}
use Rattle.executor_model.proofs.Steps.Lists.{same_cases, times-append}
use Rattle.executor_laws.proofs.Exactness.Ticking.{first-times}

-- the run has taken nothing yet in this poll; or it has just taken a turn that named the mark, and is to look there; or else
pub data Phase : Type 0 where
  fresh : Phase
  looking : Phase
  ongoing : Phase

abbrev pub Untold : Phase → Type 0
Untold fresh = true ≡ true
Untold looking = ⊥
Untold ongoing = true ≡ true

-- f is as near as that, by the phase, the turns so far that named the mark, and both queues
pub record Standing (f : ℕ) (P : Phase → ℕ → List ℕ → List ℕ → Type 0) : Type 0 where
  -- what is first is taken: that is f, or f stands as before
  pub first : (t : Phase) (k h : ℕ) (own q : List ℕ) → P t k (h ∷ own) q → (h ≡ f) ⊎ P ongoing k own q
  pub look : (t : Phase) (k h : ℕ) (q : List ℕ) → P t k [] (h ∷ q) → (h ≡ f) ⊎ P ongoing k [] q
  pub none : (t : Phase) (k : ℕ) → P t k [] [] → ⊥
  -- a turn names the mark
  pub turns : (t : Phase) (k : ℕ) (q : List ℕ) → Untold t → P t k [] q → P looking (suc k) [] q
  -- the first of the executor's queue moves behind the run's own
  pub moves : (k h : ℕ) (own q : List ℕ) → P ongoing k own (h ∷ q) → P ongoing k (own ++ h ∷ []) q
  -- more is queued
  pub added : (t : Phase) (k : ℕ) (own q more : List ℕ) → P t k own q → P t k own (q ++ more)

-- and it holds too while the run takes futures of the other mark
pub record Beside (P : Phase → ℕ → List ℕ → List ℕ → Type 0) : Type 0 where
  pub behind : (k g : ℕ) (own q : List ℕ) → P ongoing k own q → P ongoing k (own ++ g ∷ []) q
  pub found : (t : Phase) (k : ℕ) (q : List ℕ) → Untold t → P t k [] q → P ongoing k [] q

-- f stands in the list, and it and those before it are fewer than n, beside so many others
pub record InLine (f k n : ℕ) (xs : List ℕ) : Type 0 where
  pub front : List ℕ
  pub later : List ℕ
  pub is : xs ≡ front ++ f ∷ later
  pub few : k + length front < n

line-more : (f k n : ℕ) (xs ys : List ℕ) → InLine f k n xs → InLine f k n (xs ++ ys)
line-more f k n xs ys x = record {
  front = x.front;
  later = x.later ++ ys;
  is = ap (λ (zs : List ℕ). zs ++ ys) x.is ∙ append_assoc x.front (f ∷ x.later) ys;
  few = x.few;
}

line-first : (f k n l m h : ℕ) (rest : List ℕ) → ((i : ℕ) → k + suc i < n → l + i < m) → InLine f k n (h ∷ rest) →
    (h ≡ f) ⊎ InLine f l m rest
line-first f k n l m h rest j x = by x.front x.is x.few
  where
    by : (front : List ℕ) → h ∷ rest ≡ front ++ f ∷ x.later → k + length front < n → (h ≡ f) ⊎ InLine f l m rest
    by [] e i = inl (cc)
    by (g ∷ front) e i = inr (record {
      front = front;
      later = x.later;
      is = (let y : rest ≡ front ++ f ∷ x.later = cc in y);
      few = j (length front) (omega (arith, i));
    })

line-empty : (f k n : ℕ) → InLine f k n [] → ⊥
line-empty f k n x = by x.front x.is
  where
    by : (front : List ℕ) → [] ≡ front ++ f ∷ x.later → ⊥
    by [] e = absurd (cc)
    by (g ∷ front) e = absurd (cc)

-- where nothing comes between both queues, f stands in both as in one line, and each poll takes one before it

abbrev pub paid : Phase → ℕ
paid fresh = 0
paid looking = 0
paid ongoing = 1

abbrev pub InAll : ℕ → ℕ → Phase → ℕ → List ℕ → List ℕ → Type 0
InAll f n t k own q = InLine f (paid t) n (own ++ q)

paid-one : (t : Phase) → paid t ≤ 1
paid-one fresh = omega arith
paid-one looking = omega arith
paid-one ongoing = omega arith

pub in-all : (f n : ℕ) → Standing f (InAll f n)
in-all f n = record {
  first = λ t k h own q x. line-first f (paid t) n 1 n h (own ++ q) (λ i l. omega (arith, l)) x;
  look = λ t k h q x. line-first f (paid t) n 1 n h q (λ i l. omega (arith, l)) x;
  none = λ t k x. line-empty f (paid t) n x;
  turns = λ t k q u x. record { front = x.front; later = x.later; is = x.is; few = omega (arith, x.few) };
  moves = λ k h own q x. subst (InLine f 1 n) (sym (append_assoc own (h ∷ []) q)) x;
  added = λ t k own q more x. subst (InLine f (paid t) n) (append_assoc own q more) (line-more f (paid t) n (own ++ q) more x);
}

-- f stands in the run's own queue, which is empty at the next turn, or in the executor's queue, from which each turn that names
-- the mark takes one before it; n turns will have named it

abbrev pub ByTurns : ℕ → ℕ → Phase → ℕ → List ℕ → List ℕ → Type 0
ByTurns f n fresh k own q = ((1 ≤ times f own) × (k < n)) ⊎ InLine f k n q
ByTurns f n looking k own q = (own ≡ []) × InLine f k (suc n) q
ByTurns f n ongoing k own q = ((1 ≤ times f own) × (k < n)) ⊎ InLine f k n q

module _ (f n : ℕ) where
  first-own : (k h : ℕ) (own q : List ℕ) → ByTurns f n ongoing k (h ∷ own) q → (h ≡ f) ⊎ ByTurns f n ongoing k own q
  first-own k h own q (inl x) = ⊎_elim
      (λ (y : (same f h ≡ 1) × (eqb f h ≡ true) × (f ≡ h)). inl (sym y.2))
      (λ (y : (same f h ≡ 0) × (eqb f h ≡ false) × (f ≢ h)). inr (inl (omega (arith, x.0, y.0), x.1)))
      (same_cases f h)
  first-own k h own q (inr x) = inr (inr x)

  first-by : (t : Phase) (k h : ℕ) (own q : List ℕ) → ByTurns f n t k (h ∷ own) q → (h ≡ f) ⊎ ByTurns f n ongoing k own q
  first-by fresh k h own q x = first-own k h own q x
  first-by looking k h own q x = (let no : h ∷ own ≡ [] = x.0 in absurd (cc))
  first-by ongoing k h own q x = first-own k h own q x

  look-at : (k h : ℕ) (q : List ℕ) → ByTurns f n ongoing k [] (h ∷ q) → (h ≡ f) ⊎ ByTurns f n ongoing k [] q
  look-at k h q (inl x) = absurd (omega (arith, x.0))
  look-at k h q (inr x) = ⊎_elim
      (λ (y : h ≡ f). inl y)
      (λ (y : InLine f k n q). inr (inr y))
      (line-first f k n k n h q (λ i l. omega (arith, l)) x)

  look-by : (t : Phase) (k h : ℕ) (q : List ℕ) → ByTurns f n t k [] (h ∷ q) → (h ≡ f) ⊎ ByTurns f n ongoing k [] q
  look-by fresh k h q x = look-at k h q x
  look-by looking k h q x = ⊎_elim
      (λ (y : h ≡ f). inl y)
      (λ (y : InLine f k n q). inr (inr y))
      (line-first f k (suc n) k n h q (λ i l. omega (arith, l)) x.1)
  look-by ongoing k h q x = look-at k h q x

  none-at : (k : ℕ) → ByTurns f n ongoing k [] [] → ⊥
  none-at k (inl x) = absurd (omega (arith, x.0))
  none-at k (inr x) = line-empty f k n x

  none-by : (t : Phase) (k : ℕ) → ByTurns f n t k [] [] → ⊥
  none-by fresh k x = none-at k x
  none-by looking k x = line-empty f k (suc n) x.1
  none-by ongoing k x = none-at k x

  turns-at : (k : ℕ) (q : List ℕ) → ByTurns f n ongoing k [] q → ByTurns f n looking (suc k) [] q
  turns-at k q (inl x) = absurd (omega (arith, x.0))
  turns-at k q (inr x) = (refl, record { front = x.front; later = x.later; is = x.is; few = omega (arith, x.few) })

  turns-by : (t : Phase) (k : ℕ) (q : List ℕ) → Untold t → ByTurns f n t k [] q → ByTurns f n looking (suc k) [] q
  turns-by fresh k q u x = turns-at k q x
  turns-by looking k q u x = absurd u
  turns-by ongoing k q u x = turns-at k q x

  moves-by : (k h : ℕ) (own q : List ℕ) → ByTurns f n ongoing k own (h ∷ q) → ByTurns f n ongoing k (own ++ h ∷ []) q
  moves-by k h own q (inl x) = inl (omega (arith, x.0, times-append f own (h ∷ [])), x.1)
  moves-by k h own q (inr x) = ⊎_elim
      (λ (y : h ≡ f). inl (
        omega (
          arith,
          times-append f own (h ∷ []),
          ap (λ (g : ℕ). times f (g ∷ [])) y,
          first-times f (let xs : List ℕ = [] in xs),
        ),
        omega (arith, x.few),
      ))
      (λ (y : InLine f k n q). inr y)
      (line-first f k n k n h q (λ i l. omega (arith, l)) x)

  added-at : (k : ℕ) (own q more : List ℕ) → ByTurns f n ongoing k own q → ByTurns f n ongoing k own (q ++ more)
  added-at k own q more (inl x) = inl x
  added-at k own q more (inr x) = inr (line-more f k n q more x)

  added-by : (t : Phase) (k : ℕ) (own q more : List ℕ) → ByTurns f n t k own q → ByTurns f n t k own (q ++ more)
  added-by fresh k own q more x = added-at k own q more x
  added-by looking k own q more x = (x.0, line-more f k (suc n) q more x.1)
  added-by ongoing k own q more x = added-at k own q more x

  pub by-turns : Standing f (ByTurns f n)
  by-turns = record {
    first = first-by;
    look = look-by;
    none = none-by;
    turns = turns-by;
    moves = moves-by;
    added = added-by;
  }

  behind-by : (k g : ℕ) (own q : List ℕ) → ByTurns f n ongoing k own q → ByTurns f n ongoing k (own ++ g ∷ []) q
  behind-by k g own q (inl x) = inl (omega (arith, x.0, times-append f own (g ∷ [])), x.1)
  behind-by k g own q (inr x) = inr x

  found-by : (t : Phase) (k : ℕ) (q : List ℕ) → Untold t → ByTurns f n t k [] q → ByTurns f n ongoing k [] q
  found-by fresh k q u x = x
  found-by looking k q u x = absurd u
  found-by ongoing k q u x = x

  pub beside-turns : Beside (ByTurns f n)
  beside-turns = record { behind = behind-by; found = found-by }
