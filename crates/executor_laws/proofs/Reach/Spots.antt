-- For common_futures_are_in_reach and arrival_order_needs_fewer_ticks.
-- The queue in which a search finds a future, and how many turns name a mark.
use Rattle.std.proofs.Common.{◌≡◌, ◌⊎◌, ℕ, ◌+◌, List, [], ◌∷◌, ◌++◌, length, drop, cond}
use Rattle.std.proofs.Common.{Bool, true, false, ◌||◌, refl, ap, inl, inr}
use Rattle.std.proofs.Common.{arith}
use Rattle.std.specs.Prelude.{filter}
use Rattle.executor_parts.specs.Marks.{first_of, other}
use Rattle.executor_laws.proofs.Types.{Mark, Plain, Urgent, Event}
use Rattle.executor_model.specs.{Trace.Trace, Trace.has, World.World, World.queue_of, Queues.queue_in}
use Rattle.executor_laws.specs.Reach.{names}
use Rattle.executor_laws.proofs.Reach.LoneMoves.{is_turn}
use Rattle.executor_model.proofs.Steps.QueuesByMark.{without_first_of}

-- so many turns named this mark
abbrev pub named : Mark → Trace → ℕ
named m [] = 0
named m (e ∷ es) = cond (names m e) 1 0 + named m es

pub named-append : (m : Mark) (xs ys : Trace) → named m (xs ++ ys) ≡ named m xs + named m ys
named-append m [] ys = omega arith
named-append m (x ∷ xs) ys = omega (arith, named-append m xs ys)

pub named-filter : (m : Mark) (es : Trace) → length (filter (names m) es) ≡ named m es
named-filter m [] = refl
named-filter m (e ∷ es) = omega (arith, one (names m e), named-filter m es)
  where
    one : (b : Bool) → length (cond b (e ∷ filter (names m) es) (filter (names m) es))
        ≡ cond b 1 0 + length (filter (names m) es)
    one true = omega arith
    one false = omega arith

pub named-none : (m : Mark) (es : Trace) → has is_turn es ≡ false → named m es ≡ 0
named-none m [] k = refl
named-none m (e ∷ es) k = omega (
  arith,
  quiet e (left-no (is_turn e) (has is_turn es) k).0,
  named-none m es (left-no (is_turn e) (has is_turn es) k).1,
)
  where
    left-no : (a b : Bool) → (a || b) ≡ false → (a ≡ false) × (b ≡ false)
    left-no true b q = absurd (cc)
    left-no false b q = (refl, q)

    quiet : (e : Event) → is_turn e ≡ false → (let n : ℕ = cond (names m e) 1 0 in n) ≡ 0
    quiet (Event.Looked p n) q = absurd (cc)
    quiet _ q = refl

-- what is left in each queue once the first future of that one is taken
abbrev pub left_in : Mark → World → Mark → List ℕ
left_in m w n = (queue_in n (without_first_of m w.queues)).items

pub left-same : (m : Mark) (f : ℕ) (xs : List ℕ) (w : World) → (queue_of w m).items ≡ f ∷ xs → left_in m w m ≡ xs
left-same Urgent f xs w q = ap (drop 1) q
left-same Plain f xs w q = ap (drop 1) q

pub left-other : (m : Mark) (w : World) → left_in m w (other m) ≡ (queue_of w (other m)).items
left-other Urgent w = refl
left-other Plain w = refl

-- which future a search takes that is made alone: the first of the queue that its turn names, or, where that is empty, the
-- first of the other one
pub record Spot (w : World) : Type 0 where
  pub mark : Mark
  pub future : ℕ
  pub rest : List ℕ
  pub is : (queue_of w mark).items ≡ future ∷ rest
  pub turn : (mark ≡ first_of w.urgent_turns) ⊎
      ((mark ≡ other (first_of w.urgent_turns)) × ((queue_of w (first_of w.urgent_turns)).items ≡ []))

abbrev pub AllEmpty : World → Type 0
AllEmpty w = ((queue_of w (first_of w.urgent_turns)).items ≡ []) × ((queue_of w (other (first_of w.urgent_turns))).items ≡ [])

pub spot : (w : World) → AllEmpty w ⊎ Spot w
spot w = by _ _ refl refl
  where
    by : (xs ys : List ℕ) → (queue_of w (first_of w.urgent_turns)).items ≡ xs →
        (queue_of w (other (first_of w.urgent_turns))).items ≡ ys → AllEmpty w ⊎ Spot w
    by [] [] q u = inl (q, u)
    by [] (f ∷ ys) q u = inr record {
      mark = other (first_of w.urgent_turns);
      future = f;
      rest = ys;
      is = u;
      turn = inr (refl, q);
    }
    by (f ∷ xs) ys q u = inr record { mark = first_of w.urgent_turns; future = f; rest = xs; is = q; turn = inl refl }
