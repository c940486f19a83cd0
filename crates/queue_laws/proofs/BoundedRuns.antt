-- Every list of steps on a ring is an execution of the closable queue. n is the number of places, m the mark.
use Rattle.std.proofs.lemmas.Bool.Decides.{nat_tests}
use Rattle.std.proofs.Common.{◌≡◌, ◌⊎◌, inl, inr, ℕ, ◌+◌, ◌-◌, ◌%◌, ◌<◌, ◌≤◌, ◌^◌, List, [], ◌∷◌, true, false, Option, Some, None}
use Rattle.std.proofs.Common.{IsSome, sym, refl, ap, ◌∙◌, subst, lt_of_not-le, arith}
use mathlib.Core.Logic.{dite}
use native.Mathlib.Decide.{dec_le}
use Rattle.std.proofs.Math.Nat.{mod-eq_of_lt}
use Rattle.queue_steps.specs.declared.bounded.Slot.{Slot}
use Rattle.queue_steps.specs.BoundedTurns.{Turn, Advance, Fill, Drain, End}
use Rattle.queue_steps.specs.Reply.{Reply, Done, Displaced}
use Rattle.queue_steps.specs.ClosableQueue.{most_accepted}
use Rattle.queue_steps.specs.Calls.{Call, Push, ForcePush, Pop, Close, Len, IsEmptyCall, IsFullCall, IsClosedCall}
use Rattle.queue_laws.specs.Moments.{Sight, Progress}
use Rattle.queue_steps.specs.Bounded.{IsShape, word_at, count_at, is_marked}
use Rattle.queue_laws.specs.SingleSteps.{Step, Begin, Go, answer_of}
use Rattle.queue_laws.specs.BoundedSteps.{Place, Away, Stands, Leaving, BoundedWorld, first_turn, begun, moved, entered, stood, gone}
use Rattle.queue_laws.specs.BoundedSteps.{leaves, left, stepped, begin_moments, turn_moments, go_moments, moments, run, trace, new_ring}
use Rattle.queue_laws.specs.BoundedSteps.{IsNeverEmpty, IsClosableQueue}
use Rattle.queue_steps.proofs.BoundedWords.{index_of_word, first_word, word_a_lap_on, word_fits, count_of_word}
use Rattle.queue_laws.proofs.BoundedStamps.{bare, marked_is, tail_count, a_lap_on}
use Rattle.queue_laws.proofs.BoundedState.{Phase, free, held, Cell, cell, Ghost, kind_of, Sure, Grip, writing, swapping}
use Rattle.queue_laws.proofs.BoundedState.{reading, displacing, up, slot_of, grip_turn, sight_of, scene_of, CellLies, Looks, Grips}
use Rattle.queue_laws.proofs.BoundedState.{StandsAs, Tied}
use Rattle.queue_laws.proofs.BoundedKnows.{length_is}
use Rattle.queue_laws.proofs.BoundedLooks.{up_once}
use Rattle.queue_laws.proofs.BoundedPuts.{Goes, turn_at, is_gripping, is_moving, alone_grip, begins, ends, of_party}
use Rattle.queue_laws.proofs.BoundedHits.{advances}
use Rattle.queue_laws.proofs.BoundedPlaces.{entered_by, leaves_by}
use Rattle.queue_laws.proofs.BoundedChanges.{push_by, force_by, pop_by}
use Rattle.queue_laws.proofs.BoundedAnswers.{len_by, empty_by, full_by, closed_by, closes_by}

module _ (n m : ℕ) (shape : IsShape n m) where
  stamp_fits : (p u : ℕ) → u ≤ 1 → (p ≤ most_accepted) ⊎ ((u ≡ 0) × (p < most_accepted + n)) → word_at n m p + u < 2 ^ 64
  stamp_fits p u once (inl few) =
      let fits = word_fits n m (word_at n m p) shape (let z = count_of_word n m shape p in omega arith) in
      let some = shape.some in let above = shape.above in omega arith
  stamp_fits p u once (inr (none, close)) = dite (dec_le n p)
      (λ le.
      let q : ℕ = p - n in
      let is : q + n ≡ p = (let z : p - n + n ≡ p = omega arith in z) in
      let on = word_a_lap_on n m shape q in
      let here = ap (word_at n m) is in
      let fits = word_fits n m (word_at n m q) shape (let z = count_of_word n m shape q in omega arith) in omega arith)
      (λ not. let less : p < n = lt_of_not-le not in let is = first_word n m shape p less in let above = shape.above in
      let small = shape.few in omega arith)

module _ {T : Type 0} (n m : ℕ) (shape : IsShape n m) where
  module _ (w : BoundedWorld T) (g : Ghost T) (calls : ℕ → Option (Progress T))
      (tied : Tied n m w g calls) (p : ℕ) (k : Progress T) (at : calls p ≡ Some k) where
    abbrev IsNow : Type 0
    IsNow = (older : List (Sight T)) × (k.seen ≡ sight_of n m g ∷ older)

    -- a step by which a call looks at a word, or exchanges it
    abbrev Moved : Call T → Turn → Type 0
    Moved call t = Goes n m shape w g calls (turn_moments n m w p call t) (moved n m w p call t)

    looks_by : (call : Call T) (t : Turn) → w.places p ≡ Stands call t → k.call ≡ call → IsNow → k.answer ≡ None
        → Looks n m g call t k.seen → Moved call t
    looks_by (Push x) t is of seen none h = push_by n m shape w g calls tied p k at x t is of seen none h
    looks_by (ForcePush x) t is of seen none h = force_by n m shape w g calls tied p k at x t is of seen none h
    looks_by Pop t is of seen none h = pop_by n m shape w g calls tied p k at t is of seen none h
    looks_by Close t is of seen none h = closes_by n m shape w g calls tied p k at t is of none h
    looks_by Len t is of seen none h = len_by n m shape w g calls tied p k at t is of seen none h
    looks_by IsEmptyCall t is of seen none h = empty_by n m shape w g calls tied p k at t is of seen none h
    looks_by IsFullCall t is of seen none h = full_by n m shape w g calls tied p k at t is of seen none h
    looks_by IsClosedCall t is of seen none h = closed_by n m shape w g calls tied p k at t is of seen none h

    place_is : (i c : ℕ) (ph : Phase T) → i < n → g.cells i ≡ cell c ph → c % n ≡ i
    place_is i c ph below is = grind (arith, nat_tests)

    lies_so : (i : ℕ) (c : Cell T) → i < n → g.cells i ≡ c → CellLies n m g c
    lies_so i c below is = grind (arith, nat_tests)

    -- the turn of the append that a displacement owes
    advance_by : (call : Call T) (t : ℕ) → w.places p ≡ Stands call (Advance t) → k.call ≡ call → (o : Option T)
        → Grips n m g p call (Advance t) o false k → Moved call (Advance t)
    advance_by call t stand of o h = by h.2 h.4 h.5
      where
        i : ℕ
        i = h.0

        c : ℕ
        c = h.1

        by : (grip : Grip) → g.cells i ≡ cell c (held p call grip o false) → Advance t ≡ grip_turn n m c grip → Moved call (Advance t)
        by writing is e = absurd (let z : Advance t ≡ Fill (word_at n m c) Done = e in cc)
        by swapping is e = absurd (let z : Advance t ≡ Fill (word_at n m (c + n)) Displaced = e in cc)
        by reading is e = absurd (let z : Advance t ≡ Drain (word_at n m c) = e in cc)
        by displacing is e =
            let lying : CellLies n m g (cell c (held p call displacing o false)) =
            lies_so i (cell c (held p call displacing o false)) h.3 is in
            let x : T = lying.3.0 in
            let call_is : call ≡ ForcePush x = lying.3.1 in
            let word : t ≡ word_at n m (c + n) = (let z : Advance t ≡ Advance (word_at n m (c + n)) = e in cc) in
            subst (λ (q : Call T). Moved q (Advance t)) (sym call_is)
            (subst (λ (u : ℕ). Moved (ForcePush x) (Advance u)) (sym word)
            (advances n m shape w g calls tied p k at x c i o h.3
            (subst (λ (q : Call T). g.cells i ≡ cell c (held p q displacing o false)) call_is is)
            (alone_grip n m shape w g calls tied p c i displacing (ap turn_at stand ∙ e) (place_is i c _ h.3 is))
            (of ∙ call_is) (subst (λ (q : Call T). k.answer ≡ Some (answer_of q Displaced o)) call_is h.6)))

    fill_by : (call : Call T) (t : ℕ) (r : Reply) → w.places p ≡ Stands call (Fill t r) → (o : Option T)
        → Grips n m g p call (Fill t r) o false k
        → Goes n m shape w g calls [] (entered n m w p call (Fill t r) t)
    fill_by call t r stand o h = by h.2 h.4 h.5
      where
        i : ℕ
        i = h.0

        c : ℕ
        c = h.1

        by : (grip : Grip) → g.cells i ≡ cell c (held p call grip o false) → Fill t r ≡ grip_turn n m c grip
            → Goes n m shape w g calls [] (entered n m w p call (Fill t r) t)
        by writing is e =
            let word : t ≡ word_at n m c = (let z : Fill t r ≡ Fill (word_at n m c) Done = e in cc) in
            entered_by n m shape w g calls tied p k at call (Fill t r) writing o i c (t % m) h.3 (ap (λ (z : ℕ). z % m) word
            ∙ index_of_word n m shape c ∙ place_is i c _ h.3 is) is e stand tt
            (grind (arith, nat_tests)) h.6
        by swapping is e =
            let word : t ≡ word_at n m (c + n) = (let z : Fill t r ≡ Fill (word_at n m (c + n)) Displaced = e in cc) in
            entered_by n m shape w g calls tied p k at call (Fill t r) swapping o i c (t % m) h.3 (ap (λ (z : ℕ). z % m) word
            ∙ index_of_word n m shape (c + n) ∙ a_lap_on n c ∙ place_is i c _ h.3 is) is e stand tt
            (grind (arith, nat_tests)) h.6
        by reading is e = grind (arith, nat_tests)
        by displacing is e = grind (arith, nat_tests)

    drain_by : (call : Call T) (t : ℕ) → w.places p ≡ Stands call (Drain t) → (o : Option T) → Grips n m g p call (Drain t) o false k
        → Goes n m shape w g calls [] (entered n m w p call (Drain t) t)
    drain_by call t stand o h = by h.2 h.4 h.5
      where
        i : ℕ
        i = h.0

        c : ℕ
        c = h.1

        by : (grip : Grip) → g.cells i ≡ cell c (held p call grip o false) → Drain t ≡ grip_turn n m c grip
            → Goes n m shape w g calls [] (entered n m w p call (Drain t) t)
        by reading is e =
            let word : t ≡ word_at n m c = (let z : Drain t ≡ Drain (word_at n m c) = e in cc) in
            entered_by n m shape w g calls tied p k at call (Drain t) reading o i c (t % m) h.3 (ap (λ (z : ℕ). z % m) word
            ∙ index_of_word n m shape c ∙ place_is i c _ h.3 is) is e stand tt
            (grind (arith, nat_tests)) h.6
        by writing is e = grind (arith, nat_tests)
        by swapping is e = grind (arith, nat_tests)
        by displacing is e = grind (arith, nat_tests)

    filled_by : (call : Call T) (t : ℕ) (r : Reply) (o : Option T) → w.places p ≡ Leaving call (Fill t r) o
        → Grips n m g p call (Fill t r) o true k
        → Goes n m shape w g calls (go_moments n m w p (Leaving call (Fill t r) o)) (left n m w p (Fill t r) t)
    filled_by call t r o stand h =
        leaves_by n m shape w g calls tied p k at call (Fill t r) h.2 o h.0 h.1 (t % m) h.3 (by h.2 h.5) h.4 h.5 stand
        (lies_so h.0 _ h.3 h.4) h.6
      where
        by : (grip : Grip) → Fill t r ≡ grip_turn n m h.1 grip → t % m ≡ h.0
        by grip e = grind (arith, nat_tests, writing, index_of_word, place_is, swapping, a_lap_on, reading, displacing)

    drained_by : (call : Call T) (t : ℕ) (o : Option T) → w.places p ≡ Leaving call (Drain t) o → Grips n m g p call (Drain t) o true k
        → Goes n m shape w g calls (go_moments n m w p (Leaving call (Drain t) o)) (left n m w p (Drain t) t)
    drained_by call t o stand h =
        leaves_by n m shape w g calls tied p k at call (Drain t) h.2 o h.0 h.1 (t % m) h.3 (by h.2 h.5) h.4 h.5 stand
        (lies_so h.0 _ h.3 h.4) h.6
      where
        by : (grip : Grip) → Drain t ≡ grip_turn n m h.1 grip → t % m ≡ h.0
        by grip e = grind (arith, nat_tests, reading, index_of_word, place_is, writing, swapping, displacing)

    stands_by : (call : Call T) (t : Turn) → w.places p ≡ Stands call t → k.call ≡ call → StandsAs n m (kind_of t) g p call t k
        → Goes n m shape w g calls (turn_moments n m w p call t) (stood n m w p call t)
    stands_by call (Advance u) is of h = advance_by call u is of h.0 h.1
    stands_by call (Fill u r) is of h = fill_by call u r is h.0 h.1
    stands_by call (Drain u) is of h = drain_by call u is h.0 h.1
    stands_by call (End r) is of h = ends n m shape w g calls tied p (answer_of call r None) (ap is_gripping is) (ap is_moving is) k at h
    stands_by call t is of h = looks_by call t is of h.0 h.1 h.2

    not_advance : (t : ℕ) (call : Call T) (o : Option T) → Grips n m g p call (Advance t) o true k → ⊥
    not_advance t call o h = grind (arith, nat_tests)

    leaving_by : (call : Call T) (t : Turn) (o : Option T) → w.places p ≡ Leaving call t o → Grips n m g p call t o true k
        → Goes n m shape w g calls (go_moments n m w p (Leaving call t o)) (leaves n m w p t)
    leaving_by call (Fill u r) o is h = filled_by call u r o is h
    leaving_by call (Drain u) o is h = drained_by call u o is h
    leaving_by call (Advance u) o is h = absurd (not_advance u call o h)
    leaving_by call t o is h = grind (arith, nat_tests)

  go_by : (w : BoundedWorld T) (g : Ghost T) (calls : ℕ → Option (Progress T)) (p : ℕ) (place : Place T) → Tied n m w g calls
      → w.places p ≡ place
      → Goes n m shape w g calls (go_moments n m w p place) (gone n m w p place)
  go_by w g calls p Away tied is = (g, calls, refl, tied)
  go_by w g calls p (Stands call t) tied is =
      let k = of_party n m shape w g calls tied p (Stands call t) is in stands_by w g calls tied p k.0 k.1 call t is k.2 k.3
  go_by w g calls p (Leaving call t o) tied is =
      let k = of_party n m shape w g calls tied p (Leaving call t o) is in leaving_by w g calls tied p k.0 k.1 call t o is k.2

  begin_stands : (g : Ghost T) (p : ℕ) (call : Call T) (k : Progress T) → k.call ≡ call
      → ((older : List (Sight T)) × (k.seen ≡ sight_of n m g ∷ older)) → k.answer ≡ None
      → StandsAs n m (kind_of (first_turn n m call)) g p call (first_turn n m call) k
  begin_stands g p (Push x) k of seen none = (seen, none, (Sure, refl, tt))
  begin_stands g p (ForcePush x) k of seen none = (seen, none, (Sure, refl, tt))
  begin_stands g p Pop k of seen none = (seen, none, (Sure, refl, tt))
  begin_stands g p Close k of seen none = (seen, none, (Sure, refl, tt))
  begin_stands g p Len k of seen none = (seen, none, (Sure, refl, tt))
  begin_stands g p IsEmptyCall k of seen none = (seen, none, (Sure, refl, tt))
  begin_stands g p IsFullCall k of seen none = (seen, none, (Sure, refl, tt))
  begin_stands g p IsClosedCall k of seen none = (seen, none, (Sure, refl, tt))

  begin_by : (w : BoundedWorld T) (g : Ghost T) (calls : ℕ → Option (Progress T)) (p : ℕ) (call : Call T) (place : Place T)
      → Tied n m w g calls → w.places p ≡ place
      → Goes n m shape w g calls (begin_moments n m p call place) (begun n m w p call place)
  begin_by w g calls p call Away tied is = grind (arith, nat_tests, begins, begin_stands)
  begin_by w g calls p call (Stands other t) tied is = (g, calls, refl, tied)
  begin_by w g calls p call (Leaving other t o) tied is = (g, calls, refl, tied)

  step_by : (w : BoundedWorld T) (g : Ghost T) (calls : ℕ → Option (Progress T)) (step : Step T) → Tied n m w g calls
      → Goes n m shape w g calls (moments n m w step) (stepped n m w step)
  step_by w g calls (Begin p call) tied = grind (arith, nat_tests, begin_by)
  step_by w g calls (Go p) tied = grind (arith, nat_tests, go_by)

  pub runs : (steps : List (Step T)) (w : BoundedWorld T) (g : Ghost T) (calls : ℕ → Option (Progress T)) → Tied n m w g calls
      → Goes n m shape w g calls (trace n m steps w) (run n m steps w)
  runs [] w g calls tied = (g, calls, refl, tied)
  runs (step ∷ steps) w g calls tied =
      let one = step_by w g calls step tied in
      let rest = runs steps (stepped n m w step) one.0 one.1 one.3 in (
        rest.0,
        rest.1,
        grind (arith, nat_tests),
        rest.3,
      )

  abbrev pub new_ghost : Ghost T
  new_ghost = record { pushed = 0; popped = 0; shut = false; all = []; coming = None; cells = λ i. cell i free }

  pub new_tied : Tied n m (new_ring {T = T} n m) new_ghost (λ p. None)
  new_tied = record {
    base = grind (arith, nat_tests);
    tail = sym (bare n m shape 0 ∙ first_word n m shape 0 shape.some);
    head = sym (first_word n m shape 0 shape.some);
    slots = λ i below. ap (λ (x : ℕ). record { stamp = x; value = None }) (let z = first_word n m shape i below in omega arith);
    rounds = λ i below. mod-eq_of_lt below;
    lies = λ i below. ((omega arith), (omega arith));
    held_by = λ i below. tt;
    comes = tt;
    each = λ p. refl;
  }

  some_is : (o : Option T) (y : T) → o ≡ Some y → IsSome o
  some_is o y is = grind (arith, nat_tests)

  never_empty : (w : BoundedWorld T) (g : Ghost T) (calls : ℕ → Option (Progress T)) → Tied n m w g calls → IsNeverEmpty n m w
  never_empty w g calls tied p h call is =
      let k = of_party n m shape w g calls tied p (Stands call (Drain h)) is in by k.3.0 k.3.1.0 k.3.1.1 k.3.1.2 k.3.1.3 k.3.1.4 k.3.1.5
    where
      by : (o : Option T) (i c : ℕ) (grip : Grip) → i < n → g.cells i ≡ cell c (held p call grip o false) → Drain h ≡ grip_turn n m c grip
          → IsSome (w.slots (h % m)).value
      by o i c writing below at e = grind (arith, nat_tests)
      by o i c swapping below at e = grind (arith, nat_tests)
      by o i c displacing below at e = grind (arith, nat_tests)
      by o i c reading below at e = grind (arith, nat_tests, CellLies, cell, c, held, reading, i, index_of_word, Cell, some_is, slot_of)

  pub a_ring_is_a_queue : (steps : List (Step T)) → IsClosableQueue n m steps
  a_ring_is_a_queue steps =
      let r = runs steps (new_ring n m) new_ghost (λ p. None) new_tied in
      let w : BoundedWorld T = run n m steps (new_ring n m) in
      let g = r.0 in let tied = r.3 in
      let tail_is : count_at n m w.tail ≡ g.pushed = ap (count_at n m) tied.tail ∙ tail_count n m shape g.pushed g.shut in
      let head_is : count_at n m w.head ≡ g.popped = ap (count_at n m) tied.head ∙ count_of_word n m shape g.popped in
      record {
        last = scene_of n m r.0 r.1;
        is_run = r.2;
        closed = sym (ap (is_marked m) tied.tail ∙ marked_is n m shape g.pushed g.shut);
        accepted = ap Some (sym tail_is);
        items = let l = length_is n m g tied.base in omega arith;
        tail = let z = word_fits n m w.tail shape (let f = tied.base.few in omega arith) in omega arith;
        head = let z = word_fits n m w.head shape (grind (arith, nat_tests)) in omega arith;
        stamps = λ i below. subst (λ (s : Slot T). s.stamp < 2 ^ 64) (sym (tied.slots i below))
            (stamp_fits n m shape (g.cells i).round (up (g.cells i).phase) (up_once (g.cells i).phase)
            (grind (arith, nat_tests)));
        never_empty = never_empty w g r.1 tied;
      }
