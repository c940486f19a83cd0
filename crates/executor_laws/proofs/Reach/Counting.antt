-- For common_futures_are_in_reach.
-- Each lone search takes one future from the executor's queues, and what comes into them meanwhile becomes common; so a future that
-- is common is taken by as many searches as futures are common and become so.
use Rattle.std.proofs.Common.{◌≡◌, ◌≢◌, ◌∙◌, ⊎_elim, eqb, ℕ, zero, suc, ◌+◌, ◌<◌, ◌≤◌, List, [], ◌∷◌, ◌++◌, length, take}
use Rattle.std.proofs.Common.{Bool, true, false, ◌&&◌, ◌||◌, ◌==◌, ◌-◌, cond, ltb, refl, sym, ap, subst, arith, append_assoc, length-append}
use Rattle.std.proofs.Math.Seq.{take-append_seam}
use Rattle.std.proofs.lemmas.Bool.Decides.{nat_tests}
use Rattle.std.proofs.lemmas.List.{append_cancel_left}
use Rattle.std.proofs.lemmas.List.Folds.{list_any-append}
use Rattle.std.specs.List.{list_any}
use Rattle.executor_laws.proofs.Types.{Plain, Urgent, Event, Begin}
use Rattle.executor_model.specs.{Due.is_request, Due.since_poll, Emptiness.IsAtRest, Keeper.IsCommon, Sound.times, Steps.Machine}
use Rattle.executor_model.specs.{Trace.Trace, Trace.has, Trace.is_dropped, Trace.is_poll, Weights.same, World.queued_in}
use Rattle.executor_model.proofs.{OneFuture.Stories.no-longer, Steps.Lists.same_cases, Steps.Lists.same_is, Steps.Lists.times-append}
use Rattle.executor_model.proofs.{Steps.Pushes.any-push, Steps.Pushes.since-push, Steps.QueuesByMark.length-all}
use Rattle.executor_model.proofs.{Steps.QueuesByMark.length-first, Steps.QueuesByMark.times-all, Steps.QueuesByMark.times-first}
use Rattle.executor_model.proofs.{Steps.QueuesByMark.without_first_of, Steps.Reached.Reached, Steps.Reached.deep-here}
use Rattle.executor_model.proofs.{Steps.Reached.good-here, Steps.Tests.left-false, Steps.Tests.right-false, Table.Entering.queue-agrees}
use Rattle.executor_laws.specs.Reach.{AreLoneSearches, BecomesCommon, Coming, HasComings, HasCommons, LoneSearch, is_coming, since, takes}
use Rattle.executor_laws.proofs.Placement.Placing.{common-queue, queue-common}
use Rattle.executor_laws.proofs.Reach.Reached.{bonded-here, heard-here}
use Rattle.executor_laws.proofs.Reach.Reaching.{Grows, common-spot, found-events, grows, has-around, run-grows, since-is}
use Rattle.executor_laws.proofs.Reach.Spots.{Spot}
use Rattle.executor_laws.proofs.Reach.Searching.{First, at-rest, first-taken, reached-new}

-- somewhere between it becomes common
module _ (g : ℕ) (es : Trace) (from : ℕ) (before : ¬ IsCommon g (take from es)) where
  becomes : (n : ℕ) → from + n ≤ length es → IsCommon g (take (from + n) es) →
      ((place : ℕ) → from ≤ place → place < from + n → BecomesCommon g place es → ⊥) → ⊥
  becomes zero l c none = before (subst (λ (k : ℕ). IsCommon g (take k es)) (let z : from + 0 ≡ from = omega arith in z) c)
  becomes (suc n) l c none =
      let not-yet : ¬ IsCommon g (take (from + n) es) =
      λ d. becomes n (omega (arith, l)) d (λ place i j x. none place i (omega (arith, j)) x) in
      none (from + n) (omega arith) (omega arith) (record {
        within = omega (arith, l);
        before = not-yet;
        after = subst (λ (k : ℕ). IsCommon g (take k es)) (let z : from + suc n ≡ suc (from + n) = omega arith in z) c;
      })

-- the poll or the drop of a future begins, and then it isn't common
not-after : (g : ℕ) (xs : Trace) (e : Event) → takes g e ≡ true → ¬ IsCommon g (xs ++ e ∷ [])
not-after g xs e k c = by (is_poll g e) refl
  where
    by : (b : Bool) → is_poll g e ≡ b → ⊥
    by true q =
        let no : false ≡ true = sym (since-push (is_poll g) (is_request g) xs e
        ∙ ap (λ (b : Bool). cond b false (has (is_request g) (since_poll g xs) || is_request g e)) q) ∙ c.due.asked_for in absurd (cc)
    by false q =
        let d : is_dropped g e ≡ true = sym (ap (λ (b : Bool). b || is_dropped g e) q) ∙ k in
        let no : true ≡ false = sym (any-push (is_dropped g) (is_dropped g) xs e
        ∙ (ap (λ (b : Bool). has (is_dropped g) xs || b) d ∙ ends (has (is_dropped g) xs))) ∙ c.due.undropped in
        absurd (cc)
      where
        ends : (b : Bool) → (b || true) ≡ true
        ends true = refl
        ends false = refl

record Split (t : Event → Bool) (es : Trace) : Type 0 where
  before : Trace
  this : Event
  after : Trace
  is : es ≡ before ++ this ∷ after
  holds : t this ≡ true

split-at : (t : Event → Bool) (es : Trace) → has t es ≡ true → Split t es
split-at t [] k = absurd (cc)
split-at t (e ∷ es) k = by (t e) refl (λ j. split-at t es j) k
  where
    by : (b : Bool) → t e ≡ b → (has t es ≡ true → Split t es) → (b || has t es) ≡ true → Split t (e ∷ es)
    by true q h j = record { before = []; this = e; after = es; is = refl; holds = q }
    by false q h j =
        let x : Split t es = h j in
        record {
          before = e ∷ x.before;
          this = x.this;
          after = x.after;
          is = ap (λ (xs : Trace). e ∷ xs) x.is;
          holds = x.holds;
        }

-- one search

-- at this moment of it, the future isn't common
record NotThen (g : ℕ) (from to : ℕ) (es : Trace) : Type 0 where
  moment : ℕ
  later : from ≤ moment
  within : moment ≤ to
  not : ¬ IsCommon g (take moment es)

module _ (s : Machine) (r : Reached s) (rest : IsAtRest s) (t : LoneSearch) (k0 : Machine) (x : Spot s.world)
    (a : First x.mark x.future t.party t.call t.found s k0) (r0 : Reached k0) (rest0 : IsAtRest k0) where
  -- what was queued meanwhile
  abbrev came : List ℕ
  came = a.added Urgent ++ a.added Plain

  length-then : suc (length (queued_in k0.world)) ≡ length (queued_in s.world) + length came
  length-then = omega (
    arith,
    length-all k0.world.queues,
    length-all (without_first_of x.mark s.world.queues),
    length-first x.future x.rest x.mark s.world.queues x.is,
    ap (λ (xs : List ℕ). length xs) (a.queue Urgent),
    ap (λ (xs : List ℕ). length xs) (a.queue Plain),
    length-append (without_first_of x.mark s.world.queues).urgent.items (a.added Urgent),
    length-append (without_first_of x.mark s.world.queues).plain.items (a.added Plain),
    length-append (a.added Urgent) (a.added Plain),
  )

  times-then : (g : ℕ) → times g (queued_in k0.world) + same g x.future ≡ times g (queued_in s.world) + times g came
  times-then g = omega (
    arith,
    times-all g k0.world.queues,
    times-all g (without_first_of x.mark s.world.queues),
    times-first g x.future x.rest x.mark s.world.queues x.is,
    ap (times g) (a.queue Urgent),
    ap (times g) (a.queue Plain),
    times-append g (without_first_of x.mark s.world.queues).urgent.items (a.added Urgent),
    times-append g (without_first_of x.mark s.world.queues).plain.items (a.added Plain),
    times-append g (a.added Urgent) (a.added Plain),
  )

  once-then : (g : ℕ) → times g (queued_in k0.world) ≤ 1
  once-then g = (queue-agrees k0 g (good-here k0 r0) (heard-here k0 r0).placed).once

  common-then : (g : ℕ) → 1 ≤ times g (queued_in k0.world) → IsCommon g k0.world.trace
  common-then g k = queue-common k0 (good-here k0 r0) (heard-here k0 r0) (deep-here k0 r0) (bonded-here k0 r0) rest0 g k

  -- one that is put back
  not-taken : (g : ℕ) → x.future ≡ g → (later : Trace) →
      NotThen g (length s.world.trace) (length k0.world.trace) (k0.world.trace ++ later)
  not-taken g e later =
      let y : Split (takes g) a.meanwhile =
      split-at (takes g) a.meanwhile (ap (λ (n : ℕ). has (takes n) a.meanwhile) (sym e) ∙ a.taken) in
      let pre : Trace = s.world.trace ++ Event.CallBegun t.party t.call ∷ y.before in
      let post : Trace = y.after ++ Event.CallEnded t.party t.found ∷ [] in
      let whole : k0.world.trace ≡ (pre ++ y.this ∷ []) ++ post =
      a.events
      ∙ (ap (λ (es : Trace). s.world.trace ++ Event.CallBegun t.party t.call ∷ (es ++ Event.CallEnded t.party t.found ∷ [])) y.is
      ∙ (ap (λ (es : Trace). s.world.trace ++ Event.CallBegun t.party t.call ∷ es)
      (append_assoc y.before (y.this ∷ y.after) (Event.CallEnded t.party t.found ∷ []))
      ∙ (sym (append_assoc s.world.trace (Event.CallBegun t.party t.call ∷ y.before) (y.this ∷ post))
      ∙ sym (append_assoc pre (y.this ∷ []) post)))) in
      record {
        moment = length (pre ++ y.this ∷ []);
        later = omega (
          arith,
          length-append pre (y.this ∷ []),
          length-append s.world.trace (Event.CallBegun t.party t.call ∷ y.before),
        );
        within = omega (arith, ap (λ (es : Trace). length es) whole, length-append (pre ++ y.this ∷ []) post);
        not = subst (λ (es : Trace). ¬ IsCommon g es)
            (sym (ap (λ (es : Trace). take (length (pre ++ y.this ∷ [])) (es ++ later)) whole
            ∙ (ap (take (length (pre ++ y.this ∷ []))) (append_assoc (pre ++ y.this ∷ []) post later)
            ∙ take-append_seam (pre ++ y.this ∷ []) (post ++ later))))
            (not-after g pre y.this y.holds);
      }

  -- one that wasn't queued before
  not-queued : (g : ℕ) → times g (queued_in s.world) ≡ 0 → (later : Trace) →
      NotThen g (length s.world.trace) (length k0.world.trace) (k0.world.trace ++ later)
  not-queued g z later =
      let grown : Trace = (found-events x.mark x.future t.party t.call t.found s k0 a).grown in
      record {
        moment = length s.world.trace;
        later = omega arith;
        within = omega (arith, ap (λ (es : Trace). length es) a.events, length-append s.world.trace grown);
        not = subst (λ (es : Trace). ¬ IsCommon g es)
            (sym (ap (λ (es : Trace). take (length s.world.trace) (es ++ later)) a.events
            ∙ (ap (take (length s.world.trace)) (append_assoc s.world.trace grown later)
            ∙ take-append_seam s.world.trace (grown ++ later))))
            (λ c. omega (
              arith,
              common-queue s (good-here s r) (heard-here s r) (deep-here s r) (bonded-here s r) rest g c,
              z,
            ));
      }

  came-from : (g : ℕ) → 1 ≤ times g came → (later : Trace) →
      NotThen g (length s.world.trace) (length k0.world.trace) (k0.world.trace ++ later)
  came-from g k later = ⊎_elim
      (λ (y : (same g x.future ≡ 1) × (eqb g x.future ≡ true) × (g ≡ x.future)). not-taken g (sym y.2) later)
      (λ (y : (same g x.future ≡ 0) × (eqb g x.future ≡ false) × (g ≢ x.future)).
      not-queued g (omega (arith, k, times-then g, once-then g, y.0)) later)
      (same_cases g x.future)

-- of futures that become common, those that do so before this place, and the others

abbrev futures_before : ℕ → List Coming → List ℕ
futures_before to [] = []
futures_before to (c ∷ cs) = cond (ltb c.place to) (c.future ∷ futures_before to cs) (futures_before to cs)

abbrev others_from : ℕ → List Coming → List Coming
others_from to [] = []
others_from to (c ∷ cs) = cond (ltb c.place to) (others_from to cs) (c ∷ others_from to cs)

both-parts : (to : ℕ) (cs : List Coming) → length (futures_before to cs) + length (others_from to cs) ≡ length cs
both-parts to [] = refl
both-parts to (c ∷ cs) = by (ltb c.place to) (both-parts to cs)
  where
    by : (b : Bool) → length (futures_before to cs) + length (others_from to cs) ≡ length cs →
        length (cond b (c.future ∷ futures_before to cs) (futures_before to cs))
        + length (cond b (others_from to cs) (c ∷ others_from to cs)) ≡ suc (length cs)
    by true h = omega (arith, h)
    by false h = omega (arith, h)

coming-is : (g place : ℕ) (c : Coming) → is_coming g place c ≡ true → (c.future ≡ g) × (c.place ≡ place)
coming-is g place c k = by (c.future == g) (c.place == place) refl refl k
  where
    by : (a b : Bool) → (c.future == g) ≡ a → (c.place == place) ≡ b → (a && b) ≡ true → (c.future ≡ g) × (c.place ≡ place)
    by true true i j e = (grind (arith, nat_tests), grind (arith, nat_tests))
    by true false i j e = absurd (cc)
    by false b i j e = absurd (cc)

early-in : (g place to : ℕ) (cs : List Coming) → list_any (is_coming g place) cs ≡ true → place < to →
    1 ≤ times g (futures_before to cs)
early-in g place to [] k l = absurd (cc)
early-in g place to (c ∷ cs) k l = by (is_coming g place c) refl (λ i. early-in g place to cs i l) k
  where
    here : (b : Bool) → c.place < to → ltb c.place to ≡ b → c.future ≡ g →
        1 ≤ times g (cond b (c.future ∷ futures_before to cs) (futures_before to cs))
    here true i e j = let one : same g c.future ≡ 1 = grind (arith, same_is) in omega (arith, one)
    here false i e j = (let no : ⊥ = grind (arith, nat_tests) in absurd no)

    more : (b : Bool) → 1 ≤ times g (futures_before to cs) →
        1 ≤ times g (cond b (c.future ∷ futures_before to cs) (futures_before to cs))
    more true i = omega (arith, i)
    more false i = i

    by : (b : Bool) → is_coming g place c ≡ b →
        (list_any (is_coming g place) cs ≡ true → 1 ≤ times g (futures_before to cs)) →
        (b || list_any (is_coming g place) cs) ≡ true →
        1 ≤ times g (cond (ltb c.place to) (c.future ∷ futures_before to cs) (futures_before to cs))
    by true e h i =
        let x : (c.future ≡ g) × (c.place ≡ place) = coming-is g place c e in
        here (ltb c.place to) (omega (arith, l, x.1)) refl x.0
    by false e h i = more (ltb c.place to) (h i)

late-in : (g place to : ℕ) (cs : List Coming) → list_any (is_coming g place) cs ≡ true → to ≤ place →
    list_any (is_coming g place) (others_from to cs) ≡ true
late-in g place to [] k l = absurd (cc)
late-in g place to (c ∷ cs) k l = by (is_coming g place c) refl (λ i. late-in g place to cs i l) k
  where
    here : (b : Bool) → to ≤ c.place → ltb c.place to ≡ b → is_coming g place c ≡ true →
        list_any (is_coming g place) (cond b (others_from to cs) (c ∷ others_from to cs)) ≡ true
    here true i e j = (let no : ⊥ = grind (arith, nat_tests) in absurd no)
    here false i e j = ap (λ (b : Bool). b || list_any (is_coming g place) (others_from to cs)) j

    more : (b : Bool) → list_any (is_coming g place) (others_from to cs) ≡ true →
        list_any (is_coming g place) (cond b (others_from to cs) (c ∷ others_from to cs)) ≡ true
    more true i = i
    more false i = ap (λ (b : Bool). is_coming g place c || b) i ∙ ends (is_coming g place c)
      where
        ends : (b : Bool) → (b || true) ≡ true
        ends true = refl
        ends false = refl

    by : (b : Bool) → is_coming g place c ≡ b →
        (list_any (is_coming g place) cs ≡ true → list_any (is_coming g place) (others_from to cs) ≡ true) →
        (b || list_any (is_coming g place) cs) ≡ true →
        list_any (is_coming g place) (cond (ltb c.place to) (others_from to cs) (c ∷ others_from to cs)) ≡ true
    by true e h i =
        let x : (c.future ≡ g) × (c.place ≡ place) = coming-is g place c e in
        here (ltb c.place to) (omega (arith, l, x.1)) refl e
    by false e h i = more (ltb c.place to) (h i)

-- no more are queued in a search than become common in it

module _ (s : Machine) (r : Reached s) (rest : IsAtRest s) (t : LoneSearch) (k0 : Machine) (x : Spot s.world)
    (a : First x.mark x.future t.party t.call t.found s k0) (r0 : Reached k0) (rest0 : IsAtRest k0) (later : Trace)
    (cs : List Coming) (h : HasComings (length s.world.trace) (k0.world.trace ++ later) cs) where
  abbrev arrived : List ℕ
  arrived = a.added Urgent ++ a.added Plain

  few : (g : ℕ) → times g arrived ≤ 1
  few g = omega (
    arith,
    times-then s r rest t k0 x a r0 rest0 g,
    once-then s r rest t k0 x a r0 rest0 g,
    times-first g x.future x.rest x.mark s.world.queues x.is,
  )

  shown : (g : ℕ) → 1 ≤ times g arrived → times g (futures_before (length k0.world.trace) cs) ≡ 0 → ⊥
  shown g k z =
      let y : NotThen g (length s.world.trace) (length k0.world.trace) (k0.world.trace ++ later) =
      came-from s r rest t k0 x a r0 rest0 g k later in
      let n : ℕ = length k0.world.trace - y.moment in
      let sum : y.moment + n ≡ length k0.world.trace = omega (arith, y.within) in
      becomes g (k0.world.trace ++ later) y.moment y.not n
      (omega (arith, sum, length-append k0.world.trace later))
      (subst (λ (es : Trace). IsCommon g es)
      (sym (ap (λ (i : ℕ). take i (k0.world.trace ++ later)) sum ∙ take-append_seam k0.world.trace later))
      (common-then s r rest t k0 x a r0 rest0 g (omega (
        arith,
        k,
        times-then s r rest t k0 x a r0 rest0 g,
        times-first g x.future x.rest x.mark s.world.queues x.is,
      ))))
      (λ place i j b. omega (
        arith,
        z,
        early-in g place (length k0.world.trace) cs (h g place (omega (arith, i, y.later)) b) (omega (arith, j, sum)),
      ))

  no-more-come : length arrived ≤ length (futures_before (length k0.world.trace) cs)
  no-more-come = no-longer arrived (futures_before (length k0.world.trace) cs) (λ g. by g _ refl)
    where
      by : (g n : ℕ) → times g (futures_before (length k0.world.trace) cs) ≡ n →
          times g arrived ≤ times g (futures_before (length k0.world.trace) cs)
      by g (suc n) e = omega (arith, e, few g)
      by g zero e = omega (arith, e, none (times g arrived) refl)
        where
          none : (i : ℕ) → times g arrived ≡ i → times g arrived ≡ 0
          none zero j = j
          none (suc i) j = absurd (shown g (omega (arith, j)) e)

-- lists of searches

times-length : (f : ℕ) (xs : List ℕ) → times f xs ≤ length xs
times-length f [] = omega arith
times-length f (x ∷ xs) =
    let one : same f x ≤ 1 = grind (arith, same_is) in omega (arith, one, times-length f xs)

not-all : (ts : List LoneSearch) (s new : Machine) → Reached s → IsAtRest s → (k : AreLoneSearches ts s new) → (f : ℕ) →
    1 ≤ times f (queued_in s.world) → has (takes f) (grows ts s new k).grown ≡ false → (cs : List Coming) →
    HasComings (length s.world.trace) new.world.trace cs → length ts + 1 ≤ length (queued_in s.world) + length cs
not-all [] s new r rest k f q n cs h = omega (arith, q, times-length f (queued_in s.world))
not-all (t ∷ ts) s new r rest k f q n cs h =
    let k0 : Machine = k.0 in
    let x : Spot s.world = common-spot s r rest f
    (queue-common s (good-here s r) (heard-here s r) (deep-here s r) (bonded-here s r) rest f q) in
    let a : First x.mark x.future t.party t.call t.found s k0 =
    first-taken s r rest t.party t.call t.found t.searches t.steps k0 k.1 x in
    let r0 : Reached k0 = reached-new s r rest t.party t.call t.steps k0 k.1 in
    let rest0 : IsAtRest k0 = at-rest s r rest t.party t.call t.steps k0 k.1 a.there in
    let e : Grows s k0 = run-grows (Begin t.party t.call ∷ t.steps) s k0 k.1.made in
    let y : Grows k0 new = grows ts k0 new k.2 in
    let none : (has (takes f) e.grown || has (takes f) y.grown) ≡ false = sym (list_any-append (takes f) e.grown y.grown) ∙ n in
    let own_events : e.grown ≡ Event.CallBegun t.party t.call ∷ (a.meanwhile ++ Event.CallEnded t.party t.found ∷ []) =
    append_cancel_left s.world.trace e.grown _ (sym e.trace ∙ a.events) in
    let apart : same f x.future ≡ 0 = ⊎_elim
    (λ (z : (same f x.future ≡ 1) × (eqb f x.future ≡ true) × (f ≡ x.future)).
    let there : has (takes f) e.grown ≡ true = ap (has (takes f)) own_events
    ∙ has-around f t.party t.call t.found a.meanwhile
    (ap (λ (i : ℕ). has (takes i) a.meanwhile) z.2 ∙ a.taken) in
    let no : true ≡ false = sym there ∙ left-false (has (takes f) e.grown) (has (takes f) y.grown) none in
    absurd (cc))
    (λ (z : (same f x.future ≡ 0) × (eqb f x.future ≡ false) × (f ≢ x.future)). z.0)
    (same_cases f x.future) in
    let later : length ts + 1 ≤ length (queued_in k0.world) + length (others_from (length k0.world.trace) cs) =
    not-all ts k0 new r0 rest0 k.2 f
    (omega (arith, q, apart, times-then s r rest t k0 x a r0 rest0 f))
    (right-false (has (takes f) e.grown) (has (takes f) y.grown) none)
    (others_from (length k0.world.trace) cs)
    (λ g place i b. late-in g place (length k0.world.trace) cs (h g place (omega (
      arith,
      i,
      ap (λ (es : Trace). length es) e.trace,
      length-append s.world.trace e.grown,
    )) b) i) in
    omega (
      arith,
      later,
      length-then s r rest t k0 x a r0 rest0,
      no-more-come s r rest t k0 x a r0 rest0 y.grown cs
          (subst (λ (es : Trace). HasComings (length s.world.trace) es cs) y.trace h),
      both-parts (length k0.world.trace) cs,
    )

module _ (s : Machine) (r : Reached s) (rest : IsAtRest s) where
  -- no more are queued than are common
  all-common : (commons : List ℕ) → HasCommons s.world.trace commons → length (queued_in s.world) ≤ length commons
  all-common commons k = no-longer (queued_in s.world) commons (λ g. by g _ refl)
    where
      by : (g n : ℕ) → times g (queued_in s.world) ≡ n → times g (queued_in s.world) ≤ times g commons
      by g zero e = omega (arith, e)
      by g (suc n) e = omega (
        arith,
        (queue-agrees s g (good-here s r) (heard-here s r).placed).once,
        k g (queue-common s (good-here s r) (heard-here s r) (deep-here s r) (bonded-here s r) rest g (omega (arith, e))),
      )

  pub takes-each : (commons : List ℕ) → HasCommons s.world.trace commons → (searches : List LoneSearch) (new : Machine) →
      AreLoneSearches searches s new → (comings : List Coming) → HasComings (length s.world.trace) new.world.trace comings →
      length commons + length comings ≤ length searches → (f : ℕ) → IsCommon f s.world.trace →
      has (takes f) (since s new) ≡ true
  takes-each commons k searches new t comings h l f c = by _ refl
    where
      by : (b : Bool) → has (takes f) (grows searches s new t).grown ≡ b → has (takes f) (since s new) ≡ true
      by true e = ap (has (takes f)) (since-is s new (grows searches s new t)) ∙ e
      by false e = absurd (omega (
        arith,
        l,
        all-common commons k,
        not-all searches s new r rest t f
            (common-queue s (good-here s r) (heard-here s r) (deep-here s r) (bonded-here s r) rest f c) e comings h,
      ))
