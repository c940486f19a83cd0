-- For common_futures_are_in_reach and arrival_order_needs_fewer_ticks.
-- Lone calls that look for a future reach the common ones.
use Rattle.std.proofs.Common.{◌≡◌, ◌≢◌, eqb, ltb, ℕ, zero, suc, ◌+◌, ◌<◌, ◌≤◌, List, [], ◌∷◌, ◌++◌, length, get_or}
use Rattle.std.proofs.Common.{drop, Bool, true, false, cond, ◌||◌, refl, sym, ap, subst, ◌∙◌, ⊎_elim, arith}
use Rattle.std.proofs.Common.{append-nil, append_assoc, length-append, Ok}
use Rattle.std.proofs.Math.Seq.{drop-append_seam}
use Rattle.std.proofs.lemmas.Bool.Decides.{nat_tests}
use Rattle.std.proofs.lemmas.List.{append_cancel_left, get_or_past}
use Rattle.std.proofs.lemmas.List.Folds.{list_any-append}
use Rattle.std.specs.Prelude.{All, Some, filter}
use Rattle.executor_parts.specs.Marks.{first_of, other, same_mark}
use Rattle.executor_laws.proofs.Types.{Mark, Plain, Urgent, Call, Reply, Event, Kind, Step, Begin}
use Rattle.executor_model.specs.{Trace.Trace, Trace.has, Keeper.IsCommon, Emptiness.IsAtRest, Executions.run_all, Weights.same, Sound.times}
use Rattle.executor_model.specs.{Steps.Machine, Steps.run, Steps.start, World.World, World.mark_of, World.queue_of, World.queued_in}
use Rattle.executor_model.proofs.{Steps.Lists.same_cases, Steps.Lists.times-append, Steps.QueuesByMark.mark-cases}
use Rattle.executor_model.proofs.{Steps.QueuesByMark.times-all, Steps.QueuesByMark.times-one, OneFuture.Stories.no-longer}
use Rattle.executor_model.proofs.{Table.Entering.queue-agrees, Steps.TraceSteps.IsContinued, Steps.TraceSteps.run-continues}
use Rattle.executor_model.proofs.{Steps.Reached.Reached, Steps.Reached.run-of, Steps.Reached.good-here, Steps.Reached.deep-here}
use Rattle.executor_model.proofs.{Steps.Tests.or-left, Steps.Tests.or-right}
use Rattle.executor_laws.specs.{LoneEnds.IsLoneCall, Reach.found_answer, Reach.LoneSearch, Reach.AreLoneSearches, Reach.takes}
use Rattle.executor_laws.specs.{Reach.TakesCommon, Reach.names, Reach.since, Reach.HasCommons, Reach.HasCommonsOf, Reach.IsReachedInOrder}
use Rattle.executor_laws.proofs.Reach.Reached.{bonded-here, heard-here}
use Rattle.executor_laws.proofs.Placement.Placing.{common-queue, queue-common}
use Rattle.executor_laws.proofs.Exactness.Ticking.{first-queued, first-times, none-queued}
use Rattle.executor_laws.proofs.Reach.Marked.{all-before, marked-here}
use Rattle.executor_laws.proofs.Reach.Spots.{AllEmpty, Spot, left-other, left-same, left_in, named, named-append, named-filter, spot}
use Rattle.executor_laws.proofs.Reach.Searching.{First, at-rest, first-taken, reached-new}

module _ (s : Machine) (r : Reached s) (rest : IsAtRest s) where
  -- where a future is common, some queue isn't empty
  pub common-spot : (f : ℕ) → IsCommon f s.world.trace → Spot s.world
  common-spot f common = ⊎_elim
      (λ (e : AllEmpty s.world). absurd (omega (
        arith,
        common-queue s (good-here s r) (heard-here s r) (deep-here s r) (bonded-here s r) rest f common,
        none-queued s.world (first_of s.world.urgent_turns) f e.0 e.1,
      )))
      (λ (x : Spot s.world). x)
      (spot s.world)

  pub spot-common : (x : Spot s.world) → IsCommon x.future s.world.trace
  spot-common x = queue-common s (good-here s r) (heard-here s r) (deep-here s r) (bonded-here s r) rest x.future
      (first-queued s.world x.mark x.future x.rest x.is)

  -- a call that looks takes a future that was common
  pub takes-common : (f : ℕ) → IsCommon f s.world.trace → (p : ℕ) (c : Call) (a : Reply) → found_answer c ≡ Some a →
      (steps : List Step) (new : Machine) → IsLoneCall p c steps s new → TakesCommon p c a s new
  takes-common f common p c a e steps new k =
      let x : Spot s.world = common-spot f common in
      let t : First x.mark x.future p c a s new = first-taken s r rest p c a e steps new k x in
      record {
        future = x.future;
        common = spot-common x;
        meanwhile = t.meanwhile;
        events = t.events;
        taken = t.taken;
      }

-- lists of such calls

pub record Grows (s new : Machine) : Type 0 where
  pub grown : Trace
  pub trace : new.world.trace ≡ s.world.trace ++ grown

pub run-grows : (ts : List Step) (s new : Machine) → run_all ts s ≡ Ok new → Grows s new
run-grows ts s new e = let on : IsContinued s.world.trace (run ts s).world.trace = run-continues ts s in
    record { grown = on.0; trace = sym (ap (λ (m : Machine). m.world.trace) (run-of ts s new e)) ∙ on.1 }

abbrev pub grows-and : (s next new : Machine) → Grows s next → Grows next new → Grows s new
grows-and s next new x y = record {
  grown = x.grown ++ y.grown;
  trace = y.trace
      ∙ (ap (λ (es : Trace). es ++ y.grown) x.trace ∙ append_assoc s.world.trace x.grown y.grown);
}

abbrev pub grows : (ts : List LoneSearch) (s new : Machine) → AreLoneSearches ts s new → Grows s new
grows [] s new e =
    record { grown = []; trace = sym (ap (λ (m : Machine). m.world.trace) e) ∙ sym (append-nil s.world.trace) }
grows (t ∷ ts) s new k = grows-and s k.0 new (run-grows (Begin t.party t.call ∷ t.steps) s k.0 k.1.made)
    (grows ts k.0 new k.2)

pub record Takes (f : ℕ) (s new : Machine) : Type 0 where
  pub grows : Grows s new
  pub taken : has (takes f) grows.grown ≡ true

pub has-around : (f p : ℕ) (c : Call) (a : Reply) (es : Trace) → has (takes f) es ≡ true →
    has (takes f) (Event.CallBegun p c ∷ (es ++ Event.CallEnded p a ∷ [])) ≡ true
has-around f p c a es e = list_any-append (takes f) es (Event.CallEnded p a ∷ []) ∙ ap (λ (b : Bool). b || false) e

-- what a search does that finds a future
abbrev pub found-events : (m : Mark) (f p : ℕ) (c : Call) (a : Reply) (s new : Machine) → First m f p c a s new → Grows s new
found-events m f p c a s new x = record {
  grown = Event.CallBegun p c ∷ (x.meanwhile ++ Event.CallEnded p a ∷ []);
  trace = x.events;
}

-- one turn is taken by it
pub one-turn : (m : Mark) (f p : ℕ) (c : Call) (a : Reply) (s new : Machine) (x : First m f p c a s new) (n : Mark) →
    named n (found-events m f p c a s new x).grown ≡ cond (same_mark n (first_of s.world.urgent_turns)) 1 0
one-turn m f p c a s new x n = omega (arith, named-append n x.meanwhile (Event.CallEnded p a ∷ []), x.turn n)

-- where a search finds its future, by the place of another in the queue of mark m
pub data Where (m : Mark) (front : List ℕ) (f : ℕ) (back : List ℕ) (w : World) (x : Spot w) : Type 0 where
  -- it takes that one
  takes_it : x.mark ≡ m → x.future ≡ f → front ≡ [] → left_in x.mark w m ≡ back → Where m front f back w x
  -- it takes one before it
  takes_before : (g : ℕ) (less : List ℕ) → front ≡ g ∷ less → left_in x.mark w m ≡ less ++ f ∷ back →
      Where m front f back w x
  -- it takes from the other queue, which its turn named
  takes_other : x.mark ≡ other m → first_of w.urgent_turns ≡ other m → left_in x.mark w m ≡ front ++ f ∷ back →
      Where m front f back w x

first-is : (f g : ℕ) (xs ys : List ℕ) → f ∷ xs ≡ g ∷ ys → (f ≡ g) × (xs ≡ ys)
first-is f g xs ys e = (cc, cc)

other-twice : (m : Mark) → other (other m) ≡ m
other-twice Plain = refl
other-twice Urgent = refl

where-found : (m : Mark) (front : List ℕ) (f : ℕ) (back : List ℕ) (w : World) (x : Spot w) →
    (queue_of w m).items ≡ front ++ f ∷ back → Where m front f back w x
where-found m front f back w x q = ⊎_elim
    (λ (e : x.mark ≡ m). here e front q)
    (λ (e : x.mark ≡ other m). ⊎_elim
    (λ (t : x.mark ≡ first_of w.urgent_turns). takes_other e (sym t ∙ e) (there e))
    (λ (t : (x.mark ≡ other (first_of w.urgent_turns)) × ((queue_of w (first_of w.urgent_turns)).items ≡ [])).
    let same : first_of w.urgent_turns ≡ m =
    sym (other-twice (first_of w.urgent_turns)) ∙ (ap other (sym t.0 ∙ e) ∙ other-twice m) in
    absurd (not-empty front (sym q ∙ (ap (λ (n : Mark). (queue_of w n).items) (sym same) ∙ t.1))))
    x.turn)
    (mark-cases m x.mark)
  where
    not-empty : (front : List ℕ) → front ++ f ∷ back ≡ [] → ⊥
    not-empty [] e = absurd (cc)
    not-empty (g ∷ front) e = absurd (cc)

    there : x.mark ≡ other m → left_in x.mark w m ≡ front ++ f ∷ back
    there e = ap (λ (n : Mark). left_in n w m) e
        ∙ (ap (left_in (other m) w) (sym (other-twice m))
        ∙ (left-other (other m) w ∙ (ap (λ (n : Mark). (queue_of w n).items) (other-twice m) ∙ q)))

    here : x.mark ≡ m → (front : List ℕ) → (queue_of w m).items ≡ front ++ f ∷ back → Where m front f back w x
    here e [] z =
        let y : _ = first-is x.future f x.rest back (sym (ap (λ (n : Mark). (queue_of w n).items) (sym e) ∙ x.is) ∙ z) in
        takes_it e y.0 refl (ap (λ (n : Mark). left_in n w m) e ∙ left-same m f back w z)
    here e (g ∷ less) z = takes_before g less refl
        (ap (λ (n : Mark). left_in n w m) e ∙ left-same m g (less ++ f ∷ back) w z)

one-at-most : (b : Bool) → cond b 1 0 ≤ 1
one-at-most true = omega arith
one-at-most false = omega arith

other-none : (m : Mark) → (let i : ℕ = cond (same_mark m (other m)) 1 0 in i) ≡ 0
other-none Plain = refl
other-none Urgent = refl

module _ (m : Mark) (f : ℕ) where
  -- the first in a queue is taken first, by so many turns that name that queue
  takes-place : (ts : List LoneSearch) (s new : Machine) → Reached s → IsAtRest s → (front back : List ℕ) →
      (queue_of s.world m).items ≡ front ++ f ∷ back → (k : AreLoneSearches ts s new) →
      length front < named m (grows ts s new k).grown → Takes f s new
  takes-place [] s new r rest front back q k l = absurd (omega (arith, l))
  takes-place (t ∷ ts) s new r rest front back q k l =
      let x : Spot s.world =
      common-spot s r rest f (queue-common s (good-here s r) (heard-here s r) (deep-here s r) (bonded-here s r) rest f
      (queued-place s.world front back q)) in
      let a : First x.mark x.future t.party t.call t.found s k.0 =
      first-taken s r rest t.party t.call t.found t.searches t.steps k.0 k.1 x in
      let e : Grows s k.0 = run-grows (Begin t.party t.call ∷ t.steps) s k.0 k.1.made in
      let same_events : e.grown ≡ Event.CallBegun t.party t.call ∷ (a.meanwhile ++ Event.CallEnded t.party t.found ∷ []) =
      append_cancel_left s.world.trace e.grown _ (sym e.trace ∙ a.events) in
      let count : named m (grows (t ∷ ts) s new k).grown
      ≡ cond (same_mark m (first_of s.world.urgent_turns)) 1 0 + named m (grows ts k.0 new k.2).grown =
      omega (
        arith,
        named-append m e.grown (grows ts k.0 new k.2).grown,
        ap (named m) same_events,
        one-turn x.mark x.future t.party t.call t.found s k.0 a m,
      ) in
      on x a e same_events count
      (λ less more i n. takes-place ts k.0 new (reached-new s r rest t.party t.call t.steps k.0 k.1)
      (at-rest s r rest t.party t.call t.steps k.0 k.1 a.there) less more i k.2 n)
      (where-found m front f back s.world x q)
    where
      queued-place : (w : World) (front back : List ℕ) → (queue_of w m).items ≡ front ++ f ∷ back → 1 ≤ times f (queued_in w)
      queued-place w front back q = omega (
        arith,
        times-one f m w.queues,
        ap (times f) q,
        times-append f front (f ∷ back),
        first-times f back,
      )

      again : Grows s k.0 → Takes f k.0 new → Takes f s new
      again e y = record {
        grows = grows-and s k.0 new e y.grows;
        taken = list_any-append (takes f) e.grown y.grows.grown ∙ or-right _ _ y.taken;
      }

      on : (x : Spot s.world) → (a : First x.mark x.future t.party t.call t.found s k.0) → (e : Grows s k.0) →
          e.grown ≡ Event.CallBegun t.party t.call ∷ (a.meanwhile ++ Event.CallEnded t.party t.found ∷ []) →
          named m (grows (t ∷ ts) s new k).grown
          ≡ cond (same_mark m (first_of s.world.urgent_turns)) 1 0 + named m (grows ts k.0 new k.2).grown →
          ((less more : List ℕ) → (queue_of k.0.world m).items ≡ less ++ f ∷ more →
          length less < named m (grows ts k.0 new k.2).grown → Takes f k.0 new) →
          Where m front f back s.world x → Takes f s new
      on x a e i c further (takes_it _ g _ _) = record {
        grows = grows-and s k.0 new e (grows ts k.0 new k.2);
        taken = list_any-append (takes f) e.grown (grows ts k.0 new k.2).grown
            ∙ or-left _ _ (ap (has (takes f)) i
            ∙ has-around f t.party t.call t.found a.meanwhile
            (ap (λ (y : ℕ). has (takes y) a.meanwhile) (sym g) ∙ a.taken));
      }
      on x a e i c further (takes_before g less z j) = again e (further less (back ++ a.added m)
          (a.queue m ∙ (ap (λ (ys : List ℕ). ys ++ a.added m) j ∙ append_assoc less (f ∷ back) (a.added m)))
          (omega (arith, l, c, ap length z, one-at-most (same_mark m (first_of s.world.urgent_turns)))))
      on x a e i c further (takes_other z d j) = again e (further front (back ++ a.added m)
          (a.queue m ∙ (ap (λ (ys : List ℕ). ys ++ a.added m) j ∙ append_assoc front (f ∷ back) (a.added m)))
          (omega (arith, l, c, ap (λ (n : Mark). let i : ℕ = cond (same_mark m n) 1 0 in i) d, other-none m)))

pub record QueuePlace (f : ℕ) (xs : List ℕ) : Type 0 where
  pub front : List ℕ
  pub back : List ℕ
  pub is : xs ≡ front ++ f ∷ back

pub place : (f : ℕ) (xs : List ℕ) → 1 ≤ times f xs → QueuePlace f xs
place f [] k = absurd (omega (arith, k))
place f (g ∷ xs) k = ⊎_elim
    (λ (x : (same f g ≡ 1) × (eqb f g ≡ true) × (f ≡ g)).
    record { front = []; back = xs; is = ap (λ (y : ℕ). y ∷ xs) (sym x.2) })
    (λ (x : (same f g ≡ 0) × (eqb f g ≡ false) × (f ≢ g)). let y : QueuePlace f xs = place f xs (omega (
      arith,
      k,
      x.0,
    )) in record { front = g ∷ y.front; back = y.back; is = ap (λ (ys : List ℕ). g ∷ ys) y.is })
    (same_cases f g)

pub since-is : (s new : Machine) → (x : Grows s new) → since s new ≡ x.grown
since-is s new x = ap (λ (es : Trace). drop (length s.world.trace) es) x.trace ∙ drop-append_seam s.world.trace x.grown

-- the marks stay
pub plain-before : (ts : List LoneSearch) (s new : Machine) → AreLoneSearches ts s new → All (λ m. m ≡ Plain) new.world.marks →
    All (λ m. m ≡ Plain) s.world.marks
plain-before [] s new e plain = subst (λ (x : Machine). All (λ m. m ≡ Plain) x.world.marks) (sym e) plain
plain-before (t ∷ ts) s new k plain = all-before s k.0 (Begin t.party t.call ∷ t.steps) k.1.made
    (plain-before ts k.0 new k.2 plain)

pub mark-plain : (ms : List Mark) → All (λ m. m ≡ Plain) ms → (f : ℕ) → get_or ms f Plain ≡ Plain
mark-plain ms k f = by (ltb f (length ms)) refl
  where
    by : (b : Bool) → ltb f (length ms) ≡ b → get_or ms f Plain ≡ Plain
    by true e = k f Plain (grind (arith, nat_tests))
    by false e = get_or_past ms f Plain (grind (arith, nat_tests))

-- no future is urgent, so none is queued there
pub none-urgent : (s : Machine) → Reached s → All (λ m. m ≡ Plain) s.world.marks → (queue_of s.world Urgent).items ≡ []
none-urgent s r plain = by (queue_of s.world Urgent).items refl
  where
    by : (xs : List ℕ) → (queue_of s.world Urgent).items ≡ xs → xs ≡ []
    by [] e = refl
    by (g ∷ xs) e =
        let no : Plain ≡ Urgent = sym (mark-plain s.world.marks plain g)
        ∙ marked-here s r Urgent g (omega (arith, ap (times g) e, first-times g xs)) in absurd (cc)

-- a search then takes what is first in the plain queue
module _ (f : ℕ) where
  takes-plain : (ts : List LoneSearch) (s new : Machine) → Reached s → IsAtRest s → (front back : List ℕ) →
      (queue_of s.world Plain).items ≡ front ++ f ∷ back → (k : AreLoneSearches ts s new) →
      All (λ m. m ≡ Plain) new.world.marks → length front < length ts → Takes f s new
  takes-plain [] s new r rest front back q k plain l = absurd (omega (arith, l))
  takes-plain (t ∷ ts) s new r rest front back q k plain l =
      let common : IsCommon f s.world.trace = queue-common s (good-here s r) (heard-here s r) (deep-here s r)
      (bonded-here s r) rest f (omega (
        arith,
        times-one f Plain s.world.queues,
        ap (times f) q,
        times-append f front (f ∷ back),
        first-times f back,
      )) in
      let x : Spot s.world = common-spot s r rest f common in
      let a : First x.mark x.future t.party t.call t.found s k.0 =
      first-taken s r rest t.party t.call t.found t.searches t.steps k.0 k.1 x in
      on x a
      (λ less more i n. takes-plain ts k.0 new (reached-new s r rest t.party t.call t.steps k.0 k.1)
      (at-rest s r rest t.party t.call t.steps k.0 k.1 a.there) less more i k.2 plain n)
      (where-found Plain front f back s.world x q)
    where
      e : Grows s k.0
      e = run-grows (Begin t.party t.call ∷ t.steps) s k.0 k.1.made

      empty : (queue_of s.world Urgent).items ≡ []
      empty = none-urgent s r (plain-before (t ∷ ts) s new k plain)

      on : (x : Spot s.world) → (a : First x.mark x.future t.party t.call t.found s k.0) →
          ((less more : List ℕ) → (queue_of k.0.world Plain).items ≡ less ++ f ∷ more → length less < length ts →
          Takes f k.0 new) → Where Plain front f back s.world x → Takes f s new
      on x a further (takes_it _ g _ _) = record {
        grows = grows-and s k.0 new (found-events x.mark x.future t.party t.call t.found s k.0 a) (grows ts k.0 new k.2);
        taken = list_any-append (takes f)
            (Event.CallBegun t.party t.call ∷ (a.meanwhile ++ Event.CallEnded t.party t.found ∷ []))
            (grows ts k.0 new k.2).grown
            ∙ or-left _ _ (has-around f t.party t.call t.found a.meanwhile
            (ap (λ (y : ℕ). has (takes y) a.meanwhile) (sym g) ∙ a.taken));
      }
      on x a further (takes_before g less z j) =
          let y : Takes f k.0 new = further less (back ++ a.added Plain)
          (a.queue Plain
          ∙ (ap (λ (ys : List ℕ). ys ++ a.added Plain) j ∙ append_assoc less (f ∷ back) (a.added Plain)))
          (omega (arith, l, ap length z)) in
          record {
            grows = grows-and s k.0 new e y.grows;
            taken = list_any-append (takes f) e.grown y.grows.grown ∙ or-right _ _ y.taken;
          }
      on x a further (takes_other z d j) =
          let no : x.future ∷ x.rest ≡ [] =
          sym x.is ∙ (ap (λ (n : Mark). (queue_of s.world n).items) z ∙ empty) in absurd (cc)

times-both : (m : Mark) (f : ℕ) (w : World) → times f (queued_in w)
    ≡ times f (queue_of w m).items + times f (queue_of w (other m)).items
times-both Urgent f w = times-all f w.queues
times-both Plain f w = omega (arith, times-all f w.queues)

-- the futures of this mark

module _ (s : Machine) (r : Reached s) (rest : IsAtRest s) (m : Mark) where
  -- its queue isn't longer than a list that has each of them that is common
  pub not-longer : (commons : List ℕ) → HasCommonsOf m s commons → length (queue_of s.world m).items ≤ length commons
  not-longer commons k =
      no-longer (queue_of s.world m).items commons (λ g. by g (times g (queue_of s.world m).items) refl)
    where
      by : (g n : ℕ) → times g (queue_of s.world m).items ≡ n → times g (queue_of s.world m).items ≤ times g commons
      by g zero e = omega (arith, e)
      by g (suc n) e =
          let common : IsCommon g s.world.trace = queue-common s (good-here s r) (heard-here s r) (deep-here s r)
          (bonded-here s r) rest g (omega (arith, e, times-one g m s.world.queues)) in
          omega (
            arith,
            times-one g m s.world.queues,
            (queue-agrees s g (good-here s r) (heard-here s r).placed).once,
            k g common (marked-here s r m g (omega (arith, e))),
          )

  -- each of them that is common is in it
  pub in-queue : (f : ℕ) → IsCommon f s.world.trace → mark_of s.world f ≡ m → 1 ≤ times f (queue_of s.world m).items
  in-queue f c e = by (times f (queue_of s.world (other m)).items) refl
    where
      apart : (m : Mark) → m ≡ other m → ⊥
      apart Plain z = absurd (cc)
      apart Urgent z = absurd (cc)

      by : (n : ℕ) → times f (queue_of s.world (other m)).items ≡ n → 1 ≤ times f (queue_of s.world m).items
      by zero z = omega (
        arith,
        z,
        common-queue s (good-here s r) (heard-here s r) (deep-here s r) (bonded-here s r) rest f c,
        times-both m f s.world,
      )
      by (suc n) z = absurd (apart m (sym e ∙ marked-here s r (other m) f (omega (arith, z))))

  takes-all : (commons : List ℕ) → HasCommonsOf m s commons → (searches : List LoneSearch) (new : Machine) →
      AreLoneSearches searches s new → length commons ≤ length (filter (names m) (since s new)) → (f : ℕ) →
      IsCommon f s.world.trace → mark_of s.world f ≡ m → has (takes f) (since s new) ≡ true
  takes-all commons k searches new t l f c e =
      let place-of : QueuePlace f (queue_of s.world m).items = place f (queue_of s.world m).items (in-queue f c e) in
      let all : Grows s new = grows searches s new t in
      let grown-is : since s new ≡ all.grown = since-is s new all in
      let x : Takes f s new =
      takes-place m f searches s new r rest place-of.front place-of.back place-of.is t (omega (
        arith,
        l,
        ap (λ (es : Trace). length (filter (names m) es)) grown-is,
        named-filter m all.grown,
        not-longer commons k,
        ap length place-of.is,
        length-append place-of.front (f ∷ place-of.back),
      )) in
      ap (has (takes f)) (since-is s new x.grows) ∙ x.taken

-- where all are plain, each search takes from the plain queue

module _ (s : Machine) (r : Reached s) (rest : IsAtRest s) where
  all-plain : (commons : List ℕ) → HasCommons s.world.trace commons → (searches : List LoneSearch) (new : Machine) →
      AreLoneSearches searches s new → All (λ m. m ≡ Plain) new.world.marks → length commons ≤ length searches →
      (f : ℕ) → IsCommon f s.world.trace → has (takes f) (since s new) ≡ true
  all-plain commons k searches new t plain l f c =
      let first : All (λ m. m ≡ Plain) s.world.marks = plain-before searches s new t plain in
      let place-of : QueuePlace f (queue_of s.world Plain).items =
      place f (queue_of s.world Plain).items (in-queue s r rest Plain f c (mark-plain s.world.marks first f)) in
      let x : Takes f s new =
      takes-plain f searches s new r rest place-of.front place-of.back place-of.is t plain (omega (
        arith,
        l,
        not-longer s r rest Plain commons (λ g d e. k g d),
        ap length place-of.is,
        length-append place-of.front (f ∷ place-of.back),
      )) in
      ap (has (takes f)) (since-is s new x.grows) ∙ x.taken

pub reaches-in-order : (limit : ℕ) (kind : Kind) (parties : ℕ) (steps : List Step) → IsReachedInOrder (run steps (start limit kind parties))
reaches-in-order limit kind parties steps =
    let s : Machine = run steps (start limit kind parties) in
    let r : Reached s = record { limit = limit; kind = kind; parties = parties; steps = steps; is = refl } in record {
      by_mark = λ rest m commons k searches new t l f c e. takes-all s r rest m commons k searches new t l f c e;
      plain = λ rest commons k searches new t plain l f c. all-plain s r rest commons k searches new t plain l f c;
    }
