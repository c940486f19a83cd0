-- For common_futures_are_in_reach_of_runs.
-- A poll of a run that is made alone takes a future, or leaves it as near to the run as it was.
use Rattle.std.proofs.Common.{◌≡◌, ◌∙◌, ◌⊎◌, inl, inr, ⊎_elim, ℕ, suc, ◌+◌, ◌<◌, ◌≤◌, List, [], ◌∷◌, ◌++◌, length}
use Rattle.std.proofs.Common.{get_or, Bool, true, false, eqb, ltb, refl, sym, ap, subst, arith, Ok}
use Rattle.std.proofs.lemmas.Bool.Decides.{nat_tests}
use Rattle.std.specs.Prelude.{Option, Some, None, cond, reverse}
use Rattle.executor_laws.proofs.Types.{Mark, Look, First, Second, Reply, Event, Op, RunOp, RunPoll, Source, Common, Steal, StealOp, TickOp}
use Rattle.executor_laws.proofs.Types.{TickOrRun, Hint, Step, UserEnd}
use Rattle.executor_model.specs.{ActsOfRuns.free_places, Doing.act, Doing.search_by_who, Executions.run_all, OwnQueues.IsEmptyMeanwhile}
use Rattle.executor_model.specs.{OwnQueues.empty_of, OwnQueues.filling_of, Rows.running_of, Steps.Machine, Steps.Part, Steps.accepts}
use Rattle.executor_model.specs.{Steps.end_of, Steps.onto, Steps.part, Steps.react, Steps.settled, Steps.settled_by, Steps.stack}
use Rattle.executor_model.specs.{Steps.with_part, Trace.Trace, Weights.weigh, World.Done, World.World, World.log, World.own_of}
use Rattle.executor_model.specs.{World.queue_of}
use Rattle.executor_model.proofs.{OwnQueues.OwnExecutions.is-empty-meanwhile, Steps.Lift.split, Steps.Lists.weigh-reverse}
use Rattle.executor_model.proofs.{Steps.Reached.Reached, Steps.Reached.run-first, Steps.TraceSteps.more-act, Steps.TraceSteps.more-onto}
use Rattle.executor_model.proofs.{Steps.TraceSteps.more-react, Table.Spawning.top-last}
use Rattle.executor_laws.specs.LoneEnds.{are_onward_of, is_onward_of}
use Rattle.executor_laws.proofs.Reach.LoneMoves.{Inner, inner-act, inner-react, stray_of}
use Rattle.executor_laws.proofs.Reach.Spots.{named, named-append, named-none}
use Rattle.executor_laws.proofs.Reach.LoneSteps.{HasEntry, Last, from-end}
use Rattle.executor_laws.proofs.Reach.LoneTicks.{idle-none, left-true, of-party, stack-set}
use Rattle.executor_laws.proofs.RunReach.RunFinds.{Heading, light-no-end}
use Rattle.executor_laws.proofs.RunReach.RunKeeps.{So, so-more}
use Rattle.executor_laws.proofs.RunReach.RunLeaves.{gone-onto, own-act, own-react}
use Rattle.executor_laws.proofs.RunReach.RunWalks.{Onward, Taken, both-light, from-heading, light, onward, with-heading}
use Rattle.executor_laws.proofs.RunReach.RunWalks.Onward.{acted, answered}
use Rattle.executor_laws.proofs.Turns.LineSteps.{After, Doing, Goes, LooksSo, Others, Rests, Stands, after-look, after-other, after-own}
use Rattle.executor_laws.proofs.Turns.LineSteps.{after-steal, after-turn, after-wake, carry, steal_in, with_hand}
use Rattle.executor_laws.proofs.Turns.Standing.{Phase, Standing}
use Rattle.executor_laws.proofs.Turns.Standing.Phase.{ongoing}
use Rattle.executor_laws.proofs.Walks.Enrolled.{Enrolled}
use Rattle.executor_laws.proofs.Walks.Finding.{enrolled-here, itself, room-here}
use Rattle.executor_laws.proofs.Turns.LineSteps.Goes.{finds, on as on_with, over as over_with}

-- what is left of the poll: the run goes on, below what is beside it; or it has f in hand; or it is over
pub data Waiting (P : Phase → ℕ → List ℕ → List ℕ → Type 0) (m : Mark) (q f : ℕ) (w : World) (os : List Op) : Type 0 where
  going : (t : Phase) (c : Op) (side : List Op) → os ≡ c ∷ side → Doing m q t c → weigh stray_of side ≡ 0 →
      Stands P m q t c w → Waiting P m q f w os
  found_it : Heading f os → Waiting P m q f w os
  over : os ≡ [] → Rests P m q ongoing w → Waiting P m q f w os

ended-hand : (c : Op) (a : Reply) (own : List ℕ) → end_of (Some c) ≡ Some a → own ≡ with_hand c own
ended-hand (Op.End r held) a own e = refl
ended-hand _ a own e = absurd (cc)

ended-phase : (m : Mark) (q : ℕ) (t : Phase) (c : Op) (a : Reply) → end_of (Some c) ≡ Some a → Doing m q t c → t ≡ ongoing
ended-phase m q t (Op.End r held) a e k = k
ended-phase m q t _ a e k = absurd (cc)

-- what holds where the run does this
record Facts (P : Phase → ℕ → List ℕ → List ℕ → Type 0) (m : Mark) (q : ℕ) (c : Op) (w : World) : Type 0 where
  pub turning : (x : RunPoll) → c ≡ Op.Run (RunOp.TakeTurn x) → own_of w x.run ≡ []
  pub empty : (x : RunPoll) (look : Look) → c ≡ Op.Run (RunOp.SearchCommon x look) → own_of w x.run ≡ []
  pub others : Others P m w
  pub known : (o : StealOp) → c ≡ Op.Steal o → (steal_in o).poll.run < length w.own
  pub free : (s : Steal) (more g : ℕ) → c ≡ Op.Steal (StealOp.Put s more g) → ltb 0 (free_places w s.poll.run) ≡ true

same-steal : (s : Steal) (mark : Mark) → s.from ≡ Common mark → s ≡ record { poll = s.poll; from = Common mark; then = s.then }
same-steal s mark e = ap (λ (x : Source). let y : Steal = record { poll = s.poll; from = x; then = s.then } in y) e

module _ (f : ℕ) (m : Mark) (P : Phase → ℕ → List ℕ → List ℕ → Type 0) (law : Standing f P) where
  abbrev Waits-on : ℕ → Part → Type 0
  Waits-on q x = Waiting P m q f x.world x.todo

  settles : (q p : ℕ) (w : World) (t : Phase) (c : Op) (side : List Op) → Doing m q t c → weigh stray_of side ≡ 0 →
      Stands P m q t c w → Waits-on q (settled p w (c ∷ side))
  settles q p w t c side k z y = go (from-end side)
    where
      by-end : (o : Option Reply) → end_of (Some c) ≡ o → Waits-on q (settled_by o p w (c ∷ []))
      by-end None e = going t c [] refl k refl y
      by-end (Some a) e = over refl
          (subst (λ (n : Phase). Rests P m q n (log w (Event.CallEnded p a))) (ended-phase m q t c a e k)
          (carry f m P law t (named m w.trace) (named m (w.trace ++ Event.CallEnded p a ∷ [])) (with_hand c (own_of w q))
          (own_of w q) (queue_of w m).items (queue_of w m).items
          (omega (arith, named-append m w.trace (Event.CallEnded p a ∷ []))) (ended-hand c a (own_of w q) e) refl y))

      go : (side ≡ []) ⊎ Last side → Waits-on q (settled p w (c ∷ side))
      go (inl e) = subst (λ (os : List Op). Waits-on q (settled p w (c ∷ os))) (sym e) (by-end (end_of (Some c)) refl)
      go (inr l) =
          let b : _ = light side l.below l.last l.is z in
          let x : settled p w (c ∷ (l.below ++ l.last ∷ [])) ≡ part w (c ∷ (l.below ++ l.last ∷ [])) =
          ap (λ (v : Option Reply). settled_by v p w (c ∷ (l.below ++ l.last ∷ [])))
          (ap end_of (top-last (c ∷ l.below) l.last) ∙ light-no-end l.last b.1) in
          subst (λ (os : List Op). Waits-on q (settled p w (c ∷ os))) (sym l.is)
          (subst (Waits-on q) (sym x)
          (going t c (l.below ++ l.last ∷ []) refl k (subst (λ (os : List Op). weigh stray_of os ≡ 0) l.is z) y))

  -- the run has done one thing
  after-part : (q p : ℕ) (w : World) (d : Done) → Goes P m q f w.trace w.gone d → Waits-on q (onto p d [])
  after-part q p w d (on_with t c side e k z y) =
      subst (λ (os : List Op). Waits-on q (settled p d.world os)) (sym e) (settles q p d.world t c side k z y)
  after-part q p w d (over_with e y) =
      subst (λ (os : List Op). Waits-on q (settled p d.world (reverse os))) (sym e) (over refl y)
  after-part q p w d (finds h) =
      subst (Waits-on q) (sym (with-heading p f d [] h.heading)) (found_it h.heading)

  -- what the run does itself

  after-first : (p : ℕ) (h : Hint) (t : Phase) (x : RunPoll) (k : Mark) (w : World) → LooksSo m t k → own_of w x.run ≡ [] →
      Others P m w → Rests P m x.run t w → After P m x.run f w (act p h (Op.Run (RunOp.SearchCommon x (First k))) w)
  after-first p h t x k w (inl e) o b z =
      after-look f m P law t (First k) (queue_of w k).items w x e (ap (λ (n : Mark). (queue_of w n).items) (sym e)) o z
  after-first p h t x k w (inr e) o b z = after-other f m P law t k (queue_of w k).items w x e.0 e.1 refl o b z

  after-doing : (q p : ℕ) (h : Hint) (t : Phase) (c : Op) (w : World) → Doing m q t c → Facts P m q c w →
      Stands P m q t c w → After P m q f w (act p h c w)
  after-doing q p h t (Op.Tick (TickOp.Search s)) w e k z =
      subst (λ (who : TickOrRun). After P m q f w (search_by_who who p w s)) (sym e.0)
      (after-own f m P law t (own_of w q) w (record { run = q; waker = s.waker; poll = s.poll }) refl e.1 z)
  after-doing q p h t (Op.Run (RunOp.TakeTurn x)) w e k z =
      subst (λ (r : ℕ). After P m r f w (act p h (Op.Run (RunOp.TakeTurn x)) w)) e.0
      (after-turn f m P law t p w x (k.turning x refl) e.1 (subst (λ (r : ℕ). Rests P m r t w) (sym e.0) z))
  after-doing q p h t (Op.Run (RunOp.SearchCommon x (First n))) w e k z =
      subst (λ (r : ℕ). After P m r f w (act p h (Op.Run (RunOp.SearchCommon x (First n))) w)) e.0
      (after-first p h t x n w e.1 (k.empty x (First n) refl) k.others (subst (λ (r : ℕ). Rests P m r t w) (sym e.0) z))
  after-doing q p h t (Op.Run (RunOp.SearchCommon x (Second n))) w e k z =
      subst (λ (r : ℕ). After P m r f w (act p h (Op.Run (RunOp.SearchCommon x (Second n))) w)) e.0
      (after-look f m P law t (Second n) (queue_of w n).items w x e.1 (ap (λ (i : Mark). (queue_of w i).items) (sym e.1))
      (k.empty x (Second n) refl) (subst (λ (r : ℕ). Rests P m r t w) (sym e.0) z))
  after-doing q p h t (Op.Run (RunOp.WakeOwn x)) w e k z =
      subst (λ (r : ℕ). After P m r f w (act p h (Op.Run (RunOp.WakeOwn x)) w)) e.0
      (after-wake f m P law p h w x (subst (λ (n : Phase). Rests P m x.run n w) e.1
      (subst (λ (r : ℕ). Rests P m r t w) (sym e.0) z)))
  after-doing q p h t (Op.Steal o) w e k z =
      subst (λ (r : ℕ). After P m r f w (act p h (Op.Steal o) w)) e.0.0
      (after-steal f m P law p o w (steal_in o).poll e.0.1.0 (steal_in o).then h k.others
      (same-steal (steal_in o) e.0.1.0 e.0.1.1) e.0.2 (k.known o refl)
      (λ s more g i. subst (λ (y : StealOp). ltb 0 (free_places w (steal_in y).poll.run) ≡ true) (sym i)
      (k.free s more g (ap Op.Steal i)))
      (subst (λ (n : Phase). Stands P m (steal_in o).poll.run n (Op.Steal o) w) e.1
      (subst (λ (r : ℕ). Stands P m r t (Op.Steal o) w) (sym e.0.0) z)))
  after-doing q p h t (Op.End a held) w e k z =
      record {
        goes = over_with refl (carry f m P law ongoing (named m w.trace) (named m (w.trace ++ Event.CallEnded p a ∷ []))
            (own_of w q) (own_of w q) (queue_of w m).items (queue_of w m).items
            (omega (arith, named-append m w.trace (Event.CallEnded p a ∷ []))) refl refl
            (subst (λ (n : Phase). Rests P m q n w) e z));
        gone = refl;
      }
  after-doing q p h t _ w e k z = absurd e

no-user : (m : Mark) (q : ℕ) (t : Phase) (o : Op) (u : UserEnd) → Doing m q t o → accepts o u ≡ true → ⊥
no-user m q t (Op.User o) u k a = k
no-user m q t _ u k a = absurd (cc)

-- where the poll leads: f is taken, or it is as near as it was
pub data Outcome (P : Phase → ℕ → List ℕ → List ℕ → Type 0) (m : Mark) (q f : ℕ) (before : Trace) (new : Machine) : Type 0 where
  taken : Taken f before new.world.trace → Outcome P m q f before new
  stands : Rests P m q ongoing new.world → So before new.world → Outcome P m q f before new

module _ (f : ℕ) (m : Mark) (P : Phase → ℕ → List ℕ → List ℕ → Type 0) (law : Standing f P) (p q : ℕ) (before : Trace)
    (new : Machine) (idles : stack new p ≡ [])
    (others : (s : Machine) → Reached s → (ts : List Step) → run_all ts s ≡ Ok new → Others P m s.world)
    (has-entry : (s : Machine) → Reached s → s.world.gone ≡ false → (meanwhile : Trace) →
    s.world.trace ≡ before ++ meanwhile → HasEntry f s.world meanwhile) where
  module _ (t : Step) (ts : List Step) (s : Machine) (y : Reached s) (k : So before s.world)
      (on : are_onward_of p (t ∷ ts) ≡ true) (made : run_all (t ∷ ts) s ≡ Ok new)
      (further : (v : Machine) → Reached v → So before v.world → Waiting P m q f v.world (stack v p) →
      are_onward_of p ts ≡ true → run_all ts v ≡ Ok new → Outcome P m q f before new) where
    again : (later : List Step) (x : Step) (v : Part) → t ∷ ts ≡ x ∷ later → So before v.world →
        Waiting P m q f v.world v.todo → Reached (with_part s p v) → run_all later (with_part s p v) ≡ Ok new →
        are_onward_of p later ≡ true → p < length s.parties → Outcome P m q f before new
    again later x v te so h y2 n2 on2 l =
        let e : ts ≡ later = cc in
        further (with_part s p v) y2 so (subst (Waiting P m q f v.world) (sym (stack-set p s v l)) h)
        (ap (are_onward_of p) e ∙ on2) (ap (λ (xs : List Step). run_all xs (with_part s p v)) e ∙ n2)

    acts-so : (h : Hint) (o : Op) (below : List Op) → (act p h o s.world).world.gone ≡ s.world.gone →
        So before (onto p (act p h o s.world) below).world
    acts-so h o below g =
        so-more before s.world (onto p (act p h o s.world) below).world k
        (more-onto s.world.trace p (act p h o s.world) below (more-act p h o s.world))
        (gone-onto p (act p h o s.world) below ∙ g)

    reacts-so : (u : UserEnd) (o : Op) (below : List Op) → (react p o u s.world).world.gone ≡ s.world.gone →
        So before (onto p (react p o u s.world) below).world
    reacts-so u o below g =
        so-more before s.world (onto p (react p o u s.world) below).world k
        (more-onto s.world.trace p (react p o u s.world) below (more-react p o u s.world))
        (gone-onto p (react p o u s.world) below ∙ g)

    inside : (a b : ℕ) → (b ≤ a → ⊥) → a < b
    inside a b none = ⊎_elim (λ (z : a < b). z) (λ (z : b ≤ a). absurd (none z)) (or-past a b)
      where
        or-past : (i j : ℕ) → (i < j) ⊎ (j ≤ i)
        or-past i j = grind arith

    facts : (c : Op) → stack s p ≡ [] ++ c ∷ [] → p < length s.parties → Facts P m q c s.world
    facts c e l = record {
      others = others s y (t ∷ ts) made;
      turning = λ x i. (
          let z : IsEmptyMeanwhile s x.run = subst (λ (v : Machine). IsEmptyMeanwhile v x.run) (sym y.is)
          (is-empty-meanwhile y.limit y.kind y.parties y.steps x.run) in
          z (omega (
            arith,
            (itself x.run).0,
            ap (empty_of x.run) i,
            split (empty_of x.run) s.parties p (c ∷ []) [] l e,
          )));
      empty = λ x look i. (
          let z : IsEmptyMeanwhile s x.run = subst (λ (v : Machine). IsEmptyMeanwhile v x.run) (sym y.is)
          (is-empty-meanwhile y.limit y.kind y.parties y.steps x.run) in
          z (omega (
            arith,
            (itself x.run).0,
            ap (empty_of x.run) i,
            split (empty_of x.run) s.parties p (c ∷ []) [] l e,
          )));
      known = λ o i. (
          let h : Enrolled s = enrolled-here s y in
          let r : ℕ = (steal_in o).poll.run in
          omega (
            arith,
            h.even,
            inside r (length s.world.runs) (λ z. omega (
              arith,
              uses o,
              ap (running_of r) i,
              (h.used r).unborn z,
              split (running_of r) s.parties p (c ∷ []) [] l e,
            )),
          ));
      free = λ x more g i. (
          let some : 1 ≤ free_places s.world x.poll.run = omega (
            arith,
            fills x.poll.run more,
            ap (filling_of x.poll.run) i,
            room-here s x.poll.run y,
            split (filling_of x.poll.run) s.parties p (c ∷ []) [] l e,
          ) in grind (arith, nat_tests));
    }
      where
        uses : (o : StealOp) → running_of (steal_in o).poll.run (Op.Steal o) ≡ 1
        uses (StealOp.Length x) = (itself x.poll.run).0
        uses (StealOp.OwnLength x j) = (itself x.poll.run).0
        uses (StealOp.Take x more) = (itself x.poll.run).0
        uses (StealOp.Put x more g) = (itself x.poll.run).0

        fills : (r more : ℕ) → (let i : ℕ = cond (eqb r r) (more + 1) 0 in i) ≡ suc more
        fills r more = ap (λ (b : Bool). let i : ℕ = cond b (more + 1) 0 in i) (itself r).1
            ∙ (let z : more + 1 ≡ suc more = omega arith in z)

    by-control : (a : Phase) (c : Op) → stack s p ≡ [] ++ c ∷ [] → Doing m q a c → Stands P m q a c s.world →
        Outcome P m q f before new
    by-control a c e z tr = go (onward p s new [] c (t ∷ ts) e y idles on made)
      where
        go : Onward p s new [] c (t ∷ ts) → Outcome P m q f before new
        go (answered u later te i y2 n2 on2 l) = absurd (no-user m q a c u z i)
        go (acted h later te w y2 n2 on2 l) =
            let d : After P m q f s.world (act p h c s.world) = after-doing f m P law q p h a c s.world z (facts c e l) tr in
            again later _ (onto p (act p h c s.world) []) te (acts-so h c [] d.gone)
            (after-part f m P law q p s.world (act p h c s.world) d.goes) y2 n2 on2 l

    -- what is beside it leaves f as near
    stands-beside : (a : Phase) (c : Op) (d : Done) → Inner s.world d → d.world.own ≡ s.world.own →
        Stands P m q a c s.world → Stands P m q a c d.world
    stands-beside a c d i o z = carry f m P law a (named m s.world.trace) (named m d.world.trace)
        (with_hand c (own_of s.world q)) (with_hand c (own_of d.world q)) ((queue_of s.world m).items ++ i.added m)
        (queue_of d.world m).items
        (omega (arith, ap (named m) i.trace, named-append m s.world.trace i.events, named-none m i.events i.no_turn))
        (ap (λ (qs : List (List ℕ)). with_hand c (get_or qs q [])) o) (i.queue m)
        (law.added a (named m s.world.trace) (with_hand c (own_of s.world q)) (queue_of s.world m).items (i.added m) z)

    by-side : (a : Phase) (c : Op) (below : List Op) (o : Op) → stack s p ≡ (c ∷ below) ++ o ∷ [] → Doing m q a c →
        weigh stray_of below ≡ 0 → stray_of o ≡ 0 → Stands P m q a c s.world → Outcome P m q f before new
    by-side a c below o e z b x tr = go (onward p s new (c ∷ below) o (t ∷ ts) e y idles on made)
      where
        go : Onward p s new (c ∷ below) o (t ∷ ts) → Outcome P m q f before new
        go (acted h later te w y2 n2 on2 l) =
            let i : Inner s.world (act p h o s.world) = inner-act p h o s.world w x in
            again later _ (onto p (act p h o s.world) (c ∷ below)) te (acts-so h o (c ∷ below) i.there)
            (settles f m P law q p (act p h o s.world).world a c (below ++ reverse (act p h o s.world).next) z
            (both-light below (reverse (act p h o s.world).next) b
            (weigh-reverse stray_of (act p h o s.world).next ∙ i.plain))
            (stands-beside a c (act p h o s.world) i (own-act p h o s.world x) tr)) y2 n2 on2 l
        go (answered u later te w y2 n2 on2 l) =
            let i : Inner s.world (react p o u s.world) = inner-react p o u s.world w x in
            again later _ (onto p (react p o u s.world) (c ∷ below)) te (reacts-so u o (c ∷ below) i.there)
            (settles f m P law q p (react p o u s.world).world a c (below ++ reverse (react p o u s.world).next) z
            (both-light below (reverse (react p o u s.world).next) b
            (weigh-reverse stray_of (react p o u s.world).next ∙ i.plain))
            (stands-beside a c (react p o u s.world) i (own-react p o u s.world) tr)) y2 n2 on2 l

    by-over : stack s p ≡ [] → Outcome P m q f before new
    by-over e =
        let first : is_onward_of p t ≡ true = (left-true (is_onward_of p t) (are_onward_of p ts) on).0 in
        absurd (idle-none p t s.world s.parties (stack s p) e first
        (of-party p s t first (run-first t ts s new made).0).2)

    by-going : (a : Phase) (c : Op) (side : List Op) → stack s p ≡ c ∷ side → Doing m q a c → weigh stray_of side ≡ 0 →
        Stands P m q a c s.world → Outcome P m q f before new
    by-going a c side e z x tr = go (from-end side)
      where
        go : (side ≡ []) ⊎ Last side → Outcome P m q f before new
        go (inl v) = by-control a c (e ∙ ap (λ (os : List Op). c ∷ os) v) z tr
        go (inr v) = let b : _ = light side v.below v.last v.is x in
            by-side a c v.below v.last (e ∙ ap (λ (os : List Op). c ∷ os) v.is) z b.0 b.1 tr

    by-kind : Waiting P m q f s.world (stack s p) → Outcome P m q f before new
    by-kind (going a c side e z x tr) = by-going a c side e z x tr
    by-kind (found_it h) =
        taken (from-heading p f before new idles has-entry (t ∷ ts) s y k.meanwhile k.trace k.there h on made)
    by-kind (over e tr) = by-over e

  pub walks : (ts : List Step) (s : Machine) → Reached s → So before s.world → Waiting P m q f s.world (stack s p) →
      are_onward_of p ts ≡ true → run_all ts s ≡ Ok new → Outcome P m q f before new
  walks [] s y k (over e t) on made =
      let same_one : s ≡ new = cc in
      stands (subst (λ (x : Machine). Rests P m q ongoing x.world) same_one t)
      (subst (λ (x : Machine). So before x.world) same_one k)
  walks [] s y k (going a c side e z x t) on made =
      let same_one : s ≡ new = cc in
      let no : c ∷ side ≡ [] = sym e ∙ (ap (λ (v : Machine). stack v p) same_one ∙ idles) in absurd (cc)
  walks [] s y k (found_it h) on made =
      taken (from-heading p f before new idles has-entry [] s y k.meanwhile k.trace k.there h on made)
  walks (t ∷ ts) s y k h on made =
      by-kind t ts s y k on made (λ v y2 k2 h2 on2 m2. walks ts v y2 k2 h2 on2 m2) h
