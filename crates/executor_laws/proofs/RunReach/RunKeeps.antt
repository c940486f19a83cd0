-- For runs_reach_futures, kept_futures_are_in_reach and dropped_runs_leave_common_futures.
-- A poll of a run that is made alone leaves each future that it doesn't take nearer to the front of the run's queue.
use Rattle.std.proofs.Common.{◌≡◌, ◌⊎◌, ◌∙◌, inl, inr, ⊎_elim, ℕ, zero, suc, ◌<◌, ◌≤◌, List, [], ◌∷◌, ◌++◌, length}
use Rattle.std.proofs.Common.{true, false, drop, refl, sym, ap, subst, arith, append-nil, append_assoc, length-append, Ok}
use Rattle.std.proofs.lemmas.List.{reverse-append}
use Rattle.std.proofs.lemmas.List.Folds.{list_any-append}
use Rattle.std.proofs.Math.Seq.{drop-append_seam}
use Rattle.std.specs.Prelude.{Option, Some, None, reverse}
use Rattle.executor_laws.proofs.Types.{By, Call, Reply, Event, Kind, ListOp, Op, RunPoll, TickOp, Hint, Step, Begin, UserEnd}
use Rattle.executor_model.specs.{ActsOfRuns.asleep, ActsOfRuns.behind, ActsOfRuns.search_own_by, Doing.act, Due.IsDue, Emptiness.IsAtRest}
use Rattle.executor_model.specs.{Executions.run_all, Sound.times, Steps.Machine, Steps.Part, Steps.end_of, Steps.onto, Steps.part}
use Rattle.executor_model.specs.{Steps.react, Steps.run, Steps.settled, Steps.settled_by, Steps.stack, Steps.start, Steps.top}
use Rattle.executor_model.specs.{Steps.with_part, Trace.Trace, Trace.has, Weights.weigh, World.Done, World.World, World.log, World.own_of}
use Rattle.executor_model.proofs.{Steps.Lists.times-append, Steps.Lists.weigh-append, Steps.Lists.weigh-reverse, Table.Spawning.top-last}
use Rattle.executor_model.proofs.{OneFuture.Stories.no-longer, Steps.TraceSteps.More, Steps.TraceSteps.more-act, Steps.TraceSteps.more-onto}
use Rattle.executor_model.proofs.{Steps.TraceSteps.more-react, Steps.Reached.Reached, Steps.Reached.deep-here, Steps.Reached.good-here}
use Rattle.executor_model.proofs.{Steps.Reached.run-first, Steps.Tests.or-left, Steps.Tests.or-right}
use Rattle.executor_laws.specs.{LoneEnds.are_onward_of, LoneEnds.is_onward_of, Reach.since, Reach.takes, RunReach.AreLonePolls}
use Rattle.executor_laws.specs.{RunReach.HasKept, RunReach.IsKeptReached, RunReach.IsLonePoll, RunReach.Keeps, RunReach.LoneRunPoll}
use Rattle.executor_laws.proofs.Reach.LoneMoves.{stray_of}
use Rattle.executor_laws.proofs.Reach.LoneSteps.{HasEntry, Last, from-end}
use Rattle.executor_laws.proofs.Reach.Reached.{bonded-here, heard-here}
use Rattle.executor_laws.proofs.Reach.LoneTicks.{idle-none, left-true, of-party, stack-set}
use Rattle.executor_laws.proofs.Placement.Placing.{in-own, keeper-own, own-keeper, queued-due}
use Rattle.executor_laws.proofs.Reach.Reaching.{Grows, QueuePlace, Takes, grows-and, place, run-grows}
use Rattle.executor_laws.proofs.RunReach.RunLeaves.{gone-onto}
use Rattle.executor_laws.proofs.RunReach.RunFinds.{Heading, light-no-end}
use Rattle.executor_laws.proofs.RunReach.RunArrives.{entry}
use Rattle.executor_laws.proofs.RunReach.RunReaching.{arrived, is-due, new-idle, poll, reached-new, takes-first}
use Rattle.executor_laws.proofs.RunReach.RunReaching.First.{in_own}
use Rattle.executor_laws.proofs.RunReach.RunSteps.{After, Aside, Control, Goes, Tracked, after-control, after-own, aside-act, aside-react}
use Rattle.executor_laws.proofs.RunReach.RunSteps.{no-user, same-own, side-kind, side_of}
use Rattle.executor_laws.proofs.RunReach.RunWalks.{Onward, Taken, from-heading, not-nil, onward, with-heading}
use Rattle.executor_laws.proofs.RunReach.RunWalks.Onward.{acted, answered}
use Rattle.executor_laws.proofs.Reach.Searching.{at-rest}
use Rattle.executor_laws.proofs.Exactness.Ticking.{first-times}
use Rattle.executor_laws.proofs.RunReach.RunSteps.Goes.{ends, finds, finds_behind, on as on_with}

-- what has happened since
pub record So (before : Trace) (w : World) : Type 0 where
  pub meanwhile : Trace
  pub trace : w.trace ≡ before ++ meanwhile
  pub there : w.gone ≡ false

pub so-more : (before : Trace) (w v : World) → So before w → More w.trace v.trace → v.gone ≡ w.gone → So before v
so-more before w v k m g = record {
  meanwhile = k.meanwhile ++ m.more;
  trace = m.is ∙ (ap (λ (es : Trace). es ++ m.more) k.trace ∙ append_assoc before k.meanwhile m.more);
  there = g ∙ k.there;
}

-- what is left of the poll, its last thing on top: the run goes on, below what is beside it; or it has f in hand
pub data Keeping (q f n : ℕ) (w : World) (os : List Op) : Type 0 where
  going : (c : Op) (side : List Op) → os ≡ c ∷ side → Control q c → weigh side_of side ≡ 0 → Tracked q f n w →
      Keeping q f n w os
  found_it : Heading f os → Keeping q f n w os
  unlocks : (hs : List Op) → os ≡ hs ++ Op.List ListOp.UnlockRead ∷ [] → Heading f hs → Keeping q f n w os
  over : os ≡ [] → Tracked q f n w → Keeping q f n w os

abbrev Keeps-on : ℕ → ℕ → ℕ → Part → Type 0
Keeps-on q f n x = Keeping q f n x.world x.todo

pub side-no-end : (o : Op) → side_of o ≡ 0 → end_of (Some o) ≡ None
side-no-end o z = ⊎_elim
    (λ (e : o ≡ Op.List ListOp.UnlockRead). ap (λ (x : Op). end_of (Some x)) e)
    (λ (x : stray_of o ≡ 0). light-no-end o x)
    (side-kind o z)

pub light-last : (side below : List Op) (o : Op) → side ≡ below ++ o ∷ [] → weigh side_of side ≡ 0 →
    (weigh side_of below ≡ 0) × (side_of o ≡ 0)
light-last side below o e z = (
  omega (arith, z, ap (weigh side_of) e, weigh-append side_of below (o ∷ [])),
  omega (
    arith,
    z,
    ap (weigh side_of) e,
    weigh-append side_of below (o ∷ []),
  ),
)

-- a call that ends with nothing beside its end has ended
settles : (q f n p : ℕ) (w : World) (c : Op) (side : List Op) → Control q c → weigh side_of side ≡ 0 →
    Tracked q f n w → Keeps-on q f n (settled p w (c ∷ side))
settles q f n p w c side k z t = go (from-end side)
  where
    by-end : (o : Option Reply) → Keeps-on q f n (settled_by o p w (c ∷ []))
    by-end None = going c [] refl k refl t
    by-end (Some a) = over refl (same-own q f n w (log w (Event.CallEnded p a)) refl t)

    go : (side ≡ []) ⊎ Last side → Keeps-on q f n (settled p w (c ∷ side))
    go (inl e) = subst (λ (os : List Op). Keeps-on q f n (settled p w (c ∷ os))) (sym e) (by-end (end_of (top (c ∷ []))))
    go (inr l) =
        let b : _ = light-last side l.below l.last l.is z in
        let x : settled p w (c ∷ (l.below ++ l.last ∷ [])) ≡ part w (c ∷ (l.below ++ l.last ∷ [])) =
        ap (λ (v : Option Reply). settled_by v p w (c ∷ (l.below ++ l.last ∷ [])))
        (ap end_of (top-last (c ∷ l.below) l.last) ∙ side-no-end l.last b.1) in
        subst (λ (os : List Op). Keeps-on q f n (settled p w (c ∷ os))) (sym l.is)
        (subst (Keeps-on q f n) (sym x)
        (going c (l.below ++ l.last ∷ []) refl k (subst (λ (os : List Op). weigh side_of os ≡ 0) l.is z) t))

-- the run has done one thing
pub after-part : (q f n p : ℕ) (w : World) (d : Done) → Goes q f n w.trace w.gone d →
    Keeps-on q f n (onto p d [])
after-part q f n p w d (on_with h t) =
    subst (λ (os : List Op). Keeps-on q f n (settled p d.world os)) (sym h.is)
    (settles q f n p d.world h.control h.side h.kind h.light t)
after-part q f n p w d (ends e t) =
    subst (λ (os : List Op). Keeps-on q f n (settled p d.world (reverse os))) (sym e) (over refl t)
after-part q f n p w d (finds h) =
    subst (Keeps-on q f n) (sym (with-heading p f d [] h.heading)) (found_it h.heading)
after-part q f n p w d (finds_behind x e h) =
    subst (λ (y : Done). Keeps-on q f n (onto p y [])) (sym e) (by (reverse x.next) refl)
  where
    by : (hs : List Op) → reverse x.next ≡ hs →
        Keeps-on q f n (onto p (behind (Op.List ListOp.UnlockRead ∷ []) x) [])
    by hs z =
        let turned : reverse (Op.List ListOp.UnlockRead ∷ x.next) ≡ reverse x.next ++ Op.List ListOp.UnlockRead ∷ [] =
        reverse-append (Op.List ListOp.UnlockRead ∷ []) x.next in
        let still : settled p x.world (reverse x.next ++ Op.List ListOp.UnlockRead ∷ []) ≡
        part x.world (reverse x.next ++ Op.List ListOp.UnlockRead ∷ []) =
        ap (λ (v : Option Reply). settled_by v p x.world (reverse x.next ++ Op.List ListOp.UnlockRead ∷ []))
        (ap end_of (top-last (reverse x.next) (Op.List ListOp.UnlockRead))) in
        subst (λ (os : List Op). Keeps-on q f n (settled p x.world os)) (sym turned)
        (subst (Keeps-on q f n) (sym still) (unlocks (reverse x.next) refl h.heading))

-- where the poll leads: f is taken, or it stands there behind at most n others
pub data Outcome (q f n : ℕ) (before : Trace) (new : Machine) : Type 0 where
  taken : Taken f before new.world.trace → Outcome q f n before new
  stands : Tracked q f n new.world → So before new.world → Outcome q f n before new

module _ (p q f n : ℕ) (before : Trace) (new : Machine) (idles : stack new p ≡ [])
    (has-entry : (s : Machine) → Reached s → s.world.gone ≡ false → (meanwhile : Trace) →
    s.world.trace ≡ before ++ meanwhile → HasEntry f s.world meanwhile) where
  module _ (t : Step) (ts : List Step) (s : Machine) (y : Reached s) (k : So before s.world)
      (on : are_onward_of p (t ∷ ts) ≡ true) (m : run_all (t ∷ ts) s ≡ Ok new)
      (further : (v : Machine) → Reached v → So before v.world → Keeping q f n v.world (stack v p) →
      are_onward_of p ts ≡ true → run_all ts v ≡ Ok new → Outcome q f n before new) where
    again : (others : List Step) (x : Step) (v : Part) → t ∷ ts ≡ x ∷ others → So before v.world → Keeps-on q f n v →
        Reached (with_part s p v) → run_all others (with_part s p v) ≡ Ok new → are_onward_of p others ≡ true →
        p < length s.parties → Outcome q f n before new
    again others x v te so h y2 n2 on2 l =
        let e : ts ≡ others = cc in
        further (with_part s p v) y2 so (subst (Keeping q f n v.world) (sym (stack-set p s v l)) h)
        (ap (are_onward_of p) e ∙ on2) (ap (λ (xs : List Step). run_all xs (with_part s p v)) e ∙ n2)

    acts-so : (h : Hint) (o : Op) (below : List Op) → (act p h o s.world).world.gone ≡ s.world.gone →
        So before (onto p (act p h o s.world) below).world
    acts-so h o below g =
        so-more before s.world (onto p (act p h o s.world) below).world k
        (more-onto s.world.trace p (act p h o s.world) below (more-act p h o s.world))
        (gone-onto p (act p h o s.world) below ∙ g)

    reacts-so : (u : UserEnd) (o : Op) (below : List Op) → (react p o u s.world).world.gone ≡ s.world.gone →
        So before (onto p (react p o u s.world) below).world
    reacts-so u o below g =
        so-more before s.world (onto p (react p o u s.world) below).world k
        (more-onto s.world.trace p (react p o u s.world) below (more-react p o u s.world))
        (gone-onto p (react p o u s.world) below ∙ g)

    by-control : (c : Op) → stack s p ≡ [] ++ c ∷ [] → Control q c → Tracked q f n s.world → Outcome q f n before new
    by-control c e z tr = go (onward p s new [] c (t ∷ ts) e y idles on m)
      where
        go : Onward p s new [] c (t ∷ ts) → Outcome q f n before new
        go (answered u others te a y2 n2 on2 l) = absurd (no-user q c u z a)
        go (acted h others te w y2 n2 on2 l) =
            let a : After q f n s.world (act p h c s.world) = after-control q f n p h c s.world z tr in
            again others _ (onto p (act p h c s.world) []) te (acts-so h c [] a.gone)
            (after-part q f n p s.world (act p h c s.world) a.goes) y2 n2 on2 l

    by-side : (c : Op) (below : List Op) (o : Op) → stack s p ≡ (c ∷ below) ++ o ∷ [] → Control q c →
        weigh side_of below ≡ 0 → side_of o ≡ 0 → Tracked q f n s.world → Outcome q f n before new
    by-side c below o e z b x tr = go (onward p s new (c ∷ below) o (t ∷ ts) e y idles on m)
      where
        both : (d : Done) → weigh side_of d.next ≡ 0 → weigh side_of (below ++ reverse d.next) ≡ 0
        both d v = omega (arith, b, v, weigh-append side_of below (reverse d.next), weigh-reverse side_of d.next)

        go : Onward p s new (c ∷ below) o (t ∷ ts) → Outcome q f n before new
        go (acted h others te w y2 n2 on2 l) =
            let a : Aside s.world (act p h o s.world) = aside-act p h o s.world w x in
            again others _ (onto p (act p h o s.world) (c ∷ below)) te (acts-so h o (c ∷ below) a.gone)
            (settles q f n p (act p h o s.world).world c (below ++ reverse (act p h o s.world).next) z
            (both (act p h o s.world) a.light)
            (same-own q f n s.world (act p h o s.world).world a.own tr)) y2 n2 on2 l
        go (answered u others te w y2 n2 on2 l) =
            let a : Aside s.world (react p o u s.world) = aside-react p o u s.world w x in
            again others _ (onto p (react p o u s.world) (c ∷ below)) te (reacts-so u o (c ∷ below) a.gone)
            (settles q f n p (react p o u s.world).world c (below ++ reverse (react p o u s.world).next) z
            (both (react p o u s.world) a.light)
            (same-own q f n s.world (react p o u s.world).world a.own tr)) y2 n2 on2 l

    by-unlock : (hs : List Op) → stack s p ≡ hs ++ Op.List ListOp.UnlockRead ∷ [] → Heading f hs →
        Outcome q f n before new
    by-unlock hs e z = go (onward p s new hs (Op.List ListOp.UnlockRead) (t ∷ ts) e y idles on m)
      where
        go : Onward p s new hs (Op.List ListOp.UnlockRead) (t ∷ ts) → Outcome q f n before new
        go (answered u others te a y2 n2 on2 l) = absurd (cc)
        go (acted h others te w y2 n2 on2 l) =
            again others _ (onto p (act p h (Op.List ListOp.UnlockRead) s.world) hs) te
            (acts-so h (Op.List ListOp.UnlockRead) hs refl)
            (subst (Keeps-on q f n)
            (sym (with-heading p f (act p h (Op.List ListOp.UnlockRead) s.world) hs
            (subst (Heading f) (sym (append-nil hs)) z)))
            (found_it (subst (Heading f) (sym (append-nil hs)) z))) y2 n2 on2 l

    by-over : stack s p ≡ [] → Outcome q f n before new
    by-over e =
        let first : is_onward_of p t ≡ true = (left-true (is_onward_of p t) (are_onward_of p ts) on).0 in
        absurd (idle-none p t s.world s.parties (stack s p) e first
        (of-party p s t first (run-first t ts s new m).0).2)

    by-going : (c : Op) (side : List Op) → stack s p ≡ c ∷ side → Control q c → weigh side_of side ≡ 0 →
        Tracked q f n s.world → Outcome q f n before new
    by-going c side e z x t2 = go (from-end side)
      where
        go : (side ≡ []) ⊎ Last side → Outcome q f n before new
        go (inl v) = by-control c (e ∙ ap (λ (os : List Op). c ∷ os) v) z t2
        go (inr v) = let b : _ = light-last side v.below v.last v.is x in
            by-side c v.below v.last (e ∙ ap (λ (os : List Op). c ∷ os) v.is) z b.0 b.1 t2

    by-kind : Keeping q f n s.world (stack s p) → Outcome q f n before new
    by-kind (going c side e z x t2) = by-going c side e z x t2
    by-kind (found_it h) =
        taken (from-heading p f before new idles has-entry (t ∷ ts) s y k.meanwhile k.trace k.there h on m)
    by-kind (unlocks hs e h) = by-unlock hs e h
    by-kind (over e t2) = by-over e

  pub walks : (ts : List Step) (s : Machine) → Reached s → So before s.world → Keeping q f n s.world (stack s p) →
      are_onward_of p ts ≡ true → run_all ts s ≡ Ok new → Outcome q f n before new
  walks [] s y k (over e t) on m =
      let same : s ≡ new = cc in
      stands (subst (λ (x : Machine). Tracked q f n x.world) same t)
      (subst (λ (x : Machine). So before x.world) same k)
  walks [] s y k (going c side e z x t) on m =
      let same : s ≡ new = cc in
      let no : c ∷ side ≡ [] = sym e ∙ (ap (λ (v : Machine). stack v p) same ∙ idles) in absurd (cc)
  walks [] s y k (found_it h) on m =
      taken (from-heading p f before new idles has-entry [] s y k.meanwhile k.trace k.there h on m)
  walks [] s y k (unlocks hs e h) on m =
      let same : s ≡ new = cc in
      absurd (not-nil hs (Op.List ListOp.UnlockRead) (sym e ∙ (ap (λ (v : Machine). stack v p) same ∙ idles)))
  walks (t ∷ ts) s y k h on m =
      by-kind t ts s y k on m (λ v y2 k2 h2 on2 m2. walks ts v y2 k2 h2 on2 m2) h

-- one poll brings f nearer

less : (n l : ℕ) → suc l ≤ suc n → l ≤ n
less n l k = omega (arith, k)

module _ (s : Machine) (y : Reached s) (rest : IsAtRest s) (r p : ℕ) (b : By) (steps : List Step) (new : Machine)
    (k : IsLonePoll p r b steps s new) (f : ℕ) (due : IsDue f s.world.trace) where
  abbrev x : RunPoll
  x = poll s y rest r p b steps new k

  idles : stack new p ≡ []
  idles = new-idle s y rest r p b steps new k

  -- it searches in its own queue
  from-search : (m : Machine) (others : List Step) → Reached m → So s.world.trace m.world →
      own_of m.world r ≡ own_of s.world r → stack m p ≡ Op.Tick (TickOp.Search (asleep x)) ∷ [] →
      are_onward_of p others ≡ true → run_all others m ≡ Ok new → (n : ℕ) → Tracked r f (suc n) s.world →
      Outcome r f n s.world.trace new
  from-search m others z so own todo on made n q =
      go (onward p m new [] (Op.Tick (TickOp.Search (asleep x))) others todo z idles on made)
    where
      nearer-one : After r f n m.world (search_own_by (own_of m.world r) m.world x)
      nearer-one = after-own r f (suc n) n (own_of m.world r) m.world x refl refl (less n)
          (record { front = q.front; later = q.later; is = own ∙ q.is; few = q.few })

      go : Onward p m new [] (Op.Tick (TickOp.Search (asleep x))) others → Outcome r f n s.world.trace new
      go (answered u others2 te a y2 n2 on2 l) = absurd (cc)
      go (acted h others2 te w y2 n2 on2 l) =
          walks p r f n s.world.trace new idles (entry s.world.trace f due) others2
          (with_part m p (onto p (search_own_by (own_of m.world r) m.world x) [])) y2
          (so-more s.world.trace m.world (onto p (search_own_by (own_of m.world r) m.world x) []).world so
          (more-onto m.world.trace p (search_own_by (own_of m.world r) m.world x) []
          (more-act p h (Op.Tick (TickOp.Search (asleep x))) m.world))
          (gone-onto p (search_own_by (own_of m.world r) m.world x) [] ∙ nearer-one.gone))
          (subst (Keeping r f n (onto p (search_own_by (own_of m.world r) m.world x) []).world)
          (sym (stack-set p m (onto p (search_own_by (own_of m.world r) m.world x) []) l))
          (after-part r f n p m.world (search_own_by (own_of m.world r) m.world x) nearer-one.goes)) on2 n2

  nearer : (n : ℕ) → Tracked r f (suc n) s.world → Outcome r f n s.world.trace new
  nearer n q =
      let a = arrived s y rest r p b steps new k in
      from-search a.machine a.others a.here.reached
      (record {
        meanwhile = a.here.so_far.meanwhile;
        trace = a.here.so_far.trace;
        there = a.here.so_far.there;
      }) a.here.so_far.own_is a.here.todo a.onward a.made n q

-- lists of such polls

pub grows-polls : (r : ℕ) (ts : List LoneRunPoll) (s new : Machine) → AreLonePolls r ts s new → Grows s new
grows-polls r [] s new e =
    record { grown = []; trace = sym (ap (λ (m : Machine). m.world.trace) e) ∙ sym (append-nil s.world.trace) }
grows-polls r (t ∷ ts) s new k =
    grows-and s k.0 new (run-grows (Begin t.party (Call.PollRun r t.by) ∷ t.steps) s k.0 k.1.call.made)
    (grows-polls r ts k.0 new k.2)

pub takes-now : (f : ℕ) (s next new : Machine) → Taken f s.world.trace next.world.trace → Grows next new → Takes f s new
takes-now f s next new t g = record {
  grows = grows-and s next new (record { grown = t.events; trace = t.is }) g;
  taken = list_any-append (takes f) t.events g.grown ∙ or-left _ _ t.taken;
}

pub takes-between : (f : ℕ) (s new : Machine) → Takes f s new → has (takes f) (since s new) ≡ true
takes-between f s new x = ap (λ (es : Trace). has (takes f) (drop (length s.world.trace) es)) x.grows.trace
    ∙ (ap (has (takes f)) (drop-append_seam s.world.trace x.grows.grown) ∙ x.taken)

pub takes-later : (f : ℕ) (s next new : Machine) → Grows s next → Takes f next new → Takes f s new
takes-later f s next new g t = record {
  grows = grows-and s next new g t.grows;
  taken = list_any-append (takes f) g.grown t.grows.grown ∙ or-right _ _ t.taken;
}

module _ (t : LoneRunPoll) (ts : List LoneRunPoll) (s new : Machine) (y : Reached s) (rest : IsAtRest s) (r f : ℕ)
    (k : AreLonePolls r (t ∷ ts) s new) where
  still-due : (n : ℕ) → Tracked r f n s.world → IsDue f s.world.trace
  still-due n z = is-due s y rest r t.party t.by t.steps k.0 k.1 f (omega (
    arith,
    ap (times f) z.is,
    times-append f z.front (f ∷ z.later),
    first-times f z.later,
    in-own s (good-here s y) (heard-here s y) (deep-here s y) (bonded-here s y) rest f r,
  ))

  -- f is first
  first-one : (front later : List ℕ) → own_of s.world r ≡ front ++ f ∷ later → length front ≤ 0 →
      IsDue f s.world.trace → Takes f s new
  first-one [] later e j due =
      takes-now f s k.0 new
      (takes-first s y rest r t.party t.by t.steps k.0 k.1 f due (in_own later e)) (grows-polls r ts k.0 new k.2)
  first-one (g ∷ front) later e j due = absurd (omega (arith, j))

  -- others come before it
  after-one : (n : ℕ) → Tracked r f (suc n) s.world →
      (Reached k.0 → IsAtRest k.0 → Tracked r f n k.0.world → Takes f k.0 new) → Takes f s new
  after-one n z again = go (nearer s y rest r t.party t.by t.steps k.0 k.1 f (still-due (suc n) z) n z)
    where
      go : Outcome r f n s.world.trace k.0 → Takes f s new
      go (taken x) = takes-now f s k.0 new x (grows-polls r ts k.0 new k.2)
      go (stands q so) =
          takes-later f s k.0 new (run-grows (Begin t.party (Call.PollRun r t.by) ∷ t.steps) s k.0 k.1.call.made)
          (again (reached-new s y rest r t.party t.by t.steps k.0 k.1)
          (at-rest s y rest t.party (Call.PollRun r t.by) t.steps k.0 k.1.call so.there) q)

takes-place : (ts : List LoneRunPoll) (s new : Machine) → Reached s → IsAtRest s → (r f n : ℕ) →
    Tracked r f n s.world → n < length ts → AreLonePolls r ts s new → Takes f s new
takes-place [] s new y rest r f n z l k = absurd (omega (arith, l))
takes-place (t ∷ ts) s new y rest r f zero z l k =
    first-one t ts s new y rest r f k z.front z.later z.is z.few (still-due t ts s new y rest r f k 0 z)
takes-place (t ∷ ts) s new y rest r f (suc n) z l k =
    after-one t ts s new y rest r f k n z
    (λ y2 rest2 q. takes-place ts k.0 new y2 rest2 r f n q (omega (arith, l)) k.2)

module _ (s : Machine) (y : Reached s) (rest : IsAtRest s) (r : ℕ) where
  -- the queue isn't longer than a list that has each future that is kept
  pub not-longer : (keeps : List ℕ) → HasKept r s.world.trace keeps → length (own_of s.world r) ≤ length keeps
  not-longer keeps h = no-longer (own_of s.world r) keeps (λ g. by g (times g (own_of s.world r)) refl)
    where
      by : (g n : ℕ) → times g (own_of s.world r) ≡ n → times g (own_of s.world r) ≤ times g keeps
      by g zero e = omega (arith, e)
      by g (suc n) e =
          let due : IsDue g s.world.trace =
          queued-due s (good-here s y) (heard-here s y) (deep-here s y) (bonded-here s y) rest g (omega (
            arith,
            e,
            in-own s (good-here s y) (heard-here s y) (deep-here s y) (bonded-here s y) rest g r,
          )) in
          let kept : Keeps r g s.world.trace = record {
            due = due;
            keeper = own-keeper s (good-here s y) (heard-here s y) (deep-here s y) (bonded-here s y) rest g r
                (omega (arith, e));
          } in
          omega (
            arith,
            h g kept,
            in-own s (good-here s y) (heard-here s y) (deep-here s y) (bonded-here s y) rest g r,
            ((good-here s y).sound g).one,
          )

  takes-all : (keeps : List ℕ) → HasKept r s.world.trace keeps → (polls : List LoneRunPoll) (new : Machine) →
      AreLonePolls r polls s new → length keeps ≤ length polls → (f : ℕ) → Keeps r f s.world.trace →
      has (takes f) (since s new) ≡ true
  takes-all keeps h polls new k l f z =
      let spot : QueuePlace f (own_of s.world r) = place f (own_of s.world r)
      (keeper-own s (good-here s y) (heard-here s y) (deep-here s y) (bonded-here s y) rest f r z.due z.keeper) in
      takes-between f s new (takes-place polls s new y rest r f (length spot.front)
      (record { front = spot.front; later = spot.back; is = spot.is; few = omega arith }) (omega (
        arith,
        l,
        not-longer keeps h,
        ap length spot.is,
        length-append spot.front (f ∷ spot.back),
      )) k)

pub kept-reached : (limit : ℕ) (kind : Kind) (parties : ℕ) (steps : List Step) → IsKeptReached (run steps (start limit kind parties))
kept-reached limit kind parties steps = λ rest r keeps h polls new k l f z.
    takes-all (run steps (start limit kind parties))
    (record { limit = limit; kind = kind; parties = parties; steps = steps; is = refl }) rest r keeps h polls new k l f z
