-- For runs_poll_few_futures.
-- So a poll of a run that is made alone polls 200 futures at most.
use Rattle.std.proofs.Common.{◌≡◌, ◌∙◌, ◌⊎◌, inl, inr, ⊎_elim, ℕ, ◌+◌, ◌-◌, ◌<◌, ◌≤◌, List, [], ◌∷◌, ◌++◌, length, drop, true}
use Rattle.std.proofs.Common.{refl, sym, ap, subst, arith, append_assoc, Ok}
use Rattle.std.specs.Prelude.{Option, Some, None, reverse}
use Rattle.std.{proofs.Math.Seq.drop-append_seam, proofs.lemmas.List.get_or_past}
use Rattle.executor_laws.proofs.Types.{By, Reply, Event, Kind, Op, ListOp, RunOp, TickOp, Hint, Step, UserEnd}
use Rattle.executor_model.specs.Steps.{Machine, Part, accepts, end_of, onto, part, react, run, settled, settled_by, stack}
use Rattle.executor_model.specs.World.{Done, World, log, run_of}
use Rattle.executor_model.specs.{Steps.start, Steps.top, Steps.with_part, ActsOfRuns.asleep, Doing.act, Emptiness.IsAtRest}
use Rattle.executor_model.specs.{Executions.run_all, Rows.running_of, Trace.Trace, Weights.weigh}
use Rattle.executor_laws.specs.LoneEnds.{are_onward_of, is_onward_of}
use Rattle.executor_laws.specs.{Reach.since, RunFew.PollsFew, RunFew.polls_in, RunReach.IsLonePoll}
use Rattle.executor_model.proofs.Steps.Lists.{weigh-append, weigh-reverse}
use Rattle.executor_model.proofs.{Steps.Lift.split, Steps.Reached.Reached, Steps.Reached.run-first, Table.Spawning.top-last}
use Rattle.executor_laws.proofs.Fewness.FewSides.{Polls, TakenSame, polls-act, polls-append, polls-react, react-same, side-same}
use Rattle.executor_laws.proofs.Fewness.FewSides.{ups, ups-act, ups-react}
use Rattle.executor_laws.proofs.Reach.LoneTicks.{idle-none, left-true, of-party, stack-set}
use Rattle.executor_laws.proofs.RunReach.RunReaching.{arrived, new-idle, poll}
use Rattle.executor_laws.proofs.RunReach.RunSteps.{Aside, aside-act, aside-react, side-kind, side_of}
use Rattle.executor_laws.proofs.RunReach.RunWalks.Onward.{acted, answered}
use Rattle.executor_laws.proofs.Fewness.FewSteps.{Doing, Goes, budget, few-doing, left_of}
use Rattle.executor_laws.proofs.Fewness.FewSteps.Goes.{on as on_with, over as over_with}
use Rattle.executor_laws.proofs.{Reach.LoneMoves.stray_of, Reach.LoneSteps.Last, Reach.LoneSteps.from-end}
use Rattle.executor_laws.proofs.{RunReach.RunFinds.light-no-end, RunReach.RunWalks.Onward, RunReach.RunWalks.onward}
use Rattle.executor_laws.proofs.{Termination.TakingFew.takes-few, Walks.Finding.enrolled-here, Walks.Finding.itself}

-- what has happened since, with no more than n polls begun; and it may be that many more
pub record So (before : Trace) (n : ℕ) (w : World) : Type 0 where
  pub meanwhile : Trace
  pub trace : w.trace ≡ before ++ meanwhile
  pub few : polls_in meanwhile + n ≤ 200

-- what is left of the poll: the run goes on, below what is beside it, or it is over
pub data Left (q : ℕ) (before : Trace) (w : World) (os : List Op) : Type 0 where
  going : (c : Op) (side : List Op) → os ≡ c ∷ side → Doing q c → weigh side_of side ≡ 0 →
      So before (weigh ups side + budget q c w) w → q < length w.runs → Left q before w os
  over : os ≡ [] → So before 0 w → Left q before w os

abbrev Leaves : ℕ → Trace → Part → Type 0
Leaves q before x = Left q before x.world x.todo

side-no-end : (o : Op) → side_of o ≡ 0 → end_of (Some o) ≡ None
side-no-end o z = ⊎_elim
    (λ (e : o ≡ Op.List ListOp.UnlockRead). ap (λ (x : Op). end_of (Some x)) e)
    (λ (x : stray_of o ≡ 0). light-no-end o x)
    (side-kind o z)

light-last : (side below : List Op) (o : Op) → side ≡ below ++ o ∷ [] → weigh side_of side ≡ 0 →
    (weigh side_of below ≡ 0) × (side_of o ≡ 0)
light-last side below o e z = (
  omega (arith, z, ap (weigh side_of) e, weigh-append side_of below (o ∷ [])),
  omega (arith, z, ap (weigh side_of) e, weigh-append side_of below (o ∷ [])),
)

so-ended : (before : Trace) (n p : ℕ) (a : Reply) (w : World) → So before n w → So before 0 (log w (Event.CallEnded p a))
so-ended before n p a w k = record {
  meanwhile = k.meanwhile ++ Event.CallEnded p a ∷ [];
  trace = ap (λ (es : Trace). es ++ Event.CallEnded p a ∷ []) k.trace
      ∙ append_assoc before k.meanwhile (Event.CallEnded p a ∷ []);
  few = omega (arith, k.few, polls-append k.meanwhile (Event.CallEnded p a ∷ []));
}

settles : (q p : ℕ) (before : Trace) (w : World) (c : Op) (side : List Op) → Doing q c → weigh side_of side ≡ 0 →
    So before (weigh ups side + budget q c w) w → q < length w.runs → Leaves q before (settled p w (c ∷ side))
settles q p before w c side k z t l = go (from-end side)
  where
    by-end : (o : Option Reply) → side ≡ [] → Leaves q before (settled_by o p w (c ∷ []))
    by-end None e = going c [] refl k refl (subst (λ (os : List Op). So before (weigh ups os + budget q c w) w) e t) l
    by-end (Some a) e = over refl (so-ended before _ p a w t)

    go : (side ≡ []) ⊎ Last side → Leaves q before (settled p w (c ∷ side))
    go (inl e) = subst (λ (os : List Op). Leaves q before (settled p w (c ∷ os))) (sym e)
        (by-end (end_of (top (c ∷ []))) e)
    go (inr v) =
        let b : _ = light-last side v.below v.last v.is z in
        let x : settled p w (c ∷ (v.below ++ v.last ∷ [])) ≡ part w (c ∷ (v.below ++ v.last ∷ [])) =
        ap (λ (y : Option Reply). settled_by y p w (c ∷ (v.below ++ v.last ∷ [])))
        (ap end_of (top-last (c ∷ v.below) v.last) ∙ side-no-end v.last b.1) in
        subst (λ (os : List Op). Leaves q before (settled p w (c ∷ os))) (sym v.is)
        (subst (Leaves q before) (sym x)
        (going c (v.below ++ v.last ∷ []) refl k (subst (λ (os : List Op). weigh side_of os ≡ 0) v.is z)
        (subst (λ (os : List Op). So before (weigh ups os + budget q c w) w) v.is t) l))

-- polls that begin are paid
so-on : (before : Trace) (n m k : ℕ) (w v : World) → So before n w → Polls w v k → k + m ≤ n → So before m v
so-on before n m k w v s x e = record {
  meanwhile = s.meanwhile ++ x.more;
  trace = x.is ∙ (ap (λ (es : Trace). es ++ x.more) s.trace ∙ append_assoc before s.meanwhile x.more);
  few = omega (arith, s.few, x.few, e, polls-append s.meanwhile x.more);
}

no-user : (q : ℕ) (o : Op) (u : UserEnd) → Doing q o → accepts o u ≡ true → ⊥
no-user q (Op.User o) u k a = k
no-user q _ u k a = absurd (cc)

none-up : (q : ℕ) (c : Op) → Doing q c → ups c ≡ 0
none-up q (Op.Move m f) k = absurd k
none-up q _ k = refl

same-budget : (q : ℕ) (c : Op) (w v : World) → TakenSame w v → budget q c v ≡ budget q c w
same-budget q (Op.End a held) w v k = refl
same-budget q (Op.Run (RunOp.WakeOwn x)) w v k = refl
same-budget q _ w v k = let z : left_of q v ≡ left_of q w = omega (arith, k.taken q) in z

-- a run that searches is one that was made
known-run : (m : Machine) (y : Reached m) (r p : ℕ) (o : Op) → stack m p ≡ o ∷ [] → running_of r o ≡ 1 →
    r < length m.world.runs
known-run m y r p o e u = inside r (length m.world.runs) (λ z. omega (
  arith,
  u,
  ((enrolled-here m y).used r).unborn z,
  split (running_of r) m.parties p (o ∷ []) [] (party (stack m p) refl) e,
))
  where
    or-past : (i j : ℕ) → (i < j) ⊎ (j ≤ i)
    or-past i j = grind arith

    inside : (a b : ℕ) → (b ≤ a → ⊥) → a < b
    inside a b none = ⊎_elim (λ (z : a < b). z) (λ (z : b ≤ a). absurd (none z)) (or-past a b)

    party : (os : List Op) → stack m p ≡ os → p < length m.parties
    party os i = inside p (length m.parties) (λ z. (let no : o ∷ [] ≡ [] = sym e ∙ get_or_past m.parties p [] z in cc))

-- how it ends
pub record Ends (before : Trace) (new : Machine) : Type 0 where
  pub so : So before 0 new.world

module _ (p q : ℕ) (before : Trace) (new : Machine) (idles : stack new p ≡ []) where
  module _ (t : Step) (ts : List Step) (s : Machine) (y : Reached s)
      (on : are_onward_of p (t ∷ ts) ≡ true) (m : run_all (t ∷ ts) s ≡ Ok new)
      (further : (v : Machine) → Reached v → Left q before v.world (stack v p) →
      are_onward_of p ts ≡ true → run_all ts v ≡ Ok new → Ends before new) where
    again : (others : List Step) (x : Step) (v : Part) → t ∷ ts ≡ x ∷ others → Leaves q before v →
        Reached (with_part s p v) → run_all others (with_part s p v) ≡ Ok new → are_onward_of p others ≡ true →
        p < length s.parties → Ends before new
    again others x v te h y2 n2 on2 l =
        let e : ts ≡ others = cc in
        further (with_part s p v) y2 (subst (Left q before v.world) (sym (stack-set p s v l)) h)
        (ap (are_onward_of p) e ∙ on2) (ap (λ (xs : List Step). run_all xs (with_part s p v)) e ∙ n2)

    few-here : (run_of s.world q).taken < 200
    few-here = subst (λ (v : Machine). (run_of v.world q).taken < 200) (sym y.is)
        (takes-few y.limit y.kind y.parties y.steps q)

    by-control : (c : Op) → stack s p ≡ [] ++ c ∷ [] → Doing q c → So before (0 + budget q c s.world) s.world →
        q < length s.world.runs → Ends before new
    by-control c e z so k = go (onward p s new [] c (t ∷ ts) e y idles on m)
      where
        after : (h : Hint) → Goes q (budget q c s.world) s.world (act p h c s.world) →
            Leaves q before (onto p (act p h c s.world) [])
        after h (over_with n) =
            let d : Done = act p h c s.world in
            subst (λ (os : List Op). Leaves q before (settled p d.world (reverse os))) (sym n)
            (over refl (so-on before _ 0 (ups c) s.world d.world so (polls-act p h c s.world)
            (omega (arith, none-up q c z))))
        after h (on_with f) =
            let d : Done = act p h c s.world in
            subst (λ (os : List Op). Leaves q before (settled p d.world os)) (sym f.is)
            (settles q p before d.world f.control f.side f.kind f.light
            (so-on before _ (weigh ups f.side + budget q f.control d.world) (ups c) s.world d.world so
            (polls-act p h c s.world) (omega (arith, none-up q c z, f.few)))
            (omega (arith, k, f.count)))

        go : Onward p s new [] c (t ∷ ts) → Ends before new
        go (answered u others te a y2 n2 on2 l) = absurd (no-user q c u z a)
        go (acted h others te w y2 n2 on2 l) =
            again others _ (onto p (act p h c s.world) []) te
            (after h (few-doing q p h c s.world z (k, few-here))) y2 n2 on2 l

    by-side : (c : Op) (below : List Op) (o : Op) → stack s p ≡ (c ∷ below) ++ o ∷ [] → Doing q c →
        weigh side_of below ≡ 0 → side_of o ≡ 0 → So before (weigh ups (below ++ o ∷ []) + budget q c s.world) s.world →
        q < length s.world.runs → Ends before new
    by-side c below o e z b x so k = go (onward p s new (c ∷ below) o (t ∷ ts) e y idles on m)
      where
        both : (d : Done) → weigh side_of d.next ≡ 0 → weigh side_of (below ++ reverse d.next) ≡ 0
        both d v = omega (arith, b, v, weigh-append side_of below (reverse d.next), weigh-reverse side_of d.next)

        pays : (d : Done) → Polls s.world d.world (ups o) → weigh ups d.next ≡ 0 → TakenSame s.world d.world →
            So before (weigh ups (below ++ reverse d.next) + budget q c d.world) d.world
        pays d v u g = so-on before _ _ (ups o) s.world d.world so v (omega (
          arith,
          u,
          same-budget q c s.world d.world g,
          weigh-append ups below (o ∷ []),
          weigh-append ups below (reverse d.next),
          weigh-reverse ups d.next,
        ))

        go : Onward p s new (c ∷ below) o (t ∷ ts) → Ends before new
        go (acted h others te w y2 n2 on2 l) =
            let d : Done = act p h o s.world in
            let a : Aside s.world d = aside-act p h o s.world w x in
            let g : TakenSame s.world d.world = side-same p h o s.world x in
            again others _ (onto p d (c ∷ below)) te
            (settles q p before d.world c (below ++ reverse d.next) z (both d a.light)
            (pays d (polls-act p h o s.world) (ups-act p h o s.world w x) g) (omega (arith, k, g.count))) y2 n2 on2 l
        go (answered u others te w y2 n2 on2 l) =
            let d : Done = react p o u s.world in
            let a : Aside s.world d = aside-react p o u s.world w x in
            let g : TakenSame s.world d.world = react-same p o u s.world w in
            again others _ (onto p d (c ∷ below)) te
            (settles q p before d.world c (below ++ reverse d.next) z (both d a.light)
            (pays d (polls-react p o u s.world w (ups o)) (ups-react p o u s.world w x) g) (omega (arith, k, g.count)))
            y2 n2 on2 l

    by-over : stack s p ≡ [] → Ends before new
    by-over e =
        let first : is_onward_of p t ≡ true = (left-true (is_onward_of p t) (are_onward_of p ts) on).0 in
        absurd (idle-none p t s.world s.parties (stack s p) e first
        (of-party p s t first (run-first t ts s new m).0).2)

    by-going : (c : Op) (side : List Op) → stack s p ≡ c ∷ side → Doing q c → weigh side_of side ≡ 0 →
        So before (weigh ups side + budget q c s.world) s.world → q < length s.world.runs → Ends before new
    by-going c side e z x so k = go (from-end side)
      where
        go : (side ≡ []) ⊎ Last side → Ends before new
        go (inl v) = by-control c (e ∙ ap (λ (os : List Op). c ∷ os) v) z
            (subst (λ (os : List Op). So before (weigh ups os + budget q c s.world) s.world) v so) k
        go (inr v) = let b : _ = light-last side v.below v.last v.is x in
            by-side c v.below v.last (e ∙ ap (λ (os : List Op). c ∷ os) v.is) z b.0 b.1
            (subst (λ (os : List Op). So before (weigh ups os + budget q c s.world) s.world) v.is so) k

    by-kind : Left q before s.world (stack s p) → Ends before new
    by-kind (going c side e z x so k) = by-going c side e z x so k
    by-kind (over e so) = by-over e

  walks : (ts : List Step) (s : Machine) → Reached s → Left q before s.world (stack s p) →
      are_onward_of p ts ≡ true → run_all ts s ≡ Ok new → Ends before new
  walks [] s y (over e so) on m =
      let same_one : s ≡ new = cc in
      record { so = subst (λ (x : Machine). So before 0 x.world) same_one so }
  walks [] s y (going c side e z x so k) on m =
      let same_one : s ≡ new = cc in
      let no : c ∷ side ≡ [] = sym e ∙ (ap (λ (v : Machine). stack v p) same_one ∙ idles) in absurd (cc)
  walks (t ∷ ts) s y h on m =
      by-kind t ts s y on m (λ v y2 h2 on2 m2. walks ts v y2 h2 on2 m2) h

module _ (s : Machine) (y : Reached s) (rest : IsAtRest s) (r p : ℕ) (b : By) (steps : List Step) (new : Machine)
    (k : IsLonePoll p r b steps s new) where
  polls-few : polls_in (since s new) ≤ 200
  polls-few =
      let a = arrived s y rest r p b steps new k in
      let m : Machine = a.machine in
      let known : r < length m.world.runs = in-runs m a.here.reached a.here.todo in
      let e : Ends s.world.trace new = walks p r s.world.trace new (new-idle s y rest r p b steps new k) a.others m
      a.here.reached
      (going _ [] a.here.todo refl refl (record {
        meanwhile = a.here.so_far.meanwhile;
        trace = a.here.so_far.trace;
        few = omega (arith, a.here.so_far.calm, few-left (run_of m.world r).taken);
      }) known) a.onward a.made in
      subst (λ (es : Trace). polls_in es ≤ 200)
      (sym (ap (λ (es : Trace). drop (length s.world.trace) es) e.so.trace
      ∙ drop-append_seam s.world.trace e.so.meanwhile)) (omega (arith, e.so.few))
    where
      few-left : (n : ℕ) → 200 - n ≤ 200
      few-left n = omega arith

      in-runs : (m : Machine) → Reached m → stack m p ≡ Op.Tick (TickOp.Search (asleep (poll s y rest r p b steps new k))) ∷ [] →
          r < length m.world.runs
      in-runs m z e = known-run m z r p _ e (itself r).0

pub runs-few : (limit : ℕ) (kind : Kind) (parties : ℕ) (steps : List Step) → PollsFew (run steps (start limit kind parties))
runs-few limit kind parties steps = λ rest p r b ts new k. polls-few (run steps (start limit kind parties))
    (record { limit = limit; kind = kind; parties = parties; steps = steps; is = refl }) rest r p b ts new k
