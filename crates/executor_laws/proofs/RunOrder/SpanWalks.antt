-- For runs_take_futures_in_order.
-- What a poll of a run that is made alone takes up of a mark, and behind it what waits, is what waited and what joined.
use Rattle.std.proofs.Common.{◌≡◌, ◌⊎◌, ◌∙◌, inl, inr, ⊎_elim, ℕ, ◌<◌, ◌≤◌, List, [], ◌∷◌, ◌++◌, length, get_or}
use Rattle.std.proofs.Common.{Bool, true, refl, sym, ap, subst, arith, append-nil, append_assoc}
use Rattle.std.specs.Prelude.{Option, Some, None, reverse}
use Rattle.std.proofs.Common.{drop, eqb, suc, ◌+◌}
use Rattle.std.proofs.Math.Seq.{drop-append_seam}
use Rattle.std.proofs.lemmas.Bool.Decides.{nat_tests}
use Rattle.std.specs.Prelude.{cond, filter}
use Rattle.executor_parts.specs.Marks.{same_mark}
use Rattle.std.proofs.Common.{ltb}
use Rattle.executor_laws.proofs.Types.{ListOp, Op, Hint, Step, UserEnd, Mark, StealOp, By, Call, Answer, Event, Section, TickOp, TickOrRun}
use Rattle.executor_laws.proofs.Types.{UserOp, RunPoll, Begin, Go}
use Rattle.executor_model.specs.{Doing.act, OwnQueues.IsEmptyMeanwhile, OwnQueues.empty_of, Steps.Machine, Steps.Part, Steps.onto}
use Rattle.executor_model.specs.{Steps.part, Steps.react, Steps.settled, Steps.stack, Steps.with_part, Weights.weigh, World.Done}
use Rattle.executor_model.specs.{World.World, World.own_of, ActsOfRuns.free_places, OwnQueues.filling_of, Queues.Queues, Queues.queue_in}
use Rattle.executor_model.specs.{Rows.running_of, World.queue_of, ActsOfRuns.asleep, Steps.part_after, Steps.poll_run, Steps.refusal}
use Rattle.executor_model.specs.{Steps.run, Steps.step, Steps.stepped, Steps.top, Steps.waker_of, World.Ended, World.Listed, World.New}
use Rattle.executor_model.specs.{World.Stage, World.done, World.log, World.run_of}
use Rattle.executor_model.proofs.{Steps.Lift.split, Steps.Lists.weigh-append, Steps.Lists.weigh-reverse, Steps.Reached.Reached}
use Rattle.executor_model.proofs.{OwnQueues.OwnExecutions.is-empty-meanwhile}
use Rattle.executor_laws.proofs.{Fewness.FewSides.ups-act, Fewness.FewSides.ups-react, Reach.LoneSteps.Last, Reach.LoneSteps.from-end}
use Rattle.executor_laws.proofs.{Reach.LoneTicks.idle-none, Reach.LoneTicks.of-party, Reach.LoneTicks.stack-set}
use Rattle.executor_laws.proofs.{RunReach.RunKeeps.light-last, RunReach.RunSteps.Control, RunReach.RunSteps.no-user}
use Rattle.executor_laws.proofs.{RunReach.RunSteps.side_of, Walks.Finding.itself, Queueings.Queueing.turns-act, RunOrder.SpanActs.Goes}
use Rattle.executor_laws.proofs.{RunOrder.SpanActs.lines-act, RunOrder.Spans.Facts, RunOrder.Spans.ahead, RunOrder.Spans.span}
use Rattle.executor_laws.proofs.{RunReach.KeptLines.hand_of, RunReach.KeptLines.no-ups-back, RunReach.KeptLines.ups_in}
use Rattle.executor_laws.proofs.{RunReach.KeptLines.ups_in-append, RunReach.KeptWalks.control-no-up, RunReach.KeptWalks.user-no-up}
use Rattle.executor_laws.proofs.{RunReach.RunSteps.steal_of, RunReach.TakenUp.up_of, Turns.LineSteps.with_hand, Walks.Enrolled.Enrolled}
use Rattle.executor_laws.proofs.{Walks.Finding.enrolled-here, Walks.Finding.room-here, Placement.OwnReady.reached-on}
use Rattle.executor_laws.proofs.{Promptness.Turns.next-is, Reach.LoneTicks.in-range, RunOrder.SpanLines.InLine, RunOrder.SpanLines.LineIn}
use Rattle.executor_laws.proofs.{RunOrder.SpanLines.later-line, RunOrder.SpanLines.longer, RunOrder.SpanLines.next-line}
use Rattle.executor_laws.proofs.{RunOrder.SpanLines.no-append, RunOrder.SpanLines.settles, RunOrder.SpanLines.side-line}
use Rattle.executor_laws.proofs.{RunOrder.SpanLines.InLine.going, RunOrder.SpanLines.InLine.over, RunOrder.SpanBeside.Beside}
use Rattle.executor_laws.proofs.{RunOrder.SpanBeside.NoneBeside, RunOrder.SpanBeside.beside-act, RunOrder.SpanBeside.onto-own}
use Rattle.executor_laws.proofs.{RunOrder.SpanBeside.own-same, RunOrder.SpanBeside.side-act, RunOrder.SpanBeside.side-react}
use Rattle.executor_laws.proofs.{RunOrder.SpanSteps.Left, RunOrder.SpanSteps.OneStep, RunOrder.SpanSteps.joins-none}
use Rattle.executor_laws.proofs.{RunOrder.SpanSteps.left-there, RunOrder.SpanSteps.nothing-joins, RunOrder.SpanSteps.one-step}
use Rattle.executor_laws.proofs.{RunOrder.SpanSteps.onto-queues, RunOrder.SpanSteps.step-joins, RunOrder.SpanSteps.OneStep.acted}
use Rattle.executor_laws.proofs.{RunOrder.SpanSteps.OneStep.answered, RunOrder.Spans.ahead-same, RunReach.RunArrives.registered-own}
use Rattle.executor_laws.proofs.{RunReach.RunArrives.registered-queue}
use Rattle.executor_laws.specs.{RunOrder.joined, KeptFirst.taken_by, LoneEnds.is_onward_of, RunOrder.GoesOnSo, RunOrder.Within}
use Rattle.executor_laws.specs.{RunOrder.first_of_poll, RunOrder.joined_within, RunOrder.joins, RunOrder.taken_within}
use Rattle.executor_laws.specs.{RunOrder.Within.by_itself, RunOrder.Within.meanwhile}
use Rattle.executor_laws.proofs.RunOrder.SpanActs.Goes.{on as goes_on, over as goes_over}

-- the line at the end
pub record Result (b : ℕ → Bool) (m : Mark) (p q : ℕ) (new : Machine) (line : List ℕ) (ws : List Within) (s : Machine) :
    Type 0 where
  pub is : filter b (taken_within p ws s) ++ ahead b m (own_of new.world q) new.world ≡ line ++ joined_within m ws s
  pub none : NoneBeside q new.world

-- before the run searches
data Early (q : ℕ) (os : List Op) : Type 0 where
  locks : (x : RunPoll) → x.run ≡ q → os ≡ Op.List (ListOp.LockWrite (Section.Register x)) ∷ [] → Early q os
  writes : (x : RunPoll) → x.run ≡ q → os ≡ Op.List (ListOp.Write (Section.Register x)) ∷ [] → Early q os
  unlocks : (x : RunPoll) → x.run ≡ q → os ≡ Op.User (UserOp.PollOwn x) ∷ Op.List ListOp.UnlockWrite ∷ [] → Early q os
  asks : (x : RunPoll) → x.run ≡ q → os ≡ Op.User (UserOp.PollOwn x) ∷ [] → Early q os

module _ (b : ℕ → Bool) (m : Mark) (p q : ℕ) (new : Machine) (idles : stack new p ≡ [])
    (marked : (v : Machine) → Reached v → (ws : List Within) → GoesOnSo p ws v new → (k : Mark) (f : ℕ) (rest : List ℕ) →
    (queue_of v.world k).items ≡ f ∷ rest → b f ≡ same_mark m k) where
  abbrev Ends : List ℕ → List Within → Machine → Type 0
  Ends line ws s = Result b m p q new line ws s

  -- others have taken steps
  others-end : (line : List ℕ) (ts : List Step) (ws : List Within) (s : Machine) →
      Ends (line ++ joined m ts s) ws (run ts s) → Ends line (meanwhile ts ∷ ws) s
  others-end line ts ws s r = record {
    is = r.is ∙ append_assoc line (joined m ts s) (joined_within m ws (run ts s));
    none = r.none;
  }

  -- the poll has taken these up by a step, and put those behind
  step-end : (line now ns more : List ℕ) (t : Step) (ws : List Within) (s : Machine) →
      Ends now ws (stepped s (step s t)) → taken_by t (top (stack s p)) ≡ ns → joins m t s ≡ more →
      filter b ns ++ now ≡ line ++ more → Ends line (by_itself t ∷ ws) s
  step-end line now ns more t ws s r k j i =
      let next : Machine = stepped s (step s t) in
      let ends : List ℕ = ahead b m (own_of new.world q) new.world in
      record {
        is = ap (λ (zs : List ℕ). filter b (zs ++ taken_within p ws next) ++ ends) k
            ∙ (next-line b ns (taken_within p ws next) now line more ends (joined_within m ws next) r.is i
            ∙ ap (λ (zs : List ℕ). line ++ (zs ++ joined_within m ws next)) (sym j));
        none = r.none;
      }

  module _ (t : Step) (ws : List Within) (s : Machine) (y : Reached s) (line : List ℕ) (none : NoneBeside q s.world)
      (on : is_onward_of p t ≡ true) (possible : refusal s t ≡ None) (rest : GoesOnSo p ws (stepped s (step s t)) new)
      (further : (now : List ℕ) → NoneBeside q (stepped s (step s t)).world →
      InLine b m q now (stepped s (step s t)).world (stack (stepped s (step s t)) p) → Ends now ws (stepped s (step s t))) where
    again : (v : Part) (ns more now : List ℕ) → stepped s (step s t) ≡ with_part s p v → InLine b m q now v.world v.todo →
        NoneBeside q v.world → p < length s.parties → taken_by t (top (stack s p)) ≡ ns → joins m t s ≡ more →
        filter b ns ++ now ≡ line ++ more → Ends line (by_itself t ∷ ws) s
    again v ns more now e h z l k j i =
        step-end line now ns more t ws s
        (further now (subst (λ (x : Machine). NoneBeside q x.world) (sym e) z)
        (subst (λ (x : Machine). InLine b m q now x.world (stack x p)) (sym e)
        (subst (InLine b m q now v.world) (sym (stack-set p s v l)) h))) k j i

    inside : (i j : ℕ) → (j ≤ i → ⊥) → i < j
    inside i j past = ⊎_elim (λ (z : i < j). z) (λ (z : j ≤ i). absurd (past z)) (or-past i j)
      where
        or-past : (i j : ℕ) → (i < j) ⊎ (j ≤ i)
        or-past i j = grind arith

    facts : (c : Op) → stack s p ≡ [] ++ c ∷ [] → p < length s.parties → Facts b m q c s.world
    facts c e l = record {
      none = none;
      marked = marked s y (by_itself t ∷ ws) (on, possible, rest);
      empty = λ x look i. (
          let z : IsEmptyMeanwhile s x.run = subst (λ (v : Machine). IsEmptyMeanwhile v x.run) (sym y.is)
          (is-empty-meanwhile y.limit y.kind y.parties y.steps x.run) in
          z (omega (
            arith,
            (itself x.run).0,
            ap (empty_of x.run) i,
            split (empty_of x.run) s.parties p (c ∷ []) [] l e,
          )));
      known = λ o i. (
          let h : Enrolled s = enrolled-here s y in
          let r : ℕ = (steal_of o).poll.run in
          omega (
            arith,
            h.even,
            inside r (length s.world.runs) (λ z. omega (
              arith,
              uses o,
              ap (running_of r) i,
              (h.used r).unborn z,
              split (running_of r) s.parties p (c ∷ []) [] l e,
            )),
          ));
      free = λ x more g i. (
          let some : 1 ≤ free_places s.world x.poll.run = omega (
            arith,
            fills x.poll.run more,
            ap (filling_of x.poll.run) i,
            room-here s x.poll.run y,
            split (filling_of x.poll.run) s.parties p (c ∷ []) [] l e,
          ) in grind (arith, nat_tests));
    }
      where
        uses : (o : StealOp) → running_of (steal_of o).poll.run (Op.Steal o) ≡ 1
        uses (StealOp.Length x) = (itself x.poll.run).0
        uses (StealOp.OwnLength x j) = (itself x.poll.run).0
        uses (StealOp.Take x more) = (itself x.poll.run).0
        uses (StealOp.Put x more g) = (itself x.poll.run).0

        fills : (r more : ℕ) → (let i : ℕ = cond (eqb r r) (more + 1) 0 in i) ≡ suc more
        fills r more = ap (λ (c : Bool). let i : ℕ = cond c (more + 1) 0 in i) (itself r).1
            ∙ (let z : more + 1 ≡ suc more = omega arith in z)

    by-control : (c : Op) → stack s p ≡ [] ++ c ∷ [] → Control q c → ahead b m (span q c s.world) s.world ≡ line →
        Ends line (by_itself t ∷ ws) s
    by-control c e z a = go (one-step p s [] c t e on possible)
      where
        after : (d : Done) → Goes b m q (ahead b m (span q c s.world) s.world) d →
            InLine b m q line (onto p d []).world (onto p d []).todo
        after d (goes_over n i) =
            subst (λ (os : List Op). LineIn b m q line (settled p d.world (reverse os))) (sym n) (over refl (i ∙ a))
        after d (goes_on f) = subst (λ (os : List Op). LineIn b m q line (settled p d.world os)) (sym f.is)
            (settles b m q line p d.world f.control f.side f.kind f.light (f.line_is ∙ a))

        go : OneStep p s [] c t → Ends line (by_itself t ∷ ws) s
        go (answered u te x j k l) = absurd (no-user q c u z x)
        go (acted h te w j k l) =
            let d : Done = act p h c s.world in
            again (onto p d []) [] [] line j (after d (lines-act b m q p h c s.world z (facts c e l)))
            (own-same q d.world (onto p d []).world (onto-own p d []) (beside-act q p h c s.world z none)) l
            (k ∙ control-no-up q c z)
            (step-joins m p s [] t d j ∙ nothing-joins m s.world c d.world.queues (turns-act p h c s.world) (no-append q c z))
            (sym (append-nil line))

    by-side : (c : Op) (below : List Op) (o : Op) → stack s p ≡ (c ∷ below) ++ o ∷ [] → Control q c →
        weigh side_of below ≡ 0 → side_of o ≡ 0 →
        ahead b m (ups_in (below ++ o ∷ []) ++ span q c s.world) s.world ≡ line → Ends line (by_itself t ∷ ws) s
    by-side c below o e z w x a = go (one-step p s (c ∷ below) o t e on possible)
      where
        both : (d : Done) → weigh side_of d.next ≡ 0 → weigh side_of (below ++ reverse d.next) ≡ 0
        both d v = omega (arith, w, v, weigh-append side_of below (reverse d.next), weigh-reverse side_of d.next)

        -- what it has of its own stays
        stays : (d : Done) → d.world.own ≡ s.world.own → ups_in (reverse d.next) ≡ [] →
            ups_in (below ++ reverse d.next) ++ span q c d.world ≡ ups_in below ++ span q c s.world
        stays d i u = ap (λ (ns : List ℕ). ns ++ span q c d.world)
            (ups_in-append below (reverse d.next) ∙ ap (λ (ns : List ℕ). ns ++ ups_in below) u)
            ∙ ap (λ (qs : List (List ℕ)). ups_in below ++ (hand_of c ++ with_hand c (get_or qs q []))) i

        rest_of : List ℕ
        rest_of = ups_in below ++ span q c s.world

        line_is : filter b (up_of o ++ rest_of) ++ (queue_of s.world m).items ≡ line
        line_is = ap (λ (ns : List ℕ). filter b ns ++ (queue_of s.world m).items)
            (sym (append_assoc (up_of o) (ups_in below) (span q c s.world))
            ∙ ap (λ (ns : List ℕ). ns ++ span q c s.world) (sym (ups_in-append below (o ∷ [])))) ∙ a

        now : Done → List ℕ
        now d = filter b rest_of ++ (queue_of d.world m).items

        after : (d : Done) → Beside m s.world d → ups_in (reverse d.next) ≡ [] →
            InLine b m q (now d) (onto p d (c ∷ below)).world (onto p d (c ∷ below)).todo
        after d k u = settles b m q (now d) p d.world c (below ++ reverse d.next) z (both d k.light)
            (ap (λ (ns : List ℕ). ahead b m ns d.world) (stays d k.own u))

        nexts : (d : Done) (k : Beside m s.world d) → ups_in (reverse d.next) ≡ [] →
            stepped s (step s t) ≡ with_part s p (onto p d (c ∷ below)) → taken_by t (top (stack s p)) ≡ up_of o →
            p < length s.parties → Ends line (by_itself t ∷ ws) s
        nexts d k u j up l =
            again (onto p d (c ∷ below)) (up_of o) k.added (now d) j (after d k u)
            (own-same q s.world (onto p d (c ∷ below)).world (onto-own p d (c ∷ below) ∙ k.own) none) l up
            (step-joins m p s (c ∷ below) t d j
            ∙ (ap (drop (length (queue_of s.world m).items)) k.queue ∙ drop-append_seam (queue_of s.world m).items k.added))
            (side-line b (up_of o) rest_of (queue_of s.world m).items k.added (queue_of d.world m).items line k.queue line_is)

        go : OneStep p s (c ∷ below) o t → Ends line (by_itself t ∷ ws) s
        go (acted h te v j k l) =
            nexts (act p h o s.world) (side-act m p h o s.world v x)
            (no-ups-back (act p h o s.world).next (ups-act p h o s.world v x)) j k l
        go (answered u te v j k l) =
            nexts (react p o u s.world) (side-react m p o u s.world v x)
            (no-ups-back (react p o u s.world).next (ups-react p o u s.world v x)) j (k ∙ sym (user-no-up o u v)) l

    by-over : stack s p ≡ [] → Ends line (by_itself t ∷ ws) s
    by-over e = absurd (idle-none p t s.world s.parties (stack s p) e on (of-party p s t on possible).2)

    by-going : (c : Op) (side : List Op) → stack s p ≡ c ∷ side → Control q c → weigh side_of side ≡ 0 →
        ahead b m (ups_in side ++ span q c s.world) s.world ≡ line → Ends line (by_itself t ∷ ws) s
    by-going c side e z x k = go (from-end side)
      where
        go : (side ≡ []) ⊎ Last side → Ends line (by_itself t ∷ ws) s
        go (inl v) = by-control c (e ∙ ap (λ (os : List Op). c ∷ os) v) z
            (subst (λ (os : List Op). ahead b m (ups_in os ++ span q c s.world) s.world ≡ line) v k)
        go (inr v) = let i : _ = light-last side v.below v.last v.is x in
            by-side c v.below v.last (e ∙ ap (λ (os : List Op). c ∷ os) v.is) z i.0 i.1
            (subst (λ (os : List Op). ahead b m (ups_in os ++ span q c s.world) s.world ≡ line) v.is k)

    by-kind : InLine b m q line s.world (stack s p) → Ends line (by_itself t ∷ ws) s
    by-kind (going c side e z x k) = by-going c side e z x k
    by-kind (over e k) = by-over e

  none-after : (ts : List Step) (s : Machine) → Left m ts s → NoneBeside q s.world → NoneBeside q (run ts s).world
  none-after ts s k none = λ n i. k.own n ∙ none n i

  walks : (ws : List Within) (s : Machine) (line : List ℕ) → Reached s → NoneBeside q s.world →
      InLine b m q line s.world (stack s p) → GoesOnSo p ws s new → Ends line ws s
  walks [] s line y none (over e k) made = record {
    is = ap (λ (v : Machine). ahead b m (own_of v.world q) v.world) (sym made) ∙ (k ∙ sym (append-nil line));
    none = subst (λ (v : Machine). NoneBeside q v.world) made none;
  }
  walks [] s line y none (going c side e z x k) made =
      let no : c ∷ side ≡ [] = sym e ∙ (ap (λ (v : Machine). stack v p) made ∙ idles) in absurd (cc)
  walks (meanwhile ts ∷ ws) s line y none h made =
      let k : Left m ts s = left-there m ts s made.0 in
      others-end line ts ws s (walks ws (run ts s) (line ++ joined m ts s) (reached-on s ts y) (none-after ts s k none)
      (subst (InLine b m q (line ++ joined m ts s) (run ts s).world) (sym made.1) (later-line b m q line ts s (stack s p) k h))
      made.2)
  walks (by_itself t ∷ ws) s line y none h made =
      by-kind t ws s y line none made.0 made.1 made.2 (λ now none2 h2.
      walks ws (stepped s (step s t)) now (reached-on s (t ∷ []) y) none2 h2 made.2) h

  -- before it searches, it takes nothing
  early-end : (line : List ℕ) (t : Step) (ws : List Within) (s : Machine) (below : List Op) (o : Op) (d : Done) →
      stepped s (step s t) ≡ with_part s p (onto p d below) → d.world.queues ≡ s.world.queues →
      taken_by t (top (stack s p)) ≡ [] → Ends line ws (stepped s (step s t)) → Ends line (by_itself t ∷ ws) s
  early-end line t ws s below o d j e k r = step-end line line [] [] t ws s r k
      (step-joins m p s below t d j ∙ joins-none (queue_of s.world m).items _ (ap (λ (qs : Queues). (queue_in m qs).items) e))
      (sym (append-nil line))

  module _ (t : Step) (ws : List Within) (s : Machine) (line : List ℕ) (none : NoneBeside q s.world)
      (lined : ahead b m (own_of s.world q) s.world ≡ line)
      (pending : first_of_poll (by_itself t ∷ ws) ≡ Some (UserEnd.Polled Answer.Pending))
      (on : is_onward_of p t ≡ true) (possible : refusal s t ≡ None)
      (early-on : NoneBeside q (stepped s (step s t)).world →
      ahead b m (own_of (stepped s (step s t)).world q) (stepped s (step s t)).world ≡ line →
      first_of_poll ws ≡ Some (UserEnd.Polled Answer.Pending) → Early q (stack (stepped s (step s t)) p) →
      Ends line ws (stepped s (step s t)))
      (walks-on : NoneBeside q (stepped s (step s t)).world →
      InLine b m q line (stepped s (step s t)).world (stack (stepped s (step s t)) p) → Ends line ws (stepped s (step s t))) where
    -- it goes on so, with what is left of the line
    early-again : (h : Hint) (below : List Op) (o : Op) → t ≡ Go p h →
        stepped s (step s t) ≡ with_part s p (onto p (act p h o s.world) below) → p < length s.parties →
        taken_by t (top (stack s p)) ≡ [] → (act p h o s.world).world.queues ≡ s.world.queues →
        (act p h o s.world).world.own ≡ s.world.own → Early q (onto p (act p h o s.world) below).todo →
        Ends line (by_itself t ∷ ws) s
    early-again h below o te j l k e i r =
        let v : Part = onto p (act p h o s.world) below in
        let owns : v.world.own ≡ s.world.own = onto-own p (act p h o s.world) below ∙ i in
        early-end line t ws s below o (act p h o s.world) j e k (early-on
        (subst (λ (x : Machine). NoneBeside q x.world) (sym j) (own-same q s.world v.world owns none))
        (ap (λ (x : Machine). ahead b m (own_of x.world q) x.world) j
        ∙ (ahead-same b m q s.world v.world owns (onto-queues p (act p h o s.world) below ∙ e) ∙ lined))
        (sym (ap (λ (x : Step). first_of_poll (by_itself x ∷ ws)) te) ∙ pending)
        (subst (λ (x : Machine). Early q (stack x p)) (sym j) (subst (Early q) (sym (stack-set p s v l)) r)))

    by-early : Early q (stack s p) → Ends line (by_itself t ∷ ws) s
    by-early (locks x e i) = go (one-step p s [] (Op.List (ListOp.LockWrite (Section.Register x))) t i on possible)
      where
        go : OneStep p s [] (Op.List (ListOp.LockWrite (Section.Register x))) t → Ends line (by_itself t ∷ ws) s
        go (answered u te z j k l) = absurd (cc)
        go (acted h te z j k l) =
            early-again h [] (Op.List (ListOp.LockWrite (Section.Register x))) te j l k refl refl (writes x e refl)
    by-early (writes x e i) = go (one-step p s [] (Op.List (ListOp.Write (Section.Register x))) t i on possible)
      where
        go : OneStep p s [] (Op.List (ListOp.Write (Section.Register x))) t → Ends line (by_itself t ∷ ws) s
        go (answered u te z j k l) = absurd (cc)
        go (acted h te z j k l) =
            early-again h [] (Op.List (ListOp.Write (Section.Register x))) te j l k
            (registered-queue (run_of s.world x.run).stage s.world x.run)
            (registered-own (run_of s.world x.run).stage s.world x.run) (unlocks x e refl)
    by-early (unlocks x e i) =
        go (one-step p s (Op.User (UserOp.PollOwn x) ∷ []) (Op.List ListOp.UnlockWrite) t i on possible)
      where
        go : OneStep p s (Op.User (UserOp.PollOwn x) ∷ []) (Op.List ListOp.UnlockWrite) t → Ends line (by_itself t ∷ ws) s
        go (answered u te z j k l) = absurd (cc)
        go (acted h te z j k l) =
            early-again h (Op.User (UserOp.PollOwn x) ∷ []) (Op.List ListOp.UnlockWrite) te j l k refl refl (asks x e refl)
    by-early (asks x e i) = go (one-step p s [] (Op.User (UserOp.PollOwn x)) t i on possible)
      where
        go : OneStep p s [] (Op.User (UserOp.PollOwn x)) t → Ends line (by_itself t ∷ ws) s
        go (acted h te z j k l) = absurd (cc)
        go (answered u te z j k l) =
            let is : ◌≡◌ {A = Option UserEnd} (Some u) (Some (UserEnd.Polled Answer.Pending)) =
            sym (ap (λ (y : Step). first_of_poll (by_itself y ∷ ws)) te) ∙ pending in
            let v : u ≡ UserEnd.Polled Answer.Pending = cc in
            let w : Part = part s.world (Op.Tick (TickOp.Search (asleep x)) ∷ []) in
            let d : Done = react p (Op.User (UserOp.PollOwn x)) (UserEnd.Polled Answer.Pending) s.world in
            let j2 : stepped s (step s t) ≡ with_part s p (onto p d []) =
            j ∙ ap (λ (y : UserEnd). with_part s p (onto p (react p (Op.User (UserOp.PollOwn x)) y s.world) [])) v in
            early-end line t ws s [] (Op.User (UserOp.PollOwn x)) d j2 refl k (walks-on
            (subst (λ (y : Machine). NoneBeside q y.world) (sym j2) none)
            (subst (λ (y : Machine). InLine b m q line y.world (stack y p)) (sym j2)
            (subst (InLine b m q line s.world) (sym (stack-set p s w l))
            (going (Op.Tick (TickOp.Search (asleep x))) [] refl (ap TickOrRun.Run e) refl lined))))

  early : (ws : List Within) (s : Machine) (line : List ℕ) → Reached s → NoneBeside q s.world →
      ahead b m (own_of s.world q) s.world ≡ line → first_of_poll ws ≡ Some (UserEnd.Polled Answer.Pending) →
      Early q (stack s p) → GoesOnSo p ws s new → Ends line ws s
  early [] s line y none lined pending r made = absurd (cc)
  early (meanwhile ts ∷ ws) s line y none lined pending r made =
      let k : Left m ts s = left-there m ts s made.0 in
      others-end line ts ws s (early ws (run ts s) (line ++ joined m ts s) (reached-on s ts y) (none-after ts s k none)
      (ap (λ (ns : List ℕ). ahead b m ns (run ts s).world) (k.own q) ∙ longer b m ts s (own_of s.world q) line k lined)
      pending (subst (Early q) (sym made.1) r) made.2)
  early (by_itself t ∷ ws) s line y none lined pending r made =
      by-early t ws s line none lined pending made.0 made.1
      (λ none2 lined2 pending2 r2. early ws (stepped s (step s t)) line (reached-on s (t ∷ []) y) none2 lined2 pending2 r2 made.2)
      (λ none2 h2. walks ws (stepped s (step s t)) line (reached-on s (t ∷ []) y) none2 h2 made.2) r

  -- a run that has ended isn't asked
  ended-none : (ws : List Within) (s : Machine) → stack s p ≡ [] → GoesOnSo p ws s new →
      first_of_poll ws ≡ Some (UserEnd.Polled Answer.Pending) → ⊥
  ended-none [] s e made pending = absurd (cc)
  ended-none (meanwhile ts ∷ ws) s e made pending = ended-none ws (run ts s) (made.1 ∙ e) made.2 pending
  ended-none (by_itself t ∷ ws) s e made pending =
      idle-none p t s.world s.parties (stack s p) e made.0 (of-party p s t made.0 made.1).2

  -- the whole poll
  pub from-beginning : (by : By) (s : Machine) (ws : List Within) → Reached s → NoneBeside q s.world → stack s p ≡ [] →
      refusal s (Begin p (Call.PollRun q by)) ≡ None → first_of_poll ws ≡ Some (UserEnd.Polled Answer.Pending) →
      GoesOnSo p ws (stepped s (step s (Begin p (Call.PollRun q by)))) new →
      Ends (ahead b m (own_of s.world q) s.world) ws (stepped s (step s (Begin p (Call.PollRun q by))))
  from-beginning by s ws y none e possible pending made = go (run_of s.world q).stage refl
    where
      x : RunPoll
      x = record {
        run = q;
        waker = waker_of None by;
        poll = length (s.world.trace ++ Event.CallBegun p (Call.PollRun q by) ∷ []);
      }

      first : World
      first = log (log s.world (Event.CallBegun p (Call.PollRun q by))) (Event.RunPolled p q)

      next : Machine
      next = stepped s (step s (Begin p (Call.PollRun q by)))

      l : p < length s.parties
      l = let z : ltb p (length s.parties) ≡ true = (in-range _ _ possible).0 in grind (arith, nat_tests)

      is : (st : Stage) → (run_of s.world q).stage ≡ st → next ≡ with_part s p (onto p (done first (poll_run st x)) [])
      is st i = next-is s (Begin p (Call.PollRun q by)) possible
          ∙ (ap (λ (os : List Op). with_part s p (part_after s.world os (Begin p (Call.PollRun q by)))) e
          ∙ ap (λ (z : Stage). with_part s p (onto p (done first (poll_run z x)) [])) i)

      from : (st : Stage) (os : List Op) → (run_of s.world q).stage ≡ st →
          onto p (done first (poll_run st x)) [] ≡ part first os → Early q os →
          Ends (ahead b m (own_of s.world q) s.world) ws next
      from st os i j r =
          let k : next ≡ with_part s p (part first os) = is st i ∙ ap (with_part s p) j in
          early ws next (ahead b m (own_of s.world q) s.world) (reached-on s (Begin p (Call.PollRun q by) ∷ []) y)
          (subst (λ (v : Machine). NoneBeside q v.world) (sym k) none)
          (ap (λ (v : Machine). ahead b m (own_of v.world q) v.world) k) pending
          (subst (λ (v : Machine). Early q (stack v p)) (sym k) (subst (Early q) (sym (stack-set p s (part first os) l)) r)) made

      go : (st : Stage) → (run_of s.world q).stage ≡ st → Ends (ahead b m (own_of s.world q) s.world) ws next
      go New i = from New (Op.List (ListOp.LockWrite (Section.Register x)) ∷ []) i refl (locks x refl refl)
      go Listed i = from Listed (Op.User (UserOp.PollOwn x) ∷ []) i refl (asks x refl refl)
      go Ended i = absurd (ended-none ws next
          (ap (λ (v : Machine). stack v p) (is Ended i) ∙ stack-set p s (onto p (done first (poll_run Ended x)) []) l)
          made pending)
