-- For kept_futures_come_first.
-- So lone polls of a run take up what stands in its own queue before anything else.
use Rattle.std.proofs.Common.{◌≡◌, ◌⊎◌, ◌∙◌, inl, inr, ⊎_elim, ℕ, ◌<◌, ◌≤◌, List, [], ◌∷◌, ◌++◌, length, get_or}
use Rattle.std.proofs.Common.{Bool, true, false, refl, sym, ap, subst, arith, append-nil, append_assoc, Ok}
use Rattle.std.specs.Prelude.{Option, Some, None, reverse}
use Rattle.executor_laws.proofs.Types.{Look, By, Call, Reply, Event, Kind, ListOp, Op, RunOp, RunPoll, Section, UserOp, Hint, Step, Begin}
use Rattle.executor_laws.proofs.Types.{Go, UserEnd}
use Rattle.executor_model.specs.{declared.step.Step.TheVariants.Answer, ActsOfRuns.make_run_by, ActsOfRuns.registered, Doing.act}
use Rattle.executor_model.specs.{Doing.list_act, Emptiness.IsAtRest, Executions.run_all, OwnQueues.IsEmptyMeanwhile, OwnQueues.empty_of}
use Rattle.executor_model.specs.{Sound.times, Steps.Machine, Steps.Part, Steps.accepts, Steps.after, Steps.begun, Steps.below_top}
use Rattle.executor_model.specs.{Steps.end_of, Steps.gone_on, Steps.mine, Steps.onto, Steps.part, Steps.react, Steps.run, Steps.settled}
use Rattle.executor_model.specs.{Steps.settled_by, Steps.stack, Steps.start, Steps.top, Steps.with_part, Weights.weigh, World.Done}
use Rattle.executor_model.specs.{World.Ended, World.Listed, World.New, World.Stage, World.World, World.log, World.own_of, World.run_of}
use Rattle.executor_model.proofs.{OwnQueues.OwnExecutions.is-empty-meanwhile, OwnQueues.RunsAside.Coat, OwnQueues.RunsDone.Deed}
use Rattle.executor_model.proofs.{OwnQueues.RunsDone.deed-act, Steps.Lift.split, Steps.Lists.times-append, Steps.Lists.weigh-append}
use Rattle.executor_model.proofs.{Steps.Lists.weigh-reverse, Steps.Reached.Reached, Steps.Reached.deep-here, Steps.Reached.good-here}
use Rattle.executor_model.proofs.{Steps.Reached.run-first, Steps.Reached.run-of, Table.Spawning.top-last}
use Rattle.executor_laws.specs.KeptFirst.{BeginsWith, KeptComeFirst, TakesKeptFirst, poll_steps, taken_in, taken_up}
use Rattle.executor_laws.specs.LoneEnds.{are_onward_of, is_onward_of}
use Rattle.executor_laws.specs.RunReach.{AreLonePolls, IsLonePoll, Keeps, LoneRunPoll}
use Rattle.executor_laws.proofs.{Exactness.Ticking.first-times, Fewness.FewSides.ups-act, Fewness.FewSides.ups-react}
use Rattle.executor_laws.proofs.{Placement.Placing.here, Placement.Placing.in-own, Placement.Placing.keeper-own}
use Rattle.executor_laws.proofs.{Placement.Placing.own-keeper, Placement.Placing.queued-due, Promptness.Turns.next-is, Reach.LoneSteps.Last}
use Rattle.executor_laws.proofs.{Reach.LoneSteps.from-end, Reach.LoneTicks.idle-none, Reach.LoneTicks.left-true, Reach.LoneTicks.of-party}
use Rattle.executor_laws.proofs.{Reach.LoneTicks.stack-set, Reach.Reached.bonded-here, Reach.Reached.heard-here, Reach.Searching.at-rest}
use Rattle.executor_laws.proofs.{RunReach.KeptLines.Goes, RunReach.KeptLines.hand_of, RunReach.KeptLines.lines-act}
use Rattle.executor_laws.proofs.{RunReach.KeptLines.no-ups-back, RunReach.KeptLines.ups_in, RunReach.KeptLines.ups_in-append}
use Rattle.executor_laws.proofs.{RunReach.RunKeeps.light-last, RunReach.RunKeeps.side-no-end, RunReach.RunLeaves.gone-onto}
use Rattle.executor_laws.proofs.{RunReach.RunReaching.arrived, RunReach.RunReaching.first-is, RunReach.RunReaching.first-machine}
use Rattle.executor_laws.proofs.{RunReach.RunReaching.new-idle, RunReach.RunReaching.reached-new, RunReach.RunSteps.Aside}
use Rattle.executor_laws.proofs.{RunReach.RunSteps.Control, RunReach.RunSteps.aside-act, RunReach.RunSteps.aside-react}
use Rattle.executor_laws.proofs.{RunReach.RunSteps.no-user, RunReach.RunSteps.side_of, RunReach.RunWalks.Onward, RunReach.RunWalks.onward}
use Rattle.executor_laws.proofs.{RunReach.RunWalks.Onward.acted, RunReach.RunWalks.Onward.answered, RunReach.TakenUp.answers-up}
use Rattle.executor_laws.proofs.{RunReach.TakenUp.goes-up, RunReach.TakenUp.up_of, Walks.Finding.itself}
use Rattle.executor_model.specs.declared.event.Answer.TheVariants as answer
use Rattle.executor_laws.proofs.RunReach.KeptLines.Goes.{on as goes_on, over as goes_over}

begins-is : (xs ys zs : List ℕ) → ys ≡ zs → BeginsWith xs ys → BeginsWith xs zs
begins-is xs ys zs e b = (b.0, sym e ∙ b.1)

begins-more : (xs ys zs more : List ℕ) → zs ≡ ys ++ more → BeginsWith xs ys → BeginsWith xs zs
begins-more xs ys zs more e b =
    (b.0 ++ more, e ∙ (ap (λ (ns : List ℕ). ns ++ more) b.1 ∙ append_assoc xs b.0 more))

-- what is left of the poll: what it has taken up, what it has in hand and its own queue begin with what stood there
data Line (q : ℕ) (first xs : List ℕ) (w : World) (os : List Op) : Type 0 where
  going : (c : Op) (side : List Op) → os ≡ c ∷ side → Control q c → weigh side_of side ≡ 0 →
      BeginsWith first (xs ++ (ups_in side ++ (hand_of c ++ own_of w q))) → Line q first xs w os
  over : os ≡ [] → BeginsWith first (xs ++ own_of w q) → Line q first xs w os

abbrev LineIn : ℕ → List ℕ → List ℕ → Part → Type 0
LineIn q first xs x = Line q first xs x.world x.todo

ended-hand : (c : Op) (a : Reply) → end_of (Some c) ≡ Some a → hand_of c ≡ []
ended-hand (Op.End r held) a e = refl
ended-hand _ a e = absurd (cc)

settles : (q : ℕ) (first xs : List ℕ) (p : ℕ) (w : World) (c : Op) (side : List Op) → Control q c → weigh side_of side ≡ 0 →
    BeginsWith first (xs ++ (ups_in side ++ (hand_of c ++ own_of w q))) → LineIn q first xs (settled p w (c ∷ side))
settles q first xs p w c side k z t = go (from-end side)
  where
    by-end : (o : Option Reply) → end_of (Some c) ≡ o → side ≡ [] → LineIn q first xs (settled_by o p w (c ∷ []))
    by-end None i e = going c [] refl k refl
        (subst (λ (os : List Op). BeginsWith first (xs ++ (ups_in os ++ (hand_of c ++ own_of w q)))) e t)
    by-end (Some a) i e = over refl
        (subst (λ (hs : List ℕ). BeginsWith first (xs ++ (hs ++ own_of w q))) (ended-hand c a i)
        (subst (λ (os : List Op). BeginsWith first (xs ++ (ups_in os ++ (hand_of c ++ own_of w q)))) e t))

    go : (side ≡ []) ⊎ Last side → LineIn q first xs (settled p w (c ∷ side))
    go (inl e) = subst (λ (os : List Op). LineIn q first xs (settled p w (c ∷ os))) (sym e) (by-end (end_of (Some c)) refl e)
    go (inr l) =
        let b : _ = light-last side l.below l.last l.is z in
        let x : settled p w (c ∷ (l.below ++ l.last ∷ [])) ≡ part w (c ∷ (l.below ++ l.last ∷ [])) =
        ap (λ (v : Option Reply). settled_by v p w (c ∷ (l.below ++ l.last ∷ [])))
        (ap end_of (top-last (c ∷ l.below) l.last) ∙ side-no-end l.last b.1) in
        subst (λ (os : List Op). LineIn q first xs (settled p w (c ∷ os))) (sym l.is)
        (subst (LineIn q first xs) (sym x)
        (going c (l.below ++ l.last ∷ []) refl k (subst (λ (os : List Op). weigh side_of os ≡ 0) l.is z)
        (subst (λ (os : List Op). BeginsWith first (xs ++ (ups_in os ++ (hand_of c ++ own_of w q)))) l.is t)))

pub control-no-up : (q : ℕ) (c : Op) → Control q c → up_of c ≡ []
control-no-up q (Op.Move m f) k = absurd k
control-no-up q _ k = refl

pub user-no-up : (o : Op) (u : UserEnd) → accepts o u ≡ true → up_of o ≡ []
user-no-up (Op.Move m f) u a = absurd (cc)
user-no-up _ u a = refl

module _ (p q : ℕ) (first : List ℕ) (new : Machine) (idles : stack new p ≡ []) where
  abbrev Result : List ℕ → List Step → Machine → Type 0
  Result xs ts s = BeginsWith first ((xs ++ taken_up p ts s) ++ own_of new.world q)

  module _ (t : Step) (ts : List Step) (s : Machine) (y : Reached s) (xs : List ℕ)
      (on : are_onward_of p (t ∷ ts) ≡ true) (m : run_all (t ∷ ts) s ≡ Ok new)
      (further : (v : Machine) (ns : List ℕ) → Reached v → Line q first ns v.world (stack v p) →
      are_onward_of p ts ≡ true → run_all ts v ≡ Ok new → Result ns ts v) where
    -- it has taken these up by the step
    again : (others : List Step) (x : Step) (v : Part) (ns : List ℕ) → t ∷ ts ≡ x ∷ others → LineIn q first (xs ++ ns) v →
        Reached (with_part s p v) → run_all others (with_part s p v) ≡ Ok new → are_onward_of p others ≡ true →
        p < length s.parties → taken_up p (t ∷ ts) s ≡ ns ++ taken_up p others (with_part s p v) → Result xs (t ∷ ts) s
    again others x v ns te h y2 n2 on2 l k =
        let e : ts ≡ others = cc in
        let r : Result (xs ++ ns) ts (with_part s p v) =
        further (with_part s p v) (xs ++ ns) y2 (subst (Line q first (xs ++ ns) v.world) (sym (stack-set p s v l)) h)
        (ap (are_onward_of p) e ∙ on2) (ap (λ (zs : List Step). run_all zs (with_part s p v)) e ∙ n2) in
        begins-is first (((xs ++ ns) ++ taken_up p ts (with_part s p v)) ++ own_of new.world q)
        ((xs ++ taken_up p (t ∷ ts) s) ++ own_of new.world q)
        (ap (λ (zs : List ℕ). zs ++ own_of new.world q)
        (ap (λ (os : List Step). (xs ++ ns) ++ taken_up p os (with_part s p v)) e
        ∙ (append_assoc xs ns (taken_up p others (with_part s p v)) ∙ ap (λ (zs : List ℕ). xs ++ zs) (sym k)))) r

    -- it has taken none up
    again-none : (others : List Step) (x : Step) (v : Part) (ns : List ℕ) → ns ≡ [] → t ∷ ts ≡ x ∷ others → LineIn q first xs v →
        Reached (with_part s p v) → run_all others (with_part s p v) ≡ Ok new → are_onward_of p others ≡ true →
        p < length s.parties → taken_up p (t ∷ ts) s ≡ ns ++ taken_up p others (with_part s p v) → Result xs (t ∷ ts) s
    again-none others x v ns i te h y2 n2 on2 l k =
        again others x v ns te (subst (λ (zs : List ℕ). LineIn q first zs v)
        (sym (ap (λ (zs : List ℕ). xs ++ zs) i ∙ append-nil xs)) h) y2 n2 on2 l k

    empty : (c : Op) → stack s p ≡ [] ++ c ∷ [] → p < length s.parties → (x : RunPoll) (look : Look) →
        c ≡ Op.Run (RunOp.SearchCommon x look) →
        own_of s.world x.run ≡ []
    empty c e l x look i =
        let z : IsEmptyMeanwhile s x.run = subst (λ (v : Machine). IsEmptyMeanwhile v x.run) (sym y.is)
        (is-empty-meanwhile y.limit y.kind y.parties y.steps x.run) in
        z (omega (
          arith,
          (itself x.run).0,
          ap (empty_of x.run) i,
          split (empty_of x.run) s.parties p (c ∷ []) [] l e,
        ))

    by-control : (c : Op) → stack s p ≡ [] ++ c ∷ [] → Control q c → BeginsWith first (xs ++ (hand_of c ++ own_of s.world q)) →
        Result xs (t ∷ ts) s
    by-control c e z b = go (onward p s new [] c (t ∷ ts) e y idles on m)
      where
        after : (d : Done) → Goes q (hand_of c ++ own_of s.world q) d → LineIn q first xs (onto p d [])
        after d (goes_over n i) = subst (λ (os : List Op). LineIn q first xs (settled p d.world (reverse os))) (sym n)
            (over refl (begins-is first (xs ++ (hand_of c ++ own_of s.world q)) (xs ++ own_of d.world q)
            (ap (λ (ns : List ℕ). xs ++ ns) (sym i)) b))
        after d (goes_on f) = subst (λ (os : List Op). LineIn q first xs (settled p d.world os)) (sym f.is)
            (settles q first xs p d.world f.control f.side f.kind f.light
            (begins-more first (xs ++ (hand_of c ++ own_of s.world q))
            (xs ++ (ups_in f.side ++ (hand_of f.control ++ own_of d.world q))) f.more
            (ap (λ (ns : List ℕ). xs ++ ns) f.line ∙ sym (append_assoc xs (hand_of c ++ own_of s.world q) f.more)) b))

        go : Onward p s new [] c (t ∷ ts) → Result xs (t ∷ ts) s
        go (answered u others te a y2 n2 on2 l) = absurd (no-user q c u z a)
        go (acted h others te w y2 n2 on2 l) =
            again-none others _ (onto p (act p h c s.world) []) (up_of c) (control-no-up q c z) te
            (after (act p h c s.world) (lines-act q p h c s.world z (empty c e l))) y2 n2 on2 l
            (goes-up p s new [] c (t ∷ ts) e m h others te)

    by-side : (c : Op) (below : List Op) (o : Op) → stack s p ≡ (c ∷ below) ++ o ∷ [] → Control q c →
        weigh side_of below ≡ 0 → side_of o ≡ 0 →
        BeginsWith first (xs ++ (ups_in (below ++ o ∷ []) ++ (hand_of c ++ own_of s.world q))) → Result xs (t ∷ ts) s
    by-side c below o e z b x k = go (onward p s new (c ∷ below) o (t ∷ ts) e y idles on m)
      where
        both : (d : Done) → weigh side_of d.next ≡ 0 → weigh side_of (below ++ reverse d.next) ≡ 0
        both d v = omega (arith, b, v, weigh-append side_of below (reverse d.next), weigh-reverse side_of d.next)

        -- what is done beside leaves the line
        stays : (d : Done) → d.world.own ≡ s.world.own → ups_in (reverse d.next) ≡ [] →
            ups_in (below ++ reverse d.next) ++ (hand_of c ++ own_of d.world q) ≡ ups_in below ++ (hand_of c ++ own_of s.world q)
        stays d i u = ap (λ (ns : List ℕ). ns ++ (hand_of c ++ own_of d.world q))
            (ups_in-append below (reverse d.next) ∙ ap (λ (ns : List ℕ). ns ++ ups_in below) u)
            ∙ ap (λ (qs : List (List ℕ)). ups_in below ++ (hand_of c ++ get_or qs q [])) i

        line : xs ++ (ups_in (below ++ o ∷ []) ++ (hand_of c ++ own_of s.world q))
            ≡ (xs ++ up_of o) ++ (ups_in below ++ (hand_of c ++ own_of s.world q))
        line = ap (λ (ns : List ℕ). xs ++ (ns ++ (hand_of c ++ own_of s.world q))) (ups_in-append below (o ∷ []))
            ∙ (ap (λ (ns : List ℕ). xs ++ ns) (append_assoc (up_of o) (ups_in below) (hand_of c ++ own_of s.world q))
            ∙ sym (append_assoc xs (up_of o) (ups_in below ++ (hand_of c ++ own_of s.world q))))

        after : (d : Done) → weigh side_of d.next ≡ 0 → d.world.own ≡ s.world.own → ups_in (reverse d.next) ≡ [] →
            LineIn q first (xs ++ up_of o) (onto p d (c ∷ below))
        after d v i u = settles q first (xs ++ up_of o) p d.world c (below ++ reverse d.next) z (both d v)
            (begins-is first (xs ++ (ups_in (below ++ o ∷ []) ++ (hand_of c ++ own_of s.world q)))
            ((xs ++ up_of o) ++ (ups_in (below ++ reverse d.next) ++ (hand_of c ++ own_of d.world q)))
            (line ∙ ap (λ (ns : List ℕ). (xs ++ up_of o) ++ ns) (sym (stays d i u))) k)

        go : Onward p s new (c ∷ below) o (t ∷ ts) → Result xs (t ∷ ts) s
        go (acted h others te w y2 n2 on2 l) =
            let d : Done = act p h o s.world in
            let a : Aside s.world d = aside-act p h o s.world w x in
            again others _ (onto p d (c ∷ below)) (up_of o) te
            (after d a.light a.own (no-ups-back d.next (ups-act p h o s.world w x))) y2 n2 on2 l
            (goes-up p s new (c ∷ below) o (t ∷ ts) e m h others te)
        go (answered u others te w y2 n2 on2 l) =
            let d : Done = react p o u s.world in
            let a : Aside s.world d = aside-react p o u s.world w x in
            again others _ (onto p d (c ∷ below)) (up_of o) te
            (after d a.light a.own (no-ups-back d.next (ups-react p o u s.world w x))) y2 n2 on2 l
            (answers-up p s new (c ∷ below) o (t ∷ ts) e m u others te
            ∙ ap (λ (ns : List ℕ). ns ++ taken_up p others (with_part s p (onto p d (c ∷ below)))) (sym (user-no-up o u w)))

    by-over : stack s p ≡ [] → Result xs (t ∷ ts) s
    by-over e =
        let k : is_onward_of p t ≡ true = (left-true (is_onward_of p t) (are_onward_of p ts) on).0 in
        absurd (idle-none p t s.world s.parties (stack s p) e k (of-party p s t k (run-first t ts s new m).0).2)

    by-going : (c : Op) (side : List Op) → stack s p ≡ c ∷ side → Control q c → weigh side_of side ≡ 0 →
        BeginsWith first (xs ++ (ups_in side ++ (hand_of c ++ own_of s.world q))) → Result xs (t ∷ ts) s
    by-going c side e z x k = go (from-end side)
      where
        go : (side ≡ []) ⊎ Last side → Result xs (t ∷ ts) s
        go (inl v) = by-control c (e ∙ ap (λ (os : List Op). c ∷ os) v) z
            (subst (λ (os : List Op). BeginsWith first (xs ++ (ups_in os ++ (hand_of c ++ own_of s.world q)))) v k)
        go (inr v) = let b : _ = light-last side v.below v.last v.is x in
            by-side c v.below v.last (e ∙ ap (λ (os : List Op). c ∷ os) v.is) z b.0 b.1
            (subst (λ (os : List Op). BeginsWith first (xs ++ (ups_in os ++ (hand_of c ++ own_of s.world q)))) v.is k)

    by-kind : Line q first xs s.world (stack s p) → Result xs (t ∷ ts) s
    by-kind (going c side e z x k) = by-going c side e z x k
    by-kind (over e k) = by-over e

  walks : (ts : List Step) (s : Machine) (xs : List ℕ) → Reached s → Line q first xs s.world (stack s p) →
      are_onward_of p ts ≡ true → run_all ts s ≡ Ok new → Result xs ts s
  walks [] s xs y (over e k) on m =
      let same_one : s ≡ new = cc in
      begins-is first (xs ++ own_of s.world q) ((xs ++ []) ++ own_of new.world q)
      (ap (λ (v : Machine). xs ++ own_of v.world q) same_one
      ∙ ap (λ (ns : List ℕ). ns ++ own_of new.world q) (sym (append-nil xs))) k
  walks [] s xs y (going c side e z x k) on m =
      let same_one : s ≡ new = cc in
      let no : c ∷ side ≡ [] = sym e ∙ (ap (λ (v : Machine). stack v p) same_one ∙ idles) in absurd (cc)
  walks (t ∷ ts) s xs y h on m =
      by-kind t ts s y xs on m (λ v ns y2 h2 on2 m2. walks ts v ns y2 h2 on2 m2) h

-- the drop of the executor doesn't begin meanwhile

gone-make : (b : Bool) (w : World) → (make_run_by b w).world.gone ≡ w.gone
gone-make true w = refl
gone-make false w = refl

gone-register : (t : Stage) (w : World) (r : ℕ) → (registered t w r).gone ≡ w.gone
gone-register New w r = refl
gone-register Listed w r = refl
gone-register Ended w r = refl

gone-list : (h : Hint) (o : ListOp) (w : World) → (list_act h o w).world.gone ≡ w.gone
gone-list h (ListOp.Write Section.MakeRun) w = gone-make h.refused w
gone-list h (ListOp.Write (Section.Register x)) w = gone-register (run_of w x.run).stage w x.run
gone-list h (ListOp.Write (Section.Unregister q a)) w = refl
gone-list h (ListOp.LockWrite s) w = refl
gone-list h ListOp.UnlockWrite w = refl
gone-list h (ListOp.LockRead x) w = refl
gone-list h ListOp.UnlockRead w = refl

gone-deed : (w : World) (o : Op) (d : Done) → Deed w o d → d.world.gone ≡ w.gone
gone-deed w o d (Deed.keeps e l) = sym (ap (λ (c : Coat). c.gone) e)
gone-deed w o d (Deed.takes q f rest i e l) = sym (ap (λ (c : Coat). c.gone) e)
gone-deed w o d (Deed.lacks q i e l) = sym (ap (λ (c : Coat). c.gone) e)
gone-deed w o d (Deed.shares s n k l e m) = sym (ap (λ (c : Coat). c.gone) e)
gone-deed w o d (Deed.grows s k f e m) = sym (ap (λ (c : Coat). c.gone) e)
gone-deed w o d (Deed.wakes p x e z) = sym (ap (λ (c : Coat). c.gone) e)
gone-deed w o d (Deed.lists h l) = gone-list h l w

gone-react : (p : ℕ) (o : Op) (u : UserEnd) (w : World) → (react p o u w).world.gone ≡ w.gone
gone-react p (Op.User (UserOp.Poll f)) (UserEnd.Polled answer.Pending) w = refl
gone-react p (Op.User (UserOp.Poll f)) (UserEnd.Polled answer.Ready) w = refl
gone-react p (Op.User (UserOp.PollOwn x)) (UserEnd.Polled answer.Pending) w = refl
gone-react p (Op.User (UserOp.PollOwn x)) (UserEnd.Polled answer.Ready) w = refl
gone-react p _ _ w = refl

gone-went : (w : World) (os : List Op) (p : ℕ) (d : Op → Done) (o : Option Op) → ((x : Op) → (d x).world.gone ≡ w.gone) →
    (gone_on p w os o d).world.gone ≡ w.gone
gone-went w os p d None k = refl
gone-went w os p d (Some x) k = gone-onto p (d x) (below_top os) ∙ k x

gone-after : (p : ℕ) (s : Machine) (t : Step) → is_onward_of p t ≡ true → (after s t).world.gone ≡ s.world.gone
gone-after p s (Begin i c) on = absurd (cc)
gone-after p s (Go i h) on = gone-went s.world (stack s i) i (λ x. act i h x s.world) (top (stack s i))
    (λ x. gone-deed s.world x (act i h x s.world) (deed-act i h x s.world))
gone-after p s (Answer i u) on = gone-went s.world (stack s i) i (λ x. react i x u s.world) (top (stack s i))
    (λ x. gone-react i x u s.world)

gone-along : (p : ℕ) (ts : List Step) (s new : Machine) → are_onward_of p ts ≡ true → run_all ts s ≡ Ok new →
    new.world.gone ≡ s.world.gone
gone-along p [] s new on m = let same_one : s ≡ new = cc in ap (λ (v : Machine). v.world.gone) (sym same_one)
gone-along p (t ∷ ts) s new on m =
    let k : _ = left-true (is_onward_of p t) (are_onward_of p ts) on in
    gone-along p ts (after s t) new k.1 (run-first t ts s new m).1 ∙ gone-after p s t k.0

-- one poll

module _ (s : Machine) (y : Reached s) (rest : IsAtRest s) (r p : ℕ) (b : By) (steps : List Step) (new : Machine)
    (k : IsLonePoll p r b steps s new) where
  idle-there : stack new p ≡ []
  idle-there = new-idle s y rest r p b steps new k

  from-beginning : BeginsWith (own_of s.world r)
      (taken_up p steps (first-machine s y rest r p b steps new k) ++ own_of new.world r)
  from-beginning =
      let a = arrived s y rest r p b steps new k in
      begins-is (own_of s.world r) (([] ++ taken_up p a.others a.machine) ++ own_of new.world r)
      (taken_up p steps (first-machine s y rest r p b steps new k) ++ own_of new.world r)
      (ap (λ (ns : List ℕ). ns ++ own_of new.world r) (sym a.taken))
      (walks p r (own_of s.world r) new idle-there a.others a.machine [] a.here.reached
      (going _ [] a.here.todo refl refl ([], a.here.so_far.own_is ∙ sym (append-nil (own_of s.world r)))) a.onward a.made)

  one-poll : BeginsWith (own_of s.world r) (taken_up p (Begin p (Call.PollRun r b) ∷ steps) s ++ own_of new.world r)
  one-poll =
      begins-is (own_of s.world r) (taken_up p steps (first-machine s y rest r p b steps new k) ++ own_of new.world r)
      (taken_up p (Begin p (Call.PollRun r b) ∷ steps) s ++ own_of new.world r)
      (ap (λ (v : Machine). taken_up p steps v ++ own_of new.world r)
      (sym (next-is s (Begin p (Call.PollRun r b)) (run-first (Begin p (Call.PollRun r b)) steps s new k.call.made).0
      ∙ first-is s y rest r p b steps new k))) from-beginning

  -- no call is in progress behind it
  rests-then : IsAtRest new
  rests-then = at-rest s y rest p (Call.PollRun r b) steps new k.call
      (gone-along p steps (after s (Begin p (Call.PollRun r b))) new k.call.alone
      (run-first (Begin p (Call.PollRun r b)) steps s new k.call.made).1
      ∙ (gone-onto p (begun p (log s.world (Event.CallBegun p (Call.PollRun r b))) (mine (top (stack s p))) (Call.PollRun r b)) (stack s p)
      ∙ here s (good-here s y) (heard-here s y) (deep-here s y) (bonded-here s y) rest))

-- lists of such polls

in-order : (polls : List LoneRunPoll) (s new : Machine) → Reached s → IsAtRest s → (r : ℕ) → AreLonePolls r polls s new →
    BeginsWith (own_of s.world r) (taken_in r polls s ++ own_of new.world r)
in-order [] s new y rest r e =
    ([], ap (λ (v : Machine). own_of v.world r) (sym e) ∙ sym (append-nil (own_of s.world r)))
in-order (t ∷ ts) s new y rest r k =
    let next : Machine = k.0 in
    let is : run (poll_steps r t) s ≡ next = run-of (poll_steps r t) s next k.1.call.made in
    let a : BeginsWith (own_of s.world r) (taken_up t.party (poll_steps r t) s ++ own_of next.world r) =
    one-poll s y rest r t.party t.by t.steps next k.1 in
    let c : BeginsWith (own_of next.world r) (taken_in r ts next ++ own_of new.world r) =
    in-order ts next new (reached-new s y rest r t.party t.by t.steps next k.1)
    (rests-then s y rest r t.party t.by t.steps next k.1) r k.2 in
    begins-more (own_of s.world r) (taken_up t.party (poll_steps r t) s ++ own_of next.world r)
    (taken_in r (t ∷ ts) s ++ own_of new.world r) c.0
    (ap (λ (v : Machine). (taken_up t.party (poll_steps r t) s ++ taken_in r ts v) ++ own_of new.world r) is
    ∙ (append_assoc (taken_up t.party (poll_steps r t) s) (taken_in r ts next) (own_of new.world r)
    ∙ (ap (λ (ns : List ℕ). taken_up t.party (poll_steps r t) s ++ ns) c.1
    ∙ sym (append_assoc (taken_up t.party (poll_steps r t) s) (own_of next.world r) c.0)))) a

-- where xs begins with ys, what stands in xs is one of ys, or comes behind all of them
one-or-all : (g : ℕ) (before after ys more : List ℕ) → before ++ g ∷ after ≡ ys ++ more →
    (1 ≤ times g ys) ⊎ BeginsWith ys before
one-or-all g before after [] more e = inr (before, refl)
one-or-all g [] after (y ∷ ys) more e =
    let i : g ≡ y = cc in
    inl (omega (arith, first-times y ys, ap (λ (n : ℕ). times n (y ∷ ys)) i))
one-or-all g (b ∷ before) after (y ∷ ys) more e =
    let i : b ≡ y = cc in
    let j : before ++ g ∷ after ≡ ys ++ more = cc in
    ⊎_elim
    (λ (x : 1 ≤ times g ys). inl (omega (arith, x, times-append g (y ∷ []) ys)))
    (λ (x : BeginsWith ys before). inr (x.0, ap (λ (n : ℕ). n ∷ before) i ∙ ap (λ (ns : List ℕ). y ∷ ns) x.1))
    (one-or-all g before after ys more j)

module _ (s : Machine) (y : Reached s) (rest : IsAtRest s) (r : ℕ) where
  -- what stands in its own queue it keeps
  pub kept-there : (g : ℕ) → 1 ≤ times g (own_of s.world r) → Keeps r g s.world.trace
  kept-there g n = record {
    due = queued-due s (good-here s y) (heard-here s y) (deep-here s y) (bonded-here s y) rest g (omega (
      arith,
      n,
      in-own s (good-here s y) (heard-here s y) (deep-here s y) (bonded-here s y) rest g r,
    ));
    keeper = own-keeper s (good-here s y) (heard-here s y) (deep-here s y) (bonded-here s y) rest g r n;
  }

  stands-there : (f : ℕ) → Keeps r f s.world.trace → 1 ≤ times f (own_of s.world r)
  stands-there f z = keeper-own s (good-here s y) (heard-here s y) (deep-here s y) (bonded-here s y) rest f r z.due z.keeper

  come-first : (polls : List LoneRunPoll) (new : Machine) → AreLonePolls r polls s new →
      KeptComeFirst r s new (taken_in r polls s)
  come-first polls new k =
      let o : BeginsWith (own_of s.world r) (taken_in r polls s ++ own_of new.world r) = in-order polls s new y rest r k in
      record {
        order = o;
        first = λ f g kept unkept before after e. by f g kept unkept before after e o;
      }
    where
      by : (f g : ℕ) → Keeps r f s.world.trace → ¬ Keeps r g s.world.trace → (before after : List ℕ) →
          taken_in r polls s ≡ before ++ g ∷ after → BeginsWith (own_of s.world r) (taken_in r polls s ++ own_of new.world r) →
          1 ≤ times f before
      by f g kept unkept before after e o = ⊎_elim
          (λ (x : 1 ≤ times g (own_of s.world r)). absurd (unkept (kept-there g x)))
          (λ (x : BeginsWith (own_of s.world r) before). omega (
            arith,
            stands-there f kept,
            ap (times f) x.1,
            times-append f (own_of s.world r) x.0,
          ))
          (one-or-all g before (after ++ own_of new.world r) (own_of s.world r) o.0
          (sym (append_assoc before (g ∷ after) (own_of new.world r))
          ∙ (ap (λ (ns : List ℕ). ns ++ own_of new.world r) (sym e) ∙ o.1)))

pub kept-come-first : (limit : ℕ) (kind : Kind) (parties : ℕ) (steps : List Step) → TakesKeptFirst (run steps (start limit kind parties))
kept-come-first limit kind parties steps = λ rest r polls new k. come-first (run steps (start limit kind parties))
    (record { limit = limit; kind = kind; parties = parties; steps = steps; is = refl }) rest r polls new k
