-- For runs_reach_futures, kept_futures_are_in_reach and dropped_runs_leave_common_futures.
-- What a run that is dropped leaves in its own queue comes into the executor's queue.
use Rattle.std.proofs.Common.{◌≡◌, ◌⊎◌, ◌∙◌, inl, inr, ⊎_elim, ℕ, ◌+◌, ◌<◌, ◌≤◌, List, [], ◌∷◌, ◌++◌, length}
use Rattle.std.proofs.Common.{get_or, Bool, true, false, ◌||◌, ltb, refl, sym, ap, subst, arith, Ok}
use Rattle.std.proofs.lemmas.Bool.Decides.{nat_tests}
use Rattle.std.specs.Prelude.{reverse}
use Rattle.executor_laws.proofs.Types.{Call, Reply, Event, Kind, Hold, ListOp, Op, QueueOp, RunOp, Section, TickOrRun, TickOp, UserOp, Step}
use Rattle.executor_laws.proofs.Types.{Begin}
use Rattle.executor_model.specs.{ActsOfRuns.reschedule_by, Doing.act, Emptiness.IsAtRest, Keeper.IsCommon, Executions.run_all, Sound.times}
use Rattle.executor_model.specs.{Steps.Machine, Steps.Part, Steps.drop_run, Steps.onto, Steps.part_after, Steps.react, Steps.run}
use Rattle.executor_model.specs.{Steps.stack, Steps.start, Steps.with_part, Weights.weigh, Weights.weigh_all, World.Ended, World.Listed}
use Rattle.executor_model.specs.{World.New, World.Stage, World.World, World.done, World.log, World.own_of, World.mark_of, World.place_of}
use Rattle.executor_model.specs.{World.put_run, World.queue_of, World.queued_in, World.run_of}
use Rattle.executor_model.proofs.{Steps.QueuesByMark.any-shut, Table.LeavingExecutions.has-place, Steps.Lists.weigh-reverse}
use Rattle.executor_model.proofs.{Quiet.Resting.all-rest, Quiet.Resting.rests, OwnQueues.Using.emptying_of, OwnQueues.UsingWorlds.idle-act}
use Rattle.executor_model.proofs.{OwnQueues.UsingWorlds.is_over_stage, Steps.Reached.Reached, Steps.Reached.deep-here}
use Rattle.executor_model.proofs.{Steps.Reached.good-here, Steps.Reached.reached-more, Steps.Reached.reached-step, Steps.Reached.run-first}
use Rattle.executor_laws.specs.{LoneEnds.IsLoneCall, LoneEnds.are_onward_of, LoneEnds.is_onward_of, RunReach.Keeps, RunReach.LeavesCommon}
use Rattle.executor_laws.proofs.Reach.LoneMoves.{Inner, inner-act, inner-react, stray_of}
use Rattle.executor_laws.proofs.Reach.LoneSteps.{Last, from-end}
use Rattle.executor_laws.proofs.Reach.Reached.{bonded-here, heard-here}
use Rattle.executor_laws.proofs.Reach.LoneTicks.{idle-none, in-range, left-true, of-party, stack-set}
use Rattle.executor_laws.proofs.Placement.Placing.{here, idle, keeper-own, queue-common}
use Rattle.executor_laws.proofs.RunReach.RunWalks.{Onward, both-light, light, onward}
use Rattle.executor_laws.proofs.RunReach.RunWalks.Onward.{acted, answered}
use Rattle.executor_laws.proofs.Reach.Searching.{at-rest}
use Rattle.executor_laws.proofs.RunReach.RunLeaves.{own-act, own-react, more-stands, Remains, Rests, to-end, from-queue, from-leaving}
use Rattle.executor_laws.proofs.RunReach.RunLeaves.{from-append, has-room, not-true, gone-onto, gone-reschedule, back-again}
use Rattle.executor_laws.proofs.RunReach.RunLeaves.Remains.{back, puts, leaves, ends, over}

-- f stands in the executor's queue, which is there
record Stands (f : ℕ) (m : Machine) : Type 0 where
  pub there : m.world.gone ≡ false
  pub stands : 1 ≤ times f (queued_in m.world)

module _ (p r f : ℕ) (new : Machine) (idles : stack new p ≡ []) where
  module _ (t : Step) (ts : List Step) (s : Machine) (y : Reached s) (there : s.world.gone ≡ false)
      (on : are_onward_of p (t ∷ ts) ≡ true) (n : run_all (t ∷ ts) s ≡ Ok new)
      (further : (m : Machine) → Reached m → m.world.gone ≡ false → Remains r f m.world (stack m p) →
      are_onward_of p ts ≡ true → run_all ts m ≡ Ok new → Stands f new) where
    -- the party has this to do now
    again : (others : List Step) (x : Step) (v : Part) → t ∷ ts ≡ x ∷ others → v.world.gone ≡ false → Rests r f v →
        Reached (with_part s p v) → run_all others (with_part s p v) ≡ Ok new → are_onward_of p others ≡ true →
        p < length s.parties → Stands f new
    again others x v te g k y2 n2 on2 l =
        let q : ts ≡ others = cc in
        further (with_part s p v) y2 g (subst (Remains r f v.world) (sym (stack-set p s v l)) k)
        (ap (are_onward_of p) q ∙ on2) (ap (λ (xs : List Step). run_all xs (with_part s p v)) q ∙ n2)

    by-back : (a : Reply) (rest : List ℕ) (below : List Op) (o : Op) →
        stack s p ≡ (Op.Run (RunOp.Reschedule r a) ∷ below) ++ o ∷ [] → weigh stray_of below ≡ 0 → stray_of o ≡ 0 →
        own_of s.world r ≡ rest → 1 ≤ times f (queued_in s.world) + times f rest → Stands f new
    by-back a rest below o e z x w k =
        go (onward p s new (Op.Run (RunOp.Reschedule r a) ∷ below) o (t ∷ ts) e y idles on n)
      where
        go : Onward p s new (Op.Run (RunOp.Reschedule r a) ∷ below) o (t ∷ ts) → Stands f new
        go (acted h others te wt y2 n2 on2 l) =
            let i : Inner s.world (act p h o s.world) = inner-act p h o s.world wt x in
            again others _ (onto p (act p h o s.world) (Op.Run (RunOp.Reschedule r a) ∷ below)) te
            (gone-onto p (act p h o s.world) (Op.Run (RunOp.Reschedule r a) ∷ below) ∙ (i.there ∙ there))
            (back-again p r f a (act p h o s.world) below rest z i.plain
            (ap (λ (qs : List (List ℕ)). get_or qs r []) (own-act p h o s.world x) ∙ w)
            (omega (arith, k, more-stands f s.world (act p h o s.world) i))) y2 n2 on2 l
        go (answered u others te b y2 n2 on2 l) =
            let i : Inner s.world (react p o u s.world) = inner-react p o u s.world b x in
            again others _ (onto p (react p o u s.world) (Op.Run (RunOp.Reschedule r a) ∷ below)) te
            (gone-onto p (react p o u s.world) (Op.Run (RunOp.Reschedule r a) ∷ below) ∙ (i.there ∙ there))
            (back-again p r f a (react p o u s.world) below rest z i.plain
            (ap (λ (qs : List (List ℕ)). get_or qs r []) (own-react p o u s.world) ∙ w)
            (omega (arith, k, more-stands f s.world (react p o u s.world) i))) y2 n2 on2 l

    by-reschedule : (a : Reply) (rest : List ℕ) → stack s p ≡ [] ++ Op.Run (RunOp.Reschedule r a) ∷ [] →
        own_of s.world r ≡ rest → 1 ≤ times f (queued_in s.world) + times f rest → Stands f new
    by-reschedule a rest e w k =
        go (onward p s new [] (Op.Run (RunOp.Reschedule r a)) (t ∷ ts) e y idles on n)
      where
        go : Onward p s new [] (Op.Run (RunOp.Reschedule r a)) (t ∷ ts) → Stands f new
        go (answered u others te b y2 n2 on2 l) = absurd (cc)
        go (acted h others te wt y2 n2 on2 l) =
            again others _ (onto p (reschedule_by (own_of s.world r) s.world r a) []) te
            (gone-onto p (reschedule_by (own_of s.world r) s.world r a) []
            ∙ (gone-reschedule (own_of s.world r) s.world r a ∙ there))
            (from-queue p r f a s.world (own_of s.world r) rest w w k) y2 n2 on2 l

    by-puts : (a : Reply) (g : ℕ) (rest : List ℕ) →
        stack s p ≡ (Op.Run (RunOp.Reschedule r a) ∷ []) ++ Op.Queue (QueueOp.Append g) ∷ [] →
        own_of s.world r ≡ rest → 1 ≤ times f (queued_in s.world) + times f (g ∷ rest) → Stands f new
    by-puts a g rest e w k =
        go (onward p s new (Op.Run (RunOp.Reschedule r a) ∷ []) (Op.Queue (QueueOp.Append g)) (t ∷ ts) e y idles on n)
      where
        open_queue : (queue_of s.world (mark_of s.world g)).closed ≡ false
        open_queue = not-true (queue_of s.world (mark_of s.world g)).closed
            (λ z. let no : true ≡ false =
            sym (((heard-here s y).placed.leaves 0).shut (any-shut (mark_of s.world g) s.world.queues z)).0 ∙ there in cc)

        go : Onward p s new (Op.Run (RunOp.Reschedule r a) ∷ []) (Op.Queue (QueueOp.Append g)) (t ∷ ts) →
            Stands f new
        go (answered u others te b y2 n2 on2 l) = absurd (cc)
        go (acted h others te wt y2 n2 on2 l) =
            let i : Inner s.world (act p h (Op.Queue (QueueOp.Append g)) s.world) =
            inner-act p h (Op.Queue (QueueOp.Append g)) s.world refl refl in
            again others _
            (onto p (act p h (Op.Queue (QueueOp.Append g)) s.world) (Op.Run (RunOp.Reschedule r a) ∷ [])) te
            (gone-onto p (act p h (Op.Queue (QueueOp.Append g)) s.world) (Op.Run (RunOp.Reschedule r a) ∷ [])
            ∙ (i.there ∙ there))
            (from-append p r f g a _ s.world (mark_of s.world g) rest
            (has-room (queue_of s.world (mark_of s.world g)).closed
            (length (queue_of s.world (mark_of s.world g)).items) s.world.limit open_queue
            (has-place s p g (Op.Run (RunOp.Reschedule r a) ∷ []) l e (good-here s y) (heard-here s y).placed
            (mark_of s.world g))) w k)
            y2 n2 on2 l

    by-leaves : (a : Reply) (held : Hold) (who : TickOrRun) →
        stack s p ≡ (Op.End a held ∷ []) ++ Op.Tick (TickOp.Leave who) ∷ [] → 1 ≤ times f (queued_in s.world) →
        Stands f new
    by-leaves a held who e k =
        go (onward p s new (Op.End a held ∷ []) (Op.Tick (TickOp.Leave who)) (t ∷ ts) e y idles on n)
      where
        go : Onward p s new (Op.End a held ∷ []) (Op.Tick (TickOp.Leave who)) (t ∷ ts) → Stands f new
        go (answered u others te b y2 n2 on2 l) = absurd (cc)
        go (acted h others te wt y2 n2 on2 l) =
            again others _ (onto p (act p h (Op.Tick (TickOp.Leave who)) s.world) (Op.End a held ∷ [])) te
            (gone-onto p (act p h (Op.Tick (TickOp.Leave who)) s.world) (Op.End a held ∷ [])
            ∙ ((idle-act p h (Op.Tick (TickOp.Leave who)) s.world refl).gone ∙ there))
            (from-leaving p r f a held (place_of s.world who) s.world who k) y2 n2 on2 l

    by-ends : (a : Reply) (held : Hold) (below : List Op) (o : Op) →
        stack s p ≡ (Op.End a held ∷ below) ++ o ∷ [] → weigh stray_of below ≡ 0 → stray_of o ≡ 0 →
        1 ≤ times f (queued_in s.world) → Stands f new
    by-ends a held below o e z x k =
        go (onward p s new (Op.End a held ∷ below) o (t ∷ ts) e y idles on n)
      where
        go : Onward p s new (Op.End a held ∷ below) o (t ∷ ts) → Stands f new
        go (acted h others te wt y2 n2 on2 l) =
            let i : Inner s.world (act p h o s.world) = inner-act p h o s.world wt x in
            again others _ (onto p (act p h o s.world) (Op.End a held ∷ below)) te
            (gone-onto p (act p h o s.world) (Op.End a held ∷ below) ∙ (i.there ∙ there))
            (to-end p r f a held (act p h o s.world).world (below ++ reverse (act p h o s.world).next)
            (both-light below (reverse (act p h o s.world).next) z
            (weigh-reverse stray_of (act p h o s.world).next ∙ i.plain))
            (omega (arith, k, more-stands f s.world (act p h o s.world) i))) y2 n2 on2 l
        go (answered u others te b y2 n2 on2 l) =
            let i : Inner s.world (react p o u s.world) = inner-react p o u s.world b x in
            again others _ (onto p (react p o u s.world) (Op.End a held ∷ below)) te
            (gone-onto p (react p o u s.world) (Op.End a held ∷ below) ∙ (i.there ∙ there))
            (to-end p r f a held (react p o u s.world).world (below ++ reverse (react p o u s.world).next)
            (both-light below (reverse (react p o u s.world).next) z
            (weigh-reverse stray_of (react p o u s.world).next ∙ i.plain))
            (omega (arith, k, more-stands f s.world (react p o u s.world) i))) y2 n2 on2 l

    by-over : stack s p ≡ [] → Stands f new
    by-over e =
        let first : is_onward_of p t ≡ true = (left-true (is_onward_of p t) (are_onward_of p ts) on).0 in
        absurd (idle-none p t s.world s.parties (stack s p) e first
        (of-party p s t first (run-first t ts s new n).0).2)

    side-back : (a : Reply) (rest : List ℕ) (side : List Op) →
        stack s p ≡ Op.Run (RunOp.Reschedule r a) ∷ side → weigh stray_of side ≡ 0 → own_of s.world r ≡ rest →
        1 ≤ times f (queued_in s.world) + times f rest → Stands f new
    side-back a rest side e z w k = go (from-end side)
      where
        go : (side ≡ []) ⊎ Last side → Stands f new
        go (inl x) = by-reschedule a rest (e ∙ ap (λ (os : List Op). Op.Run (RunOp.Reschedule r a) ∷ os) x) w k
        go (inr x) = let b : _ = light side x.below x.last x.is z in
            by-back a rest x.below x.last (e ∙ ap (λ (os : List Op). Op.Run (RunOp.Reschedule r a) ∷ os) x.is)
            b.0 b.1 w k

    by-rest : Remains r f s.world (stack s p) → Stands f new
    by-rest (back a rest side e z w k) = side-back a rest side e z w k
    by-rest (puts a g rest e w k) = by-puts a g rest e w k
    by-rest (leaves a held who e k) = by-leaves a held who e k
    by-rest (ends a held below o e z k) =
        let b : _ = light (below ++ o ∷ []) below o refl z in by-ends a held below o e b.0 b.1 k
    by-rest (over e k) = by-over e

  walks : (ts : List Step) (s : Machine) → Reached s → s.world.gone ≡ false → Remains r f s.world (stack s p) →
      are_onward_of p ts ≡ true → run_all ts s ≡ Ok new → Stands f new
  walks [] s y g (over e k) on n =
      let same : s ≡ new = cc in subst (Stands f) same (record { there = g; stands = k })
  walks [] s y g (back a rest side e z w k) on n =
      let same : s ≡ new = cc in
      let no : Op.Run (RunOp.Reschedule r a) ∷ side ≡ [] =
      sym e ∙ (ap (λ (m : Machine). stack m p) same ∙ idles) in absurd (cc)
  walks [] s y g (puts a h rest e w k) on n =
      let same : s ≡ new = cc in
      let no : Op.Run (RunOp.Reschedule r a) ∷ Op.Queue (QueueOp.Append h) ∷ [] ≡ [] =
      sym e ∙ (ap (λ (m : Machine). stack m p) same ∙ idles) in absurd (cc)
  walks [] s y g (leaves a held who e k) on n =
      let same : s ≡ new = cc in
      let no : Op.End a held ∷ Op.Tick (TickOp.Leave who) ∷ [] ≡ [] =
      sym e ∙ (ap (λ (m : Machine). stack m p) same ∙ idles) in absurd (cc)
  walks [] s y g (ends a held below o e z k) on n =
      let same : s ≡ new = cc in
      let no : Op.End a held ∷ (below ++ o ∷ []) ≡ [] =
      sym e ∙ (ap (λ (m : Machine). stack m p) same ∙ idles) in absurd (cc)
  walks (t ∷ ts) s y g k on n =
      by-rest t ts s y g on n (λ m y2 g2 k2 on2 n2. walks ts m y2 g2 k2 on2 n2) k

  -- before its queue is emptied

  record At (os : List Op) (rest : List ℕ) (s : Machine) : Type 0 where
    pub reached : Reached s
    pub own : own_of s.world r ≡ rest
    pub stands : 1 ≤ times f (queued_in s.world) + times f rest
    pub there : s.world.gone ≡ false
    pub todo : stack s p ≡ os

  at-reschedule : (a : Reply) (rest : List ℕ) (s : Machine) → At (Op.Run (RunOp.Reschedule r a) ∷ []) rest s →
      (ts : List Step) → are_onward_of p ts ≡ true → run_all ts s ≡ Ok new → Stands f new
  at-reschedule a rest s k ts on n =
      walks ts s k.reached k.there (back a rest [] k.todo refl k.own k.stands) on n

  at-unlock : (a : Reply) (rest : List ℕ) (s : Machine) →
      At (Op.Run (RunOp.Reschedule r a) ∷ Op.List ListOp.UnlockWrite ∷ []) rest s → (ts : List Step) →
      are_onward_of p ts ≡ true → run_all ts s ≡ Ok new → Stands f new
  at-unlock a rest s k ts on n =
      go (onward p s new (Op.Run (RunOp.Reschedule r a) ∷ []) (Op.List ListOp.UnlockWrite) ts k.todo k.reached idles
      on n)
    where
      go : Onward p s new (Op.Run (RunOp.Reschedule r a) ∷ []) (Op.List ListOp.UnlockWrite) ts → Stands f new
      go (answered u others te z y n2 on2 l) = absurd (cc)
      go (acted h others te z y n2 on2 l) =
          let d : Part = onto p (act p h (Op.List ListOp.UnlockWrite) s.world) (Op.Run (RunOp.Reschedule r a) ∷ []) in
          at-reschedule a rest (with_part s p d) (record {
            reached = y;
            own = k.own;
            stands = k.stands;
            there = k.there;
            todo = stack-set p s d l;
          }) others on2 n2

  at-write : (a : Reply) (rest : List ℕ) (s : Machine) →
      At (Op.List (ListOp.Write (Section.Unregister r a)) ∷ []) rest s → (ts : List Step) →
      are_onward_of p ts ≡ true → run_all ts s ≡ Ok new → Stands f new
  at-write a rest s k ts on n =
      go (onward p s new [] (Op.List (ListOp.Write (Section.Unregister r a))) ts k.todo k.reached idles on n)
    where
      go : Onward p s new [] (Op.List (ListOp.Write (Section.Unregister r a))) ts → Stands f new
      go (answered u others te z y n2 on2 l) = absurd (cc)
      go (acted h others te z y n2 on2 l) =
          let d : Part = onto p (act p h (Op.List (ListOp.Write (Section.Unregister r a))) s.world) [] in
          at-unlock a rest (with_part s p d) (record {
            reached = y;
            own = k.own;
            stands = k.stands;
            there = k.there;
            todo = stack-set p s d l;
          }) others on2 n2

  at-lock : (a : Reply) (rest : List ℕ) (s : Machine) →
      At (Op.List (ListOp.LockWrite (Section.Unregister r a)) ∷ []) rest s → (ts : List Step) →
      are_onward_of p ts ≡ true → run_all ts s ≡ Ok new → Stands f new
  at-lock a rest s k ts on n =
      go (onward p s new [] (Op.List (ListOp.LockWrite (Section.Unregister r a))) ts k.todo k.reached idles on n)
    where
      go : Onward p s new [] (Op.List (ListOp.LockWrite (Section.Unregister r a))) ts → Stands f new
      go (answered u others te z y n2 on2 l) = absurd (cc)
      go (acted h others te z y n2 on2 l) =
          let d : Part = onto p (act p h (Op.List (ListOp.LockWrite (Section.Unregister r a))) s.world) [] in
          at-write a rest (with_part s p d) (record {
            reached = y;
            own = k.own;
            stands = k.stands;
            there = k.there;
            todo = stack-set p s d l;
          }) others on2 n2

  -- the run's own future is dropped
  at-listed : (rest : List ℕ) (s : Machine) → At (Op.List (ListOp.LockWrite (Section.Unregister r Reply.Done))
      ∷ Op.User (UserOp.DropOwn r) ∷ []) rest s → (ts : List Step) → are_onward_of p ts ≡ true →
      run_all ts s ≡ Ok new → Stands f new
  at-listed rest s k ts on n =
      go (onward p s new (Op.List (ListOp.LockWrite (Section.Unregister r Reply.Done)) ∷ [])
      (Op.User (UserOp.DropOwn r)) ts k.todo k.reached idles on n)
    where
      go : Onward p s new (Op.List (ListOp.LockWrite (Section.Unregister r Reply.Done)) ∷ [])
          (Op.User (UserOp.DropOwn r)) ts → Stands f new
      go (acted h others te z y n2 on2 l) = absurd (cc)
      go (answered u others te z y n2 on2 l) =
          let d : Part = onto p (react p (Op.User (UserOp.DropOwn r)) u s.world)
          (Op.List (ListOp.LockWrite (Section.Unregister r Reply.Done)) ∷ []) in
          at-lock Reply.Done rest (with_part s p d) (record {
            reached = y;
            own = k.own;
            stands = k.stands;
            there = k.there;
            todo = stack-set p s d l;
          }) others on2 n2

  at-new : (rest : List ℕ) (s : Machine) → At (Op.Run (RunOp.Reschedule r Reply.Done)
      ∷ Op.User (UserOp.DropOwn r) ∷ []) rest s → (ts : List Step) → are_onward_of p ts ≡ true →
      run_all ts s ≡ Ok new → Stands f new
  at-new rest s k ts on n =
      go (onward p s new (Op.Run (RunOp.Reschedule r Reply.Done) ∷ []) (Op.User (UserOp.DropOwn r)) ts k.todo
      k.reached idles on n)
    where
      go : Onward p s new (Op.Run (RunOp.Reschedule r Reply.Done) ∷ []) (Op.User (UserOp.DropOwn r)) ts → Stands f new
      go (acted h others te z y n2 on2 l) = absurd (cc)
      go (answered u others te z y n2 on2 l) =
          let d : Part = onto p (react p (Op.User (UserOp.DropOwn r)) u s.world)
          (Op.Run (RunOp.Reschedule r Reply.Done) ∷ []) in
          at-reschedule Reply.Done rest (with_part s p d) (record {
            reached = y;
            own = k.own;
            stands = k.stands;
            there = k.there;
            todo = stack-set p s d l;
          }) others on2 n2

module _ (s : Machine) (y : Reached s) (rest : IsAtRest s) (r p : ℕ) (steps : List Step) (new : Machine)
    (k : IsLoneCall p (Call.DropRun r) steps s new) (f : ℕ) (z : Keeps r f s.world.trace) where
  idles : (q : ℕ) → stack s q ≡ []
  idles q = idle s (good-here s y) (heard-here s y) (deep-here s y) (bonded-here s y) rest q

  reached-new : Reached new
  reached-new = reached-more (Begin p (Call.DropRun r) ∷ steps) s new y k.made

  new-idle : stack new p ≡ []
  new-idle = rests new (deep-here new reached-new) k.ended p

  in-parties : p < length s.parties
  in-parties = let b : ltb p (length s.parties) ≡ true =
      (in-range _ _ (run-first (Begin p (Call.DropRun r)) steps s new k.made).0).0 in
      grind (arith, nat_tests)

  abbrev told : World
  told = log s.world (Event.CallBegun p (Call.DropRun r))

  abbrev beginning : World
  beginning = log (put_run told r (record (run_of told r) { dropped = true })) (Event.RunDropped p r)

  abbrev begun-as : Stage → Part
  begun-as st = onto p (done beginning (drop_run st r)) []

  abbrev from-stage : Stage → Machine
  from-stage st = with_part s p (begun-as st)

  on-begun : run_all steps (from-stage (run_of s.world r).stage) ≡ Ok new
  on-begun = sym (ap (λ (os : List Op). run_all steps
      (with_part s p (part_after s.world os (Begin p (Call.DropRun r))))) (idles p))
      ∙ (run-first (Begin p (Call.DropRun r)) steps s new k.made).1

  reached-begun : Reached (from-stage (run_of s.world r).stage)
  reached-begun = subst (λ (os : List Op). Reached (with_part s p (part_after s.world os (Begin p (Call.DropRun r)))))
      (idles p)
      (reached-step s (Begin p (Call.DropRun r)) (run-first (Begin p (Call.DropRun r)) steps s new k.made).0 y)

  there : s.world.gone ≡ false
  there = here s (good-here s y) (heard-here s y) (deep-here s y) (bonded-here s y) rest

  one : 1 ≤ times f (own_of s.world r)
  one = keeper-own s (good-here s y) (heard-here s y) (deep-here s y) (bonded-here s y) rest f r z.due z.keeper

  or-right : (a b : Bool) → b ≡ true → (a || b) ≡ true
  or-right true b e = refl
  or-right false b e = e

  not-ended : (run_of s.world r).stage ≡ Ended → ⊥
  not-ended e = ⊎_elim
      (λ (x : own_of s.world r ≡ []). omega (arith, one, ap (times f) x))
      (λ (x : 1 ≤ weigh_all (emptying_of r) s.parties).
      omega (arith, x, all-rest (emptying_of r) s.parties idles))
      (((bonded-here s y).used r).emptied
      (or-right (run_of s.world r).dropped (is_over_stage (run_of s.world r).stage) (ap is_over_stage e)))

  stands : Stands f new
  stands = by (run_of s.world r).stage refl
    where
      by : (st : Stage) → (run_of s.world r).stage ≡ st → Stands f new
      by New e = at-new p r f new new-idle (own_of s.world r) (from-stage New) (record {
        reached = subst (λ (x : Stage). Reached (from-stage x)) e reached-begun;
        own = refl;
        stands = omega (arith, one);
        there = there;
        todo = stack-set p s (begun-as New) in-parties;
      }) steps k.alone (sym (ap (λ (x : Stage). run_all steps (from-stage x)) e) ∙ on-begun)
      by Listed e = at-listed p r f new new-idle (own_of s.world r) (from-stage Listed) (record {
        reached = subst (λ (x : Stage). Reached (from-stage x)) e reached-begun;
        own = refl;
        stands = omega (arith, one);
        there = there;
        todo = stack-set p s (begun-as Listed) in-parties;
      }) steps k.alone (sym (ap (λ (x : Stage). run_all steps (from-stage x)) e) ∙ on-begun)
      by Ended e = absurd (not-ended e)

  becomes-common : IsCommon f new.world.trace
  becomes-common =
      queue-common new (good-here new reached-new) (heard-here new reached-new) (deep-here new reached-new)
      (bonded-here new reached-new)
      (at-rest s y rest p (Call.DropRun r) steps new k stands.there) f stands.stands

pub leaves-common : (limit : ℕ) (kind : Kind) (parties : ℕ) (steps : List Step) → LeavesCommon (run steps (start limit kind parties))
leaves-common limit kind parties steps = λ rest r f z p ts new k.
    becomes-common (run steps (start limit kind parties))
    (record { limit = limit; kind = kind; parties = parties; steps = steps; is = refl }) rest r p ts new k f z
