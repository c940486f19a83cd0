-- For runs_find_due_futures.
-- A poll of a run that is made alone finds a due future in whichever queue it stands.
use Rattle.std.proofs.Common.{◌≡◌, ◌≢◌, ◌⊎◌, ◌∙◌, inl, inr, ⊎_elim, ℕ, zero, suc, ◌<◌, ◌≤◌, List, [], ◌∷◌, ◌++◌, length, get_or}
use Rattle.std.proofs.Common.{Bool, true, false, ◌||◌, ltb, refl, sym, ap, subst, arith, append_assoc, Ok}
use Rattle.std.proofs.Math.ListN.{length-set}
use Rattle.std.proofs.lemmas.Bool.Decides.{nat_tests}
use Rattle.std.specs.Prelude.{Option, Some}
use Rattle.executor_parts.specs.Marks.{first_of, other}
use Rattle.executor_laws.proofs.Types.{Mark, By, Call, Answer, Event, Kind, ListOp, Look, Op, RunOp, RunPoll, Section, TickOp, UserOp, Step}
use Rattle.executor_laws.proofs.Types.{Begin, UserEnd}
use Rattle.executor_model.specs.{Acts.turned, ActsOfRuns.asleep, ActsOfRuns.registered, ActsOfRuns.search_common_by}
use Rattle.executor_model.specs.{ActsOfRuns.search_own_by, Doing.act, Due.IsDue, Emptiness.IsAtRest, Executions.run_all, Queues.Queues}
use Rattle.executor_model.specs.{Queues.queue_in, Sound.times, Sound.times_in, Steps.Machine, Steps.Part, Steps.onto, Steps.part}
use Rattle.executor_model.specs.{Steps.part_after, Steps.poll_run, Steps.react, Steps.run, Steps.stack, Steps.start, Steps.with_part}
use Rattle.executor_model.specs.{Trace.Trace, Weights.weigh_all, World.Done, World.Ended, World.Listed, World.New, World.Stage, World.World}
use Rattle.executor_model.specs.{World.done, World.log, World.own_of, World.queue_of, World.run_of}
use Rattle.executor_model.proofs.{OwnQueues.Using.emptying_of, OwnQueues.UsingWorlds.is_over_stage, OwnQueues.UsingWorlds.is_past}
use Rattle.executor_model.proofs.{Quiet.Resting.all-rest, Steps.Lists.times-append, Steps.QueuesByMark.mark-cases, Steps.Reached.Reached}
use Rattle.executor_model.proofs.{Steps.Reached.deep-here, Steps.Reached.good-here, Steps.Reached.reached-step, Steps.Reached.run-first}
use Rattle.executor_laws.specs.{LoneEnds.are_onward_of, LoneEnds.is_onward_of, RunReach.IsLonePoll, RunReach.first_answer}
use Rattle.executor_laws.specs.{RunSearch.FindsDue, RunSearch.TakesOneDue}
use Rattle.executor_laws.proofs.{Exactness.Ticking.first-queued, Exactness.Ticking.first-times, Exactness.Ticking.none-queued}
use Rattle.executor_laws.proofs.{Placement.Placing.due-queued, Placement.Placing.here, Placement.Placing.idle, Placement.Placing.in-own}
use Rattle.executor_laws.proofs.{Placement.Placing.queued-due, Reach.LoneTicks.idle-none, Reach.LoneTicks.in-range}
use Rattle.executor_laws.proofs.{Reach.LoneTicks.left-true, Reach.LoneTicks.of-party, Reach.LoneTicks.stack-set, Reach.Reached.bonded-here}
use Rattle.executor_laws.proofs.{Reach.Reached.heard-here, Reach.Spots.AllEmpty, RunReach.RunArrives.registered-gone}
use Rattle.executor_laws.proofs.{RunReach.RunArrives.registered-own, RunReach.RunArrives.registered-queue, RunReach.RunReaching.is-due}
use Rattle.executor_laws.proofs.{RunReach.RunReaching.new-idle, RunReach.RunReaching.poll, RunReach.RunArrives.registered-trace}
use Rattle.executor_laws.proofs.{RunReach.RunReaching.taken-since, RunReach.RunReaching.takes-first, RunReach.RunReaching.First.in_common}
use Rattle.executor_laws.proofs.{RunReach.RunReaching.First.in_own, RunReach.RunWalks.Onward, RunReach.RunWalks.onward}
use Rattle.executor_laws.proofs.{RunReach.RunWalks.Onward.acted, RunReach.RunWalks.Onward.answered, Walks.Enrolled.kept-listed}
use Rattle.executor_laws.proofs.{Walks.Finding.TakesOne, Walks.Finding.enrolled-here, Walks.Finding.listed-here, Walks.Finding.walks}
use Rattle.executor_laws.proofs.{Walks.Searches.Seeking.locks}
use Rattle.executor_laws.proofs.Reach.Spots as common

registered-listed : (x : Stage) (w : World) (r q : ℕ) → times q w.listed ≤ times q (registered x w r).listed
registered-listed New w r q = omega (arith, times-append q w.listed (r ∷ []))
registered-listed Listed w r q = omega arith
registered-listed Ended w r q = omega arith

-- up to the walk
module _ (p : ℕ) (before : Trace) (x : RunPoll) (owns : List (List ℕ)) (qs : List ℕ) (new : Machine)
    (idles : stack new p ≡ []) where
  -- nothing is found yet, and no queue has changed
  record Still (w : World) : Type 0 where
    pub own_is : w.own ≡ owns
    pub common_is : (m : Mark) → (queue_of w m).items ≡ []
    pub listed_is : (q : ℕ) → times q qs ≤ times q w.listed
    pub meanwhile : Trace
    pub trace : w.trace ≡ before ++ meanwhile
    pub there : w.gone ≡ false

  -- and the party has this to do
  record At (os : List Op) (s : Machine) : Type 0 where
    pub reached : Reached s
    pub so_far : Still s.world
    pub todo : stack s p ≡ os
    pub known : p < length s.parties

  -- it is about to walk
  record Arrived : Type 0 where
    pub machine : Machine
    pub others : List Step
    pub here : At (Op.List (ListOp.LockRead x) ∷ []) machine
    pub onward : are_onward_of p others ≡ true
    pub made : run_all others machine ≡ Ok new

  module _ (empty : get_or owns x.run [] ≡ []) where
    set-known : (s : Machine) (v : Part) → p < length s.parties → p < length (with_part s p v).parties
    set-known s v l = omega (arith, l, length-set s.parties p v.todo)

    -- it looks at the second queue
    at-second : (s : Machine) (m : Mark) → At (Op.Run (RunOp.SearchCommon x (Look.Second m)) ∷ []) s → (ts : List Step) →
        are_onward_of p ts ≡ true → run_all ts s ≡ Ok new → Arrived
    at-second s m a ts on n =
        go (onward p s new [] (Op.Run (RunOp.SearchCommon x (Look.Second m))) ts a.todo a.reached idles on n)
      where
        go : Onward p s new [] (Op.Run (RunOp.SearchCommon x (Look.Second m))) ts → Arrived
        go (answered u others te z y n2 on2 l) = absurd (cc)
        go (acted h others te z y n2 on2 l) =
            let v : Part = part s.world (Op.List (ListOp.LockRead x) ∷ []) in
            let q : search_common_by (queue_of s.world m).items s.world x (Look.Second m)
            ≡ done s.world (Op.List (ListOp.LockRead x) ∷ []) =
            ap (λ (ys : List ℕ). search_common_by ys s.world x (Look.Second m)) (a.so_far.common_is m) in
            record {
              machine = with_part s p v;
              others = others;
              here = record {
                reached = subst (λ (d : Done). Reached (with_part s p (onto p d []))) q y;
                so_far = a.so_far;
                todo = stack-set p s v l;
                known = set-known s v l;
              };
              onward = on2;
              made = sym (ap (λ (d : Done). run_all others (with_part s p (onto p d []))) q) ∙ n2;
            }

    -- and before that at the first
    at-first : (s : Machine) (m : Mark) → At (Op.Run (RunOp.SearchCommon x (Look.First m)) ∷ []) s → (ts : List Step) →
        are_onward_of p ts ≡ true → run_all ts s ≡ Ok new → Arrived
    at-first s m a ts on n =
        go (onward p s new [] (Op.Run (RunOp.SearchCommon x (Look.First m))) ts a.todo a.reached idles on n)
      where
        go : Onward p s new [] (Op.Run (RunOp.SearchCommon x (Look.First m))) ts → Arrived
        go (answered u others te z y n2 on2 l) = absurd (cc)
        go (acted h others te z y n2 on2 l) =
            let v : Part = part s.world (Op.Run (RunOp.SearchCommon x (Look.Second (other m))) ∷ []) in
            let q : search_common_by (queue_of s.world m).items s.world x (Look.First m)
            ≡ done s.world (Op.Run (RunOp.SearchCommon x (Look.Second (other m))) ∷ []) =
            ap (λ (ys : List ℕ). search_common_by ys s.world x (Look.First m)) (a.so_far.common_is m) in
            at-second (with_part s p v) (other m) (record {
              reached = subst (λ (d : Done). Reached (with_part s p (onto p d []))) q y;
              so_far = a.so_far;
              todo = stack-set p s v l;
              known = set-known s v l;
            }) others on2 (sym (ap (λ (d : Done). run_all others (with_part s p (onto p d []))) q) ∙ n2)

    -- it takes its turn
    at-turn : (s : Machine) → At (Op.Run (RunOp.TakeTurn x) ∷ []) s → (ts : List Step) →
        are_onward_of p ts ≡ true → run_all ts s ≡ Ok new → Arrived
    at-turn s a ts on n =
        go (onward p s new [] (Op.Run (RunOp.TakeTurn x)) ts a.todo a.reached idles on n)
      where
        go : Onward p s new [] (Op.Run (RunOp.TakeTurn x)) ts → Arrived
        go (answered u others te z y n2 on2 l) = absurd (cc)
        go (acted h others te z y n2 on2 l) =
            let m : Mark = first_of s.world.urgent_turns in
            let v : Part = part (turned p s.world) (Op.Run (RunOp.SearchCommon x (Look.First m)) ∷ []) in
            at-first (with_part s p v) m (record {
              reached = y;
              so_far = record {
                own_is = a.so_far.own_is;
                common_is = a.so_far.common_is;
                listed_is = a.so_far.listed_is;
                meanwhile = a.so_far.meanwhile ++ Event.Looked p m ∷ [];
                trace = ap (λ (es : Trace). es ++ Event.Looked p m ∷ []) a.so_far.trace
                    ∙ append_assoc before a.so_far.meanwhile (Event.Looked p m ∷ []);
                there = a.so_far.there;
              };
              todo = stack-set p s v l;
              known = set-known s v l;
            }) others on2 n2

    at-search : (s : Machine) → At (Op.Tick (TickOp.Search (asleep x)) ∷ []) s → (ts : List Step) →
        are_onward_of p ts ≡ true → run_all ts s ≡ Ok new → Arrived
    at-search s a ts on n =
        go (onward p s new [] (Op.Tick (TickOp.Search (asleep x))) ts a.todo a.reached idles on n)
      where
        none : own_of s.world x.run ≡ []
        none = ap (λ (ys : List (List ℕ)). get_or ys x.run []) a.so_far.own_is ∙ empty

        go : Onward p s new [] (Op.Tick (TickOp.Search (asleep x))) ts → Arrived
        go (answered u others te z y n2 on2 l) = absurd (cc)
        go (acted h others te z y n2 on2 l) =
            let v : Part = part s.world (Op.Run (RunOp.TakeTurn x) ∷ []) in
            let q : search_own_by (own_of s.world x.run) s.world x ≡ done s.world (Op.Run (RunOp.TakeTurn x) ∷ []) =
            ap (λ (ys : List ℕ). search_own_by ys s.world x) none in
            at-turn (with_part s p v) (record {
              reached = subst (λ (d : Done). Reached (with_part s p (onto p d []))) q y;
              so_far = a.so_far;
              todo = stack-set p s v l;
              known = set-known s v l;
            }) others on2 (sym (ap (λ (d : Done). run_all others (with_part s p (onto p d []))) q) ∙ n2)

    -- the run's own future isn't ready
    at-own : (s : Machine) → At (Op.User (UserOp.PollOwn x) ∷ []) s → (ts : List Step) →
        first_answer ts ≡ Some (UserEnd.Polled Answer.Pending) → are_onward_of p ts ≡ true → run_all ts s ≡ Ok new →
        Arrived
    at-own s a ts c on n =
        go (onward p s new [] (Op.User (UserOp.PollOwn x)) ts a.todo a.reached idles on n)
      where
        go : Onward p s new [] (Op.User (UserOp.PollOwn x)) ts → Arrived
        go (acted h others te z y n2 on2 l) = absurd (cc)
        go (answered u others te z y n2 on2 l) =
            let q : ◌≡◌ {A = Option UserEnd} (Some u) (Some (UserEnd.Polled Answer.Pending)) =
            sym (ap first_answer te) ∙ c in
            let i : u ≡ UserEnd.Polled Answer.Pending = cc in
            let v : Part = part s.world (Op.Tick (TickOp.Search (asleep x)) ∷ []) in
            at-search (with_part s p v) (record {
              reached = subst (λ (w : UserEnd).
                  Reached (with_part s p (onto p (react p (Op.User (UserOp.PollOwn x)) w s.world) []))) i y;
              so_far = a.so_far;
              todo = stack-set p s v l;
              known = set-known s v l;
            }) others on2 (sym (ap (λ (w : UserEnd).
            run_all others (with_part s p (onto p (react p (Op.User (UserOp.PollOwn x)) w s.world) []))) i) ∙ n2)

    at-unlock : (s : Machine) → At (Op.User (UserOp.PollOwn x) ∷ Op.List ListOp.UnlockWrite ∷ []) s →
        (ts : List Step) → first_answer ts ≡ Some (UserEnd.Polled Answer.Pending) → are_onward_of p ts ≡ true →
        run_all ts s ≡ Ok new → Arrived
    at-unlock s a ts c on n =
        go (onward p s new (Op.User (UserOp.PollOwn x) ∷ []) (Op.List ListOp.UnlockWrite) ts a.todo a.reached idles on n)
      where
        go : Onward p s new (Op.User (UserOp.PollOwn x) ∷ []) (Op.List ListOp.UnlockWrite) ts → Arrived
        go (answered u others te z y n2 on2 l) = absurd (cc)
        go (acted h others te z y n2 on2 l) =
            let d : Part = onto p (act p h (Op.List ListOp.UnlockWrite) s.world) (Op.User (UserOp.PollOwn x) ∷ []) in
            at-own (with_part s p d) (record {
              reached = y;
              so_far = record {
                own_is = a.so_far.own_is;
                common_is = a.so_far.common_is;
                listed_is = a.so_far.listed_is;
                meanwhile = a.so_far.meanwhile;
                trace = a.so_far.trace;
                there = a.so_far.there;
              };
              todo = stack-set p s d l;
              known = set-known s d l;
            }) others (sym (ap first_answer te) ∙ c) on2 n2

    at-write : (s : Machine) → At (Op.List (ListOp.Write (Section.Register x)) ∷ []) s → (ts : List Step) →
        first_answer ts ≡ Some (UserEnd.Polled Answer.Pending) → are_onward_of p ts ≡ true → run_all ts s ≡ Ok new →
        Arrived
    at-write s a ts c on n =
        go (onward p s new [] (Op.List (ListOp.Write (Section.Register x))) ts a.todo a.reached idles on n)
      where
        go : Onward p s new [] (Op.List (ListOp.Write (Section.Register x))) ts → Arrived
        go (answered u others te z y n2 on2 l) = absurd (cc)
        go (acted h others te z y n2 on2 l) =
            let d : Part = onto p (act p h (Op.List (ListOp.Write (Section.Register x))) s.world) [] in
            let st : Stage = (run_of s.world x.run).stage in
            at-unlock (with_part s p d) (record {
              reached = y;
              so_far = record {
                own_is = registered-own st s.world x.run ∙ a.so_far.own_is;
                common_is = λ m. ap (λ (qs : Queues). (queue_in m qs).items) (registered-queue st s.world x.run)
                    ∙ a.so_far.common_is m;
                listed_is = λ q. omega (arith, a.so_far.listed_is q, registered-listed st s.world x.run q);
                meanwhile = a.so_far.meanwhile;
                trace = registered-trace st s.world x.run ∙ a.so_far.trace;
                there = registered-gone st s.world x.run ∙ a.so_far.there;
              };
              todo = stack-set p s d l;
              known = set-known s d l;
            }) others (sym (ap first_answer te) ∙ c) on2 n2

    at-lock : (s : Machine) → At (Op.List (ListOp.LockWrite (Section.Register x)) ∷ []) s → (ts : List Step) →
        first_answer ts ≡ Some (UserEnd.Polled Answer.Pending) → are_onward_of p ts ≡ true → run_all ts s ≡ Ok new →
        Arrived
    at-lock s a ts c on n =
        go (onward p s new [] (Op.List (ListOp.LockWrite (Section.Register x))) ts a.todo a.reached idles on n)
      where
        go : Onward p s new [] (Op.List (ListOp.LockWrite (Section.Register x))) ts → Arrived
        go (answered u others te z y n2 on2 l) = absurd (cc)
        go (acted h others te z y n2 on2 l) =
            let d : Part = onto p (act p h (Op.List (ListOp.LockWrite (Section.Register x))) s.world) [] in
            at-write (with_part s p d) (record {
              reached = y;
              so_far = record {
                own_is = a.so_far.own_is;
                common_is = a.so_far.common_is;
                listed_is = a.so_far.listed_is;
                meanwhile = a.so_far.meanwhile;
                trace = a.so_far.trace;
                there = a.so_far.there;
              };
              todo = stack-set p s d l;
              known = set-known s d l;
            }) others (sym (ap first_answer te) ∙ c) on2 n2

-- one of the queues has it
record Spot (f : ℕ) (owns : List (List ℕ)) : Type 0 where
  pub queue : ℕ
  pub there : 1 ≤ times f (get_or owns queue [])

find : (f : ℕ) (owns : List (List ℕ)) → 1 ≤ times_in f owns → Spot f owns
find f [] k = absurd (omega (arith, k))
find f (q ∷ owns) k = ⊎_elim
    (λ (z : times f q ≡ 0). let r = find f owns (omega (arith, k, z)) in record { queue = suc r.queue; there = r.there })
    (λ (z : 1 ≤ times f q). record { queue = zero; there = z })
    (zero-or (times f q))
  where
    zero-or : (n : ℕ) → (n ≡ 0) ⊎ (1 ≤ n)
    zero-or zero = inl refl
    zero-or (suc n) = inr (omega arith)

some-there : (f : ℕ) (xs : List ℕ) → 1 ≤ times f xs → 1 ≤ length xs
some-there f [] k = absurd (omega (arith, k))
some-there f (x ∷ xs) k = omega arith

module _ (s : Machine) (r : Reached s) (rest : IsAtRest s) (n p : ℕ) (b : By) (steps : List Step) (new : Machine)
    (k : IsLonePoll p n b steps s new) where
  idles : (q : ℕ) → stack s q ≡ []
  idles q = idle s (good-here s r) (heard-here s r) (deep-here s r) (bonded-here s r) rest q

  last : stack new p ≡ []
  last = new-idle s r rest n p b steps new k

  abbrev x : RunPoll
  x = poll s r rest n p b steps new k

  in-parties : p < length s.parties
  in-parties = let z : ltb p (length s.parties) ≡ true =
      (in-range _ _ (run-first (Begin p (Call.PollRun n b)) steps s new k.call.made).0).0 in
      grind (arith, nat_tests)

  abbrev told : Trace
  told = Event.CallBegun p (Call.PollRun n b) ∷ Event.RunPolled p n ∷ []

  abbrev beginning : World
  beginning = log (log s.world (Event.CallBegun p (Call.PollRun n b))) (Event.RunPolled p n)

  abbrev begun-as : Stage → Part
  begun-as st = onto p (done beginning (poll_run st x)) []

  abbrev from-stage : Stage → Machine
  from-stage st = with_part s p (begun-as st)

  on-begun : run_all steps (from-stage (run_of s.world n).stage) ≡ Ok new
  on-begun = sym (ap (λ (os : List Op). run_all steps
      (with_part s p (part_after s.world os (Begin p (Call.PollRun n b))))) (idles p))
      ∙ (run-first (Begin p (Call.PollRun n b)) steps s new k.call.made).1

  reached-begun : Reached (from-stage (run_of s.world n).stage)
  reached-begun = subst (λ (os : List Op). Reached (with_part s p (part_after s.world os (Begin p (Call.PollRun n b)))))
      (idles p)
      (reached-step s (Begin p (Call.PollRun n b))
      (run-first (Begin p (Call.PollRun n b)) steps s new k.call.made).0 r)

  set-in : (v : Part) → p < length (with_part s p v).parties
  set-in v = omega (arith, in-parties, length-set s.parties p v.todo)

  -- where the run keeps none and none is common, it comes to its walk
  arrived : own_of s.world n ≡ [] → ((m : Mark) → (queue_of s.world m).items ≡ []) →
      Arrived p s.world.trace x s.world.own s.world.listed new last
  arrived empty none = by (run_of s.world n).stage refl
    where
      still : Still p s.world.trace x s.world.own s.world.listed new last beginning
      still = record {
        own_is = refl;
        common_is = none;
        listed_is = λ q. omega arith;
        meanwhile = told;
        trace = append_assoc s.world.trace (Event.CallBegun p (Call.PollRun n b) ∷ []) (Event.RunPolled p n ∷ []);
        there = here s (good-here s r) (heard-here s r) (deep-here s r) (bonded-here s r) rest;
      }

      over : (q : ℕ) (ts : List Step) (m then : Machine) → stack m q ≡ [] → are_onward_of q ts ≡ true →
          run_all ts m ≡ Ok then → first_answer ts ≡ Some (UserEnd.Polled Answer.Pending) → ⊥
      over q [] m then z on e2 c = absurd (cc)
      over q (t ∷ ts) m then z on e2 c =
          let first : is_onward_of q t ≡ true = (left-true (is_onward_of q t) (are_onward_of q ts) on).0 in
          idle-none q t m.world m.parties (stack m q) z first
          (of-party q m t first (run-first t ts m then e2).0).2

      by : (st : Stage) → (run_of s.world n).stage ≡ st →
          Arrived p s.world.trace x s.world.own s.world.listed new last
      by New e = at-lock p s.world.trace x s.world.own s.world.listed new last empty (from-stage New) (record {
        reached = subst (λ (z : Stage). Reached (from-stage z)) e reached-begun;
        so_far = still;
        todo = stack-set p s (begun-as New) in-parties;
        known = set-in (begun-as New);
      }) steps k.pending k.call.alone (sym (ap (λ (z : Stage). run_all steps (from-stage z)) e) ∙ on-begun)
      by Listed e = at-own p s.world.trace x s.world.own s.world.listed new last empty (from-stage Listed) (record {
        reached = subst (λ (z : Stage). Reached (from-stage z)) e reached-begun;
        so_far = still;
        todo = stack-set p s (begun-as Listed) in-parties;
        known = set-in (begun-as Listed);
      }) steps k.pending k.call.alone (sym (ap (λ (z : Stage). run_all steps (from-stage z)) e) ∙ on-begun)
      by Ended e = absurd (over p steps (from-stage Ended) new (stack-set p s (begun-as Ended) in-parties) k.call.alone
          (sym (ap (λ (z : Stage). run_all steps (from-stage z)) e) ∙ on-begun) k.pending)

  -- what stands in an own queue is due
  stands-due : (q g : ℕ) → 1 ≤ times g (own_of s.world q) → IsDue g s.world.trace
  stands-due q g z = queued-due s (good-here s r) (heard-here s r) (deep-here s r) (bonded-here s r) rest g (omega (
    arith,
    z,
    in-own s (good-here s r) (heard-here s r) (deep-here s r) (bonded-here s r) rest g q,
  ))

  -- and that queue stands in the list
  in-the-list : (q g : ℕ) → 1 ≤ times g (own_of s.world q) → times q s.world.listed ≡ 1
  in-the-list q g z = kept-listed s q (enrolled-here s r) (listed-here s q r)
      (some-there g (own_of s.world q) z) (by (is_past (run_of s.world q)) refl)
    where
      open_stage : (a c : Bool) → (a || c) ≡ false → c ≡ false
      open_stage true c e = absurd (cc)
      open_stage false c e = e

      by : (a : Bool) → is_past (run_of s.world q) ≡ a → is_over_stage (run_of s.world q).stage ≡ false
      by false e = open_stage (run_of s.world q).dropped (is_over_stage (run_of s.world q).stage) e
      by true e = ⊎_elim
          (λ (y : own_of s.world q ≡ []). absurd (omega (arith, z, ap (times g) y)))
          (λ (y : 1 ≤ weigh_all (emptying_of q) s.parties).
          absurd (omega (arith, y, all-rest (emptying_of q) s.parties idles)))
          (((enrolled-here s r).used q).emptied e)

  finds : (f : ℕ) → IsDue f s.world.trace → TakesOneDue s new
  finds f due = by (own_of s.world n) refl
    where
      each-empty : AllEmpty s.world → (m : Mark) → (queue_of s.world m).items ≡ []
      each-empty e m = ⊎_elim
          (λ (y : m ≡ first_of s.world.urgent_turns). ap (λ (k : Mark). (queue_of s.world k).items) y ∙ e.0)
          (λ (y : m ≡ other (first_of s.world.urgent_turns)). ap (λ (k : Mark). (queue_of s.world k).items) y ∙ e.1)
          (mark-cases (first_of s.world.urgent_turns) m)

      walked : own_of s.world n ≡ [] → AllEmpty s.world → TakesOneDue s new
      walked empty none =
          let a = arrived empty (each-empty none) in
          let spot : Spot f s.world.own = find f s.world.own (omega (
            arith,
            none-queued s.world (first_of s.world.urgent_turns) f none.0 none.1,
            due-queued s (good-here s r) (heard-here s r) (deep-here s r) (bonded-here s r) rest f due,
          )) in
          let another : spot.queue ≢ n = λ e. omega (
            arith,
            spot.there,
            ap (times f) (ap (λ (m : ℕ). own_of s.world m) e ∙ empty),
          ) in
          let same_own : (q : ℕ) → own_of a.machine.world q ≡ own_of s.world q =
          λ q. ap (λ (ys : List (List ℕ)). get_or ys q []) a.here.so_far.own_is in
          let one : TakesOne s.world.trace new =
          walks p s.world.trace x new last a.others a.machine a.here.reached (record {
            meanwhile = a.here.so_far.meanwhile;
            trace = a.here.so_far.trace;
            there = a.here.so_far.there;
          }) a.here.known (locks spot.queue a.here.todo (same_own n ∙ empty)
          (λ q g ys e. stands-due q g (subst (λ (zs : List ℕ). 1 ≤ times g zs) (sym (sym (same_own q) ∙ e))
          (first-times g ys)))
          (omega (arith, a.here.so_far.listed_is spot.queue, in-the-list spot.queue f spot.there)) (
            another,
            some-there f (own_of a.machine.world spot.queue)
                (subst (λ (zs : List ℕ). 1 ≤ times f zs) (sym (same_own spot.queue)) spot.there),
          )) a.onward a.made in
          record { future = one.future; due = one.due; taken = taken-since s r rest n p b steps new k one.future one.taken }

      by : (own : List ℕ) → own_of s.world n ≡ own → TakesOneDue s new
      by (g ∷ xs) e =
          let d : IsDue g s.world.trace =
          stands-due n g (subst (λ (ys : List ℕ). 1 ≤ times g ys) (sym e) (first-times g xs)) in
          record {
            future = g;
            due = d;
            taken = taken-since s r rest n p b steps new k g (takes-first s r rest n p b steps new k g d (in_own xs e));
          }
      by [] e = ⊎_elim
          (λ (none : AllEmpty s.world). walked e none)
          (λ (y : common.Spot s.world).
          let d : IsDue y.future s.world.trace = is-due s r rest n p b steps new k y.future (omega (
            arith,
            first-queued s.world y.mark y.future y.rest y.is,
          )) in
          record {
            future = y.future;
            due = d;
            taken = taken-since s r rest n p b steps new k y.future
                (takes-first s r rest n p b steps new k y.future d (in_common e y refl));
          })
          (common.spot s.world)

pub finds-due : (limit : ℕ) (kind : Kind) (parties : ℕ) (steps : List Step) → FindsDue (run steps (start limit kind parties))
finds-due limit kind parties steps = λ rest f due p r b ts new k. finds (run steps (start limit kind parties))
    (record { limit = limit; kind = kind; parties = parties; steps = steps; is = refl }) rest r p b ts new k f due
