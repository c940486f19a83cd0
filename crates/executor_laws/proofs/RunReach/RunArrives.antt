-- For runs_reach_futures, kept_futures_are_in_reach and dropped_runs_leave_common_futures.
-- From the beginning of a poll of a run that is made alone to its search in its own queue.
use Rattle.std.proofs.Common.{◌≡◌, ◌∙◌, inl, inr, ⊎_elim, ℕ, ◌≤◌, List, [], ◌∷◌, ◌++◌, get_or}
use Rattle.std.proofs.Common.{Bool, true, false, ◌||◌, refl, sym, ap, subst, arith, Ok}
use Rattle.std.proofs.lemmas.List.Folds.{list_any-append}
use Rattle.std.specs.Prelude.{Option, Some}
use Rattle.executor_laws.proofs.Types.{Answer, ListOp, Op, RunPoll, Section, TickOp, UserOp, Step, UserEnd}
use Rattle.executor_model.specs.{ActsOfRuns.asleep, ActsOfRuns.registered, Doing.act, Due.IsDue, Executions.run_all, Sound.times}
use Rattle.executor_model.specs.{Steps.Machine, Steps.Part, Steps.onto, Steps.part, Steps.react, Steps.stack, Steps.with_part, Trace.Trace}
use Rattle.executor_model.specs.{Trace.has, Trace.is_accepted, Trace.is_drop_begun, Trace.is_dropped, World.Ended, World.Listed, World.New}
use Rattle.executor_model.specs.{World.Stage, World.World, World.among, World.own_of, World.run_of}
use Rattle.executor_model.proofs.{Table.Entering.table-agrees, OneFuture.Stories.among_is, OneFuture.Telling.begun-has}
use Rattle.executor_model.proofs.{Steps.Reached.Reached, Steps.Reached.good-here}
use Rattle.executor_laws.specs.{LoneEnds.are_onward_of, KeptFirst.taken_up, Reach.takes, RunFew.polls_in, RunReach.first_answer}
use Rattle.executor_laws.proofs.{Reach.LoneMoves.is_turn, Reach.LoneSteps.HasEntry, Reach.LoneTicks.stack-set, Reach.Reached.heard-here}
use Rattle.executor_laws.proofs.{RunReach.TakenUp.answers-up, RunReach.TakenUp.goes-up, RunReach.RunWalks.Onward, RunReach.RunWalks.onward}
use Rattle.executor_laws.proofs.{RunReach.RunWalks.Onward.acted, RunReach.RunWalks.Onward.answered, Reach.Searching.takes-none}

-- where f is due, it has its entry until it is taken

or-left : (a b : Bool) → a ≡ true → (a || b) ≡ true
or-left true b e = refl
or-left false b e = absurd (cc)

neither : (a b : Bool) → a ≡ false → b ≡ false → (a || b) ≡ false
neither true b e k = absurd (cc)
neither false b e k = k

module _ (before : Trace) (f : ℕ) (due : IsDue f before) where
  entry-by : (m : Machine) → Reached m → m.world.gone ≡ false → (meanwhile : Trace) →
      m.world.trace ≡ before ++ meanwhile → (b : Bool) → has (takes f) meanwhile ≡ b → HasEntry f m.world meanwhile
  entry-by m y g meanwhile t true e = inl e
  entry-by m y g meanwhile t false e =
      let kept : has (is_dropped f) m.world.trace ≡ false = ap (has (is_dropped f)) t
      ∙ (list_any-append (is_dropped f) before meanwhile ∙ neither _ _ due.undropped (takes-none f meanwhile e)) in
      let accepted : has (is_accepted f) m.world.trace ≡ true = ap (has (is_accepted f)) t
      ∙ (list_any-append (is_accepted f) before meanwhile ∙ or-left _ _ due.accepted) in
      let there : has is_drop_begun m.world.trace ≡ false = sym (begun-has 0 m.world.trace)
      ∙ (((heard-here m y).placed.leaves 0).begun ∙ g) in
      let one : times f m.world.table ≡ 1 =
      (table-agrees m f (good-here m y) (heard-here m y).placed).entered (inl there)
      (record { accepted = accepted; remains = inl kept }) in
      inr (⊎_elim (λ (x : (among f m.world.table ≡ true) × (1 ≤ times f m.world.table)). x.0)
      (λ (x : (among f m.world.table ≡ false) × (times f m.world.table ≡ 0)). absurd (omega (arith, x.1, one)))
      (among_is f m.world.table))

  pub entry : (m : Machine) → Reached m → m.world.gone ≡ false → (meanwhile : Trace) →
      m.world.trace ≡ before ++ meanwhile → HasEntry f m.world meanwhile
  entry m y g meanwhile t = entry-by m y g meanwhile t (has (takes f) meanwhile) refl

pub registered-own : (x : Stage) (w : World) (r : ℕ) → (registered x w r).own ≡ w.own
registered-own New w r = refl
registered-own Listed w r = refl
registered-own Ended w r = refl

pub registered-queue : (x : Stage) (w : World) (r : ℕ) → (registered x w r).queues ≡ w.queues
registered-queue New w r = refl
registered-queue Listed w r = refl
registered-queue Ended w r = refl

pub registered-turns : (x : Stage) (w : World) (r : ℕ) → (registered x w r).urgent_turns ≡ w.urgent_turns
registered-turns New w r = refl
registered-turns Listed w r = refl
registered-turns Ended w r = refl

pub registered-trace : (x : Stage) (w : World) (r : ℕ) → (registered x w r).trace ≡ w.trace
registered-trace New w r = refl
registered-trace Listed w r = refl
registered-trace Ended w r = refl

pub registered-gone : (x : Stage) (w : World) (r : ℕ) → (registered x w r).gone ≡ w.gone
registered-gone New w r = refl
registered-gone Listed w r = refl
registered-gone Ended w r = refl

-- up to the search in its own queue
module _ (p : ℕ) (before : Trace) (x : RunPoll) (own : List ℕ) (base : World) (new : Machine) (idles : stack new p ≡ []) where
  -- nothing is found yet
  pub record Before (w : World) : Type 0 where
    pub own_is : own_of w x.run ≡ own
    pub common_is : w.queues ≡ base.queues
    pub turn_is : w.urgent_turns ≡ base.urgent_turns
    pub meanwhile : Trace
    pub trace : w.trace ≡ before ++ meanwhile
    pub calm : polls_in meanwhile ≡ 0
    pub unturned : has is_turn meanwhile ≡ false
    pub there : w.gone ≡ false

  -- and the party has this to do
  pub record At (os : List Op) (s : Machine) : Type 0 where
    pub reached : Reached s
    pub so_far : Before s.world
    pub todo : stack s p ≡ os

  -- it is about to search, and has taken nothing up
  pub record Arrived (ts : List Step) (s : Machine) : Type 0 where
    pub machine : Machine
    pub others : List Step
    pub taken : taken_up p ts s ≡ taken_up p others machine
    pub here : At (Op.Tick (TickOp.Search (asleep x)) ∷ []) machine
    pub onward : are_onward_of p others ≡ true
    pub made : run_all others machine ≡ Ok new

  earlier : (ts others : List Step) (s v : Machine) → taken_up p ts s ≡ taken_up p others v → Arrived others v → Arrived ts s
  earlier ts others s v e a = record {
    machine = a.machine;
    others = a.others;
    taken = e ∙ a.taken;
    here = a.here;
    onward = a.onward;
    made = a.made;
  }

  -- the run's own future isn't ready
  pub at-own : (s : Machine) → At (Op.User (UserOp.PollOwn x) ∷ []) s → (ts : List Step) →
      first_answer ts ≡ Some (UserEnd.Polled Answer.Pending) → are_onward_of p ts ≡ true → run_all ts s ≡ Ok new →
      Arrived ts s
  at-own s a ts c on n =
      go (onward p s new [] (Op.User (UserOp.PollOwn x)) ts a.todo a.reached idles on n)
    where
      go : Onward p s new [] (Op.User (UserOp.PollOwn x)) ts → Arrived ts s
      go (acted h others te z y n2 on2 l) = absurd (cc)
      go (answered u others te z y n2 on2 l) =
          let q : ◌≡◌ {A = Option UserEnd} (Some u) (Some (UserEnd.Polled Answer.Pending)) = sym (ap first_answer te) ∙ c in
          let v : u ≡ UserEnd.Polled Answer.Pending = cc in
          record {
            machine = with_part s p (part s.world (Op.Tick (TickOp.Search (asleep x)) ∷ []));
            others = others;
            taken = answers-up p s new [] (Op.User (UserOp.PollOwn x)) ts a.todo n u others te
                ∙ ap (λ (w : UserEnd). taken_up p others (with_part s p (onto p (react p (Op.User (UserOp.PollOwn x)) w s.world) []))) v;
            here = record {
              reached = subst (λ (w : UserEnd).
                  Reached (with_part s p (onto p (react p (Op.User (UserOp.PollOwn x)) w s.world) []))) v y;
              so_far = a.so_far;
              todo = stack-set p s (part s.world (Op.Tick (TickOp.Search (asleep x)) ∷ [])) l;
            };
            onward = on2;
            made = sym (ap (λ (w : UserEnd).
                run_all others (with_part s p (onto p (react p (Op.User (UserOp.PollOwn x)) w s.world) []))) v) ∙ n2;
          }

  at-unlock : (s : Machine) → At (Op.User (UserOp.PollOwn x) ∷ Op.List ListOp.UnlockWrite ∷ []) s → (ts : List Step) →
      first_answer ts ≡ Some (UserEnd.Polled Answer.Pending) → are_onward_of p ts ≡ true → run_all ts s ≡ Ok new →
      Arrived ts s
  at-unlock s a ts c on n =
      go (onward p s new (Op.User (UserOp.PollOwn x) ∷ []) (Op.List ListOp.UnlockWrite) ts a.todo a.reached idles on n)
    where
      go : Onward p s new (Op.User (UserOp.PollOwn x) ∷ []) (Op.List ListOp.UnlockWrite) ts →
          Arrived ts s
      go (answered u others te z y n2 on2 l) = absurd (cc)
      go (acted h others te z y n2 on2 l) =
          let d : Part = onto p (act p h (Op.List ListOp.UnlockWrite) s.world) (Op.User (UserOp.PollOwn x) ∷ []) in
          earlier ts others s (with_part s p d)
          (goes-up p s new (Op.User (UserOp.PollOwn x) ∷ []) (Op.List ListOp.UnlockWrite) ts a.todo n h others te)
          (at-own (with_part s p d) (record {
            reached = y;
            so_far = record {
              own_is = a.so_far.own_is;
              common_is = a.so_far.common_is;
              turn_is = a.so_far.turn_is;
              meanwhile = a.so_far.meanwhile;
              trace = a.so_far.trace;
              calm = a.so_far.calm;
              unturned = a.so_far.unturned;
              there = a.so_far.there;
            };
            todo = stack-set p s d l;
          }) others (sym (ap first_answer te) ∙ c) on2 n2)

  at-write : (s : Machine) → At (Op.List (ListOp.Write (Section.Register x)) ∷ []) s → (ts : List Step) →
      first_answer ts ≡ Some (UserEnd.Polled Answer.Pending) → are_onward_of p ts ≡ true → run_all ts s ≡ Ok new →
      Arrived ts s
  at-write s a ts c on n =
      go (onward p s new [] (Op.List (ListOp.Write (Section.Register x))) ts a.todo a.reached idles on n)
    where
      go : Onward p s new [] (Op.List (ListOp.Write (Section.Register x))) ts → Arrived ts s
      go (answered u others te z y n2 on2 l) = absurd (cc)
      go (acted h others te z y n2 on2 l) =
          let d : Part = onto p (act p h (Op.List (ListOp.Write (Section.Register x))) s.world) [] in
          let st : Stage = (run_of s.world x.run).stage in
          earlier ts others s (with_part s p d) (goes-up p s new [] (Op.List (ListOp.Write (Section.Register x))) ts a.todo n h others te)
          (at-unlock (with_part s p d) (record {
            reached = y;
            so_far = record {
              own_is = ap (λ (qs : List (List ℕ)). get_or qs x.run []) (registered-own st s.world x.run)
                  ∙ a.so_far.own_is;
              common_is = registered-queue st s.world x.run ∙ a.so_far.common_is;
              turn_is = registered-turns st s.world x.run ∙ a.so_far.turn_is;
              meanwhile = a.so_far.meanwhile;
              trace = registered-trace st s.world x.run ∙ a.so_far.trace;
              calm = a.so_far.calm;
              unturned = a.so_far.unturned;
              there = registered-gone st s.world x.run ∙ a.so_far.there;
            };
            todo = stack-set p s d l;
          }) others (sym (ap first_answer te) ∙ c) on2 n2)

  pub at-lock : (s : Machine) → At (Op.List (ListOp.LockWrite (Section.Register x)) ∷ []) s → (ts : List Step) →
      first_answer ts ≡ Some (UserEnd.Polled Answer.Pending) → are_onward_of p ts ≡ true → run_all ts s ≡ Ok new →
      Arrived ts s
  at-lock s a ts c on n =
      go (onward p s new [] (Op.List (ListOp.LockWrite (Section.Register x))) ts a.todo a.reached idles on n)
    where
      go : Onward p s new [] (Op.List (ListOp.LockWrite (Section.Register x))) ts → Arrived ts s
      go (answered u others te z y n2 on2 l) = absurd (cc)
      go (acted h others te z y n2 on2 l) =
          let d : Part = onto p (act p h (Op.List (ListOp.LockWrite (Section.Register x))) s.world) [] in
          earlier ts others s (with_part s p d)
          (goes-up p s new [] (Op.List (ListOp.LockWrite (Section.Register x))) ts a.todo n h others te)
          (at-write (with_part s p d) (record {
            reached = y;
            so_far = record {
              own_is = a.so_far.own_is;
              common_is = a.so_far.common_is;
              turn_is = a.so_far.turn_is;
              meanwhile = a.so_far.meanwhile;
              trace = a.so_far.trace;
              calm = a.so_far.calm;
              unturned = a.so_far.unturned;
              there = a.so_far.there;
            };
            todo = stack-set p s d l;
          }) others (sym (ap first_answer te) ∙ c) on2 n2)
