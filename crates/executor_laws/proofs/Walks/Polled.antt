-- For runs_can_be_polled and keepers_can_be_polled.
-- A poll of a run that lives and hasn't ended can be made alone, to its end.
use Rattle.std.proofs.Common.{◌≡◌, ◌∙◌, ℕ, ◌<◌, ◌≤◌, List, [], ◌∷◌, length, Bool, true, false, ◌&&◌, ◌||◌, not}
use Rattle.std.proofs.Common.{◌++◌, eqb, refl, sym, ap, arith, ⊎_elim, Ok}
use Rattle.std.proofs.lemmas.Bool.Decides.{nat_tests}
use Rattle.std.specs.Prelude.{◌==◌, Option, Some, None, nat_lt}
use Rattle.executor_laws.proofs.Types.{By, Call, Event, Kind, Op, ListOp, RunPoll, Section, UserOp, Step, Begin, Go, Gone, NoSuch, UserEnd}
use Rattle.executor_model.specs.{declared.step.Step.TheVariants.Answer, Emptiness.IsAtRest, Executions.run_all, Quiet.IsQuiet}
use Rattle.executor_model.specs.{Rows.leaking_of, Rows.running_of, Steps.Machine, Steps.after, Steps.answer_refusal, Steps.begin_refusal}
use Rattle.executor_model.specs.{Steps.is_there, Steps.is_unused, Steps.onto, Steps.part_after, Steps.poll_run, Steps.party_of}
use Rattle.executor_model.specs.{Steps.refusal, Steps.run, Steps.stack, Steps.start, Steps.top, Steps.unless, Steps.waits, Steps.waker_of}
use Rattle.executor_model.specs.{Sound.times, Weights.weigh_all, World.Ended, World.Listed, World.New, World.Stage, World.World, World.done}
use Rattle.executor_model.specs.{World.log, World.own_of, World.run_of}
use Rattle.executor_model.proofs.{OwnQueues.Using.emptying_of, OwnQueues.UsingWorlds.is_over_stage, OwnQueues.UsingWorlds.is_past}
use Rattle.executor_model.proofs.{Quiet.Resting.all-rest, Steps.Lift.no_hint, Steps.Reached.Reached, Steps.Reached.deep-here}
use Rattle.executor_model.proofs.{Steps.Reached.good-here, Steps.Reached.reached-step, Steps.Reached.run-then}
use Rattle.executor_laws.specs.{LoneEnds.are_onward_of, Remaining.remaining, RunPolls.KeepersCanBePolled, RunPolls.RunsCanBePolled}
use Rattle.executor_laws.specs.{RunReach.IsLonePoll, RunReach.Keeps, RunReach.first_answer}
use Rattle.executor_laws.proofs.{Placement.Placing.here, Placement.Placing.idle, Placement.Placing.keeper-own, Reach.LoneTicks.stack-set}
use Rattle.executor_laws.proofs.{Reach.Reached.bonded-here, Reach.Reached.heard-here, Termination.GoingOn.goes-on}
use Rattle.executor_laws.proofs.{Termination.LoneEnds.Finish, Termination.LoneEnds.OthersRest, Termination.LoneEnds.alone-free}
use Rattle.executor_laws.proofs.{Termination.LoneEnds.finishes, Termination.LoneEnds.still-party, Termination.LoneEnds.still-rest}
use Rattle.executor_laws.proofs.{Walks.Finding.enrolled-here}
use Rattle.executor_model.specs.declared.event.Answer.TheVariants as answer

-- from here p can go on to the end, and what user code answers first is that the run's own future isn't ready
record Lone (p : ℕ) (s : Machine) : Type 0 where
  pub steps : List Step
  pub new : Machine
  pub onward : are_onward_of p steps ≡ true
  pub made : run_all steps s ≡ Ok new
  pub quiet : IsQuiet new.world.trace
  pub pending : first_answer steps ≡ Some (UserEnd.Polled answer.Pending)

-- a party that is alone
record IsAlone (p : ℕ) (s : Machine) : Type 0 where
  pub reached : Reached s
  pub there : p < length s.parties
  pub others : OthersRest p s

module _ (p : ℕ) (x : RunPoll) where
  own : eqb p p ≡ true
  own = grind (arith, nat_tests)

  still-alone : (s : Machine) (t : Step) → party_of t ≡ p → refusal s t ≡ None → IsAlone p s → IsAlone p (after s t)
  still-alone s t i e a = record {
    reached = reached-step s t e a.reached;
    there = still-party p s t a.there;
    others = still-rest p s t i a.others;
  }

  abbrev answers : Step
  answers = Answer p (UserEnd.Polled answer.Pending)

  -- where the own future is polled
  at-own : (s : Machine) → IsAlone p s → top (stack s p) ≡ Some (Op.User (UserOp.PollOwn x)) → Lone p s
  at-own s a e =
      let b : nat_lt p (length s.parties) ≡ true = (let l : p < length s.parties = a.there in grind (arith, nat_tests)) in
      let goes : refusal s answers ≡ None =
      ap (λ (c : Bool). unless c NoSuch (answer_refusal (top (stack s p)) (UserEnd.Polled answer.Pending))) b
      ∙ ap (λ (o : Option Op). answer_refusal o (UserEnd.Polled answer.Pending)) e in
      let k : IsAlone p (after s answers) = still-alone s answers refl goes a in
      let f : Finish p (after s answers) =
      finishes (remaining (after s answers)) p (after s answers) k.reached k.there k.others (omega arith) _ refl in
      record {
        steps = answers ∷ f.steps;
        new = f.new;
        onward = ap (λ (c : Bool). c && are_onward_of p f.steps) own ∙ f.onward;
        made = run-then answers f.steps s f.new goes f.made;
        quiet = f.quiet;
        pending = refl;
      }

  -- something that is no user code is done first
  does-first : (s : Machine) (o : Op) (os : List Op) → IsAlone p s → top (stack s p) ≡ Some o → waits o ≡ false →
      (part_after s.world (stack s p) (Go p no_hint)).todo ≡ os →
      ((now : Machine) → IsAlone p now → stack now p ≡ os → Lone p now) → Lone p s
  does-first s o os a e w todo k =
      let t : Step = Go p no_hint in
      let goes : refusal s t ≡ None =
      (goes-on s p o a.there e).goes w (alone-free p s o a.reached a.others e) no_hint in
      let f : Lone p (after s t) = k (after s t) (still-alone s t refl goes a)
      (stack-set p s (part_after s.world (stack s p) t) a.there ∙ todo) in
      record {
        steps = t ∷ f.steps;
        new = f.new;
        onward = ap (λ (c : Bool). c && are_onward_of p f.steps) own ∙ f.onward;
        made = run-then t f.steps s f.new goes f.made;
        quiet = f.quiet;
        pending = f.pending;
      }

  todo-of : (s : Machine) (os : List Op) → stack s p ≡ os →
      (part_after s.world (stack s p) (Go p no_hint)).todo ≡ (part_after s.world os (Go p no_hint)).todo
  todo-of s os e = ap (λ (ns : List Op). (part_after s.world ns (Go p no_hint)).todo) e

  abbrev asks : Op
  asks = Op.User (UserOp.PollOwn x)

  -- a run's first poll brings its own queue into the list
  at-unlock : (s : Machine) → IsAlone p s → stack s p ≡ asks ∷ Op.List ListOp.UnlockWrite ∷ [] → Lone p s
  at-unlock s a e = does-first s (Op.List ListOp.UnlockWrite) (asks ∷ []) a (ap top e) refl (todo-of s _ e)
      (λ now k i. at-own now k (ap top i))

  at-write : (s : Machine) → IsAlone p s → stack s p ≡ Op.List (ListOp.Write (Section.Register x)) ∷ [] → Lone p s
  at-write s a e = does-first s (Op.List (ListOp.Write (Section.Register x))) (asks ∷ Op.List ListOp.UnlockWrite ∷ []) a
      (ap top e) refl (todo-of s _ e) at-unlock

  at-lock : (s : Machine) → IsAlone p s → stack s p ≡ Op.List (ListOp.LockWrite (Section.Register x)) ∷ [] → Lone p s
  at-lock s a e = does-first s (Op.List (ListOp.LockWrite (Section.Register x)))
      (Op.List (ListOp.Write (Section.Register x)) ∷ []) a (ap top e) refl (todo-of s _ e) at-write

module _ (s : Machine) (r : Reached s) (rest : IsAtRest s) (p n x : ℕ) (l : p < length s.parties)
    (alive : is_there (run_of s.world n) ≡ true) (unended : ¬ ((run_of s.world n).stage ≡ Ended)) where
  idles : (q : ℕ) → stack s q ≡ []
  idles q = idle s (good-here s r) (heard-here s r) (deep-here s r) (bonded-here s r) rest q

  there : s.world.gone ≡ false
  there = here s (good-here s r) (heard-here s r) (deep-here s r) (bonded-here s r) rest

  abbrev c : Call
  c = Call.PollRun n (By.Outside x)

  begins : refusal s (Begin p c) ≡ None
  begins =
      let unused : is_unused (running_of n) s.parties ≡ true =
      ap (λ (k : ℕ). k == 0) (all-rest (running_of n) s.parties idles) in
      let unleaked : weigh_all leaking_of s.parties ≡ 0 = all-rest leaking_of s.parties idles in
      ap (λ (b : Bool). unless b NoSuch (begin_refusal s.world s.parties (top (stack s p)) c))
      (let z : nat_lt p (length s.parties) ≡ true = grind (arith, nat_tests) in z)
      ∙ (ap (λ (os : List Op). begin_refusal s.world s.parties (top os) c) (idles p)
      ∙ (ap (λ (b : Bool). unless ((b && is_unused (running_of n) s.parties) && true) NoSuch
      (unless (not (s.world.gone && true)) Gone (unless (weigh_all leaking_of s.parties == 0) Gone None))) alive
      ∙ (ap (λ (b : Bool). unless (b && true) NoSuch (unless (not (s.world.gone && true)) Gone
      (unless (weigh_all leaking_of s.parties == 0) Gone None))) unused
      ∙ (ap (λ (b : Bool). unless (not (b && true)) Gone (unless (weigh_all leaking_of s.parties == 0) Gone None)) there
      ∙ ap (λ (m : ℕ). unless (m == 0) Gone None) unleaked))))

  abbrev beginning : World
  beginning = log (log s.world (Event.CallBegun p c)) (Event.RunPolled p n)

  abbrev poll : RunPoll
  poll = record { run = n; waker = waker_of None (By.Outside x); poll = length (s.world.trace ++ Event.CallBegun p c ∷ []) }

  abbrev now : Machine
  now = after s (Begin p c)

  begun-stack : (t : Stage) → (run_of s.world n).stage ≡ t →
      stack now p ≡ (onto p (done beginning (poll_run t poll)) []).todo
  begun-stack t e = stack-set p s (part_after s.world (stack s p) (Begin p c)) l
      ∙ (ap (λ (os : List Op). (part_after s.world os (Begin p c)).todo) (idles p)
      ∙ ap (λ (t : Stage). (onto p (done beginning (poll_run t poll)) []).todo) e)

  alone : IsAlone p now
  alone = record {
    reached = reached-step s (Begin p c) begins r;
    there = still-party p s (Begin p c) l;
    others = still-rest p s (Begin p c) refl (λ q m. idles q);
  }

  by-stage : (t : Stage) → (run_of s.world n).stage ≡ t → Lone p now
  by-stage New e = at-lock p poll now alone (begun-stack New e)
  by-stage Listed e = at-own p poll now alone (ap top (begun-stack Listed e))
  by-stage Ended e = absurd (unended e)

  pub lone-poll : (steps : List Step) × (new : Machine) × IsLonePoll p n (By.Outside x) steps s new
  lone-poll = let f : Lone p now = by-stage (run_of s.world n).stage refl in (
    f.steps,
    f.new,
    record {
      call = record { made = run-then (Begin p c) f.steps s f.new begins f.made; alone = f.onward; ended = f.quiet };
      pending = f.pending;
    },
  )

-- a run that keeps a future lives, and hasn't ended

or-parts : (a b : Bool) → (a || b) ≡ false → (a ≡ false) × (b ≡ false)
or-parts true b e = absurd (cc)
or-parts false b e = (refl, e)

module _ (s : Machine) (y : Reached s) (rest : IsAtRest s) (r f : ℕ) (k : Keeps r f s.world.trace) where
  stands : 1 ≤ times f (own_of s.world r)
  stands = keeper-own s (good-here s y) (heard-here s y) (deep-here s y) (bonded-here s y) rest f r k.due k.keeper

  open_run : is_past (run_of s.world r) ≡ false
  open_run = by (is_past (run_of s.world r)) refl
    where
      by : (a : Bool) → is_past (run_of s.world r) ≡ a → a ≡ false
      by false e = refl
      by true e = ⊎_elim
          (λ (z : own_of s.world r ≡ []). absurd (omega (arith, stands, ap (times f) z)))
          (λ (z : 1 ≤ weigh_all (emptying_of r) s.parties).
          absurd (omega (
            arith,
            z,
            all-rest (emptying_of r) s.parties
                (λ q. idle s (good-here s y) (heard-here s y) (deep-here s y) (bonded-here s y) rest q),
          )))
          (((enrolled-here s y).used r).emptied e)

  unended-run : ¬ ((run_of s.world r).stage ≡ Ended)
  unended-run e = let no : true ≡ false = sym (ap is_over_stage e)
      ∙ (or-parts (run_of s.world r).dropped (is_over_stage (run_of s.world r).stage) open_run).1 in cc

  pub keeper-polled : (p x : ℕ) → p < length s.parties →
      (steps : List Step) × (new : Machine) × IsLonePoll p r (By.Outside x) steps s new
  keeper-polled p x l = lone-poll s y rest p r x l
      (ap not (or-parts (run_of s.world r).dropped (is_over_stage (run_of s.world r).stage) open_run).0) unended-run

pub keepers-polled : (limit : ℕ) (kind : Kind) (parties : ℕ) (steps : List Step) →
    KeepersCanBePolled (run steps (start limit kind parties))
keepers-polled limit kind parties steps = λ rest r f k p x l. keeper-polled (run steps (start limit kind parties))
    (record { limit = limit; kind = kind; parties = parties; steps = steps; is = refl }) rest r f k p x l

pub runs-polled : (limit : ℕ) (kind : Kind) (parties : ℕ) (steps : List Step) →
    RunsCanBePolled (run steps (start limit kind parties))
runs-polled limit kind parties steps rest r alive unended p x l = lone-poll (run steps (start limit kind parties))
    (record { limit = limit; kind = kind; parties = parties; steps = steps; is = refl }) rest p r x l alive unended
