-- For due_futures_stand_with_their_keepers.
-- At every moment each run that has left the list of queues as it was ready is about to end its poll so, or has; and one
-- whose poll was answered so has left.
use Rattle.std.proofs.Common.{◌≡◌, ◌≢◌, ◌⊎◌, ◌∙◌, inl, inr, ⊎_elim, ℕ, zero, suc, ◌+◌, ◌<◌, ◌≤◌, List, [], ◌∷◌, ◌++◌, length}
use Rattle.std.proofs.Common.{set, get_or, Bool, true, false, ◌||◌, eqb, refl, sym, ap, subst, arith, get_or-set_same}
use Rattle.std.{proofs.Common.get_or-set_other, proofs.lemmas.Bool.Decides.nat_tests, proofs.lemmas.List.length-append}
use Rattle.std.{proofs.lemmas.List.get_or_past, specs.Prelude.Some, specs.Prelude.reverse, specs.Prelude.slice_get}
use Rattle.executor_laws.proofs.Types.{Reply, Event, ListOp, Op, RunOp, RunPoll, Section, TickOrRun, Steal, StealOp, UserOp}
use Rattle.executor_model.specs.World.{World, Stage, New, Listed, Ended, Run, Done, done, new_run, no_run, run_of}
use Rattle.executor_model.specs.{Keeper.is_run_drop, Rows.running_of, Standing.polls_sleeper, Steps.Machine, Steps.run}
use Rattle.executor_model.specs.{Steps.stack, Trace.Trace, Trace.has, Weights.same, Weights.weigh, Weights.weigh_all}
use Rattle.executor_model.proofs.Steps.Lists.{same_cases, same_is, weigh_all-below, weigh_all-push}
use Rattle.executor_model.proofs.OwnQueues.UsingWorlds.{Idle, count-set, is_over_stage, is_past}
use Rattle.executor_model.proofs.{Steps.Lift.split, Steps.Lift.unsettled, Steps.RunsMoves.moves-own_length}
use Rattle.executor_model.proofs.{OwnQueues.RunsMoving.hull-more, Steps.TraceGrows.Grows, OwnQueues.Using.polling_of}
use Rattle.executor_model.proofs.{OwnQueues.UsingRuns.idle-more, OwnQueues.UsingSteps.AllUsed, Steps.Tests.right-false}
use Rattle.executor_laws.proofs.Placement.Leavings.{Leaves, dropping_of, leaves-none, leaving_of, leaving-more, leaving-uses}
use Rattle.executor_laws.proofs.Placement.Ran.{Alike, AllReady, Ran, ReadyOnly, alike-more, has-same, is_of_runs, only-push}
use Rattle.executor_laws.proofs.Placement.Leavings.{off_of, off-leaves, dropping-leaves}
use Rattle.executor_laws.proofs.{Placement.Ran.ordinary-runs, Placement.Ran.ready-push, Placement.Answering.readying_of}
use Rattle.executor_laws.proofs.{Placement.Evens.Even, Placement.Evens.even-idle, Placement.Opens.le-or}
use Rattle.executor_model.specs.ActsOfRuns as runs

abbrev pub RanIn : Machine → ℕ → Type 0
RanIn s r = Ran s.world r (weigh_all (off_of r) s.parties) (weigh_all (dropping_of r) s.parties)
    (weigh_all (readying_of r) s.parties)

-- what is done leaves the runs as they are and tells nothing of them
ran-alike : (w v : World) (r off dropping readying off2 dropping2 readying2 : ℕ) → (run_of v r).stage ≡ (run_of w r).stage →
    is_past (run_of v r) ≡ is_past (run_of w r) → length v.runs ≡ length w.runs → Alike r w.trace v.trace →
    (1 ≤ off2 → 1 ≤ off) → (1 ≤ dropping2 → 1 ≤ dropping) → (1 ≤ readying → 1 ≤ readying2) →
    Ran w r off dropping readying → Ran v r off2 dropping2 readying2
ran-alike w v r off dropping readying off2 dropping2 readying2 stage past count t a b c h = record {
  past = λ e. past ∙ h.past (sym t.drops ∙ e);
  unborn = λ e. (let z = h.unborn (omega (arith, e, count)) in (t.drops ∙ z.0, t.polls ∙ z.1));
  off = λ e. stage ∙ h.off (a e);
  dropping = λ e. t.drops ∙ h.dropping (b e);
  ended = λ e. ⊎_elim
      (λ (x : has (is_run_drop r) w.trace ≡ true). inl (t.drops ∙ x))
      (λ (x : (1 ≤ readying) ⊎ AllReady r w.trace). inr
      (⊎_elim (λ (y : 1 ≤ readying). inl (c y)) (λ (y : AllReady r w.trace). inr (t.ready y)) x))
      (h.ended (sym stage ∙ e));
  answered = t.only (is_over_stage (run_of v r).stage) (λ p k g n. ap is_over_stage stage ∙ h.answered p k g n);
}

-- party p does something by which a run neither leaves the list nor ends, and nothing comes into its queue
module _ (s : Machine) (p : ℕ) (old rest : List Op) (d : Done) (r : ℕ) (l : p < length s.parties)
    (e : stack s p ≡ rest ++ reverse old) (h : RanIn s r) where
  pub ran-within : (run_of d.world r).stage ≡ (run_of s.world r).stage →
      is_past (run_of d.world r) ≡ is_past (run_of s.world r) → length d.world.runs ≡ length s.world.runs →
      Alike r s.world.trace d.world.trace → Leaves r old d.next → RanIn (unsettled s p rest d) r
  ran-within stage past count t k =
      ran-alike s.world d.world r (weigh_all (off_of r) s.parties) (weigh_all (dropping_of r) s.parties)
      (weigh_all (readying_of r) s.parties) _ _ _ stage past count t
      (λ z. omega (
        arith,
        z,
        k.off,
        split (off_of r) s.parties p old rest l e,
        weigh_all-push (off_of r) s.parties p rest d.next l,
      ))
      (λ z. omega (
        arith,
        z,
        k.dropping,
        split (dropping_of r) s.parties p old rest l e,
        weigh_all-push (dropping_of r) s.parties p rest d.next l,
      ))
      (λ z. omega (
        arith,
        z,
        k.readying,
        split (readying_of r) s.parties p old rest l e,
        weigh_all-push (readying_of r) s.parties p rest d.next l,
      )) h

pub grown-alike : (r : ℕ) (w v : World) → Grows is_of_runs ordinary-runs w v → Alike r w.trace v.trace
grown-alike r w v g = subst (Alike r w.trace) (sym g.is) (alike-more r w.trace g.more g.none)

pub same-alike : (r : ℕ) (w v : World) → v.trace ≡ w.trace → Alike r w.trace v.trace
same-alike r w v e = subst (Alike r w.trace) (sym e)
    (record { drops = refl; polls = refl; ready = λ a. a; only = λ S a. a })

-- what comes into a run's own queue comes there in its poll

over-true : (t : Stage) → t ≡ Ended → is_over_stage t ≡ true
over-true t e = ap is_over_stage e

pub over-ended : (t : Stage) → is_over_stage t ≡ true → t ≡ Ended
over-ended New e = absurd (cc)
over-ended Listed e = absurd (cc)
over-ended Ended e = refl

kept-alike : (r p f q : ℕ) (es : Trace) → eqb r q ≡ false → Alike r es (es ++ Event.Kept p f q ∷ [])
kept-alike r p f q es z = record {
  drops = has-same (is_run_drop r) es (Event.Kept p f q) refl;
  polls = has-same (polls_sleeper (TickOrRun.Run r)) es (Event.Kept p f q) refl;
  ready = ready-push r es (Event.Kept p f q) z;
  only = λ S. only-push r es (Event.Kept p f q) S refl;
}

module _ (s : Machine) (p : ℕ) (x : Steal) (more f : ℕ) (rest : List Op) (r : ℕ) (l : p < length s.parties)
    (e : stack s p ≡ rest ++ reverse (Op.Steal (StealOp.Put x more f) ∷ [])) (used : AllUsed s) (h : RanIn s r) where
  abbrev q : ℕ
  q = x.poll.run

  abbrev d : Done
  d = runs.steal_by more (runs.kept_by p s.world q f) x

  abbrev o : Op
  o = Op.Steal (StealOp.Put x more f)

  self : same q q ≡ 1
  self = grind (arith, same_is)

  alive : is_past (run_of s.world q) ≡ false
  alive = (used q).polled (omega (arith, split (polling_of q) s.parties p (o ∷ []) rest l e, self))

  stays : Idle (runs.kept_by p s.world q f) d.world
  stays = idle-more more (runs.kept_by p s.world q f) x

  like : Even (runs.kept_by p s.world q f) d.world
  like = even-idle (runs.kept_by p s.world q f) d.world (hull-more more (runs.kept_by p s.world q f) x) stays

  trace-is : d.world.trace ≡ s.world.trace ++ Event.Kept p f q ∷ []
  trace-is = more-trace more (runs.kept_by p s.world q f) x
    where
      more-trace : (n : ℕ) (w : World) (y : Steal) → (runs.steal_by n w y).world.trace ≡ w.trace
      more-trace n w y = (moves-own_length n 0 w y).same.trace

  leave : Leaves r (o ∷ []) d.next
  leave = leaves-none r (o ∷ []) d.next refl (leaving-more r more (runs.kept_by p s.world q f) x)

  pub ran-put : RanIn (unsettled s p rest d) r
  ran-put = ⊎_elim
      (λ (y : (same r q ≡ 1) × (eqb r q ≡ true) × (r ≡ q)). own y.2)
      (λ (y : (same r q ≡ 0) × (eqb r q ≡ false) × (r ≢ q)).
      ran-within s p (o ∷ []) rest d r l e h (like.stage r) (like.past r) like.count
      (subst (Alike r s.world.trace) (sym trace-is) (kept-alike r p f q s.world.trace y.1)) leave)
      (same_cases r q)
    where
      own : r ≡ q → RanIn (unsettled s p rest d) r
      own i =
          let there : is_past (run_of s.world r) ≡ false = ap (λ (n : ℕ). is_past (run_of s.world n)) i ∙ alive in
          let stage : (run_of d.world r).stage ≡ (run_of s.world r).stage = like.stage r in
          let not_over : (run_of s.world r).stage ≡ Ended → ⊥ =
          λ z. (let no : true ≡ false = sym (over-true (run_of s.world r).stage z)
          ∙ right-false (run_of s.world r).dropped (is_over_stage (run_of s.world r).stage) there in cc) in
          let k = leave in record {
            past = λ z. like.past r ∙ h.past (sym (ap (has (is_run_drop r)) trace-is
                ∙ has-same (is_run_drop r) s.world.trace (Event.Kept p f q) refl) ∙ z);
            unborn = λ z. (let y = h.unborn (omega (arith, z, like.count)) in (
              ap (has (is_run_drop r)) trace-is ∙ (has-same (is_run_drop r) s.world.trace (Event.Kept p f q) refl ∙ y.0),
              ap (has (polls_sleeper (TickOrRun.Run r))) trace-is
                  ∙ (has-same (polls_sleeper (TickOrRun.Run r)) s.world.trace (Event.Kept p f q) refl ∙ y.1),
            ));
            off = λ z. stage ∙ h.off (omega (
              arith,
              z,
              k.off,
              split (off_of r) s.parties p (o ∷ []) rest l e,
              weigh_all-push (off_of r) s.parties p rest d.next l,
            ));
            dropping = λ z. ap (has (is_run_drop r)) trace-is
                ∙ (has-same (is_run_drop r) s.world.trace (Event.Kept p f q) refl ∙ h.dropping (omega (
                  arith,
                  z,
                  k.dropping,
                  split (dropping_of r) s.parties p (o ∷ []) rest l e,
                  weigh_all-push (dropping_of r) s.parties p rest d.next l,
                )));
            ended = λ z. absurd (not_over (sym stage ∙ z));
            answered = subst (λ (t : Trace). ReadyOnly r t (is_over_stage (run_of d.world r).stage)) (sym trace-is)
                (only-push r s.world.trace (Event.Kept p f q) (is_over_stage (run_of d.world r).stage) refl
                (λ m n g y. ap is_over_stage stage ∙ h.answered m n g y));
          }

-- the list of queues

other-run : (rs : List Run) (n : ℕ) → n ≢ length rs → get_or (rs ++ new_run ∷ []) n no_run ≡ get_or rs n no_run
other-run [] zero k = absurd (k refl)
other-run [] (suc n) k = refl
other-run (y ∷ rs) zero k = refl
other-run (y ∷ rs) (suc n) k = other-run rs n (λ e. k (ap (λ (m : ℕ). suc m) e))

last-new : (rs : List Run) → get_or (rs ++ new_run ∷ []) (length rs) no_run ≡ new_run
last-new [] = refl
last-new (y ∷ rs) = last-new rs

get-has : (t : Event → Bool) (es : Trace) (k : ℕ) (x : Event) → slice_get es k ≡ Some x → t x ≡ true → has t es ≡ true
get-has t [] k x e z = absurd (cc)
get-has t (y ∷ es) zero x e z = or-left (t y) (has t es) (ap t (let same_one : y ≡ x = cc in same_one) ∙ z)
  where
    or-left : (a b : Bool) → a ≡ true → (a || b) ≡ true
    or-left true b q = refl
    or-left false b q = absurd (cc)
get-has t (y ∷ es) (suc k) x e z = or-right (t y) (has t es) (get-has t es k x e z)
  where
    or-right : (a b : Bool) → b ≡ true → (a || b) ≡ true
    or-right true b q = refl
    or-right false b q = q

module _ (s : Machine) (p : ℕ) (rest : List Op) (r : ℕ) (l : p < length s.parties) (used : AllUsed s)
    (h : RanIn s r) where
  module _ (e : stack s p ≡ rest ++ reverse (Op.List (ListOp.Write Section.MakeRun) ∷ [])) where
    abbrev m : Op
    m = Op.List (ListOp.Write Section.MakeRun)

    pub ran-make : (b : Bool) → RanIn (unsettled s p rest (runs.make_run_by b s.world)) r
    ran-make true =
        ran-within s p (m ∷ []) rest (runs.make_run_by true s.world) r l e h refl refl refl (same-alike r s.world s.world refl)
        (leaves-none r (m ∷ []) _ refl refl)
    ran-make false = ⊎_elim
        (λ (y : (same r (length s.world.runs) ≡ 1) × (eqb r (length s.world.runs) ≡ true) × (r ≡ length s.world.runs)).
        new y.2)
        (λ (y : (same r (length s.world.runs) ≡ 0) × (eqb r (length s.world.runs) ≡ false)
        × (r ≢ length s.world.runs)). other y.2)
        (same_cases r (length s.world.runs))
      where
        d : Done
        d = runs.make_run_by false s.world

        grown : length (s.world.runs ++ new_run ∷ []) ≡ length s.world.runs + 1
        grown = length-append s.world.runs (new_run ∷ [])

        other : r ≢ length s.world.runs → RanIn (unsettled s p rest (runs.make_run_by false s.world)) r
        other n =
            let run = other-run s.world.runs r n in
            let k : RanIn (unsettled s p rest (done s.world d.next)) r =
            ran-within s p (m ∷ []) rest (done s.world d.next) r l e h refl refl refl (same-alike r s.world s.world refl)
            (leaves-none r (m ∷ []) _ refl refl) in record {
              past = λ z. ap is_past run ∙ k.past z;
              unborn = λ z. k.unborn (omega (arith, z, grown));
              off = λ z. ap (λ (x : Run). x.stage) run ∙ k.off z;
              dropping = k.dropping;
              ended = λ z. k.ended (sym (ap (λ (x : Run). x.stage) run) ∙ z);
              answered = λ q j g y. ap (λ (x : Run). is_over_stage x.stage) run ∙ k.answered q j g y;
            }

        new : r ≡ length s.world.runs → RanIn (unsettled s p rest (runs.make_run_by false s.world)) r
        new i =
            let born = h.unborn (omega (arith, i)) in
            let run : get_or (s.world.runs ++ new_run ∷ []) r no_run ≡ new_run =
            ap (λ (n : ℕ). get_or (s.world.runs ++ new_run ∷ []) n no_run) i ∙ last-new s.world.runs in
            let unused : weigh_all (running_of r) s.parties ≡ 0 = (used r).unborn (omega (arith, i)) in
            let none : weigh_all (leaving_of r) s.parties ≡ 0 =
            omega (arith, unused, weigh_all-below (leaving_of r) (running_of r) (leaving-uses r) s.parties) in
            let off : weigh_all (off_of r) (set s.parties p (rest ++ reverse d.next)) ≡ 0 = omega (
              arith,
              none,
              weigh_all-below (off_of r) (leaving_of r) (off-leaves r) s.parties,
              split (off_of r) s.parties p (m ∷ []) rest l e,
              weigh_all-push (off_of r) s.parties p rest d.next l,
            ) in
            let drops : weigh_all (dropping_of r) (set s.parties p (rest ++ reverse d.next)) ≡ 0 = omega (
              arith,
              none,
              weigh_all-below (dropping_of r) (leaving_of r) (dropping-leaves r) s.parties,
              split (dropping_of r) s.parties p (m ∷ []) rest l e,
              weigh_all-push (dropping_of r) s.parties p rest d.next l,
            ) in record {
              past = λ z. absurd (let no : true ≡ false = sym z ∙ born.0 in cc);
              unborn = λ z. absurd (omega (arith, z, grown, i));
              off = λ z. absurd (omega (arith, z, off));
              dropping = λ z. absurd (omega (arith, z, drops));
              ended = λ z. absurd (let no : New ≡ Ended = sym (ap (λ (x : Run). x.stage) run) ∙ z in cc);
              answered = λ q j g y. absurd (let no : true ≡ false =
                  sym (get-has (polls_sleeper (TickOrRun.Run r)) s.world.trace j (Event.RunPolled q r) g
                  (let z : eqb r r ≡ true = grind (arith, nat_tests) in z)) ∙ born.1 in cc);
            }

  module _ (x : RunPoll) (e : stack s p ≡ rest ++ reverse (Op.List (ListOp.Write (Section.Register x)) ∷ [])) where
    abbrev g : Op
    g = Op.List (ListOp.Write (Section.Register x))

    abbrev after_register : Stage → Done
    after_register t = done (runs.registered t s.world x.run) (Op.List ListOp.UnlockWrite ∷ Op.User (UserOp.PollOwn x) ∷ [])

    pub stays-with : (t : Stage) → (run_of s.world x.run).stage ≡ t → RanIn (unsettled s p rest (after_register t)) r
    stays-with Listed q =
        ran-within s p (g ∷ []) rest (after_register Listed) r l e h refl refl refl (same-alike r s.world s.world refl)
        (leaves-none r (g ∷ []) _ refl refl)
    stays-with Ended q =
        ran-within s p (g ∷ []) rest (after_register Ended) r l e h refl refl refl (same-alike r s.world s.world refl)
        (leaves-none r (g ∷ []) _ refl refl)
    stays-with New q =
        let k : RanIn (unsettled s p rest (done s.world (after_register New).next)) r =
        ran-within s p (g ∷ []) rest (done s.world (after_register New).next) r l e h refl refl refl
        (same-alike r s.world s.world refl) (leaves-none r (g ∷ []) _ refl refl) in
        ⊎_elim
        (λ (y : (same r x.run ≡ 1) × (eqb r x.run ≡ true) × (r ≡ x.run)). own k y.2)
        (λ (y : (same r x.run ≡ 0) × (eqb r x.run ≡ false) × (r ≢ x.run)).
        let run : run_of (after_register New).world r ≡ run_of s.world r =
        get_or-set_other s.world.runs x.run r (record (run_of s.world x.run) { stage = Listed }) no_run y.2 in
        other k run)
        (same_cases r x.run)
      where
        count : length (after_register New).world.runs ≡ length s.world.runs
        count = count-set s.world.runs x.run _

        other : RanIn (unsettled s p rest (done s.world (after_register New).next)) r →
            run_of (after_register New).world r ≡ run_of s.world r → RanIn (unsettled s p rest (after_register New)) r
        other k run = record {
          past = λ z. ap is_past run ∙ k.past z;
          unborn = λ z. k.unborn (omega (arith, z, count));
          off = λ z. ap (λ (y : Run). y.stage) run ∙ k.off z;
          dropping = k.dropping;
          ended = λ z. k.ended (sym (ap (λ (y : Run). y.stage) run) ∙ z);
          answered = λ m j v y. ap (λ (u : Run). is_over_stage u.stage) run ∙ k.answered m j v y;
        }

        own : RanIn (unsettled s p rest (done s.world (after_register New).next)) r → r ≡ x.run →
            RanIn (unsettled s p rest (after_register New)) r
        own k i =
            let new : (run_of s.world r).stage ≡ New = ap (λ (n : ℕ). (run_of s.world n).stage) i ∙ q in
            let not_over : (run_of s.world r).stage ≡ Ended → ⊥ = λ z. (let no : New ≡ Ended = sym new ∙ z in cc) in
            let known : x.run < length s.world.runs = ⊎_elim
            (λ (y : length s.world.runs ≤ x.run). absurd (not_over (ap (λ (n : ℕ). (run_of s.world n).stage) i
            ∙ ap (λ (u : Run). u.stage) (get_or_past s.world.runs x.run no_run y))))
            (λ (y : suc x.run ≤ length s.world.runs). omega (arith, y))
            (le-or (length s.world.runs) x.run) in
            let now : run_of (after_register New).world r ≡ record (run_of s.world x.run) { stage = Listed } =
            ap (λ (n : ℕ). run_of (after_register New).world n) i
            ∙ get_or-set_same s.world.runs x.run (record (run_of s.world x.run) { stage = Listed }) no_run known in
            record {
              past = λ z. ap is_past now
                  ∙ (ap (λ (t : Stage). (run_of s.world x.run).dropped || is_over_stage t) (sym q)
                  ∙ (ap (λ (n : ℕ). is_past (run_of s.world n)) (sym i) ∙ k.past z));
              unborn = λ z. k.unborn (omega (arith, z, count));
              off = λ z. absurd (not_over (k.off z));
              dropping = k.dropping;
              ended = λ z. absurd (let no : Listed ≡ Ended = sym (ap (λ (y : Run). y.stage) now) ∙ z in cc);
              answered = λ m j v y. absurd (not_over (over-ended (run_of s.world r).stage (k.answered m j v y)));
            }

  -- the run's own queue goes from the list
  module _ (q : ℕ) (a : Reply)
      (e : stack s p ≡ rest ++ reverse (Op.List (ListOp.Write (Section.Unregister q a)) ∷ [])) where
    abbrev u : Op
    u = Op.List (ListOp.Write (Section.Unregister q a))

    abbrev gone_from : Done
    gone_from = done (runs.unregistered s.world q) (Op.List ListOp.UnlockWrite ∷ Op.Run (RunOp.Reschedule q a) ∷ [])

    count_same : length gone_from.world.runs ≡ length s.world.runs
    count_same = count-set s.world.runs q _

    -- of another run
    light : (b : Reply) → same r q ≡ 0 →
        (weigh (leaving_of r) (Op.List (ListOp.Write (Section.Unregister q b)) ∷ []) ≡ 0)
        × (weigh (leaving_of r) (Op.List ListOp.UnlockWrite ∷ Op.Run (RunOp.Reschedule q b) ∷ []) ≡ 0)
    light b z = (omega (arith, z), omega (arith, z))

    others_stay : r ≢ q → same r q ≡ 0 → RanIn (unsettled s p rest gone_from) r
    others_stay n z =
        let y = light a z in
        let k : RanIn (unsettled s p rest (done s.world gone_from.next)) r =
        ran-within s p (u ∷ []) rest (done s.world gone_from.next) r l e h refl refl refl (same-alike r s.world s.world refl)
        (leaves-none r (u ∷ []) gone_from.next y.0 y.1) in
        let run : run_of gone_from.world r ≡ run_of s.world r =
        get_or-set_other s.world.runs q r (record (run_of s.world q) { stage = Ended }) no_run n in record {
          past = λ x. ap is_past run ∙ k.past x;
          unborn = λ x. k.unborn (omega (arith, x, count_same));
          off = λ x. ap (λ (v : Run). v.stage) run ∙ k.off x;
          dropping = k.dropping;
          ended = λ x. k.ended (sym (ap (λ (v : Run). v.stage) run) ∙ x);
          answered = λ m j v y. ap (λ (w : Run). is_over_stage w.stage) run ∙ k.answered m j v y;
        }

    ended-at : (rs : List Run) (y : Run) (n m : ℕ) → m ≡ n → y.stage ≡ Ended →
        (get_or (set rs n y) m no_run).stage ≡ Ended
    ended-at [] y n m i z = refl
    ended-at (x ∷ rs) y zero zero i z = z
    ended-at (x ∷ rs) y (suc n) (suc m) i z = ended-at rs y n m (omega (arith, i)) z
    ended-at (x ∷ rs) y zero (suc m) i z = absurd (omega (arith, i))
    ended-at (x ∷ rs) y (suc n) zero i z = absurd (omega (arith, i))

    or-true : (b : Bool) (t : Stage) → t ≡ Ended → (b || is_over_stage t) ≡ true
    or-true true t z = refl
    or-true false t z = ap is_over_stage z

    -- who is ready goes on to end its poll; who isn't was dropped
    goes_on : (b : Reply) → same r q ≡ 1 →
        (1 ≤ weigh (readying_of r) (Op.List ListOp.UnlockWrite ∷ Op.Run (RunOp.Reschedule q b) ∷ []))
        ⊎ (1 ≤ weigh (dropping_of r) (Op.List (ListOp.Write (Section.Unregister q b)) ∷ []))
    goes_on Reply.Ready z = inl (omega (arith, z))
    goes_on _ z = inr (omega (arith, z))

    as_dropped : (b : Reply) → weigh (dropping_of r) (Op.List ListOp.UnlockWrite ∷ Op.Run (RunOp.Reschedule q b) ∷ [])
        ≡ weigh (dropping_of r) (Op.List (ListOp.Write (Section.Unregister q b)) ∷ [])
    as_dropped Reply.Ready = refl
    as_dropped _ = omega arith

    own_leaves : r ≡ q → same r q ≡ 1 → RanIn (unsettled s p rest gone_from) r
    own_leaves i z =
        let stage : (run_of gone_from.world r).stage ≡ Ended =
        ended-at s.world.runs (record (run_of s.world q) { stage = Ended }) q r i refl in record {
          past = λ x. or-true (run_of gone_from.world r).dropped (run_of gone_from.world r).stage stage;
          unborn = λ x. h.unborn (omega (arith, x, count_same));
          off = λ x. stage;
          dropping = λ x. h.dropping (omega (
            arith,
            x,
            as_dropped a,
            split (dropping_of r) s.parties p (u ∷ []) rest l e,
            weigh_all-push (dropping_of r) s.parties p rest gone_from.next l,
          ));
          ended = λ x. ⊎_elim
              (λ (y : 1 ≤ weigh (readying_of r) gone_from.next).
              inr (inl (omega (arith, y, weigh_all-push (readying_of r) s.parties p rest gone_from.next l))))
              (λ (y : 1 ≤ weigh (dropping_of r) (u ∷ [])).
              inl (h.dropping (omega (arith, y, split (dropping_of r) s.parties p (u ∷ []) rest l e))))
              (goes_on a z);
          answered = λ m j v y. ap is_over_stage stage;
        }

    pub ran-unregister : RanIn (unsettled s p rest gone_from) r
    ran-unregister = ⊎_elim
        (λ (y : (same r q ≡ 1) × (eqb r q ≡ true) × (r ≡ q)). own_leaves y.2 y.0)
        (λ (y : (same r q ≡ 0) × (eqb r q ≡ false) × (r ≢ q)). others_stay y.2 y.0)
        (same_cases r q)
