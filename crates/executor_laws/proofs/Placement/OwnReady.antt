-- For runs_end_by_their_own_futures.
-- What a run does that is ready follows only where its own future was ready, and no run ends but by that or by its drop.
use Rattle.std.proofs.Common.{◌≡◌, ◌≢◌, ◌⊎◌, ◌∙◌, inl, inr, ⊎_elim, ℕ, zero, suc, ◌+◌, ◌<◌, ◌≤◌, List, [], ◌∷◌, ◌++◌, length}
use Rattle.std.proofs.Common.{set, get_or, Bool, true, false, eqb, ltb, refl, sym, ap, subst, arith, get_or-set_other}
use Rattle.std.proofs.lemmas.Bool.Decides.{nat_tests}
use Rattle.std.specs.Prelude.{Option, Some, None, reverse}
use Rattle.executor_laws.proofs.Types.{WrongAnswer, UserEnd, Call, Reply, Answer, Event, ListOp, Look, First, Second, Op, RunOp}
use Rattle.executor_laws.proofs.Types.{RunPoll, Section, Sleeping, Steal, StealOp, TickOp, UserOp, Waker, Hint, Step, StepError}
use Rattle.executor_model.specs.Steps.{Machine, Part, accepts, answer_refusal, begun, below_top, drop_run, end_of, gone_on}
use Rattle.executor_model.specs.Steps.{mine, onto, part_after, part_refusal, party_of, poll_run, react, refusal, run}
use Rattle.executor_model.specs.World.{World, Stage, New, Listed, Ended, Run, Done, Ticker, Asleep, Awake, Left, log, new_run}
use Rattle.executor_model.specs.Steps.{settled_by, stack, start, step, step_by, stepped, top, unless}
use Rattle.executor_model.specs.World.{no_run, place_of, put_own, queue_of, run_of}
use Rattle.executor_model.specs.{Acts.mark_in, ActsOfSleepers.look_tick_by, Doing.act, Keeper.is_run_drop, Rows.running_of}
use Rattle.executor_model.specs.{Trace.has, Weights.is_run, Weights.same, Weights.weigh, Weights.weigh_all}
use Rattle.executor_laws.specs.RunEnds.{EndsByItsOwn, OwnIsReady, OwnWasReady, WasAnsweredReady}
use Rattle.executor_model.proofs.Steps.Lists.{same_cases, weigh-append, weigh-below, weigh-reverse, weigh_all-below}
use Rattle.executor_model.proofs.OwnQueues.RunsDone.{Deed, deed-act}
use Rattle.executor_model.proofs.{Steps.Lists.weigh_all-set, OwnQueues.RunsAside.hull_of, OwnQueues.UsingRuns.is_even}
use Rattle.executor_model.proofs.{Promises.CallPromises.has-left, Steps.Begins.unborrowed, Steps.Lift.topped}
use Rattle.executor_model.proofs.{Steps.Reached.Reached, Steps.Tests.and-right, Steps.TraceSteps.continues}
use Rattle.executor_laws.proofs.Placement.Leavings.{dropping_of, drops_run, leaves, leaving-uses, leaving_of, none-begun}
use Rattle.executor_laws.proofs.Placement.Leavings.{none-by, readying-leaves}
use Rattle.executor_laws.proofs.Placement.Answering.{held, readying_of}
use Rattle.executor_laws.proofs.Placement.Evens.{even-act, even-react, same-stage}
use Rattle.executor_laws.proofs.Placement.OfTicks.{NoneAstray, astray, none-astray}
use Rattle.executor_laws.proofs.{Types.NoSuch, Placement.BoundWays.bonded, Placement.RunAnswers.ready-at-the-end}
use Rattle.executor_laws.proofs.{Placement.Running.RanIn, Placement.RunningSteps.runs-begun}
use Rattle.executor_model.specs.ActsOfRuns as runs

-- what a run does that is ready follows from such a thing

unready : (r : ℕ) (os : List Op) → weigh (leaving_of r) os ≡ 0 → weigh (readying_of r) os ≡ 0
unready r os z = omega (arith, z, weigh-below (readying_of r) (leaving_of r) (readying-leaves r) os)

ready-reschedule : (r : ℕ) (own : List ℕ) (w : World) (q : ℕ) (a : Reply) →
    weigh (readying_of r) (runs.reschedule_by own w q a).next ≤ readying_of r (Op.Run (RunOp.Reschedule q a))
ready-reschedule r [] w q Reply.Ready = omega arith
ready-reschedule r [] w q _ = omega arith
ready-reschedule r (f ∷ rest) w q Reply.Ready = omega arith
ready-reschedule r (f ∷ rest) w q _ = omega arith

ready-unregister : (r q : ℕ) (a : Reply) →
    weigh (readying_of r) (Op.List ListOp.UnlockWrite ∷ Op.Run (RunOp.Reschedule q a) ∷ [])
    ≤ readying_of r (Op.List (ListOp.Write (Section.Unregister q a)))
ready-unregister r q Reply.Ready = omega arith
ready-unregister r q _ = omega arith

-- only a tick looks so
ready-look : (look : Look) (r : ℕ) (x : Ticker) (w : World) (q : List ℕ) (s : Sleeping) → is_run r s.who ≡ 0 →
    weigh (readying_of r) (look_tick_by x w look q s).next ≡ 0
ready-look (First mark) r x w [] s z = refl
ready-look (Second mark) r x w [] s z = refl
ready-look look r Awake w (f ∷ rest) s z = omega (arith, held r s.who, z)
ready-look look r (Asleep n) w (f ∷ rest) s z = omega (arith, held r s.who, z)
ready-look look r Left w (f ∷ rest) s z = omega (arith, held r s.who, z)

ready-act : (b : Bool) (r p : ℕ) (h : Hint) (o : Op) (w : World) → leaves o ≡ b → astray r o ≡ 0 →
    weigh (readying_of r) (act p h o w).next ≤ readying_of r o
ready-act false r p h o w e k = omega (arith, unready r (act p h o w).next (none-by _ r p h o w refl e))
ready-act true r p h (Op.List (ListOp.LockWrite (Section.Unregister q a))) w e k = omega arith
ready-act true r p h (Op.List (ListOp.Write (Section.Unregister q a))) w e k = ready-unregister r q a
ready-act true r p h (Op.Run (RunOp.Reschedule q a)) w e k = ready-reschedule r _ w q a
ready-act true r p h (Op.End a held) w e k = omega arith
ready-act true r p h (Op.Tick (TickOp.Look s look)) w e k =
    omega (arith, ready-look look r (place_of w s.who) w (queue_of w (mark_in look)).items s k)
ready-act true r p h _ w e k = absurd (cc)

-- but by the end of user code, where the own future is ready

abbrev IsOwn : ℕ → Op → UserEnd → Type 0
IsOwn r o u = (x : _) × (o ≡ Op.User (UserOp.PollOwn x)) × (u ≡ UserEnd.Polled Answer.Ready) × (x.run ≡ r)

ready-react : (r p : ℕ) (o : Op) (u : UserEnd) (w : World) → accepts o u ≡ true →
    (weigh (readying_of r) (react p o u w).next ≡ 0) ⊎ IsOwn r o u
ready-react r p (Op.User (UserOp.Poll f)) (UserEnd.Polled Answer.Pending) w a = inl refl
ready-react r p (Op.User (UserOp.Poll f)) (UserEnd.Polled Answer.Ready) w a = inl refl
ready-react r p (Op.User (UserOp.Drop f)) UserEnd.Done w a = inl refl
ready-react r p (Op.User (UserOp.DropOutput f)) UserEnd.Done w a = inl refl
ready-react r p (Op.User (UserOp.CallOutside x)) UserEnd.Done w a = inl refl
ready-react r p (Op.User (UserOp.PollOwn x)) (UserEnd.Polled Answer.Pending) w a = inl refl
ready-react r p (Op.User (UserOp.PollOwn x)) (UserEnd.Polled Answer.Ready) w a = ⊎_elim
    (λ (y : (same r x.run ≡ 1) × (eqb r x.run ≡ true) × (r ≡ x.run)). inr (x, refl, refl, sym y.2))
    (λ (y : (same r x.run ≡ 0) × (eqb r x.run ≡ false) × (r ≢ x.run)). inl (omega (arith, y.0)))
    (same_cases r x.run)
ready-react r p (Op.User (UserOp.DropOwn q)) UserEnd.Done w a = inl refl
ready-react r p _ _ w a = absurd (cc)

ready-drop : (r : ℕ) (t : Stage) (q : ℕ) → weigh (readying_of r) (drop_run t q) ≡ 0
ready-drop r New q = refl
ready-drop r Listed q = refl
ready-drop r Ended q = refl

-- a poll that begins isn't ready yet
ready-poll : (r : ℕ) (t : Stage) (x : RunPoll) → weigh (readying_of r) (poll_run t x) ≡ 0
ready-poll r New x = refl
ready-poll r Listed x = refl
ready-poll r Ended x = refl

ready-begun : (r p : ℕ) (w : World) (o : Option Waker) (c : Call) (b : Bool) → drops_run c ≡ b →
    weigh (readying_of r) (begun p w o c).next ≡ 0
ready-begun r p w o (Call.PollRun q by) false e = ready-poll r (run_of w q).stage _
ready-begun r p w o c false e = unready r (begun p w o c).next (none-begun r p w o c e)
ready-begun r p w o (Call.DropRun q) true e = ready-drop r (run_of w q).stage q
ready-begun r p w o _ true e = absurd (cc)

-- which run ends

other-stage : (rs : List Run) (q r : ℕ) (x : Run) → x.stage ≢ Ended → (get_or (set rs q x) r no_run).stage ≡ Ended →
    (get_or rs r no_run).stage ≡ Ended
other-stage [] q r x n e = refl
other-stage (y ∷ rs) zero zero x n e = absurd (n e)
other-stage (y ∷ rs) zero (suc r) x n e = e
other-stage (y ∷ rs) (suc q) zero x n e = e
other-stage (y ∷ rs) (suc q) (suc r) x n e = other-stage rs q r x n e

more-stage : (rs : List Run) (r : ℕ) → (get_or (rs ++ new_run ∷ []) r no_run).stage ≡ Ended →
    (get_or rs r no_run).stage ≡ Ended
more-stage [] r e = refl
more-stage (y ∷ rs) zero e = e
more-stage (y ∷ rs) (suc r) e = more-stage rs r e

stage-register : (t : Stage) (w : World) (q r : ℕ) → (run_of (runs.registered t w q) r).stage ≡ Ended →
    (run_of w r).stage ≡ Ended
stage-register New w q r e = other-stage w.runs q r (record (run_of w q) { stage = Listed })
    (λ z. (let no : Listed ≡ Ended = z in cc)) e
stage-register Listed w q r e = e
stage-register Ended w q r e = e

stage-make : (b : Bool) (w : World) (r : ℕ) → (run_of (runs.make_run_by b w).world r).stage ≡ Ended → (run_of w r).stage ≡ Ended
stage-make true w r e = e
stage-make false w r e = more-stage w.runs r e

-- it had ended, or what is done is its own, as it is ready or as it is dropped
abbrev WhyEnded : ℕ → World → Op → Type 0
WhyEnded r w o = ((run_of w r).stage ≡ Ended) ⊎ (1 ≤ readying_of r o + dropping_of r o)

why-same : (a : Reply) (r q : ℕ) → same r q ≡ 1 →
    1 ≤ readying_of r (Op.List (ListOp.Write (Section.Unregister q a))) + dropping_of r (Op.List (ListOp.Write (Section.Unregister q a)))
why-same Reply.Ready r q z = omega (arith, z)
why-same _ r q z = omega (arith, z)

stage-unregister : (w : World) (q r : ℕ) (a : Reply) → (run_of (runs.unregistered w q) r).stage ≡ Ended →
    WhyEnded r w (Op.List (ListOp.Write (Section.Unregister q a)))
stage-unregister w q r a e = ⊎_elim
    (λ (y : (same r q ≡ 1) × (eqb r q ≡ true) × (r ≡ q)). inr (why-same a r q y.0))
    (λ (y : (same r q ≡ 0) × (eqb r q ≡ false) × (r ≢ q)).
    inl (sym (ap (λ (x : Run). x.stage)
    (get_or-set_other w.runs q r (record (run_of w q) { stage = Ended }) no_run y.2)) ∙ e))
    (same_cases r q)

stage-put : (w : World) (s : Steal) (k f : ℕ) (d : Done) → Deed w (Op.Steal (StealOp.Put s k f)) d → (r : ℕ) →
    (run_of d.world r).stage ≡ (run_of w r).stage
stage-put w s k f d (Deed.keeps e l) r = same-stage w d.world (ap hull_of e) r
stage-put w s k f d (Deed.takes q g rest i e l) r = same-stage (put_own w q rest) d.world (ap hull_of e) r
stage-put w s k f d (Deed.lacks q i e l) r = same-stage w d.world (ap hull_of e) r
stage-put w s k f d (Deed.grows x n g e m) r = same-stage (put_own w s.poll.run _) d.world (ap hull_of e) r

why-ended : (b : Bool) (r p : ℕ) (h : Hint) (o : Op) (w : World) → is_even o ≡ b →
    (run_of (act p h o w).world r).stage ≡ Ended → WhyEnded r w o
why-ended true r p h o w n e = inl (sym ((even-act p h o w n).stage r) ∙ e)
why-ended false r p h (Op.List (ListOp.Write Section.MakeRun)) w n e = inl (stage-make h.refused w r e)
why-ended false r p h (Op.List (ListOp.Write (Section.Register x))) w n e =
    inl (stage-register (run_of w x.run).stage w x.run r e)
why-ended false r p h (Op.List (ListOp.Write (Section.Unregister q a))) w n e = stage-unregister w q r a e
why-ended false r p h (Op.Steal (StealOp.Put s k f)) w n e =
    inl (sym (stage-put w s k f _ (deed-act p h (Op.Steal (StealOp.Put s k f)) w) r) ∙ e)
why-ended false r p h _ w n e = absurd (cc)

dropped-stage : (w : World) (q r : ℕ) → (get_or (set w.runs q (record (run_of w q) { dropped = true })) r no_run).stage ≡ Ended →
    (run_of w r).stage ≡ Ended
dropped-stage w q r e = by w.runs q r e
  where
    by : (rs : List Run) (q r : ℕ) → (get_or (set rs q (record (get_or rs q no_run) { dropped = true })) r no_run).stage ≡ Ended →
        (get_or rs r no_run).stage ≡ Ended
    by [] q r e = refl
    by (y ∷ rs) zero zero e = e
    by (y ∷ rs) zero (suc r) e = e
    by (y ∷ rs) (suc q) zero e = e
    by (y ∷ rs) (suc q) (suc r) e = by rs q r e

stage-begun : (r p : ℕ) (w : World) (o : Option Waker) (c : Call) (b : Bool) → drops_run c ≡ b →
    (run_of (begun p (log w (Event.CallBegun p c)) o c).world r).stage ≡ Ended → (run_of w r).stage ≡ Ended
stage-begun r p w o c false n e =
    sym (ap (λ (rs : List Run). (get_or rs r no_run).stage) (runs-begun p (log w (Event.CallBegun p c)) o c n)) ∙ e
stage-begun r p w o (Call.DropRun q) true n e = dropped-stage w q r e
stage-begun r p w o _ true n e = absurd (cc)

-- a step: what its party has to do, and which run ends

pub record Kept (r : ℕ) (w : World) (os : List Op) (x : Part) : Type 0 where
  pub todo : weigh (readying_of r) x.todo ≡ 0
  pub stage : (run_of x.world r).stage ≡ Ended → ((run_of w r).stage ≡ Ended) ⊎ (1 ≤ weigh (dropping_of r) os)

module _ (r : ℕ) (w : World) (os : List Op) where
  settle : (o : Option Op) (p : ℕ) (v : World) (ns : List Op) → top ns ≡ o → weigh (readying_of r) ns ≡ 0 →
      ((run_of v r).stage ≡ Ended → ((run_of w r).stage ≡ Ended) ⊎ (1 ≤ weigh (dropping_of r) os)) →
      Kept r w os (settled_by (end_of o) p v ns)
  settle (Some (Op.End a held)) p v ns e z k = record {
    todo = omega (
      arith,
      z,
      ap (weigh (readying_of r)) (topped ns (Op.End a held) e),
      weigh-append (readying_of r) (below_top ns) (Op.End a held ∷ []),
    );
    stage = k;
  }
  settle None p v ns e z k = record { todo = z; stage = k }
  settle (Some _) p v ns e z k = record { todo = z; stage = k }

  onto-kept : (p : ℕ) (d : Done) (rest : List Op) → weigh (readying_of r) rest ≡ 0 → weigh (readying_of r) d.next ≡ 0 →
      ((run_of d.world r).stage ≡ Ended → ((run_of w r).stage ≡ Ended) ⊎ (1 ≤ weigh (dropping_of r) os)) →
      Kept r w os (onto p d rest)
  onto-kept p d rest a b k = settle (top (rest ++ reverse d.next)) p d.world (rest ++ reverse d.next) refl
      (omega (arith, a, b, weigh-append (readying_of r) rest (reverse d.next), weigh-reverse (readying_of r) d.next)) k

  module _ (z : weigh (readying_of r) os ≡ 0) (i : weigh (astray r) os ≡ 0) where
    below : (v : Op → ℕ) (o : Op) → top os ≡ Some o → weigh v os ≡ weigh v (below_top os) + v o
    below v o e = omega (arith, ap (weigh v) (topped os o e), weigh-append v (below_top os) (o ∷ []))

    went : (p : ℕ) (h : Hint) (o : Option Op) → top os ≡ o → Kept r w os (gone_on p w os o (λ x. act p h x w))
    went p h None e = record { todo = z; stage = λ k. inl k }
    went p h (Some o) e = onto-kept p (act p h o w) (below_top os)
        (omega (arith, z, below (readying_of r) o e))
        (omega (
          arith,
          z,
          below (readying_of r) o e,
          ready-act (leaves o) r p h o w refl
              (omega (arith, i, below (astray r) o e)),
        ))
        (λ k. ⊎_elim
        (λ (x : (run_of w r).stage ≡ Ended). inl x)
        (λ (x : 1 ≤ readying_of r o + dropping_of r o).
        inr (omega (arith, x, z, below (readying_of r) o e, below (dropping_of r) o e)))
        (why-ended (is_even o) r p h o w refl k))

    answered : (p : ℕ) (u : UserEnd) (o : Option Op) → top os ≡ o → answer_refusal o u ≡ None →
        ((x : _) × (top os ≡ Some (Op.User (UserOp.PollOwn x))) × (u ≡ UserEnd.Polled Answer.Ready) × (x.run ≡ r))
        ⊎ Kept r w os (gone_on p w os o (λ x. react p x u w))
    answered p u None e k = absurd (cc)
    answered p u (Some o) e k = ⊎_elim
        (λ (x : weigh (readying_of r) (react p o u w).next ≡ 0). inr (onto-kept p (react p o u w) (below_top os)
        (omega (arith, z, below (readying_of r) o e)) x
        (λ y. inl (sym ((even-react p o u w (go (accepts o u) k)).stage r) ∙ y))))
        (λ (x : IsOwn r o u). inl (x.0, e ∙ ap (λ (y : Op). Some y) x.1, x.2, x.3))
        (ready-react r p o u w (go (accepts o u) k))
      where
        go : (b : Bool) → unless b WrongAnswer None ≡ None → b ≡ true
        go true q = refl
        go false q = absurd (cc)

    begins : (p : ℕ) (c : Call) (here : Option Waker) →
        Kept r w os (onto p (begun p (log w (Event.CallBegun p c)) here c) os)
    begins p c here = onto-kept p (begun p (log w (Event.CallBegun p c)) here c) os z
        (ready-begun r p (log w (Event.CallBegun p c)) here c (drops_run c) refl)
        (λ y. inl (stage-begun r p w here c (drops_run c) refl y))

-- no run ends but so

-- nothing of what run r does that is ready is to be done, and it hasn't ended, unless it is dropped
pub record Lasts (r : ℕ) (s : Machine) : Type 0 where
  pub idle : weigh_all (readying_of r) s.parties ≡ 0
  pub stage : (run_of s.world r).stage ≡ Ended → has (is_run_drop r) s.world.trace ≡ true

pub there : (b : Bool) (k : Option StepError) → unless b NoSuch k ≡ None → (b ≡ true) × (k ≡ None)
there true k e = (refl, e)
there false k e = absurd (cc)

module _ (r : ℕ) (s : Machine) (apart : weigh_all (astray r) s.parties ≡ 0) (idle : weigh_all (readying_of r) s.parties ≡ 0)
  where
    pub on-part : (t : Step) → part_refusal s.world s.parties (stack s (party_of t)) t ≡ None → party_of t < length s.parties →
        OwnIsReady r s t ⊎ Kept r s.world (stack s (party_of t)) (part_after s.world (stack s (party_of t)) t)
    on-part t e l =
        let z : weigh (readying_of r) (stack s (party_of t)) ≡ 0 =
        omega (arith, idle, weigh_all-set (readying_of r) s.parties (party_of t) [] l) in
        let i : weigh (astray r) (stack s (party_of t)) ≡ 0 =
        omega (arith, apart, weigh_all-set (astray r) s.parties (party_of t) [] l) in by t e z i
      where
        by : (t : Step) → part_refusal s.world s.parties (stack s (party_of t)) t ≡ None →
            weigh (readying_of r) (stack s (party_of t)) ≡ 0 → weigh (astray r) (stack s (party_of t)) ≡ 0 →
            OwnIsReady r s t ⊎ Kept r s.world (stack s (party_of t)) (part_after s.world (stack s (party_of t)) t)
        by (Step.Begin p c) e z i = inr (begins r s.world (stack s p) z i p c (mine (top (stack s p))))
        by (Step.Go p hint) e z i = inr (went r s.world (stack s p) z i p hint (top (stack s p)) refl)
        by (Step.Answer p u) e z i = ⊎_elim
            (λ (x : (x : _) × (top (stack s p) ≡ Some (Op.User (UserOp.PollOwn x))) × (u ≡ UserEnd.Polled Answer.Ready) × (x.run ≡ r)).
            inl (record {
              party = p;
              poll = x.0;
              is = ap (λ (y : UserEnd). Step.Answer p y) x.2;
              stands = x.1;
              own = x.3;
            }))
            (λ (x : Kept r s.world (stack s p) (part_after s.world (stack s p) (Step.Answer p u))). inr x)
            (answered r s.world (stack s p) z i p u (top (stack s p)) refl e)

    pub idle-still : (t : Step) → party_of t < length s.parties →
        Kept r s.world (stack s (party_of t)) (part_after s.world (stack s (party_of t)) t) →
        weigh_all (readying_of r) (set s.parties (party_of t) (part_after s.world (stack s (party_of t)) t).todo) ≡ 0
    idle-still t l k = omega (
      arith,
      idle,
      k.todo,
      weigh_all-set (readying_of r) s.parties (party_of t) (part_after s.world (stack s (party_of t)) t).todo l,
    )

module _ (r : ℕ) (s : Machine) (ran : RanIn s r) (apart : weigh_all (astray r) s.parties ≡ 0) (h : Lasts r s) where
  stays : (t : Step) → party_of t < length s.parties → Kept r s.world (stack s (party_of t)) (part_after s.world (stack s (party_of t)) t) →
      (later : (has (is_run_drop r) s.world.trace ≡ true → has (is_run_drop r)
      (part_after s.world (stack s (party_of t)) t).world.trace ≡ true)) →
      Lasts r (record {
        world = (part_after s.world (stack s (party_of t)) t).world;
        parties = set s.parties (party_of t)
            (part_after s.world (stack s (party_of t)) t).todo;
      })
  stays t l k later = record {
    idle = idle-still r s apart h.idle t l k;
    stage = λ e. later (⊎_elim (λ (x : (run_of s.world r).stage ≡ Ended). h.stage x)
        (λ (x : 1 ≤ weigh (dropping_of r) (stack s (party_of t))). ran.dropping (omega (
          arith,
          x,
          weigh_all-set (dropping_of r) s.parties (party_of t) [] l,
        )))
        (k.stage e));
  }

  later-drop : (t : Step) → has (is_run_drop r) s.world.trace ≡ true →
      has (is_run_drop r) (stepped s (step s t)).world.trace ≡ true
  later-drop t e = let c = continues s t in
      ap (has (is_run_drop r)) c.1 ∙ has-left (is_run_drop r) s.world.trace c.0 e

  by-step : (t : Step) (k : Option StepError) → refusal s t ≡ k →
      (has (is_run_drop r) s.world.trace ≡ true → has (is_run_drop r) (stepped s (step_by k s t)).world.trace ≡ true) →
      OwnIsReady r s t ⊎ Lasts r (stepped s (step_by k s t))
  by-step t (Some error) e later = inr h
  by-step t None e later =
      let x = there (ltb (party_of t) (length s.parties)) (part_refusal s.world s.parties (stack s (party_of t)) t) e in
      let l : party_of t < length s.parties = grind (arith, nat_tests) in
      ⊎_elim
      (λ (y : OwnIsReady r s t). inl y)
      (λ (y : Kept r s.world (stack s (party_of t)) (part_after s.world (stack s (party_of t)) t)). inr (stays t l y later))
      (on-part r s apart h.idle t x.1 l)

  pub lasts-on : (t : Step) → OwnIsReady r s t ⊎ Lasts r (stepped s (step s t))
  unfolding step
  lasts-on t = by-step t (refusal s t) refl (later-drop t)

pub ran-here : (s : Machine) → Reached s → (r : ℕ) → RanIn s r
ran-here s x r = subst (λ (m : Machine). RanIn m r) (sym x.is) ((bonded x.limit x.kind x.parties x.steps).ran r)

pub apart-here : (s : Machine) → Reached s → NoneAstray s
apart-here s x = subst NoneAstray (sym x.is) (none-astray x.limit x.kind x.parties x.steps)

run-append : (xs ys : List Step) (s : Machine) → run (xs ++ ys) s ≡ run ys (run xs s)
run-append [] ys s = refl
run-append (x ∷ xs) ys s = run-append xs ys (stepped s (step s x))

pub reached-on : (s : Machine) (ts : List Step) → Reached s → Reached (run ts s)
reached-on s ts x = record {
  limit = x.limit;
  kind = x.kind;
  parties = x.parties;
  steps = x.steps ++ ts;
  is = ap (λ (m : Machine). run ts m) x.is ∙ sym (run-append x.steps ts (start x.limit x.kind x.parties));
}

lasts : (r : ℕ) (ts : List Step) (s : Machine) → Reached s → Lasts r s → OwnWasReady r ts s ⊎ Lasts r (run ts s)
lasts r [] s x h = inr h
lasts r (t ∷ ts) s x h = ⊎_elim
    (λ (y : OwnIsReady r s t). inl (inl y))
    (λ (y : Lasts r (stepped s (step s t))). ⊎_elim
    (λ (k : OwnWasReady r ts (stepped s (step s t))). inl (inr k))
    (λ (k : Lasts r (run ts (stepped s (step s t)))). inr k)
    (lasts r ts (stepped s (step s t)) (reached-on s (t ∷ []) x) y))
    (lasts-on r s (ran-here s x r) (apart-here s x r) h t)

pub not-both : (b : Bool) → b ≡ true → b ≡ false → ⊥
not-both true e f = absurd (cc)
not-both false e f = absurd (cc)

pub ended-here : (s : Machine) → Reached s → (r : ℕ) →
    ((run_of s.world r).stage ≡ Ended) ⊎ WasAnsweredReady r s.world.trace → (run_of s.world r).stage ≡ Ended
ended-here s x r k = ⊎_elim
    (λ (y : (run_of s.world r).stage ≡ Ended). y)
    (λ (y : WasAnsweredReady r s.world.trace).
    subst (λ (m : Machine). WasAnsweredReady r m.world.trace → (run_of m.world r).stage ≡ Ended) (sym x.is)
    (λ u. ready-at-the-end x.limit x.kind x.parties x.steps r u.party u.poll u.polled u.ready) y) k

by-its-own : (s : Machine) (r : ℕ) → Reached s → EndsByItsOwn s r
by-its-own s r x lives n steps undropped ended = ⊎_elim
    (λ (y : OwnWasReady r steps s). y)
    (λ (y : Lasts r (run steps s)).
    absurd (not-both _ (y.stage (ended-here (run steps s) (reached-on s steps x) r ended)) undropped))
    (lasts r steps s x (record {
      idle = omega (
        arith,
        unborrowed (weigh_all (running_of r) s.parties) (and-right _ _ lives),
        weigh_all-below (readying_of r) (leaving_of r) (readying-leaves r) s.parties,
        weigh_all-below (leaving_of r) (running_of r) (leaving-uses r) s.parties,
      );
      stage = λ e. absurd (n e);
    }))

pub ends-by-its-own : (limit : _) (kind : _) (parties : ℕ) (steps : List Step) (r : ℕ) →
    EndsByItsOwn (run steps (start limit kind parties)) r
ends-by-its-own limit kind parties steps r = by-its-own (run steps (start limit kind parties)) r
    (record { limit = limit; kind = kind; parties = parties; steps = steps; is = refl })
