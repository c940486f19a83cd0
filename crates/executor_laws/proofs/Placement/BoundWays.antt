-- For due_futures_stand_with_their_keepers.
-- So each step of a machine does, whatever it is.
use Rattle.std.proofs.Common.{◌≡◌, ◌⊎◌, ◌∙◌, inl, inr, ⊎_elim, ℕ, zero, suc, ◌<◌, ◌≤◌, List, [], ◌∷◌, ◌++◌, length, set, get_or}
use Rattle.std.proofs.Common.{Bool, true, false, ◌||◌, ltb, refl, sym, ap, subst, arith, get_or-set_same}
use Rattle.std.proofs.lemmas.List.{length-append, get_or_past}
use Rattle.std.specs.Prelude.{Option, Some, None, reverse}
use Rattle.executor_laws.proofs.Types.{State, Move, Call, Reply, Answer, Event, Kind, Hold, ListOp, Op, RunOp, RunPoll, Section}
use Rattle.executor_laws.proofs.Types.{Steal, StealOp, UserOp, Waker, Hint, Step, UserEnd}
use Rattle.executor_model.specs.Steps.{Machine, accepts, begun, drop_run, future_of, has_all, is_there, kept, mine, poll_run}
use Rattle.executor_model.specs.World.{World, Stage, New, Listed, Ended, Run, Done, blank, done, log, new_run, no_run, own_of}
use Rattle.executor_model.specs.Steps.{react, run, stack, start, top, with_future}
use Rattle.executor_model.specs.Rows.{appends_of, ending_of, polls_of, running_of}
use Rattle.executor_model.specs.{World.run_of, World.task, Queues.Queues, Queues.all_in, Doing.act, Good.Good}
use Rattle.executor_model.specs.{OwnQueues.filling_of, Sound.pend, Sound.times, Weights.weigh, Weights.weigh_all}
use Rattle.executor_model.proofs.Steps.Lift.{first-true, good-start, none_refused, split, unsettled, weigh_all-idle}
use Rattle.executor_model.proofs.OwnQueues.OwnRooms.{Roomy, roomy-ends, roomy-moves}
use Rattle.executor_model.proofs.Steps.TraceGrows.{Allows, AllowsCall, grows-act, grows-begun, grows-react}
use Rattle.executor_model.proofs.OwnQueues.Using.{emptying-uses, emptying_of}
use Rattle.executor_model.proofs.OwnQueues.UsingSteps.{AllUsed, used-ends, used-moves, used-start}
use Rattle.executor_model.proofs.OwnQueues.UsingWorlds.{count-set, is_over_stage, is_past}
use Rattle.executor_model.proofs.Steps.Ways.Way.{acted, reacted, called}
use Rattle.executor_model.proofs.{Steps.Lists.weigh_all-below, Steps.Lists.weigh_all-push, OwnQueues.OwnCounts.counts-begun}
use Rattle.executor_model.proofs.{OwnQueues.RunsAside.Hull, Steps.Ways.Way, Steps.Ways.along, OwnQueues.UsingRuns.is_even}
use Rattle.executor_laws.proofs.Placement.Bound.{Tied, bound-drop, bound-same, is_bond, ordinary-bond, tied-grows, tied-one}
use Rattle.executor_laws.proofs.Placement.BoundSteps.{BoundIn, bound-even, bound-put, bound-take_up, keeps, safe-on, same-even}
use Rattle.executor_laws.proofs.Placement.Bonds.{Bond, bond, bond-none}
use Rattle.executor_laws.proofs.Placement.Evens.{even-act, even-react}
use Rattle.executor_laws.proofs.Placement.Frames.{Frames, frames-ends, frames-moves, frames-start}
use Rattle.executor_laws.proofs.Placement.Leavings.{dropping_of, off_of, drops_run}
use Rattle.executor_laws.proofs.Placement.RunningSteps.{free, ran-way, runs-begun}
use Rattle.executor_laws.proofs.Placement.SafeActs.{IsTame, safe-pending, safe-ready}
use Rattle.executor_laws.proofs.{Placement.Bound.tied-same, Placement.BoundSteps.scheduled, Placement.Running.RanIn}
use Rattle.executor_laws.proofs.{Placement.RunningCalls.ran-end, Placement.Opens.le-or, Placement.Safe.KeepsSafe}
use Rattle.executor_model.specs.ActsOfRuns as runs

-- a run that is put back is that, and the others are as they were
run-set : (rs : List Run) (q : ℕ) (y : Run) (r : ℕ) →
    (get_or (set rs q y) r no_run ≡ get_or rs r no_run) ⊎ ((r ≡ q) × (get_or (set rs q y) r no_run ≡ y))
run-set [] q y r = inl refl
run-set (x ∷ rs) zero y zero = inr (refl, refl)
run-set (x ∷ rs) zero y (suc r) = inl refl
run-set (x ∷ rs) (suc q) y zero = inl refl
run-set (x ∷ rs) (suc q) y (suc r) = ⊎_elim
    (λ (z : get_or (set rs q y) r no_run ≡ get_or rs r no_run). inl z)
    (λ (z : (r ≡ q) × (get_or (set rs q y) r no_run ≡ y)). inr (ap (λ (n : ℕ). suc n) z.0, z.1))
    (run-set rs q y r)

other-run : (rs : List Run) (n : ℕ) → n < length rs → get_or (rs ++ new_run ∷ []) n no_run ≡ get_or rs n no_run
other-run [] n k = absurd (omega (arith, k))
other-run (y ∷ rs) zero k = refl
other-run (y ∷ rs) (suc n) k = other-run rs n (omega (arith, k))

other-own : (g : ℕ) (qs : List (List ℕ)) (n : ℕ) → times g (get_or (qs ++ [] ∷ []) n []) ≤ times g (get_or qs n [])
other-own g [] zero = omega arith
other-own g [] (suc n) = omega arith
other-own g (q ∷ qs) zero = omega arith
other-own g (q ∷ qs) (suc n) = other-own g qs n

or-true : (b : Bool) (t : Stage) → t ≡ Ended → (b || is_over_stage t) ≡ true
or-true true t z = refl
or-true false t z = ap is_over_stage z

-- a call begins: the tasks and the queue stay
record Idles (w : World) (d : Done) : Type 0 where
  pub tasks : d.world.tasks ≡ w.tasks
  pub queue : d.world.queues ≡ w.queues
  pub appends : (g : ℕ) → weigh (appends_of g) d.next ≡ 0
  pub polls : (g : ℕ) → weigh (polls_of g) d.next ≡ 0
  pub ending : (g : ℕ) → weigh (ending_of g) d.next ≡ 0

idles : (w v : World) (next : List Op) → v.tasks ≡ w.tasks → v.queues ≡ w.queues →
    ((g : ℕ) → weigh (appends_of g) next ≡ 0) → ((g : ℕ) → weigh (polls_of g) next ≡ 0) →
    ((g : ℕ) → weigh (ending_of g) next ≡ 0) → Idles w (done v next)
idles w v next a b x y z = record { tasks = a; queue = b; appends = x; polls = y; ending = z }

idles-with : (w v : World) (x : Option ℕ) (d : ℕ → Done) → v.tasks ≡ w.tasks → v.queues ≡ w.queues →
    ((f : ℕ) → Idles w (d f)) → Idles w (with_future v x d)
idles-with w v None d a b k = idles w v [] a b (λ g. refl) (λ g. refl) (λ g. refl)
idles-with w v (Some f) d a b k = k f

idles-poll : (w v : World) (t : Stage) (x : RunPoll) → v.tasks ≡ w.tasks → v.queues ≡ w.queues →
    Idles w (done v (poll_run t x))
idles-poll w v New x a b = idles w v _ a b (λ g. refl) (λ g. refl) (λ g. refl)
idles-poll w v Listed x a b = idles w v _ a b (λ g. refl) (λ g. refl) (λ g. refl)
idles-poll w v Ended x a b = idles w v _ a b (λ g. refl) (λ g. refl) (λ g. refl)

idles-drop : (w v : World) (t : Stage) (q : ℕ) → v.tasks ≡ w.tasks → v.queues ≡ w.queues → Idles w (done v (drop_run t q))
idles-drop w v New q a b = idles w v _ a b (λ g. refl) (λ g. refl) (λ g. refl)
idles-drop w v Listed q a b = idles w v _ a b (λ g. refl) (λ g. refl) (λ g. refl)
idles-drop w v Ended q a b = idles w v _ a b (λ g. refl) (λ g. refl) (λ g. refl)

idles-begun : (p : ℕ) (w : World) (o : Option Waker) (c : Call) → Idles w (begun p (log w (Event.CallBegun p c)) o c)
idles-begun p w o (Call.Wake n) = idles-with w _ (kept w n) _ refl refl
    (λ f. idles w _ _ refl refl (λ g. refl) (λ g. refl) (λ g. refl))
idles-begun p w o (Call.WakeByRef n) = idles-with w _ (kept w n) _ refl refl
    (λ f. idles w _ _ refl refl (λ g. refl) (λ g. refl) (λ g. refl))
idles-begun p w o (Call.Copy n) = idles-with w _ (kept w n) _ refl refl
    (λ f. idles w _ _ refl refl (λ g. refl) (λ g. refl) (λ g. refl))
idles-begun p w o (Call.DropWaker n) = idles-with w _ (kept w n) _ refl refl
    (λ f. idles w _ _ refl refl (λ g. refl) (λ g. refl) (λ g. refl))
idles-begun p w o Call.Keep = idles-with w _ (future_of o) _ refl refl
    (λ f. idles w _ _ refl refl (λ g. refl) (λ g. refl) (λ g. refl))
idles-begun p w o Call.WakeSelf = idles-with w _ (future_of o) _ refl refl
    (λ f. idles w _ _ refl refl (λ g. refl) (λ g. refl) (λ g. refl))
idles-begun p w o (Call.PollRun q b) = idles-poll w _ _ _ refl refl
idles-begun p w o (Call.DropRun q) = idles-drop w _ _ q refl refl
idles-begun p w o _ = idles w _ _ refl refl (λ g. refl) (λ g. refl) (λ g. refl)

keeps-idle : (w : World) (d : Done) → Idles w d → KeepsSafe w [] d
keeps-idle w d i g r n b h = record {
  none = omega (arith, i.appends g, h.none);
  queued = ap (λ (qs : Queues). times g (all_in qs)) i.queue ∙ h.queued;
  resting = omega (arith, i.polls g, i.ending g, h.resting);
  marked = subst
      (λ (x : State). x.closed ≡ false → x.completed ≡ false → (x.scheduled ≡ true) × (x.running ≡ false))
      (ap (λ (ts : List State). get_or ts g blank) (sym i.tasks)) h.marked;
}

-- the end of user code
keeps-react : (p : ℕ) (o : Op) (u : UserEnd) (w : World) → accepts o u ≡ true → KeepsSafe w (o ∷ []) (react p o u w)
keeps-react p (Op.User (UserOp.Poll f)) (UserEnd.Polled Answer.Pending) w a = safe-pending p w f
keeps-react p (Op.User (UserOp.Poll f)) (UserEnd.Polled Answer.Ready) w a = safe-ready p w f
keeps-react p (Op.User (UserOp.Drop f)) UserEnd.Done w a = λ g r n b h. h
keeps-react p (Op.User (UserOp.DropOutput f)) UserEnd.Done w a = λ g r n b h. h
keeps-react p (Op.User (UserOp.CallOutside x)) UserEnd.Done w a = λ g r n b h. h
keeps-react p (Op.User (UserOp.PollOwn x)) (UserEnd.Polled Answer.Pending) w a = λ g r n b h. h
keeps-react p (Op.User (UserOp.PollOwn x)) (UserEnd.Polled Answer.Ready) w a = λ g r n b h. h
keeps-react p (Op.User (UserOp.DropOwn q)) UserEnd.Done w a = λ g r n b h. h
keeps-react p _ _ w a = absurd (cc)

-- no poll begins by it, no section of the list's lock is done, nothing comes into an own queue or goes from there to be
-- scheduled
abbrev is_plain : Op → Bool
is_plain (Op.Move Move.TakeUp f) = false
is_plain (Op.List (ListOp.Write x)) = false
is_plain (Op.Steal (StealOp.Put x more f)) = false
is_plain (Op.Run (RunOp.Reschedule q a)) = false
is_plain _ = true

tame : (w : World) (o : Op) → is_plain o ≡ true → IsTame w o
tame w (Op.Move Move.TakeUp f) e = absurd (cc)
tame w (Op.Steal (StealOp.Put x more f)) e = absurd (cc)
tame w (Op.Steal (StealOp.Length x)) e = refl
tame w (Op.Steal (StealOp.OwnLength x n)) e = refl
tame w (Op.Steal (StealOp.Take x more)) e = refl
tame w (Op.Run (RunOp.Reschedule q a)) e = absurd (cc)
tame w (Op.Run RunOp.MakeRoom) e = refl
tame w (Op.Run RunOp.ReturnRoom) e = refl
tame w (Op.Run (RunOp.TakeTurn x)) e = refl
tame w (Op.Run (RunOp.SearchCommon x look)) e = refl
tame w (Op.Run (RunOp.LookOwn x at left)) e = refl
tame w (Op.Run (RunOp.WakeOwn x)) e = refl
tame w _ e = tt

allowed : (p : ℕ) (o : Op) → is_plain o ≡ true → Allows is_bond ordinary-bond p o
allowed p (Op.Move Move.TakeUp f) e = absurd (cc)
allowed p (Op.Steal (StealOp.Put x more f)) e = absurd (cc)
allowed p (Op.End a held) e = refl
allowed p _ e = tt

even-plain : (o : Op) → is_plain o ≡ true → is_even o ≡ true
even-plain (Op.List (ListOp.Write x)) e = absurd (cc)
even-plain (Op.Steal (StealOp.Put x more f)) e = absurd (cc)
even-plain _ e = refl

module _ (s : Machine) (p : ℕ) (rest : List Op) (f : ℕ) (good : Good s) (l : p < length s.parties) (used : AllUsed s)
    (roomy : Roomy s) (ran : (r : ℕ) → RanIn s r) (h : BoundIn s f) where
  bound-plain : (t : Hint) (o : Op) → is_plain o ≡ true → stack s p ≡ rest ++ reverse (o ∷ []) →
      BoundIn (unsettled s p rest (act p t o s.world)) f
  bound-plain t o z e =
      bound-even s p (o ∷ []) rest (act p t o s.world) f good l e (even-act p t o s.world (even-plain o z))
      (tied-grows f s.world (act p t o s.world).world (grows-act is_bond ordinary-bond p t o s.world (allowed p o z)))
      (keeps s p rest f good l used roomy ran h t o e (tame s.world o z)) h

  -- the sections of the list's lock

  abbrev wrote : Section → Op
  wrote x = Op.List (ListOp.Write x)

  no-own : (r : ℕ) → length s.world.runs ≤ r → own_of s.world r ≡ []
  no-own r k = ⊎_elim (λ (y : own_of s.world r ≡ []). y)
      (λ (y : 1 ≤ weigh_all (emptying_of r) s.parties). absurd (omega (
        arith,
        y,
        weigh_all-below (emptying_of r) (running_of r) (emptying-uses r) s.parties,
        (used r).unborn k,
      )))
      ((used r).emptied (ap is_past (get_or_past s.world.runs r no_run k)))

  bound-make : (b : Bool) → stack s p ≡ rest ++ reverse (wrote Section.MakeRun ∷ []) →
      KeepsSafe s.world (wrote Section.MakeRun ∷ []) (runs.make_run_by b s.world) →
      BoundIn (unsettled s p rest (runs.make_run_by b s.world)) f
  bound-make true e k =
      bound-even s p (wrote Section.MakeRun ∷ []) rest (runs.make_run_by true s.world) f good l e
      (same-even s.world s.world refl refl) (tied-same f s.world.trace s.world.trace refl) k h
  bound-make false e k =
      let d = runs.make_run_by false s.world in
      bound-same s.world d.world f (pend f s.parties) (pend f (set s.parties p (rest ++ reverse d.next)))
      (weigh_all (appends_of f) s.parties) (weigh_all (appends_of f) (set s.parties p (rest ++ reverse d.next)))
      (tied-same f s.world.trace s.world.trace refl) (λ r. other-own f s.world.own r)
      (λ r u y. ⊎_elim
      (λ (z : length s.world.runs ≤ r). absurd (omega (arith, u, ap (times f) (no-own r z))))
      (λ (z : suc r ≤ length s.world.runs). ap is_past (other-run s.world.runs r (omega (arith, z))) ∙ y)
      (le-or (length s.world.runs) r))
      (omega (arith, length-append s.world.runs (new_run ∷ [])))
      (λ r u y. ap (λ (x : Run). x.stage) (other-run s.world.runs r u) ∙ y)
      (λ u y. inl (safe-on s p (wrote Section.MakeRun ∷ []) rest d f good l e k y)) h

  bound-runs : (x : Section) (q : ℕ) (y : Run) (d : Done) → stack s p ≡ rest ++ reverse (wrote x ∷ []) →
      d.world.trace ≡ s.world.trace → d.world.own ≡ s.world.own → d.world.runs ≡ set s.world.runs q y →
      (is_past (run_of s.world q) ≡ true → is_past y ≡ true) →
      ((run_of s.world q).stage ≡ Ended → y.stage ≡ Ended) → KeepsSafe s.world (wrote x ∷ []) d →
      BoundIn (unsettled s p rest d) f
  bound-runs x q y d e t o c a b k =
      let now : (r : ℕ) → run_of d.world r ≡ get_or (set s.world.runs q y) r no_run =
      λ r. ap (λ (rs : List Run). get_or rs r no_run) c in
      bound-same s.world d.world f (pend f s.parties) (pend f (set s.parties p (rest ++ reverse d.next)))
      (weigh_all (appends_of f) s.parties) (weigh_all (appends_of f) (set s.parties p (rest ++ reverse d.next)))
      (tied-same f s.world.trace d.world.trace t) (λ r. omega (arith, ap (λ (qs : List (List ℕ)). times f (get_or qs r [])) o))
      (λ r u z. ap is_past (now r) ∙ ⊎_elim
      (λ (v : get_or (set s.world.runs q y) r no_run ≡ run_of s.world r). ap is_past v ∙ z)
      (λ (v : (r ≡ q) × (get_or (set s.world.runs q y) r no_run ≡ y)).
      ap is_past v.1 ∙ a (ap (λ (n : ℕ). is_past (run_of s.world n)) (sym v.0) ∙ z))
      (run-set s.world.runs q y r))
      (omega (arith, ap (λ (rs : List Run). length rs) c, count-set s.world.runs q y))
      (λ r u z. ap (λ (n : Run). n.stage) (now r) ∙ ⊎_elim
      (λ (v : get_or (set s.world.runs q y) r no_run ≡ run_of s.world r). ap (λ (n : Run). n.stage) v ∙ z)
      (λ (v : (r ≡ q) × (get_or (set s.world.runs q y) r no_run ≡ y)).
      ap (λ (n : Run). n.stage) v.1 ∙ b (ap (λ (n : ℕ). (run_of s.world n).stage) (sym v.0) ∙ z))
      (run-set s.world.runs q y r))
      (λ u z. inl (safe-on s p (wrote x ∷ []) rest d f good l e k z)) h

  abbrev registers : Stage → RunPoll → Done
  registers t x = done (runs.registered t s.world x.run) (Op.List ListOp.UnlockWrite ∷ Op.User (UserOp.PollOwn x) ∷ [])

  bound-register : (t : Stage) (x : RunPoll) → (run_of s.world x.run).stage ≡ t →
      stack s p ≡ rest ++ reverse (wrote (Section.Register x) ∷ []) →
      KeepsSafe s.world (wrote (Section.Register x) ∷ []) (registers t x) → BoundIn (unsettled s p rest (registers t x)) f
  bound-register New x z e k =
      bound-runs (Section.Register x) x.run (record (run_of s.world x.run) { stage = Listed }) (registers New x) e refl
      refl refl
      (λ y. ap (λ (t : Stage). (run_of s.world x.run).dropped || is_over_stage t) (sym z) ∙ y)
      (λ y. let no : New ≡ Ended = sym z ∙ y in absurd (cc)) k
  bound-register Listed x z e k =
      bound-even s p (wrote (Section.Register x) ∷ []) rest (registers Listed x) f good l e
      (same-even s.world s.world refl refl) (tied-same f s.world.trace s.world.trace refl) k h
  bound-register Ended x z e k =
      bound-even s p (wrote (Section.Register x) ∷ []) rest (registers Ended x) f good l e
      (same-even s.world s.world refl refl) (tied-same f s.world.trace s.world.trace refl) k h

  bound-put_by : (b : Bool) (x : Steal) (more g : ℕ) → b ≡ true →
      stack s p ≡ rest ++ reverse (Op.Steal (StealOp.Put x more g) ∷ []) →
      BoundIn (unsettled s p rest (runs.steal_put_by b p s.world x more g)) f
  bound-put_by true x more g z e = bound-put s p rest f good l used roomy ran h x more g e
  bound-put_by false x more g z e = absurd (cc)

  taken-safe : (g : ℕ) (c : Bool) (t : Hint) → (task s.world g).closed ≡ c →
      stack s p ≡ rest ++ reverse (Op.Move Move.TakeUp g ∷ []) → c ≡ true →
      KeepsSafe s.world (Op.Move Move.TakeUp g ∷ []) (act p t (Op.Move Move.TakeUp g) s.world)
  taken-safe g c t z e y = keeps s p rest f good l used roomy ran h t (Op.Move Move.TakeUp g) e (z ∙ y)

  bound-act : (b : Bool) (t : Hint) (o : Op) → is_plain o ≡ b → stack s p ≡ rest ++ reverse (o ∷ []) →
      BoundIn (unsettled s p rest (act p t o s.world)) f
  bound-act true t o z e = bound-plain t o z e
  bound-act false t (Op.Move Move.TakeUp g) z e =
      bound-take_up s p rest f good l used roomy ran h g (task s.world g).closed refl e
      (taken-safe g (task s.world g).closed t refl e)
  bound-act false t (Op.List (ListOp.Write Section.MakeRun)) z e =
      bound-make t.refused e (keeps s p rest f good l used roomy ran h t (wrote Section.MakeRun) e tt)
  bound-act false t (Op.List (ListOp.Write (Section.Register x))) z e =
      bound-register (run_of s.world x.run).stage x refl e
      (keeps s p rest f good l used roomy ran h t (wrote (Section.Register x)) e tt)
  bound-act false t (Op.List (ListOp.Write (Section.Unregister q a))) z e =
      bound-runs (Section.Unregister q a) q (record (run_of s.world q) { stage = Ended })
      (act p t (wrote (Section.Unregister q a)) s.world) e refl refl refl
      (λ y. or-true (run_of s.world q).dropped Ended refl) (λ y. refl)
      (keeps s p rest f good l used roomy ran h t (wrote (Section.Unregister q a)) e tt)
  bound-act false t (Op.Steal (StealOp.Put x more g)) z e =
      bound-put_by (ltb 0 (runs.free_places s.world x.poll.run)) x more g (free s p x more g rest l e roomy) e
  bound-act false t (Op.Run (RunOp.Reschedule q a)) z e =
      scheduled s p rest f good l used roomy ran h (own_of s.world q) q a refl e
      (even-act p t (Op.Run (RunOp.Reschedule q a)) s.world refl)
  bound-act false t _ z e = absurd (cc)

  bound-drops : (q : ℕ) (o : Option Waker) → stack s p ≡ rest ++ reverse [] → is_there (run_of s.world q) ≡ true →
      BoundIn (unsettled s p rest (begun p (log s.world (Event.CallBegun p (Call.DropRun q))) o (Call.DropRun q))) f
  bound-drops q o e there =
      let c = Call.DropRun q in
      let d = begun p (log s.world (Event.CallBegun p c)) o c in
      let y : Run = record (run_of s.world q) { dropped = true } in
      bound-drop s.world d.world f (pend f s.parties) (pend f (set s.parties p (rest ++ reverse d.next)))
      (weigh_all (appends_of f) s.parties) (weigh_all (appends_of f) (set s.parties p (rest ++ reverse d.next))) p q
      (s.world.trace ++ Event.CallBegun p c ∷ [])
      (tied-one f s.world.trace s.world.trace (Event.CallBegun p c) refl (tied-same f s.world.trace s.world.trace refl)) refl (λ r. refl)
      (λ r z. ⊎_elim
      (λ (v : get_or (set s.world.runs q y) r no_run ≡ run_of s.world r). ap is_past v ∙ z)
      (λ (v : (r ≡ q) × (get_or (set s.world.runs q y) r no_run ≡ y)). ap is_past v.1)
      (run-set s.world.runs q y r))
      (ap is_past (get_or-set_same s.world.runs q y no_run known)) (count-set s.world.runs q y)
      (λ r. ⊎_elim
      (λ (v : get_or (set s.world.runs q y) r no_run ≡ run_of s.world r). ap (λ (n : Run). n.stage) v)
      (λ (v : (r ≡ q) × (get_or (set s.world.runs q y) r no_run ≡ y)).
      ap (λ (n : Run). n.stage) v.1 ∙ ap (λ (n : ℕ). (run_of s.world n).stage) (sym v.0))
      (run-set s.world.runs q y r))
      (safe-on s p [] rest d f good l e (keeps-idle s.world d (idles-begun p s.world o c))) h
    where
      known : q < length s.world.runs
      known = ⊎_elim
          (λ (y : length s.world.runs ≤ q). let no : false ≡ true =
          sym (ap is_there (get_or_past s.world.runs q no_run y)) ∙ there in absurd (cc))
          (λ (y : suc q ≤ length s.world.runs). omega (arith, y)) (le-or (length s.world.runs) q)

  bound-call : (c : Call) (o : Option Waker) → drops_run c ≡ false → stack s p ≡ rest ++ reverse [] →
      BoundIn (unsettled s p rest (begun p (log s.world (Event.CallBegun p c)) o c)) f
  bound-call c o z e =
      let v = log s.world (Event.CallBegun p c) in
      let d = begun p v o c in
      let g = tied-grows f v d.world (grows-begun is_bond ordinary-bond p v o c (permits c z)) in
      let first : Tied f s.world.trace v.trace =
      tied-one f s.world.trace s.world.trace (Event.CallBegun p c) refl (tied-same f s.world.trace s.world.trace refl) in
      bound-even s p [] rest d f good l e
      (same-even s.world d.world (sym (ap (λ (x : Hull). x.own) (counts-begun 0 p s.world o c).hull))
      (runs-begun p v o c z))
      (record { bond = g.bond ∙ first.bond; drops = λ r. g.drops r ∙ first.drops r })
      (keeps-idle s.world d (idles-begun p s.world o c)) h
    where
      permits : (x : Call) → drops_run x ≡ false → AllowsCall is_bond ordinary-bond p x
      permits (Call.PollRun q b) y = refl
      permits (Call.DropRun q) y = absurd (cc)
      permits _ y = tt

  pub bound-way : (old : List Op) (d : Done) → stack s p ≡ rest ++ reverse old → Way s p old rest d →
      BoundIn (unsettled s p rest d) f
  bound-way old d e (acted t o q z) =
      rw z (bound-act (is_plain o) t o refl (subst (λ (os : List Op). stack s p ≡ rest ++ reverse os) q e))
  bound-way old d e (reacted o u a q z) =
      let k : stack s p ≡ rest ++ reverse (o ∷ []) = subst (λ (os : List Op). stack s p ≡ rest ++ reverse os) q e in
      rw z (bound-even s p (o ∷ []) rest (react p o u s.world) f good l k (even-react p o u s.world a)
      (tied-grows f s.world (react p o u s.world).world (grows-react is_bond ordinary-bond p o u s.world a))
      (keeps-react p o u s.world a) h)
  bound-way old d e (called c q r n z) =
      let k : stack s p ≡ rest ++ reverse [] = subst (λ (os : List Op). stack s p ≡ rest ++ reverse os) q e in
      let x : _ = none_refused s.world s.parties (top (stack s p)) c n in
      rw z (by c x.1 k)
    where
      o : Option Waker
      o = mine (top (stack s p))

      by : (c : Call) → has_all s.world s.parties (top (stack s p)) c ≡ true → stack s p ≡ rest ++ reverse [] →
          BoundIn (unsettled s p rest (begun p (log s.world (Event.CallBegun p c)) o c)) f
      by (Call.DropRun m) a k = bound-drops m o k (first-true _ _ a)
      by x a k = bound-call x o refl k

-- all of it, in each machine to which steps lead

pub record Bonded (s : Machine) : Type 0 where
  pub used : AllUsed s
  pub roomy : Roomy s
  pub frames : Frames s
  pub ran : (r : ℕ) → RanIn s r
  pub bound : (f : ℕ) → BoundIn s f

bonded-moves : (s : Machine) (p : ℕ) (old rest : List Op) (d : Done) → Good s → p < length s.parties →
    stack s p ≡ rest ++ reverse old → Way s p old rest d → Bonded s → Bonded (unsettled s p rest d)
bonded-moves s p old rest d good l e way h = record {
  used = used-moves s p old rest d good l e way h.used;
  roomy = roomy-moves s p old rest d l e way (λ r. (h.used r).once) h.roomy;
  frames = frames-moves s p old rest d good l e way h.frames;
  ran = λ r. ran-way s p rest r l h.used h.roomy h.frames (h.ran r) old d e way;
  bound = λ f. bound-way s p rest f good l h.used h.roomy h.ran (h.bound f) old d e way;
}

-- the end of a call
bound-end : (s : Machine) (p : ℕ) (a : Reply) (held : Hold) (below : List Op) → p < length s.parties →
    stack s p ≡ below ++ reverse (Op.End a held ∷ []) → (f : ℕ) → BoundIn s f →
    BoundIn (unsettled s p below (done (log s.world (Event.CallEnded p a)) [])) f
bound-end s p a held below l e f h =
    let o = Op.End a held ∷ [] in
    let v = log s.world (Event.CallEnded p a) in
    bound-same s.world v f (pend f s.parties) (pend f (set s.parties p (below ++ reverse [])))
    (weigh_all (appends_of f) s.parties) (weigh_all (appends_of f) (set s.parties p (below ++ reverse [])))
    (tied-one f s.world.trace s.world.trace (Event.CallEnded p a) refl
    (tied-same f s.world.trace s.world.trace refl)) (λ r. omega arith) (λ r u y. y) (omega arith) (λ r u y. y)
    (λ u y. inl (record {
      none = omega (
        arith,
        y.none,
        split (appends_of f) s.parties p o below l e,
        weigh_all-push (appends_of f) s.parties p below [] l,
      );
      queued = y.queued;
      resting = omega (
        arith,
        y.resting,
        split (polls_of f) s.parties p o below l e,
        weigh_all-push (polls_of f) s.parties p below [] l,
        split (ending_of f) s.parties p o below l e,
        weigh_all-push (ending_of f) s.parties p below [] l,
      );
      marked = y.marked;
    })) h

bonded-ends : (s : Machine) (p : ℕ) (a : Reply) (held : Hold) (below : List Op) → p < length s.parties →
    stack s p ≡ below ++ reverse (Op.End a held ∷ []) → Bonded s →
    Bonded (unsettled s p below (done (log s.world (Event.CallEnded p a)) []))
bonded-ends s p a held below l e h = record {
  used = used-ends s p a held below l e h.used;
  roomy = roomy-ends s p a held below l e h.roomy;
  frames = frames-ends s p a held below l e h.frames;
  ran = λ r. ran-end s p a held below l e h.frames r (h.ran r);
  bound = λ f. bound-end s p a held below l e f (h.bound f);
}

bonded-start : (limit : ℕ) (kind : Kind) (n : ℕ) → Bonded (start limit kind n)
bonded-start limit kind n = record {
  used = used-start limit kind n;
  roomy = λ r. omega (arith, weigh_all-idle (filling_of r) n);
  frames = frames-start limit kind n;
  ran = λ r. record {
    past = λ z. absurd (let no : false ≡ true = z in cc);
    unborn = λ z. (refl, refl);
    off = λ z. absurd (omega (arith, z, weigh_all-idle (off_of r) n));
    dropping = λ z. absurd (omega (arith, z, weigh_all-idle (dropping_of r) n));
    ended = λ z. inr (inr (λ place p f g. absurd (let no : ◌≡◌ {A = Option Event} None (Some (Event.Kept p f r)) = g in cc)));
    answered = λ p k g y. absurd (let no : ◌≡◌ {A = Option Event} None (Some (Event.RunPolled p r)) = g in cc);
  };
  bound = λ f. (let loose : (bond f []).kept ≡ false = ap (λ (b : Bond). b.kept) (bond-none f) in record {
    own = λ r z k. absurd (omega (arith, z));
    lost = λ r z k. absurd (omega (arith, z));
    known = λ k. absurd (let no : true ≡ false = sym k ∙ loose in cc);
    undropped = λ k. absurd (let no : true ≡ false = sym k ∙ loose in cc);
    away = λ k. absurd (let no : true ≡ false = sym k ∙ loose in cc);
  });
}

pub bonded : (limit : ℕ) (kind : Kind) (n : ℕ) (ts : List Step) → Bonded (run ts (start limit kind n))
bonded limit kind n ts = along Bonded bonded-moves bonded-ends ts (start limit kind n) (good-start limit kind n) (bonded-start limit kind n)
