-- For runs_take_few_futures.
-- What isn't done by run q leaves how many q has taken.
use Rattle.std.proofs.Common.{◌≡◌, ◌≢◌, ◌∙◌, ℕ, zero, suc, ◌+◌, List, [], ◌∷◌, ◌++◌, get_or, Bool, true, false, eqb, refl, sym}
use Rattle.std.proofs.Common.{ap, arith, get_or-set_other, ⊎_elim}
use Rattle.std.specs.Prelude.{Option, Some, None}
use Rattle.executor_laws.proofs.Types.{Look, First, Second, Move, Call, Reply, Event, ListOp, Op, Polled, RunOp, RunPoll}
use Rattle.executor_laws.proofs.Types.{Section, Sleeping, Source, Common, Own, Steal, StealOp, Then, TickOp, TickOrRun, UserOp}
use Rattle.executor_model.specs.World.{Asleep, Awake, Ended, Left, Listed, New, Run, Stage, Ticker, World, log, new_run, no_run}
use Rattle.executor_model.specs.Doing.{act, list_act, run_act, search_by_who, steal_act, tick_act}
use Rattle.executor_model.specs.{World.put_own, World.put_run, World.run_of, Rows.running_of, Steps.begun, Weights.same}
use Rattle.executor_model.proofs.{Steps.Lift.no_hint, Steps.Lists.same_cases}
use Rattle.executor_laws.proofs.Fewness.FewSides.{TakenSame, placed, put-same, same-runs, side-same}
use Rattle.executor_laws.proofs.{Types.Waker, Types.Task, Types.Outside, Types.Hint, Placement.RunningSteps.runs-begun}
use Rattle.executor_laws.proofs.{Fewness.FewSteps.copied-same, Placement.Leavings.drops_run, Termination.TakingFew.runs-act}
use Rattle.executor_model.specs.ActsOfRuns as runs
use Rattle.executor_model.specs.ActsOfSleepers as of_sleepers

-- run q has taken as many as before
abbrev pub Untaken : ℕ → World → World → Type 0
Untaken q w v = (run_of v q).taken ≡ (run_of w q).taken

pub by-runs : (q : ℕ) (w v : World) → v.runs ≡ w.runs → Untaken q w v
by-runs q w v e = ap (λ (rs : List Run). (get_or rs q no_run).taken) e

put-other : (q r : ℕ) (w : World) (x : Run) → q ≢ r → Untaken q w (put_run w r x)
put-other q r w x n = ap (λ (y : Run). y.taken) (get_or-set_other w.runs r q x no_run n)

pub another : (q r : ℕ) → same q r ≡ 0 → q ≢ r
another q r z e = ⊎_elim
    (λ (x : (same q r ≡ 1) × (eqb q r ≡ true) × (q ≡ r)). absurd (one-none (same q r) x.0 z))
    (λ (x : (same q r ≡ 0) × (eqb q r ≡ false) × (q ≢ r)). x.2 e)
    (same_cases q r)
  where
    one-none : (n : ℕ) → n ≡ 1 → n ≡ 0 → ⊥
    one-none n a b = omega (arith, a, b)

-- what another run finds

un-run_by : (q : ℕ) (b : Bool) (w : World) (x : RunPoll) (f : ℕ) → q ≢ x.run → Untaken q w (runs.run_by b w x f).world
un-run_by q true w x f n = put-other q x.run w (record (run_of w x.run) { taken = 0 }) n
un-run_by q false w x f n = put-other q x.run w (record (run_of w x.run) { taken = (run_of w x.run).taken + 1 }) n

un-counted : (q : ℕ) (b : Bool) (w : World) (x : RunPoll) (f : ℕ) → q ≢ x.run → Untaken q w (runs.counted_by b w x f).world
un-counted q true w x f n = put-other q x.run w (record (run_of w x.run) { counted = 0 }) n
un-counted q false w x f n =
    let v : World = runs.counted_to w x.run ((run_of w x.run).counted + 1) in
    un-run_by q (eqb ((run_of v x.run).taken + 1) 200) v x f n
    ∙ put-other q x.run w (record (run_of w x.run) { counted = (run_of w x.run).counted + 1 }) n

un-found : (q : ℕ) (w : World) (x : RunPoll) (f : ℕ) → q ≢ x.run → Untaken q w (runs.found w x f).world
un-found q w x f n = un-counted q _ w x f n

un-stolen : (q : ℕ) (t : Then) (w : World) (x : RunPoll) → q ≢ x.run → Untaken q w (runs.stolen t w x).world
un-stolen q (Then.Found f) w x n = un-found q w x f n
un-stolen q (Then.StealPlain f) w x n = refl
un-stolen q (Then.Run f) w x n = un-run_by q _ w x f n
un-stolen q (Then.Walk at left) w x n = refl

un-length : (q k : ℕ) (w : World) (s : Steal) → q ≢ s.poll.run → Untaken q w (runs.steal_length_by k w s).world
un-length q zero w s n = un-stolen q s.then w s.poll n
un-length q (suc k) w s n = refl

un-more : (q k : ℕ) (w : World) (s : Steal) → q ≢ s.poll.run → Untaken q w (runs.steal_by k w s).world
un-more q zero w s n = un-stolen q s.then w s.poll n
un-more q (suc k) w s n = refl

un-take : (q : ℕ) (xs : List ℕ) (w : World) (s : Steal) (more : ℕ) → q ≢ s.poll.run →
    Untaken q w (runs.steal_take_by xs w s more).world
un-take q [] w s more n = un-stolen q s.then w s.poll n
un-take q (f ∷ rest) w s more n = by s.from
  where
    by : (a : Source) → Untaken q w (runs.without_first w a rest)
    by (Common mark) = refl
    by (Own r) = refl

un-refused : (q : ℕ) (t : Then) (w : World) (x : RunPoll) (f : ℕ) → q ≢ x.run → Untaken q w (runs.put_refused t w x f).world
un-refused q (Then.Walk at left) w x f n = refl
un-refused q t w x f n = un-stolen q t w x n

un-put : (q : ℕ) (b : Bool) (p : ℕ) (w : World) (s : Steal) (more f : ℕ) → q ≢ s.poll.run →
    Untaken q w (runs.steal_put_by b p w s more f).world
un-put q true p w s more f n = un-more q more (runs.kept_by p w s.poll.run f) s n
un-put q false p w s more f n = un-refused q s.then w s.poll f n

un-steal : (q p : ℕ) (o : StealOp) (w : World) → running_of q (Op.Steal o) ≡ 0 → Untaken q w (steal_act p o w).world
un-steal q p (StealOp.Length s) w z = un-length q _ w s (another q s.poll.run z)
un-steal q p (StealOp.OwnLength s n) w z = un-more q _ w s (another q s.poll.run z)
un-steal q p (StealOp.Take s more) w z = un-take q _ w s more (another q s.poll.run z)
un-steal q p (StealOp.Put s more f) w z = un-put q _ p w s more f (another q s.poll.run z)

un-own : (q : ℕ) (xs : List ℕ) (w : World) (x : RunPoll) → q ≢ x.run → Untaken q w (runs.search_own_by xs w x).world
un-own q [] w x n = refl
un-own q (f ∷ rest) w x n = un-found q (put_own w x.run rest) x f n

un-look : (q : ℕ) (xs : List ℕ) (w : World) (x : RunPoll) (at left : ℕ) → q ≢ x.run →
    Untaken q w (runs.look_own_by xs w x at left).world
un-look q [] w x at left n = refl
un-look q (f ∷ rest) w x at left n = un-found q (put_own w x.run rest) x f n

un-common : (look : Look) (q : ℕ) (xs : List ℕ) (w : World) (x : RunPoll) → Untaken q w (runs.search_common_by xs w x look).world
un-common (First mark) q [] w x = refl
un-common (Second mark) q [] w x = refl
un-common look q (f ∷ rest) w x = refl

-- ticks and runs

un-look-tick : (look : Look) (q : ℕ) (x : Ticker) (w : World) (xs : List ℕ) (s : Sleeping) →
    Untaken q w (of_sleepers.look_tick_by x w look xs s).world
un-look-tick look q x w [] s = refl
un-look-tick look q x w (f ∷ rest) s = refl

un-searches : (q : ℕ) (who : TickOrRun) (p : ℕ) (w : World) (s : Sleeping) → s.who ≡ who → running_of q (Op.Tick (TickOp.Search s)) ≡ 0 →
    Untaken q w (search_by_who who p w s).world
un-searches q (TickOrRun.Tick t) p w s e z = refl
un-searches q (TickOrRun.Run r) p w s e z =
    un-own q _ w (record { run = r; waker = s.waker; poll = s.poll })
    (another q r (sym (ap (λ (y : TickOrRun). running_of q (Op.Tick (TickOp.Search (record s { who = y })))) e) ∙ z))

un-make : (q : ℕ) (b : Bool) (w : World) → Untaken q w (of_sleepers.make_tick_by b w).world
un-make q true w = refl
un-make q false w = refl

un-copy : (q : ℕ) (b : Bool) (w : World) (s : Sleeping) → Untaken q w (of_sleepers.copy_sleeper_by b w s).world
un-copy q true w s = refl
un-copy q false w s = (copied-same w s.waker).taken q

un-anew : (q : ℕ) (b : Bool) (w : World) (s : Sleeping) → Untaken q w (of_sleepers.sleep_anew_by b w s).world
un-anew q true w s = (placed w (of_sleepers.sleep_anew_by true w s).world s.who _ refl).taken q
un-anew q false w s = refl

un-listed : (q : ℕ) (b : Bool) (w : World) (n : ℕ) (s : Sleeping) → Untaken q w (of_sleepers.sleep_listed_by b w n s).world
un-listed q true w n s = refl
un-listed q false w n s = refl

un-again : (q : ℕ) (o : Option ℕ) (w : World) (n : ℕ) (s : Sleeping) → Untaken q w (of_sleepers.sleep_again_by o w n s).world
un-again q None w n s = un-listed q _ w n s
un-again q (Some at) w n s = refl

un-sleep : (q : ℕ) (x : Ticker) (w : World) (s : Sleeping) → Untaken q w (of_sleepers.fall_asleep_by x w s).world
un-sleep q Awake w s = un-anew q _ w s
un-sleep q (Asleep n) w s = un-again q _ w n s
un-sleep q Left w s = refl

pub leave-same : (x : Ticker) (w : World) (who : TickOrRun) → TakenSame w (of_sleepers.leave_sleepers_by x w who).world
leave-same Awake w who = placed w (of_sleepers.leave_sleepers_by Awake w who).world who Left refl
leave-same (Asleep n) w who = placed w (of_sleepers.leave_sleepers_by (Asleep n) w who).world who Left refl
leave-same Left w who = same-runs w w refl

un-tick : (q : ℕ) (p : ℕ) (h : Hint) (o : TickOp) (w : World) → running_of q (Op.Tick o) ≡ 0 → Untaken q w (tick_act p h o w).world
un-tick q p h TickOp.MakeTick w z = un-make q _ w
un-tick q p h (TickOp.Search s) w z = un-searches q s.who p w s refl z
un-tick q p h (TickOp.Look s look) w z = un-look-tick look q _ w _ s
un-tick q p h (TickOp.CopyWaker s) w z = un-copy q _ w s
un-tick q p h (TickOp.FallAsleep s) w z = un-sleep q _ w s
un-tick q p h (TickOp.WakeUp who) w z = (side-same 0 h (Op.Tick (TickOp.WakeUp who)) w refl).taken q
un-tick q p h (TickOp.Leave who) w z = (leave-same _ w who).taken q

-- what runs alone do

un-room : (q : ℕ) (b : Bool) (w : World) → Untaken q w (runs.make_room_by b w).world
un-room q true w = refl
un-room q false w = refl

un-wake : (q p : ℕ) (w : World) (a : Waker) → Untaken q w (runs.call_by_reference p w a).world
un-wake q p w (Task g) =
    by-runs q w (runs.call_by_reference p w (Task g)).world (runs-act p no_hint (Op.Move Move.WakeByReference g) w refl)
un-wake q p w (Outside y) = refl

pub reschedule-same : (xs : List ℕ) (w : World) (r : ℕ) (a : Reply) → TakenSame w (runs.reschedule_by xs w r a).world
reschedule-same [] w r a = same-runs w w refl
reschedule-same (f ∷ rest) w r a = same-runs w _ refl

un-of-run : (q p : ℕ) (h : Hint) (o : RunOp) (w : World) → running_of q (Op.Run o) ≡ 0 → Untaken q w (run_act p h o w).world
un-of-run q p h RunOp.MakeRoom w z = un-room q _ w
un-of-run q p h RunOp.ReturnRoom w z = refl
un-of-run q p h (RunOp.TakeTurn x) w z = refl
un-of-run q p h (RunOp.SearchCommon x look) w z = un-common look q _ w x
un-of-run q p h (RunOp.LookOwn x at left) w z = un-look q _ w x at left (another q x.run z)
un-of-run q p h (RunOp.WakeOwn x) w z = un-wake q p (log w (Event.WakerCalled p (Polled.Run x.run) x.poll x.waker)) x.waker
un-of-run q p h (RunOp.Reschedule r a) w z = (reschedule-same _ w r a).taken q

-- the list of queues

push-taken : (rs : List Run) (q : ℕ) → (get_or (rs ++ new_run ∷ []) q no_run).taken ≡ (get_or rs q no_run).taken
push-taken [] zero = refl
push-taken [] (suc q) = refl
push-taken (x ∷ rs) zero = refl
push-taken (x ∷ rs) (suc q) = push-taken rs q

un-made : (q : ℕ) (b : Bool) (w : World) → Untaken q w (runs.make_run_by b w).world
un-made q true w = refl
un-made q false w = push-taken w.runs q

pub registered-same : (t : Stage) (w : World) (r : ℕ) → TakenSame w (runs.registered t w r)
registered-same New w r = put-same w (runs.registered New w r) r (record (run_of w r) { stage = Listed }) refl refl
registered-same Listed w r = same-runs w w refl
registered-same Ended w r = same-runs w w refl

pub unregistered-same : (w : World) (r : ℕ) → TakenSame w (runs.unregistered w r)
unregistered-same w r = put-same w (runs.unregistered w r) r (record (run_of w r) { stage = Ended }) refl refl

un-list : (q : ℕ) (h : Hint) (o : ListOp) (w : World) → Untaken q w (list_act h o w).world
un-list q h (ListOp.Write Section.MakeRun) w = un-made q _ w
un-list q h (ListOp.Write (Section.Register x)) w = (registered-same _ w x.run).taken q
un-list q h (ListOp.Write (Section.Unregister r a)) w = (unregistered-same w r).taken q
un-list q h (ListOp.LockWrite s) w = refl
un-list q h ListOp.UnlockWrite w = refl
un-list q h (ListOp.LockRead x) w = refl
un-list q h ListOp.UnlockRead w = refl

-- whatever is done that isn't run q's
pub untaken : (q p : ℕ) (h : Hint) (o : Op) (w : World) → running_of q o ≡ 0 → Untaken q w (act p h o w).world
untaken q p h (Op.Tick o) w z = un-tick q p h o w z
untaken q p h (Op.List o) w z = un-list q h o w
untaken q p h (Op.Steal o) w z = un-steal q p o w z
untaken q p h (Op.Run o) w z = un-of-run q p h o w z
untaken q p h (Op.User (UserOp.PollOwn x)) w z = refl
untaken q p h o w z = by-runs q w (act p h o w).world (runs-act p h o w refl)

-- and as a call begins
pub untaken-begun : (q p : ℕ) (w : World) (o : Option Waker) (c : Call) → Untaken q w (begun p (log w (Event.CallBegun p c)) o c).world
untaken-begun q p w o c = by (drops_run c) c refl
  where
    by : (b : Bool) (c : Call) → drops_run c ≡ b → Untaken q w (begun p (log w (Event.CallBegun p c)) o c).world
    by false c e = by-runs q w (begun p (log w (Event.CallBegun p c)) o c).world (runs-begun p (log w (Event.CallBegun p c)) o c e)
    by true (Call.DropRun r) e =
        (put-same w (begun p (log w (Event.CallBegun p (Call.DropRun r))) o (Call.DropRun r)).world r
        (record (run_of w r) { dropped = true }) refl refl).taken q
    by true _ e = absurd (cc)
