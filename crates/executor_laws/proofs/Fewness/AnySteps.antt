-- For runs_take_few_futures.
-- What a party does for a run that it polls, from the beginning of the poll to its end, takes one future up where it counts one
-- more.
use Rattle.std.proofs.Common.{◌≡◌, ◌∙◌, ℕ, ◌+◌, ◌≤◌, List, [], ◌∷◌, Bool, true, false, refl, ap, arith}
use Rattle.std.specs.Prelude.{Option, is_none, reverse}
use Rattle.executor_parts.specs.Sleepers.{waker_of}
use Rattle.executor_laws.proofs.Types.{Hint, UserEnd, Reply, Answer, ListOp, Op, RunOp, Section, Sleeping, StealOp, TickOp}
use Rattle.executor_model.specs.ActsOfSleepers.{leave_sleepers_by, sleeper_goes, tell_and_return}
use Rattle.executor_model.specs.Weights.{is_run, same, weigh}
use Rattle.executor_model.specs.World.{Asleep, Awake, Done, Left, Ticker, World, own_of, place_of, run_of}
use Rattle.executor_model.specs.{ActsOfRuns.reschedule_by, Doing.act, Rows.running_of, Steps.accepts, Steps.react, Steps.waits}
use Rattle.executor_model.proofs.{Steps.SleepersNext.goes-unseen, Quiet.Calls.is_end, Steps.Lists.weigh-append}
use Rattle.executor_laws.proofs.RunReach.RunSteps.{aside-act, aside-react, side_of}
use Rattle.executor_laws.proofs.Fewness.FewSides.{TakenSame, react-same, same-runs, side-same, ups, ups-act, ups-react}
use Rattle.executor_laws.proofs.Fewness.FewSteps.{Doing, Goes, Ready, budget, few-doing, left_of}
use Rattle.executor_laws.proofs.Fewness.FewSteps.Goes.{on as on_with, over as over_with}
use Rattle.executor_laws.proofs.Fewness.Untaken.{Untaken, leave-same, registered-same, reschedule-same, unregistered-same}
use Rattle.executor_laws.proofs.{Types.TickOrRun, Types.UserOp, Walks.Finding.itself}

-- things to do beside what the run itself does

abbrev pub beside_of : Op → ℕ
beside_of (Op.List ListOp.UnlockWrite) = 0
beside_of (Op.User (UserOp.DropOwn r)) = 0
beside_of (Op.Tick (TickOp.Leave who)) = 0
beside_of o = side_of o

beside-less : (o : Op) → beside_of o ≤ side_of o
beside-less (Op.List ListOp.UnlockWrite) = omega arith
beside-less (Op.User (UserOp.DropOwn r)) = omega arith
beside-less (Op.Tick (TickOp.Leave who)) = omega arith
beside-less _ = omega arith

light-beside : (os : List Op) → weigh side_of os ≡ 0 → weigh beside_of os ≡ 0
light-beside [] z = refl
light-beside (o ∷ os) z = omega (arith, z, beside-less o, light-beside os (omega (arith, z)))

pub beside-no-end : (o : Op) → beside_of o ≡ 0 → is_end o ≡ false
beside-no-end (Op.End a held) z = absurd (cc)
beside-no-end _ z = refl

-- they lead to no future that is to be taken up, and leave how many runs have taken
pub record Beside (w : World) (d : Done) : Type 0 where
  pub light : weigh beside_of d.next ≡ 0
  pub ups : weigh ups d.next ≡ 0
  pub same : TakenSame w d.world

returns-light : (b : Bool) → (weigh side_of (tell_and_return b) ≡ 0) × (weigh ups (tell_and_return b) ≡ 0)
returns-light true = (refl, refl)
returns-light false = (refl, refl)

beside-leave : (x : Ticker) (w : World) (who : TickOrRun) → Beside w (leave_sleepers_by x w who)
beside-leave (Asleep n) w who =
    let goes : Option Sleeping = waker_of n w.sleepers.wakers in
    let r : _ = returns-light (is_none goes) in
    record {
      light = light-beside (leave_sleepers_by (Asleep n) w who).next (omega (
        arith,
        weigh-append side_of (sleeper_goes goes) (tell_and_return (is_none goes)),
        goes-unseen side_of (λ g. refl) goes,
        r.0,
      ));
      ups = omega (
        arith,
        weigh-append ups (sleeper_goes goes) (tell_and_return (is_none goes)),
        goes-unseen ups (λ g. refl) goes,
        r.1,
      );
      same = leave-same (Asleep n) w who;
    }
beside-leave Awake w who = record { light = refl; ups = refl; same = leave-same Awake w who }
beside-leave Left w who = record { light = refl; ups = refl; same = leave-same Left w who }

beside-side : (p : ℕ) (h : Hint) (o : Op) (w : World) → waits o ≡ false → side_of o ≡ 0 → Beside w (act p h o w)
beside-side p h o w n z = record {
  light = light-beside (act p h o w).next (aside-act p h o w n z).light;
  ups = ups-act p h o w n z;
  same = side-same p h o w z;
}

pub beside-act : (p : ℕ) (h : Hint) (o : Op) (w : World) → waits o ≡ false → beside_of o ≡ 0 → Beside w (act p h o w)
beside-act p h (Op.List ListOp.UnlockWrite) w n z = record { light = refl; ups = refl; same = same-runs w _ refl }
beside-act p h (Op.User (UserOp.DropOwn r)) w n z = absurd (cc)
beside-act p h (Op.Tick (TickOp.Leave who)) w n z = beside-leave (place_of w who) w who
beside-act p h o w n z = beside-side p h o w n z

beside-react-side : (p : ℕ) (o : Op) (u : UserEnd) (w : World) → accepts o u ≡ true → side_of o ≡ 0 → Beside w (react p o u w)
beside-react-side p o u w a z = record {
  light = light-beside (react p o u w).next (aside-react p o u w a z).light;
  ups = ups-react p o u w a z;
  same = react-same p o u w a;
}

pub beside-react : (p : ℕ) (o : Op) (u : UserEnd) (w : World) → accepts o u ≡ true → beside_of o ≡ 0 → Beside w (react p o u w)
beside-react p (Op.List ListOp.UnlockWrite) u w a z = absurd (cc)
beside-react p (Op.User (UserOp.DropOwn r)) UserEnd.Done w a z = record { light = refl; ups = refl; same = same-runs w _ refl }
beside-react p (Op.User (UserOp.DropOwn r)) (UserEnd.Polled x) w a z = absurd (cc)
beside-react p (Op.Tick (TickOp.Leave who)) u w a z = absurd (cc)
beside-react p o u w a z = beside-react-side p o u w a z

-- what is done for run q, one thing at a time
abbrev pub Owns : ℕ → Op → Type 0
Owns q (Op.List (ListOp.LockWrite (Section.Register x))) = x.run ≡ q
Owns q (Op.List (ListOp.LockWrite (Section.Unregister r a))) = r ≡ q
Owns q (Op.List (ListOp.Write (Section.Register x))) = x.run ≡ q
Owns q (Op.List (ListOp.Write (Section.Unregister r a))) = r ≡ q
Owns q (Op.User (UserOp.PollOwn x)) = x.run ≡ q
Owns q (Op.Run (RunOp.Reschedule r a)) = r ≡ q
Owns q o = Doing q o

doing-owns : (q : ℕ) (o : Op) → Doing q o → Owns q o
doing-owns q (Op.List (ListOp.LockWrite (Section.Register x))) k = absurd k
doing-owns q (Op.List (ListOp.LockWrite (Section.Unregister r a))) k = absurd k
doing-owns q (Op.List (ListOp.Write (Section.Register x))) k = absurd k
doing-owns q (Op.List (ListOp.Write (Section.Unregister r a))) k = absurd k
doing-owns q (Op.User (UserOp.PollOwn x)) k = absurd k
doing-owns q (Op.Run (RunOp.Reschedule r a)) k = absurd k
doing-owns q _ k = k

is-one : (q r : ℕ) → r ≡ q → same q r ≡ 1
is-one q r e = ap (same q) e ∙ (itself q).0

who-is-one : (q : ℕ) (who : TickOrRun) → who ≡ TickOrRun.Run q → is_run q who ≡ 1
who-is-one q who e = ap (is_run q) e ∙ (itself q).0

-- it uses the run
pub owns-uses : (q : ℕ) (o : Op) → Owns q o → is_end o ≡ false → running_of q o ≡ 1
owns-uses q (Op.List (ListOp.LockWrite (Section.Register x))) k n = is-one q x.run k
owns-uses q (Op.List (ListOp.LockWrite (Section.Unregister r a))) k n = is-one q r k
owns-uses q (Op.List (ListOp.Write (Section.Register x))) k n = is-one q x.run k
owns-uses q (Op.List (ListOp.Write (Section.Unregister r a))) k n = is-one q r k
owns-uses q (Op.List (ListOp.LockRead x)) k n = is-one q x.run k
owns-uses q (Op.User (UserOp.PollOwn x)) k n = is-one q x.run k
owns-uses q (Op.Run (RunOp.Reschedule r a)) k n = is-one q r k
owns-uses q (Op.Run (RunOp.TakeTurn x)) k n = is-one q x.run k
owns-uses q (Op.Run (RunOp.SearchCommon x look)) k n = is-one q x.run k
owns-uses q (Op.Run (RunOp.LookOwn x at left)) k n = is-one q x.run k
owns-uses q (Op.Run (RunOp.WakeOwn x)) k n = is-one q x.run k
owns-uses q (Op.Tick (TickOp.Search s)) k n = who-is-one q s.who k
owns-uses q (Op.Tick (TickOp.CopyWaker s)) k n = who-is-one q s.who k
owns-uses q (Op.Tick (TickOp.FallAsleep s)) k n = who-is-one q s.who k
owns-uses q (Op.Steal (StealOp.Length s)) k n = is-one q s.poll.run k
owns-uses q (Op.Steal (StealOp.OwnLength s m)) k n = is-one q s.poll.run k
owns-uses q (Op.Steal (StealOp.Take s more)) k n = is-one q s.poll.run k
owns-uses q (Op.Steal (StealOp.Put s more f)) k n = is-one q s.poll.run k
owns-uses q (Op.End a held) k n = absurd (cc)
owns-uses q _ k n = absurd k

pub owns-no-up : (q : ℕ) (o : Op) → Owns q o → ups o ≡ 0
owns-no-up q (Op.Move m f) k = absurd k
owns-no-up q _ k = refl

-- the budget of a run that takes nothing meanwhile
pub budget-kept : (q : ℕ) (c : Op) (w v : World) → (is_end c ≡ false → Untaken q w v) → budget q c v ≤ budget q c w
budget-kept q (Op.End a held) w v k = omega arith
budget-kept q (Op.Run (RunOp.WakeOwn x)) w v k = omega arith
budget-kept q _ w v k = let z : left_of q v ≤ left_of q w = omega (arith, k refl) in z

-- it goes on with one thing of the run's, below others, and takes no more than n up; or it has ended
pub data Comes (q n : ℕ) (d : Done) : Type 0 where
  on : (c : Op) (side : List Op) → reverse d.next ≡ c ∷ side → Owns q c → weigh beside_of side ≡ 0 →
      weigh ups side + budget q c d.world ≤ n → Comes q n d
  over : d.next ≡ [] → Comes q n d

comes-few : (q n : ℕ) (w : World) (d : Done) → Goes q n w d → Comes q n d
comes-few q n w d (on_with f) =
    on f.control f.side f.is (doing-owns q f.control f.kind) (light-beside f.side f.light) f.few
comes-few q n w d (over_with e) = over e

comes-reschedule : (q : ℕ) (xs : List ℕ) (w : World) (r : ℕ) (a : Reply) → r ≡ q → Comes q (left_of q w) (reschedule_by xs w r a)
comes-reschedule q [] w r a k = on _ _ refl refl refl (omega arith)
comes-reschedule q (f ∷ rest) w r a k =
    on _ _ refl k refl (omega (arith, (reschedule-same (f ∷ rest) w r a).taken q))

pub owns-act : (q p : ℕ) (h : Hint) (c : Op) (w : World) → waits c ≡ false → Owns q c → (is_end c ≡ false → Ready q w) →
    Comes q (budget q c w) (act p h c w)
owns-act q p h (Op.List (ListOp.LockWrite (Section.Register x))) w n k r = on _ _ refl k refl (omega arith)
owns-act q p h (Op.List (ListOp.LockWrite (Section.Unregister y a))) w n k r = on _ _ refl k refl (omega arith)
owns-act q p h (Op.List (ListOp.Write (Section.Register x))) w n k r =
    on _ _ refl k refl (omega (arith, (registered-same (run_of w x.run).stage w x.run).taken q))
owns-act q p h (Op.List (ListOp.Write (Section.Unregister y a))) w n k r =
    on _ _ refl k refl (omega (arith, (unregistered-same w y).taken q))
owns-act q p h (Op.User (UserOp.PollOwn x)) w n k r = absurd (cc)
owns-act q p h (Op.Run (RunOp.Reschedule y a)) w n k r = comes-reschedule q (own_of w y) w y a k
owns-act q p h (Op.End a held) w n k r = over refl
owns-act q p h c w n k r = comes-few q (budget q c w) w (act p h c w) (few-doing q p h c w k (r refl))

pub owns-react : (q p : ℕ) (c : Op) (u : UserEnd) (w : World) → accepts c u ≡ true → Owns q c → Comes q (budget q c w) (react p c u w)
owns-react q p (Op.User (UserOp.PollOwn x)) (UserEnd.Polled Answer.Pending) w a k =
    on _ _ refl (ap TickOrRun.Run k) refl (omega arith)
owns-react q p (Op.User (UserOp.PollOwn x)) (UserEnd.Polled Answer.Ready) w a k = on _ _ refl k refl (omega arith)
owns-react q p (Op.User (UserOp.PollOwn x)) UserEnd.Done w a k = absurd (cc)
owns-react q p (Op.User (UserOp.Poll f)) u w a k = absurd k
owns-react q p (Op.User (UserOp.BeginDrop f)) u w a k = absurd k
owns-react q p (Op.User (UserOp.Drop f)) u w a k = absurd k
owns-react q p (Op.User (UserOp.BeginDropOutput f)) u w a k = absurd k
owns-react q p (Op.User (UserOp.DropOutput f)) u w a k = absurd k
owns-react q p (Op.User (UserOp.CallOutside x)) u w a k = absurd k
owns-react q p (Op.User (UserOp.DropOwn x)) u w a k = absurd k
owns-react q p _ u w a k = absurd (cc)
