-- For some_standing_is_called.
-- Each thing that is done keeps what holds of each tick and run, and who wakes up or leaves for it is in use.
use Rattle.std.proofs.Common.{◌≡◌, ℕ, ◌≤◌, [], ◌∷◌, true, false, refl, ap, ◌∙◌, arith}
use Rattle.executor_laws.proofs.Types.{Answer, Event, ListOp, Op, RunOp, RunPoll, Section, TickOrRun, SleeperOp, TickOp, UserOp}
use Rattle.executor_model.specs.Doing.{act, list_act, run_act, search, steal_act, tick_act}
use Rattle.executor_model.specs.{Acts.is_copy_refused, Rows.borrowing_of, Steps.accepts, Steps.react, Weights.is_run}
use Rattle.executor_model.specs.{Weights.same, World.World, World.done, World.run_of}
use Rattle.executor_model.proofs.{Quiet.Calls.is_end, OwnQueues.RunsDone.poll_in, Steps.SleepersCounting.asleep}
use Rattle.executor_model.proofs.{Sleepers.TickLists.same_self, OwnQueues.Using.polling_of, OwnQueues.UsingWorlds.is_over_stage}
use Rattle.executor_laws.proofs.Wakeups.StandsActs.{stands-wake_up, stands-leave, stands-hand_out, stands-call, stands-make}
use Rattle.executor_laws.proofs.Wakeups.StandsGoing.{stands-lock, stands-make_run, stands-pending, stands-ready}
use Rattle.executor_laws.proofs.Wakeups.StandsGoing.{stands-register, stands-reschedule, stands-return, stands-room}
use Rattle.executor_laws.proofs.Wakeups.StandsRuns.{stage-common, stage-look, stage-read, stage-search, stage-steal, stage-turn}
use Rattle.executor_laws.proofs.Wakeups.StandsRuns.{stands-walks, walks-turn, walks-lock, walks-look_own, walks-search}
use Rattle.executor_laws.proofs.Wakeups.StandsGoing.{stands-unregister, stands-wake_own}
use Rattle.executor_laws.proofs.Wakeups.StandsRuns.{walks-search_common, walks-steal}
use Rattle.executor_laws.proofs.Wakeups.Beside.{Beside, sits_of, is_sits, beside-act, view-log}
use Rattle.executor_laws.proofs.Wakeups.Stands.{KeepsStands, keeps-same}
use Rattle.executor_laws.proofs.Wakeups.StandsAsleep.{stands-search, stands-look, stands-copy, stands-fall_asleep}
use Rattle.executor_laws.proofs.{Types.Waker, Types.WakerOp, Types.Hint, Types.UserEnd, Wakeups.StandsActs.stands-copy_waker}
use Rattle.executor_laws.proofs.{Wakeups.Sitting.over_in, Wakeups.StandsNothing.nothing-of, Wakeups.StandsWorlds.HasSlept}
use Rattle.executor_model.specs.ActsOfRuns as runs

-- what is done

free : (o : Op) → is_sits o ≡ false → sits_of o ≡ 0
free (Op.User (UserOp.PollOwn x)) n = absurd (cc)
free (Op.Tick o) n = absurd (cc)
free (Op.Sleeper SleeperOp.ExchangeFlag) n = refl
free (Op.Sleeper SleeperOp.HandOut) n = refl
free (Op.Sleeper (SleeperOp.CallSleeper s)) n = absurd (cc)
free (Op.Waker (WakerOp.CopyWaker f held)) n = absurd (cc)
free (Op.Waker (WakerOp.CallAwaiter f a k)) n = refl
free (Op.List o) n = absurd (cc)
free (Op.Steal o) n = absurd (cc)
free (Op.Run o) n = absurd (cc)
free (Op.End r held) n = absurd (cc)
free _ n = refl

stands-beside : (t : TickOrRun) (p : ℕ) (h : Hint) (o : Op) (w : World) → is_sits o ≡ false →
    KeepsStands t w (o ∷ []) (act p h o w)
stands-beside t p h o w n =
    let b : Beside w (act p h o w) = beside-act p h o w n in
    keeps-same t w (o ∷ []) (act p h o w) (b.view t) (nothing-of t (o ∷ []) (omega (arith, free o n)))
    (nothing-of t (act p h o w).next b.none)

-- a run that is polled isn't over
abbrev pub IsLive : Op → World → Type 0
IsLive o w = (r : ℕ) → 1 ≤ polling_of r o → is_over_stage (run_of w r).stage ≡ false

live-who : (who : TickOrRun) (w : World) → ((r : ℕ) → who ≡ TickOrRun.Run r → is_over_stage (run_of w r).stage ≡ false) →
    over_in who w.runs ≡ false
live-who (TickOrRun.Tick t) w k = refl
live-who (TickOrRun.Run r) w k = k r refl

one-self : (r : ℕ) → 1 ≤ same r r
one-self r = omega (arith, same_self r)

search-who : (t who : TickOrRun) (p k : ℕ) (a : Waker) (w : World) →
    KeepsStands t w (Op.Tick (TickOp.Search (asleep a who k)) ∷ []) (search p w (asleep a who k))
search-who t (TickOrRun.Tick u) p k a w = stands-search t u p k a w
search-who t (TickOrRun.Run q) p k a w = let x : RunPoll = record { run = q; waker = a; poll = k } in
    stands-walks t w x (Op.Tick (TickOp.Search (runs.asleep x)) ∷ []) (runs.search_own w x) (stage-search t x) refl
    (λ j. omega arith) (walks-search w x)

stands-tick : (t : TickOrRun) (p : ℕ) (h : Hint) (o : TickOp) (w : World) → HasSlept w →
    (1 ≤ borrowing_of (Op.Tick o) → w.gone ≡ false) → IsLive (Op.Tick o) w →
    KeepsStands t w (Op.Tick o ∷ []) (tick_act p h o w)
stands-tick t p h TickOp.MakeTick w slept g live = stands-make h.refused t w slept (g (omega arith))
stands-tick t p h (TickOp.Search s) w slept g live = search-who t s.who p s.poll s.waker w
stands-tick t p h (TickOp.Look s look) w slept g live = stands-look look t s.who s.poll s.waker w
stands-tick t p h (TickOp.CopyWaker s) w slept g live =
    stands-copy (is_copy_refused h w s.waker) t s.who s.poll s.waker w
    (live-who s.who w (λ r e. live r (let z : is_run r s.who ≡ 1 = ap (is_run r) e ∙ same_self r in omega (arith, z))))
stands-tick t p h (TickOp.FallAsleep s) w slept g live =
    stands-fall_asleep t s.who s.poll s.waker w slept
    (live-who s.who w (λ r e. live r (let z : is_run r s.who ≡ 1 = ap (is_run r) e ∙ same_self r in omega (arith, z))))
stands-tick t p h (TickOp.WakeUp u) w slept g live = stands-wake_up t u w slept
stands-tick t p h (TickOp.Leave u) w slept g live = stands-leave t u w slept

stands-write : (t : TickOrRun) (h : Hint) (s : Section) (w : World) → HasSlept w →
    (1 ≤ borrowing_of (Op.List (ListOp.Write s)) → w.gone ≡ false) →
    KeepsStands t w (Op.List (ListOp.Write s) ∷ []) (runs.write h s w)
stands-write t h Section.MakeRun w slept g = stands-make_run h.refused t w slept (g (omega arith))
stands-write t h (Section.Register x) w slept g = stands-register t w x h
stands-write t h (Section.Unregister q a) w slept g = stands-unregister t w q a h

stands-list : (t : TickOrRun) (h : Hint) (o : ListOp) (w : World) → HasSlept w →
    (1 ≤ borrowing_of (Op.List o) → w.gone ≡ false) → KeepsStands t w (Op.List o ∷ []) (list_act h o w)
stands-list t h (ListOp.LockWrite s) w slept g = stands-lock t s w
stands-list t h (ListOp.Write s) w slept g = stands-write t h s w slept g
stands-list t h ListOp.UnlockWrite w slept g =
    keeps-same t w (Op.List ListOp.UnlockWrite ∷ []) (runs.unlock_write w) refl (nothing-of t _ refl)
    (nothing-of t _ refl)
stands-list t h (ListOp.LockRead x) w slept g =
    stands-walks t w x (Op.List (ListOp.LockRead x) ∷ []) (runs.lock_read h w x) (stage-read t x) refl
    (λ k. omega arith) (walks-lock h w x)
stands-list t h ListOp.UnlockRead w slept g =
    keeps-same t w (Op.List ListOp.UnlockRead ∷ []) (runs.unlock_read w) refl (nothing-of t _ refl)
    (nothing-of t _ refl)

stands-run : (t : TickOrRun) (p : ℕ) (h : Hint) (o : RunOp) (w : World) → IsLive (Op.Run o) w →
    KeepsStands t w (Op.Run o ∷ []) (run_act p h o w)
stands-run t p h RunOp.MakeRoom w live = stands-room h.refused t w
stands-run t p h RunOp.ReturnRoom w live = stands-return t w
stands-run t p h (RunOp.TakeTurn x) w live =
    stands-walks t w x (Op.Run (RunOp.TakeTurn x) ∷ []) (runs.take_turn_of_run p w x) (stage-turn t x) refl
    (λ k. omega arith) (walks-turn p w x)
stands-run t p h (RunOp.SearchCommon x look) w live =
    stands-walks t w x (Op.Run (RunOp.SearchCommon x look) ∷ []) (runs.search_common w x look)
    (stage-common t x look) refl (λ k. omega arith) (walks-search_common w x look)
stands-run t p h (RunOp.LookOwn x at left) w live =
    stands-walks t w x (Op.Run (RunOp.LookOwn x at left) ∷ []) (runs.look_own w x at left)
    (stage-look t x at left) refl
    (λ k. omega arith) (walks-look_own w x at left)
stands-run t p h (RunOp.WakeOwn x) w live = stands-wake_own t p w x (live x.run (one-self x.run))
stands-run t p h (RunOp.Reschedule q a) w live = stands-reschedule t w q a

pub stands-act : (t : TickOrRun) (p : ℕ) (h : Hint) (o : Op) (w : World) → HasSlept w →
    (1 ≤ borrowing_of o → w.gone ≡ false) → IsLive o w → is_end o ≡ false → KeepsStands t w (o ∷ []) (act p h o w)
stands-act t p h (Op.Tick o) w slept g live n = stands-tick t p h o w slept g live
stands-act t p h (Op.Sleeper SleeperOp.HandOut) w slept g live n = stands-hand_out _ t w
stands-act t p h (Op.Sleeper (SleeperOp.CallSleeper s)) w slept g live n = stands-call t s.who p s.poll s.waker w
stands-act t p h (Op.Sleeper SleeperOp.ExchangeFlag) w slept g live n =
    stands-beside t p h (Op.Sleeper SleeperOp.ExchangeFlag) w refl
stands-act t p h (Op.Waker (WakerOp.CopyWaker f held)) w slept g live n = stands-copy_waker _ t w f held
stands-act t p h (Op.Waker (WakerOp.CallAwaiter f a k)) w slept g live n =
    stands-beside t p h (Op.Waker (WakerOp.CallAwaiter f a k)) w refl
stands-act t p h (Op.List o) w slept g live n = stands-list t h o w slept g
stands-act t p h (Op.Steal o) w slept g live n =
    stands-walks t w (poll_in o) (Op.Steal o ∷ []) (steal_act p o w) (stage-steal t o) refl (λ k. omega arith)
    (walks-steal p o w)
stands-act t p h (Op.Run o) w slept g live n = stands-run t p h o w live
stands-act t p h (Op.User (UserOp.PollOwn x)) w slept g live n = λ r m b k. k
stands-act t p h (Op.End r held) w slept g live n = absurd (cc)
stands-act t p h (Op.Move m f) w slept g live n = stands-beside t p h (Op.Move m f) w refl
stands-act t p h (Op.Table o) w slept g live n = stands-beside t p h (Op.Table o) w refl
stands-act t p h (Op.Queue o) w slept g live n = stands-beside t p h (Op.Queue o) w refl
stands-act t p h (Op.User (UserOp.Poll f)) w slept g live n = stands-beside t p h (Op.User (UserOp.Poll f)) w refl
stands-act t p h (Op.User (UserOp.BeginDrop f)) w slept g live n =
    stands-beside t p h (Op.User (UserOp.BeginDrop f)) w refl
stands-act t p h (Op.User (UserOp.Drop f)) w slept g live n = stands-beside t p h (Op.User (UserOp.Drop f)) w refl
stands-act t p h (Op.User (UserOp.BeginDropOutput f)) w slept g live n =
    stands-beside t p h (Op.User (UserOp.BeginDropOutput f)) w refl
stands-act t p h (Op.User (UserOp.DropOutput f)) w slept g live n =
    stands-beside t p h (Op.User (UserOp.DropOutput f)) w refl
stands-act t p h (Op.User (UserOp.CallOutside x)) w slept g live n =
    stands-beside t p h (Op.User (UserOp.CallOutside x)) w refl
stands-act t p h (Op.User (UserOp.DropOwn q)) w slept g live n =
    stands-beside t p h (Op.User (UserOp.DropOwn q)) w refl
stands-act t p h (Op.Handle o) w slept g live n = stands-beside t p h (Op.Handle o) w refl
stands-act t p h (Op.Closing o) w slept g live n = stands-beside t p h (Op.Closing o) w refl

-- the end of user code
pub stands-react : (t : TickOrRun) (p : ℕ) (o : Op) (u : UserEnd) (w : World) → accepts o u ≡ true →
    KeepsStands t w (o ∷ []) (react p o u w)
stands-react t p (Op.User (UserOp.PollOwn x)) (UserEnd.Polled Answer.Pending) w a = stands-pending t w x
stands-react t p (Op.User (UserOp.PollOwn x)) (UserEnd.Polled Answer.Ready) w a = stands-ready t w x
stands-react t p (Op.User (UserOp.Poll f)) (UserEnd.Polled Answer.Pending) w a =
    keeps-same t w (Op.User (UserOp.Poll f) ∷ []) (react p (Op.User (UserOp.Poll f)) (UserEnd.Polled Answer.Pending) w)
    (view-log t w (Event.Answered p f Answer.Pending) (λ t n s. refl)) (nothing-of t _ refl) (nothing-of t _ refl)
stands-react t p (Op.User (UserOp.Poll f)) (UserEnd.Polled Answer.Ready) w a =
    keeps-same t w (Op.User (UserOp.Poll f) ∷ []) (react p (Op.User (UserOp.Poll f)) (UserEnd.Polled Answer.Ready) w)
    (view-log t w (Event.Answered p f Answer.Ready) (λ t n s. refl)) (nothing-of t _ refl) (nothing-of t _ refl)
stands-react t p (Op.User (UserOp.Drop f)) UserEnd.Done w a =
    keeps-same t w (Op.User (UserOp.Drop f) ∷ []) (done w []) refl (nothing-of t _ refl) (nothing-of t _ refl)
stands-react t p (Op.User (UserOp.DropOutput f)) UserEnd.Done w a =
    keeps-same t w (Op.User (UserOp.DropOutput f) ∷ []) (done w []) refl (nothing-of t _ refl) (nothing-of t _ refl)
stands-react t p (Op.User (UserOp.CallOutside x)) UserEnd.Done w a =
    keeps-same t w (Op.User (UserOp.CallOutside x) ∷ []) (done w []) refl (nothing-of t _ refl) (nothing-of t _ refl)
stands-react t p (Op.User (UserOp.DropOwn q)) UserEnd.Done w a =
    keeps-same t w (Op.User (UserOp.DropOwn q) ∷ []) (done w []) refl (nothing-of t _ refl) (nothing-of t _ refl)
stands-react t p _ _ w a = absurd (cc)
