-- For own_futures_are_dropped_once.
-- No thing that is done leads to the drop of a run's own future, but where that is ready or the run is dropped.
use Rattle.std.proofs.Common.{◌≡◌, ℕ, zero, suc, ◌+◌, ◌≤◌, List, [], ◌∷◌, ◌++◌, Bool, true, false, eqb, refl, arith}
use Rattle.std.specs.Prelude.{Option, Some, None, is_none}
use Rattle.task_moves.specs.declared.moves.owed.Answer.{Answer}
use Rattle.executor_parts.specs.Sleepers.{waker_at, waker_of}
use Rattle.task_moves.specs.Moves as moves
use Rattle.executor_model.specs.Acts.{answered, close, closing_ops, copy_awaiter_by, copy_by, drain_by, drop_next_by, end_register_by}
use Rattle.executor_model.specs.Acts.{enter_by, leak_next_by, leak_out_by, leaking_ops, let_go, look_again_by, look_by, polled}
use Rattle.executor_model.specs.Acts.{register_by, reply_of, take_by, wake, wake_next_by}
use Rattle.executor_model.specs.ActsOfRuns as runs
use Rattle.executor_model.specs.ActsOfRuns.{asleep, counted_by, found, look_own_by, make_room_by, make_run_by, next_place}
use Rattle.executor_model.specs.ActsOfRuns.{put_refused, queue_at, reschedule_by, run_by, search_common_by, search_own_by}
use Rattle.executor_model.specs.ActsOfRuns.{kept_by, steal_by, steal_length_by, steal_put_by, steal_take_by, stolen, walk, wake_own}
use Rattle.executor_model.specs.ActsOfSleepers.{copy_sleeper_by, fall_asleep_by, found_by, leave_sleepers_by, look_tick_by}
use Rattle.executor_model.specs.ActsOfSleepers.{make_tick_by, pend_as, sleep_again_by, sleep_anew_by, sleep_listed_by, sleeper_goes}
use Rattle.executor_model.specs.ActsOfSleepers.{tell_and_return}
use Rattle.executor_model.specs.Carried.{awaiter_ops}
use Rattle.executor_model.specs.Doing.{act, search_by_who, steal_act}
use Rattle.executor_model.specs.Steps.{begun, future_of, kept, poll_run, waits, with_future}
use Rattle.executor_model.specs.Weights.{weigh}
use Rattle.executor_model.specs.World.{Asleep, Awake, Done, Ended, Left, Listed, New, Stage, Ticker, World, awaiter_of, log, put_own}
use Rattle.executor_model.specs.World.{run_of, task}
use Rattle.executor_model.proofs.Steps.Asides.{Aside, aside-awaiter, aside-closing, aside-let_go, aside-owed}
use Rattle.executor_model.proofs.Steps.Lists.{same_is, weigh-append, weigh-below}
use Rattle.executor_model.proofs.Steps.SleepersNext.{goes-unseen}
use Rattle.executor_laws.proofs.Placement.Leavings.{drops_run}
use Rattle.executor_laws.proofs.Reach.LoneMoves.{inner-act, stray_of}
use Rattle.call_laws.proofs.Types.{Call, ClosingOp, Event, First, HandleOp, Hint, Hold, ListOp, Look, Mark, Moved, Op, Outside}
use Rattle.call_laws.proofs.Types.{Own, Plain, Polled, QueueOp, Reply, RunOp, RunPoll, Second, Section, SleeperOp, Sleeping, Steal}
use Rattle.call_laws.proofs.Types.{StealOp, TableOp, Task, Then, TickOp, TickOrRun, Urgent, UserOp, Waker, WakerOp}
use Rattle.call_laws.specs.OwnDrops.{dropping_own}

owning-one : (r q : ℕ) → dropping_own r (Op.User (UserOp.DropOwn q)) ≤ 1
owning-one r q = grind (arith, same_is)

module _ (r : ℕ) where
  abbrev v : Op → ℕ
  v o = dropping_own r o

  aside : Aside (dropping_own r)
  aside = record {
    move = λ m f. refl;
    append = λ f. refl;
    poll = λ f. refl;
    drop = λ f. refl;
    output = λ f. refl;
    notify = λ f mine. refl;
    call = λ f a k. refl;
    goes = λ f. refl;
  }

  takes : (look : Look) (q : List ℕ) (w : World) → weigh v (take_by w look q).next ≡ 0
  takes (First mark) [] w = refl
  takes (Second mark) [] w = refl
  takes look (f ∷ rest) w = refl

  enters : (b c : Bool) (mark : Mark) (p : ℕ) (w : World) → weigh v (enter_by b c mark p w).next ≡ 0
  enters true c mark p w = refl
  enters false true mark p w = refl
  enters false false mark p w = refl

  copies : (b : Bool) (w : World) (f : ℕ) (h : Hold) → weigh v (copy_by b w f h).next ≡ 0
  copies true w f h = refl
  copies false w f h = refl

  makes : (b : Bool) (w : World) → weigh v (make_tick_by b w).next ≡ 0
  makes true w = refl
  makes false w = refl

  rooms : (b : Bool) (w : World) → weigh v (make_room_by b w).next ≡ 0
  rooms true w = refl
  rooms false w = refl

  -- polls of handles

  answers : (p : ℕ) (w : World) (f : ℕ) (m : Moved) (a : Answer) → weigh v (answered p w f m a).next ≡ 0
  answers p w f m a = omega (
    arith,
    weigh-append v (awaiter_ops f m.owed.awaiter) (Op.End (reply_of a) (Hold.Handle f) ∷ []),
    aside-awaiter v aside f m.owed.awaiter,
  )

  looks : (o : Option Answer) (p : ℕ) (w : World) (f : ℕ) (a : Waker) (m : Moved) → weigh v (look_by o p w f a m).next ≡ 0
  looks None p w f a m = refl
  looks (Some x) p w f a m = answers p (polled p w f) f m x

  looks-again : (o : Option Answer) (p : ℕ) (w : World) (f : ℕ) (m : Moved) → weigh v (look_again_by o p w f m).next ≡ 0
  looks-again None p w f m = refl
  looks-again (Some x) p w f m = answers p w f m x

  copies-awaiter : (b : Bool) (p : ℕ) (w : World) (f : ℕ) (a : Waker) → weigh v (copy_awaiter_by b p w f a).next ≡ 0
  copies-awaiter true p w f a = refl
  copies-awaiter false p w f a = refl

  registers : (b : Bool) (w : World) (f : ℕ) (a : Waker) (k : ℕ) → weigh v (register_by b w f a k).next ≡ 0
  registers true w f a k = refl
  registers false w f a k = refl

  lets-go : (w : World) (f : ℕ) → weigh v (let_go (awaiter_of w f) ++ Op.Handle (HandleOp.LookAgain f) ∷ []) ≡ 0
  lets-go w f = omega (
    arith,
    weigh-append v (let_go (awaiter_of w f)) (Op.Handle (HandleOp.LookAgain f) ∷ []),
    aside-let_go v aside (awaiter_of w f),
  )

  ends-register : (b : Bool) (w : World) (f : ℕ) (a : Waker) (k : ℕ) → weigh v (end_register_by b w f a k).next ≡ 0
  ends-register true w f a k = omega (arith, lets-go w f)
  ends-register false w f a k = lets-go w f

  -- the executor's drop and its leak

  closing : (ls ws : List ℕ) → weigh v (closing_ops ls ws) ≡ 0
  closing ls ws = aside-closing v (λ o. refl) ls ws

  drops-next : (p : ℕ) (w : World) (ls : List ℕ) → weigh v (drop_next_by p w ls).next ≡ 0
  drops-next p w [] = refl
  drops-next p w (f ∷ rest) = omega (arith, closing rest (w.waking ++ f ∷ []))

  wakes : (p : ℕ) (w : World) (f : ℕ) → weigh v (wake p w f).next ≡ 0
  wakes p w f = aside-owed v aside f _ (moves.wake (task w f)).owed

  wakes-next : (p : ℕ) (w : World) (ls : List ℕ) → weigh v (wake_next_by p w ls).next ≡ 0
  wakes-next p w [] = refl
  wakes-next p w (f ∷ rest) =
      let u : World = record w { waking = rest } in
      omega (arith, weigh-append v (wake p u f).next (closing_ops [] rest), wakes p u f, closing [] rest)

  leaking : (ws : List ℕ) → weigh v (leaking_ops ws) ≡ 0
  leaking [] = refl
  leaking (f ∷ ws) = refl

  leaks-out : (b : Bool) (w : World) → weigh v (leak_out_by b w).next ≡ 0
  leaks-out true w = refl
  leaks-out false w = leaking (w.waking ++ w.table)

  leaks-next : (b : Bool) (p : ℕ) (w : World) (ls : List ℕ) → weigh v (leak_next_by b p w ls).next ≡ 0
  leaks-next true p w ls = refl
  leaks-next false p w [] = refl
  leaks-next false p w (f ∷ rest) =
      let u : World = record w { waking = rest } in
      omega (arith, weigh-append v (wake p u f).next (leaking_ops rest), wakes p u f, leaking rest)

  closes : (mark : Mark) (w : World) → weigh v (close w mark).next ≡ 0
  closes Urgent w = refl
  closes Plain w = refl

  drains : (p : ℕ) (w : World) (mark : Mark) (q : List ℕ) → weigh v (drain_by p w mark q).next ≡ 0
  drains p w Urgent [] = refl
  drains p w Plain [] = refl
  drains p w mark (f ∷ rest) = refl

  -- polls of ticks and runs

  searches : (look : Look) (x : Ticker) (w : World) (q : List ℕ) (s : Sleeping) → weigh v (look_tick_by x w look q s).next ≡ 0
  searches (First mark) x w [] s = refl
  searches (Second mark) x w [] s = refl
  searches look Awake w (f ∷ rest) s = refl
  searches look (Asleep n) w (f ∷ rest) s = refl
  searches look Left w (f ∷ rest) s = refl

  copies-sleeper : (b : Bool) (w : World) (s : Sleeping) → weigh v (copy_sleeper_by b w s).next ≡ 0
  copies-sleeper true w s = refl
  copies-sleeper false w s = refl

  sleeps-anew : (b : Bool) (w : World) (s : Sleeping) → weigh v (sleep_anew_by b w s).next ≡ 0
  sleeps-anew true w s = refl
  sleeps-anew false w s = refl

  sleeps-listed : (b : Bool) (w : World) (n : ℕ) (s : Sleeping) → weigh v (sleep_listed_by b w n s).next ≡ 0
  sleeps-listed true w n s = refl
  sleeps-listed false w n s = refl

  sleeps-again : (o : Option ℕ) (w : World) (n : ℕ) (s : Sleeping) → weigh v (sleep_again_by o w n s).next ≡ 0
  sleeps-again None w n s = sleeps-listed _ w n s
  sleeps-again (Some at) w n s = let old = waker_at (Some at) w.sleepers.wakers in
      omega (arith, weigh-append v (sleeper_goes old) (pend_as s.who), goes-unseen v (λ f. refl) old)

  sleeps : (x : Ticker) (w : World) (s : Sleeping) → weigh v (fall_asleep_by x w s).next ≡ 0
  sleeps Awake w s = sleeps-anew _ w s
  sleeps (Asleep n) w s = sleeps-again _ w n s
  sleeps Left w s = refl

  tells : (b : Bool) → weigh v (tell_and_return b) ≡ 0
  tells true = refl
  tells false = refl

  leaves : (x : Ticker) (w : World) (who : TickOrRun) → weigh v (leave_sleepers_by x w who).next ≡ 0
  leaves Awake w who = refl
  leaves (Asleep n) w who =
      let goes : Option Sleeping = waker_of n w.sleepers.wakers in omega (
        arith,
        weigh-append v (sleeper_goes goes) (tell_and_return (is_none goes)),
        goes-unseen v (λ f. refl) goes,
        tells (is_none goes),
      )
  leaves Left w who = refl

  runs-found : (b : Bool) (w : World) (x : RunPoll) (f : ℕ) → weigh v (run_by b w x f).next ≡ 0
  runs-found true w x f = refl
  runs-found false w x f = refl

  counts : (b : Bool) (w : World) (x : RunPoll) (f : ℕ) → weigh v (counted_by b w x f).next ≡ 0
  counts true w x f = refl
  counts false w x f = runs-found _ _ x f

  wakes-up : (p : Ticker) (who : TickOrRun) → weigh v (found_by p who (Op.Sleeper SleeperOp.ExchangeFlag ∷ [])) ≡ 0
  wakes-up Awake who = refl
  wakes-up (Asleep k) who = refl
  wakes-up Left who = refl

  finds : (w : World) (x : RunPoll) (f : ℕ) → weigh v (found w x f).next ≡ 0
  finds w x f =
      let first = found_by (run_of w x.run).place (TickOrRun.Run x.run) (Op.Sleeper SleeperOp.ExchangeFlag ∷ []) in
      let b : Bool = eqb ((run_of w x.run).counted + 1) 64 in
      omega (
        arith,
        weigh-append v first (counted_by b w x f).next,
        wakes-up (run_of w x.run).place (TickOrRun.Run x.run),
        counts b w x f,
      )

  steals : (t : Then) (w : World) (x : RunPoll) → weigh v (stolen t w x).next ≡ 0
  steals (Then.Found f) w x = finds w x f
  steals (Then.StealPlain f) w x = refl
  steals (Then.Run f) w x = runs-found _ w x f
  steals (Then.Walk at left) w x = refl

  lengths : (k : ℕ) (w : World) (s : Steal) → weigh v (steal_length_by k w s).next ≡ 0
  lengths zero w s = steals s.then w s.poll
  lengths (suc k) w s = refl

  more : (k : ℕ) (w : World) (s : Steal) → weigh v (steal_by k w s).next ≡ 0
  more zero w s = steals s.then w s.poll
  more (suc k) w s = refl

  steal-takes : (q : List ℕ) (k : ℕ) (w : World) (s : Steal) → weigh v (steal_take_by q w s k).next ≡ 0
  steal-takes [] k w s = steals s.then w s.poll
  steal-takes (f ∷ rest) k w s = refl

  refuses : (t : Then) (w : World) (x : RunPoll) (f : ℕ) → weigh v (put_refused t w x f).next ≡ 0
  refuses (Then.Walk at left) w x f = refl
  refuses (Then.Found g) w x f = omega (arith, steals (Then.Found g) w x)
  refuses (Then.StealPlain g) w x f = omega (arith, steals (Then.StealPlain g) w x)
  refuses (Then.Run g) w x f = omega (arith, steals (Then.Run g) w x)

  puts : (b : Bool) (p k f : ℕ) (w : World) (s : Steal) → weigh v (steal_put_by b p w s k f).next ≡ 0
  puts true p k f w s = more k (kept_by p w s.poll.run f) s
  puts false p k f w s = refuses s.then w s.poll f

  steals-act : (p : ℕ) (o : StealOp) (w : World) → weigh v (steal_act p o w).next ≡ 0
  steals-act p (StealOp.Length s) w = lengths _ w s
  steals-act p (StealOp.OwnLength s k) w = more _ w s
  steals-act p (StealOp.Take s k) w = steal-takes _ k w s
  steals-act p (StealOp.Put s k f) w = puts _ p k f w s

  walks : (x : RunPoll) (qs : List ℕ) (at left : ℕ) → weigh v (walk x qs at left) ≡ 0
  walks x qs at zero = refl
  walks x qs at (suc left) = by (eqb (queue_at qs at) x.run) (walks x qs (next_place qs at) left)
    where
      by : (b : Bool) → weigh v (walk x qs (next_place qs at) left) ≡ 0 → weigh v (let h : List Op = elim b [
        | true ↦ walk x qs (next_place qs at) left
        | false ↦ Op.Steal (StealOp.Length (record {
          poll = x;
          from = Own (queue_at qs at);
          then = Then.Walk (next_place qs at) left;
        })) ∷ []
      ] in h) ≡ 0
      by true z = z
      by false z = refl

  searches-own : (q : List ℕ) (w : World) (x : RunPoll) → weigh v (search_own_by q w x).next ≡ 0
  searches-own [] w x = refl
  searches-own (f ∷ rest) w x = finds (put_own w x.run rest) x f

  searches-common : (look : Look) (q : List ℕ) (w : World) (x : RunPoll) → weigh v (search_common_by q w x look).next ≡ 0
  searches-common (First mark) [] w x = refl
  searches-common (Second mark) [] w x = refl
  searches-common look (f ∷ rest) w x = refl

  looks-own : (q : List ℕ) (w : World) (x : RunPoll) (at left : ℕ) → weigh v (look_own_by q w x at left).next ≡ 0
  looks-own [] w x at left = walks x w.listed at left
  looks-own (f ∷ rest) w x at left = omega (arith, finds (put_own w x.run rest) x f)

  searches-who : (who : TickOrRun) (p : ℕ) (w : World) (s : Sleeping) → weigh v (search_by_who who p w s).next ≡ 0
  searches-who (TickOrRun.Tick t) p w s = refl
  searches-who (TickOrRun.Run q) p w s = searches-own _ w _

  reschedules : (q : List ℕ) (w : World) (n : ℕ) (a : Reply) → weigh v (reschedule_by q w n a).next ≡ 0
  reschedules [] w n a = refl
  reschedules (f ∷ rest) w n a = refl

  refers : (p : ℕ) (w : World) (a : Waker) → weigh v (runs.call_by_reference p w a).next ≡ 0
  refers p w (Task g) = aside-owed v aside g _ (moves.wake_by_reference (task w g)).owed
  refers p w (Outside y) = refl

  wakes-own : (p : ℕ) (w : World) (x : RunPoll) → weigh v (wake_own p w x).next ≡ 0
  wakes-own p w x =
      let u : World = log w (Event.WakerCalled p (Polled.Run x.run) x.poll x.waker) in
      let next = (runs.call_by_reference p u x.waker).next in
      omega (arith, weigh-append v next (Op.End Reply.Pending (Hold.Run x.run) ∷ []), refers p u x.waker)

  makes-run : (b : Bool) (w : World) → weigh v (make_run_by b w).next ≡ 0
  makes-run true w = refl
  makes-run false w = refl

  few : (o : Op) → v o ≤ stray_of o
  few (Op.User (UserOp.DropOwn q)) = owning-one r q
  few _ = omega arith

  lone : (p : ℕ) (h : Hint) (o : Op) (w : World) → waits o ≡ false → stray_of o ≡ 0 → weigh v (act p h o w).next ≡ v o
  lone p h o w n z = omega (arith, z, few o, weigh-below v stray_of few (act p h o w).next, (inner-act p h o w n z).plain)

  pub owning-act : (p : ℕ) (h : Hint) (o : Op) (w : World) → weigh v (act p h o w).next ≡ v o
  owning-act p h (Op.Table (TableOp.Enter mark)) w = enters _ _ mark p w
  owning-act p h (Op.Table TableOp.LookAtTable) w = refl
  owning-act p h (Op.Queue QueueOp.TakeTurn) w = refl
  owning-act p h (Op.Queue (QueueOp.Take look)) w = takes look _ w
  owning-act p h (Op.Waker (WakerOp.CopyWaker f held)) w = copies _ w f held
  owning-act p h (Op.Handle (HandleOp.Look f a)) w = looks (moves.poll (task w f)).owed.answer p w f a _
  owning-act p h (Op.Handle (HandleOp.CopyAwaiter f a)) w = copies-awaiter _ p w f a
  owning-act p h (Op.Handle (HandleOp.Register f a k)) w = registers _ w f a k
  owning-act p h (Op.Handle (HandleOp.EndRegister f a k)) w = ends-register _ w f a k
  owning-act p h (Op.Handle (HandleOp.LookAgain f)) w = looks-again (moves.look_again (task w f)).owed.answer p w f _
  owning-act p h (Op.Closing ClosingOp.TakeOut) w = closing w.table w.waking
  owning-act p h (Op.Closing ClosingOp.DropNext) w = drops-next p w _
  owning-act p h (Op.Closing ClosingOp.WakeNext) w = wakes-next p w _
  owning-act p h (Op.Closing (ClosingOp.Close mark)) w = closes mark w
  owning-act p h (Op.Closing (ClosingOp.Drain mark)) w = drains p w mark _
  owning-act p h (Op.Closing ClosingOp.LeakOut) w = leaks-out _ w
  owning-act p h (Op.Closing ClosingOp.LeakNext) w = leaks-next _ p w _
  owning-act p h (Op.Tick TickOp.MakeTick) w = makes _ w
  owning-act p h (Op.Tick (TickOp.Search s)) w = searches-who s.who p w s
  owning-act p h (Op.Tick (TickOp.Look s look)) w = searches look _ w _ s
  owning-act p h (Op.Tick (TickOp.CopyWaker s)) w = copies-sleeper _ w s
  owning-act p h (Op.Tick (TickOp.FallAsleep s)) w = sleeps _ w s
  owning-act p h (Op.Tick (TickOp.Leave who)) w = leaves _ w who
  owning-act p h (Op.List (ListOp.LockWrite s)) w = refl
  owning-act p h (Op.List (ListOp.Write Section.MakeRun)) w = makes-run _ w
  owning-act p h (Op.List (ListOp.Write (Section.Register x))) w = refl
  owning-act p h (Op.List (ListOp.Write (Section.Unregister q a))) w = refl
  owning-act p h (Op.List ListOp.UnlockWrite) w = refl
  owning-act p h (Op.List (ListOp.LockRead x)) w = walks x w.listed _ _
  owning-act p h (Op.List ListOp.UnlockRead) w = refl
  owning-act p h (Op.Steal o) w = steals-act p o w
  owning-act p h (Op.Run RunOp.MakeRoom) w = rooms _ w
  owning-act p h (Op.Run RunOp.ReturnRoom) w = refl
  owning-act p h (Op.Run (RunOp.TakeTurn x)) w = refl
  owning-act p h (Op.Run (RunOp.SearchCommon x look)) w = searches-common look _ w x
  owning-act p h (Op.Run (RunOp.LookOwn x at left)) w = looks-own _ w x at left
  owning-act p h (Op.Run (RunOp.WakeOwn x)) w = wakes-own p w x
  owning-act p h (Op.Run (RunOp.Reschedule n a)) w = reschedules _ w n a
  owning-act p h (Op.User (UserOp.Poll f)) w = refl
  owning-act p h (Op.User (UserOp.Drop f)) w = refl
  owning-act p h (Op.User (UserOp.DropOutput f)) w = refl
  owning-act p h (Op.User (UserOp.CallOutside x)) w = refl
  owning-act p h (Op.User (UserOp.PollOwn x)) w = refl
  owning-act p h (Op.User (UserOp.DropOwn q)) w = omega arith
  owning-act p h (Op.End a held) w = refl
  owning-act p h (Op.Move m f) w = lone p h (Op.Move m f) w refl refl
  owning-act p h o w = lone p h o w refl refl

  -- as a call begins that isn't the drop of a run

  with-none : (w : World) (x : Option ℕ) (d : ℕ → Done) → ((f : ℕ) → weigh v (d f).next ≡ 0) → weigh v (with_future w x d).next ≡ 0
  with-none w None d k = refl
  with-none w (Some f) d k = k f

  polls-none : (t : Stage) (x : RunPoll) → weigh v (poll_run t x) ≡ 0
  polls-none New x = refl
  polls-none Listed x = refl
  polls-none Ended x = refl

  pub owning-begun : (p : ℕ) (w : World) (o : Option Waker) (c : Call) → drops_run c ≡ false → weigh v (begun p w o c).next ≡ 0
  owning-begun p w o (Call.Wake k) z = with-none w (kept w k) _ (λ f. refl)
  owning-begun p w o (Call.WakeByRef k) z = with-none w (kept w k) _ (λ f. refl)
  owning-begun p w o (Call.Copy k) z = with-none w (kept w k) _ (λ f. refl)
  owning-begun p w o (Call.DropWaker k) z = with-none w (kept w k) _ (λ f. refl)
  owning-begun p w o Call.Keep z = with-none w (future_of o) _ (λ f. refl)
  owning-begun p w o Call.WakeSelf z = with-none w (future_of o) _ (λ f. refl)
  owning-begun p w o (Call.PollRun q b) z = polls-none _ _
  owning-begun p w o (Call.DropRun q) z = absurd (cc)
  owning-begun p w o _ z = refl
