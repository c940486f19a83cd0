-- For calls_can_be_begun.
-- What a call holds until it has ended goes along with what is left of it to do: each operation that answers a call leads to
-- one that holds the same, but where a spawn is accepted or a run is made.
use Rattle.std.proofs.Common.{◌≡◌, ◌∙◌, ℕ, zero, suc, ◌+◌, List, [], ◌∷◌, ◌++◌, Bool, true, false, eqb, not, refl, sym, ap}
use Rattle.std.proofs.Common.{⊎_elim, arith}
use Rattle.std.specs.Prelude.{Option, Some, None}
use Rattle.task_moves.specs.declared.moves.owed.Answer.{Answer}
use Rattle.executor_parts.specs.Sleepers.{waker_at}
use Rattle.call_laws.proofs.Types.{Event, HandleOp, Hold, ListOp, Look, First, Second, Move, Moved, Op, QueueOp}
use Rattle.call_laws.proofs.Types.{Reply, RunOp, RunPoll, Section, SleeperOp, Sleeping, Own, Steal, StealOp}
use Rattle.call_laws.proofs.Types.{TableOp, Then, TickOp, TickOrRun, UserEnd, UserOp, Waker, Task, Outside, WakerOp, Hint}
use Rattle.call_laws.proofs.Types.{Polled}
use Rattle.executor_model.specs.Acts.{answered, copy_awaiter_by, copy_by, end_register_by, let_go, look_again_by}
use Rattle.executor_model.specs.Acts.{look_by, polled, register_by, reply_of, take_by}
use Rattle.executor_model.specs.ActsOfRuns.{asleep, counted_by, found, look_own_by, make_room_by, make_run_by, next_place}
use Rattle.executor_model.specs.ActsOfRuns.{put_refused}
use Rattle.executor_model.specs.ActsOfRuns.{queue_at, reschedule_by, run_by, search_common_by, search_own_by, steal_by}
use Rattle.executor_model.specs.ActsOfRuns.{steal_length_by, steal_put_by, steal_take_by, stolen, walk, kept_by, wake_own}
use Rattle.executor_model.specs.ActsOfSleepers.{copy_sleeper_by, fall_asleep_by, found_by, held_as, look_tick_by, make_tick_by}
use Rattle.executor_model.specs.ActsOfSleepers.{pend_as, sleep_again_by, sleep_anew_by, sleep_listed_by, sleeper_goes}
use Rattle.executor_model.specs.Doing.{act, search_by_who, steal_act}
use Rattle.executor_model.specs.World.{World, Ticker, Awake, Asleep, Left, awaiter_of, log, put_own, run_of, task}
use Rattle.executor_model.specs.{Carried.awaiter_ops, Steps.accepts, Steps.react, Weights.weigh}
use Rattle.executor_model.proofs.Steps.Asides.{Aside, aside-awaiter, aside-let_go}
use Rattle.executor_model.proofs.Steps.{Lists.weigh-append, SleepersNext.goes-unseen}
use Rattle.executor_model.proofs.Quiet.{Calls.calling_of, Calls.is_end, CallsGroups.calls-act, Resting.calling-is}
use Rattle.executor_model.proofs.OwnQueues.RunsDone.{poll_in}
use Rattle.task_moves.specs.Moves as moves
use Rattle.executor_model.specs.declared.event.Answer.TheVariants as answer
use Rattle.executor_model.specs.ActsOfRuns as runs

-- what the call holds of which this is the operation that answers it
abbrev pub held_in : Section → Hold
held_in Section.MakeRun = Hold.Executor
held_in (Section.Register x) = Hold.Run x.run
held_in (Section.Unregister r a) = Hold.Run r

-- counted so
abbrev pub carried_of : (Hold → ℕ) → Op → ℕ
carried_of u (Op.Table (TableOp.Enter mark)) = u Hold.Executor
carried_of u (Op.Queue QueueOp.TakeTurn) = u Hold.Executor
carried_of u (Op.Queue (QueueOp.Take look)) = u Hold.Executor
carried_of u (Op.Table TableOp.LookAtTable) = u Hold.Executor
carried_of u (Op.Waker (WakerOp.CopyWaker f held)) = u held
carried_of u (Op.Handle (HandleOp.Look f a)) = u (Hold.Handle f)
carried_of u (Op.Handle (HandleOp.CopyAwaiter f a)) = u (Hold.Handle f)
carried_of u (Op.Handle (HandleOp.Register f a k)) = u (Hold.Handle f)
carried_of u (Op.Handle (HandleOp.EndRegister f a k)) = u (Hold.Handle f)
carried_of u (Op.Handle (HandleOp.LookAgain f)) = u (Hold.Handle f)
carried_of u (Op.Tick TickOp.MakeTick) = u Hold.Executor
carried_of u (Op.Tick (TickOp.Search s)) = u (held_as s.who)
carried_of u (Op.Tick (TickOp.Look s look)) = u (held_as s.who)
carried_of u (Op.Tick (TickOp.CopyWaker s)) = u (held_as s.who)
carried_of u (Op.Tick (TickOp.FallAsleep s)) = u (held_as s.who)
carried_of u (Op.User (UserOp.PollOwn x)) = u (Hold.Run x.run)
carried_of u (Op.List (ListOp.LockWrite s)) = u (held_in s)
carried_of u (Op.List (ListOp.Write s)) = u (held_in s)
carried_of u (Op.List (ListOp.LockRead x)) = u (Hold.Run x.run)
carried_of u (Op.Steal (StealOp.Length s)) = u (Hold.Run s.poll.run)
carried_of u (Op.Steal (StealOp.OwnLength s n)) = u (Hold.Run s.poll.run)
carried_of u (Op.Steal (StealOp.Take s more)) = u (Hold.Run s.poll.run)
carried_of u (Op.Steal (StealOp.Put s more f)) = u (Hold.Run s.poll.run)
carried_of u (Op.Run RunOp.MakeRoom) = u Hold.Executor
carried_of u (Op.Run (RunOp.TakeTurn x)) = u (Hold.Run x.run)
carried_of u (Op.Run (RunOp.SearchCommon x look)) = u (Hold.Run x.run)
carried_of u (Op.Run (RunOp.LookOwn x at left)) = u (Hold.Run x.run)
carried_of u (Op.Run (RunOp.WakeOwn x)) = u (Hold.Run x.run)
carried_of u (Op.Run (RunOp.Reschedule r a)) = u (Hold.Run r)
carried_of u (Op.End r held) = u held
carried_of u _ = 0

-- what answers no call holds nothing
pub plain : (u : Hold → ℕ) (o : Op) → calling_of o ≡ 0 → carried_of u o ≡ 0
plain u (Op.Table (TableOp.Enter mark)) z = absurd (omega (arith, z))
plain u (Op.Queue QueueOp.TakeTurn) z = absurd (omega (arith, z))
plain u (Op.Queue (QueueOp.Take look)) z = absurd (omega (arith, z))
plain u (Op.Table TableOp.LookAtTable) z = absurd (omega (arith, z))
plain u (Op.Waker (WakerOp.CopyWaker f held)) z = absurd (omega (arith, z))
plain u (Op.Handle (HandleOp.Look f a)) z = absurd (omega (arith, z))
plain u (Op.Handle (HandleOp.CopyAwaiter f a)) z = absurd (omega (arith, z))
plain u (Op.Handle (HandleOp.Register f a k)) z = absurd (omega (arith, z))
plain u (Op.Handle (HandleOp.EndRegister f a k)) z = absurd (omega (arith, z))
plain u (Op.Handle (HandleOp.LookAgain f)) z = absurd (omega (arith, z))
plain u (Op.Tick TickOp.MakeTick) z = absurd (omega (arith, z))
plain u (Op.Tick (TickOp.Search s)) z = absurd (omega (arith, z))
plain u (Op.Tick (TickOp.Look s look)) z = absurd (omega (arith, z))
plain u (Op.Tick (TickOp.CopyWaker s)) z = absurd (omega (arith, z))
plain u (Op.Tick (TickOp.FallAsleep s)) z = absurd (omega (arith, z))
plain u (Op.User (UserOp.PollOwn x)) z = absurd (omega (arith, z))
plain u (Op.List (ListOp.LockWrite s)) z = absurd (omega (arith, z))
plain u (Op.List (ListOp.Write s)) z = absurd (omega (arith, z))
plain u (Op.List (ListOp.LockRead x)) z = absurd (omega (arith, z))
plain u (Op.Steal o) z = absurd (omega (arith, z))
plain u (Op.Run RunOp.MakeRoom) z = absurd (omega (arith, z))
plain u (Op.Run (RunOp.TakeTurn x)) z = absurd (omega (arith, z))
plain u (Op.Run (RunOp.SearchCommon x look)) z = absurd (omega (arith, z))
plain u (Op.Run (RunOp.LookOwn x at left)) z = absurd (omega (arith, z))
plain u (Op.Run (RunOp.WakeOwn x)) z = absurd (omega (arith, z))
plain u (Op.Run (RunOp.Reschedule r a)) z = absurd (omega (arith, z))
plain u (Op.End r held) z = absurd (omega (arith, z))
plain u _ z = refl

pub plains : (u : Hold → ℕ) (os : List Op) → weigh calling_of os ≡ 0 → weigh (carried_of u) os ≡ 0
plains u [] z = refl
plains u (o ∷ os) z = omega (arith, plain u o (omega (arith, z)), plains u os (omega (arith, z)))

module _ (u : Hold → ℕ) where
  abbrev held : Op → ℕ
  held o = carried_of u o

  aside : Aside (carried_of u)
  aside = record {
    move = λ m f. refl;
    append = λ f. refl;
    poll = λ f. refl;
    drop = λ f. refl;
    output = λ f. refl;
    notify = λ f mine. refl;
    call = λ f a k. refl;
    goes = λ f. refl;
  }

  -- calls but polls of ticks and runs

  on-take : (look : Look) (q : List ℕ) (w : World) → weigh held (take_by w look q).next ≡ u Hold.Executor
  on-take (First mark) [] w = omega arith
  on-take (Second mark) [] w = omega arith
  on-take look (f ∷ rest) w = omega arith

  on-copy : (b : Bool) (w : World) (f : ℕ) (h : Hold) → weigh held (copy_by b w f h).next ≡ u h
  on-copy true w f h = omega arith
  on-copy false w f h = omega arith

  on-make : (b : Bool) (w : World) → weigh held (make_tick_by b w).next ≡ u Hold.Executor
  on-make true w = omega arith
  on-make false w = omega arith

  on-room : (b : Bool) (w : World) → weigh held (make_room_by b w).next ≡ u Hold.Executor
  on-room true w = omega arith
  on-room false w = omega arith

  -- polls of handles

  on-answered : (p : ℕ) (w : World) (f : ℕ) (m : Moved) (a : Answer) → weigh held (answered p w f m a).next ≡ u (Hold.Handle f)
  on-answered p w f m a = omega (
    arith,
    weigh-append held (awaiter_ops f m.owed.awaiter) (Op.End (reply_of a) (Hold.Handle f) ∷ []),
    aside-awaiter held aside f m.owed.awaiter,
  )

  on-look : (o : Option Answer) (p : ℕ) (w : World) (f : ℕ) (a : Waker) (m : Moved) →
      weigh held (look_by o p w f a m).next ≡ u (Hold.Handle f)
  on-look None p w f a m = omega arith
  on-look (Some x) p w f a m = on-answered p (polled p w f) f m x

  on-looked : (x k c : Bool) (p : ℕ) (w : World) (f : ℕ) → weigh held (look_again_by
      (moves.look_again_by x k c (task w f)).owed.answer p w f (moves.look_again_by x k c (task w f))).next ≡ u (Hold.Handle f)
  on-looked true true c p w f = on-answered p w f (moves.look_again_by true true c (task w f)) Answer.Pending
  on-looked true false c p w f = on-answered p w f (moves.look_again_by true false c (task w f)) Answer.Closed
  on-looked false k false p w f = on-answered p w f (moves.look_again_by false k false (task w f)) Answer.Pending
  on-looked false k true p w f = on-answered p w f (moves.look_again_by false k true (task w f)) Answer.Output

  on-copy_awaiter : (b : Bool) (p : ℕ) (w : World) (f : ℕ) (a : Waker) →
      weigh held (copy_awaiter_by b p w f a).next ≡ u (Hold.Handle f)
  on-copy_awaiter true p w f a = omega arith
  on-copy_awaiter false p w f a = omega arith

  on-register : (b : Bool) (w : World) (f : ℕ) (a : Waker) (k : ℕ) → weigh held (register_by b w f a k).next ≡ u (Hold.Handle f)
  on-register true w f a k = omega arith
  on-register false w f a k = omega arith

  on-let_go : (w : World) (f : ℕ) →
      weigh held (let_go (awaiter_of w f) ++ Op.Handle (HandleOp.LookAgain f) ∷ []) ≡ u (Hold.Handle f)
  on-let_go w f = omega (
    arith,
    weigh-append held (let_go (awaiter_of w f)) (Op.Handle (HandleOp.LookAgain f) ∷ []),
    aside-let_go held aside (awaiter_of w f),
  )

  on-end_register : (b : Bool) (w : World) (f : ℕ) (a : Waker) (k : ℕ) →
      weigh held (end_register_by b w f a k).next ≡ u (Hold.Handle f)
  on-end_register true w f a k = omega (arith, on-let_go w f)
  on-end_register false w f a k = omega (arith, on-let_go w f)

  -- polls of ticks and runs

  on-search : (look : Look) (x : Ticker) (w : World) (q : List ℕ) (s : Sleeping) →
      weigh held (look_tick_by x w look q s).next ≡ u (held_as s.who)
  on-search (First mark) x w [] s = omega arith
  on-search (Second mark) x w [] s = omega arith
  on-search look Awake w (f ∷ rest) s = omega arith
  on-search look (Asleep n) w (f ∷ rest) s = omega arith
  on-search look Left w (f ∷ rest) s = omega arith

  on-copy_sleeper : (b : Bool) (w : World) (s : Sleeping) → weigh held (copy_sleeper_by b w s).next ≡ u (held_as s.who)
  on-copy_sleeper true w s = omega arith
  on-copy_sleeper false w s = omega arith

  on-anew : (b : Bool) (w : World) (s : Sleeping) → weigh held (sleep_anew_by b w s).next ≡ u (held_as s.who)
  on-anew true w s = omega arith
  on-anew false w s = omega arith

  on-listed : (b : Bool) (w : World) (n : ℕ) (s : Sleeping) → weigh held (sleep_listed_by b w n s).next ≡ u (held_as s.who)
  on-listed true w n s = omega arith
  on-listed false w n s = omega arith

  on-again : (o : Option ℕ) (w : World) (n : ℕ) (s : Sleeping) → weigh held (sleep_again_by o w n s).next ≡ u (held_as s.who)
  on-again None w n s = on-listed _ w n s
  on-again (Some at) w n s = let old = waker_at (Some at) w.sleepers.wakers in
      omega (arith, weigh-append held (sleeper_goes old) (pend_as s.who), goes-unseen held (λ f. refl) old)

  on-sleep : (x : Ticker) (w : World) (s : Sleeping) → weigh held (fall_asleep_by x w s).next ≡ u (held_as s.who)
  on-sleep Awake w s = on-anew _ w s
  on-sleep (Asleep n) w s = on-again _ w n s
  on-sleep Left w s = omega arith

  -- what a run does

  on-run_by : (b : Bool) (w : World) (x : RunPoll) (f : ℕ) → weigh held (run_by b w x f).next ≡ u (Hold.Run x.run)
  on-run_by true w x f = omega arith
  on-run_by false w x f = omega arith

  on-counted : (b : Bool) (w : World) (x : RunPoll) (f : ℕ) → weigh held (counted_by b w x f).next ≡ u (Hold.Run x.run)
  on-counted true w x f = omega arith
  on-counted false w x f = on-run_by _ _ x f

  on-up : (p : Ticker) (who : TickOrRun) → weigh held (found_by p who (Op.Sleeper SleeperOp.ExchangeFlag ∷ [])) ≡ 0
  on-up Awake who = refl
  on-up (Asleep k) who = refl
  on-up Left who = refl

  on-found : (w : World) (x : RunPoll) (f : ℕ) → weigh held (found w x f).next ≡ u (Hold.Run x.run)
  on-found w x f =
      let first = found_by (run_of w x.run).place (TickOrRun.Run x.run) (Op.Sleeper SleeperOp.ExchangeFlag ∷ []) in
      let b : Bool = eqb ((run_of w x.run).counted + 1) 64 in
      omega (
        arith,
        weigh-append held first (counted_by b w x f).next,
        on-up (run_of w x.run).place (TickOrRun.Run x.run),
        on-counted b w x f,
      )

  on-stolen : (t : Then) (w : World) (x : RunPoll) → weigh held (stolen t w x).next ≡ u (Hold.Run x.run)
  on-stolen (Then.Found f) w x = on-found w x f
  on-stolen (Then.StealPlain f) w x = omega arith
  on-stolen (Then.Run f) w x = on-run_by _ w x f
  on-stolen (Then.Walk at left) w x = omega arith

  on-length : (k : ℕ) (w : World) (s : Steal) → weigh held (steal_length_by k w s).next ≡ u (Hold.Run s.poll.run)
  on-length zero w s = on-stolen s.then w s.poll
  on-length (suc k) w s = omega arith

  on-more : (k : ℕ) (w : World) (s : Steal) → weigh held (steal_by k w s).next ≡ u (Hold.Run s.poll.run)
  on-more zero w s = on-stolen s.then w s.poll
  on-more (suc k) w s = omega arith

  on-steal_take : (q : List ℕ) (k : ℕ) (w : World) (s : Steal) → weigh held (steal_take_by q w s k).next ≡ u (Hold.Run s.poll.run)
  on-steal_take [] k w s = on-stolen s.then w s.poll
  on-steal_take (f ∷ rest) k w s = omega arith

  on-refused : (t : Then) (w : World) (x : RunPoll) (f : ℕ) → weigh held (put_refused t w x f).next ≡ u (Hold.Run x.run)
  on-refused (Then.Walk at left) w x f = omega arith
  on-refused (Then.Found g) w x f = omega (arith, on-stolen (Then.Found g) w x)
  on-refused (Then.StealPlain g) w x f = omega (arith, on-stolen (Then.StealPlain g) w x)
  on-refused (Then.Run g) w x f = omega (arith, on-stolen (Then.Run g) w x)

  on-put : (b : Bool) (p k f : ℕ) (w : World) (s : Steal) → weigh held (steal_put_by b p w s k f).next ≡ u (Hold.Run s.poll.run)
  on-put true p k f w s = on-more k (kept_by p w s.poll.run f) s
  on-put false p k f w s = on-refused s.then w s.poll f

  on-steal : (p : ℕ) (o : StealOp) (w : World) → weigh held (steal_act p o w).next ≡ u (Hold.Run (poll_in o).run)
  on-steal p (StealOp.Length s) w = on-length _ w s
  on-steal p (StealOp.OwnLength s k) w = on-more _ w s
  on-steal p (StealOp.Take s more) w = on-steal_take _ more w s
  on-steal p (StealOp.Put s more f) w = on-put _ p more f w s

  on-walk : (x : RunPoll) (qs : List ℕ) (at left : ℕ) → weigh held (walk x qs at left) ≡ u (Hold.Run x.run)
  on-walk x qs at zero = omega arith
  on-walk x qs at (suc left) = by (eqb (queue_at qs at) x.run) (on-walk x qs (next_place qs at) left)
    where
      by : (b : Bool) → weigh held (walk x qs (next_place qs at) left) ≡ u (Hold.Run x.run) → weigh held (let h : List Op = elim b [
        | true ↦ walk x qs (next_place qs at) left
        | false ↦ Op.Steal (StealOp.Length (record {
          poll = x;
          from = Own (queue_at qs at);
          then = Then.Walk (next_place qs at) left;
        })) ∷ []
      ] in h) ≡ u (Hold.Run x.run)
      by true z = z
      by false z = omega arith

  on-own : (q : List ℕ) (w : World) (x : RunPoll) → weigh held (search_own_by q w x).next ≡ u (Hold.Run x.run)
  on-own [] w x = omega arith
  on-own (f ∷ rest) w x = on-found (put_own w x.run rest) x f

  on-common : (look : Look) (q : List ℕ) (w : World) (x : RunPoll) → weigh held (search_common_by q w x look).next ≡ u (Hold.Run x.run)
  on-common (First mark) [] w x = omega arith
  on-common (Second mark) [] w x = omega arith
  on-common look (f ∷ rest) w x = omega arith

  on-look_own : (q : List ℕ) (w : World) (x : RunPoll) (at left : ℕ) →
      weigh held (look_own_by q w x at left).next ≡ u (Hold.Run x.run)
  on-look_own [] w x at left = on-walk x w.listed at left
  on-look_own (f ∷ rest) w x at left = omega (arith, on-found (put_own w x.run rest) x f)

  on-who : (who : TickOrRun) (p : ℕ) (w : World) (s : Sleeping) → s.who ≡ who →
      weigh held (search_by_who who p w s).next ≡ u (held_as who)
  on-who (TickOrRun.Tick t) p w s e = omega (arith, ap (λ (x : TickOrRun). u (held_as x)) e)
  on-who (TickOrRun.Run r) p w s e = on-own _ w _

  on-reschedule : (q : List ℕ) (w : World) (r : ℕ) (a : Reply) → weigh held (reschedule_by q w r a).next ≡ u (Hold.Run r)
  on-reschedule [] w r a = omega arith
  on-reschedule (f ∷ rest) w r a = omega arith

  on-wake_own : (p : ℕ) (h : Hint) (w : World) (x : RunPoll) → weigh held (wake_own p w x).next ≡ u (Hold.Run x.run)
  on-wake_own p h w x =
      let v : World = log w (Event.WakerCalled p (Polled.Run x.run) x.poll x.waker) in
      let next = (runs.call_by_reference p v x.waker).next in
      omega (arith, weigh-append held next (Op.End Reply.Pending (Hold.Run x.run) ∷ []), called p h v x.waker)
    where
      called : (p : ℕ) (h : Hint) (w : World) (a : Waker) → weigh held (runs.call_by_reference p w a).next ≡ 0
      called p h w (Task g) = plains u (runs.call_by_reference p w (Task g)).next
          ((calls-act p h (Op.Move Move.WakeByReference g) w refl).passes.none refl)
      called p h w (Outside y) = refl

-- a spawn is accepted, or a run is made
abbrev pub is_making : Hint → Op → Bool
is_making h (Op.Table (TableOp.Enter mark)) = true
is_making h (Op.List (ListOp.Write Section.MakeRun)) = not h.refused
is_making h _ = false

on-refused_run : (u : Hold → ℕ) (b : Bool) (w : World) → not b ≡ false → weigh (carried_of u) (make_run_by b w).next ≡ u Hold.Executor
on-refused_run u true w e = omega arith
on-refused_run u false w e = absurd (cc)

-- of what answers a call
carried-calling : (u : Hold → ℕ) (p : ℕ) (h : Hint) (o : Op) (w : World) → calling_of o ≡ 1 → is_end o ≡ false →
    is_making h o ≡ false → weigh (carried_of u) (act p h o w).next ≡ carried_of u o
carried-calling u p h (Op.Table (TableOp.Enter mark)) w a n k = absurd (cc)
carried-calling u p h (Op.Queue QueueOp.TakeTurn) w a n k = omega arith
carried-calling u p h (Op.Queue (QueueOp.Take look)) w a n k = on-take u look _ w
carried-calling u p h (Op.Table TableOp.LookAtTable) w a n k = omega arith
carried-calling u p h (Op.Waker (WakerOp.CopyWaker f held)) w a n k = on-copy u _ w f held
carried-calling u p h (Op.Handle (HandleOp.Look f x)) w a n k =
    on-look u (moves.poll (task w f)).owed.answer p w f x (moves.poll (task w f))
carried-calling u p h (Op.Handle (HandleOp.CopyAwaiter f x)) w a n k = on-copy_awaiter u _ p w f x
carried-calling u p h (Op.Handle (HandleOp.Register f x m)) w a n k = on-register u _ w f x m
carried-calling u p h (Op.Handle (HandleOp.EndRegister f x m)) w a n k = on-end_register u _ w f x m
carried-calling u p h (Op.Handle (HandleOp.LookAgain f)) w a n k = on-looked u _ _ _ p w f
carried-calling u p h (Op.Tick TickOp.MakeTick) w a n k = on-make u _ w
carried-calling u p h (Op.Tick (TickOp.Search s)) w a n k = on-who u s.who p w s refl
carried-calling u p h (Op.Tick (TickOp.Look s look)) w a n k = on-search u look _ w _ s
carried-calling u p h (Op.Tick (TickOp.CopyWaker s)) w a n k = on-copy_sleeper u _ w s
carried-calling u p h (Op.Tick (TickOp.FallAsleep s)) w a n k = on-sleep u _ w s
carried-calling u p h (Op.User (UserOp.PollOwn x)) w a n k = omega arith
carried-calling u p h (Op.List (ListOp.LockWrite s)) w a n k = omega arith
carried-calling u p h (Op.List (ListOp.Write Section.MakeRun)) w a n k = on-refused_run u h.refused w k
carried-calling u p h (Op.List (ListOp.Write (Section.Register x))) w a n k = omega arith
carried-calling u p h (Op.List (ListOp.Write (Section.Unregister r x))) w a n k = omega arith
carried-calling u p h (Op.List (ListOp.LockRead x)) w a n k = on-walk u x w.listed _ _
carried-calling u p h (Op.Steal (StealOp.Length s)) w a n k = on-steal u p (StealOp.Length s) w
carried-calling u p h (Op.Steal (StealOp.OwnLength s m)) w a n k = on-steal u p (StealOp.OwnLength s m) w
carried-calling u p h (Op.Steal (StealOp.Take s m)) w a n k = on-steal u p (StealOp.Take s m) w
carried-calling u p h (Op.Steal (StealOp.Put s m f)) w a n k = on-steal u p (StealOp.Put s m f) w
carried-calling u p h (Op.Run RunOp.MakeRoom) w a n k = on-room u _ w
carried-calling u p h (Op.Run (RunOp.TakeTurn x)) w a n k = omega arith
carried-calling u p h (Op.Run (RunOp.SearchCommon x look)) w a n k = on-common u look _ w x
carried-calling u p h (Op.Run (RunOp.LookOwn x at left)) w a n k = on-look_own u _ w x at left
carried-calling u p h (Op.Run (RunOp.WakeOwn x)) w a n k = on-wake_own u p h w x
carried-calling u p h (Op.Run (RunOp.Reschedule r x)) w a n k = on-reschedule u _ w r x
carried-calling u p h _ w a n k = absurd (cc)

pub carried-act : (u : Hold → ℕ) (p : ℕ) (h : Hint) (o : Op) (w : World) → is_end o ≡ false → is_making h o ≡ false →
    weigh (carried_of u) (act p h o w).next ≡ carried_of u o
carried-act u p h o w n k = ⊎_elim
    (λ (z : calling_of o ≡ 0). plains u (act p h o w).next ((calls-act p h o w n).passes.none z) ∙ sym (plain u o z))
    (λ (z : calling_of o ≡ 1). carried-calling u p h o w z n k) (calling-is o)

pub carried-react : (u : Hold → ℕ) (p : ℕ) (o : Op) (e : UserEnd) (w : World) → accepts o e ≡ true →
    weigh (carried_of u) (react p o e w).next ≡ carried_of u o
carried-react u p (Op.User (UserOp.Poll f)) (UserEnd.Polled answer.Pending) w a = refl
carried-react u p (Op.User (UserOp.Poll f)) (UserEnd.Polled answer.Ready) w a = refl
carried-react u p (Op.User (UserOp.Drop f)) UserEnd.Done w a = refl
carried-react u p (Op.User (UserOp.DropOutput f)) UserEnd.Done w a = refl
carried-react u p (Op.User (UserOp.CallOutside x)) UserEnd.Done w a = refl
carried-react u p (Op.User (UserOp.PollOwn x)) (UserEnd.Polled answer.Pending) w a = omega arith
carried-react u p (Op.User (UserOp.PollOwn x)) (UserEnd.Polled answer.Ready) w a = omega arith
carried-react u p (Op.User (UserOp.DropOwn r)) UserEnd.Done w a = refl
carried-react u p _ _ w a = absurd (cc)
