-- For calls_can_be_begun.
-- A call that isn't on the executor takes no future up and polls none.
use Rattle.std.proofs.Common.{◌≡◌, ◌∙◌, ℕ, List, [], ◌∷◌, ◌++◌, Bool, true, false, ◌&&◌, cond, refl, sym, arith}
use Rattle.std.proofs.lemmas.Bool.Decides.{nat_tests}
use Rattle.std.specs.Prelude.{Option, Some, None}
use Rattle.task_moves.proofs.Cases.{by_move}
use Rattle.task_moves.specs.declared.moves.owed.Answer.{Answer}
use Rattle.task_moves.specs.declared.moves.owed.FutureDebt.{FutureDebt}
use Rattle.task_moves.specs.declared.moves.owed.FutureDebt.TheVariants.{PollFuture, DropFuture}
use Rattle.task_moves.specs.declared.moves.owed.AwaiterDebt.{AwaiterDebt}
use Rattle.call_laws.proofs.Types.{Awaiter, Call, ClosingOp, Event, HandleOp, Hold, ListOp, Mark, Plain, Urgent, Move, Moved}
use Rattle.call_laws.proofs.Types.{Op, Owed}
use Rattle.call_laws.proofs.Types.{Polled, QueueOp, RunOp, Section, SleeperOp, Sleeping, State, TableOp, TickOp, TickOrRun}
use Rattle.call_laws.proofs.Types.{UserEnd, UserOp, Waker, Task, Outside, WakerOp, Hint}
use Rattle.executor_model.specs.Acts.{entry_goes, reply_of, waker_goes}
use Rattle.executor_model.specs.Acts.{answered, append_by, call_waker, closing_ops, copy_awaiter_by, copy_by, drain_by}
use Rattle.executor_model.specs.Acts.{drop_next_by, close}
use Rattle.executor_model.specs.Acts.{end_register_by, leave_by, let_go, let_go_by, look_again_by}
use Rattle.executor_model.specs.Acts.{look_by, move_by, notify_by, polled, register_by, told, told_of, is_last_waker}
use Rattle.executor_model.specs.Acts.{is_told, wake, wake_next_by}
use Rattle.executor_model.specs.ActsOfSleepers.{exchange_by, hand_out_by, polled_as, leave_sleepers_by, sleeper_goes}
use Rattle.executor_model.specs.ActsOfSleepers.{tell_and_return, wake_up_by}
use Rattle.executor_model.specs.Carried.{awaiter_ops, future_ops}
use Rattle.executor_model.specs.Doing.{act}
use Rattle.executor_model.specs.Steps.{accepts, react}
use Rattle.executor_model.specs.Weights.{weigh}
use Rattle.executor_model.specs.World.{World, Ticker, Awake, Asleep, Left, among, awaiter_of, log, queue_of, task}
use Rattle.executor_model.proofs.Promises.CallServes.{asks, leaves, makes_run, makes_tick, misfit, polls_by, polls_run}
use Rattle.executor_model.proofs.Promises.CallServes.{serves, spawns, tries}
use Rattle.executor_model.proofs.Quiet.Calls.{is_end}
use Rattle.executor_model.proofs.Steps.Asides.{aside-closing, aside-leak_next, aside-leak_out}
use Rattle.executor_model.proofs.Steps.Lists.{weigh-append}
use Rattle.executor_model.proofs.Steps.Owed.{FewOwed, owed-awaiter, owed-nothing}
use Rattle.executor_parts.specs.Sleepers.{waker_of}
use Rattle.call_laws.specs.InProgress.{uses_executor}
use Rattle.task_moves.specs.Moves as moves
use Rattle.executor_model.specs.declared.event.Answer.TheVariants as answer

-- it takes a future up, polls it, or ends its poll
abbrev pub future_move : Move → ℕ
future_move Move.TakeUp = 1
future_move Move.EndReady = 1
future_move Move.EndPending = 1
future_move _ = 0

abbrev pub futures_of : Op → ℕ
futures_of (Op.Move m f) = future_move m
futures_of (Op.Table (TableOp.TakeToPoll f)) = 1
futures_of (Op.Table (TableOp.PutBack f)) = 1
futures_of (Op.User (UserOp.Poll f)) = 1
futures_of _ = 0

abbrev polling : Option FutureDebt → ℕ
polling (Some PollFuture) = 1
polling (Some DropFuture) = 0
polling None = 0

unpolled : (m : Move) (s : State) → future_move m ≡ 0 → polling (moves.after m s).owed.future ≡ 0
unpolled = by_move _
    (λ s e. grind (arith, nat_tests))
    (λ s e. grind (arith, nat_tests))
    (λ s e. grind (arith, nat_tests))
    (λ s e. grind (arith, nat_tests))
    (λ s e. absurd (omega (arith, e)))
    (λ s e. grind (arith, nat_tests))
    (λ s e. grind (arith, nat_tests))
    (λ s e. absurd (omega (arith, e)))
    (λ s e. absurd (omega (arith, e)))
    (λ s e. grind (arith, nat_tests))
    (λ s e. grind (arith, nat_tests))
    (λ s e. grind (arith, nat_tests))
    (λ s e. grind (arith, nat_tests))
    (λ s e. grind (arith, nat_tests))
    (λ s e. grind (arith, nat_tests))
    (λ s e. grind (arith, nat_tests))
    (λ s e. grind (arith, nat_tests))
    (λ s e. grind (arith, nat_tests))
    (λ s e. grind (arith, nat_tests))

-- what a move owes

few : (f : ℕ) → FewOwed futures_of f
few f = record {
  append = refl;
  output = refl;
  release = refl;
  settle_closed = refl;
  give_up = refl;
  end_closed = refl;
  detach = refl;
  let_go = refl;
}

on-future : (b : Bool) (f : ℕ) (o : Option FutureDebt) → polling o ≡ 0 → weigh futures_of (future_ops b f o) ≡ 0
on-future b f (Some PollFuture) e = absurd (omega (arith, e))
on-future true f (Some DropFuture) e = refl
on-future false f (Some DropFuture) e = refl
on-future b f None e = refl

on-awaiter : (f : ℕ) (o : Option AwaiterDebt) → weigh futures_of (awaiter_ops f o) ≡ 0
on-awaiter f o = owed-awaiter futures_of f (record { notify = λ mine. refl }) o

on-move : (b : Bool) (m : Move) (p : ℕ) (w : World) (f : ℕ) → future_move m ≡ 0 → weigh futures_of (move_by b m p w f).next ≡ 0
on-move true m p w f e =
    let u = told_of (is_last_waker m (task w f)) (is_told m (task w f)) m p w f in
    let o : Owed = (moves.after m (task w f)).owed in
    owed-nothing futures_of f (few f) (among f u.table) o
    (on-future (among f u.table) f o.future (unpolled m (task w f) e)) (on-awaiter f o.awaiter)
on-move false m p w f e = refl

both : (xs ys : List Op) → weigh futures_of xs ≡ 0 → weigh futures_of ys ≡ 0 → weigh futures_of (xs ++ ys) ≡ 0
both xs ys a b = omega (arith, weigh-append futures_of xs ys, a, b)

on-wake : (p : ℕ) (w : World) (f : ℕ) → weigh futures_of (wake p w f).next ≡ 0
on-wake p w f = on-move true Move.Wake p w f refl

-- other things

on-goes : (a : Waker) → weigh futures_of (waker_goes a) ≡ 0
on-goes (Task g) = refl
on-goes (Outside x) = refl

on-let_go : (o : Option Awaiter) → weigh futures_of (let_go o) ≡ 0
on-let_go None = refl
on-let_go (Some a) = on-goes a.waker

on-told : (b : Bool) (f : ℕ) (a : Option Awaiter) → weigh futures_of (told b f a) ≡ 0
on-told b f None = refl
on-told true f (Some a) = on-goes a.waker
on-told false f (Some a) = refl

on-call : (p : ℕ) (w : World) (o : Polled) (a : Waker) (k : ℕ) → weigh futures_of (call_waker p w o a k).next ≡ 0
on-call p w o (Task g) k = on-wake p (log w (Event.WakerCalled p o k (Task g))) g
on-call p w o (Outside x) k = refl

on-leave : (b c : Bool) (w : World) (f : ℕ) → weigh futures_of (leave_by b w f).next ≡ 0
on-leave true c w f = by w.is_static
  where
    by : (b : Bool) → weigh futures_of (entry_goes b f) ≡ 0
    by true = refl
    by false = refl
on-leave false c w f = refl

on-append : (b : Bool) (w : World) (m : Mark) (f : ℕ) → weigh futures_of (append_by b w m f).next ≡ 0
on-append true w m f = refl
on-append false w m f = refl

on-copy : (b : Bool) (w : World) (f : ℕ) (held : Hold) → weigh futures_of (copy_by b w f held).next ≡ 0
on-copy true w f held = refl
on-copy false w f held = refl

on-answered : (p : ℕ) (w : World) (f : ℕ) (m : Moved) (a : Answer) → weigh futures_of (answered p w f m a).next ≡ 0
on-answered p w f m a =
    both (awaiter_ops f m.owed.awaiter) (Op.End (reply_of a) (Hold.Handle f) ∷ []) (on-awaiter f m.owed.awaiter) refl

on-look : (o : Option Answer) (p : ℕ) (w : World) (f : ℕ) (a : Waker) (m : Moved) → weigh futures_of (look_by o p w f a m).next ≡ 0
on-look None p w f a m = refl
on-look (Some x) p w f a m = on-answered p (polled p w f) f m x

on-again : (o : Option Answer) (p : ℕ) (w : World) (f : ℕ) (m : Moved) → weigh futures_of (look_again_by o p w f m).next ≡ 0
on-again None p w f m = refl
on-again (Some x) p w f m = on-answered p w f m x

on-copy_awaiter : (b : Bool) (p : ℕ) (w : World) (f : ℕ) (a : Waker) → weigh futures_of (copy_awaiter_by b p w f a).next ≡ 0
on-copy_awaiter true p w f a = refl
on-copy_awaiter false p w f a = refl

on-register : (b : Bool) (w : World) (f : ℕ) (a : Waker) (k : ℕ) → weigh futures_of (register_by b w f a k).next ≡ 0
on-register true w f a k = refl
on-register false w f a k = refl

on-end_register : (b : Bool) (w : World) (f : ℕ) (a : Waker) (k : ℕ) → weigh futures_of (end_register_by b w f a k).next ≡ 0
on-end_register b w f a k = by b (both (let_go (awaiter_of w f)) (Op.Handle (HandleOp.LookAgain f) ∷ []) (on-let_go (awaiter_of w f)) refl)
  where
    by : (b : Bool) → weigh futures_of (let_go (awaiter_of w f) ++ Op.Handle (HandleOp.LookAgain f) ∷ []) ≡ 0 →
        weigh futures_of (end_register_by b w f a k).next ≡ 0
    by true z = omega (arith, z)
    by false z = z

on-notify : (b : Bool) (w : World) (f : ℕ) (mine : Bool) → weigh futures_of (notify_by b w f mine).next ≡ 0
on-notify true w f mine = refl
on-notify false w f mine = refl

on-let_go_by : (b : Bool) (w : World) (f : ℕ) → weigh futures_of (let_go_by b w f).next ≡ 0
on-let_go_by true w f = refl
on-let_go_by false w f = on-let_go (awaiter_of w f)

on-exchange : (b : Bool) (w : World) → weigh futures_of (exchange_by b w).next ≡ 0
on-exchange true w = refl
on-exchange false w = refl

on-hand_out : (b : Bool) (o : Option Sleeping) (w : World) → weigh futures_of (hand_out_by b o w).next ≡ 0
on-hand_out true None w = refl
on-hand_out true (Some s) w = refl
on-hand_out false o w = refl

on-sleeper : (o : Option Sleeping) → weigh futures_of (sleeper_goes o) ≡ 0
on-sleeper None = refl
on-sleeper (Some s) = on-goes s.waker

on-up : (x : Ticker) (w : World) (who : TickOrRun) → weigh futures_of (wake_up_by x w who).next ≡ 0
on-up (Asleep n) w who = on-sleeper _
on-up Awake w who = refl
on-up Left w who = refl

on-return : (b : Bool) → weigh futures_of (tell_and_return b) ≡ 0
on-return true = refl
on-return false = refl

on-left : (x : Ticker) (w : World) (who : TickOrRun) → weigh futures_of (leave_sleepers_by x w who).next ≡ 0
on-left (Asleep n) w who = both (sleeper_goes (waker_of n w.sleepers.wakers)) _ (on-sleeper _) (on-return _)
on-left Awake w who = refl
on-left Left w who = refl

on-drop_next : (p : ℕ) (w : World) (ls : List ℕ) → weigh futures_of (drop_next_by p w ls).next ≡ 0
on-drop_next p w [] = refl
on-drop_next p w (f ∷ rest) = omega (arith, aside-closing futures_of (λ o. refl) rest (w.waking ++ f ∷ []))

on-wake_next : (p : ℕ) (w : World) (ws : List ℕ) → weigh futures_of (wake_next_by p w ws).next ≡ 0
on-wake_next p w [] = refl
on-wake_next p w (f ∷ rest) = both (wake p (record w { waking = rest }) f).next (closing_ops [] rest)
    (on-wake p (record w { waking = rest }) f) (aside-closing futures_of (λ o. refl) [] rest)

on-close : (m : Mark) (w : World) → weigh futures_of (close w m).next ≡ 0
on-close Urgent w = refl
on-close Plain w = refl

on-drain : (m : Mark) (p : ℕ) (w : World) (q : List ℕ) → weigh futures_of (drain_by p w m q).next ≡ 0
on-drain Urgent p w [] = refl
on-drain Plain p w [] = refl
on-drain m p w (f ∷ rest) = refl

-- what serves a call on the executor serves no other

off : (c : Call) → uses_executor c ≡ true → uses_executor c ≡ false → ⊥
off c a b = let n : true ≡ false = sym a ∙ b in absurd (cc)

of-spawn : (c : Call) → spawns c ≡ true → uses_executor c ≡ true
of-spawn (Call.Spawn m) e = refl
of-spawn _ e = absurd (cc)

of-try : (c : Call) → tries c ≡ true → uses_executor c ≡ true
of-try Call.TryTick e = refl
of-try _ e = absurd (cc)

of-ask : (c : Call) → asks c ≡ true → uses_executor c ≡ true
of-ask Call.IsEmpty e = refl
of-ask _ e = absurd (cc)

of-tick : (c : Call) → makes_tick c ≡ true → uses_executor c ≡ true
of-tick Call.NewTick e = refl
of-tick _ e = absurd (cc)

of-make : (c : Call) → makes_run c ≡ true → uses_executor c ≡ true
of-make Call.NewRun e = refl
of-make _ e = absurd (cc)

of-run : (c : Call) → polls_run c ≡ true → uses_executor c ≡ true
of-run (Call.PollRun r b) e = refl
of-run _ e = absurd (cc)

of-leave : (c : Call) → leaves c ≡ true → uses_executor c ≡ true
of-leave (Call.PollRun r b) e = refl
of-leave (Call.DropRun r) e = refl
of-leave _ e = absurd (cc)

of-who : (who : TickOrRun) (c : Call) → polls_by who c ≡ true → uses_executor c ≡ true
of-who (TickOrRun.Tick t) (Call.PollTick u b) e = refl
of-who (TickOrRun.Tick t) (Call.PollRun r b) e = refl
of-who (TickOrRun.Run r) (Call.PollRun q b) e = refl
of-who (TickOrRun.Tick t) _ e = absurd (cc)
of-who (TickOrRun.Run r) _ e = absurd (cc)

left-true : (a b : Bool) → (a && b) ≡ true → a ≡ true
left-true true b e = refl
left-true false b e = absurd (cc)

-- an operation that serves the call c, which isn't on the executor
module _ (c : Call) (p : ℕ) (h : Hint) (w : World) (off_it : uses_executor c ≡ false) where
  idle-by : (o : Op) → serves o c ≡ true → is_end o ≡ false → futures_of o ≡ 0 → weigh futures_of (act p h o w).next ≡ 0
  idle-by (Op.Move m f) s n e = on-move _ m p w f e
  idle-by (Op.Table (TableOp.Enter mark)) s n e = absurd (off c (of-spawn c s) off_it)
  idle-by (Op.Table TableOp.LookAtTable) s n e = absurd (off c (of-ask c s) off_it)
  idle-by (Op.Table (TableOp.TakeToPoll f)) s n e = absurd (omega (arith, e))
  idle-by (Op.Table (TableOp.PutBack f)) s n e = absurd (omega (arith, e))
  idle-by (Op.Table (TableOp.TakeToDrop f)) s n e = refl
  idle-by (Op.Table (TableOp.LeaveTable f)) s n e = on-leave _ true w f
  idle-by (Op.Queue QueueOp.TakeTurn) s n e = absurd (off c (of-try c s) off_it)
  idle-by (Op.Queue (QueueOp.Take look)) s n e = absurd (off c (of-try c s) off_it)
  idle-by (Op.Queue (QueueOp.Append f)) s n e = on-append _ w _ f
  idle-by (Op.User (UserOp.BeginDrop f)) s n e = refl
  idle-by (Op.User (UserOp.BeginDropOutput f)) s n e = refl
  idle-by (Op.User (UserOp.Poll f)) s n e = absurd (omega (arith, e))
  idle-by (Op.User (UserOp.Drop f)) s n e = refl
  idle-by (Op.User (UserOp.DropOutput f)) s n e = refl
  idle-by (Op.User (UserOp.CallOutside x)) s n e = refl
  idle-by (Op.User (UserOp.PollOwn x)) s n e = absurd (off c (of-run c s) off_it)
  idle-by (Op.User (UserOp.DropOwn r)) s n e = refl
  idle-by (Op.Waker (WakerOp.CopyWaker f held)) s n e = on-copy _ w f held
  idle-by (Op.Waker (WakerOp.CallAwaiter f a k)) s n e = on-call p w (Polled.Handle f) a k
  idle-by (Op.Handle (HandleOp.Look f a)) s n e = on-look (moves.poll (task w f)).owed.answer p w f a (moves.poll (task w f))
  idle-by (Op.Handle (HandleOp.CopyAwaiter f a)) s n e = on-copy_awaiter _ p w f a
  idle-by (Op.Handle (HandleOp.Register f a k)) s n e = on-register _ w f a k
  idle-by (Op.Handle (HandleOp.EndRegister f a k)) s n e = on-end_register _ w f a k
  idle-by (Op.Handle (HandleOp.LookAgain f)) s n e =
      on-again (moves.look_again (task w f)).owed.answer p w f (moves.look_again (task w f))
  idle-by (Op.Handle (HandleOp.Notify f mine)) s n e = on-notify _ w f mine
  idle-by (Op.Handle (HandleOp.EndNotify f mine)) s n e = on-told _ f (awaiter_of w f)
  idle-by (Op.Handle (HandleOp.LetGo f)) s n e = on-let_go_by _ w f
  idle-by (Op.Sleeper SleeperOp.ExchangeFlag) s n e = on-exchange _ w
  idle-by (Op.Sleeper SleeperOp.HandOut) s n e = on-hand_out _ _ w
  idle-by (Op.Sleeper (SleeperOp.CallSleeper x)) s n e = on-call p w (polled_as x.who) x.waker x.poll
  idle-by (Op.Tick TickOp.MakeTick) s n e = absurd (off c (of-tick c s) off_it)
  idle-by (Op.Tick (TickOp.Search x)) s n e = absurd (off c (of-who x.who c s) off_it)
  idle-by (Op.Tick (TickOp.Look x look)) s n e = absurd (off c (of-who x.who c s) off_it)
  idle-by (Op.Tick (TickOp.CopyWaker x)) s n e = absurd (off c (of-who x.who c s) off_it)
  idle-by (Op.Tick (TickOp.FallAsleep x)) s n e = absurd (off c (of-who x.who c s) off_it)
  idle-by (Op.Tick (TickOp.WakeUp who)) s n e = on-up _ w who
  idle-by (Op.Tick (TickOp.Leave who)) s n e = on-left _ w who
  idle-by (Op.List (ListOp.LockWrite x)) s n e = refl
  idle-by (Op.List (ListOp.Write Section.MakeRun)) s n e = absurd (off c (of-make c s) off_it)
  idle-by (Op.List (ListOp.Write (Section.Register x))) s n e = refl
  idle-by (Op.List (ListOp.Write (Section.Unregister r a))) s n e = refl
  idle-by (Op.List ListOp.UnlockWrite) s n e = refl
  idle-by (Op.List (ListOp.LockRead x)) s n e = absurd (off c (of-run c s) off_it)
  idle-by (Op.List ListOp.UnlockRead) s n e = refl
  idle-by (Op.Steal o) s n e = absurd (off c (of-run c s) off_it)
  idle-by (Op.Run RunOp.MakeRoom) s n e = absurd (off c (of-make c s) off_it)
  idle-by (Op.Run RunOp.ReturnRoom) s n e = refl
  idle-by (Op.Run (RunOp.TakeTurn x)) s n e = absurd (off c (of-run c s) off_it)
  idle-by (Op.Run (RunOp.SearchCommon x look)) s n e = absurd (off c (of-run c s) off_it)
  idle-by (Op.Run (RunOp.LookOwn x at left)) s n e = absurd (off c (of-run c s) off_it)
  idle-by (Op.Run (RunOp.WakeOwn x)) s n e = absurd (off c (of-run c s) off_it)
  idle-by (Op.Run (RunOp.Reschedule r a)) s n e = absurd (off c (of-leave c (left-true (leaves c) _ s)) off_it)
  idle-by (Op.Closing ClosingOp.TakeOut) s n e = aside-closing futures_of (λ o. refl) w.table w.waking
  idle-by (Op.Closing ClosingOp.DropNext) s n e = on-drop_next p w w.leaving
  idle-by (Op.Closing ClosingOp.WakeNext) s n e = on-wake_next p w w.waking
  idle-by (Op.Closing (ClosingOp.Close mark)) s n e = on-close mark w
  idle-by (Op.Closing (ClosingOp.Drain mark)) s n e = on-drain mark p w (queue_of w mark).items
  idle-by (Op.Closing ClosingOp.LeakOut) s n e = aside-leak_out futures_of refl _ w
  idle-by (Op.Closing ClosingOp.LeakNext) s n e = aside-leak_next futures_of refl on-wake _ p w w.waking
  idle-by (Op.End r held) s n e = absurd (cc)

pub served : (b : Bool) → cond {A = ℕ} b 0 1 ≡ 0 → b ≡ true
served true e = refl
served false e = absurd (omega (arith, e))

pub idle-act : (c : Call) (p : ℕ) (h : Hint) (o : Op) (w : World) → uses_executor c ≡ false → is_end o ≡ false →
    misfit c o ≡ 0 → futures_of o ≡ 0 → weigh futures_of (act p h o w).next ≡ 0
idle-act c p h o w u n m e = idle-by c p h w u o (served (serves o c) m) n e

pub idle-react : (p : ℕ) (o : Op) (e : UserEnd) (w : World) → accepts o e ≡ true → futures_of o ≡ 0 →
    weigh futures_of (react p o e w).next ≡ 0
idle-react p (Op.User (UserOp.Poll f)) u w a e = absurd (omega (arith, e))
idle-react p (Op.User (UserOp.Drop f)) UserEnd.Done w a e = refl
idle-react p (Op.User (UserOp.DropOutput f)) UserEnd.Done w a e = refl
idle-react p (Op.User (UserOp.CallOutside x)) UserEnd.Done w a e = refl
idle-react p (Op.User (UserOp.PollOwn x)) (UserEnd.Polled answer.Pending) w a e = refl
idle-react p (Op.User (UserOp.PollOwn x)) (UserEnd.Polled answer.Ready) w a e = refl
idle-react p (Op.User (UserOp.DropOwn r)) UserEnd.Done w a e = refl
idle-react p _ _ w a e = absurd (cc)
