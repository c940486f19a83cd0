-- For common_futures_are_in_reach and arrival_order_needs_fewer_ticks.
-- What happens within a lone call that searches, once its future is taken: the queue and the trace only get longer,
-- and no other call begins.
use Rattle.std.proofs.Common.{◌≡◌, ℕ, ◌+◌, List, [], ◌∷◌, ◌++◌, Bool, true, false, ◌||◌, refl, arith}
use Rattle.std.proofs.Common.{sym, ap, ◌∙◌, append-nil, append_assoc}
use Rattle.std.specs.Prelude.{Option, Some, None}
use Rattle.queue_steps.specs.ClosableQueue.{appended}
use Rattle.executor_parts.specs.Sleepers.{waker_of}
use Rattle.executor_laws.proofs.Types.{Mark, Plain, Urgent, Move, Moved, Answer, Event, Waker, Task, Outside, Op, ClosingOp, HandleOp}
use Rattle.executor_laws.proofs.Types.{Polled, QueueOp, RunOp, Sleeping, SleeperOp, TickOrRun, TableOp, TickOp, UserOp, WakerOp, Hint}
use Rattle.executor_laws.proofs.Types.{UserEnd}
use Rattle.executor_model.specs.{Queues.Queues, Queues.queue_in, Queues.with_queue, Sound.times, Trace.Trace, Trace.has}
use Rattle.executor_model.specs.{ActsOfRuns.return_room, ActsOfSleepers.wake_up_by, ActsOfSleepers.polled_as, World.Ticker, World.Awake}
use Rattle.executor_model.specs.{World.Asleep, World.Left, World.World, World.Done, World.done, World.log, World.log_if, World.task}
use Rattle.executor_model.specs.{World.put, World.among, World.awaiter_of, World.queue_of, World.queued_in, Carried.carried, Acts.append_by}
use Rattle.executor_model.specs.{Acts.entry_goes, Acts.leave_by, Acts.let_go_by, Acts.notify_by, Acts.call_waker, Steps.waits}
use Rattle.executor_model.specs.{Steps.accepts, Steps.react, Weights.weigh, Doing.sleeper_act, Doing.act, ActsOfSleepers.exchange_by}
use Rattle.executor_model.specs.{ActsOfSleepers.hand_out_by}
use Rattle.executor_model.proofs.{Steps.SleepersNext.goes-unseen, Steps.Lists.times-append, Steps.QueuesByMark.times-all}
use Rattle.executor_model.proofs.{Steps.Asides.Aside, Steps.Asides.aside-let_go, Steps.Asides.aside-owed, Steps.Asides.aside-told}
use Rattle.task_moves.specs.Moves as moves

-- what belongs to no such call whose future is taken
abbrev pub stray_of : Op → ℕ
stray_of (Op.Table (TableOp.Enter mark)) = 1
stray_of (Op.Queue QueueOp.TakeTurn) = 1
stray_of (Op.Queue (QueueOp.Take look)) = 1
stray_of (Op.Table TableOp.LookAtTable) = 1
stray_of (Op.Waker (WakerOp.CopyWaker f held)) = 1
stray_of (Op.Handle (HandleOp.Look f a)) = 1
stray_of (Op.Handle (HandleOp.CopyAwaiter f a)) = 1
stray_of (Op.Handle (HandleOp.Register f a k)) = 1
stray_of (Op.Handle (HandleOp.EndRegister f a k)) = 1
stray_of (Op.Handle (HandleOp.LookAgain f)) = 1
stray_of (Op.Closing ClosingOp.TakeOut) = 1
stray_of (Op.Closing ClosingOp.DropNext) = 1
stray_of (Op.Closing ClosingOp.WakeNext) = 1
stray_of (Op.Closing (ClosingOp.Close mark)) = 1
stray_of (Op.Closing (ClosingOp.Drain mark)) = 1
stray_of (Op.Closing ClosingOp.LeakOut) = 1
stray_of (Op.Closing ClosingOp.LeakNext) = 1
stray_of (Op.Tick TickOp.MakeTick) = 1
stray_of (Op.Tick (TickOp.Search s)) = 1
stray_of (Op.Tick (TickOp.Look s look)) = 1
stray_of (Op.Tick (TickOp.CopyWaker s)) = 1
stray_of (Op.Tick (TickOp.FallAsleep s)) = 1
stray_of (Op.Tick (TickOp.Leave who)) = 1
stray_of (Op.List o) = 1
stray_of (Op.Steal o) = 1
stray_of (Op.Run RunOp.ReturnRoom) = 0
stray_of (Op.Run o) = 1
stray_of (Op.User (UserOp.PollOwn x)) = 1
stray_of (Op.User (UserOp.DropOwn r)) = 1
stray_of (Op.End a held) = 1
stray_of _ = 0

abbrev pub is_turn : Event → Bool
is_turn (Event.Looked p m) = true
is_turn _ = false

-- nothing strays, no turn is taken, and queues and trace get longer at their ends
pub record Inner (w : World) (d : Done) : Type 0 where
  pub plain : weigh stray_of d.next ≡ 0
  pub added : Mark → List ℕ
  pub queue : (m : Mark) → (queue_of d.world m).items ≡ (queue_of w m).items ++ added m
  pub events : Trace
  pub no_turn : has is_turn events ≡ false
  pub trace : d.world.trace ≡ w.trace ++ events
  pub there : d.world.gone ≡ w.gone

-- more is queued
pub more-queued : (f : ℕ) (w : World) (d : Done) → (i : Inner w d) →
    times f (queued_in d.world) ≡ times f (queued_in w) + (times f (i.added Urgent) + times f (i.added Plain))
more-queued f w d i = omega (
  arith,
  times-all f d.world.queues,
  times-all f w.queues,
  ap (times f) (i.queue Urgent),
  ap (times f) (i.queue Plain),
  times-append f (queue_of w Urgent).items (i.added Urgent),
  times-append f (queue_of w Plain).items (i.added Plain),
)

no-stray : Aside stray_of
no-stray = record {
  move = λ m f. refl;
  append = λ f. refl;
  poll = λ f. refl;
  drop = λ f. refl;
  output = λ f. refl;
  notify = λ f mine. refl;
  call = λ f a k. refl;
  goes = λ f. refl;
}

-- queue, trace and the executor stay
still : (w v : World) (next : List Op) → v.queues ≡ w.queues → v.trace ≡ w.trace → v.gone ≡ w.gone →
    weigh stray_of next ≡ 0 →
    Inner w (done v next)
still w v next q t g z = record {
  plain = z;
  added = λ m. [];
  queue = λ m. ap (λ (x : Queues). (queue_in m x).items) q ∙ sym (append-nil (queue_of w m).items);
  events = [];
  no_turn = refl;
  trace = t ∙ sym (append-nil w.trace);
  there = g;
}

-- something happens
abbrev pub logged : (w v : World) (e : Event) (next : List Op) → is_turn e ≡ false → v.queues ≡ w.queues → v.trace ≡ w.trace ++ e ∷ [] →
    v.gone ≡ w.gone →
    weigh stray_of next ≡ 0 → Inner w (done v next)
logged w v e next u q t g z = record {
  plain = z;
  added = λ m. [];
  queue = λ m. ap (λ (x : Queues). (queue_in m x).items) q ∙ sym (append-nil (queue_of w m).items);
  events = e ∷ [];
  no_turn = ap (λ (b : Bool). b || false) u;
  trace = t;
  there = g;
}

pub inner-carried : (w : World) (f : ℕ) (m : Moved) → Inner w (carried w f m)
inner-carried w f m = still w (put w f m.state) _ refl refl refl
    (aside-owed stray_of no-stray f (among f w.table) m.owed)

inner-logged : (b : Bool) (w : World) (e : Event) → is_turn e ≡ false → (f : ℕ) (m : Moved) → Inner w (carried (log_if b w e) f m)
inner-logged true w e u f m =
    logged w (put (log w e) f m.state) e _ u refl refl refl (aside-owed stray_of no-stray f (among f w.table) m.owed)
inner-logged false w e u f m = inner-carried w f m

-- after an event
then-inner : (w : World) (e : Event) (d : Done) → is_turn e ≡ false → Inner (log w e) d → Inner w d
then-inner w e d u i = record {
  plain = i.plain;
  added = i.added;
  queue = i.queue;
  events = e ∷ i.events;
  no_turn = ap (λ (b : Bool). b || has is_turn i.events) u ∙ i.no_turn;
  trace = i.trace
      ∙ append_assoc w.trace (e ∷ []) i.events;
  there = i.there;
}

-- two events, or one, or none
inner-told : (last b : Bool) (w : World) (e c : Event) → is_turn e ≡ false → is_turn c ≡ false → (f : ℕ) (m : Moved) →
    Inner w (carried (log_if last (log_if b w e) c) f m)
inner-told last true w e c u v f m =
    then-inner w e (carried (log_if last (log w e) c) f m) u (inner-logged last (log w e) c v f m)
inner-told last false w e c u v f m = inner-logged last w c v f m

-- what is put behind that queue
abbrev pub behind : Mark → ℕ → Mark → List ℕ
behind Plain f Plain = f ∷ []
behind Urgent f Urgent = f ∷ []
behind Plain f Urgent = []
behind Urgent f Plain = []

put-behind : (n : Mark) (f : ℕ) (qs : Queues) (m : Mark) →
    (queue_in m (with_queue n (appended (queue_in n qs) f) qs)).items ≡ (queue_in m qs).items ++ behind n f m
put-behind Plain f qs Plain = refl
put-behind Urgent f qs Urgent = refl
put-behind Plain f qs Urgent = sym (append-nil qs.urgent.items)
put-behind Urgent f qs Plain = sym (append-nil qs.plain.items)

inner-append : (b : Bool) (w : World) (mark : Mark) (f : ℕ) → Inner w (append_by b w mark f)
inner-append true w mark f = record {
  plain = refl;
  added = behind mark f;
  queue = λ m. put-behind mark f w.queues m;
  events = [];
  no_turn = refl;
  trace = sym (append-nil w.trace);
  there = refl;
}
inner-append false w mark f = still w w _ refl refl refl refl

entry-inner : (b : Bool) (f : ℕ) → weigh stray_of (entry_goes b f) ≡ 0
entry-inner true f = refl
entry-inner false f = refl

inner-leave : (b : Bool) (w : World) (f : ℕ) → Inner w (leave_by b w f)
inner-leave true w f = still w _ _ refl refl refl (entry-inner w.is_static f)
inner-leave false w f = still w _ _ refl refl refl refl

inner-notify : (b : Bool) (w : World) (f : ℕ) (mine : Bool) → Inner w (notify_by b w f mine)
inner-notify true w f mine = still w _ _ refl refl refl refl
inner-notify false w f mine = still w _ _ refl refl refl refl

inner-let_go : (b : Bool) (w : World) (f : ℕ) → Inner w (let_go_by b w f)
inner-let_go true w f = still w _ _ refl refl refl refl
inner-let_go false w f = still w _ _ refl refl refl (aside-let_go stray_of no-stray (awaiter_of w f))

inner-call : (p : ℕ) (w : World) (o : Polled) (a : Waker) (k : ℕ) → Inner w (call_waker p w o a k)
inner-call p w o (Task g) k =
    then-inner w (Event.WakerCalled p o k (Task g)) _ refl
    (inner-logged _ (log w (Event.WakerCalled p o k (Task g))) (Event.Woken p g) refl g
    (moves.wake (task w g)))
inner-call p w o (Outside x) k = logged w _ (Event.WakerCalled p o k (Outside x)) _ refl refl refl refl refl

inner-exchange : (b : Bool) (w : World) → Inner w (exchange_by b w)
inner-exchange true w = still w _ _ refl refl refl refl
inner-exchange false w = still w _ _ refl refl refl refl

inner-hand_out : (b : Bool) (o : Option Sleeping) (w : World) → Inner w (hand_out_by b o w)
inner-hand_out true None w = still w _ _ refl refl refl refl
inner-hand_out true (Some s) w = still w _ _ refl refl refl refl
inner-hand_out false o w = still w _ _ refl refl refl refl

inner-sleeper : (p : ℕ) (o : SleeperOp) (w : World) → Inner w (sleeper_act p o w)
inner-sleeper p SleeperOp.ExchangeFlag w = inner-exchange _ w
inner-sleeper p SleeperOp.HandOut w = inner-hand_out _ _ w
inner-sleeper p (SleeperOp.CallSleeper s) w = inner-call p w (polled_as s.who) s.waker s.poll

-- a tick wakes up, and its old waker goes
inner-up : (x : Ticker) (w : World) (who : TickOrRun) → Inner w (wake_up_by x w who)
inner-up Awake w who = still w w [] refl refl refl refl
inner-up (Asleep n) w who =
    still w (wake_up_by (Asleep n) w who).world (wake_up_by (Asleep n) w who).next refl refl refl
    (goes-unseen stray_of (λ f. refl) (waker_of n w.sleepers.wakers))
inner-up Left w who = still w w [] refl refl refl refl

pub inner-act : (p : ℕ) (h : Hint) (o : Op) (w : World) → waits o ≡ false → stray_of o ≡ 0 → Inner w (act p h o w)
inner-act p h (Op.Queue (QueueOp.Append f)) w n z = inner-append _ w _ f
inner-act p h (Op.Move Move.WakeByReference f) w n z =
    inner-logged _ w (Event.Woken p f) refl f (moves.wake_by_reference (task w f))
inner-act p h (Op.Move Move.Wake f) w n z = inner-logged _ w (Event.Woken p f) refl f (moves.wake (task w f))
inner-act p h (Op.Move Move.Release f) w n z = inner-logged _ w (Event.LastWaker p f) refl f (moves.release (task w f))
inner-act p h (Op.Move Move.TakeUp f) w n z = inner-logged _ w (Event.PollBegun p f) refl f (moves.take_up (task w f))
inner-act p h (Op.Move Move.SettleClosed f) w n z = inner-carried w f (moves.settle_closed (task w f))
inner-act p h (Op.Move Move.GiveUp f) w n z = inner-carried w f (moves.give_up (task w f))
inner-act p h (Op.Move Move.EndReady f) w n z = inner-carried w f (moves.end_ready (task w f))
inner-act p h (Op.Move Move.EndPending f) w n z =
    inner-logged _ w (Event.LastWaker p f) refl f (moves.end_pending (task w f))
inner-act p h (Op.Move Move.EndClosed f) w n z = inner-carried w f (moves.end_closed (task w f))
inner-act p h (Op.Move Move.DropRunnable f) w n z = inner-carried w f (moves.drop_runnable (task w f))
inner-act p h (Op.Move Move.Cancel f) w n z = inner-logged _ w (Event.Cancelled p f) refl f (moves.cancel (task w f))
inner-act p h (Op.Move Move.Detach f) w n z =
    inner-told _ _ w (Event.Detached p f) (Event.LastWaker p f) refl refl f (moves.detach (task w f))
inner-act p h (Op.User (UserOp.BeginDrop f)) w n z = logged w _ (Event.Dropped p f) _ refl refl refl refl refl
inner-act p h (Op.Table (TableOp.LeaveTable f)) w n z = inner-leave _ w f
inner-act p h (Op.User (UserOp.BeginDropOutput f)) w n z = logged w _ (Event.OutputDropped p f) _ refl refl refl refl refl
inner-act p h (Op.Handle (HandleOp.Notify f mine)) w n z = inner-notify _ w f mine
inner-act p h (Op.Handle (HandleOp.EndNotify f mine)) w n z =
    still w _ _ refl refl refl (aside-told stray_of no-stray _ f (awaiter_of w f))
inner-act p h (Op.Handle (HandleOp.LetGo f)) w n z = inner-let_go _ w f
inner-act p h (Op.Waker (WakerOp.CallAwaiter f a k)) w n z = inner-call p w (Polled.Handle f) a k
inner-act p h (Op.Sleeper o) w n z = inner-sleeper p o w
inner-act p h (Op.Tick (TickOp.WakeUp who)) w n z = inner-up _ w who
inner-act p h (Op.Tick _) w n z = absurd (cc)
inner-act p h (Op.List o) w n z = absurd (cc)
inner-act p h (Op.Steal o) w n z = absurd (cc)
inner-act p h (Op.Run RunOp.ReturnRoom) w n z = still w (return_room w).world [] refl refl refl refl
inner-act p h (Op.Run o) w n z = absurd (cc)
inner-act p h (Op.Table (TableOp.Enter mark)) w n z = absurd (cc)
inner-act p h (Op.Table TableOp.LookAtTable) w n z = absurd (cc)
inner-act p h (Op.Queue QueueOp.TakeTurn) w n z = absurd (cc)
inner-act p h (Op.Queue (QueueOp.Take look)) w n z = absurd (cc)
inner-act p h (Op.User (UserOp.Poll f)) w n z = absurd (cc)
inner-act p h (Op.User (UserOp.Drop f)) w n z = absurd (cc)
inner-act p h (Op.User (UserOp.DropOutput f)) w n z = absurd (cc)
inner-act p h (Op.User (UserOp.CallOutside x)) w n z = absurd (cc)
inner-act p h (Op.User (UserOp.PollOwn x)) w n z = absurd (cc)
inner-act p h (Op.User (UserOp.DropOwn r)) w n z = absurd (cc)
inner-act p h (Op.Waker (WakerOp.CopyWaker f held)) w n z = absurd (cc)
inner-act p h (Op.Handle (HandleOp.Look f a)) w n z = absurd (cc)
inner-act p h (Op.Handle (HandleOp.CopyAwaiter f a)) w n z = absurd (cc)
inner-act p h (Op.Handle (HandleOp.Register f a k)) w n z = absurd (cc)
inner-act p h (Op.Handle (HandleOp.EndRegister f a k)) w n z = absurd (cc)
inner-act p h (Op.Handle (HandleOp.LookAgain f)) w n z = absurd (cc)
inner-act p h (Op.Closing (ClosingOp.Drain mark)) w n z = absurd (cc)
inner-act p h (Op.Closing _) w n z = absurd (cc)
inner-act p h (Op.End a held) w n z = absurd (cc)
inner-act p h _ w n z = still w _ _ refl refl refl refl

-- the end of user code
pub inner-react : (p : ℕ) (o : Op) (u : UserEnd) (w : World) → accepts o u ≡ true → stray_of o ≡ 0 →
    Inner w (react p o u w)
inner-react p (Op.User (UserOp.Poll f)) (UserEnd.Polled Answer.Pending) w a z =
    logged w _ (Event.Answered p f Answer.Pending) _ refl refl refl refl refl
inner-react p (Op.User (UserOp.Poll f)) (UserEnd.Polled Answer.Ready) w a z =
    logged w _ (Event.Answered p f Answer.Ready) _ refl refl refl refl refl
inner-react p (Op.User (UserOp.Drop f)) UserEnd.Done w a z = still w w _ refl refl refl refl
inner-react p (Op.User (UserOp.DropOutput f)) UserEnd.Done w a z = still w w _ refl refl refl refl
inner-react p (Op.User (UserOp.CallOutside x)) UserEnd.Done w a z = still w w _ refl refl refl refl
inner-react p (Op.User (UserOp.PollOwn x)) u w a z = absurd (cc)
inner-react p (Op.User (UserOp.DropOwn r)) u w a z = absurd (cc)
inner-react p _ _ w a z = absurd (cc)
