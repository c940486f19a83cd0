-- For all laws.
-- Each thing that is done is made of such parts.
use Rattle.std.proofs.Common.{◌≡◌, ℕ, List, [], ◌∷◌, ◌++◌, length, set, Bool, true, false, refl}
use Rattle.std.specs.Prelude.{Option, Some, None}
use Rattle.task_moves.specs.declared.moves.owed.Answer.{Answer}
use Rattle.executor_parts.specs.Marks.{first_of, turn_after}
use Rattle.executor_model.proofs.Types.{ClosingOp, Event, HandleOp, Hint, Hold, Look, First, Second, Mark, Plain, Urgent, Move}
use Rattle.executor_model.proofs.Types.{Moved, Op, Polled, QueueOp, RunOp, RunPoll, SleeperOp, Sleeping, Steal, StealOp}
use Rattle.executor_model.proofs.Types.{TableOp, TickOp, TickOrRun, UserOp, Waker, Task, Outside, WakerOp}
use Rattle.executor_model.specs.Doing.{act, search_by_who}
use Rattle.executor_model.specs.World.{World, Ticker, Awake, Asleep, Left, log, log_if, own_of, put, put_own, task}
use Rattle.executor_model.proofs.Steps.Parts.Tells.{woken, last_waker, leaked, looked, handle_polled, output_given}
use Rattle.executor_model.proofs.Steps.Parts.Tells.{output_dropped, drop_ended, accepted, future_dropped, next_dropped}
use Rattle.executor_model.proofs.Steps.RunsMoves.{Same, moves-common, moves-length, moves-list, moves-look, moves-make_room}
use Rattle.executor_model.proofs.Steps.RunsMoves.{moves-own_length, moves-reschedule, moves-return_room, moves-take, same-found}
use Rattle.executor_model.proofs.Steps.Parts.{PartsOf, Tells, stay-same, told, enters, lists, places, turns}
use Rattle.executor_model.proofs.Steps.Parts.Tells.{awaiter_called, sleeper_called, own_called, runnable_kept, ended}
use Rattle.executor_model.proofs.Steps.RunsMoves.{moves-refused}
use Rattle.executor_model.specs.Acts as acts
use Rattle.executor_model.specs.ActsOfRuns as runs
use Rattle.executor_model.specs.ActsOfSleepers as sleepers
use Rattle.task_moves.specs.Moves as moves

module _ (R : World → World → Type 0) (p : ℕ) (o : Op) (l : PartsOf R p o) where
  still : (w : World) → R w w
  still w = l.aside w w refl

  by-same : (w v : World) → Same w v → R w v
  by-same w v s = l.aside w v (stay-same w v s)

  by-log_if : (b : Bool) (w : World) (e : Event) → Tells p o e → R w (log_if b w e)
  by-log_if true w e t = l.tells w e t
  by-log_if false w e t = still w

  by-copied : (w : World) (a : Waker) → R w (acts.copied w a)
  by-copied w (Task g) = l.moved w g _
  by-copied w (Outside x) = still w

  pub by-move : (b : Bool) (m : Move) (w : World) (f : ℕ) → Tells p o (acts.told_as m p f) → R w (acts.move_by b m p w f).world
  by-move true m w f t =
      let v = log_if (acts.is_told m (task w f)) w (acts.told_as m p f) in
      let x = log_if (acts.is_last_waker m (task w f)) v (Event.LastWaker p f) in
      l.both w x _ (l.both w v x (by-log_if _ w (acts.told_as m p f) t) (by-log_if _ v (Event.LastWaker p f) (last_waker o f)))
      (l.moved x f _)
  by-move false m w f t = still w

  by-call : (w : World) (of : Polled) (a : Waker) (k : ℕ) → Tells p o (Event.WakerCalled p of k a) →
      R w (acts.call_waker p w of a k).world
  by-call w of (Task g) k t =
      let v = log w (Event.WakerCalled p of k (Task g)) in
      l.both w v _ (l.tells w _ t) (by-move true Move.Wake v g (woken o g))
  by-call w of (Outside x) k t = l.tells w _ t

  by-reference : (w : World) (a : Waker) → R w (runs.call_by_reference p w a).world
  by-reference w (Task g) = by-move true Move.WakeByReference w g (woken o g)
  by-reference w (Outside y) = still w

  by-own : (w : World) (x : RunPoll) → Tells p o (Event.WakerCalled p (Polled.Run x.run) x.poll x.waker) →
      R w (runs.wake_own p w x).world
  by-own w x t =
      let v = log w (Event.WakerCalled p (Polled.Run x.run) x.poll x.waker) in
      l.both w v _ (l.tells w _ t) (by-reference v x.waker)

  by-enter : (b c : Bool) (mark : Mark) (w : World) → enters o ≡ true → lists o ≡ true → ((f : ℕ) → Tells p o (Event.Accepted p f)) →
      R w (acts.enter_by b c mark p w).world
  by-enter true c mark w y z t = still w
  by-enter false true mark w y z t = still w
  by-enter false false mark w y z t =
      let v : World = record w {
        tasks = w.tasks ++ acts.entered w.is_static ∷ [];
        awaiters = w.awaiters ++ None ∷ [];
        inside = w.inside ++ true ∷ [];
        marks = w.marks ++ mark ∷ [];
      } in
      let x : World = record v { table = w.table ++ length w.tasks ∷ [] } in
      l.both w x _ (l.both w v x (l.entered w _ mark y) (l.listed v _ _ _ _ z)) (l.tells x _ (t (length w.tasks)))

  by-leave : (b : Bool) (w : World) (f : ℕ) → lists o ≡ true → R w (acts.leave_by b w f).world
  by-leave true w f z = l.listed w _ _ _ _ z
  by-leave false w f z = still w

  by-turn : (w : World) → turns o ≡ true → R w (acts.turned p w)
  by-turn w y =
      let v : World = record w { urgent_turns = turn_after w.urgent_turns } in
      let m : Mark = first_of w.urgent_turns in
      l.both w v _ (l.turned w (turn_after w.urgent_turns) y) (l.tells v (Event.Looked p m) (looked o m y))

  by-take : (look : Look) (q : List ℕ) (w : World) → R w (acts.take_by w look q).world
  by-take (First mark) [] w = still w
  by-take (Second mark) [] w = still w
  by-take look (f ∷ rest) w = l.aside w _ refl

  by-append : (b : Bool) (w : World) (mark : Mark) (f : ℕ) → R w (acts.append_by b w mark f).world
  by-append true w mark f = l.aside w _ refl
  by-append false w mark f = still w

  by-copy : (b : Bool) (w : World) (f : ℕ) (held : Hold) → places o ≡ true → R w (acts.copy_by b w f held).world
  by-copy true w f held y = still w
  by-copy false w f held y = l.both w _ _ (l.moved w f _) (l.kept (put w f _) _ y)

  by-answered : (w : World) (f : ℕ) (m : Moved) (a : Answer) → R w (acts.answered p w f m a).world
  by-answered w f m a = l.both w _ _ (l.moved w f m.state) (by-log_if _ (put w f m.state) _ (output_given o f))

  by-look : (x : Option Answer) (w : World) (f : ℕ) (a : Waker) (m : Moved) → R w (acts.look_by x p w f a m).world
  by-look None w f a m = still w
  by-look (Some x) w f a m =
      l.both w _ _ (l.tells w _ (handle_polled o f)) (by-answered (acts.polled p w f) f m x)

  by-again : (x : Option Answer) (w : World) (f : ℕ) (m : Moved) → R w (acts.look_again_by x p w f m).world
  by-again None w f m = still w
  by-again (Some x) w f m = by-answered w f m x

  by-copy_awaiter : (b : Bool) (w : World) (f : ℕ) (a : Waker) → R w (acts.copy_awaiter_by b p w f a).world
  by-copy_awaiter true w f a = still w
  by-copy_awaiter false w f a = l.both w _ _ (by-copied w a) (l.tells (acts.copied w a) _ (handle_polled o f))

  by-register : (b : Bool) (w : World) (f : ℕ) (a : Waker) (k : ℕ) → R w (acts.register_by b w f a k).world
  by-register true w f a k = l.moved w f _
  by-register false w f a k = l.moved w f _

  by-end_register : (b : Bool) (w : World) (f : ℕ) (a : Waker) (k : ℕ) → R w (acts.end_register_by b w f a k).world
  by-end_register true w f a k = l.both w _ _ (l.moved w f _) (l.stored (put w f _) f _)
  by-end_register false w f a k = l.both w _ _ (l.moved w f _) (l.stored (put w f _) f _)

  by-notify : (b : Bool) (w : World) (f : ℕ) (mine : Bool) → R w (acts.notify_by b w f mine).world
  by-notify true w f mine = l.moved w f _
  by-notify false w f mine = l.moved w f _

  by-let_go : (b : Bool) (w : World) (f : ℕ) → R w (acts.let_go_by b w f).world
  by-let_go true w f = still w
  by-let_go false w f = l.both w _ _ (l.moved w f _) (l.stored (put w f _) f None)

  by-drop_next : (w : World) (ls : List ℕ) → lists o ≡ true → places o ≡ true → ((f : ℕ) → Tells p o (Event.Dropped p f)) →
      R w (acts.drop_next_by p w ls).world
  by-drop_next w [] y z t = still w
  by-drop_next w (f ∷ rest) y z t =
      let v : World = record w { leaving = rest; waking = w.waking ++ f ∷ [] } in
      let x : World = record v { inside = set w.inside f false } in
      l.both w x _ (l.both w v x (l.listed w _ _ _ _ y) (l.placed v f false z)) (l.tells x _ (t f))

  pub by-wake_next : (w : World) (ws : List ℕ) → lists o ≡ true → R w (acts.wake_next_by p w ws).world
  by-wake_next w [] y = still w
  by-wake_next w (f ∷ rest) y =
      let v : World = record w { waking = rest } in
      l.both w v _ (l.listed w _ _ _ _ y) (by-move true Move.Wake v f (woken o f))

  by-leak_out : (b : Bool) (w : World) → lists o ≡ true → R w (acts.leak_out_by b w).world
  by-leak_out true w y = still w
  by-leak_out false w y = l.listed w _ _ _ _ y

  pub by-leak_next : (b : Bool) (w : World) (ws : List ℕ) → lists o ≡ true → R w (acts.leak_next_by b p w ws).world
  by-leak_next true w ws y = still w
  by-leak_next false w [] y = still w
  by-leak_next false w (f ∷ rest) y =
      let v = (acts.wake_next_by p w (f ∷ rest)).world in
      l.both w v _ (by-wake_next w (f ∷ rest) y) (l.tells v (Event.Leaked p f) (leaked o f))

  by-drain : (mark : Mark) (w : World) (q : List ℕ) → R w (acts.drain_by p w mark q).world
  by-drain Urgent w [] = still w
  by-drain Plain w [] = l.tells w _ (drop_ended o)
  by-drain mark w (f ∷ rest) = l.aside w _ refl

  -- sleepers and ticks

  by-exchange : (b : Bool) (w : World) → R w (sleepers.exchange_by b w).world
  by-exchange true w = still w
  by-exchange false w = l.aside w _ refl

  by-hand_out : (b : Bool) (s : Option Sleeping) (w : World) → R w (sleepers.hand_out_by b s w).world
  by-hand_out true s w = l.aside w _ refl
  by-hand_out false s w = still w

  by-make : (b : Bool) (w : World) → R w (sleepers.make_tick_by b w).world
  by-make true w = still w
  by-make false w = l.aside w _ refl

  by-search : (look : Look) (x : Ticker) (q : List ℕ) (w : World) (s : Sleeping) → R w (sleepers.look_tick_by x w look q s).world
  by-search (First mark) x [] w s = still w
  by-search (Second mark) x [] w s = still w
  by-search look x (f ∷ rest) w s = l.aside w _ refl

  by-sleeper : (b : Bool) (w : World) (s : Sleeping) → R w (sleepers.copy_sleeper_by b w s).world
  by-sleeper true w s = still w
  by-sleeper false w s = by-copied w s.waker

  by-anew : (b : Bool) (w : World) (s : Sleeping) → R w (sleepers.sleep_anew_by b w s).world
  by-anew true w s = l.aside w _ refl
  by-anew false w s = still w

  by-listed : (b : Bool) (w : World) (n : ℕ) (s : Sleeping) → R w (sleepers.sleep_listed_by b w n s).world
  by-listed true w n s = l.aside w _ refl
  by-listed false w n s = still w

  by-sleep_again : (at : Option ℕ) (w : World) (n : ℕ) (s : Sleeping) → R w (sleepers.sleep_again_by at w n s).world
  by-sleep_again None w n s = by-listed _ w n s
  by-sleep_again (Some at) w n s = l.aside w _ refl

  by-sleep : (x : Ticker) (w : World) (s : Sleeping) → R w (sleepers.fall_asleep_by x w s).world
  by-sleep Awake w s = by-anew _ w s
  by-sleep (Asleep n) w s = by-sleep_again _ w n s
  by-sleep Left w s = still w

  by-wake_up : (x : Ticker) (w : World) (who : TickOrRun) → R w (sleepers.wake_up_by x w who).world
  by-wake_up Awake w who = still w
  by-wake_up (Asleep n) w who = l.aside w _ refl
  by-wake_up Left w who = still w

  by-leave_sleepers : (x : Ticker) (w : World) (who : TickOrRun) → R w (sleepers.leave_sleepers_by x w who).world
  by-leave_sleepers Awake w who = l.aside w _ refl
  by-leave_sleepers (Asleep n) w who = l.aside w _ refl
  by-leave_sleepers Left w who = still w

  -- runs

  pub by-search_own : (q : List ℕ) (w : World) (x : RunPoll) → R w (runs.search_own_by q w x).world
  by-search_own [] w x = still w
  by-search_own (f ∷ rest) w x =
      let v = put_own w x.run rest in
      l.both w v _ (l.aside w v refl) (by-same v (runs.found v x f).world (same-found v x f))

  by-who : (who : TickOrRun) (w : World) (s : Sleeping) → turns o ≡ true → R w (search_by_who who p w s).world
  by-who (TickOrRun.Tick t) w s y = by-turn w y
  by-who (TickOrRun.Run q) w s y = by-search_own _ w (record { run = q; waker = s.waker; poll = s.poll })

  by-put : (b : Bool) (w : World) (s : Steal) (more f : ℕ) → Tells p o (Event.Kept p f s.poll.run) →
      R w (runs.steal_put_by b p w s more f).world
  by-put true w s more f t =
      let v = put_own w s.poll.run (own_of w s.poll.run ++ f ∷ []) in
      let x = runs.kept_by p w s.poll.run f in
      l.both w x _ (l.both w v x (l.aside w v refl) (l.tells v _ t)) (by-same x _ (moves-own_length more more x s).same)
  by-put false w s more f t = by-same w _ (moves-refused s.then w s.poll s.from more f).same

pub by-act : (R : World → World → Type 0) (p : ℕ) (h : Hint) (o : Op) (w : World) → PartsOf R p o → R w (act p h o w).world
by-act R p h (Op.Move m f) w l = by-move R p _ l _ m w f (told m f)
by-act R p h (Op.Table (TableOp.Enter mark)) w l = by-enter R p _ l _ _ mark w refl refl (λ f. accepted mark f)
by-act R p h (Op.Table (TableOp.TakeToPoll f)) w l = l.placed w f false refl
by-act R p h (Op.Table (TableOp.PutBack f)) w l = l.placed w f true refl
by-act R p h (Op.Table (TableOp.TakeToDrop f)) w l = l.placed w f false refl
by-act R p h (Op.Table (TableOp.LeaveTable f)) w l = by-leave R p _ l _ w f refl
by-act R p h (Op.Queue QueueOp.TakeTurn) w l = by-turn R p _ l w refl
by-act R p h (Op.Queue (QueueOp.Take look)) w l = by-take R p _ l look _ w
by-act R p h (Op.Queue (QueueOp.Append f)) w l = by-append R p _ l _ w _ f
by-act R p h (Op.User (UserOp.BeginDrop f)) w l = l.tells w _ (future_dropped f)
by-act R p h (Op.User (UserOp.BeginDropOutput f)) w l = l.tells w _ (output_dropped _ f)
by-act R p h (Op.Waker (WakerOp.CopyWaker f held)) w l = by-copy R p _ l _ w f held refl
by-act R p h (Op.Waker (WakerOp.CallAwaiter f a k)) w l = by-call R p _ l w (Polled.Handle f) a k (awaiter_called f a k)
by-act R p h (Op.Handle (HandleOp.Look f a)) w l = by-look R p _ l (moves.poll (task w f)).owed.answer w f a _
by-act R p h (Op.Handle (HandleOp.CopyAwaiter f a)) w l = by-copy_awaiter R p _ l _ w f a
by-act R p h (Op.Handle (HandleOp.Register f a k)) w l = by-register R p _ l _ w f a k
by-act R p h (Op.Handle (HandleOp.EndRegister f a k)) w l = by-end_register R p _ l _ w f a k
by-act R p h (Op.Handle (HandleOp.LookAgain f)) w l = by-again R p _ l (moves.look_again (task w f)).owed.answer w f _
by-act R p h (Op.Handle (HandleOp.Notify f mine)) w l = by-notify R p _ l _ w f mine
by-act R p h (Op.Handle (HandleOp.EndNotify f mine)) w l = l.both w _ _ (l.moved w f _) (l.stored (put w f _) f None)
by-act R p h (Op.Handle (HandleOp.LetGo f)) w l = by-let_go R p _ l _ w f
by-act R p h (Op.Sleeper SleeperOp.ExchangeFlag) w l = by-exchange R p _ l _ w
by-act R p h (Op.Sleeper SleeperOp.HandOut) w l = by-hand_out R p _ l _ _ w
by-act R p h (Op.Sleeper (SleeperOp.CallSleeper s)) w l =
    by-call R p _ l w (sleepers.polled_as s.who) s.waker s.poll (sleeper_called s)
by-act R p h (Op.Tick TickOp.MakeTick) w l = by-make R p _ l _ w
by-act R p h (Op.Tick (TickOp.Search s)) w l = by-who R p _ l s.who w s refl
by-act R p h (Op.Tick (TickOp.Look s look)) w l = by-search R p _ l look _ _ w s
by-act R p h (Op.Tick (TickOp.CopyWaker s)) w l = by-sleeper R p _ l _ w s
by-act R p h (Op.Tick (TickOp.FallAsleep s)) w l = by-sleep R p _ l _ w s
by-act R p h (Op.Tick (TickOp.WakeUp who)) w l = by-wake_up R p _ l _ w who
by-act R p h (Op.Tick (TickOp.Leave who)) w l = by-leave_sleepers R p _ l _ w who
by-act R p h (Op.List o) w l = by-same R p _ l w _ (moves-list h o w).same
by-act R p h (Op.Steal (StealOp.Length s)) w l = by-same R p _ l w _ (moves-length _ w s).same
by-act R p h (Op.Steal (StealOp.OwnLength s n)) w l = by-same R p _ l w _ (moves-own_length _ n w s).same
by-act R p h (Op.Steal (StealOp.Take s more)) w l = by-same R p _ l w _ (moves-take s.from _ w s.poll s.then more refl).same
by-act R p h (Op.Steal (StealOp.Put s more f)) w l = by-put R p _ l _ w s more f (runnable_kept s more f)
by-act R p h (Op.Run RunOp.MakeRoom) w l = by-same R p _ l w _ (moves-make_room _ w).same
by-act R p h (Op.Run RunOp.ReturnRoom) w l = by-same R p _ l w _ (moves-return_room w).same
by-act R p h (Op.Run (RunOp.TakeTurn x)) w l = by-turn R p _ l w refl
by-act R p h (Op.Run (RunOp.SearchCommon x look)) w l = by-same R p _ l w _ (moves-common look _ w x refl).same
by-act R p h (Op.Run (RunOp.LookOwn x at left)) w l = by-same R p _ l w _ (moves-look _ w x at left refl).same
by-act R p h (Op.Run (RunOp.WakeOwn x)) w l = by-own R p _ l w x (own_called x)
by-act R p h (Op.Run (RunOp.Reschedule n a)) w l = by-same R p _ l w _ (moves-reschedule _ w n a refl).same
by-act R p h (Op.Closing ClosingOp.TakeOut) w l = l.listed w _ _ _ _ refl
by-act R p h (Op.Closing ClosingOp.DropNext) w l = by-drop_next R p _ l w _ refl refl (λ f. next_dropped f)
by-act R p h (Op.Closing ClosingOp.WakeNext) w l = by-wake_next R p _ l w _ refl
by-act R p h (Op.Closing (ClosingOp.Close mark)) w l = l.aside w _ refl
by-act R p h (Op.Closing (ClosingOp.Drain mark)) w l = by-drain R p _ l mark w _
by-act R p h (Op.Closing ClosingOp.LeakOut) w l = by-leak_out R p _ l _ w refl
by-act R p h (Op.Closing ClosingOp.LeakNext) w l = by-leak_next R p _ l _ w _ refl
by-act R p h (Op.End a held) w l = l.tells w _ (ended a held)
by-act R p h o w l = still R p _ l w
