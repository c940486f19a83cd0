-- For all laws.
-- Each thing that is done is made of small parts: what futures don't see changes, one thing that is kept of futures
-- changes, or an event is told of. So what holds of two worlds by each of these holds by the whole.
use Rattle.std.proofs.Common.{◌≡◌, ℕ, List, [], ◌∷◌, ◌++◌, set, Bool, true, false, refl, sym}
use Rattle.std.specs.Prelude.{Option, Some, None}
use Rattle.executor_model.proofs.Types.{QueueOp, TickOp, Answer, Awaiter, By, Call, ClosingOp, Event, Hold, Mark, Move, Op, Polled, RunOp}
use Rattle.executor_model.proofs.Types.{RunPoll, SleeperOp, Sleeping, State, Steal, StealOp, TableOp, UserEnd, UserOp, Reply}
use Rattle.executor_model.specs.Steps.{begun, future_of, react, with_future, kept as future_kept}
use Rattle.executor_model.specs.World.{World, Done, log, put, put_awaiter, put_run, run_of}
use Rattle.executor_model.specs.{Acts.told_as, ActsOfSleepers.polled_as, Trace.Trace}
use Rattle.executor_model.proofs.{Types.Waker, Types.WakerOp, Steps.RunsMoves.Same}

-- what is kept of futures, and the trace
pub record Stay : Type 0 where
  pub is_static : Bool
  pub urgent_turns : ℕ
  pub tasks : List State
  pub awaiters : List (Option Awaiter)
  pub inside : List Bool
  pub marks : List Mark
  pub table : List ℕ
  pub leaving : List ℕ
  pub waking : List ℕ
  pub wakers : List (Option ℕ)
  pub trace : Trace

abbrev pub stay : World → Stay
stay w = record {
  is_static = w.is_static;
  urgent_turns = w.urgent_turns;
  tasks = w.tasks;
  awaiters = w.awaiters;
  inside = w.inside;
  marks = w.marks;
  table = w.table;
  leaving = w.leaving;
  waking = w.waking;
  wakers = w.wakers;
  trace = w.trace;
}

pub stay-same : (w v : World) → Same w v → stay w ≡ stay v
stay-same w v s = λ i. record {
  is_static = sym s.is_static i;
  urgent_turns = sym s.turns i;
  tasks = sym s.tasks i;
  awaiters = sym s.awaiters i;
  inside = sym s.inside i;
  marks = sym s.marks i;
  table = sym s.table i;
  leaving = sym s.leaving i;
  waking = sym s.waking i;
  wakers = sym s.wakers i;
  trace = sym s.trace i;
}

-- a turn is taken
abbrev pub turns : Op → Bool
turns (Op.Queue QueueOp.TakeTurn) = true
turns (Op.Run (RunOp.TakeTurn x)) = true
turns (Op.Tick (TickOp.Search s)) = true
turns _ = false

-- the events that each thing may tell of
pub data Tells (p : ℕ) : Op → Event → Type 0 where
  began : (f : ℕ) → Tells p (Op.Move Move.TakeUp f) (Event.PollBegun p f)
  woken : (o : Op) (f : ℕ) → Tells p o (Event.Woken p f)
  cancelled : (o : Op) (f : ℕ) → Tells p o (Event.Cancelled p f)
  detached : (o : Op) (f : ℕ) → Tells p o (Event.Detached p f)
  last_waker : (o : Op) (f : ℕ) → Tells p o (Event.LastWaker p f)
  leaked : (o : Op) (f : ℕ) → Tells p o (Event.Leaked p f)
  looked : (o : Op) (m : Mark) → turns o ≡ true → Tells p o (Event.Looked p m)
  handle_polled : (o : Op) (f : ℕ) → Tells p o (Event.HandlePolled p f)
  output_given : (o : Op) (f : ℕ) → Tells p o (Event.OutputGiven p f)
  output_dropped : (o : Op) (f : ℕ) → Tells p o (Event.OutputDropped p f)
  drop_ended : (o : Op) → Tells p o (Event.DropEnded p)
  accepted : (m : Mark) (f : ℕ) → Tells p (Op.Table (TableOp.Enter m)) (Event.Accepted p f)
  future_dropped : (f : ℕ) → Tells p (Op.User (UserOp.BeginDrop f)) (Event.Dropped p f)
  next_dropped : (f : ℕ) → Tells p (Op.Closing ClosingOp.DropNext) (Event.Dropped p f)
  awaiter_called : (f : ℕ) (a : Waker) (k : ℕ) →
      Tells p (Op.Waker (WakerOp.CallAwaiter f a k)) (Event.WakerCalled p (Polled.Handle f) k a)
  sleeper_called : (s : Sleeping) →
      Tells p (Op.Sleeper (SleeperOp.CallSleeper s)) (Event.WakerCalled p (polled_as s.who) s.poll s.waker)
  own_called : (x : RunPoll) →
      Tells p (Op.Run (RunOp.WakeOwn x)) (Event.WakerCalled p (Polled.Run x.run) x.poll x.waker)
  runnable_kept : (s : Steal) (more f : ℕ) → Tells p (Op.Steal (StealOp.Put s more f)) (Event.Kept p f s.poll.run)
  ended : (a : Reply) (held : Hold) → Tells p (Op.End a held) (Event.CallEnded p a)

-- and as a call begins, or user code ends
pub data Begins (p : ℕ) : Call → Event → Type 0 where
  tick_polled : (t : ℕ) (b : By) → Begins p (Call.PollTick t b) (Event.TickPolled p t)
  tick_dropped : (t : ℕ) → Begins p (Call.DropTick t) (Event.TickDropped p t)
  run_polled : (r : ℕ) (b : By) → Begins p (Call.PollRun r b) (Event.RunPolled p r)
  run_dropped : (r : ℕ) → Begins p (Call.DropRun r) (Event.RunDropped p r)
  drop_begun : Begins p Call.DropExecutor (Event.DropBegun p)

pub data Answers (p : ℕ) : Op → Event → Type 0 where
  answered : (f : ℕ) (a : Answer) → Answers p (Op.User (UserOp.Poll f)) (Event.Answered p f a)

pub told : {p : ℕ} (m : Move) (f : ℕ) → Tells p (Op.Move m f) (told_as m p f)
told Move.TakeUp f = began f
told Move.Cancel f = cancelled _ f
told Move.Detach f = detached _ f
told m f = woken _ f

-- a future comes into the machine
abbrev pub enters : Op → Bool
enters (Op.Table (TableOp.Enter mark)) = true
enters _ = false

-- the table changes, or the lists of those that the executor's drop has still to drop and to wake
abbrev pub lists : Op → Bool
lists (Op.Table (TableOp.Enter mark)) = true
lists (Op.Table (TableOp.LeaveTable f)) = true
lists (Op.Closing ClosingOp.TakeOut) = true
lists (Op.Closing ClosingOp.DropNext) = true
lists (Op.Closing ClosingOp.WakeNext) = true
lists (Op.Closing ClosingOp.LeakOut) = true
lists (Op.Closing ClosingOp.LeakNext) = true
lists _ = false

-- a future comes into its place or goes from there, or a waker is kept
abbrev pub places : Op → Bool
places (Op.Table (TableOp.Enter mark)) = true
places (Op.Table (TableOp.TakeToPoll f)) = true
places (Op.Table (TableOp.PutBack f)) = true
places (Op.Table (TableOp.TakeToDrop f)) = true
places (Op.Waker (WakerOp.CopyWaker f held)) = true
places (Op.Closing ClosingOp.DropNext) = true
places _ = false

-- a kept waker is used up
abbrev pub uses_up : Call → Bool
uses_up (Call.Wake k) = true
uses_up (Call.DropWaker k) = true
uses_up _ = false

-- what holds of two worlds by each part, where these events may be told of and these parts may be done
pub record Parts (R : World → World → Type 0) (T : Event → Type 0) (may_turn may_place may_list may_enter : Bool) : Type 0 where
  pub aside : (w v : World) → stay w ≡ stay v → R w v
  pub both : (w v x : World) → R w v → R v x → R w x
  pub moved : (w : World) (f : ℕ) (s : State) → R w (put w f s)
  pub stored : (w : World) (f : ℕ) (a : Option Awaiter) → R w (put_awaiter w f a)
  pub placed : (w : World) (f : ℕ) (b : Bool) → may_place ≡ true → R w (record w { inside = set w.inside f b })
  pub kept : (w : World) (ws : List (Option ℕ)) → may_place ≡ true → R w (record w { wakers = ws })
  pub listed : (w : World) (b : Bool) (table leaving waking : List ℕ) → may_list ≡ true →
      R w (record w { is_static = b; table = table; leaving = leaving; waking = waking })
  pub entered : (w : World) (s : State) (m : Mark) → may_enter ≡ true → R w (record w {
    tasks = w.tasks ++ s ∷ [];
    awaiters = w.awaiters ++ None ∷ [];
    inside = w.inside ++ true ∷ [];
    marks = w.marks ++ m ∷ [];
  })
  pub turned : (w : World) (n : ℕ) → may_turn ≡ true → R w (record w { urgent_turns = n })
  pub tells : (w : World) (e : Event) → T e → R w (log w e)

-- of a thing that party p does, of the beginning of its call, and of the end of its user code
abbrev pub PartsOf : (World → World → Type 0) → ℕ → Op → Type 0
PartsOf R p o = Parts R (Tells p o) (turns o) (places o) (lists o) (enters o)

abbrev pub PartsOfCall : (World → World → Type 0) → ℕ → Call → Type 0
PartsOfCall R p c = Parts R (Begins p c) false (uses_up c) false false

abbrev pub PartsOfEnd : (World → World → Type 0) → ℕ → Op → Type 0
PartsOfEnd R p o = Parts R (Answers p o) false false false false

pub by-react : (R : World → World → Type 0) (p : ℕ) (o : Op) (u : UserEnd) (w : World) → PartsOfEnd R p o →
    R w (react p o u w).world
by-react R p (Op.User (UserOp.Poll f)) (UserEnd.Polled Answer.Pending) w l = l.tells w _ (answered f Answer.Pending)
by-react R p (Op.User (UserOp.Poll f)) (UserEnd.Polled Answer.Ready) w l = l.tells w _ (answered f Answer.Ready)
by-react R p (Op.User (UserOp.Poll f)) UserEnd.Done w l = l.aside w w refl
by-react R p (Op.User (UserOp.PollOwn x)) (UserEnd.Polled Answer.Pending) w l = l.aside w w refl
by-react R p (Op.User (UserOp.PollOwn x)) (UserEnd.Polled Answer.Ready) w l = l.aside w w refl
by-react R p (Op.User (UserOp.PollOwn x)) UserEnd.Done w l = l.aside w w refl
by-react R p _ _ w l = l.aside w w refl

by-with : (R : World → World → Type 0) (w : World) (x : Option ℕ) (d : ℕ → Done) → R w w → ((f : ℕ) → R w (d f).world) →
    R w (with_future w x d).world
by-with R w (Some f) d y k = k f
by-with R w None d y k = y

pub by-begun : (R : World → World → Type 0) (p : ℕ) (w : World) (here : Option Waker) (c : Call) → PartsOfCall R p c →
    R w (begun p w here c).world
by-begun R p w here (Call.Wake k) l = by-with R w (future_kept w k) _ (l.aside w w refl) (λ f. l.kept w _ refl)
by-begun R p w here (Call.WakeByRef k) l = by-with R w (future_kept w k) _ (l.aside w w refl) (λ f. l.aside w w refl)
by-begun R p w here (Call.Copy k) l = by-with R w (future_kept w k) _ (l.aside w w refl) (λ f. l.aside w w refl)
by-begun R p w here (Call.DropWaker k) l = by-with R w (future_kept w k) _ (l.aside w w refl) (λ f. l.kept w _ refl)
by-begun R p w here Call.Keep l = by-with R w (future_of here) _ (l.aside w w refl) (λ f. l.aside w w refl)
by-begun R p w here Call.WakeSelf l = by-with R w (future_of here) _ (l.aside w w refl) (λ f. l.aside w w refl)
by-begun R p w here (Call.PollTick t b) l = l.tells w _ (tick_polled t b)
by-begun R p w here (Call.DropTick t) l = l.tells w _ (tick_dropped t)
by-begun R p w here (Call.PollRun r b) l = l.tells w _ (run_polled r b)
by-begun R p w here (Call.DropRun r) l =
    let v : World = put_run w r (record (run_of w r) { dropped = true }) in
    l.both w v _ (l.aside w v refl) (l.tells v _ (run_dropped r))
by-begun R p w here Call.DropExecutor l =
    let v : World = record w { gone = true } in
    l.both w v _ (l.aside w v refl) (l.tells v _ drop_begun)
by-begun R p w here _ l = l.aside w w refl
