-- For calls_do_what_they_say.
-- Calls do what they say: what a call is answered with stands behind what was done for that.
use Rattle.std.proofs.Common.{◌≡◌, ◌⊎◌, ◌∙◌, ℕ, ◌≤◌, List, [], ◌∷◌, ◌++◌, length, Bool, true, false, cond, eqb, inl, inr}
use Rattle.std.proofs.Common.{⊎_elim, refl, sym, subst, arith}
use Rattle.std.{proofs.lemmas.List.append_assoc, specs.Prelude.Option, specs.Prelude.Some, specs.Prelude.None}
use Rattle.task_moves.specs.declared.moves.owed.Answer.TheVariants.{Refused, Pending, Closed, Output}
use Rattle.task_moves.{specs.Moves.is_over, specs.declared.moves.owed.Answer.Answer}
use Rattle.executor_parts.specs.Sleepers.{waker_at}
use Rattle.executor_model.proofs.Types.{Look, First, Second, Mark, Moved, By, Call, Reply, Event, HandleOp, Hold, ListOp, Op}
use Rattle.executor_model.proofs.Types.{QueueOp, RunOp, Section, TickOrRun, Sleeping, TableOp, TickOp, UserOp, Waker, WakerOp}
use Rattle.executor_model.specs.Acts.{take_by, copy_awaiter_by, end_register_by, enter_by, let_go, look_again_by, look_by}
use Rattle.executor_model.specs.ActsOfSleepers.{copy_sleeper_by, sleep_again_by, sleep_anew_by, fall_asleep_by, sleep_listed_by}
use Rattle.executor_model.specs.ActsOfSleepers.{pend_as, look_tick_by, sleeper_goes}
use Rattle.executor_model.specs.Trace.{Trace, has, is_accepted}
use Rattle.executor_model.specs.World.{World, Ticker, Awake, Asleep, Left, awaiter_of, task}
use Rattle.executor_model.specs.{Acts.register_by, Acts.reply_of, CallsMean.HasAccepted, Carried.awaiter_ops, Doing.act}
use Rattle.executor_model.specs.{Doing.search_by_who, OutputOnce.is_output_given, Weights.weigh}
use Rattle.executor_model.proofs.Promises.CallPromises.{made_of, misfit, ready_of, serves, taking_of, yes_of, polls, polls_by}
use Rattle.executor_model.proofs.Steps.Asides.{Aside, aside-awaiter, aside-let_go}
use Rattle.executor_model.proofs.{Types.Hint, Promises.CallPromises.polls_run, Promises.CallTold.added}
use Rattle.executor_model.proofs.{Promises.CallTold.itself, Quiet.Calls.calling_of, Quiet.Calls.is_end}
use Rattle.executor_model.proofs.{Quiet.CallsGroups.calls-act, Steps.Lists.weigh-append, Steps.Lists.weigh-below}
use Rattle.executor_model.proofs.{Quiet.Resting.calling-is, Steps.SleepersNext.goes-unseen, Steps.Tests.or-left}
use Rattle.task_moves.specs.Moves as moves

few-made : (o : Op) → made_of o ≤ calling_of o
few-made (Op.End Reply.Made held) = omega arith
few-made _ = omega arith

few-ready : (o : Op) → ready_of o ≤ calling_of o
few-ready (Op.End Reply.Ready held) = omega arith
few-ready _ = omega arith

-- no other call polls a tick or run
pub no-poll : (who : TickOrRun) (c : Call) → polls c ≡ false → polls_run c ≡ false → polls_by who c ≡ true → ⊥
no-poll (TickOrRun.Tick t) c a b e = let no : true ≡ false = sym e ∙ a in absurd (cc)
no-poll (TickOrRun.Run r) c a b e = let no : true ≡ false = sym e ∙ b in absurd (cc)

-- a spawn

enters : (a b : Bool) (mark : Mark) (p : ℕ) (w : World) (more : Trace) → (enter_by a b mark p w).world.trace ≡ w.trace ++ more →
    (weigh made_of (enter_by a b mark p w).next ≡ 0) ⊎ HasAccepted more
enters true b mark p w more g = inl refl
enters false true mark p w more g = inl refl
enters false false mark p w more g = inr (
  length w.tasks,
  subst (λ (t : Trace). has (is_accepted (length w.tasks)) t ≡ true)
      (added w.trace more (Event.Accepted p (length w.tasks) ∷ []) _ g refl)
      (or-left (eqb (length w.tasks) (length w.tasks)) false (itself (length w.tasks))),
)

spawns-by : (mark : Mark) (p : ℕ) (h : Hint) (o : Op) (w : World) (more : Trace) → calling_of o ≡ 1 → serves o (Call.Spawn mark) ≡ true →
    is_end o ≡ false → (act p h o w).world.trace ≡ w.trace ++ more →
    (weigh made_of (act p h o w).next ≡ 0) ⊎ HasAccepted more
spawns-by mark p h (Op.Table (TableOp.Enter m)) w more a e n g = enters _ _ _ p w more g
spawns-by mark p h (Op.List (ListOp.LockWrite Section.MakeRun)) w more a e n g = absurd (cc)
spawns-by mark p h (Op.List (ListOp.LockWrite (Section.Register x))) w more a e n g = absurd (cc)
spawns-by mark p h (Op.List (ListOp.LockWrite (Section.Unregister r x))) w more a e n g = absurd (cc)
spawns-by mark p h (Op.List (ListOp.Write Section.MakeRun)) w more a e n g = absurd (cc)
spawns-by mark p h (Op.List (ListOp.Write (Section.Register x))) w more a e n g = absurd (cc)
spawns-by mark p h (Op.List (ListOp.Write (Section.Unregister r x))) w more a e n g = absurd (cc)
spawns-by mark p h (Op.Handle (HandleOp.Look x k)) w more a e n g = absurd (cc)
spawns-by mark p h (Op.Handle _) w more a e n g = absurd (cc)
spawns-by mark p h (Op.Table TableOp.LookAtTable) w more a e n g = absurd (cc)
spawns-by mark p h (Op.Queue QueueOp.TakeTurn) w more a e n g = absurd (cc)
spawns-by mark p h (Op.Queue (QueueOp.Take look)) w more a e n g = absurd (cc)
spawns-by mark p h (Op.Waker (WakerOp.CopyWaker x held)) w more a e n g = absurd (cc)
spawns-by mark p h (Op.Tick TickOp.MakeTick) w more a e n g = absurd (cc)
spawns-by mark p h (Op.Tick (TickOp.Search s)) w more a e n g = absurd (no-poll s.who (Call.Spawn mark) refl refl e)
spawns-by mark p h (Op.Tick (TickOp.Look s look)) w more a e n g = absurd (no-poll s.who (Call.Spawn mark) refl refl e)
spawns-by mark p h (Op.Tick (TickOp.CopyWaker s)) w more a e n g = absurd (no-poll s.who (Call.Spawn mark) refl refl e)
spawns-by mark p h (Op.Tick (TickOp.FallAsleep s)) w more a e n g = absurd (no-poll s.who (Call.Spawn mark) refl refl e)
spawns-by mark p h (Op.User (UserOp.PollOwn x)) w more a e n g = absurd (cc)
spawns-by mark p h (Op.List (ListOp.LockRead x)) w more a e n g = absurd (cc)
spawns-by mark p h (Op.Steal o) w more a e n g = absurd (cc)
spawns-by mark p h (Op.Run RunOp.MakeRoom) w more a e n g = absurd (cc)
spawns-by mark p h (Op.Run _) w more a e n g = absurd (cc)
spawns-by mark p h (Op.End r held) w more a e n g = absurd (cc)
spawns-by mark p h _ w more a e n g = absurd (cc)

pub served : (b : Bool) → (let n : ℕ = cond b 0 1 in n) ≡ 0 → b ≡ true
served true e = refl
served false e = absurd (omega (arith, e))

pub spawn-turns : (mark : Mark) (p : ℕ) (h : Hint) (o : Op) (w : World) (more : Trace) → is_end o ≡ false → misfit (Call.Spawn mark) o ≡ 0 →
    (act p h o w).world.trace ≡ w.trace ++ more → (weigh made_of (act p h o w).next ≡ 0) ⊎ HasAccepted more
spawn-turns mark p h o w more n e g = ⊎_elim
    (λ (z : calling_of o ≡ 0).
    inl (omega (arith, weigh-below made_of calling_of few-made (act p h o w).next, (calls-act p h o w n).passes.none z)))
    (λ (z : calling_of o ≡ 1). spawns-by mark p h o w more z (served (serves o (Call.Spawn mark)) e) n g) (calling-is o)

-- a poll of a handle

ready-aside : Aside ready_of
ready-aside = record {
  move = λ m f. refl;
  append = λ f. refl;
  poll = λ f. refl;
  drop = λ f. refl;
  output = λ f. refl;
  notify = λ f mine. refl;
  call = λ f a k. refl;
  goes = λ f. refl;
}

-- where it is answered, its answer is an output that was given, or no output
unready : (f : ℕ) (m : Moved) (a : Answer) → ready_of (Op.End (reply_of a) (Hold.Handle f)) ≡ 0 →
    weigh ready_of (awaiter_ops f m.owed.awaiter ++ Op.End (reply_of a) (Hold.Handle f) ∷ []) ≡ 0
unready f m a z =
    omega (
      arith,
      weigh-append ready_of (awaiter_ops f m.owed.awaiter) (Op.End (reply_of a) (Hold.Handle f) ∷ []),
      aside-awaiter ready_of ready-aside f m.owed.awaiter,
      z,
    )

looks : (o : Option Answer) (p : ℕ) (w : World) (f g : ℕ) (a : Waker) (m : Moved) (more : Trace) → eqb f g ≡ true →
    (look_by o p w g a m).world.trace ≡ w.trace ++ more →
    (weigh ready_of (look_by o p w g a m).next ≡ 0) ⊎ (has (is_output_given f) more ≡ true)
looks None p w f g a m more i e = inl refl
looks (Some Refused) p w f g a m more i e = inl (unready g m Refused refl)
looks (Some Pending) p w f g a m more i e = inl (unready g m Pending refl)
looks (Some Closed) p w f g a m more i e = inl (unready g m Closed refl)
looks (Some Output) p w f g a m more i e = inr (subst (λ (t : Trace). has (is_output_given f) t ≡ true)
    (added w.trace more (Event.HandlePolled p g ∷ Event.OutputGiven p g ∷ []) _ e
    (append_assoc w.trace (Event.HandlePolled p g ∷ []) (Event.OutputGiven p g ∷ [])))
    (or-left (eqb f g) false i))

looks-again : (o : Option Answer) (p : ℕ) (w : World) (f g : ℕ) (m : Moved) (more : Trace) → eqb f g ≡ true →
    (look_again_by o p w g m).world.trace ≡ w.trace ++ more →
    (weigh ready_of (look_again_by o p w g m).next ≡ 0) ⊎ (has (is_output_given f) more ≡ true)
looks-again None p w f g m more i e = inl refl
looks-again (Some Refused) p w f g m more i e = inl (unready g m Refused refl)
looks-again (Some Pending) p w f g m more i e = inl (unready g m Pending refl)
looks-again (Some Closed) p w f g m more i e = inl (unready g m Closed refl)
looks-again (Some Output) p w f g m more i e = inr (subst (λ (t : Trace). has (is_output_given f) t ≡ true)
    (added w.trace more (Event.OutputGiven p g ∷ []) _ e refl)
    (or-left (eqb f g) false i))

copies-unready : (b : Bool) (p : ℕ) (w : World) (f : ℕ) (a : Waker) → weigh ready_of (copy_awaiter_by b p w f a).next ≡ 0
copies-unready true p w f a = refl
copies-unready false p w f a = refl

registers-unready : (b : Bool) (w : World) (f : ℕ) (a : Waker) (k : ℕ) → weigh ready_of (register_by b w f a k).next ≡ 0
registers-unready true w f a k = refl
registers-unready false w f a k = refl

lets-unready : (w : World) (f : ℕ) → weigh ready_of (let_go (awaiter_of w f) ++ Op.Handle (HandleOp.LookAgain f) ∷ []) ≡ 0
lets-unready w f =
    omega (
      arith,
      weigh-append ready_of (let_go (awaiter_of w f)) (Op.Handle (HandleOp.LookAgain f) ∷ []),
      aside-let_go ready_of ready-aside (awaiter_of w f),
    )

ends-unready : (b : Bool) (w : World) (f : ℕ) (a : Waker) (k : ℕ) → weigh ready_of (end_register_by b w f a k).next ≡ 0
ends-unready true w f a k = omega (arith, lets-unready w f)
ends-unready false w f a k = lets-unready w f

polls-by : (p : ℕ) (h : Hint) (o : Op) (w : World) (f : ℕ) (b : By) (more : Trace) →
    calling_of o ≡ 1 → serves o (Call.PollHandle f b) ≡ true → is_end o ≡ false →
    (act p h o w).world.trace ≡ w.trace ++ more →
    (weigh ready_of (act p h o w).next ≡ 0) ⊎ (has (is_output_given f) more ≡ true)
polls-by p h (Op.Handle (HandleOp.Look g a)) w f b more c e n t =
    looks (moves.poll (task w g)).owed.answer p w f g a (moves.poll (task w g)) more e t
polls-by p h (Op.Handle (HandleOp.CopyAwaiter g a)) w f b more c e n t = inl (copies-unready _ p w g a)
polls-by p h (Op.Handle (HandleOp.Register g a k)) w f b more c e n t = inl (registers-unready _ w g a k)
polls-by p h (Op.Handle (HandleOp.EndRegister g a k)) w f b more c e n t = inl (ends-unready _ w g a k)
polls-by p h (Op.Handle (HandleOp.LookAgain g)) w f b more c e n t =
    looks-again (moves.look_again (task w g)).owed.answer p w f g (moves.look_again (task w g)) more e t
polls-by p h (Op.List (ListOp.LockWrite Section.MakeRun)) w f b more c e n t = absurd (cc)
polls-by p h (Op.List (ListOp.LockWrite (Section.Register x))) w f b more c e n t = absurd (cc)
polls-by p h (Op.List (ListOp.LockWrite (Section.Unregister r x))) w f b more c e n t = absurd (cc)
polls-by p h (Op.List (ListOp.Write Section.MakeRun)) w f b more c e n t = absurd (cc)
polls-by p h (Op.List (ListOp.Write (Section.Register x))) w f b more c e n t = absurd (cc)
polls-by p h (Op.List (ListOp.Write (Section.Unregister r x))) w f b more c e n t = absurd (cc)
polls-by p h (Op.Table (TableOp.Enter mark)) w f b more c e n t = absurd (cc)
polls-by p h (Op.Table TableOp.LookAtTable) w f b more c e n t = absurd (cc)
polls-by p h (Op.Queue QueueOp.TakeTurn) w f b more c e n t = absurd (cc)
polls-by p h (Op.Queue (QueueOp.Take look)) w f b more c e n t = absurd (cc)
polls-by p h (Op.Waker (WakerOp.CopyWaker x held)) w f b more c e n t = absurd (cc)
polls-by p h (Op.Tick TickOp.MakeTick) w f b more c e n t = absurd (cc)
polls-by p h (Op.Tick (TickOp.Search s)) w f b more c e n t = absurd (no-poll s.who (Call.PollHandle f b) refl refl e)
polls-by p h (Op.Tick (TickOp.Look s look)) w f b more c e n t = absurd (no-poll s.who (Call.PollHandle f b) refl refl e)
polls-by p h (Op.Tick (TickOp.CopyWaker s)) w f b more c e n t = absurd (no-poll s.who (Call.PollHandle f b) refl refl e)
polls-by p h (Op.Tick (TickOp.FallAsleep s)) w f b more c e n t = absurd (no-poll s.who (Call.PollHandle f b) refl refl e)
polls-by p h (Op.User (UserOp.PollOwn x)) w f b more c e n t = absurd (cc)
polls-by p h (Op.List (ListOp.LockRead x)) w f b more c e n t = absurd (cc)
polls-by p h (Op.Steal o) w f b more c e n t = absurd (cc)
polls-by p h (Op.Run RunOp.MakeRoom) w f b more c e n t = absurd (cc)
polls-by p h (Op.Run _) w f b more c e n t = absurd (cc)
polls-by p h (Op.End r held) w f b more c e n t = absurd (cc)
polls-by p h _ w f b more c e n t = absurd (cc)

pub poll-turns : (p : ℕ) (h : Hint) (o : Op) (w : World) (f : ℕ) (b : By) (more : Trace) →
    is_end o ≡ false → misfit (Call.PollHandle f b) o ≡ 0 → (act p h o w).world.trace ≡ w.trace ++ more →
    (weigh ready_of (act p h o w).next ≡ 0) ⊎ (has (is_output_given f) more ≡ true)
poll-turns p h o w f b more n e g = ⊎_elim
    (λ (z : calling_of o ≡ 0).
    inl (omega (arith, weigh-below ready_of calling_of few-ready (act p h o w).next, (calls-act p h o w n).passes.none z)))
    (λ (z : calling_of o ≡ 1). polls-by p h o w f b more z (served (serves o (Call.PollHandle f b)) e) n g)
    (calling-is o)

-- a tick that is tried

takes : (look : Look) (q : List ℕ) (w : World) → (weigh yes_of (take_by w look q).next ≡ 0) ⊎ (1 ≤ weigh taking_of (take_by w look q).next)
takes (First mark) [] w = inl refl
takes (Second mark) [] w = inl refl
takes look (f ∷ rest) w = inr (omega arith)

few-yes : (o : Op) → yes_of o ≤ calling_of o
few-yes (Op.End Reply.Yes held) = omega arith
few-yes _ = omega arith

tries-by : (p : ℕ) (h : Hint) (o : Op) (w : World) → calling_of o ≡ 1 → serves o Call.TryTick ≡ true →
    is_end o ≡ false → (weigh yes_of (act p h o w).next ≡ 0) ⊎ (1 ≤ weigh taking_of (act p h o w).next)
tries-by p h (Op.Queue QueueOp.TakeTurn) w a e n = inl refl
tries-by p h (Op.Queue (QueueOp.Take look)) w a e n = takes look _ w
tries-by p h (Op.Table (TableOp.Enter mark)) w a e n = absurd (cc)
tries-by p h (Op.Table TableOp.LookAtTable) w a e n = absurd (cc)
tries-by p h (Op.Waker (WakerOp.CopyWaker x held)) w a e n = absurd (cc)
tries-by p h (Op.Handle (HandleOp.Look x k)) w a e n = absurd (cc)
tries-by p h (Op.Handle _) w a e n = absurd (cc)
tries-by p h (Op.Tick TickOp.MakeTick) w a e n = absurd (cc)
tries-by p h (Op.Tick (TickOp.Search s)) w a e n = absurd (no-poll s.who Call.TryTick refl refl e)
tries-by p h (Op.Tick (TickOp.Look s look)) w a e n = absurd (no-poll s.who Call.TryTick refl refl e)
tries-by p h (Op.Tick (TickOp.CopyWaker s)) w a e n = absurd (no-poll s.who Call.TryTick refl refl e)
tries-by p h (Op.Tick (TickOp.FallAsleep s)) w a e n = absurd (no-poll s.who Call.TryTick refl refl e)
tries-by p h (Op.User (UserOp.PollOwn x)) w a e n = absurd (cc)
tries-by p h (Op.List (ListOp.LockWrite Section.MakeRun)) w a e n = absurd (cc)
tries-by p h (Op.List (ListOp.LockWrite (Section.Register x))) w a e n = absurd (cc)
tries-by p h (Op.List (ListOp.LockWrite (Section.Unregister r x))) w a e n = absurd (cc)
tries-by p h (Op.List (ListOp.Write Section.MakeRun)) w a e n = absurd (cc)
tries-by p h (Op.List (ListOp.Write (Section.Register x))) w a e n = absurd (cc)
tries-by p h (Op.List (ListOp.Write (Section.Unregister r x))) w a e n = absurd (cc)
tries-by p h (Op.List (ListOp.LockRead x)) w a e n = absurd (cc)
tries-by p h (Op.Steal o) w a e n = absurd (cc)
tries-by p h (Op.Run RunOp.MakeRoom) w a e n = absurd (cc)
tries-by p h (Op.Run _) w a e n = absurd (cc)
tries-by p h (Op.End r held) w a e n = absurd (cc)
tries-by p h _ w a e n = absurd (cc)

pub yes-turn : (p : ℕ) (h : Hint) (o : Op) (w : World) → is_end o ≡ false → misfit Call.TryTick o ≡ 0 →
    (weigh yes_of (act p h o w).next ≡ 0) ⊎ (1 ≤ weigh taking_of (act p h o w).next)
yes-turn p h o w n e = ⊎_elim
    (λ (z : calling_of o ≡ 0).
    inl (omega (arith, weigh-below yes_of calling_of few-yes (act p h o w).next, (calls-act p h o w n).passes.none z)))
    (λ (z : calling_of o ≡ 1). tries-by p h o w z (served (serves o Call.TryTick) e) n) (calling-is o)

-- a poll of a tick

ticks-search : (look : Look) (x : Ticker) (q : List ℕ) (w : World) (s : Sleeping) →
    (weigh ready_of (look_tick_by x w look q s).next ≡ 0) ⊎ (1 ≤ weigh taking_of (look_tick_by x w look q s).next)
ticks-search (First mark) x [] w s = inl refl
ticks-search (Second mark) x [] w s = inl refl
ticks-search look Awake (f ∷ rest) w s = inr (omega arith)
ticks-search look (Asleep n) (f ∷ rest) w s = inr (omega arith)
ticks-search look Left (f ∷ rest) w s = inr (omega arith)

ticks-who : (who : TickOrRun) (p : ℕ) (t : ℕ) (b : By) (w : World) (s : Sleeping) → polls_by who (Call.PollTick t b) ≡ true →
    (weigh ready_of (search_by_who who p w s).next ≡ 0) ⊎ (1 ≤ weigh taking_of (search_by_who who p w s).next)
ticks-who (TickOrRun.Tick u) p t b w s e = inl refl
ticks-who (TickOrRun.Run r) p t b w s e = absurd (cc)

copy-unready : (b : Bool) (w : World) (s : Sleeping) → weigh ready_of (copy_sleeper_by b w s).next ≡ 0
copy-unready true w s = refl
copy-unready false w s = refl

anew-unready : (b : Bool) (w : World) (s : Sleeping) → weigh ready_of (sleep_anew_by b w s).next ≡ 0
anew-unready true w s = refl
anew-unready false w s = refl

listed-unready : (b : Bool) (w : World) (n : ℕ) (s : Sleeping) → weigh ready_of (sleep_listed_by b w n s).next ≡ 0
listed-unready true w n s = refl
listed-unready false w n s = refl

again-unready : (o : Option ℕ) (w : World) (n : ℕ) (s : Sleeping) → weigh ready_of (sleep_again_by o w n s).next ≡ 0
again-unready None w n s = listed-unready _ w n s
again-unready (Some at) w n s = let old = waker_at (Some at) w.sleepers.wakers in
    omega (arith, weigh-append ready_of (sleeper_goes old) (pend_as s.who), goes-unseen ready_of (λ f. refl) old)

sleep-unready : (x : Ticker) (w : World) (s : Sleeping) → weigh ready_of (fall_asleep_by x w s).next ≡ 0
sleep-unready Awake w s = anew-unready _ w s
sleep-unready (Asleep n) w s = again-unready _ w n s
sleep-unready Left w s = refl

ticks-by : (p : ℕ) (h : Hint) (o : Op) (t : ℕ) (b : By) (w : World) → calling_of o ≡ 1 →
    serves o (Call.PollTick t b) ≡ true → is_end o ≡ false →
    (weigh ready_of (act p h o w).next ≡ 0) ⊎ (1 ≤ weigh taking_of (act p h o w).next)
ticks-by p h (Op.Tick (TickOp.Search s)) t b w a e n = ticks-who s.who p t b w s e
ticks-by p h (Op.Tick (TickOp.Look s look)) t b w a e n = ticks-search look _ _ w s
ticks-by p h (Op.Tick (TickOp.CopyWaker s)) t b w a e n = inl (copy-unready _ w s)
ticks-by p h (Op.Tick (TickOp.FallAsleep s)) t b w a e n = inl (sleep-unready _ w s)
ticks-by p h (Op.Table (TableOp.Enter mark)) t b w a e n = absurd (cc)
ticks-by p h (Op.Table TableOp.LookAtTable) t b w a e n = absurd (cc)
ticks-by p h (Op.Queue QueueOp.TakeTurn) t b w a e n = absurd (cc)
ticks-by p h (Op.Queue (QueueOp.Take look)) t b w a e n = absurd (cc)
ticks-by p h (Op.Waker (WakerOp.CopyWaker x held)) t b w a e n = absurd (cc)
ticks-by p h (Op.Handle (HandleOp.Look x k)) t b w a e n = absurd (cc)
ticks-by p h (Op.Handle _) t b w a e n = absurd (cc)
ticks-by p h (Op.Tick TickOp.MakeTick) t b w a e n = absurd (cc)
ticks-by p h (Op.User (UserOp.PollOwn x)) t b w a e n = absurd (cc)
ticks-by p h (Op.List (ListOp.LockWrite Section.MakeRun)) t b w a e n = absurd (cc)
ticks-by p h (Op.List (ListOp.LockWrite (Section.Register x))) t b w a e n = absurd (cc)
ticks-by p h (Op.List (ListOp.LockWrite (Section.Unregister r x))) t b w a e n = absurd (cc)
ticks-by p h (Op.List (ListOp.Write Section.MakeRun)) t b w a e n = absurd (cc)
ticks-by p h (Op.List (ListOp.Write (Section.Register x))) t b w a e n = absurd (cc)
ticks-by p h (Op.List (ListOp.Write (Section.Unregister r x))) t b w a e n = absurd (cc)
ticks-by p h (Op.List (ListOp.LockRead x)) t b w a e n = absurd (cc)
ticks-by p h (Op.Steal o) t b w a e n = absurd (cc)
ticks-by p h (Op.Run RunOp.MakeRoom) t b w a e n = absurd (cc)
ticks-by p h (Op.Run _) t b w a e n = absurd (cc)
ticks-by p h (Op.End r held) t b w a e n = absurd (cc)
ticks-by p h _ t b w a e n = absurd (cc)

pub tick-turn : (p : ℕ) (h : Hint) (o : Op) (t : ℕ) (b : By) (w : World) → is_end o ≡ false →
    misfit (Call.PollTick t b) o ≡ 0 →
    (weigh ready_of (act p h o w).next ≡ 0) ⊎ (1 ≤ weigh taking_of (act p h o w).next)
tick-turn p h o t b w n e = ⊎_elim
    (λ (z : calling_of o ≡ 0).
    inl (omega (arith, weigh-below ready_of calling_of few-ready (act p h o w).next, (calls-act p h o w n).passes.none z)))
    (λ (z : calling_of o ≡ 1). ticks-by p h o t b w z (served (serves o (Call.PollTick t b)) e) n) (calling-is o)
