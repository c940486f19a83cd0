-- For calls_do_what_they_say.
-- Calls do what they say: what is done for a call leads to nothing that serves another.
use Rattle.std.proofs.Common.{◌≡◌, ℕ, ◌≤◌, List, [], ◌∷◌, ◌++◌, Bool, true, false, ◌&&◌, cond, ⊎_elim, refl, arith}
use Rattle.std.specs.Prelude.{Option, Some, None}
use Rattle.task_moves.specs.declared.moves.owed.Answer.{Answer}
use Rattle.task_moves.specs.declared.moves.owed.Answer.TheVariants.{Refused, Pending, Closed, Output}
use Rattle.executor_parts.specs.Sleepers.{waker_at}
use Rattle.executor_model.proofs.Types.{Look, First, Second, Mark, Move, Moved, Call, Reply, Event, HandleOp, Hold, ListOp, Op}
use Rattle.executor_model.proofs.Types.{Polled, QueueOp, RunOp, RunPoll, Section, TickOrRun, Sleeping, TableOp, TickOp, UserOp}
use Rattle.executor_model.proofs.Types.{Waker, Task, Outside, WakerOp, Hint, UserEnd}
use Rattle.executor_model.specs.Acts.{answered, copy_awaiter_by, copy_by, emptiness, end_register_by, enter_by, let_go}
use Rattle.executor_model.specs.ActsOfSleepers.{copy_sleeper_by, sleep_again_by, sleep_anew_by, fall_asleep_by, sleep_listed_by}
use Rattle.executor_model.specs.Acts.{look_again_by, look_by, polled, register_by, reply_of, take_by}
use Rattle.executor_model.specs.ActsOfSleepers.{make_tick_by, pend_as, look_tick_by, sleeper_goes}
use Rattle.executor_model.specs.Doing.{act, search_by_who}
use Rattle.executor_model.specs.World.{World, Ticker, Awake, Asleep, Left, awaiter_of, log, task}
use Rattle.executor_model.specs.{CallsMean.is_reply, Carried.awaiter_ops, Steps.accepts, Steps.react, Weights.weigh}
use Rattle.executor_model.proofs.Promises.CallPromises.{polls_run, asks, copies, leaves, makes_run, makes_tick, misfit}
use Rattle.executor_model.proofs.Steps.RunsNext.{BlindToSearches, common-unseen, look-unseen, own-unseen, steal-unseen}
use Rattle.executor_model.proofs.Steps.Asides.{Aside, aside-awaiter, aside-let_go}
use Rattle.executor_model.proofs.Promises.CallPromises.{polls_by, polls_handle, serves, spawns, tries}
use Rattle.executor_model.proofs.{Quiet.Calls.calling_of, Quiet.Calls.is_end, Quiet.CallsGroups.calls-act}
use Rattle.executor_model.proofs.{Steps.Lists.weigh-append, Steps.Lists.weigh-below, Quiet.Resting.calling-is}
use Rattle.executor_model.proofs.{Steps.RunsNext.walk-unseen, Steps.SleepersNext.goes-unseen, Steps.Tests.and-right}
use Rattle.task_moves.specs.Moves as moves
use Rattle.executor_model.specs.declared.event.Answer.TheVariants as answer
use Rattle.executor_model.specs.ActsOfRuns as runs

one-at-most : (b : Bool) → (let n : ℕ = cond b 0 1 in n) ≤ 1
one-at-most true = omega arith
one-at-most false = omega arith

-- one where it isn't so
abbrev lack : Bool → ℕ
lack b = cond b 0 1

zero : (b : Bool) → b ≡ true → lack b ≡ 0
zero true e = refl
zero false e = absurd (cc)

served : (b : Bool) → lack b ≡ 0 → b ≡ true
served true e = refl
served false e = absurd (omega (arith, e))

-- only what answers a call serves one
pub few : (c : Call) (o : Op) → misfit c o ≤ calling_of o
few c o = ⊎_elim (λ (z : calling_of o ≡ 0). omega (arith, z, plain o z))
    (λ (z : calling_of o ≡ 1). omega (arith, z, one-at-most (serves o c))) (calling-is o)
  where
    plain : (o : Op) → calling_of o ≡ 0 → misfit c o ≡ 0
    plain (Op.Table (TableOp.Enter mark)) z = absurd (omega (arith, z))
    plain (Op.Queue QueueOp.TakeTurn) z = absurd (omega (arith, z))
    plain (Op.Queue (QueueOp.Take look)) z = absurd (omega (arith, z))
    plain (Op.Table TableOp.LookAtTable) z = absurd (omega (arith, z))
    plain (Op.Waker (WakerOp.CopyWaker f held)) z = absurd (omega (arith, z))
    plain (Op.Handle (HandleOp.Look f a)) z = absurd (omega (arith, z))
    plain (Op.Handle (HandleOp.CopyAwaiter f a)) z = absurd (omega (arith, z))
    plain (Op.Handle (HandleOp.Register f a k)) z = absurd (omega (arith, z))
    plain (Op.Handle (HandleOp.EndRegister f a k)) z = absurd (omega (arith, z))
    plain (Op.Handle (HandleOp.LookAgain f)) z = absurd (omega (arith, z))
    plain (Op.Tick TickOp.MakeTick) z = absurd (omega (arith, z))
    plain (Op.Tick (TickOp.Search s)) z = absurd (omega (arith, z))
    plain (Op.Tick (TickOp.Look s look)) z = absurd (omega (arith, z))
    plain (Op.Tick (TickOp.CopyWaker s)) z = absurd (omega (arith, z))
    plain (Op.Tick (TickOp.FallAsleep s)) z = absurd (omega (arith, z))
    plain (Op.User (UserOp.PollOwn x)) z = absurd (omega (arith, z))
    plain (Op.List (ListOp.LockWrite s)) z = absurd (omega (arith, z))
    plain (Op.List (ListOp.Write s)) z = absurd (omega (arith, z))
    plain (Op.List (ListOp.LockRead x)) z = absurd (omega (arith, z))
    plain (Op.Steal o) z = absurd (omega (arith, z))
    plain (Op.Run RunOp.MakeRoom) z = absurd (omega (arith, z))
    plain (Op.Run (RunOp.TakeTurn x)) z = absurd (omega (arith, z))
    plain (Op.Run (RunOp.SearchCommon x look)) z = absurd (omega (arith, z))
    plain (Op.Run (RunOp.LookOwn x at left)) z = absurd (omega (arith, z))
    plain (Op.Run (RunOp.WakeOwn x)) z = absurd (omega (arith, z))
    plain (Op.Run (RunOp.Reschedule r a)) z = absurd (omega (arith, z))
    plain (Op.End r held) z = absurd (omega (arith, z))
    plain _ z = refl

fit-aside : (c : Call) → Aside (misfit c)
fit-aside c = record {
  move = λ m f. refl;
  append = λ f. refl;
  poll = λ f. refl;
  drop = λ f. refl;
  output = λ f. refl;
  notify = λ f mine. refl;
  call = λ f a k. refl;
  goes = λ f. refl;
}

-- calls but polls of ticks and runs

fit-enter : (c : Call) (a b : Bool) (mark : Mark) (p : ℕ) (w : World) → spawns c ≡ true → weigh (misfit c) (enter_by a b mark p w).next ≡ 0
fit-enter (Call.Spawn m) true b mark p w e = refl
fit-enter (Call.Spawn m) false true mark p w e = refl
fit-enter (Call.Spawn m) false false mark p w e = refl
fit-enter _ a b mark p w e = absurd (cc)

fit-take : (look : Look) (c : Call) (q : List ℕ) (w : World) → tries c ≡ true → weigh (misfit c) (take_by w look q).next ≡ 0
fit-take (First mark) Call.TryTick [] w e = refl
fit-take (Second mark) Call.TryTick [] w e = refl
fit-take look Call.TryTick (f ∷ rest) w e = refl
fit-take look _ q w e = absurd (cc)

fit-emptiness : (c : Call) (q : List ℕ) → asks c ≡ true → misfit c (Op.End (emptiness q) Hold.Executor) ≡ 0
fit-emptiness Call.IsEmpty [] e = refl
fit-emptiness Call.IsEmpty (f ∷ rest) e = refl
fit-emptiness _ q e = absurd (cc)

fit-copy : (c : Call) (b : Bool) (w : World) (f : ℕ) (held : Hold) → copies c ≡ true →
    weigh (misfit c) (copy_by b w f held).next ≡ 0
fit-copy (Call.Copy k) true w f held e = refl
fit-copy (Call.Copy k) false w f held e = refl
fit-copy Call.Keep true w f held e = refl
fit-copy Call.Keep false w f held e = refl
fit-copy _ b w f held e = absurd (cc)

fit-make : (c : Call) (b : Bool) (w : World) → makes_tick c ≡ true → weigh (misfit c) (make_tick_by b w).next ≡ 0
fit-make Call.NewTick true w e = refl
fit-make Call.NewTick false w e = refl
fit-make _ b w e = absurd (cc)

fit-room : (c : Call) (b : Bool) (w : World) → makes_run c ≡ true → weigh (misfit c) (runs.make_room_by b w).next ≡ 0
fit-room Call.NewRun true w e = refl
fit-room Call.NewRun false w e = refl
fit-room _ b w e = absurd (cc)

fit-run : (c : Call) (b : Bool) (w : World) → makes_run c ≡ true → weigh (misfit c) (runs.make_run_by b w).next ≡ 0
fit-run Call.NewRun true w e = refl
fit-run Call.NewRun false w e = refl
fit-run _ b w e = absurd (cc)

-- polls of handles

handle-ends : (c : Call) (f : ℕ) (a : Answer) (held : Hold) → polls_handle f c ≡ true →
    misfit c (Op.End (reply_of a) held) ≡ 0
handle-ends (Call.PollHandle g b) f Refused held e = refl
handle-ends (Call.PollHandle g b) f Pending held e = refl
handle-ends (Call.PollHandle g b) f Closed held e = refl
handle-ends (Call.PollHandle g b) f Output held e = refl
handle-ends _ f a held e = absurd (cc)

handle-refused : (c : Call) (f : ℕ) (held : Hold) → polls_handle f c ≡ true → misfit c (Op.End Reply.NoMemory held) ≡ 0
handle-refused (Call.PollHandle g b) f held e = refl
handle-refused _ f held e = absurd (cc)

fit-answered : (c : Call) (p : ℕ) (w : World) (f : ℕ) (m : Moved) (a : Answer) → polls_handle f c ≡ true →
    weigh (misfit c) (answered p w f m a).next ≡ 0
fit-answered c p w f m a e =
    omega (
      arith,
      weigh-append (misfit c) (awaiter_ops f m.owed.awaiter)
          (Op.End (reply_of a) (Hold.Handle f) ∷ []),
      aside-awaiter (misfit c) (fit-aside c) f m.owed.awaiter,
      handle-ends c f a (Hold.Handle f) e,
    )

fit-look : (c : Call) (o : Option Answer) (p : ℕ) (w : World) (f : ℕ) (a : Waker) (m : Moved) →
    polls_handle f c ≡ true → weigh (misfit c) (look_by o p w f a m).next ≡ 0
fit-look c None p w f a m e = omega (arith, zero (polls_handle f c) e)
fit-look c (Some x) p w f a m e = fit-answered c p (polled p w f) f m x e

fit-again : (c : Call) (o : Option Answer) (p : ℕ) (w : World) (f : ℕ) (m : Moved) → polls_handle f c ≡ true →
    weigh (misfit c) (look_again_by o p w f m).next ≡ 0
fit-again c None p w f m e = refl
fit-again c (Some x) p w f m e = fit-answered c p w f m x e

fit-copy_awaiter : (c : Call) (b : Bool) (p : ℕ) (w : World) (f : ℕ) (a : Waker) → polls_handle f c ≡ true →
    weigh (misfit c) (copy_awaiter_by b p w f a).next ≡ 0
fit-copy_awaiter c true p w f a e = omega (arith, handle-refused c f (Hold.Handle f) e)
fit-copy_awaiter c false p w f a e = omega (arith, zero (polls_handle f c) e)

fit-register : (c : Call) (b : Bool) (w : World) (f : ℕ) (a : Waker) (k : ℕ) → polls_handle f c ≡ true →
    weigh (misfit c) (register_by b w f a k).next ≡ 0
fit-register c true w f a k e = omega (arith, zero (polls_handle f c) e)
fit-register c false w f a k e = omega (arith, zero (polls_handle f c) e)

fit-let_go : (c : Call) (w : World) (f : ℕ) → polls_handle f c ≡ true →
    weigh (misfit c) (let_go (awaiter_of w f) ++ Op.Handle (HandleOp.LookAgain f) ∷ []) ≡ 0
fit-let_go c w f e =
    omega (
      arith,
      weigh-append (misfit c) (let_go (awaiter_of w f)) (Op.Handle (HandleOp.LookAgain f) ∷ []),
      aside-let_go (misfit c) (fit-aside c) (awaiter_of w f),
      zero (polls_handle f c) e,
    )

fit-end_register : (c : Call) (b : Bool) (w : World) (f : ℕ) (a : Waker) (k : ℕ) → polls_handle f c ≡ true →
    weigh (misfit c) (end_register_by b w f a k).next ≡ 0
fit-end_register c true w f a k e = omega (arith, fit-let_go c w f e)
fit-end_register c false w f a k e = omega (arith, fit-let_go c w f e)

-- polls of ticks and runs

record Answers (c : Call) : Type 0 where
  pub ready : is_reply c Reply.Ready ≡ true
  pub pending : is_reply c Reply.Pending ≡ true
  pub refused : is_reply c Reply.NoMemory ≡ true

answering : (who : TickOrRun) (c : Call) → polls_by who c ≡ true → Answers c
answering (TickOrRun.Tick t) (Call.PollTick u b) e = record { ready = refl; pending = refl; refused = refl }
answering who (Call.PollRun r b) e = record { ready = refl; pending = refl; refused = refl }
answering (TickOrRun.Run r) (Call.PollTick u b) e = absurd (cc)
answering (TickOrRun.Tick t) _ e = absurd (cc)
answering (TickOrRun.Run r) _ e = absurd (cc)

record Runs (c : Call) : Type 0 where
  pub is : polls_run c ≡ true
  pub by : (who : TickOrRun) → polls_by who c ≡ true
  pub left : leaves c ≡ true
  pub answers : Answers c

polling : (c : Call) → polls_run c ≡ true → Runs c
polling (Call.PollRun r b) e = record {
  is = refl;
  by = by;
  left = refl;
  answers = record { ready = refl; pending = refl; refused = refl };
}
  where
    by : (who : TickOrRun) → polls_by who (Call.PollRun r b) ≡ true
    by (TickOrRun.Tick t) = refl
    by (TickOrRun.Run q) = refl
polling _ e = absurd (cc)

-- what a tick or run does in its poll
module _ (c : Call) (s : Sleeping) (e : polls_by s.who c ≡ true) where
  here : lack (polls_by s.who c) ≡ 0
  here = zero (polls_by s.who c) e

  ready : lack (is_reply c Reply.Ready) ≡ 0
  ready = zero (is_reply c Reply.Ready) (answering s.who c e).ready

  pending : lack (is_reply c Reply.Pending) ≡ 0
  pending = zero (is_reply c Reply.Pending) (answering s.who c e).pending

  refused : lack (is_reply c Reply.NoMemory) ≡ 0
  refused = zero (is_reply c Reply.NoMemory) (answering s.who c e).refused

  fit-search : (look : Look) (x : Ticker) (w : World) (q : List ℕ) → weigh (misfit c) (look_tick_by x w look q s).next ≡ 0
  fit-search (First mark) x w [] = omega (arith, here)
  fit-search (Second mark) x w [] = omega (arith, here)
  fit-search look Awake w (f ∷ rest) = omega (arith, ready)
  fit-search look (Asleep n) w (f ∷ rest) = omega (arith, ready)
  fit-search look Left w (f ∷ rest) = omega (arith, ready)

  fit-copy_sleeper : (b : Bool) (w : World) → weigh (misfit c) (copy_sleeper_by b w s).next ≡ 0
  fit-copy_sleeper true w = omega (arith, refused)
  fit-copy_sleeper false w = omega (arith, here)

  fit-anew : (b : Bool) (w : World) → weigh (misfit c) (sleep_anew_by b w s).next ≡ 0
  fit-anew true w = omega (arith, here)
  fit-anew false w = omega (arith, pending)

  fit-listed : (b : Bool) (w : World) (n : ℕ) → weigh (misfit c) (sleep_listed_by b w n s).next ≡ 0
  fit-listed true w n = omega (arith, here)
  fit-listed false w n = omega (arith, pending)

  fit-sleep_again : (o : Option ℕ) (w : World) (n : ℕ) → weigh (misfit c) (sleep_again_by o w n s).next ≡ 0
  fit-sleep_again None w n = fit-listed _ w n
  fit-sleep_again (Some at) w n = let old = waker_at (Some at) w.sleepers.wakers in
      omega (arith, weigh-append (misfit c) (sleeper_goes old) (pend_as s.who), goes-unseen (misfit c) (λ f. refl) old, pending)

  fit-sleep : (x : Ticker) (w : World) → weigh (misfit c) (fall_asleep_by x w s).next ≡ 0
  fit-sleep Awake w = fit-anew _ w
  fit-sleep (Asleep n) w = fit-sleep_again _ w n
  fit-sleep Left w = omega (arith, pending)

-- what a run alone does
module _ (c : Call) (k : Runs c) where
  own : lack (polls_run c) ≡ 0
  own = zero (polls_run c) k.is

  searching : BlindToSearches (misfit c)
  searching = record {
    exchange = refl;
    search = λ s. zero (polls_by s.who c) (k.by s.who);
    copy = λ s. zero (polls_by s.who c) (k.by s.who);
    up = λ who. refl;
    take_up = λ f. refl;
    steal = λ o. own;
    lock = λ x. own;
    unlock = refl;
    turn = λ x. own;
    common = λ x look. own;
    look = λ x at left. own;
    wake = λ x. own;
  }

  fit-wake_own : (p : ℕ) (h : Hint) (w : World) (x : RunPoll) → weigh (misfit c) (runs.wake_own p w x).next ≡ 0
  fit-wake_own p h w x =
      let v : World = log w (Event.WakerCalled p (Polled.Run x.run) x.poll x.waker) in
      let next = (runs.call_by_reference p v x.waker).next in
      omega (
        arith,
        weigh-append (misfit c) next (Op.End Reply.Pending (Hold.Run x.run) ∷ []),
        called p h v x.waker,
        zero (is_reply c Reply.Pending) k.answers.pending,
      )
    where
      called : (p : ℕ) (h : Hint) (w : World) (a : Waker) → weigh (misfit c) (runs.call_by_reference p w a).next ≡ 0
      called p h w (Task g) = omega (
        arith,
        weigh-below (misfit c) calling_of (few c) (runs.call_by_reference p w (Task g)).next,
        (calls-act p h (Op.Move Move.WakeByReference g) w refl).passes.none refl,
      )
      called p h w (Outside y) = refl

fit-who : (c : Call) (who : TickOrRun) (p : ℕ) (w : World) (s : Sleeping) → polls_by who c ≡ true → polls_by s.who c ≡ true →
    weigh (misfit c) (search_by_who who p w s).next ≡ 0
fit-who c (TickOrRun.Tick t) p w s a e = omega (arith, here c s e)
fit-who c (TickOrRun.Run r) p w s a e = own-unseen (misfit c) (searching c (polling c a)) _ w _

fit-reschedule : (c : Call) (q : List ℕ) (w : World) (r : ℕ) (a : Reply) → (leaves c && is_reply c a) ≡ true →
    weigh (misfit c) (runs.reschedule_by q w r a).next ≡ 0
fit-reschedule c [] w r a e = omega (arith, zero (is_reply c a) (and-right (leaves c) (is_reply c a) e))
fit-reschedule c (f ∷ rest) w r a e = omega (arith, zero (leaves c && is_reply c a) e)

-- of what answers a call
fit-calling : (c : Call) (p : ℕ) (h : Hint) (o : Op) (w : World) → calling_of o ≡ 1 → serves o c ≡ true →
    is_end o ≡ false → weigh (misfit c) (act p h o w).next ≡ 0
fit-calling c p h (Op.Table (TableOp.Enter mark)) w a e n = fit-enter c _ _ _ p w e
fit-calling c p h (Op.Queue QueueOp.TakeTurn) w a e n = omega (arith, zero (tries c) e)
fit-calling c p h (Op.Queue (QueueOp.Take look)) w a e n = fit-take look c _ w e
fit-calling c p h (Op.Table TableOp.LookAtTable) w a e n = omega (arith, fit-emptiness c w.table e)
fit-calling c p h (Op.Waker (WakerOp.CopyWaker f held)) w a e n = fit-copy c _ w f held e
fit-calling c p h (Op.Handle (HandleOp.Look f x)) w a e n =
    fit-look c (moves.poll (task w f)).owed.answer p w f x (moves.poll (task w f)) e
fit-calling c p h (Op.Handle (HandleOp.CopyAwaiter f x)) w a e n = fit-copy_awaiter c _ p w f x e
fit-calling c p h (Op.Handle (HandleOp.Register f x k)) w a e n = fit-register c _ w f x k e
fit-calling c p h (Op.Handle (HandleOp.EndRegister f x k)) w a e n = fit-end_register c _ w f x k e
fit-calling c p h (Op.Handle (HandleOp.LookAgain f)) w a e n =
    fit-again c (moves.look_again (task w f)).owed.answer p w f (moves.look_again (task w f)) e
fit-calling c p h (Op.Tick TickOp.MakeTick) w a e n = fit-make c _ w e
fit-calling c p h (Op.Tick (TickOp.Search s)) w a e n = fit-who c s.who p w s e e
fit-calling c p h (Op.Tick (TickOp.Look s look)) w a e n = fit-search c s e look _ w _
fit-calling c p h (Op.Tick (TickOp.CopyWaker s)) w a e n = fit-copy_sleeper c s e _ w
fit-calling c p h (Op.Tick (TickOp.FallAsleep s)) w a e n = fit-sleep c s e _ w
fit-calling c p h (Op.User (UserOp.PollOwn x)) w a e n = omega (arith, zero (polls_run c) e)
fit-calling c p h (Op.List (ListOp.LockWrite Section.MakeRun)) w a e n = omega (arith, zero (makes_run c) e)
fit-calling c p h (Op.List (ListOp.LockWrite (Section.Register x))) w a e n = omega (arith, zero (polls_run c) e)
fit-calling c p h (Op.List (ListOp.LockWrite (Section.Unregister r x))) w a e n =
    omega (arith, zero (leaves c && is_reply c x) e)
fit-calling c p h (Op.List (ListOp.Write Section.MakeRun)) w a e n = fit-run c _ w e
fit-calling c p h (Op.List (ListOp.Write (Section.Register x))) w a e n = omega (arith, zero (polls_run c) e)
fit-calling c p h (Op.List (ListOp.Write (Section.Unregister r x))) w a e n =
    omega (arith, zero (leaves c && is_reply c x) e)
fit-calling c p h (Op.List (ListOp.LockRead x)) w a e n =
    walk-unseen (misfit c) (searching c (polling c e)) x w.listed _ _
fit-calling c p h (Op.Steal o) w a e n = steal-unseen (misfit c) (searching c (polling c e)) (λ f. refl) p o w
fit-calling c p h (Op.Run RunOp.MakeRoom) w a e n = fit-room c _ w e
fit-calling c p h (Op.Run (RunOp.TakeTurn x)) w a e n = omega (arith, zero (polls_run c) e)
fit-calling c p h (Op.Run (RunOp.SearchCommon x look)) w a e n =
    common-unseen (misfit c) (searching c (polling c e)) look _ w x
fit-calling c p h (Op.Run (RunOp.LookOwn x at left)) w a e n =
    look-unseen (misfit c) (searching c (polling c e)) _ w x at left
fit-calling c p h (Op.Run (RunOp.WakeOwn x)) w a e n = fit-wake_own c (polling c e) p h w x
fit-calling c p h (Op.Run (RunOp.Reschedule r x)) w a e n = fit-reschedule c _ w r x e
fit-calling c p h _ w a e n = absurd (cc)

pub fit-act : (c : Call) (p : ℕ) (h : Hint) (o : Op) (w : World) → is_end o ≡ false → misfit c o ≡ 0 →
    weigh (misfit c) (act p h o w).next ≡ 0
fit-act c p h o w n e = ⊎_elim
    (λ (z : calling_of o ≡ 0).
    omega (arith, weigh-below (misfit c) calling_of (few c) (act p h o w).next, (calls-act p h o w n).passes.none z))
    (λ (z : calling_of o ≡ 1). fit-calling c p h o w z (served (serves o c) e) n) (calling-is o)

pub fit-react : (c : Call) (p : ℕ) (o : Op) (u : UserEnd) (w : World) → accepts o u ≡ true → misfit c o ≡ 0 →
    weigh (misfit c) (react p o u w).next ≡ 0
fit-react c p (Op.User (UserOp.Poll f)) (UserEnd.Polled answer.Pending) w a e = refl
fit-react c p (Op.User (UserOp.Poll f)) (UserEnd.Polled answer.Ready) w a e = refl
fit-react c p (Op.User (UserOp.Drop f)) UserEnd.Done w a e = refl
fit-react c p (Op.User (UserOp.DropOutput f)) UserEnd.Done w a e = refl
fit-react c p (Op.User (UserOp.CallOutside x)) UserEnd.Done w a e = refl
fit-react c p (Op.User (UserOp.PollOwn x)) (UserEnd.Polled answer.Pending) w a e = omega (arith, e)
fit-react c p (Op.User (UserOp.PollOwn x)) (UserEnd.Polled answer.Ready) w a e = ready c (polling c (served (polls_run c) e))
  where
    ready : (c : Call) → Runs c → weigh (misfit c) (react p (Op.User (UserOp.PollOwn x)) (UserEnd.Polled answer.Ready) w).next ≡ 0
    ready c k = omega (arith, zero (leaves c && is_reply c Reply.Ready) (both (leaves c) (is_reply c Reply.Ready) k.left k.answers.ready))
      where
        both : (a b : Bool) → a ≡ true → b ≡ true → (a && b) ≡ true
        both true b x y = y
        both false b x y = absurd (cc)
fit-react c p (Op.User (UserOp.DropOwn r)) UserEnd.Done w a e = refl
fit-react c p _ _ w a e = absurd (cc)
