-- For due_futures_stand_with_their_keepers.
-- Which thing to do answers the poll of a run: a part of the poll, or what a run does that is ready, leads to another such
-- thing, or to the end of the call with another answer.
use Rattle.std.proofs.Common.{◌≡◌, ◌∙◌, ℕ, ◌+◌, ◌≤◌, ◌%◌, List, [], ◌∷◌, ◌++◌, length, Bool, true, false, refl, sym, ap, arith}
use Rattle.std.specs.Prelude.{Option, Some, None}
use Rattle.executor_parts.specs.Sleepers.{waker_at}
use Rattle.executor_laws.proofs.Types.{WakerOp, Hint, UserEnd, Look, First, Second, Reply, Answer, Event, Hold, ListOp, Op}
use Rattle.executor_laws.proofs.Types.{Polled, RunOp, RunPoll, Section, TickOrRun, SleeperOp, Sleeping, StealOp, TickOp, UserOp}
use Rattle.executor_laws.proofs.Types.{Waker, Task, Outside}
use Rattle.executor_model.specs.ActsOfSleepers.{copy_sleeper_by, held_as, sleep_again_by, sleep_anew_by, fall_asleep_by}
use Rattle.executor_model.specs.ActsOfSleepers.{sleep_listed_by, pend_as, look_tick_by, sleeper_goes}
use Rattle.executor_model.specs.World.{queue_of, World, Ticker, Awake, Asleep, Left, log, own_of, place_of, task}
use Rattle.executor_model.specs.ActsOfRuns.{call_by_reference, make_room_by, make_run_by, reschedule_by, wake_own}
use Rattle.executor_model.specs.{Acts.mark_in, Acts.copy_by, Doing.act, Doing.list_act, Doing.run_act, Doing.search_by_who}
use Rattle.executor_model.specs.{Doing.steal_act, Steps.accepts, Steps.react, Weights.same, Weights.weigh, Weights.is_run}
use Rattle.executor_model.proofs.OwnQueues.Using.{Mild, is_for_runs, mild-aside, mild-next, mild-polling, polling_of}
use Rattle.executor_model.proofs.OwnQueues.UsingRuns.{Part, part-common, part-look, part-own, part-steal, part-walk}
use Rattle.executor_model.proofs.{Steps.Lists.same_is, Steps.Lists.weigh-append, Steps.Asides.aside-owed}
use Rattle.executor_model.proofs.{Quiet.Calls.calling_of, Steps.SleepersNext.goes-unseen, OwnQueues.RunsDone.poll_in}
use Rattle.task_moves.specs.Moves as moves

-- what a run does that is ready
abbrev pub readying_section : ℕ → Section → ℕ
readying_section r (Section.Unregister q Reply.Ready) = same r q
readying_section r _ = 0

abbrev pub readying_of : ℕ → Op → ℕ
readying_of r (Op.List (ListOp.LockWrite s)) = readying_section r s
readying_of r (Op.List (ListOp.Write s)) = readying_section r s
readying_of r (Op.Run (RunOp.Reschedule q Reply.Ready)) = same r q
readying_of r (Op.End Reply.Ready (Hold.Run q)) = same r q
readying_of r _ = 0

-- the end of a call that has another answer
abbrev pub other_of : Op → ℕ
other_of (Op.End Reply.Ready held) = 0
other_of (Op.End a held) = 1
other_of _ = 0

abbrev pub answers_of : ℕ → Op → ℕ
answers_of r o = polling_of r o + readying_of r o

same-few : (r q : ℕ) → same r q ≤ 1
same-few r q = grind (arith, same_is)

section-few : (r : ℕ) (s : Section) → readying_section r s ≤ 1
section-few r (Section.Unregister q Reply.Ready) = same-few r q
section-few r _ = omega arith

polling-few : (r : ℕ) (o : Op) → polling_of r o ≤ calling_of o
polling-few r o = (mild-polling r).few o

pub few : (r : ℕ) (o : Op) → answers_of r o ≤ calling_of o
few r (Op.List (ListOp.LockWrite Section.MakeRun)) = omega arith
few r (Op.List (ListOp.LockWrite (Section.Register x))) = omega (arith, same-few r x.run)
few r (Op.List (ListOp.LockWrite (Section.Unregister q a))) = omega (arith, section-few r (Section.Unregister q a))
few r (Op.List (ListOp.Write Section.MakeRun)) = omega arith
few r (Op.List (ListOp.Write (Section.Register x))) = omega (arith, same-few r x.run)
few r (Op.List (ListOp.Write (Section.Unregister q a))) = omega (arith, section-few r (Section.Unregister q a))
few r (Op.Run (RunOp.Reschedule q Reply.Ready)) = omega (arith, same-few r q)
few r (Op.End Reply.Ready (Hold.Run q)) = omega (arith, same-few r q)
few r o = omega (arith, polling-few r o)

mild : (r : ℕ) → Mild (answers_of r)
mild r = record {
  few = few r;
  executor = by_executor;
  spawned = by_spawned;
  handle = by_handle;
  handles = λ o. refl;
  take = λ look. refl;
}
  where
    by_executor : (a : Reply) → answers_of r (Op.End a Hold.Executor) ≡ 0
    by_executor Reply.Ready = refl
    by_executor _ = refl

    by_spawned : (a : Reply) (f : ℕ) → answers_of r (Op.End a (Hold.Spawned f)) ≡ 0
    by_spawned Reply.Ready f = refl
    by_spawned _ f = refl

    by_handle : (a : Reply) (f : ℕ) → answers_of r (Op.End a (Hold.Handle f)) ≡ 0
    by_handle Reply.Ready f = refl
    by_handle _ f = refl

part : (r : ℕ) (x : RunPoll) → Part (answers_of r) x (same r x.run)
part r x = record {
  search = omega arith;
  copy = omega arith;
  begin = λ from t. omega arith;
  own_length = λ from t m. omega arith;
  take = λ from t m. omega arith;
  put = λ from t m f. omega arith;
  turn = omega arith;
  common = λ look. omega arith;
  look = λ at left. omega arith;
  own = omega arith;
  lock = omega arith;
}

-- what follows answers no more polls of run r, and one that was to be answered is still, or ends with another answer
pub record Hands (r : ℕ) (o : Op) (next : List Op) : Type 0 where
  pub most : weigh (answers_of r) next ≤ answers_of r o
  pub least : answers_of r o ≤ weigh (answers_of r) next + weigh other_of next

-- as much follows
as_much : (r : ℕ) (o : Op) (next : List Op) → weigh (answers_of r) next ≡ answers_of r o → Hands r o next
as_much r o next e = record { most = omega (arith, e); least = omega (arith, e) }

-- nothing was to be answered
none-before : (r : ℕ) (o : Op) → is_for_runs o ≡ false → answers_of r o ≡ 0
none-before r (Op.Tick (TickOp.Search s)) n = absurd (cc)
none-before r (Op.Tick (TickOp.Look s look)) n = absurd (cc)
none-before r (Op.Tick (TickOp.CopyWaker s)) n = absurd (cc)
none-before r (Op.Tick (TickOp.FallAsleep s)) n = absurd (cc)
none-before r (Op.User (UserOp.PollOwn x)) n = absurd (cc)
none-before r (Op.Waker (WakerOp.CopyWaker f held)) n = absurd (cc)
none-before r (Op.List o) n = absurd (cc)
none-before r (Op.Steal o) n = absurd (cc)
none-before r (Op.Run o) n = absurd (cc)
none-before r (Op.End a held) n = absurd (cc)
none-before r _ n = refl

hands-plain : (r p : ℕ) (h : Hint) (o : Op) (w : World) → is_for_runs o ≡ false → Hands r o (act p h o w).next
hands-plain r p h o w n =
    as_much r o (act p h o w).next (mild-next (answers_of r) (mild r) p h o w n ∙ sym (none-before r o n))

steal-is : (r : ℕ) (o : StealOp) → answers_of r (Op.Steal o) ≡ same r (poll_in o).run
steal-is r (StealOp.Length s) = omega arith
steal-is r _ = omega arith

-- a tick's looks
pub held : (r : ℕ) (who : TickOrRun) → readying_of r (Op.End Reply.Ready (held_as who)) ≡ is_run r who
held r (TickOrRun.Tick u) = refl
held r (TickOrRun.Run u) = refl

hands-look : (look : Look) (r : ℕ) (x : Ticker) (w : World) (q : List ℕ) (s : Sleeping) →
    weigh (answers_of r) (look_tick_by x w look q s).next ≡ is_run r s.who
hands-look (First mark) r x w [] s = omega arith
hands-look (Second mark) r x w [] s = omega arith
hands-look look r Awake w (f ∷ rest) s = omega (arith, held r s.who)
hands-look look r (Asleep n) w (f ∷ rest) s = omega (arith, held r s.who)
hands-look look r Left w (f ∷ rest) s = omega (arith, held r s.who)

hands-search : (r : ℕ) (who : TickOrRun) (p : ℕ) (w : World) (s : Sleeping) → s.who ≡ who →
    Hands r (Op.Tick (TickOp.Search s)) (search_by_who who p w s).next
hands-search r (TickOrRun.Tick t) p w s e =
    as_much r (Op.Tick (TickOp.Search s)) (search_by_who (TickOrRun.Tick t) p w s).next (omega arith)
hands-search r (TickOrRun.Run q) p w s e =
    let x : RunPoll = record { run = q; waker = s.waker; poll = s.poll } in
    as_much r (Op.Tick (TickOp.Search s)) (search_by_who (TickOrRun.Run q) p w s).next
    (omega (arith, part-own (answers_of r) (mild r) x (same r q) (part r x) (own_of w q) w, ap (is_run r) e))

-- it ends with another answer
hands-copy : (r : ℕ) (b : Bool) (w : World) (s : Sleeping) →
    Hands r (Op.Tick (TickOp.CopyWaker s)) (copy_sleeper_by b w s).next
hands-copy r true w s = record { most = omega arith; least = omega (arith, is-few r s.who) }
  where
    is-few : (r : ℕ) (who : TickOrRun) → is_run r who ≤ 1
    is-few r (TickOrRun.Tick t) = omega arith
    is-few r (TickOrRun.Run q) = same-few r q
hands-copy r false w s = as_much r (Op.Tick (TickOp.CopyWaker s)) _ (omega arith)

module _ (r : ℕ) (s : Sleeping) where
  who-few : (who : TickOrRun) → is_run r who ≤ 1
  who-few (TickOrRun.Tick t) = omega arith
  who-few (TickOrRun.Run q) = same-few r q

  pends : (before : List Op) → weigh (answers_of r) before ≡ 0 →
      Hands r (Op.Tick (TickOp.FallAsleep s)) (before ++ pend_as s.who)
  pends before z = record {
    most = omega (arith, weigh-append (answers_of r) before (pend_as s.who), z);
    least = omega (
      arith,
      weigh-append (answers_of r) before (pend_as s.who),
      weigh-append other_of before (pend_as s.who),
      who-few s.who,
    );
  }

  searches : Hands r (Op.Tick (TickOp.FallAsleep s)) (Op.Tick (TickOp.Search s) ∷ [])
  searches = as_much r (Op.Tick (TickOp.FallAsleep s)) _ (omega arith)

  hands-anew : (b : Bool) (w : World) → Hands r (Op.Tick (TickOp.FallAsleep s)) (sleep_anew_by b w s).next
  hands-anew true w = searches
  hands-anew false w = pends (Op.Sleeper (SleeperOp.CallSleeper s) ∷ []) refl

  hands-listed : (b : Bool) (w : World) (k : ℕ) → Hands r (Op.Tick (TickOp.FallAsleep s)) (sleep_listed_by b w k s).next
  hands-listed true w k = searches
  hands-listed false w k = pends (Op.Sleeper (SleeperOp.CallSleeper s) ∷ []) refl

  hands-again : (o : Option ℕ) (w : World) (k : ℕ) → Hands r (Op.Tick (TickOp.FallAsleep s)) (sleep_again_by o w k s).next
  hands-again None w k = hands-listed _ w k
  hands-again (Some at) w k = let old = waker_at (Some at) w.sleepers.wakers in
      pends (sleeper_goes old) (goes-unseen (answers_of r) (λ f. refl) old)

  hands-sleep : (x : Ticker) (w : World) → Hands r (Op.Tick (TickOp.FallAsleep s)) (fall_asleep_by x w s).next
  hands-sleep Awake w = hands-anew _ w
  hands-sleep (Asleep k) w = hands-again _ w k
  hands-sleep Left w = pends (Op.Sleeper (SleeperOp.CallSleeper s) ∷ []) refl

hands-waker : (r : ℕ) (b : Bool) (w : World) (f : ℕ) (held : Hold) →
    Hands r (Op.Waker (WakerOp.CopyWaker f held)) (copy_by b w f held).next
hands-waker r true w f held = as_much r (Op.Waker (WakerOp.CopyWaker f held)) _ refl
hands-waker r false w f held = as_much r (Op.Waker (WakerOp.CopyWaker f held)) _ refl

makes : (r : ℕ) (b : Bool) (w : World) → Hands r (Op.List (ListOp.Write Section.MakeRun)) (make_run_by b w).next
makes r true w = as_much r (Op.List (ListOp.Write Section.MakeRun)) _ refl
makes r false w = as_much r (Op.List (ListOp.Write Section.MakeRun)) _ refl

unregisters : (r q : ℕ) (a : Reply) → answers_of r (Op.Run (RunOp.Reschedule q a)) ≡ readying_section r
    (Section.Unregister q a)
unregisters r q Reply.Ready = omega arith
unregisters r q _ = omega arith

hands-list : (r : ℕ) (h : Hint) (o : ListOp) (w : World) → Hands r (Op.List o) (list_act h o w).next
hands-list r h (ListOp.LockWrite s) w = as_much r (Op.List (ListOp.LockWrite s)) _ (omega arith)
hands-list r h (ListOp.Write Section.MakeRun) w = makes r h.refused w
hands-list r h (ListOp.Write (Section.Register x)) w =
    as_much r (Op.List (ListOp.Write (Section.Register x))) _ (omega arith)
hands-list r h (ListOp.Write (Section.Unregister q a)) w =
    as_much r (Op.List (ListOp.Write (Section.Unregister q a))) _ (omega (arith, unregisters r q a))
hands-list r h ListOp.UnlockWrite w = as_much r (Op.List ListOp.UnlockWrite) _ refl
hands-list r h (ListOp.LockRead x) w = as_much r (Op.List (ListOp.LockRead x)) (list_act h (ListOp.LockRead x) w).next
    (omega (
      arith,
      part-walk (answers_of r) (mild r) x (same r x.run) (part r x) w.listed (h.start % length w.listed)
          (length w.listed),
    ))
hands-list r h ListOp.UnlockRead w = as_much r (Op.List ListOp.UnlockRead) _ refl

rooms : (r : ℕ) (b : Bool) (w : World) → Hands r (Op.Run RunOp.MakeRoom) (make_room_by b w).next
rooms r true w = as_much r (Op.Run RunOp.MakeRoom) _ refl
rooms r false w = as_much r (Op.Run RunOp.MakeRoom) _ refl

-- its own waker is called first
none-called : (r p : ℕ) (w : World) (a : Waker) → weigh (answers_of r) (call_by_reference p w a).next ≡ 0
none-called r p w (Task f) =
    aside-owed (answers_of r) (mild-aside (answers_of r) (mild r)) f _ (moves.wake_by_reference (task w f)).owed
none-called r p w (Outside y) = refl

hands-own : (r p : ℕ) (w : World) (x : RunPoll) → Hands r (Op.Run (RunOp.WakeOwn x)) (wake_own p w x).next
hands-own r p w x =
    let v = log w (Event.WakerCalled p (Polled.Run x.run) x.poll x.waker) in
    let first = (call_by_reference p v x.waker).next in record {
      most = omega (
        arith,
        weigh-append (answers_of r) first (Op.End Reply.Pending (Hold.Run x.run) ∷ []),
        none-called r p v x.waker,
      );
      least = omega (arith, weigh-append other_of first (Op.End Reply.Pending (Hold.Run x.run) ∷ []), same-few r x.run);
    }

-- what is left is scheduled, and then the call ends
reschedules : (r : ℕ) (own : List ℕ) (w : World) (q : ℕ) (a : Reply) →
    Hands r (Op.Run (RunOp.Reschedule q a)) (reschedule_by own w q a).next
reschedules r [] w q Reply.Ready = as_much r (Op.Run (RunOp.Reschedule q Reply.Ready)) _ (omega arith)
reschedules r [] w q _ = record { most = omega arith; least = omega arith }
reschedules r (f ∷ rest) w q Reply.Ready = as_much r (Op.Run (RunOp.Reschedule q Reply.Ready)) _ (omega arith)
reschedules r (f ∷ rest) w q _ = record { most = omega arith; least = omega arith }

hands-run : (r p : ℕ) (h : Hint) (o : RunOp) (w : World) → Hands r (Op.Run o) (run_act p h o w).next
hands-run r p h RunOp.MakeRoom w = rooms r h.refused w
hands-run r p h RunOp.ReturnRoom w = as_much r (Op.Run RunOp.ReturnRoom) _ refl
hands-run r p h (RunOp.TakeTurn x) w = as_much r (Op.Run (RunOp.TakeTurn x)) _ (omega arith)
hands-run r p h (RunOp.SearchCommon x look) w =
    as_much r (Op.Run (RunOp.SearchCommon x look)) (run_act p h (RunOp.SearchCommon x look) w).next
    (omega (arith, part-common (answers_of r) (mild r) x (same r x.run) (part r x) look (queue_of w (mark_in look)).items w))
hands-run r p h (RunOp.LookOwn x at left) w =
    as_much r (Op.Run (RunOp.LookOwn x at left)) (run_act p h (RunOp.LookOwn x at left) w).next
    (omega (arith, part-look (answers_of r) (mild r) x (same r x.run) (part r x) (own_of w x.run) w at left))
hands-run r p h (RunOp.WakeOwn x) w = hands-own r p w x
hands-run r p h (RunOp.Reschedule q a) w = reschedules r (own_of w q) w q a

abbrev pub is_end : Op → Bool
is_end (Op.End a held) = true
is_end _ = false

hands-by : (b : Bool) (r p : ℕ) (h : Hint) (o : Op) (w : World) → is_for_runs o ≡ b → is_end o ≡ false →
    Hands r o (act p h o w).next
hands-by false r p h o w n e = hands-plain r p h o w n
hands-by true r p h (Op.Tick (TickOp.Search s)) w n e = hands-search r s.who p w s refl
hands-by true r p h (Op.Tick (TickOp.Look s look)) w n e =
    as_much r (Op.Tick (TickOp.Look s look)) (act p h (Op.Tick (TickOp.Look s look)) w).next
    (omega (arith, hands-look look r (place_of w s.who) w (queue_of w (mark_in look)).items s))
hands-by true r p h (Op.Tick (TickOp.CopyWaker s)) w n e = hands-copy r _ w s
hands-by true r p h (Op.Tick (TickOp.FallAsleep s)) w n e = hands-sleep r s _ w
hands-by true r p h (Op.User (UserOp.PollOwn x)) w n e = as_much r (Op.User (UserOp.PollOwn x)) _ (omega arith)
hands-by true r p h (Op.Waker (WakerOp.CopyWaker f held)) w n e = hands-waker r _ w f held
hands-by true r p h (Op.List o) w n e = hands-list r h o w
hands-by true r p h (Op.Steal o) w n e = as_much r (Op.Steal o) (steal_act p o w).next
    (part-steal (answers_of r) (mild r) (same r (poll_in o).run) p o w (part r (poll_in o)) ∙ sym (steal-is r o))
hands-by true r p h (Op.Run o) w n e = hands-run r p h o w
hands-by true r p h (Op.End a held) w n e = absurd (cc)
hands-by true r p h _ w n e = absurd (cc)

pub hands-act : (r p : ℕ) (h : Hint) (o : Op) (w : World) → is_end o ≡ false → Hands r o (act p h o w).next
hands-act r p h o w e = hands-by _ r p h o w refl e

pub hands-react : (r p : ℕ) (o : Op) (u : UserEnd) (w : World) → accepts o u ≡ true → Hands r o (react p o u w).next
hands-react r p (Op.User (UserOp.Poll f)) (UserEnd.Polled Answer.Pending) w a = as_much r (Op.User (UserOp.Poll f)) _ refl
hands-react r p (Op.User (UserOp.Poll f)) (UserEnd.Polled Answer.Ready) w a = as_much r (Op.User (UserOp.Poll f)) _ refl
hands-react r p (Op.User (UserOp.Drop f)) UserEnd.Done w a = as_much r (Op.User (UserOp.Drop f)) _ refl
hands-react r p (Op.User (UserOp.DropOutput f)) UserEnd.Done w a = as_much r (Op.User (UserOp.DropOutput f)) _ refl
hands-react r p (Op.User (UserOp.CallOutside x)) UserEnd.Done w a = as_much r (Op.User (UserOp.CallOutside x)) _ refl
hands-react r p (Op.User (UserOp.PollOwn x)) (UserEnd.Polled Answer.Pending) w a =
    as_much r (Op.User (UserOp.PollOwn x)) _ (omega arith)
hands-react r p (Op.User (UserOp.PollOwn x)) (UserEnd.Polled Answer.Ready) w a =
    as_much r (Op.User (UserOp.PollOwn x)) _ (omega arith)
hands-react r p (Op.User (UserOp.DropOwn q)) UserEnd.Done w a = as_much r (Op.User (UserOp.DropOwn q)) _ refl
hands-react r p _ _ w a = absurd (cc)
