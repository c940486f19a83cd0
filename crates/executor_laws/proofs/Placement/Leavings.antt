-- For due_futures_stand_with_their_keepers.
-- Who leaves the list of queues, as the run's own future was ready or the run is dropped, goes on to leave it until its
-- call ends; and nobody else begins to.
use Rattle.std.proofs.Common.{◌≡◌, ◌∙◌, ℕ, zero, suc, ◌≤◌, ◌%◌, List, [], ◌∷◌, length, Bool, true, false, refl, ap, arith}
use Rattle.std.specs.Prelude.{Option, Some, None}
use Rattle.executor_parts.specs.Sleepers.{waker_at}
use Rattle.executor_laws.proofs.Types.{Outside, WakerOp, Hint, UserEnd, Look, First, Second, Call, Reply, Answer, Event, Hold}
use Rattle.executor_laws.proofs.Types.{ListOp, Op, Polled, RunOp, RunPoll, Section, TickOrRun, Sleeping, Steal, Then, TickOp}
use Rattle.executor_laws.proofs.Types.{UserOp, Waker, Task}
use Rattle.executor_model.specs.World.{queue_of, World, Ticker, Awake, Asleep, Left, Stage, New, Listed, Ended, Done, log}
use Rattle.executor_model.specs.ActsOfSleepers.{copy_sleeper_by, sleep_again_by, sleep_anew_by, fall_asleep_by, sleep_listed_by}
use Rattle.executor_model.specs.ActsOfSleepers.{held_as, pend_as, look_tick_by, sleeper_goes}
use Rattle.executor_model.specs.ActsOfRuns.{call_by_reference, make_room_by, make_run_by, reschedule_by, steal_by, wake_own}
use Rattle.executor_model.specs.Steps.{accepts, begun, drop_run, future_of, kept, poll_run, react, with_future}
use Rattle.executor_model.specs.{World.own_of, World.task, Acts.mark_in, Acts.copy_by, Doing.act, Doing.list_act, Doing.run_act}
use Rattle.executor_model.specs.{Doing.search_by_who, Rows.running_of, Weights.is_run, Weights.same, Weights.weigh}
use Rattle.executor_model.proofs.Steps.Lists.{same_is, weigh-append, weigh-below}
use Rattle.executor_model.proofs.OwnQueues.RunsMoving.{Weighs, by_then, weighs-stolen}
use Rattle.executor_model.proofs.OwnQueues.Using.{Mild, is_for_runs, mild-aside, mild-next}
use Rattle.executor_model.proofs.OwnQueues.UsingRuns.{Part, part-common, part-look, part-own, part-steal, part-walk}
use Rattle.executor_model.proofs.Steps.SleepersNext.{goes-unseen}
use Rattle.executor_model.proofs.{Steps.Asides.aside-owed, Quiet.Calls.calling_of, OwnQueues.RunsDone.poll_in}
use Rattle.executor_laws.proofs.Placement.Answering.{is_end, readying_of}
use Rattle.task_moves.specs.Moves as moves

-- it has left the list as it was ready
abbrev pub off_of : ℕ → Op → ℕ
off_of r (Op.Run (RunOp.Reschedule q Reply.Ready)) = same r q
off_of r (Op.End Reply.Ready (Hold.Run q)) = same r q
off_of r (Op.Tick (TickOp.Look s look)) = is_run r s.who
off_of r _ = 0

-- it leaves as it is dropped
abbrev pub dropping_section : ℕ → Section → ℕ
dropping_section r (Section.Unregister q Reply.Ready) = 0
dropping_section r (Section.Unregister q a) = same r q
dropping_section r _ = 0

abbrev pub dropping_of : ℕ → Op → ℕ
dropping_of r (Op.List (ListOp.LockWrite s)) = dropping_section r s
dropping_of r (Op.List (ListOp.Write s)) = dropping_section r s
dropping_of r (Op.Run (RunOp.Reschedule q Reply.Ready)) = 0
dropping_of r (Op.Run (RunOp.Reschedule q a)) = same r q
dropping_of r _ = 0

-- all these
abbrev pub leaving_section : ℕ → Section → ℕ
leaving_section r (Section.Unregister q a) = same r q
leaving_section r _ = 0

abbrev pub leaving_of : ℕ → Op → ℕ
leaving_of r (Op.List (ListOp.LockWrite s)) = leaving_section r s
leaving_of r (Op.List (ListOp.Write s)) = leaving_section r s
leaving_of r (Op.Run (RunOp.Reschedule q a)) = same r q
leaving_of r (Op.End Reply.Ready (Hold.Run q)) = same r q
leaving_of r (Op.Tick (TickOp.Look s look)) = is_run r s.who
leaving_of r _ = 0

same-few : (r q : ℕ) → same r q ≤ 1
same-few r q = grind (arith, same_is)

pub off-leaves : (r : ℕ) (o : Op) → off_of r o ≤ leaving_of r o
off-leaves r (Op.Run (RunOp.Reschedule q Reply.Ready)) = omega arith
off-leaves r (Op.End Reply.Ready (Hold.Run q)) = omega arith
off-leaves r _ = omega arith

pub dropping-leaves : (r : ℕ) (o : Op) → dropping_of r o ≤ leaving_of r o
dropping-leaves r (Op.List (ListOp.LockWrite (Section.Unregister q Reply.Ready))) = omega arith
dropping-leaves r (Op.List (ListOp.Write (Section.Unregister q Reply.Ready))) = omega arith
dropping-leaves r (Op.Run (RunOp.Reschedule q Reply.Ready)) = omega arith
dropping-leaves r _ = omega arith

pub readying-leaves : (r : ℕ) (o : Op) → readying_of r o ≤ leaving_of r o
readying-leaves r (Op.List (ListOp.LockWrite (Section.Unregister q Reply.Ready))) = omega arith
readying-leaves r (Op.List (ListOp.Write (Section.Unregister q Reply.Ready))) = omega arith
readying-leaves r (Op.Run (RunOp.Reschedule q Reply.Ready)) = omega arith
readying-leaves r (Op.End Reply.Ready (Hold.Run q)) = omega arith
readying-leaves r _ = omega arith

pub leaving-uses : (r : ℕ) (o : Op) → leaving_of r o ≤ running_of r o
leaving-uses r (Op.List (ListOp.LockWrite Section.MakeRun)) = omega arith
leaving-uses r (Op.List (ListOp.Write Section.MakeRun)) = omega arith
leaving-uses r (Op.Run (RunOp.Reschedule q a)) = omega arith
leaving-uses r (Op.End Reply.Ready (Hold.Run q)) = omega arith
leaving-uses r (Op.Tick (TickOp.Look s look)) = omega arith
leaving-uses r _ = omega arith

section-few : (r : ℕ) (s : Section) → leaving_section r s ≤ 1
section-few r (Section.Unregister q a) = same-few r q
section-few r _ = omega arith

who-few : (r : ℕ) (who : TickOrRun) → is_run r who ≤ 1
who-few r (TickOrRun.Tick t) = omega arith
who-few r (TickOrRun.Run q) = same-few r q

few : (r : ℕ) (o : Op) → leaving_of r o ≤ calling_of o
few r (Op.List (ListOp.LockWrite s)) = section-few r s
few r (Op.List (ListOp.Write s)) = section-few r s
few r (Op.Run (RunOp.Reschedule q a)) = same-few r q
few r (Op.End Reply.Ready (Hold.Run q)) = same-few r q
few r (Op.Tick (TickOp.Look s look)) = who-few r s.who
few r _ = omega arith

mild : (r : ℕ) → Mild (leaving_of r)
mild r = record {
  few = few r;
  executor = by_executor;
  spawned = by_spawned;
  handle = by_handle;
  handles = λ o. refl;
  take = λ look. refl;
}
  where
    by_executor : (a : Reply) → leaving_of r (Op.End a Hold.Executor) ≡ 0
    by_executor Reply.Ready = refl
    by_executor _ = refl

    by_spawned : (a : Reply) (f : ℕ) → leaving_of r (Op.End a (Hold.Spawned f)) ≡ 0
    by_spawned Reply.Ready f = refl
    by_spawned _ f = refl

    by_handle : (a : Reply) (f : ℕ) → leaving_of r (Op.End a (Hold.Handle f)) ≡ 0
    by_handle Reply.Ready f = refl
    by_handle _ f = refl

part : (r : ℕ) (x : RunPoll) → Part (leaving_of r) x 0
part r x = record {
  search = refl;
  copy = refl;
  begin = λ from t. refl;
  own_length = λ from t m. refl;
  take = λ from t m. refl;
  put = λ from t m f. refl;
  turn = refl;
  common = λ look. refl;
  look = λ at left. refl;
  own = refl;
  lock = refl;
}

-- what has to do with leaving
abbrev pub leaves : Op → Bool
leaves (Op.List (ListOp.LockWrite (Section.Unregister q a))) = true
leaves (Op.List (ListOp.Write (Section.Unregister q a))) = true
leaves (Op.Run (RunOp.Reschedule q a)) = true
leaves (Op.End a held) = true
leaves (Op.Tick (TickOp.Look s look)) = true
leaves _ = false

module _ (r : ℕ) (s : Sleeping) where
  pends : weigh (leaving_of r) (pend_as s.who) ≡ 0
  pends = refl

  none-anew : (b : Bool) (w : World) → weigh (leaving_of r) (sleep_anew_by b w s).next ≡ 0
  none-anew true w = refl
  none-anew false w = refl

  none-listed : (b : Bool) (w : World) (k : ℕ) → weigh (leaving_of r) (sleep_listed_by b w k s).next ≡ 0
  none-listed true w k = refl
  none-listed false w k = refl

  none-again : (o : Option ℕ) (w : World) (k : ℕ) → weigh (leaving_of r) (sleep_again_by o w k s).next ≡ 0
  none-again None w k = none-listed _ w k
  none-again (Some at) w k = let old = waker_at (Some at) w.sleepers.wakers in
      omega (arith, weigh-append (leaving_of r) (sleeper_goes old) (pend_as s.who), goes-unseen (leaving_of r) (λ f. refl) old)

  none-sleep : (x : Ticker) (w : World) → weigh (leaving_of r) (fall_asleep_by x w s).next ≡ 0
  none-sleep Awake w = none-anew _ w
  none-sleep (Asleep k) w = none-again _ w k
  none-sleep Left w = refl

none-copy : (r : ℕ) (b : Bool) (w : World) (s : Sleeping) → weigh (leaving_of r) (copy_sleeper_by b w s).next ≡ 0
none-copy r true w s = refl
none-copy r false w s = refl

none-waker : (r : ℕ) (b : Bool) (w : World) (f : ℕ) (held : Hold) → weigh (leaving_of r) (copy_by b w f held).next ≡ 0
none-waker r true w f held = refl
none-waker r false w f held = refl

none-make : (r : ℕ) (b : Bool) (w : World) → weigh (leaving_of r) (make_run_by b w).next ≡ 0
none-make r true w = refl
none-make r false w = refl

none-list : (r : ℕ) (h : Hint) (o : ListOp) (w : World) → leaves (Op.List o) ≡ false →
    weigh (leaving_of r) (list_act h o w).next ≡ 0
none-list r h (ListOp.LockWrite (Section.Unregister q a)) w e = absurd (cc)
none-list r h (ListOp.Write Section.MakeRun) w e = none-make r h.refused w
none-list r h (ListOp.Write (Section.Unregister q a)) w e = absurd (cc)
none-list r h (ListOp.LockRead x) w e =
    part-walk (leaving_of r) (mild r) x 0 (part r x) w.listed (h.start % length w.listed) (length w.listed)
none-list r h _ w e = refl

none-room : (r : ℕ) (b : Bool) (w : World) → weigh (leaving_of r) (make_room_by b w).next ≡ 0
none-room r true w = refl
none-room r false w = refl

none-called : (r p : ℕ) (w : World) (a : Waker) → weigh (leaving_of r) (call_by_reference p w a).next ≡ 0
none-called r p w (Task f) =
    aside-owed (leaving_of r) (mild-aside (leaving_of r) (mild r)) f _ (moves.wake_by_reference (task w f)).owed
none-called r p w (Outside y) = refl

none-own : (r p : ℕ) (w : World) (x : RunPoll) → weigh (leaving_of r) (wake_own p w x).next ≡ 0
none-own r p w x =
    let v = log w (Event.WakerCalled p (Polled.Run x.run) x.poll x.waker) in omega (
      arith,
      weigh-append (leaving_of r) (call_by_reference p v x.waker).next (Op.End Reply.Pending (Hold.Run x.run) ∷ []),
      none-called r p v x.waker,
    )

none-run : (r p : ℕ) (h : Hint) (o : RunOp) (w : World) → leaves (Op.Run o) ≡ false →
    weigh (leaving_of r) (run_act p h o w).next ≡ 0
none-run r p h RunOp.MakeRoom w e = none-room r h.refused w
none-run r p h RunOp.ReturnRoom w e = refl
none-run r p h (RunOp.TakeTurn x) w e = refl
none-run r p h (RunOp.SearchCommon x look) w e =
    part-common (leaving_of r) (mild r) x 0 (part r x) look (queue_of w (mark_in look)).items w
none-run r p h (RunOp.LookOwn x at left) w e =
    part-look (leaving_of r) (mild r) x 0 (part r x) (own_of w x.run) w at left
none-run r p h (RunOp.WakeOwn x) w e = none-own r p w x
none-run r p h (RunOp.Reschedule q a) w e = absurd (cc)

none-search : (r : ℕ) (who : TickOrRun) (p : ℕ) (w : World) (s : Sleeping) → s.who ≡ who →
    weigh (leaving_of r) (search_by_who who p w s).next ≡ 0
none-search r (TickOrRun.Tick t) p w s e = omega (arith, ap (is_run r) e)
none-search r (TickOrRun.Run q) p w s e =
    let x : RunPoll = record { run = q; waker = s.waker; poll = s.poll } in
    part-own (leaving_of r) (mild r) x 0 (part r x) (own_of w q) w

pub none-by : (b : Bool) (r p : ℕ) (h : Hint) (o : Op) (w : World) → is_for_runs o ≡ b → leaves o ≡ false →
    weigh (leaving_of r) (act p h o w).next ≡ 0
none-by false r p h o w n e = mild-next (leaving_of r) (mild r) p h o w n
none-by true r p h (Op.Tick (TickOp.Search s)) w n e = none-search r s.who p w s refl
none-by true r p h (Op.Tick (TickOp.Look s look)) w n e = absurd (cc)
none-by true r p h (Op.Tick (TickOp.CopyWaker s)) w n e = none-copy r _ w s
none-by true r p h (Op.Tick (TickOp.FallAsleep s)) w n e = none-sleep r s _ w
none-by true r p h (Op.User (UserOp.PollOwn x)) w n e = refl
none-by true r p h (Op.Waker (WakerOp.CopyWaker f held)) w n e = none-waker r _ w f held
none-by true r p h (Op.List o) w n e = none-list r h o w e
none-by true r p h (Op.Steal o) w n e = part-steal (leaving_of r) (mild r) 0 p o w (part r (poll_in o))
none-by true r p h (Op.Run o) w n e = none-run r p h o w e
none-by true r p h (Op.End a held) w n e = absurd (cc)
none-by true r p h _ w n e = absurd (cc)

-- a steal goes on
pub leaving-more : (r n : ℕ) (w : World) (x : Steal) → weigh (leaving_of r) (steal_by n w x).next ≡ 0
leaving-more r zero w x = weighs-stolen (leaving_of r) x.poll 0 0 found x.then w ∙ none x.then
  where
    found : Weighs (leaving_of r) x.poll 0 0
    found = record {
      exchange = refl;
      up = λ who. refl;
      take_up = λ f. refl;
      search = refl;
      wake = refl;
      steal = λ f. refl;
      steal_plain = λ f. refl;
      look = λ at left. refl;
    }

    none : (t : Then) → by_then 0 0 t ≡ 0
    none (Then.Found f) = refl
    none (Then.StealPlain f) = refl
    none (Then.Run f) = refl
    none (Then.Walk at left) = refl
leaving-more r (suc n) w x = refl

not-leaving : (r : ℕ) (o : Op) → leaves o ≡ false → leaving_of r o ≡ 0
not-leaving r (Op.Tick (TickOp.Look s look)) e = absurd (cc)
not-leaving r (Op.List (ListOp.LockWrite (Section.Unregister q a))) e = absurd (cc)
not-leaving r (Op.List (ListOp.Write (Section.Unregister q a))) e = absurd (cc)
not-leaving r (Op.Run (RunOp.Reschedule q a)) e = absurd (cc)
not-leaving r (Op.End a held) e = absurd (cc)
not-leaving r _ e = refl

-- how what has to do with leaving goes on
pub record Leaves (r : ℕ) (old next : List Op) : Type 0 where
  pub off : weigh (off_of r) next ≤ weigh (off_of r) old
  pub dropping : weigh (dropping_of r) next ≤ weigh (dropping_of r) old
  pub readying : weigh (readying_of r) old ≤ weigh (readying_of r) next

pub leaves-none : (r : ℕ) (old next : List Op) → weigh (leaving_of r) old ≡ 0 → weigh (leaving_of r) next ≡ 0 →
    Leaves r old next
leaves-none r old next a b = record {
  off = omega (arith, b, weigh-below (off_of r) (leaving_of r) (off-leaves r) next);
  dropping = omega (arith, b, weigh-below (dropping_of r) (leaving_of r) (dropping-leaves r) next);
  readying = omega (arith, a, weigh-below (readying_of r) (leaving_of r) (readying-leaves r) old);
}

leaves-reschedule : (r : ℕ) (own : List ℕ) (w : World) (q : ℕ) (a : Reply) →
    Leaves r (Op.Run (RunOp.Reschedule q a) ∷ []) (reschedule_by own w q a).next
leaves-reschedule r [] w q Reply.Ready = record { off = omega arith; dropping = omega arith; readying = omega arith }
leaves-reschedule r [] w q _ = record { off = omega arith; dropping = omega arith; readying = omega arith }
leaves-reschedule r (f ∷ rest) w q Reply.Ready =
    record { off = omega arith; dropping = omega arith; readying = omega arith }
leaves-reschedule r (f ∷ rest) w q _ = record { off = omega arith; dropping = omega arith; readying = omega arith }

-- but for the section by which the run leaves the list
abbrev pub is_unregister : Op → Bool
is_unregister (Op.List (ListOp.Write (Section.Unregister q a))) = true
is_unregister _ = false

off-held : (r : ℕ) (who : TickOrRun) → off_of r (Op.End Reply.Ready (held_as who)) ≡ is_run r who
off-held r (TickOrRun.Tick u) = refl
off-held r (TickOrRun.Run u) = refl

-- a look goes on with nothing of these, but that it may be ready
leaves-look : (look : Look) (r : ℕ) (x : Ticker) (w : World) (q : List ℕ) (s : Sleeping) →
    Leaves r (Op.Tick (TickOp.Look s look) ∷ []) (look_tick_by x w look q s).next
leaves-look (First mark) r x w [] s = record { off = omega arith; dropping = omega arith; readying = omega arith }
leaves-look (Second mark) r x w [] s = record { off = omega arith; dropping = omega arith; readying = omega arith }
leaves-look look r Awake w (f ∷ rest) s = record { off = omega (arith, off-held r s.who); dropping = omega arith; readying = omega arith }
leaves-look look r (Asleep n) w (f ∷ rest) s =
    record { off = omega (arith, off-held r s.who); dropping = omega arith; readying = omega arith }
leaves-look look r Left w (f ∷ rest) s = record { off = omega (arith, off-held r s.who); dropping = omega arith; readying = omega arith }

leaves-by : (b : Bool) (r p : ℕ) (h : Hint) (o : Op) (w : World) → leaves o ≡ b → is_end o ≡ false →
    is_unregister o ≡ false → Leaves r (o ∷ []) (act p h o w).next
leaves-by false r p h o w e n m =
    leaves-none r (o ∷ []) (act p h o w).next (omega (arith, not-leaving r o e)) (none-by _ r p h o w refl e)
leaves-by true r p h (Op.List (ListOp.LockWrite (Section.Unregister q a))) w e n m =
    record { off = omega arith; dropping = omega arith; readying = omega arith }
leaves-by true r p h (Op.List (ListOp.Write (Section.Unregister q a))) w e n m = absurd (cc)
leaves-by true r p h (Op.Run (RunOp.Reschedule q a)) w e n m = leaves-reschedule r (own_of w q) w q a
leaves-by true r p h (Op.Tick (TickOp.Look s look)) w e n m = leaves-look look r _ w _ s
leaves-by true r p h (Op.End a held) w e n m = absurd (cc)
leaves-by true r p h _ w e n m = absurd (cc)

pub leaves-act : (r p : ℕ) (h : Hint) (o : Op) (w : World) → is_end o ≡ false → is_unregister o ≡ false →
    Leaves r (o ∷ []) (act p h o w).next
leaves-act r p h o w n m = leaves-by _ r p h o w refl n m

pub leaves-react : (r p : ℕ) (o : Op) (u : UserEnd) (w : World) → accepts o u ≡ true →
    Leaves r (o ∷ []) (react p o u w).next
leaves-react r p (Op.User (UserOp.Poll f)) (UserEnd.Polled Answer.Pending) w a = leaves-none r _ _ refl refl
leaves-react r p (Op.User (UserOp.Poll f)) (UserEnd.Polled Answer.Ready) w a = leaves-none r _ _ refl refl
leaves-react r p (Op.User (UserOp.Drop f)) UserEnd.Done w a = leaves-none r _ _ refl refl
leaves-react r p (Op.User (UserOp.DropOutput f)) UserEnd.Done w a = leaves-none r _ _ refl refl
leaves-react r p (Op.User (UserOp.CallOutside x)) UserEnd.Done w a = leaves-none r _ _ refl refl
leaves-react r p (Op.User (UserOp.PollOwn x)) (UserEnd.Polled Answer.Pending) w a = leaves-none r _ _ refl refl
leaves-react r p (Op.User (UserOp.PollOwn x)) (UserEnd.Polled Answer.Ready) w a =
    record { off = omega arith; dropping = omega arith; readying = omega arith }
leaves-react r p (Op.User (UserOp.DropOwn q)) UserEnd.Done w a = leaves-none r _ _ refl refl
leaves-react r p _ _ w a = absurd (cc)

-- a call begins

abbrev pub drops_run : Call → Bool
drops_run (Call.DropRun q) = true
drops_run _ = false

none-with : (r : ℕ) (w : World) (x : Option ℕ) (d : ℕ → Done) → ((f : ℕ) → weigh (leaving_of r) (d f).next ≡ 0) →
    weigh (leaving_of r) (with_future w x d).next ≡ 0
none-with r w None d k = refl
none-with r w (Some f) d k = k f

none-poll : (r : ℕ) (t : Stage) (x : RunPoll) → weigh (leaving_of r) (poll_run t x) ≡ 0
none-poll r New x = refl
none-poll r Listed x = refl
none-poll r Ended x = refl

pub none-begun : (r p : ℕ) (w : World) (o : Option Waker) (c : Call) → drops_run c ≡ false →
    weigh (leaving_of r) (begun p w o c).next ≡ 0
none-begun r p w o (Call.Wake k) z = none-with r w (kept w k) _ (λ f. refl)
none-begun r p w o (Call.WakeByRef k) z = none-with r w (kept w k) _ (λ f. refl)
none-begun r p w o (Call.Copy k) z = none-with r w (kept w k) _ (λ f. refl)
none-begun r p w o (Call.DropWaker k) z = none-with r w (kept w k) _ (λ f. refl)
none-begun r p w o Call.Keep z = none-with r w (future_of o) _ (λ f. refl)
none-begun r p w o Call.WakeSelf z = none-with r w (future_of o) _ (λ f. refl)
none-begun r p w o (Call.PollRun q b) z = none-poll r _ _
none-begun r p w o (Call.DropRun q) z = absurd (cc)
none-begun r p w o _ z = refl

-- who drops a run doesn't leave as one that is ready
pub drop-leaves : (r : ℕ) (t : Stage) (q : ℕ) →
    (weigh (off_of r) (drop_run t q) ≡ 0) × (weigh (dropping_of r) (drop_run t q) ≤ same r q)
drop-leaves r New q = (refl, omega arith)
drop-leaves r Listed q = (refl, omega arith)
drop-leaves r Ended q = (refl, omega arith)
