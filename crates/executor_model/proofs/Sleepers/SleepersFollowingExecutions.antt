-- For sleepers_agree and sleepers_are_told.
-- After every list of steps the sleepers of the machine are sleepers after sections of theirs.
use Rattle.std.proofs.Common.{◌≡◌, ℕ, zero, suc, ◌+◌, ◌%◌, ◌<◌, ◌≤◌, List, [], ◌∷◌, ◌++◌, length, get_or, set, Bool, true}
use Rattle.std.proofs.Common.{false, ltb, eqb, refl, sym, ap, subst, ⊎_elim, ◌⊎◌, inl, inr, ◌||◌, arith}
use Rattle.std.proofs.lemmas.Bool.Decides.{nat_tests}
use Rattle.std.specs.Prelude.{Option, Some, None, is_none, reverse}
use Rattle.executor_parts.specs.Sleepers.{flag_of, position_of, waker_at, waker_of}
use Rattle.executor_parts.proofs.Agreeing.{first}
use Rattle.executor_model.proofs.Types.{Look, Mark, First, Second, Kind, Call, Reply, Event, Answer, Hold, Op, QueueOp, ListOp}
use Rattle.executor_model.proofs.Types.{RunOp, RunPoll, Section, Sleeping, SleeperOp, TickOp, UserOp, Waker, Task, Outside}
use Rattle.executor_model.proofs.Types.{Hint, Step, UserEnd, TickOrRun}
use Rattle.executor_model.specs.ActsOfSleepers.{exchange_by, hand_out_by, call_sleeper, make_tick_by, polled_as, look_tick_by}
use Rattle.executor_model.specs.ActsOfSleepers.{copy_sleeper_by, sleep_anew_by, sleeper_goes, sleep_listed_by, sleep_again_by}
use Rattle.executor_model.specs.Steps.{Machine, stack, run, start, mine, top, accepts, begun, drop_run, future_of, idle, kept}
use Rattle.executor_model.specs.ActsOfRuns.{lock_read, lock_write, make_room_by, make_run_by, registered, return_room}
use Rattle.executor_model.specs.ActsOfSleepers.{fall_asleep_by, wake_up_by, tell_and_return, pend_as, leave_sleepers_by}
use Rattle.executor_model.specs.World.{World, Ticker, Awake, Asleep, Left, Stage, New, Listed, Ended, Done, done, log, place_of}
use Rattle.executor_model.specs.{Acts.append_by, Acts.copied, Doing.act, Doing.list_act, Doing.search_by_who, Doing.sleeper_act}
use Rattle.executor_model.specs.{Doing.tick_act, Good.Good, Steps.poll_run, Steps.react, Steps.with_future, Weights.weigh}
use Rattle.executor_model.specs.{Weights.weigh_all, SleepersAgree.SleepersAgree, SleepersAgree.hands_of, SleepersAgree.room_of}
use Rattle.executor_model.proofs.Sleepers.SleepersAway.{sleepers_seen, sleepers_seen-run, Away, away-act, away-call, away-own}
use Rattle.executor_model.proofs.Sleepers.SleepersAway.{is_seen_asleep, no-owes-searching, owes-hands, owes-rooms, owes_of}
use Rattle.executor_model.proofs.Sleepers.SleepersWakingUp.{WakesUpWell, wakes_up-append, wakes_up-none, wakes_up-push}
use Rattle.executor_model.proofs.Sleepers.TickLists.{slumbering-places, places, rooms-places, times-apart, up_rooms-all}
use Rattle.executor_model.proofs.Sleepers.SleepersFollowing.{Follows, shift, follows-won, follows-hand_out, follows-make}
use Rattle.executor_model.proofs.Sleepers.SleepersFollowing.{in-flagged, follows-anew, follows-listed, follows-again}
use Rattle.executor_model.proofs.Sleepers.SleepersFollowing.{follows-returned, follows-room, follows-run, follows-up}
use Rattle.executor_model.proofs.Steps.Lift.{split, unsettled, weigh_all-idle, good-start}
use Rattle.executor_model.proofs.Steps.SleepersNext.{goes-unseen, tell-unseen}
use Rattle.executor_model.proofs.Steps.Ways.{Way, acted, reacted, called, along}
use Rattle.executor_model.proofs.Sleepers.SleepersWakingUp.{wakes_up-rest, wakes_up-set, wakes_up_of, wakes_up_well}
use Rattle.executor_model.proofs.Sleepers.SleepersFollowing.{follows-left, follows-left_awake, follows-unlisted}
use Rattle.executor_model.proofs.{Steps.Lists.weigh-append, Steps.Lists.weigh_all-push, Steps.RunsNext.walk-unseen}
use Rattle.executor_model.proofs.{Sleepers.SleepersAway.wakes_up-walk, Sleepers.TickLists.used_all-apart}

-- they follow on where old is done, while others have still to hand out k times and owe so much room; and who wakes up
-- tells
pub record Follow (w : World) (old : List Op) (d : Done) : Type 0 where
  pub on : (i j k a b c : ℕ) → i ≡ weigh hands_of old + k → j ≡ weigh hands_of d.next + k →
      a ≡ weigh room_of old + c → b ≡ weigh room_of d.next + c → Follows (sleepers_seen w) i a → Follows (sleepers_seen d.world) j b
  pub wakes_up : wakes_up_well d.next ≡ true

-- nothing of it changes, and as many hand out and owe room as before
shifted : (w v : World) (old next : List Op) → sleepers_seen w ≡ sleepers_seen v → weigh hands_of old ≡ weigh hands_of next →
    weigh room_of old ≡ weigh room_of next → wakes_up_well next ≡ true → Follow w old (done v next)
shifted w v old next e p q r = record {
  on = λ i j k a b c x y z u f. shift (sleepers_seen w) (sleepers_seen v) i j a b e (omega (arith, p, x, y)) (omega (arith, q, z, u)) f;
  wakes_up = r;
}

-- nothing of it changes, and nobody hands out or owes room
still : (w v : World) (old next : List Op) → sleepers_seen w ≡ sleepers_seen v → weigh owes_of old ≡ 0 → weigh owes_of next ≡ 0 →
    wakes_up_well next ≡ true → Follow w old (done v next)
still w v old next e a b r = shifted w v old next e (omega (arith, owes-hands old a, owes-hands next b))
    (omega (arith, owes-rooms old a, owes-rooms next b)) r

-- something changes, and nobody hands out or owes room
turned : (w v : World) (old next : List Op) → weigh owes_of old ≡ 0 → weigh owes_of next ≡ 0 → wakes_up_well next ≡ true →
    ((k m : ℕ) → Follows (sleepers_seen w) k m → Follows (sleepers_seen v) k m) → Follow w old (done v next)
turned w v old next p q r t = record {
  on = λ i j k a b c x y z u f. shift (sleepers_seen v) (sleepers_seen v) i j a b refl
      (omega (arith, owes-hands old p, owes-hands next q, x, y))
      (omega (arith, owes-rooms old p, owes-rooms next q, z, u))
      (t i a f);
  wakes_up = r;
}

goes : (o : Option Sleeping) → weigh owes_of (sleeper_goes o) ≡ 0
goes o = goes-unseen owes_of (λ f. refl) o

goes-well : (o : Option Sleeping) → wakes_up_well (sleeper_goes o) ≡ true
goes-well o = wakes_up-none (sleeper_goes o) (goes-unseen wakes_up_of (λ f. refl) o)

follow-append : (b : Bool) (w : World) (mark : Mark) (f : ℕ) → Follow w (Op.Queue (QueueOp.Append f) ∷ []) (append_by b w mark f)
follow-append true w mark f = still w _ _ _ refl refl refl refl
follow-append false w mark f = still w _ _ _ refl refl refl refl

follow-exchange : (b : Bool) (w : World) → w.notified ≡ b →
    Follow w (Op.Sleeper SleeperOp.ExchangeFlag ∷ []) (exchange_by b w)
follow-exchange true w e = still w _ _ _ refl refl refl refl
follow-exchange false w e =
    record {
      on = λ i j k a b c x y z u f. let v = (exchange_by false w).world in
          shift (sleepers_seen v) (sleepers_seen v) (i + 1) j a b refl (omega (arith, x, y)) (omega (arith, z, u))
          (follows-won w i a e f);
      wakes_up = refl;
    }

hands-out : (b : Bool) (o : Option Sleeping) (w : World) → eqb (length w.sleepers.wakers) w.sleepers.count ≡ b →
    weigh owes_of (hand_out_by b o w).next ≡ 0 → wakes_up_well (hand_out_by b o w).next ≡ true →
    Follow w (Op.Sleeper SleeperOp.HandOut ∷ []) (hand_out_by b o w)
hands-out t o w e n r =
    record {
      on = λ i j k a b c x y z u f. let v = (hand_out_by t o w).world in
          let d = (hand_out_by t o w).next in
          shift (sleepers_seen v) (sleepers_seen v) k j a b refl (omega (arith, y, owes-hands d n)) (omega (arith, z, u, owes-rooms d n))
          (follows-hand_out t o w k a e (shift (sleepers_seen w) (sleepers_seen w) i (k + 1) a a refl (omega (arith, x)) refl f));
      wakes_up = r;
    }

follow-hand_out : (b : Bool) (o : Option Sleeping) (w : World) → eqb (length w.sleepers.wakers) w.sleepers.count ≡ b →
    Follow w (Op.Sleeper SleeperOp.HandOut ∷ []) (hand_out_by b o w)
follow-hand_out false o w e = hands-out false o w e refl refl
follow-hand_out true None w e = hands-out true None w e refl refl
follow-hand_out true (Some s) w e = hands-out true (Some s) w e refl refl

follow-away : (w : World) (old : List Op) (d : Done) → weigh owes_of old ≡ 0 → Away w d → Follow w old d
follow-away w old d z a = still w d.world old d.next a.sleepers_seen z a.owes a.wakes_up

follow-sleeper : (p : ℕ) (o : SleeperOp) (w : World) → Follow w (Op.Sleeper o ∷ []) (sleeper_act p o w)
follow-sleeper p SleeperOp.ExchangeFlag w = follow-exchange _ w refl
follow-sleeper p SleeperOp.HandOut w = follow-hand_out _ _ w refl
follow-sleeper p (SleeperOp.CallSleeper s) w =
    follow-away w _ (call_sleeper p w s) refl (away-call p w (polled_as s.who) s.waker s.poll)

follow-make : (b : Bool) (w : World) → Follow w (Op.Tick TickOp.MakeTick ∷ []) (make_tick_by b w)
follow-make true w = still w _ _ _ refl refl refl refl
follow-make false w = turned w _ _ _ refl refl refl (λ k m f. follows-make w k m f)

follow-search : (look : Look) (x : Ticker) (q : List ℕ) (w : World) (s : Sleeping) →
    Follow w (Op.Tick (TickOp.Look s look) ∷ []) (look_tick_by x w look q s)
follow-search (First mark) x [] w s = still w _ _ _ refl refl refl refl
follow-search (Second mark) x [] w s = still w _ _ _ refl refl refl refl
follow-search look Awake (f ∷ rest) w s = still w _ _ _ refl refl refl refl
follow-search look (Asleep n) (f ∷ rest) w s = still w _ _ _ refl refl refl refl
follow-search look Left (f ∷ rest) w s = still w _ _ _ refl refl refl refl

follow-search_who : (who : TickOrRun) (p : ℕ) (w : World) (s : Sleeping) →
    Follow w (Op.Tick (TickOp.Search s) ∷ []) (search_by_who who p w s)
follow-search_who (TickOrRun.Tick t) p w s = still w _ _ _ refl refl refl refl
follow-search_who (TickOrRun.Run r) p w s = follow-away w _ _ refl
    (away-own _ w (record { run = r; waker = s.waker; poll = s.poll }))

sleepers_seen-copied : (a : Waker) (w : World) → sleepers_seen w ≡ sleepers_seen (copied w a)
sleepers_seen-copied (Task g) w = refl
sleepers_seen-copied (Outside x) w = refl

follow-copy : (b : Bool) (w : World) (s : Sleeping) →
    Follow w (Op.Tick (TickOp.CopyWaker s) ∷ []) (copy_sleeper_by b w s)
follow-copy true w s = still w _ _ _ refl refl refl refl
follow-copy false w s = still w _ _ _ (sleepers_seen-copied s.waker w) refl refl refl

follow-anew : (b : Bool) (w : World) (s : Sleeping) → place_of w s.who ≡ Awake →
    ltb w.sleepers.count w.sleepers.rooms ≡ b → Follow w (Op.Tick (TickOp.FallAsleep s) ∷ []) (sleep_anew_by b w s)
follow-anew true w s e r = turned w _ _ _ refl refl refl (λ k m f. follows-anew w s k m e r f)
follow-anew false w s e r = still w _ _ _ refl refl refl refl

follow-listed : (b : Bool) (w : World) (n : ℕ) (s : Sleeping) → place_of w s.who ≡ Asleep n →
    position_of n w.sleepers.wakers ≡ None → Follow w (Op.Tick (TickOp.FallAsleep s) ∷ []) (sleep_listed_by b w n s)
follow-listed true w n s e q = turned w _ _ _ refl refl refl (λ k m f. follows-listed w n s k m e q f)
follow-listed false w n s e q = still w _ _ _ refl refl refl refl

follow-again : (o : Option ℕ) (w : World) (n : ℕ) (s : Sleeping) → place_of w s.who ≡ Asleep n →
    position_of n w.sleepers.wakers ≡ o → Follow w (Op.Tick (TickOp.FallAsleep s) ∷ []) (sleep_again_by o w n s)
follow-again None w n s e q = follow-listed _ w n s e q
follow-again (Some at) w n s e q =
    let old = waker_at (Some at) w.sleepers.wakers in
    turned w _ _ _ refl (omega (arith, weigh-append owes_of (sleeper_goes old) (pend_as s.who), goes old))
    (wakes_up-append (sleeper_goes old) (pend_as s.who) (goes-well old) refl)
    (λ k m f. follows-again w n at s k m e q f)

follow-sleep : (x : Ticker) (w : World) (s : Sleeping) → place_of w s.who ≡ x →
    Follow w (Op.Tick (TickOp.FallAsleep s) ∷ []) (fall_asleep_by x w s)
follow-sleep Awake w s e = follow-anew _ w s e refl
follow-sleep (Asleep n) w s e = follow-again _ w n s e refl
follow-sleep Left w s e = still w _ _ _ refl refl refl refl

follow-up : (x : Ticker) (w : World) (t : TickOrRun) → place_of w t ≡ x →
    Follow w (Op.Tick (TickOp.WakeUp t) ∷ []) (wake_up_by x w t)
follow-up Awake w t e = still w _ _ _ refl refl refl refl
follow-up (Asleep n) w t e =
    let old = waker_of n w.sleepers.wakers in
    turned w _ _ _ refl (goes old) (goes-well old) (λ k m h. follows-up w t n k m e h)
follow-up Left w t e = still w _ _ _ refl refl refl refl

tell_and_return-well : (b : Bool) → wakes_up_well (tell_and_return b) ≡ true
tell_and_return-well true = refl
tell_and_return-well false = refl

-- it owes room
returns : (b : Bool) → weigh room_of (tell_and_return b) ≡ 1
returns true = refl
returns false = refl

follow-leave : (x : Ticker) (w : World) (t : TickOrRun) → place_of w t ≡ x →
    Follow w (Op.Tick (TickOp.Leave t) ∷ []) (leave_sleepers_by x w t)
follow-leave Awake w t e = turned w _ _ _ refl refl refl (λ k m h. follows-left_awake w t k m e h)
follow-leave (Asleep n) w t e =
    let old = waker_of n w.sleepers.wakers in
    let told = tell_and_return (is_none old) in
    let hands : weigh hands_of (sleeper_goes old ++ told) ≡ 0 = omega (
      arith,
      weigh-append hands_of (sleeper_goes old) told,
      goes-unseen hands_of (λ f. refl) old,
      tell-unseen hands_of refl refl (is_none old),
    ) in
    let room : weigh room_of (sleeper_goes old ++ told) ≡ 1 = omega (
      arith,
      weigh-append room_of (sleeper_goes old) told,
      goes-unseen room_of (λ f. refl) old,
      returns (is_none old),
    ) in
    record {
      on = λ i j k a b c x y z u f. let v = (leave_sleepers_by (Asleep n) w t).world in
          shift (sleepers_seen v) (sleepers_seen v) i j (1 + a) b refl (omega (arith, hands, x, y)) (omega (arith, room, z, u))
          (follows-left w t n i a e f);
      wakes_up = wakes_up-append (sleeper_goes old) told (goes-well old) (tell_and_return-well (is_none old));
    }
follow-leave Left w t e = still w _ _ _ refl refl refl refl

follow-tick : (p : ℕ) (h : Hint) (o : TickOp) (w : World) → Follow w (Op.Tick o ∷ []) (tick_act p h o w)
follow-tick p h TickOp.MakeTick w = follow-make _ w
follow-tick p h (TickOp.Search s) w = follow-search_who s.who p w s
follow-tick p h (TickOp.Look s look) w = follow-search look _ _ w s
follow-tick p h (TickOp.CopyWaker s) w = follow-copy _ w s
follow-tick p h (TickOp.FallAsleep s) w = follow-sleep _ w s refl
follow-tick p h (TickOp.WakeUp t) w = follow-up _ w t refl
follow-tick p h (TickOp.Leave t) w = follow-leave _ w t refl

-- the list of queues, and room for a run

follow-lock : (s : Section) (w : World) → Follow w (Op.List (ListOp.LockWrite s) ∷ []) (lock_write w s)
follow-lock Section.MakeRun w = shifted w _ _ _ refl refl refl refl
follow-lock (Section.Register x) w = shifted w _ _ _ refl refl refl refl
follow-lock (Section.Unregister r a) w = shifted w _ _ _ refl refl refl refl

follow-make_run : (b : Bool) (w : World) → Follow w (Op.List (ListOp.Write Section.MakeRun) ∷ []) (make_run_by b w)
follow-make_run true w = shifted w _ _ _ refl refl refl refl
follow-make_run false w =
    record {
      on = λ i j k a b c x y z u f. let v = (make_run_by false w).world in
          shift (sleepers_seen v) (sleepers_seen v) i j c b refl (omega (arith, x, y)) (omega (arith, u))
          (follows-run w i c (shift (sleepers_seen w) (sleepers_seen w) i i a (c + 1) refl refl (omega (arith, z)) f));
      wakes_up = refl;
    }

sleepers_seen-registered : (t : Stage) (w : World) (r : ℕ) → sleepers_seen w ≡ sleepers_seen (registered t w r)
sleepers_seen-registered New w r = sleepers_seen-run w r _ refl
sleepers_seen-registered Listed w r = refl
sleepers_seen-registered Ended w r = refl

follow-list : (h : Hint) (o : ListOp) (w : World) → Follow w (Op.List o ∷ []) (list_act h o w)
follow-list h (ListOp.LockWrite s) w = follow-lock s w
follow-list h (ListOp.Write Section.MakeRun) w = follow-make_run h.refused w
follow-list h (ListOp.Write (Section.Register x)) w = still w _ _ _ (sleepers_seen-registered _ w x.run) refl refl refl
follow-list h (ListOp.Write (Section.Unregister r a)) w = still w _ _ _ (sleepers_seen-run w r _ refl) refl refl refl
follow-list h ListOp.UnlockWrite w = still w _ _ _ refl refl refl refl
follow-list h (ListOp.LockRead x) w = still w (lock_read h w x).world _ (lock_read h w x).next refl refl
    (walk-unseen owes_of no-owes-searching x w.listed (h.start % length w.listed) (length w.listed))
    (wakes_up-walk x w.listed (h.start % length w.listed) (length w.listed))
follow-list h ListOp.UnlockRead w = still w _ _ _ refl refl refl refl

follow-room : (b : Bool) (w : World) → Follow w (Op.Run RunOp.MakeRoom ∷ []) (make_room_by b w)
follow-room true w = still w _ _ _ refl refl refl refl
follow-room false w =
    record {
      on = λ i j k a b c x y z u f. let v = (make_room_by false w).world in
          shift (sleepers_seen v) (sleepers_seen v) i j (a + 1) b refl (omega (arith, x, y)) (omega (arith, z, u)) (follows-room w i a f);
      wakes_up = refl;
    }

follow-returned : (w : World) → Follow w (Op.Run RunOp.ReturnRoom ∷ []) (return_room w)
follow-returned w =
    record {
      on = λ i j k a b c x y z u f. let v = (return_room w).world in
          shift (sleepers_seen v) (sleepers_seen v) i j c b refl (omega (arith, x, y)) (omega (arith, u))
          (follows-returned w i c (shift (sleepers_seen w) (sleepers_seen w) i i a (1 + c) refl refl (omega (arith, z)) f));
      wakes_up = refl;
    }

no-owes : (o : Op) → is_seen_asleep o ≡ false → owes_of o ≡ 0
no-owes (Op.Sleeper o) e = absurd (cc)
no-owes (Op.List o) e = absurd (cc)
no-owes (Op.Run RunOp.ReturnRoom) e = absurd (cc)
no-owes _ e = refl

pub follow-act : (b : Bool) (p : ℕ) (h : Hint) (o : Op) (w : World) → is_seen_asleep o ≡ b → Follow w (o ∷ []) (act p h o w)
follow-act false p h o w n = follow-away w (o ∷ []) (act p h o w) (omega (arith, no-owes o n)) (away-act p h o w n)
follow-act true p h (Op.Queue (QueueOp.Append g)) w n = follow-append _ w _ g
follow-act true p h (Op.Sleeper o) w n = follow-sleeper p o w
follow-act true p h (Op.Tick o) w n = follow-tick p h o w
follow-act true p h (Op.List o) w n = follow-list h o w
follow-act true p h (Op.Run RunOp.MakeRoom) w n = follow-room _ w
follow-act true p h (Op.Run RunOp.ReturnRoom) w n = follow-returned w
follow-act true p h _ w n = absurd (cc)

pub follow-react : (p : ℕ) (o : Op) (u : UserEnd) (w : World) → accepts o u ≡ true → Follow w (o ∷ []) (react p o u w)
follow-react p (Op.User (UserOp.Poll f)) (UserEnd.Polled Answer.Pending) w a = still w _ _ _ refl refl refl refl
follow-react p (Op.User (UserOp.Poll f)) (UserEnd.Polled Answer.Ready) w a = still w _ _ _ refl refl refl refl
follow-react p (Op.User (UserOp.Drop f)) UserEnd.Done w a = still w _ _ _ refl refl refl refl
follow-react p (Op.User (UserOp.DropOutput f)) UserEnd.Done w a = still w _ _ _ refl refl refl refl
follow-react p (Op.User (UserOp.CallOutside x)) UserEnd.Done w a = still w _ _ _ refl refl refl refl
follow-react p (Op.User (UserOp.PollOwn x)) (UserEnd.Polled Answer.Pending) w a = still w _ _ _ refl refl refl refl
follow-react p (Op.User (UserOp.PollOwn x)) (UserEnd.Polled Answer.Ready) w a = still w _ _ _ refl refl refl refl
follow-react p (Op.User (UserOp.DropOwn r)) UserEnd.Done w a = still w _ _ _ refl refl refl refl
follow-react p _ _ w a = absurd (cc)

follow-with : (w v : World) (x : Option ℕ) (d : ℕ → Done) → sleepers_seen w ≡ sleepers_seen v → ((f : ℕ) → Follow w [] (d f)) →
    Follow w [] (with_future v x d)
follow-with w v None d e n = still w v _ _ e refl refl refl
follow-with w v (Some f) d e n = n f

follow-poll_run : (w v : World) (t : Stage) (x : RunPoll) → sleepers_seen w ≡ sleepers_seen v → Follow w [] (done v (poll_run t x))
follow-poll_run w v New x e = still w v _ _ e refl refl refl
follow-poll_run w v Listed x e = still w v _ _ e refl refl refl
follow-poll_run w v Ended x e = still w v _ _ e refl refl refl

follow-drop_run : (w v : World) (t : Stage) (r : ℕ) → sleepers_seen w ≡ sleepers_seen v → Follow w [] (done v (drop_run t r))
follow-drop_run w v New r e = still w v _ _ e refl refl refl
follow-drop_run w v Listed r e = still w v _ _ e refl refl refl
follow-drop_run w v Ended r e = still w v _ _ e refl refl refl

pub follow-begun : (p : ℕ) (w : World) (here : Option Waker) (c : Call) →
    Follow w [] (begun p (log w (Event.CallBegun p c)) here c)
follow-begun p w here (Call.Wake n) = follow-with w (log w (Event.CallBegun p (Call.Wake n))) (kept w n) _ refl
    (λ f. still w _ _ _ refl refl refl refl)
follow-begun p w here (Call.WakeByRef n) = follow-with w (log w (Event.CallBegun p (Call.WakeByRef n))) (kept w n) _
    refl (λ f. still w _ _ _ refl refl refl refl)
follow-begun p w here (Call.Copy n) = follow-with w (log w (Event.CallBegun p (Call.Copy n))) (kept w n) _ refl
    (λ f. still w _ _ _ refl refl refl refl)
follow-begun p w here (Call.DropWaker n) = follow-with w (log w (Event.CallBegun p (Call.DropWaker n))) (kept w n) _
    refl (λ f. still w _ _ _ refl refl refl refl)
follow-begun p w here Call.Keep =
    follow-with w (log w (Event.CallBegun p Call.Keep)) (future_of here) _ refl (λ f. still w _ _ _ refl refl refl refl)
follow-begun p w here Call.WakeSelf = follow-with w (log w (Event.CallBegun p Call.WakeSelf)) (future_of here) _ refl
    (λ f. still w _ _ _ refl refl refl refl)
follow-begun p w here (Call.PollRun r b) = follow-poll_run w _ _ _ refl
follow-begun p w here (Call.DropRun r) = follow-drop_run w _ _ r (sleepers_seen-run w r _ refl)
follow-begun p w here _ = still w _ _ _ refl refl refl refl

-- every step

pub record Followed (s : Machine) : Type 0 where
  pub follows : Follows (sleepers_seen s.world) (weigh_all hands_of s.parties) (weigh_all room_of s.parties)
  pub wakes_up : (q : ℕ) → WakesUpWell (stack s q)

follow-way : (s : Machine) (p : ℕ) (old rest : List Op) (d : Done) → Way s p old rest d → Follow s.world old d
follow-way s p old rest d (acted h o q z) = rw (z, q) (follow-act _ p h o s.world refl)
follow-way s p old rest d (reacted o u a q z) = rw z (rw q (follow-react p o u s.world a))
follow-way s p old rest d (called c q r n z) = rw z (rw q (follow-begun p s.world (mine (top (stack s p))) c))

moved : (s : Machine) (p : ℕ) (old rest : List Op) (d : Done) → p < length s.parties → stack s p ≡ rest ++ reverse old →
    Follow s.world old d → Followed s → Followed (unsettled s p rest d)
moved s p old rest d l e f h = record {
  follows = f.on _ _ (weigh_all hands_of (set s.parties p rest)) _ _ (weigh_all room_of (set s.parties p rest))
      (split hands_of s.parties p old rest l e) (weigh_all-push hands_of s.parties p rest d.next l)
      (split room_of s.parties p old rest l e) (weigh_all-push room_of s.parties p rest d.next l) h.follows;
  wakes_up = wakes_up-set s.parties p (rest ++ reverse d.next) l h.wakes_up
      (wakes_up-push rest d.next (wakes_up-rest rest old (subst WakesUpWell e (h.wakes_up p))) f.wakes_up);
}

pub followed-moves : (s : Machine) (p : ℕ) (old rest : List Op) (d : Done) → Good s → p < length s.parties →
    stack s p ≡ rest ++ reverse old → Way s p old rest d → Followed s → Followed (unsettled s p rest d)
followed-moves s p old rest d good l e w f = moved s p old rest d l e (follow-way s p old rest d w) f

pub followed-ends : (s : Machine) (p : ℕ) (a : Reply) (held : Hold) (below : List Op) → p < length s.parties →
    stack s p ≡ below ++ reverse (Op.End a held ∷ []) → Followed s →
    Followed (unsettled s p below (done (log s.world (Event.CallEnded p a)) []))
followed-ends s p a held below l e f = moved s p (Op.End a held ∷ []) below _ l e
    (still s.world (log s.world (Event.CallEnded p a)) (Op.End a held ∷ []) [] refl refl refl refl) f

idle-stack : (n q : ℕ) → get_or (idle n) q [] ≡ []
idle-stack zero q = refl
idle-stack (suc n) zero = refl
idle-stack (suc n) (suc q) = idle-stack n q

pub followed-start : (limit : ℕ) (kind : Kind) (n : ℕ) → Followed (start limit kind n)
followed-start limit kind n = record {
  follows = shift (sleepers_seen (start limit kind n).world) (sleepers_seen (start limit kind n).world) 0 _ 0 _ refl
      (sym (weigh_all-idle hands_of n))
      (sym (weigh_all-idle room_of n))
      (record { numbers = []; kept = first; same = λ m. refl; fallen_asleep = refl; roomed = refl });
  wakes_up = λ q. ap (λ (os : List Op). wakes_up_well (reverse os)) (idle-stack n q);
}

pub followed : (limit : ℕ) (kind : Kind) (n : ℕ) (ts : List Step) → Followed (run ts (start limit kind n))
followed limit kind n ts = along Followed followed-moves followed-ends ts (start limit kind n) (good-start limit kind n)
    (followed-start limit kind n)

-- what follows of it

flag-cases : (count len : ℕ) → (eqb count 0 || ltb len count) ≡ true → (count ≡ 0) ⊎ (len < count)
flag-cases count len e = by (eqb count 0) refl e
  where
    by : (b : Bool) → eqb count 0 ≡ b → (b || ltb len count) ≡ true → (count ≡ 0) ⊎ (len < count)
    by true q k = let z : count ≡ 0 = grind (arith, nat_tests) in inl z
    by false q k = let z : len < count = grind (arith, nat_tests) in inr z

pub agrees : (s : Machine) → Followed s → SleepersAgree s
agrees s h = let f = h.follows in
    let w = s.world in
    let ps : List Ticker = places w.runs in record {
      apart = λ t u n a b. used_all-apart n w.ticks ps t u
          (omega (arith, f.same n, times-apart n f.numbers f.kept.agree.apart)) (in-flagged w t (Asleep n) a)
          (in-flagged w u (Asleep n) b);
      counted = omega (arith, f.fallen_asleep, slumbering-places w.runs);
      listed = f.kept.agree.listed;
      roomed = omega (arith, f.roomed, rooms-places w.runs);
      finds_room = λ t e. omega (arith, f.fallen_asleep, f.roomed, up_rooms-all w.ticks ps t (in-flagged w t Awake e));
      finds_place = λ t n e q. follows-unlisted w t n _ _ e q f;
      flag = λ e. ⊎_elim
          (λ (x : flag_of w.sleepers ≡ true). ⊎_elim (λ (z : w.sleepers.count ≡ 0). inl z)
          (λ (z : length w.sleepers.wakers < w.sleepers.count). inr (inl z))
          (flag-cases w.sleepers.count (length w.sleepers.wakers) x))
          (λ (x : 1 ≤ weigh_all hands_of s.parties). inr (inr x))
          (f.kept.agree.told e);
    }

pub agree : (limit : ℕ) (kind : Kind) (n : ℕ) (ts : List Step) → SleepersAgree (run ts (start limit kind n))
agree limit kind n ts = agrees (run ts (start limit kind n)) (followed limit kind n ts)
