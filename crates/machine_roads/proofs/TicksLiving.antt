-- Which ticks live behind what one party does alone: the same, but where one is made or leaves.
use Rattle.std.proofs.Common.{◌≡◌, ℕ, zero, suc, ◌≤◌, ◌%◌, Bool, true, false, List, [], ◌∷◌, length, get_or, set, Option, Some, None}
use Rattle.std.proofs.Common.{refl, sym, ap, ◌∙◌, arith}
use Rattle.std.specs.Prelude.{is_none}
use Rattle.task_moves.specs.declared.moves.owed.Move.{Move}
use Rattle.executor_model.specs.declared.event.Answer.{Answer}
use Rattle.executor_model.specs.declared.event.Event.{Event}
use Rattle.executor_model.specs.declared.call.Call.{Call}
use Rattle.executor_model.specs.declared.call.Reply.{Reply}
use Rattle.executor_model.specs.declared.op.ClosingOp.{ClosingOp}
use Rattle.executor_model.specs.declared.op.Hold.{Hold}
use Rattle.executor_model.specs.declared.op.ListOp.{ListOp}
use Rattle.executor_model.specs.declared.op.Look.{Look}
use Rattle.executor_model.specs.declared.op.Look.TheVariants.{First, Second}
use Rattle.executor_model.specs.declared.op.Op.{Op}
use Rattle.executor_model.specs.declared.op.Polled.{Polled}
use Rattle.executor_model.specs.declared.op.QueueOp.{QueueOp}
use Rattle.executor_model.specs.declared.op.RunOp.{RunOp}
use Rattle.executor_model.specs.declared.op.RunPoll.{RunPoll}
use Rattle.executor_model.specs.declared.op.Section.{Section}
use Rattle.executor_model.specs.declared.op.SleeperOp.{SleeperOp}
use Rattle.executor_model.specs.declared.op.Sleeping.{Sleeping}
use Rattle.executor_model.specs.declared.op.Steal.{Steal}
use Rattle.executor_model.specs.declared.op.StealOp.{StealOp}
use Rattle.executor_model.specs.declared.op.Then.{Then}
use Rattle.executor_model.specs.declared.op.TickOp.{TickOp}
use Rattle.executor_model.specs.declared.op.TickOrRun.{TickOrRun}
use Rattle.executor_model.specs.declared.op.UserOp.{UserOp}
use Rattle.executor_model.specs.declared.op.Waker.{Waker}
use Rattle.executor_model.specs.declared.step.Hint.{Hint}
use Rattle.executor_model.specs.declared.step.UserEnd.{UserEnd}
use Rattle.executor_parts.specs.declared.mark.Mark.{Mark}
use Rattle.executor_parts.specs.declared.mark.Mark.TheVariants.{Plain, Urgent}
use Rattle.executor_parts.specs.Sleepers.{next_number, waker_at, waker_of}
use Rattle.executor_model.specs.Acts as acts
use Rattle.executor_model.specs.ActsOfRuns as runs
use Rattle.executor_model.specs.ActsOfSleepers as sleepers
use Rattle.executor_model.specs.Doing.{act, list_act, search_by_who, sleeper_act, steal_act, tick_act}
use Rattle.executor_model.specs.Steps.{begun, future_of, kept, lives, react, waits, with_future}
use Rattle.executor_model.specs.Weights.{weigh}
use Rattle.executor_model.specs.World.{Asleep, Awake, Done, Ended, Left, Listed, New, Stage, Ticker, World, done, log, own_of, place_of}
use Rattle.executor_model.specs.World.{put_own, tick_of, ticks_with}
use Rattle.executor_model.proofs.OwnQueues.RunsAside.{bustle_of, frame-act, frame-call, is_lone}
use Rattle.executor_model.proofs.Sleepers.SleepersAway.{Away, SleepersSeen, away-act, away-call, away-own, is_seen_asleep}
use Rattle.executor_model.proofs.Steps.Lift.{no_hint}
use Rattle.executor_model.proofs.Steps.Lists.{weigh-append, weigh-below}
use Rattle.executor_model.proofs.Steps.RunsNext.{BlindToSearches, found-unseen, more-unseen, stolen-unseen, walk-unseen}
use Rattle.machine_roads.specs.Alone.{alone}
use Rattle.machine_roads.proofs.AloneKeeps.{alone_kept, due}

-- it makes a tick, or one leaves
abbrev pub alters : Op → ℕ
alters (Op.Tick TickOp.MakeTick) = 1
alters (Op.Tick (TickOp.Leave (TickOrRun.Tick t))) = 1
alters _ = 0

few_alter : (o : Op) → alters o ≤ bustle_of o
few_alter (Op.Tick TickOp.MakeTick) = omega arith
few_alter (Op.Tick (TickOp.Leave (TickOrRun.Tick t))) = omega arith
few_alter _ = omega arith

blind : BlindToSearches alters
blind = record {
  exchange = refl;
  search = λ s. refl;
  copy = λ s. refl;
  up = λ who. refl;
  take_up = λ f. refl;
  steal = λ o. refl;
  lock = λ x. refl;
  unlock = refl;
  turn = λ x. refl;
  common = λ x look. refl;
  look = λ x at left. refl;
  wake = λ x. refl;
}

abbrev None_in : Done → Type 0
None_in d = weigh alters d.next ≡ 0

-- nothing else leads to it

by_frame : (p : ℕ) (h : Hint) (o : Op) (w : World) → is_lone o ≡ true → None_in (act p h o w)
by_frame p h o w lone = omega (arith, (frame-act p h o w lone).plain, weigh-below alters bustle_of few_alter (act p h o w).next)

goes_none : (o : Option Sleeping) → weigh alters (sleepers.sleeper_goes o) ≡ 0
goes_none None = refl
goes_none (Some s) = by s.waker
  where
    by : (a : Waker) → weigh alters (acts.waker_goes a) ≡ 0
    by (Waker.Task f) = refl
    by (Waker.Outside x) = refl

append_none : (b : Bool) (w : World) (m : Mark) (f : ℕ) → None_in (acts.append_by b w m f)
append_none true w m f = refl
append_none false w m f = refl

take_none : (look : Look) (q : List ℕ) (w : World) → None_in (acts.take_by w look q)
take_none (First m) [] w = refl
take_none (Second m) [] w = refl
take_none look (f ∷ rest) w = refl

exchange_none : (b : Bool) (w : World) → None_in (sleepers.exchange_by b w)
exchange_none true w = refl
exchange_none false w = refl

hand_out_none : (b : Bool) (o : Option Sleeping) (w : World) → None_in (sleepers.hand_out_by b o w)
hand_out_none true (Some s) w = refl
hand_out_none true None w = refl
hand_out_none false (Some s) w = refl
hand_out_none false None w = refl

sleeper_none : (p : ℕ) (o : SleeperOp) (w : World) → None_in (sleeper_act p o w)
sleeper_none p SleeperOp.ExchangeFlag w = exchange_none _ w
sleeper_none p SleeperOp.HandOut w = hand_out_none _ _ w
sleeper_none p (SleeperOp.CallSleeper s) w =
    omega (
      arith,
      (frame-call p w (sleepers.polled_as s.who) s.waker s.poll).plain,
      weigh-below alters bustle_of few_alter (acts.call_waker p w (sleepers.polled_as s.who) s.waker s.poll).next,
    )

make_none : (b : Bool) (w : World) → None_in (sleepers.make_tick_by b w)
make_none true w = refl
make_none false w = refl

own_none : (q : List ℕ) (w : World) (x : RunPoll) → None_in (runs.search_own_by q w x)
own_none [] w x = refl
own_none (f ∷ rest) w x = found-unseen alters blind (put_own w x.run rest) x f

who_none : (who : TickOrRun) (p : ℕ) (w : World) (s : Sleeping) → None_in (search_by_who who p w s)
who_none (TickOrRun.Tick t) p w s = refl
who_none (TickOrRun.Run r) p w s = own_none (own_of w r) w (record { run = r; waker = s.waker; poll = s.poll })

look_none : (look : Look) (x : Ticker) (w : World) (q : List ℕ) (s : Sleeping) → None_in (sleepers.look_tick_by x w look q s)
look_none (First m) x w [] s = refl
look_none (Second m) x w [] s = refl
look_none look Awake w (f ∷ rest) s = refl
look_none look (Asleep n) w (f ∷ rest) s = refl
look_none look Left w (f ∷ rest) s = refl

copied_none : (b : Bool) (w : World) (s : Sleeping) → None_in (sleepers.copy_sleeper_by b w s)
copied_none true w s = refl
copied_none false w s = refl

anew_none : (b : Bool) (w : World) (s : Sleeping) → None_in (sleepers.sleep_anew_by b w s)
anew_none true w s = refl
anew_none false w s = refl

listed_none : (b : Bool) (w : World) (n : ℕ) (s : Sleeping) → None_in (sleepers.sleep_listed_by b w n s)
listed_none true w n s = refl
listed_none false w n s = refl

again_none : (o : Option ℕ) (w : World) (n : ℕ) (s : Sleeping) → None_in (sleepers.sleep_again_by o w n s)
again_none (Some at) w n s =
    let old = sleepers.sleeper_goes (waker_at (Some at) w.sleepers.wakers) in
    omega (arith, weigh-append alters old (sleepers.pend_as s.who), goes_none (waker_at (Some at) w.sleepers.wakers))
again_none None w n s = listed_none _ w n s

asleep_none : (x : Ticker) (w : World) (s : Sleeping) → None_in (sleepers.fall_asleep_by x w s)
asleep_none Awake w s = anew_none _ w s
asleep_none (Asleep n) w s = again_none _ w n s
asleep_none Left w s = refl

up_none : (x : Ticker) (w : World) (who : TickOrRun) → None_in (sleepers.wake_up_by x w who)
up_none (Asleep n) w who = goes_none (waker_of n w.sleepers.wakers)
up_none Awake w who = refl
up_none Left w who = refl

pub leave_none : (x : Ticker) (w : World) (who : TickOrRun) → None_in (sleepers.leave_sleepers_by x w who)
leave_none (Asleep n) w who =
    let o = waker_of n w.sleepers.wakers in
    omega (
      arith,
      weigh-append alters (sleepers.sleeper_goes o) (sleepers.tell_and_return (is_none o)),
      goes_none o,
      returned (is_none o),
    )
  where
    returned : (b : Bool) → weigh alters (sleepers.tell_and_return b) ≡ 0
    returned true = refl
    returned false = refl
leave_none Awake w who = refl
leave_none Left w who = refl

tick_none : (p : ℕ) (h : Hint) (o : TickOp) (w : World) → None_in (tick_act p h o w)
tick_none p h TickOp.MakeTick w = make_none h.refused w
tick_none p h (TickOp.Search s) w = who_none s.who p w s
tick_none p h (TickOp.Look s look) w = look_none look _ w _ s
tick_none p h (TickOp.CopyWaker s) w = copied_none _ w s
tick_none p h (TickOp.FallAsleep s) w = asleep_none _ w s
tick_none p h (TickOp.WakeUp who) w = up_none _ w who
tick_none p h (TickOp.Leave who) w = leave_none _ w who

made_none : (b : Bool) (w : World) → None_in (runs.make_run_by b w)
made_none true w = refl
made_none false w = refl

room_none : (b : Bool) (w : World) → None_in (runs.make_room_by b w)
room_none true w = refl
room_none false w = refl

list_none : (h : Hint) (o : ListOp) (w : World) → None_in (list_act h o w)
list_none h (ListOp.LockWrite s) w = refl
list_none h (ListOp.Write Section.MakeRun) w = made_none h.refused w
list_none h (ListOp.Write (Section.Register x)) w = refl
list_none h (ListOp.Write (Section.Unregister r a)) w = refl
list_none h ListOp.UnlockWrite w = refl
list_none h (ListOp.LockRead x) w = walk-unseen alters blind x w.listed (h.start % length w.listed) (length w.listed)
list_none h ListOp.UnlockRead w = refl

taken_none : (q : List ℕ) (w : World) (s : Steal) (more : ℕ) → None_in (runs.steal_take_by q w s more)
taken_none [] w s more = stolen-unseen alters blind s.then w s.poll
taken_none (f ∷ rest) w s more = refl

length_none : (n : ℕ) (w : World) (s : Steal) → None_in (runs.steal_length_by n w s)
length_none zero w s = stolen-unseen alters blind s.then w s.poll
length_none (suc n) w s = refl

refused_none : (t : Then) (w : World) (x : RunPoll) (f : ℕ) → None_in (runs.put_refused t w x f)
refused_none (Then.Walk at left) w x f = refl
refused_none t w x f = omega (arith, stolen-unseen alters blind t w x)

put_none : (b : Bool) (p : ℕ) (w : World) (s : Steal) (more f : ℕ) → None_in (runs.steal_put_by b p w s more f)
put_none true p w s more f = more-unseen alters blind more (runs.kept_by p w s.poll.run f) s
put_none false p w s more f = refused_none s.then w s.poll f

steal_none : (p : ℕ) (o : StealOp) (w : World) → None_in (steal_act p o w)
steal_none p (StealOp.Length s) w = length_none _ w s
steal_none p (StealOp.OwnLength s n) w = more-unseen alters blind _ w s
steal_none p (StealOp.Take s more) w = taken_none _ w s more
steal_none p (StealOp.Put s more f) w = put_none _ p w s more f

common_none : (look : Look) (q : List ℕ) (w : World) (x : RunPoll) → None_in (runs.search_common_by q w x look)
common_none (First m) [] w x = refl
common_none (Second m) [] w x = refl
common_none look (f ∷ rest) w x = refl

looks_none : (q : List ℕ) (w : World) (x : RunPoll) (at left : ℕ) → None_in (runs.look_own_by q w x at left)
looks_none [] w x at left = walk-unseen alters blind x w.listed at left
looks_none (f ∷ rest) w x at left = omega (arith, found-unseen alters blind (put_own w x.run rest) x f)

woken_none : (p : ℕ) (w : World) (x : RunPoll) → None_in (runs.wake_own p w x)
woken_none p w x =
    let v : World = log w (Event.WakerCalled p (Polled.Run x.run) x.poll x.waker) in
    omega (
      arith,
      weigh-append alters (runs.call_by_reference p v x.waker).next (Op.End Reply.Pending (Hold.Run x.run) ∷ []),
      by v x.waker,
    )
  where
    by : (v : World) (a : Waker) → None_in (runs.call_by_reference p v a)
    by v (Waker.Task f) = by_frame p no_hint (Op.Move Move.WakeByReference f) v refl
    by v (Waker.Outside y) = refl

left_none : (fs : List ℕ) (w : World) (r : ℕ) (a : Reply) → None_in (runs.reschedule_by fs w r a)
left_none [] w r a = refl
left_none (f ∷ fs) w r a = refl

close_none : (m : Mark) (w : World) → None_in (acts.close w m)
close_none Urgent w = refl
close_none Plain w = refl

drain_none : (m : Mark) (q : List ℕ) (p : ℕ) (w : World) → None_in (acts.drain_by p w m q)
drain_none Urgent [] p w = refl
drain_none Plain [] p w = refl
drain_none m (f ∷ rest) p w = refl

alters_next : (p : ℕ) (h : Hint) (o : Op) (w : World) → waits o ≡ false → alters o ≡ 0 → None_in (act p h o w)
alters_next p h (Op.Queue QueueOp.TakeTurn) w goes none = refl
alters_next p h (Op.Queue (QueueOp.Take look)) w goes none = take_none look _ w
alters_next p h (Op.Queue (QueueOp.Append f)) w goes none = append_none _ w _ f
alters_next p h (Op.User (UserOp.PollOwn x)) w goes none = absurd cc
alters_next p h (Op.Closing (ClosingOp.Close m)) w goes none = close_none m w
alters_next p h (Op.Closing (ClosingOp.Drain m)) w goes none = drain_none m _ p w
alters_next p h (Op.Sleeper o) w goes none = sleeper_none p o w
alters_next p h (Op.Tick o) w goes none = tick_none p h o w
alters_next p h (Op.List o) w goes none = list_none h o w
alters_next p h (Op.Steal o) w goes none = steal_none p o w
alters_next p h (Op.Run RunOp.MakeRoom) w goes none = room_none h.refused w
alters_next p h (Op.Run RunOp.ReturnRoom) w goes none = refl
alters_next p h (Op.Run (RunOp.TakeTurn x)) w goes none = refl
alters_next p h (Op.Run (RunOp.SearchCommon x look)) w goes none = common_none look _ w x
alters_next p h (Op.Run (RunOp.LookOwn x at left)) w goes none = looks_none _ w x at left
alters_next p h (Op.Run (RunOp.WakeOwn x)) w goes none = woken_none p w x
alters_next p h (Op.Run (RunOp.Reschedule r a)) w goes none = left_none (own_of w r) w r a
alters_next p h o w goes none = by_frame p h o w refl

-- the same ticks live

abbrev pub LivesSo : World → World → Type 0
LivesSo w v = (t : ℕ) → lives (tick_of v t) ≡ lives (tick_of w t)

same_ticks : (w v : World) → v.ticks ≡ w.ticks → LivesSo w v
same_ticks w v same t = ap (λ (ts : List Ticker). lives (get_or ts t Left)) same

by_away : (w : World) (d : Done) → Away w d → LivesSo w d.world
by_away w d a = same_ticks w d.world (sym (ap (λ (v : SleepersSeen). v.ticks) a.sleepers_seen))

set_lives : (ts : List Ticker) (u : ℕ) (x : Ticker) → lives x ≡ lives (get_or ts u Left) → (t : ℕ)
    → lives (get_or (set ts u x) t Left) ≡ lives (get_or ts t Left)
set_lives [] u x same t = refl
set_lives (y ∷ ts) zero x same zero = same
set_lives (y ∷ ts) zero x same (suc t) = refl
set_lives (y ∷ ts) (suc u) x same zero = refl
set_lives (y ∷ ts) (suc u) x same (suc t) = set_lives ts u x same t

with_lives : (w : World) (who : TickOrRun) (x : Ticker) → lives x ≡ lives (place_of w who) → (t : ℕ)
    → lives (get_or (ticks_with w.ticks who x) t Left) ≡ lives (tick_of w t)
with_lives w (TickOrRun.Tick u) x same t = set_lives w.ticks u x same t
with_lives w (TickOrRun.Run r) x same t = refl

exchange_lives : (b : Bool) (w : World) → LivesSo w (sleepers.exchange_by b w).world
exchange_lives true w = λ t. refl
exchange_lives false w = λ t. refl

hand_out_lives : (b : Bool) (o : Option Sleeping) (w : World) → LivesSo w (sleepers.hand_out_by b o w).world
hand_out_lives true o w = λ t. refl
hand_out_lives false o w = λ t. refl

sleeper_lives : (p : ℕ) (o : SleeperOp) (w : World) → LivesSo w (sleeper_act p o w).world
sleeper_lives p SleeperOp.ExchangeFlag w = exchange_lives _ w
sleeper_lives p SleeperOp.HandOut w = hand_out_lives _ _ w
sleeper_lives p (SleeperOp.CallSleeper s) w = by_away w _ (away-call p w (sleepers.polled_as s.who) s.waker s.poll)

look_lives : (look : Look) (x : Ticker) (w : World) (q : List ℕ) (s : Sleeping) → LivesSo w (sleepers.look_tick_by x w look q s).world
look_lives (First m) x w [] s = λ t. refl
look_lives (Second m) x w [] s = λ t. refl
look_lives look x w (f ∷ rest) s = λ t. refl

who_lives : (who : TickOrRun) (p : ℕ) (w : World) (s : Sleeping) → LivesSo w (search_by_who who p w s).world
who_lives (TickOrRun.Tick t) p w s = λ t. refl
who_lives (TickOrRun.Run r) p w s =
    by_away w _ (away-own (own_of w r) w (record { run = r; waker = s.waker; poll = s.poll }))

copied_lives : (b : Bool) (w : World) (a : Waker) (who : TickOrRun) (poll : ℕ)
    → LivesSo w (sleepers.copy_sleeper_by b w (record { waker = a; who = who; poll = poll })).world
copied_lives true w a who poll = λ t. refl
copied_lives false w (Waker.Task g) who poll = λ t. refl
copied_lives false w (Waker.Outside x) who poll = λ t. refl

anew_lives : (b : Bool) (w : World) (s : Sleeping) → place_of w s.who ≡ Awake → LivesSo w (sleepers.sleep_anew_by b w s).world
anew_lives true w s is = with_lives w s.who (Asleep (next_number w.sleepers)) (ap lives (sym is))
anew_lives false w s is = λ t. refl

listed_lives : (b : Bool) (w : World) (n : ℕ) (s : Sleeping) → LivesSo w (sleepers.sleep_listed_by b w n s).world
listed_lives true w n s = λ t. refl
listed_lives false w n s = λ t. refl

again_lives : (o : Option ℕ) (w : World) (n : ℕ) (s : Sleeping) → LivesSo w (sleepers.sleep_again_by o w n s).world
again_lives (Some at) w n s = λ t. refl
again_lives None w n s = listed_lives _ w n s

asleep_lives : (x : Ticker) (w : World) (s : Sleeping) → place_of w s.who ≡ x → LivesSo w (sleepers.fall_asleep_by x w s).world
asleep_lives Awake w s is = anew_lives _ w s is
asleep_lives (Asleep n) w s is = again_lives _ w n s
asleep_lives Left w s is = λ t. refl

up_lives : (x : Ticker) (w : World) (who : TickOrRun) → place_of w who ≡ x → LivesSo w (sleepers.wake_up_by x w who).world
up_lives (Asleep n) w who is = with_lives w who Awake (ap lives (sym is))
up_lives Awake w who is = λ t. refl
up_lives Left w who is = λ t. refl

leave_lives : (x : Ticker) (w : World) (r : ℕ) → LivesSo w (sleepers.leave_sleepers_by x w (TickOrRun.Run r)).world
leave_lives (Asleep n) w r = λ t. refl
leave_lives Awake w r = λ t. refl
leave_lives Left w r = λ t. refl

tick_lives : (p : ℕ) (h : Hint) (o : TickOp) (w : World) → alters (Op.Tick o) ≡ 0 → LivesSo w (tick_act p h o w).world
tick_lives p h TickOp.MakeTick w none = absurd cc
tick_lives p h (TickOp.Search s) w none = who_lives s.who p w s
tick_lives p h (TickOp.Look s look) w none = look_lives look _ w _ s
tick_lives p h (TickOp.CopyWaker s) w none = copied_lives _ w s.waker s.who s.poll
tick_lives p h (TickOp.FallAsleep s) w none = asleep_lives (place_of w s.who) w s refl
tick_lives p h (TickOp.WakeUp who) w none = up_lives (place_of w who) w who refl
tick_lives p h (TickOp.Leave (TickOrRun.Run r)) w none = leave_lives _ w r
tick_lives p h (TickOp.Leave (TickOrRun.Tick t)) w none = absurd cc

made_lives : (b : Bool) (w : World) → LivesSo w (runs.make_run_by b w).world
made_lives true w = λ t. refl
made_lives false w = λ t. refl

registered_lives : (x : Stage) (w : World) (r : ℕ) → LivesSo w (runs.registered x w r)
registered_lives New w r = λ t. refl
registered_lives Listed w r = λ t. refl
registered_lives Ended w r = λ t. refl

list_lives : (h : Hint) (o : ListOp) (w : World) → LivesSo w (list_act h o w).world
list_lives h (ListOp.LockWrite s) w = λ t. refl
list_lives h (ListOp.Write Section.MakeRun) w = made_lives h.refused w
list_lives h (ListOp.Write (Section.Register x)) w = registered_lives _ w x.run
list_lives h (ListOp.Write (Section.Unregister r a)) w = λ t. refl
list_lives h ListOp.UnlockWrite w = λ t. refl
list_lives h (ListOp.LockRead x) w = λ t. refl
list_lives h ListOp.UnlockRead w = λ t. refl

room_lives : (b : Bool) (w : World) → LivesSo w (runs.make_room_by b w).world
room_lives true w = λ t. refl
room_lives false w = λ t. refl

append_lives : (b : Bool) (w : World) (m : Mark) (f : ℕ) → LivesSo w (acts.append_by b w m f).world
append_lives true w m f = λ t. refl
append_lives false w m f = λ t. refl

seen_lives : (p : ℕ) (h : Hint) (o : Op) (w : World) → is_seen_asleep o ≡ true → alters o ≡ 0 → LivesSo w (act p h o w).world
seen_lives p h (Op.Queue (QueueOp.Append f)) w seen none = append_lives _ w _ f
seen_lives p h (Op.Sleeper o) w seen none = sleeper_lives p o w
seen_lives p h (Op.Tick o) w seen none = tick_lives p h o w none
seen_lives p h (Op.List o) w seen none = list_lives h o w
seen_lives p h (Op.Run RunOp.MakeRoom) w seen none = room_lives h.refused w
seen_lives p h (Op.Run RunOp.ReturnRoom) w seen none = λ t. refl
seen_lives p h o w seen none = absurd cc

act_lives : (p : ℕ) (h : Hint) (o : Op) (w : World) → alters o ≡ 0 → LivesSo w (act p h o w).world
act_lives p h o w none = by (is_seen_asleep o) refl
  where
    by : (b : Bool) → is_seen_asleep o ≡ b → LivesSo w (act p h o w).world
    by true seen = seen_lives p h o w seen none
    by false seen = by_away w _ (away-act p h o w seen)

-- before user code is called next
pub alone_lives : (p : ℕ) (hints : List Hint) (w : World) (os : List Op) → due alters os ≡ 0
    → LivesSo w (alone p hints (done w os)).world
alone_lives p hints w os none =
    alone_kept alters LivesSo alters_next act_lives (λ p h o w. act_lives p h (Op.User o) w refl) (λ w t. refl)
    (λ u w x one two t. two t ∙ one t) p hints w os none

with_ticks : (w : World) (x : Option ℕ) (d : ℕ → Done) → ((f : ℕ) → LivesSo w (d f).world) → LivesSo w (with_future w x d).world
with_ticks w (Some f) d same = same f
with_ticks w None d same = λ t. refl

pub begins_lives : (p : ℕ) (w : World) (here : Option Waker) (c : Call) → LivesSo w (begun p w here c).world
begins_lives p w here (Call.Wake n) = with_ticks w (kept w n) _ (λ f t. refl)
begins_lives p w here (Call.WakeByRef n) = with_ticks w (kept w n) _ (λ f t. refl)
begins_lives p w here (Call.Copy n) = with_ticks w (kept w n) _ (λ f t. refl)
begins_lives p w here (Call.DropWaker n) = with_ticks w (kept w n) _ (λ f t. refl)
begins_lives p w here Call.Keep = with_ticks w (future_of here) _ (λ f t. refl)
begins_lives p w here Call.WakeSelf = with_ticks w (future_of here) _ (λ f t. refl)
begins_lives p w here c = λ t. refl

pub reacts_lives : (p : ℕ) (o : Op) (u : UserEnd) (w : World) → LivesSo w (react p o u w).world
reacts_lives p (Op.User (UserOp.Poll f)) (UserEnd.Polled Answer.Pending) w = λ t. refl
reacts_lives p (Op.User (UserOp.Poll f)) (UserEnd.Polled Answer.Ready) w = λ t. refl
reacts_lives p (Op.User (UserOp.PollOwn x)) (UserEnd.Polled Answer.Pending) w = λ t. refl
reacts_lives p (Op.User (UserOp.PollOwn x)) (UserEnd.Polled Answer.Ready) w = λ t. refl
reacts_lives p o u w = λ t. refl
