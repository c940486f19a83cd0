-- What each run has counted stays but where a run finds a future.
use Rattle.std.proofs.Common.{◌≡◌, ◌+◌, ◌++◌, ℕ, zero, suc, List, [], ◌∷◌, Bool, true, false, get_or, set, length, nat_lt, refl, sym, ap}
use Rattle.std.proofs.Common.{◌∙◌, arith}
use Rattle.std.specs.Prelude.{Option, Some, None}
use Rattle.executor_parts.specs.Sleepers.{next_number, position_of, put_to_sleep, woken_up}
use Rattle.executor_parts.specs.declared.mark.Mark.{Mark}
use Rattle.executor_parts.specs.declared.mark.Mark.TheVariants.{Plain, Urgent}
use Rattle.executor_model.specs.declared.call.Call.{Call}
use Rattle.executor_model.specs.declared.call.Reply.{Reply}
use Rattle.executor_model.specs.declared.event.Answer.{Answer}
use Rattle.executor_model.specs.declared.event.Event.{Event}
use Rattle.executor_model.specs.declared.op.ClosingOp.{ClosingOp}
use Rattle.executor_model.specs.declared.op.Look.{Look}
use Rattle.executor_model.specs.declared.op.Look.TheVariants.{First, Second}
use Rattle.executor_model.specs.declared.op.ListOp.{ListOp}
use Rattle.executor_model.specs.declared.op.Op.{Op}
use Rattle.executor_model.specs.declared.op.Polled.{Polled}
use Rattle.executor_model.specs.declared.op.QueueOp.{QueueOp}
use Rattle.executor_model.specs.declared.op.RunOp.{RunOp}
use Rattle.executor_model.specs.declared.op.RunPoll.{RunPoll}
use Rattle.executor_model.specs.declared.op.Section.{Section}
use Rattle.executor_model.specs.declared.op.Sleeping.{Sleeping}
use Rattle.executor_model.specs.declared.op.SleeperOp.{SleeperOp}
use Rattle.executor_model.specs.declared.op.Source.{Source}
use Rattle.executor_model.specs.declared.op.Source.TheVariants.{Common, Own}
use Rattle.executor_model.specs.declared.op.Steal.{Steal}
use Rattle.executor_model.specs.declared.op.StealOp.{StealOp}
use Rattle.executor_model.specs.declared.op.Then.{Then}
use Rattle.executor_model.specs.declared.op.TickOp.{TickOp}
use Rattle.executor_model.specs.declared.op.TickOrRun.{TickOrRun}
use Rattle.executor_model.specs.declared.op.UserOp.{UserOp}
use Rattle.executor_model.specs.declared.op.Waker.{Waker}
use Rattle.executor_model.specs.declared.step.Hint.{Hint}
use Rattle.executor_model.specs.declared.step.UserEnd.{UserEnd}
use Rattle.task_moves.specs.declared.moves.owed.Move.{Move}
use Rattle.executor_model.proofs.OwnQueues.RunsAside.{Rest, frame-act, rest}
use Rattle.executor_model.proofs.OwnQueues.RunsDone.{Deed, Leads, Missing, deed-act, is_loud, loud-weigh}
use Rattle.executor_model.proofs.OwnQueues.RunsDone as deeds
use Rattle.executor_model.proofs.Steps.Lift.{no_hint}
use Rattle.executor_model.specs.Acts as acts
use Rattle.executor_model.specs.ActsOfRuns as runs
use Rattle.executor_model.specs.ActsOfSleepers as sleepers
use Rattle.executor_model.specs.Doing.{act, list_act, search_by_who}
use Rattle.executor_model.specs.Steps.{begun, drop_run, future_of, kept, poll_run, react, waits, with_future}
use Rattle.executor_model.specs.Weights.{weigh}
use Rattle.executor_model.specs.World.{Asleep, Awake, Done, Ended, Left, Listed, New, Run, Stage, Ticker, World, done, log, new_run, no_run}
use Rattle.executor_model.specs.World.{put_place, put_sleepers, run_of}
use Rattle.machine_roads.specs.Alone.{alone}
use Rattle.machine_roads.proofs.AloneKeeps.{alone_kept, due}

-- each run has counted as many
abbrev pub CountsSo : World → World → Type 0
CountsSo w v = (k : ℕ) → (run_of v k).counted ≡ (run_of w k).counted

abbrev count_at : List Run → ℕ → ℕ
count_at rs k = (get_or rs k no_run).counted

pub set_counts : (rs : List Run) (r k : ℕ) (x : Run) → x.counted ≡ count_at rs r → count_at (set rs r x) k ≡ count_at rs k
set_counts [] r k x same = refl
set_counts (y ∷ rs) zero zero x same = same
set_counts (y ∷ rs) zero (suc k) x same = refl
set_counts (y ∷ rs) (suc r) zero x same = refl
set_counts (y ∷ rs) (suc r) (suc k) x same = set_counts rs r k x same

-- one that is made has counted none
made_counts : (rs : List Run) (k : ℕ) → count_at (rs ++ new_run ∷ []) k ≡ count_at rs k
made_counts [] zero = refl
made_counts [] (suc k) = refl
made_counts (y ∷ rs) zero = refl
made_counts (y ∷ rs) (suc k) = made_counts rs k

placed_counts : (w v : World) (who : TickOrRun) (x : Ticker) → v.runs ≡ w.runs → CountsSo w (put_place v who x)
placed_counts w v (TickOrRun.Tick t) x same k = ap (λ rs. count_at rs k) same
placed_counts w v (TickOrRun.Run r) x same k =
    set_counts v.runs r k (record (run_of v r) { place = x }) refl ∙ ap (λ rs. count_at rs k) same

-- what a run goes on with behind a steal, or once it has looked at its own queue
abbrev pub then_of : StealOp → Then
then_of (StealOp.Length s) = s.then
then_of (StealOp.OwnLength s n) = s.then
then_of (StealOp.Take s more) = s.then
then_of (StealOp.Put s more f) = s.then

abbrev pub counts_then : Then → Bool
counts_then (Then.Found f) = true
counts_then _ = false

abbrev pub counts_who : TickOrRun → Bool
counts_who (TickOrRun.Tick t) = false
counts_who (TickOrRun.Run r) = true

-- by which one may be found
abbrev pub may_count : Op → Bool
may_count (Op.Tick (TickOp.Search s)) = counts_who s.who
may_count (Op.Steal o) = counts_then (then_of o)
may_count (Op.Run (RunOp.LookOwn x at left)) = true
may_count _ = false

took_counts : (b : Bool) (w : World) (x : RunPoll) (f : ℕ) → CountsSo w (runs.run_by b w x f).world
took_counts true w x f k = set_counts w.runs x.run k (record (run_of w x.run) { taken = 0 }) refl
took_counts false w x f k = set_counts w.runs x.run k (record (run_of w x.run) { taken = (run_of w x.run).taken + 1 }) refl

stolen_counts : (t : Then) (w : World) (x : RunPoll) → counts_then t ≡ false → CountsSo w (runs.stolen t w x).world
stolen_counts (Then.Found f) w x none = absurd cc
stolen_counts (Then.StealPlain f) w x none = λ k. refl
stolen_counts (Then.Run f) w x none = took_counts _ w x f
stolen_counts (Then.Walk at left) w x none = λ k. refl

refused_counts : (t : Then) (w : World) (x : RunPoll) (f : ℕ) → counts_then t ≡ false → CountsSo w (runs.put_refused t w x f).world
refused_counts (Then.Found g) w x f none = absurd cc
refused_counts (Then.StealPlain g) w x f none = λ k. refl
refused_counts (Then.Run g) w x f none = took_counts _ w x g
refused_counts (Then.Walk at left) w x f none = λ k. refl

length_counts : (n : ℕ) (w : World) (s : Steal) → counts_then s.then ≡ false → CountsSo w (runs.steal_length_by n w s).world
length_counts zero w s none = stolen_counts s.then w s.poll none
length_counts (suc n) w s none = λ k. refl

by_counts : (n : ℕ) (w v : World) (s : Steal) → v.runs ≡ w.runs → counts_then s.then ≡ false → CountsSo w (runs.steal_by n v s).world
by_counts zero w v s same none k = stolen_counts s.then v s.poll none k ∙ ap (λ rs. count_at rs k) same
by_counts (suc n) w v s same none k = ap (λ rs. count_at rs k) same

take_counts : (fs : List ℕ) (from : Source) (w : World) (x : RunPoll) (t : Then) (more : ℕ) → counts_then t ≡ false
    → CountsSo w (runs.steal_take_by fs w (record { poll = x; from = from; then = t }) more).world
take_counts [] from w x t more none = stolen_counts t w x none
take_counts (f ∷ fs) (Common m) w x t more none = λ k. refl
take_counts (f ∷ fs) (Own r) w x t more none = λ k. refl

put_counts : (b : Bool) (p : ℕ) (w : World) (s : Steal) (more f : ℕ) → counts_then s.then ≡ false
    → CountsSo w (runs.steal_put_by b p w s more f).world
put_counts true p w s more f none = by_counts more w (runs.kept_by p w s.poll.run f) s refl none
put_counts false p w s more f none = refused_counts s.then w s.poll f none

lone_counts : (p : ℕ) (h : Hint) (o : Op) (w : World) → rest w ≡ rest (act p h o w).world → CountsSo w (act p h o w).world
lone_counts p h o w same k = ap (λ (x : Rest). count_at x.runs k) (sym same)

queued_counts : (l : Look) (fs : List ℕ) (w : World) → CountsSo w (acts.take_by w l fs).world
queued_counts (First m) [] w = λ k. refl
queued_counts (Second m) [] w = λ k. refl
queued_counts l (f ∷ fs) w = λ k. refl

appended_counts : (b : Bool) (w : World) (m : Mark) (f : ℕ) → CountsSo w (acts.append_by b w m f).world
appended_counts true w m f = λ k. refl
appended_counts false w m f = λ k. refl

exchanged_counts : (b : Bool) (w : World) → CountsSo w (sleepers.exchange_by b w).world
exchanged_counts true w = λ k. refl
exchanged_counts false w = λ k. refl

handed_counts : (b : Bool) (s : Option Sleeping) (w : World) → CountsSo w (sleepers.hand_out_by b s w).world
handed_counts true s w = λ k. refl
handed_counts false s w = λ k. refl

tick_made_counts : (b : Bool) (w : World) → CountsSo w (sleepers.make_tick_by b w).world
tick_made_counts true w = λ k. refl
tick_made_counts false w = λ k. refl

looked_counts : (l : Look) (x : Ticker) (fs : List ℕ) (w : World) (s : Sleeping) → CountsSo w (sleepers.look_tick_by x w l fs s).world
looked_counts (First m) x [] w s = λ k. refl
looked_counts (Second m) x [] w s = λ k. refl
looked_counts l x (f ∷ fs) w s = λ k. refl

copied_counts : (w : World) (a : Waker) → CountsSo w (acts.copied w a)
copied_counts w (Waker.Task g) = λ k. refl
copied_counts w (Waker.Outside x) = λ k. refl

copy_counts : (b : Bool) (w : World) (s : Sleeping) → CountsSo w (sleepers.copy_sleeper_by b w s).world
copy_counts true w s = λ k. refl
copy_counts false w s = copied_counts w s.waker

slept_counts : (x : Ticker) (w : World) (s : Sleeping) → CountsSo w (sleepers.fall_asleep_by x w s).world
slept_counts Awake w s = by (nat_lt w.sleepers.count w.sleepers.rooms)
  where
    by : (b : Bool) → CountsSo w (sleepers.sleep_anew_by b w s).world
    by true = placed_counts w (put_sleepers w (put_to_sleep s w.sleepers)) s.who (Asleep (next_number w.sleepers)) refl
    by false = λ k. refl
slept_counts (Asleep n) w s = by (position_of n w.sleepers.wakers)
  where
    listed : (b : Bool) → CountsSo w (sleepers.sleep_listed_by b w n s).world
    listed true = λ k. refl
    listed false = λ k. refl

    by : (at : Option ℕ) → CountsSo w (sleepers.sleep_again_by at w n s).world
    by (Some at) = λ k. refl
    by None = listed (nat_lt (length w.sleepers.wakers) w.sleepers.count)
slept_counts Left w s = λ k. refl

woken_counts : (x : Ticker) (w : World) (who : TickOrRun) → CountsSo w (sleepers.wake_up_by x w who).world
woken_counts Awake w who = λ k. refl
woken_counts (Asleep n) w who = placed_counts w (put_sleepers w (woken_up n w.sleepers)) who Awake refl
woken_counts Left w who = λ k. refl

left_counts : (x : Ticker) (w : World) (who : TickOrRun) → CountsSo w (sleepers.leave_sleepers_by x w who).world
left_counts Awake w who = placed_counts w (record w { sleepers = sleepers.given_back w.sleepers }) who Left refl
left_counts (Asleep n) w who = placed_counts w (put_sleepers w (woken_up n w.sleepers)) who Left refl
left_counts Left w who = λ k. refl

made_run_counts : (b : Bool) (w : World) → CountsSo w (runs.make_run_by b w).world
made_run_counts true w = λ k. refl
made_run_counts false w = made_counts w.runs

registered_counts : (stage : Stage) (w : World) (r : ℕ) → CountsSo w (runs.registered stage w r)
registered_counts New w r = λ k. set_counts w.runs r k (record (run_of w r) { stage = Listed }) refl
registered_counts Listed w r = λ k. refl
registered_counts Ended w r = λ k. refl

common_counts : (l : Look) (fs : List ℕ) (w : World) (x : RunPoll) → CountsSo w (runs.search_common_by fs w x l).world
common_counts (First m) [] w x = λ k. refl
common_counts (Second m) [] w x = λ k. refl
common_counts l (f ∷ fs) w x = λ k. refl

room_counts : (b : Bool) (w : World) → CountsSo w (runs.make_room_by b w).world
room_counts true w = λ k. refl
room_counts false w = λ k. refl

left_over_counts : (fs : List ℕ) (w : World) (r : ℕ) (a : Reply) → CountsSo w (runs.reschedule_by fs w r a).world
left_over_counts [] w r a = λ k. refl
left_over_counts (f ∷ fs) w r a = λ k. refl

own_waker_counts : (p : ℕ) (w : World) (x : RunPoll) → CountsSo w (runs.wake_own p w x).world
own_waker_counts p w x = by (log w (Event.WakerCalled p (Polled.Run x.run) x.poll x.waker)) x.waker
  where
    by : (v : World) (a : Waker) → CountsSo v (runs.call_by_reference p v a).world
    by v (Waker.Task f) =
        lone_counts p no_hint (Op.Move Move.WakeByReference f) v (frame-act p no_hint (Op.Move Move.WakeByReference f) v refl).rest
    by v (Waker.Outside y) = λ k. refl

drained_counts : (m : Mark) (p : ℕ) (w : World) (fs : List ℕ) → CountsSo w (acts.drain_by p w m fs).world
drained_counts Urgent p w [] = λ k. refl
drained_counts Plain p w [] = λ k. refl
drained_counts m p w (f ∷ fs) = λ k. refl

pub counts_stay : (p : ℕ) (h : Hint) (o : Op) (w : World) → may_count o ≡ false → CountsSo w (act p h o w).world
counts_stay p h (Op.Queue QueueOp.TakeTurn) w none = λ k. refl
counts_stay p h (Op.Queue (QueueOp.Take l)) w none = queued_counts l _ w
counts_stay p h (Op.Queue (QueueOp.Append f)) w none = appended_counts _ w _ f
counts_stay p h (Op.User (UserOp.PollOwn x)) w none = λ k. refl
counts_stay p h (Op.Sleeper SleeperOp.ExchangeFlag) w none = exchanged_counts _ w
counts_stay p h (Op.Sleeper SleeperOp.HandOut) w none = handed_counts _ _ w
counts_stay p h (Op.Tick TickOp.MakeTick) w none = tick_made_counts _ w
counts_stay p h (Op.Tick (TickOp.Search s)) w none = by s.who none
  where
    by : (who : TickOrRun) → counts_who who ≡ false → CountsSo w (search_by_who who p w s).world
    by (TickOrRun.Tick t) none = λ k. refl
    by (TickOrRun.Run r) none = absurd cc
counts_stay p h (Op.Tick (TickOp.Look s l)) w none = looked_counts l _ _ w s
counts_stay p h (Op.Tick (TickOp.CopyWaker s)) w none = copy_counts _ w s
counts_stay p h (Op.Tick (TickOp.FallAsleep s)) w none = slept_counts _ w s
counts_stay p h (Op.Tick (TickOp.WakeUp who)) w none = woken_counts _ w who
counts_stay p h (Op.Tick (TickOp.Leave who)) w none = left_counts _ w who
counts_stay p h (Op.List (ListOp.LockWrite s)) w none = λ k. refl
counts_stay p h (Op.List (ListOp.Write Section.MakeRun)) w none = made_run_counts _ w
counts_stay p h (Op.List (ListOp.Write (Section.Register x))) w none = registered_counts _ w x.run
counts_stay p h (Op.List (ListOp.Write (Section.Unregister r a))) w none =
    λ k. set_counts w.runs r k (record (run_of w r) { stage = Ended }) refl
counts_stay p h (Op.List ListOp.UnlockWrite) w none = λ k. refl
counts_stay p h (Op.List (ListOp.LockRead x)) w none = λ k. refl
counts_stay p h (Op.List ListOp.UnlockRead) w none = λ k. refl
counts_stay p h (Op.Steal (StealOp.Length s)) w none = length_counts _ w s none
counts_stay p h (Op.Steal (StealOp.OwnLength s n)) w none = by_counts _ w w s refl none
counts_stay p h (Op.Steal (StealOp.Take s more)) w none = take_counts _ s.from w s.poll s.then more none
counts_stay p h (Op.Steal (StealOp.Put s more f)) w none = put_counts _ p w s more f none
counts_stay p h (Op.Run RunOp.MakeRoom) w none = room_counts _ w
counts_stay p h (Op.Run RunOp.ReturnRoom) w none = λ k. refl
counts_stay p h (Op.Run (RunOp.TakeTurn x)) w none = λ k. refl
counts_stay p h (Op.Run (RunOp.SearchCommon x l)) w none = common_counts l _ w x
counts_stay p h (Op.Run (RunOp.LookOwn x at left)) w none = absurd cc
counts_stay p h (Op.Run (RunOp.WakeOwn x)) w none = own_waker_counts p w x
counts_stay p h (Op.Run (RunOp.Reschedule r a)) w none = left_over_counts _ w r a
counts_stay p h (Op.Closing (ClosingOp.Close m)) w none = λ k. refl
counts_stay p h (Op.Closing (ClosingOp.Drain m)) w none = drained_counts m p w _
counts_stay p h o w none = lone_counts p h o w (frame-act p h o w refl).rest

-- as a call begins, and user code ends

with_counts : (w : World) (x : Option ℕ) (d : ℕ → Done) → ((f : ℕ) → CountsSo w (d f).world) → CountsSo w (with_future w x d).world
with_counts w (Some f) d same = same f
with_counts w None d same = λ k. refl

pub begins_count : (p : ℕ) (w : World) (here : Option Waker) (c : Call) → CountsSo w (begun p w here c).world
begins_count p w here (Call.Wake n) = with_counts w (kept w n) _ (λ f k. refl)
begins_count p w here (Call.WakeByRef n) = with_counts w (kept w n) _ (λ f k. refl)
begins_count p w here (Call.Copy n) = with_counts w (kept w n) _ (λ f k. refl)
begins_count p w here (Call.DropWaker n) = with_counts w (kept w n) _ (λ f k. refl)
begins_count p w here Call.Keep = with_counts w (future_of here) _ (λ f k. refl)
begins_count p w here Call.WakeSelf = with_counts w (future_of here) _ (λ f k. refl)
begins_count p w here (Call.DropRun r) = λ k. set_counts w.runs r k (record (run_of w r) { dropped = true }) refl
begins_count p w here c = λ k. refl

pub reacts_count : (p : ℕ) (o : Op) (u : UserEnd) (w : World) → CountsSo w (react p o u w).world
reacts_count p (Op.User (UserOp.Poll f)) (UserEnd.Polled Answer.Pending) w = λ k. refl
reacts_count p (Op.User (UserOp.Poll f)) (UserEnd.Polled Answer.Ready) w = λ k. refl
reacts_count p (Op.User (UserOp.Poll f)) UserEnd.Done w = λ k. refl
reacts_count p (Op.User (UserOp.PollOwn x)) (UserEnd.Polled Answer.Pending) w = λ k. refl
reacts_count p (Op.User (UserOp.PollOwn x)) (UserEnd.Polled Answer.Ready) w = λ k. refl
reacts_count p (Op.User (UserOp.PollOwn x)) UserEnd.Done w = λ k. refl
reacts_count p o u w = λ k. refl

-- what leads to a search of a run, or is a part of one

abbrev pub who_counts : TickOrRun → ℕ
who_counts (TickOrRun.Tick t) = 0
who_counts (TickOrRun.Run r) = 1

abbrev pub counts : Op → ℕ
counts (Op.Tick (TickOp.Search s)) = who_counts s.who
counts (Op.Tick (TickOp.Look s look)) = who_counts s.who
counts (Op.Tick (TickOp.CopyWaker s)) = who_counts s.who
counts (Op.Tick (TickOp.FallAsleep s)) = who_counts s.who
counts (Op.List (ListOp.LockRead x)) = 1
counts (Op.Steal o) = 1
counts (Op.Run (RunOp.TakeTurn x)) = 1
counts (Op.Run (RunOp.SearchCommon x look)) = 1
counts (Op.Run (RunOp.LookOwn x at left)) = 1
counts _ = 0

quiet_counts : (o : Op) → is_loud o ≡ false → counts o ≡ 0
quiet_counts (Op.Tick (TickOp.Search s)) quiet = absurd cc
quiet_counts (Op.Tick (TickOp.Look s look)) quiet = absurd cc
quiet_counts (Op.Tick (TickOp.CopyWaker s)) quiet = absurd cc
quiet_counts (Op.Tick (TickOp.FallAsleep s)) quiet = absurd cc
quiet_counts (Op.List o) quiet = absurd cc
quiet_counts (Op.Steal o) quiet = absurd cc
quiet_counts (Op.Run RunOp.MakeRoom) quiet = refl
quiet_counts (Op.Run RunOp.ReturnRoom) quiet = refl
quiet_counts (Op.Run o) quiet = absurd cc
quiet_counts o quiet = refl

leads_counts : (o : Op) (os : List Op) → Leads o os → counts o ≡ 0 → weigh counts os ≡ 0
leads_counts o os (deeds.finds x z) none = absurd (omega (arith, none))
leads_counts o os (deeds.stole a z) none = absurd (omega (arith, none))
leads_counts o _ (deeds.looks x at left z) none = absurd (omega (arith, none))
leads_counts o os (deeds.common x l m f) none = absurd (omega (arith, none))
leads_counts o os _ none = omega (arith, none)

missing_counts : (q : ℕ) (o : Op) (os : List Op) → Missing q o os → counts o ≡ 0 → weigh counts os ≡ 0
missing_counts q o os (deeds.misses x) none = absurd (omega (arith, none))
missing_counts q o os (deeds.misses_there x at left z) none = absurd (omega (arith, none))
missing_counts q o os (deeds.misses_last k a) none = refl

list_counts : (h : Hint) (o : ListOp) (w : World) → counts (Op.List o) ≡ 0 → weigh counts (list_act h o w).next ≡ 0
list_counts h (ListOp.LockWrite s) w none = refl
list_counts h (ListOp.Write Section.MakeRun) w none = by h.refused
  where
    by : (b : Bool) → weigh counts (runs.make_run_by b w).next ≡ 0
    by true = refl
    by false = refl
list_counts h (ListOp.Write (Section.Register x)) w none = refl
list_counts h (ListOp.Write (Section.Unregister r a)) w none = refl
list_counts h ListOp.UnlockWrite w none = refl
list_counts h (ListOp.LockRead x) w none = absurd (omega (arith, none))
list_counts h ListOp.UnlockRead w none = refl

deed_counts : (w : World) (o : Op) (d : Done) → Deed w o d → counts o ≡ 0 → weigh counts d.next ≡ 0
deed_counts w o d (deeds.keeps e l) none = loud-weigh counts quiet_counts d.next ∙ leads_counts o _ l none
deed_counts w o d (deeds.takes q f rest i e l) none = loud-weigh counts quiet_counts d.next ∙ leads_counts o _ l none
deed_counts w o d (deeds.lacks q i e l) none = loud-weigh counts quiet_counts d.next ∙ missing_counts q o _ l none
deed_counts w o d (deeds.shares s i k b e m) none = absurd (omega (arith, none))
deed_counts w o d (deeds.grows s k f e m) none = absurd (omega (arith, none))
deed_counts w o d (deeds.wakes p x e z) none = loud-weigh counts quiet_counts d.next ∙ ap (weigh counts) z
deed_counts w o d (deeds.lists h l) none = list_counts h l w none

counts_next : (p : ℕ) (h : Hint) (o : Op) (w : World) → waits o ≡ false → counts o ≡ 0 → weigh counts (act p h o w).next ≡ 0
counts_next p h o w goes none = deed_counts w o (act p h o w) (deed-act p h o w) none

pub none_may_count : (o : Op) → counts o ≡ 0 → may_count o ≡ false
none_may_count (Op.Tick (TickOp.Search s)) none = by s.who none
  where
    by : (who : TickOrRun) → who_counts who ≡ 0 → counts_who who ≡ false
    by (TickOrRun.Tick t) none = refl
    by (TickOrRun.Run r) none = absurd (omega (arith, none))
none_may_count (Op.Steal o) none = absurd (omega (arith, none))
none_may_count (Op.Run (RunOp.LookOwn x at left)) none = absurd (omega (arith, none))
none_may_count o none = refl

-- before user code is called next
pub alone_counts : (p : ℕ) (hints : List Hint) (w : World) (os : List Op) → due counts os ≡ 0
    → CountsSo w (alone p hints (done w os)).world
alone_counts p hints w os none =
    alone_kept counts CountsSo counts_next (λ p h o w none. counts_stay p h o w (none_may_count o none))
    (λ p h o w. counts_stay p h (Op.User o) w refl) (λ w k. refl) (λ u w x one two k. two k ∙ one k) p hints w os none

with_none : (w : World) (x : Option ℕ) (d : ℕ → Done) → ((f : ℕ) → weigh counts (d f).next ≡ 0)
    → weigh counts (with_future w x d).next ≡ 0
with_none w (Some f) d none = none f
with_none w None d none = refl

polled_none : (stage : Stage) (x : RunPoll) → weigh counts (poll_run stage x) ≡ 0
polled_none New x = refl
polled_none Listed x = refl
polled_none Ended x = refl

dropped_none : (stage : Stage) (r : ℕ) → weigh counts (drop_run stage r) ≡ 0
dropped_none New r = refl
dropped_none Listed r = refl
dropped_none Ended r = refl

-- what a call begins with
pub begins_counts : (p : ℕ) (w : World) (here : Option Waker) (c : Call) → weigh counts (begun p w here c).next ≡ 0
begins_counts p w here (Call.Wake n) = with_none w (kept w n) _ (λ f. refl)
begins_counts p w here (Call.WakeByRef n) = with_none w (kept w n) _ (λ f. refl)
begins_counts p w here (Call.Copy n) = with_none w (kept w n) _ (λ f. refl)
begins_counts p w here (Call.DropWaker n) = with_none w (kept w n) _ (λ f. refl)
begins_counts p w here Call.Keep = with_none w (future_of here) _ (λ f. refl)
begins_counts p w here Call.WakeSelf = with_none w (future_of here) _ (λ f. refl)
begins_counts p w here (Call.PollRun r b) = polled_none (run_of w r).stage _
begins_counts p w here (Call.DropRun r) = dropped_none (run_of w r).stage r
begins_counts p w here c = refl
