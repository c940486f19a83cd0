-- For quiet_emptiness_is_exact, outputs_are_kept, awaiters_are_kept and own_queues_agree.
-- What a run does leads to one answer of its call.
use Rattle.std.proofs.Common.{◌≡◌, ℕ, zero, suc, ◌+◌, List, [], ◌∷◌, length, Bool, true, false, eqb, refl}
use Rattle.executor_model.proofs.Types.{Look, First, Second, Move, Reply, Event, Hold, ListOp, Op, Polled, QueueOp, RunOp}
use Rattle.executor_model.proofs.Types.{RunPoll, Section, TickOrRun, SleeperOp, Sleeping, Own, Steal, StealOp, Then, TickOp}
use Rattle.executor_model.proofs.Types.{UserOp, Waker, Task, Outside, Hint}
use Rattle.executor_model.specs.World.{World, Ticker, Awake, Asleep, Left, Stage, New, Listed, Ended, Done, log, put_own}
use Rattle.executor_model.specs.ActsOfRuns.{asleep, call_by_reference, counted_by, found, kept_by, look_own_by, make_room_by}
use Rattle.executor_model.specs.ActsOfRuns.{make_run_by, next_place, queue_at, reschedule_by, run_by, search_common_by}
use Rattle.executor_model.specs.ActsOfRuns.{search_own, search_own_by, steal_by, steal_length_by, steal_put_by, steal_take_by}
use Rattle.executor_model.specs.ActsOfRuns.{put_refused, stolen, wake_own, walk}
use Rattle.executor_model.specs.{Weights.weigh, World.run_of, World.task, ActsOfSleepers.found_by, Doing.list_act}
use Rattle.executor_model.specs.{Doing.run_act, Doing.steal_act, Steps.drop_run, Steps.poll_run}
use Rattle.executor_model.proofs.Quiet.Calls.{calling_of, Steady, steady-and, steady-log, steady-log_if, steady-same, Answering}
use Rattle.executor_model.proofs.Steps.RunsMoves.{Moves, moves-common, moves-length, moves-list, moves-look, moves-make_room}
use Rattle.executor_model.proofs.Quiet.Calls.{Calls, answers, before, calls-turn, inside, none-owed, single, then}
use Rattle.executor_model.proofs.Steps.RunsMoves.{moves-own, moves-own_length, moves-refused, moves-reschedule, moves-take}
use Rattle.task_moves.specs.Moves as moves

-- what follows answers the call

one-run_by : (b : Bool) (w : World) (x : RunPoll) (f : ℕ) → Answering (run_by b w x f).next
one-run_by true w x f = then (Op.Move Move.TakeUp f ∷ []) (Op.Run (RunOp.WakeOwn x)) refl refl
one-run_by false w x f = then (Op.Move Move.TakeUp f ∷ []) (Op.Tick (TickOp.Search (asleep x))) refl refl

one-counted : (b : Bool) (w : World) (x : RunPoll) (f : ℕ) → Answering (counted_by b w x f).next
one-counted true w x f = single _ refl
one-counted false w x f = one-run_by _ _ x f

none-wakes_up : (p : Ticker) (who : TickOrRun) →
    weigh calling_of (found_by p who (Op.Sleeper SleeperOp.ExchangeFlag ∷ [])) ≡ 0
none-wakes_up Awake who = refl
none-wakes_up (Asleep n) who = refl
none-wakes_up Left who = refl

one-found : (w : World) (x : RunPoll) (f : ℕ) → Answering (found w x f).next
one-found w x f =
    before (found_by (run_of w x.run).place (TickOrRun.Run x.run) (Op.Sleeper SleeperOp.ExchangeFlag ∷ []))
    (counted_by (eqb ((run_of w x.run).counted + 1) 64) w x f).next
    (none-wakes_up (run_of w x.run).place (TickOrRun.Run x.run)) (one-counted _ w x f)

one-stolen : (n : Then) (w : World) (x : RunPoll) → Answering (stolen n w x).next
one-stolen (Then.Found f) w x = one-found w x f
one-stolen (Then.StealPlain f) w x = single _ refl
one-stolen (Then.Run f) w x = one-run_by _ w x f
one-stolen (Then.Walk at left) w x = single _ refl

one-length : (n : ℕ) (w : World) (s : Steal) → Answering (steal_length_by n w s).next
one-length zero w s = one-stolen s.then w s.poll
one-length (suc n) w s = single _ refl

one-more : (n : ℕ) (w : World) (s : Steal) → Answering (steal_by n w s).next
one-more zero w s = one-stolen s.then w s.poll
one-more (suc n) w s = single _ refl

one-take : (q : List ℕ) (w : World) (s : Steal) (more : ℕ) → Answering (steal_take_by q w s more).next
one-take [] w s more = one-stolen s.then w s.poll
one-take (f ∷ rest) w s more = single _ refl

one-walk : (x : RunPoll) (qs : List ℕ) (at left : ℕ) → Answering (walk x qs at left)
one-walk x qs at zero = then (Op.List ListOp.UnlockRead ∷ []) (Op.Tick (TickOp.CopyWaker (asleep x))) refl refl
one-walk x qs at (suc left) = by (eqb (queue_at qs at) x.run) (one-walk x qs (next_place qs at) left)
  where
    by : (b : Bool) → Answering (walk x qs (next_place qs at) left) → Answering (let h : List Op = elim b [
      | true ↦ walk x qs (next_place qs at) left
      | false ↦ Op.Steal (StealOp.Length (record {
        poll = x;
        from = Own (queue_at qs at);
        then = Then.Walk (next_place qs at) left;
      })) ∷ []
    ] in h)
    by true a = a
    by false a = single _ refl

one-own : (q : List ℕ) (w : World) (x : RunPoll) → Answering (search_own_by q w x).next
one-own [] w x = single _ refl
one-own (f ∷ rest) w x = one-found (put_own w x.run rest) x f

one-common : (look : Look) (q : List ℕ) (w : World) (x : RunPoll) → Answering (search_common_by q w x look).next
one-common (First mark) [] w x = single _ refl
one-common (Second mark) [] w x = single _ refl
one-common look (f ∷ rest) w x = single _ refl

one-look : (q : List ℕ) (w : World) (x : RunPoll) (at left : ℕ) → Answering (look_own_by q w x at left).next
one-look [] w x at left = one-walk x w.listed at left
one-look (f ∷ rest) w x at left =
    before (Op.List ListOp.UnlockRead ∷ []) _ refl (one-found (put_own w x.run rest) x f)

one-reschedule : (q : List ℕ) (w : World) (r : ℕ) (a : Reply) → Answering (reschedule_by q w r a).next
one-reschedule [] w r a = then (Op.Tick (TickOp.Leave (TickOrRun.Run r)) ∷ []) (Op.End a (Hold.Run r)) refl refl
one-reschedule (f ∷ rest) w r a =
    then (Op.Queue (QueueOp.Append f) ∷ []) (Op.Run (RunOp.Reschedule r a)) refl refl

pub one-poll : (t : Stage) (x : RunPoll) → Answering (poll_run t x)
one-poll New x = single _ refl
one-poll Listed x = single _ refl
one-poll Ended x = single _ refl

pub one-drop : (t : Stage) (r : ℕ) → Answering (drop_run t r)
one-drop New r = then (Op.User (UserOp.DropOwn r) ∷ []) (Op.Run (RunOp.Reschedule r Reply.Done)) refl refl
one-drop Listed r =
    then (Op.User (UserOp.DropOwn r) ∷ [])
    (Op.List (ListOp.LockWrite (Section.Unregister r Reply.Done))) refl refl
one-drop Ended r = then (Op.Tick (TickOp.Leave (TickOrRun.Run r)) ∷ []) (Op.End Reply.Done (Hold.Run r)) refl refl

-- each thing that a run does

steady-moves : (w : World) (old : List Op) (d : Done) → Moves w old d → Steady w d.world
steady-moves w old d m = steady-same w d.world m.same.trace

moved : (w : World) (o : Op) (d : Done) → calling_of o ≡ 1 → Moves w (o ∷ []) d → Answering d.next → Calls w o d
moved w o d z m a = answers w o d z (steady-moves w (o ∷ []) d m) a

one-refused : (t : Then) (w : World) (x : RunPoll) (f : ℕ) → Answering (put_refused t w x f).next
one-refused (Then.Walk at left) w x f =
    then (Op.List ListOp.UnlockRead ∷ Op.Move Move.DropRunnable f ∷ []) (Op.Tick (TickOp.Search (asleep x))) refl refl
one-refused t w x f = before (Op.Move Move.DropRunnable f ∷ []) _ refl (one-stolen t w x)

calls-put : (b : Bool) (p : ℕ) (w : World) (s : Steal) (more f : ℕ) →
    Calls w (Op.Steal (StealOp.Put s more f)) (steal_put_by b p w s more f)
calls-put true p w s more f =
    let v = kept_by p w s.poll.run f in
    answers w _ _ refl (steady-and w v _ (steady-log w v (Event.Kept p f s.poll.run) refl (λ q. refl) (λ q. refl))
    (steady-moves v (Op.Steal (StealOp.OwnLength s 0) ∷ []) _ (moves-own_length more 0 v s))) (one-more more v s)
calls-put false p w s more f =
    moved w _ _ refl (moves-refused s.then w s.poll s.from more f) (one-refused s.then w s.poll f)

pub calls-steal : (p : ℕ) (o : StealOp) (w : World) → Calls w (Op.Steal o) (steal_act p o w)
calls-steal p (StealOp.Length s) w = moved w _ _ refl (moves-length _ w s) (one-length _ w s)
calls-steal p (StealOp.OwnLength s n) w = moved w _ _ refl (moves-own_length _ n w s) (one-more _ w s)
calls-steal p (StealOp.Take s more) w =
    moved w _ _ refl (moves-take s.from _ w s.poll s.then more refl) (one-take _ w s more)
calls-steal p (StealOp.Put s more f) w = calls-put _ p w s more f

one-make : (b : Bool) (w : World) → Answering (make_run_by b w).next
one-make true w =
    then (Op.List ListOp.UnlockWrite ∷ Op.Run RunOp.ReturnRoom ∷ []) (Op.End Reply.NoMemory Hold.Executor) refl refl
one-make false w = then (Op.List ListOp.UnlockWrite ∷ []) (Op.End Reply.Made (Hold.Run (length w.runs))) refl refl

pub calls-list : (h : Hint) (o : ListOp) (w : World) → Calls w (Op.List o) (list_act h o w)
calls-list h (ListOp.LockWrite s) w =
    moved w _ _ refl (moves-list h (ListOp.LockWrite s) w) (single _ refl)
calls-list h (ListOp.Write Section.MakeRun) w =
    moved w _ _ refl (moves-list h (ListOp.Write Section.MakeRun) w) (one-make h.refused w)
calls-list h (ListOp.Write (Section.Register x)) w =
    moved w _ _ refl (moves-list h (ListOp.Write (Section.Register x)) w)
    (then (Op.List ListOp.UnlockWrite ∷ []) (Op.User (UserOp.PollOwn x)) refl refl)
calls-list h (ListOp.Write (Section.Unregister r a)) w =
    moved w _ _ refl (moves-list h (ListOp.Write (Section.Unregister r a)) w)
    (then (Op.List ListOp.UnlockWrite ∷ []) (Op.Run (RunOp.Reschedule r a)) refl refl)
calls-list h ListOp.UnlockWrite w = inside w _ _ refl (steady-same _ _ refl) refl
calls-list h (ListOp.LockRead x) w =
    moved w _ _ refl (moves-list h (ListOp.LockRead x) w) (one-walk x w.listed _ _)
calls-list h ListOp.UnlockRead w = inside w _ _ refl (steady-same _ _ refl) refl

-- a run looks at its own queue
pub calls-search_run : (w : World) (r : ℕ) (s : Sleeping) → s.who ≡ TickOrRun.Run r →
    Calls w (Op.Tick (TickOp.Search s)) (search_own w (record { run = r; waker = s.waker; poll = s.poll }))
calls-search_run w r s e =
    moved w _ _ refl (moves-own _ w s r e refl) (one-own _ w (record { run = r; waker = s.waker; poll = s.poll }))

steady-by_reference : (p : ℕ) (w : World) (a : Waker) → Steady w (call_by_reference p w a).world
steady-by_reference p w (Task f) = steady-log_if _ w _ (Event.Woken p f) refl (λ q. refl) (λ q. refl)
steady-by_reference p w (Outside y) = steady-same _ _ refl

none-by_reference : (p : ℕ) (w : World) (a : Waker) → weigh calling_of (call_by_reference p w a).next ≡ 0
none-by_reference p w (Task f) = none-owed f _ (moves.wake_by_reference (task w f)).owed
none-by_reference p w (Outside y) = refl

calls-wake_own : (p : ℕ) (w : World) (x : RunPoll) → Calls w (Op.Run (RunOp.WakeOwn x)) (wake_own p w x)
calls-wake_own p w x =
    let e = Event.WakerCalled p (Polled.Run x.run) x.poll x.waker in
    answers w _ _ refl
    (steady-and w (log w e) _ (steady-log w (log w e) e refl (λ q. refl) (λ q. refl))
    (steady-by_reference p (log w e) x.waker))
    (then (call_by_reference p (log w e) x.waker).next _ (none-by_reference p (log w e) x.waker) refl)

one-room : (b : Bool) (w : World) → Answering (make_room_by b w).next
one-room true w = single _ refl
one-room false w = single _ refl

pub calls-run : (p : ℕ) (h : Hint) (o : RunOp) (w : World) → Calls w (Op.Run o) (run_act p h o w)
calls-run p h RunOp.MakeRoom w = moved w _ _ refl (moves-make_room h.refused w) (one-room h.refused w)
calls-run p h RunOp.ReturnRoom w = inside w _ _ refl (steady-same _ _ refl) refl
calls-run p h (RunOp.TakeTurn x) w =
    calls-turn p w (Op.Run (RunOp.TakeTurn x)) (λ look. Op.Run (RunOp.SearchCommon x look)) refl (λ look. refl)
calls-run p h (RunOp.SearchCommon x look) w = moved w _ _ refl (moves-common look _ w x refl) (one-common look _ w x)
calls-run p h (RunOp.LookOwn x at left) w = moved w _ _ refl (moves-look _ w x at left refl) (one-look _ w x at left)
calls-run p h (RunOp.WakeOwn x) w = calls-wake_own p w x
calls-run p h (RunOp.Reschedule r a) w = moved w _ _ refl (moves-reschedule _ w r a refl) (one-reschedule _ w r a)
