-- For table_and_queue_agree, no_append_is_refused_full, the_limit_is_exact, drops_come_once, early_drops_have_causes
-- and closing_drops_each_future_once.
-- What a run does uses the executor only where it is held.
use Rattle.std.proofs.Common.{◌≡◌, ℕ, zero, suc, List, [], ◌∷◌, ◌++◌, Bool, true, false, eqb, reverse, refl, ap, ◌+◌, ◌%◌}
use Rattle.std.{proofs.Common.length, proofs.Common.arith, proofs.lemmas.List.reverse-append}
use Rattle.executor_model.proofs.Types.{Look, First, Second, Move, Reply, Event, Hold, ListOp, Op, Polled, RunOp, RunPoll}
use Rattle.executor_model.proofs.Types.{Section, TickOrRun, SleeperOp, Own, Steal, StealOp, Then, Waker, Task, Outside, Hint}
use Rattle.executor_model.specs.World.{World, Ticker, Awake, Asleep, Left, Stage, New, Listed, Ended, own_of, put_own, run_of}
use Rattle.executor_model.specs.ActsOfRuns.{put_refused, run_by, counted_by, found, make_run_by, walk, next_place, queue_at, search_own_by}
use Rattle.executor_model.specs.ActsOfRuns.{search_common_by, look_own_by, stolen, steal_length_by, steal_by, kept_by}
use Rattle.executor_model.specs.ActsOfRuns.{steal_put_by, steal_take_by, make_room_by, call_by_reference, reschedule_by}
use Rattle.executor_model.specs.Doing.{list_act, run_act, steal_act}
use Rattle.executor_model.specs.{World.log, World.task, ActsOfSleepers.found_by, Steps.poll_run, Steps.drop_run, Weights.weigh}
use Rattle.executor_model.proofs.Steps.Lists.{weigh-append, weigh-reverse}
use Rattle.executor_model.proofs.Table.Borrowing.{uses_of, bare, held_by, bare-append, bare-light, Tidy, tidy-light}
use Rattle.executor_model.proofs.Table.Tidying.{light-carried, no-wake}
use Rattle.task_moves.specs.Moves as moves

-- nothing below which the executor isn't held uses it
abbrev pub IsHeld : List Op → Type 0
IsHeld os = bare false (reverse os) ≡ 0

-- what uses nothing may come first
pub held-after : (xs ys : List Op) → weigh uses_of xs ≡ 0 → IsHeld ys → IsHeld (xs ++ ys)
held-after xs ys z h =
    let e : bare false (reverse (xs ++ ys)) ≡ bare false (reverse ys ++ reverse xs) =
    ap (bare false) (reverse-append xs ys) in
    omega (
      arith,
      e,
      bare-append false (reverse ys) (reverse xs),
      h,
      bare-light (held_by false (reverse ys)) (reverse xs),
      weigh-reverse uses_of xs,
      z,
    )

pub tidy-held : (old next : List Op) → IsHeld next → Tidy old next
tidy-held old next h = record { keeps = λ z. h }

held-run_by : (b : Bool) (w : World) (x : RunPoll) (f : ℕ) → IsHeld (run_by b w x f).next
held-run_by true w x f = refl
held-run_by false w x f = refl

held-counted : (b : Bool) (w : World) (x : RunPoll) (f : ℕ) → IsHeld (counted_by b w x f).next
held-counted true w x f = refl
held-counted false w x f = held-run_by _ _ x f

pub light-wakes_up : (p : Ticker) (who : TickOrRun) →
    weigh uses_of (found_by p who (Op.Sleeper SleeperOp.ExchangeFlag ∷ [])) ≡ 0
light-wakes_up Awake who = refl
light-wakes_up (Asleep n) who = refl
light-wakes_up Left who = refl

held-found : (w : World) (x : RunPoll) (f : ℕ) → IsHeld (found w x f).next
held-found w x f =
    held-after (found_by (run_of w x.run).place (TickOrRun.Run x.run) (Op.Sleeper SleeperOp.ExchangeFlag ∷ []))
    (counted_by (eqb ((run_of w x.run).counted + 1) 64) w x f).next
    (light-wakes_up (run_of w x.run).place (TickOrRun.Run x.run))
    (held-counted (eqb ((run_of w x.run).counted + 1) 64) w x f)

held-stolen : (t : Then) (w : World) (x : RunPoll) → IsHeld (stolen t w x).next
held-stolen (Then.Found f) w x = held-found w x f
held-stolen (Then.StealPlain f) w x = refl
held-stolen (Then.Run f) w x = held-run_by _ w x f
held-stolen (Then.Walk at left) w x = refl

light-walk : (x : RunPoll) (qs : List ℕ) (at left : ℕ) → weigh uses_of (walk x qs at left) ≡ 0
light-walk x qs at zero = refl
light-walk x qs at (suc left) = by (eqb (queue_at qs at) x.run) (light-walk x qs (next_place qs at) left)
  where
    by : (b : Bool) → weigh uses_of (walk x qs (next_place qs at) left) ≡ 0 → weigh uses_of (let h : List Op = elim b [
      | true ↦ walk x qs (next_place qs at) left
      | false ↦ Op.Steal (StealOp.Length (record {
        poll = x;
        from = Own (queue_at qs at);
        then = Then.Walk (next_place qs at) left;
      })) ∷ []
    ] in h) ≡ 0
    by true z = z
    by false z = refl

-- stealing

held-length : (n : ℕ) (w : World) (s : Steal) → IsHeld (steal_length_by n w s).next
held-length zero w s = held-stolen s.then w s.poll
held-length (suc n) w s = refl

held-more : (n : ℕ) (w : World) (s : Steal) → IsHeld (steal_by n w s).next
held-more zero w s = held-stolen s.then w s.poll
held-more (suc n) w s = refl

held-take : (q : List ℕ) (w : World) (s : Steal) (more : ℕ) → IsHeld (steal_take_by q w s more).next
held-take [] w s more = held-stolen s.then w s.poll
held-take (f ∷ rest) w s more = refl

held-refused : (t : Then) (w : World) (x : RunPoll) (f : ℕ) → IsHeld (put_refused t w x f).next
held-refused (Then.Walk at left) w x f = refl
held-refused t w x f = held-after (Op.Move Move.DropRunnable f ∷ []) (stolen t w x).next refl (held-stolen t w x)

held-put : (b : Bool) (p : ℕ) (w : World) (s : Steal) (more f : ℕ) → IsHeld (steal_put_by b p w s more f).next
held-put true p w s more f = held-more more (kept_by p w s.poll.run f) s
held-put false p w s more f = held-refused s.then w s.poll f

pub tidy-steal : (p : ℕ) (o : StealOp) (w : World) → Tidy (Op.Steal o ∷ []) (steal_act p o w).next
tidy-steal p (StealOp.Length s) w = tidy-held _ _ (held-length _ w s)
tidy-steal p (StealOp.OwnLength s n) w = tidy-held _ _ (held-more _ w s)
tidy-steal p (StealOp.Take s more) w = tidy-held _ _ (held-take _ w s more)
tidy-steal p (StealOp.Put s more f) w = tidy-held _ _ (held-put _ p w s more f)

-- the list of queues

light-make_run : (b : Bool) (w : World) → weigh uses_of (make_run_by b w).next ≡ 0
light-make_run true w = refl
light-make_run false w = refl

pub tidy-list : (h : Hint) (o : ListOp) (w : World) → Tidy (Op.List o ∷ []) (list_act h o w).next
tidy-list h (ListOp.Write Section.MakeRun) w = tidy-light _ _ (light-make_run h.refused w)
tidy-list h (ListOp.LockRead x) w =
    tidy-light _ _ (light-walk x w.listed (h.start % length w.listed) (length w.listed))
tidy-list h _ w = tidy-light _ _ refl

-- searching

held-own : (q : List ℕ) (w : World) (x : RunPoll) → IsHeld (search_own_by q w x).next
held-own [] w x = refl
held-own (f ∷ rest) w x = held-found (put_own w x.run rest) x f

pub tidy-search_own : (old : List Op) (w : World) (x : RunPoll) → Tidy old (search_own_by (own_of w x.run) w x).next
tidy-search_own old w x = tidy-held _ _ (held-own _ w x)

light-common : (look : Look) (q : List ℕ) (w : World) (x : RunPoll) → weigh uses_of (search_common_by q w x look).next ≡ 0
light-common (First mark) [] w x = refl
light-common (Second mark) [] w x = refl
light-common look (f ∷ rest) w x = refl

tidy-look : (q : List ℕ) (w : World) (x : RunPoll) (at left : ℕ) →
    Tidy (Op.Run (RunOp.LookOwn x at left) ∷ []) (look_own_by q w x at left).next
tidy-look [] w x at left = tidy-light _ _ (light-walk x w.listed at left)
tidy-look (f ∷ rest) w x at left =
    tidy-held _ _ (held-after (Op.List ListOp.UnlockRead ∷ []) (found (put_own w x.run rest) x f).next refl
    (held-found (put_own w x.run rest) x f))

light-room : (b : Bool) (w : World) → weigh uses_of (make_room_by b w).next ≡ 0
light-room true w = refl
light-room false w = refl

light-by_reference : (p : ℕ) (w : World) (a : Waker) → weigh uses_of (call_by_reference p w a).next ≡ 0
light-by_reference p w (Task f) =
    light-carried f _ (moves.wake_by_reference (task w f)) (no-wake _ _ (task w f))
light-by_reference p w (Outside y) = refl

light-reschedule : (q : List ℕ) (w : World) (r : ℕ) (a : Reply) → weigh uses_of (reschedule_by q w r a).next ≡ 0
light-reschedule [] w r a = refl
light-reschedule (f ∷ rest) w r a = refl

pub tidy-run : (p : ℕ) (h : Hint) (o : RunOp) (w : World) → Tidy (Op.Run o ∷ []) (run_act p h o w).next
tidy-run p h RunOp.MakeRoom w = tidy-light _ _ (light-room h.refused w)
tidy-run p h RunOp.ReturnRoom w = tidy-light _ _ refl
tidy-run p h (RunOp.TakeTurn x) w = tidy-light _ _ refl
tidy-run p h (RunOp.SearchCommon x look) w = tidy-light _ _ (light-common look _ w x)
tidy-run p h (RunOp.LookOwn x at left) w = tidy-look _ w x at left
tidy-run p h (RunOp.WakeOwn x) w =
    let v = log w (Event.WakerCalled p (Polled.Run x.run) x.poll x.waker) in
    tidy-light _ _ (omega (
      arith,
      weigh-append uses_of (call_by_reference p v x.waker).next (Op.End Reply.Pending (Hold.Run x.run) ∷ []),
      light-by_reference p v x.waker,
    ))
tidy-run p h (RunOp.Reschedule r a) w = tidy-light _ _ (light-reschedule _ w r a)

-- what the calls of a run begin with

pub light-poll_run : (t : Stage) (x : RunPoll) → weigh uses_of (poll_run t x) ≡ 0
light-poll_run New x = refl
light-poll_run Listed x = refl
light-poll_run Ended x = refl

pub light-drop_run : (t : Stage) (r : ℕ) → weigh uses_of (drop_run t r) ≡ 0
light-drop_run New r = refl
light-drop_run Listed r = refl
light-drop_run Ended r = refl
