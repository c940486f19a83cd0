-- How runs search, steal and walk, and the list of their queues, go as `call_steps` says.
use Rattle.std.proofs.Common.{◌≡◌, ℕ, zero, suc, ◌+◌, ◌%◌, ◌==◌, Bool, true, false, List, [], ◌∷◌, length, get_or, set, refl}
use Rattle.std.{proofs.Common.subst, specs.Prelude.nat_lt}
use Rattle.call_steps.specs.declared.step.run.StealStep.{StealStep}
use Rattle.call_steps.specs.Next.{next, next_call, next_list, next_run, next_steal, next_write}
use Rattle.call_steps.{specs.declared.names.TickOrRun.TickOrRun, specs.declared.saw.Saw.Saw}
use Rattle.call_steps.{specs.declared.step.CallStep.CallStep, specs.declared.step.run.ListStep.ListStep}
use Rattle.call_steps.{specs.declared.step.run.RunStep.RunStep, specs.declared.step.tick.TickStep.TickStep}
use Rattle.executor_laws.proofs.Types.{Reply, Event, Hold, Look, First, Second, ListOp, Op, Polled, RunOp, RunPoll}
use Rattle.executor_laws.proofs.Types.{Section, Own, Steal, StealOp, Then, Waker, Task, Outside, Hint, Move}
use Rattle.executor_model.specs.declared.op.TickOrRun.TheVariants.{Run as RunOf}
use Rattle.executor_model.specs.ActsOfRuns.{call_by_reference, counted_by, counted_to, found, free_places, kept_by, look_own_by}
use Rattle.executor_model.specs.ActsOfRuns.{make_room_by, make_run_by, next_place, put_refused, queue_at, reschedule_by, run_by, run_found}
use Rattle.executor_model.specs.ActsOfRuns.{search_common_by, search_own_by, share, source_of, steal_by, steal_length_by}
use Rattle.executor_model.specs.ActsOfRuns.{steal_put_by, steal_take_by, stolen, wake_own, walk}
use Rattle.executor_model.specs.World.{queue_of, World, Run, Ticker, Awake, Asleep, Left, log, no_run, own_of, put_own, run_of}
use Rattle.executor_model.specs.Doing.{list_act, run_act, steal_act}
use Rattle.executor_model.specs.{Acts.mark_in, Acts.tell, ActsOfSleepers.found_by}
use Rattle.executor_laws.specs.SeenByCalls.{first, found as seen_found, looked_own, put_where, seen_list, seen_run, seen_steal}
use Rattle.executor_laws.specs.StepsOfCalls.{list_step_of, poll_of, reply_of, run_step_of, section_of, steal_of, steal_step_of}
use Rattle.executor_laws.specs.SeenByCalls.{sleeps, searcher, taken_from, unless_refused, walked, woken}
use Rattle.executor_laws.specs.StepsOfCalls.{look_of, steps_of, then_of, waker_of}
use Rattle.executor_laws.proofs.CallSteps.Owing.{both, of-move}
use Rattle.call_steps.specs.Sleeping as sleeping
use Rattle.call_steps.specs.Stealing as stealing

-- what is found

of-run : (b : Bool) (w : World) (x : RunPoll) (f : ℕ) → steps_of (run_by b w x f).next ≡ sleeping.run_by b (poll_of x) f
of-run true w x f = refl
of-run false w x f = refl

-- a run that counts has taken as many as before
taken-same : (rs : List Run) (r n : ℕ) →
    (get_or (set rs r (record (get_or rs r no_run) { counted = n })) r no_run).taken ≡ (get_or rs r no_run).taken
taken-same [] r n = refl
taken-same (x ∷ rs) zero n = refl
taken-same (x ∷ rs) (suc r) n = taken-same rs r n

of-counted-on : (w : World) (x : RunPoll) (f n : ℕ) →
    steps_of (run_found (counted_to w x.run n) x f).next ≡ sleeping.run_found (searcher w (RunOf x.run)) (poll_of x) f
of-counted-on w x f n =
    subst (λ (taken : ℕ). steps_of (run_found (counted_to w x.run n) x f).next ≡ sleeping.run_by (taken + 1 == 200) (poll_of x) f)
    (taken-same w.runs x.run n)
    (of-run ((run_of (counted_to w x.run n) x.run).taken + 1 == 200) (counted_to w x.run n) x f)

of-counted : (b : Bool) (w : World) (x : RunPoll) (f : ℕ) →
    steps_of (counted_by b w x f).next ≡ sleeping.counted_by b (searcher w (RunOf x.run)) (poll_of x) f
of-counted true w x f = refl
of-counted false w x f = of-counted-on w x f ((run_of w x.run).counted + 1)

of-first : (x : Ticker) (r : ℕ) → steps_of (found_by x (RunOf r) tell) ≡ sleeping.woken_up (sleeps x) (TickOrRun.Run r) sleeping.tell
of-first Awake r = refl
of-first (Asleep n) r = refl
of-first Left r = refl

of-found : (w : World) (x : RunPoll) (f : ℕ) →
    steps_of (found w x f).next ≡ sleeping.found_by_run (searcher w (RunOf x.run)) (poll_of x) f
of-found w x f =
    both (found_by (run_of w x.run).place (RunOf x.run) tell) (counted_by ((run_of w x.run).counted + 1 == 64) w x f).next _ _
    (of-first (run_of w x.run).place x.run) (of-counted ((run_of w x.run).counted + 1 == 64) w x f)

pub of-own : (fs : List ℕ) (w : World) (r k : ℕ) (a : Waker) →
    steps_of (search_own_by fs w (record { run = r; waker = a; poll = k })).next
    ≡ next (CallStep.Tick (TickStep.Search (record { waker = waker_of a; who = TickOrRun.Run r }))) (seen_found fs (searcher w (RunOf r)))
of-own [] w r k a = refl
of-own (f ∷ fs) w r k a = of-found (put_own w r fs) (record { run = r; waker = a; poll = k }) f

-- steals

of-stolen : (t : Then) (w : World) (x : RunPoll) →
    steps_of (stolen t w x).next ≡ stealing.stolen_as (then_of t) (searcher w (RunOf x.run)) (poll_of x)
of-stolen (Then.Found f) w x = of-found w x f
of-stolen (Then.StealPlain f) w x = refl
of-stolen (Then.Run f) w x = of-run ((run_of w x.run).taken + 1 == 200) w x f
of-stolen (Then.Walk at left) w x = refl

of-length : (n : ℕ) (w : World) (s : Steal) →
    steps_of (steal_length_by n w s).next ≡ stealing.of_length n (searcher w (RunOf s.poll.run)) (steal_of s)
of-length zero w s = of-stolen s.then w s.poll
of-length (suc n) w s = refl

of-steal : (n : ℕ) (w : World) (s : Steal) →
    steps_of (steal_by n w s).next ≡ stealing.steal_on n (searcher w (RunOf s.poll.run)) (steal_of s)
of-steal zero w s = of-stolen s.then w s.poll
of-steal (suc n) w s = refl

of-take : (fs : List ℕ) (w : World) (s : Steal) (more : ℕ) →
    steps_of (steal_take_by fs w s more).next
    ≡ next_steal (StealStep.Take (steal_of s) more) (taken_from fs (searcher w (RunOf s.poll.run)))
of-take [] w s more = of-stolen s.then w s.poll
of-take (f ∷ fs) w s more = refl

of-refused : (t : Then) (w : World) (x : RunPoll) (f : ℕ) →
    steps_of (put_refused t w x f).next ≡ stealing.put_refused (then_of t) (searcher w (RunOf x.run)) (poll_of x) f
of-refused (Then.Walk at left) w x f = refl
of-refused t w x f = both (Op.Move Move.DropRunnable f ∷ []) (stolen t w x).next _ _ refl (of-stolen t w x)

of-put : (b : Bool) (p : ℕ) (w : World) (s : Steal) (more f : ℕ) →
    steps_of (steal_put_by b p w s more f).next
    ≡ next_steal (StealStep.Put (steal_of s) more f) (put_where b (searcher w (RunOf s.poll.run)))
of-put true p w s more f = of-steal more (kept_by p w s.poll.run f) s
of-put false p w s more f = of-refused s.then w s.poll f

pub of-steals : (p : ℕ) (o : StealOp) (w : World) →
    steps_of (steal_act p o w).next ≡ next (CallStep.Steal (steal_step_of o)) (seen_steal o w)
of-steals p (StealOp.Length s) w = of-length (length (source_of w s.from)) w s
of-steals p (StealOp.OwnLength s n) w = of-steal (share n (free_places w s.poll.run)) w s
of-steals p (StealOp.Take s more) w = of-take (source_of w s.from) w s more
of-steals p (StealOp.Put s more f) w = of-put (nat_lt 0 (free_places w s.poll.run)) p w s more f

-- walks

of-walk : (x : RunPoll) (queues : List ℕ) (at left more : ℕ) →
    steps_of (walk x queues at left) ≡ next_run (RunStep.LookOwn (poll_of x) more) (walked x.run queues at left)
of-walk x queues at zero more = refl
of-walk x queues at (suc left) more =
    elim (queue_at queues at == x.run) as (λ (own : Bool).
    steps_of (elim own [
      | true ↦ walk x queues (next_place queues at) left
      | false ↦ Op.Steal (StealOp.Length (record {
        poll = x;
        from = Own (queue_at queues at);
        then = Then.Walk (next_place queues at) left;
      })) ∷ []
    ])
    ≡ next_run (RunStep.LookOwn (poll_of x) more) (elim own [
      | true ↦ walked x.run queues (next_place queues at) left
      | false ↦ Saw.Queue (queue_at queues at) left
    ])) [
      | true ↦ of-walk x queues (next_place queues at) left more
      | false ↦ refl
    ]

of-locked : (x : RunPoll) (queues : List ℕ) (at left : ℕ) →
    steps_of (walk x queues at left) ≡ next_list (ListStep.LockRead (poll_of x)) (walked x.run queues at left)
of-locked x queues at zero = refl
of-locked x queues at (suc left) =
    elim (queue_at queues at == x.run) as (λ (own : Bool).
    steps_of (elim own [
      | true ↦ walk x queues (next_place queues at) left
      | false ↦ Op.Steal (StealOp.Length (record {
        poll = x;
        from = Own (queue_at queues at);
        then = Then.Walk (next_place queues at) left;
      })) ∷ []
    ])
    ≡ next_list (ListStep.LockRead (poll_of x)) (elim own [
      | true ↦ walked x.run queues (next_place queues at) left
      | false ↦ Saw.Queue (queue_at queues at) left
    ])) [
      | true ↦ of-locked x queues (next_place queues at) left
      | false ↦ refl
    ]

of-write : (b : Bool) (w : World) → steps_of (make_run_by b w).next ≡ next_write (section_of Section.MakeRun) (unless_refused b)
of-write true w = refl
of-write false w = refl

pub of-lists : (h : Hint) (o : ListOp) (w : World) →
    steps_of (list_act h o w).next ≡ next (CallStep.List (list_step_of o)) (seen_list h o w)
of-lists h (ListOp.LockWrite s) w = refl
of-lists h (ListOp.Write Section.MakeRun) w = of-write h.refused w
of-lists h (ListOp.Write (Section.Register x)) w = refl
of-lists h (ListOp.Write (Section.Unregister r a)) w = refl
of-lists h ListOp.UnlockWrite w = refl
of-lists h (ListOp.LockRead x) w = of-locked x w.listed (h.start % length w.listed) (length w.listed)
of-lists h ListOp.UnlockRead w = refl

-- runs

of-room : (b : Bool) (w : World) → steps_of (make_room_by b w).next ≡ next_run RunStep.MakeRoom (unless_refused b)
of-room true w = refl
of-room false w = refl

of-common : (fs : List ℕ) (w : World) (x : RunPoll) (look : Look) →
    steps_of (search_common_by fs w x look).next ≡ next_run (RunStep.SearchCommon (poll_of x) (look_of look)) (first fs)
of-common [] w x (First mark) = refl
of-common [] w x (Second mark) = refl
of-common (f ∷ fs) w x (First mark) = refl
of-common (f ∷ fs) w x (Second mark) = refl

of-look-own : (fs : List ℕ) (w : World) (x : RunPoll) (at left : ℕ) →
    steps_of (look_own_by fs w x at left).next
    ≡ next_run (RunStep.LookOwn (poll_of x) left) (looked_own fs (searcher w (RunOf x.run)) (walked x.run w.listed at left))
of-look-own [] w x at left = of-walk x w.listed at left left
of-look-own (f ∷ fs) w x at left =
    both (Op.List ListOp.UnlockRead ∷ []) (found (put_own w x.run fs) x f).next _ _ refl (of-found (put_own w x.run fs) x f)

of-by-reference : (p : ℕ) (w : World) (a : Waker) →
    steps_of (call_by_reference p w a).next ≡ next_call (waker_of a) (woken Move.WakeByReference w a)
of-by-reference p w (Task g) = of-move true Move.WakeByReference p w g
of-by-reference p w (Outside y) = refl

of-wake-own : (p : ℕ) (w : World) (x : RunPoll) →
    steps_of (wake_own p w x).next
    ≡ next_run (RunStep.WakeOwn (poll_of x)) (woken Move.WakeByReference w x.waker)
of-wake-own p w x =
    both (call_by_reference p (log w (Event.WakerCalled p (Polled.Run x.run) x.poll x.waker)) x.waker).next
    (Op.End Reply.Pending (Hold.Run x.run) ∷ []) _ _
    (of-by-reference p (log w (Event.WakerCalled p (Polled.Run x.run) x.poll x.waker)) x.waker) refl

of-reschedule : (fs : List ℕ) (w : World) (r : ℕ) (a : Reply) →
    steps_of (reschedule_by fs w r a).next ≡ next_run (RunStep.Reschedule r (reply_of a)) (first fs)
of-reschedule [] w r a = refl
of-reschedule (f ∷ fs) w r a = refl

pub of-runs : (p : ℕ) (h : Hint) (o : RunOp) (w : World) →
    steps_of (run_act p h o w).next ≡ next (CallStep.Run (run_step_of o)) (seen_run h o w)
of-runs p h RunOp.MakeRoom w = of-room h.refused w
of-runs p h RunOp.ReturnRoom w = refl
of-runs p h (RunOp.TakeTurn x) w = refl
of-runs p h (RunOp.SearchCommon x look) w = of-common (queue_of w (mark_in look)).items w x look
of-runs p h (RunOp.LookOwn x at left) w = of-look-own (own_of w x.run) w x at left
of-runs p h (RunOp.WakeOwn x) w = of-wake-own p w x
of-runs p h (RunOp.Reschedule r a) w = of-reschedule (own_of w r) w r a
