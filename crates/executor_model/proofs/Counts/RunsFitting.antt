-- For one_runnable and references_are_counted.
-- What a run does leaves numbers that are futures'.
use Rattle.std.proofs.Common.{◌≡◌, ℕ, zero, suc, ◌+◌, ◌%◌, List, [], ◌∷◌, ◌++◌, length, get_or, set, Bool, true, false, eqb}
use Rattle.std.proofs.Common.{not, refl, ap, arith}
use Rattle.executor_model.proofs.Types.{Look, First, Second, Reply, Hold, ListOp, Op, RunOp, RunPoll, Section, TickOrRun}
use Rattle.executor_model.proofs.Types.{SleeperOp, Sleeping, Source, Common, Own, Steal, StealOp, Then, TickOp, UserOp, Waker}
use Rattle.executor_model.proofs.Types.{Task, Outside, Hint, Event, Polled}
use Rattle.executor_model.specs.World.{queue_of, World, Ticker, Awake, Asleep, Left, Stage, New, Listed, Ended, Done, done, log}
use Rattle.executor_model.specs.ActsOfRuns.{call_by_reference, run_by, counted_by, found, make_run_by, registered, kept_by}
use Rattle.executor_model.specs.ActsOfRuns.{look_own_by, next_place, queue_at, search_common_by, walk, search_own_by, source_of}
use Rattle.executor_model.specs.ActsOfRuns.{put_refused, stolen, steal_by, steal_length_by, steal_put_by, steal_take_by, make_room_by}
use Rattle.executor_model.specs.World.{log_if, own_of, put_own, run_of, task}
use Rattle.executor_model.specs.Doing.{list_act, run_act, search_by_who, steal_act}
use Rattle.executor_model.specs.{Acts.mark_in, ActsOfSleepers.found_by, ActsOfRuns.reschedule_by, Good.Fits, Good.pasts}
use Rattle.executor_model.specs.{Good.pasts_in, Rows.past_of, Rows.then_past, Weights.past, Weights.waker_past, Weights.weigh}
use Rattle.executor_model.proofs.Counts.Fitting.{Grown, Grows, Shaped, shaped, fits-log, grows-carried, same-log}
use Rattle.executor_model.proofs.Steps.RunsMoves.{Same, moves-refused, same-found, same-here, same-rooms, same-stolen}
use Rattle.executor_model.proofs.Steps.RunsMoves.{same-taken, same-trans}
use Rattle.executor_model.proofs.{Steps.QueuesByMark.pasts-first, Steps.Lists.weigh-append, Steps.SleepersLists.given_back-same}
use Rattle.task_moves.specs.Moves as moves

-- own queues

pasts_in-first : (n r f : ℕ) (rest : List ℕ) (qs : List (List ℕ)) → get_or qs r [] ≡ f ∷ rest →
    past n f + pasts_in n (set qs r rest) ≡ pasts_in n qs
pasts_in-first n r f rest [] e = absurd (cc)
pasts_in-first n zero f rest (x ∷ qs) e = omega (arith, ap (pasts n) e)
pasts_in-first n (suc r) f rest (x ∷ qs) e = omega (arith, pasts_in-first n r f rest qs e)

-- what follows speaks of what was found, and of the poll's waker

module _ (n : ℕ) (x : RunPoll) (wz : waker_past n x.waker ≡ 0) where
  past-run_by : (b : Bool) (w : World) (f : ℕ) → past n f ≡ 0 → weigh (past_of n) (run_by b w x f).next ≡ 0
  past-run_by true w f z = omega (arith, wz, z)
  past-run_by false w f z = omega (arith, wz, z)

  past-counted : (b : Bool) (w : World) (f : ℕ) → past n f ≡ 0 → weigh (past_of n) (counted_by b w x f).next ≡ 0
  past-counted true w f z = omega (arith, wz, z)
  past-counted false w f z = past-run_by _ _ f z

  past-wakes_up : (p : Ticker) (who : TickOrRun) →
      weigh (past_of n) (found_by p who (Op.Sleeper SleeperOp.ExchangeFlag ∷ [])) ≡ 0
  past-wakes_up Awake who = refl
  past-wakes_up (Asleep m) who = refl
  past-wakes_up Left who = refl

  past-found : (w : World) (f : ℕ) → past n f ≡ 0 → weigh (past_of n) (found w x f).next ≡ 0
  past-found w f z =
      let first = found_by (run_of w x.run).place (TickOrRun.Run x.run) (Op.Sleeper SleeperOp.ExchangeFlag ∷ []) in
      let b = eqb ((run_of w x.run).counted + 1) 64 in
      omega (
        arith,
        weigh-append (past_of n) first (counted_by b w x f).next,
        past-wakes_up (run_of w x.run).place (TickOrRun.Run x.run),
        past-counted b w f z,
      )

  past-stolen : (t : Then) (w : World) → then_past n t ≡ 0 → weigh (past_of n) (stolen t w x).next ≡ 0
  past-stolen (Then.Found f) w z = past-found w f z
  past-stolen (Then.StealPlain f) w z = omega (arith, wz, z)
  past-stolen (Then.Run f) w z = past-run_by _ w f z
  past-stolen (Then.Walk at left) w z = omega (arith, wz)

  past-refused : (t : Then) (w : World) (f : ℕ) → past n f ≡ 0 → then_past n t ≡ 0 →
      weigh (past_of n) (put_refused t w x f).next ≡ 0
  past-refused (Then.Walk at left) w f y z = omega (arith, wz, y)
  past-refused t w f y z = omega (arith, y, past-stolen t w z)

  past-walk : (qs : List ℕ) (at left : ℕ) → weigh (past_of n) (walk x qs at left) ≡ 0
  past-walk qs at zero = omega (arith, wz)
  past-walk qs at (suc left) = by (eqb (queue_at qs at) x.run) (past-walk qs (next_place qs at) left)
    where
      by : (b : Bool) → weigh (past_of n) (walk x qs (next_place qs at) left) ≡ 0 →
          weigh (past_of n) (let h : List Op = elim b [
            | true ↦ walk x qs (next_place qs at) left
            | false ↦ Op.Steal (StealOp.Length (record {
              poll = x;
              from = Own (queue_at qs at);
              then = Then.Walk (next_place qs at) left;
            })) ∷ []
          ] in h) ≡ 0
      by true z = z
      by false z = omega (arith, wz)

-- Runnables move, and all else is as it was

grows-moves : (w : World) (old : List Op) (d : Done) → Same w d.world →
    (Fits w → weigh (past_of (length w.tasks)) old ≡ 0 → weigh (past_of (length w.tasks)) d.next ≡ 0) → Grows w old d
grows-moves w old d s n h k = let c = n h k in grind arith

-- what goes on in hand
grows-stolen : (w : World) (old : List Op) (t : Then) (x : RunPoll) →
    (weigh (past_of (length w.tasks)) old ≡ 0 → waker_past (length w.tasks) x.waker ≡ 0) →
    (weigh (past_of (length w.tasks)) old ≡ 0 → then_past (length w.tasks) t ≡ 0) → Grows w old (stolen t w x)
grows-stolen w old t x a b = grows-moves w old (stolen t w x) (same-stolen t w x)
    (λ h k. past-stolen (length w.tasks) x (a k) t w (b k))

grows-found : (w v : World) (old : List Op) (x : RunPoll) (f : ℕ) → Same w v →
    (weigh (past_of (length w.tasks)) old ≡ 0 → waker_past (length w.tasks) x.waker ≡ 0) →
    (Fits w → past (length w.tasks) f ≡ 0) → Grows w old (found v x f)
grows-found w v old x f s a b = grows-moves w old (found v x f) (same-trans s (same-found v x f))
    (λ h k. past-found (length w.tasks) x (a k) v f (b h))

grows-length : (n : ℕ) (w : World) (s : Steal) → Grows w (Op.Steal (StealOp.Length s) ∷ []) (steal_length_by n w s)
grows-length zero w s = grows-stolen w (Op.Steal (StealOp.Length s) ∷ []) s.then s.poll (λ k. omega (arith, k))
    (λ k. omega (arith, k))
grows-length (suc n) w s = grows-moves w (Op.Steal (StealOp.Length s) ∷ []) _ (same-here w _ _ _ _) (λ h k. k)

grows-more : (n : ℕ) (w : World) (s : Steal) → Shaped w → waker_past (length w.tasks) s.poll.waker ≡ 0 →
    then_past (length w.tasks) s.then ≡ 0 → Grown w (steal_by n w s)
grows-more zero w s h a t =
    let u : Same w (stolen s.then w s.poll).world = same-stolen s.then w s.poll in
    let c = past-stolen (length w.tasks) s.poll a s.then w t in grind arith
grows-more (suc n) w s h a t = grind arith

grows-take_first : (from : Source) (q : List ℕ) (w : World) (x : RunPoll) (t : Then) (more : ℕ) → source_of w from ≡ q →
    Grows w (Op.Steal (StealOp.Take (record { poll = x; from = from; then = t }) more) ∷ [])
    (steal_take_by q w (record { poll = x; from = from; then = t }) more)
grows-take_first from [] w x t more e =
    grows-stolen w (Op.Steal (StealOp.Take (record { poll = x; from = from; then = t }) more) ∷ []) t x
    (λ k. omega (arith, k)) (λ k. omega (arith, k))
grows-take_first (Common mark) (f ∷ rest) w x t more e =
    grows-moves w (Op.Steal (StealOp.Take (record { poll = x; from = Common mark; then = t }) more) ∷ []) _
    (same-taken mark w)
    (λ h k. omega (arith, pasts-first (length w.tasks) f rest mark w.queues e, h.queue, k))
grows-take_first (Own r) (f ∷ rest) w x t more e =
    grows-moves w (Op.Steal (StealOp.Take (record { poll = x; from = (Own r); then = t }) more) ∷ []) _
    (same-here w _ _ _ _)
    (λ h k. omega (arith, pasts_in-first (length w.tasks) r f rest w.own e, h.own, k))

grows-put : (b : Bool) (p : ℕ) (w : World) (s : Steal) (more f : ℕ) →
    Grows w (Op.Steal (StealOp.Put s more f) ∷ []) (steal_put_by b p w s more f)
grows-put false p w s more f h k =
    grows-moves w (Op.Steal (StealOp.Put s more f) ∷ []) _ (moves-refused s.then w s.poll s.from more f).same
    (λ h k. past-refused (length w.tasks) s.poll (omega (arith, k)) s.then w f (omega (arith, k)) (omega (arith, k))) h k
grows-put true p w s more f h k =
    let v = kept_by p w s.poll.run f in
    let t : Shaped v = record { awaiting = h.awaiting; inside = h.inside } in
    let g : Grown v (steal_by more v s) = grows-more more v s t (omega (arith, k)) (omega (arith, k)) in
    record { fits = g.fits; next = g.next; more = g.more }

pub grows-steal : (p : ℕ) (o : StealOp) (w : World) → Grows w (Op.Steal o ∷ []) (steal_act p o w)
grows-steal p (StealOp.Length s) w = grows-length _ w s
grows-steal p (StealOp.OwnLength s n) w = λ h k.
    grows-more _ w s (shaped w h) (omega (arith, k)) (omega (arith, k))
grows-steal p (StealOp.Take s more) w = grows-take_first s.from _ w s.poll s.then more refl
grows-steal p (StealOp.Put s more f) w = grows-put _ p w s more f

grows-own : (q : List ℕ) (w : World) (s : Sleeping) (r : ℕ) → own_of w r ≡ q →
    Grows w (Op.Tick (TickOp.Search s) ∷ []) (search_own_by q w (record { run = r; waker = s.waker; poll = s.poll }))
grows-own [] w s r e = grows-moves w (Op.Tick (TickOp.Search s) ∷ []) _ (same-here w _ _ _ _) (λ h k. omega (arith, k))
grows-own (f ∷ rest) w s r e = grows-found w (put_own w r rest) (Op.Tick (TickOp.Search s) ∷ [])
    (record { run = r; waker = s.waker; poll = s.poll }) f
    (same-here w _ _ _ _) (λ k. omega (arith, k))
    (λ h. omega (arith, pasts_in-first (length w.tasks) r f rest w.own e, h.own))

pub grows-search_who : (who : TickOrRun) (p : ℕ) (w : World) (s : Sleeping) →
    Grows w (Op.Tick (TickOp.Search s) ∷ []) (search_by_who who p w s)
grows-search_who (TickOrRun.Tick t) p w s = λ h k. grind arith
grows-search_who (TickOrRun.Run r) p w s = grows-own _ w s r refl

grows-common : (look : Look) (q : List ℕ) (w : World) (x : RunPoll) → (queue_of w (mark_in look)).items ≡ q →
    Grows w (Op.Run (RunOp.SearchCommon x look) ∷ []) (search_common_by q w x look)
grows-common (First mark) [] w x e = grows-moves w (Op.Run (RunOp.SearchCommon x (First mark)) ∷ []) _
    (same-here w _ _ _ _) (λ h k. omega (arith, k))
grows-common (Second mark) [] w x e = grows-moves w (Op.Run (RunOp.SearchCommon x (Second mark)) ∷ []) _
    (same-here w _ _ _ _) (λ h k. omega (arith, k))
grows-common look (f ∷ rest) w x e = grows-moves w (Op.Run (RunOp.SearchCommon x look) ∷ []) _
    (same-taken (mark_in look) w)
    (λ h k. omega (arith, pasts-first (length w.tasks) f rest (mark_in look) w.queues e, h.queue, k))

grows-look : (q : List ℕ) (w : World) (x : RunPoll) (at left : ℕ) → own_of w x.run ≡ q →
    Grows w (Op.Run (RunOp.LookOwn x at left) ∷ []) (look_own_by q w x at left)
grows-look [] w x at left e h k = grows-moves w (Op.Run (RunOp.LookOwn x at left) ∷ []) _ (same-here w _ _ _ _)
    (λ h k. past-walk (length w.tasks) x (omega (arith, k)) w.listed at left) h k
grows-look (f ∷ rest) w x at left e h k =
    let g : Grown w (found (put_own w x.run rest) x f) = grows-found w (put_own w x.run rest)
    (Op.Run (RunOp.LookOwn x at left) ∷ []) x f (same-here w _ _ _ _)
    (λ k. omega (arith, k))
    (λ h. omega (arith, pasts_in-first (length w.tasks) x.run f rest w.own e, h.own)) h k in
    record { fits = g.fits; next = omega (arith, g.next); more = g.more }

grows-reschedule : (q : List ℕ) (w : World) (r : ℕ) (a : Reply) → own_of w r ≡ q →
    Grows w (Op.Run (RunOp.Reschedule r a) ∷ []) (reschedule_by q w r a)
grows-reschedule [] w r a e = grows-moves w (Op.Run (RunOp.Reschedule r a) ∷ []) _ (same-here w _ _ _ _)
    (λ h k. refl)
grows-reschedule (f ∷ rest) w r a e =
    grows-moves w (Op.Run (RunOp.Reschedule r a) ∷ []) _ (same-here w _ _ _ _)
    (λ h k. omega (arith, pasts_in-first (length w.tasks) r f rest w.own e, h.own, k))

grows-make : (b : Bool) (w : World) → Grows w (Op.List (ListOp.Write Section.MakeRun) ∷ []) (make_run_by b w)
grows-make true w = grows-moves w (Op.List (ListOp.Write Section.MakeRun) ∷ []) _ (same-here w _ _ _ _)
    (λ h k. refl)
grows-make false w = grows-moves w (Op.List (ListOp.Write Section.MakeRun) ∷ []) _ (same-here w _ _ _ _)
    (λ h k. refl)

grows-register : (t : Stage) (w : World) (x : RunPoll) → Grows w (Op.List (ListOp.Write (Section.Register x)) ∷ [])
    (done (registered t w x.run) (Op.List ListOp.UnlockWrite ∷ Op.User (UserOp.PollOwn x) ∷ []))
grows-register New w x = grows-moves w (Op.List (ListOp.Write (Section.Register x)) ∷ []) _ (same-here w _ _ _ _)
    (λ h k. omega (arith, k))
grows-register Listed w x = grows-moves w (Op.List (ListOp.Write (Section.Register x)) ∷ []) _ (same-here w _ _ _ _)
    (λ h k. omega (arith, k))
grows-register Ended w x = grows-moves w (Op.List (ListOp.Write (Section.Register x)) ∷ []) _ (same-here w _ _ _ _)
    (λ h k. omega (arith, k))

pub grows-list : (h : Hint) (o : ListOp) (w : World) → Grows w (Op.List o ∷ []) (list_act h o w)
grows-list c (ListOp.LockWrite s) w =
    grows-moves w (Op.List (ListOp.LockWrite s) ∷ []) _ (same-here w _ _ _ _) (λ h k. k)
grows-list c (ListOp.Write Section.MakeRun) w = grows-make c.refused w
grows-list c (ListOp.Write (Section.Register x)) w = grows-register _ w x
grows-list c (ListOp.Write (Section.Unregister r a)) w =
    grows-moves w (Op.List (ListOp.Write (Section.Unregister r a)) ∷ []) _ (same-here w _ _ _ _) (λ h k. refl)
grows-list c ListOp.UnlockWrite w = grows-moves w (Op.List ListOp.UnlockWrite ∷ []) _ (same-here w _ _ _ _)
    (λ h k. refl)
grows-list c (ListOp.LockRead x) w =
    grows-moves w (Op.List (ListOp.LockRead x) ∷ []) _ (same-here w _ _ _ _)
    (λ h k. past-walk (length w.tasks) x (omega (arith, k)) w.listed (c.start % length w.listed) (length w.listed))
grows-list c ListOp.UnlockRead w = grows-moves w (Op.List ListOp.UnlockRead ∷ []) _ (same-here w _ _ _ _)
    (λ h k. refl)

grows-room : (b : Bool) (w : World) → Grows w (Op.Run RunOp.MakeRoom ∷ []) (make_room_by b w)
grows-room true w = grows-moves w (Op.Run RunOp.MakeRoom ∷ []) _ (same-here w _ _ _ _) (λ h k. refl)
grows-room false w = grows-moves w (Op.Run RunOp.MakeRoom ∷ []) _ (same-rooms w _ refl) (λ h k. refl)

grows-wake_own : (p : ℕ) (a : Waker) (w v : World) (x : RunPoll) →
    v ≡ log w (Event.WakerCalled p (Polled.Run x.run) x.poll x.waker) →
    waker_past (length w.tasks) a ≡ 0 → Fits w →
    Grown w (done (call_by_reference p v a).world
    ((call_by_reference p v a).next ++ Op.End Reply.Pending (Hold.Run x.run) ∷ []))
grows-wake_own p (Outside y) w v x e z h =
    rw e (record {
      fits = fits-log true w (Event.WakerCalled p (Polled.Run x.run) x.poll x.waker) (shaped w h);
      next = refl;
      more = omega arith;
    })
grows-wake_own p (Task g) w v x e z h =
    let u = log w (Event.WakerCalled p (Polled.Run x.run) x.poll x.waker) in
    let b = not (moves.is_over (task w g)) in
    let k : Grown w (call_by_reference p u (Task g)) =
    grows-carried w (log_if b u (Event.Woken p g)) g (moves.wake_by_reference (task w g))
    (same-log b u (Event.Woken p g)) (fits-log b u (Event.Woken p g)
    (fits-log true w (Event.WakerCalled p (Polled.Run x.run) x.poll x.waker) (shaped w h))) z in
    rw e (record {
      fits = k.fits;
      next = omega (
        arith,
        k.next,
        weigh-append (past_of (length (call_by_reference p u (Task g)).world.tasks))
            (call_by_reference p u (Task g)).next (Op.End Reply.Pending (Hold.Run x.run) ∷ []),
      );
      more = k.more;
    })

pub grows-run : (p : ℕ) (h : Hint) (o : RunOp) (w : World) → Grows w (Op.Run o ∷ []) (run_act p h o w)
grows-run p c RunOp.MakeRoom w = grows-room c.refused w
grows-run p c RunOp.ReturnRoom w = grows-moves w (Op.Run RunOp.ReturnRoom ∷ []) _
    (same-rooms w _ (given_back-same w.sleepers)) (λ h k. refl)
grows-run p c (RunOp.TakeTurn x) w = λ h k. grind arith
grows-run p c (RunOp.SearchCommon x look) w = grows-common look _ w x refl
grows-run p c (RunOp.LookOwn x at left) w = grows-look _ w x at left refl
grows-run p c (RunOp.WakeOwn x) w = λ h k. grows-wake_own p x.waker w _ x refl (omega (arith, k)) h
grows-run p c (RunOp.Reschedule r a) w = grows-reschedule _ w r a refl
