-- For some_standing_is_called.
-- What a run does with the list of queues, with its own waker and with what is left in its queue, and how it is made.
use Rattle.std.proofs.Common.{◌≡◌, ◌≢◌, ◌∙◌, ℕ, zero, suc, ◌+◌, ◌==◌, ◌≤◌, List, [], ◌∷◌, ◌++◌, length, get_or, Bool, true}
use Rattle.std.proofs.Common.{false, cond, refl, sym, ap, subst, ⊎_elim, arith, length-append, get_or-set_other}
use Rattle.std.{proofs.lemmas.List.get_or_past, proofs.lemmas.Bool.Decides.nat_tests, specs.Prelude.not, specs.Prelude.nat_lt}
use Rattle.executor_laws.proofs.Types.{Move, Reply, Event, Hold, ListOp, Op, Polled, QueueOp, RunOp, RunPoll, Section}
use Rattle.executor_laws.proofs.Types.{TickOrRun, TickOp, UserOp, Waker, Task, Outside, Hint}
use Rattle.executor_model.specs.World.{World, Ticker, Left, Stage, New, Listed, Ended, Run, Done, done, log, new_run, no_run}
use Rattle.executor_model.specs.{World.own_of, World.put_own, World.put_run, World.run_of, SleepersAgree.sleeps}
use Rattle.executor_model.proofs.OwnQueues.OwnRooms.{made-length, same-own, shorter-first}
use Rattle.executor_model.proofs.Steps.SleepersLists.{given_back-same}
use Rattle.executor_model.proofs.OwnQueues.UsingWorlds.{count-set, is_over_stage}
use Rattle.executor_laws.proofs.Wakeups.Sitting.{IsOther, IsSame, cond-self, eq-self, is_it, lives_in, made_in, over_in}
use Rattle.executor_laws.proofs.Wakeups.StandsNothing.{nothing-both, nothing-end, nothing-leave, nothing-of, nothing-section}
use Rattle.executor_laws.proofs.Wakeups.StandsRuns.{Walks, calm-same, owned-less, stage-front, stage-own, stage-ready}
use Rattle.executor_laws.proofs.Wakeups.Sitting.{owned_in, place_in, self, who_cases}
use Rattle.executor_laws.proofs.Wakeups.StandsNothing.{nothing-left, nothing-woken, with-front}
use Rattle.executor_laws.proofs.Wakeups.StandsRuns.{stage-register, stage-search, stands-walks, view-calm, walks}
use Rattle.executor_laws.proofs.Wakeups.Beside.{Beside, beside-move, besides}
use Rattle.executor_laws.proofs.Wakeups.Listed.{sum, entry_of, kept_of, misplaced_of}
use Rattle.executor_laws.proofs.Wakeups.Stands.{Doing, KeepsStands, Mark, Stands, View, keeps-same, view, with_doing}
use Rattle.executor_laws.proofs.Wakeups.StandsOwn.{Goes, own-goes, own-made, own-over, own-scheduled, own-woken}
use Rattle.executor_laws.proofs.Wakeups.StandsSeats.{Seated, field-set, seated-and, seated-run, seated-same}
use Rattle.executor_laws.proofs.Wakeups.StandsWorlds.{HasSlept, entries-astray, misplaced-few, place_here, view-same}
use Rattle.executor_laws.proofs.Wakeups.Watched.{Watched, called_at, watched, watched-push}
use Rattle.executor_model.specs.ActsOfRuns as runs

-- the lock is taken or given back

pub stands-lock : (t : TickOrRun) (s : Section) (w : World) →
    KeepsStands t w (Op.List (ListOp.LockWrite s) ∷ []) (runs.lock_write w s)
stands-lock t s w = λ r m b h. h

-- a run is made

run-past : (rs : List Run) (x : Run) → get_or (rs ++ x ∷ []) (length rs) no_run ≡ x
run-past [] x = refl
run-past (y ∷ rs) x = run-past rs x

run-other : (rs : List Run) (x : Run) (r : ℕ) → r ≢ length rs → get_or (rs ++ x ∷ []) r no_run ≡ get_or rs r no_run
run-other [] x zero n = absurd (n refl)
run-other [] x (suc r) n = refl
run-other (y ∷ rs) x zero n = refl
run-other (y ∷ rs) x (suc r) n = run-other rs x r (λ q. n (ap suc q))

made-later : (r n : ℕ) → r ≢ n → nat_lt r (n + 1) ≡ nat_lt r n
made-later r n x = grind (arith, nat_tests)

made-now : (n : ℕ) → nat_lt n (n + 1) ≡ true
made-now n = grind (arith, nat_tests)

not-made : (n : ℕ) → nat_lt n n ≡ false
not-made n = grind (arith, nat_tests)

abbrev grown : World → World
grown w = record w { runs = w.runs ++ new_run ∷ []; own = w.own ++ [] ∷ [] }

seated-made : (t : TickOrRun) (w : World) → t ≢ TickOrRun.Run (length w.runs) → Seated t w (grown w)
seated-made (TickOrRun.Tick u) w n = record { place = refl; lives = refl; made = refl; over = refl }
seated-made (TickOrRun.Run r) w n =
    let k : r ≢ length w.runs = λ e. n (ap (λ (m : ℕ). TickOrRun.Run m) e) in
    let e : get_or (w.runs ++ new_run ∷ []) r no_run ≡ get_or w.runs r no_run = run-other w.runs new_run r k in record {
      place = ap (λ (x : Run). x.place) e;
      lives = ap (λ (x : Run). not x.dropped) e;
      made = ap (nat_lt r) (length-append w.runs (new_run ∷ [])) ∙ made-later r (length w.runs) k;
      over = ap (λ (x : Run). is_over_stage x.stage) e;
    }

owned-made : (t : TickOrRun) (w : World) → owned_in t (grown w).own ≡ owned_in t w.own
owned-made (TickOrRun.Tick u) w = refl
owned-made (TickOrRun.Run r) w = made-length w.own r

view-made : (t : TickOrRun) (w : World) → t ≢ TickOrRun.Run (length w.runs) → view t (grown w) ≡ view t w
view-made t w n =
    view-same t w (grown w) (seated-made t w n) refl (λ x. refl) (λ k. refl) (owned-made t w) refl refl

abbrev made_next : ℕ → List Op
made_next n = Op.List ListOp.UnlockWrite ∷ Op.End Reply.Made (Hold.Run n) ∷ []

none-owned : (v : View) (x : Doing) (m : Mark) → v.made ≡ false → v.living ≡ false → Stands v x m → v.owned ≡ 0
none-owned v x m e l h = by v.owned refl
  where
    by : (n : ℕ) → v.owned ≡ n → v.owned ≡ 0
    by zero q = q
    by (suc n) q = absurd (let no : ⊥ = grind arith in no)

made-own : (n : ℕ) (w : World) → HasSlept w → w.gone ≡ false → n ≡ length w.runs →
    sum (entry_of (TickOrRun.Run n)) w.sleepers.wakers ≤ 1 → owned_in (TickOrRun.Run n) w.own ≡ 0 →
    KeepsStands (TickOrRun.Run n) w (Op.List (ListOp.Write Section.MakeRun) ∷ []) (done (grown w) (made_next n))
made-own n w slept g q one empty =
    let t : TickOrRun = TickOrRun.Run n in
    let past : get_or w.runs n no_run ≡ no_run = get_or_past w.runs n no_run (omega (arith, q)) in
    let was : place_here w t ≡ Left = ap (λ (x : Run). x.place) past in
    let here : get_or (w.runs ++ new_run ∷ []) n no_run ≡ new_run =
    ap (λ (m : ℕ). get_or (w.runs ++ new_run ∷ []) m no_run) q ∙ run-past w.runs new_run in
    let none : sum (entry_of t) w.sleepers.wakers ≡ 0 = entries-astray t Left w.sleepers.wakers (λ m. refl)
    ∙ (ap (λ (y : Ticker). sum (misplaced_of t y) w.sleepers.wakers) (sym was) ∙ slept.placed t) in
    let uses : is_it t (TickOrRun.Run n) ≡ 1 = self t in
    own-made t (view t w) (view t (grown w)) (Op.List (ListOp.Write Section.MakeRun) ∷ []) (made_next n) refl g g
    (ap (λ (m : ℕ). nat_lt m (length w.runs)) q ∙ not-made (length w.runs))
    (ap (λ (x : Run). not x.dropped) past)
    (ap (nat_lt n) (length-append w.runs (new_run ∷ []))
    ∙ (ap (λ (m : ℕ). nat_lt m (length w.runs + 1)) q ∙ made-now (length w.runs)))
    (ap (λ (x : Run). is_over_stage x.stage) here)
    (owned-made t w ∙ empty)
    (ap (λ (x : Run). not x.dropped) here)
    (ap (λ (x : Run). sleeps x.place) here)
    one
    (omega (arith, misplaced-few t (place_here (grown w) t) w.sleepers.wakers, none))
    refl (nothing-of t _ refl) (omega (arith, uses)) refl refl refl refl refl refl refl refl (λ k. refl) (λ k. refl)

pub stands-make_run : (b : Bool) (t : TickOrRun) (w : World) → HasSlept w → w.gone ≡ false →
    KeepsStands t w (Op.List (ListOp.Write Section.MakeRun) ∷ []) (runs.make_run_by b w)
stands-make_run true t w slept g =
    keeps-same t w (Op.List (ListOp.Write Section.MakeRun) ∷ []) (runs.make_run_by true w) refl (nothing-of t _ refl)
    (nothing-of t _ refl)
stands-make_run false t w slept g = ⊎_elim
    (λ (x : IsSame t (TickOrRun.Run (length w.runs))). subst
    (λ (u : TickOrRun). KeepsStands u w (Op.List (ListOp.Write Section.MakeRun) ∷ []) (runs.make_run_by false w))
    (sym x.2)
    (λ r m b h. made-own (length w.runs) w slept g refl h.one
    (none-owned (view (TickOrRun.Run (length w.runs)) w) _ m (not-made (length w.runs))
    (ap (λ (y : Run). not y.dropped) (get_or_past w.runs (length w.runs) no_run (omega arith))) h) r m b h))
    (λ (x : IsOther t (TickOrRun.Run (length w.runs))). keeps-same t w (Op.List (ListOp.Write Section.MakeRun) ∷ [])
    (runs.make_run_by false w) (view-made t w x.2) (nothing-of t _ refl)
    (nothing-both t (Op.List ListOp.UnlockWrite ∷ []) (Op.End Reply.Made (Hold.Run (length w.runs)) ∷ [])
    (nothing-of t _ refl) (nothing-end t Reply.Made (Hold.Run (length w.runs)) x.0)))
    (who_cases t (TickOrRun.Run (length w.runs)))

pub stands-room : (b : Bool) (t : TickOrRun) (w : World) →
    KeepsStands t w (Op.Run RunOp.MakeRoom ∷ []) (runs.make_room_by b w)
stands-room true t w = keeps-same t w (Op.Run RunOp.MakeRoom ∷ []) (runs.make_room_by true w) refl
    (nothing-of t _ refl) (nothing-of t _ refl)
stands-room false t w = keeps-same t w (Op.Run RunOp.MakeRoom ∷ []) (runs.make_room_by false w) refl
    (nothing-of t _ refl) (nothing-of t _ refl)

pub stands-return : (t : TickOrRun) (w : World) → KeepsStands t w (Op.Run RunOp.ReturnRoom ∷ []) (runs.return_room w)
stands-return t w = keeps-same t w (Op.Run RunOp.ReturnRoom ∷ []) (runs.return_room w)
    (view-calm t w (runs.return_room w).world
    (calm-same w (runs.return_room w).world refl refl (given_back-same w.sleepers) refl refl))
    (nothing-of t _ refl) (nothing-of t _ refl)

-- its queue comes into the list

pub walks-registered : (s : Stage) (w : World) (x : RunPoll) → (run_of w x.run).stage ≡ s →
    Walks w x (done (runs.registered s w x.run)
    (Op.List ListOp.UnlockWrite ∷ Op.User (UserOp.PollOwn x) ∷ []))
walks-registered New w x e =
    let v : World = put_run w x.run (record (run_of w x.run) { stage = Listed }) in
    let u : World = runs.registered New w x.run in
    walks w x (done u (Op.List ListOp.UnlockWrite ∷ Op.User (UserOp.PollOwn x) ∷ []))
    (λ t. stage-front t x (Op.List ListOp.UnlockWrite ∷ [])
    (Op.User (UserOp.PollOwn x) ∷ []) (nothing-of t _ refl) (stage-own t x))
    (record {
      seated = λ t. seated-and t w v u (seated-run t w x.run (record (run_of w x.run) { stage = Listed }) refl refl
          (sym (ap is_over_stage e))) (seated-same t v u refl refl);
      wakers = refl;
      gone = refl;
      seen = λ t. refl;
    }) (same-own w u refl)
walks-registered Listed w x e =
    walks w x (done w (Op.List ListOp.UnlockWrite ∷ Op.User (UserOp.PollOwn x) ∷ []))
    (λ t. stage-front t x (Op.List ListOp.UnlockWrite ∷ [])
    (Op.User (UserOp.PollOwn x) ∷ []) (nothing-of t _ refl) (stage-own t x))
    (calm-same w w refl refl refl refl refl) (same-own w w refl)
walks-registered Ended w x e =
    walks w x (done w (Op.List ListOp.UnlockWrite ∷ Op.User (UserOp.PollOwn x) ∷ []))
    (λ t. stage-front t x (Op.List ListOp.UnlockWrite ∷ [])
    (Op.User (UserOp.PollOwn x) ∷ []) (nothing-of t _ refl) (stage-own t x))
    (calm-same w w refl refl refl refl refl) (same-own w w refl)

pub stands-register : (t : TickOrRun) (w : World) (x : RunPoll) (h : Hint) →
    KeepsStands t w (Op.List (ListOp.Write (Section.Register x)) ∷ []) (runs.write h (Section.Register x) w)
stands-register t w x h =
    stands-walks t w x (Op.List (ListOp.Write (Section.Register x)) ∷ []) (runs.write h (Section.Register x) w)
    (stage-register t x) refl (λ k. omega arith) (walks-registered _ w x refl)

-- its queue goes from the list

goes-unregister : (t : TickOrRun) (q : ℕ) (a : Reply) →
    Goes t (Op.List (ListOp.Write (Section.Unregister q a)) ∷ [])
    (Op.List ListOp.UnlockWrite ∷ Op.Run (RunOp.Reschedule q a) ∷ [])
goes-unregister t q a = record {
  used = omega arith;
  early = omega arith;
  pends = refl;
  refused = refl;
  found = refl;
  ends = refl;
  drops = refl;
  odd = omega arith;
  strays = λ k. omega arith;
  calls = λ k. refl;
  waking_up = omega arith;
  wakes_up = λ z. absurd (omega (arith, z));
}

view-over : (t : TickOrRun) (w : World) (q : ℕ) →
    view t (runs.unregistered w q) ≡ record (view t w) { over = over_in t (runs.unregistered w q).runs }
view-over t w q = λ i. record {
  slumbering = sleeps (placed t i);
  living = lived t i;
  made = made t i;
  over = over_in t (runs.unregistered w q).runs;
  entries = sum (entry_of t) w.sleepers.wakers;
  misplaced = sum (misplaced_of t (placed t i)) w.sleepers.wakers;
  kept = λ k. sum (kept_of t k) w.sleepers.wakers;
  owned = owned_in t w.own;
  gone = w.gone;
  seen = watched t w.trace;
}
  where
    y : Run
    y = record (run_of w q) { stage = Ended }

    placed : (u : TickOrRun) → place_in u w.ticks (put_run w q y).runs ≡ place_in u w.ticks w.runs
    placed (TickOrRun.Tick n) = refl
    placed (TickOrRun.Run r) = field-set (λ (x : Run). x.place) w.runs q y refl r

    lived : (u : TickOrRun) → lives_in u w.ticks (put_run w q y).runs ≡ lives_in u w.ticks w.runs
    lived (TickOrRun.Tick n) = refl
    lived (TickOrRun.Run r) = ap (λ (d : Bool). not d) (field-set (λ (x : Run). x.dropped) w.runs q y refl r)

    made : (u : TickOrRun) → made_in u w.ticks (put_run w q y).runs ≡ made_in u w.ticks w.runs
    made (TickOrRun.Tick n) = refl
    made (TickOrRun.Run r) = ap (nat_lt r) (count-set w.runs q y)

over-other : (t : TickOrRun) (w : World) (q : ℕ) → t ≢ TickOrRun.Run q →
    over_in t (runs.unregistered w q).runs ≡ over_in t w.runs
over-other (TickOrRun.Tick n) w q x = refl
over-other (TickOrRun.Run r) w q x = ap (λ (y : Run). is_over_stage y.stage)
    (get_or-set_other w.runs q r (record (run_of w q) { stage = Ended }) no_run
    (λ e. x (ap (λ (n : ℕ). TickOrRun.Run n) e)))

pub stands-unregister : (t : TickOrRun) (w : World) (q : ℕ) (a : Reply) (h : Hint) →
    KeepsStands t w (Op.List (ListOp.Write (Section.Unregister q a)) ∷ []) (runs.write h (Section.Unregister q a) w)
stands-unregister t w q a h = ⊎_elim
    (λ (x : IsSame t (TickOrRun.Run q)) r m b k.
    subst (λ (v : View). Stands v (with_doing t (Op.List ListOp.UnlockWrite ∷ Op.Run
    (RunOp.Reschedule q a) ∷ []) r) m)
    (sym (view-over t w q))
    (own-over t (view t w) (over_in t (runs.unregistered w q).runs)
    (Op.List (ListOp.Write (Section.Unregister q a)) ∷ [])
    (Op.List ListOp.UnlockWrite ∷ Op.Run (RunOp.Reschedule q a) ∷ []) (goes-unregister t q a) (omega (arith, x.0))
    refl refl r m b k))
    (λ (x : IsOther t (TickOrRun.Run q)). keeps-same t w _ (runs.write h (Section.Unregister q a) w)
    (view-over t w q ∙ ap (λ (c : Bool). let v : View = record (view t w) { over = c } in v) (over-other t w q x.2))
    (nothing-section t q a x.2)
    (nothing-both t (Op.List ListOp.UnlockWrite ∷ []) (Op.Run (RunOp.Reschedule q a) ∷ []) (nothing-of t _ refl)
    (nothing-left t q a x.2)))
    (who_cases t (TickOrRun.Run q))

-- what is left in its queue is scheduled

goes-reschedule : (t : TickOrRun) (q f : ℕ) (a : Reply) →
    Goes t (Op.Run (RunOp.Reschedule q a) ∷ []) (Op.Queue (QueueOp.Append f) ∷ Op.Run (RunOp.Reschedule q a) ∷ [])
goes-reschedule t q f a = record {
  used = omega arith;
  early = omega arith;
  pends = refl;
  refused = refl;
  found = refl;
  ends = refl;
  drops = refl;
  odd = omega arith;
  strays = λ k. omega arith;
  calls = λ k. refl;
  waking_up = omega arith;
  wakes_up = λ z. absurd (omega (arith, z));
}

scheduled : (ys : List ℕ) (t : TickOrRun) (w : World) (q : ℕ) (a : Reply) → own_of w q ≡ ys →
    KeepsStands t w (Op.Run (RunOp.Reschedule q a) ∷ []) (runs.reschedule_by ys w q a)
scheduled [] t w q a e = ⊎_elim
    (λ (x : IsSame t (TickOrRun.Run q)). subst (λ (u : TickOrRun). KeepsStands u w (Op.Run (RunOp.Reschedule q a) ∷ [])
    (runs.reschedule_by [] w q a)) (sym x.2)
    (λ r m b h. own-scheduled a q (view (TickOrRun.Run q) w) r m (ap (λ (zs : List ℕ). length zs) e) b h))
    (λ (x : IsOther t (TickOrRun.Run q)). keeps-same t w _ (runs.reschedule_by [] w q a) refl (nothing-left t q a x.2)
    (nothing-both t (Op.Tick (TickOp.Leave (TickOrRun.Run q)) ∷ []) (Op.End a (Hold.Run q) ∷ [])
    (nothing-leave t (TickOrRun.Run q) x.2) (nothing-end t a (Hold.Run q) x.0)))
    (who_cases t (TickOrRun.Run q))
scheduled (f ∷ rest) t w q a e = λ r m b h.
    subst (λ (v : View). Stands v (with_doing t (Op.Queue (QueueOp.Append f) ∷ Op.Run
    (RunOp.Reschedule q a) ∷ []) r) m)
    (sym (view-calm t w (put_own w q rest) (calm-same w (put_own w q rest) refl refl refl refl refl)))
    (own-goes t (owned_in t (put_own w q rest).own) (view t w) (Op.Run (RunOp.Reschedule q a) ∷ [])
    (Op.Queue (QueueOp.Append f) ∷ Op.Run (RunOp.Reschedule q a) ∷ []) (goes-reschedule t q f a)
    (owned-less w (put_own w q rest) (shorter-first w q f rest e) t _) r m b h)

pub stands-reschedule : (t : TickOrRun) (w : World) (q : ℕ) (a : Reply) →
    KeepsStands t w (Op.Run (RunOp.Reschedule q a) ∷ []) (runs.reschedule w q a)
stands-reschedule t w q a = scheduled _ t w q a refl

-- it calls its own waker

abbrev told : ℕ → World → RunPoll → World
told p w x = log w (Event.WakerCalled p (Polled.Run x.run) x.poll x.waker)

woken-own : (p : ℕ) (w : World) (x : RunPoll) → is_over_stage (run_of w x.run).stage ≡ false →
    KeepsStands (TickOrRun.Run x.run) w (Op.Run (RunOp.WakeOwn x) ∷ [])
    (done (told p w x) (Op.End Reply.Pending (Hold.Run x.run) ∷ []))
woken-own p w x live r m b h =
    let t : TickOrRun = TickOrRun.Run x.run in
    let uses : is_it t (TickOrRun.Run x.run) ≡ 1 = self t in
    let now : watched t (told p w x).trace ≡ called_at x.poll (watched t w.trace) =
    watched-push t w.trace (Event.WakerCalled p (Polled.Run x.run) x.poll x.waker)
    ∙ ap (λ (c : Bool). cond c (called_at x.poll (watched t w.trace)) (watched t w.trace)) (eq-self t) in
    subst (λ (s : Watched). Stands (record (view t w) { seen = s })
    (with_doing t (Op.End Reply.Pending (Hold.Run x.run) ∷ []) r) m) (sym now)
    (own-woken t x.poll (view t w) (Op.Run (RunOp.WakeOwn x) ∷ []) (Op.End Reply.Pending (Hold.Run x.run) ∷ []) live
    (omega (arith, uses)) (omega (arith, uses))
    (omega (arith, cond-self t (cond ((watched t w.trace).poll == x.poll) 0 1)))
    (omega (arith, uses)) (omega (arith, uses)) refl refl refl refl refl refl refl (λ j. refl) (λ j. refl) (λ j. refl)
    r m b h)

woken : (t : TickOrRun) (p : ℕ) (w : World) (x : RunPoll) → is_over_stage (run_of w x.run).stage ≡ false →
    KeepsStands t w (Op.Run (RunOp.WakeOwn x) ∷ []) (done (told p w x) (Op.End Reply.Pending (Hold.Run x.run) ∷ []))
woken t p w x live = ⊎_elim
    (λ (y : IsSame t (TickOrRun.Run x.run)). subst (λ (u : TickOrRun). KeepsStands u w (Op.Run (RunOp.WakeOwn x) ∷ [])
    (done (told p w x) (Op.End Reply.Pending (Hold.Run x.run) ∷ []))) (sym y.2) (woken-own p w x live))
    (λ (y : IsOther t (TickOrRun.Run x.run)). keeps-same t w _
    (done (told p w x) (Op.End Reply.Pending (Hold.Run x.run) ∷ []))
    (ap (λ (s : Watched). let v : View = record (view t w) { seen = s } in v)
    (watched-push t w.trace (Event.WakerCalled p (Polled.Run x.run) x.poll x.waker)
    ∙ ap (λ (c : Bool). cond c (called_at x.poll (watched t w.trace)) (watched t w.trace)) y.1))
    (nothing-woken t x y.2)
    (nothing-end t Reply.Pending (Hold.Run x.run) y.0))
    (who_cases t (TickOrRun.Run x.run))

pub beside-reference : (p : ℕ) (w : World) (a : Waker) → Beside w (runs.call_by_reference p w a)
beside-reference p w (Task g) = beside-move true Move.WakeByReference p w w g (λ t. refl)
beside-reference p w (Outside y) = besides w _ (λ t. refl) refl

pub stands-wake_own : (t : TickOrRun) (p : ℕ) (w : World) (x : RunPoll) →
    is_over_stage (run_of w x.run).stage ≡ false →
    KeepsStands t w (Op.Run (RunOp.WakeOwn x) ∷ []) (runs.wake_own p w x)
stands-wake_own t p w x live r m b h =
    let d : Done = runs.call_by_reference p (told p w x) x.waker in
    let k : Beside (told p w x) d = beside-reference p (told p w x) x.waker in
    subst (λ (y : View × Doing). Stands y.0 y.1 m) (λ i. (
      sym (k.view t) i,
      sym (with-front t d.next (Op.End Reply.Pending (Hold.Run x.run) ∷ []) r (nothing-of t d.next k.none)) i,
    )) (woken t p w x live r m b h)

-- its own future has answered

pub stands-pending : (t : TickOrRun) (w : World) (x : RunPoll) →
    KeepsStands t w (Op.User (UserOp.PollOwn x) ∷ []) (done w (Op.Tick (TickOp.Search (runs.asleep x)) ∷ []))
stands-pending t w x =
    stands-walks t w x (Op.User (UserOp.PollOwn x) ∷ []) (done w (Op.Tick (TickOp.Search (runs.asleep x)) ∷ []))
    (stage-own t x) refl (λ k. omega arith)
    (walks w x (done w (Op.Tick (TickOp.Search (runs.asleep x)) ∷ [])) (λ u. stage-search u x)
    (calm-same w w refl refl refl refl refl) (same-own w w refl))

pub stands-ready : (t : TickOrRun) (w : World) (x : RunPoll) →
    KeepsStands t w (Op.User (UserOp.PollOwn x) ∷ []) (done w
    (Op.User (UserOp.DropOwn x.run) ∷ Op.List (ListOp.LockWrite (Section.Unregister x.run Reply.Ready)) ∷ []))
stands-ready t w x =
    let d : Done = done w
    (Op.User (UserOp.DropOwn x.run) ∷ Op.List (ListOp.LockWrite (Section.Unregister x.run Reply.Ready)) ∷ []) in
    stands-walks t w x (Op.User (UserOp.PollOwn x) ∷ []) d
    (stage-own t x) refl (λ k. omega arith)
    (walks w x d (λ u. stage-ready u x) (calm-same w w refl refl refl refl refl) (same-own w w refl))
