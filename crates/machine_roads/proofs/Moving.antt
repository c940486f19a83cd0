-- The moves of a task are changes of the plain scheduler's task: by cases of its marks.
use Rattle.std.proofs.Common.{◌≡◌, ℕ, ◌+◌, ◌-◌, ◌<◌, ◌≤◌, ◌==◌, Bool, true, false, ◌&&◌, ◌||◌, ◌≢◌, not, refl, sym, ap, subst}
use Rattle.std.proofs.Common.{◌∙◌, arith}
use Rattle.std.proofs.lemmas.Bool.Decides.{nat_tests}
use Rattle.std.specs.Prelude.{Option, None, is_some, if◌then◌else◌}
use Rattle.task_moves.specs.declared.moves.state.State.{State}
use Rattle.task_moves.specs.AbstractTask as abstract
use Rattle.task_moves.specs.LocalTask.{info_of, token, told}
use Rattle.task_moves.specs.Moves as moves
use Rattle.executor_model.specs.declared.op.Waker.{Waker}
use Rattle.machine_roads.specs.View.{view}
use Rattle.machine_roads.specs.Moving.{IsMove, WakesAlike, CopiesAlike, ReleasesAlike, CancelsAlike, DetachesAlike, cancelled}

-- a task in a state of these marks, and this count
abbrev pub state : (scheduled running completed closed handle awaiter registering notifying : Bool) → ℕ → State
state s r c x h a g n k =
    record {
      scheduled = s;
      running = r;
      completed = c;
      closed = x;
      handle = h;
      awaiter = a;
      registering = g;
      notifying = n;
      references = k;
    }

one_less : (k : ℕ) → k + 1 - 1 ≡ k - 0
one_less k = omega arith

module _ (w : Option Waker) where
  wakes_by : (c x s r h a g n : Bool) (k : ℕ) → WakesAlike (state s r c x h a g n k) w
  wakes_by true true s r h a g n k = (record { task = refl; queues = refl }, record { task = refl; queues = refl })
  wakes_by true false s r h a g n k = (record { task = refl; queues = refl }, record { task = refl; queues = refl })
  wakes_by false true s r h a g n k = (record { task = refl; queues = refl }, record { task = refl; queues = refl })
  wakes_by false false true true h a g n k = (record { task = refl; queues = refl }, record { task = refl; queues = refl })
  wakes_by false false true false h a g n k = (record { task = refl; queues = refl }, record { task = refl; queues = refl })
  wakes_by false false false true h a g n k = (record { task = refl; queues = refl }, record { task = refl; queues = refl })
  wakes_by false false false false h a g n k =
      let t = view (state true false false false h a g n (k + 1)) w in
      let same = ap (λ m. record t { wakers = m }) (one_less k) in
      (record { task = same; queues = refl }, record { task = same; queues = refl })

pub wakes_alike : (s : State) (w : Option Waker) → WakesAlike s w
wakes_alike s w =
    wakes_by w s.completed s.closed s.scheduled s.running s.handle s.awaiter s.registering s.notifying s.references

pub copies_alike : (s : State) (w : Option Waker) → CopiesAlike s w
copies_alike s w few =
    ap (λ n. record (view s w) { wakers = n }) (more s.references (token s) few)
  where
    more : (k t : ℕ) → t ≤ k → k + 1 - t ≡ k - t + 1
    more k t few = omega (arith, few)

none_left : (k : ℕ) → (k == 1) ≡ true → k - 0 - 1 ≡ 0
none_left k is = omega (arith, one k is)
  where
    one : (k : ℕ) → (k == 1) ≡ true → k ≡ 1
    one k is = grind (arith, nat_tests)

none_test : (k : ℕ) → (k == 1) ≡ true → (k - 0 - 1 == 0) ≡ true
none_test k is = ap (λ n. n == 0) (none_left k is)

some_test : (k : ℕ) → 0 < k → (k == 1) ≡ false → (k - 0 - 1 == 0) ≡ false
some_test k some is = by k some (apart k is)
  where
    apart : (k : ℕ) → (k == 1) ≡ false → k ≢ 1
    apart k is = grind (arith, nat_tests)

    test : (n : ℕ) → 0 < n → (n == 0) ≡ false
    test n is = grind (arith, nat_tests)

    by : (k : ℕ) → 0 < k → k ≢ 1 → (k - 0 - 1 == 0) ≡ false
    by k some other = test (k - 0 - 1) (omega (arith, some, other))

more_than_one : (k : ℕ) → 1 < k → (k == 1) ≡ false
more_than_one k is = grind (arith, nat_tests)

same_less : (k : ℕ) → k - 1 - 0 ≡ k - 0 - 1
same_less k = omega arith

module _ (w : Option Waker) where
  -- whether the last reference goes, by a test of their number
  abbrev Releases : State → Bool → Type 0
  Releases st last =
      IsMove (moves.release_by (last && not st.handle) (moves.is_over st) st) st w (abstract.release (view st w))

  -- a Runnable, a run or a closing call has one too
  going_by : (c r x h a g n : Bool) (k : ℕ) → Releases (state true r c x h a g n k) false
  going_by true true x h a g n k = record { task = refl; queues = refl }
  going_by true false x h a g n k = record { task = refl; queues = refl }
  going_by false true x h a g n k = record { task = refl; queues = refl }
  going_by false false x h a g n k = record { task = refl; queues = refl }

  running_by : (c x h a g n : Bool) (k : ℕ) → Releases (state false true c x h a g n k) false
  running_by true x h a g n k = record { task = refl; queues = refl }
  running_by false x h a g n k = record { task = refl; queues = refl }

  -- none has, and the task is over
  over_by : (c x h a g n : Bool) (k : ℕ) → (c || x) ≡ true → (e : Bool) → (k == 1) ≡ e
      → Releases (state false false c x h a g n k) e
  over_by true x true a g n k over true is =
      record { task = ap (λ m. record (view (state false false true x true a g n k) w) { wakers = m }) (same_less k); queues = refl }
  over_by true x false a g n k over true is =
      record {
        task =
            ap (λ m. record (view (state false false true x false a g n k) w) { wakers = m })
            (sym (none_left k is));
        queues = refl;
      }
  over_by true x h a g n k over false is =
      record { task = ap (λ m. record (view (state false false true x h a g n k) w) { wakers = m }) (same_less k); queues = refl }
  over_by false true true a g n k over true is =
      record { task = ap (λ m. record (view (state false false false true true a g n k) w) { wakers = m }) (same_less k); queues = refl }
  over_by false true false a g n k over true is =
      record {
        task =
            ap (λ m. record (view (state false false false true false a g n k) w) { wakers = m })
            (sym (none_left k is));
        queues = refl;
      }
  over_by false true h a g n k over false is =
      record { task = ap (λ m. record (view (state false false false true h a g n k) w) { wakers = m }) (same_less k); queues = refl }
  over_by false false h a g n k over e is = absurd cc

  -- it is open, and waits for a wake
  idle_by : (h a g n : Bool) (k : ℕ) → 0 < k → (e : Bool) → (k == 1) ≡ e → Releases (state false false false false h a g n k) e
  idle_by true a g n k some true is =
      record { task = ap (λ m. record (view (state false false false false true a g n k) w) { wakers = m }) (same_less k); queues = refl }
  idle_by true a g n k some false is =
      record { task = ap (λ m. record (view (state false false false false true a g n k) w) { wakers = m }) (same_less k); queues = refl }
  idle_by false a g n k some true is =
      let t = view (state false false false false false a g n k) w in
      let u = record t { wakers = k - 0 - 1 } in
      record {
        task =
            ap (λ m. record t { phase = abstract.Phase.Queued; closed = true; wakers = m }) (sym (none_left k is))
            ∙ sym (ap (λ b. told (if b then abstract.close u else u)) (none_test k is));
        queues = sym (ap (λ b. is_some (info_of t (if b then abstract.close u else u))) (none_test k is));
      }
  idle_by false a g n k some false is =
      let t = view (state false false false false false a g n k) w in
      let u = record t { wakers = k - 0 - 1 } in
      record {
        task =
            ap (λ m. record t { wakers = m }) (same_less k)
            ∙ sym (ap (λ b. told (if b then abstract.close u else u)) (some_test k some is));
        queues = sym (ap (λ b. is_some (info_of t (if b then abstract.close u else u))) (some_test k some is));
      }

  releases_by : (s r c x h a g n : Bool) (k : ℕ) → ReleasesAlike (state s r c x h a g n k) w
  releases_by true r c x h a g n k held =
      subst (Releases (state true r c x h a g n k)) (sym (more_than_one k held)) (going_by c r x h a g n k)
  releases_by false true c x h a g n k held =
      subst (Releases (state false true c x h a g n k)) (sym (more_than_one k held)) (running_by c x h a g n k)
  releases_by false false true x h a g n k held = over_by true x h a g n k refl (k == 1) refl
  releases_by false false false true h a g n k held = over_by false true h a g n k refl (k == 1) refl
  releases_by false false false false h a g n k held = idle_by h a g n k held (k == 1) refl

  cancels_by : (c x s r h a g n : Bool) (k : ℕ) → CancelsAlike (state s r c x h a g n k) w
  cancels_by true true s r h a g n k = record { is = record { task = refl; queues = refl }; notifies = refl; calls = refl }
  cancels_by true false s r h a g n k = record { is = record { task = refl; queues = refl }; notifies = refl; calls = refl }
  cancels_by false true s r h a g n k = record { is = record { task = refl; queues = refl }; notifies = refl; calls = refl }
  cancels_by false false true true h a g n k = record { is = record { task = refl; queues = refl }; notifies = refl; calls = refl }
  cancels_by false false true false h a g n k = record { is = record { task = refl; queues = refl }; notifies = refl; calls = refl }
  cancels_by false false false true h a g n k = record { is = record { task = refl; queues = refl }; notifies = refl; calls = refl }
  cancels_by false false false false h a g n k =
      let t = view (state true false false true h a g n (k + 1)) w in
      record {
        is = record { task = ap (λ m. record t { wakers = m }) (one_less k); queues = refl };
        notifies = refl;
        calls = refl;
      }

pub releases_alike : (s : State) (w : Option Waker) → ReleasesAlike s w
releases_alike s w =
    releases_by w s.scheduled s.running s.completed s.closed s.handle s.awaiter s.registering s.notifying s.references

pub cancels_alike : (s : State) (w : Option Waker) → CancelsAlike s w
cancels_alike s w =
    cancels_by w s.completed s.closed s.scheduled s.running s.handle s.awaiter s.registering s.notifying s.references

module _ (w : Option Waker) where
  -- a cancel of a task that is over changes nothing, and any other takes the awaiter out
  cancels_over_by : (c x s r h a g n : Bool) (k : ℕ) → (c || x) ≡ true
      → (abstract.cancel (view (state s r c x h a g n k) w)).task ≡ cancelled (view (state s r c x h a g n k) w)
  cancels_over_by true true s r h a g n k is = refl
  cancels_over_by true false s r h a g n k is = refl
  cancels_over_by false true s r h a g n k is = refl
  cancels_over_by false false s r h a g n k is = absurd cc

  cancels_open_by : (c x s r h a g n : Bool) (k : ℕ) → (c || x) ≡ false
      → (abstract.cancel (view (state s r c x h a g n k) w)).task
      ≡ record (cancelled (view (state s r c x h a g n k) w)) { awaiter = None }
  cancels_open_by true x s r h a g n k is = absurd cc
  cancels_open_by false true s r h a g n k is = absurd cc
  cancels_open_by false false true true h a g n k is = refl
  cancels_open_by false false true false h a g n k is = refl
  cancels_open_by false false false true h a g n k is = refl
  cancels_open_by false false false false h a g n k is = refl

  cancels_queued_by : (c x s r h a g n : Bool) (k : ℕ)
      → is_some (info_of (view (state s r c x h a g n k) w) (cancelled (view (state s r c x h a g n k) w))) ≡ true
      → (cancelled (view (state s r c x h a g n k) w)).phase ≡ abstract.Phase.Queued
  cancels_queued_by true true s r h a g n k is = absurd cc
  cancels_queued_by true false s r h a g n k is = absurd cc
  cancels_queued_by false true s r h a g n k is = absurd cc
  cancels_queued_by false false true true h a g n k is = absurd cc
  cancels_queued_by false false true false h a g n k is = refl
  cancels_queued_by false false false true h a g n k is = absurd cc
  cancels_queued_by false false false false h a g n k is = refl

pub cancels_over : (s : State) (w : Option Waker) → moves.is_over s ≡ true
    → (abstract.cancel (view s w)).task ≡ cancelled (view s w)
cancels_over s w is =
    cancels_over_by w s.completed s.closed s.scheduled s.running s.handle s.awaiter s.registering s.notifying s.references is

pub cancels_open : (s : State) (w : Option Waker) → moves.is_over s ≡ false
    → (abstract.cancel (view s w)).task ≡ record (cancelled (view s w)) { awaiter = None }
cancels_open s w is =
    cancels_open_by w s.completed s.closed s.scheduled s.running s.handle s.awaiter s.registering s.notifying s.references is

pub cancels_queued : (s : State) (w : Option Waker) → is_some (info_of (view s w) (cancelled (view s w))) ≡ true
    → (cancelled (view s w)).phase ≡ abstract.Phase.Queued
cancels_queued s w is =
    cancels_queued_by w s.completed s.closed s.scheduled s.running s.handle s.awaiter s.registering s.notifying s.references is

no_test : (k : ℕ) → 1 ≤ k → (k == 0) ≡ false
no_test k is = grind (arith, nat_tests)

zero_is : (k : ℕ) → (k == 0) ≡ true → k ≡ 0
zero_is k is = grind (arith, nat_tests)

zero_test : (k : ℕ) (e : Bool) → (k == 0) ≡ e → (k - 0 == 0) ≡ e
zero_test k e is = ap (λ n. n == 0) (same k) ∙ is
  where
    same : (k : ℕ) → k - 0 ≡ k
    same k = omega arith

module _ (w : Option Waker) where
  -- whether the task is forgotten, by a test of its references
  abbrev Detaches : State → Bool → Type 0
  Detaches st none =
      IsMove (moves.detach_by false (none && not st.closed) st) st w (abstract.detach (view st w)).task

  over_goes : (c s r h a g n : Bool) (k : ℕ) (e : Bool) → Detaches (state s r c true h a g n k) e
  over_goes true s r h a g n k true = record { task = refl; queues = refl }
  over_goes true s r h a g n k false = record { task = refl; queues = refl }
  over_goes false true true h a g n k true = record { task = refl; queues = refl }
  over_goes false true true h a g n k false = record { task = refl; queues = refl }
  over_goes false true false h a g n k true = record { task = refl; queues = refl }
  over_goes false true false h a g n k false = record { task = refl; queues = refl }
  over_goes false false true h a g n k true = record { task = refl; queues = refl }
  over_goes false false true h a g n k false = record { task = refl; queues = refl }
  over_goes false false false h a g n k true = record { task = refl; queues = refl }
  over_goes false false false h a g n k false = record { task = refl; queues = refl }

  idle_goes : (h a g n : Bool) (k : ℕ) (e : Bool) → (k == 0) ≡ e → Detaches (state false false false false h a g n k) e
  idle_goes h a g n k true is =
      let t = view (state false false false false h a g n k) w in
      let u = record t { handle = false } in
      record {
        task =
            ap (λ m. record t { phase = abstract.Phase.Queued; closed = true; handle = false; wakers = m }) (none_at k is)
            ∙ sym (ap (λ b. told (if b then abstract.close u else u)) (zero_test k true is));
        queues = sym (ap (λ b. is_some (info_of t (if b then abstract.close u else u))) (zero_test k true is));
      }
    where
      none_at : (k : ℕ) → (k == 0) ≡ true → 1 - 1 ≡ k - 0
      none_at k is = omega (arith, zero_is k is)
  idle_goes h a g n k false is =
      let t = view (state false false false false h a g n k) w in
      let u = record t { handle = false } in
      record {
        task = sym (ap (λ b. told (if b then abstract.close u else u)) (zero_test k false is));
        queues = sym (ap (λ b. is_some (info_of t (if b then abstract.close u else u))) (zero_test k false is));
      }

  detaches_by : (c x s r h a g n : Bool) (k : ℕ) → (c && not x) ≡ false → token (state s r c x h a g n k) ≤ k
      → Detaches (state s r c x h a g n k) (k == 0)
  detaches_by c true s r h a g n k none few = over_goes c s r h a g n k (k == 0)
  detaches_by true false s r h a g n k none few = absurd cc
  detaches_by false false true true h a g n k none few =
      subst (Detaches (state true true false false h a g n k)) (sym (no_test k few)) (record { task = refl; queues = refl })
  detaches_by false false true false h a g n k none few =
      subst (Detaches (state true false false false h a g n k)) (sym (no_test k few)) (record { task = refl; queues = refl })
  detaches_by false false false true h a g n k none few =
      subst (Detaches (state false true false false h a g n k)) (sym (no_test k few)) (record { task = refl; queues = refl })
  detaches_by false false false false h a g n k none few = idle_goes h a g n k (k == 0) refl

pub detaches_alike : (s : State) (w : Option Waker) → DetachesAlike s w
detaches_alike s w none few =
    subst
    (λ b. IsMove (moves.detach_by b ((s.references == 0) && not s.closed) s) s w (abstract.detach (view s w)).task)
    (sym none)
    (detaches_by w s.completed s.closed s.scheduled s.running s.handle s.awaiter s.registering s.notifying s.references none few)
