-- The moves of a task's run are those of the plain scheduler's task.
use Rattle.std.proofs.Common.{◌≡◌, ℕ, ◌+◌, ◌-◌, ◌≤◌, ◌==◌, ◌&&◌, not, Bool, true, false, Option, is_some}
use Rattle.std.proofs.Common.{if◌then◌else◌, refl, sym, ap, subst, arith}
use Rattle.std.proofs.lemmas.Bool.Decides.{nat_tests}
use Rattle.task_moves.specs.declared.moves.state.State.{State}
use Rattle.task_moves.specs.AbstractTask as abstract
use Rattle.task_moves.specs.Moves as moves
use Rattle.executor_model.specs.declared.op.Waker.{Waker}
use Rattle.machine_roads.specs.View.{view}
use Rattle.machine_roads.specs.Moving.{EndsClosedAlike, GivesAlike, IsMove, IsPolled, IsQueued, IsRunAlike, PendsAlike, RunsAlike}
use Rattle.machine_roads.specs.Moving.{SettlesAlike, has_to_drop, pended_by}
use Rattle.machine_roads.proofs.Moving.{state}

more_less : (k : ℕ) → 1 ≤ k → k - 0 ≡ k - 1 + 1
more_less k is = omega (arith, is)

gone_less : (k : ℕ) → k - 1 - 0 ≡ k - 1
gone_less k = omega arith

last_test : (k : ℕ) → (k == 1) ≡ true → (k - 1 == 0) ≡ true
last_test k is = ap (λ n. n - 1 == 0) (one k is)
  where
    one : (k : ℕ) → (k == 1) ≡ true → k ≡ 1
    one k is = grind (arith, nat_tests)

last_none : (k : ℕ) → (k == 1) ≡ true → 0 ≡ k - 1
last_none k is = omega (arith, one k is)
  where
    one : (k : ℕ) → (k == 1) ≡ true → k ≡ 1
    one k is = grind (arith, nat_tests)

left_test : (k : ℕ) → 1 ≤ k → (k == 1) ≡ false → (k - 1 == 0) ≡ false
left_test k some is = test (k - 1) (omega (arith, some, two k some is))
  where
    two : (k : ℕ) → 1 ≤ k → (k == 1) ≡ false → 2 ≤ k
    two k some is = grind (arith, nat_tests)

    test : (n : ℕ) → 1 ≤ n → (n == 0) ≡ false
    test n is = grind (arith, nat_tests)

-- how a poll ends that gave no output: of a closed task, one woken meanwhile, one that nobody can reach, any other
abbrev pub end_of : Bool → Bool → Bool → abstract.PendingEnd
end_of true woken last = abstract.PendingEnd.Drops
end_of false true last = abstract.PendingEnd.Queues
end_of false false true = abstract.PendingEnd.Forgets
end_of false false false = abstract.PendingEnd.Rests

module _ (w : Option Waker) where
  runs_by : (s r c x h a g n : Bool) (k : ℕ) → IsQueued (state s r c x h a g n k) → RunsAlike (state s r c x h a g n k) w
  runs_by true false false true h a g n k is = record { task = refl; future = refl }
  runs_by true false false false h a g n k is = record { task = refl; future = refl }
  runs_by false r c x h a g n k is = let no : false ≡ true = is.scheduled in absurd cc
  runs_by true true c x h a g n k is = let no : true ≡ false = is.running in absurd cc
  runs_by true false true x h a g n k is = let no : true ≡ false = is.completed in absurd cc

  abbrev Pends : State → Bool → Type 0
  Pends st last =
      IsMove (moves.end_pending_by st.closed st.scheduled (last && not st.handle) st) st w
      (pended_by (abstract.pending_end (view st w)) (view st w))
      × (is_some (moves.end_pending_by st.closed st.scheduled (last && not st.handle) st).owed.future
      ≡ has_to_drop (abstract.pending_end (view st w)))

  pends_open : (h a g n : Bool) (k : ℕ) → 1 ≤ k → (e : Bool) → (k == 1) ≡ e → Pends (state false true false false h a g n k) e
  pends_open true a g n k some true is =
      let t = view (state false true false false true a g n k) w in
      (record { task = ap (λ m. record t { phase = abstract.Phase.Idle; wakers = m }) (gone_less k); queues = refl }, refl)
  pends_open true a g n k some false is =
      let t = view (state false true false false true a g n k) w in
      (record { task = ap (λ m. record t { phase = abstract.Phase.Idle; wakers = m }) (gone_less k); queues = refl }, refl)
  pends_open false a g n k some true is =
      let t = view (state false true false false false a g n k) w in
      subst
      (λ b. IsMove (moves.end_pending_by false false true (state false true false false false a g n k))
      (state false true false false false a g n k) w
      (pended_by (if b then abstract.PendingEnd.Forgets else abstract.PendingEnd.Rests) t)
      × (true ≡ has_to_drop (if b then abstract.PendingEnd.Forgets else abstract.PendingEnd.Rests)))
      (sym (last_test k is)) (
        record {
          task = ap (λ m. record t { phase = abstract.Phase.Finished; closed = true; wakers = m }) (last_none k is);
          queues = refl;
        },
        refl,
      )
  pends_open false a g n k some false is =
      let t = view (state false true false false false a g n k) w in
      subst
      (λ b. IsMove (moves.end_pending_by false false false (state false true false false false a g n k))
      (state false true false false false a g n k) w
      (pended_by (if b then abstract.PendingEnd.Forgets else abstract.PendingEnd.Rests) t)
      × (false ≡ has_to_drop (if b then abstract.PendingEnd.Forgets else abstract.PendingEnd.Rests)))
      (sym (left_test k some is))
      (record { task = ap (λ m. record t { phase = abstract.Phase.Idle; wakers = m }) (gone_less k); queues = refl }, refl)

  pends_by : (s r c x h a g n : Bool) (k : ℕ) → IsPolled (state s r c x h a g n k) → PendsAlike (state s r c x h a g n k) w
  pends_by s false c x h a g n k is = let no : false ≡ true = is.running in absurd cc
  pends_by s true true x h a g n k is = let no : true ≡ false = is.completed in absurd cc
  pends_by true true false true h a g n k is = record { is = record { task = refl; queues = refl }; drops = refl }
  pends_by false true false true h a g n k is = record { is = record { task = refl; queues = refl }; drops = refl }
  pends_by true true false false h a g n k is = record { is = record { task = refl; queues = refl }; drops = refl }
  pends_by false true false false h a g n k is =
      let both = pends_open h a g n k is.counted (k == 1) refl in
      record { is = both.0; drops = both.1 }

  ends_open : (h a g n : Bool) (k : ℕ) → 1 ≤ k → (e : Bool) → (k == 1) ≡ e
      → abstract.pending_end (view (state false true false false h a g n k) w) ≡ end_of false false (e && not h)
  ends_open true a g n k some true is = refl
  ends_open true a g n k some false is = refl
  ends_open false a g n k some true is =
      ap (λ b. if b then abstract.PendingEnd.Forgets else abstract.PendingEnd.Rests) (last_test k is)
  ends_open false a g n k some false is =
      ap (λ b. if b then abstract.PendingEnd.Forgets else abstract.PendingEnd.Rests) (left_test k some is)

  ends_as : (s r c x h a g n : Bool) (k : ℕ) → IsPolled (state s r c x h a g n k)
      → abstract.pending_end (view (state s r c x h a g n k) w) ≡ end_of x s ((k == 1) && not h)
  ends_as s false c x h a g n k is = let no : false ≡ true = is.running in absurd cc
  ends_as s true true x h a g n k is = let no : true ≡ false = is.completed in absurd cc
  ends_as true true false true h a g n k is = refl
  ends_as false true false true h a g n k is = refl
  ends_as true true false false h a g n k is = refl
  ends_as false true false false h a g n k is = ends_open h a g n k is.counted (k == 1) refl

  -- one waker more than it will have
  gives_by : (s r c x h a g n : Bool) (k : ℕ) → IsPolled (state s r c x h a g n k) → GivesAlike (state s r c x h a g n k) w
  gives_by s false c x h a g n k is = let no : false ≡ true = is.running in absurd cc
  gives_by s true true x h a g n k is = let no : true ≡ false = is.completed in absurd cc
  gives_by true true false true true a g n k is =
      let t = view (moves.end_ready (state true true false true true a g n k)).state w in
      record { task = ap (λ m. record t { wakers = m }) (more_less k is.counted); drops = refl }
  gives_by true true false true false a g n k is =
      let t = view (moves.end_ready (state true true false true false a g n k)).state w in
      record { task = ap (λ m. record t { wakers = m }) (more_less k is.counted); drops = refl }
  gives_by true true false false true a g n k is =
      let t = view (moves.end_ready (state true true false false true a g n k)).state w in
      record { task = ap (λ m. record t { wakers = m }) (more_less k is.counted); drops = refl }
  gives_by true true false false false a g n k is =
      let t = view (moves.end_ready (state true true false false false a g n k)).state w in
      record { task = ap (λ m. record t { wakers = m }) (more_less k is.counted); drops = refl }
  gives_by false true false true true a g n k is =
      let t = view (moves.end_ready (state false true false true true a g n k)).state w in
      record { task = ap (λ m. record t { wakers = m }) (more_less k is.counted); drops = refl }
  gives_by false true false true false a g n k is =
      let t = view (moves.end_ready (state false true false true false a g n k)).state w in
      record { task = ap (λ m. record t { wakers = m }) (more_less k is.counted); drops = refl }
  gives_by false true false false true a g n k is =
      let t = view (moves.end_ready (state false true false false true a g n k)).state w in
      record { task = ap (λ m. record t { wakers = m }) (more_less k is.counted); drops = refl }
  gives_by false true false false false a g n k is =
      let t = view (moves.end_ready (state false true false false false a g n k)).state w in
      record { task = ap (λ m. record t { wakers = m }) (more_less k is.counted); drops = refl }

  settles_by : (s r c x h a g n : Bool) (k : ℕ) → IsQueued (state s r c x h a g n k) → x ≡ true
      → SettlesAlike (state s r c x h a g n k) w
  settles_by true false false true h a g n k is closed =
      let t = view (moves.settle_closed (state true false false true h a g n k)).state w in
      ap (λ m. record t { wakers = m }) (more_less k is.counted)
  settles_by true false false false h a g n k is closed = absurd cc
  settles_by false r c x h a g n k is closed = let no : false ≡ true = is.scheduled in absurd cc
  settles_by true true c x h a g n k is closed = let no : true ≡ false = is.running in absurd cc
  settles_by true false true x h a g n k is closed = let no : true ≡ false = is.completed in absurd cc

  ends_by : (s r c x h a g n : Bool) (k : ℕ) → IsPolled (state s r c x h a g n k) → x ≡ true
      → EndsClosedAlike (state s r c x h a g n k) w
  ends_by true true false true h a g n k is closed =
      let t = view (moves.end_closed (state true true false true h a g n k)).state w in
      ap (λ m. record t { wakers = m }) (more_less k is.counted)
  ends_by false true false true h a g n k is closed =
      let t = view (moves.end_closed (state false true false true h a g n k)).state w in
      ap (λ m. record t { wakers = m }) (more_less k is.counted)
  ends_by s true false false h a g n k is closed = absurd cc
  ends_by s false c x h a g n k is closed = let no : false ≡ true = is.running in absurd cc
  ends_by s true true x h a g n k is closed = let no : true ≡ false = is.completed in absurd cc

pub run_alike : (s : State) (w : Option Waker) → IsRunAlike s w
run_alike s w = record {
  runs = λ is.
      runs_by w s.scheduled s.running s.completed s.closed s.handle s.awaiter s.registering s.notifying s.references is;
  pends = λ is.
      pends_by w s.scheduled s.running s.completed s.closed s.handle s.awaiter s.registering s.notifying s.references is;
  gives = λ is.
      gives_by w s.scheduled s.running s.completed s.closed s.handle s.awaiter s.registering s.notifying s.references is;
  settles = λ is closed.
      settles_by w s.scheduled s.running s.completed s.closed s.handle s.awaiter s.registering s.notifying s.references is closed;
  ends = λ is closed.
      ends_by w s.scheduled s.running s.completed s.closed s.handle s.awaiter s.registering s.notifying s.references is closed;
}

pub pending_is : (s : State) (w : Option Waker) → IsPolled s
    → abstract.pending_end (view s w) ≡ end_of s.closed s.scheduled (moves.is_last s)
pending_is s w is =
    ends_as w s.scheduled s.running s.completed s.closed s.handle s.awaiter s.registering s.notifying s.references is
