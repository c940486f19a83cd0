-- For table_and_queue_agree, no_append_is_refused_full, the_limit_is_exact, drops_come_once, early_drops_have_causes
-- and closing_drops_each_future_once.
-- Table and queue agree with the trace, and a spawn finds the executor full exactly where it is.
use Rattle.std.proofs.Common.{◌≡◌, ◌⊎◌, ℕ, zero, suc, ◌+◌, ◌<◌, ◌≤◌, List, [], length, take, Bool, true, false, refl, sym, ap}
use Rattle.std.proofs.Common.{◌∙◌, subst, inl, inr, ⊎_elim, arith}
use Rattle.std.proofs.lemmas.List.{get_or_past}
use Rattle.std.specs.Prelude.{Option, Some, None, MatchOption, count_by, slice_get}
use Rattle.queue_steps.specs.ClosableQueue.{ClosableQueue, HasRoom}
use Rattle.executor_model.proofs.Types.{Plain, Urgent, Mark, Kind, Event, Op, QueueOp, Step}
use Rattle.executor_model.specs.declared.kind.Kind.TheVariants.{Static}
use Rattle.executor_model.specs.Trace.{Trace, has, is_accepted, is_dropped, is_drop_begun, is_last_waker, is_leak_begun}
use Rattle.executor_model.specs.Steps.{Machine, stack, top, below_top, run, start}
use Rattle.executor_model.specs.Entries.{HasTable, Remains, TableAgrees, OwnAgrees, QueueAgrees, FindsPlace}
use Rattle.executor_model.specs.{World.queue_of, World.queued_in, World.mark_of, DroppedOnce.DropComesOnce}
use Rattle.executor_model.specs.{DroppedOnce.IsDroppedByTheEnd, EarlyDrop.EarlyDropHasCause, EarlyDrop.LastWakerIsLast}
use Rattle.executor_model.specs.{Weights.weigh_all, Sound.times, Sound.times_in, Good.Good, Rows.ousting_of, Rows.leaves_of}
use Rattle.executor_model.proofs.OneFuture.Telling.{fallen-counts, accepted-counts, counted-there, there-or-none, begun-has}
use Rattle.executor_model.proofs.OneFuture.Telling.{ended-has, drop-has-cause, drop-follows, last-forgotten, take-all}
use Rattle.executor_model.proofs.Table.LeavingExecutions.{Placed, placed, has-place}
use Rattle.executor_model.proofs.{Steps.Lift.topped, Steps.Lift.good, OneFuture.Stories.story}

-- a machine is static where it was made so, or a leak of its executor has begun
abbrev pub IsOfKind : Kind → Machine → Type 0
IsOfKind kind s = s.world.is_static ≡ true → (kind ≡ Static) ⊎ (has is_leak_begun s.world.trace ≡ true)

-- where nobody was left who could wake it, the drop or a leak had begun by then, or it was static from the beginning on
abbrev pub LastIsTold : Kind → ℕ → Trace → Type 0
LastIsTold kind f es = (n : ℕ) → has (is_last_waker f) (take n es) ≡ true → (has is_drop_begun (take n es) ≡ true)
    ⊎ ((kind ≡ Static) ⊎ (has is_leak_begun (take n es) ≡ true))

-- no entry is there twice
one-entry : (b : Bool) (o t d a e : ℕ) → ((b ≡ false) ⊎ (1 ≤ o) → t + d ≡ a + e) → (b ≡ true → o ≡ 0 → t ≡ 0) → e ≤ d →
    a ≤ 1 → t ≤ 1
one-entry false o t d a e k q l m = omega (arith, k (inl refl), l, m)
one-entry true zero t d a e k q l m = omega (arith, q refl refl)
one-entry true (suc o) t d a e k q l m = omega (arith, k (inr (omega arith)), l, m)

-- an event is there where it is counted
there : (test : Event → Bool) (es : Trace) (n : ℕ) → n ≡ count_by test es → 1 ≤ n → has test es ≡ true
there test es n e h = ⊎_elim (λ (x : (has test es ≡ true) × (1 ≤ count_by test es)). x.0)
    (λ (x : (has test es ≡ false) × (count_by test es ≡ 0)). absurd (omega (arith, x.1, e, h))) (there-or-none test es)

pub counts : (test : Event → Bool) (es : Trace) (n : ℕ) → n ≡ count_by test es → has test es ≡ true → 1 ≤ n
counts test es n e h = omega (arith, e, counted-there test es h)

pub counts-none : (test : Event → Bool) (es : Trace) (n : ℕ) → n ≡ count_by test es → has test es ≡ false → n ≡ 0
counts-none test es n e h =
    ⊎_elim (λ (x : (has test es ≡ true) × (1 ≤ count_by test es)). let no : true ≡ false = sym x.0 ∙ h in absurd (cc))
    (λ (x : (has test es ≡ false) × (count_by test es ≡ 0)). e ∙ x.1) (there-or-none test es)

either : (b : Bool) → (b ≡ true) ⊎ (b ≡ false)
either true = inl refl
either false = inr refl

module _ (s : Machine) (f : ℕ) (fine : Good s) (h : Placed s) where
  pub one-accepted : (story f s.world.trace).accepted ≤ 1
  one-accepted = known-or-fresh _ _ (h.leaves f).known (h.leaves f).fresh
    where
      known-or-fresh : (n a : ℕ) → (f < n → a ≡ 1) → (n ≤ f → a ≡ 0) → a ≤ 1
      known-or-fresh n a k e = grind arith

  pub tables : HasTable s → (s.world.gone ≡ false) ⊎ (1 ≤ weigh_all ousting_of s.parties)
  tables (inl e) = inl (sym (h.leaves f).begun ∙ (begun-has f s.world.trace ∙ e))
  tables (inr o) = inr o

  pub agrees : HasTable s → times f s.world.table + (story f s.world.trace).fallen ≡ (story f s.world.trace).accepted
      + weigh_all (leaves_of f) s.parties
  agrees t = (h.leaves f).table (tables t)

  remaining : Remains f s → (story f s.world.trace).fallen + (times f s.world.leaving + 0) ≤ 1 →
      (story f s.world.trace).accepted + weigh_all (leaves_of f) s.parties ≡ 1 + (story f s.world.trace).fallen
  remaining m k = ⊎_elim
      (λ (x : has (is_dropped f) s.world.trace ≡ false). let z : (story f s.world.trace).fallen ≡ 0 =
      counts-none (is_dropped f) s.world.trace _ (fallen-counts f s.world.trace) x in
      omega (
        arith,
        z,
        one-accepted,
        (h.leaves f).behind,
        counts (is_accepted f) s.world.trace _ (accepted-counts f s.world.trace) m.accepted,
      ))
      (λ (x : 1 ≤ weigh_all (leaves_of f) s.parties).
      omega (
        arith,
        x,
        one-accepted,
        (h.leaves f).behind,
        k,
        counts (is_accepted f) s.world.trace _ (accepted-counts f s.world.trace) m.accepted,
      ))
      m.remains

  pub table-agrees : TableAgrees s f
  table-agrees = record {
    once = one-entry s.world.gone (weigh_all ousting_of s.parties) _ _ _ _ (h.leaves f).table
        (λ a b. ((h.leaves f).swept a b).0) (h.leaves f).behind one-accepted;
    entered = λ t m. omega (arith, agrees t, remaining m (omega (arith, (h.leaves f).once, one-accepted)));
    only = λ t n. record {
      accepted = there (is_accepted f) s.world.trace _ (accepted-counts f s.world.trace)
          (omega (arith, agrees t, n, (h.leaves f).behind));
      remains = ⊎_elim
          (λ (x : has (is_dropped f) s.world.trace ≡ true).
          inr
          (omega (arith, agrees t, n, one-accepted, counts (is_dropped f) s.world.trace _ (fallen-counts f s.world.trace) x)))
          (λ (x : has (is_dropped f) s.world.trace ≡ false). inl x)
          (either (has (is_dropped f) s.world.trace));
    };
  }

  stands : 1 ≤ times f (queued_in s.world) → 1 ≤ times f (story f s.world.trace).standing
  stands n = (h.leaves f).runs (omega (arith, n))

  -- who stands was dropped by the executor's drop alone
  dropped-late : 1 ≤ times f (story f s.world.trace).standing → has (is_dropped f) s.world.trace ≡ true →
      has is_drop_begun s.world.trace ≡ true
  dropped-late n d = sym (begun-has f s.world.trace)
      ∙ ((h.leaves f).begun ∙ ⊎_elim (λ (e : s.world.gone ≡ true). e)
      (λ (e : s.world.gone ≡ false).
      absurd
      (omega (
        arith,
        (h.leaves f).stay e,
        n,
        one-accepted,
        counts (is_dropped f) s.world.trace _ (fallen-counts f s.world.trace) d,
      ))) (either s.world.gone))

  pub queue-agrees : QueueAgrees s f
  queue-agrees = record {
    once = omega (arith, (fine.sound f).one);
    accepted = λ n. there (is_accepted f) s.world.trace _ (accepted-counts f s.world.trace)
        (omega (arith, stands n, (h.leaves f).bound));
    undropped = λ n d. dropped-late (stands n) d;
    by_closing = λ n d. drop-follows f s.world.trace (omega (arith, (h.leaves f).lasting, stands n, one-accepted)) d;
    alone = λ b. omega (arith, (h.leaves f).still (sym (h.leaves f).begun ∙ (begun-has f s.world.trace ∙ b)));
  }

  stands-kept : 1 ≤ times_in f s.world.own → 1 ≤ times f (story f s.world.trace).standing
  stands-kept n = (h.leaves f).runs (omega (arith, n))

  pub own-agrees : OwnAgrees s f
  own-agrees = record {
    once = omega (arith, (fine.sound f).one);
    accepted = λ n. there (is_accepted f) s.world.trace _ (accepted-counts f s.world.trace)
        (omega (arith, stands-kept n, (h.leaves f).bound));
    undropped = λ n d. dropped-late (stands-kept n) d;
    by_closing = λ n d. drop-follows f s.world.trace (omega (arith, (h.leaves f).lasting, stands-kept n, one-accepted))
        d;
  }

  pub drop-comes-once : DropComesOnce f s.world.trace
  drop-comes-once = omega (arith, (h.leaves f).once, one-accepted, fallen-counts f s.world.trace)

  pub last-is-last : (kind : Kind) → LastIsTold kind f s.world.trace → LastWakerIsLast kind f s.world.trace
  last-is-last kind e = last-forgotten kind f s.world.trace (λ l. ((h.leaves f).forgotten l).1) (λ l.
      subst (λ (xs : Trace). (has is_drop_begun xs ≡ true) ⊎ ((kind ≡ Static) ⊎ (has is_leak_begun xs ≡ true)))
      (take-all s.world.trace) (e (length s.world.trace)
      (subst (λ (xs : Trace). has (is_last_waker f) xs ≡ true) (sym (take-all s.world.trace)) l)))

  pub drop-caused : (kind : Kind) → LastIsTold kind f s.world.trace → EarlyDropHasCause kind f s.world.trace
  drop-caused kind e = drop-has-cause kind f s.world.trace (h.leaves f).fair (λ l. e _ l)

  pub dropped-by-the-end : IsDroppedByTheEnd f s.world.trace
  dropped-by-the-end e a =
      let x : _ = (h.leaves f).ended (ended-has f s.world.trace ∙ e) in
      omega (
        arith,
        ((h.leaves f).swept x.0 x.1.0).1,
        x.1.1,
        one-accepted,
        counts (is_accepted f) s.world.trace _ (accepted-counts f s.world.trace) a,
        fallen-counts f s.world.trace,
      )

  room : (c : Option ℕ) (q : ClosableQueue ℕ) → q.capacity ≡ Some s.world.limit → length q.items < s.world.limit →
      HasRoom q
  room c q e l = subst (λ (x : Option ℕ). MatchOption x (Unit {0}) (λ n. length q.items < n)) (sym e) l

  capacities : (m : Mark) → (queue_of s.world m).capacity ≡ Some s.world.limit
  capacities Urgent = (h.leaves f).urgent_capacity
  capacities Plain = (h.leaves f).plain_capacity

  pub finds-place : FindsPlace s f
  finds-place p e = ⊎_elim
      (λ (l : p < length s.parties). let m : Mark = mark_of s.world f in
      room None (queue_of s.world m) (capacities m)
      (has-place s p f (below_top (stack s p)) l (topped (stack s p) (Op.Queue (QueueOp.Append f)) e) fine h m))
      (λ (l : length s.parties ≤ p). let z : stack s p ≡ [] = get_or_past s.parties p [] l in
      let no : slice_get (let os : List Op = [] in os) 0 ≡ Some (Op.Queue (QueueOp.Append f)) = sym (ap top z) ∙ e in
      absurd (cc))
      (or-past p (length s.parties))
    where
      or-past : (a b : ℕ) → (a < b) ⊎ (b ≤ a)
      or-past a b = grind arith

pub places : (P : Machine → ℕ → Type 0) → ((s : Machine) (f : ℕ) → Good s → Placed s → P s f) →
    (limit : ℕ) (kind : Kind) (parties : ℕ) (steps : List Step) (f : ℕ) → P (run steps (start limit kind parties)) f
places P k limit kind parties steps f =
    k (run steps (start limit kind parties)) f (good limit kind parties steps) (placed limit kind parties steps)
