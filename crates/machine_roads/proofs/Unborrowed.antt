-- Where the executor's drop may begin and no call is in progress: no tick or run lies or keeps anything, and who waits for a wake
-- has its entry.
use Rattle.std.proofs.Common.{◌≡◌, ℕ, zero, suc, ◌<◌, ◌≤◌, ◌&&◌, ◌||◌, not, nat_lt, Bool, true, false, List, [], ◌∷◌, length}
use Rattle.std.proofs.Common.{if◌then◌else◌, Option, None, inl, inr, ⊎_elim, slice_get, refl, sym, ap, subst, ◌∙◌, arith}
use Rattle.std.specs.Prelude.{filter, slice_index_or}
use Rattle.std.specs.List.{list_any}
use Rattle.std.proofs.lemmas.Bool.Decides.{nat_tests}
use Rattle.std.proofs.lemmas.Option.{slice_get_past}
use Rattle.executor_parts.specs.declared.mark.Mark.{Mark}
use Rattle.task_moves.specs.declared.moves.state.State.{State}
use Rattle.task_moves.specs.AbstractTask as abstract
use Rattle.task_moves.specs.AbstractTask.{AbstractTask}
use Rattle.task_moves.specs.LocalTask.{phase_by}
use Rattle.executor_model.specs.declared.call.Call.TheVariants as call
use Rattle.executor_model.specs.declared.op.Op.{Op}
use Rattle.executor_model.specs.declared.op.TickOrRun.{TickOrRun}
use Rattle.executor_model.specs.declared.op.TickOrRun.TheVariants as tick_or_run
use Rattle.executor_model.specs.declared.op.Waker.{Waker}
use Rattle.executor_model.specs.declared.step.StepError.TheVariants.{Borrowed, Busy, Gone}
use Rattle.executor_model.specs.Quiet.{IsQuiet}
use Rattle.executor_model.specs.Rows.{borrowing_of, leaking_of, ready_of}
use Rattle.executor_model.specs.SleepersAgree.{sleeps}
use Rattle.executor_model.specs.Sound.{times}
use Rattle.executor_model.specs.Steps.{Machine, begin_refusal, is_free, is_there, is_unborrowed, is_unused, lives, stack, unless}
use Rattle.executor_model.specs.Weights.{weigh_all}
use Rattle.executor_model.specs.World.{Asleep, Awake, Left, Run, Ticker, World, among, no_run, own_of, queue_of, run_of}
use Rattle.executor_model.specs.World as world
use Rattle.executor_model.proofs.OneFuture.Stories.{among_is}
use Rattle.executor_model.proofs.Quiet.Resting.{all-rest, rests}
use Rattle.executor_model.proofs.Steps.QueuesByMark.{any-shut}
use Rattle.executor_model.proofs.Steps.Reached.{Reached, deep-here, good-here}
use Rattle.executor_laws.proofs.Wakeups.Stands.{used_of}
use Rattle.executor_laws.proofs.Wakeups.StandsMachine.{standing}
use Rattle.executor_laws.proofs.Wakeups.StandsSteps.{Standing}
use Rattle.plain_scheduler.specs.State.{Future, Lying, Plain, Who, ATick, ARun}
use Rattle.plain_scheduler.specs.Lists.{or}
use Rattle.plain_scheduler.specs.Moves.{lies, no_task, task}
use Rattle.machine_roads.specs.View.{Output}
use Rattle.machine_roads.specs.Road.{Follows, place_in, who_of}
use Rattle.machine_roads.specs.Lone.{waits_for}
use Rattle.machine_roads.proofs.Having.{heard_here, same_self}
use Rattle.machine_roads.proofs.Lists.{clash, equal}
use Rattle.machine_roads.proofs.LoneRuns.{passed}
use Rattle.machine_roads.proofs.LoneTicks.{unrefused}
use Rattle.machine_roads.proofs.Nobody.{WaitAmong}

-- its drop hasn't begun, and no tick or run lives
pub record IsUnborrowed (w : World) : Type 0 where
  pub unbegun : w.gone ≡ false
  pub ticks : list_any lives w.ticks ≡ false
  pub runs : list_any is_there w.runs ≡ false

not_either : (a l t : Bool) → (a && not (l || t)) ≡ true → (l ≡ false) × (t ≡ false)
not_either true false false is = (refl, refl)
not_either true true t is = absurd cc
not_either true false true is = absurd cc
not_either false l t is = absurd cc

not_gone : (b : Bool) → not (b && true) ≡ true → b ≡ false
not_gone false is = refl
not_gone true is = absurd cc

pub may_drop : (w : World) (ss : List (List Op)) (o : Option Op) → begin_refusal w ss o call.DropExecutor ≡ None → IsUnborrowed w
may_drop w ss o may =
    let fourth = unless (false || is_unborrowed w ss) Borrowed None in
    let third = unless (not (true && w.is_static)) Gone fourth in
    let second = unless (false || is_unused leaking_of ss) Gone third in
    let first = unless (not (w.gone && true)) Gone second in
    let one : first ≡ None = unrefused (is_free o) Busy first may in
    let two : second ≡ None = unrefused (not (w.gone && true)) Gone second one in
    let three : third ≡ None = unrefused (false || is_unused leaking_of ss) Gone third two in
    let four : fourth ≡ None = unrefused (not (true && w.is_static)) Gone fourth three in
    let both =
    not_either (is_unused borrowing_of ss) (list_any lives w.ticks) (list_any is_there w.runs)
    (passed (false || is_unborrowed w ss) Borrowed None four) in
    record { unbegun = not_gone w.gone (passed (not (w.gone && true)) Gone second one); ticks = both.0; runs = both.1 }

either_off : (a b : Bool) → (a || b) ≡ false → (a ≡ false) × (b ≡ false)
either_off false b is = (refl, is)
either_off true b is = absurd cc

-- a tick that doesn't live has left, and a run was dropped
tick_left : (ts : List Ticker) (t : ℕ) → list_any lives ts ≡ false → sleeps (slice_index_or ts t Left) ≡ 0
tick_left [] t none = refl
tick_left (x ∷ ts) zero none = by x (either_off (lives x) (list_any lives ts) none).0
  where
    by : (x : Ticker) → lives x ≡ false → sleeps x ≡ 0
    by Awake off = absurd cc
    by (Asleep n) off = absurd cc
    by Left off = refl
tick_left (x ∷ ts) (suc t) none = tick_left ts t (either_off (lives x) (list_any lives ts) none).1

run_left : (rs : List Run) (r : ℕ) → list_any is_there rs ≡ false → not (slice_index_or rs r no_run).dropped ≡ false
run_left [] r none = refl
run_left (x ∷ rs) zero none = (either_off (is_there x) (list_any is_there rs) none).0
run_left (x ∷ rs) (suc r) none = run_left rs r (either_off (is_there x) (list_any is_there rs) none).1

none_of : (n : ℕ) → (1 ≤ n → ⊥) → n ≡ 0
none_of zero never = refl
none_of (suc n) never = absurd (never (omega arith))

nothing_in : (xs : List ℕ) → length xs ≡ 0 → xs ≡ []
nothing_in [] is = refl
nothing_in (x ∷ xs) is = absurd (omega (arith, is))

-- where a task waits for a wake, it is open and has no output
waiting_state : (c r s x : Bool) → (abstract.is_idle (phase_by c r s x) && not x) ≡ true → (x ≡ false) × (c ≡ false)
waiting_state true r s x is = absurd cc
waiting_state false true true x is = absurd cc
waiting_state false true false x is = absurd cc
waiting_state false false true x is = absurd cc
waiting_state false false false true is = absurd cc
waiting_state false false false false is = (refl, refl)

who_is : (who : Who) → (x : TickOrRun) × (who_of x ≡ who)
who_is (ATick t) = (tick_or_run.Tick t, refl)
who_is (ARun r) = (tick_or_run.Run r, refl)

lies_so : (who : Who) (l : Lying Waker) → who ≡ l.who → lies who l ≡ true
lies_so who l same = ap (λ w. lies w l) same ∙ by l.who
  where
    by : (w : Who) → lies w (record l { who = w }) ≡ true
    by (ATick t) = equal t t refl
    by (ARun r) = equal r r refl

module _ (s : Machine) (reached : Reached s) (quiet : IsQuiet s.world.trace) (free : IsUnborrowed s.world) where
  idle : (q : ℕ) → stack s q ≡ []
  idle q = rests s (deep-here s reached) quiet q

  pub nothing_leaves : s.world.leaving ≡ []
  nothing_leaves = by s.world.leaving refl
    where
      by : (fs : List ℕ) → s.world.leaving ≡ fs → fs ≡ []
      by [] is = refl
      by (f ∷ fs) is =
          absurd (clash free.unbegun (((good-here s reached).sound f).ousted
          (omega (arith, ap (times f) is, same_self f))))

  pub both_open : (m : Mark) → (queue_of s.world m).closed ≡ false
  both_open m = by (queue_of s.world m).closed refl
    where
      by : (b : Bool) → (queue_of s.world m).closed ≡ b → (queue_of s.world m).closed ≡ false
      by false off = off
      by true on =
          absurd (clash free.unbegun (((heard_here s reached).placed.leaves 0).shut (any-shut m s.world.queues on)).0)

  all_stand : Standing s
  all_stand = subst Standing (sym reached.is) (standing reached.limit reached.kind reached.parties reached.steps)

  -- a run that was dropped
  module _ (r : ℕ) where
    abbrev run_waits : TickOrRun
    run_waits = tick_or_run.Run r

    dead : not (run_of s.world r).dropped ≡ false
    dead = run_left s.world.runs r free.runs

    unused : weigh_all (used_of run_waits) s.parties ≡ 0
    unused = all-rest (used_of run_waits) s.parties idle

    pub run_up : sleeps (run_of s.world r).place ≡ 0
    run_up =
        let k = all_stand.stands run_waits in
        none_of (sleeps (run_of s.world r).place) (λ some.
        ⊎_elim (λ pending. absurd (clash dead (k.alive (inl pending))))
        (λ more. ⊎_elim (λ refused. absurd (clash dead (k.alive (inr (inl refused))))) (λ used. absurd (omega (arith, used, unused)))
        more) (k.asleep some))

    pub nothing_kept : own_of s.world r ≡ []
    nothing_kept =
        let k = all_stand.stands run_waits in
        nothing_in (own_of s.world r)
        (none_of (length (own_of s.world r)) (λ some.
        ⊎_elim (λ pending. absurd (clash dead (k.alive (inl pending))))
        (λ more. ⊎_elim (λ refused. absurd (clash dead (k.alive (inr (inl refused))))) (λ used. absurd (omega (arith, used, unused)))
        more) (k.keeps some)))

  nobody_sleeps : (x : TickOrRun) → sleeps (place_in s.world.ticks s.world.runs x) ≡ 0
  nobody_sleeps (tick_or_run.Tick t) = tick_left s.world.ticks t free.ticks
  nobody_sleeps (tick_or_run.Run r) = run_up r

  module _ (q : Plain Output Waker) (follows : Follows s.world q) where
    pub nobody_lies : q.lying ≡ []
    nobody_lies = by q.lying refl
      where
        by : (ls : List (Lying Waker)) → q.lying ≡ ls → ls ≡ []
        by [] is = refl
        by (l ∷ ls) is =
            let x = who_is l.who in
            let some : 1 ≤ length (filter (lies (who_of x.0)) (l ∷ ls)) =
            subst (λ b. 1 ≤ length (if b then l ∷ filter (lies (who_of x.0)) ls else filter (lies (who_of x.0)) ls))
            (sym (lies_so (who_of x.0) l x.1)) (omega arith) in
            absurd (omega (
              arith,
              some,
              ap (λ ls. length (filter (lies (who_of x.0)) ls)) is,
              follows.asleep x.0,
              nobody_sleeps x.0,
            ))

    below_or : (f : ℕ) → waits_for (task f q) ≡ true → f < length s.world.tasks
    below_or f waits = by (nat_lt f (length s.world.tasks)) refl
      where
        below : (n m : ℕ) → nat_lt n m ≡ true → n < m
        below n m is = grind (arith, nat_tests)

        above : (n m : ℕ) → nat_lt n m ≡ false → m ≤ n
        above n m is = grind (arith, nat_tests)

        by : (b : Bool) → nat_lt f (length s.world.tasks) ≡ b → f < length s.world.tasks
        by true is = below f (length s.world.tasks) is
        by false is =
            let none : slice_get q.futures f ≡ None =
            slice_get_past q.futures f (subst (λ n. n ≤ f) follows.many (above f (length s.world.tasks) is)) in
            absurd (clash (ap (λ (o : Option (Future Output Waker)). waits_for (or o (λ future. future.task) no_task)) none) waits)

    -- who waits for a wake has its entry
    pub waiting_entered : WaitAmong s.world.table q
    waiting_entered f waits =
        let at = below_or f waits in
        let st : State = world.task s.world f in
        let open_so =
        waiting_state st.completed st.running st.scheduled st.closed
        (sym (ap (λ (t : AbstractTask Output Waker). waits_for t) (follows.tasks f at)) ∙ waits) in
        let x = (heard_here s reached).placed.leaves f in
        let ready : weigh_all (ready_of f) s.parties ≡ 0 = all-rest (ready_of f) s.parties idle in
        let some : 1 ≤ times f s.world.table =
        ⊎_elim (λ stands. omega (arith, stands, x.stay free.unbegun, x.table (inl free.unbegun)))
        (λ one. absurd (omega (arith, one, ready))) (x.unclosed at open_so.0 open_so.1) in
        ⊎_elim (λ (z : (among f s.world.table ≡ true) × (1 ≤ times f s.world.table)). z.0)
        (λ (z : (among f s.world.table ≡ false) × (times f s.world.table ≡ 0)). absurd (omega (arith, some, z.1)))
        (among_is f s.world.table)
