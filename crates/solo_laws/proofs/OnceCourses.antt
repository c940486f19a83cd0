-- After any list of calls a task stands in queues and in what was handed out once more at most than it was brought back.
use Rattle.std.proofs.Common.{◌≡◌, ◌≢◌, inl, inr, ℕ, ◌+◌, ◌≤◌, ◌==◌, ◌&&◌, Bool, true, false, List, [], ◌∷◌, None, Ok, Err}
use Rattle.std.proofs.Common.{slice_get, slice_index_or, refl, sym, ap, subst, ◌∙◌, arith}
use Rattle.std.specs.List.{sum_by}
use Rattle.std.proofs.lemmas.Bool.Decides.{nat_tests}
use Rattle.slab.specs.Slab.{Slab, get, Updates}
use Rattle.executor_parts.specs.declared.mark.Mark.{Mark}
use Rattle.executor_parts.specs.declared.places.EntryPlace.{EntryPlace}
use Rattle.solo.specs.declared.names.Kind.{Kind}
use Rattle.solo.specs.declared.names.Task.{Task}
use Rattle.solo.specs.declared.owed.Spawned.{Spawned}
use Rattle.solo.specs.declared.owed.SpawnError.{SpawnError}
use Rattle.solo.specs.declared.owed.SpawnError.TheVariants.{Full, NoMemory}
use Rattle.solo.specs.declared.solo.Solo.{Solo}
use Rattle.solo.specs.declared.cells.Cell.{Cell}
use Rattle.solo.specs.Table.{Same, first_parts}
use Rattle.solo.specs.Cells.{Kept, choose, asked, asked_by}
use Rattle.solo.specs.Cells as cells
use Rattle.solo.specs.Turns as turns
use Rattle.solo.specs.Steals.{seek_answer, sought}
use Rattle.solo.specs.OwnQueues as own
use Rattle.solo.specs.Solo as solo
use Rattle.solo.specs.Closing as closing
use Rattle.solo.specs.Runs as runs
use Rattle.solo.specs.Ticks as ticks
use Rattle.solo_laws.specs.Calls.{Call, Does, Course, Spawn, SpawnRefused, Take, Settle, Finish, Wake, WakeAndRelease, Hold, Release}
use Rattle.solo_laws.specs.Calls.{Cancel, Detach, Poll, Retract, MakeTick, TickTake}
use Rattle.solo_laws.specs.Calls.{TickSearch, TickSleep, TickLeave, MakeRun, RunBegin, RunTake}
use Rattle.solo_laws.specs.Calls.{RunSearch, RunLeave, RunDrain, Leak, LeakNext, Close, Drain}
use Rattle.solo_laws.specs.Futures.{sum_of}
use Rattle.solo_laws.specs.Queueing.{one_if, one, times_lined, times_own, times_of, times_left, times_queued, brought_back}
use Rattle.solo_laws.specs.Queueing.{handed_away, all_away, StandsOnce}
use Rattle.solo_laws.proofs.Named.{unfit}
use Rattle.solo_laws.proofs.Fitness.{held_asks, polled_asks, at_most_one}
use Rattle.solo_laws.proofs.OwnPlaces.{opened_times, listed_times}
use Rattle.solo_laws.proofs.Standing.{Stands, weaker, quiet_stands, let_go_stands, scheduled_stands, popped_stands, sought_stands}
use Rattle.solo_laws.proofs.Once.{none_out, taken_stands, tick_taken_stands}
use Rattle.solo_laws.proofs.Once.{tick_searched_stands, slept_stands, run_taken_stands, run_searched_stands}
use Rattle.solo_laws.proofs.Once.{tick_left_stands, run_left_stands, run_drained_stands, settled_stands, finished_stands, woken_stands}
use Rattle.solo_laws.proofs.Once.{woken_released_stands, cancelled_stands, detached_stands, retracted_stands, leak_stands, drained_stands}

module _ (t : Task) {T X : Type 0} where
  -- a new task comes to a free key: it fits, and is ready
  entered_at : (key : Bool) (u : Task) (number : ℕ) (place : EntryPlace) (held : Bool) (mark : Mark) (old new : Slab (Cell T X))
      → (u.key == t.key) ≡ key → u.number ≡ number → get old u.key ≡ None
      → Updates old new u.key (cells.entered number place held mark)
      → asked_by unfit false t (get old t.key) ≡ false
      → (asked_by unfit false t (get new t.key) ≡ false)
      × (one_if (asked_by cells.may_start false t (get old t.key)) + one_if (key && (u.number == t.number))
      ≤ one_if (asked_by cells.may_start false t (get new t.key)))
  entered_at true u number place held mark old new key is free cell fits =
      let same : u.key ≡ t.key = grind (arith, nat_tests) in
      let was : one_if (asked_by cells.may_start false t (get old t.key)) ≡ 0 =
      ap (λ found. one_if (asked_by cells.may_start false t found)) (sym (ap (get old) same) ∙ free) in
      let there : get new t.key ≡ cells.entered number place held mark = sym (ap (get new) same) ∙ cell.changed in
      let now : one_if (asked_by cells.may_start false t (get new t.key)) ≡ one_if (number == t.number) =
      ap (λ found. one_if (asked_by cells.may_start false t found)) there ∙ ready_by (number == t.number) in
      let numbered : one_if (u.number == t.number) ≡ one_if (number == t.number) = ap (λ n. one_if (n == t.number)) is in
      (ap (asked_by unfit false t) there ∙ fit_by (number == t.number), omega (arith, was, now, numbered))
    where
      made : Kept T X
      made = cells.new_task place held mark

      fit_by : (b : Bool) → choose b (unfit made) false ≡ false
      fit_by true = refl
      fit_by false = refl

      ready_by : (b : Bool) → one_if (choose b (cells.may_start made) false) ≡ one_if b
      ready_by true = refl
      ready_by false = refl
  entered_at false u number place held mark old new key is free cell fits =
      let two : t.key ≢ u.key = λ one. absurd (grind (arith, nat_tests)) in
      let same : get new t.key ≡ get old t.key = cell.others t.key two in
      let ready_same : one_if (asked_by cells.may_start false t (get new t.key))
      ≡ one_if (asked_by cells.may_start false t (get old t.key)) =
      ap (λ found. one_if (asked_by cells.may_start false t found)) same in
      (ap (asked_by unfit false t) same ∙ fits, omega (arith, ready_same))

module _ (t : Task) {F T X : Type 0} where
  spawned_stands : (mark : Mark) (future : F) (spawned : Spawned X) (m n : ℕ) (old new : Solo F T X)
      → solo.Spawns mark future old (Ok spawned) new → Stands t m n old → Stands t (m + times_of t spawned.told.returned) n new
  spawned_stands mark future spawned m n old new does st =
      let s : Solo F T X = does.0 in
      let u : Task = spawned.task in
      let accepts = does.1.0 in
      let cell =
      entered_at t (u.key == t.key) u old.accepted accepts.place (solo.counts old.kind) mark old.cells.slab s.cells.slab refl
      accepts.numbered accepts.was_free accepts.cell st.0 in
      let line : times_lined t s.lines ≡ times_lined t old.lines = ap (λ (o : Solo F T X). times_lined t o.lines) does.1.1 in
      let own_same : sum_by (times_own t) s.runs.queues ≡ sum_by (times_own t) old.runs.queues =
      ap (λ (o : Solo F T X). sum_by (times_own t) o.runs.queues) does.1.1 in
      let more : Stands t (m + one t u) n s =
      (cell.0, (let less = st.1 in let grows = cell.1 in omega (arith, less, grows, line, own_same))) in
      let told : Stands t (m + times_of t spawned.told.returned) n (turns.scheduled u s) =
      subst (λ told. Stands t (m + times_of t told.returned) n (turns.scheduled u s)) (sym does.3) (scheduled_stands t m n u s more) in
      subst (Stands t (m + times_of t spawned.told.returned) n) (sym does.2) told

  same_stands : (m n : ℕ) (old new : Solo F T X) → Same old.table old.cells new.table new.cells
      → new ≡ record old { table = new.table; cells = new.cells } → Stands t m n old → Stands t m n new
  same_stands m n old new same is st =
      let found : get new.cells.slab t.key ≡ get old.cells.slab t.key = ap (λ slots. slice_index_or slots t.key None) same.slots in
      let now : one_if (asked_by cells.may_start false t (get new.cells.slab t.key))
      ≡ one_if (asked_by cells.may_start false t (get old.cells.slab t.key)) =
      ap (λ o. one_if (asked_by cells.may_start false t o)) found in
      let line : times_lined t new.lines ≡ times_lined t old.lines = ap (λ (o : Solo F T X). times_lined t o.lines) is in
      let own_same : sum_by (times_own t) new.runs.queues ≡ sum_by (times_own t) old.runs.queues =
      ap (λ (o : Solo F T X). sum_by (times_own t) o.runs.queues) is in
      (ap (asked_by unfit false t) found ∙ st.0, (let less = st.1 in omega (arith, less, now, line, own_same)))

  refused_stands : (mark : Mark) (future : F) (refused : SpawnError F) (m n : ℕ) (old new : Solo F T X)
      → solo.Spawns mark future old (Err refused) new → Stands t m n old → Stands t m n new
  refused_stands mark future (Full back) m n old new does st = same_stands m n old new does.0.2 does.1 st
  refused_stands mark future (NoMemory back) m n old new does st = same_stands m n old new does.0.3 does.1 st

  -- what a call hands out, and what it brings back
  abbrev Step : Call F T X → (old new : Solo F T X) → Type 0
  Step call old new =
      (does : Does call old new) (m n : ℕ) → Stands t m n old
      → Stands t (m + handed_away t call old new does) (n + brought_back t call) new

  at : (m n k : ℕ) (old new after : Solo F T X) → new ≡ after → Stands t (m + k) n after → Stands t (m + k) (n + 0) new
  at m n k old new after is st =
      subst (Stands t (m + k) (n + 0)) (sym is) (weaker t (m + k) n (m + k) (n + 0) after (omega arith) (omega arith) st)

  quiet : (m n : ℕ) (old new after : Solo F T X) → new ≡ after → Stands t m n after → Stands t (m + 0) (n + 0) new
  quiet m n old new after is st = at m n 0 old new after is (none_out t m n after st)

  made_stands : (m n : ℕ) (s : Solo F T X) → Stands t m n s → Stands t m n (runs.made s)
  made_stands m n s st = let same = opened_times t s.runs in (st.0, (let less = st.1 in omega (arith, less, same)))

  begun_run_stands : (number m n : ℕ) (s : Solo F T X) → Stands t m n s
      → Stands t m n (record s { runs = own.listed number s.runs })
  begun_run_stands number m n s st = let same = listed_times t number s.runs in (st.0, (let less = st.1 in omega (arith, less, same)))

  step : (call : Call F T X) (old new : Solo F T X) → Step call old new
  step (Spawn mark future) old new does m n st =
      weaker t (m + times_of t does.0.told.returned) n (m + times_of t does.0.told.returned) (n + 0) new (omega arith) (omega arith)
      (spawned_stands mark future does.0 m n old new does.1 st)
  step (SpawnRefused mark future) old new does m n st =
      weaker t m n (m + 0) (n + 0) new (omega arith) (omega arith) (refused_stands mark future does.0 m n old new does.1 st)
  step Take old new is m n st =
      quiet m n old new (solo.taken old) is
      (taken_stands t (solo.sought old) m n (solo.popped old) (popped_stands t m n old st))
  step (Settle lent back) old new is m n st =
      at m n (times_of t (solo.settle_answer lent back old).returned) old new (solo.settled lent back old) is
      (settled_stands t lent back m n old st)
  step (Finish lent) old new is m n st =
      at m n (times_of t (solo.finish_answer lent old).returned) old new (solo.finished lent old) is (finished_stands t lent m n old st)
  step (Wake u) old new is m n st =
      at m n (times_of t (solo.wake_answer u old).returned) old new (solo.woken u old) is (woken_stands t u m n old st)
  step (WakeAndRelease u) old new is m n st =
      at m n (times_of t (solo.wake_and_release_answer u old).returned) old new (solo.woken_and_released u old) is
      (woken_released_stands t u m n old st)
  step (Hold u) old new is m n st =
      quiet m n old new (solo.held u old) is (quiet_stands t cells.held held_asks m n u old st)
  step (Release u) old new is m n st =
      at m n (times_of t (solo.release_answer u old).returned) old new (solo.released u old) is (let_go_stands t m n u old st)
  step (Cancel u) old new is m n st =
      at m n (times_of t (solo.cancel_answer u old).returned) old new (solo.cancelled u old) is (cancelled_stands t u m n old st)
  step (Detach u) old new is m n st =
      at m n (times_of t (solo.detach_answer u old).returned) old new (solo.detached u old) is (detached_stands t u m n old st)
  step (Poll u waker) old new is m n st =
      quiet m n old new (solo.polled u waker old) is (quiet_stands t (cells.polled waker) (polled_asks waker) m n u old st)
  step (Retract u) old new is m n st =
      subst (Stands t (m + 0) (n + one t u)) (sym is)
      (none_out t m (n + one t u) (closing.retracted u old) (retracted_stands t u m n old st))
  step MakeTick old new (inl is) m n st = quiet m n old new (ticks.roomy old) is st
  step MakeTick old new (inr is) m n st = quiet m n old new old is st
  step (TickTake ticker waker) old new is m n st =
      at m n (times_of t (ticks.take_answer ticker waker old).returned) old new (ticks.taken ticker waker old) is
      (tick_taken_stands t (solo.sought old) ticker waker m n (solo.popped old) (popped_stands t m n old st))
  step (TickSearch ticker) old new is m n st =
      subst (λ s. Stands t (m + handed_away t (TickSearch ticker) old new is) (n + 0) s) (sym is)
      (weaker t (m + handed_away t (TickSearch ticker) old new is) n (m + handed_away t (TickSearch ticker) old new is) (n + 0)
      (ticks.searched ticker old) (omega arith) (omega arith)
      (tick_searched_stands t (solo.sought old) ticker m n (solo.popped old) (popped_stands t m n old st)))
  step (TickSleep ticker waker) old new is m n st =
      at m n (times_of t (ticks.slept_answer ticker waker old).returned) old new (ticks.slept ticker waker old) is
      (slept_stands t ticker waker m n old st)
  step (TickLeave ticker) old new is m n st =
      at m n (times_of t (ticks.leave_answer ticker old).told.returned) old new (ticks.left ticker old) is
      (tick_left_stands t ticker m n old st)
  step MakeRun old new (inl is) m n st = quiet m n old new (runs.made old) is (made_stands m n old st)
  step MakeRun old new (inr is) m n st = quiet m n old new old is st
  step (RunBegin runner) old new is m n st =
      quiet m n old new (runs.begun runner old) is (begun_run_stands runner.number m n old st)
  step (RunTake runner ticker waker start) old new is m n st =
      let found = seek_answer runner.number start old in
      let s : Solo F T X = sought runner.number start old in
      at m n (times_of t (runs.take_answer runner ticker waker start old).ticked.returned) old new
      (runs.took runner ticker waker start old) is
      (run_taken_stands t found.task found.has_walked runner ticker waker m n s (sought_stands t m n runner.number start old st))
  step (RunSearch runner ticker start) old new is m n st =
      let found = seek_answer runner.number start old in
      let s : Solo F T X = sought runner.number start old in
      at m n (handed_away t (RunSearch runner ticker start) old new is) old new (runs.searched runner ticker start old) is
      (run_searched_stands t found.task found.has_walked runner ticker m n s
      (sought_stands t m n runner.number start old st))
  step (RunLeave runner) old new is m n st =
      at m n (handed_away t (RunLeave runner) old new is) old new (runs.left runner old) is (run_left_stands t runner m n old st)
  step (RunDrain leaving) old new is m n st =
      subst (Stands t (m + handed_away t (RunDrain leaving) old new is) (n + times_left t leaving.own)) (sym is)
      (run_drained_stands t (runs.first_left leaving.own) leaving m n old refl st)
  step Leak old new is m n st = quiet m n old new (closing.leaked old) is st
  step LeakNext old new is m n st =
      at m n (handed_away t LeakNext old new is) old new (closing.leak_woken old) is
      (leak_stands t (slice_get old.leaving.items 0) m n (closing.first_left old) st)
  step Close old new is m n st = quiet m n old new (closing.closed old) is st
  step Drain old new is m n st =
      at m n (handed_away t Drain old new is) old new (closing.drained old) is
      (drained_stands t (first_parts old.going.entries) m n (closing.first_going old) st)

  course : (calls : List (Call F T X)) (first last : Solo F T X) (does : Course calls first last) (m n : ℕ) → Stands t m n first
      → Stands t (m + all_away t calls first last does) (n + sum_of (brought_back t) calls) last
  course [] first last does m n st =
      subst (Stands t (m + 0) (n + 0)) (sym does) (weaker t m n (m + 0) (n + 0) first (omega arith) (omega arith) st)
  course (call ∷ calls) first last does m n st =
      let away : ℕ = handed_away t call first does.0 does.1 in
      let back : ℕ = brought_back t call in
      let rest : ℕ = all_away t calls does.0 last does.2 in
      let more : ℕ = sum_of (brought_back t) calls in
      weaker t (m + away + rest) (n + back + more) (m + (away + rest)) (n + (back + more)) last (omega arith) (omega arith)
      (course calls does.0 last does.2 (m + away) (n + back) (step call first does.0 does.1 m n st))

  new_stands : (limit : ℕ) (kind : Kind) (s : Solo F T X) → solo.IsNew limit kind s → Stands t 0 0 s
  new_stands limit kind s new =
      let none : get s.cells.slab t.key ≡ None = ap (λ slots. slice_index_or slots t.key None) new.cells in
      let line : times_lined t s.lines ≡ 0 = ap (times_lined t) new.lines in
      let queues : sum_by (times_own t) s.runs.queues ≡ 0 = ap (λ (o : own.OwnQueuesValue). sum_by (times_own t) o.queues) new.runs in
      (ap (asked_by unfit false t) none, omega (arith, line, queues))

  pub stands_once : (limit : ℕ) (kind : Kind) (calls : List (Call F T X)) (first last : Solo F T X) → solo.IsNew limit kind first
      → (does : Course calls first last) → StandsOnce t calls first last does
  stands_once limit kind calls first last new does =
      let all = (course calls first last does 0 0 (new_stands limit kind first new)).1 in
      let most = at_most_one (asked cells.may_start false t last.cells) in
      let stands : times_queued t last + all_away t calls first last does ≤ sum_of (brought_back t) calls + 1 = omega (arith, all, most) in
      stands
