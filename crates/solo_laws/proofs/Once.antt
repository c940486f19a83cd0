-- Call by call: a task stands in queues no more often than it is ready for it.
use Rattle.std.proofs.Common.{◌≡◌, ℕ, ◌+◌, ◌≤◌, ◌==◌, ◌&&◌, ◌||◌, nat_lt, Bool, true, false, List, Option, Some, None}
use Rattle.std.proofs.Common.{slice_get, is_some, refl, sym, ap, subst, arith}
use Rattle.slab.specs.Slab.{get}
use Rattle.executor_parts.specs.declared.mark.Mark.TheVariants.{Urgent}
use Rattle.executor_parts.specs.declared.places.EntryPlace.{EntryPlace}
use Rattle.executor_parts.specs.declared.sleepers.Sleeper.{Sleeper}
use Rattle.executor_parts.specs.Places.{entry_in, future_of}
use Rattle.executor_parts.specs.Sleepers.{position_of, waker_of, listed}
use Rattle.task_moves.specs.declared.local_task.answers.Back.{Back}
use Rattle.task_moves.specs.declared.local_task.answers.Back.TheVariants.{Ready, Pending}
use Rattle.solo.specs.declared.names.Task.{Task}
use Rattle.solo.specs.declared.names.SoloWaker.{SoloWaker}
use Rattle.solo.specs.declared.names.SoloWaker.TheVariants.{Task as OfTask, Outside}
use Rattle.solo.specs.declared.owed.Lent.{Lent}
use Rattle.solo.specs.declared.runs.Runner.{Runner}
use Rattle.solo.specs.declared.runs.Leaving.{Leaving}
use Rattle.solo.specs.declared.ticks.Ticker.{Ticker}
use Rattle.solo.specs.declared.ticks.Ticker.TheVariants.{Awake, Asleep}
use Rattle.solo.specs.declared.ticks.Look.TheVariants.{Again, Nothing as NothingSeen}
use Rattle.solo.specs.declared.solo.Solo.{Solo}
use Rattle.solo.specs.declared.cells.Cell.{Cell}
use Rattle.solo.specs.declared.cells.Cells.{Cells}
use Rattle.solo.specs.declared.cells.After.{After}
use Rattle.solo.specs.declared.cells.After.TheVariants.{Queue, Rest, Drop as DropFuture, Unknown}
use Rattle.solo.specs.Lines.{is_empty, taken_from}
use Rattle.solo.specs.Cells.{choose, asked, asked_by}
use Rattle.solo.specs.Cells as cells
use Rattle.solo.specs.Turns as turns
use Rattle.solo.specs.Turns.{turned}
use Rattle.solo.specs.Steals.{stolen_if}
use Rattle.solo.specs.OwnQueues as own
use Rattle.solo.specs.Solo as solo
use Rattle.solo.specs.Closing as closing
use Rattle.solo.specs.Runs as runs
use Rattle.solo.specs.Ticks as ticks
use Rattle.solo_laws.specs.Queueing.{one_if, is_task, one, times_of, times_left, times_searched, times_sought, times_told}
use Rattle.solo_laws.specs.Queueing.{times_run_left, times_owed}
use Rattle.solo_laws.proofs.Fitness.{woken_asks, cancelled_asks, detached_asks, released_asks, ended_ready_asks}
use Rattle.solo_laws.proofs.Fitness.{ended_pending_asks, finished_asks, retracted_fits, is_queue}
use Rattle.solo_laws.proofs.OwnPlaces.{first_times, closed_times}
use Rattle.solo_laws.proofs.LinePlaces.{taken_times}
use Rattle.solo_laws.proofs.Standing.{Stands, weaker, evened, turned_stands, quiet_stands, ended_stands, swept_stands, loosed_stands}
use Rattle.solo_laws.proofs.Standing.{told_stands, scheduled_stands, scheduled_if_stands, let_go_stands, left_stands, begun_stands}
use Rattle.solo_laws.proofs.Standing.{out_stands, stolen_if_stands}

queue_asked : (b : Bool) (after : After) → is_queue (choose b after Unknown) ≡ choose b (is_queue after) false
queue_asked true after = refl
queue_asked false after = refl

either : (a b c : Bool) → one_if ((a || b) && c) ≤ one_if (a && c) + one_if (b && c)
either true b true = omega arith
either true b false = omega arith
either false b c = omega arith

module _ {T X : Type 0} where
  some_asked : {B : Type 0} (g : cells.Kept T X → Option B) (u : Task) (c : Cells T X)
      → is_some (asked g None u c) ≡ asked (λ v. is_some (g v)) false u c
  some_asked {B} g u c = by (get c.slab u.key)
    where
      chosen_some : (b : Bool) (o : Option B) → is_some (choose b o None) ≡ choose b (is_some o) false
      chosen_some true o = refl
      chosen_some false o = refl

      by : (found : Option (Cell T X)) → is_some (asked_by g None u found) ≡ asked_by (λ v. is_some (g v)) false u found
      by None = refl
      by (Some d) = chosen_some (d.number == u.number) (g d.task)

module _ (t : Task) where
  left_first : (tasks : Option (List Task)) → times_left t tasks ≡ times_of t (runs.first_left tasks) + times_left t (runs.rest_left tasks)
  left_first None = refl
  left_first (Some tasks) = first_times t tasks

module _ (t : Task) {F T X : Type 0} where
  -- what is handed out or brought back besides nothing
  pub none_out : (m n : ℕ) (s : Solo F T X) → Stands t m n s → Stands t (m + 0) n s
  none_out m n s st = weaker t m n (m + 0) n s (omega arith) (omega arith) st

  none_more : (m n : ℕ) (s : Solo F T X) → Stands t (m + 0) n s → Stands t m n s
  none_more m n s st = weaker t (m + 0) n m n s (omega arith) (omega arith) st

  pub taken_stands : (first : Option Task) (m n : ℕ) (s : Solo F T X) → Stands t (m + times_of t first) n s
      → Stands t m n (solo.taken_by first s)
  taken_stands None m n s st = none_more m n s st
  taken_stands (Some u) m n s st = begun_stands t m n u (turns.told s) (told_stands t (m + one t u) n s st)

  told_unless_stands : (w : Option X) (m n : ℕ) (s : Solo F T X) → Stands t m n s → Stands t m n (ticks.told_unless w s)
  told_unless_stands (Some w) m n s st = st
  told_unless_stands None m n s st = told_stands t m n s st

  dropped_stands : (w : Option (SoloWaker X)) (m n : ℕ) (s : Solo F T X) → Stands t m n s
      → Stands t (m + times_of t (ticks.drop_waker_answer w s).told.returned) n (ticks.waker_dropped w s)
  dropped_stands (Some (OfTask u)) m n s st = let_go_stands t m n u s st
  dropped_stands (Some (Outside waker)) m n s st = none_out m n s st
  dropped_stands None m n s st = none_out m n s st

  up_stands : (ticker : Ticker) (m n : ℕ) (s : Solo F T X) → Stands t m n s → Stands t m n (ticks.up ticker s)
  up_stands (Awake _) m n s st = st
  up_stands (Asleep sleeper) m n s st = st

  woke_stands : (ticker : Ticker) (m n : ℕ) (s : Solo F T X) → Stands t m n s
      → Stands t (m + times_of t (ticks.wake_up_answer ticker s).told.returned) n (runs.told ticker s)
  woke_stands ticker m n s st =
      told_unless_stands (ticks.wake_up_answer ticker s).told.sleeper
      (m + times_of t (ticks.wake_up_answer ticker s).told.returned) n (ticks.woke_up ticker s)
      (dropped_stands (ticks.kept_by ticker s) m n (ticks.up ticker s) (up_stands ticker m n s st))

  found_stands : (ticker : Ticker) (m n : ℕ) (u : Task) (s : Solo F T X) → Stands t (m + one t u) n s
      → Stands t (m + times_of t (ticks.wake_up_answer ticker s).told.returned) n (ticks.found ticker u s)
  found_stands ticker m n u s st =
      let r : ℕ = times_of t (ticks.wake_up_answer ticker s).told.returned in
      begun_stands t (m + r) n u (runs.told ticker s)
      (weaker t (m + one t u + r) n (m + r + one t u) n (runs.told ticker s) (omega arith) (omega arith)
      (woke_stands ticker (m + one t u) n s st))

  run_found_stands : (runner : Runner) (ticker : Ticker) (m n : ℕ) (u : Task) (s : Solo F T X) → Stands t (m + one t u) n s
      → Stands t (m + times_of t (ticks.wake_up_answer ticker s).told.returned) n (runs.found runner ticker u s)
  run_found_stands runner ticker m n u s st =
      let r : ℕ = times_of t (ticks.wake_up_answer ticker s).told.returned in
      let after : Solo F T X = runs.told ticker s in
      begun_stands t (m + r) n u (stolen_if (runs.is_steal_due runner) runner.number after)
      (stolen_if_stands t (runs.is_steal_due runner) (m + r + one t u) n runner.number after
      (weaker t (m + one t u + r) n (m + r + one t u) n after (omega arith) (omega arith)
      (woke_stands ticker (m + one t u) n s st)))

  anew_stands : (b : Bool) (waker : SoloWaker X) (m n : ℕ) (s : Solo F T X) → Stands t m n s
      → Stands t (m + times_of t (ticks.sleep_anew_answer b waker s).returned) n (ticks.lain_anew b waker s)
  anew_stands true waker m n s st = none_out m n s st
  anew_stands false waker m n s st = none_out m n s st

  again_stands : (at : Option ℕ) (sleeper : Sleeper) (waker : SoloWaker X) (m n : ℕ) (s : Solo F T X) → Stands t m n s
      → Stands t (m + times_of t (ticks.sleep_again_answer at sleeper waker s).returned) n (ticks.lain_again at sleeper.number waker s)
  again_stands (Some at) sleeper waker m n s st =
      dropped_stands (waker_of sleeper.number s.sleepers.wakers) m n (ticks.replaced at sleeper.number waker s) st
  again_stands None sleeper waker m n s st = by (ticks.is_short s)
    where
      by : (b : Bool)
          → Stands t
          (m + times_of t (choose b
          (ticks.look_answer (Asleep sleeper) Again None None s)
          (ticks.look_answer (Asleep sleeper) NothingSeen None (Some waker) s)).returned)
          n (choose b (ticks.stored (listed sleeper.number waker s.sleepers) s) s)
      by true = none_out m n s st
      by false = none_out m n s st

  asleep_stands : (ticker : Ticker) (waker : SoloWaker X) (m n : ℕ) (s : Solo F T X) → Stands t m n s
      → Stands t (m + times_of t (ticks.sleep_answer ticker waker s).returned) n (ticks.fallen_asleep ticker waker s)
  asleep_stands (Awake _) waker m n s st = anew_stands (nat_lt s.sleepers.count s.sleepers.rooms) waker m n s st
  asleep_stands (Asleep sleeper) waker m n s st =
      again_stands (position_of sleeper.number s.sleepers.wakers) sleeper waker m n s st

  pub tick_taken_stands : (first : Option Task) (ticker : Ticker) (waker : SoloWaker X) (m n : ℕ) (s : Solo F T X)
      → Stands t (m + times_of t first) n s
      → Stands t (m + times_of t (ticks.take_answer_by first ticker waker s).returned) n (ticks.taken_by first ticker waker s)
  tick_taken_stands (Some u) ticker waker m n s st = found_stands ticker m n u s st
  tick_taken_stands None ticker waker m n s st = asleep_stands ticker waker m n s (none_more m n s st)

  pub tick_searched_stands : (first : Option Task) (ticker : Ticker) (m n : ℕ) (s : Solo F T X)
      → Stands t (m + times_of t first) n s
      → Stands t (m + times_searched t (ticks.search_answer_by first ticker s)) n (ticks.searched_by first ticker s)
  tick_searched_stands (Some u) ticker m n s st = found_stands ticker m n u s st
  tick_searched_stands None ticker m n s st = st

  pub slept_stands : (ticker : Ticker) (waker : SoloWaker X) (m n : ℕ) (s : Solo F T X) → Stands t m n s
      → Stands t (m + times_of t (ticks.slept_answer ticker waker s).returned) n (ticks.slept ticker waker s)
  slept_stands ticker waker m n s st = by (is_empty s.lines)
    where
      by : (b : Bool)
          → Stands t
          (m
          + times_of t
          (choose b (ticks.sleep_answer ticker waker s) (ticks.look_answer ticker Again None (Some waker) s)).returned)
          n (choose b (ticks.fallen_asleep ticker waker s) s)
      by true = asleep_stands ticker waker m n s st
      by false = none_out m n s st

  pub run_taken_stands : (first : Option Task) (walked : Bool) (runner : Runner) (ticker : Ticker) (waker : SoloWaker X) (m n : ℕ)
      (s : Solo F T X)
      → Stands t (m + times_of t first) n s
      → Stands t (m + times_of t (runs.take_answer_by first walked runner ticker waker s).ticked.returned) n
      (runs.took_by first runner ticker waker s)
  run_taken_stands (Some u) walked runner ticker waker m n s st = run_found_stands runner ticker m n u s st
  run_taken_stands None walked runner ticker waker m n s st = asleep_stands ticker waker m n s (none_more m n s st)

  pub run_searched_stands : (first : Option Task) (walked : Bool) (runner : Runner) (ticker : Ticker) (m n : ℕ)
      (s : Solo F T X)
      → Stands t (m + times_of t first) n s
      → Stands t (m + times_sought t (runs.search_answer_by first walked runner ticker s)) n
      (runs.searched_by first runner ticker s)
  run_searched_stands (Some u) walked runner ticker m n s st = run_found_stands runner ticker m n u s st
  run_searched_stands None walked runner ticker m n s st = st

  leave_by_stands : (w : Option (SoloWaker X)) (m n : ℕ) (s : Solo F T X) → Stands t m n s
      → Stands t (m + times_of t (ticks.leave_answer_by w s).told.returned) n (ticks.left_by w s)
  leave_by_stands None m n s st = none_out m n (turns.told s) (told_stands t m n s st)
  leave_by_stands (Some w) m n s st = dropped_stands (Some w) m n s st

  pub tick_left_stands : (ticker : Ticker) (m n : ℕ) (s : Solo F T X) → Stands t m n s
      → Stands t (m + times_of t (ticks.leave_answer ticker s).told.returned) n (ticks.left ticker s)
  tick_left_stands (Awake _) m n s st = none_out m n s st
  tick_left_stands (Asleep sleeper) m n s st =
      leave_by_stands (waker_of sleeper.number s.sleepers.wakers) m n (ticks.gone sleeper.number s) st

  pub run_left_stands : (runner : Runner) (m n : ℕ) (s : Solo F T X) → Stands t m n s
      → Stands t (m + times_left t (own.queue_of runner.number s.runs.queues)) n (runs.left runner s)
  run_left_stands runner m n s st =
      let goes = closed_times t runner.number s.runs in
      (st.0, (let less = st.1 in omega (arith, less, goes)))

  pub run_drained_stands : (first : Option Task) (leaving : Leaving) (m n : ℕ) (s : Solo F T X) → runs.first_left leaving.own ≡ first
      → Stands t m n s
      → Stands t (m + times_run_left t (runs.drain_answer_by first leaving s)) (n + times_left t leaving.own)
      (runs.drained_by first leaving.ticker s)
  run_drained_stands (Some u) leaving m n s is st =
      let rest : ℕ = times_left t (runs.rest_left leaving.own) in
      let all = left_first t leaving.own in
      let first_is : times_of t (runs.first_left leaving.own) ≡ one t u = ap (times_of t) is in
      let more : Stands t (m + rest + one t u) (n + times_left t leaving.own) s =
      (st.0, (let less = st.1 in omega (arith, less, all, first_is))) in
      let r : ℕ = times_of t (turns.schedule_answer u s).returned in
      weaker t (m + rest + r) (n + times_left t leaving.own) (m + (rest + r)) (n + times_left t leaving.own) (turns.scheduled u s)
      (omega arith) (omega arith) (scheduled_stands t (m + rest) (n + times_left t leaving.own) u s more)
  run_drained_stands None leaving m n s is st =
      let r : ℕ = times_of t (ticks.leave_answer leaving.ticker s).told.returned in
      weaker t (m + r) n (m + r) (n + times_left t leaving.own) (ticks.left leaving.ticker s) (omega arith) (omega arith)
      (tick_left_stands leaving.ticker m n s st)

  pending_stands : (after : After) (lent : Lent) (future : F) (m n : ℕ) (s : Solo F T X)
      → Stands t (m + one_if (is_queue after && is_task t lent.task)) n s
      → Stands t (m + times_of t (solo.pending_answer_by after lent future s).returned) n (solo.pending_by after lent future s)
  pending_stands DropFuture lent future m n s st = st
  pending_stands Unknown lent future m n s st = st
  pending_stands Rest lent future m n s st = st
  pending_stands Queue lent future m n s st = scheduled_stands t m n lent.task (solo.put_back lent future s) st

  after_asked : (lent : Lent) (s : Solo F T X)
      → is_queue (solo.after_poll lent s) ≡ asked (λ v. is_queue (cells.pending_answer v)) false lent.task s.cells
  after_asked lent s = by (get s.cells.slab lent.task.key)
    where
      by : (found : Option (Cell T X))
          → is_queue (asked_by cells.pending_answer Unknown lent.task found)
          ≡ asked_by (λ v. is_queue (cells.pending_answer v)) false lent.task found
      by None = refl
      by (Some c) = queue_asked (c.number == lent.task.number) (cells.pending_answer c.task)

  pub settled_stands : (lent : Lent) (back : Back F T) (m n : ℕ) (s : Solo F T X) → Stands t m n s
      → Stands t (m + times_of t (solo.settle_answer lent back s).returned) n (solo.settled lent back s)
  settled_stands lent (Ready output) m n s st =
      let gone : Solo F T X = turns.left lent.place s in
      let r : ℕ = times_of t (turns.left_answer lent.place s).told.returned in
      swept_stands t (m + r) n lent.task (turned (cells.ended_ready output) lent.task gone)
      (quiet_stands t (cells.ended_ready output) (ended_ready_asks output) (m + r) n lent.task gone (left_stands t m n lent.place s st))
  settled_stands lent (Pending future) m n s st =
      let over : Solo F T X = turned (cells.ended_pending lent.place) lent.task s in
      let queues : Bool = asked (λ v. is_queue (cells.pending_answer v)) false lent.task s.cells in
      let asks : Stands t (m + one_if (queues && is_task t lent.task)) n over =
      turned_stands t (cells.ended_pending lent.place) (λ v. is_queue (cells.pending_answer v)) (ended_pending_asks lent.place)
      m n lent.task s st in
      pending_stands (solo.after_poll lent s) lent future m n over
      (subst (λ b. Stands t (m + one_if (b && is_task t lent.task)) n over) (sym (after_asked lent s)) asks)

  pub finished_stands : (lent : Lent) (m n : ℕ) (s : Solo F T X) → Stands t m n s
      → Stands t (m + times_of t (solo.finish_answer lent s).returned) n (solo.finished lent s)
  finished_stands lent m n s st =
      let gone : Solo F T X = turns.left lent.place s in
      let r : ℕ = times_of t (turns.left_answer lent.place s).told.returned in
      swept_stands t (m + r) n lent.task (turned cells.finished lent.task gone)
      (quiet_stands t cells.finished finished_asks (m + r) n lent.task gone (left_stands t m n lent.place s st))

  pub woken_stands : (u : Task) (m n : ℕ) (s : Solo F T X) → Stands t m n s
      → Stands t (m + times_of t (solo.wake_answer u s).returned) n (solo.woken u s)
  woken_stands u m n s st =
      scheduled_if_stands t (asked cells.wake_queues false u s.cells) m n u (turned cells.woken u s)
      (turned_stands t cells.woken cells.wake_queues woken_asks m n u s st)

  pub woken_released_stands : (u : Task) (m n : ℕ) (s : Solo F T X) → Stands t m n s
      → Stands t (m + times_of t (solo.wake_and_release_answer u s).returned) n (solo.woken_and_released u s)
  woken_released_stands u m n s st =
      let woke : Solo F T X = turned cells.woken u s in
      let loose : Solo F T X = turned cells.released u woke in
      let a : Bool = asked cells.wake_queues false u s.cells in
      let b : Bool = asked cells.release_queues false u woke.cells in
      let r : ℕ = times_of t (solo.wake_and_release_answer u s).returned in
      let first : Stands t (m + one_if (a && is_task t u)) n woke = turned_stands t cells.woken cells.wake_queues woken_asks m n u s st in
      let second : Stands t (m + one_if (a && is_task t u) + one_if (b && is_task t u)) n loose =
      turned_stands t cells.released cells.release_queues released_asks (m + one_if (a && is_task t u)) n u woke first in
      let due : Stands t (m + one_if ((a || b) && is_task t u)) n loose =
      weaker t (m + one_if (a && is_task t u) + one_if (b && is_task t u)) n (m + one_if ((a || b) && is_task t u)) n loose
      (let less = either a b (is_task t u) in omega (arith, less)) (omega arith) second in
      swept_stands t (m + r) n u (turns.scheduled_if (a || b) u loose) (scheduled_if_stands t (a || b) m n u loose due)

  pub cancelled_stands : (u : Task) (m n : ℕ) (s : Solo F T X) → Stands t m n s
      → Stands t (m + times_of t (solo.cancel_answer u s).returned) n (solo.cancelled u s)
  cancelled_stands u m n s st =
      scheduled_if_stands t (is_some (asked cells.cancel_queues None u s.cells)) m n u (turned cells.cancelled u s)
      (subst (λ b. Stands t (m + one_if (b && is_task t u)) n (turned cells.cancelled u s)) (sym (some_asked cells.cancel_queues u s.cells))
      (turned_stands t cells.cancelled (λ v. is_some (cells.cancel_queues v)) cancelled_asks m n u s st))

  pub detached_stands : (u : Task) (m n : ℕ) (s : Solo F T X) → Stands t m n s
      → Stands t (m + times_of t (solo.detach_answer u s).returned) n (solo.detached u s)
  detached_stands u m n s st =
      let due : Bool = is_some (asked cells.detach_queues None u s.cells) in
      let off : Solo F T X = turned cells.detached u s in
      swept_stands t (m + times_of t (solo.detach_answer u s).returned) n u (turns.scheduled_if due u off)
      (scheduled_if_stands t due m n u off
      (subst (λ b. Stands t (m + one_if (b && is_task t u)) n off) (sym (some_asked cells.detach_queues u s.cells))
      (turned_stands t cells.detached (λ v. is_some (cells.detach_queues v)) detached_asks m n u s st)))

  gone_stands : (u : Task) (m n : ℕ) (s : Solo F T X) → Stands t m n s → Stands t m n (closing.finished_gone u s)
  gone_stands u m n s st =
      swept_stands t m n u (turned cells.finished u s) (quiet_stands t cells.finished finished_asks m n u s st)

  retracted_future_stands : (future : Option F) (u : Task) (m n : ℕ) (s : Solo F T X) → Stands t m n s
      → Stands t m n (closing.retracted_future future u s)
  retracted_future_stands (Some future) u m n s st = st
  retracted_future_stands None u m n s st = gone_stands u m n s st

  retracted_by_stands : (place : Option EntryPlace) (u : Task) (m n : ℕ) (s : Solo F T X) → Stands t m n s
      → Stands t m n (closing.retracted_by place u s)
  retracted_by_stands (Some place) u m n s st =
      retracted_future_stands (future_of (entry_in place s.table.entries)) u m n (closing.out place s) st
  retracted_by_stands None u m n s st = st

  pub retracted_stands : (u : Task) (m n : ℕ) (s : Solo F T X) → Stands t m n s → Stands t m (n + one t u) (closing.retracted u s)
  retracted_stands u m n s st =
      retracted_by_stands (asked cells.retract_answer None u s.cells) u m (n + one t u) (turned cells.retracted u s)
      (ended_stands t cells.retracted retracted_fits m (n + one t u) u s (st.0, (let less = st.1 in omega (arith, less))))

  future_returns_none : (future : Option F) (place : EntryPlace) (u : Task) (s : Solo F T X)
      → times_of t (closing.retract_future_answer future place u s).returned ≡ 0
  future_returns_none (Some future) place u s = refl
  future_returns_none None place u s = refl

  retract_by_returns_none : (place : Option EntryPlace) (u : Task) (s : Solo F T X)
      → times_of t (closing.retract_answer_by place u s).returned ≡ 0
  retract_by_returns_none (Some place) u s =
      future_returns_none (future_of (entry_in place s.table.entries)) place u (closing.out place s)
  retract_by_returns_none None u s = refl

  retract_returns_none : (u : Task) (s : Solo F T X) → times_of t (closing.retract_answer u s).returned ≡ 0
  retract_returns_none u s = retract_by_returns_none (asked cells.retract_answer None u s.cells) u (turned cells.retracted u s)

  leaving_stands : (u : Task) (m n : ℕ) (s : Solo F T X) → Stands t m n s
      → Stands t (m + times_of t (closing.leaving_answer u s).returned) n (closing.leaving_woken u s)
  leaving_stands u m n s st =
      let r : ℕ = times_of t (solo.wake_answer u s).returned in
      let woke : Solo F T X = solo.woken u s in
      swept_stands t (m + r) n u (turns.loosed u woke) (loosed_stands t (m + r) n u woke (woken_stands u m n s st))

  pub leak_stands : (first : Option Task) (m n : ℕ) (s : Solo F T X) → Stands t m n s
      → Stands t (m + times_told t (closing.leak_answer_by first s)) n (closing.leak_woken_by first s)
  leak_stands (Some u) m n s st = leaving_stands u m n s st
  leak_stands None m n s st = none_out m n s st

  line_stands : (first : Option Task) (m n : ℕ) (s : Solo F T X) → Stands t (m + times_of t first) n s
      → Stands t (m + times_owed t (closing.line_answer_by first s)) n (closing.line_drained_by first s)
  line_stands (Some u) m n s st =
      let none = retract_returns_none u s in
      weaker t m n (m + times_of t (closing.retract_answer u s).returned) n (closing.retracted u s) (omega (arith, none)) (omega arith)
      (evened t m n (one t u) (closing.retracted u s) (retracted_stands u (m + one t u) n s st))
  line_stands None m n s st = st

  waking_stands : (first : Option Task) (m n : ℕ) (s : Solo F T X) → Stands t m n s
      → Stands t (m + times_owed t (closing.waking_answer first s)) n (closing.drained_waking first s)
  waking_stands (Some u) m n s st = leaving_stands u m n s st
  waking_stands None m n s st =
      let shut : Solo F T X = closing.shut_line s in
      line_stands (closing.first_lined shut) m n (closing.first_out shut)
      (out_stands t (taken_from Urgent shut.lines) (closing.first_lined shut) m n shut (taken_times t Urgent shut.lines) st)

  pub drained_stands : (parts : Option (Option F × Option Task)) (m n : ℕ) (s : Solo F T X) → Stands t m n s
      → Stands t (m + times_owed t (closing.drain_answer_by parts s)) n (closing.drained_by parts s)
  drained_stands (Some parts) m n s st = none_out m n s st
  drained_stands None m n s st = waking_stands (slice_get s.leaving.items 0) m n (closing.first_left s) st
