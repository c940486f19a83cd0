-- What telling, queueing, sleeping and stealing leave of the tasks: what their wakes, the releases of their wakers and their going leave.
use Rattle.std.proofs.Common.{ℕ, zero, suc, ◌%◌, nat_lt, Bool, true, false, Option, Some, None}
use Rattle.executor_parts.specs.declared.mark.Mark.{Mark}
use Rattle.executor_parts.specs.declared.mark.Mark.TheVariants.{Plain, Urgent}
use Rattle.executor_parts.specs.declared.places.EntryPlace.{EntryPlace}
use Rattle.executor_parts.specs.Places.{entry_in, parts_of}
use Rattle.executor_parts.specs.Sleepers.{last_waker, without_last, waker_of, position_of, listed}
use Rattle.task_moves.specs.declared.local_task.answers.Start.{Start}
use Rattle.task_moves.specs.declared.local_task.answers.Start.TheVariants.{Poll, Drop}
use Rattle.solo.specs.declared.names.Task.{Task}
use Rattle.solo.specs.declared.names.SoloWaker.{SoloWaker}
use Rattle.solo.specs.declared.names.SoloWaker.TheVariants.{Task as OfTask, Outside}
use Rattle.solo.specs.declared.runs.Runner.{Runner}
use Rattle.solo.specs.declared.ticks.Ticker.{Ticker}
use Rattle.solo.specs.declared.ticks.Ticker.TheVariants.{Awake, Asleep}
use Rattle.solo.specs.declared.steals.Source.{Source}
use Rattle.solo.specs.declared.steals.Source.TheVariants.{Common, Own}
use Rattle.solo.specs.declared.cells.Cells.{Cells}
use Rattle.solo.specs.declared.solo.Solo.{Solo}
use Rattle.solo.specs.OwnQueues as own
use Rattle.solo.specs.Lines.{is_empty, search_answer}
use Rattle.solo.specs.Cells.{asked, changed, tidied}
use Rattle.solo.specs.Cells as cells
use Rattle.solo.specs.Turns.{lined, takes, turned, marked, loosed, handed_by, is_full, handed, told, scheduled, scheduled_if}
use Rattle.solo.specs.Turns.{let_go, let_go_if, left_by_parts, left, without, out_of, begun}
use Rattle.solo.specs.Solo.{popped}
use Rattle.solo.specs.Solo as solo
use Rattle.solo.specs.Ticks as ticks
use Rattle.solo.specs.Steals.{moved, first_of, without_first, kept, stolen, share, length_of, stolen_if, is_own, stolen_at, looked}
use Rattle.solo.specs.Steals.{own_popped}
use Rattle.solo.specs.Steals.{look_answer, round, next_place, further_by, sought_by, sought}
use Rattle.solo.specs.Runs as runs
use Rattle.solo_laws.proofs.Prompt.{chosen}
use Rattle.solo_laws.proofs.Runs.{moved_on_keeps, round_on_keeps}

module _ {F T X : Type 0} (P : Cells T X → Type 0) (wakes : (u : Task) (s : Cells T X) → P s → P (changed cells.woken u s))
    (releases : (u : Task) (s : Cells T X) → P s → P (changed cells.released u s))
    (tidies : (u : Task) (s : Cells T X) → P s → P (tidied u s)) where
  -- what it says of an executor
  abbrev At : Solo F T X → Type 0
  At s = P s.cells

  pub loosed_at : (u : Task) (s : Solo F T X) → At s → At (loosed u s)
  loosed_at u s p =
      let loose : At (turned cells.released u s) = releases u s.cells p in
      chosen At (asked cells.release_queues false u s.cells) (lined u (turned cells.released u s))
      (turned cells.released u s) loose loose

  marked_at : (u : Task) (s : Solo F T X) → At s → At (marked u s)
  marked_at u s p =
      let woke : At (turned cells.woken u s) = wakes u s.cells p in
      chosen At (asked cells.wake_queues false u s.cells) (lined u (turned cells.woken u s))
      (turned cells.woken u s) woke woke

  handed_by_at : (w : Option (SoloWaker X)) (s : Solo F T X) → At s → At (handed_by w s)
  handed_by_at (Some (OfTask u)) s p = tidies u (loosed u (marked u s)).cells (loosed_at u (marked u s) (marked_at u s p))
  handed_by_at (Some (Outside waker)) s p = p
  handed_by_at None s p = p

  pub told_at : (s : Solo F T X) → At s → At (told s)
  told_at s p =
      let on : Solo F T X = record s { notified = true } in
      chosen At s.notified s (handed on) p
      (chosen At (is_full on) (handed_by (last_waker s.sleepers.wakers) (record on { sleepers = without_last s.sleepers })) on
      (handed_by_at (last_waker s.sleepers.wakers) (record on { sleepers = without_last s.sleepers }) p) p)

  pub scheduled_at : (u : Task) (s : Solo F T X) → At s → At (scheduled u s)
  scheduled_at u s p =
      chosen At (takes u s) (told (lined u s)) (lined u s) (told_at (lined u s) p) p

  pub scheduled_if_at : (due : Bool) (u : Task) (s : Solo F T X) → At s → At (scheduled_if due u s)
  scheduled_if_at due u s p = chosen At due (scheduled u s) s (scheduled_at u s p) p

  pub let_go_at : (u : Task) (s : Solo F T X) → At s → At (let_go u s)
  let_go_at u s p =
      let loose : Solo F T X = turned cells.released u s in
      let due : Bool = asked cells.release_queues false u s.cells in
      tidies u (scheduled_if due u loose).cells (scheduled_if_at due u loose (releases u s.cells p))

  let_go_if_at : (w : Option Task) (s : Solo F T X) → At s → At (let_go_if w s)
  let_go_if_at (Some u) s p = let_go_at u s p
  let_go_if_at None s p = p

  left_by_at : (parts : Option (Option F × Option Task)) (s : Solo F T X) → At s → At (left_by_parts parts s)
  left_by_at None s p = p
  left_by_at (Some parts) s p = let_go_if_at parts.1 s p

  pub left_at : (place : EntryPlace) (s : Solo F T X) → At s → At (left place s)
  left_at place s p = left_by_at (parts_of (entry_in place s.table.entries)) (without place s) p

  told_unless_at : (w : Option X) (s : Solo F T X) → At s → At (ticks.told_unless w s)
  told_unless_at (Some w) s p = p
  told_unless_at None s p = told_at s p

  dropped_at : (w : Option (SoloWaker X)) (s : Solo F T X) → At s → At (ticks.waker_dropped w s)
  dropped_at (Some (OfTask u)) s p = let_go_at u s p
  dropped_at (Some (Outside waker)) s p = p
  dropped_at None s p = p

  up_at : (ticker : Ticker) (s : Solo F T X) → At s → At (ticks.up ticker s)
  up_at (Awake _) s p = p
  up_at (Asleep sleeper) s p = p

  pub woke_at : (ticker : Ticker) (s : Solo F T X) → At s → At (runs.told ticker s)
  woke_at ticker s p =
      told_unless_at (ticks.wake_up_answer ticker s).told.sleeper (ticks.woke_up ticker s)
      (dropped_at (ticks.kept_by ticker s) (ticks.up ticker s) (up_at ticker s p))

  anew_at : (b : Bool) (waker : SoloWaker X) (s : Solo F T X) → At s → At (ticks.lain_anew b waker s)
  anew_at true waker s p = p
  anew_at false waker s p = p

  again_at : (at : Option ℕ) (number : ℕ) (waker : SoloWaker X) (s : Solo F T X) → At s → At (ticks.lain_again at number waker s)
  again_at (Some at) number waker s p = dropped_at (waker_of number s.sleepers.wakers) (ticks.replaced at number waker s) p
  again_at None number waker s p = chosen At (ticks.is_short s) (ticks.stored (listed number waker s.sleepers) s) s p p

  pub asleep_at : (ticker : Ticker) (waker : SoloWaker X) (s : Solo F T X) → At s → At (ticks.fallen_asleep ticker waker s)
  asleep_at (Awake _) waker s p = anew_at (nat_lt s.sleepers.count s.sleepers.rooms) waker s p
  asleep_at (Asleep sleeper) waker s p = again_at (position_of sleeper.number s.sleepers.wakers) sleeper.number waker s p

  leave_by_at : (w : Option (SoloWaker X)) (s : Solo F T X) → At s → At (ticks.left_by w s)
  leave_by_at None s p = told_at s p
  leave_by_at (Some w) s p = dropped_at (Some w) s p

  pub tick_left_at : (ticker : Ticker) (s : Solo F T X) → At s → At (ticks.left ticker s)
  tick_left_at (Awake _) s p = p
  tick_left_at (Asleep sleeper) s p =
      leave_by_at (waker_of sleeper.number s.sleepers.wakers) (ticks.gone sleeper.number s) p

  out_of_at : (start : Option (Start EntryPlace)) (s : Solo F T X) → At s → At (out_of start s)
  out_of_at (Some (Poll place)) s p = p
  out_of_at (Some (Drop place)) s p = p
  out_of_at None s p = p

  without_first_at : (source : Source) (s : Solo F T X) → At s → At (without_first source s)
  without_first_at (Common mark) s p = p
  without_first_at (Own number) s p = p

  moved_at : (n : ℕ) (source : Source) (number : ℕ) (s : Solo F T X) → At s → At (moved n source number s)
  moved_at zero source number s p = p
  moved_at (suc n) source number s p =
      let rest = without_first_at source s p in
      moved_on_keeps At (first_of source s) (without_first source s)
      (λ u. moved n source number (kept number u (without_first source s))) rest
      (λ u. moved_at n source number (kept number u (without_first source s)) rest)

  stolen_at_of : (source : Source) (number : ℕ) (s : Solo F T X) → At s → At (stolen source number s)
  stolen_at_of source number s p = moved_at (share (length_of source s) (own.free_of number s.runs)) source number s p

  looked_at : (number at : ℕ) (s : Solo F T X) → At s → At (looked number at s)
  looked_at number at s p =
      chosen At (is_own number at s) s (own_popped number (stolen_at number at s)) p
      (stolen_at_of (Own (own.number_at at s.runs.queues)) number s p)

  round_at : (count number n at : ℕ) (s : Solo F T X) → At s → At (round count number n at s).1
  round_at count number zero at s p = p
  round_at count number (suc n) at s p =
      round_on_keeps At (look_answer number at s) (looked number at s)
      (round count number n (next_place at count) (looked number at s)) (looked_at number at s p)
      (round_at count number n (next_place at count) (looked number at s) (looked_at number at s p))

  further_at : (first : Option Task) (mark : Mark) (number start : ℕ) (s : Solo F T X) → At s
      → At (further_by first mark number start s)
  further_at (Some u) mark number start s p = stolen_at_of (Common mark) number s p
  further_at None mark number start s p = round_at s.runs.listed number s.runs.listed (start % s.runs.listed) s p

  sought_by_at : (first : Option Task) (number start : ℕ) (s : Solo F T X) → At s → At (sought_by first number start s)
  sought_by_at (Some u) number start s p = p
  sought_by_at None number start s p =
      further_at (search_answer s.lines).task (search_answer s.lines).mark number start (popped s) p

  pub sought_at : (number start : ℕ) (s : Solo F T X) → At s → At (sought number start s)
  sought_at number start s p = sought_by_at (own.first_of number s.runs) number start (own_popped number s) p

  pub slept_at : (ticker : Ticker) (waker : SoloWaker X) (s : Solo F T X) → At s → At (ticks.slept ticker waker s)
  slept_at ticker waker s p =
      chosen At (is_empty s.lines) (ticks.fallen_asleep ticker waker s) s (asleep_at ticker waker s p) p

  pub run_drained_at : (first : Option Task) (ticker : Ticker) (s : Solo F T X) → At s → At (runs.drained_by first ticker s)
  run_drained_at (Some u) ticker s p = scheduled_at u s p
  run_drained_at None ticker s p = tick_left_at ticker s p

  module _ (starts : (u : Task) (s : Cells T X) → P s → P (changed cells.started u s)) where
    pub begun_at : (u : Task) (s : Solo F T X) → At s → At (begun u s)
    begun_at u s p = out_of_at (asked cells.start_answer None u s.cells) (turned cells.started u s) (starts u s.cells p)

    pub taken_by_at : (first : Option Task) (s : Solo F T X) → At s → At (solo.taken_by first s)
    taken_by_at None s p = p
    taken_by_at (Some u) s p = begun_at u (told s) (told_at s p)

    pub tick_taken_at : (first : Option Task) (ticker : Ticker) (waker : SoloWaker X) (s : Solo F T X) → At s
        → At (ticks.taken_by first ticker waker s)
    tick_taken_at (Some u) ticker waker s p = begun_at u (runs.told ticker s) (woke_at ticker s p)
    tick_taken_at None ticker waker s p = asleep_at ticker waker s p

    pub tick_searched_at : (first : Option Task) (ticker : Ticker) (s : Solo F T X) → At s
        → At (ticks.searched_by first ticker s)
    tick_searched_at (Some u) ticker s p = begun_at u (runs.told ticker s) (woke_at ticker s p)
    tick_searched_at None ticker s p = p

    run_found_at : (runner : Runner) (ticker : Ticker) (u : Task) (s : Solo F T X) → At s → At (runs.found runner ticker u s)
    run_found_at runner ticker u s p =
        let after : Solo F T X = runs.told ticker s in
        let woke : At after = woke_at ticker s p in
        let urgent : Solo F T X = stolen (Common Urgent) runner.number after in
        begun_at u (stolen_if (runs.is_steal_due runner) runner.number after)
        (chosen At (runs.is_steal_due runner) (stolen (Common Plain) runner.number urgent) after
        (stolen_at_of (Common Plain) runner.number urgent (stolen_at_of (Common Urgent) runner.number after woke)) woke)

    pub run_taken_at : (first : Option Task) (runner : Runner) (ticker : Ticker) (waker : SoloWaker X) (s : Solo F T X) → At s
        → At (runs.took_by first runner ticker waker s)
    run_taken_at (Some u) runner ticker waker s p = run_found_at runner ticker u s p
    run_taken_at None runner ticker waker s p = asleep_at ticker waker s p

    pub run_searched_at : (first : Option Task) (runner : Runner) (ticker : Ticker) (s : Solo F T X) → At s
        → At (runs.searched_by first runner ticker s)
    run_searched_at (Some u) runner ticker s p = run_found_at runner ticker u s p
    run_searched_at None runner ticker s p = p
