-- What leaves the number of the next turn as it was: all that a call does but the search.
use Rattle.std.proofs.Common.{◌≡◌, ℕ, zero, suc, ◌+◌, ◌^◌, ◌%◌, nat_lt, Bool, true, false, Option, Some, None, refl, ◌∙◌}
use Rattle.executor_parts.specs.declared.mark.Mark.{Mark}
use Rattle.executor_parts.specs.declared.mark.Mark.TheVariants.{Plain, Urgent}
use Rattle.executor_parts.specs.declared.places.EntryPlace.{EntryPlace}
use Rattle.executor_parts.specs.Marks.{other}
use Rattle.executor_parts.specs.Places.{entry_in, parts_of}
use Rattle.executor_parts.specs.Sleepers.{last_waker, without_last, waker_of, position_of, listed}
use Rattle.task_moves.specs.declared.local_task.answers.Start.{Start}
use Rattle.task_moves.specs.declared.local_task.answers.Start.TheVariants.{Poll, Drop}
use Rattle.solo.specs.declared.names.Task.{Task}
use Rattle.solo.specs.declared.names.SoloWaker.{SoloWaker}
use Rattle.solo.specs.declared.names.SoloWaker.TheVariants.{Task as OfTask, Outside}
use Rattle.solo.specs.declared.runs.Runner.{Runner}
use Rattle.solo.specs.declared.ticks.Ticker.{Ticker}
use Rattle.solo.specs.declared.ticks.Ticker.TheVariants.{Awake, Asleep}
use Rattle.solo.specs.declared.steals.Source.{Source}
use Rattle.solo.specs.declared.steals.Source.TheVariants.{Common, Own}
use Rattle.solo.specs.declared.solo.Solo.{Solo}
use Rattle.solo.specs.OwnQueues as own
use Rattle.solo.specs.Lines.{LinesValue, first_of as first_in, pushed_in, popped_from, taken_by, taken_from, searched, turned as next_turn}
use Rattle.solo.specs.Lines.{mark_of_turn}
use Rattle.solo.specs.Cells.{asked}
use Rattle.solo.specs.Cells as cells
use Rattle.solo.specs.Turns.{mark_of, lined, lined_if, takes, turned, marked, handed_by, is_full, handed, told, scheduled, scheduled_if}
use Rattle.solo.specs.Turns.{let_go}
use Rattle.solo.specs.Turns.{let_go_if, left_by_parts, without, left, out_of, begun}
use Rattle.solo.specs.Ticks as ticks
use Rattle.solo.specs.Steals.{moved, first_of, without_first, kept, stolen, share, length_of, stolen_if, is_own, stolen_at, looked}
use Rattle.solo.specs.Steals.{look_answer, round, next_place, further_by, own_popped}
use Rattle.solo.specs.Runs as runs
use Rattle.solo_laws.proofs.Prompt.{chosen}
use Rattle.solo_laws.proofs.Runs.{moved_on_keeps, round_on_keeps}

pushed_turn : (m : Mark) (task : Task) (l : LinesValue) → (pushed_in m task l).turn ≡ l.turn
pushed_turn Plain task l = refl
pushed_turn Urgent task l = refl

popped_turn : (m : Mark) (l : LinesValue) → (popped_from m l).turn ≡ l.turn
popped_turn Plain l = refl
popped_turn Urgent l = refl

by_turn : (first : Option Task) (m : Mark) (l : LinesValue) → (taken_by first m l).turn ≡ l.turn
by_turn (Some task) m l = refl
by_turn None m l = popped_turn (other m) l

pub taken_turn : (m : Mark) (l : LinesValue) → (taken_from m l).turn ≡ l.turn
taken_turn m l = by_turn (first_in m l) m (popped_from m l) ∙ popped_turn m l

-- a search takes a turn
pub searched_turn : (l : LinesValue) → (searched l).turn ≡ (l.turn + 1) % 2 ^ 64
searched_turn l = taken_turn (mark_of_turn l.turn) (next_turn l)

module _ {F T X : Type 0} where
  abbrev pub At : ℕ → Solo F T X → Type 0
  At t s = s.lines.turn ≡ t

  module _ (t : ℕ) where
    lined_at : (task : Task) (s : Solo F T X) → At t s → At t (lined task s)
    lined_at task s p = pushed_turn (mark_of task s) task s.lines ∙ p

    pub lined_if_at : (due : Bool) (task : Task) (s : Solo F T X) → At t s → At t (lined_if due task s)
    lined_if_at due task s p = chosen (At t) due (lined task s) s (lined_at task s p) p

    handed_by_at : (w : Option (SoloWaker X)) (s : Solo F T X) → At t s → At t (handed_by w s)
    handed_by_at (Some (OfTask task)) s p =
        let first = lined_if_at (asked cells.wake_queues false task s.cells) task (turned cells.woken task s) p in
        lined_if_at (asked cells.release_queues false task (marked task s).cells) task (turned cells.released task (marked task s)) first
    handed_by_at (Some (Outside waker)) s p = p
    handed_by_at None s p = p

    pub told_at : (s : Solo F T X) → At t s → At t (told s)
    told_at s p =
        let on : Solo F T X = record s { notified = true } in
        chosen (At t) s.notified s (handed on) p
        (chosen (At t) (is_full on)
        (handed_by (last_waker s.sleepers.wakers) (record on { sleepers = without_last s.sleepers })) on
        (handed_by_at (last_waker s.sleepers.wakers) (record on { sleepers = without_last s.sleepers }) p) p)

    pub scheduled_at : (task : Task) (s : Solo F T X) → At t s → At t (scheduled task s)
    scheduled_at task s p =
        let q = lined_at task s p in
        chosen (At t) (takes task s) (told (lined task s)) (lined task s) (told_at (lined task s) q) q

    pub scheduled_if_at : (due : Bool) (task : Task) (s : Solo F T X) → At t s → At t (scheduled_if due task s)
    scheduled_if_at due task s p = chosen (At t) due (scheduled task s) s (scheduled_at task s p) p

    pub let_go_at : (task : Task) (s : Solo F T X) → At t s → At t (let_go task s)
    let_go_at task s p = scheduled_if_at (asked cells.release_queues false task s.cells) task (turned cells.released task s) p

    let_go_if_at : (task : Option Task) (s : Solo F T X) → At t s → At t (let_go_if task s)
    let_go_if_at (Some task) s p = let_go_at task s p
    let_go_if_at None s p = p

    left_by_at : (parts : Option (Option F × Option Task)) (s : Solo F T X) → At t s → At t (left_by_parts parts s)
    left_by_at None s p = p
    left_by_at (Some parts) s p = let_go_if_at parts.1 s p

    pub left_at : (place : EntryPlace) (s : Solo F T X) → At t s → At t (left place s)
    left_at place s p = left_by_at (parts_of (entry_in place s.table.entries)) (without place s) p

    out_of_at : (start : Option (Start EntryPlace)) (s : Solo F T X) → At t s → At t (out_of start s)
    out_of_at (Some (Poll place)) s p = p
    out_of_at (Some (Drop place)) s p = p
    out_of_at None s p = p

    pub begun_at : (task : Task) (s : Solo F T X) → At t s → At t (begun task s)
    begun_at task s p = out_of_at (asked cells.start_answer None task s.cells) (turned cells.started task s) p

    told_unless_at : (w : Option X) (s : Solo F T X) → At t s → At t (ticks.told_unless w s)
    told_unless_at (Some w) s p = p
    told_unless_at None s p = told_at s p

    waker_dropped_at : (w : Option (SoloWaker X)) (s : Solo F T X) → At t s → At t (ticks.waker_dropped w s)
    waker_dropped_at (Some (OfTask task)) s p = let_go_at task s p
    waker_dropped_at (Some (Outside waker)) s p = p
    waker_dropped_at None s p = p

    up_at : (ticker : Ticker) (s : Solo F T X) → At t s → At t (ticks.up ticker s)
    up_at (Awake _) s p = p
    up_at (Asleep sleeper) s p = p

    woke_at : (ticker : Ticker) (s : Solo F T X) → At t s
        → At t (ticks.told_unless (ticks.wake_up_answer ticker s).told.sleeper (ticks.woke_up ticker s))
    woke_at ticker s p =
        told_unless_at (ticks.wake_up_answer ticker s).told.sleeper (ticks.woke_up ticker s)
        (waker_dropped_at (ticks.kept_by ticker s) (ticks.up ticker s) (up_at ticker s p))

    pub found_at : (ticker : Ticker) (task : Task) (s : Solo F T X) → At t s → At t (ticks.found ticker task s)
    found_at ticker task s p =
        begun_at task (ticks.told_unless (ticks.wake_up_answer ticker s).told.sleeper (ticks.woke_up ticker s)) (woke_at ticker s p)

    anew_at : (b : Bool) (waker : SoloWaker X) (s : Solo F T X) → At t s → At t (ticks.lain_anew b waker s)
    anew_at true waker s p = p
    anew_at false waker s p = p

    again_at : (at : Option ℕ) (number : ℕ) (waker : SoloWaker X) (s : Solo F T X) → At t s → At t (ticks.lain_again at number waker s)
    again_at (Some at) number waker s p =
        waker_dropped_at (waker_of number s.sleepers.wakers) (ticks.replaced at number waker s) p
    again_at None number waker s p =
        chosen (At t) (ticks.is_short s) (ticks.stored (listed number waker s.sleepers) s) s p p

    pub asleep_at : (ticker : Ticker) (waker : SoloWaker X) (s : Solo F T X) → At t s → At t (ticks.fallen_asleep ticker waker s)
    asleep_at (Awake _) waker s p = anew_at (nat_lt s.sleepers.count s.sleepers.rooms) waker s p
    asleep_at (Asleep sleeper) waker s p = again_at (position_of sleeper.number s.sleepers.wakers) sleeper.number waker s p

    leave_by_at : (w : Option (SoloWaker X)) (s : Solo F T X) → At t s → At t (ticks.left_by w s)
    leave_by_at None s p = told_at s p
    leave_by_at (Some w) s p = waker_dropped_at (Some w) s p

    pub tick_left_at : (ticker : Ticker) (s : Solo F T X) → At t s → At t (ticks.left ticker s)
    tick_left_at (Awake _) s p = p
    tick_left_at (Asleep sleeper) s p =
        leave_by_at (waker_of sleeper.number s.sleepers.wakers) (ticks.gone sleeper.number s) p

    without_first_at : (source : Source) (s : Solo F T X) → At t s → At t (without_first source s)
    without_first_at (Common mark) s p = popped_turn mark s.lines ∙ p
    without_first_at (Own number) s p = p

    moved_at : (n : ℕ) (source : Source) (number : ℕ) (s : Solo F T X) → At t s → At t (moved n source number s)
    moved_at zero source number s p = p
    moved_at (suc n) source number s p =
        let rest = without_first_at source s p in
        moved_on_keeps (At t) (first_of source s) (without_first source s)
        (λ task. moved n source number (kept number task (without_first source s))) rest
        (λ task. moved_at n source number (kept number task (without_first source s)) rest)

    stolen_turn : (source : Source) (number : ℕ) (s : Solo F T X) → At t s → At t (stolen source number s)
    stolen_turn source number s p = moved_at (share (length_of source s) (own.free_of number s.runs)) source number s p

    looked_at : (number at : ℕ) (s : Solo F T X) → At t s → At t (looked number at s)
    looked_at number at s p =
        chosen (At t) (is_own number at s) s (own_popped number (stolen_at number at s)) p
        (stolen_turn (Own (own.number_at at s.runs.queues)) number s p)

    round_at : (count number n at : ℕ) (s : Solo F T X) → At t s → At t (round count number n at s).1
    round_at count number zero at s p = p
    round_at count number (suc n) at s p =
        round_on_keeps (At t) (look_answer number at s) (looked number at s)
        (round count number n (next_place at count) (looked number at s)) (looked_at number at s p)
        (round_at count number n (next_place at count) (looked number at s) (looked_at number at s p))

    pub further_at : (first : Option Task) (mark : Mark) (number start : ℕ) (s : Solo F T X) → At t s
        → At t (further_by first mark number start s)
    further_at (Some task) mark number start s p = stolen_turn (Common mark) number s p
    further_at None mark number start s p = round_at s.runs.listed number s.runs.listed (start % s.runs.listed) s p

    pub run_found_at : (runner : Runner) (ticker : Ticker) (task : Task) (s : Solo F T X) → At t s → At t (runs.found runner ticker task s)
    run_found_at runner ticker task s p =
        let after : Solo F T X = runs.told ticker s in
        let q : At t after = woke_at ticker s p in
        begun_at task (stolen_if (runs.is_steal_due runner) runner.number after)
        (chosen (At t) (runs.is_steal_due runner)
        (stolen (Common Plain) runner.number (stolen (Common Urgent) runner.number after)) after
        (stolen_turn (Common Plain) runner.number (stolen (Common Urgent) runner.number after)
        (stolen_turn (Common Urgent) runner.number after q)) q)

    pub run_drained_at : (first : Option Task) (ticker : Ticker) (s : Solo F T X) → At t s → At t (runs.drained_by first ticker s)
    run_drained_at (Some task) ticker s p = scheduled_at task s p
    run_drained_at None ticker s p = tick_left_at ticker s p
