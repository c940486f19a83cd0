-- What no queueing, telling, waking or sleeping changes: the futures that there are, and how many were accepted.
use Rattle.std.proofs.Common.{◌≡◌, ℕ, zero, suc, ◌+◌, ◌%◌, ◌==◌, nat_lt, Bool, true, false, List, [], ◌∷◌, length, Option, Some, None}
use Rattle.std.proofs.Common.{refl, sym, ap, subst}
use Rattle.executor_parts.specs.declared.mark.Mark.{Mark}
use Rattle.executor_parts.specs.declared.mark.Mark.TheVariants.{Plain, Urgent}
use Rattle.executor_parts.specs.declared.places.EntryPlace.{EntryPlace}
use Rattle.executor_parts.specs.Places.{Entry, entry_in, where_there, with_future, set_future}
use Rattle.executor_parts.specs.Sleepers.{last_waker, without_last, waker_of, position_of, listed}
use Rattle.task_moves.specs.declared.local_task.answers.Start.{Start}
use Rattle.task_moves.specs.declared.local_task.answers.Start.TheVariants.{Poll, Drop}
use Rattle.solo.specs.declared.names.Task.{Task}
use Rattle.solo.specs.declared.names.SoloWaker.{SoloWaker}
use Rattle.solo.specs.declared.names.SoloWaker.TheVariants.{Task as OfTask, Outside}
use Rattle.solo.specs.declared.runs.Runner.{Runner}
use Rattle.solo.specs.declared.ticks.Ticker.{Ticker}
use Rattle.solo.specs.declared.ticks.Ticker.TheVariants.{Awake, Asleep}
use Rattle.solo.specs.declared.steals.Source.{Source}
use Rattle.solo.specs.declared.steals.Source.TheVariants.{Common, Own}
use Rattle.solo.specs.declared.solo.Solo.{Solo}
use Rattle.solo.specs.OwnQueues as own
use Rattle.solo.specs.Lines.{is_empty, search_answer}
use Rattle.solo.specs.Table.{TableValue}
use Rattle.solo.specs.Cells.{asked}
use Rattle.solo.specs.Cells as cells
use Rattle.solo.specs.Turns.{lined, takes, turned, marked, handed_by, is_full, handed, told, scheduled, scheduled_if, let_go, let_go_if}
use Rattle.solo.specs.Turns.{left_by_parts, out_of, begun}
use Rattle.solo.specs.Solo as solo
use Rattle.solo.specs.Solo.{popped}
use Rattle.solo.specs.Ticks as ticks
use Rattle.solo.specs.Steals.{moved, first_of, without_first, kept, stolen, share, length_of, stolen_if, is_own, stolen_at, looked}
use Rattle.solo.specs.Steals.{look_answer, round, next_place, further_by, sought_by, sought, seek_answer, own_popped}
use Rattle.solo.specs.Runs as runs
use Rattle.solo_laws.proofs.Prompt.{chosen}
use Rattle.solo_laws.proofs.Runs.{moved_on_keeps, round_on_keeps}

module _ {F W : Type 0} where
  with_future_length : (key : ℕ) (future : Option F) (es : List (Entry F W)) → length (with_future key future es) ≡ length es
  with_future_length key future [] = refl
  with_future_length key future (e ∷ es) = by (key == e.key) (with_future_length key future es)
    where
      by : (b : Bool) → length (with_future key future es) ≡ length es
          → length {A = Entry F W} (elim b [ true ↦ record e { future = future } ∷ es | false ↦ e ∷ with_future key future es ])
          ≡ length (e ∷ es)
      by true rest = refl
      by false rest = ap suc rest

  there_length : (found : Option (Entry F W)) (changed same : List (Entry F W)) → length changed ≡ length same
      → length (where_there found changed same) ≡ length same
  there_length None changed same is = refl
  there_length (Some e) changed same is = is

  -- a future that is taken out or put back leaves as many entries
  pub set_length : (place : EntryPlace) (future : Option F) (es : List (Entry F W)) → length (set_future place future es) ≡ length es
  set_length place future es =
      there_length (entry_in place es) (with_future place.key future es) es (with_future_length place.key future es)

module _ {F : Type 0} where
  -- a statement of how many were accepted, how many futures both tables have, and both limits
  abbrev pub counting : (ℕ → ℕ → ℕ → ℕ → Type 0) → ℕ → TableValue F → TableValue F → Type 0
  counting Q a t g = Q a (length t.entries + length g.entries) t.limit g.limit

module _ {F T X : Type 0} where
  -- what a statement says of an executor that reads how many were accepted, and its two tables
  abbrev pub Of : (ℕ → TableValue F → TableValue F → Type 0) → Solo F T X → Type 0
  Of P s = P s.accepted s.table s.going

  module _ (P : ℕ → TableValue F → TableValue F → Type 0) where
    handed_by_of : (w : Option (SoloWaker X)) (s : Solo F T X) → Of P s → Of P (handed_by w s)
    handed_by_of (Some (OfTask task)) s p =
        let marked_of : Of P (marked task s) =
        chosen (Of P) (asked cells.wake_queues false task s.cells) (lined task (turned cells.woken task s))
        (turned cells.woken task s) p p in
        chosen (Of P) (asked cells.release_queues false task (marked task s).cells)
        (lined task (turned cells.released task (marked task s)))
        (turned cells.released task (marked task s)) marked_of marked_of
    handed_by_of (Some (Outside waker)) s p = p
    handed_by_of None s p = p

    pub told_of : (s : Solo F T X) → Of P s → Of P (told s)
    told_of s p =
        let on : Solo F T X = record s { notified = true } in
        chosen (Of P) s.notified s (handed on) p
        (chosen (Of P) (is_full on)
        (handed_by (last_waker s.sleepers.wakers) (record on { sleepers = without_last s.sleepers })) on
        (handed_by_of (last_waker s.sleepers.wakers) (record on { sleepers = without_last s.sleepers }) p) p)

    pub scheduled_of : (task : Task) (s : Solo F T X) → Of P s → Of P (scheduled task s)
    scheduled_of task s p =
        chosen (Of P) (takes task s) (told (lined task s)) (lined task s) (told_of (lined task s) p) p

    pub scheduled_if_of : (due : Bool) (task : Task) (s : Solo F T X) → Of P s → Of P (scheduled_if due task s)
    scheduled_if_of due task s p = chosen (Of P) due (scheduled task s) s (scheduled_of task s p) p

    pub let_go_of : (task : Task) (s : Solo F T X) → Of P s → Of P (let_go task s)
    let_go_of task s p = scheduled_if_of (asked cells.release_queues false task s.cells) task (turned cells.released task s) p

    let_go_if_of : (task : Option Task) (s : Solo F T X) → Of P s → Of P (let_go_if task s)
    let_go_if_of (Some task) s p = let_go_of task s p
    let_go_if_of None s p = p

    pub left_by_of : (parts : Option (Option F × Option Task)) (s : Solo F T X) → Of P s → Of P (left_by_parts parts s)
    left_by_of None s p = p
    left_by_of (Some parts) s p = let_go_if_of parts.1 s p

    told_unless_of : (w : Option X) (s : Solo F T X) → Of P s → Of P (ticks.told_unless w s)
    told_unless_of (Some w) s p = p
    told_unless_of None s p = told_of s p

    waker_dropped_of : (w : Option (SoloWaker X)) (s : Solo F T X) → Of P s → Of P (ticks.waker_dropped w s)
    waker_dropped_of (Some (OfTask task)) s p = let_go_of task s p
    waker_dropped_of (Some (Outside waker)) s p = p
    waker_dropped_of None s p = p

    up_of : (ticker : Ticker) (s : Solo F T X) → Of P s → Of P (ticks.up ticker s)
    up_of (Awake _) s p = p
    up_of (Asleep sleeper) s p = p

    pub woke_of : (ticker : Ticker) (s : Solo F T X) → Of P s
        → Of P (ticks.told_unless (ticks.wake_up_answer ticker s).told.sleeper (ticks.woke_up ticker s))
    woke_of ticker s p =
        told_unless_of (ticks.wake_up_answer ticker s).told.sleeper (ticks.woke_up ticker s)
        (waker_dropped_of (ticks.kept_by ticker s) (ticks.up ticker s) (up_of ticker s p))

    anew_of : (b : Bool) (waker : SoloWaker X) (s : Solo F T X) → Of P s → Of P (ticks.lain_anew b waker s)
    anew_of true waker s p = p
    anew_of false waker s p = p

    again_of : (at : Option ℕ) (number : ℕ) (waker : SoloWaker X) (s : Solo F T X) → Of P s → Of P (ticks.lain_again at number waker s)
    again_of (Some at) number waker s p =
        waker_dropped_of (waker_of number s.sleepers.wakers) (ticks.replaced at number waker s) p
    again_of None number waker s p =
        chosen (Of P) (ticks.is_short s) (ticks.stored (listed number waker s.sleepers) s) s p p

    pub asleep_of : (ticker : Ticker) (waker : SoloWaker X) (s : Solo F T X) → Of P s → Of P (ticks.fallen_asleep ticker waker s)
    asleep_of (Awake _) waker s p = anew_of (nat_lt s.sleepers.count s.sleepers.rooms) waker s p
    asleep_of (Asleep sleeper) waker s p =
        again_of (position_of sleeper.number s.sleepers.wakers) sleeper.number waker s p

    leave_by_of : (w : Option (SoloWaker X)) (s : Solo F T X) → Of P s → Of P (ticks.left_by w s)
    leave_by_of None s p = told_of s p
    leave_by_of (Some w) s p = waker_dropped_of (Some w) s p

    pub tick_left_of : (ticker : Ticker) (s : Solo F T X) → Of P s → Of P (ticks.left ticker s)
    tick_left_of (Awake _) s p = p
    tick_left_of (Asleep sleeper) s p =
        leave_by_of (waker_of sleeper.number s.sleepers.wakers) (ticks.gone sleeper.number s) p

    without_first_of : (source : Source) (s : Solo F T X) → Of P s → Of P (without_first source s)
    without_first_of (Common mark) s p = p
    without_first_of (Own number) s p = p

    moved_of : (n : ℕ) (source : Source) (number : ℕ) (s : Solo F T X) → Of P s → Of P (moved n source number s)
    moved_of zero source number s p = p
    moved_of (suc n) source number s p =
        let rest = without_first_of source s p in
        moved_on_keeps (Of P) (first_of source s) (without_first source s)
        (λ task. moved n source number (kept number task (without_first source s))) rest
        (λ task. moved_of n source number (kept number task (without_first source s)) rest)

    pub stolen_of : (source : Source) (number : ℕ) (s : Solo F T X) → Of P s → Of P (stolen source number s)
    stolen_of source number s p = moved_of (share (length_of source s) (own.free_of number s.runs)) source number s p

    looked_of : (number at : ℕ) (s : Solo F T X) → Of P s → Of P (looked number at s)
    looked_of number at s p =
        chosen (Of P) (is_own number at s) s (own_popped number (stolen_at number at s)) p
        (stolen_of (Own (own.number_at at s.runs.queues)) number s p)

    round_of : (count number n at : ℕ) (s : Solo F T X) → Of P s → Of P (round count number n at s).1
    round_of count number zero at s p = p
    round_of count number (suc n) at s p =
        round_on_keeps (Of P) (look_answer number at s) (looked number at s)
        (round count number n (next_place at count) (looked number at s)) (looked_of number at s p)
        (round_of count number n (next_place at count) (looked number at s) (looked_of number at s p))

    further_of : (first : Option Task) (mark : Mark) (number start : ℕ) (s : Solo F T X) → Of P s
        → Of P (further_by first mark number start s)
    further_of (Some task) mark number start s p = stolen_of (Common mark) number s p
    further_of None mark number start s p = round_of s.runs.listed number s.runs.listed (start % s.runs.listed) s p

    sought_by_of : (first : Option Task) (number start : ℕ) (s : Solo F T X) → Of P s → Of P (sought_by first number start s)
    sought_by_of (Some task) number start s p = p
    sought_by_of None number start s p = further_of (search_answer s.lines).task (search_answer s.lines).mark number start (popped s) p

    pub sought_of : (number start : ℕ) (s : Solo F T X) → Of P s → Of P (sought number start s)
    sought_of number start s p = sought_by_of (own.first_of number s.runs) number start (own_popped number s) p

    pub run_drained_of : (first : Option Task) (ticker : Ticker) (s : Solo F T X) → Of P s → Of P (runs.drained_by first ticker s)
    run_drained_of (Some task) ticker s p = scheduled_of task s p
    run_drained_of None ticker s p = tick_left_of ticker s p

  module _ (Q : ℕ → ℕ → ℕ → ℕ → Type 0) where
    pub put_of : (place : EntryPlace) (future : Option F) (s : Solo F T X) → Of (counting Q) s
        → Of (counting Q) (record s { table = record s.table { entries = set_future place future s.table.entries } })
    put_of place future s p =
        subst (λ n. Q s.accepted (n + length s.going.entries) s.table.limit s.going.limit) (sym (set_length place future s.table.entries)) p

    out_of_of : (start : Option (Start EntryPlace)) (s : Solo F T X) → Of (counting Q) s → Of (counting Q) (out_of start s)
    out_of_of (Some (Poll place)) s p = put_of place None s p
    out_of_of (Some (Drop place)) s p = put_of place None s p
    out_of_of None s p = p

    pub begun_of : (task : Task) (s : Solo F T X) → Of (counting Q) s → Of (counting Q) (begun task s)
    begun_of task s p = out_of_of (asked cells.start_answer None task s.cells) (turned cells.started task s) p

    found_of : (ticker : Ticker) (task : Task) (s : Solo F T X) → Of (counting Q) s → Of (counting Q) (ticks.found ticker task s)
    found_of ticker task s p =
        begun_of task (ticks.told_unless (ticks.wake_up_answer ticker s).told.sleeper (ticks.woke_up ticker s))
        (woke_of (counting Q) ticker s p)

    tick_by_of : (first : Option Task) (ticker : Ticker) (waker : SoloWaker X) (s : Solo F T X) → Of (counting Q) s
        → Of (counting Q) (ticks.taken_by first ticker waker s)
    tick_by_of (Some task) ticker waker s p = found_of ticker task s p
    tick_by_of None ticker waker s p = asleep_of (counting Q) ticker waker s p

    pub tick_taken_of : (ticker : Ticker) (waker : SoloWaker X) (s : Solo F T X) → Of (counting Q) s
        → Of (counting Q) (ticks.taken ticker waker s)
    tick_taken_of ticker waker s p = tick_by_of (solo.sought s) ticker waker (popped s) p

    search_by_of : (first : Option Task) (ticker : Ticker) (s : Solo F T X) → Of (counting Q) s
        → Of (counting Q) (ticks.searched_by first ticker s)
    search_by_of (Some task) ticker s p = found_of ticker task s p
    search_by_of None ticker s p = p

    pub tick_searched_of : (ticker : Ticker) (s : Solo F T X) → Of (counting Q) s → Of (counting Q) (ticks.searched ticker s)
    tick_searched_of ticker s p = search_by_of (solo.sought s) ticker (popped s) p

    pub slept_of : (ticker : Ticker) (waker : SoloWaker X) (s : Solo F T X) → Of (counting Q) s
        → Of (counting Q) (ticks.slept ticker waker s)
    slept_of ticker waker s p =
        chosen (Of (counting Q)) (is_empty s.lines) (ticks.fallen_asleep ticker waker s) s (asleep_of (counting Q) ticker waker s p) p

    run_found_of : (runner : Runner) (ticker : Ticker) (task : Task) (s : Solo F T X) → Of (counting Q) s
        → Of (counting Q) (runs.found runner ticker task s)
    run_found_of runner ticker task s p =
        let after : Solo F T X = runs.told ticker s in
        let told_after : Of (counting Q) after = woke_of (counting Q) ticker s p in
        begun_of task (stolen_if (runs.is_steal_due runner) runner.number after)
        (chosen (Of (counting Q)) (runs.is_steal_due runner)
        (stolen (Common Plain) runner.number (stolen (Common Urgent) runner.number after)) after
        (stolen_of (counting Q) (Common Plain) runner.number (stolen (Common Urgent) runner.number after)
        (stolen_of (counting Q) (Common Urgent) runner.number after told_after)) told_after)

    run_by_of : (first : Option Task) (runner : Runner) (ticker : Ticker) (waker : SoloWaker X) (s : Solo F T X) → Of (counting Q) s
        → Of (counting Q) (runs.took_by first runner ticker waker s)
    run_by_of (Some task) runner ticker waker s p = run_found_of runner ticker task s p
    run_by_of None runner ticker waker s p = asleep_of (counting Q) ticker waker s p

    pub run_taken_of : (runner : Runner) (ticker : Ticker) (waker : SoloWaker X) (start : ℕ) (s : Solo F T X) → Of (counting Q) s
        → Of (counting Q) (runs.took runner ticker waker start s)
    run_taken_of runner ticker waker start s p =
        run_by_of (seek_answer runner.number start s).task runner ticker waker (sought runner.number start s)
        (sought_of (counting Q) runner.number start s p)

    run_search_by_of : (first : Option Task) (runner : Runner) (ticker : Ticker) (s : Solo F T X) → Of (counting Q) s
        → Of (counting Q) (runs.searched_by first runner ticker s)
    run_search_by_of (Some task) runner ticker s p = run_found_of runner ticker task s p
    run_search_by_of None runner ticker s p = p

    pub run_searched_of : (runner : Runner) (ticker : Ticker) (start : ℕ) (s : Solo F T X) → Of (counting Q) s
        → Of (counting Q) (runs.searched runner ticker start s)
    run_searched_of runner ticker start s p =
        run_search_by_of (seek_answer runner.number start s).task runner ticker (sought runner.number start s)
        (sought_of (counting Q) runner.number start s p)
