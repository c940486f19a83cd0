-- What goes in and comes out weighs the same, call by call.
use Rattle.std.proofs.Common.{◌≡◌, inl, inr, ℕ, ◌+◌, nat_lt, Bool, true, false, List, [], ◌∷◌, ◌++◌, Option, Some, None, Ok, Err}
use Rattle.std.proofs.Common.{slice_get, is_some, refl, sym, ap, subst, ◌∙◌, arith}
use Rattle.executor_parts.specs.declared.mark.Mark.{Mark}
use Rattle.executor_parts.specs.declared.mark.Mark.TheVariants.{Plain, Urgent}
use Rattle.executor_parts.specs.declared.places.EntryPlace.{EntryPlace}
use Rattle.executor_parts.specs.declared.sleepers.Sleeper.{Sleeper}
use Rattle.executor_parts.specs.Places.{Entry, entry_in, set_future, future_of, parts_of}
use Rattle.executor_parts.specs.Sleepers.{position_of}
use Rattle.task_moves.specs.declared.local_task.answers.Back.{Back}
use Rattle.task_moves.specs.declared.local_task.answers.Back.TheVariants.{Ready, Pending}
use Rattle.task_moves.specs.declared.local_task.answers.Start.{Start}
use Rattle.task_moves.specs.declared.local_task.answers.Start.TheVariants.{Poll as StartPoll, Drop as StartDrop}
use Rattle.solo.specs.declared.names.Kind.{Kind}
use Rattle.solo.specs.declared.names.Task.{Task}
use Rattle.solo.specs.declared.names.SoloWaker.{SoloWaker}
use Rattle.solo.specs.declared.owed.Lent.{Lent}
use Rattle.solo.specs.declared.owed.Spawned.{Spawned}
use Rattle.solo.specs.declared.owed.SpawnError.{SpawnError}
use Rattle.solo.specs.declared.owed.SpawnError.TheVariants.{Full, NoMemory}
use Rattle.solo.specs.declared.runs.Runner.{Runner}
use Rattle.solo.specs.declared.steals.Source.TheVariants.{Common}
use Rattle.solo.specs.declared.ticks.Ticker.{Ticker}
use Rattle.solo.specs.declared.ticks.Ticker.TheVariants.{Awake, Asleep}
use Rattle.solo.specs.declared.ticks.Look.TheVariants.{Again, Nothing as NothingSeen}
use Rattle.solo.specs.declared.solo.Solo.{Solo}
use Rattle.solo.specs.declared.cells.After.{After}
use Rattle.solo.specs.declared.cells.After.TheVariants.{Queue, Rest, Drop as DropFuture, Unknown}
use Rattle.solo.specs.Table.{TableValue, new_entry, counted_waker, first_parts}
use Rattle.solo.specs.Lines.{is_empty}
use Rattle.solo.specs.Cells.{choose, asked}
use Rattle.solo.specs.Cells as cells
use Rattle.solo.specs.Turns as turns
use Rattle.solo.specs.Turns.{turned}
use Rattle.solo.specs.Steals.{seek_answer, sought, stolen, stolen_if}
use Rattle.solo.specs.Solo as solo
use Rattle.solo.specs.Closing as closing
use Rattle.solo.specs.Runs as runs
use Rattle.solo.specs.Ticks as ticks
use Rattle.solo_laws.specs.Calls.{Call, Does, Course, Spawn, SpawnRefused, Take, Settle, Finish, Wake, WakeAndRelease, Hold, Release}
use Rattle.solo_laws.specs.Calls.{Cancel, Detach, Poll, Retract, MakeTick, TickTake}
use Rattle.solo_laws.specs.Calls.{TickSearch, TickSleep, TickLeave, MakeRun, RunBegin, RunTake}
use Rattle.solo_laws.specs.Calls.{RunSearch, RunLeave, RunDrain, Leak, LeakNext, Close, Drain}
use Rattle.solo_laws.specs.Futures.{sum_of}
use Rattle.solo_laws.specs.Weights.{weight_of, weight_in, weight_found, weight_seen, weight_back, weight_searched, weight_sought}
use Rattle.solo_laws.specs.Weights.{weight_owed, weight_inside, handed_in, handed_out, all_out, Balances}
use Rattle.solo_laws.proofs.EntryWeights.{held, put_none, set_weight, left_weight, append_weight, displaced_weight, unwoken_weight}
use Rattle.solo_laws.proofs.EntryWeights.{parts_weight, first_weight, poll_weight, drop_weight}
use Rattle.solo_laws.proofs.Prompt.{chosen}
use Rattle.solo_laws.proofs.Frames.{told_of, scheduled_of, scheduled_if_of, let_go_of, left_by_of, woke_of, asleep_of, sought_of}
use Rattle.solo_laws.proofs.Frames.{stolen_of, tick_left_of, run_drained_of}

none_in : {n m : ℕ} → n ≡ m → n ≡ 0 + m
none_in {n} {m} is = omega (arith, is)

module _ {F : Type 0} (weigh : F → ℕ) where
  -- both tables weigh so much
  abbrev Weighing : ℕ → ℕ → TableValue F → TableValue F → Type 0
  Weighing n a t g = weight_in weigh t.entries + weight_in weigh g.entries ≡ n

  module _ {T X : Type 0} where
    abbrev inside : Solo F T X → ℕ
    inside s = weight_inside weigh s

    -- a future goes out of its entry
    out_weight : (place : EntryPlace) (s : Solo F T X)
        → inside (record s { table = record s.table { entries = set_future place None s.table.entries } })
        + weight_of weigh (future_of (entry_in place s.table.entries))
        ≡ inside s
    out_weight place s =
        let set = set_weight weigh place None s.table.entries in
        let none = put_none weigh (entry_in place s.table.entries) in
        omega (arith, set, none)

    begun_by : (start : Option (Start EntryPlace)) (task : Task) (s : Solo F T X)
        → inside (turns.out_of start (turned cells.started task s)) + weight_found weigh (turns.found_by task start s) ≡ inside s
    begun_by None task s = omega arith
    begun_by (Some (StartPoll place)) task s =
        let out = out_weight place s in
        let found = poll_weight weigh task place (future_of (entry_in place s.table.entries)) in
        omega (arith, out, found)
    begun_by (Some (StartDrop place)) task s =
        let out = out_weight place s in
        let found = drop_weight weigh task place (future_of (entry_in place s.table.entries)) in
        omega (arith, out, found)

    -- a task's turn begins: its future comes out
    begun_weight : (task : Task) (s : Solo F T X) → inside (turns.begun task s) + weight_found weigh (turns.begin_answer task s) ≡ inside s
    begun_weight task s = begun_by (asked cells.start_answer None task s.cells) task s

    take_weight : (first : Option Task) (s : Solo F T X)
        → inside (solo.taken_by first s) + weight_found weigh (solo.take_answer_by first s).found ≡ inside s
    take_weight None s = omega arith
    take_weight (Some task) s = begun_weight task (turns.told s) ∙ told_of (Weighing (inside s)) s refl

    tick_found_weight : (ticker : Ticker) (spare : Option (SoloWaker X)) (task : Task) (s : Solo F T X)
        → inside (ticks.found ticker task s) + weight_seen weigh (ticks.found_answer ticker spare task s).look ≡ inside s
    tick_found_weight ticker spare task s =
        begun_weight task (ticks.told_unless (ticks.wake_up_answer ticker s).told.sleeper (ticks.woke_up ticker s))
        ∙ woke_of (Weighing (inside s)) ticker s refl

    anew_sees_nothing : (b : Bool) (waker : SoloWaker X) (s : Solo F T X) → weight_seen weigh (ticks.sleep_anew_answer b waker s).look ≡ 0
    anew_sees_nothing true waker s = refl
    anew_sees_nothing false waker s = refl

    again_sees_nothing : (at : Option ℕ) (sleeper : Sleeper) (waker : SoloWaker X) (s : Solo F T X)
        → weight_seen weigh (ticks.sleep_again_answer at sleeper waker s).look ≡ 0
    again_sees_nothing (Some at) sleeper waker s = refl
    again_sees_nothing None sleeper waker s = by (ticks.is_short s)
      where
        by : (b : Bool)
            → weight_seen weigh
            (choose
            b
            (ticks.look_answer (Asleep sleeper) Again None None s)
            (ticks.look_answer (Asleep sleeper) NothingSeen None (Some waker) s)).look
            ≡ 0
        by true = refl
        by false = refl

    asleep_sees_nothing : (ticker : Ticker) (waker : SoloWaker X) (s : Solo F T X)
        → weight_seen weigh (ticks.sleep_answer ticker waker s).look ≡ 0
    asleep_sees_nothing (Awake _) waker s = anew_sees_nothing (nat_lt s.sleepers.count s.sleepers.rooms) waker s
    asleep_sees_nothing (Asleep sleeper) waker s =
        again_sees_nothing (position_of sleeper.number s.sleepers.wakers) sleeper waker s

    asleep_weight : (ticker : Ticker) (waker : SoloWaker X) (s : Solo F T X)
        → inside (ticks.fallen_asleep ticker waker s) + weight_seen weigh (ticks.sleep_answer ticker waker s).look ≡ inside s
    asleep_weight ticker waker s =
        let same : inside (ticks.fallen_asleep ticker waker s) ≡ inside s = asleep_of (Weighing (inside s)) ticker waker s refl in
        let none = asleep_sees_nothing ticker waker s in
        omega (arith, same, none)

    tick_take_weight : (first : Option Task) (ticker : Ticker) (waker : SoloWaker X) (s : Solo F T X)
        → inside (ticks.taken_by first ticker waker s) + weight_seen weigh (ticks.take_answer_by first ticker waker s).look ≡ inside s
    tick_take_weight (Some task) ticker waker s = tick_found_weight ticker (Some waker) task s
    tick_take_weight None ticker waker s = asleep_weight ticker waker s

    tick_search_weight : (first : Option Task) (ticker : Ticker) (s : Solo F T X)
        → inside (ticks.searched_by first ticker s) + weight_searched weigh (ticks.search_answer_by first ticker s) ≡ inside s
    tick_search_weight (Some task) ticker s = tick_found_weight ticker None task s
    tick_search_weight None ticker s = omega arith

    slept_weight : (ticker : Ticker) (waker : SoloWaker X) (s : Solo F T X)
        → inside (ticks.slept ticker waker s) + weight_seen weigh (ticks.slept_answer ticker waker s).look ≡ inside s
    slept_weight ticker waker s = by (is_empty s.lines)
      where
        by : (b : Bool)
            → inside (choose b (ticks.fallen_asleep ticker waker s) s)
            + weight_seen weigh
            (choose b (ticks.sleep_answer ticker waker s) (ticks.look_answer ticker Again None (Some waker) s)).look
            ≡ inside s
        by true = asleep_weight ticker waker s
        by false = omega arith

    run_found_weight : (runner : Runner) (ticker : Ticker) (spare : Option (SoloWaker X)) (task : Task) (walked : Bool) (s : Solo F T X)
        → inside (runs.found runner ticker task s)
        + weight_seen weigh (runs.found_answer runner ticker spare task walked s).ticked.look
        ≡ inside s
    run_found_weight runner ticker spare task walked s =
        let after : Solo F T X = runs.told ticker s in
        let told_after : inside after ≡ inside s = woke_of (Weighing (inside s)) ticker s refl in
        begun_weight task (stolen_if (runs.is_steal_due runner) runner.number after)
        ∙ chosen (λ t. inside t ≡ inside s) (runs.is_steal_due runner)
        (stolen (Common Plain) runner.number (stolen (Common Urgent) runner.number after)) after
        (stolen_of (Weighing (inside s)) (Common Plain) runner.number (stolen (Common Urgent) runner.number after)
        (stolen_of (Weighing (inside s)) (Common Urgent) runner.number after told_after)) told_after

    run_take_weight : (first : Option Task) (walked : Bool) (runner : Runner) (ticker : Ticker) (waker : SoloWaker X) (s : Solo F T X)
        → inside (runs.took_by first runner ticker waker s)
        + weight_seen weigh (runs.take_answer_by first walked runner ticker waker s).ticked.look
        ≡ inside s
    run_take_weight (Some task) walked runner ticker waker s = run_found_weight runner ticker (Some waker) task walked s
    run_take_weight None walked runner ticker waker s = asleep_weight ticker waker s

    run_search_weight : (first : Option Task) (walked : Bool) (runner : Runner) (ticker : Ticker) (s : Solo F T X)
        → inside (runs.searched_by first runner ticker s)
        + weight_sought weigh (runs.search_answer_by first walked runner ticker s)
        ≡ inside s
    run_search_weight (Some task) walked runner ticker s = run_found_weight runner ticker None task walked s
    run_search_weight None walked runner ticker s = omega arith

    left_answer_weight : (found : Option (Entry F (Option Task))) (s : Solo F T X)
        → weight_of weigh (turns.left_answer_by (parts_of found) s).future ≡ held weigh found
    left_answer_weight None s = refl
    left_answer_weight (Some e) s = refl

    -- an entry goes: its future comes out
    entry_weight : (place : EntryPlace) (s : Solo F T X)
        → inside (turns.left place s) + weight_of weigh (turns.left_answer place s).future ≡ inside s
    entry_weight place s =
        let gone : Solo F T X = turns.without place s in
        let same : inside (turns.left place s) ≡ inside gone =
        left_by_of (Weighing (inside gone)) (parts_of (entry_in place s.table.entries)) gone refl in
        let less = left_weight weigh place s.table.entries in
        let out = left_answer_weight (entry_in place s.table.entries) gone in
        omega (arith, same, less, out)

    -- a future that comes back is put into its entry, or comes out again
    back_weight : (lent : Lent) (future : F) (s : Solo F T X)
        → inside (solo.put_back lent future s) + weight_of weigh (solo.over lent future s) ≡ weigh future + inside s
    back_weight lent future s =
        let set = set_weight weigh lent.place (Some future) s.table.entries in
        let over = displaced_weight weigh future (entry_in lent.place s.table.entries) in
        omega (arith, set, over)

    pending_weight : (after : After) (lent : Lent) (future : F) (s : Solo F T X)
        → inside (solo.pending_by after lent future s) + weight_of weigh (solo.pending_answer_by after lent future s).future
        ≡ weigh future + inside s
    pending_weight DropFuture lent future s = omega arith
    pending_weight Unknown lent future s = omega arith
    pending_weight Rest lent future s = back_weight lent future s
    pending_weight Queue lent future s =
        let back : Solo F T X = solo.put_back lent future s in
        let same : inside (turns.scheduled lent.task back) ≡ inside back = scheduled_of (Weighing (inside back)) lent.task back refl in
        let out = back_weight lent future s in
        omega (arith, same, out)

    settle_weight : (lent : Lent) (back : Back F T) (s : Solo F T X)
        → inside (solo.settled lent back s) + weight_of weigh (solo.settle_answer lent back s).future ≡ weight_back weigh back + inside s
    settle_weight lent (Ready output) s = none_in (entry_weight lent.place s)
    settle_weight lent (Pending future) s =
        pending_weight (solo.after_poll lent s) lent future (turned (cells.ended_pending lent.place) lent.task s)

    retract_future_weight : (future : Option F) (place : EntryPlace) (task : Task) (s : Solo F T X)
        → inside (closing.retracted_future future task s)
        + weight_of weigh (closing.retract_future_answer future place task s).future
        ≡ inside s + weight_of weigh future
    retract_future_weight None place task s = refl
    retract_future_weight (Some future) place task s = refl

    retract_by_weight : (place : Option EntryPlace) (task : Task) (s : Solo F T X)
        → inside (closing.retracted_by place task s) + weight_of weigh (closing.retract_answer_by place task s).future ≡ inside s
    retract_by_weight None task s = omega arith
    retract_by_weight (Some place) task s =
        retract_future_weight (future_of (entry_in place s.table.entries)) place task (closing.out place s) ∙ out_weight place s

    retract_weight : (task : Task) (s : Solo F T X)
        → inside (closing.retracted task s) + weight_of weigh (closing.retract_answer task s).future ≡ inside s
    retract_weight task s = retract_by_weight (asked cells.retract_answer None task s.cells) task (turned cells.retracted task s)

    leaving_same : (task : Task) (s : Solo F T X) → inside (closing.leaving_woken task s) ≡ inside s
    leaving_same task s =
        let woken : Solo F T X = solo.woken task s in
        let q : inside woken ≡ inside s =
        scheduled_if_of (Weighing (inside s)) (asked cells.wake_queues false task s.cells) task (turned cells.woken task s) refl in
        chosen (λ t. inside t ≡ inside s) (asked cells.release_queues false task woken.cells)
        (turns.lined task (turned cells.released task woken)) (turned cells.released task woken) q q

    line_weight : (first : Option Task) (s : Solo F T X)
        → inside (closing.line_drained_by first s) + weight_owed weigh (closing.line_answer_by first s) ≡ inside s
    line_weight None s = omega arith
    line_weight (Some task) s = retract_weight task s

    waking_weight : (first : Option Task) (s : Solo F T X)
        → inside (closing.drained_waking first s) + weight_owed weigh (closing.waking_answer first s) ≡ inside s
    waking_weight (Some task) s = let same = leaving_same task s in omega (arith, same)
    waking_weight None s = line_weight (closing.first_lined (closing.shut_line s)) (closing.first_out (closing.shut_line s))

    drain_by_weight : (parts : Option (Option F × Option Task)) (s : Solo F T X)
        → inside (closing.drained_by parts s) + weight_owed weigh (closing.drain_answer_by parts s) ≡ inside s + parts_weight weigh parts
    drain_by_weight (Some parts) s = refl
    drain_by_weight None s =
        let rest = waking_weight (slice_get s.leaving.items 0) (closing.first_left s) in
        omega (arith, rest)

    drain_weight : (s : Solo F T X) → inside (closing.drained s) + weight_owed weigh (closing.drain_answer s) ≡ inside s
    drain_weight s =
        let one = drain_by_weight (first_parts s.going.entries) (closing.first_going s) in
        let two = first_weight weigh s.going.entries in
        omega (arith, one, two)

    leak_same : (first : Option Task) (s : Solo F T X) → inside (closing.leak_woken_by first s) ≡ inside s
    leak_same (Some task) s = leaving_same task s
    leak_same None s = refl

    leaked_same : (s : Solo F T X) → inside (closing.leaked s) ≡ inside s
    leaked_same s = let same = unwoken_weight weigh s.table.entries in omega (arith, same)

    spawn_weight : (mark : Mark) (future : F) (spawned : Spawned X) (old new : Solo F T X) → solo.Spawns mark future old (Ok spawned) new
        → inside new + 0 ≡ weigh future + inside old
    spawn_weight mark future spawned old new does =
        let accepts = does.1.0 in
        let s : Solo F T X = does.0 in
        let entry = new_entry accepts.place future (counted_waker (solo.counts old.kind) spawned.task) in
        let longer = append_weight weigh old.table.entries entry in
        let table : weight_in weigh s.table.entries ≡ weight_in weigh (old.table.entries ++ entry ∷ []) =
        ap (λ t. weight_in weigh t.entries) accepts.entered in
        let rest : weight_in weigh s.going.entries ≡ weight_in weigh old.going.entries =
        ap (λ (t : Solo F T X). weight_in weigh t.going.entries) does.1.1 in
        let queued : inside (turns.scheduled spawned.task s) ≡ inside s =
        scheduled_of (Weighing (inside s)) spawned.task s refl in
        let after : inside new ≡ inside (turns.scheduled spawned.task s) = ap (λ (t : Solo F T X). inside t) does.2 in
        omega (arith, longer, table, rest, queued, after)

    refused_same : (mark : Mark) (future : F) (refused : SpawnError F) (old new : Solo F T X)
        → solo.Spawns mark future old (Err refused) new
        → inside new ≡ inside old
    refused_same mark future (Full back) old new does =
        let table : weight_in weigh new.table.entries ≡ weight_in weigh old.table.entries =
        ap (λ t. weight_in weigh t.entries) does.0.2.table in
        let rest : weight_in weigh new.going.entries ≡ weight_in weigh old.going.entries =
        ap (λ (t : Solo F T X). weight_in weigh t.going.entries) does.1 in
        omega (arith, table, rest)
    refused_same mark future (NoMemory back) old new does =
        let table : weight_in weigh new.table.entries ≡ weight_in weigh old.table.entries =
        ap (λ t. weight_in weigh t.entries) does.0.3.table in
        let rest : weight_in weigh new.going.entries ≡ weight_in weigh old.going.entries =
        ap (λ (t : Solo F T X). weight_in weigh t.going.entries) does.1 in
        omega (arith, table, rest)

    -- what a call hands in and what was inside is inside, or is handed out
    abbrev Balance : Call F T X → Solo F T X → Solo F T X → Type 0
    Balance call old new = inside new + handed_out weigh call old ≡ handed_in weigh call + inside old

    at : (call : Call F T X) (old new after : Solo F T X) → new ≡ after → Balance call old after → Balance call old new
    at call old new after is balance = subst (Balance call old) (sym is) balance

    kept : (s t : Solo F T X) → inside t ≡ inside s → inside t + 0 ≡ 0 + inside s
    kept s t same = omega (arith, same)

    balance : (call : Call F T X) (old new : Solo F T X) → Does call old new → Balance call old new
    balance (Spawn mark future) old new does = spawn_weight mark future does.0 old new does.1
    balance (SpawnRefused mark future) old new does = kept old new (refused_same mark future does.0 old new does.1)
    balance Take old new is = at Take old new (solo.taken old) is (none_in (take_weight (solo.sought old) (solo.popped old)))
    balance (Settle lent back) old new is = at (Settle lent back) old new (solo.settled lent back old) is (settle_weight lent back old)
    balance (Finish lent) old new is = at (Finish lent) old new (solo.finished lent old) is (none_in (entry_weight lent.place old))
    balance (Wake task) old new is =
        at (Wake task) old new (solo.woken task old) is
        (kept old (solo.woken task old)
        (scheduled_if_of (Weighing (inside old)) (asked cells.wake_queues false task old.cells) task (turned cells.woken task old) refl))
    balance (WakeAndRelease task) old new is =
        at (WakeAndRelease task) old new (solo.woken_and_released task old) is
        (kept old (solo.woken_and_released task old)
        (scheduled_if_of (Weighing (inside old)) (solo.wakes_or_closes task old) task
        (turned cells.released task (turned cells.woken task old)) refl))
    balance (Hold task) old new is = at (Hold task) old new (solo.held task old) is (kept old (solo.held task old) refl)
    balance (Release task) old new is =
        at (Release task) old new (solo.released task old) is
        (kept old (solo.released task old) (let_go_of (Weighing (inside old)) task old refl))
    balance (Cancel task) old new is =
        at (Cancel task) old new (solo.cancelled task old) is
        (kept old (solo.cancelled task old)
        (scheduled_if_of (Weighing (inside old)) (is_some (asked cells.cancel_queues None task old.cells)) task
        (turned cells.cancelled task old) refl))
    balance (Detach task) old new is =
        at (Detach task) old new (solo.detached task old) is
        (kept old (solo.detached task old)
        (scheduled_if_of (Weighing (inside old)) (is_some (asked cells.detach_queues None task old.cells)) task
        (turned cells.detached task old) refl))
    balance (Poll task waker) old new is =
        at (Poll task waker) old new (solo.polled task waker old) is (kept old (solo.polled task waker old) refl)
    balance (Retract task) old new is =
        at (Retract task) old new (closing.retracted task old) is (none_in (retract_weight task old))
    balance MakeTick old new (inl is) = at MakeTick old new (ticks.roomy old) is (kept old (ticks.roomy old) refl)
    balance MakeTick old new (inr is) = at MakeTick old new old is (kept old old refl)
    balance (TickTake ticker waker) old new is =
        at (TickTake ticker waker) old new (ticks.taken ticker waker old) is
        (none_in (tick_take_weight (solo.sought old) ticker waker (solo.popped old)))
    balance (TickSearch ticker) old new is =
        at (TickSearch ticker) old new (ticks.searched ticker old) is
        (none_in (tick_search_weight (solo.sought old) ticker (solo.popped old)))
    balance (TickSleep ticker waker) old new is =
        at (TickSleep ticker waker) old new (ticks.slept ticker waker old) is (none_in (slept_weight ticker waker old))
    balance (TickLeave ticker) old new is =
        at (TickLeave ticker) old new (ticks.left ticker old) is
        (kept old (ticks.left ticker old) (tick_left_of (Weighing (inside old)) ticker old refl))
    balance MakeRun old new (inl is) = at MakeRun old new (runs.made old) is (kept old (runs.made old) refl)
    balance MakeRun old new (inr is) = at MakeRun old new old is (kept old old refl)
    balance (RunBegin runner) old new is =
        at (RunBegin runner) old new (runs.begun runner old) is (kept old (runs.begun runner old) refl)
    balance (RunTake runner ticker waker start) old new is =
        let found = seek_answer runner.number start old in
        let s : Solo F T X = sought runner.number start old in
        let same : inside s ≡ inside old = sought_of (Weighing (inside old)) runner.number start old refl in
        at (RunTake runner ticker waker start) old new (runs.took runner ticker waker start old) is
        (none_in (run_take_weight found.task found.has_walked runner ticker waker s ∙ same))
    balance (RunSearch runner ticker start) old new is =
        let found = seek_answer runner.number start old in
        let s : Solo F T X = sought runner.number start old in
        let same : inside s ≡ inside old = sought_of (Weighing (inside old)) runner.number start old refl in
        at (RunSearch runner ticker start) old new (runs.searched runner ticker start old) is
        (none_in (run_search_weight found.task found.has_walked runner ticker s ∙ same))
    balance (RunLeave runner) old new is = at (RunLeave runner) old new (runs.left runner old) is (kept old (runs.left runner old) refl)
    balance (RunDrain leaving) old new is =
        at (RunDrain leaving) old new (runs.drained leaving old) is
        (kept old (runs.drained leaving old)
        (run_drained_of (Weighing (inside old)) (runs.first_left leaving.own) leaving.ticker old refl))
    balance Leak old new is = at Leak old new (closing.leaked old) is (kept old (closing.leaked old) (leaked_same old))
    balance LeakNext old new is =
        at LeakNext old new (closing.leak_woken old) is
        (kept old (closing.leak_woken old) (leak_same (slice_get old.leaving.items 0) (closing.first_left old)))
    balance Close old new is =
        let same : inside (closing.closed old) ≡ inside old = omega arith in
        at Close old new (closing.closed old) is (kept old (closing.closed old) same)
    balance Drain old new is = at Drain old new (closing.drained old) is (none_in (drain_weight old))

    course : (calls : List (Call F T X)) (first last : Solo F T X) → (does : Course calls first last)
        → inside last + all_out weigh calls first last does ≡ sum_of (handed_in weigh) calls + inside first
    course [] first last does = let same : inside last ≡ inside first = ap (λ (t : Solo F T X). inside t) does in omega (arith, same)
    course (call ∷ calls) first last does =
        let one : inside does.0 + handed_out weigh call first ≡ handed_in weigh call + inside first =
        balance call first does.0 does.1 in
        let rest : inside last + all_out weigh calls does.0 last does.2 ≡ sum_of (handed_in weigh) calls + inside does.0 =
        course calls does.0 last does.2 in
        omega (arith, one, rest)

    pub balances : (limit : ℕ) (kind : Kind) (calls : List (Call F T X)) (first last : Solo F T X) → solo.IsNew limit kind first
        → (does : Course calls first last) → Balances weigh calls first last does
    balances limit kind calls first last new does =
        let table : weight_in weigh first.table.entries ≡ 0 = ap (λ t. weight_in weigh t.entries) new.table in
        let going : weight_in weigh first.going.entries ≡ 0 = ap (λ t. weight_in weigh t.entries) new.going in
        let all = course calls first last does in
        let balanced : sum_of (handed_in weigh) calls ≡ inside last + all_out weigh calls first last does =
        omega (arith, table, going, all) in
        balanced
