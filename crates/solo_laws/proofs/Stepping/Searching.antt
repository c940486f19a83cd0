-- The search of a run goes as `next` says: its own queue, the executor's, and the walk.
use Rattle.std.proofs.Common.{◌≡◌, ℕ, zero, suc, ◌%◌, ◌<◌, Bool, true, false, List, [], ◌∷◌}
use Rattle.std.proofs.Common.{Option, Some, None, refl, arith}
use Rattle.executor_parts.specs.declared.mark.Mark.{Mark}
use Rattle.executor_parts.specs.declared.places.EntryPlace.{EntryPlace}
use Rattle.executor_parts.specs.Marks.{other}
use Rattle.task_moves.specs.declared.local_task.answers.Start.{Start}
use Rattle.task_moves.specs.declared.local_task.answers.Start.TheVariants.{Poll, Drop}
use Rattle.call_steps.specs.declared.names.Look.{Look}
use Rattle.call_steps.specs.declared.names.Look.TheVariants.{First, Second}
use Rattle.call_steps.specs.declared.names.RunPoll.{RunPoll}
use Rattle.call_steps.specs.declared.names.Sleeping.{Sleeping}
use Rattle.call_steps.specs.declared.names.Source.TheVariants as source
use Rattle.call_steps.specs.declared.names.Steal.{Steal}
use Rattle.call_steps.specs.declared.names.Then.TheVariants as then
use Rattle.call_steps.specs.declared.names.Waker.{Waker}
use Rattle.call_steps.specs.declared.saw.Searcher.{Searcher}
use Rattle.call_steps.specs.Looking.{mark_in}
use Rattle.call_steps.specs.declared.saw.Saw.TheVariants as saw
use Rattle.call_steps.specs.declared.step.CallStep.TheVariants as step
use Rattle.call_steps.specs.declared.step.run.ListStep.TheVariants as list_step
use Rattle.call_steps.specs.declared.step.run.RunStep.TheVariants as run_step
use Rattle.call_steps.specs.declared.step.tick.TickStep.TheVariants as tick_step
use Rattle.call_steps.specs.Next.{next_list, next_run, next_tick}
use Rattle.call_steps.specs.Sleeping.{asleep, found_by_run}
use Rattle.solo.specs.declared.names.Task.{Task}
use Rattle.solo.specs.declared.names.SoloWaker.{SoloWaker}
use Rattle.solo.specs.declared.runs.Runner.{Runner}
use Rattle.solo.specs.declared.ticks.Ticker.{Ticker}
use Rattle.solo.specs.declared.solo.Solo.{Solo}
use Rattle.solo.specs.Cells.{choose}
use Rattle.solo.specs.Lines.{LinesValue, first_of, popped_from, mark_of_turn, turned, taken_by, found_by}
use Rattle.solo.specs.OwnQueues as own
use Rattle.solo.specs.Runs as runs
use Rattle.solo.specs.Steals as steals
use Rattle.solo.specs.Steals.{is_own, next_place, own_popped, round, round_on, seek_answer, sought}
use Rattle.solo.specs.Steals.{stolen, stolen_if}
use Rattle.solo.specs.Ticks as ticks
use Rattle.solo_laws.specs.Going.{Going, Step}
use Rattle.solo_laws.specs.Seen.{first, name_of, found_or, sleeps, source_of, walk_at, walk_from}
use Rattle.solo_laws.specs.Done.{walks_to}
use Rattle.solo_laws.specs.HandedOut.{start_of}
use Rattle.solo_laws.specs.TicksGo.{has_place, is_again, lies, looks_again}
use Rattle.solo_laws.specs.SearchesGo.{Ends, behind_run, calls_own, of_run, run_at, run_searched, run_ticked, to_run_on}
use Rattle.solo_laws.specs.SearchesGo.{RunsAs, RunSearchesAs, RunSearchesGo, RunTakesGo}
use Rattle.solo_laws.proofs.Stepping.Telling.{two, nine}
use Rattle.solo_laws.proofs.Stepping.Ticking.{found_nothing, lies_down, pending_as}
use Rattle.solo_laws.proofs.Stepping.Depth.{app, fixed, nil, one}
use Rattle.solo_laws.proofs.Stepping.Stealing.{finds_so, steals_so}

abbrev poll_of : ℕ → Waker Task → RunPoll Task ℕ
poll_of number w = record { run = number; waker = w }

abbrev searcher_of : Runner → Ticker → Searcher
searcher_of runner ticker = record { sleeps = sleeps ticker; counted = runner.counted; taken = runner.taken }

-- what comes behind a search
abbrev after : Runner → Ticker → Waker Task → Option Task → List Step
after runner ticker w (Some task) = found_by_run (searcher_of runner ticker) (poll_of runner.number w) task
after runner ticker w None = step.Tick (tick_step.CopyWaker (asleep (poll_of runner.number w))) ∷ []

-- it gives way where it calls its own waker behind what it has found

gives_by : (start : Option (Start EntryPlace)) (gives : Bool) (task : Task) (x : RunPoll Task ℕ)
    → calls_own (to_run_on task start (behind_run gives x)) ≡ gives
gives_by (Some (Poll place)) true task x = refl
gives_by (Some (Poll place)) false task x = refl
gives_by (Some (Drop place)) true task x = refl
gives_by (Some (Drop place)) false task x = refl
gives_by None true task x = refl
gives_by None false task x = refl

lies_on : (again : Bool) (sleeping : Sleeping Task ℕ) → calls_own (looks_again again sleeping) ≡ false
lies_on true sleeping = refl
lies_on false sleeping = refl

module _ {F T X : Type 0} where
  -- the walk

  module _ (runner : Runner) (start : ℕ) (ticker : Ticker) (spare : Option (SoloWaker X)) (w : Waker Task) where
    abbrev here : Solo F T X → Going F T X
    here s = run_at runner start ticker spare s

    -- in a walk round so many queues
    abbrev within : ℕ → ℕ → Solo F T X → Going F T X
    within count at s = record (here s) { count = count; at = at }

    -- it ends so behind what the search has found
    abbrev Behind : Option Task × Solo F T X → Going F T X → Type 0
    Behind found end = Ends (after runner ticker w found.0) (here found.1) end

    unlocked : (found : Option Task) (count at : ℕ) (s : Solo F T X) (end : Going F T X) → Ends (after runner ticker w found) (here s) end
        → Ends (step.List list_step.UnlockRead ∷ after runner ticker w found) (within count at s) end
    unlocked found count at s end tail =
        app (step.List list_step.UnlockRead) (after runner ticker w found) (within count at s) (here s) end
        (one (step.List list_step.UnlockRead) (within count at s) (here s) refl (nil (here s))) tail

    abbrev walks_so : ℕ → ℕ → ℕ → Solo F T X → Going F T X → Type 0
    walks_so count left at s end =
        Ends (next_list (list_step.LockRead (poll_of runner.number w)) (walk_from count runner.number left at s))
        (within count (walk_at count runner.number left at s) s) end

    -- behind a look that found nothing a walk goes on as it begins
    rows_by : (b : Bool) (more count at n : ℕ) (s : Solo F T X) (g end : Going F T X)
        → (Ends (next_list (list_step.LockRead (poll_of runner.number w))
        (walk_from count runner.number more (next_place at count) s)) g end
        → Ends (next_run (run_step.LookOwn (poll_of runner.number w) n) (walk_from count runner.number more (next_place at count) s)) g end)
        → Ends (next_list (list_step.LockRead (poll_of runner.number w))
        (choose b (walk_from count runner.number more (next_place at count) s) (saw.Queue (own.number_at at s.runs.queues) more))) g end
        → Ends (next_run (run_step.LookOwn (poll_of runner.number w) n)
        (choose b (walk_from count runner.number more (next_place at count) s) (saw.Queue (own.number_at at s.runs.queues) more))) g end
    rows_by true more count at n s g end on ends = on ends
    rows_by false more count at n s g end on ends = ends

    rows_same : (left count at n : ℕ) (s : Solo F T X) (g end : Going F T X)
        → Ends (next_list (list_step.LockRead (poll_of runner.number w)) (walk_from count runner.number left at s)) g end
        → Ends (next_run (run_step.LookOwn (poll_of runner.number w) n) (walk_from count runner.number left at s)) g end
    rows_same zero count at n s g end ends = ends
    rows_same (suc more) count at n s g end ends = rows_by (is_own runner.number at s) more count at n s g end
        (rows_same more count (next_place at count) n s g end) ends

    looked_by : (a : Option Task) (count left at : ℕ) (t : Solo F T X) (end : Going F T X)
        → ((u : Solo F T X) → Behind (round count runner.number left at u) end → walks_so count left at u end)
        → Behind (round_on a (own_popped runner.number t) (round count runner.number left at (own_popped runner.number t))) end
        → Ends
        (next_run (run_step.LookOwn (poll_of runner.number w) left)
        (found_or a (searcher_of runner ticker) (walk_from count runner.number left at (own_popped runner.number t))))
        (within count (walks_to a at (walk_at count runner.number left at (own_popped runner.number t))) (own_popped runner.number t)) end
    looked_by (Some task) count left at t end more tail = unlocked (Some task) count at (own_popped runner.number t) end tail
    looked_by None count left at t end more tail = rows_same left count at left (own_popped runner.number t) _ end
        (more (own_popped runner.number t) tail)

    walk_by : (b : Bool) (count more at : ℕ) (s : Solo F T X) (end : Going F T X)
        → ((a : ℕ) (u : Solo F T X) → Behind (round count runner.number more a u) end → walks_so count more a u end)
        → Behind
        (round_on
        (choose b None (own.first_of runner.number (steals.stolen_at runner.number at s).runs))
        (choose b s (own_popped runner.number (steals.stolen_at runner.number at s)))
        (round count runner.number more (next_place at count)
        (choose b s (own_popped runner.number (steals.stolen_at runner.number at s))))) end
        → Ends
        (next_list (list_step.LockRead (poll_of runner.number w))
        (choose b (walk_from count runner.number more (next_place at count) s) (saw.Queue (own.number_at at s.runs.queues) more)))
        (within count (choose b (walk_at count runner.number more (next_place at count) s) (next_place at count)) s) end
    walk_by true count more at s end on tail = on (next_place at count) s tail
    walk_by false count more at s end on tail =
        let st : Steal Task ℕ = record {
          poll = (poll_of runner.number w);
          from = source.Own (own.number_at at s.runs.queues);
          then = then.Walk more;
        } in
        let t : Solo F T X = steals.stolen_at runner.number at s in
        steals_so st (within count (next_place at count) s) end
        (one (step.Run (run_step.LookOwn (poll_of runner.number w) more)) (within count (next_place at count) t) end refl
        (looked_by (own.first_of runner.number t.runs) count more (next_place at count) t end (λ u. on (next_place at count) u) tail))

    walk : (left count at : ℕ) (s : Solo F T X) (end : Going F T X) → Behind (round count runner.number left at s) end
        → walks_so count left at s end
    walk zero count at s end tail = unlocked None count at s end tail
    walk (suc more) count at s end tail =
        walk_by (is_own runner.number at s) count more at s end (λ a u. walk more count a u end) tail

    -- the search

    abbrev common_end : Option Task → Mark → Solo F T X → Option Task × Solo F T X
    common_end a mark s =
        ((steals.further_answer_by a runner.number start s).task, steals.further_by a mark runner.number start s)

    found_common : (look : Look) (task : Task) (s : Solo F T X) (end : Going F T X)
        → Behind (Some task, stolen (source_of (source.Common (mark_in look))) runner.number s) end
        → Ends (next_run (run_step.SearchCommon (poll_of runner.number w) look) (saw.Found task)) (here s) end
    found_common look task s end tail =
        steals_so (record { poll = (poll_of runner.number w); from = source.Common (mark_in look); then = then.Found task })
        (here s) end tail

    missed_common : (s : Solo F T X) (end : Going F T X) → Behind (steals.whole_round runner.number start s) end
        → Ends (step.List (list_step.LockRead (poll_of runner.number w)) ∷ []) (here s) end
    missed_common s end tail =
        one (step.List (list_step.LockRead (poll_of runner.number w))) (here s) end refl
        (walk s.runs.listed s.runs.listed (start % s.runs.listed) s end tail)

    second_by : (a : Option Task) (mark : Mark) (s : Solo F T X) (end : Going F T X) → Behind (common_end a mark s) end
        → Ends (next_run (run_step.SearchCommon (poll_of runner.number w) (Second mark)) (first a)) (here s) end
    second_by (Some task) mark s end tail = found_common (Second mark) task s end tail
    second_by None mark s end tail = missed_common s end tail

    first_by : (a : Option Task) (mark : Mark) (s : Solo F T X) (end : Going F T X)
        → Behind
        (common_end (found_by a mark (popped_from mark s.lines)).task (found_by a mark (popped_from mark s.lines)).mark
        (record s { lines = taken_by a mark (popped_from mark s.lines) })) end
        → Ends (next_run (run_step.SearchCommon (poll_of runner.number w) (First mark)) (first a))
        (here (record s { lines = popped_from mark s.lines })) end
    first_by (Some task) mark s end tail = found_common (First mark) task (record s { lines = popped_from mark s.lines }) end tail
    first_by None mark s end tail =
        let l : LinesValue = popped_from mark s.lines in
        one (step.Run (run_step.SearchCommon (poll_of runner.number w) (Second (other mark)))) (here (record s { lines = l })) end refl
        (second_by (first_of (other mark) l) (other mark) (record s { lines = popped_from (other mark) l }) end tail)

    further : (s : Solo F T X) (end : Going F T X)
        → Behind ((steals.seek_further_answer runner.number start s).task, steals.sought_further runner.number start s) end
        → Ends (step.Run (run_step.TakeTurn (poll_of runner.number w)) ∷ []) (here s) end
    further s end tail =
        let mark : Mark = mark_of_turn s.lines.turn in
        let l : LinesValue = turned s.lines in
        one (step.Run (run_step.TakeTurn (poll_of runner.number w))) (here s) end refl
        (one (step.Run (run_step.SearchCommon (poll_of runner.number w) (First mark))) (here (record s { lines = l })) end refl
        (first_by (first_of mark l) mark (record s { lines = l }) end tail))

    own_by : (a : Option Task) (s : Solo F T X) (end : Going F T X)
        → Behind ((steals.seek_answer_by a runner.number start s).task, steals.sought_by a runner.number start s) end
        → Ends (next_tick (tick_step.Search (asleep (poll_of runner.number w))) (found_or a (searcher_of runner ticker) saw.Nothing))
        (here s) end
    own_by (Some task) s end tail = tail
    own_by None s end tail = further s end tail

    pub searches_so : (s : Solo F T X) (end : Going F T X)
        → Behind ((seek_answer runner.number start s).task, sought runner.number start s) end
        → Ends (step.Tick (tick_step.Search (asleep (poll_of runner.number w))) ∷ []) (record (here s) { rests = false }) end
    searches_so s end tail =
        one (step.Tick (tick_step.Search (asleep (poll_of runner.number w)))) (record (here s) { rests = false }) end refl
        (own_by (own.first_of runner.number s.runs) (own_popped runner.number s) end tail)

  -- with a waker

  lies_so : (runner : Runner) (start : ℕ) (ticker : Ticker) (waker : SoloWaker X) (s : Solo F T X) → has_place ticker s ≡ true
      → Ends (step.Tick (tick_step.CopyWaker (asleep (of_run waker runner))) ∷ []) (run_at runner start ticker (Some waker) s)
      (lies (asleep (of_run waker runner)) ticker waker (run_at runner start ticker (Some waker) s))
  lies_so runner start ticker waker s is =
      fixed (λ n. two (two (two (two (nine n))))) 17 _ _ _ (λ m le. omega (arith, le))
      (λ n. lies_down ticker n (asleep (of_run waker runner)) waker (run_at runner start ticker (Some waker) s) is)

  taken_so : (a : Option Task) (runner : Runner) (start : ℕ) (ticker : Ticker) (waker : SoloWaker X) (s : Solo F T X)
      → runner.counted < 64 → runner.taken < 200 → (a ≡ None → has_place ticker s ≡ true)
      → Ends (after runner ticker (name_of waker) a) (run_at runner start ticker (Some waker) s)
      (run_ticked a runner start ticker waker s)
  taken_so (Some task) runner start ticker waker s few fewer is = finds_so runner start ticker (Some waker) (name_of waker) task s few fewer
  taken_so None runner start ticker waker s few fewer is = lies_so runner start ticker waker s (is refl)

  gives_found : (runner : Runner) (ticker : Ticker) (w : SoloWaker X) (task : Task) (s : Solo F T X)
      → calls_own (to_run_on task (start_of task (stolen_if (runs.is_steal_due runner) runner.number (runs.told ticker s)))
      (behind_run (runs.gives_way runner) (of_run w runner)))
      ≡ runs.gives_way runner
  gives_found runner ticker w task s =
      gives_by (start_of task (stolen_if (runs.is_steal_due runner) runner.number (runs.told ticker s))) (runs.gives_way runner) task
      (of_run w runner)

  took_as : (a : Option Task) (runner : Runner) (start : ℕ) (ticker : Ticker) (waker : SoloWaker X) (s : Solo F T X)
      → (run_ticked a runner start ticker waker s).solo ≡ runs.took_by a runner ticker waker s
  took_as (Some task) runner start ticker waker s = refl
  took_as None runner start ticker waker s = refl

  runs_as : (a : Option Task) (walked : Bool) (runner : Runner) (start : ℕ) (ticker : Ticker) (waker : SoloWaker X) (s : Solo F T X)
      → RunsAs (runs.take_answer_by a walked runner ticker waker s) (run_ticked a runner start ticker waker s)
  runs_as (Some task) walked runner start ticker waker s =
      (gives_found runner ticker waker task s, (refl, refl, refl, refl, refl, refl, refl))
  runs_as None walked runner start ticker waker s = (
    lies_on (is_again (ticks.sleep_answer ticker waker s).look) (asleep (of_run waker runner)),
    (refl, found_nothing ticker waker s, refl, refl, refl, refl, pending_as ticker waker s),
  )

  pub run_takes_go : (s : Solo F T X) → RunTakesGo s
  run_takes_go s runner ticker waker start few fewer is =
      let task : Option Task = (seek_answer runner.number start s).task in
      let left : Solo F T X = sought runner.number start s in (
        searches_so runner start ticker (Some waker) (name_of waker) s (run_ticked task runner start ticker waker left)
            (taken_so task runner start ticker waker left few fewer is),
        took_as task runner start ticker waker left,
        runs_as task (seek_answer runner.number start s).has_walked runner start ticker waker left,
      )

  -- without one

  searched_so : (a : Option Task) (runner : Runner) (start : ℕ) (ticker : Ticker) (waker : SoloWaker X) (s : Solo F T X)
      → runner.counted < 64 → runner.taken < 200
      → Ends (after runner ticker (name_of waker) a) (run_at runner start ticker None s)
      (run_searched a runner start ticker waker s)
  searched_so (Some task) runner start ticker waker s few fewer = finds_so runner start ticker None (name_of waker) task s few fewer
  searched_so None runner start ticker waker s few fewer =
      fixed (λ n. two n) 2 _ _ _ (λ m le. omega (arith, le)) (λ n. refl)

  searched_as : (a : Option Task) (runner : Runner) (start : ℕ) (ticker : Ticker) (waker : SoloWaker X) (s : Solo F T X)
      → (run_searched a runner start ticker waker s).solo ≡ runs.searched_by a runner ticker s
  searched_as (Some task) runner start ticker waker s = refl
  searched_as None runner start ticker waker s = refl

  misses_as : (a : Option Task) (walked : Bool) (runner : Runner) (start : ℕ) (ticker : Ticker) (waker : SoloWaker X) (s : Solo F T X)
      → RunSearchesAs (runs.search_answer_by a walked runner ticker s) (run_searched a runner start ticker waker s)
  misses_as (Some task) walked runner start ticker waker s =
      (gives_found runner ticker waker task s, (refl, refl, refl, refl, refl, refl, refl))
  misses_as None walked runner start ticker waker s = (refl, refl)

  pub run_searches_go : (s : Solo F T X) → RunSearchesGo s
  run_searches_go s runner ticker waker start few fewer =
      let task : Option Task = (seek_answer runner.number start s).task in
      let left : Solo F T X = sought runner.number start s in (
        searches_so runner start ticker None (name_of waker) s (run_searched task runner start ticker waker left)
            (searched_so task runner start ticker waker left few fewer),
        searched_as task runner start ticker waker left,
        misses_as task (seek_answer runner.number start s).has_walked runner start ticker waker left,
      )
