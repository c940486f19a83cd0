-- That the search of a run goes as `next` says, with its steals and its walk.
use Rattle.std.specs.Prelude.{◌≡◌, ℕ, ◌<◌, ◌≤◌, ◌||◌, Bool, true, false, List, [], ◌∷◌, Option, Some, None, Result, Ok, Err}
use Rattle.executor_parts.specs.declared.places.EntryPlace.{EntryPlace}
use Rattle.task_moves.specs.declared.local_task.answers.Start.{Start}
use Rattle.task_moves.specs.declared.local_task.answers.Start.TheVariants.{Poll, Drop}
use Rattle.task_moves.specs.declared.moves.owed.Move.TheVariants as move
use Rattle.call_steps.specs.declared.names.RunPoll.{RunPoll}
use Rattle.call_steps.specs.declared.saw.Saw.TheVariants as saw
use Rattle.call_steps.specs.declared.step.CallStep.TheVariants as step
use Rattle.call_steps.specs.declared.step.run.RunStep.TheVariants as run_step
use Rattle.call_steps.specs.declared.step.tick.TickStep.TheVariants as tick_step
use Rattle.call_steps.specs.declared.step.user.UserStep.TheVariants as user_step
use Rattle.call_steps.specs.Sleeping.{asleep}
use Rattle.call_steps.specs.Todo.{following}
use Rattle.solo.specs.declared.names.Task.{Task}
use Rattle.solo.specs.declared.names.SoloWaker.{SoloWaker}
use Rattle.solo.specs.declared.runs.Missed.{Missed}
use Rattle.solo.specs.declared.runs.Ran.{Ran}
use Rattle.solo.specs.declared.runs.Runner.{Runner}
use Rattle.solo.specs.declared.ticks.Ticker.{Ticker}
use Rattle.solo.specs.declared.solo.Solo.{Solo}
use Rattle.solo.specs.Runs as runs
use Rattle.solo.specs.Steals.{seek_answer, sought, stolen_if}
use Rattle.solo.specs.Turns as turns
use Rattle.solo_laws.specs.Seen.{name_of}
use Rattle.solo_laws.specs.Going.{Going, Step, calm, quiet}
use Rattle.solo_laws.specs.Goes.{goes}
use Rattle.solo_laws.specs.HandedOut.{start_of, to_drop}
use Rattle.solo_laws.specs.TicksGo.{AnswersAs, has_place, lies, waking}

abbrev pub of_run : {X : Type 0} → SoloWaker X → Runner → RunPoll Task ℕ
of_run waker runner = record { run = runner.number; waker = name_of waker }

-- behind the poll of what it has found it searches again, or calls its own waker
abbrev pub behind_run : Bool → RunPoll Task ℕ → List Step
behind_run true x = step.Run (run_step.WakeOwn x) ∷ []
behind_run false x = step.Tick (tick_step.Search (asleep x)) ∷ []

-- whether it calls its own waker there
abbrev pub is_own_call : Step → Bool
is_own_call (step.Run (run_step.WakeOwn x)) = true
is_own_call _ = false

abbrev pub calls_own : List Step → Bool
calls_own [] = false
calls_own (o ∷ os) = is_own_call o || calls_own os

abbrev pub to_run_on : Task → Option (Start EntryPlace) → List Step → List Step
to_run_on task (Some (Poll place)) more = step.User (user_step.Poll task) ∷ more
to_run_on task (Some (Drop place)) more = to_drop task (step.Move move.SettleClosed task ∷ more)
to_run_on task None more = more

module _ {F T X : Type 0} where
  -- the steps end so, at any depth from some on
  abbrev pub Ends : List Step → Going F T X → Going F T X → Type 0
  Ends steps g end = (d : ℕ) × ((m : ℕ) → d ≤ m → goes m steps g ≡ end)

  abbrev pub run_at : Runner → ℕ → Ticker → Option (SoloWaker X) → Solo F T X → Going F T X
  run_at runner start ticker waker s =
      record (calm s) { runner = runner; start = start; ticker = ticker; waker = waker; rests = true }

  -- at every 64th that it counts it steals from the executor's queues before the task's turn begins
  abbrev pub runs_found : Runner → ℕ → Ticker → Option (SoloWaker X) → RunPoll Task ℕ → Task → Solo F T X → Going F T X
  runs_found runner start ticker spare x task s =
      let stolen = stolen_if (runs.is_steal_due runner) runner.number (runs.told ticker s) in
      record (run_at runner start runs.awake spare (turns.begun task stolen)) {
        out = record (waking ticker s) { found = turns.begin_answer task stolen };
        left = to_run_on task (start_of task stolen) (behind_run (runs.gives_way runner) x);
      }

  abbrev pub run_ticked : Option Task → Runner → ℕ → Ticker → SoloWaker X → Solo F T X → Going F T X
  run_ticked (Some task) runner start ticker waker s =
      runs_found runner start ticker (Some waker) (of_run waker runner) task s
  run_ticked None runner start ticker waker s =
      lies (asleep (of_run waker runner)) ticker waker (run_at runner start ticker (Some waker) s)

  -- this is what `solo` says of the search of a run
  abbrev pub RunsAs : Ran F X → Going F T X → Type 0
  RunsAs answer g = (calls_own g.left ≡ answer.gives_way) × AnswersAs answer.ticked g

  -- with a copy of its waker
  abbrev pub RunTakesGo : Solo F T X → Type 0
  RunTakesGo s = (runner : Runner) (ticker : Ticker) (waker : SoloWaker X) (start : ℕ)
      → runner.counted < 64 → runner.taken < 200
      → ((seek_answer runner.number start s).task ≡ None → has_place ticker (sought runner.number start s) ≡ true)
      → Ends (following saw.Pending (step.User (user_step.PollOwn (of_run waker runner)) ∷ []))
      (record (run_at runner start ticker (Some waker) s) { rests = false })
      (run_ticked (seek_answer runner.number start s).task runner start ticker waker (sought runner.number start s))
      × ((run_ticked (seek_answer runner.number start s).task runner start ticker waker (sought runner.number start s)).solo
      ≡ runs.took runner ticker waker start s)
      × RunsAs (runs.take_answer runner ticker waker start s)
      (run_ticked (seek_answer runner.number start s).task runner start ticker waker (sought runner.number start s))

  abbrev pub run_searched : Option Task → Runner → ℕ → Ticker → SoloWaker X → Solo F T X → Going F T X
  run_searched (Some task) runner start ticker waker s = runs_found runner start ticker None (of_run waker runner) task s
  run_searched None runner start ticker waker s =
      record (run_at runner start ticker None s) { left = step.Tick (tick_step.CopyWaker (asleep (of_run waker runner))) ∷ [] }

  -- and of one without a waker: where it finds nothing its ticker comes back
  abbrev pub RunSearchesAs : Result (Ran F X) Missed → Going F T X → Type 0
  RunSearchesAs (Ok answer) g = RunsAs answer g
  RunSearchesAs (Err missed) g = (g.ticker ≡ missed.ticker) × (g.out ≡ quiet)

  -- without one it has to copy one where it finds nothing
  abbrev pub RunSearchesGo : Solo F T X → Type 0
  RunSearchesGo s = (runner : Runner) (ticker : Ticker) (waker : SoloWaker X) (start : ℕ)
      → runner.counted < 64 → runner.taken < 200
      → Ends (following saw.Pending (step.User (user_step.PollOwn (of_run waker runner)) ∷ []))
      (record (run_at runner start ticker None s) { rests = false })
      (run_searched (seek_answer runner.number start s).task runner start ticker waker (sought runner.number start s))
      × ((run_searched (seek_answer runner.number start s).task runner start ticker waker (sought runner.number start s)).solo
      ≡ runs.searched runner ticker start s)
      × RunSearchesAs (runs.search_answer runner ticker start s)
      (run_searched (seek_answer runner.number start s).task runner start ticker waker (sought runner.number start s))
