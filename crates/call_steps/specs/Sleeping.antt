-- What ticks and runs do next that have found a Runnable, or nothing.
use Rattle.std.specs.Prelude.{◌+◌, ◌==◌, Bool, true, false, List, [], ◌∷◌, ◌++◌}
use Rattle.executor_parts.specs.declared.mark.Mark.{Mark}
use Rattle.executor_parts.specs.declared.mark.Mark.TheVariants.{Urgent}
use Rattle.task_moves.specs.declared.moves.owed.Move.TheVariants as move
use Rattle.call_steps.specs.declared.names.RunPoll.{RunPoll}
use Rattle.call_steps.specs.declared.names.Sleeping.{Sleeping}
use Rattle.call_steps.specs.declared.names.Look.TheVariants.{First}
use Rattle.call_steps.specs.declared.names.Source.TheVariants.{Common}
use Rattle.call_steps.specs.declared.names.Then.TheVariants as then
use Rattle.call_steps.specs.declared.names.TickOrRun.{TickOrRun}
use Rattle.call_steps.specs.declared.names.TickOrRun.TheVariants.{Tick, Run}
use Rattle.call_steps.specs.declared.reply.Reply.TheVariants as reply
use Rattle.call_steps.specs.declared.saw.Searcher.{Searcher}
use Rattle.call_steps.specs.declared.step.CallStep.{CallStep}
use Rattle.call_steps.specs.declared.step.CallStep.TheVariants as step
use Rattle.call_steps.specs.declared.step.run.RunStep.TheVariants as run_step
use Rattle.call_steps.specs.declared.step.run.StealStep.TheVariants as steal_step
use Rattle.call_steps.specs.declared.step.tick.SleeperStep.TheVariants as sleeper_step
use Rattle.call_steps.specs.declared.step.tick.TickStep.TheVariants as tick_step

module _ {F T : Type 0} where
  -- a sleeper is told that there is something to do
  abbrev pub tell : List (CallStep F T)
  tell = step.Sleeper sleeper_step.ExchangeFlag ∷ []

  -- who sleeps wakes up first
  abbrev pub woken_up : Bool → TickOrRun T → List (CallStep F T) → List (CallStep F T)
  woken_up true who more = step.Tick (tick_step.WakeUp who) ∷ more
  woken_up false who more = more

  -- how a run falls asleep in this poll
  abbrev pub asleep : RunPoll F T → Sleeping F T
  asleep x = record { waker = x.waker; who = Run x.run }

  -- what is found is run; after 200 the run calls its own waker and lets others go first
  abbrev pub run_by : Bool → RunPoll F T → F → List (CallStep F T)
  run_by true x f = step.Move move.TakeUp f ∷ step.Run (run_step.WakeOwn x) ∷ []
  run_by false x f = step.Move move.TakeUp f ∷ step.Tick (tick_step.Search (asleep x)) ∷ []

  abbrev pub run_found : Searcher → RunPoll F T → F → List (CallStep F T)
  run_found at x f = run_by (at.taken + 1 == 200) x f

  -- at every 64th that it counts, it steals from the executor's urgent queue, and then from its plain one, before it runs
  -- that
  abbrev pub counted_by : Bool → Searcher → RunPoll F T → F → List (CallStep F T)
  counted_by true at x f =
      step.Steal (steal_step.Length (record { poll = x; from = Common Urgent; then = then.StealPlain f })) ∷ []
  counted_by false at x f = run_found at x f

  -- it wakes up if it sleeps, tells a sleeper and counts what it has found
  abbrev pub found_by_run : Searcher → RunPoll F T → F → List (CallStep F T)
  found_by_run at x f = woken_up at.sleeps (Run x.run) tell ++ counted_by (at.counted + 1 == 64) at x f

  -- a tick runs what it has found, after it told another sleeper, and then it is ready
  abbrev pub found_by_tick : Bool → TickOrRun T → F → List (CallStep F T)
  found_by_tick sleeps who f =
      woken_up sleeps who
      (step.Sleeper sleeper_step.ExchangeFlag ∷ step.Move move.TakeUp f ∷ step.End reply.Ready ∷ [])

  -- a run has found it in its own queue
  abbrev pub found_as : TickOrRun T → Searcher → Sleeping F T → F → List (CallStep F T)
  found_as (Tick t) at s f = []
  found_as (Run r) at s f = found_by_run at (record { run = r; waker = s.waker }) f

  abbrev pub found : Searcher → Sleeping F T → F → List (CallStep F T)
  found at s f = found_as s.who at s f

  -- a run that has found nothing there takes a turn
  abbrev pub found_nothing : TickOrRun T → Sleeping F T → List (CallStep F T)
  found_nothing (Tick t) s = []
  found_nothing (Run r) s = step.Run (run_step.TakeTurn (record { run = r; waker = s.waker })) ∷ []

  -- a tick has taken a turn
  abbrev pub took_turn : TickOrRun T → Sleeping F T → Mark → List (CallStep F T)
  took_turn (Tick t) s m = step.Tick (tick_step.Look s (First m)) ∷ []
  took_turn (Run r) s m = []

  -- there is no place to sleep, which never happens: its waker is called at once
  abbrev pub sleep_nowhere : Sleeping F T → List (CallStep F T)
  sleep_nowhere s = step.Sleeper (sleeper_step.CallSleeper s) ∷ step.End reply.Pending ∷ []

  -- who was told and leaves tells another in its place; then it gives its room back
  abbrev pub tell_and_return : Bool → List (CallStep F T)
  tell_and_return true = step.Sleeper sleeper_step.ExchangeFlag ∷ step.Run run_step.ReturnRoom ∷ []
  tell_and_return false = step.Run run_step.ReturnRoom ∷ []
