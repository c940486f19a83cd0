-- That the making of a run, its first poll and its leave go as `next` says.
use Rattle.std.specs.Prelude.{◌≡◌, false, List, [], ◌∷◌, Option, Some, None}
use Rattle.call_steps.specs.declared.asked.Asked.TheVariants as asks
use Rattle.call_steps.specs.declared.names.Stage.TheVariants as stage
use Rattle.call_steps.specs.declared.names.Waker.{Waker}
use Rattle.call_steps.specs.declared.reply.Reply.TheVariants as reply
use Rattle.call_steps.specs.declared.step.CallStep.TheVariants as step
use Rattle.call_steps.specs.declared.step.run.RunStep.TheVariants as run_step
use Rattle.call_steps.specs.declared.step.user.UserStep.TheVariants as user_step
use Rattle.call_steps.specs.Begins.{begins}
use Rattle.solo.specs.declared.names.Task.{Task}
use Rattle.solo.specs.declared.runs.Leaving.{Leaving}
use Rattle.solo.specs.declared.runs.RunLeft.{RunLeft}
use Rattle.solo.specs.declared.runs.RunLeft.TheVariants.{Scheduled, Gone}
use Rattle.solo.specs.declared.runs.Runner.{Runner}
use Rattle.solo.specs.declared.ticks.Ticker.{Ticker}
use Rattle.solo.specs.declared.solo.Solo.{Solo}
use Rattle.solo.specs.Runs as runs
use Rattle.solo.specs.Ticks as ticks
use Rattle.solo.specs.Turns as turns
use Rattle.solo_laws.specs.Going.{Going, Step, calm, quiet}
use Rattle.solo_laws.specs.Goes.{goes}
use Rattle.solo_laws.specs.HandedOut.{deep, dropping, ends, telling}

-- what is left of a run that leaves
abbrev pub again : Runner → List Step
again runner = step.Run (run_step.Reschedule runner.number reply.Done) ∷ []

module _ {F T X : Type 0} where
  abbrev pub RunsBegin : Solo F T X → Type 0
  RunsBegin s = goes deep (begins asks.NewRun) (calm s) ≡ ends (runs.made s) reply.Made quiet

  -- its own queue comes into the list, before its own future is polled
  abbrev pub RunsRegister : Solo F T X → Type 0
  RunsRegister s = (runner : Runner) (waker : Waker Task) →
      goes deep (begins (asks.PollRun (record { run = runner.number; waker = waker }) stage.New)) (calm s)
      ≡ record (calm (runs.begun runner s)) {
        left = step.User (user_step.PollOwn (record { run = runner.number; waker = waker })) ∷ [];
      }

  -- its own queue goes from there, and what is left in it comes back
  abbrev pub RunLeavesGo : Solo F T X → Type 0
  RunLeavesGo s = (runner : Runner) (ticker : Ticker) →
      goes deep (begins (asks.DropRun runner.number stage.Listed)) (record (calm s) { ticker = ticker })
      ≡ record (calm (runs.left runner s)) {
        ticker = (runs.leave_answer runner ticker s).ticker;
        own = (runs.leave_answer runner ticker s).own;
        left = again runner;
      }

  abbrev pub run_drained : Option Task → Runner → Leaving → Solo F T X → Going F T X
  run_drained (Some task) runner leaving s = record (calm (turns.scheduled task s)) {
    ticker = leaving.ticker;
    own = runs.rest_left leaving.own;
    out = telling (turns.schedule_answer task s);
    left = again runner;
  }
  run_drained None runner leaving s =
      record (ends (ticks.left leaving.ticker s) reply.Done (dropping (ticks.leave_answer leaving.ticker s))) {
        own = runs.rest_left leaving.own;
      }

  -- this is what `solo` says of it
  abbrev pub DrainsAs : RunLeft X → Runner → Going F T X → Type 0
  DrainsAs (Scheduled leaving told) runner g =
      (g.ticker ≡ leaving.ticker) × (g.own ≡ leaving.own) × (g.out ≡ telling told) × (g.left ≡ again runner)
  DrainsAs (Gone dropped) runner g = (record g.out { reply = None } ≡ dropping dropped) × (g.left ≡ [])

  -- the first task that is left is queued; behind the last the run leaves the sleepers
  abbrev pub RunDrainsGo : Solo F T X → Type 0
  RunDrainsGo s = (runner : Runner) (leaving : Leaving) →
      (goes deep (again runner) (record (calm s) { ticker = leaving.ticker; own = leaving.own; pauses = false })
      ≡ run_drained (runs.first_left leaving.own) runner leaving s)
      × ((run_drained (runs.first_left leaving.own) runner leaving s).solo ≡ runs.drained leaving s)
      × DrainsAs (runs.drain_answer leaving s) runner (run_drained (runs.first_left leaving.own) runner leaving s)
