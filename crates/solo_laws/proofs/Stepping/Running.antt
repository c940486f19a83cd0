-- The making of a run, its first poll and its leave go as `next` says.
use Rattle.std.proofs.Common.{◌≡◌, Option, Some, None, refl, ap, ◌∙◌}
use Rattle.call_steps.specs.declared.names.TickOrRun.TheVariants as tick_or_run
use Rattle.call_steps.specs.declared.reply.Reply.TheVariants as reply
use Rattle.call_steps.specs.declared.step.run.RunStep.TheVariants as run_step
use Rattle.call_steps.specs.Next.{next_run}
use Rattle.solo_laws.specs.Seen.{first}
use Rattle.solo.specs.declared.names.Task.{Task}
use Rattle.solo.specs.declared.runs.Leaving.{Leaving}
use Rattle.solo.specs.declared.runs.Runner.{Runner}
use Rattle.solo.specs.declared.solo.Solo.{Solo}
use Rattle.solo.specs.Runs as runs
use Rattle.solo.specs.Turns.{scheduled, schedule_answer}
use Rattle.solo_laws.specs.Going.{Out, calm, quiet}
use Rattle.solo_laws.specs.Goes.{goes}
use Rattle.solo_laws.specs.RunsGo.{RunsBegin, RunsRegister, RunLeavesGo, RunDrainsGo, DrainsAs, again, run_drained}
use Rattle.solo_laws.proofs.Stepping.Telling.{appends, alone}
use Rattle.solo_laws.proofs.Stepping.Ticking.{leaves_as}

module _ {F T X : Type 0} where
  pub runs_begin : (s : Solo F T X) → RunsBegin s
  runs_begin s = refl

  pub runs_register : (s : Solo F T X) → RunsRegister s
  runs_register s runner waker = refl

  pub run_leaves_go : (s : Solo F T X) → RunLeavesGo s
  run_leaves_go s runner ticker = refl

  drains_by : (a : Option Task) (runner : Runner) (leaving : Leaving) (s : Solo F T X)
      → goes 19 (next_run (run_step.Reschedule runner.number reply.Done) (first a))
      (record (calm s) { ticker = leaving.ticker; own = runs.rest_left leaving.own })
      ≡ run_drained a runner leaving s
  drains_by (Some task) runner leaving s =
      ap (goes 18 (again runner)) (appends 6 task (record (calm s) { ticker = leaving.ticker; own = runs.rest_left leaving.own }))
      ∙ ap
      (λ (out : Out F T X). record (calm (scheduled task s)) {
        ticker = leaving.ticker;
        own = runs.rest_left leaving.own;
        out = out;
        left = again runner;
      })
      (alone (schedule_answer task s) quiet)
  drains_by None runner leaving s = leaves_as leaving.ticker 3 (tick_or_run.Run runner.number) (runs.rest_left leaving.own) s

  solo_by : (a : Option Task) (runner : Runner) (leaving : Leaving) (s : Solo F T X)
      → (run_drained a runner leaving s).solo ≡ runs.drained_by a leaving.ticker s
  solo_by (Some task) runner leaving s = refl
  solo_by None runner leaving s = refl

  drains_as : (a : Option Task) (runner : Runner) (leaving : Leaving) (s : Solo F T X)
      → DrainsAs (runs.drain_answer_by a leaving s) runner (run_drained a runner leaving s)
  drains_as (Some task) runner leaving s = (refl, refl, refl, refl)
  drains_as None runner leaving s = (refl, refl)

  pub run_drains_go : (s : Solo F T X) → RunDrainsGo s
  run_drains_go s runner leaving = (
    drains_by (runs.first_left leaving.own) runner leaving s,
    solo_by (runs.first_left leaving.own) runner leaving s,
    drains_as (runs.first_left leaving.own) runner leaving s,
  )
