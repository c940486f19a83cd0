use Rattle.std.proofs.Common.{◌++◌, ap, sym, ◌∙◌}
use Rattle.std.specs.Prelude.{reverse}
use Rattle.executor_model.specs.Steps.{poll_run}
use Rattle.executor_model.specs.World.{Stage}
use Rattle.executor_core.specs.Runs.{as_stage}
use Rattle.executor_core.proofs.begin.begin_poll_of_run.Goals as goal

pub returns-in-New : goal.returns-in-New
returns-in-New c =
    c.push_reserved.ensures.items ∙ ap (λ (k : Stage). c.args.todo.now.items ++ reverse (poll_run k c.args.x))
    (sym (ap as_stage c.in-New.is) ∙ c.stage.ensures)

pub returns-in-Listed : goal.returns-in-Listed
returns-in-Listed c =
    c.push_reserved-in-Listed.ensures.items ∙ ap (λ (k : Stage). c.args.todo.now.items ++ reverse (poll_run k c.args.x))
    (sym (ap as_stage c.in-Listed.is) ∙ c.stage.ensures)

pub returns-in-Ended : goal.returns-in-Ended
returns-in-Ended c =
    c.push_reserved-in-Ended.ensures.items ∙ ap (λ (k : Stage). c.args.todo.now.items ++ reverse (poll_run k c.args.x))
    (sym (ap as_stage c.in-Ended.is) ∙ c.stage.ensures)
