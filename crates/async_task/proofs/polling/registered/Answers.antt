use Rattle.std.proofs.Common.{subst}
use Rattle.task_word.specs.declared.cell.Cell.{Cell}
use Rattle.async_task.specs.Polls.{FoundAt}
use Rattle.async_task.proofs.Looking.{finds_again}
use Rattle.async_task.proofs.polling.registered.Goals as goal

-- the handle that looks again is of the cell that it was of before
pub returns-clause-found : goal.returns-clause-found
returns-clause-found g c =
    let look = c.look_again-polled in
    let answer = c.answered-token in
    subst (λ (z : Cell _ _ _). FoundAt z.board.shared answer.result.0.claim answer.result.1) c.register-task.ensures.same
    (finds_again c.register-task.result.1.task.task.cell.now look.result.0 look.result.1.task look.result.1.output
    answer.result.0.claim answer.result.1
    look.ensures.made look.ensures.gives look.ensures.calls look.ensures.same answer.ensures.told answer.ensures.found)
