use Rattle.std.proofs.Common.{◌≡◌, sym, subst}
use Rattle.std.specs.Prelude.{IfOk, is_ok, is_some, not}
use Rattle.task_moves.specs.Moves as moves
use Rattle.task_word.specs.Given.{is_given}
use Rattle.task_word.specs.Handles.{IsHandleOf}
use Rattle.async_task.proofs.Ending.{at_ok}
use Rattle.async_task.proofs.Looking.{Came, finds_at_once}
use Rattle.async_task.proofs.polling.looked.Goals as goal

-- the first look has an answer
pub returns-in-Ok-clause-found : goal.returns-in-Ok-clause-found
returns-in-Ok-clause-found g c =
    let look = c.poll-polled in
    let owed = look.result.0 in
    let cell = c.args.token.cell.now in
    let polled = c.in-Ok.polled in
    finds_at_once cell owed polled.task polled.output c.answered.result.0.claim c.answered.result.1
    (at_ok (λ p. Came moves.poll cell owed p.output p.task) _ _ _ c.in-Ok.is look.ensures.made)
    (sym (subst (λ r. is_ok r ≡ is_some owed.answer) c.in-Ok.is look.ensures.answers))
    (subst (λ r. IfOk r (λ p. is_some p.output ≡ is_given owed.answer)) c.in-Ok.is look.ensures.gives)
    (subst (λ r. IfOk r (λ p. is_ok p.task ≡ not (is_some owed.awaiter))) c.in-Ok.is look.ensures.calls)
    (at_ok (λ p. IsHandleOf cell p.task) _ _ _ c.in-Ok.is look.ensures.same)
    c.answered.ensures.told c.answered.ensures.found
