use Rattle.std.proofs.Common.{refl, sym, subst, ap, ◌≡◌, ◌∙◌}
use Rattle.std.specs.Prelude.{IfSome, is_ok, not, is_some}
use Rattle.task_moves.specs.Moves as moves
use Rattle.task_word.specs.Tokens.{ShowsSeat}
use Rattle.async_task.specs.Awaiters.{IsLentBy}
use Rattle.async_task.proofs.Ending.{ends_closed, comes_next, at_err}
use Rattle.async_task.proofs.running.Running.settle.Goals as goal

-- the task was closed while its future was polled
pub returns-in-Some-future : goal.returns-in-Some-future
returns-in-Some-future g c =
    ends_closed c.args.self.run.cell.now.board.shared _ _ _ _ _ _ _ c.in-Pending.is
    (c.pay-in-Some-future.ensures ∙ subst (λ found. IfSome found (λ future. future ≡ c.give_back.result.future)) c.in-Some-future.is
    c.pend-left.ensures.same ∙ c.give_back.ensures.2)
    (subst (λ waker. IsLentBy waker c.into_held-held.result) (sym c.in-Lent.is) (sym c.into_held-held.ensures))
    refl
    (subst (λ cell. ShowsSeat cell.board.shared moves.end_pending c.pend-left.result.0 c.in-Err.closed.pass) c.give_back.ensures.0
    (at_err _ (λ closed. ShowsSeat c.give_back.result.cell.now.board.shared moves.end_pending c.pend-left.result.0 closed.pass) _ _
    c.in-Err.is c.pend-left.ensures.made))
    (comes_next _ (subst (λ left. is_ok left ≡ not (is_some c.pend-left.result.0.next)) c.in-Err.is c.pend-left.ensures.ends))
    (sym c.pend-left.ensures.future ∙ ap is_some c.in-Some-future.is)
