use Rattle.std.proofs.Common.{sym, subst}
use Rattle.task_moves.specs.Moves as moves
use Rattle.task_word.specs.Tokens.{Shows}
use Rattle.task_word.specs.declared.tokens.claim.Claim.{Claim}
use Rattle.async_task.specs.Awaiters.{IsLentBy}
use Rattle.async_task.proofs.Ending.{shown}
use Rattle.async_task.proofs.running.Running.pause_once.Goals as goal

pub returns-in-Some-clause-ended : goal.returns-in-Some-clause-ended
returns-in-Some-clause-ended g c =
    let s = shown (λ (claim : Claim). Shows c.give_back.result.cell.now.board.shared moves.end_pending c.in-Ok.owed claim)
    (λ runnable. runnable.claim) (λ trace. trace.claim) c.in-Ok.runnable c.in-Ok.ensures.made in (
      c.in-Ok.owed,
      s.0,
      subst (λ cell. Shows cell.board.shared moves.end_pending c.in-Ok.owed s.0) c.give_back.ensures.0 s.1,
      (subst (λ waker. IsLentBy waker c.into_held-held.result) (sym c.in-Lent.is) (sym c.into_held-held.ensures), c.in-Some.ensures),
    )

pub returns-in-None-clause-ended : goal.returns-in-None-clause-ended
returns-in-None-clause-ended g c =
    let s = shown (λ (claim : Claim). Shows c.give_back.result.cell.now.board.shared moves.end_pending c.in-Ok.owed claim)
    (λ runnable. runnable.claim) (λ trace. trace.claim) c.in-Ok.runnable c.in-Ok.ensures.made in
    (c.in-Ok.owed, s.0, subst (λ cell. Shows cell.board.shared moves.end_pending c.in-Ok.owed s.0) c.give_back.ensures.0 s.1, c.in-None.ensures)
