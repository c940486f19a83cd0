-- What a run does next once it has counted what it found.
use Rattle.std.proofs.Common.{◌≡◌, Bool, true, false, ◌∷◌, refl}
use Rattle.async_task.specs.declared.cell.Identity.{Identity}
use Rattle.task_moves.specs.declared.moves.owed.Move.TheVariants as move
use Rattle.call_steps.specs.Sleeping.{run_by}
use Rattle.call_steps.specs.declared.names.RunPoll.{RunPoll}
use Rattle.call_steps.specs.declared.step.CallStep.TheVariants as step
use Rattle.async_executor.specs.Runs.{ran}

-- it takes that up, whether it lets others go first then or not
pub takes_up :
    (gives : Bool) (x : RunPoll Identity (Unit {0})) (f : Identity)
    → run_by gives x f ≡ step.Move move.TakeUp f ∷ ran gives x.waker
takes_up true x f = refl
takes_up false x f = refl
