-- What a full own queue gave back is dropped next, but in a walk.
use Rattle.std.proofs.Common.{◌≡◌, false, ◌∷◌, refl}
use Rattle.async_task.specs.declared.cell.Identity.{Identity}
use Rattle.task_moves.specs.declared.moves.owed.Move.TheVariants as move
use Rattle.call_steps.specs.Stealing.{is_walk, put_refused, stolen_as}
use Rattle.call_steps.specs.declared.names.RunPoll.{RunPoll}
use Rattle.call_steps.specs.declared.names.Then.{Then}
use Rattle.call_steps.specs.declared.names.Then.TheVariants as then
use Rattle.call_steps.specs.declared.saw.Searcher.{Searcher}
use Rattle.call_steps.specs.declared.step.CallStep.TheVariants as step

pub drops_it : (t : Then Identity) (at : Searcher) (x : RunPoll Identity (Unit {0})) (f : Identity) → is_walk t ≡ false →
    put_refused t at x f ≡ step.Move move.DropRunnable f ∷ stolen_as t at x
drops_it (then.Walk left) at x f e = absurd (cc)
drops_it t at x f e = refl
