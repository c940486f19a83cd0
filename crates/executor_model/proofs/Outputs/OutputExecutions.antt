-- For outputs_go_once.
-- In each execution an output goes at most once.
use Rattle.std.proofs.Common.{ℕ, List, [], ◌∷◌, arith}
use Rattle.executor_model.proofs.Types.{Kind, Reply, Event, Hold, Op, Step}
use Rattle.executor_model.specs.Sound.{Pend, with_ops}
use Rattle.executor_model.specs.{OutputOnce.OutputGoesOnce, World.World, World.log, Steps.run, Steps.start}
use Rattle.executor_model.proofs.OneFuture.Tallies.{outputs, outputs-none, outputs-push}
use Rattle.executor_model.proofs.OneFuture.Extras.{Extra, no_extra, with_extra}
use Rattle.executor_model.proofs.Outputs.Outputs.{Given, out-act}
use Rattle.executor_model.proofs.{OneFuture.Views.none, OneFuture.Views.seen, OneFuture.EffectsWays.each-run}

given-end : (w : World) (p : ℕ) (a : Reply) (held : Hold) (g : ℕ) (r : Pend) (y : Extra) →
    Given (seen w g (with_ops g (Op.End a held ∷ []) r) (with_extra g (Op.End a held ∷ []) y)) →
    Given (seen (log w (Event.CallEnded p a)) g (with_ops g [] r) (with_extra g [] y))
given-end w p a held g r y h = grind (arith, outputs-push)

none-given : (limit : ℕ) (kind : Kind) (g : ℕ) → Given (seen (start limit kind 0).world g none no_extra)
none-given limit kind g = grind (arith, outputs-none)

goes-once : (g : ℕ) (w : World) (r : Pend) (y : Extra) → Given (seen w g r y) → OutputGoesOnce g w.trace
unfolding outputs
goes-once g w r y h = omega (arith, h.once)

pub output-goes-once : (limit : ℕ) (kind : Kind) (n : ℕ) (ts : List Step) (f : ℕ) →
    OutputGoesOnce f (run ts (start limit kind n)).world.trace
output-goes-once limit kind n ts f =
    goes-once f (run ts (start limit kind n)).world _ _ (each-run Given out-act given-end none-given limit kind n ts f)
