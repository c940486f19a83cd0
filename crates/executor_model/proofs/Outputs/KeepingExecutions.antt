-- For outputs_are_kept.
-- In each execution, what holds of an output that is there and of the awaiter of a future that is completed holds at every
-- moment.
use Rattle.std.proofs.Common.{ℕ, List, [], ◌∷◌, arith}
use Rattle.executor_model.proofs.Types.{Kind, Reply, Event, Hold, Op, Step}
use Rattle.executor_model.specs.{World.World, World.log, Sound.Pend, Sound.with_ops, Steps.Machine, Steps.run, Steps.start}
use Rattle.executor_model.proofs.OneFuture.Tallies.{readies-push, readies-none, spent-push, spent-none}
use Rattle.executor_model.proofs.OneFuture.Extras.{Extra, no_extra, with_extra}
use Rattle.executor_model.proofs.{OneFuture.Views.none, OneFuture.Views.seen, Outputs.Keeping.Stored}
use Rattle.executor_model.proofs.{Outputs.KeepingViews.stored-act, OneFuture.EffectsWays.each-run, OneFuture.EffectsWays.view}

abbrev pub Stores : Machine → Type 0
Stores s = (g : ℕ) → Stored (view s g)

stored-end : (w : World) (p : ℕ) (a : Reply) (held : Hold) (g : ℕ) (r : Pend) (y : Extra) →
    Stored (seen w g (with_ops g (Op.End a held ∷ []) r) (with_extra g (Op.End a held ∷ []) y)) →
    Stored (seen (log w (Event.CallEnded p a)) g (with_ops g [] r) (with_extra g [] y))
stored-end w p a held g r y h = grind (arith, readies-push, spent-push)

none-stored : (limit : ℕ) (kind : Kind) (g : ℕ) → Stored (seen (start limit kind 0).world g none no_extra)
none-stored limit kind g = grind (arith, readies-none, spent-none)

pub stores : (limit : ℕ) (kind : Kind) (n : ℕ) (ts : List Step) → Stores (run ts (start limit kind n))
stores limit kind n ts = each-run Stored stored-act stored-end none-stored limit kind n ts
