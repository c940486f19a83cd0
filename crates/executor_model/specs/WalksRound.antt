-- A run's walk goes to the own queue of each other run in the list.
use Rattle.std.specs.Prelude.{◌≢◌, ℕ, ◌≤◌, List, [], ◌∷◌}
use Rattle.executor_model.specs.declared.op.ListOp.TheVariants as list_op
use Rattle.executor_model.specs.declared.op.Op.{Op}
use Rattle.executor_model.specs.declared.op.Op.TheVariants as op
use Rattle.executor_model.specs.declared.op.RunPoll.{RunPoll}
use Rattle.executor_model.specs.declared.op.Source.TheVariants.{Own}
use Rattle.executor_model.specs.declared.op.Steal.{Steal}
use Rattle.executor_model.specs.declared.op.StealOp.TheVariants as steal_op
use Rattle.executor_model.specs.declared.op.Then.TheVariants as then
use Rattle.executor_model.specs.declared.step.Hint.{Hint}
use Rattle.executor_model.specs.ActsOfRuns.{look_own_by}
use Rattle.executor_model.specs.Doing.{act}
use Rattle.executor_model.specs.Sound.{times}
use Rattle.executor_model.specs.Steps.{Machine}
use Rattle.executor_model.specs.World.{World}

-- a steal from the own queue of run q, in a walk that then goes on from this place of the list
abbrev pub theft : RunPoll → ℕ → ℕ → ℕ → Steal
theft x q at left = record { poll = x; from = Own q; then = then.Walk at left }

-- this leads to a steal from the own queue of run r, where the run finds its own queue empty behind each steal before
pub data ComesTo (w : World) (x : RunPoll) (r : ℕ) : List Op → Type 0 where
  at_once : (at left : ℕ) → ComesTo w x r (op.Steal (steal_op.Length (theft x r at left)) ∷ [])
  behind : (q at left : ℕ) → ComesTo w x r (look_own_by [] w x at left).next →
      ComesTo w x r (op.Steal (steal_op.Length (theft x q at left)) ∷ [])

-- a walk, wherever it starts, comes to each run in the list but the walker
abbrev pub WalksGoRound : Machine → Type 0
WalksGoRound s = (p r : ℕ) (h : Hint) (x : RunPoll) → 1 ≤ times r s.world.listed → r ≢ x.run →
    ComesTo s.world x r (act p h (op.List (list_op.LockRead x)) s.world).next
