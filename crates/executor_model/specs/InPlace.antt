-- A future is in its place in the table but while it is polled and once its drop is on its way, and then it isn't.
use Rattle.std.specs.Prelude.{◌≡◌, ◌⊎◌, ℕ, ◌≤◌, true, false, slice_index_or}
use Rattle.executor_model.specs.declared.op.Op.{Op}
use Rattle.executor_model.specs.declared.op.Op.TheVariants as op
use Rattle.executor_model.specs.declared.op.TableOp.TheVariants as table_op
use Rattle.executor_model.specs.declared.op.UserOp.TheVariants as user_op
use Rattle.executor_model.specs.Steps.{Machine}
use Rattle.executor_model.specs.Trace.{has, is_accepted, is_dropped}
use Rattle.executor_model.specs.Weights.{same, weigh_all}

-- future g is polled, or was and has still to be put back, or it was taken out to be dropped
abbrev pub away_of : ℕ → Op → ℕ
away_of g (op.User (user_op.Poll f)) = same g f
away_of g (op.User (user_op.BeginDrop f)) = same g f
away_of g (op.Table (table_op.PutBack f)) = same g f
away_of g _ = 0

abbrev pub IsAway : Machine → ℕ → Type 0
IsAway s f = (1 ≤ weigh_all (away_of f) s.parties) ⊎ (has (is_dropped f) s.world.trace ≡ true)

-- an accepted future is in its place, or away, and not both
pub record IsInPlace (s : Machine) (f : ℕ) : Type 0 where
  pub there : has (is_accepted f) s.world.trace ≡ true → IsAway s f ⊎ (slice_index_or s.world.inside f false ≡ true)
  pub out : IsAway s f → slice_index_or s.world.inside f false ≡ false
