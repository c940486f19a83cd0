-- What a contract sees of a run's counts.
use Rattle.std.specs.Prelude.{ℕ}

-- how many a run has counted since its last 64th, and taken since it last let others go first
pub record Counted : Type 0 where
  pub counted : ℕ
  pub taken : ℕ
