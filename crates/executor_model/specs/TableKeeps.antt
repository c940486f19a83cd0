-- The table has no more entries than the limit, and an entry until its future's drop and the section behind it have ended.
use Rattle.std.specs.Prelude.{◌≡◌, ℕ, ◌+◌, ◌≤◌, length}
use Rattle.executor_model.specs.declared.op.Op.{Op}
use Rattle.executor_model.specs.declared.op.Op.TheVariants as op
use Rattle.executor_model.specs.declared.op.UserOp.TheVariants as user_op
use Rattle.executor_model.specs.Entries.{HasTable}
use Rattle.executor_model.specs.Rows.{leaves_of}
use Rattle.executor_model.specs.Sound.{times}
use Rattle.executor_model.specs.Steps.{Machine}
use Rattle.executor_model.specs.Weights.{same, weigh_all}

-- user code in which future g is dropped
abbrev pub dropping_of : ℕ → Op → ℕ
dropping_of g (op.User (user_op.Drop f)) = same g f
dropping_of g _ = 0

-- never more than the limit
abbrev pub IsTableBound : Machine → Type 0
IsTableBound s = length s.world.table ≤ s.world.limit

-- until the drop of the executor takes the table out, a future whose drop is in progress, or whose entry has still to be
-- taken out behind it, has its entry
abbrev pub EntryOutlastsDrop : Machine → ℕ → Type 0
EntryOutlastsDrop s f = HasTable s → 1 ≤ weigh_all (dropping_of f) s.parties + weigh_all (leaves_of f) s.parties →
    times f s.world.table ≡ 1
