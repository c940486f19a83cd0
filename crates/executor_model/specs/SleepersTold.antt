-- Where there is something to do, a sleeper is told of it.
use Rattle.std.specs.Prelude.{◌⊎◌, ℕ, ◌≤◌, length, cond}
use Rattle.executor_parts.specs.declared.mark.Mark.{Mark}
use Rattle.executor_parts.specs.Marks.{same_mark}
use Rattle.executor_model.specs.declared.op.Look.{Look}
use Rattle.executor_model.specs.declared.op.Look.TheVariants.{First, Second}
use Rattle.executor_model.specs.declared.op.Op.{Op}
use Rattle.executor_model.specs.declared.op.Op.TheVariants as op
use Rattle.executor_model.specs.declared.op.RunOp.TheVariants as run_op
use Rattle.executor_model.specs.declared.op.SleeperOp.TheVariants as sleeper_op
use Rattle.executor_model.specs.declared.op.StealOp.{StealOp}
use Rattle.executor_model.specs.declared.op.StealOp.TheVariants as steal_op
use Rattle.executor_model.specs.declared.op.Then.{Then}
use Rattle.executor_model.specs.declared.op.Then.TheVariants as then
use Rattle.executor_model.specs.declared.op.TickOp.TheVariants as tick_op
use Rattle.executor_model.specs.Steps.{Machine}
use Rattle.executor_model.specs.World.{queue_of}
use Rattle.executor_model.specs.Weights.{weigh_all}
use Rattle.executor_model.specs.SleepersAgree.{SomeoneNotified}

-- a run that has found something exchanges the flag once its steal has ended
abbrev pub tells_then : Then → ℕ
tells_then (then.Found f) = 1
tells_then (then.StealPlain f) = 0
tells_then (then.Run f) = 0
tells_then (then.Walk at left) = 0

abbrev pub tells_steal : StealOp → ℕ
tells_steal (steal_op.Length s) = tells_then s.then
tells_steal (steal_op.OwnLength s n) = tells_then s.then
tells_steal (steal_op.Take s more) = tells_then s.then
tells_steal (steal_op.Put s more f) = tells_then s.then

-- a first look that finds nothing is followed by one at the other queue
abbrev pub tells_look : Mark → Look → ℕ
tells_look m (First n) = 1
tells_look m (Second n) = cond (same_mark m n) 1 0

-- a party has still to exchange the flag, to hand out, or to look at the queue of this mark in its search
abbrev pub tells_of : Mark → Op → ℕ
tells_of m (op.Sleeper sleeper_op.ExchangeFlag) = 1
tells_of m (op.Sleeper sleeper_op.HandOut) = 1
tells_of m (op.Tick (tick_op.Search s)) = 1
tells_of m (op.Tick (tick_op.Look s l)) = tells_look m l
tells_of m (op.Run (run_op.TakeTurn x)) = 1
tells_of m (op.Run (run_op.SearchCommon x l)) = tells_look m l
tells_of m (op.Steal o) = tells_steal o
tells_of m _ = 0

abbrev pub SleepersAreTold : Machine → Type 0
SleepersAreTold s = (m : Mark) →
    1 ≤ length (queue_of s.world m).items → 1 ≤ s.world.sleepers.count →
    SomeoneNotified s ⊎ (1 ≤ weigh_all (tells_of m) s.parties)
