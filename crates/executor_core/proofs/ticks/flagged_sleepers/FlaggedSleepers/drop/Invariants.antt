use Rattle.std.specs.Prelude.{vec_len}
use Rattle.executor_core.proofs.ticks.flagged_sleepers.FlaggedSleepers.drop.Given as goal

abbrev pub decreases-loop-room : goal.decreases-loop-room
decreases-loop-room l = vec_len l.rooms
