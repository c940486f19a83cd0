-- Pieces of what a run or tick does with what it has found.
use Rattle.std.specs.Prelude.{ℕ, ◌+◌, ◌==◌, Bool, true, false, List, [], ◌∷◌}
use Rattle.executor_model.specs.declared.op.Op.{Op}
use Rattle.executor_model.specs.declared.op.Op.TheVariants as op
use Rattle.executor_model.specs.declared.op.RunPoll.{RunPoll}
use Rattle.executor_model.specs.declared.op.RunOp.TheVariants as run_op
use Rattle.executor_model.specs.declared.op.TickOrRun.{TickOrRun}
use Rattle.executor_model.specs.declared.op.TickOp.TheVariants as tick_op
use Rattle.executor_model.specs.ActsOfRuns.{asleep, counted_by}
use Rattle.executor_model.specs.ActsOfSleepers.{tell_and_return}
use Rattle.executor_model.specs.World.{World, Done, run_of}

-- who sleeps wakes up
abbrev pub wakes_up : Bool → TickOrRun → List Op
wakes_up true who = op.Tick (tick_op.WakeUp who) ∷ []
wakes_up false who = []

-- who slept and leaves passes on what it was told, and then gives its room back
abbrev pub passed_on : Bool → Bool → List Op
passed_on true told = tell_and_return told
passed_on false told = []

-- after the last task that it takes in a row, the run calls its own waker and lets others go first; else it searches on
abbrev pub onward : Bool → RunPoll → List Op
onward true x = op.Run (run_op.WakeOwn x) ∷ []
onward false x = op.Tick (tick_op.Search (asleep x)) ∷ []

-- the run counts what it has found
abbrev pub counted : World → RunPoll → ℕ → Done
counted w x f = counted_by ((run_of w x.run).counted + 1 == 64) w x f
