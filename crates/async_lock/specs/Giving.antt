-- Whether a poll gave what its future waits for.
use Rattle.std.specs.Prelude.{Bool, true, false, Result, Ok}
use Rattle.async_task.specs.declared.poll.Poll.{Poll}
use Rattle.async_task.specs.declared.poll.Poll.TheVariants.{Ready}

abbrev pub gave : {X : Type 0} {E : Type 0} → Poll (Result X E) → Bool
gave (Ready (Ok _)) = true
gave _ = false
