-- What a poll of a run answers.
use Rattle.std.specs.Prelude.{◌≡◌, Option, None, IsSome, Result, Ok, Err}
use Rattle.async_task.specs.declared.poll.Poll.{Poll}
use Rattle.async_task.specs.declared.poll.Poll.TheVariants.{Ready, Pending}
use Rattle.local_executor.specs.declared.errors.RunError.{RunError}
use Rattle.local_executor.specs.declared.errors.RunError.TheVariants.{NoMemory, Finished}

-- a run is ready once: then its future goes
abbrev pub IsRunAnswer : {G O : Type 0} → Option G → Option G → Poll (Result O RunError) → Type 0
IsRunAnswer old new (Ready (Ok output)) = IsSome old × (new ≡ None)
IsRunAnswer old new (Ready (Err NoMemory)) = IsSome old × IsSome new
IsRunAnswer old new (Ready (Err Finished)) = (old ≡ None) × (new ≡ None)
IsRunAnswer old new Pending = IsSome old × IsSome new
