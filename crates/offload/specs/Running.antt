-- What a poll of a future answers that hands work in and awaits its output.
use Rattle.std.specs.Prelude.{◌≡◌, Result, Err}
use Rattle.async_task.specs.declared.poll.Poll.{Poll}
use Rattle.async_task.specs.declared.poll.Poll.TheVariants.{Ready, Pending}
use Rattle.offload.specs.declared.errors.RunError.{RunError}
use Rattle.offload.specs.declared.errors.RunError.TheVariants.{Closed, NoMemory}

abbrev pub IsReady : {X : Type 0} → Poll X → Type 0
IsReady (Ready _) = Unit {0}
IsReady Pending = ⊥

module _ {J : Type 0} {X : Type 0} where
  -- work that wasn't accepted comes back
  abbrev pub IsBack : J → Poll (Result X (RunError J)) → Type 0
  IsBack job (Ready (Err (Closed back))) = back ≡ job
  IsBack job (Ready (Err (NoMemory back))) = back ≡ job
  IsBack job _ = Unit {0}

  -- work that was accepted never comes back
  abbrev pub IsHeard : Poll (Result X (RunError J)) → Type 0
  IsHeard (Ready (Err (Closed _))) = ⊥
  IsHeard (Ready (Err (NoMemory _))) = ⊥
  IsHeard _ = Unit {0}
