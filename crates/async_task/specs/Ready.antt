-- Whether what a poll answers is there.
use Rattle.std.specs.Prelude.{Bool, true, false}
use Rattle.async_task.specs.declared.poll.Poll.{Poll}
use Rattle.async_task.specs.declared.poll.Poll.TheVariants.{Ready, Pending}

module _ {T : Type 0} where
  abbrev pub is_ready : Poll T → Bool
  is_ready (Ready _) = true
  is_ready Pending = false

  abbrev pub is_pending : Poll T → Bool
  is_pending (Ready _) = false
  is_pending Pending = true
