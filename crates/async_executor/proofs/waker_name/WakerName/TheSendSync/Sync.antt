-- By reference there is nothing to do with it.
use denote.Param.Send.{IsSync, part_keyless}
use Rattle.async_executor.specs.contracts.waker_name.WakerName.{the_row}
use Rattle.async_executor.proofs.waker_name.WakerName.TheSendSync.Send.{send}

pub sync : IsSync the_row
sync = record { shared = λ d b o κ q. part_keyless the_row send q d b o }
