-- It owns nothing, so it may go to another thread.
use denote.Param.Send.{IsSend, owning_send, sendable}
use Rattle.std.proofs.Crossing.{crosses}
use Rattle.async_executor.specs.contracts.waker_name.WakerName.{the_row, the_type}

pub send : IsSend the_row
send = owning_send the_type (search (sendable, crosses), tt) (λ d. tt) (λ k x w. tt)
