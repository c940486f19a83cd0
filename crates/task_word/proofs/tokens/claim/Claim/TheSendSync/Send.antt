use denote.Param.Send.{IsSend}
use Rattle.task_word.specs.contracts.tokens.claim.Claim.{the_row}
use Rattle.task_word.proofs.Claims.{claim_send}

pub send : IsSend the_row
send = claim_send
