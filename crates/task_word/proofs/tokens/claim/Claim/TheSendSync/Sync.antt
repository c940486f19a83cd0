use denote.Param.Send.{IsSync}
use Rattle.task_word.specs.contracts.tokens.claim.Claim.{the_row}
use Rattle.task_word.proofs.Claims.{claim_sync}

pub sync : IsSync the_row
sync = claim_sync
