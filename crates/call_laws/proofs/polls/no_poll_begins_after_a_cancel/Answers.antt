use Rattle.call_laws.proofs.AnsweringOnce.{left-alone}
use Rattle.call_laws.proofs.polls.no_poll_begins_after_a_cancel.Goals as goal

pub returns : goal.returns
returns c = left-alone
