use Rattle.call_laws.proofs.Beginning.{every-begin}
use Rattle.call_laws.proofs.begins.calls_can_be_begun.Goals as goal

pub returns : goal.returns
returns c = every-begin
