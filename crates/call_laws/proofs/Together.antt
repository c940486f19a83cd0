-- For calls_keep_all_laws.
use Rattle.std.proofs.Common.{ℕ, List}
use Rattle.executor_model.specs.Steps.{run, start}
use Rattle.call_laws.proofs.AnsweringOnce.{left-alone}
use Rattle.call_laws.proofs.Beginning.{every-begin}
use Rattle.call_laws.proofs.DroppedOnce.{dropped-once}
use Rattle.call_laws.proofs.DroppingOwn.{own-entered}
use Rattle.call_laws.proofs.Entering.{every-entered}
use Rattle.call_laws.proofs.EnteringOutputs.{outputs-entered}
use Rattle.call_laws.proofs.Gone.{dropped-gone}
use Rattle.call_laws.proofs.Leaking.{leaked-static}
use Rattle.call_laws.proofs.Living.{few-live}
use Rattle.call_laws.proofs.Taking.{every-answer, every-go}
use Rattle.call_laws.proofs.Telling.{every-told}
use Rattle.call_laws.proofs.Types.{Kind, Step}
use Rattle.call_laws.proofs.UsingUp.{used-up-gone}
use Rattle.call_laws.specs.CallLaws.{CallLaws}

pub all-laws : (limit : ℕ) (kind : Kind) (parties : ℕ) (steps : List Step) → CallLaws (run steps (start limit kind parties))
all-laws limit kind parties steps = record {
  begins = every-begin limit kind parties steps;
  goes = every-go limit kind parties steps;
  ends = every-answer limit kind parties steps;
  left_alone = left-alone limit kind parties steps;
  drops = every-entered limit kind parties steps;
  output_drops = outputs-entered limit kind parties steps;
  own_drops = own-entered limit kind parties steps;
  own_once = λ l k n ts e r. dropped-once l k n ts r;
  told = every-told limit kind parties steps;
  gone = dropped-gone limit kind parties steps;
  leaked = leaked-static limit kind parties steps;
  used_up = used-up-gone limit kind parties steps;
  few = few-live limit kind parties steps;
}
