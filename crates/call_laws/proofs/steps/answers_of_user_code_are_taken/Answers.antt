use Rattle.call_laws.proofs.Taking.{every-answer}
use Rattle.call_laws.proofs.steps.answers_of_user_code_are_taken.Goals as goal

pub returns : goal.returns
returns c = every-answer
