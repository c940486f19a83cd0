use Rattle.executor_laws.proofs.CallSteps.Seeing.{acts-fit, answers-fit}
use Rattle.executor_laws.proofs.following.calls_see_what_fits.Goals as goal

pub returns-clause-acts : goal.returns-clause-acts
returns-clause-acts c = acts-fit

pub returns-clause-answers : goal.returns-clause-answers
returns-clause-answers c = answers-fit
