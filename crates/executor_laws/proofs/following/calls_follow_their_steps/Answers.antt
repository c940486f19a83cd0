use Rattle.executor_laws.proofs.CallSteps.Acts.{acts-follow, answers-follow}
use Rattle.executor_laws.proofs.following.calls_follow_their_steps.Goals as goal

pub returns-clause-acts : goal.returns-clause-acts
returns-clause-acts c = acts-follow

pub returns-clause-answers : goal.returns-clause-answers
returns-clause-answers c = answers-follow
