use Rattle.task_word.specs.Steps.{IsSameSeat, keeps_all}
use Rattle.task_word.proofs.steps.parked.unpark.Given as goal

abbrev pub invariant-loop : goal.invariant-loop
invariant-loop g l = IsSameSeat l.initial.pass l.pass × keeps_all l.initial.pass.me l.pass.me
