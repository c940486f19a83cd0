use Rattle.std.proofs.Common.{rules}
use Rattle.executor_core.proofs.act.closing.leak_next.Goals as goal

pub leak_task-requires-clause-needs : goal.leak_task-requires-clause-needs
leak_task-requires-clause-needs c = c.requires.needs c.in-Some.f c.pop_front.new.self.items (search rules)
