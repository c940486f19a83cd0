use Rattle.async_executor.proofs.Pausing.{due_is_its_own}
use Rattle.async_executor.proofs.deeds.task_run.Polling.pause_once.Goals as goal

pub returns-in-Ok-clause-due : goal.returns-in-Ok-clause-due
returns-in-Ok-clause-due g c = due_is_its_own _ _ c.args.self.running.waker c.in-Ok.due c.args.name.now c.requires c.in-Ok.ensures.ended.3
