use Rattle.async_task.proofs.Ending.{woken_as_owed}
use Rattle.async_task.proofs.runnable.Pause.finish.Goals as goal

pub returns : goal.returns
returns g c = woken_as_owed _ _ _ c.left-rest.ensures.told c.left-rest.ensures.queued c.was_woken-woken.ensures
