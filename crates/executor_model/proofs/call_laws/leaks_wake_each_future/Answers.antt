use Rattle.executor_model.proofs.Table.LeakWakes.{leaks-wake}
use Rattle.executor_model.proofs.call_laws.leaks_wake_each_future.Goals as goal

pub returns : goal.returns
returns c = leaks-wake
