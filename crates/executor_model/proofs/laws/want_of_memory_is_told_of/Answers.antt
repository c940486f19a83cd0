use Rattle.executor_model.proofs.Memory.Refusing.{want-is-told-of}
use Rattle.executor_model.proofs.laws.want_of_memory_is_told_of.Goals as goal

pub returns : goal.returns
returns c = want-is-told-of
