-- When a step is refused.
use Rattle.std.specs.Prelude.{◌≡◌, ◌⊎◌, Bool, false, Option, Some, None, Err}
use Rattle.executor_model.specs.declared.op.Op.{Op}
use Rattle.executor_model.specs.declared.step.Step.{Step}
use Rattle.executor_model.specs.declared.step.StepError.{StepError}
use Rattle.executor_model.specs.declared.step.StepError.TheVariants.{NoMemory}
use Rattle.executor_model.specs.Steps.{Machine, is_locked_out, refusal, step}
use Rattle.executor_model.specs.World.{World}

-- the step isn't possible for this cause; or it is possible, and the machine can't grow
abbrev pub IsRefused : Machine → Step → StepError → Type 0
IsRefused s t e = (step s t ≡ Err e) ⊎ ((e ≡ NoMemory) × (refusal s t ≡ None))

-- the next thing to do takes the lock of the list of queues, and others have it
abbrev pub waits_for_lock : World → Option Op → Bool
waits_for_lock w None = false
waits_for_lock w (Some o) = is_locked_out w.lock o
