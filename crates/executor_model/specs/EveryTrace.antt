-- What holds of the trace of every execution, whatever the parties do and in whatever order, and of each future.
use Rattle.std.specs.Prelude.{ℕ, List}
use Rattle.executor_model.specs.declared.kind.Kind.{Kind}
use Rattle.executor_model.specs.declared.step.Step.{Step}
use Rattle.executor_model.specs.Trace.{Trace}
use Rattle.executor_model.specs.Steps.{run, start}

-- and of the kind of the machine
abbrev pub EveryTraceBy : (Kind → ℕ → Trace → Type 0) → Type 0
EveryTraceBy P = (limit : ℕ) (kind : Kind) (parties : ℕ) (steps : List Step) (f : ℕ) →
    P kind f (run steps (start limit kind parties)).world.trace

abbrev pub EveryTrace : (ℕ → Trace → Type 0) → Type 0
EveryTrace P = EveryTraceBy (λ kind. P)
