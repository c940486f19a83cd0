use Rattle.std.proofs.Common.{◌≡◌, ◌≢◌, Err, Option, None, Some, IfSome}
use Rattle.commands.specs.declared.fault.Fault.TheVariants.{BadLine}
use Rattle.commands.specs.declared.words.Asked.TheVariants.{Sim, Jobs}
use Rattle.commands.proofs.program.program.Goals as goal

-- what ends on a fault that no good input has is no good input
not_good : {X Y : Type 0} (input : Option X) (IsBad IsGood : X → Type 0) (result fault : Y)
    → result ≡ fault → IfSome input IsBad → IfSome input (λ x. IsGood x → result ≢ fault) → IfSome input (λ x. IsBad x × (¬ (IsGood x)))
not_good None IsBad IsGood result fault is bad good = tt
not_good (Some x) IsBad IsGood result fault is bad good = (bad, λ is_good. good is_good is)

pub returns-in-Some-Sim-clause-bad_line : goal.returns-in-Some-Sim-clause-bad_line
returns-in-Some-Sim-clause-bad_line g c = λ number is. (
  Sim,
  rw c.in-Some-Sim.field-0-is at c.in-Some-Sim.ensures.found,
  not_good _ _ _ _ (Err (BadLine number)) is (c.sim.ensures.bad_line number is) (c.sim.ensures.good_lines number),
)

pub returns-in-Some-Jobs-clause-bad_line : goal.returns-in-Some-Jobs-clause-bad_line
returns-in-Some-Jobs-clause-bad_line g c = λ number is. (
  Jobs c.in-Some-Jobs.workers,
  rw c.in-Some-Jobs.field-0-is at c.in-Some-Jobs.ensures.found,
  not_good _ _ _ _ (Err (BadLine number)) is (c.jobs.ensures.bad_line number is) (c.jobs.ensures.good_lines number),
)
