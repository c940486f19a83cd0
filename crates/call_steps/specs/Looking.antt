-- How a search looks at the executor's two queues.
use Rattle.std.specs.Prelude.{List, [], ◌∷◌}
use Rattle.executor_parts.specs.declared.mark.Mark.{Mark}
use Rattle.executor_parts.specs.Marks.{other}
use Rattle.call_steps.specs.declared.names.Look.{Look}
use Rattle.call_steps.specs.declared.names.Look.TheVariants.{First, Second}
use Rattle.call_steps.specs.declared.step.CallStep.{CallStep}

abbrev pub mark_in : Look → Mark
mark_in (First m) = m
mark_in (Second m) = m

module _ {F T : Type 0} where
  -- nothing was there
  abbrev pub missed : Look → (Look → CallStep F T) → List (CallStep F T) → List (CallStep F T)
  missed (First m) looks nothing = looks (Second (other m)) ∷ []
  missed (Second m) looks nothing = nothing
