-- Where each task has room for one reference more.
use Rattle.std.specs.Prelude.{ℕ, ◌<◌, List, [], ◌∷◌}
use Rattle.task_moves.specs.Moves.{most_references}
use Rattle.executor_model.specs.declared.step.Step.{Step}
use Rattle.executor_model.specs.Steps.{Machine, after}
use Rattle.executor_model.specs.World.{task}
use Rattle.machine_roads.specs.Within.{Act}

-- no task has 2^40 references
abbrev pub IsRoomy : Machine → Type 0
IsRoomy s = (f : ℕ) → (task s.world f).references < most_references

-- at each moment of these steps
abbrev pub IsRoomyAlong : List Step → Machine → Type 0
IsRoomyAlong [] s = IsRoomy s
IsRoomyAlong (t ∷ ts) s = IsRoomy s × IsRoomyAlong ts (after s t)

abbrev pub IsRoomyAct : Machine → Act → Type 0
IsRoomyAct s a = IsRoomyAlong (a.first ∷ a.steps) s
