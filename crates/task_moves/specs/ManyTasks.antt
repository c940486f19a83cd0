-- Calls of many tasks, some of them made inside of others: by a poll, or by the schedule function or the awaiter that a call
-- hands something to. A call changes its task before anything that it leads to is begun, so such calls come after it in the
-- list, and after them what is left of it, if that is a call of its own, as the end of a poll is.
use Rattle.std.specs.Prelude.{◌≡◌, ℕ, ◌==◌, true, false, List, [], ◌∷◌}
use Rattle.task_moves.specs.AbstractTask as abstract
use Rattle.task_moves.specs.AbstractTask.{AbstractTask}
use Rattle.task_moves.specs.LocalTask.{told}
use Rattle.task_moves.specs.Calls.{Call, Owner, after, owner_after}

-- a call of the task with this number
pub record TaskCall (F T A : Type 0) : Type 0 where
  pub task : ℕ
  pub call : Call F T A

-- one of many is changed
abbrev pub changed : {X : Type 0} → ℕ → (X → X) → (ℕ → X) → ℕ → X
changed f change many g = elim (f == g) [ true ↦ change (many g) | false ↦ many g ]

module _ {F T A : Type 0} where
  -- how the contracts of the calls leave the owners
  abbrev pub owners_after : List (TaskCall F T A) → (ℕ → Owner T A) → ℕ → Owner T A
  owners_after [] owners = owners
  owners_after (c ∷ calls) owners = owners_after calls (changed c.task (owner_after c.call) owners)

  -- the abstract function of each call, on its task
  abbrev pub tasks_after : List (TaskCall F T A) → (ℕ → AbstractTask T A) → ℕ → AbstractTask T A
  tasks_after [] tasks = tasks
  tasks_after (c ∷ calls) tasks = tasks_after calls (changed c.task (after c.call) tasks)

-- after any calls of any number of new tasks, whichever are made inside of which
pub record AreAbstractTasks (F T A : Type 0) : Type 0 where
  pub task : (calls : List (TaskCall F T A)) (f : ℕ) →
      (owners_after calls (λ g. record { task = abstract.spawned 0; infos = [] }) f).task ≡ told (tasks_after calls (λ g. abstract.spawned 0) f)
  pub infos : (calls : List (TaskCall F T A)) (f : ℕ) →
      (owners_after calls (λ g. record { task = abstract.spawned 0; infos = [] }) f).infos ≡ (tasks_after calls (λ g. abstract.spawned 0) f).infos
