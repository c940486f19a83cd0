-- Of the calls of many tasks each task sees its own.
use Rattle.std.proofs.Common.{◌≡◌, ℕ, ◌==◌, Bool, true, false, List, [], ◌∷◌, refl, sym, ap, ◌∙◌}
use Rattle.task_moves.specs.AbstractTask as abstract
use Rattle.task_moves.specs.AbstractTask.{AbstractTask}
use Rattle.task_moves.specs.LocalTask.{told}
use Rattle.task_moves.specs.Calls.{Call, Owner, after, after_all, owner_after, owner_after_all}
use Rattle.task_moves.specs.ManyTasks.{TaskCall, changed, owners_after, tasks_after, AreAbstractTasks}
use Rattle.task_moves.proofs.Following.{is_abstract_task}

module _ {F T A : Type 0} where
  abbrev with_call : Bool → Call F T A → List (Call F T A) → List (Call F T A)
  with_call true call calls = call ∷ calls
  with_call false call calls = calls

  -- the calls of task f
  abbrev calls_of : ℕ → List (TaskCall F T A) → List (Call F T A)
  calls_of f [] = []
  calls_of f (c ∷ calls) = with_call (c.task == f) c.call (calls_of f calls)

  owner-by : (b : Bool) (c : Call F T A) (calls : List (Call F T A)) (o : Owner T A) →
      owner_after_all calls (elim b [ true ↦ owner_after c o | false ↦ o ]) ≡ owner_after_all (with_call b c calls) o
  owner-by true c calls o = refl
  owner-by false c calls o = refl

  task-by : (b : Bool) (c : Call F T A) (calls : List (Call F T A)) (t : AbstractTask T A) →
      after_all calls (elim b [ true ↦ after c t | false ↦ t ]) ≡ after_all (with_call b c calls) t
  task-by true c calls t = refl
  task-by false c calls t = refl

  owner-sees : (calls : List (TaskCall F T A)) (owners : ℕ → Owner T A) (f : ℕ) → owners_after calls owners f ≡ owner_after_all (calls_of f calls) (owners f)
  owner-sees [] owners f = refl
  owner-sees (c ∷ calls) owners f = owner-sees calls (changed c.task (owner_after c.call) owners) f ∙ owner-by (c.task == f) c.call (calls_of f calls) (owners f)

  task-sees : (calls : List (TaskCall F T A)) (tasks : ℕ → AbstractTask T A) (f : ℕ) → tasks_after calls tasks f ≡ after_all (calls_of f calls) (tasks f)
  task-sees [] tasks f = refl
  task-sees (c ∷ calls) tasks f = task-sees calls (changed c.task (after c.call) tasks) f ∙ task-by (c.task == f) c.call (calls_of f calls) (tasks f)

  pub are_abstract_tasks : AreAbstractTasks F T A
  are_abstract_tasks = record {
    task = λ calls f. ap (λ (o : Owner T A). o.task) (owner-sees calls (λ g. record { task = abstract.spawned 0; infos = [] }) f) ∙ (is_abstract_task.task (calls_of f calls) ∙ sym (ap told (task-sees calls (λ g. abstract.spawned 0) f)));
    infos = λ calls f. ap (λ (o : Owner T A). o.infos) (owner-sees calls (λ g. record { task = abstract.spawned 0; infos = [] }) f) ∙ (is_abstract_task.infos (calls_of f calls) ∙ sym (ap (λ (t : AbstractTask T A). t.infos) (task-sees calls (λ g. abstract.spawned 0) f)));
  }
