use Rattle.std.proofs.Common.{◌≡◌, drop, map}
use Rattle.executor_model.specs.Weights.{weigh_all}
use Rattle.executor_core.specs.Uses.{use_of}
use Rattle.executor_core.proofs.uses.is_unused.Given as goal

abbrev pub invariant-loop-todo : goal.invariant-loop-todo
invariant-loop-todo l = weigh_all (use_of l.what) (map (λ v. v.items) l.parties)
    ≡ weigh_all (use_of l.what) (map (λ v. v.items) (drop l.todo-index l.parties))
