use Rattle.std.proofs.Common.{◌≡◌, ℕ, List, ◌++◌, ap, ◌∙◌, arith, length}
use Rattle.std.specs.Prelude.{reverse}
use Rattle.executor_model.specs.declared.op.Op.{Op}
use Rattle.executor_model.specs.ActsOfRuns.{walk}
use Rattle.executor_core.specs.Running.{Running}
use Rattle.executor_core.specs.Views.{world_of}
use Rattle.executor_core.proofs.Listing.{walk-from}
use Rattle.executor_core.proofs.Stealing.{with_runs}
use Rattle.executor_core.proofs.act.list.lock_read.Goals as goal

pub returns : goal.returns
returns c =
    let s = c.args.store.now in
    let start = c.args.hint.start in
    let rs = c.lock_read.new.self in
    let qs = s.ticks_and_runs.runs.listed in
    let same : rs.listed ≡ qs = ap (λ (v : Running). v.listed) c.lock_read.ensures in
    record {
      world = ap (λ (v : Running). world_of (with_runs s v)) c.lock_read.ensures;
      next = c.push_walk.ensures
          ∙ ap (λ (l : List Op). c.args.todo.now.items ++ reverse l)
          (ap (λ (l : List ℕ). walk c.args.x l c.starting_place-at.result c.listed-count.result) same
          ∙ walk-from c.args.x qs start c.starting_place-at.result c.listed-count.result
          (c.listed-count.ensures ∙ ap length same) c.starting_place-at.ensures);
      room = omega (arith, c.requires.room.trace);
    }
