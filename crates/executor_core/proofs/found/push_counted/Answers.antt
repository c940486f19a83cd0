use Rattle.std.proofs.Common.{true, false, ap, sym, ◌∙◌, subst}
use Rattle.executor_model.specs.ActsOfRuns.{run_found}
use Rattle.executor_model.specs.World.{World, Done}
use Rattle.executor_core.specs.Views.{Does}
use Rattle.executor_core.proofs.Finding.{counted-as, counted-full, counted-on}
use Rattle.executor_core.proofs.Stealing.{with_runs}
use Rattle.executor_core.proofs.found.push_counted.Goals as goal

pub returns-then-full-clause-does : goal.returns-then-full-clause-does
returns-then-full-clause-does c =
    let s = c.args.store.now in
    let x = c.args.x in
    let b = c.count-full.result in
    subst (λ (d : Done). Does d (with_runs s c.count-full.new.self) c.args.todo.now.items c.push_reserved.new.self.items)
    (sym (counted-as s x c.args.f b true c.count-full.ensures.full c.if-full.true))
    (record {
      world = counted-full s x c.args.f b c.count-full.new.self c.if-full.true c.count-full.ensures.counted;
      next = c.push_reserved.ensures.items;
      room = c.requires.room;
    })

pub returns-else-full-clause-does : goal.returns-else-full-clause-does
returns-else-full-clause-does c =
    let s = c.args.store.now in
    let x = c.args.x in
    let b = c.count-full.result in
    subst (λ (d : Done). Does d c.push_run.new.store c.args.todo.now.items c.push_run.new.todo.items)
    (ap (λ (v : World). run_found v x c.args.f)
    (counted-on s x c.args.f b c.count-full.new.self c.if-full.false c.count-full.ensures.counted)
    ∙ sym (counted-as s x c.args.f b false c.count-full.ensures.full c.if-full.false))
    c.push_run.ensures.does
