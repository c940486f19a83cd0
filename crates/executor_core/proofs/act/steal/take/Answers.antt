use Rattle.std.proofs.Common.{ℕ, List, ap, sym, ◌∙◌, subst, arith}
use Rattle.executor_model.specs.ActsOfRuns.{steal_take_by, stolen}
use Rattle.executor_model.specs.World.{World, Done}
use Rattle.executor_core.specs.Views.{world_of, Does}
use Rattle.executor_core.proofs.act.steal.take.Goals as goal

pub returns-in-Some : goal.returns-in-Some
returns-in-Some c =
    let s = c.args.s in
    subst (λ (q : List ℕ). Does (steal_take_by q (world_of c.args.store.now) s c.args.more) c.take_first.new.store
    c.args.todo.now.items c.push_reserved.new.self.items)
    (sym c.in-Some.ensures.some)
    (record {
      world = c.in-Some.ensures.rest;
      next = c.push_reserved.ensures.items;
      room = c.take_first.ensures.room (omega (arith, c.requires.room.trace));
    })

pub returns-in-None : goal.returns-in-None
returns-in-None c =
    let s = c.args.s in
    let n = c.in-None.ensures.none in
    subst (λ (d : Done). Does d c.end.new.store c.args.todo.now.items c.end.new.todo.items)
    (ap (λ (v : World). stolen s.then v s.poll) n.1
    ∙ ap (λ (q : List ℕ). steal_take_by q (world_of c.args.store.now) s c.args.more) (sym n.0))
    c.end.ensures.does
