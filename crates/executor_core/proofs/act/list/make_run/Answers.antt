use Rattle.std.proofs.Common.{ℕ, Bool, [], ◌∷◌, ◌++◌, ap, sym, ◌∙◌, arith, subst}
use Rattle.executor_model.specs.declared.call.Reply.TheVariants as reply
use Rattle.executor_model.specs.declared.op.Hold.TheVariants as hold
use Rattle.executor_model.specs.declared.op.ListOp.TheVariants as list_op
use Rattle.executor_model.specs.declared.op.Op.TheVariants as op
use Rattle.executor_model.specs.ActsOfRuns.{make_run_by}
use Rattle.executor_core.specs.Views.{world_of, Does}
use Rattle.executor_core.proofs.Listing.{one-more}
use Rattle.executor_core.proofs.Owing.{two-put-on}
use Rattle.executor_core.proofs.Stealing.{with_runs}
use Rattle.executor_core.proofs.act.list.make_run.Goals as goal

pub returns : goal.returns
returns c =
    let s = c.args.store.now in
    let t = c.args.todo.now.items in
    subst
    (λ (b : Bool). Does (make_run_by b (world_of s)) (with_runs s c.push.new.self) t c.push_reserved-3.new.self.items)
    (sym c.if-hint.false)
    (record {
      world = one-more s c.push.new.self c.push.ensures.runs c.push.ensures.own c.push.ensures.listed
          c.push.ensures.lock;
      next = two-put-on t _ _ (op.End reply.Made (hold.Run c.len-r.result)) (op.List list_op.UnlockWrite)
          c.push_reserved-2.ensures.items c.push_reserved-3.ensures.items
          ∙ ap (λ (n : ℕ). t ++ op.End reply.Made (hold.Run n) ∷ op.List list_op.UnlockWrite ∷ []) c.len-r.ensures.runs;
      room = omega (arith, c.requires.room.trace);
    })
