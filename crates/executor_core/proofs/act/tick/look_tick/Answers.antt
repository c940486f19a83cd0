use Rattle.std.proofs.Common.{◌≡◌, List, [], ◌∷◌, ◌++◌, drop, ap, sym, ◌∙◌, subst, arith, append_assoc}
use Rattle.std.specs.Prelude.{Some, reverse, slice_get}
use Rattle.task_moves.specs.declared.moves.owed.Move.TheVariants as move
use Rattle.queue_steps.specs.ClosableQueue.{taken}
use Rattle.executor_parts.specs.declared.mark.Mark.{Mark}
use Rattle.executor_model.specs.declared.call.Reply.TheVariants as reply
use Rattle.executor_model.specs.declared.op.Hold.{Hold}
use Rattle.executor_model.specs.declared.op.Op.{Op}
use Rattle.executor_model.specs.declared.op.Op.TheVariants as op
use Rattle.executor_model.specs.declared.op.SleeperOp.TheVariants as sleeper_op
use Rattle.executor_model.specs.Acts.{mark_in}
use Rattle.executor_model.specs.ActsOfSleepers.{held_as}
use Rattle.executor_model.specs.Queues.{Queues, queue_in, with_queue}
use Rattle.executor_model.specs.World.{World, Done, queue_of}
use Rattle.executor_core.specs.WakingUp.{wakes_up}
use Rattle.executor_core.specs.Views.{world_of}
use Rattle.executor_core.proofs.Finding.{first-there, found-tick, ready_ops}
use Rattle.executor_core.proofs.Owing.{reverse_before}
use Rattle.executor_core.proofs.act.tick.look_tick.Goals as goal

pushed : (t : List Op) (a b d : Op) → ((t ++ a ∷ []) ++ b ∷ []) ++ d ∷ [] ≡ t ++ (a ∷ b ∷ d ∷ [])
pushed t a b d = simp append_assoc

pub returns : goal.returns
returns c =
    let s = c.args.store.now in
    let w = world_of s in
    let x = c.args.s in
    let look = c.args.look in
    let f = c.in-Some.f in
    let t = c.args.todo.now.items in
    let sleeps = c.sleeps-sleeps.result in
    let qs = (queue_of w (mark_in look)).items in
    let first : slice_get qs 0 ≡ Some f =
    subst (λ (n : Mark). slice_get (queue_in n w.queues).items 0 ≡ Some f) c.mark_in.ensures c.in-Some.ensures.some in
    let e : _ = found-tick w x look f (drop 1 qs) sleeps (first-there qs f first) c.sleeps-sleeps.ensures in
    record {
      world = ap (λ (q : Queues). let v : World = record w { queues = q } in v)
          (c.in-Some.ensures.rest
          ∙ ap (λ (n : Mark). with_queue n (taken (queue_in n w.queues)) w.queues) c.mark_in.ensures)
          ∙ ap (λ (d : Done). d.world) (sym e);
      next = c.push_wake_up.ensures.items ∙ (ap (λ (l : List Op). l ++ reverse (wakes_up sleeps x.who))
          (c.push_reserved-4.ensures.items ∙ (ap (λ (l : List Op). l ++ op.Sleeper sleeper_op.ExchangeFlag ∷ [])
          (c.push_reserved-3.ensures.items ∙ ap (λ (l : List Op). l ++ op.Move move.TakeUp f ∷ [])
          (c.push_reserved-2.ensures.items ∙ ap (λ (h : Hold). t ++ op.End reply.Ready h ∷ []) c.held_as.ensures))
          ∙ pushed t (op.End reply.Ready (held_as x.who)) (op.Move move.TakeUp f) (op.Sleeper sleeper_op.ExchangeFlag)))
          ∙ (sym (reverse_before t (wakes_up sleeps x.who) (ready_ops x f))
          ∙ ap (λ (d : Done). t ++ reverse d.next) (sym e)));
      room = omega (arith, c.requires.room.trace);
    }
