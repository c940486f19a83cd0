use Rattle.std.proofs.Common.{◌≡◌, List, [], ◌∷◌, ◌++◌, ap, sym, ◌∙◌}
use Rattle.std.specs.Prelude.{reverse}
use Rattle.executor_model.specs.declared.call.Reply.TheVariants as reply
use Rattle.executor_model.specs.declared.event.Event.TheVariants as event
use Rattle.executor_model.specs.declared.op.Hold.TheVariants as hold
use Rattle.executor_model.specs.declared.op.Op.{Op}
use Rattle.executor_model.specs.declared.op.Op.TheVariants as op
use Rattle.executor_model.specs.declared.op.Polled.TheVariants as of
use Rattle.executor_model.specs.ActsOfRuns.{call_by_reference}
use Rattle.executor_model.specs.Trace.{Trace}
use Rattle.executor_model.specs.World.{World, log}
use Rattle.executor_core.specs.Views.{world_of}
use Rattle.executor_core.proofs.Owing.{reverse_before}
use Rattle.executor_core.proofs.act.run.wake_own.Goals as goal

pub returns : goal.returns
returns c =
    let w = world_of c.args.store.now in
    let x = c.args.x in
    let p = c.args.party in
    let t = c.args.todo.now.items in
    let e = op.End reply.Pending (hold.Run x.run) in
    let v : World = record w { trace = c.push_reserved.new.self.items } in
    let logged : v ≡ log w (event.WakerCalled p (of.Run x.run) x.poll x.waker) =
    ap (λ (l : Trace). let u : World = record w { trace = l } in u) c.push_reserved.ensures.items in
    let d = c.call_by_reference.ensures in
    record {
      world = d.world ∙ ap (λ (u : World). (call_by_reference p u x.waker).world) logged;
      next = d.next ∙ (ap (λ (l : List Op). l ++ reverse (call_by_reference p v x.waker).next) c.push_reserved-2.ensures.items
          ∙ (sym (reverse_before t (call_by_reference p v x.waker).next (e ∷ []))
          ∙ ap (λ (u : World). t ++ reverse ((call_by_reference p u x.waker).next ++ e ∷ [])) logged));
      room = d.room;
    }
