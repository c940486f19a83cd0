-- A tick is made, and goes.
use Rattle.std.proofs.Common.{◌≡◌, ℕ, ◌++◌, not, Bool, true, false, List, [], ◌∷◌, Option, if◌then◌else◌, refl, sym, subst}
use Rattle.executor_model.specs.declared.call.Call.TheVariants as call
use Rattle.executor_model.specs.declared.call.Reply.TheVariants as reply
use Rattle.executor_model.specs.declared.event.Event.TheVariants as event
use Rattle.executor_model.specs.declared.op.Hold.TheVariants as hold
use Rattle.executor_model.specs.declared.op.Op.{Op}
use Rattle.executor_model.specs.declared.op.Op.TheVariants as op
use Rattle.executor_model.specs.declared.op.TickOp.TheVariants as tick_op
use Rattle.executor_model.specs.declared.op.TickOrRun.TheVariants as tick_or_run
use Rattle.executor_model.specs.declared.op.Waker.{Waker}
use Rattle.executor_model.specs.ActsOfSleepers.{make_tick_by}
use Rattle.executor_model.specs.World.{Done, World, done, log}
use Rattle.plain_scheduler.specs.State.{ATick, Choice, NoMemory, Plain, Done as DoneAnswer, Made as MadeAnswer}
use Rattle.plain_scheduler.specs.Moves.{answers, leaves}
use Rattle.plain_scheduler.specs.Calls.{does, is_granted, NewTick}
use Rattle.machine_roads.specs.View.{Output, wakes}
use Rattle.machine_roads.specs.Road.{Follows}
use Rattle.machine_roads.specs.Alone.{alone, is_resting}
use Rattle.machine_roads.specs.Ticking.{TickGoesAlike, TickIsMadeAlike}
use Rattle.machine_roads.proofs.Calling.{ends}
use Rattle.machine_roads.proofs.Changing.{logs}
use Rattle.machine_roads.proofs.Leaving.{leaves_on}
use Rattle.machine_roads.proofs.Lists.{clash}
use Rattle.machine_roads.proofs.Numbers.{asleep_last, sleeps_last}
use Rattle.machine_roads.proofs.Stepping.{Way}
use Rattle.machine_roads.proofs.Unseen.{roomed}

module _ (p : ℕ) (here : Option Waker) (below : List Op) (w : World) (q : Plain Output Waker) (under : is_resting below ≡ true)
    (follows : Follows w q) where
  -- a tick is made, as the first hint says
  made_by : (c : Choice) (end : Done) → is_resting end.next ≡ true → (b : Bool) → is_granted c.refusal ≡ not b
      → (w0 : World) → Follows w0 q → Way p end (make_tick_by b w0).world ((make_tick_by b w0).next ++ below)
      → (end.next ≡ below) × Follows end.world (does wakes c NewTick q)
  made_by c end rests true granted w0 follows0 way =
      subst (λ b. (end.next ≡ below) × Follows end.world (if b then answers MadeAnswer q else answers NoMemory q)) (sym granted)
      (ends p below under end rests w0 q reply.NoMemory hold.Executor NoMemory refl follows0 way)
  made_by c end rests false granted w0 follows0 way =
      subst (λ b. (end.next ≡ below) × Follows end.world (if b then answers MadeAnswer q else answers NoMemory q)) (sym granted)
      (ends p below under end rests (make_tick_by false w0).world q reply.Made hold.Executor MadeAnswer refl
      (roomed (make_tick_by false w0).world.ticks (make_tick_by false w0).world.sleepers.rooms w0 q follows0
      (sleeps_last w0.ticks w0.runs) (asleep_last w0.ticks w0.runs))
      way)

  pub makes_tick : TickIsMadeAlike p here below w q
  makes_tick c [] granted has rests = absurd (clash refl rests)
  makes_tick c (h ∷ hs) granted has rests =
      let w0 = log w (event.CallBegun p call.NewTick) in
      made_by c (alone p (h ∷ hs) (done w0 (op.Tick tick_op.MakeTick ∷ below))) rests h.refused granted w0
      (logs w q follows (event.CallBegun p call.NewTick) refl) (record { hints = hs; has = has.1; is = refl })

  pub tick_goes : TickGoesAlike p here below w q
  tick_goes c t many hints unit has rests =
      let begun = event.CallBegun p (call.DropTick t) in
      let dropped = event.TickDropped p t in
      let w0 = log (log w begun) dropped in
      let os = op.End reply.Done (hold.Tick t) ∷ below in
      let leave = op.Tick (tick_op.Leave (tick_or_run.Tick t)) in
      let end = alone p hints (done w0 (leave ∷ os)) in
      let g =
      leaves_on p end rests c (tick_or_run.Tick t) w0 os q (logs (log w begun) q (logs w q follows begun refl) dropped refl) many
      (record { hints = hints; has = has; is = refl }) in
      ends p below under end rests g.world (leaves wakes c (ATick t) q) reply.Done (hold.Tick t) DoneAnswer refl g.follows g.way
