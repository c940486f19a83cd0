-- Ticks: when their making, their polls and their drop leave both alike.
use Rattle.std.specs.Prelude.{◌≡◌, ℕ, ◌≤◌, ◌<◌, true, not, List, length, Option}
use Rattle.executor_parts.specs.Marks.{first_of}
use Rattle.executor_model.specs.declared.call.By.{By}
use Rattle.executor_model.specs.declared.call.Call.TheVariants as call
use Rattle.executor_model.specs.declared.call.Reply.TheVariants as reply
use Rattle.executor_model.specs.declared.op.Hold.TheVariants as hold
use Rattle.executor_model.specs.declared.op.Op.{Op}
use Rattle.executor_model.specs.declared.op.Op.TheVariants as op
use Rattle.executor_model.specs.declared.op.Waker.{Waker}
use Rattle.executor_model.specs.declared.step.Hint.{Hint}
use Rattle.executor_model.specs.Steps.{lives, waker_of}
use Rattle.executor_model.specs.World.{Awake, Done, World, tick_of}
use Rattle.plain_scheduler.specs.State.{Choice, Plain, Refusal, Tick}
use Rattle.plain_scheduler.specs.Calls.{does, is_granted, DropTick, NewTick, PollTick}
use Rattle.plain_scheduler.specs.Turns.{tick_turns}
use Rattle.machine_roads.specs.View.{Output, wakes}
use Rattle.machine_roads.specs.Alone.{alone, is_resting, HasAll}
use Rattle.machine_roads.specs.Alike.{begins, refused_first, upon, LeavesAlike, LeavesAlikeIf}
use Rattle.machine_roads.specs.Stopped.{Stops}
use Rattle.machine_roads.specs.Turning.{TakesTurns}

-- it can be polled: it lives, and finds room where it is awake
pub record CanPoll (w : World) (t : ℕ) : Type 0 where
  pub living : lives (tick_of w t) ≡ true
  pub roomed : tick_of w t ≡ Awake → w.sleepers.count < w.sleepers.rooms

module _ (p : ℕ) (here : Option Waker) (below : List Op) (w : World) (q : Plain Output Waker) where
  -- a tick is made, or that is refused
  abbrev pub TickIsMadeAlike : Type 0
  TickIsMadeAlike =
      (c : Choice)
      → LeavesAlikeIf (λ hints. is_granted c.refusal ≡ not (refused_first hints)) p below (begins p here call.NewTick w)
      (does wakes c NewTick q)

  -- a tick that is polled has come to the poll or the drop of a future that it took, or is answered: it lies, or that is refused,
  -- in which case memory was refused before or once it lay; and it has taken so many turns
  abbrev pub polling : ℕ → By → Done
  polling t b = upon below (begins p here (call.PollTick t b) w)

  abbrev pub TickIsPolledAlike : Type 0
  TickIsPolledAlike =
      (c : Choice) (t : ℕ) (b : By) → c.first ≡ first_of w.urgent_turns → length q.lying < c.tells → CanPoll w t
      → (hints : List Hint) → HasAll p hints (polling t b) → is_resting (alone p hints (polling t b)).next ≡ true
      → (r : Refusal) × TakesTurns (tick_turns r t q) w (alone p hints (polling t b)).world
      × Stops (Tick t (waker_of here b)) (op.End reply.Ready (hold.Tick t)) below q (alone p hints (polling t b))
      (does wakes (record c { refusal = r }) (PollTick t (waker_of here b)) q)

  abbrev pub TickGoesAlike : Type 0
  TickGoesAlike =
      (c : Choice) (t : ℕ) → length q.lying ≤ c.tells
      → LeavesAlike p below (begins p here (call.DropTick t) w) (does wakes c (DropTick t) q)
