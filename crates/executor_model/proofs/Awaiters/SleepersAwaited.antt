-- For awaiters_are_kept.
-- What tells sleepers, and what a tick does, keeps what is known of each awaiter.
use Rattle.std.proofs.Common.{◌≡◌, ℕ, ◌<◌, List, [], ◌∷◌, length, Bool, true, false, ◌||◌, refl, arith}
use Rattle.std.{proofs.lemmas.List.length-set, specs.Prelude.Option, specs.Prelude.Some, specs.Prelude.None}
use Rattle.executor_model.proofs.Types.{Look, First, Second, Move, Event, Op, Sleeping, SleeperOp, TickOp, Waker, Task, Outside}
use Rattle.executor_model.specs.ActsOfSleepers.{polled_as, search_tick, exchange_by, hand_out_by, call_sleeper, make_tick_by}
use Rattle.executor_model.specs.World.{queue_of, World, Ticker, Awake, Asleep, Left, log, task}
use Rattle.executor_model.specs.ActsOfSleepers.{look_tick_by, copy_sleeper_by, fall_asleep_by, wake_up_by, leave_sleepers_by}
use Rattle.executor_model.specs.{Acts.mark_in, Good.IsKnownWaker, Sound.with_ops}
use Rattle.executor_model.proofs.Steps.Lists.{read_put, same_is}
use Rattle.executor_model.proofs.Awaiters.SleepersCases.{by_going, FallsAsleep, sleeps-down, WakesUp, gets-up, Leaves, leaves}
use Rattle.executor_model.proofs.Awaiters.Awaited.{KeepsAwaits, Footing, Awaits, with_awaiting, heard-push}
use Rattle.executor_model.proofs.{Steps.QueuesByMark.times-first, Types.TickOrRun, Awaiters.AwaitedMoves.awaits-wake}
use Rattle.executor_model.proofs.{Steps.Cases.by_bool, Counts.Counting.woken_by, Steps.SleepersCounting.asleep}
use Rattle.task_moves.specs.Moves as moves

-- telling

pub awaits-exchange : (b : Bool) (w : World) → KeepsAwaits w (Op.Sleeper SleeperOp.ExchangeFlag ∷ []) (exchange_by b w)
awaits-exchange = by_bool _
    (λ w g r yy mm bb h. grind arith)
    (λ w g r yy mm bb h. grind arith)

pub awaits-hand_out : (b : Bool) (o : Option Sleeping) (w : World) →
    KeepsAwaits w (Op.Sleeper SleeperOp.HandOut ∷ []) (hand_out_by b o w)
awaits-hand_out false o w g r yy mm bb h = grind arith
awaits-hand_out true None w g r yy mm bb h = grind arith
awaits-hand_out true (Some s) w g r yy mm bb h = grind arith

awaits-call_task : (o b c : Bool) (p : ℕ) (t : TickOrRun) (k : ℕ) (w : World) (f : ℕ) →
    (moves.is_over (task w f) || (task w f).scheduled) ≡ b → (task w f).running ≡ c → f < length w.tasks →
    KeepsAwaits w (Op.Sleeper (SleeperOp.CallSleeper (asleep (Task f) t k)) ∷ [])
    (woken_by o b c p (log w (Event.WakerCalled p (polled_as t) k (Task f))) f)
awaits-call_task o b c p t k w f d q i g r yy mm bb h =
    let called : World = log w (Event.WakerCalled p (polled_as t) k (Task f)) in
    let stand : Footing called g (with_ops g (Op.Move Move.Wake f ∷ []) r)
    (with_awaiting g (Op.Move Move.Wake f ∷ []) yy) =
    record {
      one = bb.one;
      live = bb.live;
      ends = bb.ends;
      drop = bb.drop;
      carries = bb.carries;
      rests = bb.rests;
      lent = bb.lent;
      done = grind (arith, heard-push);
      stages = bb.stages;
      few = bb.few;
      tied = bb.tied;
    } in
    let waits : Awaits called g (with_ops g (Op.Move Move.Wake f ∷ []) r)
    (with_awaiting g (Op.Move Move.Wake f ∷ []) yy) mm = grind (arith, same_is, heard-push) in
    awaits-wake o b c p called f d q i g r yy mm stand waits

pub awaits-call_sleeper : (p : ℕ) (t : TickOrRun) (k : ℕ) (a : Waker) (w : World) → IsKnownWaker w a →
    KeepsAwaits w (Op.Sleeper (SleeperOp.CallSleeper (asleep a t k)) ∷ []) (call_sleeper p w (asleep a t k))
awaits-call_sleeper p t k (Task f) w i = awaits-call_task (moves.is_over (task w f)) _ _ p t k w f refl refl i
awaits-call_sleeper p t k (Outside x) w i = λ g r yy mm bb h. grind (arith, same_is, heard-push)

-- a tick

pub awaits-make_tick : (b : Bool) (w : World) → KeepsAwaits w (Op.Tick TickOp.MakeTick ∷ []) (make_tick_by b w)
awaits-make_tick = by_bool _
    (λ w g r yy mm bb h. grind arith)
    (λ w g r yy mm bb h. grind arith)

pub awaits-tick_turn : (p : ℕ) (w : World) (s : Sleeping) → KeepsAwaits w (Op.Tick (TickOp.Search s) ∷ []) (search_tick p w s)
awaits-tick_turn p w s g r yy mm bb h = grind (arith, heard-push)

pub awaits-search : (look : Look) (t : Ticker) (q : List ℕ) (w : World) (s : Sleeping) → (queue_of w (mark_in look)).items ≡ q →
    KeepsAwaits w (Op.Tick (TickOp.Look s look) ∷ []) (look_tick_by t w look q s)
awaits-search (First mark) t [] w s e g r yy mm bb h = grind arith
awaits-search (Second mark) t [] w s e g r yy mm bb h = grind arith
awaits-search look Awake (f ∷ rest) w s e g r yy mm bb h =
    let z = times-first g f rest (mark_in look) w.queues e in grind (arith, same_is)
awaits-search look (Asleep n) (f ∷ rest) w s e g r yy mm bb h =
    let z = times-first g f rest (mark_in look) w.queues e in grind (arith, same_is)
awaits-search look Left (f ∷ rest) w s e g r yy mm bb h =
    let z = times-first g f rest (mark_in look) w.queues e in grind (arith, same_is)

pub awaits-copy_sleeper : (b : Bool) (a : Waker) (t : TickOrRun) (k : ℕ) (w : World) → IsKnownWaker w a →
    KeepsAwaits w (Op.Tick (TickOp.CopyWaker (asleep a t k)) ∷ []) (copy_sleeper_by b w (asleep a t k))
awaits-copy_sleeper true a t k w e g r yy mm bb h = grind arith
awaits-copy_sleeper false (Task m) t k w e g r yy mm bb h = let z : m < length w.tasks = e in
    grind (arith, same_is, read_put, length-set)
awaits-copy_sleeper false (Outside x) t k w e g r yy mm bb h = grind arith

awaits-slumbering : FallsAsleep KeepsAwaits
awaits-slumbering = record {
  nowhere = λ w s g r yy mm bb h. grind arith;
  anew = λ w s g r yy mm bb h. grind arith;
  listed = λ w n s g r yy mm bb h. grind arith;
  again = λ w n at s. by_going _
      (λ g r yy mm bb h. grind arith)
      (λ m u k g r yy mm bb h. grind arith)
      (λ x u k g r yy mm bb h. grind arith);
}

pub awaits-fall_asleep : (x : Ticker) (w : World) (s : Sleeping) →
    KeepsAwaits w (Op.Tick (TickOp.FallAsleep s) ∷ []) (fall_asleep_by x w s)
awaits-fall_asleep = sleeps-down KeepsAwaits awaits-slumbering

awaits-waking_up : WakesUp KeepsAwaits
awaits-waking_up = record {
  up = λ w t g r yy mm bb h. grind arith;
  slept = λ w n t. by_going _
      (λ g r yy mm bb h. grind arith)
      (λ m u k g r yy mm bb h. grind arith)
      (λ x u k g r yy mm bb h. grind arith);
}

pub awaits-wake_up : (x : Ticker) (w : World) (t : TickOrRun) →
    KeepsAwaits w (Op.Tick (TickOp.WakeUp t) ∷ []) (wake_up_by x w t)
awaits-wake_up = gets-up KeepsAwaits awaits-waking_up

awaits-leaving : Leaves KeepsAwaits
awaits-leaving = record {
  up = λ w t g r yy mm bb h. grind arith;
  left = λ w t g r yy mm bb h. grind arith;
  slept = λ w n t. by_going _
      (λ g r yy mm bb h. grind arith)
      (λ m u k g r yy mm bb h. grind arith)
      (λ x u k g r yy mm bb h. grind arith);
}

pub awaits-leave_sleepers : (x : Ticker) (w : World) (t : TickOrRun) →
    KeepsAwaits w (Op.Tick (TickOp.Leave t) ∷ []) (leave_sleepers_by x w t)
awaits-leave_sleepers = leaves KeepsAwaits awaits-leaving
