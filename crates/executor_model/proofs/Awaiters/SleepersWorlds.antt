-- For awaiters_are_kept and calls_do_what_they_say.
-- What tells sleepers, and what a tick does but for its search, changes nothing of the table and the queue.
use Rattle.std.proofs.Common.{◌≡◌, ℕ, List, Bool, true, false, refl, ap}
use Rattle.std.specs.Prelude.{Option}
use Rattle.executor_model.proofs.Types.{Event, Polled, Sleeping, SleeperOp, TickOp, Waker, Task, Outside, Hint}
use Rattle.executor_model.specs.World.{World, log, log_if}
use Rattle.executor_model.specs.ActsOfSleepers.{exchange_by, hand_out_by, polled_as}
use Rattle.executor_model.specs.{Queues.Queues, Acts.call_waker, Doing.sleeper_act, Doing.tick_act}
use Rattle.executor_model.proofs.OwnQueues.RunsMoving.{Wide, is_search, wide-tick}

-- the parts that tasks, sleepers, ticks and the trace are no part of
pub record Rest : Type 0 where
  pub limit : ℕ
  pub inside : List Bool
  pub queue : Queues
  pub table : List ℕ
  pub leaving : List ℕ
  pub waking : List ℕ
  pub wakers : List (Option ℕ)
  pub gone : Bool

abbrev pub rest_of : World → Rest
rest_of w = record {
  limit = w.limit;
  inside = w.inside;
  queue = w.queues;
  table = w.table;
  leaving = w.leaving;
  waking = w.waking;
  wakers = w.wakers;
  gone = w.gone;
}

log_if-rest : (b : Bool) (w : World) (e : Event) → rest_of w ≡ rest_of (log_if b w e)
log_if-rest true w e = refl
log_if-rest false w e = refl

pub call-rest : (p : ℕ) (w : World) (o : Polled) (a : Waker) (k : ℕ) → rest_of w ≡ rest_of (call_waker p w o a k).world
call-rest p w o (Task g) k = log_if-rest _ (log w (Event.WakerCalled p o k (Task g))) (Event.Woken p g)
call-rest p w o (Outside x) k = refl

exchange-rest : (b : Bool) (w : World) → rest_of w ≡ rest_of (exchange_by b w).world
exchange-rest true w = refl
exchange-rest false w = refl

hand_out-rest : (b : Bool) (o : Option Sleeping) (w : World) → rest_of w ≡ rest_of (hand_out_by b o w).world
hand_out-rest true o w = refl
hand_out-rest false o w = refl

pub sleeper-rest : (p : ℕ) (o : SleeperOp) (w : World) → rest_of w ≡ rest_of (sleeper_act p o w).world
sleeper-rest p SleeperOp.ExchangeFlag w = exchange-rest _ w
sleeper-rest p SleeperOp.HandOut w = hand_out-rest _ _ w
sleeper-rest p (SleeperOp.CallSleeper s) w = call-rest p w (polled_as s.who) s.waker s.poll

abbrev pub searches : TickOp → Bool
searches o = is_search o

abbrev rest_in : Wide → Rest
rest_in x = record {
  limit = x.limit;
  inside = x.inside;
  queue = x.queue;
  table = x.table;
  leaving = x.leaving;
  waking = x.waking;
  wakers = x.wakers;
  gone = x.coat.gone;
}

pub tick-rest : (p : ℕ) (h : Hint) (o : TickOp) (w : World) → searches o ≡ false → rest_of w ≡ rest_of (tick_act p h o w).world
tick-rest p h o w n = ap rest_in (wide-tick p h o w n)
