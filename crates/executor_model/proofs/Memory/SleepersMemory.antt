-- For refused_calls_change_nothing, wakes_and_drops_take_no_memory and want_of_memory_is_told_of.
-- What tells sleepers, and a tick or run that leaves or has found a future, asks for no memory.
use Rattle.std.proofs.Common.{◌≡◌, ℕ, List, [], ◌∷◌, Bool, true, false, refl}
use Rattle.std.specs.List.{list_any}
use Rattle.std.specs.Prelude.{Option, Some, None, is_none}
use Rattle.executor_parts.specs.Sleepers.{waker_of}
use Rattle.executor_model.specs.declared.event.Event.TheVariants as event
use Rattle.executor_model.specs.declared.op.Look.{Look}
use Rattle.executor_model.specs.declared.op.Look.TheVariants.{First}
use Rattle.executor_parts.specs.declared.mark.Mark.{Mark}
use Rattle.executor_model.specs.declared.op.Sleeping.{Sleeping}
use Rattle.executor_model.specs.declared.op.SleeperOp.{SleeperOp}
use Rattle.executor_model.specs.declared.op.SleeperOp.TheVariants as sleeper_op
use Rattle.executor_model.specs.declared.op.Waker.{Waker}
use Rattle.executor_model.specs.declared.op.Waker.TheVariants.{Task, Outside}
use Rattle.executor_model.specs.declared.op.TickOrRun.{TickOrRun}
use Rattle.executor_model.specs.World.{World, Ticker, Awake, Asleep, Left, place_of, log, queue_of}
use Rattle.executor_model.specs.Acts.{call_waker, mark_in}
use Rattle.executor_model.specs.ActsOfSleepers.{exchange_by, hand_out_by, look_tick_by, polled_as}
use Rattle.executor_model.specs.ActsOfSleepers.{sleeper_goes, wake_up_by, tell_and_return, leave_sleepers_by}
use Rattle.executor_model.specs.Doing.{sleeper_act}
use Rattle.executor_model.specs.Memory.{AsksForNone, FindsWithoutMemory, asks}
use Rattle.executor_model.proofs.Memory.Unasking.{both, none-waker, none-wake}

none-goes : (o : Option Sleeping) → AsksForNone (sleeper_goes o)
none-goes None = refl
none-goes (Some s) = none-waker s.waker

none-tell : (b : Bool) → AsksForNone (tell_and_return b)
none-tell true = refl
none-tell false = refl

none-call_waker : (p : ℕ) (w : World) (s : Sleeping) (a : Waker) →
    AsksForNone (call_waker p w (polled_as s.who) a s.poll).next
none-call_waker p w s (Task g) = none-wake p (log w (event.WakerCalled p (polled_as s.who) s.poll (Task g))) g
none-call_waker p w s (Outside x) = refl

none-exchange : (b : Bool) (w : World) → AsksForNone (exchange_by b w).next
none-exchange true w = refl
none-exchange false w = refl

none-hand_out : (b : Bool) (o : Option Sleeping) (w : World) → AsksForNone (hand_out_by b o w).next
none-hand_out false o w = refl
none-hand_out true None w = refl
none-hand_out true (Some s) w = refl

pub none-sleeper : (p : ℕ) (o : SleeperOp) (w : World) → AsksForNone (sleeper_act p o w).next
none-sleeper p sleeper_op.ExchangeFlag w = none-exchange _ w
none-sleeper p sleeper_op.HandOut w = none-hand_out _ _ w
none-sleeper p (sleeper_op.CallSleeper s) w = none-call_waker p w s s.waker

pub none-up : (x : Ticker) (w : World) (t : TickOrRun) → AsksForNone (wake_up_by x w t).next
none-up Awake w t = refl
none-up (Asleep n) w t = none-goes (waker_of n w.sleepers.wakers)
none-up Left w t = refl

pub none-leave_sleepers : (x : Ticker) (w : World) (t : TickOrRun) → AsksForNone (leave_sleepers_by x w t).next
none-leave_sleepers Awake w t = refl
none-leave_sleepers (Asleep n) w t =
    let old = waker_of n w.sleepers.wakers in
    both (sleeper_goes old) (tell_and_return (is_none old)) (none-goes old) (none-tell (is_none old))
none-leave_sleepers Left w t = refl

none-found : (x : Ticker) (w : World) (l : Look) (f : ℕ) (rest : List ℕ) (s : Sleeping) →
    AsksForNone (look_tick_by x w l (f ∷ rest) s).next
none-found Awake w l f rest s = refl
none-found (Asleep n) w l f rest s = refl
none-found Left w l f rest s = refl

unasked-found : (x : Ticker) (w : World) (l : Look) (f : ℕ) (rest : List ℕ) (s : Sleeping) →
    list_any asks (look_tick_by x w l (f ∷ rest) s).next ≡ false
unasked-found Awake w l f rest s = refl
unasked-found (Asleep n) w l f rest s = refl
unasked-found Left w l f rest s = refl

-- a search that finds a future leads to nothing that asks for memory
pub finds-without : (w : World) (p : ℕ) → FindsWithoutMemory w p
finds-without w p = record {
  turns = λ s. refl;
  looks = λ s m. first s m (queue_of w m).items;
  finds = λ f rest s l e. by f rest s l (queue_of w (mark_in l)).items e;
}
  where
    first : (s : Sleeping) (m : Mark) (q : List ℕ) → list_any asks (look_tick_by (place_of w s.who) w (First m) q s).next ≡ false
    first s m [] = refl
    first s m (f ∷ rest) = unasked-found (place_of w s.who) w (First m) f rest s

    by : (f : ℕ) (rest : List ℕ) (s : Sleeping) (l : Look) (q : List ℕ) → q ≡ f ∷ rest →
        AsksForNone (look_tick_by (place_of w s.who) w l q s).next
    by f rest s l [] k = absurd (cc)
    by f rest s l (g ∷ more) k = none-found (place_of w s.who) w l g more s
