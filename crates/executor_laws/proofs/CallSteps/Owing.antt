-- What a move owes goes as `call_steps` says.
use Rattle.std.proofs.Common.{◌≡◌, ℕ, Bool, true, false, ◌&&◌, List, [], ◌∷◌, ◌++◌, refl, subst, ap}
use Rattle.std.specs.Prelude.{Option, Some, None}
use Rattle.task_moves.specs.declared.schedule_info.ScheduleInfo.{ScheduleInfo}
use Rattle.task_moves.specs.declared.moves.owed.FutureDebt.TheVariants.{PollFuture, DropFuture}
use Rattle.task_moves.{specs.declared.moves.owed.AwaiterDebt.AwaiterDebt, specs.declared.moves.owed.FutureDebt.FutureDebt}
use Rattle.call_steps.{specs.Owing.scheduled, specs.declared.step.CallStep.CallStep, specs.Next.next, specs.Next.next_call}
use Rattle.executor_laws.proofs.Types.{Move, Moved, Owed, Event, Op, Polled, Waker, Task, Outside}
use Rattle.executor_model.specs.Carried.{carried, owed_ops, schedule_ops, future_ops, output_ops, awaiter_ops, next_ops}
use Rattle.executor_model.specs.Acts.{call_waker, is_last_waker, is_told, move_by, told_as, waker_goes}
use Rattle.executor_model.specs.World.{World, among, log, log_if, task}
use Rattle.executor_laws.specs.{SeenByCalls.moved_by, SeenByCalls.woken, StepsOfCalls.step_of, StepsOfCalls.steps_of, StepsOfCalls.waker_of}
use Rattle.call_steps.specs.Owing.{awaited, dropping, drops, emptied, futures, moves as moved_on, outputs, owed, released}
use Rattle.executor_model.specs.Carried.{drop_ops, emptied_ops, drops as model_drops}
use Rattle.task_moves.specs.Moves as moves

pub steps-append : (xs ys : List Op) → steps_of (xs ++ ys) ≡ steps_of xs ++ steps_of ys
steps-append [] ys = refl
steps-append (x ∷ xs) ys = ap (λ l. step_of x ∷ l) (steps-append xs ys)

pub both : (xs ys : List Op) (us vs : List (CallStep ℕ ℕ)) → steps_of xs ≡ us → steps_of ys ≡ vs →
    steps_of (xs ++ ys) ≡ us ++ vs
both xs ys us vs p q =
    subst (λ u. steps_of (xs ++ ys) ≡ u ++ vs) p (subst (λ v. steps_of (xs ++ ys) ≡ steps_of xs ++ v) q (steps-append xs ys))

of-schedule : (f : ℕ) (x : Option ScheduleInfo) → steps_of (schedule_ops f x) ≡ scheduled f x
of-schedule f None = refl
of-schedule f (Some info) = refl

of-drop : (f : ℕ) (t : Bool) → steps_of (drop_ops t f) ≡ dropping t f
of-drop f true = refl
of-drop f false = refl

of-future : (f : ℕ) (t : Bool) (x : Option FutureDebt) → steps_of (future_ops t f x) ≡ futures t f x
of-future f t None = refl
of-future f t (Some PollFuture) = refl
of-future f t (Some DropFuture) = of-drop f t

of-output : (f : ℕ) (x : Bool) → steps_of (output_ops x f) ≡ outputs x f
of-output f true = refl
of-output f false = refl

pub of-awaiter : (f : ℕ) (x : Option AwaiterDebt) → steps_of (awaiter_ops f x) ≡ awaited f x
of-awaiter f None = refl
of-awaiter f (Some AwaiterDebt.NotifyAwaiter) = refl
of-awaiter f (Some AwaiterDebt.NotifyOther) = refl
of-awaiter f (Some AwaiterDebt.CallGiven) = refl
of-awaiter f (Some AwaiterDebt.StoreCopy) = refl
of-awaiter f (Some AwaiterDebt.CallStored) = refl
of-awaiter f (Some AwaiterDebt.TakeAwaiter) = refl
of-awaiter f (Some AwaiterDebt.CallTaken) = refl

of-next : (f : ℕ) (x : Option Move) → steps_of (next_ops f x) ≡ moved_on f x
of-next f None = refl
of-next f (Some Move.WakeByReference) = refl
of-next f (Some Move.Wake) = refl
of-next f (Some Move.Copy) = refl
of-next f (Some Move.Release) = refl
of-next f (Some Move.TakeUp) = refl
of-next f (Some Move.SettleClosed) = refl
of-next f (Some Move.GiveUp) = refl
of-next f (Some Move.EndReady) = refl
of-next f (Some Move.EndPending) = refl
of-next f (Some Move.EndClosed) = refl
of-next f (Some Move.DropRunnable) = refl
of-next f (Some Move.Cancel) = refl
of-next f (Some Move.Detach) = refl
of-next f (Some Move.Poll) = refl
of-next f (Some Move.LookAgain) = refl
of-next f (Some Move.Register) = refl
of-next f (Some Move.EndRegister) = refl
of-next f (Some Move.Notify) = refl
of-next f (Some Move.EndNotify) = refl

of-emptied : (f : ℕ) (x : Bool) (d : Option FutureDebt) →
    steps_of (emptied_ops (x && model_drops d) f) ≡ emptied (x && drops d) f
of-emptied f false d = refl
of-emptied f true None = refl
of-emptied f true (Some PollFuture) = refl
of-emptied f true (Some DropFuture) = refl

pub of-owed : (t : Bool) (f : ℕ) (o : Owed) → steps_of (owed_ops t f o) ≡ owed t f o
of-owed t f o =
    both _ (emptied_ops (o.empty_cell && model_drops o.future) f) _ _
    (both _ (next_ops f o.next) _ _
    (both _ (awaiter_ops f o.awaiter) _ _
    (both _ (output_ops o.drop_output f) _ _
    (both (schedule_ops f o.schedule) (future_ops t f o.future) _ _ (of-schedule f o.schedule) (of-future f t o.future))
    (of-output f o.drop_output)) (of-awaiter f o.awaiter)) (of-next f o.next))
    (of-emptied f o.empty_cell o.future)

-- what is told of first changes nothing of it
of-carried : (last told : Bool) (w : World) (d e : Event) (f : ℕ) (m : Moved) →
    steps_of (carried (log_if last (log_if told w d) e) f m).next ≡ owed (among f w.table) f m.owed
of-carried true true w d e f m = of-owed (among f w.table) f m.owed
of-carried true false w d e f m = of-owed (among f w.table) f m.owed
of-carried false true w d e f m = of-owed (among f w.table) f m.owed
of-carried false false w d e f m = of-owed (among f w.table) f m.owed

pub of-move : (b : Bool) (m : Move) (p : ℕ) (w : World) (f : ℕ) →
    steps_of (move_by b m p w f).next ≡ next (CallStep.Move m f) (moved_by b m w f)
of-move true m p w f =
    of-carried (is_last_waker m (task w f)) (is_told m (task w f)) w (told_as m p f) (Event.LastWaker p f) f
    (moves.after m (task w f))
of-move false m p w f = refl

-- a waker is called, and goes
pub of-call : (p : ℕ) (w : World) (o : Polled) (a : Waker) (k : ℕ) →
    steps_of (call_waker p w o a k).next ≡ next_call (waker_of a) (woken Move.Wake w a)
of-call p w o (Task g) k = of-move true Move.Wake p (log w (Event.WakerCalled p o k (Task g))) g
of-call p w o (Outside x) k = refl

pub of-waker : (a : Waker) → steps_of (waker_goes a) ≡ released (Some (waker_of a))
of-waker (Task g) = refl
of-waker (Outside x) = refl
