-- Copies of wakers, polls of handles and notifies go as `call_steps` says.
use Rattle.std.proofs.Common.{◌≡◌, ℕ, Bool, true, false, ◌&&◌, ◌||◌, [], ◌∷◌, refl}
use Rattle.std.specs.Prelude.{Option, Some, None}
use Rattle.task_moves.specs.declared.moves.owed.Answer.{Answer}
use Rattle.call_steps.specs.Next.{looked, looked_again, next, next_handle, next_waker}
use Rattle.call_steps.specs.Owing.{answered, released, reply_of as next_reply, told}
use Rattle.call_steps.{specs.declared.step.CallStep.CallStep, specs.declared.step.handle.HandleStep.HandleStep}
use Rattle.call_steps.{specs.declared.step.handle.WakerStep.WakerStep, specs.declared.saw.Saw.Saw}
use Rattle.executor_laws.proofs.Types.{Moved, Awaiter, HandleOp, Hold, Op, Polled, Waker, WakerOp, Hint}
use Rattle.executor_model.specs.Acts.{answered as model_answered, copy_awaiter_by, copy_by, end_register_by, is_copy_refused}
use Rattle.executor_model.specs.Acts.{is_refused, let_go, let_go_by, look_again_by, look_by, notify_by, polled as polled_now}
use Rattle.executor_model.specs.World.{World, awaiter_of, task}
use Rattle.executor_model.specs.{Acts.register_by, Carried.awaiter_ops, Doing.handle_act, Doing.waker_act}
use Rattle.executor_model.specs.{Acts.reply_of as model_reply, Acts.told as model_told}
use Rattle.executor_laws.specs.SeenByCalls.{awaiting, seen_handle, seen_waker, unless_refused}
use Rattle.executor_laws.specs.StepsOfCalls.{handle_step_of, steps_of, waker_of, waker_step_of}
use Rattle.executor_laws.proofs.CallSteps.Owing.{both, of-awaiter, of-call, of-waker}
use Rattle.task_moves.specs.Moves as moves

of-copy : (b : Bool) (w : World) (f : ℕ) (held : Hold) →
    steps_of (copy_by b w f held).next ≡ next_waker (WakerStep.CopyWaker f) (unless_refused b)
of-copy true w f held = refl
of-copy false w f held = refl

pub of-wakers : (p : ℕ) (h : Hint) (o : WakerOp) (w : World) →
    steps_of (waker_act p h o w).next ≡ next (CallStep.Waker (waker_step_of o)) (seen_waker h o w)
of-wakers p h (WakerOp.CopyWaker f held) w = of-copy (is_refused h (task w f)) w f held
of-wakers p h (WakerOp.CallAwaiter f a k) w = of-call p w (Polled.Handle f) a k

of-let-go : (a : Option Awaiter) → steps_of (let_go a) ≡ released (awaiting a)
of-let-go None = refl
of-let-go (Some a) = of-waker a.waker

of-end : (f : ℕ) (a : Answer) →
    steps_of (Op.End (model_reply a) (Hold.Handle f) ∷ []) ≡ CallStep.End (next_reply a) ∷ []
of-end f Answer.Refused = refl
of-end f Answer.Pending = refl
of-end f Answer.Closed = refl
of-end f Answer.Output = refl

of-answered : (p : ℕ) (w : World) (f : ℕ) (m : Moved) (a : Answer) →
    steps_of (model_answered p w f m a).next ≡ answered f m.owed.awaiter a
of-answered p w f m a =
    both (awaiter_ops f m.owed.awaiter) (Op.End (model_reply a) (Hold.Handle f) ∷ []) _ _ (of-awaiter f m.owed.awaiter) (of-end f a)

of-looked : (x : Option Answer) (p : ℕ) (w : World) (f : ℕ) (a : Waker) (m : Moved) →
    steps_of (look_by x p w f a m).next ≡ looked x f (waker_of a) m.owed
of-looked None p w f a m = refl
of-looked (Some x) p w f a m = of-answered p (polled_now p w f) f m x

of-looked-again : (x : Option Answer) (p : ℕ) (w : World) (f : ℕ) (m : Moved) →
    steps_of (look_again_by x p w f m).next ≡ looked_again x f m.owed
of-looked-again None p w f m = refl
of-looked-again (Some x) p w f m = of-answered p w f m x

of-copied : (b : Bool) (p : ℕ) (w : World) (f : ℕ) (a : Waker) →
    steps_of (copy_awaiter_by b p w f a).next ≡ next_handle (HandleStep.CopyAwaiter f (waker_of a)) (unless_refused b)
of-copied true p w f a = refl
of-copied false p w f a = refl

of-register : (b : Bool) (w : World) (f : ℕ) (a : Waker) (k : ℕ) →
    steps_of (register_by b w f a k).next ≡ next_handle (HandleStep.Register f (waker_of a)) (Saw.Awaiter b None)
of-register true w f a k = refl
of-register false w f a k = refl

of-end-register : (b : Bool) (w : World) (f : ℕ) (a : Waker) (k : ℕ) →
    steps_of (end_register_by b w f a k).next
    ≡ next_handle (HandleStep.EndRegister f (waker_of a)) (Saw.Awaiter b (awaiting (awaiter_of w f)))
of-end-register true w f a k =
    both (Op.Waker (WakerOp.CallAwaiter f a k) ∷ let_go (awaiter_of w f)) (Op.Handle (HandleOp.LookAgain f) ∷ []) _ _
    (both (Op.Waker (WakerOp.CallAwaiter f a k) ∷ []) (let_go (awaiter_of w f)) _ _ refl (of-let-go (awaiter_of w f))) refl
of-end-register false w f a k =
    both (let_go (awaiter_of w f)) (Op.Handle (HandleOp.LookAgain f) ∷ []) _ _ (of-let-go (awaiter_of w f)) refl

of-notify : (b : Bool) (w : World) (f : ℕ) (mine : Bool) →
    steps_of (notify_by b w f mine).next ≡ next_handle (HandleStep.Notify f mine) (Saw.Awaiter b None)
of-notify true w f mine = refl
of-notify false w f mine = refl

of-told : (same : Bool) (f : ℕ) (a : Option Awaiter) → steps_of (model_told same f a) ≡ told same f (awaiting a)
of-told same f None = refl
of-told true f (Some a) = of-let-go (Some a)
of-told false f (Some a) = refl

of-emptied-cell : (b : Bool) (w : World) (f : ℕ) →
    steps_of (let_go_by b w f).next ≡ next_handle (HandleStep.LetGo f) (Saw.Awaiter b (awaiting (awaiter_of w f)))
of-emptied-cell true w f = refl
of-emptied-cell false w f = of-let-go (awaiter_of w f)

pub of-handles : (p : ℕ) (h : Hint) (o : HandleOp) (w : World) →
    steps_of (handle_act p h o w).next ≡ next (CallStep.Handle (handle_step_of o)) (seen_handle h o w)
of-handles p h (HandleOp.Look f a) w =
    of-looked (moves.poll (task w f)).owed.answer p w f a (moves.poll (task w f))
of-handles p h (HandleOp.CopyAwaiter f a) w = of-copied (is_copy_refused h w a) p w f a
of-handles p h (HandleOp.Register f a k) w = of-register (task w f).notifying w f a k
of-handles p h (HandleOp.EndRegister f a k) w = of-end-register (task w f).notifying w f a k
of-handles p h (HandleOp.LookAgain f) w =
    of-looked-again (moves.look_again (task w f)).owed.answer p w f (moves.look_again (task w f))
of-handles p h (HandleOp.Notify f mine) w = of-notify ((task w f).notifying || (task w f).registering) w f mine
of-handles p h (HandleOp.EndNotify f mine) w = of-told (mine && h.same) f (awaiter_of w f)
of-handles p h (HandleOp.LetGo f) w = of-emptied-cell (task w f).handle w f
