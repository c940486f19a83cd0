-- The executor's drop and its leak go as `call_steps` says.
use Rattle.std.proofs.Common.{◌≡◌, ℕ, Bool, true, false, ◌||◌, List, [], ◌∷◌, ◌++◌, length, refl}
use Rattle.call_steps.specs.Closing.{closed, closing, leaking}
use Rattle.call_steps.{specs.declared.saw.Saw.Saw, specs.declared.step.CallStep.CallStep}
use Rattle.call_steps.{specs.declared.step.table.ClosingStep.ClosingStep, specs.Next.next, specs.Next.next_closing}
use Rattle.executor_laws.proofs.Types.{Mark, Plain, Urgent, Move, ClosingOp, Op, UserOp}
use Rattle.executor_model.specs.Acts.{close, closing_ops, drain_by, drop_next_by, leak_next_by, leak_out_by, leaking_ops, wake}
use Rattle.executor_model.specs.{Acts.wake_next_by, World.queue_of, World.World, Doing.closing_act}
use Rattle.executor_laws.specs.SeenByCalls.{dropped, first, seen_closing, unless_gone, wakes}
use Rattle.executor_laws.specs.StepsOfCalls.{closing_step_of, steps_of}
use Rattle.executor_laws.proofs.CallSteps.Owing.{both, of-move}

of-closing : (fs ws : List ℕ) → steps_of (closing_ops fs ws) ≡ closing (length fs) (length ws)
of-closing (f ∷ fs) ws = refl
of-closing [] (f ∷ ws) = refl
of-closing [] [] = refl

of-leaking : (ws : List ℕ) → steps_of (leaking_ops ws) ≡ leaking (length ws)
of-leaking (f ∷ ws) = refl
of-leaking [] = refl

of-drop : (p : ℕ) (w : World) (fs : List ℕ) →
    steps_of (drop_next_by p w fs).next ≡ next_closing ClosingStep.DropNext (dropped fs w.waking)
of-drop p w [] = refl
of-drop p w (f ∷ fs) =
    both (Op.User (UserOp.Drop f) ∷ []) (closing_ops fs (w.waking ++ f ∷ [])) _ _ refl (of-closing fs (w.waking ++ f ∷ []))

of-wake : (p : ℕ) (w : World) (ws : List ℕ) →
    steps_of (wake_next_by p w ws).next ≡ next_closing ClosingStep.WakeNext (wakes ws w)
of-wake p w [] = refl
of-wake p w (f ∷ ws) =
    both (wake p (record w { waking = ws }) f).next (closing_ops [] ws) _ _
    (of-move true Move.Wake p (record w { waking = ws }) f) (of-closing [] ws)

of-close : (w : World) (mark : Mark) → steps_of (close w mark).next ≡ closed mark
of-close w Urgent = refl
of-close w Plain = refl

of-drain : (p : ℕ) (w : World) (mark : Mark) (fs : List ℕ) →
    steps_of (drain_by p w mark fs).next ≡ next_closing (ClosingStep.Drain mark) (first fs)
of-drain p w Urgent [] = refl
of-drain p w Plain [] = refl
of-drain p w mark (f ∷ fs) = refl

of-leak-out : (b : Bool) (w : World) →
    steps_of (leak_out_by b w).next
    ≡ next_closing ClosingStep.LeakOut (unless_gone b (Saw.Closes 0 (length (w.waking ++ w.table))))
of-leak-out true w = refl
of-leak-out false w = of-leaking (w.waking ++ w.table)

of-leak : (b : Bool) (p : ℕ) (w : World) (ws : List ℕ) →
    steps_of (leak_next_by b p w ws).next ≡ next_closing ClosingStep.LeakNext (unless_gone b (wakes ws w))
of-leak true p w ws = refl
of-leak false p w [] = refl
of-leak false p w (f ∷ ws) =
    both (wake p (record w { waking = ws }) f).next (leaking_ops ws) _ _
    (of-move true Move.Wake p (record w { waking = ws }) f) (of-leaking ws)

pub of-closings : (p : ℕ) (o : ClosingOp) (w : World) →
    steps_of (closing_act p o w).next ≡ next (CallStep.Closing (closing_step_of o)) (seen_closing o w)
of-closings p ClosingOp.TakeOut w = of-closing w.table w.waking
of-closings p ClosingOp.DropNext w = of-drop p w w.leaving
of-closings p ClosingOp.WakeNext w = of-wake p w w.waking
of-closings p (ClosingOp.Close mark) w = of-close w mark
of-closings p (ClosingOp.Drain mark) w = of-drain p w mark (queue_of w mark).items
of-closings p ClosingOp.LeakOut w = of-leak-out (w.is_static || w.gone) w
of-closings p ClosingOp.LeakNext w = of-leak w.gone p w w.waking
