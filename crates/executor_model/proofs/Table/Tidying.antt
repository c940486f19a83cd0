-- For table_and_queue_agree, no_append_is_refused_full, the_limit_is_exact, drops_come_once, early_drops_have_causes
-- and closing_drops_each_future_once.
-- Each thing that is done leads to uses of the executor only inside of a call that holds it.
use Rattle.std.proofs.Common.{◌≡◌, ℕ, List, [], ◌∷◌, ◌++◌, Bool, true, false, refl, ap, arith}
use Rattle.std.specs.Prelude.{Option, Some, None}
use Rattle.task_moves.specs.declared.moves.owed.AwaiterDebt.{AwaiterDebt}
use Rattle.task_moves.{specs.declared.moves.owed.FutureDebt.FutureDebt, specs.declared.moves.owed.Answer.Answer}
use Rattle.executor_model.proofs.Types.{Look, Plain, Urgent, First, Second, Mark, State, Owed, Moved, Awaiter, Waker, Task}
use Rattle.executor_model.proofs.Types.{Outside, Hold, Op, HandleOp, QueueOp}
use Rattle.executor_model.specs.Acts.{append_by, take_by, enter_by, copy_by, look_by, look_again_by, copy_awaiter_by}
use Rattle.executor_model.specs.Acts.{register_by, waker_goes, let_go, end_register_by, notify_by, told, call_awaiter}
use Rattle.executor_model.specs.Carried.{owed_ops, future_ops, awaiter_ops}
use Rattle.executor_model.specs.Acts.{let_go_by, closing_ops, drop_next_by, wake, wake_next_by, drain_by}
use Rattle.executor_model.specs.{World.World, World.task, World.awaiter_of, Weights.weigh}
use Rattle.executor_model.proofs.Steps.Owed.{owed-awaiter, owed-nothing}
use Rattle.executor_model.proofs.{Steps.Lists.weigh-append, Table.Borrowing.uses_of, Table.Borrowing.Tidy}
use Rattle.task_moves.specs.Moves as moves

light-both : (xs ys : List Op) → weigh uses_of xs ≡ 0 → weigh uses_of ys ≡ 0 → weigh uses_of (xs ++ ys) ≡ 0
light-both xs ys a b = omega (arith, weigh-append uses_of xs ys, a, b)

light-awaiter : (f : ℕ) (o : Option AwaiterDebt) → weigh uses_of (awaiter_ops f o) ≡ 0
light-awaiter f o = owed-awaiter uses_of f (record { notify = λ m. refl }) o

pub light-owed : (f : ℕ) (there : Bool) (o : Owed) → weigh uses_of (future_ops there f o.future) ≡ 0 →
    weigh uses_of (owed_ops there f o) ≡ 0
light-owed f there o z =
    owed-nothing uses_of f (record {
      append = refl;
      output = refl;
      release = refl;
      settle_closed = refl;
      give_up = refl;
      end_closed = refl;
      detach = refl;
      let_go = refl;
    }) there o z (light-awaiter f o.awaiter)

-- a move at which no future is owed
pub light-carried : (f : ℕ) (there : Bool) (m : Moved) → m.owed.future ≡ None →
    weigh uses_of (owed_ops there f m.owed) ≡ 0
light-carried f there m e =
    light-owed f there m.owed (ap (λ (x : Option FutureDebt). weigh uses_of (future_ops there f x)) e)

pub no-wake : (b c : Bool) (s : State) → (moves.wake_by_reference_by b c s).owed.future ≡ None
no-wake true c s = refl
no-wake false true s = refl
no-wake false false s = refl

pub no-release : (b c : Bool) (s : State) → (moves.release_by b c s).owed.future ≡ None
no-release false c s = refl
no-release true true s = refl
no-release true false s = refl

pub no-give_up : (b : Bool) (s : State) → (moves.give_up_by b s).owed.future ≡ None
no-give_up true s = refl
no-give_up false s = refl

pub no-cancel : (a b : Bool) (s : State) → (moves.cancel_by a b s).owed.future ≡ None
no-cancel true b s = refl
no-cancel false true s = refl
no-cancel false false s = refl

pub no-detach : (a b : Bool) (s : State) → (moves.detach_by a b s).owed.future ≡ None
no-detach true b s = refl
no-detach false true s = refl
no-detach false false s = refl

pub light-append : (b : Bool) (w : World) (mark : Mark) (f : ℕ) → weigh uses_of (append_by b w mark f).next ≡ 0
light-append true w mark f = refl
light-append false w mark f = refl

pub tidy-take : (look : Look) (q : List ℕ) (w : World) → Tidy (Op.Queue (QueueOp.Take look) ∷ []) (take_by w look q).next
tidy-take (First mark) [] w = record { keeps = λ h. refl }
tidy-take (Second mark) [] w = record { keeps = λ h. refl }
tidy-take look (f ∷ rest) w = record { keeps = λ h. refl }

pub light-enter : (b c : Bool) (mark : Mark) (p : ℕ) (w : World) → weigh uses_of (enter_by b c mark p w).next ≡ 0
light-enter true c mark p w = refl
light-enter false true mark p w = refl
light-enter false false mark p w = refl

pub light-copy : (b : Bool) (w : World) (f : ℕ) (held : Hold) → weigh uses_of (copy_by b w f held).next ≡ 0
light-copy true w f held = refl
light-copy false w f held = refl

pub light-look : (o : Option Answer) (p : ℕ) (w : World) (f : ℕ) (a : Waker) (m : Moved) →
    weigh uses_of (look_by o p w f a m).next ≡ 0
light-look None p w f a m = refl
light-look (Some x) p w f a m = light-both (awaiter_ops f m.owed.awaiter) _ (light-awaiter f m.owed.awaiter) refl

pub light-again : (o : Option Answer) (p : ℕ) (w : World) (f : ℕ) (m : Moved) →
    weigh uses_of (look_again_by o p w f m).next ≡ 0
light-again None p w f m = refl
light-again (Some x) p w f m = light-both (awaiter_ops f m.owed.awaiter) _ (light-awaiter f m.owed.awaiter) refl

pub light-copy_awaiter : (b : Bool) (p : ℕ) (w : World) (f : ℕ) (a : Waker) →
    weigh uses_of (copy_awaiter_by b p w f a).next ≡ 0
light-copy_awaiter true p w f a = refl
light-copy_awaiter false p w f a = refl

pub light-register : (b : Bool) (w : World) (f : ℕ) (a : Waker) (k : ℕ) → weigh uses_of (register_by b w f a k).next ≡ 0
light-register true w f a k = refl
light-register false w f a k = refl

light-goes : (a : Waker) → weigh uses_of (waker_goes a) ≡ 0
light-goes (Task k) = refl
light-goes (Outside x) = refl

light-let_go : (a : Option Awaiter) → weigh uses_of (let_go a) ≡ 0
light-let_go None = refl
light-let_go (Some a) = light-goes a.waker

pub light-let_go_by : (b : Bool) (w : World) (f : ℕ) → weigh uses_of (let_go_by b w f).next ≡ 0
light-let_go_by true w f = refl
light-let_go_by false w f = light-let_go (awaiter_of w f)

pub light-end_register : (b : Bool) (w : World) (f : ℕ) (a : Waker) (k : ℕ) →
    weigh uses_of (end_register_by b w f a k).next ≡ 0
light-end_register true w f a k =
    omega (
      arith,
      light-both (let_go (awaiter_of w f)) (Op.Handle (HandleOp.LookAgain f) ∷ [])
          (light-let_go (awaiter_of w f)) refl,
    )
light-end_register false w f a k = light-both (let_go (awaiter_of w f)) (Op.Handle (HandleOp.LookAgain f) ∷ [])
    (light-let_go (awaiter_of w f)) refl

pub light-notify : (b : Bool) (w : World) (f : ℕ) (mine : Bool) → weigh uses_of (notify_by b w f mine).next ≡ 0
light-notify true w f mine = refl
light-notify false w f mine = refl

pub light-told : (b : Bool) (f : ℕ) (a : Option Awaiter) → weigh uses_of (told b f a) ≡ 0
light-told b f None = refl
light-told true f (Some a) = light-goes a.waker
light-told false f (Some a) = refl

pub light-wake : (p : ℕ) (w : World) (f : ℕ) → weigh uses_of (wake p w f).next ≡ 0
light-wake p w f = light-carried f _ (moves.wake (task w f)) (no-wake _ _ (task w f))

pub light-call : (p : ℕ) (w : World) (f : ℕ) (a : Waker) (k : ℕ) → weigh uses_of (call_awaiter p w f a k).next ≡ 0
light-call p w f (Task m) k = light-wake p _ m
light-call p w f (Outside x) k = refl

pub light-closing : (ls ws : List ℕ) → weigh uses_of (closing_ops ls ws) ≡ 0
light-closing [] [] = refl
light-closing [] (x ∷ ws) = refl
light-closing (x ∷ ls) ws = refl

pub light-drop_next : (p : ℕ) (w : World) (ls : List ℕ) → weigh uses_of (drop_next_by p w ls).next ≡ 0
light-drop_next p w [] = refl
light-drop_next p w (f ∷ rest) = omega (arith, light-closing rest (w.waking ++ f ∷ []))

pub light-wake_next : (p : ℕ) (w : World) (ws : List ℕ) → weigh uses_of (wake_next_by p w ws).next ≡ 0
light-wake_next p w [] = refl
light-wake_next p w (f ∷ rest) = light-both (wake p (record w { waking = rest }) f).next (closing_ops [] rest)
    (light-wake p (record w { waking = rest }) f) (light-closing [] rest)

pub light-drain : (mark : Mark) (p : ℕ) (w : World) (q : List ℕ) → weigh uses_of (drain_by p w mark q).next ≡ 0
light-drain Urgent p w [] = refl
light-drain Plain p w [] = refl
light-drain mark p w (f ∷ rest) = refl

-- it uses the executor itself
pub tidy-using : (o : Op) (next : List Op) → uses_of o ≡ 1 → Tidy (o ∷ []) next
tidy-using o next u = record { keeps = λ h. absurd (omega (arith, u, h)) }
