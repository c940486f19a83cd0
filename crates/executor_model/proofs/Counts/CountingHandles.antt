-- For one_runnable and references_are_counted.
-- The counts of each future (specs/Sound) where user code answers; and what polls of a handle and the wakes of the
-- executor's drop lead to, by what they find.
use Rattle.std.proofs.Common.{◌≡◌, ℕ, ◌+◌, ◌^◌, ◌<◌, List, [], ◌∷◌, ◌++◌, length, Bool, true, false, not, sym, ap, ◌∙◌, ◌≤◌}
use Rattle.std.specs.Prelude.{Option, Some, None}
use Rattle.std.{proofs.Common.arith, proofs.lemmas.Bool.Decides.nat_tests}
use Rattle.task_moves.specs.Moves.{moved, nothing, notify_other_if}
use Rattle.task_moves.{specs.declared.moves.owed.Answer.Answer, specs.declared.moves.owed.AwaiterDebt.AwaiterDebt}
use Rattle.executor_model.proofs.Types.{State, Move, Event, Awaiter, Waker, Task, Outside, Op, HandleOp, TableOp, UserOp}
use Rattle.executor_model.specs.World.{World, Done, done, log, log_if, task, put, put_awaiter, among}
use Rattle.executor_model.specs.Acts.{is_refused, answered, is_copy_refused, told, let_go, closing_ops}
use Rattle.executor_model.specs.Weights.{same, weigh, past, waker_past}
use Rattle.executor_model.specs.{Carried.owed_ops, Good.pasts, Rows.past_of}
use Rattle.executor_model.proofs.Steps.Lists.{past_is, same_is, phase-answered}
use Rattle.executor_model.proofs.{Types.WakerOp, Types.Hint, Counts.Counting.Keeps, Counts.Counting.CanCopy}
use Rattle.task_moves.specs.Moves as moves
use Rattle.executor_model.specs.declared.event.Answer.TheVariants as answer

-- wakers and polls of a handle

-- a poll of the handle that ends: as it was, or with its output
abbrev pub stays_so : ℕ → World → World → ℕ → Done
stays_so p w v f = answered p v f
    (moved (task w f) (record nothing { awaiter = Some AwaiterDebt.NotifyOther; answer = Some Answer.Closed })) Answer.Closed

abbrev pub gives : Bool → ℕ → World → World → ℕ → Done
gives a p w v f = answered p v f
    (moved (record (task w f) { closed = true })
    (record nothing { awaiter = notify_other_if a; answer = Some Answer.Output })) Answer.Output

abbrev pub waits_on : ℕ → World → World → ℕ → Done
waits_on p w v f = answered p v f (moved (task w f) (record nothing { answer = Some Answer.Pending })) Answer.Pending

-- by whether somebody wanted to notify meanwhile, and the old awaiter
abbrev pub end_registered : Bool → Option Awaiter → World → ℕ → Waker → ℕ → Done
end_registered true old w f a k = done (put_awaiter (put w f (moves.end_register_by true (task w f)).state) f None)
    (Op.Waker (WakerOp.CallAwaiter f a k) ∷ let_go old ++ Op.Handle (HandleOp.LookAgain f) ∷ [])
end_registered false old w f a k =
    done (put_awaiter (put w f (moves.end_register_by false (task w f)).state) f
    (Some (record { waker = a; poll = k }))) (let_go old ++ Op.Handle (HandleOp.LookAgain f) ∷ [])

abbrev pub end_notified : Bool → Option Awaiter → World → ℕ → Done
end_notified same old w f = done (put_awaiter (put w f (moves.end_notify (task w f)).state) f None) (told same f old)

-- a cell is emptied, and this awaiter goes
abbrev pub let_go_with : Option Awaiter → World → ℕ → Done
let_go_with old w f = done (put_awaiter (put w f (record (task w f) { awaiter = false })) f None) (let_go old)

-- the drop of the executor

abbrev pub next_woken : Bool → Bool → Bool → List ℕ → ℕ → World → ℕ → Done
next_woken o b c rest p w f = let m = moves.wake_by_reference_by b c (task w f) in
    done (put (log_if (not o) (record w { waking = rest }) (Event.Woken p f)) f m.state)
    (owed_ops (among f (log_if (not o) (record w { waking = rest }) (Event.Woken p f)).table) f
    (record m.owed { next = Some Move.Release }) ++ closing_ops [] rest)

-- the answers of user code
pub sound-pending : (p : ℕ) (w : World) (f : ℕ) →
    Keeps w (Op.User (UserOp.Poll f) ∷ [])
    (done (log w (Event.Answered p f answer.Pending)) (Op.Table (TableOp.PutBack f) ∷ []))
sound-pending p w f g r h = grind (arith, same_is, phase-answered)

pub sound-ready : (p : ℕ) (w : World) (f : ℕ) →
    Keeps w (Op.User (UserOp.Poll f) ∷ [])
    (done (log w (Event.Answered p f answer.Ready)) (Op.User (UserOp.BeginDrop f) ∷ Op.Move Move.EndReady f ∷ []))
sound-ready p w f g r h = grind (arith, same_is, phase-answered)

pub below : (n f : ℕ) → past n f ≡ 0 → f < n
below n f e = grind (arith, past_is)

-- the op's own future is one
pub own : (n f : ℕ) (o : Op) → past n f ≤ past_of n o → weigh (past_of n) (o ∷ []) ≡ 0 → f < n
own n f o le e = below n f (omega (arith, le, e))

pub small : (h : Hint) (s : State) → is_refused h s ≡ false → s.references < 2 ^ 40
small h s e = grind (arith, nat_tests)

pub can_copy : (h : Hint) (w : World) (a : Waker) (n : ℕ) → n + waker_past (length w.tasks) a ≡ 0 →
    is_copy_refused h w a ≡ false → CanCopy w a
can_copy h w (Task k) n z e = (below _ k (omega (arith, z)), small h (task w k) e)
can_copy h w (Outside x) n z e = tt

pub first_known : (w : World) → pasts (length w.tasks) w.waking ≡ 0 → (f : ℕ) (rest : List ℕ) → w.waking ≡ f ∷ rest →
    f < length w.tasks
first_known w u f rest e =
    let z : past (length w.tasks) f + pasts (length w.tasks) rest ≡ 0 = sym (ap (pasts (length w.tasks)) e) ∙ u in
    below _ f (omega (arith, z))
