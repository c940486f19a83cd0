-- For awaiters_are_kept.
-- Each thing that is done keeps what holds of each future and of who waits on its handle.
use Rattle.std.proofs.Common.{◌≡◌, ◌⊎◌, ℕ, ◌+◌, ◌<◌, List, [], ◌∷◌, ◌++◌, length, Bool, true, false, ◌||◌, ◌&&◌, not, eqb, refl}
use Rattle.std.proofs.Common.{sym, ap, subst, ◌≤◌, inl, inr, arith}
use Rattle.std.specs.Prelude.{Option, Some, None, slice_set}
use Rattle.std.{proofs.lemmas.Bool.Decides.nat_tests, proofs.lemmas.List.length-set}
use Rattle.task_moves.specs.declared.moves.owed.Answer.{Answer}
use Rattle.executor_model.proofs.Types.{Plain, Urgent, Event, Awaiter, Waker, Task, Outside, Hold, Op, ClosingOp, HandleOp}
use Rattle.executor_model.specs.Acts.{let_go_by, copy_by, polled, look_by, look_again_by, copy_awaiter_by, register_by}
use Rattle.executor_model.specs.Acts.{end_register_by, notify_by, call_awaiter, closing_ops, drop_next_by, wake_next_by, close}
use Rattle.executor_model.specs.World.{queue_of, World, Done, done, log, log_if, task, awaiter_of}
use Rattle.executor_model.specs.Acts.{drain_by, leak_next_by, leak_out_by, leaked, leaking_ops, followed}
use Rattle.executor_model.specs.Weights.{same, past, waker_past}
use Rattle.executor_model.specs.{Carried.carried, Good.IsKnownWaker, Sound.Pend, Sound.times}
use Rattle.executor_model.proofs.Counts.CountingHandles.{stays_so, gives, waits_on, end_registered, end_notified, let_go_with}
use Rattle.executor_model.proofs.Awaiters.Awaited.{heard, heard-push, Awaiting, with_awaiting, with_awaiting-closing, Awaits}
use Rattle.executor_model.proofs.Awaiters.Awaited.{KeepsBy, KeepsAwaits, asks_if, kept_at, kept_put, Mark}
use Rattle.executor_model.proofs.Awaiters.AwaitedMoves.{awaits-call_task, awaits-cancel_over, awaits-cancel_going}
use Rattle.executor_model.proofs.Steps.Marks.{IsUnmarked, unmarked, IsMarked, marked}
use Rattle.executor_model.proofs.Steps.Lists.{with_ops-closing, read_put, same_is, times-append, with_ops-leaking}
use Rattle.executor_model.proofs.Counts.CountingHandles.{next_woken, below}
use Rattle.executor_model.proofs.{Steps.QueuesByMark.times-first, Types.Move, Types.TableOp, Types.UserOp, Types.WakerOp}
use Rattle.executor_model.proofs.{Steps.Cases.by_bool, Steps.Cases.by_list, Steps.Cases.by_waker, Counts.Counting.woken_by}
use Rattle.executor_model.proofs.{Awaiters.Awaited.with_awaiting-leaking, Awaiters.AwaitedMoves.awaits-cancel_idle}
use Rattle.executor_parts.specs.declared.mark.Mark as of_mark
use Rattle.task_moves.specs.Moves as moves
use Rattle.executor_model.specs.declared.event.Answer.TheVariants as answer

-- wakers and polls of a handle

pub awaits-copy : (b : Bool) (w : World) (f : ℕ) (held : Hold) → f < length w.tasks →
    KeepsAwaits w (Op.Waker (WakerOp.CopyWaker f held) ∷ []) (copy_by b w f held)
awaits-copy = by_bool _
    (λ w f held i g r yy mm bb h. grind arith)
    (λ w f held i g r yy mm bb h. grind (arith, same_is, read_put, length-set))

-- a poll of the handle that ends: as it was, or with its output

awaits-look_closed : (p : ℕ) (w : World) (f : ℕ) (a : Waker) → f < length w.tasks →
    KeepsBy w (Op.Handle (HandleOp.Look f a) ∷ []) (stays_so p w (polled p w f) f) (asks_if true p f)
awaits-look_closed p w f a i g r yy mm bb h = grind (arith, same_is, read_put, length-set, heard-push)

awaits-look_given : (b : Bool) (p : ℕ) (w : World) (f : ℕ) (a : Waker) → (task w f).completed ≡ true →
    f < length w.tasks → KeepsBy w (Op.Handle (HandleOp.Look f a) ∷ []) (gives b p w (polled p w f) f)
    (asks_if true p f)
awaits-look_given = by_bool _
    (λ p w f a e i g r yy mm bb h. grind (arith, same_is, read_put, length-set, heard-push))
    (λ p w f a e i g r yy mm bb h. grind (arith, same_is, read_put, length-set, heard-push))

awaits-again_closed : (p : ℕ) (w : World) (f : ℕ) → f < length w.tasks →
    KeepsAwaits w (Op.Handle (HandleOp.LookAgain f) ∷ []) (stays_so p w w f)
awaits-again_closed p w f i g r yy mm bb h = grind (arith, same_is, read_put, length-set, heard-push)

awaits-again_given : (b : Bool) (p : ℕ) (w : World) (f : ℕ) → (task w f).completed ≡ true → f < length w.tasks →
    KeepsAwaits w (Op.Handle (HandleOp.LookAgain f) ∷ []) (gives b p w w f)
awaits-again_given = by_bool _
    (λ p w f e i g r yy mm bb h. grind (arith, same_is, read_put, length-set, heard-push))
    (λ p w f e i g r yy mm bb h. grind (arith, same_is, read_put, length-set, heard-push))

awaits-look_on : (w : World) (f : ℕ) (a : Waker) →
    KeepsAwaits w (Op.Handle (HandleOp.Look f a) ∷ []) (done w (Op.Handle (HandleOp.CopyAwaiter f a) ∷ []))
awaits-look_on w f a g r yy mm bb h = grind arith

awaits-again_waits : (p : ℕ) (w : World) (f : ℕ) → (((task w f).scheduled ≡ true) ⊎ ((task w f).running ≡ true))
    ⊎ (((task w f).closed ≡ false) × ((task w f).completed ≡ false)) → f < length w.tasks →
    KeepsAwaits w (Op.Handle (HandleOp.LookAgain f) ∷ []) (waits_on p w w f)
awaits-again_waits p w f n i g r yy mm bb h = grind (arith, same_is, read_put, length-set, heard-push)

pub awaits-copy_awaiter : (b : Bool) (p : ℕ) (w : World) (f : ℕ) (a : Waker) → IsKnownWaker w a →
    KeepsBy w (Op.Handle (HandleOp.CopyAwaiter f a) ∷ []) (copy_awaiter_by b p w f a) (asks_if (not b) p f)
awaits-copy_awaiter = by_bool _
    (λ p w f a e g r yy mm bb h. grind arith)
    (λ p w f. by_waker _
    (λ k e g r yy mm bb h. let few : (with_awaiting g (Op.Handle (HandleOp.CopyAwaiter f (Task k)) ∷ []) yy).strays
    (length w.trace) ≤ _ = bb.few (length w.trace) in let z : k < length w.tasks = e in
    let l : eqb (length w.trace) (length w.trace) ≡ true = grind (arith, nat_tests) in
    grind (arith, same_is, read_put, length-set, heard-push))
    (λ x e g r yy mm bb h. let few : (with_awaiting g (Op.Handle (HandleOp.CopyAwaiter f (Outside x)) ∷ []) yy).strays
    (length w.trace) ≤ _ = bb.few (length w.trace) in
    let l : eqb (length w.trace) (length w.trace) ≡ true = grind (arith, nat_tests) in
    grind (arith, same_is, heard-push)))

pub awaits-register : (b : Bool) (w : World) (f : ℕ) (a : Waker) (k : ℕ) → (task w f).notifying ≡ b →
    f < length w.tasks → KeepsAwaits w (Op.Handle (HandleOp.Register f a k) ∷ []) (register_by b w f a k)
awaits-register = by_bool _
    (λ w f a k n i g r yy mm bb h. grind (arith, same_is, read_put, length-set))
    (λ w f a k n i g r yy mm bb h. grind (arith, same_is, read_put, length-set))

-- a cell is emptied, and its awaiter is let go

awaits-let_go-with : (old : Option Awaiter) (w : World) (f : ℕ) → (task w f).handle ≡ false → awaiter_of w f ≡ old →
    f < length w.tasks → f < length w.awaiters →
    KeepsAwaits w (Op.Handle (HandleOp.LetGo f) ∷ []) (let_go_with old w f)
awaits-let_go-with None w f n e i j = λ g r yy mm bb h. grind (arith, same_is, read_put, length-set, kept_put)
awaits-let_go-with (Some a) w f n e i j = by a.waker a.poll e
  where
    by : (x : Waker) (m : ℕ) → awaiter_of w f ≡ Some (record { waker = x; poll = m }) →
        KeepsAwaits w (Op.Handle (HandleOp.LetGo f) ∷ []) (let_go_with (Some (record { waker = x; poll = m })) w f)
    by (Task q) m e = λ g r yy mm bb h. grind (arith, same_is, read_put, length-set, kept_put)
    by (Outside q) m e = λ g r yy mm bb h. grind (arith, same_is, read_put, length-set, kept_put)

pub awaits-let_go : (b : Bool) (w : World) (f : ℕ) → (task w f).handle ≡ b → f < length w.tasks →
    f < length w.awaiters → KeepsAwaits w (Op.Handle (HandleOp.LetGo f) ∷ []) (let_go_by b w f)
awaits-let_go true w f n i j = λ g r yy mm bb h. grind arith
awaits-let_go false w f n i j = awaits-let_go-with _ w f n refl i j

-- by whether somebody wanted to notify meanwhile, and the old awaiter

awaits-end_register-none : (b : Bool) (w : World) (f : ℕ) (a : Waker) (k : ℕ) → (task w f).notifying ≡ b →
    awaiter_of w f ≡ None → f < length w.tasks → f < length w.awaiters →
    KeepsAwaits w (Op.Handle (HandleOp.EndRegister f a k) ∷ []) (end_registered b None w f a k)
awaits-end_register-none = by_bool _
    (λ w f a k n e i j g r yy mm bb h. grind (arith, same_is, read_put, length-set, kept_put))
    (λ w f a k n e i j g r yy mm bb h. grind (arith, same_is, read_put, length-set, kept_put))

awaits-end_register-some : (b : Bool) (x : Waker) (m : ℕ) (w : World) (f : ℕ) (a : Waker) (k : ℕ) →
    (task w f).notifying ≡ b → awaiter_of w f ≡ Some (record { waker = x; poll = m }) → f < length w.tasks →
    f < length w.awaiters → KeepsAwaits w (Op.Handle (HandleOp.EndRegister f a k) ∷ [])
    (end_registered b (Some (record { waker = x; poll = m })) w f a k)
awaits-end_register-some = by_bool _
    (by_waker _
    (λ q m w f a k n e i j g r yy mm bb h. grind (arith, same_is, read_put, length-set, kept_put))
    (λ q m w f a k n e i j g r yy mm bb h. grind (arith, same_is, read_put, length-set, kept_put)))
    (by_waker _
    (λ q m w f a k n e i j g r yy mm bb h. grind (arith, same_is, read_put, length-set, kept_put))
    (λ q m w f a k n e i j g r yy mm bb h. grind (arith, same_is, read_put, length-set, kept_put)))

awaits-end_register : (b : Bool) (old : Option Awaiter) (w : World) (f : ℕ) (a : Waker) (k : ℕ) →
    (task w f).notifying ≡ b → awaiter_of w f ≡ old → f < length w.tasks → f < length w.awaiters →
    KeepsAwaits w (Op.Handle (HandleOp.EndRegister f a k) ∷ []) (end_registered b old w f a k)
awaits-end_register b None w f a k n e i j = awaits-end_register-none b w f a k n e i j
awaits-end_register b (Some x) w f a k n e i j = awaits-end_register-some b x.waker x.poll w f a k n e i j

pub awaits-notify : (b m : Bool) (w : World) (f : ℕ) → ((task w f).notifying || (task w f).registering) ≡ b →
    f < length w.tasks → KeepsAwaits w (Op.Handle (HandleOp.Notify f m) ∷ []) (notify_by b w f m)
awaits-notify = by_bool _
    (λ m w f n i g r yy mm bb h. let z : ((task w f).notifying ≡ true) ⊎ ((task w f).registering ≡ true) =
    grind (arith, nat_tests) in grind (arith, same_is, read_put, length-set))
    (λ m w f n i g r yy mm bb h. let z : (task w f).notifying ≡ false = grind (arith, nat_tests) in
    let q : (task w f).registering ≡ false = grind (arith, nat_tests) in grind (arith, same_is, read_put, length-set))

awaits-end_notify-none : (b mine : Bool) (w : World) (f : ℕ) → awaiter_of w f ≡ None → f < length w.tasks →
    f < length w.awaiters → KeepsAwaits w (Op.Handle (HandleOp.EndNotify f mine) ∷ []) (end_notified b None w f)
awaits-end_notify-none = by_bool _
    (λ mine w f e i j g r yy mm bb h. let z : kept_at (heard g w.trace).poll (awaiter_of w f) ≡ 0 =
    ap (kept_at (heard g w.trace).poll) e in grind (arith, same_is, read_put, length-set, kept_put))
    (λ mine w f e i j g r yy mm bb h. let z : kept_at (heard g w.trace).poll (awaiter_of w f) ≡ 0 =
    ap (kept_at (heard g w.trace).poll) e in grind (arith, same_is, read_put, length-set, kept_put))

awaits-end_notify-some : (b : Bool) (x : Waker) (m : ℕ) (mine : Bool) (w : World) (f : ℕ) → (b ≡ true → mine ≡ true) →
    awaiter_of w f ≡ Some (record { waker = x; poll = m }) → f < length w.tasks → f < length w.awaiters →
    KeepsAwaits w (Op.Handle (HandleOp.EndNotify f mine) ∷ [])
    (end_notified b (Some (record { waker = x; poll = m })) w f)
awaits-end_notify-some = by_bool _
    (by_waker _
    (λ q m mine w f n e i j g r yy mm bb h. let s : mine ≡ true = n refl in
    let z : kept_at (heard g w.trace).poll (awaiter_of w f) ≡ same (heard g w.trace).poll m =
    ap (kept_at (heard g w.trace).poll) e in grind (arith, same_is, read_put, length-set, kept_put))
    (λ q m mine w f n e i j g r yy mm bb h. let s : mine ≡ true = n refl in
    let z : kept_at (heard g w.trace).poll (awaiter_of w f) ≡ same (heard g w.trace).poll m =
    ap (kept_at (heard g w.trace).poll) e in grind (arith, same_is, read_put, length-set, kept_put)))
    (by_waker _
    (λ q m mine w f n e i j g r yy mm bb h.
    let z : kept_at (heard g w.trace).poll (awaiter_of w f) ≡ same (heard g w.trace).poll m =
    ap (kept_at (heard g w.trace).poll) e in grind (arith, same_is, read_put, length-set, kept_put))
    (λ q m mine w f n e i j g r yy mm bb h.
    let z : kept_at (heard g w.trace).poll (awaiter_of w f) ≡ same (heard g w.trace).poll m =
    ap (kept_at (heard g w.trace).poll) e in grind (arith, same_is, read_put, length-set, kept_put)))

pub awaits-end_notify : (b : Bool) (old : Option Awaiter) (mine : Bool) (w : World) (f : ℕ) → (b ≡ true → mine ≡ true) →
    awaiter_of w f ≡ old → f < length w.tasks → f < length w.awaiters →
    KeepsAwaits w (Op.Handle (HandleOp.EndNotify f mine) ∷ []) (end_notified b old w f)
awaits-end_notify b None mine w f n e i j = awaits-end_notify-none b mine w f e i j
awaits-end_notify b (Some x) mine w f n e i j = awaits-end_notify-some b x.waker x.poll mine w f n e i j

awaits-call_outside : (p : ℕ) (w : World) (f x k : ℕ) →
    KeepsAwaits w (Op.Waker (WakerOp.CallAwaiter f (Outside x) k) ∷ []) (call_awaiter p w f (Outside x) k)
awaits-call_outside p w f x k g r yy mm bb h = grind (arith, same_is, heard-push)

-- the drop of the executor

pub awaits-take_out : (ls ws : List ℕ) (w : World) → w.table ≡ ls →
    KeepsAwaits w (Op.Closing ClosingOp.TakeOut ∷ [])
    (done (record w { table = w.leaving; leaving = w.table }) (closing_ops ls ws))
awaits-take_out = by_list _
    (by_list _
    (λ w e g r yy mm bb h. grind arith)
    (λ x ws w e g r yy mm bb h. grind arith))
    (λ x ls ws w e g r yy mm bb h. grind arith)

awaits-drop_next : (rest ws : List ℕ) (p : ℕ) (w : World) (f : ℕ) → w.leaving ≡ f ∷ rest →
    KeepsAwaits w (Op.Closing ClosingOp.DropNext ∷ [])
    (done (log (record w { leaving = rest; waking = w.waking ++ f ∷ []; inside = slice_set w.inside f false })
    (Event.Dropped p f)) (Op.User (UserOp.Drop f) ∷ closing_ops rest ws))
awaits-drop_next = by_list _
    (by_list _
    (λ p w f e g r yy mm bb h. grind (arith, same_is, times-append, heard-push))
    (λ y ws p w f e g r yy mm bb h. grind (arith, same_is, times-append, heard-push)))
    (λ y ls ws p w f e g r yy mm bb h. grind (arith, same_is, times-append, heard-push))

-- the wake itself, without what the executor's drop does then
awaits-wake_left : (o b c : Bool) (rest : List ℕ) (p : ℕ) (w : World) (f : ℕ) → w.waking ≡ f ∷ rest →
    (moves.is_over (task w f) || (task w f).scheduled) ≡ b → (task w f).running ≡ c → f < length w.tasks →
    KeepsAwaits w (Op.Closing ClosingOp.WakeNext ∷ []) (woken_by o b c p (record w { waking = rest }) f)
awaits-wake_left = by_bool _
    (by_bool _
    (λ c rest p w f y e q i g r yy mm bb h. let z : times g w.waking ≡ same g f + times g rest = ap (times g) y in
    let k : IsMarked (task w f) = marked (task w f) e in grind (arith, same_is, read_put, length-set, heard-push))
    (by_bool _
    (λ rest p w f y e q i g r yy mm bb h. let z : times g w.waking ≡ same g f + times g rest = ap (times g) y in
    grind (arith, same_is, read_put, length-set, heard-push))
    (λ rest p w f y e q i g r yy mm bb h. let z : times g w.waking ≡ same g f + times g rest = ap (times g) y in
    let k : IsUnmarked (task w f) = unmarked (task w f) e in
    grind (arith, same_is, read_put, length-set, heard-push))))
    (by_bool _
    (λ c rest p w f y e q i g r yy mm bb h. let z : times g w.waking ≡ same g f + times g rest = ap (times g) y in
    let k : IsMarked (task w f) = marked (task w f) e in grind (arith, same_is, read_put, length-set, heard-push))
    (by_bool _
    (λ rest p w f y e q i g r yy mm bb h. let z : times g w.waking ≡ same g f + times g rest = ap (times g) y in
    grind (arith, same_is, read_put, length-set, heard-push))
    (λ rest p w f y e q i g r yy mm bb h. let z : times g w.waking ≡ same g f + times g rest = ap (times g) y in
    let k : IsUnmarked (task w f) = unmarked (task w f) e in
    grind (arith, same_is, read_put, length-set, heard-push))))

awaits-wake_next : (o b c : Bool) (rest : List ℕ) (p : ℕ) (w : World) (f : ℕ) → w.waking ≡ f ∷ rest →
    (moves.is_over (task w f) || (task w f).scheduled) ≡ b → (task w f).running ≡ c → f < length w.tasks →
    KeepsAwaits w (Op.Closing ClosingOp.WakeNext ∷ []) (next_woken o b c rest p w f)
awaits-wake_next o b c rest p w f y e q i g r yy mm bb h =
    let d : Done = woken_by o b c p (record w { waking = rest }) f in
    subst (λ (x : Pend × Awaiting). Awaits d.world g x.0 x.1 mm)
    (λ j. (sym (with_ops-closing g d.next rest r) j, sym (with_awaiting-closing g d.next rest yy) j))
    (awaits-wake_left o b c rest p w f y e q i g r yy mm bb h)

-- a leak of the executor

awaits-leaked : (p f : ℕ) (w : World) (g : ℕ) (r : Pend) (yy : Awaiting) (mm : Mark) → Awaits w g r yy mm →
    Awaits (log w (Event.Leaked p f)) g r yy mm
awaits-leaked p f w g r yy mm h = grind (arith, heard-push)

awaits-leak_next : (o b c : Bool) (rest : List ℕ) (p : ℕ) (w : World) (f : ℕ) → w.waking ≡ f ∷ rest →
    (moves.is_over (task w f) || (task w f).scheduled) ≡ b → (task w f).running ≡ c → f < length w.tasks →
    KeepsAwaits w (Op.Closing ClosingOp.LeakNext ∷ [])
    (leaked p f (followed (woken_by o b c p (record w { waking = rest }) f) (leaking_ops rest)))
awaits-leak_next o b c rest p w f y e q i g r yy mm bb h =
    let d : Done = woken_by o b c p (record w { waking = rest }) f in
    subst (λ (x : Pend × Awaiting). Awaits (log d.world (Event.Leaked p f)) g x.0 x.1 mm)
    (λ j. (sym (with_ops-leaking g d.next rest r) j, sym (with_awaiting-leaking g d.next rest yy) j))
    (awaits-leaked p f d.world g _ _ mm (awaits-wake_left o b c rest p w f y e q i g r yy mm bb h))

pub awaits-leak_first : (b : Bool) (p : ℕ) (w : World) (q : List ℕ) → w.waking ≡ q →
    ((f : ℕ) (rest : List ℕ) → q ≡ f ∷ rest → f < length w.tasks) →
    KeepsAwaits w (Op.Closing ClosingOp.LeakNext ∷ []) (leak_next_by b p w q)
awaits-leak_first true p w q e i = λ g r yy mm bb h. grind arith
awaits-leak_first false p w [] e i = λ g r yy mm bb h. grind arith
awaits-leak_first false p w (f ∷ rest) e i =
    awaits-leak_next (moves.is_over (task w f)) _ _ rest p w f e refl refl (i f rest refl)

awaits-leaks : (q : List ℕ) (w : World) → w.is_static ≡ false → KeepsAwaits w (Op.Closing ClosingOp.LeakOut ∷ [])
    (done (record w { is_static = true; waking = w.waking ++ w.table }) (leaking_ops q))
awaits-leaks [] w e g r yy mm bb h = grind (arith, times-append)
awaits-leaks (x ∷ q) w e g r yy mm bb h = grind (arith, times-append)

pub awaits-leak_out : (s n : Bool) (w : World) → w.is_static ≡ s →
    KeepsAwaits w (Op.Closing ClosingOp.LeakOut ∷ []) (leak_out_by (s || n) w)
awaits-leak_out true n w e = λ g r yy mm bb h. grind arith
awaits-leak_out false true w e = λ g r yy mm bb h. grind arith
awaits-leak_out false false w e = awaits-leaks (w.waking ++ w.table) w e

pub awaits-close : (mark : of_mark.Mark) (w : World) → KeepsAwaits w (Op.Closing (ClosingOp.Close mark) ∷ []) (close w mark)
awaits-close Urgent w g r yy mm bb h = grind arith
awaits-close Plain w g r yy mm bb h = grind arith

pub awaits-drain : (mark : of_mark.Mark) (q : List ℕ) (p : ℕ) (w : World) → (queue_of w mark).items ≡ q →
    KeepsAwaits w (Op.Closing (ClosingOp.Drain mark) ∷ []) (drain_by p w mark q)
awaits-drain Urgent [] p w e g r yy mm bb h = grind arith
awaits-drain Plain [] p w e g r yy mm bb h = grind (arith, heard-push)
awaits-drain mark (f ∷ rest) p w e g r yy mm bb h =
    let z = times-first g f rest mark w.queues e in grind (arith, same_is)

-- the answers of user code
pub awaits-pending : (p : ℕ) (w : World) (f : ℕ) →
    KeepsAwaits w (Op.User (UserOp.Poll f) ∷ [])
    (done (log w (Event.Answered p f answer.Pending)) (Op.Table (TableOp.PutBack f) ∷ []))
awaits-pending p w f g r yy mm bb h = grind (arith, same_is, heard-push)

pub awaits-ready : (p : ℕ) (w : World) (f : ℕ) →
    KeepsAwaits w (Op.User (UserOp.Poll f) ∷ [])
    (done (log w (Event.Answered p f answer.Ready)) (Op.User (UserOp.BeginDrop f) ∷ Op.Move Move.EndReady f ∷ []))
awaits-ready p w f g r yy mm bb h = grind (arith, same_is, heard-push)

pub awaits-end_register_by : (b : Bool) (w : World) (f : ℕ) (a : Waker) (k : ℕ) → (task w f).notifying ≡ b →
    f < length w.tasks → f < length w.awaiters →
    KeepsAwaits w (Op.Handle (HandleOp.EndRegister f a k) ∷ []) (end_register_by b w f a k)
awaits-end_register_by true w f a k n i j = awaits-end_register true _ w f a k n refl i j
awaits-end_register_by false w f a k n i j = awaits-end_register false _ w f a k n refl i j

pub both-true : (a b : Bool) → (a && b) ≡ true → a ≡ true
both-true true b e = refl
both-true false b e = absurd (cc)

pub awaits-wake_first : (p : ℕ) (w : World) (q : List ℕ) → w.waking ≡ q →
    ((f : ℕ) (rest : List ℕ) → q ≡ f ∷ rest → f < length w.tasks) →
    KeepsAwaits w (Op.Closing ClosingOp.WakeNext ∷ []) (wake_next_by p w q)
awaits-wake_first = λ p w. by_list _
    (λ e i. λ g r yy mm bb h. grind arith)
    (λ f rest e i. awaits-wake_next (moves.is_over (task w f)) _ _ rest p w f e refl refl (i f rest refl))

pub awaits-drop_first : (p : ℕ) (w : World) (q : List ℕ) → w.leaving ≡ q →
    KeepsAwaits w (Op.Closing ClosingOp.DropNext ∷ []) (drop_next_by p w q)
awaits-drop_first = λ p w. by_list _
    (λ e. λ g r yy mm bb h. grind arith)
    (λ f rest e. awaits-drop_next rest (w.waking ++ f ∷ []) p w f e)

pub awaits-cancel : (b c : Bool) (p : ℕ) (w : World) (f : ℕ) → moves.is_over (task w f) ≡ b →
    moves.is_going (task w f) ≡ c → f < length w.tasks →
    KeepsAwaits w (Op.Move Move.Cancel f ∷ [])
    (carried (log_if (not b) w (Event.Cancelled p f)) f (moves.cancel_by b c (task w f)))
awaits-cancel true c p w f e q i = awaits-cancel_over false p w f i
awaits-cancel false true p w f e q i = awaits-cancel_going _ p w f refl q i
awaits-cancel false false p w f e q i = awaits-cancel_idle _ p w f refl e q i

abbrev pub is_answer : Option Answer → Bool
is_answer (Some a) = true
is_answer None = false

pub awaits-look : (x k c : Bool) (p : ℕ) (w : World) (f : ℕ) (a : Waker) → (task w f).completed ≡ c →
    f < length w.tasks → KeepsBy w (Op.Handle (HandleOp.Look f a) ∷ [])
    (look_by (moves.poll_by x k c (task w f)).owed.answer p w f a (moves.poll_by x k c (task w f)))
    (asks_if (is_answer (moves.poll_by x k c (task w f)).owed.answer) p f)
awaits-look true true c p w f a e i = awaits-look_on w f a
awaits-look true false c p w f a e i = awaits-look_closed p w f a i
awaits-look false k false p w f a e i = awaits-look_on w f a
awaits-look false k true p w f a e i = awaits-look_given _ p w f a e i

pub awaits-again : (x k c : Bool) (p : ℕ) (w : World) (f : ℕ) → (task w f).closed ≡ x → moves.is_going (task w f) ≡ k →
    (task w f).completed ≡ c → f < length w.tasks →
    KeepsAwaits w (Op.Handle (HandleOp.LookAgain f) ∷ [])
    (look_again_by (moves.look_again_by x k c (task w f)).owed.answer p w f (moves.look_again_by x k c (task w f)))
awaits-again = by_bool _
    (by_bool _
    (λ c p w f x k e i. awaits-again_waits p w f
    (let z : ((task w f).scheduled ≡ true) ⊎ ((task w f).running ≡ true) = grind (arith, nat_tests) in inl z) i)
    (λ c p w f x k e i. awaits-again_closed p w f i))
    (λ k. by_bool _
    (λ p w f x q e i. awaits-again_given _ p w f e i)
    (λ p w f x q e i. awaits-again_waits p w f (inr (x, e)) i))

pub awaits-call : (p : ℕ) (w : World) (f : ℕ) (a : Waker) (k : ℕ) →
    past (length w.tasks) f + waker_past (length w.tasks) a ≡ 0 →
    KeepsAwaits w (Op.Waker (WakerOp.CallAwaiter f a k) ∷ []) (call_awaiter p w f a k)
awaits-call p w f (Task m) k z =
    awaits-call_task (moves.is_over (task w m)) _ _ p f k w m refl refl (below _ m (omega (arith, z)))
awaits-call p w f (Outside x) k z = awaits-call_outside p w f x k
