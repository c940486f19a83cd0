-- For one_runnable and references_are_counted.
-- Each thing that is done leaves numbers that are futures'.
use Rattle.std.proofs.Common.{◌≡◌, ℕ, ◌+◌, ◌≤◌, ◌<◌, List, [], ◌∷◌, ◌++◌, length, Bool, true, false, not, ◌&&◌, set, refl}
use Rattle.std.proofs.Common.{sym, ap, ◌∙◌, subst, arith, length-append}
use Rattle.std.proofs.Math.ListN.{length-set}
use Rattle.std.specs.Prelude.{Option, Some, None, slice_set}
use Rattle.task_moves.{specs.declared.moves.owed.Answer.Answer, specs.declared.moves.owed.AwaiterDebt.AwaiterDebt}
use Rattle.executor_model.proofs.Types.{Plain, Urgent, First, Second, Look, Mark, State, Moved, Owed, Move, Event, Awaiter}
use Rattle.executor_model.proofs.Types.{Waker, Task, Outside, Hold, Polled, Op, ClosingOp, HandleOp, QueueOp, TableOp, WakerOp}
use Rattle.executor_model.specs.Acts.{mark_in, is_last_waker, is_told, let_go_by, move_by, told_as, told_of, append_by, take_by}
use Rattle.executor_model.specs.Acts.{enter_by, leave_by, copy_by, answered, polled, look_by, look_again_by, copy_awaiter_by}
use Rattle.executor_model.specs.Acts.{register_by, end_register_by, notify_by, end_notify, told, let_go, waker_goes}
use Rattle.executor_model.specs.Acts.{call_awaiter, closing_ops, drop_next_by, wake_next_by, drain_by, followed, wake, reply_of}
use Rattle.executor_model.specs.World.{queue_of, World, Done, done, log, log_if, task, put, awaiter_of, put_awaiter, among}
use Rattle.executor_model.specs.Acts.{is_output, leak_next_by, leak_out_by, leaked, leaking_ops}
use Rattle.executor_model.specs.{Carried.awaiter_ops, Carried.owed_ops, Carried.carried, Weights.weigh, Weights.past}
use Rattle.executor_model.specs.{Weights.waker_past, Good.pasts, Good.awaiters_past, Good.Fits, Rows.past_of}
use Rattle.executor_model.proofs.Steps.Cases.{by_bool, by_waker}
use Rattle.executor_model.proofs.Steps.Owed.{owed-future, owed-awaiter, owed-nothing}
use Rattle.executor_model.proofs.Steps.Lists.{past_is, awaiters_past-set, past_if, weigh-append}
use Rattle.executor_model.proofs.{Steps.QueuesByMark.pasts-first, Types.Hint}
use Rattle.task_moves.specs.Moves as moves

-- each future has its place in each list
pub record Shaped (w : World) : Type 0 where
  pub awaiting : length w.awaiters ≡ length w.tasks
  pub inside : length w.inside ≡ length w.tasks

pub shaped : (w : World) → Fits w → Shaped w
shaped w h = record { awaiting = h.awaiting; inside = h.inside }

-- so it has after it, the new things to do speak of futures that are there, and no future went
pub record Grown (w : World) (d : Done) : Type 0 where
  pub fits : Shaped d.world
  pub next : weigh (past_of (length d.world.tasks)) d.next ≡ 0
  pub more : length w.tasks ≤ length d.world.tasks

abbrev pub Grows : World → List Op → Done → Type 0
Grows w old d = Fits w → weigh (past_of (length w.tasks)) old ≡ 0 → Grown w d

-- what a move owes is its own future's
module _ (n f : ℕ) (z : past n f ≡ 0) where
  pub past_awaiter : (d : Option AwaiterDebt) → weigh (past_of n) (awaiter_ops f d) ≡ 0
  past_awaiter d = owed-awaiter (past_of n) f (record { notify = λ m. z }) d

  pub past_owed : (b : Bool) (o : Owed) → weigh (past_of n) (owed_ops b f o) ≡ 0
  past_owed b o = owed-nothing (past_of n) f
      (record { append = z; output = refl; release = z; settle_closed = z; give_up = z; end_closed = z; detach = z; let_go = z }) b
      o (owed-future (past_of n) f (record { poll = z; drop = z }) b o.future) (past_awaiter o.awaiter)

pub fits-log : (b : Bool) (w : World) (e : Event) → Shaped w → Shaped (log_if b w e)
fits-log true w e h = record { awaiting = h.awaiting; inside = h.inside }
fits-log false w e h = h

pub same-log : (b : Bool) (w : World) (e : Event) → length (log_if b w e).tasks ≡ length w.tasks
same-log true w e = refl
same-log false w e = refl

fits-put : (w : World) (f : ℕ) (s : State) → Shaped w → Shaped (put w f s)
fits-put w f s h = grind (arith, length-set {A = State})

pub grows-carried : (w v : World) (f : ℕ) (m : Moved) → length v.tasks ≡ length w.tasks → Shaped v →
    past (length w.tasks) f ≡ 0 → Grown w (carried v f m)
grows-carried w v f m l h z =
    let q : length (set v.tasks f m.state) ≡ length w.tasks = length-set v.tasks f m.state ∙ l in
    record {
      fits = fits-put v f m.state h;
      next = subst (λ n. weigh (past_of n) (owed_ops (among f v.table) f m.owed) ≡ 0) (sym q)
          (past_owed (length w.tasks) f z (among f v.table) m.owed);
      more = omega (arith, q);
    }

below : (n f : ℕ) → past n f ≡ 0 → f < n
below n f e = grind (arith, past_is)

pub grows-append : (b : Bool) (w : World) (mark : Mark) (f : ℕ) → Grows w (Op.Queue (QueueOp.Append f) ∷ []) (append_by b w mark f)
grows-append = by_bool _
    (λ w mark f h k. grind arith)
    (λ w mark f h k. grind arith)

pub grows-take : (look : Look) (q : List ℕ) (w : World) → (queue_of w (mark_in look)).items ≡ q →
    Grows w (Op.Queue (QueueOp.Take look) ∷ []) (take_by w look q)
grows-take (First mark) [] w e h k = grind arith
grows-take (Second mark) [] w e h k = grind arith
grows-take look (f ∷ rest) w e h k =
    let z = pasts-first (length w.tasks) f rest (mark_in look) w.queues e in grind arith

pub grows-enter : (b c : Bool) (mark : Mark) (p : ℕ) (w : World) → Grows w (Op.Table (TableOp.Enter mark) ∷ []) (enter_by b c mark p w)
grows-enter = by_bool _
    (λ c mark p w h k. grind arith)
    (by_bool _
    (λ mark p w h k. grind arith)
    (λ mark p w h k. grind (
      arith,
      past_is,
      length-append {A = State},
      length-append {A = Bool},
      length-append {A = Option Awaiter},
    )))

pub grows-inside : (w : World) (f : ℕ) (b : Bool) (old next : List Op) → weigh (past_of (length w.tasks)) next ≡ 0 →
    Fits w → Grown w (done (record w { inside = slice_set w.inside f b }) next)
grows-inside w f b old next z h = record {
  fits = record { awaiting = h.awaiting; inside = length-set w.inside f b ∙ h.inside };
  next = z;
  more = omega arith;
}

pub grows-leave : (b : Bool) (w : World) (f : ℕ) → Grows w (Op.Table (TableOp.LeaveTable f) ∷ []) (leave_by b w f)
grows-leave = by_bool _
    (λ w f h k. grind arith)
    (λ w f h k. grind arith)

pub grows-copy : (b : Bool) (w : World) (f : ℕ) (held : Hold) →
    Grows w (Op.Waker (WakerOp.CopyWaker f held) ∷ []) (copy_by b w f held)
grows-copy = by_bool _
    (λ w f held h k. grind arith)
    (λ w f held h k. grind (arith, length-set {A = State}))

grows-answered : (w v : World) (p f : ℕ) (m : Moved) (a : Answer) → length v.tasks ≡ length w.tasks → Shaped v →
    past (length w.tasks) f ≡ 0 → Grown w (answered p v f m a)
grows-answered w v p f m a l h z =
    let q : length (set v.tasks f m.state) ≡ length w.tasks = length-set v.tasks f m.state ∙ l in
    let q2 : length (answered p v f m a).world.tasks ≡ length w.tasks =
    same-log (is_output a) (put v f m.state) (Event.OutputGiven p f) ∙ q in
    record {
      fits = fits-log (is_output a) (put v f m.state) (Event.OutputGiven p f) (fits-put v f m.state h);
      next = subst (λ n. weigh (past_of n) (answered p v f m a).next ≡ 0) (sym q2)
          (omega (
            arith,
            weigh-append (past_of (length w.tasks)) (awaiter_ops f m.owed.awaiter)
                (Op.End (reply_of a) (Hold.Handle f) ∷ []),
            past_awaiter (length w.tasks) f z m.owed.awaiter,
          ));
      more = omega (arith, q2);
    }

pub grows-look : (a : Option Answer) (p : ℕ) (w : World) (f : ℕ) (x : Waker) (m : Moved) →
    Grows w (Op.Handle (HandleOp.Look f x) ∷ []) (look_by a p w f x m)
grows-look None p w f x m h k = grind arith
grows-look (Some a) p w f x m h k =
    grows-answered w (polled p w f) p f m a refl (fits-log true w (Event.HandlePolled p f) (shaped w h)) (omega (arith, k))

pub grows-again : (a : Option Answer) (p : ℕ) (w : World) (f : ℕ) (m : Moved) →
    Grows w (Op.Handle (HandleOp.LookAgain f) ∷ []) (look_again_by a p w f m)
grows-again None p w f m h k = grind arith
grows-again (Some a) p w f m h k = grows-answered w w p f m a refl (shaped w h) (omega (arith, k))

pub grows-copy_awaiter : (b : Bool) (p : ℕ) (w : World) (f : ℕ) (x : Waker) →
    Grows w (Op.Handle (HandleOp.CopyAwaiter f x) ∷ []) (copy_awaiter_by b p w f x)
grows-copy_awaiter = by_bool _
    (λ p w f x h k. grind arith)
    (λ p w f. by_waker _
    (λ g h k. grind (arith, length-set {A = State}))
    (λ x h k. grind arith))

pub grows-register : (b : Bool) (w : World) (f : ℕ) (x : Waker) (k : ℕ) →
    Grows w (Op.Handle (HandleOp.Register f x k) ∷ []) (register_by b w f x k)
grows-register = by_bool _
    (λ w f x k h z. grind (arith, length-set {A = State}))
    (λ w f x k h z. grind (arith, length-set {A = State}))

pub past_goes : (n : ℕ) (a : Waker) → weigh (past_of n) (waker_goes a) ≡ waker_past n a
past_goes n (Task g) = omega arith
past_goes n (Outside x) = refl

past_let_go : (n : ℕ) (a : Option Awaiter) → weigh (past_of n) (let_go a) ≡ past_if n a
past_let_go n None = refl
past_let_go n (Some a) = past_goes n a.waker

-- an awaiter is stored in the place of another
grows-awaiter : (w : World) (f : ℕ) (s : State) (a : Option Awaiter) (next : List Op) → f < length w.awaiters → Fits w →
    past_if (length w.tasks) a ≡ 0 →
    (past_if (length w.tasks) (awaiter_of w f) ≡ 0 → weigh (past_of (length w.tasks)) next ≡ 0) →
    Grown w (done (put_awaiter (put w f s) f a) next)
grows-awaiter w f s a next i h z n =
    let q : length (set w.tasks f s) ≡ length w.tasks = length-set w.tasks f s in
    let l : length (set w.awaiters f a) ≡ length w.awaiters = length-set w.awaiters f a in
    let e : awaiters_past (length w.tasks) (set w.awaiters f a) + past_if (length w.tasks) (awaiter_of w f)
    ≡ awaiters_past (length w.tasks) w.awaiters + past_if (length w.tasks) a =
    awaiters_past-set (length w.tasks) f a w.awaiters i in
    let fp = fits-put w f s (shaped w h) in
    record {
      fits = record { awaiting = l ∙ fp.awaiting; inside = fp.inside };
      next = subst (λ m. weigh (past_of m) next ≡ 0) (sym q) (n (omega (arith, e, h.awaiters, z)));
      more = omega (arith, q);
    }

pub grows-end_register : (b : Bool) (w : World) (f : ℕ) (x : Waker) (k : ℕ) →
    Grows w (Op.Handle (HandleOp.EndRegister f x k) ∷ []) (end_register_by b w f x k)
grows-end_register true w f x k h z =
    let n = length w.tasks in
    let i : f < n = below n f (omega (arith, z)) in
    let none : Option Awaiter = None in
    grows-awaiter w f _ none _ (omega (arith, i, h.awaiting)) h refl
    (λ y. omega (
      arith,
      y,
      z,
      weigh-append (past_of n) (let_go (awaiter_of w f)) (Op.Handle (HandleOp.LookAgain f) ∷ []),
      past_let_go n (awaiter_of w f),
    ))
grows-end_register false w f x k h z =
    let n = length w.tasks in
    let i : f < n = below n f (omega (arith, z)) in
    let some : Option Awaiter = Some (record { waker = x; poll = k }) in
    grows-awaiter w f _ some _ (omega (arith, i, h.awaiting)) h (omega (arith, z))
    (λ y. omega (
      arith,
      y,
      z,
      weigh-append (past_of n) (let_go (awaiter_of w f)) (Op.Handle (HandleOp.LookAgain f) ∷ []),
      past_let_go n (awaiter_of w f),
    ))

pub grows-notify : (b m : Bool) (w : World) (f : ℕ) →
    Grows w (Op.Handle (HandleOp.Notify f m) ∷ []) (notify_by b w f m)
grows-notify = by_bool _
    (λ m w f h k. grind (arith, length-set {A = State}))
    (λ m w f h k. grind (arith, length-set {A = State}))

past_told : (n f : ℕ) (b : Bool) (a : Option Awaiter) → past n f ≡ 0 → past_if n a ≡ 0 →
    weigh (past_of n) (told b f a) ≡ 0
past_told n f b None z e = refl
past_told n f true (Some a) z e = past_goes n a.waker ∙ e
past_told n f false (Some a) z e = omega (arith, z, e)

pub grows-end_notify : (c : Hint) (m : Bool) (w : World) (f : ℕ) →
    Grows w (Op.Handle (HandleOp.EndNotify f m) ∷ []) (end_notify c w f m)
grows-end_notify c m w f h z =
    let n = length w.tasks in
    let i : f < n = below n f (omega (arith, z)) in
    let none : Option Awaiter = None in
    grows-awaiter w f _ none _ (omega (arith, i, h.awaiting)) h refl
    (λ y. past_told n f (m && c.same) (awaiter_of w f) (omega (arith, z)) y)

pub grows-let_go : (b : Bool) (w : World) (f : ℕ) → Grows w (Op.Handle (HandleOp.LetGo f) ∷ []) (let_go_by b w f)
grows-let_go true w f h z = grind arith
grows-let_go false w f h z =
    let n = length w.tasks in
    let i : f < n = below n f (omega (arith, z)) in
    let none : Option Awaiter = None in
    grows-awaiter w f _ none _ (omega (arith, i, h.awaiting)) h refl
    (λ y. omega (arith, past_let_go n (awaiter_of w f), y))

pub grows-call : (p : ℕ) (w : World) (f : ℕ) (x : Waker) (k : ℕ) →
    Grows w (Op.Waker (WakerOp.CallAwaiter f x k) ∷ []) (call_awaiter p w f x k)
grows-call = λ p w f. by_waker _
    (λ g k h z. let v = log w (Event.WakerCalled p (Polled.Handle f) k (Task g)) in
    let b = not (moves.is_over (task w g)) in
    grows-carried w (log_if b v (Event.Woken p g)) g (moves.wake (task w g)) (same-log b v (Event.Woken p g))
    (fits-log b v (Event.Woken p g) (fits-log true w (Event.WakerCalled p (Polled.Handle f) k (Task g)) (shaped w h)))
    (omega (arith, z)))
    (λ x k h z. grind arith)

pub past_closing : (n : ℕ) (ls ws : List ℕ) → weigh (past_of n) (closing_ops ls ws) ≡ 0
past_closing n (f ∷ fs) ws = refl
past_closing n [] (f ∷ ws) = refl
past_closing n [] [] = refl

pub grows-drop_next : (p : ℕ) (w : World) (q : List ℕ) → w.leaving ≡ q →
    Grows w (Op.Closing ClosingOp.DropNext ∷ []) (drop_next_by p w q)
grows-drop_next p w [] e h k = grind arith
grows-drop_next p w (f ∷ rest) e h k =
    let n = length w.tasks in
    let z : past n f + pasts n rest ≡ 0 = sym (ap (pasts n) e) ∙ h.leaving in
    record {
      fits = record { awaiting = h.awaiting; inside = length-set w.inside f false ∙ h.inside };
      next = omega (arith, past_closing n rest (w.waking ++ f ∷ []), z);
      more = omega arith;
    }

grows-followed : (w : World) (d : Done) (ls ws : List ℕ) → Grown w d → Grown w (followed d (closing_ops ls ws))
grows-followed w d ls ws g =
    record {
      fits = g.fits;
      next =
          omega (
            arith,
            weigh-append (past_of (length d.world.tasks)) d.next (closing_ops ls ws),
            past_closing (length d.world.tasks) ls ws,
            g.next,
          );
      more = g.more;
    }

past_leaking : (n : ℕ) (ws : List ℕ) → weigh (past_of n) (leaking_ops ws) ≡ 0
past_leaking n [] = refl
past_leaking n (f ∷ ws) = refl

pub grows-leak_out : (b : Bool) (w : World) → Grows w (Op.Closing ClosingOp.LeakOut ∷ []) (leak_out_by b w)
grows-leak_out true w h k = grind arith
grows-leak_out false w h k = record {
  fits = record { awaiting = h.awaiting; inside = h.inside };
  next = past_leaking (length w.tasks) (w.waking ++ w.table);
  more = omega arith;
}

grows-leaked : (w : World) (d : Done) (p f : ℕ) (ws : List ℕ) → Grown w d →
    Grown w (leaked p f (followed d (leaking_ops ws)))
grows-leaked w d p f ws g = record {
  fits = record { awaiting = g.fits.awaiting; inside = g.fits.inside };
  next =
      omega (
        arith,
        weigh-append (past_of (length d.world.tasks)) d.next (leaking_ops ws),
        past_leaking (length d.world.tasks) ws,
        g.next,
      );
  more = g.more;
}

pub grows-leak_next : (c : Bool) (p : ℕ) (w : World) (q : List ℕ) → w.waking ≡ q →
    Grows w (Op.Closing ClosingOp.LeakNext ∷ []) (leak_next_by c p w q)
grows-leak_next true p w q e h k = grind arith
grows-leak_next false p w [] e h k = grind arith
grows-leak_next false p w (f ∷ rest) e h k =
    let n = length w.tasks in
    let z : past n f + pasts n rest ≡ 0 = sym (ap (pasts n) e) ∙ h.waking in
    let v : World = record w { waking = rest } in
    let b = not (moves.is_over (task w f)) in
    let fv : Shaped v = record { awaiting = h.awaiting; inside = h.inside } in
    grows-leaked w (wake p v f) p f rest
    (grows-carried w (log_if b v (Event.Woken p f)) f (moves.wake (task w f)) (same-log b v (Event.Woken p f))
    (fits-log b v (Event.Woken p f) fv) (omega (arith, z)))

pub grows-wake_next : (p : ℕ) (w : World) (q : List ℕ) → w.waking ≡ q →
    Grows w (Op.Closing ClosingOp.WakeNext ∷ []) (wake_next_by p w q)
grows-wake_next p w [] e h k = grind arith
grows-wake_next p w (f ∷ rest) e h k =
    let n = length w.tasks in
    let z : past n f + pasts n rest ≡ 0 = sym (ap (pasts n) e) ∙ h.waking in
    let v : World = record w { waking = rest } in
    let b = not (moves.is_over (task w f)) in
    let fv : Shaped v = record { awaiting = h.awaiting; inside = h.inside } in
    grows-followed w (wake p v f) [] rest
    (grows-carried w (log_if b v (Event.Woken p f)) f (moves.wake (task w f)) (same-log b v (Event.Woken p f))
    (fits-log b v (Event.Woken p f) fv) (omega (arith, z)))

pub grows-drain : (mark : Mark) (q : List ℕ) (p : ℕ) (w : World) → (queue_of w mark).items ≡ q →
    Grows w (Op.Closing (ClosingOp.Drain mark) ∷ []) (drain_by p w mark q)
grows-drain Urgent [] p w e h k = grind arith
grows-drain Plain [] p w e h k = grind arith
grows-drain mark (f ∷ rest) p w e h k = let z = pasts-first (length w.tasks) f rest mark w.queues e in grind arith

pub grows-same : (w : World) (os : List Op) → Grows w os (done w os)
grows-same w os h k = grind arith

pub grows-logged : (w : World) (e : Event) (next : List Op) → weigh (past_of (length w.tasks)) next ≡ 0 → Fits w →
    Grown w (done (log w e) next)
grows-logged w e next z h = record { fits = fits-log true w e (shaped w h); next = z; more = omega arith }

-- a move, and the events that it has
pub grows-move : (b : Bool) (m : Move) (p : ℕ) (w : World) (f : ℕ) → Grows w (Op.Move m f ∷ []) (move_by b m p w f)
grows-move true m p w f h k =
    let a = told_as m p f in
    let c = is_told m (task w f) in
    let l = is_last_waker m (task w f) in
    grows-carried w (told_of l c m p w f) f (moves.after m (task w f))
    (same-log l (log_if c w a) (Event.LastWaker p f) ∙ same-log c w a)
    (fits-log l (log_if c w a) (Event.LastWaker p f) (fits-log c w a (shaped w h))) (omega (arith, k))
grows-move false m p w f h k = grind arith
