-- For awaiters_are_kept.
-- The queue, the table and the moves of a task keep what holds of each future and of who waits on its handle.
use Rattle.std.proofs.Common.{◌≡◌, ℕ, ◌<◌, List, [], ◌∷◌, length, Bool, true, false, ◌||◌, ◌&&◌, not, eqb, arith}
use Rattle.std.{proofs.lemmas.Bool.Decides.nat_tests, proofs.lemmas.List.length-set, proofs.lemmas.List.length-append}
use Rattle.executor_model.proofs.Types.{First, Second, Look, Moved, Event, Task, Polled, Op, Move, QueueOp, TableOp, UserOp}
use Rattle.executor_model.specs.Acts.{mark_in, take_turn, append_by, take_by, enter_by, take_to_poll, put_back, take_to_drop}
use Rattle.executor_model.specs.World.{queue_of, World, log, log_if, task, among}
use Rattle.executor_model.specs.Acts.{leave_by, begin_drop, begin_drop_output}
use Rattle.executor_model.specs.{Carried.carried, Sound.Pend, Sound.with_ops}
use Rattle.executor_model.proofs.Counts.Counting.{settling, readied, pended, ending, dropping, taken_up, woken, woken_by}
use Rattle.executor_model.proofs.Awaiters.Awaited.{Awaiting, Mark, heard-push, with_awaiting, Footing, Awaits, KeepsAwaits}
use Rattle.executor_model.proofs.Steps.QueuesByMark.{times-last, times-first}
use Rattle.executor_model.proofs.Steps.Marks.{IsUnmarked, unmarked, IsGoing, going, IsIdle, idle, last-one, IsUnheld, unheld}
use Rattle.executor_model.proofs.Steps.Lists.{read_put, fresh_is, read_push, same_is, times-append}
use Rattle.executor_model.proofs.Counts.Counting.{cancel_going, cancel_idle, cancel_over, detached}
use Rattle.executor_model.proofs.{Types.WakerOp, Steps.Cases.by_bool, Awaiters.Awaited.kept_push}
use Rattle.executor_parts.specs.declared.mark.Mark as of_mark
use Rattle.task_moves.specs.Moves as moves

pub awaits-append : (b : Bool) (w : World) (mark : of_mark.Mark) (f : ℕ) →
    KeepsAwaits w (Op.Queue (QueueOp.Append f) ∷ []) (append_by b w mark f)
awaits-append = by_bool _
    (λ w mark f g r yy mm bb h. let z = times-last g f mark w.queues in grind (arith, same_is))
    (λ w mark f g r yy mm bb h. grind (arith, same_is))

-- a turn is an event that speaks of no future
pub awaits-turn : (p : ℕ) (w : World) →
    KeepsAwaits w (Op.Queue QueueOp.TakeTurn ∷ []) (take_turn p w (λ l. Op.Queue (QueueOp.Take l)))
awaits-turn p w g r yy mm bb h = grind (arith, heard-push)

pub awaits-take : (look : Look) (q : List ℕ) (w : World) → (queue_of w (mark_in look)).items ≡ q →
    KeepsAwaits w (Op.Queue (QueueOp.Take look) ∷ []) (take_by w look q)
awaits-take (First mark) [] w e g r yy mm bb h = grind arith
awaits-take (Second mark) [] w e g r yy mm bb h = grind arith
awaits-take look (f ∷ rest) w e g r yy mm bb h =
    let z = times-first g f rest (mark_in look) w.queues e in grind (arith, same_is)

pub awaits-enter : (b c : Bool) (mark : of_mark.Mark) (p : ℕ) (w : World) → length w.awaiters ≡ length w.tasks →
    KeepsAwaits w (Op.Table (TableOp.Enter mark) ∷ []) (enter_by b c mark p w)
awaits-enter = by_bool _
    (λ c mark p w l g r yy mm bb h. grind arith)
    (by_bool _
    (λ mark p w l g r yy mm bb h. grind arith)
    (λ mark p w l g r yy mm bb h.
    grind (arith, same_is, fresh_is, read_push, kept_push, times-append, length-append, heard-push)))

pub awaits-take_to_poll : (w : World) (f : ℕ) → KeepsAwaits w (Op.Table (TableOp.TakeToPoll f) ∷ []) (take_to_poll w f)
awaits-take_to_poll w f g r yy mm bb h = grind (arith, same_is)

pub awaits-put_back : (w : World) (f : ℕ) → KeepsAwaits w (Op.Table (TableOp.PutBack f) ∷ []) (put_back w f)
awaits-put_back w f g r yy mm bb h = grind (arith, same_is)

pub awaits-take_to_drop : (w : World) (f : ℕ) → KeepsAwaits w (Op.Table (TableOp.TakeToDrop f) ∷ []) (take_to_drop w f)
awaits-take_to_drop w f g r yy mm bb h = grind (arith, same_is)

pub awaits-leave : (b : Bool) (w : World) (f : ℕ) → among f w.table ≡ b →
    KeepsAwaits w (Op.Table (TableOp.LeaveTable f) ∷ []) (leave_by b w f)
awaits-leave = by_bool _
    (λ w f e g r yy mm bb h. grind (arith, same_is))
    (λ w f e g r yy mm bb h. h)

pub awaits-begin_drop : (p : ℕ) (w : World) (f : ℕ) →
    KeepsAwaits w (Op.User (UserOp.BeginDrop f) ∷ []) (begin_drop p w f)
awaits-begin_drop p w f g r yy mm bb h = grind (arith, same_is, heard-push)

pub awaits-begin_drop_output : (p : ℕ) (w : World) (f : ℕ) →
    KeepsAwaits w (Op.User (UserOp.BeginDropOutput f) ∷ []) (begin_drop_output p w f)
awaits-begin_drop_output p w f g r yy mm bb h = grind (arith, heard-push)

awaits-told : (g : ℕ) (w : World) (r : Pend) (y : Awaiting) (m : Mark) (p f : ℕ) → Awaits w g r y m →
    Awaits (log w (Event.LastWaker p f)) g r y m
awaits-told g w r y m p f h = grind (arith, heard-push)

-- that nobody is left who could wake a task changes nothing for who awaits it
pub awaits-last : (l : Bool) (p f : ℕ) (w v : World) (m : Moved) (old : List Op) → KeepsAwaits w old (carried v f m) →
    KeepsAwaits w old (carried (log_if l v (Event.LastWaker p f)) f m)
awaits-last true p f w v m old k g r yy mm bb h =
    let x : Awaits (carried v f m).world g (with_ops g (carried v f m).next r) (with_awaiting g (carried v f m).next yy) mm =
    k g r yy mm bb h in
    awaits-told g (carried v f m).world _ _ mm p f x
awaits-last false p f w v m old k g r yy mm bb h = k g r yy mm bb h

-- the moves of a task, by what they find

pub awaits-release : (b c : Bool) (w : World) (f : ℕ) → moves.is_last (task w f) ≡ b → moves.is_over (task w f) ≡ c →
    f < length w.tasks → KeepsAwaits w (Op.Move Move.Release f ∷ []) (carried w f (moves.release_by b c (task w f)))
awaits-release = by_bool _
    (by_bool _
    (λ w f e q i g r yy mm bb h. let z : (task w f).references ≡ 1 = last-one (task w f) e in
    grind (arith, same_is, read_put, length-set))
    (λ w f e q i g r yy mm bb h. let z : (task w f).references ≡ 1 = last-one (task w f) e in
    let c : (task w f).completed ≡ false = grind (arith, nat_tests) in grind (arith, same_is, read_put, length-set)))
    (λ c w f e q i g r yy mm bb h. grind (arith, same_is, read_put, length-set))

pub awaits-settle_closed : (a : Bool) (w : World) (f : ℕ) → (task w f).awaiter ≡ a → f < length w.tasks →
    KeepsAwaits w (Op.Move Move.SettleClosed f ∷ []) (settling a w f)
awaits-settle_closed = by_bool _
    (λ w f n i g r yy mm bb h. grind (arith, same_is, read_put, length-set))
    (λ w f n i g r yy mm bb h. grind (arith, same_is, read_put, length-set))

pub awaits-give_up : (b : Bool) (w : World) (f : ℕ) → moves.is_last (task w f) ≡ b → f < length w.tasks →
    KeepsAwaits w (Op.Move Move.GiveUp f ∷ []) (carried w f (moves.give_up_by b (task w f)))
awaits-give_up = by_bool _
    (λ w f e i g r yy mm bb h. let z : (task w f).references ≡ 1 = last-one (task w f) e in
    grind (arith, same_is, read_put, length-set))
    (λ w f e i g r yy mm bb h. grind (arith, same_is, read_put, length-set))

-- by whether the output is unwanted, and whether there is an awaiter

pub awaits-end_ready : (u a : Bool) (w : World) (f : ℕ) → ((task w f).closed || not (task w f).handle) ≡ u →
    (task w f).awaiter ≡ a → f < length w.tasks → KeepsAwaits w (Op.Move Move.EndReady f ∷ []) (readied u a w f)
awaits-end_ready = by_bool _
    (by_bool _
    (λ w f e n i g r yy mm bb h. grind (arith, same_is, read_put, length-set))
    (λ w f e n i g r yy mm bb h. grind (arith, same_is, read_put, length-set)))
    (by_bool _
    (λ w f e n i g r yy mm bb h. grind (arith, same_is, read_put, length-set))
    (λ w f e n i g r yy mm bb h. grind (arith, same_is, read_put, length-set)))

-- by whether it is closed, scheduled, its reference the last, and its entry in the table

pub awaits-end_pending : (x s l there : Bool) (w : World) (f : ℕ) → (task w f).closed ≡ x → (task w f).scheduled ≡ s →
    moves.is_last (task w f) ≡ l → among f w.table ≡ there → f < length w.tasks →
    KeepsAwaits w (Op.Move Move.EndPending f ∷ []) (pended x s l there w f)
awaits-end_pending = by_bool _
    (λ s l. by_bool _
    (λ w f e q k m i g r yy mm bb h. grind (arith, same_is, read_put, length-set))
    (λ w f e q k m i g r yy mm bb h. grind (arith, same_is, read_put, length-set)))
    (by_bool _
    (λ l there w f e q k m i g r yy mm bb h. grind (arith, same_is, read_put, length-set))
    (by_bool _
    (by_bool _
    (λ w f e q k m i g r yy mm bb h. let z : (task w f).references ≡ 1 = last-one (task w f) k in
    grind (arith, same_is, read_put, length-set))
    (λ w f e q k m i g r yy mm bb h. let z : (task w f).references ≡ 1 = last-one (task w f) k in
    grind (arith, same_is, read_put, length-set)))
    (λ there w f e q k m i g r yy mm bb h. grind (arith, same_is, read_put, length-set))))

pub awaits-end_closed : (a : Bool) (w : World) (f : ℕ) → (task w f).awaiter ≡ a → f < length w.tasks →
    KeepsAwaits w (Op.Move Move.EndClosed f ∷ []) (ending a w f)
awaits-end_closed = by_bool _
    (λ w f n i g r yy mm bb h. grind (arith, same_is, read_put, length-set))
    (λ w f n i g r yy mm bb h. grind (arith, same_is, read_put, length-set))

-- by whether its entry is in the table

pub awaits-drop_runnable : (c there : Bool) (w : World) (f : ℕ) → ((task w f).closed || not (task w f).completed) ≡ c →
    among f w.table ≡ there → f < length w.tasks →
    KeepsAwaits w (Op.Move Move.DropRunnable f ∷ []) (dropping c there w f)
awaits-drop_runnable = by_bool _
    (by_bool _
    (λ w f e m i g r yy mm bb h. grind (arith, nat_tests, same_is, read_put, length-set))
    (λ w f e m i g r yy mm bb h. grind (arith, nat_tests, same_is, read_put, length-set)))
    (by_bool _
    (λ w f e m i g r yy mm bb h. grind (arith, nat_tests, same_is, read_put, length-set))
    (λ w f e m i g r yy mm bb h. grind (arith, nat_tests, same_is, read_put, length-set)))

-- by whether it is closed, and its entry in the table

pub awaits-take_up : (b there : Bool) (p : ℕ) (w : World) (f : ℕ) → (task w f).closed ≡ b →
    among f (log_if (not b) w (Event.PollBegun p f)).table ≡ there → f < length w.tasks →
    KeepsAwaits w (Op.Move Move.TakeUp f ∷ []) (taken_up b there p w f)
awaits-take_up = by_bool _
    (by_bool _
    (λ p w f e m i g r yy mm bb h. grind (arith, same_is, read_put, length-set))
    (λ p w f e m i g r yy mm bb h. grind (arith, same_is, read_put, length-set)))
    (λ there p w f e m i g r yy mm bb h. grind (arith, same_is, read_put, length-set, heard-push))

-- by whether it is over, over or scheduled, and running

pub awaits-wake_by_reference : (o b c : Bool) (p : ℕ) (w : World) (f : ℕ) →
    (moves.is_over (task w f) || (task w f).scheduled) ≡ b → (task w f).running ≡ c → f < length w.tasks →
    KeepsAwaits w (Op.Move Move.WakeByReference f ∷ []) (woken o b c p w f)
awaits-wake_by_reference = by_bool _
    (by_bool _
    (λ c p w f e q i g r yy mm bb h. grind (arith, same_is, read_put, length-set, heard-push))
    (by_bool _
    (λ p w f e q i g r yy mm bb h. grind (arith, same_is, read_put, length-set, heard-push))
    (λ p w f e q i g r yy mm bb h. let k : IsUnmarked (task w f) = unmarked (task w f) e in
    grind (arith, same_is, read_put, length-set, heard-push))))
    (by_bool _
    (λ c p w f e q i g r yy mm bb h. grind (arith, same_is, read_put, length-set, heard-push))
    (by_bool _
    (λ p w f e q i g r yy mm bb h. grind (arith, same_is, read_put, length-set, heard-push))
    (λ p w f e q i g r yy mm bb h. let k : IsUnmarked (task w f) = unmarked (task w f) e in
    grind (arith, same_is, read_put, length-set, heard-push))))

pub awaits-wake : (o b c : Bool) (p : ℕ) (w : World) (f : ℕ) → (moves.is_over (task w f) || (task w f).scheduled) ≡ b →
    (task w f).running ≡ c → f < length w.tasks → KeepsAwaits w (Op.Move Move.Wake f ∷ []) (woken_by o b c p w f)
awaits-wake = by_bool _
    (by_bool _
    (λ c p w f e q i g r yy mm bb h. grind (arith, same_is, read_put, length-set, heard-push))
    (by_bool _
    (λ p w f e q i g r yy mm bb h. grind (arith, same_is, read_put, length-set, heard-push))
    (λ p w f e q i g r yy mm bb h. let k : IsUnmarked (task w f) = unmarked (task w f) e in
    grind (arith, same_is, read_put, length-set, heard-push))))
    (by_bool _
    (λ c p w f e q i g r yy mm bb h. grind (arith, same_is, read_put, length-set, heard-push))
    (by_bool _
    (λ p w f e q i g r yy mm bb h. grind (arith, same_is, read_put, length-set, heard-push))
    (λ p w f e q i g r yy mm bb h. let k : IsUnmarked (task w f) = unmarked (task w f) e in
    grind (arith, same_is, read_put, length-set, heard-push))))

pub awaits-call_task : (o b c : Bool) (p e : ℕ) (k : ℕ) (w : World) (f : ℕ) →
    (moves.is_over (task w f) || (task w f).scheduled) ≡ b → (task w f).running ≡ c → f < length w.tasks →
    KeepsAwaits w (Op.Waker (WakerOp.CallAwaiter e (Task f) k) ∷ [])
    (woken_by o b c p (log w (Event.WakerCalled p (Polled.Handle e) k (Task f))) f)
awaits-call_task o b c p e k w f d q i g r yy mm bb h =
    let called : World = log w (Event.WakerCalled p (Polled.Handle e) k (Task f)) in
    let stand : Footing called g (with_ops g (Op.Move Move.Wake f ∷ []) r)
    (with_awaiting g (Op.Move Move.Wake f ∷ []) yy) =
    record {
      one = bb.one;
      live = bb.live;
      ends = bb.ends;
      drop = bb.drop;
      carries = bb.carries;
      rests = bb.rests;
      lent = bb.lent;
      done = grind (arith, heard-push);
      stages = bb.stages;
      few = bb.few;
      tied = bb.tied;
    } in
    let waits : Awaits called g (with_ops g (Op.Move Move.Wake f ∷ []) r)
    (with_awaiting g (Op.Move Move.Wake f ∷ []) yy) mm = grind (arith, same_is, heard-push) in
    awaits-wake o b c p called f d q i g r yy mm stand waits

-- by whether an event is logged

pub awaits-cancel_over : (o : Bool) (p : ℕ) (w : World) (f : ℕ) → f < length w.tasks →
    KeepsAwaits w (Op.Move Move.Cancel f ∷ []) (cancel_over o p w f)
awaits-cancel_over = by_bool _
    (λ p w f i g r yy mm bb h. grind (arith, same_is, read_put, length-set, heard-push))
    (λ p w f i g r yy mm bb h. grind (arith, same_is, read_put, length-set, heard-push))

pub awaits-cancel_going : (a : Bool) (p : ℕ) (w : World) (f : ℕ) → (task w f).awaiter ≡ a →
    moves.is_going (task w f) ≡ true → f < length w.tasks →
    KeepsAwaits w (Op.Move Move.Cancel f ∷ []) (cancel_going true a p w f)
awaits-cancel_going = by_bool _
    (λ p w f n e i g r yy mm bb h. let z : IsGoing (task w f) = going (task w f) e in
    grind (arith, same_is, read_put, length-set, heard-push))
    (λ p w f n e i g r yy mm bb h. let z : IsGoing (task w f) = going (task w f) e in
    grind (arith, same_is, read_put, length-set, heard-push))

pub awaits-cancel_idle : (a : Bool) (p : ℕ) (w : World) (f : ℕ) → (task w f).awaiter ≡ a →
    moves.is_over (task w f) ≡ false → moves.is_going (task w f) ≡ false → f < length w.tasks →
    KeepsAwaits w (Op.Move Move.Cancel f ∷ []) (cancel_idle true a p w f)
awaits-cancel_idle = by_bool _
    (λ p w f n e q i g r yy mm bb h. let k : IsIdle (task w f) = idle (task w f) e q in
    grind (arith, same_is, read_put, length-set, heard-push))
    (λ p w f n e q i g r yy mm bb h. let k : IsIdle (task w f) = idle (task w f) e q in
    grind (arith, same_is, read_put, length-set, heard-push))

pub awaits-detach : (o x y : Bool) (p : ℕ) (w : World) (f : ℕ) → ((task w f).completed && not (task w f).closed) ≡ x →
    (eqb (task w f).references 0 && not (task w f).closed) ≡ y → f < length w.tasks →
    KeepsAwaits w (Op.Move Move.Detach f ∷ []) (detached o x y p w f)
awaits-detach = by_bool _
    (by_bool _
    (λ y p w f e q i g r yy mm bb h. grind (arith, nat_tests, same_is, read_put, length-set, heard-push))
    (by_bool _
    (λ p w f e q i g r yy mm bb h. let k : IsUnheld (task w f) = unheld (task w f) e q in
    grind (arith, same_is, read_put, length-set, heard-push))
    (λ p w f e q i g r yy mm bb h. grind (arith, same_is, read_put, length-set, heard-push))))
    (by_bool _
    (λ y p w f e q i g r yy mm bb h. grind (arith, nat_tests, same_is, read_put, length-set, heard-push))
    (by_bool _
    (λ p w f e q i g r yy mm bb h. let k : IsUnheld (task w f) = unheld (task w f) e q in
    grind (arith, same_is, read_put, length-set, heard-push))
    (λ p w f e q i g r yy mm bb h. grind (arith, same_is, read_put, length-set, heard-push))))
