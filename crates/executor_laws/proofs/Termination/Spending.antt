-- For calls_end and lone_calls_end.
-- What each thing that is done spends of the steps that remain.
use Rattle.std.proofs.Common.{◌≡◌, ℕ, zero, suc, ◌+◌, ◌*◌, ◌<◌, ◌≤◌, ◌==◌, List, [], ◌∷◌, ◌++◌, length, set, get_or, drop}
use Rattle.std.proofs.Common.{length-append, Bool, true, false, ◌||◌, ◌&&◌, not, cond, refl, ap, ◌∙◌, arith}
use Rattle.std.specs.Prelude.{Option, Some, None}
use Rattle.task_moves.{specs.declared.moves.owed.Move.TheVariants.Release, specs.Moves.is_over}
use Rattle.executor_laws.proofs.Types.{Plain, Urgent, Mark, State, Owed, Moved, Event, Awaiter}
use Rattle.executor_model.specs.World.{World, Done, log, log_if, task, put, put_awaiter, queued_in, awaiter_of, blank, without}
use Rattle.executor_model.specs.Carried.{carried, owed_ops, schedule_ops, drop_ops, future_ops, output_ops, awaiter_ops}
use Rattle.executor_model.specs.Carried.{next_ops, drops, emptied_ops}
use Rattle.executor_model.specs.{World.among, Queues.Queues, Queues.all_in, Weights.weigh}
use Rattle.executor_laws.specs.Remaining.{stored, appends_by, steps_of_task, steps_of_tasks, steps_of_runs, notified_of}
use Rattle.executor_laws.specs.{Remaining.steps_of_leak, Remaining.ups, Remaining.steps_kept, Costs.steps_of}
use Rattle.executor_model.proofs.{Steps.QueuesByMark.with_last, Steps.QueuesByMark.without_first_of, Steps.Lists.weigh-append}
use Rattle.task_moves.specs.Moves as moves

-- what is left after d, and one step, came out of what was left before and c
abbrev pub Spends : World → ℕ → Done → Type 0
Spends w c d = steps_kept d.world + (weigh steps_of d.next + 1) ≤ steps_kept w + c

-- what the machine keeps, one by one
pub kept-parts : (w : World) →
    steps_kept w ≡ 11 * length (queued_in w) + (28 * (length w.table + length w.leaving) +
    (steps_of_leak w.is_static (length w.table + length w.leaving) + (26 * length w.waking +
    (26 * stored w.awaiters + (steps_of_tasks w.tasks + (5 * notified_of w.sleepers + (5 * ups w.ticks +
    steps_of_runs w.runs)))))))
unfolding steps_kept
kept-parts w = refl

-- in both queues together one more stands, or one less
pub length-last : (f : ℕ) (m : Mark) (qs : Queues) → length (all_in (with_last m f qs)) ≡ length (all_in qs) + 1
length-last f Urgent qs = omega (
  arith,
  length-append (qs.urgent.items ++ f ∷ []) qs.plain.items,
  length-append qs.urgent.items (f ∷ []),
  length-append qs.urgent.items qs.plain.items,
)
length-last f Plain qs = omega (
  arith,
  length-append qs.urgent.items (qs.plain.items ++ f ∷ []),
  length-append qs.plain.items (f ∷ []),
  length-append qs.urgent.items qs.plain.items,
)

drop-less : (xs : List ℕ) → length (drop 1 xs) ≤ length xs
drop-less [] = omega arith
drop-less (x ∷ xs) = omega arith

pub length-less : (m : Mark) (qs : Queues) → length (all_in (without_first_of m qs)) ≤ length (all_in qs)
length-less Urgent qs = omega (
  arith,
  length-append (drop 1 qs.urgent.items) qs.plain.items,
  length-append qs.urgent.items qs.plain.items,
  drop-less qs.urgent.items,
)
length-less Plain qs = omega (
  arith,
  length-append qs.urgent.items (drop 1 qs.plain.items),
  length-append qs.urgent.items qs.plain.items,
  drop-less qs.plain.items,
)

-- with fewer entries a leak takes no more, and with one more it takes so much more
pub leak-less : (b : Bool) (n m : ℕ) → n ≤ m → steps_of_leak b n ≤ steps_of_leak b m
leak-less true n m l = omega arith
leak-less false n m l = omega (arith, l)

pub leak-more : (b : Bool) (n m : ℕ) → m ≤ n + 1 → steps_of_leak b m ≤ steps_of_leak b n + 26
leak-more true n m l = omega arith
leak-more false n m l = omega (arith, l)

pub tasks-set : (ts : List State) (f : ℕ) (s : State) → f < length ts →
    steps_of_tasks (set ts f s) + steps_of_task (get_or ts f blank) ≡ steps_of_tasks ts + steps_of_task s
tasks-set [] f s l = absurd (omega (arith, l))
tasks-set (t ∷ ts) zero s l = omega arith
tasks-set (t ∷ ts) (suc f) s l = omega (arith, tasks-set ts f s (omega (arith, l)))

pub tasks-push : (ts : List State) (s : State) → steps_of_tasks (ts ++ s ∷ []) ≡ steps_of_tasks ts + steps_of_task s
tasks-push [] s = omega arith
tasks-push (t ∷ ts) s = omega (arith, tasks-push ts s)

-- how many awaiters stand at one place
abbrev pub one_stored : Option Awaiter → ℕ
one_stored None = 0
one_stored (Some a) = 1

pub stored-set : (xs : List (Option Awaiter)) (f : ℕ) (a : Option Awaiter) →
    stored (set xs f a) + one_stored (get_or xs f None) ≤ stored xs + one_stored a
stored-set [] f a = omega arith
stored-set (None ∷ xs) zero None = omega arith
stored-set (None ∷ xs) zero (Some a) = omega arith
stored-set (Some b ∷ xs) zero None = omega arith
stored-set (Some b ∷ xs) zero (Some a) = omega arith
stored-set (None ∷ xs) (suc f) a = omega (arith, stored-set xs f a)
stored-set (Some b ∷ xs) (suc f) a = omega (arith, stored-set xs f a)

pub stored-push : (xs : List (Option Awaiter)) → stored (xs ++ None ∷ []) ≡ stored xs
stored-push [] = refl
stored-push (None ∷ xs) = stored-push xs
stored-push (Some a ∷ xs) = omega (arith, stored-push xs)

pub without-one : (f : ℕ) (fs : List ℕ) → among f fs ≡ true → length (without f fs) + 1 ≡ length fs
without-one f [] e = absurd (cc)
without-one f (g ∷ gs) e = grind (arith, without-one f gs)

-- a move of one task

pub kept-put : (w : World) (f : ℕ) (s : State) → f < length w.tasks →
    steps_kept (put w f s) + steps_of_task (task w f) ≡ steps_kept w + steps_of_task s
kept-put w f s l = omega (arith, kept-parts (put w f s), kept-parts w, tasks-set w.tasks f s l)

pub kept-put_awaiter : (w : World) (f : ℕ) (a : Option Awaiter) →
    steps_kept (put_awaiter w f a) + 26 * one_stored (awaiter_of w f) ≤ steps_kept w + 26 * one_stored a
kept-put_awaiter w f a = omega (arith, kept-parts (put_awaiter w f a), kept-parts w, stored-set w.awaiters f a)

pub kept-log : (w : World) (e : Event) → steps_kept (log w e) ≡ steps_kept w
kept-log w e = omega (arith, kept-parts (log w e), kept-parts w)

pub kept-log_if : (b : Bool) (w : World) (e : Event) → steps_kept (log_if b w e) ≡ steps_kept w
kept-log_if true w e = kept-log w e
kept-log_if false w e = refl

pub tasks-log_if : (b : Bool) (w : World) (e : Event) → (log_if b w e).tasks ≡ w.tasks
tasks-log_if true w e = refl
tasks-log_if false w e = refl

-- what a move owes takes so many steps
pub owed-steps : (b : Bool) (f : ℕ) (o : Owed) →
    weigh steps_of (owed_ops b f o) ≡ weigh steps_of (schedule_ops f o.schedule) +
    (weigh steps_of (future_ops b f o.future) + (weigh steps_of (output_ops o.drop_output f) +
    (weigh steps_of (awaiter_ops f o.awaiter) + (weigh steps_of (next_ops f o.next) +
    weigh steps_of (emptied_ops (o.empty_cell && drops o.future) f)))))
owed-steps b f o = omega (
  arith,
  weigh-append steps_of (schedule_ops f o.schedule) (future_ops b f o.future),
  weigh-append steps_of (schedule_ops f o.schedule ++ future_ops b f o.future) (output_ops o.drop_output f),
  weigh-append steps_of (schedule_ops f o.schedule ++ future_ops b f o.future ++ output_ops o.drop_output f)
      (awaiter_ops f o.awaiter),
  weigh-append steps_of (schedule_ops f o.schedule ++ future_ops b f o.future ++ output_ops o.drop_output f
      ++ awaiter_ops f o.awaiter)
      (next_ops f o.next),
  weigh-append steps_of (schedule_ops f o.schedule ++ future_ops b f o.future ++ output_ops o.drop_output f
      ++ awaiter_ops f o.awaiter ++ next_ops f o.next)
      (emptied_ops (o.empty_cell && drops o.future) f),
)

pub drop-steps : (b : Bool) (f : ℕ) → weigh steps_of (drop_ops b f) ≤ 5
drop-steps true f = omega arith
drop-steps false f = omega arith

-- no cell is emptied while its future stays
emptied-none : (b : Bool) (f : ℕ) → weigh steps_of (emptied_ops (b && false) f) ≡ 0
emptied-none true f = refl
emptied-none false f = refl

pub notify-steps : (a : Bool) (f : ℕ) → weigh steps_of (awaiter_ops f (moves.notify_if a)) ≤ 2
notify-steps true f = omega arith
notify-steps false f = omega arith

pub notify_other-steps : (a : Bool) (f : ℕ) → weigh steps_of (awaiter_ops f (moves.notify_other_if a)) ≤ 2
notify_other-steps true f = omega arith
notify_other-steps false f = omega arith

pub output-steps : (b : Bool) (f : ℕ) → weigh steps_of (output_ops b f) ≤ 2
output-steps true f = omega arith
output-steps false f = omega arith

-- what a move of a task of state s owes, and one step, come out of c
abbrev pub Costs : State → ℕ → Moved → Type 0
Costs s c m = (b : Bool) (f : ℕ) → steps_of_task m.state + (weigh steps_of (owed_ops b f m.owed) + 1) ≤ steps_of_task s
    + c

pub spends-carried : (w v : World) (f c : ℕ) (m : Moved) → f < length w.tasks → steps_kept v ≡ steps_kept w →
    v.tasks ≡ w.tasks →
    Costs (task w f) c m → Spends w c (carried v f m)
spends-carried w v f c m l e t k =
    omega (
      arith,
      e,
      kept-put v f m.state (omega (arith, l, ap length t)),
      k (among f v.table) f,
      ap (λ (ts : List State). steps_of_task (get_or ts f blank)) t,
    )

pub spends-logged : (b : Bool) (w : World) (e : Event) (f c : ℕ) (m : Moved) → f < length w.tasks →
    Costs (task w f) c m →
    Spends w c (carried (log_if b w e) f m)
spends-logged true w e f c m l k = spends-carried w (log w e) f c m l (kept-log w e) refl k
spends-logged false w e f c m l k = spends-carried w w f c m l refl refl k

-- where it is told of twice
pub spends-told : (last b : Bool) (w : World) (e k : Event) (f c : ℕ) (m : Moved) → f < length w.tasks →
    Costs (task w f) c m → Spends w c (carried (log_if last (log_if b w e) k) f m)
spends-told last b w e k f c m l x =
    let v : World = log_if b w e in
    spends-carried w (log_if last v k) f c m l (kept-log_if last v k ∙ kept-log_if b w e)
    (tasks-log_if last v k ∙ tasks-log_if b w e) x

-- the moves, by what they read

abbrev one_if : Bool → ℕ
one_if b = cond b 1 0

closed-keeps : (c : Bool) → one_if (c && false) ≡ 0
closed-keeps true = refl
closed-keeps false = refl

open-keeps : (c x : Bool) → one_if (c && not x) ≤ 1
open-keeps true true = omega arith
open-keeps true false = omega arith
open-keeps false x = omega arith

dropped-keeps : (c x : Bool) → one_if (c && not (x || not c)) ≤ one_if (c && not x)
dropped-keeps true true = omega arith
dropped-keeps true false = omega arith
dropped-keeps false x = omega arith

-- how many appends are left

none-left : (over scheduled : Bool) → over ≡ true → appends_by over scheduled ≡ 0
none-left true scheduled e = refl
none-left false scheduled e = absurd (cc)

closed-left : (c scheduled : Bool) → appends_by (c || true) scheduled ≡ 0
closed-left true scheduled = refl
closed-left false scheduled = refl

dropped-left : (c x scheduled : Bool) → appends_by (c || (x || not c)) scheduled ≡ 0
dropped-left true x scheduled = refl
dropped-left false true scheduled = refl
dropped-left false false scheduled = refl

open-left : (over scheduled : Bool) → over ≡ false → 1 ≤ appends_by over scheduled
open-left true scheduled e = absurd (cc)
open-left false true e = omega arith
open-left false false e = omega arith

idle-left : (over scheduled : Bool) → (over || scheduled) ≡ false → appends_by over scheduled ≡ 2
idle-left true scheduled e = absurd (cc)
idle-left false true e = absurd (cc)
idle-left false false e = refl

scheduled-left : (over : Bool) → appends_by over true ≤ 1
scheduled-left true = omega arith
scheduled-left false = omega arith

taken-left : (over scheduled : Bool) → appends_by over false ≤ appends_by over scheduled + 1
taken-left true scheduled = omega arith
taken-left false true = omega arith
taken-left false false = omega arith

-- of a task that isn't over, since it is open and keeps no output
not-over : (c x r : Bool) → (c && not x) ≡ false → (r && not x) ≡ true → (c || x) ≡ false
not-over true true true e k = absurd (cc)
not-over true true false e k = absurd (cc)
not-over true false r e k = absurd (cc)
not-over false true true e k = absurd (cc)
not-over false true false e k = absurd (cc)
not-over false false r e k = refl

pub costs-wake : (x y : Bool) (s : State) → (is_over s || s.scheduled) ≡ x →
    Costs s 13 (moves.wake_by_reference_by x y s)
costs-wake true y s e b f = omega arith
costs-wake false true s e b f = omega (arith, idle-left (is_over s) s.scheduled e, scheduled-left (is_over s))
costs-wake false false s e b f = omega (arith, idle-left (is_over s) s.scheduled e, scheduled-left (is_over s))

pub costs-waking : (x y : Bool) (s : State) → (is_over s || s.scheduled) ≡ x →
    Costs s 26 (moves.moved (moves.wake_by_reference_by x y s).state
    (record (moves.wake_by_reference_by x y s).owed { next = Some Release }))
costs-waking true y s e b f = omega arith
costs-waking false true s e b f = omega (arith, idle-left (is_over s) s.scheduled e, scheduled-left (is_over s))
costs-waking false false s e b f = omega (arith, idle-left (is_over s) s.scheduled e, scheduled-left (is_over s))

pub costs-release : (x y : Bool) (s : State) → is_over s ≡ y → Costs s 13 (moves.release_by x y s)
costs-release false y s e b f = omega arith
costs-release true true s e b f = omega arith
costs-release true false s e b f = omega (
  arith,
  closed-keeps s.completed,
  closed-left s.completed true,
  open-left (is_over s) s.scheduled e,
)

pub costs-take_up : (x : Bool) (s : State) → Costs s 95 (moves.take_up_by x s)
costs-take_up true s b f = omega (arith, owed-steps b f (moves.take_up_by true s).owed, drop-steps b f)
costs-take_up false s b f = omega (arith, taken-left (is_over s) s.scheduled)

pub costs-settle_closed : (s : State) → is_over s ≡ true → Costs s 4 (moves.settle_closed s)
costs-settle_closed s e b f = omega (
  arith,
  owed-steps b f (moves.settle_closed s).owed,
  notify-steps s.awaiter f,
  none-left (is_over s) false e,
)

pub costs-give_up : (x : Bool) (s : State) → Costs s 1 (moves.give_up_by x s)
costs-give_up true s b f = omega arith
costs-give_up false s b f = omega arith

pub costs-end_ready : (s : State) → Costs s 9 (moves.end_ready s)
costs-end_ready s b f = omega (
  arith,
  owed-steps b f (moves.end_ready s).owed,
  notify-steps s.awaiter f,
  output-steps (s.closed || not s.handle) f,
  open-keeps true (s.closed || not s.handle),
)

pub costs-end_pending : (x y z : Bool) (s : State) → Costs s 46 (moves.end_pending_by x y z s)
costs-end_pending true y z s b f = omega (arith, owed-steps b f (moves.end_pending_by true y z s).owed, drop-steps b f)
costs-end_pending false true z s b f = omega arith
costs-end_pending false false true s b f = omega (
  arith,
  owed-steps b f (moves.end_pending_by false false true s).owed,
  drop-steps b f,
  closed-keeps s.completed,
  closed-left s.completed s.scheduled,
)
costs-end_pending false false false s b f = omega arith

pub costs-end_closed : (s : State) → is_over s ≡ true → Costs s 4 (moves.end_closed s)
costs-end_closed s e b f =
    omega (arith, owed-steps b f (moves.end_closed s).owed, notify-steps s.awaiter f, none-left (is_over s) false e)

pub costs-drop_runnable : (s : State) → Costs s 10 (moves.drop_runnable s)
costs-drop_runnable s b f = omega (
  arith,
  owed-steps b f (moves.drop_runnable s).owed,
  drop-steps b f,
  dropped-keeps s.completed s.closed,
  dropped-left s.completed s.closed s.scheduled,
)

pub costs-cancel : (x y : Bool) (s : State) → is_over s ≡ x → Costs s 15 (moves.cancel_by x y s)
costs-cancel true y s e b f = omega arith
costs-cancel false true s e b f = omega (
  arith,
  owed-steps b f (moves.cancel_by false true s).owed,
  notify-steps s.awaiter f,
  closed-keeps s.completed,
  closed-left s.completed s.scheduled,
)
costs-cancel false false s e b f =
    omega (
      arith,
      owed-steps b f (moves.cancel_by false false s).owed,
      notify-steps s.awaiter f,
      closed-keeps s.completed,
      closed-left s.completed true,
      open-left (is_over s) s.scheduled e,
    )

pub costs-detach : (x y : Bool) (s : State) → (s.completed && not s.closed) ≡ x →
    ((s.references == 0) && not s.closed) ≡ y →
    Costs s 13 (moves.detach_by x y s)
costs-detach true y s e k b f =
    omega (arith, ap one_if e, closed-keeps s.completed, closed-left s.completed s.scheduled)
costs-detach false true s e k b f = omega (
  arith,
  closed-keeps s.completed,
  closed-left s.completed true,
  open-left (is_over s) s.scheduled (not-over s.completed s.closed (s.references == 0) e k),
)
costs-detach false false s e k b f =
    omega (arith, owed-steps b f (moves.detach_by false false s).owed, emptied-none (s.references == 0) f)

-- an output is taken, and the task is closed
pub closed-spent : (c : Bool) (s : State) → steps_of_task (record s { closed = true; completed = c }) ≤ steps_of_task s
closed-spent c s = omega (arith, closed-keeps c, closed-left c s.scheduled)
