-- For one_runnable and references_are_counted.
-- What the counts of each future (specs/Sound) are kept by; and what a move of a task leads to, by what it finds there.
use Rattle.std.proofs.Common.{ℕ, ◌+◌, ◌^◌, ◌<◌, List, length, Bool, true, false, not}
use Rattle.std.specs.Prelude.{Some}
use Rattle.task_moves.specs.declared.moves.owed.FutureDebt.TheVariants.{DropFuture}
use Rattle.task_moves.specs.Moves.{moved, nothing, settled, notify_if}
use Rattle.executor_model.proofs.Types.{Move, Event, Waker, Task, Outside, Op}
use Rattle.executor_model.specs.World.{World, Done, done, log_if, task, put}
use Rattle.executor_model.specs.{Carried.carried, Carried.owed_ops, Sound.with_ops, Sound.Pend, Sound.Sound}
use Rattle.task_moves.specs.Moves as moves

-- it keeps what holds of g
abbrev pub Keeps : World → List Op → Done → Type 0
Keeps w old d = (g : ℕ) (r : Pend) → Sound w g (with_ops g old r) → Sound d.world g (with_ops g d.next r)

-- a copy may be made
abbrev pub CanCopy : World → Waker → Type 0
CanCopy w (Task k) = (k < length w.tasks) × ((task w k).references < 2 ^ 40)
CanCopy w (Outside x) = Unit {0}

-- the moves of a task, by what they find

abbrev pub settling : Bool → World → ℕ → Done
settling a w f = carried w f (moved (record (task w f) { scheduled = false }) (settled a))

-- by whether the output is unwanted, and whether there is an awaiter
abbrev pub readied : Bool → Bool → World → ℕ → Done
readied unwanted a w f =
    carried w f (moved (record (task w f) { scheduled = false; running = false; completed = true; closed = unwanted })
    (record (settled a) { drop_output = unwanted }))

-- by whether it is closed, scheduled, its reference the last, and its entry in the table
abbrev pub pended : Bool → Bool → Bool → Bool → World → ℕ → Done
pended x s l there w f = let m = moves.end_pending_by x s l (task w f) in
    done (put w f m.state) (owed_ops there f m.owed)

abbrev pub ending : Bool → World → ℕ → Done
ending a w f = carried w f (moved (record (task w f) { scheduled = false; running = false }) (settled a))

-- by whether its entry is in the table
abbrev pub dropping : Bool → Bool → World → ℕ → Done
dropping c there w f = done (put w f (record (task w f) { closed = c }))
    (owed_ops there f (record nothing { future = Some DropFuture; next = Some Move.SettleClosed }))

-- by whether it is closed, and its entry in the table
abbrev pub taken_up : Bool → Bool → ℕ → World → ℕ → Done
taken_up b there p w f = let m = moves.take_up_by b (task w f) in
    done (put (log_if (not b) w (Event.PollBegun p f)) f m.state) (owed_ops there f m.owed)

-- by whether it is over, over or scheduled, and running
abbrev pub woken : Bool → Bool → Bool → ℕ → World → ℕ → Done
woken o b c p w f = carried (log_if (not o) w (Event.Woken p f)) f (moves.wake_by_reference_by b c (task w f))

abbrev pub woken_by : Bool → Bool → Bool → ℕ → World → ℕ → Done
woken_by o b c p w f = let m = moves.wake_by_reference_by b c (task w f) in
    carried (log_if (not o) w (Event.Woken p f)) f (moved m.state (record m.owed { next = Some Move.Release }))

-- by whether an event is logged
abbrev pub cancel_going : Bool → Bool → ℕ → World → ℕ → Done
cancel_going o a p w f =
    carried (log_if o w (Event.Cancelled p f)) f
    (moved (record (task w f) { closed = true }) (record nothing { awaiter = notify_if a }))

abbrev pub cancel_idle : Bool → Bool → ℕ → World → ℕ → Done
cancel_idle o a p w f = carried (log_if o w (Event.Cancelled p f)) f
    (moved (record (task w f) { scheduled = true; closed = true; references = (task w f).references + 1 })
    (record nothing { schedule = moves.schedule false; awaiter = notify_if a }))

abbrev pub cancel_over : Bool → ℕ → World → ℕ → Done
cancel_over o p w f = carried (log_if o w (Event.Cancelled p f)) f (moved (task w f) nothing)

abbrev pub detached : Bool → Bool → Bool → ℕ → World → ℕ → Done
detached o x y p w f = carried (log_if o w (Event.Detached p f)) f (moves.detach_by x y (task w f))
