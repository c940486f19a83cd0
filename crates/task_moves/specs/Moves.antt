-- The table of a task's moves: what each changes in the state, and what the mover then owes. A decision is a function
-- by cases on what the move has read, a line for each row of the table.
use Rattle.std.specs.Prelude.{ℕ, ◌+◌, ◌-◌, ◌^◌, ◌<◌, ◌==◌, Bool, true, false, ◌&&◌, ◌||◌, not, if◌then◌else◌, Option, Some, None, nat_lt}
use Rattle.task_moves.specs.declared.schedule_info.ScheduleInfo.{ScheduleInfo}
use Rattle.task_moves.specs.declared.moves.state.State.{State}
use Rattle.task_moves.specs.declared.moves.owed.Move.{Move}
use Rattle.task_moves.specs.declared.moves.owed.Move.TheVariants.{WakeByReference, Wake, Copy, Release, TakeUp, SettleClosed, GiveUp, EndReady, EndPending, EndClosed, DropRunnable, Cancel, Detach, Poll, LookAgain, Register, EndRegister, Notify, EndNotify}
use Rattle.task_moves.specs.declared.moves.owed.FutureDebt.TheVariants.{PollFuture, DropFuture}
use Rattle.task_moves.specs.declared.moves.owed.AwaiterDebt.{AwaiterDebt}
use Rattle.task_moves.specs.declared.moves.owed.AwaiterDebt.TheVariants.{NotifyAwaiter, NotifyOther, CallGiven, StoreCopy, CallStored, TakeAwaiter, CallTaken}
use Rattle.task_moves.specs.declared.moves.owed.Answer.TheVariants.{Refused, Pending, Closed, Output}
use Rattle.task_moves.specs.declared.moves.owed.Owed.{Owed}
use Rattle.task_moves.specs.declared.moves.owed.Moved.{Moved}

-- from so many references on, no copy of a waker is made
abbrev pub most_references : ℕ
most_references = 2 ^ 40

abbrev pub nothing : Owed
nothing = record { schedule = None; future = None; drop_output = false; awaiter = None; next = None; answer = None; empty_cell = false }

abbrev pub moved : State → Owed → Moved
moved s owed = record { state = s; owed = owed }

-- one Runnable, and whether the task was woken while it was polled
abbrev pub schedule : Bool → Option ScheduleInfo
schedule woken_while_running = Some (record { woken_while_running = woken_while_running })

-- an awaiter that is there is notified
abbrev pub notify_if : Bool → Option AwaiterDebt
notify_if awaiter = if awaiter then Some NotifyAwaiter else None

abbrev pub notify_other_if : Bool → Option AwaiterDebt
notify_other_if awaiter = if awaiter then Some NotifyOther else None

-- an awaiter that is there is notified, and the reference is given up
abbrev pub settled : Bool → Owed
settled awaiter = record nothing { awaiter = notify_if awaiter; next = Some GiveUp }

abbrev pub is_over : State → Bool
is_over s = s.completed || s.closed

-- a Runnable, a run or a closing call is there
abbrev pub is_going : State → Bool
is_going s = s.scheduled || s.running

-- who holds this reference holds the last of a task without handle
abbrev pub is_last : State → Bool
is_last s = (s.references == 1) && not s.handle

-- a new task
abbrev pub made : State
made = record { scheduled = true; running = false; completed = false; closed = false; handle = true; awaiter = false; registering = false; notifying = false; references = 1 }

-- it is over or scheduled; or it is running; or neither
abbrev pub wake_by_reference_by : Bool → Bool → State → Moved
wake_by_reference_by true running s = moved s nothing
wake_by_reference_by false true s = moved (record s { scheduled = true }) nothing
wake_by_reference_by false false s = moved (record s { scheduled = true; references = s.references + 1 }) (record nothing { schedule = schedule false })

abbrev pub wake_by_reference : State → Moved
wake_by_reference s = wake_by_reference_by (is_over s || s.scheduled) s.running s

-- a wake by reference, and then the waker is released
abbrev pub wake : State → Moved
wake s = let woken = wake_by_reference s in moved woken.state (record woken.owed { next = Some Release })

-- there are too many references, or not
abbrev pub copy_by : Bool → State → Moved
copy_by true s = moved s (record nothing { answer = Some Refused })
copy_by false s = moved (record s { references = s.references + 1 }) nothing

abbrev pub copy : State → Moved
copy s = copy_by (not (nat_lt s.references most_references)) s

-- it isn't the last; or it is, of a task that is over; or of an open one, which is closed so that its future is dropped
abbrev pub release_by : Bool → Bool → State → Moved
release_by false over s = moved (record s { references = s.references - 1 }) nothing
release_by true true s = moved (record s { references = 0 }) (record nothing { empty_cell = true })
release_by true false s = moved (record s { scheduled = true; closed = true; references = 1 }) (record nothing { schedule = schedule false })

abbrev pub release : State → Moved
release s = release_by (is_last s) (is_over s) s

-- it is closed, or not
abbrev pub take_up_by : Bool → State → Moved
take_up_by true s = moved s (record nothing { future = Some DropFuture; next = Some SettleClosed })
take_up_by false s = moved (record s { scheduled = false; running = true }) (record nothing { future = Some PollFuture })

abbrev pub take_up : State → Moved
take_up s = take_up_by s.closed s

abbrev pub settle_closed : State → Moved
settle_closed s = moved (record s { scheduled = false }) (settled s.awaiter)

-- it isn't the last, or it is
abbrev pub give_up_by : Bool → State → Moved
give_up_by false s = moved (record s { references = s.references - 1 }) nothing
give_up_by true s = moved (record s { references = 0 }) (record nothing { empty_cell = true })

abbrev pub give_up : State → Moved
give_up s = give_up_by (is_last s) s

abbrev pub end_ready : State → Moved
end_ready s = moved (record s { scheduled = false; running = false; completed = true; closed = s.closed || not s.handle }) (record (settled s.awaiter) { drop_output = s.closed || not s.handle })

-- it is closed; or it was woken meanwhile; or the run's reference is the last of all; or none of these
abbrev pub end_pending_by : Bool → Bool → Bool → State → Moved
end_pending_by true scheduled last s = moved s (record nothing { future = Some DropFuture; next = Some EndClosed })
end_pending_by false true last s = moved (record s { running = false }) (record nothing { schedule = schedule true })
end_pending_by false false true s = moved (record s { running = false; closed = true; references = 0 }) (record nothing { future = Some DropFuture; empty_cell = true })
end_pending_by false false false s = moved (record s { running = false; references = s.references - 1 }) nothing

abbrev pub end_pending : State → Moved
end_pending s = end_pending_by s.closed s.scheduled (is_last s) s

abbrev pub end_closed : State → Moved
end_closed s = moved (record s { scheduled = false; running = false }) (settled s.awaiter)

abbrev pub drop_runnable : State → Moved
drop_runnable s = moved (record s { closed = s.closed || not s.completed }) (record nothing { future = Some DropFuture; next = Some SettleClosed })

-- it is over; or a Runnable or run is there; or neither, and one is owed so that the future is dropped
abbrev pub cancel_by : Bool → Bool → State → Moved
cancel_by true going s = moved s nothing
cancel_by false true s = moved (record s { closed = true }) (record nothing { awaiter = notify_if s.awaiter })
cancel_by false false s = moved (record s { scheduled = true; closed = true; references = s.references + 1 }) (record nothing { schedule = schedule false; awaiter = notify_if s.awaiter })

abbrev pub cancel : State → Moved
cancel s = cancel_by (is_over s) (is_going s) s

-- its output is there; or it is open and no reference is left; or neither
abbrev pub detach_by : Bool → Bool → State → Moved
detach_by true forgotten s = moved (record s { closed = true }) (record nothing { drop_output = true; next = Some Detach })
detach_by false true s = moved (record s { handle = false; scheduled = true; closed = true; references = 1 }) (record nothing { schedule = schedule false })
detach_by false false s = moved (record s { handle = false }) (record nothing { empty_cell = s.references == 0 })

abbrev pub detach : State → Moved
detach s = detach_by (s.completed && not s.closed) ((s.references == 0) && not s.closed) s

-- it is closed, and its future is dropped or not; or it is open, and its output isn't there, or is
abbrev pub poll_by : Bool → Bool → Bool → State → Moved
poll_by true true completed s = moved s (record nothing { next = Some Register })
poll_by true false completed s = moved s (record nothing { awaiter = Some NotifyOther; answer = Some Closed })
poll_by false going false s = moved s (record nothing { next = Some Register })
poll_by false going true s = moved (record s { closed = true }) (record nothing { awaiter = notify_other_if s.awaiter; answer = Some Output })

abbrev pub poll : State → Moved
poll s = poll_by s.closed (is_going s) s.completed s

-- the same, but that the waker is registered now
abbrev pub look_again_by : Bool → Bool → Bool → State → Moved
look_again_by true true completed s = moved s (record nothing { answer = Some Pending })
look_again_by true false completed s = moved s (record nothing { awaiter = Some NotifyOther; answer = Some Closed })
look_again_by false going false s = moved s (record nothing { answer = Some Pending })
look_again_by false going true s = moved (record s { closed = true }) (record nothing { awaiter = notify_other_if s.awaiter; answer = Some Output })

abbrev pub look_again : State → Moved
look_again s = look_again_by s.closed (is_going s) s.completed s

-- somebody is notifying, or not
abbrev pub register_by : Bool → State → Moved
register_by true s = moved s (record nothing { awaiter = Some CallGiven; next = Some LookAgain })
register_by false s = moved (record s { registering = true }) (record nothing { awaiter = Some StoreCopy; next = Some EndRegister })

abbrev pub register : State → Moved
register s = register_by s.notifying s

-- somebody wanted to notify meanwhile, or not
abbrev pub end_register_by : Bool → State → Moved
end_register_by true s = moved (record s { awaiter = false; registering = false; notifying = false }) (record nothing { awaiter = Some CallStored; next = Some LookAgain })
end_register_by false s = moved (record s { awaiter = true; registering = false }) (record nothing { next = Some LookAgain })

abbrev pub end_register : State → Moved
end_register s = end_register_by s.notifying s

-- somebody else is at the awaiter, or not
abbrev pub notify_by : Bool → State → Moved
notify_by true s = moved (record s { notifying = true }) nothing
notify_by false s = moved (record s { notifying = true }) (record nothing { awaiter = Some TakeAwaiter; next = Some EndNotify })

abbrev pub notify : State → Moved
notify s = notify_by (s.notifying || s.registering) s

abbrev pub end_notify : State → Moved
end_notify s = moved (record s { awaiter = false; notifying = false }) (record nothing { awaiter = Some CallTaken })

-- the move of each kind
abbrev pub after : Move → State → Moved
after WakeByReference s = wake_by_reference s
after Wake s = wake s
after Copy s = copy s
after Release s = release s
after TakeUp s = take_up s
after SettleClosed s = settle_closed s
after GiveUp s = give_up s
after EndReady s = end_ready s
after EndPending s = end_pending s
after EndClosed s = end_closed s
after DropRunnable s = drop_runnable s
after Cancel s = cancel s
after Detach s = detach s
after Poll s = poll s
after LookAgain s = look_again s
after Register s = register s
after EndRegister s = end_register s
after Notify s = notify s
after EndNotify s = end_notify s

-- who makes such a move gives up, or passes on, a reference that it holds
abbrev pub HoldsReference : Move → State → Type 0
HoldsReference Release s = 0 < s.references
HoldsReference GiveUp s = 0 < s.references
HoldsReference EndPending s = 0 < s.references
HoldsReference _ s = Unit {0}
