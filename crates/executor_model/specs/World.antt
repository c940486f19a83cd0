-- The state of the machine without what its parties have still to do, and how small pieces of it change.
use Rattle.std.specs.Prelude.{ℕ, ◌==◌, Bool, true, false, Option, None, List, [], ◌∷◌, ◌++◌, slice_index_or, slice_set}
use Rattle.task_moves.specs.declared.moves.state.State.{State}
use Rattle.queue_steps.specs.ClosableQueue.{ClosableQueue}
use Rattle.executor_parts.specs.declared.mark.Mark.{Mark}
use Rattle.executor_parts.specs.declared.mark.Mark.TheVariants.{Plain}
use Rattle.executor_parts.specs.Sleepers.{Sleepers, flag_of}
use Rattle.executor_model.specs.declared.event.Event.{Event}
use Rattle.executor_model.specs.declared.op.Op.{Op}
use Rattle.executor_model.specs.declared.op.Awaiter.{Awaiter}
use Rattle.executor_model.specs.declared.op.TickOrRun.{TickOrRun}
use Rattle.executor_model.specs.declared.op.TickOrRun.TheVariants as tick_or_run
use Rattle.executor_model.specs.declared.op.Sleeping.{Sleeping}
use Rattle.executor_model.specs.Queues.{Queues, queue_in, with_queue, all_in}
use Rattle.executor_model.specs.Trace.{Trace}

-- a tick or run is awake, or is among the sleepers under this number, or has left them
pub data Ticker : Type 0 where
  Awake : Ticker
  Asleep : ℕ → Ticker
  Left : Ticker

-- a run was never polled; or its own queue is in the list; or that has gone from there, as its own future was ready or
-- the run is being dropped
pub data Stage : Type 0 where
  New : Stage
  Listed : Stage
  Ended : Stage

pub record Run : Type 0 where
  pub place : Ticker
  pub stage : Stage
  pub dropped : Bool
  -- how many it has taken since it last let others go first, and of those in its life how many since the last 64th
  pub taken : ℕ
  pub counted : ℕ

-- the lock of the list of queues: a writer has it, or so many readers
pub record Lock : Type 0 where
  pub writing : Bool
  pub readers : ℕ

pub record World : Type 0 where
  -- nobody drops the executor, and an entry of the table has no waker; else it has one
  pub is_static : Bool
  -- as many accepted futures may be undropped
  pub limit : ℕ
  -- by the numbers of the futures: what the task has of flags and count, its stored awaiter, whether the future is in its
  -- place in the table, and its mark
  pub tasks : List State
  pub awaiters : List (Option Awaiter)
  pub inside : List Bool
  pub marks : List Mark
  -- the Runnables, by their marks and futures; and so many turns look at the urgent ones first, before one looks at the
  -- plain ones first
  pub queues : Queues
  pub urgent_turns : ℕ
  -- the futures that have an entry in the table, in the order of acceptance
  pub table : List ℕ
  -- the futures that the executor's drop has taken out and not yet dropped, each with its waker,
  -- and the wakers of those that it has dropped and not yet woken
  pub leaving : List ℕ
  pub waking : List ℕ
  -- the kept wakers by number, each by its future; none where it was used up
  pub wakers : List (Option ℕ)
  -- the ticks by number
  pub ticks : List Ticker
  -- the runs by number, and the own queue of each: the Runnables, by their futures
  pub runs : List Run
  pub own : List (List ℕ)
  -- the runs whose own queues are in the list, in the order in which these came, and the lock of the list
  pub listed : List ℕ
  pub lock : Lock
  -- those that fall asleep, and the flag beside them
  pub sleepers : Sleepers Sleeping
  pub notified : Bool
  -- the executor's drop was begun
  pub gone : Bool
  pub trace : Trace

-- the end of one thing: the world after it, and what the party has still to do because of it, first things first
pub record Done : Type 0 where
  pub world : World
  pub next : List Op

-- no task
abbrev pub blank : State
blank = record {
  scheduled = false;
  running = false;
  completed = false;
  closed = false;
  handle = false;
  awaiter = false;
  registering = false;
  notifying = false;
  references = 0;
}

-- the task of future f
abbrev pub task : World → ℕ → State
task w f = slice_index_or w.tasks f blank

abbrev pub put : World → ℕ → State → World
put w f s = record w { tasks = slice_set w.tasks f s }

-- the awaiter that the task of future f keeps
abbrev pub awaiter_of : World → ℕ → Option Awaiter
awaiter_of w f = slice_index_or w.awaiters f None

abbrev pub put_awaiter : World → ℕ → Option Awaiter → World
put_awaiter w f a = record w { awaiters = slice_set w.awaiters f a }

-- the mark of future f
abbrev pub mark_of : World → ℕ → Mark
mark_of w f = slice_index_or w.marks f Plain

-- the executor's queue of this mark
abbrev pub queue_of : World → Mark → ClosableQueue ℕ
queue_of w m = queue_in m w.queues

abbrev pub put_queue : World → Mark → ClosableQueue ℕ → World
put_queue w m q = record w { queues = with_queue m q w.queues }

-- what stands in the executor's queues
abbrev pub queued_in : World → List ℕ
queued_in w = all_in w.queues

abbrev pub tick_of : World → ℕ → Ticker
tick_of w t = slice_index_or w.ticks t Left

abbrev pub new_run : Run
new_run = record { place = Awake; stage = New; dropped = false; taken = 0; counted = 0 }

-- no run
abbrev pub no_run : Run
no_run = record { place = Left; stage = Ended; dropped = true; taken = 0; counted = 0 }

abbrev pub run_of : World → ℕ → Run
run_of w r = slice_index_or w.runs r no_run

abbrev pub put_run : World → ℕ → Run → World
put_run w r x = record w { runs = slice_set w.runs r x }

-- the own queue of run r
abbrev pub own_of : World → ℕ → List ℕ
own_of w r = slice_index_or w.own r []

abbrev pub put_own : World → ℕ → List ℕ → World
put_own w r q = record w { own = slice_set w.own r q }

-- where a tick or run is
abbrev pub place_of : World → TickOrRun → Ticker
place_of w (tick_or_run.Tick t) = tick_of w t
place_of w (tick_or_run.Run r) = (run_of w r).place

abbrev pub ticks_with : List Ticker → TickOrRun → Ticker → List Ticker
ticks_with ts (tick_or_run.Tick t) x = slice_set ts t x
ticks_with ts (tick_or_run.Run r) x = ts

abbrev pub runs_with : List Run → TickOrRun → Ticker → List Run
runs_with rs (tick_or_run.Tick t) x = rs
runs_with rs (tick_or_run.Run r) x = slice_set rs r (record (slice_index_or rs r no_run) { place = x })

abbrev pub put_place : World → TickOrRun → Ticker → World
put_place w who x = record w { ticks = ticks_with w.ticks who x; runs = runs_with w.runs who x }

-- a section on the sleepers ends, and the flag is stored
abbrev pub put_sleepers : World → Sleepers Sleeping → World
put_sleepers w s = record w { sleepers = s; notified = flag_of s }

abbrev pub log : World → Event → World
log w e = record w { trace = w.trace ++ e ∷ [] }

abbrev pub log_if : Bool → World → Event → World
log_if true w e = log w e
log_if false w e = w

abbrev pub done : World → List Op → Done
done w next = record { world = w; next = next }

-- the list without its first f, if there is one
abbrev pub without : ℕ → List ℕ → List ℕ
without f [] = []
without f (g ∷ gs) = elim (f == g) [ true ↦ gs | false ↦ g ∷ without f gs ]

-- whether f is among them
abbrev pub among : ℕ → List ℕ → Bool
among f [] = false
among f (g ∷ gs) = elim (f == g) [ true ↦ true | false ↦ among f gs ]
