-- When the world of the machine stands where the plain scheduler does, while no step is owed in it: each thing that the plain
-- scheduler knows is read off the world.
use Rattle.std.specs.Prelude.{◌≡◌, ℕ, ◌<◌, ◌-◌, ◌==◌, ◌||◌, Bool, true, false, List, [], ◌∷◌, length, map, filter, take, Option, None}
use Rattle.std.specs.Prelude.{is_some, slice_index_or, if◌then◌else◌}
use Rattle.task_moves.specs.declared.moves.state.State.{State}
use Rattle.executor_parts.specs.declared.mark.Mark.{Mark}
use Rattle.task_moves.specs.AbstractTask as abstract
use Rattle.executor_model.specs.declared.op.Awaiter.{Awaiter}
use Rattle.executor_model.specs.declared.op.Sleeping.{Sleeping}
use Rattle.executor_model.specs.declared.op.TickOrRun.{TickOrRun}
use Rattle.executor_model.specs.declared.op.TickOrRun.TheVariants as tick_or_run
use Rattle.executor_model.specs.declared.op.Waker.{Waker}
use Rattle.executor_model.specs.SleepersAgree.{sleeps}
use Rattle.executor_model.specs.World.{Asleep, Ended, Left, Listed, New, Run, Stage, Ticker, World, awaiter_of, mark_of, no_run, queue_of}
use Rattle.executor_model.specs.World.{own_of}
use Rattle.executor_model.specs.World as world
use Rattle.plain_scheduler.specs.State.{Close, Code, Due, Lying, Running, Who, ATick, ARun, Plain}
use Rattle.plain_scheduler.specs.Lists.{any, or}
use Rattle.plain_scheduler.specs.Moves.{is_called, is_common, is_kept, lies, task, mark}
use Rattle.plain_scheduler.specs.Calls.{living_from}
use Rattle.machine_roads.specs.View.{Output, task_in}
use Rattle.machine_roads.specs.Seeing.{heard_in, shown}

-- the due futures that pass a test
abbrev pub futures_in : (Due → Bool) → List Due → List ℕ
futures_in test due = map (λ d. d.future) (filter test due)

abbrev pub who_of : TickOrRun → Who
who_of (tick_or_run.Tick t) = ATick t
who_of (tick_or_run.Run r) = ARun r

-- who sleeps, and by which waker
abbrev pub sleeper : ℕ × Sleeping → Who × Waker
sleeper e = (who_of e.1.who, e.1.waker)

-- who lies and wasn't called
abbrev pub uncalled : List (Lying Waker) → List (Who × Waker)
uncalled [] = []
uncalled (l ∷ ls) = or l.waker (λ waker. (l.who, waker) ∷ uncalled ls) (uncalled ls)

-- nobody lies, or one that lies was called
abbrev pub is_told : List (Lying Waker) → Bool
is_told [] = true
is_told (l ∷ ls) = any is_called (l ∷ ls)

-- where a tick or run is
abbrev pub place_in : List Ticker → List Run → TickOrRun → Ticker
place_in ticks runs (tick_or_run.Tick t) = slice_index_or ticks t Left
place_in ticks runs (tick_or_run.Run r) = (slice_index_or runs r no_run).place

-- each of these sleeps under its number
abbrev pub AreNumbered : List Ticker → List Run → List (ℕ × Sleeping) → Type 0
AreNumbered ticks runs [] = Unit {0}
AreNumbered ticks runs (e ∷ es) = (place_in ticks runs e.1.who ≡ Asleep e.0) × AreNumbered ticks runs es

abbrev pub is_ended : Stage → Bool
is_ended New = false
is_ended Listed = false
is_ended Ended = true

-- a run by how many it has taken; it is over once its own future was ready, or the run is dropped
abbrev pub run_view : Run → Running
run_view x = record { taken = x.taken; is_over = x.dropped || is_ended x.stage }

-- with the 200th that a run takes the machine begins to count anew, and the plain scheduler once that has ended
abbrev pub counted_anew : Running → Running
counted_anew run = record run { taken = if run.taken == 200 then 0 else run.taken }

-- who is still to be woken behind the executor's drop: those that it has dropped
abbrev pub waking_in : List (Code Output Waker) → List ℕ
waking_in [] = []
waking_in (Close fs all ∷ codes) = take (length all - length fs) all
waking_in (code ∷ codes) = waking_in codes

-- an awaiter is stored where the marks say so, and nobody is at it
pub record IsStored (s : State) (kept : Option Awaiter) : Type 0 where
  pub awaiter : s.awaiter ≡ is_some kept
  pub registering : s.registering ≡ false
  pub notifying : s.notifying ≡ false

pub record Follows (w : World) (p : Plain Output Waker) : Type 0 where
  pub limit : w.limit ≡ p.limit
  pub kind : w.is_static ≡ p.is_static
  pub many : length w.tasks ≡ length p.futures
  pub places : length w.awaiters ≡ length w.tasks
  pub marked : length w.marks ≡ length w.tasks
  pub tasks : (f : ℕ) → f < length w.tasks → task f p ≡ task_in w f
  pub stored : (f : ℕ) → f < length w.tasks → IsStored (world.task w f) (awaiter_of w f)
  pub marks : (f : ℕ) → mark f p ≡ mark_of w f
  -- nobody awaits a future that is dropped
  pub calm : (f : ℕ) → f < length w.tasks → abstract.is_over (task f p).phase ≡ true → (task f p).awaiter ≡ None
  pub table : w.table ≡ living_from 0 p.futures
  -- class by class: in which order futures of two classes are due tells nothing
  pub common : (m : Mark) → (queue_of w m).items ≡ futures_in (is_common m) p.due
  pub kept : (r : ℕ) → own_of w r ≡ futures_in (is_kept r) p.due
  pub wakers : map sleeper w.sleepers.wakers ≡ uncalled p.lying
  pub count : w.sleepers.count ≡ length p.lying
  pub flag : w.notified ≡ is_told p.lying
  -- who sleeps lies, once, and nobody else does; and each waker is of who sleeps under its number
  pub asleep : (x : TickOrRun) → length (filter (lies (who_of x)) p.lying) ≡ sleeps (place_in w.ticks w.runs x)
  pub numbered : AreNumbered w.ticks w.runs w.sleepers.wakers
  pub runs : map run_view w.runs ≡ map counted_anew p.runs
  pub waking : w.waking ≡ waking_in p.inside
  pub seen : heard_in w.trace ≡ map shown p.events
