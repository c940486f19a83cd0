-- What a step of a call sees in an executor of one owner.
use Rattle.std.specs.Prelude.{ℕ, zero, suc, ◌%◌, nat_lt, Bool, true, false, not, Option, Some, None, is_some, length, slice_get}
use Rattle.executor_parts.specs.declared.places.EntryPlace.{EntryPlace}
use Rattle.executor_parts.specs.Places.{entry_in, future_of, parts_of}
use Rattle.executor_parts.specs.Sleepers.{last_waker, position_of, waker_of}
use Rattle.task_moves.specs.AbstractTask as abstract
use Rattle.task_moves.specs.Moves.{nothing}
use Rattle.task_moves.specs.declared.local_task.answers.Start.{Start}
use Rattle.task_moves.specs.declared.local_task.answers.Start.TheVariants.{Poll, Drop}
use Rattle.task_moves.specs.declared.local_task.answers.Finish.TheVariants.{Nothing as NoAwaiter}
use Rattle.task_moves.specs.declared.moves.owed.AwaiterDebt.{AwaiterDebt}
use Rattle.task_moves.specs.declared.moves.owed.AwaiterDebt.TheVariants.{NotifyAwaiter}
use Rattle.task_moves.specs.declared.moves.owed.FutureDebt.TheVariants.{PollFuture, DropFuture}
use Rattle.task_moves.specs.declared.moves.owed.Move.{Move}
use Rattle.task_moves.specs.declared.moves.owed.Move.TheVariants as move
use Rattle.task_moves.specs.declared.moves.owed.Owed.{Owed}
use Rattle.call_steps.specs.declared.names.Waker.{Waker}
use Rattle.call_steps.specs.declared.names.Waker.TheVariants as named
use Rattle.call_steps.specs.declared.names.TickOrRun.TheVariants as tick_or_run
use Rattle.call_steps.specs.declared.saw.Saw.{Saw}
use Rattle.call_steps.specs.declared.saw.Saw.TheVariants as saw
use Rattle.call_steps.specs.declared.saw.Searcher.{Searcher}
use Rattle.call_steps.specs.declared.step.CallStep.TheVariants as step
use Rattle.call_steps.specs.declared.step.handle.HandleStep.{HandleStep}
use Rattle.call_steps.specs.declared.step.handle.HandleStep.TheVariants as handle_step
use Rattle.call_steps.specs.declared.names.Section.{Section}
use Rattle.call_steps.specs.declared.names.Section.TheVariants as section
use Rattle.call_steps.specs.declared.names.Source.{Source as SourceName}
use Rattle.call_steps.specs.declared.names.Source.TheVariants as source
use Rattle.call_steps.specs.declared.names.TickOrRun.{TickOrRun}
use Rattle.call_steps.specs.declared.step.run.StealStep.{StealStep}
use Rattle.call_steps.specs.declared.step.run.StealStep.TheVariants as steal_step
use Rattle.call_steps.specs.declared.step.run.ListStep.{ListStep}
use Rattle.call_steps.specs.declared.step.run.ListStep.TheVariants as list_step
use Rattle.call_steps.specs.declared.step.run.RunStep.{RunStep}
use Rattle.call_steps.specs.declared.step.run.RunStep.TheVariants as run_step
use Rattle.call_steps.specs.declared.step.table.ClosingStep.{ClosingStep}
use Rattle.call_steps.specs.declared.step.table.ClosingStep.TheVariants as closing_step
use Rattle.call_steps.specs.declared.step.table.QueueStep.{QueueStep}
use Rattle.call_steps.specs.declared.step.table.QueueStep.TheVariants as queue_step
use Rattle.call_steps.specs.declared.step.table.TableStep.{TableStep}
use Rattle.call_steps.specs.declared.step.table.TableStep.TheVariants as table_step
use Rattle.call_steps.specs.declared.step.tick.SleeperStep.{SleeperStep}
use Rattle.call_steps.specs.declared.step.tick.SleeperStep.TheVariants as sleeper_step
use Rattle.call_steps.specs.declared.step.tick.TickStep.{TickStep}
use Rattle.call_steps.specs.declared.step.tick.TickStep.TheVariants as tick_step
use Rattle.call_steps.specs.Looking.{mark_in}
use Rattle.call_steps.specs.Seeing.{owes, seen}
use Rattle.solo.specs.declared.names.Task.{Task}
use Rattle.solo.specs.declared.names.SoloWaker.{SoloWaker}
use Rattle.solo.specs.declared.names.SoloWaker.TheVariants.{Task as OfTask, Outside}
use Rattle.solo.specs.declared.steals.Source.{Source}
use Rattle.solo.specs.declared.steals.Source.TheVariants.{Common, Own}
use Rattle.solo.specs.declared.ticks.Ticker.{Ticker}
use Rattle.solo.specs.declared.ticks.Ticker.TheVariants.{Awake, Asleep}
use Rattle.solo.specs.declared.solo.Solo.{Solo}
use Rattle.solo.specs.Lines.{first_of, mark_of_turn}
use Rattle.solo.specs.Cells.{Kept, choose, asked}
use Rattle.solo.specs.Cells as cells
use Rattle.solo.specs.Closing as closing
use Rattle.solo.specs.OwnQueues as own
use Rattle.solo.specs.Runs.{first_left}
use Rattle.solo.specs.Steals.{is_own, length_of, next_place, own_popped, first_of as source_first}
use Rattle.solo.specs.Solo as solo
use Rattle.solo.specs.Table.{first_parts}
use Rattle.solo.specs.Turns.{is_full, takes}
use Rattle.solo.specs.Ticks.{is_short, kept_by}
use Rattle.solo_laws.specs.Going.{Going, Step}

abbrev pub Seen : Type 0
Seen = Saw Task ℕ

-- the notify of who awaits it, if somebody does
abbrev pub notify : Bool → Option AwaiterDebt
notify true = Some NotifyAwaiter
notify false = None

-- the poll or the drop of its future
abbrev pub begins_by : Option (Start EntryPlace) → Owed
begins_by (Some (Poll place)) = record nothing { future = Some PollFuture }
begins_by (Some (Drop place)) = record nothing { future = Some DropFuture; next = Some move.SettleClosed }
begins_by None = nothing

-- how a poll ends that gave no output, where the task knows of it
abbrev pub ends_by : Option abstract.PendingEnd → Owed
ends_by (Some abstract.PendingEnd.Drops) = record nothing { future = Some DropFuture; next = Some move.EndClosed }
ends_by (Some abstract.PendingEnd.Queues) = record nothing { schedule = Some (record { woken_while_running = true }) }
ends_by (Some abstract.PendingEnd.Forgets) = record nothing { future = Some DropFuture; empty_cell = true }
ends_by (Some abstract.PendingEnd.Rests) = nothing
ends_by None = nothing

module _ {X : Type 0} where
  abbrev pub name_of : SoloWaker X → Waker Task
  name_of (OfTask task) = named.Task task
  name_of (Outside waker) = named.Outside

  abbrev pub name_if : Option (SoloWaker X) → Option (Waker Task)
  name_if None = None
  name_if (Some w) = Some (name_of w)

module _ {T X : Type 0} where
  abbrev pub poll_end : Kept T X → Option abstract.PendingEnd
  poll_end v = choose (cells.is_lent v) (Some (abstract.pending_end v.task)) None

-- the first of a queue
abbrev pub first : Option Task → Seen
first (Some task) = saw.Found task
first None = saw.Nothing

abbrev pub first_by : Bool → Option Task → Seen
first_by sleeps (Some task) = saw.FoundBy task (record { sleeps = sleeps; counted = 0; taken = 0 })
first_by sleeps None = saw.Nothing

abbrev pub found_or : Option Task → Searcher → Seen → Seen
found_or (Some task) at further = saw.FoundBy task at
found_or None at further = further

abbrev pub taken_or_ends : Option Task → Searcher → Seen
taken_or_ends (Some task) at = saw.Found task
taken_or_ends None at = saw.StealEnds at

abbrev pub source_of : SourceName ℕ → Source
source_of (source.Common mark) = Common mark
source_of (source.Own r) = Own r

abbrev pub sleeps : Ticker → Bool
sleeps (Awake room) = false
sleeps (Asleep sleeper) = true

abbrev pub has_waker : {F : Type 0} → Option (Option F × Option Task) → Bool
has_waker None = false
has_waker (Some parts) = is_some parts.1

-- whose future it is the executor knows by the waker that the entry counts; that of a static one counts none
abbrev pub named_by : Option Task → Task
named_by (Some task) = task
named_by None = record { key = 0; number = 0 }

module _ {X : Type 0} where
  -- by whom a sleeper is known nobody asks
  abbrev pub handed_out : Option (SoloWaker X) → Seen
  handed_out (Some w) = saw.HandedOut (record { waker = name_of w; who = tick_or_run.Tick 0 })
  handed_out None = saw.Nothing

abbrev pub seen_section : Section Task ℕ → Seen
seen_section section.MakeRun = saw.Something
seen_section _ = saw.Nothing

module _ {F T X : Type 0} where
  abbrev pub fell_again : Option ℕ → ℕ → Solo F T X → Seen
  fell_again (Some at) number s = saw.Already (name_if (waker_of number s.sleepers.wakers))
  fell_again None number s = choose (is_short s) saw.Anew saw.Nowhere

  abbrev pub fell_asleep : Ticker → Solo F T X → Seen
  fell_asleep (Awake room) s = choose (nat_lt s.sleepers.count s.sleepers.rooms) saw.Anew saw.Nowhere
  fell_asleep (Asleep sleeper) s = fell_again (position_of sleeper.number s.sleepers.wakers) sleeper.number s

  abbrev pub left_as : Ticker → Solo F T X → Seen
  left_as (Awake room) s = saw.Nothing
  left_as (Asleep sleeper) s = saw.Left (name_if (waker_of sleeper.number s.sleepers.wakers))

  -- a poll that gave this output
  abbrev pub seen_ready : Option T → Task → Going F T X → Seen
  seen_ready (Some output) f g =
      saw.Moved true
      (record nothing {
        drop_output = is_some (asked (cells.ready_drops output) (Some output) f g.solo.cells);
        awaiter = notify (is_some (asked (cells.ready_calls output) None f g.solo.cells));
      })
  seen_ready None f g = saw.Nothing

  -- a task that is taken back: its future is dropped, where it is in the table
  abbrev pub seen_back : Option EntryPlace → Solo F T X → Seen
  seen_back (Some place) s =
      saw.Moved
      (is_some (future_of (entry_in place s.table.entries)))
      (record nothing { future = Some DropFuture; next = Some move.SettleClosed })
  seen_back None s = saw.Nothing

  abbrev pub seen_end : Task → Going F T X → Seen
  seen_end f g =
      saw.Moved true
      (record nothing { awaiter = notify (is_some (solo.called (asked cells.finish_answer NoAwaiter f g.solo.cells))) })

  -- a waker is called
  abbrev pub seen_call : Waker Task → Going F T X → Seen
  seen_call (named.Task f) g =
      saw.Moved true
      (record (owes (asked cells.wake_queues false f g.solo.cells)) { next = Some move.Release })
  seen_call named.Outside g = saw.Outside

  -- a wake by a waker that goes is one move here, of which no release is owed
  abbrev pub seen_move : Move → Task → Going F T X → Seen
  seen_move move.WakeByReference f g = saw.Moved true (owes (asked cells.wake_queues false f g.solo.cells))
  seen_move move.Wake f g = saw.Moved true (owes (solo.wakes_or_closes f g.solo))
  seen_move move.Release f g = saw.Moved true (owes (asked cells.release_queues false f g.solo.cells))
  seen_move move.Cancel f g =
      saw.Moved true
      (record (owes (is_some (asked cells.cancel_queues None f g.solo.cells))) {
        awaiter = notify (is_some (asked cells.cancel_calls None f g.solo.cells));
      })
  seen_move move.Detach f g =
      saw.Moved true
      (record (owes (is_some (asked cells.detach_queues None f g.solo.cells))) {
        drop_output = is_some (asked cells.detach_drops None f g.solo.cells);
      })
  seen_move move.TakeUp f g = saw.Moved true (begins_by (asked cells.start_answer None f g.solo.cells))
  seen_move move.EndPending f g = saw.Moved true (ends_by (asked poll_end None f g.solo.cells))
  seen_move move.EndReady f g = seen_ready g.given f g
  seen_move move.SettleClosed f g = seen_end f g
  seen_move move.EndClosed f g = seen_end f g
  seen_move move.DropRunnable f g =
      choose g.retracts (seen_back (asked cells.retract_answer None f g.solo.cells) g.solo) saw.Nothing
  seen_move _ f g = saw.Nothing

  abbrev pub has_waker_at : Option EntryPlace → Solo F T X → Bool
  has_waker_at (Some place) s = has_waker (parts_of (entry_in place s.table.entries))
  has_waker_at None s = false

  abbrev pub seen_table : TableStep Task → Going F T X → Seen
  seen_table table_step.LookAtTable g = seen (not (solo.is_empty g.solo))
  seen_table (table_step.LeaveTable f) g = seen (has_waker_at g.place g.solo)
  seen_table _ g = saw.Nothing

  abbrev pub seen_queue : QueueStep Task → Going F T X → Seen
  seen_queue queue_step.TakeTurn g = saw.Turn (mark_of_turn g.solo.lines.turn)
  seen_queue (queue_step.Take look) g = first (first_of (mark_in look) g.solo.lines)
  seen_queue (queue_step.Append f) g = seen (takes f g.solo)

  abbrev pub seen_handle : HandleStep Task → Going F T X → Seen
  seen_handle (handle_step.EndNotify f mine) g = saw.Awaiter false (name_if g.awaiter)
  seen_handle _ g = saw.Awaiter false None

  abbrev pub seen_sleeper : SleeperStep Task ℕ → Going F T X → Seen
  seen_sleeper sleeper_step.ExchangeFlag g = seen (not g.solo.notified)
  seen_sleeper sleeper_step.HandOut g =
      choose (is_full g.solo) (handed_out (last_waker g.solo.sleepers.wakers)) saw.Nothing
  seen_sleeper (sleeper_step.CallSleeper s) g = seen_call s.waker g

  -- the one that searches
  abbrev pub searcher : Going F T X → Searcher
  searcher g = record { sleeps = sleeps g.ticker; counted = g.runner.counted; taken = g.runner.taken }

  abbrev pub seen_search : TickOrRun ℕ → Going F T X → Seen
  seen_search (tick_or_run.Tick t) g = saw.Turn (mark_of_turn g.solo.lines.turn)
  seen_search (tick_or_run.Run r) g = found_or (own.first_of r g.solo.runs) (searcher g) saw.Nothing

  -- the next queue that isn't the run's own, from this place on, where so many are still to go to
  abbrev pub walk_from : ℕ → ℕ → ℕ → ℕ → Solo F T X → Seen
  walk_from count r zero at s = saw.Nothing
  walk_from count r (suc more) at s =
      choose (is_own r at s) (walk_from count r more (next_place at count) s) (saw.Queue (own.number_at at s.runs.queues) more)

  -- the place behind it
  abbrev pub walk_at : ℕ → ℕ → ℕ → ℕ → Solo F T X → ℕ
  walk_at count r zero at s = at
  walk_at count r (suc more) at s =
      choose (is_own r at s) (walk_at count r more (next_place at count) s) (next_place at count)

  -- an own queue takes each task that a steal puts there, as no more are taken than it has places for
  abbrev pub seen_steal : StealStep Task ℕ → Going F T X → Seen
  seen_steal (steal_step.Length st) g = saw.Number (length_of (source_of st.from) g.solo) (searcher g)
  seen_steal (steal_step.OwnLength st n) g = saw.Number (own.free_of st.poll.run g.solo.runs) (searcher g)
  seen_steal (steal_step.Take st more) g = taken_or_ends (source_first (source_of st.from) g.solo) (searcher g)
  seen_steal (steal_step.Put st more f) g = saw.Fits (searcher g)

  abbrev pub seen_tick : TickStep Task ℕ → Going F T X → Seen
  seen_tick tick_step.MakeTick g = saw.Something
  seen_tick (tick_step.Search s) g = seen_search s.who g
  seen_tick (tick_step.Look s look) g = first_by (sleeps g.ticker) (first_of (mark_in look) g.solo.lines)
  seen_tick (tick_step.CopyWaker s) g = saw.Something
  seen_tick (tick_step.FallAsleep s) g = fell_asleep g.ticker g.solo
  seen_tick (tick_step.WakeUp who) g = saw.Awake (name_if (kept_by g.ticker g.solo))
  seen_tick (tick_step.Leave who) g = left_as g.ticker g.solo

  abbrev pub seen_next : Option Task → Solo F T X → Seen
  seen_next (Some f) s =
      saw.Wakes f true
      (record (owes (asked cells.wake_queues false f s.cells)) { next = Some move.Release })
      (length (closing.first_left s).leaving.items)
  seen_next None s = saw.Nothing

  abbrev pub seen_drop : Option (Option F × Option Task) → Solo F T X → Seen
  seen_drop (Some parts) s =
      saw.Drops
      (named_by parts.1)
      (length (closing.first_going s).going.entries)
      (length (closing.to_wake parts.1 s).leaving.items)
  seen_drop None s = saw.Nothing

  abbrev pub seen_closing : ClosingStep → Going F T X → Seen
  seen_closing closing_step.TakeOut g = saw.Closes (length g.solo.table.entries) (length g.solo.leaving.items)
  seen_closing closing_step.DropNext g = seen_drop (first_parts g.solo.going.entries) g.solo
  seen_closing closing_step.WakeNext g = seen_next (slice_get g.solo.leaving.items 0) g.solo
  seen_closing (closing_step.Close mark) g = saw.Nothing
  seen_closing (closing_step.Drain mark) g = first (first_of mark g.solo.lines)
  seen_closing closing_step.LeakOut g = saw.Closes 0 (length (closing.leaked g.solo).leaving.items)
  seen_closing closing_step.LeakNext g = seen_next (slice_get g.solo.leaving.items 0) g.solo

  abbrev pub seen_list : ListStep Task ℕ → Going F T X → Seen
  seen_list (list_step.Write s) g = seen_section s
  seen_list (list_step.LockRead x) g =
      walk_from g.solo.runs.listed x.run g.solo.runs.listed (g.start % g.solo.runs.listed) g.solo
  seen_list _ g = saw.Nothing

  abbrev pub seen_run : RunStep Task ℕ → Going F T X → Seen
  seen_run run_step.MakeRoom g = saw.Something
  seen_run (run_step.TakeTurn x) g = saw.Turn (mark_of_turn g.solo.lines.turn)
  seen_run (run_step.SearchCommon x look) g = first (first_of (mark_in look) g.solo.lines)
  seen_run (run_step.LookOwn x left) g =
      found_or (own.first_of x.run g.solo.runs) (searcher g) (walk_from g.count x.run left g.at (own_popped x.run g.solo))
  seen_run (run_step.Reschedule r reply) g = first (first_left g.own)
  seen_run _ g = saw.Nothing

  abbrev pub sees : Step → Going F T X → Seen
  sees (step.Move m f) g = seen_move m f g
  sees (step.Table o) g = seen_table o g
  sees (step.Queue o) g = seen_queue o g
  sees (step.Handle o) g = seen_handle o g
  sees (step.Sleeper o) g = seen_sleeper o g
  sees (step.Tick o) g = seen_tick o g
  sees (step.Closing o) g = seen_closing o g
  sees (step.List o) g = seen_list o g
  sees (step.Steal o) g = seen_steal o g
  sees (step.Run o) g = seen_run o g
  sees _ g = saw.Nothing
