-- What a step of a call does to an executor of one owner: each is a change that `solo` has a name for.
use Rattle.std.specs.Prelude.{ℕ, ◌%◌, nat_lt, Bool, true, false, Option, Some, None, slice_get}
use Rattle.executor_parts.specs.declared.places.EntryPlace.{EntryPlace}
use Rattle.executor_parts.specs.Places.{entry_in, set_future, future_of, parts_of, displaced}
use Rattle.executor_parts.specs.Sleepers.{last_waker, without_last, position_of, waker_of, put_to_sleep, listed}
use Rattle.task_moves.specs.declared.local_task.answers.Start.{Start}
use Rattle.task_moves.specs.declared.local_task.answers.Start.TheVariants.{Poll, Drop}
use Rattle.task_moves.specs.declared.local_task.answers.Finish.TheVariants.{Nothing as NoAwaiter}
use Rattle.task_moves.specs.declared.moves.owed.Move.{Move}
use Rattle.task_moves.specs.declared.moves.owed.Move.TheVariants as move
use Rattle.call_steps.specs.declared.names.Waker.{Waker}
use Rattle.call_steps.specs.declared.names.Waker.TheVariants as named
use Rattle.call_steps.specs.declared.reply.Reply.{Reply}
use Rattle.call_steps.specs.declared.step.CallStep.TheVariants as step
use Rattle.call_steps.specs.declared.step.handle.HandleStep.{HandleStep}
use Rattle.call_steps.specs.declared.step.handle.HandleStep.TheVariants as handle_step
use Rattle.call_steps.specs.declared.step.handle.WakerStep.{WakerStep}
use Rattle.call_steps.specs.declared.step.handle.WakerStep.TheVariants as waker_step
use Rattle.call_steps.specs.declared.names.Section.{Section}
use Rattle.call_steps.specs.declared.names.Section.TheVariants as section
use Rattle.call_steps.specs.declared.names.TickOrRun.{TickOrRun}
use Rattle.call_steps.specs.declared.names.TickOrRun.TheVariants as tick_or_run
use Rattle.call_steps.specs.declared.step.run.StealStep.{StealStep}
use Rattle.call_steps.specs.declared.step.run.StealStep.TheVariants as steal_step
use Rattle.call_steps.specs.declared.step.run.ListStep.{ListStep}
use Rattle.call_steps.specs.declared.step.run.ListStep.TheVariants as list_step
use Rattle.call_steps.specs.declared.step.run.RunStep.{RunStep}
use Rattle.call_steps.specs.declared.step.run.RunStep.TheVariants as run_step
use Rattle.call_steps.specs.declared.step.table.ClosingStep.{ClosingStep}
use Rattle.call_steps.specs.declared.step.table.ClosingStep.TheVariants as closing_step
use Rattle.call_steps.specs.declared.step.table.QueueStep.{QueueStep}
use Rattle.call_steps.specs.declared.step.table.QueueStep.TheVariants as queue_step
use Rattle.call_steps.specs.declared.step.table.TableStep.{TableStep}
use Rattle.call_steps.specs.declared.step.table.TableStep.TheVariants as table_step
use Rattle.call_steps.specs.declared.step.tick.SleeperStep.{SleeperStep}
use Rattle.call_steps.specs.declared.step.tick.SleeperStep.TheVariants as sleeper_step
use Rattle.call_steps.specs.declared.step.tick.TickStep.{TickStep}
use Rattle.call_steps.specs.declared.step.tick.TickStep.TheVariants as tick_step
use Rattle.call_steps.specs.declared.step.user.UserStep.{UserStep}
use Rattle.call_steps.specs.declared.step.user.UserStep.TheVariants as user_step
use Rattle.call_steps.specs.Looking.{mark_in}
use Rattle.solo.specs.declared.names.Task.{Task}
use Rattle.solo.specs.declared.names.SoloWaker.{SoloWaker}
use Rattle.solo.specs.declared.cells.After.{After}
use Rattle.solo.specs.declared.cells.After.TheVariants.{Queue, Rest, Drop as DropIt, Unknown}
use Rattle.solo.specs.declared.owed.Found.{Found}
use Rattle.solo.specs.declared.owed.Found.TheVariants.{Drop as Drops, Gone}
use Rattle.solo.specs.declared.ticks.Ticker.{Ticker}
use Rattle.solo.specs.declared.ticks.Ticker.TheVariants.{Awake, Asleep}
use Rattle.solo.specs.declared.solo.Solo.{Solo}
use Rattle.queue_steps.specs.ClosableQueue.{shut}
use Rattle.executor_parts.specs.declared.mark.Mark.{Mark}
use Rattle.solo.specs.Closing as closing
use Rattle.solo.specs.Lines as lines
use Rattle.solo.specs.Table.{first_parts}
use Rattle.solo.specs.Cells.{choose, asked}
use Rattle.solo.specs.Cells as cells
use Rattle.solo.specs.OwnQueues as own
use Rattle.solo.specs.Runs as runs
use Rattle.solo.specs.Steals.{kept, own_changed, own_popped, without_first}
use Rattle.solo.specs.Solo as solo
use Rattle.solo.specs.Turns.{turned, swept, lined, is_full, outside, poll_found, drop_found, without}
use Rattle.solo.specs.Ticks as ticks
use Rattle.solo.specs.Ticks.{its_room}
use Rattle.solo_laws.specs.Going.{Going, Step}
use Rattle.solo_laws.specs.Seen.{source_of, walk_at}

-- the first, where it is there
abbrev pub either : {B : Type 0} → Option B → Option B → Option B
either (Some b) otherwise = Some b
either None otherwise = otherwise

abbrev pub future_in : {F : Type 0} → Option (Option F × Option Task) → Option F
future_in None = None
future_in (Some parts) = parts.0

-- a task whose turn isn't there has nothing to poll or drop
abbrev pub gone_if : {F : Type 0} → Option (Start EntryPlace) → Found F → Found F
gone_if (Some start) found = found
gone_if None found = Gone

-- the walk goes on where nothing was found
abbrev pub walks_to : Option Task → ℕ → ℕ → ℕ
walks_to (Some task) here further = here
walks_to None here further = further

module _ {F T X : Type 0} where
  -- a step leaves this executor
  abbrev pub leaves : Solo F T X → Going F T X → Going F T X
  leaves s g = record g { solo = s }

  abbrev pub handed_back : Option Task → Going F T X → Going F T X
  handed_back task g = record g { out = record g.out { returned = task } }

  abbrev pub ready_by : Option T → Task → Going F T X → Going F T X
  ready_by (Some output) f g = record g {
    solo = turned (cells.ended_ready output) f g.solo;
    given = None;
    output = asked (cells.ready_drops output) (Some output) f g.solo.cells;
    awaiter = asked (cells.ready_calls output) None f g.solo.cells;
  }
  ready_by None f g = g

  -- the future is put back once its task has moved and stays; one whose task isn't known is handed out
  abbrev pub stays_at : EntryPlace → Option F → Going F T X → Going F T X
  stays_at place (Some future) g = record g {
    solo = record g.solo {
      table = record g.solo.table { entries = set_future place (Some future) g.solo.table.entries };
    };
    future = None;
    out = record g.out { future = displaced future (entry_in place g.solo.table.entries) };
  }
  stays_at place None g = g

  abbrev pub pending_by : After → EntryPlace → Going F T X → Going F T X
  pending_by DropIt place g = g
  pending_by Unknown place g = record g { future = None; out = record g.out { future = g.future } }
  pending_by Rest place g = stays_at place g.future g
  pending_by Queue place g = stays_at place g.future g

  abbrev pub pends : Option EntryPlace → Task → Going F T X → Going F T X
  pends (Some place) f g =
      pending_by
      (asked cells.pending_answer Unknown f g.solo.cells)
      place
      (leaves (turned (cells.ended_pending place) f g.solo) g)
  pends None f g = g

  abbrev pub ended : Task → Going F T X → Going F T X
  ended f g =
      let end = asked cells.finish_answer NoAwaiter f g.solo.cells in
      record g {
        solo = turned cells.finished f g.solo;
        awaiter = solo.called end;
        out = record g.out { old = solo.dropped end };
      }

  -- a task that is taken back is closed, and its future is in hand
  abbrev pub back_by : Option EntryPlace → Task → Solo F T X → Going F T X → Going F T X
  back_by (Some place) f s g = record g {
    solo = closing.out place s;
    retracts = false;
    place = Some place;
    future = future_of (entry_in place s.table.entries);
  }
  back_by None f s g = record g { solo = s; retracts = false }

  abbrev pub done_move : Move → Task → Going F T X → Going F T X
  done_move move.WakeByReference f g = leaves (turned cells.woken f g.solo) g
  done_move move.Wake f g = leaves (turned cells.released f (turned cells.woken f g.solo)) g
  done_move move.Release f g = leaves (turned cells.released f g.solo) g
  done_move move.Cancel f g =
      record g { solo = turned cells.cancelled f g.solo; awaiter = asked cells.cancel_calls None f g.solo.cells }
  done_move move.Detach f g =
      record g { solo = turned cells.detached f g.solo; output = asked cells.detach_drops None f g.solo.cells }
  done_move move.TakeUp f g = record g {
    solo = turned cells.started f g.solo;
    starts = asked cells.start_answer None f g.solo.cells;
    out = record g.out { found = gone_if (asked cells.start_answer None f g.solo.cells) g.out.found };
  }
  done_move move.EndReady f g = ready_by g.given f g
  done_move move.EndPending f g = pends g.place f g
  done_move move.SettleClosed f g = ended f g
  done_move move.EndClosed f g = ended f g
  done_move move.DropRunnable f g =
      choose g.retracts
      (back_by (asked cells.retract_answer None f g.solo.cells) f (turned cells.retracted f g.solo) g)
      (handed_back (Some f) g)
  done_move _ f g = g

  abbrev pub to_poll : Option (Start EntryPlace) → Task → Going F T X → Going F T X
  to_poll (Some (Poll place)) f g = record g {
    solo = closing.out place g.solo;
    starts = None;
    out = record g.out { found = poll_found f place (future_of (entry_in place g.solo.table.entries)) };
  }
  to_poll _ f g = g

  -- one in hand is the one to be dropped
  abbrev pub to_drop_in_hand : Option EntryPlace → Option F → Task → Going F T X → Going F T X
  to_drop_in_hand (Some place) (Some future) f g = record g {
    future = None;
    out = record g.out { found = Drops (record { task = f; place = place }) future };
  }
  to_drop_in_hand _ _ f g = g

  abbrev pub to_drop : Option (Start EntryPlace) → Task → Going F T X → Going F T X
  to_drop (Some (Drop place)) f g = record g {
    solo = closing.out place g.solo;
    starts = None;
    out = record g.out { found = drop_found f place (future_of (entry_in place g.solo.table.entries)) };
  }
  to_drop _ f g = to_drop_in_hand g.place g.future f g

  abbrev pub left_at : Option EntryPlace → Going F T X → Going F T X
  left_at (Some place) g = record g {
    solo = without place g.solo;
    out = record g.out { future = future_in (parts_of (entry_in place g.solo.table.entries)) };
  }
  left_at None g = g

  abbrev pub done_table : TableStep Task → Going F T X → Going F T X
  done_table (table_step.TakeToPoll f) g = to_poll g.starts f g
  done_table (table_step.TakeToDrop f) g = to_drop g.starts f g
  done_table (table_step.PutBack f) g = record g { back = None; future = g.back }
  done_table (table_step.LeaveTable f) g = left_at g.place g
  done_table _ g = g

  -- the first task leaves the queue of a mark
  abbrev pub popped : Mark → Solo F T X → Solo F T X
  popped mark s = record s { lines = lines.popped_from mark s.lines }

  abbrev pub turn_taken : Solo F T X → Solo F T X
  turn_taken s = record s { lines = lines.turned s.lines }

  abbrev pub done_queue : QueueStep Task → Going F T X → Going F T X
  done_queue queue_step.TakeTurn g = leaves (turn_taken g.solo) g
  done_queue (queue_step.Take look) g =
      leaves (popped (mark_in look) g.solo) g
  done_queue (queue_step.Append f) g = leaves (lined f g.solo) g

  abbrev pub done_user : UserStep Task ℕ → Going F T X → Going F T X
  done_user user_step.CallOutside g =
      record g { sleeper = None; out = record g.out { sleeper = either g.sleeper g.out.sleeper } }
  done_user (user_step.DropOutput f) g = record g { output = None; out = record g.out { output = g.output } }
  done_user _ g = g

  abbrev pub done_waker : WakerStep Task → Going F T X → Going F T X
  done_waker (waker_step.CallAwaiter f a) g =
      record g { awaiter = None; out = record g.out { awaiter = g.awaiter } }
  done_waker _ g = g

  abbrev pub done_handle : HandleStep Task → Going F T X → Going F T X
  done_handle (handle_step.LetGo f) g = ended f g
  done_handle _ g = g

  abbrev pub called : Waker Task → Going F T X → Going F T X
  called (named.Task f) g = leaves (turned cells.woken f g.solo) g
  called named.Outside g = g

  abbrev pub done_sleeper : SleeperStep Task ℕ → Going F T X → Going F T X
  done_sleeper sleeper_step.ExchangeFlag g = leaves (record g.solo { notified = true }) g
  done_sleeper sleeper_step.HandOut g =
      choose (is_full g.solo)
      (record g {
        solo = record g.solo { sleepers = without_last g.solo.sleepers };
        sleeper = outside (last_waker g.solo.sleepers.wakers);
      })
      g
  done_sleeper (sleeper_step.CallSleeper s) g = called s.waker g

  abbrev pub slept_anew : Bool → Option (SoloWaker X) → Going F T X → Going F T X
  slept_anew true (Some waker) g = record g {
    solo = ticks.stored (put_to_sleep waker g.solo.sleepers) g.solo;
    ticker = ticks.new_sleeper g.solo;
    waker = None;
    rests = true;
  }
  slept_anew _ _ g = g

  abbrev pub slept_again : Option ℕ → ℕ → Option (SoloWaker X) → Going F T X → Going F T X
  slept_again (Some at) number (Some waker) g = record g {
    solo = ticks.replaced at number waker g.solo;
    waker = None;
    out = record g.out { gone = outside (waker_of number g.solo.sleepers.wakers) };
  }
  slept_again None number (Some waker) g =
      choose (ticks.is_short g.solo)
      (record g { solo = ticks.stored (listed number waker g.solo.sleepers) g.solo; waker = None; rests = true })
      g
  slept_again _ number None g = g

  abbrev pub slept : Ticker → Going F T X → Going F T X
  slept (Awake room) g = slept_anew (nat_lt g.solo.sleepers.count g.solo.sleepers.rooms) g.waker g
  slept (Asleep sleeper) g =
      slept_again (position_of sleeper.number g.solo.sleepers.wakers) sleeper.number g.waker g

  abbrev pub gone_by : Ticker → Solo F T X → Solo F T X
  gone_by (Awake room) s = record s { sleepers = ticks.given_back s.sleepers }
  gone_by (Asleep sleeper) s = ticks.gone sleeper.number s

  abbrev pub searched : TickOrRun ℕ → Going F T X → Going F T X
  searched (tick_or_run.Tick t) g = leaves (turn_taken g.solo) g
  searched (tick_or_run.Run r) g = record g { solo = own_popped r g.solo; rests = true }

  abbrev pub done_tick : TickStep Task ℕ → Going F T X → Going F T X
  done_tick tick_step.MakeTick g = leaves (ticks.roomy g.solo) g
  done_tick (tick_step.Search s) g = searched s.who g
  done_tick (tick_step.Look s look) g =
      leaves (popped (mark_in look) g.solo) g
  done_tick (tick_step.CopyWaker s) g = g
  done_tick (tick_step.FallAsleep s) g = slept g.ticker g
  done_tick (tick_step.WakeUp who) g = record g {
    solo = ticks.up g.ticker g.solo;
    ticker = Awake its_room;
    out = record g.out { gone = outside (ticks.kept_by g.ticker g.solo) };
  }
  -- its room goes at once
  done_tick (tick_step.Leave who) g = record g {
    solo = gone_by g.ticker g.solo;
    ticker = Awake its_room;
    out = record g.out { gone = outside (ticks.kept_by g.ticker g.solo) };
  }

  -- the first of the wakers that were taken out of the table is called
  abbrev pub next_woken : Option Task → Going F T X → Going F T X
  next_woken (Some f) g = record g { solo = turned cells.woken f (closing.first_left g.solo); pauses = true }
  next_woken None g = leaves (closing.first_left g.solo) g

  abbrev pub next_dropped : Option (Option F × Option Task) → Going F T X → Going F T X
  next_dropped (Some parts) g = record g {
    solo = closing.to_wake parts.1 (closing.first_going g.solo);
    pauses = true;
    out = record g.out { future = parts.0 };
  }
  next_dropped None g = leaves (closing.first_going g.solo) g

  abbrev pub shut_at : Mark → Solo F T X → Solo F T X
  shut_at mark s = record s { lines = lines.with_line mark (shut (lines.line_of mark s.lines)) s.lines }

  -- a task that is found there is taken back
  abbrev pub drained_by : Option Task → Going F T X → Going F T X
  drained_by (Some f) g = record g { retracts = true; pauses = true }
  drained_by None g = g

  abbrev pub done_closing : ClosingStep → Going F T X → Going F T X
  done_closing closing_step.TakeOut g = leaves (closing.closed g.solo) g
  done_closing closing_step.DropNext g = next_dropped (first_parts g.solo.going.entries) g
  done_closing closing_step.WakeNext g = next_woken (slice_get g.solo.leaving.items 0) g
  done_closing (closing_step.Close mark) g = leaves (shut_at mark g.solo) g
  done_closing (closing_step.Drain mark) g =
      drained_by (lines.first_of mark g.solo.lines) (leaves (popped mark g.solo) g)
  done_closing closing_step.LeakOut g = leaves (closing.leaked g.solo) g
  done_closing closing_step.LeakNext g = next_woken (slice_get g.solo.leaving.items 0) g

  -- a section under the write lock of the list of own queues
  abbrev pub done_section : Section Task ℕ → Going F T X → Going F T X
  done_section section.MakeRun g = leaves (own_changed (own.opened g.solo.runs) g.solo) g
  done_section (section.Register x) g = leaves (own_changed (own.listed x.run g.solo.runs) g.solo) g
  done_section (section.Unregister r reply) g =
      record g { solo = own_changed (own.closed r g.solo.runs) g.solo; own = own.queue_of r g.solo.runs.queues }

  abbrev pub done_list : ListStep Task ℕ → Going F T X → Going F T X
  done_list (list_step.Write s) g = done_section s g
  done_list (list_step.LockRead x) g =
      let count = g.solo.runs.listed in
      record g { count = count; at = walk_at count x.run count (g.start % count) g.solo }
  done_list list_step.UnlockRead g = record g { count = 0; at = 0 }
  done_list _ g = g

  abbrev pub done_steal : StealStep Task ℕ → Going F T X → Going F T X
  done_steal (steal_step.Take st more) g = leaves (without_first (source_of st.from) g.solo) g
  done_steal (steal_step.Put st more f) g = leaves (kept st.poll.run f g.solo) g
  done_steal _ g = g

  abbrev pub done_run : RunStep Task ℕ → Going F T X → Going F T X
  done_run run_step.MakeRoom g = leaves (ticks.roomy g.solo) g
  done_run (run_step.TakeTurn x) g = leaves (turn_taken g.solo) g
  done_run (run_step.SearchCommon x look) g =
      leaves (popped (mark_in look) g.solo) g
  done_run (run_step.LookOwn x left) g = record g {
    solo = own_popped x.run g.solo;
    at = walks_to (own.first_of x.run g.solo.runs) g.at (walk_at g.count x.run left g.at (own_popped x.run g.solo));
  }
  done_run (run_step.Reschedule r reply) g = record g { own = runs.rest_left g.own; pauses = true }
  done_run _ g = g

  abbrev pub replied : Reply → Going F T X → Going F T X
  replied reply g = record g { out = record g.out { reply = Some reply } }

  abbrev pub does : Step → Going F T X → Going F T X
  does (step.Move m f) g = done_move m f g
  does (step.Table o) g = done_table o g
  does (step.Queue o) g = done_queue o g
  does (step.User o) g = done_user o g
  does (step.Waker o) g = done_waker o g
  does (step.Handle o) g = done_handle o g
  does (step.Sleeper o) g = done_sleeper o g
  does (step.Tick o) g = done_tick o g
  does (step.Closing o) g = done_closing o g
  does (step.List o) g = done_list o g
  does (step.Steal o) g = done_steal o g
  does (step.Run o) g = done_run o g
  does (step.End reply) g = replied reply g

  abbrev pub swept_by : Task → Going F T X → Going F T X
  swept_by f g = leaves (swept f g.solo) g

  abbrev pub after_call : Waker Task → Going F T X → Going F T X → Going F T X
  after_call (named.Task f) before g = handed_back before.out.returned g
  after_call named.Outside before g = g

  -- and what it does behind what follows: the cell of a task that is over goes; a sleeper's task that its queue turned away isn't
  -- handed out
  abbrev pub behind : Step → Going F T X → Going F T X → Going F T X
  behind (step.Move move.Wake f) before g = swept_by f g
  behind (step.Move move.Release f) before g = swept_by f g
  behind (step.Move move.Detach f) before g = swept_by f g
  behind (step.Move move.EndReady f) before g = swept_by f g
  behind (step.Move move.SettleClosed f) before g = swept_by f g
  behind (step.Move move.EndClosed f) before g = swept_by f g
  behind (step.Handle (handle_step.LetGo f)) before g = swept_by f g
  behind (step.Sleeper (sleeper_step.CallSleeper s)) before g = after_call s.waker before g
  behind _ before g = g
