-- What comes next in a call, by what was done and by what that saw. What was not seen leads to nothing.
use Rattle.std.specs.Prelude.{◌++◌, true, false, Option, Some, None, is_none, List, [], ◌∷◌}
use Rattle.task_moves.specs.declared.moves.owed.Answer.{Answer}
use Rattle.task_moves.specs.declared.moves.owed.Move.TheVariants as move
use Rattle.task_moves.specs.declared.moves.owed.Owed.{Owed}
use Rattle.call_steps.specs.declared.names.Look.TheVariants.{First}
use Rattle.call_steps.specs.declared.names.Section.{Section}
use Rattle.call_steps.specs.declared.names.Section.TheVariants.{MakeRun, Register, Unregister}
use Rattle.call_steps.specs.declared.names.Source.TheVariants.{Common}
use Rattle.call_steps.specs.declared.names.Then.TheVariants as then
use Rattle.call_steps.specs.declared.names.Waker.{Waker}
use Rattle.call_steps.specs.declared.names.Waker.TheVariants as waker
use Rattle.call_steps.specs.declared.reply.Reply.TheVariants as reply
use Rattle.call_steps.specs.declared.saw.Saw.{Saw}
use Rattle.call_steps.specs.declared.saw.Saw.TheVariants as saw
use Rattle.call_steps.specs.declared.step.CallStep.{CallStep}
use Rattle.call_steps.specs.declared.step.CallStep.TheVariants as step
use Rattle.call_steps.specs.declared.step.handle.HandleStep.{HandleStep}
use Rattle.call_steps.specs.declared.step.handle.HandleStep.TheVariants as handle_step
use Rattle.call_steps.specs.declared.step.handle.WakerStep.{WakerStep}
use Rattle.call_steps.specs.declared.step.handle.WakerStep.TheVariants as waker_step
use Rattle.call_steps.specs.declared.step.run.ListStep.{ListStep}
use Rattle.call_steps.specs.declared.step.run.ListStep.TheVariants as list_step
use Rattle.call_steps.specs.declared.step.run.RunStep.{RunStep}
use Rattle.call_steps.specs.declared.step.run.RunStep.TheVariants as run_step
use Rattle.call_steps.specs.declared.step.run.StealStep.{StealStep}
use Rattle.call_steps.specs.declared.step.run.StealStep.TheVariants as steal_step
use Rattle.call_steps.specs.declared.step.table.ClosingStep.{ClosingStep}
use Rattle.call_steps.specs.declared.step.table.ClosingStep.TheVariants as closing_step
use Rattle.call_steps.specs.declared.step.table.QueueStep.{QueueStep}
use Rattle.call_steps.specs.declared.step.table.QueueStep.TheVariants as queue_step
use Rattle.call_steps.specs.declared.step.table.TableStep.{TableStep}
use Rattle.call_steps.specs.declared.step.table.TableStep.TheVariants as table_step
use Rattle.call_steps.specs.declared.step.tick.SleeperStep.{SleeperStep}
use Rattle.call_steps.specs.declared.step.tick.SleeperStep.TheVariants as sleeper_step
use Rattle.call_steps.specs.declared.step.tick.TickStep.{TickStep}
use Rattle.call_steps.specs.declared.step.tick.TickStep.TheVariants as tick_step
use Rattle.call_steps.specs.declared.names.TickOrRun.TheVariants as tick_or_run
use Rattle.call_steps.specs.declared.step.user.UserStep.{UserStep}
use Rattle.call_steps.specs.declared.step.user.UserStep.TheVariants as user_step
use Rattle.call_steps.specs.Closing.{closed, closing, drained, leaking}
use Rattle.call_steps.specs.Looking.{mark_in, missed}
use Rattle.call_steps.specs.Owing.{answered, owed, released, told}
use Rattle.call_steps.specs.Sleeping.{asleep, found, found_by_run, found_by_tick, found_nothing}
use Rattle.call_steps.specs.Sleeping.{sleep_nowhere, tell, tell_and_return, took_turn}
use Rattle.call_steps.specs.Stealing.{of_length, put_refused, share, steal_on, stolen, walk_ends, walk_to}

module _ {F T : Type 0} where
  -- a move of this future's task
  abbrev pub next_move : F → Saw F T → List (CallStep F T)
  next_move f (saw.Moved there o) = owed there f o
  next_move f _ = []

  -- a waker is called
  abbrev pub next_call : Waker F → Saw F T → List (CallStep F T)
  next_call (waker.Task f) s = next_move f s
  next_call waker.Outside _ = step.User user_step.CallOutside ∷ []

  abbrev pub next_table : TableStep F → Saw F T → List (CallStep F T)
  next_table (table_step.Enter m) (saw.Entered f) = step.Queue (queue_step.Append f) ∷ step.End reply.Made ∷ []
  next_table (table_step.Enter m) saw.Full = step.End reply.Full ∷ []
  next_table (table_step.Enter m) saw.NoMemory = step.End reply.NoMemory ∷ []
  next_table table_step.LookAtTable saw.Nothing = step.End reply.Yes ∷ []
  next_table table_step.LookAtTable saw.Something = step.End reply.No ∷ []
  next_table (table_step.TakeToPoll f) _ = step.User (user_step.Poll f) ∷ []
  next_table (table_step.PutBack f) _ = step.Move move.EndPending f ∷ []
  next_table (table_step.TakeToDrop f) _ = step.User (user_step.BeginDrop f) ∷ []
  next_table (table_step.LeaveTable f) saw.Something = step.Move move.Release f ∷ []
  next_table _ _ = []

  abbrev pub next_queue : QueueStep F → Saw F T → List (CallStep F T)
  next_queue queue_step.TakeTurn (saw.Turn m) = step.Queue (queue_step.Take (First m)) ∷ []
  next_queue (queue_step.Take l) saw.Nothing =
      missed l (λ x. step.Queue (queue_step.Take x)) (step.End reply.No ∷ [])
  next_queue (queue_step.Take l) (saw.Found f) =
      step.Sleeper sleeper_step.ExchangeFlag ∷ step.Move move.TakeUp f ∷ step.End reply.Yes ∷ []
  next_queue (queue_step.Append f) saw.Something = tell
  next_queue (queue_step.Append f) saw.Nothing = step.Move move.DropRunnable f ∷ []
  next_queue _ _ = []

  abbrev pub next_user : UserStep F T → Saw F T → List (CallStep F T)
  next_user (user_step.Poll f) saw.Pending = step.Table (table_step.PutBack f) ∷ []
  next_user (user_step.Poll f) saw.Ready = step.User (user_step.BeginDrop f) ∷ step.Move move.EndReady f ∷ []
  next_user (user_step.BeginDrop f) _ = step.User (user_step.Drop f) ∷ step.Table (table_step.LeaveTable f) ∷ []
  next_user (user_step.BeginDropOutput f) _ = step.User (user_step.DropOutput f) ∷ []
  next_user (user_step.PollOwn x) saw.Pending = step.Tick (tick_step.Search (asleep x)) ∷ []
  next_user (user_step.PollOwn x) saw.Ready =
      step.User (user_step.DropOwn x.run) ∷ step.List (list_step.LockWrite (Unregister x.run reply.Ready)) ∷ []
  next_user _ _ = []

  abbrev pub next_waker : WakerStep F → Saw F T → List (CallStep F T)
  next_waker (waker_step.CopyWaker f) saw.Something = step.End reply.Made ∷ []
  next_waker (waker_step.CopyWaker f) saw.NoMemory = step.End reply.NoMemory ∷ []
  next_waker (waker_step.CopyWaker f) _ = []
  next_waker (waker_step.CallAwaiter f a) s = next_call a s

  -- the look of a poll of a handle: it answers, or registers its waker
  abbrev pub looked : Option Answer → F → Waker F → Owed → List (CallStep F T)
  looked None f a o = step.Handle (handle_step.CopyAwaiter f a) ∷ []
  looked (Some x) f a o = answered f o.awaiter x

  abbrev pub looked_again : Option Answer → F → Owed → List (CallStep F T)
  looked_again None f o = []
  looked_again (Some x) f o = answered f o.awaiter x

  abbrev pub next_handle : HandleStep F → Saw F T → List (CallStep F T)
  next_handle (handle_step.Look f a) (saw.Moved there o) = looked o.answer f a o
  next_handle (handle_step.CopyAwaiter f a) saw.Something = step.Handle (handle_step.Register f a) ∷ []
  next_handle (handle_step.CopyAwaiter f a) saw.NoMemory = step.End reply.NoMemory ∷ []
  next_handle (handle_step.Register f a) (saw.Awaiter true old) =
      step.Waker (waker_step.CallAwaiter f a) ∷ step.Handle (handle_step.LookAgain f) ∷ []
  next_handle (handle_step.Register f a) (saw.Awaiter false old) = step.Handle (handle_step.EndRegister f a) ∷ []
  next_handle (handle_step.EndRegister f a) (saw.Awaiter true old) =
      step.Waker (waker_step.CallAwaiter f a) ∷ released old ++ step.Handle (handle_step.LookAgain f) ∷ []
  next_handle (handle_step.EndRegister f a) (saw.Awaiter false old) =
      released old ++ step.Handle (handle_step.LookAgain f) ∷ []
  next_handle (handle_step.LookAgain f) (saw.Moved there o) = looked_again o.answer f o
  next_handle (handle_step.Notify f mine) (saw.Awaiter false old) = step.Handle (handle_step.EndNotify f mine) ∷ []
  next_handle (handle_step.EndNotify f mine) (saw.Awaiter same old) = told same f old
  next_handle (handle_step.LetGo f) (saw.Awaiter false old) = released old
  next_handle _ _ = []

  abbrev pub next_sleeper : SleeperStep F T → Saw F T → List (CallStep F T)
  next_sleeper sleeper_step.ExchangeFlag saw.Something = step.Sleeper sleeper_step.HandOut ∷ []
  next_sleeper sleeper_step.ExchangeFlag _ = []
  next_sleeper sleeper_step.HandOut (saw.HandedOut s) = step.Sleeper (sleeper_step.CallSleeper s) ∷ []
  next_sleeper sleeper_step.HandOut _ = []
  next_sleeper (sleeper_step.CallSleeper s) sees = next_call s.waker sees

  abbrev pub next_tick : TickStep F T → Saw F T → List (CallStep F T)
  next_tick tick_step.MakeTick saw.Something = step.End reply.Made ∷ []
  next_tick tick_step.MakeTick saw.NoMemory = step.End reply.NoMemory ∷ []
  next_tick (tick_step.Search s) saw.Nothing = found_nothing s.who s
  next_tick (tick_step.Search s) (saw.FoundBy f at) = found at s f
  next_tick (tick_step.Search s) (saw.Turn m) = took_turn s.who s m
  next_tick (tick_step.Look s l) saw.Nothing =
      missed l (λ x. step.Tick (tick_step.Look s x)) (step.Tick (tick_step.CopyWaker s) ∷ [])
  next_tick (tick_step.Look s l) (saw.FoundBy f at) = found_by_tick at.sleeps s.who f
  next_tick (tick_step.CopyWaker s) saw.Something = step.Tick (tick_step.FallAsleep s) ∷ []
  next_tick (tick_step.CopyWaker s) saw.NoMemory = step.End reply.NoMemory ∷ []
  next_tick (tick_step.FallAsleep s) saw.Anew = step.Tick (tick_step.Search s) ∷ []
  next_tick (tick_step.FallAsleep s) (saw.Already old) = released old ++ step.End reply.Pending ∷ []
  next_tick (tick_step.FallAsleep s) saw.Nowhere = sleep_nowhere s
  next_tick (tick_step.WakeUp who) (saw.Awake old) = released old
  next_tick (tick_step.Leave who) (saw.Left old) = released old ++ tell_and_return (is_none old)
  next_tick _ _ = []

  -- a section under the write lock of the list
  abbrev pub next_write : Section F T → Saw F T → List (CallStep F T)
  next_write MakeRun saw.Something = step.List list_step.UnlockWrite ∷ step.End reply.Made ∷ []
  next_write MakeRun saw.NoMemory =
      step.List list_step.UnlockWrite ∷ step.Run run_step.ReturnRoom ∷ step.End reply.NoMemory ∷ []
  next_write MakeRun _ = []
  next_write (Register x) saw.NoMemory = step.List list_step.UnlockWrite ∷ step.End reply.NoMemory ∷ []
  next_write (Register x) _ = step.List list_step.UnlockWrite ∷ step.User (user_step.PollOwn x) ∷ []
  next_write (Unregister r a) _ = step.List list_step.UnlockWrite ∷ step.Run (run_step.Reschedule r a) ∷ []

  abbrev pub next_list : ListStep F T → Saw F T → List (CallStep F T)
  next_list (list_step.LockWrite s) _ = step.List (list_step.Write s) ∷ []
  next_list (list_step.Write s) sees = next_write s sees
  next_list (list_step.LockRead x) saw.Nothing = walk_ends x
  next_list (list_step.LockRead x) (saw.Queue r left) = walk_to r left x
  next_list _ _ = []

  abbrev pub next_steal : StealStep F T → Saw F T → List (CallStep F T)
  next_steal (steal_step.Length s) (saw.Number n at) = of_length n at s
  next_steal (steal_step.OwnLength s n) (saw.Number free at) = steal_on (share n free) at s
  next_steal (steal_step.Take s more) (saw.StealEnds at) = stolen at s
  next_steal (steal_step.Take s more) (saw.Found f) = step.Steal (steal_step.Put s more f) ∷ []
  next_steal (steal_step.Put s more f) (saw.Fits at) = steal_on more at s
  next_steal (steal_step.Put s more f) (saw.Refused at) = put_refused s.then at s.poll f
  next_steal _ _ = []

  abbrev pub next_run : RunStep F T → Saw F T → List (CallStep F T)
  next_run run_step.MakeRoom saw.Something = step.List (list_step.LockWrite MakeRun) ∷ []
  next_run run_step.MakeRoom saw.NoMemory = step.End reply.NoMemory ∷ []
  next_run (run_step.TakeTurn x) (saw.Turn m) = step.Run (run_step.SearchCommon x (First m)) ∷ []
  next_run (run_step.SearchCommon x l) saw.Nothing =
      missed l (λ y. step.Run (run_step.SearchCommon x y)) (step.List (list_step.LockRead x) ∷ [])
  next_run (run_step.SearchCommon x l) (saw.Found f) =
      step.Steal (steal_step.Length (record { poll = x; from = Common (mark_in l); then = then.Found f })) ∷ []
  next_run (run_step.LookOwn x left) (saw.FoundBy f at) = step.List list_step.UnlockRead ∷ found_by_run at x f
  next_run (run_step.LookOwn x left) saw.Nothing = walk_ends x
  next_run (run_step.LookOwn x left) (saw.Queue r more) = walk_to r more x
  next_run (run_step.WakeOwn x) s = next_call x.waker s ++ step.End reply.Pending ∷ []
  next_run (run_step.Reschedule r a) saw.Nothing =
      step.Tick (tick_step.Leave (tick_or_run.Run r)) ∷ step.End a ∷ []
  next_run (run_step.Reschedule r a) (saw.Found f) =
      step.Queue (queue_step.Append f) ∷ step.Run (run_step.Reschedule r a) ∷ []
  next_run _ _ = []

  abbrev pub next_closing : ClosingStep → Saw F T → List (CallStep F T)
  next_closing closing_step.TakeOut (saw.Closes futures wakers) = closing futures wakers
  next_closing closing_step.DropNext (saw.Drops f futures wakers) =
      step.User (user_step.Drop f) ∷ closing futures wakers
  next_closing closing_step.WakeNext (saw.Wakes f there o wakers) = owed there f o ++ closing 0 wakers
  next_closing (closing_step.Close m) _ = closed m
  next_closing (closing_step.Drain m) (saw.Found f) =
      step.Move move.DropRunnable f ∷ step.Closing (closing_step.Drain m) ∷ []
  next_closing (closing_step.Drain m) saw.Nothing = drained m
  next_closing closing_step.LeakOut (saw.Closes futures wakers) = leaking wakers
  next_closing closing_step.LeakNext (saw.Wakes f there o wakers) = owed there f o ++ leaking wakers
  next_closing _ _ = []

  -- what follows a step of a call
  abbrev pub next : CallStep F T → Saw F T → List (CallStep F T)
  next (step.Move m f) s = next_move f s
  next (step.Table o) s = next_table o s
  next (step.Queue o) s = next_queue o s
  next (step.User o) s = next_user o s
  next (step.Waker o) s = next_waker o s
  next (step.Handle o) s = next_handle o s
  next (step.Sleeper o) s = next_sleeper o s
  next (step.Tick o) s = next_tick o s
  next (step.List o) s = next_list o s
  next (step.Steal o) s = next_steal o s
  next (step.Run o) s = next_run o s
  next (step.Closing o) s = next_closing o s
  next (step.End r) s = []
