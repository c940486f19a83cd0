-- How a run is polled, and ends, step by step.
use Rattle.std.specs.Prelude.{◌+◌, ◌==◌, ℕ, Bool, true, false, Option, Some, None, List, [], ◌∷◌}
use Rattle.async_task.specs.declared.cell.Identity.{Identity}
use Rattle.async_task.specs.declared.poll.Poll.{Poll}
use Rattle.async_task.specs.declared.poll.Poll.TheVariants.{Ready, Pending}
use Rattle.executor_parts.specs.declared.mark.Mark.{Mark}
use Rattle.call_steps.specs.Sleeping.{counted_by, found_by_run, run_by}
use Rattle.call_steps.specs.Stealing.{put_refused, stolen_as}
use Rattle.call_steps.specs.declared.names.RunPoll.{RunPoll}
use Rattle.call_steps.specs.declared.names.Section.TheVariants as section
use Rattle.call_steps.specs.declared.names.Source.{Source}
use Rattle.call_steps.specs.declared.names.Source.TheVariants.{Common}
use Rattle.call_steps.specs.declared.names.Stage.{Stage}
use Rattle.call_steps.specs.declared.names.Stage.TheVariants.{New, Listed, Ended}
use Rattle.call_steps.specs.declared.names.Steal.{Steal}
use Rattle.call_steps.specs.declared.names.Then.{Then}
use Rattle.call_steps.specs.declared.names.Then.TheVariants.{Found}
use Rattle.call_steps.specs.declared.names.TickOrRun.TheVariants.{Run}
use Rattle.call_steps.specs.declared.names.Waker.{Waker}
use Rattle.call_steps.specs.declared.reply.Reply.{Reply}
use Rattle.call_steps.specs.declared.reply.Reply.TheVariants as reply
use Rattle.call_steps.specs.declared.saw.Searcher.{Searcher}
use Rattle.call_steps.specs.declared.step.CallStep.{CallStep}
use Rattle.call_steps.specs.declared.step.CallStep.TheVariants as step
use Rattle.call_steps.specs.declared.step.run.ListStep.TheVariants as list_step
use Rattle.call_steps.specs.declared.step.run.RunStep.TheVariants as run_step
use Rattle.call_steps.specs.declared.step.run.StealStep.TheVariants as steal_step
use Rattle.call_steps.specs.declared.step.tick.SleeperStep.TheVariants as sleeper_step
use Rattle.call_steps.specs.declared.step.tick.TickStep.TheVariants as tick_step
use Rattle.call_steps.specs.declared.step.user.UserStep.TheVariants as user_step
use Rattle.async_executor.specs.declared.own_queues.RunRoom.{RunRoom}
use Rattle.async_executor.specs.declared.deeds.queues.FromQueues.{FromQueues}
use Rattle.async_executor.specs.Ticks.{sleeping}

abbrev pub Todo : Type 0
Todo = List (CallStep Identity (Unit {0}))

-- it has left the list of the runs' own queues, and its own was found empty then
abbrev pub has_ended : Option RunRoom → Bool → Bool
has_ended None is_drained = is_drained
has_ended (Some room) is_drained = false

-- at which stage a run is that has ended or not, and was put into the list or not
abbrev pub stage_by : Bool → Bool → Stage
stage_by true is_listed = Ended
stage_by false true = Listed
stage_by false false = New

-- the same where it is polled: it has ended where its future is gone
abbrev pub stage_polled : {G : Type 0} → Option G → Bool → Stage
stage_polled None is_listed = Ended
stage_polled (Some future) is_listed = stage_by false is_listed

-- a poll of a run with a waker of this name
abbrev pub poll_with : Waker Identity → RunPoll Identity (Unit {0})
poll_with w = record { run = tt; waker = w }

abbrev pub steal_with : Waker Identity → Source (Unit {0}) → Then Identity → Steal Identity (Unit {0})
steal_with w from then = record { poll = poll_with w; from = from; then = then }

-- a steal reads how many stand in its source; then, where there are some, how many stand in the own queue; and puts one there
abbrev pub reads_length : Waker Identity → Source (Unit {0}) → Then Identity → Todo
reads_length w from then = step.Steal (steal_step.Length (steal_with w from then)) ∷ []

abbrev pub reads_own_length : Waker Identity → Source (Unit {0}) → Then Identity → ℕ → Todo
reads_own_length w from then n = step.Steal (steal_step.OwnLength (steal_with w from then) n) ∷ []

abbrev pub puts : Waker Identity → Source (Unit {0}) → Then Identity → ℕ → Identity → Todo
puts w from then more f = step.Steal (steal_step.Put (steal_with w from then) more f) ∷ []

-- what is left once it found this in the executor's queue of this mark
abbrev pub found_common : Waker Identity → Mark → Identity → Todo
found_common w mark f = reads_length w (Common mark) (Found f)

-- once it looked into both
abbrev pub looked_common : Waker Identity → Option FromQueues → Todo
looked_common w None = step.List (list_step.LockRead (poll_with w)) ∷ []
looked_common w (Some both) = found_common w both.mark both.runnable.identity

-- in a walk: before its first queue, or once it stole from one with this many behind it
abbrev pub walks : Waker Identity → Option ℕ → Todo
walks w None = step.List (list_step.LockRead (poll_with w)) ∷ []
walks w (Some left) = step.Run (run_step.LookOwn (poll_with w) left) ∷ []

-- what is left once it stole: its own queue gave the Runnable of this future back, or none
abbrev pub robbed : Waker Identity → Then Identity → Searcher → Option Identity → Todo
robbed w then at None = stolen_as then at (poll_with w)
robbed w then at (Some f) = put_refused then at (poll_with w) f

-- its own queue had this in a walk, or nothing yet, with this many queues to go to
abbrev pub looked_walking : Searcher → Waker Identity → ℕ → Option Identity → Todo
looked_walking at w left None = step.Run (run_step.LookOwn (poll_with w) left) ∷ []
looked_walking at w left (Some f) = step.List list_step.UnlockRead ∷ found_by_run at (poll_with w) f

-- the search is over
abbrev pub searched_by_run : Searcher → Waker Identity → Option Identity → Todo
searched_by_run at w None = step.Tick (tick_step.CopyWaker (sleeping (Run tt) w)) ∷ []
searched_by_run at w (Some f) = found_by_run at (poll_with w) f

-- what was found is counted, and run
abbrev pub counts : Searcher → Waker Identity → Identity → Todo
counts at w f = counted_by (at.counted + 1 == 64) at (poll_with w) f

abbrev pub runs : Searcher → Waker Identity → Identity → Todo
runs at w f = run_by (at.taken + 1 == 200) (poll_with w) f

-- its own future was polled, and is ready: that is dropped, and the run leaves the executor
abbrev pub ends_ready : Todo
ends_ready = step.User (user_step.DropOwn tt) ∷ step.List (list_step.LockWrite (section.Unregister tt reply.Ready)) ∷ []

-- what is left once its own future was polled: where that is pending, it searches
abbrev pub polled_own : {O : Type 0} → Waker Identity → Poll O → Todo
polled_own w (Ready _) = ends_ready
polled_own w Pending = step.Tick (tick_step.Search (sleeping (Run tt) w)) ∷ []

-- a sleeper is notified of what was found, and then that is counted
abbrev pub tells : Searcher → Waker Identity → Identity → Todo
tells at w f = step.Sleeper sleeper_step.ExchangeFlag ∷ counts at w f

-- it was run: others go first, or it searches again
abbrev pub ran : Bool → Waker Identity → Todo
ran true w = step.Run (run_step.WakeOwn (poll_with w)) ∷ []
ran false w = step.Tick (tick_step.Search (sleeping (Run tt) w)) ∷ []

-- what is left once it has left the list, and its own queue was emptied
abbrev pub leaves_with : Reply → Todo
leaves_with reply = step.Tick (tick_step.Leave (Run tt)) ∷ step.End reply ∷ []
