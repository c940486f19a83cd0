-- How many more steps can be taken where no further call begins: a whole number that the machine's state determines.
-- A run's poll takes no more than 200 futures before it lets others go first, and each of its searches walks through
-- the list of queues once. So the number is that of the other steps, times what one walk takes at most, and what is
-- left of the walks that are on their way.
use Rattle.std.specs.Prelude.{◌≡◌, ℕ, ◌+◌, ◌-◌, ◌*◌, ◌<◌, ◌≤◌, Bool, true, false, ◌&&◌, ◌||◌, not}
use Rattle.std.specs.Prelude.{Option, Some, None, Ok, List, [], ◌∷◌, length, cond}
use Rattle.executor_parts.specs.Sleepers.{Sleepers}
use Rattle.task_moves.specs.declared.moves.state.State.{State}
use Rattle.executor_model.specs.declared.op.Awaiter.{Awaiter}
use Rattle.executor_model.specs.declared.op.Sleeping.{Sleeping}
use Rattle.executor_model.specs.declared.step.Step.{Step}
use Rattle.executor_model.specs.declared.step.Step.TheVariants.{Begin, Go, Answer}
use Rattle.executor_model.specs.Executions.{run_all}
use Rattle.executor_model.specs.Steps.{Machine, refusal, after}
use Rattle.executor_model.specs.Weights.{weigh_all}
use Rattle.executor_model.specs.World.{World, Ticker, Awake, Asleep, Left, Run, queued_in}
use Rattle.executor_laws.specs.Costs.{left_by, registers_of, steps_of, walk_of}

-- the steps that are left, but those of walks and steals

abbrev pub stored : List (Option Awaiter) → ℕ
stored [] = 0
stored (None ∷ rest) = stored rest
stored (Some a ∷ rest) = 1 + stored rest

-- whether the task keeps an output
abbrev pub keeps_output : State → ℕ
keeps_output s = cond (s.completed && not s.closed) 1 0

-- how many more Runnables may be appended before the task is taken up again, where it is over or not,
-- and scheduled or not: one by a wake, where it isn't scheduled, and one by who closes it
abbrev pub appends_by : Bool → Bool → ℕ
appends_by over scheduled = cond over 0 (cond scheduled 1 2)

abbrev pub appends_left : State → ℕ
appends_left s = appends_by (s.completed || s.closed) s.scheduled

-- the steps that a task may lead to: those of its output's drop, and of its appends
abbrev pub steps_of_task : State → ℕ
steps_of_task s = 3 * keeps_output s + 45 * appends_left s

abbrev pub steps_of_tasks : List State → ℕ
steps_of_tasks [] = 0
steps_of_tasks (s ∷ ss) = steps_of_task s + steps_of_tasks ss

-- how many sleepers were notified, and have no waker in the list: one that falls asleep again then searches once more
abbrev pub notified_of : Sleepers Sleeping → ℕ
notified_of s = s.count - length s.wakers

-- whether a tick or run is awake: one that falls asleep searches once more
abbrev pub up_of : Ticker → ℕ
up_of Awake = 1
up_of (Asleep n) = 0
up_of Left = 0

abbrev pub ups : List Ticker → ℕ
ups [] = 0
ups (x ∷ xs) = up_of x + ups xs

-- the steps of a run: it searches once more where it falls asleep, and may take so many futures until it lets others go
-- first
abbrev pub steps_of_place : Run → ℕ
steps_of_place x = 5 * up_of x.place + 160 * (200 - x.taken)

abbrev pub steps_of_runs : List Run → ℕ
steps_of_runs [] = 0
steps_of_runs (x ∷ xs) = steps_of_place x + steps_of_runs xs

-- entries of a table: where they have wakers, a leak may wake these
abbrev pub steps_of_leak : Bool → ℕ → ℕ
steps_of_leak true n = 0
steps_of_leak false n = 26 * n

-- the steps that what the machine keeps may lead to: its Runnables, entries of the table, wakers of the executor's
-- drop, stored awaiters, tasks, sleepers, ticks and runs
unfoldable pub steps_kept : World → ℕ
steps_kept w =
    11 * length (queued_in w) + (28 * (length w.table + length w.leaving) +
    (steps_of_leak w.is_static (length w.table + length w.leaving) + (26 * length w.waking +
    (26 * stored w.awaiters + (steps_of_tasks w.tasks + (5 * notified_of w.sleepers + (5 * ups w.ticks +
    steps_of_runs w.runs)))))))

-- of all: a Runnable that a run has still to schedule takes 46 steps, with what its append leads to
abbrev pub steps_left : Machine → ℕ
steps_left s = steps_kept s.world + (weigh_all steps_of s.parties + 46 * weigh_all (left_by s.world) s.parties)

-- the queues that are in the list, or that a poll is about to bring there: no walk goes to more
abbrev pub queues_of : Machine → ℕ
queues_of s = length s.world.listed + weigh_all registers_of s.parties

-- together: each of these steps leads to one walk or steal at most, which takes 1100 steps at most for each queue, and
-- as many beside
abbrev pub remaining : Machine → ℕ
remaining s = steps_left s * (1100 * (queues_of s + 1)) + weigh_all walk_of s.parties

-- the step goes on with what was begun
abbrev pub is_onward : Step → Bool
is_onward (Begin p c) = false
is_onward (Go p h) = true
is_onward (Answer p e) = true

abbrev pub are_onward : List Step → Bool
are_onward [] = true
are_onward (t ∷ ts) = is_onward t && are_onward ts

-- each possible step that begins no call lowers the number
abbrev pub LowersRemaining : Machine → Step → Type 0
LowersRemaining s t = is_onward t ≡ true → refusal s t ≡ None → remaining (after s t) < remaining s

abbrev pub EachStepLowers : Machine → Type 0
EachStepLowers s = (t : Step) → LowersRemaining s t

-- so as many such steps as that are taken at most, whoever takes them
abbrev pub EndsWithin : Machine → List Step → Type 0
EndsWithin s ts = (new : Machine) → are_onward ts ≡ true → run_all ts s ≡ Ok new → length ts ≤ remaining s

abbrev pub EachListEnds : Machine → Type 0
EachListEnds s = (ts : List Step) → EndsWithin s ts
