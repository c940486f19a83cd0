-- Calls that ask for memory before they do anything else, and whether a trace tells of a want of memory last.
use Rattle.std.specs.Prelude.{◌≡◌, nat_lt, length, [], false, true, None}
use Rattle.executor_parts.specs.declared.mark.Mark.{Mark}
use Rattle.task_moves.specs.Moves as moves
use Rattle.executor_model.specs.declared.call.Call.{Call}
use Rattle.executor_model.specs.declared.call.Call.TheVariants as call
use Rattle.executor_model.specs.Steps.{Machine}
use Rattle.executor_model.specs.World.{World, queue_of, task}
use Rattle.machine_roads.specs.Seeing.{heard_in}
use Rattle.two_roads.specs.Refusing.{ends_refused}

-- a spawn where a place is free, a copy, the making of a tick or run, a poll of a handle that has to wait, and one of a tick that finds
-- nothing
abbrev pub AsksFirst : World → Call → Type 0
AsksFirst w (call.Spawn m) = nat_lt (length w.table) w.limit ≡ true
AsksFirst w (call.Copy k) = Unit {0}
AsksFirst w call.Keep = Unit {0}
AsksFirst w call.NewTick = Unit {0}
AsksFirst w call.NewRun = Unit {0}
AsksFirst w (call.PollHandle f b) = (moves.poll (task w f)).owed.answer ≡ None
AsksFirst w (call.PollTick t b) = (m : Mark) → (queue_of w m).items ≡ []
AsksFirst w c = ⊥

-- the trace tells of none last
abbrev pub IsCalm : Machine → Type 0
IsCalm s = ends_refused (heard_in s.world.trace) ≡ false
