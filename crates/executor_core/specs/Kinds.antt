-- The kinds of calls.
use Rattle.std.specs.Prelude.{Bool, true, false}
use Rattle.executor_model.specs.declared.call.Call.{Call}
use Rattle.executor_model.specs.declared.call.Call.TheVariants as call

-- a call on a handle
abbrev pub is_on_handle : Call → Bool
is_on_handle (call.PollHandle f by) = true
is_on_handle (call.Cancel f) = true
is_on_handle (call.Detach f) = true
is_on_handle (call.DropHandle f) = true
is_on_handle _ = false

-- that, or a call on a kept waker
abbrev pub is_on_kept : Call → Bool
is_on_kept (call.Wake k) = true
is_on_kept (call.WakeByRef k) = true
is_on_kept (call.Copy k) = true
is_on_kept (call.DropWaker k) = true
is_on_kept c = is_on_handle c

-- that, or a call on a run, or the making of one
abbrev pub is_on_run : Call → Bool
is_on_run call.NewRun = true
is_on_run (call.PollRun r by) = true
is_on_run (call.DropRun r) = true
is_on_run c = is_on_kept c

-- that, or a call on a tick, or the making of one
abbrev pub is_on_part : Call → Bool
is_on_part call.NewTick = true
is_on_part (call.PollTick t by) = true
is_on_part (call.DropTick t) = true
is_on_part c = is_on_run c
