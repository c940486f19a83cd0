-- For calls_do_what_they_say.
-- Calls do what they say: which call a thing to do serves that answers one.
use Rattle.std.proofs.Common.{ℕ, ◌==◌, Bool, true, false, ◌&&◌, cond}
use Rattle.executor_model.proofs.Types.{Call, HandleOp, ListOp, Op, QueueOp, RunOp, Section, TickOrRun, TableOp, TickOp, UserOp}
use Rattle.executor_model.proofs.Types.{WakerOp}
use Rattle.executor_model.specs.CallsMean.{is_reply}

abbrev pub spawns : Call → Bool
spawns (Call.Spawn mark) = true
spawns _ = false

abbrev pub tries : Call → Bool
tries Call.TryTick = true
tries _ = false

abbrev pub asks : Call → Bool
asks Call.IsEmpty = true
asks _ = false

abbrev pub copies : Call → Bool
copies (Call.Copy k) = true
copies Call.Keep = true
copies _ = false

abbrev pub polls_handle : ℕ → Call → Bool
polls_handle g (Call.PollHandle f b) = f == g
polls_handle g _ = false

abbrev pub makes_tick : Call → Bool
makes_tick Call.NewTick = true
makes_tick _ = false

abbrev pub makes_run : Call → Bool
makes_run Call.NewRun = true
makes_run _ = false

-- a poll of a tick or run
abbrev pub polls : Call → Bool
polls (Call.PollTick t b) = true
polls (Call.PollRun r b) = true
polls _ = false

abbrev pub polls_run : Call → Bool
polls_run (Call.PollRun r b) = true
polls_run _ = false

-- what a tick does is done in its polls, and what a run does in those of runs
abbrev pub polls_by : TickOrRun → Call → Bool
polls_by (TickOrRun.Tick t) c = polls c
polls_by (TickOrRun.Run r) c = polls_run c

-- which a run may be left in
abbrev pub leaves : Call → Bool
leaves (Call.PollRun r b) = true
leaves (Call.DropRun r) = true
leaves _ = false

abbrev pub serves_section : Section → Call → Bool
serves_section Section.MakeRun c = makes_run c
serves_section (Section.Register x) c = polls_run c
serves_section (Section.Unregister r a) c = leaves c && is_reply c a

abbrev pub serves_list : ListOp → Call → Bool
serves_list (ListOp.LockWrite s) c = serves_section s c
serves_list (ListOp.Write s) c = serves_section s c
serves_list (ListOp.LockRead x) c = polls_run c
serves_list _ c = true

abbrev pub serves_run : RunOp → Call → Bool
serves_run RunOp.MakeRoom c = makes_run c
serves_run RunOp.ReturnRoom c = true
serves_run (RunOp.Reschedule r a) c = leaves c && is_reply c a
serves_run _ c = polls_run c

abbrev pub serves_tick : TickOp → Call → Bool
serves_tick TickOp.MakeTick c = makes_tick c
serves_tick (TickOp.WakeUp who) c = true
serves_tick (TickOp.Leave who) c = true
serves_tick (TickOp.Search s) c = polls_by s.who c
serves_tick (TickOp.Look s look) c = polls_by s.who c
serves_tick (TickOp.CopyWaker s) c = polls_by s.who c
serves_tick (TickOp.FallAsleep s) c = polls_by s.who c

abbrev pub serves_handle : HandleOp → Call → Bool
serves_handle (HandleOp.Look f a) c = polls_handle f c
serves_handle (HandleOp.CopyAwaiter f a) c = polls_handle f c
serves_handle (HandleOp.Register f a k) c = polls_handle f c
serves_handle (HandleOp.EndRegister f a k) c = polls_handle f c
serves_handle (HandleOp.LookAgain f) c = polls_handle f c
serves_handle _ c = true

abbrev pub serves : Op → Call → Bool
serves (Op.Table (TableOp.Enter mark)) c = spawns c
serves (Op.Table TableOp.LookAtTable) c = asks c
serves (Op.Queue QueueOp.TakeTurn) c = tries c
serves (Op.Queue (QueueOp.Take look)) c = tries c
serves (Op.Waker (WakerOp.CopyWaker f held)) c = copies c
serves (Op.Handle o) c = serves_handle o c
serves (Op.Tick o) c = serves_tick o c
serves (Op.User (UserOp.PollOwn x)) c = polls_run c
serves (Op.List o) c = serves_list o c
serves (Op.Steal o) c = polls_run c
serves (Op.Run o) c = serves_run o c
serves (Op.End r held) c = is_reply c r
serves _ c = true

-- it serves another call
abbrev pub misfit : Call → Op → ℕ
misfit c o = cond (serves o c) 0 1
