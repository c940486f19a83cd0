-- Where a future is due and some tick or run stands, one that stands is called; and a run that keeps a due future is.
use Rattle.std.specs.Prelude.{◌≡◌, ℕ, false}
use Rattle.executor_model.specs.declared.call.Reply.TheVariants.{NoMemory}
use Rattle.executor_model.specs.declared.op.TickOrRun.{TickOrRun}
use Rattle.executor_model.specs.declared.op.TickOrRun.TheVariants.{Run}
use Rattle.executor_model.specs.AwaiterKept.{EndsWith, since}
use Rattle.executor_model.specs.Due.{IsDue}
use Rattle.executor_model.specs.Keeper.{IsKeeper}
use Rattle.executor_model.specs.Quiet.{IsQuiet}
use Rattle.executor_model.specs.Standing.{LastPolled, Stands, WasCalled, drops_sleeper}
use Rattle.executor_model.specs.Trace.{Trace, has}

-- its last poll was refused for want of memory
pub record WasRefused (who : TickOrRun) (trace : Trace) : Type 0 where
  pub party : ℕ
  pub poll : ℕ
  pub polled : LastPolled who party poll trace
  pub refused : EndsWith party NoMemory (since poll trace)

-- no tick or run that lives was refused memory at its last poll
abbrev pub NoneRefused : Trace → Type 0
NoneRefused trace = (who : TickOrRun) → has (drops_sleeper who) trace ≡ false → ¬ WasRefused who trace

-- a tick or run that stands and is called
pub record OneCalled (trace : Trace) : Type 0 where
  pub who : TickOrRun
  pub stands : Stands who trace
  pub called : WasCalled who trace

-- where no call is in progress, future f is due, who stands and none was refused, one that stands is called
abbrev pub SomeStandingIsCalled : ℕ → Trace → Type 0
SomeStandingIsCalled f trace =
    (who : TickOrRun) → IsQuiet trace → IsDue f trace → Stands who trace → NoneRefused trace → OneCalled trace

-- where no call is in progress, a run that keeps due future f stands and is called, unless its last poll was refused
abbrev pub KeeperIsCalled : ℕ → Trace → Type 0
KeeperIsCalled f trace =
    (r : ℕ) → IsQuiet trace → IsDue f trace → IsKeeper r f trace → ¬ WasRefused (Run r) trace →
    Stands (Run r) trace × WasCalled (Run r) trace
