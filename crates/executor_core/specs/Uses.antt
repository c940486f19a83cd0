-- What a call may use, as the model's numbers.
use Rattle.std.specs.Prelude.{ℕ}
use Rattle.executor_model.specs.declared.op.Hold.{Hold}
use Rattle.executor_model.specs.declared.op.Op.{Op}
use Rattle.executor_model.specs.Weights.{holds_executor, holds_handle, holds_waker, holds_tick, holds_run, holds_leak}
use Rattle.executor_model.specs.Rows.{borrowing_of, handling_of, leaking_of, lending_of, running_of, ticking_of}
use Rattle.executor_core.specs.declared.uses.Use.{Use}
use Rattle.executor_core.specs.declared.uses.Use.TheVariants.{Executor, Handle, Waker, Tick, Run, Leak}

abbrev pub held_of : Use → Hold → ℕ
held_of Executor held = holds_executor held
held_of (Handle f) held = holds_handle f held
held_of (Waker k) held = holds_waker k held
held_of (Tick t) held = holds_tick t held
held_of (Run r) held = holds_run r held
held_of Leak held = holds_leak held

abbrev pub use_of : Use → Op → ℕ
use_of Executor = borrowing_of
use_of (Handle f) = handling_of f
use_of (Waker k) = lending_of k
use_of (Tick t) = ticking_of t
use_of (Run r) = running_of r
use_of Leak = leaking_of
