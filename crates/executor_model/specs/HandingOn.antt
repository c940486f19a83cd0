-- Who hands a Runnable on where a task is marked as scheduled.
use Rattle.std.specs.Prelude.{◌≡◌, ℕ, true, false, List, [], ◌∷◌, cond}
use Rattle.task_moves.specs.Moves.{is_over}
use Rattle.executor_model.specs.declared.op.Op.{Op}
use Rattle.executor_model.specs.declared.op.Op.TheVariants as op
use Rattle.executor_model.specs.declared.op.ClosingOp.TheVariants as closing_op
use Rattle.task_moves.specs.declared.moves.owed.Move.TheVariants as move
use Rattle.executor_model.specs.declared.op.RunOp.TheVariants as run_op
use Rattle.executor_model.specs.declared.op.SleeperOp.TheVariants as sleeper_op
use Rattle.executor_model.specs.declared.op.WakerOp.TheVariants as waker_op
use Rattle.executor_model.specs.declared.op.Waker.{Waker}
use Rattle.executor_model.specs.declared.op.Waker.TheVariants.{Task, Outside}
use Rattle.executor_model.specs.declared.step.Hint.{Hint}
use Rattle.executor_model.specs.World.{World, task}
use Rattle.executor_model.specs.Weights.{weigh}
use Rattle.executor_model.specs.Rows.{appends_of}
use Rattle.executor_model.specs.Doing.{act}
use Rattle.executor_model.specs.Steps.{Machine}
use Rattle.executor_model.specs.Sound.{pend, tokens}

abbrev pub handed_on : ℕ → Op → ℕ → Hint → World → ℕ
handed_on g o p h w = weigh (appends_of g) (act p h o w).next

abbrev pub IsFirst : ℕ → List ℕ → Type 0
IsFirst f [] = true ≡ false
IsFirst f (g ∷ gs) = f ≡ g

abbrev pub IsWakerOf : ℕ → Waker → Type 0
IsWakerOf f (Task g) = f ≡ g
IsWakerOf f (Outside x) = true ≡ false

-- each wake of f's task: by a waker that stays or goes, by the call of an awaiter, of a sleeper's waker or of a run's
-- own that is a waker of it, and by the executor's drop or leak
abbrev pub IsWakeOf : ℕ → World → Op → Type 0
IsWakeOf f w (op.Move move.WakeByReference g) = f ≡ g
IsWakeOf f w (op.Move move.Wake g) = f ≡ g
IsWakeOf f w (op.Waker (waker_op.CallAwaiter awaited a poll)) = IsWakerOf f a
IsWakeOf f w (op.Sleeper (sleeper_op.CallSleeper s)) = IsWakerOf f s.waker
IsWakeOf f w (op.Run (run_op.WakeOwn x)) = IsWakerOf f x.waker
IsWakeOf f w (op.Closing closing_op.WakeNext) = IsFirst f w.waking
IsWakeOf f w (op.Closing closing_op.LeakNext) = (w.gone ≡ false) × IsFirst f w.waking
IsWakeOf f w _ = true ≡ false

-- a wake that marks f's task hands on one Runnable, but none where the task is running, and then the end of the poll
-- does, unless the task is closed by then; a wake of a task that is marked or over hands on none
pub record HandsOn (w : World) (f p : ℕ) (h : Hint) : Type 0 where
  pub marks : (o : Op) → IsWakeOf f w o → is_over (task w f) ≡ false → (task w f).scheduled ≡ false →
      handed_on f o p h w ≡ cond (task w f).running 0 1
  pub at_the_end : (task w f).closed ≡ false → (task w f).scheduled ≡ true →
      handed_on f (op.Move move.EndPending f) p h w ≡ 1
  pub none_marked : (o : Op) → IsWakeOf f w o → (task w f).scheduled ≡ true → handed_on f o p h w ≡ 0
  pub none_over : (o : Op) → IsWakeOf f w o → is_over (task w f) ≡ true → handed_on f o p h w ≡ 0

-- f's task is open, and neither marked nor running
pub record IsIdle (w : World) (f : ℕ) : Type 0 where
  pub unscheduled : (task w f).scheduled ≡ false
  pub stopped : (task w f).running ≡ false
  pub incomplete : (task w f).completed ≡ false
  pub unclosed : (task w f).closed ≡ false

-- a task that is marked has one Runnable, run or closing call, and an idle one has none
pub record IsOnItsWay (s : Machine) (f : ℕ) : Type 0 where
  pub marked : (task s.world f).scheduled ≡ true → tokens s.world f (pend f s.parties) ≡ 1
  pub idle : IsIdle s.world f → tokens s.world f (pend f s.parties) ≡ 0
