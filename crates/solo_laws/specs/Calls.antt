-- Lists of calls of an executor of one owner. Whoever has it may make any, with any names: none has to be of this executor.
use Rattle.std.specs.Prelude.{◌≡◌, ◌⊎◌, ℕ, List, [], ◌∷◌, Ok, Err}
use Rattle.executor_parts.specs.declared.mark.Mark.{Mark}
use Rattle.task_moves.specs.declared.local_task.answers.Back.{Back}
use Rattle.solo.specs.declared.names.Task.{Task}
use Rattle.solo.specs.declared.names.SoloWaker.{SoloWaker}
use Rattle.solo.specs.declared.owed.Lent.{Lent}
use Rattle.solo.specs.declared.owed.Spawned.{Spawned}
use Rattle.solo.specs.declared.owed.SpawnError.{SpawnError}
use Rattle.solo.specs.declared.runs.Runner.{Runner}
use Rattle.solo.specs.declared.runs.Leaving.{Leaving}
use Rattle.solo.specs.declared.ticks.Ticker.{Ticker}
use Rattle.solo.specs.declared.solo.Solo.{Solo}
use Rattle.solo.specs.Solo as solo
use Rattle.solo.specs.Ticks as ticks
use Rattle.solo.specs.Runs as runs
use Rattle.solo.specs.Closing as closing

-- each call that changes something; of a spawn whether the future is accepted
pub data Call (F T X : Type 0) : Type 0 where
  Spawn : Mark → F → Call F T X
  SpawnRefused : Mark → F → Call F T X
  Take : Call F T X
  Settle : Lent → Back F T → Call F T X
  Finish : Lent → Call F T X
  Wake : Task → Call F T X
  WakeAndRelease : Task → Call F T X
  Hold : Task → Call F T X
  Release : Task → Call F T X
  Cancel : Task → Call F T X
  Detach : Task → Call F T X
  Poll : Task → SoloWaker X → Call F T X
  Retract : Task → Call F T X
  MakeTick : Call F T X
  TickTake : Ticker → SoloWaker X → Call F T X
  TickSearch : Ticker → Call F T X
  TickSleep : Ticker → SoloWaker X → Call F T X
  TickLeave : Ticker → Call F T X
  MakeRun : Call F T X
  RunBegin : Runner → Call F T X
  RunTake : Runner → Ticker → SoloWaker X → ℕ → Call F T X
  RunSearch : Runner → Ticker → ℕ → Call F T X
  RunLeave : Runner → Call F T X
  RunDrain : Leaving → Call F T X
  Leak : Call F T X
  LeakNext : Call F T X
  Close : Call F T X
  Drain : Call F T X

module _ {F T X : Type 0} where
  -- a call leaves this executor; the making of a tick or a run may be refused memory
  abbrev pub Does : Call F T X → Solo F T X → Solo F T X → Type 0
  Does (Spawn mark future) old new = (spawned : Spawned X) × solo.Spawns mark future old (Ok spawned) new
  Does (SpawnRefused mark future) old new = (refused : SpawnError F) × solo.Spawns mark future old (Err refused) new
  Does Take old new = new ≡ solo.taken old
  Does (Settle lent back) old new = new ≡ solo.settled lent back old
  Does (Finish lent) old new = new ≡ solo.finished lent old
  Does (Wake task) old new = new ≡ solo.woken task old
  Does (WakeAndRelease task) old new = new ≡ solo.woken_and_released task old
  Does (Hold task) old new = new ≡ solo.held task old
  Does (Release task) old new = new ≡ solo.released task old
  Does (Cancel task) old new = new ≡ solo.cancelled task old
  Does (Detach task) old new = new ≡ solo.detached task old
  Does (Poll task waker) old new = new ≡ solo.polled task waker old
  Does (Retract task) old new = new ≡ closing.retracted task old
  Does MakeTick old new = (new ≡ ticks.roomy old) ⊎ (new ≡ old)
  Does (TickTake ticker waker) old new = new ≡ ticks.taken ticker waker old
  Does (TickSearch ticker) old new = new ≡ ticks.searched ticker old
  Does (TickSleep ticker waker) old new = new ≡ ticks.slept ticker waker old
  Does (TickLeave ticker) old new = new ≡ ticks.left ticker old
  Does MakeRun old new = (new ≡ runs.made old) ⊎ (new ≡ old)
  Does (RunBegin runner) old new = new ≡ runs.begun runner old
  Does (RunTake runner ticker waker start) old new = new ≡ runs.took runner ticker waker start old
  Does (RunSearch runner ticker start) old new = new ≡ runs.searched runner ticker start old
  Does (RunLeave runner) old new = new ≡ runs.left runner old
  Does (RunDrain leaving) old new = new ≡ runs.drained leaving old
  Does Leak old new = new ≡ closing.leaked old
  Does LeakNext old new = new ≡ closing.leak_woken old
  Does Close old new = new ≡ closing.closed old
  Does Drain old new = new ≡ closing.drained old

  -- these calls, one after the other, lead from one to the other
  abbrev pub Course : List (Call F T X) → Solo F T X → Solo F T X → Type 0
  Course [] first last = last ≡ first
  Course (call ∷ calls) first last = (next : Solo F T X) × Does call first next × Course calls next last
