-- Steps of a search and of a steal, where what was read of a queue is known.
use Rattle.std.proofs.Common.{◌≡◌, ◌≢◌, ℕ, zero, suc, ◌-◌, false, List, [], ◌∷◌, ◌++◌, refl, sub-one}
use Rattle.task_moves.specs.declared.moves.owed.Move.TheVariants as move
use Rattle.executor_model.specs.declared.op.Op.{Op}
use Rattle.executor_model.specs.declared.op.Op.TheVariants as op
use Rattle.executor_model.specs.declared.op.RunPoll.{RunPoll}
use Rattle.executor_model.specs.declared.op.Then.{Then}
use Rattle.executor_model.specs.declared.op.Then.TheVariants as then
use Rattle.executor_model.specs.declared.op.TickOrRun.{TickOrRun}
use Rattle.executor_model.specs.declared.op.Steal.{Steal}
use Rattle.executor_model.specs.declared.op.StealOp.TheVariants as steal_op
use Rattle.executor_model.specs.ActsOfRuns.{behind, put_refused, steal_by, steal_length_by, stolen}
use Rattle.executor_model.specs.ActsOfSleepers.{found_by}
use Rattle.executor_model.specs.World.{World, Ticker, Awake, Asleep, Left, done}
use Rattle.executor_core.specs.Ticks.{is_asleep}
use Rattle.executor_core.specs.Running.{Running}
use Rattle.executor_core.specs.declared.store.Store.{Store}
use Rattle.executor_core.specs.WakingUp.{wakes_up}
use Rattle.executor_core.specs.Walks.{is_walk}

pub length-some : (n : ℕ) (w : World) (s : Steal) → n ≢ 0 →
    steal_length_by n w s ≡ done w (op.Steal (steal_op.OwnLength s n) ∷ [])
length-some zero w s h = absurd (h refl)
length-some (suc n) w s h = refl

pub left-some : (n : ℕ) (w : World) (s : Steal) → n ≢ 0 →
    steal_by n w s ≡ done w (op.Steal (steal_op.Take s (n - 1)) ∷ [])
left-some zero w s h = absurd (h refl)
left-some (suc n) w s h = rw sub-one refl

-- what a full own queue gave back is dropped, and the run goes on, but in a walk
pub refused-else : (t : Then) (w : World) (x : RunPoll) (f : ℕ) → is_walk t ≡ false →
    put_refused t w x f ≡ behind (op.Move move.DropRunnable f ∷ []) (stolen t w x)
refused-else (then.Walk at left) w x f e = absurd (cc)
refused-else t w x f e = refl

-- who sleeps wakes up first
pub wakes_up-found : (k : Ticker) (who : TickOrRun) (more : List Op) → found_by k who more ≡ wakes_up (is_asleep k) who ++ more
wakes_up-found Awake who more = refl
wakes_up-found (Asleep n) who more = refl
wakes_up-found Left who more = refl

-- the store with these runs
abbrev pub with_runs : Store → Running → Store
with_runs s rs = record s { ticks_and_runs = record s.ticks_and_runs { runs = rs } }
