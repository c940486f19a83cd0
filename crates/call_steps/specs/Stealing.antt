-- How a steal goes on, and a walk.
use Rattle.std.specs.Prelude.{ℕ, zero, suc, ◌+◌, ◌/◌, nat_lt, cond, Bool, true, false, List, [], ◌∷◌}
use Rattle.executor_parts.specs.declared.mark.Mark.TheVariants.{Plain}
use Rattle.task_moves.specs.declared.moves.owed.Move.TheVariants as move
use Rattle.call_steps.specs.declared.names.RunPoll.{RunPoll}
use Rattle.call_steps.specs.declared.names.Source.TheVariants.{Common, Own}
use Rattle.call_steps.specs.declared.names.Steal.{Steal}
use Rattle.call_steps.specs.declared.names.Then.{Then}
use Rattle.call_steps.specs.declared.names.Then.TheVariants as then
use Rattle.call_steps.specs.declared.saw.Searcher.{Searcher}
use Rattle.call_steps.specs.declared.step.CallStep.{CallStep}
use Rattle.call_steps.specs.declared.step.CallStep.TheVariants as step
use Rattle.call_steps.specs.declared.step.run.ListStep.TheVariants as list_step
use Rattle.call_steps.specs.declared.step.run.RunStep.TheVariants as run_step
use Rattle.call_steps.specs.declared.step.run.StealStep.TheVariants as steal_step
use Rattle.call_steps.specs.declared.step.tick.TickStep.TheVariants as tick_step
use Rattle.call_steps.specs.Sleeping.{asleep, found_by_run, run_found}

-- of so many about half, at most as many as places are free
abbrev pub share : ℕ → ℕ → ℕ
share n free = cond (nat_lt ((n + 1) / 2) free) ((n + 1) / 2) free

-- a steal goes on with a walk
abbrev pub is_walk : {F : Type 0} → Then F → Bool
is_walk (then.Walk left) = true
is_walk (then.Found f) = false
is_walk (then.StealPlain f) = false
is_walk (then.Run f) = false

module _ {F T : Type 0} where
  -- a steal has ended
  abbrev pub stolen_as : Then F → Searcher → RunPoll F T → List (CallStep F T)
  stolen_as (then.Found f) at x = found_by_run at x f
  stolen_as (then.StealPlain f) at x =
      step.Steal (steal_step.Length (record { poll = x; from = Common Plain; then = then.Run f })) ∷ []
  stolen_as (then.Run f) at x = run_found at x f
  stolen_as (then.Walk left) at x = step.Run (run_step.LookOwn x left) ∷ []

  abbrev pub stolen : Searcher → Steal F T → List (CallStep F T)
  stolen at s = stolen_as s.then at s.poll

  -- where the source is empty, nothing more is done
  abbrev pub of_length : ℕ → Searcher → Steal F T → List (CallStep F T)
  of_length zero at s = stolen at s
  of_length (suc n) at s = step.Steal (steal_step.OwnLength s (suc n)) ∷ []

  -- so many are still to be taken
  abbrev pub steal_on : ℕ → Searcher → Steal F T → List (CallStep F T)
  steal_on zero at s = stolen at s
  steal_on (suc more) at s = step.Steal (steal_step.Take s more) ∷ []

  -- a full own queue gave it back: the steal ends, and it is dropped once no lock is held. A walk ends with it, and the run
  -- searches anew
  abbrev pub put_refused : Then F → Searcher → RunPoll F T → F → List (CallStep F T)
  put_refused (then.Walk left) at x f =
      step.List list_step.UnlockRead ∷ step.Move move.DropRunnable f ∷ step.Tick (tick_step.Search (asleep x)) ∷ []
  put_refused t at x f = step.Move move.DropRunnable f ∷ stolen_as t at x

  -- the walk has no queue to go to any more
  abbrev pub walk_ends : RunPoll F T → List (CallStep F T)
  walk_ends x = step.List list_step.UnlockRead ∷ step.Tick (tick_step.CopyWaker (asleep x)) ∷ []

  -- it steals from the queue of this run
  abbrev pub walk_to : T → ℕ → RunPoll F T → List (CallStep F T)
  walk_to r left x = step.Steal (steal_step.Length (record { poll = x; from = Own r; then = then.Walk left })) ∷ []
