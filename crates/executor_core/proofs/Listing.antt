-- What becomes of the runs, their own queues and the list of these in a store is what becomes of them in the model.
use Rattle.std.proofs.Common.{◌≡◌, ℕ, zero, suc, ◌<◌, ◌%◌, List, [], ◌∷◌, ◌++◌, length, Bool, refl, ap, ◌∙◌}
use Rattle.std.proofs.Common.{arith, Vec, Global}
use Rattle.executor_model.specs.declared.event.Event.{Event}
use Rattle.executor_model.specs.declared.event.Event.TheVariants as event
use Rattle.executor_model.specs.declared.op.RunPoll.{RunPoll}
use Rattle.executor_model.specs.ActsOfRuns.{kept_by, registered, unregistered, walk}
use Rattle.executor_model.specs.World.{Stage, New, Listed, Ended, new_run, run_of}
use Rattle.executor_core.specs.Running.{Running, listed_by, own_in, put_own_in, run_in, unlisted}
use Rattle.executor_core.specs.declared.store.Store.{Store}
use Rattle.executor_core.specs.Views.{world_of}
use Rattle.executor_core.proofs.Stealing.{with_runs}

module _ (s : Store) (r : ℕ) where
  listed-by : (k : Stage) → world_of (with_runs s (listed_by k r s.ticks_and_runs.runs)) ≡ registered k (world_of s) r
  listed-by New = refl
  listed-by Listed = refl
  listed-by Ended = refl

  -- a queue came into the list
  pub come : (rs : Running) (b : Bool) → rs ≡ record (listed_by (run_in s.ticks_and_runs.runs r).stage r s.ticks_and_runs.runs) {
    has_room = b;
  } → world_of (with_runs s rs) ≡ registered (run_of (world_of s) r).stage (world_of s) r
  come rs b q = ap (λ (v : Running). world_of (with_runs s v)) q ∙ listed-by (run_in s.ticks_and_runs.runs r).stage

  -- a queue went from it
  pub gone : (rs : Running) (b : Bool) → rs ≡ record (unlisted r s.ticks_and_runs.runs) { has_room = b } →
      world_of (with_runs s rs) ≡ unregistered (world_of s) r
  gone rs b q = ap (λ (v : Running). world_of (with_runs s v)) q

  -- a Runnable was appended to an own queue
  pub kept : (rs : Running) (trace : Vec Event Global) (p f : ℕ)
      → rs ≡ put_own_in s.ticks_and_runs.runs r (own_in s.ticks_and_runs.runs r ++ f ∷ [])
      → trace.items ≡ s.trace.items ++ event.Kept p f r ∷ []
      → world_of (record (with_runs s rs) { trace = trace }) ≡ kept_by p (world_of s) r f
  kept rs trace p f q e = λ i. record (world_of s) {
    runs = (q i).runs;
    own = (q i).own;
    listed = (q i).listed;
    lock = (q i).lock;
    trace = e i;
  }

-- one more run was made
pub one-more : (s : Store) (rs : Running)
    → rs.runs ≡ s.ticks_and_runs.runs.runs ++ new_run ∷ [] → rs.own ≡ s.ticks_and_runs.runs.own ++ [] ∷ []
    → rs.listed ≡ s.ticks_and_runs.runs.listed → rs.lock ≡ s.ticks_and_runs.runs.lock
    → world_of (with_runs s rs)
    ≡ record (world_of s) { runs = s.ticks_and_runs.runs.runs ++ new_run ∷ []; own = s.ticks_and_runs.runs.own ++ [] ∷ [] }
one-more s rs a b c d = λ i. record (world_of s) { runs = a i; own = b i; listed = c i; lock = d i }

module _ (x : RunPoll) (qs : List ℕ) (start at : ℕ) where
  -- where the list is empty the walk ends, wherever it begins
  walk-by : (n : ℕ) → (0 < n → at ≡ start % n) → walk x qs at n ≡ walk x qs (start % n) n
  walk-by zero h = refl
  walk-by (suc n) h = ap (λ (a : ℕ). walk x qs a (suc n)) (h (omega arith))

  pub walk-from : (n : ℕ) → n ≡ length qs → (0 < n → at ≡ start % n) →
      walk x qs at n ≡ walk x qs (start % length qs) (length qs)
  walk-from n e h = walk-by n h ∙ ap (λ (m : ℕ). walk x qs (start % m) m) e
