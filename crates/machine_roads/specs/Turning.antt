-- How many turns of the executor's two queues are taken in what a party does.
use Rattle.std.specs.Prelude.{◌≡◌, ℕ}
use Rattle.executor_model.specs.World.{World, run_of}
use Rattle.plain_scheduler.specs.Usual.{turned}

-- so many are, while what runs have counted stays, and so does the list of their queues
pub record TakesTurns (n : ℕ) (w v : World) : Type 0 where
  pub turn : v.urgent_turns ≡ turned n w.urgent_turns
  pub counted : (k : ℕ) → (run_of v k).counted ≡ (run_of w k).counted
  pub listed : v.listed ≡ w.listed
