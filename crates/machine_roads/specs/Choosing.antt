-- What the machine chooses in a call in which a run searches, and what a call leaves of the turn, and of what runs have counted.
use Rattle.std.specs.Prelude.{◌≡◌, ℕ, true, Some}
use Rattle.executor_parts.specs.Marks.{first_of}
use Rattle.executor_model.specs.declared.op.Waker.{Waker}
use Rattle.executor_model.specs.World.{World, run_of}
use Rattle.plain_scheduler.specs.State.{Choice, Plain}
use Rattle.plain_scheduler.specs.Lists.{any}
use Rattle.plain_scheduler.specs.Moves.{is_kept}
use Rattle.plain_scheduler.specs.Calls.{Call}
use Rattle.plain_scheduler.specs.Searches.{Search, finds, searches}
use Rattle.plain_scheduler.specs.Turns.{turns_of}
use Rattle.plain_scheduler.specs.Usual.{IsKeptByOthers, IsUsual, RobsAsUsual, counted_by, turned}
use Rattle.machine_roads.specs.View.{Output, wakes}

-- so many futures each run has counted
abbrev pub has_counted : World → ℕ → ℕ
has_counted w r = (run_of w r).counted

-- a run chooses as both executors do, from this starting word on, and robs one that keeps any; each counts what it takes, and the
-- call takes its turns
pub record Chooses (start : ℕ) (w v : World) (d : Choice) (call : Call Output Waker) (q : Plain Output Waker) : Type 0 where
  pub usual : IsUsual wakes d (first_of w.urgent_turns) (has_counted w) call q
  pub robs : (x : Search Output Waker) → searches wakes d call q ≡ Some x → finds x ≡ true → RobsAsUsual wakes d w.listed start x
  pub keeper : (x : Search Output Waker) → searches wakes d call q ≡ Some x → finds x ≡ true → IsKeptByOthers x.run x.at.due
      → any (is_kept d.robs) x.at.due ≡ true
  pub counted : (k : ℕ) → has_counted v k ≡ counted_by wakes d call q (has_counted w) k
  pub turns : v.urgent_turns ≡ turned (turns_of wakes d call q) w.urgent_turns
