-- What is only seen is nothing to the executor, nor the users' codes in which calls stand, where what they have in hand is out of
-- it.
use Rattle.std.proofs.Common.{ℕ, List, length}
use Rattle.solo.specs.declared.names.Task.{Task}
use Rattle.solo.specs.declared.names.SoloWaker.{SoloWaker}
use Rattle.solo.specs.declared.solo.Solo.{Solo}
use Rattle.plain_scheduler.specs.State.{Plain, Code, Event}
use Rattle.solo_laws.specs.Road.{Follows, IsInside}

module _ {F T X : Type 0} (name : ℕ → Task) where
  pub seen : (s : Solo F T X) (p : Plain T (SoloWaker X)) (events : List (Event T (SoloWaker X)))
      (inside : List (Code T (SoloWaker X)))
      → IsInside name (length p.futures) s.cells inside → Follows name s p
      → Follows name s (record p { events = events; inside = inside })
  seen s p events inside hands r = record {
    numbered = r.numbered;
    tasks = r.tasks;
    within = r.within;
    queued = r.queued;
    once = r.once;
    ready = r.ready;
    asleep = r.asleep;
    awaiters = r.awaiters;
    inside = hands;
  }
