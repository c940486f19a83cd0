-- In which order a run of the step machine takes futures, read off its queues and its trace.
use Rattle.std.specs.Prelude.{◌≡◌, ℕ, ◌<◌, ◌==◌, true, false, if◌then◌else◌, List, [], ◌∷◌, ◌++◌, length, filter, drop}
use Rattle.executor_parts.specs.declared.mark.Mark.{Mark}
use Rattle.executor_parts.specs.declared.mark.Mark.TheVariants.{Plain as PlainMark}
use Rattle.executor_parts.specs.Marks.{same_mark}
use Rattle.executor_model.specs.declared.op.Waker.{Waker}
use Rattle.executor_model.specs.Steps.{Machine}
use Rattle.executor_model.specs.World.{World, mark_of, own_of, queue_of, run_of}
use Rattle.plain_scheduler.specs.State.{Choice, Plain}
use Rattle.plain_scheduler.specs.Calls.{Call}
use Rattle.plain_laws.specs.Order.{last_begun, line, takes_alone, was_polled, whole_line}
use Rattle.machine_roads.specs.Choosing.{has_counted}
use Rattle.machine_roads.specs.Road.{run_view}
use Rattle.machine_roads.specs.Seeing.{heard_in}
use Rattle.machine_roads.specs.View.{Output, wakes}
use Rattle.machine_roads.specs.Within.{Act, ActAlike}
use Rattle.two_roads.specs.Acting.{acts_by}

-- the futures of a mark that wait for run r, in order: those in its own queue, and behind them the executor's queue
abbrev pub wait_in : Mark → ℕ → World → List ℕ
wait_in m r w = filter (λ f. same_mark m (mark_of w f)) (own_of w r) ++ (queue_of w m).items

-- and all that wait, where none is urgent
abbrev pub all_wait_in : ℕ → World → List ℕ
all_wait_in r w = own_of w r ++ (queue_of w PlainMark).items

-- as the plain scheduler has them
abbrev pub line_of_mark : Mark → ℕ → Plain Output Waker → List ℕ
line_of_mark m r p = line m r p.due

abbrev pub line_of_all : ℕ → Plain Output Waker → List ℕ
line_of_all r p = whole_line r p.due

-- run r was made, and nothing stands in the own queue of another; in these acts none takes a future but run r, which goes in none of them
pub record IsAloneInActs (r : ℕ) (s : Machine) (q : Plain Output Waker) (acts : List Act) (go : ActAlike s q acts) : Type 0 where
  pub is_made : r < length s.world.runs
  pub others : (k : ℕ) → (r == k) ≡ false → own_of s.world k ≡ []
  pub takes_alone : takes_alone wakes r (acts_by s q acts go) q ≡ true

-- of the runs that were polled in these calls, only r isn't over
abbrev pub IsOnlyBegunInActs : ℕ → List (Choice × Call Output Waker) → World → Type 0
IsOnlyBegunInActs r cs w = (k : ℕ) → was_polled k cs ≡ true → (run_view (run_of w k)).is_over ≡ false → k ≡ r

-- of what run r takes in an act, and of what waits for it, these are looked at
module _ (r : ℕ) (of : Plain Output Waker → List ℕ → List ℕ) where
  -- the future that the run takes with an act, if it has counted another since: the one whose poll or drop the trace tells of last
  abbrev pub taken_with : World → World → Plain Output Waker → List ℕ
  taken_with w v q = of q (if has_counted w r == has_counted v r then [] else last_begun (heard_in v.trace))

  -- what it takes in acts, in order
  abbrev pub taken_in : (s : Machine) (q : Plain Output Waker) (acts : List Act) → ActAlike s q acts → List ℕ
  taken_in s q [] go = []
  taken_in s q (a ∷ acts) go = taken_with s.world a.left.world go.0 ++ taken_in a.left go.0 acts go.3

  -- what came in them: it stands behind as many as waited before the act. In some drops a call still owes what the plain scheduler has
  -- done, so that who waits there is as that has it
  abbrev pub come_in : (Plain Output Waker → List ℕ) → (s : Machine) (q : Plain Output Waker) (acts : List Act) → ActAlike s q acts → List ℕ
  come_in line s q [] go = []
  come_in line s q (a ∷ acts) go =
      drop (length (line q)) (taken_with s.world a.left.world go.0 ++ line go.0) ++ come_in line a.left go.0 acts go.3
