-- A run that finds nothing of its own, nor in the executor's queues, walks round those of the other runs, and takes from the first of
-- these in which there is a task.
use Rattle.std.specs.Prelude.{◌≡◌, ℕ, zero, suc, ◌-◌, ◌%◌, ◌≤◌, true, false, List, ◌∷◌, length, Some, None}
use Rattle.solo.specs.declared.names.Task.{Task}
use Rattle.solo.specs.declared.names.SoloWaker.{SoloWaker}
use Rattle.solo.specs.declared.owed.Lent.{Lent}
use Rattle.solo.specs.declared.runs.Runner.{Runner}
use Rattle.solo.specs.declared.steals.Source.TheVariants.{Own}
use Rattle.solo.specs.declared.solo.Solo.{Solo}
use Rattle.solo.specs.Lines.{mark_of_turn}
use Rattle.solo.specs.OwnQueues as own
use Rattle.solo.specs.Runs as runs
use Rattle.solo.specs.Solo as solo
use Rattle.solo.specs.Steals as steals
use Rattle.plain_scheduler.specs.State.{ARun, Choice, Code, Plain, PollOwn, Run, Who}
use Rattle.plain_scheduler.specs.Lists.{or}
use Rattle.plain_scheduler.specs.Calls.{Pends, does}
use Rattle.solo_laws.specs.Numbered.{ticker_of}
use Rattle.solo_laws.specs.Road.{HasLife, wakes}
use Rattle.solo_laws.specs.Stealing.{share_of, stolen_marks}
use Rattle.solo_laws.specs.Tabled.{goes_on}
use Rattle.solo_laws.specs.Ticking.{IsTaken}

module _ {F T X : Type 0} where
  -- the run from which a walk takes, so many places on from this one, and what the executor is before it does
  abbrev pub robbed_on : ℕ → ℕ → ℕ → ℕ → Solo F T X → ℕ × Solo F T X
  robbed_on count r zero at s = (0, s)
  robbed_on count r (suc left) at s =
      or (steals.look_answer r at s) (λ task. (own.number_at at s.runs.queues, s))
      (robbed_on count r left (steals.next_place at count) (steals.looked r at s))

  abbrev pub robbed : ℕ → ℕ → Solo F T X → ℕ × Solo F T X
  robbed r start s = robbed_on s.runs.listed r s.runs.listed (start % s.runs.listed) s

  -- and how many more it moves
  abbrev pub robs_more : ℕ → ℕ → Solo F T X → ℕ
  robs_more r start s = share_of (Own (robbed r start s).0) r (robbed r start s).1 - 1

  -- once neither its own queue nor the executor's have any
  abbrev pub searched_none : ℕ → Solo F T X → Solo F T X
  searched_none r s = solo.popped (steals.own_popped r s)

module _ {F T X : Type 0} (its : ℕ → Lent) (number : Who → ℕ) (s : Solo F T X) (p : Plain T (SoloWaker X)) where
  -- the run's own future is pending, and the walk finds a task
  abbrev pub RunsTakeKept : Type 0
  RunsTakeKept =
      (c : Choice) (runner : Runner) (w : SoloWaker X) (rest : List (Code T (SoloWaker X))) (start : ℕ) (task : Task)
      → p.inside ≡ PollOwn runner.number w ∷ rest → goes_on runner.number p ≡ true
      → own.first_of runner.number s.runs ≡ None → solo.sought s ≡ None → c.first ≡ mark_of_turn s.lines.turn
      → let y = searched_none runner.number s in
      let z = steals.walked runner.number start y in
      let ticker = ticker_of number (ARun runner.number) p.lying in
      (steals.whole_round runner.number start y).0 ≡ Some task → c.robs ≡ (robbed runner.number start y).0
      → c.moves ≡ robs_more runner.number start y
      → c.keeps ≡ stolen_marks (runs.is_steal_due runner) runner.number (runs.told ticker z)
      → length p.lying ≤ c.tells → HasLife 5 s.lines
      → IsTaken its number s (record p { inside = rest }) (ARun runner.number) (Run runner.number w)
      (runs.found_answer runner ticker None task false z).ticked (runs.searched runner ticker start s) (does wakes c Pends p)
