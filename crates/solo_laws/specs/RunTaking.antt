-- A run that finds a future of its own, or one that nobody keeps, takes it: what the plain scheduler's run takes.
use Rattle.std.specs.Prelude.{◌≡◌, ℕ, ◌≤◌, nat_lt, true, false, List, [], ◌∷◌, ◌++◌, length, slice_get, Some, None}
use Rattle.solo.specs.declared.names.Task.{Task}
use Rattle.solo.specs.declared.names.SoloWaker.{SoloWaker}
use Rattle.solo.specs.declared.names.SoloWaker.TheVariants.{Task as OfTask, Outside}
use Rattle.solo.specs.declared.owed.Lent.{Lent}
use Rattle.solo.specs.declared.runs.Runner.{Runner}
use Rattle.solo.specs.declared.solo.Solo.{Solo}
use Rattle.solo.specs.declared.steals.Source.TheVariants.{Common}
use Rattle.solo.specs.Lines.{mark_of_turn, search_answer}
use Rattle.solo.specs.OwnQueues as own
use Rattle.solo.specs.Runs as runs
use Rattle.solo.specs.Solo as solo
use Rattle.solo.specs.Steals as steals
use Rattle.plain_scheduler.specs.State.{Answers, ARun, Calls, Choice, Code, Event, Pending, Plain, PollOwn, Run, Who}
use Rattle.plain_scheduler.specs.Lists.{or}
use Rattle.plain_scheduler.specs.Takes.{next}
use Rattle.plain_scheduler.specs.Calls.{Pends, does}
use Rattle.solo_laws.specs.Numbered.{ticker_of}
use Rattle.solo_laws.specs.Road.{HasLife, IsNamed, wakes}
use Rattle.solo_laws.specs.Shown.{rings}
use Rattle.solo_laws.specs.Stealing.{share_of, so_many, stolen_marks}
use Rattle.solo_laws.specs.Tabled.{Stands, goes_on, named}
use Rattle.solo_laws.specs.Ticking.{IsTaken}

-- a search of the executor's queues leaves this: the run has stolen from the one where it found a task
abbrev pub searched_further : {F T X : Type 0} → ℕ → Solo F T X → Solo F T X
searched_further r s = steals.stolen (Common (search_answer s.lines).mark) r (solo.popped (steals.own_popped r s))

module _ {F T X : Type 0} where
  -- a waker is called, and stays
  abbrev pub woken_by : SoloWaker X → Solo F T X → Solo F T X
  woken_by (OfTask task) s = solo.woken task s
  woken_by (Outside waker) s = s

  abbrev pub wake_shows : SoloWaker X → Solo F T X → List (Event T (SoloWaker X))
  wake_shows (OfTask task) s = rings (solo.wake_answer task s).sleeper
  wake_shows (Outside waker) s = Calls (Outside waker) ∷ []

module _ {F T X : Type 0} (its : ℕ → Lent) (s : Solo F T X) (p : Plain T (SoloWaker X)) where
  -- after 200 a run calls its own waker, and is pending
  abbrev pub RunsGiveWay : Type 0
  RunsGiveWay =
      (c : Choice) (r : ℕ) (w : SoloWaker X) → nat_lt (or (slice_get p.runs r) (λ run. run.taken) 0) 200 ≡ false
      → ((t : Task) → w ≡ OfTask t → IsNamed (named its) (length p.futures) t) → length p.lying ≤ c.tells → HasLife 2 s.lines
      → let q = next wakes c (Run r w) p in
      Stands its (woken_by w s) q × (q.events ≡ p.events ++ (wake_shows w s ++ Answers Pending ∷ []))

module _ {F T X : Type 0} (its : ℕ → Lent) (number : Who → ℕ) (s : Solo F T X) (p : Plain T (SoloWaker X)) where
  -- the run's own future is pending, and there is a task in its own queue; at every 64th it then steals from both of the executor's
  abbrev pub RunsTakeOwn : Type 0
  RunsTakeOwn =
      (c : Choice) (runner : Runner) (w : SoloWaker X) (rest : List (Code T (SoloWaker X))) (start : ℕ) (task : Task)
      → p.inside ≡ PollOwn runner.number w ∷ rest → goes_on runner.number p ≡ true
      → own.first_of runner.number s.runs ≡ Some task
      → let ticker = ticker_of number (ARun runner.number) p.lying in
      let z = steals.own_popped runner.number s in
      c.keeps ≡ stolen_marks (runs.is_steal_due runner) runner.number (runs.told ticker z)
      → length p.lying ≤ c.tells → HasLife 5 s.lines
      → IsTaken its number s (record p { inside = rest }) (ARun runner.number) (Run runner.number w)
      (runs.found_answer runner ticker None task false z).ticked (runs.searched runner ticker start s) (does wakes c Pends p)

  -- there is none in its own queue, but in one of the executor's: from that one it steals first
  abbrev pub RunsTakeCommon : Type 0
  RunsTakeCommon =
      (c : Choice) (runner : Runner) (w : SoloWaker X) (rest : List (Code T (SoloWaker X))) (start : ℕ) (task : Task)
      → p.inside ≡ PollOwn runner.number w ∷ rest → goes_on runner.number p ≡ true
      → own.first_of runner.number s.runs ≡ None → solo.sought s ≡ Some task → c.first ≡ mark_of_turn s.lines.turn
      → let ticker = ticker_of number (ARun runner.number) p.lying in
      let mark = (search_answer s.lines).mark in
      let y = solo.popped (steals.own_popped runner.number s) in
      let z = searched_further runner.number s in
      c.keeps ≡ so_many (share_of (Common mark) runner.number y) mark
      ++ stolen_marks (runs.is_steal_due runner) runner.number (runs.told ticker z)
      → length p.lying ≤ c.tells → HasLife 5 s.lines
      → IsTaken its number s (record p { inside = rest }) (ARun runner.number) (Run runner.number w)
      (runs.found_answer runner ticker None task false z).ticked (runs.searched runner ticker start s) (does wakes c Pends p)
