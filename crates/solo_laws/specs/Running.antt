-- A run that is made is one of the plain scheduler, also one that is refused; so is its poll, as its own future is polled, and its
-- drop.
use Rattle.std.specs.Prelude.{◌≡◌, ℕ, zero, suc, ◌+◌, ◌*◌, ◌<◌, ◌≤◌, true, false, List, [], ◌∷◌, ◌++◌, length, find, Option, Some, None}
use Rattle.queue_steps.specs.ClosableQueue.{most_accepted}
use Rattle.solo.specs.declared.names.SoloWaker.{SoloWaker}
use Rattle.solo.specs.declared.owed.Lent.{Lent}
use Rattle.solo.specs.declared.owed.Told.{Told}
use Rattle.solo.specs.declared.runs.Leaving.{Leaving}
use Rattle.solo.specs.declared.runs.RunLeft.{RunLeft}
use Rattle.solo.specs.declared.runs.RunLeft.TheVariants.{Scheduled, Gone}
use Rattle.solo.specs.declared.runs.Runner.{Runner}
use Rattle.solo.specs.declared.ticks.Ticker.{Ticker}
use Rattle.solo.specs.declared.solo.Solo.{Solo}
use Rattle.solo.specs.OwnQueues as own
use Rattle.solo.specs.Runs as runs
use Rattle.plain_scheduler.specs.State.{Answer, Answers, ARun, Choice, Code, Done, DropOwn, Event, Finished, Granted, Plain, PollOwn}
use Rattle.plain_scheduler.specs.State.{Ready, Who}
use Rattle.plain_scheduler.specs.Lists.{on, or}
use Rattle.plain_scheduler.specs.Moves.{lies}
use Rattle.plain_scheduler.specs.Calls.{DropRun, Ends, EndsWith, NewRun, PollRun, is_granted, does}
use Rattle.solo_laws.specs.Numbered.{IsNumbered, ticker_of}
use Rattle.solo_laws.specs.Road.{HasLife, wakes}
use Rattle.solo_laws.specs.Shown.{rings}
use Rattle.solo_laws.specs.Tabled.{Stands, goes_on}
use Rattle.solo_laws.specs.Ticking.{IsMade, IsRefused}

module _ {X : Type 0} where
  -- what a drain of a run that leaves hands out
  abbrev pub more_left : RunLeft X → Option Leaving
  more_left (Scheduled leaving told) = Some leaving
  more_left (Gone dropped) = None

  abbrev pub told_left : RunLeft X → Told X
  told_left (Scheduled leaving told) = told
  told_left (Gone dropped) = dropped.told

module _ {F T X : Type 0} where
  -- the owner drains until the run is gone, at most so often: each task of its own queue is scheduled, then it leaves the sleepers
  abbrev pub drains : ℕ → Leaving → Solo F T X → Solo F T X
  drains zero leaving s = s
  drains (suc n) leaving s = on (more_left (runs.drain_answer leaving s)) (drains n) (runs.drained leaving s)

  -- and calls whom it is handed
  abbrev pub drain_shows : ℕ → Leaving → Solo F T X → List (Event T (SoloWaker X))
  drain_shows zero leaving s = []
  drain_shows (suc n) leaving s =
      rings (told_left (runs.drain_answer leaving s)).sleeper
      ++ or (more_left (runs.drain_answer leaving s)) (λ more. drain_shows n more (runs.drained leaving s)) []

  -- from its leave on
  abbrev pub run_left : Ticker → Runner → Solo F T X → Solo F T X
  run_left ticker runner s =
      drains (suc (own.count_of runner.number s.runs)) (runs.leave_answer runner ticker s) (runs.left runner s)

  abbrev pub run_shows : Ticker → Runner → Solo F T X → List (Event T (SoloWaker X))
  run_shows ticker runner s =
      drain_shows (suc (own.count_of runner.number s.runs)) (runs.leave_answer runner ticker s) (runs.left runner s)

module _ {F T X : Type 0} (its : ℕ → Lent) (number : Who → ℕ) (s : Solo F T X) (p : Plain T (SoloWaker X)) where
  -- it has the next number, with an own queue of which it keeps nothing
  abbrev pub RunsBegin : Type 0
  RunsBegin =
      (c : Choice) → c.refusal ≡ Granted → length p.runs < most_accepted
      → IsMade its number s p (runs.made s) (does wakes c NewRun p) × ((runs.new_runner s.runs.made).number ≡ length p.runs)

  abbrev pub RunsAreUnmade : Type 0
  RunsAreUnmade = (c : Choice) → is_granted c.refusal ≡ false → IsRefused its number s p number s (does wakes c NewRun p)

  -- both stand so, with these users' codes, and show this
  pub record Reaches (inside : List (Code T (SoloWaker X))) (shown : List (Event T (SoloWaker X))) (z : Solo F T X)
      (q : Plain T (SoloWaker X)) : Type 0 where
    pub stands : Stands its z q
    pub numbered : IsNumbered number z.sleepers q.lying
    pub inside_is : q.inside ≡ inside
    pub seen : q.events ≡ p.events ++ shown

  -- a run that is polled polls its own future first, and others look at its own queue; one whose own future is over is finished
  abbrev pub RunsArePolled : Type 0
  RunsArePolled =
      (c : Choice) (runner : Runner) (w : SoloWaker X) → goes_on runner.number p ≡ true
      → Reaches (PollOwn runner.number w ∷ p.inside) [] (runs.begun runner s) (does wakes c (PollRun runner.number w) p)

  abbrev pub OversArePolled : Type 0
  OversArePolled =
      (c : Choice) (r : ℕ) (w : SoloWaker X) → goes_on r p ≡ false
      → Reaches p.inside (Answers Finished ∷ []) s (does wakes c (PollRun r w) p)

  -- its own future gives an output, and is dropped
  abbrev pub OwnsAreReady : Type 0
  OwnsAreReady =
      (c : Choice) (r : ℕ) (w : SoloWaker X) (v : T) (rest : List (Code T (SoloWaker X))) → p.inside ≡ PollOwn r w ∷ rest
      → Reaches (DropOwn r Ready ∷ rest) [] s (does wakes c (EndsWith v) p)

  -- a run that is dropped drops its own future first; one whose own future is over has none
  abbrev pub RunsAreDropped : Type 0
  RunsAreDropped =
      (c : Choice) (r : ℕ) → goes_on r p ≡ true → Reaches (DropOwn r Done ∷ p.inside) [] s (does wakes c (DropRun r) p)

  abbrev pub OversAreDropped : Type 0
  OversAreDropped =
      (c : Choice) (r : ℕ) → goes_on r p ≡ false → Reaches p.inside (Answers Done ∷ []) s (does wakes c (DropRun r) p)

  -- with this one gone, who is shown to be called
  pub record IsGone (who : Who) (shown : List (Event T (SoloWaker X))) (z : Solo F T X) (q : Plain T (SoloWaker X)) : Type 0 where
    pub stands : Stands its z q
    pub numbered : IsNumbered number z.sleepers q.lying
    pub gone : find (lies who) q.lying ≡ None
    pub seen : q.events ≡ p.events ++ shown

  -- the drop of its own future ends, and the owner has it leave: what it kept comes back
  abbrev pub RunsLeave : Type 0
  RunsLeave =
      (c : Choice) (runner : Runner) (answer : Answer T) (rest : List (Code T (SoloWaker X)))
      → p.inside ≡ DropOwn runner.number answer ∷ rest → goes_on runner.number p ≡ true
      → length p.lying ≤ c.tells → HasLife (3 * own.count_of runner.number s.runs + 5) s.lines
      → let ticker = ticker_of number (ARun runner.number) p.lying in
      IsGone (ARun runner.number) (run_shows ticker runner s ++ Answers answer ∷ []) (run_left ticker runner s) (does wakes c Ends p)
