-- A run that finds nothing lies down: it falls asleep with a copy of its waker, and where it lies anew it looks once more.
use Rattle.std.specs.Prelude.{◌≡◌, ℕ, suc, ◌≤◌, nat_lt, true, false, List, [], ◌∷◌, length, None, Some, slice_get}
use Rattle.solo.specs.declared.names.SoloWaker.{SoloWaker}
use Rattle.solo.specs.declared.names.SoloWaker.TheVariants.{Task as OfTask}
use Rattle.solo.specs.declared.names.Task.{Task}
use Rattle.solo.specs.declared.own_queues.Own.{Own}
use Rattle.solo.specs.declared.owed.Lent.{Lent}
use Rattle.solo.specs.declared.solo.Solo.{Solo}
use Rattle.solo.specs.declared.ticks.Ticked.{Ticked}
use Rattle.solo.specs.declared.ticks.Ticker.{Ticker}
use Rattle.solo.specs.Cells.{choose}
use Rattle.solo.specs.Lines.{mark_of_turn}
use Rattle.solo.specs.OwnQueues.{OwnQueuesValue}
use Rattle.solo.specs.Solo.{may_hold}
use Rattle.solo.specs.Steals.{seek_answer, sought}
use Rattle.solo.specs.Ticks as ticks
use Rattle.plain_scheduler.specs.State.{ARun, AtOnce, Choice, Code, Granted, Later, Plain, PollOwn, Who}
use Rattle.plain_scheduler.specs.Calls.{Pends, does}
use Rattle.solo_laws.specs.Alike.{copies}
use Rattle.solo_laws.specs.Numbered.{ticker_of}
use Rattle.solo_laws.specs.Owner.{HasRoom}
use Rattle.solo_laws.specs.Road.{HasLife, IsNamed, wakes}
use Rattle.solo_laws.specs.Tabled.{goes_on, named}
use Rattle.solo_laws.specs.Ticking.{IsAtRest, IsRefused, LiesRefused, looks_again, number_after}

-- others look at each own queue in which there is a task
abbrev pub EachListed : OwnQueuesValue → Type 0
EachListed o = (at : ℕ) (own : Own) → slice_get o.queues at ≡ Some own → nat_lt at o.listed ≡ false → own.queue ≡ []

module _ {F T X : Type 0} where
  -- it has searched from this starting word on
  abbrev pub slept_from : ℕ → ℕ → Ticker → SoloWaker X → Solo F T X → Solo F T X
  slept_from r start ticker w s = ticks.slept ticker w (copies w (sought r start s))

  abbrev pub sleep_answer : ℕ → ℕ → Ticker → SoloWaker X → Solo F T X → Ticked F X
  sleep_answer r start ticker w s = ticks.slept_answer ticker w (copies w (sought r start s))

  abbrev pub run_rested : ℕ → ℕ → ℕ → Ticker → SoloWaker X → Solo F T X → Solo F T X
  run_rested r first second ticker w s =
      let out = sleep_answer r first ticker w s in
      let z = slept_from r first ticker w s in
      choose (looks_again out.look) (slept_from r second out.ticker w z) z

  abbrev pub run_rest_answer : ℕ → ℕ → ℕ → Ticker → SoloWaker X → Solo F T X → Ticked F X
  run_rest_answer r first second ticker w s =
      let out = sleep_answer r first ticker w s in
      choose (looks_again out.look) (sleep_answer r second out.ticker w (slept_from r first ticker w s)) out

module _ {F T X : Type 0} (its : ℕ → Lent) (number : Who → ℕ) (s : Solo F T X) (p : Plain T (SoloWaker X)) where
  -- its own future is pending, and it finds nothing; one that doesn't lie has its room, and no copy of its waker is refused
  abbrev pub RunsRest : Type 0
  RunsRest =
      (c : Choice) (r : ℕ) (w : SoloWaker X) (rest : List (Code T (SoloWaker X))) (first second : ℕ) → p.inside ≡ PollOwn r w ∷ rest
      → goes_on r p ≡ true → (seek_answer r first s).task ≡ None → c.first ≡ mark_of_turn s.lines.turn → c.refusal ≡ Granted
      → let ticker = ticker_of number (ARun r) p.lying in
      HasRoom (ARun r) s p
      → ((u : Task) → w ≡ OfTask u → IsNamed (named its) (length p.futures) u × (may_hold u s ≡ true)
      × (looks_again (sleep_answer r first ticker w s).look ≡ true → may_hold u (slept_from r first ticker w s) ≡ true))
      → suc (length p.lying) ≤ c.tells → HasLife 2 s.lines
      → IsAtRest its number s (record p { inside = rest }) (ARun r) (number_after (ARun r) number s p)
      (run_rest_answer r first second ticker w s) (run_rested r first second ticker w s) (does wakes c Pends p)

  -- a copy of its waker is refused: the run is as it was
  abbrev pub RunsAreRefused : Type 0
  RunsAreRefused =
      (c : Choice) (r : ℕ) (w : SoloWaker X) (rest : List (Code T (SoloWaker X))) (start : ℕ) → p.inside ≡ PollOwn r w ∷ rest
      → goes_on r p ≡ true → (seek_answer r start s).task ≡ None → c.first ≡ mark_of_turn s.lines.turn → c.refusal ≡ AtOnce
      → IsRefused its number s (record p { inside = rest }) number (sought r start s) (does wakes c Pends p)

  -- or another is, for the look once it lies: it lies on
  abbrev pub RunsLieRefused : Type 0
  RunsLieRefused =
      (c : Choice) (r : ℕ) (w : SoloWaker X) (rest : List (Code T (SoloWaker X))) (first second : ℕ) → p.inside ≡ PollOwn r w ∷ rest
      → goes_on r p ≡ true → (seek_answer r first s).task ≡ None → c.first ≡ mark_of_turn s.lines.turn → c.refusal ≡ Later
      → let ticker = ticker_of number (ARun r) p.lying in
      HasRoom (ARun r) s p
      → ((u : Task) → w ≡ OfTask u → IsNamed (named its) (length p.futures) u × (may_hold u s ≡ true))
      → looks_again (sleep_answer r first ticker w s).look ≡ true → suc (length p.lying) ≤ c.tells → HasLife 2 s.lines
      → LiesRefused its number s (record p { inside = rest }) (ARun r) (number_after (ARun r) number s p) (sleep_answer r first ticker w s)
      (sought r second (slept_from r first ticker w s)) (does wakes c Pends p)
