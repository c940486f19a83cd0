-- A poll of a tick is one of the plain scheduler: what is due is taken, and the tick, if it lay, gets up.
use Rattle.std.specs.Prelude.{◌≡◌, ℕ, suc, ◌≤◌, if◌then◌else◌, Bool, true, false, List, [], ◌∷◌, ◌++◌, length, find, Some}
use Rattle.std.specs.Prelude.{None}
use Rattle.executor_parts.specs.Sleepers.{next_number}
use Rattle.solo.specs.declared.names.Task.{Task}
use Rattle.solo.specs.declared.names.SoloWaker.{SoloWaker}
use Rattle.solo.specs.declared.names.SoloWaker.TheVariants.{Task as OfTask}
use Rattle.solo.specs.declared.owed.Lent.{Lent}
use Rattle.solo.specs.declared.owed.Found.{Found}
use Rattle.solo.specs.declared.owed.Found.TheVariants.{Nothing}
use Rattle.solo.specs.declared.solo.Solo.{Solo}
use Rattle.solo.specs.declared.ticks.Dropped.{Dropped}
use Rattle.solo.specs.declared.ticks.Look.{Look}
use Rattle.solo.specs.declared.ticks.Look.TheVariants.{Took, Again}
use Rattle.solo.specs.declared.ticks.Ticked.{Ticked}
use Rattle.solo.specs.declared.ticks.Ticker.{Ticker}
use Rattle.solo.specs.Cells.{choose}
use Rattle.solo.specs.Lines.{mark_of_turn}
use Rattle.solo.specs.Solo.{may_hold, popped, sought}
use Rattle.solo.specs.Ticks as ticks
use Rattle.plain_scheduler.specs.State.{Answer, Event, Who, ATick, Answers, Made, Done, Pending, NoMemory, Granted, AtOnce, Later, Choice}
use Rattle.plain_scheduler.specs.State.{Plain, Taker, Tick}
use Rattle.plain_scheduler.specs.Lists.{or}
use Rattle.plain_scheduler.specs.Moves.{is_who, lies}
use Rattle.plain_scheduler.specs.Calls.{NewTick, DropTick, PollTick, is_granted, does}
use Rattle.solo_laws.specs.Alike.{copies}
use Rattle.solo_laws.specs.Numbered.{IsNumbered, ticker_of}
use Rattle.solo_laws.specs.Owner.{HasRoom}
use Rattle.solo_laws.specs.Road.{HasLife, IsNamed, wakes}
use Rattle.solo_laws.specs.Shown.{rings, found_as, code_of, is_handed, lent_as}
use Rattle.solo_laws.specs.Tabled.{Stands, named}

abbrev pub found_in : {F : Type 0} → Look F → Found F
found_in (Took found) = found
found_in _ = Nothing

-- a sleeper is called, and then the future that was found polled or dropped
abbrev pub tick_shows : {F T X : Type 0} → Ticked F X → List (Event T (SoloWaker X))
tick_shows out = rings out.sleeper ++ found_as (found_in out.look)

abbrev pub looks_again : {F : Type 0} → Look F → Bool
looks_again Again = true
looks_again _ = false

-- a tick or run whose search finds nothing falls asleep with a copy of its waker; where it has to look again, it does so once more
module _ {F T X : Type 0} where
  abbrev pub slept_once : Ticker → SoloWaker X → Solo F T X → Solo F T X
  slept_once ticker w s = ticks.slept ticker w (copies w (popped s))

  abbrev pub slept_answer : Ticker → SoloWaker X → Solo F T X → Ticked F X
  slept_answer ticker w s = ticks.slept_answer ticker w (copies w (popped s))

  -- no copy of a task's waker is refused, neither the first nor that for a second look
  abbrev pub CanCopy : Ticker → SoloWaker X → Task → Solo F T X → Type 0
  CanCopy ticker w u s =
      (may_hold u s ≡ true) × (looks_again (slept_answer ticker w s).look ≡ true → may_hold u (slept_once ticker w s) ≡ true)

  abbrev pub rested : Ticker → SoloWaker X → Solo F T X → Solo F T X
  rested ticker w s =
      let out = slept_answer ticker w s in
      let z = slept_once ticker w s in
      choose (looks_again out.look) (slept_once out.ticker w z) z

  abbrev pub rest_answer : Ticker → SoloWaker X → Solo F T X → Ticked F X
  rest_answer ticker w s =
      let out = slept_answer ticker w s in choose (looks_again out.look) (slept_answer out.ticker w (slept_once ticker w s)) out

-- the numbers once this one lies: one that didn't gets the next
abbrev pub numbered_by : Who → ℕ → (Who → ℕ) → Who → ℕ
numbered_by who next number v = if is_who who v then next else number v

abbrev pub number_after : {F T X : Type 0} → Who → (Who → ℕ) → Solo F T X → Plain T (SoloWaker X) → Who → ℕ
number_after who number s p = or (find (lies who) p.lying) (λ l. number) (numbered_by who (next_number s.sleepers) number)

module _ {F T X : Type 0} (its : ℕ → Lent) (number : Who → ℕ) (s : Solo F T X) (p : Plain T (SoloWaker X)) where
  -- where a future was taken in such a poll, both stand alike, and whoever polled sleeps no more; a sleeper is called, and then the
  -- future polled or dropped
  pub record IsTaken (who : Who) (by : Taker (SoloWaker X)) (out : Ticked F X) (z : Solo F T X) (q : Plain T (SoloWaker X)) : Type 0 where
    pub stands : Stands its z q
    pub numbered : IsNumbered number z.sleepers q.lying
    pub awake : out.ticker ≡ ticker_of number who q.lying
    pub seen : q.events ≡ p.events ++ tick_shows out
    pub handed : is_handed (found_in out.look) ≡ true
    pub inside : q.inside ≡ code_of by (found_in out.look) ++ p.inside
    pub lent : lent_as its (found_in out.look)

  -- a tick is polled, and its search finds this task
  abbrev pub TicksTake : Type 0
  TicksTake =
      (c : Choice) (t : ℕ) (w : SoloWaker X) (task : Task) → sought s ≡ Some task → c.first ≡ mark_of_turn s.lines.turn
      → length p.lying ≤ c.tells → HasLife 5 s.lines
      → let ticker = ticker_of number (ATick t) p.lying in
      IsTaken (ATick t) (Tick t w) (ticks.found_answer ticker None task (popped s)) (ticks.found ticker task (popped s))
      (does wakes c (PollTick t w) p)

  -- where nothing was found it lies with this waker, by a number of its own, and the others keep theirs
  pub record IsAtRest (who : Who) (new : Who → ℕ) (out : Ticked F X) (z : Solo F T X) (q : Plain T (SoloWaker X)) : Type 0
    where
      pub stands : Stands its z q
      pub numbered : IsNumbered new z.sleepers q.lying
      pub ticker : out.ticker ≡ ticker_of new who q.lying
      pub others : (v : Who) → is_who who v ≡ false → new v ≡ number v
      pub seen : q.events ≡ p.events ++ (rings out.sleeper ++ Answers Pending ∷ [])

  -- a tick is polled, and its search finds nothing; one that doesn't lie has its room, and no copy of its waker is refused
  abbrev pub TicksRest : Type 0
  TicksRest =
      (c : Choice) (t : ℕ) (w : SoloWaker X) → sought s ≡ None → c.first ≡ mark_of_turn s.lines.turn → c.refusal ≡ Granted
      → let ticker = ticker_of number (ATick t) p.lying in
      HasRoom (ATick t) s p
      → ((u : Task) → w ≡ OfTask u → IsNamed (named its) (length p.futures) u × CanCopy ticker w u s)
      → suc (length p.lying) ≤ c.tells → HasLife 2 s.lines
      → IsAtRest (ATick t) (number_after (ATick t) number s p) (rest_answer ticker w s) (rested ticker w s)
      (does wakes c (PollTick t w) p)

  -- a tick is made
  pub record IsMade (z : Solo F T X) (q : Plain T (SoloWaker X)) : Type 0 where
    pub stands : Stands its z q
    pub numbered : IsNumbered number z.sleepers q.lying
    pub seen : q.events ≡ p.events ++ Answers Made ∷ []

  abbrev pub TicksBegin : Type 0
  TicksBegin = (c : Choice) → c.refusal ≡ Granted → IsMade (ticks.roomy s) (does wakes c NewTick p)

  -- who goes lies no more; one that was told of a task tells another
  pub record HasLeft (who : Who) (answer : Answer T) (dropped : Dropped X) (z : Solo F T X) (q : Plain T (SoloWaker X)) : Type 0 where
    pub stands : Stands its z q
    pub numbered : IsNumbered number z.sleepers q.lying
    pub gone : find (lies who) q.lying ≡ None
    pub seen : q.events ≡ p.events ++ (rings dropped.told.sleeper ++ Answers answer ∷ [])

  abbrev pub TicksLeave : Type 0
  TicksLeave =
      (c : Choice) (t : ℕ) → length p.lying ≤ c.tells → HasLife 5 s.lines
      → let ticker = ticker_of number (ATick t) p.lying in
      HasLeft (ATick t) Done (ticks.leave_answer ticker s) (ticks.left ticker s) (does wakes c (DropTick t) p)

  -- a call is refused memory, and both stand so
  pub record IsRefused (new : Who → ℕ) (z : Solo F T X) (q : Plain T (SoloWaker X)) : Type 0 where
    pub stands : Stands its z q
    pub numbered : IsNumbered new z.sleepers q.lying
    pub seen : q.events ≡ p.events ++ Answers NoMemory ∷ []

  -- the making of a tick; nothing changes
  abbrev pub TicksAreUnmade : Type 0
  TicksAreUnmade = (c : Choice) → is_granted c.refusal ≡ false → IsRefused number s (does wakes c NewTick p)

  -- a poll that finds nothing, as its waker is copied: the tick is as it was
  abbrev pub TicksAreRefused : Type 0
  TicksAreRefused =
      (c : Choice) (t : ℕ) (w : SoloWaker X) → sought s ≡ None → c.first ≡ mark_of_turn s.lines.turn → c.refusal ≡ AtOnce
      → IsRefused number (popped s) (does wakes c (PollTick t w) p)

  -- or as it is copied again, for the look once it lies: it lies on
  pub record LiesRefused (who : Who) (new : Who → ℕ) (out : Ticked F X) (z : Solo F T X) (q : Plain T (SoloWaker X)) : Type 0 where
    pub refused : IsRefused new z q
    pub ticker : out.ticker ≡ ticker_of new who q.lying
    pub others : (v : Who) → is_who who v ≡ false → new v ≡ number v

  abbrev pub TicksLieRefused : Type 0
  TicksLieRefused =
      (c : Choice) (t : ℕ) (w : SoloWaker X) → sought s ≡ None → c.first ≡ mark_of_turn s.lines.turn → c.refusal ≡ Later
      → let ticker = ticker_of number (ATick t) p.lying in
      HasRoom (ATick t) s p
      → ((u : Task) → w ≡ OfTask u → IsNamed (named its) (length p.futures) u × (may_hold u s ≡ true))
      → looks_again (slept_answer ticker w s).look ≡ true → suc (length p.lying) ≤ c.tells → HasLife 2 s.lines
      → LiesRefused (ATick t) (number_after (ATick t) number s p) (slept_answer ticker w s) (popped (slept_once ticker w s))
      (does wakes c (PollTick t w) p)
