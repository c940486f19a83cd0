-- How a run goes on once its own future is pending, and each time that it is done with a future that it took.
use Rattle.std.specs.Prelude.{◌≡◌, ℕ, suc, ◌≤◌, true, false, List, [], ◌∷◌, ◌++◌, length, Option, Some, None, slice_get}
use Rattle.solo.specs.declared.names.Task.{Task}
use Rattle.solo.specs.declared.names.SoloWaker.{SoloWaker}
use Rattle.solo.specs.declared.names.SoloWaker.TheVariants.{Task as OfTask}
use Rattle.solo.specs.declared.owed.Lent.{Lent}
use Rattle.solo.specs.declared.runs.Runner.{Runner}
use Rattle.solo.specs.declared.solo.Solo.{Solo}
use Rattle.solo.specs.declared.steals.Source.TheVariants.{Common}
use Rattle.solo.specs.declared.ticks.Ticker.{Ticker}
use Rattle.solo.specs.Lines.{mark_of_turn, search_answer}
use Rattle.solo.specs.OwnQueues.{first_of}
use Rattle.solo.specs.Runs as runs
use Rattle.solo.specs.Solo as solo
use Rattle.solo.specs.Steals as steals
use Rattle.plain_scheduler.specs.State.{Answers, ARun, AtOnce, Choice, Code, Drop, End, Event, Granted, Later, Lose, NoMemory, Pending}
use Rattle.plain_scheduler.specs.State.{Plain, Poll}
use Rattle.plain_scheduler.specs.State.{Taker, Try}
use Rattle.plain_scheduler.specs.Lists.{or}
use Rattle.plain_scheduler.specs.Calls.{Call, Ends, Pends}
use Rattle.solo_laws.specs.Numbered.{ticker_of}
use Rattle.solo_laws.specs.Owner.{Owner, given_way, renumbered, taken_by_run}
use Rattle.solo_laws.specs.Road.{HasLife, IsNamed}
use Rattle.solo_laws.specs.RunResting.{run_rest_answer, run_rested, sleep_answer, slept_from}
use Rattle.solo_laws.specs.RunTaking.{searched_further, wake_shows, woken_by}
use Rattle.solo_laws.specs.Shown.{rings}
use Rattle.solo_laws.specs.Stealing.{share_of, so_many, stolen_marks}
use Rattle.solo_laws.specs.Tabled.{named}
use Rattle.solo_laws.specs.Ticking.{looks_again, number_after, tick_shows}
use Rattle.solo_laws.specs.Walking.{robbed, robs_more, searched_none}

-- what a user's code does to a future that was taken
pub data Stage (T A : Type 0) : Type 0 where
  Polling : ℕ → Stage T A
  Dropping : ℕ → End T → Stage T A
  -- its output is dropped, and who awaits it is then called
  Losing : Option A → Stage T A

module _ {T A : Type 0} where
  abbrev pub code_at : Stage T A → Taker A → Code T A
  code_at (Polling f) by = Poll f by
  code_at (Dropping f end) by = Drop f end by
  code_at (Losing awaiter) by = Lose awaiter (Some by)

  -- as it would be in a try
  abbrev pub in_try : Stage T A → List (Code T A) → Plain T A → Plain T A
  in_try stage rest p = record p { inside = code_at stage Try ∷ rest }

  -- how many it has taken since it last let others go first
  abbrev pub taken_by : ℕ → Plain T A → ℕ
  taken_by r p = or (slice_get p.runs r) (λ run. run.taken) 0

-- a poll ends as pending, a drop just ends
pub data IsEnding {T A : Type 0} : Stage T A → Call T A → Type 0 where
  poll_ends : (f : ℕ) → IsEnding (Polling f) Pends
  drop_ends : (f : ℕ) (end : End T) → IsEnding (Dropping f end) Ends
  loss_ends : (awaiter : Option A) → IsEnding (Losing awaiter) Ends

module _ {F T X : Type 0} (its : ℕ → Lent) (owner : Owner) (c : Choice) (runner : Runner) (w : SoloWaker X) (s : Solo F T X)
    (p : Plain T (SoloWaker X)) where
  abbrev its_ticker : Ticker
  its_ticker = ticker_of owner.number (ARun runner.number) p.lying

  abbrev shows_taken : Task → Solo F T X → List (Event T (SoloWaker X))
  shows_taken task z = tick_shows (runs.found_answer runner its_ticker None task false z).ticked

  -- it takes what it keeps, or what nobody does, or what another keeps
  pub data Searches : List (Event T (SoloWaker X)) → Owner → Solo F T X → Type 0 where
    takes_own : (start : ℕ) (task : Task) → first_of runner.number s.runs ≡ Some task
        → c.keeps
        ≡ stolen_marks (runs.is_steal_due runner) runner.number (runs.told its_ticker (steals.own_popped runner.number s))
        → HasLife 5 s.lines
        → Searches (shows_taken task (steals.own_popped runner.number s)) (taken_by_run runner owner)
        (runs.searched runner its_ticker start s)
    takes_common : (start : ℕ) (task : Task) → first_of runner.number s.runs ≡ None → solo.sought s ≡ Some task
        → c.first ≡ mark_of_turn s.lines.turn
        → c.keeps
        ≡ so_many (share_of (Common (search_answer s.lines).mark) runner.number (solo.popped (steals.own_popped runner.number s)))
        (search_answer s.lines).mark
        ++ stolen_marks (runs.is_steal_due runner) runner.number (runs.told its_ticker (searched_further runner.number s))
        → HasLife 5 s.lines
        → Searches (shows_taken task (searched_further runner.number s)) (taken_by_run runner owner)
        (runs.searched runner its_ticker start s)
    robs_another : (start : ℕ) (task : Task) → first_of runner.number s.runs ≡ None → solo.sought s ≡ None
        → c.first ≡ mark_of_turn s.lines.turn
        → (steals.whole_round runner.number start (searched_none runner.number s)).0 ≡ Some task
        → c.robs ≡ (robbed runner.number start (searched_none runner.number s)).0
        → c.moves ≡ robs_more runner.number start (searched_none runner.number s)
        → c.keeps
        ≡ stolen_marks (runs.is_steal_due runner) runner.number
        (runs.told its_ticker (steals.walked runner.number start (searched_none runner.number s)))
        → HasLife 5 s.lines
        → Searches (shows_taken task (steals.walked runner.number start (searched_none runner.number s))) (taken_by_run runner owner)
        (runs.searched runner its_ticker start s)
    -- or there is none, and it lies down
    rests : (first second : ℕ) → (steals.seek_answer runner.number first s).task ≡ None → c.first ≡ mark_of_turn s.lines.turn
        → c.refusal ≡ Granted
        → ((u : Task) → w ≡ OfTask u → IsNamed (named its) (length p.futures) u × (solo.may_hold u s ≡ true)
        × (looks_again (sleep_answer runner.number first its_ticker w s).look ≡ true
        → solo.may_hold u (slept_from runner.number first its_ticker w s) ≡ true))
        → suc (length p.lying) ≤ c.tells → HasLife 2 s.lines
        → Searches (rings (run_rest_answer runner.number first second its_ticker w s).sleeper ++ Answers Pending ∷ [])
        (renumbered (number_after (ARun runner.number) owner.number s p) owner) (run_rested runner.number first second its_ticker w s)
    -- and is refused a copy of its waker, or another for the look once it lies
    is_refused : (start : ℕ) → (steals.seek_answer runner.number start s).task ≡ None → c.first ≡ mark_of_turn s.lines.turn
        → c.refusal ≡ AtOnce → Searches (Answers NoMemory ∷ []) owner (steals.sought runner.number start s)
    lies_refused : (first second : ℕ) → (steals.seek_answer runner.number first s).task ≡ None → c.first ≡ mark_of_turn s.lines.turn
        → c.refusal ≡ Later
        → ((u : Task) → w ≡ OfTask u → IsNamed (named its) (length p.futures) u × (solo.may_hold u s ≡ true))
        → looks_again (sleep_answer runner.number first its_ticker w s).look ≡ true → suc (length p.lying) ≤ c.tells → HasLife 2 s.lines
        → Searches (Answers NoMemory ∷ []) (renumbered (number_after (ARun runner.number) owner.number s p) owner)
        (steals.sought runner.number second (slept_from runner.number first its_ticker w s))

  -- it looks for another, or lets others go first
  pub data RunsOn : List (Event T (SoloWaker X)) → Owner → Solo F T X → Type 0 where
    looks_on : (shown : List (Event T (SoloWaker X))) (now : Owner) (z : Solo F T X) → owner.gives_way runner.number ≡ false
        → Searches shown now z → RunsOn shown now z
    gives_way : owner.gives_way runner.number ≡ true
        → ((t : Task) → w ≡ OfTask t → IsNamed (named its) (length p.futures) t) → HasLife 2 s.lines
        → RunsOn (wake_shows w s ++ Answers Pending ∷ []) (given_way runner.number owner) (woken_by w s)
