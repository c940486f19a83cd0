-- That ticks go as `next` says.
use Rattle.std.specs.Prelude.{◌≡◌, ℕ, ◌||◌, nat_lt, Bool, true, false, List, [], ◌∷◌, Option, Some, None, Result, Ok, Err}
use Rattle.executor_parts.specs.Sleepers.{position_of}
use Rattle.call_steps.specs.declared.names.Sleeping.{Sleeping}
use Rattle.call_steps.specs.declared.names.TickOrRun.TheVariants as tick_or_run
use Rattle.call_steps.specs.declared.step.CallStep.TheVariants as step
use Rattle.call_steps.specs.declared.step.tick.TickStep.TheVariants as tick_step
use Rattle.call_steps.specs.declared.asked.Asked.TheVariants as asks
use Rattle.call_steps.specs.declared.reply.Reply.{Reply}
use Rattle.call_steps.specs.declared.reply.Reply.TheVariants as reply
use Rattle.call_steps.specs.Begins.{begins}
use Rattle.solo.specs.declared.names.Task.{Task}
use Rattle.solo.specs.declared.names.SoloWaker.{SoloWaker}
use Rattle.solo.specs.declared.owed.Found.{Found}
use Rattle.solo.specs.declared.owed.Found.TheVariants.{Nothing}
use Rattle.solo.specs.declared.ticks.Look.{Look}
use Rattle.solo.specs.declared.ticks.Look.TheVariants.{Took, Again, Nothing as NothingThere}
use Rattle.solo.specs.declared.ticks.Ticked.{Ticked}
use Rattle.solo.specs.declared.ticks.Ticker.{Ticker}
use Rattle.solo.specs.declared.ticks.Ticker.TheVariants.{Awake, Asleep}
use Rattle.solo.specs.declared.solo.Solo.{Solo}
use Rattle.solo.specs.Lines.{is_empty}
use Rattle.solo.specs.Solo.{sought, popped}
use Rattle.solo.specs.Runs.{told}
use Rattle.solo.specs.Ticks as ticks
use Rattle.solo_laws.specs.Seen.{name_of}
use Rattle.solo_laws.specs.Going.{Going, Out, Step, quiet, calm}
use Rattle.solo_laws.specs.Goes.{goes}
use Rattle.solo_laws.specs.HandedOut.{deep, ends, runs, dropping}

abbrev pub of_tick : {X : Type 0} → SoloWaker X → ℕ → Sleeping Task ℕ
of_tick waker tick = record { waker = name_of waker; who = tick_or_run.Tick tick }

abbrev pub is_again : {F : Type 0} → Look F → Bool
is_again Again = true
is_again _ = false

abbrev pub found_in : {F : Type 0} → Look F → Found F
found_in (Took found) = found
found_in _ = Nothing

abbrev pub is_nothing : {F : Type 0} → Look F → Bool
is_nothing NothingThere = true
is_nothing _ = false

abbrev pub is_pending : Option Reply → Bool
is_pending (Some reply.Pending) = true
is_pending _ = false

abbrev pub pending_if : Bool → Option Reply
pending_if true = None
pending_if false = Some reply.Pending

-- one that fell asleep looks again
abbrev pub looks_again : Bool → Sleeping Task ℕ → List Step
looks_again true sleeping = step.Tick (tick_step.Search sleeping) ∷ []
looks_again false sleeping = []

module _ {F T X : Type 0} where
  -- it has room to fall asleep in, or falls asleep again
  abbrev pub has_place_at : Option ℕ → Solo F T X → Bool
  has_place_at (Some at) s = true
  has_place_at None s = ticks.is_short s

  abbrev pub has_place : Ticker → Solo F T X → Bool
  has_place (Awake room) s = nat_lt s.sleepers.count s.sleepers.rooms
  has_place (Asleep sleeper) s = has_place_at (position_of sleeper.number s.sleepers.wakers) s

  -- it wakes up and a sleeper is told
  abbrev pub waking : Ticker → Solo F T X → Out F T X
  waking ticker s = record (dropping (ticks.wake_up_answer ticker s)) {
    sleeper = ticks.tell_unless_answer (ticks.wake_up_answer ticker s).told.sleeper (ticks.woke_up ticker s);
  }

  -- it takes a task, with this waker to spare
  abbrev pub found_by : Ticker → Option (SoloWaker X) → Task → Solo F T X → Going F T X
  found_by ticker spare task s =
      runs task reply.Ready (record (calm (told ticker s)) { waker = spare; out = waking ticker s })

  -- it falls asleep, or again; or it has no room to
  abbrev pub lies : Sleeping Task ℕ → Ticker → SoloWaker X → Going F T X → Going F T X
  lies sleeping ticker waker g =
      let a = ticks.sleep_answer ticker waker g.solo in
      record g {
        solo = ticks.fallen_asleep ticker waker g.solo;
        ticker = a.ticker;
        waker = a.spare;
        rests = is_again a.look || g.rests;
        out = record quiet {
          sleeper = a.sleeper;
          gone = a.old;
          returned = a.returned;
          reply = pending_if (is_again a.look);
        };
        left = looks_again (is_again a.look) sleeping;
      }

  abbrev pub ticked : Option Task → Sleeping Task ℕ → Ticker → SoloWaker X → Solo F T X → Going F T X
  ticked (Some task) sleeping ticker waker s = found_by ticker (Some waker) task s
  ticked None sleeping ticker waker s = lies sleeping ticker waker (calm s)

  -- this is what `solo` says of the look of a tick
  abbrev pub AnswersAs : Ticked F X → Going F T X → Type 0
  AnswersAs answer g =
      (g.ticker ≡ answer.ticker) × (g.out.found ≡ found_in answer.look) × (g.out.sleeper ≡ answer.sleeper)
      × (g.out.gone ≡ answer.old) × (g.waker ≡ answer.spare) × (g.out.returned ≡ answer.returned)
      × (is_pending g.out.reply ≡ is_nothing answer.look)

  abbrev pub TicksAs : Ticked F X → Solo F T X → Going F T X → Type 0
  TicksAs answer new g = (g.solo ≡ new) × AnswersAs answer g

  abbrev pub TickTakesGo : Solo F T X → Type 0
  TickTakesGo s = (tick : ℕ) (ticker : Ticker) (waker : SoloWaker X) → (sought s ≡ None → has_place ticker s ≡ true) →
      (goes deep (begins (asks.PollTick (of_tick waker tick))) (record (calm s) { ticker = ticker; waker = Some waker })
      ≡ ticked (sought s) (of_tick waker tick) ticker waker (popped s))
      × TicksAs (ticks.take_answer ticker waker s) (ticks.taken ticker waker s)
      (ticked (sought s) (of_tick waker tick) ticker waker (popped s))

  abbrev pub searched : Option Task → Sleeping Task ℕ → Ticker → Solo F T X → Going F T X
  searched (Some task) sleeping ticker s = found_by ticker None task s
  searched None sleeping ticker s =
      record (calm s) { ticker = ticker; left = step.Tick (tick_step.CopyWaker sleeping) ∷ [] }

  -- and of one without a waker: where it finds nothing the tick comes back
  abbrev pub SearchesAs : Result (Ticked F X) Ticker → Going F T X → Type 0
  SearchesAs (Ok answer) g = AnswersAs answer g
  SearchesAs (Err ticker) g = (g.ticker ≡ ticker) × (g.out ≡ quiet)

  -- a tick without a waker looks, and has to copy one where it finds nothing
  abbrev pub TickSearchesGo : Solo F T X → Type 0
  TickSearchesGo s = (tick : ℕ) (ticker : Ticker) (waker : SoloWaker X) →
      (goes deep (begins (asks.PollTick (of_tick waker tick))) (record (calm s) { ticker = ticker })
      ≡ searched (sought s) (of_tick waker tick) ticker (popped s))
      × ((searched (sought s) (of_tick waker tick) ticker (popped s)).solo ≡ ticks.searched ticker s)
      × SearchesAs (ticks.search_answer ticker s) (searched (sought s) (of_tick waker tick) ticker (popped s))

  -- behind a search that has found nothing a tick or run falls asleep with a copy of its waker; where a task is queued by then it
  -- only searches again
  abbrev pub TickSleepsGo : Solo F T X → Type 0
  TickSleepsGo s = (sleeping : Sleeping Task ℕ) (ticker : Ticker) (waker : SoloWaker X)
      → is_empty s.lines ≡ true → has_place ticker s ≡ true
      → (goes deep (step.Tick (tick_step.CopyWaker sleeping) ∷ []) (record (calm s) { ticker = ticker; waker = Some waker })
      ≡ lies sleeping ticker waker (calm s))
      × TicksAs (ticks.slept_answer ticker waker s) (ticks.slept ticker waker s) (lies sleeping ticker waker (calm s))

  abbrev pub TickLeavesGo : Solo F T X → Type 0
  TickLeavesGo s = (tick : ℕ) (ticker : Ticker) →
      goes deep (begins (asks.DropTick tick)) (record (calm s) { ticker = ticker })
      ≡ ends (ticks.left ticker s) reply.Done (dropping (ticks.leave_answer ticker s))

  abbrev pub TicksBegin : Solo F T X → Type 0
  TicksBegin s = goes deep (begins asks.NewTick) (calm s) ≡ ends (ticks.roomy s) reply.Made quiet
