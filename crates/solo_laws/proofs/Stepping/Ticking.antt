-- Ticks go as `next` says.
use Rattle.std.proofs.Common.{◌≡◌, ℕ, suc, ◌||◌, nat_lt, Bool, true, false, List, [], ◌∷◌, Option, Some, None, refl, ap, ◌∙◌}
use Rattle.executor_parts.specs.declared.mark.Mark.{Mark}
use Rattle.executor_parts.specs.declared.places.EntryPlace.{EntryPlace}
use Rattle.executor_parts.specs.Marks.{other}
use Rattle.task_moves.specs.declared.local_task.answers.Start.{Start}
use Rattle.executor_parts.specs.Sleepers.{last_waker, without_last, listed, position_of, waker_of, woken_up}
use Rattle.task_moves.specs.declared.moves.owed.Move.TheVariants as move
use Rattle.call_steps.specs.declared.names.Look.TheVariants.{First, Second}
use Rattle.call_steps.specs.declared.names.Sleeping.{Sleeping}
use Rattle.call_steps.specs.declared.names.TickOrRun.{TickOrRun}
use Rattle.call_steps.specs.declared.names.TickOrRun.TheVariants as tick_or_run
use Rattle.call_steps.specs.declared.reply.Reply.TheVariants as reply
use Rattle.call_steps.specs.declared.saw.Saw.TheVariants as saw
use Rattle.call_steps.specs.declared.step.CallStep.TheVariants as step
use Rattle.call_steps.specs.declared.step.tick.SleeperStep.TheVariants as sleeper_step
use Rattle.call_steps.specs.declared.step.tick.TickStep.TheVariants as tick_step
use Rattle.call_steps.specs.declared.step.run.RunStep.TheVariants as run_step
use Rattle.call_steps.specs.Next.{next_tick}
use Rattle.call_steps.specs.Sleeping.{found_by_tick}
use Rattle.solo.specs.declared.names.Task.{Task}
use Rattle.solo.specs.declared.names.SoloWaker.{SoloWaker}
use Rattle.solo.specs.declared.names.SoloWaker.TheVariants.{Task as OfTask, Outside}
use Rattle.solo.specs.declared.owed.Told.{Told}
use Rattle.executor_parts.specs.declared.sleepers.Room.{Room}
use Rattle.executor_parts.specs.declared.sleepers.Sleeper.{Sleeper}
use Rattle.solo.specs.declared.owed.Found.TheVariants.{Nothing}
use Rattle.solo.specs.declared.ticks.Look.{Look as Answered}
use Rattle.solo.specs.declared.ticks.Look.TheVariants.{Again, Nothing as FoundNothing}
use Rattle.solo.specs.declared.ticks.Ticked.{Ticked}
use Rattle.solo.specs.declared.ticks.Ticker.{Ticker}
use Rattle.solo.specs.declared.ticks.Ticker.TheVariants.{Awake, Asleep}
use Rattle.solo.specs.declared.solo.Solo.{Solo}
use Rattle.solo.specs.Cells.{choose, asked}
use Rattle.solo.specs.Cells as cells
use Rattle.solo.specs.Lines.{LinesValue, is_empty, first_of, popped_from, mark_of_turn, turned, taken_by, found_by}
use Rattle.solo.specs.Solo.{sought, popped}
use Rattle.solo.specs.Turns as turns
use Rattle.solo.specs.Turns.{told, told_waker, is_full, outside, handed, handed_by, lined, takes, let_go, let_go_answer}
use Rattle.solo.specs.Runs as running
use Rattle.solo.specs.Ticks as ticks
use Rattle.solo.specs.Ticks.{told_unless, tell_unless_answer, waker_dropped, drop_waker_answer, its_room}
use Rattle.solo_laws.specs.Going.{Going, Out, calm, quiet}
use Rattle.solo_laws.specs.Seen.{first_by, sleeps, name_if, fell_again}
use Rattle.solo_laws.specs.Done.{either, slept_anew, slept_again}
use Rattle.solo_laws.specs.Goes.{goes}
use Rattle.solo_laws.specs.TicksGo as calls
use Rattle.solo_laws.specs.HandedOut.{ends, runs, dropping, reply_if, start_of}
use Rattle.solo_laws.specs.TicksGo.{TickTakesGo, TickSearchesGo, TickLeavesGo, TicksBegin, of_tick, has_place, has_place_at, lies, ticked}
use Rattle.solo_laws.specs.TicksGo.{TickSleepsGo, searched, is_nothing, is_pending, SearchesAs, TicksAs}
use Rattle.solo_laws.proofs.Stepping.Telling.{two, nine, free, tells, lets_go, alone, telling_in}
use Rattle.solo_laws.proofs.Stepping.Taking.{tells_and_runs, either_none}

-- who takes a task isn't pending
takes_up : (start : Option (Start EntryPlace)) → is_pending (reply_if start reply.Ready None) ≡ false
takes_up (Some start) = refl
takes_up None = refl

-- who lies down, or lies already, looks again or is pending
abbrev pub WaitsAs : {F : Type 0} → Answered F → Type 0
WaitsAs look = is_pending (calls.pending_if (calls.is_again look)) ≡ is_nothing look

module _ {F T X : Type 0} where
  -- who has told one leaves the flag standing

  called_by : (w : Option (SoloWaker X)) (s : Solo F T X) (x : X) → s.notified ≡ true → outside w ≡ Some x
      → (handed_by w s).notified ≡ true
  called_by (Some (OfTask task)) s x on is = absurd cc
  called_by (Some (Outside y)) s x on is = on
  called_by None s x on is = absurd cc

  handed_by_full : (b : Bool) (s : Solo F T X) (x : X) → s.notified ≡ true
      → choose b (outside (last_waker s.sleepers.wakers)) None ≡ Some x
      → (choose b (handed_by (last_waker s.sleepers.wakers) (record s { sleepers = without_last s.sleepers })) s).notified ≡ true
  handed_by_full true s x on is =
      called_by (last_waker s.sleepers.wakers) (record s { sleepers = without_last s.sleepers }) x on is
  handed_by_full false s x on is = on

  told_by : (b : Bool) (s : Solo F T X) (x : X)
      → choose b None (choose (is_full s) (outside (last_waker s.sleepers.wakers)) None) ≡ Some x
      → (choose b s (handed (record s { notified = true }))).notified ≡ true
  told_by true s x is = absurd cc
  told_by false s x is = handed_by_full (is_full s) (record s { notified = true }) x refl is

  queued_by : (a : Bool) (task : Task) (s : Solo F T X) (x : X)
      → (choose {B = Told X} a (record { sleeper = told_waker s; returned = None })
      (record { sleeper = None; returned = Some task })).sleeper
      ≡ Some x
      → (choose a (told s) s).notified ≡ true
  queued_by true task s x is = told_by s.notified s x is
  queued_by false task s x is = absurd cc

  due_by : (q : Bool) (task : Task) (s : Solo F T X) (x : X) → (turns.schedule_if_answer q task s).sleeper ≡ Some x
      → (turns.scheduled_if q task s).notified ≡ true
  due_by true task s x is = queued_by (takes task s) task (lined task s) x is
  due_by false task s x is = absurd cc

  pub let_go_flag : (task : Task) (s : Solo F T X) (x : X) → (let_go_answer task s).sleeper ≡ Some x → (let_go task s).notified ≡ true
  let_go_flag task s x is =
      due_by (asked cells.release_queues false task s.cells) task (turns.turned cells.released task s) x is

  -- so a second tell tells nobody
  pub unless_state : (w : Option X) (s : Solo F T X) → ((x : X) → w ≡ Some x → s.notified ≡ true) → told s ≡ told_unless w s
  unless_state (Some x) s flag = ap (λ (b : Bool). choose b s (handed (record s { notified = true }))) (flag x refl)
  unless_state None s flag = refl

  pub unless_answer : (w : Option X) (s : Solo F T X) → ((x : X) → w ≡ Some x → s.notified ≡ true)
      → either (told_waker s) (either w None) ≡ tell_unless_answer w s
  unless_answer (Some x) s flag =
      ap (λ (b : Bool). either (choose b None (choose (is_full s) (outside (last_waker s.sleepers.wakers)) None)) (Some x)) (flag x refl)
  unless_answer None s flag = either_none (told_waker s)

  abbrev runs_with : Task → Option (SoloWaker X) → Option X → Option X → Option Task → Solo F T X → Going F T X
  runs_with task spare gone sleeper returned s =
      runs task reply.Ready
      (record (calm s) { waker = spare; out = record quiet { sleeper = sleeper; gone = gone; returned = returned } })

  found_with : (k : Option (SoloWaker X)) (n : ℕ) (who : TickOrRun ℕ) (task : Task) (spare : Option (SoloWaker X))
      (s : Solo F T X)
      → goes (two (two (two (nine n))))
      (step.Sleeper sleeper_step.ExchangeFlag ∷ step.Move move.TakeUp task ∷ step.End reply.Ready ∷ [])
      (goes (two (two (two (nine n)))) (next_tick (tick_step.WakeUp who) (saw.Awake (name_if k)))
      (record (calm s) { waker = spare; out = record quiet { gone = outside k } }))
      ≡ runs_with task spare (drop_waker_answer k s).old
      (tell_unless_answer (drop_waker_answer k s).told.sleeper (waker_dropped k s))
      (drop_waker_answer k s).told.returned
      (told_unless (drop_waker_answer k s).told.sleeper (waker_dropped k s))
  found_with None n who task spare s =
      tells_and_runs (two n) task reply.Ready (record (calm s) { waker = spare })
      ∙ ap (λ (w : Option X). runs_with task spare None w None (told s)) (either_none (told_waker s))
  found_with (Some (Outside x)) n who task spare s =
      tells_and_runs (two n) task reply.Ready (record (calm s) { waker = spare; out = record quiet { gone = Some x } })
      ∙ ap (λ (w : Option X). runs_with task spare (Some x) w None (told s)) (either_none (told_waker s))
  found_with (Some (OfTask t)) n who task spare s =
      let a : Told X = let_go_answer t s in
      let gone : Solo F T X = let_go t s in
      ap (goes (two (two (two (nine n)))) (step.Sleeper sleeper_step.ExchangeFlag ∷ step.Move move.TakeUp task ∷ step.End reply.Ready ∷ []))
      (lets_go n t (record (calm s) { waker = spare }))
      ∙ tells_and_runs (two n) task reply.Ready (record (calm gone) { waker = spare; out = telling_in a quiet })
      ∙ ap (λ (w : Option X). runs_with task spare None w (either a.returned None) (told gone))
      (unless_answer a.sleeper gone (let_go_flag t s))
      ∙ ap (λ (r : Option Task). runs_with task spare None (tell_unless_answer a.sleeper gone) r (told gone)) (either_none a.returned)
      ∙ ap (runs_with task spare None (tell_unless_answer a.sleeper gone) a.returned) (unless_state a.sleeper gone (let_go_flag t s))

  finds : (ticker : Ticker) (n : ℕ) (tick : ℕ) (task : Task) (spare : Option (SoloWaker X)) (s : Solo F T X)
      → goes (suc (two (two (two (nine n))))) (found_by_tick (sleeps ticker) (tick_or_run.Tick tick) task)
      (record (calm s) { ticker = ticker; waker = spare })
      ≡ calls.found_by ticker spare task s
  finds (Awake room) n tick task spare s =
      tells_and_runs (suc (two n)) task reply.Ready (record (calm s) { ticker = Awake room; waker = spare })
      ∙ ap (λ (w : Option X). runs_with task spare None w None (told s)) (either_none (told_waker s))
  finds (Asleep sleeper) n tick task spare s =
      found_with (waker_of sleeper.number s.sleepers.wakers) n (tick_or_run.Tick tick) task spare
      (ticks.stored (woken_up sleeper.number s.sleepers) s)

  -- a tick lies down, or lies down again

  abbrev lies_by : Sleeping Task ℕ → Ticked F X → Solo F T X → Going F T X → Going F T X
  lies_by sleeping a s g = record (free g) {
    solo = s;
    ticker = a.ticker;
    waker = a.spare;
    rests = calls.is_again a.look || g.rests;
    out = record quiet {
      sleeper = a.sleeper;
      gone = a.old;
      returned = a.returned;
      reply = calls.pending_if (calls.is_again a.look);
    };
    left = calls.looks_again (calls.is_again a.look) sleeping;
  }

  anew : (b : Bool) (n : ℕ) (sleeping : Sleeping Task ℕ) (room : Room) (waker : SoloWaker X) (g : Going F T X) → b ≡ true
      → goes (two (two (two (nine n)))) (next_tick (tick_step.FallAsleep sleeping) (choose b saw.Anew saw.Nowhere))
      (slept_anew b (Some waker) (record (free g) { ticker = Awake room; waker = Some waker; out = quiet }))
      ≡ lies_by sleeping (ticks.sleep_anew_answer b waker g.solo) (ticks.lain_anew b waker g.solo) g
  anew true n sleeping room waker g is = refl
  anew false n sleeping room waker g is = absurd cc

  again_with : (k : Option (SoloWaker X)) (n : ℕ) (sleeping : Sleeping Task ℕ) (sleeper : Sleeper) (g : Going F T X)
      → goes (two (two (two (nine n)))) (next_tick (tick_step.FallAsleep sleeping) (saw.Already (name_if k)))
      (record (free g) { ticker = Asleep sleeper; waker = None; out = record quiet { gone = outside k } })
      ≡ lies_by sleeping (ticks.look_answer (Asleep sleeper) FoundNothing k None g.solo) (waker_dropped k g.solo) g
  again_with None n sleeping sleeper g = refl
  again_with (Some (Outside x)) n sleeping sleeper g = refl
  again_with (Some (OfTask task)) n sleeping sleeper g =
      ap (goes (suc (two (two (nine n)))) (step.End reply.Pending ∷ []))
      (lets_go n task (record g { ticker = Asleep sleeper; waker = None; out = quiet }))
      ∙ ap
      (λ (out : Out F T X). record (free g) {
        solo = let_go task g.solo;
        ticker = Asleep sleeper;
        waker = None;
        out = record out { reply = Some reply.Pending };
      })
      (alone (let_go_answer task g.solo) quiet)

  again_short : (b : Bool) (n : ℕ) (sleeping : Sleeping Task ℕ) (sleeper : Sleeper) (waker : SoloWaker X) (g : Going F T X)
      → b ≡ true
      → goes (two (two (two (nine n)))) (next_tick (tick_step.FallAsleep sleeping) (choose b saw.Anew saw.Nowhere))
      (choose b
      (record (free g) {
        solo = ticks.stored (listed sleeper.number waker g.solo.sleepers) g.solo;
        ticker = Asleep sleeper;
        waker = None;
        rests = true;
        out = quiet;
      })
      (record (free g) { ticker = Asleep sleeper; waker = Some waker; out = quiet }))
      ≡ lies_by sleeping
      (choose b
      (ticks.look_answer (Asleep sleeper) Again None None g.solo)
      (ticks.look_answer (Asleep sleeper) FoundNothing None (Some waker) g.solo))
      (choose b (ticks.stored (listed sleeper.number waker g.solo.sleepers) g.solo) g.solo) g
  again_short true n sleeping sleeper waker g is = refl
  again_short false n sleeping sleeper waker g is = absurd cc

  again : (p : Option ℕ) (n : ℕ) (sleeping : Sleeping Task ℕ) (sleeper : Sleeper) (waker : SoloWaker X) (g : Going F T X)
      → has_place_at p g.solo ≡ true
      → goes (two (two (two (nine n)))) (next_tick (tick_step.FallAsleep sleeping) (fell_again p sleeper.number g.solo))
      (slept_again p sleeper.number (Some waker) (record (free g) { ticker = Asleep sleeper; waker = Some waker; out = quiet }))
      ≡ lies_by sleeping (ticks.sleep_again_answer p sleeper waker g.solo) (ticks.lain_again p sleeper.number waker g.solo) g
  again (Some at) n sleeping sleeper waker g is =
      again_with (waker_of sleeper.number g.solo.sleepers.wakers) n sleeping sleeper
      (record g { solo = ticks.replaced at sleeper.number waker g.solo })
  again None n sleeping sleeper waker g is = again_short (ticks.is_short g.solo) n sleeping sleeper waker g is

  -- what happens in a queue leaves its place
  at_kept : (p : Option ℕ) (s : Solo F T X) (l : LinesValue) → has_place_at p s ≡ true → has_place_at p (record s { lines = l }) ≡ true
  at_kept (Some at) s l is = is
  at_kept None s l is = is

  place_kept : (ticker : Ticker) (s : Solo F T X) (l : LinesValue) → has_place ticker s ≡ true → has_place ticker (record s { lines = l })
      ≡ true
  place_kept (Awake room) s l is = is
  place_kept (Asleep sleeper) s l is = at_kept (position_of sleeper.number s.sleepers.wakers) s l is

  -- it lies down, or again
  pub lies_down : (ticker : Ticker) (n : ℕ) (sleeping : Sleeping Task ℕ) (waker : SoloWaker X) (g : Going F T X)
      → has_place ticker g.solo ≡ true
      → goes (two (two (two (two (nine n))))) (step.Tick (tick_step.CopyWaker sleeping) ∷ [])
      (record (free g) { ticker = ticker; waker = Some waker; out = quiet })
      ≡ lies sleeping ticker waker (free g)
  lies_down (Awake room) n sleeping waker g is = anew (nat_lt g.solo.sleepers.count g.solo.sleepers.rooms) n sleeping room waker g is
  lies_down (Asleep sleeper) n sleeping waker g is =
      again (position_of sleeper.number g.solo.sleepers.wakers) n sleeping sleeper waker g is

  -- with a waker

  second_taken : (b : Option Task) (mark : Mark) (t : ℕ) (ticker : Ticker) (waker : SoloWaker X) (s : Solo F T X)
      → (b ≡ None → has_place ticker s ≡ true)
      → goes 17 (next_tick (tick_step.Look (of_tick waker t) (Second mark)) (first_by (sleeps ticker) b))
      (record (calm s) { ticker = ticker; waker = Some waker })
      ≡ ticked b (of_tick waker t) ticker waker s
  second_taken (Some task) mark t ticker waker s is = finds ticker 1 t task (Some waker) s
  second_taken None mark t ticker waker s is = lies_down ticker 0 (of_tick waker t) waker (calm s) (is refl)

  first_taken : (a : Option Task) (mark : Mark) (t : ℕ) (ticker : Ticker) (waker : SoloWaker X) (s : Solo F T X)
      → ((found_by a mark (popped_from mark s.lines)).task ≡ None → has_place ticker s ≡ true)
      → goes 18 (next_tick (tick_step.Look (of_tick waker t) (First mark)) (first_by (sleeps ticker) a))
      (record (calm (record s { lines = popped_from mark s.lines })) { ticker = ticker; waker = Some waker })
      ≡ ticked (found_by a mark (popped_from mark s.lines)).task (of_tick waker t) ticker waker
      (record s { lines = taken_by a mark (popped_from mark s.lines) })
  first_taken (Some task) mark t ticker waker s is =
      finds ticker 2 t task (Some waker) (record s { lines = popped_from mark s.lines })
  first_taken None mark t ticker waker s is =
      second_taken (first_of (other mark) (popped_from mark s.lines)) (other mark) t ticker waker
      (record s { lines = popped_from (other mark) (popped_from mark s.lines) }) (λ none. place_kept ticker s _ (is none))

  again_found : (p : Option ℕ) (b : Bool) (sleeper : Sleeper) (waker : SoloWaker X) (s : Solo F T X) → b ≡ ticks.is_short s
      → Nothing ≡ calls.found_in (ticks.sleep_again_answer p sleeper waker s).look
  again_found (Some at) b sleeper waker s is = refl
  again_found None true sleeper waker s is =
      ap
      (λ (b : Bool). calls.found_in
      (choose b
      (ticks.look_answer (Asleep sleeper) Again None None s)
      (ticks.look_answer (Asleep sleeper) FoundNothing None (Some waker) s)).look) is
  again_found None false sleeper waker s is =
      ap
      (λ (b : Bool). calls.found_in
      (choose b
      (ticks.look_answer (Asleep sleeper) Again None None s)
      (ticks.look_answer (Asleep sleeper) FoundNothing None (Some waker) s)).look) is

  anew_found : (b : Bool) (waker : SoloWaker X) (s : Solo F T X) → Nothing ≡ calls.found_in (ticks.sleep_anew_answer b waker s).look
  anew_found true waker s = refl
  anew_found false waker s = refl

  pub found_nothing : (ticker : Ticker) (waker : SoloWaker X) (s : Solo F T X) → Nothing
      ≡ calls.found_in (ticks.sleep_answer ticker waker s).look
  found_nothing (Awake room) waker s = anew_found (nat_lt s.sleepers.count s.sleepers.rooms) waker s
  found_nothing (Asleep sleeper) waker s =
      again_found (position_of sleeper.number s.sleepers.wakers) (ticks.is_short s) sleeper waker s refl

  anew_waits : (b : Bool) (waker : SoloWaker X) (s : Solo F T X) → WaitsAs (ticks.sleep_anew_answer b waker s).look
  anew_waits true waker s = refl
  anew_waits false waker s = refl

  short_waits : (b : Bool) (sleeper : Sleeper) (waker : SoloWaker X) (s : Solo F T X)
      → WaitsAs
      (choose b
      (ticks.look_answer (Asleep sleeper) Again None None s)
      (ticks.look_answer (Asleep sleeper) FoundNothing None (Some waker) s)).look
  short_waits true sleeper waker s = refl
  short_waits false sleeper waker s = refl

  again_waits : (p : Option ℕ) (sleeper : Sleeper) (waker : SoloWaker X) (s : Solo F T X)
      → WaitsAs (ticks.sleep_again_answer p sleeper waker s).look
  again_waits (Some at) sleeper waker s = refl
  again_waits None sleeper waker s = short_waits (ticks.is_short s) sleeper waker s

  pub pending_as : (ticker : Ticker) (waker : SoloWaker X) (s : Solo F T X) → WaitsAs (ticks.sleep_answer ticker waker s).look
  pending_as (Awake room) waker s = anew_waits (nat_lt s.sleepers.count s.sleepers.rooms) waker s
  pending_as (Asleep sleeper) waker s = again_waits (position_of sleeper.number s.sleepers.wakers) sleeper waker s

  ticks_by : (a : Option Task) (t : ℕ) (ticker : Ticker) (waker : SoloWaker X) (s : Solo F T X)
      → TicksAs (ticks.take_answer_by a ticker waker s) (ticks.taken_by a ticker waker s) (ticked a (of_tick waker t) ticker waker s)
  ticks_by (Some task) t ticker waker s =
      (refl, (refl, refl, refl, refl, refl, refl, takes_up (start_of task (running.told ticker s))))
  ticks_by None t ticker waker s =
      (refl, (refl, found_nothing ticker waker s, refl, refl, refl, refl, pending_as ticker waker s))

  pub tick_takes_go : (s : Solo F T X) → TickTakesGo s
  tick_takes_go s t ticker waker is = (
    first_taken (first_of (mark_of_turn s.lines.turn) (turned s.lines)) (mark_of_turn s.lines.turn) t ticker waker
        (record s { lines = turned s.lines }) (λ none. place_kept ticker s (turned s.lines) (is none)),
    ticks_by (sought s) t ticker waker (popped s),
  )

  -- without one

  second_searched : (b : Option Task) (mark : Mark) (t : ℕ) (ticker : Ticker) (waker : SoloWaker X) (s : Solo F T X)
      → goes 17 (next_tick (tick_step.Look (of_tick waker t) (Second mark)) (first_by (sleeps ticker) b))
      (record (calm s) { ticker = ticker })
      ≡ searched b (of_tick waker t) ticker s
  second_searched (Some task) mark t ticker waker s = finds ticker 1 t task None s
  second_searched None mark t ticker waker s = refl

  first_searched : (a : Option Task) (mark : Mark) (t : ℕ) (ticker : Ticker) (waker : SoloWaker X) (s : Solo F T X)
      → goes 18 (next_tick (tick_step.Look (of_tick waker t) (First mark)) (first_by (sleeps ticker) a))
      (record (calm (record s { lines = popped_from mark s.lines })) { ticker = ticker })
      ≡ searched (found_by a mark (popped_from mark s.lines)).task (of_tick waker t) ticker
      (record s { lines = taken_by a mark (popped_from mark s.lines) })
  first_searched (Some task) mark t ticker waker s = finds ticker 2 t task None (record s { lines = popped_from mark s.lines })
  first_searched None mark t ticker waker s =
      second_searched (first_of (other mark) (popped_from mark s.lines)) (other mark) t ticker waker
      (record s { lines = popped_from (other mark) (popped_from mark s.lines) })

  searched_as : (a : Option Task) (t : ℕ) (ticker : Ticker) (waker : SoloWaker X) (s : Solo F T X)
      → (searched a (of_tick waker t) ticker s).solo ≡ ticks.searched_by a ticker s
  searched_as (Some task) t ticker waker s = refl
  searched_as None t ticker waker s = refl

  searches_by : (a : Option Task) (t : ℕ) (ticker : Ticker) (waker : SoloWaker X) (s : Solo F T X)
      → SearchesAs (ticks.search_answer_by a ticker s) (searched a (of_tick waker t) ticker s)
  searches_by (Some task) t ticker waker s =
      (refl, refl, refl, refl, refl, refl, takes_up (start_of task (running.told ticker s)))
  searches_by None t ticker waker s = (refl, refl)

  pub tick_searches_go : (s : Solo F T X) → TickSearchesGo s
  tick_searches_go s t ticker waker = (
    first_searched (first_of (mark_of_turn s.lines.turn) (turned s.lines)) (mark_of_turn s.lines.turn) t ticker waker
        (record s { lines = turned s.lines }),
    searched_as (sought s) t ticker waker (popped s),
    searches_by (sought s) t ticker waker (popped s),
  )

  -- behind that

  sleeps_by : (b : Bool) (sleeping : Sleeping Task ℕ) (ticker : Ticker) (waker : SoloWaker X) (s : Solo F T X) → b ≡ true
      → TicksAs (choose b (ticks.sleep_answer ticker waker s) (ticks.look_answer ticker Again None (Some waker) s))
      (choose b (ticks.fallen_asleep ticker waker s) s) (lies sleeping ticker waker (calm s))
  sleeps_by true sleeping ticker waker s is =
      (refl, (refl, found_nothing ticker waker s, refl, refl, refl, refl, pending_as ticker waker s))
  sleeps_by false sleeping ticker waker s is = absurd cc

  pub tick_sleeps_go : (s : Solo F T X) → TickSleepsGo s
  tick_sleeps_go s sleeping ticker waker none has =
      (lies_down ticker 3 sleeping waker (calm s) has, sleeps_by (is_empty s.lines) sleeping ticker waker s none)

  -- a tick goes

  leaves_with : (k : Option (SoloWaker X)) (n : ℕ) (who : TickOrRun ℕ) (own : Option (List Task)) (s : Solo F T X)
      → goes (two (two (two (nine n)))) (step.End reply.Done ∷ [])
      (goes (two (two (two (nine n)))) (next_tick (tick_step.Leave who) (saw.Left (name_if k)))
      (record (calm s) { own = own; out = record quiet { gone = outside k } }))
      ≡ record (ends (ticks.left_by k s) reply.Done (dropping (ticks.leave_answer_by k s))) { own = own }
  leaves_with None n who own s =
      ap
      (λ (g : Going F T X).
      goes (two (two (two (nine n)))) (step.End reply.Done ∷ [])
      (goes (suc (two (two (nine n)))) (step.Run run_step.ReturnRoom ∷ []) g))
      (tells (two (two n)) (record (calm s) { own = own }))
      ∙ ap
      (λ (w : Option X). record (ends (told s) reply.Done (record quiet { sleeper = w })) { own = own })
      (either_none (told_waker s))
  leaves_with (Some (Outside x)) n who own s = refl
  leaves_with (Some (OfTask task)) n who own s =
      ap
      (λ (g : Going F T X).
      goes (two (two (two (nine n)))) (step.End reply.Done ∷ [])
      (goes (suc (two (two (nine n)))) (step.Run run_step.ReturnRoom ∷ []) g))
      (lets_go n task (record (calm s) { own = own }))
      ∙ ap (λ (out : Out F T X). record (ends (let_go task s) reply.Done out) { own = own }) (alone (let_go_answer task s) quiet)

  -- who sleeps or not leaves the sleepers
  pub leaves_as : (ticker : Ticker) (n : ℕ) (who : TickOrRun ℕ) (own : Option (List Task)) (s : Solo F T X)
      → goes (suc (two (two (two (nine n))))) (step.Tick (tick_step.Leave who) ∷ step.End reply.Done ∷ [])
      (record (calm s) { ticker = ticker; own = own })
      ≡ record (ends (ticks.left ticker s) reply.Done (dropping (ticks.leave_answer ticker s))) { own = own }
  leaves_as (Awake room) n who own s = refl
  leaves_as (Asleep sleeper) n who own s =
      leaves_with (waker_of sleeper.number s.sleepers.wakers) n who own (ticks.gone sleeper.number s)

  pub tick_leaves_go : (s : Solo F T X) → TickLeavesGo s
  tick_leaves_go s t ticker = leaves_as ticker 4 (tick_or_run.Tick t) None s

  pub ticks_begin : (s : Solo F T X) → TicksBegin s
  ticks_begin s = refl
