-- How many more tasks than before a queue has accepted after what ticks and runs do, at most.
use Rattle.std.proofs.Common.{ℕ, zero, suc, ◌+◌, ◌*◌, ◌%◌, ◌≤◌, nat_lt, Bool, true, false, Option, Some, None}
use Rattle.std.proofs.Common.{slice_get, refl, sym, subst, arith}
use Rattle.queue_steps.specs.ClosableQueue.{most_accepted}
use Rattle.executor_parts.specs.Sleepers.{listed, position_of, waker_of}
use Rattle.executor_parts.specs.declared.mark.Mark.{Mark}
use Rattle.executor_parts.specs.declared.mark.Mark.TheVariants.{Plain, Urgent}
use Rattle.executor_parts.specs.declared.places.EntryPlace.{EntryPlace}
use Rattle.task_moves.specs.declared.local_task.answers.Start.{Start}
use Rattle.task_moves.specs.declared.local_task.answers.Start.TheVariants.{Drop as StartDrop, Poll as StartPoll}
use Rattle.solo.specs.declared.names.Task.{Task}
use Rattle.solo.specs.declared.names.SoloWaker.{SoloWaker}
use Rattle.solo.specs.declared.names.SoloWaker.TheVariants.{Task as OfTask, Outside}
use Rattle.solo.specs.declared.runs.Leaving.{Leaving}
use Rattle.solo.specs.declared.runs.Runner.{Runner}
use Rattle.solo.specs.declared.solo.Solo.{Solo}
use Rattle.solo.specs.declared.steals.Source.{Source}
use Rattle.solo.specs.declared.steals.Source.TheVariants.{Common, Own}
use Rattle.solo.specs.declared.ticks.Ticker.{Ticker}
use Rattle.solo.specs.declared.ticks.Ticker.TheVariants.{Asleep, Awake}
use Rattle.solo.specs.Cells.{asked}
use Rattle.solo.specs.Cells as cells
use Rattle.solo.specs.Closing as closing
use Rattle.solo.specs.Lines.{LinesValue, is_empty, popped_from, search_answer, searched}
use Rattle.solo.specs.OwnQueues as own
use Rattle.solo.specs.Runs as runs
use Rattle.solo.specs.Solo as solo
use Rattle.solo.specs.Steals as steals
use Rattle.solo.specs.Ticks as ticks
use Rattle.solo.specs.Turns as turns
use Rattle.plain_scheduler.specs.Lists.{on, repeat}
use Rattle.solo_laws.specs.Alike as alike
use Rattle.solo_laws.specs.Leaking.{leaked}
use Rattle.solo_laws.specs.Road.{HasLife, count_of}
use Rattle.solo_laws.specs.Running.{drains, more_left, run_left}
use Rattle.solo_laws.specs.RunResting.{run_rested, sleep_answer, slept_from}
use Rattle.solo_laws.specs.RunTaking.{woken_by}
use Rattle.solo_laws.specs.Ticking.{looks_again, rested, slept_answer, slept_once}
use Rattle.solo_laws.proofs.Prompt.{chosen}
use Rattle.solo_laws.proofs.Runs.{moved_on_keeps, round_on_keeps}
use Rattle.solo_laws.proofs.Following.Lines.{popped_same, searched_same, younger}
use Rattle.solo_laws.proofs.Following.Lives.{lined_if_lives, released_lives, scheduled_lives, three_fewer, told_lives}
use Rattle.solo_laws.proofs.Following.Lives.{two_fewer, woken_lives}
use Rattle.solo_laws.proofs.Happening.Choosing.{fewer}

-- a search, and a take from one queue, queue nothing
searched_lives : (n : ℕ) (l : LinesValue) → HasLife n l → HasLife n (searched l)
searched_lives n l life mark =
    subst (λ m. m + n ≤ most_accepted) (sym (searched_same (λ q. count_of q.accepted) (λ q. refl) mark l)) (life mark)

taken_lives : (n : ℕ) (of : Mark) (l : LinesValue) → HasLife n l → HasLife n (popped_from of l)
taken_lives n of l life mark =
    subst (λ m. m + n ≤ most_accepted) (sym (popped_same (λ q. count_of q.accepted) (λ q. refl) of mark l)) (life mark)

module _ {F T X : Type 0} where
  abbrev pub L : ℕ → Solo F T X → Type 0
  L n s = HasLife n s.lines

  pub copies_lives : (n : ℕ) (w : SoloWaker X) (s : Solo F T X) → L n s → L n (alike.copies w s)
  copies_lives n (OfTask t) s life = life
  copies_lives n (Outside w) s life = life

  begun_lives : (n : ℕ) (t : Task) (s : Solo F T X) → L n s → L n (turns.begun t s)
  begun_lives n t s life = by (asked cells.start_answer None t s.cells)
    where
      by : (o : Option (Start EntryPlace)) → L n (turns.out_of o (turns.turned cells.started t s))
      by None = life
      by (Some (StartPoll place)) = life
      by (Some (StartDrop place)) = life

  dropped_lives : (n : ℕ) (w : Option (SoloWaker X)) (s : Solo F T X) → L (suc (suc (suc n))) s → L n (ticks.waker_dropped w s)
  dropped_lives n None s life = three_fewer n s.lines life
  dropped_lives n (Some (OfTask t)) s life = released_lives n t s life
  dropped_lives n (Some (Outside w)) s life = three_fewer n s.lines life

  up_lives : (n : ℕ) (ticker : Ticker) (s : Solo F T X) → L n s → L n (ticks.up ticker s)
  up_lives n (Awake room) s life = life
  up_lives n (Asleep sleeper) s life = life

  unless_lives : (n : ℕ) (w : Option X) (s : Solo F T X) → L (suc (suc n)) s → L n (ticks.told_unless w s)
  unless_lives n (Some w) s life = two_fewer n s.lines life
  unless_lives n None s life = told_lives n s life

  -- whoever polls gets up, and one is told
  rises_lives : (n : ℕ) (ticker : Ticker) (s : Solo F T X) → L (suc (suc (suc (suc (suc n))))) s → L n (runs.told ticker s)
  rises_lives n ticker s life =
      unless_lives n (ticks.wake_up_answer ticker s).told.sleeper (ticks.woke_up ticker s)
      (dropped_lives (suc (suc n)) (ticks.kept_by ticker s) (ticks.up ticker s)
      (up_lives (suc (suc (suc (suc (suc n))))) ticker s life))

  pub found_lives : (n : ℕ) (ticker : Ticker) (t : Task) (s : Solo F T X) → L (suc (suc (suc (suc (suc n))))) s
      → L n (ticks.found ticker t (solo.popped s))
  found_lives n ticker t s life =
      begun_lives n t (runs.told ticker (solo.popped s))
      (rises_lives n ticker (solo.popped s) (searched_lives (suc (suc (suc (suc (suc n))))) s.lines life))

  pub tried_lives : (n : ℕ) (s : Solo F T X) → L (suc (suc n)) s → L n (solo.taken s)
  tried_lives n s life = by (solo.sought s)
    where
      by : (o : Option Task) → L n (solo.taken_by o (solo.popped s))
      by None = two_fewer n (searched s.lines) (searched_lives (suc (suc n)) s.lines life)
      by (Some t) =
          begun_lives n t (turns.told (solo.popped s)) (told_lives n (solo.popped s) (searched_lives (suc (suc n)) s.lines life))

  -- whoever finds nothing falls asleep
  asleep_lives : (n : ℕ) (ticker : Ticker) (w : SoloWaker X) (s : Solo F T X) → L (suc (suc (suc n))) s
      → L n (ticks.fallen_asleep ticker w s)
  asleep_lives n (Awake room) w s life = by (nat_lt s.sleepers.count s.sleepers.rooms)
    where
      by : (b : Bool) → L n (ticks.lain_anew b w s)
      by true = three_fewer n s.lines life
      by false = three_fewer n s.lines life
  asleep_lives n (Asleep sleeper) w s life = by (position_of sleeper.number s.sleepers.wakers)
    where
      by : (o : Option ℕ) → L n (ticks.lain_again o sleeper.number w s)
      by (Some at) = dropped_lives n (waker_of sleeper.number s.sleepers.wakers) (ticks.replaced at sleeper.number w s) life
      by None =
          chosen (L n) (ticks.is_short s) (ticks.stored (listed sleeper.number w s.sleepers) s) s (three_fewer n s.lines life)
          (three_fewer n s.lines life)

  slept_lives : (n : ℕ) (ticker : Ticker) (w : SoloWaker X) (s : Solo F T X) → L (suc (suc (suc n))) s → L n (ticks.slept ticker w s)
  slept_lives n ticker w s life =
      chosen (L n) (is_empty s.lines) (ticks.fallen_asleep ticker w s) s (asleep_lives n ticker w s life) (three_fewer n s.lines life)

  pub once_lives : (n : ℕ) (ticker : Ticker) (w : SoloWaker X) (s : Solo F T X) → L (suc (suc (suc n))) s → L n (slept_once ticker w s)
  once_lives n ticker w s life =
      slept_lives n ticker w (alike.copies w (solo.popped s))
      (copies_lives (suc (suc (suc n))) w (solo.popped s) (searched_lives (suc (suc (suc n))) s.lines life))

  pub popped_lives : (n : ℕ) (s : Solo F T X) → L n s → L n (solo.popped s)
  popped_lives n s life = searched_lives n s.lines life

  pub rested_lives : (n : ℕ) (ticker : Ticker) (w : SoloWaker X) (s : Solo F T X) → L (suc (suc (suc (suc (suc (suc n)))))) s
      → L n (rested ticker w s)
  rested_lives n ticker w s life =
      let out = slept_answer ticker w s in
      let z = slept_once ticker w s in
      let once = once_lives (suc (suc (suc n))) ticker w s life in
      chosen (L n) (looks_again out.look) (slept_once out.ticker w z) z (once_lives n out.ticker w z once) (three_fewer n z.lines once)

  left_by_lives : (n : ℕ) (w : Option (SoloWaker X)) (s : Solo F T X) → L (suc (suc (suc n))) s → L n (ticks.left_by w s)
  left_by_lives n None s life = told_lives n s (younger (suc (suc n)) s.lines life)
  left_by_lives n (Some w) s life = dropped_lives n (Some w) s life

  pub tick_left_lives : (n : ℕ) (ticker : Ticker) (s : Solo F T X) → L (suc (suc (suc n))) s → L n (ticks.left ticker s)
  tick_left_lives n (Awake room) s life = three_fewer n s.lines life
  tick_left_lives n (Asleep sleeper) s life =
      left_by_lives n (waker_of sleeper.number s.sleepers.wakers) (ticks.gone sleeper.number s) life

  -- a run steals, and walks
  first_lives : (n : ℕ) (source : Source) (s : Solo F T X) → L n s → L n (steals.without_first source s)
  first_lives n (Common mark) s life = taken_lives n mark s.lines life
  first_lives n (Own number) s life = life

  moved_lives : (n m : ℕ) (source : Source) (r : ℕ) (s : Solo F T X) → L n s → L n (steals.moved m source r s)
  moved_lives n zero source r s life = life
  moved_lives n (suc m) source r s life =
      let rest = first_lives n source s life in
      moved_on_keeps (L n) (steals.first_of source s) (steals.without_first source s)
      (λ t. steals.moved m source r (steals.kept r t (steals.without_first source s))) rest
      (λ t. moved_lives n m source r (steals.kept r t (steals.without_first source s)) rest)

  stolen_lives : (n : ℕ) (source : Source) (r : ℕ) (s : Solo F T X) → L n s → L n (steals.stolen source r s)
  stolen_lives n source r s life =
      moved_lives n (steals.share (steals.length_of source s) (own.free_of r s.runs)) source r s life

  looked_lives : (n r at : ℕ) (s : Solo F T X) → L n s → L n (steals.looked r at s)
  looked_lives n r at s life =
      chosen (L n) (steals.is_own r at s) s (steals.own_popped r (steals.stolen_at r at s)) life
      (stolen_lives n (Own (own.number_at at s.runs.queues)) r s life)

  round_lives : (n count r m at : ℕ) (s : Solo F T X) → L n s → L n (steals.round count r m at s).1
  round_lives n count r zero at s life = life
  round_lives n count r (suc m) at s life =
      round_on_keeps (L n) (steals.look_answer r at s) (steals.looked r at s)
      (steals.round count r m (steals.next_place at count) (steals.looked r at s)) (looked_lives n r at s life)
      (round_lives n count r m (steals.next_place at count) (steals.looked r at s) (looked_lives n r at s life))

  pub sought_lives : (n r start : ℕ) (s : Solo F T X) → L n s → L n (steals.sought r start s)
  sought_lives n r start s life = by (own.first_of r s.runs)
    where
      further : (o : Option Task)
          → L n (steals.further_by o (search_answer s.lines).mark r start (solo.popped (steals.own_popped r s)))
      further (Some t) =
          stolen_lives n (Common (search_answer s.lines).mark) r (solo.popped (steals.own_popped r s)) (searched_lives n s.lines life)
      further None =
          let y = solo.popped (steals.own_popped r s) in
          round_lives n y.runs.listed r y.runs.listed (start % y.runs.listed) y (searched_lives n s.lines life)

      by : (o : Option Task) → L n (steals.sought_by o r start (steals.own_popped r s))
      by (Some t) = life
      by None = further (search_answer s.lines).task

  pub search_lives : (n : ℕ) (runner : Runner) (ticker : Ticker) (start : ℕ) (s : Solo F T X)
      → L (suc (suc (suc (suc (suc n))))) s → L n (runs.searched runner ticker start s)
  search_lives n runner ticker start s life = by (steals.seek_answer runner.number start s).task
    where
      r : ℕ
      r = runner.number

      z : Solo F T X
      z = steals.sought runner.number start s

      found : L (suc (suc (suc (suc (suc n))))) (steals.sought runner.number start s)
      found = sought_lives (suc (suc (suc (suc (suc n))))) runner.number start s life

      by : (o : Option Task) → L n (runs.searched_by o runner ticker (steals.sought runner.number start s))
      by None = two_fewer n z.lines (three_fewer (suc (suc n)) z.lines found)
      by (Some t) =
          let y = runs.told ticker z in
          let told : L n y = rises_lives n ticker z found in
          let urgent = steals.stolen (Common Urgent) r y in
          begun_lives n t (steals.stolen_if (runs.is_steal_due runner) r y)
          (chosen (L n) (runs.is_steal_due runner) (steals.stolen (Common Plain) r urgent) y
          (stolen_lives n (Common Plain) r urgent (stolen_lives n (Common Urgent) r y told)) told)

  pub slept_from_lives : (n r start : ℕ) (ticker : Ticker) (w : SoloWaker X) (s : Solo F T X) → L (suc (suc (suc n))) s
      → L n (slept_from r start ticker w s)
  slept_from_lives n r start ticker w s life =
      slept_lives n ticker w (alike.copies w (steals.sought r start s))
      (copies_lives (suc (suc (suc n))) w (steals.sought r start s) (sought_lives (suc (suc (suc n))) r start s life))

  pub run_rested_lives : (n r one two : ℕ) (ticker : Ticker) (w : SoloWaker X) (s : Solo F T X)
      → L (suc (suc (suc (suc (suc (suc n)))))) s → L n (run_rested r one two ticker w s)
  run_rested_lives n r one two ticker w s life =
      let out = sleep_answer r one ticker w s in
      let z = slept_from r one ticker w s in
      let once = slept_from_lives (suc (suc (suc n))) r one ticker w s life in
      chosen (L n) (looks_again out.look) (slept_from r two out.ticker w z) z (slept_from_lives n r two out.ticker w z once)
      (three_fewer n z.lines once)

  pub woken_by_lives : (n : ℕ) (w : SoloWaker X) (s : Solo F T X) → L (suc (suc (suc n))) s → L n (woken_by w s)
  woken_by_lives n (OfTask t) s life = woken_lives n t s life
  woken_by_lives n (Outside w) s life = three_fewer n s.lines life

  -- a run goes
  drained_lives : (n : ℕ) (leaving : Leaving) (s : Solo F T X) → L (suc (suc (suc n))) s → L n (runs.drained leaving s)
  drained_lives n leaving s life = by (runs.first_left leaving.own)
    where
      by : (o : Option Task) → L n (runs.drained_by o leaving.ticker s)
      by (Some t) = scheduled_lives n t s life
      by None = tick_left_lives n leaving.ticker s life

  drains_lives : (m n k : ℕ) → 3 * m + n ≤ k → (leaving : Leaving) (s : Solo F T X) → L k s → L n (drains m leaving s)
  drains_lives zero n k most leaving s life = fewer n k s.lines (omega (arith, most)) life
  drains_lives (suc m) n k most leaving s life =
      by (more_left (runs.drain_answer leaving s)) (drains_lives m n (3 * m + n) (omega arith))
      (drained_lives (3 * m + n) leaving s (fewer (suc (suc (suc (3 * m + n)))) k s.lines (omega (arith, most)) life))
    where
      by : (o : Option Leaving) → ((leaving : Leaving) (s : Solo F T X) → L (3 * m + n) s → L n (drains m leaving s))
          → L (3 * m + n) (runs.drained leaving s) → L n (on o (drains m) (runs.drained leaving s))
      by None rest life = fewer n (3 * m + n) (runs.drained leaving s).lines (omega arith) life
      by (Some more) rest life = rest more (runs.drained leaving s) life

  pub run_left_lives : (n k : ℕ) (ticker : Ticker) (runner : Runner) (s : Solo F T X)
      → 3 * own.count_of runner.number s.runs + 3 + n ≤ k → L k s → L n (run_left ticker runner s)
  run_left_lives n k ticker runner s most life =
      drains_lives (suc (own.count_of runner.number s.runs)) n k (omega (arith, most)) (runs.leave_answer runner ticker s)
      (runs.left runner s) life

  -- a leak
  leak_woken_lives : (n : ℕ) (s : Solo F T X) → L (suc (suc (suc (suc n)))) s → L n (closing.leak_woken s)
  leak_woken_lives n s life = by (slice_get s.leaving.items 0)
    where
      by : (o : Option Task) → L n (closing.leak_woken_by o (closing.first_left s))
      by None = three_fewer n s.lines (younger (suc (suc (suc n))) s.lines life)
      by (Some t) =
          let y = closing.first_left s in
          let z = solo.woken t y in
          lined_if_lives n (asked cells.release_queues false t z.cells) t (turns.turned cells.released t z) (woken_lives (suc n) t y life)

  leaks_lives : (m n k : ℕ) → 6 * m + n ≤ k → (s : Solo F T X) → L k s → L n (repeat m closing.leak_woken s)
  leaks_lives zero n k most s life = fewer n k s.lines (omega (arith, most)) life
  leaks_lives (suc m) n k most s life =
      leaks_lives m n (6 * m + n) (omega arith) (closing.leak_woken s)
      (leak_woken_lives (6 * m + n) s (fewer (suc (suc (suc (suc (6 * m + n))))) k s.lines (omega (arith, most)) life))

  pub leaked_lives : (m n k : ℕ) → 6 * m + n ≤ k → (s : Solo F T X) → L k s → L n (leaked m s)
  leaked_lives m n k most s life = leaks_lives m n k most (closing.leaked s) life
