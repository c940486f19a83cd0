-- What calls leave of the runs' own queues, and of how many may sleep: all but those of runs leave them as they are; a run's search
-- changes the queues one by one, and one that goes gives its room back.
use Rattle.std.proofs.Common.{◌≡◌, ℕ, zero, suc, ◌-◌, ◌%◌, ◌<◌, nat_lt, Bool, true, false, List, [], ◌∷◌, ◌++◌, length, drop, remove}
use Rattle.std.proofs.Common.{Option, Some, None, refl, sym, ap, subst, ◌∙◌, arith}
use Rattle.executor_parts.specs.Sleepers.{Sleepers, freed, listed, position_of, waker_of, without_entry, woken_up}
use Rattle.executor_parts.specs.declared.places.EntryPlace.{EntryPlace}
use Rattle.executor_parts.specs.declared.mark.Mark.{Mark}
use Rattle.executor_parts.specs.declared.mark.Mark.TheVariants.{Plain, Urgent}
use Rattle.task_moves.specs.declared.local_task.answers.Start.{Start}
use Rattle.task_moves.specs.declared.local_task.answers.Start.TheVariants.{Poll as StartPoll, Drop as StartDrop}
use Rattle.solo.specs.declared.names.Task.{Task}
use Rattle.solo.specs.declared.names.SoloWaker.{SoloWaker}
use Rattle.solo.specs.declared.names.SoloWaker.TheVariants.{Task as OfTask, Outside}
use Rattle.solo.specs.declared.runs.Runner.{Runner}
use Rattle.solo.specs.declared.solo.Solo.{Solo}
use Rattle.solo.specs.declared.steals.Source.{Source}
use Rattle.solo.specs.declared.steals.Source.TheVariants.{Common, Own}
use Rattle.solo.specs.declared.ticks.Ticker.{Ticker}
use Rattle.solo.specs.declared.ticks.Ticker.TheVariants.{Awake, Asleep}
use Rattle.solo.specs.Cells.{asked, choose}
use Rattle.solo.specs.Cells as cells
use Rattle.solo.specs.Lines.{is_empty, search_answer}
use Rattle.solo.specs.OwnQueues as own
use Rattle.solo.specs.Runs as runs
use Rattle.solo.specs.Solo as solo
use Rattle.solo.specs.Steals as steals
use Rattle.solo.specs.Ticks as ticks
use Rattle.solo.specs.Turns as turns
use Rattle.solo_laws.specs.Alike.{copies}
use Rattle.solo_laws.specs.Running.{drains}
use Rattle.solo_laws.specs.RunTaking.{woken_by}
use Rattle.solo_laws.specs.Ticking.{looks_again, rested, slept_answer, slept_once}
use Rattle.solo_laws.proofs.Prompt.{chosen}
use Rattle.solo_laws.proofs.Runs.{moved_on_keeps, round_on_keeps}
use Rattle.solo_laws.proofs.Following.Bases as bases

-- one room less, where fewer sleep
abbrev pub one_less : ℕ → ℕ → ℕ
one_less count rooms = choose (nat_lt count rooms) (rooms - 1) rooms

given_rooms : {X : Type 0} (u : Sleepers (SoloWaker X)) (n : ℕ) → u.rooms ≡ n
    → (ticks.given_back u).rooms ≡ one_less (ticks.given_back u).count n
given_rooms {X} u n is =
    subst (λ n. (ticks.given_back u).rooms ≡ one_less (ticks.given_back u).count n) is (by (nat_lt u.count u.rooms) refl)
  where
    by : (b : Bool) → nat_lt u.count u.rooms ≡ b
        → (choose b (record u { rooms = u.rooms - 1 }) u).rooms ≡ one_less (choose b (record u { rooms = u.rooms - 1 }) u).count u.rooms
    by true is = sym (ap (λ b. choose b (u.rooms - 1) u.rooms) is)
    by false is = sym (ap (λ b. choose b (u.rooms - 1) u.rooms) is)

woken_rooms : {W : Type 0} (n : ℕ) (u : Sleepers W) → (woken_up n u).rooms ≡ u.rooms
woken_rooms {W} n u = by (position_of n u.wakers)
  where
    either : (b : Bool) (v now : Sleepers W) → now.rooms ≡ v.rooms
        → (elim b as (λ b. Sleepers W) [ true ↦ now | false ↦ v ]).rooms ≡ v.rooms
    either true v now is = is
    either false v now is = refl

    by : (at : Option ℕ) → (freed n (without_entry at u)).rooms ≡ u.rooms
    by None = either (nat_lt (length u.wakers) u.count) u (record u { count = u.count - 1; free = u.free ++ n ∷ [] }) refl
    by (Some at) =
        let v : Sleepers W = record u { wakers = remove u.wakers at } in
        either (nat_lt (length v.wakers) v.count) v (record v { count = v.count - 1; free = v.free ++ n ∷ [] }) refl

module _ {F T X : Type 0} where
  abbrev pub placed : Solo F T X → own.OwnQueuesValue × ℕ
  placed s = (s.runs, s.sleepers.rooms)

  -- they are the same
  abbrev pub Same : Solo F T X → Solo F T X → Type 0
  Same s z = placed z ≡ placed s

  pub same_runs : (s z : Solo F T X) → Same s z → z.runs ≡ s.runs
  same_runs s z is = ap (λ (b : own.OwnQueuesValue × ℕ). b.0) is

  pub of_base : (s z : Solo F T X) → bases.Base s z → Same s z
  of_base s z b =
      ap (λ (o : own.OwnQueuesValue). (o, z.sleepers.rooms)) b.6 ∙ ap (λ (n : ℕ). (s.runs, n)) b.5.2

  told_same : (s : Solo F T X) → Same s (turns.told s)
  told_same s = of_base s (turns.told s) (bases.told_base s s (bases.same s))

  told_unless_same : (w : Option X) (s : Solo F T X) → Same s (ticks.told_unless w s)
  told_unless_same (Some w) s = refl
  told_unless_same None s = told_same s

  waker_dropped_base : (w : Option (SoloWaker X)) (s : Solo F T X) → bases.Base s (ticks.waker_dropped w s)
  waker_dropped_base (Some (OfTask t)) s = bases.released_base s t s (bases.same s)
  waker_dropped_base (Some (Outside w)) s = bases.same s
  waker_dropped_base None s = bases.same s

  waker_dropped_same : (w : Option (SoloWaker X)) (s : Solo F T X) → Same s (ticks.waker_dropped w s)
  waker_dropped_same w s = of_base s (ticks.waker_dropped w s) (waker_dropped_base w s)

  up_same : (ticker : Ticker) (s : Solo F T X) → Same s (ticks.up ticker s)
  up_same (Awake room) s = refl
  up_same (Asleep sleeper) s = ap (λ (n : ℕ). (s.runs, n)) (woken_rooms sleeper.number s.sleepers)

  -- whoever polls gets up, and a sleeper is told
  run_told_same : (ticker : Ticker) (s : Solo F T X) → Same s (runs.told ticker s)
  run_told_same ticker s =
      told_unless_same (ticks.wake_up_answer ticker s).told.sleeper (ticks.woke_up ticker s)
      ∙ (waker_dropped_same (ticks.kept_by ticker s) (ticks.up ticker s) ∙ up_same ticker s)

  begun_same : (t : Task) (s : Solo F T X) → Same s (turns.begun t s)
  begun_same t s = by (asked cells.start_answer None t s.cells)
    where
      by : (o : Option (Start EntryPlace)) → Same s (turns.out_of o (turns.turned cells.started t s))
      by None = refl
      by (Some (StartPoll place)) = refl
      by (Some (StartDrop place)) = refl

  pub found_same : (ticker : Ticker) (t : Task) (s : Solo F T X) → Same s (ticks.found ticker t s)
  found_same ticker t s = begun_same t (runs.told ticker s) ∙ run_told_same ticker s

  -- who falls asleep
  asleep_same : (ticker : Ticker) (w : SoloWaker X) (s : Solo F T X) → Same s (ticks.fallen_asleep ticker w s)
  asleep_same (Awake room) w s = by (nat_lt s.sleepers.count s.sleepers.rooms)
    where
      by : (b : Bool) → Same s (ticks.lain_anew b w s)
      by true = refl
      by false = refl
  asleep_same (Asleep sleeper) w s = by (position_of sleeper.number s.sleepers.wakers)
    where
      by : (at : Option ℕ) → Same s (ticks.lain_again at sleeper.number w s)
      by (Some at) = waker_dropped_same (waker_of sleeper.number s.sleepers.wakers) (ticks.replaced at sleeper.number w s)
      by None =
          chosen (Same s) (ticks.is_short s) (ticks.stored (listed sleeper.number w s.sleepers) s) s refl refl

  pub slept_same : (ticker : Ticker) (w : SoloWaker X) (s : Solo F T X) → Same s (ticks.slept ticker w s)
  slept_same ticker w s = chosen (Same s) (is_empty s.lines) (ticks.fallen_asleep ticker w s) s (asleep_same ticker w s) refl

  pub copies_same : (w : SoloWaker X) (s : Solo F T X) → Same s (copies w s)
  copies_same (OfTask t) s = refl
  copies_same (Outside w) s = refl

  pub once_same : (ticker : Ticker) (w : SoloWaker X) (s : Solo F T X) → Same s (slept_once ticker w s)
  once_same ticker w s = slept_same ticker w (copies w (solo.popped s)) ∙ copies_same w (solo.popped s)

  pub rested_same : (ticker : Ticker) (w : SoloWaker X) (s : Solo F T X) → Same s (rested ticker w s)
  rested_same ticker w s =
      let out = slept_answer ticker w s in
      let z = slept_once ticker w s in
      chosen (Same s) (looks_again out.look) (slept_once out.ticker w z) z (once_same out.ticker w z ∙ once_same ticker w s)
      (once_same ticker w s)

  -- who goes gives its room back
  abbrev pub Left : Solo F T X → Solo F T X → Type 0
  Left s z = placed z ≡ (s.runs, one_less z.sleepers.count s.sleepers.rooms)

  and_then : (s y z : Solo F T X) → Left s y → bases.Base y z → Left s z
  and_then s y z gone b =
      of_base y z b ∙ (gone ∙ ap (λ (n : ℕ). (s.runs, one_less n s.sleepers.rooms)) (sym b.5.1))

  and_before : (s y z : Solo F T X) → Same s y → Left y z → Left s z
  and_before s y z is gone = gone ∙ ap (λ (b : own.OwnQueuesValue × ℕ). (b.0, one_less z.sleepers.count b.1)) is

  pub left_as : (ticker : Ticker) (s : Solo F T X) → Left s (ticks.left ticker s)
  left_as (Awake room) s = ap (λ (n : ℕ). (s.runs, n)) (given_rooms s.sleepers s.sleepers.rooms refl)
  left_as (Asleep sleeper) s = by (waker_of sleeper.number s.sleepers.wakers)
    where
      y : Solo F T X
      y = ticks.gone sleeper.number s

      gone : Left s y
      gone =
          ap (λ (n : ℕ). (s.runs, n))
          (given_rooms (woken_up sleeper.number s.sleepers) s.sleepers.rooms (woken_rooms sleeper.number s.sleepers))

      by : (w : Option (SoloWaker X)) → Left s (ticks.left_by w y)
      by None = and_then s y (turns.told y) gone (bases.told_base y y (bases.same y))
      by (Some w) = and_then s y (ticks.waker_dropped (Some w) y) gone (waker_dropped_base (Some w) y)

  -- a run goes once none is left of what it kept
  pub drains_as : (n : ℕ) (tasks : Option (List Task)) (ticker : Ticker) (s : Solo F T X) → own.count_in tasks < n
      → Left s (drains n (record { own = tasks; ticker = ticker }) s)
  drains_as zero tasks ticker s less = absurd (omega (arith, less))
  drains_as (suc n) None ticker s less = left_as ticker s
  drains_as (suc n) (Some []) ticker s less = left_as ticker s
  drains_as (suc n) (Some (t ∷ ts)) ticker s less =
      let y : Solo F T X = turns.scheduled t s in
      and_before s y (drains n (record { own = Some ts; ticker = ticker }) y)
      (of_base s y (bases.scheduled_base s t s (bases.same s))) (drains_as n (Some ts) ticker y (omega (arith, less)))

  -- a waker is called, and stays
  pub woken_same : (w : SoloWaker X) (s : Solo F T X) → Same s (woken_by w s)
  woken_same (OfTask t) s = of_base s (woken_by (OfTask t) s) (bases.woken_base s t s (bases.same s))
  woken_same (Outside w) s = refl

  -- what stays as one goes from any of them, and as one comes last in that of this run
  module _ (P : own.OwnQueuesValue × ℕ → Type 0) (r : ℕ)
      (pops : (k : ℕ) (o : own.OwnQueuesValue) (n : ℕ) → P (o, n) → P (own.changed (drop 1) k o, n))
      (pushes : (t : Task) (o : own.OwnQueuesValue) (n : ℕ) → P (o, n) → P (own.changed (own.pushed t) r o, n)) where
    abbrev Of : Solo F T X → Type 0
    Of s = P (placed s)

    first_gone : (source : Source) (s : Solo F T X) → Of s → Of (steals.without_first source s)
    first_gone (Common mark) s p = p
    first_gone (Own k) s p = pops k s.runs s.sleepers.rooms p

    moved_of : (n : ℕ) (source : Source) (s : Solo F T X) → Of s → Of (steals.moved n source r s)
    moved_of zero source s p = p
    moved_of (suc n) source s p =
        let z = steals.without_first source s in
        moved_on_keeps Of (steals.first_of source s) z (λ task. steals.moved n source r (steals.kept r task z)) (first_gone source s p)
        (λ task. moved_of n source (steals.kept r task z) (pushes task z.runs z.sleepers.rooms (first_gone source s p)))

    stolen_of : (source : Source) (s : Solo F T X) → Of s → Of (steals.stolen source r s)
    stolen_of source s p = moved_of (steals.share (steals.length_of source s) (own.free_of r s.runs)) source s p

    looked_of : (at : ℕ) (s : Solo F T X) → Of s → Of (steals.looked r at s)
    looked_of at s p =
        let z = steals.stolen_at r at s in
        chosen Of (steals.is_own r at s) s (steals.own_popped r z) p
        (pops r z.runs z.sleepers.rooms (stolen_of (Own (own.number_at at s.runs.queues)) s p))

    round_of : (count n at : ℕ) (s : Solo F T X) → Of s → Of (steals.round count r n at s).1
    round_of count zero at s p = p
    round_of count (suc n) at s p =
        let z = steals.looked r at s in
        round_on_keeps Of (steals.look_answer r at s) z (steals.round count r n (steals.next_place at count) z) (looked_of at s p)
        (round_of count n (steals.next_place at count) z (looked_of at s p))

    pub sought_of : (start : ℕ) (s : Solo F T X) → Of s → Of (steals.sought r start s)
    sought_of start s p = by (own.first_of r s.runs)
      where
        z : Solo F T X
        z = steals.own_popped r s

        z_of : Of z
        z_of = pops r s.runs s.sleepers.rooms p

        further : (o : Option Task) (mark : Mark) → Of (steals.further_by o mark r start (solo.popped z))
        further (Some task) mark = stolen_of (Common mark) (solo.popped z) z_of
        further None mark = round_of z.runs.listed z.runs.listed (start % z.runs.listed) (solo.popped z) z_of

        by : (o : Option Task) → Of (steals.sought_by o r start z)
        by (Some task) = z_of
        by None = further (search_answer z.lines).task (search_answer z.lines).mark

    run_found_of : (runner : Runner) → runner.number ≡ r → (ticker : Ticker) (t : Task) (s : Solo F T X) → Of s
        → Of (runs.found runner ticker t s)
    run_found_of runner same ticker t s p =
        subst P (sym (begun_same t (steals.stolen_if (runs.is_steal_due runner) runner.number y)))
        (subst (λ n. Of (steals.stolen_if (runs.is_steal_due runner) n y)) (sym same)
        (chosen Of (runs.is_steal_due runner) (steals.stolen (Common Plain) r (steals.stolen (Common Urgent) r y)) y
        (stolen_of (Common Plain) (steals.stolen (Common Urgent) r y) (stolen_of (Common Urgent) y y_of)) y_of))
      where
        y : Solo F T X
        y = runs.told ticker s

        y_of : Of y
        y_of = subst P (sym (run_told_same ticker s)) p

    pub searched_of : (runner : Runner) → runner.number ≡ r → (ticker : Ticker) (start : ℕ) (s : Solo F T X) → Of s
        → Of (runs.searched runner ticker start s)
    searched_of runner same ticker start s p =
        by (steals.seek_answer runner.number start s).task (subst (λ n. Of (steals.sought n start s)) (sym same) (sought_of start s p))
      where
        by : (o : Option Task) → Of (steals.sought runner.number start s)
            → Of (runs.searched_by o runner ticker (steals.sought runner.number start s))
        by (Some task) z_of = run_found_of runner same ticker task (steals.sought runner.number start s) z_of
        by None z_of = z_of
