-- A run wakes up, counts, steals and begins with what it has found, as `next` says.
use Rattle.std.proofs.Common.{◌≡◌, ℕ, zero, suc, ◌+◌, ◌/◌, ◌%◌, ◌<◌, ◌==◌, min, nat_lt, cond, Bool, true, false, List, [], ◌∷◌, ◌++◌}
use Rattle.std.proofs.Common.{Option, Some, None, refl, ap, sym, subst, ◌∙◌, arith}
use Rattle.std.proofs.lemmas.Bool.Decides.{nat_tests}
use Rattle.std.specs.Int.{div_ceil}
use Rattle.executor_parts.specs.declared.mark.Mark.TheVariants.{Plain, Urgent}
use Rattle.executor_parts.specs.declared.places.EntryPlace.{EntryPlace}
use Rattle.executor_parts.specs.Sleepers.{waker_of, woken_up}
use Rattle.task_moves.specs.declared.local_task.answers.Start.{Start}
use Rattle.task_moves.specs.declared.local_task.answers.Start.TheVariants.{Poll, Drop}
use Rattle.task_moves.specs.declared.moves.owed.Move.TheVariants as move
use Rattle.call_steps.specs.declared.names.RunPoll.{RunPoll}
use Rattle.call_steps.specs.declared.names.Source.TheVariants as source
use Rattle.call_steps.specs.declared.names.Steal.{Steal}
use Rattle.call_steps.specs.declared.names.Then.TheVariants as then
use Rattle.call_steps.specs.declared.names.TickOrRun.TheVariants as tick_or_run
use Rattle.call_steps.specs.declared.names.Waker.{Waker}
use Rattle.call_steps.specs.declared.saw.Searcher.{Searcher}
use Rattle.call_steps.specs.declared.saw.Saw.TheVariants as saw
use Rattle.call_steps.specs.declared.step.CallStep.TheVariants as step
use Rattle.call_steps.specs.declared.step.run.StealStep.TheVariants as steal_step
use Rattle.call_steps.specs.declared.step.tick.SleeperStep.TheVariants as sleeper_step
use Rattle.call_steps.specs.declared.step.tick.TickStep.TheVariants as tick_step
use Rattle.call_steps.specs.Next.{next_steal, next_tick}
use Rattle.call_steps.specs.Owing.{owed}
use Rattle.call_steps.specs.Sleeping.{counted_by, found_by_run, run_by, tell, woken_up as woken_first}
use Rattle.call_steps.specs.Stealing.{of_length, share as share_of, steal_on, stolen as then_on}
use Rattle.solo.specs.declared.names.Task.{Task}
use Rattle.solo.specs.declared.names.SoloWaker.{SoloWaker}
use Rattle.solo.specs.declared.names.SoloWaker.TheVariants.{Task as OfTask, Outside}
use Rattle.solo.specs.declared.owed.Told.{Told}
use Rattle.solo.specs.declared.runs.Runner.{Runner}
use Rattle.solo.specs.declared.ticks.Ticker.{Ticker}
use Rattle.solo.specs.declared.ticks.Ticker.TheVariants.{Awake, Asleep}
use Rattle.solo.specs.declared.solo.Solo.{Solo}
use Rattle.solo.specs.Cells.{choose}
use Rattle.solo.specs.Cells as cells
use Rattle.solo.specs.OwnQueues as own
use Rattle.solo.specs.Runs as runs
use Rattle.solo.specs.Steals as steals
use Rattle.solo.specs.Steals.{kept, length_of, moved, moved_on, share}
use Rattle.solo.specs.Steals.{stolen, stolen_if, without_first}
use Rattle.solo.specs.Turns as turns
use Rattle.solo.specs.Turns.{let_go, let_go_answer, outside, told, told_waker}
use Rattle.solo.specs.Ticks as ticks
use Rattle.solo.specs.Ticks.{drop_waker_answer, its_room, tell_unless_answer, told_unless, waker_dropped}
use Rattle.solo_laws.specs.Going.{Going, Step, quiet}
use Rattle.solo_laws.specs.Seen.{begins_by, name_if, searcher, sleeps, source_of, taken_or_ends}
use Rattle.solo_laws.specs.Done.{either, gone_if, leaves}
use Rattle.solo_laws.specs.Goes.{goes}
use Rattle.solo_laws.specs.HandedOut.{start_of}
use Rattle.solo_laws.specs.TicksGo.{waking}
use Rattle.solo_laws.specs.SearchesGo.{Ends, behind_run, run_at, runs_found, to_run_on}
use Rattle.solo_laws.proofs.Stepping.Telling.{two, five, nine, free, lets_go, telling_in, tells}
use Rattle.solo_laws.proofs.Stepping.Taking.{either_none}
use Rattle.solo_laws.proofs.Stepping.Ticking.{let_go_flag, unless_answer, unless_state}
use Rattle.solo_laws.proofs.Stepping.Depth.{app, emptied, ends_as, fixed, nil, one}

-- shares

half_by : (q r n : ℕ) → r < 2 → n ≡ q + q + r → q + min 1 r ≡ (n + 1) / 2
half_by q zero n few is = omega (arith, is)
half_by q (suc zero) n few is = omega (arith, is)
half_by q (suc (suc r)) n few is = absurd (omega (arith, few))

half_same : (n : ℕ) → div_ceil n 2 ≡ (n + 1) / 2
half_same n = half_by (n / 2) (n % 2) n (omega arith) (omega arith)

cond_is : (b : Bool) (x y : ℕ) → choose b x y ≡ cond b x y
cond_is true x y = refl
cond_is false x y = refl

share_same : (n free : ℕ) → share_of n free ≡ share n free
share_same n free =
    sym (cond_is (nat_lt ((n + 1) / 2) free) ((n + 1) / 2) free)
    ∙ ap (λ (h : ℕ). choose (nat_lt h free) h free) (sym (half_same n))

none_free : (b : Bool) (free : ℕ) → nat_lt 0 free ≡ b → choose b 0 free ≡ 0
none_free true free is = refl
none_free false free is = grind (arith, nat_tests)

share_zero : (free : ℕ) → share 0 free ≡ 0
share_zero free = none_free (nat_lt 0 free) free refl

-- counts

due_by : (b : Bool) (c : ℕ) → nat_lt c 63 ≡ b → c < 64 → (c + 1 == 64) ≡ choose b false true
due_by true c is few = grind (arith, nat_tests)
due_by false c is few = grind (arith, nat_tests)

due_same : (runner : Runner) → runner.counted < 64 → (runner.counted + 1 == 64) ≡ runs.is_steal_due runner
due_same runner few = due_by (nat_lt runner.counted 63) runner.counted refl few

way_by : (b : Bool) (c : ℕ) → nat_lt c 199 ≡ b → c < 200 → (c + 1 == 200) ≡ choose b false true
way_by true c is few = grind (arith, nat_tests)
way_by false c is few = grind (arith, nat_tests)

way_same : (runner : Runner) → runner.taken < 200 → (runner.taken + 1 == 200) ≡ runs.gives_way runner
way_same runner few = way_by (nat_lt runner.taken 199) runner.taken refl few

module _ {F T X : Type 0} where
  -- a steal

  abbrev Thens : Steal Task ℕ → Going F T X → Solo F T X → Going F T X → Type 0
  Thens st g s end = Ends (then_on (searcher g) st) (leaves s (emptied g)) end

  take_one : (a : Option Task) (n : ℕ) (st : Steal Task ℕ) (g end : Going F T X)
      → ((h : Going F T X) → Thens st h (moved n (source_of st.from) st.poll.run h.solo) end
      → Ends (steal_on n (searcher h) st) (emptied h) end)
      → Thens st g
      (moved_on a (without_first (source_of st.from) g.solo)
      (λ task. moved n (source_of st.from) st.poll.run (kept st.poll.run task (without_first (source_of st.from) g.solo)))) end
      → Ends (next_steal (steal_step.Take st n) (taken_or_ends a (searcher g)))
      (leaves (without_first (source_of st.from) g.solo) (emptied g)) end
  take_one None n st g end more tail = tail
  take_one (Some task) n st g end more tail =
      one (step.Steal (steal_step.Put st n task)) (leaves (without_first (source_of st.from) g.solo) g) end refl
      (more (leaves (kept st.poll.run task (without_first (source_of st.from) g.solo)) g) tail)

  moves : (n : ℕ) (st : Steal Task ℕ) (g end : Going F T X)
      → Thens st g (moved n (source_of st.from) st.poll.run g.solo) end → Ends (steal_on n (searcher g) st) (emptied g) end
  moves zero st g end tail = tail
  moves (suc n) st g end tail =
      one (step.Steal (steal_step.Take st n)) g end refl
      (take_one (steals.first_of (source_of st.from) g.solo) n st g end (λ h t. moves n st h end t) tail)

  by_length : (l : ℕ) (st : Steal Task ℕ) (g end : Going F T X)
      → Thens st g (moved (share l (own.free_of st.poll.run g.solo.runs)) (source_of st.from) st.poll.run g.solo) end
      → Ends (of_length l (searcher g) st) (emptied g) end
  by_length zero st g end tail =
      subst (λ (n : ℕ). Thens st g (moved n (source_of st.from) st.poll.run g.solo) end)
      (share_zero (own.free_of st.poll.run g.solo.runs)) tail
  by_length (suc l) st g end tail =
      one (step.Steal (steal_step.OwnLength st (suc l))) g end refl
      (subst (λ (n : ℕ). Ends (steal_on n (searcher g) st) (emptied g) end)
      (sym (share_same (suc l) (own.free_of st.poll.run g.solo.runs)))
      (moves (share (suc l) (own.free_of st.poll.run g.solo.runs)) st g end tail))

  -- it steals, and goes on
  pub steals_so : (st : Steal Task ℕ) (g end : Going F T X)
      → Thens st g (stolen (source_of st.from) st.poll.run g.solo) end → Ends (step.Steal (steal_step.Length st) ∷ []) (emptied g) end
  steals_so st g end tail =
      one (step.Steal (steal_step.Length st)) g end refl (by_length (length_of (source_of st.from) g.solo) st g end tail)

  -- it wakes up and tells a sleeper

  abbrev told_with : Runner → ℕ → Option (SoloWaker X) → Option X → Option X → Option Task → Solo F T X → Going F T X
  told_with runner start spare gone sleeper returned s = record (run_at runner start (Awake its_room) spare s) {
    out = record quiet { sleeper = sleeper; gone = gone; returned = returned };
  }

  tells_so : (g : Going F T X)
      → Ends tell (free g)
      (record (free g) { solo = told g.solo; out = record g.out { sleeper = either (told_waker g.solo) g.out.sleeper } })
  tells_so g = fixed (λ n. two (nine n)) 11 tell (free g) _ (λ m le. omega (arith, le)) (λ n. tells n g)

  tells_then : (more : List Step) (runner : Runner) (start : ℕ) (spare : Option (SoloWaker X)) (gone : Option X) (s : Solo F T X)
      (end : Going F T X) → Ends more (told_with runner start spare gone (told_waker s) None (told s)) end
      → Ends (step.Sleeper sleeper_step.ExchangeFlag ∷ more)
      (record (run_at runner start (Awake its_room) spare s) { out = record quiet { gone = gone } }) end
  tells_then more runner start spare gone s end tail =
      let g : Going F T X = record (run_at runner start (Awake its_room) spare s) { out = record quiet { gone = gone } } in
      app (step.Sleeper sleeper_step.ExchangeFlag) more g (told_with runner start spare gone (told_waker s) None (told s)) end
      (ends_as tell g _ _ (tells_so g)
      (ap (λ (w : Option X). told_with runner start spare gone w None (told s)) (either_none (told_waker s)))) tail

  wakes_with : (k : Option (SoloWaker X)) (r : ℕ) (more : List Step) (runner : Runner) (start : ℕ) (spare : Option (SoloWaker X))
      (s : Solo F T X) (end : Going F T X)
      → Ends more
      (told_with runner start spare (drop_waker_answer k s).old
      (tell_unless_answer (drop_waker_answer k s).told.sleeper (waker_dropped k s))
      (drop_waker_answer k s).told.returned
      (told_unless (drop_waker_answer k s).told.sleeper (waker_dropped k s)))
      end
      → (mid : Going F T X)
      × Ends (next_tick (tick_step.WakeUp (tick_or_run.Run r)) (saw.Awake (name_if k)))
      (record (run_at runner start (Awake its_room) spare s) { out = record quiet { gone = outside k } }) mid
      × Ends (step.Sleeper sleeper_step.ExchangeFlag ∷ more) mid end
  wakes_with None r more runner start spare s end tail =
      let g : Going F T X = run_at runner start (Awake its_room) spare s in
      (g, nil g, tells_then more runner start spare None s end tail)
  wakes_with (Some (Outside x)) r more runner start spare s end tail =
      let g : Going F T X = record (run_at runner start (Awake its_room) spare s) { out = record quiet { gone = Some x } } in
      (g, nil g, tells_then more runner start spare (Some x) s end tail)
  wakes_with (Some (OfTask t)) r more runner start spare s end tail =
      let a : Told X = let_go_answer t s in
      let gone : Solo F T X = let_go t s in
      let g : Going F T X = run_at runner start (Awake its_room) spare s in
      let mid : Going F T X = record (run_at runner start (Awake its_room) spare gone) { out = telling_in a quiet } in (
        mid,
        fixed (λ n. two (two (two (nine n)))) 15 (step.Move move.Release t ∷ []) g mid (λ m le. omega (arith, le)) (λ n. lets_go n t g),
        app (step.Sleeper sleeper_step.ExchangeFlag) more mid
            (told_with runner start spare None (tell_unless_answer a.sleeper gone) a.returned (told_unless a.sleeper gone)) end
            (ends_as tell mid _ _ (tells_so mid)
            (ap (λ (w : Option X). told_with runner start spare None w (either a.returned None) (told gone))
            (unless_answer a.sleeper gone (let_go_flag t s))
            ∙ ap (λ (r : Option Task). told_with runner start spare None (tell_unless_answer a.sleeper gone) r (told gone))
            (either_none a.returned)
            ∙ ap (told_with runner start spare None (tell_unless_answer a.sleeper gone) a.returned)
            (unless_state a.sleeper gone (let_go_flag t s))))
            tail,
      )

  wakes_so : (ticker : Ticker) (r : ℕ) (more : List Step) (runner : Runner) (start : ℕ) (spare : Option (SoloWaker X))
      (s : Solo F T X) (end : Going F T X)
      → Ends more (record (run_at runner start runs.awake spare (runs.told ticker s)) { out = waking ticker s }) end
      → Ends (woken_first (sleeps ticker) (tick_or_run.Run r) tell ++ more) (run_at runner start ticker spare s) end
  wakes_so (Awake room) r more runner start spare s end tail = tells_then more runner start spare None s end tail
  wakes_so (Asleep sleeper) r more runner start spare s end tail =
      let k : Option (SoloWaker X) = waker_of sleeper.number s.sleepers.wakers in
      let up : Solo F T X = ticks.stored (woken_up sleeper.number s.sleepers) s in
      let both = wakes_with k r more runner start spare up end tail in
      app (step.Tick (tick_step.WakeUp (tick_or_run.Run r))) (step.Sleeper sleeper_step.ExchangeFlag ∷ more)
      (run_at runner start (Asleep sleeper) spare s) both.0 end
      (one (step.Tick (tick_step.WakeUp (tick_or_run.Run r))) (run_at runner start (Asleep sleeper) spare s) both.0 refl both.1) both.2

  -- the task's turn begins

  turn_by : (b : Bool) (start : Option (Start EntryPlace)) (n : ℕ) (task : Task) (x : RunPoll Task ℕ) (s : Solo F T X) (g : Going F T X)
      → goes (five n) (behind_run b x)
      (goes (five n) (owed true task (begins_by start))
      (record (free g) {
        solo = turns.turned cells.started task s;
        starts = start;
        rests = true;
        out = record g.out { found = gone_if start g.out.found };
      }))
      ≡ record (free g) {
        solo = turns.out_of start (turns.turned cells.started task s);
        starts = None;
        rests = true;
        out = record g.out { found = turns.found_by task start s };
        left = to_run_on task start (behind_run b x);
      }
  turn_by true (Some (Poll place)) n task x s g = refl
  turn_by true (Some (Drop place)) n task x s g = refl
  turn_by true None n task x s g = refl
  turn_by false (Some (Poll place)) n task x s g = refl
  turn_by false (Some (Drop place)) n task x s g = refl
  turn_by false None n task x s g = refl

  turn_so : (b : Bool) (task : Task) (x : RunPoll Task ℕ) (g : Going F T X)
      → Ends (run_by b x task) (free (record g { starts = None; rests = true }))
      (record (free g) {
        solo = turns.begun task g.solo;
        starts = None;
        rests = true;
        out = record g.out { found = turns.begin_answer task g.solo };
        left = to_run_on task (start_of task g.solo) (behind_run b x);
      })
  turn_so true task x g =
      fixed (λ n. suc (five n)) 6 (run_by true x task) _ _ (λ m le. omega (arith, le))
      (λ n. turn_by true (start_of task g.solo) n task x g.solo g)
  turn_so false task x g =
      fixed (λ n. suc (five n)) 6 (run_by false x task) _ _ (λ m le. omega (arith, le))
      (λ n. turn_by false (start_of task g.solo) n task x g.solo g)

  -- what it has found

  abbrev turned_so : Bool → Task → RunPoll Task ℕ → Going F T X → Solo F T X → Going F T X
  turned_so b task x g s = record (free g) {
    solo = turns.begun task s;
    starts = None;
    rests = true;
    out = record g.out { found = turns.begin_answer task s };
    left = to_run_on task (start_of task s) (behind_run b x);
  }

  abbrev searches_as : Bool → Going F T X → Searcher
  searches_as sleeping g = record { sleeps = sleeping; counted = g.runner.counted; taken = g.runner.taken }

  counts_as : (c sleeping b : Bool) (task : Task) (x : RunPoll Task ℕ) (g : Going F T X)
      → (g.runner.taken + 1 == 200) ≡ b
      → Ends (counted_by c (searches_as sleeping g) x task) (free (record g { starts = None; rests = true }))
      (turned_so b task x g (stolen_if c x.run g.solo))
  counts_as true sleeping b task x g is =
      let urgent : Steal Task ℕ = record { poll = x; from = source.Common Urgent; then = then.StealPlain task } in
      let plain : Steal Task ℕ = record { poll = x; from = source.Common Plain; then = then.Run task } in
      let h : Going F T X = free (record g { starts = None; rests = true }) in
      let s : Solo F T X = stolen (source_of (source.Common Urgent)) x.run g.solo in
      let t : Solo F T X = stolen (source_of (source.Common Plain)) x.run s in
      let end : Going F T X = turned_so b task x g t in
      steals_so urgent h end
      (steals_so plain (leaves s h) end
      (subst (λ (c : Bool). Ends (run_by c x task) (leaves t h) end) (sym is) (turn_so b task x (leaves t g))))
  counts_as false sleeping b task x g is =
      subst (λ (c : Bool). Ends (run_by c x task) (free (record g { starts = None; rests = true })) (turned_so b task x g g.solo))
      (sym is) (turn_so b task x g)

  pub finds_so : (runner : Runner) (start : ℕ) (ticker : Ticker) (spare : Option (SoloWaker X)) (w : Waker Task) (task : Task)
      (s : Solo F T X) → runner.counted < 64 → runner.taken < 200
      → Ends (found_by_run (searcher (run_at runner start ticker spare s)) (record { run = runner.number; waker = w }) task)
      (run_at runner start ticker spare s)
      (runs_found runner start ticker spare (record { run = runner.number; waker = w }) task s)
  finds_so runner start ticker spare w task s few fewer =
      let x : RunPoll Task ℕ = record { run = runner.number; waker = w } in
      let g : Going F T X = record (run_at runner start runs.awake spare (runs.told ticker s)) { out = waking ticker s } in
      let at : Searcher = searches_as (sleeps ticker) g in
      wakes_so ticker runner.number (counted_by (runner.counted + 1 == 64) at x task) runner start spare s
      (runs_found runner start ticker spare x task s)
      (subst
      (λ (c : Bool). Ends (counted_by c at x task) g
      (turned_so (runs.gives_way runner) task x g (stolen_if (runs.is_steal_due runner) runner.number (runs.told ticker s))))
      (sym (due_same runner few))
      (counts_as (runs.is_steal_due runner) (sleeps ticker) (runs.gives_way runner) task x g (way_same runner fewer)))
