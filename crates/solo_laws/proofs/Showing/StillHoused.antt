-- After each call there are as many rooms as ticks and runs that live, and each that lies is one of them.
use Rattle.std.proofs.Common.{◌≡◌, ℕ, suc, ◌≤◌, if◌then◌else◌, Bool, true, false, List, [], ◌∷◌, ◌++◌, length, drop}
use Rattle.std.proofs.Common.{slice_get, refl, sym, ap, subst, ◌∙◌, arith}
use Rattle.solo.specs.declared.names.Task.{Task}
use Rattle.solo.specs.declared.names.SoloWaker.{SoloWaker}
use Rattle.solo.specs.declared.owed.Lent.{Lent}
use Rattle.solo.specs.declared.runs.Runner.{Runner}
use Rattle.solo.specs.declared.solo.Solo.{Solo}
use Rattle.solo.specs.declared.ticks.Ticker.{Ticker}
use Rattle.solo.specs.OwnQueues as own
use Rattle.solo.specs.Runs as runs
use Rattle.solo.specs.Solo as solo
use Rattle.solo.specs.Steals as steals
use Rattle.solo.specs.Ticks as ticks
use Rattle.plain_scheduler.specs.State.{Answers, ARun, ATick, Choice, Code, Done, DropOwn, Drops, Event, Finished, Loses, Made, NoMemory}
use Rattle.plain_scheduler.specs.State.{Plain, PollOwn, Run, Tick, Who, Yes}
use Rattle.plain_scheduler.specs.Lists.{or}
use Rattle.plain_scheduler.specs.Moves.{answers, enters}
use Rattle.plain_scheduler.specs.Calls as plain
use Rattle.plain_scheduler.specs.Calls.{Call, does}
use Rattle.solo_laws.specs.Alike.{copies}
use Rattle.solo_laws.specs.Busy.{busy_in}
use Rattle.solo_laws.specs.Courses.{Acts, makes, makes_no_run, makes_no_tick, makes_run, makes_tick, over_dropped, over_polled, own_ready}
use Rattle.solo_laws.specs.Courses.{run_dropped, run_drops, run_goes_on, run_leaves, run_looks, run_loses, run_polled, tick_leaves}
use Rattle.solo_laws.specs.Courses.{tick_lies_refused, tick_refused, tick_rests, tick_takes}
use Rattle.solo_laws.specs.Numbered.{IsNumbered, ticker_of}
use Rattle.solo_laws.specs.Owner.{Owner}
use Rattle.solo_laws.specs.Road.{is_in, wakes as wakes_of}
use Rattle.solo_laws.specs.RunGoing.{IsEnding, RunsOn, Searches, Stage, code_at, gives_way, in_try, is_refused, lies_refused, looks_on}
use Rattle.solo_laws.specs.RunGoing.{rests, robs_another, takes_common, takes_own}
use Rattle.solo_laws.specs.RunResting.{sleep_answer, slept_from}
use Rattle.solo_laws.specs.Running.{run_left}
use Rattle.solo_laws.specs.Tabled.{Stands}
use Rattle.solo_laws.specs.Ticking.{looks_again, rested, slept_once}
use Rattle.solo_laws.proofs.Prompt.{chosen}
use Rattle.solo_laws.proofs.Following.Crowding.{whos}
use Rattle.solo_laws.proofs.Following.Housed.{Housed, begun_housed, lives, own_numbered, run_gone, run_housed, still_housed, tick_gone}
use Rattle.solo_laws.proofs.Following.Housed.{tick_housed}
use Rattle.solo_laws.proofs.Following.Keeping.{keeps}
use Rattle.solo_laws.proofs.Following.Listed.{Listed}
use Rattle.solo_laws.proofs.Following.OwnKept.{Same, copies_same, drains_as, found_same, left_as, once_same, placed, rested_same}
use Rattle.solo_laws.proofs.Following.OwnKept.{searched_of}
use Rattle.solo_laws.proofs.Following.OwnKept.{slept_same, sought_of, woken_same}
use Rattle.solo_laws.proofs.Following.Owns.{changed_numbers, numbers}
use Rattle.solo_laws.proofs.Following.Polled.{busy, polled}
use Rattle.solo_laws.proofs.Following.RunEnding.{EndsAs, ends_as, is_over, stays_in}
use Rattle.solo_laws.proofs.Following.RunLeaving.{runs_leave}
use Rattle.solo_laws.proofs.Following.RunPolling.{going_there}
use Rattle.solo_laws.proofs.Following.TickLeaving.{ticks_leave}
use Rattle.solo_laws.proofs.Following.WhoLies.{Lie, gone_lie, leaves_lie, next_lie, same_lie, take_lie}
use Rattle.solo_laws.proofs.Showing.StillListed.{one_in, stage_codes}

module _ {T X : Type 0} (c : Choice) where
  -- who lies is nothing to these
  made_lying : (does : Plain T (SoloWaker X) → Plain T (SoloWaker X)) → ((p : Plain T (SoloWaker X)) → (does p).lying ≡ p.lying)
      → (p : Plain T (SoloWaker X)) (b : Bool) → (if b then does p else answers NoMemory p).lying ≡ p.lying
  made_lying does is p true = is p
  made_lying does is p false = refl

  either_lying : (b : Bool) (p q z : Plain T (SoloWaker X)) → q.lying ≡ p.lying → z.lying ≡ p.lying → (if b then q else z).lying ≡ p.lying
  either_lying true p q z one two = one
  either_lying false p q z one two = two

  poll_lying : (r : ℕ) (w : SoloWaker X) (p : Plain T (SoloWaker X)) → (does wakes_of c (Call.PollRun r w) p).lying ≡ p.lying
  poll_lying r w p =
      either_lying (or (slice_get p.runs r) (λ run. run.is_over) true) p (answers Finished p) (enters (PollOwn r w) p) refl refl

  drop_lying : (r : ℕ) (p : Plain T (SoloWaker X)) → (does wakes_of c (Call.DropRun r) p).lying ≡ p.lying
  drop_lying r p =
      either_lying (or (slice_get p.runs r) (λ run. run.is_over) true) p (answers Done p) (enters (DropOwn r Done) p) refl refl

  tick_lying : (p : Plain T (SoloWaker X)) → (does wakes_of c Call.NewTick p).lying ≡ p.lying
  tick_lying p = made_lying (answers Made) (λ p. refl) p (plain.is_granted c.refusal)

  run_lying : (p : Plain T (SoloWaker X)) → (does wakes_of c Call.NewRun p).lying ≡ p.lying
  run_lying p =
      made_lying (λ p. answers Made (record p { runs = p.runs ++ record { taken = 0; is_over = false } ∷ [] })) (λ p. refl) p
      (plain.is_granted c.refusal)

module _ {F T X : Type 0} (its : ℕ → Lent) where
  -- a run that is polled searches, steals and lies down: as many may sleep, and each own queue is that of its run still
  module _ (owner : Owner) (c : Choice) (runner : Runner) (w : SoloWaker X) (s : Solo F T X) (p : Plain T (SoloWaker X)) where
    abbrev r : ℕ
    r = runner.number

    abbrev IsSo : own.OwnQueuesValue × ℕ → Type 0
    IsSo o = (numbers o.0.queues ≡ numbers s.runs.queues) × (o.1 ≡ s.sleepers.rooms)

    abbrev Of : Solo F T X → Type 0
    Of z = IsSo (placed z)

    popped : (k : ℕ) (o : own.OwnQueuesValue) (n : ℕ) → IsSo (o, n) → IsSo (own.changed (drop 1) k o, n)
    popped k o n is = (changed_numbers (drop 1) k o ∙ is.0, is.1)

    pushed : (t : Task) (o : own.OwnQueuesValue) (n : ℕ) → IsSo (o, n) → IsSo (own.changed (own.pushed t) r o, n)
    pushed t o n is = (changed_numbers (own.pushed t) r o ∙ is.0, is.1)

    finds : (start : ℕ) → Of (runs.searched runner (ticker_of owner.number (ARun r) p.lying) start s)
    finds start = searched_of IsSo r popped pushed runner refl (ticker_of owner.number (ARun r) p.lying) start s (refl, refl)

    seeks : (start : ℕ) (z : Solo F T X) → Of z → Of (steals.sought r start z)
    seeks start z z_of = sought_of IsSo r popped pushed start z z_of

    slept_of : (start : ℕ) (ticker : Ticker) (z : Solo F T X) → Of z → Of (slept_from r start ticker w z)
    slept_of start ticker z z_of =
        let y = steals.sought r start z in
        subst IsSo (sym (slept_same ticker w (copies w y) ∙ copies_same w y)) (seeks start z z_of)

    pub searches_so : (shown : List (Event T (SoloWaker X))) (now : Owner) (z : Solo F T X)
        → Searches its owner c runner w s p shown now z → Of z
    searches_so shown now z (takes_own start task first keeps life) = finds start
    searches_so shown now z (takes_common start task first found turn keeps life) = finds start
    searches_so shown now z (robs_another start task first found turn finds_it robs moves keeps life) = finds start
    searches_so shown now z (rests first second missed turn granted names more life) =
        let ticker = ticker_of owner.number (ARun r) p.lying in
        let out = sleep_answer r first ticker w s in
        let y = slept_from r first ticker w s in
        chosen Of (looks_again out.look) (slept_from r second out.ticker w y) y
        (slept_of second out.ticker y (slept_of first ticker s (refl, refl))) (slept_of first ticker s (refl, refl))
    searches_so shown now z (is_refused start missed turn refused) = seeks start s (refl, refl)
    searches_so shown now z (lies_refused first second missed turn refused names again more life) =
        let ticker = ticker_of owner.number (ARun r) p.lying in
        seeks second (slept_from r first ticker w s) (slept_of first ticker s (refl, refl))

    pub runs_on_so : (shown : List (Event T (SoloWaker X))) (now : Owner) (z : Solo F T X)
        → RunsOn its owner c runner w s p shown now z → Of z
    runs_on_so shown now z (looks_on shown' now' z' less how) = searches_so shown' now' z' how
    runs_on_so shown now z (gives_way enough names life) = subst IsSo (sym (woken_same w s)) (refl, refl)

    -- the ticks are the same
    pub searches_ticks : (shown : List (Event T (SoloWaker X))) (now : Owner) (z : Solo F T X)
        → Searches its owner c runner w s p shown now z → now.ticks ≡ owner.ticks
    searches_ticks shown now z (takes_own start task first keeps life) = refl
    searches_ticks shown now z (takes_common start task first found turn keeps life) = refl
    searches_ticks shown now z (robs_another start task first found turn finds_it robs moves keeps life) = refl
    searches_ticks shown now z (rests first second missed turn granted names more life) = refl
    searches_ticks shown now z (is_refused start missed turn refused) = refl
    searches_ticks shown now z (lies_refused first second missed turn refused names again more life) = refl

    pub runs_on_ticks : (shown : List (Event T (SoloWaker X))) (now : Owner) (z : Solo F T X)
        → RunsOn its owner c runner w s p shown now z → now.ticks ≡ owner.ticks
    runs_on_ticks shown now z (looks_on shown' now' z' less how) = searches_ticks shown' now' z' how
    runs_on_ticks shown now z (gives_way enough names life) = refl

  module _ (owner : Owner) (c : Choice) (s : Solo F T X) (p : Plain T (SoloWaker X)) (so : Stands its s p)
      (n : IsNumbered owner.number s.sleepers p.lying) (l : Listed (polled p) (busy p) s.runs) (h : Housed owner.ticks s p) where
    abbrev alive : Who → Bool
    alive = lives owner.ticks s.runs

    -- nothing changes, or who lies, and lives
    same : (z : Solo F T X) (q : Plain T (SoloWaker X)) → Same s z → Lie alive q.lying → Housed owner.ticks z q
    same z q is living =
        still_housed owner.ticks s z p q (ap (λ (b : own.OwnQueuesValue × ℕ). numbers b.0.queues) is)
        (ap (λ (b : own.OwnQueuesValue × ℕ). b.1) is) living h

    still : (q : Plain T (SoloWaker X)) → q.lying ≡ p.lying → Housed owner.ticks s q
    still q is = same s q refl (same_lie alive p.lying q.lying (ap whos is) h.living)

    polls : (t : ℕ) (w : SoloWaker X) → is_in t owner.ticks ≡ true → Lie alive (does wakes_of c (Call.PollTick t w) p).lying
    polls t w lives_so = take_lie c alive (Tick t w) lives_so p h.living

    -- a run that a call is on lives
    run_lives : (r : ℕ) (rest : List ℕ) → busy_in p.inside ≡ r ∷ rest → alive (ARun r) ≡ true
    run_lives r rest is = own_numbered r s.runs ∙ l.held r (one_in r rest (busy_in p.inside) is)

    -- the poll or drop of one that it took ends, and it goes on, or not
    ends_lie : (r : ℕ) (w : SoloWaker X) (rest : List (Code T (SoloWaker X))) (stage : Stage T (SoloWaker X)) (call : Call T (SoloWaker X))
        → p.inside ≡ code_at stage (Run r w) ∷ rest → IsEnding stage call
        → whos (does wakes_of c call (in_try stage rest p)).lying ≡ whos p.lying → Lie alive (does wakes_of c call p).lying
    ends_lie r w rest stage call is ends lain = by (ends_as c r w p rest stage call ends is)
      where
        a : Plain T (SoloWaker X)
        a = does wakes_of c call (in_try stage rest p)

        its_own : alive (ARun r) ≡ true
        its_own = run_lives r (busy_in rest) (stage_codes (λ r. r ∷ []) r w rest p.inside stage is)

        a_lie : Lie alive a.lying
        a_lie = same_lie alive p.lying a.lying lain h.living

        by : EndsAs c r w a (does wakes_of c call p) → Lie alive (does wakes_of c call p).lying
        by (is_over q one two) =
            subst (λ (q : Plain T (SoloWaker X)). Lie alive q.lying) (sym two)
            (next_lie c alive r w its_own q (subst (λ (q : Plain T (SoloWaker X)). Lie alive q.lying) one a_lie))
        by (stays_in stage' q events e not_so last one two) =
            subst (λ (q : Plain T (SoloWaker X)). Lie alive q.lying) (sym two)
            (subst (λ (q : Plain T (SoloWaker X)). Lie alive q.lying) one a_lie)

    -- its own future is pending
    looks_lie : (r : ℕ) (w : SoloWaker X) (rest : List (Code T (SoloWaker X))) → p.inside ≡ PollOwn r w ∷ rest
        → Lie alive (does wakes_of c Call.Pends p).lying
    looks_lie r w rest is =
        subst (λ cs. Lie alive (plain.innermost wakes_of c cs (plain.pends wakes_of c) p).lying) (sym is)
        (take_lie c alive (Run r w) (run_lives r (busy_in rest) (ap (λ cs. busy_in cs) is)) (record p { inside = rest }) h.living)

    -- its own future is dropped
    leaves_so : (r : ℕ) (rest : List (Code T (SoloWaker X))) (code : Code T (SoloWaker X)) → p.inside ≡ code ∷ rest
        → Lie alive (plain.ends wakes_of c code (record p { inside = rest })).lying → Lie alive (does wakes_of c Call.Ends p).lying
    leaves_so r rest code is all =
        subst (λ cs. Lie alive (plain.innermost wakes_of c cs (plain.ends wakes_of c) p).lying) (sym is) all

    pub acts_housed : (now : Owner) (z : Solo F T X) (call : Call T (SoloWaker X)) (shown : List (Event T (SoloWaker X)))
        → length p.lying ≤ c.tells → Stands its z (does wakes_of c call p)
        → IsNumbered now.number z.sleepers (does wakes_of c call p).lying → Acts its owner c s p call shown now z
        → Housed now.ticks z (does wakes_of c call p)
    acts_housed now z call shown many both m (makes call' shown' z' how) =
        let kept = keeps its c s p call' shown' z' how in
        still_housed owner.ticks s z' p (does wakes_of c call' p) (ap (λ (o : own.OwnQueuesValue). numbers o.queues) kept.0.1) kept.0.0.2
        (same_lie alive p.lying (does wakes_of c call' p).lying kept.1.whos h.living) h
    acts_housed now z call shown many both m (makes_tick t new granted) =
        tick_housed t owner.ticks s (ticks.roomy s) p (does wakes_of c Call.NewTick p) refl refl (ap whos (tick_lying c p)) h
    acts_housed now z call shown many both m (tick_takes t w task lives_so found first life) =
        let ticker = ticker_of owner.number (ATick t) p.lying in
        same (ticks.found ticker task (solo.popped s)) (does wakes_of c (Call.PollTick t w) p) (found_same ticker task (solo.popped s))
        (polls t w lives_so)
    acts_housed now z call shown many both m (tick_rests t w lives_so none first granted names more life) =
        let ticker = ticker_of owner.number (ATick t) p.lying in
        same (rested ticker w s) (does wakes_of c (Call.PollTick t w) p) (rested_same ticker w s) (polls t w lives_so)
    acts_housed now z call shown many both m (makes_run granted few) =
        run_housed owner.ticks s (runs.made s) p (does wakes_of c Call.NewRun p) refl refl (ap whos (run_lying c p)) h
    acts_housed now z call shown many both m (makes_no_run refused) = still (does wakes_of c Call.NewRun p) (run_lying c p)
    acts_housed now z call shown many both m (run_polled runner w going free) =
        begun_housed runner.number owner.ticks s (runs.begun runner s) p (does wakes_of c (Call.PollRun runner.number w) p)
        so.1.numbers_apart refl refl (ap whos (poll_lying c runner.number w p)) h
    acts_housed now z call shown many both m (over_polled r w over) = still (does wakes_of c (Call.PollRun r w) p) (poll_lying c r w p)
    acts_housed now z call shown many both m (own_ready r w v rest is) =
        still (does wakes_of c (Call.EndsWith v) p)
        (ap (λ cs. (plain.innermost wakes_of c cs (plain.gives wakes_of c v) p).lying) is)
    acts_housed now z call shown many both m (run_looks runner w rest shown' now' z' its_runner is how) =
        let searched = searches_so owner c runner w s (record p { inside = rest }) shown' now' z' how in
        subst (λ ts. Housed ts z' (does wakes_of c Call.Pends p))
        (sym (searches_ticks owner c runner w s (record p { inside = rest }) shown' now' z' how))
        (still_housed owner.ticks s z' p (does wakes_of c Call.Pends p) searched.0 searched.1 (looks_lie runner.number w rest is) h)
    acts_housed now z call shown many both m (run_goes_on stage runner w rest call' first others now' y z' its_runner is ends how on) =
        let tried = in_try stage rest p in
        let kept = keeps its c s tried call' (first ++ Answers Yes ∷ []) y how in
        let a = record (does wakes_of c call' tried) { events = p.events ++ first } in
        let gone_on = runs_on_so owner c runner w y a others now' z' on in
        subst (λ ts. Housed ts z' (does wakes_of c call' p)) (sym (runs_on_ticks owner c runner w y a others now' z' on))
        (still_housed owner.ticks s z' p (does wakes_of c call' p)
        (gone_on.0 ∙ ap (λ (o : own.OwnQueuesValue). numbers o.queues) kept.0.1) (gone_on.1 ∙ kept.0.0.2)
        (ends_lie runner.number w rest stage call' is ends kept.1.whos) h)
    acts_housed now z call shown many both m (run_drops stage r w rest call' first f z' is ends how) =
        let kept = keeps its c s (in_try stage rest p) call' (first ++ Drops f ∷ []) z' how in
        still_housed owner.ticks s z' p (does wakes_of c call' p) (ap (λ (o : own.OwnQueuesValue). numbers o.queues) kept.0.1) kept.0.0.2
        (ends_lie r w rest stage call' is ends kept.1.whos) h
    acts_housed now z call shown many both m (run_loses stage r w rest call' first v z' is ends how) =
        let kept = keeps its c s (in_try stage rest p) call' (first ++ Loses v ∷ []) z' how in
        still_housed owner.ticks s z' p (does wakes_of c call' p) (ap (λ (o : own.OwnQueuesValue). numbers o.queues) kept.0.1) kept.0.0.2
        (ends_lie r w rest stage call' is ends kept.1.whos) h
    acts_housed now z call shown many both m (run_dropped r going free) = still (does wakes_of c (Call.DropRun r) p) (drop_lying c r p)
    acts_housed now z call shown many both m (over_dropped r over) = still (does wakes_of c (Call.DropRun r) p) (drop_lying c r p)
    acts_housed now z call shown many both m (run_leaves runner answer rest is life) =
        let r = runner.number in
        let ticker = ticker_of owner.number (ARun r) p.lying in
        let has = run_lives r (busy_in rest) (ap (λ cs. busy_in cs) is) in
        let going = going_there its s p so r (l.held r (one_in r (busy_in rest) (busy_in p.inside) (ap (λ cs. busy_in cs) is))) in
        let gone = (runs_leave its owner.number s p so n c runner answer rest is going many life).gone in
        let left =
        drains_as (suc (own.count_of r s.runs)) (own.queue_of r s.runs.queues) ticker (runs.left runner s) (omega arith) in
        run_gone its owner.number owner.ticks s (run_left ticker runner s) p (does wakes_of c Call.Ends p) both m h
        (leaves_so r rest (DropOwn r answer) is (gone_lie c alive r (record p { inside = rest }) h.living))
        (ap (λ (b : own.OwnQueuesValue × ℕ). b.1) left) r has gone (ap (λ (b : own.OwnQueuesValue × ℕ). b.0) left)
    acts_housed now z call shown many both m (makes_no_tick refused) = still (does wakes_of c Call.NewTick p) (tick_lying c p)
    acts_housed now z call shown many both m (tick_refused t w lives_so none first refused) =
        same (solo.popped s) (does wakes_of c (Call.PollTick t w) p) refl (polls t w lives_so)
    acts_housed now z call shown many both m (tick_lies_refused t w lives_so none first refused names again more life) =
        let ticker = ticker_of owner.number (ATick t) p.lying in
        same (solo.popped (slept_once ticker w s)) (does wakes_of c (Call.PollTick t w) p) (once_same ticker w s) (polls t w lives_so)
    acts_housed now z call shown many both m (tick_leaves t lives_so life) =
        let ticker = ticker_of owner.number (ATick t) p.lying in
        let gone = (ticks_leave its owner.number s p so n c t many life).gone in
        let left = left_as ticker s in
        tick_gone its owner.number owner.ticks s (ticks.left ticker s) p (does wakes_of c (Call.DropTick t) p) both m h
        (leaves_lie c alive (ATick t) p h.living) (ap (λ (b : own.OwnQueuesValue × ℕ). b.1) left) t lives_so gone
        (ap (λ (b : own.OwnQueuesValue × ℕ). b.0) left)
