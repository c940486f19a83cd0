-- After each call others look at each own queue in which there is a task, and at that of each run that is polled; and each run that is
-- polled or goes has its own queue still.
use Rattle.std.proofs.Common.{◌≡◌, ℕ, suc, ◌+◌, ◌<◌, ◌==◌, cond, not, Bool, true, false, List, [], ◌∷◌, ◌++◌, length, drop, filter, map}
use Rattle.std.proofs.Common.{Option}
use Rattle.std.proofs.Common.{Some, None, is_some}
use Rattle.std.proofs.Common.{slice_get, refl, sym, ap, subst, ◌∙◌, arith}
use Rattle.solo.specs.declared.names.Task.{Task}
use Rattle.solo.specs.declared.names.SoloWaker.{SoloWaker}
use Rattle.solo.specs.declared.owed.Lent.{Lent}
use Rattle.solo.specs.declared.runs.Runner.{Runner}
use Rattle.solo.specs.declared.solo.Solo.{Solo}
use Rattle.solo.specs.declared.ticks.Ticker.{Ticker}
use Rattle.solo.specs.OwnQueues as own
use Rattle.solo.specs.Runs as runs
use Rattle.solo.specs.Solo as solo
use Rattle.solo.specs.Steals as steals
use Rattle.solo.specs.Ticks as ticks
use Rattle.plain_scheduler.specs.State.{Answer, DropOwn}
use Rattle.plain_scheduler.specs.State.{Answers, ARun, ATick, Choice, Code, Drops, Event, Loses, Plain, Run, Running, Yes}
use Rattle.plain_scheduler.specs.Lists.{or}
use Rattle.plain_scheduler.specs.Moves.{is_kept}
use Rattle.plain_scheduler.specs.Calls.{Call, does}
use Rattle.solo_laws.specs.Alike.{copies}
use Rattle.solo_laws.specs.Busy.{busy_in, polled_in, runs_in}
use Rattle.solo_laws.specs.Courses.{Makes, spawns, refuses, takes, looks, wakes, uses, releases, copies as copies_it, polls, cancels}
use Rattle.solo_laws.specs.Courses.{detaches}
use Rattle.solo_laws.specs.Courses.{drops_handle, leaks, pends, gives, ends_given, ends_closed, loses, Acts, makes, makes_tick, tick_takes}
use Rattle.solo_laws.specs.Courses.{makes_run, makes_no_run, tick_rests, makes_no_tick, tick_refused, tick_lies_refused, tick_leaves}
use Rattle.solo_laws.specs.Courses.{over_dropped, over_polled, own_ready, run_dropped, run_drops, run_goes_on, run_leaves}
use Rattle.solo_laws.specs.Courses.{run_looks, run_loses, run_polled}
use Rattle.solo_laws.specs.Numbered.{IsNumbered, ticker_of}
use Rattle.solo_laws.specs.Owner.{Owner}
use Rattle.solo_laws.specs.Road.{apart, due_task, is_in, wakes as wakes_of}
use Rattle.solo_laws.specs.RunGoing.{Dropping, IsEnding, Losing, Polling, RunsOn, Searches, Stage, code_at, drop_ends, gives_way, in_try}
use Rattle.solo_laws.specs.RunGoing.{is_refused, lies_refused, loss_ends, looks_on, poll_ends, rests, robs_another, takes_common, takes_own}
use Rattle.solo_laws.specs.RunResting.{sleep_answer, slept_from}
use Rattle.solo_laws.specs.Tabled.{Stands, goes_on, named, own_of}
use Rattle.solo_laws.specs.Ticking.{looks_again, slept_once}
use Rattle.solo_laws.proofs.Prompt.{chosen}
use Rattle.solo_laws.proofs.Following.Cells.{same_number}
use Rattle.solo_laws.proofs.Following.Due.{both_true, clash, equal, later, not_true}
use Rattle.solo_laws.proofs.Following.Keeping.{keeps}
use Rattle.solo_laws.proofs.Following.Listed.{Listed, closed_listed, fewer_listed, going_listed, has_own, listed_listed, opened_listed}
use Rattle.solo_laws.proofs.Following.Listed.{popped_listed}
use Rattle.solo_laws.proofs.Following.Listed.{pushed_listed}
use Rattle.solo_laws.proofs.Following.Lists.{got_below}
use Rattle.solo_laws.proofs.Following.OwnKept.{Same, copies_same, drains_as, found_same, left_as, once_same, rested_same, same_runs}
use Rattle.solo_laws.proofs.Following.OwnKept.{searched_of}
use Rattle.solo_laws.proofs.Following.OwnKept.{slept_same, sought_of, woken_same}
use Rattle.solo_laws.proofs.Following.Polled.{Apart, busy, call_apart, call_busy, call_polled, drop_apart, drop_busy, drop_polled}
use Rattle.solo_laws.proofs.Following.Polled.{enters_run}
use Rattle.solo_laws.proofs.Following.Polled.{left_inside, poll_apart, poll_busy, poll_polled, polled}
use Rattle.solo_laws.proofs.Following.RunPolling.{overs_dropped, overs_polled}

pub one_in : (r : ℕ) (ns all : List ℕ) → all ≡ r ∷ ns → is_in r all ≡ true
one_in r ns all is = ap (is_in r) is ∙ ap (λ b. cond b true (is_in r ns)) (equal r r refl)

module _ {T X : Type 0} where
  -- the end of what a run took is no poll of a run
  ends_no_poll : (c : Choice) (stage : Stage T (SoloWaker X)) (call : Call T (SoloWaker X)) → IsEnding stage call → enters_run call ≡ false
  ends_no_poll c stage call (poll_ends f) = refl
  ends_no_poll c stage call (drop_ends f end) = refl
  ends_no_poll c stage call (loss_ends awaiter) = refl

  -- in whatever stage of its poll a run is
  pub stage_codes : (gone : ℕ → List ℕ) (r : ℕ) (w : SoloWaker X) (rest all : List (Code T (SoloWaker X))) (stage : Stage T (SoloWaker X))
      → all ≡ code_at stage (Run r w) ∷ rest → runs_in gone all ≡ r ∷ runs_in gone rest
  stage_codes gone r w rest all (Polling f) is = ap (λ cs. runs_in gone cs) is
  stage_codes gone r w rest all (Dropping f end) is = ap (λ cs. runs_in gone cs) is
  stage_codes gone r w rest all (Losing awaiter) is = ap (λ cs. runs_in gone cs) is

  was_made : (r : ℕ) (p : Plain T (SoloWaker X)) → goes_on r p ≡ true → r < length p.runs
  was_made r p going = by (slice_get p.runs r) refl going
    where
      by : (o : Option Running) → slice_get p.runs r ≡ o → or o (λ run. not run.is_over) false ≡ true → r < length p.runs
      by None is off = absurd cc
      by (Some run) is on = got_below p.runs r run is

module _ {F T X : Type 0} (its : ℕ → Lent) where
  pub its_own : (r : ℕ) (s : Solo F T X) (p : Plain T (SoloWaker X)) → Stands its s p → goes_on r p ≡ true → has_own r s.runs ≡ true
  its_own r s p so going =
      ap (λ q. is_some q) (so.1.queues r) ∙ ap (λ b. is_some (own_of its b (filter (is_kept r) p.due))) going

  -- a run that is polled searches, steals and lies down
  module _ (among others : ℕ → Bool) (owner : Owner) (c : Choice) (runner : Runner) (is : among runner.number ≡ true) (w : SoloWaker X)
      (s : Solo F T X) (p : Plain T (SoloWaker X)) (l : Listed among others s.runs) where
    abbrev r : ℕ
    r = runner.number

    abbrev Of : Solo F T X → Type 0
    Of s = Listed among others s.runs

    abbrev IsOf : own.OwnQueuesValue × ℕ → Type 0
    IsOf o = Listed among others o.0

    popped : (k : ℕ) (o : own.OwnQueuesValue) (n : ℕ) → IsOf (o, n) → IsOf (own.changed (drop 1) k o, n)
    popped k o n = popped_listed among others k o

    pushed : (t : Task) (o : own.OwnQueuesValue) (n : ℕ) → IsOf (o, n) → IsOf (own.changed (own.pushed t) r o, n)
    pushed t o n = pushed_listed among others r is t o

    finds : (start : ℕ) → Of (runs.searched runner (ticker_of owner.number (ARun r) p.lying) start s)
    finds start =
        let ticker = ticker_of owner.number (ARun r) p.lying in
        searched_of IsOf r popped pushed runner refl ticker start s l

    seeks : (start : ℕ) (z : Solo F T X) → Of z → Of (steals.sought r start z)
    seeks start z z_of = sought_of IsOf r popped pushed start z z_of

    slept_of : (start : ℕ) (ticker : Ticker) (z : Solo F T X) → Of z → Of (slept_from r start ticker w z)
    slept_of start ticker z z_of =
        let y = steals.sought r start z in
        subst IsOf (sym (slept_same ticker w (copies w y) ∙ copies_same w y))
        (seeks start z z_of)

    pub searches_listed : (shown : List (Event T (SoloWaker X))) (now : Owner) (z : Solo F T X)
        → Searches its owner c runner w s p shown now z → Of z
    searches_listed shown now z (takes_own start task first keeps life) = finds start
    searches_listed shown now z (takes_common start task first found turn keeps life) = finds start
    searches_listed shown now z (robs_another start task first found turn finds_it robs moves keeps life) = finds start
    searches_listed shown now z (rests first second missed turn granted names more life) =
        let ticker = ticker_of owner.number (ARun r) p.lying in
        let out = sleep_answer r first ticker w s in
        let y = slept_from r first ticker w s in
        chosen Of (looks_again out.look) (slept_from r second out.ticker w y) y
        (slept_of second out.ticker y (slept_of first ticker s l)) (slept_of first ticker s l)
    searches_listed shown now z (is_refused start missed turn refused) = seeks start s l
    searches_listed shown now z (lies_refused first second missed turn refused names again more life) =
        let ticker = ticker_of owner.number (ARun r) p.lying in
        seeks second (slept_from r first ticker w s) (slept_of first ticker s l)

    pub runs_on_listed : (shown : List (Event T (SoloWaker X))) (now : Owner) (z : Solo F T X)
        → RunsOn its owner c runner w s p shown now z → Of z
    runs_on_listed shown now z (looks_on shown' now' z' less how) = searches_listed shown' now' z' how
    runs_on_listed shown now z (gives_way enough names life) = subst IsOf (sym (woken_same w s)) l

  -- none of these is the poll of a run
  makes_no_poll : (c : Choice) (s z : Solo F T X) (p : Plain T (SoloWaker X)) (call : Call T (SoloWaker X))
      (shown : List (Event T (SoloWaker X))) → Makes its c s p call shown z → enters_run call ≡ false
  makes_no_poll c s z p call shown (spawns mark future spawned z' how is granted life few) = refl
  makes_no_poll c s z p call shown (refuses mark future refused z' how fits) = refl
  makes_no_poll c s z p call shown (takes first life) = refl
  makes_no_poll c s z p call shown looks = refl
  makes_no_poll c s z p call shown (wakes f at life) = refl
  makes_no_poll c s z p call shown (uses f at life) = refl
  makes_no_poll c s z p call shown (releases f at life) = refl
  makes_no_poll c s z p call shown (copies_it f at says) = refl
  makes_no_poll c s z p call shown (polls f w at handle named life) = refl
  makes_no_poll c s z p call shown (cancels f at life) = refl
  makes_no_poll c s z p call shown (detaches f at life) = refl
  makes_no_poll c s z p call shown (drops_handle f at life) = refl
  makes_no_poll c s z p call shown (leaks owned life) = refl
  makes_no_poll c s z p call shown (pends f by rest future one is life) = refl
  makes_no_poll c s z p call shown (gives f by rest v is) = refl
  makes_no_poll c s z p call shown (ends_given f v by rest one is life) = refl
  makes_no_poll c s z p call shown (ends_closed f by rest one is life) = refl
  makes_no_poll c s z p call shown (loses awaiter by rest one is life) = refl

  module _ (owner : Owner) (c : Choice) (s : Solo F T X) (p : Plain T (SoloWaker X)) where
    abbrev After : Call T (SoloWaker X) → Solo F T X → Type 0
    After call z = Listed (polled (does wakes_of c call p)) (busy (does wakes_of c call p)) z.runs

    -- the own queues are as they were, and no run more is polled
    still : (call : Call T (SoloWaker X)) → enters_run call ≡ false → (z : Solo F T X) → Listed (polled p) (busy p) z.runs → After call z
    still call is z l =
        fewer_listed (polled p) (polled (does wakes_of c call p)) (busy p) (busy (does wakes_of c call p)) z.runs
        (call_polled c (polled p) call is p (λ k has. has)) (call_busy c (busy p) call is p (λ k has. has)) l

    kept : (call : Call T (SoloWaker X)) → enters_run call ≡ false → (z : Solo F T X) → z.runs ≡ s.runs → Listed (polled p) (busy p) s.runs
        → After call z
    kept call is z as_it_was l = still call is z (subst (Listed (polled p) (busy p)) (sym as_it_was) l)

    same : (call : Call T (SoloWaker X)) → enters_run call ≡ false → (z : Solo F T X) → Same s z → Listed (polled p) (busy p) s.runs
        → After call z
    same call is z as_it_was l = kept call is z (same_runs s z as_it_was) l

    -- one goes that goes on
    drops : (r : ℕ) → goes_on r p ≡ true → Stands its s p → Listed (polled p) (busy p) s.runs → After (Call.DropRun r) s
    drops r going so l =
        let more : ℕ → Bool = λ k. cond (k == r) true (busy p k) in
        let q = does wakes_of c (Call.DropRun r) p in
        fewer_listed (polled p) (polled q) more (busy q) s.runs (drop_polled c (polled p) r p (λ k has. has))
        (drop_busy c more r p (λ k has. has)) (going_listed (polled p) (busy p) r s.runs (its_own r s p so going) l)

    -- once one has gone calls are on others
    others_on : (r : ℕ) (answer : Answer T) (rest : List (Code T (SoloWaker X))) → p.inside ≡ DropOwn r answer ∷ rest
        → Apart (busy_in p.inside) → (k : ℕ) → busy (does wakes_of c Call.Ends p) k ≡ true → (busy p k ≡ true) × ((k == r) ≡ false)
    others_on r answer rest is apart_so k has =
        (ap (λ cs. is_in k (busy_in cs)) is ∙ later (k == r) (is_in k (busy_in rest)) there, other (k == r) refl)
      where
        there : is_in k (busy_in rest) ≡ true
        there = sym (ap (λ cs. is_in k (busy_in cs)) (left_inside c r answer rest p is)) ∙ has

        once : is_in r (busy_in rest) ≡ false
        once =
            not_true (is_in r (busy_in rest))
            (both_true (not (is_in r (busy_in rest))) (apart (busy_in rest)) (sym (ap (λ cs. apart (busy_in cs)) is) ∙ apart_so)).0

        other : (b : Bool) → (k == r) ≡ b → (k == r) ≡ false
        other true one = absurd (clash once (subst (λ n. is_in n (busy_in rest) ≡ true) (same_number k r one) there))
        other false away = away

    pub acts_listed : (apart_so : Apart (busy_in p.inside)) (now : Owner) (z : Solo F T X) (call : Call T (SoloWaker X))
        (shown : List (Event T (SoloWaker X)))
        → Stands its s p → IsNumbered owner.number s.sleepers p.lying → Listed (polled p) (busy p) s.runs
        → Acts its owner c s p call shown now z
        → After call z
    acts_listed apart_so now z call shown so n l (makes call' shown' z' how) =
        kept call' (makes_no_poll c s z' p call' shown' how) z' (keeps its c s p call' shown' z' how).0.1 l
    acts_listed apart_so now z call shown so n l (makes_tick t new granted) = still Call.NewTick refl (ticks.roomy s) l
    acts_listed apart_so now z call shown so n l (tick_takes t w task lives found first life) =
        let ticker = ticker_of owner.number (ATick t) p.lying in
        same (Call.PollTick t w) refl (ticks.found ticker task (solo.popped s)) (found_same ticker task (solo.popped s)) l
    acts_listed apart_so now z call shown so n l (tick_rests t w lives none first granted names more life) =
        let ticker = ticker_of owner.number (ATick t) p.lying in
        same (Call.PollTick t w) refl z (rested_same ticker w s) l
    acts_listed apart_so now z call shown so n l (makes_run granted few) =
        still Call.NewRun refl (runs.made s) (opened_listed (polled p) (busy p) s.runs counts l)
      where
        counts : own.one_more s.runs.made ≡ s.runs.made + 1
        counts = let made = so.1.made in omega (arith, made, few)
    acts_listed apart_so now z call shown so n l (makes_no_run refused) = still Call.NewRun refl s l
    acts_listed apart_so now z call shown so n l (run_polled runner w going free) =
        let r = runner.number in
        let kept = filter (is_kept r) p.due in
        let queue = so.1.queues r ∙ ap (λ b. own_of its b kept) going in
        let call' = Call.PollRun r w in
        fewer_listed (λ k. cond (k == r) true (polled p k)) (polled (does wakes_of c call' p)) (λ k. cond (k == r) true (busy p k))
        (busy (does wakes_of c call' p)) (runs.begun runner s).runs
        (poll_polled c (λ k. cond (k == r) true (polled p k)) r w p (λ k has. has))
        (poll_busy c (λ k. cond (k == r) true (busy p k)) r w p (λ k has. has))
        (listed_listed (polled p) (busy p) r s.runs so.1.numbers_apart (subst (λ n. r < n) (sym so.1.made) (was_made r p going)) l
        (map (due_task (named its)) kept) queue)
    acts_listed apart_so now z call shown so n l (over_polled r w over) =
        let it = overs_polled its owner.number s p so n c r w over in
        let q = does wakes_of c (Call.PollRun r w) p in
        fewer_listed (polled p) (polled q) (busy p) (busy q) s.runs
        (λ k has. sym (ap (λ cs. is_in k (polled_in cs)) it.inside_is) ∙ has)
        (λ k has. sym (ap (λ cs. is_in k (busy_in cs)) it.inside_is) ∙ has) l
    acts_listed apart_so now z call shown so n l (own_ready r w v rest is) = still (Call.EndsWith v) refl s l
    acts_listed apart_so now z call shown so n l (run_looks runner w rest shown' now' z' its_runner is how) =
        let polled_so = one_in runner.number (polled_in rest) (polled_in p.inside) (ap (λ cs. polled_in cs) is) in
        still Call.Pends refl z'
        (searches_listed (polled p) (busy p) owner c runner polled_so w s
        (record p { inside = rest }) l shown' now' z' how)
    acts_listed apart_so now z call shown so n l (run_goes_on stage runner w rest call' first others now' y z' its_runner is ends how on) =
        let tried = in_try stage rest p in
        let r = runner.number in
        let polled_so = one_in r (polled_in rest) (polled_in p.inside) (stage_codes (λ r. []) r w rest p.inside stage is) in
        let y_of = subst (Listed (polled p) (busy p)) (sym (keeps its c s tried call' (first ++ Answers Yes ∷ []) y how).0.1) l in
        still call' (ends_no_poll c stage call' ends) z'
        (runs_on_listed (polled p) (busy p) owner c runner polled_so w y
        (record (does wakes_of c call' tried) { events = p.events ++ first }) y_of others now' z' on)
    acts_listed apart_so now z call shown so n l (run_drops stage r w rest call' first f z' is ends how) =
        kept call' (ends_no_poll c stage call' ends) z' (keeps its c s (in_try stage rest p) call' (first ++ Drops f ∷ []) z' how).0.1 l
    acts_listed apart_so now z call shown so n l (run_loses stage r w rest call' first v z' is ends how) =
        kept call' (ends_no_poll c stage call' ends) z' (keeps its c s (in_try stage rest p) call' (first ++ Loses v ∷ []) z' how).0.1 l
    acts_listed apart_so now z call shown so n l (run_dropped r going free) = drops r going so l
    acts_listed apart_so now z call shown so n l (over_dropped r over) =
        let it = overs_dropped its owner.number s p so n c r over in
        let q = does wakes_of c (Call.DropRun r) p in
        fewer_listed (polled p) (polled q) (busy p) (busy q) s.runs
        (λ k has. sym (ap (λ cs. is_in k (polled_in cs)) it.inside_is) ∙ has)
        (λ k has. sym (ap (λ cs. is_in k (busy_in cs)) it.inside_is) ∙ has) l
    acts_listed apart_so now z call shown so n l (run_leaves runner answer rest is life) =
        let ticker = ticker_of owner.number (ARun runner.number) p.lying in
        let y = runs.left runner s in
        let m = own.count_of runner.number s.runs in
        let q = does wakes_of c Call.Ends p in
        subst (Listed (polled q) (busy q)) (sym (ap (λ (b : own.OwnQueuesValue × ℕ). b.0)
        (drains_as (suc m) (own.queue_of runner.number s.runs.queues) ticker y (omega arith))))
        (fewer_listed (polled p) (polled q) (busy q) (busy q) y.runs (call_polled c (polled p) Call.Ends refl p (λ k has. has))
        (λ k has. has)
        (closed_listed (polled p) (busy p) (busy q) runner.number s.runs (others_on runner.number answer rest is apart_so) l))
    acts_listed apart_so now z call shown so n l (makes_no_tick refused) = still Call.NewTick refl s l
    acts_listed apart_so now z call shown so n l (tick_refused t w lives none first refused) =
        still (Call.PollTick t w) refl (solo.popped s) l
    acts_listed apart_so now z call shown so n l (tick_lies_refused t w lives none first refused names again more life) =
        let ticker = ticker_of owner.number (ATick t) p.lying in
        same (Call.PollTick t w) refl (solo.popped (slept_once ticker w s)) (once_same ticker w s) l
    acts_listed apart_so now z call shown so n l (tick_leaves t lives life) =
        let ticker = ticker_of owner.number (ATick t) p.lying in
        kept (Call.DropTick t) refl (ticks.left ticker s) (ap (λ (b : own.OwnQueuesValue × ℕ). b.0) (left_as ticker s)) l

    -- on each run is one call at most
    pub acts_apart : (now : Owner) (z : Solo F T X) (call : Call T (SoloWaker X)) (shown : List (Event T (SoloWaker X)))
        → Stands its s p → IsNumbered owner.number s.sleepers p.lying → Apart (busy_in p.inside) → Acts its owner c s p call shown now z
        → Apart (busy_in (does wakes_of c call p).inside)
    acts_apart now z call shown so n is (makes call' shown' z' how) = call_apart c call' (makes_no_poll c s z' p call' shown' how) p is
    acts_apart now z call shown so n is (makes_tick t new granted) = call_apart c Call.NewTick refl p is
    acts_apart now z call shown so n is (tick_takes t w task lives found first life) = call_apart c (Call.PollTick t w) refl p is
    acts_apart now z call shown so n is (tick_rests t w lives none first granted names more life) =
        call_apart c (Call.PollTick t w) refl p is
    acts_apart now z call shown so n is (makes_run granted few) = call_apart c Call.NewRun refl p is
    acts_apart now z call shown so n is (makes_no_run refused) = call_apart c Call.NewRun refl p is
    acts_apart now z call shown so n is (run_polled runner w going free) = poll_apart c runner.number w p free is
    acts_apart now z call shown so n is (over_polled r w over) =
        subst Apart (sym (ap (λ cs. busy_in cs) (overs_polled its owner.number s p so n c r w over).inside_is)) is
    acts_apart now z call shown so n is (own_ready r w v rest at) = call_apart c (Call.EndsWith v) refl p is
    acts_apart now z call shown so n is (run_looks runner w rest shown' now' z' its_runner at how) = call_apart c Call.Pends refl p is
    acts_apart now z call shown so n is (run_goes_on stage runner w rest call' first others now' y z' its_runner at ends how on) =
        call_apart c call' (ends_no_poll c stage call' ends) p is
    acts_apart now z call shown so n is (run_drops stage r w rest call' first f z' at ends how) =
        call_apart c call' (ends_no_poll c stage call' ends) p is
    acts_apart now z call shown so n is (run_loses stage r w rest call' first v z' at ends how) =
        call_apart c call' (ends_no_poll c stage call' ends) p is
    acts_apart now z call shown so n is (run_dropped r going free) = drop_apart c r p free is
    acts_apart now z call shown so n is (over_dropped r over) =
        subst Apart (sym (ap (λ cs. busy_in cs) (overs_dropped its owner.number s p so n c r over).inside_is)) is
    acts_apart now z call shown so n is (run_leaves runner answer rest at life) = call_apart c Call.Ends refl p is
    acts_apart now z call shown so n is (makes_no_tick refused) = call_apart c Call.NewTick refl p is
    acts_apart now z call shown so n is (tick_refused t w lives none first refused) = call_apart c (Call.PollTick t w) refl p is
    acts_apart now z call shown so n is (tick_lies_refused t w lives none first refused names again more life) =
        call_apart c (Call.PollTick t w) refl p is
    acts_apart now z call shown so n is (tick_leaves t lives life) = call_apart c (Call.DropTick t) refl p is
