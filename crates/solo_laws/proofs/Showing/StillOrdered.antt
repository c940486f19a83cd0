-- After each call the own queues at which others look stand in the order in which their runs were first polled.
use Rattle.std.proofs.Common.{◌≡◌, ℕ, suc, ◌==◌, not, if◌then◌else◌, Bool, true, false, List, [], ◌∷◌, ◌++◌, drop, filter, map}
use Rattle.std.proofs.Common.{Option, Some, None, slice_get, refl, sym, ap, subst, ◌∙◌, arith}
use Rattle.solo.specs.declared.names.Task.{Task}
use Rattle.solo.specs.declared.names.SoloWaker.{SoloWaker}
use Rattle.solo.specs.declared.owed.Lent.{Lent}
use Rattle.solo.specs.declared.runs.Runner.{Runner}
use Rattle.solo.specs.declared.solo.Solo.{Solo}
use Rattle.solo.specs.declared.ticks.Ticker.{Ticker}
use Rattle.solo.specs.OwnQueues as own
use Rattle.solo.specs.Runs as runs
use Rattle.solo.specs.Solo as solo
use Rattle.solo.specs.Steals as steals
use Rattle.solo.specs.Ticks as ticks
use Rattle.plain_scheduler.specs.State.{Answers, ARun, ATick, Choice, Code, Drops, Event, Loses, Plain, Run, Running, Yes}
use Rattle.plain_scheduler.specs.Lists.{or, without}
use Rattle.plain_scheduler.specs.Moves.{is_kept}
use Rattle.plain_scheduler.specs.Calls.{Call, does}
use Rattle.plain_scheduler.specs.Usual.{order_by, order_in, with_run}
use Rattle.solo_laws.specs.Alike.{copies}
use Rattle.solo_laws.specs.Courses as courses
use Rattle.solo_laws.specs.Courses.{Acts, Makes}
use Rattle.solo_laws.specs.Numbered.{ticker_of}
use Rattle.solo_laws.specs.Ordering.{CallsOrder, order_of}
use Rattle.solo_laws.specs.Owner.{Owner}
use Rattle.solo_laws.specs.Road.{due_task, wakes as wakes_of}
use Rattle.solo_laws.specs.RunGoing as on
use Rattle.solo_laws.specs.RunGoing.{IsEnding, RunsOn, Searches, Stage, code_at, drop_ends, in_try, loss_ends, poll_ends}
use Rattle.solo_laws.specs.RunResting.{sleep_answer, slept_from}
use Rattle.solo_laws.specs.Tabled.{Stands, named, own_of}
use Rattle.solo_laws.specs.Ticking.{looks_again, slept_once}
use Rattle.solo_laws.proofs.Prompt.{chosen}
use Rattle.solo_laws.proofs.Following.Keeping.{keeps}
use Rattle.solo_laws.proofs.Following.Ordering.{Ordered, changed_ordered, closed_ordered, listed_ordered, opened_ordered}
use Rattle.solo_laws.proofs.Following.OwnKept.{copies_same, drains_as, found_same, left_as, once_same, rested_same, same_runs}
use Rattle.solo_laws.proofs.Following.OwnKept.{searched_of, slept_same, sought_of, woken_same}
use Rattle.solo_laws.proofs.Showing.Courses.{Known, led_known}

-- whether its own future is over
over_by : (o : Option Running) → or o (λ run. run.is_over) true ≡ not (or o (λ run. not run.is_over) false)
over_by None = refl
over_by (Some run) = twice run.is_over
  where
    twice : (b : Bool) → b ≡ not (not b)
    twice true = refl
    twice false = refl

module _ {T X : Type 0} (order : List ℕ) where
  -- the poll or drop of one that a run took ends
  ending_order : (p : Plain T (SoloWaker X)) (stage : Stage T (SoloWaker X)) (r : ℕ) (w : SoloWaker X) (rest : List (Code T (SoloWaker X)))
      (call : Call T (SoloWaker X)) → IsEnding stage call → p.inside ≡ code_at stage (Run r w) ∷ rest → order_by call p order ≡ order
  ending_order p stage r w rest call (poll_ends f) is = refl
  ending_order p stage r w rest call (drop_ends f end) is = ap (λ cs. order_in cs order) is
  ending_order p stage r w rest call (loss_ends awaiter) is = ap (λ cs. order_in cs order) is

module _ {F T X : Type 0} (its : ℕ → Lent) (order : List ℕ) where
  abbrev Of : Solo F T X → Type 0
  Of s = Ordered order s.runs

  -- a run that searches changes its own queue and others', each in its place
  module _ (owner : Owner) (c : Choice) (runner : Runner) (w : SoloWaker X) (s : Solo F T X) (p : Plain T (SoloWaker X))
      (o : Ordered order s.runs) where
    abbrev r : ℕ
    r = runner.number

    abbrev IsOf : own.OwnQueuesValue × ℕ → Type 0
    IsOf o = Ordered order o.0

    popped : (k : ℕ) (o : own.OwnQueuesValue) (n : ℕ) → IsOf (o, n) → IsOf (own.changed (drop 1) k o, n)
    popped k o n = changed_ordered order (λ ts. drop 1 ts) k o

    pushed : (t : Task) (o : own.OwnQueuesValue) (n : ℕ) → IsOf (o, n) → IsOf (own.changed (own.pushed t) r o, n)
    pushed t o n = changed_ordered order (own.pushed t) r o

    finds : (start : ℕ) → Of (runs.searched runner (ticker_of owner.number (ARun r) p.lying) start s)
    finds start =
        let ticker = ticker_of owner.number (ARun r) p.lying in
        searched_of IsOf r popped pushed runner refl ticker start s o

    seeks : (start : ℕ) (z : Solo F T X) → Of z → Of (steals.sought r start z)
    seeks start z z_of = sought_of IsOf r popped pushed start z z_of

    slept_of : (start : ℕ) (ticker : Ticker) (z : Solo F T X) → Of z → Of (slept_from r start ticker w z)
    slept_of start ticker z z_of =
        let y = steals.sought r start z in
        subst IsOf (sym (slept_same ticker w (copies w y) ∙ copies_same w y))
        (seeks start z z_of)

    searches_ordered : (shown : List (Event T (SoloWaker X))) (now : Owner) (z : Solo F T X)
        → Searches its owner c runner w s p shown now z → Of z
    searches_ordered shown now z (on.takes_own start task first keeps life) = finds start
    searches_ordered shown now z (on.takes_common start task first found turn keeps life) = finds start
    searches_ordered shown now z (on.robs_another start task first found turn finds_it robs moves keeps life) = finds start
    searches_ordered shown now z (on.rests first second missed turn granted names more life) =
        let ticker = ticker_of owner.number (ARun r) p.lying in
        let out = sleep_answer r first ticker w s in
        let y = slept_from r first ticker w s in
        chosen Of (looks_again out.look) (slept_from r second out.ticker w y) y
        (slept_of second out.ticker y (slept_of first ticker s o)) (slept_of first ticker s o)
    searches_ordered shown now z (on.is_refused start missed turn refused) = seeks start s o
    searches_ordered shown now z (on.lies_refused first second missed turn refused names again more life) =
        let ticker = ticker_of owner.number (ARun r) p.lying in
        seeks second (slept_from r first ticker w s) (slept_of first ticker s o)

    runs_on_ordered : (shown : List (Event T (SoloWaker X))) (now : Owner) (z : Solo F T X)
        → RunsOn its owner c runner w s p shown now z → Of z
    runs_on_ordered shown now z (on.looks_on shown' now' z' less how) = searches_ordered shown' now' z' how
    runs_on_ordered shown now z (on.gives_way enough names life) = subst IsOf (sym (woken_same w s)) o

  -- a call by which no run is polled first or goes
  makes_order : (c : Choice) (s z : Solo F T X) (p : Plain T (SoloWaker X)) (call : Call T (SoloWaker X))
      (shown : List (Event T (SoloWaker X))) → Makes its c s p call shown z → order_by call p order ≡ order
  makes_order c s z p call shown (courses.spawns mark future spawned z' how is granted life few) = refl
  makes_order c s z p call shown (courses.refuses mark future refused z' how fits) = refl
  makes_order c s z p call shown (courses.takes first life) = refl
  makes_order c s z p call shown courses.looks = refl
  makes_order c s z p call shown (courses.wakes f at life) = refl
  makes_order c s z p call shown (courses.uses f at life) = refl
  makes_order c s z p call shown (courses.releases f at life) = refl
  makes_order c s z p call shown (courses.copies f at says) = refl
  makes_order c s z p call shown (courses.polls f w at handle named life) = refl
  makes_order c s z p call shown (courses.cancels f at life) = refl
  makes_order c s z p call shown (courses.detaches f at life) = refl
  makes_order c s z p call shown (courses.drops_handle f at life) = refl
  makes_order c s z p call shown (courses.leaks owned life) = refl
  makes_order c s z p call shown (courses.pends f by rest future one is life) = refl
  makes_order c s z p call shown (courses.gives f by rest v is) = refl
  makes_order c s z p call shown (courses.ends_given f v by rest one is life) = ap (λ cs. order_in cs order) is
  makes_order c s z p call shown (courses.ends_closed f by rest one is life) = ap (λ cs. order_in cs order) is
  makes_order c s z p call shown (courses.loses awaiter by rest one is life) = ap (λ cs. order_in cs order) is

  module _ (owner : Owner) (c : Choice) (s : Solo F T X) (p : Plain T (SoloWaker X)) (so : Stands its s p) (o : Ordered order s.runs) where
    abbrev After : Call T (SoloWaker X) → Solo F T X → Type 0
    After call z = Ordered (order_by call p order) z.runs

    kept : (z : Solo F T X) → z.runs ≡ s.runs → Of z
    kept z same = subst (Ordered order) (sym same) o

    quiet : (call : Call T (SoloWaker X)) (z : Solo F T X) → order_by call p order ≡ order → Of z → After call z
    quiet call z is there = subst (λ order. Ordered order z.runs) (sym is) there

    pub acts_ordered : (now : Owner) (z : Solo F T X) (call : Call T (SoloWaker X)) (shown : List (Event T (SoloWaker X)))
        → Acts its owner c s p call shown now z → After call z
    acts_ordered now z call shown (courses.makes call' shown' z' how) =
        quiet call' z' (makes_order c s z' p call' shown' how) (kept z' (keeps its c s p call' shown' z' how).0.1)
    acts_ordered now z call shown (courses.makes_tick t new granted) = o
    acts_ordered now z call shown (courses.tick_takes t w task lives found first life) =
        let ticker = ticker_of owner.number (ATick t) p.lying in
        kept (ticks.found ticker task (solo.popped s)) (same_runs s (ticks.found ticker task (solo.popped s))
        (found_same ticker task (solo.popped s)))
    acts_ordered now z call shown (courses.tick_rests t w lives none first granted names more life) =
        let ticker = ticker_of owner.number (ATick t) p.lying in
        kept z (same_runs s z (rested_same ticker w s))
    acts_ordered now z call shown (courses.makes_run granted few) = opened_ordered order s.runs o
    acts_ordered now z call shown (courses.makes_no_run refused) = o
    acts_ordered now z call shown (courses.run_polled runner w going free) =
        let r = runner.number in
        let kept_now = filter (is_kept r) p.due in
        subst (λ order. Ordered order (runs.begun runner s).runs)
        (sym (ap (λ b. if b then order else with_run r order) (over_by (slice_get p.runs r) ∙ ap not going)))
        (listed_ordered order r s.runs (map (due_task (named its)) kept_now) (so.1.queues r ∙ ap (λ b. own_of its b kept_now) going) o)
    acts_ordered now z call shown (courses.over_polled r w over) =
        quiet (Call.PollRun r w) s
        (ap (λ b. if b then order else with_run r order) (over_by (slice_get p.runs r) ∙ ap not over)) o
    acts_ordered now z call shown (courses.own_ready r w v rest is) = o
    acts_ordered now z call shown (courses.run_looks runner w rest shown' now' z' its_runner is how) =
        searches_ordered owner c runner w s (record p { inside = rest }) o shown' now' z' how
    acts_ordered now z call shown (courses.run_goes_on stage runner w rest call' first others now' y z' its_runner is ends how goes) =
        let tried = in_try stage rest p in
        let y_of = kept y (keeps its c s tried call' (first ++ Answers Yes ∷ []) y how).0.1 in
        quiet call' z' (ending_order order p stage runner.number w rest call' ends is)
        (runs_on_ordered owner c runner w y (record (does wakes_of c call' tried) { events = p.events ++ first }) y_of others now' z' goes)
    acts_ordered now z call shown (courses.run_drops stage r w rest call' first f z' is ends how) =
        quiet call' z' (ending_order order p stage r w rest call' ends is)
        (kept z' (keeps its c s (in_try stage rest p) call' (first ++ Drops f ∷ []) z' how).0.1)
    acts_ordered now z call shown (courses.run_loses stage r w rest call' first v z' is ends how) =
        quiet call' z' (ending_order order p stage r w rest call' ends is)
        (kept z' (keeps its c s (in_try stage rest p) call' (first ++ Loses v ∷ []) z' how).0.1)
    acts_ordered now z call shown (courses.run_dropped r going free) = o
    acts_ordered now z call shown (courses.over_dropped r over) = o
    acts_ordered now z call shown (courses.run_leaves runner answer rest is life) =
        let ticker = ticker_of owner.number (ARun runner.number) p.lying in
        let y = runs.left runner s in
        let m = own.count_of runner.number s.runs in
        subst (λ order. Ordered order z.runs) (sym (ap (λ cs. order_in cs order) is))
        (subst (Ordered (without (λ k. runner.number == k) order))
        (sym (ap (λ (b : own.OwnQueuesValue × ℕ). b.0)
        (drains_as (suc m) (own.queue_of runner.number s.runs.queues) ticker y (omega arith))))
        (closed_ordered order runner.number s.runs o))
    acts_ordered now z call shown (courses.makes_no_tick refused) = o
    acts_ordered now z call shown (courses.tick_refused t w lives none first refused) = kept (solo.popped s) refl
    acts_ordered now z call shown (courses.tick_lies_refused t w lives none first refused names again more life) =
        let ticker = ticker_of owner.number (ATick t) p.lying in
        kept (solo.popped (slept_once ticker w s)) (same_runs s (solo.popped (slept_once ticker w s)) (once_same ticker w s))
    acts_ordered now z call shown (courses.tick_leaves t lives life) =
        let ticker = ticker_of owner.number (ATick t) p.lying in
        kept (ticks.left ticker s) (ap (λ (b : own.OwnQueuesValue × ℕ). b.0) (left_as ticker s))

module _ {F T X : Type 0} (its : ℕ → Lent) (owner : Owner) (c : Choice) (s : Solo F T X) (p : Plain T (SoloWaker X))
    (known : Known its owner s p) where
  -- and so each call leaves them
  pub call_order : (now : Owner) (z : Solo F T X) (call : Call T (SoloWaker X)) (shown : List (Event T (SoloWaker X)))
      → Acts its owner c s p call shown now z → order_of z ≡ order_by call p (order_of s)
  call_order now z call shown acts =
      (acts_ordered its (order_of s) owner c s p known.stands (record { is = refl; within = known.listed.within }) now z call shown acts).is

pub calls_order : {F T X : Type 0} → CallsOrder F T X
calls_order its owner c s p now z call shown led many acts = call_order its owner c s p (led_known its owner s p led) now z call shown acts
