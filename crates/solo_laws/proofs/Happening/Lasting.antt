-- A call queues so many tasks at most.
use Rattle.std.proofs.Common.{◌≡◌, ℕ, suc, ◌+◌, ◌*◌, ◌≤◌, Bool, true, false, List, [], ◌∷◌, ◌++◌, filter, is_some, length, not}
use Rattle.std.proofs.Common.{if◌then◌else◌}
use Rattle.std.proofs.Common.{None, refl, sym, ap, subst, ◌∙◌, arith}
use Rattle.solo.specs.declared.names.Task.{Task}
use Rattle.solo.specs.declared.names.SoloWaker.{SoloWaker}
use Rattle.solo.specs.declared.owed.Lent.{Lent}
use Rattle.solo.specs.declared.owed.Owed.{Owed}
use Rattle.solo.specs.declared.runs.Runner.{Runner}
use Rattle.solo.specs.declared.solo.Solo.{Solo}
use Rattle.solo.specs.Cells.{asked, choose}
use Rattle.solo.specs.Cells as cells
use Rattle.solo.specs.OwnQueues as own
use Rattle.solo.specs.Solo as solo
use Rattle.solo.specs.Turns as turns
use Rattle.plain_scheduler.specs.State.{Close, Code, Drop, DropOwn, Lose, Poll, PollOwn}
use Rattle.plain_scheduler.specs.State.{Answers, ARun, ATick, Choice, Drops, Event, Future, Loses, Plain, Yes}
use Rattle.plain_scheduler.specs.Calls.{Call, Ends, Pends, does, ends, gone, innermost, is_granted, living_from}
use Rattle.plain_scheduler.specs.Moves.{is_kept}
use Rattle.solo_laws.specs.Alike as alike
use Rattle.solo_laws.specs.Courses.{Acts, Makes, cancels, copies, detaches, drops_handle, ends_closed, ends_given, gives, leaks, looks}
use Rattle.solo_laws.specs.Courses.{loses, makes, makes_no_run, makes_no_tick, makes_run, makes_tick, over_dropped, over_polled}
use Rattle.solo_laws.specs.Courses.{own_ready, pends, polls, refuses, releases, run_dropped, run_drops, run_goes_on, run_leaves}
use Rattle.solo_laws.specs.Courses.{run_looks, run_loses, run_polled, spawns, takes, tick_leaves, tick_lies_refused, tick_refused}
use Rattle.solo_laws.specs.Courses.{tick_rests, tick_takes, uses, wakes as wakes_it}
use Rattle.solo_laws.specs.Dropping.{after_drop}
use Rattle.solo_laws.specs.Making.{left_in, queues_at_most}
use Rattle.solo_laws.specs.Numbered.{ticker_of}
use Rattle.solo_laws.specs.Owner.{Owner}
use Rattle.solo_laws.specs.Road.{HasLife, due_task, wakes}
use Rattle.solo_laws.specs.RunGoing.{IsEnding, RunsOn, Searches, Stage, drop_ends, gives_way, in_try, is_refused, lies_refused}
use Rattle.solo_laws.specs.RunGoing.{looks_on, loss_ends, poll_ends, rests, robs_another, takes_common, takes_own}
use Rattle.solo_laws.specs.RunResting.{slept_from}
use Rattle.solo_laws.specs.Tabled.{Stands, at_home, goes_on, named, own_of, row, row_of}
use Rattle.solo_laws.specs.Ticking.{slept_once}
use Rattle.solo_laws.proofs.Prompt.{chosen}
use Rattle.solo_laws.proofs.Following.Lists.{length_map}
use Rattle.solo_laws.proofs.Following.Lives.{cancelled_lives, released_lives, scheduled_if_lives, scheduled_lives, three_fewer, used_lives}
use Rattle.solo_laws.proofs.Following.Lives.{woken_lives}
use Rattle.solo_laws.proofs.Following.Lines.{younger}
use Rattle.solo_laws.proofs.Happening.Choosing.{fewer}
use Rattle.solo_laws.proofs.Happening.Ends.{calls_lives, left_lives, lets_go_lives, pends_lives}
use Rattle.solo_laws.proofs.Happening.Goers.{goers}
use Rattle.solo_laws.proofs.Happening.Long.{ends_long, gone_fewer}
use Rattle.solo_laws.proofs.Happening.Places.{FewKept}
use Rattle.solo_laws.proofs.Happening.Spending.{L, copies_lives, found_lives, leaked_lives, once_lives, popped_lives, rested_lives}
use Rattle.solo_laws.proofs.Happening.Spending.{run_left_lives, run_rested_lives, search_lives, slept_from_lives, sought_lives}
use Rattle.solo_laws.proofs.Happening.Spending.{tick_left_lives, tried_lives, woken_by_lives}

-- no more live than came
few_living : {T A : Type 0} (i : ℕ) (fs : List (Future T A)) → length (living_from i fs) ≤ length fs
few_living i [] = omega arith
few_living i (x ∷ fs) = by x.is_dropped (few_living (suc i) fs)
  where
    by : (b : Bool) → length (living_from (suc i) fs) ≤ length fs
        → length (if b then living_from (suc i) fs else i ∷ living_from (suc i) fs) ≤ suc (length fs)
    by true few = omega (arith, few)
    by false few = omega (arith, few)

module _ {F T X : Type 0} (its : ℕ → Lent) (s : Solo F T X) (p : Plain T (SoloWaker X)) (both : Stands its s p) where
  -- there are no more entries than futures came, and 512 tasks at most in a run's own queue
  pub few_entries : length s.table.entries ≤ length p.futures
  few_entries =
      let rows = sym (length_map row s.table.entries) ∙ (ap (λ rs. length rs) both.1.rows ∙ length_map
      (row_of its (not p.is_static) (at_home its s.cells)) (living_from 0 p.futures)) in
      let within = few_living 0 p.futures in
      omega (arith, rows, within)

  pub few_kept : FewKept p.due → (r : ℕ) → own.count_of r s.runs ≤ 512
  few_kept few r = subst (λ o. own.count_in o ≤ 512) (sym (both.1.queues r)) (by (goes_on r p))
    where
      by : (b : Bool) → own.count_in (own_of its b (filter (is_kept r) p.due)) ≤ 512
      by true =
          let long = length_map (due_task (named its)) (filter (is_kept r) p.due) in
          let most = few r in
          omega (arith, long, most)
      by false = omega arith

  -- and none in that of one that is over
  over_keeps_none : (r : ℕ) → goes_on r p ≡ false → own.count_of r s.runs ≤ 0
  over_keeps_none r over =
      subst (λ o. own.count_in o ≤ 0)
      (sym (both.1.queues r ∙ ap (λ b. own_of its b (filter (is_kept r) p.due)) over)) (omega arith)

  -- what a run gives back as it goes is counted as long as it goes on
  pub drop_pays : (c : Choice) (owner : Owner) → FewKept p.due
      → 3 * left_in its owner s p p.inside + 3 * 512 * goers (does wakes c Ends p).runs ≤ 3 * 512 * goers p.runs
  drop_pays c owner few = by p.inside (ends_long c p).going
    where
      by : (cs : List (Code T (SoloWaker X))) → goers (innermost wakes c cs (ends wakes c) p).runs ≤ goers p.runs
          → 3 * left_in its owner s p cs + 3 * 512 * goers (innermost wakes c cs (ends wakes c) p).runs ≤ 3 * 512 * goers p.runs
      by [] less = omega (arith, less)
      by (Poll f taker ∷ rest) less = omega (arith, less)
      by (Drop f end taker ∷ rest) less = omega (arith, less)
      by (Lose awaiter taker ∷ rest) less = omega (arith, less)
      by (PollOwn r w ∷ rest) less = omega (arith, less)
      by (Close fs all ∷ rest) less = omega (arith, less)
      by (DropOwn r answer ∷ rest) less = which (goes_on r p) refl
        where
          which : (b : Bool) → goes_on r p ≡ b
              → 3 * own.count_of r s.runs + 3 * 512 * goers (gone wakes c r (record p { inside = rest })).runs ≤ 3 * 512 * goers p.runs
          which true goes =
              let most = few_kept few r in
              let fewer = gone_fewer c r (record p { inside = rest }) goes in
              omega (arith, most, fewer)
          which false over = (let none = over_keeps_none r over in omega (arith, none, less))

-- what ends as in a try queues no more than this
abbrev pub least : {T A : Type 0} → ℕ → Call T A → ℕ
least came Pends = 3
least came Ends = 9
least came call = queues_at_most came 0 call

no_more : {T A : Type 0} (came own : ℕ) (call : Call T A) → least came call ≤ queues_at_most came own call
no_more came own Pends = omega arith
no_more came own Ends = omega arith
no_more came own call = omega arith

ends_in : {T A : Type 0} (came own : ℕ) (stage : Stage T A) (call : Call T A) → IsEnding stage call
    → least came call + 6 ≤ queues_at_most came own call
ends_in came own stage call (poll_ends f) = omega arith
ends_in came own stage call (drop_ends f end) = omega arith
ends_in came own stage call (loss_ends awaiter) = omega arith

module _ {F T X : Type 0} (its : ℕ → Lent) (c : Choice) (s : Solo F T X) (p : Plain T (SoloWaker X)) (n k came : ℕ)
    (entries : length s.table.entries ≤ came) (life : HasLife k s.lines) where
  -- where so many more may come
  some : (m : ℕ) → m ≤ k → L m s
  some m few = fewer m k s.lines few life

  detached_live : (m : ℕ) (t : Task) (z : Solo F T X) → L (suc (suc (suc m))) z → L m (solo.detached t z)
  detached_live m t z lives =
      scheduled_if_lives m (is_some (asked cells.detach_queues None t z.cells)) t (turns.turned cells.detached t z) lives

  cancelled_live : (m : ℕ) (t : Task) (z : Solo F T X) → L (suc (suc (suc (suc (suc (suc m)))))) z → L m (alike.cancelled t z)
  cancelled_live m t z lives =
      calls_lives m (solo.cancel_answer t z).awaiter (solo.cancelled t z) (cancelled_lives (suc (suc (suc m))) t z lives)

  polled_live : (granted : Bool) (t : Task) (w : SoloWaker X) → L (suc (suc (suc n))) s → L n (alike.handle_polled granted t w s)
  polled_live granted t w lives =
      let y = alike.copies w s in
      let z = solo.polled t w y in
      let none : L n s = three_fewer n s.lines lives in
      chosen (L n) (solo.must_wait t s) (choose granted (alike.registered t w y) s) (solo.polled t w s)
      (chosen (L n) granted (alike.registered t w y) s
      (lets_go_lives n (alike.replaced_by (solo.poll_answer t w y)) z (copies_lives (suc (suc (suc n))) w s lives)) none) none

  dropped_live : (owed : Owed F T X) (z : Solo F T X) → L (suc (suc (suc (suc (suc (suc n)))))) z → L n (after_drop owed z)
  dropped_live owed z lives =
      chosen (L n) (is_some owed.output) z (alike.calls owed.awaiter (alike.lets_go owed.old z))
      (three_fewer n z.lines (three_fewer (suc (suc (suc n))) z.lines lives))
      (calls_lives n owed.awaiter (alike.lets_go owed.old z) (lets_go_lives (suc (suc (suc n))) owed.old z lives))

  pub makes_live : (call : Call T (SoloWaker X)) (shown : List (Event T (SoloWaker X))) (z : Solo F T X)
      → Makes its c s p call shown z → least came call + n ≤ k → L n z
  makes_live call shown z (spawns mark future spawned z' so is granted enough few) most =
      let one = so.0 in
      let same : L (suc (suc (suc n))) one =
      subst (λ (z : Solo F T X). L (suc (suc (suc n))) z) (sym so.1.1) (some (suc (suc (suc n))) (omega (arith, most))) in
      subst (λ (z : Solo F T X). L n z) (sym so.2) (scheduled_lives n spawned.task one same)
  makes_live call shown z (refuses mark future refused z' so fits) most =
      subst (λ (z : Solo F T X). L n z) (sym so.1) (some n (omega (arith, most)))
  makes_live call shown z (takes first enough) most = tried_lives n s (some (suc (suc n)) (omega (arith, most)))
  makes_live call shown z looks most = some n (omega (arith, most))
  makes_live call shown z (wakes_it f at enough) most = woken_lives n (named its f) s (some (suc (suc (suc n))) (omega (arith, most)))
  makes_live call shown z (uses f at enough) most = used_lives n (named its f) s (some (suc (suc (suc n))) (omega (arith, most)))
  makes_live call shown z (releases f at enough) most = released_lives n (named its f) s (some (suc (suc (suc n))) (omega (arith, most)))
  makes_live call shown z (copies f at says) most = some n (omega (arith, most))
  makes_live call shown z (polls f w at handle names enough) most =
      polled_live (is_granted c.refusal) (named its f) w (some (suc (suc (suc n))) (omega (arith, most)))
  makes_live call shown z (cancels f at enough) most = cancelled_live n (named its f) s
      (some (suc (suc (suc (suc (suc (suc n)))))) (omega (arith, most)))
  makes_live call shown z (detaches f at enough) most = detached_live n (named its f) s (some (suc (suc (suc n))) (omega (arith, most)))
  makes_live call shown z (drops_handle f at enough) most =
      detached_live n (named its f) (alike.cancelled (named its f) s)
      (cancelled_live (suc (suc (suc n))) (named its f) s (some (suc (suc (suc (suc (suc (suc (suc (suc (suc n)))))))))
      (omega (arith, most))))
  makes_live call shown z (leaks owned enough) most =
      leaked_lives (length s.table.entries) n k (omega (arith, entries, most)) s life
  makes_live call shown z (pends f by rest future one is enough) most = pends_lives n (its f) future s
      (some (suc (suc (suc n))) (omega (arith, most)))
  makes_live call shown z (gives f by rest v is) most = some n (omega (arith, most))
  makes_live call shown z (ends_given f v by rest one is enough) most =
      dropped_live (solo.settle_ready_answer (its f) v s) (solo.settled_ready (its f) v s)
      (left_lives (suc (suc (suc (suc (suc (suc n)))))) (its f).place s
      (some (suc (suc (suc (suc (suc (suc (suc (suc (suc n))))))))) (omega (arith, most))))
  makes_live call shown z (ends_closed f by rest one is enough) most =
      dropped_live (solo.finish_answer (its f) s) (solo.finished (its f) s)
      (left_lives (suc (suc (suc (suc (suc (suc n)))))) (its f).place s
      (some (suc (suc (suc (suc (suc (suc (suc (suc (suc n))))))))) (omega (arith, most))))
  makes_live call shown z (loses awaiter by rest one is enough) most = calls_lives n awaiter s
      (some (suc (suc (suc n))) (omega (arith, most)))

module _ {F T X : Type 0} (its : ℕ → Lent) (owner : Owner) (c : Choice) (runner : Runner) (w : SoloWaker X) (s : Solo F T X)
    (p : Plain T (SoloWaker X)) (n : ℕ) (six : L (suc (suc (suc (suc (suc (suc n)))))) s) where
  five : L (suc (suc (suc (suc (suc n))))) s
  five = younger (suc (suc (suc (suc (suc n))))) s.lines six

  none_more : L n s
  none_more = three_fewer n s.lines (three_fewer (suc (suc (suc n))) s.lines six)

  searches_live : (shown : List (Event T (SoloWaker X))) (now : Owner) (z : Solo F T X)
      → Searches its owner c runner w s p shown now z → L n z
  searches_live shown now z (takes_own start found first keeps life) =
      search_lives n runner (ticker_of owner.number (ARun runner.number) p.lying) start s five
  searches_live shown now z (takes_common start found alone first turn keeps life) =
      search_lives n runner (ticker_of owner.number (ARun runner.number) p.lying) start s five
  searches_live shown now z (robs_another start found alone nothing turn walks robs moves keeps life) =
      search_lives n runner (ticker_of owner.number (ARun runner.number) p.lying) start s five
  searches_live shown now z (rests one two missed turn granted names more life) =
      run_rested_lives n runner.number one two (ticker_of owner.number (ARun runner.number) p.lying) w s six
  searches_live shown now z (is_refused start missed turn refused) = sought_lives n runner.number start s none_more
  searches_live shown now z (lies_refused one two missed turn refused names again more life) =
      let ticker = ticker_of owner.number (ARun runner.number) p.lying in
      sought_lives n runner.number two (slept_from runner.number one ticker w s)
      (slept_from_lives n runner.number one ticker w s (three_fewer (suc (suc (suc n))) s.lines six))

  runs_on_live : (shown : List (Event T (SoloWaker X))) (now : Owner) (z : Solo F T X) → RunsOn its owner c runner w s p shown now z
      → L n z
  runs_on_live shown now z (looks_on shown' now' z' less how) = searches_live shown' now' z' how
  runs_on_live shown now z (gives_way enough names life) = woken_by_lives n w s (three_fewer (suc (suc (suc n))) s.lines six)

module _ {F T X : Type 0} (its : ℕ → Lent) (owner : Owner) (c : Choice) (s : Solo F T X) (p : Plain T (SoloWaker X)) (n k came most_own : ℕ)
    (entries : length s.table.entries ≤ came) (left : left_in its owner s p p.inside ≤ most_own) (life : HasLife k s.lines) where
  its_some : (m : ℕ) → m ≤ k → L m s
  its_some m few = fewer m k s.lines few life

  -- what runs as in a try, whatever comes behind it
  tried_live : (m : ℕ) (q : Plain T (SoloWaker X)) (call : Call T (SoloWaker X)) (shown : List (Event T (SoloWaker X))) (z : Solo F T X)
      → Makes its c s q call shown z → least came call + m ≤ k → L m z
  tried_live m q call shown z how few = makes_live its c s q m k came entries life call shown z how few

  pub acts_live : (now : Owner) (z : Solo F T X) (call : Call T (SoloWaker X)) (shown : List (Event T (SoloWaker X)))
      → Acts its owner c s p call shown now z → queues_at_most came most_own call + n ≤ k → L n z
  acts_live now z call shown (makes call' shown' z' how) most =
      let less = no_more came most_own call' in tried_live n p call' shown' z' how (omega (arith, most, less))
  acts_live now z call shown (makes_tick t new granted) most = its_some n (omega (arith, most))
  acts_live now z call shown (tick_takes t w task lives_it found first enough) most =
      found_lives n (ticker_of owner.number (ATick t) p.lying) task s
      (its_some (suc (suc (suc (suc (suc n))))) (omega (arith, most)))
  acts_live now z call shown (tick_rests t w lives_it none first granted names more enough) most =
      rested_lives n (ticker_of owner.number (ATick t) p.lying) w s
      (its_some (suc (suc (suc (suc (suc (suc n)))))) (omega (arith, most)))
  acts_live now z call shown (makes_run granted few) most = its_some n (omega (arith, most))
  acts_live now z call shown (makes_no_run refused) most = its_some n (omega (arith, most))
  acts_live now z call shown (run_polled runner w going free) most = its_some n (omega (arith, most))
  acts_live now z call shown (over_polled r w over) most = its_some n (omega (arith, most))
  acts_live now z call shown (own_ready r w u rest is) most = its_some n (omega (arith, most))
  acts_live now z call shown (run_looks runner w rest shown' now' z' its_runner is how) most =
      searches_live its owner c runner w s (record p { inside = rest }) n
      (its_some (suc (suc (suc (suc (suc (suc n)))))) (omega (arith, most))) shown' now' z' how
  acts_live now z call shown (run_goes_on stage runner w rest call' before others now' y z' its_runner is ends how on) most =
      let tried = in_try stage rest p in
      let less = ends_in came most_own stage call' ends in
      let there =
      tried_live (suc (suc (suc (suc (suc (suc n)))))) tried call' (before ++ Answers Yes ∷ []) y how (omega (arith, most, less)) in
      runs_on_live its owner c runner w y (record (does wakes c call' tried) { events = p.events ++ before }) n there others now' z' on
  acts_live now z call shown (run_drops stage r w rest call' before f z' is ends how) most =
      let less = ends_in came most_own stage call' ends in
      tried_live n (in_try stage rest p) call' (before ++ Drops f ∷ []) z' how (omega (arith, most, less))
  acts_live now z call shown (run_loses stage r w rest call' before u z' is ends how) most =
      let less = ends_in came most_own stage call' ends in
      tried_live n (in_try stage rest p) call' (before ++ Loses u ∷ []) z' how (omega (arith, most, less))
  acts_live now z call shown (run_dropped r going free) most = its_some n (omega (arith, most))
  acts_live now z call shown (over_dropped r over) most = its_some n (omega (arith, most))
  acts_live now z call shown (run_leaves runner answer rest is enough) most =
      let few = subst (λ cs. left_in its owner s p cs ≤ most_own) is left in
      run_left_lives n k (ticker_of owner.number (ARun runner.number) p.lying) runner s (omega (arith, few, most)) life
  acts_live now z call shown (makes_no_tick refused) most = its_some n (omega (arith, most))
  acts_live now z call shown (tick_refused t w lives_it none first refused) most = popped_lives n s (its_some n (omega (arith, most)))
  acts_live now z call shown (tick_lies_refused t w lives_it none first refused names again more enough) most =
      let ticker = ticker_of owner.number (ATick t) p.lying in
      popped_lives n (slept_once ticker w s) (once_lives n ticker w s (its_some (suc (suc (suc n))) (omega (arith, most))))
  acts_live now z call shown (tick_leaves t lives_it enough) most =
      tick_left_lives n (ticker_of owner.number (ATick t) p.lying) s (its_some (suc (suc (suc n))) (omega (arith, most)))
