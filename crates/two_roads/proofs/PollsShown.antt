-- The polls that are shown in a list of calls in which one run alone takes futures are of what it is handed.
use Rattle.std.proofs.Common.{◌≡◌, ℕ, zero, suc, ◌==◌, nat_lt, cond, not, Bool, true, false, List, [], ◌∷◌, ◌++◌, length, map, ◌+◌}
use Rattle.std.proofs.Common.{Option, Some, None}
use Rattle.std.proofs.Common.{refl, sym, ap, subst, ◌∙◌, arith}
use Rattle.std.proofs.lemmas.Bool.Decides.{nat_tests}
use Rattle.solo.specs.declared.names.Kind.{Kind}
use Rattle.solo.specs.declared.names.SoloWaker.{SoloWaker}
use Rattle.solo.specs.declared.names.SoloWaker.TheVariants.{Task as OfTask, Outside}
use Rattle.solo.specs.declared.names.Task.{Task}
use Rattle.solo.specs.declared.owed.Found.{Found}
use Rattle.solo.specs.declared.owed.Found.TheVariants.{Drop as FoundDrop, Gone, Nothing, Poll as FoundPoll}
use Rattle.solo.specs.declared.owed.Lent.{Lent}
use Rattle.solo.specs.declared.owed.Owed.{Owed}
use Rattle.solo.specs.declared.runs.Leaving.{Leaving}
use Rattle.solo.specs.declared.runs.Runner.{Runner}
use Rattle.solo.specs.declared.solo.Solo.{Solo}
use Rattle.solo.specs.Cells.{choose}
use Rattle.solo.specs.Closing as closing
use Rattle.solo.specs.OwnQueues.{count_of as count_of_own}
use Rattle.solo.specs.Runs as runs
use Rattle.solo.specs.Steals as steals
use Rattle.solo.specs.Ticks as ticks
use Rattle.solo.specs.declared.ticks.Ticked.{Ticked}
use Rattle.solo.specs.Solo as solo
use Rattle.solo.specs.Solo.{IsNew, counts}
use Rattle.plain_scheduler.specs.State.{ARun, ATick, Answers, Calls, Choice, Code, Done, Drops, Event, Loses, Made, No, NoMemory, Pending}
use Rattle.plain_scheduler.specs.State.{Plain, Polls}
use Rattle.plain_scheduler.specs.State.{Run, Taker, Who, Yes}
use Rattle.plain_scheduler.specs.Lists.{or}
use Rattle.plain_scheduler.specs.Calls as calls
use Rattle.plain_scheduler.specs.Calls.{Call, course, does, is_granted, new}
use Rattle.plain_laws.specs.Coming.{IsPart, has, lacks, no_more}
use Rattle.plain_laws.specs.Order.{innermost_leads_to, last_begun, leaves_to, takes_alone}
use Rattle.plain_laws.proofs.Words.{assoc, both_true, is_itself, map_both, same_number}
use Rattle.plain_laws.proofs.InOrder.{last_of}
use Rattle.solo_laws.specs.Alike.{cancelled, copies, lets_go, replaced_by}
use Rattle.solo_laws.specs.Counting.{counts_of}
use Rattle.solo_laws.specs.Courses.{Acts, Leads, Makes, cancels, copies as copies_it, detaches, drops_handle, ends_closed, ends_given}
use Rattle.solo_laws.specs.Courses.{gives, leads, leaks, looks, loses, makes, makes_no_run, makes_no_tick, makes_run, makes_tick}
use Rattle.solo_laws.specs.Courses.{over_dropped, over_polled, own_ready, pends, polls, refuses, releases, run_dropped, run_drops}
use Rattle.solo_laws.specs.Courses.{run_goes_on, run_leaves, run_looks, run_loses, run_polled, spawns, stays, takes, tick_leaves}
use Rattle.solo_laws.specs.Courses.{tick_lies_refused, tick_refused, tick_rests, tick_takes, uses, wakes as wakes_it}
use Rattle.solo_laws.specs.Owner.{HasRunner, Owner, new_owner, taken_by_run}
use Rattle.solo_laws.specs.Road.{wakes}
use Rattle.solo_laws.specs.RunGoing.{IsEnding, RunsOn, Searches, Stage, code_at, drop_ends, gives_way, in_try, is_refused, lies_refused}
use Rattle.solo_laws.specs.RunGoing.{looks_on, loss_ends, poll_ends, rests, robs_another, takes_common, takes_own}
use Rattle.solo_laws.specs.Numbered.{ticker_of}
use Rattle.solo_laws.specs.RunResting.{run_rest_answer}
use Rattle.solo_laws.specs.RunTaking.{searched_further, wake_shows}
use Rattle.solo_laws.specs.Ticking.{found_in, tick_shows}
use Rattle.solo_laws.specs.Walking.{searched_none}
use Rattle.solo_laws.specs.Running.{drain_shows, more_left, told_left}
use Rattle.solo_laws.specs.Shown.{call_shows, cancel_shows, detach_shows, drop_shows, end_shows, found_as, leak_shows, loses_or}
use Rattle.solo_laws.specs.Shown.{answer_in, ended_in, polled_as, rings, rings_of, rings_without}
use Rattle.solo_laws.specs.Tabled.{named}
use Rattle.solo_laws.proofs.Showing.Courses.{Known, leads_alike, new_known}
use Rattle.two_roads.specs.InOrder.{handed, handed_with, polls_in}

module _ {T A : Type 0} where
  polls_both : (xs ys : List (Event T A)) → polls_in (xs ++ ys) ≡ polls_in xs ++ polls_in ys
  polls_both [] ys = refl
  polls_both (Polls f ∷ xs) ys = ap (λ l. f ∷ l) (polls_both xs ys)
  polls_both (Drops f ∷ xs) ys = polls_both xs ys
  polls_both (Loses v ∷ xs) ys = polls_both xs ys
  polls_both (Calls w ∷ xs) ys = polls_both xs ys
  polls_both (Answers a ∷ xs) ys = polls_both xs ys

  both_none : (xs ys : List (Event T A)) → polls_in xs ≡ [] → polls_in ys ≡ [] → polls_in (xs ++ ys) ≡ []
  both_none xs ys one two = polls_both xs ys ∙ (ap (λ l. l ++ polls_in ys) one ∙ two)

  first_none : (xs ys : List (Event T A)) → polls_in (xs ++ ys) ≡ [] → polls_in xs ≡ []
  first_none xs ys none = by (polls_in xs) (sym (polls_both xs ys) ∙ none)
    where
      by : (l : List ℕ) → l ++ polls_in ys ≡ [] → l ≡ []
      by [] is = refl
      by (f ∷ l) is = absurd cc

  pick_none : (b : Bool) (xs ys : List (Event T A)) → polls_in xs ≡ [] → polls_in ys ≡ [] → polls_in (choose b xs ys) ≡ []
  pick_none true xs ys one two = one
  pick_none false xs ys one two = two

module _ (T : Type 0) {X : Type 0} where
  ring_none : (o : Option X) → polls_in (rings {T = T} o) ≡ []
  ring_none None = refl
  ring_none (Some x) = refl

module _ {T X : Type 0} where
  rings_none : (o : Option X) (es : List (Event T (SoloWaker X))) → polls_in es ≡ [] → polls_in (rings o ++ es) ≡ []
  rings_none None es none = none
  rings_none (Some x) es none = none

module _ {T X : Type 0} where
  abbrev tries : Call T (SoloWaker X) → Bool
  tries calls.TryTick = true
  tries _ = false

  not_try : (r : ℕ) (call : Call T (SoloWaker X)) (codes : List (Code T (SoloWaker X))) → leaves_to r call codes ≡ true → tries call ≡ false
  not_try r calls.TryTick codes may = sym may
  not_try r calls.Ends codes may = refl
  not_try r _ codes may = refl

  loses_none : (o : Option T) (es : List (Event T (SoloWaker X))) → polls_in es ≡ [] → polls_in (loses_or o es) ≡ []
  loses_none None es none = none
  loses_none (Some v) es none = refl

  or_none : (o : Option Lent) (es : List (Event T (SoloWaker X))) → polls_in es ≡ []
      → polls_in (or o (λ lent. Drops lent.task.number ∷ []) es) ≡ []
  or_none None es none = none
  or_none (Some lent) es none = refl

module _ {F T X : Type 0} where
  of_none : (o : Option (SoloWaker X)) (s : Solo F T X) (es : List (Event T (SoloWaker X))) → polls_in es ≡ []
      → polls_in (rings_of o s ++ es) ≡ []
  of_none None s es none = none
  of_none (Some (Outside x)) s es none = none
  of_none (Some (OfTask t)) s es none = rings_none (solo.wake_and_release_answer t s).sleeper es none

  without_none : (o : Option (SoloWaker X)) (s : Solo F T X) (es : List (Event T (SoloWaker X))) → polls_in es ≡ []
      → polls_in (rings_without o s ++ es) ≡ []
  without_none None s es none = none
  without_none (Some (Outside x)) s es none = none
  without_none (Some (OfTask t)) s es none = rings_none (solo.release_answer t s).sleeper es none

  cancel_none : (t : Task) (s : Solo F T X) (es : List (Event T (SoloWaker X))) → polls_in es ≡ [] → polls_in (cancel_shows t s es) ≡ []
  cancel_none t s es none =
      rings_none (solo.cancel_answer t s).sleeper (rings_of (solo.cancel_answer t s).awaiter (solo.cancelled t s) ++ es)
      (of_none (solo.cancel_answer t s).awaiter (solo.cancelled t s) es none)

  detach_none : (t : Task) (s : Solo F T X) → polls_in (detach_shows t s) ≡ []
  detach_none t s =
      rings_none (solo.detach_answer t s).sleeper (loses_or (solo.detach_answer t s).output (Answers Done ∷ []))
      (loses_none (solo.detach_answer t s).output (Answers Done ∷ []) refl)

  leak_none : (n : ℕ) (s : Solo F T X) → polls_in (leak_shows n s) ≡ []
  leak_none zero s = refl
  leak_none (suc n) s =
      rings_none (or (closing.leak_answer s) (λ told. told.sleeper) None) (leak_shows n (closing.leak_woken s))
      (leak_none n (closing.leak_woken s))

  end_none : (by : Taker (SoloWaker X)) (out : Owed F T X) → polls_in (end_shows by out) ≡ []
  end_none by out =
      or_none out.rest (rings out.sleeper ++ Answers (answer_in by) ∷ [])
      (rings_none out.sleeper (Answers (answer_in by) ∷ []) refl)

  drop_none : (by : Taker (SoloWaker X)) (out : Owed F T X) (s : Solo F T X) → polls_in (drop_shows by out s) ≡ []
  drop_none by out s =
      let more = call_shows out.awaiter (Some by) (lets_go out.old s) in
      rings_none out.sleeper (loses_or out.output (rings_without out.old s ++ more))
      (loses_none out.output (rings_without out.old s ++ more)
      (without_none out.old s more
      (of_none out.awaiter (lets_go out.old s) (Answers (ended_in (Some by)) ∷ []) refl)))

  drain_none : (n : ℕ) (leaving : Leaving) (s : Solo F T X) → polls_in (drain_shows n leaving s) ≡ []
  drain_none zero leaving s = refl
  drain_none (suc n) leaving s =
      rings_none (told_left (runs.drain_answer leaving s)).sleeper
      (or (more_left (runs.drain_answer leaving s)) (λ more. drain_shows n more (runs.drained leaving s)) [])
      (each (more_left (runs.drain_answer leaving s)) (λ more. drain_none n more (runs.drained leaving s)))
    where
      each : (o : Option Leaving) → ((more : Leaving) → polls_in (drain_shows n more (runs.drained leaving s)) ≡ [])
          → polls_in (or o (λ more. drain_shows n more (runs.drained leaving s)) []) ≡ []
      each None next = refl
      each (Some more) next = next more

  -- a call that isn't a try shows no poll
  makes_none : (its : ℕ → Lent) (c : Choice) (s z : Solo F T X) (p : Plain T (SoloWaker X)) (call : Call T (SoloWaker X))
      (shown : List (Event T (SoloWaker X))) → tries call ≡ false → Makes its c s p call shown z → polls_in shown ≡ []
  makes_none its c s z p call shown untried (spawns mark future spawned z' how is granted life few) =
      rings_none spawned.told.sleeper (Answers Made ∷ []) refl
  makes_none its c s z p call shown untried (refuses mark future refused z' how fits) = refl
  makes_none its c s z p call shown untried (takes first life) = absurd cc
  makes_none its c s z p call shown untried looks = refl
  makes_none its c s z p call shown untried (wakes_it f at life) =
      rings_none (solo.wake_answer (named its f) s).sleeper (Answers Done ∷ []) refl
  makes_none its c s z p call shown untried (uses f at life) =
      rings_none (solo.wake_and_release_answer (named its f) s).sleeper (Answers Done ∷ []) refl
  makes_none its c s z p call shown untried (releases f at life) =
      rings_none (solo.release_answer (named its f) s).sleeper (Answers Done ∷ []) refl
  makes_none its c s z p call shown untried (copies_it f at says) = refl
  makes_none its c s z p call shown untried (polls f w at handle names life) =
      let t = named its f in
      let y = copies w s in
      let xs : List (Event T (SoloWaker X)) =
      rings_without (replaced_by (solo.poll_answer t w y)) (solo.polled t w y) ++ Answers Pending ∷ [] in
      pick_none (solo.must_wait t s) (choose (is_granted c.refusal) xs (Answers NoMemory ∷ []))
      (Answers (polled_as (solo.poll_answer t w s)) ∷ [])
      (pick_none (is_granted c.refusal) xs (Answers NoMemory ∷ [])
      (without_none (replaced_by (solo.poll_answer t w y)) (solo.polled t w y) (Answers Pending ∷ []) refl) refl) refl
  makes_none its c s z p call shown untried (cancels f at life) = cancel_none (named its f) s (Answers Done ∷ []) refl
  makes_none its c s z p call shown untried (detaches f at life) = detach_none (named its f) s
  makes_none its c s z p call shown untried (drops_handle f at life) =
      cancel_none (named its f) s (detach_shows (named its f) (cancelled (named its f) s))
      (detach_none (named its f) (cancelled (named its f) s))
  makes_none its c s z p call shown untried (leaks owned life) =
      both_none (leak_shows (length s.table.entries) (closing.leaked s)) (Answers Done ∷ [])
      (leak_none (length s.table.entries) (closing.leaked s)) refl
  makes_none its c s z p call shown untried (pends f by rest future one stands_in life) =
      end_none by (solo.settle_pending_answer (its f) future s)
  makes_none its c s z p call shown untried (gives f by rest v stands_in) = refl
  makes_none its c s z p call shown untried (ends_given f v by rest one stands_in life) =
      drop_none by (solo.settle_ready_answer (its f) v s) (solo.settled_ready (its f) v s)
  makes_none its c s z p call shown untried (ends_closed f by rest one stands_in life) =
      drop_none by (solo.finish_answer (its f) s) (solo.finished (its f) s)
  makes_none its c s z p call shown untried (loses awaiter by rest one stands_in life) =
      of_none awaiter s (Answers (ended_in by) ∷ []) refl

  wake_none : (v : SoloWaker X) (s : Solo F T X) → polls_in (wake_shows v s ++ Answers Pending ∷ []) ≡ []
  wake_none (OfTask t) s = rings_none (solo.wake_answer t s).sleeper (Answers Pending ∷ []) refl
  wake_none (Outside x) s = refl

-- a run that goes on shows none, or takes one whose poll is shown last
data Shows {T X : Type 0} (runner : Runner) (owner : Owner) : List (Event T (SoloWaker X)) → Owner → Type 0 where
  shows_none : (es : List (Event T (SoloWaker X))) (now : Owner) → polls_in es ≡ [] → Shows runner owner es now
  shows_one : (xs : List (Event T (SoloWaker X))) (f : ℕ) → polls_in xs ≡ []
      → Shows runner owner (xs ++ Polls f ∷ []) (taken_by_run runner owner)

module _ {F : Type 0} (T : Type 0) {X : Type 0} (runner : Runner) (owner : Owner) where
  found_show : (o : Option X) (found : Found F)
      → Shows {T = T} runner owner (rings o ++ found_as found) (taken_by_run runner owner)
  found_show o Nothing = shows_none (rings o ++ Answers No ∷ []) (taken_by_run runner owner) (rings_none o (Answers No ∷ []) refl)
  found_show o (FoundPoll lent future) = shows_one (rings o) lent.task.number (ring_none T o)
  found_show o (FoundDrop lent future) =
      shows_none (rings o ++ Drops lent.task.number ∷ []) (taken_by_run runner owner) (rings_none o (Drops lent.task.number ∷ []) refl)
  found_show o Gone = shows_none (rings o ++ []) (taken_by_run runner owner) (rings_none o [] refl)

  tick_show : (out : Ticked F X) → Shows {T = T} runner owner (tick_shows out) (taken_by_run runner owner)
  tick_show out = found_show out.sleeper (found_in out.look)

module _ {F T X : Type 0} (its : ℕ → Lent) (owner : Owner) (c : Choice) (runner : Runner) (w : SoloWaker X) where
  searches_show : (s : Solo F T X) (p : Plain T (SoloWaker X)) (shown : List (Event T (SoloWaker X)))
      (now : Owner) (z : Solo F T X) → Searches its owner c runner w s p shown now z → Shows runner owner shown now
  searches_show s p shown now z (takes_own start task first keeps_are life) =
      tick_show T runner owner
      (runs.found_answer runner (ticker_of owner.number (ARun runner.number) p.lying) None task false
      (steals.own_popped runner.number s)).ticked
  searches_show s p shown now z (takes_common start task first found turn keeps_are life) =
      tick_show T runner owner
      (runs.found_answer runner (ticker_of owner.number (ARun runner.number) p.lying) None task false
      (searched_further runner.number s)).ticked
  searches_show s p shown now z (robs_another start task first found turn finds robs moves keeps_are life) =
      tick_show T runner owner
      (runs.found_answer runner (ticker_of owner.number (ARun runner.number) p.lying) None task false
      (steals.walked runner.number start (searched_none runner.number s))).ticked
  searches_show s p shown now z (rests first second missed turn granted names more life) =
      shows_none shown now
      (rings_none (run_rest_answer runner.number first second (ticker_of owner.number (ARun runner.number) p.lying) w s).sleeper
      (Answers Pending ∷ []) refl)
  searches_show s p shown now z (is_refused start missed turn refused) = shows_none shown now refl
  searches_show s p shown now z (lies_refused first second missed turn refused names again more life) =
      shows_none shown now refl

  runs_on_show : (s : Solo F T X) (p : Plain T (SoloWaker X)) (shown : List (Event T (SoloWaker X))) (now : Owner) (z : Solo F T X)
      → RunsOn its owner c runner w s p shown now z → Shows runner owner shown now
  runs_on_show s p shown now z (looks_on shown' now' z' goes how) =
      searches_show s p shown' now' z' how
  runs_on_show s p shown now z (gives_way enough names life) = shows_none shown now (wake_none w s)

-- then the run has counted another
counted_on : (n : ℕ) → (n == choose (nat_lt n 63) (n + 1) 0) ≡ false
counted_on n = by (nat_lt n 63) refl
  where
    by : (b : Bool) → nat_lt n 63 ≡ b → (n == choose b (n + 1) 0) ≡ false
    by true less = grind (arith, nat_tests)
    by false enough = grind (arith, enough, nat_tests)

one_more : (runner : Runner) (owner : Owner) → HasRunner runner owner
    → (counts_of owner runner.number == counts_of (taken_by_run runner owner) runner.number) ≡ false
one_more runner owner has_it =
    ap (λ (x : Runner). x.counted == counts_of (taken_by_run runner owner) runner.number) has_it
    ∙ (ap (λ b. runner.counted == (cond b (runs.taken (runs.counted runner)) (owner.runner runner.number)).counted)
    (is_itself runner.number)
    ∙ counted_on runner.counted)

-- of one call
data Polled1 {T X : Type 0} (r : ℕ) (before now : Owner) : List (Event T (SoloWaker X)) → Type 0 where
  polls_none : (es : List (Event T (SoloWaker X))) → polls_in es ≡ [] → Polled1 r before now es
  polls_one : (xs : List (Event T (SoloWaker X))) (f : ℕ) → polls_in xs ≡ [] → (counts_of before r == counts_of now r) ≡ false
      → Polled1 r before now (xs ++ Polls f ∷ [])

never : {X : Type 0} → false ≡ true → X
never is = absurd cc

module _ {T X : Type 0} (r : ℕ) where
  from_shows : (runner : Runner) (owner : Owner) → (r == runner.number) ≡ true → HasRunner runner owner → (now : Owner)
      (shown : List (Event T (SoloWaker X))) → Shows runner owner shown now → Polled1 r owner now shown
  from_shows runner owner is has_it now shown (shows_none es now' none) = polls_none es none
  from_shows runner owner is has_it now shown (shows_one xs f none) =
      polls_one xs f none
      (subst (λ k. (counts_of owner k == counts_of (taken_by_run runner owner) k) ≡ false) (sym (same_number r runner.number is))
      (one_more runner owner has_it))

  behind : (before now : Owner) (xs ys : List (Event T (SoloWaker X))) → polls_in xs ≡ [] → Polled1 r before now ys
      → Polled1 r before now (xs ++ ys)
  behind before now xs ys none (polls_none es nothing) = polls_none (xs ++ es) (both_none xs es none nothing)
  behind before now xs ys none (polls_one zs f nothing more) =
      subst (λ es. Polled1 r before now es) (assoc xs zs (Polls f ∷ [])) (polls_one (xs ++ zs) f (both_none xs zs none nothing) more)

  here_so : (stage : Stage T (SoloWaker X)) (k : ℕ) (w : SoloWaker X) (rest : List (Code T (SoloWaker X))) (call : Call T (SoloWaker X))
      → IsEnding stage call → leaves_to r call (code_at stage (Run k w) ∷ rest) ≡ true → ((r == k) ≡ true) × (tries call ≡ false)
  here_so stage k w rest call (poll_ends f) may = (may, refl)
  here_so stage k w rest call (drop_ends f end) may = (may, refl)
  here_so stage k w rest call (loss_ends awaiter) may = (may, refl)

  ends_no_try : (stage : Stage T (SoloWaker X)) (call : Call T (SoloWaker X)) → IsEnding stage call → tries call ≡ false
  ends_no_try stage call (poll_ends f) = refl
  ends_no_try stage call (drop_ends f end) = refl
  ends_no_try stage call (loss_ends awaiter) = refl

part_none : {A : Type 0} (ys : List A) → IsPart [] ys
part_none [] = no_more
part_none (y ∷ ys) = lacks y [] ys (part_none ys)

part_both : {A : Type 0} (xs ys us vs : List A) → IsPart xs ys → IsPart us vs → IsPart (xs ++ us) (ys ++ vs)
part_both xs ys us vs no_more two = two
part_both xs ys us vs (has x xs' ys' one) two = has x (xs' ++ us) (ys' ++ vs) (part_both xs' ys' us vs one two)
part_both xs ys us vs (lacks y xs' ys' one) two = lacks y (xs' ++ us) (ys' ++ vs) (part_both xs' ys' us vs one two)

module _ {T X : Type 0} where
  abbrev every : Plain T (SoloWaker X) → List ℕ → List ℕ
  every q fs = fs

module _ {T X : Type 0} (its : ℕ → Lent) (r : ℕ) where
  one_part : (before now : Owner) (seen shown : List (Event T (SoloWaker X))) (q : Plain T (SoloWaker X)) → Polled1 r before now shown
      → IsPart (map (named its) (polls_in shown)) (handed_with its r every before now (seen ++ shown) q)
  one_part before now seen shown q (polls_none es none) =
      subst (λ l. IsPart (map (named its) l) (handed_with its r every before now (seen ++ es) q)) (sym none)
      (part_none (handed_with its r every before now (seen ++ es) q))
  one_part before now seen shown q (polls_one xs f none more) =
      let last : last_begun (seen ++ (xs ++ Polls f ∷ [])) ≡ f ∷ [] =
      ap (λ es. last_begun es) (sym (assoc seen xs (Polls f ∷ []))) ∙ last_of (seen ++ xs) (Polls f) in
      subst (λ l. IsPart (map (named its) l) (handed_with its r every before now (seen ++ (xs ++ Polls f ∷ [])) q))
      (sym (polls_both xs (Polls f ∷ []) ∙ ap (λ l. l ++ f ∷ []) none))
      (subst (λ l. IsPart (named its f ∷ []) (map (named its) l))
      (sym (ap (λ b. cond b [] (last_begun (seen ++ (xs ++ Polls f ∷ [])))) more ∙ last))
      (has (named its f) [] [] no_more))

module _ {F T X : Type 0} (its : ℕ → Lent) (r : ℕ) where
  acts_show : (owner : Owner) (c : Choice) (s : Solo F T X) (p : Plain T (SoloWaker X)) (now : Owner) (z : Solo F T X)
      (call : Call T (SoloWaker X)) (shown : List (Event T (SoloWaker X))) → leaves_to r call p.inside ≡ true
      → Acts its owner c s p call shown now z → Polled1 r owner now shown
  acts_show owner c s p now z call shown may (makes call' shown' z' how) =
      polls_none shown' (makes_none its c s z' p call' shown' (not_try r call' p.inside may) how)
  acts_show owner c s p now z call shown may (makes_tick t new granted) = polls_none shown refl
  acts_show owner c s p now z call shown may (tick_takes t w task lives found first life) = never may
  acts_show owner c s p now z call shown may (tick_rests t w lives none first granted names more life) = never may
  acts_show owner c s p now z call shown may (makes_run granted few) = polls_none shown refl
  acts_show owner c s p now z call shown may (makes_no_run refused) = polls_none shown refl
  acts_show owner c s p now z call shown may (run_polled runner w going free) = polls_none shown refl
  acts_show owner c s p now z call shown may (over_polled k w over) = polls_none shown refl
  acts_show owner c s p now z call shown may (own_ready k w v rest stands_in) = polls_none shown refl
  acts_show owner c s p now z call shown may (run_looks runner w rest shown' now' z' its_runner is how) =
      from_shows r runner owner (sym (ap (λ cs. innermost_leads_to r cs) is) ∙ may) its_runner now' shown'
      (searches_show its owner c runner w s (record p { inside = rest }) shown' now' z' how)
  acts_show owner c s p now z call shown may
      (run_goes_on stage runner w rest call' first others now' y z' o is ends how on) =
      let tried = in_try stage rest p in
      let here = here_so r stage runner.number w rest call' ends (subst (λ cs. leaves_to r call' cs ≡ true) is may) in
      let none =
      first_none first (Answers Yes ∷ []) (makes_none its c s y tried call' (first ++ Answers Yes ∷ []) here.1 how) in
      behind r owner now' first others none
      (from_shows r runner owner here.0 o now' others
      (runs_on_show its owner c runner w y (record (does wakes c call' tried) { events = p.events ++ first }) others now' z' on))
  acts_show owner c s p now z call shown may (run_drops stage k w rest call' first f z' is ends how) =
      polls_none shown (makes_none its c s z' (in_try stage rest p) call' (first ++ Drops f ∷ []) (ends_no_try r stage call' ends) how)
  acts_show owner c s p now z call shown may (run_loses stage k w rest call' first v z' is ends how) =
      polls_none shown (makes_none its c s z' (in_try stage rest p) call' (first ++ Loses v ∷ []) (ends_no_try r stage call' ends) how)
  acts_show owner c s p now z call shown may (run_dropped k going free) = polls_none shown refl
  acts_show owner c s p now z call shown may (over_dropped k over) = polls_none shown refl
  acts_show owner c s p now z call shown may (run_leaves runner answer rest stands_in life) =
      let ticker = ticker_of owner.number (ARun runner.number) p.lying in
      polls_none shown
      (both_none (drain_shows (suc (count_of_own runner.number s.runs)) (runs.leave_answer runner ticker s) (runs.left runner s))
      (Answers answer ∷ [])
      (drain_none (suc (count_of_own runner.number s.runs)) (runs.leave_answer runner ticker s) (runs.left runner s)) refl)
  acts_show owner c s p now z call shown may (makes_no_tick refused) = polls_none shown refl
  acts_show owner c s p now z call shown may (tick_refused t w lives none first refused) = never may
  acts_show owner c s p now z call shown may (tick_lies_refused t w lives none first refused names again more life) = never may
  acts_show owner c s p now z call shown may (tick_leaves t lives life) =
      polls_none shown
      (rings_none (ticks.leave_answer (ticker_of owner.number (ATick t) p.lying) s).told.sleeper (Answers Done ∷ []) refl)

  all_part : (cs : List (Choice × Call T (SoloWaker X))) (before after : Owner) (s z : Solo F T X) (p : Plain T (SoloWaker X))
      (shown seen : List (Event T (SoloWaker X))) → Known its before s p → takes_alone wakes r cs p ≡ true
      → (on : Leads its cs before s p shown after z) → IsPart (map (named its) (polls_in shown)) (handed its r every seen on)
  all_part cs before after s z p shown seen known may (stays owner s' p') = no_more
  all_part cs before after s z p shown seen known may (leads c call rest begun now later s' y z' p' some others many acts how) =
      let q = does wakes c call p' in
      let both = both_true (leaves_to r call p'.inside) (takes_alone wakes r rest q) may in
      let one =
      leads_alike its ((c, call) ∷ []) begun now s' y p' (some ++ []) known
      (leads c call [] begun now now s' y y p' some [] many acts (stays now y q)) in
      let first = one_part its r begun now seen some q (acts_show begun c s' p' now y call some both.0 acts) in
      subst (λ l. IsPart l (handed_with its r every begun now (seen ++ some) q ++ handed its r every (seen ++ some) how))
      (sym (ap (map (named its)) (polls_both some others) ∙ map_both (named its) (polls_in some) (polls_in others)))
      (part_both (map (named its) (polls_in some)) (handed_with its r every begun now (seen ++ some) q) (map (named its) (polls_in others))
      (handed its r every (seen ++ some) how) first (all_part rest now later y z' q others (seen ++ some) one.0 both.1 how))

  pub polls_part : (limit : ℕ) (kind : Kind) (is_static : Bool) (calls_before cs : List (Choice × Call T (SoloWaker X)))
      (first middle last : Solo F T X) (shown others : List (Event T (SoloWaker X))) (number : Who → ℕ) (before after : Owner)
      → IsNew limit kind first → counts kind ≡ not is_static
      → Leads its calls_before (new_owner number) first (new limit is_static) shown before middle
      → (on : Leads its cs before middle (course wakes calls_before (new limit is_static)) others after last)
      → takes_alone wakes r cs (course wakes calls_before (new limit is_static)) ≡ true
      → IsPart (map (named its) (polls_in others)) (handed its r every shown on)
  polls_part limit kind is_static calls_before cs first middle last shown others number before after is_new counted led on may =
      let known =
      leads_alike its calls_before (new_owner number) before first middle (new limit is_static) shown
      (new_known its number limit kind is_static first is_new counted) led in
      all_part cs before after middle last (course wakes calls_before (new limit is_static)) others shown known.0 may on
