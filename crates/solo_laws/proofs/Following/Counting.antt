-- A run counts what it takes as the plain scheduler's run does, and both let others go first at the same.
use Rattle.std.proofs.Common.{◌≡◌, ℕ, zero, suc, ◌+◌, ◌<◌, ◌==◌, nat_lt, not, if◌then◌else◌, Bool, true, false, List, [], ◌∷◌, ◌++◌}
use Rattle.std.proofs.Common.{count_by, find, map, Option, Some, None, slice_get, slice_set, refl, sym, ap, subst, ◌∙◌, arith}
use Rattle.std.proofs.lemmas.Bool.Decides.{nat_tests}
use Rattle.task_moves.specs.AbstractTask as abstract
use Rattle.solo.specs.declared.names.SoloWaker.{SoloWaker}
use Rattle.solo.specs.Cells.{choose}
use Rattle.plain_scheduler.specs.State.{AtOnce, ARun, ATick, Calls, Choice, Closed, Due, Granted, Later, Lying, Plain, Poll}
use Rattle.plain_scheduler.specs.State.{Polls, Refusal, Run, Running, Taker, Tick, Try, Who}
use Rattle.plain_scheduler.specs.Lists.{each, on, or, repeat, without}
use Rattle.plain_scheduler.specs.Moves.{appended, chosen, copied, enters, given_back, is_called, is_common, is_kept, keeps, leaves}
use Rattle.plain_scheduler.specs.Moves.{let_go, lies, looks, put, see, task, tell, up, wake}
use Rattle.plain_scheduler.specs.Moves as moves
use Rattle.plain_scheduler.specs.Takes as takes
use Rattle.plain_scheduler.specs.Calls as calls
use Rattle.solo_laws.specs.Road.{wakes}
use Rattle.solo_laws.specs.RunCounting.{RunsCount, RunsCountAnew}
use Rattle.solo_laws.specs.RunGoing.{taken_by}
use Rattle.solo_laws.specs.Tabled.{goes_on}
use Rattle.solo_laws.proofs.Following.Cells.{same_number}
use Rattle.solo_laws.proofs.Following.Frames.{becomes_still, copied_still, let_go_still, put_still, tell_still}
use Rattle.solo_laws.proofs.Following.Lists.{set_other, set_same}
use Rattle.solo_laws.proofs.Following.Numbers.{turn}

abbrev taken_in : Option Running → ℕ
taken_in o = or o (λ run. run.taken) 0

module _ {T X : Type 0} (c : Choice) where
  abbrev Still : (Plain T (SoloWaker X) → Plain T (SoloWaker X)) → Type 0
  Still does = (p : Plain T (SoloWaker X)) → (does p).runs ≡ p.runs

  keeps_still : (r : ℕ) (test : Due → Bool) → Still (keeps r test)
  keeps_still r test p = by (nat_lt (count_by (is_kept r) p.due) 512) (find test p.due)
    where
      by : (b : Bool) (o : Option Due)
          → (if b then on o (λ d p. record p { due = without test p.due ++ record d { keeper = Some r } ∷ [] }) p else p).runs ≡ p.runs
      by true None = refl
      by true (Some d) = refl
      by false o = refl

  repeat_still : (n : ℕ) (does : Plain T (SoloWaker X) → Plain T (SoloWaker X)) → Still does → Still (repeat n does)
  repeat_still zero does still p = refl
  repeat_still (suc n) does still p = repeat_still n does still (does p) ∙ still p

  each_still : {B : Type 0} (does : B → Plain T (SoloWaker X) → Plain T (SoloWaker X)) → ((b : B) → Still (does b)) → (bs : List B)
      → Still (each bs does)
  each_still does still [] p = refl
  each_still does still (b ∷ bs) p = each_still does still bs (does b p) ∙ still b p

  robbed_still : (r : ℕ) (keeper : Option ℕ) → Still (takes.robbed wakes c r keeper)
  robbed_still r None p = refl
  robbed_still r (Some k) p = by (r == k)
    where
      by : (b : Bool) → (if b then p else repeat c.moves (keeps r (is_kept k)) p).runs ≡ p.runs
      by true = refl
      by false = repeat_still c.moves (keeps r (is_kept k)) (keeps_still r (is_kept k)) p

  up_still : (who : Who) → Still (up wakes c who)
  up_still who p = by (find (lies who) p.lying)
    where
      waker : (o : Option (SoloWaker X)) (p : Plain T (SoloWaker X)) → (on o (let_go wakes (tell wakes c)) p).runs ≡ p.runs
      waker None p = refl
      waker (Some w) p = (let_go_still c (tell wakes c) (tell_still c) w p).runs

      by : (o : Option (Lying (SoloWaker X)))
          → (on o (λ l p. on l.waker (let_go wakes (tell wakes c)) (record p { lying = without (lies who) p.lying })) p).runs ≡ p.runs
      by None = refl
      by (Some l) = waker l.waker (record p { lying = without (lies who) p.lying })

  run_still : (f : ℕ) (by : Taker (SoloWaker X)) → Still (takes.run wakes c f by)
  run_still f by p = by_closed (task f p).closed
    where
      by_closed : (b : Bool)
          → (if b
          then takes.dropping wakes c f Closed by p
          else enters (Poll f by) (see (Polls f) (put f (abstract.begin_run (task f p)) p))).runs ≡ p.runs
      by_closed true = refl
      by_closed false = (put_still c f (abstract.begin_run (task f p)) p).runs

  -- one more is counted
  changed_by : (r : ℕ) (h : Running → Running) (p : Plain T (SoloWaker X)) → goes_on r p ≡ true
      → (run : Running) × (slice_get p.runs r ≡ Some run) × (slice_get (moves.runs h r p).runs r ≡ Some (h run))
  changed_by r h p going = by (slice_get p.runs r) refl going
    where
      by : (o : Option Running) → slice_get p.runs r ≡ o → or o (λ run. not run.is_over) false ≡ true
          → (run : Running) × (o ≡ Some run)
          × (slice_get (on o (λ run p. record p { runs = slice_set p.runs r (h run) }) p).runs r ≡ Some (h run))
      by None is off = absurd cc
      by (Some run) is going = (run, refl, set_same p.runs r (h run) run is)

  counts : (r : ℕ) (w : SoloWaker X) (d : Due) (p : Plain T (SoloWaker X)) → goes_on r p ≡ true
      → taken_by r (takes.takes wakes c (Run r w) d p) ≡ taken_by r p + 1
  counts r w d p going =
      let a = takes.robbed wakes c r d.keeper p in
      let b = up wakes c (ARun r) a in
      let e = takes.kept wakes c r (tell wakes c b) in
      let same : e.runs ≡ p.runs =
      each_still (λ mark. keeps r (is_common mark)) (λ mark. keeps_still r (is_common mark)) c.keeps (tell wakes c b)
      ∙ ((tell_still c b).runs ∙ (up_still (ARun r) a ∙ robbed_still r d.keeper p)) in
      let goes : goes_on r e ≡ true = ap (λ rs. or (slice_get rs r) (λ run. not run.is_over) false) same ∙ going in
      let it = changed_by r (λ run. record run { taken = run.taken + 1 }) e goes in
      ap (λ rs. taken_in (slice_get rs r)) (run_still d.future (Run r w) (takes.counted wakes c r e))
      ∙ (ap taken_in it.2
      ∙ ap (λ n. n + 1) (sym (ap taken_in it.1) ∙ ap (λ rs. taken_in (slice_get rs r)) same))

  -- that of another run stays
  other_by : (r k : ℕ) → (k == r) ≡ false → (h : Running → Running) (p : Plain T (SoloWaker X))
      → taken_by k (moves.runs h r p) ≡ taken_by k p
  other_by r k away h p = by (slice_get p.runs r)
    where
      by : (o : Option Running)
          → taken_by k (on o (λ run p. record p { runs = slice_set p.runs r (h run) }) p) ≡ taken_by k p
      by None = refl
      by (Some run) = ap taken_in (set_other p.runs r k (h run) (turn k r away))

  of_runs : (k : ℕ) (p q : Plain T (SoloWaker X)) → q.runs ≡ p.runs → taken_by k q ≡ taken_by k p
  of_runs k p q same = ap (λ rs. taken_in (slice_get rs k)) same

  -- as one is taken
  pub others_count : (r k : ℕ) → (k == r) ≡ false → (w : SoloWaker X) (d : Due) (p : Plain T (SoloWaker X))
      → taken_by k (takes.takes wakes c (Run r w) d p) ≡ taken_by k p
  others_count r k away w d p =
      let a = takes.robbed wakes c r d.keeper p in
      let b = up wakes c (ARun r) a in
      let e = takes.kept wakes c r (tell wakes c b) in
      let same : e.runs ≡ p.runs =
      each_still (λ mark. keeps r (is_common mark)) (λ mark. keeps_still r (is_common mark)) c.keeps (tell wakes c b)
      ∙ ((tell_still c b).runs ∙ (up_still (ARun r) a ∙ robbed_still r d.keeper p)) in
      of_runs k (takes.counted wakes c r e) (takes.run wakes c d.future (Run r w) (takes.counted wakes c r e))
      (run_still d.future (Run r w) (takes.counted wakes c r e))
      ∙ (other_by r k away (λ run. record run { taken = run.taken + 1 }) e ∙ of_runs k p e same)

  -- a try or a tick counts none
  pub takes_still : (t : ℕ) (w : SoloWaker X) (d : Due) → Still (takes.takes wakes c (Tick t w) d)
  takes_still t w d p =
      let a = up wakes c (ATick t) p in
      run_still d.future (Tick t w) (tell wakes c a) ∙ ((tell_still c a).runs ∙ up_still (ATick t) p)

  lies_still : (who : Who) (w : SoloWaker X) → Still (takes.lies_down wakes c who w)
  lies_still who w p = by (find (lies who) p.lying)
    where
      q : Plain T (SoloWaker X)
      q = copied wakes w p

      copy : q.runs ≡ p.runs
      copy = (copied_still c w p).runs

      waker : (o : Option (SoloWaker X))
          → (or o (λ old. takes.lain_again wakes c who w old q) (takes.lain wakes c who w q)).runs ≡ p.runs
      waker None = copy
      waker (Some old) =
          (let_go_still c (tell wakes c) (tell_still c) old
          (record q { lying = map (λ l. if lies who l then record l { waker = Some w } else l) q.lying })).runs ∙ copy

      by : (o : Option (Lying (SoloWaker X)))
          → (or o (λ l. or l.waker (λ old. takes.lain_again wakes c who w old q) (takes.lain wakes c who w q))
          (takes.lain wakes c who w q)).runs ≡ p.runs
      by None = copy
      by (Some l) = waker l.waker

  rests_still : (refusal : Refusal) (who : Who) (w : SoloWaker X) → Still (takes.rests wakes c refusal who w)
  rests_still Granted who w p = lies_still who w p
  rests_still AtOnce who w p = refl
  rests_still Later who w p = lies_still who w p

  pub nothing_still : (by : Taker (SoloWaker X)) → Still (takes.nothing wakes c by)
  nothing_still Try p = refl
  nothing_still (Tick t w) p = rests_still c.refusal (ATick t) w p
  nothing_still (Run r w) p = rests_still c.refusal (ARun r) w p

  -- who goes counts as before
  pub leaves_still : (who : Who) → Still (leaves wakes c who)
  leaves_still who p = by (find (lies who) p.lying)
    where
      either : (b : Bool) → (if b then tell wakes c (up wakes c who p) else up wakes c who p).runs ≡ p.runs
      either true = (tell_still c (up wakes c who p)).runs ∙ up_still who p
      either false = up_still who p

      by : (o : Option (Lying (SoloWaker X)))
          → (on o (λ l p. if is_called l then tell wakes c (up wakes c who p) else up wakes c who p) p).runs ≡ p.runs
      by None = refl
      by (Some l) = either (is_called l)

  pub gone_counts : (r k : ℕ) (p : Plain T (SoloWaker X)) → taken_by k (calls.gone wakes c r p) ≡ taken_by k p
  gone_counts r k p =
      let over : Running → Running = λ run. record run { is_over = true } in
      let back : Plain T (SoloWaker X) → Plain T (SoloWaker X) = λ p. tell wakes c (given_back r p) in
      let q = moves.runs over r p in
      let n = count_by (is_kept r) p.due in
      of_runs k q (calls.gone wakes c r p)
      (leaves_still (ARun r) (repeat n back q) ∙ repeat_still n back (λ p. (tell_still c (given_back r p)).runs ∙ back_still p) q)
      ∙ over_counts (slice_get p.runs r) refl
    where
      back_still : (p : Plain T (SoloWaker X)) → (given_back r p).runs ≡ p.runs
      back_still p = by (find (is_kept r) p.due)
        where
          by : (o : Option Due) → (on o (λ d p. appended d.future (record p { due = without (is_kept r) p.due })) p).runs ≡ p.runs
          by None = refl
          by (Some d) = refl

      over_counts : (o : Option Running) → slice_get p.runs r ≡ o
          → taken_by k (on o (λ run p. record p { runs = slice_set p.runs r (record run { is_over = true }) }) p) ≡ taken_by k p
      over_counts None is = refl
      over_counts (Some run) is = by (k == r) refl
        where
          by : (b : Bool) → (k == r) ≡ b
              → taken_in (slice_get (slice_set p.runs r (record run { is_over = true })) k) ≡ taken_in (slice_get p.runs k)
          by true one =
              subst
              (λ n. taken_in (slice_get (slice_set p.runs r (record run { is_over = true })) n) ≡ taken_in (slice_get p.runs n))
              (sym (same_number k r one))
              (ap taken_in (set_same p.runs r (record run { is_over = true }) run is) ∙ sym (ap taken_in is))
          by false away = ap taken_in (set_other p.runs r k (record run { is_over = true }) (turn k r away))

  pub way_counts : (r k : ℕ) → (k == r) ≡ false → (w : SoloWaker X) (p : Plain T (SoloWaker X))
      → taken_by k (takes.gives_way wakes c r w p) ≡ taken_by k p
  way_counts r k away w p = by (wakes w)
    where
      z : Plain T (SoloWaker X)
      z = moves.runs (λ run. record run { taken = 0 }) r p

      stays : taken_by k z ≡ taken_by k p
      stays = other_by r k away (λ run. record run { taken = 0 }) p

      by : (o : Option ℕ) → taken_by k (or o (λ f. wake wakes (tell wakes c) f z) (see (Calls w) z)) ≡ taken_by k p
      by None = stays
      by (Some f) =
          ap (λ rs. taken_in (slice_get rs k)) (becomes_still c (tell wakes c) (tell_still c) f (abstract.wake (task f z)) z).runs ∙ stays

  -- a run that is made has taken none
  pub made_counts : (k : ℕ) (p : Plain T (SoloWaker X))
      → taken_by k (record p { runs = p.runs ++ record { taken = 0; is_over = false } ∷ [] }) ≡ taken_by k p
  made_counts k p = by p.runs k
    where
      by : (rs : List Running) (k : ℕ)
          → taken_in (slice_get (rs ++ record { taken = 0; is_over = false } ∷ []) k) ≡ taken_in (slice_get rs k)
      by [] zero = refl
      by [] (suc k) = refl
      by (x ∷ xs) zero = refl
      by (x ∷ xs) (suc k) = by xs k

  pub runs_count : (p : Plain T (SoloWaker X)) → RunsCount c p
  runs_count p r w runner going few counted d finds =
      let rest = by (nat_lt runner.taken 199) refl in (more, rest.0, rest.1)
    where
      left : Plain T (SoloWaker X)
      left = record p { due = without (chosen (looks c (Run r w)) p.due) p.due }

      q : Plain T (SoloWaker X)
      q = takes.take wakes c (Run r w) p

      more : taken_by r q ≡ taken_by r p + 1
      more =
          ap (λ o. taken_by r (or o (λ d. takes.takes wakes c (Run r w) d left) (takes.nothing wakes c (Run r w) p))) finds
          ∙ counts r w d left going

      less : (n : ℕ) → nat_lt n 199 ≡ true → nat_lt (n + 1) 200 ≡ true
      less n is = grind (arith, nat_tests)

      last : (n : ℕ) → nat_lt n 199 ≡ false → n < 200 → nat_lt (n + 1) 200 ≡ false
      last n is below = grind (arith, nat_tests)

      by : (b : Bool) → nat_lt runner.taken 199 ≡ b
          → (nat_lt (taken_by r q) 200 ≡ not (choose b false true))
          × (choose b (runner.taken + 1) 0 ≡ (if nat_lt (taken_by r q) 200 then taken_by r q else 0))
      by true is =
          let on : nat_lt (taken_by r q) 200 ≡ true =
          ap (λ n. nat_lt n 200) (more ∙ ap (λ n. n + 1) (sym counted)) ∙ less runner.taken is in
          (on, ap (λ n. n + 1) counted ∙ (sym more ∙ sym (ap (λ b. if b then taken_by r q else 0) on)))
      by false is =
          let off : nat_lt (taken_by r q) 200 ≡ false =
          ap (λ n. nat_lt n 200) (more ∙ ap (λ n. n + 1) (sym counted)) ∙ last runner.taken is few in
          (off, sym (ap (λ b. if b then taken_by r q else 0) off))

  pub runs_count_anew : (p : Plain T (SoloWaker X)) → RunsCountAnew c p
  runs_count_anew p r w going = by (wakes w)
    where
      z : Plain T (SoloWaker X)
      z = moves.runs (λ run. record run { taken = 0 }) r p

      none : taken_by r z ≡ 0
      none = ap taken_in (changed_by r (λ run. record run { taken = 0 }) p going).2

      by : (o : Option ℕ) → taken_by r (or o (λ f. wake wakes (tell wakes c) f z) (see (Calls w) z)) ≡ 0
      by None = none
      by (Some f) =
          ap (λ rs. taken_in (slice_get rs r)) (becomes_still c (tell wakes c) (tell_still c) f (abstract.wake (task f z)) z).runs ∙ none
