-- What a run that takes does to other runs in the plain scheduler: it counts its own, and of what others keep it only takes away.
use Rattle.std.proofs.Common.{◌≡◌, ℕ, zero, suc, ◌+◌, ◌==◌, nat_lt, Bool, true, false, List, [], ◌∷◌, ◌++◌, cond, map, Option, Some, None}
use Rattle.std.proofs.Common.{slice_get, if◌then◌else◌, refl, ap, ◌∙◌, arith}
use Rattle.std.specs.Prelude.{count_by, filter, find}
use Rattle.executor_parts.specs.declared.mark.Mark.{Mark}
use Rattle.task_moves.specs.AbstractTask as abstract
use Rattle.executor_model.specs.declared.op.Waker.{Waker}
use Rattle.plain_scheduler.specs.State.{ARun, Choice, Closed, Due, Plain, Poll, Polls, Run, Running}
use Rattle.plain_scheduler.specs.Lists.{each, on, or, repeat, without}
use Rattle.plain_scheduler.specs.Moves.{chosen, enters, is_common, is_kept, keeps, looks, moved, put, see, task, tell, up}
use Rattle.plain_scheduler.specs.Takes as plain_takes
use Rattle.machine_roads.specs.View.{Output, wakes}
use Rattle.machine_roads.specs.Road.{futures_in}
use Rattle.machine_roads.proofs.Aside.{rests_keeps, tell_keeps, up_keeps}
use Rattle.machine_roads.proofs.Changing.{futures_append}
use Rattle.machine_roads.proofs.Puts.{put_by}
use Rattle.machine_roads.proofs.Runs.{changed, changed_rest, one_more, runs_is}
use Rattle.machine_roads.proofs.RunsStay.{kept_aside}

-- another keeps nothing
abbrev KeepsNone : ℕ → Plain Output Waker → Type 0
KeepsNone k q = futures_in (is_kept k) q.due ≡ []

none_left : (test other : Due → Bool) (ds : List Due) → futures_in other ds ≡ [] → futures_in other (without test ds) ≡ []
none_left test other [] none = refl
none_left test other (d ∷ ds) none = by (λ none. none_left test other ds none) (test d) (other d) refl none
  where
    by : (futures_in other ds ≡ [] → futures_in other (without test ds) ≡ []) → (b o : Bool) → other d ≡ o
        → map (λ (d : Due). d.future) (cond o (d ∷ filter other ds) (filter other ds)) ≡ []
        → futures_in other (if b then ds else d ∷ without test ds) ≡ []
    by more b true is none = absurd cc
    by more true false is none = none
    by more false false is none =
        ap (λ o. map (λ (d : Due). d.future) (cond o (d ∷ filter other (without test ds)) (filter other (without test ds)))) is
        ∙ more none

module _ (r k : ℕ) (apart : (k == r) ≡ false) where
  keeps_none : (test : Due → Bool) (q : Plain Output Waker) → KeepsNone k q → KeepsNone k (keeps r test q)
  keeps_none test q none = by (nat_lt (count_by (is_kept r) q.due) 512)
    where
      taken : (o : Option Due)
          → KeepsNone k (on o (λ d p. record p { due = without test p.due ++ record d { keeper = Some r } ∷ [] }) q)
      taken None = none
      taken (Some d) =
          let one : Due = record d { keeper = Some r } in
          futures_append (is_kept k) (without test q.due) (one ∷ [])
          ∙ (ap (λ fs. fs ++ futures_in (is_kept k) (one ∷ [])) (none_left test (is_kept k) q.due none)
          ∙ ap (λ b. map (λ (d : Due). d.future) (cond b (one ∷ []) [])) apart)

      by : (b : Bool) → KeepsNone k (if b then moved r test q else q)
      by true = taken (find test q.due)
      by false = none

  repeats_none : (n : ℕ) (test : Due → Bool) (q : Plain Output Waker) → KeepsNone k q → KeepsNone k (repeat n (keeps r test) q)
  repeats_none zero test q none = none
  repeats_none (suc n) test q none = repeats_none n test (keeps r test q) (keeps_none test q none)

  each_none : (ms : List Mark) (q : Plain Output Waker) → KeepsNone k q → KeepsNone k (each ms (λ mark. keeps r (is_common mark)) q)
  each_none [] q none = none
  each_none (m ∷ ms) q none = each_none ms (keeps r (is_common m) q) (keeps_none (is_common m) q none)

  robbed_none : (c : Choice) (o : Option ℕ) (q : Plain Output Waker) → KeepsNone k q → KeepsNone k (plain_takes.robbed wakes c r o q)
  robbed_none c None q none = none
  robbed_none c (Some j) q none = by (r == j)
    where
      by : (b : Bool) → KeepsNone k (if b then q else repeat c.moves (keeps r (is_kept j)) q)
      by true = none
      by false = repeats_none c.moves (is_kept j) q none

  run_none : (c : Choice) (f : ℕ) (a : Waker) (q : Plain Output Waker) → KeepsNone k q → KeepsNone k (plain_takes.run wakes c f (Run r a) q)
  run_none c f a q none = by (task f q).closed
    where
      by : (b : Bool)
          → KeepsNone k (if b then plain_takes.dropping wakes c f Closed (Run r a) q
          else enters (Poll f (Run r a)) (see (Polls f) (put f (abstract.begin_run (task f q)) q)))
      by true = none
      by false = put_by (λ p. futures_in (is_kept k) p.due) f (abstract.begin_run (task f q)) q (λ fs. refl) ∙ none

  -- so with all that it does as it takes one
  pub takes_none : (c : Choice) (a : Waker) (q : Plain Output Waker) → KeepsNone k q → KeepsNone k (plain_takes.take wakes c (Run r a) q)
  takes_none c a q none = by (find test q.due)
    where
      test : Due → Bool
      test = chosen (looks c (Run r a)) q.due

      by : (o : Option Due)
          → KeepsNone k (or o (λ d. plain_takes.takes wakes c (Run r a) d (record q { due = without test q.due }))
          (plain_takes.nothing wakes c (Run r a) q))
      by None = rests_keeps (λ q. futures_in (is_kept k) q.due) (kept_aside k) c c.refusal (ARun r) a q ∙ none
      by (Some d) =
          let q0 : Plain Output Waker = record q { due = without test q.due } in
          let q1 : Plain Output Waker = plain_takes.robbed wakes c r d.keeper q0 in
          let q2 : Plain Output Waker = up wakes c (ARun r) q1 in
          let q3 : Plain Output Waker = tell wakes c q2 in
          let q4 : Plain Output Waker = plain_takes.kept wakes c r q3 in
          let ask : Plain Output Waker → List ℕ = λ q. futures_in (is_kept k) q.due in
          let none1 : KeepsNone k q1 = robbed_none c d.keeper q0 (none_left test (is_kept k) q.due none) in
          let none3 : KeepsNone k q3 =
          tell_keeps ask (kept_aside k) c q2 ∙ (up_keeps ask (kept_aside k) c (ARun r) q1 ∙ none1) in
          run_none c d.future a (plain_takes.counted wakes c r q4)
          (ap (λ (q : Plain Output Waker). futures_in (is_kept k) q.due) (runs_is one_more r q4) ∙ each_none c.keeps q3 none3)

-- one more is counted
pub counted_more : (qs : List Running) (r : ℕ) → or (slice_get qs r) (λ run. run.is_over) true ≡ false
    → or (slice_get (changed one_more r qs) r) (λ run. run.taken) 0 ≡ suc (or (slice_get qs r) (λ run. run.taken) 0)
counted_more [] r going = absurd cc
counted_more (y ∷ ys) zero going = next_one y.taken
  where
    next_one : (n : ℕ) → n + 1 ≡ suc n
    next_one n = omega arith
counted_more (y ∷ ys) (suc r) going =
    ap (λ (rs : List Running). or (slice_get rs (suc r)) (λ run. run.taken) 0) (changed_rest one_more y ys r) ∙ counted_more ys r going

-- and who is over stays so
pub counted_over : (qs : List Running) (r k : ℕ) → or (slice_get (changed one_more r qs) k) (λ run. run.is_over) true
    ≡ or (slice_get qs k) (λ run. run.is_over) true
counted_over [] r k = refl
counted_over (y ∷ ys) zero zero = refl
counted_over (y ∷ ys) zero (suc k) = refl
counted_over (y ∷ ys) (suc r) zero =
    ap (λ (rs : List Running). or (slice_get rs zero) (λ run. run.is_over) true) (changed_rest one_more y ys r)
counted_over (y ∷ ys) (suc r) (suc k) =
    ap (λ (rs : List Running). or (slice_get rs (suc k)) (λ run. run.is_over) true) (changed_rest one_more y ys r) ∙ counted_over ys r k
