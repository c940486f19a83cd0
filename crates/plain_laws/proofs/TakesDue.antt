-- A run that is polled takes one, where some future is due.
use Rattle.std.proofs.lemmas.Bool.Decides.{nat_tests}
use Rattle.std.proofs.Common.{arith}
use Rattle.std.proofs.Common.{◌≡◌, ℕ, ◌+◌, ◌==◌, is_some, nat_lt, cond, find, Bool, true, List, [], ◌∷◌, Option}
use Rattle.std.proofs.Common.{Some, None, slice_get, slice_set, refl, sym, subst, ap, ◌∙◌}
use Rattle.executor_parts.specs.Marks.{other}
use Rattle.plain_scheduler.specs.State.{ARun, Choice, Code, Due, Plain, PollOwn, Run, Running}
use Rattle.plain_scheduler.specs.Lists.{any, on, or, repeat, without}
use Rattle.plain_scheduler.specs.Moves.{chosen, is_common, is_due, is_kept, keeps, looks, runs, tell, up}
use Rattle.plain_scheduler.specs.Takes as takes
use Rattle.plain_scheduler.specs.Calls as calls
use Rattle.plain_laws.specs.Order.{TakesDue, count, last_begun}
use Rattle.plain_laws.proofs.Words.{at, at_more, set_there}
use Rattle.plain_laws.proofs.Walk.{Keeps, Lasts, each_good, if_so, on_good, put_good, repeat_good, tell_good, up_good}
use Rattle.plain_laws.proofs.Marked.{changed_marks}
use Rattle.plain_laws.proofs.InOrder.{count_there, last_of}
use Rattle.plain_laws.proofs.Waits.{clash, pick, taken_of}

-- one that passes a test is found, and is due
some_found : (t : Due → Bool) (due : List Due) → any t due ≡ true → is_some (find t due) ≡ true
some_found t [] is = absurd cc
some_found t (d ∷ due) is = by (t d) (some_found t due) is
  where
    by : (b : Bool) → (any t due ≡ true → is_some (find t due) ≡ true) → cond b true (any t due) ≡ true
        → is_some (cond b (Some d) (find t due)) ≡ true
    by b rest is = grind (arith, nat_tests)

found_due : (t : Due → Bool) (due : List Due) (d : Due) → find t due ≡ Some d → any (λ (e : Due). d.future == e.future) due ≡ true
found_due t [] d is = absurd cc
found_due t (e ∷ due) d is = by (t e) (found_due t due d) is
  where
    the_same : Some e ≡ Some d → d ≡ e
    the_same is = cc

    late : (b : Bool) → any (λ (e : Due). d.future == e.future) due ≡ true
        → cond b true (any (λ (e : Due). d.future == e.future) due) ≡ true
    late b is = grind (arith, nat_tests)

    by : (b : Bool) → (find t due ≡ Some d → any (λ (e : Due). d.future == e.future) due ≡ true) → cond b (Some e) (find t due) ≡ Some d
        → cond (d.future == e.future) true (any (λ (e : Due). d.future == e.future) due) ≡ true
    by b rest is = grind (arith, nat_tests)

abbrev Found : List Due → (Due → Bool) → Type 0
Found due t = is_some (find t due) ≡ true

pub chosen_found : (r : ℕ) (c : Choice) (due : List Due) → any is_due due ≡ true
    → is_some (find (chosen (is_kept r ∷ is_common c.first ∷ is_common (other c.first) ∷ is_kept c.robs ∷ is_due ∷ []) due) due) ≡ true
chosen_found r c due some =
    pick (Found due) (is_kept r) (is_common c.first ∷ is_common (other c.first) ∷ is_kept c.robs ∷ is_due ∷ []) due
    (some_found (is_kept r) due)
    (λ a.
    pick (Found due) (is_common c.first) (is_common (other c.first) ∷ is_kept c.robs ∷ is_due ∷ []) due (some_found (is_common c.first) due)
    (λ b.
    pick (Found due) (is_common (other c.first)) (is_kept c.robs ∷ is_due ∷ []) due (some_found (is_common (other c.first)) due)
    (λ e.
    pick (Found due) (is_kept c.robs) (is_due ∷ []) due (some_found (is_kept c.robs) due)
    (λ f. pick (Found due) is_due [] due (some_found is_due due) (λ g. absurd (clash (any is_due due) some g))))))

module _ {T A : Type 0} (r n : ℕ) where
  abbrev pub Counts : Plain T A → Type 0
  Counts p = at taken_of p.runs r ≡ Some n

  pub counts_last : Lasts Counts
  counts_last = grind (arith, nat_tests, at, taken_of, changed_marks, at_more)

  keeps_counts : (k : ℕ) (test : Due → Bool) → Keeps Counts (keeps k test)
  keeps_counts k test = grind (arith, nat_tests)

  module _ (wakes : A → Option ℕ) (c : Choice) (j : ℕ) where
    pub taken_counts : (d : Due)
        → Keeps Counts (λ p. takes.kept wakes c j (tell wakes c (up wakes c (ARun j) (takes.robbed wakes c j d.keeper p))))
    taken_counts d p good =
        let p1 = takes.robbed wakes c j d.keeper p in
        let p2 = up wakes c (ARun j) p1 in
        each_good Counts c.keeps (λ mark. keeps j (is_common mark)) (λ mark. keeps_counts j (is_common mark)) (tell wakes c p2)
        (tell_good Counts counts_last wakes c p2
        (up_good Counts counts_last wakes c (ARun j) p1
        (on_good Counts d.keeper (λ k p. cond (j == k) p (repeat c.moves (keeps j (is_kept k)) p))
        (λ k p good.
        if_so Counts (j == k) p (repeat c.moves (keeps j (is_kept k)) p) good
        (repeat_good Counts c.moves (keeps j (is_kept k)) (keeps_counts j (is_kept k)) p good))
        p good)))

-- a run counts so many, and then so many
pub now_counts : {T A : Type 0} (h : Running → Running) (r n m : ℕ) → ((x : Running) → x.taken ≡ n → (h x).taken ≡ m) → (p : Plain T A)
    → at taken_of p.runs r ≡ Some n → at taken_of (runs h r p).runs r ≡ Some m
now_counts h r n m then_so p good = by (slice_get p.runs r) refl good
  where
    by : (o : Option Running) → slice_get p.runs r ≡ o → or o (λ x. Some x.taken) None ≡ Some n
        → at taken_of (on o (λ x p. record p { runs = slice_set p.runs r (h x) }) p).runs r ≡ Some m
    by None is good = absurd cc
    by (Some x) is good =
        ap (λ o. or o (λ (x : Running). Some x.taken) None) (set_there p.runs r (h x) (ap is_some is))
        ∙ ap Some (then_so x (the_same is good))
      where
        the_same : slice_get p.runs r ≡ Some x → Some x.taken ≡ Some n → x.taken ≡ n
        the_same is good = cc

pub counted_so : {T A : Type 0} (r n : ℕ) (p : Plain T A) → at taken_of p.runs r ≡ Some n
    → at taken_of (runs (λ run. record run { taken = run.taken + 1 }) r p).runs r ≡ Some (n + 1)
counted_so r n p good = now_counts (λ run. record run { taken = run.taken + 1 }) r n (n + 1) (λ x is. ap (λ i. i + 1) is) p good

module _ {T A : Type 0} (wakes : A → Option ℕ) (c : Choice) (r : ℕ) (w : A) (n : ℕ) where
  -- a future is begun, as the run has counted it
  abbrev pub Begun : Due → Plain T A → Type 0
  Begun d q = cond (nat_lt n (count r q)) (last_begun q.events) [] ≡ d.future ∷ []

  begun_so : (d : Due) (q : Plain T A) → at taken_of q.runs r ≡ Some (n + 1) → last_begun q.events ≡ d.future ∷ [] → Begun d q
  begun_so d q good seen = grind (arith, nat_tests)

  run_begun : (d : Due) (p : Plain T A) → at taken_of p.runs r ≡ Some (n + 1) → Begun d (takes.run wakes c d.future (Run r w) p)
  run_begun d p good = grind (arith, nat_tests, if_so, begun_so, last_of, put_good, at, taken_of, counts_last)

  pub take_begins : (p : Plain T A) → at taken_of p.runs r ≡ Some n → any is_due p.due ≡ true
      → (d : Due) × (Begun d (takes.take wakes c (Run r w) p) × (any (λ (e : Due). d.future == e.future) p.due ≡ true))
  take_begins p good some =
      by (find test p.due) refl (chosen_found r c p.due some)
    where
      test : Due → Bool
      test = chosen (looks c (Run r w)) p.due

      by : (o : Option Due) → find (chosen (looks c (Run r w)) p.due) p.due ≡ o → is_some o ≡ true
          → (d : Due)
          × (Begun d
          (or o (λ d. takes.takes wakes c (Run r w) d (record p { due = without (chosen (looks c (Run r w)) p.due) p.due }))
          (takes.nothing wakes c (Run r w) p))
          × (any (λ (e : Due). d.future == e.future) p.due ≡ true))
      by None is one = absurd cc
      by (Some d) is one =
          let p1 : Plain T A = record p { due = without (chosen (looks c (Run r w)) p.due) p.due } in
          let p4 = takes.kept wakes c r (tell wakes c (up wakes c (ARun r) (takes.robbed wakes c r d.keeper p1))) in (
            d,
            (
              run_begun d (takes.counted wakes c r p4) (counted_so r n p4 (taken_counts r n wakes c r d p1 good)),
              found_due (chosen (looks c (Run r w)) p.due) p.due d is,
            ),
          )

module _ {T A : Type 0} (wakes : A → Option ℕ) (c : Choice) (r : ℕ) (w : A) where
  pub takes_due : (p : Plain T A) (rest : List (Code T A)) → p.inside ≡ PollOwn r w ∷ rest → is_some (slice_get p.runs r) ≡ true
      → any is_due p.due ≡ true → TakesDue wakes c r p
  takes_due p rest inside there some =
      let p1 : Plain T A = record p { inside = rest } in
      let it = take_begins wakes c r w (count r p) p1 (count_there r p there) some in (
        it.0.future,
        (
          subst
              (λ codes. cond (nat_lt (count r p) (count r (calls.innermost wakes c codes (calls.pends wakes c) p)))
              (last_begun (calls.innermost wakes c codes (calls.pends wakes c) p).events) [] ≡ it.0.future ∷ []) (sym inside) it.1.0,
          it.1.1,
        ),
      )
