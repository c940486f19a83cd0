-- Of what a run keeps there is no less behind a call, unless another run robs it.
use Rattle.std.proofs.lemmas.Bool.Decides.{nat_tests}
use Rattle.std.proofs.Common.{◌≡◌, ℕ, ◌+◌, ◌≤◌, ◌==◌, cond, Bool, true, false, List, [], ◌∷◌, ◌++◌, length, filter, find}
use Rattle.std.proofs.Common.{Option, Some, None, slice_get, slice_set, refl, sym, subst, arith}
use Rattle.executor_parts.specs.declared.mark.Mark.{Mark}
use Rattle.task_moves.specs.AbstractTask as abstract
use Rattle.task_moves.specs.AbstractTask.{Left}
use Rattle.plain_scheduler.specs.State.{ARun, Choice, Close, Code, Drop, DropOwn, Due, Lose, Plain, Poll, PollOwn}
use Rattle.plain_scheduler.specs.State.{Run, Taker}
use Rattle.plain_scheduler.specs.Lists.{any, on, or, repeat, without}
use Rattle.plain_scheduler.specs.Moves.{changed, chosen, enters, is_common, is_due, is_kept, is_run, keeps, let_go, looks, mark}
use Rattle.plain_scheduler.specs.Moves.{moved, put, runs, see, task, tell, up}
use Rattle.plain_scheduler.specs.Moves as moves
use Rattle.plain_scheduler.specs.Takes as takes
use Rattle.plain_scheduler.specs.Calls as calls
use Rattle.plain_scheduler.specs.Calls.{Call, does}
use Rattle.plain_scheduler.specs.Searches.{Search, behind_loss, behind_out, behind_pending, searches, searches_behind}
use Rattle.plain_scheduler.specs.Searches.{searches_inside, searches_of}
use Rattle.plain_scheduler.specs.Usual.{IsKeptByOthers}
use Rattle.plain_laws.proofs.Searching.{searching}
use Rattle.plain_laws.proofs.Words.{filter_both, filter_without}
use Rattle.plain_laws.proofs.Walk.{Keeps, Lasts, becomes_good, calls_good, each_good, given_up_good, goes_good, if_so, on_good, put_good}
use Rattle.plain_laws.proofs.Walk.{repeat_good, tell_good, up_good}

-- what lasts so is as a run comes to its search
module _ {T A : Type 0} (Good : Plain T A → Type 0) (lasts : Lasts Good)
    (pops : (p : Plain T A) (rest : List (Code T A)) → Good p → Good (record p { inside = rest })) (wakes : A → Option ℕ) (c : Choice) where
  of_taker : (by : Taker A) (p : Plain T A) → Good p → (x : Search T A) → searches_of wakes c by p ≡ Some x → Good x.at
  of_taker by p good x is = grind (arith, nat_tests)

  of_pending : (e : abstract.PendingEnd) (f : ℕ) (by : Taker A) (p : Plain T A) → Good p → (x : Search T A)
      → searches_behind wakes c by (behind_pending wakes c e f p) ≡ Some x → Good x.at
  of_pending abstract.PendingEnd.Drops f by p good x is = absurd cc
  of_pending abstract.PendingEnd.Forgets f by p good x is = absurd cc
  of_pending abstract.PendingEnd.Queues f by p good x is =
      of_taker by (moves.becomes wakes (tell wakes c) f (abstract.end_pending (task f p)).task p)
      (becomes_good Good lasts wakes (tell wakes c) (tell_good Good lasts wakes c) (λ t. (abstract.end_pending t).task) refl f p good) x is
  of_pending abstract.PendingEnd.Rests f by p good x is =
      of_taker by (moves.becomes wakes (tell wakes c) f (abstract.end_pending (task f p)).task p)
      (becomes_good Good lasts wakes (tell wakes c) (tell_good Good lasts wakes c) (λ t. (abstract.end_pending t).task) refl f p good) x is

  of_out : (left : Left T A) (by : Taker A) (p : Plain T A) → Good p → (x : Search T A)
      → searches_behind wakes c by (behind_out wakes c left p) ≡ Some x → Good x.at
  of_out left by p good x is = split left.dropped is
    where
      gone : Plain T A
      gone = on left.let_go (let_go wakes (tell wakes c)) p

      q : Plain T A
      q = behind_loss wakes c left.called gone

      split : (o : Option T) → searches_behind wakes c by (or o (λ v. None) (Some q)) ≡ Some x → Good x.at
      split (Some v) is = absurd cc
      split None is =
          of_taker by q (calls_good Good lasts wakes c left.called gone (goes_good Good lasts wakes c left.let_go p good)) x is

  pends_at : (codes : List (Code T A)) (p : Plain T A) → Good p → (x : Search T A)
      → searches_inside wakes c calls.Pends codes p ≡ Some x → Good x.at
  pends_at [] p good x is = absurd cc
  pends_at (PollOwn r w ∷ rest) p good x is =
      subst (λ o. Good (or o (λ (x : Search T A). x.at) (record p { inside = rest }))) is (pops p rest good)
  pends_at (Poll f by ∷ rest) p good x is =
      let p0 : Plain T A = record p { inside = rest } in of_pending (abstract.pending_end (task f p0)) f by p0 (pops p rest good) x is
  pends_at (Drop f end by ∷ rest) p good x is = absurd cc
  pends_at (Lose awaiter by ∷ rest) p good x is = absurd cc
  pends_at (DropOwn r answer ∷ rest) p good x is = absurd cc
  pends_at (Close fs all ∷ rest) p good x is = absurd cc

  ends_at : (codes : List (Code T A)) (p : Plain T A) → Good p → (x : Search T A)
      → searches_inside wakes c calls.Ends codes p ≡ Some x → Good x.at
  ends_at [] p good x is = absurd cc
  ends_at (Drop f end by ∷ rest) p good x is =
      let p0 : Plain T A = record p { inside = rest } in
      let p1 = changed (λ future. record future { is_dropped = true }) f p0 in
      let q = takes.given_up wakes c f p1 in
      let left = takes.left_by wakes c end (task f q) in
      of_out left by (put f left.task q)
      (put_good Good lasts wakes f left.task q
      (given_up_good Good lasts wakes c f p1
      (lasts.changes (λ future. record future { is_dropped = true }) (λ x. refl) f p0 (pops p rest good)))) x is
  ends_at (Lose awaiter (Some by) ∷ rest) p good x is =
      let p0 : Plain T A = record p { inside = rest } in
      of_taker by (behind_loss wakes c awaiter p0) (calls_good Good lasts wakes c awaiter p0 (pops p rest good)) x is
  ends_at (Lose awaiter None ∷ rest) p good x is = absurd cc
  ends_at (PollOwn r w ∷ rest) p good x is = absurd cc
  ends_at (Poll f by ∷ rest) p good x is = absurd cc
  ends_at (DropOwn r answer ∷ rest) p good x is = absurd cc
  ends_at (Close fs all ∷ rest) p good x is = absurd cc

  pub at_search : (call : Call T A) (p : Plain T A) → Good p → (x : Search T A) → searches wakes c call p ≡ Some x → Good x.at
  at_search calls.Pends p good x is = pends_at p.inside p good x is
  at_search calls.Ends p good x is = ends_at p.inside p good x is
  at_search call p good x is = absurd (none p.inside is)
    where
      none : (codes : List (Code T A)) → searches_inside wakes c call codes p ≡ Some x → ⊥
      none codes is = grind (arith, nat_tests)

-- so many at least run j keeps
module _ (j n : ℕ) where
  abbrev pub kept_by : List Due → ℕ
  kept_by due = length (filter (is_kept j) due)

  one_more : (due : List Due) (d : Due) → n ≤ kept_by due → n ≤ kept_by (due ++ d ∷ [])
  one_more due d many = more n (kept_by due) (kept_by (due ++ d ∷ [])) many (step (is_kept j d) refl)
    where
      more : (n a b : ℕ) → n ≤ a → a ≤ b → n ≤ b
      more n a b one two = omega (arith, one, two)

      both : (xs ys : List Due) → length xs ≤ length (xs ++ ys)
      both [] ys = omega arith
      both (x ∷ xs) ys = let rest = both xs ys in omega (arith, rest)

      step : (b : Bool) → is_kept j d ≡ b → kept_by due ≤ kept_by (due ++ d ∷ [])
      step b is = grind (arith, nat_tests, filter_both, both)

  -- what another keeps, or nobody, leaves the list
  abbrev OthersAlone : (Due → Bool) → Type 0
  OthersAlone test = (d : Due) → test d ≡ true → is_kept j d ≡ false

  commons_aside : (m : Mark) → OthersAlone (is_common m)
  commons_aside m = grind (arith, nat_tests)

  another_aside : (k : ℕ) → (j == k) ≡ false → OthersAlone (is_kept k)
  another_aside k away = grind (arith, nat_tests)

-- the first that is found is one that it keeps
robs_first : {A : Type 0} (c : Choice) (r : ℕ) (w : A) (due : List Due) → IsKeptByOthers r due → any (is_kept c.robs) due ≡ true
    → chosen (looks c (Run r w)) due ≡ is_kept c.robs
robs_first c r w due kept some = grind (arith, nat_tests)

its_keeper : (k : ℕ) (due : List Due) (d : Due) → find (is_kept k) due ≡ Some d → d.keeper ≡ Some k
its_keeper k [] d is = absurd cc
its_keeper k (e ∷ due) d is = by (is_kept k e) refl is (its_keeper k due d)
  where
    by : (b : Bool) → is_kept k e ≡ b → cond b (Some e) (find (is_kept k) due) ≡ Some d
        → (find (is_kept k) due ≡ Some d → d.keeper ≡ Some k) → d.keeper ≡ Some k
    by b so is later = grind (arith, nat_tests)

none_found : (k : ℕ) (due : List Due) → any (is_kept k) due ≡ true → find (is_kept k) due ≡ None → ⊥
none_found k [] some is = cc
none_found k (d ∷ due) some is = by (is_kept k d) some is (none_found k due)
  where
    by : (b : Bool) → cond b true (any (is_kept k) due) ≡ true → cond b (Some d) (find (is_kept k) due) ≡ None
        → (any (is_kept k) due ≡ true → find (is_kept k) due ≡ None → ⊥) → ⊥
    by b some is later = grind (arith, nat_tests)

module _ {T A : Type 0} (j n : ℕ) where
  pub record KeepsSome (p : Plain T A) : Type 0 where
    pub many : n ≤ kept_by j n p.due

  some_alike : (p q : Plain T A) → p.due ≡ q.due → KeepsSome p → KeepsSome q
  some_alike p q same good = grind (arith, nat_tests)

  some_lasts : Lasts KeepsSome
  some_lasts =
      record {
        alike = λ p q one two three four good. some_alike p q two good;
        changes =
            λ h same f p good.
            on_good KeepsSome (slice_get p.futures f) (λ x p. record p { futures = slice_set p.futures f (h x) })
            (λ x p good. record { many = good.many }) p good;
        appends =
            λ f p is good. record { many = one_more j n p.due (record { future = f; mark = mark f p; keeper = None }) good.many };
        accepts = λ x p good. record { many = good.many };
        makes = λ x p good. record { many = good.many };
      }

  some_without : (test : Due → Bool) → OthersAlone j n test → (p : Plain T A) → KeepsSome p → KeepsSome
      (record p { due = without test p.due })
  some_without test others p good = grind (arith, nat_tests, n, filter_without)

  some_moved : (r : ℕ) (test : Due → Bool) → OthersAlone j n test → Keeps KeepsSome (moved r test)
  some_moved r test others = grind (arith, nat_tests, on_good, one_more, n, some_without)

  some_keeps : (r : ℕ) (test : Due → Bool) → OthersAlone j n test → Keeps KeepsSome (keeps r test)
  some_keeps r test others = grind (arith, nat_tests, if_so, some_moved)

  module _ (wakes : A → Option ℕ) (c : Choice) where
    run_some : (f : ℕ) (by : Taker A) → Keeps KeepsSome (takes.run wakes c f by)
    run_some f by = grind (arith, nat_tests)

    -- a run takes what k keeps
    takes_some : (r : ℕ) (w : A) (d : Due) (k : ℕ) → d.keeper ≡ Some k → (j == k) ≡ false
        → Keeps KeepsSome (takes.takes wakes c (Run r w) d)
    takes_some r w d k keeper away p good =
        run_some d.future (Run r w) (takes.counted wakes c r p4)
        (on_good KeepsSome (slice_get p4.runs r)
        (λ run p. record p { runs = slice_set p.runs r (record run { taken = run.taken + 1 }) }) (λ run p good. record { many = good.many })
        p4
        (each_good KeepsSome c.keeps (λ mark. keeps r (is_common mark)) (λ mark. some_keeps r (is_common mark) (commons_aside j n mark)) p3
        (tell_good KeepsSome some_lasts wakes c p2
        (up_good KeepsSome some_lasts wakes c (ARun r) p1 robbed))))
      where
        p1 : Plain T A
        p1 = takes.robbed wakes c r d.keeper p

        p2 : Plain T A
        p2 = up wakes c (ARun r) p1

        p3 : Plain T A
        p3 = tell wakes c p2

        p4 : Plain T A
        p4 = takes.kept wakes c r p3

        robbed : KeepsSome p1
        robbed =
            subst (λ o. KeepsSome (takes.robbed wakes c r o p)) (sym keeper)
            (if_so KeepsSome (r == k) p (repeat c.moves (keeps r (is_kept k)) p) good
            (repeat_good KeepsSome c.moves (keeps r (is_kept k)) (some_keeps r (is_kept k) (another_aside j n k away)) p good))

    take_some : (r : ℕ) (w : A) (p : Plain T A) → IsKeptByOthers r p.due → any (is_kept c.robs) p.due ≡ true → (j == c.robs) ≡ false
        → KeepsSome p → KeepsSome (takes.take wakes c (Run r w) p)
    take_some r w p kept some away good =
        subst
        (λ (t : Due → Bool). KeepsSome
        (or (find t p.due) (λ d. takes.takes wakes c (Run r w) d (record p { due = without t p.due })) (takes.nothing wakes c (Run r w) p)))
        (sym (robs_first c r w p.due kept some))
        (by (find (is_kept c.robs) p.due) refl)
      where
        by : (o : Option Due) → find (is_kept c.robs) p.due ≡ o
            → KeepsSome
            (or o (λ d. takes.takes wakes c (Run r w) d (record p { due = without (is_kept c.robs) p.due }))
            (takes.nothing wakes c (Run r w) p))
        by None is = absurd (none_found c.robs p.due some is)
        by (Some d) is =
            takes_some r w d c.robs (its_keeper c.robs p.due d is) away (record p { due = without (is_kept c.robs) p.due })
            (some_without (is_kept c.robs) (another_aside j n c.robs away) p good)

module _ {T A : Type 0} (wakes : A → Option ℕ) (c : Choice) where
  pub no_less : (call : Call T A) (p : Plain T A) (x : Search T A) (j : ℕ) → searches wakes c call p ≡ Some x
      → IsKeptByOthers x.run x.at.due → any (is_kept c.robs) x.at.due ≡ true → (j == c.robs) ≡ false
      → length (filter (is_kept j) p.due) ≤ length (filter (is_kept j) (does wakes c call p).due)
  no_less call p x j is kept some away =
      subst (λ (z : Plain T A). length (filter (is_kept j) p.due) ≤ length (filter (is_kept j) z.due)) (sym (searching wakes c call p x is))
      (take_some j n wakes c x.run x.waker x.at kept some away
      (at_search (KeepsSome j n) (some_lasts j n) (λ p rest good. record { many = good.many }) wakes c call p (record { many = least n }) x
      is)).many
    where
      n : ℕ
      n = length (filter (is_kept j) p.due)

      least : (n : ℕ) → n ≤ n
      least n = omega arith
