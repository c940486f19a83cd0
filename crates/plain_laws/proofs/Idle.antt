-- A run that isn't polled and keeps nothing: so it stays while it isn't polled anew.
use Rattle.std.proofs.lemmas.Bool.Decides.{nat_tests}
use Rattle.std.proofs.Common.{arith}
use Rattle.std.proofs.Common.{◌≡◌, ℕ, ◌+◌, ◌==◌, nat_lt, count_by, cond, filter, Bool, true, false, List, [], ◌∷◌, ◌++◌, find, Option}
use Rattle.std.proofs.Common.{refl, subst}
use Rattle.executor_parts.specs.declared.mark.Mark.TheVariants.{Plain as PlainMark, Urgent}
use Rattle.plain_scheduler.specs.State.{ARun, ATick, Choice, Close as Closing, Code, Done, Drops, Due, Future}
use Rattle.plain_scheduler.specs.State.{Plain, Run, Running, Taker, Tick, Try}
use Rattle.plain_scheduler.specs.Lists.{any, each, or, repeat, without}
use Rattle.plain_scheduler.specs.Moves.{appended, changed, chosen, enters, given_back, is_common, is_kept, keeps, looks, moved}
use Rattle.plain_scheduler.specs.Moves.{runs, see, tell, up}
use Rattle.plain_scheduler.specs.Takes as takes
use Rattle.plain_scheduler.specs.Calls as calls
use Rattle.plain_scheduler.specs.Calls.{Call, does}
use Rattle.plain_laws.specs.Order.{is_of_run, is_over, is_taker, polls}
use Rattle.plain_laws.proofs.Words.{none_last, none_without}
use Rattle.plain_laws.proofs.Walk.{Keeps, Lasts, closed_good, each_good, freed_good, gives_way_good, if_so, leaves_good, nothing_good}
use Rattle.plain_laws.proofs.Walk.{on_good, or_good, repeat_good, says, tell_good, up_good}
use Rattle.plain_laws.proofs.Calling.{MayByOf, MayCall, MayCode, MayNextOf, Ways, call_so}

pub none_in : {X : Type 0} (t : X → Bool) (x : X) (xs : List X) → any t (x ∷ xs) ≡ false → (t x ≡ false) × (any t xs ≡ false)
none_in t x xs is = grind (arith, nat_tests)

module _ {A : Type 0} (k : ℕ) where
  abbrev MayTake : Taker A → Type 0
  MayTake Try = Unit {0}
  MayTake (Tick t w) = Unit {0}
  MayTake (Run j w) = (k == j) ≡ false

  -- of a taker that isn't the run
  not_taker : (by : Taker A) → MayNextOf MayTake by → is_taker k by ≡ false
  not_taker by may = grind (arith, nat_tests)

  not_by : (by : Option (Taker A)) → MayByOf MayTake by → or by (is_taker k) false ≡ false
  not_by by may = grind (arith, nat_tests)

module _ {T A : Type 0} where
  pub record Idle (k : ℕ) (p : Plain T A) : Type 0 where
    pub codes : any (is_of_run k) p.inside ≡ false
    pub kept : any (is_kept k) p.due ≡ false

  module _ (k : ℕ) where
    pub idle_alike : (p q : Plain T A) → p.due ≡ q.due → p.inside ≡ q.inside → Idle k p → Idle k q
    idle_alike p q due inside good = grind (arith, nat_tests)

    idle_changes : (h : Future T A → Future T A) (f : ℕ) (p : Plain T A) → Idle k p → Idle k (changed h f p)
    idle_changes h f p good = grind (arith, nat_tests)

    idle_appended : (f : ℕ) → Keeps (Idle k) (appended f)
    idle_appended f = grind (arith, nat_tests, none_last)

    idle_lasts : Lasts (Idle k)
    idle_lasts = grind (arith, nat_tests, idle_alike, idle_changes, idle_appended)

    idle_without : (test : Due → Bool) (p : Plain T A) → Idle k p → Idle k (record p { due = without test p.due })
    idle_without test p good = grind (arith, nat_tests, none_without)

    idle_moved : (j : ℕ) → (k == j) ≡ false → (test : Due → Bool) → Keeps (Idle k) (moved j test)
    idle_moved j away test = grind (arith, nat_tests, on_good, none_last, none_without)

    idle_keeps : (j : ℕ) → (k == j) ≡ false → (test : Due → Bool) → Keeps (Idle k) (keeps j test)
    idle_keeps j away test p good =
        if_so (Idle k) (nat_lt (count_by (is_kept j) p.due) 512) (moved j test p) p (idle_moved j away test p good) good

    idle_runs : (h : Running → Running) (j : ℕ) → Keeps (Idle k) (runs h j)
    idle_runs h j = grind (arith, nat_tests)

    idle_given_back : (j : ℕ) → Keeps (Idle k) (given_back j)
    idle_given_back j p good =
        on_good (Idle k) (find (is_kept j) p.due) (λ d p. appended d.future (record p { due = without (is_kept j) p.due }))
        (λ d p good. idle_appended d.future (record p { due = without (is_kept j) p.due }) (idle_without (is_kept j) p good)) p good

    idle_enters : (code : Code T A) → is_of_run k code ≡ false → Keeps (Idle k) (enters code)
    idle_enters code is = grind (arith, nat_tests)

    module _ (wakes : A → Option ℕ) (c : Choice) where
      run_idle : (f : ℕ) (by : Taker A) → MayTake k by → Keeps (Idle k) (takes.run wakes c f by)
      run_idle f by may = grind (arith, nat_tests)

      takes_idle : (by : Taker A) → MayTake k by → (d : Due) → Keeps (Idle k) (takes.takes wakes c by d)
      takes_idle Try may d p good = run_idle d.future Try tt (tell wakes c p) (tell_good (Idle k) idle_lasts wakes c p good)
      takes_idle (Tick t w) may d p good =
          let q = up wakes c (ATick t) p in
          run_idle d.future (Tick t w) tt (tell wakes c q)
          (tell_good (Idle k) idle_lasts wakes c q (up_good (Idle k) idle_lasts wakes c (ATick t) p good))
      takes_idle (Run r w) may d p good =
          let p1 = takes.robbed wakes c r d.keeper p in
          let p2 = up wakes c (ARun r) p1 in
          let p3 = tell wakes c p2 in
          let p4 = takes.kept wakes c r p3 in
          run_idle d.future (Run r w) may (takes.counted wakes c r p4)
          (idle_runs (λ run. record run { taken = run.taken + 1 }) r p4
          (each_good (Idle k) c.keeps (λ mark. keeps r (is_common mark)) (λ mark. idle_keeps r may (is_common mark)) p3
          (tell_good (Idle k) idle_lasts wakes c p2 (up_good (Idle k) idle_lasts wakes c (ARun r) p1
          (on_good (Idle k) d.keeper (λ j p. cond (r == j) p (repeat c.moves (keeps r (is_kept j)) p))
          (λ j p good.
          if_so (Idle k) (r == j) p (repeat c.moves (keeps r (is_kept j)) p) good
          (repeat_good (Idle k) c.moves (keeps r (is_kept j)) (idle_keeps r may (is_kept j)) p good))
          p good)))))

      take_idle : (by : Taker A) → MayTake k by → Keeps (Idle k) (takes.take wakes c by)
      take_idle by may p good =
          let test = chosen (looks c by) p.due in
          let p1 : Plain T A = record p { due = without test p.due } in
          or_good (Idle k) (find test p.due) (takes.nothing wakes c by p) (λ d. takes.takes wakes c by d p1)
          (nothing_good (Idle k) idle_lasts wakes c by p good) (λ d. takes_idle by may d p1 (idle_without test p good))

      gone_idle : (j : ℕ) → Keeps (Idle k) (calls.gone wakes c j)
      gone_idle j p good =
          let q = runs (λ run. record run { is_over = true }) j p in
          leaves_good (Idle k) idle_lasts wakes c (ARun j)
          (repeat (count_by (is_kept j) p.due) (λ p. tell wakes c (given_back j p)) q)
          (repeat_good (Idle k) (count_by (is_kept j) p.due) (λ p. tell wakes c (given_back j p))
          (λ p good. tell_good (Idle k) idle_lasts wakes c (given_back j p) (idle_given_back j p good)) q
          (idle_runs (λ run. record run { is_over = true }) j p good))

      swept_idle : Keeps (Idle k) (calls.swept wakes c)
      swept_idle p good =
          each_good (Idle k) (filter (is_common Urgent) p.due ++ filter (is_common PlainMark) p.due) (λ d. calls.closed wakes c d.future)
          (λ d. closed_good (Idle k) idle_lasts wakes c d.future) (record p { due = [] }) (record { codes = good.codes; kept = refl })

      close_idle : (fs all : List ℕ) → Keeps (Idle k) (calls.close wakes c fs all)
      close_idle [] all p good =
          let q = each all (calls.freed wakes c) p in
          says (Idle k) idle_lasts wakes c Done (calls.swept wakes c q)
          (swept_idle q (each_good (Idle k) all (calls.freed wakes c) (freed_good (Idle k) idle_lasts wakes c) p good))
      close_idle (f ∷ fs) all p good =
          let q = changed (λ future. record future { is_dropped = true }) f p in
          idle_enters (Closing fs all) refl (see (Drops f) q)
          (idle_alike q (see (Drops f) q) refl refl (idle_changes (λ future. record future { is_dropped = true }) f p good))

      abbrev idle_ways : Ways wakes c (Idle k) (Idle k)
      idle_ways =
          record {
            lasts = idle_lasts;
            stops = λ p good. good;
            May = MayTake k;
            take = take_idle;
            gives_way =
                λ j w may p good.
                gives_way_good (Idle k) idle_lasts wakes c j w p (idle_runs (λ run. record run { taken = 0 }) j p good);
            MayEnter = λ code. is_of_run k code ≡ false;
            enter = idle_enters;
            drops = λ f end by may. not_taker k by may;
            loses = λ awaiter by may. not_by k by may;
            drops_own = λ j answer. refl;
            pops =
                λ code rest p is good.
                record {
                  codes = (none_in (is_of_run k) code rest (subst (λ codes. any (is_of_run k) codes ≡ false) is good.codes)).1;
                  kept = good.kept;
                };
            MayGo = λ j. Unit {0};
            gone = λ j may. gone_idle j;
            MayClose = Unit {0};
            close = λ may. close_idle;
          }

module _ (T A : Type 0) (k : ℕ) (wakes : A → Option ℕ) (c : Choice) where
  abbrev IsIdle : Plain T A → Type 0
  IsIdle p = Idle k p

  abbrev all_ways : Ways wakes c IsIdle IsIdle
  all_ways = idle_ways k wakes c

  abbrev EndsSo : Code T A → Type 0
  EndsSo code = MayCode wakes c IsIdle IsIdle all_ways code

  -- it isn't polled, or is over
  abbrev IsUnpolled : Call T A → Plain T A → Type 0
  IsUnpolled call p = polls k call ≡ true → is_over k p ≡ true

  may_call : (call : Call T A) (p : Plain T A) → any (is_of_run k) p.inside ≡ false → IsUnpolled call p
      → MayCall wakes c IsIdle IsIdle all_ways call p
  may_call call p none un = grind (arith, nat_tests)

  pub call_idle : (call : Call T A) (p : Plain T A) → IsUnpolled call p → Idle k p → Idle k (does wakes c call p)
  call_idle call p un good = call_so wakes c IsIdle IsIdle all_ways call p (may_call call p good.codes un) good
