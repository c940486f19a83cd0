-- A run is over only behind the end of its drop.
use Rattle.std.proofs.lemmas.Bool.Decides.{nat_tests}
use Rattle.std.proofs.Common.{arith}
use Rattle.std.proofs.Common.{◌≡◌, ℕ, zero, suc, ◌+◌, ◌==◌, count_by, cond, filter, Bool, true, false, List, [], ◌∷◌, ◌++◌}
use Rattle.std.proofs.Common.{Option, Some, slice_get, slice_set, refl, ap}
use Rattle.executor_parts.specs.declared.mark.Mark.TheVariants.{Plain as PlainMark, Urgent}
use Rattle.plain_scheduler.specs.State.{ARun, ATick, Choice, Code, Done, DropOwn, Due, Plain}
use Rattle.plain_scheduler.specs.State.{Run, Running, Taker, Tick, Try}
use Rattle.plain_scheduler.specs.Lists.{each, on, repeat}
use Rattle.plain_scheduler.specs.Moves.{given_back, is_common, is_kept, keeps, runs}
use Rattle.plain_scheduler.specs.Moves.{tell, up}
use Rattle.plain_scheduler.specs.Takes as takes
use Rattle.plain_scheduler.specs.Calls as calls
use Rattle.plain_scheduler.specs.Calls.{Call, does}
use Rattle.plain_laws.proofs.Words.{at, at_more, at_set}
use Rattle.plain_laws.proofs.Walk.{Keeps, Lasts, closed_good, each_good, freed_good, gives_way_good, if_so, leaves_good, nothing_good}
use Rattle.plain_laws.proofs.Walk.{on_good, or_good, repeat_good, says, tell_good, up_good}
use Rattle.plain_laws.proofs.Marked.{changed_marks}
use Rattle.plain_laws.proofs.Calling.{MayCall, MayCode, Ways, call_so}

abbrev pub over_of : Running → Bool
over_of x = x.is_over

pub at_elsewhere : {X Y : Type 0} (f : X → Y) (xs : List X) (i : ℕ) (y : X) (j : ℕ) → (i ≡ j → ⊥) → at f (slice_set xs i y) j ≡ at f xs j
at_elsewhere f [] i y j apart = refl
at_elsewhere f (x ∷ xs) zero y zero apart = absurd (apart refl)
at_elsewhere f (x ∷ xs) zero y (suc j) apart = refl
at_elsewhere f (x ∷ xs) (suc i) y zero apart = refl
at_elsewhere f (x ∷ xs) (suc i) y (suc j) apart = at_elsewhere f xs i y j (λ is. apart (ap suc is))

pub other_number : (k j : ℕ) → (k == j) ≡ false → j ≡ k → ⊥
other_number k j away is = grind (arith, nat_tests)

module _ {T A : Type 0} (k : ℕ) where
  abbrev pub GoesOn : Plain T A → Type 0
  GoesOn p = at over_of p.runs k ≡ Some false

  on_lasts : Lasts GoesOn
  on_lasts = grind (arith, nat_tests, at, changed_marks, at_more)

  keeps_on : (j : ℕ) (test : Due → Bool) → Keeps GoesOn (keeps j test)
  keeps_on j test = grind (arith, nat_tests)

  given_back_on : (j : ℕ) → Keeps GoesOn (given_back j)
  given_back_on j = grind (arith, nat_tests)

  -- a change of a run that leaves it as it is, or of another
  runs_on : (h : Running → Running) → ((x : Running) → (h x).is_over ≡ x.is_over) → (j : ℕ) → Keeps GoesOn (runs h j)
  runs_on h same j p good = by (slice_get p.runs j) refl
    where
      by : (o : Option Running) → slice_get p.runs j ≡ o → GoesOn (on o (λ run p. record p { runs = slice_set p.runs j (h run) }) p)
      by o is = grind (arith, nat_tests, at_set)

  others_on : (h : Running → Running) (j : ℕ) → (k == j) ≡ false → Keeps GoesOn (runs h j)
  others_on h j away = grind (arith, nat_tests, on_good, at_elsewhere, other_number)

  module _ (wakes : A → Option ℕ) (c : Choice) where
    run_on : (f : ℕ) (by : Taker A) → Keeps GoesOn (takes.run wakes c f by)
    run_on f by = grind (arith, nat_tests)

    takes_on : (by : Taker A) (d : Due) → Keeps GoesOn (takes.takes wakes c by d)
    takes_on Try d p good = run_on d.future Try (tell wakes c p) (tell_good GoesOn on_lasts wakes c p good)
    takes_on (Tick t w) d p good =
        let q = up wakes c (ATick t) p in
        run_on d.future (Tick t w) (tell wakes c q) (tell_good GoesOn on_lasts wakes c q (up_good GoesOn on_lasts wakes c (ATick t) p good))
    takes_on (Run r w) d p good =
        let p1 = takes.robbed wakes c r d.keeper p in
        let p2 = up wakes c (ARun r) p1 in
        let p3 = tell wakes c p2 in
        let p4 = takes.kept wakes c r p3 in
        run_on d.future (Run r w) (takes.counted wakes c r p4)
        (runs_on (λ run. record run { taken = run.taken + 1 }) (λ x. refl) r p4
        (each_good GoesOn c.keeps (λ mark. keeps r (is_common mark)) (λ mark. keeps_on r (is_common mark)) p3
        (tell_good GoesOn on_lasts wakes c p2 (up_good GoesOn on_lasts wakes c (ARun r) p1
        (on_good GoesOn d.keeper (λ j p. cond (r == j) p (repeat c.moves (keeps r (is_kept j)) p))
        (λ j p good.
        if_so GoesOn (r == j) p (repeat c.moves (keeps r (is_kept j)) p) good
        (repeat_good GoesOn c.moves (keeps r (is_kept j)) (keeps_on r (is_kept j)) p good))
        p good)))))

    take_on : (by : Taker A) → Keeps GoesOn (takes.take wakes c by)
    take_on by = grind (arith, nat_tests, by, or_good, nothing_good, on_lasts, takes_on)

    gone_on : (j : ℕ) → (k == j) ≡ false → Keeps GoesOn (calls.gone wakes c j)
    gone_on j away p good =
        let q = runs (λ run. record run { is_over = true }) j p in
        leaves_good GoesOn on_lasts wakes c (ARun j)
        (repeat (count_by (is_kept j) p.due) (λ p. tell wakes c (given_back j p)) q)
        (repeat_good GoesOn (count_by (is_kept j) p.due) (λ p. tell wakes c (given_back j p))
        (λ p good. tell_good GoesOn on_lasts wakes c (given_back j p) (given_back_on j p good)) q
        (others_on (λ run. record run { is_over = true }) j away p good))

    swept_on : Keeps GoesOn (calls.swept wakes c)
    swept_on p good =
        each_good GoesOn (filter (is_common Urgent) p.due ++ filter (is_common PlainMark) p.due) (λ d. calls.closed wakes c d.future)
        (λ d. closed_good GoesOn on_lasts wakes c d.future) (record p { due = [] }) good

    close_on : (fs all : List ℕ) → Keeps GoesOn (calls.close wakes c fs all)
    close_on [] all p good =
        let q = each all (calls.freed wakes c) p in
        says GoesOn on_lasts wakes c Done (calls.swept wakes c q)
        (swept_on q (each_good GoesOn all (calls.freed wakes c) (freed_good GoesOn on_lasts wakes c) p good))
    close_on (f ∷ fs) all p good = on_lasts.changes (λ future. record future { is_dropped = true }) (λ x. refl) f p good

    abbrev on_ways : Ways wakes c GoesOn GoesOn
    on_ways =
        record {
          lasts = on_lasts;
          stops = λ p good. good;
          May = λ by. Unit {0};
          take = λ by may. take_on by;
          gives_way =
              λ j w may p good.
              gives_way_good GoesOn on_lasts wakes c j w p (runs_on (λ run. record run { taken = 0 }) (λ x. refl) j p good);
          MayEnter = λ code. Unit {0};
          enter = λ code may p good. good;
          drops = λ f end by may. tt;
          loses = λ awaiter by may. tt;
          drops_own = λ j answer. tt;
          pops = λ code rest p is good. good;
          MayGo = λ j. (k == j) ≡ false;
          gone = gone_on;
          MayClose = Unit {0};
          close = λ may. close_on;
        }

module _ (T A : Type 0) (k : ℕ) (wakes : A → Option ℕ) (c : Choice) where
  abbrev IsOn : Plain T A → Type 0
  IsOn p = GoesOn k p

  abbrev all_ways : Ways wakes c IsOn IsOn
  all_ways = on_ways k wakes c

  -- the drop of the run doesn't end
  abbrev pub IsNoDrop : Code T A → Type 0
  IsNoDrop (DropOwn j answer) = (k == j) ≡ false
  IsNoDrop code = Unit {0}

  abbrev EndsSo : Code T A → Type 0
  EndsSo code = MayCode wakes c IsOn IsOn all_ways code

  abbrev pub IsNoEnd : Call T A → List (Code T A) → Type 0
  IsNoEnd calls.Ends (code ∷ rest) = IsNoDrop code
  IsNoEnd call inside = Unit {0}

  may_call : (call : Call T A) (p : Plain T A) → IsNoEnd call p.inside → MayCall wakes c IsOn IsOn all_ways call p
  may_call call p is = grind (arith, nat_tests)

  pub call_on : (call : Call T A) (p : Plain T A) → IsNoEnd call p.inside → GoesOn k p → GoesOn k (does wakes c call p)
  call_on call p is good = call_so wakes c IsOn IsOn all_ways call p (may_call call p is) good
