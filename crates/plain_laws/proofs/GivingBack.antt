-- A run that goes gives back what it keeps, in order.
use Rattle.std.proofs.lemmas.Bool.Decides.{nat_tests}
use Rattle.std.proofs.Common.{arith}
use Rattle.std.proofs.Common.{◌≡◌, ℕ, not, count_by, cond, filter, find, Bool, true, false, List, [], ◌∷◌, ◌++◌, length, map, Option, Some}
use Rattle.std.proofs.Common.{None, slice_get, slice_set, refl, sym, subst, ap, ◌∙◌}
use Rattle.plain_scheduler.specs.State.{ARun, Answer, Choice, Code, DropOwn, Due, Future, Plain, Running}
use Rattle.plain_scheduler.specs.Lists.{any, on, repeat, without}
use Rattle.plain_scheduler.specs.Moves.{appended, changed, given_back, is_kept, mark, runs, tell}
use Rattle.plain_scheduler.specs.Calls as calls
use Rattle.plain_scheduler.specs.Calls.{does}
use Rattle.plain_laws.specs.Coming.{GivesBack, IsPart, future_in, has, has_keeper, lacks, no_more}
use Rattle.plain_laws.proofs.Begun.{counted_so, none_there}
use Rattle.plain_laws.proofs.Walk.{Keeps, Lasts, leaves_good, on_good, tell_good}
use Rattle.plain_laws.proofs.Words.{assoc, filter_both, filter_found, filter_without, map_both, none_last, nothing_behind}

module _ {X : Type 0} where
  part_late : (xs ys : List X) (y : X) → IsPart xs ys → IsPart xs (ys ++ y ∷ [])
  part_late xs ys y no_more = lacks y [] [] no_more
  part_late xs ys y (has x us vs part) = has x us (vs ++ y ∷ []) (part_late us vs y part)
  part_late xs ys y (lacks v us vs part) = lacks v us (vs ++ y ∷ []) (part_late us vs y part)

  part_last : (xs ys : List X) (y : X) → IsPart xs ys → IsPart (xs ++ y ∷ []) (ys ++ y ∷ [])
  part_last xs ys y no_more = has y [] [] no_more
  part_last xs ys y (has x us vs part) = has x (us ++ y ∷ []) (vs ++ y ∷ []) (part_last us vs y part)
  part_last xs ys y (lacks v us vs part) = lacks v (us ++ y ∷ []) (vs ++ y ∷ []) (part_last us vs y part)

  -- where none passes a test all pass its opposite
  filter_all : (t : X → Bool) (xs : List X) → filter t xs ≡ [] → filter (λ x. not (t x)) xs ≡ xs
  filter_all t [] none = refl
  filter_all t (x ∷ xs) none = by (t x) (filter_all t xs) none
    where
      by : (b : Bool) → (filter t xs ≡ [] → filter (λ x. not (t x)) xs ≡ xs) → cond b (x ∷ filter t xs) (filter t xs) ≡ []
          → cond (not b) (x ∷ filter (λ x. not (t x)) xs) (filter (λ x. not (t x)) xs) ≡ x ∷ xs
      by b rest none = grind (arith, nat_tests)

abbrev is_left : ℕ → Due → Bool
is_left r d = not (is_kept r d)

first_is : (d e : Due) (ds es : List Due) → d ∷ ds ≡ e ∷ es → (d ≡ e) × (ds ≡ es)
first_is d e ds es is = (cc, cc)

module _ {T A : Type 0} (r : ℕ) where
  -- it still keeps these, and gave those back
  record Giving (front kept : List Due) (given : List ℕ) (p : Plain T A) : Type 0 where
    pub came : List Due
    pub others : filter (is_left r) p.due ≡ front ++ came
    pub keeps : filter (is_kept r) p.due ≡ kept
    pub unkept : any has_keeper came ≡ false
    pub in_order : IsPart given (map future_in came)

  module _ (front kept : List Due) (given : List ℕ) where
    abbrev Gives : Plain T A → Type 0
    Gives p = Giving front kept given p

    same_due : (p q : Plain T A) → p.due ≡ q.due → Gives p → Gives q
    same_due p q same good = grind (arith, nat_tests)

    gives_changed : (h : Future T A → Future T A) (f : ℕ) → Keeps Gives (changed h f)
    gives_changed h f = grind (arith, nat_tests)

    gives_appended : (f : ℕ) → Keeps Gives (appended f)
    gives_appended f p good =
        let d : Due = record { future = f; mark = mark f p; keeper = None } in
        record {
          came = good.came ++ d ∷ [];
          others =
              filter_both (is_left r) p.due (d ∷ [])
              ∙ (ap (λ l. l ++ d ∷ []) good.others ∙ assoc front good.came (d ∷ []));
          keeps = filter_both (is_kept r) p.due (d ∷ []) ∙ (nothing_behind (filter (is_kept r) p.due) ∙ good.keeps);
          unkept = none_last has_keeper good.came d good.unkept refl;
          in_order =
              subst (λ l. IsPart given l) (sym (map_both future_in good.came (d ∷ [])))
              (part_late given (map future_in good.came) f good.in_order);
        }

    gives_lasts : Lasts Gives
    gives_lasts = grind (arith, nat_tests, same_due, gives_changed, gives_appended)

  one_gives : (front kept : List Due) (d : Due) (given : List ℕ) (p : Plain T A) → Giving front (d ∷ kept) given p
      → Giving front kept (given ++ d.future ∷ []) (given_back r p)
  one_gives front kept d given p good = by (find (is_kept r) p.due) refl
    where
      by : (o : Option Due) → find (is_kept r) p.due ≡ o
          → Giving front kept (given ++ d.future ∷ [])
          (on o (λ d p. appended d.future (record p { due = without (is_kept r) p.due })) p)
      by None is = absurd (none (sym (none_there (is_kept r) p.due is) ∙ good.keeps))
        where
          none : [] ≡ d ∷ kept → ⊥
          none is = cc
      by (Some e) is =
          let both = first_is e d (filter (is_kept r) (without (is_kept r) p.due)) kept
          (sym (filter_found (is_kept r) p.due e is) ∙ good.keeps) in
          let new : Due = record { future = e.future; mark = mark e.future p; keeper = None } in
          record {
            came = good.came ++ new ∷ [];
            others =
                filter_both (is_left r) (without (is_kept r) p.due) (new ∷ [])
                ∙ (ap (λ l. l ++ new ∷ []) (filter_without (is_left r) (is_kept r) (λ d is. ap not is) p.due ∙ good.others)
                ∙ assoc front good.came (new ∷ []));
            keeps =
                filter_both (is_kept r) (without (is_kept r) p.due) (new ∷ [])
                ∙ (nothing_behind (filter (is_kept r) (without (is_kept r) p.due)) ∙ both.1);
            unkept = none_last has_keeper good.came new good.unkept refl;
            in_order =
                subst (λ (x : Due). IsPart (given ++ x.future ∷ []) (map future_in (good.came ++ new ∷ []))) both.0
                (subst (λ l. IsPart (given ++ e.future ∷ []) l) (sym (map_both future_in good.came (new ∷ [])))
                (part_last given (map future_in good.came) e.future good.in_order));
          }

  module _ (wakes : A → Option ℕ) (c : Choice) where
    all_give : (front kept : List Due) (given : List ℕ) (p : Plain T A) → Giving front kept given p
        → Giving front [] (given ++ map future_in kept) (repeat (length kept) (λ p. tell wakes c (given_back r p)) p)
    all_give front [] given p good = subst (λ l. Giving front [] l p) (sym (nothing_behind given)) good
    all_give front (d ∷ kept) given p good =
        let next = given ++ d.future ∷ [] in
        let q = tell wakes c (given_back r p) in
        subst (λ l. Giving front [] l (repeat (length kept) (λ p. tell wakes c (given_back r p)) q))
        (assoc given (d.future ∷ []) (map future_in kept))
        (all_give front kept next q
        (tell_good (Gives front kept next) (gives_lasts front kept next) wakes c (given_back r p)
        (one_gives front kept d given p good)))

    gone_gives : (p : Plain T A)
        → Giving (filter (is_left r) p.due) [] (map future_in (filter (is_kept r) p.due)) (calls.gone wakes c r p)
    gone_gives p =
        let front = filter (is_left r) p.due in
        let kept = filter (is_kept r) p.due in
        let over : Running → Running = λ run. record run { is_over = true } in
        let q = runs over r p in
        let first : Giving front kept [] p =
        record { came = []; others = sym (nothing_behind front); keeps = refl; unkept = refl; in_order = no_more } in
        let begun : Giving front kept [] q =
        on_good (Gives front kept []) (slice_get p.runs r) (λ run p. record p { runs = slice_set p.runs r (over run) })
        (λ run p good. same_due front kept [] p (record p { runs = slice_set p.runs r (over run) }) refl good) p first in
        leaves_good (Gives front [] (map future_in kept)) (gives_lasts front [] (map future_in kept)) wakes c (ARun r)
        (repeat (count_by (is_kept r) p.due) (λ p. tell wakes c (given_back r p)) q)
        (subst (λ n. Gives front [] (map future_in kept) (repeat n (λ p. tell wakes c (given_back r p)) q))
        (sym (counted_so (is_kept r) p.due)) (all_give front kept [] q begun))

    pub gives_back : (answer : Answer T) (p : Plain T A) (rest : List (Code T A)) → p.inside ≡ DropOwn r answer ∷ rest
        → GivesBack r p.due (does wakes c calls.Ends p).due
    gives_back answer p rest inside =
        let p0 : Plain T A = record p { inside = rest } in
        let q = calls.gone wakes c r p0 in
        let it = gone_gives p0 in
        subst (λ codes. GivesBack r p.due (calls.innermost wakes c codes (calls.ends wakes c) p).due) (sym inside)
        (record {
          came = it.came;
          stands = sym (filter_all (is_kept r) q.due it.keeps) ∙ it.others;
          unkept = it.unkept;
          in_order = it.in_order;
        })
