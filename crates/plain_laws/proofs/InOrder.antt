-- A run that alone takes futures takes those of a mark in order.
use Rattle.std.proofs.lemmas.Bool.Decides.{nat_tests}
use Rattle.std.proofs.Common.{arith}
use Rattle.std.proofs.Common.{◌≡◌, ℕ, ◌+◌, ◌==◌, not, is_some, nat_lt, cond, Bool, true, false, List, [], ◌∷◌, ◌++◌, find, Option, Some}
use Rattle.std.proofs.Common.{None, slice_get, refl, sym, subst, ap, ◌∙◌}
use Rattle.executor_parts.specs.declared.mark.Mark.{Mark}
use Rattle.executor_parts.specs.Marks.{other, same_mark}
use Rattle.task_moves.specs.AbstractTask as abstract
use Rattle.plain_scheduler.specs.State.{ARun, Choice, Closed, Code, Drops, Due, Event, Plain, Poll}
use Rattle.plain_scheduler.specs.State.{Polls, Run, Taker, Tick, Try}
use Rattle.plain_scheduler.specs.Lists.{any, or, without}
use Rattle.plain_scheduler.specs.Moves.{enters, is_common, is_due, is_kept, put, see, task, tell, up}
use Rattle.plain_scheduler.specs.Takes as takes
use Rattle.plain_scheduler.specs.Calls.{Call, course, does, new}
use Rattle.plain_laws.specs.Order.{InOrder, IsAlone, came, came_with, count, is_others, last_begun}
use Rattle.plain_laws.specs.Order.{leaves_to, line, of_mark, taken, took_of, takes_alone}
use Rattle.plain_laws.proofs.Calling.{MayCall, MayCode, Ways, call_so}
use Rattle.plain_laws.proofs.Words.{same_number, at, below_next, both_true, each_found, find_nothing, nothing_behind, none_found}
use Rattle.plain_laws.proofs.Words.{none_without, not_below_itself, not_below_zero}
use Rattle.plain_laws.proofs.Lines.{line_common, line_own, none_due, none_kept_by, one_of}
use Rattle.plain_laws.proofs.Walk.{gives_way_good, if_so, nothing_good, put_good, tell_good, up_good}
use Rattle.plain_laws.proofs.Marked.{IsMarked, Marked, are_marked, has_mark, mark_of, marked_without}
use Rattle.plain_laws.proofs.Waits.{Begins, Waits, clash, pick, taken_of, two_so, untaken, waits_alike, waits_counts, waits_gone}
use Rattle.plain_laws.proofs.Waits.{waits_kept, waits_lasts, with_one}

module _ {T A : Type 0} where
  -- so it stands behind a call: with what was taken by it
  pub record Stands (r : ℕ) (base : Mark → List ℕ) (start : ℕ → Option Mark) (n : ℕ) (q : Plain T A) : Type 0 where
    pub marked : Marked q
    pub stays : (j : ℕ) (m : Mark) → start j ≡ Some m → at has_mark q.futures j ≡ Some m
    pub is_there : is_some (slice_get q.runs r) ≡ true
    pub lines : (m : Mark) → Begins (base m) (of_mark m q (cond (nat_lt n (count r q)) (last_begun q.events) []) ++ line m r q.due)
    pub alone : any (is_others r) q.due ≡ false

  pub count_so : (r n : ℕ) (p : Plain T A) → at taken_of p.runs r ≡ Some n → count r p ≡ n
  count_so r n p is = grind (arith, nat_tests)

  run_there : (r n : ℕ) (p : Plain T A) → at taken_of p.runs r ≡ Some n → is_some (slice_get p.runs r) ≡ true
  run_there r n p is = grind (arith, nat_tests)

  pub count_there : (r : ℕ) (p : Plain T A) → is_some (slice_get p.runs r) ≡ true → at taken_of p.runs r ≡ Some (count r p)
  count_there r p is = grind (arith, nat_tests)

  pub last_of : (es : List (Event T A)) (e : Event T A) → last_begun (es ++ e ∷ []) ≡ last_begun (e ∷ [])
  last_of [] e = refl
  last_of (x ∷ []) e = refl
  last_of (x ∷ y ∷ es) e = last_of (y ∷ es) e

  module _ (r : ℕ) (base : Mark → List ℕ) (start : ℕ → Option Mark) (n : ℕ) where
    -- none was taken
    stops_at : (i : ℕ) → nat_lt n i ≡ false → (p : Plain T A) → Waits (untaken r base start i) p → Stands r base start n p
    stops_at i none p good =
        record {
          marked = good.marked;
          stays = good.stays;
          is_there = run_there r i p good.counted;
          lines =
              λ m.
              subst (λ b. Begins (base m) (of_mark m p (cond b (last_begun p.events) []) ++ line m r p.due))
              (sym (ap (nat_lt n) (count_so r i p good.counted) ∙ none)) (good.lines m);
          alone = good.alone;
        }

    -- one was
    took_one : (d : Due) (q : Plain T A) → Waits (with_one r base start d (n + 1)) q → last_begun q.events ≡ d.future ∷ []
        → Stands r base start n q
    took_one d q good seen =
        record {
          marked = good.marked;
          stays = good.stays;
          is_there = run_there r (n + 1) q good.counted;
          lines =
              λ m.
              subst (λ l. Begins (base m) (l ++ line m r q.due))
              (ap (λ k. cond (same_mark m k) (d.future ∷ []) []) (sym (mark_of d.future q d.mark (good.known refl)))
              ∙ (ap (of_mark m q) (sym seen)
              ∙ ap (λ b. of_mark m q (cond b (last_begun q.events) []))
              (sym (ap (nat_lt n) (count_so r (n + 1) q good.counted) ∙ below_next n)))) (good.lines m);
          alone = good.alone;
        }

    module _ (wakes : A → Option ℕ) (c : Choice) (w : A) where
      begins_so : (d : Due) (p : Plain T A) → Waits (with_one r base start d (n + 1)) p
          → Stands r base start n (takes.run wakes c d.future (Run r w) p)
      begins_so d p good =
          let k = with_one r base start d (n + 1) in
          let f = d.future in
          let q = put f (abstract.begin_run (task f p)) p in
          if_so (Stands r base start n) (task f p).closed (takes.dropping wakes c f Closed (Run r w) p)
          (enters (Poll f (Run r w)) (see (Polls f) q))
          (took_one d (takes.dropping wakes c f Closed (Run r w) p)
          (waits_alike k p (takes.dropping wakes c f Closed (Run r w) p) refl refl refl good) (last_of p.events (Drops f)))
          (took_one d (enters (Poll f (Run r w)) (see (Polls f) q))
          (waits_alike k q (enters (Poll f (Run r w)) (see (Polls f) q)) refl refl refl
          (put_good (Waits k) (waits_lasts k) wakes f (abstract.begin_run (task f p)) p good)) (last_of q.events (Polls f)))

      -- of one that no other run keeps it robs none
      robs_none : (d : Due) (p : Plain T A) → is_others r d ≡ false → p ≡ takes.robbed wakes c r d.keeper p
      robs_none d p mine = grind (arith, nat_tests)

      takes_so : (d : Due) (p : Plain T A) → is_others r d ≡ false → Waits (with_one r base start d n) p
          → Stands r base start n (takes.takes wakes c (Run r w) d p)
      takes_so d p mine good =
          let k = with_one r base start d n in
          let p1 = takes.robbed wakes c r d.keeper p in
          let p2 = up wakes c (ARun r) p1 in
          let p3 = tell wakes c p2 in
          let p4 = takes.kept wakes c r p3 in
          begins_so d (takes.counted wakes c r p4)
          (waits_counts k (λ run. record run { taken = run.taken + 1 }) (n + 1) (λ x is. ap (λ i. i + 1) is) p4
          (waits_kept k wakes c p3
          (tell_good (Waits k) (waits_lasts k) wakes c p2
          (up_good (Waits k) (waits_lasts k) wakes c (ARun r) p1 (subst (Waits k) (robs_none d p mine) good)))))

      -- what is taken was the first of its mark
      out_of : (test : Due → Bool) (p : Plain T A) (d : Due) → find test p.due ≡ Some d
          → ((m : Mark) → line m r p.due ≡ one_of m d ++ line m r (without test p.due))
          → Waits (untaken r base start n) p → Waits (with_one r base start d n) (record p { due = without test p.due })
      out_of test p d is first good =
          record {
            marked = marked_without test p good.marked;
            known = λ one. each_found (IsMarked p) test p.due d good.marked.due is;
            stays = good.stays;
            lines = λ m. subst (λ l. Begins (base m) l) (first m) (good.lines m);
            alone = none_without (is_others r) test p.due good.alone;
            counted = good.counted;
          }

      abbrev Taken : Plain T A → (Due → Bool) → Type 0
      Taken p test =
          Stands r base start n
          (or (find test p.due) (λ d. takes.takes wakes c (Run r w) d (record p { due = without test p.due }))
          (takes.nothing wakes c (Run r w) p))

      rests_so : (p : Plain T A) → Waits (untaken r base start n) p → Stands r base start n (takes.nothing wakes c (Run r w) p)
      rests_so p good =
          stops_at n (not_below_itself n) (takes.nothing wakes c (Run r w) p)
          (nothing_good (Waits (untaken r base start n)) (waits_lasts (untaken r base start n)) wakes c (Run r w) p good)

      found_so : (test : Due → Bool) (p : Plain T A) → Waits (untaken r base start n) p
          → ((d : Due) → find test p.due ≡ Some d → (m : Mark) → line m r p.due ≡ one_of m d ++ line m r (without test p.due))
          → Taken p test
      found_so test p good first = by (find test p.due) refl
        where
          by : (o : Option Due) → find test p.due ≡ o
              → Stands r base start n
              (or o (λ d. takes.takes wakes c (Run r w) d (record p { due = without test p.due }))
              (takes.nothing wakes c (Run r w) p))
          by None is = rests_so p good
          by (Some d) is =
              takes_so d (record p { due = without test p.due }) (none_found (is_others r) test p.due d good.alone is)
              (out_of test p d is (first d is) good)

      take_so : (p : Plain T A) → Waits (untaken r base start n) p → Stands r base start n (takes.take wakes c (Run r w) p)
      take_so p good =
          let last : List (Due → Bool) = is_kept c.robs ∷ is_due ∷ [] in
          pick (Taken p) (is_kept r) (is_common c.first ∷ is_common (other c.first) ∷ last) p.due
          (λ is. found_so (is_kept r) p good (λ d found m. line_own m r p.due d found))
          (λ none.
          pick (Taken p) (is_common c.first) (is_common (other c.first) ∷ last) p.due
          (λ is. found_so (is_common c.first) p good (λ d found m. line_common m c.first r p.due d none found))
          (λ none1.
          pick (Taken p) (is_common (other c.first)) last p.due
          (λ is. found_so (is_common (other c.first)) p good (λ d found m. line_common m (other c.first) r p.due d none found))
          (λ none2.
          pick (Taken p) (is_kept c.robs) (is_due ∷ []) p.due
          (λ is. absurd (clash (any (is_kept c.robs) p.due) is (none_kept_by r c.robs p.due good.alone none)))
          (λ none3.
          pick (Taken p) is_due [] p.due
          (λ is. absurd (clash (any is_due p.due) is (none_due r c.first p.due good.alone none none1 none2)))
          (λ none4.
          subst
          (λ o. Stands r base start n
          (or o (λ d. takes.takes wakes c (Run r w) d (record p { due = without (λ (d : Due). false) p.due }))
          (takes.nothing wakes c (Run r w) p))) (sym (find_nothing p.due)) (rests_so p good))))))

      way_so : (p : Plain T A) → Waits (untaken r base start n) p → Stands r base start n (takes.gives_way wakes c r w p)
      way_so p good =
          stops_at 0 (not_below_zero n) (takes.gives_way wakes c r w p)
          (gives_way_good (Waits (untaken r base start 0)) (waits_lasts (untaken r base start 0)) wakes c r w p
          (waits_counts (untaken r base start n) (λ run. record run { taken = 0 }) 0 (λ x is. refl) p good))

module _ (T A : Type 0) (r : ℕ) (base : Mark → List ℕ) (start : ℕ → Option Mark) (n : ℕ) (wakes : A → Option ℕ) (c : Choice) where
  abbrev Before : Plain T A → Type 0
  Before p = Waits (untaken r base start n) p

  abbrev Behind : Plain T A → Type 0
  Behind p = Stands r base start n p

  abbrev MayTake : Taker A → Type 0
  MayTake Try = ⊥
  MayTake (Tick t w) = ⊥
  MayTake (Run k w) = (r == k) ≡ true

  take_by : (by : Taker A) → MayTake by → (p : Plain T A) → Before p → Behind (takes.take wakes c by p)
  take_by Try may p good = absurd may
  take_by (Tick t w) may p good = absurd may
  take_by (Run k w) may p good =
      subst (λ j. Behind (takes.take wakes c (Run j w) p)) (same_number r k may) (take_so r base start n wakes c w p good)

  way_by : (k : ℕ) (w : A) → (r == k) ≡ true → (p : Plain T A) → Before p → Behind (takes.gives_way wakes c k w p)
  way_by k w may p good =
      subst (λ j. Behind (takes.gives_way wakes c j w p)) (same_number r k may) (way_so r base start n wakes c w p good)

  abbrev its_ways : Ways wakes c Before Behind
  its_ways =
      record {
        lasts = waits_lasts (untaken r base start n);
        stops = λ p good. stops_at r base start n n (not_below_itself n) p good;
        May = MayTake;
        take = take_by;
        gives_way = way_by;
        MayEnter = λ code. Unit {0};
        enter = λ code may p good. waits_alike (untaken r base start n) p (enters code p) refl refl refl good;
        drops = λ f end by may. tt;
        loses = λ awaiter by may. tt;
        drops_own = λ k answer. tt;
        pops = λ code rest p is good. waits_alike (untaken r base start n) p (record p { inside = rest }) refl refl refl good;
        MayGo = λ k. not (r == k) ≡ true;
        gone = λ k may p good. waits_gone (untaken r base start n) wakes c k may p good;
        MayClose = ⊥;
        close = λ may fs all p good. absurd may;
      }

  never : (X : Type 0) → false ≡ true → X
  never X is = absurd cc

  abbrev EndsSo : Code T A → Type 0
  EndsSo code = MayCode wakes c Before Behind its_ways code

  may_call : (call : Call T A) (p : Plain T A) → leaves_to r call p.inside ≡ true → MayCall wakes c Before Behind its_ways call p
  may_call call p is = grind (arith, nat_tests)

  one_call : (call : Call T A) (p : Plain T A) → leaves_to r call p.inside ≡ true → Before p → Behind (does wakes c call p)
  one_call call p may good = grind (arith, nat_tests, call_so, may_call)

module _ {T A : Type 0} (r : ℕ) where
  -- a state to begin from
  waits_first : (p : Plain T A) → Marked p → is_some (slice_get p.runs r) ≡ true → any (is_others r) p.due ≡ false
      → Waits (untaken r (λ m. line m r p.due) (at has_mark p.futures) (count r p)) p
  waits_first p marked there alone =
      record {
        marked = marked;
        known = λ is. absurd (never_so is);
        stays = λ j m is. is;
        lines = λ m. ([], sym (nothing_behind (line m r p.due)));
        alone = alone;
        counted = count_there r p there;
      }
    where
      never_so : false ≡ true → ⊥
      never_so is = cc

  module _ (wakes : A → Option ℕ) where
    abbrev Behind_one : Choice → Call T A → Plain T A → Type 0
    Behind_one c call p = Stands r (λ m. line m r p.due) (at has_mark p.futures) (count r p) (does wakes c call p)

    -- behind one call
    pub one_so : (c : Choice) (call : Call T A) (p : Plain T A) → Marked p → is_some (slice_get p.runs r) ≡ true
        → any (is_others r) p.due ≡ false → leaves_to r call p.inside ≡ true → Behind_one c call p
    one_so c call p marked there alone may =
        one_call T A r (λ m. line m r p.due) (at has_mark p.futures) (count r p) wakes c call p may (waits_first p marked there alone)

    in_order_from : (cs : List (Choice × Call T A)) (p : Plain T A) → Marked p → is_some (slice_get p.runs r) ≡ true
        → any (is_others r) p.due ≡ false → takes_alone wakes r cs p ≡ true → InOrder wakes r cs p
    in_order_from [] p marked there alone may m = sym (nothing_behind (line m r p.due))
    in_order_from (c ∷ cs) p marked there alone may m =
        let q = does wakes c.0 c.1 p in
        let both = both_true (leaves_to r c.1 p.inside) (takes_alone wakes r cs q) may in
        let s = one_so c.0 c.1 p marked there alone both.0 in
        two_so (took_of m r p q) (taken wakes m r cs q) (line m r q.due) (line m r (course wakes cs q).due) (line m r p.due) (s.lines m).0
        (came wakes m r cs q) (came_with m r p q) (in_order_from cs q s.marked s.is_there s.alone both.1 m) (s.lines m).1 refl

    pub in_order : (limit : ℕ) (is_static : Bool) (before cs : List (Choice × Call T A))
        → IsAlone wakes r cs (course wakes before (new limit is_static)) → InOrder wakes r cs (course wakes before (new limit is_static))
    in_order limit is_static before cs alone = grind (arith, nat_tests, in_order_from, are_marked)
