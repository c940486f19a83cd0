-- Each future that is due is there, and has the mark by which it is due: so it is behind each list of calls of a new scheduler.
use Rattle.std.proofs.lemmas.Bool.Decides.{nat_tests}
use Rattle.std.proofs.Common.{arith}
use Rattle.std.proofs.Common.{◌≡◌, ℕ, ◌+◌, ◌==◌, is_some, count_by, cond, filter, Bool, true, List, [], ◌∷◌, ◌++◌, find, Option}
use Rattle.std.proofs.Common.{Some, None, slice_get, slice_set, refl, subst, ◌∙◌}
use Rattle.executor_parts.specs.declared.mark.Mark.{Mark}
use Rattle.executor_parts.specs.declared.mark.Mark.TheVariants.{Plain as PlainMark, Urgent}
use Rattle.task_moves.specs.AbstractTask as abstract
use Rattle.plain_scheduler.specs.State.{ARun, ATick, Choice, Close as Closing, Closed, Code, Done, Drops, Due, Future}
use Rattle.plain_scheduler.specs.State.{Plain, Poll, Polls, Run, Running, Taker, Tick, Try}
use Rattle.plain_scheduler.specs.Lists.{each, on, repeat, without}
use Rattle.plain_scheduler.specs.Moves.{appended, changed, enters, given_back, is_common, is_kept, keeps, mark, moved, put}
use Rattle.plain_scheduler.specs.Moves.{runs, see, task, tell, up}
use Rattle.plain_scheduler.specs.Takes as takes
use Rattle.plain_scheduler.specs.Calls as calls
use Rattle.plain_scheduler.specs.Calls.{Call, course, does, new}
use Rattle.plain_laws.proofs.Calling.{MayCall, MayCode, Ways, call_so}
use Rattle.plain_laws.proofs.Words.{Each, at, at_more, at_set, each_as, each_found, each_last, each_without}
use Rattle.plain_laws.proofs.Walk.{Keeps, Lasts, closed_good, each_good, freed_good, gives_way_good, if_so, leaves_good, nothing_good}
use Rattle.plain_laws.proofs.Walk.{on_good, or_good, put_good, repeat_good, says, tell_good, up_good}

module _ {T A : Type 0} where
  abbrev pub has_mark : Future T A → Mark
  has_mark x = x.mark

  abbrev pub IsMarked : Plain T A → Due → Type 0
  IsMarked p d = at has_mark p.futures d.future ≡ Some d.mark

  pub record Marked (p : Plain T A) : Type 0 where
    pub due : Each (IsMarked p) p.due

  -- the mark of one that is there
  pub mark_there : (f : ℕ) (p : Plain T A) → is_some (slice_get p.futures f) ≡ true → at has_mark p.futures f ≡ Some (mark f p)
  mark_there f p is = grind (arith, nat_tests)

  pub mark_of : (f : ℕ) (p : Plain T A) (m : Mark) → at has_mark p.futures f ≡ Some m → mark f p ≡ m
  mark_of f p m is = grind (arith, nat_tests)

  pub there_so : (f : ℕ) (p : Plain T A) (m : Mark) → at has_mark p.futures f ≡ Some m → is_some (slice_get p.futures f) ≡ true
  there_so f p m is = grind (arith, nat_tests)

  -- marks stay
  pub changed_marks : (P : (ℕ → Option Mark) → List Due → List Running → Type 0) (h : Future T A → Future T A)
      → ((x : Future T A) → (h x).mark ≡ x.mark) → (f : ℕ) (p : Plain T A)
      → ((fs : List (Future T A)) → ((j : ℕ) → at has_mark fs j ≡ at has_mark p.futures j) → P (at has_mark fs) p.due p.runs)
      → P (at has_mark (changed h f p).futures) (changed h f p).due (changed h f p).runs
  changed_marks P h same f p so = by (slice_get p.futures f) refl
    where
      by : (o : Option (Future T A)) → slice_get p.futures f ≡ o
          → P (at has_mark (on o (λ x p. record p { futures = slice_set p.futures f (h x) }) p).futures)
          (on o (λ x p. record p { futures = slice_set p.futures f (h x) }) p).due
          (on o (λ x p. record p { futures = slice_set p.futures f (h x) }) p).runs
      by o is = grind (arith, nat_tests, at_set)

  pub marked_changes : (h : Future T A → Future T A) → ((x : Future T A) → (h x).mark ≡ x.mark) → (f : ℕ) (p : Plain T A) → Marked p
      → Marked (changed h f p)
  marked_changes h same f p good =
      record {
        due =
            changed_marks (λ of due runs. Each (λ d. of d.future ≡ Some d.mark) due) h same f p
            (λ fs are. each_as (IsMarked p) (λ d. at has_mark fs d.future ≡ Some d.mark) (λ d is. are d.future ∙ is) p.due good.due);
      }

  pub marked_alike : (p q : Plain T A) → p.futures ≡ q.futures → p.due ≡ q.due → Marked p → Marked q
  marked_alike p q futures due good =
      record {
        due =
            subst (λ ds. Each (IsMarked q) ds) due
            (subst (λ fs. Each (λ d. at has_mark fs d.future ≡ Some d.mark) p.due) futures good.due);
      }

  pub marked_lasts : Lasts Marked
  marked_lasts = grind (arith, nat_tests, marked_alike, marked_changes, each_last, mark_there, each_as, at, at_more)

  pub marked_without : (test : Due → Bool) (p : Plain T A) → Marked p → Marked (record p { due = without test p.due })
  marked_without test p good = grind (arith, nat_tests, each_without)

  pub marked_moved : (r : ℕ) (test : Due → Bool) → Keeps Marked (moved r test)
  marked_moved r test p good = by (find test p.due) refl
    where
      by : (o : Option Due) → find test p.due ≡ o
          → Marked (on o (λ d p. record p { due = without test p.due ++ record d { keeper = Some r } ∷ [] }) p)
      by None is = good
      by (Some d) is =
          record {
            due =
                each_last (IsMarked p) (without test p.due) (record d { keeper = Some r })
                (each_without (IsMarked p) test p.due good.due)
                (each_found (IsMarked p) test p.due d good.due is);
          }

  keeps_marked : (r : ℕ) (test : Due → Bool) → Keeps Marked (keeps r test)
  keeps_marked r test = grind (arith, nat_tests, if_so, marked_moved)

  pub runs_marked : (h : Running → Running) (r : ℕ) → Keeps Marked (runs h r)
  runs_marked h r p good =
      on_good Marked (slice_get p.runs r) (λ run p. record p { runs = slice_set p.runs r (h run) })
      (λ run p good. record { due = good.due }) p good

  given_back_marked : (r : ℕ) → Keeps Marked (given_back r)
  given_back_marked r p good = by (find (is_kept r) p.due) refl
    where
      by : (o : Option Due) → find (is_kept r) p.due ≡ o
          → Marked (on o (λ d p. appended d.future (record p { due = without (is_kept r) p.due })) p)
      by None is = good
      by (Some d) is =
          marked_lasts.appends d.future (record p { due = without (is_kept r) p.due })
          (there_so d.future p d.mark (each_found (IsMarked p) (is_kept r) p.due d good.due is))
          (marked_without (is_kept r) p good)

  module _ (wakes : A → Option ℕ) (c : Choice) where
    run_marked : (f : ℕ) (by : Taker A) → Keeps Marked (takes.run wakes c f by)
    run_marked f by p good =
        let q = put f (abstract.begin_run (task f p)) p in
        if_so Marked (task f p).closed (takes.dropping wakes c f Closed by p) (enters (Poll f by) (see (Polls f) q))
        (marked_alike p (takes.dropping wakes c f Closed by p) refl refl good)
        (marked_alike q (enters (Poll f by) (see (Polls f) q)) refl refl
        (put_good Marked marked_lasts wakes f (abstract.begin_run (task f p)) p good))

    takes_marked : (by : Taker A) (d : Due) → Keeps Marked (takes.takes wakes c by d)
    takes_marked Try d p good = run_marked d.future Try (tell wakes c p) (tell_good Marked marked_lasts wakes c p good)
    takes_marked (Tick t w) d p good =
        let q = up wakes c (ATick t) p in
        run_marked d.future (Tick t w) (tell wakes c q)
        (tell_good Marked marked_lasts wakes c q (up_good Marked marked_lasts wakes c (ATick t) p good))
    takes_marked (Run r w) d p good =
        let p1 = takes.robbed wakes c r d.keeper p in
        let p2 = up wakes c (ARun r) p1 in
        let p3 = tell wakes c p2 in
        let p4 = takes.kept wakes c r p3 in
        run_marked d.future (Run r w) (takes.counted wakes c r p4)
        (runs_marked (λ run. record run { taken = run.taken + 1 }) r p4
        (each_good Marked c.keeps (λ mark. keeps r (is_common mark)) (λ mark. keeps_marked r (is_common mark)) p3
        (tell_good Marked marked_lasts wakes c p2 (up_good Marked marked_lasts wakes c (ARun r) p1
        (on_good Marked d.keeper (λ k p. cond (r == k) p (repeat c.moves (keeps r (is_kept k)) p))
        (λ k p good.
        if_so Marked (r == k) p (repeat c.moves (keeps r (is_kept k)) p) good
        (repeat_good Marked c.moves (keeps r (is_kept k)) (keeps_marked r (is_kept k)) p good))
        p good)))))

    take_marked : (by : Taker A) → Keeps Marked (takes.take wakes c by)
    take_marked by = grind (arith, nat_tests, by, or_good, nothing_good, marked_lasts, takes_marked, marked_without)

    gone_marked : (r : ℕ) → Keeps Marked (calls.gone wakes c r)
    gone_marked r p good =
        let q = runs (λ run. record run { is_over = true }) r p in
        leaves_good Marked marked_lasts wakes c (ARun r)
        (repeat (count_by (is_kept r) p.due) (λ p. tell wakes c (given_back r p)) q)
        (repeat_good Marked (count_by (is_kept r) p.due) (λ p. tell wakes c (given_back r p))
        (λ p good. tell_good Marked marked_lasts wakes c (given_back r p) (given_back_marked r p good)) q
        (runs_marked (λ run. record run { is_over = true }) r p good))

    swept_marked : Keeps Marked (calls.swept wakes c)
    swept_marked p good =
        each_good Marked (filter (is_common Urgent) p.due ++ filter (is_common PlainMark) p.due) (λ d. calls.closed wakes c d.future)
        (λ d. closed_good Marked marked_lasts wakes c d.future) (record p { due = [] }) (record { due = tt })

    close_marked : (fs all : List ℕ) → Keeps Marked (calls.close wakes c fs all)
    close_marked [] all p good =
        let q = each all (calls.freed wakes c) p in
        says Marked marked_lasts wakes c Done (calls.swept wakes c q)
        (swept_marked q (each_good Marked all (calls.freed wakes c) (freed_good Marked marked_lasts wakes c) p good))
    close_marked (f ∷ fs) all p good =
        let q = changed (λ future. record future { is_dropped = true }) f p in
        marked_alike q (enters (Closing fs all) (see (Drops f) q)) refl refl
        (marked_changes (λ future. record future { is_dropped = true }) (λ x. refl) f p good)

    abbrev marked_ways : Ways wakes c Marked Marked
    marked_ways =
        record {
          lasts = marked_lasts;
          stops = λ p good. good;
          May = λ by. Unit {0};
          take = λ by may. take_marked by;
          gives_way =
              λ k w may p good.
              gives_way_good Marked marked_lasts wakes c k w p (runs_marked (λ run. record run { taken = 0 }) k p good);
          MayEnter = λ code. Unit {0};
          enter = λ code may p good. marked_alike p (enters code p) refl refl good;
          drops = λ f end by may. tt;
          loses = λ awaiter by may. tt;
          drops_own = λ k answer. tt;
          pops = λ code rest p is good. marked_alike p (record p { inside = rest }) refl refl good;
          MayGo = λ k. Unit {0};
          gone = λ k may. gone_marked k;
          MayClose = Unit {0};
          close = λ may. close_marked;
        }

module _ (T A : Type 0) (wakes : A → Option ℕ) (c : Choice) where
  abbrev IsGood : Plain T A → Type 0
  IsGood p = Marked p

  abbrev all_ways : Ways wakes c IsGood IsGood
  all_ways = marked_ways wakes c

  abbrev EndsSo : Code T A → Type 0
  EndsSo code = MayCode wakes c IsGood IsGood all_ways code

  may_call : (call : Call T A) (p : Plain T A) → MayCall wakes c IsGood IsGood all_ways call p
  may_call call p = grind (arith, nat_tests)

  call_marked : (call : Call T A) → Keeps IsGood (does wakes c call)
  call_marked call p good = call_so wakes c IsGood IsGood all_ways call p (may_call call p) good

module _ {T A : Type 0} (wakes : A → Option ℕ) where
  course_marked : (cs : List (Choice × Call T A)) (p : Plain T A) → Marked p → Marked (course wakes cs p)
  course_marked [] p good = good
  course_marked (c ∷ cs) p good = course_marked cs (does wakes c.0 c.1 p) (call_marked T A wakes c.0 c.1 p good)

  pub are_marked : (limit : ℕ) (is_static : Bool) (cs : List (Choice × Call T A)) → Marked (course wakes cs (new limit is_static))
  are_marked limit is_static cs = grind (arith, nat_tests, course_marked)
