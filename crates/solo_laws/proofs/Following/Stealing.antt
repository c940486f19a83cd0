-- A run that steals takes the first of a queue, so many times, and keeps each last; so does the plain scheduler's.
use Rattle.std.proofs.Common.{◌≡◌, ℕ, zero, suc, ◌+◌, ◌-◌, ◌<◌, ◌≤◌, ◌==◌, ◌&&◌, nat_lt, cond, not, if◌then◌else◌, Bool, true}
use Rattle.std.proofs.Common.{false, List, [], ◌∷◌, ◌++◌, length, map, filter, find, drop, Option, Some, None, is_some, slice_get}
use Rattle.std.proofs.Common.{append-nil}
use Rattle.std.proofs.Common.{refl, sym, ap, subst, ◌∙◌, arith}
use Rattle.std.proofs.lemmas.Bool.Decides.{nat_tests}
use Rattle.std.proofs.lemmas.List.Sums.{length-filter}
use Rattle.executor_parts.specs.declared.mark.Mark.{Mark}
use Rattle.executor_parts.specs.Marks.{same_mark}
use Rattle.solo.specs.declared.names.Task.{Task}
use Rattle.solo.specs.declared.names.SoloWaker.{SoloWaker}
use Rattle.solo.specs.declared.owed.Lent.{Lent}
use Rattle.solo.specs.declared.steals.Source.{Source}
use Rattle.solo.specs.declared.steals.Source.TheVariants.{Common, Own}
use Rattle.solo.specs.declared.solo.Solo.{Solo}
use Rattle.solo.specs.Cells.{choose}
use Rattle.solo.specs.Lines.{LinesValue, line_of, popped_from}
use Rattle.solo.specs.OwnQueues as own
use Rattle.solo.specs.OwnQueues.{OwnQueuesValue}
use Rattle.solo.specs.Steals as steals
use Rattle.plain_scheduler.specs.State.{Due, Plain}
use Rattle.plain_scheduler.specs.Lists.{on, or, repeat, without}
use Rattle.plain_scheduler.specs.Moves.{is_common, is_kept, is_run, keeps}
use Rattle.solo_laws.specs.Road.{FollowsBut, IsQueued, apart, beside, due_task, due_task_if, once, stands}
use Rattle.solo_laws.specs.Tabled.{IsTable, named, goes_on, own_of}
use Rattle.solo_laws.specs.Stealing.{share_of}
use Rattle.solo_laws.proofs.Following.Begun.{common_free}
use Rattle.solo_laws.proofs.Following.Cells.{same_number}
use Rattle.solo_laws.proofs.Following.Due.{and_true, both_true, clash, found_gone, found_stands, not_false, not_true, once_last}
use Rattle.solo_laws.proofs.Following.Due.{once_without, stands_last, stood}
use Rattle.solo_laws.proofs.Following.Lines.{filter_last, find_first, kept_if, popped_same, without_first, without_other}
use Rattle.solo_laws.proofs.Following.Lists.{length_map, map_append}
use Rattle.solo_laws.proofs.Following.Shares.{share_most}
use Rattle.solo_laws.proofs.Following.Owns.{changed_made, changed_numbers, changed_queue, mapped, numbers}
use Rattle.solo_laws.proofs.Following.Taking.{head_named, popped, rest_named}

-- which due ones stand in a queue
abbrev pub in_queue : Source → Due → Bool
in_queue (Common mark) = is_common mark
in_queue (Own k) = is_kept k

abbrev pub by_run : ℕ → Due → Due
by_run r d = record d { keeper = Some r }

-- one that is kept has no place in the executor's queues, nor in another run's
pub kept_uncommon : (k : ℕ) (mark : Mark) (d : Due) → is_kept k d ≡ true → is_common mark d ≡ false
kept_uncommon k mark d is = by d.keeper is
  where
    by : (o : Option ℕ) → is_run k o ≡ true → (not (is_some o) && same_mark mark d.mark) ≡ false
    by None is = absurd cc
    by (Some n) is = refl

pub kept_once : (j k : ℕ) → (j == k) ≡ false → (d : Due) → is_kept k d ≡ true → is_kept j d ≡ false
kept_once j k other d is = by d.keeper is
  where
    by : (o : Option ℕ) → is_run k o ≡ true → is_run j o ≡ false
    by None is = refl
    by (Some n) is = subst (λ n. (j == n) ≡ false) (same_number k n is) other

pub none_without : (test other : Due → Bool) (ds : List Due) → filter other ds ≡ [] → filter other (without test ds) ≡ []
none_without test other [] none = refl
none_without test other (d ∷ ds) none = by (test d) (other d) refl (none_without test other ds) none
  where
    by : (b c : Bool) → other d ≡ c → (filter other ds ≡ [] → filter other (without test ds) ≡ [])
        → cond c (d ∷ filter other ds) (filter other ds) ≡ []
        → filter other (cond b ds (d ∷ without test ds)) ≡ []
    by b true is rest none = absurd cc
    by true false is rest none = none
    by false false is rest none =
        ap (λ b. cond b (d ∷ filter other (without test ds)) (filter other (without test ds))) is ∙ rest none

module _ (its : ℕ → Lent) where
  -- the first of an own queue goes
  rest_of : (b : Bool) (ds : List Due) → mapped (drop 1) (own_of its b ds) ≡ own_of its b (drop 1 ds)
  rest_of true ds = ap (λ ts. Some ts) (rest_named (named its) ds)
  rest_of false ds = refl

  -- one comes last, where there is a place
  last_of : (ds : List Due) (d : Due) → nat_lt (length ds) 512 ≡ true
      → mapped (own.pushed (named its d.future)) (own_of its true ds) ≡ own_of its true (ds ++ d ∷ [])
  last_of ds d place =
      let tasks = map (due_task (named its)) ds in
      ap (λ b. Some (choose b (tasks ++ named its d.future ∷ []) tasks))
      (ap (λ n. nat_lt n 512) (length_map (due_task (named its)) ds) ∙ place)
      ∙ ap (λ ts. Some ts) (sym (map_append (due_task (named its)) ds (d ∷ [])))

  count_of : (b : Bool) (ds : List Due) → own.count_in (own_of its b ds) ≤ length ds
  count_of true ds = let same = length_map (due_task (named its)) ds in omega (arith, same)
  count_of false ds = omega arith

  free_of : (ds : List Due) → own.free_in (own_of its true ds) ≡ 512 - length ds
  free_of ds = ap (λ n. 512 - n) (length_map (due_task (named its)) ds)

-- with one aside that was taken
abbrev pub StandsBut : {F T X : Type 0} → Option Due → (ℕ → Lent) → Solo F T X → Plain T (SoloWaker X) → Type 0
StandsBut aside its s p = FollowsBut aside (named its) s p × IsTable its s p

module _ {F T X : Type 0} (its : ℕ → Lent) (s : Solo F T X) (p : Plain T (SoloWaker X)) (table : IsTable its s p) where
  -- the first of a run's own queue goes
  pub own_left : (k j : ℕ) → own.queue_of j (own.changed (drop 1) k s.runs).queues
      ≡ own_of its (goes_on j p) (filter (is_kept j) (without (is_kept k) p.due))
  own_left k j =
      changed_queue (drop 1) k j s.runs
      ∙ (ap (λ o. cond (j == k) (mapped (drop 1) o) o) (table.queues j) ∙ by (j == k) refl)
    where
      left : List Due
      left = without (is_kept k) p.due

      by : (b : Bool) → (j == k) ≡ b
          → cond b (mapped (drop 1) (own_of its (goes_on j p) (filter (is_kept j) p.due)))
          (own_of its (goes_on j p) (filter (is_kept j) p.due))
          ≡ own_of its (goes_on j p) (filter (is_kept j) left)
      by false other =
          ap (own_of its (goes_on j p)) (sym (without_other (is_kept k) (is_kept j) (λ d is. kept_once j k other d is) p.due))
      by true same =
          let one : j ≡ k = same_number j k same in
          rest_of its (goes_on j p) (filter (is_kept j) p.due)
          ∙ ap (own_of its (goes_on j p))
          (ap (λ n. drop 1 (filter (is_kept n) p.due)) one
          ∙ (sym (without_first (is_kept k) p.due) ∙ ap (λ n. filter (is_kept n) left) (sym one)))

module _ {F T X : Type 0} (aside : Option Due) (its : ℕ → Lent) (r : ℕ) (s : Solo F T X) (p : Plain T (SoloWaker X))
    (both : StandsBut aside its s p) (on_it : goes_on r p ≡ true) (test : Due → Bool) (d : Due) (is : find test p.due ≡ Some d) where
  abbrev rest : List Due
  rest = without test p.due

  -- the first of those that pass goes from the executor, and comes last in the run's own queue
  module _ (lines : LinesValue) (runs : OwnQueuesValue) (queued : IsQueued (named its) p.limit lines rest)
      (made : runs.made ≡ length p.runs)
      (queues : (j : ℕ) → own.queue_of j runs.queues ≡ own_of its (goes_on j p) (filter (is_kept j) rest))
      (place : nat_lt (length (filter (is_kept r) rest)) 512 ≡ true) (numbers_so : apart (numbers runs.queues) ≡ true) where
    abbrev now : List Due
    now = rest ++ by_run r d ∷ []

    abbrev after : Solo F T X
    after = steals.kept r (named its d.future) (record s { lines = lines; runs = runs })

    kept_now : (j : ℕ) → filter (is_kept j) now ≡ filter (is_kept j) rest ++ kept_if (is_kept j) (j == r) (by_run r d)
    kept_now j = filter_last (is_kept j) rest (by_run r d)

    was : (b : Bool) (j : ℕ) → stands j now ≡ true → (j == d.future) ≡ b → stands j p.due ≡ true
    was true j due same =
        subst (λ n. stands n p.due ≡ true) (sym (same_number j d.future same)) (found_stands test p.due d is)
    was false j due other = stood test j p.due (stands_last j rest (by_run r d) due other)

    was_but : (aside : Option Due) (j : ℕ) → stands j (beside aside now) ≡ true → stands j (beside aside p.due) ≡ true
    was_but None j due = was (j == d.future) j due refl
    was_but (Some e) j due = by (j == e.future) due
      where
        by : (b : Bool) → cond b true (stands j now) ≡ true → cond b true (stands j p.due) ≡ true
        by true due = refl
        by false due = was (j == d.future) j due refl

    once_now : once p.due ≡ true → once now ≡ true
    once_now all = once_last rest (by_run r d) (once_without test p.due all) (found_gone test p.due d is all)

    once_but : (aside : Option Due) → once (beside aside p.due) ≡ true → once (beside aside now) ≡ true
    once_but None all = once_now all
    once_but (Some e) all =
        let two = both_true (not (stands e.future p.due)) (once p.due) all in
        and_true (not (stands e.future now)) (once now)
        (not_false (stands e.future now) (out (not_true (stands e.future p.due) two.0) (stands e.future now) refl)) (once_now two.1)
      where
        out : stands e.future p.due ≡ false → (b : Bool) → stands e.future now ≡ b → b ≡ false
        out none false has = refl
        out none true has = absurd (clash none (was (e.future == d.future) e.future has refl))

    follows : FollowsBut aside (named its) after (record p { due = now })
    follows =
        let f = both.0 in
        record {
          numbered = f.numbered;
          tasks = f.tasks;
          within = f.within;
          queued = record {
            lines = λ mark.
                queued.lines mark
                ∙ ap (map (due_task (named its)))
                (sym (filter_last (is_common mark) rest (by_run r d) ∙ append-nil (filter (is_common mark) rest)));
            unclosed = queued.unclosed;
            limit = queued.limit;
          };
          once = once_but aside f.once;
          ready = λ j due. f.ready j (was_but aside j due);
          asleep = f.asleep;
          awaiters = f.awaiters;
          inside = f.inside;
        }

    queues_now : (j : ℕ) → own.queue_of j after.runs.queues ≡ own_of its (goes_on j p) (filter (is_kept j) now)
    queues_now j =
        changed_queue (own.pushed (named its d.future)) r j runs
        ∙ (ap (λ o. cond (j == r) (mapped (own.pushed (named its d.future)) o) o) (queues j)
        ∙ (by (j == r) refl ∙ ap (own_of its (goes_on j p)) (sym (kept_now j))))
      where
        ds : List Due
        ds = filter (is_kept j) rest

        by : (b : Bool) → (j == r) ≡ b
            → cond b (mapped (own.pushed (named its d.future)) (own_of its (goes_on j p) ds)) (own_of its (goes_on j p) ds)
            ≡ own_of its (goes_on j p) (ds ++ kept_if (is_kept j) b (by_run r d))
        by false other = ap (own_of its (goes_on j p)) (sym (append-nil ds))
        by true same =
            let one : j ≡ r = same_number j r same in
            let going : goes_on j p ≡ true = ap (λ n. goes_on n p) one ∙ on_it in
            let room : nat_lt (length ds) 512 ≡ true = ap (λ n. nat_lt (length (filter (is_kept n) rest)) 512) one ∙ place in
            ap (λ b. mapped (own.pushed (named its d.future)) (own_of its b ds)) going
            ∙ (last_of its ds (by_run r d) room ∙ sym (ap (λ b. own_of its b (ds ++ by_run r d ∷ [])) going))

    none_kept : (j : ℕ) → goes_on j p ≡ false → filter (is_kept j) now ≡ []
    none_kept j over =
        kept_now j
        ∙ by (j == r) refl (none_without test (is_kept j) p.due (both.1.kept j over))
      where
        by : (b : Bool) → (j == r) ≡ b → filter (is_kept j) rest ≡ []
            → filter (is_kept j) rest ++ kept_if (is_kept j) b (by_run r d) ≡ []
        by false other none = append-nil (filter (is_kept j) rest) ∙ none
        by true same none = absurd (clash (ap (λ n. goes_on n p) (sym (same_number j r same)) ∙ over) on_it)

    table : IsTable its after (record p { due = now })
    table =
        let t = both.1 in
        record {
          rows = t.rows;
          homes = t.homes;
          keys_apart = t.keys_apart;
          limit = t.limit;
          accepted = t.accepted;
          kind = t.kind;
          lent = t.lent;
          dropping = t.dropping;
          made = changed_made (own.pushed (named its d.future)) r runs ∙ made;
          queues = queues_now;
          kept = none_kept;
          numbers_apart = ap apart (changed_numbers (own.pushed (named its d.future)) r runs) ∙ numbers_so;
          going = t.going;
          leaving = t.leaving;
          leaving_open = t.leaving_open;
          leaving_limit = t.leaving_limit;
          few = t.few;
          unleaked = t.unleaked;
        }

    moves : StandsBut aside its after (record p { due = now })
    moves = (follows, table)

  -- from one of the executor's queues
  common_moves : (mark : Mark) → test ≡ is_common mark → nat_lt (length (filter (is_kept r) p.due)) 512 ≡ true
      → StandsBut aside its (steals.kept r (named its d.future) (steals.without_first (Common mark) s))
      (record p { due = rest ++ by_run r d ∷ [] })
  common_moves mark same place =
      moves (popped_from mark s.lines) s.runs
      (record {
        lines =
            subst (λ test. (m : Mark) → (line_of m (popped_from mark s.lines)).items
            ≡ map (due_task (named its)) (filter (is_common m) (without test p.due))) (sym same)
            (popped (named its) mark s.lines p.due both.0.queued.lines);
        unclosed = λ m. popped_same (λ q. q.closed) (λ q. refl) mark m s.lines ∙ both.0.queued.unclosed m;
        limit = λ m. popped_same (λ q. q.capacity) (λ q. refl) mark m s.lines ∙ both.0.queued.limit m;
      })
      both.1.made
      (λ j. both.1.queues j ∙ ap (own_of its (goes_on j p)) (sym (others j)))
      (ap (λ ds. nat_lt (length ds) 512) (others r) ∙ place) both.1.numbers_apart
    where
      others : (j : ℕ) → filter (is_kept j) rest ≡ filter (is_kept j) p.due
      others j =
          without_other test (is_kept j)
          (λ d passes. common_free mark j d (sym (ap (λ (t : Due → Bool). t d) same) ∙ passes)) p.due

  -- from the own queue of another run
  own_moves : (k : ℕ) → test ≡ is_kept k → (r == k) ≡ false → nat_lt (length (filter (is_kept r) p.due)) 512 ≡ true
      → StandsBut aside its (steals.kept r (named its d.future) (steals.without_first (Own k) s))
      (record p { due = rest ++ by_run r d ∷ [] })
  own_moves k same away place =
      moves s.lines (own.changed (drop 1) k s.runs)
      (record {
        lines = λ m. both.0.queued.lines m ∙ ap (map (due_task (named its))) (sym (commons m));
        unclosed = both.0.queued.unclosed;
        limit = both.0.queued.limit;
      })
      (changed_made (drop 1) k s.runs ∙ both.1.made) queues_left
      (ap (λ ds. nat_lt (length ds) 512) (others r away) ∙ place)
      (ap apart (changed_numbers (drop 1) k s.runs) ∙ both.1.numbers_apart)
    where
      passes_so : (d : Due) → test d ≡ true → is_kept k d ≡ true
      passes_so d passes = sym (ap (λ (t : Due → Bool). t d) same) ∙ passes

      commons : (m : Mark) → filter (is_common m) rest ≡ filter (is_common m) p.due
      commons m = without_other test (is_common m) (λ d passes. kept_uncommon k m d (passes_so d passes)) p.due

      others : (j : ℕ) → (j == k) ≡ false → filter (is_kept j) rest ≡ filter (is_kept j) p.due
      others j away = without_other test (is_kept j) (λ d passes. kept_once j k away d (passes_so d passes)) p.due

      queues_left : (j : ℕ) → own.queue_of j (own.changed (drop 1) k s.runs).queues ≡ own_of its (goes_on j p) (filter (is_kept j) rest)
      queues_left j =
          own_left its s p both.1 k j ∙ ap (λ t. own_of its (goes_on j p) (filter (is_kept j) (without t p.due))) (sym same)

-- the queue is no run's own, or another's
abbrev is_other : ℕ → Source → Bool
is_other r (Common mark) = true
is_other r (Own k) = not (r == k)

module _ {T X : Type 0} where
  abbrev kept_of : ℕ → Plain T (SoloWaker X) → ℕ
  kept_of r p = length (filter (is_kept r) p.due)

  abbrev there : Source → Plain T (SoloWaker X) → List Due
  there source p = filter (in_queue source) p.due

module _ {T X : Type 0} (r : ℕ) where
  -- which leaves one fewer there, and one more with the run
  fewer : (source : Source) (p : Plain T (SoloWaker X)) (d : Due) → is_other r source ≡ true
      → there source (record p { due = without (in_queue source) p.due ++ by_run r d ∷ [] }) ≡ drop 1 (there source p)
  fewer source p d other =
      filter_last (in_queue source) (without (in_queue source) p.due) (by_run r d)
      ∙ (ap (λ ds. ds ++ kept_if (in_queue source) (in_queue source (by_run r d)) (by_run r d)) (without_first (in_queue source) p.due)
      ∙ (ap (λ b. drop 1 (there source p) ++ kept_if (in_queue source) b (by_run r d)) (away source other)
      ∙ append-nil (drop 1 (there source p))))
    where
      away : (source : Source) → is_other r source ≡ true → in_queue source (by_run r d) ≡ false
      away (Common mark) other = refl
      away (Own k) other = turned k r (not_true (r == k) other)
        where
          turned : (a b : ℕ) → (b == a) ≡ false → (a == b) ≡ false
          turned a b is = grind (arith, nat_tests)

  more : (source : Source) (p : Plain T (SoloWaker X)) (d : Due) → is_other r source ≡ true
      → kept_of r (record p { due = without (in_queue source) p.due ++ by_run r d ∷ [] }) ≡ suc (kept_of r p)
  more source p d other =
      ap length
      (filter_last (is_kept r) (without (in_queue source) p.due) (by_run r d)
      ∙ (ap (λ ds. ds ++ kept_if (is_kept r) (r == r) (by_run r d))
      (without_other (in_queue source) (is_kept r) (unkept source other) p.due)
      ∙ ap (λ b. filter (is_kept r) p.due ++ kept_if (is_kept r) b (by_run r d)) (itself r)))
      ∙ longer (filter (is_kept r) p.due)
    where
      itself : (n : ℕ) → (n == n) ≡ true
      itself n = grind (arith, nat_tests)

      longer : (ds : List Due) → length (ds ++ by_run r d ∷ []) ≡ suc (length ds)
      longer [] = refl
      longer (e ∷ ds) = ap suc (longer ds)

      unkept : (source : Source) → is_other r source ≡ true → (e : Due) → in_queue source e ≡ true → is_kept r e ≡ false
      unkept (Common mark) other e is = common_free mark r e is
      unkept (Own k) other e is = kept_once r k (not_true (r == k) other) e is

  keeps_is : (test : Due → Bool) (p : Plain T (SoloWaker X)) (d : Due) → find test p.due ≡ Some d → nat_lt (kept_of r p) 512 ≡ true
      → keeps r test p ≡ record p { due = without test p.due ++ by_run r d ∷ [] }
  keeps_is test p d is place =
      ap (λ n. if nat_lt n 512 then on (find test p.due) (λ d p. record p { due = without test p.due ++ by_run r d ∷ [] }) p else p)
      (sym (length-filter (is_kept r) p.due))
      ∙ (ap (λ b. if b then on (find test p.due) (λ d p. record p { due = without test p.due ++ by_run r d ∷ [] }) p else p) place
      ∙ ap (λ o. on o (λ d p. record p { due = without test p.due ++ by_run r d ∷ [] }) p) is)

module _ {F T X : Type 0} (aside : Option Due) (its : ℕ → Lent) (r : ℕ) where
  -- the first is what is found
  first_found : (source : Source) (s : Solo F T X) (p : Plain T (SoloWaker X)) → StandsBut aside its s p → (d : Due)
      → find (in_queue source) p.due ≡ Some d → steals.first_of source s ≡ Some (named its d.future)
  first_found (Common mark) s p both d is =
      ap (λ (ts : List Task). slice_get ts 0) (both.0.queued.lines mark)
      ∙ (head_named (named its) (filter (is_common mark) p.due)
      ∙ ap (due_task_if (named its)) (sym (find_first (is_common mark) p.due) ∙ is))
  first_found (Own k) s p both d is =
      ap own.first_in (both.1.queues k)
      ∙ by (goes_on k p) refl (sym (find_first (is_kept k) p.due) ∙ is)
    where
      none_first : (ds : List Due) → ds ≡ [] → slice_get ds 0 ≡ Some d → ⊥
      none_first [] none is = absurd cc
      none_first (e ∷ ds) none is = absurd cc

      first_named : (ds : List Due) → slice_get ds 0 ≡ Some d → slice_get (map (due_task (named its)) ds) 0 ≡ Some (named its d.future)
      first_named [] is = absurd cc
      first_named (e ∷ ds) is = ap (λ o. or o (λ (d : Due). Some (named its d.future)) None) is

      by : (b : Bool) → goes_on k p ≡ b → slice_get (filter (is_kept k) p.due) 0 ≡ Some d
          → own.first_in (own_of its b (filter (is_kept k) p.due)) ≡ Some (named its d.future)
      by true going first = first_named (filter (is_kept k) p.due) first
      by false over first = absurd (none_first (filter (is_kept k) p.due) (both.1.kept k over) first)

  -- one is moved, where there is a place
  moves_one : (source : Source) (s : Solo F T X) (p : Plain T (SoloWaker X)) → StandsBut aside its s p → goes_on r p ≡ true
      → is_other r source ≡ true → (d : Due) → find (in_queue source) p.due ≡ Some d → nat_lt (kept_of r p) 512 ≡ true
      → StandsBut aside its (steals.kept r (named its d.future) (steals.without_first source s))
      (record p { due = without (in_queue source) p.due ++ by_run r d ∷ [] })
  moves_one (Common mark) s p both going other d is place =
      common_moves aside its r s p both going (is_common mark) d is mark refl place
  moves_one (Own k) s p both going other d is place =
      own_moves aside its r s p both going (is_kept k) d is k refl (not_true (r == k) other) place

  -- so many are moved, one after the other
  pub moves_all : (n : ℕ) (source : Source) (s : Solo F T X) (p : Plain T (SoloWaker X)) → StandsBut aside its s p → goes_on r p ≡ true
      → is_other r source ≡ true → n ≤ length (there source p) → n + kept_of r p ≤ 512
      → StandsBut aside its (steals.moved n source r s) (repeat n (keeps r (in_queue source)) p)
  moves_all zero source s p both going other enough room = both
  moves_all (suc n) source s p both going other enough room =
      let f = first_there (there source p) enough in
      let found : find (in_queue source) p.due ≡ Some f.0 = find_first (in_queue source) p.due ∙ f.1 in
      let place : nat_lt (kept_of r p) 512 ≡ true = has_place (kept_of r p) room in
      let q : Plain T (SoloWaker X) = record p { due = without (in_queue source) p.due ++ by_run r f.0 ∷ [] } in
      let one : StandsBut aside its (steals.kept r (named its f.0.future) (steals.without_first source s)) q =
      moves_one source s p both going other f.0 found place in
      let left : n ≤ length (there source q) =
      subst (λ ds. n ≤ length ds) (sym (fewer r source p f.0 other)) (shorter (there source p) enough) in
      let most : n + kept_of r q ≤ 512 =
      (let same = more r source p f.0 other in omega (arith, room, same)) in
      subst
      (λ o. StandsBut aside its (steals.moved_on o (steals.without_first source s)
      (λ task. steals.moved n source r (steals.kept r task (steals.without_first source s))))
      (repeat n (keeps r (in_queue source)) (keeps r (in_queue source) p)))
      (sym (first_found source s p both f.0 found))
      (subst
      (λ q. StandsBut aside its (steals.moved n source r (steals.kept r (named its f.0.future) (steals.without_first source s)))
      (repeat n (keeps r (in_queue source)) q))
      (sym (keeps_is r (in_queue source) p f.0 found place))
      (moves_all n source (steals.kept r (named its f.0.future) (steals.without_first source s)) q one going other left most))
    where
      first_there : (ds : List Due) → suc n ≤ length ds → (d : Due) × (slice_get ds 0 ≡ Some d)
      first_there [] enough = absurd (omega (arith, enough))
      first_there (d ∷ ds) enough = (d, refl)

      has_place : (k : ℕ) → suc n + k ≤ 512 → nat_lt k 512 ≡ true
      has_place k room = below k 512 (omega (arith, room))
        where
          below : (a b : ℕ) → a < b → nat_lt a b ≡ true
          below a b is = grind (arith, nat_tests)

      shorter : (ds : List Due) → suc n ≤ length ds → n ≤ length (drop 1 ds)
      shorter [] enough = absurd (omega (arith, enough))
      shorter (d ∷ ds) enough = omega (arith, enough)

  -- a share is there, and has its places
  pub length_there : (source : Source) (s : Solo F T X) (p : Plain T (SoloWaker X)) → StandsBut aside its s p
      → steals.length_of source s ≤ length (there source p)
  length_there (Common mark) s p both =
      let same = ap (λ (ts : List Task). length ts) (both.0.queued.lines mark) in
      let long = length_map (due_task (named its)) (there (Common mark) p) in
      omega (arith, same, long)
  length_there (Own k) s p both =
      subst (λ o. own.count_in o ≤ length (filter (is_kept k) p.due)) (sym (both.1.queues k))
      (count_of its (goes_on k p) (filter (is_kept k) p.due))

  pub free_there : (s : Solo F T X) (p : Plain T (SoloWaker X)) → StandsBut aside its s p → goes_on r p ≡ true
      → own.free_of r s.runs ≡ 512 - kept_of r p
  free_there s p both going =
      ap own.free_in (both.1.queues r)
      ∙ (ap (λ b. own.free_in (own_of its b (filter (is_kept r) p.due))) going ∙ free_of its (filter (is_kept r) p.due))

  -- the run keeps 512 at most
  module _ (s : Solo F T X) (p : Plain T (SoloWaker X)) (both : StandsBut aside its s p) (going : goes_on r p ≡ true) where
    pub steals_all : (source : Source) → is_other r source ≡ true
        → StandsBut aside its (steals.stolen source r s) (repeat (share_of source r s) (keeps r (in_queue source)) p)
    steals_all source other = by (share_of source r s) refl
      where
        most : (share_of source r s ≤ steals.length_of source s) × (share_of source r s ≤ own.free_of r s.runs)
        most = share_most (steals.length_of source s) (own.free_of r s.runs)

        by : (n : ℕ) → share_of source r s ≡ n
            → StandsBut aside its (steals.moved n source r s) (repeat n (keeps r (in_queue source)) p)
        by zero none = both
        by (suc n) is =
            moves_all (suc n) source s p both going other
            (let first = most.0 in let long = length_there source s p both in omega (arith, first, long, is))
            (let last = most.1 in let free = free_there s p both going in omega (arith, last, free, is))
