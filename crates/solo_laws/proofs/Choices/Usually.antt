-- A run that takes a future chooses as usual what it keeps, whether that is its own, is kept by nobody or by another run.
use Rattle.std.proofs.Common.{◌≡◌, ℕ, ◌+◌, ◌≤◌, ◌==◌, nat_lt, if◌then◌else◌, Bool, true, false, List, [], ◌∷◌, ◌++◌, length, find}
use Rattle.std.proofs.Common.{not, map, filter, slice_get, is_some, Option, Some, None, append-nil, refl, sym, ap, subst, ◌∙◌, arith}
use Rattle.std.proofs.lemmas.Bool.Decides.{nat_tests}
use Rattle.executor_parts.specs.declared.mark.Mark.{Mark}
use Rattle.executor_parts.specs.Marks.{other, same_mark}
use Rattle.solo.specs.declared.names.Task.{Task}
use Rattle.solo.specs.declared.names.SoloWaker.{SoloWaker}
use Rattle.solo.specs.declared.owed.Lent.{Lent}
use Rattle.solo.specs.declared.runs.Runner.{Runner}
use Rattle.solo.specs.declared.steals.Source.TheVariants.{Common}
use Rattle.solo.specs.declared.solo.Solo.{Solo}
use Rattle.solo.specs.declared.ticks.Ticker.{Ticker}
use Rattle.solo.specs.Cells.{choose}
use Rattle.solo.specs.Lines.{LinesValue, first_of as first_in, found_by, found_from, line_of, mark_of_turn, popped_from, search_answer}
use Rattle.solo.specs.Lines.{turned}
use Rattle.solo.specs.OwnQueues as own
use Rattle.solo.specs.Runs as runs
use Rattle.solo.specs.Solo as solo
use Rattle.solo.specs.Steals as steals
use Rattle.executor_parts.specs.Sleepers.{Sleepers}
use Rattle.plain_scheduler.specs.State.{ARun, Choice, Due, Plain, Run, Who}
use Rattle.plain_scheduler.specs.Lists.{any, each, or, repeat, without}
use Rattle.plain_scheduler.specs.Moves.{chosen, is_common, is_due, is_kept, keeps, looks, tell, up}
use Rattle.plain_scheduler.specs.Takes as takes
use Rattle.plain_scheduler.specs.Usual.{is_64th, keeping, next_ones, of_both, usual_keeps}
use Rattle.solo_laws.specs.Numbered.{IsNumbered, ticker_of}
use Rattle.solo_laws.specs.Road.{HasLife, Lined, due_task, tests, wakes}
use Rattle.solo_laws.specs.RunTaking.{searched_further}
use Rattle.solo_laws.specs.Stealing as stealing
use Rattle.solo_laws.specs.Stealing.{share_of, stolen_marks}
use Rattle.solo_laws.specs.Tabled.{Stands, goes_on, named}
use Rattle.solo_laws.specs.Walking.{robbed, robs_more, searched_none}
use Rattle.solo_laws.proofs.Choices.Finding.{common_found}
use Rattle.solo_laws.proofs.Choices.Risen.{told_both, told_on}
use Rattle.solo_laws.proofs.Choices.Shares.{both_is, both_same, keeping_is, next_is, of_both_is, ones, ones_of_both}
use Rattle.solo_laws.proofs.Following.Appending.{with_due}
use Rattle.solo_laws.proofs.Following.Begun.{chosen_free}
use Rattle.solo_laws.proofs.Following.Due.{both_true, equal}
use Rattle.solo_laws.proofs.Following.Lines.{find_first}
use Rattle.solo_laws.proofs.Following.Taking.{found_any}
use Rattle.solo_laws.proofs.Following.NextOnes.{each_mark}
use Rattle.solo_laws.proofs.Following.OwnEmpty.{none_kept, popped_both}
use Rattle.solo_laws.proofs.Following.RunSearching as searching
use Rattle.solo_laws.proofs.Following.RunTaking.{first_kept, out_follows, out_table, own_robs, passes}
use Rattle.solo_laws.proofs.Following.RunWalking as walking
use Rattle.solo_laws.proofs.Following.RunWalking.{its_keeper, some_by}
use Rattle.solo_laws.proofs.Following.SameDue.{next_due}

-- where a run counts to 63 and begins anew its next is a 64th, or not, by both
pub steals_at : (runner : Runner) → runner.counted ≤ 63 → runs.is_steal_due runner ≡ is_64th runner.counted
steals_at runner few = by (nat_lt runner.counted 63) refl (runner.counted + 1 == 64) refl
  where
    less : (n : ℕ) → nat_lt n 63 ≡ true → (n + 1 == 64) ≡ true → ⊥
    less n is same = grind (arith, nat_tests)

    more : (n : ℕ) → n ≤ 63 → nat_lt n 63 ≡ false → (n + 1 == 64) ≡ false → ⊥
    more n few is other = grind (arith, nat_tests)

    by : (b : Bool) → nat_lt runner.counted 63 ≡ b → (e : Bool) → (runner.counted + 1 == 64) ≡ e → choose b false true ≡ e
    by true is true same = absurd (less runner.counted is same)
    by true is false same = refl
    by false is true same = refl
    by false is false same = absurd (more runner.counted few is same)

same_some : {a b : Due} {o : Option Due} → o ≡ Some a → o ≡ Some b → a ≡ b
same_some {a} {b} {o} one two = ap (λ o. or o (λ d. d) a) (sym one ∙ two)

same_marks : (m n : Mark) → same_mark m n ≡ true → m ≡ n
same_marks Mark.Plain Mark.Plain is = refl
same_marks Mark.Urgent Mark.Urgent is = refl
same_marks Mark.Plain Mark.Urgent is = absurd cc
same_marks Mark.Urgent Mark.Plain is = absurd cc

-- a search finds one of the mark of the queue in which it finds it
mark_found : (name : ℕ → Task) (m : Mark) (l : LinesValue) (ds : List Due) → Lined name l ds → (d : Due)
    → find (chosen (tests m) ds) ds ≡ Some d → (found_from m (turned l)).mark ≡ d.mark
mark_found name m l ds lined d is = by (filter (is_common m) ds) refl
  where
    turned_items : (m : Mark) → (line_of m (turned l)).items ≡ (line_of m l).items
    turned_items Mark.Plain = refl
    turned_items Mark.Urgent = refl

    has_mark : (m : Mark) → is_common m d ≡ true → m ≡ d.mark
    has_mark m so = same_marks m d.mark (both_true (not (is_some d.keeper)) (same_mark m d.mark) so).1

    test_by : Bool → Bool → Bool
    test_by a b = if a then is_common m d else (if b then is_common (other m) d else false)

    passed : (xs : List Due) → filter (is_common m) ds ≡ xs → test_by (is_some (slice_get xs 0)) (any (is_common (other m)) ds) ≡ true
    passed xs so =
        sym (ap (λ a. test_by a (any (is_common (other m)) ds))
        (found_any (is_common m) ds
        ∙ ap (λ o. is_some o) (find_first (is_common m) ds ∙ ap (λ (xs : List Due). slice_get xs 0) so)))
        ∙ passes (chosen (tests m) ds) ds d is

    first : (xs : List Due) → filter (is_common m) ds ≡ xs → first_in m (turned l) ≡ slice_get (map (due_task name) xs) 0
    first xs so = ap (λ (ts : List Task). slice_get ts 0) (turned_items m ∙ (lined m ∙ ap (map (due_task name)) so))

    by : (xs : List Due) → filter (is_common m) ds ≡ xs → (found_from m (turned l)).mark ≡ d.mark
    by [] so =
        ap (λ o. (found_by o m (popped_from m (turned l))).mark) (first [] so)
        ∙ has_mark (other m) (later (any (is_common (other m)) ds) (passed [] so))
      where
        later : (b : Bool) → (if b then is_common (other m) d else false) ≡ true → is_common (other m) d ≡ true
        later true so = so
        later false so = absurd cc
    by (x ∷ xs) so =
        ap (λ o. (found_by o m (popped_from m (turned l))).mark) (first (x ∷ xs) so) ∙ has_mark m (passed (x ∷ xs) so)

module _ {F T X : Type 0} (its : ℕ → Lent) (number : Who → ℕ) (s : Solo F T X) (p : Plain T (SoloWaker X)) (both : Stands its s p)
    (n : IsNumbered number s.sleepers p.lying) (c : Choice) (runner : Runner) (w : SoloWaker X) (going : goes_on runner.number p ≡ true)
    (many : length p.lying ≤ c.tells) (life : HasLife 5 s.lines) where
  abbrev r : ℕ
  r = runner.number

  abbrev ticker : Ticker
  ticker = ticker_of number (ARun r) p.lying

  abbrev last : Bool
  last = runs.is_steal_due runner

  abbrev risen : Plain T (SoloWaker X) → Plain T (SoloWaker X)
  risen q = tell wakes c (up wakes c (ARun r) q)

  abbrev left_by : (Due → Bool) → Plain T (SoloWaker X)
  left_by test = record p { due = without test p.due }

  -- by the test that finds it
  abbrev pub KeepsSo : (Due → Bool) → Type 0
  KeepsSo test = (d : Due) → find test p.due ≡ Some d → c.keeps ≡ usual_keeps wakes c r last d (left_by test)

  -- with every 64th of both
  with_64th : (b : Bool) (z : Solo F T X) (q : Plain T (SoloWaker X)) → Stands its z q → goes_on r q ≡ true
      → stolen_marks b r z ≡ (if b then of_both wakes c r q else [])
  with_64th false z q stands on = refl
  with_64th true z q stands on = both_is None its r z q stands on ∙ sym (of_both_is r c q)

  -- it keeps these besides
  abbrev keeps_with : List Mark → Plain T (SoloWaker X) → List Mark
  keeps_with marks q = marks ++ (if last then of_both wakes c r (keeping wakes c r marks q) else [])

  abbrev by_keeper : Option ℕ → Mark → Plain T (SoloWaker X) → List Mark
  by_keeper o mark left = keeps_with (or o (λ k. []) (next_ones wakes c r mark left)) (risen (takes.robbed wakes c r o left))

  abbrev all_looks : Due → Bool
  all_looks = chosen (looks c (Run r w)) p.due

  -- one of its own
  module _ (task : Task) (first : own.first_of r s.runs ≡ Some task)
      (keeps_are : c.keeps ≡ stolen_marks last r (runs.told ticker (steals.own_popped r s))) where
    own_so : KeepsSo (is_kept r)
    own_so d is =
        let left = left_by (is_kept r) in
        let out = out_follows its number s p both n r d is in
        let table = out_table its number s p both n r d is in
        let stands = told_both its number c r d (steals.own_popped r s) left out table n many life going in
        let on = told_on its number c r d (steals.own_popped r s) left out table n many life going in
        keeps_are
        ∙ (with_64th last (runs.told ticker (steals.own_popped r s)) (risen left) stands on
        ∙ (ap (λ q. if last then of_both wakes c r (risen q) else []) (sym (own_robs c r (Some r) left (equal r r refl)))
        ∙ ap (λ o. by_keeper o d.mark left) (sym (its_keeper r d (passes (is_kept r) p.due d is)))))

    any_own : any (is_kept r) p.due ≡ true
    any_own = let it = first_kept its number s p both n r task going first in some_by (is_kept r) p.due it.0 it.1

    pub keeps_own : KeepsSo all_looks
    keeps_own =
        subst (λ b. KeepsSo (λ d. if b then is_kept r d
        else chosen (is_common c.first ∷ is_common (other c.first) ∷ is_kept c.robs ∷ is_due ∷ []) p.due d)) (sym any_own) own_so

  -- neither: one that nobody keeps
  module _ (task : Task) (first : own.first_of r s.runs ≡ None) (found : solo.sought s ≡ Some task)
      (turn : c.first ≡ mark_of_turn s.lines.turn) where
    abbrev its_mark : Mark
    its_mark = (search_answer s.lines).mark

    abbrev empty : Solo F T X
    empty = steals.own_popped r s

    abbrev common_test : Due → Bool
    common_test = chosen (tests c.first) p.due

    empty_both : Stands its empty p
    empty_both = popped_both its s p both r (none_kept its s p both r going first)

    -- its mark is that of the queue in which the search finds it
    marked : (d : Due) → find common_test p.due ≡ Some d → d.mark ≡ its_mark
    marked d is =
        sym (mark_found (named its) (mark_of_turn s.lines.turn) s.lines p.due both.0.queued.lines d
        (sym (ap (λ m. find (chosen (tests m) p.due) p.due) turn) ∙ is))

    module _ (keeps_are : c.keeps
        ≡ stealing.so_many (share_of (Common its_mark) r (solo.popped empty)) its_mark
        ++ stolen_marks last r (runs.told ticker (searched_further r s))) where
      common_so : KeepsSo common_test
      common_so d is =
          let left = left_by common_test in
          let share = share_of (Common its_mark) r (solo.popped empty) in
          let out = searching.out its number empty p empty_both n c runner w going turn many life its_mark d is in
          let table = searching.out_table its number empty p empty_both n c runner w going turn many life its_mark d is in
          let lives = searching.lives its number empty p empty_both n c runner w going turn many life its_mark d is in
          let stolen = searching.stolen_so its number empty p empty_both n c runner w going turn many life its_mark d is in
          let numbered = searching.numbered_so its number empty p empty_both n c runner w going turn many life its_mark d is in
          let appends = searching.appends its number empty p empty_both n c runner w going turn many life its_mark d is in
          let same = searching.same_first its number empty p empty_both n c runner w going turn many life its_mark d is in
          let told_due = searching.told_due its number empty p empty_both n c runner w going turn many life its_mark d is in
          let more = repeat share (next_due r its_mark) left.due in
          let z = searched_further r s in
          let after = repeat share (next_due r its_mark) (left.due ++ appends.tail) in
          let lives' = searching.moved_lives 5 share its_mark r (solo.popped empty) lives in
          let stands = told_both its number c r d z (with_due more left) stolen.0 stolen.1 numbered many lives' going in
          let on = told_on its number c r d z (with_due more left) stolen.0 stolen.1 numbered many lives' going in
          let firsts = stealing.so_many share its_mark in
          let firsts_are : firsts ≡ next_ones wakes c r d.mark left =
          next_is (Some d) its r its_mark (solo.popped empty) left (out, table) going
          ∙ ap (λ m. ones r m left.due) (sym (marked d is)) in
          let q = risen left in
          let kept : keeping wakes c r firsts q ≡ with_due after q =
          keeping_is r c q firsts
          ∙ (ap (λ ms. with_due (each ms (next_due r) q.due) q) (sym (append-nil firsts))
          ∙ (ap (λ ds. with_due ds q) (each_mark (next_due r) share its_mark [] q.due)
          ∙ ap (λ ds. with_due (repeat share (next_due r its_mark) ds) q) told_due)) in
          let keeper : d.keeper ≡ None =
          searching.free d (λ k. chosen_free c.first p.due k d (passes common_test p.due d is)) in
          keeps_are
          ∙ (ap (λ ms. firsts ++ ms) (with_64th last (runs.told ticker z) (risen (with_due more left)) stands on
          ∙ ap (λ ms. if last then ms else [])
          (of_both_is r c (risen (with_due more left))
          ∙ (ap (λ (q : Plain T (SoloWaker X)). ones_of_both r q.due) (appends.is more)
          ∙ (sym (both_same r after (more ++ appends.tail) same)
          ∙ (sym (of_both_is r c (with_due after q)) ∙ ap (λ q. of_both wakes c r q) (sym kept))))))
          ∙ (ap (λ ms. keeps_with ms q) firsts_are
          ∙ ap (λ o. by_keeper o d.mark left) (sym keeper)))

    -- it looks there, as it keeps none
    looks_there : (a b : Bool) → any (is_common c.first) p.due ≡ a → any (is_common (other c.first)) p.due ≡ b
        → KeepsSo (λ d. if a then is_common c.first d else (if b then is_common (other c.first) d else false))
        → KeepsSo (λ d. if a then is_common c.first d
        else (if b then is_common (other c.first) d else chosen (is_kept c.robs ∷ is_due ∷ []) p.due d))
    looks_there true b one two it = it
    looks_there false true one two it = it
    looks_there false false one two it =
        absurd (nobody p.due (passed (common_found its c empty p empty_both turn task found)))
      where
        passed : (d : Due) × (find common_test p.due ≡ Some d) → (d : Due) × (find (λ (d : Due). false) p.due ≡ Some d)
        passed it = (
          it.0,
          sym (ap (λ a. find (λ (d : Due). if a then is_common c.first d
              else (if any (is_common (other c.first)) p.due then is_common (other c.first) d else false)) p.due) one
              ∙ ap (λ b. find (λ (d : Due). if b then is_common (other c.first) d else false) p.due) two) ∙ it.1,
        )

        nobody : (ds : List Due) → (d : Due) × (find (λ (d : Due). false) ds ≡ Some d) → ⊥
        nobody [] it = let no_one : ◌≡◌ {A = Option Due} None (Some it.0) = it.1 in absurd cc
        nobody (d ∷ ds) it = nobody ds it

    pub keeps_common : c.keeps
        ≡ stealing.so_many (share_of (Common its_mark) r (solo.popped empty)) its_mark
        ++ stolen_marks last r (runs.told ticker (searched_further r s))
        → KeepsSo all_looks
    keeps_common keeps_are =
        subst
        (λ b. KeepsSo (λ d. if b then is_kept r d
        else chosen (is_common c.first ∷ is_common (other c.first) ∷ is_kept c.robs ∷ is_due ∷ []) p.due d))
        (sym (none_kept its s p both r going first))
        (looks_there (any (is_common c.first) p.due) (any (is_common (other c.first)) p.due) refl refl (common_so keeps_are))

  -- nor that: one that another keeps
  module _ (start : ℕ) (task : Task) (first : own.first_of r s.runs ≡ None) (found : solo.sought s ≡ None)
      (turn : c.first ≡ mark_of_turn s.lines.turn)
      (has : (steals.whole_round r start (searched_none r s)).0 ≡ Some task)
      (robs : c.robs ≡ (robbed r start (searched_none r s)).0) (moves : c.moves ≡ robs_more r start (searched_none r s))
      (keeps_are : c.keeps ≡ stolen_marks last r (runs.told ticker (steals.walked r start (searched_none r s)))) where
    abbrev k : ℕ
    k = (robbed r start (searched_none r s)).0

    kept_so : KeepsSo (is_kept k)
    kept_so d is =
        let it = walking.found its number s p both n c runner w start task going first found turn many life has robs moves keeps_are in
        let stands = walking.stands_so its number s p both n c runner w start task going first found turn many life has robs moves
        keeps_are in
        let robs_it = walking.robbed_is its number s p both n c runner w start task going first found turn many life has robs moves
        keeps_are in
        let lives = walking.lives its number s p both n c runner w start task going first found turn many life in
        let left = left_by (is_kept k) in
        let z = steals.walked r start (searched_none r s) in
        let m = robs_more r start (searched_none r s) in
        let q = with_due (repeat m (keeps r (is_kept k)) left).due left in
        let numbered = subst (λ (sl : Sleepers (SoloWaker X)). IsNumbered number sl p.lying) (sym it.sleepers_are) n in
        let lives' = subst (λ (l : LinesValue). HasLife 5 l) (sym it.lines_are) lives in
        let told = told_both its number c r it.d z q stands.0 stands.1 numbered many lives' going in
        let on = told_on its number c r it.d z q stands.0 stands.1 numbered many lives' going in
        keeps_are
        ∙ (with_64th last (runs.told ticker z) (risen q) told on
        ∙ (ap (λ q. if last then of_both wakes c r (risen q) else []) (sym robs_it)
        ∙ (ap (λ (e : Due). if last then of_both wakes c r (risen (takes.robbed wakes c r e.keeper left)) else []) (same_some it.is is)
        ∙ by_one d (its_keeper k d (passes (is_kept k) p.due d is)))))
      where
        -- beside one that was kept it keeps none
        by_one : (d : Due) → d.keeper ≡ Some k
            → (if last then of_both wakes c r (risen (takes.robbed wakes c r d.keeper (left_by (is_kept k)))) else [])
            ≡ by_keeper d.keeper d.mark (left_by (is_kept k))
        by_one d keeper =
            ap (λ o. if last then of_both wakes c r (risen (takes.robbed wakes c r o (left_by (is_kept k)))) else []) keeper
            ∙ ap (λ o. by_keeper o d.mark (left_by (is_kept k))) (sym keeper)

    pub keeps_robbed : KeepsSo all_looks
    keeps_robbed =
        let it = walking.found its number s p both n c runner w start task going first found turn many life has robs moves keeps_are in
        let none = walking.commons_none its number s p both n c runner w start task going first found turn many life has robs moves
        keeps_are in
        subst
        (λ b. KeepsSo (λ d. if b then is_kept r d
        else chosen (is_common c.first ∷ is_common (other c.first) ∷ is_kept c.robs ∷ is_due ∷ []) p.due d))
        (sym (none_kept its s p both r going first))
        (subst
        (λ b. KeepsSo (λ d. if b then is_common c.first d
        else chosen (is_common (other c.first) ∷ is_kept c.robs ∷ is_due ∷ []) p.due d)) (sym none.0)
        (subst
        (λ b. KeepsSo (λ d. if b then is_common (other c.first) d else chosen (is_kept c.robs ∷ is_due ∷ []) p.due d)) (sym none.1)
        (subst (λ b. KeepsSo (λ d. if b then is_kept c.robs d else chosen (is_due ∷ []) p.due d))
        (sym (ap (λ k. any (is_kept k) p.due) robs ∙ some_by (is_kept k) p.due it.d it.is))
        (subst (λ k. KeepsSo (is_kept k)) (sym robs) kept_so))))
