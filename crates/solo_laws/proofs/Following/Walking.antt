-- A walk takes from the first of the other runs' own queues in which there is a task: half of it comes into the run's own, of which it
-- takes the first; the plain scheduler's run takes that one, and moves the others.
use Rattle.std.proofs.Common.{◌≡◌, ℕ, zero, suc, ◌+◌, ◌-◌, ◌≤◌, ◌==◌, not, if◌then◌else◌, Bool, true, false, List, [], ◌∷◌}
use Rattle.std.proofs.Common.{length}
use Rattle.std.proofs.Common.{map, filter, find, drop, Option, Some, None, refl, sym, ap, subst, ◌∙◌, arith}
use Rattle.std.proofs.lemmas.Bool.Decides.{nat_tests}
use Rattle.executor_parts.specs.Marks.{other}
use Rattle.executor_parts.specs.Sleepers.{Sleepers}
use Rattle.solo.specs.declared.names.Task.{Task}
use Rattle.solo.specs.declared.names.SoloWaker.{SoloWaker}
use Rattle.solo.specs.declared.owed.Lent.{Lent}
use Rattle.solo.specs.declared.steals.Source.TheVariants.{Own}
use Rattle.solo.specs.declared.solo.Solo.{Solo}
use Rattle.solo.specs.Cells.{choose}
use Rattle.solo.specs.Lines.{LinesValue}
use Rattle.solo.specs.OwnQueues as own
use Rattle.solo.specs.Steals as steals
use Rattle.plain_scheduler.specs.State.{Due, Plain, Who}
use Rattle.plain_scheduler.specs.Lists.{any, or, repeat, without}
use Rattle.plain_scheduler.specs.Moves.{is_kept, keeps}
use Rattle.solo_laws.specs.Numbered.{IsNumbered}
use Rattle.solo_laws.specs.Road.{FollowsBut, due_task}
use Rattle.solo_laws.specs.Stealing.{share_of}
use Rattle.solo_laws.specs.Tabled.{IsTable, Stands, goes_on, named, own_of}
use Rattle.solo_laws.specs.Walking.{robbed_on}
use Rattle.solo_laws.proofs.Following.Appending.{with_due}
use Rattle.solo_laws.proofs.Following.Lines.{any_none, without_first}
use Rattle.solo_laws.proofs.Following.Numbers.{turn}
use Rattle.solo_laws.proofs.Following.OwnEmpty.{none_kept, popped_both}
use Rattle.solo_laws.proofs.Following.OwnMoves.{comes_and_goes, goes_first}
use Rattle.solo_laws.proofs.Following.Owns.{changed_queue, mapped}
use Rattle.solo_laws.proofs.Following.RunTaking.{first_kept, moved_one, out_follows, out_table}
use Rattle.solo_laws.proofs.Following.Shares.{share_most}
use Rattle.solo_laws.proofs.Following.Stealing.{length_there, moves_all, none_without}

module _ {F T X : Type 0} where
  -- steals from own queues leave the executor's and who sleeps
  abbrev Only : Solo F T X → Solo F T X → Type 0
  Only s z = (z.lines ≡ s.lines) × (z.sleepers ≡ s.sleepers)

  own_only : (n k r : ℕ) (s : Solo F T X) → Only s (steals.moved n (Own k) r s)
  own_only zero k r s = (refl, refl)
  own_only (suc n) k r s =
      by (steals.first_of (Own k) s) (λ task. own_only n k r (steals.kept r task (steals.without_first (Own k) s)))
    where
      by : (o : Option Task)
          → ((task : Task) → Only (steals.kept r task (steals.without_first (Own k) s))
          (steals.moved n (Own k) r (steals.kept r task (steals.without_first (Own k) s))))
          → Only s (steals.moved_on o (steals.without_first (Own k) s)
          (λ task. steals.moved n (Own k) r (steals.kept r task (steals.without_first (Own k) s))))
      by None more = (refl, refl)
      by (Some task) more = more task

pub only_due : {T X : Type 0} (r n : ℕ) (test : Due → Bool) (p : Plain T (SoloWaker X))
    → repeat n (keeps r test) p ≡ with_due (repeat n (keeps r test) p).due p
only_due r zero test p = refl
only_due r (suc n) test p =
    let q = repeat n (keeps r test) (keeps r test p) in
    only_due r n test (keeps r test p) ∙ ap (λ z. with_due q.due z) (moved_one r test p).is

module _ {T X : Type 0} where
  -- without the first that a run keeps, and with so many more moved to another
  abbrev left_of : ℕ → Plain T (SoloWaker X) → Plain T (SoloWaker X)
  left_of k p = record p { due = without (is_kept k) p.due }

  abbrev moved_of : ℕ → ℕ → ℕ → Plain T (SoloWaker X) → Plain T (SoloWaker X)
  moved_of r m k p = repeat m (keeps r (is_kept k)) (left_of k p)

module _ {F T X : Type 0} (its : ℕ → Lent) (number : Who → ℕ) (p : Plain T (SoloWaker X)) (r : ℕ) (going : goes_on r p ≡ true)
    (none : any (is_kept r) p.due ≡ false) (lines : LinesValue) (sleepers : Sleepers (SoloWaker X))
    (n : IsNumbered number sleepers p.lying) (task : Task) where
  -- both stand so, with nothing in the run's own queue
  pub record At (s : Solo F T X) : Type 0 where
    pub stands : Stands its s p
    pub lines_are : s.lines ≡ lines
    pub sleepers_are : s.sleepers ≡ sleepers

  -- it takes this one from another run, and moves so many more
  pub record Found (z : Solo F T X) (k m : ℕ) : Type 0 where
    pub d : Due
    pub is : find (is_kept k) p.due ≡ Some d
    pub task_is : named its d.future ≡ task
    pub away : (r == k) ≡ false
    pub follows : FollowsBut (Some d) (named its) z (moved_of r m k p)
    pub table : IsTable its z (moved_of r m k p)
    pub lines_are : z.lines ≡ lines
    pub sleepers_are : z.sleepers ≡ sleepers

  -- a look into the own queue of another run
  module _ (s : Solo F T X) (at : At s) (k : ℕ) (away : (r == k) ≡ false) where
    numbered : IsNumbered number s.sleepers p.lying
    numbered = subst (λ sl. IsNumbered number sl p.lying) (sym at.sleepers_are) n

    no_kept : filter (is_kept r) p.due ≡ []
    no_kept = any_none (is_kept r) p.due none

    empty : own.queue_of r s.runs.queues ≡ Some []
    empty =
        at.stands.1.queues r
        ∙ (ap (λ b. own_of its b (filter (is_kept r) p.due)) going ∙ ap (λ ds. Some (map (due_task (named its)) ds)) no_kept)

    abbrev first : Solo F T X
    first = steals.without_first (Own k) s

    first_empty : own.queue_of r first.runs.queues ≡ Some []
    first_empty =
        changed_queue (λ ts. drop 1 ts) k r s.runs
        ∙ (ap (λ b. if b then mapped (λ ts. drop 1 ts) (own.queue_of r s.runs.queues) else own.queue_of r s.runs.queues) away ∙ empty)

    -- there is one, and it is the first of those
    abbrev Hit : Task → Type 0
    Hit x = (d : Due) × (find (is_kept k) p.due ≡ Some d) × (named its d.future ≡ x)

    hits : (x : Task) → own.first_of k s.runs ≡ Some x → Hit x
    hits x here = by (goes_on k p) refl
      where
        by : (b : Bool) → goes_on k p ≡ b → Hit x
        by true on_it = first_kept its number s p at.stands numbered k x on_it here
        by false over =
            let none_is : own.queue_of k s.runs.queues ≡ None =
            at.stands.1.queues k ∙ ap (λ b. own_of its b (filter (is_kept k) p.due)) over in
            let it : ◌≡◌ {A = Option Task} None (Some x) = sym (ap own.first_in none_is) ∙ here in
            absurd cc

    misses : own.first_of k s.runs ≡ None → any (is_kept k) p.due ≡ false
    misses here = by (goes_on k p) refl
      where
        none_any : (ds : List Due) → filter (is_kept k) ds ≡ [] → any (is_kept k) ds ≡ false
        none_any [] is = refl
        none_any (d ∷ ds) is = one (is_kept k d) is (none_any ds)
          where
            one : (b : Bool) → (if b then d ∷ filter (is_kept k) ds else filter (is_kept k) ds) ≡ []
                → (filter (is_kept k) ds ≡ [] → any (is_kept k) ds ≡ false) → (if b then true else any (is_kept k) ds) ≡ false
            one true is rest = absurd cc
            one false is rest = rest is

        by : (b : Bool) → goes_on k p ≡ b → any (is_kept k) p.due ≡ false
        by true on_it = none_kept its s p at.stands k on_it here
        by false over = none_any p.due (at.stands.1.kept k over)

    -- of so many that it steals
    module _ (m : ℕ) (share : share_of (Own k) r s ≡ suc m) (x : Task) (here : own.first_of k s.runs ≡ Some x) where
      few : suc m ≤ 512
      few =
          let most = (share_most (steals.length_of (Own k) s) (own.free_of r s.runs)).1 in
          let free = ap own.free_in empty in
          omega (arith, most, free, share)

      kept_first : own.queue_of r (steals.kept r x first).runs.queues ≡ Some (x ∷ [])
      kept_first =
          changed_queue (own.pushed x) r r first.runs
          ∙ (ap (λ b. if b then mapped (own.pushed x) (own.queue_of r first.runs.queues) else own.queue_of r first.runs.queues) (itself r)
          ∙ ap (mapped (own.pushed x)) first_empty)
        where
          itself : (n : ℕ) → (n == n) ≡ true
          itself n = grind (arith, nat_tests)

      both_ways : (steals.own_popped r (steals.moved m (Own k) r (steals.kept r x first))
          ≡ steals.moved m (Own k) r (steals.own_popped r (steals.kept r x first)))
          × (own.first_of r (steals.moved m (Own k) r (steals.kept r x first)).runs ≡ Some x)
      both_ways = goes_first r k away m x [] (steals.kept r x first) kept_first (let it = few in omega (arith, it))

      stolen_is : steals.own_popped r (steals.moved m (Own k) r (steals.kept r x first)) ≡ steals.moved m (Own k) r first
      stolen_is = both_ways.0 ∙ ap (λ z. steals.moved m (Own k) r z) (comes_and_goes r k away x first first_empty)

      found_so : x ≡ task → Found (steals.own_popped r (steals.moved m (Own k) r (steals.kept r x first))) k m
      found_so same =
          let hit = hits x here in
          let both = moves_all (Some hit.0) its r m (Own k) first (left_of k p)
          (out_follows its number s p at.stands numbered k hit.0 hit.1, out_table its number s p at.stands numbered k hit.0 hit.1)
          going (ap not away) enough room in
          let only = own_only m k r first in
          subst (λ z. Found z k m) (sym stolen_is)
          (record {
            d = hit.0;
            is = hit.1;
            task_is = hit.2 ∙ same;
            away = away;
            follows = both.0;
            table = both.1;
            lines_are = only.0 ∙ at.lines_are;
            sleepers_are = only.1 ∙ at.sleepers_are;
          })
        where
          enough : m ≤ length (filter (is_kept k) (without (is_kept k) p.due))
          enough =
              let most = (share_most (steals.length_of (Own k) s) (own.free_of r s.runs)).0 in
              let there = length_there None its r (Own k) s p at.stands in
              subst (λ ds. m ≤ length ds) (sym (without_first (is_kept k) p.due))
              (one_less (filter (is_kept k) p.due) (omega (arith, most, there, share)))
            where
              one_less : (ds : List Due) → suc m ≤ length ds → m ≤ length (drop 1 ds)
              one_less [] many = absurd (omega (arith, many))
              one_less (d ∷ ds) many = omega (arith, many)

          room : m + length (filter (is_kept r) (without (is_kept k) p.due)) ≤ 512
          room =
              subst (λ ds. m + length ds ≤ 512) (sym (none_without (is_kept k) (is_kept r) p.due no_kept))
              (let it = few in omega (arith, it))

    -- of all that it steals
    abbrev Looked : ℕ → Type 0
    Looked m =
        let z = steals.moved m (Own k) r s in
        (own.first_of r z.runs ≡ Some task → Found (steals.own_popped r z) k (m - 1))
        × (own.first_of r z.runs ≡ None → At (steals.own_popped r z))

    looks : (m : ℕ) → share_of (Own k) r s ≡ m → Looked m
    looks zero share = (
      λ has. absurd (none_some (ap own.first_in empty) has),
      λ has. record {
        stands = popped_both its s p at.stands r none;
        lines_are = at.lines_are;
        sleepers_are = at.sleepers_are;
      },
    )
      where
        none_some : {o : Option Task} → o ≡ None → o ≡ Some task → ⊥
        none_some off so = absurd cc
    looks (suc m) share =
        subst
        (λ j. (own.first_of r (steals.moved (suc m) (Own k) r s).runs ≡ Some task
        → Found (steals.own_popped r (steals.moved (suc m) (Own k) r s)) k j)
        × (own.first_of r (steals.moved (suc m) (Own k) r s).runs ≡ None → At (steals.own_popped r (steals.moved (suc m) (Own k) r s))))
        (before m) (by (steals.first_of (Own k) s) refl)
      where
        before : (m : ℕ) → m ≡ suc m - 1
        before m = omega arith

        none_some : {o : Option Task} {t : Task} → o ≡ None → o ≡ Some t → ⊥
        none_some off so = absurd cc

        some_same : {o : Option Task} {t u : Task} → o ≡ Some t → o ≡ Some u → t ≡ u
        some_same {o} {t} {u} one two = ap (λ o. or o (λ t. t) t) (sym one ∙ two)

        by : (o : Option Task) → own.first_of k s.runs ≡ o
            → (let z = steals.moved_on o first (λ task. steals.moved m (Own k) r (steals.kept r task first)) in
            (own.first_of r z.runs ≡ Some task → Found (steals.own_popped r z) k m)
            × (own.first_of r z.runs ≡ None → At (steals.own_popped r z)))
        by None here = (
          λ has. absurd (none_some (ap own.first_in first_empty) has),
          λ has. record {
            stands = popped_both its first p (popped_both its s p at.stands k (misses here)) r none;
            lines_are = at.lines_are;
            sleepers_are = at.sleepers_are;
          },
        )
        by (Some x) here = (
          λ has. found_so m share x here (some_same (both_ways m share x here).1 has),
          λ has. absurd (none_some has (both_ways m share x here).1),
        )

  abbrev more_of : ℕ × Solo F T X → ℕ
  more_of from = share_of (Own from.0) r from.1 - 1

  -- round the queues, from this place on
  pub walks : (count places at : ℕ) (s : Solo F T X) → At s → (steals.round count r places at s).0 ≡ Some task
      → Found (steals.round count r places at s).1 (robbed_on count r places at s).0 (more_of (robbed_on count r places at s))
  walks count zero at s stands has = absurd cc
  walks count (suc places) at s stands has =
      by (own.number_at at s.runs.queues == r) refl (λ z there has. walks count places (steals.next_place at count) z there has) has
    where
      k : ℕ
      k = own.number_at at s.runs.queues

      nx : ℕ
      nx = steals.next_place at count

      z : Solo F T X
      z = steals.own_popped r (steals.stolen (Own (own.number_at at s.runs.queues)) r s)

      o : Option Task
      o = own.first_of r (steals.stolen (Own (own.number_at at s.runs.queues)) r s).runs

      pair : Bool → Option Task × Solo F T X
      pair b =
          steals.round_on (choose b None (own.first_of r (steals.stolen (Own (own.number_at at s.runs.queues)) r s).runs))
          (choose b s (steals.own_popped r (steals.stolen (Own (own.number_at at s.runs.queues)) r s)))
          (steals.round count r places (steals.next_place at count)
          (choose b s (steals.own_popped r (steals.stolen (Own (own.number_at at s.runs.queues)) r s))))

      from : Bool → ℕ × Solo F T X
      from b =
          or (choose b None (own.first_of r (steals.stolen (Own (own.number_at at s.runs.queues)) r s).runs))
          (λ task. (own.number_at at s.runs.queues, s))
          (robbed_on count r places (steals.next_place at count)
          (choose b s (steals.own_popped r (steals.stolen (Own (own.number_at at s.runs.queues)) r s))))

      look : (own.number_at at s.runs.queues == r) ≡ false
          → ((z : Solo F T X) → At z → (steals.round count r places (steals.next_place at count) z).0 ≡ Some task
          → Found (steals.round count r places (steals.next_place at count) z).1
          (robbed_on count r places (steals.next_place at count) z).0
          (more_of (robbed_on count r places (steals.next_place at count) z)))
          → (u : Option Task) → o ≡ u
          → (steals.round_on u z (steals.round count r places nx z)).0 ≡ Some task
          → Found (steals.round_on u z (steals.round count r places nx z)).1 (or u (λ task. (k, s)) (robbed_on count r places nx z)).0
          (more_of (or u (λ task. (k, s)) (robbed_on count r places nx z)))
      look other more None here has =
          more z ((looks s stands k (turn (own.number_at at s.runs.queues) r other) (share_of (Own k) r s) refl).1 here) has
      look other more (Some t) here has =
          (looks s stands k (turn (own.number_at at s.runs.queues) r other) (share_of (Own k) r s) refl).0 (here ∙ has)

      by : (b : Bool) → (own.number_at at s.runs.queues == r) ≡ b
          → ((z : Solo F T X) → At z → (steals.round count r places (steals.next_place at count) z).0 ≡ Some task
          → Found (steals.round count r places (steals.next_place at count) z).1
          (robbed_on count r places (steals.next_place at count) z).0
          (more_of (robbed_on count r places (steals.next_place at count) z)))
          → (pair (own.number_at at s.runs.queues == r)).0 ≡ Some task
          → Found (pair (own.number_at at s.runs.queues == r)).1 (from (own.number_at at s.runs.queues == r)).0
          (more_of (from (own.number_at at s.runs.queues == r)))
      by true is more has =
          subst (λ b. Found (pair b).1 (from b).0 (more_of (from b))) (sym is)
          (more s stands (sym (ap (λ b. (pair b).0) is) ∙ has))
      by false is more has =
          subst (λ b. Found (pair b).1 (from b).0 (more_of (from b))) (sym is)
          (look is more o refl (sym (ap (λ b. (pair b).0) is) ∙ has))
