-- At which due future is looked, by tests one after the other.
use Rattle.std.proofs.Common.{◌≡◌, ℕ, ◌==◌, ◌&&◌, not, is_some, cond, Bool, true, false, List, [], ◌∷◌, find, Option, Some, refl, sym, ap}
use Rattle.std.proofs.Common.{◌∙◌}
use Rattle.executor_parts.specs.declared.mark.Mark.{Mark}
use Rattle.executor_parts.specs.declared.mark.Mark.TheVariants.{Plain as PlainMark, Urgent}
use Rattle.executor_parts.specs.Marks.{other, same_mark}
use Rattle.plain_scheduler.specs.State.{Choice, Due}
use Rattle.plain_scheduler.specs.Lists.{any, or}
use Rattle.plain_scheduler.specs.Moves.{chosen, is_common, is_due, is_kept, is_run}
use Rattle.machine_roads.proofs.Lists.{clash}
use Rattle.two_roads.specs.Renaming.{AreBothDue, IsNoneCommon}

-- at which mark is looked first is nothing where futures of one alone are due
in_either_order : (due : List Due) → ¬ AreBothDue due
    → chosen (is_common PlainMark ∷ is_common Urgent ∷ []) due ≡ chosen (is_common Urgent ∷ is_common PlainMark ∷ []) due
in_either_order due alone = by (any (is_common PlainMark) due) refl (any (is_common Urgent) due) refl
  where
    by : (a : Bool) → any (is_common PlainMark) due ≡ a → (b : Bool) → any (is_common Urgent) due ≡ b
        → ◌≡◌ {A = Due → Bool} (λ d. cond a (is_common PlainMark d) (cond b (is_common Urgent d) false))
        (λ d. cond b (is_common Urgent d) (cond a (is_common PlainMark d) false))
    by true plain true urgent = absurd (alone (record { plain = plain; urgent = urgent }))
    by true plain false urgent = refl
    by false plain true urgent = refl
    by false plain false urgent = refl

pub looks_alike : (m n : Mark) (due : List Due) → (AreBothDue due → m ≡ n)
    → chosen (is_common m ∷ is_common (other m) ∷ []) due ≡ chosen (is_common n ∷ is_common (other n) ∷ []) due
looks_alike PlainMark PlainMark due alike = refl
looks_alike Urgent Urgent due alike = refl
looks_alike PlainMark Urgent due alike = in_either_order due (λ both. apart (alike both))
  where
    apart : PlainMark ≡ Urgent → ⊥
    apart is = cc
looks_alike Urgent PlainMark due alike = sym (in_either_order due (λ both. apart (alike both)))
  where
    apart : Urgent ≡ PlainMark → ⊥
    apart is = cc

-- of these tests the first that any passes
pub passed_first : (test : Due → Bool) (tests : List (Due → Bool)) (due : List Due) → any test due ≡ true → chosen (test ∷ tests) due ≡ test
passed_first test tests due some = ap (λ b. λ d. cond b (test d) (chosen tests due d)) some

pub passed_later : (test : Due → Bool) (tests : List (Due → Bool)) (due : List Due) → any test due ≡ false
    → chosen (test ∷ tests) due ≡ chosen tests due
passed_later test tests due none = ap (λ b. λ d. cond b (test d) (chosen tests due d)) none

-- where any without a keeper is due, no later test matters
pub common_alone : (m : Mark) (tests : List (Due → Bool)) (due : List Due) → ¬ IsNoneCommon due
    → chosen (is_common m ∷ is_common (other m) ∷ tests) due ≡ chosen (is_common m ∷ is_common (other m) ∷ []) due
common_alone m tests due some = by m (any (is_common m) due) refl (any (is_common (other m)) due) refl
  where
    neither : (m : Mark) → any (is_common m) due ≡ false → any (is_common (other m)) due ≡ false → IsNoneCommon due
    neither PlainMark none nor = record { plain = none; urgent = nor }
    neither Urgent none nor = record { plain = nor; urgent = none }

    by : (m : Mark) (a : Bool) → any (is_common m) due ≡ a → (b : Bool) → any (is_common (other m)) due ≡ b
        → chosen (is_common m ∷ is_common (other m) ∷ tests) due ≡ chosen (is_common m ∷ is_common (other m) ∷ []) due
    by m true one b two =
        passed_first (is_common m) (is_common (other m) ∷ tests) due one
        ∙ sym (passed_first (is_common m) (is_common (other m) ∷ []) due one)
    by m false one true two =
        passed_later (is_common m) (is_common (other m) ∷ tests) due one
        ∙ (passed_first (is_common (other m)) tests due two
        ∙ sym (passed_later (is_common m) (is_common (other m) ∷ []) due one ∙ passed_first (is_common (other m)) [] due two))
    by m false one false two = absurd (some (neither m one two))

pub common_none : (m : Mark) (tests : List (Due → Bool)) (due : List Due) → IsNoneCommon due
    → chosen (is_common m ∷ is_common (other m) ∷ tests) due ≡ chosen tests due
common_none PlainMark tests due none =
    passed_later (is_common PlainMark) (is_common Urgent ∷ tests) due none.plain ∙ passed_later (is_common Urgent) tests due none.urgent
common_none Urgent tests due none =
    passed_later (is_common Urgent) (is_common PlainMark ∷ tests) due none.urgent ∙ passed_later (is_common PlainMark) tests due none.plain

-- who is found passes the test
pub found_passes : (test : Due → Bool) (ds : List Due) (one : Due) → find test ds ≡ Some one → test one ≡ true
found_passes test [] one is = absurd cc
found_passes test (d ∷ ds) one is = by (test d) refl is (λ rest. found_passes test ds one rest)
  where
    its : (x y : Due) → Some x ≡ Some y → x ≡ y
    its x y same = ap (λ o. or o (λ z. z) x) same

    by : (b : Bool) → test d ≡ b → cond b (Some d) (find test ds) ≡ Some one → (find test ds ≡ Some one → test one ≡ true) → test one ≡ true
    by true passes same rest = ap test (sym (its d one same)) ∙ passes
    by false passes same rest = rest same

-- what run r looks at, by one choice and by another
module _ (c d : Choice) (r : ℕ) (due : List Due) (first : any (is_kept r) due ≡ false → AreBothDue due → c.first ≡ d.first)
    (robs : any (is_kept r) due ≡ false → IsNoneCommon due → c.robs ≡ d.robs) where
  abbrev tail : Choice → List (Due → Bool)
  tail e = is_kept e.robs ∷ is_due ∷ []

  abbrev commons_of : Choice → List (Due → Bool)
  commons_of e = is_common e.first ∷ is_common (other e.first) ∷ tail e

  abbrev test : Due → Bool
  test = chosen (is_kept r ∷ commons_of c) due

  abbrev LooksAlike : Type 0
  LooksAlike = test ≡ chosen (is_kept r ∷ commons_of d) due

  -- what another keeps is found only where it keeps none itself, and nothing without a keeper is due
  abbrev pub RobsLast : Type 0
  RobsLast =
      (one : Due) → find test due ≡ Some one → (k : ℕ) → one.keeper ≡ Some k → (r == k) ≡ false
      → (any (is_kept r) due ≡ false) × IsNoneCommon due

  its_own : test ≡ is_kept r → RobsLast
  its_own is one found k keeper apart =
      absurd (clash apart (ap (λ o. is_run r o) (sym keeper) ∙ (ap (λ (f : Due → Bool). f one) (sym is) ∙ found_passes test due one found)))

  of_none : (m : Mark) → test ≡ chosen (is_common m ∷ is_common (other m) ∷ []) due → RobsLast
  of_none m is one found k keeper apart =
      absurd (by (any (is_common m) due) (any (is_common (other m)) due)
      (ap (λ (f : Due → Bool). f one) (sym is) ∙ found_passes test due one found))
    where
      common : (m : Mark) → is_common m one ≡ true → ⊥
      common m passes = clash (ap (λ (o : Option ℕ). not (is_some o) && same_mark m one.mark) keeper) passes

      by : (a b : Bool) → cond a (is_common m one) (cond b (is_common (other m) one) false) ≡ true → ⊥
      by true b passes = common m passes
      by false true passes = common (other m) passes
      by false false passes = cc

  some_common : any (is_kept r) due ≡ false → ¬ IsNoneCommon due → LooksAlike × RobsLast
  some_common mine some =
      let is = passed_later (is_kept r) (commons_of c) due mine ∙ common_alone c.first (tail c) due some in (
        is
            ∙ (looks_alike c.first d.first due (first mine)
            ∙ sym (passed_later (is_kept r) (commons_of d) due mine ∙ common_alone d.first (tail d) due some)),
        of_none c.first is,
      )

  none_kept : any (is_kept r) due ≡ false → (a : Bool) → any (is_common PlainMark) due ≡ a → (b : Bool) → any (is_common Urgent) due ≡ b
      → LooksAlike × RobsLast
  none_kept mine false plain false urgent =
      let none : IsNoneCommon due = record { plain = plain; urgent = urgent } in (
        passed_later (is_kept r) (commons_of c) due mine
            ∙ (common_none c.first (tail c) due none
            ∙ (ap (λ n. chosen (is_kept n ∷ is_due ∷ []) due) (robs mine none)
            ∙ sym (passed_later (is_kept r) (commons_of d) due mine ∙ common_none d.first (tail d) due none))),
        λ one found k keeper apart. (mine, none),
      )
  none_kept mine true plain b urgent = some_common mine (λ none. clash none.plain plain)
  none_kept mine false plain true urgent = some_common mine (λ none. clash none.urgent urgent)

  pub looked : LooksAlike × RobsLast
  looked = own (any (is_kept r) due) refl
    where
      own : (b : Bool) → any (is_kept r) due ≡ b → LooksAlike × RobsLast
      own true mine =
          let is = passed_first (is_kept r) (commons_of c) due mine in
          (is ∙ sym (passed_first (is_kept r) (commons_of d) due mine), its_own is)
      own false mine = none_kept mine (any (is_common PlainMark) due) refl (any (is_common Urgent) due) refl
