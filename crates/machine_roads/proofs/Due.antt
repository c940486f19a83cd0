-- What is due of a class, and what a take of its first leaves.
use Rattle.std.proofs.Common.{◌≡◌, ℕ, ◌&&◌, not, Bool, true, false, List, [], ◌∷◌, map, Option, Some, None, is_some, cond, refl}
use Rattle.std.proofs.Common.{sym, ap, ◌∙◌}
use Rattle.std.specs.Prelude.{filter, find}
use Rattle.executor_parts.specs.declared.mark.Mark.{Mark}
use Rattle.executor_parts.specs.declared.mark.Mark.TheVariants.{Plain as PlainMark, Urgent}
use Rattle.executor_parts.specs.Marks.{other, same_mark}
use Rattle.plain_scheduler.specs.State.{Due}
use Rattle.plain_scheduler.specs.Lists.{any, without}
use Rattle.plain_scheduler.specs.Moves.{is_common, is_kept}
use Rattle.machine_roads.specs.Road.{futures_in}

abbrev future_of : Due → ℕ
future_of d = d.future

-- the first of a class, and what is due without it
pub record First (test : Due → Bool) (due : List Due) (f : ℕ) (rest : List ℕ) : Type 0 where
  pub due_one : Due
  pub found : find test due ≡ Some due_one
  pub passes : test due_one ≡ true
  pub is : due_one.future ≡ f
  pub some : any test due ≡ true
  pub left : futures_in test (without test due) ≡ rest

later_of : List ℕ → List ℕ
later_of [] = []
later_of (n ∷ ns) = ns

head_of : ℕ → List ℕ → ℕ
head_of d [] = d
head_of d (n ∷ ns) = n

abbrev pub Has : (Due → Bool) → List Due → ℕ → List ℕ → Type 0
Has test due f rest = futures_in test due ≡ f ∷ rest → First test due f rest

first_by : (test : Due → Bool) (e : Due) (es : List Due) (f : ℕ) (rest : List ℕ) (b : Bool) → test e ≡ b
    → Has test es f rest → Has test (e ∷ es) f rest
unfolding head_of later_of
first_by test e es f rest true here below is =
    let both : e.future ∷ futures_in test es ≡ f ∷ rest =
    sym (ap (λ b. map future_of (cond b (e ∷ filter test es) (filter test es))) here) ∙ is in
    record {
      due_one = e;
      found = ap (λ b. cond b (Some e) (find test es)) here;
      passes = here;
      is = ap (head_of f) both;
      some = ap (λ b. cond b true (any test es)) here;
      left = ap (λ b. futures_in test (cond b es (e ∷ without test es))) here ∙ ap later_of both;
    }
first_by test e es f rest false here below is =
    let b =
    below (sym (ap (λ b. map future_of (cond b (e ∷ filter test es) (filter test es))) here) ∙ is) in
    record {
      due_one = b.due_one;
      found = ap (λ b. cond b (Some e) (find test es)) here ∙ b.found;
      passes = b.passes;
      is = b.is;
      some = ap (λ b. cond b true (any test es)) here ∙ b.some;
      left =
          ap (λ b. futures_in test (cond b es (e ∷ without test es))) here
          ∙ (ap (λ b. map future_of (cond b (e ∷ filter test (without test es)) (filter test (without test es)))) here ∙ b.left);
    }

pub first : (test : Due → Bool) (due : List Due) (f : ℕ) (rest : List ℕ) → Has test due f rest
first test [] f rest is = absurd cc
first test (e ∷ es) f rest is = first_by test e es f rest (test e) refl (first test es f rest) is

-- nothing of a class is due
pub record Nothing (test : Due → Bool) (due : List Due) : Type 0 where
  pub none : any test due ≡ false
  pub found : find test due ≡ None

nothing_by : (test : Due → Bool) (e : Due) (es : List Due) (b : Bool) → test e ≡ b
    → (futures_in test es ≡ [] → Nothing test es) → futures_in test (e ∷ es) ≡ [] → Nothing test (e ∷ es)
nothing_by test e es true here below is =
    let no : e.future ∷ futures_in test es ≡ [] =
    sym (ap (λ b. map future_of (cond b (e ∷ filter test es) (filter test es))) here) ∙ is in
    absurd cc
nothing_by test e es false here below is =
    let b = below (sym (ap (λ b. map future_of (cond b (e ∷ filter test es) (filter test es))) here) ∙ is) in
    record {
      none = ap (λ b. cond b true (any test es)) here ∙ b.none;
      found = ap (λ b. cond b (Some e) (find test es)) here ∙ b.found;
    }

pub nothing : (test : Due → Bool) (due : List Due) → futures_in test due ≡ [] → Nothing test due
nothing test [] is = record { none = refl; found = refl }
nothing test (e ∷ es) is = nothing_by test e es (test e) refl (nothing test es) is

-- what is due of another class stays
others_by : (test u : Due → Bool) (e : Due) (es : List Due) (b : Bool) → test e ≡ b → (test e ≡ true → u e ≡ false)
    → futures_in u (without test es) ≡ futures_in u es → futures_in u (without test (e ∷ es)) ≡ futures_in u (e ∷ es)
others_by test u e es true here apart rest =
    ap (λ b. futures_in u (cond b es (e ∷ without test es))) here
    ∙ sym (ap (λ b. map future_of (cond b (e ∷ filter u es) (filter u es))) (apart here))
others_by test u e es false here apart rest =
    ap (λ b. futures_in u (cond b es (e ∷ without test es))) here ∙ kept (u e)
  where
    kept : (b : Bool)
        → map future_of (cond b (e ∷ filter u (without test es)) (filter u (without test es)))
        ≡ map future_of (cond b (e ∷ filter u es) (filter u es))
    kept true = ap (λ ns. e.future ∷ ns) rest
    kept false = rest

pub others : (test u : Due → Bool) (due : List Due) → ((d : Due) → test d ≡ true → u d ≡ false)
    → futures_in u (without test due) ≡ futures_in u due
others test u [] apart = refl
others test u (e ∷ es) apart = others_by test u e es (test e) refl (apart e) (others test u es apart)

pub marks_apart : (m : Mark) (d : Due) → is_common m d ≡ true → is_common (other m) d ≡ false
marks_apart m d is = by (not (is_some d.keeper)) m d.mark is
  where
    by : (b : Bool) (m n : Mark) → (b && same_mark m n) ≡ true → (b && same_mark (other m) n) ≡ false
    by false m n is = refl
    by true PlainMark PlainMark is = refl
    by true Urgent Urgent is = refl
    by true PlainMark Urgent is = absurd cc
    by true Urgent PlainMark is = absurd cc

pub keepers_apart : (m : Mark) (r : ℕ) (d : Due) → is_common m d ≡ true → is_kept r d ≡ false
keepers_apart m r d is = by d.keeper refl
  where
    by : (k : Option ℕ) → d.keeper ≡ k → is_kept r d ≡ false
    by None here = ap (λ (k : Option ℕ). is_kept r (record d { keeper = k })) here
    by (Some n) here =
        let no : false ≡ true = sym (ap (λ (k : Option ℕ). not (is_some k) && same_mark m d.mark) here) ∙ is in
        absurd cc

-- two tests that say the same find the same
pub find_same : (t u : Due → Bool) (due : List Due) → ((d : Due) → t d ≡ u d) → find t due ≡ find u due
find_same t u [] same = refl
find_same t u (e ∷ es) same =
    ap (λ b. cond b (Some e) (find t es)) (same e) ∙ ap (λ o. cond (u e) (Some e) o) (find_same t u es same)

pub without_same : (t u : Due → Bool) (due : List Due) → ((d : Due) → t d ≡ u d) → without t due ≡ without u due
without_same t u [] same = refl
without_same t u (e ∷ es) same =
    ap (λ b. cond b es (e ∷ without t es)) (same e) ∙ ap (λ ds. cond (u e) es (e ∷ ds)) (without_same t u es same)

pub find_never : (due : List Due) → find (λ d. false) due ≡ None
find_never [] = refl
find_never (e ∷ es) = find_never es
