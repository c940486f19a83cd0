-- How often the jobs of a list came back, as they are noted one by one.
use Rattle.std.proofs.Common.{◌≡◌, ◌≢◌, ◌⊎◌, ℕ, ◌+◌, ◌<◌, ◌≤◌, Bool, true, false, cond, ◌&&◌, List, Option, Some, None, Vec, length, slice_get, get_or, take, refl, sym, ap, subst, ◌∙◌, arith}
use Rattle.std.specs.Prelude.{nat_eq, count_by, vec_items}
use Rattle.std.specs.Global.{Global}
use Rattle.std.proofs.lemmas.List.Sums.{sum_by_more}
use Rattle.std.proofs.lemmas.Bool.Decides.{eqb_tells, nat_tests}
use Rattle.std.proofs.lemmas.Option.{slice_get-get_or, slice_get_within}
use Rattle.jobs.specs.Results.{once_more, IsBack, IsFirstMissing}
use Rattle.jobs.specs.Gathered.{same_job, is_there, is_of, times_back, EachCameOnce, IsLeastMissing, Tells, AreCounts}
use Rattle.jobs.specs.declared.job.Job.{Job}
use Rattle.jobs.specs.declared.job.Job.TheVariants.{Sum, Mul}
use Rattle.jobs.specs.declared.job.Answer.{Answer}
use Rattle.jobs.specs.declared.job.Solved.{Solved}
use Rattle.jobs.specs.declared.results.Back.{Back}
use Rattle.jobs.specs.declared.results.Back.TheVariants.{Never, Once, Often}

-- the test of two jobs says which holds
abbrev Told : Bool → Job → Job → Type 0
Told true there job = there ≡ job
Told false there job = there ≢ job

told : (there job : Job) → Told (same_job there job) there job
told (Sum m) (Sum n) = go (nat_eq m n) refl
  where
    go : (b : Bool) → nat_eq m n ≡ b → Told b (Sum m) (Sum n)
    go true is = grind (arith, nat_tests, is)
    go false is = λ same. grind (arith, nat_tests, is, same)
told (Sum m) (Mul c d) = λ same. grind arith
told (Mul a b) (Sum n) = λ same. grind arith
told (Mul a b) (Mul c d) = go (nat_eq a c) refl (nat_eq b d) refl
  where
    go : (p : Bool) → nat_eq a c ≡ p → (q : Bool) → nat_eq b d ≡ q → Told (p && q) (Mul a b) (Mul c d)
    go true first true second = grind (arith, nat_tests, first, second)
    go true first false second = λ same. grind (arith, nat_tests, second, same)
    go false first true second = λ same. grind (arith, nat_tests, first, same)
    go false first false second = λ same. grind (arith, nat_tests, first, same)

-- a job that comes back once more is noted once more
tells_more : (answer : Answer) (back : Back) (times : ℕ) → Tells back times → Tells (once_more answer back) (times + 1)
tells_more answer Never times told = omega (arith, told)
tells_more answer (Once before) times told = omega (arith, told)
tells_more answer Often times told = omega (arith, told)

Tells-same : (back : Back) (times more : ℕ) → times ≡ more → Tells back times → Tells back more
Tells-same back times more same told = subst (Tells back) same told

module _ (jobs : List Job) (old new : List Back) (times : ℕ → ℕ) (solved : Solved)
    (all : length old ≡ length jobs)
    (others : (number : ℕ) → number ≢ solved.number → slice_get new number ≡ slice_get old number)
    (this : (back : Back) → slice_get jobs solved.number ≡ Some solved.job → slice_get old solved.number ≡ Some back → slice_get new solved.number ≡ Some (once_more solved.answer back))
    (no_job : slice_get jobs solved.number ≢ Some solved.job → new ≡ old)
    (counts : AreCounts old times) where
  plain : (number : ℕ) (back : Back) → slice_get old number ≡ Some back → Tells back (times number + 0)
  plain number back at = Tells-same back (times number) (times number + 0) (omega arith) (counts number back at)

  unchanged : (back : Back) → slice_get new solved.number ≡ Some back → slice_get jobs solved.number ≢ Some solved.job → Tells back (times solved.number + 0)
  unchanged back at none = plain solved.number back (ap (λ xs. slice_get xs solved.number) (sym (no_job none)) ∙ at)

  by_job : (back : Back) (there : Job) → slice_get new solved.number ≡ Some back → slice_get jobs solved.number ≡ Some there → (same : Bool) → same_job there solved.job ≡ same → Tells back (times solved.number + cond same 1 0)
  by_job back there at is true same =
      let one : there ≡ solved.job = subst (λ b. Told b there solved.job) same (told there solved.job) in
      let found : slice_get jobs solved.number ≡ Some solved.job = is ∙ ap Some one in
      let within : solved.number < length old = omega (arith, all, slice_get_within jobs solved.number solved.job found) in
      let before : Back = get_or old solved.number Never in
      let was : slice_get old solved.number ≡ Some before = slice_get-get_or old solved.number Never within in
      let now : Some (once_more solved.answer before) ≡ Some back = sym (this before found was) ∙ at in
      let is_it : once_more solved.answer before ≡ back = grind arith in
      subst (λ b. Tells b (times solved.number + 1)) is_it (tells_more solved.answer before (times solved.number) (counts solved.number before was))
  by_job back there at is false same =
      let other : there ≢ solved.job = subst (λ b. Told b there solved.job) same (told there solved.job) in
      unchanged back at (λ found. let no : Some there ≡ Some solved.job = sym is ∙ found in other (grind arith))

  by_place : (back : Back) → slice_get new solved.number ≡ Some back → (there : Option Job) → slice_get jobs solved.number ≡ there → Tells back (times solved.number + cond (is_there there solved.job) 1 0)
  by_place back at None is = unchanged back at (λ found. let no : None ≡ Some solved.job = sym is ∙ found in absurd (cc))
  by_place back at (Some there) is = by_job back there at is (same_job there solved.job) refl

  by_number : (number : ℕ) (back : Back) → slice_get new number ≡ Some back → (same : Bool) → nat_eq solved.number number ≡ same → Tells back (times number + cond (same && is_there (slice_get jobs number) solved.job) 1 0)
  by_number number back at true same =
      let is : solved.number ≡ number = grind (arith, nat_tests) in
      subst (λ n. slice_get new n ≡ Some back → Tells back (times n + cond (is_there (slice_get jobs n) solved.job) 1 0)) is (λ there. by_place back there (slice_get jobs solved.number) refl) at
  by_number number back at false same =
      let other : number ≢ solved.number = grind (arith, nat_tests) in
      plain number back (sym (others number other) ∙ at)

  -- where one that came back is noted, it is counted
  pub AreCounts-note : AreCounts new (λ number. times number + cond (is_of jobs number solved) 1 0)
  AreCounts-note number back at = by_number number back at (nat_eq solved.number number) refl

-- one or none
abbrev one_if : Bool → ℕ
one_if test = cond test 1 0

-- the next of a list is noted
pub AreCounts-next_one : (jobs now : List Job) (old new : List Back) (times : ℕ → ℕ) (solved : List Solved) (index : ℕ) (item : Solved)
    → now ≡ jobs → index < length solved → item ≡ get_or solved index item → length old ≡ length now
    → ((number : ℕ) → number ≢ item.number → slice_get new number ≡ slice_get old number)
    → ((back : Back) → slice_get now item.number ≡ Some item.job → slice_get old item.number ≡ Some back → slice_get new item.number ≡ Some (once_more item.answer back))
    → (slice_get now item.number ≢ Some item.job → new ≡ old)
    → AreCounts old (λ number. times number + count_by (is_of jobs number) (take index solved))
    → AreCounts new (λ number. times number + count_by (is_of jobs number) (take (index + 1) solved))
AreCounts-next_one jobs now old new times solved index item same within is all others this no_job before = λ number back at.
    let told : Tells back ((times number + count_by (is_of jobs number) (take index solved)) + cond (is_of now number item) 1 0) =
    AreCounts-note now old new (λ n. times n + count_by (is_of jobs n) (take index solved)) item all others this no_job before number back at in
    let more : count_by (is_of jobs number) (take (index + 1) solved) ≡ count_by (is_of jobs number) (take index solved) + cond (is_of jobs number (get_or solved index item)) 1 0 =
    sum_by_more (λ x. cond (is_of jobs number x) 1 0) solved index item within in
    let here : one_if (is_of now number item) ≡ one_if (is_of jobs number (get_or solved index item)) =
    ap (λ js. one_if (is_of js number item)) same ∙ ap (λ x. one_if (is_of jobs number x)) is in
    Tells-same back ((times number + count_by (is_of jobs number) (take index solved)) + cond (is_of now number item) 1 0) (times number + count_by (is_of jobs number) (take (index + 1) solved)) (omega (arith, more, here)) told

-- the next of the lists is noted
pub AreCounts-next_list : (jobs now : List Job) (new : List Back) (times : ℕ → ℕ) (returned : List (Vec Solved Global)) (index : ℕ) (item : Vec Solved Global) (items : List Solved)
    → now ≡ jobs → index < length returned → item ≡ get_or returned index item → items ≡ vec_items item
    → AreCounts new (λ number. (times number + times_back jobs (take index returned) number) + count_by (is_of now number) items)
    → AreCounts new (λ number. times number + times_back jobs (take (index + 1) returned) number)
AreCounts-next_list jobs now new times returned index item items same within is shown counts = λ number back at.
    let more : times_back jobs (take (index + 1) returned) number ≡ times_back jobs (take index returned) number + count_by (is_of jobs number) (vec_items (get_or returned index item)) =
    sum_by_more (λ one. count_by (is_of jobs number) (vec_items one)) returned index item within in
    let here : count_by (is_of now number) items ≡ count_by (is_of jobs number) (vec_items (get_or returned index item)) =
    ap (λ js. count_by (is_of js number) items) same ∙ ap (count_by (is_of jobs number)) (shown ∙ ap vec_items is) in
    Tells-same back ((times number + times_back jobs (take index returned) number) + count_by (is_of now number) items) (times number + times_back jobs (take (index + 1) returned) number) (omega (arith, more, here)) (counts number back at)

-- all of them are noted
pub AreCounts-all : (backs : List Back) (times more : ℕ → ℕ) → ((number : ℕ) → times number ≡ more number) → AreCounts backs times → AreCounts backs more
AreCounts-all backs times more same counts = λ number back at. Tells-same back (times number) (more number) (same number) (counts number back at)

-- what is noted of none is counted for none
pub AreCounts-never : (backs : List Back) (count : ℕ) → length backs ≡ count → ((number : ℕ) → number < count → slice_get backs number ≡ Some Never) → AreCounts backs (λ number. 0)
AreCounts-never backs count all never = λ number back at.
    let within : number < count = omega (arith, all, slice_get_within backs number back at) in
    let is : Some Never ≡ Some back = sym (never number within) ∙ at in
    let same : Never ≡ back = grind arith in
    subst (λ b. Tells b 0) same refl

-- one that is back came back once
pub came_once : (backs : List Back) (times : ℕ → ℕ) (number : ℕ) → AreCounts backs times → IsBack backs number → times number ≡ 1
came_once backs times number counts (answer, at) = counts number (Once answer) at

-- one that isn't didn't
pub came_not_once : (backs : List Back) (times : ℕ → ℕ) (number : ℕ) → number < length backs → AreCounts backs times → (¬ (IsBack backs number)) → times number ≢ 1
came_not_once backs times number within counts missing = by_back (get_or backs number Never) (slice_get-get_or backs number Never within)
  where
    by_back : (back : Back) → slice_get backs number ≡ Some back → times number ≢ 1
    by_back Never at = λ one. omega (arith, one, counts number Never at)
    by_back (Once answer) at = absurd (missing (answer, at))
    by_back Often at = λ one. omega (arith, one, counts number Often at)

-- where each is back, each came back once
pub each_came_once : (jobs now noted : List Job) (backs : List Back) (returned : List (Vec Solved Global))
    → now ≡ jobs → noted ≡ jobs → AreCounts backs (λ number. 0 + times_back now returned number)
    → ((number : ℕ) → number < length noted → IsBack backs number) → EachCameOnce jobs returned
each_came_once jobs now noted backs returned same all counts back = λ number within.
    let one : 0 + times_back now returned number ≡ 1 = came_once backs (λ n. 0 + times_back now returned n) number counts (back number (rw all within)) in
    let alike : times_back now returned number ≡ times_back jobs returned number = ap (λ js. times_back js returned number) same in
    omega (arith, one, alike)

-- the first that isn't back is the least missing
pub least_missing : (jobs now noted : List Job) (backs : List Back) (returned : List (Vec Solved Global)) (number : ℕ)
    → now ≡ jobs → noted ≡ jobs → length backs ≡ length noted → AreCounts backs (λ n. 0 + times_back now returned n)
    → IsFirstMissing backs number → IsLeastMissing jobs returned number
least_missing jobs now noted backs returned number same all long counts first =
    let alike = λ (n : ℕ). ap (λ js. times_back js returned n) same in
    record {
      within = omega (arith, first.within, long, ap length all);
      missing = λ one. came_not_once backs (λ n. 0 + times_back now returned n) number first.within counts first.missing (omega (arith, one, alike number));
      before = λ earlier below. omega (arith, came_once backs (λ n. 0 + times_back now returned n) earlier counts (first.before earlier below), alike earlier);
    }
