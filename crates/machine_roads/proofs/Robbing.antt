-- What a run robs another of: one, and so many more.
use Rattle.std.proofs.Common.{◌≡◌, ℕ, suc, ◌≤◌, ◌==◌, ◌++◌, ◌&&◌, not, Bool, true, false, List, []}
use Rattle.std.proofs.Common.{◌∷◌, length, map, cond, Option, Some, None, is_some, drop, take, refl, sym, ap, subst}
use Rattle.std.proofs.Common.{◌∙◌, arith}
use Rattle.std.specs.Prelude.{filter}
use Rattle.executor_parts.specs.declared.mark.Mark.{Mark}
use Rattle.executor_parts.specs.declared.mark.Mark.TheVariants.{Plain as PlainMark, Urgent}
use Rattle.executor_parts.specs.Marks.{same_mark}
use Rattle.plain_scheduler.specs.State.{Due}
use Rattle.plain_scheduler.specs.Lists.{any, repeat, without}
use Rattle.plain_scheduler.specs.Moves.{is_common, is_due, is_kept, is_run}
use Rattle.machine_roads.specs.Road.{futures_in}
use Rattle.machine_roads.proofs.Due.{First, first, others}
use Rattle.machine_roads.proofs.Keeping.{HasPlaces, IsAway, IsBeside, Kept, Lined, kept_away, kept_due}
use Rattle.machine_roads.proofs.Keeping.{many_kept}
use Rattle.machine_roads.proofs.Lists.{equal, same_of, turned as turned_apart}
use Rattle.machine_roads.proofs.RunsGone.{kept_uncommon, runs_apart}

-- of what another run keeps one is robbed, and so many more: first the robbed one comes too, and goes then, or it goes first
module _ (r k : ℕ) (apart : (k == r) ≡ false) (ds : List Due) (f : ℕ) (rest : List ℕ) (n : ℕ)
    (its : futures_in (is_kept k) ds ≡ f ∷ rest) (mine : futures_in (is_kept r) ds ≡ []) (there : n ≤ length rest)
    (few : HasPlaces r (suc n) ds) where
  abbrev keep : List Due → List Due
  keep es = kept_due r (is_kept k) es

  abbrev came : List Due
  came = repeat (suc n) keep ds

  abbrev spared : List Due
  spared = without (is_kept k) ds

  away : IsAway r (is_kept k)
  away = kept_away r k apart

  all_kept : Kept r (is_kept k) (suc n) ds came
  all_kept = many_kept r (is_kept k) away (suc n) ds (omega (arith, there, ap length its)) few

  pub come_is : futures_in (is_kept r) came ≡ f ∷ take n rest
  come_is = all_kept.come ∙ (ap (λ fs. fs ++ take (suc n) (futures_in (is_kept k) ds)) mine ∙ ap (take (suc n)) its)

  left_of : futures_in (is_kept k) spared ≡ rest
  left_of = (first (is_kept k) ds f rest its).left

  spared_mine : futures_in (is_kept r) spared ≡ []
  spared_mine = others (is_kept k) (is_kept r) ds away.own ∙ mine

  rest_kept : Kept r (is_kept k) n spared (repeat n keep spared)
  rest_kept =
      many_kept r (is_kept k) away n spared (omega (arith, there, ap length left_of))
      (λ some. omega (arith, few (omega arith), ap length mine, ap length spared_mine))

  common_apart : (m : Mark) → IsBeside r (is_kept k) (is_common m)
  common_apart m = record { apart = λ d is. kept_uncommon k m d is; back = λ d. refl }

  pub robbed_lined : Lined (without (is_kept r) came) (repeat n keep spared)
  robbed_lined = record {
    common = λ m.
        others (is_kept r) (is_common m) came (kept_uncommon r m)
        ∙ (all_kept.beside (is_common m) (common_apart m)
        ∙ (sym (others (is_kept k) (is_common m) ds (kept_uncommon k m)) ∙ sym (rest_kept.beside (is_common m) (common_apart m))));
    kept = λ j. keeper j (r == j) refl (k == j) refl;
  }
    where
      one : First (is_kept r) came f (take n rest)
      one = first (is_kept r) came f (take n rest) come_is

      keeper : (j : ℕ) (a : Bool) → (r == j) ≡ a → (b : Bool) → (k == j) ≡ b
          → futures_in (is_kept j) (without (is_kept r) came) ≡ futures_in (is_kept j) (repeat n keep spared)
      keeper j true here b same =
          subst (λ j. futures_in (is_kept j) (without (is_kept r) came) ≡ futures_in (is_kept j) (repeat n keep spared)) (same_of r j here)
          (one.left
          ∙ sym (rest_kept.come
          ∙ (ap (λ fs. fs ++ take n (futures_in (is_kept k) spared)) spared_mine ∙ ap (take n) left_of)))
      keeper j false off true same =
          subst (λ j. futures_in (is_kept j) (without (is_kept r) came) ≡ futures_in (is_kept j) (repeat n keep spared)) (same_of k j same)
          (others (is_kept r) (is_kept k) came (runs_apart r k (turned_apart k r apart))
          ∙ (all_kept.left ∙ (ap (drop (suc n)) its ∙ (ap (drop n) (sym left_of) ∙ sym rest_kept.left))))
      keeper j false off false away_too =
          let beside : IsBeside r (is_kept k) (is_kept j) =
          record { apart = λ d is. runs_apart k j away_too d is; back = λ d. turned_apart r j off } in
          others (is_kept r) (is_kept j) came (runs_apart r j off)
          ∙ (all_kept.beside (is_kept j) beside
          ∙ (sym (others (is_kept k) (is_kept j) ds (runs_apart k j away_too)) ∙ sym (rest_kept.beside (is_kept j) beside)))

-- what is due has no keeper, or one
pub some_kept : (ds : List Due) → any is_due ds ≡ true → ((m : Mark) → futures_in (is_common m) ds ≡ [])
    → (k : ℕ) × (1 ≤ length (futures_in (is_kept k) ds))
some_kept [] some none = absurd cc
some_kept (d ∷ ds) some none = by d.keeper refl
  where
    has_one : (test : Due → Bool) → test d ≡ true → 1 ≤ length (futures_in test (d ∷ ds))
    has_one test is =
        subst (λ b. 1 ≤ length (map (λ (d : Due). d.future) (cond b (d ∷ filter test ds) (filter test ds)))) (sym is) (omega arith)

    itself : (m : Mark) → same_mark m m ≡ true
    itself PlainMark = refl
    itself Urgent = refl

    by : (o : Option ℕ) → d.keeper ≡ o → (k : ℕ) × (1 ≤ length (futures_in (is_kept k) (d ∷ ds)))
    by None is =
        let here : is_common d.mark d ≡ true =
        ap (λ (o : Option ℕ). not (is_some o) && same_mark d.mark d.mark) is ∙ itself d.mark in
        absurd (omega (arith, has_one (is_common d.mark) here, ap length (none d.mark)))
    by (Some k) is = (k, has_one (is_kept k) (ap (is_run k) is ∙ equal k k refl))
