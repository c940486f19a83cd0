-- What a run keeps of a class of due futures: so many of the first come last, with that keeper.
use Rattle.std.proofs.Common.{◌≡◌, ℕ, zero, suc, ◌+◌, ◌≤◌, ◌<◌, ◌==◌, ◌++◌, nat_lt, Bool, true, false, List, [], ◌∷◌, length}
use Rattle.std.proofs.Common.{Option, Some, None, count_by, drop, take, if◌then◌else◌, append-nil, append_assoc, refl, sym, ap, subst, ◌∙◌}
use Rattle.std.proofs.Common.{arith}
use Rattle.std.specs.Prelude.{filter, find}
use Rattle.std.proofs.lemmas.List.Sums.{length-filter}
use Rattle.executor_parts.specs.declared.mark.Mark.{Mark}
use Rattle.executor_model.specs.declared.op.Waker.{Waker}
use Rattle.executor_model.specs.World.{World}
use Rattle.plain_scheduler.specs.State.{Due, Plain}
use Rattle.plain_scheduler.specs.Lists.{on, or, repeat, without}
use Rattle.plain_scheduler.specs.Moves.{is_common, is_kept, keeps, moved}
use Rattle.machine_roads.specs.View.{Output}
use Rattle.machine_roads.specs.Road.{Follows, futures_in}
use Rattle.machine_roads.proofs.Adding.{with_due}
use Rattle.machine_roads.proofs.Changing.{futures_last}
use Rattle.machine_roads.proofs.Due.{First, first, keepers_apart, others}
use Rattle.machine_roads.proofs.Lain.{below_test}
use Rattle.machine_roads.proofs.Lists.{equal, length_map}
use Rattle.machine_roads.proofs.RunsGone.{runs_apart}
use Rattle.machine_roads.proofs.Sweeping.{lines_so}

-- class by class the same
pub record Lined (ds es : List Due) : Type 0 where
  pub common : (m : Mark) → futures_in (is_common m) ds ≡ futures_in (is_common m) es
  pub kept : (r : ℕ) → futures_in (is_kept r) ds ≡ futures_in (is_kept r) es

pub lined_so : (w : World) (q : Plain Output Waker) (es : List Due) → Follows w q → Lined q.due es → Follows w (with_due es q)
lined_so w q es follows same =
    lines_so w.queues es w q follows (λ m. follows.common m ∙ same.common m) (λ r. follows.kept r ∙ same.kept r)

-- the first that passes a test comes last
abbrev pub moved_due : ℕ → (Due → Bool) → List Due → List Due
moved_due r test ds = or (find test ds) (λ d. without test ds ++ record d { keeper = Some r } ∷ []) ds

abbrev pub kept_due : ℕ → (Due → Bool) → List Due → List Due
kept_due r test ds = if nat_lt (count_by (is_kept r) ds) 512 then moved_due r test ds else ds

moved_is : (r : ℕ) (test : Due → Bool) (q : Plain Output Waker) → moved r test q ≡ with_due (moved_due r test q.due) q
moved_is r test q = by (find test q.due)
  where
    by : (o : Option Due)
        → on o (λ d p. record p { due = without test p.due ++ record d { keeper = Some r } ∷ [] }) q
        ≡ with_due (or o (λ d. without test q.due ++ record d { keeper = Some r } ∷ []) q.due) q
    by None = refl
    by (Some d) = refl

pub keeps_is : (r : ℕ) (test : Due → Bool) (q : Plain Output Waker) → keeps r test q ≡ with_due (kept_due r test q.due) q
keeps_is r test q = by (nat_lt (count_by (is_kept r) q.due) 512)
  where
    by : (b : Bool) → (if b then moved r test q else q) ≡ with_due (if b then moved_due r test q.due else q.due) q
    by true = moved_is r test q
    by false = refl

pub repeat_is : (n r : ℕ) (test : Due → Bool) (q : Plain Output Waker)
    → repeat n (keeps r test) q ≡ with_due (repeat n (kept_due r test) q.due) q
repeat_is zero r test q = refl
repeat_is (suc n) r test q =
    ap (repeat n (keeps r test)) (keeps_is r test q) ∙ repeat_is n r test (with_due (kept_due r test q.due) q)

-- a class of which this run may keep, as none of it has it for a keeper
pub record IsAway (r : ℕ) (test : Due → Bool) : Type 0 where
  pub own : (d : Due) → test d ≡ true → is_kept r d ≡ false
  pub back : (d : Due) → test (record d { keeper = Some r }) ≡ false

pub common_away : (r : ℕ) (m : Mark) → IsAway r (is_common m)
common_away r m = record { own = λ d is. keepers_apart m r d is; back = λ d. refl }

pub kept_away : (r k : ℕ) → (k == r) ≡ false → IsAway r (is_kept k)
kept_away r k apart = record { own = λ d is. runs_apart k r apart d is; back = λ d. apart }

-- and another class
pub record IsBeside (r : ℕ) (test u : Due → Bool) : Type 0 where
  pub apart : (d : Due) → test d ≡ true → u d ≡ false
  pub back : (d : Due) → u (record d { keeper = Some r }) ≡ false

-- there are places for so many
abbrev pub HasPlaces : ℕ → ℕ → List Due → Type 0
HasPlaces r n ds = 1 ≤ n → length (futures_in (is_kept r) ds) + n ≤ 512

-- so many of the class have come to the run, and the rest is as it was
pub record Kept (r : ℕ) (test : Due → Bool) (n : ℕ) (ds es : List Due) : Type 0 where
  pub left : futures_in test es ≡ drop n (futures_in test ds)
  pub come : futures_in (is_kept r) es ≡ futures_in (is_kept r) ds ++ take n (futures_in test ds)
  pub beside : (u : Due → Bool) → IsBeside r test u → futures_in u es ≡ futures_in u ds

pub count_is : (test : Due → Bool) (ds : List Due) → count_by test ds ≡ length (futures_in test ds)
count_is test ds = sym (length_map (λ (d : Due). d.future) (filter test ds) ∙ length-filter test ds)

module _ (r : ℕ) (test : Due → Bool) (away : IsAway r test) where
  -- one
  pub kept_as : (ds : List Due) (f : ℕ) (rest : List ℕ) (one : First test ds f rest) → count_by (is_kept r) ds < 512
      → kept_due r test ds ≡ without test ds ++ record one.due_one { keeper = Some r } ∷ []
  kept_as ds f rest one few =
      ap (λ b. if b then moved_due r test ds else ds) (below_test (count_by (is_kept r) ds) 512 few)
      ∙ ap (λ (o : Option Due). or o (λ d. without test ds ++ record d { keeper = Some r } ∷ []) ds) one.found

  pub one_kept : (ds : List Due) (f : ℕ) (rest : List ℕ) → futures_in test ds ≡ f ∷ rest → count_by (is_kept r) ds < 512
      → Kept r test 1 ds (kept_due r test ds)
  one_kept ds f rest is few =
      let one = first test ds f rest is in
      let d : Due = record one.due_one { keeper = Some r } in
      let es : List Due = without test ds ++ d ∷ [] in
      subst (Kept r test 1 ds) (sym (kept_as ds f rest one few))
      (record {
        left =
            futures_last test (without test ds) d
            ∙ (ap (λ b. futures_in test (without test ds) ++ (if b then d.future ∷ [] else [])) (away.back one.due_one)
            ∙ (append-nil (futures_in test (without test ds)) ∙ (one.left ∙ ap (drop 1) (sym is))));
        come =
            futures_last (is_kept r) (without test ds) d
            ∙ (ap (λ b. futures_in (is_kept r) (without test ds) ++ (if b then d.future ∷ [] else [])) (equal r r refl)
            ∙ (ap (λ fs. fs ++ d.future ∷ []) (others test (is_kept r) ds away.own)
            ∙ (ap (λ f. futures_in (is_kept r) ds ++ f ∷ []) one.is ∙ ap (λ fs. futures_in (is_kept r) ds ++ take 1 fs) (sym is))));
        beside = λ u x.
            futures_last u (without test ds) d
            ∙ (ap (λ b. futures_in u (without test ds) ++ (if b then d.future ∷ [] else [])) (x.back one.due_one)
            ∙ (append-nil (futures_in u (without test ds)) ∙ others test u ds x.apart));
      })

  drops_more : (n : ℕ) (fs : List ℕ) → drop n (drop 1 fs) ≡ drop (suc n) fs
  drops_more zero [] = refl
  drops_more (suc n) [] = refl
  drops_more n (f ∷ fs) = refl

  takes_more : (n : ℕ) (fs : List ℕ) → take 1 fs ++ take n (drop 1 fs) ≡ take (suc n) fs
  takes_more zero [] = refl
  takes_more (suc n) [] = refl
  takes_more n (f ∷ fs) = refl

  pub many_kept : (n : ℕ) (ds : List Due) → n ≤ length (futures_in test ds) → HasPlaces r n ds
      → Kept r test n ds (repeat n (kept_due r test) ds)
  many_kept zero ds there few =
      record { left = refl; come = sym (append-nil (futures_in (is_kept r) ds)); beside = λ u x. refl }
  many_kept (suc n) ds there few = by (λ es. many_kept n es) (futures_in test ds) refl
    where
      by : ((es : List Due) → n ≤ length (futures_in test es) → HasPlaces r n es → Kept r test n es (repeat n (kept_due r test) es))
          → (fs : List ℕ) → futures_in test ds ≡ fs → Kept r test (suc n) ds (repeat n (kept_due r test) (kept_due r test ds))
      by again [] is = absurd (omega (arith, there, ap length is))
      by again (f ∷ rest) is =
          let es : List Due = kept_due r test ds in
          let one = one_kept ds f rest is (omega (arith, count_is (is_kept r) ds, few (omega arith))) in
          let more =
          again es
          (omega (arith, there, ap length is, ap length (one.left ∙ ap (drop 1) is)))
          (λ some.
          omega (
            arith,
            few (omega arith),
            ap length (one.come ∙ ap (λ fs. futures_in (is_kept r) ds ++ take 1 fs) is),
            long (futures_in (is_kept r) ds) f,
          )) in
          record {
            left = more.left ∙ (ap (drop n) one.left ∙ drops_more n (futures_in test ds));
            come =
                more.come
                ∙ (ap (λ fs. futures_in (is_kept r) es ++ take n fs) one.left
                ∙ (ap (λ fs. fs ++ take n (drop 1 (futures_in test ds))) one.come
                ∙ (append_assoc (futures_in (is_kept r) ds) (take 1 (futures_in test ds)) (take n (drop 1 (futures_in test ds)))
                ∙ ap (λ fs. futures_in (is_kept r) ds ++ fs) (takes_more n (futures_in test ds)))));
            beside = λ u x. more.beside u x ∙ one.beside u x;
          }
        where
          long : (xs : List ℕ) (f : ℕ) → length (xs ++ f ∷ []) ≡ length xs + 1
          long [] f = omega arith
          long (x ∷ xs) f = omega (arith, long xs f)

-- classes beside each other
pub common_beside : (r : ℕ) (m : Mark) (k : ℕ) → (k == r) ≡ false → IsBeside r (is_common m) (is_kept k)
common_beside r m k apart = record { apart = λ d is. keepers_apart m k d is; back = λ d. apart }
