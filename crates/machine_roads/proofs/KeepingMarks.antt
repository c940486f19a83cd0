-- So many futures of a mark that a run keeps beside what it has taken, one after the other.
use Rattle.std.proofs.Common.{◌≡◌, ℕ, zero, suc, ◌+◌, ◌-◌, ◌≤◌, ◌==◌, ◌++◌, Bool, true, false, List, [], ◌∷◌, length}
use Rattle.std.proofs.Common.{drop, take, append-nil, refl, sym}
use Rattle.std.proofs.Common.{ap, subst, count_by, ◌∙◌, arith}
use Rattle.executor_parts.specs.declared.mark.Mark.{Mark}
use Rattle.executor_parts.specs.declared.mark.Mark.TheVariants.{Plain as PlainMark, Urgent}
use Rattle.executor_parts.specs.Marks.{other}
use Rattle.executor_model.specs.declared.op.Waker.{Waker}
use Rattle.plain_scheduler.specs.State.{Choice, Due, Plain}
use Rattle.plain_scheduler.specs.Lists.{each, repeat}
use Rattle.plain_scheduler.specs.Moves.{is_common, is_kept, keeps}
use Rattle.plain_scheduler.specs.Usual.{is_64th, one_counted, share, so_many}
use Rattle.plain_scheduler.specs.Usual as usual
use Rattle.machine_roads.specs.View.{Output, wakes}
use Rattle.machine_roads.specs.Road.{futures_in}
use Rattle.machine_roads.proofs.Adding.{AreBare, bare_none, with_due}
use Rattle.machine_roads.proofs.Changing.{futures_append}
use Rattle.machine_roads.proofs.Due.{marks_apart}
use Rattle.machine_roads.proofs.Keeping.{HasPlaces, IsBeside, Kept, Lined}
use Rattle.machine_roads.proofs.Keeping.{common_away, common_beside, count_is, kept_due, keeps_is, many_kept}
use Rattle.machine_roads.proofs.Lists.{same_of}

-- a run keeps what is common of this mark
abbrev pub keeping : ℕ → Mark → List Due → List Due
keeping r m ds = kept_due r (is_common m) ds

pub each_marks : (r n : ℕ) (m : Mark) (ms : List Mark) (q : Plain Output Waker)
    → each (so_many n m ++ ms) (λ mark. keeps r (is_common mark)) q
    ≡ each ms (λ mark. keeps r (is_common mark)) (with_due (repeat n (keeping r m) q.due) q)
each_marks r zero m ms q = refl
each_marks r (suc n) m ms q =
    ap (each (so_many n m ++ ms) (λ mark. keeps r (is_common mark))) (keeps_is r (is_common m) q)
    ∙ each_marks r n m ms (with_due (keeping r m q.due) q)

pub each_many : (r n : ℕ) (m : Mark) (q : Plain Output Waker)
    → each (so_many n m) (λ mark. keeps r (is_common mark)) q ≡ with_due (repeat n (keeping r m) q.due) q
each_many r n m q =
    ap (λ ms. each ms (λ mark. keeps r (is_common mark)) q) (sym (append-nil (so_many n m))) ∙ each_marks r n m [] q

-- so many of those of this mark come to a run's own queue, as far as there are places
abbrev pub share_of : ℕ → Mark → List Due → ℕ
share_of r m ds = share (count_by (is_common m) ds) (512 - count_by (is_kept r) ds)

pub share_same : (r : ℕ) (m : Mark) (ds es : List Due) → Lined ds es → share_of r m ds ≡ share_of r m es
share_same r m ds es same =
    ap (λ n. share n (512 - count_by (is_kept r) ds))
    (count_is (is_common m) ds ∙ (ap length (same.common m) ∙ sym (count_is (is_common m) es)))
    ∙ ap (λ n. share (count_by (is_common m) es) (512 - n))
    (count_is (is_kept r) ds ∙ (ap length (same.kept r) ∙ sym (count_is (is_kept r) es)))

-- and of both, the urgent ones first
abbrev pub both_of : ℕ → List Due → List Mark
both_of r ds =
    let n = share_of r Urgent ds in
    so_many n Urgent ++ so_many (share_of r PlainMark (repeat n (keeping r Urgent) ds)) PlainMark

pub both_is : (c : Choice) (r : ℕ) (q : Plain Output Waker) → usual.of_both wakes c r q ≡ both_of r q.due
both_is c r q =
    let n = share_of r Urgent q.due in
    ap (λ (z : Plain Output Waker). so_many n Urgent ++ so_many (share_of r PlainMark z.due) PlainMark) (each_many r n Urgent q)

-- of two lists that are alike class by class a run keeps alike
module _ (r : ℕ) (m : Mark) (n : ℕ) where
  abbrev keep : List Due → List Due
  keep ds = repeat n (keeping r m) ds

  marks_beside : IsBeside r (is_common m) (is_common (other m))
  marks_beside = record { apart = marks_apart m; back = λ d. refl }

  -- from what is kept, each class
  lined_by : (ds es dk ek : List Due) → Lined ds es → Kept r (is_common m) n ds dk → Kept r (is_common m) n es ek → Lined dk ek
  lined_by ds es dk ek same one two = record {
    common = λ k. mark m k;
    kept = λ k. keeper k (k == r) refl;
  }
    where
      its : futures_in (is_common m) dk ≡ futures_in (is_common m) ek
      its = one.left ∙ (ap (drop n) (same.common m) ∙ sym two.left)

      others : futures_in (is_common (other m)) dk ≡ futures_in (is_common (other m)) ek
      others =
          one.beside (is_common (other m)) marks_beside ∙ (same.common (other m) ∙ sym (two.beside (is_common (other m)) marks_beside))

      mark : (m k : Mark) → futures_in (is_common k) dk ≡ futures_in (is_common k) ek
      mark j k = by m k its others
        where
          by : (m k : Mark) → futures_in (is_common m) dk ≡ futures_in (is_common m) ek
              → futures_in (is_common (other m)) dk ≡ futures_in (is_common (other m)) ek
              → futures_in (is_common k) dk ≡ futures_in (is_common k) ek
          by PlainMark PlainMark its others = its
          by PlainMark Urgent its others = others
          by Urgent PlainMark its others = others
          by Urgent Urgent its others = its

      keeper : (k : ℕ) (b : Bool) → (k == r) ≡ b → futures_in (is_kept k) dk ≡ futures_in (is_kept k) ek
      keeper k true here =
          subst (λ k. futures_in (is_kept k) dk ≡ futures_in (is_kept k) ek) (sym (same_of k r here))
          (one.come
          ∙ (ap (λ fs. fs ++ take n (futures_in (is_common m) ds)) (same.kept r)
          ∙ (ap (λ fs. futures_in (is_kept r) es ++ take n fs) (same.common m) ∙ sym two.come)))
      keeper k false apart =
          one.beside (is_kept k) (common_beside r m k apart)
          ∙ (same.kept k ∙ sym (two.beside (is_kept k) (common_beside r m k apart)))

  pub lined_more : (ds es : List Due) → Lined ds es → n ≤ length (futures_in (is_common m) ds) → HasPlaces r n ds
      → Lined (keep ds) (keep es)
  lined_more ds es same there few =
      lined_by ds es (keep ds) (keep es) same (many_kept r (is_common m) (common_away r m) n ds there few)
      (many_kept r (is_common m) (common_away r m) n es (subst (λ fs. n ≤ length fs) (same.common m) there)
      (λ some. subst (λ fs. length fs + n ≤ 512) (same.kept r) (few some)))

  -- and whether others are added before or behind that
  pub lined_added : (ds more : List Due) → AreBare more → n ≤ length (futures_in (is_common m) ds) → HasPlaces r n ds
      → Lined (keep ds ++ more) (keep (ds ++ more))
  lined_added ds more bare there few =
      let C : List ℕ = futures_in (is_common m) ds in
      let one = many_kept r (is_common m) (common_away r m) n ds there few in
      let mine : futures_in (is_kept r) (ds ++ more) ≡ futures_in (is_kept r) ds =
      futures_append (is_kept r) ds more
      ∙ (ap (λ fs. futures_in (is_kept r) ds ++ fs) (bare_none r more bare) ∙ append-nil (futures_in (is_kept r) ds)) in
      let two =
      many_kept r (is_common m) (common_away r m) n (ds ++ more)
      (subst (λ fs. n ≤ length fs) (sym (futures_append (is_common m) ds more)) (longer n C (futures_in (is_common m) more) there))
      (λ some. subst (λ fs. length fs + n ≤ 512) (sym mine) (few some)) in
      lined_by (ds ++ more) (ds ++ more) (keep ds ++ more) (keep (ds ++ more)) (record { common = λ k. refl; kept = λ k. refl })
      (record {
        left =
            futures_append (is_common m) (keep ds) more
            ∙ (ap (λ fs. fs ++ futures_in (is_common m) more) one.left
            ∙ (sym (drop_front n C (futures_in (is_common m) more) there) ∙ ap (drop n) (sym (futures_append (is_common m) ds more))));
        come =
            futures_append (is_kept r) (keep ds) more
            ∙ (ap (λ fs. futures_in (is_kept r) (keep ds) ++ fs) (bare_none r more bare)
            ∙ (append-nil (futures_in (is_kept r) (keep ds))
            ∙ (one.come
            ∙ (ap (λ fs. fs ++ take n C) (sym mine)
            ∙ ap (λ fs. futures_in (is_kept r) (ds ++ more) ++ fs)
            (sym (take_front n C (futures_in (is_common m) more) there) ∙ ap (take n) (sym (futures_append (is_common m) ds more)))))));
        beside = λ u x.
            futures_append u (keep ds) more
            ∙ (ap (λ fs. fs ++ futures_in u more) (one.beside u x) ∙ sym (futures_append u ds more));
      })
      two
    where
      longer : (n : ℕ) (xs ys : List ℕ) → n ≤ length xs → n ≤ length (xs ++ ys)
      longer zero xs ys there = omega arith
      longer (suc n) [] ys there = absurd (omega (arith, there))
      longer (suc n) (x ∷ xs) ys there = let more = longer n xs ys (omega (arith, there)) in omega (arith, more)

      drop_front : (n : ℕ) (xs ys : List ℕ) → n ≤ length xs → drop n (xs ++ ys) ≡ drop n xs ++ ys
      drop_front zero xs ys there = refl
      drop_front (suc n) [] ys there = absurd (omega (arith, there))
      drop_front (suc n) (x ∷ xs) ys there = drop_front n xs ys (omega (arith, there))

      take_front : (n : ℕ) (xs ys : List ℕ) → n ≤ length xs → take n (xs ++ ys) ≡ take n xs
      take_front zero xs ys there = refl
      take_front (suc n) [] ys there = absurd (omega (arith, there))
      take_front (suc n) (x ∷ xs) ys there = ap (λ zs. x ∷ zs) (take_front n xs ys (omega (arith, there)))
