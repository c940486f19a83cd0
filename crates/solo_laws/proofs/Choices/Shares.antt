-- How many a run steals, and of which marks, in the words of the plain scheduler.
use Rattle.std.proofs.Common.{◌≡◌, ℕ, zero, suc, ◌+◌, ◌-◌, ◌/◌, ◌%◌, ◌<◌, min, nat_lt, if◌then◌else◌, Bool, true, false, List, []}
use Rattle.std.proofs.Common.{◌∷◌, ◌++◌, length, filter, Option, count_by, append-nil, refl, sym, ap, ◌∙◌, arith}
use Rattle.std.proofs.lemmas.List.Sums.{length-filter}
use Rattle.executor_parts.specs.declared.mark.Mark.{Mark}
use Rattle.executor_parts.specs.declared.mark.Mark.TheVariants.{Plain as PlainMark, Urgent}
use Rattle.solo.specs.declared.names.Task.{Task}
use Rattle.solo.specs.declared.names.SoloWaker.{SoloWaker}
use Rattle.solo.specs.declared.owed.Lent.{Lent}
use Rattle.solo.specs.declared.steals.Source.TheVariants.{Common}
use Rattle.solo.specs.declared.solo.Solo.{Solo}
use Rattle.solo.specs.Cells.{choose}
use Rattle.solo.specs.OwnQueues as own
use Rattle.solo.specs.Steals as steals
use Rattle.plain_scheduler.specs.State.{Choice, Due, Plain}
use Rattle.plain_scheduler.specs.Lists.{each, repeat}
use Rattle.plain_scheduler.specs.Moves.{is_common, is_kept, keeps}
use Rattle.plain_scheduler.specs.Usual.{keeping, next_ones, of_both, share, so_many}
use Rattle.solo_laws.specs.Road.{due_task, wakes}
use Rattle.solo_laws.specs.Stealing as stealing
use Rattle.solo_laws.specs.Stealing.{share_of, stolen_marks}
use Rattle.solo_laws.specs.Tabled.{goes_on, named}
use Rattle.solo_laws.proofs.Following.Appending.{with_due}
use Rattle.solo_laws.proofs.Following.Lists.{length_map}
use Rattle.solo_laws.proofs.Following.NextOnes.{each_mark}
use Rattle.solo_laws.proofs.Following.RunSearching.{keeps_each}
use Rattle.solo_laws.proofs.Following.SameDue.{Same, each_same, next_due}
use Rattle.solo_laws.proofs.Following.Stealing.{StandsBut, free_there, steals_all}

-- half of them, rounded up
pub same_share : (n free : ℕ) → steals.share n free ≡ share n free
same_share n free =
    ap (λ h. choose (nat_lt h free) h free) (half (n / 2) (n % 2) (omega arith) (omega arith)) ∙ by (nat_lt ((n + 1) / 2) free)
  where
    half : (q r : ℕ) → r < 2 → n ≡ q + q + r → q + min 1 r ≡ (n + 1) / 2
    half q zero few is = omega (arith, is)
    half q (suc zero) few is = omega (arith, is)
    half q (suc (suc r)) few is = absurd (omega (arith, few))

    by : (b : Bool) → choose b ((n + 1) / 2) free ≡ (if b then (n + 1) / 2 else free)
    by true = refl
    by false = refl

pub same_many : (n : ℕ) (mark : Mark) → stealing.so_many n mark ≡ so_many n mark
same_many zero mark = refl
same_many (suc n) mark = ap (λ ms. mark ∷ ms) (same_many n mark)

-- by what is due alone
module _ (r : ℕ) where
  abbrev pub ones : Mark → List Due → List Mark
  ones mark ds = so_many (share (count_by (is_common mark) ds) (512 - count_by (is_kept r) ds)) mark

  abbrev pub ones_of_both : List Due → List Mark
  ones_of_both ds = let urgent = ones Urgent ds in urgent ++ ones PlainMark (each urgent (next_due r) ds)

  count_same : (test : Due → Bool) (ds es : List Due) → filter test ds ≡ filter test es → count_by test ds ≡ count_by test es
  count_same test ds es same = sym (length-filter test ds) ∙ (ap (λ (xs : List Due). length xs) same ∙ length-filter test es)

  ones_same : (mark : Mark) (ds es : List Due) → Same ds es → ones mark ds ≡ ones mark es
  ones_same mark ds es so =
      ap (λ n. so_many (share n (512 - count_by (is_kept r) ds)) mark) (count_same (is_common mark) ds es (so.commons mark))
      ∙ ap (λ n. so_many (share (count_by (is_common mark) es) (512 - n)) mark) (count_same (is_kept r) ds es (so.kept r))

  pub both_same : (ds es : List Due) → Same ds es → ones_of_both ds ≡ ones_of_both es
  both_same ds es so =
      let urgent = ones Urgent es in
      ap (λ ms. ms ++ ones PlainMark (each ms (next_due r) ds)) (ones_same Urgent ds es so)
      ∙ ap (λ ms. urgent ++ ms)
      (ones_same PlainMark (each urgent (next_due r) ds) (each urgent (next_due r) es) (each_same r urgent ds es so))

  module _ {T X : Type 0} (c : Choice) (q : Plain T (SoloWaker X)) where
    pub keeping_is : (marks : List Mark) → keeping wakes c r marks q ≡ with_due (each marks (next_due r) q.due) q
    keeping_is marks = keeps_each r marks q

    pub of_both_is : of_both wakes c r q ≡ ones_of_both q.due
    of_both_is =
        let urgent = ones Urgent q.due in
        ap (λ (z : Plain T (SoloWaker X)). urgent ++ next_ones wakes c r PlainMark z) (keeping_is urgent)

-- as many as the executor's run
module _ {F T X : Type 0} (aside : Option Due) (its : ℕ → Lent) (r : ℕ) where
  pub common_share : (mark : Mark) (s : Solo F T X) (p : Plain T (SoloWaker X)) → StandsBut aside its s p → goes_on r p ≡ true
      → share_of (Common mark) r s ≡ share (count_by (is_common mark) p.due) (512 - count_by (is_kept r) p.due)
  common_share mark s p both going =
      same_share (steals.length_of (Common mark) s) (own.free_of r s.runs)
      ∙ (ap (λ n. share n (own.free_of r s.runs))
      (ap (λ (ts : List Task). length ts) (both.0.queued.lines mark)
      ∙ (length_map (due_task (named its)) (filter (is_common mark) p.due) ∙ length-filter (is_common mark) p.due))
      ∙ ap (share (count_by (is_common mark) p.due))
      (free_there aside its r s p both going ∙ ap (λ n. 512 - n) (length-filter (is_kept r) p.due)))

  -- the next ones of a mark, and of both
  pub next_is : (mark : Mark) (s : Solo F T X) (p : Plain T (SoloWaker X)) → StandsBut aside its s p → goes_on r p ≡ true
      → stealing.so_many (share_of (Common mark) r s) mark ≡ ones r mark p.due
  next_is mark s p both going =
      same_many (share_of (Common mark) r s) mark ∙ ap (λ n. so_many n mark) (common_share mark s p both going)

  pub both_is : (s : Solo F T X) (p : Plain T (SoloWaker X)) → StandsBut aside its s p → goes_on r p ≡ true
      → stolen_marks true r s ≡ ones_of_both r p.due
  both_is s p both going =
      let n = share_of (Common Urgent) r s in
      let next = λ (mark : Mark). keeps r (is_common mark) in
      let urgent = stealing.so_many n Urgent in
      let z = steals.stolen (Common Urgent) r s in
      let q : Plain T (SoloWaker X) = repeat n (keeps r (is_common Urgent)) p in
      let stole : StandsBut aside its z q = steals_all aside its r s p both going (Common Urgent) refl in
      let is : q ≡ with_due (each urgent (next_due r) p.due) p =
      sym (ap (λ ms. each ms next p) (sym (append-nil urgent)) ∙ each_mark next n Urgent [] p) ∙ keeps_each r urgent p in
      let still : goes_on r q ≡ true = ap (goes_on r) is ∙ going in
      ap (λ ms. urgent ++ ms) (next_is PlainMark z q stole still ∙ ap (λ (q : Plain T (SoloWaker X)). ones r PlainMark q.due) is)
      ∙ ap (λ ms. ms ++ ones r PlainMark (each ms (next_due r) p.due)) (next_is Urgent s p both going)
