-- A run that steals keeps the next ones of one mark, or of both; or what another run keeps.
use Rattle.std.proofs.Common.{◌≡◌, ℕ, zero, suc, nat_lt, not, if◌then◌else◌, Bool, true, false, List, [], ◌∷◌, ◌++◌, find, Option}
use Rattle.std.proofs.Common.{Some, None, slice_get, append-nil, count_by, refl, sym, ap, subst, ◌∙◌}
use Rattle.executor_parts.specs.declared.mark.Mark.{Mark}
use Rattle.executor_parts.specs.declared.mark.Mark.TheVariants.{Plain as PlainMark, Urgent}
use Rattle.solo.specs.declared.names.SoloWaker.{SoloWaker}
use Rattle.solo.specs.declared.owed.Lent.{Lent}
use Rattle.solo.specs.declared.steals.Source.TheVariants.{Common, Own}
use Rattle.solo.specs.declared.solo.Solo.{Solo}
use Rattle.solo.specs.Steals as steals
use Rattle.plain_scheduler.specs.State.{Due, Plain}
use Rattle.plain_scheduler.specs.Lists.{each, on, or, repeat, without}
use Rattle.plain_scheduler.specs.Moves.{is_common, is_kept, keeps}
use Rattle.solo_laws.specs.Tabled.{Stands, goes_on}
use Rattle.solo_laws.specs.Stealing.{KeepsAlike, KeepsOfBoth, RobsAlike, share_of, so_many}
use Rattle.solo_laws.proofs.Following.Stealing.{by_run, steals_all}

-- a run keeps the next ones of these marks, one after the other
module _ {S : Type 0} (next : Mark → S → S) where
  pub each_mark : (n : ℕ) (mark : Mark) (others : List Mark) (p : S)
      → each (so_many n mark ++ others) next p ≡ each others next (repeat n (next mark) p)
  each_mark zero mark others p = refl
  each_mark (suc n) mark others p = each_mark n mark others (next mark p)

module _ {F T X : Type 0} (its : ℕ → Lent) (s : Solo F T X) (p : Plain T (SoloWaker X)) (both : Stands its s p) where
  abbrev next_of : ℕ → Mark → Plain T (SoloWaker X) → Plain T (SoloWaker X)
  next_of r mark p = keeps r (is_common mark) p

  -- whether the run goes on is nothing to what is due
  runs_on : (r n : ℕ) (test : Due → Bool) (q : Plain T (SoloWaker X)) → (repeat n (keeps r test) q).runs ≡ q.runs
  runs_on r zero test q = refl
  runs_on r (suc n) test q = runs_on r n test (keeps r test q) ∙ by (nat_lt (count_by (is_kept r) q.due) 512) (find test q.due)
    where
      by : (b : Bool) (o : Option Due)
          → (if b then on o (λ d p. record p { due = without test p.due ++ by_run r d ∷ [] }) q else q).runs ≡ q.runs
      by true None = refl
      by true (Some d) = refl
      by false o = refl

  pub keeps_alike : KeepsAlike its s p
  keeps_alike c r mark going all =
      let n = share_of (Common mark) r s in
      subst (λ marks. Stands its (steals.stolen (Common mark) r s) (each marks (next_of r) p)) (sym all)
      (subst (λ marks. Stands its (steals.stolen (Common mark) r s) (each marks (next_of r) p)) (append-nil (so_many n mark))
      (subst (Stands its (steals.stolen (Common mark) r s)) (sym (each_mark (next_of r) n mark [] p))
      (steals_all None its r s p both going (Common mark) refl)))

  pub keeps_of_both : KeepsOfBoth its s p
  keeps_of_both c r false going all =
      subst (λ marks. Stands its s (each marks (next_of r) p)) (sym all) both
  keeps_of_both c r true going all =
      let n = share_of (Common Urgent) r s in
      let z = steals.stolen (Common Urgent) r s in
      let q = repeat n (next_of r Urgent) p in
      let m = share_of (Common PlainMark) r z in
      let end = steals.stolen (Common PlainMark) r z in
      let one : Stands its z q = steals_all None its r s p both going (Common Urgent) refl in
      let on_still : goes_on r q ≡ true =
      ap (λ rs. or (slice_get rs r) (λ run. not run.is_over) false) (runs_on r n (is_common Urgent) p) ∙ going in
      subst (λ marks. Stands its end (each marks (next_of r) p)) (sym all)
      (subst (Stands its end) (sym (each_mark (next_of r) n Urgent (so_many m PlainMark) p))
      (subst (λ marks. Stands its end (each marks (next_of r) q)) (append-nil (so_many m PlainMark))
      (subst (Stands its end) (sym (each_mark (next_of r) m PlainMark [] q))
      (steals_all None its r z q one on_still (Common PlainMark) refl))))

  pub robs_alike : RobsAlike its s p
  robs_alike c r other going away all =
      subst (λ b. Stands its (steals.stolen (Own other) r s) (if b then p else repeat c.moves (keeps r (is_kept other)) p)) (sym away)
      (subst (λ n. Stands its (steals.stolen (Own other) r s) (repeat n (keeps r (is_kept other)) p)) (sym all)
      (steals_all None its r s p both going (Own other) (ap not away)))
