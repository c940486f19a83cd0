-- From which run another takes as its walk goes round, and how many it moves, in the words of the plain scheduler.
use Rattle.std.proofs.Common.{◌≡◌, ℕ, zero, suc, ◌-◌, ◌==◌, cond, Bool, true, false, List, [], ◌∷◌, length, map, filter}
use Rattle.std.proofs.Common.{find, is_some, count_by, slice_get, Option, Some, None, refl, sym, ap, ◌∙◌}
use Rattle.std.proofs.lemmas.List.Sums.{length-filter}
use Rattle.solo.specs.declared.names.Task.{Task}
use Rattle.solo.specs.declared.names.SoloWaker.{SoloWaker}
use Rattle.solo.specs.declared.owed.Lent.{Lent}
use Rattle.solo.specs.declared.own_queues.Own.{Own}
use Rattle.solo.specs.declared.steals.Source.TheVariants.{Own as OwnOf}
use Rattle.solo.specs.declared.solo.Solo.{Solo}
use Rattle.solo.specs.Cells.{choose}
use Rattle.solo.specs.OwnQueues as own
use Rattle.solo.specs.Steals as steals
use Rattle.plain_scheduler.specs.State.{Due, Plain}
use Rattle.plain_scheduler.specs.Lists.{any, or}
use Rattle.plain_scheduler.specs.Moves.{is_kept}
use Rattle.plain_scheduler.specs.Usual.{share}
use Rattle.solo_laws.specs.Road.{due_task}
use Rattle.solo_laws.specs.Stealing.{share_of}
use Rattle.solo_laws.specs.Tabled.{Stands, goes_on, named, own_of}
use Rattle.solo_laws.specs.Walking.{robbed_on}
use Rattle.solo_laws.proofs.Choices.Shares.{same_share}
use Rattle.solo_laws.proofs.Following.Cells.{same_number}
use Rattle.solo_laws.proofs.Following.InVain.{look_dry, popped_same, stolen_same}
use Rattle.solo_laws.proofs.Following.Lines.{any_none, find_first}
use Rattle.solo_laws.proofs.Following.Lists.{length_map}
use Rattle.solo_laws.proofs.Following.Numbers.{turn}
use Rattle.solo_laws.proofs.Following.Stealing.{free_there}
use Rattle.solo_laws.proofs.Following.Taking.{found_any}

-- the numbers of the runs at so many places, from this one on, counted round
abbrev pub visited : List Own → ℕ → ℕ → ℕ → List ℕ
visited queues count zero at = []
visited queues count (suc places) at = own.number_at at queues ∷ visited queues count places (steals.next_place at count)

module _ {F T X : Type 0} (r : ℕ) (s : Solo F T X) (empty : own.queue_of r s.runs.queues ≡ Some []) (keeps_any : ℕ → Bool)
    (not_its : keeps_any r ≡ false) (so : (k : ℕ) → keeps_any k ≡ is_some (own.first_of k s.runs)) where
  abbrev first_in : List ℕ → ℕ
  first_in ks = or (find keeps_any ks) (λ k. k) 0

  -- a walk passes those that keep none, and leaves all as it was
  pub robs_first : (count places at : ℕ) → robbed_on count r places at s ≡ (first_in (visited s.runs.queues count places at), s)
  robs_first count zero at = refl
  robs_first count (suc places) at = by (k == r) refl (robs_first count places nx)
    where
      k : ℕ
      k = own.number_at at s.runs.queues

      nx : ℕ
      nx = steals.next_place at count

      stolen : Solo F T X
      stolen = steals.stolen (OwnOf (own.number_at at s.runs.queues)) r s

      rest : List ℕ
      rest = visited s.runs.queues count places (steals.next_place at count)

      end : Bool → ℕ × Solo F T X
      end b = (or (cond b (Some (own.number_at at s.runs.queues)) (find keeps_any rest)) (λ k. k) 0, s)

      on : Option Task → Solo F T X → ℕ × Solo F T X
      on o z = or o (λ task. (own.number_at at s.runs.queues, s)) (robbed_on count r places (steals.next_place at count) z)

      found : (o : Option Task) → own.first_of r stolen.runs ≡ o → (k == r) ≡ false
          → robbed_on count r places nx s ≡ end false → on o (steals.own_popped r stolen) ≡ end (keeps_any k)
      found None none other more =
          let dry = look_dry r k s empty (turn k r other) none in
          let same : steals.own_popped r stolen ≡ s =
          ap (steals.own_popped r) (stolen_same k r s dry) ∙ popped_same r s (ap own.first_in empty) in
          ap (λ z. robbed_on count r places nx z) same ∙ (more ∙ ap end (sym (so k ∙ ap (λ o. is_some o) dry)))
      found (Some t) some other more = ap end (sym (so k ∙ wet (own.first_of k s.runs) refl))
        where
          none_some : {o : Option Task} → o ≡ None → o ≡ Some t → ⊥
          none_some off is = absurd cc

          wet : (o : Option Task) → own.first_of k s.runs ≡ o → is_some o ≡ true
          wet (Some t) is = refl
          wet None dry =
              absurd (none_some (ap (λ (z : Solo F T X). own.first_of r z.runs) (stolen_same k r s dry) ∙ ap own.first_in empty) some)

      by : (b : Bool) → (k == r) ≡ b → robbed_on count r places nx s ≡ end false
          → on (choose (k == r) None (own.first_of r stolen.runs)) (choose (k == r) s (steals.own_popped r stolen)) ≡ end (keeps_any k)
      by true mine more =
          ap (λ b. on (choose b None (own.first_of r stolen.runs)) (choose b s (steals.own_popped r stolen))) mine
          ∙ (more ∙ ap end (sym (ap keeps_any (same_number k r mine) ∙ not_its)))
      by false other more =
          ap (λ b. on (choose b None (own.first_of r stolen.runs)) (choose b s (steals.own_popped r stolen))) other
          ∙ found (own.first_of r stolen.runs) refl other more

module _ {F T X : Type 0} (its : ℕ → Lent) (s : Solo F T X) (p : Plain T (SoloWaker X)) (both : Stands its s p) where
  -- a run keeps any where there is a task in its own queue
  pub any_own : (k : ℕ) → any (is_kept k) p.due ≡ is_some (own.first_of k s.runs)
  any_own k =
      found_any (is_kept k) p.due
      ∙ (ap (λ o. is_some o) (find_first (is_kept k) p.due)
      ∙ (by (goes_on k p) refl (filter (is_kept k) p.due) refl
      ∙ sym (ap (λ o. is_some (own.first_in o)) (both.1.queues k))))
    where
      by : (b : Bool) → goes_on k p ≡ b → (ds : List Due) → filter (is_kept k) p.due ≡ ds
          → is_some (slice_get ds 0) ≡ is_some (own.first_in (own_of its (goes_on k p) ds))
      by true on [] is = sym (ap (λ b. is_some (own.first_in (own_of its b []))) on)
      by true on (d ∷ ds) is = sym (ap (λ b. is_some (own.first_in (own_of its b (d ∷ ds)))) on)
      by false over [] is = sym (ap (λ b. is_some (own.first_in (own_of its b []))) over)
      by false over (d ∷ ds) is = let it : d ∷ ds ≡ [] = sym is ∙ both.1.kept k over in absurd cc

  pub none_own : (r : ℕ) → goes_on r p ≡ true → any (is_kept r) p.due ≡ false → own.queue_of r s.runs.queues ≡ Some []
  none_own r going none =
      both.1.queues r
      ∙ (ap (λ b. own_of its b (filter (is_kept r) p.due)) going
      ∙ ap (λ ds. Some (map (due_task (named its)) ds)) (any_none (is_kept r) p.due none))

  -- of what a run keeps as many are stolen as of a queue
  pub kept_share : (r k : ℕ) → goes_on r p ≡ true
      → share_of (OwnOf k) r s ≡ share (count_by (is_kept k) p.due) (512 - count_by (is_kept r) p.due)
  kept_share r k going =
      same_share (own.count_of k s.runs) (own.free_of r s.runs)
      ∙ (ap (λ n. share n (own.free_of r s.runs)) (ap own.count_in (both.1.queues k) ∙
      (by (goes_on k p) refl ∙ length-filter (is_kept k) p.due))
      ∙ ap (share (count_by (is_kept k) p.due))
      (free_there None its r s p both going ∙ ap (λ n. 512 - n) (length-filter (is_kept r) p.due)))
    where
      by : (b : Bool) → goes_on k p ≡ b → own.count_in (own_of its (goes_on k p) (filter (is_kept k) p.due)) ≡ length
          (filter (is_kept k) p.due)
      by true on =
          ap (λ b. own.count_in (own_of its b (filter (is_kept k) p.due))) on ∙ length_map (due_task (named its)) (filter (is_kept k) p.due)
      by false over =
          ap (λ b. own.count_in (own_of its b (filter (is_kept k) p.due))) over
          ∙ sym (ap (λ (ds : List Due). length ds) (both.1.kept k over))
