-- Where a run takes a future one is due; where it lies down, or is refused memory, none is.
use Rattle.std.proofs.Common.{◌≡◌, ℕ, ◌≤◌, if◌then◌else◌, length, Bool, true, false, List, [], ◌∷◌, find, Option, Some, None, refl, sym}
use Rattle.std.proofs.Common.{ap, ◌∙◌}
use Rattle.solo.specs.declared.names.Task.{Task}
use Rattle.solo.specs.declared.names.SoloWaker.{SoloWaker}
use Rattle.solo.specs.declared.owed.Lent.{Lent}
use Rattle.solo.specs.declared.runs.Runner.{Runner}
use Rattle.solo.specs.declared.solo.Solo.{Solo}
use Rattle.solo.specs.Lines.{mark_of_turn}
use Rattle.solo.specs.Solo as solo
use Rattle.solo.specs.Steals as steals
use Rattle.plain_scheduler.specs.State.{Choice, Due, Event, Plain}
use Rattle.plain_scheduler.specs.Lists.{any}
use Rattle.plain_scheduler.specs.Moves.{chosen, is_due}
use Rattle.plain_scheduler.specs.Searches.{Search, finds}
use Rattle.solo_laws.specs.Numbered.{IsNumbered}
use Rattle.solo_laws.specs.Owner.{Owner, taken_by_run}
use Rattle.solo_laws.specs.Road.{tests}
use Rattle.solo_laws.specs.RunGoing.{Searches, is_refused, lies_refused, rests, robs_another, takes_common, takes_own}
use Rattle.solo_laws.specs.RunResting.{EachListed}
use Rattle.solo_laws.specs.Tabled.{Stands, goes_on, named}
use Rattle.solo_laws.proofs.Following.OwnEmpty.{none_kept, popped_both}
use Rattle.solo_laws.proofs.Following.RunResting.{none_due}
use Rattle.solo_laws.proofs.Following.RunTaking.{first_kept}
use Rattle.solo_laws.proofs.Following.RunWalking as walking
use Rattle.solo_laws.proofs.Following.Trying as trying

-- what is found is due
pub found_due : (test : Due → Bool) (ds : List Due) (d : Due) → find test ds ≡ Some d → any is_due ds ≡ true
found_due test [] d is = absurd cc
found_due test (e ∷ ds) d is = refl

-- where a search finds a task a future without a keeper is due
pub common_found : {F T X : Type 0} (its : ℕ → Lent) (c : Choice) (s : Solo F T X) (p : Plain T (SoloWaker X)) (both : Stands its s p)
    (turn : c.first ≡ mark_of_turn s.lines.turn) (task : Task) → solo.sought s ≡ Some task
    → (d : Due) × (find (chosen (tests c.first) p.due) p.due ≡ Some d)
common_found its c s p both turn task has = by (find (chosen (tests c.first) p.due) p.due) refl
  where
    by : (o : Option Due) → find (chosen (tests c.first) p.due) p.due ≡ o
        → (d : Due) × (find (chosen (tests c.first) p.due) p.due ≡ Some d)
    by (Some d) is = (d, is)
    by None is =
        let none = trying.nothing (named its) c s p turn both.0 is in
        let it : ◌≡◌ {A = Option Task} None (Some task) = sym none.0 ∙ has in
        absurd cc

-- one is taken and counted, or none is due
pub data Finds {T X : Type 0} (owner : Owner) (runner : Runner) (now : Owner) (x : Search T (SoloWaker X)) : Type 0 where
  finds_one : finds x ≡ true → now ≡ taken_by_run runner owner → Finds owner runner now x
  finds_none : finds x ≡ false → ((r : ℕ) → now.runner r ≡ owner.runner r) → Finds owner runner now x

module _ {F T X : Type 0} (its : ℕ → Lent) (owner : Owner) (c : Choice) (runner : Runner) (w : SoloWaker X) (s : Solo F T X)
    (p : Plain T (SoloWaker X)) (both : Stands its s p) (n : IsNumbered owner.number s.sleepers p.lying) (all : EachListed s.runs)
    (going : goes_on runner.number p ≡ true) (many : length p.lying ≤ c.tells) where
  abbrev r : ℕ
  r = runner.number

  abbrev At : Owner → Type 0
  At now = Finds owner runner now (record { run = r; waker = w; at = p })

  vain : (start : ℕ) (missed : (steals.seek_answer r start s).task ≡ None) (turn : c.first ≡ mark_of_turn s.lines.turn)
      → any is_due p.due ≡ false
  vain start missed turn = ap (any is_due) (none_due its owner.number s p both n c r w start start going all missed turn)

  pub finding : (shown : List (Event T (SoloWaker X))) (now : Owner) (z : Solo F T X) → Searches its owner c runner w s p shown now z
      → At now
  finding shown now z (takes_own start task first keeps life) =
      let it = first_kept its owner.number s p both n r task going first in finds_one (found_due _ p.due it.0 it.1) refl
  finding shown now z (takes_common start task first found turn keeps life) =
      let empty = popped_both its s p both r (none_kept its s p both r going first) in
      let it = common_found its c (steals.own_popped r s) p empty turn task found in
      finds_one (found_due _ p.due it.0 it.1) refl
  finding shown now z (robs_another start task first found turn has robs moves keeps life) =
      let it = walking.found its owner.number s p both n c runner w start task going first found turn many life has robs moves keeps in
      finds_one (found_due _ p.due _ it.is) refl
  finding shown now z (rests first second missed turn granted names more life) = finds_none (vain first missed turn) (λ k. refl)
  finding shown now z (is_refused start missed turn refused) = finds_none (vain start missed turn) (λ k. refl)
  finding shown now z (lies_refused first second missed turn refused names again more life) =
      finds_none (vain first missed turn) (λ k. refl)

  -- so this is what its owner knows of each run then
  pub counts_so : (shown : List (Event T (SoloWaker X))) (now : Owner) (z : Solo F T X) → Searches its owner c runner w s p shown now z
      → (k : ℕ) → now.runner k ≡ (if any is_due p.due then taken_by_run runner owner else owner).runner k
  counts_so shown now z how k = by (finding shown now z how)
    where
      by : At now → now.runner k ≡ (if any is_due p.due then taken_by_run runner owner else owner).runner k
      by (finds_one has is) =
          ap (λ (o : Owner). o.runner k) is
          ∙ sym (ap (λ b. (if b then taken_by_run runner owner else owner).runner k) has)
      by (finds_none none still) =
          still k ∙ sym (ap (λ b. (if b then taken_by_run runner owner else owner).runner k) none)
