-- What runs have counted behind each call.
use Rattle.std.proofs.Common.{◌≡◌, ℕ, ◌+◌, ◌≤◌, ◌==◌, ◌&&◌, nat_lt, if◌then◌else◌, Bool, true, false, List, length, refl, sym, ap, ◌∙◌}
use Rattle.solo.specs.declared.names.SoloWaker.{SoloWaker}
use Rattle.solo.specs.declared.owed.Lent.{Lent}
use Rattle.solo.specs.declared.runs.Runner.{Runner}
use Rattle.solo.specs.declared.solo.Solo.{Solo}
use Rattle.solo.specs.Cells.{choose}
use Rattle.solo.specs.Runs as runs
use Rattle.plain_scheduler.specs.State.{Choice, Event, Plain}
use Rattle.plain_scheduler.specs.Lists.{or}
use Rattle.plain_scheduler.specs.Calls.{Call}
use Rattle.plain_scheduler.specs.Searches.{Search, finds, searches}
use Rattle.plain_scheduler.specs.Usual.{counted_by, one_counted}
use Rattle.solo_laws.specs.Choosing.{SearchesAt}
use Rattle.solo_laws.specs.Counting.{CallsCount, counts_of}
use Rattle.solo_laws.specs.Courses.{Acts}
use Rattle.solo_laws.specs.Owner.{Owner, taken_by_run}
use Rattle.solo_laws.specs.Road.{wakes}
use Rattle.solo_laws.proofs.Choices.Searched.{Searched, a_search, acts_searched, no_search}
use Rattle.solo_laws.proofs.Following.Cells.{same_number}
use Rattle.solo_laws.proofs.Showing.Counts.{Below, all_count_to_64, counted_alike}
use Rattle.solo_laws.proofs.Showing.Courses.{Known, led_known}

module _ {F T X : Type 0} (its : ℕ → Lent) (owner : Owner) (c : Choice) (s : Solo F T X) (p : Plain T (SoloWaker X))
    (known : Known its owner s p) (below : Below owner) (many : length p.lying ≤ c.tells) where
  abbrev by_search : ℕ → Search T (SoloWaker X) → ℕ
  by_search k x = if (k == x.run) && finds x then one_counted (counts_of owner k) else counts_of owner k

  searched_counts : (x : Search T (SoloWaker X)) (now : Owner) (z : Solo F T X) → SearchesAt its owner c s x now z → (k : ℕ)
      → counts_of now k ≡ by_search k x
  searched_counts x now z at k = ap (λ (x : Runner). x.counted) (at.counts k) ∙ by (finds x) (k == x.run) refl
    where
      same : (k == x.run) ≡ (k == at.runner.number)
      same = ap (λ n. k == n) (sym at.number)

      by : (b e : Bool) → (k == x.run) ≡ e → counts_of (if b then taken_by_run at.runner owner else owner) k
          ≡ (if e && b then one_counted (counts_of owner k) else counts_of owner k)
      by false true one = refl
      by false false away = refl
      by true false away =
          ap (λ b. (if b then runs.taken (runs.counted at.runner) else owner.runner k).counted) (sym same ∙ away)
      by true true one =
          let mine : at.runner.counted ≡ counts_of owner k =
          sym (ap (λ (x : Runner). x.counted) at.has)
          ∙ ap (counts_of owner) (sym (same_number k at.runner.number (sym same ∙ one))) in
          ap (λ b. (if b then runs.taken (runs.counted at.runner) else owner.runner k).counted) (sym same ∙ one)
          ∙ (ap (λ n. choose (nat_lt n 63) (n + 1) 0) mine ∙ counted_alike (counts_of owner k) (below k))

  pub call_counts : (now : Owner) (z : Solo F T X) (call : Call T (SoloWaker X)) (shown : List (Event T (SoloWaker X)))
      → Acts its owner c s p call shown now z → (k : ℕ) → counts_of now k ≡ counted_by wakes c call p (counts_of owner) k
  call_counts now z call shown acts k = by (acts_searched its owner c s p known many now z call shown acts)
    where
      by : Searched its owner c s p call now z → counts_of now k ≡ or (searches wakes c call p) (by_search k) (counts_of owner k)
      by (no_search none same) =
          ap (λ (x : Runner). x.counted) (same k) ∙ ap (λ o. or o (by_search k) (counts_of owner k)) (sym none)
      by (a_search x is at) =
          searched_counts x now z at k ∙ ap (λ o. or o (by_search k) (counts_of owner k)) (sym is)

pub calls_count : {F T X : Type 0} → CallsCount F T X
calls_count its owner c s p now z call shown led many acts k =
    call_counts its owner c s p (led_known its owner s p led) (all_count_to_64 its owner s p led) many now z call shown acts k
