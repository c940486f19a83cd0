-- A run has counted another where its count has changed: just where the plain scheduler's run counts one more.
use Rattle.std.proofs.Common.{◌≡◌, ℕ, ◌+◌, ◌==◌, ◌&&◌, cond, not, nat_lt, Bool, true, false, Option, Some, None, is_some, slice_get}
use Rattle.std.proofs.Common.{refl, sym, ap, ◌∙◌, arith}
use Rattle.std.proofs.lemmas.Bool.Decides.{nat_tests}
use Rattle.plain_scheduler.specs.State.{Choice, Plain}
use Rattle.plain_scheduler.specs.Lists.{or}
use Rattle.plain_scheduler.specs.Calls.{Call, does}
use Rattle.plain_scheduler.specs.Searches.{Search, finds, searches}
use Rattle.plain_scheduler.specs.Usual.{counted_by, is_64th, one_counted}
use Rattle.plain_laws.specs.Order.{count}
use Rattle.plain_laws.proofs.Counts.{counts_found}
use Rattle.plain_laws.proofs.Words.{is_itself}

other_count : (n : ℕ) → (n == one_counted n) ≡ false
other_count n = by (is_64th n) refl
  where
    by : (b : Bool) → is_64th n ≡ b → (n == cond b 0 (n + 1)) ≡ false
    by true is = grind (arith, is, nat_tests)
    by false is = grind (arith, nat_tests)

module _ {T A : Type 0} (wakes : A → Option ℕ) (c : Choice) (r : ℕ) where
  pub counts_more : (call : Call T A) (p : Plain T A) (before : ℕ → ℕ) → is_some (slice_get p.runs r) ≡ true → (now : ℕ)
      → now ≡ counted_by wakes c call p before r → (before r == now) ≡ not (nat_lt (count r p) (count r (does wakes c call p)))
  counts_more call p before there now is =
      ap (λ n. before r == n) is ∙ (by (searches wakes c call p) ∙ ap not (sym (counts_found wakes c r call p there)))
    where
      if_found : (b : Bool) → (before r == cond b (one_counted (before r)) (before r)) ≡ not b
      if_found true = other_count (before r)
      if_found false = is_itself (before r)

      by : (o : Option (Search T A))
          → (before r == or o (λ x. cond ((r == x.run) && finds x) (one_counted (before r)) (before r)) (before r))
          ≡ not (or o (λ x. (r == x.run) && finds x) false)
      by None = is_itself (before r)
      by (Some x) = if_found ((r == x.run) && finds x)
