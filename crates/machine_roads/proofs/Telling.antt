-- To tell, on the plain scheduler: nobody, or who lay down last, by a waker that goes and tells nobody else.
use Rattle.std.proofs.Common.{◌≡◌, ℕ, suc, ◌-◌, ◌≤◌, min, cond, true, false, List, [], ◌∷◌, length}
use Rattle.std.proofs.Common.{Option, Some, slice_get, slice_set, refl, ap, ◌∙◌, arith}
use Rattle.executor_model.specs.declared.op.Waker.{Waker}
use Rattle.plain_scheduler.specs.State.{Lying, Choice, Plain}
use Rattle.plain_scheduler.specs.Lists.{any, on}
use Rattle.plain_scheduler.specs.Moves.{is_called, called, tell, told_at}
use Rattle.machine_roads.specs.View.{Output, wakes}
use Rattle.machine_roads.specs.Road.{is_told}
use Rattle.machine_roads.proofs.Lying.{called_one}

module _ (c : Choice) (p : Plain Output Waker) where
  -- where one that lies is called at a place
  abbrev pub after_call : ℕ → Lying Waker → Plain Output Waker
  after_call i l = record p { lying = slice_set p.lying i (called_one l) }

  abbrev telling : Option (Lying Waker) → ℕ → Plain Output Waker
  telling o i = on o (λ l q. on l.waker (called wakes (λ s. s)) (record q { lying = slice_set q.lying i (called_one l) })) p

  -- nobody lies, or one is told already
  pub tells_none : is_told p.lying ≡ true → tell wakes c p ≡ p
  tells_none told = by p.lying refl told
    where
      at : ℕ
      at = min c.tells (length p.lying - 1)

      by : (ls : List (Lying Waker)) → p.lying ≡ ls → is_told ls ≡ true → tell wakes c p ≡ p
      by [] is told =
          ap (λ b. cond b p (told_at wakes at p)) (ap (any is_called) is)
          ∙ ap (λ o. telling o at) (ap (λ ls. slice_get ls at) is)
      by (l ∷ ls) is told = ap (λ b. cond b p (told_at wakes at p)) (ap (any is_called) is ∙ told)

  -- else the last is called
  pub tells_last : (i : ℕ) (l : Lying Waker) (w : Waker) → any is_called p.lying ≡ false → suc i ≡ length p.lying
      → length p.lying ≤ c.tells → slice_get p.lying i ≡ Some l → l.waker ≡ Some w
      → tell wakes c p ≡ called wakes (λ s. s) w (after_call i l)
  tells_last i l w none long many here waker =
      ap (λ b. cond b p (told_at wakes (min c.tells (length p.lying - 1)) p)) none
      ∙ (ap (λ at. told_at wakes at p) (place c.tells (length p.lying) i long many)
      ∙ (ap (λ o. telling o i) here
      ∙ ap (λ (o : Option Waker). on o (called wakes (λ s. s)) (after_call i l)) waker))
    where
      place : (tells n i : ℕ) → suc i ≡ n → n ≤ tells → min tells (n - 1) ≡ i
      place tells n i long many = omega (arith, long, many)
