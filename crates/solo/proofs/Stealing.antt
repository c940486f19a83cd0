-- One step of a walk, and one of a steal.
use Rattle.std.proofs.Common.{◌≡◌, ℕ, zero, suc, ◌-◌, ◌<◌, ◌==◌, Bool, false, Option, Some, None, drop, sym, ap, ◌∙◌, arith}
use Rattle.std.proofs.lemmas.Bool.{ne_eqb}
use Rattle.solo.specs.declared.names.Task.{Task}
use Rattle.solo.specs.declared.solo.Solo.{Solo}
use Rattle.solo.specs.declared.steals.Source.{Source}
use Rattle.solo.specs.declared.steals.Source.TheVariants.{Own}
use Rattle.solo.specs.OwnQueues as own
use Rattle.solo.specs.Cells.{choose}
use Rattle.solo.specs.Steals.{round, round_on, looked, look_answer, next_place, moved, moved_on, first_of, without_first, kept}
use Rattle.solo.specs.Steals.{stolen, stolen_at, is_own, own_popped, own_changed}

module _ {F T X : Type 0} where
  -- where a step finds nothing, the walk goes on
  pub round-on :
      (count number left at : ℕ) (s : Solo F T X) → 0 < left → look_answer number at s ≡ None
      → round count number left at s ≡ round count number (left - 1) (next_place at count) (looked number at s)
  round-on count number zero at s below none = absurd (omega (arith, below))
  round-on count number (suc left) at s below none =
      let e : suc left - 1 ≡ left = omega arith in
      rw e
      (ap
      (λ (found : Option Task).
      round_on found (looked number at s) (round count number left (next_place at count) (looked number at s)))
      none)

  -- where it finds a task, the walk ends
  pub round-found :
      (count number left at : ℕ) (s : Solo F T X) (task : Task) → 0 < left → look_answer number at s ≡ Some task
      → round count number left at s ≡ (Some task, looked number at s)
  round-found count number zero at s task below some = absurd (omega (arith, below))
  round-found count number (suc left) at s task below some =
      ap
      (λ (found : Option Task).
      round_on found (looked number at s) (round count number left (next_place at count) (looked number at s)))
      some

  -- one task is moved, and so many after it
  pub moved-on :
      (n : ℕ) (source : Source) (number : ℕ) (s : Solo F T X) (task : Task) → 0 < n → first_of source s ≡ Some task
      → moved n source number s ≡ moved (n - 1) source number (kept number task (without_first source s))
  moved-on zero source number s task below some = absurd (omega (arith, below))
  moved-on (suc n) source number s task below some =
      let e : suc n - 1 ≡ n = omega arith in
      rw e
      (ap
      (λ (found : Option Task).
      moved_on found (without_first source s) (λ other. moved n source number (kept number other (without_first source s))))
      some)

  -- where there is none, it ends
  pub moved-end :
      (n : ℕ) (source : Source) (number : ℕ) (s : Solo F T X) → 0 < n → first_of source s ≡ None
      → moved n source number s ≡ without_first source s
  moved-end zero source number s below none = absurd (omega (arith, below))
  moved-end (suc n) source number s below none =
      ap
      (λ (found : Option Task).
      moved_on found (without_first source s) (λ other. moved n source number (kept number other (without_first source s))))
      none

  -- a look that passes nothing over: what it steals from, what it leaves
  pub looked-on :
      (number at other : ℕ) (s t : Solo F T X) (runs : own.OwnQueuesValue) → other ≡ own.number_at at s.runs.queues
      → (other ≡ number → ⊥) → t ≡ stolen (Own other) number s → runs ≡ own.changed (drop 1) number t.runs
      → own_changed runs t ≡ looked number at s
  looked-on number at other s t runs here apart is popped =
      let no_own : is_own number at s ≡ false = ap (λ (o : ℕ). o == number) (sym here) ∙ ne_eqb other number apart in
      let robbed : t ≡ stolen_at number at s = is ∙ ap (λ (o : ℕ). stolen (Own o) number s) here in
      ap (λ (q : own.OwnQueuesValue). own_changed q t) popped ∙ ap (λ (u : Solo F T X). own_popped number u) robbed
      ∙ sym (ap (λ (b : Bool). choose b s (own_popped number (stolen_at number at s))) no_own)

  -- and what it finds
  pub look_answer-on :
      (number at other : ℕ) (s t : Solo F T X) (found : Option Task) → other ≡ own.number_at at s.runs.queues
      → (other ≡ number → ⊥) → t ≡ stolen (Own other) number s → found ≡ own.first_of number t.runs
      → found ≡ look_answer number at s
  look_answer-on number at other s t found here apart is first =
      let no_own : is_own number at s ≡ false = ap (λ (o : ℕ). o == number) (sym here) ∙ ne_eqb other number apart in
      let robbed : t ≡ stolen_at number at s = is ∙ ap (λ (o : ℕ). stolen (Own o) number s) here in
      first ∙ ap (λ (u : Solo F T X). own.first_of number u.runs) robbed
      ∙ sym (ap (λ (b : Bool). choose b None (own.first_of number (stolen_at number at s).runs)) no_own)
