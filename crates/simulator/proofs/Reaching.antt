-- How far a party has come that takes turns as long as it can.
use Rattle.std.proofs.Common.{◌≡◌, ℕ, suc, ◌<◌, true, false, ap, inl, inr, ◌∙◌, refl, arith}
use Rattle.std.proofs.lemmas.Bool.{cases_lt}
use Rattle.simulator.specs.Play.{Player}
use Rattle.simulator.specs.Turn.{turn}
use Rattle.simulator.specs.Commands.{turns, goes_on, Finishes}

pub record Reached (p : ℕ) (s new : Player) : Type 0 where
  pub count : ℕ
  pub taken : new ≡ turns count p s
  pub before : (n : ℕ) → n < count → goes_on p (turns n p s) ≡ true

pub Reached-none : (p : ℕ) (s : Player) → Reached p s s
Reached-none p s = record { count = 0; taken = refl; before = λ n below. absurd (omega arith) }

-- one more turn
pub Reached-more : (p : ℕ) (s new next : Player) → Reached p s new → goes_on p new ≡ true → next ≡ turn p new →
    Reached p s next
Reached-more p s new next r busy e = record {
  count = suc r.count;
  taken = e ∙ ap (turn p) r.taken;
  before = λ n below. elim (cases_lt n r.count) [
    | inl less ↦ r.before n less
    | inr past ↦ (let same : n ≡ r.count = omega arith in rw same (rw (← r.taken) busy))
  ];
}

pub Reached-over : (p : ℕ) (s new : Player) → Reached p s new → goes_on p new ≡ false → Finishes p s new
Reached-over p s new r over = record { count = r.count; taken = r.taken; over = over; before = r.before }
