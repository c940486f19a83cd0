-- For one_turn_of_eight_is_plain.
-- The turns so far name what a count from seven names; and of eight in a row from any count on exactly one is plain.
use Rattle.std.proofs.Common.{◌≡◌, ℕ, zero, suc, ◌+◌, ◌≤◌, List, [], ◌∷◌, ◌++◌, length, drop, take, refl, sym, ap, ◌∙◌, arith}
use Rattle.std.specs.Prelude.{◌-◌}
use Rattle.executor_parts.specs.Marks.{first_of, turn_after}
use Rattle.executor_model.specs.{Steps.Machine, Steps.run, Steps.start, Steps.step, Steps.stepped, World.World}
use Rattle.executor_laws.specs.Looks.{looked, plains, OneOfEightIsPlain}
use Rattle.executor_laws.proofs.Marking.MarkActs.Steps.{stays, counts, enters}
use Rattle.executor_laws.proofs.{Types.Mark, Types.Kind, Types.Step, Marking.MarkActs.Steps, Marking.MarkActs.changes-step}

-- so many turns from this count on name these
abbrev named_from : ℕ → ℕ → List Mark
named_from zero t = []
named_from (suc n) t = first_of t ∷ named_from n (turn_after t)

-- and then the count is this
abbrev count_after : ℕ → ℕ → ℕ
count_after zero t = t
count_after (suc n) t = count_after n (turn_after t)

count-after : (n t : ℕ) → count_after (suc n) t ≡ turn_after (count_after n t)
count-after zero t = refl
count-after (suc n) t = count-after n (turn_after t)

named-last : (n t : ℕ) → named_from (suc n) t ≡ named_from n t ++ first_of (count_after n t) ∷ []
named-last zero t = refl
named-last (suc n) t = ap (λ (ms : List Mark). first_of t ∷ ms) (named-last n (turn_after t))

named-length : (n t : ℕ) → length (named_from n t) ≡ n
named-length zero t = refl
named-length (suc n) t = ap suc (named-length n (turn_after t))

named-later : (b n k t : ℕ) → n ≡ k + b → drop b (named_from n t) ≡ named_from k (count_after b t)
named-later zero n k t e = ap (λ (m : ℕ). named_from m t) (let z : n ≡ k = omega (arith, e) in z)
named-later (suc b) zero k t e = absurd (omega (arith, e))
named-later (suc b) (suc n) k t e = named-later b n k (turn_after t) (omega (arith, e))

turn-few : (t : ℕ) → t ≤ 7 → turn_after t ≤ 7
turn-few zero h = omega arith
turn-few (suc t) h = omega (arith, h)

count-few : (n t : ℕ) → t ≤ 7 → count_after n t ≤ 7
count-few zero t h = h
count-few (suc n) t h = count-few n (turn_after t) (turn-few t h)

-- eight and more
abbrev eight_and : ℕ → ℕ
eight_and n = suc (suc (suc (suc (suc (suc (suc (suc n)))))))

first-eight : (n t : ℕ) → take 8 (named_from (eight_and n) t) ≡ named_from 8 t
first-eight n t = refl

-- one by one
eight : (t : ℕ) → t ≤ 7 → plains (named_from 8 t) ≡ 1
eight zero h = refl
eight (suc zero) h = refl
eight (suc (suc zero)) h = refl
eight (suc (suc (suc zero))) h = refl
eight (suc (suc (suc (suc zero)))) h = refl
eight (suc (suc (suc (suc (suc zero))))) h = refl
eight (suc (suc (suc (suc (suc (suc zero)))))) h = refl
eight (suc (suc (suc (suc (suc (suc (suc zero))))))) h = refl
eight (suc (suc (suc (suc (suc (suc (suc (suc n)))))))) h = absurd (omega (arith, h))

-- the turns so far, and the count that is left
record Counted (w : World) : Type 0 where
  pub turns : ℕ
  pub named : looked w.trace ≡ named_from turns 7
  pub left : w.urgent_turns ≡ count_after turns 7

counted-step : (s : Machine) (v : World) → Counted s.world → Steps s v → Counted v
counted-step s v c (stays k) = record { turns = c.turns; named = k.named ∙ c.named; left = k.turns ∙ c.left }
counted-step s v c (enters p m more i a b d z e) = record { turns = c.turns; named = e ∙ c.named; left = a ∙ c.left }
counted-step s v c (counts a e z) = record {
  turns = suc c.turns;
  named = e ∙ ((λ i. c.named i ++ first_of (c.left i) ∷ []) ∙ sym (named-last c.turns 7));
  left = a ∙ (ap turn_after c.left ∙ sym (count-after c.turns 7));
}

counted-run : (ts : List Step) (s : Machine) → Counted s.world → Counted (run ts s).world
counted-run [] s c = c
counted-run (t ∷ ts) s c =
    counted-run ts (stepped s (step s t)) (counted-step s (stepped s (step s t)).world c (changes-step s t))

one-plain : (w : World) → Counted w → (before : ℕ) → before + 8 ≤ length (looked w.trace) →
    plains (take 8 (drop before (looked w.trace))) ≡ 1
one-plain w c b h =
    let more : ℕ = c.turns - (b + 8) in
    let all : c.turns ≡ eight_and more + b =
    omega (arith, h, ap (λ (ms : List Mark). length ms) c.named, named-length c.turns 7) in
    ap (λ (ms : List Mark). plains (take 8 (drop b ms))) c.named
    ∙ (ap (λ (ms : List Mark). plains (take 8 ms)) (named-later b c.turns (eight_and more) 7 all)
    ∙ (ap plains (first-eight more (count_after b 7)) ∙ eight (count_after b 7) (count-few b 7 (omega arith))))

pub one-of-eight : (limit : ℕ) (kind : Kind) (parties : ℕ) (steps : List Step) →
    OneOfEightIsPlain (run steps (start limit kind parties))
one-of-eight limit kind parties steps before h = one-plain (run steps (start limit kind parties)).world
    (counted-run steps (start limit kind parties) (record { turns = 0; named = refl; left = refl })) before h
