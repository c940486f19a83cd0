-- For walks_go_round.
-- So a walk that finds nothing comes to each of them.
use Rattle.std.proofs.Common.{◌≡◌, ◌≢◌, ◌⊎◌, ℕ, zero, suc, ◌%◌, ◌≤◌, List, [], ◌∷◌, length, Bool, true, false, eqb, ◌∙◌, ⊎_elim}
use Rattle.std.proofs.Common.{refl, sym, subst, arith}
use Rattle.std.{proofs.Math.Nat.mod-lt, proofs.lemmas.Bool.Decides.nat_tests}
use Rattle.executor_model.proofs.Types.{Kind, Op, RunPoll, Own, StealOp, Then, Hint, Step}
use Rattle.executor_model.specs.WalksRound.{ComesTo, WalksGoRound, theft}
use Rattle.executor_model.specs.{ActsOfRuns.next_place, ActsOfRuns.queue_at, ActsOfRuns.walk, Sound.times, Steps.run}
use Rattle.executor_model.specs.{Steps.start, WalksRound.ComesTo.at_once, WalksRound.ComesTo.behind, World.World}
use Rattle.executor_model.proofs.WalksRound.Ahead.{Ahead, InList, all-ahead, in-list}

module _ (w : World) (x : RunPoll) (r : ℕ) (other : r ≢ x.run) where
  comes : (at left : ℕ) → Ahead (λ (q : ℕ). q ≡ r) w.listed at left → ComesTo w x r (walk x w.listed at left)
  comes at zero h = absurd h
  comes at (suc left) h =
      by (eqb (queue_at w.listed at) x.run) refl h (λ z. comes (next_place w.listed at) left z)
    where
      by : (b : Bool) → eqb (queue_at w.listed at) x.run ≡ b →
          (queue_at w.listed at ≡ r) ⊎ Ahead (λ (q : ℕ). q ≡ r) w.listed (next_place w.listed at) left →
          (Ahead (λ (q : ℕ). q ≡ r) w.listed (next_place w.listed at) left →
          ComesTo w x r (walk x w.listed (next_place w.listed at) left)) →
          ComesTo w x r (let os : List Op = elim b [
            | true ↦ walk x w.listed (next_place w.listed at) left
            | false ↦ Op.Steal (StealOp.Length (record {
              poll = x;
              from = Own (queue_at w.listed at);
              then = Then.Walk (next_place w.listed at) left;
            })) ∷ []
          ] in os)
      by true e k again =
          let i : queue_at w.listed at ≡ x.run = grind (arith, nat_tests) in
          again (⊎_elim (λ (z : queue_at w.listed at ≡ r). absurd (other (sym z ∙ i)))
          (λ (z : Ahead (λ (q : ℕ). q ≡ r) w.listed (next_place w.listed at) left). z) k)
      by false e k again = ⊎_elim
          (λ (z : queue_at w.listed at ≡ r).
          subst (λ (q : ℕ). ComesTo w x r (Op.Steal (StealOp.Length (theft x q (next_place w.listed at) left)) ∷ []))
          (sym z) (at_once (next_place w.listed at) left))
          (λ (z : Ahead (λ (q : ℕ). q ≡ r) w.listed (next_place w.listed at) left).
          behind (queue_at w.listed at) (next_place w.listed at) left (again z)) k

  goes-round : (h : Hint) → 1 ≤ times r w.listed →
      ComesTo w x r (walk x w.listed (h.start % length w.listed) (length w.listed))
  goes-round h z =
      let i : InList r w.listed = in-list r w.listed z in
      comes (h.start % length w.listed) (length w.listed)
      (all-ahead (λ (q : ℕ). q ≡ r) w.listed i.place i.is i.within (h.start % length w.listed)
      (mod-lt h.start (omega (arith, i.within))))

pub go-round : (limit : ℕ) (kind : Kind) (parties : ℕ) (steps : List Step) →
    WalksGoRound (run steps (start limit kind parties))
go-round limit kind parties steps = λ p r h x z n. goes-round (run steps (start limit kind parties)).world x r n h z
