-- For some_standing_is_called.
-- Where no call is in progress, a future that is due has a Runnable in the executor's queue or in a run's own.
use Rattle.std.proofs.Common.{◌≡◌, ◌∙◌, ℕ, zero, suc, ◌+◌, ◌≤◌, List, [], ◌∷◌, length, get_or, true, refl, sym, ⊎_elim, arith}
use Rattle.executor_model.specs.Rows.{waiting_of, polls_of, ending_of, ready_of, closing_of, settling_of, giving_of, drops_of}
use Rattle.executor_model.specs.Sound.{queued, times, times_in}
use Rattle.executor_model.specs.{Due.IsDue, Good.Good, Steps.Machine, Steps.stack, Weights.same, Weights.weigh_all, World.task}
use Rattle.executor_model.proofs.Polls.Dueness.{asked-is, not-over}
use Rattle.executor_model.proofs.{Polls.AskingExecutions.Heard, Steps.Lists.same_is, Quiet.Resting.all-rest}

pub due-queued : (s : Machine) → Good s → Heard s → ((q : ℕ) → stack s q ≡ []) → (f : ℕ) → IsDue f s.world.trace →
    1 ≤ queued s.world f
due-queued s fine h idle f due = ⊎_elim
    (λ (x : (task s.world f).scheduled ≡ true). let t = (fine.sound f).owed x in omega (
      arith,
      t,
      all-rest (waiting_of f) s.parties idle,
      all-rest (polls_of f) s.parties idle,
      all-rest (ending_of f) s.parties idle,
      all-rest (ready_of f) s.parties idle,
      all-rest (closing_of f) s.parties idle,
      all-rest (settling_of f) s.parties idle,
      all-rest (giving_of f) s.parties idle,
    ))
    (λ (x : ((task s.world f).closed ≡ true) × (1 ≤ weigh_all (polls_of f) s.parties +
    (weigh_all (ending_of f) s.parties + weigh_all (drops_of f) s.parties))). absurd (omega (
      arith,
      x.1,
      all-rest (polls_of f) s.parties idle,
      all-rest (ending_of f) s.parties idle,
      all-rest (drops_of f) s.parties idle,
    )))
    ((h.asked f).due (sym (asked-is f s.world.trace) ∙ due.asked_for)
    (not-over f s.world.trace due.unready due.undropped))

pub times-length : (f : ℕ) (xs : List ℕ) → times f xs ≤ length xs
times-length f [] = omega arith
times-length f (x ∷ xs) = omega (arith, one f x, times-length f xs)
  where
    one : (f x : ℕ) → same f x ≤ 1
    one f x = grind (arith, same_is)

-- a run in whose own queue it stands
pub record Holder (f : ℕ) (qs : List (List ℕ)) : Type 0 where
  pub run : ℕ
  pub holds : 1 ≤ times f (get_or qs run [])

pub holder : (f : ℕ) (qs : List (List ℕ)) → 1 ≤ times_in f qs → Holder f qs
holder f [] k = absurd (omega (arith, k))
holder f (q ∷ qs) k = by (times f q) refl (λ z. holder f qs z)
  where
    by : (n : ℕ) → times f q ≡ n → (1 ≤ times_in f qs → Holder f qs) → Holder f (q ∷ qs)
    by zero e g = let h : Holder f qs = g (omega (arith, k, e)) in record { run = suc h.run; holds = h.holds }
    by (suc n) e g = record { run = 0; holds = omega (arith, e) }
