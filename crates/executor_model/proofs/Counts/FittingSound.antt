-- For one_runnable and references_are_counted.
-- Each number that the world keeps is a future's (specs/Good): of any other the counts say that nothing holds it, since
-- it has no task.
use Rattle.std.proofs.Common.{◌≡◌, ℕ, ◌+◌, ◌≤◌, List, [], ◌∷◌, length, refl, ap, ⊎_elim, arith}
use Rattle.std.{proofs.lemmas.List.get_or_past, specs.Prelude.Option, specs.Prelude.Some, specs.Prelude.None}
use Rattle.executor_model.proofs.Types.{State, Awaiter, Sleeping, Waker, Task, Outside}
use Rattle.executor_model.specs.World.{World, blank, queued_in}
use Rattle.executor_model.specs.Good.{Fits, pasts, pasts_in, wakers_past, awaiters_past, sleepers_past}
use Rattle.executor_model.specs.Sound.{Sound, Pend, living, times, times_in, tokens, wakers_of, awaiters_of, sleepers_of}
use Rattle.executor_model.specs.Weights.{same, past, waker_past, wakes}
use Rattle.executor_model.proofs.{Steps.Lists.past_is, Steps.Lists.same_cases, Counts.Fitting.Shaped}

same-self : (f : ℕ) → same f f ≡ 1
same-self f = grind (arith, same_cases)

-- no number from n on
module _ (n : ℕ) where
  none-past : (f : ℕ) → ((g : ℕ) → n ≤ g → same g f ≡ 0) → past n f ≡ 0
  none-past f h = ⊎_elim (λ x. x.0)
      (λ (x : (past n f ≡ 1) × (n ≤ f)). absurd (omega (arith, h f x.1, same-self f))) (past_is n f).1

  none-waker : (a : Waker) → ((g : ℕ) → n ≤ g → wakes g a ≡ 0) → waker_past n a ≡ 0
  none-waker (Task f) h = none-past f h
  none-waker (Outside x) h = refl

  none-times : (xs : List ℕ) → ((g : ℕ) → n ≤ g → times g xs ≡ 0) → pasts n xs ≡ 0
  none-times [] h = refl
  none-times (x ∷ xs) h = omega (arith, none-past x (λ g l. omega (arith, h g l)), none-times xs (λ g l. omega (arith, h g l)))

  none-times_in : (qs : List (List ℕ)) → ((g : ℕ) → n ≤ g → times_in g qs ≡ 0) → pasts_in n qs ≡ 0
  none-times_in [] h = refl
  none-times_in (q ∷ qs) h = omega (
    arith,
    none-times q (λ g l. omega (arith, h g l)),
    none-times_in qs (λ g l. omega (arith, h g l)),
  )

  none-wakers : (ws : List (Option ℕ)) → ((g : ℕ) → n ≤ g → wakers_of g ws ≡ 0) → wakers_past n ws ≡ 0
  none-wakers [] h = refl
  none-wakers (None ∷ ws) h = none-wakers ws h
  none-wakers (Some f ∷ ws) h = omega (
    arith,
    none-past f (λ g l. omega (arith, h g l)),
    none-wakers ws (λ g l. omega (arith, h g l)),
  )

  none-awaiters : (xs : List (Option Awaiter)) → ((g : ℕ) → n ≤ g → awaiters_of g xs ≡ 0) → awaiters_past n xs ≡ 0
  none-awaiters [] h = refl
  none-awaiters (None ∷ xs) h = none-awaiters xs h
  none-awaiters (Some a ∷ xs) h = omega (
    arith,
    none-waker a.waker (λ g l. omega (arith, h g l)),
    none-awaiters xs (λ g l. omega (arith, h g l)),
  )

  none-sleepers : (es : List (ℕ × Sleeping)) → ((g : ℕ) → n ≤ g → sleepers_of g es ≡ 0) → sleepers_past n es ≡ 0
  none-sleepers [] h = refl
  none-sleepers (e ∷ es) h = omega (
    arith,
    none-waker e.1.waker (λ g l. omega (arith, h g l)),
    none-sleepers es (λ g l. omega (arith, h g l)),
  )

-- nothing holds a number that is no future's
unheld : (w : World) (g : ℕ) (p : Pend) → Sound w g p → length w.tasks ≤ g → tokens w g p + living w g p ≡ 0
unheld w g p h l = omega (arith, h.counted, ap (λ (t : State). t.references) (get_or_past w.tasks g blank l))

pub fits-sound : (w : World) (p : ℕ → Pend) → ((g : ℕ) → Sound w g (p g)) → Shaped w → Fits w
fits-sound w p h s = record {
  queue = none-times (length w.tasks) (queued_in w) (λ g l. omega (arith, unheld w g (p g) (h g) l));
  own = none-times_in (length w.tasks) w.own (λ g l. omega (arith, unheld w g (p g) (h g) l));
  table = none-times (length w.tasks) w.table (λ g l. omega (arith, (h g).entered l));
  leaving = none-times (length w.tasks) w.leaving (λ g l. omega (arith, unheld w g (p g) (h g) l));
  waking = none-times (length w.tasks) w.waking (λ g l. omega (arith, unheld w g (p g) (h g) l));
  wakers = none-wakers (length w.tasks) w.wakers (λ g l. omega (arith, unheld w g (p g) (h g) l));
  awaiters = none-awaiters (length w.tasks) w.awaiters (λ g l. omega (arith, unheld w g (p g) (h g) l));
  sleepers = none-sleepers (length w.tasks) w.sleepers.wakers (λ g l. omega (arith, unheld w g (p g) (h g) l));
  awaiting = s.awaiting;
  inside = s.inside;
}
