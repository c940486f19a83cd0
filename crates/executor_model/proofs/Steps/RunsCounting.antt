-- For all laws.
-- What a run does counts for a Runnable in hand and a use of the executor alone: for the laws of each future.
use Rattle.std.proofs.Common.{◌≡◌, ℕ, ◌+◌, ◌-◌, ◌<◌, List, [], ◌∷◌, ◌++◌, length, Bool, true, false, ltb, cond, refl, ap, arith}
use Rattle.std.proofs.lemmas.Bool.Decides.{nat_tests}
use Rattle.executor_model.specs.Rows.{Row, polls_of, ending_of, ready_of, closing_of, settling_of, giving_of, drops_of}
use Rattle.executor_model.specs.Rows.{releases_of, copies_of, ousting_of, borrowing_of, waiting_of}
use Rattle.executor_model.specs.{World.World, World.own_of, ActsOfRuns.free_places, Sound.Pend, Sound.with_ops, Weights.weigh}
use Rattle.executor_model.proofs.{Types.Op, Steps.RunsPlain.IsPlain, Steps.RunsPlain.AllPlain, Steps.Lists.weigh-append}

-- these count for a Runnable in hand and a use of the executor alone
pub record Bare (g : ℕ) (os : List Op) : Type 0 where
  pub polls : weigh (polls_of g) os ≡ 0
  pub ending : weigh (ending_of g) os ≡ 0
  pub ready : weigh (ready_of g) os ≡ 0
  pub closing : weigh (closing_of g) os ≡ 0
  pub settling : weigh (settling_of g) os ≡ 0
  pub giving : weigh (giving_of g) os ≡ 0
  pub drops : weigh (drops_of g) os ≡ 0
  pub releases : weigh (releases_of g) os ≡ 0
  pub copies : weigh (copies_of g) os ≡ 0
  pub ousting : weigh ousting_of os ≡ 0

pub bare : (g : ℕ) (os : List Op) → AllPlain os → Bare g os
bare g os a = record {
  polls = a (polls_of g) (λ o e. ap (λ (x : Row). x.polls g) e);
  ending = a (ending_of g) (λ o e. ap (λ (x : Row). x.ending g) e);
  ready = a (ready_of g) (λ o e. ap (λ (x : Row). x.ready g) e);
  closing = a (closing_of g) (λ o e. ap (λ (x : Row). x.closing g) e);
  settling = a (settling_of g) (λ o e. ap (λ (x : Row). x.settling g) e);
  giving = a (giving_of g) (λ o e. ap (λ (x : Row). x.giving g) e);
  drops = a (drops_of g) (λ o e. ap (λ (x : Row). x.drops g) e);
  releases = a (releases_of g) (λ o e. ap (λ (x : Row). x.releases g) e);
  copies = a (copies_of g) (λ o e. ap (λ (x : Row). x.copies g) e);
  ousting = a ousting_of (λ o e. ap (λ (x : Row). x.ousting) e);
}

pub only : (o : Op) → IsPlain o → AllPlain (o ∷ [])
only o e v z = omega (arith, z o e)

-- where a place is free, the run is there
pub known-run : (w : World) (r : ℕ) → ltb 0 (free_places w r) ≡ true → r < length w.own
known-run w r e = by (ltb r (length w.own)) refl e
  where
    by : (b : Bool) → ltb r (length w.own) ≡ b → ltb 0 (cond b 512 0 - length (own_of w r)) ≡ true → r < length w.own
    by true d q = grind (arith, nat_tests)
    by false d q = absurd (grind (arith, nat_tests))

assoc : (v : Op → ℕ) (xs ys : List Op) (n : ℕ) → weigh v (xs ++ ys) + n ≡ weigh v xs + (weigh v ys + n)
assoc v xs ys n = omega (arith, weigh-append v xs ys)

pub with_ops-append : (g : ℕ) (xs ys : List Op) (r : Pend) → with_ops g (xs ++ ys) r ≡ with_ops g xs (with_ops g ys r)
with_ops-append g xs ys r = rw (
  assoc (waiting_of g) xs ys r.waiting,
  assoc (polls_of g) xs ys r.polls,
  assoc (ending_of g) xs ys r.ending,
  assoc (ready_of g) xs ys r.ready,
  assoc (closing_of g) xs ys r.closing,
  assoc (settling_of g) xs ys r.settling,
  assoc (giving_of g) xs ys r.giving,
  assoc (drops_of g) xs ys r.drops,
  assoc (releases_of g) xs ys r.releases,
  assoc (copies_of g) xs ys r.copies,
  assoc borrowing_of xs ys r.borrowing,
  assoc ousting_of xs ys r.ousting,
) refl
