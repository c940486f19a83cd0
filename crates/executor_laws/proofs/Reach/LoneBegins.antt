-- For common_futures_are_in_reach and arrival_order_needs_fewer_ticks.
-- Which calls that look for a future can begin where no call is in progress.
use Rattle.std.proofs.Common.{◌≡◌, ℕ, ◌<◌, List, [], length, Bool, true, false, ◌&&◌, not, ◌==◌, ap, ◌∙◌, arith}
use Rattle.std.proofs.lemmas.Bool.Decides.{nat_tests}
use Rattle.std.specs.Prelude.{None, nat_lt}
use Rattle.executor_laws.proofs.Types.{By, Call, Op, Begin, NoSuch, Gone}
use Rattle.executor_model.specs.{Emptiness.IsAtRest, Rows.leaking_of, Rows.ticking_of, Weights.weigh_all, Steps.Machine, Steps.stack}
use Rattle.executor_model.specs.{Steps.top, Steps.is_unused, Steps.lives, Steps.unless, Steps.begin_refusal, Steps.refusal, World.tick_of}
use Rattle.executor_model.proofs.{Quiet.Resting.all-rest, Steps.Reached.Reached, Steps.Reached.good-here, Steps.Reached.deep-here}
use Rattle.executor_laws.proofs.{Reach.Reached.bonded-here, Reach.Reached.heard-here, Placement.Placing.here, Placement.Placing.idle}
use Rattle.executor_laws.proofs.{Exactness.Ticking.none-refused}

module _ (s : Machine) (r : Reached s) (rest : IsAtRest s) (p : ℕ) where
  idles : (q : ℕ) → stack s q ≡ []
  idles q = idle s (good-here s r) (heard-here s r) (deep-here s r) (bonded-here s r) rest q

  there : s.world.gone ≡ false
  there = here s (good-here s r) (heard-here s r) (deep-here s r) (bonded-here s r) rest

  unleaked : weigh_all leaking_of s.parties ≡ 0
  unleaked = all-rest leaking_of s.parties idles

  -- a tick can be tried
  pub tick-begins : p < length s.parties → refusal s (Begin p Call.TryTick) ≡ None
  tick-begins l = none-refused s p l there (idles p) unleaked

  -- and one that lives can be polled
  pub poll-begins : (t x : ℕ) → p < length s.parties → lives (tick_of s.world t) ≡ true →
      refusal s (Begin p (Call.PollTick t (By.Outside x))) ≡ None
  poll-begins t x l alive =
      let c : Call = Call.PollTick t (By.Outside x) in
      let unused : is_unused (ticking_of t) s.parties ≡ true =
      ap (λ (n : ℕ). n == 0) (all-rest (ticking_of t) s.parties idles) in
      ap (λ (b : Bool). unless b NoSuch (begin_refusal s.world s.parties (top (stack s p)) c))
      (let z : nat_lt p (length s.parties) ≡ true = grind (arith, nat_tests) in z)
      ∙ (ap (λ (os : List Op). begin_refusal s.world s.parties (top os) c) (idles p)
      ∙ (ap (λ (b : Bool). unless ((b && is_unused (ticking_of t) s.parties) && true) NoSuch
      (unless (not (s.world.gone && true)) Gone (unless (weigh_all leaking_of s.parties == 0) Gone None))) alive
      ∙ (ap (λ (b : Bool). unless (b && true) NoSuch (unless (not (s.world.gone && true)) Gone
      (unless (weigh_all leaking_of s.parties == 0) Gone None))) unused
      ∙ (ap (λ (b : Bool). unless (not (b && true)) Gone (unless (weigh_all leaking_of s.parties == 0) Gone None)) there
      ∙ ap (λ (m : ℕ). unless (m == 0) Gone None) unleaked))))
