-- A call on a chain that begins while no other is in progress ends.
use Rattle.std.proofs.lemmas.Bool.Decides.{nat_tests}
use Rattle.std.proofs.Common.{◌≡◌, ℕ, suc, List, arith}
use Rattle.queue_steps.specs.Calls.{Call, Answer}
use Rattle.queue_laws.specs.UnboundedSteps.{Place, Away, Calls, Returns, UnboundedWorld, Step, Begin, gone}
use Rattle.queue_laws.specs.UnboundedSteps.{stepped, run}
use Rattle.queue_laws.specs.LoneCalls.{goes_on_chain, EndsOnChain}

module _ {T : Type 0} where
  -- a party that stands so far from the end comes to it
  goes_on : (k : ℕ) (w : UnboundedWorld T) (p : ℕ) (place : Place T) → w.places p ≡ place
      → (run (goes_on_chain p k) (gone w p place)).places p ≡ Away
      → (run (goes_on_chain p (suc k)) w).places p ≡ Away
  goes_on k w p place is h = grind (arith, nat_tests)

  returned : (w : UnboundedWorld T) (p : ℕ) (a : Answer T) → w.places p ≡ Returns a → (run (goes_on_chain p 1) w).places p ≡ Away
  returned w p a is = grind (arith, nat_tests)

  called : (w : UnboundedWorld T) (p : ℕ) (call : Call T) → w.places p ≡ Calls call → (run (goes_on_chain p 2) w).places p ≡ Away
  called w p call is = grind (arith, nat_tests)

  begins : (w : UnboundedWorld T) (p : ℕ) (call : Call T) → w.places p ≡ Away
      → (run (goes_on_chain p 2) (stepped w (Begin p call))).places p ≡ Away
  begins w p call is = grind (arith, nat_tests)

  pub a_lone_call_ends : (steps : List (Step T)) → EndsOnChain steps
  a_lone_call_ends steps all_away p call = (2, (omega arith), grind (arith, nat_tests))
