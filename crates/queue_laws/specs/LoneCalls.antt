-- A call that begins while no other is in progress, and goes on alone, ends within 64 steps: of a single slot, a chain and
-- a ring, after every list of steps.
use Rattle.std.specs.Prelude.{◌≡◌, ℕ, zero, suc, ◌≤◌, List, [], ◌∷◌}
use Rattle.queue_steps.specs.Calls.{Call}
use Rattle.queue_laws.specs.SingleSteps.{Step, Begin, Go, Away as AwayFromSlot, run as run_slot, stepped as slot_stepped, new_slot}
use Rattle.queue_laws.specs.UnboundedSteps.{Step as UnboundedStep, Begin as BeginOnChain, Go as GoOnChain, Away as AwayFromChain}
use Rattle.queue_laws.specs.UnboundedSteps.{run as run_chain, stepped as chain_stepped, new_chain}
use Rattle.queue_laws.specs.BoundedSteps.{Away as AwayFromRing, run as run_ring, stepped as ring_stepped, new_ring}

module _ {T : Type 0} where
  -- so many steps of one party
  abbrev pub goes : ℕ → ℕ → List (Step T)
  goes p zero = []
  goes p (suc k) = Go p ∷ goes p k

  abbrev pub goes_on_chain : ℕ → ℕ → List (UnboundedStep T)
  goes_on_chain p zero = []
  goes_on_chain p (suc k) = GoOnChain p ∷ goes_on_chain p k

  abbrev pub EndsOnSlot : List (Step T) → Type 0
  EndsOnSlot steps =
      ((q : ℕ) → (run_slot steps new_slot).places q ≡ AwayFromSlot) → (p : ℕ) (call : Call T)
      → (k : ℕ) × (k ≤ 64) × ((run_slot (goes p k) (slot_stepped (run_slot steps new_slot) (Begin p call))).places p ≡ AwayFromSlot)

  abbrev pub EndsOnChain : List (UnboundedStep T) → Type 0
  EndsOnChain steps =
      ((q : ℕ) → (run_chain steps new_chain).places q ≡ AwayFromChain) → (p : ℕ) (call : Call T)
      → (k : ℕ) × (k ≤ 64)
      × ((run_chain (goes_on_chain p k) (chain_stepped (run_chain steps new_chain) (BeginOnChain p call))).places p ≡ AwayFromChain)

  abbrev pub EndsOnRing : ℕ → ℕ → List (Step T) → Type 0
  EndsOnRing n m steps =
      ((q : ℕ) → (run_ring n m steps (new_ring n m)).places q ≡ AwayFromRing) → (p : ℕ) (call : Call T)
      → (k : ℕ) × (k ≤ 64)
      × ((run_ring n m (goes p k) (ring_stepped n m (run_ring n m steps (new_ring n m)) (Begin p call))).places p ≡ AwayFromRing)
