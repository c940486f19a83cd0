-- On a slot, a forced push that gives an item has displaced it: only a party that has been in the slot answers with one.
use Rattle.std.proofs.lemmas.Bool.Decides.{nat_tests}
use Rattle.std.proofs.Common.{arith}
use Rattle.std.proofs.Common.{◌≡◌, ℕ, List, [], ◌∷◌, ◌++◌}
use Rattle.std.proofs.Common.{refl}
use Rattle.queue_steps.specs.SingleTurns.{Turn}
use Rattle.queue_steps.specs.Calls.{Call}
use Rattle.queue_laws.specs.Moments.{Moment}
use Rattle.queue_laws.specs.SingleSteps.{Place, Away as AwayPlace, Stands, Inside, Leaving, SingleWorld, Step}
use Rattle.queue_laws.specs.SingleSteps.{placed, with_place, begun, gone, stepped, begin_moments}
use Rattle.queue_laws.specs.SingleSteps.{turn_moments, go_moments, moments, trace, new_slot, new_scene}
use Rattle.queue_laws.specs.BoundedSteps.{with_at}
use Rattle.queue_laws.specs.Told.{Stage, Away, stages_after, AnswerWhatTheyDid}
use Rattle.queue_laws.specs.Traces.{on_slot}
use Rattle.queue_laws.proofs.SingleRuns.{a_slot_is_a_queue}
use Rattle.queue_laws.proofs.Told.{IsActed, Gifts, answer_what_they_did}

module _ {T : Type 0} where
  -- who is in the slot has acted
  abbrev InSlot : Place T → Stage T → Type 0
  InSlot AwayPlace at = Unit {0}
  InSlot (Stands call t) at = Unit {0}
  InSlot (Inside call r) at = IsActed at
  InSlot (Leaving call r o) at = IsActed at

  abbrev Holds : SingleWorld T → (ℕ → Stage T) → Type 0
  Holds w at = (p : ℕ) → InSlot (w.places p) (at p)

  -- one party goes on, and comes to another stage or not
  both : (places : ℕ → Place T) (at : ℕ → Stage T) (p : ℕ) (place : Place T) (stage : Stage T) → InSlot place stage
      → ((q : ℕ) → InSlot (places q) (at q)) → (q : ℕ) → InSlot (with_place places p place q) (with_at at p stage q)
  both places at p place stage here h q = grind (arith, nat_tests)

  -- the stages after several moments
  abbrev through : (ℕ → Stage T) → List (Moment T) → ℕ → Stage T
  through at [] = at
  through at (m ∷ ms) = through (stages_after at m) ms

  join : (at : ℕ → Stage T) (ms ns : List (Moment T)) → Gifts at ms → Gifts (through at ms) ns → Gifts at (ms ++ ns)
  join at [] ns g h = h
  join at (m ∷ ms) ns g h = (g.0, join (stages_after at m) ms ns g.1 h)

  -- a step gives no item but by a party that has acted, and who is in the slot then has acted
  abbrev Goes : (ℕ → Stage T) → List (Moment T) → SingleWorld T → Type 0
  Goes at ms w = Gifts at ms × Holds w (through at ms)

  begins : (w : SingleWorld T) (at : ℕ → Stage T) (p : ℕ) (call : Call T) (place : Place T) → Holds w at
      → Goes at (begin_moments p call place) (begun w p call place)
  begins w at p call place h = grind (arith, nat_tests)

  turns : (w : SingleWorld T) (word : ℕ) (at : ℕ → Stage T) (p : ℕ) (call : Call T) (next : Turn) → Holds w at
      → Goes at (turn_moments p call w.slot next) (record { word = word; slot = w.slot; places = with_place w.places p (placed call next) })
  turns w word at p call next h = grind (arith, nat_tests)

  goes : (w : SingleWorld T) (at : ℕ → Stage T) (p : ℕ) (place : Place T) → w.places p ≡ place → Holds w at
      → Goes at (go_moments w p place) (gone w p place)
  goes w at p place is h = grind (arith, nat_tests)

  step : (w : SingleWorld T) (at : ℕ → Stage T) (s : Step T) → Holds w at → Goes at (moments w s) (stepped w s)
  step w at s h = grind (arith, nat_tests)

  gifts : (w : SingleWorld T) (at : ℕ → Stage T) (steps : List (Step T)) → Holds w at → Gifts at (trace steps w)
  gifts w at [] h = tt
  gifts w at (s ∷ steps) h =
      let one = step w at s h in
      join at (moments w s) (trace steps (stepped w s)) one.0 (gifts (stepped w s) (through at (moments w s)) steps one.1)

  pub answer_on_slot : (steps : List (Step T)) → AnswerWhatTheyDid (on_slot steps)
  answer_on_slot steps =
      let r = a_slot_is_a_queue steps in
      answer_what_they_did new_scene r.last (on_slot steps) refl (λ p. refl) r.is_run (gifts new_slot (λ p. Away) steps (λ p. tt))
