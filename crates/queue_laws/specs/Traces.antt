-- A new slot, ring and chain after a list of steps, and the moments of these; and two calls of which one begins after the
-- other has ended.
use Rattle.std.specs.Prelude.{◌≡◌, ℕ, ◌-◌, ◌%◌, List, [], ◌∷◌, ◌++◌, nat_lt, if◌then◌else◌}
use Rattle.queue_steps.specs.Bounded.{count_at}
use Rattle.queue_steps.specs.Calls.{Call, Answer}
use Rattle.queue_laws.specs.Moments.{Moment, Begins, Ends}
use Rattle.queue_laws.specs.SingleSteps.{Step, run as run_slot, trace as trace_of_slot, new_slot}
use Rattle.queue_laws.specs.UnboundedSteps.{Step as ChainStep, run as run_chain, trace as trace_of_chain}
use Rattle.queue_laws.specs.UnboundedSteps.{new_chain}
use Rattle.queue_laws.specs.BoundedSteps.{run as run_ring, trace as trace_of_ring, new_ring}

module _ {T : Type 0} where
  abbrev pub on_slot : List (Step T) → List (Moment T)
  on_slot steps = trace_of_slot steps new_slot

  abbrev pub on_ring : ℕ → ℕ → List (Step T) → List (Moment T)
  on_ring n m steps = trace_of_ring n m steps (new_ring n m)

  abbrev pub on_chain : List (ChainStep T) → List (Moment T)
  on_chain steps = trace_of_chain steps new_chain

  -- how many items they have then, as their words tell
  abbrev pub length_on_slot : List (Step T) → ℕ
  length_on_slot steps = if nat_lt ((run_slot steps new_slot).word % 4) 2 then 0 else 1

  abbrev pub length_on_ring : ℕ → ℕ → List (Step T) → ℕ
  length_on_ring n m steps =
      count_at n m (run_ring n m steps (new_ring n m)).tail - count_at n m (run_ring n m steps (new_ring n m)).head

  abbrev pub length_on_chain : List (ChainStep T) → ℕ
  length_on_chain steps = (run_chain steps new_chain).ends.tail - (run_chain steps new_chain).ends.head

  -- what calls answered, in order
  abbrev pub answers_in : List (Moment T) → List (Answer T)
  answers_in [] = []
  answers_in (Ends p a ∷ ms) = a ∷ answers_in ms
  answers_in (m ∷ ms) = answers_in ms

  -- Some call answered a, and one that began after that answered b. The second party may have ended and begun calls during
  -- that time: then the call that ends so began later still.
  pub record AnswersLater (ms : List (Moment T)) (a b : Answer T) : Type 0 where
    pub first : ℕ
    pub second : ℕ
    pub call : Call T
    pub before : List (Moment T)
    pub since : List (Moment T)
    pub during : List (Moment T)
    pub after : List (Moment T)
    pub is : ms ≡ before ++ (Ends first a ∷ (since ++ (Begins second call ∷ (during ++ (Ends second b ∷ after)))))
