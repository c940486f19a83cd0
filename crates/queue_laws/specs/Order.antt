-- The order in which items leave a queue. A forced push on a full queue displaces the first item, which leaves to it, as
-- one that is popped leaves to the pop; its own item is appended at that moment or at a later one.
use Rattle.std.specs.Prelude.{◌≡◌, ℕ, List, [], ◌∷◌, ◌++◌, length, Option, Some, None, Ok}
use Rattle.queue_steps.specs.Calls.{Call, Push, ForcePush, ForcePushed, Popped}
use Rattle.queue_laws.specs.Moments.{Moment, Begins, Does, Displaces}
use Rattle.queue_laws.specs.BoundedSteps.{with_at}
use Rattle.queue_laws.specs.FreePlaces.{who_appends}

module _ {T : Type 0} where
  -- the item that a call brings, if it brings one
  abbrev pub brought_by : Call T → List T
  brought_by (Push x) = x ∷ []
  brought_by (ForcePush x) = x ∷ []
  brought_by _ = []

  -- what each party's call has brought
  abbrev pub brought_after : (ℕ → List T) → Moment T → ℕ → List T
  brought_after brought (Begins p call) = with_at brought p (brought_by call)
  brought_after brought _ = brought

  abbrev pub of_party : (ℕ → List T) → Option ℕ → List T
  of_party brought None = []
  of_party brought (Some p) = brought p

  abbrev pub appended_from : (ℕ → List T) → List (Moment T) → List T
  appended_from brought [] = []
  appended_from brought (m ∷ ms) = of_party brought (who_appends m) ++ appended_from (brought_after brought m) ms

  -- the items that were appended, in this order
  abbrev pub appended_in : List (Moment T) → List T
  appended_in = appended_from (λ p. [])

  -- the item that leaves at this moment, if one does
  abbrev pub left_at : Moment T → List T
  left_at (Does p (Popped (Ok x))) = x ∷ []
  left_at (Does p (ForcePushed (Ok (Some y)))) = y ∷ []
  left_at (Displaces p y) = y ∷ []
  left_at _ = []

  -- the items that left, in this order
  abbrev pub left_in : List (Moment T) → List T
  left_in [] = []
  left_in (m ∷ ms) = left_at m ++ left_in ms

  -- Those that left are the first of those that were appended, in the same order. The others are the k that it still has.
  pub record LeaveInOrder (ms : List (Moment T)) (k : ℕ) : Type 0 where
    pub others : List T
    pub order : appended_in ms ≡ left_in ms ++ others
    pub are : length others ≡ k
