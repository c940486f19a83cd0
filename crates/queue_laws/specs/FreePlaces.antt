-- Where one party alone appends to a ring of n places: those that it saw free are free until it fills them itself.
use Rattle.std.specs.Prelude.{◌≡◌, ℕ, ◌+◌, ◌-◌, ◌<◌, ◌≤◌, List, [], ◌∷◌, ◌++◌, Option, Some, None, Ok, Err, IfSome}
use Rattle.std.specs.Prelude.{◌==◌, if◌then◌else◌}
use Rattle.queue_steps.specs.declared.errors.PushError.TheVariants.{Full}
use Rattle.queue_steps.specs.Calls.{Push, ForcePush, Len, Pushed, ForcePushed, LenIs}
use Rattle.queue_steps.specs.Bounded.{count_at}
use Rattle.queue_laws.specs.Moments.{Moment, Begins, Does, Arrives, Ends}
use Rattle.queue_laws.specs.SingleSteps.{Step}
use Rattle.queue_laws.specs.BoundedSteps.{BoundedWorld, run, trace, new_ring}

-- one where it is this party
abbrev pub one_of : ℕ → Option ℕ → ℕ
one_of p None = 0
one_of p (Some q) = if q == p then 1 else 0

module _ {T : Type 0} where
  -- who appends an item at this moment, if anybody does
  abbrev pub who_appends : Moment T → Option ℕ
  who_appends (Does p (Pushed (Ok u))) = Some p
  who_appends (Does p (ForcePushed (Ok o))) = Some p
  who_appends (Arrives p) = Some p
  who_appends _ = None

  -- nobody but this party appends
  abbrev pub AppendsAlone : ℕ → List (Moment T) → Type 0
  AppendsAlone p [] = Unit {0}
  AppendsAlone p (m ∷ ms) = IfSome (who_appends m) (λ q. q ≡ p) × AppendsAlone p ms

  -- how many items this party appends
  abbrev pub appended_by : ℕ → List (Moment T) → ℕ
  appended_by p [] = 0
  appended_by p (m ∷ ms) = one_of p (who_appends m) + appended_by p ms

  -- who begins a push, plain or forced, at this moment
  abbrev pub who_pushes : Moment T → Option ℕ
  who_pushes (Begins p (Push x)) = Some p
  who_pushes (Begins p (ForcePush x)) = Some p
  who_pushes _ = None

  -- how many pushes this party begins
  abbrev pub pushes_of : ℕ → List (Moment T) → ℕ
  pushes_of p [] = 0
  pushes_of p (m ∷ ms) = one_of p (who_pushes m) + pushes_of p ms

module _ {T : Type 0} (n m : ℕ) where
  -- the ring after these steps
  abbrev pub ring_after : List (Step T) → BoundedWorld T
  ring_after steps = run n m steps (new_ring n m)

  -- how many places of a ring are free
  abbrev pub free_in : BoundedWorld T → ℕ
  free_in w = (n + count_at n m w.head) - count_at n m w.tail

  -- it has no more items than places
  abbrev pub IsWithinPlaces : List (Step T) → Type 0
  IsWithinPlaces steps = count_at n m (ring_after steps).tail ≤ n + count_at n m (ring_after steps).head

  -- From any moment on, as long as nobody else appends, what was free is free, but for what the party has filled since.
  abbrev pub FreePlacesStay : List (Step T) → List (Step T) → Type 0
  FreePlacesStay steps more = (p : ℕ)
      → AppendsAlone p (trace n m more (ring_after steps))
      → free_in (ring_after steps)
      ≤ free_in (run n m more (ring_after steps)) + appended_by p (trace n m more (ring_after steps))

  -- The same where the party asked for the length and was told k, so that it saw the others of the n places free.
  abbrev pub SeenPlacesStay : List (Step T) → Type 0
  SeenPlacesStay steps = (p k : ℕ) (before during since : List (Moment T))
      → trace n m steps (new_ring n m) ≡ before ++ (Begins p Len ∷ (during ++ (Ends p (LenIs k) ∷ since)))
      → AppendsAlone p (during ++ since)
      → n ≤ k + (free_in (ring_after steps) + appended_by p (during ++ since))

  -- A push that the party begins later is refused full only once it has filled as many places as were free.
  abbrev pub FreePlacesAreFilled : List (Step T) → List (Step T) → Type 0
  FreePlacesAreFilled steps more = (p : ℕ) (x y : T) (since during after : List (Moment T))
      → trace n m more (ring_after steps)
      ≡ since ++ (Begins p (Push x) ∷ (during ++ (Ends p (Pushed (Err (Full y))) ∷ after)))
      → AppendsAlone p (since ++ during)
      → free_in (ring_after steps) ≤ appended_by p (since ++ during)

  -- The same where the party asked for the length and was told k. So of the pushes that it has begun since it asked, the
  -- first n - k are not refused full.
  abbrev pub SeenPlacesAreFilled : List (Step T) → Type 0
  SeenPlacesAreFilled steps = (p k : ℕ) (x : T) (before during since after : List (Moment T))
      → trace n m steps (new_ring n m)
      ≡ before ++ (Begins p Len ∷ (during ++ (Ends p (LenIs k) ∷ (since ++ (Ends p (Pushed (Err (Full x))) ∷ after)))))
      → AppendsAlone p (during ++ since)
      → (n ≤ k + appended_by p (during ++ since)) × (n < k + pushes_of p (during ++ since))
