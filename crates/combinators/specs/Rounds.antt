-- What a poll of many futures leaves and answers.
use Rattle.std.specs.Prelude.{◌≡◌, ◌<◌, ℕ, List, [], ◌∷◌, ◌++◌, length, map, Option, Some, None}
use Rattle.async_task.specs.declared.poll.Poll.{Poll}
use Rattle.async_task.specs.declared.poll.Poll.TheVariants.{Ready, Pending}
use Rattle.combinators.specs.declared.unordered.Numbered.{Numbered}

module _ {F : Type 0} where
  abbrev pub numbers : List (Numbered F) → List ℕ
  numbers futures = map (λ one. one.number) futures

  -- one more came, with this number, and is the last
  abbrev pub HasCome : ℕ → F → List (Numbered F) → List (Numbered F) → Type 0
  HasCome number future old new = new ≡ old ++ record { number = number; future = future } ∷ []

  -- this many from the front were polled, are pending, and come last now, in their order. Those after them are as they were
  pub record HaveGone (count : ℕ) (old new : List (Numbered F)) : Type 0 where
    pub polled : List (Numbered F)
    pub behind : List (Numbered F)
    pub pending : List (Numbered F)
    pub were : old ≡ polled ++ behind
    pub are : new ≡ behind ++ pending
    pub same : numbers pending ≡ numbers polled
    pub counted : length polled ≡ count

  -- the future of this number is gone. Those before it were polled, are pending, and come last now, in their order. Those after it
  -- are as they were
  pub record HasGone (number : ℕ) (old new : List (Numbered F)) : Type 0 where
    pub polled : List (Numbered F)
    pub done : Numbered F
    pub behind : List (Numbered F)
    pub pending : List (Numbered F)
    pub were : old ≡ polled ++ done ∷ behind
    pub are : new ≡ behind ++ pending
    pub same : numbers pending ≡ numbers polled
    pub numbered : number ≡ done.number

  -- the first was polled: it gave an output, and is gone; or it is pending, and comes last
  abbrev pub HasTurned : {T : Type 0} → List (Numbered F) → List (Numbered F) → Poll (ℕ × T) → Type 0
  HasTurned old new (Ready done) = (first : Numbered F) × (old ≡ first ∷ new) × (done.0 ≡ first.number)
  HasTurned old new Pending =
      (first then : Numbered F) × (rest : List (Numbered F)) × (old ≡ first ∷ rest) × (new ≡ rest ++ then ∷ [])
      × (then.number ≡ first.number)

  -- ready with nothing where there is none; ready with the output of one, which is gone; or pending, where there are some, which all were
  -- polled, and their order stays
  abbrev pub HasPolled : {T : Type 0} → List (Numbered F) → List (Numbered F) → Poll (Option (ℕ × T)) → Type 0
  HasPolled old new (Ready None) = (old ≡ []) × (new ≡ [])
  HasPolled old new (Ready (Some done)) = HasGone done.0 old new
  HasPolled old new Pending = (0 < length old) × (numbers new ≡ numbers old)
