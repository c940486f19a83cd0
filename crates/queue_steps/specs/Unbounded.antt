-- A chain of blocks between two calls: how its blocks lie, and the queue that they are.
use Rattle.std.specs.Prelude.{◌≡◌, ℕ, ◌+◌, ◌%◌, ◌<◌, ◌≤◌, List, [], ◌∷◌, ◌++◌, length, Option, Some, None}
use Rattle.std.specs.Option.{ForSome}
use Rattle.queue_steps.specs.declared.steps.unbounded.Ends.{Ends}
use Rattle.queue_steps.specs.ClosableQueue.{ClosableQueue, most_accepted}

module _ {T : Type 0} where
  -- the items of the blocks, one block after another
  abbrev pub joined : List (List T) → List T
  joined [] = []
  joined (b ∷ bs) = b ++ joined bs

  -- in the first block `from` places were used before, in the last one `to` are used, and in each between all 31
  abbrev pub IsLaid : ℕ → List (List T) → ℕ → Type 0
  IsLaid from [] to = from ≡ 0
  IsLaid from (b ∷ []) to = from + length b ≡ to
  IsLaid from (b ∷ c ∷ bs) to = (from + length b ≡ 31) × IsLaid 0 (c ∷ bs) to

  pub record UnboundedAtRest (ends : Ends) (blocks : List (List T)) (spare : Option (List T)) : Type 0 where
    pub few : ends.tail ≤ most_accepted
    pub held : ends.head + length (joined blocks) ≡ ends.tail
    pub laid : IsLaid (ends.head % 31) blocks ((ends.tail + 30) % 31 + 1)
    pub spare_is_empty : ForSome spare (λ b. b ≡ [])

  abbrev pub chain_queue : Ends → List (List T) → ClosableQueue T
  chain_queue ends blocks = record { items = joined blocks; capacity = None; closed = ends.closed; accepted = Some ends.tail }

  -- one more item in the last block
  abbrev pub onto_last : List (List T) → T → List (List T)
  onto_last [] x = []
  onto_last (b ∷ []) x = (b ++ x ∷ []) ∷ []
  onto_last (b ∷ c ∷ bs) x = b ∷ onto_last (c ∷ bs) x

  abbrev pub LastHasRoom : List (List T) → Type 0
  LastHasRoom [] = ⊥
  LastHasRoom (b ∷ []) = length b < 31
  LastHasRoom (b ∷ c ∷ bs) = LastHasRoom (c ∷ bs)

  abbrev pub FirstHasItem : List (List T) → Type 0
  FirstHasItem [] = ⊥
  FirstHasItem (b ∷ bs) = 0 < length b

  abbrev pub FirstHasOneItem : List (List T) → Type 0
  FirstHasOneItem [] = ⊥
  FirstHasOneItem (b ∷ bs) = length b ≡ 1

  -- the first item of the first block is taken
  abbrev pub TakesFirst : List (List T) → T → List (List T) → Type 0
  TakesFirst [] x new = ⊥
  TakesFirst (b ∷ bs) x [] = ⊥
  TakesFirst (b ∷ bs) x (c ∷ cs) = (b ≡ x ∷ c) × (cs ≡ bs)
