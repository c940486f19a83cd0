-- How orders ended, by what the check answered.
use Rattle.std.specs.Prelude.{◌≡◌, ◌≤◌, ◌<◌, ◌≢◌, ℕ, Bool, true, false, List, [], ◌∷◌, replicate, length, count_by}
use Rattle.std.specs.Fn.{FnOnceReturnsAt, Once}
use Rattle.orders.specs.declared.failure.End.{End}
use Rattle.orders.specs.declared.failure.End.TheVariants.{Right, Wrong, Cut}

-- The end of an order by whether it is over, and by what the check answered.
abbrev pub end_of : Bool → Bool → End
end_of false _ = Cut
end_of true true = Right
end_of true false = Wrong

abbrev pub is_wrong : End → Bool
is_wrong Right = false
is_wrong Wrong = true
is_wrong Cut = false

abbrev pub is_cut : End → Bool
is_cut Right = false
is_cut Wrong = false
is_cut Cut = true

-- The check answered once, at an order that ended so.
abbrev pub Answers : {X : Type 0} → (X → Bool → Type 0) → End → Type 0
Answers {X} calls end = (world : X) × (is_over : Bool) × (is_right : Bool) × calls world is_right × (end ≡ end_of is_over is_right)

-- The same of a check that such an answer leads from one state to the next.
abbrev pub Asks : {C X : Type 0} → (C → X → Bool → C → Type 0) → C → End → C → Type 0
Asks calls before end after = Answers (λ world is_right. calls before world is_right after) end

-- From `first` to `last` the check answered at one order after the other: how these ended, the last first.
abbrev pub HasSeen : {C X : Type 0} → (C → X → Bool → C → Type 0) → C → List End → C → Type 0
HasSeen calls first [] last = first ≡ last
HasSeen {C} calls first (end ∷ ends) last = (before : C) × HasSeen calls first ends before × Asks calls before end last

-- So many orders were played, and each was right.
abbrev pub AllRight : {C X : Type 0} → (C → X → Bool → C → Type 0) → C → ℕ → Type 0
AllRight {C} calls check count = (last : C) × HasSeen calls check (replicate count Right) last

-- So many orders were played that were right, and then one that ended so.
abbrev pub EndsFirst : {C X : Type 0} → (C → X → Bool → C → Type 0) → C → ℕ → End → Type 0
EndsFirst {C} calls check count end = (last : C) × HasSeen calls check (end ∷ replicate count Right) last

-- So many orders, of which so many were wrong, and no more were cut than this.
abbrev pub AreCounted : List End → ℕ → ℕ → ℕ → Type 0
AreCounted ends orders failing cut = (length ends ≡ orders) × (count_by is_wrong ends ≡ failing) × (count_by is_cut ends ≤ cut)

-- So many orders were played, of which so many were wrong, and no more were cut than this.
abbrev pub WerePlayed : {C X : Type 0} → (C → X → Bool → C → Type 0) → C → ℕ → ℕ → ℕ → Type 0
WerePlayed {C} calls check orders failing cut = (ends : List End) × (last : C) × HasSeen calls check ends last × AreCounted ends orders failing cut
