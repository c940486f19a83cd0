-- Words on lists and options that the plain scheduler is said in.
use Rattle.std.specs.Prelude.{ℕ, zero, suc, Bool, true, false, if◌then◌else◌, List, [], ◌∷◌, Option, Some, None}

-- whether one passes a test, and the list without the first that does
abbrev pub any : {B : Type 0} → (B → Bool) → List B → Bool
any test [] = false
any test (b ∷ bs) = if test b then true else any test bs

abbrev pub without : {B : Type 0} → (B → Bool) → List B → List B
without test [] = []
without test (b ∷ bs) = if test b then bs else b ∷ without test bs

-- so many times; for each, in order; for what is there, if it is; and what is answered of it
abbrev pub repeat : {S : Type 0} → ℕ → (S → S) → S → S
repeat zero f s = s
repeat (suc n) f s = repeat n f (f s)

abbrev pub each : {B S : Type 0} → List B → (B → S → S) → S → S
each [] f s = s
each (b ∷ bs) f s = each bs f (f b s)

abbrev pub on : {B S : Type 0} → Option B → (B → S → S) → S → S
on None f s = s
on (Some b) f s = f b s

abbrev pub or : {B S : Type 0} → Option B → (B → S) → S → S
or None f s = s
or (Some b) f s = f b
