-- How a script writes its commands.
use Rattle.std.specs.Prelude.{◌≡◌, ℕ, List, [], ◌∷◌, codes}
use Rattle.script.specs.Party.{IsParty}
use Rattle.script.specs.Plain.{IsSpelled}
use Rattle.script.specs.Refusal.{IsRefusing}
use Rattle.script.specs.declared.command.Command.{Command}
use Rattle.script.specs.declared.command.Command.TheVariants.{Whole, Begin, Go, Finish}
use Rattle.script.specs.declared.command.Request.{Request}
use Rattle.script.specs.declared.plain.Plain.{Plain}
use Rattle.script.specs.declared.refusal.Refusal.{Refusal}
use Rattle.script.specs.declared.refusal.Refusal.TheVariants.{Nothing}

-- the words of a command that makes a call; in front of them stands which of its requests for memory are refused, where
-- any is
abbrev pub SpellsAs : Refusal → Plain → List (List ℕ) → Type 0
SpellsAs Nothing plain words = IsSpelled plain words
SpellsAs refusal plain words =
    (word : List ℕ)
    × (rest : List (List ℕ))
    × (words ≡ word ∷ rest)
    × IsRefusing refusal word
    × IsSpelled plain rest

abbrev pub SpellsRequest : Request → List (List ℕ) → Type 0
SpellsRequest request words = SpellsAs request.refusal request.plain words

-- the words of a command
abbrev pub Spells : Command → List (List ℕ) → Type 0
Spells (Whole request) words = SpellsRequest request words
Spells (Begin party request) words =
    (number : List ℕ)
    × (rest : List (List ℕ))
    × (words ≡ codes "begin" ∷ number ∷ rest)
    × IsParty number party
    × SpellsRequest request rest
Spells (Go party) words = (number : List ℕ) × (words ≡ codes "go" ∷ number ∷ []) × IsParty number party
Spells (Finish party) words = (number : List ℕ) × (words ≡ codes "finish" ∷ number ∷ []) × IsParty number party
