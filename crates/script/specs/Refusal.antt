-- How a script writes which requests for memory a command is refused.
use Rattle.std.specs.Prelude.{◌≡◌, ℕ, ◌≤◌, List, ◌++◌, codes}
use Rattle.text_lines.specs.Number.{IsNumber}
use Rattle.script.specs.declared.refusal.Refusal.{Refusal}
use Rattle.script.specs.declared.refusal.Refusal.TheVariants.{Nothing, Each, Only}

-- the word in front of a command: `refuse` for each of its requests, and `refuse@<k>` for the k-th alone, k from 1 to 100
abbrev pub IsRefusing : Refusal → List ℕ → Type 0
IsRefusing Nothing word = ⊥
IsRefusing Each word = word ≡ codes "refuse"
IsRefusing (Only number) word =
    (digits : List ℕ)
    × (word ≡ codes "refuse@" ++ digits)
    × IsNumber digits number
    × (1 ≤ number)
    × (number ≤ 100)
