-- How a script writes the commands that make calls.
use Rattle.std.specs.Prelude.{◌≡◌, ℕ, Option, Some, None, List, [], ◌∷◌, codes}
use Rattle.executor_parts.specs.declared.mark.Mark.{Mark}
use Rattle.script.specs.Name.{IsName}
use Rattle.script.specs.Item.{IsItem, AreItems}
use Rattle.script.specs.declared.item.Item.TheVariants.{Twice}
use Rattle.script.specs.declared.plain.Plain.{Plain}
use Rattle.script.specs.declared.plain.Plain.TheVariants.{Spawn, Try, Empty, Wake, Unkeep, Poll, Cancel}
use Rattle.script.specs.declared.plain.Plain.TheVariants.{Detach, Drop, Tick, PollTick, DropTick}
use Rattle.script.specs.declared.plain.Plain.TheVariants.{Run, PollRun, DropRun, Leak, End}
use Rattle.script.specs.declared.word.Word.{Word}
use Rattle.script.specs.declared.word.Word.TheVariants as word
use Rattle.script.specs.WordText.{word_of_spawn, word_text}

-- the words behind the name of a run: none, or the item that polls the handle of the future of this name
abbrev pub IsTwice : Option (List ℕ) → List (List ℕ) → Type 0
IsTwice None words = words ≡ []
IsTwice (Some held) words = (word : List ℕ) × (words ≡ word ∷ []) × IsItem (Twice held) word

-- the first word of a spawn with this mark
abbrev pub spawn_word : Mark → List ℕ
spawn_word m = word_text (word_of_spawn m)

-- the words of a command
abbrev pub IsSpelled : Plain → List (List ℕ) → Type 0
IsSpelled (Spawn m name items) words =
    (spelled : List (List ℕ))
    × (words ≡ spawn_word m ∷ name ∷ spelled)
    × IsName name
    × AreItems items spelled
IsSpelled Try words = words ≡ codes "try" ∷ []
IsSpelled Empty words = words ≡ codes "empty" ∷ []
IsSpelled (Wake name) words = (words ≡ codes "wake" ∷ name ∷ []) × IsName name
IsSpelled (Unkeep name) words = (words ≡ codes "unkeep" ∷ name ∷ []) × IsName name
IsSpelled (Poll name) words = (words ≡ codes "poll" ∷ name ∷ []) × IsName name
IsSpelled (Cancel name) words = (words ≡ codes "cancel" ∷ name ∷ []) × IsName name
IsSpelled (Detach name) words = (words ≡ codes "detach" ∷ name ∷ []) × IsName name
IsSpelled (Drop name) words = (words ≡ codes "drop" ∷ name ∷ []) × IsName name
IsSpelled (Tick name) words = (words ≡ codes "tick" ∷ name ∷ []) × IsName name
IsSpelled (PollTick name) words = (words ≡ codes "polltick" ∷ name ∷ []) × IsName name
IsSpelled (DropTick name) words = (words ≡ codes "droptick" ∷ name ∷ []) × IsName name
IsSpelled (Run name twice) words =
    (spelled : List (List ℕ))
    × (words ≡ codes "run" ∷ name ∷ spelled)
    × IsName name
    × IsTwice twice spelled
IsSpelled (PollRun name) words = (words ≡ codes "pollrun" ∷ name ∷ []) × IsName name
IsSpelled (DropRun name) words = (words ≡ codes "droprun" ∷ name ∷ []) × IsName name
IsSpelled Leak words = words ≡ codes "leak" ∷ []
IsSpelled End words = words ≡ codes "end" ∷ []

-- the word under which a command's answer is printed
abbrev pub word_of : Plain → Word
word_of (Spawn m name items) = word_of_spawn m
word_of Try = word.Try
word_of Empty = word.Empty
word_of (Wake name) = word.Wake
word_of (Unkeep name) = word.Unkeep
word_of (Poll name) = word.Poll
word_of (Cancel name) = word.Cancel
word_of (Detach name) = word.Detach
word_of (Drop name) = word.Drop
word_of (Tick name) = word.Tick
word_of (PollTick name) = word.PollTick
word_of (DropTick name) = word.DropTick
word_of (Run name twice) = word.Run
word_of (PollRun name) = word.PollRun
word_of (DropRun name) = word.DropRun
word_of Leak = word.Leak
word_of End = word.End
