-- How a script writes what a future does at its polls.
use Rattle.std.specs.Prelude.{◌≡◌, ℕ, ◌≤◌, List, ◌++◌, length, codes}
use Rattle.std.specs.List.{AllZip}
use Rattle.script.specs.Name.{IsName}
use Rattle.text_lines.specs.Number.{IsNumber}
use Rattle.script.specs.declared.item.Item.{Item}
use Rattle.script.specs.declared.item.Item.TheVariants.{Pend, WakeSelf, Keep, Ready, Twice, Stop, Nest}

-- the word of an item
abbrev pub IsItem : Item → List ℕ → Type 0
IsItem Pend word = word ≡ codes "pend"
IsItem WakeSelf word = word ≡ codes "self"
IsItem Keep word = word ≡ codes "keep"
IsItem (Ready value) word =
    (digits : List ℕ)
    × (word ≡ codes "ready=" ++ digits)
    × IsNumber digits value
    × (value ≤ 1000000)
IsItem (Twice name) word = (word ≡ codes "twice:" ++ name) × IsName name
IsItem (Stop name) word = (word ≡ codes "stop:" ++ name) × IsName name
IsItem Nest word = word ≡ codes "nest"

-- 1 to 8 items, a word each
pub record AreItems (items : List Item) (words : List (List ℕ)) : Type 0 where
  pub some : 1 ≤ length items
  pub few : length items ≤ 8
  pub each : AllZip IsItem items words
