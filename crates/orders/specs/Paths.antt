-- The choices of a search.
use Rattle.std.specs.Prelude.{Bool, List, ◌+◌, ◌≡◌, ltb, count_by, false}
use Rattle.orders.specs.declared.path.Choice.{Choice}
use Rattle.orders.specs.declared.path.Path.{Path}

-- A call behind that which was taken is left.
abbrev pub is_open : Choice → Bool
is_open choice = ltb (choice.taken + 1) choice.ways

-- None of these choices is open.
abbrev pub AreOver : List Choice → Type 0
AreOver choices = count_by is_open choices ≡ 0

-- No order is due, and at each call of the last one no other call was left.
abbrev pub IsOver : Path → Type 0
IsOver path = (path.is_due ≡ false) × AreOver path.choices.items
