-- That who sleeps is told of queued tasks.
use Rattle.std.specs.Prelude.{◌≡◌, ◌⊎◌, ℕ, ◌+◌, ◌<◌, length}
use Rattle.solo.specs.declared.solo.Solo.{Solo}
use Rattle.solo.specs.Lines.{LinesValue}

-- how many tasks stand in the urgent queue and in the plain one
abbrev pub queued_in : LinesValue → ℕ
queued_in l = length l.urgent.items + length l.plain.items

-- where a task is queued, of whichever mark, nobody sleeps, or fewer have a waker left than sleep: the others are told
abbrev pub SomeoneIsTold : {F T X : Type 0} → Solo F T X → Type 0
SomeoneIsTold s =
    0 < queued_in s.lines → (s.sleepers.count ≡ 0) ⊎ (length s.sleepers.wakers < s.sleepers.count)
