-- What the steps at the awaiter show, and what a seat has of it.
use Rattle.std.specs.Prelude.{◌≡◌, ℕ, List, [], ◌∷◌, Bool, true, false, Option, Some, None}
use Rattle.atomic_table.specs.Table.{rest}
use Rattle.atomic_table.specs.declared.shared.Seat.{Seat}
use Rattle.task_moves.specs.declared.moves.owed.Moved.{Moved}
use Rattle.task_moves.specs.declared.moves.owed.AwaiterDebt.{AwaiterDebt}
use Rattle.task_moves.specs.declared.moves.owed.AwaiterDebt.TheVariants.{StoreCopy, CallStored, TakeAwaiter}
use Rattle.task_word.specs.declared.rule.View.{View}
use Rattle.task_word.specs.declared.rule.Hold.{Hold}
use Rattle.task_word.specs.declared.rule.Hold.TheVariants.{Nothing, Leaving, Handle, Registering, HandleNotifying, RunNotifying}
use Rattle.task_word.specs.declared.rule.Content.TheVariants.{Awaiter}
use Rattle.task_word.specs.Cell.{Slot}
use Rattle.task_word.specs.Steps.{Known, Is, Logs}

-- the mover has something to do at the awaiter's slot
abbrev pub needs_slot : Option AwaiterDebt → Bool
needs_slot (Some StoreCopy) = true
needs_slot (Some TakeAwaiter) = true
needs_slot _ = false

-- the waker that the mover has stored comes out again, to be called
abbrev pub comes_back : Option AwaiterDebt → Bool
comes_back (Some CallStored) = true
comes_back _ = false

-- who takes the awaiter out has the slot, beside what it has
abbrev pub notifying : Hold → Hold
notifying Handle = HandleNotifying
notifying Leaving = RunNotifying
notifying hold = hold

-- and once it has brought the slot back
abbrev pub notified_by : Hold → Hold
notified_by HandleNotifying = Handle
notified_by RunNotifying = Leaving
notified_by hold = hold

module _ {F T W : Type 0} where
  -- what the awaiter's slot has
  abbrev pub awaiter_slot : Option W → Slot F T W
  awaiter_slot (Some w) = Some (Awaiter w)
  awaiter_slot None = None

  -- the seat has this, and the slot with what is there; or that, without the slot
  abbrev pub at_slot : Bool → Hold → Hold → List (ℕ × Slot F T W) → Known F T W → Type 0
  at_slot true hold without slots m' = (a : Option W) × Is hold ((1, awaiter_slot a) ∷ slots) m'
  at_slot false hold without slots m' = Is without slots m'

  abbrev pub notified : Moved → Known F T W → Known F T W → Type 0
  notified mv m m' = at_slot (needs_slot mv.owed.awaiter) (notifying m.0.hold) m.0.hold m.1 m'

  -- the empty slot goes home
  abbrev pub end_notified : Moved → Known F T W → Known F T W → Type 0
  end_notified mv m m' = Is (notified_by m.0.hold) (rest m.1) m'

  abbrev pub registered : Moved → Known F T W → Known F T W → Type 0
  registered mv m m' = at_slot (needs_slot mv.owed.awaiter) Registering Handle m.1 m'

  -- the slot goes home
  abbrev pub end_registered : Moved → Known F T W → Known F T W → Type 0
  end_registered mv m m' = Is Handle (rest m.1) m'

  -- the empty slot goes home, and the cell has no task
  abbrev pub emptied : ℕ → Known F T W → ℕ → Known F T W → Type 0
  emptied new m n m' = Is Nothing (rest m.1) m' × Logs n new m'

  -- a seat has the awaiter's slot, where the mover has something to do there
  abbrev pub IsAtSlot : Option AwaiterDebt → Hold → Hold → Seat (Slot F T W) View → Type 0
  IsAtSlot debt hold without seat = at_slot (needs_slot debt) hold without [] seat.me

  -- the awaiter's slot with what is there
  abbrev pub HoldsAwaiter : Seat (Slot F T W) View → Type 0
  HoldsAwaiter seat = (a : Option W) × (seat.me.1 ≡ (1, awaiter_slot a) ∷ [])

  -- the awaiter's slot, which is empty
  abbrev pub HasAwaiterPlace : Hold → Seat (Slot F T W) View → Type 0
  HasAwaiterPlace hold seat = Is hold ((1, None) ∷ []) seat.me
