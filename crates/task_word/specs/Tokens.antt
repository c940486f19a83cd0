-- What a call on a token did.
use Rattle.std.specs.Prelude.{◌≡◌, [], ◌∷◌, Bool, true, false, Some}
use Rattle.atomic_table.specs.declared.shared.Seat.{Seat}
use Rattle.atomic_table.specs.declared.shared.Shared.{Shared}
use Rattle.task_moves.specs.declared.moves.state.State.{State}
use Rattle.task_moves.specs.declared.moves.owed.Moved.{Moved}
use Rattle.task_moves.specs.declared.moves.owed.Owed.{Owed}
use Rattle.task_word.specs.declared.rule.View.{View}
use Rattle.task_word.specs.declared.rule.Hold.TheVariants.{Handle}
use Rattle.task_word.specs.Badges.{holds}
use Rattle.task_word.specs.declared.tokens.claim.Claim.{Claim}
use Rattle.task_word.specs.Cell.{Slot}
use Rattle.task_moves.specs.Moves as moves
use Rattle.task_word.specs.Awaiter.{needs_slot, comes_back}
use Rattle.task_word.specs.Steps.{Makes, IsOver}
use Rattle.task_word.specs.Word.{pack}

-- the claim of this seat
abbrev pub IsClaimOf : {F T W : Type 0} → Seat (Slot F T W) View → Claim → Type 0
IsClaimOf seat claim = (claim.badge.table_id ≡ seat.table_id) × (claim.badge.id ≡ seat.id) × (claim.badge.views ≡ seat.me.0 ∷ [])

-- the handle of this board's task lies in the place that has this claim
abbrev pub IsThere : {F T W K P : Type 0} → Shared (Slot F T W) View K P → Claim → Type 0
IsThere board claim = (claim.badge.table_id ≡ board.table_id) × (holds claim.badge.views ≡ Handle ∷ [])

-- the step of this claim's seat, on this board, is this move
abbrev pub Shows : {F T W K P : Type 0} → Shared (Slot F T W) View K P → (State → Moved) → Owed → Claim → Type 0
Shows board move owed claim = (claim.badge.table_id ≡ board.table_id) × (v : View) × (claim.badge.views ≡ v ∷ []) × Makes move v owed

-- what some task has to do after this move, where a later step of the call has written over what this one found
abbrev pub Owes : (State → Moved) → Owed → Type 0
Owes move owed = (st : State) × (owed ≡ (move st).owed)

-- the last step of this seat, on this board, is this move
abbrev pub ShowsSeat : {F T W K P : Type 0} → Shared (Slot F T W) View K P → (State → Moved) → Owed → Seat (Slot F T W) View → Type 0
ShowsSeat board move owed seat = (seat.table_id ≡ board.table_id) × Makes move seat.me.0 owed

-- the claim's seat found a state of which this is the answer
abbrev pub Finds : {F T W K P : Type 0} → Shared (Slot F T W) View K P → (State → Bool) → Bool → Claim → Type 0
Finds board asks answer claim = (claim.badge.table_id ≡ board.table_id) × (v : View) × (claim.badge.views ≡ v ∷ []) × (st : State) × (rests : Bool)
    × (v.found ≡ pack st rests) × (answer ≡ asks st)

-- the claim's seat found this state
abbrev pub FindsState : {F T W K P : Type 0} → Shared (Slot F T W) View K P → State → Claim → Type 0
FindsState board st claim = (claim.badge.table_id ≡ board.table_id) × (v : View) × (claim.badge.views ≡ v ∷ []) × (rests : Bool)
    × (v.found ≡ pack st rests)

-- a notify, by which the claim's seat has taken the awaiter out, where nobody else was calling or registering it
abbrev pub notifies_by : {F T W K P : Type 0} → Bool → Shared (Slot F T W) View K P → Owed → Claim → Type 0
notifies_by true board owed claim = Owes moves.notify owed × (ended : Owed) × Shows board moves.end_notify ended claim
notifies_by false board owed claim = Shows board moves.notify owed claim

abbrev pub Notifies : {F T W K P : Type 0} → Shared (Slot F T W) View K P → Owed → Claim → Type 0
Notifies board owed claim = notifies_by (needs_slot owed.awaiter) board owed claim

-- a register, by which the claim's seat has stored the waker, unless that is called
abbrev pub registers_by : {F T W K P : Type 0} → Bool → Shared (Slot F T W) View K P → Owed → Claim → Bool → Type 0
registers_by true board owed claim calls = Owes moves.register owed × (ended : Owed) × Shows board moves.end_register ended claim
    × (calls ≡ comes_back ended.awaiter)
registers_by false board owed claim calls = Shows board moves.register owed claim × (calls ≡ true)

abbrev pub Registers : {F T W K P : Type 0} → Shared (Slot F T W) View K P → Owed → Claim → Bool → Type 0
Registers board owed claim calls = registers_by (needs_slot owed.awaiter) board owed claim calls

-- no Runnable rested in the word
abbrev pub FindsNoRunnable : {F T W K P : Type 0} → Shared (Slot F T W) View K P → Claim → Type 0
FindsNoRunnable board claim = (claim.badge.table_id ≡ board.table_id) × (v : View) × (claim.badge.views ≡ v ∷ []) × (st : State)
    × (v.found ≡ pack st false)

-- the cell was not empty
abbrev pub FindsTask : {F T W K P : Type 0} → Shared (Slot F T W) View K P → Claim → Type 0
FindsTask board claim = (claim.badge.table_id ≡ board.table_id) × (v : View) × (claim.badge.views ≡ v ∷ []) × (st : State) × (rests : Bool)
    × (v.found ≡ pack st rests) × (IsOver st → ⊥)

-- no reference rested in the cell
abbrev pub FindsNoneStored : {F T W K P : Type 0} → Shared (Slot F T W) View K P → Claim → Type 0
FindsNoneStored board claim = (claim.badge.table_id ≡ board.table_id) × (v : View) × (claim.badge.views ≡ v ∷ []) × (v.stored ≡ Some 0)

-- no handle rested in the cell
abbrev pub FindsNotParked : {F T W K P : Type 0} → Shared (Slot F T W) View K P → Claim → Type 0
FindsNotParked board claim = (claim.badge.table_id ≡ board.table_id) × (v : View) × (claim.badge.views ≡ v ∷ []) × (v.parked ≡ Some 0)
