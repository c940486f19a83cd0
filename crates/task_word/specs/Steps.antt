-- What each kind of step shows, and what a seat has.
use Rattle.std.specs.Prelude.{◌≡◌, ◌≢◌, ℕ, ◌+◌, ◌≤◌, List, [], ◌∷◌, Bool, true, false, ◌&&◌, Option, Some, None, ◌==◌, not}
use Rattle.atomic_table.specs.Table.{Me, rest}
use Rattle.atomic_table.specs.declared.shared.Seat.{Seat}
use Rattle.atomic_table.specs.declared.shared.Shared.{Shared}
use Rattle.task_moves.specs.declared.moves.state.State.{State}
use Rattle.task_moves.specs.declared.moves.owed.Moved.{Moved}
use Rattle.task_moves.specs.declared.moves.owed.Owed.{Owed}
use Rattle.task_moves.specs.declared.moves.owed.Answer.{Answer}
use Rattle.task_moves.specs.declared.moves.owed.Answer.TheVariants.{Refused}
use Rattle.task_moves.specs.declared.moves.owed.Move.{Move}
use Rattle.task_moves.specs.declared.schedule_info.ScheduleInfo.{ScheduleInfo}
use Rattle.task_moves.specs.Moves as moves
use Rattle.task_word.specs.declared.rule.View.{View}
use Rattle.task_word.specs.declared.rule.Hold.{Hold}
use Rattle.task_word.specs.declared.rule.Hold.TheVariants.{Nothing, Reference, Leaving, Handle, Made, Queued, Running, Closing, Ending, Filling, Spending, Emptying}
use Rattle.task_word.specs.declared.rule.Content.TheVariants.{Future, Output, Awaiter}
use Rattle.task_word.specs.Word.{pack}
use Rattle.task_word.specs.Given.{is_given}
use Rattle.task_word.specs.Cell.{most, weight, filling, Slot}

abbrev pub view : Hold → ℕ → ℕ → View
view hold found left = record { hold = hold; found = found; left = left; stored = None; parked = None }

-- and after a step on the word of stored wakers
abbrev pub stored_view : Hold → ℕ → View → View
stored_view hold found v = record v { hold = hold; stored = Some found; parked = None }

-- and after one on the word of a stored handle
abbrev pub parked_view : Hold → ℕ → View → View
parked_view hold found v = record v { hold = hold; stored = None; parked = Some found }

abbrev pub Known : Type 0 → Type 0 → Type 0 → Type 0
Known F T W = Me (Slot F T W) View

-- the step of a call is this move: by the word that it found, the word that it left, and what it leaves to be done
abbrev pub Makes : (State → Moved) → View → Owed → Type 0
Makes move v owed = (st : State) × (rests : Bool) × (v.found ≡ pack st rests) × (v.left ≡ pack (move st).state rests) × (owed ≡ (move st).owed)

-- the state of a new task that is detached
abbrev pub detached : State
detached = (moves.detach moves.made).state

-- a copy, where somebody can reach the task: else nobody has a waker of it
abbrev pub copy_by : Bool → State → Moved
copy_by true s = moves.moved s (record moves.nothing { answer = Some Refused })
copy_by false s = moves.copy s

abbrev pub is_dead : State → Bool
is_dead s = (s.references == 0) && not s.handle

abbrev pub copy : State → Moved
copy s = copy_by (is_dead s) s

-- nobody can reach the task any more
abbrev pub IsDead : State → Type 0
IsDead s = (s.references ≡ 0) × (s.handle ≡ false)

-- and nothing of it is left
abbrev pub IsOver : State → Type 0
IsOver s = IsDead s × (s.scheduled ≡ false) × (s.running ≡ false) × (s.closed ≡ true) × (s.awaiter ≡ false)

-- what the word shows a seat by its own view
abbrev pub Sees : View → ℕ → Type 0
Sees v n = (st : State) (rests : Bool) → n ≡ pack st rests → (weight v.hold ≤ st.references) × (st.references ≤ most + 1)

-- an awaiter is left in a cell that is emptied
abbrev pub leaves_awaiter : Moved → Bool
leaves_awaiter mv = mv.owed.empty_cell && mv.state.awaiter

module _ {F T W : Type 0} where
  -- a seat with this, and these slots
  abbrev pub Is : Hold → List (ℕ × Slot F T W) → Known F T W → Type 0
  Is hold slots m = (m.0.hold ≡ hold) × (m.1 ≡ slots)

  abbrev pub keeps_all : Known F T W → Known F T W → Type 0
  keeps_all m m' = Is m.0.hold m.1 m'

  abbrev pub Logs : ℕ → ℕ → Known F T W → Type 0
  Logs found left m = (m.0.found ≡ found) × (m.0.left ≡ left)

  -- with the future's slot as well
  abbrev pub WithFuture : Hold → List (ℕ × Slot F T W) → Known F T W → Type 0
  WithFuture hold slots m = (f : F) × Is hold ((0, Some (Future f)) ∷ slots) m

  abbrev pub arrived : Known F T W → Type 0
  arrived m' = Is Nothing [] m'

  -- a load
  abbrev pub looked : Known F T W → ℕ → Known F T W → Type 0
  looked m n m' = keeps_all m m' × Logs n n m' × Sees m.0 n

  -- a load after which a closed task is closed for the seat
  abbrev pub turns : Bool → (Known F T W → Known F T W → Type 0) → Known F T W → Known F T W → Type 0
  turns true turn m m' = turn m m'
  turns false turn m m' = keeps_all m m'

  abbrev pub looked_by : (Known F T W → Known F T W → Type 0) → Known F T W → ℕ → Known F T W → Type 0
  looked_by turn m n m' = ((st : State) (rests : Bool) → n ≡ pack st rests → turns st.closed turn m m') × Logs n n m' × Sees m.0 n

  abbrev pub turned_up : Known F T W → Known F T W → Type 0
  turned_up m m' = WithFuture Closing m.1 m'

  abbrev pub turned_back : Known F T W → Known F T W → Type 0
  turned_back m m' = Is Ending m.1 m'

  -- an exchange of `old` for `new` that makes a move
  abbrev pub Won : (State → Moved) → (Moved → Known F T W → Known F T W → Type 0) → ℕ → ℕ → Known F T W → Known F T W → Type 0
  Won move effect old new m m' = ((st : State) (rests : Bool) → old ≡ pack st rests → (new ≡ pack (move st).state rests) × effect (move st) m m') × Logs old new m'

  abbrev pub tries : (State → Moved) → (Moved → Known F T W → Known F T W → Type 0) → ℕ → ℕ → Known F T W → ℕ → Known F T W → Type 0
  tries move effect old new m n m' = (n ≡ old → Won move effect old new m m') × (n ≢ old → keeps_all m m' × Logs n n m')

  -- a Runnable, where one has to be scheduled
  abbrev pub queues : Option ScheduleInfo → Known F T W → Known F T W → Type 0
  queues (Some info) m m' = Is Queued m.1 m'
  queues None m m' = keeps_all m m'

  abbrev pub woken : Moved → Known F T W → Known F T W → Type 0
  woken mv m m' = queues mv.owed.schedule m m'

  -- a Runnable, where one has to be scheduled; the awaiter that is left in a cell that is emptied; or nothing
  abbrev pub leaves : Option ScheduleInfo → Bool → List (ℕ × Slot F T W) → Known F T W → Type 0
  leaves (Some info) awaiter slots m' = Is Queued slots m'
  leaves None true slots m' = (w : W) × Is Emptying ((1, Some (Awaiter w)) ∷ slots) m'
  leaves None false slots m' = Is Nothing slots m'

  abbrev pub released : Moved → Known F T W → Known F T W → Type 0
  released mv m m' = leaves mv.owed.schedule (leaves_awaiter mv) m.1 m'

  abbrev pub copied : Moved → Known F T W → Known F T W → Type 0
  copied mv m m' = Is Reference m.1 m'

  abbrev pub began : Moved → Known F T W → Known F T W → Type 0
  began mv m m' = WithFuture Running m.1 m'

  -- the future has to be dropped
  abbrev pub dropped : Moved → Known F T W → Known F T W → Type 0
  dropped mv m m' = WithFuture Closing m.1 m'

  -- the slot goes home, and the reference of the right is left
  abbrev pub ended : Moved → Known F T W → Known F T W → Type 0
  ended mv m m' = Is Leaving (rest m.1) m'

  -- the slot goes home, and the Runnable or nothing is left
  abbrev pub paused : Moved → Known F T W → Known F T W → Type 0
  paused mv m m' = leaves mv.owed.schedule (leaves_awaiter mv) (rest m.1) m'

  -- the output comes out, to be dropped; or the handle is gone
  abbrev pub lets_go : Bool → Moved → Known F T W → Known F T W → Type 0
  lets_go true mv m m' = (t : T) × Is Spending ((0, Some (Output t)) ∷ m.1) m'
  lets_go false mv m m' = leaves mv.owed.schedule (leaves_awaiter mv) m.1 m'

  abbrev pub let_go : Moved → Known F T W → Known F T W → Type 0
  let_go mv m m' = lets_go mv.owed.drop_output mv m m'

  -- the output comes out, where it is given
  abbrev pub gives_out : Bool → List (ℕ × Slot F T W) → Known F T W → Type 0
  gives_out true slots m' = (t : T) × Is Spending ((0, Some (Output t)) ∷ slots) m'
  gives_out false slots m' = Is Handle slots m'

  abbrev pub polled : Moved → Known F T W → Known F T W → Type 0
  polled mv m m' = gives_out (is_given mv.owed.answer) m.1 m'

  -- a load by which the output's empty slot goes home
  abbrev pub spent : Known F T W → ℕ → Known F T W → Type 0
  spent m n m' = Is Handle (rest m.1) m' × Logs n n m'

  -- an exchange that makes no move
  abbrev pub swapped : (Known F T W → Known F T W → Type 0) → ℕ → ℕ → Known F T W → ℕ → Known F T W → Type 0
  swapped effect old new m n m' = (n ≡ old → effect m m' × Logs old new m') × (n ≢ old → keeps_all m m' × Logs n n m')

  abbrev pub reserved : Known F T W → Known F T W → Type 0
  reserved m m' = Is Filling ((0, None) ∷ m.1) m'

  abbrev pub filled : ℕ → Known F T W → Known F T W → Type 0
  filled new m m' = Is Made (rest m.1) m' × Logs (pack filling false) new m'

  abbrev pub filled_detached : ℕ → Known F T W → Known F T W → Type 0
  filled_detached new m m' = Is Queued (rest m.1) m' × Logs (pack filling false) new m'

  abbrev pub rested : Known F T W → Known F T W → Type 0
  rested m m' = Is Nothing m.1 m'

  abbrev pub resumed : Known F T W → Known F T W → Type 0
  resumed m m' = Is Queued m.1 m'

  -- steps on the word of stored wakers
  abbrev pub looked_stored : Known F T W → ℕ → Known F T W → Type 0
  looked_stored m n m' = keeps_all m m' × (m'.0.stored ≡ Some n)

  abbrev pub stored : Known F T W → Known F T W → Type 0
  stored m m' = Is Nothing m.1 m'

  abbrev pub redeemed : ℕ → Known F T W → ℕ → Known F T W → Type 0
  redeemed old m n m' = (n ≡ old → Is Reference m.1 m') × (n ≢ old → keeps_all m m')

  -- steps on the word of a stored handle
  abbrev pub looked_parked : Known F T W → ℕ → Known F T W → Type 0
  looked_parked m n m' = keeps_all m m' × (m'.0.parked ≡ Some n)

  abbrev pub parked : Known F T W → Known F T W → Type 0
  parked m m' = Is Nothing m.1 m'

  abbrev pub unparked : ℕ → Known F T W → ℕ → Known F T W → Type 0
  unparked old m n m' = (n ≡ old → Is Handle m.1 m') × (n ≢ old → keeps_all m m')

-- what the two seats have of a new task
abbrev pub runnable_of : View → View
runnable_of v = record v { hold = Queued }

abbrev pub handle_of_new : View → View
handle_of_new v = record v { hold = Handle }

module _ {F T W K P : Type 0} where
  abbrev pub IsSeatOf : Shared (Slot F T W) View K P → Seat (Slot F T W) View → Type 0
  IsSeatOf board seat = (seat.table_id ≡ board.table_id) × (board.table_id.words ≡ 3) × (board.table_id.slots ≡ 2)

module _ {F T W : Type 0} where
  abbrev pub IsSameSeat : Seat (Slot F T W) View → Seat (Slot F T W) View → Type 0
  IsSameSeat old new = (new.table_id ≡ old.table_id) × (new.id ≡ old.id)

  -- this, and no slot
  abbrev pub Has : Hold → Seat (Slot F T W) View → Type 0
  Has hold seat = Is hold [] seat.me

  -- a right, with the future
  abbrev pub HasFuture : Hold → Seat (Slot F T W) View → Type 0
  HasFuture hold seat = WithFuture hold [] seat.me

  -- a right whose future was taken out
  abbrev pub HasPlace : Hold → Seat (Slot F T W) View → Type 0
  HasPlace hold seat = Is hold ((0, None) ∷ []) seat.me

  -- a Runnable, where one has to be scheduled
  abbrev pub HasQueued : Option ScheduleInfo → Seat (Slot F T W) View → Type 0
  HasQueued (Some info) seat = Has Queued seat
  HasQueued None seat = Has Nothing seat

  -- a Runnable, where one has to be scheduled; or the awaiter that is left, where one is
  abbrev pub HasLeft : Option ScheduleInfo → Bool → Seat (Slot F T W) View → Type 0
  HasLeft schedule awaiter seat = leaves schedule awaiter [] seat.me

  -- the output, which has to be dropped; or what is left after the handle
  abbrev pub LetGo : Bool → Option ScheduleInfo → Bool → Seat (Slot F T W) View → Type 0
  LetGo true schedule awaiter seat = (t : T) × Is Spending ((0, Some (Output t)) ∷ []) seat.me
  LetGo false schedule awaiter seat = HasLeft schedule awaiter seat

  -- the output, where it is given, or the handle
  abbrev pub HasOutput : Option Answer → Seat (Slot F T W) View → Type 0
  HasOutput answer seat = gives_out (is_given answer) [] seat.me

  -- the future is in the slot that the seat holds
  abbrev pub HoldsFuture : Seat (Slot F T W) View → Type 0
  HoldsFuture seat = (f : F) × (seat.me.1 ≡ (0, Some (Future f)) ∷ [])

  -- a reference, unless it is refused
  abbrev pub HasCopy : Option Answer → Seat (Slot F T W) View → Type 0
  HasCopy (Some answer) seat = Has Nothing seat
  HasCopy None seat = Has Reference seat

  -- nothing, as no Runnable rested in the word
  abbrev pub FoundNoRunnable : Seat (Slot F T W) View → Type 0
  FoundNoRunnable seat = Has Nothing seat × (st : State) × (seat.me.0.found ≡ pack st false)

  -- nothing, as the cell was not empty
  abbrev pub FoundTask : Seat (Slot F T W) View → Type 0
  FoundTask seat = Has Nothing seat × (st : State) × (rests : Bool) × (seat.me.0.found ≡ pack st rests) × (IsOver st → ⊥)

  -- nothing, as no reference rested in the cell
  abbrev pub FoundNone : Seat (Slot F T W) View → Type 0
  FoundNone seat = Has Nothing seat × (seat.me.0.stored ≡ Some 0)

  -- nothing, as no handle rested in the cell
  abbrev pub FoundNotParked : Seat (Slot F T W) View → Type 0
  FoundNotParked seat = Has Nothing seat × (seat.me.0.parked ≡ Some 0)

  -- a poll, or a future that has to be dropped
  abbrev pub TakenUp : Option Move → Seat (Slot F T W) View → Type 0
  TakenUp (Some next) seat = HasFuture Closing seat
  TakenUp None seat = HasFuture Running seat

  -- a future that has to be dropped; or a Runnable where one has to be scheduled, the awaiter that is left, or nothing
  abbrev pub Paused : Option Move → Option ScheduleInfo → Bool → Seat (Slot F T W) View → Type 0
  Paused (Some next) schedule awaiter seat = HasFuture Ending seat
  Paused None schedule awaiter seat = HasLeft schedule awaiter seat

-- the output comes back where it has to be dropped, and else stays in the cell
abbrev pub IsHandedBack : {T : Type 0} → Bool → T → Option T → Type 0
IsHandedBack true output back = back ≡ Some output
IsHandedBack false output back = back ≡ None
