-- A single slot on which several parties call, step by step, and the moments that its steps are. A step loads or
-- exchanges the word, or is done in the slot by the party that has locked it.
use Rattle.std.specs.Prelude.{ℕ, ◌+◌, ◌-◌, ◌<◌, List, [], ◌∷◌, ◌++◌, Bool, true, false, nat_lt, Option, Some, None, Ok, Err, ◌==◌}
use Rattle.std.specs.Prelude.{if◌then◌else◌}
use Rattle.queue_steps.specs.declared.errors.PushError.TheVariants.{Full as FullToPush, Closed as ClosedToPush}
use Rattle.queue_steps.specs.declared.errors.ForcePushError.TheVariants.{Closed as ClosedToForce}
use Rattle.queue_steps.specs.declared.errors.PopError.TheVariants.{Empty as EmptyToPop, Closed as ClosedToPop}
use Rattle.queue_steps.specs.SingleTurns.{Turn, Look, Exchange, Unlock, End, Close as CloseTurn, push_turn, force_push_turn, pop_turn}
use Rattle.queue_steps.specs.SingleTurns.{close_turn, len_turn, is_empty_turn, is_full_turn, is_closed_turn}
use Rattle.queue_steps.specs.Reply.{Reply, Done, Displaced, Full, Closed, Yes, Length}
use Rattle.queue_steps.specs.ClosableQueue.{new_queue}
use Rattle.queue_steps.specs.Calls.{Call, Push, ForcePush, Pop, Close, Len, IsEmptyCall, IsFullCall, IsClosedCall, Answer, Pushed}
use Rattle.queue_steps.specs.Calls.{ForcePushed, Popped, WasClosed, LenIs, EmptyIs, FullIs, ClosedIs}
use Rattle.queue_laws.specs.Moments.{Moment, Begins, Does, Ends, Scene, Run}

-- where a party stands: in no call, before its next step on the word, before its step in the slot, or after that with
-- what it took out, before it unlocks
pub data Place (T : Type 0) : Type 0 where
  Away : Place T
  Stands : Call T → Turn → Place T
  Inside : Call T → Reply → Place T
  Leaving : Call T → Reply → Option T → Place T

pub record SingleWorld (T : Type 0) : Type 0 where
  pub word : ℕ
  pub slot : Option T
  pub places : ℕ → Place T

pub data Step (T : Type 0) : Type 0 where
  Begin : ℕ → Call T → Step T
  Go : ℕ → Step T

abbrev pub is_yes : Reply → Bool
is_yes Yes = true
is_yes _ = false

abbrev pub length_in : Reply → ℕ
length_in (Length n) = n
length_in _ = 0

abbrev pub word_after : Turn → ℕ → ℕ
word_after Look w = w
word_after (Exchange old new) w = if w == old then new else w
word_after (Unlock r) w = w
word_after CloseTurn w = if nat_lt w 4 then w + 4 else w
word_after (End r) w = w

module _ {T : Type 0} where
  abbrev pub turn_of : Call T → Turn → ℕ → Turn
  turn_of (Push x) = push_turn
  turn_of (ForcePush x) = force_push_turn
  turn_of Pop = pop_turn
  turn_of Close = close_turn
  turn_of Len = len_turn
  turn_of IsEmptyCall = is_empty_turn
  turn_of IsFullCall = is_full_turn
  turn_of IsClosedCall = is_closed_turn

  abbrev pub first_turn : Call T → Turn
  first_turn (Push x) = Look
  first_turn (ForcePush x) = Look
  first_turn Pop = Look
  first_turn Close = CloseTurn
  first_turn Len = Look
  first_turn IsEmptyCall = Look
  first_turn IsFullCall = Look
  first_turn IsClosedCall = Look

  abbrev pub popped_as : Option T → Answer T
  popped_as (Some y) = Popped (Ok y)
  popped_as None = Popped (Err EmptyToPop)

  abbrev pub push_answer : T → Reply → Answer T
  push_answer x Done = Pushed (Ok tt)
  push_answer x Full = Pushed (Err (FullToPush x))
  push_answer x _ = Pushed (Err (ClosedToPush x))

  abbrev pub force_push_answer : T → Reply → Option T → Answer T
  force_push_answer x Done taken = ForcePushed (Ok None)
  force_push_answer x Displaced taken = ForcePushed (Ok taken)
  force_push_answer x _ taken = ForcePushed (Err (ClosedToForce x))

  abbrev pub pop_answer : Reply → Option T → Answer T
  pop_answer Done taken = popped_as taken
  pop_answer Closed taken = Popped (Err ClosedToPop)
  pop_answer _ taken = Popped (Err EmptyToPop)

  -- what a call answers that ends so, having taken this out of the slot
  abbrev pub answer_of : Call T → Reply → Option T → Answer T
  answer_of (Push x) r taken = push_answer x r
  answer_of (ForcePush x) r taken = force_push_answer x r taken
  answer_of Pop r taken = pop_answer r taken
  answer_of Close r taken = WasClosed (is_yes r)
  answer_of Len r taken = LenIs (length_in r)
  answer_of IsEmptyCall r taken = EmptyIs (is_yes r)
  answer_of IsFullCall r taken = FullIs (is_yes r)
  answer_of IsClosedCall r taken = ClosedIs (is_yes r)

  -- what a call leaves in the slot that it has locked
  abbrev pub stored : Call T → Option T → Option T
  stored (Push x) o = Some x
  stored (ForcePush x) o = Some x
  stored Pop o = None
  stored Close o = o
  stored Len o = o
  stored IsEmptyCall o = o
  stored IsFullCall o = o
  stored IsClosedCall o = o

  abbrev pub placed : Call T → Turn → Place T
  placed call Look = Stands call Look
  placed call (Exchange old new) = Stands call (Exchange old new)
  placed call (Unlock r) = Inside call r
  placed call CloseTurn = Stands call CloseTurn
  placed call (End r) = Stands call (End r)

  abbrev pub with_place : (ℕ → Place T) → ℕ → Place T → ℕ → Place T
  with_place places p place q = if q == p then place else places q

  abbrev pub begun : SingleWorld T → ℕ → Call T → Place T → SingleWorld T
  begun w p call Away = record w { places = with_place w.places p (Stands call (first_turn call)) }
  begun w p call (Stands other t) = w
  begun w p call (Inside other r) = w
  begun w p call (Leaving other r o) = w

  -- a step on the word
  abbrev pub moved : SingleWorld T → ℕ → Call T → Turn → SingleWorld T
  moved w p call t =
      record { word = word_after t w.word; slot = w.slot; places = with_place w.places p (placed call (turn_of call t w.word)) }

  abbrev pub gone : SingleWorld T → ℕ → Place T → SingleWorld T
  gone w p Away = w
  gone w p (Stands call Look) = moved w p call Look
  gone w p (Stands call (Exchange old new)) = moved w p call (Exchange old new)
  gone w p (Stands call CloseTurn) = moved w p call CloseTurn
  gone w p (Stands call (Unlock r)) = w
  gone w p (Stands call (End r)) = record w { places = with_place w.places p Away }
  gone w p (Inside call r) =
      record { word = w.word; slot = stored call w.slot; places = with_place w.places p (Leaving call r w.slot) }
  gone w p (Leaving call r o) = record { word = w.word - 1; slot = w.slot; places = with_place w.places p Away }

  -- a step of a party; one that is not possible changes nothing
  abbrev pub stepped : SingleWorld T → Step T → SingleWorld T
  stepped w (Begin p call) = begun w p call (w.places p)
  stepped w (Go p) = gone w p (w.places p)

  abbrev pub begin_moments : ℕ → Call T → Place T → List (Moment T)
  begin_moments p call Away = Begins p call ∷ []
  begin_moments p call (Stands other t) = []
  begin_moments p call (Inside other r) = []
  begin_moments p call (Leaving other r o) = []

  -- a call that comes to have the slot acts then
  abbrev pub turn_moments : ℕ → Call T → Option T → Turn → List (Moment T)
  turn_moments p call slot (Unlock r) = Does p (answer_of call r slot) ∷ []
  turn_moments p call slot _ = []

  abbrev pub go_moments : SingleWorld T → ℕ → Place T → List (Moment T)
  go_moments w p Away = []
  go_moments w p (Stands call Look) = turn_moments p call w.slot (turn_of call Look w.word)
  go_moments w p (Stands call (Exchange old new)) = turn_moments p call w.slot (turn_of call (Exchange old new) w.word)
  go_moments w p (Stands call CloseTurn) = Does p (WasClosed (nat_lt w.word 4)) ∷ []
  go_moments w p (Stands call (Unlock r)) = []
  go_moments w p (Stands call (End r)) = Ends p (answer_of call r None) ∷ []
  go_moments w p (Inside call r) = []
  go_moments w p (Leaving call r o) = Ends p (answer_of call r o) ∷ []

  -- the moments of the closable queue that a step is
  abbrev pub moments : SingleWorld T → Step T → List (Moment T)
  moments w (Begin p call) = begin_moments p call (w.places p)
  moments w (Go p) = go_moments w p (w.places p)

  abbrev pub run : List (Step T) → SingleWorld T → SingleWorld T
  run [] w = w
  run (step ∷ steps) w = run steps (stepped w step)

  abbrev pub trace : List (Step T) → SingleWorld T → List (Moment T)
  trace [] w = []
  trace (step ∷ steps) w = moments w step ++ trace steps (stepped w step)

  abbrev pub new_slot : SingleWorld T
  new_slot = record { word = 0; slot = None; places = λ p. Away }

  abbrev pub new_scene : Scene T
  new_scene = record { sight = record { queue = new_queue (Some 1) None; incoming = None }; calls = λ p. None }

  -- every list of steps is an execution of the closable queue, and its word is a sum of the three marks
  pub record IsClosableQueue (steps : List (Step T)) : Type 0 where
    pub last : Scene T
    pub is_run : Run new_scene (trace steps new_slot) last
    pub word : (run steps new_slot).word < 8
