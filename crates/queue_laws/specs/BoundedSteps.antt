-- A ring on which several parties call, step by step, and the moments that its steps are. A step loads or exchanges one
-- word, or is done in a place by the party whose own it is. n is the number of places, m the mark above their indexes.
use Rattle.std.specs.Prelude.{◌≡◌, ℕ, ◌+◌, ◌*◌, ◌%◌, ◌<◌, ◌^◌, List, [], ◌∷◌, ◌++◌, length, not, Option, Some, None, IsSome, ◌==◌}
use Rattle.std.specs.Prelude.{if◌then◌else◌}
use Rattle.queue_steps.specs.declared.bounded.Slot.{Slot}
use Rattle.queue_steps.specs.BoundedTurns.{Turn, Tail, Head, Stamp, HeadFor, Append, Take, Displace, Advance, Spend, Fill, Drain, End}
use Rattle.queue_steps.specs.BoundedTurns.{Close as CloseTurn, push_turn, force_push_turn, pop_turn, close_turn, len_turn, is_empty_turn}
use Rattle.queue_steps.specs.BoundedTurns.{is_full_turn, is_closed_turn}
use Rattle.queue_steps.specs.Reply.{Reply, Done, Displaced, Closed}
use Rattle.queue_steps.specs.ClosableQueue.{new_queue}
use Rattle.queue_steps.specs.Calls.{Call, Push, ForcePush, Pop, Close, Len, IsEmptyCall, IsFullCall, IsClosedCall, WasClosed}
use Rattle.queue_laws.specs.Moments.{Moment, Begins, Does, Displaces, Arrives, Ends, Scene, Run}
use Rattle.queue_steps.specs.Bounded.{next_at, advanced_at, count_at, is_marked}
use Rattle.queue_laws.specs.SingleSteps.{Step, Begin, Go, answer_of, stored}

-- where a party stands: in no call, before its next step, or after its step in a place, with what it took out, before it
-- sets the stamp there
pub data Place (T : Type 0) : Type 0 where
  Away : Place T
  Stands : Call T → Turn → Place T
  Leaving : Call T → Turn → Option T → Place T

pub record BoundedWorld (T : Type 0) : Type 0 where
  pub tail : ℕ
  pub head : ℕ
  pub slots : ℕ → Slot T
  pub places : ℕ → Place T

-- a function with one value changed
abbrev pub with_at : {A : Type 0} → (ℕ → A) → ℕ → A → ℕ → A
with_at f i x j = if j == i then x else f j

-- how a call ends that has a place of its own
abbrev pub reply_of : Turn → Reply
reply_of (Fill t r) = r
reply_of (Advance t) = Displaced
reply_of _ = Done

module _ (n m : ℕ) where
  -- the tail after a step; a move that a displacement owes keeps the mark, whoever set it
  abbrev pub tail_after : Turn → ℕ → ℕ
  tail_after (Append t) tail = if tail == t then next_at n m t else tail
  tail_after (Advance t) tail = advanced_at n m t tail
  tail_after (Spend t) tail = if tail == t then tail + m else tail
  tail_after CloseTurn tail = if is_marked m tail then tail else tail + m
  tail_after _ tail = tail

  abbrev pub head_after : Turn → ℕ → ℕ
  head_after (Take h) head = if head == h then next_at n m h else head
  head_after (Displace t) head = if head + 2 * m == t then next_at n m head else head
  head_after _ head = head

  -- the stamp that a call leaves at its place: filled at this tail, or read at this head and free for the next lap
  abbrev pub stamp_after : Turn → ℕ
  stamp_after (Drain h) = h + 2 * m
  stamp_after (Fill t r) = t + 1
  stamp_after _ = 0

module _ {T : Type 0} (n m : ℕ) where
  abbrev pub turn_of : Call T → Turn → ℕ → Turn
  turn_of (Push x) = push_turn n m
  turn_of (ForcePush x) = force_push_turn n m
  turn_of Pop = pop_turn n m
  turn_of Close = close_turn n m
  turn_of Len = len_turn n m
  turn_of IsEmptyCall = is_empty_turn n m
  turn_of IsFullCall = is_full_turn n m
  turn_of IsClosedCall = is_closed_turn n m

  abbrev pub first_turn : Call T → Turn
  first_turn (Push x) = Tail
  first_turn (ForcePush x) = Tail
  first_turn Pop = Head
  first_turn Close = CloseTurn
  first_turn Len = Tail
  first_turn IsEmptyCall = Head
  first_turn IsFullCall = Tail
  first_turn IsClosedCall = Tail

  -- the one word that a step loads or exchanges
  abbrev pub found_by : BoundedWorld T → Turn → ℕ
  found_by w Head = w.head
  found_by w (HeadFor t) = w.head
  found_by w (Take h) = w.head
  found_by w (Displace t) = w.head
  found_by w (Stamp t) = (w.slots (t % m)).stamp
  found_by w _ = w.tail

  abbrev pub begun : BoundedWorld T → ℕ → Call T → Place T → BoundedWorld T
  begun w p call Away = record w { places = with_at w.places p (Stands call (first_turn call)) }
  begun w p call (Stands other t) = w
  begun w p call (Leaving other t o) = w

  -- a step on a word
  abbrev pub moved : BoundedWorld T → ℕ → Call T → Turn → BoundedWorld T
  moved w p call t = record {
    tail = tail_after n m t w.tail;
    head = head_after n m t w.head;
    slots = w.slots;
    places = with_at w.places p (Stands call (turn_of call t (found_by w t)));
  }

  -- a step in the place at a tail or a head
  abbrev pub entered : BoundedWorld T → ℕ → Call T → Turn → ℕ → BoundedWorld T
  entered w p call t word = record w {
    slots = with_at w.slots (word % m) (record { stamp = (w.slots (word % m)).stamp; value = stored call (w.slots (word % m)).value });
    places = with_at w.places p (Leaving call t (w.slots (word % m)).value);
  }

  -- the stamp of that place is set, and the call ends
  abbrev pub left : BoundedWorld T → ℕ → Turn → ℕ → BoundedWorld T
  left w p t word = record w {
    slots = with_at w.slots (word % m) (record { stamp = stamp_after n m t; value = (w.slots (word % m)).value });
    places = with_at w.places p Away;
  }

  abbrev pub stood : BoundedWorld T → ℕ → Call T → Turn → BoundedWorld T
  stood w p call (Fill t r) = entered w p call (Fill t r) t
  stood w p call (Drain h) = entered w p call (Drain h) h
  stood w p call (End r) = record w { places = with_at w.places p Away }
  stood w p call t = moved w p call t

  abbrev pub leaves : BoundedWorld T → ℕ → Turn → BoundedWorld T
  leaves w p (Fill t r) = left w p (Fill t r) t
  leaves w p (Drain h) = left w p (Drain h) h
  leaves w p _ = w

  abbrev pub gone : BoundedWorld T → ℕ → Place T → BoundedWorld T
  gone w p Away = w
  gone w p (Stands call t) = stood w p call t
  gone w p (Leaving call t o) = leaves w p t

  -- a step of a party; one that is not possible changes nothing
  abbrev pub stepped : BoundedWorld T → Step T → BoundedWorld T
  stepped w (Begin p call) = begun w p call (w.places p)
  stepped w (Go p) = gone w p (w.places p)

  abbrev pub begin_moments : ℕ → Call T → Place T → List (Moment T)
  begin_moments p call Away = Begins p call ∷ []
  begin_moments p call (Stands other t) = []
  begin_moments p call (Leaving other t o) = []

  abbrev pub displaced : ℕ → Option T → List (Moment T)
  displaced p None = []
  displaced p (Some y) = Displaces p y ∷ []

  -- an exchange that hits is the moment of its call; an item that a call takes is the one in the place that it comes to own
  abbrev pub turn_moments : BoundedWorld T → ℕ → Call T → Turn → List (Moment T)
  turn_moments w p call (Append t) = if w.tail == t then Does p (answer_of call Done None) ∷ [] else []
  turn_moments w p call (Take h) = if w.head == h then Does p (answer_of call Done (w.slots (h % m)).value) ∷ [] else []
  turn_moments w p call (Displace t) = if w.head + 2 * m == t then displaced p (w.slots (t % m)).value else []
  turn_moments w p call (Advance t) = Arrives p ∷ []
  turn_moments w p call (Spend t) = if w.tail == t then Does p (answer_of call Closed None) ∷ [] else []
  turn_moments w p call CloseTurn = Does p (WasClosed (not (is_marked m w.tail))) ∷ []
  turn_moments w p call (End r) = Ends p (answer_of call r None) ∷ []
  turn_moments w p call _ = []

  abbrev pub go_moments : BoundedWorld T → ℕ → Place T → List (Moment T)
  go_moments w p Away = []
  go_moments w p (Stands call t) = turn_moments w p call t
  go_moments w p (Leaving call t o) = Ends p (answer_of call (reply_of t) o) ∷ []

  -- the moments of the closable queue that a step is
  abbrev pub moments : BoundedWorld T → Step T → List (Moment T)
  moments w (Begin p call) = begin_moments p call (w.places p)
  moments w (Go p) = go_moments w p (w.places p)

  abbrev pub run : List (Step T) → BoundedWorld T → BoundedWorld T
  run [] w = w
  run (step ∷ steps) w = run steps (stepped w step)

  abbrev pub trace : List (Step T) → BoundedWorld T → List (Moment T)
  trace [] w = []
  trace (step ∷ steps) w = moments w step ++ trace steps (stepped w step)

  abbrev pub new_ring : BoundedWorld T
  new_ring = record { tail = 0; head = 0; slots = λ i. record { stamp = i; value = None }; places = λ p. Away }

  abbrev pub new_scene : Scene T
  new_scene = record { sight = record { queue = new_queue (Some n) (Some 0); incoming = None }; calls = λ p. None }

  -- in each place that a party is about to read there is an item
  abbrev pub IsNeverEmpty : BoundedWorld T → Type 0
  IsNeverEmpty w = (p h : ℕ) (call : Call T) → w.places p ≡ Stands call (Drain h) → IsSome (w.slots (h % m)).value

  -- every list of steps is an execution of the closable queue, which comes to the queue that the words of the ring tell of; no
  -- word wraps, and no place is read empty
  pub record IsClosableQueue (steps : List (Step T)) : Type 0 where
    pub last : Scene T
    pub is_run : Run new_scene (trace steps new_ring) last
    pub closed : last.sight.queue.closed ≡ is_marked m (run steps new_ring).tail
    pub accepted : last.sight.queue.accepted ≡ Some (count_at n m (run steps new_ring).tail)
    pub items : length last.sight.queue.items + count_at n m (run steps new_ring).head ≡ count_at n m (run steps new_ring).tail
    pub tail : (run steps new_ring).tail < 2 ^ 64
    pub head : (run steps new_ring).head < 2 ^ 64
    pub stamps : (i : ℕ) → i < n → ((run steps new_ring).slots i).stamp < 2 ^ 64
    pub never_empty : IsNeverEmpty (run steps new_ring)
