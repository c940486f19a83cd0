-- A chain on which several parties call, each call one section of one lock, and the moments that its steps are.
use Rattle.std.specs.Prelude.{◌≡◌, ℕ, ◌-◌, List, [], ◌∷◌, ◌++◌, false, not, nat_le, Some, None, Ok, Err, ◌==◌, if◌then◌else◌}
use Rattle.queue_steps.specs.declared.errors.PushError.TheVariants.{Closed as ClosedToPush}
use Rattle.queue_steps.specs.declared.errors.ForcePushError.TheVariants.{Closed as ClosedToForce}
use Rattle.queue_steps.specs.declared.errors.PopError.TheVariants.{Empty as EmptyToPop, Closed as ClosedToPop}
use Rattle.queue_steps.specs.UnboundedTurns.{Turn, Append, Link, Take, Unlink, Spend, End, Close as CloseTurn, push_turn, pop_turn}
use Rattle.queue_steps.specs.UnboundedTurns.{close_turn, ends_after}
use Rattle.queue_steps.specs.declared.steps.unbounded.Ends.{Ends}
use Rattle.queue_steps.specs.ClosableQueue.{new_queue}
use Rattle.queue_steps.specs.Calls.{Call, Push, ForcePush, Pop, Close, Len, IsEmptyCall, IsFullCall, IsClosedCall, Answer, Pushed}
use Rattle.queue_steps.specs.Calls.{ForcePushed, Popped, WasClosed, LenIs, EmptyIs, FullIs, ClosedIs}
use Rattle.queue_laws.specs.Moments.{Moment, Begins, Does, Ends as EndsCall, Scene, Run}
use Rattle.queue_steps.specs.Unbounded.{onto_last, chain_queue, UnboundedAtRest}

-- where a party stands: in no call, before its section, or after it
pub data Place (T : Type 0) : Type 0 where
  Away : Place T
  Calls : Call T → Place T
  Returns : Answer T → Place T

pub record UnboundedWorld (T : Type 0) : Type 0 where
  pub ends : Ends
  pub blocks : List (List T)
  pub places : ℕ → Place T

pub data Step (T : Type 0) : Type 0 where
  Begin : ℕ → Call T → Step T
  Go : ℕ → Step T

-- what a section leaves, and what its call will answer
pub record Section (T : Type 0) : Type 0 where
  pub ends : Ends
  pub blocks : List (List T)
  pub answer : Answer T

module _ {T : Type 0} where
  abbrev pub left : Ends → List (List T) → Answer T → Section T
  left ends blocks answer = record { ends = ends; blocks = blocks; answer = answer }

  -- a push, plain or forced, which answers `done` or `closed`
  abbrev pub push_section : Turn → Ends → List (List T) → T → Answer T → Answer T → Section T
  push_section Append e bs x done closed = left (ends_after e Append) (onto_last bs x) done
  push_section Link e bs x done closed = left (ends_after e Link) (bs ++ (x ∷ []) ∷ []) done
  push_section Spend e bs x done closed = left (ends_after e Spend) bs closed
  push_section Take e bs x done closed = left e bs closed
  push_section Unlink e bs x done closed = left e bs closed
  push_section CloseTurn e bs x done closed = left e bs closed
  push_section (End reply) e bs x done closed = left e bs closed

  -- the first item of the first block; a block without one is never read
  abbrev pub take_section : Ends → List (List T) → Section T
  take_section e [] = left e [] (Popped (Err EmptyToPop))
  take_section e ([] ∷ bs) = left e ([] ∷ bs) (Popped (Err EmptyToPop))
  take_section e ((y ∷ b) ∷ bs) = left (ends_after e Take) (b ∷ bs) (Popped (Ok y))

  abbrev pub unlink_section : Ends → List (List T) → Section T
  unlink_section e [] = left e [] (Popped (Err EmptyToPop))
  unlink_section e ([] ∷ bs) = left e ([] ∷ bs) (Popped (Err EmptyToPop))
  unlink_section e ((y ∷ b) ∷ bs) = left (ends_after e Unlink) bs (Popped (Ok y))

  abbrev pub pop_section : Turn → Ends → List (List T) → Section T
  pop_section Take e bs = take_section e bs
  pop_section Unlink e bs = unlink_section e bs
  pop_section Append e bs = left e bs (Popped (Err EmptyToPop))
  pop_section Link e bs = left e bs (Popped (Err EmptyToPop))
  pop_section Spend e bs = left e bs (Popped (Err EmptyToPop))
  pop_section CloseTurn e bs = left e bs (Popped (Err EmptyToPop))
  pop_section (End reply) e bs = left e bs (Popped (Err (if e.closed then ClosedToPop else EmptyToPop)))

  abbrev pub section : Ends → List (List T) → Call T → Section T
  section e bs (Push x) = push_section (push_turn e) e bs x (Pushed (Ok tt)) (Pushed (Err (ClosedToPush x)))
  section e bs (ForcePush x) = push_section (push_turn e) e bs x (ForcePushed (Ok None)) (ForcePushed (Err (ClosedToForce x)))
  section e bs Pop = pop_section (pop_turn e) e bs
  section e bs Close = left (ends_after e (close_turn e)) bs (WasClosed (not e.closed))
  section e bs Len = left e bs (LenIs (e.tail - e.head))
  section e bs IsEmptyCall = left e bs (EmptyIs (nat_le e.tail e.head))
  section e bs IsFullCall = left e bs (FullIs false)
  section e bs IsClosedCall = left e bs (ClosedIs e.closed)

  abbrev pub with_place : (ℕ → Place T) → ℕ → Place T → ℕ → Place T
  with_place places p place q = if q == p then place else places q

  abbrev pub begun : UnboundedWorld T → ℕ → Call T → Place T → UnboundedWorld T
  begun w p call Away = record w { places = with_place w.places p (Calls call) }
  begun w p call (Calls other) = w
  begun w p call (Returns answer) = w

  abbrev pub gone : UnboundedWorld T → ℕ → Place T → UnboundedWorld T
  gone w p Away = w
  gone w p (Calls call) = record {
    ends = (section w.ends w.blocks call).ends;
    blocks = (section w.ends w.blocks call).blocks;
    places = with_place w.places p (Returns (section w.ends w.blocks call).answer);
  }
  gone w p (Returns answer) = record w { places = with_place w.places p Away }

  -- a step of a party; one that is not possible changes nothing
  abbrev pub stepped : UnboundedWorld T → Step T → UnboundedWorld T
  stepped w (Begin p call) = begun w p call (w.places p)
  stepped w (Go p) = gone w p (w.places p)

  abbrev pub begin_moments : ℕ → Call T → Place T → List (Moment T)
  begin_moments p call Away = Begins p call ∷ []
  begin_moments p call (Calls other) = []
  begin_moments p call (Returns answer) = []

  abbrev pub go_moments : UnboundedWorld T → ℕ → Place T → List (Moment T)
  go_moments w p Away = []
  go_moments w p (Calls call) = Does p (section w.ends w.blocks call).answer ∷ []
  go_moments w p (Returns answer) = EndsCall p answer ∷ []

  -- the moments of the closable queue that a step is
  abbrev pub moments : UnboundedWorld T → Step T → List (Moment T)
  moments w (Begin p call) = begin_moments p call (w.places p)
  moments w (Go p) = go_moments w p (w.places p)

  abbrev pub run : List (Step T) → UnboundedWorld T → UnboundedWorld T
  run [] w = w
  run (step ∷ steps) w = run steps (stepped w step)

  abbrev pub trace : List (Step T) → UnboundedWorld T → List (Moment T)
  trace [] w = []
  trace (step ∷ steps) w = moments w step ++ trace steps (stepped w step)

  abbrev pub new_chain : UnboundedWorld T
  new_chain = record { ends = record { tail = 0; head = 0; closed = false }; blocks = []; places = λ p. Away }

  abbrev pub new_scene : Scene T
  new_scene = record { sight = record { queue = new_queue None (Some 0); incoming = None }; calls = λ p. None }

  -- every list of steps is an execution of the closable queue, which comes to the queue that the chain is then; its numbers
  -- stay within 2^61, and its blocks lie in order
  pub record IsClosableQueue (steps : List (Step T)) : Type 0 where
    pub last : Scene T
    pub is_run : Run new_scene (trace steps new_chain) last
    pub queue : last.sight.queue ≡ chain_queue (run steps new_chain).ends (run steps new_chain).blocks
    pub rest : UnboundedAtRest (run steps new_chain).ends (run steps new_chain).blocks None
