-- A list of calls of one party on a new slot, ring of two places and chain, and what they answer: what the laws of order
-- and of closing speak of happens there.
use Rattle.std.specs.Prelude.{◌≡◌, List, [], ◌∷◌, ◌++◌, true, false, Some, None, Ok, Err}
use Rattle.queue_steps.specs.declared.errors.PushError.TheVariants.{Full, Closed}
use Rattle.queue_steps.specs.declared.errors.PopError.TheVariants.{Closed as ClosedToPop}
use Rattle.queue_steps.specs.Calls.{
  Call,
  Push,
  ForcePush,
  Pop,
  Close,
  IsClosedCall,
  Answer,
  Pushed,
  ForcePushed,
  Popped,
  WasClosed,
  ClosedIs,
}
use Rattle.queue_laws.specs.Moments.{Moment}
use Rattle.queue_laws.specs.SingleSteps.{Step, Begin}
use Rattle.queue_laws.specs.UnboundedSteps.{Step as ChainStep, Begin as BeginOnChain}
use Rattle.queue_laws.specs.LoneCalls.{goes, goes_on_chain}
use Rattle.queue_laws.specs.Traces.{on_slot, on_ring, on_chain, answers_in}
use Rattle.queue_laws.specs.Order.{appended_in, left_in}
use Rattle.queue_laws.specs.Closing.{closings_in}

module _ {T : Type 0} where
  -- party 0 makes these calls, one after another, of which none needs more than seven steps
  abbrev pub alone : List (Call T) → List (Step T)
  alone [] = []
  alone (call ∷ calls) = Begin 0 call ∷ (goes 0 7 ++ alone calls)

  abbrev pub alone_on_chain : List (Call T) → List (ChainStep T)
  alone_on_chain [] = []
  alone_on_chain (call ∷ calls) = BeginOnChain 0 call ∷ (goes_on_chain 0 7 ++ alone_on_chain calls)

  -- calls answered so, of which one close was true, and these items went in and came out, in this order
  pub record Shows (ms : List (Moment T)) (answers : List (Answer T)) (items : List T) : Type 0 where
    pub answered : answers_in ms ≡ answers
    pub appended : appended_in ms ≡ items
    pub left : left_in ms ≡ items
    pub closings : closings_in ms ≡ 1

  -- three pushes, of which the last is forced, a close, and what comes after it
  abbrev pub shown_calls : T → T → T → List (Call T)
  shown_calls x y z =
      Push x ∷ Push y ∷ ForcePush z ∷ Close ∷ Push x ∷ Pop ∷ Pop ∷ Pop ∷ Pop ∷ Close ∷ IsClosedCall ∷ []

  abbrev pub ShownOnSlot : T → T → T → Type 0
  ShownOnSlot x y z = Shows (on_slot (alone (shown_calls x y z)))
      (Pushed (Ok tt) ∷ Pushed (Err (Full y)) ∷ ForcePushed (Ok (Some x)) ∷ WasClosed true ∷ Pushed (Err (Closed x)) ∷ Popped (Ok z)
      ∷ Popped (Err ClosedToPop) ∷ Popped (Err ClosedToPop) ∷ Popped (Err ClosedToPop) ∷ WasClosed false ∷ ClosedIs true ∷ [])
      (x ∷ z ∷ [])

  abbrev pub ShownOnRing : T → T → T → Type 0
  ShownOnRing x y z = Shows (on_ring 2 4 (alone (shown_calls x y z)))
      (Pushed (Ok tt) ∷ Pushed (Ok tt) ∷ ForcePushed (Ok (Some x)) ∷ WasClosed true ∷ Pushed (Err (Closed x)) ∷ Popped (Ok y)
      ∷ Popped (Ok z) ∷ Popped (Err ClosedToPop) ∷ Popped (Err ClosedToPop) ∷ WasClosed false ∷ ClosedIs true ∷ [])
      (x ∷ y ∷ z ∷ [])

  abbrev pub ShownOnChain : T → T → T → Type 0
  ShownOnChain x y z = Shows (on_chain (alone_on_chain (shown_calls x y z)))
      (Pushed (Ok tt) ∷ Pushed (Ok tt) ∷ ForcePushed (Ok None) ∷ WasClosed true ∷ Pushed (Err (Closed x)) ∷ Popped (Ok x)
      ∷ Popped (Ok y) ∷ Popped (Ok z) ∷ Popped (Err ClosedToPop) ∷ WasClosed false ∷ ClosedIs true ∷ [])
      (x ∷ y ∷ z ∷ [])

  -- party 1 begins a forced push on a full ring and finds it full; party 0 closes the ring; then party 1 goes on, and its
  -- item is appended after that close; party 0 takes the two items
  abbrev pub ShownBeside : T → T → T → Type 0
  ShownBeside x y z = Shows
      (on_ring 2 4 (alone (Push x ∷ Push y ∷ []) ++ (Begin 1 (ForcePush z) ∷ goes 1 3 ++ (alone (Close ∷ []) ++ (goes 1 4
      ++ alone (Pop ∷ Pop ∷ Pop ∷ []))))))
      (Pushed (Ok tt) ∷ Pushed (Ok tt) ∷ WasClosed true ∷ ForcePushed (Ok (Some x)) ∷ Popped (Ok y) ∷ Popped (Ok z)
      ∷ Popped (Err ClosedToPop) ∷ [])
      (x ∷ y ∷ z ∷ [])
