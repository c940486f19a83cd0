-- What stays so once a queue is closed.
use Rattle.std.specs.Prelude.{◌≡◌, ℕ, ◌+◌, ◌≤◌, List, [], ◌∷◌, ◌++◌, Bool, true, false, Ok, Err}
use Rattle.queue_steps.specs.declared.errors.PushError.TheVariants.{Full, Closed, NoMemory}
use Rattle.queue_steps.specs.declared.errors.ForcePushError.TheVariants.{Closed as ClosedToForce, NoMemory as NoMemoryToForce}
use Rattle.queue_steps.specs.declared.errors.PopError.TheVariants.{Empty, Closed as ClosedToPop}
use Rattle.queue_steps.specs.Calls.{Call, Answer, Pushed, ForcePushed, Popped, WasClosed, ClosedIs}
use Rattle.queue_laws.specs.Moments.{Moment, Begins, Does, Displaces, Ends}
use Rattle.queue_laws.specs.Traces.{AnswersLater}
use Rattle.queue_laws.specs.Order.{left_in}

module _ {T : Type 0} where
  -- an answer that only a closed queue gives, or a close, after which it is closed
  abbrev pub TellsClosed : Answer T → Type 0
  TellsClosed (Pushed (Err (Closed x))) = Unit {0}
  TellsClosed (ForcePushed (Err (ClosedToForce x))) = Unit {0}
  TellsClosed (Popped (Err ClosedToPop)) = Unit {0}
  TellsClosed (WasClosed b) = Unit {0}
  TellsClosed (ClosedIs true) = Unit {0}
  TellsClosed _ = ⊥

  -- an answer that only an open queue gives: an item is accepted, or refused for another reason; a pop finds it empty and
  -- not closed; a close is the one that closes it; it isn't closed
  abbrev pub TellsOpen : Answer T → Type 0
  TellsOpen (Pushed (Ok u)) = Unit {0}
  TellsOpen (Pushed (Err (Full x))) = Unit {0}
  TellsOpen (Pushed (Err (NoMemory x))) = Unit {0}
  TellsOpen (ForcePushed (Ok o)) = Unit {0}
  TellsOpen (ForcePushed (Err (NoMemoryToForce x))) = Unit {0}
  TellsOpen (Popped (Err Empty)) = Unit {0}
  TellsOpen (WasClosed true) = Unit {0}
  TellsOpen (ClosedIs false) = Unit {0}
  TellsOpen _ = ⊥

  -- Once closed always closed, after an answer that tells so.
  pub record StaysClosed (ms : List (Moment T)) : Type 0 where
    -- no call acts later as on an open queue
    pub moments : (p q : ℕ) (a b : Answer T) (before since after : List (Moment T))
        → ms ≡ before ++ (Ends p a ∷ (since ++ (Does q b ∷ after))) → TellsClosed a → TellsOpen b → ⊥
    -- no forced push that begins later displaces an item, as one may that found the queue open and full before
    pub displaced : (p q : ℕ) (a : Answer T) (call : Call T) (y : T) (before since during after : List (Moment T))
        → ms ≡ before ++ (Ends p a ∷ (since ++ (Begins q call ∷ (during ++ (Displaces q y ∷ after))))) → TellsClosed a → ⊥
    -- no call that begins later is told that the queue is open
    pub calls : (a b : Answer T) → AnswersLater ms a b → TellsClosed a → TellsOpen b → ⊥

  -- Nothing comes after a pop that answered `Closed`.
  pub record GivesNoMore (ms : List (Moment T)) : Type 0 where
    -- no item leaves later
    pub moments : (p : ℕ) (before after : List (Moment T)) → ms ≡ before ++ (Ends p (Popped (Err ClosedToPop)) ∷ after)
        → left_in after ≡ []
    -- no pop that begins later gives an item
    pub calls : (x : T) → AnswersLater ms (Popped (Err ClosedToPop)) (Popped (Ok x)) → ⊥

  -- how many closes answered true
  abbrev pub closings_in : List (Moment T) → ℕ
  closings_in [] = 0
  closings_in (Ends p (WasClosed true) ∷ ms) = 1 + closings_in ms
  closings_in (m ∷ ms) = closings_in ms

  -- At most one close answers true.
  pub record ClosesOnce (ms : List (Moment T)) : Type 0 where
    pub once : closings_in ms ≤ 1
    -- it is the first that acts
    pub moments : (p q : ℕ) (b : Bool) (before between after : List (Moment T))
        → ms ≡ before ++ (Does p (WasClosed b) ∷ (between ++ (Does q (WasClosed true) ∷ after))) → ⊥
    -- and not one that begins after a close has ended
    pub calls : (b : Bool) → AnswersLater ms (WasClosed b) (WasClosed true) → ⊥
