-- What each call on a closable queue answers, and how it leaves the queue: from q, the call may answer r and leave q'.
-- Every answer that the call's type has is listed.
use Rattle.std.specs.Prelude.{◌≡◌, ◌⊎◌, [], ◌∷◌, drop, Bool, true, false, not, Option, Some, None, Result, Ok, Err}
use Rattle.queue_steps.specs.declared.errors.PushError.{PushError}
use Rattle.queue_steps.specs.declared.errors.PushError.TheVariants.{Full, Closed, NoMemory}
use Rattle.queue_steps.specs.declared.errors.ForcePushError.{ForcePushError}
use Rattle.queue_steps.specs.declared.errors.ForcePushError.TheVariants.{Closed as ClosedToForce, NoMemory as NoMemoryToForce}
use Rattle.queue_steps.specs.declared.errors.PopError.{PopError}
use Rattle.queue_steps.specs.declared.errors.PopError.TheVariants.{Empty, Closed as ClosedToPop}
use Rattle.queue_steps.specs.ClosableQueue.{ClosableQueue, IsFull, HasRoom, IsSpent, IsUnspent, appended, taken, shut}

module _ {T : Type 0} where
  -- one more item may be appended
  abbrev pub Accepts : ClosableQueue T → Type 0
  Accepts q = (q.closed ≡ false) × HasRoom q × IsUnspent q

  -- it is closed and stays as it is, or the append that it was asked for closes it
  abbrev pub TurnsAway : ClosableQueue T → ClosableQueue T → Type 0
  TurnsAway q q' = ((q.closed ≡ true) × (q' ≡ q)) ⊎ ((q.closed ≡ false) × IsSpent q × (q' ≡ shut q))

  -- an unbounded queue that has no memory stays as it is
  abbrev pub RunsOut : ClosableQueue T → ClosableQueue T → Type 0
  RunsOut q q' = (q.closed ≡ false) × (q.capacity ≡ None) × IsUnspent q × (q' ≡ q)

  -- a push: closed, `Closed`; else full, `Full`; else the item is appended
  abbrev pub Pushes : ClosableQueue T → T → Result (Unit {0}) (PushError T) → ClosableQueue T → Type 0
  Pushes q x (Ok _) q' = Accepts q × (q' ≡ appended q x)
  Pushes q x (Err (Full y)) q' = (q.closed ≡ false) × IsFull q × (y ≡ x) × (q' ≡ q)
  Pushes q x (Err (Closed y)) q' = TurnsAway q q' × ((q.closed ≡ false) → HasRoom q) × (y ≡ x)
  Pushes q x (Err (NoMemory y)) q' = RunsOut q q' × (y ≡ x)

  -- a forced push: on a full and open queue the first item leaves for the new one
  abbrev pub ForcePushes : ClosableQueue T → T → Result (Option T) (ForcePushError T) → ClosableQueue T → Type 0
  ForcePushes q x (Ok None) q' = Accepts q × (q' ≡ appended q x)
  ForcePushes q x (Ok (Some y)) q' =
      (q.closed ≡ false) × IsFull q × IsUnspent q × (q.items ≡ y ∷ drop 1 q.items) × (q' ≡ appended (taken q) x)
  ForcePushes q x (Err (ClosedToForce y)) q' = TurnsAway q q' × (y ≡ x)
  ForcePushes q x (Err (NoMemoryToForce y)) q' = RunsOut q q' × (y ≡ x)

  -- a pop: the first item, else `Closed` on a closed queue, else `Empty`
  abbrev pub Pops : ClosableQueue T → Result T PopError → ClosableQueue T → Type 0
  Pops q (Ok x) q' = (q.items ≡ x ∷ drop 1 q.items) × (q' ≡ taken q)
  Pops q (Err Empty) q' = (q.items ≡ []) × (q.closed ≡ false) × (q' ≡ q)
  Pops q (Err ClosedToPop) q' = (q.items ≡ []) × (q.closed ≡ true) × (q' ≡ q)

  -- a close: true where this call closed the queue
  abbrev pub Closes : ClosableQueue T → Bool → ClosableQueue T → Type 0
  Closes q first q' = (first ≡ not q.closed) × (q' ≡ shut q)
