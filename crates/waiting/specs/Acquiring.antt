-- What a poll of a future that wants a permit leaves and answers.
use Rattle.std.specs.Prelude.{◌≡◌, Option, Some, None, Result, Ok, Err}
use Rattle.async_task.specs.declared.poll.Poll.{Poll}
use Rattle.async_task.specs.declared.poll.Poll.TheVariants.{Ready, Pending}
use Rattle.waiting.specs.declared.semaphore.Semaphore.{Semaphore}
use Rattle.waiting.specs.declared.semaphore.acquire.Stage.{Stage}
use Rattle.waiting.specs.declared.semaphore.acquire.Stage.TheVariants.{Comes, Waits, Given}
use Rattle.waiting.specs.declared.semaphore.errors.AcquireError.{AcquireError}
use Rattle.waiting.specs.declared.semaphore.permit.Permit.{Permit}

module _ {K : Type 0} {R : Type 0} where
  -- the semaphore that it has until it gave a permit
  abbrev pub semaphore_of : Stage K R → Option (Semaphore K R)
  semaphore_of (Comes semaphore) = Some semaphore
  semaphore_of (Waits semaphore _) = Some semaphore
  semaphore_of Given = None

  -- it is among those who wait, for this semaphore
  abbrev pub WaitsFor : Semaphore K R → Stage K R → Type 0
  WaitsFor semaphore (Waits own _) = own ≡ semaphore
  WaitsFor semaphore _ = ⊥

  -- a permit, which is of its semaphore; or an error, and it may be polled again; or pending, and it waits
  abbrev pub HasPolledOf : Option (Semaphore K R) → Stage K R → Poll (Result (Permit K R) AcquireError) → Type 0
  HasPolledOf None new answer = (answer ≡ Pending) × (new ≡ Given)
  HasPolledOf (Some semaphore) new (Ready (Ok permit)) = (permit.semaphore ≡ semaphore) × (new ≡ Given)
  HasPolledOf (Some semaphore) new (Ready (Err _)) = new ≡ Comes semaphore
  HasPolledOf (Some semaphore) new Pending = WaitsFor semaphore new

  -- what a poll leaves and answers. A future that gave a permit is pending
  abbrev pub HasPolled : Stage K R → Stage K R → Poll (Result (Permit K R) AcquireError) → Type 0
  HasPolled old new answer = HasPolledOf (semaphore_of old) new answer
