-- Where nothing but memory refuses a call.
use Rattle.std.specs.Prelude.{◌≡◌, ℕ, ◌+◌, ◌<◌, ◌^◌, false, length, Some}
use Rattle.task_moves.specs.LocalTask.{references_of}
use Rattle.solo.specs.declared.names.SoloWaker.{SoloWaker}
use Rattle.solo.specs.declared.names.SoloWaker.TheVariants.{Task as OfTask, Outside}
use Rattle.solo.specs.declared.owed.Lent.{Lent}
use Rattle.plain_scheduler.specs.State.{ARun, ATick, Choice, Granted, Later, Plain, Refusal, Who}
use Rattle.plain_scheduler.specs.Moves.{task}
use Rattle.plain_scheduler.specs.Calls.{Call, Copy, Ends, Pends, PollHandle, PollTick}
use Rattle.plain_scheduler.specs.Searches.{Search, searches}
use Rattle.plain_scheduler.specs.Usual.{lies_uncalled}
use Rattle.solo_laws.specs.Road.{IsNamed, wakes}
use Rattle.solo_laws.specs.Tabled.{named}

module _ {T X : Type 0} (its : ℕ → Lent) (p : Plain T (SoloWaker X)) where
  -- somebody has a waker of it, or it is queued or polled; and it has two references fewer than it may
  abbrev pub CanBeCopied : ℕ → Type 0
  CanBeCopied f = (f < length p.futures) × (0 < references_of (task f p)) × (references_of (task f p) + 1 < 2 ^ 40)

  abbrev pub IsCopied : SoloWaker X → Type 0
  IsCopied (OfTask t) = IsNamed (named its) (length p.futures) t × CanBeCopied t.number
  IsCopied (Outside w) = Unit {0}

  -- who finds nothing is refused a second copy only where it lies down anew
  pub record FitsLying (refusal : Refusal) (who : Who) (w : SoloWaker X) : Type 0 where
    pub copied : IsCopied w
    pub anew : refusal ≡ Later → lies_uncalled who p.lying ≡ false

module _ {T X : Type 0} (its : ℕ → Lent) (c : Choice) (p : Plain T (SoloWaker X)) where
  abbrev pub FitsSearch : Refusal → Call T (SoloWaker X) → Type 0
  FitsSearch refusal call =
      (x : Search T (SoloWaker X)) → searches wakes c call p ≡ Some x → FitsLying its x.at refusal (ARun x.run) x.waker

  -- a copy of a task's waker takes no memory
  abbrev pub Fits : Refusal → Call T (SoloWaker X) → Type 0
  Fits refusal (Copy f) = (refusal ≡ Granted) × CanBeCopied its p f
  Fits refusal (PollHandle f (OfTask t)) = (refusal ≡ Granted) × IsCopied its p (OfTask t)
  Fits refusal (PollTick t w) = FitsLying its p refusal (ATick t) w
  Fits refusal Pends = FitsSearch refusal Pends
  Fits refusal Ends = FitsSearch refusal Ends
  Fits refusal call = Unit {0}
