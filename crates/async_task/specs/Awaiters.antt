-- The wakers of the one type that futures are polled with: whose each is, and when two wake the same.
use Rattle.std.specs.Prelude.{◌≡◌, ◌↔◌, Bool, true, false, Option, Some, None, IsTrue}
use Rattle.async_task.specs.Handles.{Handle}
use Rattle.async_task.specs.declared.cell.Identity.{Identity}
use Rattle.async_task.specs.declared.waker.Awaiter.{Awaiter}
use Rattle.async_task.specs.declared.waker.Awaiter.TheVariants.{Task, Lent, Outside}

-- both are there, and of one task
abbrev pub AreOfOneTask : Option Identity → Option Identity → Type 0
AreOfOneTask (Some a) (Some b) = a ≡ b
AreOfOneTask (Some a) None = ⊥
AreOfOneTask None b = ⊥

module _ {F T S M W R : Type 0} where
  -- which task it is a waker of, if of any
  abbrev pub identity_of : Awaiter F T S M W R → Option Identity
  identity_of (Task waker) = Some waker.identity
  identity_of (Lent waker) = Some waker.identity
  identity_of (Outside waker) = None

  -- whether it is a waker that a poll is lent
  abbrev pub is_lent : Awaiter F T S M W R → Bool
  is_lent (Task waker) = false
  is_lent (Lent waker) = true
  is_lent (Outside waker) = false

  -- it is this waker of a task
  abbrev pub IsTaskS : Handle M → Awaiter F T S M W R → Type 0
  IsTaskS task (Task waker) = waker ≡ task
  IsTaskS task (Lent waker) = ⊥
  IsTaskS task (Outside waker) = ⊥

  -- it is lent to a poll of the task of this handle
  abbrev pub IsLentBy : Awaiter F T S M W R → Handle M → Type 0
  IsLentBy (Task waker) task = ⊥
  IsLentBy (Lent waker) task = waker ≡ task
  IsLentBy (Outside waker) task = ⊥

  -- two of tasks are of one task; two from outside are as those answer; for one of each nothing is known
  abbrev pub WakeTheSame : (W → W → Type 0) → Awaiter F T S M W R → Awaiter F T S M W R → Type 0
  WakeTheSame is_same (Outside a) (Outside b) = is_same a b
  WakeTheSame is_same (Task a) b = AreOfOneTask (Some a.identity) (identity_of b)
  WakeTheSame is_same (Lent a) b = AreOfOneTask (Some a.identity) (identity_of b)
  WakeTheSame is_same (Outside a) (Task b) = ⊥
  WakeTheSame is_same (Outside a) (Lent b) = ⊥

  -- what the answer means: of two from outside a yes means what those make of it, and a no nothing; of all others it says exactly
  -- whether they are of one task
  abbrev pub Tells : (W → W → Type 0) → Awaiter F T S M W R → Awaiter F T S M W R → Bool → Type 0
  Tells is_same (Outside a) (Outside b) answer = IsTrue answer → is_same a b
  Tells is_same (Task a) b answer = IsTrue answer ↔ AreOfOneTask (Some a.identity) (identity_of b)
  Tells is_same (Lent a) b answer = IsTrue answer ↔ AreOfOneTask (Some a.identity) (identity_of b)
  Tells is_same (Outside a) (Task b) answer = answer ≡ false
  Tells is_same (Outside a) (Lent b) answer = answer ≡ false
