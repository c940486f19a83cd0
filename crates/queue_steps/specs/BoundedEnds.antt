-- Where a lone call on a ring comes to by looking alone. n is the number of places, m the mark above their indexes.
use Rattle.std.specs.Prelude.{◌≡◌, ℕ, ◌+◌, ◌<◌, true, false}
use Rattle.queue_steps.specs.declared.steps.bounded.PushTurn.{PushTurn}
use Rattle.queue_steps.specs.declared.steps.bounded.PushTurn.TheVariants as push
use Rattle.queue_steps.specs.declared.steps.bounded.ForcePushTurn.{ForcePushTurn}
use Rattle.queue_steps.specs.declared.steps.bounded.ForcePushTurn.TheVariants as force_push
use Rattle.queue_steps.specs.declared.steps.bounded.PopTurn.{PopTurn}
use Rattle.queue_steps.specs.declared.steps.bounded.PopTurn.TheVariants as pop
use Rattle.queue_steps.specs.ClosableQueue.{most_accepted}
use Rattle.queue_steps.specs.Bounded.{count_at, is_marked}

module _ (n m tail head : ℕ) where
  abbrev pub IsOpen : Type 0
  IsOpen = is_marked m tail ≡ false

  abbrev pub HasPlace : Type 0
  HasPlace = count_at n m tail < count_at n m head + n

  abbrev pub HasNoPlace : Type 0
  HasNoPlace = count_at n m tail ≡ count_at n m head + n

  -- a push that looked at the tail and at the stamp there is closed, or has a place, or finds the ring full
  abbrev pub PushEnds : PushTurn → Type 0
  PushEnds push.Tail = ⊥
  PushEnds (push.Stamp t) = ⊥
  PushEnds (push.HeadFor t) = (t ≡ tail) × IsOpen × HasNoPlace
  PushEnds (push.Append t) = (t ≡ tail) × IsOpen × HasPlace × (count_at n m tail < most_accepted)
  PushEnds (push.Spend t) = (t ≡ tail) × IsOpen × HasPlace × (count_at n m tail ≡ most_accepted)
  PushEnds push.Closed = is_marked m tail ≡ true

  -- a forced push displaces on a full ring, but that one item too many closes it
  abbrev pub ForcePushEnds : ForcePushTurn → Type 0
  ForcePushEnds (force_push.Push push.Tail) = ⊥
  ForcePushEnds (force_push.Push (push.Stamp t)) = ⊥
  ForcePushEnds (force_push.Push (push.HeadFor t)) = ⊥
  ForcePushEnds (force_push.Push (push.Append t)) = PushEnds (push.Append t)
  ForcePushEnds (force_push.Push (push.Spend t)) = (t ≡ tail) × IsOpen × (count_at n m tail ≡ most_accepted)
  ForcePushEnds (force_push.Push push.Closed) = is_marked m tail ≡ true
  ForcePushEnds (force_push.Displace t) = (t ≡ tail) × IsOpen × HasNoPlace × (count_at n m tail < most_accepted)

  abbrev pub PopEnds : PopTurn → Type 0
  PopEnds pop.Head = ⊥
  PopEnds (pop.Stamp h) = ⊥
  PopEnds (pop.TailFor h) = ⊥
  PopEnds (pop.Take h) = (h ≡ head) × (count_at n m head < count_at n m tail)
  PopEnds pop.Empty = (count_at n m tail ≡ count_at n m head) × IsOpen
  PopEnds pop.Closed = (count_at n m tail ≡ count_at n m head) × (is_marked m tail ≡ true)
