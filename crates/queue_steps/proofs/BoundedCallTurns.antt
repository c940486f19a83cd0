-- The turn of a call on a ring, by what it is among the turns of all.
use Rattle.std.proofs.Common.{◌≡◌, ℕ, refl, ap}
use Rattle.queue_steps.specs.Reply.{Empty, Closed}
use Rattle.queue_steps.specs.BoundedTurns.{Tail, Stamp, HeadFor, TailFor, Append, Take, Displace, Spend, End}
use Rattle.queue_steps.specs.BoundedCallTurns.{of_push, of_force_push, of_pop}
use Rattle.queue_steps.specs.declared.steps.bounded.PushTurn.{PushTurn}
use Rattle.queue_steps.specs.declared.steps.bounded.PushTurn.TheVariants as push
use Rattle.queue_steps.specs.declared.steps.bounded.ForcePushTurn.{ForcePushTurn}
use Rattle.queue_steps.specs.declared.steps.bounded.ForcePushTurn.TheVariants as force_push
use Rattle.queue_steps.specs.declared.steps.bounded.PopTurn.{PopTurn}
use Rattle.queue_steps.specs.declared.steps.bounded.PopTurn.TheVariants as pop

pub tail_is : (t : PushTurn) → of_push t ≡ Tail → t ≡ push.Tail
tail_is push.Tail e = refl
tail_is (push.Stamp v) e = cc
tail_is (push.HeadFor v) e = cc
tail_is (push.Append v) e = cc
tail_is (push.Spend v) e = cc
tail_is push.Closed e = cc

pub stamp_is : (t : PushTurn) (w : ℕ) → of_push t ≡ Stamp w → t ≡ push.Stamp w
stamp_is push.Tail w e = cc
stamp_is (push.Stamp v) w e = cc
stamp_is (push.HeadFor v) w e = cc
stamp_is (push.Append v) w e = cc
stamp_is (push.Spend v) w e = cc
stamp_is push.Closed w e = cc

pub head_for_is : (t : PushTurn) (w : ℕ) → of_push t ≡ HeadFor w → t ≡ push.HeadFor w
head_for_is push.Tail w e = cc
head_for_is (push.Stamp v) w e = cc
head_for_is (push.HeadFor v) w e = cc
head_for_is (push.Append v) w e = cc
head_for_is (push.Spend v) w e = cc
head_for_is push.Closed w e = cc

pub append_is : (t : PushTurn) (w : ℕ) → of_push t ≡ Append w → t ≡ push.Append w
append_is push.Tail w e = cc
append_is (push.Stamp v) w e = cc
append_is (push.HeadFor v) w e = cc
append_is (push.Append v) w e = cc
append_is (push.Spend v) w e = cc
append_is push.Closed w e = cc

pub spend_is : (t : PushTurn) (w : ℕ) → of_push t ≡ Spend w → t ≡ push.Spend w
spend_is push.Tail w e = cc
spend_is (push.Stamp v) w e = cc
spend_is (push.HeadFor v) w e = cc
spend_is (push.Append v) w e = cc
spend_is (push.Spend v) w e = cc
spend_is push.Closed w e = cc

pub closed_is : (t : PushTurn) → of_push t ≡ End Closed → t ≡ push.Closed
closed_is push.Tail e = cc
closed_is (push.Stamp v) e = cc
closed_is (push.HeadFor v) e = cc
closed_is (push.Append v) e = cc
closed_is (push.Spend v) e = cc
closed_is push.Closed e = refl

pub displace_is : (t : ForcePushTurn) (w : ℕ) → of_force_push t ≡ Displace w → t ≡ force_push.Displace w
displace_is (force_push.Push push.Tail) w e = cc
displace_is (force_push.Push (push.Stamp v)) w e = cc
displace_is (force_push.Push (push.HeadFor v)) w e = cc
displace_is (force_push.Push (push.Append v)) w e = cc
displace_is (force_push.Push (push.Spend v)) w e = cc
displace_is (force_push.Push push.Closed) w e = cc
displace_is (force_push.Displace v) w e = cc

pub spend_too : (t : ForcePushTurn) (w : ℕ) → of_force_push t ≡ Spend w → t ≡ force_push.Push (push.Spend w)
spend_too (force_push.Push t) w e = ap force_push.Push (spend_is t w e)
spend_too (force_push.Displace v) w e = cc

pub take_is : (t : PopTurn) (w : ℕ) → of_pop t ≡ Take w → t ≡ pop.Take w
take_is pop.Head w e = cc
take_is (pop.Stamp v) w e = cc
take_is (pop.TailFor v) w e = cc
take_is (pop.Take v) w e = cc
take_is pop.Empty w e = cc
take_is pop.Closed w e = cc

pub tail_for_is : (t : PopTurn) (w : ℕ) → of_pop t ≡ TailFor w → t ≡ pop.TailFor w
tail_for_is pop.Head w e = cc
tail_for_is (pop.Stamp v) w e = cc
tail_for_is (pop.TailFor v) w e = cc
tail_for_is (pop.Take v) w e = cc
tail_for_is pop.Empty w e = cc
tail_for_is pop.Closed w e = cc

pub empty_is : (t : PopTurn) → of_pop t ≡ End Empty → t ≡ pop.Empty
empty_is pop.Head e = cc
empty_is (pop.Stamp v) e = cc
empty_is (pop.TailFor v) e = cc
empty_is (pop.Take v) e = cc
empty_is pop.Empty e = refl
empty_is pop.Closed e = cc

pub closed_to_pop : (t : PopTurn) → of_pop t ≡ End Closed → t ≡ pop.Closed
closed_to_pop pop.Head e = cc
closed_to_pop (pop.Stamp v) e = cc
closed_to_pop (pop.TailFor v) e = cc
closed_to_pop (pop.Take v) e = cc
closed_to_pop pop.Empty e = cc
closed_to_pop pop.Closed e = refl
