-- The calls on a closable queue, what they answer, and what a call does at its moment: every pair of call and answer.
use Rattle.std.specs.Prelude.{◌≡◌, ◌↔◌, ℕ, [], length, Bool, IsTrue, Option, Result}
use Rattle.queue_steps.specs.declared.errors.PushError.{PushError}
use Rattle.queue_steps.specs.declared.errors.ForcePushError.{ForcePushError}
use Rattle.queue_steps.specs.declared.errors.PopError.{PopError}
use Rattle.queue_steps.specs.ClosableQueue.{ClosableQueue, IsFull}
use Rattle.queue_steps.specs.Replies.{Pushes, ForcePushes, Pops, Closes}

pub data Call (T : Type 0) : Type 0 where
  Push : T → Call T
  ForcePush : T → Call T
  Pop : Call T
  Close : Call T
  Len : Call T
  IsEmptyCall : Call T
  IsFullCall : Call T
  IsClosedCall : Call T

pub data Answer (T : Type 0) : Type 0 where
  Pushed : Result (Unit {0}) (PushError T) → Answer T
  ForcePushed : Result (Option T) (ForcePushError T) → Answer T
  Popped : Result T PopError → Answer T
  WasClosed : Bool → Answer T
  LenIs : ℕ → Answer T
  EmptyIs : Bool → Answer T
  FullIs : Bool → Answer T
  ClosedIs : Bool → Answer T

module _ {T : Type 0} where
  -- from q, the call may answer so and leave q'
  abbrev pub Acts : ClosableQueue T → Call T → Answer T → ClosableQueue T → Type 0
  Acts q (Push x) (Pushed r) q' = Pushes q x r q'
  Acts q (Push x) (ForcePushed r) q' = ⊥
  Acts q (Push x) (Popped r) q' = ⊥
  Acts q (Push x) (WasClosed b) q' = ⊥
  Acts q (Push x) (LenIs n) q' = ⊥
  Acts q (Push x) (EmptyIs b) q' = ⊥
  Acts q (Push x) (FullIs b) q' = ⊥
  Acts q (Push x) (ClosedIs b) q' = ⊥
  Acts q (ForcePush x) (ForcePushed r) q' = ForcePushes q x r q'
  Acts q (ForcePush x) (Pushed r) q' = ⊥
  Acts q (ForcePush x) (Popped r) q' = ⊥
  Acts q (ForcePush x) (WasClosed b) q' = ⊥
  Acts q (ForcePush x) (LenIs n) q' = ⊥
  Acts q (ForcePush x) (EmptyIs b) q' = ⊥
  Acts q (ForcePush x) (FullIs b) q' = ⊥
  Acts q (ForcePush x) (ClosedIs b) q' = ⊥
  Acts q Pop (Popped r) q' = Pops q r q'
  Acts q Pop (Pushed r) q' = ⊥
  Acts q Pop (ForcePushed r) q' = ⊥
  Acts q Pop (WasClosed b) q' = ⊥
  Acts q Pop (LenIs n) q' = ⊥
  Acts q Pop (EmptyIs b) q' = ⊥
  Acts q Pop (FullIs b) q' = ⊥
  Acts q Pop (ClosedIs b) q' = ⊥
  Acts q Close (WasClosed b) q' = Closes q b q'
  Acts q Close (Pushed r) q' = ⊥
  Acts q Close (ForcePushed r) q' = ⊥
  Acts q Close (Popped r) q' = ⊥
  Acts q Close (LenIs n) q' = ⊥
  Acts q Close (EmptyIs b) q' = ⊥
  Acts q Close (FullIs b) q' = ⊥
  Acts q Close (ClosedIs b) q' = ⊥
  Acts q Len (LenIs n) q' = (n ≡ length q.items) × (q' ≡ q)
  Acts q Len (Pushed r) q' = ⊥
  Acts q Len (ForcePushed r) q' = ⊥
  Acts q Len (Popped r) q' = ⊥
  Acts q Len (WasClosed b) q' = ⊥
  Acts q Len (EmptyIs b) q' = ⊥
  Acts q Len (FullIs b) q' = ⊥
  Acts q Len (ClosedIs b) q' = ⊥
  Acts q IsEmptyCall (EmptyIs b) q' = (IsTrue b ↔ (q.items ≡ [])) × (q' ≡ q)
  Acts q IsEmptyCall (Pushed r) q' = ⊥
  Acts q IsEmptyCall (ForcePushed r) q' = ⊥
  Acts q IsEmptyCall (Popped r) q' = ⊥
  Acts q IsEmptyCall (WasClosed b) q' = ⊥
  Acts q IsEmptyCall (LenIs n) q' = ⊥
  Acts q IsEmptyCall (FullIs b) q' = ⊥
  Acts q IsEmptyCall (ClosedIs b) q' = ⊥
  Acts q IsFullCall (FullIs b) q' = (IsTrue b ↔ IsFull q) × (q' ≡ q)
  Acts q IsFullCall (Pushed r) q' = ⊥
  Acts q IsFullCall (ForcePushed r) q' = ⊥
  Acts q IsFullCall (Popped r) q' = ⊥
  Acts q IsFullCall (WasClosed b) q' = ⊥
  Acts q IsFullCall (LenIs n) q' = ⊥
  Acts q IsFullCall (EmptyIs b) q' = ⊥
  Acts q IsFullCall (ClosedIs b) q' = ⊥
  Acts q IsClosedCall (ClosedIs b) q' = (b ≡ q.closed) × (q' ≡ q)
  Acts q IsClosedCall (Pushed r) q' = ⊥
  Acts q IsClosedCall (ForcePushed r) q' = ⊥
  Acts q IsClosedCall (Popped r) q' = ⊥
  Acts q IsClosedCall (WasClosed b) q' = ⊥
  Acts q IsClosedCall (LenIs n) q' = ⊥
  Acts q IsClosedCall (EmptyIs b) q' = ⊥
  Acts q IsClosedCall (FullIs b) q' = ⊥
