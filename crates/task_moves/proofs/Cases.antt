-- A fact of every kind of move. Clauses would say the same, but what a tactic finds in a clause it has to find more than once.
use Rattle.task_moves.specs.declared.moves.owed.Move.{Move}
use Rattle.task_moves.specs.declared.moves.owed.Move.TheVariants.{WakeByReference, Wake, Copy, Release, TakeUp, SettleClosed, GiveUp, EndReady, EndPending, EndClosed, DropRunnable, Cancel, Detach, Poll, LookAgain, Register, EndRegister, Notify, EndNotify}

pub by_move : (P : Move → Type 0) → P WakeByReference → P Wake → P Copy → P Release → P TakeUp → P SettleClosed → P GiveUp → P EndReady → P EndPending → P EndClosed → P DropRunnable → P Cancel → P Detach → P Poll → P LookAgain → P Register → P EndRegister → P Notify → P EndNotify → (kind : Move) → P kind
by_move P is_wake_by_reference is_wake is_copy is_release is_take_up is_settle_closed is_give_up is_end_ready is_end_pending is_end_closed is_drop_runnable is_cancel is_detach is_poll is_look_again is_register is_end_register is_notify is_end_notify kind = elim kind as (λ k. P k) [
  | WakeByReference ↦ is_wake_by_reference
  | Wake ↦ is_wake
  | Copy ↦ is_copy
  | Release ↦ is_release
  | TakeUp ↦ is_take_up
  | SettleClosed ↦ is_settle_closed
  | GiveUp ↦ is_give_up
  | EndReady ↦ is_end_ready
  | EndPending ↦ is_end_pending
  | EndClosed ↦ is_end_closed
  | DropRunnable ↦ is_drop_runnable
  | Cancel ↦ is_cancel
  | Detach ↦ is_detach
  | Poll ↦ is_poll
  | LookAgain ↦ is_look_again
  | Register ↦ is_register
  | EndRegister ↦ is_end_register
  | Notify ↦ is_notify
  | EndNotify ↦ is_end_notify
]
