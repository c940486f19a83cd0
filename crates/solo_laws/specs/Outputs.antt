-- What outputs go in and come out: whatever outputs are taken to weigh, as 1 for one of them and 0 for all others.
use Rattle.std.specs.Prelude.{◌≡◌, ℕ, ◌+◌, List, [], ◌∷◌, Option, Some, None}
use Rattle.std.specs.List.{sum_by}
use Rattle.task_moves.specs.declared.local_task.answers.Back.{Back}
use Rattle.task_moves.specs.declared.local_task.answers.Back.TheVariants.{Ready, Pending}
use Rattle.task_moves.specs.declared.local_task.answers.Polled.{Polled}
use Rattle.task_moves.specs.declared.local_task.answers.Polled.TheVariants.{Output, Closed, Pending as StillPending}
use Rattle.solo.specs.declared.cells.Cell.{Cell}
use Rattle.solo.specs.declared.names.SoloWaker.{SoloWaker}
use Rattle.solo.specs.declared.solo.Solo.{Solo}
use Rattle.solo.specs.Solo as solo
use Rattle.solo_laws.specs.Calls.{Call, Course, Settle, Finish, Cancel, Detach, Poll}
use Rattle.solo_laws.specs.Futures.{sum_of}

module _ {T : Type 0} (weigh : T → ℕ) where
  abbrev pub weight_out : Option T → ℕ
  weight_out None = 0
  weight_out (Some output) = weigh output

  -- of the output that the poll of a future gave
  abbrev pub weight_given : {F : Type 0} → Back F T → ℕ
  weight_given (Ready output) = weigh output
  weight_given (Pending future) = 0

  module _ {X : Type 0} where
    -- of the output that the poll of a handle is given
    abbrev pub weight_polled : Polled T (SoloWaker X) → ℕ
    weight_polled (Output output spare) = weigh output
    weight_polled (Closed spare) = 0
    weight_polled (StillPending replaced) = 0

    -- of the output that a task keeps for its handle
    abbrev pub weight_kept : Option (Cell T X) → ℕ
    weight_kept None = 0
    weight_kept (Some c) = weight_out c.task.task.output

  module _ {F X : Type 0} where
    -- of all outputs that an executor has
    abbrev pub outputs_inside : Solo F T X → ℕ
    outputs_inside s = sum_by weight_kept s.cells.slab.slots

    abbrev pub given_in : Call F T X → ℕ
    given_in (Settle lent back) = weight_given back
    given_in _ = 0

    -- of the output that a call hands out: one that is to be dropped, or is given to the handle
    abbrev pub given_out : Call F T X → Solo F T X → ℕ
    given_out (Settle lent back) s = weight_out (solo.settle_answer lent back s).output
    given_out (Finish lent) s = weight_out (solo.finish_answer lent s).output
    given_out (Cancel task) s = weight_out (solo.cancel_answer task s).output
    given_out (Detach task) s = weight_out (solo.detach_answer task s).output
    given_out (Poll task waker) s = weight_polled (solo.poll_answer task waker s)
    given_out _ s = 0

    abbrev pub all_given_out : (calls : List (Call F T X)) (first last : Solo F T X) → Course calls first last → ℕ
    all_given_out [] first last does = 0
    all_given_out (call ∷ calls) first last does = given_out call first + all_given_out calls does.0 last does.2

    -- what was given by polls is inside, or was handed out
    abbrev pub OutputsBalance : (calls : List (Call F T X)) (first last : Solo F T X) → Course calls first last → Type 0
    OutputsBalance calls first last does = sum_of given_in calls ≡ outputs_inside last + all_given_out calls first last does
