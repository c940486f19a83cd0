-- A poll of a handle is answered that there is no output and will be none only where that is so.
use Rattle.std.specs.Prelude.{◌≡◌, ◌⊎◌, ℕ, true}
use Rattle.executor_model.specs.declared.call.By.{By}
use Rattle.executor_model.specs.declared.call.Call.TheVariants.{PollHandle}
use Rattle.executor_model.specs.declared.call.Reply.TheVariants.{Cancelled}
use Rattle.executor_model.specs.Calls.{Each, Ended, calls}
use Rattle.executor_model.specs.OutputOnce.{is_output_given}
use Rattle.executor_model.specs.Trace.{Trace, has, is_cancelled, is_drop_begun, is_last_waker, takes_handle}

-- future f was cancelled, or its output was given to a poll, or a call took the handle; or nobody was left who could wake it, or
-- the drop of the executor had begun
abbrev pub GivesNoMore : ℕ → Trace → Type 0
GivesNoMore f past = (has (is_cancelled f) past ≡ true) ⊎ ((has (is_output_given f) past ≡ true)
    ⊎ ((has (takes_handle f) past ≡ true) ⊎ ((has (is_last_waker f) past ≡ true) ⊎ (has is_drop_begun past ≡ true))))

-- a poll of its handle that was answered so was answered where this holds
abbrev pub IsCancelledRight : Ended → Type 0
IsCancelledRight e = (f : ℕ) (b : By) → e.call ≡ PollHandle f b → e.reply ≡ Cancelled → GivesNoMore f e.past

-- each poll of a handle by party q
abbrev pub CancelledMeansOver : ℕ → Trace → Type 0
CancelledMeansOver q trace = Each IsCancelledRight (calls q trace).ended
