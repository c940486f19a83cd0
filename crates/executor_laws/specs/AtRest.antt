-- How a call is answered that begins where nothing else is in progress, in the words of the trace alone.
use Rattle.std.specs.Prelude.{◌≡◌, ◌≢◌, ◌↔◌, ◌⊎◌, ℕ, false, [], ◌∷◌, ◌++◌}
use Rattle.executor_parts.specs.declared.mark.Mark.{Mark}
use Rattle.executor_model.specs.declared.call.Call.{Call}
use Rattle.executor_model.specs.declared.call.Call.TheVariants.{TryTick, IsEmpty}
use Rattle.executor_model.specs.declared.call.Reply.TheVariants.{Yes, No}
use Rattle.executor_model.specs.declared.event.Event.{Event}
use Rattle.executor_model.specs.declared.event.Event.TheVariants.{CallBegun, CallEnded, Looked}
use Rattle.executor_model.specs.Keeper.{IsCommon}
use Rattle.executor_model.specs.Emptiness.{AllDropped}
use Rattle.executor_model.specs.Quiet.{IsQuiet}
use Rattle.executor_model.specs.Trace.{Trace, has, is_drop_begun}

-- with this trace no call is in progress and the drop of the executor hasn't begun; then party p begins this call and takes
-- these turns, and next there is this event, which begins no other call
pub record BeginsAtRest (p : ℕ) (c : Call) (turns before : Trace) (next : Event) (trace : Trace) : Type 0 where
  pub later : Trace
  pub parts : trace ≡ before ++ CallBegun p c ∷ (turns ++ next ∷ later)
  pub quiet : IsQuiet before
  pub there : has is_drop_begun before ≡ false
  pub alone : (q : ℕ) (other : Call) → next ≢ CallBegun q other

-- a tick takes a turn at once, and is then answered at once that there is nothing to do, exactly where no future is common
pub record TicksAreExact (p : ℕ) (trace : Trace) : Type 0 where
  pub turns : (before : Trace) (next : Event) → BeginsAtRest p TryTick [] before next trace →
      (m : Mark) × (next ≡ Looked p m)
  pub no : (before : Trace) (next : Event) (m : Mark) → BeginsAtRest p TryTick (Looked p m ∷ []) before next trace →
      (next ≡ CallEnded p No) ↔ ((f : ℕ) → ¬ IsCommon f before)

-- who asks whether the executor is empty is answered at once, and yes exactly where each accepted future is dropped
abbrev pub EmptinessIsExact : ℕ → Trace → Type 0
EmptinessIsExact p trace = (before : Trace) (next : Event) → BeginsAtRest p IsEmpty [] before next trace →
    ((next ≡ CallEnded p Yes) ⊎ (next ≡ CallEnded p No)) × ((next ≡ CallEnded p Yes) ↔ AllDropped before)
