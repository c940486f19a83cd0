-- Whoever is answered no is answered at once: a try of a tick has taken its turn and done nothing else, and any other call has
-- done nothing since it began.
use Rattle.std.specs.Prelude.{◌≡◌, ◌≢◌, ◌⊎◌, ℕ, [], ◌∷◌, ◌++◌}
use Rattle.executor_parts.specs.declared.mark.Mark.{Mark}
use Rattle.executor_model.specs.declared.call.Call.{Call}
use Rattle.executor_model.specs.declared.call.Call.TheVariants.{TryTick}
use Rattle.executor_model.specs.declared.call.Reply.TheVariants.{No}
use Rattle.executor_model.specs.declared.event.Event.TheVariants.{CallBegun, CallEnded, Looked}
use Rattle.executor_model.specs.Deeds.{deeds}
use Rattle.executor_model.specs.Trace.{Trace}

-- last came the turn of p right behind the beginning of a try of a tick, or the beginning of another call
abbrev pub HasJustBegun : ℕ → Trace → Type 0
HasJustBegun p before = (earlier : Trace) × (
    ((m : Mark) × (before ≡ earlier ++ CallBegun p TryTick ∷ Looked p m ∷ []))
    ⊎ ((c : Call) × (c ≢ TryTick) × (before ≡ earlier ++ CallBegun p c ∷ [])))

-- of what party p did, an answer no to a try of a tick stands right behind its turn, which stands right behind its beginning, and
-- any other one stands right behind the beginning of its call
abbrev pub NoComesAtOnce : ℕ → Trace → Type 0
NoComesAtOnce p trace =
    (before later : Trace) → deeds p trace ≡ before ++ CallEnded p No ∷ later → HasJustBegun p before
