-- The calls of a party, as a trace tells of them: what each did itself, and what had happened when it ended. What a call
-- does itself is what its party does while no call that began inside of it is in progress.
use Rattle.std.specs.Prelude.{ℕ, Bool, true, false, List, [], ◌∷◌, ◌++◌}
use Rattle.executor_model.specs.declared.call.Call.{Call}
use Rattle.executor_model.specs.declared.call.Reply.{Reply}
use Rattle.executor_model.specs.declared.event.Event.{Event}
use Rattle.executor_model.specs.declared.event.Event.TheVariants.{CallBegun, CallEnded}
use Rattle.executor_model.specs.Deeds.{is_by}
use Rattle.executor_model.specs.Trace.{Trace}

-- a call in progress, and what it has done
pub record Begun : Type 0 where
  pub call : Call
  pub own : Trace

-- a call that has ended: what it did, what it was answered, and all that had happened before its end
pub record Ended : Type 0 where
  pub call : Call
  pub own : Trace
  pub reply : Reply
  pub past : Trace

-- each of these calls is so
abbrev pub Each : (Ended → Type 0) → List Ended → Type 0
Each R [] = Unit {0}
Each R (e ∷ es) = R e × Each R es

-- all that has happened, the party's calls in progress, the innermost first, and its calls that have ended
pub record Calls : Type 0 where
  pub past : Trace
  pub begun : List Begun
  pub ended : List Ended

abbrev pub no_calls : Calls
no_calls = record { past = []; begun = []; ended = [] }

-- the innermost does this
abbrev pub does : Event → List Begun → List Begun
does e [] = []
does e (b ∷ bs) = record b { own = b.own ++ e ∷ [] } ∷ bs

-- the innermost ends
abbrev pub ends : Reply → Calls → List Begun → Calls
ends r s [] = s
ends r s (b ∷ bs) = record {
  past = s.past;
  begun = bs;
  ended = s.ended ++ record { call = b.call; own = b.own; reply = r; past = s.past } ∷ [];
}

-- the party did this
abbrev pub hears_own : Event → Calls → Calls
hears_own (CallBegun p c) s = record s { begun = record { call = c; own = [] } ∷ s.begun }
hears_own (CallEnded p r) s = ends r s s.begun
hears_own e s = record s { begun = does e s.begun }

abbrev pub hears_by : Bool → Event → Calls → Calls
hears_by true e s = hears_own e s
hears_by false e s = s

abbrev pub hears : ℕ → Event → Calls → Calls
hears q e s = record (hears_by (is_by q e) e s) { past = s.past ++ e ∷ [] }

abbrev pub calls_from : ℕ → Calls → Trace → Calls
calls_from q s [] = s
calls_from q s (e ∷ es) = calls_from q (hears q e s) es

-- the calls of party q
unfoldable pub calls : ℕ → Trace → Calls
calls q trace = calls_from q no_calls trace
