-- For all laws of one future.
-- What a trace tells of who asked for a future, read from left to right.
use Rattle.std.proofs.Common.{◌≡◌, ℕ, ◌+◌, ◌==◌, [], ◌∷◌, ◌++◌, Bool, true, false, cond, refl}
use Rattle.executor_model.proofs.Types.{Event}
use Rattle.executor_model.specs.declared.event.Event.TheVariants.{Accepted, PollBegun, Answered, Woken, Cancelled, LastWaker}
use Rattle.executor_model.specs.declared.{event.Answer.TheVariants.Ready, event.Event.TheVariants.Leaked}
use Rattle.executor_model.specs.{Trace.Trace, Weights.same}

pub record Request : Type 0 where
  -- it was asked for, or woken, since its last poll began, and it was polled at all
  pub asked : Bool
  pub woken : Bool
  pub polled : Bool
  -- polls after the first before which it wasn't woken
  pub unasked : ℕ
  pub ready : Bool

abbrev pub unheard : Request
unheard = record { asked = false; woken = false; polled = false; unasked = 0; ready = false }

abbrev pub notes : ℕ → Event → Request → Request
notes g (Accepted p f) s = record s { asked = cond (g == f) true s.asked }
notes g (Woken p f) s = record s { asked = cond (g == f) true s.asked; woken = cond (g == f) true s.woken }
notes g (Cancelled p f) s = record s { asked = cond (g == f) true s.asked }
notes g (LastWaker p f) s = record s { asked = cond (g == f) true s.asked }
notes g (Leaked p f) s = record s { asked = cond (g == f) true s.asked }
notes g (PollBegun p f) s =
    record s {
      asked = cond (g == f) false s.asked;
      woken = cond (g == f) false s.woken;
      polled = cond (g == f) true s.polled;
      unasked = s.unasked + cond s.polled (cond s.woken 0 (same g f)) 0;
    }
notes g (Answered p f Ready) s = record s { ready = cond (g == f) true s.ready }
notes g _ s = s

abbrev pub request_from : ℕ → Request → Trace → Request
request_from g s [] = s
request_from g s (e ∷ es) = request_from g (notes g e s) es

unfoldable pub request : ℕ → Trace → Request
request g es = request_from g unheard es

request_from-push : (g : ℕ) (s : Request) (es : Trace) (e : Event) →
    request_from g s (es ++ e ∷ []) ≡ notes g e (request_from g s es)
request_from-push g s [] e = refl
request_from-push g s (x ∷ es) e = request_from-push g (notes g x s) es e

pub request-push : (g : ℕ) (es : Trace) (e : Event) → request g (es ++ e ∷ []) ≡ notes g e (request g es)
unfolding request
request-push g es e = request_from-push g unheard es e

pub request-none : (g : ℕ) → request g [] ≡ unheard
unfolding request
request-none g = refl
