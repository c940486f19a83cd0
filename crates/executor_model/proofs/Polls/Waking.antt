-- For polls_are_asked_for.
-- Between two polls a future is woken: what the story of its requests says is what the definition over its trace says.
use Rattle.std.proofs.Common.{◌≡◌, ℕ, ◌+◌, ◌≤◌, [], ◌∷◌, Bool, true, false, ◌||◌, cond, eqb, refl, arith}
use Rattle.std.specs.Prelude.{filter}
use Rattle.executor_model.specs.declared.event.Answer.TheVariants.{Pending, Ready}
use Rattle.executor_model.specs.declared.event.Event.TheVariants.{PollBegun, Answered, Woken}
use Rattle.executor_model.specs.AskedPolls.{is_poll_or_wake, NoneTwice, IsWokenBetweenPolls}
use Rattle.executor_model.specs.{Trace.Trace, Weights.same}
use Rattle.executor_model.proofs.OneFuture.Requests.{Request, unheard, notes, request_from, request}
use Rattle.executor_model.proofs.{Types.Event, OneFuture.Telling.same-cond}

abbrev pub calls_of : ℕ → Trace → Trace
calls_of f es = filter (is_poll_or_wake f) es

unasked-one : (f : ℕ) (e : Event) (s : Request) → s.unasked ≤ (notes f e s).unasked
unasked-one f (Answered p g Ready) s = omega arith
unasked-one f (Answered p g Pending) s = omega arith
unasked-one f (PollBegun p g) s = omega arith
unasked-one f _ s = omega arith

unasked-more : (f : ℕ) (s : Request) (es : Trace) → s.unasked ≤ (request_from f s es).unasked
unasked-more f s [] = omega arith
unasked-more f s (e ∷ es) = omega (arith, unasked-one f e s, unasked-more f (notes f e s) es)

-- what may still come, where it was polled and woken so far
pub record Comes (polled woken : Bool) (xs : Trace) : Type 0 where
  pub after_poll : polled ≡ true → woken ≡ false → (p g : ℕ) → NoneTwice (PollBegun p g ∷ xs)
  pub now : NoneTwice xs

unwoken : (polled woken : Bool) (u n : ℕ) → polled ≡ true → woken ≡ false → u + cond polled (cond woken 0 n) 0 ≡ 0 →
    n ≡ 1 → ⊥
unwoken true false u n x y z k = omega (arith, z, k)
unwoken true true u n x y z k = absurd (cc)
unwoken false woken u n x y z k = absurd (cc)

comes-poll : (p g : ℕ) (b polled woken : Bool) (u n : ℕ) (xs : Trace) → u + cond polled (cond woken 0 n) 0 ≡ 0 →
    n ≡ cond b 1 0 → Comes (cond b true polled) (cond b false woken) xs →
    Comes polled woken (cond (b || false) (PollBegun p g ∷ xs) xs)
comes-poll p g true polled woken u n xs z e ih =
    record { after_poll = λ x y q k. absurd (unwoken polled woken u n x y z e); now = ih.after_poll refl refl p g }
comes-poll p g false polled woken u n xs z e ih = ih

comes-woken : (p g : ℕ) (b polled woken : Bool) (xs : Trace) → Comes polled (cond b true woken) xs →
    Comes polled woken (cond b (Woken p g ∷ xs) xs)
comes-woken p g true polled woken xs ih = record { after_poll = λ x y q k. ih.now; now = ih.now }
comes-woken p g false polled woken xs ih = ih

comes : (f : ℕ) (s : Request) (es : Trace) → (request_from f s es).unasked ≡ 0 → Comes s.polled s.woken (calls_of f es)
comes f s [] z = record { after_poll = λ x y p g. tt; now = tt }
comes f s (PollBegun p g ∷ es) z =
    let u : s.unasked + cond s.polled (cond s.woken 0 (same f g)) 0 ≡ 0 =
    omega (arith, z, unasked-more f (notes f (PollBegun p g) s) es) in
    comes-poll p g (eqb f g) s.polled s.woken s.unasked (same f g) (calls_of f es) u (same-cond f g)
    (comes f (notes f (PollBegun p g) s) es z)
comes f s (Woken p g ∷ es) z =
    comes-woken p g (eqb f g) s.polled s.woken (calls_of f es) (comes f (notes f (Woken p g) s) es z)
comes f s (Answered p g Ready ∷ es) z = comes f (notes f (Answered p g Ready) s) es z
comes f s (Answered p g Pending ∷ es) z = comes f s es z
comes f s (e ∷ es) z = comes f (notes f e s) es z

pub woken-between : (f : ℕ) (es : Trace) → (request f es).unasked ≡ 0 → IsWokenBetweenPolls f es
unfolding request
woken-between f es z = (comes f unheard es z).now
