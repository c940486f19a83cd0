-- For calls_do_what_they_say.
-- Calls do what they say: who is over was ready or cancelled, or nobody was left who could wake it, or the drop of the
-- executor had begun; and what a step added to a trace.
use Rattle.std.proofs.Common.{◌≡◌, ◌⊎◌, ◌∙◌, ℕ, ◌∷◌, ◌++◌, [], Bool, true, false, ◌||◌, cond, eqb, inl, inr, ⊎_elim, refl, sym}
use Rattle.std.{proofs.Common.arith, proofs.lemmas.Bool.Decides.nat_tests, proofs.lemmas.List.append_cancel_left}
use Rattle.task_moves.specs.Moves.{is_over}
use Rattle.executor_model.specs.Trace.{Trace, has, is_cancelled, is_drop_begun, is_last_waker, is_ready}
use Rattle.executor_model.specs.{CallsMean.MayBeOver, Steps.Machine, World.task}
use Rattle.executor_model.proofs.OneFuture.Stories.{Story, hears, story, story_from, untold}
use Rattle.executor_model.proofs.Steps.Tests.{or-left, or-right}
use Rattle.executor_model.proofs.{Types.State, Types.Answer, Types.Event, Table.LeavingExecutions.Placed}

-- whose task is closed or completed has one of these causes

over-more : (g : ℕ) (e : Event) (es : Trace) → MayBeOver g es → MayBeOver g (e ∷ es)
over-more g e es h = ⊎_elim
    (λ (a : has (is_ready g) es ≡ true). inl (or-right (is_ready g e) (has (is_ready g) es) a))
    (λ (b : (has (is_cancelled g) es ≡ true) ⊎ ((has (is_last_waker g) es ≡ true) ⊎ (has is_drop_begun es ≡ true))).
    inr (⊎_elim
    (λ (a : has (is_cancelled g) es ≡ true). inl (or-right (is_cancelled g e) (has (is_cancelled g) es) a))
    (λ (c : (has (is_last_waker g) es ≡ true) ⊎ (has is_drop_begun es ≡ true)). inr (⊎_elim
    (λ (a : has (is_last_waker g) es ≡ true). inl (or-right (is_last_waker g e) (has (is_last_waker g) es) a))
    (λ (a : has is_drop_begun es ≡ true). inr (or-right (is_drop_begun e) (has is_drop_begun es) a)) c)) b)) h

-- the first event is a cause, or there was one before
first-tells : (g : ℕ) (e : Event) (es : Trace) (s : Story) → (hears g e s).caused ≡ true →
    (s.caused ≡ true) ⊎ MayBeOver g (e ∷ es)
first-tells g (Event.Answered p f Answer.Ready) es s k = by (eqb g f) refl k
  where
    by : (b : Bool) → eqb g f ≡ b → cond b true s.caused ≡ true →
        (s.caused ≡ true) ⊎ MayBeOver g (Event.Answered p f Answer.Ready ∷ es)
    by true z q = inr (inl (or-left (eqb g f) (has (is_ready g) es) z))
    by false z q = inl q
first-tells g (Event.Answered p f Answer.Pending) es s k = inl k
first-tells g (Event.Cancelled p f) es s k = by (eqb g f) refl k
  where
    by : (b : Bool) → eqb g f ≡ b → cond b true s.caused ≡ true →
        (s.caused ≡ true) ⊎ MayBeOver g (Event.Cancelled p f ∷ es)
    by true z q = inr (inr (inl (or-left (eqb g f) (has (is_cancelled g) es) z)))
    by false z q = inl q
first-tells g (Event.LastWaker p f) es s k = by (eqb g f) refl k
  where
    by : (b : Bool) → eqb g f ≡ b → cond b (s.caused || s.detached) s.caused ≡ true →
        (s.caused ≡ true) ⊎ MayBeOver g (Event.LastWaker p f ∷ es)
    by true z q = inr (inr (inr (inl (or-left (eqb g f) (has (is_last_waker g) es) z))))
    by false z q = inl q
first-tells g (Event.DropBegun p) es s k = inr (inr (inr (inr refl)))
first-tells g _ es s k = inl k

caused-tells : (g : ℕ) (es : Trace) (s : Story) → (story_from g s es).caused ≡ true →
    (s.caused ≡ true) ⊎ MayBeOver g es
caused-tells g [] s k = inl k
caused-tells g (e ∷ es) s k = ⊎_elim
    (λ (a : (hears g e s).caused ≡ true). first-tells g e es s a)
    (λ (a : MayBeOver g es). inr (over-more g e es a)) (caused-tells g es (hears g e s) k)

caused-over : (g : ℕ) (es : Trace) → (story g es).caused ≡ true → MayBeOver g es
unfolding story
caused-over g es k = ⊎_elim
    (λ (a : untold.caused ≡ true). absurd (cc)) (λ (a : MayBeOver g es). a) (caused-tells g es untold k)

over-is : (s : State) → is_over s ≡ true → (s.closed ≡ true) ⊎ (s.completed ≡ true)
over-is s e = by s.completed s.closed e
  where
    by : (a b : Bool) → (a || b) ≡ true → (b ≡ true) ⊎ (a ≡ true)
    by true b e = inr refl
    by false b e = inl e

pub over-told : (s : Machine) (f : ℕ) → Placed s → is_over (task s.world f) ≡ true → MayBeOver f s.world.trace
over-told s f h e = caused-over f s.world.trace ((h.leaves f).over (⊎_elim
    (λ (a : (task s.world f).closed ≡ true). inl a)
    (λ (a : (task s.world f).completed ≡ true). inr (inl a)) (over-is (task s.world f) e)))

pub itself : (n : ℕ) → eqb n n ≡ true
itself n = grind (arith, nat_tests)

-- what was added
pub added : (es more new now : Trace) → now ≡ es ++ more → now ≡ es ++ new → new ≡ more
added es more new now a b = append_cancel_left es new more (sym b ∙ a)
