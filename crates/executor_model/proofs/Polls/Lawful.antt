-- For polls_are_asked_for and polls_are_lawful.
-- Where the automaton of polls and answers doesn't break, they take turns, and no poll begins after the end.
use Rattle.std.proofs.Common.{◌≡◌, ◌≢◌, ◌⊎◌, inl, inr, ℕ, suc, ◌+◌, arith, Bool, true, false, ◌||◌, cond, not, eqb, [], ◌∷◌}
use Rattle.std.proofs.Common.{drop, refl, sym, ap, ◌∙◌, subst}
use Rattle.std.{specs.List.filter, specs.List.after_first, specs.List.position_or_len, proofs.lemmas.Map.Views.any-filter_same}
use Rattle.executor_model.proofs.Types.{Answer, Event}
use Rattle.executor_model.specs.declared.event.Answer.TheVariants.{Pending, Ready}
use Rattle.executor_model.specs.declared.event.Event.TheVariants.{PollBegun, Answered, Dropped}
use Rattle.executor_model.specs.Trace.{Trace, has, is_of, is_poll, is_dropped}
use Rattle.executor_model.specs.LawfulPolls.{TakeTurns, HasLawfulPolls, is_end, is_poll_or_answer}
use Rattle.executor_model.specs.Sound.{Phase, after_begun, after_answered, after_dropped, passes, phase_from, phase}
use Rattle.executor_model.specs.Sound.Phase.{Fresh, Polling, Over, Broken}

-- a filter by more than is asked for changes nothing
merge-one : (p q : Event → Bool) (e : Event) (xs ys : Trace) (a b : Bool) → p e ≡ a → q e ≡ b →
    (q e ≡ true → p e ≡ true) → filter q xs ≡ ys → filter q (cond a (e ∷ xs) xs) ≡ cond b (e ∷ ys) ys
merge-one p q e xs ys true b h k i z = ap (λ (c : Bool). cond c (e ∷ filter q xs) (filter q xs)) k
    ∙ ap (λ (zs : Trace). cond b (e ∷ zs) zs) z
merge-one p q e xs ys false false h k i z = z
merge-one p q e xs ys false true h k i z = let no : false ≡ true = sym h ∙ i k in absurd (cc)

merge : (p q : Event → Bool) → ((e : Event) → q e ≡ true → p e ≡ true) → (es : Trace) →
    filter q (filter p es) ≡ filter q es
merge p q i [] = refl
merge p q i (e ∷ es) = merge-one p q e (filter p es) (filter q es) (p e) (q e) refl refl (i e) (merge p q i es)

one_more : (n : ℕ) → 1 + n + 1 ≡ suc (n + 1)
one_more n = omega arith

-- what comes after the first
after-cons : (q : Event → Bool) (e : Event) (es : Trace) (b : Bool) → q e ≡ b →
    after_first q (e ∷ es) ≡ cond b es (after_first q es)
after-cons q e es true h = ap (λ (c : Bool). drop (cond (not c) (1 + position_or_len q es) 0 + 1) (e ∷ es)) h
after-cons q e es false h = ap (λ (c : Bool). drop (cond (not c) (1 + position_or_len q es) 0 + 1) (e ∷ es)) h
    ∙ ap (λ (n : ℕ). drop n (e ∷ es)) (one_more (position_or_len q es))

after-one : (p q : Event → Bool) (e : Event) (es : Trace) (a b : Bool) → p e ≡ a → q e ≡ b → (q e ≡ true → p e ≡ true) →
    after_first q (filter p es) ≡ filter p (after_first q es) →
    after_first q (cond a (e ∷ filter p es) (filter p es)) ≡ filter p (cond b es (after_first q es))
after-one p q e es true b h k i z = after-cons q e (filter p es) b k ∙ by b z
  where
    by : (b : Bool) → after_first q (filter p es) ≡ filter p (after_first q es) →
        cond b (filter p es) (after_first q (filter p es)) ≡ filter p (cond b es (after_first q es))
    by true z = refl
    by false z = z
after-one p q e es false false h k i z = z
after-one p q e es false true h k i z = let no : false ≡ true = sym h ∙ i k in absurd (cc)

after-filter : (p q : Event → Bool) → ((e : Event) → q e ≡ true → p e ≡ true) → (es : Trace) →
    after_first q (filter p es) ≡ filter p (after_first q es)
after-filter p q i [] = refl
after-filter p q i (e ∷ es) = after-one p q e es (p e) (q e) refl refl (i e) (after-filter p q i es)
    ∙ ap (filter p) (sym (after-cons q e es (q e) refl))

-- polls, answers and ends of a future are events of it
poll-of : (f : ℕ) (e : Event) → is_poll f e ≡ true → is_of f e ≡ true
poll-of f (PollBegun p g) h = go (eqb f g) h
  where
    go : (b : Bool) → b ≡ true → (b || false || false || false || false || false || false || false || false) ≡ true
    go true k = refl
    go false k = k
poll-of f _ h = absurd (cc)

turn-of : (f : ℕ) (e : Event) → is_poll_or_answer f e ≡ true → is_of f e ≡ true
turn-of f (PollBegun p g) h = go (eqb f g) h
  where
    go : (b : Bool) → (b || false) ≡ true → (b || false || false || false || false || false || false || false || false) ≡ true
    go true k = refl
    go false k = k
turn-of f (Answered p g a) h = go (eqb f g) h
  where
    go : (b : Bool) → b ≡ true → (b || false || false || false || false || false || false || false) ≡ true
    go true k = refl
    go false k = k
turn-of f _ h = absurd (cc)

end-of : (f : ℕ) (e : Event) → is_end f e ≡ true → is_of f e ≡ true
end-of f (Answered p g Ready) h = go (eqb f g) h
  where
    go : (b : Bool) → (b || false) ≡ true → (b || false || false || false || false || false || false || false) ≡ true
    go true k = refl
    go false k = k
end-of f (Answered p g Pending) h = absurd (cc)
end-of f (Dropped p g) h = go (eqb f g) h
  where
    go : (b : Bool) → b ≡ true → (b || false) ≡ true
    go true k = refl
    go false k = k
end-of f _ h = absurd (cc)

-- what is broken stays so
either_broken : (b : Bool) (f : ℕ) (es : Trace) → phase_from f Broken es ≡ Broken →
    phase_from f (cond b Broken Broken) es ≡ Broken
either_broken true f es e = e
either_broken false f es e = e

broken : (f : ℕ) (es : Trace) → phase_from f Broken es ≡ Broken
broken f [] = refl
broken f (PollBegun p g ∷ es) = either_broken (eqb f g) f es (broken f es)
broken f (Answered p g Ready ∷ es) = either_broken (eqb f g) f es (broken f es)
broken f (Answered p g Pending ∷ es) = either_broken (eqb f g) f es (broken f es)
broken f (Dropped p g ∷ es) = either_broken (eqb f g) f es (broken f es)
broken f (_ ∷ es) = broken f es

-- what may still come
abbrev pub MayCome : Phase → Trace → Type 0
MayCome Fresh es = TakeTurns es
MayCome Polling es = (p g : ℕ) → TakeTurns (PollBegun p g ∷ es)
MayCome Over es = es ≡ []
MayCome Broken es = Unit {0}

nothing_comes : (s : Phase) → MayCome s []
nothing_comes Fresh = tt
nothing_comes Polling = λ p g. tt
nothing_comes Over = refl
nothing_comes Broken = tt

abbrev pub turns_of : ℕ → Trace → Trace
turns_of f es = filter (is_poll_or_answer f) es

-- polls and answers come in turn after each phase
abbrev pub Comes : ℕ → Trace → Type 0
Comes f es = (s : Phase) → phase_from f s es ≢ Broken → MayCome s (turns_of f es)

comes-begun : (f p g : ℕ) (b : Bool) (s : Phase) (es : Trace) → Comes f es →
    phase_from f (cond b (after_begun s) s) es ≢ Broken →
    MayCome s (cond (b || false) (PollBegun p g ∷ turns_of f es) (turns_of f es))
comes-begun f p g false s es ih h = ih s h
comes-begun f p g true Fresh es ih h = ih Polling h p g
comes-begun f p g true Polling es ih h = absurd (h (broken f es))
comes-begun f p g true Over es ih h = absurd (h (broken f es))
comes-begun f p g true Broken es ih h = tt

comes-answered : (f p g : ℕ) (a : Answer) (b : Bool) (s : Phase) (es : Trace) → Comes f es →
    phase_from f (cond b (after_answered a s) s) es ≢ Broken →
    MayCome s (cond b (Answered p g a ∷ turns_of f es) (turns_of f es))
comes-answered f p g a false s es ih h = ih s h
comes-answered f p g Pending true Polling es ih h = λ q k. ih Fresh h
comes-answered f p g Ready true Polling es ih h = λ q k. subst TakeTurns (sym (ih Over h)) tt
comes-answered f p g Pending true Fresh es ih h = absurd (h (broken f es))
comes-answered f p g Ready true Fresh es ih h = absurd (h (broken f es))
comes-answered f p g Pending true Over es ih h = absurd (h (broken f es))
comes-answered f p g Ready true Over es ih h = absurd (h (broken f es))
comes-answered f p g a true Broken es ih h = tt

comes-dropped : (f : ℕ) (b : Bool) (s : Phase) (es : Trace) → Comes f es →
    phase_from f (cond b (after_dropped s) s) es ≢ Broken → MayCome s (turns_of f es)
comes-dropped f false s es ih h = ih s h
comes-dropped f true Fresh es ih h = subst TakeTurns (sym (ih Over h)) tt
comes-dropped f true Polling es ih h = absurd (h (broken f es))
comes-dropped f true Over es ih h = ih Over h
comes-dropped f true Broken es ih h = tt

comes : (f : ℕ) (es : Trace) → Comes f es
comes f [] s h = nothing_comes s
comes f (PollBegun p g ∷ es) s h = comes-begun f p g (eqb f g) s es (comes f es) h
comes f (Answered p g a ∷ es) s h = comes-answered f p g a (eqb f g) s es (comes f es) h
comes f (Dropped p g ∷ es) s h = comes-dropped f (eqb f g) s es (comes f es) h
comes f (_ ∷ es) s h = comes f es s h

-- no poll is there once it is over
none-begun : (f : ℕ) (b : Bool) (es : Trace) → (phase_from f Over es ≢ Broken → has (is_poll f) es ≡ false) →
    phase_from f (cond b Broken Over) es ≢ Broken → (b || has (is_poll f) es) ≡ false
none-begun f true es ih h = absurd (h (broken f es))
none-begun f false es ih h = ih h

none-answered : (f : ℕ) (b : Bool) (es : Trace) → (phase_from f Over es ≢ Broken → has (is_poll f) es ≡ false) →
    phase_from f (cond b Broken Over) es ≢ Broken → has (is_poll f) es ≡ false
none-answered f true es ih h = absurd (h (broken f es))
none-answered f false es ih h = ih h

none-dropped : (f : ℕ) (b : Bool) (es : Trace) → (phase_from f Over es ≢ Broken → has (is_poll f) es ≡ false) →
    phase_from f (cond b Over Over) es ≢ Broken → has (is_poll f) es ≡ false
none-dropped f true es ih h = ih h
none-dropped f false es ih h = ih h

none : (f : ℕ) (es : Trace) → phase_from f Over es ≢ Broken → has (is_poll f) es ≡ false
none f [] h = refl
none f (PollBegun p g ∷ es) h = none-begun f (eqb f g) es (none f es) h
none f (Answered p g Ready ∷ es) h = none-answered f (eqb f g) es (none f es) h
none f (Answered p g Pending ∷ es) h = none-answered f (eqb f g) es (none f es) h
none f (Dropped p g ∷ es) h = none-dropped f (eqb f g) es (none f es) h
none f (_ ∷ es) h = none f es h

-- nor after the first end
abbrev pub NoneAfter : ℕ → Trace → Type 0
NoneAfter f es = has (is_poll f) (after_first (is_end f) es) ≡ false

after-ready : (f : ℕ) (b : Bool) (s : Phase) (es : Trace) →
    ((z : Phase) → phase_from f z es ≢ Broken → NoneAfter f es) →
    phase_from f (cond b (after_answered Ready s) s) es ≢ Broken →
    has (is_poll f) (cond (b || false) es (after_first (is_end f) es)) ≡ false
after-ready f false s es ih h = ih s h
after-ready f true Polling es ih h = none f es h
after-ready f true Fresh es ih h = absurd (h (broken f es))
after-ready f true Over es ih h = absurd (h (broken f es))
after-ready f true Broken es ih h = absurd (h (broken f es))

after-drop : (f : ℕ) (b : Bool) (s : Phase) (es : Trace) → ((z : Phase) → phase_from f z es ≢ Broken → NoneAfter f es) →
    phase_from f (cond b (after_dropped s) s) es ≢ Broken →
    has (is_poll f) (cond b es (after_first (is_end f) es)) ≡ false
after-drop f false s es ih h = ih s h
after-drop f true Fresh es ih h = none f es h
after-drop f true Over es ih h = none f es h
after-drop f true Polling es ih h = absurd (h (broken f es))
after-drop f true Broken es ih h = absurd (h (broken f es))

none-after : (f : ℕ) (es : Trace) (s : Phase) → phase_from f s es ≢ Broken → NoneAfter f es
none-after f [] s h = refl
none-after f (Answered p g Ready ∷ es) s h = ap (has (is_poll f)) (after-cons (is_end f) (Answered p g Ready) es _ refl)
    ∙ after-ready f (eqb f g) s es (none-after f es) h
none-after f (Answered p g Pending ∷ es) s h =
    ap (has (is_poll f)) (after-cons (is_end f) (Answered p g Pending) es _ refl)
    ∙ none-after f es (cond (eqb f g) (after_answered Pending s) s) h
none-after f (Dropped p g ∷ es) s h = ap (has (is_poll f)) (after-cons (is_end f) (Dropped p g) es _ refl)
    ∙ after-drop f (eqb f g) s es (none-after f es) h
none-after f (PollBegun p g ∷ es) s h = ap (has (is_poll f)) (after-cons (is_end f) (PollBegun p g) es false refl)
    ∙ none-after f es (cond (eqb f g) (after_begun s) s) h
none-after f (e ∷ es) s h = ap (has (is_poll f)) (after-cons (is_end f) e es false refl) ∙ none-after f es s h

-- the definition by filters says no more than the automaton
pub lawful : (f : ℕ) (es : Trace) → phase f es ≢ Broken → HasLawfulPolls f es
lawful f es h = record {
  turns = subst TakeTurns (sym (merge (is_of f) (is_poll_or_answer f) (turn-of f) es)) (comes f es Fresh h);
  none_after_the_end = ap (has (is_poll f)) (after-filter (is_of f) (is_end f) (end-of f) es)
      ∙ (any-filter_same (is_poll f) (is_of f) true (poll-of f) (after_first (is_end f) es) ∙ none-after f es Fresh h);
}

-- what is over stays so, or breaks
over-go : (f : ℕ) (es : Trace) (b : Bool) → (phase_from f Over es ≡ Over) ⊎ (phase_from f Over es ≡ Broken) →
    (phase_from f (cond b Broken Over) es ≡ Over) ⊎ (phase_from f (cond b Broken Over) es ≡ Broken)
over-go f es true ih = inr (broken f es)
over-go f es false ih = ih

over-same : (f : ℕ) (es : Trace) (b : Bool) → (phase_from f Over es ≡ Over) ⊎ (phase_from f Over es ≡ Broken) →
    (phase_from f (cond b Over Over) es ≡ Over) ⊎ (phase_from f (cond b Over Over) es ≡ Broken)
over-same f es true ih = ih
over-same f es false ih = ih

over-stays : (f : ℕ) (es : Trace) → (phase_from f Over es ≡ Over) ⊎ (phase_from f Over es ≡ Broken)
over-stays f [] = inl refl
over-stays f (PollBegun p g ∷ es) = over-go f es (eqb f g) (over-stays f es)
over-stays f (Answered p g Ready ∷ es) = over-go f es (eqb f g) (over-stays f es)
over-stays f (Answered p g Pending ∷ es) = over-go f es (eqb f g) (over-stays f es)
over-stays f (Dropped p g ∷ es) = over-same f es (eqb f g) (over-stays f es)
over-stays f (_ ∷ es) = over-stays f es

-- and what was dropped is over
dropped-go : (f : ℕ) (s : Phase) (es : Trace) (b : Bool) →
    (has (is_dropped f) es ≡ true → (phase_from f s es ≡ Over) ⊎ (phase_from f s es ≡ Broken)) →
    (b || has (is_dropped f) es) ≡ true →
    (phase_from f (cond b (after_dropped s) s) es ≡ Over) ⊎ (phase_from f (cond b (after_dropped s) s) es ≡ Broken)
dropped-go f Fresh es true ih h = over-stays f es
dropped-go f Polling es true ih h = inr (broken f es)
dropped-go f Over es true ih h = over-stays f es
dropped-go f Broken es true ih h = inr (broken f es)
dropped-go f s es false ih h = ih h

dropped-from : (f : ℕ) (s : Phase) (es : Trace) → has (is_dropped f) es ≡ true →
    (phase_from f s es ≡ Over) ⊎ (phase_from f s es ≡ Broken)
dropped-from f s [] h = absurd (cc)
dropped-from f s (Dropped p g ∷ es) h = dropped-go f s es (eqb f g) (dropped-from f s es) h
dropped-from f s (e ∷ es) h = dropped-from f (passes f e s) es h

pub dropped-over : (f : ℕ) (es : Trace) → has (is_dropped f) es ≡ true → (phase f es ≡ Over) ⊎ (phase f es ≡ Broken)
dropped-over f es h = dropped-from f Fresh es h
