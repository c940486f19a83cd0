-- Polls and answers take turns among all events of a trace, as among those of their future.
use Rattle.std.proofs.Common.{◌≡◌, ℕ, ◌+◌, suc, List, [], ◌∷◌, Bool, true, false, ◌||◌, cond, not, drop, refl, sym, ap, ◌∙◌, subst, arith}
use Rattle.std.proofs.lemmas.Map.Views.{any-filter_same}
use Rattle.std.specs.List.{filter, list_any, after_first, position_or_len}
use Rattle.executor_model.specs.declared.event.Answer.TheVariants as answer
use Rattle.executor_model.specs.declared.event.Event.{Event}
use Rattle.executor_model.specs.declared.event.Event.TheVariants as event
use Rattle.executor_model.specs.LawfulPolls
use Rattle.executor_model.specs.Trace.{Trace, is_of}
use Rattle.executor_core.specs.Headline as headline

-- a filter by more than is asked for changes nothing
merge : (p q : Event → Bool) → ((e : Event) → q e ≡ true → p e ≡ true) → (es : Trace) → filter q (filter p es) ≡ filter q es
merge p q i [] = refl
merge p q i (e ∷ es) = let r = merge p q i es in let k = i e in grind (arith, r, k)

one_more : (n : ℕ) → 1 + n + 1 ≡ suc (n + 1)
one_more n = omega arith

-- what comes after the first
after-cons : (q : Event → Bool) (e : Event) (es : Trace) (b : Bool) → q e ≡ b → after_first q (e ∷ es) ≡ cond b es (after_first q es)
after-cons q e es true h = ap (λ (c : Bool). drop (cond (not c) (1 + position_or_len q es) 0 + 1) (e ∷ es)) h
after-cons q e es false h =
    ap (λ (c : Bool). drop (cond (not c) (1 + position_or_len q es) 0 + 1) (e ∷ es)) h
    ∙ ap (λ (n : ℕ). drop n (e ∷ es)) (one_more (position_or_len q es))

after-one : (p q : Event → Bool) (e : Event) (es : Trace) (a b : Bool) → p e ≡ a → q e ≡ b → (q e ≡ true → p e ≡ true) →
    after_first q (filter p es) ≡ filter p (after_first q es) →
    after_first q (cond a (e ∷ filter p es) (filter p es)) ≡ filter p (cond b es (after_first q es))
after-one p q e es true true h k i r = after-cons q e (filter p es) true k
after-one p q e es true false h k i r = after-cons q e (filter p es) false k ∙ r
after-one p q e es false false h k i r = r
after-one p q e es false true h k i r = let no = i k in absurd (cc)

after-filter : (p q : Event → Bool) → ((e : Event) → q e ≡ true → p e ≡ true) → (es : Trace) →
    after_first q (filter p es) ≡ filter p (after_first q es)
after-filter p q i [] = refl
after-filter p q i (e ∷ es) =
    after-one p q e es (p e) (q e) refl refl (i e) (after-filter p q i es) ∙ ap (filter p) (sym (after-cons q e es (q e) refl))

turn-of : (f : ℕ) (e : Event) → (headline.is_poll f e || headline.is_answer f e) ≡ true → is_of f e ≡ true
turn-of f (event.PollBegun p g) h = grind (arith, h)
turn-of f (event.Answered p g a) h = grind (arith, h)
turn-of f _ h = absurd (cc)

end-of : (f : ℕ) (e : Event) → (headline.is_ready f e || headline.is_dropped f e) ≡ true → is_of f e ≡ true
end-of f (event.Answered p g answer.Ready) h = grind (arith, h)
end-of f (event.Dropped p g) h = grind (arith, h)
end-of f _ h = absurd (cc)

poll-of : (f : ℕ) (e : Event) → headline.is_poll f e ≡ true → is_of f e ≡ true
poll-of f (event.PollBegun p g) h = grind (arith, h)
poll-of f _ h = absurd (cc)

pub lawful : (f : ℕ) (t : Trace) → LawfulPolls.HasLawfulPolls f t → headline.HasLawfulPolls f t
lawful f t l = record {
  turns = subst headline.TakeTurns (merge (is_of f) (λ e. headline.is_poll f e || headline.is_answer f e) (turn-of f) t) l.turns;
  none_after_the_end =
      sym (any-filter_same (headline.is_poll f) (is_of f) true (poll-of f) (after_first (LawfulPolls.is_end f) t))
      ∙ ap (list_any (headline.is_poll f)) (sym (after-filter (is_of f) (LawfulPolls.is_end f) (end-of f) t))
      ∙ l.none_after_the_end;
}
