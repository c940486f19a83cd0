-- For the_closing_drop_keeps_the_order and the_closing_drop_wakes_in_order.
-- Lists of rising numbers, and which futures a trace has accepted and dropped, as more happens.
use Rattle.std.proofs.Common.{◌≡◌, ℕ, ◌<◌, ◌≤◌, List, [], ◌∷◌, ◌++◌, Bool, true, false, eqb, refl, sym, ap, ◌∙◌, arith}
use Rattle.std.proofs.Common.{append-nil}
use Rattle.executor_model.specs.ClosingOrder.{AllAbove, Ascends, accepted_in, dropped_in, dropped_since}
use Rattle.executor_model.specs.{Sound.times, Trace.Trace, Trace.has, Trace.is_drop_begun, Weights.same, World.without}
use Rattle.executor_model.proofs.{Types.Event, Steps.Hushed.is_hushed, Steps.Lists.same_cases}

-- rising numbers

above-append : (f : ℕ) (xs ys : List ℕ) → AllAbove f xs → AllAbove f ys → AllAbove f (xs ++ ys)
above-append f [] ys h k = k
above-append f (x ∷ xs) ys h k = (h.0, above-append f xs ys h.1 k)

above-left : (f : ℕ) (xs ys : List ℕ) → AllAbove f (xs ++ ys) → AllAbove f xs
above-left f [] ys h = tt
above-left f (x ∷ xs) ys h = (h.0, above-left f xs ys h.1)

pub ascends-left : (xs ys : List ℕ) → Ascends (xs ++ ys) → Ascends xs
ascends-left [] ys h = tt
ascends-left (x ∷ xs) ys h = (above-left x xs ys h.0, ascends-left xs ys h.1)

same-self : (f : ℕ) → same f f ≡ 1
same-self f = grind (arith, same_cases)

-- a greater one comes last
pub ascends-push : (xs : List ℕ) (n : ℕ) → ((g : ℕ) → 1 ≤ times g xs → g < n) → Ascends xs → Ascends (xs ++ n ∷ [])
ascends-push [] n k h = (tt, tt)
ascends-push (x ∷ xs) n k h = (
  above-append x xs (n ∷ []) h.0 (k x (omega (arith, same-self x)), tt),
  ascends-push xs n (λ g l. k g (omega (arith, l))) h.1,
)

above-without : (f g : ℕ) (xs : List ℕ) → AllAbove f xs → AllAbove f (without g xs)
above-without f g [] h = tt
above-without f g (x ∷ xs) h = by (eqb g x) (above-without f g xs h.1)
  where
    by : (b : Bool) → AllAbove f (without g xs) →
        AllAbove f (let l : List ℕ = elim b [ true ↦ xs | false ↦ x ∷ without g xs ] in l)
    by true k = h.1
    by false k = (h.0, k)

pub ascends-without : (g : ℕ) (xs : List ℕ) → Ascends xs → Ascends (without g xs)
ascends-without g [] h = tt
ascends-without g (x ∷ xs) h = by (eqb g x) (ascends-without g xs h.1)
  where
    by : (b : Bool) → Ascends (without g xs) →
        Ascends (let l : List ℕ = elim b [ true ↦ xs | false ↦ x ∷ without g xs ] in l)
    by true k = h.1
    by false k = (above-without x g xs h.0, k)

-- a list in which nothing stands
pub nothing-there : (xs : List ℕ) → ((g : ℕ) → times g xs ≡ 0) → xs ≡ []
nothing-there [] k = refl
nothing-there (x ∷ xs) k = absurd (omega (arith, k x, same-self x))

-- what a trace tells

-- a future comes or goes, or the executor's drop begins
abbrev pub tells_order : Event → Bool
tells_order (Event.Accepted p f) = true
tells_order (Event.Dropped p f) = true
tells_order (Event.DropBegun p) = true
tells_order _ = false

pub hushed-order : (e : Event) → is_hushed e ≡ true → tells_order e ≡ false
hushed-order (Event.Accepted p f) z = absurd (cc)
hushed-order (Event.Dropped p f) z = absurd (cc)
hushed-order (Event.DropBegun p) z = absurd (cc)
hushed-order _ z = refl

pub accepted-append : (es more : Trace) → accepted_in (es ++ more) ≡ accepted_in es ++ accepted_in more
accepted-append [] more = refl
accepted-append (Event.Accepted p f ∷ es) more = ap (λ (xs : List ℕ). f ∷ xs) (accepted-append es more)
accepted-append (_ ∷ es) more = accepted-append es more

dropped-append : (es more : Trace) → dropped_in (es ++ more) ≡ dropped_in es ++ dropped_in more
dropped-append [] more = refl
dropped-append (Event.Dropped p f ∷ es) more = ap (λ (xs : List ℕ). f ∷ xs) (dropped-append es more)
dropped-append (_ ∷ es) more = dropped-append es more

pub since-append : (es more : Trace) → has is_drop_begun es ≡ true →
    dropped_since (es ++ more) ≡ dropped_since es ++ dropped_in more
since-append [] more h = absurd (cc)
since-append (Event.DropBegun p ∷ es) more h = dropped-append es more
since-append (_ ∷ es) more h = since-append es more h

pub since-late : (es more : Trace) → has is_drop_begun es ≡ false → dropped_since (es ++ more) ≡ dropped_since more
since-late [] more h = refl
since-late (Event.DropBegun p ∷ es) more h = absurd (cc)
since-late (_ ∷ es) more h = since-late es more h

pub since-none : (es : Trace) → has is_drop_begun es ≡ false → dropped_since es ≡ []
since-none [] h = refl
since-none (Event.DropBegun p ∷ es) h = absurd (cc)
since-none (_ ∷ es) h = since-none es h

-- where nothing more is told of these

none-accepted : (more : Trace) → has tells_order more ≡ false → accepted_in more ≡ []
none-accepted [] h = refl
none-accepted (Event.Accepted p f ∷ es) h = absurd (cc)
none-accepted (Event.Dropped p f ∷ es) h = absurd (cc)
none-accepted (Event.DropBegun p ∷ es) h = absurd (cc)
none-accepted (_ ∷ es) h = none-accepted es h

none-dropped : (more : Trace) → has tells_order more ≡ false → dropped_in more ≡ []
none-dropped [] h = refl
none-dropped (Event.Accepted p f ∷ es) h = absurd (cc)
none-dropped (Event.Dropped p f ∷ es) h = absurd (cc)
none-dropped (Event.DropBegun p ∷ es) h = absurd (cc)
none-dropped (_ ∷ es) h = none-dropped es h

none-since : (more : Trace) → has tells_order more ≡ false → dropped_since more ≡ []
none-since [] h = refl
none-since (Event.Accepted p f ∷ es) h = absurd (cc)
none-since (Event.Dropped p f ∷ es) h = absurd (cc)
none-since (Event.DropBegun p ∷ es) h = absurd (cc)
none-since (_ ∷ es) h = none-since es h

pub accepted-same : (es more : Trace) → has tells_order more ≡ false → accepted_in (es ++ more) ≡ accepted_in es
accepted-same es more h = accepted-append es more
    ∙ (ap (λ (xs : List ℕ). accepted_in es ++ xs) (none-accepted more h) ∙ append-nil (accepted_in es))

pub since-same : (es more : Trace) → has tells_order more ≡ false → dropped_since (es ++ more) ≡ dropped_since es
since-same es more h = by (has is_drop_begun es) refl
  where
    by : (b : Bool) → has is_drop_begun es ≡ b → dropped_since (es ++ more) ≡ dropped_since es
    by true e = since-append es more e
        ∙ (ap (λ (xs : List ℕ). dropped_since es ++ xs) (none-dropped more h) ∙ append-nil (dropped_since es))
    by false e = since-late es more e ∙ (none-since more h ∙ sym (since-none es e))
