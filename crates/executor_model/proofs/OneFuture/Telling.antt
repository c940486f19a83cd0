-- For all laws of one future.
-- What a story says of a future is what the definitions over its trace say.
use Rattle.std.proofs.Common.{◌≡◌, ◌⊎◌, ℕ, zero, suc, ◌+◌, ◌≤◌, List, [], ◌∷◌, ◌++◌, length, Bool, true, false, ◌||◌, not, cond}
use Rattle.std.proofs.Common.{eqb, take, refl, sym, ap, ◌∙◌, subst, inl, inr, ⊎_elim, arith}
use Rattle.std.{specs.Prelude.fold, specs.Prelude.count_by, specs.List.before_first, specs.List.position_or_len}
use Rattle.executor_model.proofs.Types.{Kind, Event}
use Rattle.executor_model.specs.declared.event.Event.TheVariants.{Accepted, Answered, Cancelled, Detached, LastWaker, Dropped}
use Rattle.executor_model.specs.declared.kind.Kind.TheVariants.{Static}
use Rattle.executor_model.specs.declared.event.Answer.TheVariants.{Pending, Ready}
use Rattle.executor_model.specs.declared.event.Event.TheVariants.{DropBegun, DropEnded}
use Rattle.executor_model.specs.Trace.{Trace, has, is_accepted, is_dropped, is_ready, is_cancelled, is_detached, is_drop_begun}
use Rattle.executor_model.specs.EarlyDrop.{before_drop, EarlyDropHasCause, IsForgotten, LastWakerIsLast}
use Rattle.executor_model.specs.{Trace.is_drop_ended, Trace.is_last_waker, Trace.is_leak_begun, Weights.same}
use Rattle.executor_model.proofs.OneFuture.Stories.{Story, untold, except, hears, story_from, story}

pub same-cond : (g f : ℕ) → same g f ≡ cond (eqb g f) 1 0
unfolding same
same-cond g f = refl

pub one-stray : (b c : Bool) (n : ℕ) → n ≡ cond b 1 0 → cond b (cond c 0 1) 0 ≤ n
one-stray true true n e = omega arith
one-stray true false n e = omega (arith, e)
one-stray false c n e = omega arith

-- how often it was dropped and accepted

fallen-one : (g : ℕ) (e : Event) (s : Story) → (hears g e s).fallen ≡ s.fallen + cond (is_dropped g e) 1 0
fallen-one g (Dropped p f) s = omega (arith, same-cond g f)
fallen-one g (Answered p f Ready) s = omega arith
fallen-one g (Answered p f Pending) s = omega arith
fallen-one g _ s = omega arith

fallen-from : (g : ℕ) (s : Story) (es : Trace) →
    (story_from g s es).fallen ≡ fold (λ a x. a + cond (is_dropped g x) 1 0) s.fallen es
fallen-from g s [] = refl
fallen-from g s (e ∷ es) =
    fallen-from g (hears g e s) es ∙ ap (λ (n : ℕ). fold (λ a x. a + cond (is_dropped g x) 1 0) n es) (fallen-one g e s)

pub fallen-counts : (g : ℕ) (es : Trace) → (story g es).fallen ≡ count_by (is_dropped g) es
unfolding story
fallen-counts g es = fallen-from g untold es

accepted-one : (g : ℕ) (e : Event) (s : Story) → (hears g e s).accepted ≡ s.accepted + cond (is_accepted g e) 1 0
accepted-one g (Accepted p f) s = omega (arith, same-cond g f)
accepted-one g (Answered p f Ready) s = omega arith
accepted-one g (Answered p f Pending) s = omega arith
accepted-one g _ s = omega arith

accepted-from : (g : ℕ) (s : Story) (es : Trace) →
    (story_from g s es).accepted ≡ fold (λ a x. a + cond (is_accepted g x) 1 0) s.accepted es
accepted-from g s [] = refl
accepted-from g s (e ∷ es) =
    accepted-from g (hears g e s) es ∙ ap (λ (n : ℕ). fold (λ a x. a + cond (is_accepted g x) 1 0) n es)
    (accepted-one g e s)

pub accepted-counts : (g : ℕ) (es : Trace) → (story g es).accepted ≡ count_by (is_accepted g) es
unfolding story
accepted-counts g es = accepted-from g untold es

-- whether such an event is there, where it is counted

fold-more : (f : Event → ℕ) (n : ℕ) (es : Trace) → n ≤ fold (λ a x. a + f x) n es
fold-more f n [] = omega arith
fold-more f n (e ∷ es) = omega (arith, fold-more f (n + f e) es)

has-counts-go : (test : Event → Bool) (n : ℕ) (b : Bool) (es : Trace) →
    (has test es ≡ true → suc n ≤ fold (λ a x. a + cond (test x) 1 0) n es) → (b || has test es) ≡ true →
    suc n ≤ fold (λ a x. a + cond (test x) 1 0) (n + cond b 1 0) es
has-counts-go test n true es ih h = omega (arith, fold-more (λ x. cond (test x) 1 0) (n + 1) es)
has-counts-go test n false es ih h = subst (λ (m : ℕ). suc n ≤ fold (λ a x. a + cond (test x) 1 0) m es)
    (let z : n ≡ n + 0 = omega arith in z) (ih h)

has-counts : (test : Event → Bool) (n : ℕ) (es : Trace) → has test es ≡ true →
    suc n ≤ fold (λ a x. a + cond (test x) 1 0) n es
has-counts test n [] h = absurd (cc)
has-counts test n (e ∷ es) h = has-counts-go test n (test e) es (has-counts test n es) h

pub counted-there : (test : Event → Bool) (es : Trace) → has test es ≡ true → 1 ≤ count_by test es
counted-there test es h = has-counts test 0 es h

-- whether the drop of the executor has ended

or-true : (b : Bool) → true ≡ (b || true)
or-true true = refl
or-true false = refl

or-false : (b : Bool) → b ≡ (b || false)
or-false true = refl
or-false false = refl

-- as it was or for this event, or later
or-with : (a b c : Bool) → (cond a true b || c) ≡ (b || (a || c))
or-with true true c = refl
or-with true false c = refl
or-with false b c = refl

cond-or : (a b : Bool) → cond a true b ≡ (a || b)
cond-or true b = refl
cond-or false b = refl

ended-from : (g : ℕ) (s : Story) (es : Trace) → (story_from g s es).ended ≡ (s.ended || has is_drop_ended es)
ended-from g s [] = or-false s.ended
ended-from g s (DropEnded p ∷ es) = ended-from g (hears g (DropEnded p) s) es ∙ or-true s.ended
ended-from g s (Answered p f Ready ∷ es) = ended-from g (hears g (Answered p f Ready) s) es
ended-from g s (Answered p f Pending ∷ es) = ended-from g s es
ended-from g s (e ∷ es) = ended-from g (hears g e s) es

pub ended-has : (g : ℕ) (es : Trace) → (story g es).ended ≡ has is_drop_ended es
unfolding story
ended-has g es = ended-from g untold es

-- whether the drop of the executor has begun

begun-from : (g : ℕ) (s : Story) (es : Trace) → (story_from g s es).begun ≡ (s.begun || has is_drop_begun es)
begun-from g s [] = or-false s.begun
begun-from g s (DropBegun p ∷ es) = begun-from g (hears g (DropBegun p) s) es ∙ or-true s.begun
begun-from g s (Answered p f Ready ∷ es) = begun-from g (hears g (Answered p f Ready) s) es
begun-from g s (Answered p f Pending ∷ es) = begun-from g s es
begun-from g s (e ∷ es) = begun-from g (hears g e s) es

pub begun-has : (g : ℕ) (es : Trace) → (story g es).begun ≡ has is_drop_begun es
unfolding story
begun-has g es = begun-from g untold es

has-none-go : (test : Event → Bool) (n : ℕ) (b : Bool) (es : Trace) →
    (has test es ≡ false → fold (λ a x. a + cond (test x) 1 0) n es ≡ n) → (b || has test es) ≡ false →
    fold (λ a x. a + cond (test x) 1 0) (n + cond b 1 0) es ≡ n
has-none-go test n true es ih h = absurd (cc)
has-none-go test n false es ih h =
    ap (λ (m : ℕ). fold (λ a x. a + cond (test x) 1 0) m es) (let z : n + 0 ≡ n = omega arith in z) ∙ ih h

has-none : (test : Event → Bool) (n : ℕ) (es : Trace) → has test es ≡ false →
    fold (λ a x. a + cond (test x) 1 0) n es ≡ n
has-none test n [] h = refl
has-none test n (e ∷ es) h = has-none-go test n (test e) es (has-none test n es) h

-- an event is there where it is counted
pub there-or-none : (test : Event → Bool) (es : Trace) →
    ((has test es ≡ true) × (1 ≤ count_by test es)) ⊎ ((has test es ≡ false) × (count_by test es ≡ 0))
there-or-none test es = go (has test es) refl
  where
    go : (b : Bool) → has test es ≡ b →
        ((has test es ≡ true) × (1 ≤ count_by test es)) ⊎ ((has test es ≡ false) × (count_by test es ≡ 0))
    go true e = inl (e, counted-there test es e)
    go false e = inr (e, has-none test 0 es e)

pub counted-drop : (f : ℕ) (es : Trace) → 1 ≤ (story f es).fallen → has (is_dropped f) es ≡ true
counted-drop f es n = ⊎_elim (λ (x : (has (is_dropped f) es ≡ true) × (1 ≤ count_by (is_dropped f) es)). x.0)
    (λ (x : (has (is_dropped f) es ≡ false) × (count_by (is_dropped f) es ≡ 0)).
    absurd (omega (arith, x.1, n, fallen-counts f es))) (there-or-none (is_dropped f) es)

-- the standing futures are the same in all stories

abbrev pub standing_one : Event → Bool → List ℕ → List ℕ
standing_one (Accepted p f) b xs = xs ++ f ∷ []
standing_one (Dropped p f) b xs = cond b xs (except f xs)
standing_one _ b xs = xs

abbrev pub begun_one : Event → Bool → Bool
begun_one (DropBegun p) b = true
begun_one _ b = b

abbrev pub standing_from : Bool → List ℕ → Trace → List ℕ
standing_from b xs [] = xs
standing_from b xs (e ∷ es) = standing_from (begun_one e b) (standing_one e b xs) es

one-standing : (g : ℕ) (e : Event) (s : Story) → (hears g e s).standing ≡ standing_one e s.begun s.standing
one-standing g (Answered p f Ready) s = refl
one-standing g (Answered p f Pending) s = refl
one-standing g _ s = refl

one-begun : (g : ℕ) (e : Event) (s : Story) → (hears g e s).begun ≡ begun_one e s.begun
one-begun g (Answered p f Ready) s = refl
one-begun g (Answered p f Pending) s = refl
one-begun g _ s = refl

stands-from : (g : ℕ) (s : Story) (es : Trace) → (story_from g s es).standing ≡ standing_from s.begun s.standing es
stands-from g s [] = refl
stands-from g s (e ∷ es) =
    stands-from g (hears g e s) es
    ∙ subst (λ (x : Bool × List ℕ). standing_from (hears g e s).begun (hears g e s).standing es
    ≡ standing_from x.0 x.1 es) (λ i. (one-begun g e s i, one-standing g e s i)) refl

pub same-standing : (g k : ℕ) (es : Trace) → (story g es).standing ≡ (story k es).standing
unfolding story
same-standing g k es = stands-from g untold es ∙ sym (stands-from k untold es)

-- a drop before that of the executor began

early-one : (g : ℕ) (e : Event) (s : Story) → s.early ≤ (hears g e s).early
early-one g (Answered p f Ready) s = omega arith
early-one g (Answered p f Pending) s = omega arith
early-one g (Dropped p f) s = omega arith
early-one g _ s = omega arith

early-more : (g : ℕ) (s : Story) (es : Trace) → s.early ≤ (story_from g s es).early
early-more g s [] = omega arith
early-more g s (e ∷ es) = omega (arith, early-one g e s, early-more g (hears g e s) es)

-- a drop before which there is no cause

strays-one : (g : ℕ) (e : Event) (s : Story) → s.strays ≤ (hears g e s).strays
strays-one g (Answered p f Ready) s = omega arith
strays-one g (Answered p f Pending) s = omega arith
strays-one g (Dropped p f) s = omega arith
strays-one g _ s = omega arith

strays-more : (g : ℕ) (s : Story) (es : Trace) → s.strays ≤ (story_from g s es).strays
strays-more g s [] = omega arith
strays-more g s (e ∷ es) = omega (arith, strays-one g e s, strays-more g (hears g e s) es)

-- whether it was detached, and nobody was left who could wake it

pub detached-from : (g : ℕ) (s : Story) (es : Trace) → (story_from g s es).detached ≡ (s.detached || has (is_detached g) es)
detached-from g s [] = or-false s.detached
detached-from g s (Detached p f ∷ es) = detached-from g (hears g (Detached p f) s) es ∙ or-with (eqb g f) s.detached _
detached-from g s (Answered p f Ready ∷ es) = detached-from g (hears g (Answered p f Ready) s) es
detached-from g s (Answered p f Pending ∷ es) = detached-from g s es
detached-from g s (e ∷ es) = detached-from g (hears g e s) es

kept-last : (b l c : Bool) → l ≡ true → cond b (l || c) l ≡ true
kept-last true true c h = refl
kept-last true false c h = absurd (cc)
kept-last false l c h = h

pub one-last : (f : ℕ) (e : Event) (s : Story) → s.last ≡ true → (hears f e s).last ≡ true
one-last f (LastWaker p g) s h = kept-last (eqb f g) s.last (not s.begun) h
one-last f (Answered p g Ready) s h = h
one-last f (Answered p g Pending) s h = h
one-last f _ s h = h

stays-last : (f : ℕ) (s : Story) (es : Trace) → s.last ≡ true → (story_from f s es).last ≡ true
stays-last f s [] h = h
stays-last f s (e ∷ es) h = stays-last f (hears f e s) es (one-last f e s h)

pub begun-hears : (f : ℕ) (e : Event) (s : Story) → (hears f e s).begun ≡ (is_drop_begun e || s.begun)
begun-hears f (DropBegun p) s = refl
begun-hears f (Answered p g Ready) s = refl
begun-hears f (Answered p g Pending) s = refl
begun-hears f _ s = refl

swap-or : (a b c : Bool) → ((a || b) || c) ≡ true → (b || (a || c)) ≡ true
swap-or true true c h = refl
swap-or true false c h = refl
swap-or false b c h = h

new-last : (b l c : Bool) → b ≡ true → (c ≡ true) ⊎ (cond b (l || not c) l ≡ true)
new-last true l true h = inl refl
new-last true true false h = inr refl
new-last true false false h = inr refl
new-last false l c h = absurd (cc)

pub first-last : (f : ℕ) (e : Event) (s : Story) → is_last_waker f e ≡ true → (s.begun ≡ true) ⊎ ((hears f e s).last ≡ true)
first-last f (LastWaker p g) s h = new-last (eqb f g) s.last s.begun h
first-last f _ s h = absurd (cc)

last-one : (f n : ℕ) (s : Story) (e : Event) (es : Trace) (b : Bool) → is_last_waker f e ≡ b →
    (has (is_last_waker f) (take n es) ≡ true → (((hears f e s).begun || has is_drop_begun (take n es)) ≡ true)
    ⊎ ((story_from f (hears f e s) es).last ≡ true)) → (b || has (is_last_waker f) (take n es)) ≡ true →
    ((s.begun || (is_drop_begun e || has is_drop_begun (take n es))) ≡ true)
    ⊎ ((story_from f (hears f e s) es).last ≡ true)
last-one f n s e es true q ih h = ⊎_elim
    (λ (x : s.begun ≡ true). inl (rw x refl))
    (λ (x : (hears f e s).last ≡ true). inr (stays-last f (hears f e s) es x)) (first-last f e s q)
last-one f n s e es false q ih h = ⊎_elim
    (λ (x : ((hears f e s).begun || has is_drop_begun (take n es)) ≡ true).
    inl (swap-or (is_drop_begun e) s.begun (has is_drop_begun (take n es))
    (ap (λ (c : Bool). c || has is_drop_begun (take n es)) (sym (begun-hears f e s)) ∙ x)))
    (λ (x : (story_from f (hears f e s) es).last ≡ true). inr x) (ih h)

-- nobody was left who could wake it, after the drop of the executor began or before
last-or-begun : (f n : ℕ) (s : Story) (es : Trace) → has (is_last_waker f) (take n es) ≡ true →
    ((s.begun || has is_drop_begun (take n es)) ≡ true) ⊎ ((story_from f s es).last ≡ true)
last-or-begun f zero s es h = absurd (cc)
last-or-begun f (suc n) s [] h = absurd (cc)
last-or-begun f (suc n) s (e ∷ es) h = last-one f n s e es (is_last_waker f e) refl (last-or-begun f n (hears f e s) es) h

-- it was ready, or cancelled, or the drop of the executor has begun, or it was detached, by then or in this, and nobody
-- was left who could wake it
abbrev pub HasCause : ℕ → Bool → Trace → Type 0
HasCause f d es = (has (is_ready f) es ≡ true) ⊎ ((has (is_cancelled f) es ≡ true) ⊎ ((has is_drop_begun es ≡ true)
    ⊎ (((d || has (is_detached f) es) ≡ true) × (has (is_last_waker f) es ≡ true))))

abbrev pub IsCause : ℕ → Bool → Event → Type 0
IsCause f d e = (is_ready f e ≡ true) ⊎ ((is_cancelled f e ≡ true) ⊎ ((is_drop_begun e ≡ true)
    ⊎ ((d ≡ true) × (is_last_waker f e ≡ true))))

or-left : (a b : Bool) → a ≡ true → (a || b) ≡ true
or-left true b e = refl
or-left false b e = absurd (cc)

or-right : (a b : Bool) → b ≡ true → (a || b) ≡ true
or-right true b e = refl
or-right false b e = e

now-cause : (f : ℕ) (d : Bool) (e : Event) (es : Trace) → IsCause f d e → HasCause f d (e ∷ es)
now-cause f d e es (inl x) = inl (or-left _ _ x)
now-cause f d e es (inr (inl x)) = inr (inl (or-left _ _ x))
now-cause f d e es (inr (inr (inl x))) = inr (inr (inl (or-left _ _ x)))
now-cause f d e es (inr (inr (inr x))) = inr (inr (inr (or-left _ _ x.0, or-left _ _ x.1)))

-- a detach that is heard is one that is there
hears-detached : (f : ℕ) (e : Event) (s : Story) → (hears f e s).detached ≡ (is_detached f e || s.detached)
hears-detached f (Detached p g) s = cond-or (eqb f g) s.detached
hears-detached f (Answered p g Ready) s = refl
hears-detached f (Answered p g Pending) s = refl
hears-detached f _ s = refl

or-swap : (a b c : Bool) → ((a || b) || c) ≡ (b || (a || c))
or-swap true true c = refl
or-swap true false c = refl
or-swap false b c = refl

later-cause : (f : ℕ) (e : Event) (s : Story) (es : Trace) → HasCause f (hears f e s).detached es →
    HasCause f s.detached (e ∷ es)
later-cause f e s es (inl x) = inl (or-right _ _ x)
later-cause f e s es (inr (inl x)) = inr (inl (or-right _ _ x))
later-cause f e s es (inr (inr (inl x))) = inr (inr (inl (or-right _ _ x)))
later-cause f e s es (inr (inr (inr x))) = inr (inr (inr (
  sym (or-swap (is_detached f e) s.detached (has (is_detached f) es))
      ∙ (ap (λ (b : Bool). b || has (is_detached f) es) (sym (hears-detached f e s)) ∙ x.0),
  or-right _ _ x.1,
)))

cond-cause : (b c : Bool) → cond b true c ≡ true → (c ≡ true) ⊎ (b ≡ true)
cond-cause true c e = inr refl
cond-cause false c e = inl e

cond-last : (b c d : Bool) → cond b (c || d) c ≡ true → (c ≡ true) ⊎ ((d ≡ true) × (b ≡ true))
cond-last true true d e = inl refl
cond-last true false d e = inr (e, refl)
cond-last false c d e = inl e

cause-one : (f : ℕ) (e : Event) (s : Story) → (hears f e s).caused ≡ true →
    (s.caused ≡ true) ⊎ IsCause f s.detached e
cause-one f (Answered p g Ready) s h =
    ⊎_elim (λ x. inl x) (λ (x : eqb f g ≡ true). inr (inl x)) (cond-cause (eqb f g) s.caused h)
cause-one f (Answered p g Pending) s h = inl h
cause-one f (Cancelled p g) s h =
    ⊎_elim (λ x. inl x) (λ (x : eqb f g ≡ true). inr (inr (inl x))) (cond-cause (eqb f g) s.caused h)
cause-one f (LastWaker p g) s h =
    ⊎_elim (λ x. inl x) (λ (x : (s.detached ≡ true) × (eqb f g ≡ true)). inr (inr (inr (inr x))))
    (cond-last (eqb f g) s.caused s.detached h)
cause-one f (DropBegun p) s h = inr (inr (inr (inl refl)))
cause-one f _ s h = inl h

-- what comes before the first
pub before-cons : (q : Event → Bool) (e : Event) (es : Trace) → q e ≡ false →
    before_first q (e ∷ es) ≡ e ∷ before_first q es
before-cons q e es h = ap (λ (c : Bool). take (cond (not c) (1 + position_or_len q es) 0) (e ∷ es)) h
    ∙ ap (λ (n : ℕ). take n (e ∷ es)) (let z : 1 + position_or_len q es ≡ suc (position_or_len q es) = omega arith in z)

abbrev pub Excused : ℕ → Story → Trace → Type 0
Excused f s es = (s.caused ≡ true) ⊎ HasCause f s.detached (before_drop f es)

excused-first : (f : ℕ) (e : Event) (s : Story) (c : Bool) → s.caused ≡ c → is_dropped f e ≡ true →
    (hears f e s).strays ≡ 0 → s.caused ≡ true
excused-first f (Dropped p g) s true k d h = k
excused-first f (Dropped p g) s false k d h =
    let x : s.strays + cond s.caused 0 (same f g) ≡ 0 = h in
    let y : cond s.caused 0 (same f g) ≡ same f g = ap (λ (b : Bool). cond b 0 (same f g)) k in
    let z : same f g ≡ 1 = same-cond f g ∙ ap (λ (b : Bool). cond b 1 0) d in
    absurd (omega (arith, x, y, z))
excused-first f _ s c k d h = absurd (cc)

excused-later : (f : ℕ) (e : Event) (s : Story) (es : Trace) → is_dropped f e ≡ false → Excused f (hears f e s) es →
    Excused f s (e ∷ es)
excused-later f e s es d x =
    rw (before-cons (is_dropped f) e es d)
    (⊎_elim (λ (c : (hears f e s).caused ≡ true). ⊎_elim (λ k. inl k)
    (λ (k : IsCause f s.detached e). inr (now-cause f s.detached e (before_drop f es) k)) (cause-one f e s c))
    (λ (c : HasCause f (hears f e s).detached (before_drop f es)). inr (later-cause f e s (before_drop f es) c)) x)

excused-go : (f : ℕ) (e : Event) (s : Story) (es : Trace) (b : Bool) → is_dropped f e ≡ b →
    (story_from f (hears f e s) es).strays ≡ 0 → (has (is_dropped f) es ≡ true → Excused f (hears f e s) es) →
    (b || has (is_dropped f) es) ≡ true → Excused f s (e ∷ es)
excused-go f e s es true d z ih h =
    inl (excused-first f e s s.caused refl d (omega (arith, z, strays-more f (hears f e s) es)))
excused-go f e s es false d z ih h = excused-later f e s es d (ih h)

excused : (f : ℕ) (s : Story) (es : Trace) → (story_from f s es).strays ≡ 0 → has (is_dropped f) es ≡ true →
    Excused f s es
excused f s [] z h = absurd (cc)
excused f s (e ∷ es) z h = excused-go f e s es (is_dropped f e) refl z (excused f (hears f e s) es z) h

pub drop-has-cause : (kind : Kind) (f : ℕ) (es : Trace) → (story f es).strays ≡ 0 →
    (has (is_last_waker f) (before_drop f es) ≡ true → (has is_drop_begun (before_drop f es) ≡ true)
    ⊎ ((kind ≡ Static) ⊎ (has is_leak_begun (before_drop f es) ≡ true))) → EarlyDropHasCause kind f es
unfolding story
drop-has-cause kind f es z k early = go (excused f untold es z early.dropped)
  where
    forgets : has (is_detached f) (before_drop f es) ≡ true → has (is_last_waker f) (before_drop f es) ≡ true →
        (has is_drop_begun (before_drop f es) ≡ true) ⊎ IsForgotten kind f (before_drop f es)
    forgets d l = ⊎_elim
        (λ (x : has is_drop_begun (before_drop f es) ≡ true). inl x)
        (λ (x : (kind ≡ Static) ⊎ (has is_leak_begun (before_drop f es) ≡ true)).
        inr (record { static = x; detached = d; unwakeable = l })) (k l)

    go : Excused f untold es → (has (is_cancelled f) (before_drop f es) ≡ true)
        ⊎ ((has is_drop_begun (before_drop f es) ≡ true) ⊎ IsForgotten kind f (before_drop f es))
    go (inl x) = absurd (cc)
    go (inr (inl x)) = let no : true ≡ false = sym x ∙ early.early in absurd (cc)
    go (inr (inr (inl x))) = inl x
    go (inr (inr (inr (inl x)))) = inr (inl x)
    go (inr (inr (inr (inr x)))) = inr (forgets x.0 x.1)

pub take-all : (es : Trace) → take (length es) es ≡ es
take-all [] = refl
take-all (e ∷ es) = ap (λ (xs : Trace). e ∷ xs) (take-all es)

-- and so it is of the whole trace
pub last-forgotten : (kind : Kind) (f : ℕ) (es : Trace) → ((story f es).last ≡ true → (story f es).detached ≡ true) →
    (has (is_last_waker f) es ≡ true → (has is_drop_begun es ≡ true)
    ⊎ ((kind ≡ Static) ⊎ (has is_leak_begun es ≡ true))) → LastWakerIsLast kind f es
unfolding story
last-forgotten kind f es d k l = ⊎_elim
    (λ (x : has is_drop_begun (take (length es) es) ≡ true).
    inl (subst (λ (xs : Trace). has is_drop_begun xs ≡ true) (take-all es) x))
    (λ (x : (story_from f untold es).last ≡ true). ⊎_elim
    (λ (y : has is_drop_begun es ≡ true). inl y)
    (λ (y : (kind ≡ Static) ⊎ (has is_leak_begun es ≡ true)).
    inr (record { static = y; detached = sym (detached-from f untold es) ∙ d x; unwakeable = l })) (k l))
    (last-or-begun f (length es) untold es
    (subst (λ (xs : Trace). has (is_last_waker f) xs ≡ true) (sym (take-all es)) l))

-- the drop of the executor had begun before that of the future

abbrev pub Follows : ℕ → Story → Trace → Type 0
Follows f s es = (s.begun ≡ true) ⊎ (has is_drop_begun (before_drop f es) ≡ true)

begun-or : (f : ℕ) (e : Event) (s : Story) → (hears f e s).begun ≡ true → (s.begun ≡ true) ⊎ (is_drop_begun e ≡ true)
begun-or f (DropBegun p) s h = inr refl
begun-or f (Answered p g Ready) s h = inl h
begun-or f (Answered p g Pending) s h = inl h
begun-or f _ s h = inl h

follows-first : (f : ℕ) (e : Event) (s : Story) (b : Bool) → s.begun ≡ b → is_dropped f e ≡ true →
    (hears f e s).early ≡ 0 → s.begun ≡ true
follows-first f (Dropped p g) s true k d h = k
follows-first f (Dropped p g) s false k d h =
    let x : s.early + cond s.begun 0 (same f g) ≡ 0 = h in
    let y : cond s.begun 0 (same f g) ≡ same f g = ap (λ (b : Bool). cond b 0 (same f g)) k in
    let z : same f g ≡ 1 = same-cond f g ∙ ap (λ (b : Bool). cond b 1 0) d in
    absurd (omega (arith, x, y, z))
follows-first f _ s b k d h = absurd (cc)

follows-later : (f : ℕ) (e : Event) (s : Story) (es : Trace) → is_dropped f e ≡ false → Follows f (hears f e s) es →
    Follows f s (e ∷ es)
follows-later f e s es d x = rw (before-cons (is_dropped f) e es d) (⊎_elim
    (λ (b : (hears f e s).begun ≡ true). ⊎_elim (λ k. inl k) (λ (k : is_drop_begun e ≡ true). inr (or-left _ _ k))
    (begun-or f e s b))
    (λ (c : has is_drop_begun (before_drop f es) ≡ true). inr (or-right _ _ c))
    x)

follows-go : (f : ℕ) (e : Event) (s : Story) (es : Trace) (b : Bool) → is_dropped f e ≡ b →
    (story_from f (hears f e s) es).early ≡ 0 → (has (is_dropped f) es ≡ true → Follows f (hears f e s) es) →
    (b || has (is_dropped f) es) ≡ true → Follows f s (e ∷ es)
follows-go f e s es true d z ih h =
    inl (follows-first f e s s.begun refl d (omega (arith, z, early-more f (hears f e s) es)))
follows-go f e s es false d z ih h = follows-later f e s es d (ih h)

follows : (f : ℕ) (s : Story) (es : Trace) → (story_from f s es).early ≡ 0 → has (is_dropped f) es ≡ true →
    Follows f s es
follows f s [] z h = absurd (cc)
follows f s (e ∷ es) z h = follows-go f e s es (is_dropped f e) refl z (follows f (hears f e s) es z) h

pub drop-follows : (f : ℕ) (es : Trace) → (story f es).early ≡ 0 → has (is_dropped f) es ≡ true →
    has is_drop_begun (before_drop f es) ≡ true
unfolding story
drop-follows f es z d = go (follows f untold es z d)
  where
    go : Follows f untold es → has is_drop_begun (before_drop f es) ≡ true
    go (inl x) = absurd (cc)
    go (inr x) = x
