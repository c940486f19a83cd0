-- For early_drops_have_causes and last_wakers_are_of_detached_futures.
-- Where nobody is left who could wake a future, and the drop of the executor hasn't begun, a leak of an owned executor had
-- begun by then.
use Rattle.std.proofs.Common.{◌≡◌, ◌⊎◌, ℕ, zero, suc, [], ◌∷◌, ◌++◌, Bool, true, false, ◌&&◌, ◌||◌, not, take, refl, sym, ap}
use Rattle.std.proofs.Common.{◌∙◌, inl, inr, ⊎_elim}
use Rattle.executor_model.proofs.Types.{Event}
use Rattle.executor_model.specs.Trace.{Trace, has, is_drop_begun, is_last_waker, is_leak_begun}
use Rattle.executor_model.proofs.OneFuture.Stories.{Story, hears, story, story_from, untold}
use Rattle.executor_model.proofs.OneFuture.Telling.{begun-hears, first-last, one-last}

pub record Reading : Type 0 where
  -- the drop of the executor has begun, or a leak
  pub begun : Bool
  pub leaked : Bool
  -- nobody was left who could wake the future while neither had begun
  pub bare : Bool

abbrev pub unread : Reading
unread = record { begun = false; leaked = false; bare = false }

abbrev pub reads : ℕ → Event → Reading → Reading
reads f e s = record {
  begun = s.begun || is_drop_begun e;
  leaked = s.leaked || is_leak_begun e;
  bare = s.bare || (is_last_waker f e && not (s.begun || s.leaked));
}

abbrev pub reads_from : ℕ → Reading → Trace → Reading
reads_from f s [] = s
reads_from f s (e ∷ es) = reads_from f (reads f e s) es

-- tests

or-left : (a b : Bool) → a ≡ true → (a || b) ≡ true
or-left true b e = refl
or-left false b e = absurd (cc)

or-none : (a : Bool) → (a || false) ≡ a
or-none true = refl
or-none false = refl

or-assoc : (a b c : Bool) → ((a || b) || c) ≡ (a || (b || c))
or-assoc true b c = refl
or-assoc false b c = refl

either : (a b : Bool) → (a || b) ≡ true → (a ≡ true) ⊎ (b ≡ true)
either true b e = inl refl
either false b e = inr e

not-both : (a : Bool) → a ≡ true → a ≡ false → ⊥
not-both true e z = let no : true ≡ false = z in cc
not-both false e z = let no : false ≡ true = e in cc

-- the parts

pub reads-append : (f : ℕ) (s : Reading) (xs ys : Trace) → reads_from f s (xs ++ ys) ≡ reads_from f (reads_from f s xs) ys
reads-append f s [] ys = refl
reads-append f s (e ∷ xs) ys = reads-append f (reads f e s) xs ys

pub leaked-is : (f : ℕ) (s : Reading) (es : Trace) → (reads_from f s es).leaked ≡ (s.leaked || has is_leak_begun es)
leaked-is f s [] = sym (or-none s.leaked)
leaked-is f s (e ∷ es) = leaked-is f (reads f e s) es ∙ or-assoc s.leaked (is_leak_begun e) (has is_leak_begun es)

stays-bare : (f : ℕ) (s : Reading) (es : Trace) → s.bare ≡ true → (reads_from f s es).bare ≡ true
stays-bare f s [] h = h
stays-bare f s (e ∷ es) h = stays-bare f (reads f e s) es (or-left s.bare _ h)

-- behind the beginning of a leak none is so
closed-one : (b l g k : Bool) → k ≡ true → b ≡ false → (b || (l && not (g || k))) ≡ false
closed-one true l g k e z = absurd (cc)
closed-one false l g false e z = absurd (cc)
closed-one false true true true e z = refl
closed-one false true false true e z = refl
closed-one false false g true e z = refl

closed : (f : ℕ) (s : Reading) (es : Trace) → s.leaked ≡ true → s.bare ≡ false → (reads_from f s es).bare ≡ false
closed f s [] k z = z
closed f s (e ∷ es) k z = closed f (reads f e s) es (or-left s.leaked _ k)
    (closed-one s.bare (is_last_waker f e) s.begun s.leaked k z)

pub newly : (f : ℕ) (s : Reading) (es : Trace) → s.bare ≡ false → (reads_from f s es).bare ≡ true → s.leaked ≡ false
newly f s es z h = by s.leaked refl
  where
    by : (b : Bool) → s.leaked ≡ b → s.leaked ≡ false
    by true e = absurd (not-both _ h (closed f s es e z))
    by false e = e

-- such a future is told of so

told-one : (f : ℕ) (e : Event) (b l g k : Bool) (t : Story) → is_last_waker f e ≡ l → t.begun ≡ g →
    (b ≡ true → t.last ≡ true) → (b || (l && not (g || k))) ≡ true → (hears f e t).last ≡ true
told-one f e true l g k t q i h x = one-last f e t (h refl)
told-one f e false true true k t q i h x = absurd (cc)
told-one f e false true false k t q i h x = ⊎_elim
    (λ (y : t.begun ≡ true). absurd (not-both t.begun y i))
    (λ (y : (hears f e t).last ≡ true). y) (first-last f e t q)
told-one f e false false g k t q i h x = absurd (cc)

or-swap : (a b : Bool) → (a || b) ≡ (b || a)
or-swap true true = refl
or-swap true false = refl
or-swap false true = refl
or-swap false false = refl

told-from : (f : ℕ) (s : Reading) (t : Story) (es : Trace) → t.begun ≡ s.begun → (s.bare ≡ true → t.last ≡ true) →
    (reads_from f s es).bare ≡ true → (story_from f t es).last ≡ true
told-from f s t [] i h x = h x
told-from f s t (e ∷ es) i h x = told-from f (reads f e s) (hears f e t) es
    (begun-hears f e t ∙ (ap (λ (b : Bool). is_drop_begun e || b) i ∙ or-swap (is_drop_begun e) s.begun))
    (told-one f e s.bare (is_last_waker f e) s.begun s.leaked t refl i h) x

pub bare-told : (f : ℕ) (es : Trace) → (reads_from f unread es).bare ≡ true → (story f es).last ≡ true
unfolding story
bare-told f es x = told-from f unread untold es refl (λ z. absurd (cc)) x

-- where there is none, the drop or a leak had begun

first-begun : (b l g k : Bool) → l ≡ true → (b || (l && not (g || k))) ≡ false → (g ≡ true) ⊎ (k ≡ true)
first-begun true l g k q z = absurd (cc)
first-begun false false g k q z = absurd (cc)
first-begun false true true k q z = inl refl
first-begun false true false true q z = inr refl
first-begun false true false false q z = absurd (cc)

is-false : (a : Bool) → (a ≡ true → ⊥) → a ≡ false
is-false true h = absurd (h refl)
is-false false h = refl

pub begun-by : (f n : ℕ) (s : Reading) (es : Trace) → (reads_from f s es).bare ≡ false →
    has (is_last_waker f) (take n es) ≡ true →
    ((s.begun || has is_drop_begun (take n es)) ≡ true) ⊎ ((s.leaked || has is_leak_begun (take n es)) ≡ true)
begun-by f zero s es z h = absurd (cc)
begun-by f (suc n) s [] z h = absurd (cc)
begun-by f (suc n) s (e ∷ es) z h = by (is_last_waker f e) refl (begun-by f n (reads f e s) es z) h
  where
    none : (reads f e s).bare ≡ false
    none = is-false (reads f e s).bare (λ x. not-both _ (stays-bare f (reads f e s) es x) z)

    by : (l : Bool) → is_last_waker f e ≡ l → (has (is_last_waker f) (take n es) ≡ true →
        (((s.begun || is_drop_begun e) || has is_drop_begun (take n es)) ≡ true)
        ⊎ (((s.leaked || is_leak_begun e) || has is_leak_begun (take n es)) ≡ true)) →
        (l || has (is_last_waker f) (take n es)) ≡ true →
        ((s.begun || (is_drop_begun e || has is_drop_begun (take n es))) ≡ true)
        ⊎ ((s.leaked || (is_leak_begun e || has is_leak_begun (take n es))) ≡ true)
    by true q ih k = ⊎_elim
        (λ (x : s.begun ≡ true). inl (or-left s.begun _ x))
        (λ (x : s.leaked ≡ true). inr (or-left s.leaked _ x))
        (first-begun s.bare (is_last_waker f e) s.begun s.leaked q none)
    by false q ih k = ⊎_elim
        (λ (x : ((s.begun || is_drop_begun e) || has is_drop_begun (take n es)) ≡ true).
        inl (sym (or-assoc s.begun (is_drop_begun e) _) ∙ x))
        (λ (x : ((s.leaked || is_leak_begun e) || has is_leak_begun (take n es)) ≡ true).
        inr (sym (or-assoc s.leaked (is_leak_begun e) _) ∙ x))
        (ih k)
