-- For due_futures_stand_with_their_keepers.
-- Which calls of a party are in progress, read from a trace; and how a call ends that is.
use Rattle.std.proofs.Common.{◌≡◌, ◌⊎◌, ◌∙◌, inl, inr, ⊎_elim, ℕ, zero, suc, ◌+◌, ◌-◌, ◌<◌, ◌≤◌, List, [], ◌∷◌, ◌++◌, length}
use Rattle.std.proofs.Common.{drop, take, eqb, cond, refl, sym, ap, subst, arith}
use Rattle.std.proofs.lemmas.List.{length-append}
use Rattle.std.specs.Prelude.{Option, Some, None, slice_get}
use Rattle.executor_laws.proofs.Types.{Event}
use Rattle.executor_model.specs.{AwaiterKept.since, Trace.Trace}
use Rattle.executor_model.proofs.Quiet.Calls.{begun_by, ended_by, begin_of, end_of, begun-push, ended-push}

-- a call that is in progress: of a poll of a run, that run and the place at which the poll is told of
abbrev pub Open : Type 0
Open = Option (ℕ × ℕ)

-- the calls of party p that are in progress, the innermost first
abbrev pub opens_one : ℕ → ℕ → Event → List Open → List Open
opens_one p n (Event.CallBegun q c) s = cond (eqb p q) (None ∷ s) s
opens_one p n (Event.CallEnded q a) s = cond (eqb p q) (drop 1 s) s
opens_one p n (Event.RunPolled q r) s = cond (eqb p q) (Some (r, n) ∷ drop 1 s) s
opens_one p n _ s = s

abbrev pub opens_from : ℕ → ℕ → List Open → Trace → List Open
opens_from p n s [] = s
opens_from p n s (e ∷ es) = opens_from p (suc n) (opens_one p n e s) es

unfoldable pub opens : ℕ → Trace → List Open
opens p es = opens_from p 0 [] es

opens_from-push : (p n : ℕ) (s : List Open) (es : Trace) (e : Event) →
    opens_from p n s (es ++ e ∷ []) ≡ opens_one p (n + length es) e (opens_from p n s es)
opens_from-push p n s [] e = ap (λ (m : ℕ). opens_one p m e s) (let z : n ≡ n + 0 = omega arith in z)
opens_from-push p n s (x ∷ es) e = opens_from-push p (suc n) (opens_one p n x s) es e
    ∙ ap (λ (m : ℕ). opens_one p m e (opens_from p (suc n) (opens_one p n x s) es))
    (let z : suc n + length es ≡ n + suc (length es) = omega arith in z)

pub opens-push : (p : ℕ) (es : Trace) (e : Event) → opens p (es ++ e ∷ []) ≡ opens_one p (length es) e (opens p es)
unfolding opens
opens-push p es e = opens_from-push p 0 [] es e
    ∙ ap (λ (m : ℕ). opens_one p m e (opens_from p 0 [] es)) (let z : 0 + length es ≡ length es = omega arith in z)

pub opens-none : (p : ℕ) → opens p [] ≡ []
unfolding opens
opens-none p = refl

-- lists that get longer

pub get-old : (es : Trace) (k : ℕ) (x : Event) → k < length es → slice_get (es ++ x ∷ []) k ≡ slice_get es k
get-old [] k x h = absurd (omega (arith, h))
get-old (e ∷ es) zero x h = refl
get-old (e ∷ es) (suc k) x h = get-old es k x (omega (arith, h))

pub get-new : (es : Trace) (x : Event) → slice_get (es ++ x ∷ []) (length es) ≡ Some x
get-new [] x = refl
get-new (e ∷ es) x = get-new es x

get-past : (es : Trace) (k : ℕ) → length es ≤ k → slice_get es k ≡ None
get-past [] k h = refl
get-past (e ∷ es) zero h = absurd (omega (arith, h))
get-past (e ∷ es) (suc k) h = get-past es k (omega (arith, h))

-- what is there stands at a place of the list
pub get-within : (es : Trace) (k : ℕ) (x : Event) → slice_get es k ≡ Some x → k < length es
get-within [] k x e = absurd (cc)
get-within (y ∷ es) zero x e = omega arith
get-within (y ∷ es) (suc k) x e = omega (arith, get-within es k x e)

-- of one more, it is that or stood there
pub get-push : (es : Trace) (k : ℕ) (x y : Event) → slice_get (es ++ x ∷ []) k ≡ Some y →
    ((k < length es) × (slice_get es k ≡ Some y)) ⊎ ((k ≡ length es) × (x ≡ y))
get-push [] zero x y e = inr (refl, (let z : x ≡ y = cc in z))
get-push [] (suc k) x y e = absurd (cc)
get-push (z ∷ es) zero x y e = inl (omega arith, e)
get-push (z ∷ es) (suc k) x y e = ⊎_elim
    (λ (u : (k < length es) × (slice_get es k ≡ Some y)). inl (omega (arith, u.0), u.1))
    (λ (u : (k ≡ length es) × (x ≡ y)). inr (omega (arith, u.0), u.1))
    (get-push es k x y e)

pub since-old : (es : Trace) (k : ℕ) (x : Event) → k < length es → since k (es ++ x ∷ []) ≡ since k es ++ x ∷ []
since-old es k x h = subst (λ (n : ℕ). drop n (es ++ x ∷ []) ≡ drop n es ++ x ∷ [])
    (let z : suc k ≡ k + 1 = omega arith in z) (go es k h)
  where
    go : (ys : Trace) (j : ℕ) → j < length ys → drop (suc j) (ys ++ x ∷ []) ≡ drop (suc j) ys ++ x ∷ []
    go [] j l = absurd (omega (arith, l))
    go (y ∷ ys) zero l = refl
    go (y ∷ ys) (suc j) l = go ys j (omega (arith, l))

pub since-new : (es : Trace) (x : Event) → since (length es) (es ++ x ∷ []) ≡ []
since-new es x = subst (λ (n : ℕ). drop n (es ++ x ∷ []) ≡ [])
    (let z : suc (length es) ≡ length es + 1 = omega arith in z)
    (go es)
  where
    go : (ys : Trace) → drop (suc (length ys)) (ys ++ x ∷ []) ≡ []
    go [] = refl
    go (y ∷ ys) = go ys

pub take-old : (es : Trace) (n : ℕ) (x : Event) → n ≤ length es → take n (es ++ x ∷ []) ≡ take n es
take-old es zero x h = refl
take-old [] (suc n) x h = absurd (omega (arith, h))
take-old (e ∷ es) (suc n) x h = ap (λ (ys : Trace). e ∷ ys) (take-old es n x (omega (arith, h)))

pub take-all : (es : Trace) (n : ℕ) → length es ≤ n → take n es ≡ es
take-all [] zero h = refl
take-all [] (suc n) h = refl
take-all (e ∷ es) zero h = absurd (omega (arith, h))
take-all (e ∷ es) (suc n) h = ap (λ (ys : Trace). e ∷ ys) (take-all es n (omega (arith, h)))

pub le-or : (n m : ℕ) → (n ≤ m) ⊎ (suc m ≤ n)
le-or zero m = inl (omega arith)
le-or (suc n) zero = inr (omega arith)
le-or (suc n) (suc m) =
    ⊎_elim (λ (x : n ≤ m). inl (omega (arith, x))) (λ (x : suc m ≤ n). inr (omega (arith, x))) (le-or n m)

-- depth

-- the call of party p that was innermost at this place is in progress, and so many that it has begun since
pub record IsOpen (p k d : ℕ) (es : Trace) : Type 0 where
  pub within : k < length es
  pub level : begun_by p (since k es) ≡ ended_by p (since k es) + d
  pub first : (n : ℕ) → ended_by p (take n (since k es)) ≤ begun_by p (take n (since k es))

none-begun : (p : ℕ) → begun_by p [] ≡ 0
unfolding begun_by
none-begun p = refl

none-ended : (p : ℕ) → ended_by p [] ≡ 0
unfolding ended_by
none-ended p = refl

pub open-push : (p k d c : ℕ) (es : Trace) (e : Event) → IsOpen p k d es → c + end_of p e ≡ d + begin_of p e →
    end_of p e ≤ d + begin_of p e → IsOpen p k c (es ++ e ∷ [])
open-push p k d c es e h q l =
    let z : since k (es ++ e ∷ []) ≡ since k es ++ e ∷ [] = since-old es k e h.within in record {
      within = omega (arith, h.within, length-append es (e ∷ []));
      level = subst (λ (t : Trace). begun_by p t ≡ ended_by p t + c) (sym z)
          (omega (arith, begun-push p (since k es) e, ended-push p (since k es) e, h.level, q));
      first = λ n. subst (λ (t : Trace). ended_by p (take n t) ≤ begun_by p (take n t)) (sym z)
          (⊎_elim
          (λ (x : n ≤ length (since k es)). subst (λ (t : Trace). ended_by p t ≤ begun_by p t)
          (sym (take-old (since k es) n e x)) (h.first n))
          (λ (x : suc (length (since k es)) ≤ n). subst (λ (t : Trace). ended_by p t ≤ begun_by p t)
          (sym (take-all (since k es ++ e ∷ []) n (omega (arith, x, length-append (since k es) (e ∷ [])))))
          (omega (arith, begun-push p (since k es) e, ended-push p (since k es) e, h.level, l)))
          (le-or n (length (since k es))));
    }

pub open-now : (p : ℕ) (es : Trace) (e : Event) → IsOpen p (length es) 0 (es ++ e ∷ [])
open-now p es e =
    let z : since (length es) (es ++ e ∷ []) ≡ [] = since-new es e in record {
      within = omega (arith, length-append es (e ∷ []));
      level = subst (λ (t : Trace). begun_by p t ≡ ended_by p t + 0) (sym z) (omega (arith, none-begun p, none-ended p));
      first = λ n. subst (λ (t : Trace). ended_by p (take n t) ≤ begun_by p (take n t)) (sym z) (by n);
    }
  where
    by : (n : ℕ) → ended_by p (take n (let t : Trace = [] in t)) ≤ begun_by p (take n (let t : Trace = [] in t))
    by zero = omega (arith, none-begun p, none-ended p)
    by (suc n) = omega (arith, none-begun p, none-ended p)

-- and so it was before
pub record Before (p k d : ℕ) (es : Trace) (e : Event) : Type 0 where
  pub depth : ℕ
  pub was : IsOpen p k depth es
  pub level : d + end_of p e ≡ depth + begin_of p e

pub open-before : (p k d : ℕ) (es : Trace) (e : Event) → k < length es → IsOpen p k d (es ++ e ∷ []) → Before p k d es e
open-before p k d es e l h =
    let z : since k (es ++ e ∷ []) ≡ since k es ++ e ∷ [] = since-old es k e l in
    let first : (n : ℕ) → ended_by p (take n (since k es)) ≤ begun_by p (take n (since k es)) =
    λ n. ⊎_elim
    (λ (x : n ≤ length (since k es)). subst (λ (t : Trace). ended_by p t ≤ begun_by p t)
    (ap (take n) z ∙ take-old (since k es) n e x) (h.first n))
    (λ (x : suc (length (since k es)) ≤ n). subst (λ (t : Trace). ended_by p t ≤ begun_by p t)
    (ap (take (length (since k es))) z ∙ (take-old (since k es) (length (since k es)) e (omega arith)
    ∙ (take-all (since k es) (length (since k es)) (omega arith)
    ∙ sym (take-all (since k es) n (omega (arith, x)))))) (h.first (length (since k es))))
    (le-or n (length (since k es))) in
    let all : ended_by p (since k es) ≤ begun_by p (since k es) =
    subst (λ (t : Trace). ended_by p t ≤ begun_by p t) (take-all (since k es) (length (since k es)) (omega arith))
    (first (length (since k es))) in
    let d0 = begun_by p (since k es) - ended_by p (since k es) in record {
      depth = d0;
      was = record { within = l; level = omega (arith, all); first = first };
      level = omega (
        arith,
        all,
        subst (λ (t : Trace). begun_by p t ≡ ended_by p t + d) z h.level,
        begun-push p (since k es) e,
        ended-push p (since k es) e,
      );
    }
