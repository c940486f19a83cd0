-- For due_futures_stand_with_their_keepers.
-- How a call ends that is in progress, and that it has one end.
use Rattle.std.proofs.Common.{◌≡◌, ◌⊎◌, ◌∙◌, inl, inr, ⊎_elim, ℕ, suc, ◌<◌, ◌≤◌, [], ◌∷◌, ◌++◌, length, take, refl, sym, ap}
use Rattle.std.{proofs.Common.subst, proofs.Common.arith, specs.Prelude.Some, specs.Prelude.count_by, specs.Prelude.slice_get}
use Rattle.executor_model.specs.{AwaiterKept.EndsWith, AwaiterKept.since, Quiet.begins_call, Quiet.ends_call, Trace.Trace}
use Rattle.executor_model.proofs.Quiet.Calls.{begun_by, ended_by}
use Rattle.executor_laws.proofs.Placement.Opens.{get-old, get-new, get-within, get-push, since-old, take-old, take-all, le-or}
use Rattle.executor_laws.proofs.{Types.Reply, Types.Event, Placement.Opens.IsOpen}

begun-is : (p : ℕ) (es : Trace) → begun_by p es ≡ count_by (begins_call p) es
unfolding begun_by
begun-is p es = refl

ended-is : (p : ℕ) (es : Trace) → ended_by p es ≡ count_by (ends_call p) es
unfolding ended_by
ended-is p es = refl

-- it has ended as many as it has begun
abbrev Level : ℕ → Trace → Type 0
Level p xs = count_by (ends_call p) xs ≡ count_by (begins_call p) xs

abbrev Below : ℕ → Trace → Type 0
Below p xs = count_by (ends_call p) xs ≤ count_by (begins_call p) xs

ends-shorter : (p : ℕ) (a : Reply) (xs : Trace) (e : Event) → EndsWith p a (xs ++ e ∷ []) →
    EndsWith p a xs ⊎ ((e ≡ Event.CallEnded p a) × Level p xs × ((n : ℕ) → Below p (take n xs)))
ends-shorter p a xs e h = ⊎_elim
    (λ (x : (h.place < length xs) × (slice_get xs h.place ≡ Some (Event.CallEnded p a))). inl (record {
      place = h.place;
      here = x.1;
      inner = subst (Level p) (take-old xs h.place e (omega (arith, x.0))) h.inner;
      first = λ n m. subst (Below p) (take-old xs n e (omega (arith, m, x.0))) (h.first n m);
    }))
    (λ (x : (h.place ≡ length xs) × (e ≡ Event.CallEnded p a)). inr (
      x.1,
      subst (Level p) (whole h.place x.0) h.inner,
      λ n. ⊎_elim
          (λ (m : n ≤ length xs). subst (Below p) (take-old xs n e m) (h.first n (omega (arith, m, x.0))))
          (λ (m : suc (length xs) ≤ n). subst (Below p)
          (whole h.place x.0 ∙ sym (take-all xs n (omega (arith, m)))) (h.first h.place (omega arith)))
          (le-or n (length xs)),
    ))
    (get-push xs h.place e (Event.CallEnded p a) h.here)
  where
    whole : (k : ℕ) → k ≡ length xs → take k (xs ++ e ∷ []) ≡ xs
    whole k q = take-old xs k e (omega (arith, q)) ∙ take-all xs k (omega (arith, q))

-- the end of the call at this place of the trace

pub ends-later : (p k : ℕ) (a : Reply) (es : Trace) (e : Event) → k < length es → (h : EndsWith p a (since k es)) →
    (n : EndsWith p a (since k (es ++ e ∷ []))) × (n.place ≡ h.place)
ends-later p k a es e i h =
    let xs = since k es in
    let z : since k (es ++ e ∷ []) ≡ xs ++ e ∷ [] = since-old es k e i in
    let l : h.place < length xs = get-within xs h.place _ h.here in (
      record {
        place = h.place;
        here = ap (λ (t : Trace). slice_get t h.place) z ∙ (get-old xs h.place e l ∙ h.here);
        inner = subst (Level p) (sym (ap (take h.place) z ∙ take-old xs h.place e (omega (arith, l)))) h.inner;
        first = λ n m. subst (Below p) (sym (ap (take n) z ∙ take-old xs n e (omega (arith, m, l)))) (h.first n m);
      },
      refl,
    )

pub ends-before : (p k : ℕ) (a : Reply) (es : Trace) (e : Event) → k < length es →
    EndsWith p a (since k (es ++ e ∷ [])) →
    EndsWith p a (since k es) ⊎ ((e ≡ Event.CallEnded p a) × IsOpen p k 0 es)
ends-before p k a es e l h = ⊎_elim
    (λ (x : EndsWith p a (since k es)). inl x)
    (λ (x : (e ≡ Event.CallEnded p a) × Level p (since k es) × ((n : ℕ) → Below p (take n (since k es)))). inr (
      x.0,
      record {
        within = l;
        level = omega (arith, begun-is p (since k es), ended-is p (since k es), x.1);
        first = λ n. omega
            (arith, begun-is p (take n (since k es)), ended-is p (take n (since k es)), x.2 n);
      },
    ))
    (ends-shorter p a (since k es) e (subst (EndsWith p a) (since-old es k e l) h))

-- the call that is innermost ends now
pub ends-here : (p k : ℕ) (a : Reply) (es : Trace) → IsOpen p k 0 es →
    (h : EndsWith p a (since k (es ++ Event.CallEnded p a ∷ []))) × (h.place ≡ length (since k es))
ends-here p k a es h =
    let e = Event.CallEnded p a in
    let xs = since k es in
    let z : since k (es ++ e ∷ []) ≡ xs ++ e ∷ [] = since-old es k e h.within in
    let level : Level p xs = omega (arith, begun-is p xs, ended-is p xs, h.level) in
    let below : (n : ℕ) → Below p (take n xs) =
    λ n. omega (arith, begun-is p (take n xs), ended-is p (take n xs), h.first n) in (
      record {
        place = length xs;
        here = ap (λ (t : Trace). slice_get t (length xs)) z ∙ get-new xs e;
        inner = subst (Level p)
            (sym (ap (take (length xs)) z ∙ (take-old xs (length xs) e (omega arith) ∙ take-all xs (length xs) (omega arith))))
            level;
        first = λ n m. subst (Below p) (sym (ap (take n) z ∙ take-old xs n e m)) (below n);
      },
      refl,
    )
