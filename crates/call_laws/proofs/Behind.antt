-- For no_poll_begins_after_a_cancel.
-- What stands behind the first event that passes a test, and before it, where more happens.
use Rattle.std.proofs.Common.{◌≡◌, ◌∙◌, ⊎_elim, ℕ, suc, ◌+◌, ◌≤◌, [], ◌∷◌, ◌++◌, Bool, true, false, ◌||◌, cond, not, drop, take}
use Rattle.std.proofs.Common.{refl, sym, ap, arith}
use Rattle.std.specs.List.{after_first, before_first, position_or_len}
use Rattle.std.specs.Prelude.{count_by}
use Rattle.std.proofs.lemmas.List.Sums.{sum_by-cons}
use Rattle.executor_model.specs.Trace.{Trace, has}
use Rattle.executor_model.proofs.OneFuture.Telling.{there-or-none}
use Rattle.call_laws.proofs.Types.{Event}

after-cons : (t : Event → Bool) (e : Event) (es : Trace) (b : Bool) → t e ≡ b →
    after_first t (e ∷ es) ≡ cond b es (after_first t es)
after-cons t e es true h = ap (λ (c : Bool). drop (cond (not c) (1 + position_or_len t es) 0 + 1) (e ∷ es)) h
after-cons t e es false h = ap (λ (c : Bool). drop (cond (not c) (1 + position_or_len t es) 0 + 1) (e ∷ es)) h
    ∙ ap (λ (n : ℕ). drop n (e ∷ es))
    (let z : 1 + position_or_len t es + 1 ≡ suc (position_or_len t es + 1) = omega arith in z)

before-cons : (t : Event → Bool) (e : Event) (es : Trace) (b : Bool) → t e ≡ b →
    before_first t (e ∷ es) ≡ cond b [] (e ∷ before_first t es)
before-cons t e es true h = ap (λ (c : Bool). take (cond (not c) (1 + position_or_len t es) 0) (e ∷ es)) h
before-cons t e es false h = ap (λ (c : Bool). take (cond (not c) (1 + position_or_len t es) 0) (e ∷ es)) h
    ∙ ap (λ (n : ℕ). take n (e ∷ es)) (let z : 1 + position_or_len t es ≡ suc (position_or_len t es) = omega arith in z)

-- where more happens

pub after-left : (t : Event → Bool) (es more : Trace) → has t es ≡ true → after_first t (es ++ more) ≡ after_first t es ++ more
after-left t [] more e = absurd (cc)
after-left t (x ∷ es) more e = after-cons t x (es ++ more) (t x) refl
    ∙ (by (t x) e (after-left t es more) ∙ ap (λ (l : Trace). l ++ more) (sym (after-cons t x es (t x) refl)))
  where
    by : (b : Bool) → (b || has t es) ≡ true → (has t es ≡ true → after_first t (es ++ more) ≡ after_first t es ++ more) →
        cond b (es ++ more) (after_first t (es ++ more)) ≡ cond b es (after_first t es) ++ more
    by true z k = refl
    by false z k = k z

pub after-right : (t : Event → Bool) (es more : Trace) → has t es ≡ false → after_first t (es ++ more) ≡ after_first t more
after-right t [] more e = refl
after-right t (x ∷ es) more e = after-cons t x (es ++ more) (t x) refl ∙ by (t x) e (after-right t es more)
  where
    by : (b : Bool) → (b || has t es) ≡ false → (has t es ≡ false → after_first t (es ++ more) ≡ after_first t more) →
        cond b (es ++ more) (after_first t (es ++ more)) ≡ after_first t more
    by true z k = absurd (cc)
    by false z k = k z

pub after-none : (t q : Event → Bool) (es : Trace) → has q es ≡ false → has q (after_first t es) ≡ false
after-none t q [] e = refl
after-none t q (x ∷ es) e = ap (has q) (after-cons t x es (t x) refl) ∙ by (t x) (q x) e (after-none t q es)
  where
    by : (b c : Bool) → (c || has q es) ≡ false → (has q es ≡ false → has q (after_first t es) ≡ false) →
        has q (cond b es (after_first t es)) ≡ false
    by b true z k = absurd (cc)
    by true false z k = z
    by false false z k = k z

-- counts

pub count-cons : (t : Event → Bool) (e : Event) (es : Trace) → count_by t (e ∷ es) ≡ cond (t e) 1 0 + count_by t es
count-cons t e es = sum_by-cons (λ (x : Event). cond (t x) 1 0) e es

none-counted : (t : Event → Bool) (es : Trace) → has t es ≡ false → count_by t es ≡ 0
none-counted t es n = ⊎_elim
    (λ (x : (has t es ≡ true) × (1 ≤ count_by t es)). absurd (let no : true ≡ false = sym x.0 ∙ n in cc))
    (λ (x : (has t es ≡ false) × (count_by t es ≡ 0)). x.1)
    (there-or-none t es)

-- where none comes behind the first that passes t, and that is none, all come before it
pub all-before : (t q : Event → Bool) → ((e : Event) → t e ≡ true → q e ≡ false) → (es : Trace) →
    has q (after_first t es) ≡ false → count_by q es ≡ count_by q (before_first t es)
all-before t q k [] n = refl
all-before t q k (e ∷ es) n = by (t e) refl (all-before t q k es)
  where
    by : (b : Bool) → t e ≡ b →
        (has q (after_first t es) ≡ false → count_by q es ≡ count_by q (before_first t es)) →
        count_by q (e ∷ es) ≡ count_by q (before_first t (e ∷ es))
    by true z later =
        let a : has q es ≡ false = ap (has q) (sym (after-cons t e es true z)) ∙ n in
        let x : cond {A = ℕ} (q e) 1 0 ≡ 0 = ap (λ (c : Bool). cond {A = ℕ} c 1 0) (k e z) in
        omega (
          arith,
          count-cons q e es,
          x,
          none-counted q es a,
          ap (count_by q) (before-cons t e es true z),
          (let y : count_by {X = Event} q [] ≡ 0 = refl in y),
        )
    by false z later =
        let a : has q (after_first t es) ≡ false = ap (has q) (sym (after-cons t e es false z)) ∙ n in
        omega (
          arith,
          count-cons q e es,
          later a,
          count-cons q e (before_first t es),
          ap (count_by q) (before-cons t e es false z),
        )
