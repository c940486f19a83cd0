-- For some_standing_is_called.
-- The entries of the sleepers' list that are a tick's or run's, where one is added, replaced or taken out.
use Rattle.std.proofs.Common.{◌≡◌, ℕ, zero, suc, ◌+◌, ◌==◌, ◌<◌, ◌≤◌, List, [], ◌∷◌, ◌++◌, length, set, take, Bool, true, false}
use Rattle.std.proofs.Common.{cond, refl, sym, ap, subst, eqb, arith}
use Rattle.std.specs.Prelude.{◌-◌, Option, Some, None, slice_get, slice_set, remove}
use Rattle.std.proofs.lemmas.Bool.Decides.{nat_tests}
use Rattle.executor_parts.specs.Sleepers.{Sleepers, position_of, later, without_entry, woken_up}
use Rattle.executor_model.specs.{World.Ticker, World.Awake, World.Asleep, World.Left, Weights.same}
use Rattle.executor_model.proofs.{Steps.SleepersLists.freed-same, Steps.SleepersLists.position-within, Steps.Lists.same_is}
use Rattle.executor_laws.proofs.{Types.Sleeping, Types.TickOrRun, Wakeups.Sitting.eq_who, Wakeups.Sitting.is_it}

abbrev pub Entry : Type 0
Entry = ℕ × Sleeping

abbrev pub sum : (Entry → ℕ) → List Entry → ℕ
sum v [] = 0
sum v (e ∷ es) = v e + sum v es

-- entries of who it is, and those of its poll k
abbrev pub entry_of : TickOrRun → Entry → ℕ
entry_of who e = is_it who e.1.who

abbrev pub kept_of : TickOrRun → ℕ → Entry → ℕ
kept_of who k e = cond (eq_who who e.1.who) (same k e.1.poll) 0

-- who is so doesn't sleep under this number
abbrev pub astray : Ticker → ℕ → ℕ
astray (Asleep m) n = cond (m == n) 0 1
astray Awake n = 1
astray Left n = 1

-- entries of who is so, that are under another number
abbrev pub misplaced_of : TickOrRun → Ticker → Entry → ℕ
misplaced_of who x e = cond (eq_who who e.1.who) (astray x e.0) 0

abbrev pub at_entry : (Entry → ℕ) → Option Entry → ℕ
at_entry v None = 0
at_entry v (Some e) = v e

abbrev pub entry_at : Option ℕ → List Entry → Option Entry
entry_at None es = None
entry_at (Some at) es = slice_get es at

pub sum-push : (v : Entry → ℕ) (es : List Entry) (e : Entry) → sum v (es ++ e ∷ []) ≡ sum v es + v e
sum-push v [] e = omega arith
sum-push v (x ∷ es) e = omega (arith, sum-push v es e)

last-out : (v : Entry → ℕ) (x : Entry) (xs : List Entry) →
    sum v (take (length xs) (x ∷ xs)) + at_entry v (slice_get (x ∷ xs) (length xs)) ≡ sum v (x ∷ xs)
last-out v x [] = omega arith
last-out v x (y ∷ ys) = omega (arith, last-out v y ys)

-- the last is taken out
pub sum-last : (v : Entry → ℕ) (es : List Entry) →
    sum v (take (length es - 1) es) + at_entry v (slice_get es (length es - 1)) ≡ sum v es
sum-last v [] = refl
sum-last v (x ∷ xs) = let less : length (x ∷ xs) - 1 ≡ length xs = omega arith in
    subst (λ n. sum v (take n (x ∷ xs)) + at_entry v (slice_get (x ∷ xs) n) ≡ sum v (x ∷ xs)) (sym less)
    (last-out v x xs)

sum-remove : (v : Entry → ℕ) (at : ℕ) (es : List Entry) → sum v (remove es at) + at_entry v (slice_get es at) ≡ sum v es
sum-remove v zero [] = refl
sum-remove v (suc at) [] = refl
sum-remove v zero (x ∷ es) = omega arith
sum-remove v (suc at) (x ∷ es) = omega (arith, sum-remove v at es)

without-out : (v : Entry → ℕ) (o : Option ℕ) (s : Sleepers Sleeping) →
    sum v (without_entry o s).wakers + at_entry v (entry_at o s.wakers) ≡ sum v s.wakers
without-out v None s = omega arith
without-out v (Some at) s = sum-remove v at s.wakers

-- the entry of number n is taken out
pub sum-woken_up : (v : Entry → ℕ) (n : ℕ) (s : Sleepers Sleeping) →
    sum v (woken_up n s).wakers + at_entry v (entry_at (position_of n s.wakers) s.wakers) ≡ sum v s.wakers
sum-woken_up v n s = omega (
  arith,
  ap (sum v) (freed-same n (without_entry (position_of n s.wakers) s)),
  without-out v
      (position_of n s.wakers) s,
)

sum-set-in : (v : Entry → ℕ) (at : ℕ) (e : Entry) (es : List Entry) → at < length es →
    sum v (set es at e) + at_entry v (slice_get es at) ≡ sum v es + v e
sum-set-in v at e [] h = absurd (omega arith)
sum-set-in v zero e (x ∷ es) h = omega arith
sum-set-in v (suc at) e (x ∷ es) h = omega (arith, sum-set-in v at e es (omega arith))

-- it is replaced
pub sum-set : (v : Entry → ℕ) (n at : ℕ) (e : Entry) (es : List Entry) → position_of n es ≡ Some at →
    sum v (slice_set es at e) + at_entry v (slice_get es at) ≡ sum v es + v e
sum-set v n at e es q = sum-set-in v at e es (position-within n at es q)

-- an entry weighs no more than all
pub entry-in : (v : Entry → ℕ) (at : ℕ) (es : List Entry) → at_entry v (slice_get es at) ≤ sum v es
entry-in v at es = omega (arith, sum-remove v at es)

-- the entry of a number is of that number

eqb-is : (n m : ℕ) → eqb n m ≡ true → n ≡ m
eqb-is n m e = grind (arith, nat_tests)

-- what is there at its place, and where it has none, that there is none
pub record Numbered (n : ℕ) (o : Option ℕ) (es : List Entry) : Type 0 where
  pub found : (at : ℕ) → o ≡ Some at → (e : Entry) × (slice_get es at ≡ Some e) × (e.0 ≡ n)
  pub missing : o ≡ None → sum (λ e. same n e.0) es ≡ 0

some-is : (a b : ℕ) → (let x : Option ℕ = Some a in x) ≡ Some b → a ≡ b
some-is a b e = cc

none-some : (a : ℕ) → (let x : Option ℕ = None in x) ≡ Some a → ⊥
none-some a e = cc

some-none : (a : ℕ) → (let x : Option ℕ = Some a in x) ≡ None → ⊥
some-none a e = cc

pub numbered : (n : ℕ) (es : List Entry) → Numbered n (position_of n es) es
numbered n [] = record { found = λ at q. absurd (none-some at q); missing = λ q. refl }
numbered n (x ∷ es) = by (position_of n es) (eqb n x.0) refl (numbered n es)
  where
    by : (o : Option ℕ) (b : Bool) → eqb n x.0 ≡ b → Numbered n o es →
        Numbered n (later o (let h : Option ℕ = elim b [ true ↦ Some 0 | false ↦ None ] in h)) (x ∷ es)
    by (Some k) b c h = record {
      found = λ at q. (let i : k + 1 ≡ at = some-is (k + 1) at q in let y : _ = h.found k refl in (
        y.0,
        subst (λ (m : ℕ). slice_get (x ∷ es) m ≡ Some y.0) (let j : suc k ≡ at = omega (arith, i) in j) y.1,
        y.2,
      ));
      missing = λ q. absurd (some-none (k + 1) q);
    }
    by None true c h = record {
      found = λ at q. (x, subst (λ (m : ℕ). slice_get (x ∷ es) m ≡ Some x) (some-is 0 at q) refl, sym (eqb-is n x.0 c));
      missing = λ q. absurd (some-none 0 q);
    }
    by None false c h = record {
      found = λ at q. absurd (none-some at q);
      missing = λ q. omega (arith, h.missing refl, none-same c);
    }
      where
        none-same : eqb n x.0 ≡ false → same n x.0 ≡ 0
        none-same z = grind (arith, same_is)
