-- The references and the handle in the views, and truth values.
use Rattle.std.proofs.Common.{◌≡◌, ℕ, zero, suc, ◌+◌, ◌≤◌, Bool, true, false, ◌||◌, ◌&&◌, not, List, [], ◌∷◌, ◌++◌, set, sym, refl, ap}
use Rattle.std.proofs.Common.{◌∙◌, subst, eqb-true, arith}
use mathlib.Core.Option.{some, some-injective, some-ne-none}
use lib.ListN.{get_elem?}
use Rattle.task_moves.specs.declared.moves.state.State.{State}
use Rattle.task_moves.specs.Moves.{is_last}
use Rattle.task_word.specs.declared.rule.View.{View}
use Rattle.task_word.specs.Cell.{total, handles, reference_of, handle_of}

pub total_set : (l : List View) (i : ℕ) (v w : View) → get_elem? l i ≡ some v
    → total (set l i w) + reference_of v.hold ≡ total l + reference_of w.hold
total_set [] i v w e = absurd (some-ne-none v (sym e))
total_set (x ∷ xs) zero v w e = let z : reference_of x.hold ≡ reference_of v.hold =
    ap (λ (y : View). reference_of y.hold) (some-injective x v e) in omega arith
total_set (x ∷ xs) (suc i) v w e = let z : total (set xs i w) + reference_of v.hold ≡ total xs + reference_of w.hold =
    total_set xs i v w e in omega arith

pub total_last : (l : List View) (w : View) → total (l ++ w ∷ []) ≡ total l + reference_of w.hold
total_last [] w = omega arith
total_last (x ∷ xs) w = let z : total (xs ++ w ∷ []) ≡ total xs + reference_of w.hold = total_last xs w in omega arith

pub total_has : (l : List View) (i : ℕ) (v : View) → get_elem? l i ≡ some v → reference_of v.hold ≤ total l
total_has [] i v e = absurd (some-ne-none v (sym e))
total_has (x ∷ xs) zero v e = let z : reference_of x.hold ≡ reference_of v.hold =
    ap (λ (y : View). reference_of y.hold) (some-injective x v e) in omega arith
total_has (x ∷ xs) (suc i) v e = let z : reference_of v.hold ≤ total xs = total_has xs i v e in omega arith

pub handles_set : (l : List View) (i : ℕ) (v w : View) → get_elem? l i ≡ some v
    → handles (set l i w) + handle_of v.hold ≡ handles l + handle_of w.hold
handles_set [] i v w e = absurd (some-ne-none v (sym e))
handles_set (x ∷ xs) zero v w e = let z : handle_of x.hold ≡ handle_of v.hold =
    ap (λ (y : View). handle_of y.hold) (some-injective x v e) in omega arith
handles_set (x ∷ xs) (suc i) v w e = let z : handles (set xs i w) + handle_of v.hold ≡ handles xs + handle_of w.hold =
    handles_set xs i v w e in omega arith

pub handles_last : (l : List View) (w : View) → handles (l ++ w ∷ []) ≡ handles l + handle_of w.hold
handles_last [] w = omega arith
handles_last (x ∷ xs) w = let z : handles (xs ++ w ∷ []) ≡ handles xs + handle_of w.hold = handles_last xs w in omega arith

pub handles_has : (l : List View) (i : ℕ) (v : View) → get_elem? l i ≡ some v → handle_of v.hold ≤ handles l
handles_has [] i v e = absurd (some-ne-none v (sym e))
handles_has (x ∷ xs) zero v e = let z : handle_of x.hold ≡ handle_of v.hold =
    ap (λ (y : View). handle_of y.hold) (some-injective x v e) in omega arith
handles_has (x ∷ xs) (suc i) v e = let z : handle_of v.hold ≤ handles xs = handles_has xs i v e in omega arith

pub true_not : {b : Bool} {A : Type 0} → b ≡ true → b ≡ false → A
true_not {b} {A} t f = absurd (apart (sym t ∙ f)) where
  apart : true ≡ false → ⊥
  apart e = subst (λ (z : Bool). IsIt z) e tt where
    IsIt : Bool → Type 0
    IsIt true = Unit {0}
    IsIt false = ⊥

pub not_false : (b : Bool) → not b ≡ false → b ≡ true
not_false true e = refl
not_false false e = true_not refl e

pub either_false : (b c : Bool) → b || c ≡ false → (b ≡ false) × (c ≡ false)
either_false true c e = true_not refl e
either_false false c e = (refl, e)

pub or_true : (b c : Bool) → c ≡ true → b || c ≡ true
or_true true c e = refl
or_true false c e = e

pub or_same : (b c : Bool) → b ≡ false → b || c ≡ c
or_same true c e = true_not refl e
or_same false c e = refl

pub both_true : (b c : Bool) → b && c ≡ true → (b ≡ true) × (c ≡ true)
both_true true c e = (refl, e)
both_true false c e = true_not e refl

pub last_is : (s : State) → is_last s ≡ true → s.references ≡ 1
last_is s e = eqb-true s.references 1 (both_true _ _ e).0

pub not_true : (b : Bool) → not b ≡ true → b ≡ false
not_true true e = true_not e refl
not_true false e = refl

pub both_not : (a b : Bool) → a && not b ≡ false → a ≡ true → b ≡ true
both_not true b e t = not_false b e
both_not false b e t = true_not t refl

pub last_has_no_handle : (s : State) → is_last s ≡ true → s.handle ≡ false
last_has_no_handle s e = not_true s.handle (both_true _ _ e).1
