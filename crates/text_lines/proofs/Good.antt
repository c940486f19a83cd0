-- Good lines, one behind the other.
use Rattle.std.proofs.Common.{◌≡◌, ℕ, suc, ◌+◌, List, [], ◌∷◌, ◌++◌, length, sym, subst, add-zero, zero-add, arith}
use Rattle.text_lines.specs.Lines.{lines_of}
use Rattle.text_lines.specs.BadLine.{AreGood, IsFirstBad}

-- one more good line behind the others
pub AreGood-push : (IsGood : ℕ → List ℕ → Type 0) (before : ℕ) (lines : List (List ℕ)) (line : List ℕ) → AreGood IsGood before lines → IsGood (before + length lines) line → AreGood IsGood before (lines ++ line ∷ [])
AreGood-push IsGood before [] line good here = (subst (λ n. IsGood n line) (add-zero before) here, tt)
AreGood-push IsGood before (first ∷ lines) line good here =
    (good.0, AreGood-push IsGood (suc before) lines line good.1 (subst (λ n. IsGood n line) (omega arith) here))

-- a line among good ones is good
pub AreGood-middle : (IsGood : ℕ → List ℕ → Type 0) (before : ℕ) (front after : List (List ℕ)) (line : List ℕ) → AreGood IsGood before (front ++ line ∷ after) → IsGood (before + length front) line
AreGood-middle IsGood before [] after line good = subst (λ n. IsGood n line) (sym (add-zero before)) good.0
AreGood-middle IsGood before (first ∷ front) after line good =
    subst (λ n. IsGood n line) (omega arith) (AreGood-middle IsGood (suc before) front after line good.1)

-- a text of good lines has no first bad one
pub IsFirstBad-none : (IsGood : ℕ → List ℕ → Type 0) (text : List ℕ) (number : ℕ) → AreGood IsGood 0 (lines_of text) → ¬ (IsFirstBad IsGood text number)
IsFirstBad-none IsGood text number all first =
    let good : AreGood IsGood 0 (first.before ++ first.line ∷ first.after) = rw (← first.parts) all in
    first.bad (subst (λ n. IsGood n first.line) (zero-add (length first.before)) (AreGood-middle IsGood 0 first.before first.after first.line good))
