-- Which line of a text is the first that isn't good, whatever a language calls so.
use Rattle.std.specs.Prelude.{◌≡◌, ℕ, suc, ◌+◌, List, [], ◌∷◌, ◌++◌, length}
use Rattle.text_lines.specs.Lines.{lines_of}

-- each of these lines is good where it stands, behind this many others
abbrev pub AreGood : (ℕ → List ℕ → Type 0) → ℕ → List (List ℕ) → Type 0
AreGood IsGood before [] = Unit {0}
AreGood IsGood before (line ∷ lines) = IsGood before line × AreGood IsGood (suc before) lines

-- the lines before are good, and the line of this number, counted from 1, is not
pub record IsFirstBad (IsGood : ℕ → List ℕ → Type 0) (text : List ℕ) (number : ℕ) : Type 0 where
  pub before : List (List ℕ)
  pub line : List ℕ
  pub after : List (List ℕ)
  pub parts : lines_of text ≡ before ++ line ∷ after
  pub numbered : number ≡ length before + 1
  pub good : AreGood IsGood 0 before
  pub bad : ¬ (IsGood (length before) line)
