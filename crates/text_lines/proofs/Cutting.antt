-- A text cut at a byte: its first line, and the first word of a line.
use Rattle.std.proofs.Common.{◌≡◌, ◌≢◌, ℕ, ◌<◌, Bool, true, false, cond, eqb, List, [], ◌∷◌, ◌++◌, length, Option, Some, None, All, MatchOption, unwrap_or, is_some, not, IsTrue, Bor, refl, sym, ap, ◌∙◌, arith}
use Rattle.std.specs.List.{onto_first}
use Rattle.std.specs.Option.{option_map_or}
use Rattle.std.proofs.lemmas.Bool.{ne_eqb, false≢true, not-true, not-false}
use Rattle.std.proofs.lemmas.List.Splits.{slice_split_at, slice_split_none, length-slice_split}
use Rattle.std.proofs.lemmas.List.Elements.{All-head, All-tail}
use Rattle.text_lines.specs.Lines.{lines_of, words_of}

-- no byte of these is the byte, as a test says it
tested : (byte : ℕ) (front : List ℕ) → All (λ other. other ≢ byte) front → All (λ other. eqb other byte ≡ false) front
tested byte front apart = λ k d within. ne_eqb _ byte (apart k d within)

-- the words of a line that was cut at its first blank
pub words_of-cut : (line front : List ℕ) (rest : Option (Bor (List ℕ))) → All (λ other. other ≢ 32) front → MatchOption rest (line ≡ front) (λ behind. line ≡ front ++ 32 ∷ behind.now) → words_of line ≡ front ∷ option_map_or (λ behind. words_of behind.now) rest []
words_of-cut line front None apart whole = rw whole (slice_split_none (λ byte. eqb byte 32) front (tested 32 front apart))
words_of-cut line front (Some behind) apart whole = rw whole (slice_split_at (λ byte. eqb byte 32) front 32 behind.now (tested 32 front apart) refl)

-- a line that a byte 10 ends
lines_of-ended : (front behind : List ℕ) → All (λ other. other ≢ 10) front → lines_of (front ++ 10 ∷ behind) ≡ front ∷ lines_of behind
lines_of-ended [] behind apart = refl
lines_of-ended (byte ∷ front) behind apart =
    rw (ne_eqb byte 10 (All-head (λ other. other ≢ 10) byte front apart), lines_of-ended front behind (All-tail (λ other. other ≢ 10) byte front apart)) refl

-- the last line, which no byte 10 ends
lines_of-last : (byte : ℕ) (line : List ℕ) → All (λ other. other ≢ 10) (byte ∷ line) → lines_of (byte ∷ line) ≡ (byte ∷ line) ∷ []
lines_of-last byte [] apart = rw (ne_eqb byte 10 (All-head (λ other. other ≢ 10) byte [] apart)) refl
lines_of-last byte (next ∷ line) apart =
    let later : lines_of (next ∷ line) ≡ (next ∷ line) ∷ [] = lines_of-last next line (All-tail (λ other. other ≢ 10) byte (next ∷ line) apart) in
    let first : eqb byte 10 ≡ false = ne_eqb byte 10 (All-head (λ other. other ≢ 10) byte (next ∷ line) apart) in
    ap (λ test. cond test ([] ∷ lines_of (next ∷ line)) (onto_first byte (lines_of (next ∷ line)))) first ∙ ap (onto_first byte) later

-- a text that isn't empty has a line
lines_of-some : (byte : ℕ) (ended : Bool) (lines : List (List ℕ)) → cond ended ([] ∷ lines) (onto_first byte lines) ≢ []
lines_of-some byte true lines none = cc
lines_of-some byte false [] none = cc
lines_of-some byte false (line ∷ lines) none = cc

pub lines_of-none : (text : List ℕ) → lines_of text ≡ [] → text ≡ []
lines_of-none [] none = refl
lines_of-none (byte ∷ bytes) none = absurd (lines_of-some byte (eqb byte 10) (lines_of bytes) none)

-- the lines of a text that was cut at its first byte 10
pub lines_of-cut : (text front : List ℕ) (rest : Option (Bor (List ℕ))) (kept none : Bor (List ℕ)) → kept ≡ unwrap_or rest none → none.now ≡ [] → 0 < length text → All (λ other. other ≢ 10) front → MatchOption rest (text ≡ front) (λ behind. text ≡ front ++ 10 ∷ behind.now) → lines_of text ≡ front ∷ lines_of kept.now
lines_of-cut text front (Some behind) kept none is empty some apart whole = rw (whole, is) (lines_of-ended front behind.now apart)
lines_of-cut text [] None kept none is empty some apart whole = absurd (omega (arith, ap length whole))
lines_of-cut text (byte ∷ front) None kept none is empty some apart whole = rw (whole, is, empty) (lines_of-last byte front apart)

-- a line has a word, which may be empty
words_of-some : (line : List ℕ) → words_of line ≢ []
words_of-some line none = absurd (omega (arith, ap length none, length-slice_split (λ byte. eqb byte 32) line))

-- no word is left where nothing of the line is
pub words_left-none : (rest : Option (Bor (List ℕ))) (none : Bool) → is_some rest ≡ not none → (IsTrue none → option_map_or (λ line. words_of line.now) rest [] ≡ []) × (option_map_or (λ line. words_of line.now) rest [] ≡ [] → IsTrue none)
words_left-none None none is = (λ _. refl, λ _. not-false none (sym is))
words_left-none (Some line) none is = (λ yes. absurd (false≢true (sym (not-true none (sym is)) ∙ yes)), λ empty. absurd (words_of-some line.now empty))
