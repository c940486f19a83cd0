-- A text that is read as a script, line by line.
use Rattle.std.proofs.Common.{◌≡◌, ℕ, Bool, suc, ◌+◌, ◌<◌, ◌≤◌, List, [], ◌∷◌, ◌++◌, length, All, refl, sym, ap, ◌∙◌, subst}
use Rattle.std.proofs.Common.{append_assoc, append-nil, zero-add, add-zero, arith}
use Rattle.std.specs.List.{AllZip}
use Rattle.std.proofs.lemmas.List.Elements.{All-cons, All-head, All-tail}
use Rattle.std.proofs.lemmas.Slice.Zip.{all_zipped_more}
use Rattle.text_lines.specs.Lines.{lines_of}
use Rattle.script.specs.Script.{IsFirstLine, IsCommand, IsShort, Says, IsScript}
use Rattle.text_lines.specs.BadLine.{AreGood}
use Rattle.text_lines.proofs.Good.{AreGood-push, IsFirstBad-none}
use Rattle.script.specs.BadLine.{IsGood, IsFirstBadLine}
use Rattle.script.specs.declared.command.Command.{Command}
use Rattle.text_lines.specs.declared.error.ParseError.{ParseError}
use Rattle.text_lines.specs.declared.error.ParseError.TheVariants.{BadLine, NoMemory}
use Rattle.text_lines.proofs.Zipping.{length-AllZip}

-- the good lines of a text in front of those that are left, and what they say
pub record HasParsed (limit : ℕ) (is_static : Bool) (commands : List Command) (text : List ℕ) (left : List (List ℕ)) : Type 0 where
  pub first : List ℕ
  pub front : List (List ℕ)
  pub parts : lines_of text ≡ (first ∷ front) ++ left
  pub says : IsFirstLine limit is_static first
  pub each : AllZip IsCommand commands front
  pub good : AreGood IsGood 0 (first ∷ front)

AreGood-few : (before : ℕ) (lines : List (List ℕ)) → before ≤ 10000 → AreGood IsGood before lines → before + length lines ≤ 10000
AreGood-few before [] few good = omega arith
AreGood-few before (line ∷ lines) few good =
    omega (arith, good.0.within, AreGood-few (suc before) lines (omega (arith, good.0.within)) good.1)

AreGood-short : (before : ℕ) (lines : List (List ℕ)) → AreGood IsGood before lines → All IsShort lines
AreGood-short before [] good = λ k d within. absurd (omega arith)
AreGood-short before (line ∷ lines) good = All-cons IsShort line lines good.0.short (AreGood-short (suc before) lines good.1)

-- the first line says limit and kind
pub HasParsed-first : (limit : ℕ) (is_static : Bool) (text first : List ℕ) (left : List (List ℕ)) → lines_of text ≡ first ∷ left →
    IsFirstLine limit is_static first → IsShort first → HasParsed limit is_static [] text left
HasParsed-first limit is_static text first left parts says short = record {
  first = first;
  front = [];
  parts = parts;
  says = says;
  each = tt;
  good = (record { within = omega arith; short = short; spelled = (limit, is_static, says) }, tt);
}

-- one more line, and its command
pub HasParsed-push : (limit : ℕ) (is_static : Bool) (commands : List Command) (text : List ℕ) (left rest : List (List ℕ))
    (command : Command) (line : List ℕ) → HasParsed limit is_static commands text left → left ≡ line ∷ rest →
    IsCommand command line → IsGood (suc (length commands)) line → HasParsed limit is_static (commands ++ command ∷ []) text rest
HasParsed-push limit is_static commands text left rest command line so_far next is good =
    let counted : length commands ≡ length so_far.front = length-AllZip IsCommand commands so_far.front so_far.each in
    record {
      first = so_far.first;
      front = so_far.front ++ line ∷ [];
      parts = so_far.parts ∙ ap (λ l. (so_far.first ∷ so_far.front) ++ l) next
          ∙ sym (append_assoc (so_far.first ∷ so_far.front) (line ∷ []) rest);
      says = so_far.says;
      each = all_zipped_more IsCommand commands so_far.front command line so_far.each is;
      good = AreGood-push IsGood 0 (so_far.first ∷ so_far.front) line so_far.good (subst (λ n. IsGood n line) (omega arith) good);
    }

-- no line is left
pub HasParsed-all : (limit : ℕ) (is_static : Bool) (commands : List Command) (text : List ℕ) (left : List (List ℕ)) →
    HasParsed limit is_static commands text left → left ≡ [] → IsScript text limit is_static commands
HasParsed-all limit is_static commands text left so_far none =
    let whole : lines_of text ≡ so_far.first ∷ so_far.front = so_far.parts
    ∙ ap (λ l. (so_far.first ∷ so_far.front) ++ l) none ∙ append-nil (so_far.first ∷ so_far.front) in
    record {
      says = rw whole (so_far.says, so_far.each);
      short = rw whole (AreGood-short 0 (so_far.first ∷ so_far.front) so_far.good);
      few = omega (arith, ap length whole, AreGood-few 0 (so_far.first ∷ so_far.front) (omega arith) so_far.good);
    }

-- the next line isn't good
pub HasParsed-bad : (limit number : ℕ) (is_static : Bool) (commands : List Command) (text line : List ℕ) (left rest : List (List ℕ)) →
    HasParsed limit is_static commands text left → left ≡ line ∷ rest → number ≡ length commands + 2 →
    ¬ (IsGood (suc (length commands)) line) → IsFirstBadLine text number
HasParsed-bad limit number is_static commands text line left rest so_far next numbered bad =
    let counted : length commands ≡ length so_far.front = length-AllZip IsCommand commands so_far.front so_far.each in
    record {
      before = so_far.first ∷ so_far.front;
      line = line;
      after = rest;
      parts = so_far.parts ∙ ap (λ l. (so_far.first ∷ so_far.front) ++ l) next;
      numbered = omega arith;
      good = so_far.good;
      bad = λ good. bad (subst (λ n. IsGood n line) (omega arith) good);
    }

-- the lines so far are few
pub HasParsed-few : (limit : ℕ) (is_static : Bool) (commands : List Command) (text : List ℕ) (left : List (List ℕ)) →
    HasParsed limit is_static commands text left → length commands < 10000
HasParsed-few limit is_static commands text left so_far =
    omega (
      arith,
      length-AllZip IsCommand commands so_far.front so_far.each,
      AreGood-few 0 (so_far.first ∷ so_far.front) (omega arith) so_far.good,
    )

-- the first line isn't good
pub IsFirstBadLine-first : (text line : List ℕ) (rest : List (List ℕ)) → lines_of text ≡ line ∷ rest →
    ((limit : ℕ) (is_static : Bool) → IsFirstLine limit is_static line → ¬ (IsShort line)) → IsFirstBadLine text 1
IsFirstBadLine-first text line rest parts bad = record {
  before = [];
  line = line;
  after = rest;
  parts = parts;
  numbered = refl;
  good = tt;
  bad = λ good. bad good.spelled.0 good.spelled.1 good.spelled.2 good.short;
}

AreGood-later : (before : ℕ) (commands : List Command) (lines : List (List ℕ)) → AllZip IsCommand commands lines →
    All IsShort lines → suc before + length lines ≤ 10000 → AreGood IsGood (suc before) lines
AreGood-later before [] [] each short few = tt
AreGood-later before [] (line ∷ lines) each short few = absurd each
AreGood-later before (command ∷ commands) [] each short few = absurd each
AreGood-later before (command ∷ commands) (line ∷ lines) each short few = (
  record { within = omega arith; short = All-head IsShort line lines short; spelled = (command, each.0) },
  AreGood-later (suc before) commands lines each.1 (All-tail IsShort line lines short) (omega arith),
)

AreGood-says : (limit : ℕ) (is_static : Bool) (commands : List Command) (lines : List (List ℕ)) → Says limit is_static commands lines →
    All IsShort lines → length lines ≤ 10000 → AreGood IsGood 0 lines
AreGood-says limit is_static commands [] says short few = tt
AreGood-says limit is_static commands (first ∷ later) says short few = (
  record { within = omega arith; short = All-head IsShort first later short; spelled = (limit, is_static, says.0) },
  AreGood-later 0 commands later says.1 (All-tail IsShort first later short) (omega arith),
)

-- a script has no bad line
pub IsScript-none : (text : List ℕ) (limit number : ℕ) (is_static : Bool) (commands : List Command) →
    IsScript text limit is_static commands → ¬ (IsFirstBadLine text number)
IsScript-none text limit number is_static commands is =
    IsFirstBad-none IsGood text number (AreGood-says limit is_static commands (lines_of text) is.says is.short is.few)

-- an error that names no line
pub NoMemory-else : (error : ParseError) → ((number : ℕ) → error ≡ BadLine number → ⊥) → error ≡ NoMemory
NoMemory-else (BadLine number) names_none = absurd (names_none number refl)
NoMemory-else NoMemory names_none = refl
