-- A text that is read as jobs, line by line.
use Rattle.std.proofs.Common.{◌≡◌, ℕ, suc, ◌+◌, ◌<◌, ◌≤◌, List, [], ◌∷◌, ◌++◌, length, All, sym, ap, ◌∙◌, subst, append_assoc, append-nil, arith}
use Rattle.std.specs.List.{AllZip}
use Rattle.std.proofs.lemmas.List.Elements.{All-cons, All-head, All-tail}
use Rattle.std.proofs.lemmas.Slice.Zip.{all_zipped_more}
use Rattle.text_lines.specs.Lines.{lines_of}
use Rattle.text_lines.specs.BadLine.{AreGood}
use Rattle.text_lines.proofs.Good.{AreGood-push, IsFirstBad-none}
use Rattle.text_lines.proofs.Zipping.{length-AllZip}
use Rattle.jobs.specs.declared.job.Job.{Job}
use Rattle.jobs.specs.Lines.{Spells, IsShort, Says, IsGood, IsFirstBadLine}

-- the good lines of a text before those that are left, and what they say
pub record HasParsed (jobs : List Job) (text : List ℕ) (left : List (List ℕ)) : Type 0 where
  pub front : List (List ℕ)
  pub parts : lines_of text ≡ front ++ left
  pub each : AllZip Spells jobs front
  pub good : AreGood IsGood 0 front

AreGood-few : (before : ℕ) (lines : List (List ℕ)) → before ≤ 100000 → AreGood IsGood before lines → before + length lines ≤ 100000
AreGood-few before [] few good = omega arith
AreGood-few before (line ∷ lines) few good = omega (arith, good.0.within, AreGood-few (suc before) lines (omega (arith, good.0.within)) good.1)

AreGood-short : (before : ℕ) (lines : List (List ℕ)) → AreGood IsGood before lines → All IsShort lines
AreGood-short before [] good = λ k d within. absurd (omega arith)
AreGood-short before (line ∷ lines) good = All-cons IsShort line lines good.0.short (AreGood-short (suc before) lines good.1)

-- nothing is read yet
pub HasParsed-none : (text : List ℕ) (left : List (List ℕ)) → lines_of text ≡ left → HasParsed [] text left
HasParsed-none text left parts = record { front = []; parts = parts; each = tt; good = tt }

-- one more line, and its job
pub HasParsed-push : (jobs : List Job) (text : List ℕ) (left rest : List (List ℕ)) (job : Job) (line : List ℕ) → HasParsed jobs text left → left ≡ line ∷ rest → length jobs < 100000 → Spells job line → IsShort line → HasParsed (jobs ++ job ∷ []) text rest
HasParsed-push jobs text left rest job line so_far next few is short =
    let counted : length jobs ≡ length so_far.front = length-AllZip Spells jobs so_far.front so_far.each in
    record {
      front = so_far.front ++ line ∷ [];
      parts = so_far.parts ∙ ap (λ l. so_far.front ++ l) next ∙ sym (append_assoc so_far.front (line ∷ []) rest);
      each = all_zipped_more Spells jobs so_far.front job line so_far.each is;
      good = AreGood-push IsGood 0 so_far.front line so_far.good (record { within = omega arith; short = short; job = job; spelled = is });
    }

-- no line is left
pub HasParsed-all : (jobs : List Job) (text : List ℕ) (left : List (List ℕ)) → HasParsed jobs text left → left ≡ [] → Says text jobs
HasParsed-all jobs text left so_far none =
    let whole : lines_of text ≡ so_far.front = so_far.parts ∙ ap (λ l. so_far.front ++ l) none ∙ append-nil so_far.front in
    record {
      each = rw whole so_far.each;
      short = rw whole (AreGood-short 0 so_far.front so_far.good);
      few = omega (arith, ap length whole, AreGood-few 0 so_far.front (omega arith) so_far.good);
    }

-- the next line isn't good
pub HasParsed-bad : (jobs : List Job) (text line : List ℕ) (left rest : List (List ℕ)) (number : ℕ) → HasParsed jobs text left → left ≡ line ∷ rest → number ≡ length jobs + 1 → ¬ (IsGood (length jobs) line) → IsFirstBadLine text number
HasParsed-bad jobs text line left rest number so_far next numbered bad =
    let counted : length jobs ≡ length so_far.front = length-AllZip Spells jobs so_far.front so_far.each in
    record {
      before = so_far.front;
      line = line;
      after = rest;
      parts = so_far.parts ∙ ap (λ l. so_far.front ++ l) next;
      numbered = omega arith;
      good = so_far.good;
      bad = λ good. bad (subst (λ n. IsGood n line) (sym counted) good);
    }

-- the lines so far are few
pub HasParsed-few : (jobs : List Job) (text : List ℕ) (left : List (List ℕ)) → HasParsed jobs text left → length jobs ≤ 100000
HasParsed-few jobs text left so_far =
    omega (arith, length-AllZip Spells jobs so_far.front so_far.each, AreGood-few 0 so_far.front (omega arith) so_far.good)

AreGood-says : (before : ℕ) (jobs : List Job) (lines : List (List ℕ)) → AllZip Spells jobs lines → All IsShort lines → before + length lines ≤ 100000 → AreGood IsGood before lines
AreGood-says before [] [] each short few = tt
AreGood-says before [] (line ∷ lines) each short few = absurd each
AreGood-says before (job ∷ jobs) [] each short few = absurd each
AreGood-says before (job ∷ jobs) (line ∷ lines) each short few = (
  record { within = omega arith; short = All-head IsShort line lines short; job = job; spelled = each.0 },
  AreGood-says (suc before) jobs lines each.1 (All-tail IsShort line lines short) (omega arith),
)

-- a list of jobs has no bad line
pub Says-none : (text : List ℕ) (number : ℕ) (jobs : List Job) → Says text jobs → ¬ (IsFirstBadLine text number)
Says-none text number jobs is =
    IsFirstBad-none IsGood text number (AreGood-says 0 jobs (lines_of text) is.each is.short (omega (arith, is.few)))
