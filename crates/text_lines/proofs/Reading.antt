-- What a word stands for, and what it doesn't.
use Rattle.std.proofs.Common.{◌≡◌, ℕ, ◌^◌, ◌<◌, List, length, Result, Ok, Err, None, IfNone, MatchResult, arith}
use Rattle.std.specs.Result.{result_ok}
use Rattle.std.specs.Str.{IsUtf8}
use Rattle.std.specs.Str.Parse.{ParsesUnsigned}
use Rattle.std.proofs.lemmas.Str.{IsUtf8-from_ascii}
use Rattle.std.proofs.lemmas.Str.Ascii.{IsAscii-from_reads}
use Rattle.std.proofs.lemmas.Str.Parse.{numerals_by_value, tells_by_index, parse_gives}
use Rattle.text_lines.specs.Number.{IsNumber}

-- digits are text
pub IsUtf8-IsNumber : (word : List ℕ) (number : ℕ) → IsNumber word number → IsUtf8 word
IsUtf8-IsNumber word number is =
    IsUtf8-from_ascii word (IsAscii-from_reads word (length word) (omega arith)
    (λ k within. omega (arith, (is.digits k 0 within).1)))

-- what is no text is no number
pub IsNumber-none : {S E : Type 0} (P : S → Type 0) (Q : E → Type 0) (word : List ℕ) (text : Result S E) → MatchResult text P Q → ((error : E) → Q error → ¬ (IsUtf8 word)) → result_ok text ≡ None → (number : ℕ) → ¬ (IsNumber word number)
IsNumber-none P Q word (Ok text) cases not_text none = λ number is. cc
IsNumber-none P Q word (Err error) cases not_text none = λ number is. not_text error cases (IsUtf8-IsNumber word number is)

-- a word that isn't read is no number below 2 ^ 64
pub unread : {E : Type 0} (word : List ℕ) (read : Result ℕ E) → ParsesUnsigned 64 10 word read → IfNone (result_ok read) ((number : ℕ) → number < 2 ^ 64 → ¬ (IsNumber word number))
unread word (Ok number) parsed = tt
unread word (Err error) parsed = λ number small is.
    let gives = parse_gives (numerals_by_value _ tells_by_index) 64 word (Err error) parsed (λ k within. is.digits k 0 within) is.some (rw is.value small) in
    cc
