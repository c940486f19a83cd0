use Rattle.std.proofs.Common.{◌≡◌, ◌≢◌, ◌∙◌, sym, ap, subst, ℕ, Bool, true, false, Result, Ok, Err, IfSome, List, Option, None, Some}
use Rattle.std.proofs.lemmas.Bool.{false≢true}
use Rattle.std.specs.Result.{IsErrAnd}
use Rattle.commands.specs.Fault.{fault_of}
use Rattle.commands.specs.declared.fault.Fault.{Fault}
use Rattle.commands.specs.declared.fault.Fault.TheVariants.{Missing, BadLine, Usage, NoMemory, NoThread, NoRandom, ReadFailed, WriteFailed}
use Rattle.text_lines.specs.declared.error.ParseError.{ParseError}
use Rattle.text_lines.specs.declared.error.ParseError.TheVariants as parse
use Rattle.commands.proofs.sim.sim.Goals as goal

-- what is said of all that was read is said of all that there is
of_all : (all : Option (List ℕ)) (items : List ℕ) (Says : List ℕ → Type 0)
    → IfSome all (λ input. items ≡ input) → Says items → IfSome all Says
of_all None items Says read says = tt
of_all (Some input) items Says read says = subst Says read says

is_bad_line : {X : Type 0} → Result X Fault → Bool
is_bad_line (Ok x) = false
is_bad_line (Err (Missing number)) = false
is_bad_line (Err (BadLine number)) = true
is_bad_line (Err Usage) = false
is_bad_line (Err NoMemory) = false
is_bad_line (Err NoThread) = false
is_bad_line (Err NoRandom) = false
is_bad_line (Err ReadFailed) = false
is_bad_line (Err WriteFailed) = false

-- want of memory is no bad line
no_bad_line : {X : Type 0} (result : Result X Fault) (error : ParseError) (number : ℕ)
    → error ≡ parse.NoMemory → IsErrAnd result (λ fault. fault ≡ fault_of error) → result ≢ Err (BadLine number)
unfolding is_bad_line
no_bad_line {X = X} (Ok x) error number memory fault same = absurd fault
no_bad_line {X = X} (Err e) error number memory fault same =
    absurd (false≢true (sym (ap (λ it. is_bad_line {X = X} (Err it)) (fault ∙ ap fault_of memory)) ∙ ap (is_bad_line {X = X}) same))

pub returns-in_err-text-clause-good_lines : goal.returns-in_err-text-clause-good_lines
returns-in_err-text-clause-good_lines g c = λ number.
    of_all _ c.in_ok-input.input.items _ c.in_ok-input.ensures.whole (λ good.
    no_bad_line _ c.in_err-text.field-0.0 number (c.in_err-text.ensures.good_input (rw c.as_slice.ensures.value good))
    c.from_residual-in_err-text.ensures.1)
