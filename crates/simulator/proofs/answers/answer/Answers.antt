use Rattle.std.proofs.Common.{◌≡◌, ℕ, Bool, List, Result, Ok, Err, Some, IsOkUnless, inl, inr, ap, subst, ◌∙◌, []}
use Rattle.std.specs.Prelude.{IsErrAnd}
use Rattle.simulator.specs.Answer.{IsAnswer}
use Rattle.script.specs.Script.{IsScript}
use Rattle.simulator.specs.ScriptText.{IsTextOf}
use Rattle.script.specs.declared.command.Command.{Command}
use Rattle.text_lines.specs.declared.error.ParseError.{ParseError}
use Rattle.text_lines.specs.declared.error.ParseError.TheVariants as parse
use Rattle.simulator.proofs.answers.answer.Goals as goal

-- where the parser's error is the want of memory, so is the one that is passed on
out_of_memory : {T : Type 0} (e : ParseError) (r : Result T ParseError)
    → e ≡ parse.NoMemory → IsErrAnd r (λ error. error ≡ e) → IsOkUnless r parse.NoMemory
out_of_memory e (Ok x) told gives = absurd gives
out_of_memory e (Err error) told gives = gives ∙ told

-- the text of the one script that the input is
script_answer : (input text : List ℕ) (limit : ℕ) (is_static : Bool) (commands : List Command)
    → IsScript input limit is_static commands → (input ≡ [] → ⊥)
    → ((l : ℕ) (b : Bool) (cs : List Command) → IsScript input l b cs
    → (limit ≡ l) × (is_static ≡ b) × (commands ≡ cs))
    → IsTextOf limit is_static commands text → IsAnswer input text
script_answer input text limit is_static commands script some only told = record {
  good = inr (limit, is_static, commands, script);
  of_nothing = λ none. absurd (some none);
  of_script = λ l b cs other.
      let all = only l b cs other in
      let P : ℕ → Type 0 = λ n. IsTextOf n b cs text in
      let R : Bool → Type 0 = λ k. IsTextOf limit k cs text in
      let Q : List Command → Type 0 = λ ds. IsTextOf limit is_static ds text in
      subst P all.0 (subst R all.1 (subst Q all.2 told));
}

pub returns-in_err-script-clause-good_input : goal.returns-in_err-script-clause-good_input
returns-in_err-script-clause-good_input c = λ good.
    let told : c.in_err-script.field-0.0 ≡ parse.NoMemory = elim good [
      | inl empty ↦ (let read = c.parse.ensures.empty.1 empty in let was = c.in_err-script.was in cc)
      | inr script ↦ rw c.in_err-script.was at (c.parse.ensures.accepts script.0 script.1 script.2 script.3)
    ] in
    out_of_memory c.in_err-script.field-0.0 c.from_residual.result told c.from_residual.ensures.1

pub returns-clause-answer : goal.returns-clause-answer
returns-clause-answer c =
    let was : c.parse.result ≡ Ok (Some c.in-Some.script) = c.in_ok-script.was ∙ ap Ok c.in-Some.is in
    script_answer c.args.input.now c.in_ok-show.field-0.items c.in-Some.script.limit c.in-Some.script.is_static
    c.in-Some.script.commands.items
    (rw was at c.parse.ensures.script)
    (λ none. let read = c.parse.ensures.empty.1 none in cc)
    (λ l b cs other. rw was at (c.parse.ensures.only l b cs other))
    c.in_ok-show.ensures
