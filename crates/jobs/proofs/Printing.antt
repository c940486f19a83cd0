-- The lines of answers, one after the other.
use Rattle.std.proofs.Common.{◌≡◌, ℕ, suc, ◌+◌, ◌<◌, List, [], ◌∷◌, ◌++◌, take, get_or, length, sym, ap, ◌∙◌, append_assoc, append-nil, add-zero, add-one, arith}
use Rattle.std.proofs.Math.Seq.{take-suc}
use Rattle.std.proofs.lemmas.List.{length-take-le}
use Rattle.jobs.specs.declared.job.Answer.{Answer}
use Rattle.jobs.specs.Lines.{answers_text, line_text}

answers_text-push : (number : ℕ) (answers : List Answer) (answer : Answer) → answers_text number (answers ++ answer ∷ []) ≡ answers_text number answers ++ line_text (number + length answers) answer
answers_text-push number [] answer = append-nil (line_text number answer) ∙ ap (λ n. line_text n answer) (sym (add-zero number))
answers_text-push number (first ∷ answers) answer =
    let counted : suc number + length answers ≡ number + length (first ∷ answers) = omega arith in
    ap (λ text. line_text number first ++ text) (answers_text-push (suc number) answers answer)
    ∙ sym (append_assoc (line_text number first) (answers_text (suc number) answers) (line_text (suc number + length answers) answer))
    ∙ ap (λ n. (line_text number first ++ answers_text (suc number) answers) ++ line_text n answer) counted

-- one line more
pub answers_text-more : (answers : List Answer) (index : ℕ) (default : Answer) → index < length answers → answers_text 0 (take (index + 1) answers) ≡ answers_text 0 (take index answers) ++ line_text index (get_or answers index default)
answers_text-more answers index default within =
    let answer = get_or answers index default in
    let more : take (suc index) answers ≡ take index answers ++ (answer ∷ []) = take-suc answers index default within in
    let counted : 0 + length (take index answers) ≡ index = omega (arith, length-take-le index answers) in
    ap (λ n. answers_text 0 (take n answers)) (add-one index)
    ∙ ap (answers_text 0) more
    ∙ answers_text-push 0 (take index answers) answer
    ∙ ap (λ n. answers_text 0 (take index answers) ++ line_text n answer) counted
