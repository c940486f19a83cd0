-- Outputs that came of the first answers of a list.
use Rattle.std.proofs.Common.{◌≡◌, ◌<◌, ◌+◌, ◌∷◌, ◌++◌, [], List, length, drop}
use Rattle.std.proofs.Common.{arith, ap, sym, ◌∙◌}
use Rattle.std.proofs.lemmas.List.{append_assoc, drop-drop, length-append, length-drop}
use Rattle.pool.specs.Answers.{HaveCome}

-- the first of those that are left gave its output
pub one_came :
    {A X : Type 0} (old new more : List X) (waiting left then : List A) (output : X)
    → HaveCome old waiting new left → 0 < length left → then ≡ drop 1 left → more ≡ new ++ output ∷ []
    → HaveCome old waiting more then
one_came old new more waiting left then output came some next same =
    let longer = length-append came.0 (output ∷ []) in
    let behind = ap (λ l. drop 1 l) (next ∙ came.3) ∙ drop-drop 1 (length came.0 + 1) waiting in (
      came.0 ++ output ∷ [],
      same ∙ ap (λ l. l ++ output ∷ []) came.1 ∙ append_assoc old came.0 (output ∷ []),
      omega (arith, some, longer, came.2, ap length next, length-drop 1 left),
      behind ∙ ap (λ n. drop (n + 1) waiting) (sym longer),
    )
