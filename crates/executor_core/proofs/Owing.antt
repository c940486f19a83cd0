-- The order in which what is owed is put on a stack.
use Rattle.std.proofs.Common.{◌≡◌, List, [], ◌∷◌, ◌++◌, sym, ap, ◌∙◌, append_assoc}
use Rattle.std.specs.Prelude.{reverse}
use Rattle.std.proofs.lemmas.List.{reverse-append}
use Rattle.executor_model.specs.declared.op.Op.{Op}

-- one thing was put on, and then another
pub two-put-on : (t u v : List Op) (a b : Op) → u ≡ t ++ a ∷ [] → v ≡ u ++ b ∷ [] → v ≡ t ++ a ∷ b ∷ []
two-put-on t u v a b p q = q ∙ (ap (λ (l : List Op). l ++ b ∷ []) p ∙ append_assoc t (a ∷ []) (b ∷ []))

-- what comes first is put on last
pub reverse_before : (t s x : List Op) → t ++ reverse (s ++ x) ≡ (t ++ reverse x) ++ reverse s
reverse_before t s x = ap (λ (l : List Op). t ++ l) (reverse-append s x) ∙ sym (append_assoc t (reverse x) (reverse s))

pub reverse_owed :
    (t s f o a n m : List Op)
    → t ++ reverse (s ++ (f ++ (o ++ (a ++ (n ++ m)))))
    ≡ (((((t ++ reverse m) ++ reverse n) ++ reverse a) ++ reverse o) ++ reverse f) ++ reverse s
reverse_owed t s f o a n m =
    reverse_before t s (f ++ (o ++ (a ++ (n ++ m))))
    ∙ ap (λ (l : List Op). l ++ reverse s) (reverse_before t f (o ++ (a ++ (n ++ m)))
    ∙ ap (λ (l : List Op). l ++ reverse f) (reverse_before t o (a ++ (n ++ m))
    ∙ ap (λ (l : List Op). l ++ reverse o) (reverse_before t a (n ++ m)
    ∙ ap (λ (l : List Op). l ++ reverse a) (reverse_before t n m))))
