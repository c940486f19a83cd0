-- For laws of the crates above.
-- Steps by their party's part.
use Rattle.std.proofs.Common.{◌≡◌, ◌<◌, ◌≤◌, List, [], ◌∷◌, ◌++◌, length, true, false, ltb, refl, ap, ◌∙◌, arith, Ok, Err}
use Rattle.std.specs.Prelude.{Option, Some, None}
use Rattle.std.{proofs.Common.Result, proofs.lemmas.Bool.Decides.nat_tests}
use Rattle.executor_model.proofs.Types.{Step, StepError, NoSuch}
use Rattle.executor_model.specs.Steps.{Machine, stack, party_of, part_refusal, refusal, after, step_by, step}
use Rattle.executor_model.specs.Executions.{run_all}

pub refusal-there : (s : Machine) (t : Step) → party_of t < length s.parties →
    refusal s t ≡ part_refusal s.world s.parties (stack s (party_of t)) t
refusal-there s t h = let e : ltb (party_of t) (length s.parties) ≡ true = grind (arith, nat_tests) in rw e refl

pub refusal-absent : (s : Machine) (t : Step) → length s.parties ≤ party_of t → refusal s t ≡ Some NoSuch
refusal-absent s t h = let e : ltb (party_of t) (length s.parties) ≡ false = grind (arith, nat_tests) in rw e refl

pub step-refused : (s : Machine) (t : Step) (e : StepError) → refusal s t ≡ Some e → step s t ≡ Err e
unfolding step
step-refused s t e q = ap (λ (r : Option StepError). step_by r s t) q

pub step-made : (s : Machine) (t : Step) → refusal s t ≡ None → step s t ≡ Ok (after s t)
unfolding step
step-made s t q = ap (λ (r : Option StepError). step_by r s t) q

abbrev then : List Step → Result Machine StepError → Result Machine StepError
then ts r = elim r [ Ok new ↦ run_all ts new | Err error ↦ Err error ]

-- one step more
pub run_all-more : (ts : List Step) (t : Step) (s now : Machine) → run_all ts s ≡ Ok now →
    run_all (ts ++ t ∷ []) s ≡ then (t ∷ []) (Ok now)
run_all-more [] t s now e = ap (then (t ∷ [])) e
run_all-more (x ∷ ts) t s now e = go (λ new q. run_all-more ts t new now q) (step s x) e
  where
    go : ((new : Machine) → run_all ts new ≡ Ok now → run_all (ts ++ t ∷ []) new ≡ then (t ∷ []) (Ok now)) →
        (r : Result Machine StepError) → then ts r ≡ Ok now → then (ts ++ t ∷ []) r ≡ then (t ∷ []) (Ok now)
    go more (Ok new) q = more new q
    go more (Err error) q = absurd (cc)

pub run_all-push : (ts : List Step) (t : Step) (s now new : Machine) → run_all ts s ≡ Ok now → step now t ≡ Ok new →
    run_all (ts ++ t ∷ []) s ≡ Ok new
run_all-push ts t s now new e q = run_all-more ts t s now e ∙ ap (then []) q
