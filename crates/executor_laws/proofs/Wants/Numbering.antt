-- For requests_are_numbered.
-- Up to the request that alone is refused all is as where none is.
use Rattle.std.proofs.Common.{◌≡◌, ◌∙◌, ℕ, ◌<◌, ◌+◌, ◌==◌, List, [], ◌∷◌, ◌++◌, Bool, true, false, refl, ap, subst, arith}
use Rattle.std.{proofs.lemmas.Bool.Decides.nat_tests, specs.Prelude.cond}
use Rattle.executor_laws.proofs.Types.{Step, Begin, Go}
use Rattle.executor_model.specs.{declared.step.Step.TheVariants.Answer, Steps.Machine, Steps.run, Steps.step, Steps.stepped}
use Rattle.executor_laws.specs.Continued.{IsContinued}
use Rattle.executor_laws.specs.Numbered.{is_request, left, refusing, requests, told}
use Rattle.executor_model.proofs.Steps.TraceSteps.{run-continues}

-- whether it asks is not changed by what it is told
asks-so : (b : Bool) (k p : ℕ) (s : Machine) (t : Step) → is_request p s (told b k t) ≡ is_request p s t
asks-so true k p s (Go q h) = refl
asks-so true k p s (Begin q c) = refl
asks-so true k p s (Answer q e) = refl
asks-so false k p s t = refl

not-yet : (k : ℕ) (t : Step) → 1 < k → told true k t ≡ told true 0 t
not-yet k (Go q h) l =
    let e : (k == 1) ≡ false = grind (arith, nat_tests) in
    ap (λ (b : Bool). Go q (record h { refused = b })) e
not-yet k (Begin q c) l = refl
not-yet k (Answer q e) l = refl

abbrev With : Bool → ℕ → ℕ → Machine → Step → List Step → List Step
With b k p s t ts = told b k t ∷ refusing (left b k) p (stepped s (step s (told b k t))) ts

abbrev Same : ℕ → List Step → Type 0
Same p ts = (k : ℕ) (s : Machine) → requests p s (refusing 0 p s ts) < k → refusing k p s ts ≡ refusing 0 p s ts

-- one step more
same-by : (p k : ℕ) (s : Machine) (t : Step) (ts : List Step) → Same p ts → (b : Bool) →
    cond b 1 0 + requests p (stepped s (step s (told b 0 t))) (refusing (left b 0) p (stepped s (step s (told b 0 t))) ts) < k →
    With b k p s t ts ≡ With b 0 p s t ts
same-by p k s t ts same false m =
    let e : left false k ≡ k = omega arith in
    ap (λ (n : ℕ). t ∷ refusing n p (stepped s (step s t)) ts) e
    ∙ ap (λ (us : List Step). t ∷ us) (same k (stepped s (step s t)) (omega (arith, m)))
same-by p k s t ts same true m =
    let e : told true k t ≡ told true 0 t = not-yet k t (omega (arith, m)) in
    ap (λ (u : Step). u ∷ refusing (left true k) p (stepped s (step s u)) ts) e
    ∙ ap (λ (us : List Step). told true 0 t ∷ us) (same (left true k) (stepped s (step s (told true 0 t))) (omega (arith, m)))

same-steps : (p : ℕ) (ts : List Step) → Same p ts
same-steps p [] = λ k s l. refl
same-steps p (t ∷ ts) = λ k s l.
    let b : Bool = is_request p s t in
    same-by p k s t ts (same-steps p ts) b
    (subst (λ (c : Bool). cond c 1 0 + requests p (stepped s (step s (told b 0 t)))
    (refusing (left b 0) p (stepped s (step s (told b 0 t))) ts) < k)
    (asks-so b 0 p s t) l)

pub same-up : (p k : ℕ) (s : Machine) (ts : List Step) → requests p s (refusing 0 p s ts) < k →
    run (refusing k p s ts) s ≡ run (refusing 0 p s ts) s
same-up p k s ts l = ap (λ (us : List Step). run us s) (same-steps p ts k s l)

-- what follows comes behind
goes-on : (p k : ℕ) (s : Machine) (ts us : List Step) →
    IsContinued (run (refusing k p s ts) s).world.trace (run (refusing k p s (ts ++ us)) s).world.trace
goes-on p k s [] us = run-continues (refusing k p s us) s
goes-on p k s (t ∷ ts) us =
    goes-on p (left (is_request p s t) k) (stepped s (step s (told (is_request p s t) k t))) ts us

pub behind-it : (p k : ℕ) (s : Machine) (ts us : List Step) → requests p s (refusing 0 p s ts) < k →
    IsContinued (run (refusing 0 p s ts) s).world.trace (run (refusing k p s (ts ++ us)) s).world.trace
behind-it p k s ts us l =
    subst (λ (m : Machine). IsContinued m.world.trace (run (refusing k p s (ts ++ us)) s).world.trace) (same-up p k s ts l)
    (goes-on p k s ts us)
