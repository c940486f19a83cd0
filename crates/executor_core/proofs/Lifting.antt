-- A party's part of a step, at the vectors of all parties.
use Rattle.std.proofs.Common.{◌≡◌, ℕ, zero, suc, ◌+◌, ◌<◌, ◌≤◌, List, [], ◌∷◌, ◌++◌, length}
use Rattle.std.proofs.Common.{map, get_or, set, take, add-one, refl, sym}
use Rattle.std.proofs.Common.{ap, ◌∙◌, subst, arith, Ok, Err, Result, Vec, Global}
use Rattle.std.specs.Prelude.{Some, None}
use Rattle.std.proofs.lemmas.List.{take_more}
use Rattle.executor_model.specs.declared.kind.Kind.{Kind}
use Rattle.executor_model.specs.declared.op.Op.{Op}
use Rattle.executor_model.specs.declared.step.Step.{Step}
use Rattle.executor_model.specs.declared.step.StepError.{StepError}
use Rattle.executor_model.specs.declared.step.StepError.TheVariants.{NoSuch}
use Rattle.executor_model.specs.World.{World}
use Rattle.executor_model.specs.Good.{Good, Needs}
use Rattle.executor_model.specs.Executions.{run_all}
use Rattle.executor_model.specs.Steps.{Machine, part, stack, top, party_of, part_refusal}
use Rattle.executor_model.specs.Steps.{part_after, with_part, refusal, after, step}
use Rattle.executor_model.specs.Steps.{start, idle}
use Rattle.executor_model.proofs.Steps.Needing.{needs}
use Rattle.executor_core.specs.Reached.{IsReached}
use Rattle.executor_core.proofs.Reaching.{begins}
use Rattle.executor_model.proofs.Steps.Stepping.{refusal-there, refusal-absent, step-refused, step-made, run_all-push}

abbrev pub items : List (Vec Op Global) → List (List Op)
items ps = map (λ v. v.items) ps

abbrev pub state : World → List (Vec Op Global) → Machine
state w ps = record { world = w; parties = items ps }

items-set : (ps : List (Vec Op Global)) (p : ℕ) (v : Vec Op Global) → items (set ps p v) ≡ set (items ps) p v.items
items-set [] p v = refl
items-set (x ∷ ps) zero v = refl
items-set (x ∷ ps) (suc p) v = ap (λ (l : List (List Op)). x.items ∷ l) (items-set ps p v)

items-get : (ps : List (Vec Op Global)) (p : ℕ) (d : Vec Op Global) → p < length ps →
    get_or (items ps) p [] ≡ (get_or ps p d).items
items-get [] p d h = absurd (omega arith)
items-get (x ∷ ps) zero d h = refl
items-get (x ∷ ps) (suc p) d h = items-get ps p d (omega arith)

items-length : (ps : List (Vec Op Global)) → length (items ps) ≡ length ps
items-length [] = refl
items-length (x ∷ ps) = ap suc (items-length ps)

set_same : (ps : List (List Op)) (p : ℕ) (y : List Op) → get_or ps p [] ≡ y → p < length ps → set ps p y ≡ ps
set_same [] p y e h = refl
set_same (x ∷ ps) zero y e h = ap (λ (z : List Op). z ∷ ps) (sym e)
set_same (x ∷ ps) (suc p) y e h = ap (λ (z : List (List Op)). x ∷ z) (set_same ps p y e (omega arith))

-- what party p has to do, as it stands in the vectors: v was read there
pub stack_is :
    (w : World) (ps : List (Vec Op Global)) (p : ℕ) (v : Vec Op Global)
    → p < length ps → v ≡ get_or ps p v → stack (state w ps) p ≡ v.items
stack_is w ps p v h e = items-get ps p v h ∙ ap (λ (x : Vec Op Global). x.items) (sym e)

pub absent : (w : World) (ps : List (Vec Op Global)) (t : Step) → length ps ≤ party_of t →
    step (state w ps) t ≡ Err NoSuch
absent w ps t h = step-refused (state w ps) t NoSuch (refusal-absent (state w ps) t (omega (arith, items-length ps, h)))

-- why the step isn't possible, as it stands in the vectors
pub refusal_is :
    (w : World) (ps : List (Vec Op Global)) (p : ℕ) (t : Step) (v : Vec Op Global)
    → p ≡ party_of t → p < length ps → v ≡ get_or ps p v → refusal (state w ps) t ≡ part_refusal w (items ps) v.items t
refusal_is w ps p t v q h e = refusal-there (state w ps) t (omega (arith, items-length ps, h, q))
    ∙ ap (λ (os : List Op). part_refusal w (items ps) os t) (ap (stack (state w ps)) (sym q) ∙ stack_is w ps p v h e)

pub refused :
    (w : World) (ps : List (Vec Op Global)) (p : ℕ) (t : Step) (v : Vec Op Global) (x : StepError)
    → p ≡ party_of t → p < length ps → v ≡ get_or ps p v → part_refusal w (items ps) v.items t ≡ Some x
    → step (state w ps) t ≡ Err x
refused w ps p t v x q h e r = step-refused (state w ps) t x (refusal_is w ps p t v q h e ∙ r)

-- the same state
pub stays :
    (w w2 : World) (ps : List (Vec Op Global)) (p : ℕ) (v v2 : Vec Op Global)
    → p < length ps → v ≡ get_or ps p v → v2.items ≡ v.items → w2 ≡ w → state w2 (set ps p v2) ≡ state w ps
stays w w2 ps p v v2 h e q m =
    let l : items (set ps p v2) ≡ items ps = items-set ps p v2
    ∙ set_same (items ps) p v2.items (stack_is w ps p v h e ∙ sym q) (omega (arith, items-length ps)) in
    λ i. record { world = m i; parties = l i }

-- the party's part was done
pub went :
    (w w1 w2 : World) (ps : List (Vec Op Global)) (p : ℕ) (t : Step) (v r v2 : Vec Op Global)
    → p ≡ party_of t → p < length ps → v ≡ get_or ps p v → r.items ≡ v.items → w1 ≡ w →
    part w2 v2.items ≡ part_after w1 r.items t
    → after (state w ps) t ≡ state w2 (set ps p v2)
went w w1 w2 ps p t v r v2 q h e k m g =
    ap (λ (n : ℕ). with_part (state w ps) n (part_after w (stack (state w ps) n) t)) (sym q)
    ∙ ap (λ (x : World × List Op). with_part (state w ps) p (part_after x.0 x.1 t))
    (λ i. (sym m i, (stack_is w ps p v h e ∙ sym k) i))
    ∙ ap (with_part (state w ps) p) (sym g)
    ∙ ap (λ (l : List (List Op)). let x : Machine = record { world = w2; parties = l } in x) (sym (items-set ps p v2))

pub needed :
    (w w1 : World) (ps : List (Vec Op Global)) (p : ℕ) (v r : Vec Op Global) (o : Op)
    → p < length ps → v ≡ get_or ps p v → r.items ≡ v.items → w1 ≡ w → Good (state w ps) → top r.items ≡ Some o →
    Needs w1 o
needed w w1 ps p v r o h e k m good t =
    let s : Machine = state w ps in
    subst (λ (x : World). Needs x o) (sym m)
    (needs s p o (omega (arith, items-length ps)) (ap top (stack_is w ps p v h e ∙ sym k)
    ∙ t) good)

pub goes : (s new : Machine) (t : Step) → refusal s t ≡ None → after s t ≡ new → step s t ≡ Ok new
goes s new t r e = step-made s t r ∙ ap (λ (m : Machine). let x : Result Machine StepError = Ok m in x) e

-- one more step of a run
pub run-more :
    (xs : List Step) (i : ℕ) (d : Step) (s now new : Machine)
    → i < length xs → run_all (take i xs) s ≡ Ok now → step now (get_or xs i d) ≡ Ok new →
    run_all (take (i + 1) xs) s ≡ Ok new
run-more xs i d s now new h e o = ap (λ (ts : List Step). run_all ts s) (take_more xs i d h)
    ∙ run_all-push (take i xs) (get_or xs i d) s now new e o

idle-more : (n : ℕ) → idle n ++ [] ∷ [] ≡ idle (n + 1)
idle-more n = rw add-one (go n)
  where
    go : (k : ℕ) → idle k ++ [] ∷ [] ≡ idle (suc k)
    go zero = refl
    go (suc k) = ap (λ (l : List (List Op)). [] ∷ l) (go k)

items-append : (ps qs : List (Vec Op Global)) → items (ps ++ qs) ≡ items ps ++ items qs
items-append [] qs = refl
items-append (x ∷ ps) qs = ap (λ (l : List (List Op)). x.items ∷ l) (items-append ps qs)

-- one more party that does nothing
pub idle-push :
    (ps : List (Vec Op Global)) (v : Vec Op Global) (n : ℕ)
    → v.items ≡ [] → items ps ≡ idle n → items (ps ++ v ∷ []) ≡ idle (n + 1)
idle-push ps v n e q = items-append ps (v ∷ []) ∙ ap (λ (x : List (List Op) × List Op). x.0 ++ x.1 ∷ [])
    (λ i. (q i, e i)) ∙ idle-more n

pub started :
    (limit : ℕ) (kind : Kind) (w : World) (ps : List (Vec Op Global)) (n m : ℕ)
    → w ≡ (start limit kind 0).world → items ps ≡ idle n → n ≡ m → state w ps ≡ start limit kind m
started limit kind w ps n m e q r = λ i. record { world = e i; parties = (q ∙ ap idle r) i }

pub starts :
    (limit : ℕ) (kind : Kind) (w : World) (ps : List (Vec Op Global)) (n : ℕ)
    → w ≡ (start limit kind 0).world → items ps ≡ idle n → IsReached (state w ps)
starts limit kind w ps n e q = begins (state w ps) limit kind n (started limit kind w ps n n e q refl)
