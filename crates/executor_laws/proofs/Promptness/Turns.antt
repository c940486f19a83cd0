-- For what_is_made_is_new.
-- How the stack of a party and what it did go on by one step, where what is on top is no user code.
use Rattle.std.proofs.Common.{◌≡◌, ◌≢◌, ◌∙◌, ℕ, ◌<◌, List, [], ◌∷◌, ◌++◌, length, set, get_or, Bool, true, false, cond, eqb}
use Rattle.std.proofs.Common.{ltb, append-nil, refl, sym, ap, arith, get_or-set_same, get_or-set_other, Result}
use Rattle.std.proofs.lemmas.Bool.Decides.{nat_tests}
use Rattle.std.proofs.lemmas.List.{append_assoc, append_cancel_left, append_cancel_right}
use Rattle.std.specs.Prelude.{Option, Some, None, filter, reverse}
use Rattle.executor_laws.proofs.Types.{UserEnd, Reply, Event, Hold, Op, UserOp, Hint, Step, Begin, Go, StepError, NoSuch}
use Rattle.executor_model.specs.declared.step.Step.TheVariants.{Answer}
use Rattle.executor_model.specs.Steps.{Machine, Part, accepts, after, answer_refusal, below_top, end_of, gone_on, is_free, onto}
use Rattle.executor_model.specs.Steps.{part, part_after, part_refusal, party_of, refusal, run, settled, settled_by, stack, step}
use Rattle.executor_model.specs.Steps.{stepped, top, unless, waits}
use Rattle.executor_model.specs.{Deeds.deeds, Deeds.is_by, Doing.act, Trace.Trace, World.Done, World.World, World.log}
use Rattle.executor_model.proofs.Steps.Ways.Way.{acted, called, reacted}
use Rattle.executor_model.proofs.{Steps.Deeds.grows-react, Steps.Deeds.is_end, Steps.Lift.none_refused, Steps.Lift.topped}
use Rattle.executor_model.proofs.{Steps.Stepping.step-made, Steps.Stepping.step-refused, Steps.TraceSteps.run-continues}
use Rattle.executor_model.proofs.{Steps.Ways.Made, Steps.Ways.Way, Steps.Ways.made, Table.Spawning.top-last}
use Rattle.executor_laws.proofs.Promptness.PromptExecutions.{others-act, others-begun}
use Rattle.executor_laws.proofs.{Types.WrongAnswer, Promptness.Prompting.deeds-other, Promptness.Prompting.deeds-other_log}

-- what p did, and later more

filter-append : (t : Event → Bool) (xs ys : Trace) → filter t (xs ++ ys) ≡ filter t xs ++ filter t ys
filter-append t [] ys = refl
filter-append t (x ∷ xs) ys = by (t x) (filter-append t xs ys)
  where
    by : (b : Bool) → filter t (xs ++ ys) ≡ filter t xs ++ filter t ys →
        (let es : Trace = cond b (x ∷ filter t (xs ++ ys)) (filter t (xs ++ ys)) in es)
        ≡ (let es : Trace = cond b (x ∷ filter t xs) (filter t xs) in es) ++ filter t ys
    by true e = ap (λ (es : Trace). x ∷ es) e
    by false e = e

-- the first that p does next is what it did by this step
pub first-is : (p : ℕ) (ts : List Step) (s : Machine) (es later : Trace) (x e : Event) → deeds p s.world.trace ≡ es ++ x ∷ [] →
    deeds p (run ts s).world.trace ≡ es ++ e ∷ later → x ≡ e
first-is p ts s es later x e i j =
    let c = run-continues ts s in
    let k : es ++ x ∷ deeds p c.0 ≡ es ++ e ∷ later =
    sym (append_assoc es (x ∷ []) (deeds p c.0))
    ∙ (ap (λ (xs : Trace). xs ++ deeds p c.0) (sym i)
    ∙ (sym (filter-append (is_by p) s.world.trace c.0) ∙ (ap (deeds p) (sym c.1) ∙ j))) in
    let m : x ∷ deeds p c.0 ≡ e ∷ later = append_cancel_left es _ _ k in cc

pub none-yet : (es later : Trace) (e : Event) → es ≡ es ++ e ∷ later → ⊥
none-yet es later e i =
    let m : [] ≡ e ∷ later = append_cancel_left es [] (e ∷ later) (append-nil es ∙ i) in absurd (cc)

-- what another party does

settled-other : (o : Option Reply) (p q : ℕ) (w : World) (os : List Op) → q ≢ p →
    deeds q (settled_by o p w os).world.trace ≡ deeds q w.trace
settled-other None p q w os n = refl
settled-other (Some a) p q w os n = deeds-other_log p q w.trace (Event.CallEnded p a) refl n

way-other : (s : Machine) (p q : ℕ) (old rest : List Op) (d : Done) → Way s p old rest d → q ≢ p →
    deeds q d.world.trace ≡ deeds q s.world.trace
way-other s p q old rest d (acted h o i z) n =
    ap (λ (x : Done). deeds q x.world.trace) z ∙ others-act p h o s.world (is_end o) refl q n
way-other s p q old rest d (reacted o u a i z) n = ap (λ (x : Done). deeds q x.world.trace) z
    ∙ deeds-other p q s.world _ (grows-react p o u s.world) n
way-other s p q old rest d (called c i r k z) n = ap (λ (x : Done). deeds q x.world.trace) z
    ∙ others-begun p s.world _ c q n

-- p rests, or does what is on top
pub data Turn (s : Machine) (t : Step) (p : ℕ) (o : Op) : Type 0 where
  rests : deeds p (stepped s (step s t)).world.trace ≡ deeds p s.world.trace →
      stack (stepped s (step s t)) p ≡ stack s p → Turn s t p o
  goes : (h : Hint) → party_of t ≡ p → (stepped s (step s t)).world ≡ (onto p (act p h o s.world) (below_top (stack s p))).world →
      stack (stepped s (step s t)) p ≡ (onto p (act p h o s.world) (below_top (stack s p))).todo → Turn s t p o

there : (b : Bool) (k : Option StepError) → unless b NoSuch k ≡ None → (b ≡ true) × (k ≡ None)
there true k e = (refl, e)
there false k e = absurd (cc)

pub next-is : (s : Machine) (t : Step) → refusal s t ≡ None → stepped s (step s t) ≡ after s t
next-is s t e = ap (λ (r : Result Machine StepError). stepped s r) (step-made s t e)

turn-other : (s : Machine) (t : Step) (p : ℕ) (o : Op) → refusal s t ≡ None → p ≢ party_of t → Turn s t p o
turn-other s t p o e n =
    let x = there (ltb (party_of t) (length s.parties)) (part_refusal s.world s.parties (stack s (party_of t)) t) e in
    let m : Made s (party_of t) (part_after s.world (stack s (party_of t)) t) = made s t x.1 in
    rests
    (ap (λ (y : Machine). deeds p y.world.trace) (next-is s t e)
    ∙ (ap (λ (y : Part). deeds p y.world.trace) (sym m.now)
    ∙ (settled-other (end_of (top (m.rest ++ reverse m.d.next))) (party_of t) p m.d.world (m.rest ++ reverse m.d.next) n
    ∙ way-other s (party_of t) p m.old m.rest m.d m.way n)))
    (ap (λ (y : Machine). stack y p) (next-is s t e) ∙ get_or-set_other s.parties (party_of t) p _ [] n)

-- what answers is user code
user-waits : (o : Op) (u : UserEnd) → accepts o u ≡ true → waits o ≡ true
user-waits (Op.User (UserOp.Poll f)) (UserEnd.Polled a) e = refl
user-waits (Op.User (UserOp.Drop f)) UserEnd.Done e = refl
user-waits (Op.User (UserOp.DropOutput f)) UserEnd.Done e = refl
user-waits (Op.User (UserOp.CallOutside x)) UserEnd.Done e = refl
user-waits (Op.User (UserOp.PollOwn x)) (UserEnd.Polled a) e = refl
user-waits (Op.User (UserOp.DropOwn r)) UserEnd.Done e = refl
user-waits _ _ e = absurd (cc)

turn-own : (s : Machine) (t : Step) (p : ℕ) (o : Op) → refusal s t ≡ None → top (stack s p) ≡ Some o → waits o ≡ false →
    party_of t ≡ p → Turn s t p o
turn-own s (Begin q c) p o e i w j =
    let x = there (ltb q (length s.parties)) _ e in
    let f : _ = none_refused s.world s.parties (top (stack s q)) c x.1 in
    let no : false ≡ true = sym (ap is_free (ap (λ (n : ℕ). top (stack s n)) j ∙ i) ∙ w) ∙ f.0 in absurd (cc)
turn-own s (Answer q u) p o e i w j =
    let x = there (ltb q (length s.parties)) _ e in
    let k : accepts o u ≡ true =
    accepted (accepts o u) (ap (λ (y : Option Op). answer_refusal y u) (sym (ap (λ (n : ℕ). top (stack s n)) j ∙ i)) ∙ x.1) in
    let no : false ≡ true = sym w ∙ user-waits o u k in absurd (cc)
  where
    accepted : (b : Bool) → unless b WrongAnswer None ≡ None → b ≡ true
    accepted true q = refl
    accepted false q = absurd (cc)
turn-own s (Go q h) p o e i w j =
    let x = there (ltb q (length s.parties)) _ e in
    let l : q < length s.parties = grind (arith, nat_tests) in
    let m : p < length s.parties = omega (arith, l, j) in
    let is : part_after s.world (stack s q) (Go q h) ≡ onto p (act p h o s.world) (below_top (stack s p)) =
    ap (λ (n : ℕ). gone_on n s.world (stack s n) (top (stack s n)) (λ y. act n h y s.world)) j
    ∙ ap (λ (y : Option Op). gone_on p s.world (stack s p) y (λ z. act p h z s.world)) i in
    goes h j
    (ap (λ (y : Machine). y.world) (next-is s (Go q h) e) ∙ ap (λ (y : Part). y.world) is)
    (ap (λ (y : Machine). stack y p) (next-is s (Go q h) e)
    ∙ (ap (λ (n : ℕ). get_or (set s.parties n (part_after s.world (stack s q) (Go q h)).todo) p []) j
    ∙ (get_or-set_same s.parties p _ [] m ∙ ap (λ (y : Part). y.todo) is)))

turn-by : (s : Machine) (t : Step) (p : ℕ) (o : Op) (r : Option StepError) → refusal s t ≡ r → top (stack s p) ≡ Some o →
    waits o ≡ false → Turn s t p o
turn-by s t p o (Some error) e i w =
    let same_one : stepped s (step s t) ≡ s = ap (λ (r : Result Machine StepError). stepped s r) (step-refused s t error e) in
    rests (ap (λ (y : Machine). deeds p y.world.trace) same_one) (ap (λ (y : Machine). stack y p) same_one)
turn-by s t p o None e i w = by (eqb p (party_of t)) refl
  where
    by : (b : Bool) → eqb p (party_of t) ≡ b → Turn s t p o
    by true z = turn-own s t p o e i w (grind (arith, nat_tests))
    by false z = turn-other s t p o e (grind (arith, nat_tests))

pub turn : (s : Machine) (t : Step) (p : ℕ) (base : List Op) (o : Op) → stack s p ≡ base ++ o ∷ [] → waits o ≡ false → Turn s t p o
turn s t p base o e w = turn-by s t p o (refusal s t) refl (ap top e ∙ top-last base o) w

-- what is below the top
pub below-is : (os base : List Op) (o : Op) → os ≡ base ++ o ∷ [] → below_top os ≡ base
below-is os base o e =
    let k : below_top os ++ o ∷ [] ≡ base ++ o ∷ [] = sym (topped os o (ap top e ∙ top-last base o)) ∙ e in
    append_cancel_right (below_top os) base (o ∷ []) k

-- the call goes on, or ends

pub goes-on : (p : ℕ) (w : World) (base : List Op) (o : Op) → is_end o ≡ false → settled p w (base ++ o ∷ []) ≡ part w (base ++ o ∷ [])
goes-on p w base o n = ap (λ (x : Option Op). settled_by (end_of x) p w (base ++ o ∷ [])) (top-last base o) ∙ by o n
  where
    by : (o : Op) → is_end o ≡ false → settled_by (end_of (Some o)) p w (base ++ o ∷ []) ≡ part w (base ++ o ∷ [])
    by (Op.End a held) n = absurd (cc)
    by _ n = refl

pub ends-so : (p : ℕ) (w : World) (base : List Op) (a : Reply) (held : Hold) →
    (settled p w (base ++ Op.End a held ∷ [])).world ≡ log w (Event.CallEnded p a)
ends-so p w base a held = ap (λ (x : Option Op). (settled_by (end_of x) p w (base ++ Op.End a held ∷ [])).world)
    (top-last base (Op.End a held))
