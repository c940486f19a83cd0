-- For ticks_are_exact, calls_at_rest_are_exact and lone_calls_are_exact.
-- The step at which an event of a run happened that begins a call.
use Rattle.std.proofs.Common.{◌≡◌, ℕ, List, [], ◌∷◌, ◌++◌, length, false, refl, sym, ap, ◌∙◌, arith, append-nil, length-append}
use Rattle.std.proofs.lemmas.List.{append_assoc, append_cancel_left}
use Rattle.executor_laws.proofs.Types.{Call, Event, Step, Begin}
use Rattle.executor_model.specs.{Trace.Trace, Trace.has, Steps.Machine, Steps.step, Steps.stepped, Steps.run}
use Rattle.executor_model.proofs.Steps.TraceSteps.{IsContinued, begins_one, Adds, adds, run-continues}
use Rattle.executor_model.proofs.Steps.TraceSteps.Adds.{refused, goes_on, begins}
use Rattle.executor_model.proofs.Steps.Tests.{left-false, right-false}

abbrev rest_of : Trace → Trace
rest_of [] = []
rest_of (e ∷ es) = es

pub heads : (x y : Event) (xs ys : Trace) → x ∷ xs ≡ y ∷ ys → x ≡ y
heads x y xs ys e = cc

pub tails : (x y : Event) (xs ys : Trace) → x ∷ xs ≡ y ∷ ys → xs ≡ ys
tails x y xs ys e = ap rest_of e

-- nothing is no longer than itself
pub no-more : (es more : Trace) (e : Event) → es ≡ es ++ e ∷ more → ⊥
no-more es more e q = absurd (omega (arith, ap length q, length-append es (e ∷ more)))

-- a list in which no call begins stands before the event that begins one
record Past (more pre : Trace) : Type 0 where
  left : Trace
  is : pre ≡ more ++ left

past : (more rest pre later : Trace) (p : ℕ) (c : Call) → has begins_one more ≡ false →
    more ++ rest ≡ pre ++ Event.CallBegun p c ∷ later → Past more pre
past [] rest pre later p c n e = record { left = pre; is = refl }
past (x ∷ more) rest [] later p c n e =
    let x-is : x ≡ Event.CallBegun p c = heads x (Event.CallBegun p c) (more ++ rest) later e in
    let no : begins_one (Event.CallBegun p c) ≡ false =
    sym (ap begins_one x-is) ∙ left-false (begins_one x) (has begins_one more) n in
    absurd (cc)
past (x ∷ more) rest (y ∷ pre) later p c n e =
    let q : Past more pre =
    past more rest pre later p c (right-false (begins_one x) (has begins_one more) n)
    (tails x y (more ++ rest) (pre ++ Event.CallBegun p c ∷ later) e) in
    record {
      left = q.left;
      is = ap (λ (z : Event). z ∷ pre) (sym (heads x y (more ++ rest) (pre ++ Event.CallBegun p c ∷ later) e))
          ∙ ap (λ (zs : Trace). x ∷ zs) q.is;
    }

-- steps that lead to the trace `before`, then the beginning of the call, and the steps behind it
pub record Found (p : ℕ) (c : Call) (before : Trace) (ts : List Step) (s : Machine) : Type 0 where
  pub steps : List Step
  pub behind : List Step
  pub here : (run steps s).world.trace ≡ before
  pub more : Trace
  pub shown : (stepped (run steps s) (step (run steps s) (Begin p c))).world.trace ≡ before ++ Event.CallBegun p c
      ∷ more
  pub goes : run behind (stepped (run steps s) (step (run steps s) (Begin p c))) ≡ run ts s

later-on : (p : ℕ) (c : Call) (before : Trace) (t : Step) (ts : List Step) (s : Machine) →
    Found p c before ts (stepped s (step s t)) →
    Found p c before (t ∷ ts) s
later-on p c before t ts s f =
    record { steps = t ∷ f.steps; behind = f.behind; here = f.here; more = f.more; shown = f.shown; goes = f.goes }

-- the same call of the same party
same-begin : (p q : ℕ) (c d : Call) → Event.CallBegun q d ≡ Event.CallBegun p c → Begin q d ≡ Begin p c
same-begin p q c d e = cc

-- what is left of a list whose beginning is known
beyond : (es more all rest pre later : Trace) (e : Event) → all ≡ (es ++ more) ++ rest →
    all ≡ (es ++ pre) ++ e ∷ later →
    more ++ rest ≡ pre ++ e ∷ later
beyond es more all rest pre later e a b =
    append_cancel_left es (more ++ rest) (pre ++ e ∷ later) (sym (append_assoc es more rest)
    ∙ (sym a ∙ (b ∙ append_assoc es pre (e ∷ later))))

-- the first step of a run; those behind it are searched again
module _ (p : ℕ) (c : Call) (before later : Trace) (t : Step) (ts : List Step) (s : Machine) (pre : Trace)
    (b : before ≡ s.world.trace ++ pre) (e : (run ts (stepped s (step s t))).world.trace ≡ before ++ Event.CallBegun p c
    ∷ later)
    (again : (left : Trace) → before ≡ (stepped s (step s t)).world.trace ++ left →
    Found p c before ts (stepped s (step s t))) where
  abbrev now : Machine
  now = stepped s (step s t)

  rest : IsContinued now.world.trace (run ts now).world.trace
  rest = run-continues ts now

  whole : (run ts now).world.trace ≡ (s.world.trace ++ pre) ++ Event.CallBegun p c ∷ later
  whole = e ∙ ap (λ (xs : Trace). xs ++ Event.CallBegun p c ∷ later) b

  on : (more : Trace) → now.world.trace ≡ s.world.trace ++ more → Past more pre → Found p c before (t ∷ ts) s
  on more q x = later-on p c before t ts s (again x.left (b
      ∙ (ap (λ (xs : Trace). s.world.trace ++ xs) x.is ∙ (sym (append_assoc s.world.trace more x.left)
      ∙ ap (λ (xs : Trace). xs ++ x.left) (sym q)))))

  began : (q : ℕ) (d : Call) (more us : Trace) → t ≡ Begin q d →
      now.world.trace ≡ s.world.trace ++ Event.CallBegun q d ∷ more →
      has begins_one more ≡ false → pre ≡ us →
      Event.CallBegun q d ∷ (more ++ rest.0) ≡ us ++ Event.CallBegun p c ∷ later →
      Found p c before (t ∷ ts) s
  began q d more [] te n z u k =
      let first : Event.CallBegun q d ≡ Event.CallBegun p c =
      heads (Event.CallBegun q d) (Event.CallBegun p c) (more ++ rest.0) later k in
      let same : Begin q d ≡ Begin p c = same-begin p q c d first in
      let start : before ≡ s.world.trace =
      b ∙ (ap (λ (xs : Trace). s.world.trace ++ xs) u ∙ append-nil s.world.trace) in
      record {
        steps = [];
        behind = ts;
        here = sym start;
        more = more;
        shown = ap (λ (x : Step). (stepped s (step s x)).world.trace) (sym (te ∙ same))
            ∙ (n ∙ (ap (λ (xs : Trace). xs ++ Event.CallBegun q d ∷ more) (sym start)
            ∙ ap (λ (x : Event). before ++ x ∷ more) first));
        goes = ap (λ (x : Step). run ts (stepped s (step s x))) (sym (te ∙ same));
      }
  began q d more (x ∷ us) te n z u k =
      let inner : Past more us =
      past more rest.0 us later p c z
      (tails (Event.CallBegun q d) x (more ++ rest.0) (us ++ Event.CallBegun p c ∷ later) k) in
      on (Event.CallBegun q d ∷ more) n (record {
        left = inner.left;
        is =
            u ∙ (ap (λ (y : Event). y ∷ us)
            (sym (heads (Event.CallBegun q d) x (more ++ rest.0) (us ++ Event.CallBegun p c ∷ later) k))
            ∙ ap (λ (zs : Trace). Event.CallBegun q d ∷ zs) inner.is);
      })

  by-kind : Adds s t now → Found p c before (t ∷ ts) s
  by-kind (refused q) = on [] (ap (λ (m : Machine). m.world.trace) q ∙ sym (append-nil s.world.trace))
      (record { left = pre; is = refl })
  by-kind (goes_on k m) =
      on m.more m.is (past m.more rest.0 pre later p c m.none
      (beyond s.world.trace m.more (run ts now).world.trace rest.0 pre later (Event.CallBegun p c) (rest.1
      ∙ ap (λ (xs : Trace). xs ++ rest.0) m.is) whole))
  by-kind (begins q d te m) =
      let n : now.world.trace ≡ s.world.trace ++ Event.CallBegun q d ∷ m.more = m.is
      ∙ append_assoc s.world.trace (Event.CallBegun q d ∷ []) m.more in
      began q d m.more pre te n m.none refl (beyond s.world.trace (Event.CallBegun q d ∷ m.more)
      (run ts now).world.trace rest.0 pre later (Event.CallBegun p c) (rest.1 ∙ ap (λ (xs : Trace). xs ++ rest.0) n)
      whole)

pub found : (p : ℕ) (c : Call) (before later : Trace) (ts : List Step) (s : Machine) (pre : Trace) →
    before ≡ s.world.trace ++ pre →
    (run ts s).world.trace ≡ before ++ Event.CallBegun p c ∷ later → Found p c before ts s
found p c before later [] s pre b e =
    absurd
    (omega (
      arith,
      ap length e,
      ap length b,
      length-append s.world.trace pre,
      length-append before (Event.CallBegun p c ∷ later),
    ))
found p c before later (t ∷ ts) s pre b e =
    by-kind p c before later t ts s pre b e (λ left k. found p c before later ts (stepped s (step s t)) left k e)
    (adds s t)
