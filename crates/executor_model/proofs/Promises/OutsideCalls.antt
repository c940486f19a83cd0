-- For outside_wakers_are_called.
-- What tells that an outside waker is called leads to that waker's user code, which comes first.
use Rattle.std.proofs.Common.{◌≡◌, ◌<◌, ℕ, List, [], ◌∷◌, ◌++◌, length, Bool, true, false, eqb, refl, sym, ap, ◌∙◌, subst}
use Rattle.std.proofs.Common.{append-nil, ltb, arith, get_or-set_same}
use Rattle.std.proofs.lemmas.Bool.Decides.{nat_tests}
use Rattle.std.proofs.lemmas.List.{append_assoc, append_cancel_left, reverse-append}
use Rattle.std.specs.Prelude.{Option, Some, None, reverse}
use Rattle.executor_model.proofs.Types.{Call, Event, ClosingOp, Op, Polled, RunOp, RunPoll, SleeperOp, TableOp, UserOp, Waker}
use Rattle.executor_model.proofs.Types.{Task, Outside, WakerOp, Kind, Hint, Step, StepError, NoSuch}
use Rattle.executor_model.specs.Steps.{Machine, Part, end_of, mine, onto, part_after, part_refusal, party_of, refusal, run}
use Rattle.executor_model.specs.OutsideWakers.{OutsideWakersAreCalled, is_outside_call}
use Rattle.executor_model.specs.Steps.{settled_by, stack, start, step, step_by, stepped, top, unless}
use Rattle.executor_model.specs.{Acts.call_waker, ActsOfRuns.wake_own, ActsOfSleepers.polled_as, Doing.act, Trace.Trace}
use Rattle.executor_model.specs.{Trace.has, World.World, World.Done}
use Rattle.executor_model.proofs.Steps.Hushed.{Hushed, Hushes, HushesCall, hushed-act, hushed-called, hushed-is, hushed-react}
use Rattle.executor_model.proofs.Steps.Ways.Way.{acted, called, reacted}
use Rattle.executor_model.proofs.{Steps.Hushed.is_hushed, Steps.Tests.or-false, Steps.TraceMore.has-append, Steps.Ways.Made}
use Rattle.executor_model.proofs.{Steps.Ways.Way, Steps.Ways.made, Table.Spawning.top-last}

hushed-none : (x : ℕ) (e : Event) → is_hushed e ≡ true → is_outside_call x e ≡ false
hushed-none x (Event.WakerCalled p o k a) z = absurd (cc)
hushed-none x _ z = refl

-- no call of outside waker x is told of, or its user code comes first
pub data Comes (x : ℕ) (next : List Op) (more : Trace) : Type 0 where
  untold : has (is_outside_call x) more ≡ false → Comes x next more
  first : (rest : List Op) → next ≡ Op.User (UserOp.CallOutside x) ∷ rest → Comes x next more

abbrev Leads : ℕ → World → Done → Type 0
Leads x w d = (more : Trace) → d.world.trace ≡ w.trace ++ more → Comes x d.next more

silent : (x p : ℕ) (h : Hint) (o : Op) (w : World) → Hushes (is_outside_call x) (hushed-none x) p o →
    Leads x w (act p h o w)
silent x p h o w z more e = untold (hushed-is (is_outside_call x) (hushed-none x) w (act p h o w).world more e
    (hushed-act (is_outside_call x) (hushed-none x) p h o w z))

-- one of the three things that call a waker: it is another's call, or this one's
calls : (x p : ℕ) (h : Hint) (o : Op) (w : World) (a : Waker) →
    (is_outside_call x (Event.WakerCalled p (Polled.Handle 0) 0 a) ≡ false → Hushes (is_outside_call x) (hushed-none x) p o) →
    ((y : ℕ) → a ≡ Outside y → (rest : List Op) × ((act p h o w).next ≡ Op.User (UserOp.CallOutside y) ∷ rest)) →
    Leads x w (act p h o w)
calls x p h o w (Task g) z k = silent x p h o w (z refl)
calls x p h o w (Outside y) z k = by (eqb x y) refl
  where
    by : (b : Bool) → eqb x y ≡ b → Leads x w (act p h o w)
    by false e = silent x p h o w (z e)
    by true e = λ more t.
        let i : y ≡ x = grind (arith, nat_tests) in
        let r = k y refl in
        first r.0 (subst (λ (n : ℕ). (act p h o w).next ≡ Op.User (UserOp.CallOutside n) ∷ r.0) i r.1)

any-call : (x p q : ℕ) (o n : Polled) (k j : ℕ) (a : Waker) → is_outside_call x (Event.WakerCalled p o k a) ≡ false →
    is_outside_call x (Event.WakerCalled q n j a) ≡ false
any-call x p q o n k j (Task g) z = refl
any-call x p q o n k j (Outside y) z = z

waker-comes : (p : ℕ) (w : World) (o : Polled) (a : Waker) (k y : ℕ) → a ≡ Outside y →
    (rest : List Op) × ((call_waker p w o a k).next ≡ Op.User (UserOp.CallOutside y) ∷ rest)
waker-comes p w o (Task g) k y e = absurd (cc)
waker-comes p w o (Outside z) k y e =
    let i : z ≡ y = cc in ([], ap (λ (n : ℕ). Op.User (UserOp.CallOutside n) ∷ []) i)

own-comes : (p : ℕ) (w : World) (x : RunPoll) (a : Waker) (y : ℕ) → x.waker ≡ a → a ≡ Outside y →
    (rest : List Op) × ((wake_own p w x).next ≡ Op.User (UserOp.CallOutside y) ∷ rest)
own-comes p w x (Task g) y i e = absurd (cc)
own-comes p w x (Outside z) y i e =
    let j : x.waker ≡ Outside y = i ∙ e in rw j (_, refl)

leads-act : (x p : ℕ) (h : Hint) (o : Op) (w : World) → Leads x w (act p h o w)
leads-act x p h (Op.Waker (WakerOp.CallAwaiter f a k)) w =
    calls x p h (Op.Waker (WakerOp.CallAwaiter f a k)) w a (λ z. any-call x p p (Polled.Handle 0) (Polled.Handle f) 0 k a z)
    (λ y e. waker-comes p w (Polled.Handle f) a k y e)
leads-act x p h (Op.Sleeper (SleeperOp.CallSleeper s)) w =
    calls x p h (Op.Sleeper (SleeperOp.CallSleeper s)) w s.waker (λ z. any-call x p p (Polled.Handle 0) (polled_as s.who) 0 s.poll s.waker z)
    (λ y e. waker-comes p w (polled_as s.who) s.waker s.poll y e)
leads-act x p h (Op.Run (RunOp.WakeOwn r)) w =
    calls x p h (Op.Run (RunOp.WakeOwn r)) w r.waker (λ z. any-call x p p (Polled.Handle 0) (Polled.Run r.run) 0 r.poll r.waker z)
    (λ y e. own-comes p w r r.waker y refl e)
leads-act x p h (Op.Table (TableOp.Enter mark)) w = silent x p h (Op.Table (TableOp.Enter mark)) w (λ f. refl)
leads-act x p h (Op.User (UserOp.BeginDrop f)) w = silent x p h (Op.User (UserOp.BeginDrop f)) w refl
leads-act x p h (Op.Closing ClosingOp.DropNext) w = silent x p h (Op.Closing ClosingOp.DropNext) w (λ f. refl)
leads-act x p h o w = silent x p h o w tt

called-none : (x p : ℕ) (c : Call) → HushesCall (is_outside_call x) (hushed-none x) p c
called-none x p Call.DropExecutor = refl
called-none x p c = tt

-- each way in which a party goes on
leads-way : (x : ℕ) (s : Machine) (p : ℕ) (old rest : List Op) (d : Done) → Way s p old rest d → Leads x s.world d
leads-way x s p old rest d (acted h o q z) =
    subst (λ (y : Done). Leads x s.world y) (sym z) (leads-act x p h o s.world)
leads-way x s p old rest d (reacted o u a q z) = λ more e. untold (hushed-is (is_outside_call x) (hushed-none x) s.world
    d.world more e (subst (λ (y : Done). Hushed (is_outside_call x) (hushed-none x) s.world y.world) (sym z)
    (hushed-react (is_outside_call x) (hushed-none x) p o u s.world)))
leads-way x s p old rest d (called c q r n z) = λ more e. untold (hushed-is (is_outside_call x) (hushed-none x) s.world
    d.world more e (subst (λ (y : Done). Hushed (is_outside_call x) (hushed-none x) s.world y.world) (sym z)
    (hushed-called (is_outside_call x) (hushed-none x) p s.world (mine (top (stack s p))) c (called-none x p c))))

-- and then the call ends, where its end is all that is left of it

top-first : (rest : List Op) (o : Op) (os : List Op) → top (rest ++ reverse (o ∷ os)) ≡ Some o
top-first rest o os = ap (λ (ns : List Op). top (rest ++ ns)) (reverse-append (o ∷ []) os)
    ∙ ap top (sym (append_assoc rest (reverse os) (o ∷ []))) ∙ top-last (rest ++ reverse os) o

has-more : (x : ℕ) (more : Trace) (e : Event) → has (is_outside_call x) more ≡ false → is_outside_call x e ≡ false →
    has (is_outside_call x) (more ++ e ∷ []) ≡ false
has-more x more e a b = has-append (is_outside_call x) more (e ∷ []) a (or-false (is_outside_call x e) b)

abbrev Stands : ℕ → Trace → Part → Type 0
Stands x es l = (more : Trace) → l.world.trace ≡ es ++ more → has (is_outside_call x) more ≡ true →
    top l.todo ≡ Some (Op.User (UserOp.CallOutside x))

not-both : (b : Bool) → b ≡ true → b ≡ false → ⊥
not-both true e f = absurd (cc)
not-both false e f = absurd (cc)

stands-untold : (x p : ℕ) (es before : Trace) (w : World) (os : List Op) (o : Option Op) → w.trace ≡ es ++ before →
    has (is_outside_call x) before ≡ false → Stands x es (settled_by (end_of o) p w os)
stands-untold x p es before w os (Some (Op.End r held)) e n more q t =
    let i : before ++ Event.CallEnded p r ∷ [] ≡ more = append_cancel_left es (before ++ Event.CallEnded p r ∷ []) more
    (sym (append_assoc es before (Event.CallEnded p r ∷ [])) ∙ (ap (λ (xs : Trace). xs ++ Event.CallEnded p r ∷ []) (sym e) ∙ q)) in
    absurd (not-both (has (is_outside_call x) more) t
    (ap (has (is_outside_call x)) (sym i) ∙ has-more x before (Event.CallEnded p r) n refl))
stands-untold x p es before w os None e n more q t =
    absurd (not-both (has (is_outside_call x) more) t
    (ap (has (is_outside_call x)) (append_cancel_left es more before (sym q ∙ e)) ∙ n))
stands-untold x p es before w os (Some _) e n more q t =
    absurd (not-both (has (is_outside_call x) more) t
    (ap (has (is_outside_call x)) (append_cancel_left es more before (sym q ∙ e)) ∙ n))

stands-first : (x p : ℕ) (es : Trace) (w : World) (os : List Op) (o : Option Op) → top os ≡ o →
    o ≡ Some (Op.User (UserOp.CallOutside x)) → Stands x es (settled_by (end_of o) p w os)
stands-first x p es w os o e i =
    subst (λ (y : Option Op). Stands x es (settled_by (end_of y) p w os)) (sym i) (λ more q t. e ∙ i)

stands-onto : (x : ℕ) (s : Machine) (p : ℕ) (rest : List Op) (d : Done) (before : Trace) →
    d.world.trace ≡ s.world.trace ++ before → Comes x d.next before → Stands x s.world.trace (onto p d rest)
stands-onto x s p rest d before e (untold n) =
    stands-untold x p s.world.trace before d.world (rest ++ reverse d.next) (top (rest ++ reverse d.next)) e n
stands-onto x s p rest d before e (first os i) =
    stands-first x p s.world.trace d.world (rest ++ reverse d.next) (top (rest ++ reverse d.next)) refl
    (ap (λ (ns : List Op). top (rest ++ reverse ns)) i ∙ top-first rest (Op.User (UserOp.CallOutside x)) os)

pub way-more : (s : Machine) (p : ℕ) (old rest : List Op) (d : Done) → Way s p old rest d →
    Hushed (λ (e : Event). false) (λ e z. refl) s.world d.world
way-more s p old rest d (acted h o q z) =
    subst (λ (y : Done). Hushed (λ (e : Event). false) (λ e i. refl) s.world y.world) (sym z)
    (hushed-act (λ (e : Event). false) (λ e i. refl) p h o s.world (allows o))
  where
    allows : (o : Op) → Hushes (λ (e : Event). false) (λ e i. refl) p o
    allows (Op.Waker (WakerOp.CallAwaiter f a k)) = refl
    allows (Op.Sleeper (SleeperOp.CallSleeper n)) = refl
    allows (Op.Run (RunOp.WakeOwn r)) = refl
    allows (Op.Table (TableOp.Enter mark)) = λ f. refl
    allows (Op.User (UserOp.BeginDrop f)) = refl
    allows (Op.Closing ClosingOp.DropNext) = λ f. refl
    allows _ = tt
way-more s p old rest d (reacted o u a q z) =
    subst (λ (y : Done). Hushed (λ (e : Event). false) (λ e i. refl) s.world y.world) (sym z)
    (hushed-react (λ (e : Event). false) (λ e i. refl) p o u s.world)
way-more s p old rest d (called c q r n z) =
    subst (λ (y : Done). Hushed (λ (e : Event). false) (λ e i. refl) s.world y.world) (sym z)
    (hushed-called (λ (e : Event). false) (λ e i. refl) p s.world (mine (top (stack s p))) c (allows c))
  where
    allows : (c : Call) → HushesCall (λ (e : Event). false) (λ e i. refl) p c
    allows Call.DropExecutor = refl
    allows c = tt

stands-made : (x : ℕ) (s : Machine) (p : ℕ) (l : Part) → Made s p l → Stands x s.world.trace l
stands-made x s p l m =
    let g = way-more s p m.old m.rest m.d m.way in
    subst (λ (y : Part). Stands x s.world.trace y) m.now
    (stands-onto x s p m.rest m.d g.more g.is (leads-way x s p m.old m.rest m.d m.way g.more g.is))

there : (b : Bool) (r : Option StepError) → unless b NoSuch r ≡ None → (b ≡ true) × (r ≡ None)
there true r e = (refl, e)
there false r e = absurd (cc)

outside-by : (s : Machine) (t : Step) (r : Option StepError) → refusal s t ≡ r → (x : ℕ) (more : Trace) →
    (stepped s (step_by r s t)).world.trace ≡ s.world.trace ++ more → has (is_outside_call x) more ≡ true →
    top (stack (stepped s (step_by r s t)) (party_of t)) ≡ Some (Op.User (UserOp.CallOutside x))
outside-by s t (Some error) q x more e h =
    absurd (not-both (has (is_outside_call x) more) h (ap (has (is_outside_call x))
    (append_cancel_left s.world.trace more [] (sym e ∙ sym (append-nil s.world.trace)))))
outside-by s t None q x more e h =
    let p : ℕ = party_of t in
    let k : _ = there (ltb p (length s.parties)) (part_refusal s.world s.parties (stack s p) t) q in
    let l : p < length s.parties = grind (arith, nat_tests) in
    let a : Part = part_after s.world (stack s p) t in
    ap top (get_or-set_same s.parties p a.todo [] l) ∙ stands-made x s p a (made s t k.1) more e h

outside-called : (s : Machine) → OutsideWakersAreCalled s
unfolding step
outside-called s t x more e h = outside-by s t (refusal s t) refl x more e h

pub outside-wakers : (limit : ℕ) (kind : Kind) (parties : ℕ) (steps : List Step) →
    OutsideWakersAreCalled (run steps (start limit kind parties))
outside-wakers limit kind parties steps = outside-called (run steps (start limit kind parties))
