-- For wakes_and_copies_are_of_their_futures.
-- The step behind the beginning of a wake or a copy wakes, or keeps a waker of, its own future.
use Rattle.std.proofs.Common.{◌≡◌, ◌≢◌, ◌⊎◌, ℕ, ◌<◌, List, [], ◌∷◌, ◌++◌, length, Bool, true, false, not, ltb, refl, sym, ap}
use Rattle.std.proofs.Common.{subst, inl, inr, arith, ◌∙◌, get_or-set_same, get_or-set_other}
use Rattle.std.specs.Prelude.{Option, Some, None, reverse}
use Rattle.std.{proofs.lemmas.Bool.Decides.nat_tests, proofs.lemmas.List.append_assoc}
use Rattle.task_moves.specs.Moves.{is_over}
use Rattle.executor_model.proofs.Types.{Move, Call, Reply, Event, Kind, Hold, Op, WakerOp, Hint, Step, Begin, Go, StepError}
use Rattle.executor_model.specs.OwnFutures.{ActsOnItsFuture, AllByOthers, KeepsOne, WakesFirst, begun_then, copies_of, going_on}
use Rattle.executor_model.specs.Steps.{Machine, begin_refusal, begun, below_top, end_of, go_refusal, is_locked_out, mine, onto}
use Rattle.executor_model.specs.Steps.{part_after, party_of, refusal, run, settled, settled_by, stack, start, step, step_by}
use Rattle.executor_model.specs.OwnFutures.KeepsOne.{keeps, wants}
use Rattle.executor_model.specs.Steps.{stepped, top, unless, waits, with_future, with_part, gone_on, used_up}
use Rattle.executor_model.specs.World.{World, Done, done, log, log_if, task}
use Rattle.executor_model.specs.{Acts.copy_by, Acts.is_refused, Doing.act, Good.Good, OwnFutures.wakes_by, Trace.Trace}
use Rattle.executor_model.proofs.Table.LeavingExecutions.{Placed, placed-ends, placed-moves, placed}
use Rattle.executor_model.proofs.Table.Spawning.{in-range, top-last}
use Rattle.executor_model.proofs.{Promises.CallTold.over-told, Steps.Lift.good, Steps.Stepping.step-made, Steps.Ways.along}

-- what others do leaves the party's stack as it was

stack-by : (r : Option StepError) (s : Machine) (t : Step) (p : ℕ) → p ≢ party_of t → stack (stepped s (step_by r s t)) p ≡ stack s p
stack-by (Some error) s t p n = refl
stack-by None s t p n = get_or-set_other s.parties (party_of t) p (part_after s.world (stack s (party_of t)) t).todo [] n

stack-step : (s : Machine) (t : Step) (p : ℕ) → p ≢ party_of t → stack (stepped s (step s t)) p ≡ stack s p
unfolding step
stack-step s t p n = stack-by (refusal s t) s t p n

stack-run : (ts : List Step) (s : Machine) (p : ℕ) → AllByOthers p ts → stack (run ts s) p ≡ stack s p
stack-run [] s p n = refl
stack-run (t ∷ ts) s p n = stack-run ts (stepped s (step s t)) p n.1 ∙ stack-step s t p n.0

-- a party that is not refused goes on with what is on top

passed : (x y : Bool) → x ≡ false → y ≡ false → unless (not x) StepError.WrongAnswer (unless (not y) StepError.Waits None) ≡ None
passed false false a b = refl
passed true y a b = absurd (cc)
passed false true a b = absurd (cc)

goes-on : (s : Machine) (p : ℕ) (h : Hint) (o : Op) → top (stack s p) ≡ Some o → waits o ≡ false →
    is_locked_out s.world.lock o ≡ false →
    stepped s (step s (Go p h)) ≡ with_part s p (onto p (act p h o s.world) (below_top (stack s p)))
goes-on s p h o e a b =
    let l : p < length s.parties = in-range s p o e in
    let z : ltb p (length s.parties) ≡ true = grind (arith, nat_tests) in
    let r : refusal s (Go p h) ≡ None =
    ap (λ (x : Bool). unless x StepError.NoSuch (go_refusal s.world (top (stack s p)))) z
    ∙ (ap (go_refusal s.world) e ∙ passed (waits o) (is_locked_out s.world.lock o) a b) in
    ap (stepped s) (step-made s (Go p h) r)
    ∙ ap (λ (x : Option Op). with_part s p (gone_on p s.world (stack s p) x (λ n. act p h n s.world))) e

there : (b : Bool) (r : Option StepError) → unless b StepError.NoSuch r ≡ None → (b ≡ true) × (r ≡ None)
there true r e = (refl, e)
there false r e = absurd (cc)

-- what the party has to do once its call has begun

abbrev first : Machine → ℕ → Call → Done
first s p c = begun p (log s.world (Event.CallBegun p c)) (mine (top (stack s p))) c

begun-todo : (s : Machine) (p : ℕ) (c : Call) → refusal s (Begin p c) ≡ None →
    stack (stepped s (step s (Begin p c))) p ≡ (onto p (first s p c) (stack s p)).todo
begun-todo s p c q =
    let x = there (ltb p (length s.parties)) (begin_refusal s.world s.parties (top (stack s p)) c) q in
    let l : p < length s.parties = grind (arith, nat_tests) in
    ap (λ (m : Machine). stack m p) (ap (stepped s) (step-made s (Begin p c) q))
    ∙ get_or-set_same s.parties p (onto p (first s p c) (stack s p)).todo [] l

not-ended : (p : ℕ) (w : World) (os : List Op) (o : Op) → top os ≡ Some o → end_of (Some o) ≡ None → (settled p w os).todo ≡ os
not-ended p w os o e z = ap (λ (y : Option Op). (settled_by (end_of y) p w os).todo) e
    ∙ ap (λ (r : Option Reply). (settled_by r p w os).todo) z

two-todo : (p : ℕ) (w : World) (rest : List Op) (o x : Op) → end_of (Some o) ≡ None →
    (onto p (done w (o ∷ x ∷ [])) rest).todo ≡ (rest ++ x ∷ []) ++ o ∷ []
two-todo p w rest o x z =
    let i : rest ++ x ∷ o ∷ [] ≡ (rest ++ x ∷ []) ++ o ∷ [] = sym (append_assoc rest (x ∷ []) (o ∷ [])) in
    not-ended p w (rest ++ x ∷ o ∷ []) o (ap top i ∙ top-last (rest ++ x ∷ []) o) z ∙ i

one-todo : (p : ℕ) (w : World) (rest : List Op) (o : Op) → end_of (Some o) ≡ None →
    (onto p (done w (o ∷ [])) rest).todo ≡ rest ++ o ∷ []
one-todo p w rest o z = not-ended p w (rest ++ o ∷ []) o (top-last rest o) z

record FirstWake (s : Machine) (p : ℕ) (c : Call) (f : ℕ) : Type 0 where
  pub below : List Op
  pub m : Move
  pub which : (m ≡ Move.WakeByReference) ⊎ (m ≡ Move.Wake)
  pub is : (onto p (first s p c) (stack s p)).todo ≡ below ++ Op.Move m f ∷ []

first-wake : (s : Machine) (p : ℕ) (c : Call) (f : ℕ) → wakes_by s.world (mine (top (stack s p))) c ≡ Some f → FirstWake s p c f
first-wake s p Call.WakeSelf f e = record {
  below = stack s p ++ Op.End Reply.Done Hold.Nothing ∷ [];
  m = Move.WakeByReference;
  which = inl refl;
  is = ap (λ (o : Option ℕ). (onto p (with_future (log s.world (Event.CallBegun p Call.WakeSelf)) o
      (λ g. done (log s.world (Event.CallBegun p Call.WakeSelf)) (Op.Move Move.WakeByReference g ∷ Op.End Reply.Done Hold.Nothing ∷ [])))
      (stack s p)).todo) e
      ∙ two-todo p _ (stack s p) (Op.Move Move.WakeByReference f) (Op.End Reply.Done Hold.Nothing) refl;
}
first-wake s p (Call.Wake k) f e = record {
  below = stack s p ++ Op.End Reply.Done Hold.Nothing ∷ [];
  m = Move.Wake;
  which = inr refl;
  is = ap (λ (o : Option ℕ). (onto p (with_future (log s.world (Event.CallBegun p (Call.Wake k))) o
      (λ g. done (used_up (log s.world (Event.CallBegun p (Call.Wake k))) k) (Op.Move Move.Wake g ∷ Op.End Reply.Done Hold.Nothing ∷ [])))
      (stack s p)).todo) e
      ∙ two-todo p _ (stack s p) (Op.Move Move.Wake f) (Op.End Reply.Done Hold.Nothing) refl;
}
first-wake s p (Call.WakeByRef k) f e = record {
  below = stack s p ++ Op.End Reply.Done (Hold.Waker k) ∷ [];
  m = Move.WakeByReference;
  which = inl refl;
  is = ap (λ (o : Option ℕ). (onto p (with_future (log s.world (Event.CallBegun p (Call.WakeByRef k))) o
      (λ g. done (log s.world (Event.CallBegun p (Call.WakeByRef k)))
      (Op.Move Move.WakeByReference g ∷ Op.End Reply.Done (Hold.Waker k) ∷ [])))
      (stack s p)).todo) e
      ∙ two-todo p _ (stack s p) (Op.Move Move.WakeByReference f) (Op.End Reply.Done (Hold.Waker k)) refl;
}
first-wake s p _ f e = absurd (cc)

record FirstCopy (s : Machine) (p : ℕ) (c : Call) (f : ℕ) : Type 0 where
  pub held : Hold
  pub is : (onto p (first s p c) (stack s p)).todo ≡ stack s p ++ Op.Waker (WakerOp.CopyWaker f held) ∷ []

first-copy : (s : Machine) (p : ℕ) (c : Call) (f : ℕ) → copies_of s.world (mine (top (stack s p))) c ≡ Some f → FirstCopy s p c f
first-copy s p Call.Keep f e = record {
  held = Hold.Nothing;
  is = ap (λ (o : Option ℕ). (onto p (with_future (log s.world (Event.CallBegun p Call.Keep)) o
      (λ g. done (log s.world (Event.CallBegun p Call.Keep)) (Op.Waker (WakerOp.CopyWaker g Hold.Nothing) ∷ [])))
      (stack s p)).todo) e
      ∙ one-todo p _ (stack s p) (Op.Waker (WakerOp.CopyWaker f Hold.Nothing)) refl;
}
first-copy s p (Call.Copy k) f e = record {
  held = Hold.Waker k;
  is = ap (λ (o : Option ℕ). (onto p (with_future (log s.world (Event.CallBegun p (Call.Copy k))) o
      (λ g. done (log s.world (Event.CallBegun p (Call.Copy k))) (Op.Waker (WakerOp.CopyWaker g (Hold.Waker k)) ∷ [])))
      (stack s p)).todo) e
      ∙ one-todo p _ (stack s p) (Op.Waker (WakerOp.CopyWaker f (Hold.Waker k))) refl;
}
first-copy s p _ f e = absurd (cc)

-- that is still on top where others have gone on
still-first : (s : Machine) (p : ℕ) (c : Call) (below : List Op) (o : Op) → refusal s (Begin p c) ≡ None →
    (onto p (first s p c) (stack s p)).todo ≡ below ++ o ∷ [] → (steps : List Step) → AllByOthers p steps →
    top (stack (begun_then s p c steps) p) ≡ Some o
still-first s p c below o q e steps n =
    ap top (stack-run steps (stepped s (step s (Begin p c))) p n ∙ (begun-todo s p c q ∙ e)) ∙ top-last below o

-- a wake

settled-more : (r : Option Reply) (p : ℕ) (w : World) (os : List Op) (es : Trace) (e : Event) → w.trace ≡ es ++ e ∷ [] →
    (more : Trace) × ((settled_by r p w os).world.trace ≡ es ++ e ∷ more)
settled-more (Some a) p w os es e t = (
  Event.CallEnded p a ∷ [],
  ap (λ (xs : Trace). xs ++ Event.CallEnded p a ∷ []) t ∙ append_assoc es (e ∷ []) (Event.CallEnded p a ∷ []),
)
settled-more None p w os es e t = ([], t)

woken-by : (b : Bool) (m : Move) (p : ℕ) (w : World) (f : ℕ) → (m ≡ Move.WakeByReference) ⊎ (m ≡ Move.Wake) →
    is_over (task w f) ≡ b → b ≡ false → (h : Hint) → (act p h (Op.Move m f) w).world.trace ≡ w.trace ++ Event.Woken p f ∷ []
woken-by true m p w f k e z h = absurd (cc)
woken-by false m p w f (inl i) e z h = subst (λ (n : Move). (act p h (Op.Move n f) w).world.trace ≡ w.trace ++ Event.Woken p f ∷ []) (sym i)
    (ap (λ (x : Bool). (log_if (not x) w (Event.Woken p f)).trace) e)
woken-by false m p w f (inr i) e z h = subst (λ (n : Move). (act p h (Op.Move n f) w).world.trace ≡ w.trace ++ Event.Woken p f ∷ []) (sym i)
    (ap (λ (x : Bool). (log_if (not x) w (Event.Woken p f)).trace) e)

wakes-first : (s : Machine) (p f : ℕ) (m : Move) (h : Hint) → Placed s → (m ≡ Move.WakeByReference) ⊎ (m ≡ Move.Wake) →
    top (stack s p) ≡ Some (Op.Move m f) → WakesFirst p f s (going_on s p h)
wakes-first s p f m h placed k e = by (is_over (task s.world f)) refl
  where
    bt : List Op
    bt = below_top (stack s p)

    d : Done
    d = act p h (Op.Move m f) s.world

    os : List Op
    os = bt ++ reverse d.next

    now-is : going_on s p h ≡ with_part s p (onto p d bt)
    now-is = goes-on s p h (Op.Move m f) e refl refl

    by : (b : Bool) → is_over (task s.world f) ≡ b → WakesFirst p f s (going_on s p h)
    by true z = inr (over-told s f placed z)
    by false z =
        let x = settled-more (end_of (top os)) p d.world os s.world.trace (Event.Woken p f)
        (woken-by false m p s.world f k z refl h) in
        inl (x.0, ap (λ (n : Machine). n.world.trace) now-is ∙ x.1)

-- a copy

ended-world : (p : ℕ) (w : World) (bt : List Op) (a : Reply) (held : Hold) →
    (settled p w (bt ++ Op.End a held ∷ [])).world ≡ log w (Event.CallEnded p a)
ended-world p w bt a held =
    ap (λ (x : Option Op). (settled_by (end_of x) p w (bt ++ Op.End a held ∷ [])).world) (top-last bt (Op.End a held))

keeps-one : (s : Machine) (p f : ℕ) (held : Hold) (h : Hint) → top (stack s p) ≡ Some (Op.Waker (WakerOp.CopyWaker f held)) →
    KeepsOne p f s (going_on s p h)
keeps-one s p f held h e = by (is_refused h (task s.world f)) refl
  where
    bt : List Op
    bt = below_top (stack s p)

    now-is : (b : Bool) → is_refused h (task s.world f) ≡ b → (going_on s p h).world ≡ (onto p (copy_by b s.world f held) bt).world
    now-is b z = ap (λ (n : Machine). n.world) (goes-on s p h (Op.Waker (WakerOp.CopyWaker f held)) e refl refl)
        ∙ ap (λ (x : Bool). (onto p (copy_by x s.world f held) bt).world) z

    by : (b : Bool) → is_refused h (task s.world f) ≡ b → KeepsOne p f s (going_on s p h)
    by true z =
        let x = now-is true z ∙ ended-world p s.world bt Reply.NoMemory held in
        wants (ap (λ (w : World). w.wakers) x) (ap (λ (w : World). w.trace) x)
    by false z =
        let x = now-is false z ∙ ended-world p (copy_by false s.world f held).world bt Reply.Made held in
        keeps (ap (λ (w : World). w.wakers) x) (ap (λ (w : World). w.trace) x)

acts-on-its : (s : Machine) → Good s → Placed s → ActsOnItsFuture s
acts-on-its s fine placed = record {
  wakes = λ p c f q e steps n h.
      let x = first-wake s p c f e in
      wakes-first (begun_then s p c steps) p f x.m h
      (along Placed placed-moves placed-ends (Begin p c ∷ steps) s fine placed) x.which
      (still-first s p c x.below (Op.Move x.m f) q x.is steps n);
  copies = λ p c f q e steps n h.
      let x = first-copy s p c f e in
      keeps-one (begun_then s p c steps) p f x.held h
      (still-first s p c (stack s p) (Op.Waker (WakerOp.CopyWaker f x.held)) q x.is steps n);
}

pub acts-on-own : (limit : ℕ) (kind : Kind) (parties : ℕ) (steps : List Step) → ActsOnItsFuture (run steps (start limit kind parties))
acts-on-own limit kind parties steps = acts-on-its (run steps (start limit kind parties)) (good limit kind parties steps)
    (placed limit kind parties steps)
