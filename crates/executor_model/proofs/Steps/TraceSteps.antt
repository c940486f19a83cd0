-- For laws of the crates above.
-- What a step adds to the trace: at most the beginning of one call, and then nothing that begins another.
use Rattle.std.proofs.Common.{◌≡◌, ℕ, List, [], ◌∷◌, ◌++◌, Bool, true, false, refl, sym, ap, ◌∙◌, append-nil}
use Rattle.std.proofs.lemmas.List.{append_assoc}
use Rattle.std.specs.Prelude.{Option, Some, None, reverse}
use Rattle.executor_model.proofs.Types.{Move, Call, Answer, Event, Op, StealOp, UserOp, Waker, Hint, Step, Begin, Go, StepError}
use Rattle.executor_model.specs.declared.step.Step.TheVariants.{Answer as Answers}
use Rattle.executor_model.specs.Steps.{Machine, stack, top, below_top, mine, refusal, begun, react, end_of, settled_by, onto}
use Rattle.executor_model.specs.Steps.{gone_on, after, step_by, step, stepped, run}
use Rattle.executor_model.specs.{Doing.act, Trace.Trace, Trace.has, World.World, World.Done, World.log}
use Rattle.executor_model.proofs.Steps.TraceGrows.{Allows, AllowsCall, grows-act, grows-begun, is_ordinary}
use Rattle.executor_model.proofs.{Types.UserEnd, Steps.TraceMore.has-append}

-- a later trace has the earlier one at its beginning
abbrev pub IsContinued : Trace → Trace → Type 0
IsContinued earlier later = (more : Trace) × (later ≡ earlier ++ more)

-- the step goes on with what was begun
abbrev pub is_onward : Step → Bool
is_onward (Begin p c) = false
is_onward (Go p h) = true
is_onward (Answers p e) = true

abbrev pub begins_one : Event → Bool
begins_one (Event.CallBegun p c) = true
begins_one _ = false

abbrev pub ends_one : Event → Bool
ends_one (Event.CallEnded p r) = true
ends_one _ = false

pub none-begins : (e : Event) → is_ordinary e ≡ true → begins_one e ≡ false
none-begins (Event.CallBegun p c) z = absurd (cc)
none-begins _ z = refl

pub none-ends : (e : Event) → is_ordinary e ≡ true → ends_one e ≡ false
none-ends (Event.CallEnded p r) z = absurd (cc)
none-ends _ z = refl

-- a whole step

-- what follows es in a trace, where no call begins in it
pub record More (es now : Trace) : Type 0 where
  pub more : Trace
  pub is : now ≡ es ++ more
  pub none : has begins_one more ≡ false

-- a call that ends adds its end
more-settled : (o : Option Op) (es : Trace) (p : ℕ) (w : World) (os : List Op) (more : Trace) → w.trace ≡ es ++ more →
    has begins_one more ≡ false → More es (settled_by (end_of o) p w os).world.trace
more-settled (Some (Op.End r held)) es p w os more e n = record {
  more = more ++ Event.CallEnded p r ∷ [];
  is = ap (λ (xs : Trace). xs ++ Event.CallEnded p r ∷ []) e ∙ append_assoc es more (Event.CallEnded p r ∷ []);
  none = has-append begins_one more (Event.CallEnded p r ∷ []) n refl;
}
more-settled None es p w os more e n = record { more = more; is = e; none = n }
more-settled (Some _) es p w os more e n = record { more = more; is = e; none = n }

pub more-onto : (es : Trace) (p : ℕ) (d : Done) (rest : List Op) → More es d.world.trace →
    More es (onto p d rest).world.trace
more-onto es p d rest m = more-settled (top (rest ++ reverse d.next)) es p d.world (rest ++ reverse d.next) m.more m.is
    m.none

pub more-act : (p : ℕ) (h : Hint) (o : Op) (w : World) → More w.trace (act p h o w).world.trace
more-act p h o w =
    let g = grows-act begins_one none-begins p h o w (allows o) in record { more = g.more; is = g.is; none = g.none }
  where
    allows : (x : Op) → Allows begins_one none-begins p x
    allows (Op.Move Move.TakeUp f) = refl
    allows (Op.Steal (StealOp.Put x more f)) = refl
    allows (Op.End a held) = refl
    allows _ = tt

-- what isn't accepted does nothing
pub more-react : (p : ℕ) (o : Op) (u : UserEnd) (w : World) → More w.trace (react p o u w).world.trace
more-react p (Op.User (UserOp.Poll f)) (UserEnd.Polled Answer.Pending) w =
    record { more = Event.Answered p f Answer.Pending ∷ []; is = refl; none = refl }
more-react p (Op.User (UserOp.Poll f)) (UserEnd.Polled Answer.Ready) w =
    record { more = Event.Answered p f Answer.Ready ∷ []; is = refl; none = refl }
more-react p (Op.User (UserOp.Poll f)) UserEnd.Done w =
    record { more = []; is = sym (append-nil w.trace); none = refl }
more-react p (Op.User (UserOp.PollOwn x)) (UserEnd.Polled Answer.Pending) w =
    record { more = []; is = sym (append-nil w.trace); none = refl }
more-react p (Op.User (UserOp.PollOwn x)) (UserEnd.Polled Answer.Ready) w =
    record { more = []; is = sym (append-nil w.trace); none = refl }
more-react p (Op.User (UserOp.PollOwn x)) UserEnd.Done w =
    record { more = []; is = sym (append-nil w.trace); none = refl }
more-react p _ _ w = record { more = []; is = sym (append-nil w.trace); none = refl }

more-begun : (p : ℕ) (w : World) (o : Option Waker) (c : Call) →
    More (w.trace ++ Event.CallBegun p c ∷ []) (begun p (log w (Event.CallBegun p c)) o c).world.trace
more-begun p w o c =
    let g = grows-begun begins_one none-begins p (log w (Event.CallBegun p c)) o c (allows c) in
    record { more = g.more; is = g.is; none = g.none }
  where
    allows : (x : Call) → AllowsCall begins_one none-begins p x
    allows (Call.PollRun q b) = refl
    allows (Call.DropRun q) = refl
    allows _ = tt

more-gone_on : (p : ℕ) (w : World) (os : List Op) (o : Option Op) (d : Op → Done) →
    ((x : Op) → More w.trace (d x).world.trace) →
    More w.trace (gone_on p w os o d).world.trace
more-gone_on p w os None d k = record { more = []; is = sym (append-nil w.trace); none = refl }
more-gone_on p w os (Some o) d k = more-onto w.trace p (d o) (below_top os) (k o)

-- what a step does to the machine and its trace: nothing; it adds something in which no call begins; or, first of all,
-- the beginning of its call
pub data Adds (s : Machine) (t : Step) (now : Machine) : Type 0 where
  refused : now ≡ s → Adds s t now
  goes_on : is_onward t ≡ true → More s.world.trace now.world.trace → Adds s t now
  begins : (p : ℕ) (c : Call) → t ≡ Begin p c → More (s.world.trace ++ Event.CallBegun p c ∷ []) now.world.trace →
      Adds s t now

adds-after : (s : Machine) (t : Step) → Adds s t (after s t)
adds-after s (Begin p c) =
    begins p c refl (more-onto (s.world.trace ++ Event.CallBegun p c ∷ []) p
    (begun p (log s.world (Event.CallBegun p c)) (mine (top (stack s p))) c) (stack s p)
    (more-begun p s.world (mine (top (stack s p))) c))
adds-after s (Go p h) =
    goes_on refl (more-gone_on p s.world (stack s p) (top (stack s p)) (λ o. act p h o s.world)
    (λ o. more-act p h o s.world))
adds-after s (Answers p u) =
    goes_on refl (more-gone_on p s.world (stack s p) (top (stack s p)) (λ o. react p o u s.world)
    (λ o. more-react p o u s.world))

adds-by : (s : Machine) (t : Step) (r : Option StepError) → Adds s t (stepped s (step_by r s t))
adds-by s t (Some e) = refused refl
adds-by s t None = adds-after s t

pub adds : (s : Machine) (t : Step) → Adds s t (stepped s (step s t))
unfolding step
adds s t = adds-by s t (refusal s t)

-- whatever is done, what has happened stays
pub continues : (s : Machine) (t : Step) → IsContinued s.world.trace (stepped s (step s t)).world.trace
continues s t = by-kind (adds s t)
  where
    by-kind : Adds s t (stepped s (step s t)) → IsContinued s.world.trace (stepped s (step s t)).world.trace
    by-kind (refused e) = ([], ap (λ (m : Machine). m.world.trace) e ∙ sym (append-nil s.world.trace))
    by-kind (goes_on k m) = (m.more, m.is)
    by-kind (begins p c e m) =
        (Event.CallBegun p c ∷ m.more, m.is ∙ append_assoc s.world.trace (Event.CallBegun p c ∷ []) m.more)

pub run-continues : (ts : List Step) (s : Machine) → IsContinued s.world.trace (run ts s).world.trace
run-continues [] s = ([], sym (append-nil s.world.trace))
run-continues (t ∷ ts) s =
    let one : IsContinued s.world.trace (stepped s (step s t)).world.trace = continues s t in
    let all : IsContinued (stepped s (step s t)).world.trace (run ts (stepped s (step s t))).world.trace =
    run-continues ts (stepped s (step s t)) in
    (one.0 ++ all.0, all.1 ∙ (ap (λ (xs : Trace). xs ++ all.0) one.1 ∙ append_assoc s.world.trace one.0 all.0))
