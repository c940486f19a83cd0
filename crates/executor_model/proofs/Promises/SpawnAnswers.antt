-- For spawns_are_limited.
-- A spawn is answered that the executor is full where it is, and no more futures are undropped than its limit.
use Rattle.std.proofs.Common.{◌≡◌, ◌⊎◌, ℕ, ◌≤◌, List, [], ◌∷◌, ◌++◌, Bool, true, false, cond, ⊎_elim, refl, subst, sym, ap, ◌∙◌}
use Rattle.std.proofs.lemmas.List.{append_assoc, reverse-append, reverse-reverse}
use Rattle.std.{proofs.Common.append-nil, proofs.Common.arith, specs.Prelude.reverse}
use Rattle.executor_model.proofs.Types.{Mark, Call, Reply, Event, HandleOp, Hold, ListOp, Op, QueueOp, RunOp, Section, TableOp}
use Rattle.executor_model.proofs.Types.{TickOp, UserOp, WakerOp, Hint, UserEnd, Answer}
use Rattle.executor_model.specs.SpawnsMean.{AreMany, FullAt, FullFrom, TookPlace}
use Rattle.executor_model.specs.Steps.{Machine, accepts, react, stack}
use Rattle.executor_model.specs.{Calls.Begun, Calls.calls, CallsMean.IsAnsweredRight, CallsMean.is_reply, Doing.act}
use Rattle.executor_model.specs.{Trace.Trace, Trace.has, Weights.weigh, Weights.weigh_all, World.World}
use Rattle.executor_model.proofs.Promises.CallAnswers.{no-poll, served}
use Rattle.executor_model.proofs.Promises.CallPromises.{Owes, misfit, owes-later, serves, spawns}
use Rattle.executor_model.proofs.{Promises.CallFits.fit-act, Promises.CallFrames.Frame, Promises.CallFrames.Tied}
use Rattle.executor_model.proofs.{Promises.Dropping.Droppings, Quiet.Calls.calling_of, Quiet.Calls.is_end, Quiet.CallsDone.Held}
use Rattle.executor_model.proofs.{Quiet.CallsGroups.calls-act, Quiet.Resting.calling-is, Steps.Deeds.ends_one}
use Rattle.executor_model.proofs.{Steps.Lists.weigh-below, Steps.Tests.left-false, Steps.Tests.right-false}

-- an answer that the executor is full
abbrev pub full_of : Op → ℕ
full_of (Op.End Reply.Full held) = 1
full_of _ = 0

abbrev pub is_enter : Op → Bool
is_enter (Op.Table (TableOp.Enter mark)) = true
is_enter _ = false

-- who gives it

few-full : (o : Op) → full_of o ≤ calling_of o
few-full (Op.End Reply.Full held) = omega arith
few-full _ = omega arith

not-full : (c : Call) → spawns c ≡ false → is_reply c Reply.Full ≡ false
not-full (Call.Spawn mark) e = absurd (cc)
not-full _ e = refl

pub full-misfit : (c : Call) → spawns c ≡ false → (o : Op) → full_of o ≤ misfit c o
full-misfit c e (Op.End Reply.Full held) =
    let z : cond (is_reply c Reply.Full) 0 1 ≡ 1 = ap (λ (b : Bool). let n : ℕ = cond b 0 1 in n) (not-full c e) in
    omega (arith, z)
full-misfit c e _ = omega arith

pub only-enter : (mark : Mark) (o : Op) → calling_of o ≡ 1 → serves o (Call.Spawn mark) ≡ true → is_end o ≡ false → is_enter o ≡ true
only-enter mark (Op.Table (TableOp.Enter m)) a e n = refl
only-enter mark (Op.List (ListOp.LockWrite Section.MakeRun)) a e n = absurd (cc)
only-enter mark (Op.List (ListOp.LockWrite (Section.Register x))) a e n = absurd (cc)
only-enter mark (Op.List (ListOp.LockWrite (Section.Unregister r x))) a e n = absurd (cc)
only-enter mark (Op.List (ListOp.Write Section.MakeRun)) a e n = absurd (cc)
only-enter mark (Op.List (ListOp.Write (Section.Register x))) a e n = absurd (cc)
only-enter mark (Op.List (ListOp.Write (Section.Unregister r x))) a e n = absurd (cc)
only-enter mark (Op.Handle (HandleOp.Look x k)) a e n = absurd (cc)
only-enter mark (Op.Handle _) a e n = absurd (cc)
only-enter mark (Op.Table TableOp.LookAtTable) a e n = absurd (cc)
only-enter mark (Op.Queue QueueOp.TakeTurn) a e n = absurd (cc)
only-enter mark (Op.Queue (QueueOp.Take look)) a e n = absurd (cc)
only-enter mark (Op.Waker (WakerOp.CopyWaker x held)) a e n = absurd (cc)
only-enter mark (Op.Tick TickOp.MakeTick) a e n = absurd (cc)
only-enter mark (Op.Tick (TickOp.Search s)) a e n = absurd (no-poll s.who (Call.Spawn mark) refl refl e)
only-enter mark (Op.Tick (TickOp.Look s look)) a e n = absurd (no-poll s.who (Call.Spawn mark) refl refl e)
only-enter mark (Op.Tick (TickOp.CopyWaker s)) a e n = absurd (no-poll s.who (Call.Spawn mark) refl refl e)
only-enter mark (Op.Tick (TickOp.FallAsleep s)) a e n = absurd (no-poll s.who (Call.Spawn mark) refl refl e)
only-enter mark (Op.User (UserOp.PollOwn x)) a e n = absurd (cc)
only-enter mark (Op.List (ListOp.LockRead x)) a e n = absurd (cc)
only-enter mark (Op.Steal o) a e n = absurd (cc)
only-enter mark (Op.Run RunOp.MakeRoom) a e n = absurd (cc)
only-enter mark (Op.Run _) a e n = absurd (cc)
only-enter mark (Op.End r held) a e n = absurd (cc)
only-enter mark _ a e n = absurd (cc)

pub spawn-next : (b : Bool) (c : Call) → spawns c ≡ b → (p : ℕ) (h : Hint) (o : Op) (w : World) → is_end o ≡ false →
    misfit c o ≡ 0 → is_enter o ≡ false → weigh full_of (act p h o w).next ≡ 0
spawn-next false c s p h o w n e k =
    omega (arith, weigh-below full_of (misfit c) (full-misfit c s) (act p h o w).next, fit-act c p h o w n e)
spawn-next true (Call.Spawn mark) s p h o w n e k = ⊎_elim
    (λ (z : calling_of o ≡ 0).
    omega (arith, weigh-below full_of calling_of few-full (act p h o w).next, (calls-act p h o w n).passes.none z))
    (λ (z : calling_of o ≡ 1).
    let no : true ≡ false = sym (only-enter mark o z (served (serves o (Call.Spawn mark)) e) n) ∙ k in absurd (cc)) (calling-is o)
spawn-next true _ s p h o w n e k = absurd (cc)

pub full-react : (p : ℕ) (o : Op) (u : UserEnd) (w : World) → accepts o u ≡ true → weigh full_of (react p o u w).next ≡ 0
full-react p (Op.User (UserOp.Poll f)) (UserEnd.Polled Answer.Pending) w a = refl
full-react p (Op.User (UserOp.PollOwn x)) (UserEnd.Polled Answer.Pending) w a = refl
full-react p _ _ w a = refl

-- the call that a party is in
pub record Serves (o : Op) : Type 0 where
  pub call : Call
  pub fits : misfit call o ≡ 0

flipped : (rest old : List Op) → reverse (rest ++ reverse old) ≡ old ++ reverse rest
flipped rest old = reverse-append rest (reverse old)
    ∙ ap (λ (xs : List Op). xs ++ reverse rest) (reverse-reverse old)

in-frame : (es : Trace) (o : Op) (bs : List Begun) (rest : List Op) →
    Tied Owes owes-later IsAnsweredRight es bs (o ∷ rest) → Serves o
in-frame es o [] rest h = absurd (cc)
in-frame es o (b ∷ bs) rest h = by h.0 h.3
  where
    by : (front : List Op) → Frame Owes owes-later IsAnsweredRight es b front h.1 h.2 (o ∷ rest) → Serves o
    by [] f =
        let i : o ≡ h.1 = (let q : o ∷ rest ≡ h.1 ∷ h.2 = f.is in cc) in
        record { call = b.call; fits = omega (arith, ap (misfit b.call) i, f.owes.fits) }
    by (x ∷ fs) f =
        let i : o ≡ x = (let q : o ∷ rest ≡ x ∷ (fs ++ h.1 ∷ h.2) = f.is in cc) in
        record { call = b.call; fits = omega (arith, ap (misfit b.call) i, f.owes.fits) }

pub serves-call : (s : Machine) (p : ℕ) (o : Op) (rest : List Op) → stack s p ≡ rest ++ reverse (o ∷ []) → Held s → Serves o
serves-call s p o rest e h = in-frame s.world.trace o (calls p s.world.trace).begun (reverse rest)
    (subst (Tied Owes owes-later IsAnsweredRight s.world.trace (calls p s.world.trace).begun)
    (ap (λ (xs : List Op). reverse xs) e ∙ flipped rest (o ∷ [])) (h.frames.tied p))

-- each such answer, as the trace grows

full-push : (n : ℕ) (past es : Trace) (e : Event) → FullFrom n past es → FullAt n (past ++ es) e →
    FullFrom n past (es ++ e ∷ [])
full-push n past [] e h k = (subst (λ (t : Trace). FullAt n t e) (append-nil past) k, tt)
full-push n past (x ∷ es) e h k = (
  h.0,
  full-push n (past ++ x ∷ []) es e h.1
      (subst (λ (t : Trace). FullAt n t e) (sym (append_assoc past (x ∷ []) es)) k),
)

no-answer : (n : ℕ) (past : Trace) (e : Event) → ends_one e ≡ false → FullAt n past e
no-answer n past (Event.CallEnded p a) z = absurd (cc)
no-answer n past _ z = tt

pub full-more : (n : ℕ) (es more : Trace) → FullFrom n [] es → has ends_one more ≡ false → FullFrom n [] (es ++ more)
full-more n es [] h z = subst (FullFrom n []) (sym (append-nil es)) h
full-more n es (e ∷ more) h z = subst (FullFrom n []) (append_assoc es (e ∷ []) more)
    (full-more n (es ++ e ∷ []) more
    (full-push n [] es e h (no-answer n es e (left-false (ends_one e) (has ends_one more) z)))
    (right-false (ends_one e) (has ends_one more) z))

pub full-ended : (n : ℕ) (es : Trace) (p : ℕ) (a : Reply) → FullFrom n [] es → (a ≡ Reply.Full → AreMany n (TookPlace es)) →
    FullFrom n [] (es ++ Event.CallEnded p a ∷ [])
full-ended n es p Reply.Full h k = full-push n [] es (Event.CallEnded p Reply.Full) h (k refl)
full-ended n es p _ h k = full-push n [] es _ h tt

-- between two steps, and in the middle of one

pub record Between (n : ℕ) (s : Machine) : Type 0 where
  pub held : Held s
  pub droppings : Droppings s
  pub limit : s.world.limit ≡ n
  pub full : FullFrom n [] s.world.trace
  pub none : weigh_all full_of s.parties ≡ 0

pub record Told (n : ℕ) (s : Machine) (p : ℕ) : Type 0 where
  pub below : List Op
  pub held : Hold
  pub is : stack s p ≡ below ++ Op.End Reply.Full held ∷ []
  pub one : weigh_all full_of s.parties ≡ 1
  pub many : AreMany n (TookPlace s.world.trace)

pub record Within (n : ℕ) (s : Machine) (p : ℕ) : Type 0 where
  pub held : Held s
  pub droppings : Droppings s
  pub limit : s.world.limit ≡ n
  pub full : FullFrom n [] s.world.trace
  pub answer : (weigh_all full_of s.parties ≡ 0) ⊎ Told n s p
