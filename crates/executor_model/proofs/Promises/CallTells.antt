-- For calls_do_what_they_say.
-- Calls do what they say: a poll of a handle that isn't refused is told of.
use Rattle.std.proofs.Common.{◌≡◌, ◌⊎◌, ℕ, ◌≤◌, [], ◌∷◌, ◌++◌, Bool, true, false, eqb, inl, inr, ⊎_elim, refl, subst, arith}
use Rattle.std.{proofs.lemmas.List.append_assoc, specs.Prelude.Option, specs.Prelude.Some, specs.Prelude.None}
use Rattle.task_moves.specs.declared.moves.owed.Answer.TheVariants.{Refused, Pending, Closed, Output}
use Rattle.task_moves.{specs.Moves.is_over, specs.declared.moves.owed.Answer.Answer}
use Rattle.executor_model.proofs.Types.{Moved, By, Call, Reply, Event, HandleOp, Hold, ListOp, Op, QueueOp, RunOp, Section}
use Rattle.executor_model.proofs.Types.{TableOp, TickOp, UserOp, Waker, Task, Outside, WakerOp, Hint}
use Rattle.executor_model.specs.Acts.{copy_awaiter_by, end_register_by, let_go, look_again_by, look_by, register_by, reply_of}
use Rattle.executor_model.specs.{AwaiterKept.is_handle_poll, CallsMean.HasPolled, Carried.awaiter_ops, Doing.act, Trace.Trace}
use Rattle.executor_model.specs.{Trace.has, Weights.weigh, World.World, World.awaiter_of, World.task}
use Rattle.executor_model.proofs.Steps.Asides.{Aside, aside-awaiter, aside-let_go}
use Rattle.executor_model.proofs.Promises.CallPromises.{misfit, told_of, serves}
use Rattle.executor_model.proofs.Steps.Lists.{weigh-append, weigh-below}
use Rattle.executor_model.proofs.Promises.CallAnswers.{no-poll, served}
use Rattle.executor_model.proofs.{Promises.CallTold.added, Quiet.Calls.calling_of, Quiet.Calls.is_end}
use Rattle.executor_model.proofs.{Quiet.CallsGroups.calls-act, Quiet.Resting.calling-is, Steps.Tests.or-left}
use Rattle.task_moves.specs.Moves as moves

told-aside : Aside told_of
told-aside = record {
  move = λ m f. refl;
  append = λ f. refl;
  poll = λ f. refl;
  drop = λ f. refl;
  output = λ f. refl;
  notify = λ f mine. refl;
  call = λ f a k. refl;
  goes = λ f. refl;
}

few-told : (o : Op) → told_of o ≤ calling_of o
few-told (Op.Handle (HandleOp.Register f a k)) = omega arith
few-told (Op.Handle (HandleOp.EndRegister f a k)) = omega arith
few-told (Op.Handle (HandleOp.LookAgain f)) = omega arith
few-told (Op.End Reply.Pending held) = omega arith
few-told (Op.End Reply.Ready held) = omega arith
few-told (Op.End Reply.Cancelled held) = omega arith
few-told _ = omega arith

-- the poll is told of first
first-told : (f p g : ℕ) (w : World) (more rest : Trace) (now : Trace) → eqb f g ≡ true → now ≡ w.trace ++ more →
    now ≡ w.trace ++ Event.HandlePolled p g ∷ rest → HasPolled f more
first-told f p g w more rest now i e t = subst (λ (x : Trace). has (is_handle_poll f) x ≡ true)
    (added w.trace more (Event.HandlePolled p g ∷ rest) now e t) (or-left (eqb f g) (has (is_handle_poll f) rest) i)

tells-look : (o : Option Answer) (p : ℕ) (w : World) (f g : ℕ) (a : Waker) (m : Moved) (more : Trace) → eqb f g ≡ true →
    (look_by o p w g a m).world.trace ≡ w.trace ++ more →
    (weigh told_of (look_by o p w g a m).next ≤ 0) ⊎ HasPolled f more
tells-look None p w f g a m more i e = inl (omega arith)
tells-look (Some Refused) p w f g a m more i e = inr (first-told f p g w more [] _ i e refl)
tells-look (Some Pending) p w f g a m more i e = inr (first-told f p g w more [] _ i e refl)
tells-look (Some Closed) p w f g a m more i e = inr (first-told f p g w more [] _ i e refl)
tells-look (Some Output) p w f g a m more i e = inr (first-told f p g w more (Event.OutputGiven p g ∷ []) _ i e
    (append_assoc w.trace (Event.HandlePolled p g ∷ []) (Event.OutputGiven p g ∷ [])))

tells-copy : (b : Bool) (p : ℕ) (w : World) (f g : ℕ) (a : Waker) (more : Trace) → eqb f g ≡ true →
    (copy_awaiter_by b p w g a).world.trace ≡ w.trace ++ more →
    (weigh told_of (copy_awaiter_by b p w g a).next ≤ 0) ⊎ HasPolled f more
tells-copy true p w f g a more i e = inl (omega arith)
tells-copy false p w f g (Task k) more i e = inr (first-told f p g w more [] _ i e refl)
tells-copy false p w f g (Outside x) more i e = inr (first-told f p g w more [] _ i e refl)

tells-register : (b : Bool) (w : World) (f : ℕ) (a : Waker) (k : ℕ) → weigh told_of (register_by b w f a k).next ≤ 1
tells-register true w f a k = omega arith
tells-register false w f a k = omega arith

tells-let_go : (w : World) (f : ℕ) →
    weigh told_of (let_go (awaiter_of w f) ++ Op.Handle (HandleOp.LookAgain f) ∷ []) ≤ 1
tells-let_go w f =
    omega (
      arith,
      weigh-append told_of (let_go (awaiter_of w f)) (Op.Handle (HandleOp.LookAgain f) ∷ []),
      aside-let_go told_of told-aside (awaiter_of w f),
    )

tells-end : (b : Bool) (w : World) (f : ℕ) (a : Waker) (k : ℕ) → weigh told_of (end_register_by b w f a k).next ≤ 1
tells-end true w f a k = omega (arith, tells-let_go w f)
tells-end false w f a k = tells-let_go w f

one-reply : (a : Answer) (f : ℕ) → told_of (Op.End (reply_of a) (Hold.Handle f)) ≤ 1
one-reply Refused f = omega arith
one-reply Pending f = omega arith
one-reply Closed f = omega arith
one-reply Output f = omega arith

tells-again : (o : Option Answer) (p : ℕ) (w : World) (f : ℕ) (m : Moved) →
    weigh told_of (look_again_by o p w f m).next ≤ 1
tells-again None p w f m = omega arith
tells-again (Some a) p w f m =
    omega (
      arith,
      weigh-append told_of (awaiter_ops f m.owed.awaiter) (Op.End (reply_of a) (Hold.Handle f) ∷ []),
      aside-awaiter told_of told-aside f m.owed.awaiter,
      one-reply a f,
    )

tells-by : (p : ℕ) (h : Hint) (o : Op) (w : World) (f : ℕ) (b : By) (more : Trace) → calling_of o ≡ 1 →
    serves o (Call.PollHandle f b) ≡ true → is_end o ≡ false → (act p h o w).world.trace ≡ w.trace ++ more →
    (weigh told_of (act p h o w).next ≤ told_of o) ⊎ HasPolled f more
tells-by p h (Op.Handle (HandleOp.Look g a)) w f b more c e n t =
    tells-look (moves.poll (task w g)).owed.answer p w f g a (moves.poll (task w g)) more e t
tells-by p h (Op.Handle (HandleOp.CopyAwaiter g a)) w f b more c e n t = tells-copy _ p w f g a more e t
tells-by p h (Op.Handle (HandleOp.Register g a k)) w f b more c e n t = inl (tells-register _ w g a k)
tells-by p h (Op.Handle (HandleOp.EndRegister g a k)) w f b more c e n t = inl (tells-end _ w g a k)
tells-by p h (Op.Handle (HandleOp.LookAgain g)) w f b more c e n t =
    inl (tells-again (moves.look_again (task w g)).owed.answer p w g (moves.look_again (task w g)))
tells-by p h (Op.List (ListOp.LockWrite Section.MakeRun)) w f b more c e n t = absurd (cc)
tells-by p h (Op.List (ListOp.LockWrite (Section.Register x))) w f b more c e n t = absurd (cc)
tells-by p h (Op.List (ListOp.LockWrite (Section.Unregister r x))) w f b more c e n t = absurd (cc)
tells-by p h (Op.List (ListOp.Write Section.MakeRun)) w f b more c e n t = absurd (cc)
tells-by p h (Op.List (ListOp.Write (Section.Register x))) w f b more c e n t = absurd (cc)
tells-by p h (Op.List (ListOp.Write (Section.Unregister r x))) w f b more c e n t = absurd (cc)
tells-by p h (Op.Table (TableOp.Enter mark)) w f b more c e n t = absurd (cc)
tells-by p h (Op.Table TableOp.LookAtTable) w f b more c e n t = absurd (cc)
tells-by p h (Op.Queue QueueOp.TakeTurn) w f b more c e n t = absurd (cc)
tells-by p h (Op.Queue (QueueOp.Take look)) w f b more c e n t = absurd (cc)
tells-by p h (Op.Waker (WakerOp.CopyWaker x held)) w f b more c e n t = absurd (cc)
tells-by p h (Op.Tick TickOp.MakeTick) w f b more c e n t = absurd (cc)
tells-by p h (Op.Tick (TickOp.Search s)) w f b more c e n t = absurd (no-poll s.who (Call.PollHandle f b) refl refl e)
tells-by p h (Op.Tick (TickOp.Look s look)) w f b more c e n t = absurd (no-poll s.who (Call.PollHandle f b) refl refl e)
tells-by p h (Op.Tick (TickOp.CopyWaker s)) w f b more c e n t = absurd (no-poll s.who (Call.PollHandle f b) refl refl e)
tells-by p h (Op.Tick (TickOp.FallAsleep s)) w f b more c e n t = absurd (no-poll s.who (Call.PollHandle f b) refl refl e)
tells-by p h (Op.User (UserOp.PollOwn x)) w f b more c e n t = absurd (cc)
tells-by p h (Op.List (ListOp.LockRead x)) w f b more c e n t = absurd (cc)
tells-by p h (Op.Steal o) w f b more c e n t = absurd (cc)
tells-by p h (Op.Run RunOp.MakeRoom) w f b more c e n t = absurd (cc)
tells-by p h (Op.Run _) w f b more c e n t = absurd (cc)
tells-by p h (Op.End r held) w f b more c e n t = absurd (cc)
tells-by p h _ w f b more c e n t = absurd (cc)

pub tell-turns : (p : ℕ) (h : Hint) (o : Op) (w : World) (f : ℕ) (b : By) (more : Trace) → is_end o ≡ false →
    misfit (Call.PollHandle f b) o ≡ 0 → (act p h o w).world.trace ≡ w.trace ++ more →
    (weigh told_of (act p h o w).next ≤ told_of o) ⊎ HasPolled f more
tell-turns p h o w f b more n e g = ⊎_elim
    (λ (z : calling_of o ≡ 0).
    inl (omega (arith, weigh-below told_of calling_of few-told (act p h o w).next, (calls-act p h o w n).passes.none z)))
    (λ (z : calling_of o ≡ 1). tells-by p h o w f b more z (served (serves o (Call.PollHandle f b)) e) n g)
    (calling-is o)
