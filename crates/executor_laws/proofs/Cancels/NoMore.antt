-- For cancelled_means_over.
-- Whose task is closed gives no output any more, and the trace tells why; and only a poll that finds it closed says so.
use Rattle.std.proofs.Common.{◌≡◌, ◌⊎◌, inl, inr, ⊎_elim, ℕ, zero, suc, ◌≤◌, [], ◌∷◌, ◌++◌, Bool, true, false, ◌||◌, eqb, refl}
use Rattle.std.specs.Prelude.{Option, Some, None, count_by}
use Rattle.std.{proofs.Common.ap, proofs.Common.subst, proofs.Common.arith, proofs.lemmas.Bool.Decides.nat_tests}
use Rattle.task_moves.specs.declared.moves.owed.Answer.TheVariants.{Refused, Pending, Closed, Output}
use Rattle.task_moves.{specs.Moves.is_going, specs.Moves.is_over, specs.declared.moves.owed.Answer.Answer}
use Rattle.executor_laws.proofs.Types.{Moved, State, By, Call, Reply, Event, HandleOp, Hold, ListOp, Op, QueueOp, RunOp}
use Rattle.executor_laws.proofs.Types.{Section, TableOp, TickOp, UserOp, Waker, WakerOp, Hint, UserEnd}
use Rattle.executor_model.specs.Acts.{answered, copy_awaiter_by, end_register_by, let_go, look_again_by, look_by, polled}
use Rattle.executor_model.specs.Trace.{Trace, has, is_cancelled, is_drop_begun, is_last_waker, is_ready, takes_handle}
use Rattle.executor_model.specs.Steps.{Machine, accepts, react}
use Rattle.executor_model.specs.{Acts.register_by, Acts.reply_of, World.World, World.awaiter_of, World.task}
use Rattle.executor_model.specs.{CallsMean.MayBeOver, Carried.awaiter_ops, Doing.act, OutputOnce.is_output_given, Weights.weigh}
use Rattle.executor_laws.specs.HandleAnswers.{GivesNoMore}
use Rattle.executor_model.proofs.OneFuture.Telling.{counted-there, there-or-none}
use Rattle.executor_model.proofs.Promises.CallAnswers.{no-poll, served}
use Rattle.executor_model.proofs.Steps.Asides.{Aside, aside-awaiter, aside-let_go}
use Rattle.executor_model.proofs.{OneFuture.EffectsWays.view, OneFuture.Tallies.readies, OneFuture.Tallies.spent}
use Rattle.executor_model.proofs.{Outputs.Keeping.Stored, Promises.CallPromises.has-left, Promises.CallServes.misfit}
use Rattle.executor_model.proofs.{Promises.CallServes.serves, Promises.CallTold.over-told, Quiet.Calls.calling_of}
use Rattle.executor_model.proofs.{Quiet.Calls.is_end, Quiet.CallsGroups.calls-act, Quiet.Resting.calling-is}
use Rattle.executor_model.proofs.{Steps.Lists.weigh-append, Steps.Lists.weigh-below, Table.LeavingExecutions.Placed}
use Rattle.task_moves.specs.Moves as moves
use Rattle.executor_model.specs.declared.event.Answer.TheVariants as answer

-- what is told of stays

pub more-later : (f : ℕ) (xs ys : Trace) → GivesNoMore f xs → GivesNoMore f (xs ++ ys)
more-later f xs ys (inl a) = inl (has-left (is_cancelled f) xs ys a)
more-later f xs ys (inr (inl a)) = inr (inl (has-left (is_output_given f) xs ys a))
more-later f xs ys (inr (inr (inl a))) = inr (inr (inl (has-left (takes_handle f) xs ys a)))
more-later f xs ys (inr (inr (inr (inl a)))) = inr (inr (inr (inl (has-left (is_last_waker f) xs ys a))))
more-later f xs ys (inr (inr (inr (inr a)))) = inr (inr (inr (inr (has-left is_drop_begun xs ys a))))

-- a closed task

has-counted : (t : Event → Bool) (es : Trace) → 1 ≤ count_by t es → has t es ≡ true
has-counted t es n = ⊎_elim (λ (x : (has t es ≡ true) × (1 ≤ count_by t es)). x.0)
    (λ (x : (has t es ≡ false) × (count_by t es ≡ 0)). absurd (omega (arith, x.1, n)))
    (there-or-none t es)

spent-told : (f : ℕ) (es : Trace) → 1 ≤ spent f es → GivesNoMore f es
unfolding spent
spent-told f es n = by (count_by (is_cancelled f) es) (count_by (is_output_given f) es) refl refl
  where
    by : (a b : ℕ) → count_by (is_cancelled f) es ≡ a → count_by (is_output_given f) es ≡ b → GivesNoMore f es
    by (suc a) b i j = inl (has-counted (is_cancelled f) es (omega (arith, i)))
    by zero (suc b) i j = inr (inl (has-counted (is_output_given f) es (omega (arith, j))))
    by zero zero i j = inr (inr (inl (has-counted (takes_handle f) es (omega (arith, n, i, j)))))

was-ready : (f : ℕ) (es : Trace) → has (is_ready f) es ≡ true → 1 ≤ readies f es
unfolding readies
was-ready f es h = counted-there (is_ready f) es h

not-both : (b : Bool) → b ≡ true → b ≡ false → ⊥
not-both true e f = absurd (cc)
not-both false e f = absurd (cc)

pub closed-why : (s : Machine) (f : ℕ) → Placed s → Stored (view s f) → (task s.world f).closed ≡ true →
    GivesNoMore f s.world.trace
closed-why s f placed stored e = by (over-told s f placed (over (task s.world f) e))
  where
    over : (x : State) → x.closed ≡ true → is_over x ≡ true
    over x z = by x.completed x.closed z
      where
        by : (a b : Bool) → b ≡ true → (a || b) ≡ true
        by true b z = refl
        by false b z = z

    was : (n : ℕ) → spent f s.world.trace ≡ n → has (is_ready f) s.world.trace ≡ true → GivesNoMore f s.world.trace
    was (suc n) i a = spent-told f s.world.trace (omega (arith, i))
    was zero i a = absurd (not-both (task s.world f).closed e
        (stored.unclosed (omega (arith, was-ready f s.world.trace a)) i))

    by : MayBeOver f s.world.trace → GivesNoMore f s.world.trace
    by (inl a) = was (spent f s.world.trace) refl a
    by (inr (inl a)) = inl a
    by (inr (inr (inl a))) = inr (inr (inr (inl a)))
    by (inr (inr (inr a))) = inr (inr (inr (inr a)))

-- who says so

abbrev pub cancelled_of : Op → ℕ
cancelled_of (Op.End Reply.Cancelled held) = 1
cancelled_of _ = 0

few : (o : Op) → cancelled_of o ≤ calling_of o
few (Op.End Reply.Cancelled held) = omega arith
few _ = omega arith

aside : Aside cancelled_of
aside = record {
  move = λ m f. refl;
  append = λ f. refl;
  poll = λ f. refl;
  drop = λ f. refl;
  output = λ f. refl;
  notify = λ f mine. refl;
  call = λ f a k. refl;
  goes = λ f. refl;
}

-- a poll that finds the task closed
poll-closed : (s : State) → (moves.poll s).owed.answer ≡ Some Closed → s.closed ≡ true
poll-closed s e = by s.closed (is_going s) s.completed e
  where
    by : (a b c : Bool) → (moves.poll_by a b c s).owed.answer ≡ Some Closed → a ≡ true
    by true b c q = refl
    by false b true q = absurd (cc)
    by false b false q = absurd (cc)

again-closed : (s : State) → (moves.look_again s).owed.answer ≡ Some Closed → s.closed ≡ true
again-closed s e = by s.closed (is_going s) s.completed e
  where
    by : (a b c : Bool) → (moves.look_again_by a b c s).owed.answer ≡ Some Closed → a ≡ true
    by true b c q = refl
    by false b true q = absurd (cc)
    by false b false q = absurd (cc)

abbrev pub Says : ℕ → World → ℕ → Type 0
Says n w f = (n ≡ 0) ⊎ ((task w f).closed ≡ true)

says-answered : (p : ℕ) (w v : World) (f : ℕ) (m : Moved) (a : Answer) → (a ≡ Closed → (task w f).closed ≡ true) →
    Says (weigh cancelled_of (answered p v f m a).next) w f
says-answered p w v f m Closed k = inr (k refl)
says-answered p w v f m Refused k = inl (omega (
  arith,
  weigh-append cancelled_of (awaiter_ops f m.owed.awaiter) (Op.End Reply.NoMemory (Hold.Handle f) ∷ []),
  aside-awaiter cancelled_of aside f m.owed.awaiter,
))
says-answered p w v f m Pending k = inl (omega (
  arith,
  weigh-append cancelled_of (awaiter_ops f m.owed.awaiter) (Op.End (reply_of Pending) (Hold.Handle f) ∷ []),
  aside-awaiter cancelled_of aside f m.owed.awaiter,
))
says-answered p w v f m Output k = inl (omega (
  arith,
  weigh-append cancelled_of (awaiter_ops f m.owed.awaiter) (Op.End (reply_of Output) (Hold.Handle f) ∷ []),
  aside-awaiter cancelled_of aside f m.owed.awaiter,
))

says-look : (o : Option Answer) (p : ℕ) (w : World) (f : ℕ) (a : Waker) (m : Moved) →
    (o ≡ Some Closed → (task w f).closed ≡ true) → Says (weigh cancelled_of (look_by o p w f a m).next) w f
says-look None p w f a m k = inl refl
says-look (Some x) p w f a m k = says-answered p w (polled p w f) f m x (λ e. k (ap (λ (y : Answer). Some y) e))

says-again : (o : Option Answer) (p : ℕ) (w : World) (f : ℕ) (m : Moved) →
    (o ≡ Some Closed → (task w f).closed ≡ true) → Says (weigh cancelled_of (look_again_by o p w f m).next) w f
says-again None p w f m k = inl refl
says-again (Some x) p w f m k = says-answered p w w f m x (λ e. k (ap (λ (y : Answer). Some y) e))

none-copied : (b : Bool) (p : ℕ) (w : World) (f : ℕ) (a : Waker) → weigh cancelled_of (copy_awaiter_by b p w f a).next ≡ 0
none-copied true p w f a = refl
none-copied false p w f a = refl

none-registered : (b : Bool) (w : World) (f : ℕ) (a : Waker) (k : ℕ) → weigh cancelled_of (register_by b w f a k).next ≡ 0
none-registered true w f a k = refl
none-registered false w f a k = refl

none-let_go : (w : World) (f : ℕ) → weigh cancelled_of (let_go (awaiter_of w f) ++ Op.Handle (HandleOp.LookAgain f) ∷ []) ≡ 0
none-let_go w f = omega (
  arith,
  weigh-append cancelled_of (let_go (awaiter_of w f)) (Op.Handle (HandleOp.LookAgain f) ∷ []),
  aside-let_go cancelled_of aside (awaiter_of w f),
)

none-ends : (b : Bool) (w : World) (f : ℕ) (a : Waker) (k : ℕ) → weigh cancelled_of (end_register_by b w f a k).next ≡ 0
none-ends true w f a k = omega (arith, none-let_go w f)
none-ends false w f a k = none-let_go w f

of-same : (n : ℕ) (w : World) (f g : ℕ) → eqb f g ≡ true → Says n w g → Says n w f
of-same n w f g e h = let i : g ≡ f = grind (arith, nat_tests) in subst (Says n w) i h

says-by : (p : ℕ) (h : Hint) (o : Op) (w : World) (f : ℕ) (b : By) → calling_of o ≡ 1 →
    serves o (Call.PollHandle f b) ≡ true → is_end o ≡ false → Says (weigh cancelled_of (act p h o w).next) w f
says-by p h (Op.Handle (HandleOp.Look g a)) w f b c e n = of-same _ w f g e
    (says-look (moves.poll (task w g)).owed.answer p w g a (moves.poll (task w g)) (poll-closed (task w g)))
says-by p h (Op.Handle (HandleOp.CopyAwaiter g a)) w f b c e n = inl (none-copied _ p w g a)
says-by p h (Op.Handle (HandleOp.Register g a k)) w f b c e n = inl (none-registered _ w g a k)
says-by p h (Op.Handle (HandleOp.EndRegister g a k)) w f b c e n = inl (none-ends _ w g a k)
says-by p h (Op.Handle (HandleOp.LookAgain g)) w f b c e n = of-same _ w f g e
    (says-again (moves.look_again (task w g)).owed.answer p w g (moves.look_again (task w g)) (again-closed (task w g)))
says-by p h (Op.List (ListOp.LockWrite Section.MakeRun)) w f b c e n = absurd (cc)
says-by p h (Op.List (ListOp.LockWrite (Section.Register x))) w f b c e n = absurd (cc)
says-by p h (Op.List (ListOp.LockWrite (Section.Unregister r x))) w f b c e n = absurd (cc)
says-by p h (Op.List (ListOp.Write Section.MakeRun)) w f b c e n = absurd (cc)
says-by p h (Op.List (ListOp.Write (Section.Register x))) w f b c e n = absurd (cc)
says-by p h (Op.List (ListOp.Write (Section.Unregister r x))) w f b c e n = absurd (cc)
says-by p h (Op.Table (TableOp.Enter mark)) w f b c e n = absurd (cc)
says-by p h (Op.Table TableOp.LookAtTable) w f b c e n = absurd (cc)
says-by p h (Op.Queue QueueOp.TakeTurn) w f b c e n = absurd (cc)
says-by p h (Op.Queue (QueueOp.Take look)) w f b c e n = absurd (cc)
says-by p h (Op.Waker (WakerOp.CopyWaker x held)) w f b c e n = absurd (cc)
says-by p h (Op.Tick TickOp.MakeTick) w f b c e n = absurd (cc)
says-by p h (Op.Tick (TickOp.Search s)) w f b c e n = absurd (no-poll s.who (Call.PollHandle f b) refl refl e)
says-by p h (Op.Tick (TickOp.Look s look)) w f b c e n = absurd (no-poll s.who (Call.PollHandle f b) refl refl e)
says-by p h (Op.Tick (TickOp.CopyWaker s)) w f b c e n = absurd (no-poll s.who (Call.PollHandle f b) refl refl e)
says-by p h (Op.Tick (TickOp.FallAsleep s)) w f b c e n = absurd (no-poll s.who (Call.PollHandle f b) refl refl e)
says-by p h (Op.User (UserOp.PollOwn x)) w f b c e n = absurd (cc)
says-by p h (Op.List (ListOp.LockRead x)) w f b c e n = absurd (cc)
says-by p h (Op.Steal o) w f b c e n = absurd (cc)
says-by p h (Op.Run RunOp.MakeRoom) w f b c e n = absurd (cc)
says-by p h (Op.Run (RunOp.TakeTurn x)) w f b c e n = absurd (cc)
says-by p h (Op.Run (RunOp.SearchCommon x look)) w f b c e n = absurd (cc)
says-by p h (Op.Run (RunOp.LookOwn x at left)) w f b c e n = absurd (cc)
says-by p h (Op.Run (RunOp.WakeOwn x)) w f b c e n = absurd (cc)
says-by p h (Op.Run (RunOp.Reschedule r x)) w f b c e n = absurd (cc)
says-by p h (Op.End r held) w f b c e n = absurd (cc)
says-by p h _ w f b c e n = absurd (cc)

pub says-act : (p : ℕ) (h : Hint) (o : Op) (w : World) (f : ℕ) (b : By) → is_end o ≡ false →
    misfit (Call.PollHandle f b) o ≡ 0 → Says (weigh cancelled_of (act p h o w).next) w f
says-act p h o w f b n e = ⊎_elim
    (λ (z : calling_of o ≡ 0).
    inl (omega (arith, weigh-below cancelled_of calling_of few (act p h o w).next, (calls-act p h o w n).passes.none z)))
    (λ (z : calling_of o ≡ 1). says-by p h o w f b z (served (serves o (Call.PollHandle f b)) e) n) (calling-is o)

pub none-react : (p : ℕ) (o : Op) (u : UserEnd) (w : World) → accepts o u ≡ true → weigh cancelled_of (react p o u w).next ≡ 0
none-react p (Op.User (UserOp.Poll f)) (UserEnd.Polled answer.Pending) w a = refl
none-react p (Op.User (UserOp.PollOwn x)) (UserEnd.Polled answer.Pending) w a = refl
none-react p _ _ w a = refl
