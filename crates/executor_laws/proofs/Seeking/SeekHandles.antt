-- For handles_wait_for_what_can_come.
-- The poll of a handle: it looks, registers its waker and looks again, and where something is there it is answered otherwise.
use Rattle.std.proofs.Common.{◌≡◌, ◌≢◌, ◌∙◌, inl, inr, ℕ, List, [], ◌∷◌, ◌++◌, Bool, true, false, cond, refl, sym, ap, subst}
use Rattle.std.{proofs.Common.arith, specs.Prelude.Option, specs.Prelude.Some, specs.Prelude.None, specs.Prelude.not}
use Rattle.executor_laws.proofs.Types.{State, Call, Reply, Kind, Awaiter, Hold, HandleOp, Op, Waker, Outside, Task, WakerOp}
use Rattle.executor_laws.proofs.Types.{Hint, Step, Begin, Go, UserEnd}
use Rattle.executor_model.specs.declared.step.Step.TheVariants.{Answer}
use Rattle.executor_model.specs.Acts.{copy_awaiter_by, end_register_by, is_copy_refused, let_go, look_again_by, look_by}
use Rattle.executor_model.specs.Steps.{Machine, accepts, react, refusal, run, stack, start, step, stepped, top, waits}
use Rattle.executor_model.specs.World.{Done, World, awaiter_of, done, task}
use Rattle.executor_model.specs.{Acts.register_by, Acts.waker_goes, Carried.awaiter_ops, Doing.act}
use Rattle.executor_laws.specs.HandlePolls.{HandleFoundNone, HandlesLookFirst, is_unsettled}
use Rattle.executor_laws.specs.PendingPolls.{IsAnswered}
use Rattle.executor_model.proofs.{Quiet.Calls.is_end, Steps.Reached.Reached}
use Rattle.executor_laws.proofs.Seeking.SeekStacks.{Comes, Follows, Lands, Next, answered-long, begins-so, own_part, seek}
use Rattle.executor_laws.proofs.Seeking.SeekStacks.Next.{goes_on, had}
use Rattle.executor_laws.proofs.{Placement.OwnReady.reached-on, Seeking.SeekStacks.Lands.on, Seeking.SeekStacks.Lands.over}
use Rattle.task_moves.specs.Moves as moves

-- it is at one of these things
data At : Type 0 where
  here : At

module _ (p f : ℕ) (old : List Op) where
  abbrev Control : At → Op → Type 0
  Control i (Op.Handle (HandleOp.Look g a)) = g ≡ f
  Control i (Op.Handle (HandleOp.CopyAwaiter g a)) = g ≡ f
  Control i (Op.Handle (HandleOp.Register g a k)) = g ≡ f
  Control i (Op.Handle (HandleOp.EndRegister g a k)) = g ≡ f
  Control i (Op.Handle (HandleOp.LookAgain g)) = g ≡ f
  Control i (Op.End a held) = a ≢ Reply.Pending
  Control i _ = ⊥

  abbrev Has : At → List Step → Machine → Type 0
  Has i ts s = HandleFoundNone f p ts s

  abbrev Goes : Machine → Step → Done → Type 0
  Goes s u d = Next p old At Control Has here s u d

  abbrev On : Done → Type 0
  On d = Comes p old At Control here d

  on-with : (s : Machine) (t : Step) (d : Done) → On d → Goes s t d
  on-with s t d x = goes_on here x (λ ts z. inr z)

  -- it is answered, once the awaiter is told
  answers-closed : (w : World) → On (done w (awaiter_ops f (moves.notify_other_if true) ++ Op.End Reply.Cancelled (Hold.Handle f) ∷ []))
  answers-closed w = record { control = _; side = _; is = refl; kind = λ e. cc; light = refl }

  answers-output : (w : World) (b : Bool) →
      On (done w (awaiter_ops f (moves.notify_other_if b) ++ Op.End Reply.Ready (Hold.Handle f) ∷ []))
  answers-output w true = record { control = _; side = _; is = refl; kind = λ e. cc; light = refl }
  answers-output w false = record { control = _; side = _; is = refl; kind = λ e. cc; light = refl }

  looks : (closed going completed : Bool) (t : State) (w : World) (a : Waker) →
      On (look_by (moves.poll_by closed going completed t).owed.answer p w f a (moves.poll_by closed going completed t))
  looks true true completed t w a = record { control = _; side = _; is = refl; kind = refl; light = refl }
  looks true false completed t w a = answers-closed _
  looks false going false t w a = record { control = _; side = _; is = refl; kind = refl; light = refl }
  looks false going true t w a = answers-output _ t.awaiter

  copies : (b : Bool) (w : World) (a : Waker) → On (copy_awaiter_by b p w f a)
  copies true w a = record { control = _; side = _; is = refl; kind = λ e. cc; light = refl }
  copies false w a = record { control = _; side = _; is = refl; kind = refl; light = refl }

  registers : (b : Bool) (w : World) (a : Waker) (k : ℕ) → On (register_by b w f a k)
  registers true w a k = record { control = _; side = _; is = refl; kind = refl; light = refl }
  registers false w a k = record { control = _; side = _; is = refl; kind = refl; light = refl }

  -- the old awaiter goes
  waker-goes : (w : World) (a : Waker) → On (done w (waker_goes a ++ Op.Handle (HandleOp.LookAgain f) ∷ []))
  waker-goes w (Task g) = record { control = _; side = _; is = refl; kind = refl; light = refl }
  waker-goes w (Outside y) = record { control = _; side = _; is = refl; kind = refl; light = refl }

  lets-go : (w : World) (o : Option Awaiter) → On (done w (let_go o ++ Op.Handle (HandleOp.LookAgain f) ∷ []))
  lets-go w None = record { control = _; side = _; is = refl; kind = refl; light = refl }
  lets-go w (Some x) = waker-goes w x.waker

  call-goes : (w : World) (v a : Waker) (k : ℕ) →
      On (done w (Op.Waker (WakerOp.CallAwaiter f a k) ∷ waker_goes v ++ Op.Handle (HandleOp.LookAgain f) ∷ []))
  call-goes w (Task g) a k = record { control = _; side = _; is = refl; kind = refl; light = refl }
  call-goes w (Outside y) a k = record { control = _; side = _; is = refl; kind = refl; light = refl }

  calls-and-lets-go : (w : World) (o : Option Awaiter) (a : Waker) (k : ℕ) →
      On (done w (Op.Waker (WakerOp.CallAwaiter f a k) ∷ let_go o ++ Op.Handle (HandleOp.LookAgain f) ∷ []))
  calls-and-lets-go w None a k = record { control = _; side = _; is = refl; kind = refl; light = refl }
  calls-and-lets-go w (Some x) a k = call-goes w x.waker a k

  end-registers : (b : Bool) (w : World) (a : Waker) (k : ℕ) → On (end_register_by b w f a k)
  end-registers true w a k = calls-and-lets-go _ (awaiter_of w f) a k
  end-registers false w a k = lets-go _ (awaiter_of w f)

  unsettled : (t : State) (closed going completed : Bool) → t.closed ≡ closed → moves.is_going t ≡ going → t.completed ≡ completed →
      cond closed going (not completed) ≡ true → is_unsettled t ≡ true
  unsettled t closed going completed a b c u = ap (λ (x : Bool). cond x (moves.is_going t) (not t.completed)) a
      ∙ (ap (λ (x : Bool). cond closed x (not t.completed)) b ∙ (ap (λ (x : Bool). cond closed going (not x)) c ∙ u))

  looks-again : (s : Machine) (h : Hint) → refusal s (Go p h) ≡ None →
      top (stack s p) ≡ Some (Op.Handle (HandleOp.LookAgain f)) → (closed going completed : Bool) →
      (task s.world f).closed ≡ closed → moves.is_going (task s.world f) ≡ going → (task s.world f).completed ≡ completed →
      Goes s (Go p h) (look_again_by (moves.look_again_by closed going completed (task s.world f)).owed.answer p s.world f
      (moves.look_again_by closed going completed (task s.world f)))
  looks-again s h e o true true completed a b c = had (λ ts. inl (record {
    looks = record { hint = h; is = refl; possible = e; next = o };
    none = unsettled (task s.world f) true true completed a b c refl;
  }))
  looks-again s h e o true false completed a b c = on-with s (Go p h) _ (answers-closed _)
  looks-again s h e o false going false a b c = had (λ ts. inl (record {
    looks = record { hint = h; is = refl; possible = e; next = o };
    none = unsettled (task s.world f) false going false a b c refl;
  }))
  looks-again s h e o false going true a b c = on-with s (Go p h) _ (answers-output _ (task s.world f).awaiter)

  acts-at : (s : Machine) (h : Hint) (c : Op) → refusal s (Go p h) ≡ None → top (stack s p) ≡ Some c →
      is_end c ≡ false → Control here c → Goes s (Go p h) (act p h c s.world)
  acts-at s h (Op.Handle (HandleOp.Look g a)) e o n k =
      subst (λ (x : ℕ). Goes s (Go p h) (act p h (Op.Handle (HandleOp.Look x a)) s.world)) (sym k)
      (on-with s (Go p h) _ (looks (task s.world f).closed (moves.is_going (task s.world f)) (task s.world f).completed
      (task s.world f) s.world a))
  acts-at s h (Op.Handle (HandleOp.CopyAwaiter g a)) e o n k =
      subst (λ (x : ℕ). Goes s (Go p h) (act p h (Op.Handle (HandleOp.CopyAwaiter x a)) s.world)) (sym k)
      (on-with s (Go p h) _ (copies (is_copy_refused h s.world a) s.world a))
  acts-at s h (Op.Handle (HandleOp.Register g a j)) e o n k =
      subst (λ (x : ℕ). Goes s (Go p h) (act p h (Op.Handle (HandleOp.Register x a j)) s.world)) (sym k)
      (on-with s (Go p h) _ (registers (task s.world f).notifying s.world a j))
  acts-at s h (Op.Handle (HandleOp.EndRegister g a j)) e o n k =
      subst (λ (x : ℕ). Goes s (Go p h) (act p h (Op.Handle (HandleOp.EndRegister x a j)) s.world)) (sym k)
      (on-with s (Go p h) _ (end-registers (task s.world f).notifying s.world a j))
  acts-at s h (Op.Handle (HandleOp.LookAgain g)) e o n k =
      subst (λ (x : ℕ). Goes s (Go p h) (act p h (Op.Handle (HandleOp.LookAgain x)) s.world)) (sym k)
      (looks-again s h e (o ∙ ap (λ (x : ℕ). Some (Op.Handle (HandleOp.LookAgain x))) k) (task s.world f).closed
      (moves.is_going (task s.world f)) (task s.world f).completed refl refl refl)
  acts-at s h (Op.End a held) e o n k = absurd (cc)
  acts-at s h _ e o n k = absurd k

  reacts-at : (s : Machine) (u : UserEnd) (c : Op) → accepts c u ≡ true → Control here c → Goes s (Answer p u) (react p c u s.world)
  reacts-at s u (Op.Handle o) v k = absurd (cc)
  reacts-at s u (Op.End a held) v k = absurd (cc)
  reacts-at s u _ v k = absurd k

  acts : (i : At) (s : Machine) (h : Hint) (c : Op) → refusal s (Go p h) ≡ None → top (stack s p) ≡ Some c →
      waits c ≡ false → is_end c ≡ false → Control i c → Next p old At Control Has i s (Go p h) (act p h c s.world)
  acts here s h c e o w n k = acts-at s h c e o n k

  reacts : (i : At) (s : Machine) (u : UserEnd) (c : Op) → accepts c u ≡ true → Control i c →
      Next p old At Control Has i s (Answer p u) (react p c u s.world)
  reacts here s u c v k = reacts-at s u c v k

  follows : Follows p old At Control Has
  follows = record { later = λ i s u ts z. inr z; acts = acts; reacts = reacts; ends = λ i a held k. k }

  handle-sought : (ts : List Step) (s : Machine) → Reached s → Lands p old At Control here (own_part p s) →
      IsAnswered Reply.Pending p old ts s → HandleFoundNone f p ts s
  handle-sought ts s y (on h) a = seek p old At Control Has follows ts s y here h a
  handle-sought ts s y (over r held v k w l) a = absurd (omega (arith, answered-long Reply.Pending p old ts s a, l))

sought : (s : Machine) → Reached s → HandlesLookFirst s
sought s y p f b e ts a =
    handle-sought p f (stack s p) ts (stepped s (step s (Begin p (Call.PollHandle f b))))
    (reached-on s (Begin p (Call.PollHandle f b) ∷ []) y)
    (begins-so p At (Control p f (stack s p)) here s (Call.PollHandle f b) e
    (record { control = _; side = []; is = refl; kind = refl; light = refl })) a

pub handles-look-first : (limit : ℕ) (kind : Kind) (parties : ℕ) (steps : List Step) →
    HandlesLookFirst (run steps (start limit kind parties))
handles-look-first limit kind parties steps = sought (run steps (start limit kind parties))
    (record { limit = limit; kind = kind; parties = parties; steps = steps; is = refl })
