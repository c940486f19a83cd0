-- For calls_do_what_they_say.
-- Calls do what they say: each thing that is done for a call does its part of what that promises.
use Rattle.std.proofs.Common.{◌≡◌, ◌≢◌, ◌⊎◌, ◌∙◌, ℕ, ◌+◌, ◌≤◌, List, [], ◌∷◌, ◌++◌, length, Bool, true, false, ◌&&◌}
use Rattle.std.proofs.Common.{append_assoc, eqb, not, inl, inr, ⊎_elim, refl, sym, ap, subst, arith}
use Rattle.task_moves.specs.Moves.{is_over}
use Rattle.executor_model.proofs.Types.{Plain, Urgent, Mark, Move, State, Call, Answer, Event, ClosingOp, Op, TableOp, UserOp}
use Rattle.executor_model.specs.Acts.{is_last_waker, told_of as told_move, closing_ops, drain_by, drop_next_by, wake}
use Rattle.executor_model.specs.World.{queue_of, World, among, log_if, task}
use Rattle.executor_model.specs.CallsMean.{HasCancelled, HasDetached, HasTaken, HasWoken, MayBeOver}
use Rattle.executor_model.specs.Steps.{Machine, accepts, react}
use Rattle.executor_model.specs.Trace.{Trace, has, is_cancelled, is_detached, is_drop_ended, is_dropped, is_poll, is_woken}
use Rattle.executor_model.specs.{Acts.wake_next_by, Carried.owed_ops, Doing.act, Weights.same, Weights.weigh}
use Rattle.executor_model.proofs.Promises.CallPromises.{Turns, WakeTurns, cancels_of, closes_of, made_of, misfit, ready_of}
use Rattle.executor_model.proofs.Promises.CallPromises.{taking_of, wakes_of, yes_of, told_of}
use Rattle.executor_model.proofs.Promises.CallAnswers.{poll-turns, spawn-turns, tick-turn, yes-turn}
use Rattle.executor_model.proofs.Promises.CallTold.{added, itself, over-told}
use Rattle.executor_model.proofs.Steps.Lists.{same_cases, weigh-append}
use Rattle.executor_model.proofs.{Types.Hint, Types.UserEnd, Promises.CallTells.tell-turns, Quiet.Calls.is_end}
use Rattle.executor_model.proofs.{OneFuture.Extras.detaches_of, Table.LeavingExecutions.Placed, Steps.Tests.or-left}
use Rattle.task_moves.specs.Moves as moves

-- a cancel

cancels : (b : Bool) (p : ℕ) (w : World) (f g : ℕ) (more : Trace) (now : Trace) → is_over (task w g) ≡ b →
    now ≡ (log_if (not (is_over (task w g))) w (Event.Cancelled p g)).trace → now ≡ w.trace ++ more → f ≡ g →
    (is_over (task w f) ≡ true → MayBeOver f w.trace) → HasCancelled f more w.trace
cancels true p w f g more now z e t i k = inr (k (ap (λ (x : ℕ). is_over (task w x)) i ∙ z))
cancels false p w f g more now z e t i k = inl (subst (λ (x : Trace). has (is_cancelled f) x ≡ true)
    (added w.trace more (Event.Cancelled p g ∷ []) now t
    (e ∙ ap (λ (b : Bool). (log_if (not b) w (Event.Cancelled p g)).trace) z))
    (or-left (eqb f g) false (subst (λ (x : ℕ). eqb f x ≡ true) i (itself f))))

cancel-turn : (p : ℕ) (h : Hint) (o : Op) (w : World) (f : ℕ) (more : Trace) →
    (is_over (task w f) ≡ true → MayBeOver f w.trace) → (act p h o w).world.trace ≡ w.trace ++ more →
    (cancels_of f o ≤ weigh (cancels_of f) (act p h o w).next) ⊎ HasCancelled f more w.trace
cancel-turn p h (Op.Move Move.Cancel g) w f more k t = ⊎_elim
    (λ (x : (same f g ≡ 1) × (eqb f g ≡ true) × (f ≡ g)).
    inr (cancels (is_over (task w g)) p w f g more _ refl refl t x.2 k))
    (λ (x : (same f g ≡ 0) × (eqb f g ≡ false) × (f ≢ g)). inl (omega (arith, x.0)))
    (same_cases f g)
cancel-turn p h _ w f more k t = inl (omega arith)

-- a detach

-- an output that is there goes first, and then the handle
stays : (b : Bool) (f g : ℕ) (there : Bool) (s : State) → (s.completed && not s.closed) ≡ true →
    same f g ≤ weigh (detaches_of f) (owed_ops there g (moves.detach s).owed)
stays b f g there s z =
    let e : weigh (detaches_of f) (owed_ops there g (moves.detach s).owed) ≡ 0 + (same f g + 0) =
    ap (λ (x : Bool). weigh (detaches_of f)
    (owed_ops there g (moves.detach_by x (eqb s.references 0 && not s.closed) s).owed)) z in
    omega (arith, e)

goes : (p : ℕ) (w : World) (f g : ℕ) (more now : Trace) → ((task w g).completed && not (task w g).closed) ≡ false →
    now ≡ (told_move (is_last_waker Move.Detach (task w g)) (not ((task w g).completed && not (task w g).closed)) Move.Detach p
    w g).trace →
    now ≡ w.trace ++ more → eqb f g ≡ true → HasDetached f more
goes p w f g more now z e t i = by (is_last_waker Move.Detach (task w g))
    (e ∙ ap (λ (b : Bool). (told_move (is_last_waker Move.Detach (task w g)) (not b) Move.Detach p w g).trace) z)
  where
    by : (l : Bool) → now ≡ (told_move l true Move.Detach p w g).trace → has (is_detached f) more ≡ true
    by true q = subst (λ (x : Trace). has (is_detached f) x ≡ true)
        (added w.trace more (Event.Detached p g ∷ Event.LastWaker p g ∷ []) now t
        (q ∙ append_assoc w.trace (Event.Detached p g ∷ []) (Event.LastWaker p g ∷ []))) (or-left (eqb f g) _ i)
    by false q = subst (λ (x : Trace). has (is_detached f) x ≡ true)
        (added w.trace more (Event.Detached p g ∷ []) now t q) (or-left (eqb f g) _ i)

detach-turn : (p : ℕ) (h : Hint) (o : Op) (w : World) (f : ℕ) (more : Trace) →
    (act p h o w).world.trace ≡ w.trace ++ more →
    (detaches_of f o ≤ weigh (detaches_of f) (act p h o w).next) ⊎ HasDetached f more
detach-turn p h (Op.Move Move.Detach g) w f more t = ⊎_elim
    (λ (x : (same f g ≡ 1) × (eqb f g ≡ true) × (f ≡ g)).
    by ((task w g).completed && not (task w g).closed) refl x.1)
    (λ (x : (same f g ≡ 0) × (eqb f g ≡ false) × (f ≢ g)). inl (omega (arith, x.0)))
    (same_cases f g)
  where
    by : (b : Bool) → ((task w g).completed && not (task w g).closed) ≡ b → eqb f g ≡ true →
        (same f g ≤ weigh (detaches_of f) (act p h (Op.Move Move.Detach g) w).next) ⊎ HasDetached f more
    by true z i = inl (stays true f g _ (task w g) z)
    by false z i = inr (goes p w f g more _ z refl t i)
detach-turn p h _ w f more t = inl (omega arith)

-- what a thing that is done for such a call finds there

abbrev pub Finds : World → Op → Type 0
Finds w (Op.Closing ClosingOp.DropNext) = 1 ≤ length w.leaving
Finds w (Op.Closing ClosingOp.WakeNext) = 1 ≤ length w.waking
Finds w (Op.Move Move.TakeUp f) = (task w f).closed ≡ true → among f w.table ≡ true
Finds w _ = Unit {0}

-- a task that isn't closed is polled, and a closed one's future dropped
takes-up : (b : Bool) (p : ℕ) (h : Hint) (w : World) (f : ℕ) (more : Trace) → (task w f).closed ≡ b →
    (b ≡ true → among f w.table ≡ true) → (act p h (Op.Move Move.TakeUp f) w).world.trace ≡ w.trace ++ more →
    (1 ≤ weigh taking_of (act p h (Op.Move Move.TakeUp f) w).next) ⊎ HasTaken more
takes-up true p h w f more z k t =
    let there : among f w.table ≡ true = k refl in
    inl (subst (λ (n : ℕ). 1 ≤ n) (sym (closed-next p h w f z there)) (omega arith))
  where
    closed-next : (p : ℕ) (h : Hint) (w : World) (f : ℕ) → (task w f).closed ≡ true → among f w.table ≡ true →
        weigh taking_of (act p h (Op.Move Move.TakeUp f) w).next ≡ 1
    closed-next p h w f z k = rw z (rw k refl)
takes-up false p h w f more z k t = inr (
  f,
  inl (subst (λ (x : Trace). has (is_poll f) x ≡ true)
      (added w.trace more (Event.PollBegun p f ∷ []) _ t (ap (λ (b : Bool). (log_if (not b) w (Event.PollBegun p f)).trace) z))
      (or-left (eqb f f) false (itself f))),
)

taking-turn : (p : ℕ) (h : Hint) (o : Op) (w : World) (more : Trace) → Finds w o →
    (act p h o w).world.trace ≡ w.trace ++ more → (taking_of o ≤ weigh taking_of (act p h o w).next) ⊎ HasTaken more
taking-turn p h (Op.Move Move.TakeUp f) w more k t = takes-up (task w f).closed p h w f more refl k t
taking-turn p h (Op.Table (TableOp.TakeToDrop f)) w more k t = inl (omega arith)
taking-turn p h (Op.User (UserOp.BeginDrop f)) w more k t = inr (
  f,
  inr (subst (λ (x : Trace). has (is_dropped f) x ≡ true)
      (added w.trace more (Event.Dropped p f ∷ []) _ t refl) (or-left (eqb f f) false (itself f))),
)
taking-turn p h _ w more k t = inl (omega arith)

-- a wake

woke : (b : Bool) (p : ℕ) (w : World) (g : ℕ) (more now : Trace) → is_over (task w g) ≡ b →
    now ≡ (log_if (not (is_over (task w g))) w (Event.Woken p g)).trace → now ≡ w.trace ++ more →
    (is_over (task w g) ≡ true → MayBeOver g w.trace) → HasWoken more w.trace
woke true p w g more now z e t k = (g, inr (k z))
woke false p w g more now z e t k = (
  g,
  inl (subst (λ (x : Trace). has (is_woken g) x ≡ true)
      (added w.trace more (Event.Woken p g ∷ []) now t
      (e ∙ ap (λ (b : Bool). (log_if (not b) w (Event.Woken p g)).trace) z)) (or-left (eqb g g) false (itself g))),
)

wake-turn : (p : ℕ) (h : Hint) (o : Op) (w : World) (more : Trace) →
    ((g : ℕ) → is_over (task w g) ≡ true → MayBeOver g w.trace) → (act p h o w).world.trace ≡ w.trace ++ more →
    WakeTurns w.trace more o (act p h o w).next
wake-turn p h (Op.Move Move.Wake g) w more k t = inr (woke (is_over (task w g)) p w g more _ refl refl t (k g))
wake-turn p h (Op.Move Move.WakeByReference g) w more k t =
    inr (woke (is_over (task w g)) p w g more _ refl refl t (k g))
wake-turn p h _ w more k t = inl (omega arith)

-- the drop of the executor

one-closes : (ls ws : List ℕ) → weigh closes_of (closing_ops ls ws) ≡ 1
one-closes [] [] = refl
one-closes [] (x ∷ ws) = refl
one-closes (x ∷ ls) ws = refl

drops-on : (q : List ℕ) (p : ℕ) (w : World) → 1 ≤ length q → 1 ≤ weigh closes_of (drop_next_by p w q).next
drops-on [] p w k = absurd (omega (arith, k))
drops-on (f ∷ rest) p w k = omega (arith, one-closes rest (w.waking ++ f ∷ []))

wakes-on : (q : List ℕ) (p : ℕ) (w : World) → 1 ≤ length q → 1 ≤ weigh closes_of (wake_next_by p w q).next
wakes-on [] p w k = absurd (omega (arith, k))
wakes-on (f ∷ rest) p w k =
    let v : World = record w { waking = rest } in
    omega (arith, weigh-append closes_of (wake p v f).next (closing_ops [] rest), one-closes [] rest)

drains-on : (mark : Mark) (q : List ℕ) (p : ℕ) (w : World) (more : Trace) → (drain_by p w mark q).world.trace ≡ w.trace ++ more →
    (1 ≤ weigh closes_of (drain_by p w mark q).next) ⊎ (has is_drop_ended more ≡ true)
drains-on Urgent [] p w more t = inl (omega arith)
drains-on Plain [] p w more t = inr (subst (λ (x : Trace). has is_drop_ended x ≡ true)
    (added w.trace more (Event.DropEnded p ∷ []) _ t refl) refl)
drains-on mark (f ∷ rest) p w more t = inl (omega arith)

close-turn : (p : ℕ) (h : Hint) (o : Op) (w : World) (more : Trace) → Finds w o →
    (act p h o w).world.trace ≡ w.trace ++ more →
    (closes_of o ≤ weigh closes_of (act p h o w).next) ⊎ (has is_drop_ended more ≡ true)
close-turn p h (Op.Closing ClosingOp.TakeOut) w more k t = inl (omega (arith, one-closes w.table w.waking))
close-turn p h (Op.Closing ClosingOp.DropNext) w more k t = inl (drops-on w.leaving p w k)
close-turn p h (Op.Closing ClosingOp.WakeNext) w more k t = inl (wakes-on w.waking p w k)
close-turn p h (Op.Closing (ClosingOp.Close Urgent)) w more k t = inl (omega arith)
close-turn p h (Op.Closing (ClosingOp.Close Plain)) w more k t = inl (omega arith)
close-turn p h (Op.Closing (ClosingOp.Drain mark)) w more k t = drains-on mark (queue_of w mark).items p w more t
close-turn p h (Op.Closing ClosingOp.LeakOut) w more k t = inl (omega arith)
close-turn p h (Op.Closing ClosingOp.LeakNext) w more k t = inl (omega arith)
close-turn p h _ w more k t = inl (omega arith)

pub turns-act : (s : Machine) (p : ℕ) (h : Hint) (o : Op) (c : Call) (more : Trace) → Placed s → Finds s.world o →
    is_end o ≡ false →
    misfit c o ≡ 0 → (act p h o s.world).world.trace ≡ s.world.trace ++ more →
    Turns c s.world.trace more o (act p h o s.world).next
turns-act s p h o (Call.Spawn mark) more k x n e g = spawn-turns mark p h o s.world more n e g
turns-act s p h o Call.TryTick more k x n e g =
    (yes-turn p h o s.world n e, taking-turn p h o s.world more x g)
turns-act s p h o (Call.PollTick t b) more k x n e g =
    (tick-turn p h o t b s.world n e, taking-turn p h o s.world more x g)
turns-act s p h o (Call.Wake i) more k x n e g = wake-turn p h o s.world more (λ f. over-told s f k) g
turns-act s p h o (Call.WakeByRef i) more k x n e g = wake-turn p h o s.world more (λ f. over-told s f k) g
turns-act s p h o Call.WakeSelf more k x n e g = wake-turn p h o s.world more (λ f. over-told s f k) g
turns-act s p h o Call.DropExecutor more k x n e g = close-turn p h o s.world more x g
turns-act s p h o (Call.PollHandle f b) more k x n e g =
    (poll-turns p h o s.world f b more n e g, tell-turns p h o s.world f b more n e g)
turns-act s p h o (Call.Cancel f) more k x n e g = cancel-turn p h o s.world f more (over-told s f k) g
turns-act s p h o (Call.Detach f) more k x n e g = detach-turn p h o s.world f more g
turns-act s p h o (Call.DropHandle f) more k x n e g =
    (cancel-turn p h o s.world f more (over-told s f k) g, detach-turn p h o s.world f more g)
turns-act s p h o _ more k x n e g = tt

-- user code ends

quiet-turns : (c : Call) (past more : Trace) (o : Op) (next : List Op) → weigh made_of next ≡ 0 →
    weigh ready_of next ≡ 0 → weigh yes_of next ≡ 0 → weigh told_of next ≡ 0 → taking_of o ≡ 0 → wakes_of o ≡ 0 → closes_of o ≡ 0 →
    ((f : ℕ) → cancels_of f o ≡ 0) → ((f : ℕ) → detaches_of f o ≡ 0) → Turns c past more o next
quiet-turns (Call.Spawn mark) past more o next a b y d t w c x z = inl a
quiet-turns Call.TryTick past more o next a b y d t w c x z = (inl y, inl (omega (arith, t)))
quiet-turns (Call.PollTick i by) past more o next a b y d t w c x z = (inl b, inl (omega (arith, t)))
quiet-turns (Call.Wake k) past more o next a b y d t w c x z = inl (omega (arith, w))
quiet-turns (Call.WakeByRef k) past more o next a b y d t w c x z = inl (omega (arith, w))
quiet-turns Call.WakeSelf past more o next a b y d t w c x z = inl (omega (arith, w))
quiet-turns Call.DropExecutor past more o next a b y d t w c x z = inl (omega (arith, c))
quiet-turns (Call.PollHandle f by) past more o next a b y d t w c x z = (inl b, inl (omega (arith, d)))
quiet-turns (Call.Cancel f) past more o next a b y d t w c x z = inl (omega (arith, x f))
quiet-turns (Call.Detach f) past more o next a b y d t w c x z = inl (omega (arith, z f))
quiet-turns (Call.DropHandle f) past more o next a b y d t w c x z =
    (inl (omega (arith, x f)), inl (omega (arith, z f)))
quiet-turns _ past more o next a b y d t w c x z = tt

pub turns-react : (p : ℕ) (o : Op) (u : UserEnd) (w : World) (c : Call) (past more : Trace) → accepts o u ≡ true →
    Turns c past more o (react p o u w).next
turns-react p (Op.User (UserOp.Poll f)) (UserEnd.Polled Answer.Pending) w c past more a =
    quiet-turns c past more _ _ refl refl refl refl refl refl refl (λ f. refl) (λ f. refl)
turns-react p (Op.User (UserOp.Poll f)) (UserEnd.Polled Answer.Ready) w c past more a =
    quiet-turns c past more _ _ refl refl refl refl refl refl refl (λ f. refl) (λ f. refl)
turns-react p (Op.User (UserOp.Drop f)) UserEnd.Done w c past more a =
    quiet-turns c past more _ _ refl refl refl refl refl refl refl (λ f. refl) (λ f. refl)
turns-react p (Op.User (UserOp.DropOutput f)) UserEnd.Done w c past more a =
    quiet-turns c past more _ _ refl refl refl refl refl refl refl (λ f. refl) (λ f. refl)
turns-react p (Op.User (UserOp.CallOutside x)) UserEnd.Done w c past more a =
    quiet-turns c past more _ _ refl refl refl refl refl refl refl (λ f. refl) (λ f. refl)
turns-react p (Op.User (UserOp.PollOwn x)) (UserEnd.Polled Answer.Pending) w c past more a =
    quiet-turns c past more _ _ refl refl refl refl refl refl refl (λ f. refl) (λ f. refl)
turns-react p (Op.User (UserOp.PollOwn x)) (UserEnd.Polled Answer.Ready) w c past more a =
    quiet-turns c past more _ _ refl refl refl refl refl refl refl (λ f. refl) (λ f. refl)
turns-react p (Op.User (UserOp.DropOwn r)) UserEnd.Done w c past more a =
    quiet-turns c past more _ _ refl refl refl refl refl refl refl (λ f. refl) (λ f. refl)
turns-react p _ _ w c past more a = absurd (cc)
