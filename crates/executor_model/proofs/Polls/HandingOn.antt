-- For wakes_are_handed_on.
-- A wake that marks a task hands on one Runnable, or the end of the poll does.
use Rattle.std.proofs.Common.{◌≡◌, ℕ, List, [], ◌∷◌, ◌++◌, Bool, true, false, ◌||◌, cond, refl, ◌∙◌, subst, arith}
use Rattle.std.specs.Prelude.{Some}
use Rattle.task_moves.{specs.declared.moves.owed.Move.TheVariants.Release, specs.Moves.is_over, specs.Moves.is_last}
use Rattle.executor_model.proofs.Types.{State, Op, ClosingOp, Move, Reply, Event, Hold, Polled, RunOp, RunPoll, SleeperOp}
use Rattle.executor_model.proofs.Types.{Waker, WakerOp, Task, Outside, Hint}
use Rattle.executor_model.specs.Acts.{call_waker, wake_next_by, leak_next_by}
use Rattle.executor_model.specs.HandingOn.{handed_on, HandsOn, IsFirst, IsIdle, IsOnItsWay, IsWakeOf, IsWakerOf}
use Rattle.executor_model.specs.{World.World, World.log, World.task, ActsOfRuns.call_by_reference, ActsOfRuns.wake_own}
use Rattle.executor_model.specs.{ActsOfSleepers.polled_as, Carried.owed_ops, Weights.same, Weights.weigh, Sound.Sound}
use Rattle.executor_model.specs.{Sound.Pend, Sound.pend, Sound.tokens, Steps.Machine, Good.Good, Rows.appends_of}
use Rattle.executor_model.proofs.Steps.Lists.{same_is, weigh-append, weigh-closing, weigh-leaking}
use Rattle.task_moves.specs.Moves as moves

one : (f : ℕ) → same f f ≡ 1
one f = grind (arith, same_is)

-- over or scheduled, or not, and running
marks : (x y b : Bool) (f : ℕ) (s : State) → x ≡ false →
    weigh (appends_of f) (owed_ops b f (moves.wake_by_reference_by x y s).owed) ≡ cond y 0 1
marks true y b f s e = absurd (cc)
marks false true b f s e = refl
marks false false b f s e = omega (arith, one f)

none : (x y b : Bool) (f : ℕ) (s : State) → x ≡ true →
    weigh (appends_of f) (owed_ops b f (moves.wake_by_reference_by x y s).owed) ≡ 0
none true y b f s e = refl
none false y b f s e = absurd (cc)

marks-value : (x y b : Bool) (f : ℕ) (s : State) → x ≡ false →
    weigh (appends_of f) (owed_ops b f (record (moves.wake_by_reference_by x y s).owed { next = Some Release }))
    ≡ cond y 0 1
marks-value true y b f s e = absurd (cc)
marks-value false true b f s e = refl
marks-value false false b f s e = omega (arith, one f)

none-value : (x y b : Bool) (f : ℕ) (s : State) → x ≡ true →
    weigh (appends_of f) (owed_ops b f (record (moves.wake_by_reference_by x y s).owed { next = Some Release })) ≡ 0
none-value true y b f s e = refl
none-value false y b f s e = absurd (cc)

ends : (x y z b : Bool) (f : ℕ) (s : State) → x ≡ false → y ≡ true →
    weigh (appends_of f) (owed_ops b f (moves.end_pending_by x y z s).owed) ≡ 1
ends true y z b f s e k = absurd (cc)
ends false true z b f s e k = omega (arith, one f)
ends false false z b f s e k = absurd (cc)

either : (a b : Bool) → a ≡ false → b ≡ false → (a || b) ≡ false
either true b e k = absurd (cc)
either false b e k = k

or-left : (a b : Bool) → a ≡ true → (a || b) ≡ true
or-left true b e = refl
or-left false b e = absurd (cc)

or-right : (a b : Bool) → b ≡ true → (a || b) ≡ true
or-right true b e = refl
or-right false b e = e

-- each wake hands on as many Runnables of f as the move of a waker that stays and that of one that goes do
module _ (f p : ℕ) (h : Hint) (w : World) (n : ℕ) (stays : (b : Bool) →
    weigh (appends_of f) (owed_ops b f (moves.wake_by_reference (task w f)).owed) ≡ n)
    (goes : (b : Bool) → weigh (appends_of f) (owed_ops b f (moves.wake (task w f)).owed) ≡ n) where
  closing-wake : (ws : List ℕ) → IsFirst f ws → weigh (appends_of f) (wake_next_by p w ws).next ≡ n
  closing-wake [] e = let no : true ≡ false = e in absurd (cc)
  closing-wake (g ∷ rest) e = subst (λ (x : ℕ). weigh (appends_of f) (wake_next_by p w (x ∷ rest)).next ≡ n) e
      (weigh-closing (appends_of f) _ rest refl refl ∙ goes _)

  leak-wake : (b : Bool) (ws : List ℕ) → b ≡ false → IsFirst f ws → weigh (appends_of f) (leak_next_by b p w ws).next ≡ n
  leak-wake true ws b e = absurd (cc)
  leak-wake false [] b e = let no : true ≡ false = e in absurd (cc)
  leak-wake false (g ∷ rest) b e =
      subst (λ (x : ℕ). weigh (appends_of f) (leak_next_by false p w (x ∷ rest)).next ≡ n) e
      (weigh-leaking (appends_of f) _ rest refl ∙ goes _)

  called-wake : (q : Polled) (k : ℕ) (a : Waker) → IsWakerOf f a →
      weigh (appends_of f) (call_waker p w q a k).next ≡ n
  called-wake q k (Task g) e =
      subst (λ (x : ℕ). weigh (appends_of f) (call_waker p w q (Task x) k).next ≡ n) e (goes _)
  called-wake q k (Outside x) e = let no : true ≡ false = e in absurd (cc)

  -- a run's own waker stays
  own-wake : (x : RunPoll) → IsWakerOf f x.waker → weigh (appends_of f) (wake_own p w x).next ≡ n
  own-wake x = by x.waker
    where
      v : World
      v = log w (Event.WakerCalled p (Polled.Run x.run) x.poll x.waker)

      by : (a : Waker) → IsWakerOf f a →
          weigh (appends_of f) ((call_by_reference p v a).next ++ Op.End Reply.Pending (Hold.Run x.run) ∷ []) ≡ n
      by (Task g) e =
          let z : weigh (appends_of f) (call_by_reference p v (Task g)).next ≡ n =
          subst (λ (y : ℕ). weigh (appends_of f) (call_by_reference p v (Task y)).next ≡ n) e (stays _) in
          omega (
            arith,
            z,
            weigh-append (appends_of f) (call_by_reference p v (Task g)).next
                (Op.End Reply.Pending (Hold.Run x.run) ∷ []),
          )
      by (Outside y) e = let no : true ≡ false = e in absurd (cc)

  each-wake : (o : Op) → IsWakeOf f w o → handed_on f o p h w ≡ n
  each-wake (Op.Move Move.WakeByReference g) e =
      subst (λ (x : ℕ). handed_on f (Op.Move Move.WakeByReference x) p h w ≡ n) e (stays _)
  each-wake (Op.Move Move.Wake g) e = subst (λ (x : ℕ). handed_on f (Op.Move Move.Wake x) p h w ≡ n) e (goes _)
  each-wake (Op.Waker (WakerOp.CallAwaiter awaited a k)) e = called-wake (Polled.Handle awaited) k a e
  each-wake (Op.Sleeper (SleeperOp.CallSleeper s)) e = called-wake (polled_as s.who) s.poll s.waker e
  each-wake (Op.Run (RunOp.WakeOwn x)) e = own-wake x e
  each-wake (Op.Closing ClosingOp.WakeNext) e = closing-wake w.waking e
  each-wake (Op.Closing ClosingOp.LeakNext) e = leak-wake w.gone w.waking e.0 e.1
  each-wake _ e = let no : true ≡ false = e in absurd (cc)

none-handed : (w : World) (f p : ℕ) (h : Hint) → (is_over (task w f) || (task w f).scheduled) ≡ true → (o : Op) →
    IsWakeOf f w o → handed_on f o p h w ≡ 0
none-handed w f p h s = each-wake f p h w 0
    (λ b. none (is_over (task w f) || (task w f).scheduled) (task w f).running b f (task w f) s)
    (λ b. none-value (is_over (task w f) || (task w f).scheduled) (task w f).running b f (task w f) s)

pub hands-on : (w : World) (f p : ℕ) (h : Hint) → HandsOn w f p h
hands-on w f p h = record {
  marks = λ o e live idle. each-wake f p h w _
      (λ b. marks (is_over (task w f) || (task w f).scheduled) (task w f).running b f (task w f) (either _ _ live idle))
      (λ b. marks-value (is_over (task w f) || (task w f).scheduled) (task w f).running b f (task w f)
      (either _ _ live idle)) o e;
  at_the_end = λ c s. ends (task w f).closed (task w f).scheduled (is_last (task w f)) _ f (task w f) c s;
  none_marked = λ o e s. none-handed w f p h (or-right _ _ s) o e;
  none_over = λ o e s. none-handed w f p h (or-left _ _ s) o e;
}

one-there : (w : World) (f : ℕ) (p : Pend) → Sound w f p → (task w f).scheduled ≡ true → tokens w f p ≡ 1
one-there w f p h s = omega (arith, h.owed s, h.one)

none-there : (w : World) (f : ℕ) (p : Pend) → Sound w f p → IsIdle w f → tokens w f p ≡ 0
none-there w f p h i = let b = h.busy in let x = i.unscheduled in let y = i.stopped in let z = i.incomplete in
    let u = i.unclosed in grind arith

pub on-its-way : (s : Machine) (f : ℕ) → Good s → IsOnItsWay s f
on-its-way s f good =
    record {
      marked = one-there s.world f (pend f s.parties) (good.sound f);
      idle = none-there s.world f (pend f s.parties) (good.sound f);
    }
