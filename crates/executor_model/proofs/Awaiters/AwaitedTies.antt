-- For awaiters_are_kept.
-- What a poll of the handle has itself to notify stands right before the end of that poll, which has an answer by then.
use Rattle.std.proofs.Common.{◌≡◌, ◌≢◌, ◌⊎◌, ℕ, suc, ◌+◌, ◌<◌, ◌≤◌, List, [], ◌∷◌, ◌++◌, length, set, get_or, Bool, true, false}
use Rattle.std.proofs.Common.{eqb, refl, sym, subst, inl, inr, ⊎_elim, arith, get_or-set_same, get_or-set_other}
use Rattle.std.specs.Prelude.{Option, reverse}
use Rattle.executor_model.proofs.Types.{Plain, Urgent, Mark, Reply, Event, Call, Hold, Waker, Op, ClosingOp, HandleOp, Hint}
use Rattle.executor_model.specs.Acts.{look_by, look_again_by, notify_by, closing_ops, drop_next_by, wake, wake_next_by}
use Rattle.executor_model.specs.World.{queue_of, World, Done, done, task, log}
use Rattle.executor_model.specs.Steps.{Machine, stack, begun, is_drop}
use Rattle.executor_model.specs.{Carried.awaiter_ops, Acts.drain_by, Doing.act, Weights.same, Weights.weigh, Weights.weigh_all}
use Rattle.executor_model.proofs.Steps.Lists.{same_cases, weigh-append, weigh-reverse}
use Rattle.executor_model.proofs.Awaiters.AwaitedLists.{rough_of, is_special, plain-act, plain-wake, plain-react, plain-begun}
use Rattle.executor_model.proofs.Steps.Ways.Way.{acted, reacted, called}
use Rattle.executor_model.proofs.{Steps.Lift.unsettled, Awaiters.Awaited.mine_of, Awaiters.Awaited.over_of, Steps.Ways.Way}
use Rattle.task_moves.specs.Moves as moves

abbrev pub Tied : ℕ → ℕ → List Op → Type 0
Tied g below [] = Unit {0}
Tied g below (o ∷ os) = (mine_of g o ≤ below) × Tied g (over_of g o) os

pub record Ties (g : ℕ) (old next : List Op) : Type 0 where
  pub keeps : (below : ℕ) → Tied g below (reverse old) → Tied g below (reverse next)

tied-light : (g below : ℕ) (os : List Op) → weigh (mine_of g) os ≡ 0 → Tied g below os
tied-light g below [] z = tt
tied-light g below (o ∷ os) z = (omega (arith, z), tied-light g (over_of g o) os (omega (arith, z)))

ties-light : (g : ℕ) (old next : List Op) → weigh (mine_of g) next ≡ 0 → Ties g old next
ties-light g old next z =
    record { keeps = λ below h. tied-light g below (reverse next) (omega (arith, weigh-reverse (mine_of g) next, z)) }

none-mine : (g : ℕ) (o : Op) → rough_of o ≡ 0 → mine_of g o ≡ 0
none-mine g (Op.Handle (HandleOp.Notify f true)) z = absurd (omega (arith, z))
none-mine g (Op.Handle (HandleOp.EndNotify f true)) z = absurd (omega (arith, z))
none-mine g _ z = refl

pub none-mine-all : (g : ℕ) (os : List Op) → weigh rough_of os ≡ 0 → weigh (mine_of g) os ≡ 0
none-mine-all g [] z = refl
none-mine-all g (o ∷ os) z = omega (arith, none-mine g o (omega (arith, z)), none-mine-all g os (omega (arith, z)))

-- the poll that is answered and notifies
ties-ready : (g f : ℕ) (old : List Op) →
    Ties g old (Op.Handle (HandleOp.Notify f true) ∷ Op.End Reply.Ready (Hold.Handle f) ∷ [])
ties-ready g f old = record { keeps = λ below h. (omega arith, (omega arith, tt)) }

ties-cancelled : (g f : ℕ) (old : List Op) →
    Ties g old (Op.Handle (HandleOp.Notify f true) ∷ Op.End Reply.Cancelled (Hold.Handle f) ∷ [])
ties-cancelled g f old = record { keeps = λ below h. (omega arith, (omega arith, tt)) }

ties-given : (a : Bool) (g f : ℕ) (old : List Op) →
    Ties g old (awaiter_ops f (moves.notify_other_if a) ++ Op.End Reply.Ready (Hold.Handle f) ∷ [])
ties-given true g f old = ties-ready g f old
ties-given false g f old = ties-light g old _ refl

ties-look : (x k c : Bool) (g p : ℕ) (w : World) (f : ℕ) (a : Waker) →
    Ties g (Op.Handle (HandleOp.Look f a) ∷ [])
    (look_by (moves.poll_by x k c (task w f)).owed.answer p w f a (moves.poll_by x k c (task w f))).next
ties-look true true c g p w f a = ties-light g _ _ refl
ties-look true false c g p w f a = ties-cancelled g f _
ties-look false k false g p w f a = ties-light g _ _ refl
ties-look false k true g p w f a = ties-given (task w f).awaiter g f _

ties-again : (x k c : Bool) (g p : ℕ) (w : World) (f : ℕ) →
    Ties g (Op.Handle (HandleOp.LookAgain f) ∷ [])
    (look_again_by (moves.look_again_by x k c (task w f)).owed.answer p w f (moves.look_again_by x k c (task w f))).next
ties-again true true c g p w f = ties-light g _ _ refl
ties-again true false c g p w f = ties-cancelled g f _
ties-again false k false g p w f = ties-light g _ _ refl
ties-again false k true g p w f = ties-given (task w f).awaiter g f _

ties-notify : (b mine : Bool) (g : ℕ) (w : World) (f : ℕ) →
    Ties g (Op.Handle (HandleOp.Notify f mine) ∷ []) (notify_by b w f mine).next
ties-notify true mine g w f = ties-light g _ _ refl
ties-notify false true g w f = record { keeps = λ below h. h }
ties-notify false false g w f = record { keeps = λ below h. h }

none-closing : (g : ℕ) (ls ws : List ℕ) → weigh (mine_of g) (closing_ops ls ws) ≡ 0
none-closing g [] [] = refl
none-closing g [] (x ∷ ws) = refl
none-closing g (x ∷ ls) ws = refl

ties-drop_next : (g p : ℕ) (w : World) (ls : List ℕ) →
    Ties g (Op.Closing ClosingOp.DropNext ∷ []) (drop_next_by p w ls).next
ties-drop_next g p w [] = ties-light g _ _ refl
ties-drop_next g p w (f ∷ rest) = ties-light g _ _ (omega (arith, none-closing g rest (w.waking ++ f ∷ [])))

ties-wake_next : (g p : ℕ) (w : World) (ws : List ℕ) →
    Ties g (Op.Closing ClosingOp.WakeNext ∷ []) (wake_next_by p w ws).next
ties-wake_next g p w [] = ties-light g _ _ refl
ties-wake_next g p w (f ∷ rest) =
    ties-light g _ _
    (omega (
      arith,
      weigh-append (mine_of g) (wake p (record w { waking = rest }) f).next (closing_ops [] rest),
      none-mine-all g _ (plain-wake p (record w { waking = rest }) f),
      none-closing g [] rest,
    ))

ties-drain : (mark : Mark) (g p : ℕ) (w : World) (q : List ℕ) → Ties g (Op.Closing (ClosingOp.Drain mark) ∷ []) (drain_by p w mark q).next
ties-drain Urgent g p w [] = ties-light g _ _ refl
ties-drain Plain g p w [] = ties-light g _ _ refl
ties-drain mark g p w (f ∷ rest) = ties-light g _ _ refl

ties-act : (b : Bool) (g p : ℕ) (h : Hint) (o : Op) (w : World) → is_special o ≡ b → Ties g (o ∷ []) (act p h o w).next
ties-act false g p h o w n = ties-light g _ _ (none-mine-all g _ (plain-act p h o w n))
ties-act true g p h (Op.Handle (HandleOp.Look f a)) w n = ties-look _ _ _ g p w f a
ties-act true g p h (Op.Handle (HandleOp.LookAgain f)) w n = ties-again _ _ _ g p w f
ties-act true g p h (Op.Handle (HandleOp.Notify f mine)) w n = ties-notify _ mine g w f
ties-act true g p h (Op.Closing ClosingOp.TakeOut) w n = ties-light g _ _ (none-closing g w.table w.waking)
ties-act true g p h (Op.Closing ClosingOp.DropNext) w n = ties-drop_next g p w w.leaving
ties-act true g p h (Op.Closing ClosingOp.WakeNext) w n = ties-wake_next g p w w.waking
ties-act true g p h (Op.Closing (ClosingOp.Close Urgent)) w n = ties-light g _ _ refl
ties-act true g p h (Op.Closing (ClosingOp.Close Plain)) w n = ties-light g _ _ refl
ties-act true g p h (Op.Closing (ClosingOp.Drain mark)) w n = ties-drain mark g p w (queue_of w mark).items
ties-act true g p h _ w n = absurd (cc)

ties-begun : (b : Bool) (g p : ℕ) (w : World) (here : Option Waker) (c : Call) → is_drop c ≡ b →
    Ties g [] (begun p w here c).next
ties-begun false g p w here c n = ties-light g _ _ (none-mine-all g _ (plain-begun p w here c n))
ties-begun true g p w here Call.DropExecutor n = ties-light g _ _ refl
ties-begun true g p w here _ n = absurd (cc)

ties-way : (g : ℕ) (s : Machine) (p : ℕ) (old rest : List Op) (d : Done) → Way s p old rest d → Ties g old d.next
ties-way g s p old rest d (acted h o q z) = rw z (rw q (ties-act _ g p h o s.world refl))
ties-way g s p old rest d (reacted o u a q z) =
    rw z (rw q (ties-light g _ _ (none-mine-all g _ (plain-react p o u s.world a))))
ties-way g s p old rest d (called c q r n z) = rw z (rw q (ties-begun _ g p _ _ c refl))

-- the stacks of a machine

abbrev pub AllTied : Machine → Type 0
AllTied s = (g q : ℕ) → Tied g 0 (stack s q)

tied-onto : (g below : ℕ) (rest xs ys : List Op) → ((b : ℕ) → Tied g b xs → Tied g b ys) → Tied g below (rest ++ xs) →
    Tied g below (rest ++ ys)
tied-onto g below [] xs ys k h = k below h
tied-onto g below (o ∷ os) xs ys k h = (h.0, tied-onto g (over_of g o) os xs ys k h.1)

-- the stack of party q after a step of party p
pub stack-then : (ss : List (List Op)) (p q : ℕ) (xs : List Op) → p < length ss →
    ((same q p ≡ 1) × (q ≡ p) × (get_or (set ss p xs) q [] ≡ xs))
    ⊎ ((same q p ≡ 0) × (q ≢ p) × (get_or (set ss p xs) q [] ≡ get_or ss q []))
stack-then ss p q xs l = ⊎_elim
    (λ (x : (same q p ≡ 1) × (eqb q p ≡ true) × (q ≡ p)). inl (x.0, x.2, rw x.2 (get_or-set_same ss p xs [] l)))
    (λ (x : (same q p ≡ 0) × (eqb q p ≡ false) × (q ≢ p)). inr (x.0, x.2, get_or-set_other ss p q xs [] x.2))
    (same_cases q p)

tied-unsettled : (s : Machine) (p : ℕ) (old rest : List Op) (d : Done) → p < length s.parties →
    stack s p ≡ rest ++ reverse old → ((g : ℕ) → Ties g old d.next) → AllTied s → AllTied (unsettled s p rest d)
tied-unsettled s p old rest d l e t h g q = ⊎_elim
    (λ (x : (same q p ≡ 1) × (q ≡ p)
    × (get_or (set s.parties p (rest ++ reverse d.next)) q [] ≡ rest ++ reverse d.next)). subst (Tied g 0) (sym x.2)
    (tied-onto g 0 rest (reverse old) (reverse d.next) (t g).keeps (subst (Tied g 0) e (h g p))))
    (λ (x : (same q p ≡ 0) × (q ≢ p) × (get_or (set s.parties p (rest ++ reverse d.next)) q [] ≡ stack s q)).
    subst (Tied g 0) (sym x.2) (h g q))
    (stack-then s.parties p q (rest ++ reverse d.next) l)

pub tied-moves : (s : Machine) (p : ℕ) (old rest : List Op) (d : Done) → p < length s.parties →
    stack s p ≡ rest ++ reverse old → Way s p old rest d → AllTied s → AllTied (unsettled s p rest d)
tied-moves s p old rest d l e w h = tied-unsettled s p old rest d l e (λ g. ties-way g s p old rest d w) h

pub tied-ends : (s : Machine) (p : ℕ) (a : Reply) (held : Hold) (below : List Op) → p < length s.parties →
    stack s p ≡ below ++ reverse (Op.End a held ∷ []) → AllTied s →
    AllTied (unsettled s p below (done (log s.world (Event.CallEnded p a)) []))
tied-ends s p a held below l e h =
    tied-unsettled s p (Op.End a held ∷ []) below (done (log s.world (Event.CallEnded p a)) []) l e
    (λ g. ties-light g _ _ refl) h

-- so who notifies for the handle does it in a poll that has its answer

tied-weights : (g below : ℕ) (os : List Op) → Tied g below os → weigh (mine_of g) os ≤ below + weigh (over_of g) os
tied-weights g below [] h = omega arith
tied-weights g below (o ∷ os) h = omega (arith, h.0, tied-weights g (over_of g o) os h.1)

pub tied-all : (g : ℕ) (ss : List (List Op)) → ((q : ℕ) → Tied g 0 (get_or ss q [])) →
    weigh_all (mine_of g) ss ≤ weigh_all (over_of g) ss
tied-all g [] h = omega arith
tied-all g (s ∷ ss) h = omega (arith, tied-weights g 0 s (h 0), tied-all g ss (λ q. h (suc q)))
