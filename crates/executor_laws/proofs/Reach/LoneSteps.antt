-- For common_futures_are_in_reach and arrival_order_needs_fewer_ticks.
-- A lone call that searches takes the future that is first in the queue, whatever the user code in it answers.
use Rattle.std.proofs.Common.{◌≡◌, ◌⊎◌, ℕ, List, [], ◌∷◌, ◌++◌, Bool, true, false, ◌||◌, not, eqb, refl, sym}
use Rattle.std.proofs.Common.{ap, ◌∙◌, subst, inl, inr, ⊎_elim, arith, append_assoc}
use Rattle.std.proofs.lemmas.Bool.Decides.{nat_tests}
use Rattle.std.proofs.lemmas.List.{reverse-append, append_cancel_right}
use Rattle.std.proofs.lemmas.List.Folds.{list_any-append}
use Rattle.std.specs.Prelude.{Option, Some, None, reverse}
use Rattle.executor_laws.proofs.Types.{Mark, Reply, Event, Hold, Op, Move, TableOp, UserOp, Hint, Go, WrongAnswer, UserEnd}
use Rattle.executor_model.specs.{declared.step.Step.TheVariants.Answer, Trace.Trace, Trace.has, World.World, World.Done, World.log_if}
use Rattle.executor_model.specs.{World.task, World.among, World.queue_of, Carried.owed_ops, Carried.carried, Steps.Part, Steps.top}
use Rattle.executor_model.specs.{Steps.below_top, Steps.waits, Steps.accepts, Steps.is_locked_out, Steps.unless, Steps.go_refusal}
use Rattle.executor_model.specs.{Steps.answer_refusal, Steps.react, Steps.part, Steps.end_of, Steps.settled, Steps.settled_by, Steps.onto}
use Rattle.executor_model.specs.{Steps.gone_on, Steps.part_after, Weights.weigh, Doing.act}
use Rattle.executor_model.proofs.{Steps.Lists.weigh-append, Steps.Lists.weigh-reverse, Steps.Lift.topped, Table.Spawning.top-last}
use Rattle.executor_model.proofs.{Steps.Tests.or-left, Steps.Tests.or-right}
use Rattle.executor_laws.specs.Reach.{takes}
use Rattle.executor_laws.proofs.Reach.LoneMoves.{stray_of, is_turn, Inner, logged, inner-act, inner-carried, inner-react}
use Rattle.task_moves.specs.Moves as moves
use Rattle.executor_model.specs.declared.step.StepError.TheVariants.{Waits as IsLockedOut}

-- what goes on isn't user code, and what answers is accepted

pub goes : (w : World) (o : Op) → go_refusal w (Some o) ≡ None → waits o ≡ false
goes w o e = by (waits o) (is_locked_out w.lock o) e
  where
    by : (a b : Bool) → unless (not a) WrongAnswer (unless (not b) IsLockedOut None) ≡ None → a ≡ false
    by true b z = absurd (cc)
    by false b z = refl

pub answers : (o : Op) (u : UserEnd) → answer_refusal (Some o) u ≡ None → accepts o u ≡ true
answers o u e = by (accepts o u) e
  where
    by : (a : Bool) → unless a WrongAnswer None ≡ None → a ≡ true
    by true z = refl
    by false z = absurd (cc)

-- f's poll or drop is still to come, and this thing to do is on the way to it
abbrev pub Next : ℕ → Op → Type 0
Next f (Op.Move Move.TakeUp g) = f ≡ g
Next f (Op.Table (TableOp.TakeToDrop g)) = f ≡ g
Next f (Op.User (UserOp.BeginDrop g)) = f ≡ g
Next f _ = ⊥

-- f is taken up below what comes first
pub record Waits (f : ℕ) (below : List Op) : Type 0 where
  pub under : List Op
  pub is : below ≡ Op.Move Move.TakeUp f ∷ under

-- f's poll or drop has begun, or it has its entry in the table
abbrev pub HasEntry : ℕ → World → Trace → Type 0
HasEntry f w meanwhile = (has (takes f) meanwhile ≡ true) ⊎ (among f w.table ≡ true)

-- the next thing to do is on the way to it
pub record Leads (f : ℕ) (d : Done) : Type 0 where
  pub first : Op
  pub others : List Op
  pub is : d.next ≡ first ∷ others
  pub next : Next f first

pub record Advances (f : ℕ) (w : World) (d : Done) : Type 0 where
  pub inner : Inner w d
  pub stage : (has (takes f) inner.events ≡ true) ⊎ Leads f d

self : (f g : ℕ) → f ≡ g → eqb f g ≡ true
self f g e = grind (arith, nat_tests)

taken-up : (p f g : ℕ) (w : World) (closed : Bool) → f ≡ g → among f w.table ≡ true →
    Advances f w (carried (log_if (not closed) w (Event.PollBegun p g)) g (moves.take_up_by closed (task w g)))
taken-up p f g w false e k = record {
  inner = logged w _ (Event.PollBegun p g) (Op.Table (TableOp.TakeToPoll g) ∷ []) refl refl refl refl refl;
  stage = inl (ap (λ (b : Bool). (b || false) || false) (self f g e));
}
taken-up p f g w true e k = record {
  inner = inner-carried w g (moves.take_up_by true (task w g));
  stage = inr record {
    first = Op.Table (TableOp.TakeToDrop g);
    others = Op.Move Move.SettleClosed g ∷ [];
    is = ap (λ (b : Bool). owed_ops b g (moves.take_up_by true (task w g)).owed)
        (subst (λ (x : ℕ). among x w.table ≡ true) e k);
    next = e;
  };
}

pub advances : (p f : ℕ) (h : Hint) (o : Op) (w : World) → among f w.table ≡ true → Next f o → Advances f w (act p h o w)
advances p f h (Op.Move Move.TakeUp g) w e k = taken-up p f g w (task w g).closed k e
advances p f h (Op.Table (TableOp.TakeToDrop g)) w e k =
    record {
      inner = inner-act p h (Op.Table (TableOp.TakeToDrop g)) w refl refl;
      stage = inr record {
        first = Op.User
            (UserOp.BeginDrop g);
        others = [];
        is = refl;
        next = k;
      };
    }
advances p f h (Op.User (UserOp.BeginDrop g)) w e k = record {
  inner = logged w _ (Event.Dropped p g) (Op.User (UserOp.Drop g) ∷ Op.Table (TableOp.LeaveTable g) ∷ []) refl
      refl refl refl refl;
  stage = inl (ap (λ (b : Bool). b || false) (self f g k));
}
advances p f h _ w e k = absurd k

-- the call goes on: below this thing to do are those, and below them its answer
pub record Going (f : ℕ) (xs : Mark → List ℕ) (before : Trace) (w : World) (below : List Op) (o : Op) : Type 0 where
  pub plain : weigh stray_of (below ++ o ∷ []) ≡ 0
  pub added : Mark → List ℕ
  pub queue : (m : Mark) → (queue_of w m).items ≡ xs m ++ added m
  pub meanwhile : Trace
  pub no_turn : has is_turn meanwhile ≡ false
  pub trace : w.trace ≡ before ++ meanwhile
  pub there : w.gone ≡ false
  pub stage : (has (takes f) meanwhile ≡ true) ⊎ (Next f o ⊎ Waits f below)

-- it has ended
pub record Ended (p : ℕ) (r : Reply) (f : ℕ) (xs : Mark → List ℕ) (before : Trace) (w : World) : Type 0 where
  pub added : Mark → List ℕ
  pub queue : (m : Mark) → (queue_of w m).items ≡ xs m ++ added m
  pub meanwhile : Trace
  pub no_turn : has is_turn meanwhile ≡ false
  pub trace : w.trace ≡ before ++ (meanwhile ++ Event.CallEnded p r ∷ [])
  pub taken : has (takes f) meanwhile ≡ true
  pub there : w.gone ≡ false

abbrev pub answering : Reply → Hold → List Op → List Op
answering r held os = Op.End r held ∷ os

pub data Arrives (p : ℕ) (r : Reply) (held : Hold) (f : ℕ) (xs : Mark → List ℕ) (before : Trace) (x : Part) : Type 0 where
  going : (below : List Op) (o : Op) → x.todo ≡ answering r held (below ++ o ∷ []) → Going f xs before x.world below o →
      Arrives p r held f xs before x
  ended : x.todo ≡ [] → Ended p r f xs before x.world → Arrives p r held f xs before x

pub record Last (os : List Op) : Type 0 where
  pub below : List Op
  pub last : Op
  pub is : os ≡ below ++ last ∷ []

pub from-end : (os : List Op) → (os ≡ []) ⊎ Last os
from-end [] = inl refl
from-end (o ∷ os) = inr (go (from-end os))
  where
    go : (os ≡ []) ⊎ Last os → Last (o ∷ os)
    go (inl e) = record { below = []; last = o; is = ap (λ (xs : List Op). o ∷ xs) e }
    go (inr r) = record { below = o ∷ r.below; last = r.last; is = ap (λ (xs : List Op). o ∷ xs) r.is }

no-end : (o : Op) → stray_of o ≡ 0 → end_of (Some o) ≡ None
no-end (Op.End a held) e = absurd (omega (arith, e))
no-end _ e = refl

last-plain : (below : List Op) (o : Op) → weigh stray_of (below ++ o ∷ []) ≡ 0 →
    (weigh stray_of below ≡ 0) × (stray_of o ≡ 0)
last-plain below o e =
    (omega (arith, e, weigh-append stray_of below (o ∷ [])), omega (arith, e, weigh-append stray_of below (o ∷ [])))

module _ (p : ℕ) (r : Reply) (held : Hold) (f : ℕ) (xs : Mark → List ℕ) (before : Trace) where
  -- the answer isn't yet all that is left
  unsettled : (w : World) (below : List Op) (o : Op) → stray_of o ≡ 0 →
      settled p w (answering r held (below ++ o ∷ [])) ≡ part w (answering r held (below ++ o ∷ []))
  unsettled w below o e =
      ap (λ (x : Option Op). settled_by (end_of x) p w (answering r held (below ++ o ∷ [])))
      (top-last (answering r held below) o)
      ∙ ap (λ (x : Option Reply). settled_by x p w (answering r held (below ++ o ∷ []))) (no-end o e)

  -- this is on top
  on-top : (w : World) (below : List Op) (o : Op) → Going f xs before w below o →
      Arrives p r held f xs before (settled p w (answering r held (below ++ o ∷ [])))
  on-top w below o k =
      subst (Arrives p r held f xs before) (sym (unsettled w below o (last-plain below o k.plain).1))
      (going below o refl k)

  -- how far the call is
  record Far (w : World) : Type 0 where
    added : Mark → List ℕ
    queue : (m : Mark) → (queue_of w m).items ≡ xs m ++ added m
    meanwhile : Trace
    no_turn : has is_turn meanwhile ≡ false
    trace : w.trace ≡ before ++ meanwhile
    there : w.gone ≡ false

  at : (w : World) (below : List Op) (o : Op) → (far : Far w) → weigh stray_of (below ++ o ∷ []) ≡ 0 →
      (has (takes f) far.meanwhile ≡ true) ⊎ (Next f o ⊎ Waits f below) → Going f xs before w below o
  at w below o far z k =
      record {
        plain = z;
        added = far.added;
        queue = far.queue;
        meanwhile = far.meanwhile;
        no_turn = far.no_turn;
        trace = far.trace;
        there = far.there;
        stage = k;
      }

  -- f is taken, and this is left to do
  left : (below : List Op) (w : World) → weigh stray_of below ≡ 0 → (far : Far w) → has (takes f) far.meanwhile ≡ true →
      Arrives p r held f xs before (settled p w (answering r held below))
  left below w z far k = go (from-end below)
    where
      go : (below ≡ []) ⊎ Last below → Arrives p r held f xs before (settled p w (answering r held below))
      go (inl e) = subst (λ (os : List Op). Arrives p r held f xs before (settled p w (answering r held os))) (sym e)
          (ended refl record {
            added = far.added;
            queue = far.queue;
            meanwhile = far.meanwhile;
            no_turn = far.no_turn;
            trace = ap (λ (es : Trace). es ++ Event.CallEnded p r ∷ []) far.trace
                ∙ append_assoc before far.meanwhile (Event.CallEnded p r ∷ []);
            taken = k;
            there = far.there;
          })
      go (inr l) = subst (λ (os : List Op). Arrives p r held f xs before (settled p w (answering r held os))) (sym l.is)
          (on-top w l.below l.last
          (at w l.below l.last far (subst (λ (os : List Op). weigh stray_of os ≡ 0) l.is z) (inl k)))

  -- f is still to be taken up, and this comes first
  waiting : (rest : List Op) (w : World) → weigh stray_of rest ≡ 0 → Far w →
      Arrives p r held f xs before (settled p w (answering r held (Op.Move Move.TakeUp f ∷ rest)))
  waiting rest w z far = go (from-end rest)
    where
      go : (rest ≡ []) ⊎ Last rest →
          Arrives p r held f xs before (settled p w (answering r held (Op.Move Move.TakeUp f ∷ rest)))
      go (inl e) =
          subst (λ (os : List Op). Arrives p r held f xs before
          (settled p w (answering r held (Op.Move Move.TakeUp f ∷ os))))
          (sym e)
          (on-top w [] (Op.Move Move.TakeUp f) (at w [] (Op.Move Move.TakeUp f) far refl (inr (inl refl))))
      go (inr l) =
          subst (λ (os : List Op). Arrives p r held f xs before
          (settled p w (answering r held (Op.Move Move.TakeUp f ∷ os))))
          (sym l.is)
          (on-top w (Op.Move Move.TakeUp f ∷ l.below) l.last (at w (Op.Move Move.TakeUp f ∷ l.below) l.last far (omega (
            arith,
            z,
            ap (weigh stray_of) l.is,
          )) (inr (inr record { under = l.below; is = refl }))))

  -- this comes next
  leading : (below : List Op) (w : World) (next : List Op) → weigh stray_of below ≡ 0 → weigh stray_of next ≡ 0 →
      Far w →
      (first : Op) (others : List Op) → next ≡ first ∷ others → Next f first →
      Arrives p r held f xs before (settled p w (answering r held (below ++ reverse next)))
  leading below w next z n far first others e k =
      let turned : below ++ reverse next ≡ (below ++ reverse others) ++ first ∷ [] =
      ap (λ (os : List Op). below ++ reverse os) e
      ∙ (ap (λ (os : List Op). below ++ os) (reverse-append (first ∷ []) others)
      ∙ sym (append_assoc below (reverse others) (first ∷ []))) in
      let y : weigh stray_of ((below ++ reverse others) ++ first ∷ []) ≡ 0 = ap (weigh stray_of) (sym turned)
      ∙ omega (arith, weigh-append stray_of below (reverse next), weigh-reverse stray_of next, z, n) in
      subst (λ (os : List Op). Arrives p r held f xs before (settled p w (answering r held os))) (sym turned)
      (on-top w (below ++ reverse others) first (at w (below ++ reverse others) first far y (inr (inl k))))

  arrives : (w : World) (below : List Op) (o : Op) (d : Done) → (k : Going f xs before w below o) → (i : Inner w d) →
      (has (takes f) k.meanwhile ≡ true) ⊎ ((has (takes f) i.events ≡ true) ⊎ (Leads f d ⊎ Waits f below)) →
      Arrives p r held f xs before (onto p d (answering r held below))
  arrives w below o d k i s = go s
    where
      far : Far d.world
      far = record {
        added = λ m. k.added m ++ i.added m;
        queue = λ m. i.queue m ∙ (ap (λ (ys : List ℕ). ys ++ i.added m) (k.queue m) ∙ append_assoc (xs m) (k.added m) (i.added m));
        meanwhile = k.meanwhile ++ i.events;
        no_turn = list_any-append is_turn k.meanwhile i.events
            ∙ (ap (λ (b : Bool). b || has is_turn i.events) k.no_turn ∙ i.no_turn);
        trace = i.trace ∙ (ap (λ (es : Trace). es ++ i.events) k.trace ∙ append_assoc before k.meanwhile i.events);
        there = i.there ∙ k.there;
      }

      z : weigh stray_of below ≡ 0
      z = (last-plain below o k.plain).0

      all : weigh stray_of (below ++ reverse d.next) ≡ 0
      all = omega (arith, weigh-append stray_of below (reverse d.next), weigh-reverse stray_of d.next, z, i.plain)

      done-by : (has (takes f) k.meanwhile || has (takes f) i.events) ≡ true →
          Arrives p r held f xs before (onto p d (answering r held below))
      done-by e = left (below ++ reverse d.next) d.world all far (list_any-append (takes f) k.meanwhile i.events ∙ e)

      go : (has (takes f) k.meanwhile ≡ true) ⊎ ((has (takes f) i.events ≡ true) ⊎ (Leads f d ⊎ Waits f below)) →
          Arrives p r held f xs before (onto p d (answering r held below))
      go (inl e) = done-by (or-left _ _ e)
      go (inr (inl e)) = done-by (or-right _ _ e)
      go (inr (inr (inl l))) = leading below d.world d.next z i.plain far l.first l.others l.is l.next
      go (inr (inr (inr l))) =
          let y : weigh stray_of (l.under ++ reverse d.next) ≡ 0 =
          omega (arith, all, ap (λ (os : List Op). weigh stray_of (os ++ reverse d.next)) l.is) in
          subst (λ (os : List Op). Arrives p r held f xs before
          (settled p d.world (answering r held (os ++ reverse d.next)))) (sym l.is)
          (waiting (l.under ++ reverse d.next) d.world y far)

  acted : (w : World) (below : List Op) (o : Op) (h : Hint) → waits o ≡ false → (k : Going f xs before w below o) →
      HasEntry f w k.meanwhile → Arrives p r held f xs before (onto p (act p h o w) (answering r held below))
  acted w below o h n k entry = go k.stage entry
    where
      plainly : (has (takes f) k.meanwhile ≡ true) ⊎ Waits f below →
          Arrives p r held f xs before (onto p (act p h o w) (answering r held below))
      plainly (inl e) = arrives w below o _ k (inner-act p h o w n (last-plain below o k.plain).1) (inl e)
      plainly (inr l) = arrives w below o _ k (inner-act p h o w n (last-plain below o k.plain).1) (inr (inr (inr l)))

      onward : (has (takes f) k.meanwhile ≡ true) ⊎ ((i : Inner w (act p h o w)) ×
          ((has (takes f) i.events ≡ true) ⊎ Leads f (act p h o w))) →
          Arrives p r held f xs before (onto p (act p h o w) (answering r held below))
      onward (inl e) = plainly (inl e)
      onward (inr a) = arrives w below o _ k a.0 (inr (⊎_elim (λ e. inl e) (λ l. inr (inl l)) a.1))

      go : (has (takes f) k.meanwhile ≡ true) ⊎ (Next f o ⊎ Waits f below) → HasEntry f w k.meanwhile →
          Arrives p r held f xs before (onto p (act p h o w) (answering r held below))
      go (inl e) there = plainly (inl e)
      go (inr (inl e)) (inl t) = onward (inl t)
      go (inr (inl e)) (inr t) = let a : Advances f w (act p h o w) = advances p f h o w t e in
          onward (inr (a.inner, a.stage))
      go (inr (inr l)) there = plainly (inr l)

  -- user code isn't on the way
  user : (o : Op) (u : UserEnd) → accepts o u ≡ true → Next f o → ⊥
  user (Op.User (UserOp.Poll g)) u a k = k
  user (Op.User (UserOp.Drop g)) u a k = k
  user (Op.User (UserOp.DropOutput g)) u a k = k
  user (Op.User (UserOp.CallOutside x)) u a k = k
  user (Op.User (UserOp.PollOwn x)) u a k = k
  user (Op.User (UserOp.DropOwn x)) u a k = k
  user _ u a k = absurd (cc)

  reacted : (w : World) (below : List Op) (o : Op) (u : UserEnd) → accepts o u ≡ true → Going f xs before w below o →
      Arrives p r held f xs before (onto p (react p o u w) (answering r held below))
  reacted w below o u a k = go k.stage
    where
      go : (has (takes f) k.meanwhile ≡ true) ⊎ (Next f o ⊎ Waits f below) →
          Arrives p r held f xs before (onto p (react p o u w) (answering r held below))
      go (inl e) = arrives w below o _ k (inner-react p o u w a (last-plain below o k.plain).1) (inl e)
      go (inr (inl e)) = absurd (user o u a e)
      go (inr (inr l)) = arrives w below o _ k (inner-react p o u w a (last-plain below o k.plain).1) (inr (inr (inr l)))

  below-is : (os below : List Op) (o : Op) → os ≡ answering r held (below ++ o ∷ []) →
      (top os ≡ Some o) × (below_top os ≡ answering r held below)
  below-is os below o e =
      let t : top os ≡ Some o = ap top e ∙ top-last (answering r held below) o in
      (t, append_cancel_right (below_top os) (answering r held below) (o ∷ []) (sym (topped os o t) ∙ e))

  pub on-go : (w : World) (os below : List Op) (o : Op) (h : Hint) → os ≡ answering r held (below ++ o ∷ []) →
      go_refusal w (top os) ≡ None → (k : Going f xs before w below o) → HasEntry f w k.meanwhile →
      Arrives p r held f xs before (part_after w os (Go p h))
  on-go w os below o h e n k entry =
      let b : _ = below-is os below o e in
      subst (Arrives p r held f xs before) (sym (ap (λ (x : Option Op). gone_on p w os x (λ y. act p h y w)) b.0
      ∙ ap (onto p (act p h o w)) b.1)) (acted w below o h (goes w o (sym (ap (go_refusal w) b.0) ∙ n)) k entry)

  pub on-answer : (w : World) (os below : List Op) (o : Op) (u : UserEnd) → os ≡ answering r held (below ++ o ∷ []) →
      answer_refusal (top os) u ≡ None → Going f xs before w below o →
      Arrives p r held f xs before (part_after w os (Answer p u))
  on-answer w os below o u e n k =
      let b : _ = below-is os below o e in
      subst (Arrives p r held f xs before) (sym (ap (λ (x : Option Op). gone_on p w os x (λ y. react p y u w)) b.0
      ∙ ap (onto p (react p o u w)) b.1))
      (reacted w below o u (answers o u (sym (ap (λ (x : Option Op). answer_refusal x u) b.0)
      ∙ n)) k)
