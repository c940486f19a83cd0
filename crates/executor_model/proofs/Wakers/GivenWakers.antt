-- For polls_keep_their_wakers.
-- What the party of a call that polls does next tells of the poll, which has the waker that the call was given.
use Rattle.std.proofs.Common.{◌≡◌, ◌≢◌, ℕ, ◌<◌, List, [], ◌∷◌, ◌++◌, length, set, get_or, Bool, true, false, refl, subst, sym}
use Rattle.std.proofs.Common.{ap, arith, ◌∙◌, ◌||◌, eqb, get_or-set_same, get_or-set_other, append-nil, ltb}
use Rattle.std.proofs.lemmas.List.{append_assoc, append_cancel_left, length-append, set-set}
use Rattle.std.specs.Prelude.{Option, Some, None, reverse}
use Rattle.std.{proofs.lemmas.Bool.Decides.nat_tests, proofs.Math.ListN.length-set}
use Rattle.task_moves.specs.declared.moves.owed.Answer.{Answer}
use Rattle.executor_model.proofs.Types.{Moved, By, Call, Reply, Event, Kind, HandleOp, Hold, Op, Waker, Task, Outside, Hint}
use Rattle.executor_model.proofs.Types.{Step, Begin, StepError, NoSuch, UserEnd}
use Rattle.executor_model.specs.Steps.{Machine, accepts, begin_refusal, begun, end_of, is_free, mine, onto, run, settled_by}
use Rattle.executor_model.specs.Acts.{answered, copied, copy_awaiter_by, is_copy_refused, is_output, look_by, polled}
use Rattle.executor_model.specs.GivenWakers.{IsItsWaker, PollsKeepTheirWakers, given, tells_of_poll}
use Rattle.executor_model.specs.Steps.{stack, start, step, stepped, top, unless, waker_of, with_part}
use Rattle.executor_model.specs.World.{World, Done, done, log, log_if, put, task}
use Rattle.executor_model.specs.{Deeds.is_by, Doing.act, Good.Good, Trace.Trace, Trace.has}
use Rattle.executor_model.proofs.Steps.Deeds.{grows-act, grows-begun, grows-react, not-by}
use Rattle.executor_model.proofs.Steps.Lift.{good, good-start, good-stepped, no_hint, none_refused, topped, unsettled}
use Rattle.executor_model.proofs.Steps.Ways.Way.{acted, called, reacted}
use Rattle.executor_model.proofs.Wakers.Names.{RightEntry, RightEvent, RightSlot, every-at, every-get}
use Rattle.executor_model.proofs.Wakers.NamesWays.{Fresh, Named, NewlyIn, fresh-start, fresh-way, later-in, names-way}
use Rattle.executor_model.proofs.{Quiet.Calls.is_end, Steps.Stepping.step-made, Steps.Tests.or-false}
use Rattle.executor_model.proofs.{Steps.TraceMore.has-append, Steps.Ways.Way, Steps.Ways.along, Table.Spawning.top-last}
use Rattle.task_moves.specs.Moves as moves

-- lists

last-of : (xs ys : List Op) (x y : Op) → xs ++ x ∷ [] ≡ ys ++ y ∷ [] → (xs ≡ ys) × (x ≡ y)
last-of [] [] x y e = (refl, cc)
last-of [] (z ∷ []) x y e = absurd (cc)
last-of [] (z ∷ v ∷ ys) x y e = absurd (cc)
last-of (z ∷ []) [] x y e = absurd (cc)
last-of (z ∷ v ∷ xs) [] x y e = absurd (cc)
last-of (z ∷ xs) (v ∷ ys) x y e =
    let i : z ≡ v = cc in
    let j : xs ++ x ∷ [] ≡ ys ++ y ∷ [] = cc in
    let r = last-of xs ys x y j in
    (ap (λ (o : Op). o ∷ xs) i ∙ ap (λ (os : List Op). v ∷ os) r.0, r.1)

not-both : (b : Bool) → b ≡ true → b ≡ false → ⊥
not-both true e f = absurd (cc)
not-both false e f = absurd (cc)

none-head : (t : Event → Bool) (x : Event) (xs : Trace) → has t (x ∷ xs) ≡ false → (t x ≡ false) × (has t xs ≡ false)
none-head t x xs e = by (t x) e
  where
    by : (b : Bool) → (b || has t xs) ≡ false → (b ≡ false) × (has t xs ≡ false)
    by false q = (refl, q)
    by true q = absurd (cc)

-- the first of the list of which the test is true is one
first-of : (t : Event → Bool) (xs ys later more : Trace) (x y : Event) → xs ++ x ∷ later ≡ ys ++ y ∷ more →
    has t xs ≡ false → has t ys ≡ false → t x ≡ true → t y ≡ true → (xs ≡ ys) × (x ≡ y)
first-of t [] [] later more x y e a b c d = (refl, cc)
first-of t [] (v ∷ ys) later more x y e a b c d =
    let i : x ≡ v = cc in
    absurd (not-both (t x) c (ap t i ∙ (none-head t v ys b).0))
first-of t (v ∷ xs) [] later more x y e a b c d =
    let i : v ≡ y = cc in
    absurd (not-both (t v) (ap t i ∙ d) (none-head t v xs a).0)
first-of t (u ∷ xs) (v ∷ ys) later more x y e a b c d =
    let i : u ≡ v = cc in
    let j : xs ++ x ∷ later ≡ ys ++ y ∷ more = cc in
    let r = first-of t xs ys later more x y j (none-head t u xs a).1 (none-head t v ys b).1 c d in
    (ap (λ (o : Event). o ∷ xs) i ∙ ap (λ (os : Trace). v ∷ os) r.0, r.1)

-- and there is none where the list has none
first-none : (t : Event → Bool) (xs ys more : Trace) (y : Event) → xs ≡ ys ++ y ∷ more → has t xs ≡ false → t y ≡ true → ⊥
first-none t [] [] more y e a d = absurd (cc)
first-none t [] (v ∷ ys) more y e a d = absurd (cc)
first-none t (u ∷ xs) [] more y e a d =
    let i : u ≡ y = cc in not-both (t u) (ap t i ∙ d) (none-head t u xs a).0
first-none t (u ∷ xs) (v ∷ ys) more y e a d =
    let j : xs ≡ ys ++ y ∷ more = cc in first-none t xs ys more y j (none-head t u xs a).1 d

-- where the call stands: it has done nothing yet, or it has

-- a poll of a handle that isn't told of yet was given this waker, or it ends
abbrev Waits : Waker → Op → Type 0
Waits a (Op.Handle (HandleOp.Look f b)) = b ≡ a
Waits a (Op.Handle (HandleOp.CopyAwaiter f b)) = b ≡ a
Waits a (Op.End r held) = Unit {0}
Waits a _ = ⊥

data Stands (es : Trace) (p : ℕ) (c : Call) (a : Waker) (s : Machine) : Type 0 where
  waits : (mid : Trace) → s.world.trace ≡ es ++ mid → has (is_by p) mid ≡ false → (below : List Op) (o : Op) →
      stack s p ≡ below ++ o ∷ [] → Waits a o → Stands es p c a s
  told : (mid later : Trace) (e : Event) → s.world.trace ≡ es ++ (mid ++ e ∷ later) → has (is_by p) mid ≡ false →
      is_by p e ≡ true → (tells_of_poll p c e ≡ true → Named (length (es ++ mid)) a s) → Stands es p c a s

-- what another party does

record Grown (p : ℕ) (w v : World) : Type 0 where
  pub more : Trace
  pub is : v.trace ≡ w.trace ++ more
  pub own : (q : ℕ) → q ≢ p → has (is_by q) more ≡ false

grown-act : (p : ℕ) (h : Hint) (o : Op) (w : World) (b : Bool) → is_end o ≡ b → Grown p w (act p h o w).world
grown-act p h o w false n = let g = grows-act p h o w n in record { more = g.more; is = g.is; own = g.own }
grown-act p h (Op.End r held) w true n = record {
  more = Event.CallEnded p r ∷ [];
  is = refl;
  own = λ q k. or-false (is_by q (Event.CallEnded p r)) (not-by p q (Event.CallEnded p r) refl k);
}
grown-act p h _ w true n = absurd (cc)

grown-way : (s : Machine) (p : ℕ) (old rest : List Op) (d : Done) → Way s p old rest d → Grown p s.world d.world
grown-way s p old rest d (acted h o q z) =
    subst (λ (y : Done). Grown p s.world y.world) (sym z) (grown-act p h o s.world (is_end o) refl)
grown-way s p old rest d (reacted o u x q z) = subst (λ (y : Done). Grown p s.world y.world) (sym z)
    (let g = grows-react p o u s.world in record { more = g.more; is = g.is; own = g.own })
grown-way s p old rest d (called c q r x z) = subst (λ (y : Done). Grown p s.world y.world) (sym z)
    (let w = log s.world (Event.CallBegun p c) in
    let g = grows-begun p w (mine (top (stack s p))) c in record {
      more = Event.CallBegun p c ∷ g.more;
      is = g.is ∙ append_assoc s.world.trace (Event.CallBegun p c ∷ []) g.more;
      own = λ n k. has-append (is_by n) (Event.CallBegun p c ∷ []) g.more
          (or-false (is_by n (Event.CallBegun p c)) (not-by p n (Event.CallBegun p c) refl k)) (g.own n k);
    })

by-self : (p : ℕ) → eqb p p ≡ true
by-self p = grind (arith, nat_tests)

-- the beginning of an answered poll's events: the poll itself
looked : (p : ℕ) (w : World) (f : ℕ) (m : Moved) (x : Answer) → (more : Trace)
    × ((answered p (polled p w f) f m x).world.trace ≡ w.trace ++ (Event.HandlePolled p f ∷ more))
looked p w f m x = by (is_output x)
  where
    by : (b : Bool) → (more : Trace) × ((log_if b (put (polled p w f) f m.state) (Event.OutputGiven p f)).trace
        ≡ w.trace ++ (Event.HandlePolled p f ∷ more))
    by true = (Event.OutputGiven p f ∷ [], append_assoc w.trace (Event.HandlePolled p f ∷ []) (Event.OutputGiven p f ∷ []))
    by false = ([], refl)

copied-trace : (w : World) (b : Waker) → (copied w b).trace ≡ w.trace
copied-trace w (Task g) = refl
copied-trace w (Outside x) = refl

module _ (es : Trace) (p : ℕ) (c : Call) (a : Waker) where
  -- what was told of stays
  told-on : (s : Machine) (q : ℕ) (old rest : List Op) (d : Done) → Way s q old rest d → stack s q ≡ rest ++ reverse old →
      (mid later : Trace) (e : Event) → s.world.trace ≡ es ++ (mid ++ e ∷ later) → has (is_by p) mid ≡ false →
      is_by p e ≡ true → (tells_of_poll p c e ≡ true → Named (length (es ++ mid)) a s) → Stands es p c a (unsettled s q rest d)
  told-on s q old rest d way e mid later x t n b k =
      let g = grown-way s q old rest d way in
      told mid (later ++ g.more) x
      (g.is ∙ (ap (λ (xs : Trace). xs ++ g.more) t ∙ (append_assoc es (mid ++ x ∷ later) g.more
      ∙ ap (λ (xs : Trace). es ++ xs) (append_assoc mid (x ∷ later) g.more)))) n b
      (λ z. names-way (length (es ++ mid)) a s q old rest d way e
      (later-in (length (es ++ mid)) a s q old rest d way (omega (
        arith,
        ap length t,
        length-append es mid,
        length-append es (mid ++ x ∷ later),
        length-append mid (x ∷ later),
      ))) (k z))

  stack-other : (s : Machine) (q : ℕ) (os : List Op) → p ≢ q → get_or (set s.parties q os) p [] ≡ stack s p
  stack-other s q os n = get_or-set_other s.parties q p os [] n

  -- the call's own party goes on

  push-trace : (w : World) (now mid more : Trace) → w.trace ≡ es ++ mid → now ≡ w.trace ++ more → now ≡ es ++ (mid ++ more)
  push-trace w now mid more t g = g ∙ (ap (λ (xs : Trace). xs ++ more) t ∙ append_assoc es mid more)

  place-is : (w : World) (mid : Trace) → w.trace ≡ es ++ mid → length w.trace ≡ length (es ++ mid)
  place-is w mid t = ap length t

  on-look : (s : Machine) (h : Hint) (f : ℕ) (b : Waker) (rest : List Op) (mid : Trace) → Fresh s → p < length s.parties →
      stack s p ≡ rest ++ Op.Handle (HandleOp.Look f b) ∷ [] → s.world.trace ≡ es ++ mid → has (is_by p) mid ≡ false →
      b ≡ a → Stands es p c a (unsettled s p rest (act p h (Op.Handle (HandleOp.Look f b)) s.world))
  on-look s h f b rest mid fresh l e t n i = by (moves.poll (task s.world f)).owed.answer refl
    where
      m : Moved
      m = moves.poll (task s.world f)

      named : Named (length (es ++ mid)) a (unsettled s p rest (act p h (Op.Handle (HandleOp.Look f b)) s.world))
      named = names-way (length (es ++ mid)) a s p (Op.Handle (HandleOp.Look f b) ∷ []) rest _
          (acted h (Op.Handle (HandleOp.Look f b)) refl refl) e tt
          (fresh (length (es ++ mid)) a (omega (arith, ap length t)))

      by : (o : Option Answer) → m.owed.answer ≡ o →
          Stands es p c a (unsettled s p rest (act p h (Op.Handle (HandleOp.Look f b)) s.world))
      by None q = subst (λ (x : Option Answer). Stands es p c a (unsettled s p rest (look_by x p s.world f b m))) (sym q)
          (waits mid t n rest (Op.Handle (HandleOp.CopyAwaiter f b)) (get_or-set_same s.parties p _ [] l) i)
      by (Some x) q =
          let y = looked p s.world f m x in
          told mid y.0 (Event.HandlePolled p f) (push-trace s.world _ mid (Event.HandlePolled p f ∷ y.0) t
          (ap (λ (z : Option Answer). (look_by z p s.world f b m).world.trace) q ∙ y.1)) n (by-self p) (λ z. named)

  on-copy : (s : Machine) (h : Hint) (f : ℕ) (b : Waker) (rest : List Op) (mid : Trace) → Fresh s → p < length s.parties →
      stack s p ≡ rest ++ Op.Handle (HandleOp.CopyAwaiter f b) ∷ [] → s.world.trace ≡ es ++ mid → has (is_by p) mid ≡ false →
      b ≡ a → Stands es p c a (unsettled s p rest (act p h (Op.Handle (HandleOp.CopyAwaiter f b)) s.world))
  on-copy s h f b rest mid fresh l e t n i = by (is_copy_refused h s.world b) refl
    where
      named : Named (length (es ++ mid)) a (unsettled s p rest (act p h (Op.Handle (HandleOp.CopyAwaiter f b)) s.world))
      named = names-way (length (es ++ mid)) a s p (Op.Handle (HandleOp.CopyAwaiter f b) ∷ []) rest _
          (acted h (Op.Handle (HandleOp.CopyAwaiter f b)) refl refl) e (λ q j. i)
          (fresh (length (es ++ mid)) a (omega (arith, ap length t)))

      by : (x : Bool) → is_copy_refused h s.world b ≡ x →
          Stands es p c a (unsettled s p rest (act p h (Op.Handle (HandleOp.CopyAwaiter f b)) s.world))
      by true q = subst (λ (x : Bool). Stands es p c a (unsettled s p rest (copy_awaiter_by x p s.world f b))) (sym q)
          (waits mid t n rest (Op.End _ (_)) (get_or-set_same s.parties p _ [] l) tt)
      by false q = told mid [] (Event.HandlePolled p f) (push-trace s.world _ mid (Event.HandlePolled p f ∷ []) t
          (ap (λ (z : Bool). (copy_awaiter_by z p s.world f b).world.trace) q
          ∙ ap (λ (xs : Trace). xs ++ Event.HandlePolled p f ∷ []) (copied-trace s.world b))) n (by-self p) (λ z. named)

  tells-no-end : (x : Call) (r : Reply) → tells_of_poll p x (Event.CallEnded p r) ≡ false
  tells-no-end (Call.PollHandle f b) r = refl
  tells-no-end (Call.PollTick t b) r = refl
  tells-no-end (Call.PollRun o b) r = refl
  tells-no-end _ r = refl

  on-act : (s : Machine) (h : Hint) (o : Op) (rest : List Op) (mid : Trace) → Fresh s → p < length s.parties →
      stack s p ≡ rest ++ o ∷ [] → s.world.trace ≡ es ++ mid → has (is_by p) mid ≡ false → Waits a o →
      Stands es p c a (unsettled s p rest (act p h o s.world))
  on-act s h (Op.Handle (HandleOp.Look f b)) rest mid fresh l e t n i = on-look s h f b rest mid fresh l e t n i
  on-act s h (Op.Handle (HandleOp.CopyAwaiter f b)) rest mid fresh l e t n i = on-copy s h f b rest mid fresh l e t n i
  on-act s h (Op.End r held) rest mid fresh l e t n i =
      told mid [] (Event.CallEnded p r) (push-trace s.world _ mid (Event.CallEnded p r ∷ []) t refl) n (by-self p)
      (λ z. absurd (not-both _ z (tells-no-end c r)))
  on-act s h _ rest mid fresh l e t n i = absurd i

  no-answer : (o : Op) (u : UserEnd) → accepts o u ≡ true → Waits a o → ⊥
  no-answer (Op.Handle (HandleOp.Look f b)) u x i = absurd (cc)
  no-answer (Op.Handle (HandleOp.CopyAwaiter f b)) u x i = absurd (cc)
  no-answer (Op.End r held) u x i = absurd (cc)
  no-answer _ u x i = i

  not-free : (o : Op) → is_free (Some o) ≡ true → Waits a o → ⊥
  not-free (Op.Handle (HandleOp.Look f b)) x i = absurd (cc)
  not-free (Op.Handle (HandleOp.CopyAwaiter f b)) x i = absurd (cc)
  not-free (Op.End r held) x i = absurd (cc)
  not-free _ x i = i

  own-way : (s : Machine) (old rest : List Op) (d : Done) → Way s p old rest d → stack s p ≡ rest ++ reverse old →
      p < length s.parties → Fresh s → (mid : Trace) → s.world.trace ≡ es ++ mid → has (is_by p) mid ≡ false →
      (below : List Op) (o : Op) → stack s p ≡ below ++ o ∷ [] → Waits a o → Stands es p c a (unsettled s p rest d)
  own-way s old rest d (acted h x q z) e l fresh mid t n below o st i =
      let r = last-of rest below x o (sym (e ∙ ap (λ (os : List Op). rest ++ reverse os) q) ∙ st) in
      subst (λ (y : Done). Stands es p c a (unsettled s p rest y)) (sym z)
      (on-act s h x rest mid fresh l (e ∙ ap (λ (os : List Op). rest ++ reverse os) q) t n (subst (Waits a) (sym r.1) i))
  own-way s old rest d (reacted x u y q z) e l fresh mid t n below o st i =
      let r = last-of rest below x o (sym (e ∙ ap (λ (os : List Op). rest ++ reverse os) q) ∙ st) in
      absurd (no-answer x u y (subst (Waits a) (sym r.1) i))
  own-way s old rest d (called x q r y z) e l fresh mid t n below o st i =
      let f = none_refused s.world s.parties (top (stack s p)) x y in
      absurd (not-free o (subst (λ (v : Option Op). is_free v ≡ true) (ap top st ∙ top-last below o) f.0) i)

  stands-way : (s : Machine) (q : ℕ) (old rest : List Op) (d : Done) → Way s q old rest d → stack s q ≡ rest ++ reverse old →
      q < length s.parties → Fresh s → Stands es p c a s → Stands es p c a (unsettled s q rest d)
  stands-way s q old rest d way e l fresh (told mid later x t n b k) = told-on s q old rest d way e mid later x t n b k
  stands-way s q old rest d way e l fresh (waits mid t n below o st i) = by (eqb p q) refl
    where
      by : (b : Bool) → eqb p q ≡ b → Stands es p c a (unsettled s q rest d)
      by true z =
          let j : q ≡ p = grind (arith, nat_tests) in
          subst (λ (m : ℕ). (Way s m old rest d → stack s m ≡ rest ++ reverse old → m < length s.parties →
          Stands es p c a (unsettled s m rest d)))
          (sym j) (λ v y u. own-way s old rest d v y u fresh mid t n below o st i) way e l
      by false z =
          let j : p ≢ q = grind (arith, nat_tests) in
          let g = grown-way s q old rest d way in
          waits (mid ++ g.more) (push-trace s.world d.world.trace mid g.more t g.is)
          (has-append (is_by p) mid g.more n (g.own p j)) below o (stack-other s q (rest ++ reverse d.next) j ∙ st) i

  record Standing (s : Machine) : Type 0 where
    pub fresh : Fresh s
    pub stands : Stands es p c a s

  standing-moves : (s : Machine) (q : ℕ) (old rest : List Op) (d : Done) → Good s → q < length s.parties →
      stack s q ≡ rest ++ reverse old → Way s q old rest d → Standing s → Standing (unsettled s q rest d)
  standing-moves s q old rest d fine l e way h = record {
    fresh = fresh-way s q old rest d way e h.fresh;
    stands = stands-way s q old rest d way e l h.fresh h.stands;
  }

  standing-ends : (s : Machine) (q : ℕ) (r : Reply) (held : Hold) (below : List Op) → q < length s.parties →
      stack s q ≡ below ++ reverse (Op.End r held ∷ []) → Standing s →
      Standing (unsettled s q below (done (log s.world (Event.CallEnded q r)) []))
  standing-ends s q r held below l e h =
      let way : Way s q (Op.End r held ∷ []) below (done (log s.world (Event.CallEnded q r)) []) =
      acted no_hint (Op.End r held) refl refl in record {
        fresh = fresh-way s q (Op.End r held ∷ []) below _ way e h.fresh;
        stands = stands-way s q (Op.End r held ∷ []) below _ way e l h.fresh h.stands;
      }

  standing-settled : (s : Machine) (q : ℕ) (os : List Op) (w : World) (o : Option Op) → q < length s.parties → top os ≡ o →
      Standing (record { world = w; parties = set s.parties q os }) → Standing (with_part s q (settled_by (end_of o) q w os))
  standing-settled s q os w (Some (Op.End r held)) h e k =
      let t : Machine = record { world = w; parties = set s.parties q os } in
      let l : q < length t.parties = omega (arith, h, length-set s.parties q os) in
      let i : stack t q ≡ _ ++ reverse (Op.End r held ∷ []) = get_or-set_same s.parties q os [] h ∙ topped os (Op.End r held) e in
      subst (λ (ss : List (List Op)). Standing (record { world = log w (Event.CallEnded q r); parties = ss }))
      (ap (set (set s.parties q os) q) (append-nil _) ∙ set-set s.parties q os _)
      (standing-ends t q r held _ l i k)
  standing-settled s q os w None h e k = k
  standing-settled s q os w (Some _) h e k = k

-- the call begins

given-is : (here : Option Waker) (b : By) (a : Waker) → given here (Call.PollTick 0 b) ≡ Some a → waker_of here b ≡ a
given-is (Some x) By.Mine a e = cc
given-is None By.Mine a e = absurd (cc)
given-is (Some x) (By.Outside y) a e = cc
given-is None (By.Outside y) a e = cc

module _ (s : Machine) (p : ℕ) (fresh : Fresh s) (l : p < length s.parties) where
  abbrev es : Call → Trace
  es c = s.world.trace ++ Event.CallBegun p c ∷ []

  abbrev first : Call → Done
  first c = begun p (log s.world (Event.CallBegun p c)) (mine (top (stack s p))) c

  -- one that is told of as it begins
  named-first : (c : Call) (a : Waker) (n : begin_refusal s.world s.parties (top (stack s p)) c ≡ None) →
      NewlyIn (length (es c ++ [])) a s p [] (stack s p) (first c) (called c refl refl n refl) →
      Named (length (es c ++ [])) a (unsettled s p (stack s p) (first c))
  named-first c a n z = names-way (length (es c ++ [])) a s p [] (stack s p) (first c) (called c refl refl n refl)
      (sym (append-nil (stack s p))) z
      (fresh (length (es c ++ [])) a (omega (
        arith,
        length-append (es c) [],
        length-append s.world.trace (Event.CallBegun p c ∷ []),
      )))

  begins : (c : Call) (a : Waker) → begin_refusal s.world s.parties (top (stack s p)) c ≡ None →
      given (mine (top (stack s p))) c ≡ Some a → Stands (es c) p c a (unsettled s p (stack s p) (first c))
  begins (Call.PollHandle f b) a n g =
      waits [] (sym (append-nil (es (Call.PollHandle f b)))) refl (stack s p)
      (Op.Handle (HandleOp.Look f (waker_of (mine (top (stack s p))) b)))
      (get_or-set_same s.parties p (stack s p ++ Op.Handle (HandleOp.Look f (waker_of (mine (top (stack s p))) b)) ∷ []) [] l)
      (given-is (mine (top (stack s p))) b a g)
  begins (Call.PollTick t b) a n g =
      told [] [] (Event.TickPolled p t) refl refl (by-self p)
      (λ z. named-first (Call.PollTick t b) a n (λ q. given-is (mine (top (stack s p))) b a g))
  begins (Call.PollRun r b) a n g =
      told [] [] (Event.RunPolled p r) refl refl (by-self p)
      (λ z. named-first (Call.PollRun r b) a n (λ q. given-is (mine (top (stack s p))) b a g))
  begins _ a n g = absurd (cc)

  standing-begun : (c : Call) (a : Waker) → begin_refusal s.world s.parties (top (stack s p)) c ≡ None →
      given (mine (top (stack s p))) c ≡ Some a →
      Standing (es c) p c a (with_part s p (onto p (first c) (stack s p)))
  standing-begun c a n g =
      standing-settled (es c) p c a s p (stack s p ++ reverse (first c).next) (first c).world
      (top (stack s p ++ reverse (first c).next)) l refl (record {
        fresh = fresh-way s p [] (stack s p) (first c) (called c refl refl n refl) (sym (append-nil (stack s p))) fresh;
        stands = begins c a n g;
      })

there : (b : Bool) (r : Option StepError) → unless b NoSuch r ≡ None → (b ≡ true) × (r ≡ None)
there true r e = (refl, e)
there false r e = absurd (cc)

-- what tells of the poll is the party's

at-handle : (p f : ℕ) (e : Event) → tells_of_poll p (Call.PollHandle f By.Mine) e ≡ true → is_by p e ≡ true
at-handle p f (Event.HandlePolled q g) h = grind (arith, nat_tests)
at-handle p f _ h = absurd (cc)

at-tick : (p t : ℕ) (e : Event) → tells_of_poll p (Call.PollTick t By.Mine) e ≡ true → is_by p e ≡ true
at-tick p t (Event.TickPolled q u) h = grind (arith, nat_tests)
at-tick p t _ h = absurd (cc)

at-run : (p r : ℕ) (e : Event) → tells_of_poll p (Call.PollRun r By.Mine) e ≡ true → is_by p e ≡ true
at-run p r (Event.RunPolled q o) h = grind (arith, nat_tests)
at-run p r _ h = absurd (cc)

same-handle : (p f : ℕ) (b : By) (e : Event) → tells_of_poll p (Call.PollHandle f b) e ≡ tells_of_poll p (Call.PollHandle f By.Mine) e
same-handle p f b (Event.HandlePolled q g) = refl
same-handle p f b _ = refl

same-tick : (p t : ℕ) (b : By) (e : Event) → tells_of_poll p (Call.PollTick t b) e ≡ tells_of_poll p (Call.PollTick t By.Mine) e
same-tick p t b (Event.TickPolled q u) = refl
same-tick p t b _ = refl

same-run : (p r : ℕ) (b : By) (e : Event) → tells_of_poll p (Call.PollRun r b) e ≡ tells_of_poll p (Call.PollRun r By.Mine) e
same-run p r b (Event.RunPolled q o) = refl
same-run p r b _ = refl

teller : (p : ℕ) (c : Call) (e : Event) → tells_of_poll p c e ≡ true → is_by p e ≡ true
teller p (Call.PollHandle f b) e h = at-handle p f e (sym (same-handle p f b e) ∙ h)
teller p (Call.PollTick t b) e h = at-tick p t e (sym (same-tick p t b e) ∙ h)
teller p (Call.PollRun r b) e h = at-run p r e (sym (same-run p r b e) ∙ h)
teller p _ e h = absurd (cc)

concluded : (es : Trace) (p : ℕ) (c : Call) (a : Waker) (s : Machine) → Stands es p c a s → (between later : Trace) (e : Event) →
    s.world.trace ≡ es ++ (between ++ e ∷ later) → has (is_by p) between ≡ false → tells_of_poll p c e ≡ true →
    Named (length (es ++ between)) a s
concluded es p c a s (waits mid t n below o st i) between later e u m h =
    absurd (first-none (is_by p) mid between later e (append_cancel_left es mid (between ++ e ∷ later) (sym t ∙ u)) n
    (teller p c e h))
concluded es p c a s (told mid rest x t n b k) between later e u m h =
    let r = first-of (is_by p) mid between rest later x e
    (append_cancel_left es (mid ++ x ∷ rest) (between ++ e ∷ later) (sym t ∙ u)) n m b (teller p c e h) in
    subst (λ (y : Trace). Named (length (es ++ y)) a s) r.0 (k (ap (tells_of_poll p c) r.1 ∙ h))

named-is : (k : ℕ) (a : Waker) (s : Machine) → Named k a s → IsItsWaker k a s.world
named-is k a s h = record {
  awaiters = λ f x e. subst (RightSlot k a) e (every-get (RightSlot k a) f s.world.awaiters None h.stored.awaiters tt);
  sleepers = λ n m x e. every-at (RightEntry k a) n s.world.sleepers.wakers (m, x) h.stored.sleepers e;
  called = λ n p o b e. every-at (RightEvent k a) n s.world.trace (Event.WakerCalled p o k b) h.stored.told e refl;
}

module _ (s : Machine) (fine : Good s) (fresh : Fresh s) where
  keeps : PollsKeepTheirWakers s
  keeps p c a q g steps between later e t m h =
      let x = there (ltb p (length s.parties)) (begin_refusal s.world s.parties (top (stack s p)) c) q in
      let l : p < length s.parties = grind (arith, nat_tests) in
      let es : Trace = s.world.trace ++ Event.CallBegun p c ∷ [] in
      let start-is : stepped s (step s (Begin p c)) ≡ with_part s p (onto p (begun p (log s.world (Event.CallBegun p c))
      (mine (top (stack s p))) c) (stack s p)) = ap (stepped s) (step-made s (Begin p c) q) in
      let first : Standing es p c a (stepped s (step s (Begin p c))) =
      subst (Standing es p c a) (sym start-is) (standing-begun s p fresh l c a x.1 g) in
      let now : Standing es p c a (run steps (stepped s (step s (Begin p c)))) =
      along (Standing es p c a) (standing-moves es p c a) (standing-ends es p c a) steps (stepped s (step s (Begin p c)))
      (good-stepped s (Begin p c) fine) first in
      let u : es ++ between ≡ s.world.trace ++ Event.CallBegun p c ∷ between =
      append_assoc s.world.trace (Event.CallBegun p c ∷ []) between in
      named-is _ a _ (subst (λ (xs : Trace). Named (length xs) a (run steps (stepped s (step s (Begin p c))))) u
      (concluded es p c a (run steps (stepped s (step s (Begin p c)))) now.stands between later e
      (t ∙ (ap (λ (xs : Trace). xs ++ e ∷ later) (sym u) ∙ append_assoc es between (e ∷ later))) m h))

pub polls-keep : (limit : ℕ) (kind : Kind) (parties : ℕ) (steps : List Step) →
    PollsKeepTheirWakers (run steps (start limit kind parties))
polls-keep limit kind parties steps = keeps (run steps (start limit kind parties)) (good limit kind parties steps)
    (along Fresh
    (λ s p old rest d fine l e way h. fresh-way s p old rest d way e h)
    (λ s p r held below l e h. fresh-way s p (Op.End r held ∷ []) below (done (log s.world (Event.CallEnded p r)) [])
    (acted no_hint (Op.End r held) refl refl) e h)
    steps (start limit kind parties) (good-start limit kind parties) (fresh-start limit kind parties))
