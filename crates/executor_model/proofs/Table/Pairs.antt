-- For the_table_is_kept.
-- Right behind the drop of a future comes the section that takes its entry out, or the drop of the executor goes on.
use Rattle.std.proofs.Common.{◌≡◌, ◌≢◌, ◌⊎◌, ℕ, zero, suc, ◌+◌, ◌<◌, ◌≤◌, List, [], ◌∷◌, ◌++◌, length, get_or, set, Bool, true}
use Rattle.std.proofs.Common.{false, eqb, ⊎_elim, refl, subst, sym, ap, ◌∙◌, get_or-set_same, get_or-set_other, arith}
use Rattle.std.proofs.lemmas.List.{reverse-append, reverse-reverse}
use Rattle.std.{proofs.lemmas.Bool.Decides.nat_tests, specs.Prelude.reverse}
use Rattle.executor_model.proofs.Types.{Kind, Reply, Answer, Event, ClosingOp, Hold, Op, TableOp, UserOp, Hint, Step, UserEnd}
use Rattle.executor_model.specs.Steps.{Machine, accepts, mine, react, run, stack, start, top}
use Rattle.executor_model.specs.TableKeeps.{EntryOutlastsDrop, dropping_of}
use Rattle.executor_model.specs.{Acts.closing_ops, Acts.drop_next_by, Doing.act, Good.Good, Rows.leaves_of, Weights.same}
use Rattle.executor_model.specs.{Weights.weigh, Weights.weigh_all, World.World, World.Done, World.done, World.log}
use Rattle.executor_model.proofs.Steps.Nears.{leads_near, near-act, near-begun, near_of}
use Rattle.executor_model.proofs.Steps.Ways.Way.{acted, called, reacted}
use Rattle.executor_model.proofs.Table.Entering.{agrees, one-accepted, tables}
use Rattle.executor_model.proofs.{OneFuture.Extras.closing_of, Quiet.Resting.idle-stack, Steps.Lift.good, Steps.Lift.good-start}
use Rattle.executor_model.proofs.{Steps.Lift.unsettled, Steps.Lists.same_cases, Steps.Lists.weigh-reverse, Steps.Ways.Way}
use Rattle.executor_model.proofs.{Steps.Ways.along, Table.LeavingExecutions.Placed, Table.LeavingExecutions.placed}

-- what may come behind the drop of future f
abbrev pub Behind : ℕ → List Op → Type 0
Behind f (Op.Table (TableOp.LeaveTable g) ∷ os) = f ≡ g
Behind f (Op.Closing o ∷ os) = closing_of (Op.Closing o) ≡ 1
Behind f _ = ⊥

abbrev pub Paired : List Op → Type 0
Paired [] = Unit {0}
Paired (Op.User (UserOp.Drop f) ∷ os) = Behind f os × Paired os
Paired (o ∷ os) = Paired os

paired-rest : (o : Op) (os : List Op) → Paired (o ∷ os) → Paired os
paired-rest (Op.User (UserOp.Drop f)) os h = h.1
paired-rest (Op.User (UserOp.Poll f)) os h = h
paired-rest (Op.Table (TableOp.Enter mark)) os h = h
paired-rest _ os h = h

-- what isn't near a future's drop
paired-one : (o : Op) (os : List Op) → near_of o ≡ 0 → Paired os → Paired (o ∷ os)
paired-one (Op.User (UserOp.Drop f)) os z h = absurd (omega (arith, z))
paired-one (Op.User (UserOp.CallOutside x)) os z h = h
paired-one (Op.Table (TableOp.Enter mark)) os z h = h
paired-one _ os z h = h

paired-more : (xs os : List Op) → weigh near_of xs ≡ 0 → Paired os → Paired (xs ++ os)
paired-more [] os z h = h
paired-more (x ∷ xs) os z h = paired-one x (xs ++ os) (omega (arith, z)) (paired-more xs os (omega (arith, z)) h)

paired-closing : (f : ℕ) (ls ws : List ℕ) (os : List Op) → Paired os →
    Paired (Op.User (UserOp.Drop f) ∷ (closing_ops ls ws ++ os))
paired-closing f (x ∷ ls) ws os h = (refl, h)
paired-closing f [] (x ∷ ws) os h = (refl, h)
paired-closing f [] [] os h = (refl, h)

paired-drop_next : (q : List ℕ) (p : ℕ) (w : World) (os : List Op) → Paired os → Paired ((drop_next_by p w q).next ++ os)
paired-drop_next [] p w os h = h
paired-drop_next (f ∷ rest) p w os h = paired-closing f rest (w.waking ++ f ∷ []) os h

paired-act : (b : Bool) (p : ℕ) (h : Hint) (o : Op) (w : World) (os : List Op) → leads_near o ≡ b → Paired (o ∷ os) →
    Paired ((act p h o w).next ++ os)
paired-act false p h o w os n k = paired-more (act p h o w).next os (near-act p h o w n) (paired-rest o os k)
paired-act true p h (Op.Table (TableOp.TakeToPoll f)) w os n k = k
paired-act true p h (Op.Table (TableOp.TakeToDrop f)) w os n k = k
paired-act true p h (Op.User (UserOp.BeginDrop f)) w os n k = (refl, k)
paired-act true p h (Op.User (UserOp.BeginDropOutput f)) w os n k = k
paired-act true p h (Op.User o) w os n k = k
paired-act true p h (Op.Closing ClosingOp.DropNext) w os n k = paired-drop_next _ p w os k
paired-act true p h _ w os n k = absurd (cc)

paired-react : (p : ℕ) (o : Op) (u : UserEnd) (w : World) (os : List Op) → accepts o u ≡ true → Paired (o ∷ os) →
    Paired ((react p o u w).next ++ os)
paired-react p (Op.User (UserOp.Poll f)) (UserEnd.Polled Answer.Pending) w os a k = k
paired-react p (Op.User (UserOp.Poll f)) (UserEnd.Polled Answer.Ready) w os a k = k
paired-react p (Op.User (UserOp.Drop f)) UserEnd.Done w os a k = k.1
paired-react p (Op.User (UserOp.DropOutput f)) UserEnd.Done w os a k = k
paired-react p (Op.User (UserOp.CallOutside x)) UserEnd.Done w os a k = k
paired-react p (Op.User (UserOp.PollOwn x)) (UserEnd.Polled Answer.Pending) w os a k = k
paired-react p (Op.User (UserOp.PollOwn x)) (UserEnd.Polled Answer.Ready) w os a k = k
paired-react p (Op.User (UserOp.DropOwn r)) UserEnd.Done w os a k = k
paired-react p _ _ w os a k = absurd (cc)

-- of a machine

abbrev pub Pairs : Machine → Type 0
Pairs s = (q : ℕ) → Paired (reverse (stack s q))

flipped : (rest old : List Op) → reverse (rest ++ reverse old) ≡ old ++ reverse rest
flipped rest old = reverse-append rest (reverse old)
    ∙ ap (λ (xs : List Op). xs ++ reverse rest) (reverse-reverse old)

pairs-push : (s : Machine) (p : ℕ) (rest : List Op) (d : Done) → p < length s.parties → Paired (d.next ++ reverse rest) →
    Pairs s → Pairs (unsettled s p rest d)
pairs-push s p rest d l k h q = by (eqb q p) refl
  where
    by : (b : Bool) → eqb q p ≡ b → Paired (reverse (get_or (set s.parties p (rest ++ reverse d.next)) q []))
    by true z =
        let i : p ≡ q = grind (arith, nat_tests) in
        subst Paired (sym (ap (λ (xs : List Op). reverse xs)
        (ap (λ (n : ℕ). get_or (set s.parties p (rest ++ reverse d.next)) n []) (sym i)
        ∙ get_or-set_same s.parties p (rest ++ reverse d.next) [] l) ∙ flipped rest d.next)) k
    by false z =
        let n : q ≢ p = grind (arith, nat_tests) in
        subst Paired (sym (ap (λ (xs : List Op). reverse xs)
        (get_or-set_other s.parties p q (rest ++ reverse d.next) [] n))) (h q)

pairs-moves : (s : Machine) (p : ℕ) (old rest : List Op) (d : Done) → Good s → p < length s.parties →
    stack s p ≡ rest ++ reverse old → Way s p old rest d → Pairs s → Pairs (unsettled s p rest d)
pairs-moves s p old rest d good l e way h = pairs-push s p rest d l (by way) h
  where
    was : Paired (old ++ reverse rest)
    was = subst Paired (ap (λ (xs : List Op). reverse xs) e ∙ flipped rest old) (h p)

    by : Way s p old rest d → Paired (d.next ++ reverse rest)
    by (acted t o q z) =
        subst (λ (x : Done). Paired (x.next ++ reverse rest)) (sym z)
        (paired-act (leads_near o) p t o s.world (reverse rest) refl
        (subst (λ (xs : List Op). Paired (xs ++ reverse rest)) q was))
    by (reacted o u a q z) =
        subst (λ (x : Done). Paired (x.next ++ reverse rest)) (sym z)
        (paired-react p o u s.world (reverse rest) a (subst (λ (xs : List Op). Paired (xs ++ reverse rest)) q was))
    by (called c q r n z) =
        let w : World = log s.world (Event.CallBegun p c) in
        subst (λ (x : Done). Paired (x.next ++ reverse rest)) (sym z)
        (paired-more _ (reverse rest) (near-begun p w (mine (top (stack s p))) c)
        (subst (λ (xs : List Op). Paired (xs ++ reverse rest)) q was))

pairs-ends : (s : Machine) (p : ℕ) (a : Reply) (held : Hold) (below : List Op) → p < length s.parties →
    stack s p ≡ below ++ reverse (Op.End a held ∷ []) → Pairs s →
    Pairs (unsettled s p below (done (log s.world (Event.CallEnded p a)) []))
pairs-ends s p a held below l e h = pairs-push s p below (done (log s.world (Event.CallEnded p a)) []) l
    (subst Paired (ap (λ (xs : List Op). reverse xs) e ∙ flipped below (Op.End a held ∷ [])) (h p)) h

pairs-start : (limit : ℕ) (kind : Kind) (n : ℕ) → Pairs (start limit kind n)
pairs-start limit kind n q = subst Paired (sym (ap (λ (xs : List Op). reverse xs) (idle-stack n q))) tt

pub pairs : (limit : ℕ) (kind : Kind) (n : ℕ) (ts : List Step) → Pairs (run ts (start limit kind n))
pairs limit kind n ts = along Pairs pairs-moves pairs-ends ts (start limit kind n) (good-start limit kind n) (pairs-start limit kind n)

-- a drop in progress has the one or the other behind it

record Covers (f : ℕ) (os : List Op) : Type 0 where
  pub all : weigh (dropping_of f) os ≤ weigh (leaves_of f) os + weigh closing_of os
  pub first : (g : ℕ) → Behind g os → same f g + weigh (dropping_of f) os ≤ weigh (leaves_of f) os + weigh closing_of os

few-same : (f g : ℕ) → same f g ≤ 1
few-same f g = grind (arith, same_cases)

covers-all : (f : ℕ) (o : Op) (os : List Op) → Paired (o ∷ os) → Covers f os →
    weigh (dropping_of f) (o ∷ os) ≤ weigh (leaves_of f) (o ∷ os) + weigh closing_of (o ∷ os)
covers-all f (Op.User (UserOp.Drop g)) os h c = omega (arith, c.first g h.0)
covers-all f (Op.User (UserOp.Poll g)) os h c = omega (arith, c.all)
covers-all f (Op.Table (TableOp.Enter mark)) os h c = omega (arith, c.all)
covers-all f _ os h c = omega (arith, c.all)

covers-first : (f : ℕ) (o : Op) (os : List Op) → Covers f os → (g : ℕ) → Behind g (o ∷ os) →
    same f g + weigh (dropping_of f) (o ∷ os) ≤ weigh (leaves_of f) (o ∷ os) + weigh closing_of (o ∷ os)
covers-first f (Op.Table (TableOp.LeaveTable j)) os c g b = omega (arith, c.all, ap (same f) b)
covers-first f (Op.Closing o) os c g b = omega (arith, c.all, b, few-same f g)
covers-first f _ os c g b = absurd b

covers : (f : ℕ) (os : List Op) → Paired os → Covers f os
covers f [] h = record { all = omega arith; first = λ g b. absurd b }
covers f (o ∷ os) h =
    let c : Covers f os = covers f os (paired-rest o os h) in
    record { all = covers-all f o os h c; first = covers-first f o os c }

covers-parties : (f : ℕ) (ss : List (List Op)) → ((q : ℕ) → Paired (reverse (get_or ss q []))) →
    weigh_all (dropping_of f) ss ≤ weigh_all (leaves_of f) ss + weigh_all closing_of ss
covers-parties f [] h = omega arith
covers-parties f (s ∷ ss) h = omega (
  arith,
  (covers f (reverse s) (h 0)).all,
  weigh-reverse (dropping_of f) s,
  weigh-reverse (leaves_of f) s,
  weigh-reverse closing_of s,
  covers-parties f ss (λ q. h (suc q)),
)

-- and so its entry is there

no-closing : (n : ℕ) (gone : Bool) (o : ℕ) → (1 ≤ n → (gone ≡ true) × (o ≡ 0)) → (gone ≡ false) ⊎ (1 ≤ o) → n ≡ 0
no-closing zero gone o k t = refl
no-closing (suc n) gone o k t =
    let x = k (omega arith) in
    ⊎_elim
    (λ (e : gone ≡ false). let no : true ≡ false = sym x.0 ∙ e in absurd (cc))
    (λ (e : 1 ≤ o). absurd (omega (arith, e, x.1))) t

entry-outlasts : (s : Machine) (f : ℕ) → Good s → Placed s → Pairs s → EntryOutlastsDrop s f
entry-outlasts s f fine h k t n = omega (
  arith,
  n,
  covers-parties f s.parties k,
  no-closing _ _ _ (h.leaves f).late (tables s f fine h t),
  agrees s f fine h t,
  (h.leaves f).behind,
  (h.leaves f).once,
  one-accepted s f fine h,
)

pub entries-outlast : (limit : ℕ) (kind : Kind) (parties : ℕ) (steps : List Step) (f : ℕ) →
    EntryOutlastsDrop (run steps (start limit kind parties)) f
entries-outlast limit kind parties steps f =
    entry-outlasts (run steps (start limit kind parties)) f (good limit kind parties steps) (placed limit kind parties steps)
    (pairs limit kind parties steps)
