-- For calls_end and lone_calls_end.
-- What one party does makes no own queue of another's run longer, and no walk longer than its number says.
use Rattle.std.proofs.Common.{◌≡◌, ◌≢◌, ℕ, suc, ◌+◌, ◌≤◌, ◌%◌, List, [], ◌∷◌, length, Bool, true, false, ◌++◌, eqb, refl, ap}
use Rattle.std.{proofs.Common.sym, proofs.Common.◌∙◌, proofs.Common.⊎_elim, proofs.Common.arith, proofs.lemmas.List.length_push}
use Rattle.executor_laws.proofs.Types.{Hint, UserEnd, Move, Answer, ListOp, Op, RunOp, RunPoll, Section, Steal, UserOp, Waker}
use Rattle.executor_laws.proofs.Types.{Task, Outside}
use Rattle.executor_model.specs.Weights.{same, weigh, weigh_all}
use Rattle.executor_model.specs.World.{World, Stage, New, Listed, Ended, Done, own_of, put_own, without}
use Rattle.executor_model.specs.{Doing.act, Doing.list_act, Rows.running_of, Steps.accepts, Steps.react}
use Rattle.executor_laws.specs.Costs.{left_by, registers_of}
use Rattle.executor_model.proofs.OwnQueues.RunsDone.{Deed, keeps, takes, lacks, shares, grows, wakes, lists, deed-act, is_loud}
use Rattle.executor_model.proofs.OwnQueues.RunsDone.{loud, loud-weigh, walks-by, Stole, to_leave, to_walk, More, no_more, one_more, Walks}
use Rattle.executor_model.proofs.OwnQueues.RunsDone.{walk_ends, walk_on, Missing, misses_there, Leads, finds, stole, looks}
use Rattle.executor_model.proofs.OwnQueues.OwnRooms.{Shorter, grown, made-length, of_coat, same-own, shorter-taken}
use Rattle.executor_model.proofs.OwnQueues.RunsAside.{Hull, apart-act, coat, hull, hull_of, runs_of}
use Rattle.executor_model.proofs.{Steps.Lift.no_hint, Steps.Lists.same_is, Steps.Lists.same_cases}
use Rattle.executor_model.specs.ActsOfRuns as runs

pub record Beside (w : World) (o : Op) (d : Done) : Type 0 where
  pub own : (r : ℕ) → running_of r o ≡ 0 → length (own_of d.world r) ≤ length (own_of w r)
  pub queues : length d.world.listed + weigh registers_of d.next ≤ length w.listed + registers_of o

-- own queues stay or get shorter, and the list stays
aside : (w : World) (o : Op) (d : Done) → Shorter w d.world → d.world.listed ≡ w.listed →
    weigh registers_of d.next ≡ 0 →
    Beside w o d
aside w o d s l n = record {
  own = λ r z. s.own r;
  queues = omega (arith, n, ap (λ (xs : List ℕ). length xs) l);
}

listed-of : (w v : World) → hull w ≡ hull v → v.listed ≡ w.listed
listed-of w v e = ap (λ (h : Hull). h.listed) (sym e)

quiet-registers : (o : Op) → is_loud o ≡ false → registers_of o ≡ 0
quiet-registers (Op.List o) z = absurd (cc)
quiet-registers _ z = refl

-- what follows brings no own queue into the list

stole-registers : (x : RunPoll) (n : ℕ) (os : List Op) → Stole x n os → weigh registers_of os ≡ 0
stole-registers x n os (to_walk at left) = refl
stole-registers x n os to_leave = refl
stole-registers x n os _ = refl

more-registers : (s : Steal) (k : ℕ) (os : List Op) → More s k os → weigh registers_of os ≡ 0
more-registers s k os (no_more z) = stole-registers _ _ os z
more-registers s k os (one_more j) = refl

walks-registers : (x : RunPoll) (os : List Op) → Walks x os → weigh registers_of os ≡ 0
walks-registers x os walk_ends = refl
walks-registers x os (walk_on r at left) = refl

missing-registers : (q : ℕ) (o : Op) (os : List Op) → Missing q o os → weigh registers_of os ≡ 0
missing-registers q o os (misses_there x at left z) = walks-registers x os z
missing-registers q o os _ = refl

leads-registers : (o : Op) (os : List Op) → Leads o os → weigh registers_of os ≡ 0
leads-registers o os (finds x z) = stole-registers x 0 os z
leads-registers o os (stole a z) = stole-registers _ _ os z
leads-registers o _ (looks x at left {os = os} z) = omega (arith, stole-registers x 0 os z)
leads-registers o os _ = refl

aside-loud : (w : World) (o : Op) (d : Done) → Shorter w d.world → d.world.listed ≡ w.listed →
    weigh registers_of (loud d.next) ≡ 0 → Beside w o d
aside-loud w o d s l n = aside w o d s l (loud-weigh registers_of quiet-registers d.next ∙ n)

listed-coat : (w v : World) → coat w ≡ coat v → v.listed ≡ w.listed
listed-coat w v e = listed-of w v (ap hull_of e)

other : (r q : ℕ) → same r q ≡ 0 → r ≢ q
other r q z = ⊎_elim (λ (x : (same r q ≡ 1) × (eqb r q ≡ true) × (r ≡ q)). absurd (omega (arith, z, x.0)))
    (λ (x : (same r q ≡ 0) × (eqb r q ≡ false) × (r ≢ q)). x.2) (same_cases r q)

-- a run's own waker, and what is left

pub by_reference : (p : ℕ) (w : World) (a : Waker) → (hull w ≡ hull (runs.call_by_reference p w a).world)
    × (weigh runs_of (runs.call_by_reference p w a).next ≡ 0)
by_reference p w (Outside y) = (refl, refl)
by_reference p w (Task g) = let x = apart-act p no_hint (Op.Move Move.WakeByReference g) w refl in (x.hull, x.runs)

-- the list

beside-made : (b : Bool) (w : World) → Beside w (Op.List (ListOp.Write Section.MakeRun)) (runs.make_run_by b w)
beside-made true w = aside w _ _ (same-own w w refl) refl refl
beside-made false w = record { own = λ r z. omega (arith, made-length w.own r); queues = omega arith }

beside-register : (t : Stage) (w : World) (x : RunPoll) →
    Beside w (Op.List (ListOp.Write (Section.Register x)))
    (record {
      world = runs.registered t w x.run;
      next = Op.List ListOp.UnlockWrite ∷ Op.User (UserOp.PollOwn x) ∷ [];
    })
beside-register New w x = record { own = λ r z. omega arith; queues = omega (arith, length_push w.listed x.run) }
beside-register Listed w x = record { own = λ r z. omega arith; queues = omega arith }
beside-register Ended w x = record { own = λ r z. omega arith; queues = omega arith }

without-less : (r : ℕ) (xs : List ℕ) → length (without r xs) ≤ length xs
without-less r [] = omega arith
without-less r (x ∷ xs) = by (eqb r x) (without-less r xs)
  where
    by : (b : Bool) → length (without r xs) ≤ length xs →
        length (let h : List ℕ = elim b [ true ↦ xs | false ↦ x ∷ without r xs ] in h) ≤ suc (length xs)
    by true z = omega arith
    by false z = omega (arith, z)

beside-list : (h : Hint) (o : ListOp) (w : World) → Beside w (Op.List o) (list_act h o w)
beside-list h (ListOp.LockWrite (Section.Register x)) w = record { own = λ r z. omega arith; queues = omega arith }
beside-list h (ListOp.Write Section.MakeRun) w = beside-made _ w
beside-list h (ListOp.Write (Section.Register x)) w = beside-register _ w x
beside-list h (ListOp.Write (Section.Unregister r a)) w =
    record { own = λ q z. omega arith; queues = omega (arith, without-less r w.listed) }
beside-list h (ListOp.LockRead x) w =
    aside-loud w _ (runs.lock_read h w x) (same-own w _ refl) refl
    (walks-registers x _ (walks-by x w.listed (h.start % length w.listed) (length w.listed)))
beside-list h _ w = aside w _ _ (same-own w _ refl) refl refl

-- each thing that is done

beside-deed : (w : World) (o : Op) (d : Done) → Deed w o d → Beside w o d
beside-deed w o d (keeps e l) =
    aside-loud w o d (of_coat w d.world e) (listed-coat w d.world e) (leads-registers o _ l)
beside-deed w o d (takes q f rest i e l) =
    aside-loud w o d (shorter-taken w d.world q f rest i e) (listed-coat (put_own w q rest) d.world e)
    (leads-registers o _ l)
beside-deed w o d (lacks q i e l) =
    aside-loud w o d (of_coat w d.world e) (listed-coat w d.world e) (missing-registers q o _ l)
beside-deed w o d (shares s i k b e m) =
    aside-loud w o d (of_coat w d.world e) (listed-coat w d.world e) (more-registers s k _ m)
beside-deed w o d (grows s k f e m) =
    let v = put_own w s.poll.run (own_of w s.poll.run ++ f ∷ []) in record {
      own = λ r z. omega (arith, grown w.own s.poll.run f r (other r s.poll.run z), (of_coat v d.world e).own r);
      queues = omega (
        arith,
        loud-weigh registers_of quiet-registers d.next,
        more-registers s k _ m,
        ap (λ (xs : List ℕ). length xs) (listed-coat v d.world e),
      );
    }
beside-deed w o d (wakes p x e z) =
    aside-loud w o d (of_coat w d.world e) (listed-coat w d.world e) (ap (weigh registers_of) z)
beside-deed w o d (lists h l) = beside-list h l w

pub beside-act : (p : ℕ) (h : Hint) (o : Op) (w : World) → Beside w o (act p h o w)
beside-act p h o w = beside-deed w o (act p h o w) (deed-act p h o w)

pub beside-react : (p : ℕ) (o : Op) (u : UserEnd) (w : World) → accepts o u ≡ true → Beside w o (react p o u w)
beside-react p (Op.User (UserOp.Poll f)) (UserEnd.Polled Answer.Pending) w a = aside w _ _ (same-own w _ refl) refl refl
beside-react p (Op.User (UserOp.Poll f)) (UserEnd.Polled Answer.Ready) w a = aside w _ _ (same-own w _ refl) refl refl
beside-react p (Op.User (UserOp.Drop f)) UserEnd.Done w a = aside w _ _ (same-own w _ refl) refl refl
beside-react p (Op.User (UserOp.DropOutput f)) UserEnd.Done w a = aside w _ _ (same-own w _ refl) refl refl
beside-react p (Op.User (UserOp.CallOutside x)) UserEnd.Done w a = aside w _ _ (same-own w _ refl) refl refl
beside-react p (Op.User (UserOp.PollOwn x)) (UserEnd.Polled Answer.Pending) w a = aside w _ _ (same-own w _ refl) refl refl
beside-react p (Op.User (UserOp.PollOwn x)) (UserEnd.Polled Answer.Ready) w a = aside w _ _ (same-own w _ refl) refl refl
beside-react p (Op.User (UserOp.DropOwn q)) UserEnd.Done w a = aside w _ _ (same-own w _ refl) refl refl
beside-react p _ _ w a = absurd (cc)

-- so what others have still to schedule is no more

module _ (w v : World) where
  -- of runs that they use
  abbrev Kept : List (List Op) → Type 0
  Kept ss = (r : ℕ) → 1 ≤ weigh_all (running_of r) ss → length (own_of v r) ≤ length (own_of w r)

  left-op : (o : Op) → ((r : ℕ) → 1 ≤ running_of r o → length (own_of v r) ≤ length (own_of w r)) →
      left_by v o ≤ left_by w o
  left-op (Op.Run (RunOp.Reschedule r a)) k = k r (let e : same r r ≡ 1 = grind (arith, same_is) in omega (arith, e))
  left-op _ k = omega arith

  left-ops : (os : List Op) → ((r : ℕ) → 1 ≤ weigh (running_of r) os → length (own_of v r) ≤ length (own_of w r)) →
      weigh (left_by v) os ≤ weigh (left_by w) os
  left-ops [] k = omega arith
  left-ops (o ∷ os) k = omega (arith, left-op o (λ r l. k r (omega (arith, l))), left-ops os (λ r l. k r (omega (arith, l))))

  pub left-all : (ss : List (List Op)) → Kept ss → weigh_all (left_by v) ss ≤ weigh_all (left_by w) ss
  left-all [] k = omega arith
  left-all (s ∷ ss) k = omega (arith, left-ops s (λ r l. k r (omega (arith, l))), left-all ss (λ r l. k r (omega (arith, l))))

-- beside a party whose run is used by no other
pub left-others : (w : World) (o : Op) (d : Done) (others : List (List Op)) → Beside w o d →
    ((r : ℕ) → running_of r o + weigh_all (running_of r) others ≤ 1) →
    weigh_all (left_by d.world) others ≤ weigh_all (left_by w) others
left-others w o d others b once = left-all w d.world others (λ r l. b.own r (omega (arith, once r, l)))
