-- For keepers_are_called.
-- What is done with the list of queues, by a run that leaves and by one that pauses leaves of the own queues and of
-- who has a kept future in hand.
use Rattle.std.proofs.Common.{◌≡◌, ◌≢◌, ◌⊎◌, ◌∙◌, ℕ, zero, suc, ◌<◌, ◌≤◌, List, [], ◌∷◌, ◌++◌, length, get_or, set, Bool, true}
use Rattle.std.proofs.Common.{false, cond, eqb, refl, sym, ap, subst, inl, inr, ⊎_elim, arith, get_or-set_other, length-append}
use Rattle.executor_laws.proofs.Types.{Task, Outside, Hint, Move, Reply, Event, Hold, ListOp, Op, Polled, RunOp, RunPoll}
use Rattle.executor_model.specs.World.{World, Stage, New, Listed, Ended, Run, done, log, new_run, no_run, own_of, run_of}
use Rattle.executor_model.specs.{Sound.times, Weights.same, Weights.weigh}
use Rattle.executor_model.proofs.Steps.Lists.{same_cases, weigh-append}
use Rattle.executor_model.proofs.OwnQueues.UsingWorlds.{Idle, idle, idle-act, count-set, is_past}
use Rattle.executor_model.proofs.{Steps.Lift.no_hint, OwnQueues.Using.mild-next}
use Rattle.executor_laws.proofs.Keepers.KeptWeights.{is_end_ready, mild-quits, quits_of, readies_of}
use Rattle.executor_laws.proofs.Keepers.KeptLeads.{IsPast, Leads, of-idle}
use Rattle.executor_laws.proofs.{Types.Section, Types.UserOp, Types.Waker, Keepers.KeptTrace.Parted, Keepers.KeptTrace.or-true}
use Rattle.executor_laws.proofs.{Wakeups.StandsGoing.walks-registered, Keepers.KeptSearch.of-walks}
use Rattle.executor_model.specs.ActsOfRuns as runs

-- the list of queues

run-kept : (rs : List Run) (x : Run) (r : ℕ) → r < length rs → get_or (rs ++ x ∷ []) r no_run ≡ get_or rs r no_run
run-kept [] x r h = absurd (omega (arith, h))
run-kept (y ∷ rs) x zero h = refl
run-kept (y ∷ rs) x (suc r) h = run-kept rs x r (omega (arith, h))

past-made : (rs : List Run) (r : ℕ) →
    (r < length (rs ++ new_run ∷ [])) × (is_past (get_or (rs ++ new_run ∷ []) r no_run) ≡ true) →
    (r < length rs) × (is_past (get_or rs r no_run) ≡ true)
past-made [] zero e = absurd (let no : false ≡ true = e.1 in cc)
past-made [] (suc r) e = absurd (omega (arith, e.0))
past-made (y ∷ rs) zero e = (omega arith, e.1)
past-made (y ∷ rs) (suc r) e = let k : _ = past-made rs r (omega (arith, e.0), e.1) in (omega (arith, k.0), k.1)

own-made : (f r : ℕ) (qs : List (List ℕ)) → times f (get_or (qs ++ [] ∷ []) r []) ≡ times f (get_or qs r [])
own-made f zero [] = refl
own-made f (suc r) [] = refl
own-made f zero (x ∷ qs) = refl
own-made f (suc r) (x ∷ qs) = own-made f r qs

pub keeps-make : (b : Bool) (w : World) → Leads w (Op.List (ListOp.Write Section.MakeRun) ∷ []) (runs.make_run_by b w)
keeps-make true w = of-idle w _ _ (idle w w refl refl refl) (λ r. refl) (λ r. refl) (λ f. omega arith)
keeps-make false w = record {
  count = omega (arith, length-append w.runs (new_run ∷ []));
  past = λ r e. (omega (arith, e.0, length-append w.runs (new_run ∷ [])), ap is_past (run-kept w.runs new_run r e.0) ∙ e.1);
  fresh = λ r e. inl (past-made w.runs r e);
  readies = λ r. omega arith;
  quits = λ r. inl (omega arith);
  load = λ f r. inl (omega (arith, own-made f r w.own));
}

pub keeps-register : (s : Stage) (w : World) (x : RunPoll) → (run_of w x.run).stage ≡ s →
    Leads w (Op.List (ListOp.Write (Section.Register x)) ∷ [])
    (done (runs.registered s w x.run) (Op.List ListOp.UnlockWrite ∷ Op.User (UserOp.PollOwn x) ∷ []))
keeps-register New w x e = of-walks w x _ _ (walks-registered New w x e) (λ r. refl) (λ r. refl) (λ f r. omega arith)
keeps-register Listed w x e =
    of-walks w x _ _ (walks-registered Listed w x e) (λ r. refl) (λ r. refl) (λ f r. omega arith)
keeps-register Ended w x e =
    of-walks w x _ _ (walks-registered Ended w x e) (λ r. refl) (λ r. refl) (λ f r. omega arith)

-- a run that leaves the list is over
over-now : (w : World) (q : ℕ) → q < length w.runs → IsPast (runs.unregistered w q) q
over-now w q l = (omega (arith, l, count-set w.runs q (record (run_of w q) { stage = Ended })), by w.runs q)
  where
    by : (rs : List Run) (q : ℕ) →
        is_past (get_or (set rs q (record (get_or rs q no_run) { stage = Ended })) q no_run) ≡ true
    by [] q = refl
    by (x ∷ rs) zero = or-true x.dropped
    by (x ∷ rs) (suc q) = by rs q

over-other : (w : World) (q r : ℕ) → r ≢ q → run_of (runs.unregistered w q) r ≡ run_of w r
over-other w q r n = get_or-set_other w.runs q r (record (run_of w q) { stage = Ended }) no_run n

pub keeps-unregister : (w : World) (q : ℕ) (a : Reply) (h : Hint) → q < length w.runs →
    (1 ≤ weigh (quits_of q) (Op.List (ListOp.Write (Section.Unregister q a)) ∷ []) → IsPast w q) →
    Leads w (Op.List (ListOp.Write (Section.Unregister q a)) ∷ []) (runs.write h (Section.Unregister q a) w)
keeps-unregister w q a h l k = record {
  count = omega (arith, same_count);
  past = λ r e. ⊎_elim
      (λ (x : (same r q ≡ 1) × (eqb r q ≡ true) × (r ≡ q)). subst (IsPast (runs.unregistered w q)) (sym x.2)
      (over-now w q l))
      (λ (x : (same r q ≡ 0) × (eqb r q ≡ false) × (r ≢ q)).
      (omega (arith, e.0, same_count), ap is_past (over-other w q r x.2) ∙ e.1))
      (same_cases r q);
  fresh = λ r e. ⊎_elim
      (λ (x : (same r q ≡ 1) × (eqb r q ≡ true) × (r ≡ q)). by r (is_end_ready a) refl x.0 x.2)
      (λ (x : (same r q ≡ 0) × (eqb r q ≡ false) × (r ≢ q)).
      inl (omega (arith, e.0, same_count), sym (ap is_past (over-other w q r x.2)) ∙ e.1))
      (same_cases r q);
  readies = λ r. omega arith;
  quits = λ r. ⊎_elim
      (λ (x : (same r q ≡ 1) × (eqb r q ≡ true) × (r ≡ q)). inr (subst (IsPast (runs.unregistered w q)) (sym x.2)
      (over-now w q l)))
      (λ (x : (same r q ≡ 0) × (eqb r q ≡ false) × (r ≢ q)). inl (omega (arith, x.0)))
      (same_cases r q);
  load = λ f r. inl (omega arith);
}
  where
    same_count : length (runs.unregistered w q).runs ≡ length w.runs
    same_count = count-set w.runs q (record (run_of w q) { stage = Ended })

    by : (r : ℕ) (b : Bool) → is_end_ready a ≡ b → same r q ≡ 1 → r ≡ q →
        IsPast w r ⊎ ((1 ≤ weigh (readies_of r) (Op.List ListOp.UnlockWrite ∷ Op.Run (RunOp.Reschedule q a) ∷ []))
        ⊎ Parted r w.trace)
    by r true e z i = inr (inl (omega (arith, z, ap (λ (c : Bool). cond c (same r q) 0) e)))
    by r false e z i = inl (subst (IsPast w) (sym i) (k (omega (
      arith,
      ap (λ (n : ℕ). same n q) i,
      z,
      ap (λ (c : Bool). cond c 0 (same q q)) e,
    ))))

-- what is left is scheduled

pub keeps-reschedule : (ys : List ℕ) (w : World) (q : ℕ) (a : Reply) → own_of w q ≡ ys → IsPast w q →
    Leads w (Op.Run (RunOp.Reschedule q a) ∷ []) (runs.reschedule_by ys w q a)
keeps-reschedule [] w q a e k = record {
  count = omega arith;
  past = λ r i. i;
  fresh = λ r i. inl i;
  readies = λ r. omega arith;
  quits = λ r. inl (omega arith);
  load = λ f r. inl (omega arith);
}
keeps-reschedule (g ∷ rest) w q a e k = record {
  count = omega arith;
  past = λ r i. i;
  fresh = λ r i. inl i;
  readies = λ r. omega arith;
  quits = λ r. inl (omega arith);
  load = λ f r. ⊎_elim
      (λ (x : (same r q ≡ 1) × (eqb r q ≡ true) × (r ≡ q)). inr (inr (subst (IsPast w) (sym x.2) k)))
      (λ (x : (same r q ≡ 0) × (eqb r q ≡ false) × (r ≢ q)).
      inl (omega (arith, ap (times f) (get_or-set_other w.own q r rest [] x.2))))
      (same_cases r q);
}

idle-reference : (p : ℕ) (w : World) (a : Waker) → Idle w (runs.call_by_reference p w a).world
idle-reference p w (Task g) = idle-act p no_hint (Op.Move Move.WakeByReference g) w refl
idle-reference p w (Outside y) = idle w w refl refl refl

pub keeps-wake : (p : ℕ) (w : World) (x : RunPoll) →
    Leads w (Op.Run (RunOp.WakeOwn x) ∷ []) (runs.wake_own p w x)
keeps-wake p w x = let v = log w (Event.WakerCalled p (Polled.Run x.run) x.poll x.waker) in
    let i : Idle v (runs.call_by_reference p v x.waker).world = idle-reference p v x.waker in
    of-idle w _ (runs.wake_own p w x)
    (record { own = i.own; past = i.past; count = i.count; gone = i.gone }) (λ r. refl)
    (λ r. none r p v x.waker x.run) (λ f. omega arith)
  where
    none : (r p : ℕ) (v : World) (a : Waker) (q : ℕ) →
        weigh (quits_of r) ((runs.call_by_reference p v a).next ++ Op.End Reply.Pending (Hold.Run q) ∷ []) ≡ 0
    none r p v (Task g) q = omega (
      arith,
      weigh-append (quits_of r) (runs.call_by_reference p v (Task g)).next (Op.End Reply.Pending (Hold.Run q) ∷ []),
      mild-next (quits_of r) (mild-quits r) p no_hint (Op.Move Move.WakeByReference g) v refl,
    )
    none r p v (Outside y) q = refl
