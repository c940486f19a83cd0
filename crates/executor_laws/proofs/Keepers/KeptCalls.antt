-- For keepers_are_called.
-- What the beginning of a call leaves of the own queues and of the runs that are over.
use Rattle.std.proofs.Common.{◌≡◌, ◌≢◌, ◌∙◌, ℕ, zero, suc, ◌<◌, ◌≤◌, List, [], ◌∷◌, length, get_or, set, true, false, eqb, refl}
use Rattle.std.proofs.Common.{sym, ap, subst, inl, inr, ⊎_elim, arith, get_or-set_other}
use Rattle.std.specs.Prelude.{Option, Some, None}
use Rattle.executor_laws.proofs.Types.{Call, Event, Op, RunPoll, Waker}
use Rattle.executor_model.specs.Steps.{begun, drop_run, future_of, kept, poll_run, with_future}
use Rattle.executor_model.specs.World.{World, Stage, New, Listed, Ended, Run, Done, done, log, no_run, put_run, run_of}
use Rattle.executor_model.specs.{Sound.times, Weights.same, Weights.weigh}
use Rattle.executor_model.proofs.{OwnQueues.UsingWorlds.count-set, OwnQueues.UsingWorlds.is_past, Steps.Lists.same_cases}
use Rattle.executor_laws.proofs.Keepers.KeptLeads.{IsPast, Leads, steady}
use Rattle.executor_laws.proofs.{Keepers.KeptTrace.Parted, Keepers.KeptTrace.parted-dropped, Keepers.KeptWeights.quits_of}

-- the beginning of a call

begins : (w v : World) (next : List Op) → v.runs ≡ w.runs → v.own ≡ w.own → ((r : ℕ) → weigh (quits_of r) next ≡ 0) →
    Leads w [] (done v next)
begins w v next a b q = steady w [] (done v next) (λ r. ap (λ (rs : List Run). is_past (get_or rs r no_run)) a)
    (ap (λ (rs : List Run). length rs) a) (λ r. refl) q
    (λ f r. omega (arith, ap (λ (qs : List (List ℕ)). times f (get_or qs r [])) b))

begins-with : (w v : World) (x : Option ℕ) (d : ℕ → Done) → v.runs ≡ w.runs → v.own ≡ w.own →
    ((f : ℕ) → Leads w [] (d f)) → Leads w [] (with_future v x d)
begins-with w v None d a b k = begins w v [] a b (λ r. refl)
begins-with w v (Some f) d a b k = k f

begins-poll : (s : Stage) (w v : World) (x : RunPoll) → v.runs ≡ w.runs → v.own ≡ w.own →
    Leads w [] (done v (poll_run s x))
begins-poll New w v x a b = begins w v _ a b (λ r. refl)
begins-poll Listed w v x a b = begins w v _ a b (λ r. refl)
begins-poll Ended w v x a b = begins w v _ a b (λ r. refl)

off-now : (rs : List Run) (q : ℕ) →
    is_past (get_or (set rs q (record (get_or rs q no_run) { dropped = true })) q no_run) ≡ true
off-now [] q = refl
off-now (x ∷ rs) zero = refl
off-now (x ∷ rs) (suc q) = off-now rs q

quits-drop : (s : Stage) (q r : ℕ) → weigh (quits_of r) (drop_run s q) ≤ same r q
quits-drop New q r = omega arith
quits-drop Listed q r = omega arith
quits-drop Ended q r = omega arith

-- a run is dropped
begins-drop : (s : Stage) (p : ℕ) (w : World) (q : ℕ) → q < length w.runs →
    Leads w [] (done (log (put_run (log w (Event.CallBegun p (Call.DropRun q))) q
    (record (run_of w q) { dropped = true })) (Event.RunDropped p q)) (drop_run s q))
begins-drop s p w q l = record {
  count = omega (arith, same_count);
  past = λ r e. ⊎_elim
      (λ (x : (same r q ≡ 1) × (eqb r q ≡ true) × (r ≡ q)). subst (IsPast v) (sym x.2) now)
      (λ (x : (same r q ≡ 0) × (eqb r q ≡ false) × (r ≢ q)).
      (omega (arith, e.0, same_count), ap is_past (apart r x.2) ∙ e.1))
      (same_cases r q);
  fresh = λ r e. ⊎_elim
      (λ (x : (same r q ≡ 1) × (eqb r q ≡ true) × (r ≡ q)).
      inr (inr (subst (λ (n : ℕ). Parted n v.trace) (sym x.2)
      (parted-dropped q p (log w (Event.CallBegun p (Call.DropRun q))).trace))))
      (λ (x : (same r q ≡ 0) × (eqb r q ≡ false) × (r ≢ q)).
      inl (omega (arith, e.0, same_count), sym (ap is_past (apart r x.2)) ∙ e.1))
      (same_cases r q);
  readies = λ r. omega arith;
  quits = λ r. ⊎_elim
      (λ (x : (same r q ≡ 1) × (eqb r q ≡ true) × (r ≡ q)). inr (subst (IsPast v) (sym x.2) now))
      (λ (x : (same r q ≡ 0) × (eqb r q ≡ false) × (r ≢ q)). inl (omega (arith, x.0, quits-drop s q r)))
      (same_cases r q);
  load = λ f r. inl (omega arith);
}
  where
    v : World
    v = log (put_run (log w (Event.CallBegun p (Call.DropRun q))) q (record (run_of w q) { dropped = true }))
        (Event.RunDropped p q)

    same_count : length v.runs ≡ length w.runs
    same_count = count-set w.runs q (record (run_of w q) { dropped = true })

    now : IsPast v q
    now = (omega (arith, l, same_count), off-now w.runs q)

    apart : (r : ℕ) → r ≢ q → run_of v r ≡ run_of w r
    apart r n = get_or-set_other w.runs q r (record (run_of w q) { dropped = true }) no_run n

-- what the call needs: the run is there
abbrev pub Drops : Call → World → Type 0
Drops (Call.DropRun q) w = q < length w.runs
Drops _ w = Unit {0}

pub keeps-begun : (p : ℕ) (w : World) (here : Option Waker) (c : Call) → Drops c w →
    Leads w [] (begun p (log w (Event.CallBegun p c)) here c)
keeps-begun p w here (Call.Wake n) k =
    begins-with w (log w (Event.CallBegun p (Call.Wake n))) (kept w n) _ refl refl
    (λ f. begins w _ _ refl refl (λ r. refl))
keeps-begun p w here (Call.WakeByRef n) k =
    begins-with w (log w (Event.CallBegun p (Call.WakeByRef n))) (kept w n) _ refl refl
    (λ f. begins w _ _ refl refl (λ r. refl))
keeps-begun p w here (Call.Copy n) k =
    begins-with w (log w (Event.CallBegun p (Call.Copy n))) (kept w n) _ refl refl
    (λ f. begins w _ _ refl refl (λ r. refl))
keeps-begun p w here (Call.DropWaker n) k =
    begins-with w (log w (Event.CallBegun p (Call.DropWaker n))) (kept w n) _ refl refl
    (λ f. begins w _ _ refl refl (λ r. refl))
keeps-begun p w here Call.Keep k =
    begins-with w (log w (Event.CallBegun p Call.Keep)) (future_of here) _ refl refl
    (λ f. begins w _ _ refl refl (λ r. refl))
keeps-begun p w here Call.WakeSelf k =
    begins-with w (log w (Event.CallBegun p Call.WakeSelf)) (future_of here) _ refl refl
    (λ f. begins w _ _ refl refl (λ r. refl))
keeps-begun p w here (Call.PollRun q b) k = begins-poll _ w _ _ refl refl
keeps-begun p w here (Call.DropRun q) k = begins-drop _ p w q k
keeps-begun p w here _ k = begins w _ _ refl refl (λ r. refl)
