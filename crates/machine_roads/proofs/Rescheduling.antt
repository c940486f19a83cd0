-- In each machine to which steps lead the own queue of a run that schedules what is left in it isn't in the list.
use Rattle.std.proofs.Common.{◌≡◌, ◌≢◌, ◌+◌, ◌%◌, ◌≤◌, ◌<◌, ◌++◌, ℕ, zero, suc, List, [], ◌∷◌, Bool, true, false, length, get_or, set, eqb}
use Rattle.std.proofs.Common.{refl, sym, ap, ◌∙◌, subst, arith, ◌⊎◌, inl, inr, ⊎_elim, get_or-set_other}
use Rattle.std.specs.Prelude.{Option, Some, None, reverse}
use Rattle.executor_laws.proofs.Types.{Call, Event, Hint, Hold, Kind, ListOp, Op, Reply, RunOp, RunPoll, Section, Steal, UserEnd, UserOp}
use Rattle.executor_laws.proofs.Types.{Waker}
use Rattle.executor_model.specs.declared.event.Answer.{Answer}
use Rattle.executor_model.proofs.OwnQueues.OwnCounts.{counts-begun, counts-react}
use Rattle.executor_model.proofs.OwnQueues.RunsAside.{Coat, Hull, coat, stages, stages-at, stages-push, stages-set}
use Rattle.executor_model.proofs.OwnQueues.RunsDone.{Deed, Leads, Missing, More, Stole, Walks, deed-act, is_loud, loud-weigh, walks-by}
use Rattle.executor_model.proofs.OwnQueues.RunsDone as deeds
use Rattle.executor_model.proofs.OwnQueues.UsingSteps.{AllUsed, used-ends, used-moves, used-start}
use Rattle.executor_model.proofs.Steps.Lift.{good-start, split, unsettled, weigh_all-idle}
use Rattle.executor_model.proofs.Steps.Lists.{same_cases, weigh_all-below, weigh_all-push}
use Rattle.executor_model.proofs.Steps.Reached.{Reached}
use Rattle.executor_model.proofs.Steps.Ways.{Way, along}
use Rattle.executor_model.proofs.Steps.Ways.Way.{acted, called, reacted}
use Rattle.executor_model.specs.ActsOfRuns as runs
use Rattle.executor_model.specs.Doing.{act, list_act}
use Rattle.executor_model.specs.Good.{Good}
use Rattle.executor_model.specs.OwnQueues.{is_listed}
use Rattle.executor_model.specs.Rows.{running_of}
use Rattle.executor_model.specs.Steps.{Machine, accepts, begun, drop_run, future_of, kept, mine, poll_run, react, stack, start, top}
use Rattle.executor_model.specs.Steps.{waker_of, with_future}
use Rattle.executor_model.specs.Weights.{same, weigh, weigh_all}
use Rattle.executor_model.specs.World.{Done, Ended, Listed, New, Stage, World, done, log, no_run, own_of, put_own, run_of}

abbrev pub reschedules : ℕ → Op → ℕ
reschedules r (Op.Run (RunOp.Reschedule q a)) = same r q
reschedules r _ = 0

abbrev stage_in : List Stage → ℕ → ℕ
stage_in ss r = is_listed (get_or ss r Ended)

-- beside what others do with a run, and how often they schedule what is left in it
abbrev Keeps : World → List Op → Done → Type 0
Keeps w old d =
    (r m n : ℕ) → weigh (running_of r) old + m ≤ 1 → n ≤ m
    → (1 ≤ weigh (reschedules r) old + n → stage_in (stages w.runs) r ≡ 0) → 1 ≤ weigh (reschedules r) d.next + n
    → stage_in (stages d.world.runs) r ≡ 0

-- no stage changes, and none schedules more
calm : (w : World) (old : List Op) (d : Done) → stages d.world.runs ≡ stages w.runs
    → ((r : ℕ) → weigh (reschedules r) d.next ≤ weigh (reschedules r) old) → Keeps w old d
calm w old d stays few r m n once more off some =
    ap (λ ss. stage_in ss r) stays ∙ off (omega (arith, some, few r))

module _ (r : ℕ) where
  quiet : (o : Op) → is_loud o ≡ false → reschedules r o ≡ 0
  quiet (Op.Run RunOp.MakeRoom) e = refl
  quiet (Op.Run RunOp.ReturnRoom) e = refl
  quiet (Op.Run o) e = absurd cc
  quiet o e = refl

  stole_none : (x : RunPoll) (n : ℕ) (os : List Op) → Stole x n os → weigh (reschedules r) os ≡ 0
  stole_none x n os (deeds.to_steal f) = refl
  stole_none x n os (deeds.to_steal_plain f) = refl
  stole_none x n os deeds.to_wake = refl
  stole_none x n os deeds.to_search = refl
  stole_none x n os (deeds.to_walk at left) = refl
  stole_none x n os deeds.to_leave = refl

  more_none : (s : Steal) (n : ℕ) (os : List Op) → More s n os → weigh (reschedules r) os ≡ 0
  more_none s n os (deeds.no_more z) = stole_none _ _ os z
  more_none s n os (deeds.one_more k) = refl

  walks_none : (x : RunPoll) (os : List Op) → Walks x os → weigh (reschedules r) os ≡ 0
  walks_none x os deeds.walk_ends = refl
  walks_none x os (deeds.walk_on q at left) = refl

  missing_few : (q : ℕ) (o : Op) (os : List Op) → Missing q o os → weigh (reschedules r) os ≤ reschedules r o
  missing_few q o os (deeds.misses x) = omega arith
  missing_few q o os (deeds.misses_there x at left z) = omega (arith, walks_none x os z)
  missing_few q o os (deeds.misses_last k a) = omega arith

  leads_few : (o : Op) (os : List Op) → Leads o os → weigh (reschedules r) os ≤ reschedules r o
  leads_few o os (deeds.finds x z) = omega (arith, stole_none x 0 os z)
  leads_few o os (deeds.stole a z) = omega (arith, stole_none _ _ os z)
  leads_few o _ (deeds.looks x at left {os = os} z) = omega (arith, stole_none x 0 os z)
  leads_few o os _ = omega arith

  loud_few : (o : Op) (d : Done) → weigh (reschedules r) (deeds.loud d.next) ≤ reschedules r o
      → weigh (reschedules r) d.next ≤ weigh (reschedules r) (o ∷ [])
  loud_few o d few = omega (arith, few, loud-weigh (reschedules r) quiet d.next)

coat_stages : (w v : World) → coat w ≡ coat v → stages v.runs ≡ stages w.runs
coat_stages w v e = sym (ap (λ (c : Coat). c.hull.stages) e)

-- the list

pushed : (ss : List Stage) (r : ℕ) → stage_in (ss ++ New ∷ []) r ≡ stage_in ss r
pushed [] zero = refl
pushed [] (suc r) = refl
pushed (s ∷ ss) zero = refl
pushed (s ∷ ss) (suc r) = pushed ss r

ended_in : (ss : List Stage) (q : ℕ) → stage_in (set ss q Ended) q ≡ 0
ended_in [] q = refl
ended_in (s ∷ ss) zero = refl
ended_in (s ∷ ss) (suc q) = ended_in ss q

makes : (b : Bool) (w : World) → Keeps w (Op.List (ListOp.Write Section.MakeRun) ∷ []) (runs.make_run_by b w)
makes true w = calm w (Op.List (ListOp.Write Section.MakeRun) ∷ []) (runs.make_run_by true w) refl (λ r. omega arith)
makes false w =
    λ r m n once more off some.
    ap (λ ss. stage_in ss r) (stages-push w.runs) ∙ (pushed (stages w.runs) r ∙ off (omega (arith, some)))

-- who registers uses its run alone
registers : (t : Stage) (w : World) (x : RunPoll) → Keeps w (Op.List (ListOp.Write (Section.Register x)) ∷ [])
    (done (runs.registered t w x.run) (Op.List ListOp.UnlockWrite ∷ Op.User (UserOp.PollOwn x) ∷ []))
registers New w x = λ r m n once more off some.
    ⊎_elim
    (λ (y : (same r x.run ≡ 1) × (eqb r x.run ≡ true) × (r ≡ x.run)). absurd (omega (arith, once, more, some, y.0)))
    (λ (y : (same r x.run ≡ 0) × (eqb r x.run ≡ false) × (r ≢ x.run)).
    ap (λ ss. stage_in ss r) (stages-set w.runs x.run (record (run_of w x.run) { stage = Listed }))
    ∙ (ap is_listed (get_or-set_other (stages w.runs) x.run r Listed Ended y.2) ∙ off (omega (arith, some))))
    (same_cases r x.run)
registers Listed w x =
    calm w (Op.List (ListOp.Write (Section.Register x)) ∷ [])
    (done w (Op.List ListOp.UnlockWrite ∷ Op.User (UserOp.PollOwn x) ∷ [])) refl (λ r. omega arith)
registers Ended w x =
    calm w (Op.List (ListOp.Write (Section.Register x)) ∷ [])
    (done w (Op.List ListOp.UnlockWrite ∷ Op.User (UserOp.PollOwn x) ∷ [])) refl (λ r. omega arith)

leaves : (w : World) (q : ℕ) (a : Reply) → Keeps w (Op.List (ListOp.Write (Section.Unregister q a)) ∷ [])
    (done (runs.unregistered w q) (Op.List ListOp.UnlockWrite ∷ Op.Run (RunOp.Reschedule q a) ∷ []))
leaves w q a r m n once more off some =
    ⊎_elim
    (λ (y : (same r q ≡ 1) × (eqb r q ≡ true) × (r ≡ q)).
    ap (λ ss. stage_in ss r) (stages-set w.runs q (record (run_of w q) { stage = Ended }))
    ∙ (ap (λ k. stage_in (set (stages w.runs) q Ended) k) y.2 ∙ ended_in (stages w.runs) q))
    (λ (y : (same r q ≡ 0) × (eqb r q ≡ false) × (r ≢ q)).
    ap (λ ss. stage_in ss r) (stages-set w.runs q (record (run_of w q) { stage = Ended }))
    ∙ (ap is_listed (get_or-set_other (stages w.runs) q r Ended Ended y.2) ∙ off (omega (arith, some, y.0))))
    (same_cases r q)

keeps_list : (h : Hint) (o : ListOp) (w : World) → Keeps w (Op.List o ∷ []) (list_act h o w)
keeps_list h (ListOp.LockWrite s) w =
    calm w (Op.List (ListOp.LockWrite s) ∷ []) (list_act h (ListOp.LockWrite s) w) refl (λ r. omega arith)
keeps_list h (ListOp.Write Section.MakeRun) w = makes h.refused w
keeps_list h (ListOp.Write (Section.Register x)) w = registers (run_of w x.run).stage w x
keeps_list h (ListOp.Write (Section.Unregister q a)) w = leaves w q a
keeps_list h ListOp.UnlockWrite w =
    calm w (Op.List ListOp.UnlockWrite ∷ []) (list_act h ListOp.UnlockWrite w) refl (λ r. omega arith)
keeps_list h ListOp.UnlockRead w =
    calm w (Op.List ListOp.UnlockRead ∷ []) (list_act h ListOp.UnlockRead w) refl (λ r. omega arith)
keeps_list h (ListOp.LockRead x) w =
    let os = (runs.lock_read h w x).next in
    calm w (Op.List (ListOp.LockRead x) ∷ []) (runs.lock_read h w x) refl
    (λ r. omega (
      arith,
      loud-weigh (reschedules r) (quiet r) os,
      walks_none r x (deeds.loud os) (walks-by x w.listed (h.start % length w.listed) (length w.listed)),
    ))

keeps_deed : (w : World) (o : Op) (d : Done) → Deed w o d → Keeps w (o ∷ []) d
keeps_deed w o d (deeds.keeps e l) =
    calm w (o ∷ []) d (coat_stages w d.world e) (λ r. loud_few r o d (leads_few r o _ l))
keeps_deed w o d (deeds.takes q f rest i e l) =
    calm w (o ∷ []) d (coat_stages (put_own w q rest) d.world e) (λ r. loud_few r o d (leads_few r o _ l))
keeps_deed w o d (deeds.lacks q i e l) =
    calm w (o ∷ []) d (coat_stages w d.world e) (λ r. loud_few r o d (missing_few r q o _ l))
keeps_deed w o d (deeds.shares s i k b e m) =
    calm w (o ∷ []) d (coat_stages w d.world e) (λ r. loud_few r o d (omega (arith, more_none r s k _ m)))
keeps_deed w o d (deeds.grows s k f e m) =
    calm w (o ∷ []) d (coat_stages (put_own w s.poll.run (own_of w s.poll.run ++ f ∷ [])) d.world e)
    (λ r. loud_few r o d (omega (arith, more_none r s k _ m)))
keeps_deed w o d (deeds.wakes p x e z) =
    calm w (o ∷ []) d (coat_stages w d.world e) (λ r. loud_few r o d (omega (arith, ap (weigh (reschedules r)) z)))
keeps_deed w o d (deeds.lists h l) = keeps_list h l w

-- user code ends

keeps_react : (p : ℕ) (o : Op) (u : UserEnd) (w : World) → accepts o u ≡ true → Keeps w (o ∷ []) (react p o u w)
keeps_react p o u w may =
    calm w (o ∷ []) (react p o u w) (sym (ap (λ (x : Hull). x.stages) (counts-react 0 p o u w may).hull))
    (λ r. omega (arith, none r o u))
  where
    none : (r : ℕ) (o : Op) (u : UserEnd) → weigh (reschedules r) (react p o u w).next ≡ 0
    none r (Op.User (UserOp.Poll f)) (UserEnd.Polled Answer.Pending) = refl
    none r (Op.User (UserOp.Poll f)) (UserEnd.Polled Answer.Ready) = refl
    none r (Op.User (UserOp.Poll f)) UserEnd.Done = refl
    none r (Op.User (UserOp.PollOwn x)) (UserEnd.Polled Answer.Pending) = refl
    none r (Op.User (UserOp.PollOwn x)) (UserEnd.Polled Answer.Ready) = refl
    none r (Op.User (UserOp.PollOwn x)) UserEnd.Done = refl
    none r o u = refl

-- a call begins

module _ (r : ℕ) (w : World) where
  abbrev Off : List Op → Type 0
  Off os = 1 ≤ weigh (reschedules r) os → stage_in (stages w.runs) r ≡ 0

  off_none : (os : List Op) → weigh (reschedules r) os ≡ 0 → Off os
  off_none os none some = absurd (omega (arith, none, some))

  off_with : (v : World) (x : Option ℕ) (d : ℕ → Done) → ((f : ℕ) → weigh (reschedules r) (d f).next ≡ 0) → Off (with_future v x d).next
  off_with v None d none = off_none [] refl
  off_with v (Some f) d none = off_none (d f).next (none f)

  off_poll : (t : Stage) (x : RunPoll) → Off (poll_run t x)
  off_poll New x = off_none (poll_run New x) refl
  off_poll Listed x = off_none (poll_run Listed x) refl
  off_poll Ended x = off_none (poll_run Ended x) refl

  -- one that was never polled
  off_drop : (t : Stage) (q : ℕ) → (run_of w q).stage ≡ t → Off (drop_run t q)
  off_drop New q is = λ some.
      ⊎_elim
      (λ (y : (same r q ≡ 1) × (eqb r q ≡ true) × (r ≡ q)).
      ap (λ k. stage_in (stages w.runs) k) y.2 ∙ (ap is_listed (stages-at w.runs q) ∙ ap is_listed is))
      (λ (y : (same r q ≡ 0) × (eqb r q ≡ false) × (r ≢ q)). absurd (omega (arith, some, y.0)))
      (same_cases r q)
  off_drop Listed q is = off_none (drop_run Listed q) refl
  off_drop Ended q is = off_none (drop_run Ended q) refl

  off_begun : (p : ℕ) (v : World) (here : Option Waker) (c : Call) → v.runs ≡ w.runs → Off (begun p v here c).next
  off_begun p v here (Call.Wake k) same = off_with v (kept v k) _ (λ f. refl)
  off_begun p v here (Call.WakeByRef k) same = off_with v (kept v k) _ (λ f. refl)
  off_begun p v here (Call.Copy k) same = off_with v (kept v k) _ (λ f. refl)
  off_begun p v here (Call.DropWaker k) same = off_with v (kept v k) _ (λ f. refl)
  off_begun p v here Call.Keep same = off_with v (future_of here) _ (λ f. refl)
  off_begun p v here Call.WakeSelf same = off_with v (future_of here) _ (λ f. refl)
  off_begun p v here (Call.PollRun q b) same =
      off_poll (run_of v q).stage (record { run = q; waker = waker_of here b; poll = length v.trace })
  off_begun p v here (Call.DropRun q) same = off_drop (run_of v q).stage q (ap (λ rs. (get_or rs q no_run).stage) (sym same))
  off_begun p v here c same = off_none (begun p v here c).next refl

some_or : (n : ℕ) → (1 ≤ n) ⊎ (n ≡ 0)
some_or zero = inr refl
some_or (suc n) = inl (omega arith)

keeps_begun : (p : ℕ) (w : World) (here : Option Waker) (c : Call) → Keeps w [] (begun p (log w (Event.CallBegun p c)) here c)
keeps_begun p w here c r m n once more off some =
    let d = begun p (log w (Event.CallBegun p c)) here c in
    ap (λ ss. stage_in ss r) (sym (ap (λ (x : Hull). x.stages) (counts-begun 0 p w here c).hull))
    ∙ ⊎_elim
    (λ (its : 1 ≤ weigh (reschedules r) d.next). off_begun r w p (log w (Event.CallBegun p c)) here c refl its)
    (λ (none : weigh (reschedules r) d.next ≡ 0). off (omega (arith, some, none)))
    (some_or (weigh (reschedules r) d.next))

-- every step

record AreOff (s : Machine) : Type 0 where
  used : AllUsed s
  off : (r : ℕ) → 1 ≤ weigh_all (reschedules r) s.parties → stage_in (stages s.world.runs) r ≡ 0

few_running : (r : ℕ) (o : Op) → reschedules r o ≤ running_of r o
few_running r (Op.Run (RunOp.Reschedule q a)) = omega arith
few_running r o = omega arith

off_on : (s : Machine) (p : ℕ) (old rest : List Op) (d : Done) → p < length s.parties → stack s p ≡ rest ++ reverse old
    → AllUsed (unsettled s p rest d) → Keeps s.world old d → AreOff s → AreOff (unsettled s p rest d)
off_on s p old rest d there was used keeps so = record {
  used = used;
  off = λ r some.
      keeps r (weigh_all (running_of r) (set s.parties p rest)) (weigh_all (reschedules r) (set s.parties p rest))
      (omega (arith, (so.used r).once, split (running_of r) s.parties p old rest there was))
      (weigh_all-below (reschedules r) (running_of r) (few_running r) (set s.parties p rest))
      (λ z. so.off r (omega (arith, z, split (reschedules r) s.parties p old rest there was)))
      (omega (arith, some, weigh_all-push (reschedules r) s.parties p rest d.next there));
}

keeps_way : (s : Machine) (p : ℕ) (old rest : List Op) (d : Done) → Way s p old rest d → Keeps s.world old d
keeps_way s p old rest d (acted h o q z) = rw (z, q) (keeps_deed s.world o (act p h o s.world) (deed-act p h o s.world))
keeps_way s p old rest d (reacted o u a q z) = rw (z, q) (keeps_react p o u s.world a)
keeps_way s p old rest d (called c q r n z) = rw (z, q) (keeps_begun p s.world (mine (top (stack s p))) c)

moves : (s : Machine) (p : ℕ) (old rest : List Op) (d : Done) → Good s → p < length s.parties → stack s p ≡ rest ++ reverse old
    → Way s p old rest d → AreOff s → AreOff (unsettled s p rest d)
moves s p old rest d good there was way so =
    off_on s p old rest d there was (used-moves s p old rest d good there was way so.used) (keeps_way s p old rest d way) so

ends : (s : Machine) (p : ℕ) (a : Reply) (held : Hold) (below : List Op) → p < length s.parties
    → stack s p ≡ below ++ reverse (Op.End a held ∷ []) → AreOff s
    → AreOff (unsettled s p below (done (log s.world (Event.CallEnded p a)) []))
ends s p a held below there was so =
    off_on s p (Op.End a held ∷ []) below (done (log s.world (Event.CallEnded p a)) []) there was
    (used-ends s p a held below there was so.used)
    (calm s.world (Op.End a held ∷ []) (done (log s.world (Event.CallEnded p a)) []) refl (λ r. omega arith)) so

off_start : (limit : ℕ) (kind : Kind) (n : ℕ) → AreOff (start limit kind n)
off_start limit kind n = record {
  used = used-start limit kind n;
  off = λ r some. absurd (omega (arith, some, weigh_all-idle (reschedules r) n));
}

pub off_here : (s : Machine) → Reached s → (r : ℕ) → 1 ≤ weigh_all (reschedules r) s.parties → is_listed (run_of s.world r).stage ≡ 0
off_here s reached r some =
    sym (ap is_listed (stages-at s.world.runs r))
    ∙ (subst AreOff (sym reached.is)
    (along AreOff moves ends reached.steps (start reached.limit reached.kind reached.parties)
    (good-start reached.limit reached.kind reached.parties) (off_start reached.limit reached.kind reached.parties))).off r some
