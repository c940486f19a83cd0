-- For runs_find_due_futures.
-- A run that was never polled keeps nothing: what stands in a run's own queue, or is to be done in its poll behind its
-- registration, is a run's that isn't new.
use Rattle.std.proofs.Common.{◌≡◌, ◌≢◌, ◌⊎◌, ◌∙◌, ℕ, zero, suc, ◌+◌, ◌<◌, ◌≤◌, List, [], ◌∷◌, ◌++◌, length, get_or, set}
use Rattle.std.proofs.Common.{Bool, true, false, eqb, refl, sym, ap, subst, ⊎_elim, inl, inr, arith}
use Rattle.std.proofs.Math.ListN.{length-set}
use Rattle.std.proofs.lemmas.List.{length-append}
use Rattle.std.specs.Prelude.{Option, Some, None, reverse}
use Rattle.executor_laws.proofs.Types.{Kind, Call, Reply, Event, Hold, ListOp, Op, RunOp, RunPoll, Section, Steal, StealOp, UserOp, Waker}
use Rattle.executor_laws.proofs.Types.{Hint, Step, UserEnd}
use Rattle.executor_model.specs.{Doing.act, Good.Good, OwnQueues.ListAgrees, OwnQueues.is_listed, Rows.running_of, Sound.times}
use Rattle.executor_model.specs.{Steps.Machine, Steps.accepts, Steps.begun, Steps.drop_run, Steps.future_of, Steps.kept, Steps.mine}
use Rattle.executor_model.specs.{Steps.poll_run, Steps.react, Steps.run, Steps.stack, Steps.start, Steps.top, Steps.with_future}
use Rattle.executor_model.specs.{Weights.same, Weights.weigh, Weights.weigh_all, World.World, World.Run, World.Stage, World.New}
use Rattle.executor_model.specs.{World.Listed, World.Ended, World.Done, World.done, World.log, World.new_run, World.own_of, World.put_own}
use Rattle.executor_model.specs.{World.run_of}
use Rattle.executor_model.proofs.OwnQueues.OwnCounts.{counts-begun, counts-react}
use Rattle.executor_model.proofs.OwnQueues.OwnRooms.{grown, made-length, of_coat, shorter-taken}
use Rattle.executor_model.proofs.OwnQueues.RunsAside.{Coat, Hull, coat, stages, stages-at, stages-push, stages-set}
use Rattle.executor_model.proofs.OwnQueues.RunsCalm.{calm-act, calm-react}
use Rattle.executor_model.proofs.OwnQueues.RunsDone.{Deed, deed-act, grows, keeps, lacks, lists, shares, takes, wakes}
use Rattle.executor_model.proofs.OwnQueues.RunsNaming.{polling-parts}
use Rattle.executor_model.proofs.OwnQueues.Using.{polling-uses, polling_of}
use Rattle.executor_model.proofs.OwnQueues.UsingSteps.{AllUsed, used-ends, used-moves, used-start}
use Rattle.executor_model.proofs.OwnQueues.UsingWorlds.{is_over_stage}
use Rattle.executor_model.proofs.Steps.Lift.{good-start, split, unsettled, weigh_all-idle}
use Rattle.executor_model.proofs.Steps.Lists.{same_cases, weigh_all-below, weigh_all-push}
use Rattle.executor_model.proofs.Steps.Ways.{Way, along}
use Rattle.executor_model.proofs.Steps.Ways.Way.{acted, called, reacted}
use Rattle.executor_laws.proofs.Walks.Stages.{Staged, ended-old, listed-old, push-old, set-other, set-same}
use Rattle.executor_model.specs.ActsOfRuns as runs

-- the own queue comes into the list
abbrev pub registers : Op → Bool
registers (Op.List (ListOp.LockWrite (Section.Register x))) = true
registers (Op.List (ListOp.Write (Section.Register x))) = true
registers _ = false

abbrev pub busy_by : Bool → ℕ → Op → ℕ
busy_by true r o = 0
busy_by false r o = polling_of r o

-- a part of a poll of run r that comes behind that
abbrev pub busy_of : ℕ → Op → ℕ
busy_of r o = busy_by (registers o) r o

busy-few : (r : ℕ) (o : Op) → busy_of r o ≤ polling_of r o
busy-few r o = by (registers o)
  where
    by : (b : Bool) → busy_by b r o ≤ polling_of r o
    by true = omega arith
    by false = omega arith

few-busy : (r : ℕ) (os : List Op) → weigh (busy_of r) os ≤ weigh (polling_of r) os
few-busy r [] = omega arith
few-busy r (o ∷ os) = omega (arith, busy-few r o, few-busy r os)

-- what is done keeps it, beside others who do so many such parts

pub record KeepsEnrolled (w : World) (old : List Op) (d : Done) : Type 0 where
  pub even : length w.own ≡ length w.runs → length d.world.own ≡ length d.world.runs
  pub on : (r m : ℕ) → (length w.runs ≤ r → weigh (running_of r) old ≡ 0) → (length w.runs ≤ r → m ≡ 0) →
      (1 ≤ length (own_of w r) → r < length w.runs) →
      (1 ≤ weigh (busy_of r) old + (m + length (own_of w r)) → Staged (stages w.runs) r) →
      (1 ≤ length (own_of d.world r) → r < length d.world.runs)
      × (1 ≤ weigh (busy_of r) d.next + (m + length (own_of d.world r)) → Staged (stages d.world.runs) r)

stages-count : (rs : List Run) → length (stages rs) ≡ length rs
stages-count [] = refl
stages-count (x ∷ rs) = ap suc (stages-count rs)

same-count : (w v : World) → stages v.runs ≡ stages w.runs → length v.runs ≡ length w.runs
same-count w v e =
    sym (stages-count v.runs) ∙ (ap (λ (ss : List Stage). length ss) e ∙ stages-count w.runs)

inside : (a b : ℕ) → (b ≤ a → ⊥) → a < b
inside a b k = ⊎_elim (λ (l : a < b). l) (λ (l : b ≤ a). absurd (k l)) (or-past a b)
  where
    or-past : (x y : ℕ) → (x < y) ⊎ (y ≤ x)
    or-past x y = grind arith

-- no queue gets longer but that of a run in such a part, and such parts lead to no others
calm : (w : World) (old : List Op) (d : Done) → stages d.world.runs ≡ stages w.runs →
    length d.world.own ≡ length w.own →
    ((r : ℕ) → (length (own_of d.world r) ≤ length (own_of w r)) ⊎ (1 ≤ weigh (busy_of r) old)) →
    ((r : ℕ) → weigh (busy_of r) d.next ≤ weigh (busy_of r) old) → KeepsEnrolled w old d
calm w old d e count own busy = record {
  even = λ z. count ∙ (z ∙ sym (same-count w d.world e));
  on = λ r m unused none born staged. (
    λ z. omega (arith, same-count w d.world e, known r unused born z (own r)),
    λ z. subst (λ (ss : List Stage). Staged ss r) (sym e) (staged (⊎_elim
        (λ (x : length (own_of d.world r) ≤ length (own_of w r)). omega (arith, x, z, busy r))
        (λ (x : 1 ≤ weigh (busy_of r) old). omega (arith, x)) (own r))),
  );
}
  where
    uses : (r : ℕ) (os : List Op) → weigh (busy_of r) os ≤ weigh (running_of r) os
    uses r [] = omega arith
    uses r (o ∷ os) = omega (arith, busy-few r o, polling-uses r o, uses r os)

    known : (r : ℕ) → (length w.runs ≤ r → weigh (running_of r) old ≡ 0) → (1 ≤ length (own_of w r) → r < length w.runs) →
        1 ≤ length (own_of d.world r) →
        (length (own_of d.world r) ≤ length (own_of w r)) ⊎ (1 ≤ weigh (busy_of r) old) → r < length w.runs
    known r unused born z (inl x) = born (omega (arith, x, z))
    known r unused born z (inr x) = inside r (length w.runs) (λ l. omega (arith, x, unused l, uses r old))

-- one thing that is done

busy-is : (b : Bool) (r : ℕ) (o : Op) → b ≡ false → busy_by b r o ≡ polling_of r o
busy-is false r o e = refl
busy-is true r o e = absurd (cc)

busy-act : (p : ℕ) (h : Hint) (o : Op) (w : World) → registers o ≡ false → (r : ℕ) →
    weigh (busy_of r) (act p h o w).next ≤ weigh (busy_of r) (o ∷ [])
busy-act p h o w n r = omega (
  arith,
  calm-act (λ x. same r x.run) p h o w,
  polling-parts r (act p h o w).next,
  polling-parts r (o ∷ []),
  few-busy r (act p h o w).next,
  busy-is (registers o) r o n,
)

abbrev is_list : Op → Bool
is_list (Op.List o) = true
is_list _ = false

unlisted : (o : Op) → is_list o ≡ false → registers o ≡ false
unlisted (Op.List o) e = absurd (cc)
unlisted _ e = refl

module _ (w : World) (o : Op) (d : Done) (busy : (r : ℕ) → weigh (busy_of r) d.next ≤ weigh (busy_of r) (o ∷ [])) where
  of-coat : coat w ≡ coat d.world → KeepsEnrolled w (o ∷ []) d
  of-coat e = calm w (o ∷ []) d (sym (ap (λ (c : Coat). c.hull.stages) e)) (of_coat w d.world e).count
      (λ r. inl ((of_coat w d.world e).own r)) busy

  of-taken : (q f : ℕ) (rest : List ℕ) → own_of w q ≡ f ∷ rest → coat (put_own w q rest) ≡ coat d.world →
      KeepsEnrolled w (o ∷ []) d
  of-taken q f rest i e = calm w (o ∷ []) d (sym (ap (λ (c : Coat). c.hull.stages) e))
      (shorter-taken w d.world q f rest i e).count
      (λ r. inl ((shorter-taken w d.world q f rest i e).own r)) busy

  of-grown : (s : Steal) (k f : ℕ) → o ≡ Op.Steal (StealOp.Put s k f) →
      coat (put_own w s.poll.run (own_of w s.poll.run ++ f ∷ [])) ≡ coat d.world → KeepsEnrolled w (o ∷ []) d
  of-grown s k f i e = calm w (o ∷ []) d (sym (ap (λ (c : Coat). c.hull.stages) e))
      ((of_coat (put_own w s.poll.run (own_of w s.poll.run ++ f ∷ [])) d.world e).count
      ∙ length-set w.own s.poll.run (own_of w s.poll.run ++ f ∷ [])) (λ r. ⊎_elim
      (λ (x : (same r s.poll.run ≡ 1) × (eqb r s.poll.run ≡ true) × (r ≡ s.poll.run)).
      inr (subst (λ (y : Op). 1 ≤ weigh (busy_of r) (y ∷ [])) (sym i) (omega (arith, x.0))))
      (λ (x : (same r s.poll.run ≡ 0) × (eqb r s.poll.run ≡ false) × (r ≢ s.poll.run)). inl (omega (
        arith,
        (of_coat (put_own w s.poll.run (own_of w s.poll.run ++ f ∷ [])) d.world e).own r,
        grown w.own s.poll.run f r x.2,
      ))) (same_cases r s.poll.run)) busy

enrolled-deed : (w : World) (o : Op) (d : Done) → is_list o ≡ false →
    ((r : ℕ) → weigh (busy_of r) d.next ≤ weigh (busy_of r) (o ∷ [])) → Deed w o d → KeepsEnrolled w (o ∷ []) d
enrolled-deed w o d n b (keeps e l) = of-coat w o d b e
enrolled-deed w o d n b (takes q f rest i e l) = of-taken w o d b q f rest i e
enrolled-deed w o d n b (lacks q i e l) = of-coat w o d b e
enrolled-deed w o d n b (shares s i k z e m) = of-coat w o d b e
enrolled-deed w o d n b (grows s k f e m) = of-grown w o d b s k f refl e
enrolled-deed w o d n b (wakes p x e z) = of-coat w o d b e
enrolled-deed w o d n b (lists h l) = absurd (cc)

-- the list

same-world : (w v : World) (o : Op) (next : List Op) → v.runs ≡ w.runs → v.own ≡ w.own →
    ((r : ℕ) → weigh (busy_of r) next ≤ weigh (busy_of r) (o ∷ [])) → KeepsEnrolled w (o ∷ []) (done v next)
same-world w v o next e k b = calm w (o ∷ []) (done v next) (ap (λ (rs : List Run). stages rs) e)
    (ap (λ (qs : List (List ℕ)). length qs) k)
    (λ r. inl (let z : length (own_of v r) ≡ length (own_of w r) =
    ap (λ (qs : List (List ℕ)). length (get_or qs r [])) k in omega (arith, z))) b

enrolled-make : (b : Bool) (w : World) →
    KeepsEnrolled w (Op.List (ListOp.Write Section.MakeRun) ∷ []) (runs.make_run_by b w)
enrolled-make true w = same-world w w _ _ refl refl (λ r. omega arith)
enrolled-make false w = record {
  even = λ z. length-append w.own ([] ∷ []) ∙ (ap (λ (k : ℕ). k + 1) z ∙ sym (length-append w.runs (new_run ∷ [])));
  on = λ r m unused none born staged.
      let n : length (get_or (w.own ++ [] ∷ []) r []) ≡ length (own_of w r) = made-length w.own r in
      let known : 1 ≤ m + length (own_of w r) → r < length w.runs =
      λ z. inside r (length w.runs) (λ l. over r m none born z l) in
      let one : length ((runs.make_run_by false w).world.runs) ≡ length w.runs + 1 =
      sym (stages-count (runs.make_run_by false w).world.runs)
      ∙ (ap (λ (ss : List Stage). length ss) (stages-push w.runs)
      ∙ (more (stages w.runs) ∙ ap (λ (k : ℕ). k + 1) (stages-count w.runs))) in (
        λ z. omega (arith, one, known (omega (arith, z, n))),
        λ z. subst (λ (ss : List Stage). Staged ss r) (sym (stages-push w.runs)) (push-old (stages w.runs) r
            (omega (arith, stages-count w.runs, known (omega (arith, z, n)))) (staged (omega (arith, z, n)))),
      );
}
  where
    more : (ss : List Stage) → length (ss ++ New ∷ []) ≡ length ss + 1
    more [] = refl
    more (s ∷ ss) = omega (arith, more ss)

    over : (r m : ℕ) → (length w.runs ≤ r → m ≡ 0) → (1 ≤ length (own_of w r) → r < length w.runs) →
        1 ≤ m + length (own_of w r) → length w.runs ≤ r → ⊥
    over r m none born z l = by (length (own_of w r)) refl
      where
        by : (k : ℕ) → length (own_of w r) ≡ k → ⊥
        by zero q = omega (arith, none l, z, q)
        by (suc k) q = omega (arith, l, born (omega (arith, q)))

-- the queue of a run comes into the list, and its poll goes on

abbrev goes_on : RunPoll → List Op
goes_on x = Op.List ListOp.UnlockWrite ∷ Op.User (UserOp.PollOwn x) ∷ []

enrolled-there : (t : Stage) (w : World) (x : RunPoll) → (run_of w x.run).stage ≡ t → t ≢ New →
    KeepsEnrolled w (Op.List (ListOp.Write (Section.Register x)) ∷ []) (done w (goes_on x))
enrolled-there t w x e n = record {
  even = λ z. z;
  on = λ r m unused none born staged. (
    born,
    λ z. ⊎_elim
        (λ (y : (same r x.run ≡ 1) × (eqb r x.run ≡ true) × (r ≡ x.run)).
        λ (q : get_or (stages w.runs) r Ended ≡ New).
        n (sym e ∙ (sym (stages-at w.runs x.run)
        ∙ (ap (λ (k : ℕ). get_or (stages w.runs) k Ended) (sym y.2) ∙ q))))
        (λ (y : (same r x.run ≡ 0) × (eqb r x.run ≡ false) × (r ≢ x.run)). staged (omega (arith, z, y.0)))
        (same_cases r x.run),
  );
}

enrolled-register : (t : Stage) (w : World) (x : RunPoll) → (run_of w x.run).stage ≡ t →
    KeepsEnrolled w (Op.List (ListOp.Write (Section.Register x)) ∷ []) (done (runs.registered t w x.run) (goes_on x))
enrolled-register New w x e = record {
  even = λ z. z ∙ sym (length-set w.runs x.run (record (run_of w x.run) { stage = Listed }));
  on = λ r m unused none born staged.
      let set-is : stages (runs.registered New w x.run).runs ≡ set (stages w.runs) x.run Listed =
      stages-set w.runs x.run (record (run_of w x.run) { stage = Listed }) in
      let n : length (runs.registered New w x.run).runs ≡ length w.runs =
      sym (stages-count (runs.registered New w x.run).runs) ∙ (ap (λ (ss : List Stage). length ss) set-is
      ∙ (length-set (stages w.runs) x.run Listed ∙ stages-count w.runs)) in (
        λ z. omega (arith, n, born z),
        λ z. subst (λ (ss : List Stage). Staged ss r) (sym set-is) (⊎_elim
            (λ (y : (same r x.run ≡ 1) × (eqb r x.run ≡ true) × (r ≡ x.run)).
            subst (λ (k : ℕ). Staged (set (stages w.runs) x.run Listed) k) (sym y.2)
            (set-same (stages w.runs) x.run Listed listed-old))
            (λ (y : (same r x.run ≡ 0) × (eqb r x.run ≡ false) × (r ≢ x.run)).
            set-other (stages w.runs) x.run r Listed listed-old (staged (omega (arith, z, y.0))))
            (same_cases r x.run)),
      );
}
enrolled-register Listed w x e = enrolled-there Listed w x e listed-old
enrolled-register Ended w x e = enrolled-there Ended w x e ended-old

-- and goes from it
enrolled-unregister : (w : World) (q : ℕ) (a : Reply) →
    KeepsEnrolled w (Op.List (ListOp.Write (Section.Unregister q a)) ∷ [])
    (done (runs.unregistered w q) (Op.List ListOp.UnlockWrite ∷ Op.Run (RunOp.Reschedule q a) ∷ []))
enrolled-unregister w q a = record {
  even = λ z. z ∙ sym (length-set w.runs q (record (run_of w q) { stage = Ended }));
  on = λ r m unused none born staged.
      let set-is : stages (runs.unregistered w q).runs ≡ set (stages w.runs) q Ended =
      stages-set w.runs q (record (run_of w q) { stage = Ended }) in
      let n : length (runs.unregistered w q).runs ≡ length w.runs =
      sym (stages-count (runs.unregistered w q).runs) ∙ (ap (λ (ss : List Stage). length ss) set-is
      ∙ (length-set (stages w.runs) q Ended ∙ stages-count w.runs)) in (
        λ z. omega (arith, n, born z),
        λ z. subst (λ (ss : List Stage). Staged ss r) (sym set-is)
            (set-other (stages w.runs) q r Ended ended-old (staged (omega (arith, z)))),
      );
}

enrolled-list : (p : ℕ) (h : Hint) (o : ListOp) (w : World) → KeepsEnrolled w (Op.List o ∷ []) (act p h (Op.List o) w)
enrolled-list p h (ListOp.Write Section.MakeRun) w = enrolled-make h.refused w
enrolled-list p h (ListOp.Write (Section.Register x)) w = enrolled-register (run_of w x.run).stage w x refl
enrolled-list p h (ListOp.Write (Section.Unregister q a)) w = enrolled-unregister w q a
enrolled-list p h (ListOp.LockWrite Section.MakeRun) w = same-world w _ _ _ refl refl (λ r. omega arith)
enrolled-list p h (ListOp.LockWrite (Section.Register x)) w = same-world w _ _ _ refl refl (λ r. omega arith)
enrolled-list p h (ListOp.LockWrite (Section.Unregister q a)) w = same-world w _ _ _ refl refl (λ r. omega arith)
enrolled-list p h ListOp.UnlockWrite w = same-world w _ _ _ refl refl (λ r. omega arith)
enrolled-list p h ListOp.UnlockRead w = same-world w _ _ _ refl refl (λ r. omega arith)
enrolled-list p h (ListOp.LockRead x) w =
    same-world w _ _ _ refl refl (λ r. busy-act p h (Op.List (ListOp.LockRead x)) w refl r)

enrolled-act : (p : ℕ) (h : Hint) (o : Op) (w : World) → KeepsEnrolled w (o ∷ []) (act p h o w)
enrolled-act p h o w = by (is_list o) refl
  where
    listed : (x : Op) → is_list x ≡ true → KeepsEnrolled w (x ∷ []) (act p h x w)
    listed (Op.List x) e = enrolled-list p h x w
    listed _ e = absurd (cc)

    by : (b : Bool) → is_list o ≡ b → KeepsEnrolled w (o ∷ []) (act p h o w)
    by true e = listed o e
    by false e = enrolled-deed w o (act p h o w) e (busy-act p h o w (unlisted o e)) (deed-act p h o w)

-- user code ends

user-unlisted : (o : Op) (u : UserEnd) → accepts o u ≡ true → registers o ≡ false
user-unlisted (Op.User x) u a = refl
user-unlisted _ u a = absurd (cc)

enrolled-react : (p : ℕ) (o : Op) (u : UserEnd) (w : World) → accepts o u ≡ true →
    KeepsEnrolled w (o ∷ []) (react p o u w)
enrolled-react p o u w a =
    let e = (counts-react 0 p o u w a).hull in
    calm w (o ∷ []) (react p o u w) (sym (ap (λ (x : Hull). x.stages) e)) (sym (ap (λ (x : Hull). length x.own) e))
    (λ r. inl (let z : length (own_of (react p o u w).world r) ≡ length (own_of w r) =
    sym (ap (λ (x : Hull). length (get_or x.own r [])) e) in omega (arith, z)))
    (λ r. omega (
      arith,
      calm-react (λ x. same r x.run) p o u w a,
      polling-parts r (react p o u w).next,
      polling-parts r (o ∷ []),
      few-busy r (react p o u w).next,
      busy-is (registers o) r o (user-unlisted o u a),
    ))

-- a call begins

module _ (r : ℕ) where
  none-with : (v : World) (x : Option ℕ) (d : ℕ → Done) → ((f : ℕ) → weigh (busy_of r) (d f).next ≡ 0) →
      weigh (busy_of r) (with_future v x d).next ≡ 0
  none-with v None d k = refl
  none-with v (Some f) d k = k f

  none-drop : (t : Stage) (q : ℕ) → weigh (busy_of r) (drop_run t q) ≡ 0
  none-drop New q = refl
  none-drop Listed q = refl
  none-drop Ended q = refl

  busy-poll : (t : Stage) (w : World) (x : RunPoll) → (run_of w x.run).stage ≡ t → 1 ≤ weigh (busy_of r) (poll_run t x) →
      Staged (stages w.runs) r
  busy-poll New w x e z = absurd (omega (arith, z))
  busy-poll Listed w x e z = ⊎_elim
      (λ (y : (same r x.run ≡ 1) × (eqb r x.run ≡ true) × (r ≡ x.run)). λ (q : get_or (stages w.runs) r Ended ≡ New).
      listed-old (sym e ∙ (sym (stages-at w.runs x.run)
      ∙ (ap (λ (k : ℕ). get_or (stages w.runs) k Ended) (sym y.2) ∙ q))))
      (λ (y : (same r x.run ≡ 0) × (eqb r x.run ≡ false) × (r ≢ x.run)). absurd (omega (arith, z, y.0)))
      (same_cases r x.run)
  busy-poll Ended w x e z = absurd (omega (arith, z))

  nothing : (n : ℕ) (A : Type 0) → n ≡ 0 → 1 ≤ n → A
  nothing n A e z = absurd (omega (arith, e, z))

  busy-begun : (p : ℕ) (w : World) (here : Option Waker) (c : Call) → 1 ≤ weigh (busy_of r) (begun p w here c).next →
      Staged (stages w.runs) r
  busy-begun p w here (Call.Wake k) z = nothing _ _ (none-with w (kept w k) _ (λ f. refl)) z
  busy-begun p w here (Call.WakeByRef k) z = nothing _ _ (none-with w (kept w k) _ (λ f. refl)) z
  busy-begun p w here (Call.Copy k) z = nothing _ _ (none-with w (kept w k) _ (λ f. refl)) z
  busy-begun p w here (Call.DropWaker k) z = nothing _ _ (none-with w (kept w k) _ (λ f. refl)) z
  busy-begun p w here Call.Keep z = nothing _ _ (none-with w (future_of here) _ (λ f. refl)) z
  busy-begun p w here Call.WakeSelf z = nothing _ _ (none-with w (future_of here) _ (λ f. refl)) z
  busy-begun p w here (Call.PollRun q b) z = busy-poll (run_of w q).stage w _ refl z
  busy-begun p w here (Call.DropRun q) z = nothing _ _ (none-drop (run_of w q).stage q) z
  busy-begun p w here _ z = absurd (omega (arith, z))

enrolled-begun : (p : ℕ) (w : World) (here : Option Waker) (c : Call) →
    KeepsEnrolled w [] (begun p (log w (Event.CallBegun p c)) here c)
enrolled-begun p w here c = record {
  even = λ y.
      let e = (counts-begun 0 p w here c).hull in
      let s : stages (begun p (log w (Event.CallBegun p c)) here c).world.runs ≡ stages w.runs =
      sym (ap (λ (x : Hull). x.stages) e) in
      sym (ap (λ (x : Hull). length x.own) e)
      ∙ (y ∙ sym (same-count w (begun p (log w (Event.CallBegun p c)) here c).world s));
  on = λ r m unused none born staged.
      let v : World = log w (Event.CallBegun p c) in
      let e = (counts-begun 0 p w here c).hull in
      let s : stages (begun p v here c).world.runs ≡ stages w.runs = sym (ap (λ (x : Hull). x.stages) e) in
      let z : length (own_of (begun p v here c).world r) ≡ length (own_of w r) =
      sym (ap (λ (x : Hull). length (get_or x.own r [])) e) in (
        λ y. omega (arith, same-count w (begun p v here c).world s, born (omega (arith, y, z))),
        λ y. subst (λ (ss : List Stage). Staged ss r) (sym s) (⊎_elim
            (λ (k : 1 ≤ weigh (busy_of r) (begun p v here c).next). busy-begun r p v here c k)
            (λ (k : weigh (busy_of r) (begun p v here c).next ≡ 0). staged (omega (arith, k, y, z)))
            (some-or (weigh (busy_of r) (begun p v here c).next))),
      );
}
  where
    some-or : (n : ℕ) → (1 ≤ n) ⊎ (n ≡ 0)
    some-or zero = inr refl
    some-or (suc n) = inl (omega arith)

-- every step

pub record Enrolled (s : Machine) : Type 0 where
  pub used : AllUsed s
  pub even : length s.world.own ≡ length s.world.runs
  pub born : (r : ℕ) → 1 ≤ length (own_of s.world r) → r < length s.world.runs
  pub staged : (r : ℕ) → 1 ≤ weigh_all (busy_of r) s.parties + length (own_of s.world r) → Staged (stages s.world.runs) r

enrolled-on : (s : Machine) (p : ℕ) (old rest : List Op) (d : Done) → p < length s.parties →
    stack s p ≡ rest ++ reverse old → AllUsed (unsettled s p rest d) → KeepsEnrolled s.world old d → Enrolled s →
    Enrolled (unsettled s p rest d)
enrolled-on s p old rest d l e u k h = record {
  used = u;
  even = k.even h.even;
  born = λ r. (on r).0;
  staged = λ r z. (on r).1 (omega (arith, z, weigh_all-push (busy_of r) s.parties p rest d.next l));
}
  where
    all-few : (r : ℕ) (ss : List (List Op)) → weigh_all (busy_of r) ss ≤ weigh_all (running_of r) ss
    all-few r ss = weigh_all-below (busy_of r) (running_of r)
        (λ o. omega (arith, busy-few r o, polling-uses r o)) ss

    on : (r : ℕ) → (1 ≤ length (own_of d.world r) → r < length d.world.runs)
        × (1 ≤ weigh (busy_of r) d.next + (weigh_all (busy_of r) (set s.parties p rest) + length (own_of d.world r)) →
        Staged (stages d.world.runs) r)
    on r = k.on r (weigh_all (busy_of r) (set s.parties p rest))
        (λ z. omega (arith, (h.used r).unborn z, split (running_of r) s.parties p old rest l e))
        (λ z. omega (
          arith,
          (h.used r).unborn z,
          split (running_of r) s.parties p old rest l e,
          all-few r (set s.parties p rest),
        )) (h.born r) (λ z. h.staged r (omega (arith, z, split (busy_of r) s.parties p old rest l e)))

enrolled-way : (s : Machine) (p : ℕ) (old rest : List Op) (d : Done) → Way s p old rest d → KeepsEnrolled s.world old d
enrolled-way s p old rest d (acted h o q z) = rw (z, q) (enrolled-act p h o s.world)
enrolled-way s p old rest d (reacted o u a q z) = rw (z, q) (enrolled-react p o u s.world a)
enrolled-way s p old rest d (called c q r n z) = rw (z, q) (enrolled-begun p s.world (mine (top (stack s p))) c)

moves : (s : Machine) (p : ℕ) (old rest : List Op) (d : Done) → Good s → p < length s.parties →
    stack s p ≡ rest ++ reverse old → Way s p old rest d → Enrolled s → Enrolled (unsettled s p rest d)
moves s p old rest d good l e way k =
    enrolled-on s p old rest d l e (used-moves s p old rest d good l e way k.used) (enrolled-way s p old rest d way) k

ends : (s : Machine) (p : ℕ) (a : Reply) (held : Hold) (below : List Op) → p < length s.parties →
    stack s p ≡ below ++ reverse (Op.End a held ∷ []) → Enrolled s →
    Enrolled (unsettled s p below (done (log s.world (Event.CallEnded p a)) []))
ends s p a held below l e k =
    enrolled-on s p (Op.End a held ∷ []) below (done (log s.world (Event.CallEnded p a)) []) l e
    (used-ends s p a held below l e k.used)
    (same-world s.world (log s.world (Event.CallEnded p a)) (Op.End a held) [] refl refl (λ r. omega arith)) k

enrolled-start : (limit : ℕ) (kind : Kind) (n : ℕ) → Enrolled (start limit kind n)
enrolled-start limit kind n = record {
  used = used-start limit kind n;
  even = refl;
  born = λ r z. absurd (omega (arith, z));
  staged = λ r z. absurd (omega (arith, z, weigh_all-idle (busy_of r) n));
}

pub enrolled : (limit : ℕ) (kind : Kind) (n : ℕ) (ts : List Step) → Enrolled (run ts (start limit kind n))
enrolled limit kind n ts = along Enrolled moves ends ts (start limit kind n) (good-start limit kind n)
    (enrolled-start limit kind n)

-- so what stands in a run's own queue stands in one of the list

pub kept-listed : (s : Machine) (r : ℕ) → Enrolled s → ListAgrees s r → 1 ≤ length (own_of s.world r) →
    is_over_stage (run_of s.world r).stage ≡ false → times r s.world.listed ≡ 1
kept-listed s r h a z o = by (run_of s.world r).stage refl
  where
    by : (t : Stage) → (run_of s.world r).stage ≡ t → times r s.world.listed ≡ 1
    by New e = absurd (h.staged r (omega (arith, z)) (stages-at s.world.runs r ∙ e))
    by Listed e = a ∙ ap is_listed e
    by Ended e = let no : true ≡ false = sym (ap is_over_stage e) ∙ o in absurd (cc)
