-- For due_futures_stand_with_their_keepers.
-- What is done but to the list of queues, and but for what comes into a run's own queue, leaves the runs at their stages
-- and brings nothing into their own queues.
use Rattle.std.proofs.Common.{◌≡◌, ◌∙◌, ℕ, zero, suc, ◌≤◌, List, [], ◌∷◌, length, set, get_or, true, refl, sym, ap, arith}
use Rattle.executor_laws.proofs.Types.{Answer, ListOp, Op, UserOp, Hint, UserEnd}
use Rattle.executor_model.specs.World.{World, Done, Ended, own_of, put_own, run_of}
use Rattle.executor_model.specs.{Doing.act, Doing.list_act, Sound.times, Steps.accepts, Steps.react}
use Rattle.executor_model.proofs.OwnQueues.RunsAside.{Hull, coat, hull, hull_of, stages-at}
use Rattle.executor_model.proofs.OwnQueues.RunsDone.{Deed, keeps, takes, lacks, shares, grows, wakes, lists, deed-act}
use Rattle.executor_model.proofs.OwnQueues.UsingRuns.{is_even}
use Rattle.executor_model.proofs.OwnQueues.UsingWorlds.{Idle, idle-coat, is_past}

pub record Even (w v : World) : Type 0 where
  pub own : (g r : ℕ) → times g (own_of v r) ≤ times g (own_of w r)
  pub stage : (r : ℕ) → (run_of v r).stage ≡ (run_of w r).stage
  pub past : (r : ℕ) → is_past (run_of v r) ≡ is_past (run_of w r)
  pub count : length v.runs ≡ length w.runs

pub same-stage : (w v : World) → hull w ≡ hull v → (r : ℕ) → (run_of v r).stage ≡ (run_of w r).stage
same-stage w v e r = sym (stages-at v.runs r)
    ∙ (ap (λ (h : Hull). get_or h.stages r Ended) (sym e) ∙ stages-at w.runs r)

same-own : (w v : World) → hull w ≡ hull v → (g r : ℕ) → times g (own_of v r) ≤ times g (own_of w r)
same-own w v e g r = omega (arith, ap (λ (h : Hull). times g (get_or h.own r [])) e)

pub even-idle : (w v : World) → hull w ≡ hull v → Idle w v → Even w v
even-idle w v e i = record { own = same-own w v e; stage = same-stage w v e; past = i.past; count = i.count }

even-coat : (w v : World) → coat w ≡ coat v → Even w v
even-coat w v e = even-idle w v (ap hull_of e) (idle-coat w v e)

-- the first of an own queue is taken, and then nothing more changes
first-less : (g r q f : ℕ) (rest : List ℕ) (qs : List (List ℕ)) → get_or qs q [] ≡ f ∷ rest →
    times g (get_or (set qs q rest) r []) ≤ times g (get_or qs r [])
first-less g r q f rest [] e = omega arith
first-less g zero zero f rest (x ∷ qs) e = omega (arith, ap (times g) e)
first-less g (suc r) zero f rest (x ∷ qs) e = omega arith
first-less g zero (suc q) f rest (x ∷ qs) e = omega arith
first-less g (suc r) (suc q) f rest (x ∷ qs) e = first-less g r q f rest qs e

even-first : (w v : World) (q f : ℕ) (rest : List ℕ) → own_of w q ≡ f ∷ rest → coat (put_own w q rest) ≡ coat v → Even w v
even-first w v q f rest e k = let u = put_own w q rest in let i = idle-coat u v k in record {
  own = λ g r. omega (arith, same-own u v (ap hull_of k) g r, first-less g r q f rest w.own e);
  stage = same-stage u v (ap hull_of k);
  past = i.past;
  count = i.count;
}

-- the other sections of the list's lock
even-list : (h : Hint) (o : ListOp) (w : World) → is_even (Op.List o) ≡ true → Even w (list_act h o w).world
even-list h (ListOp.Write s) w e = absurd (cc)
even-list h _ w e = record { own = λ g r. omega arith; stage = λ r. refl; past = λ r. refl; count = refl }

even-deed : (w : World) (o : Op) (d : Done) → is_even o ≡ true → Deed w o d → Even w d.world
even-deed w o d n (keeps e l) = even-coat w d.world e
even-deed w o d n (takes q f rest i e l) = even-first w d.world q f rest i e
even-deed w o d n (lacks q i e l) = even-coat w d.world e
even-deed w o d n (shares s i k b e m) = even-coat w d.world e
even-deed w o d n (grows s k f e m) = absurd (cc)
even-deed w o d n (wakes p x e z) = even-coat w d.world e
even-deed w o d n (lists h l) = even-list h l w n

pub even-act : (p : ℕ) (h : Hint) (o : Op) (w : World) → is_even o ≡ true → Even w (act p h o w).world
even-act p h o w e = even-deed w o (act p h o w) e (deed-act p h o w)

pub even-react : (p : ℕ) (o : Op) (u : UserEnd) (w : World) → accepts o u ≡ true → Even w (react p o u w).world
even-react p (Op.User (UserOp.Poll f)) (UserEnd.Polled Answer.Pending) w a = even-coat w _ refl
even-react p (Op.User (UserOp.PollOwn x)) (UserEnd.Polled Answer.Pending) w a = even-coat w _ refl
even-react p _ _ w a = even-coat w _ refl
