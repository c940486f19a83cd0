-- For runs_end_by_their_own_futures.
-- From the beginning on no run ends but by its own future or by its drop, whatever calls use it meanwhile.
use Rattle.std.proofs.Common.{◌≡◌, ◌⊎◌, ◌∙◌, inl, inr, ⊎_elim, ℕ, zero, suc, ◌<◌, ◌≤◌, List, [], ◌∷◌, ◌++◌, length, get_or}
use Rattle.std.proofs.Common.{Bool, true, false, ltb, refl, sym, ap, arith}
use Rattle.std.specs.Prelude.{Option, Some, None}
use Rattle.std.{proofs.Math.ListN.length-set, proofs.lemmas.Bool.Decides.nat_tests}
use Rattle.executor_laws.proofs.Types.{Go, StepError, Call, Reply, Event, Kind, ListOp, Op, Section, Steal, StealOp, Waker}
use Rattle.executor_model.specs.declared.step.Step.TheVariants.{Answer}
use Rattle.executor_model.specs.Steps.{Machine, answer_refusal, begun, gone_on, mine, part_after, part_refusal, party_of, react}
use Rattle.executor_model.specs.Steps.{refusal, run, settled_by, stack, start, step, step_by, stepped, top}
use Rattle.executor_model.specs.World.{Done, Ended, New, Run, World, log, new_run, no_run, put_own, run_of}
use Rattle.executor_model.specs.{ActsOfRuns.make_run_by, Doing.act, Keeper.is_run_drop, Trace.has, Weights.weigh_all}
use Rattle.executor_laws.specs.RunEnds.{EndsOnlyByItsOwn, OwnIsReady, OwnWasReady}
use Rattle.executor_model.proofs.{OwnQueues.RunsDone.Deed, OwnQueues.RunsDone.deed-act, OwnQueues.UsingRuns.is_even}
use Rattle.executor_model.proofs.{OwnQueues.UsingWorlds.idle-coat, Steps.Lift.weigh_all-idle, Steps.Reached.Reached}
use Rattle.executor_laws.proofs.Placement.OwnReady.{Kept, Lasts, apart-here, ended-here, idle-still, lasts-on, not-both}
use Rattle.executor_laws.proofs.Placement.OwnReady.{on-part, ran-here, reached-on, there}
use Rattle.executor_laws.proofs.Fewness.Untaken.{registered-same, unregistered-same}
use Rattle.executor_laws.proofs.Placement.Evens.{even-act, even-react}
use Rattle.executor_laws.proofs.{Types.Hint, Types.Step, Types.Begin, Placement.Answering.readying_of}
use Rattle.executor_laws.proofs.{Placement.Leavings.drops_run, Placement.RunningSteps.runs-begun, Reach.LoneSteps.answers}

-- no run more is there, or one that is new
abbrev Grown : World → World → Type 0
Grown w v = (length v.runs ≡ length w.runs) ⊎ (v.runs ≡ w.runs ++ new_run ∷ [])

grown-make : (b : Bool) (w : World) → Grown w (make_run_by b w).world
grown-make true w = inl refl
grown-make false w = inr refl

count-put : (w : World) (s : Steal) (k f : ℕ) (d : Done) → Deed w (Op.Steal (StealOp.Put s k f)) d → length d.world.runs ≡ length w.runs
count-put w s k f d (Deed.keeps e l) = (idle-coat w d.world e).count
count-put w s k f d (Deed.takes q g rest i e l) = (idle-coat (put_own w q rest) d.world e).count
count-put w s k f d (Deed.lacks q i e l) = (idle-coat w d.world e).count
count-put w s k f d (Deed.grows x n g e m) = (idle-coat (put_own w s.poll.run _) d.world e).count

grown-act : (b : Bool) (p : ℕ) (h : Hint) (o : Op) (w : World) → is_even o ≡ b → Grown w (act p h o w).world
grown-act true p h o w n = inl (even-act p h o w n).count
grown-act false p h (Op.List (ListOp.Write Section.MakeRun)) w n = grown-make h.refused w
grown-act false p h (Op.List (ListOp.Write (Section.Register x))) w n = inl (registered-same (run_of w x.run).stage w x.run).count
grown-act false p h (Op.List (ListOp.Write (Section.Unregister q a))) w n = inl (unregistered-same w q).count
grown-act false p h (Op.Steal (StealOp.Put s k f)) w n =
    inl (count-put w s k f _ (deed-act p h (Op.Steal (StealOp.Put s k f)) w))
grown-act false p h _ w n = absurd (cc)

grown-settled : (w v : World) (o : Option Reply) (p : ℕ) (os : List Op) → Grown w v → Grown w (settled_by o p v os).world
grown-settled w v None p os g = g
grown-settled w v (Some a) p os g = g

grown-went : (w : World) (os : List Op) (p : ℕ) (d : Op → Done) (o : Option Op) →
    ((x : Op) → o ≡ Some x → Grown w (d x).world) → Grown w (gone_on p w os o d).world
grown-went w os p d None k = inl refl
grown-went w os p d (Some x) k = grown-settled w (d x).world _ p _ (k x refl)

grown-begun : (b : Bool) (p : ℕ) (w : World) (o : Option Waker) (c : Call) → drops_run c ≡ b →
    Grown w (begun p (log w (Event.CallBegun p c)) o c).world
grown-begun false p w o c e = inl (ap (λ (rs : List Run). length rs) (runs-begun p (log w (Event.CallBegun p c)) o c e))
grown-begun true p w o (Call.DropRun r) e = inl (length-set w.runs r (record (run_of w r) { dropped = true }))
grown-begun true p w o _ e = absurd (cc)

grown-part : (w : World) (ss : List (List Op)) (os : List Op) (t : Step) → part_refusal w ss os t ≡ None →
    Grown w (part_after w os t).world
grown-part w ss os (Begin p c) e = grown-settled w (begun p (log w (Event.CallBegun p c)) (mine (top os)) c).world _ p _
    (grown-begun (drops_run c) p w (mine (top os)) c refl)
grown-part w ss os (Go p h) e = grown-went w os p (λ x. act p h x w) (top os) (λ x i. grown-act (is_even x) p h x w refl)
grown-part w ss os (Answer p u) e = grown-went w os p (λ x. react p x u w) (top os)
    (λ x i. inl (even-react p x u w (answers x u (sym (ap (λ (o : Option Op). answer_refusal o u) i) ∙ e))).count)

last-is-new : (rs : List Run) (r : ℕ) → length rs ≤ r → r < length (rs ++ new_run ∷ []) →
    (get_or (rs ++ new_run ∷ []) r no_run).stage ≡ New
last-is-new [] zero l m = refl
last-is-new [] (suc r) l m = absurd (omega (arith, m))
last-is-new (x ∷ rs) zero l m = absurd (omega (arith, l))
last-is-new (x ∷ rs) (suc r) l m = last-is-new rs r (omega (arith, l)) (omega (arith, m))

-- a run that a step makes hasn't ended
born : (w v : World) (r : ℕ) → Grown w v → length w.runs ≤ r → r < length v.runs → (run_of v r).stage ≡ Ended → ⊥
born w v r (inl e) l m k = omega (arith, e, l, m)
born w v r (inr e) l m k =
    let m2 : r < length (w.runs ++ new_run ∷ []) = omega (arith, m, ap (λ (rs : List Run). length rs) e) in
    let no : New ≡ Ended = sym (last-is-new w.runs r l m2) ∙ (sym (ap (λ (rs : List Run). (get_or rs r no_run).stage) e) ∙ k) in
    absurd (cc)

-- once it is made it hasn't ended, unless it is dropped, and nothing of what it does that is ready is to be done
record Watched (r : ℕ) (s : Machine) : Type 0 where
  pub idle : weigh_all (readying_of r) s.parties ≡ 0
  pub stage : r < length s.world.runs → (run_of s.world r).stage ≡ Ended → has (is_run_drop r) s.world.trace ≡ true

or-past : (i j : ℕ) → (i < j) ⊎ (j ≤ i)
or-past i j = grind arith

module _ (r : ℕ) (s : Machine) (here : Reached s) (h : Watched r s) where
  by-step : length s.world.runs ≤ r → (t : Step) (k : Option StepError) → refusal s t ≡ k →
      OwnIsReady r s t ⊎ Watched r (stepped s (step_by k s t))
  by-step l t (Some error) e = inr h
  by-step l t None e =
      let x = there (ltb (party_of t) (length s.parties)) (part_refusal s.world s.parties (stack s (party_of t)) t) e in
      let m : party_of t < length s.parties = grind (arith, nat_tests) in
      ⊎_elim
      (λ (y : OwnIsReady r s t). inl y)
      (λ (y : Kept r s.world (stack s (party_of t)) (part_after s.world (stack s (party_of t)) t)). inr (record {
        idle = idle-still r s (apart-here s here r) h.idle t m y;
        stage = λ i j. absurd (born s.world (part_after s.world (stack s (party_of t)) t).world r
            (grown-part s.world s.parties (stack s (party_of t)) t x.1) l i j);
      }))
      (on-part r s (apart-here s here r) h.idle t x.1 m)

  unmade-on : length s.world.runs ≤ r → (t : Step) → OwnIsReady r s t ⊎ Watched r (stepped s (step s t))
  unfolding step
  unmade-on l t = by-step l t (refusal s t) refl

  watched-on : (t : Step) → OwnIsReady r s t ⊎ Watched r (stepped s (step s t))
  watched-on t = ⊎_elim
      (λ (l : r < length s.world.runs). ⊎_elim
      (λ (y : OwnIsReady r s t). inl y)
      (λ (y : Lasts r (stepped s (step s t))). inr (record { idle = y.idle; stage = λ i j. y.stage j }))
      (lasts-on r s (ran-here s here r) (apart-here s here r) (record { idle = h.idle; stage = λ j. h.stage l j }) t))
      (λ (l : length s.world.runs ≤ r). unmade-on l t)
      (or-past r (length s.world.runs))

watched : (r : ℕ) (ts : List Step) (s : Machine) → Reached s → Watched r s → OwnWasReady r ts s ⊎ Watched r (run ts s)
watched r [] s here h = inr h
watched r (t ∷ ts) s here h = ⊎_elim
    (λ (y : OwnIsReady r s t). inl (inl y))
    (λ (y : Watched r (stepped s (step s t))). ⊎_elim
    (λ (k : OwnWasReady r ts (stepped s (step s t))). inl (inr k))
    (λ (k : Watched r (run ts (stepped s (step s t)))). inr k)
    (watched r ts (stepped s (step s t)) (reached-on s (t ∷ []) here) y))
    (watched-on r s here h t)

pub ends-only-by-its-own : (limit : ℕ) (kind : Kind) (parties : ℕ) (steps : List Step) (r : ℕ) →
    EndsOnlyByItsOwn limit kind parties steps r
ends-only-by-its-own limit kind parties steps r made undropped ended =
    let first : Machine = start limit kind parties in
    let s : Machine = run steps first in
    let here : Reached s = record { limit = limit; kind = kind; parties = parties; steps = steps; is = refl } in
    ⊎_elim
    (λ (y : OwnWasReady r steps first). y)
    (λ (y : Watched r s). absurd (not-both _ (y.stage made (ended-here s here r ended)) undropped))
    (watched r steps first (record { limit = limit; kind = kind; parties = parties; steps = []; is = refl }) (record {
      idle = weigh_all-idle (readying_of r) parties;
      stage = λ i j. absurd (omega (arith, i));
    }))
