-- For runs_take_few_futures.
-- So any poll of a run takes 200 futures up at most, whatever others do, and whatever user code does inside of it.
use Rattle.std.proofs.Common.{◌≡◌, ◌≢◌, ◌⊎◌, ◌∙◌, inl, ⊎_elim, ℕ, ◌+◌, ◌<◌, ◌≤◌, List, [], ◌∷◌, ◌++◌, length, cond, Result}
use Rattle.std.proofs.Common.{Bool, true, false, ◌&&◌, eqb, ltb, refl, sym, ap, subst, arith, append-nil, length-append}
use Rattle.std.{proofs.Common.get_or-set_same, proofs.Common.get_or-set_other, specs.Prelude.Option, specs.Prelude.Some}
use Rattle.std.{specs.Prelude.None, specs.Prelude.reverse, proofs.lemmas.Bool.Decides.nat_tests, proofs.lemmas.List.get_or_past}
use Rattle.executor_laws.proofs.Types.{Begin, StepError, By, Call, Reply, Event, Kind, Hold, ListOp, Op, RunOp, RunPoll}
use Rattle.executor_model.specs.Steps.{Machine, Part, begun, mine, onto, part_after, part_refusal, party_of, poll_run, refusal}
use Rattle.executor_model.specs.Steps.{run, stack, start, step, step_by, stepped, top, waker_of, with_part}
use Rattle.executor_model.specs.World.{Done, Ended, Listed, New, Stage, World, log, run_of}
use Rattle.executor_model.specs.{Rows.running_of, Weights.weigh, Weights.weigh_all}
use Rattle.executor_laws.specs.RunTakes.{TakesUpFew, depth, takes_in, takes_itself, takes_up}
use Rattle.executor_model.proofs.OwnQueues.UsingSteps.{all-used}
use Rattle.executor_model.proofs.{Quiet.Calls.is_end, Steps.Lists.weigh-append, Steps.Reached.Reached, Steps.Stepping.step-made}
use Rattle.executor_laws.proofs.Fewness.AnyStacks.{Goes, Stands, Stays, StaysIn, by-mine, counted, lands, not-mine, one-stack}
use Rattle.executor_laws.proofs.Fewness.AnyStacks.{part-untaken, two-stacks}
use Rattle.executor_laws.proofs.Fewness.AnySteps.{Owns, beside_of, budget-kept, owns-uses}
use Rattle.executor_laws.proofs.Fewness.FewSteps.{Ready, budget, left_of}
use Rattle.executor_laws.proofs.Fewness.AnyStacks.Stays.{going, over}
use Rattle.executor_laws.proofs.{Types.Section, Types.UserOp, Types.Step, Fewness.FewSides.ups, Placement.OwnReady.reached-on}
use Rattle.executor_laws.proofs.{Reach.LoneTicks.in-range, Termination.TakingFew.takes-few}

-- a step of the machine

pub set-other : (p i : ℕ) (s : Machine) (x : Part) → p ≢ i → stack (with_part s i x) p ≡ stack s p
set-other p i s x n = get_or-set_other s.parties i p x.todo [] n

pub set-same : (p : ℕ) (s : Machine) (x : Part) → p < length s.parties → stack (with_part s p x) p ≡ x.todo
set-same p s x l = get_or-set_same s.parties p x.todo [] l

record Uses (q : ℕ) (s : Machine) : Type 0 where
  pub once : weigh_all (running_of q) s.parties ≤ 1
  pub unborn : length s.world.runs ≤ q → weigh_all (running_of q) s.parties ≡ 0
  pub few : (run_of s.world q).taken < 200

uses-here : (q : ℕ) (s : Machine) → Reached s → Uses q s
uses-here q s y = subst (Uses q) (sym y.is) (record {
  once = (all-used y.limit y.kind y.parties y.steps q).once;
  unborn = (all-used y.limit y.kind y.parties y.steps q).unborn;
  few = takes-few y.limit y.kind y.parties y.steps q;
})

or-past : (i j : ℕ) → (i < j) ⊎ (j ≤ i)
or-past i j = grind arith

module _ (p q : ℕ) (old : List Op) where
  module _ (n : ℕ) (s : Machine) (y : Reached s) (c : Op) (side above : List Op) (is : stack s p ≡ (old ++ c ∷ side) ++ above)
      (k : Owns q c) (z : weigh beside_of side ≡ 0) (l : weigh ups side + budget q c s.world ≤ n)
      (st : (above ≡ []) ⊎ Stands (c ∷ side)) where
    u : Uses q s
    u = uses-here q s y

    here : is_end c ≡ false → 1 ≤ weigh (running_of q) (stack s p)
    here e = omega (
      arith,
      ap (weigh (running_of q)) is,
      weigh-append (running_of q) (old ++ c ∷ side) above,
      weigh-append (running_of q) old (c ∷ side),
      owns-uses q c k e,
    )

    ready : is_end c ≡ false → Ready q s.world
    ready e = (
      ⊎_elim (λ (x : q < length s.world.runs). x)
          (λ (x : length s.world.runs ≤ q). absurd (omega (arith, here e, u.unborn x, one-stack (running_of q) s.parties p)))
          (or-past q (length s.world.runs)),
      u.few,
    )

    party : p < length s.parties
    party = ⊎_elim (λ (x : p < length s.parties). x)
        (λ (x : length s.parties ≤ p). absurd (not-empty (sym is ∙ get_or_past s.parties p [] x)))
        (or-past p (length s.parties))
      where
        not-empty : (old ++ c ∷ side) ++ above ≡ [] → ⊥
        not-empty e = omega (
          arith,
          ap (λ (xs : List Op). length xs) e,
          length-append (old ++ c ∷ side) above,
          length-append old (c ∷ side),
        )

    abbrev After : Step → Option StepError → Machine → Type 0
    After t refused v = (m : ℕ) × Stays q old m v.world (stack v p) × (counted refused p old t (stack s p) + m ≤ n)

    by-other : (t : Step) → p ≢ party_of t → part_refusal s.world s.parties (stack s (party_of t)) t ≡ None →
        After t None (with_part s (party_of t) (part_after s.world (stack s (party_of t)) t))
    by-other t m e =
        let x : Part = part_after s.world (stack s (party_of t)) t in (
          n,
          subst (Stays q old n x.world) (sym (set-other p (party_of t) s x m))
              (going c side above is k z
              (omega (
                arith,
                l,
                budget-kept q c s.world x.world (λ i. part-untaken q s.world s.parties (stack s (party_of t)) t e (omega (
                  arith,
                  here i,
                  u.once,
                  two-stacks (running_of q) s.parties p (party_of t) m,
                ))),
              ))
              st),
          omega (
            arith,
            ap {B = ℕ} (λ (b : Bool). cond (b && eqb (depth (stack s p)) (depth old)) 1 0)
                (not-mine p None t (top (stack s p)) (λ i. m (sym i))),
          ),
        )

    by-same : (i : ℕ) (t : Step) → i ≡ p → part_refusal s.world s.parties (stack s i) t ≡ None →
        After t None (with_part s i (part_after s.world (stack s i) t))
    by-same i t j e =
        let x : Part = part_after s.world (stack s p) t in
        let e2 : part_refusal s.world s.parties (stack s p) t ≡ None =
        sym (ap (λ (a : ℕ). part_refusal s.world s.parties (stack s a) t) j) ∙ e in
        let g : Goes q old n (counted None p old t (stack s p)) x =
        by-mine p q old n s.world s.parties (stack s p) c side above is k z l st
        (omega (arith, u.once, one-stack (running_of q) s.parties p)) ready None t e2 in
        subst (λ (a : ℕ). After t None (with_part s a (part_after s.world (stack s a) t))) (sym j)
        (g.left, subst (Stays q old g.left x.world) (sym (set-same p s x party)) g.stays, g.pays)

    by-party : (t : Step) (b : Bool) → eqb (party_of t) p ≡ b → part_refusal s.world s.parties (stack s (party_of t)) t ≡ None →
        After t None (with_part s (party_of t) (part_after s.world (stack s (party_of t)) t))
    by-party t true i e = by-same (party_of t) t (let j : party_of t ≡ p = grind (arith, nat_tests) in j) e
    by-party t false i e = by-other t (let j : p ≢ party_of t = grind (arith, nat_tests) in j) e

    by-step : (t : Step) (refused : Option StepError) → refusal s t ≡ refused → After t refused (stepped s (step_by refused s t))
    by-step t (Some error) e = (n, going c side above is k z l st, omega (arith, none-refused t (top (stack s p))))
      where
        none-refused : (t : Step) (o : Option Op) →
            ◌≡◌ {A = ℕ} (cond (takes_up (Some error) p t o && eqb (depth (stack s p)) (depth old)) 1 0) 0
        none-refused t o = refl
    by-step t None e = by-party t (eqb (party_of t) p) refl
        (in-range (ltb (party_of t) (length s.parties)) (part_refusal s.world s.parties (stack s (party_of t)) t) e).1

    goes-on : (t : Step) → After t (refusal s t) (stepped s (step s t))
    unfolding step
    goes-on t = by-step t (refusal s t) refl

  few-in : (ts : List Step) (n : ℕ) (s : Machine) → Reached s → Stays q old n s.world (stack s p) → takes_in p old ts s ≤ n
  few-in [] n s y h = omega arith
  few-in (t ∷ ts) n s y (over l) = by (ltb (length old) (length (stack s p)))
      (let z : ltb (length old) (length (stack s p)) ≡ false = grind (arith, nat_tests) in z)
    where
      by : (b : Bool) → b ≡ false → cond b (cond (takes_itself p old t s) 1 0 + takes_in p old ts (stepped s (step s t))) 0 ≤ n
      by false e = omega arith
      by true e = absurd (cc)
  few-in (t ∷ ts) n s y (going c side above is k z l st) =
      let g : _ = goes-on n s y c side above is k z l st t in
      by (ltb (length old) (length (stack s p))) g.0
      (few-in ts g.0 (stepped s (step s t)) (reached-on s (t ∷ []) y) g.1) g.2
    where
      by : (b : Bool) (m : ℕ) → takes_in p old ts (stepped s (step s t)) ≤ m →
          counted (refusal s t) p old t (stack s p) + m ≤ n →
          cond b (cond (takes_itself p old t s) 1 0 + takes_in p old ts (stepped s (step s t))) 0 ≤ n
      by true m a b = omega (arith, a, b)
      by false m a b = omega arith

-- the beginning

poll-first : (t : Stage) (r : ℕ) (x : RunPoll) → x.run ≡ r → (c : Op) × (poll_run t x ≡ c ∷ []) × Owns r c
poll-first New r x e = (Op.List (ListOp.LockWrite (Section.Register x)), refl, e)
poll-first Listed r x e = (Op.User (UserOp.PollOwn x), refl, e)
poll-first Ended r x e = (Op.End Reply.Finished (Hold.Run x.run), refl, refl)

budget-bound : (q : ℕ) (c : Op) (w : World) → budget q c w ≤ 200
budget-bound q (Op.End a held) w = omega arith
budget-bound q (Op.Run (RunOp.WakeOwn x)) w = omega arith
budget-bound q _ w = let z : left_of q w ≤ 200 = omega arith in z

module _ (s : Machine) (y : Reached s) (p r : ℕ) (b : By) (e : refusal s (Begin p (Call.PollRun r b)) ≡ None) where
  abbrev first : Step
  first = Begin p (Call.PollRun r b)

  abbrev d : Done
  d = begun p (log s.world (Event.CallBegun p (Call.PollRun r b))) (mine (top (stack s p))) (Call.PollRun r b)

  abbrev poll : RunPoll
  poll = record {
    run = r;
    waker = waker_of (mine (top (stack s p))) b;
    poll = length (s.world.trace ++ Event.CallBegun p (Call.PollRun r b) ∷ []);
  }

  party-here : p < length s.parties
  party-here = let x : ltb p (length s.parties) ≡ true =
      (in-range (ltb p (length s.parties)) (part_refusal s.world s.parties (stack s p) first) e).0 in grind (arith, nat_tests)

  begins-so : StaysIn r (stack s p) 200 (onto p d (stack s p))
  begins-so =
      let x : _ = poll-first (run_of s.world r).stage r poll refl in
      lands r (stack s p) 200 p d.world (stack s p ++ reverse d.next) x.0 [] []
      (ap (λ (ys : List Op). stack s p ++ reverse ys) x.1 ∙ sym (append-nil (stack s p ++ x.0 ∷ []))) x.2 refl
      (omega (arith, budget-bound r x.0 d.world)) (inl refl)

  few-taken : (steps : List Step) → takes_in p (stack s p) steps (stepped s (step s first)) ≤ 200
  few-taken steps =
      let j : stepped s (step s first) ≡ with_part s p (onto p d (stack s p)) =
      ap (λ (x : Result Machine StepError). stepped s x) (step-made s first e) in
      few-in p r (stack s p) steps 200 (stepped s (step s first)) (reached-on s (first ∷ []) y)
      (subst (λ (v : Machine). Stays r (stack s p) 200 v.world (stack v p)) (sym j)
      (subst (Stays r (stack s p) 200 (onto p d (stack s p)).world) (sym (set-same p s (onto p d (stack s p)) party-here))
      begins-so))

pub takes-up-few : (limit : ℕ) (kind : Kind) (parties : ℕ) (steps : List Step) → TakesUpFew (run steps (start limit kind parties))
takes-up-few limit kind parties steps = λ p r b e ts. few-taken (run steps (start limit kind parties))
    (record { limit = limit; kind = kind; parties = parties; steps = steps; is = refl }) p r b e ts
