-- For drops_of_own_futures_are_entered.
-- Where a run's own future is ready, and where a run is dropped that hasn't ended, the drop of its own future comes first.
use Rattle.std.proofs.Common.{◌≡◌, ◌≢◌, ◌∙◌, ℕ, ◌<◌, ◌≤◌, List, [], ◌∷◌, ◌++◌, length, Bool, true, false, ltb, refl, sym, ap}
use Rattle.std.proofs.Common.{arith, get_or-set_same}
use Rattle.std.proofs.lemmas.Bool.Decides.{nat_tests}
use Rattle.std.proofs.lemmas.List.{get_or_past}
use Rattle.std.specs.Prelude.{Option, Some, None, reverse}
use Rattle.executor_model.specs.declared.event.Answer.TheVariants.{Ready}
use Rattle.executor_model.specs.declared.step.Step.TheVariants.{Answer}
use Rattle.executor_model.specs.declared.step.UserEnd.TheVariants.{Polled}
use Rattle.executor_model.specs.Steps.{Machine, answer_refusal, below_top, begun, drop_run, end_of, gone_on, mine, react, refusal, run}
use Rattle.executor_model.specs.Steps.{settled_by, stack, start, step, stepped, top, unless}
use Rattle.executor_model.specs.World.{Ended, Listed, New, Stage, World, log, run_of}
use Rattle.executor_laws.proofs.Promptness.Turns.{next-is}
use Rattle.executor_laws.proofs.Reach.LoneTicks.{in-range}
use Rattle.call_laws.proofs.Leading.{top-first}
use Rattle.call_laws.proofs.Taking.{not-below}
use Rattle.call_laws.proofs.Types.{Begin, Call, Event, Kind, ListOp, NoSuch, Op, Reply, RunOp, RunPoll, Section, Step, UserOp}
use Rattle.call_laws.specs.OwnDrops.{OwnDropsAreEntered}

-- who has something to do is a party
pub is-party : (s : Machine) (p : ℕ) (o : Op) → top (stack s p) ≡ Some o → p < length s.parties
is-party s p o e = by (ltb p (length s.parties)) refl
  where
    by : (b : Bool) → ltb p (length s.parties) ≡ b → p < length s.parties
    by true z = grind (arith, nat_tests)
    by false z =
        let n : length s.parties ≤ p = omega (arith, not-below p (length s.parties) z) in
        let i : top (stack s p) ≡ None = ap top (get_or_past s.parties p [] n) in
        absurd (let no : Some o ≡ None = sym e ∙ i in cc)

stands-first : (p : ℕ) (w : World) (rest : List Op) (o : Op) (os : List Op) → end_of (Some o) ≡ None →
    top (settled_by (end_of (top (rest ++ reverse (o ∷ os)))) p w (rest ++ reverse (o ∷ os))).todo ≡ Some o
stands-first p w rest o os n =
    ap (λ (x : Option Op). top (settled_by (end_of x) p w (rest ++ reverse (o ∷ os))).todo) (top-first rest o os)
    ∙ (ap (λ (x : Option Reply). top (settled_by x p w (rest ++ reverse (o ∷ os))).todo) n ∙ top-first rest o os)

ready-free : (s : Machine) (p : ℕ) (x : RunPoll) → top (stack s p) ≡ Some (Op.User (UserOp.PollOwn x)) →
    refusal s (Answer p (Polled Ready)) ≡ None
ready-free s p x e =
    let l : p < length s.parties = is-party s p (Op.User (UserOp.PollOwn x)) e in
    let b : ltb p (length s.parties) ≡ true = grind (arith, nat_tests) in
    ap (λ (c : Bool). unless c NoSuch (answer_refusal (top (stack s p)) (Polled Ready))) b
    ∙ ap (λ (o : Option Op). answer_refusal o (Polled Ready)) e

own-ready : (s : Machine) (p : ℕ) (x : RunPoll) → top (stack s p) ≡ Some (Op.User (UserOp.PollOwn x)) →
    top (stack (stepped s (step s (Answer p (Polled Ready)))) p) ≡ Some (Op.User (UserOp.DropOwn x.run))
own-ready s p x e =
    let t : Step = Answer p (Polled Ready) in
    let l : p < length s.parties = is-party s p (Op.User (UserOp.PollOwn x)) e in
    ap (λ (m : Machine). top (stack m p)) (next-is s t (ready-free s p x e))
    ∙ (ap top (get_or-set_same s.parties p _ [] l)
    ∙ (ap (λ (o : Option Op). top (gone_on p s.world (stack s p) o (λ y. react p y (Polled Ready) s.world)).todo) e
    ∙ stands-first p s.world (below_top (stack s p)) (Op.User (UserOp.DropOwn x.run))
    (Op.List (ListOp.LockWrite (Section.Unregister x.run Reply.Ready)) ∷ []) refl))

own-dropped : (s : Machine) (p r : ℕ) → refusal s (Begin p (Call.DropRun r)) ≡ None → (run_of s.world r).stage ≢ Ended →
    top (stack (stepped s (step s (Begin p (Call.DropRun r)))) p) ≡ Some (Op.User (UserOp.DropOwn r))
own-dropped s p r e n =
    let t : Step = Begin p (Call.DropRun r) in
    let b : ltb p (length s.parties) ≡ true = (in-range _ _ e).0 in
    let l : p < length s.parties = grind (arith, nat_tests) in
    ap (λ (m : Machine). top (stack m p)) (next-is s t e)
    ∙ (ap top (get_or-set_same s.parties p _ [] l)
    ∙ by (begun p (log s.world (Event.CallBegun p (Call.DropRun r))) (mine (top (stack s p))) (Call.DropRun r)).world
    (stack s p) (run_of s.world r).stage n)
  where
    by : (w : World) (os : List Op) (x : Stage) → x ≢ Ended →
        top (settled_by (end_of (top (os ++ reverse (drop_run x r)))) p w (os ++ reverse (drop_run x r))).todo
        ≡ Some (Op.User (UserOp.DropOwn r))
    by w os New k =
        stands-first p w os (Op.User (UserOp.DropOwn r)) (Op.Run (RunOp.Reschedule r Reply.Done) ∷ []) refl
    by w os Listed k = stands-first p w os (Op.User (UserOp.DropOwn r))
        (Op.List (ListOp.LockWrite (Section.Unregister r Reply.Done)) ∷ []) refl
    by w os Ended k = absurd (k refl)

pub own-entered : (limit : ℕ) (kind : Kind) (parties : ℕ) (steps : List Step) →
    OwnDropsAreEntered (run steps (start limit kind parties))
own-entered limit kind parties steps = let s = run steps (start limit kind parties) in record {
  ready = λ p x e. own-ready s p x e;
  dropped = λ p r e n. own-dropped s p r e n;
}
