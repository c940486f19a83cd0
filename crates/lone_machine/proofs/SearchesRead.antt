-- A run whose own queue and the executor's are empty, and whose own future is pending, reads the list of queues.
use Rattle.std.proofs.Common.{◌≡◌, ℕ, ◌<◌, ◌==◌, ◌&&◌, ◌||◌, ◌++◌, not, Bool, true, false, List, [], ◌∷◌, length, Option, Some, None, Ok}
use Rattle.std.proofs.Common.{refl, sym, ap, subst, ◌∙◌}
use Rattle.std.specs.Prelude.{reverse}
use Rattle.executor_parts.specs.Marks.{first_of, other}
use Rattle.executor_model.specs.declared.event.Answer.TheVariants.{Pending}
use Rattle.executor_model.specs.declared.op.ListOp.TheVariants as list_op
use Rattle.executor_model.specs.declared.op.Look.TheVariants as look
use Rattle.executor_model.specs.declared.op.Op.{Op}
use Rattle.executor_model.specs.declared.op.Op.TheVariants as op
use Rattle.executor_model.specs.declared.op.RunOp.TheVariants as run_op
use Rattle.executor_model.specs.declared.op.RunPoll.{RunPoll}
use Rattle.executor_model.specs.declared.op.TickOp.TheVariants as tick_op
use Rattle.executor_model.specs.declared.op.UserOp.TheVariants as user_op
use Rattle.executor_model.specs.declared.step.Hint.{Hint}
use Rattle.executor_model.specs.declared.step.Step.{Step}
use Rattle.executor_model.specs.declared.step.Step.TheVariants.{Answer, Begin, Go}
use Rattle.executor_model.specs.declared.step.UserEnd.TheVariants.{Polled}
use Rattle.executor_model.specs.Acts.{turned}
use Rattle.executor_model.specs.ActsOfRuns.{asleep, search_common_by, search_own_by}
use Rattle.executor_model.specs.Doing.{act}
use Rattle.executor_model.specs.Executions.{run_all}
use Rattle.executor_model.specs.Steps.{Machine, after, refusal, stack, top, waits}
use Rattle.executor_model.specs.World.{Done, World, done}
use Rattle.executor_model.proofs.Steps.Reached.{run-first}
use Rattle.executor_laws.proofs.Termination.LoneEnds.{still-party}
use Rattle.machine_roads.specs.Alone.{is_outside, is_resting}
use Rattle.machine_roads.specs.Searching.{reads_list}
use Rattle.machine_roads.specs.Within.{Act, IsAct, calls_outside, goes_on, rests_after}
use Rattle.machine_roads.proofs.Lists.{clash, same_of}
use Rattle.machine_roads.proofs.LoneRuns.{both_true}
use Rattle.machine_roads.proofs.Tying.{answers, ended, goes, none_of, top_of}
use Rattle.lone_machine.specs.Reading.{FindsNone, IsRead, reads_in}
use Rattle.lone_machine.proofs.Going.{there_of}
use Rattle.lone_machine.proofs.Refused.{in_code}

-- a thing to do leads to reading the list, whatever it is told
data Leads (p : ℕ) : World → Op → Type 0 where
  reads : (w : World) (o : Op) (x : RunPoll) → o ≡ op.List (list_op.LockRead x) → Leads p w o
  leads : (w v : World) (o y : Op) → waits o ≡ false → ((h : Hint) → act p h o w ≡ done v (y ∷ []))
      → ((os : List Op) → ended p v (y ∷ os) ≡ done v (y ∷ os)) → Leads p v y → Leads p w o

goes_so : (p : ℕ) (w : World) (o : Op) → Leads p w o → waits o ≡ false
goes_so p w o (reads w' o' x is) = ap waits is
goes_so p w o (leads w' v o' y going is un more) = going

-- what may be done there is that
step_is : (p : ℕ) (s : Machine) (o : Op) (os : List Op) → reverse (stack s p) ≡ o ∷ os → waits o ≡ false → (t : Step)
    → goes_on p s t ≡ true → (h : Hint) × (t ≡ Go p h)
step_is p s o os is going (Begin q c) on = absurd cc
step_is p s o os is going (Go q h) on = (h, ap (λ n. Go n h) (sym (same_of p q on)))
step_is p s o os is going (Answer q e) on =
    absurd
    (clash (ap (λ x. calls_outside x) (top_of (stack s p) o os is).0 ∙ in_code o going)
    (both_true (p == q) (calls_outside (top (stack s p))) on).1)

reads_from : (p : ℕ) (w : World) (o : Op) → Leads p w o → (below : List Op) (ts : List Step) (s new : Machine)
    → p < length s.parties → s.world ≡ w → reverse (stack s p) ≡ o ∷ below → rests_after p ts s ≡ true → run_all ts s ≡ Ok new
    → reads_in p s ts ≡ true
reads_from p w o to below [] s new there world is rests made =
    absurd
    (clash (ap (λ b. b && not (is_outside o)) (goes_so p w o to)) (sym (ap (λ xs. is_resting xs) is) ∙ rests))
reads_from p w o to below (t ∷ ts) s new there world is rests made =
    by to
    (λ h v y more. reads_from p v y more below ts (after s (Go p h)) new (still-party p s (Go p h) there))
  where
    on : goes_on p s t ≡ true
    on = (both_true (goes_on p s t) (rests_after p ts (after s t)) rests).0

    by : Leads p w o
        → ((h : Hint) (v : World) (y : Op) → Leads p v y → (after s (Go p h)).world ≡ v → reverse (stack (after s (Go p h)) p) ≡ y ∷ below
        → rests_after p ts (after s (Go p h)) ≡ true → run_all ts (after s (Go p h)) ≡ Ok new → reads_in p (after s (Go p h)) ts ≡ true)
        → (reads_list (reverse (stack s p)) || reads_in p (after s t) ts) ≡ true
    by (reads w' o' x e) rest =
        ap (λ xs. reads_list xs || reads_in p (after s t) ts) is ∙ ap (λ o. reads_list (o ∷ below) || reads_in p (after s t) ts) e
    by (leads w' v o' y going e un more) rest =
        let it = step_is p s o below is going t on in
        let h = it.0 in
        let g = goes p s there o below is h in
        let so : act p h o s.world ≡ done v (y ∷ []) = ap (λ w. act p h o w) world ∙ e h in
        let later : reads_in p (after s (Go p h)) ts ≡ true =
        rest h v y more
        (g.world ∙ (ap (λ (d : Done). (ended p d.world (d.next ++ below)).world) so ∙ ap (λ (d : Done). d.world) (un below)))
        (g.todo ∙ (ap (λ (d : Done). (ended p d.world (d.next ++ below)).next) so ∙ ap (λ (d : Done). d.next) (un below)))
        (subst (λ t. rests_after p ts (after s t) ≡ true) it.1 (both_true (goes_on p s t) (rests_after p ts (after s t)) rests).1)
        (subst (λ t. run_all ts (after s t) ≡ Ok new) it.1 (run-first t ts s new made).1) in
        or_true (reads_list (reverse (stack s p))) (reads_in p (after s t) ts)
        (subst (λ t. reads_in p (after s t) ts ≡ true) (sym it.1) later)
      where
        or_true : (a b : Bool) → b ≡ true → (a || b) ≡ true
        or_true true b is = refl
        or_true false b is = is

-- a search there leads to it
searches_lead : (p : ℕ) (w : World) (x : RunPoll) → FindsNone w x.run → Leads p w (op.Tick (tick_op.Search (asleep x)))
searches_lead p w x none =
    let k : RunPoll = record { run = x.run; waker = x.waker; poll = x.poll } in
    let v = turned p w in
    let m = first_of w.urgent_turns in
    leads w w (op.Tick (tick_op.Search (asleep x))) (op.Run (run_op.TakeTurn k)) refl
    (λ h. ap (λ items. search_own_by items w k) none.own) (λ os. refl)
    (leads w v (op.Run (run_op.TakeTurn k)) (op.Run (run_op.SearchCommon k (look.First m))) refl (λ h. refl) (λ os. refl)
    (leads v v (op.Run (run_op.SearchCommon k (look.First m))) (op.Run (run_op.SearchCommon k (look.Second (other m)))) refl
    (λ h. ap (λ items. search_common_by items v k (look.First m)) (none.common m)) (λ os. refl)
    (leads v v (op.Run (run_op.SearchCommon k (look.Second (other m)))) (op.List (list_op.LockRead k)) refl
    (λ h. ap (λ items. search_common_by items v k (look.Second (other m))) (none.common (other m))) (λ os. refl)
    (reads v (op.List (list_op.LockRead k)) k refl))))

-- and so does an act in which the run's own future is pending
pub reads_it : (s : Machine) (a : Act) (x : RunPoll) → IsAct s a → a.first ≡ Answer a.party (Polled Pending)
    → top (stack s a.party) ≡ Some (op.User (user_op.PollOwn x)) → FindsNone s.world x.run → IsRead s a
reads_it s a x it first on_top none = by (reverse (stack s a.party)) refl
  where
    p : ℕ
    p = a.party

    there : p < length s.parties
    there = there_of s (Answer p (Polled Pending)) (subst (λ t. refusal s t ≡ None) first (run-first a.first a.steps s a.left it.made).0)

    now : Machine
    now = after s (Answer p (Polled Pending))

    rests_on : rests_after p a.steps now ≡ true
    rests_on = subst (λ t. rests_after p a.steps (after s t) ≡ true) first it.rests

    made_on : run_all a.steps now ≡ Ok a.left
    made_on = subst (λ t. run_all a.steps (after s t) ≡ Ok a.left) first (run-first a.first a.steps s a.left it.made).1

    by : (os : List Op) → reverse (stack s p) ≡ os → IsRead s a
    by [] is =
        let no : ◌≡◌ {A = Option Op} None (Some (op.User (user_op.PollOwn x))) =
        sym (ap (λ xs. top xs) (none_of (stack s p) is)) ∙ on_top in
        absurd cc
    by (o ∷ below) is =
        let same : ◌≡◌ {A = Option Op} (Some o) (Some (op.User (user_op.PollOwn x))) = sym (top_of (stack s p) o below is).0 ∙ on_top in
        let o_is : o ≡ op.User (user_op.PollOwn x) = cc in
        let is_so : reverse (stack s p) ≡ op.User (user_op.PollOwn x) ∷ below = is ∙ ap (λ o. o ∷ below) o_is in
        let g = answers p s there (op.User (user_op.PollOwn x)) below is_so (Polled Pending) in
        subst (λ t. reads_in p (after s t) a.steps ≡ true) (sym first)
        (reads_from p s.world (op.Tick (tick_op.Search (asleep x))) (searches_lead p s.world x none) below a.steps now a.left
        (still-party p s (Answer p (Polled Pending)) there) g.world g.todo rests_on made_on)
