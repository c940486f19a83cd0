-- What a party does behind the beginning of a call, or the end of user code, till it rests.
use Rattle.std.proofs.Common.{◌≡◌, ℕ, ◌<◌, ◌==◌, ◌++◌, ◌&&◌, not, true, false, List, [], ◌∷◌, length}
use Rattle.std.proofs.Common.{Option, Some, None, Ok, sym, ap, subst, ◌∙◌, get_or-set_same}
use Rattle.std.specs.Prelude.{reverse}
use Rattle.executor_model.specs.declared.call.Call.{Call}
use Rattle.executor_model.specs.declared.op.Op.{Op}
use Rattle.executor_model.specs.declared.op.Op.TheVariants as op
use Rattle.executor_model.specs.declared.op.UserOp.TheVariants as user_op
use Rattle.executor_model.specs.declared.step.Hint.{Hint}
use Rattle.executor_model.specs.declared.step.Step.{Step}
use Rattle.executor_model.specs.declared.step.Step.TheVariants.{Begin, Go, Answer}
use Rattle.executor_model.specs.declared.step.StepError.{StepError}
use Rattle.executor_model.specs.declared.step.StepError.TheVariants.{Idle, WrongAnswer, Waits}
use Rattle.executor_model.specs.declared.step.UserEnd.{UserEnd}
use Rattle.executor_model.specs.Doing.{act}
use Rattle.executor_model.specs.Executions.{run_all}
use Rattle.executor_model.specs.Steps.{Machine, after, answer_refusal, go_refusal, is_locked_out, mine, onto, react, refusal}
use Rattle.executor_model.specs.Steps.{stack, top, unless, waits}
use Rattle.executor_model.specs.World.{World, Done, done}
use Rattle.executor_model.proofs.SpawnWants.Tops.{flipped}
use Rattle.executor_model.proofs.Steps.Reached.{Reached, reached-step, run-first}
use Rattle.executor_model.proofs.Steps.Stepping.{refusal-there}
use Rattle.executor_laws.proofs.Termination.LoneEnds.{still-party}
use Rattle.machine_roads.specs.Alone.{is_outside, is_resting, Has, HasFirst}
use Rattle.machine_roads.specs.Alike.{begins, upon}
use Rattle.machine_roads.specs.Within.{calls_outside, rests_after, standing}
use Rattle.machine_roads.proofs.Lists.{same_of}
use Rattle.machine_roads.proofs.LoneRuns.{IsBefore, WalksBy, before, both_true, made_is, not_true, passed}
use Rattle.machine_roads.proofs.Tying.{Goes, LeadsBy, LeadsSo, answers, ended, goes, leads_ended, leads_on, leads_outside, leads_rest}
use Rattle.machine_roads.proofs.Tying.{none_of, settles, top_of}

-- who has nothing to do does nothing
pub no_go : (s : Machine) (p : ℕ) → p < length s.parties → (h : Hint) → reverse (stack s p) ≡ [] → refusal s (Go p h) ≡ None → ⊥
no_go s p there h none may =
    let no : ◌≡◌ {A = Option StepError} (Some Idle) None =
    sym (ap (λ xs. go_refusal s.world (top xs)) (none_of (stack s p) none)) ∙ (sym (refusal-there s (Go p h) there) ∙ may) in
    cc

pub no_answer : (s : Machine) (p : ℕ) → p < length s.parties → (e : UserEnd) → reverse (stack s p) ≡ []
    → refusal s (Answer p e) ≡ None → ⊥
no_answer s p there e none may =
    let no : ◌≡◌ {A = Option StepError} (Some Idle) None =
    sym (ap (λ xs. answer_refusal (top xs) e) (none_of (stack s p) none)) ∙ (sym (refusal-there s (Answer p e) there) ∙ may) in
    cc

module _ (P : World → List Op → Type 0) (Fine : Machine → Type 0) (walks : WalksBy P Fine) (p : ℕ) (R : Done → Type 0) (new : Machine)
    (later : Fine new) where
  abbrev Walking : List Step → Machine → List Op → Type 0
  Walking ts s os =
      Reached s → p < length s.parties → reverse (stack s p) ≡ os → LeadsBy P p (done s.world os) R → rests_after p ts s ≡ true
      → run_all ts s ≡ Ok new → R (standing new p)

  -- behind a step that goes so
  pub step_on : (ts : List Step) → ((s : Machine) (os : List Op) → Walking ts s os) → (s : Machine) → Reached s → p < length s.parties
      → (t : Step) (d : Done) → Goes p s (after s t) d → LeadsBy P p d R → refusal s t ≡ None → rests_after p ts (after s t) ≡ true
      → run_all ts (after s t) ≡ Ok new → R (standing new p)
  step_on ts onwards s reached there t d goes leads may rests made =
      onwards (after s t) (ended p d.world d.next).next (reached-step s t may reached) (still-party p s t there) goes.todo
      (subst (λ w. LeadsBy P p (done w (ended p d.world d.next).next) R) (sym goes.world)
      (leads_ended P walks.easy p R d.world d.next leads))
      rests made

  pub walked : (ts : List Step) (s : Machine) (os : List Op) → Walking ts s os
  walked [] s os reached there is leads rests made =
      let same = made_is s new made in
      subst (λ (m : Machine). R (standing m p)) same
      (subst (λ xs. R (done s.world xs)) (sym is)
      (leads_rest P walks.easy p R s.world os (ap (λ xs. is_resting xs) (sym is) ∙ rests) leads))
  walked (Begin q c ∷ ts) s os reached there is leads rests made = absurd cc
  walked (Go q h ∷ ts) s os reached there is leads rests made =
      let two = both_true (p == q) (rests_after p ts (after s (Go q h))) rests in
      let at : q ≡ p = sym (same_of p q two.0) in
      let whole = subst (λ n. run_all (Go n h ∷ ts) s ≡ Ok new) at made in
      by (walked ts) os is leads whole (subst (λ n. rests_after p ts (after s (Go n h)) ≡ true) at two.1)
    where
      by : ((s : Machine) (os : List Op) → Walking ts s os) → (os : List Op) → reverse (stack s p) ≡ os
          → LeadsBy P p (done s.world os) R → run_all (Go p h ∷ ts) s ≡ Ok new
          → rests_after p ts (after s (Go p h)) ≡ true → R (standing new p)
      by onwards [] is leads whole rests = absurd (no_go s p there h is (run-first (Go p h) ts s new whole).0)
      by onwards (o ∷ os) is leads whole rests =
          let k = run-first (Go p h) ts s new whole in
          let its_top = (top_of (stack s p) o os is).0 in
          let may : unless (not (waits o)) WrongAnswer (unless (not (is_locked_out s.world.lock o)) Waits None) ≡ None =
          sym (ap (go_refusal s.world) its_top) ∙ (sym (refusal-there s (Go p h) there) ∙ k.0) in
          let free =
          not_true (waits o)
          (passed (not (waits o)) WrongAnswer (unless (not (is_locked_out s.world.lock o)) Waits None) may) in
          let has = walks.gives s p reached there (walks.back (Go p h ∷ ts) s new reached whole later) (o ∷ os) is in
          step_on ts onwards s reached there (Go p h) (done (act p h o s.world).world ((act p h o s.world).next ++ os))
          (goes p s there o os is h) (leads_on P walks.easy p R h o s.world os free has leads) k.0 rests k.1
  walked (Answer q e ∷ ts) s os reached there is leads rests made =
      let two = both_true ((p == q) && calls_outside (top (stack s p))) (rests_after p ts (after s (Answer q e))) rests in
      let one = both_true (p == q) (calls_outside (top (stack s p))) two.0 in
      let at : q ≡ p = sym (same_of p q one.0) in
      let whole = subst (λ n. run_all (Answer n e ∷ ts) s ≡ Ok new) at made in
      by (walked ts) os is leads (run-first (Answer p e) ts s new whole).0 one.1
      (subst (λ n. rests_after p ts (after s (Answer n e)) ≡ true) at two.1)
      (run-first (Answer p e) ts s new whole).1
    where
      ends : ((s : Machine) (os : List Op) → Walking ts s os) → (o : Op) (os : List Op) → reverse (stack s p) ≡ o ∷ os
          → LeadsBy P p (done s.world (o ∷ os)) R → is_outside o ≡ true
          → refusal s (Answer p e) ≡ None → rests_after p ts (after s (Answer p e)) ≡ true → run_all ts (after s (Answer p e)) ≡ Ok new
          → R (standing new p)
      ends onwards (op.User (user_op.CallOutside x)) os is leads outside may rests made =
          step_on ts onwards s reached there (Answer p e) (done s.world os)
          (answers p s there (op.User (user_op.CallOutside x)) os is e)
          (leads_outside P walks.easy p R x s.world os leads) may rests made
      ends onwards o os is leads outside may rests made = absurd cc

      by : ((s : Machine) (os : List Op) → Walking ts s os) → (os : List Op) → reverse (stack s p) ≡ os
          → LeadsBy P p (done s.world os) R → refusal s (Answer p e) ≡ None
          → calls_outside (top (stack s p)) ≡ true → rests_after p ts (after s (Answer p e)) ≡ true
          → run_all ts (after s (Answer p e)) ≡ Ok new → R (standing new p)
      by onwards [] is leads may outside rests made = absurd (no_answer s p there e is may)
      by onwards (o ∷ os) is leads may outside rests made =
          ends onwards o os is leads (ap (λ x. calls_outside x) (sym (top_of (stack s p) o os is).0) ∙ outside) may rests made

  -- a call begins
  pub begun_leads_of : (c : Call) (ts : List Step) (s : Machine) → Reached s → p < length s.parties
      → LeadsBy P p (upon (reverse (stack s p)) (begins p (mine (top (stack s p))) c s.world)) R
      → rests_after p ts (after s (Begin p c)) ≡ true → run_all (Begin p c ∷ ts) s ≡ Ok new → R (standing new p)
  begun_leads_of c ts s reached there leads rests made =
      let k = run-first (Begin p c) ts s new made in
      let d : Done = begins p (mine (top (stack s p))) c s.world in
      let below = reverse (stack s p) in
      let e = settles p d.world (stack s p ++ reverse d.next) (d.next ++ below) (flipped (stack s p) d.next) in
      let todo : reverse (stack (after s (Begin p c)) p) ≡ (ended p d.world (d.next ++ below)).next =
      ap (λ (ys : List Op). reverse ys) (get_or-set_same s.parties p (onto p d (stack s p)).todo [] there) ∙ e.todo in
      step_on ts (walked ts) s reached there (Begin p c) (upon below d) (record { world = e.world; todo = todo }) leads k.0 rests k.1

  -- user code ends
  pub answer_leads_of : (u : UserEnd) (o : Op) (os : List Op) (ts : List Step) (s : Machine) → Reached s → p < length s.parties
      → reverse (stack s p) ≡ o ∷ os → LeadsBy P p (done (react p o u s.world).world ((react p o u s.world).next ++ os)) R
      → rests_after p ts (after s (Answer p u)) ≡ true → run_all (Answer p u ∷ ts) s ≡ Ok new → R (standing new p)
  answer_leads_of u o os ts s reached there is leads rests made =
      let k = run-first (Answer p u) ts s new made in
      step_on ts (walked ts) s reached there (Answer p u) (done (react p o u s.world).world ((react p o u s.world).next ++ os))
      (answers p s there o os is u) leads k.0 rests k.1

-- as long as the executor's drop hasn't begun
module _ (p : ℕ) (R : Done → Type 0) (new : Machine) (later : new.world.gone ≡ false) where
  pub begun_leads : (c : Call) (ts : List Step) (s : Machine) → Reached s → p < length s.parties
      → LeadsSo p (upon (reverse (stack s p)) (begins p (mine (top (stack s p))) c s.world)) R
      → rests_after p ts (after s (Begin p c)) ≡ true → run_all (Begin p c ∷ ts) s ≡ Ok new → R (standing new p)
  begun_leads c ts s reached there leads rests made =
      begun_leads_of (HasFirst Has) IsBefore before p R new later c ts s reached there leads rests made

  pub answer_leads : (u : UserEnd) (o : Op) (os : List Op) (ts : List Step) (s : Machine) → Reached s → p < length s.parties
      → reverse (stack s p) ≡ o ∷ os → LeadsSo p (done (react p o u s.world).world ((react p o u s.world).next ++ os)) R
      → rests_after p ts (after s (Answer p u)) ≡ true → run_all (Answer p u ∷ ts) s ≡ Ok new → R (standing new p)
  answer_leads u o os ts s reached there is leads rests made =
      answer_leads_of (HasFirst Has) IsBefore before p R new later u o os ts s reached there is leads rests made
