-- What a party does behind the end of user code till it rests, with the place from which it reads the list of queues.
use Rattle.std.proofs.Common.{◌≡◌, ◌⊎◌, ℕ, ◌<◌, ◌==◌, ◌++◌, ◌&&◌, not, true, false, List, [], ◌∷◌, length, if◌then◌else◌}
use Rattle.std.proofs.Common.{None, Ok, refl, sym, ap, subst, ◌∙◌, inl, inr, ⊎_elim}
use Rattle.std.specs.Prelude.{reverse}
use Rattle.executor_model.specs.declared.op.ListOp.TheVariants as list_op
use Rattle.executor_model.specs.declared.op.Op.{Op}
use Rattle.executor_model.specs.declared.op.Op.TheVariants as op
use Rattle.executor_model.specs.declared.op.RunPoll.{RunPoll}
use Rattle.executor_model.specs.declared.op.UserOp.TheVariants as user_op
use Rattle.executor_model.specs.declared.step.Hint.{Hint}
use Rattle.executor_model.specs.declared.step.Step.{Step}
use Rattle.executor_model.specs.declared.step.Step.TheVariants.{Begin, Go, Answer}
use Rattle.executor_model.specs.declared.step.StepError.TheVariants.{WrongAnswer, Waits}
use Rattle.executor_model.specs.declared.step.UserEnd.{UserEnd}
use Rattle.executor_model.specs.Doing.{act}
use Rattle.executor_model.specs.Executions.{run_all}
use Rattle.executor_model.specs.Steps.{Machine, after, go_refusal, is_locked_out, react, refusal}
use Rattle.executor_model.specs.Steps.{stack, top, unless, waits}
use Rattle.executor_model.specs.World.{World, Done, done}
use Rattle.executor_model.proofs.Steps.Reached.{Reached, reached-step, run-first}
use Rattle.executor_model.proofs.Steps.Stepping.{refusal-there}
use Rattle.executor_laws.proofs.Termination.LoneEnds.{still-party}
use Rattle.machine_roads.specs.Alone.{Has, HasAll, HasFirst, alone, is_outside, is_resting, one_by}
use Rattle.machine_roads.specs.Searching.{reads_list, start_at, start_of}
use Rattle.machine_roads.specs.Within.{calls_outside, rests_after, standing}
use Rattle.machine_roads.proofs.Lists.{same_of}
use Rattle.machine_roads.proofs.LoneRuns.{before, both_true, gone_before, made_is, not_true, passed, IsBefore}
use Rattle.machine_roads.proofs.Tying.{Goes, LeadsSo, answers, ended, goes, no_hint, top_of}
use Rattle.machine_roads.proofs.Walked.{no_answer, no_go}
use Rattle.machine_roads.proofs.Walked as walks

-- whatever it is told from here on, where it reads the list from this place on, it is so where it rests
abbrev pub LeadsFrom : ℕ → ℕ → Done → (Done → Type 0) → Type 0
LeadsFrom start p d R =
    (hints : List Hint) → HasAll p hints d → start_of p hints d ≡ start → is_resting (alone p hints d).next ≡ true
    → R (alone p hints d)

-- from wherever
pub leads_from : (start p : ℕ) (d : Done) (R : Done → Type 0) → LeadsSo p d R → LeadsFrom start p d R
leads_from start p d R leads hints all starts rests = leads hints all rests

reads_or : (o : Op) (os : List Op) → (reads_list (o ∷ os) ≡ false) ⊎ ((x : RunPoll) × (o ≡ op.List (list_op.LockRead x)))
reads_or (op.List (list_op.LockRead x)) os = inr (x, refl)
reads_or _ os = inl refl

module _ (start p : ℕ) (R : Done → Type 0) where
  -- a thing is done
  from_on : (h : Hint) (o : Op) (w : World) (os : List Op) → waits o ≡ false → reads_list (o ∷ os) ≡ false → Has w o
      → LeadsFrom start p (done w (o ∷ os)) R → LeadsFrom start p (done (act p h o w).world ((act p h o w).next ++ os)) R
  from_on h o w os goes unread has leads hints all starts rests =
      subst
      (λ b. HasAll p hints (one_by b p h o w os) → start_of p hints (one_by b p h o w os) ≡ start
      → is_resting (alone p hints (one_by b p h o w os)).next ≡ true → R (alone p hints (one_by b p h o w os)))
      goes
      (λ all starts rests.
      leads (h ∷ hints) (has, all)
      (ap (λ b. if b then h.start else start_of p hints (one_by (waits o) p h o w os)) unread ∙ starts) rests)
      all starts rests

  -- the list is read
  from_read : (h : Hint) (x : RunPoll) (w : World) (os : List Op) → h.start ≡ start → Has w (op.List (list_op.LockRead x))
      → LeadsFrom start p (done w (op.List (list_op.LockRead x) ∷ os)) R
      → LeadsSo p (done (act p h (op.List (list_op.LockRead x)) w).world ((act p h (op.List (list_op.LockRead x)) w).next ++ os)) R
  from_read h x w os is has leads hints all rests = leads (h ∷ hints) (has, all) is rests

  -- the call of an outside waker ends
  from_outside : (x : ℕ) (w : World) (os : List Op) → LeadsFrom start p (done w (op.User (user_op.CallOutside x) ∷ os)) R
      → LeadsFrom start p (done w os) R
  from_outside x w os leads hints all starts rests = leads (no_hint ∷ hints) (tt, all) starts rests

  -- and a call, where its end is all that is left of it
  from_ended : (w : World) (os : List Op) → LeadsFrom start p (done w os) R → LeadsFrom start p (ended p w os) R
  from_ended w [] leads = leads
  from_ended w (op.End r held ∷ os) leads = λ hints all starts rests. leads (no_hint ∷ hints) (tt, all) starts rests
  from_ended w (o ∷ os) leads = leads

  module _ (new : Machine) (later : new.world.gone ≡ false) where
    abbrev Walking : List Step → Machine → List Op → Type 0
    Walking ts s os =
        Reached s → p < length s.parties → reverse (stack s p) ≡ os → LeadsFrom start p (done s.world os) R → start_at p s ts ≡ start
        → rests_after p ts s ≡ true → run_all ts s ≡ Ok new → R (standing new p)

    -- behind a step that goes so
    step_on : (ts : List Step) → ((s : Machine) (os : List Op) → Walking ts s os) → (s : Machine) → Reached s → p < length s.parties
        → (t : Step) (d : Done) → Goes p s (after s t) d → LeadsFrom start p d R → start_at p (after s t) ts ≡ start
        → refusal s t ≡ None → rests_after p ts (after s t) ≡ true → run_all ts (after s t) ≡ Ok new → R (standing new p)
    step_on ts onwards s reached there t d goes leads starts may rests made =
        onwards (after s t) (ended p d.world d.next).next (reached-step s t may reached) (still-party p s t there) goes.todo
        (subst (λ w. LeadsFrom start p (done w (ended p d.world d.next).next) R) (sym goes.world) (from_ended d.world d.next leads))
        starts rests made

    walked : (ts : List Step) (s : Machine) (os : List Op) → Walking ts s os
    walked [] s os reached there is leads starts rests made =
        let same = made_is s new made in
        subst (λ (m : Machine). R (standing m p)) same
        (subst (λ xs. R (done s.world xs)) (sym is) (leads [] tt starts (ap (λ xs. is_resting xs) (sym is) ∙ rests)))
    walked (Begin q c ∷ ts) s os reached there is leads starts rests made = absurd cc
    walked (Go q h ∷ ts) s os reached there is leads starts rests made =
        let two = both_true (p == q) (rests_after p ts (after s (Go q h))) rests in
        let at : q ≡ p = sym (same_of p q two.0) in
        by (walked ts) os is leads (subst (λ n. run_all (Go n h ∷ ts) s ≡ Ok new) at made)
        (subst (λ n. rests_after p ts (after s (Go n h)) ≡ true) at two.1)
        (subst (λ n. start_at p s (Go n h ∷ ts) ≡ start) at starts)
      where
        by : ((s : Machine) (os : List Op) → Walking ts s os) → (os : List Op) → reverse (stack s p) ≡ os
            → LeadsFrom start p (done s.world os) R → run_all (Go p h ∷ ts) s ≡ Ok new
            → rests_after p ts (after s (Go p h)) ≡ true → start_at p s (Go p h ∷ ts) ≡ start → R (standing new p)
        by onwards [] is leads whole rests starts = absurd (no_go s p there h is (run-first (Go p h) ts s new whole).0)
        by onwards (o ∷ os) is leads whole rests starts =
            let k = run-first (Go p h) ts s new whole in
            let its_top = (top_of (stack s p) o os is).0 in
            let may : unless (not (waits o)) WrongAnswer (unless (not (is_locked_out s.world.lock o)) Waits None) ≡ None =
            sym (ap (go_refusal s.world) its_top) ∙ (sym (refusal-there s (Go p h) there) ∙ k.0) in
            let free =
            not_true (waits o)
            (passed (not (waits o)) WrongAnswer (unless (not (is_locked_out s.world.lock o)) Waits None) may) in
            let has =
            before.gives s p reached there (gone_before (Go p h ∷ ts) s new reached whole later) (o ∷ os) is in
            let named : (if reads_list (o ∷ os) then h.start else start_at p (after s (Go p h)) ts) ≡ start =
            ap (λ xs. if reads_list xs then h.start else start_at p (after s (Go p h)) ts) (sym is) ∙ starts in
            ⊎_elim
            (λ (unread : reads_list (o ∷ os) ≡ false).
            step_on ts onwards s reached there (Go p h) (done (act p h o s.world).world ((act p h o s.world).next ++ os))
            (goes p s there o os is h) (from_on h o s.world os free unread has leads)
            (ap (λ b. if b then h.start else start_at p (after s (Go p h)) ts) (sym unread) ∙ named) k.0 rests k.1)
            (λ (read : (x : RunPoll) × (o ≡ op.List (list_op.LockRead x))).
            reads read.0 o os read.1 is leads has named k.0 rests k.1)
            (reads_or o os)
          where
            reads : (x : RunPoll) (o : Op) (os : List Op) → o ≡ op.List (list_op.LockRead x) → reverse (stack s p) ≡ o ∷ os
                → LeadsFrom start p (done s.world (o ∷ os)) R → Has s.world o
                → (if reads_list (o ∷ os) then h.start else start_at p (after s (Go p h)) ts) ≡ start
                → refusal s (Go p h) ≡ None → rests_after p ts (after s (Go p h)) ≡ true → run_all ts (after s (Go p h)) ≡ Ok new
                → R (standing new p)
            reads x o os at is leads has named may rests made =
                let lock = op.List (list_op.LockRead x) in
                let named1 : h.start ≡ start =
                ap (λ o. if reads_list (o ∷ os) then h.start else start_at p (after s (Go p h)) ts) (sym at) ∙ named in
                walks.step_on (HasFirst Has) IsBefore before p R new later ts
                (walks.walked (HasFirst Has) IsBefore before p R new later ts) s reached there
                (Go p h) (done (act p h lock s.world).world ((act p h lock s.world).next ++ os))
                (goes p s there lock os (is ∙ ap (λ o. o ∷ os) at) h)
                (from_read h x s.world os named1 (subst (Has s.world) at has)
                (subst (λ o. LeadsFrom start p (done s.world (o ∷ os)) R) at leads)) may rests made
    walked (Answer q e ∷ ts) s os reached there is leads starts rests made =
        let two = both_true ((p == q) && calls_outside (top (stack s p))) (rests_after p ts (after s (Answer q e))) rests in
        let one = both_true (p == q) (calls_outside (top (stack s p))) two.0 in
        let at : q ≡ p = sym (same_of p q one.0) in
        let whole = subst (λ n. run_all (Answer n e ∷ ts) s ≡ Ok new) at made in
        by (walked ts) os is leads (run-first (Answer p e) ts s new whole).0 one.1
        (subst (λ n. rests_after p ts (after s (Answer n e)) ≡ true) at two.1)
        (run-first (Answer p e) ts s new whole).1
        (subst (λ n. start_at p s (Answer n e ∷ ts) ≡ start) at starts)
      where
        ends : ((s : Machine) (os : List Op) → Walking ts s os) → (o : Op) (os : List Op) → reverse (stack s p) ≡ o ∷ os
            → LeadsFrom start p (done s.world (o ∷ os)) R → is_outside o ≡ true
            → refusal s (Answer p e) ≡ None → rests_after p ts (after s (Answer p e)) ≡ true → run_all ts (after s (Answer p e)) ≡ Ok new
            → start_at p s (Answer p e ∷ ts) ≡ start → R (standing new p)
        ends onwards (op.User (user_op.CallOutside x)) os is leads outside may rests made starts =
            step_on ts onwards s reached there (Answer p e) (done s.world os)
            (answers p s there (op.User (user_op.CallOutside x)) os is e)
            (from_outside x s.world os leads)
            (ap (λ xs. if reads_list xs then 0 else start_at p (after s (Answer p e)) ts) (sym is) ∙ starts) may rests made
        ends onwards o os is leads outside may rests made starts = absurd cc

        by : ((s : Machine) (os : List Op) → Walking ts s os) → (os : List Op) → reverse (stack s p) ≡ os
            → LeadsFrom start p (done s.world os) R → refusal s (Answer p e) ≡ None
            → calls_outside (top (stack s p)) ≡ true → rests_after p ts (after s (Answer p e)) ≡ true
            → run_all ts (after s (Answer p e)) ≡ Ok new → start_at p s (Answer p e ∷ ts) ≡ start → R (standing new p)
        by onwards [] is leads may outside rests made starts = absurd (no_answer s p there e is may)
        by onwards (o ∷ os) is leads may outside rests made starts =
            ends onwards o os is leads (ap (λ x. calls_outside x) (sym (top_of (stack s p) o os is).0) ∙ outside) may rests made starts

    -- user code ends
    pub answer_leads_from : (u : UserEnd) (o : Op) (os : List Op) (ts : List Step) (s : Machine) → Reached s → p < length s.parties
        → reverse (stack s p) ≡ o ∷ os
        → LeadsFrom start p (done (react p o u s.world).world ((react p o u s.world).next ++ os)) R
        → start_at p (after s (Answer p u)) ts ≡ start → rests_after p ts (after s (Answer p u)) ≡ true
        → run_all (Answer p u ∷ ts) s ≡ Ok new → R (standing new p)
    answer_leads_from u o os ts s reached there is leads starts rests made =
        let k = run-first (Answer p u) ts s new made in
        step_on ts (walked ts) s reached there (Answer p u) (done (react p o u s.world).world ((react p o u s.world).next ++ os))
        (answers p s there o os is u) leads starts k.0 rests k.1
