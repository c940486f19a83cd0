-- So is what calls of other tasks do on the plain scheduler.
use Rattle.std.proofs.Common.{◌≡◌, ℕ, ◌==◌, Bool, true, false, ◌∷◌, Option, Some, None, slice_get, if◌then◌else◌}
use Rattle.std.proofs.Common.{refl, sym, ap, subst, ◌∙◌}
use Rattle.task_moves.specs.AbstractTask as abstract
use Rattle.task_moves.specs.AbstractTask.{AbstractTask, Finished}
use Rattle.task_moves.specs.AbstractTask.Polled.{Output as OutputOf, Cancelled as IsCancelled, Waits}
use Rattle.executor_model.specs.declared.call.By.{By}
use Rattle.executor_model.specs.declared.call.By.TheVariants as by_whom
use Rattle.executor_model.specs.declared.call.Call.{Call}
use Rattle.executor_model.specs.declared.op.Waker.{Waker}
use Rattle.executor_model.specs.Steps.{is_on_executor, waker_of}
use Rattle.executor_model.specs.World.{World}
use Rattle.plain_scheduler.specs.State.{Cancelled, Choice, Done as DoneAnswer, Future, Gives, Lose, Made, NoMemory, Pending, Plain}
use Rattle.plain_scheduler.specs.Lists.{on}
use Rattle.plain_scheduler.specs.Moves.{answers, let_go, put, release, task, tell, used, wake as moves_wake}
use Rattle.plain_scheduler.specs.Calls as plain
use Rattle.plain_scheduler.specs.Calls.{does, handle_by, is_granted, registered, Ends}
use Rattle.machine_roads.specs.View.{Output, wakes}
use Rattle.machine_roads.specs.Course.{IsCall, cancel, copy, detach, drop_handle, poll_handle, release as releases, use_waker, wake}
use Rattle.machine_roads.specs.Forgotten.{unawaited}
use Rattle.machine_roads.specs.InForgotten.{is_of}
use Rattle.machine_roads.proofs.Puts.{put_is, task_is}
use Rattle.machine_roads.proofs.Unawaited.{Bare, Keeps, aside, bare, cancel_keeps, detach_keeps, hidden, put_other, releases_keep}
use Rattle.machine_roads.proofs.Unawaited.{task_other}
use Rattle.machine_roads.proofs.Unawaited.{uses_keep, wakes_keep}

module _ (f : ℕ) (awaiter : Option Waker) where
  abbrev So : Plain Output Waker → Plain Output Waker → Type 0
  So p q = Bare f awaiter p q

  abbrev Same : (Plain Output Waker → Plain Output Waker) → Type 0
  Same more = Keeps f awaiter more

  module _ (c : Choice) where
    granted_keeps : (more : Plain Output Waker → Plain Output Waker) → Same more
        → Same (λ z. if is_granted c.refusal then more z else answers NoMemory z)
    granted_keeps more keeps p q b = by (is_granted c.refusal)
      where
        by : (e : Bool) → So (if e then more p else answers NoMemory p) (if e then more q else answers NoMemory q)
        by true = keeps p q b
        by false = aside f awaiter p q b (answers NoMemory) refl refl

    answers_done : (more : Plain Output Waker → Plain Output Waker) → Same more → Same (λ z. answers DoneAnswer (more z))
    answers_done more keeps p q b = aside f awaiter (more p) (more q) (keeps p q b) (answers DoneAnswer) refl refl

    goes_keep : (o : Option Waker) → Same (λ z. on o (let_go wakes (tell wakes c)) z)
    goes_keep None p q b = b
    goes_keep (Some a) p q b = by (wakes a)
      where
        by : (o : Option ℕ) → So (on o (release wakes (tell wakes c)) p) (on o (release wakes (tell wakes c)) q)
        by None = b
        by (Some g) = releases_keep f awaiter c g p q b

    module _ (g : ℕ) (apart : (f == g) ≡ false) where
      -- a change of the other task
      puts_keep : (h : AbstractTask Output Waker → AbstractTask Output Waker) → Same (λ z. put g (h (task g z)) z)
      puts_keep h p q b =
          subst (λ t. So (put g (h t) p) (put g (h (task g q)) q)) (sym (task_other f awaiter p q b g apart))
          (put_other f awaiter p q b g (h (task g q)) apart)

      copies_keep : Same (does wakes c (plain.Copy g))
      copies_keep =
          granted_keeps (λ z. answers Made (put g (abstract.copy (task g z)) z))
          (λ p q b.
          aside f awaiter (put g (abstract.copy (task g p)) p) (put g (abstract.copy (task g q)) q)
          (puts_keep (λ t. abstract.copy t) p q b) (answers Made) refl refl)

      registers_keep : (a : Waker) → Same (registered wakes c g a)
      registers_keep a p q b =
          let y : Plain Output Waker = put g (abstract.poll a (task g p)).task p in
          let z : Plain Output Waker = put g (abstract.poll a (task g q)).task q in
          let o : Option Waker = (abstract.poll a (task g q)).let_go in
          let goes : So (on o (let_go wakes (tell wakes c)) y) (on o (let_go wakes (tell wakes c)) z) =
          goes_keep o y z (puts_keep (λ t. (abstract.poll a t).task) p q b) in
          aside f awaiter (on (abstract.poll a (task g p)).let_go (let_go wakes (tell wakes c)) y) (on o (let_go wakes (tell wakes c)) z)
          (subst (λ t. So (on (abstract.poll a t).let_go (let_go wakes (tell wakes c)) y) (on o (let_go wakes (tell wakes c)) z))
          (sym (task_other f awaiter p q b g apart)) goes)
          (answers Pending) refl refl

      -- a waker from outside isn't copied here
      polls_by : (n : ℕ) (e : abstract.Polled Output) → Same (handle_by wakes c g (waker_of None (by_whom.Outside n)) e)
      polls_by n (OutputOf v) p q b =
          let a : Waker = waker_of None (by_whom.Outside n) in
          aside f awaiter (put g (abstract.poll a (task g p)).task p) (put g (abstract.poll a (task g q)).task q)
          (puts_keep (λ t. (abstract.poll a t).task) p q b) (answers (Gives v)) refl refl
      polls_by n IsCancelled p q b = aside f awaiter p q b (answers Cancelled) refl refl
      polls_by n Waits p q b =
          let a : Waker = waker_of None (by_whom.Outside n) in
          granted_keeps (registered wakes c g a) (registers_keep a) p q b

      outside_keeps : (n : ℕ) → Same (does wakes c (plain.PollHandle g (waker_of None (by_whom.Outside n))))
      outside_keeps n p q b =
          subst (λ t. So (handle_by wakes c g (waker_of None (by_whom.Outside n)) (abstract.polled t) p)
          (does wakes c (plain.PollHandle g (waker_of None (by_whom.Outside n))) q)) (sym (task_other f awaiter p q b g apart))
          (polls_by n (abstract.polled (task g q)) p q b)

      polls_keep : (b : By) → Same (does wakes c (plain.PollHandle g (waker_of None b)))
      polls_keep (by_whom.Outside n) p q b = outside_keeps n p q b
      polls_keep by_whom.Mine p q b = outside_keeps 0 p q b

    pub does_keeps : (w : World) (k : Call) (x : plain.Call Output Waker) → is_on_executor k ≡ false → IsCall w k x → is_of f x ≡ false
        → Same (does wakes c x)
    does_keeps w k x off (use_waker j g is) apart = answers_done (λ z. used wakes (tell wakes c) g z) (uses_keep f awaiter c g)
    does_keeps w k x off (wake j g is) apart = answers_done (λ z. moves_wake wakes (tell wakes c) g z) (wakes_keep f awaiter c g)
    does_keeps w k x off (copy j g is) apart = copies_keep g apart
    does_keeps w k x off (releases j g is) apart = answers_done (λ z. release wakes (tell wakes c) g z) (releases_keep f awaiter c g)
    does_keeps w k x off (poll_handle g b) apart = polls_keep g apart b
    does_keeps w k x off (cancel g) apart = answers_done (plain.cancel wakes c g) (cancel_keeps f awaiter c g apart)
    does_keeps w k x off (detach g) apart = detach_keeps f awaiter c g apart
    does_keeps w k x off (drop_handle g) apart =
        λ p q b. detach_keeps f awaiter c g apart (plain.cancel wakes c g p) (plain.cancel wakes c g q)
        (cancel_keeps f awaiter c g apart p q b)
    does_keeps w k x off is apart = absurd cc

    -- the drop of an output inside ends
    pub ends_keep : Same (λ z. does wakes c Ends (record z { inside = Lose None None ∷ z.inside }))
    ends_keep p q b = aside f awaiter p q b (λ z. does wakes c Ends (record z { inside = Lose None None ∷ z.inside })) refl refl

  -- so it is from where nobody awaits it
  pub begins_bare : (q : Plain Output Waker) (x : Future Output Waker) → slice_get q.futures f ≡ Some x → (task f q).phase ≡ Finished
      → (task f q).closed ≡ true → (task f q).awaiter ≡ awaiter → So (unawaited f q) q
  begins_bare q x at phase closed awaited =
      let is : task f q ≡ x.task = task_is f q x at in
      record {
        future = x;
        at = at;
        phase = sym (ap (λ (t : AbstractTask Output Waker). t.phase) is) ∙ phase;
        closed = sym (ap (λ (t : AbstractTask Output Waker). t.closed) is) ∙ closed;
        awaited = sym (ap (λ (t : AbstractTask Output Waker). t.awaiter) is) ∙ awaited;
        is = unawaited_is q x at;
      }
    where
      unawaited_is : (q : Plain Output Waker) (x : Future Output Waker) → slice_get q.futures f ≡ Some x
          → unawaited f q ≡ bare f awaiter x q
      unawaited_is q x at =
          ap (λ (t : AbstractTask Output Waker). put f (hidden t) q) (task_is f q x at) ∙ put_is f (hidden x.task) q x at

  -- to where nobody does
  pub record StaysBare (p q : Plain Output Waker) : Type 0 where
    pub phase : (task f q).phase ≡ Finished
    pub closed : (task f q).closed ≡ true
    pub awaited : (task f q).awaiter ≡ awaiter
    pub is : p ≡ unawaited f q

  pub stays_bare : (p q : Plain Output Waker) → So p q → StaysBare p q
  stays_bare p q b =
      let x : Future Output Waker = b.future in
      let is : task f q ≡ x.task = task_is f q x b.at in
      record {
        phase = ap (λ (t : AbstractTask Output Waker). t.phase) is ∙ b.phase;
        closed = ap (λ (t : AbstractTask Output Waker). t.closed) is ∙ b.closed;
        awaited = ap (λ (t : AbstractTask Output Waker). t.awaiter) is ∙ b.awaited;
        is =
            b.is
            ∙ sym (ap (λ (t : AbstractTask Output Waker). put f (hidden t) q) is ∙ put_is f (hidden x.task) q x b.at);
      }
