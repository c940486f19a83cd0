-- What calls of wakers and handles do is the same whatever runs there are.
use Rattle.std.proofs.Common.{◌≡◌, ℕ, ◌-◌, cond, Bool, true, false, List, length, Option, Some, None}
use Rattle.std.proofs.Common.{is_some, slice_get, slice_set, if◌then◌else◌, refl, ap, ◌∙◌, min}
use Rattle.task_moves.specs.AbstractTask as abstract
use Rattle.task_moves.specs.AbstractTask.{AbstractTask}
use Rattle.task_moves.specs.AbstractTask.Polled.{Output as OutputOf, Cancelled as IsCancelled, Waits}
use Rattle.task_moves.specs.LocalTask.{info_of}
use Rattle.executor_model.specs.declared.call.Call.{Call}
use Rattle.executor_model.specs.declared.op.Waker.{Waker}
use Rattle.executor_model.specs.Steps.{is_on_executor, waker_of}
use Rattle.executor_model.specs.World.{World}
use Rattle.plain_scheduler.specs.State.{Calls, Choice, Done as DoneAnswer, Future, Gives, Lose, Loses, Lying, Made, NoMemory, Pending}
use Rattle.plain_scheduler.specs.State.{Plain, Running}
use Rattle.plain_scheduler.specs.Lists.{any, on, or}
use Rattle.plain_scheduler.specs.Moves.{answers, appended, becomes, called, copied, enters, is_called, let_go, put, release, see, task}
use Rattle.plain_scheduler.specs.Moves.{tell}
use Rattle.plain_scheduler.specs.Moves.{told_at, used}
use Rattle.plain_scheduler.specs.Takes as plain_takes
use Rattle.plain_scheduler.specs.Calls as plain
use Rattle.plain_scheduler.specs.Calls.{does, handle_by, is_granted, registered}
use Rattle.machine_roads.specs.View.{Output, wakes}
use Rattle.machine_roads.specs.Course.{IsCall, cancel, copy, detach, drop_handle, poll_handle, release as releases, use_waker, wake}
use Rattle.machine_roads.proofs.Puts.{with_task}
use Rattle.machine_roads.proofs.Lying.{called_one}

module _ (rs : List Running) where
  abbrev pub with_runs : Plain Output Waker → Plain Output Waker
  with_runs q = record q { runs = rs }

  put_so : (f : ℕ) (new : AbstractTask Output Waker) (q : Plain Output Waker) → put f new (with_runs q) ≡ with_runs (put f new q)
  put_so f new q = by (slice_get q.futures f)
    where
      by : (o : Option (Future Output Waker))
          → on o (λ x p. record p { futures = slice_set p.futures f (with_task new x) }) (with_runs q)
          ≡ with_runs (on o (λ x p. record p { futures = slice_set p.futures f (with_task new x) }) q)
      by None = refl
      by (Some x) = refl

  becomes_by : (more : Plain Output Waker → Plain Output Waker) → ((q : Plain Output Waker) → more (with_runs q) ≡ with_runs (more q))
      → (g : ℕ) (new : AbstractTask Output Waker) (q : Plain Output Waker)
      → becomes wakes more g new (with_runs q) ≡ with_runs (becomes wakes more g new q)
  becomes_by more so g new q = by (is_some (info_of (task g q) new))
    where
      by : (b : Bool)
          → (if b then more (appended g (put g new (with_runs q))) else put g new (with_runs q))
          ≡ with_runs (if b then more (appended g (put g new q)) else put g new q)
      by true = ap (λ z. more (appended g z)) (put_so g new q) ∙ so (appended g (put g new q))
      by false = put_so g new q

  called_by : (more : Plain Output Waker → Plain Output Waker) → ((q : Plain Output Waker) → more (with_runs q) ≡ with_runs (more q))
      → (a : Waker) (q : Plain Output Waker) → called wakes more a (with_runs q) ≡ with_runs (called wakes more a q)
  called_by more so a q = by (wakes a)
    where
      by : (o : Option ℕ)
          → or o (λ g. used wakes more g (with_runs q)) (see (Calls a) (with_runs q))
          ≡ with_runs (or o (λ g. used wakes more g q) (see (Calls a) q))
      by None = refl
      by (Some g) = becomes_by more so g (abstract.release (abstract.wake (task g q))) q

  tell_so : (c : Choice) (q : Plain Output Waker) → tell wakes c (with_runs q) ≡ with_runs (tell wakes c q)
  tell_so c q = by (any is_called q.lying)
    where
      waker : (q : Plain Output Waker) (o : Option Waker)
          → on o (called wakes (λ s. s)) (with_runs q) ≡ with_runs (on o (called wakes (λ s. s)) q)
      waker q None = refl
      waker q (Some a) = called_by (λ s. s) (λ q. refl) a q

      one : (i : ℕ) (o : Option (Lying Waker))
          → on o (λ l p. on l.waker (called wakes (λ s. s)) (record p { lying = slice_set p.lying i (called_one l) })) (with_runs q)
          ≡ with_runs (on o (λ l p. on l.waker (called wakes (λ s. s)) (record p { lying = slice_set p.lying i (called_one l) })) q)
      one i None = refl
      one i (Some l) = waker (record q { lying = slice_set q.lying i (called_one l) }) l.waker

      by : (b : Bool)
          → cond b (with_runs q) (told_at wakes (min c.tells (length q.lying - 1)) (with_runs q))
          ≡ with_runs (cond b q (told_at wakes (min c.tells (length q.lying - 1)) q))
      by true = refl
      by false = one (min c.tells (length q.lying - 1)) (slice_get q.lying (min c.tells (length q.lying - 1)))

  module _ (c : Choice) where
    becomes_so : (g : ℕ) (new : AbstractTask Output Waker) (q : Plain Output Waker)
        → becomes wakes (tell wakes c) g new (with_runs q) ≡ with_runs (becomes wakes (tell wakes c) g new q)
    becomes_so g new q = becomes_by (tell wakes c) (tell_so c) g new q

    calls_so : (o : Option Waker) (q : Plain Output Waker)
        → on o (called wakes (tell wakes c)) (with_runs q) ≡ with_runs (on o (called wakes (tell wakes c)) q)
    calls_so None q = refl
    calls_so (Some a) q = called_by (tell wakes c) (tell_so c) a q

    lets_so : (a : Waker) (q : Plain Output Waker)
        → let_go wakes (tell wakes c) a (with_runs q) ≡ with_runs (let_go wakes (tell wakes c) a q)
    lets_so a q = by (wakes a)
      where
        by : (o : Option ℕ)
            → on o (release wakes (tell wakes c)) (with_runs q) ≡ with_runs (on o (release wakes (tell wakes c)) q)
        by None = refl
        by (Some g) = becomes_so g (abstract.release (task g q)) q

    goes_so : (o : Option Waker) (q : Plain Output Waker)
        → on o (let_go wakes (tell wakes c)) (with_runs q) ≡ with_runs (on o (let_go wakes (tell wakes c)) q)
    goes_so None q = refl
    goes_so (Some a) q = lets_so a q

    copied_so : (a : Waker) (q : Plain Output Waker) → copied wakes a (with_runs q) ≡ with_runs (copied wakes a q)
    copied_so a q = by (wakes a)
      where
        by : (o : Option ℕ)
            → on o (λ g q. put g (abstract.copy (task g q)) q) (with_runs q)
            ≡ with_runs (on o (λ g q. put g (abstract.copy (task g q)) q) q)
        by None = refl
        by (Some g) = put_so g (abstract.copy (task g q)) q

    copy_so : (f : ℕ) (q : Plain Output Waker) (b : Bool)
        → (if b then answers Made (put f (abstract.copy (task f q)) (with_runs q)) else answers NoMemory (with_runs q))
        ≡ with_runs (if b then answers Made (put f (abstract.copy (task f q)) q) else answers NoMemory q)
    copy_so f q true = ap (answers Made) (put_so f (abstract.copy (task f q)) q)
    copy_so f q false = refl

    cancel_so : (f : ℕ) (q : Plain Output Waker) → plain.cancel wakes c f (with_runs q) ≡ with_runs (plain.cancel wakes c f q)
    cancel_so f q =
        let left = abstract.cancel (task f q) in
        ap (λ z. on left.called (called wakes (tell wakes c)) z) (becomes_so f left.task q)
        ∙ calls_so left.called (becomes wakes (tell wakes c) f left.task q)

    detach_so : (f : ℕ) (q : Plain Output Waker) → plain.detach wakes c f (with_runs q) ≡ with_runs (plain.detach wakes c f q)
    detach_so f q =
        ap (λ z. out left.dropped (put f (task f z) z)) (becomes_so f left.task q)
        ∙ (ap (out left.dropped) (put_so f (task f q1) q1) ∙ by left.dropped (put f (task f q1) q1))
      where
        left : abstract.Left Output Waker
        left = abstract.detach (task f q)

        q1 : Plain Output Waker
        q1 = becomes wakes (tell wakes c) f left.task q

        out : Option Output → Plain Output Waker → Plain Output Waker
        out o z = or o (λ v. enters (Lose None None) (see (Loses v) z)) (plain_takes.lost wakes c None None z)

        by : (o : Option Output) (z : Plain Output Waker) → out o (with_runs z) ≡ with_runs (out o z)
        by None z = refl
        by (Some v) z = refl

    poll_so : (f : ℕ) (a : Waker) (q : Plain Output Waker)
        → handle_by wakes c f a (abstract.polled (task f q)) (with_runs q)
        ≡ with_runs (handle_by wakes c f a (abstract.polled (task f q)) q)
    poll_so f a q = by (abstract.polled (task f q))
      where
        registers : (z : Plain Output Waker) → registered wakes c f a (with_runs z) ≡ with_runs (registered wakes c f a z)
        registers z =
            let left = abstract.poll a (task f z) in
            ap (λ y. answers Pending (on left.let_go (let_go wakes (tell wakes c)) y)) (put_so f left.task z)
            ∙ ap (answers Pending) (goes_so left.let_go (put f left.task z))

        whether : (b : Bool)
            → (if b then registered wakes c f a (copied wakes a (with_runs q)) else answers NoMemory (with_runs q))
            ≡ with_runs (if b then registered wakes c f a (copied wakes a q) else answers NoMemory q)
        whether true = ap (λ z. registered wakes c f a z) (copied_so a q) ∙ registers (copied wakes a q)
        whether false = refl

        by : (e : abstract.Polled Output) → handle_by wakes c f a e (with_runs q) ≡ with_runs (handle_by wakes c f a e q)
        by (OutputOf v) = ap (answers (Gives v)) (put_so f (abstract.poll a (task f q)).task q)
        by IsCancelled = refl
        by Waits = whether (is_granted c.refusal)

    pub does_so : (w : World) (k : Call) (x : plain.Call Output Waker) (q : Plain Output Waker) → is_on_executor k ≡ false → IsCall w k x
        → does wakes c x (with_runs q) ≡ with_runs (does wakes c x q)
    does_so w k x q off (use_waker j f is) =
        ap (answers DoneAnswer) (becomes_so f (abstract.release (abstract.wake (task f q))) q)
    does_so w k x q off (wake j f is) = ap (answers DoneAnswer) (becomes_so f (abstract.wake (task f q)) q)
    does_so w k x q off (copy j f is) = copy_so f q (is_granted c.refusal)
    does_so w k x q off (releases j f is) = ap (answers DoneAnswer) (becomes_so f (abstract.release (task f q)) q)
    does_so w k x q off (poll_handle f b) = poll_so f (waker_of None b) q
    does_so w k x q off (cancel f) = ap (answers DoneAnswer) (cancel_so f q)
    does_so w k x q off (detach f) = detach_so f q
    does_so w k x q off (drop_handle f) =
        ap (plain.detach wakes c f) (cancel_so f q) ∙ detach_so f (plain.cancel wakes c f q)
    does_so w k x q off is = absurd cc
