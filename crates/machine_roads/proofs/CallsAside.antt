-- What such calls leave that come to no user code.
use Rattle.std.proofs.Common.{◌≡◌, ℕ, Bool, true, false, length, nat_lt, Option, Some, None, if◌then◌else◌, refl, ◌∙◌}
use Rattle.executor_parts.specs.declared.mark.Mark.{Mark}
use Rattle.task_moves.specs.AbstractTask as abstract
use Rattle.task_moves.specs.AbstractTask.Polled.{Output as OutputOf, Cancelled as IsCancelled, Waits}
use Rattle.executor_model.specs.declared.op.Waker.{Waker}
use Rattle.plain_scheduler.specs.State.{Answers, Cancelled, Choice, Full, Gives, Made, NoMemory, Pending, Plain}
use Rattle.plain_scheduler.specs.Lists.{on}
use Rattle.plain_scheduler.specs.Moves.{answers, appended, becomes, called, copied, let_go, put, task, tell}
use Rattle.plain_scheduler.specs.Calls.{cancel, does, entered, handle_by, is_granted, living_from, registered}
use Rattle.plain_scheduler.specs.Calls.{Copy, NewTick, PollHandle, Spawn}
use Rattle.machine_roads.specs.View.{Output, wakes}
use Rattle.machine_roads.proofs.Aside.{IsAside, becomes_keeps, called_with, copied_keeps, goes_keeps, put_keeps, tell_keeps}

module _ {B : Type 0} (ask : Plain Output Waker → B) (aside : IsAside ask) (c : Choice) (q : Plain Output Waker) where
  abbrev Stays : Plain Output Waker → Type 0
  Stays r = ask r ≡ ask q

  pub spawn_keeps : (m : Mark) → Stays (does wakes c (Spawn m) q)
  spawn_keeps m = by (nat_lt (length (living_from 0 q.futures)) q.limit) (is_granted c.refusal)
    where
      came : Plain Output Waker
      came = entered wakes c m q

      next : Plain Output Waker
      next = appended (length q.futures) came

      by : (a b : Bool)
          → Stays (if a then (if b then answers Made (tell wakes c next) else answers NoMemory q) else answers Full q)
      by true true =
          aside.seen (tell wakes c next) (Answers Made)
          ∙ (tell_keeps ask aside c next ∙ (aside.due came (length q.futures) ∙ aside.futures q came.futures))
      by true false = aside.seen q (Answers NoMemory)
      by false b = aside.seen q (Answers Full)

  pub copy_keeps : (f : ℕ) → Stays (does wakes c (Copy f) q)
  copy_keeps f = by (is_granted c.refusal)
    where
      by : (b : Bool) → Stays (if b then answers Made (put f (abstract.copy (task f q)) q) else answers NoMemory q)
      by true =
          let new = abstract.copy (task f q) in aside.seen (put f new q) (Answers Made) ∙ put_keeps ask aside f new q
      by false = aside.seen q (Answers NoMemory)

  pub tick_keeps : Stays (does wakes c NewTick q)
  tick_keeps = by (is_granted c.refusal)
    where
      by : (b : Bool) → Stays (if b then answers Made q else answers NoMemory q)
      by true = aside.seen q (Answers Made)
      by false = aside.seen q (Answers NoMemory)

  pub poll_keeps : (f : ℕ) (a : Waker) → Stays (does wakes c (PollHandle f a) q)
  poll_keeps f a = by (abstract.polled (task f q))
    where
      registers : (q1 : Plain Output Waker) (e : abstract.Left Output Waker)
          → ask (on e.let_go (let_go wakes (tell wakes c)) (put f e.task q1)) ≡ ask q1
      registers q1 e = goes_keeps ask aside c e.let_go (put f e.task q1) ∙ put_keeps ask aside f e.task q1

      whether : (b : Bool) → Stays (if b then registered wakes c f a (copied wakes a q) else answers NoMemory q)
      whether true =
          let q1 = copied wakes a q in
          let e = abstract.poll a (task f q1) in
          aside.seen (on e.let_go (let_go wakes (tell wakes c)) (put f e.task q1)) (Answers Pending)
          ∙ (registers q1 e ∙ copied_keeps ask aside a q)
      whether false = aside.seen q (Answers NoMemory)

      by : (e : abstract.Polled Output) → Stays (handle_by wakes c f a e q)
      by (OutputOf v) =
          let new = (abstract.poll a (task f q)).task in aside.seen (put f new q) (Answers (Gives v)) ∙ put_keeps ask aside f new q
      by IsCancelled = aside.seen q (Answers Cancelled)
      by Waits = whether (is_granted c.refusal)

  pub cancelled_keeps : (f : ℕ) → Stays (cancel wakes c f q)
  cancelled_keeps f =
      let left = abstract.cancel (task f q) in
      by left.called (becomes wakes (tell wakes c) f left.task q) ∙ becomes_keeps ask aside c f left.task q
    where
      by : (o : Option Waker) (q : Plain Output Waker) → ask (on o (called wakes (tell wakes c)) q) ≡ ask q
      by None q = refl
      by (Some a) q = called_with ask aside (tell wakes c) (tell_keeps ask aside c) a q
