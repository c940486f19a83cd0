-- Each change of a task is one of that with other outputs and awaiters.
use Rattle.std.proofs.Common.{◌≡◌, ◌-◌, ◌==◌, ◌&&◌, ◌||◌, not, is_some, cond, Bool, true, false, Option, Some, None, refl, ap, ◌∙◌}
use Rattle.std.specs.Option.{option_map}
use Rattle.task_moves.specs.AbstractTask as abstract
use Rattle.task_moves.specs.AbstractTask.{AbstractTask, Left, Phase, PendingEnd}
use Rattle.task_moves.specs.AbstractTask.Phase.{Idle, Queued, Polling, PollingWoken, Finished}
use Rattle.task_moves.specs.LocalTask.{finish, finish_by}
use Rattle.two_roads.specs.Renaming.{task_as}

module _ {T U A B : Type 0} (output : T → U) (waker : A → B) where
  abbrev its : AbstractTask T A → AbstractTask U B
  its t = task_as output waker t

  abbrev pub left_as : Left T A → Left U B
  left_as l =
      record {
        task = its l.task;
        called = option_map waker l.called;
        dropped = option_map output l.dropped;
        let_go = option_map waker l.let_go;
      }

  abbrev pub polled_as : abstract.Polled T → abstract.Polled U
  polled_as (abstract.Polled.Output v) = abstract.Polled.Output (output v)
  polled_as abstract.Polled.Cancelled = abstract.Polled.Cancelled
  polled_as abstract.Polled.Waits = abstract.Polled.Waits

  pub wakes_so : (t : AbstractTask T A) → its (abstract.wake t) ≡ abstract.wake (its t)
  wakes_so t = by t.closed t.phase
    where
      by : (b : Bool) (x : Phase) → its (cond b t (abstract.wake_open x t)) ≡ cond b (its t) (abstract.wake_open x (its t))
      by true x = refl
      by false Idle = refl
      by false Queued = refl
      by false Polling = refl
      by false PollingWoken = refl
      by false Finished = refl

  closes_so : (t : AbstractTask T A) → its (abstract.close t) ≡ abstract.close (its t)
  closes_so t = by (abstract.is_idle t.phase)
    where
      by : (b : Bool)
          → its (record (cond b (abstract.queue false t) t) { closed = true })
          ≡ record (cond b (abstract.queue false (its t)) (its t)) { closed = true }
      by true = refl
      by false = refl

  forgets_so : (t : AbstractTask T A) → its (abstract.close_forgotten t) ≡ abstract.close_forgotten (its t)
  forgets_so t = by (abstract.is_idle t.phase && (not t.closed && (not t.handle && (t.wakers == 0))))
    where
      by : (b : Bool) → its (cond b (abstract.close t) t) ≡ cond b (abstract.close (its t)) (its t)
      by true = closes_so t
      by false = refl

  pub releases_so : (t : AbstractTask T A) → its (abstract.release t) ≡ abstract.release (its t)
  releases_so t = forgets_so (record t { wakers = t.wakers - 1 })

  pub uses_so : (t : AbstractTask T A) → its (abstract.release (abstract.wake t)) ≡ abstract.release (abstract.wake (its t))
  uses_so t = releases_so (abstract.wake t) ∙ ap (λ (t : AbstractTask U B). abstract.release t) (wakes_so t)

  pub begins_so : (t : AbstractTask T A) → its (abstract.begin_run t) ≡ abstract.begin_run (its t)
  begins_so t = by t.closed
    where
      by : (b : Bool) → its (cond b t (record t { phase = Polling })) ≡ cond b (its t) (record (its t) { phase = Polling })
      by true = refl
      by false = refl

  abbrev goes_with : AbstractTask U B → Option B → Option U → Left U B
  goes_with z w v = record { task = z; called = w; dropped = v; let_go = None }

  abbrev goes : AbstractTask T A → Option A → Option T → Left T A
  goes z w v = record { task = z; called = w; dropped = v; let_go = None }

  pub cancels_so : (t : AbstractTask T A) → left_as (abstract.cancel t) ≡ abstract.cancel (its t)
  cancels_so t = by (t.closed || abstract.is_over t.phase)
    where
      by : (b : Bool)
          → left_as (cond b (abstract.left t) (goes (record (abstract.close t) { awaiter = None }) t.awaiter None))
          ≡ cond b (abstract.left (its t))
          (goes_with (record (abstract.close (its t)) { awaiter = None }) (option_map waker t.awaiter) None)
      by true = refl
      by false =
          ap (λ (z : AbstractTask U B). goes_with (record z { awaiter = None }) (option_map waker t.awaiter) None) (closes_so t)

  pub detaches_so : (t : AbstractTask T A) → left_as (abstract.detach t) ≡ abstract.detach (its t)
  detaches_so t = by t.output
    where
      by : (o : Option T)
          → left_as
          (goes (abstract.close_forgotten (record t { handle = false; closed = t.closed || is_some o; output = None })) None o)
          ≡ goes_with
          (abstract.close_forgotten
          (record (its t) { handle = false; closed = t.closed || is_some (option_map output o); output = None }))
          None (option_map output o)
      by None =
          ap (λ (z : AbstractTask U B). goes_with z None None)
          (forgets_so (record t { handle = false; closed = t.closed || false; output = None }))
      by (Some v) =
          ap (λ (z : AbstractTask U B). goes_with z None (Some (output v)))
          (forgets_so (record t { handle = false; closed = t.closed || true; output = None }))

  pub asks_so : (t : AbstractTask T A) → polled_as (abstract.polled t) ≡ abstract.polled (its t)
  asks_so t = by t.output t.phase
    where
      by : (o : Option T) (x : Phase) → polled_as (abstract.polled_by o x) ≡ abstract.polled_by (option_map output o) x
      by (Some v) x = refl
      by None Idle = refl
      by None Queued = refl
      by None Polling = refl
      by None PollingWoken = refl
      by None Finished = refl

  pub polls_so : (w : A) (t : AbstractTask T A) → left_as (abstract.poll w t) ≡ abstract.poll (waker w) (its t)
  polls_so w t = by (abstract.polled t) ∙ ap (λ e. abstract.poll_by e (waker w) (its t)) (asks_so t)
    where
      by : (e : abstract.Polled T) → left_as (abstract.poll_by e w t) ≡ abstract.poll_by (polled_as e) (waker w) (its t)
      by (abstract.Polled.Output v) = refl
      by abstract.Polled.Cancelled = refl
      by abstract.Polled.Waits = refl

  pub ready_so : (v : T) (t : AbstractTask T A) → left_as (abstract.end_ready v t) ≡ abstract.end_ready (output v) (its t)
  ready_so v t = by (t.handle && not t.closed)
    where
      by : (b : Bool)
          → left_as
          (goes (record t { phase = Finished; closed = not b; output = cond b (Some v) None; awaiter = None }) t.awaiter
          (cond b None (Some v)))
          ≡ goes_with
          (record (its t) { phase = Finished; closed = not b; output = cond b (Some (output v)) None; awaiter = None })
          (option_map waker t.awaiter) (cond b None (Some (output v)))
      by true = refl
      by false = refl

  pub finishes_so : (t : AbstractTask T A) → left_as (finish t) ≡ finish (its t)
  finishes_so t = by t.phase
    where
      by : (x : Phase) → left_as (finish_by x t) ≡ finish_by x (its t)
      by Idle = refl
      by Queued = refl
      by Polling = refl
      by PollingWoken = refl
      by Finished = refl

  pub pends_so : (t : AbstractTask T A) → left_as (abstract.end_pending t) ≡ abstract.end_pending (its t)
  pends_so t = by (abstract.pending_end t)
    where
      by : (e : PendingEnd) → left_as (abstract.end_pending_by e t) ≡ abstract.end_pending_by e (its t)
      by abstract.PendingEnd.Drops = refl
      by abstract.PendingEnd.Queues = refl
      by abstract.PendingEnd.Forgets = refl
      by abstract.PendingEnd.Rests = refl
