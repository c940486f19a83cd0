-- Calls that aren't polls of runs, nor make one, leave the runs of the plain scheduler as they are.
use Rattle.std.proofs.Common.{◌≡◌, ℕ, zero, suc, ◌++◌, Bool, true, false, List, [], ◌∷◌, Option, Some, None, if◌then◌else◌}
use Rattle.std.proofs.Common.{⊎_elim, slice_get, refl, ap, ◌∙◌}
use Rattle.executor_parts.specs.declared.mark.Mark.{Mark}
use Rattle.task_moves.specs.AbstractTask as abstract
use Rattle.task_moves.specs.AbstractTask.{AbstractTask}
use Rattle.executor_model.specs.declared.op.Waker.{Waker}
use Rattle.plain_scheduler.specs.State.{ATick, Choice, Lose, Loses, Made, NoMemory, Plain, Running, Tick, Try}
use Rattle.plain_scheduler.specs.Lists.{each, or}
use Rattle.plain_scheduler.specs.Moves.{answers, becomes, enters, put, see, task, tell}
use Rattle.plain_scheduler.specs.Takes as plain_takes
use Rattle.plain_scheduler.specs.Calls.{cancel, detach, does, freed, is_granted, living_from}
use Rattle.plain_scheduler.specs.Calls.{Cancel, Copy, Detach, DropHandle, DropTick, Leak, NewRun, NewTick, PollHandle, PollTick, Release}
use Rattle.plain_scheduler.specs.Calls.{Spawn}
use Rattle.plain_scheduler.specs.Calls.{TryTick, Use, Wake}
use Rattle.machine_roads.specs.View.{Output, wakes}
use Rattle.machine_roads.specs.Stopped.{taken_by}
use Rattle.machine_roads.proofs.CallsAside.{cancelled_keeps, copy_keeps, poll_keeps, spawn_keeps, tick_keeps}
use Rattle.machine_roads.proofs.Aside.{IsAside, becomes_keeps, leaves_keeps}
use Rattle.machine_roads.proofs.Puts.{put_by}
use Rattle.machine_roads.proofs.RunApart.{Sight, Took, sight, take_by}

aside : IsAside (λ (q : Plain Output Waker). q.runs)
aside = record { futures = λ q fs. refl; due = λ q f. refl; lying = λ q ls. refl; seen = λ q e. refl }

becomes_runs : (c : Choice) (f : ℕ) (new : AbstractTask Output Waker) (q : Plain Output Waker)
    → (becomes wakes (tell wakes c) f new q).runs ≡ q.runs
becomes_runs c f new q = becomes_keeps (λ q. q.runs) aside c f new q

module _ (c : Choice) (q : Plain Output Waker) where
  abbrev Stays : Plain Output Waker → Type 0
  Stays r = r.runs ≡ q.runs

  pub spawn_runs : (m : Mark) → Stays (does wakes c (Spawn m) q)
  spawn_runs m = spawn_keeps (λ q. q.runs) aside c q m

  pub wake_runs : (f : ℕ) → Stays (does wakes c (Wake f) q)
  wake_runs f = becomes_runs c f (abstract.wake (task f q)) q

  pub use_runs : (f : ℕ) → Stays (does wakes c (Use f) q)
  use_runs f = becomes_runs c f (abstract.release (abstract.wake (task f q))) q

  pub release_runs : (f : ℕ) → Stays (does wakes c (Release f) q)
  release_runs f = becomes_runs c f (abstract.release (task f q)) q

  pub copy_runs : (f : ℕ) → Stays (does wakes c (Copy f) q)
  copy_runs f = copy_keeps (λ q. q.runs) aside c q f

  pub tick_runs : Stays (does wakes c NewTick q)
  tick_runs = tick_keeps (λ q. q.runs) aside c q

  pub drop_runs : (t : ℕ) → Stays (does wakes c (DropTick t) q)
  drop_runs t = leaves_keeps (λ q. q.runs) aside c (ATick t) q

  pub poll_runs : (f : ℕ) (a : Waker) → Stays (does wakes c (PollHandle f a) q)
  poll_runs f a = poll_keeps (λ q. q.runs) aside c q f a

  cancelled_runs : (f : ℕ) → Stays (cancel wakes c f q)
  cancelled_runs f = cancelled_keeps (λ q. q.runs) aside c q f

  pub cancel_runs : (f : ℕ) → Stays (does wakes c (Cancel f) q)
  cancel_runs f = cancelled_runs f

  detached_runs : (f : ℕ) (q : Plain Output Waker) → (detach wakes c f q).runs ≡ q.runs
  detached_runs f q = by left.dropped ∙ becomes_runs c f left.task q
    where
      left : abstract.Left Output Waker
      left = abstract.detach (task f q)

      q1 : Plain Output Waker
      q1 = becomes wakes (tell wakes c) f left.task q

      q2 : Plain Output Waker
      q2 = put f (task f q1) q1

      still : q2.runs ≡ q1.runs
      still = put_by (λ p. p.runs) f (task f q1) q1 (λ fs. refl)

      by : (o : Option Output)
          → (or o (λ v. enters (Lose None None) (see (Loses v) q2)) (plain_takes.lost wakes c None None q2)).runs ≡ q1.runs
      by None = still
      by (Some v) = still

  pub detach_runs : (f : ℕ) → Stays (does wakes c (Detach f) q)
  detach_runs f = detached_runs f q

  pub handle_runs : (f : ℕ) → Stays (does wakes c (DropHandle f) q)
  handle_runs f = detached_runs f (cancel wakes c f q) ∙ cancelled_runs f

  freed_runs : (ws : List ℕ) (q : Plain Output Waker) → (each ws (freed wakes c) q).runs ≡ q.runs
  freed_runs [] q = refl
  freed_runs (f ∷ ws) q =
      let woken = becomes wakes (tell wakes c) f (abstract.wake (task f q)) q in
      freed_runs ws (freed wakes c f q)
      ∙ (becomes_runs c f (abstract.release (task f woken)) woken ∙ becomes_runs c f (abstract.wake (task f q)) q)

  pub leak_runs : Stays (does wakes c Leak q)
  leak_runs = freed_runs (living_from 0 q.futures) (record q { is_static = true })

  pub try_runs : Stays (does wakes c TryTick q)
  try_runs =
      ⊎_elim (λ (g : Took c Try q (does wakes c TryTick q)). g.runs)
      (λ (same : sight (does wakes c TryTick q) ≡ sight q). ap (λ (s : Sight). s.runs) same) (take_by c Try q)

  pub poll_tick_runs : (t : ℕ) (a : Waker) → Stays (does wakes c (PollTick t a) q)
  poll_tick_runs t a =
      ⊎_elim (λ (g : Took c (Tick t a) q (does wakes c (PollTick t a) q)). g.runs)
      (λ (same : sight (does wakes c (PollTick t a) q) ≡ sight q). ap (λ (s : Sight). s.runs) same) (take_by c (Tick t a) q)

-- a run that is made has taken none
pub one_more_run : (c : Choice) (q : Plain Output Waker) (r : ℕ) → taken_by r (does wakes c NewRun q) ≡ taken_by r q
one_more_run c q r = by (is_granted c.refusal)
  where
    last : (rs : List Running) (r : ℕ)
        → or (slice_get (rs ++ record { taken = 0; is_over = false } ∷ []) r) (λ run. run.taken) 0
        ≡ or (slice_get rs r) (λ run. run.taken) 0
    last [] zero = refl
    last [] (suc r) = refl
    last (x ∷ xs) zero = refl
    last (x ∷ xs) (suc r) = last xs r

    by : (b : Bool)
        → taken_by r (if b then answers Made (record q { runs = q.runs ++ record { taken = 0; is_over = false } ∷ [] })
        else answers NoMemory q) ≡ taken_by r q
    by true = last q.runs r
    by false = refl

pub one_more_going : (c : Choice) (q : Plain Output Waker) (r : ℕ) → or (slice_get q.runs r) (λ run. run.is_over) true ≡ false
    → or (slice_get (does wakes c NewRun q).runs r) (λ run. run.is_over) true ≡ false
one_more_going c q r going = by (is_granted c.refusal)
  where
    last : (rs : List Running) (r : ℕ) → or (slice_get rs r) (λ run. run.is_over) true ≡ false
        → or (slice_get (rs ++ record { taken = 0; is_over = false } ∷ []) r) (λ run. run.is_over) true ≡ false
    last [] zero going = refl
    last [] (suc r) going = absurd cc
    last (x ∷ xs) zero going = going
    last (x ∷ xs) (suc r) going = last xs r going

    by : (b : Bool)
        → or (slice_get (if b then answers Made (record q { runs = q.runs ++ record { taken = 0; is_over = false } ∷ [] })
        else answers NoMemory q).runs r) (λ run. run.is_over) true ≡ false
    by true = last q.runs r going
    by false = going
