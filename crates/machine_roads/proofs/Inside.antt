-- Calls that come to no user code leave the code in which calls stand.
use Rattle.std.proofs.Common.{◌≡◌, ℕ, ◌++◌, Bool, true, false, List, [], ◌∷◌, Option, Some, None, if◌then◌else◌}
use Rattle.std.proofs.Common.{refl, ap, ◌∙◌}
use Rattle.executor_parts.specs.declared.mark.Mark.{Mark}
use Rattle.task_moves.specs.AbstractTask as abstract
use Rattle.executor_model.specs.declared.op.Waker.{Waker}
use Rattle.plain_scheduler.specs.State.{ATick, Choice, Code, Lose, Loses, Made, NoMemory, Plain}
use Rattle.plain_scheduler.specs.Lists.{or}
use Rattle.plain_scheduler.specs.Moves.{answers, becomes, enters, put, see, task, tell}
use Rattle.plain_scheduler.specs.Takes as plain_takes
use Rattle.plain_scheduler.specs.Calls.{cancel, detach, does, ends, innermost, is_granted}
use Rattle.plain_scheduler.specs.Calls.{Cancel, Copy, Detach, DropHandle, DropTick, Ends, NewRun, NewTick, PollHandle, Release, Spawn}
use Rattle.plain_scheduler.specs.Calls.{Use, Wake}
use Rattle.machine_roads.specs.View.{Output, wakes}
use Rattle.machine_roads.proofs.CallsAside.{cancelled_keeps, copy_keeps, poll_keeps, spawn_keeps, tick_keeps}
use Rattle.machine_roads.proofs.Aside.{inside_aside, becomes_inside, leaves_inside}
use Rattle.machine_roads.proofs.Puts.{put_by}

module _ (c : Choice) (q : Plain Output Waker) where
  abbrev Stays : Plain Output Waker → Type 0
  Stays r = r.inside ≡ q.inside

  pub spawn_inside : (m : Mark) → Stays (does wakes c (Spawn m) q)
  spawn_inside m = spawn_keeps (λ q. q.inside) inside_aside c q m

  pub wake_inside : (f : ℕ) → Stays (does wakes c (Wake f) q)
  wake_inside f = becomes_inside c f (abstract.wake (task f q)) q

  pub use_inside : (f : ℕ) → Stays (does wakes c (Use f) q)
  use_inside f = becomes_inside c f (abstract.release (abstract.wake (task f q))) q

  pub release_inside : (f : ℕ) → Stays (does wakes c (Release f) q)
  release_inside f = becomes_inside c f (abstract.release (task f q)) q

  pub copy_inside : (f : ℕ) → Stays (does wakes c (Copy f) q)
  copy_inside f = copy_keeps (λ q. q.inside) inside_aside c q f

  pub tick_inside : Stays (does wakes c NewTick q)
  tick_inside = tick_keeps (λ q. q.inside) inside_aside c q

  pub run_inside : Stays (does wakes c NewRun q)
  run_inside = by (is_granted c.refusal)
    where
      made : Plain Output Waker
      made = answers Made (record q { runs = q.runs ++ record { taken = 0; is_over = false } ∷ [] })

      by : (b : Bool) → Stays (if b then made else answers NoMemory q)
      by true = refl
      by false = refl

  pub drop_inside : (t : ℕ) → Stays (does wakes c (DropTick t) q)
  drop_inside t = leaves_inside c (ATick t) q

  pub poll_inside : (f : ℕ) (a : Waker) → Stays (does wakes c (PollHandle f a) q)
  poll_inside f a = poll_keeps (λ q. q.inside) inside_aside c q f a

  cancelled_inside : (f : ℕ) → Stays (cancel wakes c f q)
  cancelled_inside f = cancelled_keeps (λ q. q.inside) inside_aside c q f

  pub cancel_inside : (f : ℕ) → Stays (does wakes c (Cancel f) q)
  cancel_inside f = cancelled_inside f

  -- a handle that goes comes to the drop of an output, where that is there
  abbrev loses : Option Output → List (Code Output Waker) → List (Code Output Waker)
  loses None codes = codes
  loses (Some v) codes = Lose None None ∷ codes

  detached_inside : (f : ℕ) → (detach wakes c f q).inside ≡ loses (task f q).output q.inside
  detached_inside f = by (task f q).output ∙ ap (loses (task f q).output) (becomes_inside c f left.task q)
    where
      left : abstract.Left Output Waker
      left = abstract.detach (task f q)

      q1 : Plain Output Waker
      q1 = becomes wakes (tell wakes c) f left.task q

      q2 : Plain Output Waker
      q2 = put f (task f q1) q1

      still : q2.inside ≡ q1.inside
      still = put_by (λ p. p.inside) f (task f q1) q1 (λ fs. refl)

      by : (o : Option Output)
          → (or o (λ v. enters (Lose None None) (see (Loses v) q2)) (plain_takes.lost wakes c None None q2)).inside
          ≡ loses o q1.inside
      by None = still
      by (Some v) = ap (λ codes. Lose None None ∷ codes) still

-- the end of that drop
pub ends_inside : (c : Choice) (q : Plain Output Waker) (codes : List (Code Output Waker)) → q.inside ≡ Lose None None ∷ codes
    → (does wakes c Ends q).inside ≡ codes
ends_inside c q codes is = ap (λ inside. (innermost wakes c inside (ends wakes c) q).inside) is

pub detach_inside : (c : Choice) (q : Plain Output Waker) (f : ℕ) (o : Option Output) → (task f q).output ≡ o
    → (does wakes c (Detach f) q).inside ≡ loses c q o q.inside
detach_inside c q f o is = detached_inside c q f ∙ ap (λ o. loses c q o q.inside) is

pub handle_inside : (c : Choice) (q : Plain Output Waker) (f : ℕ) (o : Option Output) → (task f (cancel wakes c f q)).output ≡ o
    → (does wakes c (DropHandle f) q).inside ≡ loses c q o q.inside
handle_inside c q f o is =
    let z = cancel wakes c f q in
    detached_inside c z f ∙ (ap (λ o. loses c z o z.inside) is ∙ ap (loses c q o) (cancelled_inside c q f))
