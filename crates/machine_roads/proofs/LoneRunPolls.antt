-- A lone poll of a run that has taken fewer than 200, whatever it finds, with the ends of all the code that it comes to.
use Rattle.std.proofs.Common.{◌≡◌, ℕ, ◌≤◌, nat_lt, Bool, true, false, List, length, Option, Some, None, slice_get, refl, ap}
use Rattle.executor_model.specs.declared.call.By.{By}
use Rattle.executor_model.specs.declared.call.Call.TheVariants as call
use Rattle.executor_model.specs.declared.event.Answer.TheVariants as answer
use Rattle.executor_model.specs.declared.op.Waker.{Waker}
use Rattle.executor_model.specs.declared.step.Step.{Step}
use Rattle.executor_model.specs.declared.step.UserEnd.{UserEnd}
use Rattle.executor_model.specs.declared.step.UserEnd.TheVariants as end
use Rattle.executor_model.specs.Quiet.{IsQuiet}
use Rattle.executor_model.specs.Steps.{Machine, waker_of}
use Rattle.executor_model.proofs.Steps.Reached.{Reached}
use Rattle.executor_laws.specs.LoneEnds.{IsLoneCall}
use Rattle.executor_laws.specs.RunReach.{first_answer}
use Rattle.plain_scheduler.specs.State.{Choice, Plain}
use Rattle.plain_scheduler.specs.Lists.{or}
use Rattle.plain_scheduler.specs.Calls.{does, PollRun}
use Rattle.machine_roads.specs.View.{Output, wakes}
use Rattle.machine_roads.specs.Road.{Follows}
use Rattle.machine_roads.specs.Lone.{EachLoneAlike, Ended, LoneRunGoesOn}
use Rattle.machine_roads.proofs.Lists.{clash}
use Rattle.machine_roads.proofs.LoneCalls.{each}
use Rattle.machine_roads.proofs.LoneGoesOn.{runs_all}
use Rattle.machine_roads.proofs.LonePolls.{ends_all, over_all}

-- its own future gives no output
abbrev is_unready : Option UserEnd → Bool
is_unready (Some (end.Polled answer.Pending)) = true
is_unready _ = false

unready : (o : Option UserEnd) → is_unready o ≡ true → o ≡ Some (end.Polled answer.Pending)
unready (Some (end.Polled answer.Pending)) is = refl
unready _ is = absurd cc

module _ (s : Machine) (reached : Reached s) (q : Plain Output Waker) (quiet : IsQuiet s.world.trace) (follows : Follows s.world q)
    (p r : ℕ) (c : Choice) (b : By) (steps : List Step) (going : or (slice_get q.runs r) (λ run. nat_lt run.taken 200) true ≡ true)
    (many : length q.lying ≤ c.tells) (new : Machine) (later : new.world.gone ≡ false)
    (lone : IsLoneCall p (call.PollRun r b) steps s new) where
  abbrev Result : Type 0
  Result =
      (z : Plain Output Waker) × Ended (does wakes c (PollRun r (waker_of None b)) q) z × (z.inside ≡ q.inside)
      × Follows new.world z

  pub run_polled : Result
  run_polled = by (or (slice_get q.runs r) (λ run. run.is_over) true) refl
    where
      open_by : or (slice_get q.runs r) (λ run. run.is_over) true ≡ false → (x : Bool) → is_unready (first_answer steps) ≡ x → Result
      open_by unended true is =
          runs_all s reached q quiet follows p r c b steps (unready (first_answer steps) is) going unended many new later lone
      open_by unended false is =
          ends_all s reached q quiet follows p r c b many steps new later lone (λ pending. clash is (ap is_unready pending))

      by : (x : Bool) → or (slice_get q.runs r) (λ run. run.is_over) true ≡ x → Result
      by true over = over_all s reached q quiet follows p r c b many steps new later lone over
      by false unended = open_by unended (is_unready (first_answer steps)) refl

pub lone_run_goes_on : EachLoneAlike LoneRunGoesOn
lone_run_goes_on = each LoneRunGoesOn (λ s reached q quiet follows p r c b steps going many new later lone.
    run_polled s reached q quiet follows p r c b steps going many new later lone)
