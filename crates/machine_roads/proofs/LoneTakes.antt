-- Lone calls that take futures, up to where they come to rest first, leaks, and the making of runs.
use Rattle.std.proofs.Common.{◌≡◌, ℕ, List, [], ◌∷◌, None, refl, sym, ap, subst, ◌∙◌}
use Rattle.std.specs.Prelude.{reverse}
use Rattle.executor_model.specs.declared.call.Call.{Call}
use Rattle.executor_model.specs.declared.call.Call.TheVariants as call
use Rattle.executor_model.specs.declared.call.Reply.TheVariants as reply
use Rattle.executor_model.specs.declared.op.Hold.TheVariants as hold
use Rattle.executor_model.specs.declared.op.Op.TheVariants as op
use Rattle.executor_model.specs.declared.step.Step.{Step}
use Rattle.executor_model.specs.declared.step.Step.TheVariants.{Answer, Begin}
use Rattle.executor_model.specs.declared.op.Waker.{Waker}
use Rattle.executor_model.specs.Quiet.{IsQuiet}
use Rattle.executor_model.specs.Steps.{Machine, stack, top, waker_of}
use Rattle.executor_model.specs.World.{Done, done}
use Rattle.executor_model.proofs.Quiet.Resting.{rests}
use Rattle.executor_model.proofs.Steps.Reached.{Reached, deep-here, reached-more, run-first}
use Rattle.executor_laws.specs.LoneEnds.{IsLoneCall}
use Rattle.plain_scheduler.specs.State.{Plain, Refusal, Tick, Try}
use Rattle.plain_scheduler.specs.Calls.{does, NewRun, PollTick, TryTick}
use Rattle.machine_roads.specs.View.{Output, wakes}
use Rattle.machine_roads.specs.Road.{Follows, waking_in}
use Rattle.machine_roads.specs.Stopped.{Stops}
use Rattle.machine_roads.specs.Lone.{EachLoneAlike, LoneLeaks, LoneRunIsMade, LoneTickIsPolled, LoneTries, RestsFirst}
use Rattle.machine_roads.proofs.Leaking.{leaks}
use Rattle.machine_roads.proofs.LoneCalls.{each}
use Rattle.machine_roads.proofs.LoneRuns.{Inside, Rests, Whole, lone_calls, lone_calls_rest, lone_calls_so}
use Rattle.machine_roads.proofs.LoneTicks.{can_poll, may_begin, owned_by}
use Rattle.machine_roads.proofs.LyingDown.{polls_tick}
use Rattle.machine_roads.proofs.RunsMade.{makes_run}
use Rattle.machine_roads.proofs.Trying.{tries}

-- where it rests first is on its way
pub first_rest : (s new : Machine) → Reached s → (p : ℕ) (c : Call) (steps : List Step) (R : Done → Type 0) → IsLoneCall p c steps s new
    → Rests p R new → RestsFirst p R new
first_rest s new reached p c steps R lone (Whole so) =
    let none : stack new p ≡ [] = rests new (deep-here new (reached-more (Begin p c ∷ steps) s new reached lone.made)) lone.ended p in
    record {
      machine = new;
      rest = [];
      made = refl;
      so = subst (λ os. R (done new.world (reverse os))) (sym none) so;
    }
first_rest s new reached p c steps R lone (Inside x) =
    record {
      machine = x.machine;
      rest = Answer p x.end ∷ x.steps;
      made = x.made;
      so = subst (λ os. R (done x.machine.world os)) (sym x.is) x.so;
    }

pub lone_tries : EachLoneAlike LoneTries
lone_tries = each LoneTries (λ s reached q quiet follows p c steps first many new later lone.
    first_rest s new reached p call.TryTick steps
    (λ e. Stops Try (op.End reply.Yes hold.Executor) [] q e (does wakes c TryTick q)) lone
    (lone_calls_rest s reached p call.TryTick steps new
    (λ e. Stops Try (op.End reply.Yes hold.Executor) [] q e (does wakes c TryTick q)) quiet later
    (λ hints all rests. tries p None [] s.world q refl follows c first many hints all rests) lone))

pub lone_tick_is_polled : EachLoneAlike LoneTickIsPolled
lone_tick_is_polled = each LoneTickIsPolled (λ s reached q quiet follows p t c b steps first room new later lone.
    let a = waker_of None b in
    let so : Done → Type 0 =
    λ e. (r : Refusal) × Stops (Tick t a) (op.End reply.Ready (hold.Tick t)) [] q e
    (does wakes (record c { refusal = r }) (PollTick t a) q) in
    first_rest s new reached p (call.PollTick t b) steps so lone
    (lone_calls_rest s reached p (call.PollTick t b) steps new so quiet later
    (λ hints all rests.
    let so =
    polls_tick p None [] s.world q refl follows c t b first room
    (can_poll s reached p t b (may_begin s p (call.PollTick t b) (run-first (Begin p (call.PollTick t b)) steps s new lone.made).0))
    hints all rests in
    (so.0, so.2)) lone))

-- a lone leak is one of an executor that isn't static
pub leaks_so : (s : Machine) → Reached s → (q : Plain Output Waker) → IsQuiet s.world.trace → Follows s.world q → LoneLeaks s q
leaks_so s reached q quiet follows p c steps none many new later lone =
    let may = may_begin s p call.Leak (run-first (Begin p call.Leak) steps s new lone.made).0 in
    lone_calls s reached p call.Leak steps new _ quiet later
    (leaks p None [] s.world q refl follows c
    (sym follows.kind ∙ owned_by s.world s.parties (top (stack s p)) call.Leak refl refl may) (ap (λ codes. waking_in codes) none) many)
    lone

pub lone_leaks : EachLoneAlike LoneLeaks
lone_leaks = each LoneLeaks leaks_so

pub run_made_so : (s : Machine) → Reached s → (q : Plain Output Waker) → IsQuiet s.world.trace → Follows s.world q → LoneRunIsMade s q
run_made_so s reached q quiet follows p c steps new later lone =
    lone_calls_so s reached p call.NewRun steps new
    (λ w. (r : Refusal) × Follows w (does wakes (record c { refusal = r }) NewRun q)) quiet later
    (λ hints all rests. let e = makes_run p None [] s.world q refl follows c hints all rests in (e.1, (e.0, e.2))) lone

pub lone_run_is_made : EachLoneAlike LoneRunIsMade
lone_run_is_made = each LoneRunIsMade run_made_so
