-- A lone drop of a run: its own future is dropped by user code that ends, and behind that all that is left is done; one whose own
-- future was ready goes at once.
use Rattle.std.proofs.Common.{◌≡◌, ℕ, ◌≤◌, ◌++◌, ◌||◌, not, Bool, true, false, List, [], ◌∷◌, length}
use Rattle.std.proofs.Common.{None, if◌then◌else◌, ⊎_elim, refl, sym, ap, subst, arith}
use Rattle.executor_model.specs.declared.call.Call.TheVariants as call
use Rattle.executor_model.specs.declared.op.Op.TheVariants as op
use Rattle.executor_model.specs.declared.op.TickOrRun.TheVariants as tick_or_run
use Rattle.executor_model.specs.declared.op.UserOp.TheVariants as user_op
use Rattle.executor_model.specs.declared.op.Waker.{Waker}
use Rattle.executor_model.specs.declared.step.Step.{Step}
use Rattle.executor_model.specs.declared.step.Step.TheVariants.{Begin}
use Rattle.executor_model.specs.Quiet.{IsQuiet}
use Rattle.executor_model.specs.Rows.{running_of}
use Rattle.executor_model.specs.SleepersAgree.{sleeps}
use Rattle.executor_model.specs.Steps.{Machine, is_there, is_unused, react, stack, top}
use Rattle.executor_model.specs.Weights.{weigh_all}
use Rattle.executor_model.specs.World.{Done, Ended as RunEnded, Run, World, done, run_of}
use Rattle.executor_model.proofs.OwnQueues.UsingWorlds.{is_over_stage}
use Rattle.executor_model.proofs.Quiet.Resting.{all-rest, rests}
use Rattle.executor_model.proofs.Steps.Reached.{Reached, deep-here, reached-more, run-first}
use Rattle.executor_laws.specs.LoneEnds.{IsLoneCall}
use Rattle.executor_laws.proofs.Wakeups.Stands.{used_of}
use Rattle.executor_laws.proofs.Wakeups.StandsMachine.{standing}
use Rattle.executor_laws.proofs.Wakeups.StandsSteps.{Standing}
use Rattle.plain_scheduler.specs.State.{Choice, DropOwn, Plain, Done as DoneAnswer}
use Rattle.plain_scheduler.specs.Moves.{answers, enters}
use Rattle.plain_scheduler.specs.Moves as moves
use Rattle.plain_scheduler.specs.Calls.{does, gone, DropRun, Ends}
use Rattle.machine_roads.specs.View.{Output, wakes}
use Rattle.machine_roads.specs.Road.{Follows}
use Rattle.machine_roads.specs.Alone.{Has}
use Rattle.machine_roads.specs.Lone.{EachLoneAlike, Ended, LoneRunGoes, ends as ends_with, over}
use Rattle.machine_roads.proofs.Lists.{cons_is}
use Rattle.machine_roads.proofs.LoneCalls.{each}
use Rattle.machine_roads.proofs.LoneRuns.{Inside, IsBefore, Rests, Whole, before, both_true, goes_on_of, lone_calls_rest}
use Rattle.machine_roads.proofs.LoneTicks.{may_begin, there_all}
use Rattle.machine_roads.proofs.OwnGoes.{Drops, at_once, drops_run, in_drop, own_went}
use Rattle.machine_roads.proofs.Runs.{changed, ended_run, runs_is}
use Rattle.machine_roads.proofs.Stepping.{next}
use Rattle.machine_roads.proofs.Tying.{LeadsSo}
use Rattle.machine_roads.proofs.Unseen.{stands_in}

off_of : (b : Bool) → not b ≡ true → b ≡ false
off_of false is = refl
off_of true is = absurd cc

or_ended : (b : Bool) → (b || true) ≡ true
or_ended true = refl
or_ended false = refl

module _ (s : Machine) (reached : Reached s) (q : Plain Output Waker) (quiet : IsQuiet s.world.trace) (follows : Follows s.world q)
    (p r : ℕ) (c : Choice) (many : length q.lying ≤ c.tells) (steps : List Step) (new : Machine) (later : new.world.gone ≡ false)
    (lone : IsLoneCall p (call.DropRun r) steps s new) where
  abbrev w : World
  w = s.world

  abbrev its : Run
  its = run_of w r

  unended : its.dropped ≡ false
  unended =
      let may = may_begin s p (call.DropRun r) (run-first (Begin p (call.DropRun r)) steps s new lone.made).0 in
      off_of its.dropped
      (both_true (is_there its) (is_unused (running_of r) s.parties) (there_all w s.parties (top (stack s p)) (call.DropRun r) may)).0

  -- its own future is over: it doesn't sleep, and so it doesn't lie
  awake : its.stage ≡ RunEnded → sleeps its.place ≡ 0
  awake is =
      let all : Standing s = subst Standing (sym reached.is) (standing reached.limit reached.kind reached.parties reached.steps) in
      let unused : weigh_all (used_of (tick_or_run.Run r)) s.parties ≡ 0 =
      all-rest (used_of (tick_or_run.Run r)) s.parties (λ k. rests s (deep-here s reached) quiet k) in
      ⊎_elim (λ both. both.0) (λ used. absurd (omega (arith, used, unused)))
      ((all.stands (tick_or_run.Run r)).rests (ap is_over_stage is))

  abbrev Goes : Plain Output Waker → Type 0
  Goes y = (z : Plain Output Waker) × Ended y z × (z.inside ≡ q.inside) × Follows new.world z

  abbrev So : Done → Type 0
  So e = Drops p None [] refl w q follows c many r unended awake e

  -- the drop of its own future ends
  abbrev went : Plain Output Waker
  went = answers DoneAnswer (gone wakes c r q)

  abbrev Went : Done → Type 0
  Went e = (e.next ≡ []) × Follows e.world went × (went.inside ≡ q.inside)

  from_own : Rests p Went new → Goes (enters (DropOwn r DoneAnswer) q)
  from_own (Whole so) = (went, ends_with c Ends (enters (DropOwn r DoneAnswer) q) went refl many (over went), so.2, so.1)
  from_own (Inside x) = let none : x.first ∷ x.rest ≡ [] = x.so.0 in absurd cc

  from_drop : Rests p So new → Goes (does wakes c (DropRun r) q)
  from_drop (Whole (at_once next inside runs there)) = (does wakes c (DropRun r) q, over (does wakes c (DropRun r) q), inside, there)
  from_drop (Whole (in_drop going runs stops)) =
      let none : [] ≡ op.User (user_op.DropOwn r) ∷ stops.rest ∷ [] = stops.left in absurd cc
  from_drop (Inside x) = by x.so
    where
      by : So (done x.machine.world (x.first ∷ x.rest)) → Goes (does wakes c (DropRun r) q)
      by (at_once next inside runs there) = absurd cc
      by (in_drop going runs stops) =
          let m = x.machine in
          let both = cons_is x.first (op.User (user_op.DropOwn r)) x.rest (stops.rest ∷ []) stops.left in
          let y : Plain Output Waker = enters (DropOwn r DoneAnswer) q in
          let same : y ≡ does wakes c (DropRun r) q = ap (λ o. if o then answers DoneAnswer q else y) (sym going) in
          let there : Follows m.world (record q { runs = changed ended_run r q.runs }) =
          stands_in q.inside m.world (record y { runs = changed ended_run r q.runs })
          (subst (Follows m.world) (runs_is ended_run r y)
          (subst (λ y. Follows m.world (moves.runs ended_run r y)) (sym same) stops.losing.follows)) refl in
          let leads : LeadsSo p (done m.world (stops.rest ∷ [])) Went =
          λ hints all rests. own_went p [] refl m.world q r stops.rest stops.leaving there c many hints all rests in
          let now : LeadsSo p (done (react p x.first x.end m.world).world ((react p x.first x.end m.world).next ++ x.rest)) Went =
          subst (λ o. LeadsSo p (done (react p o x.end m.world).world ((react p o x.end m.world).next ++ x.rest)) Went) (sym both.0)
          (subst (λ os. LeadsSo p (done m.world os) Went) (sym both.1) leads) in
          subst Goes same
          (from_own
          (goes_on_of Has IsBefore before p So Went new later
          (reached-more (Begin p (call.DropRun r) ∷ steps) s new reached lone.made) lone.ended x now))

  goes_all : Goes (does wakes c (DropRun r) q)
  goes_all =
      from_drop
      (lone_calls_rest s reached p (call.DropRun r) steps new So quiet later
      (λ hints all rests. drops_run p None [] refl w q follows c many r unended awake hints all rests) lone)

pub run_goes_so : (s : Machine) → Reached s → (q : Plain Output Waker) → IsQuiet s.world.trace → Follows s.world q → LoneRunGoes s q
run_goes_so s reached q quiet follows p r c steps many new later lone =
    goes_all s reached q quiet follows p r c many steps new later lone

pub lone_run_goes : EachLoneAlike LoneRunGoes
lone_run_goes = each LoneRunGoes run_goes_so
