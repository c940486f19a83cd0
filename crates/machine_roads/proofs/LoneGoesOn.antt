-- A lone poll of a run whose own future gives no output, with the ends of all the code that it comes to: it takes until it has taken 200
-- and lets others go first, or lies down where nothing is due.
use Rattle.std.proofs.Common.{◌≡◌, ℕ, suc, ◌+◌, ◌-◌, ◌≤◌, ◌<◌, ◌++◌, nat_lt, true, false, List, [], ◌∷◌, length, slice_get}
use Rattle.std.proofs.Common.{Option, Some, None, if◌then◌else◌, refl, sym, ap, subst, ◌∙◌, arith}
use Rattle.std.proofs.lemmas.Bool.Decides.{nat_tests}
use Rattle.executor_model.specs.declared.call.By.{By}
use Rattle.executor_model.specs.declared.call.Call.TheVariants as call
use Rattle.executor_model.specs.declared.event.Answer.TheVariants as answer
use Rattle.executor_model.specs.declared.op.Op.TheVariants as op
use Rattle.executor_model.specs.declared.op.RunPoll.{RunPoll}
use Rattle.executor_model.specs.declared.op.TickOp.TheVariants as tick_op
use Rattle.executor_model.specs.declared.op.Waker.{Waker}
use Rattle.executor_model.specs.declared.step.Step.{Step}
use Rattle.executor_model.specs.declared.step.UserEnd.TheVariants as end
use Rattle.executor_model.specs.ActsOfRuns.{asleep}
use Rattle.executor_model.specs.Quiet.{IsQuiet}
use Rattle.executor_model.specs.Steps.{Machine, react, waker_of}
use Rattle.executor_model.specs.World.{Done, done, run_of}
use Rattle.executor_model.proofs.Steps.Reached.{Reached}
use Rattle.executor_laws.specs.LoneEnds.{IsLoneCall}
use Rattle.executor_laws.specs.RunReach.{first_answer}
use Rattle.plain_scheduler.specs.State.{Choice, Finished, Plain, PollOwn, Run as ByRun, Running}
use Rattle.plain_scheduler.specs.Lists.{or}
use Rattle.plain_scheduler.specs.Moves.{answers, enters}
use Rattle.plain_scheduler.specs.Takes as plain_takes
use Rattle.plain_scheduler.specs.Calls.{does, Pends, PollRun}
use Rattle.machine_roads.specs.View.{Output, wakes}
use Rattle.machine_roads.specs.Road.{Follows}
use Rattle.machine_roads.specs.Alone.{alone, Has}
use Rattle.machine_roads.specs.Lone.{Ended}
use Rattle.machine_roads.specs.Stopped.{taken_by}
use Rattle.machine_roads.proofs.Lists.{cons_is}
use Rattle.machine_roads.proofs.LonePolls.{In, InOwn, last, poll_own, stands_in_own, x0}
use Rattle.machine_roads.proofs.LoneRuns.{IsBefore, Rests, before, goes_on_of}
use Rattle.machine_roads.proofs.LoneRunsOn.{from_after, takes_on}
use Rattle.machine_roads.proofs.LoneTaking.{end_is, open_stage, over_keeps_none}
use Rattle.machine_roads.proofs.Passing.{telling}
use Rattle.machine_roads.specs.Searching.{start_of}
use Rattle.machine_roads.proofs.RunsOn.{After, Between, anyhow, goes_from}
use Rattle.machine_roads.proofs.Tying.{LeadsSo}

-- it has taken fewer than 200
few_taken : (qs : List Running) (r : ℕ) → or (slice_get qs r) (λ run. nat_lt run.taken 200) true ≡ true
    → nat_lt (or (slice_get qs r) (λ run. run.taken) 0) 200 ≡ true
few_taken qs r going = by (slice_get qs r) going
  where
    by : (o : Option Running) → or o (λ run. nat_lt run.taken 200) true ≡ true → nat_lt (or o (λ run. run.taken) 0) 200 ≡ true
    by None going = refl
    by (Some run) going = going

fewer : (t : ℕ) → nat_lt t 200 ≡ true → t + 1 ≤ 200
fewer t few = grind (arith, nat_tests)

left_to_take : (t : ℕ) → t + 1 ≤ 200 → suc t + (199 - t) ≡ 200
left_to_take t few = omega (arith, few)

up_to : (t : ℕ) → t + 1 ≤ 200 → t ≤ 200
up_to t few = omega (arith, few)

module _ (s : Machine) (reached : Reached s) (q : Plain Output Waker) (quiet : IsQuiet s.world.trace) (follows : Follows s.world q)
    (p r : ℕ) (c : Choice) (b : By) (steps : List Step) (pending : first_answer steps ≡ Some (end.Polled answer.Pending))
    (going : or (slice_get q.runs r) (λ run. nat_lt run.taken 200) true ≡ true)
    (unended : or (slice_get q.runs r) (λ run. run.is_over) true ≡ false) (many : length q.lying ≤ c.tells) (new : Machine)
    (later : new.world.gone ≡ false) (lone : IsLoneCall p (call.PollRun r b) steps s new) where
  abbrev a : Waker
  a = waker_of None b

  own : InOwn s reached q quiet follows p r c b many steps new later lone
  own =
      stands_in_own s reached q quiet follows p r c b many steps new later lone (run_of s.world r).stage refl
      (open_stage s reached q quiet follows r unended)

  abbrev x : RunPoll
  x = x0 s reached q quiet follows p r c b many steps new later lone

  abbrev t : ℕ
  t = taken_by r q

  few : nat_lt t 200 ≡ true
  few = few_taken q.runs r going

  now : Between r false t q
  now = record {
    taken = refl;
    most = up_to t (fewer t few);
    early = few;
    going = unended;
    left = over_keeps_none s reached q quiet follows;
  }

  -- its own future's poll ends, as it does in the plain scheduler
  abbrev polled : Plain Output Waker
  polled = enters (PollOwn r a) q

  abbrev pends_with : Choice → Plain Output Waker
  pends_with d = does wakes d Pends polled

  next_so : (d : Choice)
      → pends_with (telling (suc (length q.lying)) d) ≡ plain_takes.next wakes (telling (suc (length q.lying)) d) (ByRun r a) q
  next_so d =
      let e = telling (suc (length q.lying)) d in
      sym (ap (λ b. if b then plain_takes.take wakes e (ByRun r a) q else plain_takes.gives_way wakes e r a q) few)

  abbrev S : Done → Type 0
  S e = After p x [] q (suc (length q.lying)) t e pends_with anyhow

  one_more : (n : ℕ) → n < suc n
  one_more n = omega arith

  leads : LeadsSo p (done own.world (op.Tick (tick_op.Search (asleep x)) ∷ [])) S
  leads hints all rests =
      let search = op.Tick (tick_op.Search (asleep x)) ∷ [] in
      goes_from p x [] q (suc (length q.lying)) t (alone p hints (done own.world search)) pends_with
      anyhow refl rests c (start_of p hints (done own.world search)) own.world q own.follows_in (one_more (length q.lying)) now refl
      (record { way = record { hints = hints; has = all; is = refl }; starts = refl }) next_so
      (λ d said. tt)

  rested : Rests p S new
  rested =
      let i = own.code in
      let m = i.machine in
      let it = poll_own s reached q quiet follows p r c b many steps new later lone in
      let both = cons_is i.first it i.rest [] (ap (λ (d : Done). d.next) i.so) in
      let pends : i.end ≡ end.Polled answer.Pending = end_is i.end (end.Polled answer.Pending) (sym own.first ∙ pending) in
      let search = op.Tick (tick_op.Search (asleep x)) in
      let here : LeadsSo p (done (react p i.first i.end m.world).world ((react p i.first i.end m.world).next ++ i.rest)) S =
      subst (λ e. LeadsSo p (done (react p i.first e m.world).world ((react p i.first e m.world).next ++ i.rest)) S) (sym pends)
      (subst
      (λ o. LeadsSo p (done (react p o (end.Polled answer.Pending) m.world).world
      ((react p o (end.Polled answer.Pending) m.world).next ++ i.rest)) S) (sym both.0)
      (subst (λ os. LeadsSo p (done m.world (search ∷ os)) S) (sym both.1)
      (subst (λ w. LeadsSo p (done w (search ∷ [])) S) (sym (ap (λ (d : Done). d.world) i.so)) leads))) in
      goes_on_of Has IsBefore before p (In s reached q quiet follows p r c b many steps new later lone own.world (it ∷ [])) S new later
      (last s reached q quiet follows p r c b many steps new later lone) lone.ended i here

  pub runs_all : (z : Plain Output Waker) × Ended (does wakes c (PollRun r a) q) z × (z.inside ≡ q.inside) × Follows new.world z
  runs_all =
      let at_last = last s reached q quiet follows p r c b many steps new later lone in
      subst (λ m. (z : Plain Output Waker) × Ended m z × (z.inside ≡ q.inside) × Follows new.world z)
      (sym (ap (λ b. if b then answers Finished q else polled) unended))
      (from_after p new later at_last lone.ended c q.inside x t false
      (takes_on p new later at_last lone.ended c q.inside x (199 - t) (suc t) (left_to_take t (fewer t few))) Pends polled refl q refl
      rested)
