-- A lone poll of a run whose own future gives no output, where some future is due: it comes to the poll or the drop of the one that it
-- takes.
use Rattle.std.proofs.Common.{◌≡◌, ℕ, ◌≤◌, ◌++◌, ◌||◌, not, nat_lt, zero, suc, Bool, true, false, List, [], ◌∷◌, length, slice_get, Option}
use Rattle.std.proofs.Common.{Some, None, inl, inr, ⊎_elim, if◌then◌else◌, refl, sym, ap, subst, ◌∙◌, arith}
use Rattle.executor_parts.specs.Marks.{first_of}
use Rattle.executor_model.specs.declared.call.By.{By}
use Rattle.executor_model.specs.declared.call.Call.TheVariants as call
use Rattle.executor_model.specs.declared.event.Answer.TheVariants as answer
use Rattle.executor_model.specs.declared.op.Op.TheVariants as op
use Rattle.executor_model.specs.declared.op.RunPoll.{RunPoll}
use Rattle.executor_model.specs.declared.op.TickOp.TheVariants as tick_op
use Rattle.executor_model.specs.declared.op.TickOrRun.TheVariants as tick_or_run
use Rattle.executor_model.specs.declared.op.Waker.{Waker}
use Rattle.executor_model.specs.declared.step.Step.{Step}
use Rattle.executor_model.specs.declared.step.UserEnd.{UserEnd}
use Rattle.executor_model.specs.declared.step.UserEnd.TheVariants as end
use Rattle.executor_model.specs.ActsOfRuns.{asleep}
use Rattle.executor_model.specs.Quiet.{IsQuiet}
use Rattle.executor_model.specs.Steps.{Machine, react, waker_of}
use Rattle.executor_model.specs.Weights.{weigh_all}
use Rattle.executor_model.specs.World.{Done, Ended as RunEnded, Listed, New, Stage, done, own_of, run_of}
use Rattle.executor_model.proofs.OwnQueues.UsingWorlds.{is_over_stage}
use Rattle.executor_model.proofs.Quiet.Resting.{all-rest, rests}
use Rattle.executor_model.proofs.Steps.Reached.{Reached, deep-here}
use Rattle.executor_laws.specs.LoneEnds.{IsLoneCall}
use Rattle.executor_laws.specs.RunReach.{first_answer}
use Rattle.executor_laws.proofs.Wakeups.Stands.{used_of}
use Rattle.executor_laws.proofs.Wakeups.StandsMachine.{standing}
use Rattle.executor_laws.proofs.Wakeups.StandsSteps.{Standing}
use Rattle.plain_scheduler.specs.State.{Choice, Finished, Plain, PollOwn, Run as ByRun}
use Rattle.plain_scheduler.specs.Lists.{any, or}
use Rattle.plain_scheduler.specs.Moves.{answers, enters, is_due, is_kept}
use Rattle.plain_scheduler.specs.Calls.{does, Pends, PollRun}
use Rattle.machine_roads.specs.View.{Output, wakes}
use Rattle.machine_roads.specs.Road.{Follows, futures_in, is_ended}
use Rattle.machine_roads.specs.Alone.{alone, Has}
use Rattle.machine_roads.specs.Lone.{EachLoneAlike, LoneRunTakes, RestsFirst}
use Rattle.machine_roads.specs.Searching.{IsLast, goes_on_by}
use Rattle.machine_roads.specs.Stopped.{Stops}
use Rattle.machine_roads.proofs.Lists.{clash, cons_is}
use Rattle.machine_roads.proofs.LoneCalls.{each}
use Rattle.machine_roads.proofs.LonePolls.{In, InOwn, last, poll_own, stands_in_own, x0}
use Rattle.machine_roads.proofs.LoneRuns.{IsBefore, before, goes_on_of}
use Rattle.machine_roads.proofs.LoneTakes.{first_rest}
use Rattle.machine_roads.proofs.RunSearching.{run_takes}
use Rattle.machine_roads.proofs.Runs.{over_is}
use Rattle.machine_roads.proofs.Tying.{LeadsSo}

pub end_is : (e f : UserEnd) → ◌≡◌ {A = Option UserEnd} (Some e) (Some f) → e ≡ f
end_is e f is = ap (λ (o : Option UserEnd). or o (λ g. g) e) is

none_of : (xs : List ℕ) → length xs ≡ 0 → xs ≡ []
none_of [] is = refl
none_of (x ∷ xs) is = absurd (omega (arith, is))

module _ (s : Machine) (reached : Reached s) (q : Plain Output Waker) (quiet : IsQuiet s.world.trace) (follows : Follows s.world q) where
  -- no run that is over keeps anything
  pub over_keeps_none : (k : ℕ) → or (slice_get q.runs k) (λ run. run.is_over) true ≡ true → futures_in (is_kept k) q.due ≡ []
  over_keeps_none k over =
      sym (follows.kept k)
      ∙ none_of (own_of s.world k)
      (by (run_of s.world k).dropped (run_of s.world k).stage refl refl (sym (over_is s.world.runs q.runs follows.runs k) ∙ over))
    where
      all : Standing s
      all = subst Standing (sym reached.is) (standing reached.limit reached.kind reached.parties reached.steps)

      unused : weigh_all (used_of (tick_or_run.Run k)) s.parties ≡ 0
      unused = all-rest (used_of (tick_or_run.Run k)) s.parties (λ j. rests s (deep-here s reached) quiet j)

      none : (n : ℕ) → (1 ≤ n → ⊥) → n ≡ 0
      none zero never = refl
      none (suc n) never = absurd (never (omega arith))

      by : (b : Bool) (st : Stage) → (run_of s.world k).dropped ≡ b → (run_of s.world k).stage ≡ st → (b || is_ended st) ≡ true
          → length (own_of s.world k) ≡ 0
      by true st dead is over =
          let it = all.stands (tick_or_run.Run k) in
          let gone : not (run_of s.world k).dropped ≡ false = ap not dead in
          none (length (own_of s.world k)) (λ some.
          ⊎_elim (λ pending. clash gone (it.alive (inl pending)))
          (λ more. ⊎_elim (λ refused. clash gone (it.alive (inr (inl refused)))) (λ used. omega (arith, used, unused)) more)
          (it.keeps some))
      by false RunEnded dead is over =
          ⊎_elim (λ both. both.1) (λ used. absurd (omega (arith, used, unused)))
          ((all.stands (tick_or_run.Run k)).rests (ap is_over_stage is))
      by false New dead is over = absurd cc
      by false Listed dead is over = absurd cc

  -- a run that isn't over hasn't ended
  pub open_stage : (r : ℕ) → or (slice_get q.runs r) (λ run. run.is_over) true ≡ false → is_ended (run_of s.world r).stage ≡ false
  open_stage r unended =
      by (run_of s.world r).dropped (is_ended (run_of s.world r).stage)
      (sym (over_is s.world.runs q.runs follows.runs r) ∙ unended)
    where
      by : (d e : Bool) → (d || e) ≡ false → e ≡ false
      by false e is = is
      by true e is = absurd cc

  module _ (p r : ℕ) (c : Choice) (b : By) (steps : List Step) (pending : first_answer steps ≡ Some (end.Polled answer.Pending))
      (some : any is_due q.due ≡ true) (going : or (slice_get q.runs r) (λ run. nat_lt run.taken 200) true ≡ true)
      (unended : or (slice_get q.runs r) (λ run. run.is_over) true ≡ false) (many : length q.lying ≤ c.tells) (new : Machine)
      (later : new.world.gone ≡ false) (lone : IsLoneCall p (call.PollRun r b) steps s new) where
    abbrev a : Waker
    a = waker_of None b

    own : InOwn s reached q quiet follows p r c b many steps new later lone
    own = stands_in_own s reached q quiet follows p r c b many steps new later lone (run_of s.world r).stage refl (open_stage r unended)

    abbrev x : RunPoll
    x = x0 s reached q quiet follows p r c b many steps new later lone

    abbrev S : Done → Type 0
    S e =
        (d : Choice) × (y : RunPoll) × (last : Bool) × (d.first ≡ first_of s.world.urgent_turns) × (d.tells ≡ c.tells)
        × Stops (ByRun r a) (goes_on_by y last) [] q e (does wakes d Pends (does wakes c (PollRun r a) q))
        × IsLast r last (does wakes d Pends (does wakes c (PollRun r a) q))

    polled : does wakes c (PollRun r a) q ≡ enters (PollOwn r a) q
    polled = ap (λ b. if b then answers Finished q else enters (PollOwn r a) q) unended

    leads : LeadsSo p (done own.world (op.Tick (tick_op.Search (asleep x)) ∷ [])) S
    leads hints all rests =
        let k =
        run_takes p None [] own.world q refl own.follows_in x c.tells some
        (record { going = going; left = over_keeps_none }) many hints all rests in (
          k.0,
          x,
          k.1,
          k.2 ∙ ap first_of own.turn,
          k.3,
          subst
              (λ z. Stops (ByRun r a) (goes_on_by x k.1) [] q (alone p hints (done own.world (op.Tick (tick_op.Search (asleep x)) ∷ [])))
              (does wakes k.0 Pends z)) (sym polled) k.5,
          subst (λ z. IsLast r k.1 (does wakes k.0 Pends z)) (sym polled) k.6,
        )

    takes : RestsFirst p S new
    takes =
        let i = own.code in
        let m = i.machine in
        let it = poll_own s reached q quiet follows p r c b many steps new later lone in
        let both = cons_is i.first it i.rest [] (ap (λ (d : Done). d.next) i.so) in
        let pends : i.end ≡ end.Polled answer.Pending = end_is i.end (end.Polled answer.Pending) (sym own.first ∙ pending) in
        let search = op.Tick (tick_op.Search (asleep x)) in
        let now : LeadsSo p (done (react p i.first i.end m.world).world ((react p i.first i.end m.world).next ++ i.rest)) S =
        subst (λ e. LeadsSo p (done (react p i.first e m.world).world ((react p i.first e m.world).next ++ i.rest)) S) (sym pends)
        (subst
        (λ o. LeadsSo p (done (react p o (end.Polled answer.Pending) m.world).world
        ((react p o (end.Polled answer.Pending) m.world).next ++ i.rest)) S) (sym both.0)
        (subst (λ os. LeadsSo p (done m.world (search ∷ os)) S) (sym both.1)
        (subst (λ w. LeadsSo p (done w (search ∷ [])) S) (sym (ap (λ (d : Done). d.world) i.so)) leads))) in
        first_rest s new reached p (call.PollRun r b) steps S lone
        (goes_on_of Has IsBefore before p (In s reached q quiet follows p r c b many steps new later lone own.world (it ∷ [])) S new later
        (last s reached q quiet follows p r c b many steps new later lone) lone.ended i now)

pub lone_run_takes : EachLoneAlike LoneRunTakes
lone_run_takes = each LoneRunTakes (λ s reached q quiet follows p r c b steps pending some going unended many new later lone.
    takes s reached q quiet follows p r c b steps pending some going unended many new later lone)
