-- What an act makes of the list of queues: it is as the plain scheduler's call says in which order runs were first polled.
use Rattle.std.proofs.Common.{◌≡◌, ◌<◌, ◌++◌, ◌==◌, not, ℕ, List, [], ◌∷◌, Bool, true, false, nat_lt, length}
use Rattle.std.proofs.Common.{Option, Some, None, Ok, if◌then◌else◌, refl, sym, ap, ◌∙◌, subst, arith, slice_get}
use Rattle.std.specs.Prelude.{reverse}
use Rattle.executor_model.specs.declared.call.By.{By}
use Rattle.executor_model.specs.declared.call.Call.{Call}
use Rattle.executor_model.specs.declared.call.Call.TheVariants as call
use Rattle.executor_model.specs.declared.call.Reply.{Reply}
use Rattle.executor_model.specs.declared.call.Reply.TheVariants as reply
use Rattle.executor_model.specs.declared.event.Answer.{Answer as Answered}
use Rattle.executor_model.specs.declared.event.Answer.TheVariants.{Pending, Ready}
use Rattle.executor_model.specs.declared.event.Event.TheVariants as event
use Rattle.executor_model.specs.declared.op.Hold.TheVariants as hold
use Rattle.executor_model.specs.declared.op.ListOp.TheVariants as list_op
use Rattle.executor_model.specs.declared.op.Op.{Op}
use Rattle.executor_model.specs.declared.op.Op.TheVariants as op
use Rattle.executor_model.specs.declared.op.RunOp.TheVariants as run_op
use Rattle.executor_model.specs.declared.op.RunPoll.{RunPoll}
use Rattle.executor_model.specs.declared.op.Section.TheVariants as section
use Rattle.executor_model.specs.declared.op.UserOp.TheVariants as user_op
use Rattle.executor_model.specs.declared.op.Waker.{Waker}
use Rattle.executor_model.specs.declared.step.Hint.{Hint}
use Rattle.executor_model.specs.declared.step.Step.{Step}
use Rattle.executor_model.specs.declared.step.Step.TheVariants.{Answer, Begin}
use Rattle.executor_model.specs.declared.step.StepError.TheVariants.{NoSuch, WrongAnswer}
use Rattle.executor_model.specs.declared.step.UserEnd.{UserEnd}
use Rattle.executor_model.specs.declared.step.UserEnd.TheVariants.{Done as Over, Polled}
use Rattle.executor_model.specs.ActsOfRuns.{registered, unregistered}
use Rattle.executor_model.specs.Executions.{run_all}
use Rattle.executor_model.specs.OwnQueues.{is_listed}
use Rattle.executor_model.specs.Sound.{times}
use Rattle.executor_model.specs.Steps.{Machine, accepts, after, answer_refusal, begun, drop_run, future_of, kept, mine, part_refusal}
use Rattle.executor_model.specs.Steps.{party_of}
use Rattle.executor_model.specs.Steps.{begin_refusal, has_run, is_known, is_there, is_unused, poll_run, react, refusal, stack, top}
use Rattle.executor_model.specs.Steps.{waker_of}
use Rattle.executor_model.specs.Steps.{with_future}
use Rattle.executor_model.specs.Rows.{running_of}
use Rattle.executor_model.proofs.Steps.Lift.{first-true, none_refused}
use Rattle.executor_model.specs.World.{Done, Ended, Listed, New, Stage, World, done, log, run_of}
use Rattle.executor_model.specs.World as world
use Rattle.executor_model.proofs.Steps.Reached.{Reached, run-first}
use Rattle.executor_model.proofs.Steps.Stepping.{refusal-there}
use Rattle.executor_laws.proofs.Walks.Finding.{listed-here}
use Rattle.plain_scheduler.specs.State.{Code, DropOwn, Plain}
use Rattle.plain_scheduler.specs.State as state
use Rattle.plain_scheduler.specs.Calls as plain
use Rattle.plain_scheduler.specs.Lists.{or, without}
use Rattle.plain_scheduler.specs.Usual.{order_by, order_in, with_run}
use Rattle.machine_roads.specs.View.{Output}
use Rattle.machine_roads.specs.Alike.{begins as begins_alike, upon}
use Rattle.machine_roads.specs.Alone.{alone, is_resting}
use Rattle.machine_roads.specs.Road.{Follows, run_view}
use Rattle.machine_roads.specs.Within as within
use Rattle.machine_roads.specs.Within.{Act, IsAct, IsCallIn, IsMade, StandsAlike}
use Rattle.machine_roads.specs.Within.{is_on_way, lets_begin}
use Rattle.machine_roads.specs.Within.{may_begin_in}
use Rattle.machine_roads.specs.Within.{may_stand_in, owes, rests_after, standing}
use Rattle.machine_roads.proofs.AloneKeeps.{calls_user, due, due_resting, due_to_append}
use Rattle.machine_roads.proofs.Enlisting.{alone_lists, begins_list, enlists, reacts_list}
use Rattle.machine_roads.proofs.Having.{same_self}
use Rattle.machine_roads.proofs.Inmost.{whole}
use Rattle.machine_roads.proofs.Lists.{clash}
use Rattle.machine_roads.proofs.LoneRuns.{both_true, passed, within as is_within}
use Rattle.machine_roads.proofs.LoneTicks.{may_begin}
use Rattle.machine_roads.proofs.Rescheduling.{off_here, reschedules}
use Rattle.machine_roads.proofs.Runs.{over_is}
use Rattle.machine_roads.proofs.StandsHere.{follows_here, owes_none, rests_alike, walks}
use Rattle.machine_roads.proofs.Tying.{top_of}
use Rattle.machine_roads.proofs.Walked.{answer_leads_of, begun_leads_of, no_answer}
use Rattle.machine_roads.proofs.OrderedEnds.{Ends, IsLight, Unlists, alike_ends, drops_a_run, drops_run, goes, isnt_there, light}
use Rattle.machine_roads.proofs.OrderedEnds.{none_among, one_among, order_kept, without_none, without_same}

-- as a call begins, but a poll of a run

abbrev polls_run : Call → Bool
polls_run (call.PollRun r b) = true
polls_run c = false

light_with : (w : World) (x : Option ℕ) (d : ℕ → Done) → ((f : ℕ) → due enlists (d f).next ≡ 0)
    → due enlists (with_future w x d).next ≡ 0
light_with w (Some f) d none = none f
light_with w None d none = refl

light_going : (stage : Stage) (r : ℕ) → due enlists (drop_run stage r) ≡ 0
light_going New r = refl
light_going Listed r = refl
light_going Ended r = refl

light_begun : (p : ℕ) (w : World) (here : Option Waker) (c : Call) → polls_run c ≡ false → due enlists (begun p w here c).next ≡ 0
light_begun p w here (call.Wake k) none = light_with w (kept w k) _ (λ f. refl)
light_begun p w here (call.WakeByRef k) none = light_with w (kept w k) _ (λ f. refl)
light_begun p w here (call.Copy k) none = light_with w (kept w k) _ (λ f. refl)
light_begun p w here (call.DropWaker k) none = light_with w (kept w k) _ (λ f. refl)
light_begun p w here call.Keep none = light_with w (future_of here) _ (λ f. refl)
light_begun p w here call.WakeSelf none = light_with w (future_of here) _ (λ f. refl)
light_begun p w here (call.PollRun r b) none = absurd cc
light_begun p w here (call.DropRun r) none = light_going (run_of w r).stage r
light_begun p w here c none = refl

not_dropped : (b : Bool) → not b ≡ true → b ≡ false
not_dropped false is = refl
not_dropped true is = absurd cc

-- where it rests, the queue has come into the list, or it has gone from there

module _ (p : ℕ) (below : List Op) (under : is_resting below ≡ true) where
  enlisted : (w : World) (x : RunPoll) (hints : List Hint) → (run_of w x.run).stage ≡ New
      → is_resting (alone p hints (done w (op.List (list_op.LockWrite (section.Register x)) ∷ below))).next ≡ true
      → (alone p hints (done w (op.List (list_op.LockWrite (section.Register x)) ∷ below))).world.listed ≡ w.listed ++ x.run ∷ []
  enlisted w x [] is rests = absurd cc
  enlisted w x (g ∷ []) is rests = absurd cc
  enlisted w x (g ∷ h ∷ hs) is rests =
      let v : World = record w { lock = record w.lock { writing = true } } in
      alone_lists p hs (registered (run_of v x.run).stage v x.run) (op.List list_op.UnlockWrite ∷ op.User (user_op.PollOwn x) ∷ below)
      refl
      ∙ ap (λ t. (registered t v x.run).listed) is

  unlisted_so : (w : World) (r : ℕ) (a : Reply) (hints : List Hint)
      → is_resting (alone p hints (done w (op.List (list_op.LockWrite (section.Unregister r a)) ∷ below))).next ≡ true
      → (alone p hints (done w (op.List (list_op.LockWrite (section.Unregister r a)) ∷ below))).world.listed ≡ world.without r w.listed
  unlisted_so w r a [] rests = absurd cc
  unlisted_so w r a (g ∷ []) rests = absurd cc
  unlisted_so w r a (g ∷ h ∷ hs) rests =
      let v : World = record w { lock = record w.lock { writing = true } } in
      alone_lists p hs (unregistered v r) (op.List list_op.UnlockWrite ∷ op.Run (run_op.Reschedule r a) ∷ below)
      (omega (arith, due_resting enlists below under))

module _ (s : Machine) (reached : Reached s) (p : ℕ) (q : Plain Output Waker) (stands : StandsAlike (standing s p) q) (new : Machine) where
  abbrev order : List ℕ
  order = s.world.listed

  abbrev below : List Op
  below = reverse (stack s p)

  under : is_resting below ≡ true
  under = rests_alike (standing s p) q stands

  abbrev Orders : plain.Call Output Waker → Type 0
  Orders x = new.world.listed ≡ order_by x q order

  began : (c : Call) (ts : List Step) → p < length s.parties → rests_after p ts (after s (Begin p c)) ≡ true
      → run_all (Begin p c ∷ ts) s ≡ Ok new → (want : List ℕ)
      → ((hints : List Hint) → let d = upon below (begins_alike p (mine (top (stack s p))) c s.world) in
      is_resting (alone p hints d).next ≡ true → (alone p hints d).world.listed ≡ want)
      → new.world.listed ≡ want
  began c ts there rests made want leads =
      begun_leads_of (λ w os. Unit {0}) (λ s. Unit {0}) walks p (λ e. e.world.listed ≡ want) new tt c ts s
      reached there (λ hints all over. leads hints over) rests made

  -- the list stays
  still : (c : Call) (ts : List Step) → p < length s.parties → rests_after p ts (after s (Begin p c)) ≡ true
      → run_all (Begin p c ∷ ts) s ≡ Ok new → polls_run c ≡ false → new.world.listed ≡ order
  still c ts there rests made none =
      let w = log s.world (event.CallBegun p c) in
      let here = mine (top (stack s p)) in
      began c ts there rests made order
      (λ hints over. alone_lists p hints (begun p w here c).world ((begun p w here c).next ++ below)
      (due_to_append calls_user enlists (begun p w here c).next below (light_begun p w here c none) (due_resting enlists below under))
      ∙ begins_list p w here c)

  -- a run is polled, which lives
  run_polled : (r : ℕ) (b : By) (ts : List Step) → p < length s.parties → rests_after p ts (after s (Begin p (call.PollRun r b))) ≡ true
      → run_all (Begin p (call.PollRun r b) ∷ ts) s ≡ Ok new → owes below ≡ false → (run_of s.world r).dropped ≡ false
      → Orders (plain.PollRun r (waker_of (mine (top (stack s p))) b))
  run_polled r b ts there rests made even lives = by (run_of s.world r).stage refl
    where
      a : Waker
      a = waker_of (mine (top (stack s p))) b

      w : World
      w = log s.world (event.CallBegun p (call.PollRun r b))

      v : World
      v = log w (event.RunPolled p r)

      x : RunPoll
      x = record { run = r; waker = a; poll = length w.trace }

      follows : Follows s.world q
      follows = follows_here (standing s p) q stands even

      is_over : (t : Stage) → (run_of s.world r).stage ≡ t
          → or (slice_get q.runs r) (λ run. run.is_over) true ≡
          (run_view (record (run_of s.world r) { dropped = false; stage = t })).is_over
      is_over t is =
          over_is s.world.runs q.runs follows.runs r
          ∙ (ap (λ d. (run_view (record (run_of s.world r) { dropped = d })).is_over) lives
          ∙ ap (λ t. (run_view (record (run_of s.world r) { dropped = false; stage = t })).is_over) is)

      many : (t : Stage) → (run_of s.world r).stage ≡ t → times r order ≡ is_listed t
      many t is = listed-here s r reached ∙ ap is_listed is

      came : (t : Stage) → (run_of s.world r).stage ≡ t → (want : List ℕ)
          → ((hints : List Hint) → is_resting (alone p hints (done v (poll_run t x ++ below))).next ≡ true
          → (alone p hints (done v (poll_run t x ++ below))).world.listed ≡ want)
          → new.world.listed ≡ want
      came t is want leads =
          began (call.PollRun r b) ts there rests made want
          (subst
          (λ t. (hints : List Hint) → is_resting (alone p hints (done v (poll_run t x ++ below))).next ≡ true
          → (alone p hints (done v (poll_run t x ++ below))).world.listed ≡ want)
          (sym is) leads)

      by : (t : Stage) → (run_of s.world r).stage ≡ t → Orders (plain.PollRun r a)
      by New is =
          came New is (order ++ r ∷ []) (λ hints over. enlisted p below under v x hints is over)
          ∙ (ap (λ b. if b then order else order ++ r ∷ []) (sym (none_among r order (many New is)))
          ∙ ap (λ b. if b then order else with_run r order) (sym (is_over New is)))
      by Listed is =
          came Listed is order (λ hints over. alone_lists p hints v (op.User (user_op.PollOwn x) ∷ below) refl)
          ∙ (ap (λ b. if b then order else order ++ r ∷ []) (sym (one_among r order (omega (arith, many Listed is))))
          ∙ ap (λ b. if b then order else with_run r order) (sym (is_over Listed is)))
      by Ended is =
          came Ended is order
          (λ hints over. alone_lists p hints v (op.End reply.Finished (hold.Run r) ∷ below)
          (omega (arith, due_resting enlists below under)))
          ∙ ap (λ b. if b then order else with_run r order) (sym (is_over Ended is))

  by_call : (c : Call) (ts : List Step) (x : plain.Call Output Waker) → IsCallIn (mine (top (stack s p))) s.world c x
      → p < length s.parties → rests_after p ts (after s (Begin p c)) ≡ true → run_all (Begin p c ∷ ts) s ≡ Ok new
      → may_begin_in below c ≡ true → Orders x
  by_call c ts x (within.poll_run r b) there rests made none =
      run_polled r b ts there rests made (owes_none (owes below) (lets_begin below) none)
      (lives_of (may_begin s p c (run-first (Begin p c) ts s new made).0))
    where
      lives_of : begin_refusal s.world s.parties (top (stack s p)) (call.PollRun r b) ≡ None → (run_of s.world r).dropped ≡ false
      lives_of may =
          let has = (none_refused s.world s.parties (top (stack s p)) (call.PollRun r b) may).1 in
          not_dropped (run_of s.world r).dropped
          (first-true (is_there (run_of s.world r)) (is_unused (running_of r) s.parties)
          (first-true (has_run s.world s.parties r) (is_known (top (stack s p)) b) has))
  by_call c ts x is there rests made none = still c ts there rests made refl

  -- user code ends
  module _ (u : UserEnd) (ts : List Step) (there : p < length s.parties) (rests : rests_after p ts (after s (Answer p u)) ≡ true)
      (made : run_all (Answer p u ∷ ts) s ≡ Ok new) where
    may : refusal s (Answer p u) ≡ None
    may = (run-first (Answer p u) ts s new made).0

    accepted : (o : Op) (os : List Op) → below ≡ o ∷ os → accepts o u ≡ true
    accepted o os is =
        passed (accepts o u) WrongAnswer None
        (sym (ap (λ t. answer_refusal t u) (top_of (stack s p) o os is).0) ∙ (sym (refusal-there s (Answer p u) there) ∙ may))

    leads : (want : List ℕ) (o : Op) (os : List Op) → below ≡ o ∷ os
        → ((hints : List Hint) → let d = done (react p o u s.world).world ((react p o u s.world).next ++ os) in
        is_resting (alone p hints d).next ≡ true → (alone p hints d).world.listed ≡ want)
        → new.world.listed ≡ want
    leads want o os is so =
        answer_leads_of (λ w os. Unit {0}) (λ s. Unit {0}) walks p (λ e. e.world.listed ≡ want) new tt u o os ts s reached there is
        (λ hints all over. so hints over) rests made

    lightly : (os : List Op) → below ≡ os → IsLight os → new.world.listed ≡ order
    lightly [] is so = absurd (no_answer s p there u is may)
    lightly (o ∷ os) is so =
        leads order o os is
        (λ hints over. alone_lists p hints (react p o u s.world).world ((react p o u s.world).next ++ os)
        (so u (accepted o os is) p s.world)
        ∙ reacts_list p o u s.world)

    -- that of the drop of a run's own future, or another
    ended : (want : List ℕ) → (drops_a_run q.inside ≡ false → want ≡ order)
        → ((r : ℕ) (x : state.Answer Output) (o : Op) (os : List Op) (codes : List (Code Output Waker))
        → below ≡ op.User (user_op.DropOwn r) ∷ o ∷ os → q.inside ≡ DropOwn r x ∷ codes → Unlists r o → is_resting os ≡ true
        → new.world.listed ≡ want)
        → new.world.listed ≡ want
    ended want kept gone = by below refl q.inside refl (alike_ends (standing s p) q stands)
      where
        by : (os : List Op) → below ≡ os → (codes : List (Code Output Waker)) → q.inside ≡ codes → Ends os codes
            → new.world.listed ≡ want
        by os is codes in_so (light xs ys none so) = lightly os is so ∙ sym (kept (ap drops_a_run in_so ∙ none))
        by os is codes in_so (drops_run r x o under_it ys unlists rest) = gone r x o under_it ys is in_so unlists rest

  off : (r : ℕ) (os : List Op) → p < length s.parties
      → below ≡ op.User (user_op.DropOwn r) ∷ op.Run (run_op.Reschedule r reply.Done) ∷ os → times r order ≡ 0
  off r os there is =
      let xs = op.User (user_op.DropOwn r) ∷ op.Run (run_op.Reschedule r reply.Done) ∷ os in
      listed-here s r reached
      ∙ off_here s reached r (omega (arith, whole s p reached there xs is (reschedules r), same_self r))

  polled : (z : Answered) (ts : List Step) → p < length s.parties → rests_after p ts (after s (Answer p (Polled z))) ≡ true
      → run_all (Answer p (Polled z) ∷ ts) s ≡ Ok new → new.world.listed ≡ order
  polled z ts there rests made =
      ended (Polled z) ts there rests made order (λ none. refl)
      (λ r x o os codes is in_so unlists rest.
      absurd (clash refl (accepted (Polled z) ts there rests made (op.User (user_op.DropOwn r)) (o ∷ os) is)))

  over : (ts : List Step) → p < length s.parties → rests_after p ts (after s (Answer p Over)) ≡ true
      → run_all (Answer p Over ∷ ts) s ≡ Ok new → new.world.listed ≡ order_in q.inside order
  over ts there rests made =
      ended Over ts there rests made (order_in q.inside order) (order_kept q.inside order)
      (λ r x o os codes is in_so unlists rest.
      gone r x o os codes is unlists rest ∙ sym (ap (λ codes. order_in codes order) in_so))
    where
      gone : (r : ℕ) (x : state.Answer Output) (o : Op) (os : List Op) (codes : List (Code Output Waker))
          → below ≡ op.User (user_op.DropOwn r) ∷ o ∷ os → Unlists r o → is_resting os ≡ true
          → new.world.listed ≡ without (λ k. r == k) order
      gone r x o os codes is (goes a) rest =
          leads Over ts there rests made (without (λ k. r == k) order) (op.User (user_op.DropOwn r)) (o ∷ os) is
          (λ hints resting. unlisted_so p os rest s.world r a hints resting ∙ without_same r order)
      gone r x o os codes is isnt_there rest =
          leads Over ts there rests made (without (λ k. r == k) order) (op.User (user_op.DropOwn r)) (o ∷ os) is
          (λ hints resting.
          alone_lists p hints s.world (op.Run (run_op.Reschedule r reply.Done) ∷ os) (omega (arith, due_resting enlists os rest))
          ∙ sym (without_none r order (none_among r order (off r os there is))))

  there_of : (t : Step) (ts : List Step) → party_of t ≡ p → run_all (t ∷ ts) s ≡ Ok new → p < length s.parties
  there_of t ts its made =
      subst (λ n. n < length s.parties) its
      (is_within (party_of t) (length s.parties)
      (passed (nat_lt (party_of t) (length s.parties)) NoSuch (part_refusal s.world s.parties (stack s (party_of t)) t)
      (run-first t ts s new made).0))

  one : (t : Step) (ts : List Step) (x : plain.Call Output Waker) → IsMade s p t x → rests_after p ts (after s t) ≡ true
      → run_all (t ∷ ts) s ≡ Ok new → is_on_way below t ≡ true → Orders x
  one t ts x (within.begins c y is) rests made on =
      by_call c ts y is (there_of t ts refl made) rests made (both_true (may_stand_in c) (may_begin_in below c) on).1
  one t ts x within.pends rests made on = polled Pending ts (there_of t ts refl made) rests made
  one t ts x within.gives rests made on = polled Ready ts (there_of t ts refl made) rests made
  one t ts x within.ends rests made on = over ts (there_of t ts refl made) rests made

pub act_orders : (s : Machine) → Reached s → (q : Plain Output Waker) (a : Act) (x : plain.Call Output Waker)
    → StandsAlike (standing s a.party) q → IsAct s a → is_on_way (reverse (stack s a.party)) a.first ≡ true → IsMade s a.party a.first x
    → a.left.world.listed ≡ order_by x q s.world.listed
act_orders s reached q a x stands is on made = one s reached a.party q stands a.left a.first a.steps x made is.rests is.made on
