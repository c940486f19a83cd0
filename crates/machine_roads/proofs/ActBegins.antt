-- A call that begins where a party stands in code of calls one inside another, or does nothing: where it rests first, both stand alike.
use Rattle.std.proofs.Common.{◌==◌, ◌||◌}
use Rattle.std.proofs.Common.{◌≡◌, ℕ, suc, ◌<◌, ◌≤◌, ◌&&◌, not, Bool, true, false, List, [], ◌∷◌, ◌++◌, length, Option, Some, None}
use Rattle.std.proofs.Common.{is_some as is_there, slice_get, if◌then◌else◌, refl, sym, ap, subst, ◌∙◌, arith}
use Rattle.std.specs.Prelude.{reverse}
use Rattle.executor_parts.specs.Marks.{first_of}
use Rattle.executor_model.specs.declared.step.Hint.{Hint}
use Rattle.executor_model.specs.declared.call.By.{By}
use Rattle.executor_model.specs.declared.call.Call.{Call}
use Rattle.executor_model.specs.declared.call.Call.TheVariants as call
use Rattle.executor_model.specs.declared.call.Reply.TheVariants as reply
use Rattle.executor_model.specs.declared.event.Event.TheVariants as event
use Rattle.executor_model.specs.declared.op.Hold.TheVariants as hold
use Rattle.executor_model.specs.declared.op.ListOp.TheVariants as list_op
use Rattle.executor_model.specs.declared.op.Op.{Op}
use Rattle.executor_model.specs.declared.op.Op.TheVariants as op
use Rattle.executor_model.specs.declared.op.RunOp.TheVariants as run_op
use Rattle.executor_model.specs.declared.op.Section.TheVariants as section
use Rattle.executor_model.specs.declared.op.UserOp.TheVariants as user_op
use Rattle.executor_model.specs.declared.op.Waker.{Waker}
use Rattle.executor_model.specs.declared.step.Step.TheVariants.{Begin}
use Rattle.executor_model.specs.Rows.{lending_of, running_of}
use Rattle.executor_model.specs.Steps.{Machine, begin_refusal, future_of, has_all, is_some, is_unused, kept, mine, stack, top, waker_of}
use Rattle.executor_model.specs.Steps.{is_known, is_there as is_in_use}
use Rattle.executor_model.specs.World.{Done, Ended as RunEnded, done, log, run_of, task}
use Rattle.executor_model.specs.SleepersAgree.{sleeps}
use Rattle.executor_model.specs.Weights.{weigh_all}
use Rattle.executor_model.proofs.Steps.Reached.{Reached}
use Rattle.plain_scheduler.specs.State.{AtOnce, Choice, Finished, Granted, Plain, PollOwn, Refusal, Taker, Tick, Try}
use Rattle.plain_scheduler.specs.Moves as plain
use Rattle.plain_scheduler.specs.Lists.{or}
use Rattle.plain_scheduler.specs.Moves.{answers, enters, tell}
use Rattle.plain_scheduler.specs.Calls as plain_calls
use Rattle.plain_scheduler.specs.Calls.{does, is_granted}
use Rattle.machine_roads.specs.View.{Output, wakes}
use Rattle.machine_roads.specs.Road.{Follows}
use Rattle.machine_roads.specs.Alone.{alone, is_resting}
use Rattle.machine_roads.specs.Alike.{begins, refused_first, refuses_first, refuses_second, upon, LeavesAlike}
use Rattle.machine_roads.specs.Course.{IsChosen}
use Rattle.machine_roads.specs.Losing.{StopsLosing, left_of}
use Rattle.machine_roads.specs.Refused.{IsLaterAnew}
use Rattle.machine_roads.specs.Stopped.{Stops}
use Rattle.machine_roads.specs.Within.{GoesOnBy, IsCallIn, Nested, alike, by_tick, by_try, begins as begins_by, losing}
use Rattle.machine_roads.specs.Within.{may_stand_in, takes}
use Rattle.machine_roads.specs.Within.{IsLeaving, going, listed, unlisted, drop_run}
use Rattle.machine_roads.specs.Within.{cancel, copy, detach, drop_handle, drop_tick, is_empty, keep, leak, new_run, new_tick, poll_handle}
use Rattle.machine_roads.specs.Within.{poll_run, poll_tick, polls_own, release, spawn, try_tick, use_waker, wake, wake_self}
use Rattle.machine_roads.proofs.Calling.{cancels, copies_kept, detaches, empty_alike, handle_goes, keeps_own, spawns, uses_alike}
use Rattle.machine_roads.proofs.Calling.{waker_goes, wakes_itself, wakes_kept}
use Rattle.machine_roads.proofs.Cancelling.{cancel_output}
use Rattle.machine_roads.proofs.Counting.{leaves as leaves_list, over_in, some_op}
use Rattle.machine_roads.proofs.Counting.{Alike, Comes as Comes_to, Counted, StandsSo, at_end, comes, in_code, like, makes_counted}
use Rattle.machine_roads.proofs.Exchanging.{loudly}
use Rattle.machine_roads.proofs.Inmost.{rests_in, wakes_none}
use Rattle.machine_roads.proofs.Inside.{cancel_inside, copy_inside, detach_inside, drop_inside, handle_inside, poll_inside}
use Rattle.machine_roads.proofs.Inside.{release_inside, run_inside, spawn_inside, tick_inside, use_inside, wake_inside}
use Rattle.machine_roads.proofs.LaterAnew.{granted_anew}
use Rattle.machine_roads.proofs.Leaking.{leak_inside, leaks}
use Rattle.machine_roads.proofs.Lists.{same_of}
use Rattle.machine_roads.proofs.LoneRuns.{both_true, not_true}
use Rattle.machine_roads.proofs.LoneTicks.{can_poll, owned_by, there_all}
use Rattle.machine_roads.proofs.Losing.{detaches_to_lose, goes_to_lose}
use Rattle.machine_roads.proofs.LyingDown.{polls_tick_so}
use Rattle.machine_roads.proofs.OwnGoes.{Drops, drops_run, in_drop, at_once as goes_at_once}
use Rattle.machine_roads.proofs.OwnPolls.{Polls, at_once, in_own, its_poll, polls_run}
use Rattle.machine_roads.proofs.PollCalls.{polls}
use Rattle.machine_roads.proofs.RunHere.{awake_here}
use Rattle.machine_roads.proofs.RunsBeside.{cancel_runs, copy_runs, detach_runs, drop_runs, handle_runs, leak_runs, poll_runs}
use Rattle.machine_roads.proofs.RunsBeside.{poll_tick_runs}
use Rattle.machine_roads.proofs.RunsBeside.{release_runs, spawn_runs, tick_runs, try_runs, use_runs, wake_runs}
use Rattle.machine_roads.proofs.RunsMade.{makes_run}
use Rattle.machine_roads.proofs.Standing.{stops_so}
use Rattle.machine_roads.proofs.Ticking.{makes_tick, tick_goes}
use Rattle.machine_roads.proofs.Trying.{tries_so, yes}
use Rattle.machine_roads.proofs.Tying.{LeadsSo}
use Rattle.machine_roads.proofs.Seeking.{try_turned}
use Rattle.machine_roads.proofs.Unsearched.{ActsAnyhow, TurnSaid, begun_so, takes_turn, unsaid}

some_kept : (o : Option ℕ) → is_some o ≡ true → (f : ℕ) × (o ≡ Some f)
some_kept (Some f) is = (f, refl)
some_kept None is = absurd cc

-- memory is refused so
abbrev refused_as : Bool → Refusal
refused_as b = elim b [ true ↦ AtOnce | false ↦ Granted ]

granted_as : (b : Bool) → is_granted (refused_as b) ≡ not b
granted_as true = refl
granted_as false = refl

-- what is chosen in an act of this machine, as memory is refused
abbrev pub choice_in : Machine → Plain Output Waker → Refusal → Choice
choice_in s q r =
    record {
      first = first_of s.world.urgent_turns;
      keeps = [];
      robs = 0;
      moves = 0;
      tells = suc (length q.lying);
      refusal = r;
    }

pub more_by_one : (n : ℕ) → n < suc n
more_by_one n = omega arith

pub enough : (n : ℕ) → n ≤ suc n
enough n = omega arith

pub chosen_in : (s : Machine) (q : Plain Output Waker) (r : Refusal) → IsChosen s.world q (choice_in s q r)
chosen_in s q r = record { first = refl; tells = more_by_one (length q.lying) }

module _ (s : Machine) (reached : Reached s) (p : ℕ) (q : Plain Output Waker) (follows : Follows s.world q)
    (nested : Nested (reverse (stack s p)) q.inside) (counted : Counted (reverse (stack s p)) q.runs) where
  abbrev choice : Refusal → Choice
  choice r = choice_in s q r

  abbrev below : List Op
  below = reverse (stack s p)

  abbrev its : Option Op
  its = top (stack s p)

  abbrev here : Option Waker
  here = mine its

  under : is_resting below ≡ true
  under = rests_in below q.inside nested

  many : length q.lying ≤ suc (length q.lying)
  many = enough (length q.lying)

  abbrev Comes : Call → Done → Type 0
  Comes c e = (r : Plain Output Waker) × ActsAnyhow s p (Begin p c) q r e.world × StandsSo e r

  abbrev Leads : Call → Type 0
  Leads c = LeadsSo p (upon below (begins p here c s.world)) (Comes c)

  acts : (c : Call) (x : plain_calls.Call Output Waker) (r : Refusal) → IsCallIn here s.world c x
      → IsLaterAnew (choice r) x q (does wakes (choice r) x q) → (hints : List Hint)
      → TurnSaid here s.world (choice r) q c (alone p hints (upon below (begins p here c s.world))).world
      → ActsAnyhow s p (Begin p c) q (does wakes (choice r) x q) (alone p hints (upon below (begins p here c s.world))).world
  acts c x r is anew hints said = λ start. record {
    choice = choice r;
    made = x;
    chosen = chosen_in s q r;
    is = begins_by c x is;
    so = refl;
    anew = anew;
    chooses = begun_so here s.world (choice r) q p hints c below under x is here said start;
  }

  -- it comes to this
  abbrev to : Call → List Hint → Done
  to c hints = alone p hints (upon below (begins p here c s.world))

  -- a call that comes to no user code
  quick : (c : Call) → takes_turn c ≡ false → (x : plain_calls.Call Output Waker) (r : Refusal) → IsCallIn here s.world c x
      → IsLaterAnew (choice r) x q (does wakes (choice r) x q) → (does wakes (choice r) x q).inside ≡ q.inside → Counted below
      (does wakes (choice r) x q).runs → (hints : List Hint) → (to c hints).next ≡ below
      → Follows (to c hints).world (does wakes (choice r) x q) → Comes c (to c hints)
  quick c off x r is anew inside count hints at leaves =
      let z : Plain Output Waker = does wakes (choice r) x q in (
        z,
        acts c x r is anew hints (unsaid here s.world (choice r) q c off (to c hints).world),
        record {
          alike = alike (subst (λ os. Nested os z.inside) (sym at) (subst (λ codes. Nested below codes) (sym inside) nested)) leaves;
          counted = subst (λ os. Counted os z.runs) (sym at) count;
        },
      )

  -- where no run changes
  stays : (z : Plain Output Waker) → z.runs ≡ q.runs → Counted below z.runs
  stays z runs = subst (Counted below) (sym runs) counted

  plainly : (c : Call) → takes_turn c ≡ false → (x : plain_calls.Call Output Waker) → IsCallIn here s.world c x
      → (does wakes (choice Granted) x q).inside ≡ q.inside → (does wakes (choice Granted) x q).runs ≡ q.runs
      → LeavesAlike p below (begins p here c s.world) (does wakes (choice Granted) x q) → Leads c
  plainly c off x is inside runs leaves hints all rests =
      let e = leaves hints tt all rests in
      quick c off x Granted is (granted_anew q (does wakes (choice Granted) x q) (choice Granted) x refl) inside
      (stays (does wakes (choice Granted) x q) runs)
      hints e.0 e.1

  -- one that takes a future
  take : (c : Call) (x : plain_calls.Call Output Waker) (r : Refusal) → IsCallIn here s.world c x
      → IsLaterAnew (choice r) x q (does wakes (choice r) x q) → (taker : Taker Waker) (final : Op)
      → GoesOnBy taker final → Alike below (final ∷ below) → (hints : List Hint)
      → TurnSaid here s.world (choice r) q c (to c hints).world → (does wakes (choice r) x q).runs ≡ q.runs
      → Stops taker final below q (to c hints) (does wakes (choice r) x q) → Comes c (to c hints)
  take c x r is anew taker final it same hints said runs stops =
      let z : Plain Output Waker = does wakes (choice r) x q in
      let e = to c hints in (
        z,
        acts c x r is anew hints said,
        record {
          alike = alike (takes taker final below e.next q.inside z.inside it nested stops.stopped) stops.follows;
          counted = by (comes taker final below q.inside e.next z.inside stops.stopped);
        },
      )
    where
      z : Plain Output Waker
      z = does wakes (choice r) x q

      e : Done
      e = to c hints

      by : Comes_to final below q.inside e.next z.inside → Counted e.next z.runs
      by (at_end at codes) = subst (λ os. Counted os z.runs) (sym at) (stays z runs)
      by (in_code code) = like (final ∷ below) e.next z.runs code (like below (final ∷ below) z.runs same (stays z runs))

  -- what is nothing to runs is done first
  above : (os : List Op) (e : Done) → e.next ≡ os → Alike below os → (z : Plain Output Waker) → z.runs ≡ q.runs → Counted e.next z.runs
  above os e at same z runs = subst (λ os. Counted os z.runs) (sym at) (like below os z.runs same (stays z runs))

  there : (c : Call) → begin_refusal s.world s.parties its c ≡ None → has_all s.world s.parties its c ≡ true
  there c may = there_all s.world s.parties its c may

  kept_one : (k : ℕ) → (is_some (kept s.world k) && is_unused (lending_of k) s.parties) ≡ true → (f : ℕ) × (kept s.world k ≡ Some f)
  kept_one k is = some_kept (kept s.world k) (both_true (is_some (kept s.world k)) (is_unused (lending_of k) s.parties) is).0

  kept_output : (f : ℕ) → (plain.task f (plain_calls.cancel wakes (choice Granted) f q)).output ≡ (plain.task f q).output
  kept_output f = cancel_output (tell wakes (choice Granted)) (loudly 0 (done s.world []) refl (choice Granted)).outputs f q

  -- in the drop of an output
  lossy : (f : ℕ) (e : Done) (z : Plain Output Waker) → z.runs ≡ q.runs → StopsLosing f below q e z → StandsSo e z
  lossy f e z runs stops = record {
    alike = losing f [] below q.inside nested (record {
      left = stops.left;
      inside = stops.inside;
      losing = record {
        shut = (record { known = stops.losing.known; closed = stops.losing.closed }, refl, tt);
        follows = stops.losing.follows;
      };
    });
    counted =
        above (op.User (user_op.DropOutput f) ∷ (left_of f ++ below)) e stops.left (record { last = λ r. refl; left = λ r. refl }) z runs;
  }

  -- in the drop of the own future of a run that goes
  in_going : (r : ℕ) (rest : Op) → IsLeaving r rest → (e : Done) → e.next ≡ op.User (user_op.DropOwn r) ∷ rest ∷ below
      → (z : Plain Output Waker) → z.runs ≡ q.runs → over_in r q.runs ≡ false → Counted e.next z.runs
  in_going r rest unlisted e at z runs unover =
      above (op.User (user_op.DropOwn r) ∷ op.Run (run_op.Reschedule r reply.Done) ∷ below) e at
      (record { last = λ r. refl; left = λ r. refl }) z runs
  in_going r rest listed e at z runs unover =
      subst (λ os. Counted os z.runs) (sym at)
      (subst (Counted (op.User (user_op.DropOwn r) ∷ op.List (list_op.LockWrite (section.Unregister r reply.Done)) ∷ below)) (sym runs)
      (record { taken = counted.taken; going = λ k is. by k (k == r) refl is }))
    where
      by : (k : ℕ) (b : Bool) → (k == r) ≡ b → ((k == r) || some_op (leaves_list k) below) ≡ true → over_in k q.runs ≡ false
      by k true here is = ap (λ n. over_in n q.runs) (same_of k r here) ∙ unover
      by k false apart is = counted.going k (ap (λ b. b || some_op (leaves_list k) below) (sym apart) ∙ is)

  -- a handle that goes
  detached : (f : ℕ) (o : Option Output) → (plain.task f q).output ≡ o → Leads (call.Detach f)
  detached f None off =
      plainly (call.Detach f) refl (plain_calls.Detach f) (detach f) (detach_inside (choice Granted) q f None off)
      (detach_runs (choice Granted) q f)
      (detaches p below under here s.world q follows (choice Granted) f off many)
  detached f (Some v) some = λ hints all rests.
      let x : plain_calls.Call Output Waker = plain_calls.Detach f in (
        does wakes (choice Granted) x q,
        acts (call.Detach f) x Granted (detach f) tt hints tt,
        lossy f (alone p hints (upon below (begins p here (call.Detach f) s.world))) (does wakes (choice Granted) x q)
            (detach_runs (choice Granted) q f)
            (detaches_to_lose p here below s.world q under follows (choice Granted) f (ap (λ o. is_there o) some) hints all rests),
      )

  gone : (f : ℕ) (o : Option Output) → (plain.task f q).output ≡ o → Leads (call.DropHandle f)
  gone f None off =
      plainly (call.DropHandle f) refl (plain_calls.DropHandle f) (drop_handle f)
      (handle_inside (choice Granted) q f None (kept_output f ∙ off)) (handle_runs (choice Granted) q f)
      (handle_goes p below under here s.world q follows (choice Granted) f off many)
  gone f (Some v) some = λ hints all rests.
      let x : plain_calls.Call Output Waker = plain_calls.DropHandle f in (
        does wakes (choice Granted) x q,
        acts (call.DropHandle f) x Granted (drop_handle f) tt hints tt,
        lossy f (alone p hints (upon below (begins p here (call.DropHandle f) s.world))) (does wakes (choice Granted) x q)
            (handle_runs (choice Granted) q f)
            (goes_to_lose p here below s.world q under follows (choice Granted) f (ap (λ o. is_there o) some) hints all rests),
      )

  -- each call
  pub one_begins : (c : Call) → may_stand_in c ≡ true → begin_refusal s.world s.parties its c ≡ None → Leads c
  one_begins (call.Spawn m) on may = λ hints all rests.
      let b = refused_first hints in
      let r = refused_as b in
      let e = spawns p below under here s.world q follows (choice r) m many hints (granted_as b) all rests in
      quick (call.Spawn m) refl (plain_calls.Spawn m) r (spawn m) tt (spawn_inside (choice r) q m)
      (stays (does wakes (choice r) (plain_calls.Spawn m) q) (spawn_runs (choice r) q m))
      hints e.0 e.1
  one_begins call.TryTick on may = λ hints all rests.
      let e = alone p hints (upon below (begins p here call.TryTick s.world)) in
      let x : plain_calls.Call Output Waker = plain_calls.TryTick in
      take call.TryTick x Granted try_tick tt Try yes by_try (record { last = λ r. refl; left = λ r. refl }) hints
      (try_turned p hints (log s.world (event.CallBegun p call.TryTick)) below under rests)
      (try_runs (choice Granted) q)
      (stops_so Try yes below q e (does wakes (choice Granted) x q)
      (tries_so p below s.world q under follows (choice Granted) refl many hints all rests))
  one_begins call.IsEmpty on may =
      plainly call.IsEmpty refl plain_calls.IsEmpty is_empty refl refl (empty_alike p below under here s.world q follows (choice Granted))
  one_begins (call.Wake k) on may =
      let f = kept_one k (there (call.Wake k) may) in
      plainly (call.Wake k) refl (plain_calls.Use f.0) (use_waker k f.0 f.1) (use_inside (choice Granted) q f.0)
      (use_runs (choice Granted) q f.0)
      (uses_alike p below under here s.world q follows (choice Granted) k f.0 f.1 many)
  one_begins (call.WakeByRef k) on may =
      let f = some_kept (kept s.world k) (there (call.WakeByRef k) may) in
      plainly (call.WakeByRef k) refl (plain_calls.Wake f.0) (wake k f.0 f.1) (wake_inside (choice Granted) q f.0)
      (wake_runs (choice Granted) q f.0)
      (wakes_kept p below under here s.world q follows (choice Granted) k f.0 f.1 many)
  one_begins (call.Copy k) on may = λ hints all rests.
      let f = some_kept (kept s.world k) (there (call.Copy k) may) in
      let b = refuses_first hints (task s.world f.0) in
      let r = refused_as b in
      let e = copies_kept p below under here s.world q follows (choice r) k f.0 f.1 hints (granted_as b) all rests in
      quick (call.Copy k) refl (plain_calls.Copy f.0) r (copy k f.0 f.1) tt (copy_inside (choice r) q f.0)
      (stays (does wakes (choice r) (plain_calls.Copy f.0) q) (copy_runs (choice r) q f.0))
      hints e.0 e.1
  one_begins (call.DropWaker k) on may =
      let f = kept_one k (there (call.DropWaker k) may) in
      plainly (call.DropWaker k) refl (plain_calls.Release f.0) (release k f.0 f.1) (release_inside (choice Granted) q f.0)
      (release_runs (choice Granted) q f.0)
      (waker_goes p below under here s.world q follows (choice Granted) k f.0 f.1 many)
  one_begins call.Keep on may = λ hints all rests.
      let f = some_kept (future_of here) (there call.Keep may) in
      let b = refuses_first hints (task s.world f.0) in
      let r = refused_as b in
      let e = keeps_own p below under here s.world q follows (choice r) f.0 f.1 hints (granted_as b) all rests in
      quick call.Keep refl (plain_calls.Copy f.0) r (keep f.0 f.1) tt (copy_inside (choice r) q f.0)
      (stays (does wakes (choice r) (plain_calls.Copy f.0) q) (copy_runs (choice r) q f.0))
      hints e.0 e.1
  one_begins call.WakeSelf on may =
      let f = some_kept (future_of here) (there call.WakeSelf may) in
      plainly call.WakeSelf refl (plain_calls.Wake f.0) (wake_self f.0 f.1) (wake_inside (choice Granted) q f.0)
      (wake_runs (choice Granted) q f.0)
      (wakes_itself p below under here s.world q follows (choice Granted) f.0 f.1 many)
  one_begins (call.PollHandle f b) on may = λ hints all rests.
      let a = waker_of here b in
      let x = refuses_second hints s.world a in
      let r = refused_as x in
      let e = polls p here below s.world q under follows (choice r) f b many hints (λ waits. granted_as x) all rests in
      quick (call.PollHandle f b) refl (plain_calls.PollHandle f a) r (poll_handle f b) tt (poll_inside (choice r) q f a)
      (stays (does wakes (choice r) (plain_calls.PollHandle f a) q) (poll_runs (choice r) q f a))
      hints e.0 e.1
  one_begins (call.Cancel f) on may =
      plainly (call.Cancel f) refl (plain_calls.Cancel f) (cancel f) (cancel_inside (choice Granted) q f) (cancel_runs (choice Granted) q f)
      (cancels p below under here s.world q follows (choice Granted) f many)
  one_begins (call.Detach f) on may = detached f (plain.task f q).output refl
  one_begins (call.DropHandle f) on may = gone f (plain.task f q).output refl
  one_begins call.NewTick on may = λ hints all rests.
      let b = refused_first hints in
      let r = refused_as b in
      let e = makes_tick p here below s.world q under follows (choice r) hints (granted_as b) all rests in
      quick call.NewTick refl plain_calls.NewTick r new_tick tt (tick_inside (choice r) q)
      (stays (does wakes (choice r) (plain_calls.NewTick) q) (tick_runs (choice r) q))
      hints e.0 e.1
  one_begins (call.PollTick t b) on may = λ hints all rests.
      let a = waker_of here b in
      let final = op.End reply.Ready (hold.Tick t) in
      let x : plain_calls.Call Output Waker = plain_calls.PollTick t a in
      let e = alone p hints (upon below (begins p here (call.PollTick t b) s.world)) in
      let so =
      polls_tick_so p here below s.world q under follows (choice Granted) t b refl (more_by_one (length q.lying))
      (can_poll s reached p t b may) hints all rests in
      take (call.PollTick t b) x so.0 (poll_tick t b) so.2 (Tick t a) final (by_tick t a) (record { last = λ r. refl; left = λ r. refl })
      hints so.3.turn
      (poll_tick_runs (choice so.0) q t a)
      (stops_so (Tick t a) final below q e (does wakes (choice so.0) x q) so.1)
  one_begins (call.DropTick t) on may =
      plainly (call.DropTick t) refl (plain_calls.DropTick t) (drop_tick t) (drop_inside (choice Granted) q t)
      (drop_runs (choice Granted) q t)
      (tick_goes p here below s.world q under follows (choice Granted) t many)
  one_begins call.NewRun on may = λ hints all rests.
      let e = makes_run p here below s.world q under follows (choice Granted) hints all rests in
      quick call.NewRun refl plain_calls.NewRun e.0 new_run tt (run_inside (choice e.0) q) (makes_counted below (choice e.0) q counted)
      hints e.1 e.2
  one_begins (call.PollRun r b) on may = λ hints all rests.
      let a = waker_of here b in
      let x : plain_calls.Call Output Waker = plain_calls.PollRun r a in
      let e = alone p hints (upon below (begins p here (call.PollRun r b) s.world)) in
      by r b hints (polls_run p here below under s.world q follows (choice Granted) r b (undropped r b (there (call.PollRun r b) may)) hints
      all rests)
    where
      undropped : (r : ℕ) (b : By) → has_all s.world s.parties its (call.PollRun r b) ≡ true → (run_of s.world r).dropped ≡ false
      undropped r b has =
          not_true (run_of s.world r).dropped
          (both_true (is_in_use (run_of s.world r)) (is_unused (running_of r) s.parties)
          (both_true (is_in_use (run_of s.world r) && is_unused (running_of r) s.parties) (is_known its b) has).0).0

      polled_runs : (r : ℕ) (a : Waker) → (does wakes (choice Granted) (plain_calls.PollRun r a) q).runs ≡ q.runs
      polled_runs r a = whether (or (slice_get q.runs r) (λ run. run.is_over) true)
        where
          whether : (o : Bool) → (if o then answers Finished q else enters (PollOwn r a) q).runs ≡ q.runs
          whether true = refl
          whether false = refl

      by : (r : ℕ) (b : By) (hints : List Hint)
          → Polls p here below under s.world q follows (choice Granted) r b (to (call.PollRun r b) hints)
          → Comes (call.PollRun r b) (to (call.PollRun r b) hints)
      by r b hints (at_once next inside leaves) =
          quick (call.PollRun r b) refl (plain_calls.PollRun r (waker_of here b)) Granted (poll_run r b) tt inside
          (stays (does wakes (choice Granted) (plain_calls.PollRun r (waker_of here b)) q) (polled_runs r (waker_of here b))) hints
          next leaves
      by r b hints (in_own next inside leaves) =
          let e = to (call.PollRun r b) hints in
          let x : plain_calls.Call Output Waker = plain_calls.PollRun r (waker_of here b) in
          let z : Plain Output Waker = does wakes (choice Granted) x q in (
            z,
            acts (call.PollRun r b) x Granted (poll_run r b) tt hints tt,
            record {
              alike = alike
                  (subst (λ os. Nested os z.inside) (sym next)
                  (subst (λ codes. Nested (op.User (user_op.PollOwn (its_poll p here below under s.world q follows (choice Granted) r b))
                  ∷ below) codes)
                  (sym inside)
                  (polls_own (its_poll p here below under s.world q follows (choice Granted) r b) below q.inside nested)))
                  leaves;
              counted =
                  above (op.User (user_op.PollOwn (its_poll p here below under s.world q follows (choice Granted) r b)) ∷ below) e next
                  (record { last = λ r. refl; left = λ r. refl }) z (polled_runs r (waker_of here b));
            },
          )
  one_begins (call.DropRun r) on may = λ hints all rests.
      let two =
      both_true (is_in_use (run_of s.world r)) (is_unused (running_of r) s.parties) (there (call.DropRun r) may) in
      let e = alone p hints (upon below (begins p here (call.DropRun r) s.world)) in
      by r (not_true (run_of s.world r).dropped two.0)
      (awake_here s reached r (same_of (weigh_all (running_of r) s.parties) 0 two.1)) hints
      (drops_run p here below under s.world q follows (choice Granted) many r (not_true (run_of s.world r).dropped two.0)
      (awake_here s reached r (same_of (weigh_all (running_of r) s.parties) 0 two.1)) hints all rests)
    where
      by : (r : ℕ) (unended : (run_of s.world r).dropped ≡ false)
          (awake : (run_of s.world r).stage ≡ RunEnded → sleeps (run_of s.world r).place ≡ 0) (hints : List Hint)
          → Drops p here below under s.world q follows (choice Granted) many r unended awake (to (call.DropRun r) hints)
          → Comes (call.DropRun r) (to (call.DropRun r) hints)
      by r unended awake hints (goes_at_once next inside runs leaves) =
          let z : Plain Output Waker = does wakes (choice Granted) (plain_calls.DropRun r) q in
          quick (call.DropRun r) refl (plain_calls.DropRun r) Granted (drop_run r) tt inside (stays z runs) hints next leaves
      by r unended awake hints (in_drop unover runs stops) =
          let x : plain_calls.Call Output Waker = plain_calls.DropRun r in
          let e = to (call.DropRun r) hints in
          let z : Plain Output Waker = does wakes (choice Granted) x q in (
            z,
            acts (call.DropRun r) x Granted (drop_run r) tt hints tt,
            record {
              alike = going r [] below q.inside nested stops;
              counted = in_going r stops.rest stops.leaving e stops.left z runs
                  unover;
            },
          )
  one_begins call.Leak on may =
      plainly call.Leak refl plain_calls.Leak leak (leak_inside (choice Granted) q) (leak_runs (choice Granted) q)
      (leaks p here below s.world q under follows (choice Granted)
      (sym follows.kind ∙ owned_by s.world s.parties its call.Leak refl refl may) (wakes_none below q.inside nested) many)
  one_begins c on may = absurd cc
