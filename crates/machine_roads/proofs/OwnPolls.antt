-- A poll of a run, made where a party does nothing or stands in user code: it is answered where the run is over, or comes to the poll of
-- the run's own future. And the end of that with an output, and of that future's drop.
use Rattle.std.proofs.Common.{◌≡◌, ℕ, ◌≤◌, ◌++◌, ◌||◌, Bool, true, false, List, ◌∷◌, length, Option, if◌then◌else◌, refl, sym, ap, subst}
use Rattle.std.proofs.Common.{◌∙◌}
use Rattle.executor_model.specs.declared.call.By.{By}
use Rattle.executor_model.specs.declared.call.Call.TheVariants as call
use Rattle.executor_model.specs.declared.call.Reply.TheVariants as reply
use Rattle.executor_model.specs.declared.event.Event.TheVariants as event
use Rattle.executor_model.specs.declared.op.Hold.TheVariants as hold
use Rattle.executor_model.specs.declared.op.ListOp.TheVariants as list_op
use Rattle.executor_model.specs.declared.op.Op.{Op}
use Rattle.executor_model.specs.declared.op.Op.TheVariants as op
use Rattle.executor_model.specs.declared.op.RunPoll.{RunPoll}
use Rattle.executor_model.specs.declared.op.Section.TheVariants as section
use Rattle.executor_model.specs.declared.op.UserOp.TheVariants as user_op
use Rattle.executor_model.specs.declared.op.Waker.{Waker}
use Rattle.executor_model.specs.declared.step.Hint.{Hint}
use Rattle.executor_model.specs.ActsOfRuns.{registered}
use Rattle.executor_model.specs.Steps.{poll_run, waker_of}
use Rattle.executor_model.specs.World.{Done, Ended as RunEnded, Listed, New, Stage, World, done, log, run_of}
use Rattle.plain_scheduler.specs.State.{Choice, Finished, Plain, PollOwn, Ready}
use Rattle.plain_scheduler.specs.Moves.{answers, enters}
use Rattle.plain_scheduler.specs.Calls.{does, gone, PollRun}
use Rattle.machine_roads.specs.View.{Output, wakes}
use Rattle.machine_roads.specs.Road.{Follows, is_ended}
use Rattle.machine_roads.specs.Alone.{alone, is_resting, HasAll}
use Rattle.machine_roads.specs.Alike.{begins, upon}
use Rattle.machine_roads.proofs.Calling.{ends}
use Rattle.machine_roads.proofs.Changing.{logs}
use Rattle.machine_roads.proofs.LonePolls.{or_ended, registered_so}
use Rattle.machine_roads.proofs.Runs.{changed, ended_run, over_alike, over_is}
use Rattle.machine_roads.proofs.RunsGone.{left_inside, left_is, unlists}
use Rattle.machine_roads.proofs.Stepping.{Way, next}
use Rattle.machine_roads.proofs.Trying.{stops_at}
use Rattle.machine_roads.proofs.Unseen.{locked, stands_in}

module _ (p : ℕ) (here : Option Waker) (below : List Op) (under : is_resting below ≡ true) (w : World) (q : Plain Output Waker)
    (follows : Follows w q) (c : Choice) (r : ℕ) (b : By) where
  abbrev a : Waker
  a = waker_of here b

  abbrev begun : World
  begun = log w (event.CallBegun p (call.PollRun r b))

  -- the poll of this run
  abbrev pub its_poll : RunPoll
  its_poll = record { run = r; waker = a; poll = length begun.trace }

  abbrev w0 : World
  w0 = log begun (event.RunPolled p r)

  follows0 : Follows w0 q
  follows0 = logs begun q (logs w q follows (event.CallBegun p (call.PollRun r b)) refl) (event.RunPolled p r) refl

  abbrev z : Plain Output Waker
  z = does wakes c (PollRun r a) q

  abbrev polling : Op
  polling = op.User (user_op.PollOwn its_poll)

  -- where it comes to
  pub data Polls (e : Done) : Type 0 where
    at_once : e.next ≡ below → z.inside ≡ q.inside → Follows e.world z → Polls e
    in_own : e.next ≡ op.User (user_op.PollOwn its_poll) ∷ below → z.inside ≡ PollOwn r a ∷ q.inside → Follows e.world z → Polls e

  result : (o : Bool) → ((run_of w r).dropped || is_ended (run_of w r).stage) ≡ o
      → (if o then answers Finished q else enters (PollOwn r a) q) ≡ z
  result o is =
      ap (λ o. if o then answers Finished q else enters (PollOwn r a) q) (sym (over_is w.runs q.runs follows.runs r ∙ is))

  module _ (e : Done) (rests : is_resting e.next ≡ true) where
    -- its own future is polled
    polls_own : (v : World) → Follows v q → enters (PollOwn r a) q ≡ z → Way p e v (polling ∷ below) → Polls e
    polls_own v there is way =
        let at : done v (polling ∷ below) ≡ e = stops_at p below under e rests (polling ∷ below) v refl way in
        in_own (ap (λ (d : Done). d.next) (sym at)) (ap (λ (y : Plain Output Waker). y.inside) (sym is))
        (subst (λ y. Follows e.world y) is
        (subst (λ (d : Done). Follows d.world (enters (PollOwn r a) q)) at (stands_in (PollOwn r a ∷ q.inside) v q there refl)))

    by_stage : (st : Stage) → (run_of w r).stage ≡ st → (run_of w r).dropped ≡ false → Way p e w0 (poll_run st its_poll ++ below) → Polls e
    by_stage RunEnded is unended way =
        let so = ends p below under e rests w0 q reply.Finished (hold.Run r) Finished refl follows0 way in
        let same = result true (ap (λ st. (run_of w r).dropped || is_ended st) is ∙ or_ended (run_of w r).dropped) in
        at_once so.0 (ap (λ (y : Plain Output Waker). y.inside) (sym same)) (subst (λ y. Follows e.world y) same so.1)
    by_stage Listed is unended way =
        polls_own w0 follows0 (result false (ap (λ d. d || is_ended (run_of w r).stage) unended ∙ ap is_ended is)) way
    by_stage New is unended way =
        let one = next p e rests (op.List (list_op.LockWrite (section.Register its_poll))) w0 below refl way in
        let w1 : World = record w0 { lock = record w0.lock { writing = true } } in
        let follows1 : Follows w1 q = locked (record w0.lock { writing = true }) w0 q follows0 in
        let two = next p e rests (op.List (list_op.Write (section.Register its_poll))) w1 below refl one.way in
        let w2 = registered (run_of w1 r).stage w1 r in
        let follows2 : Follows w2 q = registered_so r w1 q follows1 in
        let three = next p e rests (op.List list_op.UnlockWrite) w2 (polling ∷ below) refl two.way in
        polls_own (record w2 { lock = record w2.lock { writing = false } }) (locked (record w2.lock { writing = false }) w2 q follows2)
        (result false (ap (λ d. d || is_ended (run_of w r).stage) unended ∙ ap is_ended is)) three.way

  pub polls_run : (run_of w r).dropped ≡ false → (hints : List Hint) → HasAll p hints (upon below (begins p here (call.PollRun r b) w))
      → is_resting (alone p hints (upon below (begins p here (call.PollRun r b) w))).next ≡ true
      → Polls (alone p hints (upon below (begins p here (call.PollRun r b) w)))
  polls_run unended hints all rests =
      by_stage (alone p hints (upon below (begins p here (call.PollRun r b) w))) rests (run_of w r).stage refl unended
      (record { hints = hints; has = all; is = refl })

-- the drop of its own future ends, which was ready
pub own_goes : (p : ℕ) (below : List Op) → is_resting below ≡ true → (w : World) (q : Plain Output Waker) → Follows w q → (c : Choice)
    → length q.lying ≤ c.tells → (r : ℕ) (hints : List Hint)
    → HasAll p hints (done w (op.List (list_op.LockWrite (section.Unregister r reply.Ready)) ∷ below))
    → is_resting (alone p hints (done w (op.List (list_op.LockWrite (section.Unregister r reply.Ready)) ∷ below))).next ≡ true
    → ((alone p hints (done w (op.List (list_op.LockWrite (section.Unregister r reply.Ready)) ∷ below))).next ≡ below)
    × Follows (alone p hints (done w (op.List (list_op.LockWrite (section.Unregister r reply.Ready)) ∷ below))).world
    (answers Ready (gone wakes c r q))
    × ((answers Ready (gone wakes c r q)).inside ≡ q.inside)
own_goes p below under w q follows c many r hints all rests =
    let e = alone p hints (done w (op.List (list_op.LockWrite (section.Unregister r reply.Ready)) ∷ below)) in
    let so =
    unlists c r p e rests reply.Ready below Ready refl under (changed ended_run r q.runs) w q follows many
    (over_alike w.runs q.runs follows.runs r (record (run_of w r) { stage = RunEnded }) refl (or_ended (run_of w r).dropped))
    (record { hints = hints; has = all; is = refl }) in (
      so.0,
      subst (Follows e.world) (left_is c r Ready q) so.1,
      ap (λ (y : Plain Output Waker). y.inside) (sym (left_is c r Ready q)) ∙ left_inside c r Ready q,
    )
