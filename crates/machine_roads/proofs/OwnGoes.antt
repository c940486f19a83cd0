-- A drop of a run, made where a party does nothing or stands in user code: it is answered where the run is over, or comes to the drop of
-- the run's own future. And the end of that.
use Rattle.std.proofs.Common.{◌≡◌, ℕ, zero, suc, ◌≤◌, ◌++◌, ◌||◌, Bool, true, false, List, [], ◌∷◌, length, Option, if◌then◌else◌}
use Rattle.std.proofs.Common.{slice_set, map, refl, sym, ap, subst, ◌∙◌}
use Rattle.executor_model.specs.declared.call.Call.TheVariants as call
use Rattle.executor_model.specs.declared.call.Reply.TheVariants as reply
use Rattle.executor_model.specs.declared.event.Event.TheVariants as event
use Rattle.executor_model.specs.declared.op.Hold.TheVariants as hold
use Rattle.executor_model.specs.declared.op.ListOp.TheVariants as list_op
use Rattle.executor_model.specs.declared.op.Op.{Op}
use Rattle.executor_model.specs.declared.op.Op.TheVariants as op
use Rattle.executor_model.specs.declared.op.RunOp.TheVariants as run_op
use Rattle.executor_model.specs.declared.op.Section.TheVariants as section
use Rattle.executor_model.specs.declared.op.TickOrRun.TheVariants as tick_or_run
use Rattle.executor_model.specs.declared.op.UserOp.TheVariants as user_op
use Rattle.executor_model.specs.declared.op.Waker.{Waker}
use Rattle.executor_model.specs.declared.step.Hint.{Hint}
use Rattle.executor_model.specs.SleepersAgree.{sleeps}
use Rattle.executor_model.specs.Steps.{drop_run}
use Rattle.executor_model.specs.World.{Done, Ended as RunEnded, Listed, New, Run, Stage, World, done, log, put_run, run_of}
use Rattle.plain_scheduler.specs.State.{ARun, Choice, Done as DoneAnswer, DropOwn, Plain, Running}
use Rattle.plain_scheduler.specs.Lists.{on}
use Rattle.plain_scheduler.specs.Moves.{answers, enters, is_called, leaves, lies, tell, up}
use Rattle.plain_scheduler.specs.Moves as moves
use Rattle.plain_scheduler.specs.Calls.{does, gone, DropRun}
use Rattle.machine_roads.specs.View.{Output, wakes}
use Rattle.machine_roads.specs.Road.{Follows, counted_anew, is_ended, run_view}
use Rattle.machine_roads.specs.Alone.{alone, is_resting, HasAll}
use Rattle.machine_roads.specs.Alike.{begins, upon}
use Rattle.machine_roads.specs.Within.{IsLeaving, StopsGoing, listed, unlisted}
use Rattle.machine_roads.proofs.Calling.{ends}
use Rattle.machine_roads.proofs.Changing.{logs}
use Rattle.machine_roads.proofs.Counting.{over_in}
use Rattle.machine_roads.proofs.Lain.{none_found}
use Rattle.machine_roads.proofs.Leaving.{leaves_on}
use Rattle.machine_roads.proofs.LonePolls.{or_ended}
use Rattle.machine_roads.proofs.Numbers.{lies_so, nobody, put_view}
use Rattle.machine_roads.proofs.Runs.{changed, changed_rest, ended_run, over_alike, over_is, runs_is, same_place}
use Rattle.machine_roads.proofs.RunsGone.{goes, left_by, left_inside, left_is, unlists}
use Rattle.machine_roads.proofs.Stepping.{Way}
use Rattle.machine_roads.proofs.Trying.{stops_at}
use Rattle.machine_roads.proofs.Unseen.{ran, stands_in}

module _ (p : ℕ) (here : Option Waker) (below : List Op) (under : is_resting below ≡ true) (w : World) (q : Plain Output Waker)
    (follows : Follows w q) (c : Choice) (many : length q.lying ≤ c.tells) (r : ℕ) (unended : (run_of w r).dropped ≡ false)
    (awake : (run_of w r).stage ≡ RunEnded → sleeps (run_of w r).place ≡ 0) where
  abbrev its : Run
  its = run_of w r

  abbrev dropping : Run
  dropping = record its { dropped = true }

  abbrev begun : World
  begun = log w (event.CallBegun p (call.DropRun r))

  abbrev w0 : World
  w0 = log (put_run begun r dropping) (event.RunDropped p r)

  abbrev z : Plain Output Waker
  z = does wakes c (DropRun r) q

  -- it is being dropped
  drops : (runs : List Running) → map run_view (slice_set w.runs r dropping) ≡ map counted_anew runs
      → Follows w0 (record q { runs = runs })
  drops runs viewed =
      logs (put_run begun r dropping) (record q { runs = runs })
      (ran w.ticks (slice_set w.runs r dropping) w.listed runs begun q (logs w q follows (event.CallBegun p (call.DropRun r)) refl)
      (λ x. ap sleeps (same_place w.ticks w.runs r dropping refl x)) (λ x n is. same_place w.ticks w.runs r dropping refl x ∙ is)
      viewed)
      (event.RunDropped p r) refl

  -- where it comes to
  pub data Drops (e : Done) : Type 0 where
    at_once : e.next ≡ below → z.inside ≡ q.inside → z.runs ≡ q.runs → Follows e.world z → Drops e
    in_drop : over_in r q.runs ≡ false → z.runs ≡ q.runs → StopsGoing r [] below q.inside e z → Drops e

  result : (o : Bool) → (its.dropped || is_ended its.stage) ≡ o
      → (if o then answers DoneAnswer q else enters (DropOwn r DoneAnswer) q) ≡ z
  result o is =
      ap (λ o. if o then answers DoneAnswer q else enters (DropOwn r DoneAnswer) q)
      (sym (over_is w.runs q.runs follows.runs r ∙ is))

  module _ (e : Done) (rests : is_resting e.next ≡ true) where
    -- in the drop of its own future
    stands : (rest : Op) → IsLeaving r rest → (its.dropped || is_ended its.stage) ≡ false
        → Way p e w0 (op.User (user_op.DropOwn r) ∷ rest ∷ below) → Drops e
    stands rest leaving going way =
        let os = op.User (user_op.DropOwn r) ∷ rest ∷ below in
        let at : done w0 os ≡ e = stops_at p below under e rests os w0 refl way in
        let same = result false going in
        let runs = changed ended_run r q.runs in
        let there : Follows w0 (record q { runs = runs; inside = DropOwn r DoneAnswer ∷ q.inside }) =
        stands_in (DropOwn r DoneAnswer ∷ q.inside) w0 (record q { runs = runs })
        (drops runs (over_alike w.runs q.runs follows.runs r dropping refl refl)) refl in
        in_drop (over_is w.runs q.runs follows.runs r ∙ going) (ap (λ (y : Plain Output Waker). y.runs) (sym same))
        (record {
          rest = rest;
          leaving = leaving;
          left = ap (λ (d : Done). d.next) (sym at);
          inside = ap (λ (y : Plain Output Waker). y.inside) (sym same);
          losing = record {
            shut = tt;
            follows =
                subst (λ y. Follows e.world (moves.runs ended_run r y)) same
                (subst (λ (d : Done). Follows d.world (moves.runs ended_run r (enters (DropOwn r DoneAnswer) q))) at
                (subst (Follows w0) (sym (runs_is ended_run r (enters (DropOwn r DoneAnswer) q))) there));
          };
        })

    by_stage : (st : Stage) → its.stage ≡ st → Way p e w0 (drop_run st r ++ below) → Drops e
    by_stage New is way =
        stands (op.Run (run_op.Reschedule r reply.Done)) unlisted
        (ap (λ d. d || is_ended its.stage) unended ∙ ap is_ended is) way
    by_stage Listed is way =
        stands (op.List (list_op.LockWrite (section.Unregister r reply.Done))) listed
        (ap (λ d. d || is_ended its.stage) unended ∙ ap is_ended is) way
    by_stage RunEnded is way =
        let over_now : (its.dropped || is_ended its.stage) ≡ true = ap (λ st. its.dropped || is_ended st) is ∙ or_ended its.dropped in
        let follows0 : Follows w0 q =
        drops q.runs (put_view w.runs r dropping (sym (ap (λ b. record (run_view its) { is_over = b }) over_now)) ∙ follows.runs) in
        let nobody_lies = nobody (ARun r) q.lying (lies_so w q follows (tick_or_run.Run r) ∙ awake is) in
        let same : leaves wakes c (ARun r) q ≡ q =
        ap (λ o. on o (λ l p. if is_called l then tell wakes c (up wakes c (ARun r) p) else up wakes c (ARun r) p) q)
        (none_found (lies (ARun r)) q.lying nobody_lies) in
        let os = op.End reply.Done (hold.Run r) ∷ below in
        let g = leaves_on p e rests c (tick_or_run.Run r) w0 os q follows0 many way in
        let so =
        ends p below under e rests g.world q reply.Done (hold.Run r) DoneAnswer refl (subst (Follows g.world) same g.follows) g.way in
        let is_z = result true over_now in
        at_once so.0 (ap (λ (y : Plain Output Waker). y.inside) (sym is_z)) (ap (λ (y : Plain Output Waker). y.runs) (sym is_z))
        (subst (Follows e.world) is_z so.1)

  pub drops_run : (hints : List Hint) → HasAll p hints (upon below (begins p here (call.DropRun r) w))
      → is_resting (alone p hints (upon below (begins p here (call.DropRun r) w))).next ≡ true
      → Drops (alone p hints (upon below (begins p here (call.DropRun r) w)))
  drops_run hints all rests =
      by_stage (alone p hints (upon below (begins p here (call.DropRun r) w))) rests its.stage refl
      (record { hints = hints; has = all; is = refl })

-- one that was ended is over
ended_over : (rs : List Running) (r : ℕ) → over_in r (changed ended_run r rs) ≡ true
ended_over [] r = refl
ended_over (x ∷ xs) zero = refl
ended_over (x ∷ xs) (suc r) = ap (over_in (suc r)) (changed_rest ended_run x xs r) ∙ ended_over xs r

-- the drop of its own future ends, and it goes
pub own_went : (p : ℕ) (below : List Op) → is_resting below ≡ true → (w : World) (q : Plain Output Waker) (r : ℕ) (rest : Op)
    → IsLeaving r rest → Follows w (record q { runs = changed ended_run r q.runs }) → (c : Choice)
    → length q.lying ≤ c.tells → (hints : List Hint) → HasAll p hints (done w (rest ∷ below))
    → is_resting (alone p hints (done w (rest ∷ below))).next ≡ true
    → ((alone p hints (done w (rest ∷ below))).next ≡ below)
    × Follows (alone p hints (done w (rest ∷ below))).world (answers DoneAnswer (gone wakes c r q))
    × ((answers DoneAnswer (gone wakes c r q)).inside ≡ q.inside)
own_went p below under w q r rest leaving follows c many hints all rests = by rest leaving all rests
  where
    q1 : Plain Output Waker
    q1 = record q { runs = changed ended_run r q.runs }

    ended : (e : Done) → (e.next ≡ below) × Follows e.world (left_by c r DoneAnswer q)
        → (e.next ≡ below) × Follows e.world (answers DoneAnswer (gone wakes c r q))
        × ((answers DoneAnswer (gone wakes c r q)).inside ≡ q.inside)
    ended e so = (
      so.0,
      subst (Follows e.world) (left_is c r DoneAnswer q) so.1,
      ap (λ (y : Plain Output Waker). y.inside) (sym (left_is c r DoneAnswer q)) ∙ left_inside c r DoneAnswer q,
    )

    parted : Run
    parted = record (run_of w r) { stage = RunEnded }

    viewed : map run_view (slice_set w.runs r parted) ≡ map counted_anew q1.runs
    viewed =
        put_view w.runs r parted
        (ap (λ b. record (run_view (run_of w r)) { is_over = b })
        (or_ended (run_of w r).dropped ∙ (sym (ended_over q.runs r) ∙ over_is w.runs q1.runs follows.runs r)))
        ∙ follows.runs

    by : (rest : Op) → IsLeaving r rest → HasAll p hints (done w (rest ∷ below))
        → is_resting (alone p hints (done w (rest ∷ below))).next ≡ true
        → ((alone p hints (done w (rest ∷ below))).next ≡ below)
        × Follows (alone p hints (done w (rest ∷ below))).world (answers DoneAnswer (gone wakes c r q))
        × ((answers DoneAnswer (gone wakes c r q)).inside ≡ q.inside)
    by rest unlisted all rests =
        let e = alone p hints (done w (op.Run (run_op.Reschedule r reply.Done) ∷ below)) in
        ended e
        (goes c r p e rests reply.Done below DoneAnswer refl under w q1 follows many (record { hints = hints; has = all; is = refl }))
    by rest listed all rests =
        let e = alone p hints (done w (op.List (list_op.LockWrite (section.Unregister r reply.Done)) ∷ below)) in
        ended e
        (unlists c r p e rests reply.Done below DoneAnswer refl under q1.runs w q1 follows many viewed
        (record { hints = hints; has = all; is = refl }))
