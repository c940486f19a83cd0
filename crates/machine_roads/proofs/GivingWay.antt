-- A run that has taken 200 lets others go first: it calls its own waker, which stays, and its poll ends.
use Rattle.std.proofs.Common.{◌≡◌, ℕ, zero, suc, ◌≤◌, ◌++◌, ◌==◌, nat_lt, true, List, [], ◌∷◌, length, map, Option, Some, None}
use Rattle.std.proofs.Common.{slice_get, if◌then◌else◌, append_assoc, refl, sym, ap, subst, ◌∙◌, arith}
use Rattle.task_moves.specs.declared.moves.owed.Move.TheVariants as move
use Rattle.task_moves.specs.AbstractTask as abstract
use Rattle.executor_model.specs.declared.call.Reply.TheVariants as reply
use Rattle.executor_model.specs.declared.event.Event.TheVariants as event
use Rattle.executor_model.specs.declared.op.Hold.TheVariants as hold
use Rattle.executor_model.specs.declared.op.Op.{Op}
use Rattle.executor_model.specs.declared.op.Op.TheVariants as op
use Rattle.executor_model.specs.declared.op.Polled.TheVariants as of
use Rattle.executor_model.specs.declared.op.RunOp.TheVariants as run_op
use Rattle.executor_model.specs.declared.op.RunPoll.{RunPoll}
use Rattle.executor_model.specs.declared.op.Waker.{Waker}
use Rattle.executor_model.specs.declared.op.Waker.TheVariants.{Task, Outside}
use Rattle.executor_model.specs.Acts.{followed, move_task}
use Rattle.executor_model.specs.ActsOfRuns.{call_by_reference}
use Rattle.executor_model.specs.Good.{IsKnownWaker}
use Rattle.executor_model.specs.World.{World, Done, log}
use Rattle.plain_scheduler.specs.State.{Calls, Choice, Pending, Plain, Run, Running}
use Rattle.plain_scheduler.specs.Lists.{or}
use Rattle.plain_scheduler.specs.Moves.{see, task, tell, wake}
use Rattle.plain_scheduler.specs.Moves as plain
use Rattle.plain_scheduler.specs.Takes as plain_takes
use Rattle.machine_roads.specs.View.{Output, wakes}
use Rattle.machine_roads.specs.Road.{Follows, counted_anew}
use Rattle.machine_roads.specs.Alone.{is_resting}
use Rattle.machine_roads.specs.Stopped.{taken_by}
use Rattle.machine_roads.proofs.Aside.{becomes_inside}
use Rattle.machine_roads.proofs.Calling.{ends}
use Rattle.machine_roads.proofs.Changing.{logs, sees}
use Rattle.machine_roads.proofs.Exchanging.{loudly}
use Rattle.machine_roads.proofs.Moved.{Then, wakes_so}
use Rattle.machine_roads.proofs.Runs.{changed, changed_rest, runs_is}
use Rattle.machine_roads.proofs.Stepping.{Way, next, past_outside}
use Rattle.machine_roads.proofs.Unseen.{ran}

abbrev afresh : Running → Running
afresh run = record run { taken = 0 }

-- the machine counted anew with the 200th
counts_anew : (qs : List Running) (r : ℕ) → or (slice_get qs r) (λ run. run.taken) 0 ≡ 200
    → map counted_anew qs ≡ map counted_anew (changed afresh r qs)
counts_anew [] r is = absurd (omega (arith, is))
counts_anew (y ∷ ys) zero is =
    ap (λ n. record y { taken = if n == 200 then 0 else n } ∷ map counted_anew ys) is
counts_anew (y ∷ ys) (suc r) is =
    ap (λ runs. counted_anew y ∷ runs) (counts_anew ys r is) ∙ sym (ap (map counted_anew) (changed_rest afresh y ys r))

-- after 200 it gives way
pub next_is : (c : Choice) (r : ℕ) (a : Waker) (q : Plain Output Waker) → taken_by r q ≡ 200
    → plain_takes.next wakes c (Run r a) q ≡ plain_takes.gives_way wakes c r a q
next_is c r a q is =
    ap (λ n. if nat_lt n 200 then plain_takes.take wakes c (Run r a) q else plain_takes.gives_way wakes c r a q) is

module _ (c : Choice) (r : ℕ) (a : Waker) (q : Plain Output Waker) where
  abbrev again : Plain Output Waker
  again = record q { runs = changed afresh r q.runs }

  abbrev calls : Plain Output Waker → Plain Output Waker
  calls p = or (wakes a) (λ f. wake wakes (tell wakes c) f p) (see (Calls a) p)

  gives_is : plain_takes.gives_way wakes c r a q ≡ plain.answers Pending (calls again)
  gives_is = ap (λ p. plain.answers Pending (calls p)) (runs_is afresh r q)

  pub gives_inside : (plain_takes.gives_way wakes c r a q).inside ≡ q.inside
  gives_inside = ap (λ (q : Plain Output Waker). q.inside) gives_is ∙ by (wakes a)
    where
      by : (o : Option ℕ) → (or o (λ f. wake wakes (tell wakes c) f again) (see (Calls a) again)).inside ≡ q.inside
      by None = refl
      by (Some f) = becomes_inside c f (abstract.wake (task f again)) again

module _ (p : ℕ) (below : List Op) (under : is_resting below ≡ true) (end : Done) (rests : is_resting end.next ≡ true) (c : Choice)
    (x : RunPoll) where
  abbrev os : List Op
  os = op.End reply.Pending (hold.Run x.run) ∷ []

  pub gives_way_so : (w : World) (q : Plain Output Waker) → Follows w q → length q.lying ≤ c.tells → taken_by x.run q ≡ 200
      → Way p end w (op.Run (run_op.WakeOwn x) ∷ below)
      → (end.next ≡ below) × Follows end.world (plain_takes.gives_way wakes c x.run x.waker q)
  gives_way_so w q follows many last way =
      let step = next p end rests (op.Run (run_op.WakeOwn x)) w below refl way in
      let t = by x.waker step.has step.way in
      subst (λ z. (end.next ≡ below) × Follows end.world z) (sym (gives_is c x.run x.waker q))
      (ends p below under end rests t.world (calls c x.run x.waker q anew) reply.Pending (hold.Run x.run) Pending refl t.follows t.way)
    where
      anew : Plain Output Waker
      anew = record q { runs = changed afresh x.run q.runs }

      follows_anew : Follows w anew
      follows_anew =
          ran w.ticks w.runs w.listed (changed afresh x.run q.runs) w q follows (λ y. refl) (λ y n at. at)
          (follows.runs ∙ counts_anew q.runs x.run last)

      by : (a : Waker) → IsKnownWaker w a
          → Way p end (followed (call_by_reference p (log w (event.WakerCalled p (of.Run x.run) x.poll a)) a) os).world
          ((followed (call_by_reference p (log w (event.WakerCalled p (of.Run x.run) x.poll a)) a) os).next ++ below)
          → Then p end (os ++ below) (calls c x.run a q anew)
      by (Task g) at way =
          let e = event.WakerCalled p (of.Run x.run) x.poll (Task g) in
          let w1 = log w e in
          wakes_so p end rests (tell wakes c) (λ q. length q.lying ≤ c.tells) (loudly p end rests c) g w1 (os ++ below) anew
          (logs w anew follows_anew e refl) many at
          (subst (Way p end (move_task move.WakeByReference p w1 g).world)
          (append_assoc (move_task move.WakeByReference p w1 g).next os below) way)
      by (Outside y) at way =
          let e = event.WakerCalled p (of.Run x.run) x.poll (Outside y) in
          record {
            world = log w e;
            follows = sees w anew follows_anew e (Calls (Outside y)) refl;
            way = past_outside p end rests y (log w e) (os ++ below) way;
          }
