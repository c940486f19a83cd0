-- A run is made, or that is refused.
use Rattle.std.proofs.Common.{◌≡◌, ℕ, ◌+◌, ◌++◌, Bool, true, false, List, [], ◌∷◌, length, Option, refl, sym, ap, ◌∙◌}
use Rattle.executor_model.specs.declared.call.Call.TheVariants as call
use Rattle.executor_model.specs.declared.call.Reply.TheVariants as reply
use Rattle.executor_model.specs.declared.event.Event.TheVariants as event
use Rattle.executor_model.specs.declared.op.Hold.TheVariants as hold
use Rattle.executor_model.specs.declared.op.ListOp.TheVariants as list_op
use Rattle.executor_model.specs.declared.op.Op.{Op}
use Rattle.executor_model.specs.declared.op.Op.TheVariants as op
use Rattle.executor_model.specs.declared.op.RunOp.TheVariants as run_op
use Rattle.executor_model.specs.declared.op.Section.TheVariants as section
use Rattle.executor_model.specs.declared.op.Waker.{Waker}
use Rattle.executor_model.specs.ActsOfRuns.{make_room_by, make_run_by}
use Rattle.executor_model.specs.World.{Done, World, done, log, new_run}
use Rattle.plain_scheduler.specs.State.{AtOnce, Choice, Granted, NoMemory, Plain, Refusal, Running, Made as MadeAnswer}
use Rattle.plain_scheduler.specs.Calls.{does, NewRun}
use Rattle.machine_roads.specs.View.{Output, wakes}
use Rattle.machine_roads.specs.Road.{Follows, counted_anew, run_view}
use Rattle.machine_roads.specs.Alone.{alone, is_resting}
use Rattle.machine_roads.specs.Alike.{RunIsMadeAlike}
use Rattle.machine_roads.proofs.Calling.{ends}
use Rattle.machine_roads.proofs.Changing.{logs}
use Rattle.machine_roads.proofs.Lists.{map_append}
use Rattle.machine_roads.proofs.Numbers.{asleep_run, numbered_still, own_run, sleeps_run}
use Rattle.machine_roads.proofs.Stepping.{Way, next}
use Rattle.machine_roads.proofs.Unseen.{locked, returned, roomed}

abbrev beginner : Running
beginner = record { taken = 0; is_over = false }

-- one run more, which keeps nothing and doesn't sleep
one_more : (w : World) (q : Plain Output Waker) → Follows w q
    → Follows (record w { runs = w.runs ++ new_run ∷ []; own = w.own ++ [] ∷ [] }) (record q { runs = q.runs ++ beginner ∷ [] })
one_more w q r = record {
  limit = r.limit;
  kind = r.kind;
  many = r.many;
  places = r.places;
  marked = r.marked;
  tasks = r.tasks;
  stored = r.stored;
  marks = r.marks;
  calm = r.calm;
  table = r.table;
  common = r.common;
  kept = λ k. own_run w.own k ∙ r.kept k;
  wakers = r.wakers;
  count = r.count;
  flag = r.flag;
  asleep = λ x. r.asleep x ∙ sym (sleeps_run w.ticks w.runs x);
  numbered =
      numbered_still w.ticks w.runs w.ticks (w.runs ++ new_run ∷ []) (asleep_run w.ticks w.runs) w.sleepers.wakers r.numbered;
  runs =
      map_append run_view w.runs (new_run ∷ [])
      ∙ (ap (λ runs. runs ++ beginner ∷ []) r.runs ∙ sym (map_append counted_anew q.runs (beginner ∷ [])));
  waking = r.waking;
  seen = r.seen;
}

module _ (p : ℕ) (below : List Op) (under : is_resting below ≡ true) (end : Done) (rests : is_resting end.next ≡ true) (c : Choice) where
  abbrev Leaves : Plain Output Waker → Type 0
  Leaves q = (end.next ≡ below) × Follows end.world q

  abbrev Result : Plain Output Waker → Type 0
  Result q = (r : Refusal) × Leaves (does wakes (record c { refusal = r }) NewRun q)

  -- it has room, and the lock is its own
  writes : (w : World) (q : Plain Output Waker) → Follows w q → (b : Bool)
      → Way p end (make_run_by b w).world ((make_run_by b w).next ++ below) → Result q
  writes w q follows true way =
      let os = op.Run run_op.ReturnRoom ∷ (op.End reply.NoMemory hold.Executor ∷ below) in
      let one = next p end rests (op.List list_op.UnlockWrite) w os refl way in
      let w1 = record w { lock = record w.lock { writing = false } } in
      let two = next p end rests (op.Run run_op.ReturnRoom) w1 (op.End reply.NoMemory hold.Executor ∷ below) refl one.way in (
        AtOnce,
        ends p below under end rests _ q reply.NoMemory hold.Executor NoMemory refl
            (returned w.ticks w1 q (locked (record w.lock { writing = false }) w q follows) (λ x. refl) (λ x n is. is)) two.way,
      )
  writes w q follows false way =
      let w1 = record w { runs = w.runs ++ new_run ∷ []; own = w.own ++ [] ∷ [] } in
      let q1 : Plain Output Waker = record q { runs = q.runs ++ beginner ∷ [] } in
      let one =
      next p end rests (op.List list_op.UnlockWrite) w1 (op.End reply.Made (hold.Run (length w.runs)) ∷ below) refl way in (
        Granted,
        ends p below under end rests _ q1 reply.Made (hold.Run (length w.runs)) MadeAnswer refl
            (locked (record w.lock { writing = false }) w1 q1 (one_more w q follows)) one.way,
      )

  makes : (w : World) (q : Plain Output Waker) → Follows w q → (b : Bool)
      → Way p end (make_room_by b w).world ((make_room_by b w).next ++ below) → Result q
  makes w q follows true way = (AtOnce, ends p below under end rests w q reply.NoMemory hold.Executor NoMemory refl follows way)
  makes w q follows false way =
      let w1 = (make_room_by false w).world in
      let follows1 : Follows w1 q = roomed w.ticks (w.sleepers.rooms + 1) w q follows (λ x. refl) (λ x n is. is) in
      let one = next p end rests (op.List (list_op.LockWrite section.MakeRun)) w1 below refl way in
      let w2 = record w1 { lock = record w1.lock { writing = true } } in
      let two = next p end rests (op.List (list_op.Write section.MakeRun)) w2 below refl one.way in
      writes w2 q (locked (record w1.lock { writing = true }) w1 q follows1) two.hint.refused two.way

pub makes_run : (p : ℕ) (here : Option Waker) (below : List Op) (w : World) (q : Plain Output Waker) → is_resting below ≡ true
    → Follows w q → RunIsMadeAlike p here below w q
makes_run p here below w q under follows c hints has rests =
    let w0 = log w (event.CallBegun p call.NewRun) in
    let end = alone p hints (done w0 (op.Run run_op.MakeRoom ∷ below)) in
    let step =
    next p end rests (op.Run run_op.MakeRoom) w0 below refl (record { hints = hints; has = has; is = refl }) in
    let made =
    makes p below under end rests c w0 q (logs w q follows (event.CallBegun p call.NewRun) refl) step.hint.refused step.way in
    (made.0, made.1.0, made.1.1)
