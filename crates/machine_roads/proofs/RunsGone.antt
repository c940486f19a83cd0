-- What a run keeps, and that a run which goes has each of these appended, in order, and tells.
use Rattle.std.proofs.Common.{◌≡◌, ℕ, zero, suc, ◌≤◌, ◌==◌, ◌++◌, Bool, true, false, List, [], ◌∷◌, length, map, get_or}
use Rattle.std.proofs.Common.{Option, Some, None, slice_set, count_by, append-nil, refl, sym, ap, subst, ◌∙◌}
use Rattle.std.specs.Prelude.{filter, find}
use Rattle.std.proofs.lemmas.List.{get_or-set_other}
use Rattle.std.proofs.lemmas.List.Sums.{length-filter}
use Rattle.executor_parts.specs.declared.mark.Mark.{Mark}
use Rattle.executor_model.specs.declared.call.Reply.{Reply}
use Rattle.executor_model.specs.declared.op.Hold.TheVariants as hold
use Rattle.executor_model.specs.declared.op.Op.{Op}
use Rattle.executor_model.specs.declared.op.Op.TheVariants as op
use Rattle.executor_model.specs.declared.op.ListOp.TheVariants as list_op
use Rattle.executor_model.specs.declared.op.QueueOp.TheVariants as queue_op
use Rattle.executor_model.specs.declared.op.RunOp.TheVariants as run_op
use Rattle.executor_model.specs.declared.op.Section.TheVariants as section
use Rattle.executor_model.specs.declared.op.TickOp.TheVariants as tick_op
use Rattle.executor_model.specs.declared.op.TickOrRun.TheVariants as tick_or_run
use Rattle.executor_model.specs.declared.op.Waker.{Waker}
use Rattle.executor_model.specs.ActsOfRuns.{reschedule_by, unregistered}
use Rattle.executor_model.specs.SleepersAgree.{sleeps}
use Rattle.executor_model.specs.World as world
use Rattle.executor_model.specs.World.{Ended as RunEnded, run_of, Done, Run, World, own_of, put_own}
use Rattle.plain_scheduler.specs.State.{Answer, Answers, ARun, Choice, Due, Lying, Plain, Running}
use Rattle.plain_scheduler.specs.Lists.{on, repeat, without}
use Rattle.plain_scheduler.specs.Moves.{answers, appended, given_back, is_common, is_kept, is_run, leaves, mark, tell}
use Rattle.machine_roads.specs.View.{Output, wakes}
use Rattle.machine_roads.specs.Seeing.{answer_of, shown}
use Rattle.plain_scheduler.specs.Calls.{gone}
use Rattle.machine_roads.specs.Road.{Follows, counted_anew, futures_in, run_view}
use Rattle.machine_roads.specs.Alone.{is_resting}
use Rattle.machine_roads.proofs.Aside.{IsAside, leaves_inside, tell_inside, tell_keeps}
use Rattle.machine_roads.proofs.Calling.{ends}
use Rattle.machine_roads.proofs.Changing.{futures_last}
use Rattle.machine_roads.proofs.Due.{First, first, keepers_apart, others}
use Rattle.machine_roads.proofs.Exchanging.{loudly}
use Rattle.machine_roads.proofs.Leaving.{leaves_on}
use Rattle.machine_roads.proofs.Lists.{apart_of, clash, length_map, same_of}
use Rattle.machine_roads.proofs.Moved.{Then, queued}
use Rattle.machine_roads.proofs.Runs.{changed, ended_run, runs_is, same_place}
use Rattle.machine_roads.proofs.Stepping.{Way, next}
use Rattle.machine_roads.proofs.Unseen.{locked, ran}

-- what a run keeps has no other keeper, and is not without one
pub runs_apart : (r k : ℕ) → (r == k) ≡ false → (d : Due) → is_kept r d ≡ true → is_kept k d ≡ false
runs_apart r k apart d is = by d.keeper is
  where
    by : (o : Option ℕ) → is_run r o ≡ true → is_run k o ≡ false
    by None is = refl
    by (Some n) is = not_so (k == n) refl
      where
        not_so : (e : Bool) → (k == n) ≡ e → e ≡ false
        not_so false off = refl
        not_so true on = absurd (apart_of r k apart (same_of r n is ∙ sym (same_of k n on)))

pub kept_uncommon : (r : ℕ) (m : Mark) (d : Due) → is_kept r d ≡ true → is_common m d ≡ false
kept_uncommon r m d is = by (is_common m d) refl
  where
    by : (b : Bool) → is_common m d ≡ b → is_common m d ≡ false
    by false off = off
    by true on = absurd (clash (keepers_apart m r d on) is)

own_left : (own : List (List ℕ)) (r : ℕ) (f : ℕ) (rest : List ℕ) → get_or own r [] ≡ f ∷ rest → get_or (slice_set own r rest) r [] ≡ rest
own_left [] r f rest is = absurd cc
own_left (x ∷ xs) zero f rest is = refl
own_left (x ∷ xs) (suc r) f rest is = own_left xs r f rest is

-- the first that a run keeps is taken from its own queue
pub takes_own : (r : ℕ) (w : World) (q : Plain Output Waker) (f : ℕ) (rest : List ℕ) → Follows w q → own_of w r ≡ f ∷ rest
    → First (is_kept r) q.due f rest × Follows (put_own w r rest) (record q { due = without (is_kept r) q.due })
takes_own r w q f rest follows is =
    let one = first (is_kept r) q.due f rest (sym (follows.kept r) ∙ is) in (
      one,
      record {
        limit = follows.limit;
        kind = follows.kind;
        many = follows.many;
        places = follows.places;
        marked = follows.marked;
        tasks = follows.tasks;
        stored = follows.stored;
        marks = follows.marks;
        calm = follows.calm;
        table = follows.table;
        common = λ m. follows.common m ∙ sym (others (is_kept r) (is_common m) q.due (kept_uncommon r m));
        kept = λ k. queue k (r == k) refl one.left;
        wakers = follows.wakers;
        count = follows.count;
        flag = follows.flag;
        asleep = follows.asleep;
        numbered = follows.numbered;
        runs = follows.runs;
        waking = follows.waking;
        seen = follows.seen;
      },
    )
  where
    queue : (k : ℕ) (b : Bool) → (r == k) ≡ b → futures_in (is_kept r) (without (is_kept r) q.due) ≡ rest
        → own_of (put_own w r rest) k ≡ futures_in (is_kept k) (without (is_kept r) q.due)
    queue k true same left =
        subst (λ k. own_of (put_own w r rest) k ≡ futures_in (is_kept k) (without (is_kept r) q.due)) (same_of r k same)
        (own_left w.own r f rest is ∙ sym left)
    queue k false apart left =
        get_or-set_other w.own r k rest [] (λ is. apart_of r k apart (sym is))
        ∙ (follows.kept k ∙ sym (others (is_kept r) (is_kept k) q.due (runs_apart r k apart)))

-- what it keeps is aside of what is told and appended
kept_aside : (r : ℕ) → IsAside (λ (q : Plain Output Waker). futures_in (is_kept r) q.due)
kept_aside r = record {
  futures = λ q fs. refl;
  due = λ q f.
      futures_last (is_kept r) q.due (record { future = f; mark = mark f q; keeper = None })
      ∙ append-nil (futures_in (is_kept r) q.due);
  lying = λ q ls. refl;
  seen = λ q e. refl;
}

-- one that a run keeps is appended, and tells
abbrev pub back_of : Choice → ℕ → Plain Output Waker → Plain Output Waker
back_of c r q = tell wakes c (given_back r q)

module _ (c : Choice) (r : ℕ) where
  given_still : {B : Type 0} (ask : Plain Output Waker → B)
      → ((q : Plain Output Waker) (ds : List Due) → ask (record q { due = ds }) ≡ ask q) → (q : Plain Output Waker)
      → ask (given_back r q) ≡ ask q
  given_still ask same q = by (find (is_kept r) q.due)
    where
      by : (o : Option Due)
          → ask (on o (λ d p. appended d.future (record p { due = without (is_kept r) p.due })) q) ≡ ask q
      by None = refl
      by (Some d) = same q (appended d.future (record q { due = without (is_kept r) q.due })).due

  pub back_inside : (n : ℕ) (q : Plain Output Waker) → (repeat n (back_of c r) q).inside ≡ q.inside
  back_inside zero q = refl
  back_inside (suc n) q =
      back_inside n (back_of c r q)
      ∙ (tell_inside c (given_back r q) ∙ given_still (λ (q : Plain Output Waker). q.inside) (λ q ds. refl) q)

  module _ (p : ℕ) (end : Done) (rests : is_resting end.next ≡ true) where
    abbrev fits : Plain Output Waker → Type 0
    fits q = length q.lying ≤ c.tells

    back_fits : (q : Plain Output Waker) → fits q → fits (back_of c r q)
    back_fits q fit =
        (loudly p end rests c).keeps (given_back r q)
        (subst (λ (ls : List (Lying Waker)). length ls ≤ c.tells)
        (sym (given_still (λ (q : Plain Output Waker). q.lying) (λ q ds. refl) q)) fit)

    repeat_fits : (n : ℕ) (q : Plain Output Waker) → fits q → fits (repeat n (back_of c r) q)
    repeat_fits zero q fit = fit
    repeat_fits (suc n) q fit = repeat_fits n (back_of c r q) (back_fits q fit)

    module _ (a : Reply) (below : List Op) where
      abbrev os : List Op
      os = op.Tick (tick_op.Leave (tick_or_run.Run r)) ∷ op.End a (hold.Run r) ∷ below

      -- each that is left in its own queue is scheduled
      reschedules : (fs : List ℕ) (w : World) (q : Plain Output Waker) → Follows w q → fits q → own_of w r ≡ fs
          → Way p end w (op.Run (run_op.Reschedule r a) ∷ below) → Then p end os (repeat (length fs) (back_of c r) q)
      reschedules [] w q follows fit is way =
          record {
            world = w;
            follows = follows;
            way =
                subst (λ fs. Way p end (reschedule_by fs w r a).world ((reschedule_by fs w r a).next ++ below)) is
                (next p end rests (op.Run (run_op.Reschedule r a)) w below refl way).way;
          }
      reschedules (f ∷ rest) w q follows fit is way =
          let one = takes_own r w q f rest follows is in
          let more = tell wakes c in
          let left : Plain Output Waker = record q { due = without (is_kept r) q.due } in
          let now : Way p end (put_own w r rest) (op.Queue (queue_op.Append f) ∷ (op.Run (run_op.Reschedule r a) ∷ below)) =
          subst (λ fs. Way p end (reschedule_by fs w r a).world ((reschedule_by fs w r a).next ++ below)) is
          (next p end rests (op.Run (run_op.Reschedule r a)) w below refl way).way in
          let g =
          queued p end rests more fits (loudly p end rests c) f (put_own w r rest) (op.Run (run_op.Reschedule r a) ∷ below) left one.1
          fit true now in
          let same : back_of c r q ≡ more (appended f left) =
          ap (λ (o : Option Due). more (on o (λ d p. appended d.future (record p { due = without (is_kept r) p.due })) q)) one.0.found
          ∙ ap (λ f. more (appended f left)) one.0.is in
          let queue : own_of g.world r ≡ rest =
          g.follows.kept r
          ∙ (tell_keeps (λ (q : Plain Output Waker). futures_in (is_kept r) q.due) (kept_aside r) c (appended f left)
          ∙ ((kept_aside r).due left f ∙ one.0.left)) in
          reschedules rest g.world (back_of c r q) (subst (Follows g.world) (sym same) g.follows) (back_fits q fit) queue g.way

      -- and it leaves
      pub goes : (x : Answer Output) → Answers (answer_of a) ≡ shown (Answers x) → is_resting below ≡ true → (w : World)
          (q : Plain Output Waker) → Follows w q → fits q → Way p end w (op.Run (run_op.Reschedule r a) ∷ below)
          → (end.next ≡ below)
          × Follows end.world (answers x (leaves wakes c (ARun r) (repeat (count_by (is_kept r) q.due) (back_of c r) q)))
      goes x same under w q follows fit way =
          let many : length (own_of w r) ≡ count_by (is_kept r) q.due =
          ap length (follows.kept r) ∙ (length_map (λ (d : Due). d.future) (filter (is_kept r) q.due) ∙ length-filter (is_kept r) q.due) in
          let g = reschedules (own_of w r) w q follows fit refl way in
          let z : Plain Output Waker = repeat (length (own_of w r)) (back_of c r) q in
          let left =
          leaves_on p end rests c (tick_or_run.Run r) g.world (op.End a (hold.Run r) ∷ below) z g.follows
          (repeat_fits (length (own_of w r)) q fit) g.way in
          subst (λ n. (end.next ≡ below) × Follows end.world (answers x (leaves wakes c (ARun r) (repeat n (back_of c r) q)))) many
          (ends p below under end rests left.world (leaves wakes c (ARun r) z) a (hold.Run r) x same left.follows left.way)

      -- its own queue goes from the list, and it is over
      pub unlists : (x : Answer Output) → Answers (answer_of a) ≡ shown (Answers x) → is_resting below ≡ true → (runs : List Running)
          → (w : World) (q : Plain Output Waker) → Follows w q → fits q
          → map run_view (slice_set w.runs r (record (run_of w r) { stage = RunEnded })) ≡ map counted_anew runs
          → Way p end w (op.List (list_op.LockWrite (section.Unregister r a)) ∷ below)
          → (end.next ≡ below)
          × Follows end.world
          (answers x (leaves wakes c (ARun r) (repeat (count_by (is_kept r) q.due) (back_of c r) (record q { runs = runs }))))
      unlists x same under runs w q follows fit viewed way =
          let lock = op.List (list_op.LockWrite (section.Unregister r a)) in
          let w1 : World = record w { lock = record w.lock { writing = true } } in
          let one = next p end rests lock w below refl way in
          let two = next p end rests (op.List (list_op.Write (section.Unregister r a))) w1 below refl one.way in
          let w2 = unregistered w1 r in
          let parted : Run = record (run_of w1 r) { stage = RunEnded } in
          let q1 : Plain Output Waker = record q { runs = runs } in
          let follows2 : Follows w2 q1 =
          ran w1.ticks (slice_set w1.runs r parted) (world.without r w1.listed) runs w1 q
          (locked (record w.lock { writing = true }) w q follows) (λ x. ap sleeps (same_place w1.ticks w1.runs r parted refl x))
          (λ x n is. same_place w1.ticks w1.runs r parted refl x ∙ is) viewed in
          let three = next p end rests (op.List list_op.UnlockWrite) w2 (op.Run (run_op.Reschedule r a) ∷ below) refl two.way in
          goes x same under (record w2 { lock = record w2.lock { writing = false } }) q1
          (locked (record w2.lock { writing = false }) w2 q1 follows2) fit three.way

-- what is left of a run that went
abbrev pub left_by : Choice → ℕ → Answer Output → Plain Output Waker → Plain Output Waker
left_by c r x q =
    answers x
    (leaves wakes c (ARun r)
    (repeat (count_by (is_kept r) q.due) (back_of c r) (record q { runs = changed ended_run r q.runs })))

pub left_is : (c : Choice) (r : ℕ) (x : Answer Output) (q : Plain Output Waker) → left_by c r x q ≡ answers x (gone wakes c r q)
left_is c r x q =
    ap (λ z. answers x (leaves wakes c (ARun r) (repeat (count_by (is_kept r) q.due) (back_of c r) z))) (sym (runs_is ended_run r q))

pub left_inside : (c : Choice) (r : ℕ) (x : Answer Output) (q : Plain Output Waker) → (left_by c r x q).inside ≡ q.inside
left_inside c r x q =
    let n = count_by (is_kept r) q.due in
    let q1 : Plain Output Waker = record q { runs = changed ended_run r q.runs } in
    leaves_inside c (ARun r) (repeat n (back_of c r) q1) ∙ back_inside c r n q1
