-- In each machine of which the executor's drop hasn't begun, what the next thing to do speaks of is there.
use Rattle.std.proofs.Common.{◌≡◌, ℕ, suc, ◌+◌, ◌<◌, ◌≤◌, ◌==◌, ◌&&◌, ◌||◌, not, cond, nat_lt, Bool, true, false, [], ◌∷◌, length}
use Rattle.std.proofs.Common.{Some, if◌then◌else◌, refl, sym, ap, subst, ◌∙◌, arith}
use Rattle.std.proofs.Common.{inl, ⊎_elim}
use Rattle.std.proofs.lemmas.Bool.Decides.{nat_tests}
use Rattle.task_moves.specs.declared.moves.owed.Move.TheVariants as move
use Rattle.task_moves.specs.LocalTask.{token}
use Rattle.task_moves.specs.Moves.{is_going}
use Rattle.executor_model.specs.declared.op.ClosingOp.TheVariants as closing_op
use Rattle.executor_model.specs.declared.op.HandleOp.TheVariants as handle_op
use Rattle.executor_model.specs.declared.op.ListOp.TheVariants as list_op
use Rattle.executor_model.specs.declared.op.Op.{Op}
use Rattle.executor_model.specs.declared.op.Op.TheVariants as op
use Rattle.executor_model.specs.declared.op.QueueOp.TheVariants as queue_op
use Rattle.executor_model.specs.declared.op.RunOp.TheVariants as run_op
use Rattle.executor_model.specs.declared.op.RunPoll.{RunPoll}
use Rattle.executor_model.specs.declared.op.SleeperOp.TheVariants as sleeper_op
use Rattle.executor_model.specs.declared.op.Sleeping.{Sleeping}
use Rattle.executor_model.specs.declared.op.Steal.{Steal}
use Rattle.executor_model.specs.declared.op.StealOp.TheVariants as steal_op
use Rattle.executor_model.specs.declared.op.TickOp.TheVariants as tick_op
use Rattle.executor_model.specs.declared.op.TickOrRun.{TickOrRun}
use Rattle.executor_model.specs.declared.op.TickOrRun.TheVariants as tick_or_run
use Rattle.executor_model.specs.declared.op.Waker.{Waker}
use Rattle.executor_model.specs.declared.op.Waker.TheVariants.{Task, Outside}
use Rattle.executor_model.specs.declared.op.WakerOp.TheVariants as waker_op
use Rattle.executor_model.specs.Acts.{takes_more}
use Rattle.executor_model.specs.Good.{CanWake, Good, IsKnown, IsKnownWaker}
use Rattle.executor_model.specs.OwnQueues.{filling_of}
use Rattle.executor_model.specs.Rows.{past_of, releases_of, waiting_of}
use Rattle.executor_model.specs.SleepersAgree.{SleepersAgree}
use Rattle.executor_model.specs.Sound.{Sound, pend, times, tokens}
use Rattle.executor_model.specs.Steps.{Machine, below_top, stack, top}
use Rattle.executor_model.specs.Weights.{is_run, past, same, weigh_all}
use Rattle.executor_model.specs.World.{Ended, Listed, New, Stage, World, among, mark_of, queue_of, run_of, task}
use Rattle.executor_model.proofs.OneFuture.Stories.{among_is}
use Rattle.executor_model.proofs.OwnQueues.Using.{polling_of}
use Rattle.executor_model.proofs.OwnQueues.UsingWorlds.{is_over_stage}
use Rattle.executor_model.proofs.Polls.AskingExecutions.{Heard, heard}
use Rattle.executor_model.proofs.Sleepers.SleepersFollowingExecutions.{agree}
use Rattle.executor_model.proofs.Steps.Lift.{split, topped}
use Rattle.executor_model.proofs.Steps.Lists.{past_is, same_is}
use Rattle.executor_model.proofs.Steps.Needing.{needs}
use Rattle.executor_model.proofs.Steps.QueuesByMark.{any-shut}
use Rattle.executor_model.proofs.Steps.Reached.{Reached, good-here}
use Rattle.executor_model.proofs.Table.LeavingExecutions.{has-place}
use Rattle.executor_laws.proofs.Wakeups.Sitting.{is_it}
use Rattle.executor_laws.proofs.Wakeups.Stands.{used_of}
use Rattle.executor_laws.proofs.Wakeups.StandsMachine.{standing}
use Rattle.executor_laws.proofs.Wakeups.StandsSteps.{Standing}
use Rattle.executor_laws.proofs.Walks.Enrolled.{Enrolled, kept-listed}
use Rattle.executor_laws.proofs.Walks.Finding.{enrolled-here, listed-here, room-here}
use Rattle.machine_roads.specs.Alone.{CanCopy, Has, HasIn, ListHas, RunCanLie, SearchHas, SleepsAlone, StealHas}
use Rattle.machine_roads.specs.Moving.{IsQueued}
use Rattle.machine_roads.specs.Road.{is_ended}
use Rattle.machine_roads.proofs.Lists.{clash, equal}
use Rattle.machine_roads.proofs.Living.{living_here}

-- of these more is asked while the executor's drop hasn't begun
abbrev pub asks_open : Op → Bool
asks_open (op.Move move.TakeUp f) = true
asks_open (op.Queue (queue_op.Append f)) = true
asks_open (op.Closing closing_op.LeakOut) = true
asks_open (op.Closing closing_op.LeakNext) = true
asks_open _ = false

pub heard_here : (s : Machine) → Reached s → Heard s
heard_here s r = subst Heard (sym r.is) (heard r.limit r.kind r.parties r.steps)

below_of : (n f : ℕ) → past n f ≡ 0 → f < n
below_of n f is = grind (arith, past_is)

pub same_self : (g : ℕ) → same g g ≡ 1
same_self g = grind (arith, same_is)

below_test : (n m : ℕ) → n < m → nat_lt n m ≡ true
below_test n m is = grind (arith, nat_tests)

known_by : (w : World) (a : Waker) → CanWake w a → IsKnownWaker w a
known_by w (Task g) can = can.0
known_by w (Outside x) can = tt

module _ (s : Machine) (p : ℕ) (reached : Reached s) (there : p < length s.parties) where
  abbrev good : Good s
  good = good-here s reached

  -- as many as there are Runnables, runs and closing calls
  token_few : (f : ℕ) → token (task s.world f) ≤ tokens s.world f (pend f s.parties)
  token_few f = by (task s.world f).scheduled (task s.world f).running refl refl
    where
      k : Sound s.world f (pend f s.parties)
      k = good.sound f

      by : (a b : Bool) → (task s.world f).scheduled ≡ a → (task s.world f).running ≡ b
          → token (task s.world f) ≤ tokens s.world f (pend f s.parties)
      by true b on running = omega (arith, ap {B = ℕ} (λ x. if x || (task s.world f).running then 1 else 0) on, (good.sound f).owed on)
      by false true off on =
          omega (
            arith,
            ap {B = ℕ} (λ x. if x || (task s.world f).running then 1 else 0) off,
            ap {B = ℕ} (λ x. if x then 1 else 0) on,
            (good.sound f).going on,
          )
      by false false off down =
          omega (
            arith,
            ap {B = ℕ} (λ x. if x || (task s.world f).running then 1 else 0) off,
            ap {B = ℕ} (λ x. if x then 1 else 0) down,
          )

  released : (f : ℕ) → top (stack s p) ≡ Some (op.Move move.Release f) → token (task s.world f) < (task s.world f).references
  released f is =
      omega (
        arith,
        token_few f,
        (good.sound f).counted,
        split (releases_of f) s.parties p (op.Move move.Release f ∷ []) (below_top (stack s p)) there
            (topped (stack s p) (op.Move move.Release f) is),
        same_self f,
      )

  queued : (f : ℕ) → s.world.gone ≡ false → top (stack s p) ≡ Some (op.Queue (queue_op.Append f))
      → IsKnown s.world f × (takes_more (queue_of s.world (mark_of s.world f)) s.world.limit ≡ true)
  queued f open_still is =
      let o = op.Queue (queue_op.Append f) in
      let q = queue_of s.world (mark_of s.world f) in
      let few = has-place s p f (below_top (stack s p)) there (topped (stack s p) o is) good (heard_here s reached).placed
      (mark_of s.world f) in (
        below_of (length s.world.tasks) f (omega (
          arith,
          good.ops,
          split (past_of (length s.world.tasks)) s.parties p (o ∷ []) (below_top (stack s p)) there (topped (stack s p) o is),
        )),
        by q.closed refl (below_test (length q.items) s.world.limit few),
      )
    where
      by : (b : Bool) → (queue_of s.world (mark_of s.world f)).closed ≡ b
          → nat_lt (length (queue_of s.world (mark_of s.world f)).items) s.world.limit ≡ true
          → takes_more (queue_of s.world (mark_of s.world f)) s.world.limit ≡ true
      by true shut few =
          absurd (clash open_still (((heard_here s reached).placed.leaves 0).shut (any-shut (mark_of s.world f) s.world.queues shut)).0)
      by false off few =
          ap (λ b. not b && nat_lt (length (queue_of s.world (mark_of s.world f)).items) s.world.limit) off ∙ few

  -- who has a Runnable in hand has that of a queued task
  in_hand : (f : ℕ) → 1 ≤ (pend f s.parties).waiting → IsQueued (task s.world f)
  in_hand f waits =
      let k : Sound s.world f (pend f s.parties) = good.sound f in
      record {
        scheduled = k.carries (omega (arith, waits));
        running = resting (task s.world f).running refl;
        completed = k.live (omega (arith, waits));
        counted = omega (arith, waits, k.counted);
      }
    where
      resting : (b : Bool) → (task s.world f).running ≡ b → (task s.world f).running ≡ false
      resting false off = off
      resting true on = absurd (omega (arith, waits, (good.sound f).one, (good.sound f).going on))

  taken_up : (f : ℕ) → s.world.gone ≡ false → top (stack s p) ≡ Some (op.Move move.TakeUp f)
      → IsQueued (task s.world f) × (among f s.world.table ≡ true)
  taken_up f open_still is =
      let x = (heard_here s reached).placed.leaves f in
      let waits : 1 ≤ (pend f s.parties).waiting =
      omega (
        arith,
        split (waiting_of f) s.parties p (op.Move move.TakeUp f ∷ []) (below_top (stack s p)) there
            (topped (stack s p) (op.Move move.TakeUp f) is),
        same_self f,
      ) in (
        in_hand f waits,
        entry (among f s.world.table) refl
            (omega (arith, waits, x.runs (omega (arith, waits)), x.stay open_still, x.table (inl open_still))),
      )
    where
      entry : (b : Bool) → among f s.world.table ≡ b → 1 ≤ times f s.world.table → among f s.world.table ≡ true
      entry true here some = here
      entry false none some =
          ⊎_elim (λ (x : (among f s.world.table ≡ true) × (1 ≤ times f s.world.table)). x.0)
          (λ (x : (among f s.world.table ≡ false) × (times f s.world.table ≡ 0)). absurd (omega (arith, some, x.1)))
          (among_is f s.world.table)

  can_copy : (a : Waker) → IsKnownWaker s.world a → CanCopy s.world a
  can_copy (Task g) at = (at, omega (arith, token_few g, (good.sound g).counted))
  can_copy (Outside x) at = tt

  at_rest : (f : ℕ) → (task s.world f).completed ≡ true → is_going (task s.world f) ≡ false
  at_rest f done =
      let both = (good.sound f).rests done in
      ap (λ b. b || (task s.world f).running) both.0 ∙ both.1

  -- numbers in use are distinct
  alone : (x : TickOrRun) → SleepsAlone s.world x
  alone x n here y there =
      let agrees : SleepersAgree s =
      subst SleepersAgree (sym reached.is) (agree reached.limit reached.kind reached.parties reached.steps) in
      agrees.apart y x n there here

  -- a run in use has an own queue, and what stands in one of a run that isn't over is in the list
  enrolled : Enrolled s
  enrolled = enrolled-here s reached

  in_use : (r : ℕ) (o : Op) → top (stack s p) ≡ Some o → 1 ≤ used_of (tick_or_run.Run r) o
      → (r < length s.world.runs) × (r < length s.world.own)
  in_use r o is uses =
      let there = made (nat_lt r (length s.world.runs)) refl in
      (there, subst (λ n. r < n) (sym enrolled.even) there)
    where
      below : (n m : ℕ) → nat_lt n m ≡ true → n < m
      below n m is = grind (arith, nat_tests)

      used : 1 ≤ weigh_all (used_of (tick_or_run.Run r)) s.parties
      used =
          omega (
            arith,
            split (used_of (tick_or_run.Run r)) s.parties p (o ∷ []) (below_top (stack s p)) there (topped (stack s p) o is),
            uses,
          )

      made : (b : Bool) → nat_lt r (length s.world.runs) ≡ b → r < length s.world.runs
      made true is = below r (length s.world.runs) is
      made false off =
          let all : Standing s = subst Standing (sym reached.is) (standing reached.limit reached.kind reached.parties reached.steps) in
          absurd (omega (arith, used, (all.stands (tick_or_run.Run r)).unborn off))

  searches : (x : Sleeping) (who : TickOrRun) → x.who ≡ who → top (stack s p) ≡ Some (op.Tick (tick_op.Search x)) → SearchHas s.world who
  searches x (tick_or_run.Tick t) same_who is = tt
  searches x (tick_or_run.Run r) same_who is =
      (in_use r (op.Tick (tick_op.Search x)) is (omega (arith, ap (is_it (tick_or_run.Run r)) same_who, same_self r))).0

  walks : (x : RunPoll) → top (stack s p) ≡ Some (op.List (list_op.LockRead x)) → ListHas s.world (list_op.LockRead x)
  walks x is = (
    (in_use x.run (op.List (list_op.LockRead x)) is (omega (arith, same_self x.run))).1,
    λ k some going.
        omega (
          arith,
          kept-listed s k enrolled (listed-here s k reached) some (unended (run_of s.world k).dropped (run_of s.world k).stage going),
        ),
  )
    where
      unended : (b : Bool) (st : Stage) → (b || is_ended st) ≡ false → is_over_stage st ≡ false
      unended false New is = refl
      unended false Listed is = refl
      unended false Ended is = absurd cc
      unended true st is = absurd cc

  steals : (x : Steal) (more : ℕ) → top (stack s p) ≡ Some (op.Steal (steal_op.Take x more))
      → StealHas s.world (steal_op.Take x more)
  steals x more is =
      let o = op.Steal (steal_op.Take x more) in
      omega (
        arith,
        room-here s x.poll.run reached,
        split (filling_of x.poll.run) s.parties p (o ∷ []) (below_top (stack s p)) there (topped (stack s p) o is),
        own x.poll.run more,
      )
    where
      own : (r more : ℕ) → cond (r == r) (more + 1) 0 ≡ suc more
      own r more = ap (λ b. cond b (more + 1) 0) (equal r r refl) ∙ next_one more
        where
          next_one : (n : ℕ) → n + 1 ≡ suc n
          next_one n = omega arith

  -- a run that is polled lives, and finds room where it is awake
  run_lies : (x : Sleeping) (who : TickOrRun) → x.who ≡ who → top (stack s p) ≡ Some (op.Tick (tick_op.FallAsleep x))
      → RunCanLie s.world who
  run_lies x (tick_or_run.Tick t) same_who is = tt
  run_lies x (tick_or_run.Run r) same_who is = record {
    living =
        (living_here s reached).lives r
        ((enrolled.used r).polled (omega (
          arith,
          split (polling_of r) s.parties p (o ∷ []) (below_top (stack s p)) there (topped (stack s p) o is),
          ap (is_run r) same_who,
          same_self r,
        )));
    roomed = λ awake. agrees.finds_room (tick_or_run.Run r) awake;
  }
    where
      o : Op
      o = op.Tick (tick_op.FallAsleep x)

      agrees : SleepersAgree s
      agrees = subst SleepersAgree (sym reached.is) (agree reached.limit reached.kind reached.parties reached.steps)

  -- also once the executor's drop has begun, but of what is asked only before that
  pub has_unless : (o : Op) → (asks_open o ≡ true → s.world.gone ≡ false) → top (stack s p) ≡ Some o → Has s.world o
  has_unless (op.Move move.Release f) open_still is =
      ((needs s p (op.Move move.Release f) there is good).0.0, released f is)
  has_unless (op.Move move.TakeUp f) open_still is =
      ((needs s p (op.Move move.TakeUp f) there is good).0.0, taken_up f (open_still refl) is)
  has_unless (op.Move move.Detach f) open_still is =
      ((needs s p (op.Move move.Detach f) there is good).0.0, omega (arith, token_few f, (good.sound f).counted))
  has_unless (op.Move m f) open_still is = ((needs s p (op.Move m f) there is good).0.0, tt)
  has_unless (op.Queue (queue_op.Append f)) open_still is = queued f (open_still refl) is
  has_unless (op.Waker (waker_op.CopyWaker f held)) open_still is =
      (needs s p (op.Waker (waker_op.CopyWaker f held)) there is good, omega (arith, token_few f, (good.sound f).counted))
  has_unless (op.Waker (waker_op.CallAwaiter f a k)) open_still is =
      known_by s.world a (needs s p (op.Waker (waker_op.CallAwaiter f a k)) there is good)
  has_unless (op.Sleeper (sleeper_op.CallSleeper x)) open_still is =
      known_by s.world x.waker (needs s p (op.Sleeper (sleeper_op.CallSleeper x)) there is good)
  has_unless (op.Handle (handle_op.Look f a)) open_still is =
      (needs s p (op.Handle (handle_op.Look f a)) there is good, at_rest f)
  has_unless (op.Handle (handle_op.CopyAwaiter f a)) open_still is =
      can_copy a (needs s p (op.Handle (handle_op.CopyAwaiter f a)) there is good)
  has_unless (op.Tick (tick_op.Search x)) open_still is = searches x x.who refl is
  has_unless (op.Tick (tick_op.CopyWaker x)) open_still is =
      can_copy x.waker (needs s p (op.Tick (tick_op.CopyWaker x)) there is good)
  has_unless (op.Tick (tick_op.FallAsleep x)) open_still is = (alone x.who, run_lies x x.who refl is)
  has_unless (op.Tick (tick_op.WakeUp x)) open_still is = alone x
  has_unless (op.Tick (tick_op.Leave x)) open_still is = alone x
  has_unless (op.Closing closing_op.LeakOut) open_still is = open_still refl
  has_unless (op.Closing closing_op.LeakNext) open_still is =
      (open_still refl, λ f rest here. (needs s p (op.Closing closing_op.LeakNext) there is good f rest here).0)
  has_unless (op.Handle o) open_still is = needs s p (op.Handle o) there is good
  has_unless (op.List (list_op.LockRead x)) open_still is = walks x is
  has_unless (op.Run (run_op.WakeOwn x)) open_still is =
      known_by s.world x.waker (needs s p (op.Run (run_op.WakeOwn x)) there is good)
  has_unless (op.Steal (steal_op.Length x)) open_still is =
      (in_use x.poll.run (op.Steal (steal_op.Length x)) is (omega (arith, same_self x.poll.run))).1
  has_unless (op.Steal (steal_op.Take x more)) open_still is = steals x more is
  has_unless o open_still is = tt

  pub has_here : (o : Op) → s.world.gone ≡ false → top (stack s p) ≡ Some o → Has s.world o
  has_here o open_still is = has_unless o (λ asks. open_still) is

  -- a Runnable that comes to its queue finds a place there, and one that is dropped is that of a queued task
  placed : (f : ℕ) → top (stack s p) ≡ Some (op.Queue (queue_op.Append f))
      → nat_lt (length (queue_of s.world (mark_of s.world f)).items) s.world.limit ≡ true
  placed f is =
      below_test (length (queue_of s.world (mark_of s.world f)).items) s.world.limit
      (has-place s p f (below_top (stack s p)) there (topped (stack s p) (op.Queue (queue_op.Append f)) is) good
      (heard_here s reached).placed (mark_of s.world f))

  -- so it is where the queue is open
  pub appends_open : (f : ℕ) → (queue_of s.world (mark_of s.world f)).closed ≡ false → top (stack s p) ≡ Some (op.Queue (queue_op.Append f))
      → Has s.world (op.Queue (queue_op.Append f))
  appends_open f off is =
      let o = op.Queue (queue_op.Append f) in (
        below_of (length s.world.tasks) f (omega (
          arith,
          good.ops,
          split (past_of (length s.world.tasks)) s.parties p (o ∷ []) (below_top (stack s p)) there (topped (stack s p) o is),
        )),
        ap (λ b. not b && nat_lt (length (queue_of s.world (mark_of s.world f)).items) s.world.limit) off ∙ placed f is,
      )

  dropped : (f : ℕ) → top (stack s p) ≡ Some (op.Move move.DropRunnable f) → IsQueued (task s.world f)
  dropped f is =
      in_hand f
      (omega (
        arith,
        split (waiting_of f) s.parties p (op.Move move.DropRunnable f ∷ []) (below_top (stack s p)) there
            (topped (stack s p) (op.Move move.DropRunnable f) is),
        same_self f,
      ))

  -- whatever has begun
  pub has_in : (o : Op) → top (stack s p) ≡ Some o → HasIn s.world o
  has_in (op.Move move.Release f) is = ((needs s p (op.Move move.Release f) there is good).0.0, released f is)
  has_in (op.Move move.DropRunnable f) is = ((needs s p (op.Move move.DropRunnable f) there is good).0.0, dropped f is)
  has_in (op.Move m f) is = ((needs s p (op.Move m f) there is good).0.0, tt)
  has_in (op.Queue (queue_op.Append f)) is = placed f is
  has_in (op.Waker (waker_op.CallAwaiter f a k)) is =
      known_by s.world a (needs s p (op.Waker (waker_op.CallAwaiter f a k)) there is good)
  has_in (op.Closing closing_op.DropNext) is =
      λ f rest here. subst (λ n. f < n) good.fits.inside (needs s p (op.Closing closing_op.DropNext) there is good f rest here)
  has_in (op.Closing closing_op.WakeNext) is =
      λ f rest here. (needs s p (op.Closing closing_op.WakeNext) there is good f rest here).0
  has_in o is = tt
