-- With a call, made where each run has taken fewer than 200 since it last let others go first, and the ends of all the code that it comes
-- to, each run has so again.
use Rattle.std.proofs.Common.{◌≡◌, ℕ, nat_lt, Bool, true, false, [], ◌∷◌, ◌++◌, length, None}
use Rattle.std.proofs.Common.{slice_get, if◌then◌else◌, refl, subst, ◌∙◌}
use Rattle.executor_parts.specs.declared.mark.Mark.{Mark}
use Rattle.task_moves.specs.AbstractTask as abstract
use Rattle.task_moves.specs.AbstractTask.Polled.{Output as OutputOf, Cancelled as IsCancelled, Waits}
use Rattle.executor_model.specs.declared.op.Waker.{Waker}
use Rattle.executor_model.specs.declared.call.Call.{Call}
use Rattle.executor_model.specs.Steps.{is_drop, waker_of}
use Rattle.executor_model.specs.World.{World}
use Rattle.plain_scheduler.specs.State.{ATick, Choice, DropOwn}
use Rattle.plain_scheduler.specs.State.{Done, Finished, Made, NoMemory, Plain, PollOwn, Tick, Try, Full}
use Rattle.plain_scheduler.specs.Lists.{on, or}
use Rattle.plain_scheduler.specs.Moves.{answers, appended, becomes, copied, enters}
use Rattle.plain_scheduler.specs.Moves.{let_go, put, task, tell}
use Rattle.plain_scheduler.specs.Moves as plain
use Rattle.plain_scheduler.specs.Calls as calls
use Rattle.plain_scheduler.specs.Calls.{does, is_granted, living_from}
use Rattle.machine_roads.specs.View.{Output, wakes}
use Rattle.machine_roads.specs.Lone.{Ended, ends, over}
use Rattle.machine_roads.specs.Course.{GoesBy, IsCall, cancel, copy, detach, drop_executor, drop_handle, drop_run, drop_tick, is_empty}
use Rattle.machine_roads.specs.Course.{leak, new_run, new_tick, poll_handle, poll_run, poll_tick, release, spawn, try_tick, use_waker, wake}
use Rattle.machine_roads.proofs.Aside.{becomes_keeps, copied_keeps, goes_keeps, leaves_keeps, put_keeps}
use Rattle.machine_roads.proofs.FewTaken.{AllFew, AtRest, Counts, InCodes, code_ends, counts_at, counts_same}
use Rattle.machine_roads.proofs.FewTaken.{ended_by, pushed, rest_same, takes}
use Rattle.machine_roads.proofs.RunApart.{aside, called_sight, each_sight, sight, tell_sight}

-- all the code that it comes to ends
few_ended : (q z : Plain Output Waker) → Ended q z → Counts q → Counts z
few_ended q z (over r) few = few
few_ended q z (ends c e r s it many more) few = few_ended (does wakes c e q) z more (code_ends c e q it few)

-- an output that is there is dropped with its handle
detaches : (c : Choice) (q : Plain Output Waker) → AtRest q → (f : ℕ) → Counts (calls.detach wakes c f q)
detaches c q rest f =
    let left = abstract.detach (task f q) in
    let z = becomes wakes (tell wakes c) f left.task q in
    let k = rest_same q z (becomes_keeps sight aside c f left.task q) rest in
    ended_by c f (record left { task = task f z }) None z k.nowhere k.all

module _ (c : Choice) (q : Plain Output Waker) (rest : AtRest q) where
  still : (z : Plain Output Waker) → sight z ≡ sight q → Counts z
  still z same = counts_same q z same (counts_at q rest)

  cancelled_sight : (f : ℕ) → sight (calls.cancel wakes c f q) ≡ sight q
  cancelled_sight f =
      let left = abstract.cancel (task f q) in
      called_sight c left.called (becomes wakes (tell wakes c) f left.task q) ∙ becomes_keeps sight aside c f left.task q

  spawns : (m : Mark) → Counts (does wakes c (calls.Spawn m) q)
  spawns m = by (nat_lt (length (living_from 0 q.futures)) q.limit) (is_granted c.refusal)
    where
      z : Plain Output Waker
      z = appended (length q.futures) (calls.entered wakes c m q)

      by : (a b : Bool)
          → Counts (if a then (if b then answers Made (tell wakes c z) else answers NoMemory q) else answers Full q)
      by true true = still (answers Made (tell wakes c z)) (tell_sight c z)
      by true false = still (answers NoMemory q) refl
      by false b = still (answers Full q) refl

  copies : (f : ℕ) → Counts (does wakes c (calls.Copy f) q)
  copies f = by (is_granted c.refusal)
    where
      z : Plain Output Waker
      z = put f (abstract.copy (task f q)) q

      by : (b : Bool) → Counts (if b then answers Made z else answers NoMemory q)
      by true = still (answers Made z) (put_keeps sight aside f (abstract.copy (task f q)) q)
      by false = still (answers NoMemory q) refl

  handles : (f : ℕ) (a : Waker) → Counts (does wakes c (calls.PollHandle f a) q)
  handles f a = by (abstract.polled (task f q))
    where
      registers : (p : Plain Output Waker) (e : abstract.Left Output Waker)
          → sight (on e.let_go (let_go wakes (tell wakes c)) (put f e.task p)) ≡ sight p
      registers p e = goes_keeps sight aside c e.let_go (put f e.task p) ∙ put_keeps sight aside f e.task p

      whether : (b : Bool) → Counts (if b then calls.registered wakes c f a (copied wakes a q) else answers NoMemory q)
      whether true =
          still (calls.registered wakes c f a (copied wakes a q))
          (registers (copied wakes a q) (abstract.poll a (task f (copied wakes a q))) ∙ copied_keeps sight aside a q)
      whether false = still (answers NoMemory q) refl

      by : (e : abstract.Polled Output) → Counts (calls.handle_by wakes c f a e q)
      by (OutputOf v) =
          still (calls.handle_by wakes c f a (OutputOf v) q) (put_keeps sight aside f (abstract.poll a (task f q)).task q)
      by IsCancelled = still (calls.handle_by wakes c f a IsCancelled q) refl
      by Waits = whether (is_granted c.refusal)

  made : (b : Bool) (z : Plain Output Waker) → Counts z → Counts (if b then z else answers NoMemory q)
  made true z few = few
  made false z few = still (answers NoMemory q) refl

  run_goes : (r : ℕ) → Counts (does wakes c (calls.DropRun r) q)
  run_goes r = by (or (slice_get q.runs r) (λ run. run.is_over) true)
    where
      by : (b : Bool) → Counts (if b then answers Done q else enters (DropOwn r Done) q)
      by true = still (answers Done q) refl
      by false = (rest.all, rest.nowhere)

  run_polled : (r : ℕ) (a : Waker) → Counts (does wakes c (calls.PollRun r a) q)
  run_polled r a = by (or (slice_get q.runs r) (λ run. run.is_over) true)
    where
      by : (b : Bool) → Counts (if b then answers Finished q else enters (PollOwn r a) q)
      by true = still (answers Finished q) refl
      by false = (rest.all, rest.nowhere)

  freed_sight : (f : ℕ) (p : Plain Output Waker) → sight (calls.freed wakes c f p) ≡ sight p
  freed_sight f p =
      let z = plain.wake wakes (tell wakes c) f p in
      becomes_keeps sight aside c f (abstract.release (task f z)) z ∙ becomes_keeps sight aside c f (abstract.wake (task f p)) p

  begins : (w : World) (x : Call) (y : calls.Call Output Waker) → IsCall w x y → is_drop x ≡ false
      → Counts (does wakes c y q)
  begins w x y (spawn m) drops = spawns m
  begins w x y try_tick drops = takes c Try q rest
  begins w x y is_empty drops = counts_at q rest
  begins w x y (use_waker k f is) drops =
      still (does wakes c (calls.Use f) q) (becomes_keeps sight aside c f (abstract.release (abstract.wake (task f q))) q)
  begins w x y (wake k f is) drops =
      still (does wakes c (calls.Wake f) q) (becomes_keeps sight aside c f (abstract.wake (task f q)) q)
  begins w x y (copy k f is) drops = copies f
  begins w x y (release k f is) drops =
      still (does wakes c (calls.Release f) q) (becomes_keeps sight aside c f (abstract.release (task f q)) q)
  begins w x y (poll_handle f b) drops = handles f (waker_of None b)
  begins w x y (cancel f) drops = still (does wakes c (calls.Cancel f) q) (cancelled_sight f)
  begins w x y (detach f) drops = detaches c q rest f
  begins w x y (drop_handle f) drops =
      let z = calls.cancel wakes c f q in detaches c z (rest_same q z (cancelled_sight f) rest) f
  begins w x y new_tick drops = made (is_granted c.refusal) (answers Made q) (counts_at q rest)
  begins w x y (poll_tick t b) drops = takes c (Tick t (waker_of None b)) q rest
  begins w x y (drop_tick t) drops = still (does wakes c (calls.DropTick t) q) (leaves_keeps sight aside c (ATick t) q)
  begins w x y new_run drops =
      let z : Plain Output Waker = record q { runs = q.runs ++ record { taken = 0; is_over = false } ∷ [] } in
      made (is_granted c.refusal) (answers Made z)
      (counts_at z (record { nowhere = rest.nowhere; all = pushed q.runs rest.all }))
  begins w x y (poll_run r b) drops = run_polled r (waker_of None b)
  begins w x y (drop_run r) drops = run_goes r
  begins w x y leak drops =
      still (does wakes c calls.Leak q)
      (each_sight c (living_from 0 q.futures) (calls.freed wakes c) freed_sight (record q { is_static = true }))
  begins w x y drop_executor drops = absurd cc

pub few_after : (w : World) (x : Call) (q z : Plain Output Waker) → is_drop x ≡ false → GoesBy w x q z → q.inside ≡ [] → AllFew q.runs
    → AllFew z.runs
few_after w x q z drops goes nowhere all =
    subst (λ codes. InCodes codes z.runs) (goes.inside ∙ nowhere)
    (few_ended (does wakes goes.choice goes.made q) z goes.ended
    (begins goes.choice q (record { nowhere = nowhere; all = all }) w x goes.made goes.is drops))
