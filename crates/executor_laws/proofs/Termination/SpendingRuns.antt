-- For calls_end and lone_calls_end.
-- What a run does spends a step of those that remain, or one of its walk.
use Rattle.std.proofs.Common.{◌≡◌, ℕ, zero, suc, ◌+◌, ◌-◌, ◌*◌, ◌<◌, ◌≤◌, ◌/◌, ◌%◌, List, [], ◌∷◌, ◌++◌, length, set, get_or}
use Rattle.std.proofs.Common.{get_or-set_same, Bool, true, false, ltb, eqb, cond, refl, ap, ◌∙◌, arith}
use Rattle.std.proofs.lemmas.Bool.Decides.{nat_tests}
use Rattle.queue_steps.specs.ClosableQueue.{taken}
use Rattle.executor_model.specs.{Acts.mark_in, ActsOfSleepers.found_by, Doing.list_act, Doing.run_act, Doing.steal_act}
use Rattle.executor_model.specs.{Good.CanWake, Good.RunNeeds, Rows.running_of, Weights.is_run, Weights.same, Weights.weigh}
use Rattle.executor_model.proofs.{Steps.QueuesByMark.length-first, Steps.Lists.same_is, Steps.Lists.weigh-append}
use Rattle.executor_laws.proofs.{Termination.SpendingActs.kept-turned, Termination.Beside.by_reference}
use Rattle.executor_laws.proofs.Types.{Look, First, Second, Reply, Event, Hold, ListOp, Op, Polled, RunOp, RunPoll, Section, TickOrRun}
use Rattle.executor_laws.proofs.Types.{SleeperOp, Sleeping, Source, Common, Own, Steal, StealOp, Then, TickOp, Waker, Task, Outside, Hint}
use Rattle.executor_model.specs.World.{put_queue, queue_of, Ticker, Awake, Asleep, Left, Lock, World, Stage, New, Listed, Ended, Run, Done}
use Rattle.executor_model.specs.World.{log, no_run, new_run, run_of, put_run, own_of, put_own, task}
use Rattle.executor_laws.specs.Costs.{left_by, steps_of, steps_of_search, steps_then, walk_of, walk_then}
use Rattle.executor_laws.specs.Remaining.{steps_kept, steps_of_place, steps_of_runs}
use Rattle.executor_model.proofs.OwnQueues.RunsAside.{runs_of, unseen}
use Rattle.executor_model.proofs.OwnQueues.RunsMoving.{Weighs, walk-by, weighs-found, weighs-stolen, nothing-by}
use Rattle.executor_laws.proofs.Termination.Spending.{length-less, Spends, kept-log, kept-parts, costs-wake, spends-logged}
use Rattle.executor_laws.proofs.Termination.SpendingTicks.{notified-back, wakes_up-steps}
use Rattle.task_moves.specs.Moves as moves
use Rattle.executor_model.specs.ActsOfRuns as runs

-- what is left after it and one step came out of what was left; or as much is left, and a step less of the walk
pub data Pays (w : World) (o : Op) (d : Done) : Type 0 where
  spends : steps_kept d.world + (weigh steps_of d.next + 46 * weigh (left_by d.world) d.next) + 1
      ≤ steps_kept w + (steps_of o + 46 * left_by w o) →
      weigh walk_of d.next ≤ 1030 * length w.listed + 1026 → Pays w o d
  walks : steps_kept d.world + (weigh steps_of d.next + 46 * weigh (left_by d.world) d.next)
      ≤ steps_kept w + (steps_of o + 46 * left_by w o) →
      weigh walk_of d.next + 1 ≤ walk_of o → Pays w o d

-- no run has taken 200 without letting others go first
abbrev pub TakesFew : World → Type 0
TakesFew w = (r : ℕ) → (run_of w r).taken < 200

-- what it speaks of is there, and own queues have as much room as they need
pub record CanPay (w : World) (o : Op) : Type 0 where
  pub few : TakesFew w
  pub born : (r : ℕ) → 1 ≤ running_of r o → r < length w.runs
  pub short : (r : ℕ) → length (own_of w r) ≤ 512
  pub room : (s : Steal) (more f : ℕ) → o ≡ Op.Steal (StealOp.Put s more f) →
      ltb 0 (runs.free_places w s.poll.run) ≡ true

-- the runs

runs-set : (rs : List Run) (r : ℕ) (x : Run) → r < length rs →
    steps_of_runs (set rs r x) + steps_of_place (get_or rs r no_run) ≡ steps_of_runs rs + steps_of_place x
runs-set [] r x l = absurd (omega (arith, l))
runs-set (y ∷ rs) zero x l = omega arith
runs-set (y ∷ rs) (suc r) x l = omega (arith, runs-set rs r x (omega (arith, l)))

runs-same : (rs : List Run) (r : ℕ) (x : Run) → steps_of_place x ≡ steps_of_place (get_or rs r no_run) →
    steps_of_runs (set rs r x) ≡ steps_of_runs rs
runs-same [] r x e = refl
runs-same (y ∷ rs) zero x e = omega (arith, e)
runs-same (y ∷ rs) (suc r) x e = omega (arith, runs-same rs r x e)

runs-push : (rs : List Run) (x : Run) → steps_of_runs (rs ++ x ∷ []) ≡ steps_of_runs rs + steps_of_place x
runs-push [] x = omega arith
runs-push (y ∷ rs) x = omega (arith, runs-push rs x)

kept-run : (w : World) (r : ℕ) (x : Run) → r < length w.runs →
    steps_kept (put_run w r x) + steps_of_place (run_of w r) ≡ steps_kept w + steps_of_place x
kept-run w r x l = omega (arith, kept-parts w, kept-parts (put_run w r x), runs-set w.runs r x l)

kept-run_as : (w : World) (r : ℕ) (x : Run) → steps_of_place x ≡ steps_of_place (run_of w r) →
    steps_kept (put_run w r x) ≡ steps_kept w
kept-run_as w r x e = omega (arith, kept-parts w, kept-parts (put_run w r x), runs-same w.runs r x e)

kept-put_own : (w : World) (r : ℕ) (q : List ℕ) → steps_kept (put_own w r q) ≡ steps_kept w
kept-put_own w r q = omega (arith, kept-parts w, kept-parts (put_own w r q))

-- what is found

kept-run_by : (b : Bool) (w : World) (x : RunPoll) (f : ℕ) → x.run < length w.runs → (run_of w x.run).taken < 200 →
    eqb ((run_of w x.run).taken + 1) 200 ≡ b →
    steps_kept (runs.run_by b w x f).world + weigh steps_of (runs.run_by b w x f).next ≤ steps_kept w + 32040
kept-run_by true w x f l k e =
    let last : (run_of w x.run).taken + 1 ≡ 200 = grind (arith, nat_tests) in
    omega (arith, last, kept-run w x.run (record (run_of w x.run) { taken = 0 }) l)
kept-run_by false w x f l k e =
    let more : (run_of w x.run).taken + 1 < 200 = grind (arith, nat_tests) in
    omega (arith, more, kept-run w x.run (record (run_of w x.run) { taken = (run_of w x.run).taken + 1 }) l)

run-now : (w : World) (r : ℕ) (x : Run) → r < length w.runs → run_of (put_run w r x) r ≡ x
run-now w r x l = get_or-set_same w.runs r x no_run l

count-set : (rs : List Run) (r : ℕ) (x : Run) → length (set rs r x) ≡ length rs
count-set [] r x = refl
count-set (y ∷ rs) zero x = refl
count-set (y ∷ rs) (suc r) x = omega (arith, count-set rs r x)

kept-counted : (b : Bool) (w : World) (x : RunPoll) (f : ℕ) → x.run < length w.runs → (run_of w x.run).taken < 200 →
    steps_kept (runs.counted_by b w x f).world + weigh steps_of (runs.counted_by b w x f).next ≤ steps_kept w + 32042
kept-counted true w x f l k = omega (arith, kept-run_as w x.run (record (run_of w x.run) { counted = 0 }) refl)
kept-counted false w x f l k =
    let y : Run = record (run_of w x.run) { counted = (run_of w x.run).counted + 1 } in
    let v : World = put_run w x.run y in
    omega (
      arith,
      kept-run_as w x.run y refl,
      kept-run_by (eqb ((run_of v x.run).taken + 1) 200) v x f (omega (arith, l, count-set w.runs x.run y))
          (omega (arith, k, ap (λ (z : Run). z.taken) (run-now w x.run y l))) refl,
    )

kept-found : (w : World) (x : RunPoll) (f : ℕ) → x.run < length w.runs → (run_of w x.run).taken < 200 →
    steps_kept (runs.found w x f).world + weigh steps_of (runs.found w x f).next ≤ steps_kept w + 32094
kept-found w x f l k =
    let tells : List Op = Op.Sleeper SleeperOp.ExchangeFlag ∷ [] in
    let first : List Op = found_by (run_of w x.run).place (TickOrRun.Run x.run) tells in
    let b : Bool = eqb ((run_of w x.run).counted + 1) 64 in
    omega (
      arith,
      weigh-append steps_of first (runs.counted_by b w x f).next,
      wakes_up-steps (run_of w x.run).place (TickOrRun.Run x.run) tells,
      kept-counted b w x f l k,
    )

walk-run_by : (b : Bool) (w : World) (x : RunPoll) (f : ℕ) → weigh walk_of (runs.run_by b w x f).next ≤ 4
walk-run_by true w x f = omega arith
walk-run_by false w x f = omega arith

walk-counted : (b : Bool) (w : World) (x : RunPoll) (f : ℕ) → weigh walk_of (runs.counted_by b w x f).next ≤ 1026
walk-counted true w x f = omega arith
walk-counted false w x f =
    let v : World = runs.counted_to w x.run ((run_of w x.run).counted + 1) in
    omega (arith, walk-run_by (eqb ((run_of v x.run).taken + 1) 200) v x f)

walk-wakes_up : (p : Ticker) (who : TickOrRun) →
    weigh walk_of (found_by p who (Op.Sleeper SleeperOp.ExchangeFlag ∷ [])) ≡ 0
walk-wakes_up Awake who = refl
walk-wakes_up (Asleep n) who = refl
walk-wakes_up Left who = refl

walk-found : (w : World) (x : RunPoll) (f : ℕ) → weigh walk_of (runs.found w x f).next ≤ 1026
walk-found w x f =
    let tells : List Op = Op.Sleeper SleeperOp.ExchangeFlag ∷ [] in
    let first : List Op = found_by (run_of w x.run).place (TickOrRun.Run x.run) tells in
    let b : Bool = eqb ((run_of w x.run).counted + 1) 64 in
    omega (
      arith,
      weigh-append walk_of first (runs.counted_by b w x f).next,
      walk-wakes_up (run_of w x.run).place (TickOrRun.Run x.run),
      walk-counted b w x f,
    )

-- nothing of it is left to schedule
left-found : (v : World) (x : RunPoll) → Weighs (left_by v) x 0 0
left-found v x = record {
  exchange = refl;
  up = λ who. refl;
  take_up = λ f. refl;
  search = refl;
  wake = refl;
  steal = λ f. refl;
  steal_plain = λ f. refl;
  look = λ at left. refl;
}

left-stolen : (v : World) (t : Then) (w : World) (x : RunPoll) → weigh (left_by v) (runs.stolen t w x).next ≡ 0
left-stolen v t w x = weighs-stolen (left_by v) x 0 0 (left-found v x) t w ∙ nothing-by t

-- a steal has ended, and the world v came of w
pays-stolen : (o : Op) (t : Then) (w v : World) (x : RunPoll) → x.run < length v.runs → (run_of v x.run).taken < 200 →
    steps_kept v ≤ steps_kept w →
    steps_of o ≡ steps_then t → walk_then t + 1 ≤ walk_of o → Pays w o (runs.stolen t v x)
pays-stolen o (Then.Found f) w v x l k i e n =
    let d : Done = runs.found v x f in
    spends (omega (arith, i, e, kept-found v x f l k, left-stolen d.world (Then.Found f) v x))
    (omega (arith, walk-found v x f))
pays-stolen o (Then.StealPlain f) w v x l k i e n = spends (omega (arith, i, e)) (omega arith)
pays-stolen o (Then.Run f) w v x l k i e n =
    let b : Bool = eqb ((run_of v x.run).taken + 1) 200 in
    let d : Done = runs.run_by b v x f in
    spends (omega (arith, i, e, kept-run_by b v x f l k refl, left-stolen d.world (Then.Run f) v x))
    (omega (arith, walk-run_by b v x f))
pays-stolen o (Then.Walk at left) w v x l k i e n = walks (omega (arith, i, e)) (omega (arith, n))

-- stealing

share-few : (n free : ℕ) → runs.share n free ≤ free
share-few n free = by (ltb ((n + 1) / 2) free) refl
  where
    by : (b : Bool) → ltb ((n + 1) / 2) free ≡ b → cond b ((n + 1) / 2) free ≤ free
    by true e = grind (arith, nat_tests)
    by false e = omega arith

free-few : (w : World) (r : ℕ) → runs.free_places w r ≤ 512
free-few w r = by (ltb r (length w.own))
  where
    by : (b : Bool) → cond b 512 0 - length (own_of w r) ≤ 512
    by true = omega arith
    by false = omega arith

pays-length : (n : ℕ) (w : World) (s : Steal) → CanPay w (Op.Steal (StealOp.Length s)) →
    Pays w (Op.Steal (StealOp.Length s)) (runs.steal_length_by n w s)
pays-length zero w s c =
    pays-stolen (Op.Steal (StealOp.Length s)) s.then w w s.poll
    (c.born s.poll.run (grind (arith, same_is))) (c.few s.poll.run) (omega arith) refl (omega arith)
pays-length (suc n) w s c = walks (omega arith) (omega arith)

pays-own_length : (k n : ℕ) (w : World) (s : Steal) → k ≤ 512 → CanPay w (Op.Steal (StealOp.OwnLength s n)) →
    Pays w (Op.Steal (StealOp.OwnLength s n)) (runs.steal_by k w s)
pays-own_length zero n w s l c =
    pays-stolen (Op.Steal (StealOp.OwnLength s n)) s.then w w s.poll
    (c.born s.poll.run (grind (arith, same_is))) (c.few s.poll.run) (omega arith) refl (omega arith)
pays-own_length (suc k) n w s l c = walks (omega arith) (omega (arith, l))

pays-take : (from : Source) (q : List ℕ) (w : World) (s : Steal) (more : ℕ) → s.from ≡ from →
    runs.source_of w from ≡ q → CanPay w (Op.Steal (StealOp.Take s more)) →
    Pays w (Op.Steal (StealOp.Take s more)) (runs.steal_take_by q w s more)
pays-take from [] w s more i e c =
    pays-stolen (Op.Steal (StealOp.Take s more)) s.then w w s.poll
    (c.born s.poll.run (grind (arith, same_is))) (c.few s.poll.run) (omega arith) refl (omega arith)
pays-take from (f ∷ rest) w s more i e c = walks (omega (arith, by s.from)) (omega arith)
  where
    by : (a : Source) → steps_kept (runs.without_first w a rest) ≤ steps_kept w
    by (Common mark) = omega (
      arith,
      kept-parts w,
      kept-parts (put_queue w mark (taken (queue_of w mark))),
      length-less mark w.queues,
    )
    by (Own r) = omega (arith, kept-put_own w r rest)

kept-kept : (p : ℕ) (w : World) (r f : ℕ) → steps_kept (runs.kept_by p w r f) ≡ steps_kept w
kept-kept p w r f =
    kept-log (put_own w r (own_of w r ++ f ∷ [])) (Event.Kept p f r) ∙ kept-put_own w r (own_of w r ++ f ∷ [])

pays-put : (b : Bool) (p : ℕ) (w : World) (s : Steal) (more f : ℕ) → b ≡ true →
    CanPay w (Op.Steal (StealOp.Put s more f)) →
    Pays w (Op.Steal (StealOp.Put s more f)) (runs.steal_put_by b p w s more f)
pays-put false p w s more f e c = absurd (cc)
pays-put true p w s zero f e c =
    pays-stolen (Op.Steal (StealOp.Put s zero f)) s.then w (runs.kept_by p w s.poll.run f) s.poll
    (c.born s.poll.run (grind (arith, same_is))) (c.few s.poll.run) (omega (arith, kept-kept p w s.poll.run f)) refl
    (omega arith)
pays-put true p w s (suc more) f e c = walks (omega (arith, kept-kept p w s.poll.run f)) (omega arith)

pub pays-steal : (p : ℕ) (o : StealOp) (w : World) → CanPay w (Op.Steal o) → Pays w (Op.Steal o) (steal_act p o w)
pays-steal p (StealOp.Length s) w c = pays-length _ w s c
pays-steal p (StealOp.OwnLength s n) w c =
    let free : ℕ = runs.free_places w s.poll.run in
    pays-own_length (runs.share n free) n w s (omega (arith, share-few n free, free-few w s.poll.run)) c
pays-steal p (StealOp.Take s more) w c = pays-take s.from _ w s more refl refl c
pays-steal p (StealOp.Put s more f) w c = pays-put _ p w s more f (c.room s more f refl) c

-- searching

pub pays-own : (q : List ℕ) (w : World) (s : Sleeping) (r : ℕ) → s.who ≡ TickOrRun.Run r →
    CanPay w (Op.Tick (TickOp.Search s)) →
    Pays w (Op.Tick (TickOp.Search s)) (runs.search_own_by q w (record { run = r; waker = s.waker; poll = s.poll }))
pays-own [] w s r i c = walks (omega (arith, ap steps_of_search i)) (omega arith)
pays-own (f ∷ rest) w s r i c =
    let x : RunPoll = record { run = r; waker = s.waker; poll = s.poll } in
    let v : World = put_own w r rest in
    let d : Done = runs.found v x f in
    let l : r < length w.runs =
    c.born r (omega (arith, ap (is_run r) i, (let e : same r r ≡ 1 = grind (arith, same_is) in e))) in
    spends (omega (
      arith,
      ap steps_of_search i,
      kept-put_own w r rest,
      kept-found v x f l (c.few r),
      weighs-found (left_by d.world) x 0 0 (left-found d.world x) v f,
    ))
    (omega (arith, walk-found v x f))

steps-walk : (x : RunPoll) (qs : List ℕ) (at left : ℕ) → weigh steps_of (runs.walk x qs at left) ≤ 32104
steps-walk x = walk-by (λ os. weigh steps_of os ≤ 32104) x (omega arith) (λ r at left. omega arith)

left-walk : (v : World) (x : RunPoll) (qs : List ℕ) (at left : ℕ) → weigh (left_by v) (runs.walk x qs at left) ≡ 0
left-walk v x = walk-by (λ os. weigh (left_by v) os ≡ 0) x refl (λ r at left. refl)

walk-walk : (x : RunPoll) (qs : List ℕ) (at left : ℕ) → weigh walk_of (runs.walk x qs at left) ≤ 1030 * left + 1
walk-walk x qs at zero = omega arith
walk-walk x qs at (suc left) = by (eqb (runs.queue_at qs at) x.run) (walk-walk x qs (runs.next_place qs at) left)
  where
    by : (b : Bool) → weigh walk_of (runs.walk x qs (runs.next_place qs at) left) ≤ 1030 * left + 1 →
        weigh walk_of (let h : List Op = elim b [
          | true ↦ runs.walk x qs (runs.next_place qs at) left
          | false ↦ Op.Steal (StealOp.Length (record {
            poll = x;
            from = Own (runs.queue_at qs at);
            then = Then.Walk (runs.next_place qs at) left;
          })) ∷ []
        ] in h) ≤ 1030 * suc left + 1
    by true z = omega (arith, z)
    by false z = omega arith

pays-look : (q : List ℕ) (w : World) (x : RunPoll) (at left : ℕ) → CanPay w (Op.Run (RunOp.LookOwn x at left)) →
    Pays w (Op.Run (RunOp.LookOwn x at left)) (runs.look_own_by q w x at left)
pays-look [] w x at left c =
    walks (omega (arith, steps-walk x w.listed at left, left-walk w x w.listed at left))
    (omega (arith, walk-walk x w.listed at left))
pays-look (f ∷ rest) w x at left c =
    let v : World = put_own w x.run rest in
    let d : Done = runs.found v x f in
    spends (omega (
      arith,
      kept-put_own w x.run rest,
      kept-found v x f (c.born x.run (grind (arith, same_is))) (c.few x.run),
      weighs-found (left_by d.world) x 0 0 (left-found d.world x) v f,
    ))
    (omega (arith, walk-found v x f))

pays-common : (look : Look) (q : List ℕ) (w : World) (x : RunPoll) → (queue_of w (mark_in look)).items ≡ q →
    Pays w (Op.Run (RunOp.SearchCommon x look)) (runs.search_common_by q w x look)
pays-common (First mark) [] w x e = walks (omega arith) (omega arith)
pays-common (Second mark) [] w x e = walks (omega arith) (omega arith)
pays-common look (f ∷ rest) w x e =
    spends (omega (
      arith,
      kept-parts w,
      kept-parts (put_queue w (mark_in look) (taken (queue_of w (mark_in look)))),
      length-first f rest (mark_in look) w.queues e,
    ))
    (omega arith)

-- its own waker, and what is left

pub unleft : (v : World) (o : Op) → runs_of o ≡ 0 → left_by v o ≡ 0
unleft v (Op.Run o) z = absurd (omega (arith, z))
unleft v _ z = refl

pub unwalked : (o : Op) → runs_of o ≡ 0 → walk_of o ≡ 0
unwalked (Op.Tick o) z = absurd (omega (arith, z))
unwalked (Op.Steal o) z = absurd (omega (arith, z))
unwalked (Op.Run o) z = absurd (omega (arith, z))
unwalked _ z = refl

pays-call : (p : ℕ) (w : World) (a : Waker) → CanWake w a → Spends w 13 (runs.call_by_reference p w a)
pays-call p w (Task g) l =
    spends-logged _ w (Event.Woken p g) g 13 (moves.wake_by_reference (task w g)) l.0 (costs-wake _ _ (task w g) refl)
pays-call p w (Outside y) l = omega arith

pays-wake : (p : ℕ) (w : World) (x : RunPoll) → CanWake w x.waker →
    Pays w (Op.Run (RunOp.WakeOwn x)) (runs.wake_own p w x)
pays-wake p w x l =
    let e = Event.WakerCalled p (Polled.Run x.run) x.poll x.waker in
    let v : World = log w e in
    let d : Done = runs.call_by_reference p v x.waker in
    let end : List Op = Op.End Reply.Pending (Hold.Run x.run) ∷ [] in
    spends (omega (
      arith,
      kept-log w e,
      pays-call p v x.waker (woken x.waker l),
      weigh-append steps_of d.next end,
      weigh-append (left_by d.world) d.next end,
      unseen (left_by d.world) (unleft d.world) d.next (by_reference p v x.waker).1,
    ))
    (omega (arith, weigh-append walk_of d.next end, unseen walk_of unwalked d.next (by_reference p v x.waker).1))
  where
    woken : (a : Waker) → CanWake w a → CanWake (log w (Event.WakerCalled p (Polled.Run x.run) x.poll x.waker)) a
    woken (Task g) k = k
    woken (Outside y) k = k

own-now : (qs : List (List ℕ)) (r : ℕ) (q : List ℕ) → length (get_or (set qs r q) r []) ≤ length q
own-now [] r q = omega arith
own-now (x ∷ qs) zero q = omega arith
own-now (x ∷ qs) (suc r) q = own-now qs r q

pays-reschedule : (q : List ℕ) (w : World) (r : ℕ) (a : Reply) → own_of w r ≡ q →
    Pays w (Op.Run (RunOp.Reschedule r a)) (runs.reschedule_by q w r a)
pays-reschedule [] w r a e = spends (omega arith) (omega arith)
pays-reschedule (f ∷ rest) w r a e =
    spends (omega (arith, kept-put_own w r rest, ap length e, own-now w.own r rest)) (omega arith)

pays-room : (b : Bool) (w : World) → Pays w (Op.Run RunOp.MakeRoom) (runs.make_room_by b w)
pays-room true w = spends (omega arith) (omega arith)
pays-room false w =
    spends (omega (arith, kept-parts w, kept-parts (runs.make_room_by false w).world)) (omega arith)

pays-return : (w : World) → Pays w (Op.Run RunOp.ReturnRoom) (runs.return_room w)
pays-return w =
    spends (omega (arith, kept-parts w, kept-parts (runs.return_room w).world, notified-back w.sleepers)) (omega arith)

pub pays-run : (p : ℕ) (h : Hint) (o : RunOp) (w : World) → RunNeeds w o → CanPay w (Op.Run o) →
    Pays w (Op.Run o) (run_act p h o w)
pays-run p h RunOp.MakeRoom w n c = pays-room _ w
pays-run p h RunOp.ReturnRoom w n c = pays-return w
pays-run p h (RunOp.TakeTurn x) w n c = walks (omega (arith, kept-turned p w)) (omega arith)
pays-run p h (RunOp.SearchCommon x look) w n c = pays-common look _ w x refl
pays-run p h (RunOp.LookOwn x at left) w n c = pays-look _ w x at left c
pays-run p h (RunOp.WakeOwn x) w n c = pays-wake p w x n
pays-run p h (RunOp.Reschedule r a) w n c = pays-reschedule _ w r a refl

-- the list

pays-make : (b : Bool) (w : World) → Pays w (Op.List (ListOp.Write Section.MakeRun)) (runs.make_run_by b w)
pays-make true w = spends (omega arith) (omega arith)
pays-make false w =
    spends (omega (arith, kept-parts w, kept-parts (runs.make_run_by false w).world, runs-push w.runs new_run))
    (omega arith)

kept-registered : (t : Stage) (w : World) (r : ℕ) → steps_kept (runs.registered t w r) ≡ steps_kept w
kept-registered New w r =
    let x : Run = record (run_of w r) { stage = Listed } in
    omega (arith, kept-parts w, kept-parts (runs.registered New w r), runs-same w.runs r x refl)
kept-registered Listed w r = refl
kept-registered Ended w r = refl

kept-unregistered : (w : World) (r : ℕ) → steps_kept (runs.unregistered w r) ≡ steps_kept w
kept-unregistered w r =
    let x : Run = record (run_of w r) { stage = Ended } in
    omega (arith, kept-parts w, kept-parts (runs.unregistered w r), runs-same w.runs r x refl)

kept-lock : (w : World) (l : Lock) → steps_kept (record w { lock = l }) ≡ steps_kept w
kept-lock w l = omega (arith, kept-parts w, kept-parts (record w { lock = l }))

pub pays-list : (h : Hint) (o : ListOp) (w : World) → CanPay w (Op.List o) → Pays w (Op.List o) (list_act h o w)
pays-list h (ListOp.LockWrite s) w c =
    spends (omega (arith, kept-lock w (record w.lock { writing = true }))) (omega arith)
pays-list h (ListOp.Write Section.MakeRun) w c = pays-make _ w
pays-list h (ListOp.Write (Section.Register x)) w c =
    spends (omega (arith, kept-registered (run_of w x.run).stage w x.run)) (omega arith)
pays-list h (ListOp.Write (Section.Unregister r a)) w c =
    spends (omega (arith, kept-unregistered w r, c.short r)) (omega arith)
pays-list h ListOp.UnlockWrite w c =
    spends (omega (arith, kept-lock w (record w.lock { writing = false }))) (omega arith)
pays-list h (ListOp.LockRead x) w c =
    let d : Done = runs.lock_read h w x in
    let at : ℕ = h.start % length w.listed in
    spends (omega (
      arith,
      kept-lock w d.world.lock,
      steps-walk x w.listed at (length w.listed),
      left-walk d.world x w.listed at (length w.listed),
    ))
    (omega (arith, walk-walk x w.listed at (length w.listed)))
pays-list h ListOp.UnlockRead w c =
    spends (omega (arith, kept-lock w (record w.lock { readers = w.lock.readers - 1 }))) (omega arith)
