-- For own_queues_agree and awaiters_are_kept.
-- What is done of ticks and runs, by what it changes of the runs' hull and by what follows that counts in a law of runs:
-- once for all laws that speak of these.
use Rattle.std.proofs.Common.{◌≡◌, ℕ, zero, suc, ◌+◌, ◌/◌, ◌≤◌, List, [], ◌∷◌, ◌++◌, Bool, true, false, eqb, ltb, cond, refl}
use Rattle.std.proofs.Common.{sym, subst, arith, ◌∙◌}
use Rattle.std.proofs.lemmas.Bool.Decides.{nat_tests}
use Rattle.std.specs.Prelude.{Option, Some, None, is_none}
use Rattle.executor_parts.{specs.Sleepers.waker_at, specs.Sleepers.waker_of, specs.Marks.first_of, specs.Marks.other}
use Rattle.executor_model.proofs.Types.{Mark, Plain, Urgent, Look, First, Second, Move, Reply, Event, Hold, ListOp, Op, Polled}
use Rattle.executor_model.proofs.Types.{RunOp, RunPoll, Section, TickOrRun, SleeperOp, Sleeping, Source, Common, Own, Steal}
use Rattle.executor_model.proofs.Types.{StealOp, Then, TickOp, UserOp, Waker, Task, Outside, Hint}
use Rattle.executor_model.specs.ActsOfSleepers.{copy_sleeper_by, found_by, wake_up_by, leave_sleepers_by, sleep_again_by}
use Rattle.executor_model.specs.ActsOfSleepers.{sleep_anew_by, fall_asleep_by, sleep_listed_by, make_tick_by, pend_as}
use Rattle.executor_model.specs.World.{World, Ticker, Awake, Asleep, Left, Done, log, own_of, place_of, put_own, queue_of}
use Rattle.executor_model.specs.Acts.{is_copy_refused, mark_in, waker_goes}
use Rattle.executor_model.specs.ActsOfSleepers.{look_tick_by, sleeper_goes, tell_and_return}
use Rattle.executor_model.specs.Doing.{act, list_act, run_act, search_by_who, steal_act, tick_act}
use Rattle.executor_model.specs.{OwnQueues.walks_steal, OwnQueues.walks_then, Weights.weigh, World.run_of}
use Rattle.executor_model.proofs.OwnQueues.RunsMoving.{coat-found, coat-more, coat-refused, coat-search, coat-stolen, coat-tick, is_search}
use Rattle.executor_model.proofs.OwnQueues.RunsAside.{apart-act, coat, is_run, runs_of}
use Rattle.executor_model.proofs.{Steps.Lift.no_hint, OwnQueues.RunsMoving.walk-by}
use Rattle.executor_model.specs.ActsOfRuns as runs

-- what counts in a law of runs: parts of a poll, of the making and of the drop of one

abbrev pub is_loud_tick : TickOp → Bool
is_loud_tick (TickOp.Search s) = true
is_loud_tick (TickOp.Look s look) = true
is_loud_tick (TickOp.CopyWaker s) = true
is_loud_tick (TickOp.FallAsleep s) = true
is_loud_tick _ = false

abbrev pub is_loud_run : RunOp → Bool
is_loud_run RunOp.MakeRoom = false
is_loud_run RunOp.ReturnRoom = false
is_loud_run _ = true

abbrev pub is_loud : Op → Bool
is_loud (Op.User (UserOp.PollOwn x)) = true
is_loud (Op.Tick o) = is_loud_tick o
is_loud (Op.List o) = true
is_loud (Op.Steal o) = true
is_loud (Op.Run o) = is_loud_run o
is_loud _ = false

abbrev pub onto_loud : Bool → Op → List Op → List Op
onto_loud true o os = o ∷ os
onto_loud false o os = os

-- these of them
abbrev pub loud : List Op → List Op
loud [] = []
loud (o ∷ os) = onto_loud (is_loud o) o (loud os)

-- a count that sees nothing of the others
pub loud-weigh : (v : Op → ℕ) → ((o : Op) → is_loud o ≡ false → v o ≡ 0) → (os : List Op) →
    weigh v os ≡ weigh v (loud os)
loud-weigh v z [] = refl
loud-weigh v z (o ∷ os) = by (is_loud o) refl (loud-weigh v z os)
  where
    by : (b : Bool) → is_loud o ≡ b → weigh v os ≡ weigh v (loud os) →
        weigh v (o ∷ os) ≡ weigh v (onto_loud b o (loud os))
    by true e q = omega (arith, q)
    by false e q = omega (arith, q, z o e)

loud-runs : (o : Op) → is_loud o ≡ true → runs_of o ≡ 1
loud-runs (Op.User (UserOp.PollOwn x)) e = refl
loud-runs (Op.Tick o) e = refl
loud-runs (Op.List o) e = refl
loud-runs (Op.Steal o) e = refl
loud-runs (Op.Run o) e = refl
loud-runs _ e = absurd (cc)

quiet-all : (os : List Op) → weigh runs_of os ≡ 0 → loud os ≡ []
quiet-all [] z = refl
quiet-all (o ∷ os) z = by (is_loud o) refl (quiet-all os (omega (arith, z)))
  where
    by : (b : Bool) → is_loud o ≡ b → loud os ≡ [] → onto_loud b o (loud os) ≡ []
    by true e q = absurd (omega (arith, z, loud-runs o e))
    by false e q = q

quiet-aside : (o : Op) → is_run o ≡ false → is_loud o ≡ false
quiet-aside (Op.User (UserOp.PollOwn x)) e = absurd (cc)
quiet-aside (Op.Tick o) e = absurd (cc)
quiet-aside (Op.List o) e = absurd (cc)
quiet-aside (Op.Steal o) e = absurd (cc)
quiet-aside (Op.Run o) e = absurd (cc)
quiet-aside _ e = refl

-- what follows

abbrev pub poll_in : StealOp → RunPoll
poll_in (StealOp.Length s) = s.poll
poll_in (StealOp.OwnLength s n) = s.poll
poll_in (StealOp.Take s more) = s.poll
poll_in (StealOp.Put s more f) = s.poll

-- the end of a steal, in a walk or in none: with what is found the run goes on in one of four ways; a walk may end with it
pub data Stole (x : RunPoll) : ℕ → List Op → Type 0 where
  to_steal : (f : ℕ) →
      Stole x 0 (Op.Steal (StealOp.Length (record { poll = x; from = Common Urgent; then = Then.StealPlain f })) ∷ [])
  to_steal_plain : (f : ℕ) →
      Stole x 0 (Op.Steal (StealOp.Length (record { poll = x; from = Common Plain; then = Then.Run f })) ∷ [])
  to_wake : Stole x 0 (Op.Run (RunOp.WakeOwn x) ∷ [])
  to_search : Stole x 0 (Op.Tick (TickOp.Search (runs.asleep x)) ∷ [])
  to_walk : (at left : ℕ) → Stole x 1 (Op.Run (RunOp.LookOwn x at left) ∷ [])
  to_leave : Stole x 1 (Op.List ListOp.UnlockRead ∷ Op.Tick (TickOp.Search (runs.asleep x)) ∷ [])

-- so many more are taken
pub data More (s : Steal) : ℕ → List Op → Type 0 where
  no_more : {os : List Op} → Stole s.poll (walks_then s.then) os → More s zero os
  one_more : (k : ℕ) → More s (suc k) (Op.Steal (StealOp.Take s k) ∷ [])

-- a walk goes on, or ends
pub data Walks (x : RunPoll) : List Op → Type 0 where
  walk_ends : Walks x (Op.List ListOp.UnlockRead ∷ Op.Tick (TickOp.CopyWaker (runs.asleep x)) ∷ [])
  walk_on : (r at left : ℕ) →
      Walks x (Op.Steal (StealOp.Length (record { poll = x; from = Own r; then = Then.Walk at left })) ∷ [])

-- where the own queue of run q was found empty
pub data Missing : ℕ → Op → List Op → Type 0 where
  misses : (x : RunPoll) →
      Missing x.run (Op.Tick (TickOp.Search (runs.asleep x))) (Op.Run (RunOp.TakeTurn x) ∷ [])
  misses_there : (x : RunPoll) (at left : ℕ) {os : List Op} → Walks x os →
      Missing x.run (Op.Run (RunOp.LookOwn x at left)) os
  misses_last : (q : ℕ) (a : Reply) → Missing q (Op.Run (RunOp.Reschedule q a)) []

-- and all else
pub data Leads : Op → List Op → Type 0 where
  quiet : (o : Op) → is_loud o ≡ false → Leads o []
  polls : (x : RunPoll) → Leads (Op.User (UserOp.PollOwn x)) (Op.User (UserOp.PollOwn x) ∷ [])
  slumbering : (o : TickOp) → is_search o ≡ false → Leads (Op.Tick o) []
  sleeps : (s : Sleeping) → Leads (Op.Tick (TickOp.CopyWaker s)) (Op.Tick (TickOp.FallAsleep s) ∷ [])
  again : (s : Sleeping) → Leads (Op.Tick (TickOp.FallAsleep s)) (Op.Tick (TickOp.Search s) ∷ [])
  turns : (s : Sleeping) (t : ℕ) (l : Look) → s.who ≡ TickOrRun.Tick t →
      Leads (Op.Tick (TickOp.Search s)) (Op.Tick (TickOp.Look s l) ∷ [])
  hits : (s : Sleeping) (l : Look) → Leads (Op.Tick (TickOp.Look s l)) []
  looks_on : (s : Sleeping) (l k : Look) → Leads (Op.Tick (TickOp.Look s l)) (Op.Tick (TickOp.Look s k) ∷ [])
  copies : (s : Sleeping) (l : Look) → Leads (Op.Tick (TickOp.Look s l)) (Op.Tick (TickOp.CopyWaker s) ∷ [])
  finds : (x : RunPoll) {os : List Op} → Stole x 0 os → Leads (Op.Tick (TickOp.Search (runs.asleep x))) os
  reads : (s : Steal) (n : ℕ) → Leads (Op.Steal (StealOp.Length s)) (Op.Steal (StealOp.OwnLength s n) ∷ [])
  stole : (o : StealOp) {os : List Op} → Stole (poll_in o) (walks_steal o) os → Leads (Op.Steal o) os
  puts : (s : Steal) (k f : ℕ) → Leads (Op.Steal (StealOp.Take s k)) (Op.Steal (StealOp.Put s k f) ∷ [])
  rooms : Leads (Op.Run RunOp.MakeRoom) (Op.List (ListOp.LockWrite Section.MakeRun) ∷ [])
  turns_run : (x : RunPoll) (l : Look) → Leads (Op.Run (RunOp.TakeTurn x)) (Op.Run (RunOp.SearchCommon x l) ∷ [])
  searches_on : (x : RunPoll) (l k : Look) →
      Leads (Op.Run (RunOp.SearchCommon x l)) (Op.Run (RunOp.SearchCommon x k) ∷ [])
  locks : (x : RunPoll) (l : Look) → Leads (Op.Run (RunOp.SearchCommon x l)) (Op.List (ListOp.LockRead x) ∷ [])
  common : (x : RunPoll) (l : Look) (m : Mark) (f : ℕ) → Leads (Op.Run (RunOp.SearchCommon x l))
      (Op.Steal (StealOp.Length (record { poll = x; from = Common m; then = Then.Found f })) ∷ [])
  looks : (x : RunPoll) (at left : ℕ) {os : List Op} → Stole x 0 os →
      Leads (Op.Run (RunOp.LookOwn x at left)) (Op.List ListOp.UnlockRead ∷ os)
  schedules : (q : ℕ) (a : Reply) → Leads (Op.Run (RunOp.Reschedule q a)) (Op.Run (RunOp.Reschedule q a) ∷ [])

-- the hull stays but for one own queue, or the list of these is at work
pub data Deed (w : World) : Op → Done → Type 0 where
  keeps : {o : Op} {d : Done} → coat w ≡ coat d.world → Leads o (loud d.next) → Deed w o d
  takes : {o : Op} {d : Done} (q f : ℕ) (rest : List ℕ) → own_of w q ≡ f ∷ rest →
      coat (put_own w q rest) ≡ coat d.world → Leads o (loud d.next) → Deed w o d
  lacks : {o : Op} {d : Done} (q : ℕ) → own_of w q ≡ [] → coat w ≡ coat d.world → Missing q o (loud d.next) →
      Deed w o d
  shares : {d : Done} (s : Steal) (n k : ℕ) → k ≤ runs.free_places w s.poll.run → coat w ≡ coat d.world →
      More s k (loud d.next) → Deed w (Op.Steal (StealOp.OwnLength s n)) d
  grows : {d : Done} (s : Steal) (k f : ℕ) →
      coat (put_own w s.poll.run (own_of w s.poll.run ++ f ∷ [])) ≡ coat d.world → More s k (loud d.next) →
      Deed w (Op.Steal (StealOp.Put s k f)) d
  wakes : (p : ℕ) (x : RunPoll) → coat w ≡ coat (runs.wake_own p w x).world → loud (runs.wake_own p w x).next ≡ [] →
      Deed w (Op.Run (RunOp.WakeOwn x)) (runs.wake_own p w x)
  lists : (h : Hint) (o : ListOp) → Deed w (Op.List o) (list_act h o w)

-- what is found is run

stole-run_by : (b : Bool) (w : World) (x : RunPoll) (f : ℕ) → Stole x 0 (loud (runs.run_by b w x f).next)
stole-run_by true w x f = to_wake
stole-run_by false w x f = to_search

stole-counted : (b : Bool) (w : World) (x : RunPoll) (f : ℕ) → Stole x 0 (loud (runs.counted_by b w x f).next)
stole-counted true w x f = to_steal f
stole-counted false w x f = stole-run_by _ _ x f

loud-wakes_up : (p : Ticker) (who : TickOrRun) (os : List Op) →
    loud (found_by p who (Op.Sleeper SleeperOp.ExchangeFlag ∷ []) ++ os) ≡ loud os
loud-wakes_up Awake who os = refl
loud-wakes_up (Asleep n) who os = refl
loud-wakes_up Left who os = refl

pub stole-found : (w : World) (x : RunPoll) (f : ℕ) → Stole x 0 (loud (runs.found w x f).next)
stole-found w x f =
    let b = eqb ((run_of w x.run).counted + 1) 64 in
    subst (Stole x 0) (sym (loud-wakes_up (run_of w x.run).place (TickOrRun.Run x.run) (runs.counted_by b w x f).next))
    (stole-counted b w x f)

pub stole-by : (t : Then) (w : World) (x : RunPoll) → Stole x (walks_then t) (loud (runs.stolen t w x).next)
stole-by (Then.Found f) w x = stole-found w x f
stole-by (Then.StealPlain f) w x = to_steal_plain f
stole-by (Then.Run f) w x = stole-run_by _ w x f
stole-by (Then.Walk at left) w x = to_walk at left

stole-refused : (t : Then) (w : World) (x : RunPoll) (f : ℕ) →
    Stole x (walks_then t) (loud (runs.put_refused t w x f).next)
stole-refused (Then.Walk at left) w x f = to_leave
stole-refused t w x f = stole-by t w x

more-by : (n : ℕ) (w : World) (s : Steal) → More s n (loud (runs.steal_by n w s).next)
more-by zero w s = no_more (stole-by s.then w s.poll)
more-by (suc n) w s = one_more n

pub walks-by : (x : RunPoll) (qs : List ℕ) (at left : ℕ) → Walks x (loud (runs.walk x qs at left))
walks-by x = walk-by (λ os. Walks x (loud os)) x walk_ends walk_on

-- stealing

deed-length : (n : ℕ) (w : World) (s : Steal) →
    Deed w (Op.Steal (StealOp.Length s)) (runs.steal_length_by n w s)
deed-length zero w s = keeps (coat-stolen s.then w s.poll) (stole (StealOp.Length s) (stole-by s.then w s.poll))
deed-length (suc n) w s = keeps refl (reads s (suc n))

share-free : (n free : ℕ) → runs.share n free ≤ free
share-free n free = by (ltb ((n + 1) / 2) free) refl
  where
    by : (b : Bool) → ltb ((n + 1) / 2) free ≡ b → cond b ((n + 1) / 2) free ≤ free
    by true e = grind (arith, nat_tests)
    by false e = omega arith

deed-take : (q : List ℕ) (w : World) (x : RunPoll) (a : Source) (t : Then) (k : ℕ) → runs.source_of w a ≡ q →
    Deed w (Op.Steal (StealOp.Take (record { poll = x; from = a; then = t }) k))
    (runs.steal_take_by q w (record { poll = x; from = a; then = t }) k)
deed-take [] w x a t k e =
    keeps (coat-stolen t w x) (stole (StealOp.Take (record { poll = x; from = a; then = t }) k) (stole-by t w x))
deed-take (f ∷ rest) w x (Common m) t k e = keeps refl (puts (record { poll = x; from = Common m; then = t }) k f)
deed-take (f ∷ rest) w x (Own q) t k e = takes q f rest e refl (puts (record { poll = x; from = Own q; then = t }) k f)

deed-put : (b : Bool) (p : ℕ) (w : World) (s : Steal) (k f : ℕ) →
    Deed w (Op.Steal (StealOp.Put s k f)) (runs.steal_put_by b p w s k f)
deed-put true p w s k f =
    let v = runs.kept_by p w s.poll.run f in grows s k f (coat-more k v s) (more-by k v s)
deed-put false p w s k f =
    keeps (coat-refused s.then w s.poll f) (stole (StealOp.Put s k f) (stole-refused s.then w s.poll f))

deed-steal : (p : ℕ) (o : StealOp) (w : World) → Deed w (Op.Steal o) (steal_act p o w)
deed-steal p (StealOp.Length s) w = deed-length _ w s
deed-steal p (StealOp.OwnLength s n) w =
    let k = runs.share n (runs.free_places w s.poll.run) in
    shares s n k (share-free n (runs.free_places w s.poll.run)) (coat-more k w s) (more-by k w s)
deed-steal p (StealOp.Take s k) w = deed-take _ w s.poll s.from s.then k refl
deed-steal p (StealOp.Put s k f) w = deed-put _ p w s k f

-- what a run alone does

deed-common : (look : Look) (q : List ℕ) (w : World) (x : RunPoll) →
    Deed w (Op.Run (RunOp.SearchCommon x look)) (runs.search_common_by q w x look)
deed-common (First mark) [] w x = keeps refl (searches_on x (First mark) (Second (other mark)))
deed-common (Second mark) [] w x = keeps refl (locks x (Second mark))
deed-common look (f ∷ rest) w x = keeps refl (common x look (mark_in look) f)

deed-look : (q : List ℕ) (w : World) (x : RunPoll) (at left : ℕ) → own_of w x.run ≡ q →
    Deed w (Op.Run (RunOp.LookOwn x at left)) (runs.look_own_by q w x at left)
deed-look [] w x at left e = lacks x.run e refl (misses_there x at left (walks-by x w.listed at left))
deed-look (f ∷ rest) w x at left e =
    let v = put_own w x.run rest in takes x.run f rest e (coat-found v x f) (looks x at left (stole-found v x f))

deed-reschedule : (q : List ℕ) (w : World) (r : ℕ) (a : Reply) → own_of w r ≡ q →
    Deed w (Op.Run (RunOp.Reschedule r a)) (runs.reschedule_by q w r a)
deed-reschedule [] w r a e = lacks r e refl (misses_last r a)
deed-reschedule (f ∷ rest) w r a e = takes r f rest e refl (schedules r a)

deed-room : (b : Bool) (w : World) → Deed w (Op.Run RunOp.MakeRoom) (runs.make_room_by b w)
deed-room true w = keeps refl (quiet _ refl)
deed-room false w = keeps refl rooms

deed-wake : (p : ℕ) (w : World) (a : Waker) (r k : ℕ) →
    Deed w (Op.Run (RunOp.WakeOwn (record { run = r; waker = a; poll = k })))
    (runs.wake_own p w (record { run = r; waker = a; poll = k }))
deed-wake p w (Outside y) r k = wakes p (record { run = r; waker = Outside y; poll = k }) refl refl
deed-wake p w (Task g) r k =
    let v = log w (Event.WakerCalled p (Polled.Run r) k (Task g)) in
    let a = apart-act p no_hint (Op.Move Move.WakeByReference g) v refl in
    let next = (act p no_hint (Op.Move Move.WakeByReference g) v).next in
    wakes p (record { run = r; waker = Task g; poll = k }) a.coat
    (loud-end next Reply.Pending r ∙ quiet-all next a.runs)
  where
    loud-end : (os : List Op) (a : Reply) (n : ℕ) → loud (os ++ Op.End a (Hold.Run n) ∷ []) ≡ loud os
    loud-end [] a n = refl
    loud-end (o ∷ os) a n = by (is_loud o) (loud-end os a n)
      where
        by : (b : Bool) → loud (os ++ Op.End a (Hold.Run n) ∷ []) ≡ loud os →
            onto_loud b o (loud (os ++ Op.End a (Hold.Run n) ∷ [])) ≡ onto_loud b o (loud os)
        by b e = λ i. onto_loud b o (e i)

deed-run : (p : ℕ) (h : Hint) (o : RunOp) (w : World) → Deed w (Op.Run o) (run_act p h o w)
deed-run p h RunOp.MakeRoom w = deed-room _ w
deed-run p h RunOp.ReturnRoom w = keeps refl (quiet _ refl)
deed-run p h (RunOp.TakeTurn x) w = keeps refl (turns_run x (First (first_of w.urgent_turns)))
deed-run p h (RunOp.SearchCommon x look) w = deed-common look _ w x
deed-run p h (RunOp.LookOwn x at left) w = deed-look _ w x at left refl
deed-run p h (RunOp.WakeOwn x) w = deed-wake p w x.waker x.run x.poll
deed-run p h (RunOp.Reschedule r a) w = deed-reschedule _ w r a refl

-- ticks, and what runs do of the same

loud-goes : (o : Option Sleeping) (more : List Op) → loud (sleeper_goes o ++ more) ≡ loud more
loud-goes None more = refl
loud-goes (Some s) more = by s.waker
  where
    by : (a : Waker) → loud (waker_goes a ++ more) ≡ loud more
    by (Task f) = refl
    by (Outside x) = refl

loud-gone : (o : Option Sleeping) → loud (sleeper_goes o) ≡ []
loud-gone None = refl
loud-gone (Some s) = by s.waker
  where
    by : (a : Waker) → loud (waker_goes a) ≡ []
    by (Task f) = refl
    by (Outside x) = refl

loud-told : (b : Bool) → loud (tell_and_return b) ≡ []
loud-told true = refl
loud-told false = refl

leads-sleep : (x : Ticker) (w : World) (s : Sleeping) →
    Leads (Op.Tick (TickOp.FallAsleep s)) (loud (fall_asleep_by x w s).next)
leads-sleep Left w s = slumbering _ refl
leads-sleep Awake w s = by _
  where
    by : (b : Bool) → Leads (Op.Tick (TickOp.FallAsleep s)) (loud (sleep_anew_by b w s).next)
    by true = again s
    by false = slumbering _ refl
leads-sleep (Asleep n) w s = by _
  where
    again-by : (b : Bool) → Leads (Op.Tick (TickOp.FallAsleep s)) (loud (sleep_listed_by b w n s).next)
    again-by true = again s
    again-by false = slumbering _ refl

    by : (o : Option ℕ) → Leads (Op.Tick (TickOp.FallAsleep s)) (loud (sleep_again_by o w n s).next)
    by None = again-by _
    by (Some at) = subst (Leads (Op.Tick (TickOp.FallAsleep s)))
        (sym (loud-goes (waker_at (Some at) w.sleepers.wakers) (pend_as s.who))) (slumbering _ refl)

leads-up : (x : Ticker) (w : World) (t : TickOrRun) → Leads (Op.Tick (TickOp.WakeUp t)) (loud (wake_up_by x w t).next)
leads-up Awake w t = slumbering _ refl
leads-up (Asleep n) w t =
    subst (Leads (Op.Tick (TickOp.WakeUp t))) (sym (loud-gone (waker_of n w.sleepers.wakers))) (slumbering _ refl)
leads-up Left w t = slumbering _ refl

leads-leave : (x : Ticker) (w : World) (t : TickOrRun) →
    Leads (Op.Tick (TickOp.Leave t)) (loud (leave_sleepers_by x w t).next)
leads-leave Awake w t = slumbering _ refl
leads-leave (Asleep n) w t =
    let old = waker_of n w.sleepers.wakers in
    subst (Leads (Op.Tick (TickOp.Leave t))) (sym (loud-goes old (tell_and_return (is_none old)) ∙ loud-told (is_none old)))
    (slumbering _ refl)
leads-leave Left w t = slumbering _ refl

leads-copy : (b : Bool) (w : World) (s : Sleeping) →
    Leads (Op.Tick (TickOp.CopyWaker s)) (loud (copy_sleeper_by b w s).next)
leads-copy true w s = slumbering _ refl
leads-copy false w s = sleeps s

leads-make : (b : Bool) (w : World) → Leads (Op.Tick TickOp.MakeTick) (loud (make_tick_by b w).next)
leads-make true w = slumbering _ refl
leads-make false w = slumbering _ refl

leads-look : (look : Look) (x : Ticker) (q : List ℕ) (w : World) (s : Sleeping) →
    Leads (Op.Tick (TickOp.Look s look)) (loud (look_tick_by x w look q s).next)
leads-look (First mark) x [] w s = looks_on s (First mark) (Second (other mark))
leads-look (Second mark) x [] w s = copies s (Second mark)
leads-look look Awake (f ∷ rest) w s = hits s look
leads-look look (Asleep n) (f ∷ rest) w s = hits s look
leads-look look Left (f ∷ rest) w s = hits s look

deed-own : (q : List ℕ) (w : World) (x : RunPoll) → own_of w x.run ≡ q →
    Deed w (Op.Tick (TickOp.Search (runs.asleep x))) (runs.search_own_by q w x)
deed-own [] w x e = lacks x.run e refl (misses x)
deed-own (f ∷ rest) w x e =
    let v = put_own w x.run rest in takes x.run f rest e (coat-found v x f) (finds x (stole-found v x f))

deed-search : (who : TickOrRun) (p : ℕ) (a : Waker) (k : ℕ) (w : World) →
    Deed w (Op.Tick (TickOp.Search (record { waker = a; who = who; poll = k })))
    (search_by_who who p w (record { waker = a; who = who; poll = k }))
deed-search (TickOrRun.Tick t) p a k w =
    let s : Sleeping = record { waker = a; who = TickOrRun.Tick t; poll = k } in
    keeps refl (turns s t (First (first_of w.urgent_turns)) refl)
deed-search (TickOrRun.Run r) p a k w = deed-own _ w (record { run = r; waker = a; poll = k }) refl

deed-tick : (p : ℕ) (h : Hint) (o : TickOp) (w : World) → Deed w (Op.Tick o) (tick_act p h o w)
deed-tick p h (TickOp.Search s) w = deed-search s.who p s.waker s.poll w
deed-tick p h (TickOp.Look s look) w =
    let q = (queue_of w (mark_in look)).items in
    keeps (coat-search look (place_of w s.who) q w s) (leads-look look (place_of w s.who) q w s)
deed-tick p h TickOp.MakeTick w = keeps (coat-tick p h TickOp.MakeTick w refl) (leads-make h.refused w)
deed-tick p h (TickOp.CopyWaker s) w =
    keeps (coat-tick p h (TickOp.CopyWaker s) w refl) (leads-copy (is_copy_refused h w s.waker) w s)
deed-tick p h (TickOp.FallAsleep s) w = keeps (coat-tick p h (TickOp.FallAsleep s) w refl) (leads-sleep (place_of w s.who) w s)
deed-tick p h (TickOp.WakeUp t) w = keeps (coat-tick p h (TickOp.WakeUp t) w refl) (leads-up (place_of w t) w t)
deed-tick p h (TickOp.Leave t) w = keeps (coat-tick p h (TickOp.Leave t) w refl) (leads-leave (place_of w t) w t)

-- each thing to do

deed-by : (b : Bool) (p : ℕ) (h : Hint) (o : Op) (w : World) → is_run o ≡ b → Deed w o (act p h o w)
deed-by false p h o w e =
    let a = apart-act p h o w e in
    keeps a.coat (subst (Leads o) (sym (quiet-all (act p h o w).next a.runs)) (quiet o (quiet-aside o e)))
deed-by true p h (Op.User (UserOp.PollOwn x)) w e = keeps refl (polls x)
deed-by true p h (Op.Tick o) w e = deed-tick p h o w
deed-by true p h (Op.List o) w e = lists h o
deed-by true p h (Op.Steal o) w e = deed-steal p o w
deed-by true p h (Op.Run o) w e = deed-run p h o w
deed-by true p h _ w e = absurd (cc)

pub deed-act : (p : ℕ) (h : Hint) (o : Op) (w : World) → Deed w o (act p h o w)
deed-act p h o w = deed-by (is_run o) p h o w refl
