-- For common_futures_are_in_reach_of_runs.
-- Lone polls of a run in which as many turns name a mark as futures of it are queued take each of those; and where all are plain,
-- as many polls as the run's line is long do.
use Rattle.std.proofs.Common.{◌≡◌, ℕ, suc, ◌+◌, ◌<◌, ◌≤◌, List, [], ◌∷◌, ◌++◌, length}
use Rattle.std.proofs.Common.{true, refl, ap, subst, arith, sym, inl, inr, Ok}
use Rattle.std.proofs.lemmas.List.{length-append}
use Rattle.std.specs.Prelude.{All, filter}
use Rattle.executor_laws.proofs.Types.{Mark, Plain, By, Call, Kind, Op, TickOp, Step, Begin}
use Rattle.executor_model.specs.{ActsOfRuns.asleep, Due.IsDue, Emptiness.IsAtRest, Executions.run_all, Keeper.IsCommon, Queues.Queues}
use Rattle.executor_model.specs.{Queues.queue_in, Sound.times, Steps.Machine, Steps.run, Steps.start, Trace.Trace, Trace.has, World.mark_of}
use Rattle.executor_model.specs.{World.own_of, World.queue_of}
use Rattle.executor_model.proofs.{Steps.Lists.times-append, Steps.QueuesByMark.times-one, Steps.Reached.Reached, Steps.Reached.deep-here}
use Rattle.executor_model.proofs.{Steps.Reached.good-here}
use Rattle.executor_laws.specs.{Reach.HasCommons, Reach.HasCommonsOf, Reach.names, Reach.since, Reach.takes, RunReach.AreLonePolls}
use Rattle.executor_laws.specs.{RunReach.HasKept, RunReach.IsLonePoll, RunReach.LoneRunPoll, RunTurns.IsCommonReached}
use Rattle.executor_laws.proofs.{Exactness.Ticking.first-times, Placement.Placing.in-own, Reach.Reached.bonded-here}
use Rattle.executor_laws.proofs.{Reach.Reached.heard-here, Reach.Reaching.Grows, Reach.Reaching.QueuePlace, Reach.Reaching.Takes}
use Rattle.executor_laws.proofs.{Reach.Reaching.none-urgent, Reach.Reaching.place, Reach.Reaching.run-grows, Reach.Marked.all-before}
use Rattle.executor_laws.proofs.{Reach.Searching.at-rest, Reach.Spots.named, Reach.Spots.named-append, Reach.Spots.named-filter}
use Rattle.executor_laws.proofs.{Reach.Spots.named-none, RunReach.RunKeeps.grows-polls, RunReach.RunKeeps.takes-between}
use Rattle.executor_laws.proofs.{RunReach.RunKeeps.takes-later, RunReach.RunKeeps.takes-now, RunReach.RunArrives.entry}
use Rattle.executor_laws.proofs.{RunReach.RunReaching.arrived, RunReach.RunReaching.is-due, RunReach.RunReaching.new-idle}
use Rattle.executor_laws.proofs.{RunReach.RunReaching.poll, RunReach.RunReaching.reached-new, Turns.LineSteps.Others, Turns.LineSteps.Rests}
use Rattle.executor_laws.proofs.{Turns.LineSteps.carry, Turns.LineWalks.Outcome, Turns.LineWalks.walks, Turns.LineWalks.Outcome.stands}
use Rattle.executor_laws.proofs.{Turns.LineWalks.Outcome.taken, Turns.LineWalks.Waiting.going, Turns.Standing.ByTurns, Turns.Standing.InAll}
use Rattle.executor_laws.proofs.{Turns.Standing.InLine, Turns.Standing.Phase, Turns.Standing.Standing, Turns.Standing.beside-turns}
use Rattle.executor_laws.proofs.{Turns.Standing.by-turns, Turns.Standing.in-all, Turns.Standing.Phase.fresh, Turns.Standing.Phase.ongoing}
use Rattle.executor_laws.proofs.Reach.Reaching as reaching
use Rattle.executor_laws.proofs.RunReach.RunKeeps as keeping

-- one poll

module _ (f : ℕ) (m : Mark) (P : Phase → ℕ → List ℕ → List ℕ → Type 0) (law : Standing f P) (s : Machine) (y : Reached s)
    (rest : IsAtRest s) (r p : ℕ) (b : By) (steps : List Step) (new : Machine) (k : IsLonePoll p r b steps s new)
    (others : (v : Machine) → Reached v → (ts : List Step) → run_all ts v ≡ Ok new → Others P m v.world)
    (due : IsDue f s.world.trace) where
  -- f is taken by it, or it is as near as it is while one is taken before it
  nearer : Rests P m r fresh s.world → Outcome P m r f s.world.trace new
  nearer z =
      let a = arrived s y rest r p b steps new k in
      walks f m P law p r s.world.trace new (new-idle s y rest r p b steps new k) others (entry s.world.trace f due)
      a.others a.machine a.here.reached (record {
        meanwhile = a.here.so_far.meanwhile;
        trace = a.here.so_far.trace;
        there = a.here.so_far.there;
      })
      (going fresh (Op.Tick (TickOp.Search (asleep (poll s y rest r p b steps new k)))) [] a.here.todo (refl, refl) refl
      (carry f m P law fresh (named m s.world.trace) (named m a.machine.world.trace) (own_of s.world r)
      (own_of a.machine.world r) (queue_of s.world m).items (queue_of a.machine.world m).items (omega (
        arith,
        ap (named m) a.here.so_far.trace,
        named-append m s.world.trace a.here.so_far.meanwhile,
        named-none m a.here.so_far.meanwhile a.here.so_far.unturned,
      )) a.here.so_far.own_is (ap (λ (qs : Queues). (queue_in m qs).items) a.here.so_far.common_is) z)) a.onward a.made

-- lists of such polls

module _ (f : ℕ) (m : Mark) (P : Phase → ℕ → List ℕ → List ℕ → Type 0) (law : Standing f P) (t : LoneRunPoll)
    (ts : List LoneRunPoll) (s new : Machine) (y : Reached s) (rest : IsAtRest s) (r : ℕ) (k : AreLonePolls r (t ∷ ts) s new)
    (others : (v : Machine) → Reached v → (us : List Step) → run_all us v ≡ Ok k.0 → Others P m v.world) where
  still-due : 1 ≤ times f (own_of s.world r) + times f (queue_of s.world m).items → IsDue f s.world.trace
  still-due z = is-due s y rest r t.party t.by t.steps k.0 k.1 f (omega (
    arith,
    z,
    times-one f m s.world.queues,
    in-own s (good-here s y) (heard-here s y) (deep-here s y) (bonded-here s y) rest f r,
  ))

  -- the first poll takes f, or others do
  after-one : 1 ≤ times f (own_of s.world r) + times f (queue_of s.world m).items → Rests P m r fresh s.world →
      (Reached k.0 → IsAtRest k.0 → Rests P m r ongoing k.0.world → Takes f k.0 new) → Takes f s new
  after-one due z again =
      go (nearer f m P law s y rest r t.party t.by t.steps k.0 k.1 others (still-due due) z)
    where
      go : Outcome P m r f s.world.trace k.0 → Takes f s new
      go (taken x) = takes-now f s k.0 new x (grows-polls r ts k.0 new k.2)
      go (stands q so) =
          takes-later f s k.0 new (run-grows (Begin t.party (Call.PollRun r t.by) ∷ t.steps) s k.0 k.1.call.made)
          (again (reached-new s y rest r t.party t.by t.steps k.0 k.1)
          (at-rest s y rest t.party (Call.PollRun r t.by) t.steps k.0 k.1.call so.there) q)

-- f stands in one of both
module _ (f : ℕ) where
  stands-in : (k n : ℕ) (own q : List ℕ) → InLine f k n (own ++ q) → 1 ≤ times f own + times f q
  stands-in k n own q z = omega (
    arith,
    ap (times f) z.is,
    times-append f z.front (f ∷ z.later),
    times-append f own q,
    first-times f z.later,
  )

  stands-by : (n k : ℕ) (own q : List ℕ) → ByTurns f n ongoing k own q → 1 ≤ times f own + times f q
  stands-by n k own q (inl x) = omega (arith, x.0)
  stands-by n k own q (inr x) = omega (
    arith,
    ap (times f) x.is,
    times-append f x.front (f ∷ x.later),
    first-times f x.later,
  )

  few-turns : (n k : ℕ) (own q : List ℕ) → ByTurns f n ongoing k own q → k < n
  few-turns n k own q (inl x) = x.1
  few-turns n k own q (inr x) = omega (arith, x.few)

-- as many turns name the mark as futures stand in its queue

by-mark-place : (f : ℕ) (m : Mark) (ts : List LoneRunPoll) (s new : Machine) → Reached s → IsAtRest s → (r : ℕ) →
    Rests (ByTurns f (named m new.world.trace)) m r ongoing s.world → AreLonePolls r ts s new → Takes f s new
by-mark-place f m [] s new y rest r z e = absurd (omega (
  arith,
  few-turns f (named m new.world.trace) (named m s.world.trace) (own_of s.world r) (queue_of s.world m).items z,
  ap (λ (v : Machine). named m v.world.trace) e,
))
by-mark-place f m (t ∷ ts) s new y rest r z k =
    after-one f m (ByTurns f (named m new.world.trace)) (by-turns f (named m new.world.trace)) t ts s new y rest r k
    (λ v y2 us made. inr (beside-turns f (named m new.world.trace)))
    (stands-by f (named m new.world.trace) (named m s.world.trace) (own_of s.world r) (queue_of s.world m).items z) z
    (λ y2 rest2 q. by-mark-place f m ts k.0 new y2 rest2 r q k.2)

-- where all are plain, as many polls as the line is long

plain-before : (r : ℕ) (ts : List LoneRunPoll) (s new : Machine) → AreLonePolls r ts s new →
    All (λ m. m ≡ Plain) new.world.marks → All (λ m. m ≡ Plain) s.world.marks
plain-before r [] s new e plain = subst (λ (m : Machine). All (λ k. k ≡ Plain) m.world.marks) (sym e) plain
plain-before r (t ∷ ts) s new k plain = all-before s k.0 (Begin t.party (Call.PollRun r t.by) ∷ t.steps) k.1.call.made
    (plain-before r ts k.0 new k.2 plain)

plain-place : (f : ℕ) (ts : List LoneRunPoll) (s new : Machine) → Reached s → IsAtRest s → (r : ℕ) →
    InLine f 0 (length ts) (own_of s.world r ++ s.world.queues.plain.items) → AreLonePolls r ts s new →
    All (λ m. m ≡ Plain) new.world.marks → Takes f s new
plain-place f [] s new y rest r z k plain = absurd (omega (arith, z.few))
plain-place f (t ∷ ts) s new y rest r z k plain =
    after-one f Plain (InAll f (suc (length ts))) (in-all f (suc (length ts))) t ts s new y rest r k
    (λ v y2 us made. inl (none-urgent v y2 (all-before v k.0 us made (plain-before r ts k.0 new k.2 plain))))
    (stands-in f 0 (suc (length ts)) (own_of s.world r) s.world.queues.plain.items z) z
    (λ y2 rest2 q. plain-place f ts k.0 new y2 rest2 r (record {
      front = q.front;
      later = q.later;
      is = q.is;
      few = omega (arith, q.few);
    }) k.2 plain)

module _ (s : Machine) (y : Reached s) (rest : IsAtRest s) (r : ℕ) where
  takes-marked : (m : Mark) (commons : List ℕ) → HasCommonsOf m s commons → (polls : List LoneRunPoll) (new : Machine) →
      AreLonePolls r polls s new → length commons ≤ length (filter (names m) (since s new)) → (f : ℕ) →
      IsCommon f s.world.trace → mark_of s.world f ≡ m → has (takes f) (since s new) ≡ true
  takes-marked m commons c polls new k l f z e =
      let place-of : QueuePlace f (queue_of s.world m).items =
      place f (queue_of s.world m).items (reaching.in-queue s y rest m f z e) in
      let all : Grows s new = grows-polls r polls s new k in
      takes-between f s new (by-mark-place f m polls s new y rest r (inr (record {
        front = place-of.front;
        later = place-of.back;
        is = place-of.is;
        few = omega (
          arith,
          l,
          ap (λ (es : Trace). length (filter (names m) es)) (reaching.since-is s new all),
          named-filter m all.grown,
          named-append m s.world.trace all.grown,
          ap (named m) all.trace,
          reaching.not-longer s y rest m commons c,
          ap length place-of.is,
          length-append place-of.front (f ∷ place-of.back),
        );
      })) k)

  takes-plain : (keeps commons : List ℕ) → HasKept r s.world.trace keeps → HasCommons s.world.trace commons →
      (polls : List LoneRunPoll) (new : Machine) → AreLonePolls r polls s new → All (λ m. m ≡ Plain) new.world.marks →
      length keeps + length commons ≤ length polls → (f : ℕ) → IsCommon f s.world.trace →
      has (takes f) (since s new) ≡ true
  takes-plain keeps commons h c polls new k plain l f z =
      let first : All (λ m. m ≡ Plain) s.world.marks = plain-before r polls s new k plain in
      let place-of : QueuePlace f (own_of s.world r ++ s.world.queues.plain.items) =
      place f (own_of s.world r ++ s.world.queues.plain.items) (omega (
        arith,
        times-append f (own_of s.world r) s.world.queues.plain.items,
        reaching.in-queue s y rest Plain f z (reaching.mark-plain s.world.marks first f),
      )) in
      takes-between f s new (plain-place f polls s new y rest r (record {
        front = place-of.front;
        later = place-of.back;
        is = place-of.is;
        few = omega (
          arith,
          l,
          keeping.not-longer s y rest r keeps h,
          reaching.not-longer s y rest Plain commons (λ g d e. c g d),
          ap length place-of.is,
          length-append place-of.front (f ∷ place-of.back),
          length-append (own_of s.world r) s.world.queues.plain.items,
        );
      }) k plain)

pub common-reached : (limit : ℕ) (kind : Kind) (parties : ℕ) (steps : List Step) →
    IsCommonReached (run steps (start limit kind parties))
common-reached limit kind parties steps =
    let s : Machine = run steps (start limit kind parties) in
    let y : Reached s = record { limit = limit; kind = kind; parties = parties; steps = steps; is = refl } in record {
      by_mark = λ rest r m commons c polls new k l f z e. takes-marked s y rest r m commons c polls new k l f z e;
      plain = λ rest r keeps commons h c polls new k plain l f z.
          takes-plain s y rest r keeps commons h c polls new k plain l f z;
    }
