-- For own_queues_agree, awaiters_are_kept and calls_do_what_they_say.
-- What a run does, by what it changes of the stages, the own queues, their list and its lock; and what follows, for
-- counts
-- that tell its operations apart.
use Rattle.std.proofs.Common.{◌≡◌, ◌∙◌, ℕ, zero, suc, ◌+◌, List, [], ◌∷◌, Bool, true, false, eqb, refl, ap, arith}
use Rattle.std.specs.Prelude.{Option, Some, None}
use Rattle.executor_model.proofs.Types.{Plain, Urgent, Look, First, Second, Move, ListOp, Op, RunOp, RunPoll, TickOrRun}
use Rattle.executor_model.proofs.Types.{SleeperOp, Sleeping, Common, Own, Steal, StealOp, Then, TickOp, Waker, Task, Outside}
use Rattle.executor_model.specs.ActsOfSleepers.{copy_sleeper_by, found_by, wake_up_by, leave_sleepers_by, sleep_again_by}
use Rattle.executor_model.specs.ActsOfSleepers.{sleep_anew_by, fall_asleep_by, sleep_listed_by, make_tick_by, look_tick_by}
use Rattle.executor_model.specs.World.{World, Ticker, Awake, Asleep, Left, run_of, runs_with}
use Rattle.executor_model.specs.{Acts.copied, Doing.tick_act, Weights.weigh, Queues.Queues, Trace.Trace}
use Rattle.executor_model.proofs.OwnQueues.RunsAside.{Coat, coat, coat-placed, coat-run, hull, hull_of}
use Rattle.executor_model.proofs.Steps.SleepersNext.{Blind, copy-blind, leave-blind, sleep-blind, make-blind, up-blind}
use Rattle.executor_model.proofs.{Types.Hint, Types.Awaiter, Steps.Lists.weigh-append}
use Rattle.executor_model.specs.ActsOfRuns as runs

-- what it changes

coat-run_by : (b : Bool) (w : World) (x : RunPoll) (f : ℕ) → coat w ≡ coat (runs.run_by b w x f).world
coat-run_by true w x f = coat-run w x.run _ refl refl
coat-run_by false w x f = coat-run w x.run _ refl refl

coat-counted : (b : Bool) (w : World) (x : RunPoll) (f : ℕ) → coat w ≡ coat (runs.counted_by b w x f).world
coat-counted true w x f = coat-run w x.run _ refl refl
coat-counted false w x f = let v = runs.counted_to w x.run ((run_of w x.run).counted + 1) in
    coat-run w x.run _ refl refl ∙ coat-run_by _ v x f

pub coat-found : (w : World) (x : RunPoll) (f : ℕ) → coat w ≡ coat (runs.found w x f).world
coat-found w x f = coat-counted _ w x f

pub coat-stolen : (t : Then) (w : World) (x : RunPoll) → coat w ≡ coat (runs.stolen t w x).world
coat-stolen (Then.Found f) w x = coat-found w x f
coat-stolen (Then.StealPlain f) w x = refl
coat-stolen (Then.Run f) w x = coat-run_by _ w x f
coat-stolen (Then.Walk at left) w x = refl

pub coat-refused : (t : Then) (w : World) (x : RunPoll) (f : ℕ) → coat w ≡ coat (runs.put_refused t w x f).world
coat-refused (Then.Walk at left) w x f = refl
coat-refused t w x f = coat-stolen t w x

pub coat-more : (n : ℕ) (w : World) (s : Steal) → coat w ≡ coat (runs.steal_by n w s).world
coat-more zero w s = coat-stolen s.then w s.poll
coat-more (suc n) w s = refl

pub coat-common : (look : Look) (q : List ℕ) (w : World) (x : RunPoll) → coat w ≡ coat (runs.search_common_by q w x look).world
coat-common (First mark) [] w x = refl
coat-common (Second mark) [] w x = refl
coat-common look (f ∷ rest) w x = refl

-- a tick's operations but its search, and a search of a tick

pub coat-search : (look : Look) (x : Ticker) (q : List ℕ) (w : World) (s : Sleeping) → coat w ≡ coat (look_tick_by x w look q s).world
coat-search (First mark) x [] w s = refl
coat-search (Second mark) x [] w s = refl
coat-search look x (f ∷ rest) w s = refl

-- what no operation of a tick but its search changes
pub record Wide : Type 0 where
  pub coat : Coat
  pub limit : ℕ
  pub awaiters : List (Option Awaiter)
  pub inside : List Bool
  pub queue : Queues
  pub table : List ℕ
  pub leaving : List ℕ
  pub waking : List ℕ
  pub wakers : List (Option ℕ)
  pub trace : Trace

abbrev pub wide_with : Coat → World → Wide
wide_with c w = record {
  coat = c;
  limit = w.limit;
  awaiters = w.awaiters;
  inside = w.inside;
  queue = w.queues;
  table = w.table;
  leaving = w.leaving;
  waking = w.waking;
  wakers = w.wakers;
  trace = w.trace;
}

abbrev pub wide : World → Wide
wide w = wide_with (coat w) w

wide-placed : (w : World) (who : TickOrRun) (x : Ticker) → wide w ≡ wide (record w { runs = runs_with w.runs who x })
wide-placed w who x = ap (λ (c : Coat). wide_with c w) (coat-placed w who x)

wide-make : (b : Bool) (w : World) → wide w ≡ wide (make_tick_by b w).world
wide-make true w = refl
wide-make false w = refl

wide-copied : (a : Waker) (w : World) → wide w ≡ wide (copied w a)
wide-copied (Task g) w = refl
wide-copied (Outside x) w = refl

wide-copy : (b : Bool) (w : World) (s : Sleeping) → wide w ≡ wide (copy_sleeper_by b w s).world
wide-copy true w s = refl
wide-copy false w s = wide-copied s.waker w

wide-anew : (b : Bool) (w : World) (s : Sleeping) → wide w ≡ wide (sleep_anew_by b w s).world
wide-anew true w s = wide-placed w s.who _
wide-anew false w s = refl

wide-listed : (b : Bool) (w : World) (n : ℕ) (s : Sleeping) → wide w ≡ wide (sleep_listed_by b w n s).world
wide-listed true w n s = refl
wide-listed false w n s = refl

wide-again : (o : Option ℕ) (w : World) (n : ℕ) (s : Sleeping) → wide w ≡ wide (sleep_again_by o w n s).world
wide-again None w n s = wide-listed _ w n s
wide-again (Some at) w n s = refl

wide-sleep : (x : Ticker) (w : World) (s : Sleeping) → wide w ≡ wide (fall_asleep_by x w s).world
wide-sleep Awake w s = wide-anew _ w s
wide-sleep (Asleep n) w s = wide-again _ w n s
wide-sleep Left w s = refl

wide-up : (x : Ticker) (w : World) (t : TickOrRun) → wide w ≡ wide (wake_up_by x w t).world
wide-up Awake w t = refl
wide-up (Asleep n) w t = wide-placed w t Awake
wide-up Left w t = refl

wide-leave : (x : Ticker) (w : World) (t : TickOrRun) → wide w ≡ wide (leave_sleepers_by x w t).world
wide-leave Awake w t = wide-placed w t Left
wide-leave (Asleep n) w t = wide-placed w t Left
wide-leave Left w t = refl

abbrev pub is_search : TickOp → Bool
is_search (TickOp.Search s) = true
is_search (TickOp.Look s look) = true
is_search _ = false

pub wide-tick : (p : ℕ) (h : Hint) (o : TickOp) (w : World) → is_search o ≡ false → wide w ≡ wide (tick_act p h o w).world
wide-tick p h TickOp.MakeTick w e = wide-make _ w
wide-tick p h (TickOp.Search s) w e = absurd (cc)
wide-tick p h (TickOp.Look s look) w e = absurd (cc)
wide-tick p h (TickOp.CopyWaker s) w e = wide-copy _ w s
wide-tick p h (TickOp.FallAsleep s) w e = wide-sleep _ w s
wide-tick p h (TickOp.WakeUp t) w e = wide-up _ w t
wide-tick p h (TickOp.Leave t) w e = wide-leave _ w t

pub coat-tick : (p : ℕ) (h : Hint) (o : TickOp) (w : World) → is_search o ≡ false → coat w ≡ coat (tick_act p h o w).world
coat-tick p h o w e = ap (λ (x : Wide). x.coat) (wide-tick p h o w e)

pub coat-sleep : (x : Ticker) (w : World) (s : Sleeping) → coat w ≡ coat (fall_asleep_by x w s).world
coat-sleep x w s = ap (λ (y : Wide). y.coat) (wide-sleep x w s)

pub coat-copy : (b : Bool) (w : World) (s : Sleeping) → coat w ≡ coat (copy_sleeper_by b w s).world
coat-copy b w s = ap (λ (y : Wide). y.coat) (wide-copy b w s)

pub hull-found : (w : World) (x : RunPoll) (f : ℕ) → hull w ≡ hull (runs.found w x f).world
hull-found w x f = ap hull_of (coat-found w x f)

pub hull-stolen : (t : Then) (w : World) (x : RunPoll) → hull w ≡ hull (runs.stolen t w x).world
hull-stolen t w x = ap hull_of (coat-stolen t w x)

pub hull-more : (n : ℕ) (w : World) (s : Steal) → hull w ≡ hull (runs.steal_by n w s).world
hull-more n w s = ap hull_of (coat-more n w s)

-- what follows

-- what is found weighs so much in the end, and a walk so much
pub record Weighs (v : Op → ℕ) (x : RunPoll) (found walks : ℕ) : Type 0 where
  pub exchange : v (Op.Sleeper SleeperOp.ExchangeFlag) ≡ 0
  pub up : (who : TickOrRun) → v (Op.Tick (TickOp.WakeUp who)) ≡ 0
  pub take_up : (f : ℕ) → v (Op.Move Move.TakeUp f) ≡ 0
  pub search : v (Op.Tick (TickOp.Search (runs.asleep x))) ≡ found
  pub wake : v (Op.Run (RunOp.WakeOwn x)) ≡ found
  pub steal : (f : ℕ) →
      v (Op.Steal (StealOp.Length (record { poll = x; from = Common Urgent; then = Then.StealPlain f }))) ≡ found
  pub steal_plain : (f : ℕ) →
      v (Op.Steal (StealOp.Length (record { poll = x; from = Common Plain; then = Then.Run f }))) ≡ found
  pub look : (at left : ℕ) → v (Op.Run (RunOp.LookOwn x at left)) ≡ walks

abbrev pub by_then : ℕ → ℕ → Then → ℕ
by_then found walks (Then.Found f) = found
by_then found walks (Then.StealPlain f) = found
by_then found walks (Then.Run f) = found
by_then found walks (Then.Walk at left) = walks

pub nothing-by : (t : Then) → by_then 0 0 t ≡ 0
nothing-by (Then.Found f) = refl
nothing-by (Then.StealPlain f) = refl
nothing-by (Then.Run f) = refl
nothing-by (Then.Walk at left) = refl

module _ (v : Op → ℕ) (x : RunPoll) (n m : ℕ) (z : Weighs v x n m) where
  weighs-run_by : (b : Bool) (w : World) (f : ℕ) → weigh v (runs.run_by b w x f).next ≡ n
  weighs-run_by true w f = omega (arith, z.take_up f, z.wake)
  weighs-run_by false w f = omega (arith, z.take_up f, z.search)

  weighs-counted : (b : Bool) (w : World) (f : ℕ) → weigh v (runs.counted_by b w x f).next ≡ n
  weighs-counted true w f = omega (arith, z.steal f)
  weighs-counted false w f = weighs-run_by _ _ f

  weighs-wakes_up : (p : Ticker) (who : TickOrRun) → weigh v (found_by p who (Op.Sleeper SleeperOp.ExchangeFlag ∷ [])) ≡ 0
  weighs-wakes_up Awake who = omega (arith, z.exchange)
  weighs-wakes_up (Asleep k) who = omega (arith, z.up who, z.exchange)
  weighs-wakes_up Left who = omega (arith, z.exchange)

  pub weighs-found : (w : World) (f : ℕ) → weigh v (runs.found w x f).next ≡ n
  weighs-found w f =
      let first = found_by (run_of w x.run).place (TickOrRun.Run x.run) (Op.Sleeper SleeperOp.ExchangeFlag ∷ []) in
      let b = eqb ((run_of w x.run).counted + 1) 64 in
      omega (
        arith,
        weigh-append v first (runs.counted_by b w x f).next,
        weighs-wakes_up (run_of w x.run).place (TickOrRun.Run x.run),
        weighs-counted b w f,
      )

  pub weighs-stolen : (t : Then) (w : World) → weigh v (runs.stolen t w x).next ≡ by_then n m t
  weighs-stolen (Then.Found f) w = weighs-found w f
  weighs-stolen (Then.StealPlain f) w = omega (arith, z.steal_plain f)
  weighs-stolen (Then.Run f) w = weighs-run_by _ w f
  weighs-stolen (Then.Walk at left) w = omega (arith, z.look at left)

-- a walk goes on with a steal from a run's queue, or ends
pub walk-by : (Q : List Op → Type 0) (x : RunPoll) →
    Q (Op.List ListOp.UnlockRead ∷ Op.Tick (TickOp.CopyWaker (runs.asleep x)) ∷ []) →
    ((r at left : ℕ) → Q (Op.Steal (StealOp.Length (record { poll = x; from = Own r; then = Then.Walk at left })) ∷
    [])) →
    (qs : List ℕ) (at left : ℕ) → Q (runs.walk x qs at left)
walk-by Q x ends steals qs at zero = ends
walk-by Q x ends steals qs at (suc left) = by (eqb (runs.queue_at qs at) x.run)
    (walk-by Q x ends steals qs (runs.next_place qs at) left)
  where
    by : (b : Bool) → Q (runs.walk x qs (runs.next_place qs at) left) → Q (let h : List Op = elim b [
      | true ↦ runs.walk x qs (runs.next_place qs at) left
      | false ↦ Op.Steal (StealOp.Length (record {
        poll = x;
        from = Own (runs.queue_at qs at);
        then = Then.Walk (runs.next_place qs at) left;
      })) ∷ []
    ] in h)
    by true z = z
    by false z = steals _ _ _

-- for counts that see nothing of ticks
pub slumbering-blind : (v : Op → ℕ) → Blind v → (p : ℕ) (h : Hint) (o : TickOp) (w : World) → is_search o ≡ false →
    weigh v (tick_act p h o w).next ≡ 0
slumbering-blind v u p h TickOp.MakeTick w e = make-blind v u _ w
slumbering-blind v u p h (TickOp.Search s) w e = absurd (cc)
slumbering-blind v u p h (TickOp.Look s look) w e = absurd (cc)
slumbering-blind v u p h (TickOp.CopyWaker s) w e = copy-blind v u _ w s
slumbering-blind v u p h (TickOp.FallAsleep s) w e = sleep-blind v u _ w s
slumbering-blind v u p h (TickOp.WakeUp t) w e = up-blind v u _ w t
slumbering-blind v u p h (TickOp.Leave t) w e = leave-blind v u _ w t
