-- For runs_poll_few_futures.
-- What a run that is polled does takes one future up where it counts one more, and none behind the 200th.
use Rattle.std.proofs.Common.{◌≡◌, ◌∙◌, ℕ, zero, suc, ◌+◌, ◌-◌, ◌<◌, ◌≤◌, List, [], ◌∷◌, ◌++◌, length, Bool, true, false, eqb}
use Rattle.std.proofs.Common.{refl, sym, ap, subst, arith, get_or-set_same}
use Rattle.std.specs.Prelude.{Option, Some, None, reverse}
use Rattle.std.{proofs.Math.ListN.length-set, proofs.lemmas.List.reverse-append}
use Rattle.executor_parts.{specs.Marks.first_of, specs.Marks.other, specs.Sleepers.waker_at}
use Rattle.executor_laws.proofs.Types.{Plain, Urgent, Look, First, Second, Move, Reply, Event, Hold, ListOp, Op, Polled}
use Rattle.executor_laws.proofs.Types.{RunOp, RunPoll, Sleeping, SleeperOp, Source, Common, Own, Steal, StealOp, Then}
use Rattle.executor_laws.proofs.Types.{TickOp, TickOrRun, UserOp, Waker, Task, Outside, Hint}
use Rattle.executor_model.specs.World.{queue_of, Asleep, Awake, Done, Left, Ticker, World, done, log, own_of, place_of, put_own}
use Rattle.executor_model.specs.ActsOfRuns.{asleep, call_by_reference, counted_by, counted_to, found, kept_by, look_own_by}
use Rattle.executor_model.specs.ActsOfRuns.{next_place, put_refused, queue_at, run_by, run_found, search_common_by, search_own_by, steal_by}
use Rattle.executor_model.specs.ActsOfSleepers.{copy_sleeper_by, fall_asleep_by, found_by, sleep_again_by, sleep_anew_by}
use Rattle.executor_model.specs.ActsOfRuns.{steal_length_by, steal_put_by, steal_take_by, stolen, wake_own, walk, without_first}
use Rattle.executor_model.specs.ActsOfSleepers.{sleep_listed_by, sleeper_goes}
use Rattle.executor_model.specs.Acts.{mark_in, copied, followed, turned}
use Rattle.executor_model.specs.{World.run_of, Doing.act, Doing.search_by_who, Doing.steal_act, Weights.weigh}
use Rattle.executor_model.proofs.{Steps.Lists.weigh-append, Steps.Lists.weigh-reverse, Steps.SleepersNext.goes-unseen}
use Rattle.executor_laws.proofs.RunReach.RunSteps.{Aside, aside-act, side_of}
use Rattle.executor_laws.proofs.Fewness.FewSides.{TakenSame, placed, put-same, same-runs, side-same, ups, ups-act}

-- how many more run q may take until it lets others go first
abbrev pub left_of : ℕ → World → ℕ
left_of q w = 200 - (run_of w q).taken

-- and how many it may still take in this poll, where it is about to do this
abbrev pub budget : ℕ → Op → World → ℕ
budget q (Op.Run (RunOp.WakeOwn x)) w = 0
budget q (Op.End a held) w = 0
budget q _ w = left_of q w

abbrev pub steal_in : StealOp → Steal
steal_in (StealOp.Length s) = s
steal_in (StealOp.OwnLength s n) = s
steal_in (StealOp.Take s more) = s
steal_in (StealOp.Put s more f) = s

-- what run q itself does
abbrev pub Doing : ℕ → Op → Type 0
Doing q (Op.Tick (TickOp.Search s)) = s.who ≡ TickOrRun.Run q
Doing q (Op.Tick (TickOp.CopyWaker s)) = s.who ≡ TickOrRun.Run q
Doing q (Op.Tick (TickOp.FallAsleep s)) = s.who ≡ TickOrRun.Run q
Doing q (Op.Run (RunOp.TakeTurn x)) = x.run ≡ q
Doing q (Op.Run (RunOp.SearchCommon x look)) = x.run ≡ q
Doing q (Op.Run (RunOp.LookOwn x at left)) = x.run ≡ q
Doing q (Op.Run (RunOp.WakeOwn x)) = x.run ≡ q
Doing q (Op.List (ListOp.LockRead x)) = x.run ≡ q
Doing q (Op.Steal o) = (steal_in o).poll.run ≡ q
Doing q (Op.End a held) = true ≡ true
Doing q _ = ⊥

-- it goes on so, and takes no more than n up
pub record Few (q n : ℕ) (w : World) (d : Done) : Type 0 where
  pub control : Op
  pub side : List Op
  pub is : reverse d.next ≡ control ∷ side
  pub kind : Doing q control
  pub light : weigh side_of side ≡ 0
  pub few : weigh ups side + budget q control d.world ≤ n
  pub count : length d.world.runs ≡ length w.runs

few-behind : (q n : ℕ) (w : World) (ops : List Op) (d : Done) → weigh side_of ops ≡ 0 → weigh ups ops ≡ 0 → Few q n w d →
    Few q n w (done d.world (ops ++ d.next))
few-behind q n w ops d z u h = record {
  control = h.control;
  side = h.side ++ reverse ops;
  is = reverse-append ops d.next ∙ ap (λ (os : List Op). os ++ reverse ops) h.is;
  kind = h.kind;
  light = omega (arith, z, h.light, weigh-append side_of h.side (reverse ops), weigh-reverse side_of ops);
  few = omega (arith, u, h.few, weigh-append ups h.side (reverse ops), weigh-reverse ups ops);
  count = h.count;
}

few-one : (q : ℕ) (w v : World) (c : Op) → Doing q c → TakenSame w v → budget q c v ≤ left_of q v →
    Few q (left_of q w) w (done v (c ∷ []))
few-one q w v c k s b = record {
  control = c;
  side = [];
  is = refl;
  kind = k;
  light = refl;
  few = omega (arith, b, s.taken q);
  count = s.count;
}

few-from : (q : ℕ) (w v : World) (d : Done) → TakenSame w v → Few q (left_of q v) v d → Few q (left_of q w) w d
few-from q w v d s h = record {
  control = h.control;
  side = h.side;
  is = h.is;
  kind = h.kind;
  light = h.light;
  few = omega (arith, h.few, s.taken q);
  count = h.count ∙ s.count;
}

-- it is run

abbrev pub Ready : ℕ → World → Type 0
Ready q w = (q < length w.runs) × ((run_of w q).taken < 200)

few-run_by : (b : Bool) (w : World) (x : RunPoll) (f : ℕ) → Ready x.run w → Few x.run (left_of x.run w) w (run_by b w x f)
few-run_by true w x f r = record {
  control = Op.Run (RunOp.WakeOwn x);
  side = Op.Move Move.TakeUp f ∷ [];
  is = refl;
  kind = refl;
  light = refl;
  few = omega (arith, r.1);
  count = length-set w.runs x.run (record (run_of w x.run) { taken = 0 });
}
few-run_by false w x f r = record {
  control = Op.Tick (TickOp.Search (asleep x));
  side = Op.Move Move.TakeUp f ∷ [];
  is = refl;
  kind = refl;
  light = refl;
  few = (let e : (run_of (run_by false w x f).world x.run).taken ≡ (run_of w x.run).taken + 1 =
      ap (λ y. y.taken) (get_or-set_same w.runs x.run (record (run_of w x.run) { taken = (run_of w x.run).taken + 1 }) _ r.0) in
      omega (arith, e, r.1));
  count = length-set w.runs x.run (record (run_of w x.run) { taken = (run_of w x.run).taken + 1 });
}

pub counted-same : (w : World) (r n : ℕ) → TakenSame w (counted_to w r n)
counted-same w r n = put-same w (counted_to w r n) r (record (run_of w r) { counted = n }) refl refl

ready-same : (q : ℕ) (w v : World) → TakenSame w v → Ready q w → Ready q v
ready-same q w v s r = (omega (arith, s.count, r.0), omega (arith, s.taken q, r.1))

few-counted_by : (b : Bool) (w : World) (x : RunPoll) (f : ℕ) → Ready x.run w →
    Few x.run (left_of x.run w) w (counted_by b w x f)
few-counted_by true w x f r = few-one x.run w (counted_to w x.run 0)
    (Op.Steal (StealOp.Length (record { poll = x; from = Common Urgent; then = Then.StealPlain f }))) refl
    (counted-same w x.run 0) (omega arith)
few-counted_by false w x f r =
    let n : ℕ = (run_of w x.run).counted + 1 in
    few-from x.run w (counted_to w x.run n) (run_found (counted_to w x.run n) x f) (counted-same w x.run n)
    (few-run_by _ (counted_to w x.run n) x f (ready-same x.run w (counted_to w x.run n) (counted-same w x.run n) r))

found-side : (x : Ticker) (who : TickOrRun) → weigh side_of (found_by x who (Op.Sleeper SleeperOp.ExchangeFlag ∷ [])) ≡ 0
found-side Awake who = refl
found-side (Asleep n) who = refl
found-side Left who = refl

found-ups : (x : Ticker) (who : TickOrRun) → weigh ups (found_by x who (Op.Sleeper SleeperOp.ExchangeFlag ∷ [])) ≡ 0
found-ups Awake who = refl
found-ups (Asleep n) who = refl
found-ups Left who = refl

few-found : (w : World) (x : RunPoll) (f : ℕ) → Ready x.run w → Few x.run (left_of x.run w) w (found w x f)
few-found w x f r =
    few-behind x.run (left_of x.run w) w (found_by _ (TickOrRun.Run x.run) (Op.Sleeper SleeperOp.ExchangeFlag ∷ []))
    (counted_by _ w x f) (found-side _ (TickOrRun.Run x.run)) (found-ups _ (TickOrRun.Run x.run))
    (few-counted_by _ w x f r)

few-stolen : (t : Then) (w : World) (x : RunPoll) → Ready x.run w → Few x.run (left_of x.run w) w (stolen t w x)
few-stolen (Then.Found f) w x r = few-found w x f r
few-stolen (Then.StealPlain f) w x r = few-one x.run w w
    (Op.Steal (StealOp.Length (record { poll = x; from = Common Plain; then = Then.Run f }))) refl
    (same-runs w w refl) (omega arith)
few-stolen (Then.Run f) w x r = few-run_by _ w x f r
few-stolen (Then.Walk at left) w x r =
    few-one x.run w w (Op.Run (RunOp.LookOwn x at left)) refl (same-runs w w refl) (omega arith)

-- a steal

few-length : (n : ℕ) (w : World) (s : Steal) → Ready s.poll.run w →
    Few s.poll.run (left_of s.poll.run w) w (steal_length_by n w s)
few-length zero w s r = few-stolen s.then w s.poll r
few-length (suc n) w s r =
    few-one s.poll.run w w (Op.Steal (StealOp.OwnLength s (suc n))) refl (same-runs w w refl) (omega arith)

few-steal_by : (n : ℕ) (w : World) (s : Steal) → Ready s.poll.run w →
    Few s.poll.run (left_of s.poll.run w) w (steal_by n w s)
few-steal_by zero w s r = few-stolen s.then w s.poll r
few-steal_by (suc n) w s r =
    few-one s.poll.run w w (Op.Steal (StealOp.Take s n)) refl (same-runs w w refl) (omega arith)

without-same : (x : Source) (w : World) (rest : List ℕ) → TakenSame w (without_first w x rest)
without-same (Common mark) w rest = same-runs w _ refl
without-same (Own r) w rest = same-runs w _ refl

few-take : (xs : List ℕ) (w : World) (s : Steal) (more : ℕ) → Ready s.poll.run w →
    Few s.poll.run (left_of s.poll.run w) w (steal_take_by xs w s more)
few-take [] w s more r = few-stolen s.then w s.poll r
few-take (f ∷ rest) w s more r =
    few-one s.poll.run w (without_first w s.from rest) (Op.Steal (StealOp.Put s more f)) refl
    (without-same s.from w rest) (omega arith)

few-refused : (t : Then) (w : World) (x : RunPoll) (f : ℕ) → Ready x.run w →
    Few x.run (left_of x.run w) w (put_refused t w x f)
few-refused (Then.Walk at left) w x f r =
    few-behind x.run (left_of x.run w) w (Op.List ListOp.UnlockRead ∷ Op.Move Move.DropRunnable f ∷ [])
    (done w (Op.Tick (TickOp.Search (asleep x)) ∷ [])) refl refl
    (few-one x.run w w (Op.Tick (TickOp.Search (asleep x))) refl (same-runs w w refl) (omega arith))
few-refused t w x f r =
    few-behind x.run (left_of x.run w) w (Op.Move Move.DropRunnable f ∷ []) (stolen t w x) refl refl (few-stolen t w x r)

few-put : (b : Bool) (p : ℕ) (w : World) (s : Steal) (more f : ℕ) → Ready s.poll.run w →
    Few s.poll.run (left_of s.poll.run w) w (steal_put_by b p w s more f)
few-put true p w s more f r =
    let v : World = kept_by p w s.poll.run f in
    few-from s.poll.run w v (steal_by more v s) (same-runs w v refl) (few-steal_by more v s r)
few-put false p w s more f r = few-refused s.then w s.poll f r

few-steal : (p : ℕ) (o : StealOp) (w : World) → Ready (steal_in o).poll.run w →
    Few (steal_in o).poll.run (left_of (steal_in o).poll.run w) w (steal_act p o w)
few-steal p (StealOp.Length s) w r = few-length _ w s r
few-steal p (StealOp.OwnLength s n) w r = few-steal_by _ w s r
few-steal p (StealOp.Take s more) w r = few-take _ w s more r
few-steal p (StealOp.Put s more f) w r = few-put _ p w s more f r

-- a walk

few-walk : (w v : World) (x : RunPoll) (qs : List ℕ) (at left : ℕ) → TakenSame w v →
    Few x.run (left_of x.run w) w (done v (walk x qs at left))
few-walk w v x qs at zero s = record {
  control = Op.Tick (TickOp.CopyWaker (asleep x));
  side = Op.List ListOp.UnlockRead ∷ [];
  is = refl;
  kind = refl;
  light = refl;
  few = omega (arith, s.taken x.run);
  count = s.count;
}
few-walk w v x qs at (suc left) s = by (eqb (queue_at qs at) x.run) (few-walk w v x qs (next_place qs at) left s)
  where
    by : (b : Bool) → Few x.run (left_of x.run w) w (done v (walk x qs (next_place qs at) left)) →
        Few x.run (left_of x.run w) w (done v (let os : List Op = elim b [
          | true ↦ walk x qs (next_place qs at) left
          | false ↦ Op.Steal (StealOp.Length (record {
            poll = x;
            from = Own (queue_at qs at);
            then = Then.Walk (next_place qs at) left;
          })) ∷ []
        ] in os))
    by true a = a
    by false a = few-one x.run w v (Op.Steal (StealOp.Length (record {
      poll = x;
      from = Own (queue_at qs at);
      then = Then.Walk (next_place qs at) left;
    }))) refl s (omega arith)

-- searches

few-own : (xs : List ℕ) (w : World) (x : RunPoll) → Ready x.run w → Few x.run (left_of x.run w) w (search_own_by xs w x)
few-own [] w x r = few-one x.run w w (Op.Run (RunOp.TakeTurn x)) refl (same-runs w w refl) (omega arith)
few-own (f ∷ rest) w x r =
    let v : World = put_own w x.run rest in
    few-from x.run w v (found v x f) (same-runs w v refl) (few-found v x f r)

few-common : (look : Look) (xs : List ℕ) (w : World) (x : RunPoll) → Few x.run (left_of x.run w) w (search_common_by xs w x look)
few-common (First mark) [] w x =
    few-one x.run w w (Op.Run (RunOp.SearchCommon x (Second (other mark)))) refl (same-runs w w refl) (omega arith)
few-common (Second mark) [] w x = few-one x.run w w (Op.List (ListOp.LockRead x)) refl (same-runs w w refl) (omega arith)
few-common look (f ∷ rest) w x = few-one x.run w (search_common_by (f ∷ rest) w x look).world
    (Op.Steal (StealOp.Length (record { poll = x; from = Common (mark_in look); then = Then.Found f }))) refl
    (same-runs w _ refl) (omega arith)

few-look : (xs : List ℕ) (w : World) (x : RunPoll) (at left : ℕ) → Ready x.run w →
    Few x.run (left_of x.run w) w (look_own_by xs w x at left)
few-look [] w x at left r = few-walk w w x w.listed at left (same-runs w w refl)
few-look (f ∷ rest) w x at left r =
    let v : World = put_own w x.run rest in
    few-behind x.run (left_of x.run w) w (Op.List ListOp.UnlockRead ∷ []) (found v x f) refl refl
    (few-from x.run w v (found v x f) (same-runs w v refl) (few-found v x f r))

-- falling asleep

pub copied-same : (w : World) (a : Waker) → TakenSame w (copied w a)
copied-same w (Task g) = same-runs w _ refl
copied-same w (Outside x) = same-runs w _ refl

few-copy : (q : ℕ) (b : Bool) (w : World) (s : Sleeping) → s.who ≡ TickOrRun.Run q →
    Few q (left_of q w) w (copy_sleeper_by b w s)
few-copy q true w s e = few-one q w w _ refl (same-runs w w refl) (omega arith)
few-copy q false w s e =
    few-one q w (copied w s.waker) (Op.Tick (TickOp.FallAsleep s)) e (copied-same w s.waker) (omega arith)

few-nowhere : (q : ℕ) (w : World) (s : Sleeping) (a : Op) → budget q a w ≡ 0 → Doing q a →
    Few q (left_of q w) w (done w (Op.Sleeper (SleeperOp.CallSleeper s) ∷ a ∷ []))
few-nowhere q w s a b k = record {
  control = a;
  side = Op.Sleeper (SleeperOp.CallSleeper s) ∷ [];
  is = refl;
  kind = k;
  light = refl;
  few = omega (arith, b);
  count = refl;
}

few-anew : (q : ℕ) (b : Bool) (w : World) (s : Sleeping) → s.who ≡ TickOrRun.Run q →
    Few q (left_of q w) w (sleep_anew_by b w s)
few-anew q true w s e =
    few-one q w (sleep_anew_by true w s).world (Op.Tick (TickOp.Search s)) e
    (placed w (sleep_anew_by true w s).world s.who _ refl) (omega arith)
few-anew q false w s e = few-nowhere q w s _ refl refl

few-listed : (q : ℕ) (b : Bool) (w : World) (m : ℕ) (s : Sleeping) → s.who ≡ TickOrRun.Run q →
    Few q (left_of q w) w (sleep_listed_by b w m s)
few-listed q true w m s e =
    few-one q w (sleep_listed_by true w m s).world (Op.Tick (TickOp.Search s)) e (same-runs w _ refl) (omega arith)
few-listed q false w m s e = few-nowhere q w s _ refl refl

few-again : (q : ℕ) (o : Option ℕ) (w : World) (m : ℕ) (s : Sleeping) → s.who ≡ TickOrRun.Run q →
    Few q (left_of q w) w (sleep_again_by o w m s)
few-again q (Some at) w m s e =
    few-behind q (left_of q w) w (sleeper_goes (waker_at (Some at) w.sleepers.wakers))
    (done (sleep_again_by (Some at) w m s).world _)
    (goes-unseen side_of (λ g. refl) (waker_at (Some at) w.sleepers.wakers))
    (goes-unseen ups (λ g. refl) (waker_at (Some at) w.sleepers.wakers))
    (few-one q w (sleep_again_by (Some at) w m s).world _ refl (same-runs w _ refl) (omega arith))
few-again q None w m s e = few-listed q _ w m s e

few-sleep : (q : ℕ) (x : Ticker) (w : World) (s : Sleeping) → s.who ≡ TickOrRun.Run q →
    Few q (left_of q w) w (fall_asleep_by x w s)
few-sleep q Awake w s e = few-anew q _ w s e
few-sleep q (Asleep m) w s e = few-again q _ w m s e
few-sleep q Left w s e = few-nowhere q w s _ refl refl

-- it calls its own waker

few-wake : (p : ℕ) (h : Hint) (w : World) (x : RunPoll) (q : ℕ) → Few q 0 w (wake_own p w x)
few-wake p h w x q = by x.waker
  where
    by : (a : Waker) → Few q 0 w
        (followed (call_by_reference p (log w (Event.WakerCalled p (Polled.Run x.run) x.poll x.waker)) a)
        (Op.End Reply.Pending (Hold.Run x.run) ∷ []))
    by (Task g) =
        let u : World = log w (Event.WakerCalled p (Polled.Run x.run) x.poll x.waker) in
        let d : Done = act p h (Op.Move Move.WakeByReference g) u in
        let a : Aside u d = aside-act p h (Op.Move Move.WakeByReference g) u refl refl in
        record {
          control = Op.End Reply.Pending (Hold.Run x.run);
          side = reverse d.next;
          is = reverse-append d.next (Op.End Reply.Pending (Hold.Run x.run) ∷ []);
          kind = refl;
          light = weigh-reverse side_of d.next ∙ a.light;
          few = omega (arith, weigh-reverse ups d.next, ups-act p h (Op.Move Move.WakeByReference g) u refl refl);
          count = (side-same p h (Op.Move Move.WakeByReference g) u refl).count;
        }
    by (Outside y) = record {
      control = Op.End Reply.Pending (Hold.Run x.run);
      side = Op.User (UserOp.CallOutside y) ∷ [];
      is = refl;
      kind = refl;
      light = refl;
      few = omega arith;
      count = refl;
    }

-- it goes on so, or it has ended
pub data Goes (q n : ℕ) (w : World) (d : Done) : Type 0 where
  on : Few q n w d → Goes q n w d
  over : d.next ≡ [] → Goes q n w d

pub few-doing : (q p : ℕ) (h : Hint) (c : Op) (w : World) → Doing q c → Ready q w → Goes q (budget q c w) w (act p h c w)
few-doing q p h (Op.Tick (TickOp.Search s)) w e r =
    subst (λ (who : TickOrRun). Goes q (left_of q w) w (search_by_who who p w s)) (sym e)
    (on (few-own (own_of w q) w (record { run = q; waker = s.waker; poll = s.poll }) r))
few-doing q p h (Op.Tick (TickOp.CopyWaker s)) w e r = on (few-copy q _ w s e)
few-doing q p h (Op.Tick (TickOp.FallAsleep s)) w e r = on (few-sleep q (place_of w s.who) w s e)
few-doing q p h (Op.Run (RunOp.TakeTurn x)) w e r =
    subst (λ (k : ℕ). Goes k (left_of k w) w (act p h (Op.Run (RunOp.TakeTurn x)) w)) e
    (on (few-one x.run w (turned p w) (Op.Run (RunOp.SearchCommon x (First (first_of w.urgent_turns)))) refl
    (same-runs w _ refl) (omega arith)))
few-doing q p h (Op.Run (RunOp.SearchCommon x look)) w e r =
    subst (λ (k : ℕ). Goes k (left_of k w) w (act p h (Op.Run (RunOp.SearchCommon x look)) w)) e
    (on (few-common look (queue_of w (mark_in look)).items w x))
few-doing q p h (Op.Run (RunOp.LookOwn x at left)) w e r =
    subst (λ (k : ℕ). Goes k (left_of k w) w (act p h (Op.Run (RunOp.LookOwn x at left)) w)) e
    (on (few-look (own_of w x.run) w x at left (subst (λ (k : ℕ). Ready k w) (sym e) r)))
few-doing q p h (Op.Run (RunOp.WakeOwn x)) w e r = on (few-wake p h w x q)
few-doing q p h (Op.List (ListOp.LockRead x)) w e r =
    subst (λ (k : ℕ). Goes k (left_of k w) w (act p h (Op.List (ListOp.LockRead x)) w)) e
    (on (few-walk w (act p h (Op.List (ListOp.LockRead x)) w).world x w.listed _ (length w.listed) (same-runs w _ refl)))
few-doing q p h (Op.Steal o) w e r =
    subst (λ (k : ℕ). Goes k (left_of k w) w (act p h (Op.Steal o) w)) e
    (on (few-steal p o w (subst (λ (k : ℕ). Ready k w) (sym e) r)))
few-doing q p h (Op.End a held) w e r = over refl
few-doing q p h _ w e r = absurd e
