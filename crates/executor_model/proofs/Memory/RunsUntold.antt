-- For refused_calls_change_nothing, wakes_and_drops_take_no_memory and want_of_memory_is_told_of.
-- What a run does where it searches, steals and runs what it has found leads to nothing that these tests are for.
use Rattle.std.proofs.Common.{◌≡◌, ℕ, zero, suc, ◌+◌, List, [], ◌∷◌, ◌++◌, Bool, true, false, ◌||◌, eqb, refl, ap, ◌∙◌}
use Rattle.std.specs.List.{list_any}
use Rattle.executor_parts.specs.Marks.{first_of, other}
use Rattle.executor_model.proofs.Types.{Move, Plain, Urgent, ListOp, Look, First, Second, Op, RunOp, RunPoll}
use Rattle.executor_model.proofs.Types.{TickOrRun, SleeperOp, Sleeping, Common, Own, Steal, StealOp, Then, TickOp}
use Rattle.executor_model.specs.ActsOfRuns.{asleep, put_refused, run_by, counted_by, found, walk, next_place, queue_at, kept_by, look_own}
use Rattle.executor_model.specs.ActsOfRuns.{look_own_by, search_own, search_own_by, search_common, search_common_by, stolen}
use Rattle.executor_model.specs.World.{World, Ticker, Awake, Asleep, Left, put_own, run_of}
use Rattle.executor_model.specs.ActsOfRuns.{take_turn_of_run, steal_length_by, steal_by, steal_take_by, steal_put_by}
use Rattle.executor_model.specs.{Acts.mark_in, ActsOfSleepers.found_by, Doing.steal_act}

-- none of what a search leads to passes the test, but for the copy of a waker
pub record Untold (t : Op → Bool) : Type 0 where
  pub exchange : t (Op.Sleeper SleeperOp.ExchangeFlag) ≡ false
  pub search : (s : Sleeping) → t (Op.Tick (TickOp.Search s)) ≡ false
  pub up : (who : TickOrRun) → t (Op.Tick (TickOp.WakeUp who)) ≡ false
  pub take_up : (f : ℕ) → t (Op.Move Move.TakeUp f) ≡ false
  pub retract : (f : ℕ) → t (Op.Move Move.DropRunnable f) ≡ false
  pub steal : (o : StealOp) → t (Op.Steal o) ≡ false
  pub turn : (x : RunPoll) → t (Op.Run (RunOp.TakeTurn x)) ≡ false
  pub common : (x : RunPoll) (l : Look) → t (Op.Run (RunOp.SearchCommon x l)) ≡ false
  pub look : (x : RunPoll) (at left : ℕ) → t (Op.Run (RunOp.LookOwn x at left)) ≡ false
  pub own : (x : RunPoll) → t (Op.Run (RunOp.WakeOwn x)) ≡ false
  pub lock : (x : RunPoll) → t (Op.List (ListOp.LockRead x)) ≡ false
  pub unlock : t (Op.List ListOp.UnlockRead) ≡ false

module _ (t : Op → Bool) (u : Untold t) where
  first : (o : Op) (os : List Op) → t o ≡ false → list_any t os ≡ false → list_any t (o ∷ os) ≡ false
  first o os a b = ap (λ (x : Bool). x || list_any t os) a ∙ b

  alone : (o : Op) → t o ≡ false → list_any t (o ∷ []) ≡ false
  alone o a = first o [] a refl

  untold-run_by : (b : Bool) (w : World) (x : RunPoll) (f : ℕ) → list_any t (run_by b w x f).next ≡ false
  untold-run_by true w x f = first (Op.Move Move.TakeUp f) (Op.Run (RunOp.WakeOwn x) ∷ []) (u.take_up f)
      (alone (Op.Run (RunOp.WakeOwn x)) (u.own x))
  untold-run_by false w x f = first (Op.Move Move.TakeUp f) (Op.Tick (TickOp.Search (asleep x)) ∷ []) (u.take_up f)
      (alone (Op.Tick (TickOp.Search (asleep x))) (u.search (asleep x)))

  untold-counted : (b : Bool) (w : World) (x : RunPoll) (f : ℕ) → list_any t (counted_by b w x f).next ≡ false
  untold-counted true w x f =
      let o = StealOp.Length (record { poll = x; from = Common Urgent; then = Then.StealPlain f }) in
      alone (Op.Steal o) (u.steal o)
  untold-counted false w x f = untold-run_by _ _ x f

  untold-wakes_up : (p : Ticker) (who : TickOrRun) (more : List Op) → list_any t more ≡ false →
      list_any t (found_by p who (Op.Sleeper SleeperOp.ExchangeFlag ∷ []) ++ more) ≡ false
  untold-wakes_up Awake who more e = first (Op.Sleeper SleeperOp.ExchangeFlag) more u.exchange e
  untold-wakes_up (Asleep n) who more e =
      first (Op.Tick (TickOp.WakeUp who)) (Op.Sleeper SleeperOp.ExchangeFlag ∷ more) (u.up who)
      (first (Op.Sleeper SleeperOp.ExchangeFlag) more u.exchange e)
  untold-wakes_up Left who more e = first (Op.Sleeper SleeperOp.ExchangeFlag) more u.exchange e

  pub untold-found : (w : World) (x : RunPoll) (f : ℕ) → list_any t (found w x f).next ≡ false
  untold-found w x f =
      untold-wakes_up (run_of w x.run).place (TickOrRun.Run x.run)
      (counted_by (eqb ((run_of w x.run).counted + 1) 64) w x f).next (untold-counted _ w x f)

  pub untold-stolen : (n : Then) (w : World) (x : RunPoll) → list_any t (stolen n w x).next ≡ false
  untold-stolen (Then.Found f) w x = untold-found w x f
  untold-stolen (Then.StealPlain f) w x =
      let o = StealOp.Length (record { poll = x; from = Common Plain; then = Then.Run f }) in
      alone (Op.Steal o) (u.steal o)
  untold-stolen (Then.Run f) w x = untold-run_by _ w x f
  untold-stolen (Then.Walk at left) w x = alone (Op.Run (RunOp.LookOwn x at left)) (u.look x at left)

  untold-length : (n : ℕ) (w : World) (s : Steal) → list_any t (steal_length_by n w s).next ≡ false
  untold-length zero w s = untold-stolen s.then w s.poll
  untold-length (suc n) w s = let o = StealOp.OwnLength s (suc n) in alone (Op.Steal o) (u.steal o)

  untold-more : (n : ℕ) (w : World) (s : Steal) → list_any t (steal_by n w s).next ≡ false
  untold-more zero w s = untold-stolen s.then w s.poll
  untold-more (suc n) w s = let o = StealOp.Take s n in alone (Op.Steal o) (u.steal o)

  untold-take : (q : List ℕ) (w : World) (s : Steal) (more : ℕ) → list_any t (steal_take_by q w s more).next ≡ false
  untold-take [] w s more = untold-stolen s.then w s.poll
  untold-take (f ∷ rest) w s more = let o = StealOp.Put s more f in alone (Op.Steal o) (u.steal o)

  untold-refused : (n : Then) (w : World) (x : RunPoll) (f : ℕ) → list_any t (put_refused n w x f).next ≡ false
  untold-refused (Then.Walk at left) w x f =
      let o = TickOp.Search (asleep x) in
      first (Op.List ListOp.UnlockRead) (Op.Move Move.DropRunnable f ∷ Op.Tick o ∷ []) u.unlock
      (first (Op.Move Move.DropRunnable f) (Op.Tick o ∷ []) (u.retract f) (alone (Op.Tick o) (u.search (asleep x))))
  untold-refused n w x f = first (Op.Move Move.DropRunnable f) (stolen n w x).next (u.retract f) (untold-stolen n w x)

  untold-put : (b : Bool) (p : ℕ) (w : World) (s : Steal) (more f : ℕ) →
      list_any t (steal_put_by b p w s more f).next ≡ false
  untold-put true p w s more f = untold-more more (kept_by p w s.poll.run f) s
  untold-put false p w s more f = untold-refused s.then w s.poll f

  pub untold-steal : (p : ℕ) (o : StealOp) (w : World) → list_any t (steal_act p o w).next ≡ false
  untold-steal p (StealOp.Length s) w = untold-length _ w s
  untold-steal p (StealOp.OwnLength s n) w = untold-more _ w s
  untold-steal p (StealOp.Take s more) w = untold-take _ w s more
  untold-steal p (StealOp.Put s more f) w = untold-put _ p w s more f

  untold-own : (q : List ℕ) (w : World) (x : RunPoll) → list_any t (search_own_by q w x).next ≡ false
  untold-own [] w x = alone (Op.Run (RunOp.TakeTurn x)) (u.turn x)
  untold-own (f ∷ rest) w x = untold-found (put_own w x.run rest) x f

  pub untold-search : (w : World) (x : RunPoll) → list_any t (search_own w x).next ≡ false
  untold-search w x = untold-own _ w x

  pub untold-turn : (p : ℕ) (w : World) (x : RunPoll) → list_any t (take_turn_of_run p w x).next ≡ false
  untold-turn p w x =
      let l = First (first_of w.urgent_turns) in alone (Op.Run (RunOp.SearchCommon x l)) (u.common x l)

  untold-common_by : (q : List ℕ) (w : World) (x : RunPoll) (l : Look) →
      list_any t (search_common_by q w x l).next ≡ false
  untold-common_by [] w x (First m) =
      alone (Op.Run (RunOp.SearchCommon x (Second (other m)))) (u.common x (Second (other m)))
  untold-common_by [] w x (Second m) = alone (Op.List (ListOp.LockRead x)) (u.lock x)
  untold-common_by (f ∷ rest) w x l =
      let o = StealOp.Length (record { poll = x; from = Common (mark_in l); then = Then.Found f }) in alone (Op.Steal o)
      (u.steal o)

  pub untold-common : (w : World) (x : RunPoll) (l : Look) → list_any t (search_common w x l).next ≡ false
  untold-common w x l = untold-common_by _ w x l

  -- a look that finds a future
  pub untold-finds : (f : ℕ) (rest : List ℕ) (w : World) (x : RunPoll) (at left : ℕ) →
      list_any t (look_own_by (f ∷ rest) w x at left).next ≡ false
  untold-finds f rest w x at left =
      first (Op.List ListOp.UnlockRead) (found (put_own w x.run rest) x f).next u.unlock
      (untold-found (put_own w x.run rest) x f)

  -- where the copy of a waker doesn't pass it either
  module _ (copy : (s : Sleeping) → t (Op.Tick (TickOp.CopyWaker s)) ≡ false) where
    pub untold-walk : (x : RunPoll) (qs : List ℕ) (at left : ℕ) → list_any t (walk x qs at left) ≡ false
    untold-walk x qs at zero =
        first (Op.List ListOp.UnlockRead) (Op.Tick (TickOp.CopyWaker (asleep x)) ∷ []) u.unlock
        (alone (Op.Tick (TickOp.CopyWaker (asleep x))) (copy (asleep x)))
    untold-walk x qs at (suc left) = by (eqb (queue_at qs at) x.run) (untold-walk x qs (next_place qs at) left)
      where
        by : (b : Bool) → list_any t (walk x qs (next_place qs at) left) ≡ false → list_any t
            (let h : List Op = elim b [
              | true ↦ walk x qs (next_place qs at) left
              | false ↦ Op.Steal (StealOp.Length (record {
                poll = x;
                from = Own (queue_at qs at);
                then = Then.Walk (next_place qs at) left;
              })) ∷ []
            ] in h) ≡ false
        by true z = z
        by false z =
            let o = StealOp.Length (record {
              poll = x;
              from = Own (queue_at qs at);
              then = Then.Walk (next_place qs at) left;
            }) in alone (Op.Steal o) (u.steal o)

    untold-look_by : (q : List ℕ) (w : World) (x : RunPoll) (at left : ℕ) →
        list_any t (look_own_by q w x at left).next ≡ false
    untold-look_by [] w x at left = untold-walk x w.listed at left
    untold-look_by (f ∷ rest) w x at left = untold-finds f rest w x at left

    pub untold-look : (w : World) (x : RunPoll) (at left : ℕ) → list_any t (look_own w x at left).next ≡ false
    untold-look w x at left = untold-look_by _ w x at left
