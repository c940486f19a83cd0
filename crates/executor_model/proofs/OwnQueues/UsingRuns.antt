-- For own_queues_agree and awaiters_are_kept.
-- What a part of a run's poll leads to, counted by a count that sees each part of it alike.
use Rattle.std.proofs.Common.{◌≡◌, ℕ, zero, suc, ◌+◌, List, [], ◌∷◌, length, set, get_or, Bool, true, false, eqb, refl, ap, ◌∙◌}
use Rattle.std.proofs.Common.{arith}
use Rattle.executor_parts.specs.Marks.{other}
use Rattle.executor_model.proofs.Types.{Plain, Urgent, Look, First, Second, Move, ListOp, Op, RunOp, RunPoll}
use Rattle.executor_model.proofs.Types.{TickOrRun, SleeperOp, Source, Common, Own, Steal, StealOp, Then, TickOp, Hint}
use Rattle.executor_model.specs.ActsOfRuns.{asleep, counted_by, found, kept_by, look_own_by, next_place, put_refused, queue_at, run_by}
use Rattle.executor_model.specs.ActsOfRuns.{search_common_by, search_own_by, steal_by, steal_length_by, steal_put_by}
use Rattle.executor_model.specs.World.{World, Ticker, Awake, Asleep, Left, Done, own_of, put_own, run_of}
use Rattle.executor_model.specs.{Acts.mark_in, ActsOfSleepers.found_by, ActsOfRuns.steal_take_by, ActsOfRuns.stolen}
use Rattle.executor_model.specs.{ActsOfRuns.walk, Doing.act, Doing.list_act, Doing.steal_act, Weights.weigh}
use Rattle.executor_model.proofs.OwnQueues.Using.{Mild, mild-none}
use Rattle.executor_model.proofs.OwnQueues.RunsDone.{Deed, keeps, takes, lacks, shares, grows, wakes, lists, deed-act, poll_in}
use Rattle.executor_model.proofs.OwnQueues.RunsMoving.{coat-common, coat-more, coat-refused, coat-stolen}
use Rattle.executor_model.proofs.OwnQueues.UsingWorlds.{idle-coat, Idle, idle, is_past}
use Rattle.executor_model.proofs.{Steps.Lists.weigh-append, OwnQueues.RunsAside.coat}

-- each part of this poll counts n
pub record Part (v : Op → ℕ) (x : RunPoll) (n : ℕ) : Type 0 where
  pub search : v (Op.Tick (TickOp.Search (asleep x))) ≡ n
  pub copy : v (Op.Tick (TickOp.CopyWaker (asleep x))) ≡ n
  pub begin : (from : Source) (t : Then) → v (Op.Steal (StealOp.Length (record { poll = x; from = from; then = t })))
      ≡ n
  pub own_length : (from : Source) (t : Then) (m : ℕ) →
      v (Op.Steal (StealOp.OwnLength (record { poll = x; from = from; then = t }) m)) ≡ n
  pub take : (from : Source) (t : Then) (m : ℕ) →
      v (Op.Steal (StealOp.Take (record { poll = x; from = from; then = t }) m)) ≡ n
  pub put : (from : Source) (t : Then) (m f : ℕ) →
      v (Op.Steal (StealOp.Put (record { poll = x; from = from; then = t }) m f)) ≡ n
  pub turn : v (Op.Run (RunOp.TakeTurn x)) ≡ n
  pub common : (look : Look) → v (Op.Run (RunOp.SearchCommon x look)) ≡ n
  pub look : (at left : ℕ) → v (Op.Run (RunOp.LookOwn x at left)) ≡ n
  pub own : v (Op.Run (RunOp.WakeOwn x)) ≡ n
  pub lock : v (Op.List (ListOp.LockRead x)) ≡ n

module _ (v : Op → ℕ) (m : Mild v) (x : RunPoll) (n : ℕ) (c : Part v x n) where
  part-run_by : (b : Bool) (w : World) (f : ℕ) → weigh v (run_by b w x f).next ≡ n
  part-run_by true w f = omega (arith, mild-none v m (Op.Move Move.TakeUp f) refl, c.own)
  part-run_by false w f = omega (arith, mild-none v m (Op.Move Move.TakeUp f) refl, c.search)

  part-counted : (b : Bool) (w : World) (f : ℕ) → weigh v (counted_by b w x f).next ≡ n
  part-counted true w f = omega (arith, c.begin (Common Urgent) (Then.StealPlain f))
  part-counted false w f = part-run_by _ _ f

  part-wakes_up : (p : Ticker) (who : TickOrRun) →
      weigh v (found_by p who (Op.Sleeper SleeperOp.ExchangeFlag ∷ [])) ≡ 0
  part-wakes_up Awake who = omega (arith, mild-none v m (Op.Sleeper SleeperOp.ExchangeFlag) refl)
  part-wakes_up (Asleep k) who = omega (
    arith,
    mild-none v m (Op.Tick (TickOp.WakeUp who)) refl,
    mild-none v m (Op.Sleeper SleeperOp.ExchangeFlag) refl,
  )
  part-wakes_up Left who = omega (arith, mild-none v m (Op.Sleeper SleeperOp.ExchangeFlag) refl)

  pub part-found : (w : World) (f : ℕ) → weigh v (found w x f).next ≡ n
  part-found w f =
      let first = found_by (run_of w x.run).place (TickOrRun.Run x.run) (Op.Sleeper SleeperOp.ExchangeFlag ∷ []) in
      let d = counted_by (eqb ((run_of w x.run).counted + 1) 64) w x f in
      omega (
        arith,
        weigh-append v first d.next,
        part-wakes_up (run_of w x.run).place (TickOrRun.Run x.run),
        part-counted (eqb ((run_of w x.run).counted + 1) 64) w f,
      )

  part-stolen : (t : Then) (w : World) → weigh v (stolen t w x).next ≡ n
  part-stolen (Then.Found f) w = part-found w f
  part-stolen (Then.StealPlain f) w = omega (arith, c.begin (Common Plain) (Then.Run f))
  part-stolen (Then.Run f) w = part-run_by _ w f
  part-stolen (Then.Walk at left) w = omega (arith, c.look at left)

  part-length : (from : Source) (t : Then) (k : ℕ) (w : World) →
      weigh v (steal_length_by k w (record { poll = x; from = from; then = t })).next ≡ n
  part-length from t zero w = part-stolen t w
  part-length from t (suc k) w = omega (arith, c.own_length from t (suc k))

  part-more : (from : Source) (t : Then) (k : ℕ) (w : World) →
      weigh v (steal_by k w (record { poll = x; from = from; then = t })).next ≡ n
  part-more from t zero w = part-stolen t w
  part-more from t (suc k) w = omega (arith, c.take from t k)

  part-take : (from : Source) (t : Then) (q : List ℕ) (k : ℕ) (w : World) →
      weigh v (steal_take_by q w (record { poll = x; from = from; then = t }) k).next ≡ n
  part-take from t [] k w = part-stolen t w
  part-take from t (f ∷ rest) k w = omega (arith, c.put from t k f)

  part-refused : (t : Then) (w : World) (f : ℕ) → weigh v (put_refused t w x f).next ≡ n
  part-refused (Then.Walk at left) w f = omega (
    arith,
    mild-none v m (Op.List ListOp.UnlockRead) refl,
    mild-none v m (Op.Move Move.DropRunnable f) refl,
    c.search,
  )
  part-refused t w f = omega (arith, mild-none v m (Op.Move Move.DropRunnable f) refl, part-stolen t w)

  part-put : (from : Source) (t : Then) (b : Bool) (p k f : ℕ) (w : World) →
      weigh v (steal_put_by b p w (record { poll = x; from = from; then = t }) k f).next ≡ n
  part-put from t true p k f w = part-more from t k (kept_by p w x.run f)
  part-put from t false p k f w = part-refused t w f

  pub part-walk : (qs : List ℕ) (at left : ℕ) → weigh v (walk x qs at left) ≡ n
  part-walk qs at zero = omega (arith, mild-none v m (Op.List ListOp.UnlockRead) refl, c.copy)
  part-walk qs at (suc left) = by (eqb (queue_at qs at) x.run) (part-walk qs (next_place qs at) left)
    where
      by : (b : Bool) → weigh v (walk x qs (next_place qs at) left) ≡ n → weigh v (let h : List Op = elim b [
        | true ↦ walk x qs (next_place qs at) left
        | false ↦ Op.Steal (StealOp.Length (record {
          poll = x;
          from = Own (queue_at qs at);
          then = Then.Walk (next_place qs at) left;
        })) ∷ []
      ] in h) ≡ n
      by true z = z
      by false z = omega (arith, c.begin (Own (queue_at qs at)) (Then.Walk (next_place qs at) left))

  pub part-own : (q : List ℕ) (w : World) → weigh v (search_own_by q w x).next ≡ n
  part-own [] w = omega (arith, c.turn)
  part-own (f ∷ rest) w = part-found (put_own w x.run rest) f

  pub part-common : (look : Look) (q : List ℕ) (w : World) → weigh v (search_common_by q w x look).next ≡ n
  part-common (First mark) [] w = omega (arith, c.common (Second (other mark)))
  part-common (Second mark) [] w = omega (arith, c.lock)
  part-common look (f ∷ rest) w = omega (arith, c.begin (Common (mark_in look)) (Then.Found f))

  pub part-look : (q : List ℕ) (w : World) (at left : ℕ) → weigh v (look_own_by q w x at left).next ≡ n
  part-look [] w at left = part-walk w.listed at left
  part-look (f ∷ rest) w at left =
      omega (arith, mild-none v m (Op.List ListOp.UnlockRead) refl, part-found (put_own w x.run rest) f)

pub part-steal : (v : Op → ℕ) → Mild v → (n p : ℕ) (o : StealOp) (w : World) → Part v (poll_in o) n →
    weigh v (steal_act p o w).next ≡ n
part-steal v m n p (StealOp.Length s) w c = part-length v m s.poll n c s.from s.then _ w
part-steal v m n p (StealOp.OwnLength s k) w c = part-more v m s.poll n c s.from s.then _ w
part-steal v m n p (StealOp.Take s more) w c = part-take v m s.poll n c s.from s.then _ more w
part-steal v m n p (StealOp.Put s more f) w c = part-put v m s.poll n c s.from s.then _ p more f w

-- and what it changes: own queues that are empty stay so, but for that of a run to which something comes

pub record Lessens (w v : World) : Type 0 where
  pub own : (r : ℕ) → own_of w r ≡ [] → own_of v r ≡ []
  pub past : (r : ℕ) → is_past (run_of v r) ≡ is_past (run_of w r)
  pub count : length v.runs ≡ length w.runs
  pub gone : v.gone ≡ w.gone

pub lessens : (w v : World) → Idle w v → Lessens w v
lessens w v k = record {
  own = λ r e. ap (λ (qs : List (List ℕ)). get_or qs r []) k.own ∙ e;
  past = k.past;
  count = k.count;
  gone = k.gone;
}

own-first : (qs : List (List ℕ)) (q f : ℕ) (rest : List ℕ) → get_or qs q [] ≡ f ∷ rest → (r : ℕ) → get_or qs r [] ≡ [] →
    get_or (set qs q rest) r [] ≡ []
own-first [] q f rest e r k = refl
own-first (x ∷ qs) zero f rest e zero k = absurd (cc)
own-first (x ∷ qs) zero f rest e (suc r) k = k
own-first (x ∷ qs) (suc q) f rest e zero k = k
own-first (x ∷ qs) (suc q) f rest e (suc r) k = own-first qs q f rest e r k

pub first-taken : (w : World) (q f : ℕ) (rest : List ℕ) → own_of w q ≡ f ∷ rest → Lessens w (put_own w q rest)
first-taken w q f rest e =
    record { own = own-first w.own q f rest e; past = λ r. refl; count = refl; gone = refl }

pub idle-stolen : (t : Then) (w : World) (x : RunPoll) → Idle w (stolen t w x).world
idle-stolen t w x = idle-coat w (stolen t w x).world (coat-stolen t w x)

pub idle-refused : (t : Then) (w : World) (x : RunPoll) (f : ℕ) → Idle w (put_refused t w x f).world
idle-refused t w x f = idle-coat w (put_refused t w x f).world (coat-refused t w x f)

pub idle-more : (n : ℕ) (w : World) (s : Steal) → Idle w (steal_by n w s).world
idle-more n w s = idle-coat w (steal_by n w s).world (coat-more n w s)

pub idle-common : (look : Look) (q : List ℕ) (w : World) (x : RunPoll) → Idle w (search_common_by q w x look).world
idle-common look q w x = idle-coat w (search_common_by q w x look).world (coat-common look q w x)

-- all but what is done to the list, and the end of a steal that comes into an own queue
abbrev pub is_even : Op → Bool
is_even (Op.List (ListOp.Write s)) = false
is_even (Op.Steal (StealOp.Put s more f)) = false
is_even _ = true

lessens-coat : (w v : World) → coat w ≡ coat v → Lessens w v
lessens-coat w v e = lessens w v (idle-coat w v e)

lessens-list : (h : Hint) (o : ListOp) (w : World) → is_even (Op.List o) ≡ true → Lessens w (list_act h o w).world
lessens-list h (ListOp.Write s) w n = absurd (cc)
lessens-list h _ w n = lessens w _ (idle w _ refl refl refl)

lessens-deed : (w : World) (o : Op) (d : Done) → is_even o ≡ true → Deed w o d → Lessens w d.world
lessens-deed w o d n (keeps e l) = lessens-coat w d.world e
lessens-deed w o d n (takes q f rest i e l) =
    let a = first-taken w q f rest i in let b = idle-coat (put_own w q rest) d.world e in record {
      own = λ r z. ap (λ (qs : List (List ℕ)). get_or qs r []) b.own ∙ a.own r z;
      past = b.past;
      count = b.count;
      gone = b.gone;
    }
lessens-deed w o d n (lacks q i e l) = lessens-coat w d.world e
lessens-deed w o d n (shares s i k b e m) = lessens-coat w d.world e
lessens-deed w o d n (grows s k f e m) = absurd (cc)
lessens-deed w o d n (wakes p x e z) = lessens-coat w d.world e
lessens-deed w o d n (lists h l) = lessens-list h l w n

pub lessens-act : (p : ℕ) (h : Hint) (o : Op) (w : World) → is_even o ≡ true → Lessens w (act p h o w).world
lessens-act p h o w n = lessens-deed w o (act p h o w) n (deed-act p h o w)
