-- For common_futures_are_in_reach_of_runs.
-- What a run that is polled does takes what is first, in its own queue or in one of the executor's, or leaves a future as near to
-- it as it was.
use Rattle.std.proofs.Common.{◌≡◌, ◌∙◌, ◌⊎◌, inl, inr, ⊎_elim, ℕ, zero, suc, ◌<◌, List, [], ◌∷◌, ◌++◌, length, drop}
use Rattle.std.proofs.Common.{get_or, get_or-set_same, Bool, true, false, ltb, refl, sym, ap, subst, arith, append-nil}
use Rattle.std.proofs.lemmas.List.{reverse-append}
use Rattle.std.specs.Prelude.{reverse}
use Rattle.executor_parts.specs.Marks.{first_of, other}
use Rattle.queue_steps.specs.ClosableQueue.{ClosableQueue, taken}
use Rattle.executor_laws.proofs.Types.{First, Second, Look, Mark, Plain, Urgent, Event, Move, Reply, Hold, Op, Polled, RunOp, RunPoll}
use Rattle.executor_laws.proofs.Types.{SleeperOp, Common, Steal, StealOp, Then, TickOp, TickOrRun, UserOp, Waker, Task, Outside, Hint}
use Rattle.executor_model.specs.{Queues.Queues, Queues.queue_in, World.done, World.put_queue, World.queue_of, Acts.mark_in, Acts.take_turn}
use Rattle.executor_model.specs.{Acts.turned, Acts.followed, ActsOfRuns.asleep, ActsOfRuns.call_by_reference, ActsOfRuns.counted_by}
use Rattle.executor_model.specs.{ActsOfRuns.counted_to, ActsOfRuns.found, ActsOfRuns.free_places, ActsOfRuns.kept_by, ActsOfRuns.run_by}
use Rattle.executor_model.specs.{ActsOfRuns.search_common_by, ActsOfRuns.search_own_by, ActsOfRuns.steal_by, ActsOfRuns.steal_length_by}
use Rattle.executor_model.specs.{ActsOfRuns.steal_put_by, ActsOfRuns.steal_take_by, ActsOfRuns.stolen, ActsOfRuns.wake_own}
use Rattle.executor_model.specs.{ActsOfSleepers.found_by, Doing.act, Trace.Trace, Weights.weigh, World.Asleep, World.Awake, World.Done}
use Rattle.executor_model.specs.{World.Left, World.Ticker, World.World, World.log, World.own_of, World.put_own}
use Rattle.executor_model.proofs.{OwnQueues.UsingRuns.idle-stolen, OwnQueues.UsingWorlds.idle-act, Steps.Lists.weigh-append}
use Rattle.executor_model.proofs.{Steps.Lists.weigh-reverse, Steps.QueuesByMark.mark-cases, Steps.QueuesByMark.queue-put-same}
use Rattle.executor_laws.proofs.{Reach.LoneMoves.Inner, Reach.LoneMoves.inner-act, Reach.LoneMoves.stray_of, Reach.Spots.named}
use Rattle.executor_laws.proofs.{Reach.Spots.named-append, Reach.Spots.named-none, RunReach.RunFinds.Heads, RunReach.RunFinds.heads-found}
use Rattle.executor_laws.proofs.{RunReach.RunFinds.Heading.stealing, RunReach.RunLeaves.within, Turns.Standing.Beside, Turns.Standing.Phase}
use Rattle.executor_laws.proofs.{Turns.Standing.Standing, Turns.Standing.Untold, Turns.Standing.Phase.looking, Turns.Standing.Phase.ongoing}

-- what a steal has in hand stands behind the run's own queue
abbrev pub with_hand : Op → List ℕ → List ℕ
with_hand (Op.Steal (StealOp.Put s more g)) own = own ++ g ∷ []
with_hand _ own = own

-- so near is f to run q, which is about to do this
abbrev pub Stands : (Phase → ℕ → List ℕ → List ℕ → Type 0) → Mark → ℕ → Phase → Op → World → Type 0
Stands P m q t c w = P t (named m w.trace) (with_hand c (own_of w q)) (queue_of w m).items

-- and with nothing in hand
abbrev pub Rests : (Phase → ℕ → List ℕ → List ℕ → Type 0) → Mark → ℕ → Phase → World → Type 0
Rests P m q t w = P t (named m w.trace) (own_of w q) (queue_of w m).items

-- the queue of the other mark is empty, or what is taken from there leaves f as near
abbrev pub Others : (Phase → ℕ → List ℕ → List ℕ → Type 0) → Mark → World → Type 0
Others P m w = ((queue_of w (other m)).items ≡ []) ⊎ Beside P

pub other-twice : (m : Mark) → other (other m) ≡ m
other-twice Plain = refl
other-twice Urgent = refl

-- what the run itself does while something is queued

abbrev pub NoWalk : Then → Type 0
NoWalk (Then.Found f) = true ≡ true
NoWalk (Then.StealPlain f) = true ≡ true
NoWalk (Then.Run f) = true ≡ true
NoWalk (Then.Walk at left) = ⊥

abbrev pub steal_in : StealOp → Steal
steal_in (StealOp.Length s) = s
steal_in (StealOp.OwnLength s n) = s
steal_in (StealOp.Take s more) = s
steal_in (StealOp.Put s more f) = s

abbrev pub OfCommon : ℕ → Steal → Type 0
OfCommon q s = (s.poll.run ≡ q) × ((mark : Mark) × (s.from ≡ Common mark)) × NoWalk s.then

-- the first look is at the queue of this mark, or at the other one, and then no turn named this one
abbrev pub LooksSo : Mark → Phase → Mark → Type 0
LooksSo m t k = (k ≡ m) ⊎ ((k ≡ other m) × Untold t)

abbrev pub Doing : Mark → ℕ → Phase → Op → Type 0
Doing m q t (Op.Tick (TickOp.Search s)) = (s.who ≡ TickOrRun.Run q) × Untold t
Doing m q t (Op.Run (RunOp.TakeTurn x)) = (x.run ≡ q) × Untold t
Doing m q t (Op.Run (RunOp.SearchCommon x (First k))) = (x.run ≡ q) × LooksSo m t k
Doing m q t (Op.Run (RunOp.SearchCommon x (Second k))) = (x.run ≡ q) × (k ≡ m)
Doing m q t (Op.Run (RunOp.WakeOwn x)) = (x.run ≡ q) × (t ≡ ongoing)
Doing m q t (Op.Steal o) = OfCommon q (steal_in o) × (t ≡ ongoing)
Doing m q t (Op.End a held) = t ≡ ongoing
Doing m q t _ = ⊥

-- it goes on with one thing of its own, below others, with nothing in its hand
pub record Holds (m : Mark) (q : ℕ) (next : List Op) : Type 0 where
  pub control : Op
  pub side : List Op
  pub is : reverse next ≡ control ∷ side
  pub kind : Doing m q ongoing control
  pub light : weigh stray_of side ≡ 0
  pub hand : (own : List ℕ) → with_hand control own ≡ own

holds-one : (m : Mark) (q : ℕ) (c : Op) → Doing m q ongoing c → ((own : List ℕ) → with_hand c own ≡ own) → Holds m q (c ∷ [])
holds-one m q c k e = record { control = c; side = []; is = refl; kind = k; light = refl; hand = e }

holds-behind : (m : Mark) (q : ℕ) (ops next : List Op) → weigh stray_of ops ≡ 0 → Holds m q next → Holds m q (ops ++ next)
holds-behind m q ops next z h = record {
  control = h.control;
  side = h.side ++ reverse ops;
  is = reverse-append ops next ∙ ap (λ (os : List Op). os ++ reverse ops) h.is;
  kind = h.kind;
  light = omega (arith, z, h.light, weigh-append stray_of h.side (reverse ops), weigh-reverse stray_of ops);
  hand = h.hand;
}

holds-run_by : (m : Mark) (b : Bool) (w : World) (x : RunPoll) (f : ℕ) → Holds m x.run (run_by b w x f).next
holds-run_by m true w x f =
    holds-behind m x.run (Op.Move Move.TakeUp f ∷ []) (Op.Run (RunOp.WakeOwn x) ∷ []) refl
    (holds-one m x.run (Op.Run (RunOp.WakeOwn x)) (refl, refl) (λ own. refl))
holds-run_by m false w x f =
    holds-behind m x.run (Op.Move Move.TakeUp f ∷ []) (Op.Tick (TickOp.Search (asleep x)) ∷ []) refl
    (holds-one m x.run (Op.Tick (TickOp.Search (asleep x))) (refl, refl) (λ own. refl))

-- a steal that begins
begins : (m k : Mark) (x : RunPoll) (t : Then) → NoWalk t →
    Holds m x.run (Op.Steal (StealOp.Length (record { poll = x; from = Common k; then = t })) ∷ [])
begins m k x t n = holds-one m x.run (Op.Steal (StealOp.Length (record { poll = x; from = Common k; then = t })))
    ((refl, (k, refl), n), refl) (λ own. refl)

holds-counted_by : (m : Mark) (b : Bool) (w : World) (x : RunPoll) (f : ℕ) → Holds m x.run (counted_by b w x f).next
holds-counted_by m true w x f = begins m Urgent x (Then.StealPlain f) refl
holds-counted_by m false w x f = holds-run_by m _ (counted_to w x.run _) x f

found-light : (x : Ticker) (who : TickOrRun) → weigh stray_of (found_by x who (Op.Sleeper SleeperOp.ExchangeFlag ∷ [])) ≡ 0
found-light Awake who = refl
found-light (Asleep n) who = refl
found-light Left who = refl

holds-found : (m : Mark) (w : World) (x : RunPoll) (f : ℕ) → Holds m x.run (found w x f).next
holds-found m w x f =
    holds-behind m x.run (found_by _ (TickOrRun.Run x.run) (Op.Sleeper SleeperOp.ExchangeFlag ∷ [])) (counted_by _ w x f).next
    (found-light _ (TickOrRun.Run x.run)) (holds-counted_by m _ w x f)

holds-stolen : (m : Mark) (t : Then) (w : World) (x : RunPoll) → NoWalk t → Holds m x.run (stolen t w x).next
holds-stolen m (Then.Found f) w x k = holds-found m w x f
holds-stolen m (Then.StealPlain f) w x k = begins m Plain x (Then.Run f) refl
holds-stolen m (Then.Run f) w x k = holds-run_by m _ w x f
holds-stolen m (Then.Walk at left) w x k = absurd k

-- the executor's queues stay, and nothing is told of
abbrev Still : World → World → Type 0
Still w v = (v.queues ≡ w.queues) × (v.trace ≡ w.trace)

still-run : (b : Bool) (w : World) (x : RunPoll) (f : ℕ) → Still w (run_by b w x f).world
still-run true w x f = (refl, refl)
still-run false w x f = (refl, refl)

still-counted : (b : Bool) (w : World) (x : RunPoll) (f : ℕ) → Still w (counted_by b w x f).world
still-counted true w x f = (refl, refl)
still-counted false w x f = still-run _ (counted_to w x.run _) x f

still-stolen : (t : Then) (w : World) (x : RunPoll) → Still w (stolen t w x).world
still-stolen (Then.Found f) w x = still-counted _ w x f
still-stolen (Then.StealPlain f) w x = (refl, refl)
still-stolen (Then.Run f) w x = still-run _ w x f
still-stolen (Then.Walk at left) w x = (refl, refl)

-- how often a mark was named

named-last : (m : Mark) (e : Event) (es : Trace) → named m (e ∷ []) ≡ 0 → named m (es ++ e ∷ []) ≡ named m es
named-last m e es z = omega (arith, z, named-append m es (e ∷ []))

named-turn : (m : Mark) (p : ℕ) (es : Trace) → named m (es ++ Event.Looked p m ∷ []) ≡ suc (named m es)
named-turn Plain p es = omega (arith, named-append Plain es (Event.Looked p Plain ∷ []))
named-turn Urgent p es = omega (arith, named-append Urgent es (Event.Looked p Urgent ∷ []))

named-other : (m : Mark) (p : ℕ) (es : Trace) → named m (es ++ Event.Looked p (other m) ∷ []) ≡ named m es
named-other Plain p es = named-last Plain (Event.Looked p Urgent) es refl
named-other Urgent p es = named-last Urgent (Event.Looked p Plain) es refl

-- what is left of a queue whose first is taken

taken-there : (m : Mark) (w : World) →
    (queue_of (put_queue w m (taken (queue_of w m))) m).items ≡ drop 1 (queue_of w m).items
taken-there m w = ap (λ (q : ClosableQueue ℕ). q.items) (queue-put-same m (taken (queue_of w m)) w.queues)

taken-other : (m : Mark) (w : World) →
    (queue_of (put_queue w (other m) (taken (queue_of w (other m)))) m).items ≡ (queue_of w m).items
taken-other Plain w = refl
taken-other Urgent w = refl

abbrev pub common_steal : RunPoll → Mark → Then → Steal
common_steal x mark t = record { poll = x; from = Common mark; then = t }

-- it goes on, with f as near; it has ended so; or it has f in hand
pub data Goes (P : Phase → ℕ → List ℕ → List ℕ → Type 0) (m : Mark) (q f : ℕ) (t : Trace) (g : Bool) (d : Done) : Type 0 where
  on : (a : Phase) (c : Op) (side : List Op) → reverse d.next ≡ c ∷ side → Doing m q a c → weigh stray_of side ≡ 0 →
      Stands P m q a c d.world → Goes P m q f t g d
  over : d.next ≡ [] → Rests P m q ongoing d.world → Goes P m q f t g d
  finds : Heads f t g d → Goes P m q f t g d

pub record After (P : Phase → ℕ → List ℕ → List ℕ → Type 0) (m : Mark) (q f : ℕ) (w : World) (d : Done) : Type 0 where
  pub goes : Goes P m q f w.trace w.gone d
  pub gone : d.world.gone ≡ w.gone

module _ (f : ℕ) (m : Mark) (P : Phase → ℕ → List ℕ → List ℕ → Type 0) (law : Standing f P) where
  pub carry : (t : Phase) (k n : ℕ) (own xs q ys : List ℕ) → n ≡ k → xs ≡ own → ys ≡ q → P t k own q → P t n xs ys
  carry t k n own xs q ys e i j z =
      subst (λ (a : ℕ). P t a xs ys) (sym e)
      (subst (λ (zs : List ℕ). P t k zs ys) (sym i) (subst (λ (zs : List ℕ). P t k own zs) (sym j) z))

  after-holds : (q : ℕ) (w v : World) (d : Done) → Holds m q d.next → d.world.own ≡ v.own → d.world.queues ≡ v.queues →
      d.world.trace ≡ v.trace → d.world.gone ≡ w.gone → Rests P m q ongoing v → After P m q f w d
  after-holds q w v d h o i t g z = record {
    goes = on ongoing h.control h.side h.is h.kind h.light
        (carry ongoing (named m v.trace) (named m d.world.trace) (own_of v q) (with_hand h.control (own_of d.world q))
        (queue_of v m).items (queue_of d.world m).items (ap (named m) t)
        (h.hand (own_of d.world q) ∙ ap (λ (qs : List (List ℕ)). get_or qs q []) o)
        (ap (λ (qs : Queues). (queue_in m qs).items) i) z);
    gone = g;
  }

  after-stolen : (t : Then) (w v : World) (x : RunPoll) → NoWalk t → v.gone ≡ w.gone → Rests P m x.run ongoing v →
      After P m x.run f w (stolen t v x)
  after-stolen t w v x n g z = after-holds x.run w v (stolen t v x) (holds-stolen m t v x n) (idle-stolen t v x).own
      (still-stolen t v x).0 (still-stolen t v x).1 ((idle-stolen t v x).gone ∙ g) z

  -- a search in the own queue

  pub after-own : (t : Phase) (xs : List ℕ) (w : World) (x : RunPoll) → own_of w x.run ≡ xs → Untold t →
      Rests P m x.run t w → After P m x.run f w (search_own_by xs w x)
  after-own t [] w x o u z = record { goes = on t (Op.Run (RunOp.TakeTurn x)) [] refl (refl, u) refl z; gone = refl }
  after-own t (h ∷ rest) w x o u z = ⊎_elim
      (λ (y : h ≡ f). record {
        goes = finds (subst (λ (g : ℕ). Heads f w.trace w.gone (found (put_own w x.run rest) x g)) (sym y)
            (heads-found f (put_own w x.run rest) x));
        gone = (idle-stolen (Then.Found h) (put_own w x.run rest) x).gone;
      })
      (λ (y : P ongoing (named m w.trace) rest (queue_of w m).items).
      after-stolen (Then.Found h) w (put_own w x.run rest) x refl refl
      (subst (λ (ys : List ℕ). P ongoing (named m w.trace) ys (queue_of w m).items)
      (sym (get_or-set_same w.own x.run rest [] (within w.own x.run h rest o))) y))
      (law.first t (named m w.trace) h rest (queue_of w m).items
      (subst (λ (ys : List ℕ). P t (named m w.trace) ys (queue_of w m).items) o z))

  -- it takes its turn
  pub after-turn : (t : Phase) (p : ℕ) (w : World) (x : RunPoll) → own_of w x.run ≡ [] → Untold t → Rests P m x.run t w →
      After P m x.run f w (take_turn p w (λ (look : Look). Op.Run (RunOp.SearchCommon x look)))
  after-turn t p w x o u z = record {
    goes = by (first_of w.urgent_turns) (mark-cases m (first_of w.urgent_turns));
    gone = refl;
  }
    where
      by : (k : Mark) → (k ≡ m) ⊎ (k ≡ other m) → Goes P m x.run f w.trace w.gone
          (done (record w { trace = w.trace ++ Event.Looked p k ∷ []; urgent_turns = (turned p w).urgent_turns })
          (Op.Run (RunOp.SearchCommon x (First k)) ∷ []))
      by k (inl e) = on looking (Op.Run (RunOp.SearchCommon x (First k))) [] refl (refl, inl e) refl
          (carry looking (suc (named m w.trace)) (named m (w.trace ++ Event.Looked p k ∷ [])) [] (own_of w x.run)
          (queue_of w m).items (queue_of w m).items
          (ap (λ (n : Mark). named m (w.trace ++ Event.Looked p n ∷ [])) e ∙ named-turn m p w.trace) o refl
          (law.turns t (named m w.trace) (queue_of w m).items u
          (subst (λ (ys : List ℕ). P t (named m w.trace) ys (queue_of w m).items) o z)))
      by k (inr e) = on t (Op.Run (RunOp.SearchCommon x (First k))) [] refl (refl, inr (e, u)) refl
          (carry t (named m w.trace) (named m (w.trace ++ Event.Looked p k ∷ [])) (own_of w x.run) (own_of w x.run)
          (queue_of w m).items (queue_of w m).items
          (ap (λ (n : Mark). named m (w.trace ++ Event.Looked p n ∷ [])) e ∙ named-other m p w.trace) refl refl z)

  -- it looks at the queue of the mark, first or second

  after-found : (t : Phase) (k : Mark) (h : ℕ) (rest : List ℕ) (w : World) (x : RunPoll) → k ≡ m →
      (queue_of w m).items ≡ h ∷ rest → own_of w x.run ≡ [] → Rests P m x.run t w →
      After P m x.run f w (done (put_queue w k (taken (queue_of w k)))
      (Op.Steal (StealOp.Length (common_steal x k (Then.Found h))) ∷ []))
  after-found t k h rest w x e i o z = ⊎_elim
      (λ (y : h ≡ f). record {
        goes = finds (record {
          heading = stealing (StealOp.Length (common_steal x k (Then.Found h))) [] refl (sym y) refl;
          events = [];
          trace = sym (append-nil w.trace);
          there = refl;
        });
        gone = refl;
      })
      (λ (y : P ongoing (named m w.trace) [] rest). record {
        goes = on ongoing (Op.Steal (StealOp.Length (common_steal x k (Then.Found h)))) [] refl
            ((refl, (k, refl), refl), refl) refl
            (carry ongoing (named m w.trace) (named m w.trace) [] (own_of w x.run) rest
            (queue_of (put_queue w k (taken (queue_of w k))) m).items refl o
            (ap (λ (n : Mark). (queue_of (put_queue w n (taken (queue_of w n))) m).items) e
            ∙ (taken-there m w ∙ ap (λ (ys : List ℕ). drop 1 ys) i)) y);
        gone = refl;
      })
      (law.look t (named m w.trace) h rest
      (carry t (named m w.trace) (named m w.trace) (own_of w x.run) [] (queue_of w m).items (h ∷ rest) refl (sym o) (sym i) z))

  none-there : {A : Type 0} (t : Phase) (w : World) (x : RunPoll) → (queue_of w m).items ≡ [] → own_of w x.run ≡ [] →
      Rests P m x.run t w → A
  none-there t w x i o z = absurd (law.none t (named m w.trace)
      (carry t (named m w.trace) (named m w.trace) (own_of w x.run) [] (queue_of w m).items [] refl (sym o) (sym i) z))

  pub after-look : (t : Phase) (look : Look) (xs : List ℕ) (w : World) (x : RunPoll) → mark_in look ≡ m →
      (queue_of w m).items ≡ xs → own_of w x.run ≡ [] → Rests P m x.run t w →
      After P m x.run f w (search_common_by xs w x look)
  after-look t look [] w x e i o z = none-there t w x i o z
  after-look t look (h ∷ rest) w x e i o z = after-found t (mark_in look) h rest w x e i o z

  -- it looks at the other one first
  pub after-other : (t : Phase) (k : Mark) (xs : List ℕ) (w : World) (x : RunPoll) → k ≡ other m → Untold t →
      (queue_of w k).items ≡ xs → own_of w x.run ≡ [] → Others P m w → Rests P m x.run t w →
      After P m x.run f w (search_common_by xs w x (First k))
  after-other t k [] w x e u i o b z = record {
    goes = on t (Op.Run (RunOp.SearchCommon x (Second (other k)))) [] refl (refl, ap other e ∙ other-twice m) refl z;
    gone = refl;
  }
  after-other t k (h ∷ rest) w x e u i o (inl gone) z =
      let empty : h ∷ rest ≡ [] = sym i ∙ (ap (λ (n : Mark). (queue_of w n).items) e ∙ gone) in absurd (cc)
  after-other t k (h ∷ rest) w x e u i o (inr b) z = record {
    goes = on ongoing (Op.Steal (StealOp.Length (common_steal x k (Then.Found h)))) [] refl
        ((refl, (k, refl), refl), refl) refl
        (carry ongoing (named m w.trace) (named m w.trace) [] (own_of w x.run) (queue_of w m).items
        (queue_of (put_queue w k (taken (queue_of w k))) m).items refl o
        (ap (λ (n : Mark). (queue_of (put_queue w n (taken (queue_of w n))) m).items) e ∙ taken-other m w)
        (b.found t (named m w.trace) (queue_of w m).items u
        (subst (λ (ys : List ℕ). P t (named m w.trace) ys (queue_of w m).items) o z)));
    gone = refl;
  }

  -- a steal

  after-length : (l : ℕ) (w : World) (x : RunPoll) (mark : Mark) (t : Then) → NoWalk t → Rests P m x.run ongoing w →
      After P m x.run f w (steal_length_by l w (common_steal x mark t))
  after-length zero w x mark t n z = after-stolen t w w x n refl z
  after-length (suc l) w x mark t n z = record {
    goes = on ongoing (Op.Steal (StealOp.OwnLength (common_steal x mark t) (suc l))) [] refl
        ((refl, (mark, refl), n), refl) refl z;
    gone = refl;
  }

  after-steal_by : (l : ℕ) (w v : World) (x : RunPoll) (mark : Mark) (t : Then) → v.gone ≡ w.gone → NoWalk t →
      Rests P m x.run ongoing v → After P m x.run f w (steal_by l v (common_steal x mark t))
  after-steal_by zero w v x mark t e n z = after-stolen t w v x n e z
  after-steal_by (suc l) w v x mark t e n z = record {
    goes = on ongoing (Op.Steal (StealOp.Take (common_steal x mark t) l)) [] refl ((refl, (mark, refl), n), refl) refl z;
    gone = e;
  }

  after-take : (mark : Mark) (xs : List ℕ) (w : World) (x : RunPoll) (t : Then) (more : ℕ) →
      (queue_of w mark).items ≡ xs → Others P m w → NoWalk t → Rests P m x.run ongoing w →
      After P m x.run f w (steal_take_by xs w (common_steal x mark t) more)
  after-take mark [] w x t more i b n z = after-stolen t w w x n refl z
  after-take mark (h ∷ rest) w x t more i b n z = by (mark-cases m mark) b
    where
      has : P ongoing (named m w.trace) (own_of w x.run ++ h ∷ [])
          (queue_of (put_queue w mark (taken (queue_of w mark))) m).items →
          After P m x.run f w (steal_take_by (h ∷ rest) w (common_steal x mark t) more)
      has y = record {
        goes = on ongoing (Op.Steal (StealOp.Put (common_steal x mark t) more h)) [] refl
            ((refl, (mark, refl), n), refl) refl y;
        gone = refl;
      }

      by : (mark ≡ m) ⊎ (mark ≡ other m) → Others P m w →
          After P m x.run f w (steal_take_by (h ∷ rest) w (common_steal x mark t) more)
      by (inl e) c =
          let q : (queue_of w m).items ≡ h ∷ rest = ap (λ (k : Mark). (queue_of w k).items) (sym e) ∙ i in
          has (carry ongoing (named m w.trace) (named m w.trace) (own_of w x.run ++ h ∷ []) (own_of w x.run ++ h ∷ []) rest
          (queue_of (put_queue w mark (taken (queue_of w mark))) m).items refl refl
          (ap (λ (k : Mark). (queue_of (put_queue w k (taken (queue_of w k))) m).items) e
          ∙ (taken-there m w ∙ ap (λ (ys : List ℕ). drop 1 ys) q))
          (law.moves (named m w.trace) h (own_of w x.run) rest
          (subst (λ (ys : List ℕ). P ongoing (named m w.trace) (own_of w x.run) ys) q z)))
      by (inr e) (inl gone) =
          let empty : h ∷ rest ≡ [] = sym i ∙ (ap (λ (k : Mark). (queue_of w k).items) e ∙ gone) in absurd (cc)
      by (inr e) (inr c) =
          has (carry ongoing (named m w.trace) (named m w.trace) (own_of w x.run ++ h ∷ []) (own_of w x.run ++ h ∷ [])
          (queue_of w m).items (queue_of (put_queue w mark (taken (queue_of w mark))) m).items refl refl
          (ap (λ (k : Mark). (queue_of (put_queue w k (taken (queue_of w k))) m).items) e ∙ taken-other m w)
          (c.behind (named m w.trace) h (own_of w x.run) (queue_of w m).items z))

  after-put : (p : ℕ) (b : Bool) (w : World) (x : RunPoll) (mark : Mark) (t : Then) (more h : ℕ) → b ≡ true →
      x.run < length w.own → NoWalk t → P ongoing (named m w.trace) (own_of w x.run ++ h ∷ []) (queue_of w m).items →
      After P m x.run f w (steal_put_by b p w (common_steal x mark t) more h)
  after-put p false w x mark t more h b l n z = absurd (cc)
  after-put p true w x mark t more h b l n z =
      let v : World = kept_by p w x.run h in
      after-steal_by more w v x mark t refl n
      (carry ongoing (named m w.trace) (named m v.trace) (own_of w x.run ++ h ∷ []) (own_of v x.run) (queue_of w m).items
      (queue_of w m).items (named-last m (Event.Kept p h x.run) w.trace refl)
      (get_or-set_same w.own x.run (own_of w x.run ++ h ∷ []) [] l) refl z)

  pub after-steal : (p : ℕ) (o : StealOp) (w : World) (x : RunPoll) (mark : Mark) (t : Then) (h : Hint) →
      Others P m w → steal_in o ≡ common_steal x mark t → NoWalk t → x.run < length w.own →
      ((s : Steal) (more g : ℕ) → o ≡ StealOp.Put s more g → ltb 0 (free_places w x.run) ≡ true) →
      Stands P m x.run ongoing (Op.Steal o) w → After P m x.run f w (act p h (Op.Steal o) w)
  after-steal p (StealOp.Length s) w x mark t h b e n l r z =
      subst (λ (y : Steal). After P m x.run f w (act p h (Op.Steal (StealOp.Length y)) w)) (sym e)
      (after-length _ w x mark t n z)
  after-steal p (StealOp.OwnLength s j) w x mark t h b e n l r z =
      subst (λ (y : Steal). After P m x.run f w (act p h (Op.Steal (StealOp.OwnLength y j)) w)) (sym e)
      (after-steal_by _ w w x mark t refl n z)
  after-steal p (StealOp.Take s more) w x mark t h b e n l r z =
      subst (λ (y : Steal). After P m x.run f w (act p h (Op.Steal (StealOp.Take y more)) w)) (sym e)
      (after-take mark (queue_of w mark).items w x t more refl b n z)
  after-steal p (StealOp.Put s more g) w x mark t h b e n l r z =
      subst (λ (y : Steal). After P m x.run f w (act p h (Op.Steal (StealOp.Put y more g)) w)) (sym e)
      (after-put p _ w x mark t more g (r s more g refl) l n z)

  -- it calls its own waker
  pub after-wake : (p : ℕ) (h : Hint) (w : World) (x : RunPoll) → Rests P m x.run ongoing w →
      After P m x.run f w (wake_own p w x)
  after-wake p h w x z = by x.waker
    where
      by : (a : Waker) → After P m x.run f w
          (followed (call_by_reference p (log w (Event.WakerCalled p (Polled.Run x.run) x.poll x.waker)) a)
          (Op.End Reply.Pending (Hold.Run x.run) ∷ []))
      by (Task g) =
          let u : World = log w (Event.WakerCalled p (Polled.Run x.run) x.poll x.waker) in
          let d : Done = act p h (Op.Move Move.WakeByReference g) u in
          let i : Inner u d = inner-act p h (Op.Move Move.WakeByReference g) u refl refl in
          let told : named m u.trace ≡ named m w.trace =
          named-last m (Event.WakerCalled p (Polled.Run x.run) x.poll x.waker) w.trace refl in
          record {
            goes = on ongoing (Op.End Reply.Pending (Hold.Run x.run)) (reverse d.next)
                (reverse-append d.next (Op.End Reply.Pending (Hold.Run x.run) ∷ [])) refl
                (weigh-reverse stray_of d.next ∙ i.plain)
                (carry ongoing (named m w.trace) (named m d.world.trace) (own_of w x.run) (own_of d.world x.run)
                ((queue_of w m).items ++ i.added m) (queue_of d.world m).items (omega (
                  arith,
                  ap (named m) i.trace,
                  named-append m u.trace i.events,
                  named-none m i.events i.no_turn,
                  told,
                ))
                (ap (λ (qs : List (List ℕ)). get_or qs x.run [])
                (idle-act p h (Op.Move Move.WakeByReference g) u refl).own) (i.queue m)
                (law.added ongoing (named m w.trace) (own_of w x.run) (queue_of w m).items (i.added m) z));
            gone = (idle-act p h (Op.Move Move.WakeByReference g) u refl).gone;
          }
      by (Outside y) = record {
        goes = on ongoing (Op.End Reply.Pending (Hold.Run x.run)) (Op.User (UserOp.CallOutside y) ∷ []) refl refl refl
            (carry ongoing (named m w.trace) _ (own_of w x.run) (own_of w x.run) (queue_of w m).items (queue_of w m).items
            (named-last m (Event.WakerCalled p (Polled.Run x.run) x.poll x.waker) w.trace refl) refl refl z);
        gone = refl;
      }
