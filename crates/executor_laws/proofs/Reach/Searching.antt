-- For common_futures_are_in_reach and arrival_order_needs_fewer_ticks.
-- A lone call that looks for a future takes the one that is first in the queue.
use Rattle.std.proofs.Common.{◌≡◌, ℕ, ◌<◌, ◌≤◌, List, [], ◌∷◌, ◌++◌, length, set, cond}
use Rattle.std.proofs.Common.{Bool, true, false, ◌||◌, ltb, refl, sym, ap, ◌∙◌, subst, inl, inr, ⊎_elim}
use Rattle.std.proofs.Common.{arith, get_or-set_same, append-nil, append_assoc, Ok}
use Rattle.std.proofs.lemmas.Bool.Decides.{nat_tests}
use Rattle.std.proofs.lemmas.List.Folds.{list_any-append}
use Rattle.std.specs.Prelude.{Option, Some, None}
use Rattle.executor_parts.specs.Marks.{first_of, other, same_mark}
use Rattle.queue_steps.specs.ClosableQueue.{taken}
use Rattle.executor_laws.proofs.Types.{Mark, By, Call, Reply, Event, Hold, Look, Op, Move, QueueOp, TickOrRun, Sleeping, SleeperOp, TickOp}
use Rattle.executor_laws.proofs.Types.{Hint, Step, Begin, UserEnd}
use Rattle.executor_model.specs.{Trace.Trace, Trace.has, Trace.is_accepted, Trace.is_poll, Trace.is_dropped, Trace.is_drop_begun, Due.IsDue}
use Rattle.executor_model.specs.{Emptiness.IsAtRest, World.World, World.Done, World.Ticker, World.Awake, World.Asleep, World.Left}
use Rattle.executor_model.specs.{World.among, World.done, World.log, World.put_queue, World.queue_of, World.tick_of, Acts.mark_in}
use Rattle.executor_model.specs.{Acts.missed, Acts.take_by, Acts.take_turn, Acts.turned, ActsOfSleepers.found_by}
use Rattle.executor_model.specs.{ActsOfSleepers.look_tick_by, Doing.act, Executions.run_all, Sound.times, Good.Good, Weights.weigh}
use Rattle.executor_model.proofs.{OneFuture.Stories.among_is, OneFuture.Telling.begun-has, Table.Entering.table-agrees}
use Rattle.executor_model.proofs.{Polls.AskingExecutions.Heard, Quiet.Resting.rests, Steps.Reached.Reached, Steps.Reached.run-first}
use Rattle.executor_model.proofs.{Steps.Reached.reached-more, Steps.Reached.reached-step, Steps.Reached.good-here, Steps.Reached.deep-here}
use Rattle.executor_model.proofs.{Steps.Tests.or-left}
use Rattle.executor_laws.specs.{LoneEnds.are_onward_of, LoneEnds.IsLoneCall, Reach.found_answer, Reach.takes}
use Rattle.executor_laws.proofs.{Placement.Placing.here, Placement.Placing.idle, Placement.Placing.queue-common, Exactness.Ticking.ticking}
use Rattle.executor_laws.proofs.{Exactness.Ticking.first-queued, Reach.Reached.bonded-here, Reach.Reached.heard-here}
use Rattle.executor_laws.proofs.{Reach.LoneMoves.stray_of, Reach.LoneSteps.Ended, Reach.LoneSteps.HasEntry, Reach.LoneSteps.answering}
use Rattle.executor_laws.proofs.{Reach.LoneTicks.At, Reach.LoneTicks.Next, Reach.LoneTicks.in-range, Reach.LoneTicks.next}
use Rattle.executor_laws.proofs.{Reach.LoneTicks.no-more, Reach.LoneTicks.walks, Reach.Spots.AllEmpty, Reach.Spots.Spot}
use Rattle.executor_laws.proofs.{Reach.Spots.left_in, Reach.Spots.named, Reach.Spots.named-append, Reach.Spots.named-none}
use Rattle.executor_model.specs.Steps.{Machine, Part, accepts, stack, onto, part, part_after, settled, with_part, waker_of as given}

-- what a lone call that looks leads to, where there is a future to run
pub record First (m : Mark) (f p : ℕ) (c : Call) (r : Reply) (s new : Machine) : Type 0 where
  pub added : Mark → List ℕ
  pub queue : (n : Mark) → (queue_of new.world n).items ≡ left_in m s.world n ++ added n
  pub meanwhile : Trace
  pub events : new.world.trace ≡ s.world.trace ++ Event.CallBegun p c ∷ (meanwhile ++ Event.CallEnded p r ∷ [])
  pub turn : (n : Mark) → named n meanwhile ≡ cond (same_mark n (first_of s.world.urgent_turns)) 1 0
  pub taken : has (takes f) meanwhile ≡ true
  pub there : new.world.gone ≡ false

-- a future that wasn't taken wasn't dropped
pub takes-none : (f : ℕ) (es : Trace) → has (takes f) es ≡ false → has (is_dropped f) es ≡ false
takes-none f [] e = refl
takes-none f (e ∷ es) k = by (is_poll f e) (is_dropped f e) (has (takes f) es) (has (is_dropped f) es) k
    (takes-none f es)
  where
    by : (a b c d : Bool) → ((a || b) || c) ≡ false → (c ≡ false → d ≡ false) → (b || d) ≡ false
    by true b c d q h = absurd (cc)
    by false true c d q h = absurd (cc)
    by false false c d q h = h q

neither : (a b : Bool) → a ≡ false → b ≡ false → (a || b) ≡ false
neither true b e k = absurd (cc)
neither false b e k = k

unanswered : {A : Type 0} → A → false ≡ false
unanswered u = refl

module _ (s : Machine) (r : Reached s) (rest : IsAtRest s) (p : ℕ) (c : Call) (steps : List Step) (new : Machine)
    (k : IsLoneCall p c steps s new) where
  fine : Good s
  fine = good-here s r

  all-heard : Heard s
  all-heard = heard-here s r

  idles : (q : ℕ) → stack s q ≡ []
  idles q = idle s fine all-heard (deep-here s r) (bonded-here s r) rest q

  pub still-there : s.world.gone ≡ false
  still-there = here s fine all-heard (deep-here s r) (bonded-here s r) rest

  pub reached-new : Reached new
  reached-new = reached-more (Begin p c ∷ steps) s new r k.made

  new-idle : stack new p ≡ []
  new-idle = rests new (deep-here new reached-new) k.ended p

  in-parties : p < length s.parties
  in-parties = let b : ltb p (length s.parties) ≡ true =
      (in-range _ _ (run-first (Begin p c) steps s new k.made).0).0 in
      grind (arith, nat_tests)

  -- the machine in which the call has begun
  abbrev begun-by : Machine
  begun-by = with_part s p (part_after s.world [] (Begin p c))

  on-begun : run_all steps begun-by ≡ Ok new
  on-begun = sym (ap (λ (os : List Op). run_all steps (with_part s p (part_after s.world os (Begin p c)))) (idles p))
      ∙ (run-first (Begin p c) steps s new k.made).1

  reached-begun : Reached begun-by
  reached-begun = subst (λ (os : List Op). Reached (with_part s p (part_after s.world os (Begin p c)))) (idles p)
      (reached-step s (Begin p c) (run-first (Begin p c) steps s new k.made).0 r)

  pub at-rest : new.world.gone ≡ false → IsAtRest new
  at-rest g = record {
    quiet = k.ended;
    there = sym (begun-has 0 new.world.trace)
        ∙ (((heard-here new reached-new).placed.leaves 0).begun ∙ g);
  }

  -- where f is first in the queue, it has its entry until it is taken
  module _ (mark : Mark) (f : ℕ) (xs : List ℕ) (q : (queue_of s.world mark).items ≡ f ∷ xs) (told : Trace)
      (undropped : has (is_dropped f) told ≡ false) where
    abbrev before : Trace
    before = s.world.trace ++ told

    due : IsDue f s.world.trace
    due = (queue-common s fine all-heard (deep-here s r) (bonded-here s r) rest f
        (first-queued s.world mark f xs q)).due

    entry-by : (m : Machine) → Reached m → m.world.gone ≡ false → (meanwhile : Trace) →
        m.world.trace ≡ before ++ meanwhile →
        (b : Bool) → has (takes f) meanwhile ≡ b → HasEntry f m.world meanwhile
    entry-by m y g meanwhile t true e = inl e
    entry-by m y g meanwhile t false e =
        let kept : has (is_dropped f) m.world.trace ≡ false = ap (has (is_dropped f)) t
        ∙ (list_any-append (is_dropped f) before meanwhile
        ∙ neither _ _ (list_any-append (is_dropped f) s.world.trace told
        ∙ neither _ _ due.undropped undropped) (takes-none f meanwhile e)) in
        let accepted : has (is_accepted f) m.world.trace ≡ true = ap (has (is_accepted f)) t
        ∙ (list_any-append (is_accepted f) before meanwhile
        ∙ or-left _ _ (list_any-append (is_accepted f) s.world.trace told ∙ or-left _ _ due.accepted)) in
        let there : has is_drop_begun m.world.trace ≡ false = sym (begun-has 0 m.world.trace)
        ∙ (((heard-here m y).placed.leaves 0).begun ∙ g) in
        let one : times f m.world.table ≡ 1 =
        (table-agrees m f (good-here m y) (heard-here m y).placed).entered (inl there)
        (record { accepted = accepted; remains = inl kept }) in
        inr (⊎_elim (λ (x : (among f m.world.table ≡ true) × (1 ≤ times f m.world.table)). x.0)
        (λ (x : (among f m.world.table ≡ false) × (times f m.world.table ≡ 0)). absurd (omega (arith, x.1, one)))
        (among_is f m.world.table))

    entry : (m : Machine) → Reached m → m.world.gone ≡ false → (meanwhile : Trace) →
        m.world.trace ≡ before ++ meanwhile →
        HasEntry f m.world meanwhile
    entry m y g meanwhile t = entry-by m y g meanwhile t (has (takes f) meanwhile) refl

    -- f was found: a sleeper is told and f is taken up, each in its turn
    from-found : (a : Reply) (held : Hold) (m : Machine) (under : List Op) (o : Op) → Reached m →
        stack m p ≡ answering a held ((Op.Move Move.TakeUp f ∷ under) ++ o ∷ []) →
        weigh stray_of (under ++ o ∷ []) ≡ 0 →
        ((n : Mark) → (queue_of m.world n).items ≡ left_in mark s.world n) → m.world.trace ≡ before →
        m.world.gone ≡ false → (ts : List Step) → are_onward_of p ts ≡ true → run_all ts m ≡ Ok new →
        Ended p a f (left_in mark s.world) before new.world
    from-found a held m under o y e z i t g ts on n =
        walks p a held f (left_in mark s.world) before entry ts m new (Op.Move Move.TakeUp f ∷ under) o y e (record {
          plain = omega (arith, z);
          added = λ n. [];
          queue = λ n. i n ∙ sym (append-nil (left_in mark s.world n));
          meanwhile = [];
          no_turn = refl;
          trace = t ∙ sym (append-nil before);
          there = g;
          stage = inr (inr record { under = under; is = refl });
        }) on n new-idle

    first-of : (a : Reply) (more : Trace) → told ≡ Event.CallBegun p c ∷ more → has (takes f) more ≡ false →
        ((n : Mark) → named n more ≡ cond (same_mark n (first_of s.world.urgent_turns)) 1 0) →
        Ended p a f (left_in mark s.world) before new.world → First mark f p c a s new
    first-of a more e none one l = record {
      added = l.added;
      queue = l.queue;
      meanwhile = more ++ l.meanwhile;
      turn = λ n. omega (arith, one n, named-append n more l.meanwhile, named-none n l.meanwhile l.no_turn);
      events = l.trace
          ∙ (append_assoc s.world.trace told (l.meanwhile ++ Event.CallEnded p a ∷ [])
          ∙ ap (λ (es : Trace). s.world.trace ++ es)
          (ap (λ (es : Trace). es ++ (l.meanwhile ++ Event.CallEnded p a ∷ [])) e
          ∙ ap (λ (es : Trace). Event.CallBegun p c ∷ es)
          (sym (append_assoc more l.meanwhile (Event.CallEnded p a ∷ [])))));
      taken = list_any-append (takes f) more l.meanwhile
          ∙ (ap (λ (b : Bool). b || has (takes f) l.meanwhile) none ∙ l.taken);
      there = l.there;
    }

-- p has taken its turn, and has looked at one queue, or at both
module _ (p : ℕ) (new : Machine) (idle : stack new p ≡ []) (first : Op) (looks : Look → Op) (nothing : List Op)
    (hit : World → ℕ → List Op) (unanswered-first : (u : UserEnd) → accepts first u ≡ false)
    (unanswered-looks : (look : Look) (u : UserEnd) → accepts (looks look) u ≡ false)
    (settles : (v : World) (look : Look) → settled p v (looks look ∷ []) ≡ part v (looks look ∷ []))
    (turns : (h : Hint) (v : World) → act p h first v ≡ take_turn p v looks)
    (misses : (h : Hint) (v : World) (look : Look) → (queue_of v (mark_in look)).items ≡ [] →
    act p h (looks look) v ≡ done v (missed look looks nothing))
    (hits : (h : Hint) (v : World) (look : Look) (f : ℕ) (xs : List ℕ) → (queue_of v (mark_in look)).items ≡ f ∷ xs →
    act p h (looks look) v ≡ done (put_queue v (mark_in look) (taken (queue_of v (mark_in look)))) (hit v f))
    (w : World) where
  abbrev named_by : Mark
  named_by = first_of w.urgent_turns

  abbrev After : Done → Type 0
  After d = At p (onto p d []).world (onto p d []).todo new

  -- it has this to do alone
  alone : (v : World) (look : Look) → After (done v (looks look ∷ [])) → At p v (looks look ∷ []) new
  alone v look x = subst (λ (y : Part). At p y.world y.todo new) (settles v look) x

  begins : At p w (first ∷ []) new → At p (turned p w) (looks (Look.First named_by) ∷ []) new
  begins x = let n : Next p first w new = next p first w new unanswered-first idle x in
      alone (turned p w) (Look.First named_by) (subst After (turns n.hint w) n.at)

  seconds : (queue_of w named_by).items ≡ [] → At p w (first ∷ []) new →
      At p (turned p w) (looks (Look.Second (other named_by)) ∷ []) new
  seconds q x =
      let n : Next p (looks (Look.First named_by)) (turned p w) new =
      next p (looks (Look.First named_by)) (turned p w) new (unanswered-looks (Look.First named_by)) idle (begins x) in
      alone (turned p w) (Look.Second (other named_by)) (subst After (misses n.hint (turned p w) (Look.First named_by) q) n.at)

  pub finds-none : AllEmpty w → At p w (first ∷ []) new → After (done (turned p w) nothing)
  finds-none e x =
      let n : Next p (looks (Look.Second (other named_by))) (turned p w) new =
      next p (looks (Look.Second (other named_by))) (turned p w) new (unanswered-looks (Look.Second (other named_by))) idle
      (seconds e.0 x) in
      subst After (misses n.hint (turned p w) (Look.Second (other named_by)) e.1) n.at

  abbrev Finds : Mark → ℕ → Type 0
  Finds m f = After (done (put_queue (turned p w) m (taken (queue_of (turned p w) m))) (hit (turned p w) f))

  pub finds-one : (x : Spot w) → At p w (first ∷ []) new → Finds x.mark x.future
  finds-one x a = ⊎_elim
      (λ (e : x.mark ≡ named_by).
      let q : (queue_of w named_by).items ≡ x.future ∷ x.rest =
      subst (λ (m : Mark). (queue_of w m).items ≡ x.future ∷ x.rest) e x.is in
      let n : Next p (looks (Look.First named_by)) (turned p w) new =
      next p (looks (Look.First named_by)) (turned p w) new (unanswered-looks (Look.First named_by)) idle (begins a) in
      subst (λ (m : Mark). Finds m x.future) (sym e)
      (subst After (hits n.hint (turned p w) (Look.First named_by) x.future x.rest q) n.at))
      (λ (e : (x.mark ≡ other named_by) × ((queue_of w named_by).items ≡ [])).
      let q : (queue_of w (other named_by)).items ≡ x.future ∷ x.rest =
      subst (λ (m : Mark). (queue_of w m).items ≡ x.future ∷ x.rest) e.0 x.is in
      let n : Next p (looks (Look.Second (other named_by))) (turned p w) new =
      next p (looks (Look.Second (other named_by))) (turned p w) new (unanswered-looks (Look.Second (other named_by))) idle
      (seconds e.1 a) in
      subst (λ (m : Mark). Finds m x.future) (sym e.0)
      (subst After (hits n.hint (turned p w) (Look.Second (other named_by)) x.future x.rest q) n.at))
      x.turn

-- a tick is tried

module _ (s : Machine) (r : Reached s) (rest : IsAtRest s) (p : ℕ) (steps : List Step) (new : Machine)
    (k : IsLoneCall p Call.TryTick steps s new) where
  l : p < length s.parties
  l = in-parties s r rest p Call.TryTick steps new k

  abbrev takes_one : Look → Op
  takes_one look = Op.Queue (QueueOp.Take look)

  abbrev calling : World
  calling = log s.world (Event.CallBegun p Call.TryTick)

  taking : At p calling (Op.Queue QueueOp.TakeTurn ∷ []) new
  taking = record {
    machine = ticking s p;
    reached = reached-begun s r rest p Call.TryTick steps new k;
    world = refl;
    todo = get_or-set_same s.parties p (Op.Queue QueueOp.TakeTurn ∷ []) [] l;
    others = steps;
    onward = k.alone;
    made = on-begun s r rest p Call.TryTick steps new k;
  }

  abbrev taking_up : World → ℕ → List Op
  taking_up v f = Op.Sleeper SleeperOp.ExchangeFlag ∷ Op.Move Move.TakeUp f ∷ Op.End Reply.Yes Hold.Executor ∷ []

  tick-misses : (h : Hint) (v : World) (look : Look) → (queue_of v (mark_in look)).items ≡ [] →
      act p h (takes_one look) v ≡ done v (missed look takes_one (Op.End Reply.No Hold.Executor ∷ []))
  tick-misses h v look q = ap (λ (xs : List ℕ). take_by v look xs) q

  tick-hits : (h : Hint) (v : World) (look : Look) (f : ℕ) (xs : List ℕ) → (queue_of v (mark_in look)).items ≡ f ∷ xs →
      act p h (takes_one look) v
      ≡ done (put_queue v (mark_in look) (taken (queue_of v (mark_in look)))) (taking_up v f)
  tick-hits h v look f xs q = ap (λ (ys : List ℕ). take_by v look ys) q

  pub first-tick : (x : Spot s.world) → First x.mark x.future p Call.TryTick Reply.Yes s new
  first-tick x =
      let more : Trace = Event.Looked p (first_of s.world.urgent_turns) ∷ [] in
      let told : Trace = Event.CallBegun p Call.TryTick ∷ more in
      let a : _ = finds-one p new (new-idle s r rest p Call.TryTick steps new k) (Op.Queue QueueOp.TakeTurn) takes_one
      (Op.End Reply.No Hold.Executor ∷ []) taking_up unanswered (λ look u. refl) (λ v look. refl) (λ h v. refl)
      tick-misses tick-hits calling
      (record { mark = x.mark; future = x.future; rest = x.rest; is = x.is; turn = x.turn }) taking in
      first-of s r rest p Call.TryTick steps new k x.mark x.future x.rest x.is told refl Reply.Yes more refl refl
      (λ n. omega arith)
      (from-found s r rest p Call.TryTick steps new k x.mark x.future x.rest x.is told refl Reply.Yes Hold.Executor
      a.machine [] (Op.Sleeper SleeperOp.ExchangeFlag) a.reached a.todo refl
      (λ n. ap (λ (v : World). (queue_of v n).items) a.world)
      (ap (λ (v : World). v.trace) a.world
      ∙ append_assoc s.world.trace (Event.CallBegun p Call.TryTick ∷ []) more)
      (ap (λ (v : World). v.gone) a.world ∙ still-there s r rest p Call.TryTick steps new k) a.others a.onward a.made)

  -- nothing is there to be taken
  pub none-found : AllEmpty s.world → new.world.trace ≡
      s.world.trace ++ Event.CallBegun p Call.TryTick ∷ Event.Looked p (first_of s.world.urgent_turns)
      ∷ Event.CallEnded p Reply.No ∷ []
  none-found e =
      let a : _ = finds-none p new (new-idle s r rest p Call.TryTick steps new k) (Op.Queue QueueOp.TakeTurn) takes_one
      (Op.End Reply.No Hold.Executor ∷ []) taking_up unanswered (λ look u. refl) (λ v look. refl) (λ h v. refl)
      tick-misses tick-hits calling e taking in
      sym (ap (λ (m : Machine). m.world.trace) (no-more p a.others a.machine new a.todo a.onward a.made))
      ∙ (ap (λ (v : World). v.trace) a.world
      ∙ (append_assoc (s.world.trace ++ Event.CallBegun p Call.TryTick ∷ [])
      (Event.Looked p (first_of s.world.urgent_turns) ∷ []) (Event.CallEnded p Reply.No ∷ [])
      ∙ append_assoc s.world.trace (Event.CallBegun p Call.TryTick ∷ [])
      (Event.Looked p (first_of s.world.urgent_turns) ∷ Event.CallEnded p Reply.No ∷ [])))

-- a tick is polled

module _ (s : Machine) (r : Reached s) (rest : IsAtRest s) (p t : ℕ) (b : By) (steps : List Step) (new : Machine)
    (k : IsLoneCall p (Call.PollTick t b) steps s new) where
  abbrev more-told : Trace
  more-told = Event.TickPolled p t ∷ Event.Looked p (first_of s.world.urgent_turns) ∷ []

  abbrev told-so : Trace
  told-so = Event.CallBegun p (Call.PollTick t b) ∷ more-told

  abbrev beginning : World
  beginning = log (log s.world (Event.CallBegun p (Call.PollTick t b))) (Event.TickPolled p t)

  abbrev polled-by : Sleeping
  polled-by =
      record {
        waker = given None b;
        who = TickOrRun.Tick t;
        poll = length (s.world.trace ++ Event.CallBegun p (Call.PollTick t b) ∷ []);
      }

  abbrev polling : Machine
  polling = record { world = beginning; parties = set s.parties p (Op.Tick (TickOp.Search polled-by) ∷ []) }

  idle-new : stack new p ≡ []
  idle-new = new-idle s r rest p (Call.PollTick t b) steps new k

  abbrev looks_so : Look → Op
  looks_so look = Op.Tick (TickOp.Look polled-by look)

  searching : At p beginning (Op.Tick (TickOp.Search polled-by) ∷ []) new
  searching = record {
    machine = polling;
    reached = reached-begun s r rest p (Call.PollTick t b) steps new k;
    world = refl;
    todo = get_or-set_same s.parties p (Op.Tick (TickOp.Search polled-by) ∷ []) []
        (in-parties s r rest p (Call.PollTick t b) steps new k);
    others = steps;
    onward = k.alone;
    made = on-begun s r rest p (Call.PollTick t b) steps new k;
  }

  abbrev running_up : ℕ → List Op
  running_up f = Op.Sleeper SleeperOp.ExchangeFlag ∷ Op.Move Move.TakeUp f ∷ Op.End Reply.Ready (Hold.Tick t) ∷ []

  abbrev found_one : World → ℕ → List Op
  found_one v f = found_by (tick_of v t) (TickOrRun.Tick t) (running_up f)

  poll-misses : (h : Hint) (v : World) (look : Look) → (queue_of v (mark_in look)).items ≡ [] →
      act p h (looks_so look) v ≡ done v (missed look looks_so (Op.Tick (TickOp.CopyWaker polled-by) ∷ []))
  poll-misses h v look q = ap (λ (xs : List ℕ). look_tick_by (tick_of v t) v look xs polled-by) q

  poll-hits : (h : Hint) (v : World) (look : Look) (f : ℕ) (xs : List ℕ) → (queue_of v (mark_in look)).items ≡ f ∷ xs →
      act p h (looks_so look) v
      ≡ done (put_queue v (mark_in look) (taken (queue_of v (mark_in look)))) (found_one v f)
  poll-hits h v look f xs q = ap (λ (ys : List ℕ). look_tick_by (tick_of v t) v look ys polled-by) q

  trace-is : (turned p beginning).trace ≡ s.world.trace ++ told-so
  trace-is = append_assoc (s.world.trace ++ Event.CallBegun p (Call.PollTick t b) ∷ []) (Event.TickPolled p t ∷ [])
      (Event.Looked p (first_of s.world.urgent_turns) ∷ [])
      ∙ append_assoc s.world.trace (Event.CallBegun p (Call.PollTick t b) ∷ []) more-told

  module _ (x : Spot s.world) where
    abbrev world-then : World
    world-then = put_queue (turned p beginning) x.mark (taken (queue_of (turned p beginning) x.mark))

    -- what it has to do then, by whether the tick is asleep
    abbrev found-by : Ticker → Done
    found-by y = done world-then (found_by y (TickOrRun.Tick t) (running_up x.future))

    abbrev FoundBy : Ticker → Type 0
    FoundBy y = At p (onto p (found-by y) []).world (onto p (found-by y) []).todo new

    found-so : FoundBy (tick_of s.world t)
    found-so = finds-one p new idle-new (Op.Tick (TickOp.Search polled-by)) looks_so
        (Op.Tick (TickOp.CopyWaker polled-by) ∷ []) found_one unanswered (λ look u. refl) (λ v look. refl)
        (λ h v. refl) poll-misses poll-hits beginning
        (record { mark = x.mark; future = x.future; rest = x.rest; is = x.is; turn = x.turn }) searching

    goes-there : (under : List Op) (o : Op) (y : Ticker) → FoundBy y →
        (onto p (found-by y) []).todo
        ≡ answering Reply.Ready (Hold.Tick t) ((Op.Move Move.TakeUp x.future ∷ under) ++ o ∷ []) →
        (onto p (found-by y) []).world ≡ world-then → weigh stray_of (under ++ o ∷ []) ≡ 0 →
        First x.mark x.future p (Call.PollTick t b) Reply.Ready s new
    goes-there under o y a e v z =
        first-of s r rest p (Call.PollTick t b) steps new k x.mark x.future x.rest x.is told-so refl Reply.Ready
        more-told refl refl (λ n. omega arith)
        (from-found s r rest p (Call.PollTick t b) steps new k x.mark x.future x.rest x.is told-so refl Reply.Ready
        (Hold.Tick t) a.machine under o a.reached (a.todo ∙ e) z
        (λ n. ap (λ (u : World). (queue_of u n).items) (a.world ∙ v))
        (ap (λ (u : World). u.trace) (a.world ∙ v) ∙ trace-is)
        (ap (λ (u : World). u.gone) (a.world ∙ v) ∙ still-there s r rest p (Call.PollTick t b) steps new k)
        a.others a.onward a.made)

    pub first-poll : First x.mark x.future p (Call.PollTick t b) Reply.Ready s new
    first-poll = by (tick_of s.world t) found-so
      where
        by : (y : Ticker) → FoundBy y → First x.mark x.future p (Call.PollTick t b) Reply.Ready s new
        by Awake a = goes-there [] (Op.Sleeper SleeperOp.ExchangeFlag) Awake a refl refl refl
        by Left a = goes-there [] (Op.Sleeper SleeperOp.ExchangeFlag) Left a refl refl refl
        by (Asleep n) a = goes-there (Op.Sleeper SleeperOp.ExchangeFlag ∷ [])
            (Op.Tick (TickOp.WakeUp (TickOrRun.Tick t))) (Asleep n) a refl refl refl

same-reply : (a b : Reply) → ◌≡◌ {A = Option Reply} (Some a) (Some b) → a ≡ b
same-reply a b e = cc

pub first-taken : (s : Machine) → Reached s → IsAtRest s → (p : ℕ) (c : Call) (a : Reply) → found_answer c ≡ Some a →
    (steps : List Step) (new : Machine) → IsLoneCall p c steps s new → (x : Spot s.world) →
    First x.mark x.future p c a s new
first-taken s r rest p Call.TryTick a e steps new k x =
    subst (λ (y : Reply). First x.mark x.future p Call.TryTick y s new) (same-reply Reply.Yes a e)
    (first-tick s r rest p steps new k x)
first-taken s r rest p (Call.PollTick t b) a e steps new k x =
    subst (λ (y : Reply). First x.mark x.future p (Call.PollTick t b) y s new) (same-reply Reply.Ready a e)
    (first-poll s r rest p t b steps new k x)
first-taken s r rest p _ a e steps new k x = absurd (cc)
