-- For awaiters_are_kept.
-- What a run does keeps what is known of each awaiter.
use Rattle.std.proofs.Common.{◌≡◌, ℕ, ◌+◌, ◌<◌, List, [], ◌∷◌, ◌++◌, length, refl, sym, subst, ap, arith}
use Rattle.std.proofs.Math.Path.{fun_ext}
use Rattle.executor_model.proofs.Types.{Reply, Event, Hold, ListOp, Op, Polled, RunOp, RunPoll, TickOrRun, Sleeping, Steal}
use Rattle.executor_model.proofs.Types.{StealOp, TickOp, Waker, Task, Outside, Hint}
use Rattle.executor_model.specs.World.{World, Done, log, own_of, task}
use Rattle.executor_model.specs.ActsOfRuns.{call_by_reference, kept_by, wake_own, take_turn_of_run}
use Rattle.executor_model.specs.Doing.{list_act, run_act, search_by_who, steal_act}
use Rattle.executor_model.specs.{Good.IsKnownWaker, Rows.handling_of, Sound.Pend, Sound.with_ops, Weights.weigh}
use Rattle.executor_model.proofs.Awaiters.Awaited.{Awaiting, Awaits, Footing, KeepsAwaits, Mark, heard-push, with_awaiting}
use Rattle.executor_model.proofs.Awaiters.Awaited.{again_of, calls_of, detaches_of, fresh_of, lending_of, looks_of, mine_of}
use Rattle.executor_model.proofs.Awaiters.Awaited.{notices_of, notifying_of, over_of, storing_of, strays_of, waits_of}
use Rattle.executor_model.proofs.Steps.Lists.{times-append, weigh-append}
use Rattle.executor_model.proofs.Steps.RunsCounting.{Bare, bare, with_ops-append}
use Rattle.executor_model.proofs.Steps.RunsMoves.{Moves, Same, moves-refused, times_in-set}
use Rattle.executor_model.proofs.Steps.RunsWays.{AllOfRuns, AllOrDropped, by-list, by-run, by-search, by-steal, or-dropped}
use Rattle.executor_model.proofs.Steps.RunsWays.{plain-of-runs, refused-dropped}
use Rattle.executor_model.proofs.Awaiters.RunsApart.{away, same-awaiting}
use Rattle.executor_model.proofs.{Awaiters.SleepersAwaited.awaits-tick_turn, Awaiters.AwaitedMoves.awaits-wake_by_reference}
use Rattle.task_moves.specs.Moves as moves

-- what a run does but for its own waker's call changes nothing that is known of an awaiter
still : (w v : World) (g : ℕ) (r r2 : Pend) (y : Awaiting) (m : Mark) → Same w v → r2.ready ≡ r.ready →
    Awaits w g r y m → Awaits v g r2 y m
still w v g r r2 y m s e h = grind arith

awaits-moved : (w : World) (old : List Op) (d : Done) → AllOrDropped old → AllOrDropped d.next → Moves w old d →
    KeepsAwaits w old d
awaits-moved w old d a n m g r y k bb h =
    let b : Bare g old = bare g old (plain-of-runs old a) in
    let c : Bare g d.next = bare g d.next (plain-of-runs d.next n) in
    subst (λ (x : Awaiting). Awaits d.world g (with_ops g d.next r) x k)
    (sym (same-awaiting g d.next y (away g d.next n)))
    (still w d.world g (with_ops g old r) (with_ops g d.next r) (with_awaiting g [] y) k m.same
    (omega (arith, b.ready, c.ready))
    (subst (λ (x : Awaiting). Awaits w g (with_ops g old r) x k) (same-awaiting g old y (away g old a)) h))

awaits-moves : (w : World) (old : List Op) (d : Done) → AllOfRuns old → AllOfRuns d.next → Moves w old d →
    KeepsAwaits w old d
awaits-moves w old d a n m = awaits-moved w old d (or-dropped old a) (or-dropped d.next n) m

awaits-kept : (p : ℕ) (w : World) (s : Steal) (more f : ℕ) (d : Done) → s.poll.run < length w.own →
    KeepsAwaits (kept_by p w s.poll.run f) (Op.Steal (StealOp.OwnLength s 0) ∷ []) d →
    KeepsAwaits w (Op.Steal (StealOp.Put s more f) ∷ []) d
awaits-kept p w s more f d i k g r y m bb h =
    let v = kept_by p w s.poll.run f in
    let os : List Op = Op.Steal (StealOp.OwnLength s 0) ∷ [] in
    let z = times_in-set g s.poll.run (own_of w s.poll.run ++ f ∷ []) w.own i in
    let x = times-append g (own_of w s.poll.run) (f ∷ []) in
    let foot : Footing v g (with_ops g os r) (with_awaiting g os y) = record {
      one = omega (arith, bb.one, z, x);
      live = λ q. bb.live (omega (arith, q, z, x));
      ends = bb.ends;
      drop = bb.drop;
      carries = λ q. bb.carries (omega (arith, q, z, x));
      rests = bb.rests;
      lent = bb.lent;
      done = grind (arith, heard-push);
      stages = bb.stages;
      few = bb.few;
      tied = bb.tied;
    } in
    let waits : Awaits v g (with_ops g os r) (with_awaiting g os y) m = grind (arith, heard-push) in
    k g r y m foot waits

pub awaits-steal : (p : ℕ) (o : StealOp) (w : World) → KeepsAwaits w (Op.Steal o ∷ []) (steal_act p o w)
awaits-steal p o w = by-steal KeepsAwaits awaits-moves awaits-kept
    (λ w s more f e. awaits-moved w (Op.Steal (StealOp.Put s more f) ∷ []) _ (λ v u z. omega (arith, u.blind.steal (StealOp.Put s more f)))
    (refused-dropped s w f) (moves-refused s.then w s.poll s.from more f))
    p o w

pub awaits-list : (h : Hint) (o : ListOp) (w : World) → KeepsAwaits w (Op.List o ∷ []) (list_act h o w)
awaits-list h o w = by-list KeepsAwaits awaits-moves awaits-kept h o w

-- a tick takes a turn, a run looks at its own queue
pub awaits-search_who : (who : TickOrRun) (p : ℕ) (w : World) (s : Sleeping) → s.who ≡ who →
    KeepsAwaits w (Op.Tick (TickOp.Search s) ∷ []) (search_by_who who p w s)
awaits-search_who (TickOrRun.Tick t) p w s e = awaits-tick_turn p w s
awaits-search_who (TickOrRun.Run r) p w s e = by-search KeepsAwaits awaits-moves awaits-kept w r s e

abbrev ends : RunPoll → List Op
ends x = Op.End Reply.Pending (Hold.Run x.run) ∷ []

abbrev called : ℕ → World → RunPoll → World
called p w x = log w (Event.WakerCalled p (Polled.Run x.run) x.poll x.waker)

own-called : (p : ℕ) (w : World) (x : RunPoll) (g : ℕ) (r : Pend) (y : Awaiting) (m : Mark) →
    Awaits w g (with_ops g (Op.Run (RunOp.WakeOwn x) ∷ []) r)
    (with_awaiting g (Op.Run (RunOp.WakeOwn x) ∷ []) y) m →
    Awaits (called p w x) g (with_ops g (ends x) r) (with_awaiting g (ends x) y) m
own-called p w x g r y m h = grind (arith, heard-push)

own-footing : (p : ℕ) (w : World) (x : RunPoll) (g : ℕ) (r : Pend) (y : Awaiting) →
    Footing w g (with_ops g (Op.Run (RunOp.WakeOwn x) ∷ []) r)
    (with_awaiting g (Op.Run (RunOp.WakeOwn x) ∷ []) y) →
    Footing (called p w x) g (with_ops g (ends x) r) (with_awaiting g (ends x) y)
own-footing p w x g r y bb = record {
  one = bb.one;
  live = bb.live;
  ends = bb.ends;
  drop = bb.drop;
  carries = bb.carries;
  rests = bb.rests;
  lent = bb.lent;
  done = grind (arith, heard-push);
  stages = bb.stages;
  few = bb.few;
  tied = bb.tied;
}

awaits-by_waker : (p : ℕ) (a : Waker) (w : World) → IsKnownWaker w a → KeepsAwaits w [] (call_by_reference p w a)
awaits-by_waker p (Task f) w i = awaits-wake_by_reference (moves.is_over (task w f)) _ _ p w f refl refl i
awaits-by_waker p (Outside y) w i = λ g r yy mm bb h. h

-- the end of the poll is no part of a poll of a handle
ends-last : (g : ℕ) (x : RunPoll) (xs : List Op) (y : Awaiting) → with_awaiting g (xs ++ ends x) y
    ≡ with_awaiting g xs y
ends-last g x xs y =
    let strays : (λ k. weigh (strays_of g k) (xs ++ ends x) + y.strays k) ≡
    (λ k. weigh (strays_of g k) xs + y.strays k) =
    fun_ext (λ k. ap (λ n. n + y.strays k) (none (strays_of g k) refl)) in
    let calls : (λ k. weigh (calls_of g k) (xs ++ ends x) + y.calls k) ≡ (λ k. weigh (calls_of g k) xs + y.calls k) =
    fun_ext (λ k. ap (λ n. n + y.calls k) (none (calls_of g k) refl)) in
    rw (
      none (handling_of g) refl,
      none (looks_of g) refl,
      none (fresh_of g) refl,
      none (storing_of g) refl,
      none (again_of g) refl,
      none (waits_of g) refl,
      none (over_of g) refl,
      none (notices_of g) refl,
      none (notifying_of g) refl,
      none (mine_of g) refl,
      none (detaches_of g) refl,
      none (lending_of g) refl,
      strays,
      calls,
    )
    refl
  where
    none : (v : Op → ℕ) → v (Op.End Reply.Pending (Hold.Run x.run)) ≡ 0 → weigh v (xs ++ ends x) ≡ weigh v xs
    none v z = omega (arith, weigh-append v xs (ends x), z)

-- nothing more is to do
zero-ops : (g : ℕ) (r : Pend) → with_ops g [] r ≡ r
zero-ops g r = λ i. record {
  waiting = zero r.waiting i;
  polls = zero r.polls i;
  ending = zero r.ending i;
  ready = zero r.ready i;
  closing = zero r.closing i;
  settling = zero r.settling i;
  giving = zero r.giving i;
  drops = zero r.drops i;
  releases = zero r.releases i;
  copies = zero r.copies i;
  borrowing = zero r.borrowing i;
  ousting = zero r.ousting i;
}
  where
    zero : (n : ℕ) → 0 + n ≡ n
    zero n = omega arith

pub awaits-wake_own : (p : ℕ) (w : World) (x : RunPoll) → IsKnownWaker w x.waker →
    KeepsAwaits w (Op.Run (RunOp.WakeOwn x) ∷ []) (wake_own p w x)
awaits-wake_own p w x i g r y m bb h =
    let v = called p w x in
    let next : List Op = (call_by_reference p v x.waker).next in
    let z : Awaits (call_by_reference p v x.waker).world g (with_ops g next (with_ops g (ends x) r))
    (with_awaiting g next y) m =
    awaits-by_waker p x.waker v (known-then x.waker i) g (with_ops g (ends x) r) y m
    (subst (λ (q : Pend). Footing v g q (with_awaiting g (ends x) y)) (sym (zero-ops g (with_ops g (ends x) r)))
    (own-footing p w x g r y bb))
    (subst (λ (q : Pend). Awaits v g q (with_awaiting g (ends x) y) m) (sym (zero-ops g (with_ops g (ends x) r)))
    (own-called p w x g r y m h)) in
    subst (λ (q : Pend). Awaits (call_by_reference p v x.waker).world g q (with_awaiting g (next ++ ends x) y) m)
    (sym (with_ops-append g next (ends x) r))
    (subst (λ (q : Awaiting). Awaits (call_by_reference p v x.waker).world g
    (with_ops g next (with_ops g (ends x) r)) q m)
    (sym (ends-last g x next y)) z)
  where
    known-then : (a : Waker) → IsKnownWaker w a → IsKnownWaker (called p w x) a
    known-then (Task f) k = k
    known-then (Outside y) k = k

awaits-run_turn : (p : ℕ) (w : World) (x : RunPoll) → KeepsAwaits w (Op.Run (RunOp.TakeTurn x) ∷ []) (take_turn_of_run p w x)
awaits-run_turn p w x g r y m bb h = grind (arith, heard-push)

pub awaits-run : (p : ℕ) (h : Hint) (o : RunOp) (w : World) →
    ((x : RunPoll) → o ≡ RunOp.WakeOwn x → IsKnownWaker w x.waker) → KeepsAwaits w (Op.Run o ∷ []) (run_act p h o w)
awaits-run p h o w i =
    by-run KeepsAwaits awaits-moves awaits-kept p h o w (λ x e. awaits-wake_own p w x (i x e)) (λ x. awaits-run_turn p w x)
