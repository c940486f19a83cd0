-- For due_futures_stand_with_their_keepers.
-- Each step keeps what holds at every moment of a future and of the run that keeps it.
use Rattle.std.proofs.Common.{◌≡◌, ◌≢◌, ◌∙◌, inl, inr, ⊎_elim, ℕ, zero, suc, ◌+◌, ◌<◌, ◌≤◌, List, [], ◌∷◌, ◌++◌, length, set}
use Rattle.std.proofs.Common.{get_or, Bool, true, false, not, eqb, refl, sym, ap, subst, arith, get_or-set_other}
use Rattle.std.specs.Prelude.{reverse}
use Rattle.executor_laws.proofs.Types.{Move, Reply, Event, ListOp, Op, QueueOp, RunOp, Section, Steal, StealOp, TableOp}
use Rattle.executor_laws.proofs.Types.{WakerOp, HandleOp, SleeperOp, TickOp, ClosingOp, UserOp, Hint}
use Rattle.executor_model.specs.Rows.{appends_of, past_of, running_of, waiting_of}
use Rattle.executor_model.specs.Sound.{Pend, pend, times, times_in, with_ops}
use Rattle.executor_model.specs.World.{World, Ended, Run, Done, among, log, log_if, no_run, own_of, run_of, task}
use Rattle.executor_model.specs.{Carried.carried, Doing.act, Good.Good, Keeper.is_run_drop, Steps.Machine, Steps.stack}
use Rattle.executor_model.specs.{Trace.has, Weights.past, Weights.same, Weights.weigh, Weights.weigh_all}
use Rattle.executor_model.proofs.Steps.Lift.{push-pend, split, split-pend, unsettled}
use Rattle.executor_model.proofs.Steps.Lists.{past_is, same_cases, same_is, times-append, weigh_all-below, weigh_all-push}
use Rattle.executor_model.proofs.Steps.RunsMoves.{moves-own_length}
use Rattle.executor_model.proofs.{OwnQueues.OwnRooms.Roomy, OwnQueues.RunsMoving.hull-more, OwnQueues.Using.polling_of}
use Rattle.executor_model.proofs.{OwnQueues.UsingRuns.idle-more, OwnQueues.UsingSteps.AllUsed, OwnQueues.UsingWorlds.is_past}
use Rattle.executor_laws.proofs.Placement.Bound.{Bound, Tied, bound-kept, bound-polled, bound-same, keeper, kept, tied-kept}
use Rattle.executor_laws.proofs.Placement.Safe.{Floor, KeepsSafe, Safe, floor}
use Rattle.executor_laws.proofs.Placement.SafeActs.{IsTame, safe-act, safe-take_up_open}
use Rattle.executor_laws.proofs.{Placement.Bound.tied-other, Placement.Bound.tied-same, Placement.Evens.Even}
use Rattle.executor_laws.proofs.{Placement.Evens.even-idle, Placement.Leavings.dropping_of, Placement.Leavings.off_of}
use Rattle.executor_laws.proofs.{Placement.Opens.le-or, Placement.Running.RanIn, Placement.SafeRuns.safe-put}
use Rattle.task_moves.specs.Moves as moves
use Rattle.executor_model.specs.ActsOfRuns as runs

abbrev pub BoundIn : Machine → ℕ → Type 0
BoundIn s f = Bound s.world f (pend f s.parties) (weigh_all (appends_of f) s.parties)

appends-wait : (g : ℕ) (o : Op) → appends_of g o ≤ waiting_of g o
appends-wait g (Op.Queue (QueueOp.Append f)) = omega arith
appends-wait g (Op.Move Move.Wake f) = omega arith
appends-wait g (Op.Table (TableOp.Enter mark)) = omega arith
appends-wait g (Op.User (UserOp.Poll f)) = omega arith
appends-wait g (Op.Waker (WakerOp.CopyWaker f held)) = omega arith
appends-wait g (Op.Handle (HandleOp.Look f a)) = omega arith
appends-wait g (Op.Sleeper SleeperOp.HandOut) = omega arith
appends-wait g (Op.Tick TickOp.MakeTick) = omega arith
appends-wait g (Op.Run RunOp.MakeRoom) = omega arith
appends-wait g (Op.Closing (ClosingOp.Close mark)) = omega arith
appends-wait g (Op.Steal (StealOp.Length s)) = omega arith
appends-wait g (Op.List (ListOp.LockWrite Section.MakeRun)) = omega arith
appends-wait g (Op.List (ListOp.Write Section.MakeRun)) = omega arith
appends-wait g _ = omega arith

-- what stands in a run's own queue is one of those in all
own-in : (f r : ℕ) (qs : List (List ℕ)) → times f (get_or qs r []) ≤ times_in f qs
own-in f r [] = omega arith
own-in f zero (q ∷ qs) = omega arith
own-in f (suc r) (q ∷ qs) = omega (arith, own-in f r qs)

below : (n f : ℕ) → past n f ≡ 0 → f < n
below n f e = grind (arith, past_is)

not-true : (b : Bool) → (b ≡ true → ⊥) → b ≡ false
not-true true k = absurd (k refl)
not-true false k = refl

-- party p does this
module _ (s : Machine) (p : ℕ) (old rest : List Op) (d : Done) (f : ℕ) (good : Good s) (l : p < length s.parties)
    (e : stack s p ≡ rest ++ reverse old) where
  abbrev others : List (List Op)
  others = set s.parties p rest

  abbrev now : List (List Op)
  now = set s.parties p (rest ++ reverse d.next)

  was-pend : pend f s.parties ≡ with_ops f old (pend f others)
  was-pend = split-pend f s.parties p old rest l e

  was-appends : weigh_all (appends_of f) s.parties ≡ weigh (appends_of f) old + weigh_all (appends_of f) others
  was-appends = split (appends_of f) s.parties p old rest l e

  now-pend : pend f now ≡ with_ops f d.next (pend f others)
  now-pend = push-pend f s.parties p rest d.next l

  now-appends : weigh_all (appends_of f) now ≡ weigh (appends_of f) d.next + weigh_all (appends_of f) others
  now-appends = weigh_all-push (appends_of f) s.parties p rest d.next l

  ground : Floor s.world f (with_ops f old (pend f others))
  ground = subst (Floor s.world f) was-pend (floor s.world f (pend f s.parties) (good.sound f))

  old-safe : Safe s.world f (pend f s.parties) (weigh_all (appends_of f) s.parties) →
      Safe s.world f (with_ops f old (pend f others)) (weigh (appends_of f) old + weigh_all (appends_of f) others)
  old-safe h = subst (λ (n : ℕ). Safe s.world f (with_ops f old (pend f others)) n) was-appends
      (subst (λ (x : Pend). Safe s.world f x (weigh_all (appends_of f) s.parties)) was-pend h)

  new-safe : Safe d.world f (with_ops f d.next (pend f others))
      (weigh (appends_of f) d.next + weigh_all (appends_of f) others) →
      Safe d.world f (pend f now) (weigh_all (appends_of f) now)
  new-safe h = subst (λ (n : ℕ). Safe d.world f (pend f now) n) (sym now-appends)
      (subst (λ (x : Pend). Safe d.world f x (weigh (appends_of f) d.next + weigh_all (appends_of f) others))
      (sym now-pend) h)

  pub safe-on : KeepsSafe s.world old d → Safe s.world f (pend f s.parties) (weigh_all (appends_of f) s.parties) →
      Safe d.world f (pend f now) (weigh_all (appends_of f) now)
  safe-on k h = new-safe (k f (pend f others) (weigh_all (appends_of f) others) ground (old-safe h))

  -- it leaves the runs as they are and tells nothing of f
  pub bound-even : Even s.world d.world → Tied f s.world.trace d.world.trace → KeepsSafe s.world old d → BoundIn s f →
      BoundIn (unsettled s p rest d) f
  bound-even v t k h =
      bound-same s.world d.world f (pend f s.parties) (pend f now) (weigh_all (appends_of f) s.parties)
      (weigh_all (appends_of f) now) t (v.own f) (λ r y z. v.past r ∙ z) (omega (arith, v.count))
      (λ r y z. v.stage r ∙ z) (λ y z. inl (safe-on k z)) h

pub same-even : (w v : World) → v.own ≡ w.own → v.runs ≡ w.runs → Even w v
same-even w v a b = record {
  own = λ g r. omega (arith, ap (λ (qs : List (List ℕ)). times g (get_or qs r [])) a);
  stage = λ r. ap (λ (rs : List Run). (get_or rs r no_run).stage) b;
  past = λ r. ap (λ (rs : List Run). is_past (get_or rs r no_run)) b;
  count = ap (λ (rs : List Run). length rs) b;
}

module _ (s : Machine) (p : ℕ) (rest : List Op) (f : ℕ) (good : Good s) (l : p < length s.parties) (used : AllUsed s)
    (roomy : Roomy s) (ran : (r : ℕ) → RanIn s r) (h : BoundIn s f) where
  past-ops : (o : Op) → stack s p ≡ rest ++ reverse (o ∷ []) → weigh (past_of (length s.world.tasks)) (o ∷ []) ≡ 0
  past-ops o e = omega (arith, good.ops, split (past_of (length s.world.tasks)) s.parties p (o ∷ []) rest l e)

  pub keeps : (t : Hint) (o : Op) → stack s p ≡ rest ++ reverse (o ∷ []) → IsTame s.world o →
      KeepsSafe s.world (o ∷ []) (act p t o s.world)
  keeps t o e z = safe-act p t o s.world good.fits.awaiting good.fits.waking (past-ops o e) z

  -- its poll or that of another begins

  abbrev taken : ℕ → Bool → Done
  taken g c = carried (log_if (not c) s.world (Event.PollBegun p g)) g (moves.take_up_by c (task s.world g))

  pub bound-take_up : (g : ℕ) (c : Bool) → (task s.world g).closed ≡ c →
      stack s p ≡ rest ++ reverse (Op.Move Move.TakeUp g ∷ []) →
      (c ≡ true → KeepsSafe s.world (Op.Move Move.TakeUp g ∷ []) (taken g c)) →
      BoundIn (unsettled s p rest (taken g c)) f
  bound-take_up g true z e k =
      bound-even s p (Op.Move Move.TakeUp g ∷ []) rest (taken g true) f good l e
      (same-even s.world (taken g true).world refl refl) (tied-same f s.world.trace s.world.trace refl) (k refl) h
  bound-take_up g false z e k = ⊎_elim
      (λ (y : (same f g ≡ 1) × (eqb f g ≡ true) × (f ≡ g)). own y.0 y.2)
      (λ (y : (same f g ≡ 0) × (eqb f g ≡ false) × (f ≢ g)). other y.0 y.1)
      (same_cases f g)
    where
      o : List Op
      o = Op.Move Move.TakeUp g ∷ []

      own : same f g ≡ 1 → f ≡ g → BoundIn (unsettled s p rest (taken g false)) f
      own y i =
          let sound = good.sound f in
          let none : (r : ℕ) → times f (own_of s.world r) ≡ 0 = λ r. omega (
            arith,
            sound.one,
            own-in f r s.world.own,
            split (waiting_of f) s.parties p (Op.Move Move.TakeUp g ∷ []) rest l e,
            y,
          ) in
          bound-polled s.world (taken g false).world f (pend f s.parties)
          (pend f (set s.parties p (rest ++ reverse (taken g false).next))) (weigh_all (appends_of f) s.parties)
          (weigh_all (appends_of f) (set s.parties p (rest ++ reverse (taken g false).next))) p
          (ap (λ (n : ℕ). s.world.trace ++ Event.PollBegun p n ∷ []) (sym i)) none

      other : same f g ≡ 0 → eqb f g ≡ false → BoundIn (unsettled s p rest (taken g false)) f
      other y n =
          let d = taken g false in
          let i : g < length s.world.tasks = below _ g (omega (arith, past-ops (Op.Move Move.TakeUp g) e)) in
          let t : Tied f s.world.trace d.world.trace = tied-other f p g s.world.trace n in
          bound-same s.world d.world f (pend f s.parties) (pend f (set s.parties p (rest ++ reverse d.next)))
          (weigh_all (appends_of f) s.parties) (weigh_all (appends_of f) (set s.parties p (rest ++ reverse d.next))) t
          (λ r. omega arith) (λ r u z. z) (omega arith) (λ r u z. z)
          (λ u z. inl (new-safe s p (Op.Move Move.TakeUp g ∷ []) rest d f good l e
          (safe-take_up_open (among g (log s.world (Event.PollBegun p g)).table) p s.world g i f
          (pend f (set s.parties p rest)) (weigh_all (appends_of f) (set s.parties p rest)) y
          (ground s p (Op.Move Move.TakeUp g ∷ []) rest d f good l e)
          (old-safe s p (Op.Move Move.TakeUp g ∷ []) rest d f good l e z)))) h

  -- a Runnable is appended to a run's own queue
  module _ (x : Steal) (more g : ℕ) (e : stack s p ≡ rest ++ reverse (Op.Steal (StealOp.Put x more g) ∷ [])) where
    abbrev q : ℕ
    q = x.poll.run

    abbrev put : Done
    put = runs.steal_by more (runs.kept_by p s.world q g) x

    abbrev new : List (List Op)
    new = set s.parties p (rest ++ reverse put.next)

    abbrev o : List Op
    o = Op.Steal (StealOp.Put x more g) ∷ []

    like : Even (runs.kept_by p s.world q g) put.world
    like = even-idle (runs.kept_by p s.world q g) put.world (hull-more more (runs.kept_by p s.world q g) x)
        (idle-more more (runs.kept_by p s.world q g) x)

    trace-is : put.world.trace ≡ s.world.trace ++ Event.Kept p g q ∷ []
    trace-is = (moves-own_length more 0 (runs.kept_by p s.world q g) x).same.trace

    alive : is_past (run_of s.world q) ≡ false
    alive = (used q).polled (omega (arith, split (polling_of q) s.parties p o rest l e, self q))
      where
        self : (n : ℕ) → same n n ≡ 1
        self n = grind (arith, same_is)

    known : q < length s.world.runs
    known = ⊎_elim
        (λ (y : length s.world.runs ≤ q). absurd (omega (
          arith,
          (used q).unborn y,
          split (running_of q) s.parties p o rest l e,
          self q,
        )))
        (λ (y : suc q ≤ length s.world.runs). omega (arith, y))
        (le-or (length s.world.runs) q)
      where
        self : (n : ℕ) → same n n ≡ 1
        self n = grind (arith, same_is)

    keeps-put : KeepsSafe s.world o put
    keeps-put = safe-put p x more g s.world

    -- of another future
    other-put : same f g ≡ 0 → eqb f g ≡ false → BoundIn (unsettled s p rest put) f
    other-put y n =
        bound-same s.world put.world f (pend f s.parties) (pend f new) (weigh_all (appends_of f) s.parties)
        (weigh_all (appends_of f) new)
        (subst (Tied f s.world.trace) (sym trace-is) (tied-kept f p g q s.world.trace n))
        (λ r. omega (arith, like.own f r, own-set r)) (λ r u z. like.past r ∙ z) (omega (arith, like.count))
        (λ r u z. like.stage r ∙ z) (λ u z. inl (safe-on s p o rest put f good l e keeps-put z)) h
      where
        own-set : (r : ℕ) → times f (own_of (runs.kept_by p s.world q g) r) ≤ times f (own_of s.world r)
        own-set r = set-less r q s.world.own
          where
            set-less : (m k : ℕ) (qs : List (List ℕ)) →
                times f (get_or (set qs k (get_or qs k [] ++ g ∷ [])) m []) ≤ times f (get_or qs m [])
            set-less m k [] = omega arith
            set-less zero zero (u ∷ qs) = omega (arith, times-append f u (g ∷ []), y)
            set-less (suc m) zero (u ∷ qs) = omega arith
            set-less zero (suc k) (u ∷ qs) = omega arith
            set-less (suc m) (suc k) (u ∷ qs) = set-less m k qs

    -- of this one
    own-put : same f g ≡ 1 → f ≡ g → BoundIn (unsettled s p rest put) f
    own-put y i =
        let sound = good.sound f in
        let waits : 1 + weigh_all (waiting_of f) (set s.parties p rest) ≤ weigh_all (waiting_of f) s.parties =
        omega (arith, y, split (waiting_of f) s.parties p o rest l e) in
        let none_appended : weigh_all (appends_of f) s.parties ≡ 0 = omega (
          arith,
          waits,
          sound.one,
          split (appends_of f) s.parties p o rest l e,
          weigh_all-below (appends_of f) (waiting_of f) (appends-wait f) (set s.parties p rest),
        ) in
        let old : Safe s.world f (pend f s.parties) (weigh_all (appends_of f) s.parties) = record {
          none = none_appended;
          queued = omega (arith, waits, sound.one);
          resting = omega (arith, waits, sound.one);
          marked = λ a b. (
            sound.carries (omega (arith, waits)),
            not-true (task s.world f).running (λ z. omega (arith, sound.going z, waits, sound.one)),
          );
        } in
        let only : (n : ℕ) → 1 ≤ times f (own_of put.world n) → n ≡ q = λ n z. ⊎_elim
        (λ (u : (same n q ≡ 1) × (eqb n q ≡ true) × (n ≡ q)). u.2)
        (λ (u : (same n q ≡ 0) × (eqb n q ≡ false) × (n ≢ q)). absurd (omega (
          arith,
          z,
          like.own f n,
          ap (times f) (get_or-set_other s.world.own q n (own_of s.world q ++ g ∷ []) [] u.2),
          own-in f n s.world.own,
          waits,
          sound.one,
        )))
        (same_cases n q) in
        let undropped : has (is_run_drop q) s.world.trace ≡ false = not-true (has (is_run_drop q) s.world.trace)
        (λ z. (let no : true ≡ false = sym ((ran q).past z) ∙ alive in cc)) in
        bound-kept s.world put.world f (pend f new) (weigh_all (appends_of f) new) p q
        (trace-is ∙ ap (λ (n : ℕ). s.world.trace ++ Event.Kept p n q ∷ []) (sym i)) only
        (omega (arith, known, like.count)) undropped (safe-on s p o rest put f good l e keeps-put old)

    pub bound-put : BoundIn (unsettled s p rest put) f
    bound-put = ⊎_elim
        (λ (y : (same f g ≡ 1) × (eqb f g ≡ true) × (f ≡ g)). own-put y.0 y.2)
        (λ (y : (same f g ≡ 0) × (eqb f g ≡ false) × (f ≢ g)). other-put y.0 y.1)
        (same_cases f g)

  -- what is left in the own queue of a run that leaves is scheduled

  pub scheduled : (own : List ℕ) (q : ℕ) (a : Reply) → own_of s.world q ≡ own →
      stack s p ≡ rest ++ reverse (Op.Run (RunOp.Reschedule q a) ∷ []) →
      Even s.world (runs.reschedule_by own s.world q a).world →
      BoundIn (unsettled s p rest (runs.reschedule_by own s.world q a)) f
  scheduled [] q a z e v =
      bound-even s p (Op.Run (RunOp.Reschedule q a) ∷ []) rest (runs.reschedule_by [] s.world q a) f good l e v
      (tied-same f s.world.trace s.world.trace refl)
      (λ g r n b k. record { none = k.none; queued = k.queued; resting = k.resting; marked = k.marked }) h
  scheduled (g ∷ gs) q a z e v =
      let d = runs.reschedule_by (g ∷ gs) s.world q a in
      bound-same s.world d.world f (pend f s.parties) (pend f (set s.parties p (rest ++ reverse d.next)))
      (weigh_all (appends_of f) s.parties) (weigh_all (appends_of f) (set s.parties p (rest ++ reverse d.next)))
      (tied-same f s.world.trace s.world.trace refl) (v.own f) (λ r u y. v.past r ∙ y) (omega (arith, v.count)) (λ r u y. v.stage r ∙ y)
      (λ k y. ⊎_elim
      (λ (u : (same f g ≡ 1) × (eqb f g ≡ true) × (f ≡ g)). inr (left k a e u.0))
      (λ (u : (same f g ≡ 0) × (eqb f g ≡ false) × (f ≢ g)). inl (new-safe s p o rest d f good l e (apart y u.0)))
      (same_cases f g)) h
    where
      o : List Op
      o = Op.Run (RunOp.Reschedule q a) ∷ []

      -- of another future
      apart : Safe s.world f (pend f s.parties) (weigh_all (appends_of f) s.parties) → same f g ≡ 0 →
          Safe (runs.reschedule_by (g ∷ gs) s.world q a).world f
          (with_ops f (Op.Queue (QueueOp.Append g) ∷ Op.Run (RunOp.Reschedule q a) ∷ []) (pend f (set s.parties p rest)))
          (weigh (appends_of f) (Op.Queue (QueueOp.Append g) ∷ Op.Run (RunOp.Reschedule q a) ∷ [])
          + weigh_all (appends_of f) (set s.parties p rest))
      apart y u =
          let k = old-safe s p (Op.Run (RunOp.Reschedule q a) ∷ []) rest
          (runs.reschedule_by (g ∷ gs) s.world q a) f good l e y in record {
            none = omega (arith, u, k.none);
            queued = k.queued;
            resting = k.resting;
            marked = k.marked;
          }

      -- it stood in the own queue of a run that is ready
      left : kept f s.world → (b : Reply) → stack s p ≡ rest ++ reverse (Op.Run (RunOp.Reschedule q b) ∷ []) →
          same f g ≡ 1 → (run_of (runs.reschedule_by (g ∷ gs) s.world q a).world (keeper f s.world)).stage ≡ Ended
      left k b e2 u =
          let there : 1 ≤ times f (own_of s.world q) = omega (arith, ap (times f) z, u) in
          let i : keeper f s.world ≡ q = h.own q there k in
          let stage : (run_of s.world q).stage ≡ Ended = by b e2 in
          ap (λ (r : ℕ). (run_of s.world r).stage) i ∙ stage
        where
          self : (n : ℕ) → same n n ≡ 1
          self n = grind (arith, same_is)

          dropped : 1 ≤ weigh_all (dropping_of q) s.parties → (run_of s.world q).stage ≡ Ended
          dropped y =
              let there : 1 ≤ times f (own_of s.world q) = omega (arith, ap (times f) z, u) in
              let i : keeper f s.world ≡ q = h.own q there k in
              let no : true ≡ false = sym ((ran q).dropping y)
              ∙ (ap (λ (r : ℕ). has (is_run_drop r) s.world.trace) (sym i) ∙ h.undropped k) in absurd (cc)

          by : (c : Reply) → stack s p ≡ rest ++ reverse (Op.Run (RunOp.Reschedule q c) ∷ []) →
              (run_of s.world q).stage ≡ Ended
          by Reply.Ready x = (ran q).off (omega (
            arith,
            self q,
            split (off_of q) s.parties p (Op.Run (RunOp.Reschedule q Reply.Ready) ∷ []) rest l x,
          ))
          by Reply.Made x = dropped (omega (
            arith,
            self q,
            split (dropping_of q) s.parties p (Op.Run (RunOp.Reschedule q Reply.Made) ∷ []) rest l x,
          ))
          by Reply.Full x = dropped (omega (
            arith,
            self q,
            split (dropping_of q) s.parties p (Op.Run (RunOp.Reschedule q Reply.Full) ∷ []) rest l x,
          ))
          by Reply.Yes x = dropped (omega (
            arith,
            self q,
            split (dropping_of q) s.parties p (Op.Run (RunOp.Reschedule q Reply.Yes) ∷ []) rest l x,
          ))
          by Reply.No x = dropped (omega (
            arith,
            self q,
            split (dropping_of q) s.parties p (Op.Run (RunOp.Reschedule q Reply.No) ∷ []) rest l x,
          ))
          by Reply.Done x = dropped (omega (
            arith,
            self q,
            split (dropping_of q) s.parties p (Op.Run (RunOp.Reschedule q Reply.Done) ∷ []) rest l x,
          ))
          by Reply.NoMemory x = dropped (omega (
            arith,
            self q,
            split (dropping_of q) s.parties p (Op.Run (RunOp.Reschedule q Reply.NoMemory) ∷ []) rest l x,
          ))
          by Reply.Pending x = dropped (omega (
            arith,
            self q,
            split (dropping_of q) s.parties p (Op.Run (RunOp.Reschedule q Reply.Pending) ∷ []) rest l x,
          ))
          by Reply.Cancelled x = dropped (omega (
            arith,
            self q,
            split (dropping_of q) s.parties p (Op.Run (RunOp.Reschedule q Reply.Cancelled) ∷ []) rest l x,
          ))
          by Reply.Finished x = dropped (omega (
            arith,
            self q,
            split (dropping_of q) s.parties p (Op.Run (RunOp.Reschedule q Reply.Finished) ∷ []) rest l x,
          ))
