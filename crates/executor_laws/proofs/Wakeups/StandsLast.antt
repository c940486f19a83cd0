-- For some_standing_is_called.
-- Each end of a call keeps what holds of each tick and run.
use Rattle.std.proofs.Common.{◌≡◌, ◌≢◌, ◌∙◌, ℕ, zero, suc, ◌+◌, ◌<◌, ◌≤◌, List, [], ◌∷◌, ◌++◌, length, get_or, set, true, false}
use Rattle.std.proofs.Common.{refl, sym, ap, subst, ⊎_elim, arith}
use Rattle.std.specs.Prelude.{reverse}
use Rattle.executor_laws.proofs.Types.{Reply, Event, Hold, Op, TickOrRun}
use Rattle.executor_model.specs.Weights.{same, weigh, weigh_all}
use Rattle.executor_model.specs.{World.Done, World.done, World.log, Steps.Machine, Steps.stack}
use Rattle.executor_model.proofs.Awaiters.Holding.{nowhere, spot, spot-none, spot-more, seen, seen-append, found-weighs}
use Rattle.executor_model.proofs.Awaiters.Holding.{Spotted, Holds, held-step}
use Rattle.executor_model.proofs.Sleepers.SleepersFollowingExecutions.{followed-ends}
use Rattle.executor_model.proofs.{Awaiters.AwaitedTies.stack-then, Steps.Lift.unsettled, OwnQueues.UsingSteps.used-ends}
use Rattle.executor_laws.proofs.Wakeups.StandsSteps.{Standing, before, footing-here, open_of, stands-here, stands-pushed}
use Rattle.executor_laws.proofs.Wakeups.Stands.{view, Doing, with_doing, doing, Footing, Stands, asks_of}
use Rattle.executor_laws.proofs.Wakeups.StandsEnds.{EndWatched, Meets, marked, stands-end, watched-end}
use Rattle.executor_laws.proofs.Wakeups.StandsEnds.EndWatched.{own, within, apart}
use Rattle.executor_laws.proofs.Wakeups.StandsWeights.{asks-all, weigh-at, asks-calling}
use Rattle.executor_laws.proofs.Wakeups.Watched.{Watched, watched}
use Rattle.executor_laws.proofs.{Wakeups.StandsSteps.tied-pushed, Wakeups.StandsTied.tied-nil}

-- the end of a call

module _ (s : Machine) (p : ℕ) (a : Reply) (held : Hold) (below_it : List Op) (l : p < length s.parties)
    (e : stack s p ≡ below_it ++ reverse (Op.End a held ∷ [])) (h : Standing s) (t : TickOrRun) where
  abbrev ended : Done
  ended = done (log s.world (Event.CallEnded p a)) []

  abbrev pub now : Watched
  now = watched t s.world.trace

  abbrev others : Doing
  others = doing t (set s.parties p below_it)

  -- what is seen of the stack with the end on top
  spotted : now.asking ≡ true → now.party ≡ p →
      Spotted now.inner (spot (asks_of t (Op.End a held)) 1 (seen (asks_of t) nowhere below_it))
  spotted x q = subst (Spotted now.inner) (ap (λ (n : ℕ). seen (asks_of t) nowhere (stack s n)) q ∙
      (ap (seen (asks_of t) nowhere) e ∙ seen-append (asks_of t) nowhere below_it (Op.End a held ∷ []))) (h.held t x)

  ends-open : now.asking ≡ true → now.party ≡ p → now.inner ≡ 0 → 1 ≤ asks_of t (Op.End a held)
  ends-open x q z = go (asks_of t (Op.End a held)) refl
    where
      go : (n : ℕ) → asks_of t (Op.End a held) ≡ n → 1 ≤ asks_of t (Op.End a held)
      go (suc n) y = omega (arith, y)
      go zero y = let o : Spotted now.inner (record
          (seen (asks_of t) nowhere below_it) { inner = 1 + (seen (asks_of t) nowhere below_it).inner }) =
          subst (Spotted now.inner) (spot-none (asks_of t (Op.End a held)) 1 (seen (asks_of t) nowhere below_it) y)
          (spotted x q) in
          absurd (omega (arith, o.1, z))

  ends-within : (n : ℕ) → now.asking ≡ true → now.party ≡ p → now.inner ≡ suc n →
      Spotted n (seen (asks_of t) nowhere below_it)
  ends-within n x q z = go (asks_of t (Op.End a held)) refl
    where
      go : (k : ℕ) → asks_of t (Op.End a held) ≡ k → Spotted n (seen (asks_of t) nowhere below_it)
      go zero y = let o : Spotted now.inner (record
          (seen (asks_of t) nowhere below_it) { inner = 1 + (seen (asks_of t) nowhere below_it).inner }) =
          subst (Spotted now.inner) (spot-none (asks_of t (Op.End a held)) 1 (seen (asks_of t) nowhere below_it) y)
          (spotted x q) in
          (o.0, omega (arith, o.1, z))
      go (suc k) y = let o : Spotted now.inner (record { found = true; inner = 0 }) =
          subst (Spotted now.inner)
          (spot-more (asks_of t (Op.End a held)) 1 (seen (asks_of t) nowhere below_it) (omega (arith, y)))
          (spotted x q) in absurd (omega (arith, o.1, z))

  before_end : Stands (view t s.world) (with_doing t (Op.End a held ∷ []) others)
      (before s p (Op.End a held ∷ []) below_it ended l e h t)
  before_end = stands-here s p (Op.End a held ∷ []) below_it ended l e h t

  footing_end : Footing (with_doing t (Op.End a held ∷ []) others) others
  footing_end = footing-here s p (Op.End a held ∷ []) below_it ended l e h t

  -- who ends a poll of it is the party of the poll that is open
  asking : 1 ≤ asks_of t (Op.End a held) → now.asking ≡ true
  asking k = before_end.begun (omega (arith, k))

  one-asks : 1 ≤ asks_of t (Op.End a held) → weigh_all (asks_of t) (set s.parties p below_it) ≡ 0
  one-asks k = omega (arith, k, asks-all t (set s.parties p below_it), footing_end.stages, before_end.single)

  same-party : 1 ≤ asks_of t (Op.End a held) → now.party ≡ p
  same-party k = ⊎_elim
      (λ (x : (same now.party p ≡ 1) × (now.party ≡ p) × (get_or (set s.parties p below_it) now.party [] ≡ below_it)).
      x.1)
      (λ (x : (same now.party p ≡ 0) × (now.party ≢ p)
      × (get_or (set s.parties p below_it) now.party [] ≡ stack s now.party)).
      let there : Spotted now.inner (seen (asks_of t) nowhere (stack s now.party)) = h.held t (asking k) in
      ⊎_elim
      (λ (y : false ≡ true). absurd (cc))
      (λ (y : 1 ≤ weigh (asks_of t) (stack s now.party)). absurd (omega (
        arith,
        y,
        one-asks k,
        weigh-at (asks_of t) (set s.parties p below_it) now.party,
        ap (weigh (asks_of t)) x.2,
      )))
      (found-weighs (asks_of t) nowhere (stack s now.party) there.0))
      (stack-then s.parties p now.party below_it l)

  no-inner : 1 ≤ asks_of t (Op.End a held) → now.inner ≡ 0
  no-inner k = let o : Spotted now.inner (record { found = true; inner = 0 }) =
      subst (Spotted now.inner) (spot-more (asks_of t (Op.End a held)) 1 (seen (asks_of t) nowhere below_it) k)
      (spotted (asking k) (same-party k)) in sym o.1

  pub meets : Meets t p a held now
  meets = record { ends = ends-open; ended = λ k. (asking k, same-party k, no-inner k) }

  held-ended : EndWatched p a now (watched t (s.world.trace ++ Event.CallEnded p a ∷ [])) →
      Holds (asks_of t) (open_of (watched t (s.world.trace ++ Event.CallEnded p a ∷ [])))
      (set s.parties p (below_it ++ reverse []))
  held-ended (own x q z y) = λ b. let no : false ≡ true = sym (ap (λ (w : Watched). w.asking) y) ∙ b in absurd (cc)
  held-ended (within n x q z y) =
      held-step (asks_of t) (asks-calling t) (open_of now)
      (open_of (watched t (s.world.trace ++ Event.CallEnded p a ∷ []))) s.parties p
      (Op.End a held ∷ []) below_it [] l e (λ b. x) (ap (λ (w : Watched). w.party) y) (λ b n. absurd (n q))
      (λ b k o. subst (λ (m : ℕ). Spotted m (seen (asks_of t) nowhere below_it)) (sym (ap (λ (w : Watched). w.inner) y))
      (ends-within n x q z)) (h.held t)
  held-ended (apart x y) =
      held-step (asks_of t) (asks-calling t) (open_of now)
      (open_of (watched t (s.world.trace ++ Event.CallEnded p a ∷ []))) s.parties p
      (Op.End a held ∷ []) below_it [] l e (λ b. sym (ap (λ (w : Watched). w.asking) y) ∙ b)
      (ap (λ (w : Watched). w.party) y)
      (λ b n. ap (λ (w : Watched). w.inner) y) (λ b k o. absurd (x (sym (ap (λ (w : Watched). w.asking) y) ∙ b) k))
      (h.held t)

  stands-ended : Stands (view t ended.world) (doing t (set s.parties p (below_it ++ reverse [])))
      (marked (view t ended.world) (doing t (set s.parties p (below_it ++ reverse []))))
  stands-ended = stands-pushed s p (Op.End a held ∷ []) below_it ended l e h t _
      (stands-end t p a held s.world others (before s p (Op.End a held ∷ []) below_it ended l e h t) meets footing_end
      before_end
      (watched-end t p a s.world.trace))

pub standing-ends : (s : Machine) (p : ℕ) (a : Reply) (held : Hold) (below_it : List Op) → p < length s.parties →
    stack s p ≡ below_it ++ reverse (Op.End a held ∷ []) → Standing s →
    Standing (unsettled s p below_it (done (log s.world (Event.CallEnded p a)) []))
standing-ends s p a held below_it l e h = record {
  followed = followed-ends s p a held below_it l e h.followed;
  used = used-ends s p a held below_it l e h.used;
  tied =
      λ t. tied-pushed s p (Op.End a held ∷ []) below_it (done (log s.world (Event.CallEnded p a)) []) l e h t
      (tied-nil t);
  stands = λ t. stands-ended s p a held below_it l e h t;
  held = λ t. held-ended s p a held below_it l e h t (watched-end t p a s.world.trace);
}
