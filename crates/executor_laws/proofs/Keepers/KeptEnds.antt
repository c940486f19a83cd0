-- For keepers_are_called.
-- Where a poll of a run is answered that its own future is ready, that comes after all that it kept.
use Rattle.std.proofs.Common.{◌≡◌, ◌⊎◌, ◌∙◌, ℕ, zero, suc, ◌+◌, ◌<◌, ◌≤◌, List, [], ◌∷◌, ◌++◌, length, set, drop, take, Bool}
use Rattle.std.proofs.Common.{true, false, cond, refl, sym, ap, subst, inl, inr, ⊎_elim, arith}
use Rattle.std.specs.Prelude.{Option, Some, count_by, reverse, slice_get}
use Rattle.executor_model.specs.AwaiterKept.{EndsWith, since}
use Rattle.executor_model.specs.{Keeper.AnswersReady, Quiet.begins_call, Quiet.ends_call, Steps.Machine, Steps.stack}
use Rattle.executor_model.specs.{Trace.Trace, Trace.has, Weights.weigh_all, World.Done, World.done, World.log}
use Rattle.executor_model.proofs.Steps.Lift.{split, unsettled}
use Rattle.executor_model.proofs.{Polls.AskingExecutions.Heard, Steps.Lists.weigh_all-push, OwnQueues.OwnRooms.Roomy}
use Rattle.executor_laws.proofs.Keepers.KeptTrace.{Parted, get-new, keeps-before, none-kept, get-either, parted-more}
use Rattle.executor_laws.proofs.Wakeups.StandsTelling.{Begun, LastPoll, begun-at, drops_it, has-later, last-poll, left-has}
use Rattle.executor_laws.proofs.Keepers.KeptTrace.{since-length, since-old, get-within, take-old, get-old}
use Rattle.executor_laws.proofs.Wakeups.StandsTelling.{polls_it, unasked-all}
use Rattle.executor_laws.proofs.Keepers.KeptWeights.{is_end_ready, load_of, quits_of, readies_held, readies_of}
use Rattle.executor_laws.proofs.Wakeups.Watched.{Watched, poll_begun, watched, watched_from}
use Rattle.executor_laws.proofs.Keepers.KeptHere.{Here, Keeping, gone-more, take-whole}
use Rattle.executor_laws.proofs.Wakeups.StandsAnswers.{IsLevel, level-from}
use Rattle.executor_laws.proofs.{Types.Reply, Types.Event, Types.Hold, Types.Op, Types.TickOrRun, Keepers.KeptLeads.IsPast}
use Rattle.executor_laws.proofs.{Keepers.KeptGrown.Grown, Keepers.KeptGrown.grown-log, Wakeups.Stands.asks_of}
use Rattle.executor_laws.proofs.{Wakeups.StandsLast.meets, Wakeups.StandsSteps.Standing, Wakeups.StandsWeights.asks-all}

-- a call ends, which may be a poll of a run whose own future was ready

module _ (s : Machine) (p : ℕ) (a : Reply) (held : Hold) (below : List Op) (l : p < length s.parties)
    (e : stack s p ≡ below ++ reverse (Op.End a held ∷ [])) (k : Keeping s) where
  abbrev ended : Done
  ended = done (log s.world (Event.CallEnded p a)) []

  -- run r's poll ends so
  module _ (r : ℕ) (ready : a ≡ Reply.Ready) (of_it : 1 ≤ readies_held r held) where
    asks : 1 ≤ asks_of (TickOrRun.Run r) (Op.End a held)
    asks = subst (λ (b : Reply). 1 ≤ asks_of (TickOrRun.Run r) (Op.End b held)) (sym ready) (by held of_it)
      where
        by : (o : Hold) → 1 ≤ readies_held r o → 1 ≤ asks_of (TickOrRun.Run r) (Op.End Reply.Ready o)
        by (Hold.Run q) z = omega (arith, z)
        by (Hold.Tick q) z = absurd (omega (arith, z))
        by _ z = absurd (omega (arith, z))

    open_poll : ((watched (TickOrRun.Run r) s.world.trace).asking ≡ true)
        × ((watched (TickOrRun.Run r) s.world.trace).party ≡ p) × ((watched (TickOrRun.Run r) s.world.trace).inner ≡ 0)
    open_poll = (meets s p a held below l e k.standing (TickOrRun.Run r)).ended asks

    living : has (drops_it (TickOrRun.Run r)) s.world.trace ≡ false
    living = sym (left-has (TickOrRun.Run r) s.world.trace) ∙ by (watched (TickOrRun.Run r) s.world.trace).left refl
      where
        by : (b : Bool) → (watched (TickOrRun.Run r) s.world.trace).left ≡ b → b ≡ false
        by false q = refl
        by true q = absurd (omega (
          arith,
          ((k.standing.stands (TickOrRun.Run r)).parted q).2,
          asks-all (TickOrRun.Run r) s.parties,
          split (asks_of (TickOrRun.Run r)) s.parties p (Op.End a held ∷ []) below l e,
          asks,
        ))

    last : LastPoll (TickOrRun.Run r) s.world.trace
    last = ⊎_elim
        (λ (z : has (polls_it (TickOrRun.Run r)) s.world.trace ≡ false). absurd
        (let no : true ≡ false = sym open_poll.0 ∙ unasked-all (TickOrRun.Run r) s.world.trace z in cc))
        (λ (z : LastPoll (TickOrRun.Run r) s.world.trace). z)
        (last-poll (TickOrRun.Run r) s.world.trace)

    since_it : (es : Trace) → drop (suc last.poll) es ≡ since last.poll es
    since_it es = ap (λ (n : ℕ). drop n es) (let z : suc last.poll ≡ last.poll + 1 = omega arith in z)

    unpolled : has (polls_it (TickOrRun.Run r)) (since last.poll s.world.trace) ≡ false
    unpolled = ap (has (polls_it (TickOrRun.Run r))) (sym (since_it s.world.trace)) ∙ last.last

    begun_there : Begun (TickOrRun.Run r) last.poll last.party s.world.trace
    begun_there = begun-at (TickOrRun.Run r) last.poll last.party s.world.trace last.polled

    all : watched (TickOrRun.Run r) s.world.trace
        ≡ watched_from (TickOrRun.Run r) (suc last.poll) (poll_begun last.poll last.party begun_there.before)
        (since last.poll s.world.trace)
    all = begun_there.all ∙ ap (watched_from (TickOrRun.Run r) (suc last.poll)
        (poll_begun last.poll last.party begun_there.before)) (since_it s.world.trace)

    level : IsLevel last.party 0 (since last.poll s.world.trace) (watched (TickOrRun.Run r) s.world.trace)
    level = subst (IsLevel last.party 0 (since last.poll s.world.trace)) (sym all)
        (level-from (TickOrRun.Run r) last.party (suc last.poll) (poll_begun last.poll last.party begun_there.before)
        (since last.poll s.world.trace) unpolled
        (has-later (drops_it (TickOrRun.Run r)) (last.poll + 1) s.world.trace living) refl refl
        (sym (ap (λ (w : Watched). w.asking) all) ∙ open_poll.0))

    same_party : last.party ≡ p
    same_party = sym level.party ∙ open_poll.1

    within : last.poll < length s.world.trace
    within = get-within s.world.trace last.poll (Event.RunPolled last.party r) last.polled

    after_it : since last.poll (s.world.trace ++ Event.CallEnded p a ∷ [])
        ≡ since last.poll s.world.trace ++ Event.CallEnded p a ∷ []
    after_it = since-old s.world.trace (Event.CallEnded p a ∷ []) last.poll within

    ends : EndsWith last.party Reply.Ready (since last.poll s.world.trace ++ Event.CallEnded p a ∷ [])
    ends = record {
      place = length (since last.poll s.world.trace);
      here = get-new (since last.poll s.world.trace) (Event.CallEnded p a)
          ∙ (λ i. let o : Option Event = Some (Event.CallEnded (sym same_party i) (ready i)) in o);
      inner = ap (count_by (ends_call last.party)) (whole (since last.poll s.world.trace))
          ∙ (omega (arith, level.level, open_poll.2)
          ∙ sym (ap (count_by (begins_call last.party)) (whole (since last.poll s.world.trace))));
      first = λ n z. omega (
        arith,
        level.first n z,
        ap (count_by (ends_call last.party))
            (take-old (since last.poll s.world.trace) (Event.CallEnded p a ∷ []) n z),
        ap (count_by (begins_call last.party))
            (take-old (since last.poll s.world.trace) (Event.CallEnded p a ∷ []) n z),
      );
    }
      where
        whole : (es : Trace) → take (length es) (es ++ Event.CallEnded p a ∷ []) ≡ es
        whole es = take-old es (Event.CallEnded p a ∷ []) (length es) (omega arith) ∙ take-whole es

    ends-then : EndsWith last.party Reply.Ready (since last.poll ended.world.trace)
    unfolding ends
    ends-then = record {
      place = length (since last.poll s.world.trace);
      here = ap (λ (xs : Trace). slice_get xs (length (since last.poll s.world.trace))) after_it ∙ ends.here;
      inner = ap (λ (xs : Trace). count_by (ends_call last.party) (take (length (since last.poll s.world.trace)) xs))
          after_it
          ∙ (ends.inner
          ∙ sym (ap (λ (xs : Trace). count_by (begins_call last.party)
          (take (length (since last.poll s.world.trace)) xs)) after_it));
      first = λ n z. omega (
        arith,
        ends.first n z,
        ap (λ (xs : Trace). count_by (ends_call last.party) (take n xs)) after_it,
        ap (λ (xs : Trace). count_by (begins_call last.party) (take n xs)) after_it,
      );
    }

    answers : (place : ℕ) → place < length s.world.trace → AnswersReady r place ended.world.trace
    unfolding ends-then
    answers place z = record {
      party = last.party;
      poll = last.poll;
      polled = get-old s.world.trace (Event.CallEnded p a ∷ []) last.poll within ∙ last.polled;
      ready = ends-then;
      later = omega (arith, z, since-length s.world.trace last.poll within);
    }

    pub parted-ready : Parted r ended.world.trace
    parted-ready = record {
      since_then = λ place q f z. ⊎_elim
          (λ (y : place < length s.world.trace). inr (answers place y))
          (λ (y : (n : ℕ) × (slice_get (Event.CallEnded p a ∷ []) n ≡ Some (Event.Kept q f r))). absurd
          (none-kept r (Event.CallEnded p a ∷ []) refl y.0 q f y.1))
          (get-either s.world.trace (Event.CallEnded p a ∷ []) place (Event.Kept q f r) z);
    }

  grown : Grown s.world ended.world
  grown = grown-log s.world ended.world (Event.CallEnded p a) refl refl

  still : (v : Op → ℕ) → weigh_all v s.parties
      ≡ v (Op.End a held) + weigh_all v (set s.parties p (below ++ reverse []))
  still v = omega (arith, split v s.parties p (Op.End a held ∷ []) below l e, weigh_all-push v s.parties p below [] l)

  parted-ends : (r : ℕ) → IsPast s.world r → Parted r ended.world.trace
      ⊎ (1 ≤ weigh_all (readies_of r) (set s.parties p (below ++ reverse [])))
  parted-ends r z = ⊎_elim
      (λ (y : Parted r s.world.trace). inl (parted-more r s.world.trace (Event.CallEnded p a ∷ [])
      (none-kept r (Event.CallEnded p a ∷ []) refl) y))
      (λ (y : 1 ≤ weigh_all (readies_of r) s.parties). by (is_end_ready a) refl (omega (arith, y, still (readies_of r))))
      (k.parted r z)
    where
      ready-is : (b : Reply) → is_end_ready b ≡ true → b ≡ Reply.Ready
      ready-is Reply.Ready q = refl
      ready-is _ q = absurd (cc)

      split-up : (n m : ℕ) → 1 ≤ n + m → (1 ≤ n) ⊎ (1 ≤ m)
      split-up zero m q = inr (omega (arith, q))
      split-up (suc n) m q = inl (omega arith)

      by : (b : Bool) → is_end_ready a ≡ b →
          1 ≤ cond (is_end_ready a) (readies_held r held) 0
          + weigh_all (readies_of r) (set s.parties p (below ++ reverse [])) →
          Parted r ended.world.trace
          ⊎ (1 ≤ weigh_all (readies_of r) (set s.parties p (below ++ reverse [])))
      by true q w = ⊎_elim
          (λ (y : 1 ≤ readies_held r held). inl (parted-ready r (ready-is a q) y))
          (λ (y : 1 ≤ weigh_all (readies_of r) (set s.parties p (below ++ reverse []))). inr y)
          (split-up _ _ (omega (arith, w, ap (λ (c : Bool). cond c (readies_held r held) 0) q)))
      by false q w = inr (omega (arith, w, ap (λ (c : Bool). cond c (readies_held r held) 0) q))

  pub keeping-end : Standing (unsettled s p below ended) → Heard (unsettled s p below ended) →
      Roomy (unsettled s p below ended) → Keeping (unsettled s p below ended)
  keeping-end x y z = record {
    standing = x;
    heard = y;
    roomy = z;
    leaves = λ r i. k.leaves r (omega (arith, i, still (quits_of r)));
    parted = parted-ends;
    keeps = λ f r place i. (let j : _ = k.keeps f r place (keeps-before f r place s.world.trace
        (Event.CallEnded p a ∷ []) refl i) in (j.0, on f r j.1));
  }
    where
      on : (f r : ℕ) → Here f r s.world (weigh_all (load_of f) s.parties) →
          Here f r ended.world (weigh_all (load_of f) (set s.parties p (below ++ reverse [])))
      on f r (inl q) = inl (omega (arith, q, still (load_of f)))
      on f r (inr (inl q)) = inr (inl (gone-more f s.world ended.world (Event.CallEnded p a ∷ []) refl q))
      on f r (inr (inr q)) = inr (inr q)
