-- For awaiters_are_kept.
-- In each execution the waker of who waits is stored, called or about to be called.
use Rattle.std.proofs.Common.{◌≡◌, ◌⊎◌, ℕ, zero, suc, ◌+◌, ◌<◌, ◌≤◌, List, [], ◌∷◌, ◌++◌, length, set, Bool, true, false, ◌&&◌}
use Rattle.std.proofs.Common.{not, cond, eqb, refl, sym, ap, ◌∙◌, subst, inl, inr, ⊎_elim, arith}
use Rattle.std.specs.Prelude.{reverse}
use Rattle.executor_model.proofs.Types.{Kind, Call, Reply, Answer, Event, Hold, Op, HandleOp, UserOp, Hint, Step, UserEnd}
use Rattle.executor_model.specs.Weights.{same, weigh, weigh_all, past}
use Rattle.executor_model.specs.Steps.{Machine, stack, idle, run, start, mine, top, has_all, has_handle, accepts, begun, react}
use Rattle.executor_model.specs.{World.World, World.Done, World.done, World.log, World.task, Acts.is_copy_refused, Doing.act}
use Rattle.executor_model.specs.{Sound.Pend, Sound.pend, Sound.with_ops, Good.Good, Rows.handling_of, Rows.past_of}
use Rattle.executor_model.proofs.Steps.Lift.{split, unsettled, good-start, none_refused, handle-known, first-true, unborrowed}
use Rattle.executor_model.proofs.Awaiters.Awaited.{Heard, heard, heard-none, Awaiting, with_awaiting, awaiting, Awaits, Mark}
use Rattle.executor_model.proofs.Awaiters.Holding.{nowhere, spot, spot-none, spot-more, seen, seen-append, Spotted, Holds}
use Rattle.executor_model.proofs.Awaiters.AwaitedCalls.{begun_in, UsesHandle, awaits-begun, EndHeard, heard-end, marked}
use Rattle.executor_model.proofs.Awaiters.AwaitedSteps.{Waited, awaiting-none, nothing_awaited, before, footing-here}
use Rattle.executor_model.proofs.Awaiters.AwaitedSteps.{awaits-here, stages-here, awaits-pushed, held-same, held-polled}
use Rattle.executor_model.proofs.Steps.Ways.Way.{acted, reacted, called}
use Rattle.executor_model.proofs.Quiet.Calls.{calling_of, is_end, Passes, single, then}
use Rattle.executor_model.proofs.Quiet.Resting.{idle-stack, opens}
use Rattle.executor_model.proofs.Awaiters.AwaitedGroups.{awaits-act, awaits-react, asked}
use Rattle.executor_model.proofs.Awaiters.AwaitedTies.{Tied, AllTied, tied-moves, tied-ends}
use Rattle.executor_model.proofs.Awaiters.AwaitedHeld.{asks_of, asks-calling, open_of}
use Rattle.executor_model.proofs.Awaiters.AwaitedCalls.EndHeard.{own, within, apart}
use Rattle.executor_model.proofs.{Steps.Lists.same_is, Steps.Lists.past_is, Steps.Lift.weigh_all-idle, Steps.Lift.set-own}
use Rattle.executor_model.proofs.{Steps.Ways.Way, Steps.Ways.along, Quiet.CallsGroups.calls-act, Awaiters.Awaited.asks_if}
use Rattle.executor_model.proofs.{Awaiters.AwaitedActs.is_answer, Awaiters.Holding.held-step, Awaiters.AwaitedCalls.awaits-end}
use Rattle.executor_model.proofs.{Awaiters.AwaitedSteps.held-begun, Steps.Growing.pend-none, OneFuture.Views.none}
use Rattle.task_moves.specs.Moves as moves

-- what is done

abbrev MarkStays : ℕ → Hint → Op → World → ℕ → Mark → Type 0
MarkStays p t o w g m = (asked p t o w g m ≡ m)
    ⊎ ((calling_of o ≡ 1) × ((asked p t o w g m).party ≡ p) × ((asked p t o w g m).inner ≡ 0)
    × ((asked p t o w g m).asks ≡ suc m.asks))

asks-is : (b : Bool) (p f g : ℕ) (m : Mark) →
    (asks_if b p f g m ≡ m) ⊎ (((asks_if b p f g m).party ≡ p) × ((asks_if b p f g m).inner ≡ 0)
    × ((asks_if b p f g m).asks ≡ suc m.asks))
asks-is false p f g m = inl refl
asks-is true p f g m = go (eqb g f)
  where
    go : (c : Bool) → let x : Mark = cond c (record { asking = true; party = p; inner = 0; asks = suc m.asks }) m in
        (x ≡ m) ⊎ ((x.party ≡ p) × (x.inner ≡ 0) × (x.asks ≡ suc m.asks))
    go true = inr (refl, refl, refl)
    go false = inl refl

asks-stays : (b : Bool) (p f g : ℕ) (o : Op) (m : Mark) → calling_of o ≡ 1 →
    (asks_if b p f g m ≡ m) ⊎ ((calling_of o ≡ 1) × ((asks_if b p f g m).party ≡ p) × ((asks_if b p f g m).inner ≡ 0)
    × ((asks_if b p f g m).asks ≡ suc m.asks))
asks-stays b p f g o m c = ⊎_elim (λ x. inl x) (λ x. inr (c, x.0, x.1, x.2)) (asks-is b p f g m)

mark-stays : (p : ℕ) (t : Hint) (o : Op) (w : World) (g : ℕ) (m : Mark) → MarkStays p t o w g m
mark-stays p t (Op.Handle (HandleOp.Look f a)) w g m = asks-stays (is_answer (moves.poll (task w f)).owed.answer) p f g
    (Op.Handle (HandleOp.Look f a)) m refl
mark-stays p t (Op.Handle (HandleOp.CopyAwaiter f a)) w g m =
    asks-stays (not (is_copy_refused t w a)) p f g (Op.Handle (HandleOp.CopyAwaiter f a)) m refl
mark-stays p t _ w g m = inl refl

waited-acted : (s : Machine) (p : ℕ) (rest : List Op) (t : Hint) (o : Op) → is_end o ≡ false → p < length s.parties →
    stack s p ≡ rest ++ reverse (o ∷ []) → Good s → AllTied (unsettled s p rest (act p t o s.world)) → Waited s →
    Waited (unsettled s p rest (act p t o s.world))
waited-acted s p rest t o n l e good tied h = record {
  awaits = λ g. awaits-pushed s p (o ∷ []) rest (act p t o s.world) l e h g
      (asked p t o s.world g (before s p (o ∷ []) rest (act p t o s.world) l e h g)) (step g);
  held = λ g. ⊎_elim
      (λ (x : asked p t o s.world g (before s p (o ∷ []) rest (act p t o s.world) l e h g) ≡ before s p (o ∷ []) rest
      (act p t o s.world) l e h g). held-same s p (o ∷ []) rest (act p t o s.world) l e h g o refl
      (calls-act p t o s.world n).passes _ x (step g))
      (λ (x : (calling_of o ≡ 1)
      × ((asked p t o s.world g (before s p (o ∷ []) rest (act p t o s.world) l e h g)).party ≡ p)
      × ((asked p t o s.world g (before s p (o ∷ []) rest (act p t o s.world) l e h g)).inner ≡ 0)
      × ((asked p t o s.world g (before s p (o ∷ []) rest (act p t o s.world) l e h g)).asks
      ≡ suc (before s p (o ∷ []) rest (act p t o s.world) l e h g).asks)). held-polled s p (o ∷ []) rest
      (act p t o s.world) l e h g o refl x.0 (calls-act p t o s.world n).passes _ x.1 x.2 x.3 (step g))
      (mark-stays p t o s.world g (before s p (o ∷ []) rest (act p t o s.world) l e h g));
  tied = tied;
}
  where
    known : weigh (past_of (length s.world.tasks)) (o ∷ []) ≡ 0
    known = omega (arith, good.ops, split (past_of (length s.world.tasks)) s.parties p (o ∷ []) rest l e)

    step : (g : ℕ) → Awaits (act p t o s.world).world g
        (with_ops g (act p t o s.world).next (pend g (set s.parties p rest)))
        (with_awaiting g (act p t o s.world).next (awaiting g (set s.parties p rest)))
        (asked p t o s.world g (before s p (o ∷ []) rest (act p t o s.world) l e h g))
    step g = awaits-act p t o s.world good.fits.awaiting good.fits.waking known n g _ _ _
        (footing-here s p (o ∷ []) rest (act p t o s.world) l e h g good)
        (awaits-here s p (o ∷ []) rest (act p t o s.world) l e h g)

-- the end of user code

passes-react : (p : ℕ) (o : Op) (u : UserEnd) (w : World) → accepts o u ≡ true → Passes o (react p o u w).next
passes-react p (Op.User (UserOp.Poll f)) (UserEnd.Polled Answer.Pending) w a =
    record { none = λ z. refl; one = λ z. absurd (omega (arith, z)) }
passes-react p (Op.User (UserOp.Poll f)) (UserEnd.Polled Answer.Ready) w a =
    record { none = λ z. refl; one = λ z. absurd (omega (arith, z)) }
passes-react p (Op.User (UserOp.Drop f)) UserEnd.Done w a =
    record { none = λ z. refl; one = λ z. absurd (omega (arith, z)) }
passes-react p (Op.User (UserOp.DropOutput f)) UserEnd.Done w a =
    record { none = λ z. refl; one = λ z. absurd (omega (arith, z)) }
passes-react p (Op.User (UserOp.CallOutside x)) UserEnd.Done w a =
    record { none = λ z. refl; one = λ z. absurd (omega (arith, z)) }
passes-react p (Op.User (UserOp.PollOwn x)) (UserEnd.Polled Answer.Pending) w a =
    record { none = λ z. absurd (omega (arith, z)); one = λ z. single _ refl }
passes-react p (Op.User (UserOp.PollOwn x)) (UserEnd.Polled Answer.Ready) w a =
    record { none = λ z. absurd (omega (arith, z)); one = λ z. then (Op.User (UserOp.DropOwn x.run) ∷ []) _ refl refl }
passes-react p (Op.User (UserOp.DropOwn q)) UserEnd.Done w a =
    record { none = λ z. refl; one = λ z. absurd (omega (arith, z)) }
passes-react p _ _ w a = absurd (cc)

waited-reacted : (s : Machine) (p : ℕ) (rest : List Op) (o : Op) (u : UserEnd) → accepts o u ≡ true →
    p < length s.parties → stack s p ≡ rest ++ reverse (o ∷ []) → Good s →
    AllTied (unsettled s p rest (react p o u s.world)) → Waited s → Waited (unsettled s p rest (react p o u s.world))
waited-reacted s p rest o u a l e good tied h = record {
  awaits = λ g. awaits-pushed s p (o ∷ []) rest (react p o u s.world) l e h g
      (before s p (o ∷ []) rest (react p o u s.world) l e h g) (step g);
  held = λ g. held-same s p (o ∷ []) rest (react p o u s.world) l e h g o refl (passes-react p o u s.world a) _ refl
      (step g);
  tied = tied;
}
  where
    step : (g : ℕ) → Awaits (react p o u s.world).world g
        (with_ops g (react p o u s.world).next (pend g (set s.parties p rest)))
        (with_awaiting g (react p o u s.world).next (awaiting g (set s.parties p rest)))
        (before s p (o ∷ []) rest (react p o u s.world) l e h g)
    step g = awaits-react p o u s.world a g _ _ _ (footing-here s p (o ∷ []) rest (react p o u s.world) l e h g good)
        (awaits-here s p (o ∷ []) rest (react p o u s.world) l e h g)

-- the beginning of a call

below : (n f : ℕ) → past n f ≡ 0 → f < n
below n f e = grind (arith, past_is)

at-once : (g f n m : ℕ) → n ≤ 1 → (g ≡ f → n ≡ 0) → same g f + n ≤ 1
at-once g f n m le z = grind (arith, same_is)

and-right : (a b : Bool) → (a && b) ≡ true → b ≡ true
and-right true b e = e
and-right false b e = absurd (cc)

-- a handle that a call may use is there, and nothing uses it
handle-free : (s : Machine) (p f : ℕ) (rest : List Op) (g : ℕ) → stack s p ≡ rest →
    weigh_all (handling_of g) s.parties ≤ 1 →
    weigh_all (handling_of g) (set s.parties p rest) ≡ weigh_all (handling_of g) s.parties →
    has_handle s.world s.parties f ≡ true →
    (f < length s.world.tasks) × (same g f + weigh_all (handling_of g) (set s.parties p rest) ≤ 1)
handle-free s p f rest g e one q k = (
  below _ f (handle-known s.world f (first-true _ _ k)),
  at-once g f _ 0 (omega (arith, one, q))
      (λ (z : g ≡ f). q ∙ (ap (λ (n : ℕ). weigh_all (handling_of n) s.parties) z ∙ unborrowed _ (and-right _ _ k))),
)

uses-handle : (s : Machine) (p : ℕ) (rest : List Op) (c : Call) (g : ℕ) → stack s p ≡ rest →
    weigh_all (handling_of g) s.parties ≤ 1 →
    weigh_all (handling_of g) (set s.parties p rest) ≡ weigh_all (handling_of g) s.parties →
    has_all s.world s.parties (top (stack s p)) c ≡ true →
    UsesHandle s.world g c (weigh_all (handling_of g) (set s.parties p rest))
uses-handle s p rest (Call.PollHandle f b) g e one q k = handle-free s p f rest g e one q (first-true _ _ k)
uses-handle s p rest (Call.Cancel f) g e one q k = handle-free s p f rest g e one q k
uses-handle s p rest (Call.Detach f) g e one q k = handle-free s p f rest g e one q k
uses-handle s p rest (Call.DropHandle f) g e one q k = handle-free s p f rest g e one q k
uses-handle s p rest _ g e one q k = tt

abbrev begun_done : Machine → ℕ → Call → Done
begun_done s p c = begun p (log s.world (Event.CallBegun p c)) (mine (top (stack s p))) c

waited-begun : (s : Machine) (p : ℕ) (rest : List Op) (c : Call) →
    has_all s.world s.parties (top (stack s p)) c ≡ true → p < length s.parties → rest ≡ stack s p →
    stack s p ≡ rest ++ reverse [] → Good s → AllTied (unsettled s p rest (begun_done s p c)) → Waited s →
    Waited (unsettled s p rest (begun_done s p c))
waited-begun s p rest c k l r e good tied h = record {
  awaits = λ g. awaits-pushed s p [] rest (begun_done s p c) l e h g
      (begun_in p g (before s p [] rest (begun_done s p c) l e h g)) (step g);
  held = λ g. held-begun s p [] rest (begun_done s p c) l e h g refl (opens p s.world s.parties (top (stack s p)) c k).1
      (step g);
  tied = tied;
}
  where
    own_parties : set s.parties p rest ≡ s.parties
    own_parties = ap (set s.parties p) r ∙ set-own s.parties p l

    step : (g : ℕ) → Awaits (begun_done s p c).world g
        (with_ops g (begun_done s p c).next (pend g (set s.parties p rest)))
        (with_awaiting g (begun_done s p c).next (awaiting g (set s.parties p rest)))
        (begun_in p g (before s p [] rest (begun_done s p c) l e h g))
    step g = awaits-begun p s.world (mine (top (stack s p))) c g (pend g (set s.parties p rest))
        (awaiting g (set s.parties p rest)) (before s p [] rest (begun_done s p c) l e h g)
        (uses-handle s p rest c g (sym r) (h.awaits g).single (ap (weigh_all (handling_of g)) own_parties) k)
        (footing-here s p [] rest (begun_done s p c) l e h g good) (awaits-here s p [] rest (begun_done s p c) l e h g)

-- the end of a call

module _ (s : Machine) (p : ℕ) (a : Reply) (held : Hold) (below_it : List Op) (l : p < length s.parties)
    (e : stack s p ≡ below_it ++ reverse (Op.End a held ∷ [])) (h : Waited s) (g : ℕ) where
  abbrev ended : Done
  ended = done (log s.world (Event.CallEnded p a)) []

  -- what is seen of the stack with the end on top
  spotted : (heard g s.world.trace).asking ≡ true → (heard g s.world.trace).party ≡ p →
      Spotted (heard g s.world.trace).inner (spot (asks_of g (Op.End a held)) 1 (seen (asks_of g) nowhere below_it))
  spotted x q = subst (Spotted (heard g s.world.trace).inner)
      (ap (λ (n : ℕ). seen (asks_of g) nowhere (stack s n)) q
      ∙ (ap (seen (asks_of g) nowhere) e ∙ seen-append (asks_of g) nowhere below_it (Op.End a held ∷ [])))
      (h.held g x)

  ends-open : (heard g s.world.trace).asking ≡ true → (heard g s.world.trace).party ≡ p →
      (heard g s.world.trace).inner ≡ 0 → 1 ≤ asks_of g (Op.End a held)
  ends-open x q z = go (asks_of g (Op.End a held)) refl
    where
      go : (n : ℕ) → asks_of g (Op.End a held) ≡ n → 1 ≤ asks_of g (Op.End a held)
      go (suc n) y = omega (arith, y)
      go zero y = let t : Spotted (heard g s.world.trace).inner
          (record (seen (asks_of g) nowhere below_it) { inner = 1 + (seen (asks_of g) nowhere below_it).inner }) =
          subst (Spotted (heard g s.world.trace).inner)
          (spot-none (asks_of g (Op.End a held)) 1 (seen (asks_of g) nowhere below_it) y) (spotted x q) in
          absurd (omega (arith, t.1, z))

  ends-within : (n : ℕ) → (heard g s.world.trace).asking ≡ true → (heard g s.world.trace).party ≡ p →
      (heard g s.world.trace).inner ≡ suc n → Spotted n (seen (asks_of g) nowhere below_it)
  ends-within n x q z = go (asks_of g (Op.End a held)) refl
    where
      go : (k : ℕ) → asks_of g (Op.End a held) ≡ k → Spotted n (seen (asks_of g) nowhere below_it)
      go zero y = let t : Spotted (heard g s.world.trace).inner
          (record (seen (asks_of g) nowhere below_it) { inner = 1 + (seen (asks_of g) nowhere below_it).inner }) =
          subst (Spotted (heard g s.world.trace).inner)
          (spot-none (asks_of g (Op.End a held)) 1 (seen (asks_of g) nowhere below_it) y) (spotted x q) in
          (t.0, omega (arith, t.1, z))
      go (suc k) y = let t : Spotted (heard g s.world.trace).inner (record { found = true; inner = 0 }) =
          subst (Spotted (heard g s.world.trace).inner)
          (spot-more (asks_of g (Op.End a held)) 1 (seen (asks_of g) nowhere below_it) (omega (arith, y)))
          (spotted x q) in absurd (omega (arith, t.1, z))

  held-ended : EndHeard p a (heard g s.world.trace) (heard g (s.world.trace ++ Event.CallEnded p a ∷ [])) →
      Holds (asks_of g) (open_of (heard g (s.world.trace ++ Event.CallEnded p a ∷ [])))
      (set s.parties p (below_it ++ reverse []))
  held-ended (own x q z y) = λ b. let no : false ≡ true = sym (ap (λ (t : Heard). t.asking) y) ∙ b in absurd (cc)
  held-ended (within n x q z y) = held-step (asks_of g) (asks-calling g) (open_of (heard g s.world.trace))
      (open_of (heard g (s.world.trace ++ Event.CallEnded p a ∷ []))) s.parties p (Op.End a held ∷ []) below_it [] l e
      (λ b. x) (ap (λ (t : Heard). t.party) y) (λ b n. absurd (n q))
      (λ b k t. subst (λ (m : ℕ). Spotted m (seen (asks_of g) nowhere below_it)) (sym (ap (λ (t : Heard). t.inner) y))
      (ends-within n x q z)) (h.held g)
  held-ended (apart x y) = held-step (asks_of g) (asks-calling g) (open_of (heard g s.world.trace))
      (open_of (heard g (s.world.trace ++ Event.CallEnded p a ∷ []))) s.parties p (Op.End a held ∷ []) below_it [] l e
      (λ b. sym (ap (λ (t : Heard). t.asking) y) ∙ b) (ap (λ (t : Heard). t.party) y)
      (λ b n. ap (λ (t : Heard). t.inner) y) (λ b k t. absurd (x (sym (ap (λ (t : Heard). t.asking) y) ∙ b) k))
      (h.held g)

  awaits-ended : Awaits ended.world g (pend g (set s.parties p (below_it ++ reverse [])))
      (awaiting g (set s.parties p (below_it ++ reverse [])))
      (marked ended.world g (awaiting g (set s.parties p (below_it ++ reverse []))))
  awaits-ended = awaits-pushed s p (Op.End a held ∷ []) below_it ended l e h g _
      (awaits-end s.world p a held g _ _ _ (heard-end g p a s.world.trace) ends-open
      (stages-here s p (Op.End a held ∷ []) below_it ended l e h g)
      (awaits-here s p (Op.End a held ∷ []) below_it ended l e h g))

waited-ends : (s : Machine) (p : ℕ) (a : Reply) (held : Hold) (below_it : List Op) → p < length s.parties →
    stack s p ≡ below_it ++ reverse (Op.End a held ∷ []) → Waited s →
    Waited (unsettled s p below_it (done (log s.world (Event.CallEnded p a)) []))
waited-ends s p a held below_it l e h = record {
  awaits = λ g. awaits-ended s p a held below_it l e h g;
  held = λ g. held-ended s p a held below_it l e h g (heard-end g p a s.world.trace);
  tied = tied-ends s p a held below_it l e h.tied;
}

-- every step

acted-by : (s : Machine) (p : ℕ) (rest : List Op) (t : Hint) (o : Op) (b : Bool) → is_end o ≡ b → p < length s.parties →
    stack s p ≡ rest ++ reverse (o ∷ []) → Good s → AllTied (unsettled s p rest (act p t o s.world)) → Waited s →
    Waited (unsettled s p rest (act p t o s.world))
acted-by s p rest t o false n l e good tied h = waited-acted s p rest t o n l e good tied h
acted-by s p rest t (Op.End a held) true n l e good tied h = waited-ends s p a held rest l e h
acted-by s p rest t _ true n l e good tied h = absurd (cc)

waited-way : (s : Machine) (p : ℕ) (old rest : List Op) (d : Done) → Good s → p < length s.parties →
    stack s p ≡ rest ++ reverse old → Way s p old rest d → AllTied (unsettled s p rest d) → Waited s →
    Waited (unsettled s p rest d)
waited-way s p old rest d good l e (acted t o q z) tied h =
    rw z (acted-by s p rest t o (is_end o) refl l (subst (λ (os : List Op). stack s p ≡ rest ++ reverse os) q e) good
    (subst (λ (x : Done). AllTied (unsettled s p rest x)) z tied) h)
waited-way s p old rest d good l e (reacted o u a q z) tied h =
    rw z (waited-reacted s p rest o u a l (subst (λ (os : List Op). stack s p ≡ rest ++ reverse os) q e) good
    (subst (λ (x : Done). AllTied (unsettled s p rest x)) z tied) h)
waited-way s p old rest d good l e (called c q r n z) tied h =
    let f : _ = none_refused s.world s.parties (top (stack s p)) c n in
    rw z (waited-begun s p rest c f.1 l r (subst (λ (os : List Op). stack s p ≡ rest ++ reverse os) q e) good
    (subst (λ (x : Done). AllTied (unsettled s p rest x)) z tied) h)

waited-moves : (s : Machine) (p : ℕ) (old rest : List Op) (d : Done) → Good s → p < length s.parties →
    stack s p ≡ rest ++ reverse old → Way s p old rest d → Waited s → Waited (unsettled s p rest d)
waited-moves s p old rest d good l e w h = waited-way s p old rest d good l e w (tied-moves s p old rest d l e w h.tied)
    h

waited-start : (limit : ℕ) (kind : Kind) (n : ℕ) → Waited (start limit kind n)
waited-start limit kind n = record {
  awaits = λ g. subst (λ (x : Pend × Awaiting). Awaits (start limit kind n).world g x.0 x.1
      (marked (start limit kind n).world g x.1))
      (sym (let q : (pend g (idle n), awaiting g (idle n)) ≡ (none, nothing_awaited) = λ i. (
        pend-none g (idle n) (λ v. weigh_all-idle v n) i,
        awaiting-none g (idle n) (λ v. weigh_all-idle v n) i,
      ) in q)) (none_awaited limit kind g);
  held = λ g b. let no : false ≡ true = sym (ap (λ (t : Heard). t.asking) (heard-none g)) ∙ b in absurd (cc);
  tied = λ g q. subst (Tied g 0) (sym (idle-stack n q)) tt;
}
  where
    none_awaited : (limit : ℕ) (kind : Kind) (g : ℕ) →
        Awaits (start limit kind 0).world g none nothing_awaited (marked (start limit kind 0).world g nothing_awaited)
    none_awaited limit kind g = grind (arith, heard-none)

pub waited : (limit : ℕ) (kind : Kind) (n : ℕ) (ts : List Step) → Waited (run ts (start limit kind n))
waited limit kind n ts = along Waited waited-moves waited-ends ts (start limit kind n) (good-start limit kind n) (waited-start limit kind n)
