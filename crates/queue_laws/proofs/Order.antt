-- Items leave in the order in which they were appended: what was appended is what has left and what the queue still has.
use Rattle.std.proofs.lemmas.Bool.Decides.{nat_tests}
use Rattle.std.proofs.Common.{◌≡◌, ℕ, List, [], ◌∷◌, ◌++◌, Option, Some, None, Result, Ok, Err}
use Rattle.std.proofs.Common.{length, arith, inl, inr, sym, refl, ap, ◌∙◌}
use Rattle.std.proofs.lemmas.List.{append-nil, append_assoc}
use Rattle.queue_steps.specs.declared.errors.PushError.TheVariants.{Full, Closed, NoMemory}
use Rattle.queue_steps.specs.declared.errors.ForcePushError.TheVariants.{Closed as ClosedToForce, NoMemory as NoMemoryToForce}
use Rattle.queue_steps.specs.declared.errors.PopError.TheVariants.{Empty, Closed as ClosedToPop}
use Rattle.queue_steps.specs.ClosableQueue.{ClosableQueue}
use Rattle.queue_steps.specs.Replies.{TurnsAway, Pushes, ForcePushes, Pops}
use Rattle.queue_steps.specs.Calls.{Call, ForcePush, Answer, Pushed}
use Rattle.queue_steps.specs.Calls.{ForcePushed, Popped, Acts}
use Rattle.queue_laws.specs.Moments.{Moment, Begins, Does, Displaces, Arrives, Ends, Scene, Progress, with_call, Happens}
use Rattle.queue_laws.specs.Moments.{Run}
use Rattle.queue_laws.specs.BoundedSteps.{with_at}
use Rattle.queue_laws.specs.FreePlaces.{who_appends}
use Rattle.queue_laws.specs.Order.{brought_by, brought_after, of_party, appended_from, appended_in, left_at, left_in, LeaveInOrder}
use Rattle.queue_steps.specs.Bounded.{IsShape}
use Rattle.queue_laws.specs.Traces.{on_slot, on_ring, on_chain, length_on_slot, length_on_ring, length_on_chain}
use Rattle.queue_laws.specs.SingleSteps.{Step, new_slot, new_scene as new_slot_scene}
use Rattle.queue_laws.specs.UnboundedSteps.{Step as ChainStep, new_scene as new_chain_scene}
use Rattle.queue_laws.specs.BoundedSteps.{new_scene as new_ring_scene}
use Rattle.queue_laws.proofs.SingleRuns.{runs as runs_on_slot, new_tied}
use Rattle.queue_laws.proofs.UnboundedRuns.{a_chain_is_a_queue}
use Rattle.queue_laws.proofs.BoundedRuns.{a_ring_is_a_queue}

module _ {T : Type 0} where
  -- what holds of the call of r as it is now, and of the others as they were
  pub at_party : (P : ℕ → Option (Progress T) → Type 0) (calls : ℕ → Option (Progress T)) (r p : ℕ) (c : Option (Progress T))
      → P r c → P p (calls p) → P p (with_call calls r c p)
  at_party P calls r p c new old = grind (arith, nat_tests)

  -- a call that has begun has brought its item
  abbrev HasBrought : List T → Option (Progress T) → Type 0
  HasBrought xs None = Unit {0}
  HasBrought xs (Some c) = xs ≡ brought_by c.call

  abbrev IsOf : T → Option (Progress T) → Type 0
  IsOf x None = ⊥
  IsOf x (Some c) = c.call ≡ ForcePush x

  -- an item on its way in is that of its party's call
  abbrev ComesFrom : (ℕ → Option (Progress T)) → Option (ℕ × T) → Type 0
  ComesFrom calls None = Unit {0}
  ComesFrom calls (Some i) = IsOf i.1 (calls i.0)

  record Brings (brought : ℕ → List T) (s : Scene T) : Type 0 where
    calls : (p : ℕ) → HasBrought (brought p) (s.calls p)
    coming : ComesFrom s.calls s.sight.incoming

  -- An item that is appended comes to the end, and one that leaves was the first.
  abbrev items : ClosableQueue T → List T
  items q = q.items

  unchanged : (q q' : ClosableQueue T) → q' ≡ q → q.items ++ [] ≡ q'.items
  unchanged q q' e = grind (arith, nat_tests, append-nil)

  turned : (q q' : ClosableQueue T) → TurnsAway q q' → q.items ++ [] ≡ q'.items
  turned q q' (inl (c, e)) = unchanged q q' e
  turned q q' (inr (c, s, e)) = append-nil q.items ∙ sym (ap items e)

  pushed : (q q' : ClosableQueue T) (r : ℕ) (brought : ℕ → List T) (x : T) (a : Result (Unit {0}) _) → brought r ≡ x ∷ []
      → Pushes q x a q' → q.items ++ of_party brought (who_appends (Does r (Pushed a))) ≡ q'.items
  pushed q q' r brought x (Ok u) is (may, e) = grind (arith, nat_tests)
  pushed q q' r brought x (Err (Full y)) is (c, f, s, e) = unchanged q q' e
  pushed q q' r brought x (Err (Closed y)) is (t, h, s) = turned q q' t
  pushed q q' r brought x (Err (NoMemory y)) is ((c, n, u, e), s) = unchanged q q' e

  forced : (q q' : ClosableQueue T) (r : ℕ) (brought : ℕ → List T) (x : T) (a : Result (Option T) _) → brought r ≡ x ∷ []
      → ForcePushes q x a q'
      → q.items ++ of_party brought (who_appends (Does r (ForcePushed a))) ≡ left_at (Does r (ForcePushed a)) ++ q'.items
  forced q q' r brought x (Ok None) is (may, e) = grind (arith, nat_tests)
  forced q q' r brought x (Ok (Some y)) is (c, f, u, first, e) = grind (arith, nat_tests)
  forced q q' r brought x (Err (ClosedToForce y)) is (t, s) = turned q q' t
  forced q q' r brought x (Err (NoMemoryToForce y)) is ((c, n, u, e), s) = unchanged q q' e

  popped : (q q' : ClosableQueue T) (r : ℕ) (a : Result T _) → Pops q a q' → q.items ++ [] ≡ left_at (Does r (Popped a)) ++ q'.items
  popped q q' r (Ok x) (first, e) = grind (arith, nat_tests, append-nil)
  popped q q' r (Err Empty) (i, c, e) = unchanged q q' e
  popped q q' r (Err ClosedToPop) (i, c, e) = unchanged q q' e

  acts : (q q' : ClosableQueue T) (r : ℕ) (brought : ℕ → List T) (call : Call T) (a : Answer T) → brought r ≡ brought_by call
      → Acts q call a q' → q.items ++ of_party brought (who_appends (Does r a)) ≡ left_at (Does r a) ++ q'.items
  acts q q' r brought call a is h = grind (arith, nat_tests, pushed, forced, popped, append-nil, unchanged)

  abbrev here : Scene T → List T
  here s = s.sight.queue.items

  moves : (brought : ℕ → List T) (s s' : Scene T) (m : Moment T) → Happens s m s' → Brings brought s
      → here s ++ of_party brought (who_appends m) ≡ left_at m ++ here s'
  moves brought s s' (Begins r call) (none, e) h = append-nil (here s) ∙ sym (ap here e)
  moves brought s s' (Does r a) (c, is, none, (q, did, beside, e)) h = grind (arith, nat_tests, acts)
  moves brought s s' (Displaces r y) (c, x, is, none, of, inc, full, unspent, at, first, e) h = grind (arith, nat_tests, append-nil)
  moves brought s s' (Arrives r) (x, inc, e) h = grind (arith, nat_tests)
  moves brought s s' (Ends r a) (c, is, may, from, e) h = append-nil (here s) ∙ sym (ap here e)

  begins : (brought : ℕ → List T) (s s' : Scene T) (r : ℕ) (call : Call T) → Happens s (Begins r call) s' → Brings brought s
      → Brings (with_at brought r (brought_by call)) s'
  begins brought s s' r call h5 h = grind (arith, nat_tests)

  happens : (brought : ℕ → List T) (s s' : Scene T) (m : Moment T) → Happens s m s' → Brings brought s → Brings (brought_after brought m) s'
  happens brought s s' m e h = grind (arith, nat_tests)

  runs : (brought : ℕ → List T) (s s' : Scene T) (ms : List (Moment T)) → Run s ms s' → Brings brought s
      → here s ++ appended_from brought ms ≡ left_in ms ++ here s'
  runs brought s s' [] e h = append-nil (here s) ∙ sym (ap here e)
  runs brought s s' (m ∷ ms) (mid, first, rest) h = let r = runs (brought_after brought m) mid s' ms rest (happens brought s mid m first h) in grind (arith, nat_tests, r, happens, moves, append_assoc)

  -- from a queue without items on which nobody calls
  pub leave_in_order : (s s' : Scene T) (ms : List (Moment T)) (k : ℕ) → here s ≡ [] → s.sight.incoming ≡ None
      → ((p : ℕ) → s.calls p ≡ None) → Run s ms s' → length (here s') ≡ k → LeaveInOrder ms k
  leave_in_order s s' ms k empty none away run are = record {
    others = here s';
    order = ap (λ (ys : List T). ys ++ appended_in ms) (sym empty) ∙ runs (λ p. []) s s' ms run (grind (arith, nat_tests));
    are = are;
  }

  pub on_a_slot : (steps : List (Step T)) → LeaveInOrder (on_slot steps) (length_on_slot steps)
  on_a_slot steps =
      let r = runs_on_slot steps new_slot new_slot_scene new_tied in
      leave_in_order new_slot_scene r.0 (on_slot steps) (length_on_slot steps) refl refl (λ p. refl) r.1
      (grind (arith, nat_tests))

  pub on_a_chain : (steps : List (ChainStep T)) → LeaveInOrder (on_chain steps) (length_on_chain steps)
  on_a_chain steps =
      let r = a_chain_is_a_queue steps in
      let long = ap (λ (q : ClosableQueue T). length q.items) r.queue in let held = r.rest.held in
      leave_in_order new_chain_scene r.last (on_chain steps) (length_on_chain steps) refl refl (λ p. refl)
      r.is_run (omega (arith, long, held))

  pub on_a_ring : (n m : ℕ) → IsShape n m → (steps : List (Step T)) → LeaveInOrder (on_ring n m steps) (length_on_ring n m steps)
  on_a_ring n m shape steps =
      let r = a_ring_is_a_queue n m shape steps in let long = r.items in
      leave_in_order (new_ring_scene n m) r.last (on_ring n m steps) (length_on_ring n m steps) refl refl (λ p. refl) r.is_run
      (omega (arith, long))
