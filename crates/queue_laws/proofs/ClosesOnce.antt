-- At most one close answers true: the one that closes the queue, if it was a close that closed it.
use Rattle.std.proofs.lemmas.Bool.Decides.{nat_tests}
use Rattle.std.proofs.Common.{◌≡◌, ◌⊎◌, ℕ, ◌≤◌, List, [], ◌∷◌, ◌++◌, Bool, true, Option, Some, None}
use Rattle.std.proofs.Common.{inl, inr, sym, refl, subst, arith}
use Rattle.queue_steps.specs.ClosableQueue.{ClosableQueue}
use Rattle.queue_steps.specs.Calls.{Call, Answer}
use Rattle.queue_steps.specs.Calls.{WasClosed, Acts}
use Rattle.queue_laws.specs.Moments.{Moment, Does, Ends, Sight, Scene, Progress, with_call, sees, Happens, Run}
use Rattle.queue_laws.specs.Moments.{AtSome, MayAnswer, MayEnd}
use Rattle.queue_laws.specs.Closing.{closings_in, ClosesOnce}
use Rattle.queue_laws.proofs.Closing.{IsShut, open_no_more, stays_closed}
use Rattle.queue_laws.proofs.FreePlaces.{cut}

module _ {T : Type 0} where
  -- the answer is that of the close that closed the queue
  abbrev IsTrue : Option (Answer T) → Type 0
  IsTrue (Some (WasClosed true)) = Unit {0}
  IsTrue _ = ⊥

  abbrev HasClosed : Option (Progress T) → Type 0
  HasClosed None = ⊥
  HasClosed (Some c) = IsTrue c.answer

  -- a close that changes nothing doesn't answer true
  pub unchanged : (q : ClosableQueue T) (call : Call T) → Acts q call (WasClosed true) q → ⊥
  unchanged q call d = grind (arith, nat_tests)

  seen_true : (call : Call T) (xs : List (Sight T)) → AtSome (MayAnswer call (WasClosed true)) xs → ⊥
  seen_true call [] at = at
  seen_true call (x ∷ xs) (inl here) = unchanged x.queue call here.0
  seen_true call (x ∷ xs) (inr later) = seen_true call xs later

  ends_true : (c : Progress T) (o : Option (Answer T)) → MayEnd c o (WasClosed true) → IsTrue o
  ends_true c o at = grind (arith, nat_tests, seen_true)

  -- before that close has ended: at most one call in progress is it, and where one is, the queue is closed
  record Before (s : Scene T) : Type 0 where
    shut : (p : ℕ) → HasClosed (s.calls p) → IsShut s.sight.queue
    one : (p q : ℕ) → HasClosed (s.calls p) → HasClosed (s.calls q) → p ≡ q

  -- after it
  record Past (s : Scene T) : Type 0 where
    shut : IsShut s.sight.queue
    none : (p : ℕ) → HasClosed (s.calls p) → ⊥

  -- who has closed the queue once a call has acted
  who : (s : Scene T) (r p : ℕ) (c : Progress T) (a : Answer T) (x : Sight T)
      → HasClosed (sees x (with_call s.calls r (Some (record c { answer = Some a })) p))
      → ((p ≡ r) × IsTrue (Some a)) ⊎ HasClosed (s.calls p)
  who s r p c a x h6 = grind (arith, nat_tests)

  -- a call begins, or ends
  fewer : (calls : ℕ → Option (Progress T)) (r p : ℕ) (o : Option (Progress T)) → (HasClosed o → ⊥) → HasClosed (with_call calls r o p)
      → HasClosed (calls p)
  fewer calls r p o isnt h = grind (arith, nat_tests)

  another : (calls : ℕ → Option (Progress T)) (r p : ℕ) → HasClosed (with_call calls r None p) → p ≡ r → ⊥
  another calls r p h e = grind (arith, nat_tests)

  before : (s s' : Scene T) (m : Moment T) → Happens s m s' → Before s → Before s'
  before s s' m h3 h = grind (arith, nat_tests)

  past : (s s' : Scene T) (m : Moment T) → Happens s m s' → Past s → Past s'
  past s s' m h3 h = grind (arith, nat_tests)

  -- the call of r ends that has closed the queue
  ended : (s s' : Scene T) (r : ℕ) → Happens s (Ends r (WasClosed true)) s' → HasClosed (s.calls r)
  ended s s' r h3 = grind (arith, nat_tests, ends_true)

  comes_past : (s s' : Scene T) (r : ℕ) → Happens s (Ends r (WasClosed true)) s' → Before s → Past s'
  comes_past s s' r (c, is, may, from, e) h =
      let it = ended s s' r (c, is, may, from, e) in subst Past (sym e) (grind (arith, nat_tests))

  runs_past : (s s' : Scene T) (ms : List (Moment T)) → Run s ms s' → Past s → closings_in ms ≡ 0
  runs_past s s' [] e h = refl
  runs_past s s' (Ends r (WasClosed true) ∷ ms) (mid, first, rest) h = elim (h.none r (ended s mid r first)) [ ]
  runs_past s s' (Ends r a ∷ ms) (mid, first, rest) h = runs_past mid s' ms rest (past s mid (Ends r a) first h)
  runs_past s s' (m ∷ ms) (mid, first, rest) h = runs_past mid s' ms rest (past s mid m first h)

  runs : (s s' : Scene T) (ms : List (Moment T)) → Run s ms s' → Before s → closings_in ms ≤ 1
  runs s s' [] e h = omega arith
  runs s s' (Ends r (WasClosed true) ∷ ms) (mid, first, rest) h =
      let z = runs_past mid s' ms rest (comes_past s mid r first h) in omega (arith, z)
  runs s s' (Ends r a ∷ ms) (mid, first, rest) h = runs mid s' ms rest (before s mid (Ends r a) first h)
  runs s s' (m ∷ ms) (mid, first, rest) h = runs mid s' ms rest (before s mid m first h)

  closed_by : (s s' : Scene T) (p : ℕ) (b : Bool) → Happens s (Does p (WasClosed b)) s' → IsShut s'.sight.queue
  closed_by s s' p b h4 = grind (arith, nat_tests)

  pub closes_once : (s s' : Scene T) (ms : List (Moment T)) → ((p : ℕ) → s.calls p ≡ None) → Run s ms s' → ClosesOnce ms
  closes_once s s' ms away run = record {
    once = runs s s' ms run (grind (arith, nat_tests));
    moments = λ p q b before between after is.
        let parts = cut s s' before (Does p (WasClosed b) ∷ (between ++ (Does q (WasClosed true) ∷ after)))
        (grind (arith, nat_tests)) in
        open_no_more parts.2.0 s' q (WasClosed true) between after (closed_by parts.0 parts.2.0 p b parts.2.1) parts.2.2 tt;
    calls = λ b at. (stays_closed s s' ms away run).calls (WasClosed b) (WasClosed true) at tt tt;
  }
