-- Where one party alone appends, what it was told of the length bounds the queue until it appends itself.
use Rattle.std.proofs.lemmas.Bool.Decides.{nat_tests}
use Rattle.std.proofs.Common.{◌≡◌, ℕ, ◌+◌, ◌≤◌, List, [], ◌∷◌, ◌++◌, length, Bool}
use Rattle.std.proofs.Common.{Option, Some, None, Result, Ok, Err, IfSome}
use Rattle.std.proofs.Common.{inl, inr, if◌then◌else◌, sym, refl, ap, ◌∙◌, subst, eq-eqb, length-append, arith}
use Rattle.queue_steps.specs.declared.errors.ForcePushError.TheVariants.{Closed as ClosedToForce, NoMemory as NoMemoryToForce}
use Rattle.queue_steps.specs.ClosableQueue.{ClosableQueue, appended, taken}
use Rattle.queue_steps.specs.Replies.{TurnsAway, Pushes, ForcePushes}
use Rattle.queue_steps.specs.Calls.{Call, Len, Answer, Pushed}
use Rattle.queue_steps.specs.Calls.{ForcePushed, LenIs, Acts}
use Rattle.queue_steps.specs.Bounded.{IsShape, count_at}
use Rattle.queue_laws.specs.Moments.{Moment, Begins, Does, Displaces, Arrives, Ends, Sight, Scene, Progress, AtSome, MayAnswer, MayEnd}
use Rattle.queue_laws.specs.Moments.{with_call, sees, Happens, Run}
use Rattle.queue_laws.specs.SingleSteps.{Step}
use Rattle.queue_laws.specs.BoundedSteps.{BoundedWorld, run, trace, new_ring, new_scene}
use Rattle.queue_laws.specs.FreePlaces.{who_appends, AppendsAlone, one_of, appended_by, ring_after, free_in, IsWithinPlaces}
use Rattle.queue_laws.specs.FreePlaces.{FreePlacesStay, SeenPlacesStay}
use Rattle.queue_steps.proofs.BoundedWords.{count_of_word}
use Rattle.queue_laws.proofs.BoundedStamps.{tail_count}
use Rattle.queue_laws.proofs.BoundedState.{Ghost, Tied, scene_of}
use Rattle.queue_laws.proofs.BoundedKnows.{length_is}
use Rattle.queue_laws.proofs.BoundedPuts.{Goes}
use Rattle.queue_laws.proofs.BoundedRuns.{runs, new_ghost, new_tied}

module _ {T : Type 0} where
  abbrev pub len : ClosableQueue T → ℕ
  len q = length q.items

  pub more : (q : ClosableQueue T) (x : T) → len (appended q x) ≡ len q + 1
  more q x = length-append q.items (x ∷ [])

  pub fewer : (q : ClosableQueue T) → len (taken q) ≤ len q
  fewer q = grind (arith, nat_tests)

  same : (q q' : ClosableQueue T) → q' ≡ q → len q' ≤ len q
  same q q' e = grind (arith, nat_tests)

  turned : (q q' : ClosableQueue T) → TurnsAway q q' → len q' ≤ len q
  turned q q' h2 = grind (arith, nat_tests)

  -- what an answer adds to the length at most
  abbrev pub adds : Answer T → ℕ
  adds (Pushed (Ok u)) = 1
  adds (ForcePushed (Ok o)) = 1
  adds _ = 0

  pushes : (q q' : ClosableQueue T) (x : T) (r : Result (Unit {0}) _) → Pushes q x r q' → len q' ≤ len q + adds (Pushed r)
  pushes q q' x r h4 = grind (arith, nat_tests, more, same, turned)

  forces : (q q' : ClosableQueue T) (x : T) (r : Result (Option T) _) → ForcePushes q x r q' → len q' ≤ len q + adds (ForcePushed r)
  forces q q' x (Ok None) (a, e) = grind (arith, nat_tests, more)
  forces q q' x (Ok (Some y)) (c, f, u, i, e) = let z = ap len e in let m = more (taken q) x in let l = fewer q in omega arith
  forces q q' x (Err (ClosedToForce y)) (t, s) = grind (arith, nat_tests)
  forces q q' x (Err (NoMemoryToForce y)) ((c, n, u, e), s) = grind (arith, nat_tests)

  pub acts : (q q' : ClosableQueue T) (call : Call T) (a : Answer T) → Acts q call a q' → len q' ≤ len q + adds a
  acts q q' call a h = grind (arith, nat_tests, pushes, forces, fewer, same)

  -- who is told a length was told that of the queue
  told_len : (q q' : ClosableQueue T) (call : Call T) (k : ℕ) → Acts q call (LenIs k) q' → (k ≡ len q) × (q' ≡ q)
  told_len q q' call k h = grind (arith, nat_tests)

  -- of a moment of which nobody else is the appender
  abbrev pub AppendsOwn : ℕ → Moment T → Type 0
  AppendsOwn p m = IfSome (who_appends m) (λ q. q ≡ p)

  pub adds_own : (p r : ℕ) (a : Answer T) → AppendsOwn p (Does r a) → adds a ≡ one_of p (who_appends (Does r a))
  adds_own p r a e = grind (arith, nat_tests)

  abbrev pub here : Scene T → ℕ
  here s = len s.sight.queue

  -- each of these sights was of a queue that was shorter than this by no more than j
  abbrev AllWithin : ℕ → ℕ → List (Sight T) → Type 0
  AllWithin n j [] = Unit {0}
  AllWithin n j (x ∷ xs) = (n ≤ len x.queue + j) × AllWithin n j xs

  all_within : (n n' j j' : ℕ) → n' + j ≤ n + j' → (xs : List (Sight T)) → AllWithin n j xs → AllWithin n' j' xs
  all_within n n' j j' le [] h = h
  all_within n n' j j' le (x ∷ xs) h = ((omega (arith, le, h.0)), all_within n n' j j' le xs h.1)

  -- what a call was told of the length, or has seen of it, is less than the queue's by no more than j
  abbrev Bounded : ℕ → ℕ → Progress T → Option (Answer T) → Type 0
  Bounded n j c (Some told) = (k : ℕ) → told ≡ LenIs k → n ≤ k + j
  Bounded n j c None = AllWithin n j c.seen

  abbrev BoundedBy : ℕ → ℕ → Option (Progress T) → Type 0
  BoundedBy n j None = Unit {0}
  BoundedBy n j (Some c) = Bounded n j c c.answer

  -- one more sight of a queue, which is longer than the last by no more than was appended
  sees_more : (x : Sight T) (n j j' : ℕ) → len x.queue + j ≤ n + j' → (c : Progress T) (a : Option (Answer T)) → Bounded n j c a
      → Bounded (len x.queue) j' (record c { seen = x ∷ c.seen }) a
  sees_more x n j j' le c a h = grind (arith, nat_tests, all_within)

  sees_on : (x : Sight T) (n j j' : ℕ) → j ≤ j' → len x.queue + j ≤ n + j' → (o : Option (Progress T)) → BoundedBy n j o
      → BoundedBy (len x.queue) j' (sees x o)
  sees_on x n j j' more le o h = grind (arith, nat_tests, more, sees_more)

  -- what holds of the call of p, if it is the same call as before and if it is another
  pub with_calls : (P : Option (Progress T) → Type 0) (calls : ℕ → Option (Progress T)) (r p : ℕ) (c : Option (Progress T))
      → P c → P (calls p) → P (with_call calls r c p)
  with_calls P calls r p c new old = grind (arith, nat_tests)

  abbrev IsLen : Answer T → Type 0
  IsLen (LenIs k) = Unit {0}
  IsLen _ = ⊥

  is_len : (a : Answer T) (k : ℕ) → a ≡ LenIs k → IsLen a
  is_len a k e = subst IsLen (sym e) tt

  abbrev Tells : ℕ → ℕ → Scene T → Type 0
  Tells p j s = BoundedBy (here s) j (s.calls p)

  begins : (p j : ℕ) (s s' : Scene T) (r : ℕ) (call : Call T) → Happens s (Begins r call) s' → Tells p j s → Tells p (j + 0) s'
  begins p j s s' r call h6 h = grind (arith, nat_tests)

  does : (p j : ℕ) (s s' : Scene T) (r : ℕ) (a : Answer T) → AppendsOwn p (Does r a) → Happens s (Does r a) s' → Tells p j s
      → Tells p (j + one_of p (who_appends (Does r a))) s'
  does p j s s' r a own (c, is, none, (q, did, beside, e)) h =
      let j' : ℕ = j + one_of p (who_appends (Does r a)) in
      let le = acts s.sight.queue q c.call a did in
      let o = adds_own p r a own in
      let x : Sight T = record s.sight { queue = q } in
      subst (Tells p j') (sym e)
      (with_calls (λ d. BoundedBy (len q) j' (sees x d)) s.calls r p (Some (record c { answer = Some a }))
      (λ k is_k. let t = told_len s.sight.queue q c.call k (grind (arith, nat_tests)) in
      let l = ap len t.1 in let m = t.0 in omega (arith, l, m))
      (sees_on x (here s) j j' (omega arith) (omega (arith, le, o)) (s.calls p) h))

  displaces : (p j : ℕ) (s s' : Scene T) (r : ℕ) (y : T) → Happens s (Displaces r y) s' → Tells p j s → Tells p (j + 0) s'
  displaces p j s s' r y (c, x, is, none, of, inc, full, unspent, at, first, e) h =
      let le = fewer s.sight.queue in let told = ForcePushed (Ok (Some y)) in
      let z : Sight T = record { queue = taken s.sight.queue; incoming = Some (r, x) } in
      subst (Tells p (j + 0)) (sym e)
      (with_calls (λ d. BoundedBy (len (taken s.sight.queue)) (j + 0) (sees z d)) s.calls r p (Some (record c { answer = Some told }))
      (λ k is_k. elim (is_len _ k is_k) [ ])
      (sees_on z (here s) j (j + 0) (omega arith) (omega (arith, le)) (s.calls p) h))

  arrives : (p j : ℕ) (s s' : Scene T) (r : ℕ) → AppendsOwn p (Arrives r) → Happens s (Arrives r) s' → Tells p j s
      → Tells p (j + one_of p (Some r)) s'
  arrives p j s s' r own (x, inc, e) h =
      let o : one_of p (Some r) ≡ 1 = ap (λ (b : Bool). if b then 1 else 0) (eq-eqb r p own) in
      let m = more s.sight.queue x in
      let z : Sight T = record { queue = appended s.sight.queue x; incoming = None } in
      subst (Tells p (j + one_of p (Some r))) (sym e)
      (sees_on z (here s) j (j + one_of p (Some r)) (omega arith) (omega (arith, o, m)) (s.calls p) h)

  ends : (p j : ℕ) (s s' : Scene T) (r : ℕ) (a : Answer T) → Happens s (Ends r a) s' → Tells p j s → Tells p (j + 0) s'
  ends p j s s' r a h6 h = grind (arith, nat_tests)

  -- what party p was told, or has seen, still bounds the queue, where nobody else appends
  happens : (p j : ℕ) (s s' : Scene T) (m : Moment T) → AppendsOwn p m → Happens s m s' → Tells p j s
      → Tells p (j + one_of p (who_appends m)) s'
  happens p j s s' (Begins r call) own e h = grind (arith, nat_tests)
  happens p j s s' (Does r a) own e h = does p j s s' r a own e h
  happens p j s s' (Displaces r y) own e h = displaces p j s s' r y e h
  happens p j s s' (Arrives r) own e h = arrives p j s s' r own e h
  happens p j s s' (Ends r a) own e h = grind (arith, nat_tests)

  runs_on : (p j : ℕ) (s s' : Scene T) (ms : List (Moment T)) → AppendsAlone p ms → Run s ms s'
      → Tells p j s → Tells p (j + appended_by p ms) s'
  runs_on p j s s' [] own e h = grind (arith, nat_tests)
  runs_on p j s s' (m ∷ ms) own (mid, first, rest) h = let r = runs_on p (j + one_of p (who_appends m)) mid s' ms own.1 rest (happens p j s mid m own.0 first h) in grind (arith, nat_tests, r)

  -- a moment makes the queue longer by no more than its party appends
  pub grows : (p : ℕ) (s s' : Scene T) (m : Moment T) → AppendsOwn p m → Happens s m s' → here s' ≤ here s + one_of p (who_appends m)
  grows p s s' m own h5 = grind (arith, nat_tests, acts, adds_own, fewer, more)

  pub run_grows : (p : ℕ) (s s' : Scene T) (ms : List (Moment T)) → AppendsAlone p ms → Run s ms s' → here s' ≤ here s + appended_by p ms
  run_grows p s s' [] own e = grind (arith, nat_tests)
  run_grows p s s' (m ∷ ms) own (mid, first, rest) = let r = run_grows p mid s' ms own.1 rest in grind (arith, nat_tests, r, grows)

  pub cut : (s s' : Scene T) (xs ys : List (Moment T)) → Run s (xs ++ ys) s' → (mid : Scene T) × Run s xs mid × Run mid ys s'
  cut s s' [] ys r = (s, refl, r)
  cut s s' (x ∷ xs) ys (mid, first, rest) = let z = cut mid s' xs ys rest in (z.0, (mid, first, z.1), z.2)

  pub alone_cut : (p : ℕ) (xs ys : List (Moment T)) → AppendsAlone p (xs ++ ys) → AppendsAlone p xs × AppendsAlone p ys
  alone_cut p [] ys h = (tt, h)
  alone_cut p (x ∷ xs) ys h = let z = alone_cut p xs ys h.1 in ((h.0, z.0), z.1)

  pub by_both : (p : ℕ) (xs ys : List (Moment T)) → appended_by p (xs ++ ys) ≡ appended_by p xs + appended_by p ys
  by_both p [] ys = omega arith
  by_both p (x ∷ xs) ys = let z = by_both p xs ys in omega (arith, z)

  -- a call that is told k has seen a queue of that length
  seen_so : (n j k : ℕ) (call : Call T) (xs : List (Sight T)) → AllWithin n j xs → AtSome (MayAnswer call (LenIs k)) xs → n ≤ k + j
  seen_so n j k call [] h z = elim z [ ]
  seen_so n j k call (x ∷ xs) h (inl at) = grind (arith, nat_tests)
  seen_so n j k call (x ∷ xs) h (inr later) = seen_so n j k call xs h.1 later

  told_so : (n j k : ℕ) (c : Progress T) (a : Option (Answer T)) → Bounded n j c a → MayEnd c a (LenIs k) → n ≤ k + j
  told_so n j k c a h at = grind (arith, nat_tests, seen_so)

  told_here : (p j k : ℕ) (s s' : Scene T) → Happens s (Ends p (LenIs k)) s' → Tells p j s → here s' ≤ k + j
  told_here p j k s s' h5 h = grind (arith, nat_tests, told_so)

  -- a party asked for the length, was told k, and is in no call then
  pub looks : (p k : ℕ) (s s' : Scene T) (during since : List (Moment T)) → AppendsAlone p during
      → Run s (Begins p Len ∷ during ++ Ends p (LenIs k) ∷ since) s'
      → (next : Scene T) × (here next ≤ k + appended_by p during) × (next.calls p ≡ None) × Run next since s'
  looks p k s s' during since own (asked, begun, rest) =
      let parts = cut asked s' during (Ends p (LenIs k) ∷ since) rest in
      let told : Scene T = parts.0 in let end = parts.2.1 in
      let at_first : Tells p 0 asked = subst (Tells p 0) (sym begun.1)
      (grind (arith, nat_tests)) in
      let tells = runs_on p 0 asked told during own parts.1 at_first in
      let le = told_here p (0 + appended_by p during) k told parts.2.0 end tells in (
        parts.2.0,
        (omega (arith, le)),
        grind (arith, nat_tests),
        parts.2.2,
      )

  -- from a call that asks for the length on
  bounds : (p k : ℕ) (s s' : Scene T) (during since : List (Moment T)) → AppendsAlone p (during ++ since)
      → Run s (Begins p Len ∷ during ++ Ends p (LenIs k) ∷ since) s' → here s' ≤ k + appended_by p (during ++ since)
  bounds p k s s' during since own run =
      let both = alone_cut p during since own in
      let look = looks p k s s' during since both.0 run in
      let told = look.1 in let more = run_grows p look.0 s' since both.1 look.3 in
      let sums = by_both p during since in omega (arith, told, more, sums)

module _ {T : Type 0} (n m : ℕ) (shape : IsShape n m) where
  -- a ring has as many free places as it has no items for
  pub free_is : (w : BoundedWorld T) (g : Ghost T) (calls : ℕ → Option (Progress T)) → Tied n m w g calls
      → free_in n m w + here (scene_of n m g calls) ≡ n
  free_is w g calls tied =
      let tail_is : count_at n m w.tail ≡ g.pushed = ap (count_at n m) tied.tail ∙ tail_count n m shape g.pushed g.shut in
      let head_is : count_at n m w.head ≡ g.popped = ap (count_at n m) tied.head ∙ count_of_word n m shape g.popped in
      let within = tied.base.within in let behind = tied.base.behind in let long = length_is n m g tied.base in omega arith

  -- where a new ring comes to by these steps, and a ring by more
  pub reached : (steps : List (Step T)) → Goes n m shape (new_ring n m) (new_ghost n m shape) (λ p. None) (trace n m steps (new_ring n m))
      (ring_after n m steps)
  reached steps = runs n m shape steps (new_ring n m) (new_ghost n m shape) (λ p. None) (new_tied n m shape)

  pub is_within : (steps : List (Step T)) → IsWithinPlaces {T = T} n m steps
  is_within steps =
      let r = reached steps in let w : BoundedWorld T = ring_after n m steps in
      let tail_is : count_at n m w.tail ≡ r.0.pushed = ap (count_at n m) r.3.tail ∙ tail_count n m shape r.0.pushed r.0.shut in
      let head_is : count_at n m w.head ≡ r.0.popped = ap (count_at n m) r.3.head ∙ count_of_word n m shape r.0.popped in
      let within = r.3.base.within in omega arith

  pub free_places_stay : (steps more : List (Step T)) → FreePlacesStay n m steps more
  free_places_stay steps more p own =
      let a = reached steps in let w : BoundedWorld T = ring_after n m steps in
      let b = runs n m shape more w a.0 a.1 a.3 in
      let grown = run_grows p (scene_of n m a.0 a.1) (scene_of n m b.0 b.1) (trace n m more w) own b.2 in
      let first = free_is w a.0 a.1 a.3 in let later = free_is (run n m more w) b.0 b.1 b.3 in omega (arith, grown, first, later)

  pub seen_places_stay : (steps : List (Step T)) → SeenPlacesStay n m steps
  seen_places_stay steps p k before during since is own =
      let r = reached steps in let last : Scene T = scene_of n m r.0 r.1 in
      let parts = cut (new_scene n m) last before (Begins p Len ∷ (during ++ (Ends p (LenIs k) ∷ since)))
      (grind (arith, nat_tests)) in
      let le = bounds p k parts.0 last during since own parts.2 in
      let free = free_is (ring_after n m steps) r.0 r.1 r.3 in omega (arith, le, free)
