-- Where one party alone appends, a push of it is refused full only once it has filled the places that were free. n is
-- the number of places.
use Rattle.std.proofs.lemmas.Bool.Decides.{nat_tests}
use Rattle.std.proofs.Common.{◌≡◌, ℕ, ◌+◌, ◌≤◌, List, [], ◌∷◌, ◌++◌, Bool, Option, Some, None, Result, Err}
use Rattle.std.proofs.Common.{inl, inr, if◌then◌else◌, sym, refl, ap, ◌∙◌, subst, eq-eqb, arith}
use Rattle.queue_steps.specs.declared.errors.PushError.TheVariants.{Full}
use Rattle.queue_steps.specs.ClosableQueue.{ClosableQueue, IsFull, appended}
use Rattle.queue_steps.specs.Replies.{TurnsAway, Pushes}
use Rattle.queue_steps.specs.Calls.{Call, Push, Len, Answer, Pushed}
use Rattle.queue_steps.specs.Calls.{LenIs, Acts}
use Rattle.queue_steps.specs.Bounded.{IsShape}
use Rattle.queue_laws.specs.Moments.{Moment, Begins, Does, Displaces, Arrives, Ends, Sight, Scene, Progress, AtSome, MayAnswer, MayEnd}
use Rattle.queue_laws.specs.Moments.{sees, Happens, Run}
use Rattle.queue_laws.specs.SingleSteps.{Step}
use Rattle.queue_laws.specs.BoundedSteps.{BoundedWorld, run, new_scene}
use Rattle.queue_laws.specs.FreePlaces.{who_appends, AppendsAlone, one_of, appended_by, ring_after, FreePlacesAreFilled}
use Rattle.queue_laws.specs.FreePlaces.{SeenPlacesAreFilled}
use Rattle.queue_laws.proofs.BoundedState.{scene_of}
use Rattle.queue_laws.proofs.BoundedRuns.{runs}
use Rattle.queue_laws.proofs.FreePlaces.{len, more, acts, adds_own, AppendsOwn, here, with_calls, run_grows, cut, alone_cut, by_both}
use Rattle.queue_laws.proofs.FreePlaces.{looks, free_is, reached}
use Rattle.queue_laws.proofs.PushesInARow.{run_stays_in_call, fewer_appended}

module _ {T : Type 0} where
  abbrev room : ClosableQueue T → Option ℕ
  room q = q.capacity

  -- no call changes the capacity
  turned : (q q' : ClosableQueue T) → TurnsAway q q' → room q' ≡ room q
  turned q q' h2 = grind (arith, nat_tests)

  pushes : (q q' : ClosableQueue T) (x : T) (r : Result (Unit {0}) _) → Pushes q x r q' → room q' ≡ room q
  pushes q q' x r h4 = grind (arith, nat_tests)

  keeps_room : (q q' : ClosableQueue T) (call : Call T) (a : Answer T) → Acts q call a q' → room q' ≡ room q
  keeps_room q q' call a h = grind (arith, nat_tests)

  abbrev room_in : Scene T → Option ℕ
  room_in s = room s.sight.queue

  happens_keeps : (s s' : Scene T) (m : Moment T) → Happens s m s' → room_in s' ≡ room_in s
  happens_keeps s s' m h3 = grind (arith, nat_tests)

  run_keeps : (s s' : Scene T) (ms : List (Moment T)) → Run s ms s' → room_in s' ≡ room_in s
  run_keeps s s' [] e = ap room_in e
  run_keeps s s' (m ∷ ms) (mid, first, rest) = run_keeps mid s' ms rest ∙ happens_keeps s mid m first

  -- who is told that the queue is full was told so of a full one
  told_full : (q q' : ClosableQueue T) (call : Call T) (x : T) → Acts q call (Pushed (Err (Full x))) q' → IsFull q
  told_full q q' call x h = grind (arith, nat_tests)

module _ {T : Type 0} (n : ℕ) where
  -- it has n places, and no more items than b
  abbrev Short : ℕ → Sight T → Type 0
  Short b x = (room x.queue ≡ Some n) × (len x.queue ≤ b)

  short_on : (b b' : ℕ) → b ≤ b' → (x : Sight T) → Short b x → Short b' x
  short_on b b' le x h = grind (arith, nat_tests)

  abbrev AllShort : ℕ → List (Sight T) → Type 0
  AllShort b [] = Unit {0}
  AllShort b (x ∷ xs) = Short b x × AllShort b xs

  all_on : (b b' : ℕ) → b ≤ b' → (xs : List (Sight T)) → AllShort b xs → AllShort b' xs
  all_on b b' le [] h = h
  all_on b b' le (x ∷ xs) h = (short_on b b' le x h.0, all_on b b' le xs h.1)

  -- a call has seen no more items than b, and was told that the queue is full only if b fills it
  abbrev Seen : ℕ → Progress T → Option (Answer T) → Type 0
  Seen b c (Some told) = (x : T) → told ≡ Pushed (Err (Full x)) → n ≤ b
  Seen b c None = AllShort b c.seen

  abbrev SeenBy : ℕ → Option (Progress T) → Type 0
  SeenBy b None = Unit {0}
  SeenBy b (Some c) = Seen b c c.answer

  -- one more sight
  seen_more : (x : Sight T) (b b' : ℕ) → b ≤ b' → Short b' x → (o : Option (Progress T)) → SeenBy b o → SeenBy b' (sees x o)
  seen_more x b b' le short None h = tt
  seen_more x b b' le short (Some c) h = by_answer c.answer h
    where
      by_answer : (a : Option (Answer T)) → Seen b c a → Seen b' (record c { seen = x ∷ c.seen }) a
      by_answer a h = grind (arith, nat_tests, all_on)

  full_is : (q : ClosableQueue T) → room q ≡ Some n → IsFull q → len q ≡ n
  full_is q is full = grind (arith, nat_tests)

  -- the queue is no longer than b, and of no longer one party p was told or has seen
  abbrev Within : ℕ → ℕ → Scene T → Type 0
  Within p b s = Short b s.sight × SeenBy b (s.calls p)

  begins : (p b : ℕ) (s s' : Scene T) (r : ℕ) (call : Call T) → Happens s (Begins r call) s' → Within p b s → Within p (b + 0) s'
  begins p b s s' r call h6 h = grind (arith, nat_tests)

  does : (p b : ℕ) (s s' : Scene T) (r : ℕ) (a : Answer T) → AppendsOwn p (Does r a) → Happens s (Does r a) s' → Within p b s
      → Within p (b + one_of p (who_appends (Does r a))) s'
  does p b s s' r a own h7 h = grind (arith, nat_tests, acts, adds_own, keeps_room, with_calls, full_is, told_full, seen_more)

  displaces : (p b : ℕ) (s s' : Scene T) (r : ℕ) (y : T) → Happens s (Displaces r y) s' → Within p b s → Within p (b + 0) s'
  displaces p b s s' r y h6 h = grind (arith, nat_tests)

  arrives : (p b : ℕ) (s s' : Scene T) (r : ℕ) → AppendsOwn {T = T} p (Arrives r) → Happens s (Arrives r) s' → Within p b s
      → Within p (b + one_of p (Some r)) s'
  arrives p b s s' r own (x, inc, e) h =
      let b' : ℕ = b + one_of p (Some r) in
      let o : one_of p (Some r) ≡ 1 = ap (λ (c : Bool). if c then 1 else 0) (eq-eqb r p own) in
      let m = more s.sight.queue x in let l = h.0.1 in
      let z : Sight T = record { queue = appended s.sight.queue x; incoming = None } in
      let short : Short b' z = (h.0.0, (omega (arith, o, m, l))) in
      subst (Within p b') (sym e) (short, seen_more z b b' (omega arith) short (s.calls p) h.1)

  ends : (p b : ℕ) (s s' : Scene T) (r : ℕ) (a : Answer T) → Happens s (Ends r a) s' → Within p b s → Within p (b + 0) s'
  ends p b s s' r a h6 h = grind (arith, nat_tests)

  happens : (p b : ℕ) (s s' : Scene T) (m : Moment T) → AppendsOwn p m → Happens s m s' → Within p b s
      → Within p (b + one_of p (who_appends m)) s'
  happens p b s s' (Begins r call) own e h = grind (arith, nat_tests)
  happens p b s s' (Does r a) own e h = does p b s s' r a own e h
  happens p b s s' (Displaces r y) own e h = grind (arith, nat_tests)
  happens p b s s' (Arrives r) own e h = arrives p b s s' r own e h
  happens p b s s' (Ends r a) own e h = grind (arith, nat_tests)

  runs_on : (p b : ℕ) (s s' : Scene T) (ms : List (Moment T)) → AppendsAlone p ms → Run s ms s' → Within p b s
      → Within p (b + appended_by p ms) s'
  runs_on p b s s' [] own e h = grind (arith, nat_tests)
  runs_on p b s s' (m ∷ ms) own (mid, first, rest) h = let r = runs_on p (b + one_of p (who_appends m)) mid s' ms own.1 rest (happens p b s mid m own.0 first h) in grind (arith, nat_tests, r)

  -- a call that is told that the queue is full has seen a full one
  seen_full : (b : ℕ) (call : Call T) (x : T) (xs : List (Sight T)) → AllShort b xs
      → AtSome (MayAnswer call (Pushed (Err (Full x)))) xs → n ≤ b
  seen_full b call x [] h z = elim z [ ]
  seen_full b call x (s ∷ ss) h (inl at) = grind (arith, nat_tests)
  seen_full b call x (s ∷ ss) h (inr later) = seen_full b call x ss h.1 later

  refused : (p b : ℕ) (x : T) (s s' : Scene T) → Happens s (Ends p (Pushed (Err (Full x)))) s' → Within p b s → n ≤ b
  refused p b x s s' (c, is, may, from, e) h = by_answer c.answer (subst (SeenBy b) is h.1) may
    where
      by_answer : (a : Option (Answer T)) → Seen b c a → MayEnd c a (Pushed (Err (Full x))) → n ≤ b
      by_answer a h at = grind (arith, nat_tests, seen_full)

  -- from where p has no call in progress
  fills : (p b : ℕ) (x : T) (s s' : Scene T) (during after : List (Moment T)) → AppendsAlone p during
      → Run s (during ++ (Ends p (Pushed (Err (Full x))) ∷ after)) s' → Within p b s → n ≤ b + appended_by p during
  fills p b x s s' during after own run h =
      let parts = cut s s' during (Ends p (Pushed (Err (Full x))) ∷ after) run in
      refused p (b + appended_by p during) x parts.0 parts.2.0 parts.2.1 (runs_on p b s parts.0 during own parts.1 h)

  -- a push that p begins after this
  fills_later : (p : ℕ) (x y : T) (s s' : Scene T) (since during after : List (Moment T)) → room_in s ≡ Some n
      → AppendsAlone p (since ++ during)
      → Run s (since ++ (Begins p (Push x) ∷ (during ++ (Ends p (Pushed (Err (Full y))) ∷ after)))) s'
      → n ≤ here s + appended_by p (since ++ during)
  fills_later p x y s s' since during after is own run =
      let both = alone_cut p since during own in
      let parts = cut s s' since (Begins p (Push x) ∷ (during ++ (Ends p (Pushed (Err (Full y))) ∷ after))) run in
      let at : Scene T = parts.0 in let next : Scene T = parts.2.0 in let begun = parts.2.1 in
      let b : ℕ = here s + appended_by p since in
      let short : Short b at.sight = (run_keeps s at since parts.1 ∙ is, run_grows p s at since both.0 parts.1) in
      let within : Within p b next = subst (Within p b) (sym begun.1)
      (short, grind (arith, nat_tests)) in
      let le = fills p b y next s' during after both.1 parts.2.2 within in
      let sums = by_both p since during in omega (arith, le, sums)

  -- a push of p that comes to its end after p was told the length k
  fills_seen : (p k : ℕ) (x : T) (s s' : Scene T) (during since after : List (Moment T)) → room_in s' ≡ Some n
      → AppendsAlone p (during ++ since)
      → Run s (Begins p Len ∷ during ++ Ends p (LenIs k) ∷ (since ++ (Ends p (Pushed (Err (Full x))) ∷ after))) s'
      → n ≤ k + appended_by p (during ++ since)
  fills_seen p k x s s' during since after is own run =
      let both = alone_cut p during since own in
      let rest : List (Moment T) = since ++ (Ends p (Pushed (Err (Full x))) ∷ after) in
      let look = looks p k s s' during rest both.0 run in
      let b : ℕ = k + appended_by p during in
      let short : Short b look.0.sight = (sym (run_keeps look.0 s' rest look.3) ∙ is, look.1) in
      let within : Within p b look.0 = (short, subst (SeenBy b) (sym look.2) tt) in
      let le = fills p b x look.0 s' since after both.1 look.3 within in
      let sums = by_both p during since in omega (arith, le, sums)

module _ {T : Type 0} (n m : ℕ) (shape : IsShape n m) where
  pub free_places_are_filled : (steps more : List (Step T)) → FreePlacesAreFilled n m steps more
  free_places_are_filled steps more p x y since during after is own =
      let a = reached n m shape steps in let w : BoundedWorld T = ring_after n m steps in
      let b = runs n m shape more w a.0 a.1 a.3 in
      let first : Scene T = scene_of n m a.0 a.1 in let last : Scene T = scene_of n m b.0 b.1 in
      let le = fills_later n p x y first last since during after refl own (grind (arith, nat_tests)) in
      let free = free_is n m shape w a.0 a.1 a.3 in omega (arith, le, free)

  pub seen_places_are_filled : (steps : List (Step T)) → SeenPlacesAreFilled n m steps
  seen_places_are_filled steps p k x before during since after is own =
      let r = reached n m shape steps in
      let first : Scene T = new_scene n m in let last : Scene T = scene_of n m r.0 r.1 in
      let rest : List (Moment T) = since ++ (Ends p (Pushed (Err (Full x))) ∷ after) in
      let parts = cut first last before (Begins p Len ∷ (during ++ (Ends p (LenIs k) ∷ rest)))
      (grind (arith, nat_tests)) in
      let le = fills_seen n p k x parts.0 last during since after refl own parts.2 in
      let in_call = run_stays_in_call first parts.0 before parts.1 tt in
      let less = fewer_appended p k x parts.0 last during since after in_call own parts.2 in (le, (omega (arith, le, less)))
