-- What a queue never ceases to be once it is so, as closed: whose answer tells that it is so, and what calls that begin
-- later are not answered.
use Rattle.std.proofs.lemmas.Bool.Decides.{nat_tests}
use Rattle.std.proofs.Common.{arith}
use Rattle.std.proofs.Common.{◌≡◌, ℕ, List, [], ◌∷◌, ◌++◌, Option, Some, None, Ok, inl, inr, refl, sym, subst}
use Rattle.queue_steps.specs.ClosableQueue.{ClosableQueue, appended, taken}
use Rattle.queue_steps.specs.Calls.{Call, Answer, ForcePushed, Acts}
use Rattle.queue_laws.specs.Moments.{Moment, Begins, Does, Displaces, Arrives, Ends, Sight, Scene, Progress, with_call, sees, Happens, Run}
use Rattle.queue_laws.specs.Moments.{AtSome, MayAnswer, MayBeside, MayEnd, WasOpenAndFull}
use Rattle.queue_laws.proofs.FreePlaces.{cut}
use Rattle.queue_laws.proofs.Order.{at_party}

-- how a queue is from some moment on, which answers tell that it is so, and which are not given then
pub record Lasts (T : Type 0) : Type 1 where
  pub Is : Sight T → Type 0
  pub Tells : Answer T → Type 0
  pub Never : Answer T → Type 0
  pub lasts : (s s' : Scene T) (m : Moment T) → Happens s m s' → Is s.sight → Is s'.sight
  pub tells : (x : Sight T) (q : ClosableQueue T) (call : Call T) (a : Answer T) → Acts x.queue call a q → MayBeside x.incoming a
      → Tells a → Is (record x { queue = q })
  pub tells_none : (y : T) → Tells (ForcePushed (Ok (Some y))) → ⊥
  pub never : (x : Sight T) (q : ClosableQueue T) (call : Call T) (a : Answer T) → Acts x.queue call a q → Is x → Never a → ⊥
  pub not_open : (x : Sight T) → Is x → WasOpenAndFull x → ⊥

module _ {T : Type 0} (l : Lasts T) where
  -- It is so, if it was at a moment that the call saw, or if the call's answer tells so.
  abbrev SeenSo : Type 0 → List (Sight T) → Type 0
  SeenSo now [] = Unit {0}
  SeenSo now (x ∷ xs) = (l.Is x → now) × SeenSo now xs

  abbrev ToldSo : Type 0 → Option (Answer T) → Type 0
  ToldSo now None = Unit {0}
  ToldSo now (Some a) = l.Tells a → now

  abbrev KnownSo : Type 0 → Option (Progress T) → Type 0
  KnownSo now None = Unit {0}
  KnownSo now (Some c) = SeenSo now c.seen × ToldSo now c.answer

  seen_on : (now next : Type 0) → (now → next) → (xs : List (Sight T)) → SeenSo now xs → SeenSo next xs
  seen_on now next on [] h = tt
  seen_on now next on (x ∷ xs) h = ((λ is. on (h.0 is)), seen_on now next on xs h.1)

  told_on : (now next : Type 0) → (now → next) → (a : Option (Answer T)) → ToldSo now a → ToldSo next a
  told_on now next on a h = grind (arith, nat_tests)

  -- one more sight, of the queue as it is then
  known_more : (now : Type 0) (x : Sight T) → (now → l.Is x) → (o : Option (Progress T)) → KnownSo now o → KnownSo (l.Is x) (sees x o)
  known_more now x on None h = tt
  known_more now x on (Some c) h = (((λ is. is), seen_on now (l.Is x) on c.seen h.0), told_on now (l.Is x) on c.answer h.1)

  abbrev Known : Scene T → Type 0
  Known s = (p : ℕ) → KnownSo (l.Is s.sight) (s.calls p)

  -- a call acts, and sees what it has made of the queue
  does : (s : Scene T) (r : ℕ) (c : Progress T) (a : Answer T) (x : Sight T) → (l.Is s.sight → l.Is x) → s.calls r ≡ Some c
      → (l.Tells a → l.Is x) → Known s → (p : ℕ) → KnownSo (l.Is x) (sees x (with_call s.calls r (Some (record c { answer = Some a })) p))
  does s r c a x on is tells h p =
      at_party (λ q d. KnownSo (l.Is x) (sees x d)) s.calls r p (Some (record c { answer = Some a }))
      (((λ is. is), seen_on (l.Is s.sight) (l.Is x) on c.seen (subst (KnownSo (l.Is s.sight)) is (h r)).0), tells)
      (known_more (l.Is s.sight) x on (s.calls p) (h p))

  happens : (s s' : Scene T) (m : Moment T) → Happens s m s' → Known s → Known s'
  happens s s' (Begins r call) (none, e) h = grind (arith, nat_tests)
  happens s s' (Does r a) (c, is, none, (q, did, beside, e)) h =
      let x : Sight T = record s.sight { queue = q } in
      let on : l.Is s.sight → l.Is x = λ so. l.lasts s _ (Does r a) (c, is, none, (q, did, beside, refl)) so in
      subst Known (sym e) (does s r c a x on is (λ tells. l.tells s.sight q c.call a did beside tells) h)
  happens s s' (Displaces r y) (c, x, is, none, of, inc, full, unspent, at, first, e) h =
      let z : Sight T = record { queue = taken s.sight.queue; incoming = Some (r, x) } in
      let on : l.Is s.sight → l.Is z =
      λ so. l.lasts s _ (Displaces r y) (c, x, is, none, of, inc, full, unspent, at, first, refl) so in
      subst Known (sym e) (does s r c (ForcePushed (Ok (Some y))) z on is (λ tells. elim (l.tells_none y tells) [ ]) h)
  happens s s' (Arrives r) (x, inc, e) h =
      let z : Sight T = record { queue = appended s.sight.queue x; incoming = None } in
      let on : l.Is s.sight → l.Is z = λ so. l.lasts s _ (Arrives r) (x, inc, refl) so in
      subst Known (sym e) (λ p. known_more (l.Is s.sight) z on (s.calls p) (h p))
  happens s s' (Ends r a) (c, is, may, from, e) h = grind (arith, nat_tests)

  runs : (s s' : Scene T) (ms : List (Moment T)) → Run s ms s' → Known s → Known s'
  runs s s' [] e h = subst Known (sym e) h
  runs s s' (m ∷ ms) (mid, first, rest) h = runs mid s' ms rest (happens s mid m first h)

  -- Where a call's answer tells so, it is so.
  seen_it : (now : Type 0) (call : Call T) (a : Answer T) (xs : List (Sight T)) → l.Tells a → SeenSo now xs
      → AtSome (MayAnswer call a) xs → now
  seen_it now call a [] tells h at = elim at [ ]
  seen_it now call a (x ∷ xs) tells h (inl here) = grind (arith, nat_tests)
  seen_it now call a (x ∷ xs) tells h (inr later) = seen_it now call a xs tells h.1 later

  told_it : (now : Type 0) (c : Progress T) (o : Option (Answer T)) (a : Answer T) → l.Tells a → SeenSo now c.seen → ToldSo now o
      → MayEnd c o a → now
  told_it now c (Some b) a tells seen told e = told (subst l.Tells (sym e) tells)
  told_it now c None a tells seen told at = seen_it now c.call a c.seen tells seen at

  pub is_so : (s s' : Scene T) (p : ℕ) (a : Answer T) → l.Tells a → Known s → Happens s (Ends p a) s' → l.Is s'.sight
  is_so s s' p a tells h h6 = grind (arith, nat_tests, told_it)

  pub stays_so : (s s' : Scene T) (ms : List (Moment T)) → Run s ms s' → l.Is s.sight → l.Is s'.sight
  stays_so s s' [] e h = grind (arith, nat_tests)
  stays_so s s' (m ∷ ms) (mid, first, rest) h = stays_so mid s' ms rest (l.lasts s mid m first h)

  -- A call that begins later has seen the queue so at each moment of it.
  abbrev SawSo : List (Sight T) → Type 0
  SawSo [] = Unit {0}
  SawSo (x ∷ xs) = l.Is x × SawSo xs

  abbrev NotTold : Option (Answer T) → Type 0
  NotTold None = Unit {0}
  NotTold (Some a) = l.Never a → ⊥

  abbrev BegunSo : Option (Progress T) → Type 0
  BegunSo None = Unit {0}
  BegunSo (Some c) = SawSo c.seen × NotTold c.answer

  begun_more : (x : Sight T) → l.Is x → (o : Option (Progress T)) → BegunSo o → BegunSo (sees x o)
  begun_more x so o h = grind (arith, nat_tests)

  none_open : (xs : List (Sight T)) → SawSo xs → AtSome WasOpenAndFull xs → ⊥
  none_open [] h at = at
  none_open (x ∷ xs) h (inl here) = l.not_open x h.0 here
  none_open (x ∷ xs) h (inr later) = none_open xs h.1 later

  -- of one party p
  goes_on : (p : ℕ) (s s' : Scene T) (m : Moment T) → Happens s m s' → l.Is s.sight → BegunSo (s.calls p) → BegunSo (s'.calls p)
  goes_on p s s' m h4 so h = grind (arith, nat_tests, at_party, begun_more, none_open)

  runs_later : (p : ℕ) (s s' : Scene T) (ms : List (Moment T)) → Run s ms s' → l.Is s.sight → BegunSo (s.calls p) → BegunSo (s'.calls p)
  runs_later p s s' [] e so h = grind (arith, nat_tests)
  runs_later p s s' (m ∷ ms) (mid, first, rest) so h =
      runs_later p mid s' ms rest (l.lasts s mid m first so) (goes_on p s mid m first so h)

  saw_it : (call : Call T) (a : Answer T) (xs : List (Sight T)) → l.Never a → SawSo xs → AtSome (MayAnswer call a) xs → ⊥
  saw_it call a [] isnt h at = at
  saw_it call a (x ∷ xs) isnt h (inl here) = l.never x x.queue call a here.0 h.0 isnt
  saw_it call a (x ∷ xs) isnt h (inr later) = saw_it call a xs isnt h.1 later

  not_answered : (c : Progress T) (o : Option (Answer T)) (a : Answer T) → l.Never a → SawSo c.seen → NotTold o → MayEnd c o a → ⊥
  not_answered c o a isnt saw told at = grind (arith, nat_tests, saw_it)

  ends_not : (p : ℕ) (s s' : Scene T) (a : Answer T) → l.Never a → BegunSo (s.calls p) → Happens s (Ends p a) s' → ⊥
  ends_not p s s' a isnt h h6 = grind (arith, nat_tests, not_answered)

  -- A call that begins where it is so is not answered what is never answered there.
  pub not_later : (p : ℕ) (call : Call T) (s s' : Scene T) (during after : List (Moment T)) (a : Answer T) → l.Never a → l.Is s.sight
      → Run s (Begins p call ∷ during ++ Ends p a ∷ after) s' → ⊥
  not_later p call s s' during after a isnt so (begun, begins, rest) =
      let parts = cut begun s' during (Ends p a ∷ after) rest in
      let now = l.lasts s begun (Begins p call) begins so in
      let h = goes_on p s begun (Begins p call) begins so (subst BegunSo (sym begins.0) tt) in
      ends_not p parts.0 parts.2.0 a isnt (runs_later p begun parts.0 during parts.1 now h) parts.2.1

  -- Nor does it displace an item.
  pub not_displaced : (p : ℕ) (call : Call T) (s s' : Scene T) (during after : List (Moment T)) (y : T) → l.Is s.sight
      → Run s (Begins p call ∷ during ++ Displaces p y ∷ after) s' → ⊥
  not_displaced p call s s' during after y so h8 = grind (arith, nat_tests, cut, goes_on, runs_later, none_open)

  -- From a queue on which nobody calls: after an answer that tells so it is so.
  pub is_so_after : (s s' : Scene T) (before after : List (Moment T)) (p : ℕ) (a : Answer T) → ((p : ℕ) → s.calls p ≡ None)
      → Run s (before ++ Ends p a ∷ after) s' → l.Tells a → (mid : Scene T) × l.Is mid.sight × Run mid after s'
  is_so_after s s' before after p a away run tells =
      let parts = cut s s' before (Ends p a ∷ after) run in
      let known = runs s parts.0 before parts.1 (λ p. subst (KnownSo (l.Is s.sight)) (sym (away p)) tt) in
      (parts.2.0, is_so parts.0 parts.2.0 p a tells known parts.2.1, parts.2.2)
