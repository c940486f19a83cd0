-- Each call acts at most once, between its beginning and its end, and answers what it did.
use Rattle.std.proofs.lemmas.Bool.Decides.{nat_tests}
use Rattle.std.proofs.Common.{◌≡◌, ℕ, List, [], ◌∷◌, length, true, false, Option, Some, None, Ok, Err}
use Rattle.std.proofs.Common.{inl, inr, ap, arith, length-append}
use Rattle.queue_steps.specs.ClosableQueue.{ClosableQueue, appended}
use Rattle.queue_steps.specs.Calls.{Call, Push, ForcePush, Pop, Close, Len, IsEmptyCall, IsFullCall, IsClosedCall, Answer, Pushed}
use Rattle.queue_steps.specs.Calls.{ForcePushed, Popped, WasClosed, LenIs, EmptyIs, FullIs, ClosedIs, Acts}
use Rattle.queue_laws.specs.Moments.{Moment, Ends, Sight, Scene, Progress, Happens}
use Rattle.queue_laws.specs.Moments.{Run, AtSome, MayAnswer, MayEnd}
use Rattle.queue_laws.specs.Told.{Stage, Away, Begun, Acted, stages_after, IsIdle, AnswersFor, HasDisplaced, Fits, FitsFrom}
use Rattle.queue_laws.specs.Told.{AnswerWhatTheyDid}
use Rattle.queue_laws.proofs.ClosesOnce.{unchanged}

module _ {T : Type 0} where
  abbrev pub IsActed : Stage T → Type 0
  IsActed Away = ⊥
  IsActed Begun = ⊥
  IsActed (Acted a) = Unit {0}

  -- an answer that gives an item which a forced push displaced is that of a call that has acted
  abbrev pub GiftFits : Stage T → Answer T → Type 0
  GiftFits at (ForcePushed (Ok (Some y))) = IsActed at
  GiftFits at a = Unit {0}

  abbrev pub Gift : (ℕ → Stage T) → Moment T → Type 0
  Gift at (Ends p a) = GiftFits (at p) a
  Gift at m = Unit {0}

  abbrev pub Gifts : (ℕ → Stage T) → List (Moment T) → Type 0
  Gifts at [] = Unit {0}
  Gifts at (m ∷ ms) = Gift at m × Gifts (stages_after at m) ms

  abbrev pub stage_of : Option (Answer T) → Stage T
  stage_of None = Begun
  stage_of (Some a) = Acted a

  abbrev pub stage_in : Option (Progress T) → Stage T
  stage_in None = Away
  stage_in (Some c) = stage_of c.answer

  abbrev pub ComesLate : (ℕ → Option (Progress T)) → Option (ℕ × T) → Type 0
  ComesLate calls None = Unit {0}
  ComesLate calls (Some i) = HasDisplaced (stage_in (calls i.0))

  -- the stages are those of the calls in progress
  pub record Staged (at : ℕ → Stage T) (s : Scene T) : Type 0 where
    pub calls : (p : ℕ) → at p ≡ stage_in (s.calls p)
    pub coming : ComesLate s.calls s.sight.incoming

  pub happens : (at : ℕ → Stage T) (s s' : Scene T) (m : Moment T) → Happens s m s' → Staged at s → Staged (stages_after at m) s'
  happens at s s' m h4 h = grind (arith, nat_tests)

  longer : (q : ClosableQueue T) (x : T) → q ≡ appended q x → ⊥
  longer q x e =
      let n = ap (λ (q : ClosableQueue T). length q.items) e in let l = length-append q.items (x ∷ []) in omega (arith, n, l)

  -- a call that changed nothing took no item in, gave none but perhaps for one that it gave back, and did not close the queue
  idle : (q : ClosableQueue T) (call : Call T) (a : Answer T) → Acts q call a q → GiftFits Begun a → IsIdle a
  idle q (Push x) (Pushed (Ok u)) (may, e) g = longer q x e
  idle q (Push x) (Pushed (Err y)) d g = tt
  idle q (ForcePush x) (ForcePushed (Ok None)) (may, e) g = longer q x e
  idle q (ForcePush x) (ForcePushed (Ok (Some y))) d g = g
  idle q (ForcePush x) (ForcePushed (Err y)) d g = tt
  idle q Pop (Popped (Ok x)) (i, e) g =
      let n = ap length i in let m = ap (λ (q : ClosableQueue T). length q.items) e in omega (arith, n, m)
  idle q Pop (Popped (Err y)) d g = tt
  idle q Close (WasClosed true) d g = unchanged q Close d
  idle q Close (WasClosed false) d g = tt
  idle q Len (LenIs n) d g = tt
  idle q IsEmptyCall (EmptyIs b) d g = tt
  idle q IsFullCall (FullIs b) d g = tt
  idle q IsClosedCall (ClosedIs b) d g = tt
  idle q _ _ d g = elim d [ ]

  seen_idle : (call : Call T) (a : Answer T) (xs : List (Sight T)) → GiftFits Begun a → AtSome (MayAnswer call a) xs → IsIdle a
  seen_idle call a [] g at = elim at [ ]
  seen_idle call a (x ∷ xs) g (inl here) = idle x.queue call a here.0 g
  seen_idle call a (x ∷ xs) g (inr later) = seen_idle call a xs g later

  ends_so : (c : Progress T) (o : Option (Answer T)) (a : Answer T) → GiftFits (stage_of o) a → MayEnd c o a → AnswersFor (stage_of o) a
  ends_so c o a g at = grind (arith, nat_tests, seen_idle)

  fits : (at : ℕ → Stage T) (s s' : Scene T) (m : Moment T) → Happens s m s' → Gift at m → Staged at s → Fits at m
  fits at s s' m h4 g h = grind (arith, nat_tests, ends_so)

  runs : (at : ℕ → Stage T) (s s' : Scene T) (ms : List (Moment T)) → Run s ms s' → Gifts at ms → Staged at s → FitsFrom at ms
  runs at s s' [] e g h = tt
  runs at s s' (m ∷ ms) (mid, first, rest) g h =
      (fits at s mid m first g.0 h, runs (stages_after at m) mid s' ms rest g.1 (happens at s mid m first h))

  pub new_staged : (s : Scene T) → s.sight.incoming ≡ None → ((p : ℕ) → s.calls p ≡ None) → Staged (λ p. Away) s
  new_staged s none away = grind (arith, nat_tests)

  -- from a queue on which nobody calls
  pub answer_what_they_did : (s s' : Scene T) (ms : List (Moment T)) → s.sight.incoming ≡ None → ((p : ℕ) → s.calls p ≡ None)
      → Run s ms s' → Gifts (λ p. Away) ms → AnswerWhatTheyDid ms
  answer_what_they_did s s' ms none away run g = grind (arith, nat_tests, runs, new_staged)
