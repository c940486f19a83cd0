-- On a queue that counts the items that it accepts, a forced push that gives an item has displaced it: what it answers
-- without a change it could not answer, since it would have counted its own item.
use Rattle.std.proofs.lemmas.Bool.Decides.{nat_tests}
use Rattle.std.proofs.Common.{◌≡◌, ℕ, ◌+◌, List, [], ◌∷◌, Option, Some, None, Ok, Err, IsSome}
use Rattle.std.proofs.Common.{inl, inr, sym, ap, subst, arith}
use Rattle.std.specs.Option.{option_map}
use Rattle.queue_steps.specs.declared.errors.PushError.TheVariants.{Full, Closed, NoMemory}
use Rattle.queue_steps.specs.declared.errors.ForcePushError.TheVariants.{Closed as ClosedToForce, NoMemory as NoMemoryToForce}
use Rattle.queue_steps.specs.declared.errors.PopError.TheVariants.{Empty, Closed as ClosedToPop}
use Rattle.queue_steps.specs.ClosableQueue.{ClosableQueue}
use Rattle.queue_steps.specs.Replies.{TurnsAway}
use Rattle.queue_steps.specs.Calls.{Call, Push, ForcePush, Pop, Close, Len, IsEmptyCall, IsFullCall, IsClosedCall, Answer, Pushed}
use Rattle.queue_steps.specs.Calls.{ForcePushed, Popped, WasClosed, LenIs, EmptyIs, FullIs, ClosedIs, Acts}
use Rattle.queue_laws.specs.Moments.{Moment, Ends, Sight, Scene, Progress, Happens}
use Rattle.queue_laws.specs.Moments.{Run, AtSome, MayAnswer, MayEnd}
use Rattle.queue_laws.specs.Told.{Stage, stages_after, AnswerWhatTheyDid}
use Rattle.queue_laws.proofs.Told.{IsActed, GiftFits, Gift, Gifts, Staged, stage_of, stage_in, happens, new_staged, answer_what_they_did}

one_more : (o : Option ℕ) → IsSome o → IsSome (option_map (λ n. n + 1) o)
one_more o h = grind (arith, nat_tests)

module _ {T : Type 0} where
  abbrev Counts : ClosableQueue T → Type 0
  Counts q = IsSome q.accepted

  same_count : (q q' : ClosableQueue T) → q'.accepted ≡ q.accepted → Counts q → Counts q'
  same_count q q' e h = subst (λ (o : Option ℕ). IsSome o) (sym e) h

  more_count : (q q' : ClosableQueue T) → q'.accepted ≡ option_map (λ n. n + 1) q.accepted → Counts q → Counts q'
  more_count q q' e h = subst (λ (o : Option ℕ). IsSome o) (sym e) (one_more q.accepted h)

  abbrev count : ClosableQueue T → Option ℕ
  count q = q.accepted

  turned : (q q' : ClosableQueue T) → TurnsAway q q' → Counts q → Counts q'
  turned q q' (inl (c, e)) h = same_count q q' (ap count e) h
  turned q q' (inr (c, s, e)) h = same_count q q' (ap count e) h

  acts : (q q' : ClosableQueue T) (call : Call T) (a : Answer T) → Acts q call a q' → Counts q → Counts q'
  acts q q' (Push x) (Pushed (Ok u)) (may, e) h = more_count q q' (ap count e) h
  acts q q' (Push x) (Pushed (Err (Full y))) (c, f, s, e) h = same_count q q' (ap count e) h
  acts q q' (Push x) (Pushed (Err (Closed y))) (t, r, s) h = turned q q' t h
  acts q q' (Push x) (Pushed (Err (NoMemory y))) ((c, n, u, e), s) h = same_count q q' (ap count e) h
  acts q q' (ForcePush x) (ForcePushed (Ok None)) (may, e) h = more_count q q' (ap count e) h
  acts q q' (ForcePush x) (ForcePushed (Ok (Some y))) (c, f, u, i, e) h = more_count q q' (ap count e) h
  acts q q' (ForcePush x) (ForcePushed (Err (ClosedToForce y))) (t, s) h = turned q q' t h
  acts q q' (ForcePush x) (ForcePushed (Err (NoMemoryToForce y))) ((c, n, u, e), s) h = same_count q q' (ap count e) h
  acts q q' Pop (Popped (Ok x)) (i, e) h = same_count q q' (ap count e) h
  acts q q' Pop (Popped (Err Empty)) (i, c, e) h = same_count q q' (ap count e) h
  acts q q' Pop (Popped (Err ClosedToPop)) (i, c, e) h = same_count q q' (ap count e) h
  acts q q' Close (WasClosed b) (f, e) h = same_count q q' (ap count e) h
  acts q q' Len (LenIs n) (f, e) h = same_count q q' (ap count e) h
  acts q q' IsEmptyCall (EmptyIs b) (f, e) h = same_count q q' (ap count e) h
  acts q q' IsFullCall (FullIs b) (f, e) h = same_count q q' (ap count e) h
  acts q q' IsClosedCall (ClosedIs b) (f, e) h = same_count q q' (ap count e) h
  acts q q' _ _ d h = elim d [ ]

  abbrev SawCounts : List (Sight T) → Type 0
  SawCounts [] = Unit {0}
  SawCounts (x ∷ xs) = Counts x.queue × SawCounts xs

  abbrev SawCountsIn : Option (Progress T) → Type 0
  SawCountsIn None = Unit {0}
  SawCountsIn (Some c) = SawCounts c.seen

  record Counted (s : Scene T) : Type 0 where
    now : Counts s.sight.queue
    seen : (p : ℕ) → SawCountsIn (s.calls p)

  goes_on : (s s' : Scene T) (m : Moment T) → Happens s m s' → Counted s → Counted s'
  goes_on s s' m h3 h = grind (arith, nat_tests)

  -- it would have counted its item
  not_unchanged : (q : ClosableQueue T) (call : Call T) (y : T) → Counts q → Acts q call (ForcePushed (Ok (Some y))) q → ⊥
  not_unchanged q call y so d = grind (arith, nat_tests)

  not_seen : (call : Call T) (y : T) (xs : List (Sight T)) → SawCounts xs → AtSome (MayAnswer call (ForcePushed (Ok (Some y)))) xs → ⊥
  not_seen call y [] so at = at
  not_seen call y (x ∷ xs) so (inl here) = not_unchanged x.queue call y so.0 here.0
  not_seen call y (x ∷ xs) so (inr later) = not_seen call y xs so.1 later

  has_acted : (c : Progress T) (o : Option (Answer T)) (y : T) → SawCounts c.seen → MayEnd c o (ForcePushed (Ok (Some y)))
      → IsActed (stage_of o)
  has_acted c o y so at = grind (arith, nat_tests, not_seen)

  ends : (at : ℕ → Stage T) (s s' : Scene T) (r : ℕ) (a : Answer T) → Happens s (Ends r a) s' → Counted s → Staged at s → GiftFits (at r) a
  ends at s s' r a d h k = grind (arith, nat_tests, IsActed, stage_in, has_acted)

  gift : (at : ℕ → Stage T) (s s' : Scene T) (m : Moment T) → Happens s m s' → Counted s → Staged at s → Gift at m
  gift at s s' (Ends r a) d h k = ends at s s' r a d h k
  gift at s s' _ d h k = tt

  gifts : (at : ℕ → Stage T) (s s' : Scene T) (ms : List (Moment T)) → Run s ms s' → Counted s → Staged at s → Gifts at ms
  gifts at s s' [] e h k = tt
  gifts at s s' (m ∷ ms) (mid, first, rest) h k =
      (gift at s mid m first h k, gifts (stages_after at m) mid s' ms rest (goes_on s mid m first h) (happens at s mid m first k))

  -- from a queue that counts, on which nobody calls
  pub answer_on_counted : (s s' : Scene T) (ms : List (Moment T)) → IsSome s.sight.queue.accepted → s.sight.incoming ≡ None
      → ((p : ℕ) → s.calls p ≡ None) → Run s ms s' → AnswerWhatTheyDid ms
  answer_on_counted s s' ms counts none away run = grind (arith, nat_tests, answer_what_they_did, gifts, new_staged)
