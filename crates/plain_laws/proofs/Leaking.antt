-- A leak appends idle futures in the order of spawning, where nobody lies.
use Rattle.std.proofs.Common.{◌≡◌, ℕ, zero, suc, ◌<◌, ◌==◌, ◌&&◌, not, ◌-◌, cond, filter, Bool, true, false, List, [], ◌∷◌, ◌++◌}
use Rattle.std.proofs.Common.{length}
use Rattle.std.proofs.Common.{map, Option, None, is_some, slice_get, slice_set, refl, sym, ap, ◌∙◌, arith}
use Rattle.std.proofs.lemmas.Bool.Decides.{nat_tests}
use Rattle.executor_parts.specs.declared.mark.Mark.TheVariants.{Plain as PlainMark}
use Rattle.task_moves.specs.AbstractTask as abstract
use Rattle.task_moves.specs.AbstractTask.{AbstractTask, Phase, is_idle}
use Rattle.task_moves.specs.AbstractTask.Phase.{Finished, Idle, Polling, PollingWoken, Queued}
use Rattle.task_moves.specs.LocalTask.{info_of, told}
use Rattle.plain_scheduler.specs.State.{Choice, Due, Future, Plain}
use Rattle.plain_scheduler.specs.Lists.{each, on, or}
use Rattle.plain_scheduler.specs.Moves.{appended, called, changed, is_called, mark, no_task, put, task, tell, told_at}
use Rattle.plain_scheduler.specs.Moves as moves
use Rattle.plain_scheduler.specs.Calls as calls
use Rattle.plain_scheduler.specs.Calls.{does, living_from}
use Rattle.plain_laws.specs.Coming.{unkept, waits_idle}
use Rattle.plain_laws.proofs.Words.{Each, assoc, last_there, nothing_behind, set_there}

-- lists

nothing_past : {X : Type 0} (xs : List X) → slice_get xs (length xs) ≡ None
nothing_past [] = refl
nothing_past (x ∷ xs) = nothing_past xs

set_elsewhere : {X : Type 0} (xs : List X) (i : ℕ) (y : X) (j : ℕ) → (i == j) ≡ false → slice_get (slice_set xs i y) j ≡ slice_get xs j
set_elsewhere [] i y j apart = refl
set_elsewhere (x ∷ xs) zero y zero apart = absurd cc
set_elsewhere (x ∷ xs) zero y (suc j) apart = refl
set_elsewhere (x ∷ xs) (suc i) y zero apart = refl
set_elsewhere (x ∷ xs) (suc i) y (suc j) apart = set_elsewhere xs i y j (grind (arith, apart, nat_tests))

-- tasks

module _ {T A : Type 0} where
  abbrev is_open_idle : AbstractTask T A → Bool
  is_open_idle t = is_idle t.phase && not t.closed

  no_news : (old new : AbstractTask T A) → new.infos ≡ old.infos → is_some (info_of old new) ≡ false
  no_news old new same = grind (arith, nat_tests, nothing_past)

  -- a wake queues what is open and idle
  woken_so : (t : AbstractTask T A) → is_some (info_of t (abstract.wake t)) ≡ is_open_idle t
  woken_so t = by t.closed t.phase
    where
      by : (b : Bool) (ph : Phase) → is_some (info_of t (cond b t (abstract.wake_open ph t))) ≡ (is_idle ph && not b)
      by b ph = grind (arith, nat_tests, no_news, last_there)

  -- then it isn't both
  busy_so : (t : AbstractTask T A) → is_open_idle (abstract.wake t) ≡ false
  busy_so t = grind (arith, nat_tests)

  -- and a waker that goes queues nothing
  released_so : (t : AbstractTask T A) → is_open_idle t ≡ false → is_some (info_of t (abstract.release t)) ≡ false
  released_so t busy = by (is_idle t.phase) (not t.closed) busy
    where
      less : AbstractTask T A
      less = record t { wakers = t.wakers - 1 }

      by : (a b : Bool) → (a && b) ≡ false
          → is_some (info_of t (cond (a && (b && (not t.handle && (t.wakers - 1 == 0)))) (abstract.close less) less)) ≡ false
      by a b is = grind (arith, nat_tests, no_news, less)

-- each stands there once
abbrev Apart : List ℕ → Type 0
Apart [] = Unit {0}
Apart (f ∷ fs) = Each (λ g. (f == g) ≡ false) fs × Apart fs

module _ {T A : Type 0} (wakes : A → Option ℕ) (c : Choice) where
  module _ (f : ℕ) (new : AbstractTask T A) (p : Plain T A) where
    put_due : (put f new p).due ≡ p.due
    put_due = grind (arith, nat_tests)

    put_lying : (put f new p).lying ≡ p.lying
    put_lying = grind (arith, nat_tests)

    put_elsewhere : (g : ℕ) → (f == g) ≡ false → slice_get (put f new p).futures g ≡ slice_get p.futures g
    put_elsewhere g apart = by (slice_get p.futures f)
      where
        by : (o : Option (Future T A))
            → slice_get (on o (λ x p. record p { futures = slice_set p.futures f (record x { task = told new }) }) p).futures g
            ≡ slice_get p.futures g
        by o = grind (arith, nat_tests, set_elsewhere)

    put_mark : mark f (put f new p) ≡ mark f p
    put_mark = by (slice_get p.futures f) refl
      where
        by : (o : Option (Future T A)) → slice_get p.futures f ≡ o
            → mark f (on o (λ x p. record p { futures = slice_set p.futures f (record x { task = told new }) }) p) ≡ mark f p
        by o is = grind (arith, nat_tests, set_there)

    put_busy : is_open_idle new ≡ false → is_open_idle (task f (put f new p)) ≡ false
    put_busy busy = by (slice_get p.futures f) refl
      where
        by : (o : Option (Future T A)) → slice_get p.futures f ≡ o
            → is_open_idle (task f (on o (λ x p. record p { futures = slice_set p.futures f (record x { task = told new }) }) p)) ≡ false
        by o is = grind (arith, nat_tests, set_there)

  -- one future
  record Freed (f : ℕ) (p q : Plain T A) : Type 0 where
    pub lying : q.lying ≡ []
    pub due : q.due ≡ p.due ++ cond (is_open_idle (task f p)) (unkept p f ∷ []) []
    pub elsewhere : (g : ℕ) → (f == g) ≡ false → slice_get q.futures g ≡ slice_get p.futures g

  becomes_so : (f : ℕ) (new : AbstractTask T A) (p : Plain T A) → p.lying ≡ [] → (b : Bool) → is_some (info_of (task f p) new) ≡ b
      → moves.becomes wakes (tell wakes c) f new p ≡ cond b (appended f (put f new p)) (put f new p)
  becomes_so f new p none b is = grind (arith, nat_tests)

  wake_freed : (f : ℕ) (p : Plain T A) → p.lying ≡ [] → (b : Bool) → is_open_idle (task f p) ≡ b
      → let new = abstract.wake (task f p) in
      let q = cond b (appended f (put f new p)) (put f new p) in
      (q.lying ≡ []) × (q.due ≡ p.due ++ cond b (unkept p f ∷ []) []) × (is_open_idle (task f q) ≡ false)
      × ((g : ℕ) → (f == g) ≡ false → slice_get q.futures g ≡ slice_get p.futures g)
  wake_freed f p none true is =
      let new = abstract.wake (task f p) in (
        put_lying f new p ∙ none,
        ap (λ (ds : List Due). ds ++ record { future = f; mark = mark f (put f new p); keeper = None } ∷ []) (put_due f new p)
            ∙ ap (λ m. p.due ++ record { future = f; mark = m; keeper = None } ∷ []) (put_mark f new p),
        put_busy f new p (busy_so (task f p)),
        put_elsewhere f new p,
      )
  wake_freed f p none false is =
      let new = abstract.wake (task f p) in (
        put_lying f new p ∙ none,
        put_due f new p ∙ sym (nothing_behind p.due),
        put_busy f new p (busy_so (task f p)),
        put_elsewhere f new p,
      )

  freed_so : (f : ℕ) (p : Plain T A) → p.lying ≡ [] → Freed f p (calls.freed wakes c f p)
  freed_so f p none = grind (arith, nat_tests, wake_freed, becomes_so, woken_so, released_so, put_lying, put_due, put_elsewhere)

  abbrev coming : Plain T A → List ℕ → List Due
  coming p fs = map (unkept p) (filter (waits_idle p) fs)

  comes_same : (f : ℕ) (p q : Plain T A) → ((g : ℕ) → (f == g) ≡ false → slice_get q.futures g ≡ slice_get p.futures g) → (fs : List ℕ)
      → Each (λ g. (f == g) ≡ false) fs → coming q fs ≡ coming p fs
  comes_same f p q same [] apart = refl
  comes_same f p q same (g ∷ fs) apart =
      by (waits_idle q g) ∙ (ap (λ l. one (slice_get q.futures g) ++ l) (comes_same f p q same fs apart.1)
      ∙ (ap (λ o. one o ++ coming p fs) (same g apart.0) ∙ sym (by_p (waits_idle p g))))
    where
      one : Option (Future T A) → List Due
      one o =
          cond (is_open_idle (or o (λ x. x.task) no_task)) (record { future = g; mark = or o (λ x. x.mark) PlainMark; keeper = None } ∷
          []) []

      by : (b : Bool)
          → map (unkept q) (cond b (g ∷ filter (waits_idle q) fs) (filter (waits_idle q) fs))
          ≡ cond b (unkept q g ∷ []) [] ++ coming q fs
      by true = refl
      by false = refl

      by_p : (b : Bool)
          → map (unkept p) (cond b (g ∷ filter (waits_idle p) fs) (filter (waits_idle p) fs))
          ≡ cond b (unkept p g ∷ []) [] ++ coming p fs
      by_p true = refl
      by_p false = refl

  all_freed : (fs : List ℕ) → Apart fs → (p : Plain T A) → p.lying ≡ [] → (each fs (calls.freed wakes c) p).due ≡ p.due ++ coming p fs
  all_freed [] apart p none = sym (nothing_behind p.due)
  all_freed (f ∷ fs) apart p none =
      let q = calls.freed wakes c f p in
      let it = freed_so f p none in
      all_freed fs apart.1 q it.lying
      ∙ (ap (λ l. l ++ coming q fs) it.due
      ∙ (ap (λ l. (p.due ++ cond (waits_idle p f) (unkept p f ∷ []) []) ++ l) (comes_same f p q it.elsewhere fs apart.0)
      ∙ by (waits_idle p f)))
    where
      by : (b : Bool) → (p.due ++ cond b (unkept p f ∷ []) []) ++ coming p fs
          ≡ p.due ++ map (unkept p) (cond b (f ∷ filter (waits_idle p) fs) (filter (waits_idle p) fs))
      by b = grind (arith, nat_tests, assoc, nothing_behind)

  -- the numbers of futures stand apart
  all_above : (n m : ℕ) → n < m → (xs : List (Future T A)) → Each (λ g. (n == g) ≡ false) (living_from m xs)
  all_above n m less [] = tt
  all_above n m less (x ∷ xs) = by x.is_dropped (all_above n (suc m) (omega (arith, less)) xs)
    where
      by : (b : Bool) → Each (λ g. (n == g) ≡ false) (living_from (suc m) xs)
          → Each (λ g. (n == g) ≡ false) (cond b (living_from (suc m) xs) (m ∷ living_from (suc m) xs))
      by b rest = grind (arith, nat_tests)

  living_apart : (n : ℕ) (xs : List (Future T A)) → Apart (living_from n xs)
  living_apart n [] = tt
  living_apart n (x ∷ xs) = by x.is_dropped (living_apart (suc n) xs)
    where
      by : (b : Bool) → Apart (living_from (suc n) xs) → Apart (cond b (living_from (suc n) xs) (n ∷ living_from (suc n) xs))
      by true rest = rest
      by false rest = (all_above n (suc n) (omega arith) xs, rest)

  pub leaks_so : (p : Plain T A) → p.lying ≡ []
      → (does wakes c calls.Leak p).due ≡ p.due ++ map (unkept p) (filter (waits_idle p) (living_from 0 p.futures))
  leaks_so p none = grind (arith, nat_tests, all_freed, living_apart)
