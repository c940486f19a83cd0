-- A waker that is called and goes: first it wakes its task and then it is let go. Once the task is queued, it may go before one
-- that lies is told or after.
use Rattle.std.proofs.Common.{◌≡◌, ℕ, ◌-◌, ◌==◌, ◌&&◌, not, Bool, true, false, List, [], ◌∷◌, ◌++◌, length}
use Rattle.std.proofs.Common.{Option, Some, None, is_some, slice_get, slice_set, if◌then◌else◌, refl, sym, ap, subst, ◌∙◌, arith}
use Rattle.std.proofs.lemmas.Option.{slice_get_past}
use Rattle.task_moves.specs.AbstractTask as abstract
use Rattle.task_moves.specs.AbstractTask.{AbstractTask, Phase, Idle, Queued, Polling, PollingWoken, Finished}
use Rattle.task_moves.specs.LocalTask.{info_of, info_from, told}
use Rattle.plain_scheduler.specs.State.{Calls, Future, Plain}
use Rattle.plain_scheduler.specs.Lists.{on, or}
use Rattle.plain_scheduler.specs.Moves.{appended, called, put, see, task, used}
use Rattle.machine_roads.proofs.Lists.{set_same, set_other, set_twice, set_apart, same_of, apart_of, turned}
use Rattle.machine_roads.proofs.Puts.{with_task, put_at, put_is, task_is, task_past, mark_put}

-- where the future isn't dropped a poll of the handle finds an output, or waits
polled_at : {T : Type 0} (o : Option T) (phase : Phase) → abstract.is_over phase ≡ false
    → abstract.polled_by o phase ≡ abstract.polled_by o Queued
polled_at (Some v) phase is = refl
polled_at None Idle is = refl
polled_at None Queued is = refl
polled_at None Polling is = refl
polled_at None PollingWoken is = refl
polled_at None Finished is = absurd cc

-- a task that is queued, or whose future is dropped, is changed by no wake
abbrev pub is_still : Phase → Bool
is_still Queued = true
is_still Finished = true
is_still _ = false

module _ {T A : Type 0} where
  -- without a waker that it had
  abbrev pub lower : AbstractTask T A → AbstractTask T A
  lower t = record t { wakers = t.wakers - 1 }

  abbrev pub lowered : ℕ → Plain T A → Plain T A
  lowered f p = put f (lower (task f p)) p

  pub none_told : (t u : AbstractTask T A) → u.infos ≡ t.infos → is_some (info_of t u) ≡ false
  none_told t u is =
      ap (λ (infos : List Bool). is_some (info_from (slice_get infos (length t.infos)))) is
      ∙ ap (λ (o : Option Bool). is_some (info_from o)) (slice_get_past t.infos (length t.infos) (omega arith))

  -- a task that no wake changes is let go by one
  pub release_still : (t : AbstractTask T A) → is_still t.phase ≡ true → abstract.release t ≡ lower t
  release_still t still = by t.phase still
    where
      by : (phase : Phase) → is_still phase ≡ true
          → (if abstract.is_idle phase && (not t.closed && (not t.handle && (t.wakers - 1 == 0)))
          then abstract.close (lower t) else lower t) ≡ lower t
      by Idle still = absurd cc
      by Queued still = refl
      by Polling still = refl
      by PollingWoken still = refl
      by Finished still = refl

  wake_still : (t : AbstractTask T A) → is_still t.phase ≡ true → abstract.wake t ≡ t
  wake_still t still = by t.closed t.phase still
    where
      by : (b : Bool) (phase : Phase) → is_still phase ≡ true → (if b then t else abstract.wake_open phase t) ≡ t
      by true phase still = refl
      by false Idle still = absurd cc
      by false Queued still = refl
      by false Polling still = absurd cc
      by false PollingWoken still = refl
      by false Finished still = refl

  -- what neither a wake nor a release changes: who awaits it, and its output
  pub record IsKept {B : Type 0} (ask : AbstractTask T A → B) : Type 0 where
    pub phase : (t : AbstractTask T A) (phase : Phase) (infos : List Bool) → ask (record t { phase = phase; infos = infos }) ≡ ask t
    pub closed : (t : AbstractTask T A) → ask (record t { closed = true }) ≡ ask t
    pub wakers : (t : AbstractTask T A) (n : ℕ) → ask (record t { wakers = n }) ≡ ask t

  module _ {B : Type 0} (ask : AbstractTask T A → B) (is : IsKept ask) where
    woken_asks : (t : AbstractTask T A) → ask (abstract.wake t) ≡ ask t
    woken_asks t = by t.closed t.phase
      where
        by : (closed : Bool) (phase : Phase) → ask (if closed then t else abstract.wake_open phase t) ≡ ask t
        by true phase = refl
        by false Idle = is.phase t Queued (t.infos ++ false ∷ [])
        by false Queued = refl
        by false Polling = is.phase t PollingWoken t.infos
        by false PollingWoken = refl
        by false Finished = refl

    closing_asks : (u : AbstractTask T A) → ask (abstract.close_forgotten u) ≡ ask u
    closing_asks u = by (abstract.is_idle u.phase && (not u.closed && (not u.handle && (u.wakers == 0)))) (abstract.is_idle u.phase)
      where
        by : (b c : Bool) → ask (if b then record (if c then abstract.queue false u else u) { closed = true } else u) ≡ ask u
        by true true = is.closed (abstract.queue false u) ∙ is.phase u Queued (u.infos ++ false ∷ [])
        by true false = is.closed u
        by false c = refl

    pub used_asks : (t : AbstractTask T A) → ask (told (abstract.release (abstract.wake t))) ≡ ask t
    used_asks t =
        is.phase (abstract.release (abstract.wake t)) (abstract.release (abstract.wake t)).phase []
        ∙ (closing_asks (lower (abstract.wake t)) ∙ (is.wakers (abstract.wake t) ((abstract.wake t).wakers - 1) ∙ woken_asks t))

  -- nor what a poll of its handle finds
  woken_polled : (t : AbstractTask T A) → abstract.polled (abstract.wake t) ≡ abstract.polled t
  woken_polled t = by t.closed t.phase refl
    where
      by : (closed : Bool) (phase : Phase) → t.phase ≡ phase
          → abstract.polled (if closed then t else abstract.wake_open phase t) ≡ abstract.polled t
      by true phase is = refl
      by false Idle is = sym (ap (abstract.polled_by t.output) is ∙ polled_at t.output Idle refl)
      by false Queued is = refl
      by false Polling is =
          polled_at t.output PollingWoken refl ∙ sym (ap (abstract.polled_by t.output) is ∙ polled_at t.output Polling refl)
      by false PollingWoken is = refl
      by false Finished is = refl

  closing_polled : (u : AbstractTask T A) → abstract.polled (abstract.close_forgotten u) ≡ abstract.polled u
  closing_polled u = by (abstract.is_idle u.phase && (not u.closed && (not u.handle && (u.wakers == 0)))) u.phase refl
    where
      by : (b : Bool) (phase : Phase) → u.phase ≡ phase
          → abstract.polled (if b then record (if abstract.is_idle phase then abstract.queue false u else u) { closed = true } else u)
          ≡ abstract.polled u
      by true Idle is = sym (ap (abstract.polled_by u.output) is ∙ polled_at u.output Idle refl)
      by true Queued is = refl
      by true Polling is = refl
      by true PollingWoken is = refl
      by true Finished is = refl
      by false phase is = refl

  pub released_polled : (t : AbstractTask T A) → abstract.polled (told (abstract.release t)) ≡ abstract.polled t
  released_polled t = closing_polled (lower t)

  pub used_polled : (t : AbstractTask T A) → abstract.polled (told (abstract.release (abstract.wake t))) ≡ abstract.polled t
  used_polled t = released_polled (abstract.wake t) ∙ woken_polled t

  -- a change of a task that may come before or after a waker of it goes
  pub record IsLater (h : AbstractTask T A → AbstractTask T A) : Type 0 where
    pub phase : (t : AbstractTask T A) → (h t).phase ≡ t.phase
    pub swaps : (t : AbstractTask T A) → told (h (told (lower t))) ≡ told (lower (told (h t)))

  pub lowers : IsLater lower
  lowers = record { phase = λ t. refl; swaps = λ t. refl }

  -- who awaits it goes
  abbrev pub unawaited : AbstractTask T A → AbstractTask T A
  unawaited t = record t { awaiter = None }

  pub unawaits : IsLater unawaited
  unawaits = record { phase = λ t. refl; swaps = λ t. refl }

  pub put_twice : (f : ℕ) (a b : AbstractTask T A) (p : Plain T A) (x : Future T A) → slice_get p.futures f ≡ Some x
      → put f b (put f a p) ≡ put f b p
  put_twice f a b p x is =
      let y : Future T A = with_task a x in
      ap (put f b) (put_is f a p x is)
      ∙ (put_is f b (put_at f a x p) y (set_same p.futures f y x is)
      ∙ (ap (λ fs. record p { futures = fs }) (set_twice p.futures f y (with_task b x)) ∙ sym (put_is f b p x is)))

  pub put_appended : (f g : ℕ) (a : AbstractTask T A) (p : Plain T A) (x : Future T A) → slice_get p.futures f ≡ Some x
      → put f a (appended g p) ≡ appended g (put f a p)
  put_appended f g a p x is =
      put_is f a (appended g p) x is
      ∙ (ap
      (λ m. record (put_at f a x p) { due = p.due ++ record { future = g; mark = m; keeper = None } ∷ [] })
      (sym (mark_put f g a p x is))
      ∙ sym (ap (appended g) (put_is f a p x is)))

  module _ (f : ℕ) where
    pub lowered_is : (p : Plain T A) (x : Future T A) → slice_get p.futures f ≡ Some x
        → lowered f p ≡ put_at f (lower x.task) x p
    lowered_is p x is =
        ap (λ t. put f (lower t) p) (task_is f p x is) ∙ put_is f (lower x.task) p x is

    module _ (wakes : A → Option ℕ) where
      -- where no wake changes the task, to wake it by a waker that goes is to let that go
      used_still : (more : Plain T A → Plain T A) (p : Plain T A) (x : Future T A) → slice_get p.futures f ≡ Some x
          → is_still x.task.phase ≡ true → used wakes more f p ≡ put_at f (lower x.task) x p
      used_still more p x is still =
          ap (λ t. if is_some (info_of t (abstract.release (abstract.wake t)))
          then more (appended f (put f (abstract.release (abstract.wake t)) p)) else put f (abstract.release (abstract.wake t)) p)
          (task_is f p x is)
          ∙ (ap (λ t. if is_some (info_of x.task t) then more (appended f (put f t p)) else put f t p)
          (ap abstract.release (wake_still x.task still) ∙ release_still x.task still)
          ∙ (ap (λ b. if b then more (appended f (put f (lower x.task) p)) else put f (lower x.task) p)
          (none_told x.task (lower x.task) refl)
          ∙ put_is f (lower x.task) p x is))

      -- to change the task first is the same
      pub record Comes (h : AbstractTask T A → AbstractTask T A) (p q : Plain T A) : Type 0 where
        pub future : Future T A
        pub there : slice_get q.futures f ≡ Some future
        pub still : is_still future.task.phase ≡ true
        pub same : put_at f (h future.task) future q ≡ p

      module _ (h : AbstractTask T A → AbstractTask T A) (change : IsLater h) (more : Plain T A → Plain T A)
          (past : (p : Plain T A) (x : Future T A) → slice_get p.futures f ≡ Some x → is_still x.task.phase ≡ true
          → Comes h (more (put_at f (h x.task) x p)) (more p)) (g : ℕ) (p : Plain T A) (x : Future T A)
          (is : slice_get p.futures f ≡ Some x) (still : is_still x.task.phase ≡ true) where
        abbrev l : Plain T A
        l = put_at f (h x.task) x p

        abbrev y : Future T A
        y = with_task (h x.task) x

        there : slice_get l.futures f ≡ Some y
        there = set_same p.futures f y x is

        abbrev new : AbstractTask T A
        new = abstract.release (abstract.wake (task g p))

        apart_by : (f == g) ≡ false → (b : Bool) (o : Option (Future T A)) → slice_get p.futures g ≡ o
            → Comes h (if b then appended g (put g new l) else put g new l)
            (if b then appended g (put g new p) else put g new p)
        apart_by apart b None none =
            let same_l : put g new l ≡ l =
            ap (λ (o : Option (Future T A)). on o (λ z p. put_at g new z p) l) (set_other p.futures f g y apart ∙ none) in
            let same_p : put g new p ≡ p = ap (λ (o : Option (Future T A)). on o (λ z p. put_at g new z p) p) none in
            subst (λ u. Comes h (if b then appended g u else u) (if b then appended g (put g new p) else put g new p)) (sym same_l)
            (subst (λ u. Comes h (if b then appended g l else l) (if b then appended g u else u)) (sym same_p) (cases b))
          where
            cases : (b : Bool) → Comes h (if b then appended g l else l) (if b then appended g p else p)
            cases true = record {
              future = x;
              there = is;
              still = still;
              same = ap
                  (λ m. record l { due = p.due ++ record { future = g; mark = m; keeper = None } ∷ [] })
                  (sym (mark_put f g (h x.task) p x is));
            }
            cases false = record { future = x; there = is; still = still; same = refl }
        apart_by apart b (Some z) some =
            let v : Future T A = with_task new z in
            let there_l : slice_get l.futures g ≡ Some z = set_other p.futures f g y apart ∙ some in
            subst (λ u. Comes h (if b then appended g u else u) (if b then appended g (put g new p) else put g new p))
            (sym (put_is g new l z there_l))
            (subst (λ u. Comes h (if b then appended g (put_at g new z l) else put_at g new z l) (if b then appended g u else u))
            (sym (put_is g new p z some))
            (cases b))
          where
            there_p : slice_get (slice_set p.futures g (with_task new z)) f ≡ Some x
            there_p = set_other p.futures g f (with_task new z) (turned f g apart) ∙ is

            futures : slice_set (slice_set p.futures g (with_task new z)) f y
                ≡ slice_set (slice_set p.futures f y) g (with_task new z)
            futures = set_apart p.futures g f (with_task new z) y (λ same. apart_of f g apart (sym same))

            cases : (b : Bool)
                → Comes h (if b then appended g (put_at g new z l) else put_at g new z l)
                (if b then appended g (put_at g new z p) else put_at g new z p)
            cases true = record {
              future = x;
              there = there_p;
              still = still;
              same =
                  ap
                  (λ m. record p {
                    futures = slice_set (slice_set p.futures g (with_task new z)) f y;
                    due = p.due ++ record { future = g; mark = m; keeper = None } ∷ [];
                  })
                  (mark_put g g new p z some
                  ∙ (sym (mark_put f g (h x.task) p x is) ∙ sym (mark_put g g new l z (set_other p.futures f g y apart ∙ some))))
                  ∙ ap
                  (λ fs. record p { futures = fs; due = (appended g (put_at g new z l)).due })
                  futures;
            }
            cases false = record {
              future = x;
              there = there_p;
              still = still;
              same = ap (λ fs. record p { futures = fs }) futures;
            }

        past_by : (b : Bool) → (f == g) ≡ b → Comes h (used wakes more g l) (used wakes more g p)
        past_by true same =
            subst (λ g. Comes h (used wakes more g l) (used wakes more g p)) (same_of f g same)
            (subst (λ u. Comes h u (used wakes more f p))
            (sym (used_still more l y there (ap is_still (change.phase x.task) ∙ still)))
            (subst (λ u. Comes h (put_at f (lower y.task) y l) u) (sym (used_still more p x is still))
            (record { future = z; there = set_same p.futures f z x is; still = still; same = both })))
          where
            z : Future T A
            z = with_task (lower x.task) x

            both : put_at f (h z.task) z (put_at f (lower x.task) x p) ≡ put_at f (lower y.task) y l
            both =
                ap (λ fs. record p { futures = fs }) (set_twice p.futures f z (with_task (h z.task) z))
                ∙ (ap (λ t. record p { futures = slice_set p.futures f (record x { task = t }) }) (change.swaps x.task)
                ∙ sym (ap (λ fs. record p { futures = fs }) (set_twice p.futures f y (with_task (lower y.task) y))))
        past_by false apart =
            subst
            (λ t. Comes h
            (if is_some (info_of t (abstract.release (abstract.wake t)))
            then more (appended g (put g (abstract.release (abstract.wake t)) l)) else put g (abstract.release (abstract.wake t)) l)
            (used wakes more g p))
            (sym (task_past f g (h x.task) p x apart))
            (told_by (is_some (info_of (task g p) new)))
          where
            told_by : (b : Bool)
                → Comes h (if b then more (appended g (put g new l)) else put g new l)
                (if b then more (appended g (put g new p)) else put g new p)
            told_by true =
                let c = apart_by apart true (slice_get p.futures g) refl in
                subst (λ u. Comes h (more u) (more (appended g (put g new p)))) c.same
                (past (appended g (put g new p)) c.future c.there c.still)
            told_by false = apart_by apart false (slice_get p.futures g) refl

        pub used_past : Comes h (used wakes more g (put_at f (h x.task) x p)) (used wakes more g p)
        used_past = past_by (f == g) refl

      -- and so it is where a waker is called
      module _ (h : AbstractTask T A → AbstractTask T A) (change : IsLater h) (more : Plain T A → Plain T A)
          (past : (p : Plain T A) (x : Future T A) → slice_get p.futures f ≡ Some x → is_still x.task.phase ≡ true
          → Comes h (more (put_at f (h x.task) x p)) (more p)) (p : Plain T A) (x : Future T A)
          (is : slice_get p.futures f ≡ Some x) (still : is_still x.task.phase ≡ true) where
        pub called_past : (o : Option A) → Comes h (on o (called wakes more) (put_at f (h x.task) x p)) (on o (called wakes more) p)
        called_past None = record { future = x; there = is; still = still; same = refl }
        called_past (Some w) = by (wakes w)
          where
            by : (o : Option ℕ)
                → Comes h (or o (λ g. used wakes more g (put_at f (h x.task) x p)) (see (Calls w) (put_at f (h x.task) x p)))
                (or o (λ g. used wakes more g p) (see (Calls w) p))
            by None = record { future = x; there = is; still = still; same = refl }
            by (Some g) = used_past h change more past g p x is still
