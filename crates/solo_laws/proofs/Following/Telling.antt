-- A sleeper that is told is the one that lay down last, and the plain scheduler tells it too.
use Rattle.std.proofs.Common.{◌≡◌, ℕ, zero, suc, ◌-◌, ◌<◌, ◌≤◌, ◌==◌, min, cond, Bool, true, false, List, [], ◌∷◌, length, map, take}
use Rattle.std.proofs.Common.{Option, Some, None, slice_get, slice_set, refl, sym, ap, subst, ◌∙◌, arith}
use Rattle.std.proofs.lemmas.Bool.Decides.{nat_tests}
use Rattle.executor_parts.specs.Sleepers.{last_waker, without_last, waker_in as waker_of}
use Rattle.solo.specs.declared.names.Task.{Task}
use Rattle.solo.specs.declared.names.SoloWaker.{SoloWaker}
use Rattle.solo.specs.declared.names.SoloWaker.TheVariants.{Task as OfTask, Outside}
use Rattle.solo.specs.declared.solo.Solo.{Solo}
use Rattle.solo.specs.Cells.{choose}
use Rattle.solo.specs.Turns as turns
use Rattle.plain_scheduler.specs.State.{Due, Lying, Choice, Plain}
use Rattle.plain_scheduler.specs.Lists.{any, on}
use Rattle.plain_scheduler.specs.Moves.{is_called, called, used, tell, told_at}
use Rattle.solo_laws.specs.Road.{FollowsBut, HasLife, wakes, is_told, wakers_in}
use Rattle.solo_laws.proofs.Following.Lists.{get_below, get_take, map_take, length_set, length_map}
use Rattle.solo_laws.proofs.Following.Quiet.{quietly, used_long}
use Rattle.solo_laws.proofs.Following.Lying.{waker_at, all_waking, waking_at, called_one, last_called, one_called, its_waker_of}

equal_test : (n m : ℕ) → n ≡ m → (n == m) ≡ true
equal_test n m is = grind (arith, nat_tests)

min_last : (n i : ℕ) → i < n → min n i ≡ i
min_last n i below = omega arith

module _ {B : Type 0} where
  got : (xs : List (ℕ × B)) (i : ℕ) → waker_of (slice_get xs i) ≡ slice_get (map (λ (e : ℕ × B). e.1) xs) i
  got [] i = refl
  got (x ∷ xs) zero = refl
  got (x ∷ xs) (suc i) = got xs i

module _ {T X : Type 0} (c : Choice) where
  nobody : (at : ℕ) (p : Plain T (SoloWaker X)) → slice_get p.lying at ≡ None → told_at wakes at p ≡ p
  nobody at p is =
      ap
      (λ (o : Option (Lying (SoloWaker X))).
      on o (λ l p. on l.waker (called wakes (λ s. s)) (record p { lying = slice_set p.lying at (called_one l) })) p)
      is

  -- where one is told already, or nobody lies, nothing is done
  pub tells_none : (ls : List (Lying (SoloWaker X))) (p : Plain T (SoloWaker X)) → p.lying ≡ ls → is_told ls ≡ true
      → tell wakes c p ≡ p
  tells_none [] p is told =
      let at : ℕ = min c.tells (length p.lying - 1) in
      ap (λ b. cond b p (told_at wakes (min c.tells (length p.lying - 1)) p)) (ap (any is_called) is)
      ∙ nobody at p (ap (λ ls. slice_get ls at) is)
  tells_none (l ∷ ls) p is told =
      ap (λ b. cond b p (told_at wakes (min c.tells (length p.lying - 1)) p)) (ap (any is_called) is ∙ told)

  -- else the last is called
  pub tells_last : (p : Plain T (SoloWaker X)) (i : ℕ) (l : Lying (SoloWaker X)) (w : SoloWaker X) → any is_called p.lying ≡ false
      → suc i ≡ length p.lying
      → length p.lying ≤ c.tells → slice_get p.lying i ≡ Some l → l.waker ≡ Some w
      → tell wakes c p ≡ called wakes (λ s. s) w (record p { lying = slice_set p.lying i (called_one l) })
  tells_last p i l w none long many here waker =
      ap (λ b. cond b p (told_at wakes (min c.tells (length p.lying - 1)) p)) none
      ∙ (ap (λ at. told_at wakes at p) (place c.tells (length p.lying) i long many)
      ∙ (ap
      (λ (o : Option (Lying (SoloWaker X))). on o (λ l p. on l.waker (called wakes (λ s. s))
      (record p { lying = slice_set p.lying i (called_one l) })) p)
      here
      ∙ ap (λ (o : Option (SoloWaker X)). on o (called wakes (λ s. s))
      (record p { lying = slice_set p.lying i (called_one l) })) waker))
    where
      place : (tells n i : ℕ) → suc i ≡ n → n ≤ tells → min tells (n - 1) ≡ i
      place tells n i long many = omega (arith, long, many)

module _ {T X : Type 0} (c : Choice) where
  told_at_long : (at : ℕ) (p : Plain T (SoloWaker X)) → length (told_at wakes at p).futures ≡ length p.futures
  told_at_long at p = by (slice_get p.lying at)
    where
      call : (l : Lying (SoloWaker X)) (w : SoloWaker X)
          → length (called wakes (λ s. s) w (record p { lying = slice_set p.lying at (called_one l) })).futures ≡ length p.futures
      call l (OfTask t) = used_long t.number (record p { lying = slice_set p.lying at (called_one l) })
      call l (Outside w) = refl

      waker : (l : Lying (SoloWaker X)) (o : Option (SoloWaker X))
          → length (on o (called wakes (λ s. s)) (record p { lying = slice_set p.lying at (called_one l) })).futures
          ≡ length p.futures
      waker l None = refl
      waker l (Some w) = call l w

      by : (o : Option (Lying (SoloWaker X)))
          → length (on o (λ l p. on l.waker (called wakes (λ s. s))
          (record p { lying = slice_set p.lying at (called_one l) })) p).futures
          ≡ length p.futures
      by None = refl
      by (Some l) = waker l l.waker

  -- no future comes by it
  pub tell_long : (p : Plain T (SoloWaker X)) → length (tell wakes c p).futures ≡ length p.futures
  tell_long p = by (any is_called p.lying)
    where
      by : (b : Bool) → length (cond b p (told_at wakes (min c.tells (length p.lying - 1)) p)).futures ≡ length p.futures
      by true = refl
      by false = told_at_long (min c.tells (length p.lying - 1)) p

module _ {F T X : Type 0} (aside : Option Due) (name : ℕ → Task) (c : Choice) where
  -- the one that lay down last has the last waker, where all have theirs
  pub last_facts : (s : Solo F T X) (p : Plain T (SoloWaker X)) (i : ℕ) (l : Lying (SoloWaker X)) (w : SoloWaker X)
      → FollowsBut aside name s p → any is_called p.lying ≡ false → suc i ≡ length p.lying → slice_get p.lying i ≡ Some l
      → l.waker ≡ Some w
      → (turns.is_full s ≡ true) × (last_waker s.sleepers.wakers ≡ Some w)
  last_facts s p i l w r none long here waker =
      let wakers = s.sleepers.wakers in
      let many : length wakers ≡ length p.lying =
      sym (length_map (λ e. e.1) wakers) ∙ (ap length r.asleep.wakers ∙ all_waking p.lying none) in
      let at : length wakers - 1 ≡ i = omega (arith, many, long) in
      let at_last : slice_get (wakers_in p.lying) i ≡ Some w = waking_at p.lying i none ∙ (ap waker_at here ∙ waker) in (
        equal_test (length wakers) s.sleepers.count (many ∙ sym r.asleep.count),
        got wakers (length wakers - 1)
            ∙ (ap (λ ws. slice_get ws (length wakers - 1)) r.asleep.wakers ∙ (ap (slice_get (wakers_in p.lying)) at ∙ at_last)),
      )

  calls_last : (s : Solo F T X) (p : Plain T (SoloWaker X)) (i : ℕ) (l : Lying (SoloWaker X)) (w : SoloWaker X)
      → FollowsBut aside name s p → HasLife 1 s.lines
      → any is_called p.lying ≡ false → suc i ≡ length p.lying → slice_get p.lying i ≡ Some l → l.waker ≡ Some w
      → FollowsBut aside name (turns.handed (record s { notified = true }))
      (called wakes (λ s. s) w (record p { lying = slice_set p.lying i (called_one l) }))
  calls_last s p i l w r life none long here waker =
      let wakers = s.sleepers.wakers in
      let many : length wakers ≡ length p.lying =
      sym (length_map (λ e. e.1) wakers) ∙ (ap length r.asleep.wakers ∙ all_waking p.lying none) in
      let facts = last_facts s p i l w r none long here waker in
      let at : length wakers - 1 ≡ i = omega (arith, many, long) in
      let at_last : slice_get (wakers_in p.lying) i ≡ Some w = waking_at p.lying i none ∙ (ap waker_at here ∙ waker) in
      subst (λ b. FollowsBut aside name
      (choose b
      (turns.handed_by (last_waker wakers) (record s { notified = true; sleepers = without_last s.sleepers }))
      (record s { notified = true }))
      (called wakes (λ s. s) w (record p { lying = slice_set p.lying i (called_one l) })))
      (sym facts.0)
      (subst (λ o. FollowsBut aside name
      (turns.handed_by o (record s { notified = true; sleepers = without_last s.sleepers }))
      (called wakes (λ s. s) w (record p { lying = slice_set p.lying i (called_one l) })))
      (sym facts.1)
      (by w at_last
      (record {
        numbered = r.numbered;
        tasks = r.tasks;
        within = r.within;
        queued = r.queued;
        once = r.once;
        ready = r.ready;
        awaiters = r.awaiters;
        inside = r.inside;
        asleep = record {
          wakers =
              map_take (λ e. e.1) (length wakers - 1) wakers
              ∙ (ap (take (length wakers - 1)) r.asleep.wakers
              ∙ (ap (λ n. take n (wakers_in p.lying)) at ∙ sym (last_called p.lying i l none long)));
          count = r.asleep.count ∙ sym (length_set p.lying i (called_one l));
          flag = sym (one_called p.lying i l (omega (arith, long)));
          callers = λ j t is. r.asleep.callers j t
              (get_take i (wakers_in p.lying) j (OfTask t) (sym
              (ap (λ ws. slice_get ws j) (last_called p.lying i l none long)) ∙ is));
        };
      })))
    where
      by : (w : SoloWaker X) → slice_get (wakers_in p.lying) i ≡ Some w
          → FollowsBut aside name (record s { notified = true; sleepers = without_last s.sleepers })
          (record p { lying = slice_set p.lying i (called_one l) })
          → FollowsBut aside name (turns.handed_by (Some w) (record s { notified = true; sleepers = without_last s.sleepers }))
          (called wakes (λ s. s) w (record p { lying = slice_set p.lying i (called_one l) }))
      by (OfTask t) last q =
          let it = r.asleep.callers i t last in
          subst
          (λ u. FollowsBut aside name (turns.sleeper_woken u (record s { notified = true; sleepers = without_last s.sleepers }))
          (used wakes (λ s. s) t.number (record p { lying = slice_set p.lying i (called_one l) })))
          it.1
          (quietly aside name t.number (record s { notified = true; sleepers = without_last s.sleepers })
          (record p { lying = slice_set p.lying i (called_one l) }) it.0 q life)
      by (Outside y) last q = record {
        numbered = q.numbered;
        tasks = q.tasks;
        within = q.within;
        queued = q.queued;
        once = q.once;
        ready = q.ready;
        asleep = q.asleep;
        awaiters = q.awaiters;
        inside = q.inside;
      }

  told_none : (ls : List (Lying (SoloWaker X))) (s : Solo F T X) (p : Plain T (SoloWaker X)) → p.lying ≡ ls → is_told ls
      ≡ false → length p.lying ≤ c.tells
      → FollowsBut aside name s p → HasLife 1 s.lines → FollowsBut aside name (turns.handed (record s { notified = true }))
      (tell wakes c p)
  told_none [] s p is told many r life = absurd cc
  told_none (m ∷ ms) s p is told many r life =
      let none : any is_called p.lying ≡ false = ap (any is_called) is ∙ told in
      let i : ℕ = length ms in
      let long : suc i ≡ length p.lying = sym (ap length is) in
      let l = get_below p.lying i (omega (arith, long)) in
      let w = its_waker_of p.lying i l.0 none l.1 in
      subst (FollowsBut aside name (turns.handed (record s { notified = true })))
      (sym (tells_last c p i l.0 w.0 none long many l.1 w.1))
      (calls_last s p i l.0 w.0 r life none long l.1 w.1)

  pub told_by : (b : Bool) (s : Solo F T X) (p : Plain T (SoloWaker X)) → s.notified ≡ b → length p.lying ≤ c.tells
      → FollowsBut aside name s p → HasLife 1 s.lines
      → FollowsBut aside name (choose b s (turns.handed (record s { notified = true }))) (tell wakes c p)
  told_by true s p is many r life =
      subst (FollowsBut aside name s) (sym (tells_none c p.lying p refl (sym r.asleep.flag ∙ is))) r
  told_by false s p is many r life = told_none p.lying s p refl (sym r.asleep.flag ∙ is) many r life

  -- the executor tells whom the plain scheduler tells
  pub told : (s : Solo F T X) (p : Plain T (SoloWaker X)) → length p.lying ≤ c.tells → FollowsBut aside name s p
      → HasLife 1 s.lines
      → FollowsBut aside name (turns.told s) (tell wakes c p)
  told s p many r life = told_by s.notified s p refl many r life
