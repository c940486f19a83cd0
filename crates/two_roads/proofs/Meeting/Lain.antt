-- Who lies with a waker, and lies again with another: no more lie uncalled than before.
use Rattle.std.proofs.Common.{◌≡◌, ℕ, zero, suc, ◌≤◌, ◌<◌, ◌-◌, cond, if◌then◌else◌, Bool, true, false, List, [], ◌∷◌, length, map}
use Rattle.std.proofs.Common.{min}
use Rattle.std.proofs.Common.{filter, find, is_some, Option, Some, None, slice_get, slice_set, refl, sym, ap, subst, arith}
use Rattle.task_moves.specs.AbstractTask as abstract
use Rattle.task_moves.specs.AbstractTask.{AbstractTask}
use Rattle.task_moves.specs.LocalTask.{info_of}
use Rattle.executor_model.specs.declared.op.Waker.{Waker}
use Rattle.executor_model.specs.declared.op.Waker.TheVariants.{Task, Outside}
use Rattle.plain_scheduler.specs.State.{Choice, Later, Lying, Plain, Who}
use Rattle.plain_scheduler.specs.Lists.{any, on, or}
use Rattle.plain_scheduler.specs.Moves.{appended, becomes, called, copied, is_called, let_go, lies, put, task, tell, told_at}
use Rattle.plain_scheduler.specs.Takes as takes
use Rattle.plain_scheduler.specs.Usual.{lies_uncalled}
use Rattle.machine_roads.specs.Refused.{OneMoreLies}
use Rattle.machine_roads.specs.Road.{uncalled}
use Rattle.machine_roads.specs.View.{Output, wakes}
use Rattle.machine_roads.proofs.Puts.{put_lying}

abbrev lie : Plain Output Waker → ℕ
lie p = length (uncalled p.lying)

abbrev Fewer : Plain Output Waker → Plain Output Waker → Type 0
Fewer p q = lie q ≤ lie p

same_lie : (p q : Plain Output Waker) → q.lying ≡ p.lying → Fewer p q
same_lie p q is = subst (λ (ls : List (Lying Waker)). length (uncalled ls) ≤ lie p) (sym is) (omega arith)

-- one of them is called
set_fewer : (ls : List (Lying Waker)) (at : ℕ) (l : Lying Waker) → l.waker ≡ None
    → length (uncalled (slice_set ls at l)) ≤ length (uncalled ls)
set_fewer [] at l none = omega arith
set_fewer (k ∷ ls) zero l none =
    subst
    (λ (o : Option Waker). length (or o (λ waker. (l.who, waker) ∷ uncalled ls) (uncalled ls))
    ≤ length (or k.waker (λ waker. (k.who, waker) ∷ uncalled ls) (uncalled ls)))
    (sym none) (by k.waker)
  where
    by : (o : Option Waker) → length (uncalled ls) ≤ length (or o (λ waker. (k.who, waker) ∷ uncalled ls) (uncalled ls))
    by None = omega arith
    by (Some w) = omega arith
set_fewer (k ∷ ls) (suc at) l none = by k.waker (set_fewer ls at l none)
  where
    by : (o : Option Waker) → length (uncalled (slice_set ls at l)) ≤ length (uncalled ls)
        → length (or o (λ waker. (k.who, waker) ∷ uncalled (slice_set ls at l)) (uncalled (slice_set ls at l)))
        ≤ length (or o (λ waker. (k.who, waker) ∷ uncalled ls) (uncalled ls))
    by None few = few
    by (Some w) few = omega (arith, few)

becomes_lying : (more : Plain Output Waker → Plain Output Waker) → ((p : Plain Output Waker) → Fewer p (more p)) → (f : ℕ)
    (new : AbstractTask Output Waker) (p : Plain Output Waker) → Fewer p (becomes wakes more f new p)
becomes_lying more few f new p = by (is_some (info_of (task f p) new))
  where
    at_put : (put f new p).lying ≡ p.lying
    at_put = put_lying f new p

    by : (b : Bool) → Fewer p (if b then more (appended f (put f new p)) else put f new p)
    by true =
        (let one = few (appended f (put f new p)) in let two = same_lie p (appended f (put f new p)) at_put in omega (arith, one, two))
    by false = same_lie p (put f new p) at_put

same_few : (p : Plain Output Waker) → Fewer p p
same_few p = omega arith

called_fewer : (w : Waker) (p : Plain Output Waker) → Fewer p (called wakes (λ s. s) w p)
called_fewer (Task f) p = becomes_lying (λ s. s) same_few f (abstract.release (abstract.wake (task f p))) p
called_fewer (Outside x) p = omega arith

told_fewer : (at : ℕ) (p : Plain Output Waker) → Fewer p (told_at wakes at p)
told_fewer at p = by (slice_get p.lying at)
  where
    by : (o : Option (Lying Waker))
        → Fewer p
        (on o (λ l p. on l.waker (called wakes (λ s. s)) (record p { lying = slice_set p.lying at (record l { waker = None }) })) p)
    by None = omega arith
    by (Some l) = waker l.waker
      where
        q : Plain Output Waker
        q = record p { lying = slice_set p.lying at (record l { waker = None }) }

        few : Fewer p q
        few = set_fewer p.lying at (record l { waker = None }) refl

        waker : (o : Option Waker) → Fewer p (on o (called wakes (λ s. s)) q)
        waker None = few
        waker (Some w) = (let more = called_fewer w q in omega (arith, more, few))

module _ (c : Choice) where
  tell_fewer : (p : Plain Output Waker) → Fewer p (tell wakes c p)
  tell_fewer p = by (any is_called p.lying)
    where
      by : (b : Bool) → Fewer p (if b then p else told_at wakes (min c.tells (length p.lying - 1)) p)
      by true = omega arith
      by false = told_fewer (min c.tells (length p.lying - 1)) p

  let_go_fewer : (w : Waker) (p : Plain Output Waker) → Fewer p (let_go wakes (tell wakes c) w p)
  let_go_fewer (Task f) p = becomes_lying (tell wakes c) tell_fewer f (abstract.release (task f p)) p
  let_go_fewer (Outside x) p = omega arith

copied_same : (w : Waker) (p : Plain Output Waker) → (copied wakes w p).lying ≡ p.lying
copied_same (Task f) p = put_lying f (abstract.copy (task f p)) p
copied_same (Outside x) p = refl

module _ (who : Who) (w : Waker) where
  abbrev with_it : Lying Waker → Lying Waker
  with_it l = if lies who l then record l { waker = Some w } else l

  abbrev many_of : List (Lying Waker) → ℕ
  many_of ls = length (filter (lies who) ls)

  -- nobody of them is it
  others_stay : (ls : List (Lying Waker)) → many_of ls ≡ 0 → map with_it ls ≡ ls
  others_stay [] none = refl
  others_stay (l ∷ ls) none = by (lies who l) none (others_stay ls)
    where
      by : (b : Bool) → length (cond b (l ∷ filter (lies who) ls) (filter (lies who) ls)) ≡ 0 → (many_of ls ≡ 0 → map with_it ls ≡ ls)
          → cond b (record l { waker = Some w }) l ∷ map with_it ls ≡ l ∷ ls
      by true none rest = absurd cc
      by false none rest = ap (λ ls. l ∷ ls) (rest none)

  again_fewer : (ls : List (Lying Waker)) → many_of ls ≤ 1 → (l : Lying Waker) → find (lies who) ls ≡ Some l → is_some l.waker ≡ true
      → length (uncalled (map with_it ls)) ≤ length (uncalled ls)
  again_fewer [] once l is has = absurd cc
  again_fewer (k ∷ ls) once l is has = by (lies who k) once is (others_stay ls) (again_fewer ls)
    where
      some_is : ◌≡◌ {A = Option (Lying Waker)} (Some k) (Some l) → k ≡ l
      some_is same = cc

      has_one : (o : Option Waker) → is_some o ≡ true → suc (length (uncalled ls))
          ≤ length (or o (λ waker. (k.who, waker) ∷ uncalled ls) (uncalled ls))
      has_one None has = absurd cc
      has_one (Some w) has = omega arith

      waker : (o : Option Waker) → length (uncalled (map with_it ls)) ≤ length (uncalled ls)
          → length (or o (λ waker. (k.who, waker) ∷ uncalled (map with_it ls)) (uncalled (map with_it ls)))
          ≤ length (or o (λ waker. (k.who, waker) ∷ uncalled ls) (uncalled ls))
      waker None few = few
      waker (Some w) few = omega (arith, few)

      by : (b : Bool) → length (cond b (k ∷ filter (lies who) ls) (filter (lies who) ls)) ≤ 1
          → cond b (Some k) (find (lies who) ls) ≡ Some l → (many_of ls ≡ 0 → map with_it ls ≡ ls)
          → (many_of ls ≤ 1 → (l : Lying Waker) → find (lies who) ls ≡ Some l → is_some l.waker ≡ true
          → length (uncalled (map with_it ls)) ≤ length (uncalled ls))
          → length (uncalled (cond b (record k { waker = Some w }) k ∷ map with_it ls)) ≤ length (uncalled (k ∷ ls))
      by true once is stay rest =
          subst
          (λ (ks : List (Lying Waker)). suc (length (uncalled ks))
          ≤ length (or k.waker (λ waker. (k.who, waker) ∷ uncalled ls) (uncalled ls)))
          (sym (stay (omega (arith, once))))
          (has_one k.waker (subst (λ (l : Lying Waker). is_some l.waker ≡ true) (sym (some_is is)) has))
      by false once is stay rest = waker k.waker (rest once l is has)

  -- one more lies behind that, refused memory or not, only where it lay not with a waker
  pub lay_not : (c : Choice) (q : Plain Output Waker) → many_of q.lying ≤ 1 → OneMoreLies q (takes.rests wakes c Later who w q)
      → lies_uncalled who q.lying ≡ false
  lay_not c q once more = by (find (lies who) q.lying) refl more
    where
      z : Plain Output Waker
      z = copied wakes w q

      by : (o : Option (Lying Waker)) → find (lies who) q.lying ≡ o
          → lie q < lie (or o (λ l. or l.waker (λ old. takes.lain_again wakes c who w old z) (takes.lain wakes c who w z))
          (takes.lain wakes c who w z))
          → or o (λ l. is_some l.waker) false ≡ false
      by None is more = refl
      by (Some l) is more = waker l.waker refl more
        where
          waker : (o : Option Waker) → l.waker ≡ o
              → lie q < lie (or o (λ old. takes.lain_again wakes c who w old z) (takes.lain wakes c who w z)) → is_some o ≡ false
          waker None has more = refl
          waker (Some old) has more =
              let lain : Plain Output Waker = record z { lying = map with_it z.lying } in
              let few = let_go_fewer c old lain in
              let same = copied_same w q in
              let again : length (uncalled (map with_it z.lying)) ≤ length (uncalled q.lying) =
              subst (λ ls. length (uncalled (map with_it ls)) ≤ length (uncalled q.lying)) (sym same)
              (again_fewer q.lying once l is (ap (λ (o : Option Waker). is_some o) has)) in
              absurd (omega (arith, more, few, again))
