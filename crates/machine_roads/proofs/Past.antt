-- Where a task is queued, or its future dropped, a waker of it may go before one that lies is told or after.
use Rattle.std.proofs.Common.{◌≡◌, ℕ, ◌-◌, min, cond, Bool, true, false, List, length}
use Rattle.std.proofs.Common.{Option, Some, None, slice_get, slice_set, refl}
use Rattle.task_moves.specs.AbstractTask.{AbstractTask}
use Rattle.plain_scheduler.specs.State.{Choice, Calls, Future, Lying, Plain}
use Rattle.plain_scheduler.specs.Lists.{any, on, or}
use Rattle.plain_scheduler.specs.Moves.{called, is_called, see, tell, told_at}
use Rattle.plain_scheduler.specs.Moves.{used}
use Rattle.machine_roads.proofs.Puts.{put_at}
use Rattle.machine_roads.proofs.Used.{Comes, IsLater, is_still, used_past}

module _ {T A : Type 0} (f : ℕ) (wakes : A → Option ℕ) (h : AbstractTask T A → AbstractTask T A) (change : IsLater h) (c : Choice)
    (p : Plain T A) (x : Future T A) (is : slice_get p.futures f ≡ Some x) (still : is_still x.task.phase ≡ true) where
  abbrev l : Plain T A
  l = put_at f (h x.task) x p

  abbrev at : ℕ
  at = min c.tells (length p.lying - 1)

  here : (q : Plain T A) → slice_get q.futures f ≡ Some x → Comes f wakes h (put_at f (h x.task) x q) q
  here q is = record { future = x; there = is; still = still; same = refl }

  call : (ls : List (Lying A)) (w : A) (o : Option ℕ)
      → Comes f wakes h (or o (λ g. used wakes (λ s. s) g (record l { lying = ls })) (see (Calls w) (record l { lying = ls })))
      (or o (λ g. used wakes (λ s. s) g (record p { lying = ls })) (see (Calls w) (record p { lying = ls })))
  call ls w None = here (see (Calls w) (record p { lying = ls })) is
  call ls w (Some g) =
      used_past f wakes h change (λ s. s) (λ p x is still. record { future = x; there = is; still = still; same = refl }) g
      (record p { lying = ls }) x is still

  waker : (ls : List (Lying A)) (o : Option A)
      → Comes f wakes h (on o (called wakes (λ s. s)) (record l { lying = ls }))
      (on o (called wakes (λ s. s)) (record p { lying = ls }))
  waker ls None = here (record p { lying = ls }) is
  waker ls (Some w) = call ls w (wakes w)

  one : (o : Option (Lying A))
      → Comes f wakes h
      (on o (λ y q. on y.waker (called wakes (λ s. s)) (record q {
        lying = slice_set q.lying at (record y { waker = None });
      })) l)
      (on o (λ y q. on y.waker (called wakes (λ s. s)) (record q {
        lying = slice_set q.lying at (record y { waker = None });
      })) p)
  one None = here p is
  one (Some y) = waker (slice_set p.lying at (record y { waker = None })) y.waker

  by : (b : Bool) → Comes f wakes h (cond b l (told_at wakes at l)) (cond b p (told_at wakes at p))
  by true = here p is
  by false = one (slice_get p.lying at)

  pub tell_past : Comes f wakes h (tell wakes c (put_at f (h x.task) x p)) (tell wakes c p)
  tell_past = by (any is_called p.lying)
