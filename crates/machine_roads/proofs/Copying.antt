-- A copy of a waker, and one that goes again.
use Rattle.std.proofs.Common.{◌≡◌, ℕ, ◌+◌, ◌-◌, ◌≤◌, ◌<◌, ◌==◌, ◌&&◌, not, Bool, true, false, List, is_some}
use Rattle.std.proofs.Common.{if◌then◌else◌, refl, sym, ap, subst, ◌∙◌, arith}
use Rattle.std.proofs.lemmas.Bool.Decides.{nat_tests}
use Rattle.task_moves.specs.AbstractTask as abstract
use Rattle.task_moves.specs.AbstractTask.{AbstractTask}
use Rattle.task_moves.specs.LocalTask.{info_of, told}
use Rattle.executor_model.specs.declared.op.Waker.{Waker}
use Rattle.executor_model.specs.declared.op.Waker.TheVariants.{Task, Outside}
use Rattle.executor_model.specs.Acts.{copied}
use Rattle.executor_model.specs.World.{World, tick_of}
use Rattle.plain_scheduler.specs.State.{Choice, Lying, Plain}
use Rattle.plain_scheduler.specs.Moves.{appended, let_go, put, task, tell}
use Rattle.plain_scheduler.specs.Moves as plain
use Rattle.machine_roads.specs.View.{Output, wakes}
use Rattle.machine_roads.specs.Road.{Follows}
use Rattle.machine_roads.specs.Alone.{CanCopy}
use Rattle.machine_roads.specs.Ticking.{CanPoll}
use Rattle.machine_roads.proofs.Changing.{put_again}
use Rattle.machine_roads.proofs.Lists.{get_below}
use Rattle.machine_roads.proofs.Puts.{put_by, put_is, task_put}
use Rattle.machine_roads.proofs.Used.{lower, none_told, put_twice}

-- a copy of a waker leaves who sleeps
pub copied_tick : (a : Waker) (w : World) (t : ℕ) → tick_of (copied w a) t ≡ tick_of w t
copied_tick (Task g) w t = refl
copied_tick (Outside x) w t = refl

pub copied_wakers : (a : Waker) (w : World) → (copied w a).sleepers.wakers ≡ w.sleepers.wakers
copied_wakers (Task g) w = refl
copied_wakers (Outside x) w = refl

pub copied_can : (a : Waker) (w : World) (t : ℕ) → CanPoll w t → CanPoll (copied w a) t
copied_can (Outside x) w t can = can
copied_can (Task g) w t can = record { living = can.living; roomed = can.roomed }

pub copied_due : (a : Waker) (q : Plain Output Waker) → (plain.copied wakes a q).due ≡ q.due
copied_due (Outside x) q = refl
copied_due (Task g) q = put_by (λ p. p.due) g (abstract.copy (task g q)) q (λ fs. refl)

-- where there is one copy already, another that goes is nothing
abbrev pub HasOne : Waker → Plain Output Waker → Type 0
HasOne (Task g) q = 1 ≤ (task g q).wakers
HasOne (Outside x) q = Unit {0}

pub copied_has : (a : Waker) (w : World) (q : Plain Output Waker) → Follows w q → CanCopy w a → HasOne a (plain.copied wakes a q)
copied_has (Outside x) w q follows can = tt
copied_has (Task g) w q follows can =
    let x = get_below q.futures g (subst (λ n. g < n) follows.many can.0) in
    subst (λ (t : AbstractTask Output Waker). 1 ≤ t.wakers)
    (sym (ap (task g) (put_is g (abstract.copy (task g q)) q x.0 x.1) ∙ task_put g (abstract.copy (task g q)) q x.0 x.1))
    (more (task g q).wakers)
  where
    more : (n : ℕ) → 1 ≤ n + 1
    more n = omega arith

pub lain_has : (a : Waker) (q : Plain Output Waker) (ls : List (Lying Waker)) → HasOne a q → HasOne a (record q { lying = ls })
lain_has (Task g) q ls one = one
lain_has (Outside x) q ls one = tt

none_of_four : (a b c : Bool) → (a && (b && (c && false))) ≡ false
none_of_four true true true = refl
none_of_four true true false = refl
none_of_four true false c = refl
none_of_four false b c = refl

pub goes_back : (c : Choice) (a : Waker) (w : World) (q : Plain Output Waker) → Follows w q → CanCopy w a → HasOne a q
    → let_go wakes (tell wakes c) a (plain.copied wakes a q) ≡ q
goes_back c (Outside x) w q follows can one = refl
goes_back c (Task g) w q follows can one =
    let more = tell wakes c in
    let x = get_below q.futures g (subst (λ n. g < n) follows.many can.0) in
    let qc : Plain Output Waker = put g (abstract.copy (task g q)) q in
    let u : AbstractTask Output Waker = told (abstract.copy (task g q)) in
    let here : task g qc ≡ u =
    ap (task g) (put_is g (abstract.copy (task g q)) q x.0 x.1) ∙ task_put g (abstract.copy (task g q)) q x.0 x.1 in
    let gone : abstract.release u ≡ lower u =
    ap (λ b. if abstract.is_idle u.phase && (not u.closed && (not u.handle && b)) then abstract.close (lower u) else lower u)
    (some (task g q).wakers one)
    ∙ ap (λ b. if b then abstract.close (lower u) else lower u) (none_of_four (abstract.is_idle u.phase) (not u.closed) (not u.handle)) in
    ap (λ t. if is_some (info_of t (abstract.release t)) then more (appended g (put g (abstract.release t) qc))
    else put g (abstract.release t) qc) here
    ∙ (ap (λ n. if is_some (info_of u n) then more (appended g (put g n qc)) else put g n qc) gone
    ∙ (ap (λ b. if b then more (appended g (put g (lower u) qc)) else put g (lower u) qc) (none_told u (lower u) refl)
    ∙ (put_twice g (abstract.copy (task g q)) (lower u) q x.0 x.1
    ∙ (ap (λ n. put g (record (told (task g q)) { wakers = n }) q) (back (task g q).wakers) ∙ put_again g w q follows))))
  where
    some : (n : ℕ) → 1 ≤ n → (n + 1 - 1 == 0) ≡ false
    some n is = grind (arith, nat_tests)

    back : (n : ℕ) → n + 1 - 1 ≡ n
    back n = omega arith
