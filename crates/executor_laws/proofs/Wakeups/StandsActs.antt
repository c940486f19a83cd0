-- For some_standing_is_called.
-- What tells sleepers, and the waking up, the leaving and the making of a tick, keep what holds of each tick and run.
use Rattle.std.proofs.Common.{◌≡◌, ◌≢◌, ◌∙◌, ℕ, zero, suc, ◌+◌, ◌≤◌, List, [], ◌∷◌, ◌++◌, length, get_or, Bool, true, false}
use Rattle.std.proofs.Common.{cond, refl, sym, ap, subst, ◌⊎◌, inl, inr, ⊎_elim, arith, length-append}
use Rattle.std.specs.Prelude.{◌-◌, Option, Some, None, nat_lt, not, slice_get, is_none}
use Rattle.std.{proofs.lemmas.List.get_or_past, proofs.lemmas.Bool.Decides.nat_tests}
use Rattle.executor_parts.specs.Sleepers.{Sleepers, waker_in, waker_of, last_waker, without_last, woken_up}
use Rattle.executor_laws.proofs.Types.{Move, Reply, Event, Hold, Op, Polled, Sleeping, SleeperOp, TickOp, UserOp, Waker, Task}
use Rattle.executor_model.specs.ActsOfSleepers.{call_of, call_sleeper, wake_up_by, given_back, hand_out_by, leave_sleepers_by}
use Rattle.executor_model.specs.ActsOfSleepers.{make_tick_by, polled_as, sleeper_goes, tell_and_return}
use Rattle.executor_model.specs.World.{World, Ticker, Awake, Asleep, Left, Done, done, log, place_of, put_place, Run}
use Rattle.executor_model.specs.{Acts.copy_by, Acts.wake, Weights.same, Steps.lives, SleepersAgree.sleeps}
use Rattle.executor_model.proofs.{Steps.SleepersCounting.asleep, Steps.SleepersLists.given_back-same}
use Rattle.executor_laws.proofs.Wakeups.Listed.{Entry, sum, entry_of, kept_of, astray, misplaced_of, at_entry, sum-last}
use Rattle.executor_laws.proofs.Wakeups.Sitting.{IsOther, IsSame, cond-other, eq-other, eq-self, eq_who, holds_it, lives_in}
use Rattle.executor_laws.proofs.Wakeups.Stands.{View, view, Doing, Stands, KeepsStands, Nothing, keeps-same, with-nothing}
use Rattle.executor_laws.proofs.Wakeups.StandsNothing.{nothing-up, nothing-leave, nothing-call, nothing-end, nothing-both}
use Rattle.executor_laws.proofs.Wakeups.StandsSeats.{Seated, field-set, sleeps-apart, put-lives, put-made, put-over, put-place}
use Rattle.executor_laws.proofs.Wakeups.StandsWorlds.{HasSlept, other-entry, other-kept, other-misplaced, woken_up-own}
use Rattle.executor_laws.proofs.Wakeups.Sitting.{owned_in, placed-in, self, who_cases}
use Rattle.executor_laws.proofs.Wakeups.StandsSeats.{seated-and, seated-other, seated-same, up-apart}
use Rattle.executor_laws.proofs.Wakeups.StandsWorlds.{view-same, misplaced-few, entries-astray, place_here}
use Rattle.executor_laws.proofs.Wakeups.StandsOwn.{own-call, own-then, own-hand_out, own-leave, own-made, own-up}
use Rattle.executor_laws.proofs.Wakeups.Watched.{Watched, called_at, watched, watched-push}
use Rattle.executor_laws.proofs.{Types.Outside, Types.WakerOp, Types.TickOrRun, Wakeups.Listed.sum-woken_up}
use Rattle.executor_laws.proofs.{Wakeups.Stands.drops_who, Wakeups.StandsNothing.nothing-of, Wakeups.Beside.Beside}
use Rattle.executor_laws.proofs.{Wakeups.Beside.beside-move, Wakeups.StandsAsleep.by_who, Wakeups.StandsAsleep.nothing-goes}

-- it wakes up

view-woken_up : (t u : TickOrRun) (n : ℕ) (x : Ticker) (w v : World) → HasSlept w → place_here w u ≡ Asleep n →
    v.ticks ≡ (put_place w u x).ticks → v.runs ≡ (put_place w u x).runs → v.own ≡ w.own →
    ((f : Entry → ℕ) → sum f v.sleepers.wakers ≡ sum f (woken_up n w.sleepers).wakers) → v.gone ≡ w.gone →
    v.trace ≡ w.trace → t ≢ u →
    view t v ≡ view t w
view-woken_up t u n x w v slept e a c o b g s k = view-same t w v
    (seated-and t w (put_place w u x) v (seated-other t u w x k) (seated-same t (put_place w u x) v a c))
    (b (entry_of t) ∙ (let z : sum (entry_of t) (woken_up n w.sleepers).wakers ≡ sum (entry_of t) w.sleepers.wakers =
    omega (arith, sum-woken_up (entry_of t) n w.sleepers, other-entry w slept u n e t k) in z))
    (λ y. b (misplaced_of t y)
    ∙ (let z : sum (misplaced_of t y) (woken_up n w.sleepers).wakers ≡ sum (misplaced_of t y) w.sleepers.wakers = omega (
      arith,
      sum-woken_up (misplaced_of t y) n w.sleepers,
      other-misplaced w slept u n e t k y,
    ) in z))
    (λ j. b (kept_of t j)
    ∙ (let z : sum (kept_of t j) (woken_up n w.sleepers).wakers ≡ sum (kept_of t j) w.sleepers.wakers = omega (
      arith,
      sum-woken_up (kept_of t j) n w.sleepers,
      other-kept w slept u n e t k j,
    ) in z))
    (ap (owned_in t) o)
    g
    s

up-same : (x : Ticker) (t u : TickOrRun) (w : World) → HasSlept w → place_here w u ≡ x → t ≢ u →
    KeepsStands t w (Op.Tick (TickOp.WakeUp u) ∷ []) (wake_up_by x w u)
up-same Awake t u w slept e n = keeps-same t w _ (wake_up_by Awake w u) refl (nothing-up t u n) (nothing-of t [] refl)
up-same Left t u w slept e n = keeps-same t w _ (wake_up_by Left w u) refl (nothing-up t u n) (nothing-of t [] refl)
up-same (Asleep m) t u w slept e n =
    keeps-same t w _ (wake_up_by (Asleep m) w u) (view-woken_up t u m Awake w (wake_up_by (Asleep m) w u).world slept e refl refl refl
    (λ v. refl) refl refl n) (nothing-up t u n) (nothing-goes t (waker_of m w.sleepers.wakers))

up-own : (x : Ticker) (t : TickOrRun) (w : World) → HasSlept w → place_here w t ≡ x → sum (entry_of t) w.sleepers.wakers ≤ 1 →
    KeepsStands t w (Op.Tick (TickOp.WakeUp t) ∷ []) (wake_up_by x w t)
up-own Awake t w slept e one =
    own-up t (view t w) (view t w) refl refl refl refl refl refl (ap sleeps e) one (slept.placed t)
up-own Left t w slept e one =
    own-up t (view t w) (view t w) refl refl refl refl refl refl (ap sleeps e) one (slept.placed t)
up-own (Asleep n) t w slept e one =
    let v : World = (wake_up_by (Asleep n) w t).world in
    let here : place_here w t ≢ Left = sleeps-apart (place_here w t) n e in
    let now : place_here v t ≡ Awake = put-place t w Awake here in
    let none : sum (entry_of t) (woken_up n w.sleepers).wakers ≡ 0 = woken_up-own w slept t n e one in
    own-then t (view t w) (view t v) (Op.Tick (TickOp.WakeUp t) ∷ []) (sleeper_goes (waker_of n w.sleepers.wakers))
    (nothing-goes t (waker_of n w.sleepers.wakers))
    (own-up t (view t w) (view t v) refl refl (put-made t w Awake) (put-over t w Awake) refl
    (put-lives t w Awake (up-apart Awake refl) here) (ap sleeps now)
    (omega (arith, none))
    (omega (arith, misplaced-few t (place_here v t) (woken_up n w.sleepers).wakers, none)))

pub stands-wake_up : (t u : TickOrRun) (w : World) → HasSlept w →
    KeepsStands t w (Op.Tick (TickOp.WakeUp u) ∷ []) (wake_up_by (place_of w u) w u)
stands-wake_up t u w slept r m b h =
    by_who t u w (λ n. Op.Tick (TickOp.WakeUp n) ∷ []) (λ n. wake_up_by (place_of w n) w n)
    (up-same (place_of w u) t u w slept (sym (placed-in w u)))
    (up-own (place_of w t) t w slept (sym (placed-in w t)) h.one) r m b h

-- it leaves

nothing-tell : (t : TickOrRun) (b : Bool) → Nothing t (tell_and_return b)
nothing-tell t true = nothing-of t _ refl
nothing-tell t false = nothing-of t _ refl

given_back-sum : (s : Sleepers Sleeping) (f : Entry → ℕ) → sum f (given_back s).wakers ≡ sum f s.wakers
given_back-sum s f = ap (sum f) (given_back-same s)

view-left : (t u : TickOrRun) (w : World) → t ≢ u → view t (leave_sleepers_by Awake w u).world ≡ view t w
view-left t u w k = view-same t w (leave_sleepers_by Awake w u).world
    (let v : World = record w { sleepers = given_back w.sleepers } in
    seated-and t w v (leave_sleepers_by Awake w u).world (seated-same t w v refl refl) (seated-other t u v Left k))
    (given_back-sum w.sleepers (entry_of t)) (λ y. given_back-sum w.sleepers (misplaced_of t y))
    (λ j. given_back-sum w.sleepers (kept_of t j)) refl refl refl

leave-same : (x : Ticker) (t u : TickOrRun) (w : World) → HasSlept w → place_here w u ≡ x → t ≢ u →
    KeepsStands t w (Op.Tick (TickOp.Leave u) ∷ []) (leave_sleepers_by x w u)
leave-same Awake t u w slept e n = keeps-same t w _ (leave_sleepers_by Awake w u) (view-left t u w n) (nothing-leave t u n)
    (nothing-of t [] refl)
leave-same Left t u w slept e n = keeps-same t w _ (leave_sleepers_by Left w u) refl (nothing-leave t u n)
    (nothing-of t [] refl)
leave-same (Asleep m) t u w slept e n =
    let old : Option Sleeping = waker_of m w.sleepers.wakers in
    keeps-same t w (Op.Tick (TickOp.Leave u) ∷ []) (leave_sleepers_by (Asleep m) w u)
    (view-woken_up t u m Left w (leave_sleepers_by (Asleep m) w u).world slept e refl refl refl
    (λ f. refl) refl refl n)
    (nothing-leave t u n)
    (nothing-both t (sleeper_goes old) (tell_and_return (is_none old)) (nothing-goes t old) (nothing-tell t (is_none old)))

-- a tick that has left lives no more, and a run lives as it did
abbrev IsGone : TickOrRun → World → World → Type 0
IsGone t w v = ((lives_in t v.ticks v.runs ≡ false) × (drops_who t t ≡ 1))
    ⊎ ((lives_in t v.ticks v.runs ≡ lives_in t w.ticks w.runs) × (drops_who t t ≡ 0))

is-gone : (t : TickOrRun) (w : World) → place_here w t ≢ Left → IsGone t w (put_place w t Left)
is-gone (TickOrRun.Tick t) w h = inl (ap lives (put-place (TickOrRun.Tick t) w Left h), self (TickOrRun.Tick t))
is-gone (TickOrRun.Run r) w h = inr (ap (λ (d : Bool). not d) (field-set (λ (z : Run). z.dropped) w.runs r _ refl r), refl)

was-gone : (t : TickOrRun) (w : World) → place_here w t ≡ Left → IsGone t w w
was-gone (TickOrRun.Tick t) w e = inl (ap lives e, self (TickOrRun.Tick t))
was-gone (TickOrRun.Run r) w e = inr (refl, refl)

leave-own : (x : Ticker) (t : TickOrRun) (w : World) → HasSlept w → place_here w t ≡ x →
    sum (entry_of t) w.sleepers.wakers ≤ 1 →
    KeepsStands t w (Op.Tick (TickOp.Leave t) ∷ []) (leave_sleepers_by x w t)
leave-own Awake t w slept e one =
    let v : World = (leave_sleepers_by Awake w t).world in
    let here : place_here w t ≢ Left = up-apart (place_here w t) e in
    let now : place_here v t ≡ Left = put-place t w Left here in
    let none : sum (entry_of t) w.sleepers.wakers ≡ 0 = entries-astray t Awake w.sleepers.wakers (λ m. refl)
    ∙ (ap (λ (y : Ticker). sum (misplaced_of t y) w.sleepers.wakers) (sym e) ∙ slept.placed t) in
    own-leave t (view t w) (view t v) refl refl (put-made t w Left) (put-over t w Left) refl (is-gone t w here)
    (ap sleeps now)
    (omega (arith, given_back-sum w.sleepers (entry_of t), none))
    (omega (
      arith,
      misplaced-few t (place_here v t) (given_back w.sleepers).wakers,
      given_back-sum w.sleepers (entry_of t),
      none,
    ))
leave-own Left t w slept e one =
    own-leave t (view t w) (view t w) refl refl refl refl refl (was-gone t w e) (ap sleeps e) one (slept.placed t)
leave-own (Asleep n) t w slept e one =
    let old : Option Sleeping = waker_of n w.sleepers.wakers in
    let v : World = (leave_sleepers_by (Asleep n) w t).world in
    let here : place_here w t ≢ Left = sleeps-apart (place_here w t) n e in
    let now : place_here v t ≡ Left = put-place t w Left here in
    let none : sum (entry_of t) v.sleepers.wakers ≡ 0 = woken_up-own w slept t n e one in
    own-then t (view t w) (view t v) (Op.Tick (TickOp.Leave t) ∷ []) (sleeper_goes old ++ tell_and_return (is_none old))
    (nothing-both t (sleeper_goes old) (tell_and_return (is_none old)) (nothing-goes t old) (nothing-tell t (is_none old)))
    (own-leave t (view t w) (view t v) refl refl (put-made t w Left) (put-over t w Left) refl (is-gone t w here)
    (ap sleeps now)
    (omega (arith, none))
    (omega (arith, misplaced-few t (place_here v t) v.sleepers.wakers, none)))

pub stands-leave : (t u : TickOrRun) (w : World) → HasSlept w →
    KeepsStands t w (Op.Tick (TickOp.Leave u) ∷ []) (leave_sleepers_by (place_of w u) w u)
stands-leave t u w slept r m b h =
    by_who t u w (λ n. Op.Tick (TickOp.Leave n) ∷ []) (λ n. leave_sleepers_by (place_of w n) w n)
    (leave-same (place_of w u) t u w slept (sym (placed-in w u)))
    (leave-own (place_of w t) t w slept (sym (placed-in w t)) h.one) r m b h

-- a waker leaves the list, to be called

module _ (w : World) (o : Option Entry) (q : slice_get w.sleepers.wakers (length w.sleepers.wakers - 1) ≡ o) where
  abbrev out : World
  out = record w { sleepers = without_last w.sleepers }

  -- what the list loses
  loses : (v : Entry → ℕ) → sum v out.sleepers.wakers + at_entry v o ≡ sum v w.sleepers.wakers
  loses v = omega (arith, sum-last v w.sleepers.wakers, ap (at_entry v) q)

hands-entry : (o : Option Entry) (t : TickOrRun) (w : World) →
    slice_get w.sleepers.wakers (length w.sleepers.wakers - 1) ≡ o →
    KeepsStands t w (Op.Sleeper SleeperOp.HandOut ∷ []) (hand_out_by true (waker_in o) w)
hands-entry None t w q =
    keeps-same t w (Op.Sleeper SleeperOp.HandOut ∷ []) (hand_out_by true None w)
    (view-same t w (out w None q) (seated-same t w (out w None q) refl refl)
    (omega (arith, loses w None q (entry_of t)))
    (λ y. omega (arith, loses w None q (misplaced_of t y)))
    (λ j. omega (arith, loses w None q (kept_of t j)))
    refl
    refl
    refl) (nothing-of t _ refl) (nothing-of t _ refl)
hands-entry (Some (n, s)) t w q = ⊎_elim
    (λ (x : IsSame t s.who).
    let j : ℕ = (view t w).seen.poll in
    subst (λ (u : TickOrRun). KeepsStands t w (Op.Sleeper SleeperOp.HandOut ∷ []) (done (out w (Some (
      n,
      s,
    )) q) (call_of (Some (asleep s.waker u s.poll))))) x.2
    (own-hand_out t s.poll s.waker (view t w) (view t (out w (Some (n, s)) q)) refl refl refl refl refl refl refl
    (omega (arith, loses w (Some (n, s)) q (entry_of t)))
    (omega (arith, loses w (Some (n, s)) q (misplaced_of t (place_here w t))))
    (omega (arith, loses w (Some (n, s)) q (kept_of t j), ap (λ (b : Bool). cond b (same j s.poll) 0) x.1))))
    (λ (x : IsOther t s.who).
    keeps-same t w (Op.Sleeper SleeperOp.HandOut ∷ []) (hand_out_by true (Some s) w)
    (view-same t w (out w (Some (n, s)) q) (seated-same t w (out w (Some (n, s)) q) refl refl)
    (omega (arith, loses w (Some (n, s)) q (entry_of t), x.0))
    (λ y. omega (arith, loses w (Some (n, s)) q (misplaced_of t y), cond-other t s.who (astray y n) x.2))
    (λ j. omega (arith, loses w (Some (n, s)) q (kept_of t j), cond-other t s.who (same j s.poll) x.2))
    refl
    refl
    refl) (nothing-of t _ refl) (nothing-call t s.who x.2 s.waker s.poll))
    (who_cases t s.who)

pub stands-hand_out : (b : Bool) (t : TickOrRun) (w : World) →
    KeepsStands t w (Op.Sleeper SleeperOp.HandOut ∷ []) (hand_out_by b (last_waker w.sleepers.wakers) w)
stands-hand_out false t w =
    keeps-same t w (Op.Sleeper SleeperOp.HandOut ∷ []) (hand_out_by false (last_waker w.sleepers.wakers) w) refl
    (nothing-of t _ refl)
    (nothing-of t _ refl)
stands-hand_out true t w = hands-entry _ t w refl

-- it is called

called-seen : (t u : TickOrRun) (p k : ℕ) (a : Waker) (w : World) →
    watched t (log w (Event.WakerCalled p (polled_as u) k a)).trace
    ≡ cond (eq_who t u) (called_at k (watched t w.trace)) (watched t w.trace)
called-seen t (TickOrRun.Tick n) p k a w = watched-push t w.trace (Event.WakerCalled p (Polled.Tick n) k a)
called-seen t (TickOrRun.Run q) p k a w = watched-push t w.trace (Event.WakerCalled p (Polled.Run q) k a)

view-called : (t u : TickOrRun) (p k : ℕ) (a : Waker) (w : World) → t ≢ u →
    view t (log w (Event.WakerCalled p (polled_as u) k a)) ≡ view t w
view-called t u p k a w n =
    ap (λ (s : Watched). let v : View = record (view t w) { seen = s } in v)
    (called-seen t u p k a w
    ∙ ap (λ (b : Bool). cond b (called_at k (watched t w.trace)) (watched t w.trace)) (eq-other t u n))

called-own : (t : TickOrRun) (p k : ℕ) (a : Waker) (w : World) →
    KeepsStands t w (Op.Sleeper (SleeperOp.CallSleeper (asleep a t k)) ∷ [])
    (done (log w (Event.WakerCalled p (polled_as t) k a)) [])
called-own t p k a w = own-call t k a (view t w) (view t (log w (Event.WakerCalled p (polled_as t) k a)))
    (called-seen t t p k a w
    ∙ ap (λ (b : Bool). cond b (called_at k (watched t w.trace)) (watched t w.trace)) (eq-self t))
    refl refl refl refl refl refl refl refl refl

called-told : (t u : TickOrRun) (p k : ℕ) (a : Waker) (w : World) →
    KeepsStands t w (Op.Sleeper (SleeperOp.CallSleeper (asleep a u k)) ∷ [])
    (done (log w (Event.WakerCalled p (polled_as u) k a)) [])
called-told t u p k a w =
    by_who t u w (λ n. Op.Sleeper (SleeperOp.CallSleeper (asleep a n k)) ∷ [])
    (λ n. done (log w (Event.WakerCalled p (polled_as n) k a)) [])
    (λ n. keeps-same t w _ (done (log w (Event.WakerCalled p (polled_as u) k a)) []) (view-called t u p k a w n)
    (nothing-call t u n a k)
    (nothing-of t [] refl))
    (called-own t p k a w)

-- and what follows is nothing to any
then-beside : (t : TickOrRun) (w v : World) (old : List Op) (d : Done) → Beside v d → KeepsStands t w old (done v []) →
    KeepsStands t w old d
then-beside t w v old d x k r m b h =
    subst (λ (y : View × Doing). Stands y.0 y.1 m) (λ i. (
      sym (x.view t) i,
      (with-nothing t [] r (nothing-of t [] refl)
          ∙ sym (with-nothing t d.next r (nothing-of t d.next x.none))) i,
    )) (k r m b h)

pub stands-call : (t u : TickOrRun) (p k : ℕ) (a : Waker) (w : World) →
    KeepsStands t w (Op.Sleeper (SleeperOp.CallSleeper (asleep a u k)) ∷ []) (call_sleeper p w (asleep a u k))
stands-call t u p k (Task g) w = let v : World = log w (Event.WakerCalled p (polled_as u) k (Task g)) in
    then-beside t w v (Op.Sleeper (SleeperOp.CallSleeper (asleep (Task g) u k)) ∷ []) (wake p v g)
    (beside-move true Move.Wake p v v g (λ n. refl)) (called-told t u p k (Task g) w)
stands-call t u p k (Outside x) w = let v : World = log w (Event.WakerCalled p (polled_as u) k (Outside x)) in
    then-beside t w v (Op.Sleeper (SleeperOp.CallSleeper (asleep (Outside x) u k)) ∷ [])
    (done v (Op.User (UserOp.CallOutside x) ∷ []))
    (record { view = λ n. refl; none = refl }) (called-told t u p k (Outside x) w)

-- a tick is made

tick-is : (a b : ℕ) → TickOrRun.Tick a ≡ TickOrRun.Tick b → a ≡ b
tick-is a b e = cc

get-past : (ts : List Ticker) (x : Ticker) → get_or (ts ++ x ∷ []) (length ts) Left ≡ x
get-past [] x = refl
get-past (y ∷ ts) x = get-past ts x

get-other : (ts : List Ticker) (x : Ticker) (t : ℕ) → t ≢ length ts → get_or (ts ++ x ∷ []) t Left ≡ get_or ts t Left
get-other [] x zero n = absurd (n refl)
get-other [] x (suc t) n = refl
get-other (y ∷ ts) x zero n = refl
get-other (y ∷ ts) x (suc t) n = get-other ts x t (λ q. n (ap suc q))

made-later : (t n : ℕ) → t ≢ n → nat_lt t (n + 1) ≡ nat_lt t n
made-later t n x = grind (arith, nat_tests)

made-now : (n : ℕ) → nat_lt n (n + 1) ≡ true
made-now n = grind (arith, nat_tests)

not-made : (n : ℕ) → nat_lt n n ≡ false
not-made n = grind (arith, nat_tests)

abbrev bigger : World → World
bigger w = record w { ticks = w.ticks ++ Awake ∷ []; sleepers = record w.sleepers { rooms = w.sleepers.rooms + 1 } }

seated-made : (t : TickOrRun) (w : World) → t ≢ TickOrRun.Tick (length w.ticks) → Seated t w (bigger w)
seated-made (TickOrRun.Tick t) w n =
    let k : t ≢ length w.ticks = λ e. n (ap (λ (m : ℕ). TickOrRun.Tick m) e) in
    let e : get_or (w.ticks ++ Awake ∷ []) t Left ≡ get_or w.ticks t Left = get-other w.ticks Awake t k in record {
      place = e;
      lives = ap lives e;
      made = ap (nat_lt t) (length-append w.ticks (Awake ∷ [])) ∙ made-later t (length w.ticks) k;
      over = refl;
    }
seated-made (TickOrRun.Run r) w n = record { place = refl; lives = refl; made = refl; over = refl }

view-made : (t : TickOrRun) (w : World) → t ≢ TickOrRun.Tick (length w.ticks) → view t (bigger w) ≡ view t w
view-made t w n =
    view-same t w (bigger w) (seated-made t w n) refl (λ x. refl) (λ k. refl) refl refl refl

made-own : (n : ℕ) (w : World) → HasSlept w → w.gone ≡ false → n ≡ length w.ticks →
    sum (entry_of (TickOrRun.Tick n)) w.sleepers.wakers ≤ 1 →
    KeepsStands (TickOrRun.Tick n) w (Op.Tick TickOp.MakeTick ∷ []) (make_tick_by false w)
made-own n w slept g q one =
    let t : TickOrRun = TickOrRun.Tick n in
    let was : place_here w t ≡ Left = get_or_past w.ticks n Left (omega (arith, q)) in
    let now : place_here (bigger w) t ≡ Awake = ap (λ (m : ℕ). get_or (w.ticks ++ Awake ∷ []) m Left) q
    ∙ get-past w.ticks Awake in
    let none : sum (entry_of t) w.sleepers.wakers ≡ 0 = entries-astray t Left w.sleepers.wakers (λ m. refl)
    ∙ (ap (λ (y : Ticker). sum (misplaced_of t y) w.sleepers.wakers) (sym was) ∙ slept.placed t) in
    own-made t (view t w) (view t (bigger w)) (Op.Tick TickOp.MakeTick ∷ [])
    (Op.End Reply.Made Hold.Executor ∷ []) refl g g
    (ap (λ (m : ℕ). nat_lt m (length w.ticks)) q ∙ not-made (length w.ticks))
    (ap lives was)
    (ap (nat_lt n) (length-append w.ticks (Awake ∷ []))
    ∙ (ap (λ (m : ℕ). nat_lt m (length w.ticks + 1)) q ∙ made-now (length w.ticks)))
    refl
    refl
    (ap lives now)
    (ap sleeps now)
    one
    (omega (arith, misplaced-few t (place_here (bigger w) t) w.sleepers.wakers, none))
    refl (nothing-of t _ refl) (omega arith) refl refl refl refl refl refl refl refl (λ k. refl) (λ k. refl)

pub stands-make : (b : Bool) (t : TickOrRun) (w : World) → HasSlept w → w.gone ≡ false →
    KeepsStands t w (Op.Tick TickOp.MakeTick ∷ []) (make_tick_by b w)
stands-make true t w slept g r m b h =
    keeps-same t w (Op.Tick TickOp.MakeTick ∷ []) (make_tick_by true w) refl (nothing-of t _ refl)
    (nothing-of t _ refl)
    r m b h
stands-make false t w slept g r m b h = by t (who_cases t (TickOrRun.Tick (length w.ticks))) r m b h
  where
    by : (t : TickOrRun) → IsSame t (TickOrRun.Tick (length w.ticks)) ⊎ IsOther t (TickOrRun.Tick (length w.ticks)) →
        KeepsStands t w (Op.Tick TickOp.MakeTick ∷ []) (make_tick_by false w)
    by (TickOrRun.Tick n) (inl x) r m b h =
        made-own n w slept g (let z : n ≡ length w.ticks = tick-is n (length w.ticks) x.2 in z) h.one r m b h
    by (TickOrRun.Run q) (inl x) r m b h = absurd (let no : TickOrRun.Run q ≡ TickOrRun.Tick (length w.ticks) = x.2 in cc)
    by t (inr x) r m b h = keeps-same t w
        (Op.Tick TickOp.MakeTick ∷ []) (make_tick_by false w) (view-made t w x.2) (nothing-of t _ refl)
        (nothing-of t _ refl) r m b h

-- a copy of a task's waker that is kept

view-same-copy : (b : Bool) (t : TickOrRun) (w : World) (f : ℕ) (held : Hold) →
    view t (copy_by b w f held).world ≡ view t w
view-same-copy true t w f held = refl
view-same-copy false t w f held = refl

nothing-copied : (b : Bool) (t : TickOrRun) (w : World) (f : ℕ) (held : Hold) → holds_it t held ≡ 0 →
    Nothing t (copy_by b w f held).next
nothing-copied true t w f held z = nothing-end t Reply.NoMemory held z
nothing-copied false t w f held z = nothing-end t Reply.Made held z

nothing-asked : (t : TickOrRun) (f : ℕ) (held : Hold) → holds_it t held ≡ 0 →
    Nothing t (Op.Waker (WakerOp.CopyWaker f held) ∷ [])
nothing-asked t f held z = record {
  used = refl;
  early = refl;
  pends = refl;
  refused = refl;
  found = refl;
  ends = refl;
  waking_up = refl;
  drops = refl;
  odd = omega (arith, z);
  strays = λ j. refl;
  calls = λ j. refl;
}

pub stands-copy_waker : (b : Bool) (t : TickOrRun) (w : World) (f : ℕ) (held : Hold) →
    KeepsStands t w (Op.Waker (WakerOp.CopyWaker f held) ∷ []) (copy_by b w f held)
stands-copy_waker b t w f held r m x h =
    let z : holds_it t held ≡ 0 = omega (arith, h.even) in
    keeps-same t w (Op.Waker (WakerOp.CopyWaker f held) ∷ []) (copy_by b w f held) (view-same-copy b t w f held)
    (nothing-asked t f held z) (nothing-copied b t w f held z) r m x h
