-- For some_standing_is_called.
-- The search of a tick, and the copy of a waker and the falling asleep of a tick or run, keep what holds of each.
use Rattle.std.proofs.Common.{◌≡◌, ◌≢◌, ◌∙◌, ℕ, ◌+◌, ◌≤◌, List, [], ◌∷◌, ◌++◌, Bool, true, false, cond, refl, sym, ap, subst}
use Rattle.std.proofs.Common.{⊎_elim, arith}
use Rattle.std.specs.Prelude.{Option, Some, None, slice_get}
use Rattle.executor_parts.specs.Sleepers.{put_to_sleep, position_of, waker_at, next_number}
use Rattle.executor_parts.specs.Marks.{first_of, other as other_mark}
use Rattle.executor_laws.proofs.Types.{TickOrRun, Move, Reply, Look, First, Second, Op, Sleeping, SleeperOp, TickOp, Waker}
use Rattle.executor_model.specs.ActsOfSleepers.{look_tick, look_tick_by, search_tick, copy_sleeper_by, held_as, sleep_nowhere}
use Rattle.executor_model.specs.ActsOfSleepers.{pend_as, sleep_anew_by, sleeper_goes, sleep_listed_by, sleep_again_by}
use Rattle.executor_model.specs.World.{World, Ticker, Awake, Asleep, Left, Done, place_of, put_sleepers, queue_of}
use Rattle.executor_model.specs.Acts.{copied, mark_in, waker_goes}
use Rattle.executor_model.specs.{ActsOfSleepers.fall_asleep_by, Weights.same, SleepersAgree.sleeps}
use Rattle.executor_model.proofs.Steps.SleepersCounting.{asleep}
use Rattle.executor_laws.proofs.Wakeups.Listed.{Entry, sum, entry_of, kept_of, astray, misplaced_of, at_entry, sum-push}
use Rattle.executor_laws.proofs.Wakeups.StandsNothing.{nothing-look, nothing-search, nothing-copy, nothing-sleep, nothing-up}
use Rattle.executor_laws.proofs.Wakeups.StandsOwn.{Own, held-other, own-anew, own-again, own-found, own-front, own-nowhere}
use Rattle.executor_laws.proofs.Wakeups.StandsSeats.{sleeps-apart, put-lives, put-made, put-over, put-place, seated-and}
use Rattle.executor_laws.proofs.Wakeups.Sitting.{IsOther, IsSame, cond-other, cond-self, other, over_in, owned_in, placed-in}
use Rattle.executor_laws.proofs.Wakeups.StandsWorlds.{HasSlept, OwnEntry, own-entry, none-own, view-same, misplaced-few}
use Rattle.executor_laws.proofs.Wakeups.Listed.{sum-set, entry-in}
use Rattle.executor_laws.proofs.Wakeups.StandsNothing.{nothing-call, nothing-end, nothing-both, nothing-of}
use Rattle.executor_laws.proofs.Wakeups.StandsOwn.{own-refused, own-waking_up}
use Rattle.executor_laws.proofs.Wakeups.StandsSeats.{seated-other, seated-same, up-apart}
use Rattle.executor_laws.proofs.Wakeups.Sitting.{self, who_cases, lives_in, made_in}
use Rattle.executor_laws.proofs.Wakeups.StandsWorlds.{place_here, entries-astray, eqb-self}
use Rattle.executor_laws.proofs.Wakeups.Stands.{View, view, with_doing, Stands, KeepsStands, Nothing, keeps-same}
use Rattle.executor_laws.proofs.{Types.Task, Types.Outside, Wakeups.Beside.view-turned, Wakeups.Watched.watched}

-- a step that names u, by whether it is this one
pub by_who : (t u : TickOrRun) (w : World) (old : TickOrRun → List Op) (d : TickOrRun → Done) →
    (t ≢ u → KeepsStands t w (old u) (d u)) → KeepsStands t w (old t) (d t) → KeepsStands t w (old u) (d u)
by_who t u w old d apart own = ⊎_elim
    (λ (x : IsSame t u). subst (λ (n : TickOrRun). KeepsStands t w (old n) (d n)) x.2 own)
    (λ (x : IsOther t u). apart x.2)
    (who_cases t u)

abbrev pub tells_next : ℕ → List Op
tells_next f = Op.Sleeper SleeperOp.ExchangeFlag ∷ Op.Move Move.TakeUp f ∷ []

nothing-found : (t u : TickOrRun) (f : ℕ) → t ≢ u → Nothing t (tells_next f ++ Op.End Reply.Ready (held_as u) ∷ [])
nothing-found t u f x =
    nothing-both t (tells_next f) (Op.End Reply.Ready (held_as u) ∷ [])
    (nothing-of t _ refl) (nothing-end t Reply.Ready (held_as u) (held-other t u ∙ other t u x))

nothing-waking_up : (t u : TickOrRun) (f : ℕ) → t ≢ u →
    Nothing t (Op.Tick (TickOp.WakeUp u) ∷ tells_next f ++ Op.End Reply.Ready (held_as u) ∷ [])
nothing-waking_up t u f x =
    nothing-both t (Op.Tick (TickOp.WakeUp u) ∷ []) (tells_next f ++ Op.End Reply.Ready (held_as u) ∷ [])
    (nothing-up t u x) (nothing-found t u f x)

pub nothing-goes : (t : TickOrRun) (o : Option Sleeping) → Nothing t (sleeper_goes o)
nothing-goes t None = nothing-of t _ refl
nothing-goes t (Some s) = by s.waker
  where
    by : (a : Waker) → Nothing t (waker_goes a)
    by (Task g) = nothing-of t _ refl
    by (Outside x) = nothing-of t _ refl

-- the search of a tick takes a turn first

pub stands-search : (t : TickOrRun) (u p k : ℕ) (a : Waker) (w : World) →
    KeepsStands t w (Op.Tick (TickOp.Search (asleep a (TickOrRun.Tick u) k)) ∷ [])
    (search_tick p w (asleep a (TickOrRun.Tick u) k))
stands-search t u p k a w = λ r m b h. subst (λ (v : View). Stands v (with_doing t
    (Op.Tick (TickOp.Look (asleep a (TickOrRun.Tick u) k) (First (first_of w.urgent_turns))) ∷ []) r) m)
    (sym (view-turned t p w)) h

-- and each of its looks

look-same : (look : Look) (x : Ticker) (t u : TickOrRun) (k : ℕ) (a : Waker) (w : World) (q : List ℕ) → t ≢ u →
    KeepsStands t w (Op.Tick (TickOp.Look (asleep a u k) look) ∷ []) (look_tick_by x w look q (asleep a u k))
look-same (First mark) x t u k a w [] n = keeps-same t w _ (look_tick_by x w (First mark) [] (asleep a u k)) refl
    (nothing-look t u n a k (First mark)) (nothing-look t u n a k (Second (other_mark mark)))
look-same (Second mark) x t u k a w [] n = keeps-same t w _ (look_tick_by x w (Second mark) [] (asleep a u k)) refl
    (nothing-look t u n a k (Second mark)) (nothing-copy t u n a k)
look-same look Awake t u k a w (f ∷ rest) n =
    keeps-same t w _ (look_tick_by Awake w look (f ∷ rest) (asleep a u k)) refl (nothing-look t u n a k look)
    (nothing-found t u f n)
look-same look Left t u k a w (f ∷ rest) n =
    keeps-same t w _ (look_tick_by Left w look (f ∷ rest) (asleep a u k)) refl (nothing-look t u n a k look)
    (nothing-found t u f n)
look-same look (Asleep m) t u k a w (f ∷ rest) n =
    keeps-same t w _ (look_tick_by (Asleep m) w look (f ∷ rest) (asleep a u k)) refl (nothing-look t u n a k look)
    (nothing-waking_up t u f n)

look-own : (look : Look) (x : Ticker) (u k : ℕ) (a : Waker) (w : World) (q : List ℕ) →
    place_here w (TickOrRun.Tick u) ≡ x →
    KeepsStands (TickOrRun.Tick u) w (Op.Tick (TickOp.Look (asleep a (TickOrRun.Tick u) k) look) ∷ [])
    (look_tick_by x w look q (asleep a (TickOrRun.Tick u) k))
look-own (First mark) x u k a w [] e = λ r m b h. h
look-own (Second mark) x u k a w [] e = λ r m b h. h
look-own look Awake u k a w (f ∷ rest) e =
    own-found look (TickOrRun.Tick u) k f a (view (TickOrRun.Tick u) w) (tells_next f) (ap sleeps e) refl
    (nothing-of (TickOrRun.Tick u) _ refl)
look-own look Left u k a w (f ∷ rest) e =
    own-found look (TickOrRun.Tick u) k f a (view (TickOrRun.Tick u) w) (tells_next f) (ap sleeps e) refl
    (nothing-of (TickOrRun.Tick u) _ refl)
look-own look (Asleep n) u k a w (f ∷ rest) e =
    own-waking_up look (TickOrRun.Tick u) k f a (view (TickOrRun.Tick u) w) (tells_next f) refl
    (nothing-of (TickOrRun.Tick u) _ refl)

-- a run doesn't look so
no-look : (look : Look) (q k : ℕ) (a : Waker) (w : World) (d : Done) →
    KeepsStands (TickOrRun.Run q) w (Op.Tick (TickOp.Look (asleep a (TickOrRun.Run q) k) look) ∷ []) d
no-look look q k a w d r m b h = absurd (omega (arith, h.even, self (TickOrRun.Run q)))

look-self : (look : Look) (t : TickOrRun) (k : ℕ) (a : Waker) (w : World) →
    KeepsStands t w (Op.Tick (TickOp.Look (asleep a t k) look) ∷ [])
    (look_tick w (asleep a t k) look)
look-self look (TickOrRun.Tick u) k a w =
    look-own look (place_of w (TickOrRun.Tick u)) u k a w (queue_of w (mark_in look)).items refl
look-self look (TickOrRun.Run q) k a w =
    no-look look q k a w (look_tick w (asleep a (TickOrRun.Run q) k) look)

pub stands-look : (look : Look) (t u : TickOrRun) (k : ℕ) (a : Waker) (w : World) →
    KeepsStands t w (Op.Tick (TickOp.Look (asleep a u k) look) ∷ []) (look_tick w (asleep a u k) look)
stands-look look t u k a w = by_who t u w (λ n. Op.Tick (TickOp.Look (asleep a n k) look) ∷ [])
    (λ n. look_tick w (asleep a n k) look)
    (λ n. look-same look (place_of w u) t u k a w (queue_of w (mark_in look)).items n)
    (look-self look t k a w)

-- the copy

view-copied : (t : TickOrRun) (w : World) (a : Waker) → view t (copied w a) ≡ view t w
view-copied t w (Task g) = refl
view-copied t w (Outside x) = refl

copy-same : (b : Bool) (t u : TickOrRun) (k : ℕ) (a : Waker) (w : World) → t ≢ u →
    KeepsStands t w (Op.Tick (TickOp.CopyWaker (asleep a u k)) ∷ []) (copy_sleeper_by b w (asleep a u k))
copy-same true t u k a w n =
    keeps-same t w _ (copy_sleeper_by true w (asleep a u k)) refl (nothing-copy t u n a k)
    (nothing-end t _ (held_as u) (held-other t u ∙ other t u n))
copy-same false t u k a w n =
    keeps-same t w _ (copy_sleeper_by false w (asleep a u k)) (view-copied t w a) (nothing-copy t u n a k)
    (nothing-sleep t u n a k)

copy-own : (b : Bool) (t : TickOrRun) (k : ℕ) (a : Waker) (w : World) → over_in t w.runs ≡ false →
    KeepsStands t w (Op.Tick (TickOp.CopyWaker (asleep a t k)) ∷ []) (copy_sleeper_by b w (asleep a t k))
copy-own true t k a w e = own-refused t k a (view t w) e
copy-own false t k a w e =
    λ r m b h. subst (λ (v : View). Stands v (with_doing t (Op.Tick (TickOp.FallAsleep (asleep a t k)) ∷ []) r) m)
    (sym (view-copied t w a)) h

pub stands-copy : (b : Bool) (t u : TickOrRun) (k : ℕ) (a : Waker) (w : World) → over_in u w.runs ≡ false →
    KeepsStands t w (Op.Tick (TickOp.CopyWaker (asleep a u k)) ∷ []) (copy_sleeper_by b w (asleep a u k))
stands-copy b t u k a w e = ⊎_elim
    (λ (x : IsSame t u). subst (λ (n : TickOrRun). KeepsStands n w (Op.Tick (TickOp.CopyWaker (asleep a u k)) ∷ [])
    (copy_sleeper_by b w (asleep a u k))) (sym x.2) (copy-own b u k a w e))
    (λ (x : IsOther t u). copy-same b t u k a w x.2)
    (who_cases t u)

-- it finds no place

nothing-pend : (t u : TickOrRun) → t ≢ u → Nothing t (pend_as u)
nothing-pend t u n = nothing-end t Reply.Pending (held_as u) (held-other t u ∙ other t u n)

nowhere-same : (t u : TickOrRun) (k : ℕ) (a : Waker) (w : World) → t ≢ u →
    KeepsStands t w (Op.Tick (TickOp.FallAsleep (asleep a u k)) ∷ []) (sleep_nowhere w (asleep a u k))
nowhere-same t u k a w n =
    keeps-same t w _ (sleep_nowhere w (asleep a u k)) refl (nothing-sleep t u n a k)
    (nothing-both t (Op.Sleeper (SleeperOp.CallSleeper (asleep a u k)) ∷ []) (pend_as u) (nothing-call t u n a k)
    (nothing-pend t u n))

-- it falls asleep, where it was awake

view-anew : (t u : TickOrRun) (k : ℕ) (a : Waker) (w : World) → t ≢ u →
    view t (sleep_anew_by true w (asleep a u k)).world ≡ view t w
view-anew t u k a w n = view-same t w (sleep_anew_by true w (asleep a u k)).world
    (let v : World = put_sleepers w (put_to_sleep (asleep a u k) w.sleepers) in
    seated-and t w v (sleep_anew_by true w (asleep a u k)).world (seated-same t w v refl refl)
    (seated-other t u v (Asleep (next_number w.sleepers)) n))
    (omega (arith, sum-push (entry_of t) w.sleepers.wakers (next_number w.sleepers, asleep a u k), other t u n))
    (λ x. omega (
      arith,
      sum-push (misplaced_of t x) w.sleepers.wakers (next_number w.sleepers, asleep a u k),
      cond-other t u (astray x (next_number w.sleepers)) n,
    ))
    (λ j. omega (
      arith,
      sum-push (kept_of t j) w.sleepers.wakers (next_number w.sleepers, asleep a u k),
      cond-other t u (same j k) n,
    ))
    refl
    refl
    refl

anew-same : (b : Bool) (t u : TickOrRun) (k : ℕ) (a : Waker) (w : World) → t ≢ u →
    KeepsStands t w (Op.Tick (TickOp.FallAsleep (asleep a u k)) ∷ []) (sleep_anew_by b w (asleep a u k))
anew-same true t u k a w n =
    keeps-same t w _ (sleep_anew_by true w (asleep a u k)) (view-anew t u k a w n) (nothing-sleep t u n a k)
    (nothing-search t u n a k)
anew-same false t u k a w n = nowhere-same t u k a w n

-- it sleeps now, with the one entry that it got
own-entered : (t : TickOrRun) (k n : ℕ) (a : Waker) (w v : World) → v.trace ≡ w.trace → v.gone ≡ w.gone →
    v.own ≡ w.own → made_in t v.ticks v.runs ≡ made_in t w.ticks w.runs → over_in t v.runs ≡ over_in t w.runs →
    lives_in t v.ticks v.runs ≡ lives_in t w.ticks w.runs → place_here v t ≡ Asleep n →
    v.sleepers.wakers ≡ w.sleepers.wakers ++ (n, asleep a t k) ∷ [] → sum (entry_of t) w.sleepers.wakers ≡ 0 →
    Own t (view t w) (view t v) (Op.Tick (TickOp.FallAsleep (asleep a t k)) ∷ [])
    (Op.Tick (TickOp.Search (asleep a t k)) ∷ [])
own-entered t k n a w v e g o made over alive now q none =
    let x : Entry = (n, asleep a t k) in
    own-anew t k a (view t w) (view t v) (ap (watched t) e) g made over (ap (owned_in t) o) alive
    (omega (arith, ap (sum (entry_of t)) q, sum-push (entry_of t) w.sleepers.wakers x, none, self t))
    (ap (λ (y : Ticker). sum (misplaced_of t y) v.sleepers.wakers) now ∙ (ap (sum (misplaced_of t (Asleep n))) q
    ∙ (let z : sum (misplaced_of t (Asleep n)) (w.sleepers.wakers ++ x ∷ []) ≡ 0 = omega (
      arith,
      sum-push (misplaced_of t (Asleep n)) w.sleepers.wakers x,
      misplaced-few t (Asleep n) w.sleepers.wakers,
      none,
      cond-self t (astray (Asleep n) n),
      ap (λ (c : Bool). let y : ℕ = cond c 0 1 in y) (eqb-self n),
    ) in z)))
    (ap (sum (kept_of t (view t w).seen.poll)) q ∙ (sum-push (kept_of t (view t w).seen.poll) w.sleepers.wakers x
    ∙ ap (λ (y : ℕ). sum (kept_of t (view t w).seen.poll) w.sleepers.wakers + y)
    (cond-self t (same (view t w).seen.poll k))))

anew-own : (b : Bool) (t : TickOrRun) (k : ℕ) (a : Waker) (w : World) → HasSlept w → place_here w t ≡ Awake →
    over_in t w.runs ≡ false →
    KeepsStands t w (Op.Tick (TickOp.FallAsleep (asleep a t k)) ∷ []) (sleep_anew_by b w (asleep a t k))
anew-own false t k a w slept e live = own-nowhere t k a (view t w) live
anew-own true t k a w slept e live =
    let n : ℕ = next_number w.sleepers in
    let here : place_here w t ≢ Left = up-apart (place_here w t) e in
    own-entered t k n a w (sleep_anew_by true w (asleep a t k)).world refl refl refl
    (put-made t w (Asleep n)) (put-over t w (Asleep n)) (put-lives t w (Asleep n) (sleeps-apart (Asleep n) n refl) here)
    (put-place t w (Asleep n) here) refl
    (entries-astray t Awake w.sleepers.wakers (λ m. refl)
    ∙ (ap (λ (y : Ticker). sum (misplaced_of t y) w.sleepers.wakers) (sym e) ∙ slept.placed t))

-- it sleeps already: its waker is replaced, or it has one again

view-again : (t u : TickOrRun) (k n at : ℕ) (a : Waker) (w : World) → HasSlept w → place_here w u ≡ Asleep n →
    position_of n w.sleepers.wakers ≡ Some at →
    t ≢ u → view t (sleep_again_by (Some at) w n (asleep a u k)).world ≡ view t w
view-again t u k n at a w slept e q x =
    let y : OwnEntry u n (slice_get w.sleepers.wakers at) = own-entry w slept u n e at q in
    view-same t w (sleep_again_by (Some at) w n (asleep a u k)).world (seated-same t w _ refl refl)
    (omega (arith, sum-set (entry_of t) n at (n, asleep a u k) w.sleepers.wakers q, ap (at_entry (entry_of t)) y.is))
    (λ z. omega (
      arith,
      sum-set (misplaced_of t z) n at (n, asleep a u k) w.sleepers.wakers q,
      ap (at_entry (misplaced_of t z)) y.is,
    ))
    (λ j. omega (
      arith,
      sum-set (kept_of t j) n at (n, asleep a u k) w.sleepers.wakers q,
      ap (at_entry (kept_of t j)) y.is,
      cond-other t u (same j k) x,
      cond-other t u (same j y.poll) x,
    ))
    refl
    refl
    refl

view-listed : (t u : TickOrRun) (k n : ℕ) (a : Waker) (w : World) → t ≢ u →
    view t (sleep_listed_by true w n (asleep a u k)).world ≡ view t w
view-listed t u k n a w x = view-same t w (sleep_listed_by true w n (asleep a u k)).world (seated-same t w _ refl refl)
    (omega (arith, sum-push (entry_of t) w.sleepers.wakers (n, asleep a u k), other t u x))
    (λ z. omega (arith, sum-push (misplaced_of t z) w.sleepers.wakers (n, asleep a u k), cond-other t u (astray z n) x))
    (λ j. omega (arith, sum-push (kept_of t j) w.sleepers.wakers (n, asleep a u k), cond-other t u (same j k) x))
    refl
    refl
    refl

listed-same : (b : Bool) (t u : TickOrRun) (k n : ℕ) (a : Waker) (w : World) → t ≢ u →
    KeepsStands t w (Op.Tick (TickOp.FallAsleep (asleep a u k)) ∷ []) (sleep_listed_by b w n (asleep a u k))
listed-same true t u k n a w x =
    keeps-same t w _ (sleep_listed_by true w n (asleep a u k)) (view-listed t u k n a w x) (nothing-sleep t u x a k)
    (nothing-search t u x a k)
listed-same false t u k n a w x = nowhere-same t u k a w x

again-same : (o : Option ℕ) (t u : TickOrRun) (k n : ℕ) (a : Waker) (w : World) → HasSlept w → place_here w u ≡ Asleep n →
    position_of n w.sleepers.wakers ≡ o →
    t ≢ u → KeepsStands t w (Op.Tick (TickOp.FallAsleep (asleep a u k)) ∷ []) (sleep_again_by o w n (asleep a u k))
again-same None t u k n a w slept e q x = listed-same _ t u k n a w x
again-same (Some at) t u k n a w slept e q x =
    keeps-same t w _ (sleep_again_by (Some at) w n (asleep a u k)) (view-again t u k n at a w slept e q x)
    (nothing-sleep t u x a k)
    (nothing-both t (sleeper_goes (waker_at (Some at) w.sleepers.wakers)) (pend_as u)
    (nothing-goes t (waker_at (Some at) w.sleepers.wakers)) (nothing-pend t u x))

listed-own : (b : Bool) (t : TickOrRun) (k n : ℕ) (a : Waker) (w : World) → HasSlept w → place_here w t ≡ Asleep n →
    position_of n w.sleepers.wakers ≡ None → over_in t w.runs ≡ false →
    KeepsStands t w (Op.Tick (TickOp.FallAsleep (asleep a t k)) ∷ []) (sleep_listed_by b w n (asleep a t k))
listed-own false t k n a w slept e q live = own-nowhere t k a (view t w) live
listed-own true t k n a w slept e q live =
    own-entered t k n a w (sleep_listed_by true w n (asleep a t k)).world refl refl refl refl refl refl e refl
    (none-own w slept t n e q)

again-own : (o : Option ℕ) (t : TickOrRun) (k n : ℕ) (a : Waker) (w : World) → HasSlept w → place_here w t ≡ Asleep n →
    position_of n w.sleepers.wakers ≡ o →
    sum (entry_of t) w.sleepers.wakers ≤ 1 → over_in t w.runs ≡ false →
    KeepsStands t w (Op.Tick (TickOp.FallAsleep (asleep a t k)) ∷ []) (sleep_again_by o w n (asleep a t k))
again-own None t k n a w slept e q one live = listed-own _ t k n a w slept e q live
again-own (Some at) t k n a w slept e q one live =
    let x : Entry = (n, asleep a t k) in
    let y : OwnEntry t n (slice_get w.sleepers.wakers at) = own-entry w slept t n e at q in
    let j : ℕ = (view t w).seen.poll in
    own-front t (view t w) (view t (sleep_again_by (Some at) w n (asleep a t k)).world)
    (Op.Tick (TickOp.FallAsleep (asleep a t k)) ∷ [])
    (sleeper_goes (waker_at (Some at) w.sleepers.wakers)) (pend_as t)
    (nothing-goes t (waker_at (Some at) w.sleepers.wakers))
    (own-again t k a (view t w) (view t (sleep_again_by (Some at) w n (asleep a t k)).world) live refl refl refl refl refl
    refl refl
    (omega (arith, sum-set (entry_of t) n at x w.sleepers.wakers q, ap (at_entry (entry_of t)) y.is, one))
    (omega (
      arith,
      sum-set (misplaced_of t (place_here w t)) n at x w.sleepers.wakers q,
      ap (at_entry (misplaced_of t (place_here w t))) y.is,
      slept.placed t,
    ))
    (omega (
      arith,
      sum-set (kept_of t j) n at x w.sleepers.wakers q,
      entry-in (kept_of t j) at w.sleepers.wakers,
      cond-self t (same j k),
    )))

sleep-same : (x : Ticker) (t u : TickOrRun) (k : ℕ) (a : Waker) (w : World) → HasSlept w → place_here w u ≡ x → t ≢ u →
    KeepsStands t w (Op.Tick (TickOp.FallAsleep (asleep a u k)) ∷ []) (fall_asleep_by x w (asleep a u k))
sleep-same Awake t u k a w slept e n = anew-same _ t u k a w n
sleep-same (Asleep m) t u k a w slept e n = again-same _ t u k m a w slept e refl n
sleep-same Left t u k a w slept e n = nowhere-same t u k a w n

sleep-own : (x : Ticker) (t : TickOrRun) (k : ℕ) (a : Waker) (w : World) → HasSlept w → place_here w t ≡ x →
    sum (entry_of t) w.sleepers.wakers ≤ 1 → over_in t w.runs ≡ false →
    KeepsStands t w (Op.Tick (TickOp.FallAsleep (asleep a t k)) ∷ []) (fall_asleep_by x w (asleep a t k))
sleep-own Awake t k a w slept e one live = anew-own _ t k a w slept e live
sleep-own (Asleep m) t k a w slept e one live = again-own _ t k m a w slept e refl one live
sleep-own Left t k a w slept e one live = own-nowhere t k a (view t w) live

pub stands-fall_asleep : (t u : TickOrRun) (k : ℕ) (a : Waker) (w : World) → HasSlept w → over_in u w.runs ≡ false →
    KeepsStands t w (Op.Tick (TickOp.FallAsleep (asleep a u k)) ∷ []) (fall_asleep_by (place_of w u) w (asleep a u k))
stands-fall_asleep t u k a w slept live = ⊎_elim
    (λ (x : IsSame t u). subst (λ (n : TickOrRun). KeepsStands n w (Op.Tick (TickOp.FallAsleep (asleep a u k)) ∷ [])
    (fall_asleep_by (place_of w u) w (asleep a u k))) (sym x.2)
    (λ r m b h. sleep-own (place_of w u) u k a w slept (sym (placed-in w u)) h.one live r m b h))
    (λ (x : IsOther t u). sleep-same (place_of w u) t u k a w slept (sym (placed-in w u)) x.2)
    (who_cases t u)
