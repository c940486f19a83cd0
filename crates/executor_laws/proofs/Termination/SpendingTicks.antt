-- For calls_end and lone_calls_end.
-- What tells a sleeper, and what ticks and runs both do, spends a step of those that remain, but for a run's copy of
-- its waker and its search.
use Rattle.std.proofs.Common.{◌≡◌, ℕ, zero, suc, ◌+◌, ◌-◌, ◌*◌, ◌<◌, ◌≤◌, List, [], ◌∷◌, ◌++◌, length, set, get_or, take, Bool}
use Rattle.std.proofs.Common.{true, false, ltb, refl, ap, subst, arith}
use Rattle.std.specs.Prelude.{Option, Some, None, is_none, remove}
use Rattle.std.{proofs.lemmas.Bool.Decides.nat_tests, proofs.lemmas.List.length_push, proofs.lemmas.List.Edits.length-remove}
use Rattle.queue_steps.specs.ClosableQueue.{taken}
use Rattle.executor_parts.specs.Sleepers.{Sleepers, position_of, without_last, waker_at, waker_of, next_number, put_to_sleep}
use Rattle.executor_parts.specs.Sleepers.{listed, without_entry, freed, woken_up}
use Rattle.executor_model.specs.{Acts.mark_in, Doing.sleeper_act, Good.IsKnownWaker, Good.SleeperNeeds, Weights.weigh}
use Rattle.executor_model.proofs.{Steps.QueuesByMark.length-first, Steps.Lists.weigh-append}
use Rattle.executor_laws.proofs.Types.{Look, First, Second, Move, Reply, Op, TickOrRun, Sleeping, SleeperOp}
use Rattle.executor_model.specs.ActsOfSleepers.{search_tick, exchange_by, call_of, hand_out_by, make_tick_by, found_by, held_as, polled_as}
use Rattle.executor_model.specs.ActsOfSleepers.{look_tick_by, copy_sleeper_by, pend_as, sleep_anew_by, sleeper_goes, sleep_listed_by}
use Rattle.executor_model.specs.ActsOfSleepers.{sleep_again_by, fall_asleep_by, wake_up_by, given_back, tell_and_return, leave_sleepers_by}
use Rattle.executor_model.specs.World.{put_queue, queue_of, queued_in, World, Ticker, Awake, Asleep, Left, Run, no_run, place_of}
use Rattle.executor_model.specs.World.{ticks_with, runs_with}
use Rattle.executor_laws.specs.Costs.{steps_of, steps_of_copy, steps_of_sleeping, steps_of_search, looks_left}
use Rattle.executor_laws.specs.Remaining.{notified_of, up_of, ups, steps_kept, steps_of_runs}
use Rattle.executor_model.proofs.Steps.SleepersLists.{position-within}
use Rattle.executor_laws.proofs.Termination.SpendingActs.{looks-some, kept-turned, kept-as, spends-as, kept-copied, goes-steps, spends-call}
use Rattle.executor_laws.proofs.Termination.Spending.{Spends, kept-parts}

-- sleepers that were notified

last-out : (ws : List (ℕ × Sleeping)) → length ws ≤ length (take (length ws - 1) ws) + 1
last-out [] = omega arith
last-out (x ∷ xs) = subst (λ (n : ℕ). length (x ∷ xs) ≤ length (take n (x ∷ xs)) + 1)
    (let e : length xs ≡ length (x ∷ xs) - 1 =
    omega arith in e) (omega (arith, whole x xs))
  where
    whole : (y : ℕ × Sleeping) (ys : List (ℕ × Sleeping)) → length (take (length ys) (y ∷ ys)) ≡ length ys
    whole y [] = refl
    whole y (z ∷ zs) = omega (arith, whole z zs)

notified-last : (s : Sleepers Sleeping) → notified_of (without_last s) ≤ notified_of s + 1
notified-last s = omega (arith, last-out s.wakers)

notified-fell_asleep : (x : Sleeping) (s : Sleepers Sleeping) → notified_of (put_to_sleep x s) ≡ notified_of s
notified-fell_asleep x s = omega (arith, length_push s.wakers (next_number s, x))

notified-listed : (n : ℕ) (x : Sleeping) (s : Sleepers Sleeping) → ltb (length s.wakers) s.count ≡ true →
    notified_of (listed n x s) + 1 ≡ notified_of s
notified-listed n x s e = let l : length s.wakers < s.count = grind (arith, nat_tests) in
    omega (arith, l, length_push s.wakers (n, x))

notified-freed : (n : ℕ) (s : Sleepers Sleeping) → notified_of (freed n s) ≤ notified_of s
notified-freed n s = by (ltb (length s.wakers) s.count)
  where
    by : (b : Bool) → notified_of
        (elim b [ true ↦ record s { count = s.count - 1; free = s.free ++ n ∷ [] } | false ↦ s ]) ≤ notified_of s
    by true = omega arith
    by false = omega arith

-- an entry goes, and its number is free
notified-gone : (n at : ℕ) (s : Sleepers Sleeping) → at < length s.wakers →
    notified_of (freed n (without_entry (Some at) s)) ≤ notified_of s
notified-gone n at s l = by (ltb (length (remove s.wakers at)) s.count) refl
  where
    by : (b : Bool) → ltb (length (remove s.wakers at)) s.count ≡ b →
        notified_of (elim b [
          | true ↦ record (without_entry (Some at) s) {
            count = s.count - 1;
            free =
                s.free ++ n ∷ [];
          }
          | false ↦ without_entry (Some at) s
        ]) ≤ notified_of s
    by true e = omega (arith, length-remove s.wakers at l)
    by false e = let k : s.count ≤ length (remove s.wakers at) = grind (arith, nat_tests) in omega (arith, k)

notified-woken_up : (n : ℕ) (s : Sleepers Sleeping) → notified_of (woken_up n s) ≤ notified_of s
notified-woken_up n s = by (position_of n s.wakers) refl
  where
    by : (o : Option ℕ) → position_of n s.wakers ≡ o → notified_of (freed n (without_entry o s)) ≤ notified_of s
    by None e = notified-freed n s
    by (Some at) e = notified-gone n at s (position-within n at s.wakers e)

pub notified-back : (s : Sleepers Sleeping) → notified_of (given_back s) ≡ notified_of s
notified-back s = by (ltb s.count s.rooms)
  where
    by : (b : Bool) → notified_of (elim b [ true ↦ record s { rooms = s.rooms - 1 } | false ↦ s ]) ≡ notified_of s
    by true = refl
    by false = refl

-- ticks and runs that are awake

ups-set : (ts : List Ticker) (t : ℕ) (x : Ticker) → ups (set ts t x) + up_of (get_or ts t Left) ≤ ups ts + up_of x
ups-set [] t x = omega arith
ups-set (y ∷ ts) zero x = omega arith
ups-set (y ∷ ts) (suc t) x = omega (arith, ups-set ts t x)

ups-push : (ts : List Ticker) (x : Ticker) → ups (ts ++ x ∷ []) ≡ ups ts + up_of x
ups-push [] x = omega arith
ups-push (y ∷ ts) x = omega (arith, ups-push ts x)

places-set : (rs : List Run) (r : ℕ) (x : Ticker) →
    steps_of_runs (set rs r (record (get_or rs r no_run) { place = x })) + 5 * up_of (get_or rs r no_run).place
    ≤ steps_of_runs rs + 5 * up_of x
places-set [] r x = omega arith
places-set (y ∷ rs) zero x = omega arith
places-set (y ∷ rs) (suc r) x = omega (arith, places-set rs r x)

-- the steps of ticks and runs
abbrev pub steps_of_places : World → ℕ
steps_of_places w = 5 * ups w.ticks + steps_of_runs w.runs

placed : (w : World) (who : TickOrRun) (x : Ticker) →
    5 * ups (ticks_with w.ticks who x) + steps_of_runs (runs_with w.runs who x) + 5 * up_of (place_of w who)
    ≤ steps_of_places w + 5 * up_of x
placed w (TickOrRun.Tick t) x = omega (arith, ups-set w.ticks t x)
placed w (TickOrRun.Run r) x = omega (arith, places-set w.runs r x)

-- the world has changed in nothing that is kept but sleepers, ticks and runs
pub kept-of : (w v : World) (n m : ℕ) → queued_in v ≡ queued_in w → v.table ≡ w.table → v.leaving ≡ w.leaving →
    v.is_static ≡ w.is_static → v.waking ≡ w.waking →
    v.awaiters ≡ w.awaiters → v.tasks ≡ w.tasks → notified_of v.sleepers ≤ n → steps_of_places v ≤ m →
    steps_kept v + (5 * notified_of w.sleepers + steps_of_places w) ≤ steps_kept w + (5 * n + m)
kept-of w v n m a b c j d e f g h =
    let u : World = record v { sleepers = w.sleepers; ticks = w.ticks; runs = w.runs } in
    let same : steps_kept u ≡ steps_kept w = kept-as w u a b c j d e f refl refl refl in
    omega (arith, same, kept-parts v, kept-parts u, kept-parts w, g, h)

-- telling a sleeper

spends-exchange : (b : Bool) (w : World) → Spends w 33 (exchange_by b w)
spends-exchange true w = omega arith
spends-exchange false w =
    spends-as w _ 33 (Op.Sleeper SleeperOp.HandOut ∷ []) (kept-as w _ refl refl refl refl refl refl refl refl refl refl)
    (omega arith)

call-steps : (o : Option Sleeping) → weigh steps_of (call_of o) ≤ 26
call-steps None = omega arith
call-steps (Some s) = omega arith

spends-hand_out : (b : Bool) (o : Option Sleeping) (w : World) → Spends w 32 (hand_out_by b o w)
spends-hand_out true o w = omega (
  arith,
  call-steps o,
  kept-of w (hand_out_by true o w).world (notified_of w.sleepers + 1) (steps_of_places w) refl refl refl refl refl refl refl
      (notified-last w.sleepers) (omega arith),
)
spends-hand_out false o w = omega arith

pub spends-sleeper : (p : ℕ) (o : SleeperOp) (w : World) → SleeperNeeds w o →
    Spends w (steps_of (Op.Sleeper o)) (sleeper_act p o w)
spends-sleeper p SleeperOp.ExchangeFlag w l = spends-exchange _ w
spends-sleeper p SleeperOp.HandOut w l = spends-hand_out _ _ w
spends-sleeper p (SleeperOp.CallSleeper s) w l = spends-call p w (polled_as s.who) s.waker s.poll l

-- ticks and runs

goes-steps_of : (o : Option Sleeping) → weigh steps_of (sleeper_goes o) ≤ 13
goes-steps_of None = omega arith
goes-steps_of (Some s) = goes-steps s.waker

pub spends-make : (b : Bool) (w : World) → Spends w 7 (make_tick_by b w)
spends-make true w = omega arith
spends-make false w = omega (
  arith,
  kept-of w (make_tick_by false w).world (notified_of w.sleepers) (steps_of_places w + 5) refl refl refl refl refl refl refl
      (omega arith) (omega (arith, ups-push w.ticks Awake)),
)

pub wakes_up-steps : (x : Ticker) (who : TickOrRun) (more : List Op) →
    weigh steps_of (found_by x who more) ≤ 19 + weigh steps_of more
wakes_up-steps Awake who more = omega arith
wakes_up-steps (Asleep n) who more = omega arith
wakes_up-steps Left who more = omega arith

copy-steps : (who : TickOrRun) → 140 ≤ steps_of_copy who
copy-steps (TickOrRun.Tick t) = omega arith
copy-steps (TickOrRun.Run r) = omega arith

pub spends-search : (look : Look) (x : Ticker) (w : World) (q : List ℕ) (s : Sleeping) → (queue_of w (mark_in look)).items ≡ q →
    Spends w (steps_of_copy s.who + looks_left look) (look_tick_by x w look q s)
spends-search (First mark) x w [] s e = omega arith
spends-search (Second mark) x w [] s e = omega arith
spends-search look x w (f ∷ rest) s e = omega (
  arith,
  wakes_up-steps x s.who
      (Op.Sleeper SleeperOp.ExchangeFlag ∷ Op.Move Move.TakeUp f ∷ Op.End Reply.Ready (held_as s.who) ∷ []),
  kept-parts w,
  kept-parts (put_queue w (mark_in look) (taken (queue_of w (mark_in look)))),
  length-first f rest (mark_in look) w.queues e,
  looks-some look,
  copy-steps s.who,
)

pub spends-tick_turn : (p : ℕ) (w : World) (s : Sleeping) → Spends w (steps_of_copy s.who + 3) (search_tick p w s)
spends-tick_turn p w s = omega (arith, kept-turned p w)

-- the copy of a waker comes in hand, and the steps of falling asleep are left
pub slumbering-steps : (who : TickOrRun) → (139 ≤ steps_of_sleeping who) × (steps_of_search who + 1 ≤ steps_of_sleeping who + 5)
slumbering-steps (TickOrRun.Tick t) = (omega arith, omega arith)
slumbering-steps (TickOrRun.Run r) = (omega arith, omega arith)

pub kept-copy_sleeper : (b : Bool) (w : World) (s : Sleeping) → IsKnownWaker w s.waker →
    steps_kept (copy_sleeper_by b w s).world + weigh steps_of (copy_sleeper_by b w s).next
    ≤ steps_kept w + steps_of_sleeping s.who
kept-copy_sleeper true w s l = omega (arith, (slumbering-steps s.who).0)
kept-copy_sleeper false w s l = omega (arith, kept-copied w s.waker l)

spends-anew : (b : Bool) (w : World) (s : Sleeping) → place_of w s.who ≡ Awake →
    Spends w (steps_of_sleeping s.who) (sleep_anew_by b w s)
spends-anew true w s e =
    let x : Ticker = Asleep (next_number w.sleepers) in
    omega (
      arith,
      kept-of w (sleep_anew_by true w s).world (notified_of w.sleepers) (steps_of_places w - 5) refl refl refl refl refl refl
          refl
          (omega (arith, notified-fell_asleep s w.sleepers))
          (omega (arith, placed w s.who x, ap up_of e)),
      placed w s.who x,
      ap up_of e,
      (slumbering-steps s.who).1,
    )
spends-anew false w s e = omega (arith, (slumbering-steps s.who).0)

spends-listed : (b : Bool) (w : World) (n : ℕ) (s : Sleeping) → ltb (length w.sleepers.wakers) w.sleepers.count ≡ b →
    Spends w (steps_of_sleeping s.who) (sleep_listed_by b w n s)
spends-listed true w n s e =
    omega (
      arith,
      kept-of w (sleep_listed_by true w n s).world (notified_of w.sleepers - 1) (steps_of_places w) refl refl refl refl refl
          refl refl
          (omega (arith, notified-listed n s w.sleepers e)) (omega arith),
      notified-listed n s w.sleepers e,
      (slumbering-steps s.who).1,
    )
spends-listed false w n s e = omega (arith, (slumbering-steps s.who).0)

length-put : (ws : List (ℕ × Sleeping)) (at : ℕ) (e : ℕ × Sleeping) → length (set ws at e) ≡ length ws
length-put [] at e = refl
length-put (x ∷ ws) zero e = refl
length-put (x ∷ ws) (suc at) e = omega (arith, length-put ws at e)

spends-sleep_again : (o : Option ℕ) (w : World) (n : ℕ) (s : Sleeping) →
    Spends w (steps_of_sleeping s.who) (sleep_again_by o w n s)
spends-sleep_again None w n s = spends-listed _ w n s refl
spends-sleep_again (Some at) w n s =
    let old = waker_at (Some at) w.sleepers.wakers in
    omega (
      arith,
      weigh-append steps_of (sleeper_goes old) (pend_as s.who),
      goes-steps_of old,
      kept-of w (sleep_again_by (Some at) w n s).world (notified_of w.sleepers) (steps_of_places w) refl refl refl refl refl
          refl refl (omega (arith, length-put w.sleepers.wakers at (n, s))) (omega arith),
      (slumbering-steps s.who).0,
    )

pub spends-sleep : (x : Ticker) (w : World) (s : Sleeping) → place_of w s.who ≡ x →
    Spends w (steps_of_sleeping s.who) (fall_asleep_by x w s)
spends-sleep Awake w s e = spends-anew _ w s e
spends-sleep (Asleep n) w s e = spends-sleep_again _ w n s
spends-sleep Left w s e = omega (arith, (slumbering-steps s.who).0)

pub spends-up : (x : Ticker) (w : World) (who : TickOrRun) → Spends w 19 (wake_up_by x w who)
spends-up Awake w who = omega arith
spends-up (Asleep n) w who =
    let old = waker_of n w.sleepers.wakers in
    omega (
      arith,
      goes-steps_of old,
      kept-of w (wake_up_by (Asleep n) w who).world (notified_of w.sleepers) (steps_of_places w + 5) refl refl refl refl refl
          refl refl
          (notified-woken_up n w.sleepers) (omega (arith, placed w who Awake)),
    )
spends-up Left w who = omega arith

left-steps : (o : Option Sleeping) → weigh steps_of (sleeper_goes o ++ tell_and_return (is_none o)) ≤ 34
left-steps None = omega arith
left-steps (Some s) = omega (arith, weigh-append steps_of (sleeper_goes (Some s)) (tell_and_return false), goes-steps s.waker)

pub spends-leave_sleepers : (x : Ticker) (w : World) (who : TickOrRun) → Spends w 45 (leave_sleepers_by x w who)
spends-leave_sleepers Awake w who = omega (
  arith,
  kept-of w (leave_sleepers_by Awake w who).world (notified_of w.sleepers) (steps_of_places w) refl refl refl refl refl refl
      refl
      (omega (arith, notified-back w.sleepers)) (omega (arith, placed w who Left)),
)
spends-leave_sleepers (Asleep n) w who =
    let old = waker_of n w.sleepers.wakers in
    omega (
      arith,
      left-steps old,
      kept-of w (leave_sleepers_by (Asleep n) w who).world (notified_of w.sleepers) (steps_of_places w) refl refl refl refl
          refl refl refl
          (omega (arith, notified-woken_up n w.sleepers))
          (omega (arith, placed w who Left)),
    )
spends-leave_sleepers Left w who = omega arith
