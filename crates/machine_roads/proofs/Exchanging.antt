-- To tell, on the machine: the flag is exchanged, and who won takes out who lay down last, and calls it.
use Rattle.std.proofs.Common.{◌≡◌, ℕ, suc, ◌-◌, ◌≤◌, ◌==◌, min, cond, ◌++◌, Bool, true, false, List, ◌∷◌, length}
use Rattle.std.proofs.Common.{take}
use Rattle.std.proofs.Common.{Option, Some, None, is_some, slice_get, slice_set, if◌then◌else◌, refl, sym, ap, subst, ◌∙◌, arith}
use Rattle.executor_parts.specs.Sleepers.{last_waker, waker_in, without_last}
use Rattle.task_moves.specs.AbstractTask as abstract
use Rattle.task_moves.specs.AbstractTask.{AbstractTask}
use Rattle.task_moves.specs.LocalTask.{info_of, told}
use Rattle.executor_model.specs.declared.op.Op.{Op}
use Rattle.executor_model.specs.declared.op.Op.TheVariants as op
use Rattle.executor_model.specs.declared.op.SleeperOp.TheVariants as sleeper_op
use Rattle.executor_model.specs.declared.op.Waker.{Waker}
use Rattle.executor_model.specs.ActsOfSleepers.{exchange_by, hand_out_by, polled_as}
use Rattle.executor_model.specs.World.{World, Done}
use Rattle.plain_scheduler.specs.State.{Choice, Calls, Lying, Plain, Who}
use Rattle.plain_scheduler.specs.Lists.{any, on, or}
use Rattle.plain_scheduler.specs.Moves.{appended, called, is_called, put, see, task, tell, told_at, used}
use Rattle.machine_roads.specs.View.{Output, wakes}
use Rattle.machine_roads.specs.Road.{Follows, is_told, sleeper, uncalled, who_of}
use Rattle.machine_roads.specs.Alone.{is_resting}
use Rattle.machine_roads.proofs.Lists.{equal, get_below, get_map, length_map, length_set, map_take}
use Rattle.machine_roads.proofs.Lying.{At, all_waking, at, called_one, last_called, one_called, untold}
use Rattle.machine_roads.proofs.Numbers.{count_called, numbered_take}
use Rattle.machine_roads.proofs.Past.{tell_past}
use Rattle.machine_roads.proofs.Used.{IsKept, used_asks, used_polled}
use Rattle.machine_roads.proofs.Puts.{put_asks, put_lying}
use Rattle.machine_roads.proofs.Stepping.{Way, next}
use Rattle.machine_roads.proofs.Telling.{after_call, tells_none, tells_last}
use Rattle.machine_roads.proofs.Moved.{Then, Tells, calls_so}

-- by it nobody gets up
pub tell_long : (c : Choice) (q : Plain Output Waker) → length (tell wakes c q).lying ≡ length q.lying
tell_long c q = by (any is_called q.lying)
  where
    used_long : (g : ℕ) (q : Plain Output Waker) → length (used wakes (λ s. s) g q).lying ≡ length q.lying
    used_long g q = cases (is_some (info_of (task g q) (abstract.release (abstract.wake (task g q)))))
      where
        cases : (b : Bool)
            → length (if b then appended g (put g (abstract.release (abstract.wake (task g q))) q)
            else put g (abstract.release (abstract.wake (task g q))) q).lying ≡ length q.lying
        cases true = ap length (put_lying g (abstract.release (abstract.wake (task g q))) q)
        cases false = ap length (put_lying g (abstract.release (abstract.wake (task g q))) q)

    call : (q : Plain Output Waker) (w : Waker) (o : Option ℕ)
        → length (or o (λ g. used wakes (λ s. s) g q) (see (Calls w) q)).lying ≡ length q.lying
    call q w None = refl
    call q w (Some g) = used_long g q

    waker : (q : Plain Output Waker) (o : Option Waker) → length (on o (called wakes (λ s. s)) q).lying ≡ length q.lying
    waker q None = refl
    waker q (Some w) = call q w (wakes w)

    one : (i : ℕ) (o : Option (Lying Waker))
        → length (on o (λ l q. on l.waker (called wakes (λ s. s)) (record q { lying = slice_set q.lying i (called_one l) })) q).lying
        ≡ length q.lying
    one i None = refl
    one i (Some l) =
        waker (record q { lying = slice_set q.lying i (called_one l) }) l.waker ∙ length_set q.lying i (called_one l)

    by : (b : Bool) → length (cond b q (told_at wakes (min c.tells (length q.lying - 1)) q)).lying ≡ length q.lying
    by true = refl
    by false = one (min c.tells (length q.lying - 1)) (slice_get q.lying (min c.tells (length q.lying - 1)))

awaiters : IsKept {T = Output} {A = Waker} (λ t. t.awaiter)
awaiters = record { phase = λ t phase infos. refl; closed = λ t. refl; wakers = λ t n. refl }

pub outputs : IsKept {T = Output} {A = Waker} (λ t. t.output)
outputs = record { phase = λ t phase infos. refl; closed = λ t. refl; wakers = λ t n. refl }

-- and what is asked of a task is as before, where a wake and a release leave it
module _ {B : Type 0} (ask : AbstractTask Output Waker → B)
    (kept : (t : AbstractTask Output Waker) → ask (told (abstract.release (abstract.wake t))) ≡ ask t) (f : ℕ) where
  used_asks_so : (more : Plain Output Waker → Plain Output Waker)
      → ((q : Plain Output Waker) → ask (task f (more q)) ≡ ask (task f q)) → (g : ℕ) (q : Plain Output Waker)
      → ask (task f (used wakes more g q)) ≡ ask (task f q)
  used_asks_so more same g q = cases (is_some (info_of (task g q) (abstract.release (abstract.wake (task g q)))))
    where
      put_so : ask (task f (put g (abstract.release (abstract.wake (task g q))) q)) ≡ ask (task f q)
      put_so = put_asks ask f g (abstract.release (abstract.wake (task g q))) q (kept (task g q))

      cases : (b : Bool)
          → ask (task f (if b then more (appended g (put g (abstract.release (abstract.wake (task g q))) q))
          else put g (abstract.release (abstract.wake (task g q))) q)) ≡ ask (task f q)
      cases true = same (appended g (put g (abstract.release (abstract.wake (task g q))) q)) ∙ put_so
      cases false = put_so

  pub called_asks : (more : Plain Output Waker → Plain Output Waker)
      → ((q : Plain Output Waker) → ask (task f (more q)) ≡ ask (task f q)) → (o : Option Waker) (q : Plain Output Waker)
      → ask (task f (on o (called wakes more) q)) ≡ ask (task f q)
  called_asks more same None q = refl
  called_asks more same (Some w) q = by (wakes w)
    where
      by : (o : Option ℕ) → ask (task f (or o (λ g. used wakes more g q) (see (Calls w) q))) ≡ ask (task f q)
      by None = refl
      by (Some g) = used_asks_so more same g q

  pub tell_asks : (c : Choice) (q : Plain Output Waker) → ask (task f (tell wakes c q)) ≡ ask (task f q)
  tell_asks c q = by (any is_called q.lying)
    where
      one : (i : ℕ) (o : Option (Lying Waker))
          → ask (task f (on o (λ l q. on l.waker (called wakes (λ s. s)) (record q {
            lying = slice_set q.lying i (called_one l);
          })) q))
          ≡ ask (task f q)
      one i None = refl
      one i (Some l) = called_asks (λ s. s) (λ q. refl) l.waker (record q { lying = slice_set q.lying i (called_one l) })

      by : (b : Bool)
          → ask (task f (cond b q (told_at wakes (min c.tells (length q.lying - 1)) q))) ≡ ask (task f q)
      by true = refl
      by false = one (min c.tells (length q.lying - 1)) (slice_get q.lying (min c.tells (length q.lying - 1)))

module _ (p : ℕ) (end : Done) (rests : is_resting end.next ≡ true) where
  -- one that lies was called: nobody else is
  pub quietly : Tells p end (λ s. s) (λ q. is_told q.lying ≡ true)
  quietly = record {
    like = λ q r same fit. sym (ap is_told same) ∙ fit;
    keeps = λ q fit. fit;
    tells = λ w os q fit follows way. record {
      world = w;
      follows = follows;
      way = subst (λ b. Way p end (exchange_by b w).world ((exchange_by b w).next ++ os)) (follows.flag ∙ fit)
          (next p end rests (op.Sleeper sleeper_op.ExchangeFlag) w os refl way).way;
    };
    past = λ h change f q x is still. record { future = x; there = is; still = still; same = refl };
    awaits = λ f q. refl;
    outputs = λ f q. refl;
    polls = λ f q. refl;
  }

  module _ (c : Choice) (w : World) (os : List Op) (q : Plain Output Waker) (many : length q.lying ≤ c.tells)
      (follows : Follows w q) where
    abbrev won : World
    won = record w { notified = true }

    abbrev handed : World
    handed = record won { sleepers = without_last w.sleepers }

    -- who lay down last is called
    last : (i : ℕ) → suc i ≡ length q.lying → any is_called q.lying ≡ false
        → Way p end won (op.Sleeper sleeper_op.HandOut ∷ os) → Then p end os (tell wakes c q)
    last i long none way =
        let ws = w.sleepers.wakers in
        let a : At q.lying i = at q.lying i none (omega (arith, long)) in
        let many_ws : length ws ≡ length q.lying =
        sym (length_map sleeper ws) ∙ (ap length follows.wakers ∙ all_waking q.lying none) in
        let full : (length ws == w.sleepers.count) ≡ true = equal (length ws) w.sleepers.count (many_ws ∙ sym follows.count) in
        let place : length ws - 1 ≡ i = omega (arith, many_ws, long) in
        let e = get_below ws i (omega (arith, many_ws, long)) in
        let it : ◌≡◌ {A = Option (Who × Waker)} (Some (sleeper e.0)) (Some (a.one.who, a.waker)) =
        sym (get_map sleeper ws i e.0 e.1) ∙ (ap (λ xs. slice_get xs i) follows.wakers ∙ a.listed) in
        let same : e.0.1.waker ≡ a.waker = ap (λ (o : Option (Who × Waker)). waker_or a.waker o) it in
        let is_last : last_waker ws ≡ Some e.0.1 =
        ap (λ n. waker_in (slice_get ws n)) place ∙ ap waker_in e.1 in
        let s = next p end rests (op.Sleeper sleeper_op.HandOut) won os refl way in
        let called_next : Way p end handed (op.Sleeper (sleeper_op.CallSleeper e.0.1) ∷ os) =
        subst (λ o. Way p end (hand_out_by true o won).world ((hand_out_by true o won).next ++ os)) is_last
        (subst (λ b. Way p end (hand_out_by b (last_waker ws) won).world ((hand_out_by b (last_waker ws) won).next ++ os)) full s.way) in
        let t = next p end rests (op.Sleeper (sleeper_op.CallSleeper e.0.1)) handed os refl called_next in
        subst (Then p end os)
        (ap (λ a_waker. called wakes (λ s. s) a_waker (after_call c q i a.one)) same
        ∙ sym (tells_last c q i a.one a.waker none long many a.is a.has))
        (calls_so p end rests (λ s. s) (λ q. is_told q.lying ≡ true) quietly e.0.1.waker (polled_as e.0.1.who) e.0.1.poll handed os
        (after_call c q i a.one)
        (record {
          limit = follows.limit;
          kind = follows.kind;
          many = follows.many;
          places = follows.places;
          marked = follows.marked;
          tasks = follows.tasks;
          stored = follows.stored;
          marks = follows.marks;
          calm = follows.calm;
          table = follows.table;
          common = follows.common;
          kept = follows.kept;
          wakers =
              map_take sleeper (length ws - 1) ws
              ∙ (ap (take (length ws - 1)) follows.wakers
              ∙ (ap (λ n. take n (uncalled q.lying)) place ∙ sym (last_called q.lying i a.one none long)));
          count = follows.count ∙ sym (length_set q.lying i (called_one a.one));
          flag = sym (one_called q.lying i a.one (omega (arith, long)));
          asleep = λ x. count_called (who_of x) q.lying i a.one a.is ∙ follows.asleep x;
          numbered = numbered_take w.ticks w.runs (length ws - 1) ws follows.numbered;
          runs = follows.runs;
          waking = follows.waking;
          seen = follows.seen;
        })
        (one_called q.lying i a.one (omega (arith, long)))
        t.has t.way)
      where
        waker_or : Waker → Option (Who × Waker) → Waker
        waker_or w None = w
        waker_or w (Some e) = e.1

    telling : (b : Bool) → w.notified ≡ b → Way p end (exchange_by b w).world ((exchange_by b w).next ++ os)
        → Then p end os (tell wakes c q)
    telling true on way =
        subst (Then p end os) (sym (tells_none c q (sym follows.flag ∙ on)))
        (record { world = w; follows = follows; way = way })
    telling false off way =
        let u = untold q.lying (sym follows.flag ∙ off) in
        last u.0 u.1 u.2 way

  pub loudly : (c : Choice) → Tells p end (tell wakes c) (λ q. length q.lying ≤ c.tells)
  loudly c = record {
    like = λ q r same fit. subst (λ ls. length ls ≤ c.tells) same fit;
    keeps = λ q fit. subst (λ n. n ≤ c.tells) (sym (tell_long c q)) fit;
    tells = λ w os q fit follows way.
        telling c w os q fit follows w.notified refl (next p end rests (op.Sleeper sleeper_op.ExchangeFlag) w os refl way).way;
    past = λ h change f q x is still. tell_past f wakes h change c q x is still;
    awaits = λ f q. tell_asks (λ t. t.awaiter) (used_asks (λ t. t.awaiter) awaiters) f c q;
    outputs = λ f q. tell_asks (λ t. t.output) (used_asks (λ t. t.output) outputs) f c q;
    polls = λ f q. tell_asks (λ t. abstract.polled t) used_polled f c q;
  }
