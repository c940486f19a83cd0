-- No task has a key from the next future's number on, where each future's number is its task's key: so all calls leave it.
use Rattle.std.proofs.Common.{◌≡◌, ℕ, zero, suc, ◌≤◌, ◌==◌, Bool, true, false, List, [], ◌∷◌}
use Rattle.std.proofs.Common.{Option, Some, None, is_some, slice_get, slice_set, slice_index_or, refl, sym, ap, ◌∙◌, arith}
use Rattle.std.proofs.lemmas.Bool.Decides.{nat_tests}
use Rattle.slab.specs.Slab.{get}
use Rattle.solo.specs.declared.names.Task.{Task}
use Rattle.solo.specs.declared.names.SoloWaker.{SoloWaker}
use Rattle.solo.specs.declared.names.SoloWaker.TheVariants.{Task as OfTask, Outside}
use Rattle.solo.specs.declared.cells.After.{After}
use Rattle.solo.specs.declared.cells.After.TheVariants.{Queue, Rest, Drop as DropFuture, Unknown}
use Rattle.solo.specs.declared.cells.Cell.{Cell}
use Rattle.solo.specs.declared.cells.Cells.{Cells}
use Rattle.solo.specs.declared.owed.Lent.{Lent}
use Rattle.solo.specs.declared.owed.Owed.{Owed}
use Rattle.solo.specs.declared.runs.Leaving.{Leaving}
use Rattle.solo.specs.declared.runs.Runner.{Runner}
use Rattle.solo.specs.declared.solo.Solo.{Solo}
use Rattle.solo.specs.declared.ticks.Ticker.{Ticker}
use Rattle.solo.specs.Cells.{Kept, asked, choose}
use Rattle.solo.specs.Cells as cells
use Rattle.solo.specs.Closing as closing
use Rattle.solo.specs.OwnQueues as own
use Rattle.solo.specs.Runs as runs
use Rattle.solo.specs.Solo as solo
use Rattle.solo.specs.Steals as steals
use Rattle.solo.specs.Ticks as ticks
use Rattle.solo.specs.Turns as turns
use Rattle.plain_scheduler.specs.Lists.{on, repeat}
use Rattle.solo_laws.specs.Alike as alike
use Rattle.solo_laws.specs.Dropping.{after_drop}
use Rattle.solo_laws.specs.Leaking.{leaked}
use Rattle.solo_laws.specs.Running.{drains, more_left, run_left}
use Rattle.solo_laws.specs.RunResting.{run_rested, sleep_answer, slept_from}
use Rattle.solo_laws.specs.RunTaking.{woken_by}
use Rattle.solo_laws.specs.Ticking.{looks_again, rested, slept_answer, slept_once}
use Rattle.solo_laws.proofs.CellFrames.{left_at, let_go_at, loosed_at, run_drained_at, run_searched_at, scheduled_at, scheduled_if_at}
use Rattle.solo_laws.proofs.CellFrames.{slept_at}
use Rattle.solo_laws.proofs.CellFrames.{sought_at, taken_by_at, tick_left_at, tick_searched_at}
use Rattle.solo_laws.proofs.Prompt.{chosen}
use Rattle.solo_laws.proofs.Following.Cells.{same_number}

module _ {A : Type 0} where
  set_else : (xs : List A) (i j : ℕ) (x d : A) → (j == i) ≡ false → slice_index_or (slice_set xs i x) j d ≡ slice_index_or xs j d
  set_else [] i j x d is = refl
  set_else (z ∷ zs) zero zero x d is = absurd (grind (arith, nat_tests))
  set_else (z ∷ zs) zero (suc j) x d is = refl
  set_else (z ∷ zs) (suc i) zero x d is = refl
  set_else (z ∷ zs) (suc i) (suc j) x d is = set_else zs i j x d (suc_test i j is)
    where
      suc_test : (i j : ℕ) → (suc j == suc i) ≡ false → (j == i) ≡ false
      suc_test i j is = grind (arith, nat_tests)

  -- what is left out is not there
  set_out : (xs : List A) (i : ℕ) (d : A) → slice_index_or (slice_set xs i d) i d ≡ d
  set_out [] i d = refl
  set_out (z ∷ zs) zero d = refl
  set_out (z ∷ zs) (suc i) d = set_out zs i d

module _ {T X : Type 0} where
  abbrev pub IsVacant : ℕ → Cells T X → Type 0
  IsVacant n s = (k : ℕ) → n ≤ k → get s.slab k ≡ None

  module _ (n : ℕ) where
    pub changed_vacant : (g : Kept T X → Kept T X) (u : Task) (s : Cells T X) → IsVacant n s → IsVacant n (cells.changed g u s)
    changed_vacant g u s vacant = by (get s.slab u.key) refl
      where
        by : (o : Option (Cell T X)) → get s.slab u.key ≡ o → (k : ℕ) → n ≤ k → get (cells.changed_by g u o s.slab) k ≡ None
        by None none = vacant
        by (Some c) here = λ k above. one k above (k == u.key) refl
          where
            one : (k : ℕ) → n ≤ k → (b : Bool) → (k == u.key) ≡ b → get (cells.changed_by g u (Some c) s.slab) k ≡ None
            one k above true same =
                absurd (gone (sym (sym here ∙ (sym (ap (λ j. get s.slab j) (same_number k u.key same)) ∙ vacant k above))))
              where
                gone : None ≡ Some c → ⊥
                gone is = absurd cc
            one k above false other =
                set_else s.slab.slots u.key k (Some (record c { task = choose (c.number == u.number) (g c.task) c.task })) None other
                ∙ vacant k above

    pub tidied_vacant : (u : Task) (s : Cells T X) → IsVacant n s → IsVacant n (cells.tidied u s)
    tidied_vacant u s vacant = by (asked cells.is_spent false u s)
      where
        one : (k : ℕ) → n ≤ k → (b : Bool) → (k == u.key) ≡ b → slice_index_or (slice_set s.slab.slots u.key None) k None ≡ None
        one k above true same =
            ap (λ j. slice_index_or (slice_set s.slab.slots u.key None) j None) (same_number k u.key same) ∙ set_out s.slab.slots u.key None
        one k above false other = set_else s.slab.slots u.key k None None other ∙ vacant k above

        by : (b : Bool)
            → IsVacant n (choose b (record { slab = record s.slab { slots = slice_set s.slab.slots u.key None; vacant_key = u.key } }) s)
        by true = λ k above. one k above (k == u.key) refl
        by false = vacant

    woke : (u : Task) (s : Cells T X) → IsVacant n s → IsVacant n (cells.changed cells.woken u s)
    woke u s v = changed_vacant cells.woken u s v

    loose : (u : Task) (s : Cells T X) → IsVacant n s → IsVacant n (cells.changed cells.released u s)
    loose u s v = changed_vacant cells.released u s v

    start : (u : Task) (s : Cells T X) → IsVacant n s → IsVacant n (cells.changed cells.started u s)
    start u s v = changed_vacant cells.started u s v

    tidy : (u : Task) (s : Cells T X) → IsVacant n s → IsVacant n (cells.tidied u s)
    tidy u s v = tidied_vacant u s v

module _ {F T X : Type 0} (n : ℕ) where
  -- of what an executor has
  abbrev pub V : Solo F T X → Type 0
  V s = IsVacant n s.cells

  turned_v : (g : Kept T X → Kept T X) (u : Task) (s : Solo F T X) → V s → V (turns.turned g u s)
  turned_v g u s v = changed_vacant n g u s.cells v

  swept_v : (u : Task) (s : Solo F T X) → V s → V (turns.swept u s)
  swept_v u s v = tidied_vacant n u s.cells v

  pub scheduled_v : (u : Task) (s : Solo F T X) → V s → V (turns.scheduled u s)
  scheduled_v u s v = scheduled_at (IsVacant n) (woke n) (loose n) (tidy n) u s v

  scheduled_if_v : (due : Bool) (u : Task) (s : Solo F T X) → V s → V (turns.scheduled_if due u s)
  scheduled_if_v due u s v = scheduled_if_at (IsVacant n) (woke n) (loose n) (tidy n) due u s v

  pub woken_v : (t : Task) (s : Solo F T X) → V s → V (solo.woken t s)
  woken_v t s v =
      scheduled_if_v (asked cells.wake_queues false t s.cells) t (turns.turned cells.woken t s) (turned_v cells.woken t s v)

  pub used_v : (t : Task) (s : Solo F T X) → V s → V (solo.woken_and_released t s)
  used_v t s v =
      let a = turns.turned cells.woken t s in
      let b = turns.turned cells.released t a in
      swept_v t (turns.scheduled_if (solo.wakes_or_closes t s) t b)
      (scheduled_if_v (solo.wakes_or_closes t s) t b (turned_v cells.released t a (turned_v cells.woken t s v)))

  pub released_v : (t : Task) (s : Solo F T X) → V s → V (solo.released t s)
  released_v t s v = let_go_at (IsVacant n) (woke n) (loose n) (tidy n) t s v

  pub held_v : (t : Task) (s : Solo F T X) → V s → V (solo.held t s)
  held_v t s v = turned_v cells.held t s v

  copies_v : (w : SoloWaker X) (s : Solo F T X) → V s → V (alike.copies w s)
  copies_v (OfTask t) s v = held_v t s v
  copies_v (Outside w) s v = v

  pub calls_v : (o : Option (SoloWaker X)) (s : Solo F T X) → V s → V (alike.calls o s)
  calls_v None s v = v
  calls_v (Some (OfTask t)) s v = used_v t s v
  calls_v (Some (Outside w)) s v = v

  lets_go_v : (o : Option (SoloWaker X)) (s : Solo F T X) → V s → V (alike.lets_go o s)
  lets_go_v None s v = v
  lets_go_v (Some (OfTask t)) s v = released_v t s v
  lets_go_v (Some (Outside w)) s v = v

  pub cancelled_v : (t : Task) (s : Solo F T X) → V s → V (alike.cancelled t s)
  cancelled_v t s v =
      let a = turns.turned cells.cancelled t s in
      calls_v (solo.cancel_answer t s).awaiter (solo.cancelled t s)
      (scheduled_if_v (is_some (asked cells.cancel_queues None t s.cells)) t a (turned_v cells.cancelled t s v))

  pub detached_v : (t : Task) (s : Solo F T X) → V s → V (solo.detached t s)
  detached_v t s v =
      let a = turns.turned cells.detached t s in
      let due = is_some (asked cells.detach_queues None t s.cells) in
      swept_v t (turns.scheduled_if due t a) (scheduled_if_v due t a (turned_v cells.detached t s v))

  pub polled_v : (granted : Bool) (t : Task) (w : SoloWaker X) (s : Solo F T X) → V s → V (alike.handle_polled granted t w s)
  polled_v granted t w s v =
      let y = alike.copies w s in
      let z = solo.polled t w y in
      chosen V (solo.must_wait t s) (choose granted (alike.registered t w y) s) (solo.polled t w s)
      (chosen V granted (alike.registered t w y) s
      (lets_go_v (alike.replaced_by (solo.poll_answer t w y)) z (turned_v (cells.polled w) t y (copies_v w s v))) v)
      (turned_v (cells.polled w) t s v)

  -- ends of polls and of drops
  pub pends_v : (lent : Lent) (future : F) (s : Solo F T X) → V s → V (solo.settled_pending lent future s)
  pends_v lent future s v = by (solo.after_poll lent s)
    where
      ended : Solo F T X
      ended = turns.turned (cells.ended_pending lent.place) lent.task s

      so : V (turns.turned (cells.ended_pending lent.place) lent.task s)
      so = turned_v (cells.ended_pending lent.place) lent.task s v

      by : (a : After) → V (solo.pending_by a lent future (turns.turned (cells.ended_pending lent.place) lent.task s))
      by DropFuture = so
      by Unknown = so
      by Rest = so
      by Queue = scheduled_v lent.task (solo.put_back lent future (turns.turned (cells.ended_pending lent.place) lent.task s)) so

  dropped_v : (owed : Owed F T X) (s : Solo F T X) → V s → V (after_drop owed s)
  dropped_v owed s v =
      chosen V (is_some owed.output) s (alike.calls owed.awaiter (alike.lets_go owed.old s)) v
      (calls_v owed.awaiter (alike.lets_go owed.old s) (lets_go_v owed.old s v))

  left_v : (lent : Lent) (s : Solo F T X) → V s → V (turns.left lent.place s)
  left_v lent s v = left_at (IsVacant n) (woke n) (loose n) (tidy n) lent.place s v

  pub given_v : (lent : Lent) (output : T) (s : Solo F T X) → V s
      → V (after_drop (solo.settle_ready_answer lent output s) (solo.settled_ready lent output s))
  given_v lent output s v =
      let a = turns.left lent.place s in
      let b = turns.turned (cells.ended_ready output) lent.task a in
      dropped_v (solo.settle_ready_answer lent output s) (turns.swept lent.task b)
      (swept_v lent.task b (turned_v (cells.ended_ready output) lent.task a (left_v lent s v)))

  pub closed_v : (lent : Lent) (s : Solo F T X) → V s → V (after_drop (solo.finish_answer lent s) (solo.finished lent s))
  closed_v lent s v =
      let a = turns.left lent.place s in
      let b = turns.turned cells.finished lent.task a in
      dropped_v (solo.finish_answer lent s) (turns.swept lent.task b)
      (swept_v lent.task b (turned_v cells.finished lent.task a (left_v lent s v)))

  pub taken_v : (s : Solo F T X) → V s → V (solo.taken s)
  taken_v s v = taken_by_at (IsVacant n) (woke n) (loose n) (tidy n) (start n) (solo.sought s) (solo.popped s) v

  -- a leak
  leak_woken_v : (s : Solo F T X) → V s → V (closing.leak_woken s)
  leak_woken_v s v = by (slice_get s.leaving.items 0)
    where
      by : (o : Option Task) → V (closing.leak_woken_by o (closing.first_left s))
      by None = v
      by (Some t) =
          let y = closing.first_left s in
          swept_v t (turns.loosed t (solo.woken t y)) (loosed_at (IsVacant n) (woke n) (loose n) (tidy n) t (solo.woken t y)
          (woken_v t y v))

  leaks_v : (m : ℕ) (s : Solo F T X) → V s → V (repeat m closing.leak_woken s)
  leaks_v zero s v = v
  leaks_v (suc m) s v = leaks_v m (closing.leak_woken s) (leak_woken_v s v)

  pub leaked_v : (m : ℕ) (s : Solo F T X) → V s → V (leaked m s)
  leaked_v m s v = leaks_v m (closing.leaked s) v

  -- ticks and runs
  pub found_v : (ticker : Ticker) (t : Task) (s : Solo F T X) → V s → V (ticks.found ticker t s)
  found_v ticker t s v = tick_searched_at (IsVacant n) (woke n) (loose n) (tidy n) (start n) (Some t) ticker s v

  pub slept_v : (ticker : Ticker) (w : SoloWaker X) (s : Solo F T X) → V s → V (slept_once ticker w s)
  slept_v ticker w s v = slept_at (IsVacant n) (woke n) (loose n) (tidy n) ticker w (alike.copies w (solo.popped s))
      (copies_v w (solo.popped s) v)

  pub rested_v : (ticker : Ticker) (w : SoloWaker X) (s : Solo F T X) → V s → V (rested ticker w s)
  rested_v ticker w s v =
      let out = slept_answer ticker w s in
      let z = slept_once ticker w s in
      chosen V (looks_again out.look) (slept_once out.ticker w z) z (slept_v out.ticker w z (slept_v ticker w s v)) (slept_v ticker w s v)

  pub tick_left_v : (ticker : Ticker) (s : Solo F T X) → V s → V (ticks.left ticker s)
  tick_left_v ticker s v = tick_left_at (IsVacant n) (woke n) (loose n) (tidy n) ticker s v

  pub sought_v : (r at : ℕ) (s : Solo F T X) → V s → V (steals.sought r at s)
  sought_v r at s v = sought_at (IsVacant n) (woke n) (loose n) (tidy n) r at s v

  pub searched_v : (runner : Runner) (ticker : Ticker) (at : ℕ) (s : Solo F T X) → V s → V (runs.searched runner ticker at s)
  searched_v runner ticker at s v =
      run_searched_at (IsVacant n) (woke n) (loose n) (tidy n) (start n) (steals.seek_answer runner.number at s).task runner ticker
      (steals.sought runner.number at s) (sought_v runner.number at s v)

  pub slept_from_v : (r at : ℕ) (ticker : Ticker) (w : SoloWaker X) (s : Solo F T X) → V s → V (slept_from r at ticker w s)
  slept_from_v r at ticker w s v =
      slept_at (IsVacant n) (woke n) (loose n) (tidy n) ticker w (alike.copies w (steals.sought r at s))
      (copies_v w (steals.sought r at s) (sought_v r at s v))

  pub run_rested_v : (r one two : ℕ) (ticker : Ticker) (w : SoloWaker X) (s : Solo F T X) → V s → V (run_rested r one two ticker w s)
  run_rested_v r one two ticker w s v =
      let out = sleep_answer r one ticker w s in
      let z = slept_from r one ticker w s in
      chosen V (looks_again out.look) (slept_from r two out.ticker w z) z
      (slept_from_v r two out.ticker w z (slept_from_v r one ticker w s v)) (slept_from_v r one ticker w s v)

  pub woken_by_v : (w : SoloWaker X) (s : Solo F T X) → V s → V (woken_by w s)
  woken_by_v (OfTask t) s v = woken_v t s v
  woken_by_v (Outside w) s v = v

  drains_v : (m : ℕ) (leaving : Leaving) (s : Solo F T X) → V s → V (drains m leaving s)
  drains_v zero leaving s v = v
  drains_v (suc m) leaving s v =
      by (more_left (runs.drain_answer leaving s)) (drains_v m)
      (run_drained_at (IsVacant n) (woke n) (loose n) (tidy n) (runs.first_left leaving.own) leaving.ticker s v)
    where
      by : (o : Option Leaving) → ((leaving : Leaving) (s : Solo F T X) → V s → V (drains m leaving s)) → V (runs.drained leaving s)
          → V (on o (drains m) (runs.drained leaving s))
      by None rest v = v
      by (Some more) rest v = rest more (runs.drained leaving s) v

  pub run_left_v : (ticker : Ticker) (runner : Runner) (s : Solo F T X) → V s → V (run_left ticker runner s)
  run_left_v ticker runner s v =
      drains_v (suc (own.count_of runner.number s.runs)) (runs.leave_answer runner ticker s) (runs.left runner s) v
