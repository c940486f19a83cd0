-- What calls that are no ticks' leave of who sleeps and of who lies: some are told, and all keep their numbers.
use Rattle.std.proofs.Common.{◌≡◌, ℕ, zero, suc, ◌-◌, ◌≤◌, if◌then◌else◌, Bool, true, false, List, [], ◌∷◌, ◌++◌, length, map, take, Option}
use Rattle.std.proofs.Common.{Some, None, is_some, slice_get, slice_set, refl, sym, ap, subst, ◌∙◌}
use Rattle.executor_parts.specs.Places.{entry_in, parts_of}
use Rattle.executor_parts.specs.Sleepers.{last_waker, without_last}
use Rattle.task_moves.specs.AbstractTask as abstract
use Rattle.task_moves.specs.AbstractTask.{Left}
use Rattle.solo.specs.declared.names.Task.{Task}
use Rattle.solo.specs.declared.names.SoloWaker.{SoloWaker}
use Rattle.solo.specs.declared.names.SoloWaker.TheVariants.{Task as OfTask, Outside}
use Rattle.solo.specs.declared.owed.Lent.{Lent}
use Rattle.solo.specs.declared.owed.Owed.{Owed}
use Rattle.solo.specs.declared.solo.Solo.{Solo}
use Rattle.executor_parts.specs.declared.places.EntryPlace.{EntryPlace}
use Rattle.task_moves.specs.declared.local_task.answers.Start.{Start}
use Rattle.task_moves.specs.declared.local_task.answers.Start.TheVariants.{Poll as StartPoll, Drop as StartDrop}
use Rattle.solo.specs.declared.cells.After.{After}
use Rattle.solo.specs.declared.cells.After.TheVariants.{Queue, Rest, Drop as DropFuture, Unknown}
use Rattle.solo.specs.Cells.{asked}
use Rattle.solo.specs.Cells as cells
use Rattle.solo.specs.Closing as closing
use Rattle.solo.specs.Solo as solo
use Rattle.solo.specs.Turns as turns
use Rattle.plain_scheduler.specs.State.{Future, Lying, Lose, Loses, Choice, Plain, Taker, Try, Tick, Run, End}
use Rattle.plain_scheduler.specs.Lists.{on, or, repeat}
use Rattle.plain_scheduler.specs.Moves.{becomes, called, changed, let_go, put, task, tell}
use Rattle.plain_scheduler.specs.Takes as takes
use Rattle.solo_laws.specs.Alike.{calls as calls_it, lets_go, takes_one}
use Rattle.solo_laws.specs.Dropping.{after_drop, ends_one}
use Rattle.solo_laws.specs.Road.{waiting, wakes}
use Rattle.solo_laws.proofs.Prompt.{chosen}
use Rattle.solo_laws.proofs.Following.Bases.{Slept}
use Rattle.solo_laws.proofs.Following.Frames.{Still, all_waiting, becomes_still, called_still, let_go_still, put_still, tell_still}
use Rattle.solo_laws.proofs.Following.Lists.{take_twice}
use Rattle.solo_laws.proofs.Following.Takings.{none_if, takings}

module _ {T X : Type 0} (c : Choice) where
  -- all lie still, and of those that weren't called some are; and runs are as they were
  pub record Lies (p q : Plain T (SoloWaker X)) : Type 0 where
    pub whos : map (λ (l : Lying (SoloWaker X)). l.who) q.lying ≡ map (λ (l : Lying (SoloWaker X)). l.who) p.lying
    pub long : length q.lying ≡ length p.lying
    pub waits : length p.lying ≤ c.tells → (n : ℕ) × (waiting q.lying ≡ take n (waiting p.lying))
    pub runs : q.runs ≡ p.runs
    pub takings_are : takings q.inside ≡ takings p.inside

  pub of_still : {p q : Plain T (SoloWaker X)} → Still c p q → Lies p q
  of_still s = record {
    whos = s.whos;
    long = s.lying;
    waits = s.waits;
    runs = s.runs;
    takings_are = ap (λ cs. takings cs) s.inside;
  }

  pub as_before : (p q : Plain T (SoloWaker X)) → q.lying ≡ p.lying → q.runs ≡ p.runs → takings q.inside ≡ takings p.inside → Lies p q
  as_before p q same runs takings_are = record {
    runs = runs;
    takings_are = takings_are;
    whos = ap (map (λ (l : Lying (SoloWaker X)). l.who)) same;
    long = ap (λ (ls : List (Lying (SoloWaker X))). length ls) same;
    waits = λ many. let it = all_waiting p.lying in (it.0, ap (λ ls. waiting ls) same ∙ it.1);
  }

  pub after : {p q z : Plain T (SoloWaker X)} → Lies p q → Lies q z → Lies p z
  after {p} {q} {z} a b = record {
    whos = b.whos ∙ a.whos;
    long = b.long ∙ a.long;
    runs = b.runs ∙ a.runs;
    takings_are = b.takings_are ∙ a.takings_are;
    waits = λ many.
        let one = a.waits many in
        let two = b.waits (subst (λ n. n ≤ c.tells) (sym a.long) many) in
        let both = take_twice two.0 one.0 (waiting p.lying) in
        (both.0, two.1 ∙ (ap (take two.0) one.1 ∙ both.1));
  }

  changed_lies : (h : Future T (SoloWaker X) → Future T (SoloWaker X)) (f : ℕ) (p : Plain T (SoloWaker X)) → Lies p (changed h f p)
  changed_lies h f p = by (slice_get p.futures f)
    where
      by : (o : Option (Future T (SoloWaker X)))
          → Lies p (on o (λ x p. record p { futures = slice_set p.futures f (h x) }) p)
      by None = as_before p p refl refl refl
      by (Some x) = as_before p (record p { futures = slice_set p.futures f (h x) }) refl refl refl

  called_lies : (o : Option (SoloWaker X)) (p : Plain T (SoloWaker X)) → Lies p (on o (called wakes (tell wakes c)) p)
  called_lies None p = as_before p p refl refl refl
  called_lies (Some w) p = of_still (called_still c (tell wakes c) (tell_still c) w p)

  let_go_lies : (o : Option (SoloWaker X)) (p : Plain T (SoloWaker X)) → Lies p (on o (let_go wakes (tell wakes c)) p)
  let_go_lies None p = as_before p p refl refl refl
  let_go_lies (Some w) p = of_still (let_go_still c (tell wakes c) (tell_still c) w p)

  pub next_lies : (by : Taker (SoloWaker X)) → takes_one by ≡ true → (q : Plain T (SoloWaker X)) → Lies q (takes.next wakes c by q)
  next_lies Try one q = as_before q (takes.next wakes c Try q) refl refl refl
  next_lies (Tick t w) one q = as_before q (takes.next wakes c (Tick t w) q) refl refl refl
  next_lies (Run r w) one q = absurd cc

  pub lost_lies : (o : Option (SoloWaker X)) (by : Option (Taker (SoloWaker X))) → ends_one by ≡ true → (p : Plain T (SoloWaker X))
      → Lies p (takes.lost wakes c o by p)
  lost_lies o None one p =
      after (called_lies o p)
      (as_before (on o (called wakes (tell wakes c)) p) (takes.lost wakes c o None p) refl refl refl)
  lost_lies o (Some by) one p = after (called_lies o p) (next_lies by one (on o (called wakes (tell wakes c)) p))

  out_lies : (left : Left T (SoloWaker X)) (by : Option (Taker (SoloWaker X))) → ends_one by ≡ true → (p : Plain T (SoloWaker X))
      → Lies p (takes.out wakes c left by p)
  out_lies left by one p = which left.dropped
    where
      which : (o : Option T)
          → Lies p (or o (λ v. record p { events = p.events ++ Loses v ∷ []; inside = Lose left.called by ∷ p.inside })
          (takes.lost wakes c left.called by (on left.let_go (let_go wakes (tell wakes c)) p)))
      which None =
          after (let_go_lies left.let_go p) (lost_lies left.called by one (on left.let_go (let_go wakes (tell wakes c)) p))
      which (Some v) =
          as_before p (record p { events = p.events ++ Loses v ∷ []; inside = Lose left.called by ∷ p.inside }) refl refl
          (ap (λ ns. ns ++ takings p.inside) (none_if by one))

  pub ended_lies : (f : ℕ) (left : Left T (SoloWaker X)) (by : Option (Taker (SoloWaker X))) → ends_one by ≡ true
      → (p : Plain T (SoloWaker X)) → Lies p (takes.ended wakes c f left by p)
  ended_lies f left by one p = after (of_still (put_still c f left.task p)) (out_lies left by one (put f left.task p))

  pub dropped_lies : (f : ℕ) (end : End T) (by : Taker (SoloWaker X)) → takes_one by ≡ true → (p : Plain T (SoloWaker X))
      → Lies p (takes.dropped wakes c f end by p)
  dropped_lies f end by one p =
      let first = changed (λ future. record future { is_dropped = true }) f p in
      let q = takes.given_up wakes c f first in
      after (changed_lies (λ future. record future { is_dropped = true }) f p)
      (after (given first) (ended_lies f (takes.left_by wakes c end (task f q)) (Some by) one q))
    where
      given : (p : Plain T (SoloWaker X)) → Lies p (takes.given_up wakes c f p)
      given p = which p.is_static
        where
          which : (b : Bool) → Lies p (if b then p else becomes wakes (takes.tell wakes c) f (abstract.release (task f p)) p)
          which true = as_before p p refl refl refl
          which false = of_still (becomes_still c (takes.tell wakes c) (tell_still c) f (abstract.release (task f p)) p)

module _ {F T X : Type 0} (old : Solo F T X) where
  -- and the runs' own queues are as they were
  abbrev pub Sleeps : Solo F T X → Type 0
  Sleeps s = Slept old s.sleepers × (s.runs ≡ old.runs)

  pub told_sleeps : (s : Solo F T X) → Sleeps s → Sleeps (turns.told s)
  told_sleeps s b =
      let on : Solo F T X = record s { notified = true } in
      chosen Sleeps s.notified s (turns.handed on) b
      (chosen Sleeps (turns.is_full on)
      (turns.handed_by (last_waker s.sleepers.wakers) (record on { sleepers = without_last s.sleepers })) on
      (handed (last_waker s.sleepers.wakers) (record on { sleepers = without_last s.sleepers }) shorter) b)
    where
      shorter : Sleeps (record s { sleepers = without_last s.sleepers })
      shorter =
          let slept = b.0 in
          let both = take_twice (length s.sleepers.wakers - 1) slept.0.0 old.sleepers.wakers in
          (((both.0, ap (take (length s.sleepers.wakers - 1)) slept.0.1 ∙ both.1), slept.1, slept.2, slept.3), b.1)

      handed : (w : Option (SoloWaker X)) (s : Solo F T X) → Sleeps s → Sleeps (turns.handed_by w s)
      handed (Some (OfTask t)) s b =
          let marked : Sleeps (turns.marked t s) =
          chosen Sleeps (asked cells.wake_queues false t s.cells) (turns.lined t (turns.turned cells.woken t s))
          (turns.turned cells.woken t s) b b in
          chosen Sleeps (asked cells.release_queues false t (turns.marked t s).cells)
          (turns.lined t (turns.turned cells.released t (turns.marked t s)))
          (turns.turned cells.released t (turns.marked t s)) marked marked
      handed (Some (Outside w)) s b = b
      handed None s b = b

  pub scheduled_sleeps : (t : Task) (s : Solo F T X) → Sleeps s → Sleeps (turns.scheduled t s)
  scheduled_sleeps t s b =
      chosen Sleeps (turns.takes t s) (turns.told (turns.lined t s)) (turns.lined t s) (told_sleeps (turns.lined t s) b) b

  pub scheduled_if_sleeps : (due : Bool) (t : Task) (s : Solo F T X) → Sleeps s → Sleeps (turns.scheduled_if due t s)
  scheduled_if_sleeps due t s b = chosen Sleeps due (turns.scheduled t s) s (scheduled_sleeps t s b) b

  pub let_go_sleeps : (t : Task) (s : Solo F T X) → Sleeps s → Sleeps (turns.let_go t s)
  let_go_sleeps t s b =
      scheduled_if_sleeps (asked cells.release_queues false t s.cells) t (turns.turned cells.released t s) b

  pub calls_sleeps : (o : Option (SoloWaker X)) (s : Solo F T X) → Sleeps s → Sleeps (calls_it o s)
  calls_sleeps None s b = b
  calls_sleeps (Some (Outside w)) s b = b
  calls_sleeps (Some (OfTask t)) s b =
      scheduled_if_sleeps (solo.wakes_or_closes t s) t (turns.turned cells.released t (turns.turned cells.woken t s)) b

  pub lets_go_sleeps : (o : Option (SoloWaker X)) (s : Solo F T X) → Sleeps s → Sleeps (lets_go o s)
  lets_go_sleeps None s b = b
  lets_go_sleeps (Some (Outside w)) s b = b
  lets_go_sleeps (Some (OfTask t)) s b = let_go_sleeps t s b

  -- the entry of a future that is dropped goes
  left_sleeps : (lent : Lent) (s : Solo F T X) → Sleeps s → Sleeps (turns.left lent.place s)
  left_sleeps lent s b = by (parts_of (entry_in lent.place s.table.entries))
    where
      waker : (o : Option Task) → Sleeps (turns.let_go_if o (turns.without lent.place s))
      waker None = b
      waker (Some t) = let_go_sleeps t (turns.without lent.place s) b

      by : (o : Option (Option F × Option Task)) → Sleeps (turns.left_by_parts o (turns.without lent.place s))
      by None = b
      by (Some parts) = waker parts.1

  after_drop_sleeps : (owed : Owed F T X) (s : Solo F T X) → Sleeps s → Sleeps (after_drop owed s)
  after_drop_sleeps owed s b =
      chosen Sleeps (is_some owed.output) s (calls_it owed.awaiter (lets_go owed.old s)) b
      (calls_sleeps owed.awaiter (lets_go owed.old s) (lets_go_sleeps owed.old s b))

  pub given_sleeps : (lent : Lent) (v : T) (s : Solo F T X) → Sleeps s
      → Sleeps (after_drop (solo.settle_ready_answer lent v s) (solo.settled_ready lent v s))
  given_sleeps lent v s b =
      after_drop_sleeps (solo.settle_ready_answer lent v s) (solo.settled_ready lent v s) (left_sleeps lent s b)

  pub closed_sleeps : (lent : Lent) (s : Solo F T X) → Sleeps s → Sleeps (after_drop (solo.finish_answer lent s) (solo.finished lent s))
  closed_sleeps lent s b = after_drop_sleeps (solo.finish_answer lent s) (solo.finished lent s) (left_sleeps lent s b)

  -- a future is put back, or not
  pub pends_sleeps : (lent : Lent) (future : F) (s : Solo F T X) → Sleeps s → Sleeps (solo.settled_pending lent future s)
  pends_sleeps lent future s b = by (solo.after_poll lent s)
    where
      by : (a : After) → Sleeps (solo.pending_by a lent future (turns.turned (cells.ended_pending lent.place) lent.task s))
      by DropFuture = b
      by Unknown = b
      by Rest = b
      by Queue = scheduled_sleeps lent.task (solo.put_back lent future (turns.turned (cells.ended_pending lent.place) lent.task s)) b

  pub takes_sleeps : (s : Solo F T X) → Sleeps s → Sleeps (solo.taken s)
  takes_sleeps s b = by (solo.sought s)
    where
      begun : (t : Task) (z : Solo F T X) (o : Option (Start EntryPlace)) → Sleeps z
          → Sleeps (turns.out_of o (turns.turned cells.started t z))
      begun t z None b = b
      begun t z (Some (StartPoll place)) b = b
      begun t z (Some (StartDrop place)) b = b

      by : (o : Option Task) → Sleeps (solo.taken_by o (solo.popped s))
      by None = b
      by (Some t) =
          let z = turns.told (solo.popped s) in
          begun t z (asked cells.start_answer None t z.cells) (told_sleeps (solo.popped s) b)

  pub leaks_sleeps : (n : ℕ) (s : Solo F T X) → Sleeps s → Sleeps (repeat n closing.leak_woken s)
  leaks_sleeps zero s b = b
  leaks_sleeps (suc n) s b = leaks_sleeps n (closing.leak_woken s) (by (slice_get s.leaving.items 0))
    where
      by : (o : Option Task) → Sleeps (closing.leak_woken_by o (closing.first_left s))
      by None = b
      by (Some t) =
          let y = closing.first_left s in
          let woke : Sleeps (solo.woken t y) =
          scheduled_if_sleeps (asked cells.wake_queues false t y.cells) t (turns.turned cells.woken t y) b in
          chosen Sleeps (asked cells.release_queues false t (solo.woken t y).cells)
          (turns.lined t (turns.turned cells.released t (solo.woken t y))) (turns.turned cells.released t (solo.woken t y)) woke woke
