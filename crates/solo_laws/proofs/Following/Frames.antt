-- What the plain scheduler's changes of tasks leave as it is: how many futures there are, who isn't dropped, and how many lie.
use Rattle.std.proofs.Common.{◌≡◌, ℕ, zero, suc, ◌-◌, ◌<◌, ◌≤◌, ◌==◌, cond, if◌then◌else◌, min, Bool, true, false, List, [], ◌∷◌, ◌++◌}
use Rattle.std.proofs.Common.{length, map, filter, take, Option, Some, None, slice_get, slice_set, is_some, append-nil, refl, sym, ap}
use Rattle.std.proofs.Common.{subst, ◌∙◌, arith}
use Rattle.task_moves.specs.AbstractTask.{AbstractTask}
use Rattle.task_moves.specs.LocalTask.{told as told_of, info_of}
use Rattle.solo.specs.declared.names.SoloWaker.{SoloWaker}
use Rattle.solo.specs.declared.names.SoloWaker.TheVariants.{Task as OfTask, Outside}
use Rattle.plain_scheduler.specs.State.{Due, Future, Lying, Choice, Plain, Event, Calls}
use Rattle.plain_scheduler.specs.Lists.{on, or, any}
use Rattle.plain_scheduler.specs.Calls.{living_from}
use Rattle.plain_scheduler.specs.Moves.{put, task, appended, becomes, called, let_go, copied, tell, told_at, is_called, is_kept, mark}
use Rattle.task_moves.specs.AbstractTask as abstract
use Rattle.solo_laws.specs.Road.{wakes, waiting}
use Rattle.solo_laws.specs.Tabled.{is_dropped}
use Rattle.solo_laws.proofs.Following.Cells.{same_number}
use Rattle.solo_laws.proofs.Following.Due.{living_set}
use Rattle.solo_laws.proofs.Following.Lists.{length_set, set_same, set_other, take_twice, take_all, got_below}
use Rattle.solo_laws.proofs.Following.Lines.{filter_last}
use Rattle.solo_laws.proofs.Following.Lying.{called_one, last_waiting}

module _ {A : Type 0} where
  pub all_waiting : (ls : List (Lying A)) → (n : ℕ) × (waiting ls ≡ take n (waiting ls))
  all_waiting ls = (length (waiting ls), sym (take_all (waiting ls)))

  whos_set : (ls : List (Lying A)) (i : ℕ) (l : Lying A) → slice_get ls i ≡ Some l
      → map (λ (l : Lying A). l.who) (slice_set ls i (called_one l)) ≡ map (λ (l : Lying A). l.who) ls
  whos_set [] i l is = refl
  whos_set (m ∷ ls) zero l is =
      ap (λ w. w ∷ map (λ (l : Lying A). l.who) ls) (sym (ap (λ o. or o (λ l. l.who) l.who) is))
  whos_set (m ∷ ls) (suc i) l is = ap (λ ws. m.who ∷ ws) (whos_set ls i l is)

module _ {T X : Type 0} (c : Choice) where
  -- what doesn't change; and of those that lie only the last ones are called, where these are told
  pub record Still (p q : Plain T (SoloWaker X)) : Type 0 where
    pub futures : length q.futures ≡ length p.futures
    pub living : living_from 0 q.futures ≡ living_from 0 p.futures
    pub lying : length q.lying ≡ length p.lying
    pub limit : q.limit ≡ p.limit
    pub static : q.is_static ≡ p.is_static
    pub inside : q.inside ≡ p.inside
    pub dropped : (f : ℕ) → is_dropped f q ≡ is_dropped f p
    pub runs : q.runs ≡ p.runs
    pub kept : (r : ℕ) → filter (is_kept r) q.due ≡ filter (is_kept r) p.due
    pub whos : map (λ (l : Lying (SoloWaker X)). l.who) q.lying ≡ map (λ (l : Lying (SoloWaker X)). l.who) p.lying
    pub waits : length p.lying ≤ c.tells → (n : ℕ) × (waiting q.lying ≡ take n (waiting p.lying))

  abbrev pub same_but : (p : Plain T (SoloWaker X)) (futures : List (Future T (SoloWaker X))) → length futures ≡ length p.futures
      → living_from 0 futures ≡ living_from 0 p.futures
      → ((f : ℕ) → is_dropped f (record p { futures = futures }) ≡ is_dropped f p) → Still p (record p { futures = futures })
  same_but p futures long living dropped = record {
    futures = long;
    living = living;
    lying = refl;
    limit = refl;
    static = refl;
    inside = refl;
    dropped = dropped;
    runs = refl;
    kept = λ r. refl;
    whos = refl;
    waits = λ many. all_waiting p.lying;
  }

  abbrev pub still : (p : Plain T (SoloWaker X)) → Still p p
  still p = same_but p p.futures refl refl (λ f. refl)

  -- other events are seen, other futures are due without a keeper
  pub seen_still : (p : Plain T (SoloWaker X)) (events : List (Event T (SoloWaker X))) → Still p (record p { events = events })
  seen_still p events = record {
    futures = refl;
    living = refl;
    lying = refl;
    limit = refl;
    static = refl;
    inside = refl;
    dropped = λ f. refl;
    runs = refl;
    kept = λ r. refl;
    whos = refl;
    waits = λ many. all_waiting p.lying;
  }

  pub due_still : (p : Plain T (SoloWaker X)) (due : List Due) → ((r : ℕ) → filter (is_kept r) due ≡ filter (is_kept r) p.due)
      → Still p (record p { due = due })
  due_still p due kept = record {
    futures = refl;
    living = refl;
    lying = refl;
    limit = refl;
    static = refl;
    inside = refl;
    dropped = λ f. refl;
    runs = refl;
    kept = kept;
    whos = refl;
    waits = λ many. all_waiting p.lying;
  }

  pub chain : {p q z : Plain T (SoloWaker X)} → Still p q → Still q z → Still p z
  chain {p} {q} {z} a b = record {
    futures = b.futures ∙ a.futures;
    living = b.living ∙ a.living;
    lying = b.lying ∙ a.lying;
    limit = b.limit ∙ a.limit;
    static = b.static ∙ a.static;
    inside = b.inside ∙ a.inside;
    dropped = λ f. b.dropped f ∙ a.dropped f;
    runs = b.runs ∙ a.runs;
    kept = λ r. b.kept r ∙ a.kept r;
    whos = b.whos ∙ a.whos;
    waits = λ many.
        let one = a.waits many in
        let two = b.waits (subst (λ n. n ≤ c.tells) (sym a.lying) many) in
        let both = take_twice two.0 one.0 (waiting p.lying) in
        (both.0, two.1 ∙ (ap (take two.0) one.1 ∙ both.1));
  }

  pub put_still : (f : ℕ) (new : AbstractTask T (SoloWaker X)) (p : Plain T (SoloWaker X)) → Still p (put f new p)
  put_still f new p = by (slice_get p.futures f) refl
    where
      same : (x : Future T (SoloWaker X)) → slice_get p.futures f ≡ Some x → (b : Bool) (j : ℕ) → (f == j) ≡ b
          → is_dropped j (record p { futures = slice_set p.futures f (record x { task = told_of new }) }) ≡ is_dropped j p
      same x is true j e =
          let y : Future T (SoloWaker X) = record x { task = told_of new } in
          let one : f ≡ j = same_number f j e in
          ap (λ (o : Option (Future T (SoloWaker X))). or o (λ future. future.is_dropped) true)
          (ap (slice_get (slice_set p.futures f y)) (sym one) ∙ set_same p.futures f y x is)
          ∙ (sym (ap (λ (o : Option (Future T (SoloWaker X))). or o (λ future. future.is_dropped) true) is)
          ∙ ap (λ n. is_dropped n p) one)
      same x is false j e =
          ap (λ (o : Option (Future T (SoloWaker X))). or o (λ future. future.is_dropped) true)
          (set_other p.futures f j (record x { task = told_of new }) e)

      by : (o : Option (Future T (SoloWaker X))) → slice_get p.futures f ≡ o
          → Still p (on o (λ x p. record p { futures = slice_set p.futures f (record x { task = told_of new }) }) p)
      by None is = still p
      by (Some x) is =
          same_but p (slice_set p.futures f (record x { task = told_of new }))
          (length_set p.futures f (record x { task = told_of new }))
          (living_set p.futures 0 f x (record x { task = told_of new }) is refl)
          (λ j. same x is (f == j) j refl)

  -- one that comes has no keeper
  pub appended_still : (f : ℕ) (p : Plain T (SoloWaker X)) → Still p (appended f p)
  appended_still f p =
      due_still p (p.due ++ record { future = f; mark = mark f p; keeper = None } ∷ [])
      (λ r. filter_last (is_kept r) p.due (record { future = f; mark = mark f p; keeper = None })
      ∙ append-nil (filter (is_kept r) p.due))

  module _ (more : Plain T (SoloWaker X) → Plain T (SoloWaker X)) (keeps : (p : Plain T (SoloWaker X)) → Still p (more p)) where
    pub becomes_still : (f : ℕ) (new : AbstractTask T (SoloWaker X)) (p : Plain T (SoloWaker X))
        → Still p (becomes wakes more f new p)
    becomes_still f new p = by (is_some (info_of (task f p) new))
      where
        put_it : Still p (put f new p)
        put_it = put_still f new p

        by : (b : Bool) → Still p (if b then more (appended f (put f new p)) else put f new p)
        by true = chain put_it (chain (appended_still f (put f new p)) (keeps (appended f (put f new p))))
        by false = put_it

    pub called_still : (w : SoloWaker X) (p : Plain T (SoloWaker X)) → Still p (called wakes more w p)
    called_still (OfTask t) p = becomes_still t.number (abstract.release (abstract.wake (task t.number p))) p
    called_still (Outside w) p = seen_still p (p.events ++ Calls (Outside w) ∷ [])

    pub let_go_still : (w : SoloWaker X) (p : Plain T (SoloWaker X)) → Still p (let_go wakes more w p)
    let_go_still (OfTask t) p = becomes_still t.number (abstract.release (task t.number p)) p
    let_go_still (Outside w) p = still p

  pub copied_still : (w : SoloWaker X) (p : Plain T (SoloWaker X)) → Still p (copied wakes w p)
  copied_still (OfTask t) p = put_still t.number (abstract.copy (task t.number p)) p
  copied_still (Outside w) p = still p

  told_at_still : (at : ℕ) (p : Plain T (SoloWaker X))
      → ((l : Lying (SoloWaker X)) → slice_get p.lying at ≡ Some l → length p.lying ≤ c.tells
      → (n : ℕ) × (waiting (slice_set p.lying at (called_one l)) ≡ take n (waiting p.lying))) → Still p (told_at wakes at p)
  told_at_still at p last = by (slice_get p.lying at) refl
    where
      up : (l : Lying (SoloWaker X)) → slice_get p.lying at ≡ Some l
          → Still p (record p { lying = slice_set p.lying at (record l { waker = None }) })
      up l is = record {
        futures = refl;
        living = refl;
        lying = length_set p.lying at (record l { waker = None });
        limit = refl;
        static = refl;
        inside = refl;
        dropped = λ f. refl;
        runs = refl;
        kept = λ r. refl;
        whos = whos_set p.lying at l is;
        waits = last l is;
      }

      calls : (l : Lying (SoloWaker X)) → slice_get p.lying at ≡ Some l → (o : Option (SoloWaker X))
          → Still p (on o (called wakes (λ s. s)) (record p { lying = slice_set p.lying at (record l { waker = None }) }))
      calls l is None = up l is
      calls l is (Some w) =
          chain (up l is) (called_still (λ s. s) still w (record p { lying = slice_set p.lying at (record l { waker = None }) }))

      by : (o : Option (Lying (SoloWaker X))) → slice_get p.lying at ≡ o
          → Still p (on o (λ l p. on l.waker (called wakes (λ s. s))
          (record p { lying = slice_set p.lying at (record l { waker = None }) })) p)
      by None is = still p
      by (Some l) is = calls l is l.waker

  -- the last is called, where none is
  pub tell_still : (p : Plain T (SoloWaker X)) → Still p (tell wakes c p)
  tell_still p = by (any is_called p.lying) refl
    where
      place : (tells long at : ℕ) → at ≡ min tells (long - 1) → at < long → long ≤ tells → suc at ≡ long
      place tells long at is below many = omega (arith, is, below, many)

      by : (b : Bool) → any is_called p.lying ≡ b → Still p (cond b p (told_at wakes (min c.tells (length p.lying - 1)) p))
      by true none = still p
      by false none =
          told_at_still (min c.tells (length p.lying - 1)) p
          (λ l is many. last_waiting p.lying (min c.tells (length p.lying - 1)) l none
          (place c.tells (length p.lying) (min c.tells (length p.lying - 1)) refl
          (got_below p.lying (min c.tells (length p.lying - 1)) l is) many))
