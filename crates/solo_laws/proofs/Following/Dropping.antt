-- The end of a drop is one of the plain scheduler: the future's entry leaves the table, with its waker, and then its task ends.
use Rattle.std.proofs.Common.{◌≡◌, ℕ, ◌<◌, ◌≤◌, ◌==◌, not, if◌then◌else◌, Bool, true, false, List, ◌++◌, length, map, Option, Some, None}
use Rattle.std.proofs.Common.{is_some, slice_get, slice_set, append-nil, refl, sym, ap, subst, ◌∙◌, arith}
use Rattle.queue_steps.specs.ClosableQueue.{most_accepted}
use Rattle.executor_parts.specs.Places.{Entry, entry_in, left_by, parts_of}
use Rattle.task_moves.specs.AbstractTask as abstract
use Rattle.task_moves.specs.AbstractTask.{AbstractTask}
use Rattle.task_moves.specs.LocalTask.{is_home}
use Rattle.task_moves.specs.declared.local_task.answers.FuturePlace.{FuturePlace}
use Rattle.task_moves.specs.declared.local_task.answers.FuturePlace.TheVariants.{Home, Lent as IsLent, Dropping, Gone}
use Rattle.executor_parts.specs.declared.places.EntryPlace.{EntryPlace}
use Rattle.solo.specs.declared.names.Task.{Task}
use Rattle.solo.specs.declared.names.SoloWaker.{SoloWaker}
use Rattle.solo.specs.declared.owed.Lent.{Lent}
use Rattle.solo.specs.declared.owed.Told.{Told}
use Rattle.solo.specs.declared.solo.Solo.{Solo}
use Rattle.solo.specs.Cells.{Kept}
use Rattle.solo.specs.Table.{counted_waker}
use Rattle.solo.specs.Solo as solo
use Rattle.solo.specs.Turns as turns
use Rattle.plain_scheduler.specs.State.{Future, Choice, Plain, Code}
use Rattle.plain_scheduler.specs.Lists.{on, or}
use Rattle.plain_scheduler.specs.Calls.{living_from}
use Rattle.plain_scheduler.specs.Moves.{task, changed, tell, release, no_task}
use Rattle.plain_scheduler.specs.Takes as takes
use Rattle.solo_laws.specs.Road.{TaskIs, IsAsleep, IsInside, IsNamed, Follows, HasLife, is_in, apart, lents, drops, wakes}
use Rattle.solo_laws.specs.Tabled.{IsTable, named, row, row_of, key_of, is_dropped, at_home, home_by}
use Rattle.solo_laws.specs.Shown.{rings}
use Rattle.solo_laws.proofs.Following.Lists.{get_below, set_same, set_other, length_set}
use Rattle.solo_laws.proofs.Following.Due.{lives}
use Rattle.solo_laws.proofs.Following.Cells.{found, of_found, asks_found, same_number}
use Rattle.solo_laws.proofs.Following.Homes.{home_in}
use Rattle.solo_laws.proofs.Following.Changing.{task_is}
use Rattle.solo_laws.proofs.Following.Waking.{released}
use Rattle.solo_laws.proofs.Showing.Telling.{released_shows}
use Rattle.solo_laws.proofs.Following.Lives.{three_fewer, released_lives}
use Rattle.solo_laws.proofs.Following.Frames.{Still, still, becomes_still, tell_still}
use Rattle.solo_laws.proofs.Following.Bases as bases
use Rattle.solo_laws.proofs.Following.Leaving.{less, less_short, apart_less, leaves, living_less}

module _ {F T X : Type 0} (its : ℕ → Lent) (s : Solo F T X) (p : Plain T (SoloWaker X)) (r : Follows (named its) s p)
    (t : IsTable its s p) (c : Choice) (f : ℕ) (live : is_dropped f p ≡ false) (at : f < length p.futures)
    (away : (v : Kept T X) → found (named its f) s.cells ≡ Some v → is_home v.future ≡ true → ⊥) where
  abbrev name : ℕ → Task
  name = named its

  -- its entry is gone, and it is dropped
  abbrev pub gone : Solo F T X
  gone = turns.without (its f).place s

  abbrev pub dropped : Plain T (SoloWaker X)
  dropped = changed (λ future. record future { is_dropped = true }) f p

  abbrev pub now : Future T (SoloWaker X) → List (Future T (SoloWaker X))
  now x = slice_set p.futures f (record x { is_dropped = true })

  pub its_future : (x : Future T (SoloWaker X)) × (slice_get p.futures f ≡ Some x)
  its_future = get_below p.futures f at

  pub dropped_is : dropped ≡ record p { futures = now its_future.0 }
  dropped_is =
      ap
      (λ (o : Option (Future T (SoloWaker X))).
      on o (λ x p. record p { futures = slice_set p.futures f (record x { is_dropped = true }) }) p)
      its_future.1

  lived : its_future.0.is_dropped ≡ false
  lived =
      sym (ap (λ (o : Option (Future T (SoloWaker X))). or o (λ future. future.is_dropped) true) its_future.1) ∙ live

  living : living_from 0 (now its_future.0) ≡ less f (living_from 0 p.futures)
  living = living_less p.futures 0 f f its_future.0 (omega arith) its_future.1 lived

  pub long : length (now its_future.0) ≡ length p.futures
  long = length_set p.futures f (record its_future.0 { is_dropped = true })

  task_is_dropped : (o : Option (Kept T X)) (x : Future T (SoloWaker X)) → ((v : Kept T X) → o ≡ Some v → is_home v.future ≡ true → ⊥)
      → TaskIs o (Some x) → TaskIs o (Some (record x { is_dropped = true }))
  task_is_dropped None x away is = is
  task_is_dropped (Some v) x away of = record {
    task = of.task;
    mark = of.mark;
    told = of.told;
    idle = of.idle;
    done = of.done;
    reached = of.reached;
    there = λ home. absurd (away v refl home);
    closing = of.closing;
  }

  tasks_by : (b : Bool) (j : ℕ) → (f == j) ≡ b → j < length p.futures
      → TaskIs (found (name j) s.cells) (slice_get (now its_future.0) j)
  tasks_by true j same below =
      let y : Future T (SoloWaker X) = record its_future.0 { is_dropped = true } in
      subst (λ j. TaskIs (found (name j) s.cells) (slice_get (now its_future.0) j)) (same_number f j same)
      (subst (λ o. TaskIs (found (name f) s.cells) o) (sym (set_same p.futures f y its_future.0 its_future.1))
      (task_is_dropped (found (name f) s.cells) its_future.0 away
      (subst (λ o. TaskIs (found (name f) s.cells) o) its_future.1 (r.tasks f at))))
  tasks_by false j same below =
      subst (λ o. TaskIs (found (name j) s.cells) o)
      (sym (set_other p.futures f j (record its_future.0 { is_dropped = true }) same)) (r.tasks j below)

  task_same : (j : ℕ) → task j (record p { futures = now its_future.0 }) ≡ task j p
  task_same j = by (f == j) refl
    where
      by : (b : Bool) → (f == j) ≡ b → task j (record p { futures = now its_future.0 }) ≡ task j p
      by true same =
          let y : Future T (SoloWaker X) = record its_future.0 { is_dropped = true } in
          let one : f ≡ j = same_number f j same in
          ap (λ k. task k (record p { futures = now its_future.0 })) (sym one)
          ∙ (task_at (record p { futures = now its_future.0 }) y (set_same p.futures f y its_future.0 its_future.1)
          ∙ (sym (task_at p its_future.0 its_future.1) ∙ ap (λ k. task k p) one))
        where
          task_at : (q : Plain T (SoloWaker X)) (x : Future T (SoloWaker X)) → slice_get q.futures f ≡ Some x → task f q ≡ x.task
          task_at q x is = task_is f q x is
      by false same =
          ap (λ (o : Option (Future T (SoloWaker X))). or o (λ future. future.task) no_task)
          (set_other p.futures f j (record its_future.0 { is_dropped = true }) same)

  followed : Follows name gone dropped
  followed =
      subst (Follows name gone) (sym dropped_is)
      (record {
        numbered = λ j below. r.numbered j (subst (λ n. j < n) long below);
        tasks = λ j below. tasks_by (f == j) j refl (subst (λ n. j < n) long below);
        within =
            subst (λ ns. length ns ≤ p.limit) (sym living)
            (let it : length (less f (living_from 0 p.futures)) ≤ length (living_from 0 p.futures) =
            less_short f (living_from 0 p.futures) in omega (arith, it, r.within));
        queued = r.queued;
        once = r.once;
        ready = λ j due. let can = r.ready j due in (subst (λ n. j < n) (sym long) can.0, can.1);
        asleep = subst (λ n. IsAsleep name n s.sleepers s.notified p.lying) (sym long) r.asleep;
        awaiters = λ j u has.
            subst (λ n. IsNamed name n u) (sym long)
            (r.awaiters j u (sym (ap (λ (t : AbstractTask T (SoloWaker X)). t.awaiter) (task_same j)) ∙ has));
        inside = subst (λ n. IsInside name n s.cells p.inside) (sym long) r.inside;
      })

  -- its entry was there
  lives_there : is_in f (living_from 0 p.futures) ≡ true
  lives_there = lives p.futures 0 f f its_future.0 (omega arith) its_future.1 lived

  entry : (e : Entry F (Option Task)) × (entry_in (its f).place s.table.entries ≡ Some e)
      × (e.waker ≡ counted_waker (not p.is_static) (name f))
      × (map row (left_by (its f).place s.table.entries)
      ≡ map (row_of its (not p.is_static) (at_home its s.cells)) (less f (living_from 0 p.futures)))
      × (is_some e.future ≡ at_home its s.cells f)
  entry = leaves its (not p.is_static) (at_home its s.cells) f s.table.entries (living_from 0 p.futures) t.rows t.keys_apart lives_there

  -- the waker that it counted goes
  abbrev let_off : Bool → Solo F T X
  let_off held = turns.let_go_if (counted_waker held (name f)) gone

  pub left_is : turns.left (its f).place s ≡ let_off (not p.is_static)
  left_is =
      ap (λ o. turns.left_by_parts (parts_of o) gone) entry.1
      ∙ ap (λ w. turns.let_go_if w gone) entry.2

  abbrev pub given : Plain T (SoloWaker X)
  given = takes.given_up wakes c f dropped

  static_same : dropped.is_static ≡ p.is_static
  static_same = ap (λ (q : Plain T (SoloWaker X)). q.is_static) dropped_is

  module _ (many : length p.lying ≤ c.tells) (life : HasLife 8 s.lines) where
    pub given_follows : Follows name (turns.left (its f).place s) given
    given_follows =
        subst (λ z. Follows name z given) (sym left_is)
        (subst (λ b. Follows name (let_off (not p.is_static)) (if b then dropped else release wakes (tell wakes c) f dropped))
        (sym static_same) (by p.is_static))
      where
        by : (b : Bool) → Follows name (let_off (not b)) (if b then dropped else release wakes (tell wakes c) f dropped)
        by true = followed
        by false =
            released None name c f gone dropped
            (subst (λ n. f < n) (sym (ap (λ (q : Plain T (SoloWaker X)). length q.futures) dropped_is ∙ long)) at) followed
            (subst (λ ls. length ls ≤ c.tells) (sym (ap (λ (q : Plain T (SoloWaker X)). q.lying) dropped_is)) many)
            (three_fewer 2 s.lines (three_fewer 5 s.lines life))

    pub given_lives : HasLife 5 (turns.left (its f).place s).lines
    given_lives = subst (λ (z : Solo F T X). HasLife 5 z.lines) (sym left_is) (by p.is_static)
      where
        by : (b : Bool) → HasLife 5 (let_off (not b)).lines
        by true = three_fewer 5 s.lines life
        by false = released_lives 5 (name f) gone life

  -- what the release of its waker hands out is seen
  told_is : (turns.left_answer (its f).place s).told ≡ turns.let_go_if_answer (counted_waker (not p.is_static) (name f)) gone
  told_is =
      ap (λ o. (turns.left_answer_by (parts_of o) gone).told) entry.1
      ∙ ap (λ w. turns.let_go_if_answer w gone) entry.2

  pub given_events : length p.lying ≤ c.tells → HasLife 8 s.lines
      → given.events ≡ p.events ++ rings (turns.left_answer (its f).place s).told.sleeper
  given_events many life =
      subst
      (λ b. (if b then dropped else release wakes (tell wakes c) f dropped).events
      ≡ p.events ++ rings (turns.left_answer (its f).place s).told.sleeper)
      (sym static_same)
      (by p.is_static ∙ ap (λ (t : Told X). p.events ++ rings t.sleeper) (sym told_is))
    where
      by : (b : Bool) → (if b then dropped else release wakes (tell wakes c) f dropped).events
          ≡ p.events ++ rings (turns.let_go_if_answer (counted_waker (not b) (name f)) gone).sleeper
      by true = ap (λ (q : Plain T (SoloWaker X)). q.events) dropped_is ∙ sym (append-nil p.events)
      by false =
          released_shows None name c f gone dropped
          (subst (λ n. f < n) (sym (ap (λ (q : Plain T (SoloWaker X)). length q.futures) dropped_is ∙ long)) at) followed
          (subst (λ ls. length ls ≤ c.tells) (sym (ap (λ (q : Plain T (SoloWaker X)). q.lying) dropped_is)) many)
          (three_fewer 2 s.lines (three_fewer 5 s.lines life))
          ∙ ap (λ (q : Plain T (SoloWaker X)). q.events ++ rings (solo.release_answer (name f) gone).sleeper) dropped_is

  -- and no other future
  pub gone_future : (turns.left_answer (its f).place s).future ≡ None
  gone_future =
      ap (λ o. (turns.left_answer_by (parts_of o) gone).future) entry.1
      ∙ none entry.0.future (entry.4 ∙ (ap (λ (o : Option EntryPlace). is_some o) (asks_found home_in None (name f) s.cells)
      ∙ by (found (name f) s.cells) refl))
    where
      none : (o : Option F) → is_some o ≡ false → o ≡ None
      none None is = refl
      none (Some y) is = absurd cc

      at_none : (place : FuturePlace EntryPlace) → (is_home place ≡ true → ⊥) → is_some (home_by place) ≡ false
      at_none (Home place) never = absurd (never refl)
      at_none IsLent never = refl
      at_none Dropping never = refl
      at_none Gone never = refl

      by : (o : Option (Kept T X)) → found (name f) s.cells ≡ o → is_some (of_found home_in None o) ≡ false
      by None is = refl
      by (Some v) is = at_none v.future (away v is)

  pub given_still : Still c dropped given
  given_still = by dropped.is_static
    where
      by : (b : Bool) → Still c dropped (if b then dropped else release wakes (tell wakes c) f dropped)
      by true = still c dropped
      by false = becomes_still c (tell wakes c) (tell_still c) f (abstract.release (task f dropped)) dropped

  pub left_base : bases.Base gone (turns.left (its f).place s)
  left_base = subst (bases.Base gone) (sym left_is) (by p.is_static)
    where
      by : (b : Bool) → bases.Base gone (let_off (not b))
      by true = bases.same gone
      by false = bases.released_base gone (name f) gone (bases.same gone)

  -- the table is that of the others, once it is no more in hand
  module _ (rest : List (Code T (SoloWaker X)))
      (lent : (j : ℕ) → is_in j (lents rest) ≡ true → (is_dropped j p ≡ false) × ((f == j) ≡ false))
      (dropping : (j : ℕ) → is_in j (drops rest) ≡ true → (is_dropped j p ≡ false) × ((f == j) ≡ false)) where
    still_there : (j : ℕ) → (is_dropped j p ≡ false) × ((f == j) ≡ false)
        → is_dropped j (record p { futures = now its_future.0; inside = rest }) ≡ false
    still_there j it =
        ap (λ (o : Option (Future T (SoloWaker X))). or o (λ future. future.is_dropped) true)
        (set_other p.futures f j (record its_future.0 { is_dropped = true }) it.1) ∙ it.0

    pub gone_tabled : IsTable its gone (record dropped { inside = rest })
    gone_tabled =
        subst (λ (q : Plain T (SoloWaker X)). IsTable its gone (record q { inside = rest })) (sym dropped_is)
        (record {
          rows = entry.3 ∙ ap (map (row_of its (not p.is_static) (at_home its s.cells))) (sym living);
          homes = λ j place below home. t.homes j place (subst (λ n. j < n) long below) home;
          made = t.made;
          queues = t.queues;
          kept = t.kept;
          numbers_apart = t.numbers_apart;
          going = t.going;
          leaving = t.leaving;
          leaving_open = t.leaving_open;
          leaving_limit = t.leaving_limit;
          few = subst (λ n. n ≤ most_accepted) (sym long) t.few;
          unleaked = t.unleaked;
          keys_apart =
              ap (λ fs. apart (map (key_of its) fs)) living
              ∙ apart_less (key_of its) f (living_from 0 p.futures) t.keys_apart;
          limit = t.limit;
          accepted = t.accepted ∙ sym long;
          kind = t.kind;
          lent = λ j has. still_there j (lent j has);
          dropping = λ j has. still_there j (dropping j has);
        })
