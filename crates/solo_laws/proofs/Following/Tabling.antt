-- The calls on tasks leave the table as the plain scheduler's futures, and the own queues as what its runs keep.
use Rattle.std.proofs.Common.{◌≡◌, ℕ, ◌<◌, ◌==◌, not, cond, if◌then◌else◌, Bool, true, false, List, [], ◌∷◌, ◌++◌, length, map, filter}
use Rattle.std.proofs.Common.{◌+◌, ◌≤◌, Option, Some, None, is_some, slice_get, refl, sym, ap, subst, ◌∙◌, arith}
use Rattle.task_moves.specs.AbstractTask as abstract
use Rattle.task_moves.specs.LocalTask as local
use Rattle.task_moves.specs.LocalTask.{is_home, is_queued}
use Rattle.task_moves.specs.declared.local_task.answers.FuturePlace.{FuturePlace}
use Rattle.task_moves.specs.declared.local_task.answers.FuturePlace.TheVariants.{Home, Lent as IsLent, Dropping, Gone}
use Rattle.task_moves.specs.declared.local_task.answers.Start.TheVariants.{Poll as StartPoll, Drop as StartDrop}
use Rattle.queue_steps.specs.ClosableQueue.{ClosableQueue, most_accepted}
use Rattle.executor_parts.specs.declared.places.EntryPlace.{EntryPlace}
use Rattle.executor_parts.specs.Places.{set_future}
use Rattle.solo.specs.declared.names.Task.{Task}
use Rattle.solo.specs.declared.cells.Cells.{Cells}
use Rattle.solo.specs.declared.own_queues.Own.{Own}
use Rattle.solo.specs.declared.names.SoloWaker.{SoloWaker}
use Rattle.solo.specs.declared.owed.Lent.{Lent}
use Rattle.solo.specs.declared.solo.Solo.{Solo}
use Rattle.solo.specs.Cells.{choose, asked}
use Rattle.solo.specs.Cells as cells
use Rattle.solo.specs.OwnQueues as own
use Rattle.solo.specs.OwnQueues.{OwnQueuesValue}
use Rattle.solo.specs.Table.{TableValue, counted_waker}
use Rattle.solo.specs.Turns as turns
use Rattle.solo.specs.Solo.{counts}
use Rattle.plain_scheduler.specs.State.{Due, Future, Choice, Plain, Running, Code, Event, Poll, Drop, Lose, Taker, Closed, Gave, Polls}
use Rattle.plain_scheduler.specs.State.{Drops, Loses, Answers, Done}
use Rattle.plain_scheduler.specs.Lists.{or, without}
use Rattle.plain_scheduler.specs.Moves.{task, put, tell, becomes, is_kept}
use Rattle.plain_scheduler.specs.Takes as takes
use Rattle.plain_scheduler.specs.Calls as calls
use Rattle.solo_laws.specs.Road.{IsTaskOf, Follows, count_of, is_in, apart, lents, drops, wakes, stands}
use Rattle.solo_laws.specs.Tabled.{IsTable, IsTableBut, Stands, named, at_home, home_by, home_of, own_of, row, row_of, key_of, is_dropped}
use Rattle.solo_laws.specs.Tabled.{goes_on}
use Rattle.solo_laws.proofs.Following.Lists.{get_below, length_map}
use Rattle.solo_laws.proofs.Following.Lines.{without_other}
use Rattle.solo_laws.proofs.Following.Due.{both_true, later, equal, lives}
use Rattle.solo_laws.proofs.Following.Cells.{same_number, found, of_found, asks_found, changed_found, found_here, found_there}
use Rattle.solo_laws.proofs.Following.Homes.{home_in}
use Rattle.solo_laws.proofs.Following.Rows.{map_same_in, living_below, living_long, but_one, rows_set}
use Rattle.solo_laws.proofs.Following.Changing.{kept, task_is}
use Rattle.solo_laws.proofs.Following.Frames.{Still, chain, put_still, becomes_still, tell_still, seen_still, due_still}
use Rattle.solo_laws.proofs.Following.Bases.{Base, same}

module _ {T X : Type 0} where
  more_of : (p : Plain T (SoloWaker X)) (f : ℕ) → is_dropped f p ≡ false → (ns : List ℕ)
      → ((j : ℕ) → is_in j ns ≡ true → is_dropped j p ≡ false) → (j : ℕ) → is_in j (f ∷ ns) ≡ true → is_dropped j p ≡ false
  more_of p f live ns all j has = by (j == f) refl has
    where
      by : (b : Bool) → (j == f) ≡ b → cond b true (is_in j ns) ≡ true → is_dropped j p ≡ false
      by true one has = ap (λ n. is_dropped n p) (same_number j f one) ∙ live
      by false one has = all j has

  pub lives_at : (p : Plain T (SoloWaker X)) (f : ℕ) → is_dropped f p ≡ false → f < length p.futures
      → is_in f (calls.living_from 0 p.futures) ≡ true
  lives_at p f live below =
      let x = get_below p.futures f below in
      lives p.futures 0 f f x.0 (omega arith) x.1
      (sym (ap (λ (o : Option (Future T (SoloWaker X))). or o (λ future. future.is_dropped) true) x.1) ∙ live)

module _ {F T X : Type 0} (its : ℕ → Lent) (c : Choice) where
  -- the same rows, for the same futures
  pub tabled : {waits : List Task} (s z : Solo F T X) (p q : Plain T (SoloWaker X)) → Base s z → Still c p q → IsTableBut waits its s p
      → IsTableBut waits its z q
  tabled s z p q base stays t = record {
    rows =
        base.0
        ∙ (t.rows
        ∙ (ap (λ b. map (row_of its (not b) (at_home its s.cells)) (calls.living_from 0 p.futures)) (sym stays.static)
        ∙ (ap (map (row_of its (not q.is_static) (at_home its s.cells))) (sym stays.living)
        ∙ map_same_in (row_of its (not q.is_static) (at_home its s.cells)) (row_of its (not q.is_static) (at_home its z.cells))
        (calls.living_from 0 q.futures) (λ f has. same_row f))));
    homes = λ f place below home.
        t.homes f place (subst (λ n. f < n) stays.futures below) (sym (base.4 (named its f)) ∙ home);
    keys_apart = ap (λ fs. apart (map (key_of its) fs)) stays.living ∙ t.keys_apart;
    limit = base.1 ∙ (t.limit ∙ sym stays.limit);
    accepted = base.2 ∙ (t.accepted ∙ sym stays.futures);
    kind = ap counts base.3 ∙ (t.kind ∙ ap not (sym stays.static));
    lent = λ f has. stays.dropped f ∙ t.lent f (ap (λ cs. is_in f (lents cs)) (sym stays.inside) ∙ has);
    dropping = λ f has. stays.dropped f ∙ t.dropping f (ap (λ cs. is_in f (drops cs)) (sym stays.inside) ∙ has);
    made = ap (λ (o : OwnQueuesValue). o.made) base.6 ∙ (t.made ∙ sym (ap (λ (rs : List Running). length rs) stays.runs));
    queues = λ r.
        ap (λ (o : OwnQueuesValue). own.queue_of r o.queues) base.6
        ∙ (t.queues r
        ∙ (ap (λ rs. own_of its (going_on r rs) (filter (is_kept r) p.due)) (sym stays.runs)
        ∙ ap (own_of its (goes_on r q)) (sym (stays.kept r))));
    kept = λ r over. stays.kept r ∙ t.kept r (ap (going_on r) (sym stays.runs) ∙ over);
    numbers_apart = ap (λ (o : OwnQueuesValue). apart (map (λ (q : Own). q.number) o.queues)) base.6 ∙ t.numbers_apart;
    going = ap (λ (t : TableValue F). t.entries) base.7 ∙ t.going;
    leaving = ap (λ (q : ClosableQueue Task). q.items) base.8 ∙ t.leaving;
    leaving_open = ap (λ (q : ClosableQueue Task). q.closed) base.8 ∙ t.leaving_open;
    leaving_limit = ap (λ (q : ClosableQueue Task). q.capacity) base.8 ∙ (t.leaving_limit ∙ ap (λ n. Some n) (sym stays.limit));
    few = subst (λ n. n ≤ most_accepted) (sym stays.futures) t.few;
    unleaked = λ owned. ap (λ (q : ClosableQueue Task). count_of q.accepted) base.8 ∙ t.unleaked (sym stays.static ∙ owned);
  }
    where
      going_on : ℕ → List Running → Bool
      going_on r rs = or (slice_get rs r) (λ run. not run.is_over) false

      same_row : (f : ℕ) → row_of its (not q.is_static) (at_home its s.cells) f ≡ row_of its (not q.is_static) (at_home its z.cells) f
      same_row f =
          ap (λ (o : Option EntryPlace). ((its f).place, counted_waker (not q.is_static) (its f).task, is_some o))
          (sym (base.4 (named its f)))

  -- other users' codes have other futures in hand
  pub handed : (s : Solo F T X) (p : Plain T (SoloWaker X)) (events : List (Event T (SoloWaker X)))
      (inside : List (Code T (SoloWaker X)))
      → ((f : ℕ) → is_in f (lents inside) ≡ true → is_dropped f p ≡ false)
      → ((f : ℕ) → is_in f (drops inside) ≡ true → is_dropped f p ≡ false)
      → IsTable its s p → IsTable its s (record p { events = events; inside = inside })
  handed s p events inside lent dropping t = record {
    rows = t.rows;
    homes = t.homes;
    keys_apart = t.keys_apart;
    limit = t.limit;
    accepted = t.accepted;
    kind = t.kind;
    lent = lent;
    dropping = dropping;
    made = t.made;
    queues = t.queues;
    kept = t.kept;
    numbers_apart = t.numbers_apart;
    going = t.going;
    leaving = t.leaving;
    leaving_open = t.leaving_open;
    leaving_limit = t.leaving_limit;
    few = t.few;
    unleaked = t.unleaked;
  }

  -- one more
  pub one_polled : (s : Solo F T X) (p : Plain T (SoloWaker X)) (events : List (Event T (SoloWaker X))) (f : ℕ)
      (by : Taker (SoloWaker X)) → is_dropped f p ≡ false → IsTable its s p
      → IsTable its s (record p { events = events; inside = Poll f by ∷ p.inside })
  one_polled s p events f by live t =
      handed s p events (Poll f by ∷ p.inside) (more_of p f live (lents p.inside) t.lent) t.dropping t

  pub one_closed : (s : Solo F T X) (p : Plain T (SoloWaker X)) (events : List (Event T (SoloWaker X))) (f : ℕ)
      (by : Taker (SoloWaker X)) → is_dropped f p ≡ false → IsTable its s p
      → IsTable its s (record p { events = events; inside = Drop f Closed by ∷ p.inside })
  one_closed s p events f by live t =
      handed s p events (Drop f Closed by ∷ p.inside) t.lent (more_of p f live (drops p.inside) t.dropping) t

  -- a detach has no future in hand
  pub detach_tabled : (f : ℕ) (s : Solo F T X) (p : Plain T (SoloWaker X)) → IsTable its s p
      → IsTable its s (calls.detach wakes c f p)
  detach_tabled f s p t =
      let left = abstract.detach (task f p) in
      let q = becomes wakes (tell wakes c) f left.task p in
      let stays = becomes_still c (tell wakes c) (tell_still c) f left.task p in
      let z = put f (task f q) q in
      by z left.dropped (tabled s s p z (same s) (chain c stays (put_still c f (task f q) q)) t)
    where
      by : (z : Plain T (SoloWaker X)) (o : Option T) → IsTable its s z
          → IsTable its s (or o (λ v. record z { events = z.events ++ Loses v ∷ []; inside = Lose None None ∷ z.inside })
          (record z { events = z.events ++ Answers Done ∷ [] }))
      by z None t = tabled s s z (record z { events = z.events ++ Answers Done ∷ [] }) (same s)
          (seen_still c z (z.events ++ Answers Done ∷ [])) t
      by z (Some v) t = handed s z (z.events ++ Loses v ∷ []) (Lose None None ∷ z.inside) t.lent t.dropping t

  module _ (s : Solo F T X) (p : Plain T (SoloWaker X)) (r : Follows (named its) s p) (t : IsTable its s p) where
    -- one that is due isn't dropped
    pub due_lives : (f : ℕ) → stands f p.due ≡ true → is_dropped f p ≡ false
    due_lives f due =
        let can = r.ready f due in
        let k = kept None (named its) cells.may_start f s p r can.0 can.1 in
        ap (λ (o : Option (Future T (SoloWaker X))). or o (λ future. future.is_dropped) true) k.3
        ∙ there k.5 (both_true (is_home k.0.future) (is_queued k.0.task.phase) k.4).0
      where
        there : {v : cells.Kept T X} {x : Future T (SoloWaker X)} → IsTaskOf v x → is_home v.future ≡ true → x.is_dropped ≡ false
        there of home = of.there home

    -- the future of one is taken out of its entry, or put back
    module _ (f : ℕ) (live : is_dropped f p ≡ false) (below : f < length p.futures) (g : cells.Kept T X → cells.Kept T X) (o : Option F)
        (its_place : (place : EntryPlace) → home_of (named its f) (cells.changed g (named its f) s.cells) ≡ Some place → place
        ≡ (its f).place)
        (held : is_some (home_of (named its f) (cells.changed g (named its f) s.cells)) ≡ is_some o) where
      abbrev now : Cells T X
      now = cells.changed g (named its f) s.cells

      pub other_homes : (j : ℕ) → j < length p.futures → (f == j) ≡ false → home_of (named its j) now ≡ home_of (named its j) s.cells
      other_homes j there apart =
          asks_found home_in None (named its j) now
          ∙ (ap (of_found home_in None) (found_there g (named its f) (named its j)
          (ap (λ n. n == (named its j).number) (r.numbered f below) ∙ (ap (λ n. f == n) (r.numbered j there) ∙ apart)) s.cells)
          ∙ sym (asks_found home_in None (named its j) s.cells))

      home_now : (j : ℕ) → j < length p.futures → but_one its (not p.is_static) (at_home its s.cells) f o j ≡ at_home its now j
      home_now j there = by (f == j) refl
        where
          by : (b : Bool) → (f == j) ≡ b → cond b (is_some o) (at_home its s.cells j) ≡ at_home its now j
          by true same = sym held ∙ ap (λ n. at_home its now n) (same_number f j same)
          by false same = ap (λ (o : Option EntryPlace). is_some o) (sym (other_homes j there same))

      abbrev pub set : Solo F T X
      set = record s { cells = now; table = record s.table { entries = set_future (its f).place o s.table.entries } }

      pub set_tabled : IsTable its set p
      set_tabled = record {
        rows =
            rows_set its (not p.is_static) (at_home its s.cells) f o s.table.entries (calls.living_from 0 p.futures) t.rows t.keys_apart
            (lives_at p f live below)
            ∙ map_same_in (row_of its (not p.is_static) (but_one its (not p.is_static) (at_home its s.cells) f o))
            (row_of its (not p.is_static) (at_home its now)) (calls.living_from 0 p.futures)
            (λ j has. ap (λ b. ((its j).place, counted_waker (not p.is_static) (its j).task, b))
            (home_now j (let there = living_below p.futures 0 j has in omega (arith, there))));
        homes = λ j place there home. at (f == j) j place there refl home;
        keys_apart = t.keys_apart;
        limit = t.limit;
        accepted = t.accepted;
        kind = t.kind;
        lent = t.lent;
        dropping = t.dropping;
        made = t.made;
        queues = t.queues;
        kept = t.kept;
        numbers_apart = t.numbers_apart;
        going = t.going;
        leaving = t.leaving;
        leaving_open = t.leaving_open;
        leaving_limit = t.leaving_limit;
        few = t.few;
        unleaked = t.unleaked;
      }
        where
          at : (b : Bool) (j : ℕ) (place : EntryPlace) → j < length p.futures → (f == j) ≡ b → home_of (named its j) now ≡ Some place
              → place ≡ (its j).place
          at true j place there same home =
              let one : f ≡ j = same_number f j same in
              its_place place (ap (λ n. home_of (named its n) now) one ∙ home) ∙ ap (λ n. (its n).place) one
          at false j place there same home = t.homes j place there (sym (other_homes j there same) ∙ home)

    -- the run of one that is ready begins
    module _ (f : ℕ) (live : is_dropped f p ≡ false) (below : f < length p.futures)
        (ready : asked cells.may_start false (named its f) s.cells ≡ true) where
      pub its_task : (v : cells.Kept T X) × (found (named its f) s.cells ≡ Some v) × (cells.may_start v ≡ true) × (v.task ≡ task f p)
      its_task =
          let k = kept None (named its) cells.may_start f s p r below ready in
          (k.0, k.2, k.4, k.5.task ∙ sym (task_is f p k.1 k.3))

      abbrev v : cells.Kept T X
      v = its_task.0

      started : cells.started v ≡ record v { task = abstract.begin_run v.task; future = local.started v.task.closed }
      started = ap (λ b. choose b (record v { task = abstract.begin_run v.task; future = local.started v.task.closed }) v) its_task.2

      away_by : (closed : Bool) → home_by (local.started {F = EntryPlace} closed) ≡ None
      away_by true = refl
      away_by false = refl

      out_of_home : home_of (named its f) (cells.changed cells.started (named its f) s.cells) ≡ None
      out_of_home =
          asks_found home_in None (named its f) (cells.changed cells.started (named its f) s.cells)
          ∙ (ap (of_found home_in None) (found_here cells.started (named its f) s.cells ∙ ap (changed_found cells.started) its_task.1)
          ∙ (ap home_in started ∙ away_by v.task.closed))

      -- its place
      placed : (place : FuturePlace EntryPlace) → v.future ≡ place → is_home place ≡ true → v.future ≡ Home (its f).place
      placed (Home at) is home =
          is
          ∙ ap (λ at. Home at) (t.homes f at below
          (asks_found home_in None (named its f) s.cells ∙ (ap (of_found home_in None) its_task.1 ∙ ap home_by is)))
      placed IsLent is home = absurd cc
      placed Dropping is home = absurd cc
      placed Gone is home = absurd cc

      pub at_place : v.future ≡ Home (its f).place
      at_place = placed v.future refl (both_true (is_home v.future) (is_queued v.task.phase) its_task.2).0

      pub starts : asked cells.start_answer None (named its f) s.cells
          ≡ Some (if v.task.closed then StartDrop (its f).place else StartPoll (its f).place)
      starts =
          asks_found cells.start_answer None (named its f) s.cells
          ∙ (ap (of_found cells.start_answer None) its_task.1
          ∙ (ap (λ b. choose b (cells.start_by v.task.closed v.future) None) its_task.2
          ∙ (ap (λ place. cells.start_by v.task.closed place) at_place ∙ by v.task.closed)))
        where
          by : (b : Bool) → cells.start_by b (Home (its f).place) ≡ Some (if b then StartDrop (its f).place else StartPoll (its f).place)
          by true = refl
          by false = refl

      nowhere : (place : EntryPlace) → home_of (named its f) (cells.changed cells.started (named its f) s.cells) ≡ Some place
          → place ≡ (its f).place
      nowhere place home = absurd (clash_of out_of_home home)
        where
          clash_of : {o : Option EntryPlace} → o ≡ None → o ≡ Some place → ⊥
          clash_of none some = absurd cc

      pub begins : IsTable its (turns.begun (named its f) s) p
      begins =
          subst (λ o. IsTable its (turns.out_of o (turns.turned cells.started (named its f) s)) p) (sym starts) (by v.task.closed)
        where
          all : IsTable its (set f live below cells.started None nowhere (ap (λ (o : Option EntryPlace). is_some o) out_of_home)) p
          all = set_tabled f live below cells.started None nowhere (ap (λ (o : Option EntryPlace). is_some o) out_of_home)

          by : (b : Bool) → IsTable its (turns.out_of (Some (if b then StartDrop (its f).place else StartPoll (its f).place))
              (turns.turned cells.started (named its f) s)) p
          by true = all
          by false = all

  -- and has in hand a future that isn't dropped
  pub run_tabled : (f : ℕ) (by : Taker (SoloWaker X)) (s : Solo F T X) (p : Plain T (SoloWaker X)) → is_dropped f p ≡ false
      → IsTable its s p → IsTable its s (takes.run wakes c f by p)
  run_tabled f by s p live t = closed_by (task f p).closed
    where
      closed_by : (b : Bool) → IsTable its s (if b then takes.dropping wakes c f Closed by p
          else (let q = put f (abstract.begin_run (task f p)) p in
          record q { events = q.events ++ Polls f ∷ []; inside = Poll f by ∷ q.inside }))
      closed_by true = one_closed s p (p.events ++ Drops f ∷ []) f by live t
      closed_by false =
          let q = put f (abstract.begin_run (task f p)) p in
          let stays = put_still c f (abstract.begin_run (task f p)) p in
          one_polled s q (q.events ++ Polls f ∷ []) f by (stays.dropped f ∙ live)
          (tabled s s p q (same s) stays t)

  module _ (s : Solo F T X) (p : Plain T (SoloWaker X)) (r : Follows (named its) s p) (t : IsTable its s p) where
    -- one without a keeper leaves what runs keep
    pub taken_still : (test : Due → Bool) → ((r : ℕ) (d : Due) → test d ≡ true → is_kept r d ≡ false)
        → Still c p (record p { due = without test p.due })
    taken_still test none = due_still c p (without test p.due) (λ r. without_other test (is_kept r) (none r) p.due)

    -- the end of a poll
    module _ (f : ℕ) (by : Taker (SoloWaker X)) (rest : List (Code T (SoloWaker X))) (stands_in : p.inside ≡ Poll f by ∷ rest) where
      pub live : is_dropped f p ≡ false
      live = t.lent f (ap (λ cs. is_in f (lents cs)) stands_in ∙ here (f == f) (equal f f refl))
        where
          here : (b : Bool) → b ≡ true → cond b true (is_in f (lents rest)) ≡ true
          here true is = refl
          here false is = absurd cc

      pub left : IsTable its s (record p { inside = rest })
      left =
          handed s p p.events rest
          (λ j has. t.lent j (ap (λ cs. is_in j (lents cs)) stands_in ∙ later (j == f) (is_in j (lents rest)) has))
          (λ j has. t.dropping j (ap (λ cs. is_in j (drops cs)) stands_in ∙ has)) t

      pub gives_tabled : (v : T) → IsTable its s (calls.does wakes c (calls.Call.EndsWith v) p)
      gives_tabled v =
          subst (λ cs. IsTable its s (calls.innermost wakes c cs (calls.gives wakes c v) p)) (sym stands_in)
          (handed s p (p.events ++ Drops f ∷ []) (Drop f (Gave v) by ∷ rest)
          (λ j has. t.lent j (ap (λ cs. is_in j (lents cs)) stands_in ∙ has))
          (λ j has. t.dropping j (ap (λ cs. is_in j (drops cs)) stands_in ∙ has)) t)

-- a leak, or the drop of the executor, takes out no more than a queue accepts
pub leaves_few : {F T X : Type 0} (its : ℕ → Lent) (s : Solo F T X) (p : Plain T (SoloWaker X)) → Stands its s p → p.is_static ≡ false
    → count_of s.leaving.accepted + length s.table.entries ≤ most_accepted
leaves_few its s p both owned =
    let long =
    sym (length_map row s.table.entries)
    ∙ (ap (λ rows. length rows) both.1.rows
    ∙ length_map (row_of its (not p.is_static) (at_home its s.cells)) (calls.living_from 0 p.futures)) in
    let none = both.1.unleaked owned in
    let few = living_long p.futures 0 in
    let life = both.1.few in
    omega (arith, long, none, few, life)
