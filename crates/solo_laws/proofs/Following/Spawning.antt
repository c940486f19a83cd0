-- A spawn is one of the plain scheduler: its future comes last in the table, and its task in its queue.
use Rattle.std.proofs.Common.{◌≡◌, ◌≢◌, ℕ, ◌+◌, ◌<◌, ◌≤◌, ◌==◌, nat_lt, not, cond, if◌then◌else◌, Bool, true, false, List, [], ◌∷◌, ◌++◌}
use Rattle.std.proofs.Common.{length, map, Option, Some, None, is_some, slice_get, refl, sym, ap, subst, ◌∙◌, arith}
use Rattle.std.proofs.lemmas.Bool.Decides.{nat_tests}
use Rattle.queue_steps.specs.ClosableQueue.{most_accepted}
use Rattle.slab.specs.Slab.{get}
use Rattle.executor_parts.specs.declared.mark.Mark.{Mark}
use Rattle.executor_parts.specs.declared.places.EntryPlace.{EntryPlace}
use Rattle.executor_parts.specs.Places.{Entry, entry_at}
use Rattle.task_moves.specs.AbstractTask as abstract
use Rattle.solo.specs.declared.names.Task.{Task}
use Rattle.solo.specs.declared.names.SoloWaker.{SoloWaker}
use Rattle.solo.specs.declared.names.SoloWaker.TheVariants.{Task as OfTask}
use Rattle.solo.specs.declared.owed.Lent.{Lent}
use Rattle.solo.specs.declared.cells.Cells.{Cells}
use Rattle.solo.specs.declared.solo.Solo.{Solo}
use Rattle.solo.specs.Cells.{Kept, choose, asked, asked_by, new_task}
use Rattle.solo.specs.Cells as cells
use Rattle.solo.specs.OwnQueues as own
use Rattle.solo.specs.Table.{TableValue, Accepts, new_entry, counted_waker}
use Rattle.solo.specs.Solo as solo
use Rattle.solo.specs.Turns as turns
use Rattle.plain_scheduler.specs.State.{Future, Choice, Plain, Answers, Made, NoMemory, Full}
use Rattle.plain_scheduler.specs.Lists.{or}
use Rattle.plain_scheduler.specs.Moves.{appended, tell, no_task, answers}
use Rattle.plain_scheduler.specs.Calls.{living_from, is_granted}
use Rattle.solo_laws.specs.Road.{IsTaskOf, TaskIs, IsNamed, Follows, HasLife, stands, is_in, apart, wakes}
use Rattle.solo_laws.specs.Tabled.{IsTable, Stands, named, row, row_of, key_of, is_dropped, at_home, home_of}
use Rattle.solo_laws.specs.Spawning.{SpawnsAlike}
use Rattle.solo_laws.proofs.Following.Lists.{length_map, map_append}
use Rattle.solo_laws.proofs.Following.Adding.{long_last, get_last, map_twice, living_last, apart_last}
use Rattle.solo_laws.proofs.Following.Cells.{found, of_found, asks_found, same_number}
use Rattle.solo_laws.proofs.Following.Homes.{home_in}
use Rattle.solo_laws.proofs.Following.Rows.{map_same_in, living_below}
use Rattle.solo_laws.proofs.Following.Changing.{lined}
use Rattle.solo_laws.proofs.Following.Placing.{places}
use Rattle.solo_laws.proofs.Following.Using.{marks}
use Rattle.solo_laws.proofs.Following.Lines.{younger, life_pushed}
use Rattle.solo_laws.proofs.Following.Telling.{told}
use Rattle.solo_laws.proofs.Following.Seeing.{seen}
use Rattle.solo_laws.proofs.Following.Frames.{chain, tell_still, seen_still, appended_still}
use Rattle.solo_laws.proofs.Following.Bases as bases
use Rattle.solo_laws.proofs.Following.Tabling.{tabled}

below_last : (f n : ℕ) → f < n + 1 → (f == n) ≡ false → f < n
below_last f n below apart = omega (arith, below, unequal f n apart)
  where
    unequal : (f n : ℕ) → (f == n) ≡ false → f ≢ n
    unequal f n is = λ same. absurd (grind (arith, nat_tests))

not_equal : (n j : ℕ) → j < n → (n == j) ≡ false
not_equal n j below = grind (arith, nat_tests)

not_equal_to : (n j : ℕ) → j < n → (j == n) ≡ false
not_equal_to n j below = grind (arith, nat_tests)

is_below : (n m : ℕ) → n < m → nat_lt n m ≡ true
is_below n m below = grind (arith, nat_tests)

-- no entry has the key
none_at : {F : Type 0} (key : ℕ) (es : List (Entry F (Option Task))) → entry_at key es ≡ None
    → is_in key (map (λ (e : Entry F (Option Task)). e.key) es) ≡ false
none_at key [] is = refl
none_at {F} key (e ∷ es) is = by (key == e.key) is (none_at key es)
  where
    by : (b : Bool) → ◌≡◌ {A = Option (Entry F (Option Task))} (elim b [ true ↦ Some e | false ↦ entry_at key es ]) None
        → (entry_at key es ≡ None → is_in key (map (λ (e : Entry F (Option Task)). e.key) es) ≡ false)
        → cond b true (is_in key (map (λ (e : Entry F (Option Task)). e.key) es)) ≡ false
    by true is rest = absurd cc
    by false is rest = rest is

module _ {F T X : Type 0} (its : ℕ → Lent) (s : Solo F T X) (p : Plain T (SoloWaker X)) (r : Follows (named its) s p)
    (t : IsTable its s p) (mark : Mark) (future : F) (new : Task) (table : TableValue F) (cells_after : Cells T X)
    (a : Accepts s.accepted (solo.counts s.kind) mark future s.table s.cells new table cells_after)
    (is : its (length p.futures) ≡ record { task = new; place = a.place }) (few : length p.futures < most_accepted) where
  abbrev name : ℕ → Task
  name = named its

  abbrev n : ℕ
  n = length p.futures

  abbrev pub accepting : Solo F T X
  accepting = record s { table = table; cells = cells_after; accepted = own.one_more s.accepted }

  abbrev coming : Future T (SoloWaker X)
  coming = record { task = abstract.spawned (if p.is_static then 0 else 1); mark = mark; is_dropped = false }

  abbrev pub entered : Plain T (SoloWaker X)
  entered = record p { futures = p.futures ++ coming ∷ [] }

  pub named_new : name n ≡ new
  named_new = ap (λ (l : Lent). l.task) is

  long : length entered.futures ≡ n + 1
  long = long_last p.futures coming

  -- the cells of others are as before
  cell_same : (j : ℕ) → j < n → found (name j) cells_after ≡ found (name j) s.cells
  cell_same j below = by ((name j).key == new.key) refl
    where
      other : (s.accepted == (name j).number) ≡ false
      other = ap (λ m. m == (name j).number) t.accepted ∙ (ap (λ m. n == m) (r.numbered j below) ∙ not_equal n j below)

      by : (b : Bool) → ((name j).key == new.key) ≡ b → found (name j) cells_after ≡ found (name j) s.cells
      by true same =
          let one : (name j).key ≡ new.key = same_number (name j).key new.key same in
          ap (λ k. asked_by Some None (name j) (get cells_after.slab k)) one
          ∙ (ap (asked_by Some None (name j)) a.cell.changed
          ∙ (ap (λ b. choose b (Some (new_task a.place (solo.counts s.kind) mark)) None) other
          ∙ sym (ap (λ k. asked_by Some None (name j) (get s.cells.slab k)) one
          ∙ ap (asked_by Some None (name j)) a.was_free)))
      by false same =
          let two : (name j).key ≢ new.key = λ one. absurd (grind (arith, nat_tests)) in
          ap (asked_by Some None (name j)) (a.cell.others (name j).key two)

  asks_same : (q : Kept T X → Bool) (j : ℕ) → j < n → asked q false (name j) s.cells ≡ true
      → asked q false (name j) cells_after ≡ true
  asks_same q j below so =
      asks_found q false (name j) cells_after
      ∙ (ap (of_found q false) (cell_same j below) ∙ (sym (asks_found q false (name j) s.cells) ∙ so))

  abbrev kept_new : Kept T X
  kept_new = new_task a.place (solo.counts s.kind) mark

  cell_new : found (name n) cells_after ≡ Some kept_new
  cell_new =
      ap (λ u. found u cells_after) named_new
      ∙ (ap (asked_by Some None new) a.cell.changed
      ∙ ap (λ b. choose b (Some kept_new) None) (same s.accepted new.number (sym a.numbered)))
    where
      same : (k m : ℕ) → k ≡ m → (k == m) ≡ true
      same k m is = grind (arith, nat_tests)

  counted : (b : Bool) → solo.counts s.kind ≡ not b
      → ◌≡◌ {A = ℕ} (choose (solo.counts s.kind) 1 0) (if b then 0 else 1)
  counted true is = ap (λ b. choose {B = ℕ} b 1 0) is
  counted false is = ap (λ b. choose {B = ℕ} b 1 0) is

  task_new : IsTaskOf kept_new coming
  task_new = record {
    task = ap (λ m. abstract.spawned m) (counted p.is_static t.kind);
    mark = refl;
    told = refl;
    idle = λ idle. absurd cc;
    done = λ gone. absurd cc;
    reached = refl;
    there = λ home. refl;
    closing = λ goes. absurd cc;
  }

  more : (m : ℕ) → m < n → m < length entered.futures
  more m below = subst (λ k. m < k) (sym long) (omega (arith, below))

  named_still : (u : Task) → IsNamed name n u → IsNamed name (length entered.futures) u
  named_still u it = (more u.number it.0, it.1)

  numbered_by : (b : Bool) (f : ℕ) → (f == n) ≡ b → f < n + 1 → (name f).number ≡ f
  numbered_by true f same below =
      let one : f ≡ n = same_number f n same in
      ap (λ k. (name k).number) one ∙ (ap (λ (u : Task). u.number) named_new ∙ (a.numbered ∙ (t.accepted ∙ sym one)))
  numbered_by false f same below = r.numbered f (below_last f n below same)

  tasks_by : (b : Bool) (f : ℕ) → (f == n) ≡ b → f < n + 1
      → TaskIs (found (name f) cells_after) (cond b (Some coming) (slice_get p.futures f))
  tasks_by true f same below =
      subst (λ k. TaskIs (found (name k) cells_after) (Some coming)) (sym (same_number f n same))
      (subst (λ o. TaskIs o (Some coming)) (sym cell_new) task_new)
  tasks_by false f same below =
      let here : f < n = below_last f n below same in
      subst (λ o. TaskIs o (slice_get p.futures f)) (sym (cell_same f here)) (r.tasks f here)

  awaiters_by : (b : Bool) (f : ℕ) (u : Task) → (f == n) ≡ b
      → (or (cond b (Some coming) (slice_get p.futures f)) (λ future. future.task) no_task).awaiter ≡ Some (OfTask u)
      → IsNamed name n u
  awaiters_by true f u same has = absurd cc
  awaiters_by false f u same has = r.awaiters f u has

  lives : living_from 0 entered.futures ≡ living_from 0 p.futures ++ n ∷ []
  lives = living_last p.futures coming 0 n (omega arith) refl

  entries_long : length s.table.entries ≡ length (living_from 0 p.futures)
  entries_long =
      sym (length_map row s.table.entries)
      ∙ (ap length t.rows ∙ length_map (row_of its (not p.is_static) (at_home its s.cells)) (living_from 0 p.futures))

  pub room : length (living_from 0 p.futures) < p.limit
  room =
      subst (λ m. m < p.limit) entries_long (subst (λ m. length s.table.entries < m) t.limit a.below)

  stood : (f : ℕ) → stands f p.due ≡ true → f < n
  stood f due = (r.ready f due).0

  followed : Follows name accepting entered
  followed = record {
    numbered = λ f below. numbered_by (f == n) f refl (subst (λ m. f < m) long below);
    tasks = λ f below.
        subst (λ o. TaskIs (found (name f) cells_after) o) (sym (get_last p.futures coming f))
        (tasks_by (f == n) f refl (subst (λ m. f < m) long below));
    within =
        subst (λ ns. length ns ≤ p.limit) (sym lives)
        (subst (λ m. m ≤ p.limit) (sym (long_last (living_from 0 p.futures) n)) (omega (arith, room)));
    queued = r.queued;
    once = r.once;
    ready = λ f due. let can = r.ready f due in (more f can.0, asks_same cells.may_start f can.0 can.1);
    asleep = record {
      wakers = r.asleep.wakers;
      count = r.asleep.count;
      flag = r.asleep.flag;
      callers = λ at u has. named_still u (r.asleep.callers at u has);
    };
    awaiters = λ f u has.
        named_still u
        (awaiters_by (f == n) f u refl
        (sym (ap (λ (o : Option (Future T (SoloWaker X))). (or o (λ future. future.task) no_task).awaiter)
        (get_last p.futures coming f)) ∙ has));
    inside = record {
      lent = λ f has. let can = r.inside.lent f has in (more f can.0, asks_same cells.is_lent f can.0 can.1);
      dropping = λ f has. let can = r.inside.dropping f has in (more f can.0, asks_same cells.is_dropping f can.0 can.1);
      lent_once = r.inside.lent_once;
      dropping_once = r.inside.dropping_once;
      callers = λ at u has. named_still u (r.inside.callers at u has);
    };
  }

  dropped_by : (b : Bool) (f : ℕ) → is_dropped f p ≡ false
      → or (cond b (Some coming) (slice_get p.futures f)) (λ future. future.is_dropped) true ≡ false
  dropped_by true f live = refl
  dropped_by false f live = live

  dropped_same : (f : ℕ) → is_dropped f p ≡ false → is_dropped f entered ≡ false
  dropped_same f live =
      ap (λ (o : Option (Future T (SoloWaker X))). or o (λ future. future.is_dropped) true) (get_last p.futures coming f)
      ∙ dropped_by (f == n) f live

  keys : map (λ (e : Entry F (Option Task)). e.key) s.table.entries ≡ map (key_of its) (living_from 0 p.futures)
  keys =
      sym (map_twice row (λ r. r.0.key) s.table.entries)
      ∙ (ap (map (λ r. r.0.key)) t.rows
      ∙ map_twice (row_of its (not p.is_static) (at_home its s.cells)) (λ r. r.0.key) (living_from 0 p.futures))

  pub tabled_so : IsTable its accepting entered
  tabled_so = record {
    rows =
        ap (λ (t : TableValue F). map row t.entries) a.entered
        ∙ (map_append row s.table.entries (new_entry a.place future (counted_waker (solo.counts s.kind) new) ∷ [])
        ∙ (ap (λ rows. rows ++ (a.place, counted_waker (solo.counts s.kind) new, true) ∷ []) t.rows
        ∙ (ap (λ rows. rows ++ (a.place, counted_waker (solo.counts s.kind) new, true) ∷ [])
        (map_same_in (row_of its (not p.is_static) (at_home its s.cells)) (row_of its (not p.is_static) (at_home its cells_after))
        (living_from 0 p.futures) others)
        ∙ (ap (λ r. map (row_of its (not p.is_static) (at_home its cells_after)) (living_from 0 p.futures) ++ r ∷ []) row_new
        ∙ (sym (map_append (row_of its (not p.is_static) (at_home its cells_after)) (living_from 0 p.futures) (n ∷ []))
        ∙ ap (map (row_of its (not p.is_static) (at_home its cells_after))) (sym lives))))));
    homes = λ f place below home. at (f == n) f place (subst (λ m. f < m) long below) refl home;
    made = t.made;
    queues = t.queues;
    kept = t.kept;
    numbers_apart = t.numbers_apart;
    going = t.going;
    leaving = t.leaving;
    leaving_open = t.leaving_open;
    leaving_limit = t.leaving_limit;
    few = subst (λ m. m ≤ most_accepted) (sym long) (omega (arith, few));
    unleaked = t.unleaked;
    keys_apart =
        ap (λ fs. apart (map (key_of its) fs)) lives
        ∙ (ap apart (map_append (key_of its) (living_from 0 p.futures) (n ∷ []))
        ∙ apart_last (map (key_of its) (living_from 0 p.futures)) (key_of its n) t.keys_apart
        (ap (λ k. is_in k (map (key_of its) (living_from 0 p.futures))) (ap (λ (l : Lent). l.place.key) is)
        ∙ (ap (is_in a.place.key) (sym keys) ∙ none_at a.place.key s.table.entries a.fresh)));
    limit = ap (λ (t : TableValue F). t.limit) a.entered ∙ t.limit;
    accepted = ap own.one_more t.accepted ∙ (counts_on n few ∙ sym long);
    kind = t.kind;
    lent = λ f has. dropped_same f (t.lent f has);
    dropping = λ f has. dropped_same f (t.dropping f has);
  }
    where
      home_new : home_of (name n) cells_after ≡ Some a.place
      home_new = asks_found home_in None (name n) cells_after ∙ ap (of_found home_in None) cell_new

      home_same : (j : ℕ) → j < n → home_of (name j) cells_after ≡ home_of (name j) s.cells
      home_same j below =
          asks_found home_in None (name j) cells_after
          ∙ (ap (of_found home_in None) (cell_same j below) ∙ sym (asks_found home_in None (name j) s.cells))

      others : (j : ℕ) → is_in j (living_from 0 p.futures) ≡ true
          → row_of its (not p.is_static) (at_home its s.cells) j ≡ row_of its (not p.is_static) (at_home its cells_after) j
      others j has =
          let below = living_below p.futures 0 j has in
          ap (λ (o : Option EntryPlace). ((its j).place, counted_waker (not p.is_static) (its j).task, is_some o))
          (sym (home_same j (omega (arith, below))))

      row_new : (a.place, counted_waker (solo.counts s.kind) new, true) ≡ row_of its (not p.is_static) (at_home its cells_after) n
      row_new =
          ap (λ b. (a.place, counted_waker b new, true)) t.kind
          ∙ (sym (ap (λ (l : Lent). (l.place, counted_waker (not p.is_static) l.task, true)) is)
          ∙ sym (ap (λ (o : Option EntryPlace). ((its n).place, counted_waker (not p.is_static) (its n).task, is_some o)) home_new))

      at : (b : Bool) (f : ℕ) (place : EntryPlace) → f < n + 1 → (f == n) ≡ b → home_of (name f) cells_after ≡ Some place
          → place ≡ (its f).place
      at true f place below same home =
          let one : f ≡ n = same_number f n same in
          some (sym home ∙ (ap (λ m. home_of (name m) cells_after) one ∙ home_new))
          ∙ (sym (ap (λ (l : Lent). l.place) is) ∙ sym (ap (λ m. (its m).place) one))
        where
          some : {q : EntryPlace} → ◌≡◌ {A = Option EntryPlace} (Some place) (Some q) → place ≡ q
          some is = ap (λ o. or o (λ q. q) place) is
      at false f place below same home =
          let here : f < n = below_last f n below same in t.homes f place here (sym (home_same f here) ∙ home)

      counts_on : (m : ℕ) → m < most_accepted → own.one_more m ≡ m + 1
      counts_on m few = omega (arith, few)

  -- then its task comes last in its queue
  pub lined_so : HasLife 2 s.lines → (turns.takes (name n) accepting ≡ true)
      × Follows name (turns.lined (name n) accepting) (appended n entered)
  lined_so life =
      let none : stands n p.due ≡ false = not_due (stands n p.due) refl in
      let below : n < length entered.futures = subst (λ m. n < m) (sym long) (omega arith) in
      let ready : asked cells.may_start false (name n) cells_after ≡ true =
      asks_found cells.may_start false (name n) cells_after ∙ ap (of_found cells.may_start false) cell_new in
      let room : turns.takes (name n) accepting ≡ true =
      places None name accepting entered followed n below none ready (younger 1 s.lines life) (turns.mark_of (name n) accepting) in (
        room,
        lined None name n accepting entered room (marks None name n accepting entered kept_new below followed cell_new)
            below none ready followed,
      )
    where
      not_due : (b : Bool) → stands n p.due ≡ b → b ≡ false
      not_due false due = refl
      not_due true due = let it : n < n = stood n due in absurd (omega (arith, it))

  -- and a sleeper is told
  pub spawned : (c : Choice) → length p.lying ≤ c.tells → HasLife 3 s.lines
      → Stands its (turns.scheduled new accepting) (tell wakes c (appended n entered))
  spawned c many life =
      let queued = lined_so (younger 2 s.lines life) in
      let both : Follows name (turns.told (turns.lined (name n) accepting)) (tell wakes c (appended n entered)) =
      told None name c (turns.lined (name n) accepting) (appended n entered) many queued.1
      (younger 1 (turns.lined (name n) accepting).lines
      (life_pushed (name n) 2 (turns.mark_of (name n) accepting) s.lines life)) in
      let ends : Follows name (turns.scheduled (name n) accepting) (tell wakes c (appended n entered)) =
      subst (λ b. Follows name (choose b (turns.told (turns.lined (name n) accepting)) (turns.lined (name n) accepting))
      (tell wakes c (appended n entered))) (sym queued.0) both in (
        subst (λ u. Follows name (turns.scheduled u accepting) (tell wakes c (appended n entered))) named_new ends,
        tabled its c accepting (turns.scheduled new accepting) entered (tell wakes c (appended n entered))
            (bases.scheduled_base accepting new accepting (bases.same accepting))
            (chain c (appended_still c n entered) (tell_still c (appended n entered))) tabled_so,
      )

module _ {F T X : Type 0} (its : ℕ → Lent) (s : Solo F T X) (p : Plain T (SoloWaker X)) (both : Stands its s p) where
  pub spawns_alike : SpawnsAlike its s p
  spawns_alike c mark future it z spawns is granted many life few =
      let first = spawns.0 in
      let a = spawns.1.0 in
      let after = accepting its s p both.0 both.1 mark future it.task first.table first.cells a is few in
      let q = tell wakes c (appended (length p.futures)
      (entered its s p both.0 both.1 mark future it.task first.table first.cells a is few)) in
      let all : Stands its z q =
      subst (λ z. Stands its z q) (sym (spawns.2 ∙ ap (turns.scheduled it.task) spawns.1.1))
      (spawned its s p both.0 both.1 mark future it.task first.table first.cells a is few c many life) in
      subst (λ b. Stands its z (if b then (if is_granted c.refusal then answers Made q else answers NoMemory p)
      else answers Full p))
      (sym (is_below (length (living_from 0 p.futures)) p.limit
      (room its s p both.0 both.1 mark future it.task first.table first.cells a is few)))
      (subst (λ g. Stands its z (if is_granted g then answers Made q else answers NoMemory p)) (sym granted) (
        seen (named its) z q (q.events ++ Answers Made ∷ []) q.inside all.0.inside all.0,
        tabled its c z z q (answers Made q) (bases.same z) (seen_still c q (q.events ++ Answers Made ∷ [])) all.1,
      ))
