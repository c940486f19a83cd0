-- A leak wakes whom the plain scheduler's leak wakes: the wakers of the table's entries, in the order of spawning.
use Rattle.std.proofs.Common.{◌≡◌, ℕ, suc, ◌+◌, ◌*◌, ◌<◌, ◌≤◌, ◌==◌, cond, not, ◌&&◌, Bool, true, false, List, [], ◌∷◌, ◌++◌, length, map}
use Rattle.std.proofs.Common.{drop, Option, Some, None, slice_get, refl, sym, ap, subst, ◌∙◌, append-nil, append_assoc, arith}
use Rattle.queue_steps.specs.ClosableQueue.{ClosableQueue, appended, most_accepted}
use Rattle.task_moves.specs.AbstractTask as abstract
use Rattle.executor_parts.specs.Places.{Entry, unwoken}
use Rattle.solo.specs.declared.names.Task.{Task}
use Rattle.solo.specs.declared.names.SoloWaker.{SoloWaker}
use Rattle.solo.specs.declared.owed.Lent.{Lent}
use Rattle.solo.specs.declared.solo.Solo.{Solo}
use Rattle.solo.specs.Cells.{choose, asked}
use Rattle.solo.specs.Cells as cells
use Rattle.solo.specs.Line.{pushed, pushed_by, accepts, has_place, is_spent}
use Rattle.solo.specs.Solo as solo
use Rattle.solo.specs.Turns as turns
use Rattle.solo.specs.Table.{counted_waker}
use Rattle.solo.specs.Closing as closing
use Rattle.solo.specs.Closing.{pushed_all, pushed_if}
use Rattle.plain_scheduler.specs.State.{Event, Choice, Plain, Answers, Done}
use Rattle.plain_scheduler.specs.Lists.{repeat, each, or}
use Rattle.plain_scheduler.specs.Moves.{task, tell, wake}
use Rattle.plain_scheduler.specs.Calls as calls
use Rattle.plain_scheduler.specs.Calls.{living_from}
use Rattle.solo_laws.specs.Leaking.{leaked}
use Rattle.solo_laws.specs.Shown.{rings, leak_shows}
use Rattle.solo_laws.specs.Road.{Follows, HasLife, count_of, is_in, wakes}
use Rattle.solo_laws.specs.Tabled.{IsTableBut, Stands, Row, named, row, row_of, at_home}
use Rattle.solo_laws.proofs.CellFrames.{scheduled_if_at}
use Rattle.solo_laws.proofs.Loosening.{Rests, queues_not, itself_woken, others_woken, others_released, others_tidied}
use Rattle.solo_laws.proofs.Following.Lists.{length_map}
use Rattle.solo_laws.proofs.Following.Adding.{map_twice}
use Rattle.solo_laws.proofs.Following.Due.{later, equal}
use Rattle.solo_laws.proofs.Following.Lines.{accepts_more, pushed_life}
use Rattle.solo_laws.proofs.Following.Lives.{woken_lives, released_lives}
use Rattle.solo_laws.proofs.Following.Rows.{living_below}
use Rattle.solo_laws.proofs.Following.Waking as waking
use Rattle.solo_laws.proofs.Following.Frames.{chain, becomes_still, tell_still}
use Rattle.solo_laws.proofs.Following.Bases as bases
use Rattle.solo_laws.proofs.Following.Tabling.{leaves_few, tabled}
use Rattle.solo_laws.proofs.Following.Losing.{sees}
use Rattle.solo_laws.proofs.Showing.Telling.{step, woken_shows, released_shows}

-- a row without its waker
abbrev bare : Row → Row
bare r = (r.0, None, r.2)

pub pushed_is : (t : Task) (q : ClosableQueue Task) → accepts q ≡ true → pushed t q ≡ appended q t
pushed_is t q is = by (has_place q) (is_spent q.accepted) is
  where
    by : (place spent : Bool) → (place && not spent) ≡ true → pushed_by place spent t q ≡ appended q t
    by true true is = absurd cc
    by true false is = refl
    by false spent is = absurd cc

-- the wakers come last, where there is room
abbrev Pushed : ClosableQueue Task → ClosableQueue Task → List Task → ℕ → Type 0
Pushed new q ts limit = (new.items ≡ q.items ++ ts) × (new.closed ≡ false) × (new.capacity ≡ Some limit)

module _ {F : Type 0} where
  pushes : (es : List (Entry F (Option Task))) (ts : List Task) (q : ClosableQueue Task) (limit : ℕ)
      → map (λ (e : Entry F (Option Task)). e.waker) es ≡ map (λ t. Some t) ts → q.closed ≡ false → q.capacity ≡ Some limit
      → length q.items + length es ≤ limit → count_of q.accepted + length es ≤ most_accepted
      → Pushed (pushed_all es q) q ts limit
  pushes [] [] q limit same is_open long room life = (sym (nil q.items), is_open, long)
    where
      nil : (xs : List Task) → xs ++ [] ≡ xs
      nil [] = refl
      nil (x ∷ xs) = ap (λ ys. x ∷ ys) (nil xs)
  pushes [] (t ∷ ts) q limit same is_open long room life = absurd cc
  pushes (e ∷ es) [] q limit same is_open long room life = absurd cc
  pushes (e ∷ es) (t ∷ ts) q limit same is_open long room life =
      let fits : accepts q ≡ true = accepts_more q limit is_open long (omega (arith, room)) (omega (arith, life)) in
      let it : pushed t q ≡ appended q t = pushed_is t q fits in
      let alive : count_of (pushed t q).accepted + length es ≤ most_accepted = pushed_life t (length es) q (omega (arith, life)) in
      let longer : length (q.items ++ t ∷ []) ≡ length q.items + 1 = long_by q.items in
      let rest : Pushed (pushed_all es (appended q t)) (appended q t) ts limit =
      pushes es ts (appended q t) limit (others same) is_open long
      (subst (λ n. n + length es ≤ limit) (sym longer) (omega (arith, room)))
      (subst (λ (q : ClosableQueue Task). count_of q.accepted + length es ≤ most_accepted) it alive) in
      subst (λ o. Pushed (pushed_all es (pushed_if o q)) q (t ∷ ts) limit) (sym (first same))
      (subst (λ new. Pushed (pushed_all es new) q (t ∷ ts) limit) (sym it)
      (rest.0 ∙ append_assoc q.items (t ∷ []) ts, rest.1, rest.2))
    where
      first : e.waker ∷ map (λ (e : Entry F (Option Task)). e.waker) es ≡ Some t ∷ map (λ t. Some t) ts → e.waker ≡ Some t
      first is = ap (λ xs. by xs) is
        where
          by : List (Option Task) → Option Task
          by [] = e.waker
          by (x ∷ xs) = x

      others : e.waker ∷ map (λ (e : Entry F (Option Task)). e.waker) es ≡ Some t ∷ map (λ t. Some t) ts
          → map (λ (e : Entry F (Option Task)). e.waker) es ≡ map (λ t. Some t) ts
      others is = ap (λ xs. drop 1 xs) is

      long_by : (xs : List Task) → length (xs ++ t ∷ []) ≡ length xs + 1
      long_by [] = refl
      long_by (x ∷ xs) = let it = long_by xs in omega (arith, it)

module _ {F T X : Type 0} where
  -- what was woken is queued by no release
  pub leaves_none : (t : Task) (s : Solo F T X) → asked cells.release_queues false t (solo.woken t s).cells ≡ false
  leaves_none t s =
      queues_not t (solo.woken t s).cells
      (scheduled_if_at (λ s. Rests t s) (λ u s is. others_woken t u s is) (λ u s is. others_released t u s is)
      (λ u s is. others_tidied t u s is) (asked cells.wake_queues false t s.cells) t (turns.turned cells.woken t s)
      (itself_woken t s.cells))

  pub leaving_is : (t : Task) (s : Solo F T X) → closing.leaving_woken t s ≡ solo.released t (solo.woken t s)
  leaving_is t s =
      ap (λ b. turns.swept t (choose b (turns.lined t (turns.turned cells.released t (solo.woken t s)))
      (turns.turned cells.released t (solo.woken t s)))) (leaves_none t s)
      ∙ sym (ap (λ b. turns.swept t (turns.scheduled_if b t (turns.turned cells.released t (solo.woken t s)))) (leaves_none t s))

module _ {T X : Type 0} (c : Choice) where
  abbrev freed : ℕ → Plain T (SoloWaker X) → Plain T (SoloWaker X)
  freed f p = calls.freed wakes c f p

module _ {F T X : Type 0} (its : ℕ → Lent) (c : Choice) where
  abbrev rung : Solo F T X → List (Event T (SoloWaker X))
  rung s = rings (or (closing.leak_answer s) (λ told. told.sleeper) None)

  abbrev Stand : List Task → Solo F T X → Plain T (SoloWaker X) → Type 0
  Stand waits s p = Follows (named its) s p × IsTableBut waits its s p

  -- one is woken, and its waker let go
  wakes_one : (f : ℕ) (rest : List Task) (n : ℕ) (s : Solo F T X) (p : Plain T (SoloWaker X)) → Stand (named its f ∷ rest) s p
      → f < length p.futures → length p.lying ≤ c.tells → HasLife (n + 6) s.lines
      → Stand rest (closing.leak_woken s) (freed c f p) × HasLife n (closing.leak_woken s).lines
      × (length (freed c f p).futures ≡ length p.futures) × (length (freed c f p).lying ≡ length p.lying)
      × ((freed c f p).events ≡ p.events ++ rung s)
  wakes_one f rest n s p both below many life =
      let out : Solo F T X = closing.first_left s in
      let is : closing.leak_woken s ≡ solo.released (named its f) (solo.woken (named its f) out) =
      ap (λ o. closing.leak_woken_by o out) (ap (λ (ts : List Task). slice_get ts 0) both.1.leaving) ∙ leaving_is (named its f) out in
      let z = solo.woken (named its f) out in
      let q = wake wakes (tell wakes c) f p in
      let first = becomes_still c (tell wakes c) (tell_still c) f (abstract.wake (task f p)) p in
      let second = becomes_still c (tell wakes c) (tell_still c) f (abstract.release (task f q)) q in
      let all = chain c first second in
      let alive : HasLife (suc (suc (suc n))) z.lines =
      woken_lives (suc (suc (suc n))) (named its f) out (λ mark. let it = life mark in omega (arith, it)) in
      let woke : Follows (named its) z q =
      waking.woken None (named its) c f out p below (unlike out both.0) many (λ mark. let it = life mark in omega (arith, it)) in
      subst
      (λ y. Stand rest y (freed c f p) × HasLife n y.lines × (length (freed c f p).futures ≡ length p.futures)
      × (length (freed c f p).lying ≡ length p.lying) × ((freed c f p).events ≡ p.events ++ rung s))
      (sym is) (
        (
          waking.released None (named its) c f z q (subst (λ n. f < n) (sym first.futures) below) woke
              (subst (λ n. n ≤ c.tells) (sym first.lying) many) (λ mark. let it = alive mark in omega (arith, it)),
          tabled its c out (solo.released (named its f) z) p (freed c f p)
              (bases.released_base out (named its f) z (bases.woken_base out (named its f) out (bases.same out))) all left,
        ),
        released_lives n (named its f) z alive,
        all.futures,
        all.lying,
        released_shows None (named its) c f z q (subst (λ n. f < n) (sym first.futures) below) woke
            (subst (λ n. n ≤ c.tells) (sym first.lying) many) (λ mark. let it = alive mark in omega (arith, it))
            ∙ (ap (λ b. q.events ++ rings (turns.schedule_if_answer b (named its f) (turns.turned cells.released (named its f) z)).sleeper)
            (leaves_none (named its f) out)
            ∙ (append-nil q.events
            ∙ (woken_shows None (named its) c f out p below (unlike out both.0) many (λ mark. let it = life mark in omega (arith, it))
            ∙ sym (ap (λ o. p.events ++ rings (or (closing.leak_answer_by o out) (λ told. told.sleeper) None))
            (ap (λ (ts : List Task). slice_get ts 0) both.1.leaving))))),
      )
    where
      unlike : (z : Solo F T X) → Follows (named its) s p → Follows (named its) (record s { leaving = z.leaving }) p
      unlike z r = record {
        numbered = r.numbered;
        tasks = r.tasks;
        within = r.within;
        queued = r.queued;
        once = r.once;
        ready = r.ready;
        asleep = r.asleep;
        awaiters = r.awaiters;
        inside = r.inside;
      }

      left : IsTableBut rest its (closing.first_left s) p
      left = record {
        rows = both.1.rows;
        homes = both.1.homes;
        keys_apart = both.1.keys_apart;
        limit = both.1.limit;
        accepted = both.1.accepted;
        kind = both.1.kind;
        lent = both.1.lent;
        dropping = both.1.dropping;
        made = both.1.made;
        queues = both.1.queues;
        kept = both.1.kept;
        numbers_apart = both.1.numbers_apart;
        going = both.1.going;
        leaving = ap (λ (ts : List Task). drop 1 ts) both.1.leaving;
        leaving_open = both.1.leaving_open;
        leaving_limit = both.1.leaving_limit;
        few = both.1.few;
        unleaked = both.1.unleaked;
      }

  -- and so all
  wakes_all : (fs : List ℕ) (s : Solo F T X) (p : Plain T (SoloWaker X)) → Stand (map (named its) fs) s p
      → ((f : ℕ) → is_in f fs ≡ true → f < length p.futures) → length p.lying ≤ c.tells → HasLife (6 * length fs) s.lines
      → Stand [] (repeat (length fs) closing.leak_woken s) (each fs (freed c) p)
      × ((each fs (freed c) p).events ≡ p.events ++ leak_shows (length fs) s)
  wakes_all [] s p both below many life = (both, sym (append-nil p.events))
  wakes_all (f ∷ fs) s p both below many life =
      let next = wakes_one f (map (named its) fs) (6 * length fs) s p both
      (below f (ap (λ b. cond b true (is_in f fs)) (equal f f refl))) many
      (λ mark. let it = life mark in omega (arith, it)) in
      let rest =
      wakes_all fs (closing.leak_woken s) (freed c f p) next.0
      (λ g has. subst (λ n. g < n) (sym next.2) (below g (later (g == f) (is_in g fs) has)))
      (subst (λ n. n ≤ c.tells) (sym next.3) many) next.1 in
      (rest.0, step p.events (rung s) (leak_shows (length fs) (closing.leak_woken s)) next.4 rest.1)

  module _ (s : Solo F T X) (p : Plain T (SoloWaker X)) (both : Stands its s p) (owned : p.is_static ≡ false) where
    abbrev fs : List ℕ
    fs = living_from 0 p.futures

    abbrev static : Plain T (SoloWaker X)
    static = record p { is_static = true }

    entries_long : length s.table.entries ≡ length fs
    entries_long =
        sym (length_map row s.table.entries)
        ∙ (ap (λ rows. length rows) both.1.rows ∙ length_map (row_of its (not p.is_static) (at_home its s.cells)) fs)

    its_wakers : map (λ (e : Entry F (Option Task)). e.waker) s.table.entries ≡ map (λ t. Some t) (map (named its) fs)
    its_wakers =
        sym (map_twice row (λ r. r.1) s.table.entries)
        ∙ (ap (map (λ (r : Row). r.1)) both.1.rows
        ∙ (map_twice (row_of its (not p.is_static) (at_home its s.cells)) (λ r. r.1) fs
        ∙ (ap (λ b. map (λ f. counted_waker (not b) (its f).task) fs) owned
        ∙ sym (map_twice (named its) (λ t. Some t) fs))))

    bare_rows : map row (map unwoken s.table.entries) ≡ map (row_of its false (at_home its s.cells)) fs
    bare_rows =
        map_twice unwoken row s.table.entries
        ∙ (sym (map_twice row bare s.table.entries)
        ∙ (ap (map bare) both.1.rows ∙ map_twice (row_of its (not p.is_static) (at_home its s.cells)) bare fs))

    -- the wakers are out
    begins : Stand (map (named its) fs) (closing.leaked s) static
    begins = (
      record {
        numbered = both.0.numbered;
        tasks = both.0.tasks;
        within = both.0.within;
        queued = both.0.queued;
        once = both.0.once;
        ready = both.0.ready;
        asleep = both.0.asleep;
        awaiters = both.0.awaiters;
        inside = both.0.inside;
      },
      record {
        rows = bare_rows;
        homes = both.1.homes;
        keys_apart = both.1.keys_apart;
        limit = both.1.limit;
        accepted = both.1.accepted;
        kind = refl;
        lent = both.1.lent;
        dropping = both.1.dropping;
        made = both.1.made;
        queues = both.1.queues;
        kept = both.1.kept;
        numbers_apart = both.1.numbers_apart;
        going = both.1.going;
        leaving = out.0 ∙ ap (λ ts. ts ++ map (named its) fs) both.1.leaving;
        leaving_open = out.1;
        leaving_limit = out.2;
        few = both.1.few;
        unleaked = λ owned. absurd cc;
      },
    )
      where
        room : length s.leaving.items + length s.table.entries ≤ p.limit
        room =
            subst (λ (ts : List Task). length ts + length s.table.entries ≤ p.limit) (sym both.1.leaving)
            (subst (λ n. 0 + n ≤ p.limit) (sym entries_long) (let it = both.0.within in omega (arith, it)))

        out : Pushed (pushed_all s.table.entries s.leaving) s.leaving (map (named its) fs) p.limit
        out =
            pushes s.table.entries (map (named its) fs) s.leaving p.limit its_wakers both.1.leaving_open both.1.leaving_limit room
            (leaves_few its s p both owned)

  module _ (s : Solo F T X) (p : Plain T (SoloWaker X)) (both : Stands its s p) (owned : p.is_static ≡ false)
      (many : length p.lying ≤ c.tells) (life : HasLife (6 * length s.table.entries) s.lines) where
    abbrev after : Plain T (SoloWaker X)
    after = each (living_from 0 p.futures) (freed c) (record p { is_static = true })

    leaks : Stand [] (leaked (length (living_from 0 p.futures)) s) after
        × (after.events ≡ p.events ++ leak_shows (length (living_from 0 p.futures)) (closing.leaked s))
    leaks =
        wakes_all (living_from 0 p.futures) (closing.leaked s) (record p { is_static = true }) (begins s p both owned)
        (λ f has. let below = living_below p.futures 0 f has in omega (arith, below)) many
        (subst (λ n. HasLife (6 * n) s.lines) (entries_long s p both owned) life)

    pub leaks_alike : Stands its (leaked (length s.table.entries) s) (calls.does wakes c calls.Call.Leak p)
    leaks_alike =
        subst (λ n. Stands its (leaked n s) (record after { events = after.events ++ Answers Done ∷ [] }))
        (sym (entries_long s p both owned)) (sees its c (leaked (length (living_from 0 p.futures)) s) after Done leaks.0)

    pub leaks_shown : (calls.does wakes c calls.Call.Leak p).events
        ≡ p.events ++ (leak_shows (length s.table.entries) (closing.leaked s) ++ Answers Done ∷ [])
    leaks_shown =
        step p.events (leak_shows (length s.table.entries) (closing.leaked s)) (Answers Done ∷ [])
        (leaks.1 ∙ ap (λ n. p.events ++ leak_shows n (closing.leaked s)) (sym (entries_long s p both owned))) refl
