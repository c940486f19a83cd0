-- Once all futures are dropped the task of each is woken, and the scheduler's waker given up; then what is queued is closed. So a close
-- comes to its end.
use Rattle.std.proofs.Common.{◌≡◌, ℕ, suc, ◌+◌, ◌*◌, ◌<◌, ◌≤◌, ◌==◌, cond, not, Bool, true, false, List, [], ◌∷◌, ◌++◌, length, map}
use Rattle.std.proofs.Common.{drop}
use Rattle.std.proofs.Common.{Option, Some, None, slice_get, refl, sym, ap, subst, ◌∙◌, append-nil, arith}
use Rattle.executor_parts.specs.declared.mark.Mark.{Mark}
use Rattle.executor_parts.specs.declared.mark.Mark.TheVariants.{Plain as PlainMark, Urgent}
use Rattle.task_moves.specs.AbstractTask as abstract
use Rattle.task_moves.specs.AbstractTask.{AbstractTask}
use Rattle.solo.specs.declared.names.Task.{Task}
use Rattle.solo.specs.declared.names.SoloWaker.{SoloWaker}
use Rattle.solo.specs.declared.owed.Lent.{Lent}
use Rattle.solo.specs.declared.owed.Owed.{Owed}
use Rattle.solo.specs.declared.owed.Told.{Told}
use Rattle.solo.specs.declared.solo.Solo.{Solo}
use Rattle.solo.specs.Cells.{Kept, asked}
use Rattle.solo.specs.Cells as cells
use Rattle.solo.specs.Solo as solo
use Rattle.solo.specs.Turns as turns
use Rattle.solo.specs.Lines.{line_of}
use Rattle.solo.specs.Table.{first_parts, rest_of}
use Rattle.solo.specs.Closing as closing
use Rattle.queue_steps.specs.ClosableQueue.{ClosableQueue}
use Rattle.plain_scheduler.specs.State.{Future, Answers, Done, Code, Close, Choice, Plain}
use Rattle.plain_scheduler.specs.Lists.{each}
use Rattle.plain_scheduler.specs.Moves.{task, tell, wake}
use Rattle.plain_scheduler.specs.Calls as calls
use Rattle.plain_scheduler.specs.Calls.{DropExecutor, Ends, living_from}
use Rattle.solo_laws.specs.Closing.{IsClosing, Finishes, GoesOn, AllThere, Drains, one_more, opened, spared, waits}
use Rattle.solo_laws.specs.Road.{Follows, Lined, TaskIs, HasLife, is_in, wakes}
use Rattle.solo_laws.specs.Shown.{rings}
use Rattle.solo_laws.specs.Tabled.{Stands, named, row}
use Rattle.solo_laws.proofs.Following.Lists.{get_below}
use Rattle.solo_laws.proofs.Following.Seeing.{seen}
use Rattle.solo_laws.proofs.Following.Due.{clash, both_true, equal, later, lives}
use Rattle.solo_laws.proofs.Following.Cells.{same_number, found}
use Rattle.solo_laws.proofs.Following.Changing.{task_is}
use Rattle.solo_laws.proofs.Following.Lives.{woken_lives, released_lives}
use Rattle.solo_laws.proofs.Following.Rows.{living_below}
use Rattle.solo_laws.proofs.Following.Waking as waking
use Rattle.solo_laws.proofs.Following.Frames.{Still, chain, becomes_still, tell_still}
use Rattle.solo_laws.proofs.Following.Bases as bases
use Rattle.solo_laws.proofs.Following.Leaking.{leaves_none, leaving_is}
use Rattle.solo_laws.proofs.Following.Calming.{freed_calm, freed_settled}
use Rattle.solo_laws.proofs.Following.Sparing.{each_spared, freed_spared, swept_spared}
use Rattle.solo_laws.proofs.Following.Closing.{elsewhere, begins, entries_long, inside_out, hands_out}
use Rattle.solo_laws.proofs.Following.Emptying.{Empties, empties}
use Rattle.solo_laws.proofs.Showing.Telling.{step, woken_shows, released_shows}

pub no_rows : {B C : Type 0} (g : B → C) (xs : List B) → map g xs ≡ [] → xs ≡ []
no_rows g [] is = refl
no_rows g (x ∷ xs) is = absurd cc

-- a sleeper may be called
abbrev rings_one : {F T X : Type 0} → Told X → Owed F T X
rings_one told = solo.hands None None told

module _ {T X : Type 0} (c : Choice) where
  abbrev pub freed : ℕ → Plain T (SoloWaker X) → Plain T (SoloWaker X)
  freed f p = calls.freed wakes c f p

module _ {F T X : Type 0} (its : ℕ → Lent) (c : Choice) where
  -- the wakers of these are still to be called; the tasks of others wait for no wake
  pub record IsFreeing (fs : List ℕ) (s : Solo F T X) (w : Plain T (SoloWaker X)) : Type 0 where
    pub follows : Follows (named its) s w
    pub calm : (f : ℕ) → f < length w.futures → is_in f fs ≡ false → waits (task f w) ≡ false
    pub table : s.table.entries ≡ []
    pub going : s.going.entries ≡ []
    pub leaving : s.leaving.items ≡ map (named its) fs
    pub few : length w.lying ≤ c.tells

  module _ (f : ℕ) (rest : List ℕ) (n : ℕ) (s : Solo F T X) (w : Plain T (SoloWaker X)) (r : IsFreeing (f ∷ rest) s w)
      (below : f < length w.futures) (life : HasLife (n + 6) s.lines) where
    abbrev out : Solo F T X
    out = closing.first_left (closing.first_going s)

    abbrev woken : Solo F T X
    woken = solo.woken (named its f) out

    abbrev now : Solo F T X
    now = solo.released (named its f) woken

    abbrev woken_plain : Plain T (SoloWaker X)
    woken_plain = wake wakes (tell wakes c) f w

    first : Still c w woken_plain
    first = becomes_still c (tell wakes c) (tell_still c) f (abstract.wake (task f w)) w

    all : Still c w (freed c f w)
    all = chain c first (becomes_still c (tell wakes c) (tell_still c) f (abstract.release (task f woken_plain)) woken_plain)

    follows_out : Follows (named its) out w
    follows_out = elsewhere (named its) s.table out.going out.leaving s w r.follows

    long_life : HasLife 2 out.lines
    long_life mark = let it = life mark in omega (arith, it)

    woke : Follows (named its) woken woken_plain
    woke = waking.woken None (named its) c f out w below follows_out r.few long_life

    alive : HasLife (suc (suc (suc n))) woken.lines
    alive = woken_lives (suc (suc (suc n))) (named its f) out (λ mark. let it = life mark in omega (arith, it))

    then_life : HasLife 2 woken.lines
    then_life mark = let it = alive mark in omega (arith, it)

    then_below : f < length woken_plain.futures
    then_below = subst (λ n. f < n) (sym first.futures) below

    then_few : length woken_plain.lying ≤ c.tells
    then_few = subst (λ n. n ≤ c.tells) (sym first.lying) r.few

    -- the owner's next drain
    drained_is : (closing.drained s ≡ now)
        × (closing.drain_answer s ≡ Some (rings_one (closing.leaving_answer (named its f) out)))
    drained_is = (
      ap (λ es. closing.drained_by (first_parts es) (closing.first_going s)) r.going
          ∙ (ap (λ (ts : List Task). closing.drained_waking (slice_get ts 0) out) r.leaving ∙ leaving_is (named its f) out),
      ap (λ es. closing.drain_answer_by (first_parts es) (closing.first_going s)) r.going
          ∙ ap (λ (ts : List Task). closing.waking_answer (slice_get ts 0) out) r.leaving,
    )

    base : bases.Base out now
    base = bases.released_base out (named its f) woken (bases.woken_base out (named its f) out (bases.same out))

    pub goes_on : IsFreeing rest now (freed c f w)
    goes_on = record {
      follows = waking.released None (named its) c f woken woken_plain then_below woke then_few then_life;
      calm = λ g there. by g (g == f) refl (subst (λ n. g < n) all.futures there);
      table = no_rows row now.table.entries (base.0 ∙ ap (map row) r.table);
      going = ap (λ t. t.entries) base.7 ∙ ap (λ es. rest_of es) r.going;
      leaving = ap (λ (q : ClosableQueue Task). q.items) base.8 ∙ ap (λ (ts : List Task). drop 1 ts) r.leaving;
      few = subst (λ n. n ≤ c.tells) (sym all.lying) r.few;
    }
      where
        by : (g : ℕ) (b : Bool) → (g == f) ≡ b → g < length w.futures → is_in g rest ≡ false → waits (task g (freed c f w)) ≡ false
        by g true same there none =
            subst (λ n. waits (task n (freed c f w)) ≡ false) (sym (same_number g f same)) (freed_settled c f w)
        by g false same there none =
            freed_calm c f w g (r.calm g there (ap (λ b. cond b true (is_in g rest)) same ∙ none))

    pub lives_on : HasLife n now.lines
    lives_on = released_lives n (named its f) woken alive

    shows : (freed c f w).events ≡ w.events ++ rings (closing.leaving_answer (named its f) out).sleeper
    shows =
        released_shows None (named its) c f woken woken_plain then_below woke then_few then_life
        ∙ (ap (λ b. woken_plain.events
        ++ rings (turns.schedule_if_answer b (named its f) (turns.turned cells.released (named its f) woken)).sleeper)
        (leaves_none (named its f) out)
        ∙ (append-nil woken_plain.events
        ∙ woken_shows None (named its) c f out w below follows_out r.few long_life))

    pub one : (u : Plain T (SoloWaker X)) → Empties its c now (freed c f w) u → Empties its c s w u
    one u e =
        let told : Told X = closing.leaving_answer (named its f) out in
        record {
          last = e.last;
          shown = (rings told.sleeper ++ []) ++ e.shown;
          drains =
              one_more s e.last (rings_one told) e.shown drained_is.1 refl refl
              (subst (λ (z : Solo F T X). Drains z e.shown e.last) (sym drained_is.0) e.drains);
          closed = e.closed;
          seen =
              step w.events (rings told.sleeper ++ []) e.shown
              (shows ∙ ap (λ es. w.events ++ es) (sym (append-nil (rings told.sleeper)))) e.seen;
        }

  -- the queues as they are, and open
  is_open : (s : Solo F T X) (w : Plain T (SoloWaker X)) → Follows (named its) s w → Follows (named its) (opened s) w
  is_open s w r = record {
    numbered = r.numbered;
    tasks = r.tasks;
    within = r.within;
    queued = record { lines = lined; unclosed = unclosed; limit = limit };
    once = r.once;
    ready = r.ready;
    asleep = r.asleep;
    awaiters = r.awaiters;
    inside = r.inside;
  }
    where
      lined : Lined (named its) (opened s).lines w.due
      lined PlainMark = r.queued.lines PlainMark
      lined Urgent = r.queued.lines Urgent

      unclosed : (mark : Mark) → (line_of mark (opened s).lines).closed ≡ false
      unclosed PlainMark = refl
      unclosed Urgent = refl

      limit : (mark : Mark) → (line_of mark (opened s).lines).capacity ≡ Some w.limit
      limit PlainMark = r.queued.limit PlainMark
      limit Urgent = r.queued.limit Urgent

  -- all are woken, and then those that are queued closed
  frees : (fs : List ℕ) (s : Solo F T X) (w : Plain T (SoloWaker X)) → IsFreeing fs s w
      → ((f : ℕ) → is_in f fs ≡ true → f < length w.futures) → HasLife (6 * length fs + 2) s.lines
      → Empties its c s w (calls.swept wakes c (each fs (freed c) w))
  frees [] s w r below life =
      let e : Empties its c s (record w { due = [] }) (calls.swept wakes c w) =
      empties its c s w (record {
        follows = is_open s w r.follows;
        calm = λ f there. r.calm f there refl;
        due = refl;
        table = r.table;
        going = r.going;
        leaving = r.leaving;
        few = r.few;
        life = life;
      }) in
      record { last = e.last; shown = e.shown; drains = e.drains; closed = e.closed; seen = e.seen }
  frees (f ∷ fs) s w r below life =
      let here : f < length w.futures = below f (ap (λ b. cond b true (is_in f fs)) (equal f f refl)) in
      let more : HasLife (6 * length fs + 2 + 6) s.lines = λ mark. let it = life mark in omega (arith, it) in
      one f fs (6 * length fs + 2) s w r here more (calls.swept wakes c (each (f ∷ fs) (freed c) w))
      (frees fs (now f fs (6 * length fs + 2) s w r here more) (freed c f w) (goes_on f fs (6 * length fs + 2) s w r here more)
      (λ g has. subst (λ n. g < n) (sym (all f fs (6 * length fs + 2) s w r here more).futures)
      (below g (later (g == f) (is_in g fs) has)))
      (lives_on f fs (6 * length fs + 2) s w r here more))

  -- one that isn't there waits for no wake
  module _ (w : Plain T (SoloWaker X)) (s : Solo F T X) (r : Follows (named its) s w) where
    pub dropped_rests : (f : ℕ) → f < length w.futures → is_in f (living_from 0 w.futures) ≡ false → waits (task f w) ≡ false
    dropped_rests f there none = by (waits (task f w)) refl
      where
        x : (x : Future T (SoloWaker X)) × (slice_get w.futures f ≡ Some x)
        x = get_below w.futures f there

        idle : waits (task f w) ≡ true → abstract.is_idle x.0.task.phase ≡ true
        idle is =
            ap (λ (t : AbstractTask T (SoloWaker X)). abstract.is_idle t.phase) (sym (task_is f w x.0 x.1))
            ∙ (both_true (abstract.is_idle (task f w).phase) (not (task f w).closed) is).0

        never : (o : Option (Kept T X)) → TaskIs o (Some x.0) → abstract.is_idle x.0.task.phase ≡ true → ⊥
        never None over so = clash (ap (λ phase. abstract.is_idle phase) over.phase) so
        never (Some v) of so = clash none (lives w.futures 0 f f x.0 (omega arith) x.1 (of.there (of.idle so)))

        by : (b : Bool) → waits (task f w) ≡ b → b ≡ false
        by false is = refl
        by true is =
            absurd (never (found (named its f) s.cells) (subst (TaskIs (found (named its f) s.cells)) x.1 (r.tasks f there)) (idle is))

  module _ (all : List ℕ) (s : Solo F T X) (p : Plain T (SoloWaker X)) (r : IsClosing its all all [] s p)
      (few : length p.lying ≤ c.tells) (life : HasLife (6 * length all + 2) s.lines) where
    abbrev whole : Plain T (SoloWaker X)
    whole = r.whole

    abbrev ended : Plain T (SoloWaker X)
    ended = calls.swept wakes c (each all (freed c) whole)

    abbrev end : Plain T (SoloWaker X)
    end = calls.swept wakes c (each all (freed c) p)

    same : spared end ≡ spared ended
    same = sym (spares p) ∙ (ap (λ z. calls.swept wakes c (each all (freed c) z)) r.same ∙ spares whole)
      where
        spares : (z : Plain T (SoloWaker X))
            → calls.swept wakes c (each all (freed c) (spared z)) ≡ spared (calls.swept wakes c (each all (freed c) z))
        spares z =
            ap (calls.swept wakes c) (each_spared (freed c) (λ f. freed_spared c f) all z)
            ∙ swept_spared c (each all (freed c) z)

    result : Empties its c s whole ended
    result =
        frees all s whole (record {
          follows = r.follows;
          calm = λ f there none. dropped_rests whole s r.follows f there (ap (is_in f) r.living ∙ none);
          table = r.table;
          going = no_rows row s.going.entries r.going;
          leaving = r.leaving;
          few = subst (λ n. n ≤ c.tells) (ap (λ (z : Plain T (SoloWaker X)). length z.lying) r.same) few;
        })
        (λ f has. let below = living_below whole.futures 0 f (ap (is_in f) r.living ∙ has) in omega (arith, below)) life

    pub finishes : Finishes its s p (calls.close wakes c [] all p)
    finishes =
        let e = result in
        let w = e.closed.whole in
        record {
          last = e.last;
          shown = e.shown;
          drains = e.drains;
          closed = record {
            whole = record w { events = w.events ++ Answers Done ∷ [] };
            same =
                ap (λ (z : Plain T (SoloWaker X)). record z { events = z.events ++ Answers Done ∷ [] }) (same ∙ e.closed.same);
            follows = seen (named its) (opened e.last) w (w.events ++ Answers Done ∷ []) w.inside e.closed.follows.inside e.closed.follows;
            calm = e.closed.calm;
            due = e.closed.due;
          };
          seen =
              step p.events e.shown (Answers Done ∷ [])
              (ap (λ (z : Plain T (SoloWaker X)). z.events) same
              ∙ (e.seen ∙ ap (λ (z : Plain T (SoloWaker X)). z.events ++ e.shown) (sym r.same)))
              refl;
        }

module _ {F T X : Type 0} (its : ℕ → Lent) (c : Choice) where
  goes_by : (all gone left : List ℕ) (s : Solo F T X) (p : Plain T (SoloWaker X)) → IsClosing its all gone left s p
      → length p.lying ≤ c.tells → HasLife (6 * length all + 2) s.lines
      → GoesOn its s p (calls.close wakes c left all p) all gone left
  goes_by all gone [] s p r few life =
      finishes its c all s p
      (subst (λ gone. IsClosing its all gone [] s p) (sym (append-nil gone) ∙ sym r.parts) r) few life
  goes_by all gone (f ∷ left) s p r few life = hands_out its c all gone f left s p r

  module _ (s : Solo F T X) (p : Plain T (SoloWaker X)) where
    pub closes_alike : Stands its s p → p.is_static ≡ false → AllThere s.table.entries → length p.lying ≤ c.tells
        → HasLife (6 * length s.table.entries + 2) s.lines
        → GoesOn its (closing.closed s) p (calls.does wakes c DropExecutor p) (living_from 0 p.futures) [] (living_from 0 p.futures)
    closes_alike both owned all few life =
        goes_by (living_from 0 p.futures) [] (living_from 0 p.futures) (closing.closed s) p (begins its s p both owned all) few
        (subst (λ n. HasLife (6 * n + 2) s.lines) (entries_long its s p both owned all) life)

    pub goes_on_alike : (all gone left : List ℕ) (rest : List (Code T (SoloWaker X))) → IsClosing its all gone left s p
        → p.inside ≡ Close left all ∷ rest → length p.lying ≤ c.tells → HasLife (6 * length all + 2) s.lines
        → GoesOn its s (record p { inside = rest }) (calls.does wakes c Ends p) all gone left
    goes_on_alike all gone left rest r is few life =
        subst (λ q. GoesOn its s (record p { inside = rest }) q all gone left)
        (sym (ap (λ cs. calls.innermost wakes c cs (calls.ends wakes c) p) is))
        (goes_by all gone left s (record p { inside = rest }) (inside_out its s p rest left is r) few life)
