-- The end of a drop: the task ends in both, and its owner is owed the same.
use Rattle.std.proofs.Common.{◌≡◌, ℕ, ◌<◌, ◌≤◌, ◌==◌, Bool, true, false, List, [], ◌∷◌, ◌++◌, length, Option, Some, None}
use Rattle.std.proofs.Common.{is_some, slice_get, refl, sym, ap, subst, ◌∙◌}
use Rattle.task_moves.specs.AbstractTask as abstract
use Rattle.task_moves.specs.AbstractTask.{AbstractTask}
use Rattle.task_moves.specs.LocalTask as local
use Rattle.task_moves.specs.LocalTask.{told as told_of, is_home, is_queued}
use Rattle.task_moves.specs.declared.local_task.answers.Finish.TheVariants.{Nothing}
use Rattle.solo.specs.declared.names.Task.{Task}
use Rattle.solo.specs.declared.names.SoloWaker.{SoloWaker}
use Rattle.solo.specs.declared.names.SoloWaker.TheVariants.{Task as OfTask, Outside}
use Rattle.solo.specs.declared.owed.Lent.{Lent}
use Rattle.solo.specs.declared.solo.Solo.{Solo}
use Rattle.solo.specs.Cells.{Kept, choose, asked}
use Rattle.solo.specs.Cells as cells
use Rattle.solo.specs.Solo as solo
use Rattle.solo.specs.Turns as turns
use Rattle.plain_scheduler.specs.State.{Future, Choice, Plain, Code, Lose, Taker, Closed, Gave, Loses}
use Rattle.plain_scheduler.specs.State.{Answers}
use Rattle.plain_scheduler.specs.Lists.{on, or}
use Rattle.plain_scheduler.specs.Moves.{task, put, tell, called, let_go}
use Rattle.plain_scheduler.specs.Takes as takes
use Rattle.solo_laws.specs.Alike.{calls as calls_it, lets_go, takes_one}
use Rattle.solo_laws.specs.Dropping.{after_drop}
use Rattle.solo_laws.specs.Shown.{rings, answer_in, loses_or, rings_of, rings_without, call_shows, drop_shows}
use Rattle.solo_laws.specs.Road.{IsTaskOf, IsNamed, Follows, HasLife, is_in, apart, lents, drops, awaiters, stands, wakes}
use Rattle.solo_laws.specs.Tabled.{IsTable, Stands, named, is_dropped}
use Rattle.solo_laws.proofs.Following.Due.{clash, both_true, equal}
use Rattle.solo_laws.proofs.Following.Cells.{found, of_found, asks_found}
use Rattle.solo_laws.proofs.Following.Changing.{kept, turned, task_is}
use Rattle.solo_laws.proofs.Following.Using.{put_long}
use Rattle.solo_laws.proofs.Following.Sweeping.{swept}
use Rattle.solo_laws.proofs.Following.Seeing.{seen}
use Rattle.solo_laws.proofs.Following.Calling.{Named}
use Rattle.solo_laws.proofs.Following.Lives.{three_fewer, released_lives}
use Rattle.solo_laws.proofs.Following.Frames.{Still, still, chain, put_still, tell_still, let_go_still}
use Rattle.solo_laws.proofs.Following.Tabling.{tabled, handed}
use Rattle.solo_laws.proofs.Following.Within.{drops_within}
use Rattle.solo_laws.proofs.Following.Homes.{Stays, ended_stays, finished_stays}
use Rattle.solo_laws.proofs.Following.Bases as bases
use Rattle.solo_laws.proofs.Following.Dropping as dropping
use Rattle.solo_laws.proofs.Following.Losing.{lets_go_both, calls_both, goes_on, now_losing}
use Rattle.solo_laws.proofs.Following.Finishing.{finish_awaits, finish_drops, finish_calls, finish_lets_go, finish_waker, finished_is}
use Rattle.solo_laws.proofs.Following.Finishing.{given_is, lent_away, dropping_away}
use Rattle.solo_laws.proofs.Showing.Telling.{step, put_events}
use Rattle.solo_laws.proofs.Showing.Calling.{calls_show, lets_go_show}
use Rattle.solo_laws.proofs.Showing.Ending.{next_events}

-- the end of a task in whose future's stead nothing is left
module _ {F T X : Type 0} (its : ℕ → Lent) (s : Solo F T X) (p : Plain T (SoloWaker X)) (r : Follows (named its) s p)
    (t : IsTable its s p) (c : Choice) (f : ℕ) (live : is_dropped f p ≡ false) (at : f < length p.futures)
    (away : (v : Kept T X) → found (named its f) s.cells ≡ Some v → is_home v.future ≡ true → ⊥)
    (many : length p.lying ≤ c.tells) (life : HasLife 8 s.lines) (rest : List (Code T (SoloWaker X)))
    (lent : (j : ℕ) → is_in j (lents rest) ≡ true → (is_in j (lents p.inside) ≡ true) × ((f == j) ≡ false))
    (dropping_in : (j : ℕ) → is_in j (drops rest) ≡ true → (is_in j (drops p.inside) ≡ true) × ((f == j) ≡ false))
    (lent_once : apart (lents rest) ≡ true) (dropping_once : apart (drops rest) ≡ true)
    (callers : awaiters rest ≡ awaiters p.inside) (taker : Taker (SoloWaker X)) (one : takes_one taker ≡ true) where
  abbrev pub left : Solo F T X
  left = turns.left (its f).place s

  abbrev pub given : Plain T (SoloWaker X)
  given = dropping.given its s p r t c f live at away

  abbrev pub out : Plain T (SoloWaker X)
  out = record given { inside = rest }

  given_follows : Follows (named its) left given
  given_follows = dropping.given_follows its s p r t c f live at away many life

  given_inside : given.inside ≡ p.inside
  given_inside =
      (dropping.given_still its s p r t c f live at away).inside
      ∙ ap (λ (q : Plain T (SoloWaker X)). q.inside) (dropping.dropped_is its s p r t c f live at away)

  pub given_lying : length out.lying ≤ c.tells
  given_lying =
      subst (λ n. n ≤ c.tells)
      (sym ((dropping.given_still its s p r t c f live at away).lying
      ∙ ap (λ (q : Plain T (SoloWaker X)). length q.lying) (dropping.dropped_is its s p r t c f live at away))) many

  out_long : length out.futures ≡ length p.futures
  out_long =
      (dropping.given_still its s p r t c f live at away).futures
      ∙ (ap (λ (q : Plain T (SoloWaker X)). length q.futures) (dropping.dropped_is its s p r t c f live at away)
      ∙ dropping.long its s p r t c f live at away)

  pub out_below : f < length out.futures
  out_below = subst (λ n. f < n) (sym out_long) at

  pub out_follows : Follows (named its) left out
  out_follows =
      seen (named its) left given given.events rest
      (record {
        lent = λ j has. given_follows.inside.lent j (ap (λ cs. is_in j (lents cs)) given_inside ∙ (lent j has).0);
        dropping = λ j has. given_follows.inside.dropping j (ap (λ cs. is_in j (drops cs)) given_inside ∙ (dropping_in j has).0);
        lent_once = lent_once;
        dropping_once = dropping_once;
        callers = λ i u has.
            given_follows.inside.callers i u
            (ap (λ cs. slice_get (awaiters cs) i) given_inside ∙ (sym (ap (λ ws. slice_get ws i) callers) ∙ has));
      })
      given_follows

  module _ (q : Kept T X → Bool) (hand : asked q false (named its f) left.cells ≡ true)
      (not_home : (v : Kept T X) → q v ≡ true → is_home v.future ≡ false) (g : Kept T X → Kept T X)
      (h : AbstractTask T (SoloWaker X) → AbstractTask T (SoloWaker X))
      (ends : (v : Kept T X) (x : Future T (SoloWaker X)) → q v ≡ true → IsTaskOf v x
      → IsTaskOf (g v) (record x { task = told_of (h x.task) }))
      (awaits : (u : AbstractTask T (SoloWaker X)) → (h u).awaiter ≡ None) (stays : Stays g) where
    so : (v : Kept T X) → found (named its f) left.cells ≡ Some v → q v ≡ true
    so v here = sym (ap (of_found q false) here) ∙ (sym (asks_found q false (named its f) left.cells) ∙ hand)

    abbrev pub ended : Solo F T X
    ended = turns.swept (named its f) (turns.turned g (named its f) left)

    abbrev pub over : Plain T (SoloWaker X)
    over = put f (h (task f out)) out

    not_in : (ns : List ℕ) → ((j : ℕ) → is_in j ns ≡ true → (f == j) ≡ false) → is_in f ns ≡ true → ⊥
    not_in ns apart has = clash (apart f has) (equal f f refl)

    not_due : stands f out.due ≡ true → ⊥
    not_due due =
        let can = out_follows.ready f due in
        let k = kept None (named its) cells.may_start f left out out_follows out_below can.1 in
        clash (not_home k.0 (so k.0 k.2)) (both_true (is_home k.0.future) (is_queued k.0.task.phase) k.4).0

    turned_follows : Follows (named its) (turns.turned g (named its f) left) over
    turned_follows =
        turned None (named its) g h f left out out_below
        (λ none over. absurd (clash refl (sym (ap (of_found q false) none)
        ∙ (sym (asks_found q false (named its f) left.cells) ∙ hand))))
        (λ v x here is of.
        record {
          is = ends v x (so v here) of;
          ready = λ due start. absurd (not_due due);
          lent = λ has out. absurd (not_in (lents rest) (λ j is. (lent j is).1) has);
          dropping = λ has out. absurd (not_in (drops rest) (λ j is. (dropping_in j is).1) has);
        })
        (λ u has. absurd (no_caller (awaits (task f out)) has))
        out_follows
      where
        no_caller : {o : Option (SoloWaker X)} {u : Task} → o ≡ None → o ≡ Some (OfTask u) → ⊥
        no_caller none some = absurd cc

    still_in : Still c (record (dropping.dropped its s p r t c f live at away) { inside = rest }) out
    still_in =
        let stays = dropping.given_still its s p r t c f live at away in
        record {
          futures = stays.futures;
          living = stays.living;
          lying = stays.lying;
          limit = stays.limit;
          static = stays.static;
          inside = refl;
          dropped = stays.dropped;
          runs = stays.runs;
          kept = stays.kept;
          whos = stays.whos;
          waits = stays.waits;
        }

    pub ended_both : Stands its ended over
    ended_both = (
      swept None (named its) f (turns.turned g (named its f) left) over
          (subst (λ n. f < n) (sym (put_long f (h (task f out)) out)) out_below) turned_follows,
      tabled its c (dropping.gone its s p r t c f live at away) ended
          (record (dropping.dropped its s p r t c f live at away) { inside = rest }) over
          (bases.swept_base (dropping.gone its s p r t c f live at away) (named its f) (turns.turned g (named its f) left)
          (bases.turned_base (dropping.gone its s p r t c f live at away) g stays (named its f) left
          (dropping.left_base its s p r t c f live at away)))
          (chain c still_in (put_still c f (h (task f out)) out))
          (dropping.gone_tabled its s p r t c f live at away rest
          (λ j has. (t.lent j (lent j has).0, (lent j has).1))
          (λ j has. (t.dropping j (dropping_in j has).0, (dropping_in j has).1))),
    )

    -- and the state that was kept is that of the plain scheduler's task
    pub state : (v : Kept T X) × (found (named its f) left.cells ≡ Some v) × (q v ≡ true) × (v.task ≡ task f out)
    state =
        let k = kept None (named its) q f left out out_follows out_below hand in
        (k.0, k.2, k.4, k.5.task ∙ sym (task_is f out k.1 k.3))

  pub hand_lent : is_in f (lents p.inside) ≡ true → asked cells.is_lent false (named its f) left.cells ≡ true
  hand_lent has = (given_follows.inside.lent f (ap (λ cs. is_in f (lents cs)) given_inside ∙ has)).1

  pub hand_dropping : is_in f (drops p.inside) ≡ true → asked cells.is_dropping false (named its f) left.cells ≡ true
  hand_dropping has = (given_follows.inside.dropping f (ap (λ cs. is_in f (drops cs)) given_inside ∙ has)).1

  lives_on : HasLife 5 left.lines
  lives_on = dropping.given_lives its s p r t c f live at away many life

  lets_go_lives : (o : Option (SoloWaker X)) (z : Solo F T X) → HasLife 5 z.lines → HasLife 2 (lets_go o z).lines
  lets_go_lives None z life = three_fewer 2 z.lines life
  lets_go_lives (Some (Outside w)) z life = three_fewer 2 z.lines life
  lets_go_lives (Some (OfTask u)) z life = released_lives 2 u z life

  -- of who awaits it
  named_in : (q : Plain T (SoloWaker X)) → Still c out q → (o : Option (SoloWaker X))
      → ((w : SoloWaker X) → o ≡ Some w → (task f out).awaiter ≡ Some w) → Named (named its) (length q.futures) o
  named_in q stays o is u has =
      subst (λ n. IsNamed (named its) n u) (sym stays.futures) (out_follows.awaiters f u (is (OfTask u) has))

  went_still : (l : Option (SoloWaker X)) (o : Plain T (SoloWaker X)) → Still c o (on l (let_go wakes (tell wakes c)) o)
  went_still None o = still c o
  went_still (Some w) o = let_go_still c (tell wakes c) (tell_still c) w o

  out_events : out.events ≡ p.events ++ rings (turns.left_answer (its f).place s).told.sleeper
  out_events = dropping.given_events its s p r t c f live at away many life

  pub closed_so : asked cells.is_dropping false (named its f) left.cells ≡ true
      → Stands its (after_drop (solo.finish_answer (its f) s) (solo.finished (its f) s))
      (takes.dropped wakes c f Closed taker (record p { inside = rest }))
  closed_so hand =
      let u = task f out in
      let end = local.finish u in
      let z = solo.finished (its f) s in
      let o = put f end.task out in
      let base : Stands its z o =
      ended_both cells.is_dropping hand dropping_away cells.finished (λ u. (local.finish u).task) finished_is finish_awaits
      finished_stays in
      let k = state cells.is_dropping hand dropping_away cells.finished (λ u. (local.finish u).task) finished_is finish_awaits
      finished_stays in
      let answer : asked cells.finish_answer Nothing (named its f) left.cells ≡ local.finish_answer u =
      asks_found cells.finish_answer Nothing (named its f) left.cells
      ∙ (ap (of_found cells.finish_answer Nothing) k.1
      ∙ (ap (λ b. choose b (local.finish_answer k.0.task) Nothing) k.2 ∙ ap (λ t. local.finish_answer t) k.3)) in
      let first = put_still c f end.task out in
      let few : length o.lying ≤ c.tells = subst (λ n. n ≤ c.tells) (sym first.lying) given_lying in
      let went : Stands its (lets_go end.let_go z) (on end.let_go (let_go wakes (tell wakes c)) o) =
      lets_go_both its c z o base few end.let_go (named_in o first end.let_go (λ w. (finish_waker u w).1))
      (three_fewer 2 left.lines lives_on) in
      let q = on end.let_go (let_go wakes (tell wakes c)) o in
      let second = chain c first (went_still end.let_go o) in
      let calls_so : Stands its (calls_it end.called (lets_go end.let_go z)) (on end.called (called wakes (tell wakes c)) q) =
      calls_both its c (lets_go end.let_go z) q went (subst (λ n. n ≤ c.tells) (sym second.lying) given_lying) end.called
      (named_in q second end.called (λ w. (finish_waker u w).0)) (lets_go_lives end.let_go z lives_on) in
      let all : Stands its (calls_it end.called (lets_go end.let_go z)) (takes.ended wakes c f end (Some taker) out) =
      subst
      (λ d. Stands its (calls_it end.called (lets_go end.let_go z))
      (or d (λ v. record o { events = o.events ++ Loses v ∷ []; inside = Lose end.called (Some taker) ∷ o.inside })
      (takes.lost wakes c end.called (Some taker) q)))
      (sym (finish_drops u))
      (goes_on its c (calls_it end.called (lets_go end.let_go z)) (on end.called (called wakes (tell wakes c)) q)
      (Some taker) one calls_so) in
      subst
      (λ q. Stands its (after_drop (solo.finish_answer (its f) s) z) (takes.ended wakes c f (local.finish (task f q)) (Some taker) q))
      (sym (drops_within rest c f p))
      (subst (λ e. Stands its (calls_it (solo.called e) (lets_go (solo.dropped e) z)) (takes.ended wakes c f end (Some taker) out))
      (sym answer)
      (subst (λ a. Stands its (calls_it a (lets_go (solo.dropped (local.finish_answer u)) z)) (takes.ended wakes c f end (Some taker) out))
      (sym (finish_calls u))
      (subst (λ l. Stands its (calls_it end.called (lets_go l z)) (takes.ended wakes c f end (Some taker) out))
      (sym (finish_lets_go u)) all)))

  -- which is seen
  pub closed_shows : asked cells.is_dropping false (named its f) left.cells ≡ true
      → (takes.dropped wakes c f Closed taker (record p { inside = rest })).events
      ≡ p.events ++ drop_shows taker (solo.finish_answer (its f) s) (solo.finished (its f) s)
  closed_shows hand =
      let u = task f out in
      let end = local.finish u in
      let z = solo.finished (its f) s in
      let o = put f end.task out in
      let base : Stands its z o =
      ended_both cells.is_dropping hand dropping_away cells.finished (λ u. (local.finish u).task) finished_is finish_awaits
      finished_stays in
      let k = state cells.is_dropping hand dropping_away cells.finished (λ u. (local.finish u).task) finished_is finish_awaits
      finished_stays in
      let answer : asked cells.finish_answer Nothing (named its f) left.cells ≡ local.finish_answer u =
      asks_found cells.finish_answer Nothing (named its f) left.cells
      ∙ (ap (of_found cells.finish_answer Nothing) k.1
      ∙ (ap (λ b. choose b (local.finish_answer k.0.task) Nothing) k.2 ∙ ap (λ t. local.finish_answer t) k.3)) in
      let first = put_still c f end.task out in
      let few : length o.lying ≤ c.tells = subst (λ n. n ≤ c.tells) (sym first.lying) given_lying in
      let names = named_in o first end.let_go (λ w. (finish_waker u w).1) in
      let fewer = three_fewer 2 left.lines lives_on in
      let went = lets_go_both its c z o base few end.let_go names fewer in
      let q = on end.let_go (let_go wakes (tell wakes c)) o in
      let second = chain c first (went_still end.let_go o) in
      let y = lets_go end.let_go z in
      let rang = rings (turns.left_answer (its f).place s).told.sleeper in
      let all : (takes.ended wakes c f end (Some taker) out).events
      ≡ p.events ++ (rang ++ (rings_without end.let_go z ++ call_shows end.called (Some taker) y)) =
      subst
      (λ d. (or d (λ v. record o { events = o.events ++ Loses v ∷ []; inside = Lose end.called (Some taker) ∷ o.inside })
      (takes.lost wakes c end.called (Some taker) q)).events
      ≡ p.events ++ (rang ++ (rings_without end.let_go z ++ call_shows end.called (Some taker) y)))
      (sym (finish_drops u))
      (step p.events rang (rings_without end.let_go z ++ call_shows end.called (Some taker) y)
      (put_events f end.task out ∙ out_events)
      (step o.events (rings_without end.let_go z) (call_shows end.called (Some taker) y)
      (lets_go_show (named its) c z o base.0 few fewer end.let_go names)
      (step q.events (rings_of end.called y) (Answers (answer_in taker) ∷ [])
      (calls_show (named its) c y q went.0 (subst (λ n. n ≤ c.tells) (sym second.lying) given_lying) (lets_go_lives end.let_go z lives_on)
      end.called (named_in q second end.called (λ w. (finish_waker u w).0)))
      (next_events c taker one (on end.called (called wakes (tell wakes c)) q))))) in
      subst
      (λ q. (takes.ended wakes c f (local.finish (task f q)) (Some taker) q).events
      ≡ p.events ++ drop_shows taker (solo.finish_answer (its f) s) z)
      (sym (drops_within rest c f p))
      (subst
      (λ e. (takes.ended wakes c f end (Some taker) out).events
      ≡ p.events ++ (rang ++ (rings_without (solo.dropped e) z ++ call_shows (solo.called e) (Some taker) (lets_go (solo.dropped e) z))))
      (sym answer)
      (subst
      (λ a. (takes.ended wakes c f end (Some taker) out).events
      ≡ p.events ++ (rang ++ (rings_without (solo.dropped (local.finish_answer u)) z
      ++ call_shows a (Some taker) (lets_go (solo.dropped (local.finish_answer u)) z))))
      (sym (finish_calls u))
      (subst
      (λ l. (takes.ended wakes c f end (Some taker) out).events
      ≡ p.events ++ (rang ++ (rings_without l z ++ call_shows end.called (Some taker) (lets_go l z))))
      (sym (finish_lets_go u)) all)))

  pub given_so : (v : T) → asked cells.is_lent false (named its f) left.cells ≡ true
      → Stands its (after_drop (solo.settle_ready_answer (its f) v s) (solo.settled_ready (its f) v s))
      (takes.dropped wakes c f (Gave v) taker (record p { inside = rest }))
  given_so v hand =
      let u = task f out in
      let end = abstract.end_ready v u in
      let z = solo.settled_ready (its f) v s in
      let o = put f end.task out in
      let base : Stands its z o =
      ended_both cells.is_lent hand lent_away (cells.ended_ready v) (λ u. (abstract.end_ready v u).task) (given_is v) (λ u. refl)
      (ended_stays v) in
      let k = state cells.is_lent hand lent_away (cells.ended_ready v) (λ u. (abstract.end_ready v u).task) (given_is v) (λ u. refl)
      (ended_stays v) in
      let output : asked (cells.ready_drops v) (Some v) (named its f) left.cells ≡ end.dropped =
      asks_found (cells.ready_drops v) (Some v) (named its f) left.cells
      ∙ (ap (of_found (cells.ready_drops v) (Some v)) k.1
      ∙ (ap (λ b. choose b (abstract.end_ready v k.0.task).dropped (Some v)) k.2
      ∙ ap (λ t. (abstract.end_ready v t).dropped) k.3)) in
      let awaiter : asked (cells.ready_calls v) None (named its f) left.cells ≡ u.awaiter =
      asks_found (cells.ready_calls v) None (named its f) left.cells
      ∙ (ap (of_found (cells.ready_calls v) None) k.1
      ∙ (ap (λ b. choose b (abstract.end_ready v k.0.task).called None) k.2 ∙ ap (λ t. (abstract.end_ready v t).called) k.3)) in
      let first = put_still c f end.task out in
      subst
      (λ q. Stands its (after_drop (solo.settle_ready_answer (its f) v s) z)
      (takes.ended wakes c f (abstract.end_ready v (task f q)) (Some taker) q))
      (sym (drops_within rest c f p))
      (subst (λ d. Stands its (choose (is_some d) z (calls_it (asked (cells.ready_calls v) None (named its f) left.cells) z))
      (takes.ended wakes c f end (Some taker) out))
      (sym output)
      (subst (λ a. Stands its (choose (is_some end.dropped) z (calls_it a z)) (takes.ended wakes c f end (Some taker) out))
      (sym awaiter)
      (by z o base (subst (λ n. n ≤ c.tells) (sym first.lying) given_lying) u.awaiter
      (named_in o first u.awaiter (λ w is. is)) (three_fewer 2 left.lines lives_on) end.dropped)))
    where
      by : (z : Solo F T X) (o : Plain T (SoloWaker X)) → Stands its z o → length o.lying ≤ c.tells → (a : Option (SoloWaker X))
          → Named (named its) (length o.futures) a → HasLife 2 z.lines → (d : Option T)
          → Stands its (choose (is_some d) z (calls_it a z))
          (or d (λ v. record o { events = o.events ++ Loses v ∷ []; inside = Lose a (Some taker) ∷ o.inside })
          (takes.lost wakes c a (Some taker) o))
      by z o both few a names life None =
          goes_on its c (calls_it a z) (on a (called wakes (tell wakes c)) o) (Some taker) one (calls_both its c z o both few a names life)
      by z o both few a names life (Some w) = (
        seen (named its) z o (o.events ++ Loses w ∷ []) (Lose a (Some taker) ∷ o.inside)
            (now_losing (named its) (length o.futures) z.cells o.inside both.0.inside a (Some taker) names) both.0,
        handed its c z o (o.events ++ Loses w ∷ []) (Lose a (Some taker) ∷ o.inside) both.1.lent both.1.dropping both.1,
      )

  pub given_shows : (v : T) → asked cells.is_lent false (named its f) left.cells ≡ true
      → (takes.dropped wakes c f (Gave v) taker (record p { inside = rest })).events
      ≡ p.events ++ drop_shows taker (solo.settle_ready_answer (its f) v s) (solo.settled_ready (its f) v s)
  given_shows v hand =
      let u = task f out in
      let end = abstract.end_ready v u in
      let z = solo.settled_ready (its f) v s in
      let o = put f end.task out in
      let base : Stands its z o =
      ended_both cells.is_lent hand lent_away (cells.ended_ready v) (λ u. (abstract.end_ready v u).task) (given_is v) (λ u. refl)
      (ended_stays v) in
      let k = state cells.is_lent hand lent_away (cells.ended_ready v) (λ u. (abstract.end_ready v u).task) (given_is v) (λ u. refl)
      (ended_stays v) in
      let output : asked (cells.ready_drops v) (Some v) (named its f) left.cells ≡ end.dropped =
      asks_found (cells.ready_drops v) (Some v) (named its f) left.cells
      ∙ (ap (of_found (cells.ready_drops v) (Some v)) k.1
      ∙ (ap (λ b. choose b (abstract.end_ready v k.0.task).dropped (Some v)) k.2
      ∙ ap (λ t. (abstract.end_ready v t).dropped) k.3)) in
      let awaiter : asked (cells.ready_calls v) None (named its f) left.cells ≡ u.awaiter =
      asks_found (cells.ready_calls v) None (named its f) left.cells
      ∙ (ap (of_found (cells.ready_calls v) None) k.1
      ∙ (ap (λ b. choose b (abstract.end_ready v k.0.task).called None) k.2 ∙ ap (λ t. (abstract.end_ready v t).called) k.3)) in
      let first = put_still c f end.task out in
      let rang = rings (turns.left_answer (its f).place s).told.sleeper in
      subst
      (λ q. (takes.ended wakes c f (abstract.end_ready v (task f q)) (Some taker) q).events
      ≡ p.events ++ drop_shows taker (solo.settle_ready_answer (its f) v s) z)
      (sym (drops_within rest c f p))
      (step p.events rang
      (loses_or (asked (cells.ready_drops v) (Some v) (named its f) left.cells)
      (call_shows (asked (cells.ready_calls v) None (named its f) left.cells) (Some taker) z))
      (put_events f end.task out ∙ out_events)
      (by z o base.0 (subst (λ n. n ≤ c.tells) (sym first.lying) given_lying) u.awaiter
      (named_in o first u.awaiter (λ w is. is)) (three_fewer 2 left.lines lives_on) end.dropped
      ∙ (ap (λ a. o.events ++ loses_or end.dropped (call_shows a (Some taker) z)) (sym awaiter)
      ∙ ap (λ d. o.events ++ loses_or d (call_shows (asked (cells.ready_calls v) None (named its f) left.cells) (Some taker) z))
      (sym output))))
    where
      by : (z : Solo F T X) (o : Plain T (SoloWaker X)) → Follows (named its) z o → length o.lying ≤ c.tells → (a : Option (SoloWaker X))
          → Named (named its) (length o.futures) a → HasLife 2 z.lines → (d : Option T)
          → (or d (λ v. record o { events = o.events ++ Loses v ∷ []; inside = Lose a (Some taker) ∷ o.inside })
          (takes.lost wakes c a (Some taker) o)).events
          ≡ o.events ++ loses_or d (call_shows a (Some taker) z)
      by z o follows few a names life None =
          step o.events (rings_of a z) (Answers (answer_in taker) ∷ []) (calls_show (named its) c z o follows few life a names)
          (next_events c taker one (on a (called wakes (tell wakes c)) o))
      by z o follows few a names life (Some w) = refl
