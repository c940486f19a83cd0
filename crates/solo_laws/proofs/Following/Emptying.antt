-- Once all futures are dropped and their wakers called, both queues are shut, and each task in them is closed, the urgent ones first:
-- those that the plain scheduler closes, in its order.
use Rattle.std.proofs.Common.{◌≡◌, ℕ, ◌+◌, ◌<◌, ◌≤◌, cond, Bool, true, false, List, [], ◌∷◌, ◌++◌, length, map, filter, find, drop}
use Rattle.std.proofs.Common.{Option, Some, None, is_some, slice_get, refl, sym, ap, subst, ◌∙◌, append-nil}
use Rattle.queue_steps.specs.ClosableQueue.{ClosableQueue, most_accepted}
use Rattle.executor_parts.specs.declared.mark.Mark.{Mark}
use Rattle.executor_parts.specs.declared.mark.Mark.TheVariants.{Plain as PlainMark, Urgent}
use Rattle.solo.specs.declared.names.Task.{Task}
use Rattle.solo.specs.declared.names.SoloWaker.{SoloWaker}
use Rattle.solo.specs.declared.names.SoloWaker.TheVariants.{Task as OfTask, Outside}
use Rattle.solo.specs.declared.owed.Lent.{Lent}
use Rattle.solo.specs.declared.solo.Solo.{Solo}
use Rattle.solo.specs.Cells.{asked}
use Rattle.solo.specs.Cells as cells
use Rattle.solo.specs.Lines.{LinesValue, line_of, first_of, popped_from, taken_from, shut_both}
use Rattle.solo.specs.Table.{first_parts, rest_of}
use Rattle.solo.specs.Closing as closing
use Rattle.plain_scheduler.specs.State.{Due, Event, Choice, Plain}
use Rattle.plain_scheduler.specs.Lists.{any, without, each, on}
use Rattle.plain_scheduler.specs.Moves.{task, put, called, chosen, is_common}
use Rattle.plain_scheduler.specs.Calls as calls
use Rattle.solo_laws.specs.Alike.{calls as calls_it}
use Rattle.solo_laws.specs.Closing.{Drains, nothing_more, one_more, IsClosed, opened, waits}
use Rattle.solo_laws.specs.Road.{Follows, Lined, HasLife, IsNamed, due_task, due_task_if, count_of, stands, tests, wakes}
use Rattle.solo_laws.specs.Shown.{rings_of}
use Rattle.solo_laws.specs.Tabled.{named}
use Rattle.solo_laws.proofs.Following.Due.{found_stands, found_gone, stood, once_without}
use Rattle.solo_laws.proofs.Following.Lines.{find_first, without_first, without_other, any_none, popped_same, taken_same}
use Rattle.solo_laws.proofs.Following.Taking.{found_any}
use Rattle.solo_laws.proofs.Following.Taking as taking
use Rattle.solo_laws.proofs.Following.Using.{wake_and_release, put_due, put_long}
use Rattle.solo_laws.proofs.Following.Frames.{Still, still, chain, put_still, called_still, tell_still}
use Rattle.solo_laws.proofs.Following.Calling.{calls_alike, loud}
use Rattle.solo_laws.proofs.Following.Calming.{IsCalm, quietly, calls_quietly, calls_calm, tell_calm, put_calm, quietly_due_apart}
use Rattle.solo_laws.proofs.Following.Retracting as retracting
use Rattle.solo_laws.proofs.Following.Retracting.{owes}
use Rattle.solo_laws.proofs.Showing.Telling.{step, put_events}

-- what is due without a keeper, the urgent ones first
abbrev pub in_order : List Due → List Due
in_order ds = filter (is_common Urgent) ds ++ filter (is_common PlainMark) ds

none_both : {B : Type 0} (xs ys : List B) → xs ++ ys ≡ [] → (xs ≡ []) × (ys ≡ [])
none_both [] ys is = (refl, is)
none_both (x ∷ xs) ys is = absurd cc

-- a search that looks at urgent ones first finds the first in order, and leaves the others
module _ (ds : List Due) where
  abbrev pub test : Due → Bool
  test = chosen (tests Urgent) ds

  abbrev Fits : (Due → Bool) → Type 0
  Fits test = (find test ds ≡ slice_get (in_order ds) 0) × (in_order (without test ds) ≡ drop 1 (in_order ds))

  abbrev plain : List Due
  plain = filter (is_common PlainMark) ds

  urgent_first : (d : Due) (us : List Due) → filter (is_common Urgent) ds ≡ d ∷ us → Fits (is_common Urgent)
  urgent_first d us is = (
    find_first (is_common Urgent) ds
        ∙ (ap (λ xs. slice_get xs 0) is ∙ sym (ap (λ xs. slice_get (xs ++ plain) 0) is)),
    ap (λ xs. xs ++ filter (is_common PlainMark) (without (is_common Urgent) ds)) (without_first (is_common Urgent) ds)
        ∙ (ap (λ ys. drop 1 (filter (is_common Urgent) ds) ++ ys)
        (without_other (is_common Urgent) (is_common PlainMark) (taking.apart Urgent) ds)
        ∙ (ap (λ xs. drop 1 xs ++ plain) is ∙ sym (ap (λ xs. drop 1 (xs ++ plain)) is))),
  )

  then_plain : filter (is_common Urgent) ds ≡ [] → Fits (is_common PlainMark)
  then_plain is = (
    find_first (is_common PlainMark) ds ∙ sym (ap (λ xs. slice_get (xs ++ plain) 0) is),
    ap (λ xs. xs ++ filter (is_common PlainMark) (without (is_common PlainMark) ds))
        (without_other (is_common PlainMark) (is_common Urgent) (taking.apart PlainMark) ds ∙ is)
        ∙ (without_first (is_common PlainMark) ds ∙ sym (ap (λ xs. drop 1 (xs ++ plain)) is)),
  )

  no_one : filter (is_common Urgent) ds ≡ [] → plain ≡ [] → Fits (λ d. false)
  no_one is none = (
    nobody ds ∙ sym (ap (λ xs. slice_get xs 0) empty),
    ap in_order (all ds) ∙ (empty ∙ sym (ap (drop 1) empty)),
  )
    where
      empty : in_order ds ≡ []
      empty = ap (λ xs. xs ++ plain) is ∙ none

      nobody : (ds : List Due) → find (λ d. false) ds ≡ None
      nobody [] = refl
      nobody (d ∷ ds) = nobody ds

      all : (ds : List Due) → without (λ d. false) ds ≡ ds
      all [] = refl
      all (d ∷ ds) = ap (λ ds. d ∷ ds) (all ds)

  pub fits : Fits test
  fits = by (filter (is_common Urgent) ds) refl
    where
      any_is : (xs : List Due) → filter (is_common Urgent) ds ≡ xs → any (is_common Urgent) ds ≡ is_some (slice_get xs 0)
      any_is xs is =
          found_any (is_common Urgent) ds
          ∙ (ap is_some (find_first (is_common Urgent) ds) ∙ ap (λ xs. is_some (slice_get xs 0)) is)

      last : (b : Bool) → any (is_common PlainMark) ds ≡ b → filter (is_common Urgent) ds ≡ []
          → Fits (chosen (is_common PlainMark ∷ []) ds)
      last true is none = subst (λ b. Fits (λ d. cond b (is_common PlainMark d) false)) (sym is) (then_plain none)
      last false is none =
          subst (λ b. Fits (λ d. cond b (is_common PlainMark d) false)) (sym is) (no_one none (any_none (is_common PlainMark) ds is))

      by : (xs : List Due) → filter (is_common Urgent) ds ≡ xs → Fits test
      by (d ∷ us) is =
          subst (λ b. Fits (λ d. cond b (is_common Urgent d) (chosen (is_common PlainMark ∷ []) ds d))) (sym (any_is (d ∷ us) is))
          (urgent_first d us is)
      by [] is =
          subst (λ b. Fits (λ d. cond b (is_common Urgent d) (chosen (is_common PlainMark ∷ []) ds d))) (sym (any_is [] is))
          (last (any (is_common PlainMark) ds) refl is)

module _ {F T X : Type 0} (its : ℕ → Lent) (c : Choice) where
  -- these are still to be closed, and no task is queued any more
  pub record IsEmptying (ds : List Due) (s : Solo F T X) (w : Plain T (SoloWaker X)) : Type 0 where
    pub follows : Follows (named its) (opened s) (record w { due = ds })
    pub calm : (f : ℕ) → f < length w.futures → waits (task f w) ≡ false
    pub due : w.due ≡ []
    pub table : s.table.entries ≡ []
    pub going : s.going.entries ≡ []
    pub leaving : s.leaving.items ≡ []
    pub few : length w.lying ≤ c.tells
    pub life : HasLife 2 s.lines

  -- the owner drains it, and sees what the plain scheduler does
  pub record Empties (s : Solo F T X) (w u : Plain T (SoloWaker X)) : Type 0 where
    pub last : Solo F T X
    pub shown : List (Event T (SoloWaker X))
    pub drains : Drains s shown last
    pub closed : IsClosed its last u
    pub seen : u.events ≡ w.events ++ shown

  module _ (ds : List Due) (s : Solo F T X) (w : Plain T (SoloWaker X)) (r : IsEmptying ds s w) where
    abbrev lines : LinesValue
    lines = shut_both s.lines

    abbrev next : Solo F T X
    next = closing.first_left (closing.first_going s)

    -- the queues without the first
    abbrev short : Solo F T X
    short = closing.first_out (closing.shut_line next)

    lined : Lined (named its) lines ds
    lined PlainMark = r.follows.queued.lines PlainMark
    lined Urgent = r.follows.queued.lines Urgent

    found : closing.first_lined (closing.shut_line next) ≡ due_task_if (named its) (find (test ds) ds)
    found = (taking.taken (named its) Urgent lines ds lined).0

    drained_is : (o : Option Task) → closing.first_lined (closing.shut_line next) ≡ o
        → (closing.drained s ≡ closing.line_drained_by o short) × (closing.drain_answer s ≡ closing.line_answer_by o short)
    drained_is o is = (
      ap (λ es. closing.drained_by (first_parts es) (closing.first_going s)) r.going
          ∙ (ap (λ (ts : List Task). closing.drained_waking (slice_get ts 0) next) r.leaving
          ∙ ap (λ o. closing.line_drained_by o short) is),
      ap (λ es. closing.drain_answer_by (first_parts es) (closing.first_going s)) r.going
          ∙ (ap (λ (ts : List Task). closing.waking_answer (slice_get ts 0) next) r.leaving
          ∙ ap (λ o. closing.line_answer_by o short) is),
    )

    -- there is none
    pub done : in_order ds ≡ [] → Empties s w w
    done empty = record {
      last = s;
      shown = [];
      drains = nothing_more s (drained_is None (found ∙ ap (due_task_if (named its)) ((fits ds).0 ∙ ap (λ xs. slice_get xs 0) empty))).1;
      closed = record {
        whole = w;
        same = refl;
        follows = subst (λ ds. Follows (named its) (opened s) (record w { due = ds })) (sym r.due) none_due;
        calm = r.calm;
        due = r.due;
      };
      seen = sym (append-nil w.events);
    }
      where
        nones : (filter (is_common Urgent) ds ≡ []) × (filter (is_common PlainMark) ds ≡ [])
        nones = none_both (filter (is_common Urgent) ds) (filter (is_common PlainMark) ds) empty

        no_lines : Lined (named its) (opened s).lines []
        no_lines PlainMark = r.follows.queued.lines PlainMark ∙ ap (map (due_task (named its))) nones.1
        no_lines Urgent = r.follows.queued.lines Urgent ∙ ap (map (due_task (named its))) nones.0

        none_due : Follows (named its) (opened s) (record w { due = [] })
        none_due = record {
          numbered = r.follows.numbered;
          tasks = r.follows.tasks;
          within = r.follows.within;
          queued = record { lines = no_lines; unclosed = r.follows.queued.unclosed; limit = r.follows.queued.limit };
          once = refl;
          ready = λ f due. absurd cc;
          asleep = r.follows.asleep;
          awaiters = r.follows.awaiters;
          inside = r.follows.inside;
        }

    -- or this is the first
    module _ (d : Due) (rest : List Due) (is : in_order ds ≡ d ∷ rest) where
      abbrev others : List Due
      others = without (test ds) ds

      pub others_are : in_order others ≡ rest
      others_are = (fits ds).1 ∙ ap (drop 1) is

      first : find (test ds) ds ≡ Some d
      first = (fits ds).0 ∙ ap (λ xs. slice_get xs 0) is

      abbrev f : ℕ
      f = d.future

      short_lined : Lined (named its) (opened short).lines others
      short_lined PlainMark = (taking.taken (named its) Urgent lines ds lined).1 PlainMark
      short_lined Urgent = (taking.taken (named its) Urgent lines ds lined).1 Urgent

      same_line : {B : Type 0} (ask : ClosableQueue Task → B)
          → ((q : ClosableQueue Task) → ask (record q { items = drop 1 q.items }) ≡ ask q) → (m : Mark)
          → ask (line_of m (taken_from Urgent lines)) ≡ ask (line_of m lines)
      same_line ask same m =
          taken_same ask same (first_of Urgent lines) Urgent m (popped_from Urgent lines) ∙ popped_same ask same Urgent m lines

      limit_is : (m : Mark) → (line_of m (opened short).lines).capacity ≡ Some w.limit
      limit_is PlainMark = same_line (λ q. q.capacity) (λ q. refl) PlainMark ∙ r.follows.queued.limit PlainMark
      limit_is Urgent = same_line (λ q. q.capacity) (λ q. refl) Urgent ∙ r.follows.queued.limit Urgent

      all_open : (m : Mark) → (line_of m (opened short).lines).closed ≡ false
      all_open PlainMark = refl
      all_open Urgent = refl

      lives : HasLife 2 short.lines
      lives PlainMark =
          subst (λ n. n + 2 ≤ most_accepted) (sym (same_line (λ q. count_of q.accepted) (λ q. refl) PlainMark)) (r.life PlainMark)
      lives Urgent =
          subst (λ n. n + 2 ≤ most_accepted) (sym (same_line (λ q. count_of q.accepted) (λ q. refl) Urgent)) (r.life Urgent)

      open_lives : HasLife 2 (opened short).lines
      open_lives PlainMark = lives PlainMark
      open_lives Urgent = lives Urgent

      pub taken : Follows (named its) (opened short) (record w { due = others })
      taken = record {
        numbered = r.follows.numbered;
        tasks = r.follows.tasks;
        within = r.follows.within;
        queued = record { lines = short_lined; unclosed = all_open; limit = limit_is };
        once = once_without (test ds) ds r.follows.once;
        ready = λ j due. r.follows.ready j (stood (test ds) j ds due);
        asleep = r.follows.asleep;
        awaiters = r.follows.awaiters;
        inside = r.follows.inside;
      }

      pub can : (f < length w.futures) × (asked cells.may_start false (named its f) s.cells ≡ true)
      can = r.follows.ready f (found_stands (test ds) ds d first)

      pub gone : stands f others ≡ false
      gone = found_gone (test ds) ds d first r.follows.once

      -- it is closed
      abbrev over : Solo F T X
      over = retracting.over (named its) f short w others taken can.0 can.1 gone r.table

      abbrev awaiter : Option (SoloWaker X)
      awaiter = (task f w).awaiter

      abbrev after : Plain T (SoloWaker X)
      after = put f (retracting.drops (task f w)) w

      -- and who awaits it called
      abbrev now : Solo F T X
      now = calls_it awaiter over

      abbrev pub now_plain : Plain T (SoloWaker X)
      now_plain = on awaiter (called wakes (loud c)) after

      over_is : (closing.drained s ≡ over) × (closing.drain_answer s ≡ Some (owes awaiter))
      over_is =
          let it = drained_is (Some (named its f)) (found ∙ ap (due_task_if (named its)) first) in (
            it.0 ∙ retracting.retracted_is (named its) f short w others taken can.0 can.1 gone r.table,
            it.1 ∙ ap (λ o. Some o) (retracting.retract_answer_is (named its) f short w others taken can.0 can.1 gone r.table),
          )

      over_follows : Follows (named its) (opened over) (record after { due = others })
      over_follows = retracting.over_follows (named its) f short w others taken can.0 can.1 gone r.table

      still_on : (o : Option (SoloWaker X)) (q : Plain T (SoloWaker X)) → Still c q (on o (called wakes (loud c)) q)
      still_on None q = still c q
      still_on (Some x) q = called_still c (loud c) (tell_still c) x q

      stays : Still c w now_plain
      stays = chain c (put_still c f (retracting.drops (task f w)) w) (still_on awaiter after)

      calm_after : (g : ℕ) → g < length w.futures → waits (task g after) ≡ false
      calm_after g below = put_calm f (retracting.drops (task f w)) w (λ so. refl) g (r.calm g below)

      theirs : (t : Task) → awaiter ≡ Some (OfTask t) → IsNamed (named its) (length w.futures) t
      theirs t has = r.follows.awaiters f t has

      calm_one : IsCalm after awaiter
      calm_one t has = calm_after t.number (theirs t has).0

      named_one : (t : Task) → awaiter ≡ Some (OfTask t) → IsNamed (named its) (length after.futures) t
      named_one t has = subst (λ n. IsNamed (named its) n t) (sym (put_long f (retracting.drops (task f w)) w)) (theirs t has)

      few_after : length after.lying ≤ c.tells
      few_after = subst (λ n. n ≤ c.tells) (sym (put_still c f (retracting.drops (task f w)) w).lying) r.few

      apart : on awaiter (called wakes (loud c)) (record after { due = others }) ≡ record now_plain { due = others }
      apart =
          calls_quietly (loud c) awaiter (record after { due = others }) calm_one
          ∙ (quietly_due_apart awaiter others after
          ∙ sym (ap (λ (p : Plain T (SoloWaker X)). record p { due = others }) (calls_quietly (loud c) awaiter after calm_one)))

      quiet : now ≡ retracting.still awaiter over
      quiet = retracting.calls_still (named its) over (record after { due = others }) over_follows awaiter named_one calm_one

      of_over : {B : Type 0} (ask : Solo F T X → B)
          → ((z : Solo F T X) → ask (record over { cells = z.cells }) ≡ ask over) → ask now ≡ ask over
      of_over ask same = ap ask quiet ∙ same_by awaiter
        where
          same_by : (o : Option (SoloWaker X)) → ask (retracting.still o over) ≡ ask over
          same_by None = refl
          same_by (Some (OfTask t)) = same (retracting.still (Some (OfTask t)) over)
          same_by (Some (Outside x)) = refl

      pub goes_on : IsEmptying others now now_plain
      goes_on = record {
        follows =
            subst (λ (p : Plain T (SoloWaker X)). Follows (named its) (opened now) p) apart
            (subst (λ (z : Solo F T X). Follows (named its) z (on awaiter (called wakes (loud c)) (record after { due = others })))
            (retracting.calls_opened (named its) over (record after { due = others }) over_follows awaiter named_one calm_one)
            (calls_alike (named its) c (opened over) (record after { due = others }) over_follows few_after open_lives awaiter named_one));
        calm = λ g below.
            calls_calm (loud c) (tell_calm c) awaiter after g
            (calm_after g (subst (λ n. g < n) stays.futures below));
        due =
            ap (λ (p : Plain T (SoloWaker X)). p.due) (calls_quietly (loud c) awaiter after calm_one)
            ∙ (due_by awaiter after ∙ (put_due f (retracting.drops (task f w)) w ∙ r.due));
        table = of_over (λ z. z.table.entries) (λ z. refl)
            ∙ retracting.over_table (named its) f short w others taken can.0 can.1 gone r.table;
        going = of_over (λ z. z.going.entries) (λ z. refl) ∙ ap (λ es. rest_of es) r.going;
        leaving = of_over (λ z. z.leaving.items) (λ z. refl) ∙ ap (λ (ts : List Task). drop 1 ts) r.leaving;
        few = subst (λ n. n ≤ c.tells) (sym stays.lying) r.few;
        life = subst (λ l. HasLife 2 l) (sym (of_over (λ z. z.lines) (λ z. refl))) lives;
      }
        where
          due_by : (o : Option (SoloWaker X)) (p : Plain T (SoloWaker X)) → (on o quietly p).due ≡ p.due
          due_by None p = refl
          due_by (Some (OfTask t)) p = put_due t.number (wake_and_release (task t.number p)) p
          due_by (Some (Outside x)) p = refl

      shows : now_plain.events ≡ w.events ++ rings_of awaiter over
      shows =
          retracting.calls_show (named its) over (record after { due = others }) over_follows awaiter named_one calm_one c after calm_one
          ∙ ap (λ es. es ++ rings_of awaiter over) (put_events f (retracting.drops (task f w)) w)

      -- and so on
      pub one : (u : Plain T (SoloWaker X)) → Empties now now_plain u → Empties s w u
      one u e = record {
        last = e.last;
        shown = rings_of awaiter (closing.drained s) ++ e.shown;
        drains =
            one_more s e.last (owes awaiter) e.shown over_is.1 refl refl
            (subst (λ (z : Solo F T X). Drains (calls_it awaiter z) e.shown e.last) (sym over_is.0) e.drains);
        closed = e.closed;
        seen =
            step w.events (rings_of awaiter (closing.drained s)) e.shown
            (shows ∙ ap (λ (z : Solo F T X). w.events ++ rings_of awaiter z) (sym over_is.0)) e.seen;
      }

  -- all of them
  empties_by : (xs ds : List Due) (s : Solo F T X) (w : Plain T (SoloWaker X)) → IsEmptying ds s w → in_order ds ≡ xs
      → Empties s w (each xs (λ d. calls.closed wakes c d.future) w)
  empties_by [] ds s w r is = done ds s w r is
  empties_by (d ∷ rest) ds s w r is =
      one ds s w r d rest is (each rest (λ d. calls.closed wakes c d.future) (now_plain ds s w r d rest is))
      (empties_by rest (others ds s w r d rest is) (now ds s w r d rest is) (now_plain ds s w r d rest is)
      (goes_on ds s w r d rest is) (others_are ds s w r d rest is))

  pub empties : (s : Solo F T X) (w : Plain T (SoloWaker X)) → IsEmptying w.due s (record w { due = [] })
      → Empties s (record w { due = [] }) (calls.swept wakes c w)
  empties s w r = empties_by (in_order w.due) w.due s (record w { due = [] }) r refl
