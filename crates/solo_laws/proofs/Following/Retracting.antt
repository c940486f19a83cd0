-- A task that is queued as the executor ends is closed, and its future is gone: who awaits it is called, and nothing is queued by that.
use Rattle.std.proofs.Common.{◌≡◌, ℕ, ◌<◌, Bool, true, false, List, [], ◌++◌, length, Option, Some, None}
use Rattle.std.proofs.Common.{refl, sym, ap, subst, ◌∙◌, append-nil}
use Rattle.executor_parts.specs.declared.places.EntryPlace.{EntryPlace}
use Rattle.executor_parts.specs.Places.{entry_in, set_future, future_of}
use Rattle.task_moves.specs.AbstractTask as abstract
use Rattle.task_moves.specs.AbstractTask.{AbstractTask, Phase, Idle, Queued, Polling, PollingWoken, Finished}
use Rattle.task_moves.specs.LocalTask as local
use Rattle.task_moves.specs.LocalTask.{told as told_of, is_home, is_queued}
use Rattle.task_moves.specs.declared.local_task.answers.Finish.{Finish}
use Rattle.task_moves.specs.declared.local_task.answers.Finish.TheVariants.{Nothing as NoAwaiter}
use Rattle.task_moves.specs.declared.local_task.answers.FuturePlace.{FuturePlace}
use Rattle.task_moves.specs.declared.local_task.answers.FuturePlace.TheVariants.{Home, Lent as IsLent, Dropping, Gone}
use Rattle.solo.specs.declared.names.Task.{Task}
use Rattle.solo.specs.declared.names.SoloWaker.{SoloWaker}
use Rattle.solo.specs.declared.names.SoloWaker.TheVariants.{Task as OfTask, Outside}
use Rattle.solo.specs.declared.cells.Cells.{Cells}
use Rattle.solo.specs.declared.owed.Owed.{Owed}
use Rattle.solo.specs.declared.solo.Solo.{Solo}
use Rattle.solo.specs.Cells.{Kept, choose, asked}
use Rattle.solo.specs.Cells as cells
use Rattle.solo.specs.Solo as solo
use Rattle.solo.specs.Turns as turns
use Rattle.solo.specs.Closing as closing
use Rattle.plain_scheduler.specs.State.{Due, Future, Choice, Plain}
use Rattle.plain_scheduler.specs.Lists.{on}
use Rattle.plain_scheduler.specs.Moves.{task, put, called, tell}
use Rattle.solo_laws.specs.Alike.{calls}
use Rattle.solo_laws.specs.Closing.{opened}
use Rattle.solo_laws.specs.Road.{Follows, IsTaskOf, IsOver, stands, wakes}
use Rattle.solo_laws.specs.Shown.{rings, rings_of}
use Rattle.solo_laws.proofs.Following.Due.{clash, both_true}
use Rattle.solo_laws.proofs.Following.Tasks.{uses}
use Rattle.solo_laws.proofs.Following.Cells.{found, of_found, asks_found, changed_found, found_here}
use Rattle.solo_laws.proofs.Following.Changing.{Goes, kept, task_is, turned}
use Rattle.solo_laws.proofs.Following.Inside.{home_lent, home_dropping}
use Rattle.solo_laws.proofs.Following.Sweeping.{swept}
use Rattle.solo_laws.proofs.Following.Using.{used_kept, use_queues, wake_and_release, used_fits, asks, changed_twice, put_long}
use Rattle.solo_laws.proofs.Following.Quiet.{both_ask}
use Rattle.solo_laws.proofs.Following.Finishing.{finish_calls, finish_lets_go}
use Rattle.solo_laws.proofs.Following.Calling.{Named}
use Rattle.solo_laws.proofs.Following.Calming.{IsCalm, quietly, calls_quietly, put_due_apart, use_tells}
use Rattle.solo_laws.proofs.Following.Closing.{elsewhere}
use Rattle.solo_laws.proofs.Showing.Telling.{put_events}

-- in whose call nothing is queued
module _ {F T X : Type 0} where
  abbrev pub still : Option (SoloWaker X) → Solo F T X → Solo F T X
  still None s = s
  still (Some (Outside w)) s = s
  still (Some (OfTask t)) s = turns.swept t (turns.turned cells.released t (turns.turned cells.woken t s))

  pub kept_still : {B : Type 0} (ask : Solo F T X → B) → ((now : Cells T X) (s : Solo F T X) → ask (record s { cells = now }) ≡ ask s)
      → (o : Option (SoloWaker X)) (s : Solo F T X) → ask (still o s) ≡ ask s
  kept_still ask same None s = refl
  kept_still ask same (Some (Outside w)) s = refl
  kept_still ask same (Some (OfTask t)) s = same (still (Some (OfTask t)) s).cells s

  opened_still : (o : Option (SoloWaker X)) (s : Solo F T X) → still o (opened s) ≡ opened (still o s)
  opened_still None s = refl
  opened_still (Some (Outside w)) s = refl
  opened_still (Some (OfTask t)) s = refl

  module _ (name : ℕ → Task) (s : Solo F T X) (q : Plain T (SoloWaker X)) (r : Follows name (opened s) q)
      (o : Option (SoloWaker X)) (named : Named name (length q.futures) o) (calm : IsCalm q o) where
    queues_none : (t : Task) → o ≡ Some (OfTask t) → solo.wakes_or_closes t s ≡ false
    queues_none t is =
        let it = named t is in
        subst (λ u. solo.wakes_or_closes u s ≡ false) it.1
        (both_ask (name t.number) s
        ∙ (asks None name used_kept use_queues wake_and_release uses used_fits t.number (opened s) q it.0 r
        ∙ use_tells (task t.number q) (calm t is)))

    pub calls_still : calls o s ≡ still o s
    calls_still = by o queues_none
      where
        by : (o : Option (SoloWaker X)) → ((t : Task) → o ≡ Some (OfTask t) → solo.wakes_or_closes t s ≡ false)
            → calls o s ≡ still o s
        by None none = refl
        by (Some (Outside w)) none = refl
        by (Some (OfTask t)) none =
            ap (λ b. turns.swept t (turns.scheduled_if b t (turns.turned cells.released t (turns.turned cells.woken t s))))
            (none t refl)

    pub calls_opened : calls o (opened s) ≡ opened (calls o s)
    calls_opened = by o queues_none ∙ (opened_still o s ∙ sym (ap (λ (z : Solo F T X). opened z) calls_still))
      where
        by : (o : Option (SoloWaker X)) → ((t : Task) → o ≡ Some (OfTask t) → solo.wakes_or_closes t s ≡ false)
            → calls o (opened s) ≡ still o (opened s)
        by None none = refl
        by (Some (Outside w)) none = refl
        by (Some (OfTask t)) none =
            ap (λ b. turns.swept t (turns.scheduled_if b t (turns.turned cells.released t (turns.turned cells.woken t (opened s)))))
            (none t refl)

    pub rings_opened : rings_of o (opened s) ≡ rings_of o s
    rings_opened = by o queues_none
      where
        by : (o : Option (SoloWaker X)) → ((t : Task) → o ≡ Some (OfTask t) → solo.wakes_or_closes t s ≡ false)
            → rings_of o (opened s) ≡ rings_of o s
        by None none = refl
        by (Some (Outside w)) none = refl
        by (Some (OfTask t)) none =
            ap (λ b. rings (turns.schedule_if_answer b t
            (turns.turned cells.released t (turns.turned cells.woken t (opened s)))).sleeper) (none t refl)
            ∙ sym (ap (λ b. rings (turns.schedule_if_answer b t
            (turns.turned cells.released t (turns.turned cells.woken t s))).sleeper) (none t refl))

    -- and who is called is shown
    pub calls_show : (c : Choice) (p : Plain T (SoloWaker X)) → IsCalm p o
        → (on o (called wakes (tell wakes c)) p).events ≡ p.events ++ rings_of o s
    calls_show c p quiet = ap (λ (p : Plain T (SoloWaker X)). p.events) (calls_quietly (tell wakes c) o p quiet) ∙ by o queues_none
      where
        by : (o : Option (SoloWaker X)) → ((t : Task) → o ≡ Some (OfTask t) → solo.wakes_or_closes t s ≡ false)
            → (on o quietly p).events ≡ p.events ++ rings_of o s
        by None none = sym (append-nil p.events)
        by (Some (Outside w)) none = refl
        by (Some (OfTask t)) none =
            put_events t.number (wake_and_release (task t.number p)) p
            ∙ (sym (append-nil p.events)
            ∙ sym (ap (λ b. p.events ++ rings (turns.schedule_if_answer b t
            (turns.turned cells.released t (turns.turned cells.woken t s))).sleeper) (none t refl)))

queued : (phase : Phase) → is_queued phase ≡ true → phase ≡ Queued
queued Queued is = refl
queued Idle is = absurd cc
queued Polling is = absurd cc
queued PollingWoken is = absurd cc
queued Finished is = absurd cc

pub its_place : (at : FuturePlace EntryPlace) → is_home at ≡ true → (place : EntryPlace) × (cells.retract_by at ≡ Some place)
its_place (Home place) is = (place, refl)
its_place IsLent is = absurd cc
its_place Dropping is = absurd cc
its_place Gone is = absurd cc

-- who awaits it is called by its owner
abbrev pub owes : {F T X : Type 0} → Option (SoloWaker X) → Owed F T X
owes awaiter =
    record { future = None; rest = None; output = None; awaiter = awaiter; sleeper = None; old = None; returned = None }

module _ {T X : Type 0} where
  -- it is closed, and finished
  abbrev pub ends : Kept T X → Kept T X
  ends v = cells.finished (cells.retracted v)

  abbrev pub drops : AbstractTask T (SoloWaker X) → AbstractTask T (SoloWaker X)
  drops t = (abstract.drop_runnable t).task

  module _ (v : Kept T X) (may : cells.may_start v ≡ true) where
    home : is_home v.future ≡ true
    home = (both_true (is_home v.future) (is_queued v.task.phase) may).0

    phase : v.task.phase ≡ Queued
    phase = queued v.task.phase (both_true (is_home v.future) (is_queued v.task.phase) may).1

    abbrev closed : AbstractTask T (SoloWaker X)
    closed = record v.task { closed = true }

    abbrev out : Kept T X
    out = record v { task = closed; future = Dropping }

    retracts : cells.retracted v ≡ out
    retracts = ap (λ b. choose b out v) may

    ended : ends v ≡ record v { task = drops v.task; future = Gone }
    ended =
        ap (λ w. cells.finished w) retracts
        ∙ ap (λ (p : Phase). record v { task = (local.finish_by p closed).task; future = Gone }) phase

    ends_is : (x : Future T (SoloWaker X)) → IsTaskOf v x → IsTaskOf (ends v) (record x { task = told_of (drops x.task) })
    ends_is x of =
        subst (λ w. IsTaskOf w (record x { task = told_of (drops x.task) })) (sym ended)
        (record {
          task = ap drops of.task ∙ ap (λ (infos : List Bool). record (drops x.task) { infos = infos }) of.told;
          mark = of.mark;
          told = refl;
          idle = λ idle. absurd cc;
          done = λ gone. refl;
          reached = refl;
          there = λ home. absurd cc;
          closing = λ goes. refl;
        })

    pub ends_calls : solo.called (cells.finish_answer (cells.retracted v)) ≡ v.task.awaiter
    ends_calls =
        ap (λ w. solo.called (cells.finish_answer w)) retracts
        ∙ (finish_calls closed ∙ ap (λ (p : Phase). (local.finish_by p closed).called) phase)

    pub ends_drops : solo.dropped (cells.finish_answer (cells.retracted v)) ≡ None
    ends_drops =
        ap (λ w. solo.dropped (cells.finish_answer w)) retracts
        ∙ (finish_lets_go closed ∙ ap (λ (p : Phase). (local.finish_by p closed).let_go) phase)

module _ {F T X : Type 0} (name : ℕ → Task) (f : ℕ) (s : Solo F T X) (w : Plain T (SoloWaker X)) (due : List Due)
    (r : Follows name (opened s) (record w { due = due })) (below : f < length w.futures)
    (ready : asked cells.may_start false (name f) s.cells ≡ true) (gone : stands f due ≡ false)
    (table : s.table.entries ≡ []) where
  pub its_task : (v : Kept T X) × (found (name f) s.cells ≡ Some v) × (cells.may_start v ≡ true) × (v.task ≡ task f w)
  its_task =
      let k = kept None name cells.may_start f (opened s) (record w { due = due }) r below ready in
      (k.0, k.2, k.4, k.5.task ∙ sym (task_is f w k.1 k.3))

  abbrev t : Task
  t = name f

  abbrev v : Kept T X
  v = its_task.0

  pub place : (at : EntryPlace) × (cells.retract_by v.future ≡ Some at)
  place = its_place v.future (home v its_task.2)

  retract_at : asked cells.retract_answer None t s.cells ≡ Some place.0
  retract_at =
      asks_found cells.retract_answer None t s.cells
      ∙ (ap (of_found cells.retract_answer None) its_task.1
      ∙ (ap (λ b. choose b (cells.retract_by v.future) None) its_task.2 ∙ place.1))

  abbrev begun : Solo F T X
  begun = turns.turned cells.retracted t s

  -- its entry is gone already
  abbrev left : Solo F T X
  left = closing.out place.0 begun

  -- so it is over at once
  abbrev pub over : Solo F T X
  over = turns.swept t (record left { cells = cells.changed ends t s.cells })

  pub retracted_is : closing.retracted t s ≡ over
  retracted_is =
      ap (λ o. closing.retracted_by o t begun) retract_at
      ∙ (ap (λ es. closing.retracted_future (future_of (entry_in place.0 es)) t left) table
      ∙ ap (λ (cs : Cells T X). turns.swept t (record left { cells = cs })) (changed_twice cells.retracted cells.finished t s.cells))

  pub over_table : over.table.entries ≡ []
  over_table = ap (λ es. set_future place.0 None es) table

  abbrev pub awaiter : Option (SoloWaker X)
  awaiter = (task f w).awaiter

  answer : closing.finish_gone_answer t left ≡ owes awaiter
  answer =
      ap (λ (end : Finish (SoloWaker X)). record {
        future = None;
        rest = None;
        output = None;
        awaiter = solo.called end;
        sleeper = None;
        old = solo.dropped end;
        returned = None;
      }) end_is
      ∙ (ap (λ (o : Option (SoloWaker X)). record {
        future = None;
        rest = None;
        output = None;
        awaiter = o;
        sleeper = None;
        old = solo.dropped (cells.finish_answer (cells.retracted v));
        returned = None;
      }) (ends_calls v its_task.2 ∙ ap (λ (u : AbstractTask T (SoloWaker X)). u.awaiter) its_task.3)
      ∙ ap (λ (o : Option (SoloWaker X)). record {
        future = None;
        rest = None;
        output = None;
        awaiter = awaiter;
        sleeper = None;
        old = o;
        returned = None;
      }) (ends_drops v its_task.2))
    where
      end_is : asked cells.finish_answer NoAwaiter t (cells.changed cells.retracted t s.cells)
          ≡ cells.finish_answer (cells.retracted v)
      end_is =
          asks_found cells.finish_answer NoAwaiter t (cells.changed cells.retracted t s.cells)
          ∙ ap (of_found cells.finish_answer NoAwaiter)
          (found_here cells.retracted t s.cells ∙ ap (changed_found cells.retracted) its_task.1)

  pub retract_answer_is : closing.retract_answer t s ≡ owes awaiter
  retract_answer_is =
      ap (λ o. closing.retract_answer_by o t begun) retract_at
      ∙ (ap (λ es. closing.retract_future_answer (future_of (entry_in place.0 es)) place.0 t left) table ∙ answer)

  abbrev pub after : Plain T (SoloWaker X)
  after = put f (drops (task f w)) w

  -- and so is that of the plain scheduler
  pub over_follows : Follows name (opened over) (record after { due = due })
  over_follows =
      elsewhere name over.table over.going over.leaving (turns.swept t (turns.turned ends t (opened s))) (record after { due = due })
      (swept None name f (turns.turned ends t (opened s)) (record after { due = due })
      (subst (λ n. f < n) (sym (put_long f (drops (task f w)) w)) below)
      (subst (Follows name (turns.turned ends t (opened s))) (put_due_apart f (drops (task f w)) due w)
      (turned None name ends drops f (opened s) (record w { due = due }) below stays goes (λ u is. absurd cc) r)))
    where
      there : (u : Kept T X) → found t s.cells ≡ Some u → cells.may_start u ≡ true
      there u is = sym (ap (of_found cells.may_start false) is) ∙ (sym (asks_found cells.may_start false t s.cells) ∙ ready)

      stays : found t s.cells ≡ None → IsOver (task f w) → IsOver (told_of (drops (task f w)))
      stays none is =
          absurd (clash (asks_found cells.may_start false t s.cells ∙ ap (of_found cells.may_start false) none) ready)

      goes : Goes None name ends drops f (opened s) (record w { due = due })
      goes u x here at of =
          record {
            is = ends_is u (there u here) x of;
            ready = λ has start. absurd (clash gone has);
            lent = λ has so. absurd (clash (home_lent u.future (home u (there u here))) so);
            dropping = λ has so. absurd (clash (home_dropping u.future (home u (there u here))) so);
          }
