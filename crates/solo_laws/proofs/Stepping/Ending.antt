-- The end of a poll and of a future's drop go as `next` says, and a task that is taken back.
use Rattle.std.proofs.Common.{◌≡◌, ℕ, suc, ◌==◌, Bool, true, false, [], ◌∷◌, Option, Some, None, is_some, refl, ap, sym, ◌∙◌}
use Rattle.slab.specs.Slab.{get}
use Rattle.executor_parts.specs.declared.places.EntryPlace.{EntryPlace}
use Rattle.executor_parts.specs.Places.{entry_in, future_of, parts_of}
use Rattle.task_moves.specs.AbstractTask as abstract
use Rattle.task_moves.specs.Moves.{nothing}
use Rattle.task_moves.specs.declared.moves.owed.Move.TheVariants as move
use Rattle.task_moves.specs.declared.local_task.answers.Finish.{Finish}
use Rattle.task_moves.specs.declared.local_task.answers.Finish.TheVariants.{Nothing as NoAwaiter}
use Rattle.task_moves.specs.declared.moves.owed.FutureDebt.TheVariants.{DropFuture}
use Rattle.call_steps.specs.declared.saw.Saw.{Saw}
use Rattle.call_steps.specs.declared.saw.Saw.TheVariants as saw
use Rattle.call_steps.specs.declared.step.CallStep.TheVariants as step
use Rattle.call_steps.specs.declared.step.handle.HandleStep.TheVariants as handle_step
use Rattle.call_steps.specs.declared.step.table.TableStep.TheVariants as table_step
use Rattle.call_steps.specs.Next.{next_move, next_table}
use Rattle.call_steps.specs.Owing.{owed}
use Rattle.call_steps.specs.Seeing.{seen}
use Rattle.solo.specs.declared.names.Task.{Task}
use Rattle.solo.specs.declared.names.SoloWaker.{SoloWaker}
use Rattle.solo.specs.declared.names.SoloWaker.TheVariants.{Task as OfTask, Outside}
use Rattle.solo.specs.declared.cells.Cell.{Cell}
use Rattle.solo.specs.declared.cells.Cells.{Cells}
use Rattle.solo.specs.declared.cells.After.{After}
use Rattle.solo.specs.declared.cells.After.TheVariants.{Unknown}
use Rattle.solo.specs.declared.owed.Lent.{Lent}
use Rattle.solo.specs.declared.solo.Solo.{Solo}
use Rattle.solo.specs.declared.turns.Left.{Left}
use Rattle.solo.specs.Cells.{Kept, choose, asked, asked_by}
use Rattle.solo.specs.Cells as cells
use Rattle.solo.specs.Closing as closing
use Rattle.solo.specs.Solo as solo
use Rattle.solo.specs.Turns as turns
use Rattle.solo.specs.Turns.{turned, left_by_parts, left_answer_by, let_go, let_go_answer, without}
use Rattle.solo_laws.specs.Going.{Going, Out, calm, quiet}
use Rattle.solo_laws.specs.Seen.{seen_back, has_waker, notify, ends_by, poll_end}
use Rattle.solo_laws.specs.Done.{either, future_in, swept_by, leaves}
use Rattle.solo_laws.specs.Done as done
use Rattle.solo_laws.specs.Goes.{goes}
use Rattle.solo_laws.specs.HandedOut.{first_use, telling, owing, use_of}
use Rattle.solo_laws.specs.PollsGo.{ReadySettlesGo, PendingSettlesGo, FinishesGo, RetractsGo, waker_in, at, left_by_end}
use Rattle.solo_laws.specs.PollsGo.{left_by_future, left_by_place, taken_back}
use Rattle.solo_laws.proofs.Stepping.Telling.{two, nine, free, lets_go, alone, appends}
use Rattle.solo_laws.proofs.Stepping.Taking.{either_none}

abbrev after_of : Option abstract.PendingEnd → After
after_of (Some end) = cells.pending_by end
after_of None = Unknown

abbrev back_seen : Bool → Saw Task ℕ
back_seen there = saw.Moved there (record nothing { future = Some DropFuture; next = Some move.SettleClosed })

module _ {T X : Type 0} where
  after_lent : (b : Bool) (v : Kept T X)
      → choose b (cells.pending_by (abstract.pending_end v.task)) Unknown ≡ after_of (choose b (Some (abstract.pending_end v.task)) None)
  after_lent true v = refl
  after_lent false v = refl

  after_mine : (b : Bool) (v : Kept T X) → choose b (cells.pending_answer v) Unknown ≡ after_of (choose b (poll_end v) None)
  after_mine true v = after_lent (cells.is_lent v) v
  after_mine false v = refl

  after_in : (task : Task) (found : Option (Cell T X))
      → asked_by cells.pending_answer Unknown task found ≡ after_of (asked_by poll_end None task found)
  after_in task None = refl
  after_in task (Some c) = after_mine (c.number == task.number) c.task

module _ {F T X : Type 0} where
  -- an entry leaves the table

  parts_leave : (parts : Option (Option F × Option Task)) (task : Task) (place : Option EntryPlace) (given : Option T) (s : Solo F T X)
      → ((t : Task) → waker_in parts ≡ Some t → t ≡ task)
      → goes 19 (next_table (table_step.LeaveTable task) (seen (has_waker parts)))
      (record (calm s) { place = place; given = given; out = record quiet { future = future_in parts } })
      ≡ record (calm (left_by_parts parts s)) {
        place = place;
        given = given;
        out = record (telling (left_answer_by parts s).told) { future = (left_answer_by parts s).future };
      }
  parts_leave None task place given s own = refl
  parts_leave (Some (future, None)) task place given s own = refl
  parts_leave (Some (future, Some t)) task place given s own =
      lets_go 4 task (record (calm s) { place = place; given = given; out = record quiet { future = future } })
      ∙ ap (λ (out : Out F T X). record (calm (let_go task s)) { place = place; given = given; out = out })
      (alone (let_go_answer task s) (record quiet { future = future }))
      ∙ ap
      (λ (u : Task). record (calm (let_go u s)) {
        place = place;
        given = given;
        out = record (telling (let_go_answer u s)) { future = future };
      })
      (sym (own t refl))

  -- behind an output

  pays_by : (o : Option T) (w : Option (SoloWaker X)) (n : ℕ) (task : Task) (g : Going F T X)
      → goes (nine n) (owed true task (record nothing { drop_output = is_some o; awaiter = notify (is_some w) }))
      (record (free g) { output = o; awaiter = w })
      ≡ record (free g) {
        output = None;
        awaiter = None;
        out = record g.out { output = either o g.out.output; awaiter = either w g.out.awaiter };
      }
  pays_by None None n task g = refl
  pays_by (Some o) None n task g = refl
  pays_by None (Some (OfTask t)) n task g = refl
  pays_by None (Some (Outside x)) n task g = refl
  pays_by (Some o) (Some (OfTask t)) n task g = refl
  pays_by (Some o) (Some (Outside x)) n task g = refl

  pub ready_settles_go : (s : Solo F T X) → ReadySettlesGo s
  ready_settles_go s lent output own =
      let gone : Solo F T X = turns.left lent.place s in
      let left : Left F X = turns.left_answer lent.place s in
      let drops : Option T = asked (cells.ready_drops output) (Some output) lent.task gone.cells in
      let calls : Option (SoloWaker X) = asked (cells.ready_calls output) None lent.task gone.cells in
      let ended : Solo F T X = turned (cells.ended_ready output) lent.task gone in
      let out : Out F T X = record (telling left.told) { future = left.future } in (
        refl,
        ap (goes 19 (step.Move move.EndReady lent.task ∷ []))
            (parts_leave (parts_of (entry_in lent.place s.table.entries)) lent.task (Some lent.place) (Some output)
            (without lent.place s) own)
            ∙ ap (swept_by lent.task) (pays_by drops calls (nine 0) lent.task (record (at lent ended) { out = out }))
            ∙ ap
            (λ (o : Option T). record (at lent (solo.settled_ready lent output s)) {
              out = record out { output = o; awaiter = either calls None };
            })
            (either_none drops)
            ∙ ap
            (λ (w : Option (SoloWaker X)). record (at lent (solo.settled_ready lent output s)) {
              out = record out { output = drops; awaiter = w };
            })
            (either_none calls),
      )

  -- without one

  pends_by : (e : Option abstract.PendingEnd) (lent : Lent) (future : F) (s : Solo F T X)
      → goes 18 (owed true lent.task (ends_by e))
      (done.pending_by (after_of e) lent.place (record (at lent s) { future = Some future }))
      ≡ record (at lent (solo.pending_by (after_of e) lent future s)) {
        out = owing (solo.pending_answer_by (after_of e) lent future s);
        left = left_by_end e lent.task;
      }
  pends_by (Some abstract.PendingEnd.Drops) lent future s = refl
  pends_by (Some abstract.PendingEnd.Forgets) lent future s = refl
  pends_by (Some abstract.PendingEnd.Rests) lent future s = refl
  pends_by None lent future s = refl
  pends_by (Some abstract.PendingEnd.Queues) lent future s =
      let back : Solo F T X = solo.put_back lent future s in
      let over : Option F = solo.over lent future s in
      appends 5 lent.task (record (at lent back) { out = record quiet { future = over } })
      ∙ ap (λ (out : Out F T X). record (at lent (turns.scheduled lent.task back)) { out = out })
      (alone (turns.schedule_answer lent.task back) (record quiet { future = over }))

  -- a future is handed out to be dropped where its drop is left
  pended_lent : (e : Option abstract.PendingEnd) (lent : Lent) (future : F) (s : Solo F T X)
      → first_use (left_by_end e lent.task) ≡ use_of (owing (solo.pending_answer_by (after_of e) lent future s)).found
  pended_lent (Some abstract.PendingEnd.Drops) lent future s = refl
  pended_lent (Some abstract.PendingEnd.Forgets) lent future s = refl
  pended_lent (Some abstract.PendingEnd.Rests) lent future s = refl
  pended_lent (Some abstract.PendingEnd.Queues) lent future s = refl
  pended_lent None lent future s = refl

  pub pending_settles_go : (s : Solo F T X) → PendingSettlesGo s
  pending_settles_go s lent future =
      let end : Option abstract.PendingEnd = asked poll_end None lent.task s.cells in
      let same = after_in lent.task (get s.cells.slab lent.task.key) in
      let ended : Solo F T X = turned (cells.ended_pending lent.place) lent.task s in (
        ap (λ (a : After). goes 18 (owed true lent.task (ends_by end))
            (done.pending_by a lent.place (record (at lent ended) { future = Some future })))
            same
            ∙ pends_by end lent future ended
            ∙ ap
            (λ (a : After). record (at lent (solo.pending_by a lent future ended)) {
              out = owing (solo.pending_answer_by a lent future ended);
              left = left_by_end end lent.task;
            })
            (sym same),
        pended_lent end lent future ended
            ∙ ap (λ (a : After). use_of (owing (solo.pending_answer_by a lent future ended)).found) (sym same),
      )

  -- the last drop of a future

  ends_as : (lent : Lent) (s : Solo F T X)
      → (end : Finish (SoloWaker X)) → end ≡ asked cells.finish_answer NoAwaiter lent.task (turns.left lent.place s).cells
      → swept_by lent.task
      (goes 18 (owed true lent.task (record nothing { awaiter = notify (is_some (solo.called end)) }))
      (record (at lent (turned cells.finished lent.task (turns.left lent.place s))) {
        awaiter = solo.called end;
        out = record (telling (turns.left_answer lent.place s).told) {
          future = (turns.left_answer lent.place s).future;
          old = solo.dropped end;
        };
      }))
      ≡ record (at lent (solo.finished lent s)) {
        out = record (telling (turns.left_answer lent.place s).told) {
          future = (turns.left_answer lent.place s).future;
          awaiter = solo.called end;
          old = solo.dropped end;
        };
      }
  ends_as lent s end is =
      let out : Out F T X = record (telling (turns.left_answer lent.place s).told) {
        future = (turns.left_answer lent.place s).future;
        old = solo.dropped end;
      } in
      ap (swept_by lent.task)
      (pays_by None (solo.called end) (nine 0) lent.task
      (record (at lent (turned cells.finished lent.task (turns.left lent.place s))) { out = out }))
      ∙ ap (λ (w : Option (SoloWaker X)). record (at lent (solo.finished lent s)) { out = record out { awaiter = w } })
      (either_none (solo.called end))

  pub finishes_go : (s : Solo F T X) → FinishesGo s
  finishes_go s lent own =
      let end : Finish (SoloWaker X) = asked cells.finish_answer NoAwaiter lent.task (turns.left lent.place s).cells in
      let gone = parts_leave (parts_of (entry_in lent.place s.table.entries)) lent.task (Some lent.place) None
      (without lent.place s) own in (
        ap (goes 19 (step.Move move.SettleClosed lent.task ∷ [])) gone ∙ ends_as lent s end refl,
        ap (goes 19 (step.Move move.EndClosed lent.task ∷ [])) gone ∙ ends_as lent s end refl,
        λ nobody. ap (goes 19 (step.Handle (handle_step.LetGo lent.task) ∷ [])) gone
            ∙ ap
            (λ (w : Option (SoloWaker X)). record (at lent (solo.finished lent s)) {
              awaiter = w;
              out = record (telling (turns.left_answer lent.place s).told) {
                future = (turns.left_answer lent.place s).future;
                old = solo.dropped end;
              };
            })
            nobody
            ∙ ap
            (λ (w : Option (SoloWaker X)). record (at lent (solo.finished lent s)) {
              out = record (telling (turns.left_answer lent.place s).told) {
                future = (turns.left_answer lent.place s).future;
                awaiter = w;
                old = solo.dropped end;
              };
            })
            (sym nobody),
      )

  -- a task is taken back

  pub settles_closed : (n : ℕ) (task : Task) (g : Going F T X)
      → goes (suc (nine n)) (step.Move move.SettleClosed task ∷ []) (record (free g) { output = None })
      ≡ record (free g) {
        solo = closing.finished_gone task g.solo;
        output = None;
        awaiter = None;
        out = record g.out {
          awaiter = either (solo.called (asked cells.finish_answer NoAwaiter task g.solo.cells)) g.out.awaiter;
          old = solo.dropped (asked cells.finish_answer NoAwaiter task g.solo.cells);
        };
      }
  settles_closed n task g =
      let end : Finish (SoloWaker X) = asked cells.finish_answer NoAwaiter task g.solo.cells in
      ap (swept_by task)
      (pays_by None (solo.called end) n task
      (record g { solo = turned cells.finished task g.solo; out = record g.out { old = solo.dropped end } }))

  back_future : (future : Option F) (n : ℕ) (task : Task) (place : EntryPlace) (s : Solo F T X)
      → goes (suc (nine n)) (next_move task (back_seen (is_some future)))
      (record (calm s) { place = Some place; future = future })
      ≡ record (calm (closing.retracted_future future task s)) {
        place = Some place;
        out = owing (closing.retract_future_answer future place task s);
        left = left_by_future future task;
      }
  back_future (Some future) n task place s = refl
  back_future None n task place s =
      settles_closed n task (record (calm s) { place = Some place })
      ∙ ap
      (λ (w : Option (SoloWaker X)). record (calm (closing.finished_gone task s)) {
        place = Some place;
        out = record quiet { awaiter = w; old = solo.dropped (asked cells.finish_answer NoAwaiter task s.cells) };
      })
      (either_none (solo.called (asked cells.finish_answer NoAwaiter task s.cells)))

  back_by : (p : Option EntryPlace) (n : ℕ) (task : Task) (s : Solo F T X) (c : Cells T X)
      → goes (suc (nine n)) (next_move task (seen_back p s))
      (done.back_by p task (record s { cells = c }) (record (calm s) { retracts = true }))
      ≡ record (calm (closing.retracted_by p task (record s { cells = c }))) {
        place = p;
        out = owing (closing.retract_answer_by p task (record s { cells = c }));
        left = left_by_place p task s;
      }
  back_by None n task s c = refl
  back_by (Some place) n task s c =
      back_future (future_of (entry_in place s.table.entries)) n task place (closing.out place (record s { cells = c }))

  pub takes_back : (n : ℕ) (task : Task) (s : Solo F T X)
      → goes (two (nine n)) (step.Move move.DropRunnable task ∷ []) (record (calm s) { retracts = true }) ≡ taken_back task s
  takes_back n task s =
      back_by (asked cells.retract_answer None task s.cells) n task s (turned cells.retracted task s).cells

  lent_future : (future : Option F) (task : Task) (place : EntryPlace) (s : Solo F T X)
      → first_use (left_by_future future task) ≡ use_of (owing (closing.retract_future_answer future place task s)).found
  lent_future (Some future) task place s = refl
  lent_future None task place s = refl

  lent_back : (p : Option EntryPlace) (task : Task) (s : Solo F T X)
      → first_use (left_by_place p task s) ≡ use_of (owing (closing.retract_answer_by p task (turned cells.retracted task s))).found
  lent_back (Some place) task s =
      lent_future (future_of (entry_in place s.table.entries)) task place (closing.out place (turned cells.retracted task s))
  lent_back None task s = refl

  pub retracts_go : (s : Solo F T X) → RetractsGo s
  retracts_go s task = (takes_back 9 task s, lent_back (asked cells.retract_answer None task s.cells) task s)
