-- Spawns and takes go as `next` says.
use Rattle.std.proofs.Common.{◌≡◌, ℕ, suc, Bool, true, false, not, [], ◌∷◌, Option, Some, None, refl, ap, sym, ◌∙◌}
use Rattle.executor_parts.specs.declared.mark.Mark.{Mark}
use Rattle.executor_parts.specs.declared.places.EntryPlace.{EntryPlace}
use Rattle.executor_parts.specs.Marks.{other}
use Rattle.task_moves.specs.declared.local_task.answers.Start.{Start}
use Rattle.task_moves.specs.declared.local_task.answers.Start.TheVariants.{Poll, Drop}
use Rattle.task_moves.specs.declared.moves.owed.Move.TheVariants as move
use Rattle.call_steps.specs.declared.names.Look.TheVariants.{First, Second}
use Rattle.call_steps.specs.declared.reply.Reply.{Reply}
use Rattle.call_steps.specs.declared.reply.Reply.TheVariants as reply
use Rattle.call_steps.specs.declared.step.CallStep.TheVariants as step
use Rattle.call_steps.specs.declared.step.table.QueueStep.TheVariants as queue_step
use Rattle.call_steps.specs.declared.step.table.TableStep.TheVariants as table_step
use Rattle.call_steps.specs.declared.step.tick.SleeperStep.TheVariants as sleeper_step
use Rattle.call_steps.specs.Next.{next_queue, next_table}
use Rattle.call_steps.specs.Owing.{owed}
use Rattle.call_steps.specs.Seeing.{seen}
use Rattle.solo.specs.declared.names.Task.{Task}
use Rattle.solo.specs.declared.owed.SpawnError.TheVariants.{Full, NoMemory}
use Rattle.solo.specs.declared.owed.Told.{Told}
use Rattle.solo.specs.declared.solo.Solo.{Solo}
use Rattle.solo.specs.Cells.{choose, asked}
use Rattle.solo.specs.Cells as cells
use Rattle.solo.specs.Lines.{first_of, popped_from, mark_of_turn, turned, taken_by, found_by}
use Rattle.solo.specs.Solo as solo
use Rattle.solo.specs.Solo.{sought, popped}
use Rattle.solo.specs.Table.{Same, TableValue}
use Rattle.solo.specs.Turns as turns
use Rattle.solo_laws.specs.Going.{Going, calm, quiet}
use Rattle.solo_laws.specs.Seen.{begins_by, first}
use Rattle.solo_laws.specs.Done.{either, gone_if}
use Rattle.solo_laws.specs.Goes.{goes}
use Rattle.solo_laws.specs.HandedOut.{ends, telling, runs, to_run, reply_if}
use Rattle.solo_laws.specs.CallsGo.{SpawnsGo, RefusalsGo, LooksGo, TakesGo, tried}
use Rattle.solo_laws.proofs.Stepping.Telling.{two, five, nine, free, tells, appends, alone}

pub either_none : {B : Type 0} → (w : Option B) → either w None ≡ w
either_none (Some x) = refl
either_none None = refl

module _ {F T X : Type 0} where
  looks_by : (b : Bool) (s : Solo F T X)
      → goes 19 (next_table table_step.LookAtTable (seen (not b))) (calm s) ≡ ends s (choose b reply.Yes reply.No) quiet
  looks_by true s = refl
  looks_by false s = refl

  pub looks_go : (s : Solo F T X) → LooksGo s
  looks_go s = looks_by (solo.is_empty s) s

  -- a refused spawn changes nothing but room
  is_same : (old new : Solo F T X) → Same old.table old.cells new.table new.cells
      → new ≡ record old { table = new.table; cells = new.cells }
      → new ≡ record old { table = record old.table { has_room = new.table.has_room }; cells = new.cells }
  is_same old new same is = is ∙ ap (λ (t : TableValue F). record old { table = t; cells = new.cells }) same.table

  pub refusals_go : (s : Solo F T X) → RefusalsGo s
  refusals_go old mark future (Full back) new does =
      (ap (λ (n : Solo F T X). ends n reply.Full quiet) (is_same old new does.0.2 does.1), does.0.2.slots, does.0.0)
  refusals_go old mark future (NoMemory back) new does =
      (ap (λ (n : Solo F T X). ends n reply.NoMemory quiet) (is_same old new does.0.3 does.1), does.0.3.slots, does.0.0)

  spawned_goes : (task : Task) (s : Solo F T X)
      → goes 20 (step.Queue (queue_step.Append task) ∷ step.End reply.Made ∷ []) (calm s)
      ≡ ends (turns.scheduled task s) reply.Made (telling (turns.schedule_answer task s))
  spawned_goes task s =
      ap (goes 19 (step.End reply.Made ∷ [])) (appends 7 task (calm s))
      ∙ ap (ends (turns.scheduled task s) reply.Made) (alone (turns.schedule_answer task s) quiet)

  pub spawns_go : (s : Solo F T X) → SpawnsGo s
  spawns_go old mark future spawned new does =
      let s : Solo F T X = does.0 in (
        s,
        does.1,
        spawned_goes spawned.task s
            ∙ ap (λ (n : Solo F T X). ends n reply.Made (telling (turns.schedule_answer spawned.task s))) (sym does.2)
            ∙ ap (λ (told : Told X). ends new reply.Made (telling told)) (sym does.3),
      )

  runs_by : (start : Option (Start EntryPlace)) (n : ℕ) (task : Task) (answer : Reply) (s : Solo F T X) (g : Going F T X)
      → goes (five n) (step.End answer ∷ [])
      (goes (five n) (owed true task (begins_by start)) (record (free g) {
        solo = turns.turned cells.started task s;
        starts = start;
        out = record g.out { found = gone_if start g.out.found };
      }))
      ≡ record (free g) {
        solo = turns.out_of start (turns.turned cells.started task s);
        starts = None;
        out = record g.out { found = turns.found_by task start s; reply = reply_if start answer g.out.reply };
        left = to_run task start (step.End answer ∷ []);
      }
  runs_by (Some (Poll place)) n task answer s g = refl
  runs_by (Some (Drop place)) n task answer s g = refl
  runs_by None n task answer s g = refl

  -- the turn of a task begins
  pub begins_turn : (n : ℕ) (task : Task) (answer : Reply) (g : Going F T X)
      → goes (suc (five n)) (step.Move move.TakeUp task ∷ step.End answer ∷ []) (free (record g { starts = None }))
      ≡ runs task answer (free (record g { starts = None }))
  begins_turn n task answer g = runs_by (asked cells.start_answer None task g.solo.cells) n task answer g.solo g

  -- behind the tell of a sleeper
  pub tells_and_runs : (n : ℕ) (task : Task) (answer : Reply) (g : Going F T X)
      → goes (two (two (nine n))) (step.Sleeper sleeper_step.ExchangeFlag ∷ step.Move move.TakeUp task ∷ step.End answer ∷ [])
      (free (record g { starts = None }))
      ≡ runs task answer
      (free (record g {
        solo = turns.told g.solo;
        starts = None;
        out = record g.out { sleeper = either (turns.told_waker g.solo) g.out.sleeper };
      }))
  tells_and_runs n task answer g =
      ap (goes (two (suc (nine n))) (step.Move move.TakeUp task ∷ step.End answer ∷ [])) (tells (two n) (record g { starts = None }))
      ∙ begins_turn (suc (two (two (suc n)))) task answer
      (record g { solo = turns.told g.solo; out = record g.out { sleeper = either (turns.told_waker g.solo) g.out.sleeper } })

  tried_by : (n : ℕ) (task : Task) (s : Solo F T X)
      → goes (two (two (nine n)))
      (step.Sleeper sleeper_step.ExchangeFlag ∷ step.Move move.TakeUp task ∷ step.End reply.Yes ∷ []) (calm s)
      ≡ tried (Some task) s
  tried_by n task s =
      tells_and_runs n task reply.Yes (calm s)
      ∙ ap (λ (w : Option X). runs task reply.Yes (record (calm (turns.told s)) { out = record quiet { sleeper = w } }))
      (either_none (turns.told_waker s))

  second_by : (b : Option Task) (mark : Mark) (s : Solo F T X)
      → goes 17 (next_queue (queue_step.Take (Second mark)) (first b)) (calm s) ≡ tried b s
  second_by (Some task) mark s = tried_by 4 task s
  second_by None mark s = refl

  first_by : (a : Option Task) (mark : Mark) (s : Solo F T X)
      → goes 18 (next_queue (queue_step.Take (First mark)) (first a)) (calm (record s { lines = popped_from mark s.lines }))
      ≡ tried (found_by a mark (popped_from mark s.lines)).task (record s { lines = taken_by a mark (popped_from mark s.lines) })
  first_by (Some task) mark s = tried_by 5 task (record s { lines = popped_from mark s.lines })
  first_by None mark s =
      second_by (first_of (other mark) (popped_from mark s.lines)) (other mark)
      (record s { lines = popped_from (other mark) (popped_from mark s.lines) })

  tries_by : (a : Option Task) (s : Solo F T X)
      → ((tried a s).solo ≡ solo.taken_by a s) × ((tried a s).out.found ≡ (solo.take_answer_by a s).found)
      × ((tried a s).out.sleeper ≡ (solo.take_answer_by a s).sleeper)
  tries_by (Some task) s = (refl, refl, refl)
  tries_by None s = (refl, refl, refl)

  pub takes_go : (s : Solo F T X) → TakesGo s
  takes_go s = (
    first_by (first_of (mark_of_turn s.lines.turn) (turned s.lines)) (mark_of_turn s.lines.turn)
        (record s { lines = turned s.lines }),
    tries_by (sought s) (popped s),
  )
