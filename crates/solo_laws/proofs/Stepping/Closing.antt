-- A leak and the end go as `next` says.
use Rattle.std.proofs.Common.{◌≡◌, ℕ, zero, suc, Bool, true, false, List, [], ◌∷◌, ◌++◌, append_assoc, length, slice_get}
use Rattle.std.proofs.Common.{Option, Some, None, refl, ap, sym, ◌∙◌}
use Rattle.executor_parts.specs.declared.mark.Mark.{Mark}
use Rattle.executor_parts.specs.declared.mark.Mark.TheVariants.{Plain, Urgent}
use Rattle.executor_parts.specs.declared.places.EntryPlace.{EntryPlace}
use Rattle.executor_parts.specs.Places.{Entry}
use Rattle.task_moves.specs.declared.moves.owed.Move.TheVariants as move
use Rattle.call_steps.specs.declared.reply.Reply.TheVariants as reply
use Rattle.call_steps.specs.declared.step.CallStep.TheVariants as step
use Rattle.call_steps.specs.declared.step.table.ClosingStep.TheVariants as closing_step
use Rattle.call_steps.specs.declared.step.user.UserStep.TheVariants as user_step
use Rattle.call_steps.specs.Closing.{closing as closes_by, leaking}
use Rattle.call_steps.specs.Next.{next_closing}
use Rattle.call_steps.specs.Owing.{owed}
use Rattle.call_steps.specs.Seeing.{owes}
use Rattle.solo.specs.declared.names.Task.{Task}
use Rattle.solo.specs.declared.owed.Told.{Told}
use Rattle.solo.specs.declared.solo.Solo.{Solo}
use Rattle.solo.specs.Cells.{choose, asked}
use Rattle.solo.specs.Cells as cells
use Rattle.solo.specs.Closing as closing
use Rattle.solo.specs.Lines as lines
use Rattle.solo.specs.Solo as solo
use Rattle.solo.specs.Turns as turns
use Rattle.solo.specs.Turns.{turned, swept, lined, loosed, let_go, let_go_answer, scheduled, schedule_answer, scheduled_if}
use Rattle.solo.specs.Turns.{schedule_if_answer}
use Rattle.solo_laws.specs.Going.{Going, Out, Step, calm, quiet}
use Rattle.solo_laws.specs.Seen.{first, named_by, seen_next}
use Rattle.solo_laws.specs.Done as done
use Rattle.solo_laws.specs.Goes.{goes}
use Rattle.solo_laws.specs.HandedOut.{telling, owing, handing}
use Rattle.solo_laws.specs.EndsGo.{LeaksGo, LeakNextsGo, ClosesGo, DrainsGo, leaks_on, leaks_next, telling_if, drains, drains_line}
use Rattle.solo_laws.specs.PollsGo.{left_by_place}
use Rattle.solo_laws.proofs.Stepping.Telling.{two, nine, appends, lets_go, alone, telling_in}
use Rattle.solo_laws.proofs.Stepping.Ending.{takes_back}
use Rattle.solo_laws.proofs.Ending.{woken_rests}
use Rattle.solo_laws.proofs.Loosening.{queues_not}

abbrev again : Mark → List Step
again mark = step.Closing (closing_step.Drain mark) ∷ []

module _ {F T X : Type 0} where
  -- a waker that came out of the table is called, and goes

  abbrev woken_if : Bool → Task → Solo F T X → Solo F T X
  woken_if q task s = scheduled_if q task (turned cells.woken task s)

  abbrev woken_so : Bool → Task → Solo F T X → Going F T X
  woken_so q task s = record (calm (swept task (loosed task (woken_if q task s)))) {
    out = telling (schedule_if_answer q task (turned cells.woken task s));
  }

  releases : (n : ℕ) (task : Task) (s : Solo F T X) (told : Told X) → asked cells.release_queues false task s.cells ≡ false
      → goes (two (two (two (nine n)))) (step.Move move.Release task ∷ []) (record (calm s) { out = telling told })
      ≡ record (calm (swept task (loosed task s))) { out = telling told }
  releases n task s told not =
      let gone : Solo F T X = turned cells.released task s in
      lets_go n task (record (calm s) { out = telling told })
      ∙ ap
      (λ (b : Bool). record (calm (swept task (choose b (scheduled task gone) gone))) {
        out = telling_in (choose b (schedule_answer task gone) turns.silent) (telling told);
      })
      not
      ∙ ap (λ (b : Bool). record (calm (swept task (choose b (lined task gone) gone))) { out = telling told }) (sym not)

  wakes_then : (q : Bool) (more : List Step) (end : Going F T X) (task : Task) (s : Solo F T X)
      → asked cells.release_queues false task (woken_if q task s).cells ≡ false
      → ((n : ℕ) → goes (two n) more (woken_so q task s) ≡ end)
      → goes 19 (owed true task (record (owes q) { next = Some move.Release }) ++ more) (calm (turned cells.woken task s)) ≡ end
  wakes_then true more end task s not tail =
      let w : Solo F T X = turned cells.woken task s in
      let told : Told X = schedule_answer task w in
      ap (goes 18 (step.Move move.Release task ∷ more)) (appends 6 task (calm w))
      ∙ ap (λ (out : Out F T X). goes 18 (step.Move move.Release task ∷ more) (record (calm (scheduled task w)) { out = out }))
      (alone told quiet)
      ∙ ap (goes 17 more) (releases 3 task (scheduled task w) told not)
      ∙ tail 15
  wakes_then false more end task s not tail =
      ap (goes 18 more) (releases 4 task (turned cells.woken task s) turns.silent not) ∙ tail 16

  rests : (task : Task) (s : Solo F T X) → asked cells.release_queues false task (solo.woken task s).cells ≡ false
  rests task s = queues_not task (solo.woken task s).cells (woken_rests task s)

  -- a leak

  leaks_by : (n : ℕ) (s : Solo F T X) → goes 19 (step.End reply.Done ∷ []) (goes 19 (leaking n) (calm s)) ≡ leaks_on n s quiet
  leaks_by zero s = refl
  leaks_by (suc n) s = refl

  pub leaks_go : (s : Solo F T X) → LeaksGo s
  leaks_go s = leaks_by (length (closing.leaked s).leaving.items) (closing.leaked s)

  leaks_behind : (n m : ℕ) (s : Solo F T X) (out : Out F T X)
      → goes (two m) (step.End reply.Done ∷ []) (goes (two m) (leaking n) (record (calm s) { out = out })) ≡ leaks_on n s out
  leaks_behind zero m s out = refl
  leaks_behind (suc n) m s out = refl

  abbrev leak_left : ℕ → Solo F T X → Out F T X → Going F T X
  leak_left zero s out = record (calm s) { out = out }
  leak_left (suc n) s out = record (calm s) { out = out; left = step.Closing closing_step.LeakNext ∷ [] }

  leak_tail : (n m : ℕ) (s : Solo F T X) (out : Out F T X)
      → goes (two m) (leaking n) (record (calm s) { out = out }) ≡ leak_left n s out
  leak_tail zero m s out = refl
  leak_tail (suc n) m s out = refl

  leak_ends : (n : ℕ) (s : Solo F T X) (out : Out F T X)
      → goes 19 (step.End reply.Done ∷ []) (leak_left n s out) ≡ leaks_on n s out
  leak_ends zero s out = refl
  leak_ends (suc n) s out = refl

  leaks_next_by : (a : Option Task) (s : Solo F T X)
      → goes 19 (step.End reply.Done ∷ [])
      (goes 19 (next_closing closing_step.LeakNext (seen_next a s)) (done.next_woken a (record (calm s) { pauses = false })))
      ≡ leaks_next a (closing.first_left s)
  leaks_next_by None s = refl
  leaks_next_by (Some task) s =
      let left : Solo F T X = closing.first_left s in
      let out : Out F T X = telling (solo.wake_answer task left) in
      let n : ℕ = length left.leaving.items in
      let after : Solo F T X = closing.leaving_woken task left in
      ap (goes 19 (step.End reply.Done ∷ []))
      (wakes_then (asked cells.wake_queues false task s.cells) (leaking n) (leak_left n after out) task left (rests task left)
      (λ m. leak_tail n m after out))
      ∙ leak_ends n after out

  abbrev LeaksAs : Option Task → Solo F T X → Type 0
  LeaksAs a s =
      ((leaks_next a s).solo ≡ closing.leak_woken_by a s)
      × (record (leaks_next a s).out { reply = None } ≡ telling_if (closing.leak_answer_by a s))

  leaks_on_as : (n : ℕ) (s : Solo F T X) (told : Told X)
      → ((leaks_on n s (telling told)).solo ≡ s) × (record (leaks_on n s (telling told)).out { reply = None } ≡ telling told)
  leaks_on_as zero s told = (refl, refl)
  leaks_on_as (suc n) s told = (refl, refl)

  leaks_as : (a : Option Task) (s : Solo F T X) → LeaksAs a s
  leaks_as (Some task) s = leaks_on_as (length s.leaving.items) (closing.leaving_woken task s) (closing.leaving_answer task s)
  leaks_as None s = (refl, refl)

  pub leak_nexts_go : (s : Solo F T X) → LeakNextsGo s
  leak_nexts_go s =
      let said = leaks_as (slice_get s.leaving.items 0) (closing.first_left s) in
      (leaks_next_by (slice_get s.leaving.items 0) s, said.0, said.1)

  -- the end

  closes_at : (n m : ℕ) (s : Solo F T X)
      → goes 19 (step.End reply.Done ∷ []) (goes 19 (closes_by n m) (calm s))
      ≡ record (calm s) { left = closes_by n m ++ step.End reply.Done ∷ [] }
  closes_at (suc n) m s = refl
  closes_at zero (suc m) s = refl
  closes_at zero zero s = refl

  pub closes_go : (s : Solo F T X) → ClosesGo s
  closes_go s = closes_at (length s.table.entries) (length s.leaving.items) (closing.closed s)

  -- one more future is dropped

  drop_tail : (n m : ℕ) (task : Task) (s : Solo F T X) (out : Out F T X)
      → goes 19 (step.End reply.Done ∷ [])
      (goes 18 (closes_by n m) (record (calm s) { out = out; left = step.User (user_step.Drop task) ∷ [] }))
      ≡ record (calm s) { out = out; left = step.User (user_step.Drop task) ∷ closes_by n m ++ step.End reply.Done ∷ [] }
  drop_tail (suc n) m task s out = refl
  drop_tail zero (suc m) task s out = refl
  drop_tail zero zero task s out = refl

  -- one more waker is called

  wake_tail : (n m : ℕ) (s : Solo F T X) (out : Out F T X)
      → goes (two m) (closes_by 0 n) (record (calm s) { out = out }) ≡ record (calm s) { out = out; left = closes_by 0 n }
  wake_tail zero m s out = refl
  wake_tail (suc n) m s out = refl

  wake_ends : (n : ℕ) (s : Solo F T X) (out : Out F T X)
      → goes 19 (step.End reply.Done ∷ []) (record (calm s) { out = out; left = closes_by 0 n })
      ≡ record (calm s) { out = out; left = closes_by 0 n ++ step.End reply.Done ∷ [] }
  wake_ends zero s out = refl
  wake_ends (suc n) s out = refl

  -- a queued task is taken back

  back_tail : (left : List Step) (n : ℕ) (mark : Mark) (place : Option EntryPlace) (s : Solo F T X) (out : Out F T X)
      → goes 19 (step.End reply.Done ∷ [])
      (goes (two n) (again mark) (record (calm s) { place = place; out = out; left = left }))
      ≡ record (calm s) { place = place; out = out; left = left ++ step.Closing (closing_step.Drain mark) ∷ step.End reply.Done ∷ [] }
  back_tail [] n mark place s out = refl
  back_tail (o ∷ os) n mark place s out =
      ap (λ (left : List Step). record (calm s) { place = place; out = out; left = left })
      (append_assoc (o ∷ os) (again mark) (step.End reply.Done ∷ []))

  takes_one : (n : ℕ) (mark : Mark) (task : Task) (s : Solo F T X)
      → goes 19 (step.End reply.Done ∷ [])
      (goes (suc (two (nine n))) (step.Move move.DropRunnable task ∷ again mark) (record (calm s) { retracts = true }))
      ≡ drains_line (Some task) mark s
  takes_one n mark task s =
      ap (λ (g : Going F T X). goes 19 (step.End reply.Done ∷ []) (goes (two (nine n)) (again mark) g)) (takes_back (suc n) task s)
      ∙ back_tail (left_by_place (asked cells.retract_answer None task s.cells) task s) (nine n) mark
      (asked cells.retract_answer None task s.cells) (closing.retracted task s) (owing (closing.retract_answer task s))

  plain_by : (b : Option Task) (s : Solo F T X)
      → goes 19 (step.End reply.Done ∷ [])
      (goes 16 (next_closing (closing_step.Drain Plain) (first b)) (done.drained_by b (record (calm s) { pauses = false })))
      ≡ drains_line b Plain s
  plain_by (Some task) s = takes_one 4 Plain task s
  plain_by None s = refl

  urgent_by : (a : Option Task) (s : Solo F T X)
      → goes 19 (step.End reply.Done ∷ [])
      (goes 17 (next_closing (closing_step.Drain Urgent) (first a))
      (done.drained_by a (record (calm (record s { lines = lines.popped_from Urgent s.lines })) { pauses = false })))
      ≡ drains_line
      (lines.found_by a Urgent (lines.popped_from Urgent s.lines)).task
      (lines.found_by a Urgent (lines.popped_from Urgent s.lines)).mark
      (record s { lines = lines.taken_by a Urgent (lines.popped_from Urgent s.lines) })
  urgent_by (Some task) s = takes_one 5 Urgent task (record s { lines = lines.popped_from Urgent s.lines })
  urgent_by None s =
      let l : lines.LinesValue = lines.popped_from Urgent s.lines in
      plain_by (lines.first_of Plain l) (record s { lines = lines.popped_from Plain l })

  -- with these futures to be dropped, and these wakers to be called
  abbrev with_those : List (Entry F (Option Task)) → List Task → Solo F T X → Solo F T X
  with_those es wakers s =
      record s { going = record s.going { entries = es }; leaving = record s.leaving { items = wakers } }

  abbrev DrainsAt : List (Entry F (Option Task)) → List Task → Solo F T X → Type 0
  DrainsAt es wakers s =
      (goes 20 (closes_by (length es) (length wakers) ++ step.End reply.Done ∷ []) (record (calm s) { pauses = false })
      ≡ drains es wakers s)
      × ((drains es wakers s).solo ≡ closing.drained s)
      × (record (drains es wakers s).out { reply = None } ≡ handing (closing.drain_answer s))

  abbrev LineAs : Option Task → Mark → Solo F T X → Type 0
  LineAs a mark s =
      ((drains_line a mark s).solo ≡ closing.line_drained_by a s)
      × (record (drains_line a mark s).out { reply = None } ≡ handing (closing.line_answer_by a s))

  line_as : (a : Option Task) (mark : Mark) (s : Solo F T X) → LineAs a mark s
  line_as (Some task) mark s = (refl, refl)
  line_as None mark s = (refl, refl)

  drains_at : (es : List (Entry F (Option Task))) (wakers : List Task) (s : Solo F T X) → DrainsAt es wakers (with_those es wakers s)
  drains_at (e ∷ es) wakers s = (
    drop_tail (length es) (length (closing.to_wake e.waker (with_those (e ∷ es) wakers s)).leaving.items) (named_by e.waker)
        (closing.drained (with_those (e ∷ es) wakers s)) (handing (closing.drain_answer (with_those (e ∷ es) wakers s))),
    refl,
    refl,
  )
  drains_at [] (task ∷ wakers) s =
      let left : Solo F T X = with_those [] wakers s in
      let out : Out F T X = telling (solo.wake_answer task left) in
      let after : Solo F T X = closing.leaving_woken task left in
      let n : ℕ = length wakers in (
        ap (goes 19 (step.End reply.Done ∷ []))
            (wakes_then (asked cells.wake_queues false task s.cells) (closes_by 0 n)
            (record (calm after) { out = out; left = closes_by 0 n })
            task left (rests task left) (λ m. wake_tail n m after out))
            ∙ wake_ends n after out,
        refl,
        refl,
      )
  drains_at [] [] s =
      let shut : Solo F T X = closing.shut_line (with_those [] [] s) in
      let found = lines.found_from Urgent shut.lines in
      let said = line_as found.task found.mark (closing.first_out shut) in
      (urgent_by (lines.first_of Urgent shut.lines) shut, said.0, said.1)

  pub drains_go : (s : Solo F T X) → DrainsGo s
  drains_go s = drains_at s.going.entries s.leaving.items s
