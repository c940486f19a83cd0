-- The flag stands where a task is queued: of what the end of an executor does, and what goes on with a leak.
use Rattle.std.proofs.Common.{◌≡◌, Bool, true, false, Option, Some, None, slice_get}
use Rattle.executor_parts.specs.declared.mark.Mark.TheVariants.{Urgent}
use Rattle.executor_parts.specs.declared.places.EntryPlace.{EntryPlace}
use Rattle.executor_parts.specs.Places.{entry_in, future_of}
use Rattle.executor_parts.specs.Sleepers.{last_waker, without_last}
use Rattle.solo.specs.declared.names.Task.{Task}
use Rattle.solo.specs.declared.names.SoloWaker.{SoloWaker}
use Rattle.solo.specs.declared.names.SoloWaker.TheVariants.{Task as OfTask, Outside}
use Rattle.solo.specs.declared.solo.Solo.{Solo}
use Rattle.solo.specs.Lines.{taken_from}
use Rattle.solo.specs.Table.{first_parts}
use Rattle.solo.specs.Cells.{asked}
use Rattle.solo.specs.Cells as cells
use Rattle.solo.specs.Turns.{lined, takes, turned, lined_if, marked, loosed, handed_by, is_full, handed, told, scheduled}
use Rattle.solo.specs.Solo.{woken}
use Rattle.solo.specs.Closing.{retracted_future, retracted_by, retracted, out, leaving_woken, line_drained_by, shut_line, first_lined}
use Rattle.solo.specs.Closing.{first_out}
use Rattle.solo.specs.Closing.{drained_waking, drained_by, drained, leak_woken_by, leak_woken, first_left, first_going}
use Rattle.solo_laws.proofs.Prompt.{Prompt, chosen, scheduled_if_prompt, fewer_prompt}
use Rattle.solo_laws.proofs.Lines.{taken_fewer}
use Rattle.solo_laws.proofs.Loosening.{Rests, queues_not, others_woken, others_released, others_tidied, itself_woken}

module _ {F T X : Type 0} where
  abbrev Resting : Task → Solo F T X → Type 0
  Resting task s = Rests task s.cells

  handed_by_rests : (task : Task) (w : Option (SoloWaker X)) (s : Solo F T X) → Resting task s → Resting task (handed_by w s)
  handed_by_rests task (Some (OfTask other)) s rests =
      let marked_rests : Resting task (marked other s) =
      chosen (Resting task) (asked cells.wake_queues false other s.cells)
      (lined other (turned cells.woken other s)) (turned cells.woken other s)
      (others_woken task other s.cells rests) (others_woken task other s.cells rests) in
      let released_rests = others_released task other (marked other s).cells marked_rests in
      let loosed_rests : Resting task (loosed other (marked other s)) =
      chosen (Resting task) (asked cells.release_queues false other (marked other s).cells)
      (lined other (turned cells.released other (marked other s)))
      (turned cells.released other (marked other s)) released_rests released_rests in
      others_tidied task other (loosed other (marked other s)).cells loosed_rests
  handed_by_rests task (Some (Outside waker)) s rests = rests
  handed_by_rests task None s rests = rests

  told_rests : (task : Task) (s : Solo F T X) → Resting task s → Resting task (told s)
  told_rests task s rests =
      let on : Solo F T X = record s { notified = true } in
      chosen (Resting task) s.notified s (handed on) rests
      (chosen (Resting task) (is_full on)
      (handed_by (last_waker s.sleepers.wakers) (record on { sleepers = without_last s.sleepers })) on
      (handed_by_rests task (last_waker s.sleepers.wakers) (record on { sleepers = without_last s.sleepers }) rests) rests)

  scheduled_rests : (task other : Task) (s : Solo F T X) → Resting task s → Resting task (scheduled other s)
  scheduled_rests task other s rests =
      chosen (Resting task) (takes other s) (told (lined other s)) (lined other s) (told_rests task (lined other s) rests) rests

  pub woken_rests : (task : Task) (s : Solo F T X) → Resting task (woken task s)
  woken_rests task s =
      let marked : Solo F T X = turned cells.woken task s in
      let rests : Resting task marked = itself_woken task s.cells in
      chosen (Resting task) (asked cells.wake_queues false task s.cells) (scheduled task marked) marked
      (scheduled_rests task task marked rests) rests

  not_lined : (due : Bool) (task : Task) (s : Solo F T X) → due ≡ false → Prompt s → Prompt (lined_if due task s)
  not_lined true task s is p = absurd cc
  not_lined false task s is p = p

  leaving_prompt : (task : Task) (s : Solo F T X) → Prompt s → Prompt (leaving_woken task s)
  leaving_prompt task s p =
      not_lined (asked cells.release_queues false task (woken task s).cells) task (turned cells.released task (woken task s))
      (queues_not task (woken task s).cells (woken_rests task s))
      (scheduled_if_prompt (asked cells.wake_queues false task s.cells) task (turned cells.woken task s) p)

  future_prompt : (future : Option F) (task : Task) (s : Solo F T X) → Prompt s → Prompt (retracted_future future task s)
  future_prompt (Some future) task s p = p
  future_prompt None task s p = p

  retracted_by_prompt : (place : Option EntryPlace) (task : Task) (s : Solo F T X) → Prompt s → Prompt (retracted_by place task s)
  retracted_by_prompt (Some place) task s p = future_prompt (future_of (entry_in place s.table.entries)) task (out place s) p
  retracted_by_prompt None task s p = p

  pub retracted_prompt : (task : Task) (s : Solo F T X) → Prompt s → Prompt (retracted task s)
  retracted_prompt task s p =
      retracted_by_prompt (asked cells.retract_answer None task s.cells) task (turned cells.retracted task s) p

  line_drained_prompt : (first : Option Task) (s : Solo F T X) → Prompt s → Prompt (line_drained_by first s)
  line_drained_prompt (Some task) s p = retracted_prompt task s p
  line_drained_prompt None s p = p

  waking_prompt : (first : Option Task) (s : Solo F T X) → Prompt s → Prompt (drained_waking first s)
  waking_prompt (Some task) s p = leaving_prompt task s p
  waking_prompt None s p =
      line_drained_prompt (first_lined (shut_line s)) (first_out (shut_line s))
      (fewer_prompt (taken_from Urgent (shut_line s).lines) (shut_line s) (taken_fewer Urgent (shut_line s).lines) p)

  drained_by_prompt : (parts : Option (Option F × Option Task)) (s : Solo F T X) → Prompt s → Prompt (drained_by parts s)
  drained_by_prompt (Some parts) s p = p
  drained_by_prompt None s p = waking_prompt (slice_get s.leaving.items 0) (first_left s) p

  pub drained_prompt : (s : Solo F T X) → Prompt s → Prompt (drained s)
  drained_prompt s p = drained_by_prompt (first_parts s.going.entries) (first_going s) p

  leak_by_prompt : (first : Option Task) (s : Solo F T X) → Prompt s → Prompt (leak_woken_by first s)
  leak_by_prompt (Some task) s p = leaving_prompt task s p
  leak_by_prompt None s p = p

  pub leak_prompt : (s : Solo F T X) → Prompt s → Prompt (leak_woken s)
  leak_prompt s p = leak_by_prompt (slice_get s.leaving.items 0) (first_left s) p
