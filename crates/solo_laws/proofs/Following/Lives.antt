-- How many more tasks than before a queue has accepted after a call, at most.
use Rattle.std.proofs.Common.{ℕ, suc, Bool, true, false, Option, Some, None, is_some}
use Rattle.executor_parts.specs.Sleepers.{last_waker, without_last}
use Rattle.solo.specs.declared.names.Task.{Task}
use Rattle.solo.specs.declared.names.SoloWaker.{SoloWaker}
use Rattle.solo.specs.declared.names.SoloWaker.TheVariants.{Task as OfTask, Outside}
use Rattle.solo.specs.declared.solo.Solo.{Solo}
use Rattle.solo.specs.Cells.{asked}
use Rattle.solo.specs.Cells as cells
use Rattle.solo.specs.Lines.{LinesValue}
use Rattle.solo.specs.Turns as turns
use Rattle.solo.specs.Solo as solo
use Rattle.solo_laws.specs.Road.{HasLife}
use Rattle.solo_laws.proofs.Prompt.{chosen}
use Rattle.solo_laws.proofs.Following.Lines.{younger, life_pushed}

pub two_fewer : (n : ℕ) (l : LinesValue) → HasLife (suc (suc n)) l → HasLife n l
two_fewer n l life = younger n l (younger (suc n) l life)

pub three_fewer : (n : ℕ) (l : LinesValue) → HasLife (suc (suc (suc n))) l → HasLife n l
three_fewer n l life = two_fewer n l (younger (suc (suc n)) l life)

module _ {F T X : Type 0} where
  abbrev pub Lives : ℕ → Solo F T X → Type 0
  Lives n s = HasLife n s.lines

  lined_lives : (n : ℕ) (t : Task) (s : Solo F T X) → Lives (suc n) s → Lives n (turns.lined t s)
  lined_lives n t s life = life_pushed t n (turns.mark_of t s) s.lines life

  pub lined_if_lives : (n : ℕ) (due : Bool) (t : Task) (s : Solo F T X) → Lives (suc n) s → Lives n (turns.lined_if due t s)
  lined_if_lives n due t s life = chosen (Lives n) due (turns.lined t s) s (lined_lives n t s life) (younger n s.lines life)

  handed_by_lives : (n : ℕ) (w : Option (SoloWaker X)) (s : Solo F T X) → Lives (suc (suc n)) s → Lives n (turns.handed_by w s)
  handed_by_lives n (Some (OfTask t)) s life =
      lined_if_lives n (asked cells.release_queues false t (turns.marked t s).cells) t
      (turns.turned cells.released t (turns.marked t s))
      (lined_if_lives (suc n) (asked cells.wake_queues false t s.cells) t (turns.turned cells.woken t s) life)
  handed_by_lives n (Some (Outside w)) s life = two_fewer n s.lines life
  handed_by_lives n None s life = two_fewer n s.lines life

  pub told_lives : (n : ℕ) (s : Solo F T X) → Lives (suc (suc n)) s → Lives n (turns.told s)
  told_lives n s life =
      let on : Solo F T X = record s { notified = true } in
      chosen (Lives n) s.notified s (turns.handed on) (two_fewer n s.lines life)
      (chosen (Lives n) (turns.is_full on)
      (turns.handed_by (last_waker s.sleepers.wakers) (record on { sleepers = without_last s.sleepers })) on
      (handed_by_lives n (last_waker s.sleepers.wakers) (record on { sleepers = without_last s.sleepers }) life)
      (two_fewer n s.lines life))

  pub scheduled_lives : (n : ℕ) (t : Task) (s : Solo F T X) → Lives (suc (suc (suc n))) s → Lives n (turns.scheduled t s)
  scheduled_lives n t s life =
      let next : Lives (suc (suc n)) (turns.lined t s) = lined_lives (suc (suc n)) t s life in
      chosen (Lives n) (turns.takes t s) (turns.told (turns.lined t s)) (turns.lined t s) (told_lives n (turns.lined t s) next)
      (two_fewer n (turns.lined t s).lines next)

  pub scheduled_if_lives : (n : ℕ) (due : Bool) (t : Task) (s : Solo F T X) → Lives (suc (suc (suc n))) s
      → Lives n (turns.scheduled_if due t s)
  scheduled_if_lives n due t s life =
      chosen (Lives n) due (turns.scheduled t s) s (scheduled_lives n t s life) (three_fewer n s.lines life)

  pub woken_lives : (n : ℕ) (t : Task) (s : Solo F T X) → Lives (suc (suc (suc n))) s → Lives n (solo.woken t s)
  woken_lives n t s life =
      scheduled_if_lives n (asked cells.wake_queues false t s.cells) t (turns.turned cells.woken t s) life

  pub cancelled_lives : (n : ℕ) (t : Task) (s : Solo F T X) → Lives (suc (suc (suc n))) s → Lives n (solo.cancelled t s)
  cancelled_lives n t s life =
      scheduled_if_lives n (is_some (asked cells.cancel_queues None t s.cells)) t (turns.turned cells.cancelled t s) life

  pub used_lives : (n : ℕ) (t : Task) (s : Solo F T X) → Lives (suc (suc (suc n))) s → Lives n (solo.woken_and_released t s)
  used_lives n t s life =
      scheduled_if_lives n (solo.wakes_or_closes t s) t (turns.turned cells.released t (turns.turned cells.woken t s)) life

  pub released_lives : (n : ℕ) (t : Task) (s : Solo F T X) → Lives (suc (suc (suc n))) s → Lives n (solo.released t s)
  released_lives n t s life =
      scheduled_if_lives n (asked cells.release_queues false t s.cells) t (turns.turned cells.released t s) life
