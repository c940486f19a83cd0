-- After any list of calls a queued task has someone who is told.
use Rattle.std.proofs.Common.{◌≡◌, inl, inr, ℕ, true, false, List, [], ◌∷◌, length, Option, Some, None}
use Rattle.std.proofs.Common.{is_some, sym, ap, subst, ◌∙◌, arith}
use Rattle.executor_parts.specs.Sleepers.{flag_of}
use Rattle.task_moves.specs.declared.local_task.answers.Back.{Back}
use Rattle.task_moves.specs.declared.local_task.answers.Back.TheVariants.{Ready, Pending}
use Rattle.solo.specs.declared.names.Kind.{Kind}
use Rattle.solo.specs.declared.names.Task.{Task}
use Rattle.solo.specs.declared.owed.Lent.{Lent}
use Rattle.solo.specs.declared.solo.Solo.{Solo}
use Rattle.solo.specs.declared.cells.After.{After}
use Rattle.solo.specs.declared.cells.After.TheVariants.{Queue, Rest, Drop as DropFuture, Unknown}
use Rattle.solo.specs.Cells.{asked}
use Rattle.solo.specs.Cells as cells
use Rattle.solo.specs.Turns as turns
use Rattle.solo.specs.Turns.{turned}
use Rattle.solo.specs.Solo as solo
use Rattle.solo_laws.specs.Calls.{Call, Does, Course, Spawn, SpawnRefused, Take, Settle}
use Rattle.solo_laws.specs.Calls.{Finish, Wake, WakeAndRelease, Hold, Release, Cancel, Detach}
use Rattle.solo_laws.specs.Calls.{Poll, Retract, MakeTick, TickTake, TickSearch}
use Rattle.solo_laws.specs.Calls.{TickSleep, TickLeave, MakeRun, RunBegin, RunTake, RunSearch}
use Rattle.solo_laws.specs.Calls.{RunLeave, RunDrain, Leak, LeakNext, Close, Drain}
use Rattle.solo_laws.specs.Sleeping.{SomeoneIsTold}
use Rattle.solo_laws.proofs.Sleepers.{flag_says}
use Rattle.solo_laws.proofs.Prompt.{Prompt, awake_prompt, told_awake, scheduled_prompt, scheduled_if_prompt, let_go_prompt}
use Rattle.solo_laws.proofs.Prompt.{left_prompt as entry_left, begun_prompt, popped_prompt}
use Rattle.solo_laws.proofs.Ticks as ticks
use Rattle.solo_laws.proofs.Runs as runs
use Rattle.solo_laws.proofs.Ending as ending

module _ {F T X : Type 0} where
  taken_by : (first : Option Task) (s : Solo F T X) → Prompt s → Prompt (solo.taken_by first s)
  taken_by None s p = p
  taken_by (Some task) s p = begun_prompt task (turns.told s) (awake_prompt (turns.told s) (told_awake s p.0))

  pending_by : (after : After) (lent : Lent) (future : F) (s : Solo F T X) → Prompt s → Prompt (solo.pending_by after lent future s)
  pending_by DropFuture lent future s p = p
  pending_by Unknown lent future s p = p
  pending_by Rest lent future s p = p
  pending_by Queue lent future s p = scheduled_prompt lent.task (solo.put_back lent future s) p

  settled : (lent : Lent) (back : Back F T) (s : Solo F T X) → Prompt s → Prompt (solo.settled lent back s)
  settled lent (Ready output) s p = entry_left lent.place s p
  settled lent (Pending future) s p =
      pending_by (solo.after_poll lent s) lent future (turned (cells.ended_pending lent.place) lent.task s) p

  kept : (call : Call F T X) (old new : Solo F T X) → Does call old new → Prompt old → Prompt new
  kept (Spawn mark future) old new does p =
      let spawned = does.1 in
      subst Prompt (sym spawned.2) (scheduled_prompt does.0.task spawned.0 (subst Prompt (sym spawned.1.1) p))
  kept (SpawnRefused mark future) old new does p = subst Prompt (sym does.1.1) p
  kept Take old new is p = subst Prompt (sym is) (taken_by (solo.sought old) (solo.popped old) (popped_prompt old p))
  kept (Settle lent back) old new is p = subst Prompt (sym is) (settled lent back old p)
  kept (Finish lent) old new is p = subst Prompt (sym is) (entry_left lent.place old p)
  kept (Wake task) old new is p =
      subst Prompt (sym is) (scheduled_if_prompt (asked cells.wake_queues false task old.cells) task (turned cells.woken task old) p)
  kept (WakeAndRelease task) old new is p =
      subst Prompt (sym is)
      (scheduled_if_prompt (solo.wakes_or_closes task old) task (turned cells.released task (turned cells.woken task old)) p)
  kept (Hold task) old new is p = subst Prompt (sym is) p
  kept (Release task) old new is p = subst Prompt (sym is) (let_go_prompt task old p)
  kept (Cancel task) old new is p =
      subst Prompt (sym is)
      (scheduled_if_prompt (is_some (asked cells.cancel_queues None task old.cells)) task (turned cells.cancelled task old) p)
  kept (Detach task) old new is p =
      subst Prompt (sym is)
      (scheduled_if_prompt (is_some (asked cells.detach_queues None task old.cells)) task (turned cells.detached task old) p)
  kept (Poll task waker) old new is p = subst Prompt (sym is) p
  kept (Retract task) old new is p = subst Prompt (sym is) (ending.retracted_prompt task old p)
  kept MakeTick old new (inl is) p = subst Prompt (sym is) p
  kept MakeTick old new (inr is) p = subst Prompt (sym is) p
  kept (TickTake ticker waker) old new is p = subst Prompt (sym is) (ticks.taken_prompt ticker waker old p)
  kept (TickSearch ticker) old new is p = subst Prompt (sym is) (ticks.searched_prompt ticker old p)
  kept (TickSleep ticker waker) old new is p = subst Prompt (sym is) (ticks.slept_prompt ticker waker old p)
  kept (TickLeave ticker) old new is p = subst Prompt (sym is) (ticks.left_prompt ticker old p)
  kept MakeRun old new (inl is) p = subst Prompt (sym is) p
  kept MakeRun old new (inr is) p = subst Prompt (sym is) p
  kept (RunBegin runner) old new is p = subst Prompt (sym is) p
  kept (RunTake runner ticker waker start) old new is p = subst Prompt (sym is) (runs.took_prompt runner ticker waker start old p)
  kept (RunSearch runner ticker start) old new is p = subst Prompt (sym is) (runs.searched_prompt runner ticker start old p)
  kept (RunLeave runner) old new is p = subst Prompt (sym is) p
  kept (RunDrain leaving) old new is p = subst Prompt (sym is) (runs.drained_prompt leaving old p)
  kept Leak old new is p = subst Prompt (sym is) p
  kept LeakNext old new is p = subst Prompt (sym is) (ending.leak_prompt old p)
  kept Close old new is p = subst Prompt (sym is) p
  kept Drain old new is p = subst Prompt (sym is) (ending.drained_prompt old p)

  course : (calls : List (Call F T X)) (first last : Solo F T X) → Course calls first last → Prompt first → Prompt last
  course [] first last is p = subst Prompt (sym is) p
  course (call ∷ calls) first last does p = course calls does.0 last does.2 (kept call first does.0 does.1 p)

  new_prompt : (limit : ℕ) (kind : Kind) (s : Solo F T X) → solo.IsNew limit kind s → Prompt s
  new_prompt limit kind s new =
      let none : length s.sleepers.wakers ≡ 0 = ap (λ sleepers. length sleepers.wakers) new.sleepers in
      let flag : flag_of s.sleepers ≡ true = ap flag_of new.sleepers in
      ((omega (arith, none), new.notified ∙ sym flag), λ _. new.notified)

  pub told_after : (limit : ℕ) (kind : Kind) (calls : List (Call F T X)) (first last : Solo F T X) → solo.IsNew limit kind first
      → Course calls first last → SomeoneIsTold last
  told_after limit kind calls first last new does =
      let p = course calls first last does (new_prompt limit kind first new) in
      λ some. flag_says (length last.sleepers.wakers) last.sleepers.count (sym p.0.1 ∙ p.1 some)
