-- Wakes, and the calls of a handle that queue a task, go as `next` says.
use Rattle.std.proofs.Common.{◌≡◌, Bool, false, [], ◌∷◌, Option, Some, None, is_some, refl, ap, ◌∙◌}
use Rattle.call_steps.specs.declared.reply.Reply.TheVariants as reply
use Rattle.call_steps.specs.declared.step.CallStep.TheVariants as step
use Rattle.solo.specs.declared.names.SoloWaker.{SoloWaker}
use Rattle.solo.specs.declared.owed.Told.{Told}
use Rattle.solo.specs.declared.solo.Solo.{Solo}
use Rattle.solo.specs.Cells.{asked}
use Rattle.solo.specs.Cells as cells
use Rattle.solo.specs.Solo as solo
use Rattle.solo.specs.Turns.{turned, schedule_if_answer, let_go_answer}
use Rattle.solo_laws.specs.Going.{Going, Out, calm, quiet}
use Rattle.solo_laws.specs.Done.{either, swept_by}
use Rattle.solo_laws.specs.Goes.{goes}
use Rattle.solo_laws.specs.HandedOut.{ends}
use Rattle.solo_laws.specs.CallsGo.{WakesGo, UsesGo, ReleasesGo, CancelsGo, DetachesGo}
use Rattle.solo_laws.proofs.Stepping.Telling.{queues, lets_go, alone, telling_in}
use Rattle.solo_laws.proofs.Stepping.Paying.{calls, drops}

module _ {F T X : Type 0} where
  abbrev done : Going F T X → Going F T X
  done g = goes 19 (step.End reply.Done ∷ []) g

  pub wakes_go : (s : Solo F T X) → WakesGo s
  wakes_go s task =
      ap done (queues (asked cells.wake_queues false task s.cells) 6 task (calm (turned cells.woken task s)))
      ∙ ap (ends (solo.woken task s) reply.Done) (alone (solo.wake_answer task s) quiet)

  pub uses_go : (s : Solo F T X) → UsesGo s
  uses_go s task =
      ap (λ (g : Going F T X). done (swept_by task g))
      (queues (solo.wakes_or_closes task s) 6 task (calm (turned cells.released task (turned cells.woken task s))))
      ∙ ap (ends (solo.woken_and_released task s) reply.Done) (alone (solo.wake_and_release_answer task s) quiet)

  pub releases_go : (s : Solo F T X) → ReleasesGo s
  releases_go s task =
      ap done (lets_go 5 task (calm s)) ∙ ap (ends (solo.released task s) reply.Done) (alone (let_go_answer task s) quiet)

  called_by : (w : Option (SoloWaker X)) (out : Out F T X) → record out { awaiter = either w None } ≡ record out { awaiter = w }
  called_by (Some w) out = refl
  called_by None out = refl

  dropped_by : (o : Option T) (out : Out F T X) → record out { output = either o None } ≡ record out { output = o }
  dropped_by (Some o) out = refl
  dropped_by None out = refl

  pub cancels_go : (s : Solo F T X) → CancelsGo s
  cancels_go s task =
      let queued : Bool = is_some (asked cells.cancel_queues None task s.cells) in
      let awaiter : Option (SoloWaker X) = asked cells.cancel_calls None task s.cells in
      let told : Told X = schedule_if_answer queued task (turned cells.cancelled task s) in
      ap done (calls queued awaiter 4 task (calm (turned cells.cancelled task s)))
      ∙ ap (ends (solo.cancelled task s) reply.Done)
      (called_by awaiter (telling_in told quiet) ∙ ap (λ (out : Out F T X). record out { awaiter = awaiter }) (alone told quiet))

  pub detaches_go : (s : Solo F T X) → DetachesGo s
  detaches_go s task =
      let queued : Bool = is_some (asked cells.detach_queues None task s.cells) in
      let output : Option T = asked cells.detach_drops None task s.cells in
      let told : Told X = schedule_if_answer queued task (turned cells.detached task s) in
      ap (λ (g : Going F T X). done (swept_by task g)) (drops queued output 4 task (calm (turned cells.detached task s)))
      ∙ ap (ends (solo.detached task s) reply.Done)
      (dropped_by output (telling_in told quiet) ∙ ap (λ (out : Out F T X). record out { output = output }) (alone told quiet))
