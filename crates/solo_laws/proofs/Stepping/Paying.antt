-- Who awaits a task is called, and an output dropped, as `next` says.
use Rattle.std.proofs.Common.{◌≡◌, ℕ, suc, Bool, true, false, [], ◌∷◌, Option, Some, None, is_some, refl, ap, ◌∙◌}
use Rattle.call_steps.specs.declared.step.CallStep.TheVariants as step
use Rattle.call_steps.specs.declared.step.handle.HandleStep.TheVariants as handle_step
use Rattle.call_steps.specs.declared.step.user.UserStep.TheVariants as user_step
use Rattle.call_steps.specs.Owing.{owed}
use Rattle.call_steps.specs.Seeing.{owes}
use Rattle.solo.specs.declared.names.Task.{Task}
use Rattle.solo.specs.declared.names.SoloWaker.{SoloWaker}
use Rattle.solo.specs.declared.names.SoloWaker.TheVariants.{Task as OfTask, Outside}
use Rattle.solo.specs.Turns.{scheduled_if, schedule_if_answer}
use Rattle.solo_laws.specs.Going.{Going}
use Rattle.solo_laws.specs.Seen.{notify}
use Rattle.solo_laws.specs.Done.{either}
use Rattle.solo_laws.specs.Goes.{goes}
use Rattle.solo_laws.proofs.Stepping.Telling.{two, nine, free, telling_in, appends}

module _ {F T X : Type 0} where
  notified : (n : ℕ) (task : Task) (w : SoloWaker X) (g : Going F T X)
      → goes (nine n) (step.Handle (handle_step.Notify task false) ∷ []) (record (free g) { awaiter = Some w })
      ≡ record (free g) { awaiter = None; out = record g.out { awaiter = Some w } }
  notified n task (OfTask t) g = refl
  notified n task (Outside x) g = refl

  -- a task is queued where it has to be, and who awaits it called
  pub calls : (q : Bool) (w : Option (SoloWaker X)) (n : ℕ) (task : Task) (g : Going F T X)
      → goes (two (two (two (nine n)))) (owed true task (record (owes q) { awaiter = notify (is_some w) }))
      (record (free g) { awaiter = w })
      ≡ record (free g) {
        solo = scheduled_if q task g.solo;
        awaiter = None;
        out = record (telling_in (schedule_if_answer q task g.solo) g.out) { awaiter = either w g.out.awaiter };
      }
  calls true (Some w) n task g =
      ap (goes (suc (two (two (nine n)))) (step.Handle (handle_step.Notify task false) ∷ []))
      (appends (two n) task (record g { awaiter = Some w }))
      ∙ notified (suc (two (two n))) task w
      (record g { solo = scheduled_if true task g.solo; out = telling_in (schedule_if_answer true task g.solo) g.out })
  calls true None n task g = appends (two n) task (record g { awaiter = None })
  calls false (Some w) n task g = notified (two (two (two n))) task w g
  calls false None n task g = refl

  -- a task is queued where it has to be, and an output dropped
  pub drops : (q : Bool) (o : Option T) (n : ℕ) (task : Task) (g : Going F T X)
      → goes (two (two (two (nine n)))) (owed true task (record (owes q) { drop_output = is_some o })) (record (free g) { output = o })
      ≡ record (free g) {
        solo = scheduled_if q task g.solo;
        output = None;
        out = record (telling_in (schedule_if_answer q task g.solo) g.out) { output = either o g.out.output };
      }
  drops true (Some o) n task g =
      ap (goes (suc (two (two (nine n)))) (step.User (user_step.BeginDropOutput task) ∷ []))
      (appends (two n) task (record g { output = Some o }))
  drops true None n task g = appends (two n) task (record g { output = None })
  drops false (Some o) n task g = refl
  drops false None n task g = refl
