-- A sleeper is told, a task queued and a waker let go, as `next` says.
use Rattle.std.proofs.Common.{◌≡◌, ℕ, suc, Bool, true, false, not, [], ◌∷◌, Option, Some, None, refl, sym, ap, ◌∙◌}
use Rattle.executor_parts.specs.Sleepers.{last_waker, without_last}
use Rattle.call_steps.specs.declared.saw.Saw.TheVariants as saw
use Rattle.call_steps.specs.declared.step.CallStep.TheVariants as step
use Rattle.call_steps.specs.declared.step.table.QueueStep.TheVariants as queue_step
use Rattle.call_steps.specs.declared.step.tick.SleeperStep.TheVariants as sleeper_step
use Rattle.task_moves.specs.declared.moves.owed.Move.TheVariants as move
use Rattle.call_steps.specs.Next.{next_queue, next_sleeper}
use Rattle.call_steps.specs.Owing.{owed}
use Rattle.call_steps.specs.Sleeping.{tell}
use Rattle.call_steps.specs.Seeing.{owes, seen}
use Rattle.solo.specs.declared.names.Task.{Task}
use Rattle.solo.specs.declared.names.SoloWaker.{SoloWaker}
use Rattle.solo.specs.declared.names.SoloWaker.TheVariants.{Task as OfTask, Outside}
use Rattle.solo.specs.declared.owed.Told.{Told}
use Rattle.solo.specs.declared.solo.Solo.{Solo}
use Rattle.solo.specs.Cells.{choose, asked}
use Rattle.solo.specs.Cells as cells
use Rattle.solo.specs.Turns.{turned, swept, lined, lined_if, takes, is_full, outside, told, told_waker, handed, handed_by}
use Rattle.solo.specs.Turns.{schedule_answer, scheduled, scheduled_if, schedule_if_answer, let_go, let_go_answer}
use Rattle.solo_laws.specs.Going.{Going, Out}
use Rattle.solo_laws.specs.Seen.{handed_out}
use Rattle.solo_laws.specs.Done.{either, leaves, handed_back, swept_by}
use Rattle.solo_laws.specs.Goes.{goes}

-- so much deeper
abbrev pub two : ℕ → ℕ
two n = suc (suc n)

abbrev pub five : ℕ → ℕ
five n = two (two (suc n))

abbrev pub nine : ℕ → ℕ
nine n = five (two (two n))

module _ {F T X : Type 0} where
  -- nothing is left, or in hand of a sleeper, and a queue's refusal is handed out
  abbrev pub free : Going F T X → Going F T X
  free g = record g { left = []; sleeper = None; retracts = false }

  abbrev pub telling_in : Told X → Out F T X → Out F T X
  telling_in told out =
      record out { sleeper = either told.sleeper out.sleeper; returned = either told.returned out.returned }

  abbrev stirred : Solo F T X → Solo F T X
  stirred s = record s { notified = true }

  -- where the flag stands, nobody is told
  quietly_by : (a : Bool) (n : ℕ) (task : Task) (s : Solo F T X) (g : Going F T X)
      → goes (two n) (next_queue (queue_step.Append task) (seen a)) (leaves (stirred s) (free g))
      ≡ handed_back (choose a g.out.returned (Some task)) (leaves (stirred s) (free g))
  quietly_by true n task s g = refl
  quietly_by false n task s g = refl

  loosed_by : (b : Bool) (n : ℕ) (task : Task) (s : Solo F T X) (g : Going F T X) (r : Option Task)
      → handed_back r (swept_by task (goes (two (suc n)) (owed true task (owes b)) (leaves (stirred s) (free g))))
      ≡ handed_back r (leaves (swept task (lined_if b task (stirred s))) (free g))
  loosed_by true n task s g r =
      ap (λ (h : Going F T X). handed_back r (swept_by task h)) (quietly_by (takes task s) n task (lined task s) g)
  loosed_by false n task s g r = refl

  marked_by : (b : Bool) (n : ℕ) (task : Task) (s : Solo F T X) (g : Going F T X) (r : Option Task)
      → handed_back r
      (goes (five n) (owed true task (record (owes b) { next = Some move.Release }))
      (leaves (turned cells.woken task (stirred s)) (free g)))
      ≡ handed_back r
      (leaves
      (let m = lined_if b task (turned cells.woken task (stirred s)) in
      swept task (lined_if (asked cells.release_queues false task m.cells) task (turned cells.released task m)))
      (free g))
  marked_by true n task s g r =
      let m : Solo F T X = lined task (turned cells.woken task s) in
      ap (λ (h : Going F T X). handed_back r (goes (two (two n)) (step.Move move.Release task ∷ []) h))
      (quietly_by (takes task (turned cells.woken task s)) (two n) task m g)
      ∙ loosed_by (asked cells.release_queues false task m.cells) n task (turned cells.released task m)
      (handed_back (choose (takes task (turned cells.woken task s)) g.out.returned (Some task)) g) r
  marked_by false n task s g r =
      let m : Solo F T X = turned cells.woken task s in
      loosed_by (asked cells.release_queues false task m.cells) (suc n) task (turned cells.released task m) g r

  last_by : (w : Option (SoloWaker X)) (n : ℕ) (s : Solo F T X) (g : Going F T X)
      → goes (two (five n)) (next_sleeper sleeper_step.HandOut (handed_out w)) (record (free g) { solo = stirred s; sleeper = outside w })
      ≡ record (free g) {
        solo = handed_by w (stirred s);
        out = record g.out { sleeper = either (outside w) g.out.sleeper };
      }
  last_by (Some (OfTask task)) n s g =
      marked_by (asked cells.wake_queues false task s.cells) (suc n) task s g g.out.returned
  last_by (Some (Outside waker)) n s g = refl
  last_by None n s g = refl

  full_by : (b : Bool) (n : ℕ) (s : Solo F T X) (g : Going F T X)
      → goes (two (five n))
      (next_sleeper sleeper_step.HandOut (choose b (handed_out (last_waker s.sleepers.wakers)) saw.Nothing))
      (choose b
      (record (free g) {
        solo = record (stirred s) { sleepers = without_last s.sleepers };
        sleeper = outside (last_waker s.sleepers.wakers);
      })
      (leaves (stirred s) (free g)))
      ≡ record (free g) {
        solo = choose b (handed_by (last_waker s.sleepers.wakers) (record (stirred s) { sleepers = without_last s.sleepers })) (stirred s);
        out = record g.out { sleeper = either (choose b (outside (last_waker s.sleepers.wakers)) None) g.out.sleeper };
      }
  full_by true n s g = last_by (last_waker s.sleepers.wakers) n (record s { sleepers = without_last s.sleepers }) g
  full_by false n s g = refl

  told_by : (b : Bool) (n : ℕ) (g : Going F T X) → g.solo.notified ≡ b
      → goes (two (two (five n))) (next_sleeper sleeper_step.ExchangeFlag (seen (not b))) (leaves (stirred g.solo) (free g))
      ≡ record (free g) {
        solo = choose b g.solo (handed (stirred g.solo));
        out = record g.out {
          sleeper = either (choose b None (choose (is_full g.solo) (outside (last_waker g.solo.sleepers.wakers)) None)) g.out.sleeper;
        };
      }
  told_by true n g is = ap (λ (b : Bool). leaves (record g.solo { notified = b }) (free g)) (sym is)
  told_by false n g is = full_by (is_full g.solo) (suc n) g.solo g

  -- a sleeper is told
  pub tells : (n : ℕ) (g : Going F T X)
      → goes (two (nine n)) tell (free g)
      ≡ record (free g) { solo = told g.solo; out = record g.out { sleeper = either (told_waker g.solo) g.out.sleeper } }
  tells n g = told_by g.solo.notified (suc n) g refl

  appends_by : (a : Bool) (n : ℕ) (task : Task) (g : Going F T X)
      → goes (two (nine n)) (next_queue (queue_step.Append task) (seen a)) (free g)
      ≡ record (free g) {
        solo = choose a (told g.solo) g.solo;
        out = telling_in
            (choose a (record { sleeper = told_waker g.solo; returned = None }) (record { sleeper = None; returned = Some task }))
            g.out;
      }
  appends_by true n task g = tells n g
  appends_by false n task g = refl

  -- a task is queued, and a sleeper told
  pub appends : (n : ℕ) (task : Task) (g : Going F T X)
      → goes (two (two (nine n))) (step.Queue (queue_step.Append task) ∷ []) (free g)
      ≡ record (free g) { solo = scheduled task g.solo; out = telling_in (schedule_answer task g.solo) g.out }
  appends n task g = appends_by (takes task g.solo) (suc n) task (leaves (lined task g.solo) g)

  -- where it has to
  pub queues : (b : Bool) (n : ℕ) (task : Task) (g : Going F T X)
      → goes (two (two (nine n))) (owed true task (owes b)) (free g)
      ≡ record (free g) { solo = scheduled_if b task g.solo; out = telling_in (schedule_if_answer b task g.solo) g.out }
  queues true n task g = appends n task g
  queues false n task g = refl

  -- a waker goes
  pub lets_go : (n : ℕ) (task : Task) (g : Going F T X)
      → goes (two (two (two (nine n)))) (step.Move move.Release task ∷ []) (free g)
      ≡ record (free g) { solo = let_go task g.solo; out = telling_in (let_go_answer task g.solo) g.out }
  lets_go n task g =
      ap (swept_by task)
      (queues (asked cells.release_queues false task g.solo.cells) (suc n) task (leaves (turned cells.released task g.solo) g))

  alone_by : (sleeper : Option X) (returned : Option Task) (out : Out F T X)
      → record out { sleeper = either sleeper None; returned = either returned None }
      ≡ record out { sleeper = sleeper; returned = returned }
  alone_by (Some x) (Some task) out = refl
  alone_by (Some x) None out = refl
  alone_by None (Some task) out = refl
  alone_by None None out = refl

  -- where nothing was handed out before
  pub alone : (told : Told X) (out : Out F T X)
      → telling_in told (record out { sleeper = None; returned = None })
      ≡ record out { sleeper = told.sleeper; returned = told.returned }
  alone told out = alone_by told.sleeper told.returned out
