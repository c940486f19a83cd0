-- A run that goes on where nothing is due lies down, or is refused memory.
use Rattle.std.proofs.Common.{◌≡◌, ℕ, ◌<◌, true, false, List, [], ◌∷◌, length, Option, if◌then◌else◌, refl, sym, ap, subst, ◌∙◌}
use Rattle.std.specs.Prelude.{find}
use Rattle.executor_model.specs.declared.op.Op.{Op}
use Rattle.executor_model.specs.declared.op.Op.TheVariants as op
use Rattle.executor_model.specs.declared.op.RunPoll.{RunPoll}
use Rattle.executor_model.specs.declared.op.TickOp.TheVariants as tick_op
use Rattle.executor_model.specs.declared.op.TickOrRun.TheVariants as tick_or_run
use Rattle.executor_model.specs.declared.op.Waker.{Waker}
use Rattle.executor_model.specs.ActsOfRuns.{asleep}
use Rattle.executor_model.specs.World.{Done, World}
use Rattle.plain_scheduler.specs.State.{ARun, Choice, Due, Later, Plain, Refusal, Run, Taker}
use Rattle.plain_scheduler.specs.Lists.{any, or, without}
use Rattle.plain_scheduler.specs.Moves.{chosen, is_due, is_kept, looks}
use Rattle.plain_scheduler.specs.Takes as plain_takes
use Rattle.plain_scheduler.specs.Searches.{Search}
use Rattle.plain_scheduler.specs.Usual.{run_turns, vain_turns}
use Rattle.machine_roads.specs.View.{Output, wakes}
use Rattle.machine_roads.specs.Road.{Follows}
use Rattle.machine_roads.specs.Alone.{alone, is_resting}
use Rattle.machine_roads.specs.Refused.{OneMoreLies}
use Rattle.machine_roads.specs.Searching.{RunLiesAlike, unready}
use Rattle.machine_roads.specs.Turning.{TakesTurns}
use Rattle.machine_roads.proofs.Bedding.{lies_down_so}
use Rattle.machine_roads.proofs.Aside.{rests_keeps}
use Rattle.machine_roads.proofs.RunIdle.{IsQuiet, run_finds_none}
use Rattle.machine_roads.proofs.RunsStay.{runs_aside}
use Rattle.machine_roads.proofs.Stepping.{Way}

pub none_due : (ds : List Due) → any is_due ds ≡ false → ds ≡ []
none_due [] none = refl
none_due (d ∷ ds) none = absurd cc

module _ (p : ℕ) (x : RunPoll) (below : List Op) (end : Done) (under : is_resting below ≡ true) (rests : is_resting end.next ≡ true) where
  abbrev taker : Taker Waker
  taker = Run x.run x.waker

  -- here it searches
  abbrev at : Plain Output Waker → Search Output Waker
  at b = record { run = x.run; waker = x.waker; at = b }

  none_there : (r : Refusal) (b : Plain Output Waker) → b.due ≡ [] → vain_turns r (ARun x.run) b.lying ≡ run_turns r (at b)
  none_there r b quiet =
      ap
      (λ (ds : List Due). if any (is_kept x.run) ds then 0 else (if any is_due ds then 1 else vain_turns r (ARun x.run) b.lying))
      (sym quiet)

  -- there the plain scheduler takes nothing
  takes_none : (d : Choice) (b : Plain Output Waker) → b.due ≡ []
      → plain_takes.take wakes d taker b ≡ plain_takes.nothing wakes d taker b
  takes_none d b quiet =
      ap
      (λ (ds : List Due). or (find (chosen (looks d taker) b.due) ds)
      (λ e. plain_takes.takes wakes d taker e (record b { due = without (chosen (looks d taker) b.due) b.due }))
      (plain_takes.nothing wakes d taker b)) quiet

  -- it has lain down, as the plain scheduler's does where memory is refused so; once it lies only where it lies anew; and it took so many
  -- turns from where it began to search
  abbrev Lies : Choice → World → Plain Output Waker → Type 0
  Lies c w b =
      (r : Refusal) × (end.next ≡ below) × Follows end.world (plain_takes.take wakes (record c { refusal = r }) taker b)
      × ((plain_takes.take wakes (record c { refusal = r }) taker b).inside ≡ b.inside)
      × ((plain_takes.take wakes (record c { refusal = r }) taker b).runs ≡ b.runs)
      × (r ≡ Later → OneMoreLies b (plain_takes.take wakes (record c { refusal = r }) taker b))
      × TakesTurns (run_turns r (at b)) w end.world

  pub lies_so : (c : Choice) (w : World) (b : Plain Output Waker) → Follows w b → length b.lying < c.tells → any is_due b.due ≡ false
      → Way p end w (op.Tick (tick_op.Search (asleep x)) ∷ below) → Lies c w b
  lies_so c w b follows room none way =
      let quiet = none_due b.due none in
      let i = run_finds_none p below under end rests c x b quiet w follows way in
      let g =
      lies_down_so p below under end rests c (tick_or_run.Run x.run) x.waker x.poll IsQuiet
      (λ w z follows quiet way. run_finds_none p below under end rests c x z quiet w follows way) w i.world b i.follows room (λ can. can)
      quiet i.took i.way in
      let same = takes_none (record c { refusal = g.0 }) b quiet in (
        g.0,
        g.1.next,
        subst (Follows end.world) (sym same) g.1.follows,
        ap (λ (q : Plain Output Waker). q.inside) same ∙ g.1.inside,
        ap (λ (q : Plain Output Waker). q.runs) same
            ∙ rests_keeps (λ (q : Plain Output Waker). q.runs) runs_aside c g.0 (ARun x.run) x.waker b,
        λ later. subst (OneMoreLies b) (sym same) (g.2 later),
        subst (λ k. TakesTurns k w end.world) (none_there g.0 b quiet) g.3,
      )

-- behind its own future's poll
pub run_lies : (p : ℕ) (here : Option Waker) (below : List Op) (w : World) (q : Plain Output Waker) → is_resting below ≡ true
    → Follows w q → RunLiesAlike p here below w q
run_lies p here below w q under follows x c none room hints has rests =
    let g =
    lies_so p x below (alone p hints (unready p x below w)) under rests c w q follows room none
    (record { hints = hints; has = has; is = refl }) in (
      g.0,
      g.1,
      subst (λ k. TakesTurns k w (alone p hints (unready p x below w)).world)
          (sym (none_there p x below (alone p hints (unready p x below w)) under rests g.0 q (none_due q.due none))) g.6,
      g.2,
    )
