-- How many turns a tick or run has taken that finds nothing; what runs have counted, and the list of their queues, stay meanwhile.
use Rattle.std.proofs.Common.{◌≡◌, ℕ, zero, suc, ◌++◌, Bool, true, false, List, [], ◌∷◌, get_or, slice_set, Option, Some, None}
use Rattle.std.proofs.Common.{if◌then◌else◌}
use Rattle.std.proofs.Common.{refl, sym, ap, subst, ◌∙◌}
use Rattle.executor_parts.specs.Marks.{turn_after}
use Rattle.executor_model.specs.declared.call.Reply.{Reply}
use Rattle.executor_model.specs.declared.op.Hold.{Hold}
use Rattle.executor_model.specs.declared.op.Op.{Op}
use Rattle.executor_model.specs.declared.op.Op.TheVariants as op
use Rattle.executor_model.specs.declared.op.Sleeping.{Sleeping}
use Rattle.executor_model.specs.declared.op.TickOrRun.{TickOrRun}
use Rattle.executor_model.specs.declared.op.TickOrRun.TheVariants as tick_or_run
use Rattle.executor_model.specs.declared.op.Waker.{Waker}
use Rattle.executor_model.specs.declared.op.Waker.TheVariants.{Task, Outside}
use Rattle.executor_model.specs.Acts.{copied}
use Rattle.executor_model.specs.ActsOfSleepers.{pend_as, sleeper_goes}
use Rattle.executor_model.specs.Weights.{weigh}
use Rattle.executor_model.specs.World.{Done, Run, Ticker, World, no_run, runs_with}
use Rattle.plain_scheduler.specs.State.{AtOnce, Lying, Refusal, Who}
use Rattle.plain_scheduler.specs.Usual.{lies_uncalled, searches_by, vain_turns}
use Rattle.machine_roads.specs.Alone.{is_resting}
use Rattle.machine_roads.specs.Turning.{TakesTurns}
use Rattle.machine_roads.proofs.AloneKeeps.{due_push, due_resting}
use Rattle.machine_roads.proofs.Still.{Still, alone_still, stirs}
use Rattle.machine_roads.proofs.Stepping.{Way}

pub took_still : (n : ℕ) (w v x : World) → TakesTurns n w v → Still v x → TakesTurns n w x
took_still n w v x took still = record {
  turn = still.turn ∙ took.turn;
  counted = λ k. still.counted k ∙ took.counted k;
  listed = still.listed ∙ took.listed;
}

pub took_twice : (w v x : World) → TakesTurns 1 w v → TakesTurns 1 v x → TakesTurns 2 w x
took_twice w v x one two = record {
  turn = two.turn ∙ ap (λ n. turn_after n) one.turn;
  counted = λ k. two.counted k ∙ one.counted k;
  listed = two.listed ∙ one.listed;
}

-- a copy of a waker
pub copied_still : (a : Waker) (w : World) → Still w (copied w a)
copied_still (Task g) w = record { turn = refl; counted = λ k. refl; listed = refl }
copied_still (Outside x) w = record { turn = refl; counted = λ k. refl; listed = refl }

-- another place of who lies down leaves what runs have counted
pub placed_counted : (rs : List Run) (it : TickOrRun) (x : Ticker) (k : ℕ)
    → (get_or (runs_with rs it x) k no_run).counted ≡ (get_or rs k no_run).counted
placed_counted rs (tick_or_run.Tick t) x k = refl
placed_counted rs (tick_or_run.Run r) x k = by rs r k
  where
    by : (rs : List Run) (r k : ℕ)
        → (get_or (slice_set rs r (record (get_or rs r no_run) { place = x })) k no_run).counted ≡ (get_or rs k no_run).counted
    by [] r k = refl
    by (run ∷ rs) zero zero = refl
    by (run ∷ rs) zero (suc k) = refl
    by (run ∷ rs) (suc r) zero = refl
    by (run ∷ rs) (suc r) (suc k) = by rs r k

-- as many as who finds nothing takes, by what memory is refused, and whether it lay with a waker
module _ (who : Who) (ls : List (Lying Waker)) (w v : World) where
  pub lay_called : (r : Refusal) → lies_uncalled who ls ≡ false → TakesTurns (searches_by r) w v → TakesTurns (vain_turns r who ls) w v
  lay_called r none took = subst (λ n. TakesTurns n w v) (sym (ap (λ b. if b then 1 else searches_by r) none)) took

  pub lay_uncalled : (r : Refusal) → lies_uncalled who ls ≡ true → TakesTurns 1 w v → TakesTurns (vain_turns r who ls) w v
  lay_uncalled r lay took = subst (λ n. TakesTurns n w v) (sym (ap (λ b. if b then 1 else searches_by r) lay)) took

  pub refused_at_once : TakesTurns 1 w v → TakesTurns (vain_turns AtOnce who ls) w v
  refused_at_once took = subst (λ n. TakesTurns n w v) (sym (by (lies_uncalled who ls))) took
    where
      by : (b : Bool) → ◌≡◌ {A = ℕ} (if b then 1 else 1) 1
      by true = refl
      by false = refl

-- its waker goes, and it is answered
module _ (p : ℕ) (below : List Op) (under : is_resting below ≡ true) (end : Done) where
  pub light : (os : List Op) → weigh stirs os ≡ 0 → (v : World) → Way p end v (os ++ below) → Still v end.world
  light os none v way =
      subst (λ (d : Done). Still v d.world) way.is
      (alone_still p way.hints v (os ++ below) (due_push stirs os below none (due_resting stirs below under)))

  pub answers_still : (o : Option Sleeping) (it : TickOrRun) (v : World) → Way p end v ((sleeper_goes o ++ pend_as it) ++ below)
      → Still v end.world
  answers_still o it v way = light (sleeper_goes o ++ pend_as it) (none o) v way
    where
      none : (o : Option Sleeping) → weigh stirs (sleeper_goes o ++ pend_as it) ≡ 0
      none None = refl
      none (Some s) = by s.waker
        where
          by : (a : Waker) → weigh stirs (sleeper_goes (Some (record s { waker = a })) ++ pend_as it) ≡ 0
          by (Task g) = refl
          by (Outside x) = refl

  pub ends_still : (r : Reply) (held : Hold) (v : World) → Way p end v (op.End r held ∷ below) → Still v end.world
  ends_still r held v way = light (op.End r held ∷ []) refl v way
