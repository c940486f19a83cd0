-- What leaves the turn, the list of queues and what runs have counted as they are.
use Rattle.std.proofs.Common.{◌≡◌, ◌≤◌, ◌+◌, ◌++◌, ℕ, List, true, refl, ◌∙◌, arith}
use Rattle.executor_model.specs.declared.op.Op.{Op}
use Rattle.executor_model.specs.declared.op.Op.TheVariants as op
use Rattle.executor_model.specs.declared.op.ListOp.TheVariants as list_op
use Rattle.executor_model.specs.declared.op.RunOp.TheVariants as run_op
use Rattle.executor_model.specs.declared.op.TickOp.TheVariants as tick_op
use Rattle.executor_model.specs.declared.op.TickOrRun.{TickOrRun}
use Rattle.executor_model.specs.declared.op.TickOrRun.TheVariants as tick_or_run
use Rattle.executor_model.specs.declared.step.Hint.{Hint}
use Rattle.executor_model.specs.declared.step.UserEnd.{UserEnd}
use Rattle.executor_model.specs.Steps.{react}
use Rattle.executor_model.specs.World.{World, done, run_of}
use Rattle.machine_roads.specs.Alone.{alone, is_resting}
use Rattle.machine_roads.proofs.AloneKeeps.{calls_user, due, due_less}
use Rattle.machine_roads.proofs.AloneKeeps as keeps
use Rattle.machine_roads.proofs.Counted.{alone_counts, counts, reacts_count, who_counts}
use Rattle.machine_roads.proofs.Enlisting.{alone_lists, enlists, reacts_list}
use Rattle.machine_roads.proofs.Seeking.{alone_turn, reacts_turn, seeks}

pub record Still (w v : World) : Type 0 where
  pub turn : v.urgent_turns ≡ w.urgent_turns
  pub counted : (k : ℕ) → (run_of v k).counted ≡ (run_of w k).counted
  pub listed : v.listed ≡ w.listed

pub still_here : (w : World) → Still w w
still_here w = record { turn = refl; counted = λ k. refl; listed = refl }

pub still_on : (u w x : World) → Still u w → Still w x → Still u x
still_on u w x one two = record {
  turn = two.turn ∙ one.turn;
  counted = λ k. two.counted k ∙ one.counted k;
  listed = two.listed ∙ one.listed;
}

-- it takes a turn, counts, or changes the list, or leads to what does
abbrev pub stirs : Op → ℕ
stirs o = seeks o + enlists o

who_few : (who : TickOrRun) → who_counts who ≤ 1
who_few (tick_or_run.Tick t) = omega arith
who_few (tick_or_run.Run r) = omega arith

pub counts_seek : (o : Op) → counts o ≤ seeks o
counts_seek (op.Tick (tick_op.Search s)) = who_few s.who
counts_seek (op.Tick (tick_op.Look s look)) = who_few s.who
counts_seek (op.Tick (tick_op.CopyWaker s)) = who_few s.who
counts_seek (op.Tick (tick_op.FallAsleep s)) = who_few s.who
counts_seek (op.List (list_op.LockRead x)) = omega arith
counts_seek (op.Steal o) = omega arith
counts_seek (op.Run (run_op.TakeTurn x)) = omega arith
counts_seek (op.Run (run_op.SearchCommon x look)) = omega arith
counts_seek (op.Run (run_op.LookOwn x at left)) = omega arith
counts_seek o = omega arith

pub alone_still : (p : ℕ) (hints : List Hint) (w : World) (os : List Op) → due stirs os ≡ 0
    → Still w (alone p hints (done w os)).world
alone_still p hints w os none = record {
  turn = alone_turn p hints w os (due_less calls_user seeks stirs (λ o. omega arith) os none);
  counted =
      alone_counts p hints w os
      (due_less calls_user counts stirs (λ o. omega (arith, counts_seek o)) os none);
  listed = alone_lists p hints w os (due_less calls_user enlists stirs (λ o. omega arith) os none);
}

pub due_push : (xs ys : List Op) → due stirs xs ≡ 0 → due stirs ys ≡ 0 → due stirs (xs ++ ys) ≡ 0
due_push xs ys none below = keeps.due_to_append calls_user stirs xs ys none below

pub due_resting : (os : List Op) → is_resting os ≡ true → due stirs os ≡ 0
due_resting os rests = keeps.due_resting stirs os rests

-- as user code ends
pub reacts_still : (p : ℕ) (o : Op) (u : UserEnd) (w : World) → Still w (react p o u w).world
reacts_still p o u w = record {
  turn = reacts_turn p o u w;
  counted = reacts_count p o u w;
  listed = reacts_list p o u w;
}
