-- Behind a take the turn, the list of queues and what runs have counted stay as they are, till user code is called: what is taken up is
-- polled or dropped first.
use Rattle.std.proofs.Common.{◌≡◌, ◌≤◌, ◌+◌, ◌++◌, ◌==◌, ℕ, zero, suc, List, [], ◌∷◌, Bool, true, false, not, refl, subst, arith}
use Rattle.task_moves.specs.declared.moves.owed.Move.TheVariants as move
use Rattle.task_moves.specs.declared.moves.state.State.{State}
use Rattle.task_moves.specs.Moves as moves
use Rattle.executor_model.specs.declared.op.Op.{Op}
use Rattle.executor_model.specs.declared.op.Op.TheVariants as op
use Rattle.executor_model.specs.declared.op.RunPoll.{RunPoll}
use Rattle.executor_model.specs.declared.op.SleeperOp.TheVariants as sleeper_op
use Rattle.executor_model.specs.declared.op.Steal.{Steal}
use Rattle.executor_model.specs.declared.op.StealOp.{StealOp}
use Rattle.executor_model.specs.declared.op.StealOp.TheVariants as steal_op
use Rattle.executor_model.specs.declared.op.TableOp.TheVariants as table_op
use Rattle.executor_model.specs.declared.op.Then.{Then}
use Rattle.executor_model.specs.declared.op.TickOrRun.{TickOrRun}
use Rattle.executor_model.specs.declared.op.UserOp.TheVariants as user_op
use Rattle.executor_model.specs.declared.step.Hint.{Hint}
use Rattle.executor_model.proofs.Steps.Parts.{turns}
use Rattle.executor_model.specs.Acts.{move_by, told_of}
use Rattle.executor_model.specs.ActsOfRuns as runs
use Rattle.executor_model.specs.ActsOfSleepers.{found_by}
use Rattle.executor_model.specs.Carried.{owed_ops}
use Rattle.executor_model.specs.Doing.{act, steal_act}
use Rattle.executor_model.specs.Steps.{waits}
use Rattle.executor_model.specs.Weights.{weigh}
use Rattle.executor_model.specs.World.{Asleep, Awake, Done, Left, Ticker, World, among, run_of, task}
use Rattle.machine_roads.specs.Alone.{Has, is_outside, is_resting}
use Rattle.machine_roads.proofs.AloneKeeps.{Keeps, alone_keeps, due_to, due_to_push}
use Rattle.machine_roads.proofs.Counted.{counts_stay, counts_then, may_count, none_may_count, then_of}
use Rattle.machine_roads.proofs.Enlisting.{enlists, enlists_next, lists_stay}
use Rattle.machine_roads.proofs.Seeking.{no_turn, seeks, seeks_next, turn_kept}
use Rattle.machine_roads.proofs.Still.{Still, counts_seek, stirs, still_here, still_on}
use Rattle.machine_roads.proofs.Stepping.{Way}

-- user code is called, or what leads to that at once
abbrev pub takes_up : Op → Bool
takes_up (op.Move move.TakeUp f) = true
takes_up (op.Table (table_op.TakeToPoll f)) = true
takes_up (op.Table (table_op.TakeToDrop f)) = true
takes_up (op.User (user_op.CallOutside x)) = false
takes_up (op.User o) = true
takes_up _ = false

abbrev pub then_stirs : Then → ℕ
then_stirs (Then.Found f) = 1
then_stirs (Then.StealPlain f) = 0
then_stirs (Then.Run f) = 0
then_stirs (Then.Walk at left) = 1

-- as `stirs`, but for a steal behind which the run goes on with what it has found and counted
abbrev pub stirs_more : Op → ℕ
stirs_more (op.Steal o) = then_stirs (then_of o)
stirs_more o = stirs o

abbrev pub due_taking : List Op → ℕ
due_taking os = due_to takes_up stirs_more os

then_few : (t : Then) → then_stirs t ≤ 1
then_few (Then.Found f) = omega arith
then_few (Then.StealPlain f) = omega arith
then_few (Then.Run f) = omega arith
then_few (Then.Walk at left) = omega arith

more_few : (o : Op) → stirs_more o ≤ stirs o
more_few (op.Steal o) = omega (arith, then_few (then_of o))
more_few o = omega arith

-- each step

still_act : (p : ℕ) (h : Hint) (o : Op) (w : World) → turns o ≡ false → may_count o ≡ false → enlists o ≡ 0
    → Still w (act p h o w).world
still_act p h o w turns counts lists = record {
  turn = turn_kept p h o w turns;
  counted = counts_stay p h o w counts;
  listed = lists_stay p h o w lists;
}

found_none : (t : Then) → then_stirs t ≡ 0 → counts_then t ≡ false
found_none (Then.Found f) none = absurd (omega (arith, none))
found_none (Then.StealPlain f) none = refl
found_none (Then.Run f) none = refl
found_none (Then.Walk at left) none = refl

weigh_both : (os : List Op) → weigh stirs os ≡ weigh seeks os + weigh enlists os
weigh_both [] = refl
weigh_both (o ∷ os) = omega (arith, weigh_both os)

weigh_few : (os : List Op) → weigh stirs_more os ≤ weigh stirs os
weigh_few [] = omega arith
weigh_few (o ∷ os) = omega (arith, more_few o, weigh_few os)

module _ (os : List Op) (below : due_taking os ≡ 0) where
  taken_due : (t : Then) (w : World) (x : RunPoll) → then_stirs t ≡ 0 → due_taking ((runs.stolen t w x).next ++ os) ≡ 0
  taken_due (Then.Found f) w x none = absurd (omega (arith, none))
  taken_due (Then.StealPlain f) w x none = omega (arith, below)
  taken_due (Then.Run f) w x none = by ((run_of w x.run).taken + 1 == 200)
    where
      by : (b : Bool) → due_taking ((runs.run_by b w x f).next ++ os) ≡ 0
      by true = refl
      by false = refl
  taken_due (Then.Walk at left) w x none = absurd (omega (arith, none))

  refused_due : (t : Then) (w : World) (x : RunPoll) (f : ℕ) → then_stirs t ≡ 0
      → due_taking ((runs.put_refused t w x f).next ++ os) ≡ 0
  refused_due (Then.Found g) w x f none = absurd (omega (arith, none))
  refused_due (Then.StealPlain g) w x f none = omega (arith, taken_due (Then.StealPlain g) w x none)
  refused_due (Then.Run g) w x f none = omega (arith, taken_due (Then.Run g) w x none)
  refused_due (Then.Walk at left) w x f none = absurd (omega (arith, none))

  length_due : (n : ℕ) (w : World) (s : Steal) → then_stirs s.then ≡ 0 → due_taking ((runs.steal_length_by n w s).next ++ os) ≡ 0
  length_due zero w s none = taken_due s.then w s.poll none
  length_due (suc n) w s none = omega (arith, none, below)

  by_due : (n : ℕ) (w : World) (s : Steal) → then_stirs s.then ≡ 0 → due_taking ((runs.steal_by n w s).next ++ os) ≡ 0
  by_due zero w s none = taken_due s.then w s.poll none
  by_due (suc n) w s none = omega (arith, none, below)

  take_due : (fs : List ℕ) (w : World) (s : Steal) (more : ℕ) → then_stirs s.then ≡ 0
      → due_taking ((runs.steal_take_by fs w s more).next ++ os) ≡ 0
  take_due [] w s more none = taken_due s.then w s.poll none
  take_due (f ∷ fs) w s more none = omega (arith, none, below)

  put_due : (b : Bool) (p : ℕ) (w : World) (s : Steal) (more f : ℕ) → then_stirs s.then ≡ 0
      → due_taking ((runs.steal_put_by b p w s more f).next ++ os) ≡ 0
  put_due true p w s more f none = by_due more (runs.kept_by p w s.poll.run f) s none
  put_due false p w s more f none = refused_due s.then w s.poll f none

  steal_due : (p : ℕ) (o : StealOp) (w : World) → then_stirs (then_of o) ≡ 0 → due_taking ((steal_act p o w).next ++ os) ≡ 0
  steal_due p (steal_op.Length s) w none = length_due _ w s none
  steal_due p (steal_op.OwnLength s n) w none = by_due _ w s none
  steal_due p (steal_op.Take s more) w none = take_due _ w s more none
  steal_due p (steal_op.Put s more f) w none = put_due _ p w s more f none

  -- once it has woken up and told a sleeper
  pub found_due : (t : Ticker) (r : TickOrRun) (more : List Op) → due_taking (more ++ os) ≡ 0
      → due_taking ((found_by t r (op.Sleeper sleeper_op.ExchangeFlag ∷ []) ++ more) ++ os) ≡ 0
  found_due Awake r more none = omega (arith, none)
  found_due (Asleep n) r more none = omega (arith, none)
  found_due Left r more none = omega (arith, none)

  pub counted_due : (b : Bool) (w : World) (x : RunPoll) (f : ℕ) → due_taking ((runs.counted_by b w x f).next ++ os) ≡ 0
  counted_due true w x f = omega (arith, below)
  counted_due false w x f =
      let v = runs.counted_to w x.run ((run_of w x.run).counted + 1) in
      taken_due (Then.Run f) v x refl

-- an entered future that is taken up is polled or dropped
owed_due : (b there : Bool) (f : ℕ) (s : State) (os : List Op) → there ≡ true
    → due_taking (owed_ops there f (moves.take_up_by b s).owed ++ os) ≡ 0
owed_due true true f s os entered = refl
owed_due true false f s os entered = absurd cc
owed_due false there f s os entered = refl

up_due : (p : ℕ) (w : World) (f : ℕ) (os : List Op) → among f w.table ≡ true
    → due_taking ((move_by true move.TakeUp p w f).next ++ os) ≡ 0
up_due p w f os entered = by (task w f).closed
  where
    by : (b : Bool) → due_taking (owed_ops (among f (told_of false (not b) move.TakeUp p w f).table) f
        (moves.take_up_by b (task w f)).owed ++ os) ≡ 0
    by true = owed_due true (among f w.table) f (task w f) os entered
    by false = owed_due false (among f w.table) f (task w f) os entered

rest_due : (p : ℕ) (h : Hint) (o : Op) (os : List Op) (w : World) → waits o ≡ false → Has w o → due_taking (o ∷ os) ≡ 0
    → due_taking ((act p h o w).next ++ os) ≡ 0
rest_due p h (op.Move move.TakeUp f) os w goes has none = up_due p w f os has.1.1
rest_due p h (op.Table (table_op.TakeToPoll f)) os w goes has none = refl
rest_due p h (op.Table (table_op.TakeToDrop f)) os w goes has none = refl
rest_due p h (op.User (user_op.CallOutside x)) os w goes has none = absurd cc
rest_due p h (op.User o) os w goes has none = refl
rest_due p h (op.Steal o) os w goes has none = steal_due os (omega (arith, none)) p o w (omega (arith, none))
rest_due p h o os w goes has none =
    let next = (act p h o w).next in
    due_to_push takes_up stirs_more next os
    (omega (
      arith,
      weigh_few next,
      weigh_both next,
      seeks_next p h o w goes (omega (arith, none)),
      enlists_next p h o w (omega (arith, none)),
    ))
    (omega (arith, none))

same_due : (p : ℕ) (h : Hint) (o : Op) (os : List Op) (w : World) → due_taking (o ∷ os) ≡ 0 → Still w (act p h o w).world
same_due p h (op.Move move.TakeUp f) os w none = still_act p h (op.Move move.TakeUp f) w refl refl refl
same_due p h (op.Table (table_op.TakeToPoll f)) os w none = still_act p h (op.Table (table_op.TakeToPoll f)) w refl refl refl
same_due p h (op.Table (table_op.TakeToDrop f)) os w none = still_act p h (op.Table (table_op.TakeToDrop f)) w refl refl refl
same_due p h (op.User o) os w none = still_act p h (op.User o) w refl refl refl
same_due p h (op.Steal o) os w none =
    still_act p h (op.Steal o) w refl (found_none (then_of o) (omega (arith, none))) refl
same_due p h o os w none =
    still_act p h o w (no_turn o (omega (arith, none)))
    (none_may_count o (omega (arith, none, counts_seek o)))
    (omega (arith, none))

no_stop : (o : Op) → is_outside o ≡ true → takes_up o ≡ false
no_stop (op.User (user_op.CallOutside x)) is = refl
no_stop o is = absurd cc

taking : Keeps takes_up stirs_more Has Still
taking = record {
  here = still_here;
  on = still_on;
  rest = rest_due;
  same = λ p h o os w goes has none. same_due p h o os w none;
  outside = no_stop;
}

pub taken_still : (p : ℕ) (end : Done) (w : World) (os : List Op) → due_taking os ≡ 0 → Way p end w os → Still w end.world
taken_still p end w os none way =
    subst (λ (d : Done). Still w d.world) way.is
    (alone_keeps takes_up stirs_more Has Still taking p way.hints w os way.has none)

pub taking_resting : (os : List Op) → is_resting os ≡ true → due_taking os ≡ 0
taking_resting [] rests = refl
taking_resting (op.User (user_op.CallOutside x) ∷ os) rests = absurd cc
taking_resting (op.User o ∷ os) rests = refl
taking_resting (o ∷ os) rests = absurd cc
