-- For all laws.
-- What a move of a task owes weighs nothing in a count in which no operation that may be owed does,
-- whatever that count is.
use Rattle.std.proofs.Common.{◌≡◌, ℕ, List, [], ◌∷◌, ◌++◌, Bool, true, false, refl, arith, ◌&&◌}
use Rattle.std.specs.Prelude.{Option, Some, None}
use Rattle.task_moves.specs.declared.moves.owed.AwaiterDebt.TheVariants.{NotifyAwaiter, NotifyOther, CallGiven, StoreCopy}
use Rattle.task_moves.specs.declared.schedule_info.ScheduleInfo.{ScheduleInfo}
use Rattle.task_moves.specs.declared.moves.owed.FutureDebt.TheVariants.{PollFuture, DropFuture}
use Rattle.task_moves.specs.declared.moves.owed.AwaiterDebt.TheVariants.{CallStored, TakeAwaiter, CallTaken}
use Rattle.task_moves.{specs.declared.moves.owed.FutureDebt.FutureDebt, specs.declared.moves.owed.AwaiterDebt.AwaiterDebt}
use Rattle.executor_model.proofs.Types.{Move, Owed, Op, HandleOp, QueueOp, TableOp, UserOp}
use Rattle.executor_model.specs.Carried.{schedule_ops, drops, emptied_ops, future_ops, output_ops, awaiter_ops, next_ops}
use Rattle.executor_model.specs.{Carried.owed_ops, Weights.weigh}
use Rattle.executor_model.proofs.Steps.Lists.{weigh-append}

-- v weighs nothing in these for future f
pub record FewOwed (v : Op → ℕ) (f : ℕ) : Type 0 where
  pub append : v (Op.Queue (QueueOp.Append f)) ≡ 0
  pub output : v (Op.User (UserOp.BeginDropOutput f)) ≡ 0
  pub release : v (Op.Move Move.Release f) ≡ 0
  pub settle_closed : v (Op.Move Move.SettleClosed f) ≡ 0
  pub give_up : v (Op.Move Move.GiveUp f) ≡ 0
  pub end_closed : v (Op.Move Move.EndClosed f) ≡ 0
  pub detach : v (Op.Move Move.Detach f) ≡ 0
  pub let_go : v (Op.Handle (HandleOp.LetGo f)) ≡ 0

pub record NoFuture (v : Op → ℕ) (f : ℕ) : Type 0 where
  pub poll : v (Op.Table (TableOp.TakeToPoll f)) ≡ 0
  pub drop : v (Op.Table (TableOp.TakeToDrop f)) ≡ 0

pub record NoAwaiter (v : Op → ℕ) (f : ℕ) : Type 0 where
  pub notify : (mine : Bool) → v (Op.Handle (HandleOp.Notify f mine)) ≡ 0

module _ (v : Op → ℕ) (f : ℕ) where
  one : (o : Op) → v o ≡ 0 → weigh v (o ∷ []) ≡ 0
  one o z = omega (arith, z)

  pub owed-future : NoFuture v f → (there : Bool) (o : Option FutureDebt) → weigh v (future_ops there f o) ≡ 0
  owed-future h there (Some PollFuture) = one _ h.poll
  owed-future h true (Some DropFuture) = one _ h.drop
  owed-future h false (Some DropFuture) = refl
  owed-future h there None = refl

  pub owed-awaiter : NoAwaiter v f → (o : Option AwaiterDebt) → weigh v (awaiter_ops f o) ≡ 0
  owed-awaiter h (Some NotifyAwaiter) = one _ (h.notify false)
  owed-awaiter h (Some NotifyOther) = one _ (h.notify true)
  owed-awaiter h (Some CallGiven) = refl
  owed-awaiter h (Some StoreCopy) = refl
  owed-awaiter h (Some CallStored) = refl
  owed-awaiter h (Some TakeAwaiter) = refl
  owed-awaiter h (Some CallTaken) = refl
  owed-awaiter h None = refl

  scheduled : FewOwed v f → (o : Option ScheduleInfo) → weigh v (schedule_ops f o) ≡ 0
  scheduled h (Some info) = one _ h.append
  scheduled h None = refl

  output : FewOwed v f → (b : Bool) → weigh v (output_ops b f) ≡ 0
  output h true = one _ h.output
  output h false = refl

  follows : FewOwed v f → (o : Option Move) → weigh v (next_ops f o) ≡ 0
  follows h (Some Move.Release) = one _ h.release
  follows h (Some Move.SettleClosed) = one _ h.settle_closed
  follows h (Some Move.GiveUp) = one _ h.give_up
  follows h (Some Move.EndClosed) = one _ h.end_closed
  follows h (Some Move.Detach) = one _ h.detach
  follows h (Some _) = refl
  follows h None = refl

  emptied : FewOwed v f → (b : Bool) → weigh v (emptied_ops b f) ≡ 0
  emptied h true = one _ h.let_go
  emptied h false = refl

  pub both : (xs ys : List Op) → weigh v xs ≡ 0 → weigh v ys ≡ 0 → weigh v (xs ++ ys) ≡ 0
  both xs ys a b = omega (arith, weigh-append v xs ys, a, b)

  pub owed-nothing : FewOwed v f → (there : Bool) (o : Owed) → weigh v (future_ops there f o.future) ≡ 0 →
      weigh v (awaiter_ops f o.awaiter) ≡ 0 → weigh v (owed_ops there f o) ≡ 0
  owed-nothing h there o a b =
      both _ _ (both _ _ (both _ _ (both _ _ (both _ _ (scheduled h o.schedule) a) (output h o.drop_output)) b)
      (follows h o.next)) (emptied h (o.empty_cell && drops o.future))
