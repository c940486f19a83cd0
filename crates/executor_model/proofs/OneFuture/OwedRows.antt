-- For all laws of one future.
-- What who makes a move of a task has in hand, and what the move leaves it with: one row in all counts of a future.
use Rattle.std.proofs.Common.{◌≡◌, ℕ, ◌+◌, List, [], ◌∷◌, ◌++◌, Bool, true, false, ◌&&◌, refl, ap, ◌∙◌, arith}
use Rattle.std.specs.Prelude.{Option, Some, None}
use Rattle.task_moves.specs.declared.schedule_info.ScheduleInfo.{ScheduleInfo}
use Rattle.task_moves.specs.declared.moves.owed.FutureDebt.TheVariants.{PollFuture, DropFuture}
use Rattle.task_moves.{specs.declared.moves.owed.FutureDebt.FutureDebt, specs.declared.moves.owed.AwaiterDebt.AwaiterDebt}
use Rattle.executor_model.specs.Carried.{schedule_ops, drop_ops, drops, emptied_ops, future_ops, output_ops, awaiter_ops}
use Rattle.executor_model.specs.Rows.{borrowing_of, waiting_of, polls_of, ending_of, ready_of, closing_of, settling_of}
use Rattle.executor_model.specs.Rows.{giving_of, drops_of, releases_of, copies_of, ousting_of}
use Rattle.executor_model.specs.{Carried.next_ops, Carried.owed_ops, Weights.same, Weights.weigh, Sound.Pend}
use Rattle.executor_model.proofs.OneFuture.Views.{none, plus, hand, of_schedule, of_drop, of_future, of_next, of_owed}
use Rattle.executor_model.proofs.OneFuture.Extras.{Extra, no_extra, plus_extra, extras, extras-append}
use Rattle.executor_model.proofs.OneFuture.Views.{extra_hand, of_append, of_output, of_awaiter, extra_next, extra_owed}
use Rattle.executor_model.proofs.{Types.Move, Types.Owed, Types.Op, Steps.Lists.weigh-append}

-- the counts of a list of things to do, all at once

abbrev pub weights : ℕ → List Op → Pend
weights g os = record {
  waiting = weigh (waiting_of g) os;
  polls = weigh (polls_of g) os;
  ending = weigh (ending_of g) os;
  ready = weigh (ready_of g) os;
  closing = weigh (closing_of g) os;
  settling = weigh (settling_of g) os;
  giving = weigh (giving_of g) os;
  drops = weigh (drops_of g) os;
  releases = weigh (releases_of g) os;
  copies = weigh (copies_of g) os;
  borrowing = weigh borrowing_of os;
  ousting = weigh ousting_of os;
}

pub weights-append : (g : ℕ) (xs ys : List Op) → weights g (xs ++ ys) ≡ plus (weights g xs) (weights g ys)
weights-append g xs ys = rw (
  weigh-append (waiting_of g) xs ys,
  weigh-append (polls_of g) xs ys,
  weigh-append (ending_of g) xs ys,
  weigh-append (ready_of g) xs ys,
  weigh-append (closing_of g) xs ys,
  weigh-append (settling_of g) xs ys,
  weigh-append (giving_of g) xs ys,
  weigh-append (drops_of g) xs ys,
  weigh-append (releases_of g) xs ys,
  weigh-append (copies_of g) xs ys,
  weigh-append borrowing_of xs ys,
  weigh-append ousting_of xs ys,
) refl

plus-both : {a b c d : Pend} → a ≡ c → b ≡ d → plus a b ≡ plus c d
plus-both e q = λ t. plus (e t) (q t)

extras-both : {a b c d : Extra} → a ≡ c → b ≡ d → plus_extra a b ≡ plus_extra c d
extras-both e q = λ t. plus_extra (e t) (q t)

module _ (g f k : ℕ) (e : same g f ≡ k) where
  one : same g f + 0 ≡ k
  one = omega (arith, e)

  pub row-hand : (m : Move) → weights g (Op.Move m f ∷ []) ≡ hand k m
  row-hand Move.Wake = ap (λ (n : ℕ). record none { releases = n }) one
  row-hand Move.Release = ap (λ (n : ℕ). record none { releases = n }) one
  row-hand Move.TakeUp = ap (λ (n : ℕ). record none { waiting = n; borrowing = 1 }) one
  row-hand Move.SettleClosed = ap (λ (n : ℕ). record none { settling = n }) one
  row-hand Move.GiveUp = ap (λ (n : ℕ). record none { giving = n }) one
  row-hand Move.EndReady = ap (λ (n : ℕ). record none { ready = n; borrowing = 1 }) one
  row-hand Move.EndPending = ap (λ (n : ℕ). record none { ending = n; borrowing = 1 }) one
  row-hand Move.EndClosed = ap (λ (n : ℕ). record none { closing = n }) one
  row-hand Move.DropRunnable = ap (λ (n : ℕ). record none { waiting = n }) one
  row-hand _ = refl

  row-schedule : (o : Option ScheduleInfo) → weights g (schedule_ops f o) ≡ of_schedule k o
  row-schedule (Some i) = ap (λ (n : ℕ). record none { waiting = n }) one
  row-schedule None = refl

  row-drop : (b : Bool) → weights g (drop_ops b f) ≡ of_drop k b
  row-drop true = ap (λ (n : ℕ). record none { drops = n }) one
  row-drop false = refl

  row-future : (b : Bool) (o : Option FutureDebt) → weights g (future_ops b f o) ≡ of_future k b o
  row-future b (Some PollFuture) = ap (λ (n : ℕ). record none { polls = n; borrowing = 1 }) one
  row-future b (Some DropFuture) = row-drop b
  row-future b None = refl

  row-output : (b : Bool) → weights g (output_ops b f) ≡ none
  row-output true = refl
  row-output false = refl

  row-awaiter : (o : Option AwaiterDebt) → weights g (awaiter_ops f o) ≡ none
  row-awaiter (Some AwaiterDebt.NotifyAwaiter) = refl
  row-awaiter (Some AwaiterDebt.NotifyOther) = refl
  row-awaiter (Some _) = refl
  row-awaiter None = refl

  row-next : (o : Option Move) → weights g (next_ops f o) ≡ of_next k o
  row-next (Some Move.Release) = ap (λ (n : ℕ). record none { releases = n }) one
  row-next (Some Move.SettleClosed) = ap (λ (n : ℕ). record none { settling = n }) one
  row-next (Some Move.GiveUp) = ap (λ (n : ℕ). record none { giving = n }) one
  row-next (Some Move.EndClosed) = ap (λ (n : ℕ). record none { closing = n }) one
  row-next (Some Move.Detach) = refl
  row-next (Some _) = refl
  row-next None = refl

  row-emptied : (b : Bool) → weights g (emptied_ops b f) ≡ none
  row-emptied true = refl
  row-emptied false = refl

  -- the row of what any move owes
  pub row-owed : (b : Bool) (o : Owed) → weights g (owed_ops b f o) ≡ of_owed k b o
  row-owed b o =
      let s = schedule_ops f o.schedule in
      let u = future_ops b f o.future in
      let v = output_ops o.drop_output f in
      let y = awaiter_ops f o.awaiter in
      let n = next_ops f o.next in
      let e1 : weights g (s ++ u) ≡ plus (of_schedule k o.schedule) (of_future k b o.future) =
      weights-append g s u ∙ plus-both (row-schedule o.schedule) (row-future b o.future) in
      let e2 : weights g (s ++ u ++ v) ≡ plus (plus (of_schedule k o.schedule) (of_future k b o.future)) none =
      weights-append g (s ++ u) v ∙ plus-both e1 (row-output o.drop_output) in
      let e3 : weights g (s ++ u ++ v ++ y) ≡
      plus (plus (plus (of_schedule k o.schedule) (of_future k b o.future)) none) none =
      weights-append g (s ++ u ++ v) y ∙ plus-both e2 (row-awaiter o.awaiter) in
      let e4 : weights g (s ++ u ++ v ++ y ++ n) ≡
      plus (plus (plus (plus (of_schedule k o.schedule) (of_future k b o.future)) none) none) (of_next k o.next) =
      weights-append g (s ++ u ++ v ++ y) n ∙ plus-both e3 (row-next o.next) in
      weights-append g (s ++ u ++ v ++ y ++ n) (emptied_ops (o.empty_cell && drops o.future) f)
      ∙ plus-both e4 (row-emptied (o.empty_cell && drops o.future))

  pub extras-hand : (m : Move) → extras g (Op.Move m f ∷ []) ≡ extra_hand k m
  extras-hand Move.Detach = ap (λ (n : ℕ). record no_extra { detaches = n }) one
  extras-hand _ = refl

  extras-schedule : (o : Option ScheduleInfo) → extras g (schedule_ops f o) ≡ of_append k o
  extras-schedule (Some i) = ap (λ (n : ℕ). record no_extra { appends = n }) one
  extras-schedule None = refl

  extras-future : (b : Bool) (o : Option FutureDebt) → extras g (future_ops b f o) ≡ no_extra
  extras-future b (Some PollFuture) = refl
  extras-future true (Some DropFuture) = refl
  extras-future false (Some DropFuture) = refl
  extras-future b None = refl

  extras-output : (b : Bool) → extras g (output_ops b f) ≡ of_output k b
  extras-output true = ap (λ (n : ℕ). record no_extra { outs = n }) one
  extras-output false = refl

  extras-awaiter : (o : Option AwaiterDebt) → extras g (awaiter_ops f o) ≡ of_awaiter k o
  extras-awaiter (Some AwaiterDebt.NotifyAwaiter) = ap (λ (n : ℕ). record no_extra { telling = n }) one
  extras-awaiter (Some AwaiterDebt.NotifyOther) = ap (λ (n : ℕ). record no_extra { telling = n }) one
  extras-awaiter (Some _) = refl
  extras-awaiter None = refl

  extras-next : (o : Option Move) → extras g (next_ops f o) ≡ extra_next k o
  extras-next (Some Move.Release) = refl
  extras-next (Some Move.SettleClosed) = refl
  extras-next (Some Move.GiveUp) = refl
  extras-next (Some Move.EndClosed) = refl
  extras-next (Some Move.Detach) = ap (λ (n : ℕ). record no_extra { detaches = n }) one
  extras-next (Some _) = refl
  extras-next None = refl

  extras-emptied : (b : Bool) → extras g (emptied_ops b f) ≡ no_extra
  extras-emptied true = refl
  extras-emptied false = refl

  pub extras-owed : (b : Bool) (o : Owed) → extras g (owed_ops b f o) ≡ extra_owed k o
  extras-owed b o =
      let s = schedule_ops f o.schedule in
      let u = future_ops b f o.future in
      let v = output_ops o.drop_output f in
      let y = awaiter_ops f o.awaiter in
      let e1 : extras g (s ++ u) ≡ plus_extra (of_append k o.schedule) no_extra = extras-append g s u
      ∙ extras-both (extras-schedule o.schedule) (extras-future b o.future) in
      let e2 : extras g (s ++ u ++ v) ≡ plus_extra (plus_extra (of_append k o.schedule) no_extra) (of_output k o.drop_output) =
      extras-append g (s ++ u) v ∙ extras-both e1 (extras-output o.drop_output) in
      let e3 : extras g (s ++ u ++ v ++ y) ≡
      plus_extra (plus_extra (plus_extra (of_append k o.schedule) no_extra) (of_output k o.drop_output)) (of_awaiter k o.awaiter) =
      extras-append g (s ++ u ++ v) y ∙ extras-both e2 (extras-awaiter o.awaiter) in
      let e4 : extras g (s ++ u ++ v ++ y ++ next_ops f o.next) ≡
      plus_extra (plus_extra (plus_extra (plus_extra (of_append k o.schedule) no_extra) (of_output k o.drop_output))
      (of_awaiter k o.awaiter)) (extra_next k o.next) =
      extras-append g (s ++ u ++ v ++ y) (next_ops f o.next) ∙ extras-both e3 (extras-next o.next) in
      extras-append g (s ++ u ++ v ++ y ++ next_ops f o.next) (emptied_ops (o.empty_cell && drops o.future) f)
      ∙ extras-both e4 (extras-emptied (o.empty_cell && drops o.future))
