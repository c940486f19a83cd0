-- For own_queues_agree.
-- What the counts of own queues see of the beginning of a call and of the end of user code, and what these change.
use Rattle.std.proofs.Common.{◌≡◌, ℕ, ◌+◌, List, true, refl, arith}
use Rattle.std.specs.Prelude.{Option, Some, None}
use Rattle.executor_model.proofs.Types.{Call, Answer, Event, Op, RunPoll, UserOp, Waker, UserEnd}
use Rattle.executor_model.specs.OwnQueues.{empty_of, filling_of, reads_of, writes_of}
use Rattle.executor_model.specs.Steps.{accepts, begun, drop_run, future_of, kept, poll_run, react, with_future}
use Rattle.executor_model.specs.Weights.{weigh}
use Rattle.executor_model.specs.World.{World, Stage, New, Listed, Ended, Done, done, log}
use Rattle.executor_model.proofs.{Steps.Lists.weigh-below, OwnQueues.RunsAside.hull, OwnQueues.RunsAside.hull-run}

module _ (r : ℕ) where
  -- room that a steal may fill, sections and walks under the lock, and a search that found the own queue empty
  abbrev pub counts_of : Op → ℕ
  counts_of o = filling_of r o + (writes_of o + (reads_of o + empty_of r o))

  pub counts-filling : (os : List Op) → weigh counts_of os ≡ 0 → weigh (filling_of r) os ≡ 0
  counts-filling os z = omega (arith, z, weigh-below (filling_of r) counts_of (λ o. omega arith) os)

  pub counts-writes : (os : List Op) → weigh counts_of os ≡ 0 → weigh writes_of os ≡ 0
  counts-writes os z = omega (arith, z, weigh-below writes_of counts_of (λ o. omega arith) os)

  pub counts-reads : (os : List Op) → weigh counts_of os ≡ 0 → weigh reads_of os ≡ 0
  counts-reads os z = omega (arith, z, weigh-below reads_of counts_of (λ o. omega arith) os)

  pub counts-empty : (os : List Op) → weigh counts_of os ≡ 0 → weigh (empty_of r) os ≡ 0
  counts-empty os z = omega (arith, z, weigh-below (empty_of r) counts_of (λ o. omega arith) os)

  -- nothing of it changes, and nothing of it follows
  pub record Uncounted (w : World) (d : Done) : Type 0 where
    pub hull : hull w ≡ hull d.world
    pub counts : weigh counts_of d.next ≡ 0

  uncounted : (w v : World) (next : List Op) → hull w ≡ hull v → weigh counts_of next ≡ 0 → Uncounted w (done v next)
  uncounted w v next e z = record { hull = e; counts = z }

  pub counts-react : (p : ℕ) (o : Op) (u : UserEnd) (w : World) → accepts o u ≡ true → Uncounted w (react p o u w)
  counts-react p (Op.User (UserOp.Poll f)) (UserEnd.Polled Answer.Pending) w a = uncounted w _ _ refl refl
  counts-react p (Op.User (UserOp.Poll f)) (UserEnd.Polled Answer.Ready) w a = uncounted w _ _ refl refl
  counts-react p (Op.User (UserOp.Drop f)) UserEnd.Done w a = uncounted w _ _ refl refl
  counts-react p (Op.User (UserOp.DropOutput f)) UserEnd.Done w a = uncounted w _ _ refl refl
  counts-react p (Op.User (UserOp.CallOutside x)) UserEnd.Done w a = uncounted w _ _ refl refl
  counts-react p (Op.User (UserOp.PollOwn x)) (UserEnd.Polled Answer.Pending) w a = uncounted w _ _ refl refl
  counts-react p (Op.User (UserOp.PollOwn x)) (UserEnd.Polled Answer.Ready) w a = uncounted w _ _ refl refl
  counts-react p (Op.User (UserOp.DropOwn q)) UserEnd.Done w a = uncounted w _ _ refl refl
  counts-react p _ _ w a = absurd (cc)

  counts-with : (w v : World) (x : Option ℕ) (d : ℕ → Done) → hull w ≡ hull v → ((f : ℕ) → Uncounted w (d f)) →
      Uncounted w (with_future v x d)
  counts-with w v None d e n = uncounted w v _ e refl
  counts-with w v (Some f) d e n = n f

  counts-poll : (w v : World) (t : Stage) (x : RunPoll) → hull w ≡ hull v → Uncounted w (done v (poll_run t x))
  counts-poll w v New x e = uncounted w v _ e refl
  counts-poll w v Listed x e = uncounted w v _ e refl
  counts-poll w v Ended x e = uncounted w v _ e refl

  counts-drop : (w v : World) (t : Stage) (q : ℕ) → hull w ≡ hull v → Uncounted w (done v (drop_run t q))
  counts-drop w v New q e = uncounted w v _ e refl
  counts-drop w v Listed q e = uncounted w v _ e refl
  counts-drop w v Ended q e = uncounted w v _ e refl

  pub counts-begun : (p : ℕ) (w : World) (here : Option Waker) (c : Call) →
      Uncounted w (begun p (log w (Event.CallBegun p c)) here c)
  counts-begun p w here (Call.Wake n) =
      counts-with w (log w (Event.CallBegun p (Call.Wake n))) (kept w n) _ refl (λ f. uncounted w _ _ refl refl)
  counts-begun p w here (Call.WakeByRef n) =
      counts-with w (log w (Event.CallBegun p (Call.WakeByRef n))) (kept w n) _ refl (λ f. uncounted w _ _ refl refl)
  counts-begun p w here (Call.Copy n) =
      counts-with w (log w (Event.CallBegun p (Call.Copy n))) (kept w n) _ refl (λ f. uncounted w _ _ refl refl)
  counts-begun p w here (Call.DropWaker n) =
      counts-with w (log w (Event.CallBegun p (Call.DropWaker n))) (kept w n) _ refl (λ f. uncounted w _ _ refl refl)
  counts-begun p w here Call.Keep =
      counts-with w (log w (Event.CallBegun p Call.Keep)) (future_of here) _ refl (λ f. uncounted w _ _ refl refl)
  counts-begun p w here Call.WakeSelf =
      counts-with w (log w (Event.CallBegun p Call.WakeSelf)) (future_of here) _ refl (λ f. uncounted w _ _ refl refl)
  counts-begun p w here (Call.PollRun q b) = counts-poll w _ _ _ refl
  counts-begun p w here (Call.DropRun q) = counts-drop w _ _ q (hull-run w q _ refl)
  counts-begun p w here _ = uncounted w _ _ refl refl
