-- For runs_are_finished_at_once.
-- Nothing that is done, but the beginning of a poll of a run that has ended, leads to the answer that a run is finished.
use Rattle.std.proofs.Common.{◌≡◌, ℕ, List, [], ◌∷◌, length, refl, ap}
use Rattle.std.specs.Prelude.{Option, Some, None}
use Rattle.executor_model.proofs.Types.{By, Call, Reply, Event, Hold, Op, RunPoll, UserOp, Waker, Hint, UserEnd, Answer}
use Rattle.executor_model.specs.Steps.{begun, drop_run, future_of, kept, poll_run, react, with_future}
use Rattle.executor_model.specs.World.{World, Stage, New, Listed, Ended, Done, log, run_of}
use Rattle.executor_model.specs.{Doing.act, Weights.weigh}
use Rattle.executor_model.specs.{Steps.waker_of as own_waker}
use Rattle.executor_model.proofs.Promises.Answered.{Rare, ends_of, ends-act}

-- one where this ends a call so, or leads to such an end

abbrev pub fin_reply : Reply → ℕ
fin_reply Reply.Finished = 1
fin_reply _ = 0

abbrev pub fin : Op → ℕ
fin = ends_of fin_reply 0

rare : Rare fin_reply 0
rare = record {
  no_memory = refl;
  full = refl;
  made = refl;
  pending = refl;
  ready = refl;
  cancelled = refl;
  yes = refl;
  no = λ z. refl;
}

-- each thing that is done
pub fin-act : (p : ℕ) (h : Hint) (o : Op) (w : World) → fin o ≡ 0 → weigh fin (act p h o w).next ≡ 0
fin-act = ends-act fin_reply 0 rare

pub fin-react : (p : ℕ) (o : Op) (u : UserEnd) (w : World) → weigh fin (react p o u w).next ≡ 0
fin-react p (Op.User (UserOp.Poll f)) (UserEnd.Polled Answer.Pending) w = refl
fin-react p (Op.User (UserOp.Poll f)) (UserEnd.Polled Answer.Ready) w = refl
fin-react p (Op.User (UserOp.Poll f)) UserEnd.Done w = refl
fin-react p (Op.User (UserOp.PollOwn x)) (UserEnd.Polled Answer.Pending) w = refl
fin-react p (Op.User (UserOp.PollOwn x)) (UserEnd.Polled Answer.Ready) w = refl
fin-react p (Op.User (UserOp.PollOwn x)) UserEnd.Done w = refl
fin-react p _ _ w = refl

fin-with : (w : World) (o : Option ℕ) (d : ℕ → Done) → ((f : ℕ) → weigh fin (d f).next ≡ 0) → weigh fin (with_future w o d).next ≡ 0
fin-with w (Some f) d k = k f
fin-with w None d k = refl

-- the beginning of a call leads to none, but the poll of a run that has ended
pub data Leads (w : World) (c : Call) (next : List Op) : Type 0 where
  none : weigh fin next ≡ 0 → Leads w c next
  over : (r : ℕ) (b : By) → c ≡ Call.PollRun r b → (run_of w r).stage ≡ Ended →
      next ≡ Op.End Reply.Finished (Hold.Run r) ∷ [] → Leads w c next

poll-begins : (t : Stage) (w : World) (r : ℕ) (b : By) (x : RunPoll) → x.run ≡ r → (run_of w r).stage ≡ t →
    Leads w (Call.PollRun r b) (poll_run t x)
poll-begins New w r b x i e = none refl
poll-begins Listed w r b x i e = none refl
poll-begins Ended w r b x i e = over r b refl e (ap (λ (n : ℕ). Op.End Reply.Finished (Hold.Run n) ∷ []) i)

fin-drop_run : (t : Stage) (r : ℕ) → weigh fin (drop_run t r) ≡ 0
fin-drop_run New r = refl
fin-drop_run Listed r = refl
fin-drop_run Ended r = refl

pub begins : (p : ℕ) (w : World) (here : Option Waker) (c : Call) → Leads w c (begun p (log w (Event.CallBegun p c)) here c).next
begins p w here (Call.Wake k) = none (fin-with _ (kept w k) _ (λ f. refl))
begins p w here (Call.WakeByRef k) = none (fin-with _ (kept w k) _ (λ f. refl))
begins p w here (Call.Copy k) = none (fin-with _ (kept w k) _ (λ f. refl))
begins p w here (Call.DropWaker k) = none (fin-with _ (kept w k) _ (λ f. refl))
begins p w here Call.Keep = none (fin-with _ (future_of here) _ (λ f. refl))
begins p w here Call.WakeSelf = none (fin-with _ (future_of here) _ (λ f. refl))
begins p w here (Call.PollRun r b) = poll-begins (run_of w r).stage w r b (record {
  run = r;
  waker = own_waker here b;
  poll = length (log w (Event.CallBegun p (Call.PollRun r b))).trace;
}) refl refl
begins p w here (Call.DropRun r) = none (fin-drop_run (run_of w r).stage r)
begins p w here _ = none refl
