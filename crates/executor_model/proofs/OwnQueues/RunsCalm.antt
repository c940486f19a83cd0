-- For own_queues_agree.
-- A count of the parts of runs' polls, so many for each part of a poll: what follows counts no more than what was done.
use Rattle.std.proofs.Common.{◌≡◌, ℕ, ◌≤◌, ◌%◌, List, length, Bool, true, false, refl, ap, arith}
use Rattle.executor_model.proofs.Types.{Answer, ListOp, Op, RunOp, RunPoll, Section, TickOrRun, Steal, TickOp, UserOp, Waker}
use Rattle.executor_model.specs.{Doing.act, Doing.list_act, Steps.accepts, Steps.react, Weights.weigh, World.World, World.Done}
use Rattle.executor_model.proofs.OwnQueues.RunsDone.{to_leave, to_walk, walk_ends, walk_on, Deed, keeps, takes, lacks, shares, grows}
use Rattle.executor_model.proofs.OwnQueues.RunsDone.{wakes, lists, deed-act, is_loud, loud, loud-weigh, poll_in, walks-by}
use Rattle.executor_model.proofs.OwnQueues.RunsDone.{Stole, More, no_more, one_more, Walks, Missing, misses_there, Leads, finds}
use Rattle.executor_model.proofs.{Types.Hint, Types.UserEnd, OwnQueues.RunsDone.stole, OwnQueues.RunsDone.looks}
use Rattle.executor_model.specs.ActsOfRuns as runs

abbrev pub part_who : (RunPoll → ℕ) → TickOrRun → Waker → ℕ → ℕ
part_who n (TickOrRun.Tick t) a k = 0
part_who n (TickOrRun.Run r) a k = n (record { run = r; waker = a; poll = k })

abbrev pub part_section : (RunPoll → ℕ) → Section → ℕ
part_section n Section.MakeRun = 0
part_section n (Section.Register x) = n x
part_section n (Section.Unregister r a) = 0

abbrev pub part_list : (RunPoll → ℕ) → ListOp → ℕ
part_list n (ListOp.LockWrite s) = part_section n s
part_list n (ListOp.Write s) = part_section n s
part_list n (ListOp.LockRead x) = n x
part_list n _ = 0

abbrev pub part_tick : (RunPoll → ℕ) → TickOp → ℕ
part_tick n (TickOp.Search s) = part_who n s.who s.waker s.poll
part_tick n (TickOp.Look s look) = part_who n s.who s.waker s.poll
part_tick n (TickOp.CopyWaker s) = part_who n s.who s.waker s.poll
part_tick n (TickOp.FallAsleep s) = part_who n s.who s.waker s.poll
part_tick n _ = 0

abbrev pub part_run : (RunPoll → ℕ) → RunOp → ℕ
part_run n (RunOp.TakeTurn x) = n x
part_run n (RunOp.SearchCommon x look) = n x
part_run n (RunOp.LookOwn x at left) = n x
part_run n (RunOp.WakeOwn x) = n x
part_run n _ = 0

abbrev pub part_of : (RunPoll → ℕ) → Op → ℕ
part_of n (Op.User (UserOp.PollOwn x)) = n x
part_of n (Op.Tick o) = part_tick n o
part_of n (Op.List o) = part_list n o
part_of n (Op.Steal o) = n (poll_in o)
part_of n (Op.Run o) = part_run n o
part_of n _ = 0

module _ (n : RunPoll → ℕ) where
  quiet-part : (o : Op) → is_loud o ≡ false → part_of n o ≡ 0
  quiet-part (Op.User (UserOp.PollOwn x)) e = absurd (cc)
  quiet-part (Op.Tick (TickOp.Search s)) e = absurd (cc)
  quiet-part (Op.Tick (TickOp.Look s look)) e = absurd (cc)
  quiet-part (Op.Tick (TickOp.CopyWaker s)) e = absurd (cc)
  quiet-part (Op.Tick (TickOp.FallAsleep s)) e = absurd (cc)
  quiet-part (Op.List o) e = absurd (cc)
  quiet-part (Op.Steal o) e = absurd (cc)
  quiet-part (Op.Run RunOp.MakeRoom) e = refl
  quiet-part (Op.Run RunOp.ReturnRoom) e = refl
  quiet-part (Op.Run _) e = absurd (cc)
  quiet-part _ e = refl

  stole-part : (x : RunPoll) (k : ℕ) (os : List Op) → Stole x k os → weigh (part_of n) os ≡ n x
  stole-part x k os (to_walk at left) = omega arith
  stole-part x k os to_leave = omega arith
  stole-part x k os _ = omega arith

  more-part : (s : Steal) (k : ℕ) (os : List Op) → More s k os → weigh (part_of n) os ≡ n s.poll
  more-part s k os (no_more z) = stole-part _ _ os z
  more-part s k os (one_more j) = omega arith

  walks-part : (x : RunPoll) (os : List Op) → Walks x os → weigh (part_of n) os ≡ n x
  walks-part x os walk_ends = omega arith
  walks-part x os (walk_on r at left) = omega arith

  missing-part : (q : ℕ) (o : Op) (os : List Op) → Missing q o os → weigh (part_of n) os ≤ part_of n o
  missing-part q o os (misses_there x at left z) = omega (arith, walks-part x os z)
  missing-part q o os _ = omega arith

  leads-part : (o : Op) (os : List Op) → Leads o os → weigh (part_of n) os ≤ part_of n o
  leads-part o os (finds x z) = omega (arith, stole-part x 0 os z)
  leads-part o os (stole a z) = omega (arith, stole-part _ _ os z)
  leads-part o _ (looks x at left {os = os} z) = omega (arith, stole-part x 0 os z)
  leads-part o os _ = omega arith

  list-part : (h : Hint) (o : ListOp) (w : World) → weigh (part_of n) (list_act h o w).next ≤ part_of n (Op.List o)
  list-part h (ListOp.Write Section.MakeRun) w = by h.refused
    where
      by : (b : Bool) → weigh (part_of n) (runs.make_run_by b w).next ≤ 0
      by true = omega arith
      by false = omega arith
  list-part h (ListOp.LockRead x) w =
      let os = runs.walk x w.listed (h.start % length w.listed) (length w.listed) in omega (
        arith,
        loud-weigh (part_of n) quiet-part os,
        walks-part x (loud os) (walks-by x w.listed (h.start % length w.listed) (length w.listed)),
      )
  list-part h (ListOp.Write (Section.Register x)) w = omega arith
  list-part h _ w = omega arith

  calm-loud : (o : Op) (d : Done) → weigh (part_of n) (loud d.next) ≤ part_of n o → weigh (part_of n) d.next ≤ part_of n o
  calm-loud o d l = omega (arith, l, loud-weigh (part_of n) quiet-part d.next)

  calm-deed : (w : World) (o : Op) (d : Done) → Deed w o d → weigh (part_of n) d.next ≤ part_of n o
  calm-deed w o d (keeps e l) = calm-loud o d (leads-part o _ l)
  calm-deed w o d (takes q f rest i e l) = calm-loud o d (leads-part o _ l)
  calm-deed w o d (lacks q i e l) = calm-loud o d (missing-part q o _ l)
  calm-deed w o d (shares s i k b e m) = calm-loud o d (omega (arith, more-part s k _ m))
  calm-deed w o d (grows s k f e m) = calm-loud o d (omega (arith, more-part s k _ m))
  calm-deed w o d (wakes p x e z) = calm-loud o d (omega (arith, ap (weigh (part_of n)) z))
  calm-deed w o d (lists h l) = list-part h l w

  pub calm-act : (p : ℕ) (h : Hint) (o : Op) (w : World) → weigh (part_of n) (act p h o w).next ≤ part_of n o
  calm-act p h o w = calm-deed w o (act p h o w) (deed-act p h o w)

  pub calm-react : (p : ℕ) (o : Op) (e : UserEnd) (w : World) → accepts o e ≡ true →
      weigh (part_of n) (react p o e w).next ≤ part_of n o
  calm-react p (Op.User (UserOp.PollOwn x)) (UserEnd.Polled Answer.Pending) w a = omega arith
  calm-react p (Op.User (UserOp.PollOwn x)) (UserEnd.Polled Answer.Ready) w a = omega arith
  calm-react p (Op.User (UserOp.Poll f)) (UserEnd.Polled Answer.Pending) w a = omega arith
  calm-react p (Op.User (UserOp.Poll f)) (UserEnd.Polled Answer.Ready) w a = omega arith
  calm-react p (Op.User (UserOp.Drop f)) UserEnd.Done w a = omega arith
  calm-react p (Op.User (UserOp.DropOutput f)) UserEnd.Done w a = omega arith
  calm-react p (Op.User (UserOp.CallOutside x)) UserEnd.Done w a = omega arith
  calm-react p (Op.User (UserOp.DropOwn q)) UserEnd.Done w a = omega arith
  calm-react p _ _ w a = absurd (cc)
