-- For own_queues_agree and awaiters_are_kept.
-- Which run a thing to do is for, whether it is a part of a poll of that, and whether it empties its own queue. What
-- uses no run leads to nothing that does.
use Rattle.std.proofs.Common.{◌≡◌, ◌≤◌, ℕ, List, [], ◌∷◌, ◌++◌, length, Bool, true, false, refl, arith}
use Rattle.std.specs.Prelude.{Option, Some, None}
use Rattle.task_moves.specs.declared.moves.owed.Answer.{Answer}
use Rattle.executor_parts.specs.Marks.{first_of, other}
use Rattle.executor_model.proofs.Types.{Look, First, Second, Mark, Move, Moved, Reply, Awaiter, ClosingOp, HandleOp, Hold}
use Rattle.executor_model.proofs.Types.{ListOp, Op, QueueOp, RunOp, Section, TickOrRun, SleeperOp, StealOp, TableOp, TickOp}
use Rattle.executor_model.proofs.Types.{UserOp, Waker, WakerOp, Hint}
use Rattle.executor_model.specs.Weights.{same, weigh, holds_run, is_run}
use Rattle.executor_model.specs.{Carried.awaiter_ops, Doing.act, Rows.running_of, World.World, World.task, World.awaiter_of}
use Rattle.executor_model.proofs.Steps.Asides.{Aside, aside-awaiter, aside-let_go}
use Rattle.executor_model.proofs.Steps.Lists.{same_is, weigh-append, weigh-below}
use Rattle.executor_model.proofs.{Quiet.Calls.calling_of, Quiet.CallsGroups.calls-act}
use Rattle.task_moves.specs.Moves as moves
use Rattle.executor_model.specs.Acts as acts
use Rattle.executor_model.specs.ActsOfSleepers as of_sleepers

-- a part of run r's poll, and of what empties its own queue

abbrev pub polling_section : ℕ → Section → ℕ
polling_section r Section.MakeRun = 0
polling_section r (Section.Register x) = same r x.run
polling_section r (Section.Unregister q a) = 0

abbrev pub polling_list : ℕ → ListOp → ℕ
polling_list r (ListOp.LockWrite s) = polling_section r s
polling_list r (ListOp.Write s) = polling_section r s
polling_list r (ListOp.LockRead x) = same r x.run
polling_list r _ = 0

abbrev pub polling_run : ℕ → RunOp → ℕ
polling_run r (RunOp.TakeTurn x) = same r x.run
polling_run r (RunOp.SearchCommon x look) = same r x.run
polling_run r (RunOp.LookOwn x at left) = same r x.run
polling_run r (RunOp.WakeOwn x) = same r x.run
polling_run r _ = 0

abbrev pub polling_of : ℕ → Op → ℕ
polling_of r (Op.Tick (TickOp.Search s)) = is_run r s.who
polling_of r (Op.Tick (TickOp.Look s look)) = is_run r s.who
polling_of r (Op.Tick (TickOp.CopyWaker s)) = is_run r s.who
polling_of r (Op.Tick (TickOp.FallAsleep s)) = is_run r s.who
polling_of r (Op.User (UserOp.PollOwn x)) = same r x.run
polling_of r (Op.List o) = polling_list r o
polling_of r (Op.Steal (StealOp.Length s)) = same r s.poll.run
polling_of r (Op.Steal (StealOp.OwnLength s n)) = same r s.poll.run
polling_of r (Op.Steal (StealOp.Take s more)) = same r s.poll.run
polling_of r (Op.Steal (StealOp.Put s more f)) = same r s.poll.run
polling_of r (Op.Run o) = polling_run r o
polling_of r _ = 0

abbrev pub emptying_section : ℕ → Section → ℕ
emptying_section r Section.MakeRun = 0
emptying_section r (Section.Register x) = 0
emptying_section r (Section.Unregister q a) = same r q

abbrev pub emptying_of : ℕ → Op → ℕ
emptying_of r (Op.List (ListOp.LockWrite s)) = emptying_section r s
emptying_of r (Op.List (ListOp.Write s)) = emptying_section r s
emptying_of r (Op.Run (RunOp.Reschedule q a)) = same r q
emptying_of r _ = 0

-- a copy of a waker that would use the run
abbrev pub lending_of : ℕ → Op → ℕ
lending_of r (Op.Waker (WakerOp.CopyWaker f held)) = holds_run r held
lending_of r _ = 0

-- what uses a run, or may
abbrev pub is_for_runs : Op → Bool
is_for_runs (Op.Tick (TickOp.Search s)) = true
is_for_runs (Op.Tick (TickOp.Look s look)) = true
is_for_runs (Op.Tick (TickOp.CopyWaker s)) = true
is_for_runs (Op.Tick (TickOp.FallAsleep s)) = true
is_for_runs (Op.User (UserOp.PollOwn x)) = true
is_for_runs (Op.Waker (WakerOp.CopyWaker f held)) = true
is_for_runs (Op.List o) = true
is_for_runs (Op.Steal o) = true
is_for_runs (Op.Run o) = true
is_for_runs (Op.End r held) = true
is_for_runs _ = false

-- it counts no more than what answers a call, and nothing of a handle or of the executor alone
pub record Mild (v : Op → ℕ) : Type 0 where
  pub few : (o : Op) → v o ≤ calling_of o
  pub executor : (a : Reply) → v (Op.End a Hold.Executor) ≡ 0
  pub spawned : (a : Reply) (f : ℕ) → v (Op.End a (Hold.Spawned f)) ≡ 0
  pub handle : (a : Reply) (f : ℕ) → v (Op.End a (Hold.Handle f)) ≡ 0
  pub handles : (o : HandleOp) → v (Op.Handle o) ≡ 0
  pub take : (look : Look) → v (Op.Queue (QueueOp.Take look)) ≡ 0

same-few : (r q : ℕ) → same r q ≤ 1
same-few r q = grind (arith, same_is)

holds-few : (r : ℕ) (h : Hold) → holds_run r h ≤ 1
holds-few r (Hold.Run q) = same-few r q
holds-few r _ = omega arith

is-few : (r : ℕ) (who : TickOrRun) → is_run r who ≤ 1
is-few r (TickOrRun.Tick t) = omega arith
is-few r (TickOrRun.Run q) = same-few r q

section-few : (r : ℕ) (s : Section) → running_of r (Op.List (ListOp.Write s)) ≤ 1
section-few r Section.MakeRun = omega arith
section-few r (Section.Register x) = same-few r x.run
section-few r (Section.Unregister q a) = same-few r q

running-few : (r : ℕ) (o : Op) → running_of r o ≤ calling_of o
running-few r (Op.Move Move.Wake f) = omega arith
running-few r (Op.Table (TableOp.Enter mark)) = omega arith
running-few r (Op.Queue QueueOp.TakeTurn) = omega arith
running-few r (Op.Queue (QueueOp.Take look)) = omega arith
running-few r (Op.User (UserOp.PollOwn x)) = same-few r x.run
running-few r (Op.Waker (WakerOp.CopyWaker f held)) = omega arith
running-few r (Op.Handle (HandleOp.LookAgain f)) = omega arith
running-few r (Op.Sleeper SleeperOp.HandOut) = omega arith
running-few r (Op.Tick (TickOp.Search s)) = is-few r s.who
running-few r (Op.Tick (TickOp.Look s look)) = is-few r s.who
running-few r (Op.Tick (TickOp.CopyWaker s)) = is-few r s.who
running-few r (Op.Tick (TickOp.FallAsleep s)) = is-few r s.who
running-few r (Op.List (ListOp.LockWrite s)) = section-few r s
running-few r (Op.List (ListOp.Write s)) = section-few r s
running-few r (Op.List (ListOp.LockRead x)) = same-few r x.run
running-few r (Op.Steal (StealOp.Length s)) = same-few r s.poll.run
running-few r (Op.Steal (StealOp.OwnLength s n)) = same-few r s.poll.run
running-few r (Op.Steal (StealOp.Take s more)) = same-few r s.poll.run
running-few r (Op.Steal (StealOp.Put s more f)) = same-few r s.poll.run
running-few r (Op.Run (RunOp.TakeTurn x)) = same-few r x.run
running-few r (Op.Run (RunOp.SearchCommon x look)) = same-few r x.run
running-few r (Op.Run (RunOp.LookOwn x at left)) = same-few r x.run
running-few r (Op.Run (RunOp.WakeOwn x)) = same-few r x.run
running-few r (Op.Run (RunOp.Reschedule q a)) = same-few r q
running-few r (Op.Closing (ClosingOp.Drain mark)) = omega arith
running-few r (Op.End a held) = holds-few r held
running-few r _ = omega arith

pub polling-uses : (r : ℕ) (o : Op) → polling_of r o ≤ running_of r o
polling-uses r (Op.Tick (TickOp.Search s)) = omega arith
polling-uses r (Op.Tick (TickOp.Look s look)) = omega arith
polling-uses r (Op.User (UserOp.PollOwn x)) = omega arith
polling-uses r (Op.List (ListOp.LockWrite Section.MakeRun)) = omega arith
polling-uses r (Op.List (ListOp.Write Section.MakeRun)) = omega arith
polling-uses r (Op.Steal (StealOp.Length s)) = omega arith
polling-uses r (Op.Run (RunOp.TakeTurn x)) = omega arith
polling-uses r (Op.Run (RunOp.SearchCommon x look)) = omega arith
polling-uses r _ = omega arith

pub emptying-uses : (r : ℕ) (o : Op) → emptying_of r o ≤ running_of r o
emptying-uses r (Op.List (ListOp.LockWrite Section.MakeRun)) = omega arith
emptying-uses r (Op.List (ListOp.Write Section.MakeRun)) = omega arith
emptying-uses r (Op.Run (RunOp.Reschedule q a)) = omega arith
emptying-uses r _ = omega arith

lending-few : (r : ℕ) (o : Op) → lending_of r o ≤ calling_of o
lending-few r (Op.Waker (WakerOp.CopyWaker f held)) = holds-few r held
lending-few r _ = omega arith

pub mild-running : (r : ℕ) → Mild (running_of r)
mild-running r = record {
  few = running-few r;
  executor = λ a. refl;
  spawned = λ a f. refl;
  handle = λ a f. refl;
  handles = by;
  take = λ look. refl;
}
  where
    by : (o : HandleOp) → running_of r (Op.Handle o) ≡ 0
    by (HandleOp.LookAgain f) = refl
    by _ = refl

pub mild-polling : (r : ℕ) → Mild (polling_of r)
mild-polling r = record {
  few = λ o. omega (arith, polling-uses r o, running-few r o);
  executor = λ a. refl;
  spawned = λ a f. refl;
  handle = λ a f. refl;
  handles = λ o. refl;
  take = λ look. refl;
}

pub mild-lending : (r : ℕ) → Mild (lending_of r)
mild-lending r = record {
  few = lending-few r;
  executor = λ a. refl;
  spawned = λ a f. refl;
  handle = λ a f. refl;
  handles = λ o. refl;
  take = λ look. refl;
}

-- what uses no run leads to nothing that does

module _ (v : Op → ℕ) (m : Mild v) where
  pub mild-none : (o : Op) → calling_of o ≡ 0 → v o ≡ 0
  mild-none o z = omega (arith, m.few o, z)

  pub mild-aside : Aside v
  mild-aside = record {
    move = λ y f. mild-none (Op.Move y f) refl;
    append = λ f. mild-none (Op.Queue (QueueOp.Append f)) refl;
    poll = λ f. mild-none (Op.Table (TableOp.TakeToPoll f)) refl;
    drop = λ f. mild-none (Op.Table (TableOp.TakeToDrop f)) refl;
    output = λ f. mild-none (Op.User (UserOp.BeginDropOutput f)) refl;
    notify = λ f mine. mild-none (Op.Handle (HandleOp.Notify f mine)) refl;
    call = λ f a k. mild-none (Op.Waker (WakerOp.CallAwaiter f a k)) refl;
    goes = λ f. mild-none (Op.Handle (HandleOp.LetGo f)) refl;
  }

  mild-take : (look : Look) (q : List ℕ) (w : World) → weigh v (acts.take_by w look q).next ≡ 0
  mild-take (First mark) [] w = omega (arith, m.take (Second (other mark)))
  mild-take (Second mark) [] w = omega (arith, m.executor)
  mild-take look (f ∷ rest) w = omega (
    arith,
    m.executor,
    mild-none (Op.Sleeper SleeperOp.ExchangeFlag) refl,
    mild-none (Op.Move Move.TakeUp f) refl,
  )

  mild-enter : (b c : Bool) (mark : Mark) (p : ℕ) (w : World) → weigh v (acts.enter_by b c mark p w).next ≡ 0
  mild-enter true c mark p w = omega (arith, m.executor)
  mild-enter false true mark p w = omega (arith, m.executor)
  mild-enter false false mark p w = omega (arith, m.spawned, mild-none (Op.Queue (QueueOp.Append (length w.tasks))) refl)

  mild-answered : (p : ℕ) (w : World) (f : ℕ) (x : Moved) (a : Answer) → weigh v (acts.answered p w f x a).next ≡ 0
  mild-answered p w f x a = omega (
    arith,
    weigh-append v (awaiter_ops f x.owed.awaiter) (Op.End (acts.reply_of a) (Hold.Handle f) ∷ []),
    aside-awaiter v mild-aside f x.owed.awaiter,
    m.handle (acts.reply_of a) f,
  )

  mild-look : (o : Option Answer) (p : ℕ) (w : World) (f : ℕ) (a : Waker) (x : Moved) →
      weigh v (acts.look_by o p w f a x).next ≡ 0
  mild-look None p w f a x = omega (arith, m.handles (HandleOp.CopyAwaiter f a))
  mild-look (Some y) p w f a x = mild-answered p (acts.polled p w f) f x y

  mild-again : (o : Option Answer) (p : ℕ) (w : World) (f : ℕ) (x : Moved) →
      weigh v (acts.look_again_by o p w f x).next ≡ 0
  mild-again None p w f x = refl
  mild-again (Some y) p w f x = mild-answered p w f x y

  mild-copy_awaiter : (b : Bool) (p : ℕ) (w : World) (f : ℕ) (a : Waker) →
      weigh v (acts.copy_awaiter_by b p w f a).next ≡ 0
  mild-copy_awaiter true p w f a = omega (arith, m.handle)
  mild-copy_awaiter false p w f a = omega (arith, m.handles (HandleOp.Register f a (length w.trace)))

  mild-register : (b : Bool) (w : World) (f : ℕ) (a : Waker) (k : ℕ) → weigh v (acts.register_by b w f a k).next ≡ 0
  mild-register true w f a k =
      omega (arith, mild-none (Op.Waker (WakerOp.CallAwaiter f a k)) refl, m.handles (HandleOp.LookAgain f))
  mild-register false w f a k = omega (arith, m.handles (HandleOp.EndRegister f a k))

  mild-goes : (o : Option Awaiter) (f : ℕ) → weigh v (acts.let_go o ++ Op.Handle (HandleOp.LookAgain f) ∷ []) ≡ 0
  mild-goes o f = omega (
    arith,
    weigh-append v (acts.let_go o) (Op.Handle (HandleOp.LookAgain f) ∷ []),
    aside-let_go v mild-aside o,
    m.handles (HandleOp.LookAgain f),
  )

  mild-end_register : (b : Bool) (w : World) (f : ℕ) (a : Waker) (k : ℕ) →
      weigh v (acts.end_register_by b w f a k).next ≡ 0
  mild-end_register true w f a k =
      omega (arith, mild-none (Op.Waker (WakerOp.CallAwaiter f a k)) refl, mild-goes (awaiter_of w f) f)
  mild-end_register false w f a k = mild-goes (awaiter_of w f) f

  mild-make : (b : Bool) (w : World) → weigh v (of_sleepers.make_tick_by b w).next ≡ 0
  mild-make true w = omega (arith, m.executor)
  mild-make false w = omega (arith, m.executor)

  pub mild-next : (p : ℕ) (h : Hint) (o : Op) (w : World) → is_for_runs o ≡ false → weigh v (act p h o w).next ≡ 0
  mild-next p h (Op.Table (TableOp.Enter mark)) w n = mild-enter _ _ _ p w
  mild-next p h (Op.Queue QueueOp.TakeTurn) w n = omega (arith, m.take (First (first_of w.urgent_turns)))
  mild-next p h (Op.Queue (QueueOp.Take look)) w n = mild-take look _ w
  mild-next p h (Op.Table TableOp.LookAtTable) w n = omega (arith, m.executor (acts.emptiness w.table))
  mild-next p h (Op.Handle (HandleOp.Look f a)) w n =
      mild-look (moves.poll (task w f)).owed.answer p w f a (moves.poll (task w f))
  mild-next p h (Op.Handle (HandleOp.CopyAwaiter f a)) w n = mild-copy_awaiter _ p w f a
  mild-next p h (Op.Handle (HandleOp.Register f a k)) w n = mild-register _ w f a k
  mild-next p h (Op.Handle (HandleOp.EndRegister f a k)) w n = mild-end_register _ w f a k
  mild-next p h (Op.Handle (HandleOp.LookAgain f)) w n =
      mild-again (moves.look_again (task w f)).owed.answer p w f (moves.look_again (task w f))
  mild-next p h (Op.Tick TickOp.MakeTick) w n = mild-make h.refused w
  mild-next p h (Op.Tick (TickOp.Search s)) w n = absurd (cc)
  mild-next p h (Op.Tick (TickOp.Look s look)) w n = absurd (cc)
  mild-next p h (Op.Tick (TickOp.CopyWaker s)) w n = absurd (cc)
  mild-next p h (Op.Tick (TickOp.FallAsleep s)) w n = absurd (cc)
  mild-next p h (Op.User (UserOp.PollOwn x)) w n = absurd (cc)
  mild-next p h (Op.Waker (WakerOp.CopyWaker f held)) w n = absurd (cc)
  mild-next p h (Op.List o) w n = absurd (cc)
  mild-next p h (Op.Steal o) w n = absurd (cc)
  mild-next p h (Op.Run o) w n = absurd (cc)
  mild-next p h (Op.End r held) w n = absurd (cc)
  mild-next p h o w n = omega (
    arith,
    (calls-act p h o w refl).passes.none refl,
    weigh-below v calling_of m.few (act p h o w).next,
  )
