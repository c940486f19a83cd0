-- For awaiters_are_kept and calls_do_what_they_say.
-- What the steps of the executor's drop look at, and how most of what is done leaves it as it was.
use Rattle.std.proofs.Common.{◌≡◌, ◌⊎◌, ℕ, ◌+◌, ◌<◌, ◌≤◌, List, [], ◌∷◌, ◌++◌, length, Bool, true, false, not, refl, sym, ap}
use Rattle.std.proofs.Common.{◌∙◌, ltb, subst, arith}
use Rattle.std.specs.Prelude.{Option, Some, None}
use Rattle.task_moves.specs.declared.moves.owed.Answer.{Answer}
use Rattle.executor_model.proofs.Types.{Plain, Urgent, Mark, Moved, Move, Reply, Event, Waker, Task, Outside, Hold, Polled, Op}
use Rattle.executor_model.proofs.Types.{ListOp, RunPoll, Steal, StealOp, SleeperOp, TickOp, ClosingOp, HandleOp, QueueOp}
use Rattle.executor_model.specs.Acts.{is_last_waker, is_told, let_go_by, move_by, told_as, enter_by, leave_by, copy_by, look_by}
use Rattle.executor_model.specs.World.{World, Done, done, log, log_if, task}
use Rattle.executor_model.specs.Acts.{look_again_by, copy_awaiter_by, register_by, end_register_by, notify_by, call_awaiter}
use Rattle.executor_model.specs.ActsOfRuns.{call_by_reference, free_places, kept_by, put_refused, wake_own}
use Rattle.executor_model.specs.{Queues.Queues, Carried.awaiter_ops, Doing.act, Doing.list_act, Weights.weigh}
use Rattle.executor_model.specs.{Weights.weigh_all, Rows.Row, Rows.ousting_of, Steps.mine}
use Rattle.executor_model.proofs.Steps.RunsPlain.{plain-list, plain-run, plain-steal}
use Rattle.executor_model.proofs.Awaiters.SleepersWorlds.{Rest, sleeper-rest, tick-rest}
use Rattle.executor_model.proofs.Awaiters.AwaitedLists.{rough_of, plain-act, is_special}
use Rattle.executor_model.proofs.{Types.TableOp, Types.UserOp, Types.WakerOp, Types.Hint}
use Rattle.executor_model.proofs.Steps.RunsMoves.{Moves, Same, moves-refused}
use Rattle.executor_model.proofs.{Awaiters.RunsQueue.queue-list, Steps.RunsWays.AllOfRuns, Steps.RunsWays.by-list}
use Rattle.task_moves.specs.Moves as moves

-- what the drop of the executor looks at
pub record Lists : Type 0 where
  pub gone : Bool
  pub leaving : ℕ
  pub waking : ℕ
  pub urgent_closed : Bool
  pub plain_closed : Bool
  pub urgent_items : ℕ
  pub plain_items : ℕ

abbrev pub lists : World → Lists
lists w = record {
  gone = w.gone;
  leaving = length w.leaving;
  waking = length w.waking;
  urgent_closed = w.queues.urgent.closed;
  plain_closed = w.queues.plain.closed;
  urgent_items = length w.queues.urgent.items;
  plain_items = length w.queues.plain.items;
}

abbrev pub dropping_of : Op → ℕ
dropping_of (Op.Closing ClosingOp.DropNext) = 1
dropping_of _ = 0

abbrev pub rousing_of : Op → ℕ
rousing_of (Op.Closing ClosingOp.WakeNext) = 1
rousing_of _ = 0

abbrev pub shutting_urgent_of : Op → ℕ
shutting_urgent_of (Op.Closing (ClosingOp.Close Urgent)) = 1
shutting_urgent_of _ = 0

abbrev pub shutting_plain_of : Op → ℕ
shutting_plain_of (Op.Closing (ClosingOp.Close Plain)) = 1
shutting_plain_of _ = 0

abbrev pub draining_urgent_of : Op → ℕ
draining_urgent_of (Op.Closing (ClosingOp.Drain Urgent)) = 1
draining_urgent_of _ = 0

abbrev pub draining_plain_of : Op → ℕ
draining_plain_of (Op.Closing (ClosingOp.Drain Plain)) = 1
draining_plain_of _ = 0

-- the steps that are left of it
pub record Sweep : Type 0 where
  pub outs : ℕ
  pub drops : ℕ
  pub wakes : ℕ
  pub shuts_urgent : ℕ
  pub shuts_plain : ℕ
  pub drains_urgent : ℕ
  pub drains_plain : ℕ

abbrev pub with_sweep : List Op → Sweep → Sweep
with_sweep os r = record {
  outs = weigh ousting_of os + r.outs;
  drops = weigh dropping_of os + r.drops;
  wakes = weigh rousing_of os + r.wakes;
  shuts_urgent = weigh shutting_urgent_of os + r.shuts_urgent;
  shuts_plain = weigh shutting_plain_of os + r.shuts_plain;
  drains_urgent = weigh draining_urgent_of os + r.drains_urgent;
  drains_plain = weigh draining_plain_of os + r.drains_plain;
}

abbrev pub sweep : List (List Op) → Sweep
sweep ss = record {
  outs = weigh_all ousting_of ss;
  drops = weigh_all dropping_of ss;
  wakes = weigh_all rousing_of ss;
  shuts_urgent = weigh_all shutting_urgent_of ss;
  shuts_plain = weigh_all shutting_plain_of ss;
  drains_urgent = weigh_all draining_urgent_of ss;
  drains_plain = weigh_all draining_plain_of ss;
}

-- until both queues are closed, and all of them
abbrev pub shuts_left : Sweep → ℕ
shuts_left x = x.outs + (x.drops + (x.wakes + (x.shuts_urgent + x.shuts_plain)))

abbrev pub steps_of : Sweep → ℕ
steps_of x = shuts_left x + (x.drains_urgent + x.drains_plain)

-- there is one such step at a time, and it does what is left to do
pub record Sweeps (v : Lists) (x : Sweep) : Type 0 where
  pub one : steps_of x ≤ 1
  pub there : v.gone ≡ false → steps_of x ≡ 0
  pub leaves : 1 ≤ x.drops → 1 ≤ v.leaving
  pub wakes : 1 ≤ x.wakes → 1 ≤ v.waking
  pub awake : v.gone ≡ true → (1 ≤ x.outs + (x.drops + x.wakes)) ⊎ (v.waking ≡ 0)
  -- the urgent queue is closed first, and drained first
  pub urgent_shut : v.gone ≡ true → (1 ≤ x.outs + (x.drops + (x.wakes + x.shuts_urgent))) ⊎ (v.urgent_closed ≡ true)
  pub plain_shut : v.gone ≡ true → (1 ≤ shuts_left x) ⊎ (v.plain_closed ≡ true)
  pub urgent_drained : v.gone ≡ true → (1 ≤ shuts_left x + x.drains_urgent) ⊎ (v.urgent_items ≡ 0)
  pub plain_drained : v.gone ≡ true → (1 ≤ steps_of x) ⊎ (v.plain_items ≡ 0)

abbrev pub KeepsSweeps : World → List Op → Done → Type 0
KeepsSweeps w old d = (r : Sweep) → Sweeps (lists w) (with_sweep old r) → Sweeps (lists d.world) (with_sweep d.next r)

abbrev step_of : Op → ℕ
step_of o = ousting_of o + (dropping_of o + (rousing_of o + (shutting_urgent_of o + (shutting_plain_of o
    + (draining_urgent_of o + draining_plain_of o)))))

rough-more : (o : Op) → step_of o ≤ rough_of o
rough-more (Op.Closing (ClosingOp.Close Urgent)) = omega arith
rough-more (Op.Closing (ClosingOp.Close Plain)) = omega arith
rough-more (Op.Closing (ClosingOp.Drain Urgent)) = omega arith
rough-more (Op.Closing (ClosingOp.Drain Plain)) = omega arith
rough-more (Op.Closing ClosingOp.TakeOut) = omega arith
rough-more (Op.Handle (HandleOp.Notify f true)) = omega arith
rough-more (Op.Move Move.Wake f) = omega arith
rough-more (Op.Table (TableOp.Enter mark)) = omega arith
rough-more (Op.Queue QueueOp.TakeTurn) = omega arith
rough-more (Op.Queue (QueueOp.Take look)) = omega arith
rough-more (Op.User (UserOp.Drop f)) = omega arith
rough-more (Op.Waker (WakerOp.CopyWaker f held)) = omega arith
rough-more (Op.Sleeper SleeperOp.HandOut) = omega arith
rough-more (Op.Tick TickOp.MakeTick) = omega arith
rough-more (Op.List o) = omega (arith, ap (λ (x : Row). x.ousting) (plain-list o))
rough-more (Op.Steal o) = omega (arith, ap (λ (x : Row). x.ousting) (plain-steal o))
rough-more (Op.Run o) = omega (arith, ap (λ (x : Row). x.ousting) (plain-run o))
rough-more _ = omega arith

-- how many of its steps are there
abbrev pub steps_in : List Op → ℕ
steps_in os = weigh ousting_of os + (weigh dropping_of os + (weigh rousing_of os + (weigh shutting_urgent_of os
    + (weigh shutting_plain_of os + (weigh draining_urgent_of os + weigh draining_plain_of os)))))

rough-weighs : (os : List Op) → steps_in os ≤ weigh rough_of os
rough-weighs [] = omega arith
rough-weighs (o ∷ os) = omega (arith, rough-more o, rough-weighs os)

-- none of its steps is there
abbrev pub NoSteps : List Op → Type 0
NoSteps os = steps_in os ≡ 0

pub no-steps : (os : List Op) → weigh rough_of os ≡ 0 → NoSteps os
no-steps os z = omega (arith, rough-weighs os, z)

pub with-none : (os : List Op) (r : Sweep) → NoSteps os → with_sweep os r ≡ r
with-none os r z = λ i. record {
  outs = (let q : weigh ousting_of os + r.outs ≡ r.outs = omega (arith, z) in q) i;
  drops = (let q : weigh dropping_of os + r.drops ≡ r.drops = omega (arith, z) in q) i;
  wakes = (let q : weigh rousing_of os + r.wakes ≡ r.wakes = omega (arith, z) in q) i;
  shuts_urgent = (let q : weigh shutting_urgent_of os + r.shuts_urgent ≡ r.shuts_urgent = omega (arith, z) in q) i;
  shuts_plain = (let q : weigh shutting_plain_of os + r.shuts_plain ≡ r.shuts_plain = omega (arith, z) in q) i;
  drains_urgent = (let q : weigh draining_urgent_of os + r.drains_urgent ≡ r.drains_urgent = omega (arith, z) in q) i;
  drains_plain = (let q : weigh draining_plain_of os + r.drains_plain ≡ r.drains_plain = omega (arith, z) in q) i;
}

pub sweeps-still : (w : World) (old : List Op) (d : Done) → lists w ≡ lists d.world → NoSteps old → NoSteps d.next →
    KeepsSweeps w old d
sweeps-still w old d e a b r h =
    subst (λ (v : Lists). Sweeps v (with_sweep d.next r)) e
    (subst (Sweeps (lists w)) (with-none old r a ∙ sym (with-none d.next r b)) h)

-- most of what is done

pub same-log_if : (b : Bool) (w : World) (e : Event) → lists w ≡ lists (log_if b w e)
same-log_if true w e = refl
same-log_if false w e = refl

same-move : (b : Bool) (m : Move) (p : ℕ) (w : World) (f : ℕ) → lists w ≡ lists (move_by b m p w f).world
same-move true m p w f = let v = log_if (is_told m (task w f)) w (told_as m p f) in
    same-log_if (is_told m (task w f)) w (told_as m p f)
    ∙ same-log_if (is_last_waker m (task w f)) v (Event.LastWaker p f)
same-move false m p w f = refl

same-let_go : (b : Bool) (w : World) (f : ℕ) → lists w ≡ lists (let_go_by b w f).world
same-let_go true w f = refl
same-let_go false w f = refl

same-enter : (b c : Bool) (mark : Mark) (p : ℕ) (w : World) → lists w ≡ lists (enter_by b c mark p w).world
same-enter true c mark p w = refl
same-enter false true mark p w = refl
same-enter false false mark p w = refl

same-leave : (b : Bool) (w : World) (f : ℕ) → lists w ≡ lists (leave_by b w f).world
same-leave true w f = refl
same-leave false w f = refl

same-copy : (b : Bool) (w : World) (f : ℕ) (held : Hold) → lists w ≡ lists (copy_by b w f held).world
same-copy true w f held = refl
same-copy false w f held = refl

same-look : (o : Option Answer) (p : ℕ) (w : World) (f : ℕ) (a : Waker) (m : Moved) →
    lists w ≡ lists (look_by o p w f a m).world
same-look None p w f a m = refl
same-look (Some x) p w f a m = same-log_if _ _ (Event.OutputGiven p f)

same-again : (o : Option Answer) (p : ℕ) (w : World) (f : ℕ) (m : Moved) →
    lists w ≡ lists (look_again_by o p w f m).world
same-again None p w f m = refl
same-again (Some x) p w f m = same-log_if _ _ (Event.OutputGiven p f)

same-copy_awaiter : (b : Bool) (p : ℕ) (w : World) (f : ℕ) (a : Waker) →
    lists w ≡ lists (copy_awaiter_by b p w f a).world
same-copy_awaiter true p w f a = refl
same-copy_awaiter false p w f (Task k) = refl
same-copy_awaiter false p w f (Outside x) = refl

same-register : (b : Bool) (w : World) (f : ℕ) (a : Waker) (k : ℕ) → lists w ≡ lists (register_by b w f a k).world
same-register true w f a k = refl
same-register false w f a k = refl

same-end_register : (b : Bool) (w : World) (f : ℕ) (a : Waker) (k : ℕ) →
    lists w ≡ lists (end_register_by b w f a k).world
same-end_register true w f a k = refl
same-end_register false w f a k = refl

same-notify : (b : Bool) (w : World) (f : ℕ) (mine : Bool) → lists w ≡ lists (notify_by b w f mine).world
same-notify true w f mine = refl
same-notify false w f mine = refl

same-call : (p : ℕ) (w : World) (f : ℕ) (a : Waker) (k : ℕ) → lists w ≡ lists (call_awaiter p w f a k).world
same-call p w f (Task g) k = same-log_if _ (log w (Event.WakerCalled p (Polled.Handle f) k (Task g))) (Event.Woken p g)
same-call p w f (Outside x) k = refl

abbrev lists_in : Rest → Lists
lists_in r = record {
  gone = r.gone;
  leaving = length r.leaving;
  waking = length r.waking;
  urgent_closed = r.queue.urgent.closed;
  plain_closed = r.queue.plain.closed;
  urgent_items = length r.queue.urgent.items;
  plain_items = length r.queue.plain.items;
}

-- what a run does keeps whether the executor is gone, and the two lists
pub record Kept (w : World) (old : List Op) (d : Done) : Type 0 where
  pub gone : d.world.gone ≡ w.gone
  pub leaving : d.world.leaving ≡ w.leaving
  pub waking : d.world.waking ≡ w.waking

kept-same : (w : World) (old : List Op) (d : Done) → Same w d.world → Kept w old d
kept-same w old d m = record { gone = m.gone; leaving = m.leaving; waking = m.waking }

pub kept-moves : (w : World) (old : List Op) (d : Done) → AllOfRuns old → AllOfRuns d.next → Moves w old d → Kept w old d
kept-moves w old d a n m = kept-same w old d m.same

pub kept-refused : (w : World) (s : Steal) (more f : ℕ) → ltb 0 (free_places w s.poll.run) ≡ false →
    Kept w (Op.Steal (StealOp.Put s more f) ∷ []) (put_refused s.then w s.poll f)
kept-refused w s more f e =
    kept-same w (Op.Steal (StealOp.Put s more f) ∷ []) _ (moves-refused s.then w s.poll s.from more f).same

pub kept-put : (p : ℕ) (w : World) (s : Steal) (more f : ℕ) (d : Done) → s.poll.run < length w.own →
    Kept (kept_by p w s.poll.run f) (Op.Steal (StealOp.OwnLength s 0) ∷ []) d →
    Kept w (Op.Steal (StealOp.Put s more f) ∷ []) d
kept-put p w s more f d i k = record { gone = k.gone; leaving = k.leaving; waking = k.waking }

kept-log_if : (b : Bool) (w : World) (e : Event) (old next : List Op) → Kept w old (done (log_if b w e) next)
kept-log_if true w e old next = record { gone = refl; leaving = refl; waking = refl }
kept-log_if false w e old next = record { gone = refl; leaving = refl; waking = refl }

kept-by_waker : (p : ℕ) (a : Waker) (w : World) (old : List Op) → Kept w old (call_by_reference p w a)
kept-by_waker p (Task f) w old =
    let k = kept-log_if (not (moves.is_over (task w f))) w (Event.Woken p f) old [] in
    record { gone = k.gone; leaving = k.leaving; waking = k.waking }
kept-by_waker p (Outside y) w old = record { gone = refl; leaving = refl; waking = refl }

pub kept-own : (p : ℕ) (w : World) (x : RunPoll) (old : List Op) → Kept w old (wake_own p w x)
kept-own p w x old =
    let k = kept-by_waker p x.waker (log w (Event.WakerCalled p (Polled.Run x.run) x.poll x.waker)) old in
    record { gone = k.gone; leaving = k.leaving; waking = k.waking }

kept-list : (h : Hint) (o : ListOp) (w : World) → Kept w (Op.List o ∷ []) (list_act h o w)
kept-list h o w = by-list Kept kept-moves kept-put h o w

same-lists : (w : World) (old : List Op) (d : Done) → Kept w old d → d.world.queues ≡ w.queues → lists w ≡ lists d.world
same-lists w old d k q = λ i. record {
  gone = sym k.gone i;
  leaving = (let e : length w.leaving ≡ length d.world.leaving = ap length (sym k.leaving) in e) i;
  waking = (let e : length w.waking ≡ length d.world.waking = ap length (sym k.waking) in e) i;
  urgent_closed = (let e : w.queues.urgent.closed ≡ d.world.queues.urgent.closed =
      ap (λ (x : Queues). x.urgent.closed) (sym q) in e) i;
  plain_closed = (let e : w.queues.plain.closed ≡ d.world.queues.plain.closed =
      ap (λ (x : Queues). x.plain.closed) (sym q) in e) i;
  urgent_items = (let e : length w.queues.urgent.items ≡ length d.world.queues.urgent.items =
      ap (λ (x : Queues). length x.urgent.items) (sym q) in e) i;
  plain_items = (let e : length w.queues.plain.items ≡ length d.world.queues.plain.items =
      ap (λ (x : Queues). length x.plain.items) (sym q) in e) i;
}

-- the queues, the two lists and their steps
abbrev pub is_sweeping : Op → Bool
is_sweeping (Op.Queue QueueOp.TakeTurn) = true
is_sweeping (Op.Queue (QueueOp.Take look)) = true
is_sweeping (Op.Queue (QueueOp.Append f)) = true
is_sweeping (Op.Tick (TickOp.Search s)) = true
is_sweeping (Op.Tick (TickOp.Look s look)) = true
is_sweeping (Op.Steal o) = true
is_sweeping (Op.Run o) = true
is_sweeping (Op.Closing ClosingOp.TakeOut) = true
is_sweeping (Op.Closing ClosingOp.DropNext) = true
is_sweeping (Op.Closing ClosingOp.WakeNext) = true
is_sweeping (Op.Closing (ClosingOp.Close mark)) = true
is_sweeping (Op.Closing (ClosingOp.Drain mark)) = true
is_sweeping (Op.Closing ClosingOp.LeakOut) = true
is_sweeping (Op.Closing ClosingOp.LeakNext) = true
is_sweeping _ = false

pub same-act : (p : ℕ) (h : Hint) (o : Op) (w : World) → is_sweeping o ≡ false → lists w ≡ lists (act p h o w).world
same-act p h (Op.Table (TableOp.Enter mark)) w n = same-enter _ _ _ p w
same-act p h (Op.Move m f) w n = same-move _ m p w f
same-act p h (Op.Table (TableOp.LeaveTable f)) w n = same-leave _ w f
same-act p h (Op.Waker (WakerOp.CopyWaker f held)) w n = same-copy _ w f held
same-act p h (Op.Handle (HandleOp.Look f a)) w n =
    same-look (moves.poll (task w f)).owed.answer p w f a (moves.poll (task w f))
same-act p h (Op.Handle (HandleOp.CopyAwaiter f a)) w n = same-copy_awaiter _ p w f a
same-act p h (Op.Handle (HandleOp.Register f a k)) w n = same-register _ w f a k
same-act p h (Op.Handle (HandleOp.EndRegister f a k)) w n = same-end_register _ w f a k
same-act p h (Op.Handle (HandleOp.LookAgain f)) w n =
    same-again (moves.look_again (task w f)).owed.answer p w f (moves.look_again (task w f))
same-act p h (Op.Handle (HandleOp.Notify f mine)) w n = same-notify _ w f mine
same-act p h (Op.Handle (HandleOp.LetGo f)) w n = same-let_go _ w f
same-act p h (Op.Waker (WakerOp.CallAwaiter f a k)) w n = same-call p w f a k
same-act p h (Op.Sleeper o) w n = ap lists_in (sleeper-rest p o w)
same-act p h (Op.Tick TickOp.MakeTick) w n = ap lists_in (tick-rest p h TickOp.MakeTick w refl)
same-act p h (Op.Tick (TickOp.Search s)) w n = absurd (cc)
same-act p h (Op.Tick (TickOp.Look s look)) w n = absurd (cc)
same-act p h (Op.Tick (TickOp.CopyWaker s)) w n = ap lists_in (tick-rest p h (TickOp.CopyWaker s) w refl)
same-act p h (Op.Tick (TickOp.FallAsleep s)) w n = ap lists_in (tick-rest p h (TickOp.FallAsleep s) w refl)
same-act p h (Op.Tick (TickOp.WakeUp t)) w n = ap lists_in (tick-rest p h (TickOp.WakeUp t) w refl)
same-act p h (Op.Tick (TickOp.Leave t)) w n = ap lists_in (tick-rest p h (TickOp.Leave t) w refl)
same-act p h (Op.List o) w n = same-lists w (Op.List o ∷ []) (list_act h o w) (kept-list h o w) (queue-list h o w)
same-act p h (Op.Steal o) w n = absurd (cc)
same-act p h (Op.Run o) w n = absurd (cc)
same-act p h (Op.Queue QueueOp.TakeTurn) w n = absurd (cc)
same-act p h (Op.Queue _) w n = absurd (cc)
same-act p h (Op.Closing ClosingOp.TakeOut) w n = absurd (cc)
same-act p h (Op.Closing _) w n = absurd (cc)
same-act p h (Op.User (UserOp.BeginDrop f)) w n = refl
same-act p h _ w n = refl

-- what a poll of the handle leads to

no-look : (x k c : Bool) (p : ℕ) (w : World) (f : ℕ) (a : Waker) →
    NoSteps (look_by (moves.poll_by x k c (task w f)).owed.answer p w f a (moves.poll_by x k c (task w f))).next
no-look true true c p w f a = refl
no-look true false c p w f a = refl
no-look false k false p w f a = refl
no-look false k true p w f a = no-given (task w f).awaiter f
  where
    no-given : (b : Bool) (f : ℕ) →
        NoSteps (awaiter_ops f (moves.notify_other_if b) ++ Op.End Reply.Ready (Hold.Handle f) ∷ [])
    no-given true f = refl
    no-given false f = refl

no-again : (x k c : Bool) (p : ℕ) (w : World) (f : ℕ) →
    NoSteps (look_again_by (moves.look_again_by x k c (task w f)).owed.answer p w f
    (moves.look_again_by x k c (task w f))).next
no-again true true c p w f = refl
no-again true false c p w f = refl
no-again false k false p w f = refl
no-again false k true p w f = no-given (task w f).awaiter f
  where
    no-given : (b : Bool) (f : ℕ) →
        NoSteps (awaiter_ops f (moves.notify_other_if b) ++ Op.End Reply.Ready (Hold.Handle f) ∷ [])
    no-given true f = refl
    no-given false f = refl

no-notify : (b : Bool) (w : World) (f : ℕ) (mine : Bool) → NoSteps (notify_by b w f mine).next
no-notify true w f mine = refl
no-notify false w f mine = refl

pub no-self : (o : Op) → is_sweeping o ≡ false → NoSteps (o ∷ [])
no-self (Op.Closing ClosingOp.TakeOut) n = absurd (cc)
no-self (Op.Closing _) n = absurd (cc)
no-self (Op.List o) n = omega (arith, ap (λ (x : Row). x.ousting) (plain-list o))
no-self (Op.Steal o) n = absurd (cc)
no-self (Op.Run o) n = absurd (cc)
no-self (Op.Move Move.Wake f) n = refl
no-self (Op.Table (TableOp.Enter mark)) n = refl
no-self (Op.Queue QueueOp.TakeTurn) n = refl
no-self (Op.Queue (QueueOp.Take look)) n = refl
no-self (Op.User (UserOp.Drop f)) n = refl
no-self (Op.Waker (WakerOp.CopyWaker f held)) n = refl
no-self (Op.Handle (HandleOp.LookAgain f)) n = refl
no-self (Op.Sleeper SleeperOp.HandOut) n = refl
no-self (Op.Tick TickOp.MakeTick) n = refl
no-self _ n = refl

pub no-act : (p : ℕ) (h : Hint) (o : Op) (w : World) (b : Bool) → is_special o ≡ b → is_sweeping o ≡ false →
    NoSteps (act p h o w).next
no-act p h o w false s n = no-steps _ (plain-act p h o w s)
no-act p h (Op.Handle (HandleOp.Look f a)) w true s n = no-look _ _ _ p w f a
no-act p h (Op.Handle (HandleOp.LookAgain f)) w true s n = no-again _ _ _ p w f
no-act p h (Op.Handle (HandleOp.Notify f mine)) w true s n = no-notify _ w f mine
no-act p h (Op.Closing ClosingOp.TakeOut) w true s n = absurd (cc)
no-act p h (Op.Closing _) w true s n = absurd (cc)
no-act p h _ w true s n = absurd (cc)
