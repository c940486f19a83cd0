-- For awaiters_are_kept and calls_do_what_they_say.
-- Where the drop of the executor has begun and none of its steps is left, nobody is to be woken and both queues are empty.
use Rattle.std.proofs.Common.{◌≡◌, ℕ, suc, ◌+◌, ◌<◌, ◌≤◌, List, [], ◌∷◌, ◌++◌, length, set, get_or, drop, Bool, true, false}
use Rattle.std.proofs.Common.{◌&&◌, ◌||◌, not, refl, sym, ap, ◌∙◌, subst, inl, inr, ⊎_elim, arith}
use Rattle.std.proofs.lemmas.List.{length-append}
use Rattle.std.specs.Prelude.{Option, Some, None, reverse}
use Rattle.queue_steps.specs.ClosableQueue.{taken}
use Rattle.executor_model.proofs.Types.{Plain, Urgent, Look, Mark, First, Second, Kind, Call, Reply, Answer, Event, Waker, Hold}
use Rattle.executor_model.proofs.Types.{Op, RunOp, RunPoll, TickOrRun, Sleeping, StealOp, TickOp, ClosingOp, QueueOp, UserOp}
use Rattle.executor_model.specs.Acts.{mark_in, turned, append_by, take_by, closing_ops, drop_next_by, wake, wake_next_by, close}
use Rattle.executor_model.specs.Steps.{Machine, stack, top, run, start, mine, is_on_executor, is_drop, future_of, kept}
use Rattle.executor_model.specs.World.{queue_of, put_queue, mark_of, World, Ticker, Awake, Asleep, Left, Done, done, log, task}
use Rattle.executor_model.specs.Acts.{drain_by, leak_next_by, leak_out_by}
use Rattle.executor_model.specs.Doing.{act, run_act, search_by_who, steal_act}
use Rattle.executor_model.specs.Steps.{with_future, accepts, begun, react}
use Rattle.executor_model.specs.{ActsOfSleepers.look_tick_by, ActsOfRuns.search_own, Rows.Row, Rows.ousting_of, Good.Good}
use Rattle.executor_model.proofs.Awaiters.AwaitedSweeps.{KeepsSweeps, Kept, Lists, NoSteps, Sweep, Sweeps, dropping_of}
use Rattle.executor_model.proofs.Awaiters.AwaitedSweeps.{draining_plain_of, draining_urgent_of, shuts_left, steps_of}
use Rattle.executor_model.proofs.Awaiters.AwaitedSweeps.{shutting_plain_of, shutting_urgent_of, is_sweeping, kept-moves}
use Rattle.executor_model.proofs.Awaiters.AwaitedSweeps.{kept-own, kept-put, kept-refused, lists, no-act, no-self, no-steps, rousing_of}
use Rattle.executor_model.proofs.Steps.Lift.{split, unsettled, good-start, none_refused, open_executor, weigh_all-idle}
use Rattle.executor_model.proofs.Steps.Ways.Way.{acted, reacted, called}
use Rattle.executor_model.proofs.Awaiters.RunsQueue.{Fewer, fewer, takes-run, takes-search, takes-steal}
use Rattle.executor_model.proofs.Steps.RunsWays.{by-run, by-search, by-steal}
use Rattle.executor_model.proofs.Awaiters.AwaitedLists.{plain-act, plain-begun, plain-wake, rough_of}
use Rattle.executor_model.proofs.Awaiters.AwaitedSweeps.{same-act, same-log_if, sweep, sweeps-still, with-none, with_sweep}
use Rattle.executor_model.proofs.Steps.Asides.{aside-leak_next, aside-leak_out}
use Rattle.executor_model.proofs.{Types.Hint, Types.Step, Types.UserEnd, Steps.Cases.by_list}
use Rattle.executor_model.proofs.{Steps.Lists.weigh-append, Steps.Lists.weigh_all-push, Steps.Ways.Way, Steps.Ways.along}
use Rattle.executor_model.proofs.{Steps.RunsPlain.plain-run, Steps.RunsPlain.plain-steal, Awaiters.RunsQueue.Takes.first}
use Rattle.task_moves.specs.Moves as moves

-- the queues

open-queue : (c l : Bool) → (not c && l) ≡ true → c ≡ false
open-queue false l e = refl
open-queue true l e = absurd (cc)

sweeps-append : (b : Bool) (w : World) (mark : Mark) (f : ℕ) → (b ≡ true → (queue_of w mark).closed ≡ false) →
    KeepsSweeps w (Op.Queue (QueueOp.Append f) ∷ []) (append_by b w mark f)
sweeps-append true w Urgent f c r h = let z : w.queues.urgent.closed ≡ false = c refl in grind (arith, length-append)
sweeps-append true w Plain f c r h = let z : w.queues.plain.closed ≡ false = c refl in grind (arith, length-append)
sweeps-append false w mark f c r h = grind arith

-- the first of a queue is taken at most
sweeps-less : (w : World) (o : Op) (d : Done) → Kept w (o ∷ []) d → Fewer w d.world → NoSteps (o ∷ []) →
    NoSteps d.next → KeepsSweeps w (o ∷ []) d
sweeps-less w o d k f a b r h =
    let x : Sweeps (lists w) r = subst (Sweeps (lists w)) (with-none (o ∷ []) r a) h in
    subst (Sweeps (lists d.world)) (sym (with-none d.next r b)) record {
      one = x.one;
      there = λ e. x.there (sym k.gone ∙ e);
      leaves = λ e. omega (arith, x.leaves e, ap length k.leaving);
      wakes = λ e. omega (arith, x.wakes e, ap length k.waking);
      awake = λ e. ⊎_elim (λ (y : 1 ≤ r.outs + (r.drops + r.wakes)). inl y)
          (λ (y : length w.waking ≡ 0). inr (ap length k.waking ∙ y)) (x.awake (sym k.gone ∙ e));
      urgent_shut = λ e. ⊎_elim (λ (y : 1 ≤ r.outs + (r.drops + (r.wakes + r.shuts_urgent))). inl y)
          (λ (y : w.queues.urgent.closed ≡ true). inr (f.closed Urgent ∙ y)) (x.urgent_shut (sym k.gone ∙ e));
      plain_shut = λ e. ⊎_elim (λ (y : 1 ≤ shuts_left r). inl y)
          (λ (y : w.queues.plain.closed ≡ true). inr (f.closed Plain ∙ y)) (x.plain_shut (sym k.gone ∙ e));
      urgent_drained = λ e. ⊎_elim (λ (y : 1 ≤ shuts_left r + r.drains_urgent). inl y)
          (λ (y : length w.queues.urgent.items ≡ 0). inr (omega (arith, y, f.items Urgent)))
          (x.urgent_drained (sym k.gone ∙ e));
      plain_drained = λ e. ⊎_elim (λ (y : 1 ≤ steps_of r). inl y)
          (λ (y : length w.queues.plain.items ≡ 0). inr (omega (arith, y, f.items Plain)))
          (x.plain_drained (sym k.gone ∙ e));
    }

-- a turn, a look that finds nothing, and one that takes what it finds
sweeps-same : (w v : World) (o : Op) (next : List Op) → lists w ≡ lists v → NoSteps (o ∷ []) → NoSteps next →
    KeepsSweeps w (o ∷ []) (done v next)
sweeps-same w v o next e a b = sweeps-still w (o ∷ []) (done v next) e a b

kept-taken : (w : World) (mark : Mark) (o : Op) (next : List Op) →
    Kept w (o ∷ []) (done (put_queue w mark (taken (queue_of w mark))) next)
kept-taken w mark o next = record { gone = refl; leaving = refl; waking = refl }

sweeps-taken : (w : World) (mark : Mark) (o : Op) (next : List Op) → NoSteps (o ∷ []) → NoSteps next →
    KeepsSweeps w (o ∷ []) (done (put_queue w mark (taken (queue_of w mark))) next)
sweeps-taken w mark o next a b = sweeps-less w o _ (kept-taken w mark o next) (fewer w _ (first mark refl)) a b

sweeps-take : (look : Look) (q : List ℕ) (w : World) → KeepsSweeps w (Op.Queue (QueueOp.Take look) ∷ []) (take_by w look q)
sweeps-take (First mark) [] w = sweeps-same w w (Op.Queue (QueueOp.Take (First mark))) (take_by w (First mark) []).next
    refl refl refl
sweeps-take (Second mark) [] w = sweeps-same w w (Op.Queue (QueueOp.Take (Second mark))) (take_by w (Second mark) []).next
    refl refl refl
sweeps-take look (f ∷ rest) w =
    sweeps-taken w (mark_in look) (Op.Queue (QueueOp.Take look)) (take_by w look (f ∷ rest)).next refl refl

sweeps-search : (look : Look) (x : Ticker) (q : List ℕ) (w : World) (s : Sleeping) →
    KeepsSweeps w (Op.Tick (TickOp.Look s look) ∷ []) (look_tick_by x w look q s)
sweeps-search (First mark) x [] w s = sweeps-same w w (Op.Tick (TickOp.Look s (First mark)))
    (look_tick_by x w (First mark) [] s).next refl refl refl
sweeps-search (Second mark) x [] w s = sweeps-same w w (Op.Tick (TickOp.Look s (Second mark)))
    (look_tick_by x w (Second mark) [] s).next refl refl refl
sweeps-search look Awake (f ∷ rest) w s = sweeps-taken w (mark_in look) (Op.Tick (TickOp.Look s look))
    (look_tick_by Awake w look (f ∷ rest) s).next refl refl
sweeps-search look (Asleep n) (f ∷ rest) w s = sweeps-taken w (mark_in look) (Op.Tick (TickOp.Look s look))
    (look_tick_by (Asleep n) w look (f ∷ rest) s).next refl refl
sweeps-search look Left (f ∷ rest) w s = sweeps-taken w (mark_in look) (Op.Tick (TickOp.Look s look))
    (look_tick_by Left w look (f ∷ rest) s).next refl refl

sweeps-steal : (p : ℕ) (h : Hint) (o : StealOp) (w : World) → KeepsSweeps w (Op.Steal o ∷ []) (steal_act p o w)
sweeps-steal p h o w = sweeps-less w (Op.Steal o) (steal_act p o w) (by-steal Kept kept-moves kept-put kept-refused p o w)
    (fewer w _ (takes-steal p o w)) (omega (arith, ap (λ (x : Row). x.ousting) (plain-steal o)))
    (no-steps _ (plain-act p h (Op.Steal o) w refl))

sweeps-run : (p : ℕ) (h : Hint) (o : RunOp) (w : World) → KeepsSweeps w (Op.Run o ∷ []) (run_act p h o w)
sweeps-run p h o w =
    sweeps-less w (Op.Run o) (run_act p h o w) (by-run Kept kept-moves kept-put p h o w (λ x e. kept-own p w x _)
    (λ x. record { gone = refl; leaving = refl; waking = refl }))
    (fewer w _ (takes-run p h o w)) (omega (arith, ap (λ (x : Row). x.ousting) (plain-run o)))
    (no-steps _ (plain-act p h (Op.Run o) w refl))

sweeps-search_who : (h : Hint) (who : TickOrRun) (p : ℕ) (w : World) (s : Sleeping) → s.who ≡ who →
    KeepsSweeps w (Op.Tick (TickOp.Search s) ∷ []) (search_by_who who p w s)
sweeps-search_who h (TickOrRun.Tick t) p w s e = sweeps-same w (turned p w) (Op.Tick (TickOp.Search s))
    (search_by_who (TickOrRun.Tick t) p w s).next refl refl refl
sweeps-search_who h (TickOrRun.Run q) p w s e =
    let x : RunPoll = record { run = q; waker = s.waker; poll = s.poll } in
    sweeps-less w (Op.Tick (TickOp.Search s)) (search_own w x) (by-search Kept kept-moves kept-put w q s e)
    (fewer w _ (takes-search w x)) refl (no-steps _ (plain-act 0 h
    (Op.Tick (TickOp.Search (record s { who = TickOrRun.Run q }))) w refl))

-- the steps of the executor's drop

sweeps-take_out : (ls ws : List ℕ) (w : World) → w.table ≡ ls → w.waking ≡ ws →
    KeepsSweeps w (Op.Closing ClosingOp.TakeOut ∷ [])
    (done (record w { table = w.leaving; leaving = w.table }) (closing_ops ls ws))
sweeps-take_out = by_list _
    (by_list _
    (λ w e q r h. let z : length w.waking ≡ 0 = ap length q in grind arith)
    (λ x ws w e q r h. let z : length w.waking ≡ suc (length ws) = ap length q in grind arith))
    (λ x ls ws w e q r h. let z : length w.table ≡ suc (length ls) = ap length e in grind arith)

sweeps-closing : (rest ws : List ℕ) (p : ℕ) (w : World) (f : ℕ) → 1 ≤ length ws → ws ≡ w.waking ++ f ∷ [] →
    w.leaving ≡ f ∷ rest → KeepsSweeps w (Op.Closing ClosingOp.DropNext ∷ [])
    (done (log (record w { leaving = rest; waking = ws; inside = set w.inside f false }) (Event.Dropped p f))
    (Op.User (UserOp.Drop f) ∷ closing_ops rest ws))
sweeps-closing = by_list _
    (by_list _
    (λ p w f n q e r h. absurd (omega (arith, n)))
    (λ y ws p w f n q e r h. grind arith))
    (λ y ls ws p w f n q e r h. grind arith)

sweeps-drop_next : (p : ℕ) (w : World) (ls : List ℕ) → w.leaving ≡ ls →
    KeepsSweeps w (Op.Closing ClosingOp.DropNext ∷ []) (drop_next_by p w ls)
sweeps-drop_next = λ p w. by_list _
    (λ e r h. let z : length w.leaving ≡ 0 = ap length e in absurd (grind arith))
    (λ f rest e r h. sweeps-closing rest (w.waking ++ f ∷ []) p w f (omega (arith, length-append w.waking (f ∷ [])))
    refl e r h)

sweeps-woken : (rest : List ℕ) (o : Bool) (p : ℕ) (w v : World) (f : ℕ) (next : List Op) → w.waking ≡ f ∷ rest →
    lists (record w { waking = rest }) ≡ lists v → NoSteps next →
    KeepsSweeps w (Op.Closing ClosingOp.WakeNext ∷ []) (done v (next ++ closing_ops [] rest))
sweeps-woken = by_list _
    (λ o p w v f next e q n r h.
    subst (λ (l : Lists). Sweeps l (with_sweep (next ++ Op.Closing (ClosingOp.Close Urgent) ∷ []) r)) q
    (let a : _ = weigh-append ousting_of next (Op.Closing (ClosingOp.Close Urgent) ∷ []) in
    let b : _ = weigh-append dropping_of next (Op.Closing (ClosingOp.Close Urgent) ∷ []) in
    let c : _ = weigh-append rousing_of next (Op.Closing (ClosingOp.Close Urgent) ∷ []) in
    let d : _ = weigh-append shutting_urgent_of next (Op.Closing (ClosingOp.Close Urgent) ∷ []) in
    let k : _ = weigh-append shutting_plain_of next (Op.Closing (ClosingOp.Close Urgent) ∷ []) in
    let m : _ = weigh-append draining_urgent_of next (Op.Closing (ClosingOp.Close Urgent) ∷ []) in
    let s : _ = weigh-append draining_plain_of next (Op.Closing (ClosingOp.Close Urgent) ∷ []) in grind arith))
    (λ y ys o p w v f next e q n r h.
    subst (λ (l : Lists). Sweeps l (with_sweep (next ++ Op.Closing ClosingOp.WakeNext ∷ []) r)) q
    (let a : _ = weigh-append ousting_of next (Op.Closing ClosingOp.WakeNext ∷ []) in
    let b : _ = weigh-append dropping_of next (Op.Closing ClosingOp.WakeNext ∷ []) in
    let c : _ = weigh-append rousing_of next (Op.Closing ClosingOp.WakeNext ∷ []) in
    let d : _ = weigh-append shutting_urgent_of next (Op.Closing ClosingOp.WakeNext ∷ []) in
    let k : _ = weigh-append shutting_plain_of next (Op.Closing ClosingOp.WakeNext ∷ []) in
    let m : _ = weigh-append draining_urgent_of next (Op.Closing ClosingOp.WakeNext ∷ []) in
    let s : _ = weigh-append draining_plain_of next (Op.Closing ClosingOp.WakeNext ∷ []) in grind arith))

sweeps-wake_next : (p : ℕ) (w : World) (ws : List ℕ) → w.waking ≡ ws →
    KeepsSweeps w (Op.Closing ClosingOp.WakeNext ∷ []) (wake_next_by p w ws)
sweeps-wake_next = λ p w. by_list _
    (λ e r h. let z : length w.waking ≡ 0 = ap length e in absurd (grind arith))
    (λ f rest e r h. sweeps-woken rest true p w (wake p (record w { waking = rest }) f).world f
    (wake p (record w { waking = rest }) f).next e (same-log_if _ (record w { waking = rest }) (Event.Woken p f))
    (no-steps _ (plain-wake p (record w { waking = rest }) f)) r h)

sweeps-close : (mark : Mark) (w : World) → KeepsSweeps w (Op.Closing (ClosingOp.Close mark) ∷ []) (close w mark)
sweeps-close Urgent w r h = grind arith
sweeps-close Plain w r h = grind arith

sweeps-drain : (mark : Mark) (q : List ℕ) (p : ℕ) (w : World) → (queue_of w mark).items ≡ q →
    KeepsSweeps w (Op.Closing (ClosingOp.Drain mark) ∷ []) (drain_by p w mark q)
sweeps-drain Urgent [] p w e r h = let z : length w.queues.urgent.items ≡ 0 = ap length e in grind arith
sweeps-drain Plain [] p w e r h = let z : length w.queues.plain.items ≡ 0 = ap length e in grind arith
sweeps-drain Urgent (f ∷ rest) p w e r h =
    let z : suc (length (drop 1 w.queues.urgent.items)) ≡ length w.queues.urgent.items = rw e refl in grind arith
sweeps-drain Plain (f ∷ rest) p w e r h =
    let z : suc (length (drop 1 w.queues.plain.items)) ≡ length w.queues.plain.items = rw e refl in grind arith

-- a leak goes on only before the drop begins, and there is no such step then
sweeps-open : (w : World) (old : List Op) (d : Done) → w.gone ≡ false → d.world.gone ≡ false → NoSteps old →
    NoSteps d.next → KeepsSweeps w old d
sweeps-open w old d n m a b r h =
    let x : Sweeps (lists w) r = subst (Sweeps (lists w)) (with-none old r a) h in
    let z : steps_of r ≡ 0 = x.there n in
    let no : d.world.gone ≡ true → ⊥ = (λ e. let q : false ≡ true = sym m ∙ e in cc) in
    subst (Sweeps (lists d.world)) (sym (with-none d.next r b)) record {
      one = x.one;
      there = λ e. z;
      leaves = λ e. absurd (omega (arith, e, z));
      wakes = λ e. absurd (omega (arith, e, z));
      awake = λ e. absurd (no e);
      urgent_shut = λ e. absurd (no e);
      plain_shut = λ e. absurd (no e);
      urgent_drained = λ e. absurd (no e);
      plain_drained = λ e. absurd (no e);
    }

sweeps-leak_out : (s n : Bool) (w : World) → w.gone ≡ n →
    KeepsSweeps w (Op.Closing ClosingOp.LeakOut ∷ []) (leak_out_by (s || n) w)
sweeps-leak_out true n w e = λ r h. h
sweeps-leak_out false true w e = λ r h. h
sweeps-leak_out false false w e = sweeps-open w (Op.Closing ClosingOp.LeakOut ∷ []) (leak_out_by false w) e e refl
    (no-steps _ (aside-leak_out rough_of refl false w))

sweeps-leak_next : (b : Bool) (p : ℕ) (w : World) (ws : List ℕ) → w.gone ≡ b →
    KeepsSweeps w (Op.Closing ClosingOp.LeakNext ∷ []) (leak_next_by b p w ws)
sweeps-leak_next true p w ws e = λ r h. h
sweeps-leak_next false p w [] e = λ r h. h
sweeps-leak_next false p w (f ∷ rest) e =
    let v : World = record w { waking = rest } in
    sweeps-open w (Op.Closing ClosingOp.LeakNext ∷ []) (leak_next_by false p w (f ∷ rest)) e
    (ap (λ (x : Lists). x.gone) (sym (same-log_if (not (moves.is_over (task v f))) v (Event.Woken p f))) ∙ e) refl
    (no-steps _ (aside-leak_next rough_of refl plain-wake false p w (f ∷ rest)))

sweeps-act : (b : Bool) (p : ℕ) (h : Hint) (o : Op) (w : World) → is_sweeping o ≡ b →
    KeepsSweeps w (o ∷ []) (act p h o w)
sweeps-act false p h o w n = sweeps-still w (o ∷ []) (act p h o w) (same-act p h o w n) (no-self o n)
    (no-act p h o w _ refl n)
sweeps-act true p h (Op.Queue QueueOp.TakeTurn) w n =
    sweeps-same w (turned p w) (Op.Queue QueueOp.TakeTurn) (act p h (Op.Queue QueueOp.TakeTurn) w).next refl refl refl
sweeps-act true p h (Op.Queue (QueueOp.Take look)) w n = sweeps-take look _ w
sweeps-act true p h (Op.Queue (QueueOp.Append f)) w n = sweeps-append _ w (mark_of w f) f
    (open-queue (queue_of w (mark_of w f)).closed _)
sweeps-act true p h (Op.Tick (TickOp.Search s)) w n = sweeps-search_who h s.who p w s refl
sweeps-act true p h (Op.Tick (TickOp.Look s look)) w n = sweeps-search look _ _ w s
sweeps-act true p h (Op.Steal o) w n = sweeps-steal p h o w
sweeps-act true p h (Op.Run o) w n = sweeps-run p h o w
sweeps-act true p h (Op.Closing ClosingOp.TakeOut) w n = sweeps-take_out _ _ w refl refl
sweeps-act true p h (Op.Closing ClosingOp.DropNext) w n = sweeps-drop_next p w _ refl
sweeps-act true p h (Op.Closing ClosingOp.WakeNext) w n = sweeps-wake_next p w _ refl
sweeps-act true p h (Op.Closing (ClosingOp.Close mark)) w n = sweeps-close mark w
sweeps-act true p h (Op.Closing (ClosingOp.Drain mark)) w n = sweeps-drain mark _ p w refl
sweeps-act true p h (Op.Closing ClosingOp.LeakOut) w n = sweeps-leak_out w.is_static w.gone w refl
sweeps-act true p h (Op.Closing ClosingOp.LeakNext) w n = sweeps-leak_next _ p w _ refl
sweeps-act true p h _ w n = absurd (cc)

sweeps-react : (p : ℕ) (o : Op) (u : UserEnd) (w : World) → accepts o u ≡ true → KeepsSweeps w (o ∷ []) (react p o u w)
sweeps-react p (Op.User (UserOp.Poll f)) (UserEnd.Polled Answer.Pending) w a r h = h
sweeps-react p (Op.User (UserOp.Poll f)) (UserEnd.Polled Answer.Ready) w a r h = h
sweeps-react p (Op.User (UserOp.Drop f)) UserEnd.Done w a r h = h
sweeps-react p (Op.User (UserOp.DropOutput f)) UserEnd.Done w a r h = h
sweeps-react p (Op.User (UserOp.CallOutside x)) UserEnd.Done w a r h = h
sweeps-react p (Op.User (UserOp.PollOwn x)) (UserEnd.Polled Answer.Pending) w a r h = h
sweeps-react p (Op.User (UserOp.PollOwn x)) (UserEnd.Polled Answer.Ready) w a r h = h
sweeps-react p (Op.User (UserOp.DropOwn q)) UserEnd.Done w a r h = h
sweeps-react p _ _ w a r h = absurd (cc)

-- calls

same-with : (w : World) (p : ℕ) (c : Call) (x : Option ℕ) (d : ℕ → Done) → ((f : ℕ) → lists w ≡ lists (d f).world) →
    lists w ≡ lists (with_future (log w (Event.CallBegun p c)) x d).world
same-with w p c None d k = refl
same-with w p c (Some f) d k = k f

same-begun : (p : ℕ) (w : World) (here : Option Waker) (c : Call) → is_drop c ≡ false →
    lists w ≡ lists (begun p (log w (Event.CallBegun p c)) here c).world
same-begun p w here (Call.Wake k) n = same-with w p (Call.Wake k) (kept w k) _ (λ f. refl)
same-begun p w here (Call.WakeByRef k) n = same-with w p (Call.WakeByRef k) (kept w k) _ (λ f. refl)
same-begun p w here (Call.Copy k) n = same-with w p (Call.Copy k) (kept w k) _ (λ f. refl)
same-begun p w here (Call.DropWaker k) n = same-with w p (Call.DropWaker k) (kept w k) _ (λ f. refl)
same-begun p w here Call.Keep n = same-with w p Call.Keep (future_of here) _ (λ f. refl)
same-begun p w here Call.WakeSelf n = same-with w p Call.WakeSelf (future_of here) _ (λ f. refl)
same-begun p w here Call.DropExecutor n = absurd (cc)
same-begun p w here _ n = refl

sweeps-begun : (b : Bool) (p : ℕ) (w : World) (here : Option Waker) (c : Call) → is_drop c ≡ b →
    not (w.gone && is_on_executor c) ≡ true → KeepsSweeps w [] (begun p (log w (Event.CallBegun p c)) here c)
sweeps-begun false p w here c n on =
    sweeps-still w [] (begun p (log w (Event.CallBegun p c)) here c) (same-begun p w here c n) refl
    (no-steps _ (plain-begun p (log w (Event.CallBegun p c)) here c n))
sweeps-begun true p w here Call.DropExecutor n on =
    λ r h. let z : w.gone ≡ false = open_executor w Call.DropExecutor refl on in grind arith
sweeps-begun true p w here _ n on = absurd (cc)

sweeps-way : (s : Machine) (p : ℕ) (old rest : List Op) (d : Done) → Way s p old rest d → KeepsSweeps s.world old d
sweeps-way s p old rest d (acted h o q z) = rw z (rw q (sweeps-act _ p h o s.world refl))
sweeps-way s p old rest d (reacted o u a q z) = rw z (rw q (sweeps-react p o u s.world a))
sweeps-way s p old rest d (called c q r n z) =
    let f : _ = none_refused s.world s.parties (top (stack s p)) c n in
    rw z (rw q (sweeps-begun _ p s.world (mine (top (stack s p))) c refl f.2))

-- every step

abbrev pub Swept : Machine → Type 0
Swept s = Sweeps (lists s.world) (sweep s.parties)

split-sweep : (ss : List (List Op)) (p : ℕ) (old rest : List Op) → p < length ss →
    get_or ss p [] ≡ rest ++ reverse old → sweep ss ≡ with_sweep old (sweep (set ss p rest))
split-sweep ss p old rest l e = λ i. record {
  outs = split ousting_of ss p old rest l e i;
  drops = split dropping_of ss p old rest l e i;
  wakes = split rousing_of ss p old rest l e i;
  shuts_urgent = split shutting_urgent_of ss p old rest l e i;
  shuts_plain = split shutting_plain_of ss p old rest l e i;
  drains_urgent = split draining_urgent_of ss p old rest l e i;
  drains_plain = split draining_plain_of ss p old rest l e i;
}

push-sweep : (ss : List (List Op)) (p : ℕ) (rest next : List Op) → p < length ss →
    sweep (set ss p (rest ++ reverse next)) ≡ with_sweep next (sweep (set ss p rest))
push-sweep ss p rest next l = λ i. record {
  outs = weigh_all-push ousting_of ss p rest next l i;
  drops = weigh_all-push dropping_of ss p rest next l i;
  wakes = weigh_all-push rousing_of ss p rest next l i;
  shuts_urgent = weigh_all-push shutting_urgent_of ss p rest next l i;
  shuts_plain = weigh_all-push shutting_plain_of ss p rest next l i;
  drains_urgent = weigh_all-push draining_urgent_of ss p rest next l i;
  drains_plain = weigh_all-push draining_plain_of ss p rest next l i;
}

swept-unsettled : (s : Machine) (p : ℕ) (old rest : List Op) (d : Done) → p < length s.parties →
    stack s p ≡ rest ++ reverse old → KeepsSweeps s.world old d → Swept s → Swept (unsettled s p rest d)
swept-unsettled s p old rest d l e k h = subst (Sweeps (lists d.world)) (sym (push-sweep s.parties p rest d.next l))
    (k _ (subst (Sweeps (lists s.world)) (split-sweep s.parties p old rest l e) h))

pub swept-moves : (s : Machine) (p : ℕ) (old rest : List Op) (d : Done) → Good s → p < length s.parties →
    stack s p ≡ rest ++ reverse old → Way s p old rest d → Swept s → Swept (unsettled s p rest d)
swept-moves s p old rest d good l e w h = swept-unsettled s p old rest d l e (sweeps-way s p old rest d w) h

pub swept-ends : (s : Machine) (p : ℕ) (a : Reply) (held : Hold) (below : List Op) → p < length s.parties →
    stack s p ≡ below ++ reverse (Op.End a held ∷ []) → Swept s →
    Swept (unsettled s p below (done (log s.world (Event.CallEnded p a)) []))
swept-ends s p a held below l e h =
    swept-unsettled s p (Op.End a held ∷ []) below (done (log s.world (Event.CallEnded p a)) []) l e (λ r k. k) h

abbrev no_sweep : Sweep
no_sweep = record {
  outs = 0;
  drops = 0;
  wakes = 0;
  shuts_urgent = 0;
  shuts_plain = 0;
  drains_urgent = 0;
  drains_plain = 0;
}

pub swept-start : (limit : ℕ) (kind : Kind) (n : ℕ) → Swept (start limit kind n)
swept-start limit kind n = subst (Sweeps (lists (start limit kind n).world)) (sym (λ i. record {
  outs = weigh_all-idle ousting_of n i;
  drops = weigh_all-idle dropping_of n i;
  wakes = weigh_all-idle rousing_of n i;
  shuts_urgent = weigh_all-idle shutting_urgent_of n i;
  shuts_plain = weigh_all-idle shutting_plain_of n i;
  drains_urgent = weigh_all-idle draining_urgent_of n i;
  drains_plain = weigh_all-idle draining_plain_of n i;
})) (let q : Sweeps (lists (start limit kind 0).world) no_sweep = grind arith in q)

pub swept : (limit : ℕ) (kind : Kind) (n : ℕ) (ts : List Step) → Swept (run ts (start limit kind n))
swept limit kind n ts = along Swept swept-moves swept-ends ts (start limit kind n) (good-start limit kind n) (swept-start limit kind n)
